use Rattle.std.proofs.Common.{◌<◌, ◌≤◌, ◌+◌, ℕ, true, List, length, Option, refl, sym, ◌∙◌, ap, subst, arith}
use Rattle.std.specs.Option.{IsSomeAnd}
use Rattle.std.specs.Prelude.{slice_get}
use Rattle.board.specs.Moments.{IsPrefixOf}
use Rattle.listing.specs.Lists.{ToldTable}
use Rattle.listing.specs.Parts.{packet_at, packets_at}
use Rattle.listing.proofs.Places.{packets-front, packets-more, packets-none, pages-fewer, pages-more}
use Rattle.listing.proofs.Runs.{breaks_on, breaks_within, lists_as, lists_none, lists_on}
use Rattle.listing.proofs.Told.{others_none, others_on, told_on}
use Rattle.time_index.specs.TimeIndex.{TimeIndex}
use Rattle.vault.proofs.Places.{of_some, some_at}
use Rattle.vault.specs.Fetching.{charge_at}
use Rattle.vault.specs.Memory.{InMemory}
use Rattle.listing.proofs.stores.send_packets.Goals as goal

pub loop-position-init : goal.loop-position-init
loop-position-init g c =
    let means = g.B.Board.means in
    let old = c.args.board.now in
    let told = ToldTable means c.args.vault.now old in
    record {
      lists =
          lists_as means told told (λ table here. here) old old _ (packets_at c.args.at 0) (λ table here. sym (packets-none c.args.at table)) (omega arith) refl
          (lists_none means told old (λ image told left. g.met.B.Board.images_now old image told left));
      others = others_none c.args.vault.now c.requires.is_open;
      same = refl;
    }

pub send_packet-requires-clause-within : goal.send_packet-requires-clause-within
send_packet-requires-clause-within g c =
    let indexes = c.args.vault.now.indexes in
    let position = c.loop-position.position in
    let (index, is) = some_at indexes c.args.at c.requires.at in
    let count = of_some (λ (index : TimeIndex). c.args.count ≤ length index.entries) (slice_get indexes c.args.at) index c.requires.within is in
    let here : IsSomeAnd (slice_get indexes c.args.at) (λ index. position < length index.entries) =
    subst (λ (o : Option TimeIndex). IsSomeAnd o (λ index. position < length index.entries)) (sym is) (omega (arith, count, c.loop-position-test.true)) in
    subst (λ (l : List TimeIndex). IsSomeAnd (slice_get l c.args.at) (λ index. position < length index.entries))
    (sym (ap (λ (v : InMemory). v.indexes) c.loop-position.invariant.others)) here

pub returns-in-Err-clause-err : goal.returns-in-Err-clause-err
returns-in-Err-clause-err g c =
    let means = g.B.Board.means in
    let old = c.args.board.now in
    let mid = c.loop-position.board in
    let new = c.send_packet.new.board in
    let vault = c.args.vault.now in
    let told = ToldTable means vault old in
    let so_far = c.loop-position.invariant in
    let at = c.args.at in
    let position = c.loop-position.position in
    let count = c.args.count in
    let pages = pages-more at position vault in
    let fewer = pages-fewer at (position + 1) count vault (omega arith) in
    let charge = ap (λ (v : InMemory). charge_at v at position) so_far.others in
    breaks_within means told told (λ table here. here) old new _ (packets_at at count)
    (λ table here. subst (λ (l : List ℕ). IsPrefixOf l (packets_at at count table)) (packets-more at position table)
    (packets-front at (position + 1) count table (omega arith)))
    (omega (arith, pages, fewer, charge)) (omega arith)
    (breaks_on means told (ToldTable means c.loop-position.vault mid)
    (told_on means c.fetches_keep_the_table.ensures vault c.loop-position.vault true old mid so_far.others so_far.lists.runs.same so_far.lists.runs.stays)
    old mid new (packets_at at position) (packet_at at position) so_far.lists c.in-Err.ensures.err)

pub loop-position-preserved : goal.loop-position-preserved
loop-position-preserved g c =
    let means = g.B.Board.means in
    let old = c.args.board.now in
    let mid = c.loop-position.board in
    let new = c.send_packet.new.board in
    let vault = c.args.vault.now in
    let told = ToldTable means vault old in
    let so_far = c.loop-position.invariant in
    let at = c.args.at in
    let position = c.loop-position.position in
    let pages = pages-more at position vault in
    let charge = ap (λ (v : InMemory). charge_at v at position) so_far.others in
    record {
      lists =
          lists_as means told told (λ table here. here) old new _ (packets_at at (position + 1)) (λ table here. sym (packets-more at position table))
          (omega (arith, pages, charge)) refl
          (lists_on means told (ToldTable means c.loop-position.vault mid)
          (told_on means c.fetches_keep_the_table.ensures vault c.loop-position.vault true old mid so_far.others so_far.lists.runs.same so_far.lists.runs.stays)
          old mid new (packets_at at position) (packet_at at position) so_far.lists c.in-Ok.ensures.ok);
      others = others_on vault c.loop-position.vault c.send_packet.new.vault true true so_far.others c.in-Ok.ensures.after;
      same = c.in-Ok.ensures.same ∙ so_far.same;
    }
