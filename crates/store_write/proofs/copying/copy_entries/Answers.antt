use Rattle.std.proofs.Common.{◌≡◌, ℕ, suc, ◌+◌, ◌-◌, ◌*◌, ◌%◌, ◌<◌, ◌≤◌, length, take, drop, Some}
use Rattle.std.proofs.Common.{refl, sym, ◌∙◌, ap, subst, arith}
use Rattle.board.specs.Device.{Device}
use Rattle.board.specs.Flash.{IsContent, pages_from, pages_of_block}
use Rattle.board.proofs.Works.{tells_too}
use Rattle.chain_log.specs.Copies.{Copies}
use Rattle.chain_log.specs.Loaded.{IsPlace}
use Rattle.chain_log.specs.Pages.{IsCleanFrom, block_octets}
use Rattle.chain_log.specs.Tails.{Filling}
use Rattle.record_view.specs.Records.{record_at}
use Rattle.space_packet.specs.Charge.{charge_of}
use Rattle.store_load.specs.Renewing.{renewed_part}
use Rattle.store_load.proofs.RenewedParts.{none_renewed}
use Rattle.time_index.specs.TimeIndex.{pages_of, with_entry_at}
use Rattle.time_index.specs.declared.entry.Entry.{Entry}
use Rattle.store_write.specs.Moved.{AreCopiedUpTo, IsElsewhere, IsInPlace, IsMismatchIn, IsSpelled, at_place, place_of}
use Rattle.store_write.proofs.Copied.{in_block, mismatch_in, one_copied, spelled_still}
use Rattle.store_write.proofs.Running.{of_copies, rewrites_most, rewrites_none, rewrites_on}
use Rattle.store_write.proofs.Steps.{at_place_of, fits_all, handed_on, is_next, one_renewed, passed_on, still_within, takes_more}
use Rattle.store_write.proofs.copying.copy_entries.Goals as goal

pub loop-position-init : goal.loop-position-init
loop-position-init g c =
    let means = g.B.Board.means in
    let old = c.args.board.now in
    let index = c.args.index.now in
    let tail = c.args.tail.now in
    let from = c.args.from in
    let none : from - from ≡ 0 = omega arith in
    let pages : tail.used ≡ pages_of (take (from - from) (drop from index.entries)) =
    c.requires.empty
    ∙ sym (ap (λ (k : ℕ). pages_of (take k (drop from index.entries))) none) in
    record {
      index_is = sym (ap (λ (k : ℕ). renewed_part from k tail.block index) none
          ∙ none_renewed from tail.block index);
      tail_is = λ i. record { block = tail.block; used = pages i };
      clean = λ told q low high. c.requires.clean told q (omega arith) high;
      copied = λ told j entry meaning lt there spelled.
          absurd {A = record_at (block_octets (means.flash old).content tail.block)
          ((index.first + from + j) % 4294967296) (pages_of (take j (drop from index.entries)))
          ≡ Some meaning} (omega (arith, lt));
      rewrites = rewrites_most means
          (rewrites_none means (pages_of_block tail.block) old
          (λ image told left. g.met.B.Board.images_now old image told left))
          (omega arith) (omega arith) (omega arith) (omega arith);
      no_fault = refl;
    }

pub entry-requires : goal.entry-requires
entry-requires g c =
    let low = c.loop-position.auto.position in
    let test = c.loop-position-test.true in
    let end = c.len-position-end.ensures.len in
    still_within c.args.from c.args.tail.now.block c.loop-position.position c.args.index.now
    c.loop-position.index (omega (arith, low)) (omega (arith, test, end))
    c.loop-position.invariant.index_is

-- the number of the record at a position
numbered : (first from position : ℕ) → from ≤ position
    → (first + from + (position - from)) % 4294967296 ≡ (first + position) % 4294967296
numbered first from position low = ap (λ (k : ℕ). k % 4294967296) (omega (arith, low))

pub copy_entry-requires-clause-place : goal.copy_entry-requires-clause-place
copy_entry-requires-clause-place g c =
    let means = g.B.Board.means in
    let so_far = c.loop-position.invariant in
    let index = c.args.index.now in
    let low = c.loop-position.auto.position in
    let test = c.loop-position-test.true in
    let end = c.len-position-end.ensures.len in
    subst (λ (d : Device). IsPlace d.blocks (place_of c.entry.result)) (sym so_far.rewrites.same)
    (at_place_of (IsInPlace (means.device c.args.board.now).blocks)
    (drop c.args.from index.entries) (c.loop-position.position - c.args.from) c.entry.result
    c.requires.places
    (is_next c.args.from c.args.tail.now.block c.loop-position.position index
    c.loop-position.index (omega (arith, low)) (omega (arith, test, end)) so_far.index_is
    c.entry.result c.entry.ensures))

pub copy_entry-requires-clause-fits : goal.copy_entry-requires-clause-fits
copy_entry-requires-clause-fits g c =
    let so_far = c.loop-position.invariant in
    let low = c.loop-position.auto.position in
    let test = c.loop-position-test.true in
    let end = c.len-position-end.ensures.len in
    let used = ap (λ (t : Filling). t.used) so_far.tail_is in
    let all = fits_all c.args.from c.args.tail.now.block c.loop-position.position
    c.args.index.now c.loop-position.index (omega (arith, low)) (omega (arith, test, end))
    so_far.index_is c.entry.result c.entry.ensures in
    let fits = c.requires.fits in
    omega (arith, used, all, fits)

pub returns-in_err-moved-clause-agrees : goal.returns-in_err-moved-clause-agrees
returns-in_err-moved-clause-agrees g c told spelled =
    let means = g.B.Board.means in
    let so_far = c.loop-position.invariant in
    let index = c.args.index.now in
    let from = c.args.from in
    let position = c.loop-position.position in
    let entry = c.entry.result in
    let low = c.loop-position.auto.position in
    let test = c.loop-position-test.true in
    let end = c.len-position-end.ensures.len in
    let next = is_next from c.args.tail.now.block position index c.loop-position.index
    (omega (arith, low)) (omega (arith, test, end)) so_far.index_is entry c.entry.ensures in
    let (meaning, was) = spelled (position - from) entry next in
    let apart = at_place_of (IsElsewhere c.args.tail.now.block) (drop from index.entries)
    (position - from) entry c.requires.apart next in
    let number = numbered index.first from position (omega (arith, low))
    ∙ ap (λ (k : ℕ). (k + position) % 4294967296) (sym c.first-first.ensures) in
    let mid = (means.flash c.loop-position.board).content in
    handed_on Entry c.from_residual.result c.in_err-moved.field-0.0 ⊥ c.from_residual.ensures.1
    (c.in_err-moved.ensures.agrees (tells_too so_far.rewrites.same told) meaning
    (subst (λ (k : ℕ). IsSpelled mid k entry meaning) number
    (spelled_still (means.flash c.args.board.now).content mid c.args.tail.now.block
    ((index.first + from + (position - from)) % 4294967296) entry meaning apart
    (so_far.rewrites.others told).content was)))

pub returns-in_err-moved-clause-mismatch : goal.returns-in_err-moved-clause-mismatch
returns-in_err-moved-clause-mismatch g c =
    let so_far = c.loop-position.invariant in
    let index = c.args.index.now in
    let from = c.args.from in
    let position = c.loop-position.position in
    let low = c.loop-position.auto.position in
    let test = c.loop-position-test.true in
    let end = c.len-position-end.ensures.len in
    let next = is_next from c.args.tail.now.block position index c.loop-position.index
    (omega (arith, low)) (omega (arith, test, end)) so_far.index_is c.entry.result
    c.entry.ensures in
    passed_on c.from_residual.result c.in_err-moved.field-0.0
    (IsMismatchIn (drop from index.entries)) c.from_residual.ensures.1
    (mismatch_in (drop from index.entries) (position - from) c.entry.result
    c.in_err-moved.field-0.0 next c.in_err-moved.ensures.mismatch)

pub returns-in_err-moved-clause-rewrites : goal.returns-in_err-moved-clause-rewrites
returns-in_err-moved-clause-rewrites g c =
    let means = g.B.Board.means in
    let so_far = c.loop-position.invariant in
    let tail = c.args.tail.now in
    let charge = charge_of c.entry.result.length in
    let low = c.loop-position.auto.position in
    let test = c.loop-position-test.true in
    let end = c.len-position-end.ensures.len in
    let all = fits_all c.args.from tail.block c.loop-position.position c.args.index.now
    c.loop-position.index (omega (arith, low)) (omega (arith, test, end)) so_far.index_is
    c.entry.result c.entry.ensures in
    let fits = c.requires.fits in
    let used = pages_of (take (c.loop-position.position - c.args.from)
    (drop c.args.from c.args.index.now.entries)) in
    rewrites_most means
    (rewrites_on means (pages_of_block tail.block) (pages_from (256 * tail.block + used) charge)
    c.args.board.now c.loop-position.board c.copy_entry.new.board
    (in_block tail.block used charge (omega (arith, all, fits))) so_far.rewrites
    (of_copies means
    (subst (λ (t : Filling). Copies means (pages_from (256 * t.block + t.used) charge) charge charge
    c.loop-position.board c.copy_entry.new.board) so_far.tail_is c.copy_entry.ensures.copies)))
    (omega (arith, all)) (omega (arith, all)) (omega arith) (omega arith)

pub replace-requires-clause-within : goal.replace-requires-clause-within
replace-requires-clause-within g c =
    let low = c.loop-position.auto.position in
    let test = c.loop-position-test.true in
    let end = c.len-position-end.ensures.len in
    still_within c.args.from c.args.tail.now.block c.loop-position.position c.args.index.now
    c.loop-position.index (omega (arith, low)) (omega (arith, test, end))
    c.loop-position.invariant.index_is

pub loop-position-preserved : goal.loop-position-preserved
loop-position-preserved g c =
    let means = g.B.Board.means in
    let so_far = c.loop-position.invariant in
    let index = c.args.index.now in
    let tail = c.args.tail.now in
    let from = c.args.from in
    let position = c.loop-position.position in
    let n = position - from in
    let entries = drop from index.entries in
    let entry = c.entry.result in
    let charge = charge_of entry.length in
    let old = c.args.board.now in
    let mid = c.loop-position.board in
    let new = c.copy_entry.new.board in
    let blocks = (means.device old).blocks in
    let ranged = c.loop-position.auto.position in
    let test = c.loop-position-test.true in
    let end = c.len-position-end.ensures.len in
    let low : from ≤ position = omega (arith, ranged) in
    let within : position < length index.entries = omega (arith, test, end) in
    let next = is_next from tail.block position index c.loop-position.index low within
    so_far.index_is entry c.entry.ensures in
    let more = takes_more from tail.block position index c.loop-position.index low within
    so_far.index_is entry c.entry.ensures in
    let all = fits_all from tail.block position index c.loop-position.index low within
    so_far.index_is entry c.entry.ensures in
    let fits = c.requires.fits in
    let used = pages_of (take n entries) in
    let copies = subst (λ (t : Filling). Copies means (pages_from (256 * t.block + t.used) charge)
    charge charge mid new) so_far.tail_is c.copy_entry.ensures.copies in
    let both_same = copies.same ∙ so_far.rewrites.same in
    let behind : c.copy_entry.new.tail
    ≡ record { block = tail.block; used = pages_of (take (position + 1 - from) entries) } =
    (λ i. record {
      block = (c.in_ok-moved.ensures.tail.block ∙ ap (λ (t : Filling). t.block) so_far.tail_is) i;
      used = (c.in_ok-moved.ensures.tail.used
          ∙ ap (λ (t : Filling). t.used + charge) so_far.tail_is ∙ sym more) i;
    }) in
    let number = numbered index.first from position low
    ∙ ap (λ (k : ℕ). (k + position) % 4294967296) (sym c.first-first.ensures) in
    record {
      index_is = c.replace.ensures
          ∙ ap (with_entry_at c.loop-position.index position)
          (c.in_ok-moved.ensures.entry
          ∙ (λ i. at_place (so_far.tail_is i).block (so_far.tail_is i).used entry))
          ∙ one_renewed from tail.block position index c.loop-position.index low within
          so_far.index_is entry c.entry.ensures;
      tail_is = behind;
      clean = λ told. subst (λ (t : Filling). IsCleanFrom (means.flash new) t.block t.used) behind
          (c.copy_entry.ensures.clean (tells_too so_far.rewrites.same told));
      copied = λ told.
          let told_mid = tells_too so_far.rewrites.same told in
          let told_new = tells_too both_same told in
          let one : suc n ≡ position + 1 - from = omega (arith, low) in
          let apart = at_place_of (IsElsewhere tail.block) entries n entry c.requires.apart next in
          subst (λ (k : ℕ). AreCopiedUpTo k (means.flash old).content (means.flash new).content
          tail.block (index.first + from) entries) one
          (one_copied blocks tail.block (index.first + from) n entries (means.flash old).content
          (means.flash mid).content (means.flash new).content entry next c.requires.block.1
          (subst (λ (d : Device). IsContent d.blocks (means.flash mid).content)
          so_far.rewrites.same (g.met.B.Board.content_pages mid told_mid))
          (subst (λ (d : Device). IsContent d.blocks (means.flash new).content)
          both_same (g.met.B.Board.content_pages new told_new))
          (copies.others told_mid).content (so_far.copied told)
          (λ meaning was.
          let spelled = c.in_ok-moved.ensures.copied told_mid meaning
          (subst (λ (k : ℕ). IsSpelled (means.flash mid).content k entry meaning) number
          (spelled_still (means.flash old).content (means.flash mid).content tail.block
          ((index.first + from + n) % 4294967296) entry meaning apart
          (so_far.rewrites.others told).content was)) in
          subst (λ (t : Filling). record_at (block_octets (means.flash new).content t.block)
          ((index.first + from + n) % 4294967296) t.used ≡ Some meaning) so_far.tail_is
          (subst (λ (k : ℕ). record_at (block_octets (means.flash new).content
          c.loop-position.tail.block) k c.loop-position.tail.used ≡ Some meaning) (sym number)
          spelled)));
      rewrites = rewrites_most means
          (rewrites_on means (pages_of_block tail.block)
          (pages_from (256 * tail.block + used) charge) old mid new
          (in_block tail.block used charge (omega (arith, all, fits))) so_far.rewrites
          (of_copies means copies))
          (omega (arith, more)) (omega (arith, more)) (omega arith) (omega arith);
      no_fault = c.in_ok-moved.ensures.no_fault ∙ so_far.no_fault;
    }
