use Rattle.std.proofs.Common.{◌≡◌, ◌≤◌, ◌+◌, List, ◌++◌, length, Option, Some, sym, ◌∙◌, ap, subst, arith}
use Rattle.std.proofs.lemmas.Result.{IfErr-weaker, on_ok_weaker}
use Rattle.std.specs.List.{sum_by}
use Rattle.std.specs.Prelude.{IfSome, slice_get}
use Rattle.listing.specs.Lists.{ToldTable}
use Rattle.listing.specs.Parts.{all_pages, lines_of, one_at, packets_at, pages_at, store_at, title_at, title_lines}
use Rattle.listing.proofs.Places.{lines-whole, pages-whole, store-whole, title-front}
use Rattle.listing.proofs.Runs.{breaks_on, breaks_within, lists_as, lists_on, same_text}
use Rattle.listing.proofs.ShownStores.{told_store}
use Rattle.listing.proofs.ShownWords.{count-shown}
use Rattle.listing.proofs.Told.{told_still}
use Rattle.pst_model.specs.Table.{Table}
use Rattle.time_index.specs.TimeIndex.{TimeIndex}
use Rattle.vault.proofs.Places.{some_at}
use Rattle.listing.proofs.stores.send_store.Given.{Over}
use Rattle.listing.proofs.stores.send_store.Goals as goal
use Rattle.listing.proofs.stores.send_store.Goals.{After-len-count}

pub returns-in-Err-clause-err : goal.returns-in-Err-clause-err
returns-in-Err-clause-err g c =
    let told = ToldTable g.B.Board.means c.args.vault.now c.args.board.now in
    breaks_within g.B.Board.means told told (λ table here. here) c.args.board.now c.send_title.new.board (title_at c.args.at) (store_at c.args.at)
    (λ table here. title-front c.args.at table) (omega arith) (omega arith) c.in-Err.ensures.err

-- the index that was found is that of the vault
index_is : (g : Over) (c : After-len-count g) → slice_get c.args.vault.now.indexes c.args.at ≡ Some c.index_at.result.now
index_is g c = ap (λ (l : List TimeIndex). slice_get l c.args.at) (sym c.view.ensures.view.indexes) ∙ c.index_at.ensures

-- all packets of the store in the table
whole : (g : Over) (c : After-len-count g) (table : Table) → ToldTable g.B.Board.means c.args.vault.now c.args.board.now table
    → title_at c.args.at table ++ packets_at c.args.at c.len-count.result table ≡ store_at c.args.at table
whole g c table (told, stands) =
    let view = c.view.result in
    let within = ap (λ d. length d.stores) c.view.ensures.view.directory in
    let (s, is) = some_at view.directory.now.stores c.args.at (omega (arith, within, c.requires.within)) in
    let (store, here, shown) = told_store view c.args.at s c.index_at.result.now c.view.ensures.view is c.index_at.ensures stands in
    store-whole c.args.at c.len-count.result table store here
    (count-shown store s.row c.index_at.result.now shown.shown ∙ sym c.len-count.ensures.len)

pages : (g : Over) (c : After-len-count g) → pages_at c.args.at c.len-count.result c.args.vault.now ≡ all_pages (one_at c.args.vault.now.indexes c.args.at)
pages g c = pages-whole c.args.at c.len-count.result c.args.vault.now c.index_at.result.now (index_is g c) c.len-count.ensures.len

lines : (g : Over) (c : After-len-count g) → sum_by title_lines (one_at c.args.vault.now.directory.stores c.args.at) + c.len-count.result
    ≡ lines_of (one_at c.args.vault.now.directory.stores c.args.at) (one_at c.args.vault.now.indexes c.args.at)
lines g c =
    lines-whole c.args.at c.len-count.result c.args.vault.now.directory.stores c.args.vault.now.indexes c.index_at.result.now (index_is g c)
    c.len-count.ensures.len

pub send_packets-requires-clause-within : goal.send_packets-requires-clause-within
send_packets-requires-clause-within g c =
    let after = (goal.at.send_packets-requires-clause-within g c).After-len-count in
    subst (λ (o : Option TimeIndex). IfSome o (λ index. c.len-count.result ≤ length index.entries)) (sym (index_is g after)) (omega (arith, c.len-count.ensures.len))

pub send_packets-requires-clause-at : goal.send_packets-requires-clause-at
send_packets-requires-clause-at g c = omega (arith, c.requires.within, c.view.ensures.sound.as_many)

pub returns-in-Ok-clause-ok : goal.returns-in-Ok-clause-ok
returns-in-Ok-clause-ok g c =
    let means = g.B.Board.means in
    let told = ToldTable means c.args.vault.now c.args.board.now in
    let after = (goal.at.returns-in-Ok-clause-ok g c).After-len-count in
    let title = c.in-Ok.ensures.ok in
    on_ok_weaker c.send_packets.result
    (λ lists.
    lists_as means told told (λ table here. here) c.args.board.now c.send_packets.new.board _ (store_at c.args.at)
    (whole g after) (omega (arith, pages g after)) (lines g after)
    (lists_on means told (ToldTable means c.args.vault.now c.send_title.new.board)
    (told_still means c.args.vault.now c.args.board.now c.send_title.new.board title.runs.same title.runs.stays)
    c.args.board.now c.send_title.new.board c.send_packets.new.board (title_at c.args.at) (packets_at c.args.at c.len-count.result) title lists))
    c.send_packets.ensures.ok

pub returns-in-Ok-clause-err : goal.returns-in-Ok-clause-err
returns-in-Ok-clause-err g c =
    let means = g.B.Board.means in
    let told = ToldTable means c.args.vault.now c.args.board.now in
    let after = (goal.at.returns-in-Ok-clause-err g c).After-len-count in
    let title = c.in-Ok.ensures.ok in
    IfErr-weaker c.send_packets.result _ _
    (λ fault breaks.
    breaks_within means told told (λ table here. here) c.args.board.now c.send_packets.new.board _ (store_at c.args.at)
    (λ table here. same_text _ _ (whole g after table here)) (omega (arith, pages g after)) (omega (arith, lines g after))
    (breaks_on means told (ToldTable means c.args.vault.now c.send_title.new.board)
    (told_still means c.args.vault.now c.args.board.now c.send_title.new.board title.runs.same title.runs.stays)
    c.args.board.now c.send_title.new.board c.send_packets.new.board (title_at c.args.at) (packets_at c.args.at c.len-count.result) title breaks))
    c.send_packets.ensures.err
