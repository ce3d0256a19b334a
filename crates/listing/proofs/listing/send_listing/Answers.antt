use Rattle.std.proofs.Common.{◌≡◌, ◌+◌, List, ◌++◌, length, take, refl, sym, ◌∙◌, ap, subst, arith}
use Rattle.std.proofs.lemmas.List.{take_all}
use Rattle.std.proofs.lemmas.Result.{IfErr-weaker, on_ok_weaker}
use Rattle.std.specs.List.{flat_map}
use Rattle.board.specs.Flash.{Flash}
use Rattle.board.proofs.Works.{tells_too}
use Rattle.listing.specs.Faults.{is_open_after}
use Rattle.listing.specs.Lists.{ToldTable}
use Rattle.listing.specs.Parts.{all_pages, lines_in, lines_of, stores_to}
use Rattle.listing.proofs.Runs.{breaks_on, breaks_within, lists_as, lists_on, same_text}
use Rattle.listing.proofs.Told.{stands_on, stays_by, told_still}
use Rattle.pst_model.specs.Listing.{forward_line, listing_of, store_listing, table_line}
use Rattle.pst_model.specs.Table.{Store, Table}
use Rattle.store_directory.specs.Directory.{Listed}
use Rattle.store_policy.proofs.Blocks.{length-shown}
use Rattle.time_index.specs.TimeIndex.{TimeIndex}
use Rattle.vault.specs.Standing.{StandsFor}
use Rattle.listing.proofs.listing.send_listing.Given.{Over}
use Rattle.listing.proofs.listing.send_listing.Goals as goal
use Rattle.listing.proofs.listing.send_listing.Goals.{After-len-count}

pub returns-in-Err-clause-err : goal.returns-in-Err-clause-err
returns-in-Err-clause-err g c =
    let told = ToldTable g.B.Board.means c.args.vault.now c.args.board.now in
    breaks_within g.B.Board.means told told (λ table here. here) c.args.board.now c.send_head.new.board _ listing_of
    (λ table here. (flat_map store_listing table.stores, refl)) (omega arith) (omega arith) c.in-Err.ensures.err

pub returns-in-Err-clause-stands : goal.returns-in-Err-clause-stands
returns-in-Err-clause-stands g c told table stands =
    subst (λ (flash : Flash). StandsFor c.args.vault.now flash table) (sym (c.in-Err.ensures.err.runs.stays told).flash) stands

-- all stores of the table
whole : (g : Over) (c : After-len-count g) (table : Table) → ToldTable g.B.Board.means c.args.vault.now c.args.board.now table
    → (table_line table ++ flat_map forward_line table.forward) ++ stores_to c.len-count.result table ≡ listing_of table
whole g c table (told, stands) =
    let view = c.view.result in
    let shown = stands.shows view c.view.ensures.view in
    let long = length-shown table.stores view.directory.now.stores view.indexes.now shown.stores in
    ap (λ (stores : List Store). (table_line table ++ flat_map forward_line table.forward) ++ flat_map store_listing stores)
    (take_all c.len-count.result table.stores (omega (arith, long, c.len-count.ensures.len)))

-- the number of stores is that of the vault
count : (g : Over) (c : After-len-count g) → c.len-count.result ≡ length c.args.vault.now.directory.stores
count g c = c.len-count.ensures.len ∙ ap (λ d. length d.stores) c.view.ensures.view.directory

pages : (g : Over) (c : After-len-count g) → all_pages (take c.len-count.result c.args.vault.now.indexes) ≡ all_pages c.args.vault.now.indexes
pages g c = ap all_pages (take_all c.len-count.result c.args.vault.now.indexes (omega (arith, count g c, c.view.ensures.sound.as_many)))

lines : (g : Over) (c : After-len-count g) → 1 + length c.args.vault.now.directory.forward
    + lines_of (take c.len-count.result c.args.vault.now.directory.stores) (take c.len-count.result c.args.vault.now.indexes) ≡ lines_in c.args.vault.now
lines g c =
    let stores = c.args.vault.now.directory.stores in
    let indexes = c.args.vault.now.indexes in
    let forward = 1 + length c.args.vault.now.directory.forward in
    ap (λ (l : List Listed). forward + lines_of l (take c.len-count.result indexes)) (take_all c.len-count.result stores (omega (arith, count g c)))
    ∙ ap (λ (l : List TimeIndex). forward + lines_of stores l) (take_all c.len-count.result indexes (omega (arith, count g c, c.view.ensures.sound.as_many)))

pub returns-in-Ok-clause-ok : goal.returns-in-Ok-clause-ok
returns-in-Ok-clause-ok g c =
    let means = g.B.Board.means in
    let told = ToldTable means c.args.vault.now c.args.board.now in
    let after = (goal.at.returns-in-Ok-clause-ok g c).After-len-count in
    let head = c.in-Ok.ensures.ok in
    on_ok_weaker c.send_stores.result
    (λ lists.
    lists_as means told told (λ table here. here) c.args.board.now c.send_stores.new.board _ listing_of
    (whole g after) (omega (arith, pages g after)) (lines g after)
    (lists_on means told (ToldTable means c.args.vault.now c.send_head.new.board)
    (told_still means c.args.vault.now c.args.board.now c.send_head.new.board head.runs.same head.runs.stays)
    c.args.board.now c.send_head.new.board c.send_stores.new.board _ (stores_to c.len-count.result) head lists))
    c.send_stores.ensures.ok

pub returns-in-Ok-clause-err : goal.returns-in-Ok-clause-err
returns-in-Ok-clause-err g c =
    let means = g.B.Board.means in
    let told = ToldTable means c.args.vault.now c.args.board.now in
    let after = (goal.at.returns-in-Ok-clause-err g c).After-len-count in
    let head = c.in-Ok.ensures.ok in
    IfErr-weaker c.send_stores.result _ _
    (λ fault breaks.
    breaks_within means told told (λ table here. here) c.args.board.now c.send_stores.new.board _ listing_of
    (λ table here. same_text _ _ (whole g after table here)) (omega (arith, pages g after)) (omega (arith, lines g after))
    (breaks_on means told (ToldTable means c.args.vault.now c.send_head.new.board)
    (told_still means c.args.vault.now c.args.board.now c.send_head.new.board head.runs.same head.runs.stays)
    c.args.board.now c.send_head.new.board c.send_stores.new.board _ (stores_to c.len-count.result) head breaks))
    c.send_stores.ensures.err

pub returns-in-Ok-clause-stands : goal.returns-in-Ok-clause-stands
returns-in-Ok-clause-stands g c told table stands =
    let means = g.B.Board.means in
    let old = c.args.board.now in
    let mid = c.send_head.new.board in
    let new = c.send_stores.new.board in
    let head = c.in-Ok.ensures.ok in
    let rest = stays_by means _ _ _ _ c.send_stores.result mid new c.send_stores.ensures.ok c.send_stores.ensures.err (tells_too head.runs.same told) in
    stands_on c.fetches_keep_the_table.ensures c.args.vault.now c.send_stores.new.vault (is_open_after c.send_stores.result) (means.flash old) (means.flash new) table
    c.send_stores.ensures.after (rest.flash ∙ (head.runs.stays told).flash) stands
