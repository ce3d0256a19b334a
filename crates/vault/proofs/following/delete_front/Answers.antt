use Rattle.std.proofs.Common.{◌≡◌, ℕ, Some, length, nat_eq, slice_set, sym, ◌∙◌, ap, arith}
use Rattle.std.specs.Prelude.{slice_get}
use Rattle.std.proofs.lemmas.Option.{slice_get-get_or}
use Rattle.request_laws.specs.Changing.{deleted_index, index_for}
use Rattle.store_directory.specs.Directory.{identifiers}
use Rattle.store_directory.proofs.Places.{first-position}
use Rattle.time_index.specs.TimeIndex.{TimeIndex, without_first}
use Rattle.vault.proofs.Found.{changed_at, changed_none, index_first}
use Rattle.vault.specs.Following.{last_for}
use Rattle.vault.proofs.following.delete_front.Goals as goal

pub returns-in_default-clause-indexes : goal.returns-in_default-clause-indexes
returns-in_default-clause-indexes c =
    sym (changed_none c.args.store (deleted_index c.args.t) c.args.directory.now.directory.stores c.args.indexes.now.items c.in_default.ensures.place)

pub returns-in_default-clause-lasts : goal.returns-in_default-clause-lasts
returns-in_default-clause-lasts c =
    let stores = c.args.directory.now.directory.stores in
    sym (changed_none c.args.store (last_for (length (deleted_index c.args.t (index_for c.args.store stores c.args.indexes.now.items)).entries)) stores c.args.lasts.now.items c.in_default.ensures.place)

pub returns-clause-indexes : goal.returns-clause-indexes
returns-clause-indexes c =
    let stores = c.args.directory.now.directory.stores in
    let items = c.args.indexes.now.items in
    let at = c.in-Some.at in
    let index = c.index_mut-index.result.now in
    let first = first-position (nat_eq c.args.store) (identifiers stores) at (sym c.in-Some.ensures.place) in
    let there : slice_get items at ≡ Some index =
    slice_get-get_or items at index (omega (arith, c.requires.indexes, c.in-Some.ensures.within)) ∙ ap Some (sym c.index_mut-index.ensures.value) in
    ap (slice_set items at) (c.drop_front.ensures ∙ ap (without_first index) c.first_after.ensures)
    ∙ sym (changed_at c.args.store (deleted_index c.args.t) stores items at index first there)

pub returns-clause-lasts : goal.returns-clause-lasts
returns-clause-lasts c =
    let stores = c.args.directory.now.directory.stores in
    let items = c.args.indexes.now.items in
    let lasts = c.args.lasts.now.items in
    let at = c.in-Some.at in
    let index = c.index_mut-index.result.now in
    let last = c.index.result.now in
    let first = first-position (nat_eq c.args.store) (identifiers stores) at (sym c.in-Some.ensures.place) in
    let there : slice_get items at ≡ Some index =
    slice_get-get_or items at index (omega (arith, c.requires.indexes, c.in-Some.ensures.within)) ∙ ap Some (sym c.index_mut-index.ensures.value) in
    let last_there : slice_get lasts at ≡ Some last =
    slice_get-get_or lasts at last (omega (arith, c.requires.lasts, c.in-Some.ensures.within)) ∙ ap Some (sym c.index.ensures) in
    let left : c.len-left.result ≡ length (deleted_index c.args.t (index_for c.args.store stores items)).entries =
    c.len-left.ensures.len ∙ ap (λ (x : TimeIndex). length x.entries) (c.drop_front.ensures ∙ ap (without_first index) c.first_after.ensures)
    ∙ ap (λ (x : TimeIndex). length (deleted_index c.args.t x).entries) (sym (index_first c.args.store stores items at index first there)) in
    ap (slice_set lasts at) (c.last_left.ensures ∙ ap (λ (n : ℕ). last_for n last) left)
    ∙ sym (changed_at c.args.store (last_for (length (deleted_index c.args.t (index_for c.args.store stores items)).entries)) stores lasts at last first last_there)
