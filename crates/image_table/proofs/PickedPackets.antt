-- The packets of a table's store are those of the records that it keeps.
use Rattle.std.proofs.Common.{◌≡◌, ℕ, zero, suc, List, [], ◌∷◌, map, get_or, Some, sym, ◌∙◌, ap}
use Rattle.std.specs.Prelude.{slice_get}
use Rattle.std.proofs.lemmas.Option.{none-some, same_Some}
use Rattle.pst_model.specs.Rules.{packet_at}
use Rattle.pst_model.specs.Table.{Store, Stored, Table}
use Rattle.record_view.specs.Records.{Meaning}
use Rattle.store_directory.specs.Directory.{Directory, Listed}
use Rattle.store_load.specs.Kept.{kept_of}
use Rattle.image_table.specs.Table.{store_of, store_with, stored_of, table_by, table_rule}
use Rattle.image_table.proofs.Frames.{kept_store, table_loads}
use Rattle.image_table.proofs.Placed.{each_at}

stored_there : (records : List Meaning) (position : ℕ) (meaning : Meaning) (default : Stored) → slice_get records position ≡ Some meaning
    → (get_or (map stored_of records) position default).octets ≡ meaning.packet
stored_there [] position meaning default there = absurd (none-some meaning there)
stored_there (x ∷ records) zero meaning default there = ap (λ (m : Meaning). m.packet) (same_Some x meaning there)
stored_there (x ∷ records) (suc position) meaning default there = stored_there records position meaning default there

pub packet_kept : (blocks : ℕ) (image : ℕ → List ℕ) (d : Directory) (table : Table) (at position : ℕ) (store : Store) (s : Listed) (records : List Meaning) (meaning : Meaning)
    → table_by blocks image d ≡ Some table → slice_get table.stores at ≡ Some store → slice_get d.stores at ≡ Some s
    → kept_of table_rule image d.now s.row s.links ≡ Some records → slice_get records position ≡ Some meaning
    → packet_at store position ≡ meaning.packet
packet_kept blocks image d table at position store s records meaning held there_store there kept record_there =
    let loads = table_loads blocks image d table held in
    let is = each_at (store_of image d.now) d.stores table.stores at s store loads.stores there there_store in
    let same : store_with s records ≡ store = same_Some (store_with s records) store (sym (kept_store image d.now s records kept) ∙ is) in
    ap (λ (x : Store). packet_at x position) (sym same) ∙ stored_there records position meaning (record { time = 0; octets = [] }) record_there
