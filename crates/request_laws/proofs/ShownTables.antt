-- The table that an image holds behind a request, and that memory shows on its way.
use Rattle.std.proofs.Common.{◌≡◌, ℕ, List, [], ◌∷◌, length, Some, sym, ◌∙◌, ap, subst}
use Rattle.board.specs.Flash.{IsContent}
use Rattle.control_defs.specs.declared.instructions.Instruction.{Instruction}
use Rattle.image_table.specs.Table.{store_of, table_by}
use Rattle.image_table.proofs.Frames.{loads_table, table_loads}
use Rattle.pst_model.specs.Answers.{Carried, carry_out}
use Rattle.pst_model.specs.Table.{Store, Table}
use Rattle.store_directory.specs.Changes.{Change}
use Rattle.store_directory.specs.Directory.{Directory, Listed}
use Rattle.store_directory.proofs.Lawful.{lawful-from_kept}
use Rattle.store_load.specs.Claims.{may_share}
use Rattle.store_load.specs.Each.{each}
use Rattle.store_policy.specs.Shown.{AreAllIndexed, AreShown, IsTableShown}
use Rattle.store_policy.specs.declared.view.View.{View}
use Rattle.time_index.specs.TimeIndex.{TimeIndex}
use Rattle.request_laws.specs.Carrying.{HasCarried, HasEnded, IsViewWith, carried_up_to}
use Rattle.request_laws.specs.Changing.{AreListedAs, IsTableOf}
use Rattle.request_laws.specs.Counting.{table_behind}
use Rattle.request_laws.proofs.Holding.{whole_is}
use Rattle.request_laws.proofs.Stepping.{all_of}

-- stores in memory, by what is listed of them and their indexes
stores_shown : (stores : List Store) (listed : List Listed) (indexes : List TimeIndex) → AreListedAs stores listed → AreAllIndexed stores indexes → AreShown stores listed indexes
stores_shown [] [] [] are packets = tt
stores_shown (store ∷ stores) (s ∷ listed) (index ∷ indexes) are packets = (
  record {
    shown = record {
      identifier = are.0.identifier;
      kind = are.0.kind;
      size = are.0.size;
      channel = are.0.channel;
      storage = are.0.storage;
      open_on = are.0.open_on;
      told = are.0.told;
      behind = are.0.behind;
      range = are.0.range;
      packets = packets.0;
    };
    patterns = are.0.patterns;
  },
  stores_shown stores listed indexes are.1 packets.1,
)
stores_shown [] [] (index ∷ indexes) are packets = absurd packets
stores_shown [] (s ∷ listed) indexes are packets = absurd are
stores_shown (store ∷ stores) [] indexes are packets = absurd are
stores_shown (store ∷ stores) (s ∷ listed) [] are packets = absurd packets

-- memory with the directory of a table, and with its indexes
shown_by : (table : Table) (d : Directory) (indexes : List TimeIndex) (view : View) → IsTableOf table d → AreAllIndexed table.stores indexes → IsViewWith d indexes view → IsTableShown table view
shown_by table d indexes view is packets viewed = record {
  now = is.now ∙ ap (λ (x : Directory). x.now) (sym viewed.directory);
  reports = is.reports ∙ ap (λ (x : Directory). x.reports) (sym viewed.directory);
  forward = is.forward ∙ ap (λ (x : Directory). x.forward) (sym viewed.directory);
  stores =
      subst (AreShown table.stores view.directory.now.stores) (sym viewed.indexes)
      (subst (λ (x : Directory). AreShown table.stores x.stores indexes) (sym viewed.directory)
      (stores_shown table.stores d.stores indexes is.stores packets));
}

module _ (blocks : ℕ) (d : Directory) (table : Table) (items : List Instruction) (at : ℕ) (changes : List Change) (next : Directory) (indexes : List TimeIndex)
    (walk : HasCarried blocks d table items at changes next indexes) where
  pub shown_so_far : (view : View) → IsViewWith next indexes view → IsTableShown (carried_up_to blocks items at table).table view
  shown_so_far view = shown_by (carried_up_to blocks items at table).table next indexes view walk.is_of walk.has.packets

  module _ (acks : ℕ) (all : at ≡ length items) (ended : HasEnded blocks d table acks items changes next) where
    whole : carried_up_to blocks items at table ≡ carry_out blocks items table
    whole = ap (λ (n : ℕ). carried_up_to blocks items n table) all ∙ all_of blocks items table

    pub shown_behind : (view : View) → IsViewWith ended.last indexes view → IsTableShown (table_behind blocks acks items table) view
    shown_behind view =
        shown_by (table_behind blocks acks items table) ended.last indexes view ended.is_of
        (subst (λ (c : Carried). AreAllIndexed c.table.stores indexes) whole walk.has.packets)

    pub held_behind : (image : ℕ → List ℕ) → IsContent blocks image → table_by blocks image d ≡ Some table → table_by blocks image ended.last ≡ Some (table_behind blocks acks items table)
    held_behind image pages held =
        let behind = table_behind blocks acks items table in
        let loads = table_loads blocks image next (carried_up_to blocks items at table).table (walk.held image pages held) in
        loads_table blocks image ended.last behind
        (record {
          lawful = lawful-from_kept ended.last ended.directory;
          share = ap (may_share 240 blocks) ended.stores ∙ loads.share;
          stores =
              (λ i. each (store_of image ((ended.now ∙ sym walk.now) i)) (ended.stores i))
              ∙ loads.stores ∙ ap (λ (c : Carried). Some c.table.stores) whole;
          whole = whole_is ended.last behind ended.is_of;
        })
