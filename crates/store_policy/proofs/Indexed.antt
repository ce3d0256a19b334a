-- The packets of stores that memory shows are indexed.
use Rattle.std.proofs.Common.{List, [], ◌∷◌}
use Rattle.pst_model.specs.Table.{Store, Table}
use Rattle.store_directory.specs.Directory.{Listed}
use Rattle.store_policy.specs.Shown.{AreAllIndexed, AreShown, IsTableShown}
use Rattle.store_policy.specs.declared.view.View.{View}
use Rattle.time_index.specs.TimeIndex.{TimeIndex}

shown_indexed : (stores : List Store) (listed : List Listed) (indexes : List TimeIndex) → AreShown stores listed indexes → AreAllIndexed stores indexes
shown_indexed [] [] [] shown = tt
shown_indexed [] [] (index ∷ indexes) shown = absurd shown
shown_indexed [] (s ∷ listed) indexes shown = absurd shown
shown_indexed (store ∷ stores) [] indexes shown = absurd shown
shown_indexed (store ∷ stores) (s ∷ listed) [] shown = absurd shown
shown_indexed (store ∷ stores) (s ∷ listed) (index ∷ indexes) shown = (shown.0.shown.packets, shown_indexed stores listed indexes shown.1)

pub table_indexed : (table : Table) (view : View) → IsTableShown table view → AreAllIndexed table.stores view.indexes.now
table_indexed table view shown = shown_indexed table.stores view.directory.now.stores view.indexes.now shown.stores
