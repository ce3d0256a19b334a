-- Stores behind a request: they keep their records.
use Rattle.std.proofs.Common.{◌≡◌, ℕ, List, [], ◌∷◌, All, arith}
use Rattle.std.proofs.lemmas.List.Elements.{All-cons, All-nil}
use Rattle.request_laws.specs.Changing.{AllKeepRecords, BeginsWell}
use Rattle.store_directory.specs.Directory.{Directory, Listed}
use Rattle.store_policy.specs.Shown.{AreAllTogether}
use Rattle.time_index.specs.TimeIndex.{TimeIndex}
use Rattle.vault.specs.Changing.{KeepRecords, MovesNone}
use Rattle.vault.specs.Memory.{EachStore, IsSoundStore}
use Rattle.vault.specs.declared.last_block.LastBlock.{LastBlock}

pub all_begin : (now : ℕ) (stores : List Listed) (indexes : List TimeIndex) (lasts : List LastBlock) → EachStore (IsSoundStore now) stores indexes lasts → All BeginsWell stores
all_begin now [] [] [] each = All-nil BeginsWell
all_begin now [] [] (l ∷ lasts) each = absurd each
all_begin now [] (i ∷ indexes) lasts each = absurd each
all_begin now (s ∷ stores) [] lasts each = absurd each
all_begin now (s ∷ stores) (i ∷ indexes) [] each = absurd each
all_begin now (s ∷ stores) (i ∷ indexes) (l ∷ lasts) each =
    All-cons BeginsWell s stores each.0.in_place.in_range.begins (all_begin now stores indexes lasts each.1)

pub all_together : (now : ℕ) (stores : List Listed) (indexes : List TimeIndex) (lasts : List LastBlock) → EachStore (IsSoundStore now) stores indexes lasts
    → AreAllTogether stores indexes
all_together now [] [] [] each = tt
all_together now [] [] (l ∷ lasts) each = absurd each
all_together now [] (i ∷ indexes) lasts each = absurd each
all_together now (s ∷ stores) [] lasts each = absurd each
all_together now (s ∷ stores) (i ∷ indexes) [] each = absurd each
all_together now (s ∷ stores) (i ∷ indexes) (l ∷ lasts) each = (each.0.together, all_together now stores indexes lasts each.1)

pub all_kept : (old new : List Listed) → AllKeepRecords old new → KeepRecords old new
all_kept [] [] keep = tt
all_kept [] (t ∷ new) keep = absurd keep
all_kept (s ∷ old) [] keep = absurd keep
all_kept (s ∷ old) (t ∷ new) keep = (
  record { links = keep.0.links; first = keep.0.first; count = keep.0.count; size = keep.0.size },
  all_kept old new keep.1,
)

pub moves_none : (d last : Directory) → last.now ≡ d.now → AllKeepRecords d.stores last.stores → MovesNone d last
moves_none d last now keep = record { later = omega (arith, now); stores = all_kept d.stores last.stores keep }
