-- What is kept of the stores, from what is kept of their slots.
use Rattle.std.proofs.Common.{ℕ, [], ◌∷◌, arith}
use Rattle.std.specs.List.{All}
use Rattle.std.proofs.lemmas.List.{length-map}
use Rattle.std.proofs.lemmas.List.Elements.{All-cons, All-head, All-nil, All-tail}
use Rattle.store_directory.specs.Directory.{AreListed, IsListed}
use Rattle.store_directory.specs.Slots.{AreSlots, IsEntry, listed_of, stores_of}
use Rattle.store_directory.specs.declared.slot.Slot.{Slot}
use Rattle.store_directory.proofs.Held.{Entries}

each-listed : (es : Entries) → All IsEntry es → All IsListed (stores_of es)
each-listed [] each = All-nil IsListed
each-listed (e ∷ es) each = All-cons IsListed (listed_of e.1) (stores_of es) (All-head IsEntry e es each).slot.listed (each-listed es (All-tail IsEntry e es each))

pub are-listed : (es : Entries) → AreSlots es → AreListed (stores_of es)
are-listed es slots = record {
  few = omega (arith, length-map es (λ (e : ℕ × Slot). listed_of e.1), slots.few);
  reserved = slots.reserved;
  distinct = slots.distinct;
  each = each-listed es slots.each;
}
