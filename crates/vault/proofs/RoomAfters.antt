-- The room of a journal after one entry and another.
use Rattle.std.proofs.Common.{◌≡◌, ◌≤◌, ◌<◌, ◌-◌, ℕ, arith}
use Rattle.vault.specs.Changing.{RoomAfter}

pub room_same : (room : ℕ) → 21 ≤ room → RoomAfter 0 room room
room_same room enough = record {
  falls = λ is. omega arith;
  within = λ is. omega arith;
  switched = λ less. absurd (omega arith);
}

pub room_switched : (old new : ℕ) → old < 21 → 432 ≤ new → RoomAfter 0 old new
room_switched old new less enough = record {
  falls = λ is. absurd (omega arith);
  within = λ is. absurd (omega arith);
  switched = λ is. omega arith;
}

-- an entry, where there was room for it
pub room_less : (pages old new : ℕ) → 21 ≤ old → new ≡ old - pages → RoomAfter pages old new
room_less pages old new enough is = record {
  falls = λ more. omega arith;
  within = λ more. omega arith;
  switched = λ less. absurd (omega arith);
}

pub room_most : {pages most old new : ℕ} → RoomAfter pages old new → pages ≤ most → RoomAfter most old new
room_most room few = record {
  falls = room.falls;
  within = λ more. let within = room.within more in omega arith;
  switched = λ less. let switched = room.switched less in omega arith;
}

-- room was made, and an entry was added
pub room_then : {pages old mid new : ℕ} → RoomAfter 0 old mid → 21 ≤ mid → RoomAfter pages mid new → RoomAfter pages old new
room_then made enough added =
    let falls = added.falls enough in
    let within = added.within enough in
    record {
      falls = λ more. let first = made.falls more in omega arith;
      within = λ more. let first = made.within more in omega arith;
      switched = λ less. let first = made.switched less in omega arith;
    }
