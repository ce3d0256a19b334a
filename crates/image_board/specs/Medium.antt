-- What the medium of a device was asked to do.
use Rattle.std.specs.Prelude.{◌≡◌, ℕ, Bool, List, Option, Some, None, ⊤}
use Rattle.board.specs.Kinds.{one_more}

-- One call, and whether it went well. A read and a write are of 256 octets, and an erase writes 255 to 65,536.
pub data Call : Type 0 where
  Read : (offset : ℕ) → (ok : Bool) → Call
  Write : (offset : ℕ) → (octets : List ℕ) → (ok : Bool) → Call
  Erase : (offset : ℕ) → (ok : Bool) → Call
  Sync : (ok : Bool) → Call

-- How many calls there were, and the last of them.
pub record Log : Type 0 where
  pub count : ℕ
  pub last : Call

-- A known log has this one call more.
abbrev pub Logs : Option Log → Option Log → Call → Type 0
Logs None new call = ⊤
Logs (Some old) None call = ⊥
Logs (Some old) (Some new) call = (new.count ≡ one_more old.count) × (new.last ≡ call)
