-- What a journal in memory keeps, and when that is so of a flash.
use Rattle.std.specs.Prelude.{◌≡◌, ℕ, ◌+◌, ◌-◌, ◌*◌, ◌<◌, ◌≤◌, Bool, true, false, List, [], ◌∷◌}
use Rattle.std.specs.Prelude.{Option, Some, if◌then◌else◌}
use Rattle.board.specs.Flash.{Flash, IsContent}
use Rattle.commit_gate.specs.Commits.{IsCleanFrom}
use Rattle.commit_gate.specs.Entries.{Entry, HasEntries, payload_pages, text_at}
use Rattle.root_vote.specs.declared.root.Root.{Root}
use Rattle.root_vote.specs.Roots.{AreVotes, are_all}
use Rattle.meta_journal.specs.Directories.{half_area}
use Rattle.meta_journal.specs.Halves.{half_base, half_of}
use Rattle.meta_journal.specs.Journals.{next_of}

-- The root that counts, the votes of the root pages, and how many pages at the end of the root's
-- half are known to be clean.
pub record Kept : Type 0 where
  pub root : Root
  pub votes : List (Option Root)
  pub room : ℕ

-- the page of the half at which the room begins
abbrev pub room_from : Kept → ℕ
room_from j = 512 - j.room

-- A half has a checkpoint and entries, and these end at a page.
pub record EndsAt (area : ℕ → List ℕ) (at : ℕ) : Type 0 where
  pub text : List ℕ
  pub start : ℕ
  pub checkpoint : text_at 20476 area 0 ≡ Entry text start
  pub entries : List (List ℕ)
  pub has : HasEntries area start entries at

-- What is kept is so of the flash.
pub record StandsFor (j : Kept) (flash : Flash) : Type 0 where
  pub votes : AreVotes j.votes flash.content
  -- where there is room, the votes agree, and the entries of the half end where it begins
  pub agree : 1 ≤ j.room → are_all j.votes j.root ≡ true
  pub ends : 1 ≤ j.room → EndsAt (half_area (half_of j.root) flash.content) (room_from j)
  pub clean : IsCleanFrom flash (half_base (half_of j.root)) (room_from j)

-- with an entry more of so many octets
abbrev pub with_less_room : (octets : ℕ) → Kept → Kept
with_less_room octets j = record j { room = j.room - (1 + payload_pages octets) }

-- after a switch from this root to a checkpoint of so many octets
abbrev pub switched : (octets : ℕ) → Root → Kept
switched octets root =
    let to = next_of root in
    record {
      root = to;
      votes = Some to ∷ Some to ∷ Some to ∷ [];
      room = 512 - payload_pages octets;
    }

-- each page but these is as it was written, also one that had been loose
pub record IsWritten (blocks : ℕ) (these : ℕ → Bool) (flash : Flash) (image : ℕ → List ℕ)
    : Type 0 where
  pub pages : IsContent blocks image
  pub elsewhere : (p : ℕ) → p < 256 * blocks → these p ≡ false → image p ≡ flash.content p

-- nothing is loose
abbrev pub AllFirm : Flash → Type 0
AllFirm flash = (p : ℕ) → flash.loose p ≡ false

-- the barriers in front of a switch: one, and two of each root page that is repaired
abbrev pub repair_barriers : List (Option Root) → Root → ℕ
repair_barriers votes root = if are_all votes root then 0 else 5
