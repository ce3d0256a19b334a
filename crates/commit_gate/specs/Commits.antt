-- How an entry is written, and what a stop leaves of it.
use Rattle.std.specs.Prelude.{◌≡◌, ◌⊎◌, ℕ, ◌+◌, ◌-◌, ◌*◌, ◌<◌, ◌≤◌, Bool, false, List, [], ◌∷◌}
use Rattle.std.specs.Prelude.{◌++◌, length, map, slice_index, if◌then◌else◌, nat_lt}
use Rattle.std.specs.List.{range_with_len}
use Rattle.byteorder.specs.Endian.{big_bytes}
use Rattle.board.specs.Flash.{Flash, IsClean, IsContent, IsImage, firm, loosened, only_page}
use Rattle.board.specs.Flash.{pages_from, written}
use Rattle.commit_gate.specs.Entries.{HasEntries, area_of, open_page, payload_pages}

-- an octet of a payload: the length, the entry, and then zeros
abbrev pub payload_octet : List ℕ → ℕ → ℕ
payload_octet entry k =
    if nat_lt k 4 then slice_index (big_bytes 4 (length entry)) k else slice_index entry (k - 4)

-- a page of the payload
unfoldable pub payload_page : List ℕ → ℕ → List ℕ
payload_page entry i = map (λ k. payload_octet entry (256 * i + k)) (range_with_len 0 256)

-- the payload, in the pages from this one on
abbrev pub payload_at : ℕ → List ℕ → ℕ → List ℕ
payload_at first entry p = payload_page entry (p - first)

-- the pages of an entry, gate and payload
abbrev pub entry_pages : ℕ → ℕ → List ℕ → ℕ → Bool
entry_pages base at entry = pages_from (base + at) (1 + payload_pages (length entry))

-- the pages of a text, and the flash with it
abbrev pub text_pages : ℕ → ℕ → List ℕ → ℕ → Bool
text_pages base first text = pages_from (base + first) (payload_pages (length text))

abbrev pub with_text : ℕ → ℕ → List ℕ → Flash → Flash
with_text base first text flash =
    written (text_pages base first text) (payload_at (base + first) text) flash

-- the flash with an entry's payload, and with the entry
abbrev pub with_payload : ℕ → ℕ → List ℕ → Flash → Flash
with_payload base at entry flash = with_text base (at + 1) entry flash

abbrev pub with_entry : ℕ → ℕ → List ℕ → Flash → Flash
with_entry base at entry flash =
    let filled = firm (with_payload base at entry flash) in
    firm (written (only_page (base + at)) (λ _. open_page) filled)

-- the pages of the area from this one on are clean
abbrev pub IsCleanFrom : Flash → ℕ → ℕ → Type 0
IsCleanFrom flash base at = (q : ℕ) → at ≤ q → q < 512 → IsClean flash (base + q)

-- From this page on the area has these entries, and a stop leaves them and what ends them. What
-- stands in front of them is of no account.
pub record Stands (flash : Flash) (base start : ℕ) (entries : List (List ℕ)) (end : ℕ)
    : Type 0 where
  pub has : HasEntries (area_of base flash.content) start entries end
  pub firm_pages : (q : ℕ) → start ≤ q → q ≤ end → q < 512 → flash.loose (base + q) ≡ false

-- each page but the gate is as it will be, on a device of so many blocks
abbrev pub HasAllButGate : ℕ → Flash → ℕ → ℕ → List ℕ → (ℕ → List ℕ) → Type 0
HasAllButGate blocks flash base at entry image =
    let filled = firm (with_payload base at entry flash) in
    IsImage blocks (loosened (only_page (base + at)) filled) image

-- the entries are the old ones, and outside of the new one's pages the image is one of the flash
-- from before
pub record IsBefore (blocks : ℕ) (flash : Flash) (base start : ℕ) (entries : List (List ℕ))
    (at : ℕ) (entry : List ℕ) (image : ℕ → List ℕ) : Type 0 where
  pub has : HasEntries (area_of base image) start entries at
  pub elsewhere : IsImage blocks (loosened (entry_pages base at entry) flash) image

-- the new entry is there too, whole, and each other page is as it was written before
pub record IsAfter (blocks : ℕ) (flash : Flash) (base start : ℕ) (entries : List (List ℕ))
    (at : ℕ) (entry : List ℕ) (image : ℕ → List ℕ) : Type 0 where
  pub has : HasEntries (area_of base image) start (entries ++ entry ∷ [])
      (at + 1 + payload_pages (length entry))
  pub pages : IsContent blocks image
  pub elsewhere : (p : ℕ) → p < 256 * blocks → entry_pages base at entry p ≡ false
      → image p ≡ flash.content p

abbrev pub IsBeforeOrAfter : ℕ → Flash → ℕ → ℕ → List (List ℕ) → ℕ → List ℕ → (ℕ → List ℕ)
    → Type 0
IsBeforeOrAfter blocks flash base start entries at entry image =
    IsBefore blocks flash base start entries at entry image
    ⊎ IsAfter blocks flash base start entries at entry image
