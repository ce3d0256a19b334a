-- What an answer says of a page, and how many pages were read for it.
use Rattle.std.specs.Prelude.{◌≡◌, ◌≤◌, ◌+◌, ◌-◌, ℕ, ⊤, false, min, Result, Ok, Err, nat_lt}
use Rattle.std.specs.Prelude.{if◌then◌else◌}
use Rattle.std.specs.Prelude.{length as length_of}
use Rattle.commit_gate.specs.declared.reading.Next.{Next}
use Rattle.commit_gate.specs.declared.reading.Next.TheVariants as answers
use Rattle.commit_gate.specs.Entries.{Damaged, End, Entry, EntryAt, is_lawful, payload_pages}

abbrev pub shown : Next → EntryAt
shown (answers.Entry text next) = Entry text.now next
shown answers.End = End
shown (answers.Damaged length) = Damaged length

-- An entry has 1 to 5,116 octets, and its pages end in the area. Damage is a length that is not
-- lawful.
abbrev pub IsInArea : ℕ → Next → Type 0
IsInArea at (answers.Entry text next) =
    (1 ≤ length_of text.now) × (length_of text.now ≤ 5116)
    × (next ≡ at + 1 + payload_pages (length_of text.now)) × (next ≤ 512)
IsInArea at answers.End = ⊤
IsInArea at (answers.Damaged length) = (at ≤ 510) × (is_lawful 5116 (at + 1) length ≡ false)

-- The pages that are read for an answer: an entry's with its gate, the gate alone, or the gate and
-- the page behind it. No page is read where none stands behind the gate.
abbrev pub read_for : ℕ → Next → ℕ
read_for at (answers.Entry text next) = next - at
read_for at answers.End = if nat_lt at 511 then 1 else 0
read_for at (answers.Damaged length) = 2

-- The pages that are read at most. Where a read failed they are those of the longest entry that the
-- area has room for.
abbrev pub read_most : {E : Type 0} → ℕ → Result Next E → ℕ
read_most at (Ok next) = read_for at next
read_most at (Err fault) = min 21 (512 - at)
