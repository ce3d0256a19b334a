-- What a line that is held says, by the room of its text.
use Rattle.std.proofs.Common.{◌≡◌, ℕ, ◌+◌, ◌-◌, ◌<◌, ◌≤◌, Bool, true, false, List, length, take, ap, sym, ◌∙◌, subst, arith, inl, inr, Err, length-take}
use Rattle.std.proofs.lemmas.Bool.{cases_lt, le-ltb, lt-ltb}
use Rattle.std.specs.Prelude.{◌⊎◌, if◌then◌else◌, min}
use Rattle.pst_model.specs.declared.faults.LineFault.TheVariants.{LongLine, TextLimit}
use Rattle.pst_model.specs.Forms.{reading_of}
use Rattle.pst_model.specs.Text.{Line, is_cut, line_reading}
use Rattle.pst_model.proofs.FaultyLines.{reading_cut, reading_long, reading_short}
use Rattle.session_text.specs.Reader.{Reader, reading_held}

abbrev line_held : (reader : Reader) (count : ℕ) (ended : Bool) → Line
line_held reader count ended = record { octets = take count reader.pending; ended = ended }

abbrev pub end_of : Bool → ℕ
end_of ended = if ended then 1 else 0

size_held : (reader : Reader) (count end : ℕ) → count + end ≤ length reader.pending → length (take count reader.pending) ≡ count
size_held reader count end within = omega (arith, length-take count reader.pending)

pub held_cut : (reader : Reader) (count : ℕ) (ended : Bool) → count + end_of ended ≤ length reader.pending → reader.place ≤ reader.limit
    → reader.limit - reader.place < count + end_of ended → reader.limit - reader.place < 131201 → reading_held reader count ended ≡ Err TextLimit
held_cut reader count ended within place size judged =
    reading_cut reader.limit reader.place (line_held reader count ended)
    (lt-ltb _ _ (sums (end_of ended) (length (take count reader.pending)) (size_held reader count (end_of ended) within) size))
  where
    sums : (end octets : ℕ) → octets ≡ count → reader.limit - reader.place < count + end → reader.limit < reader.place + min (octets + end) 131201
    sums end octets is past = omega arith

pub held_whole : (reader : Reader) (count : ℕ) (ended : Bool) → count + end_of ended ≤ length reader.pending → reader.place ≤ reader.limit
    → (reader.limit - reader.place < count + end_of ended → reader.limit - reader.place < 131201 → ⊥) → is_cut reader.limit reader.place (line_held reader count ended) ≡ false
held_whole reader count ended within place room =
    le-ltb _ _ (sums (end_of ended) (length (take count reader.pending)) (size_held reader count (end_of ended) within) room)
  where
    sums : (end octets : ℕ) → octets ≡ count → (reader.limit - reader.place < count + end → reader.limit - reader.place < 131201 → ⊥) → reader.place + min (octets + end) 131201 ≤ reader.limit
    sums end octets is fits = by (cases_lt (reader.limit - reader.place) (count + end)) (cases_lt (reader.limit - reader.place) 131201)
      where
        by : (reader.limit - reader.place < count + end) ⊎ (count + end ≤ reader.limit - reader.place) → (reader.limit - reader.place < 131201) ⊎ (131201 ≤ reader.limit - reader.place)
            → reader.place + min (octets + end) 131201 ≤ reader.limit
        by (inl less) (inl judged) = absurd (fits less judged)
        by (inl less) (inr wide) = omega arith
        by (inr wide) judged = omega arith

pub held_long : (reader : Reader) (count : ℕ) (ended : Bool) → count + end_of ended ≤ length reader.pending → is_cut reader.limit reader.place (line_held reader count ended) ≡ false → 131200 < count
    → reading_held reader count ended ≡ Err LongLine
held_long reader count ended within whole long =
    reading_long reader.limit reader.place (line_held reader count ended) whole (subst (λ (n : ℕ). 131200 < n) (sym (size_held reader count (end_of ended) within)) long)

pub held_short : (reader : Reader) (count : ℕ) (ended : Bool) → count + end_of ended ≤ length reader.pending → is_cut reader.limit reader.place (line_held reader count ended) ≡ false → count ≤ 131200
    → reading_held reader count ended ≡ reading_of (take count reader.pending)
held_short reader count ended within whole short =
    reading_short reader.limit reader.place (line_held reader count ended) whole (subst (λ (n : ℕ). n ≤ 131200) (sym (size_held reader count (end_of ended) within)) short)

-- behind such a line there is room for it
pub held_room : (limit place count size end : ℕ) → size ≡ count + end → end ≤ 1 → place ≤ limit → ((limit - place < size) × (131201 ≤ limit - place)) ⊎ (size ≤ limit - place) → count ≤ 131200 → place + size ≤ limit
held_room limit place count size end is one within (inl wide) short = let room = wide.1 in omega arith
held_room limit place count size end is one within (inr fits) short = omega arith

pub end_most : (ended : Bool) → end_of ended ≤ 1
end_most true = omega arith
end_most false = omega arith
