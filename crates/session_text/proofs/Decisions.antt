-- When what is pending tells what comes next.
use Rattle.std.proofs.Common.{◌≡◌, ◌≢◌, ℕ, suc, ◌+◌, ◌-◌, Bool, true, false, List, [], ◌∷◌, ◌++◌, length, take, drop, refl, sym, ap, ◌∙◌, subst, arith, inl, inr, Some, None, Ok, length-append}
use Rattle.std.proofs.lemmas.List.{append-nil}
use Rattle.std.specs.Prelude.{Contains, IsTrue, ◌⊎◌, get_or, if◌then◌else◌}
use Rattle.pst_model.specs.Forms.{Reading}
use Rattle.pst_model.specs.Text.{AreLines, Line, joined, line_reading, lines_in, size_of}
use Rattle.pst_model.proofs.Joined.{are_lines, joined_lines}
use Rattle.pst_model.proofs.Texts.{first_line}
use Rattle.session_text.specs.Find.{IsFound, is_past}
use Rattle.session_text.specs.Reader.{IsDecided, Reader, are_decided, moved_on, reading_held, tells_next}
use Rattle.session_text.proofs.Advances.{IsLine, behind_line, length-line, lines_of-line}

contains_middle : (front rest : List ℕ) → Contains (front ++ 10 ∷ rest) 10
contains_middle [] rest = (0, omega arith, refl)
contains_middle (octet ∷ front) rest = let found = contains_middle front rest in (found.0 + 1, omega (arith, found.1), at found.0 found.2)
  where
    at : (k : ℕ) → get_or (front ++ 10 ∷ rest) k 10 ≡ 10 → get_or (octet ∷ front ++ 10 ∷ rest) (k + 1) 10 ≡ 10
    at k is = let next : k + 1 ≡ suc k = omega arith in subst (λ (n : ℕ). get_or (octet ∷ front ++ 10 ∷ rest) n 10 ≡ 10) (sym next) is

found_by : (limit place : ℕ) (held : List ℕ) (lines : List Line) → lines_in held ≡ lines → IsTrue (are_decided limit place lines) → IsFound (limit - place) held
found_by limit place held [] is decided = absurd cc
found_by limit place held (line ∷ lines) is decided = by line.ended refl decided
  where
    by : (ended : Bool) → line.ended ≡ ended → IsTrue (if ended then tells_next (line_reading limit place line) (are_decided limit (place + size_of line) lines) else is_past (limit - place) (length line.octets)) → IsFound (limit - place) held
    by true ended told = let front = first_line held line lines is ended in inl (subst (λ (l : List ℕ). Contains l 10) (sym front.1) (contains_middle line.octets front.0))
    by false unended past = inr (subst (λ (l : List ℕ). is_past (limit - place) (length l) ≡ true) (alone (subst AreLines is (are_lines held)).1) past)
      where
        alone : (IsTrue line.ended ⊎ ((line.octets ≢ []) × (lines ≡ []))) → line.octets ≡ held
        alone (inl told) = let none : false ≡ true = sym unended ∙ told in absurd cc
        alone (inr last) =
            sym (append-nil line.octets) ∙ sym (append-nil (line.octets ++ []))
            ∙ sym (ap (λ (e : Bool). line.octets ++ (if e then 10 ∷ [] else []) ++ []) unended)
            ∙ sym (ap (λ (ls : List Line). joined (line ∷ ls)) last.1) ∙ sym (ap joined is) ∙ joined_lines held

-- what is decided is found
pub decided_found : (reader : Reader) → reader.closed ≡ false → IsDecided reader → IsFound (reader.limit - reader.place) reader.pending
decided_found reader opened (inl closed) = let no : false ≡ true = sym opened ∙ closed in absurd cc
decided_found reader opened (inr decided) = found_by reader.limit reader.place reader.pending (lines_in reader.pending) refl decided

-- behind a line that says nothing it is still decided
pub decided_on : (reader : Reader) (count : ℕ) → reader.closed ≡ false → IsLine reader.pending count → reading_held reader count true ≡ Ok None → IsDecided reader → IsDecided (moved_on reader (count + 1))
decided_on reader count opened line reading (inl closed) = let no : false ≡ true = sym opened ∙ closed in absurd cc
decided_on reader count opened line reading (inr decided) =
    let first : Line = record { octets = take count reader.pending; ended = true } in
    let lines : lines_in reader.pending ≡ first ∷ lines_in line.split.0 = ap lines_in (sym (append-nil reader.pending)) ∙ lines_of-line reader.pending [] count line ∙ ap (λ (l : List ℕ). first ∷ lines_in l) (append-nil line.split.0) in
    let size = (length-line reader.pending count line).0 in
    let next : IsTrue (are_decided reader.limit (reader.place + (length (take count reader.pending) + 1)) (lines_in line.split.0)) =
    subst (λ (r : Reading). IsTrue (tells_next r (are_decided reader.limit (reader.place + (length (take count reader.pending) + 1)) (lines_in line.split.0)))) reading
    (subst (λ (ls : List Line). IsTrue (are_decided reader.limit reader.place ls)) lines decided) in
    inr
    (subst (λ (l : List ℕ). IsTrue (are_decided reader.limit (reader.place + (count + 1)) (lines_in l))) (sym (behind_line reader.pending count line))
    (subst (λ (n : ℕ). IsTrue (are_decided reader.limit (reader.place + (n + 1)) (lines_in line.split.0))) size next))
