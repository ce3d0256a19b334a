-- Rows of one size that are written one behind another, behind some octets in front of them.
use Rattle.std.proofs.Common.{◌≡◌, ℕ, ◌+◌, ◌*◌, ◌<◌, ◌≤◌, List, [], ◌∷◌, ◌++◌, length, get_or, take, drop, sym, ap, subst, ◌∙◌, append_assoc, arith, length-append}
use Rattle.std.proofs.lemmas.Grind.{flat_map-append}
use Rattle.std.proofs.lemmas.List.{append-nil, length-take-le, take-append-drop, take_all, take_more}
use Rattle.std.specs.List.{flat_map}
use Rattle.octet_fields.specs.Fields.{Writes}
use Rattle.octet_fields.proofs.Splices.{Writes-then}

-- The first rows are written behind the front, and the next one's place is behind them.
pub record Listed {X : Type 0} (front : List ℕ) (octets : X → List ℕ) (size : ℕ) (rows : List X) (old new : List ℕ)
    (at place done : ℕ) : Type 0 where
  pub behind : place ≡ at + length front + size * done
  pub written : Writes old new at (front ++ flat_map octets (take done rows))

-- one more row
pub flat_map-more : {X Y : Type 0} (octets : X → List Y) (rows : List X) (i : ℕ) (d : X) → i < length rows
    → flat_map octets (take i rows) ++ octets (get_or rows i d) ≡ flat_map octets (take (i + 1) rows)
flat_map-more {X} {Y} octets rows i d h =
    let row = get_or rows i d in
    ap (λ (ys : List Y). flat_map octets (take i rows) ++ ys) (sym (append-nil (octets row)))
    ∙ sym (flat_map-append octets (take i rows) (row ∷ []))
    ∙ ap (flat_map octets) (sym (take_more rows i d h))

-- nothing is written at a place
pub Writes-nothing : (xs : List ℕ) (at : ℕ) → at ≤ length xs → Writes xs xs at []
Writes-nothing xs at h = record {
  room = omega arith;
  after = sym (ap (λ (n : ℕ). take at xs ++ drop n xs) (omega arith) ∙ take-append-drop at xs);
}

module _ {X : Type 0} (octets : X → List ℕ) (size : ℕ) where
  -- no row is written where there is no front
  pub Listed-none : (rows : List X) (old : List ℕ) (at : ℕ) → at ≤ length old → Listed [] octets size rows old old at at 0
  Listed-none rows old at h = record { behind = omega arith; written = Writes-nothing old at h }

  -- all are written
  pub Listed-all : {front : List ℕ} {rows : List X} {old new : List ℕ} {at place done : ℕ} → length rows ≤ done
      → Listed front octets size rows old new at place done → Writes old new at (front ++ flat_map octets rows)
  Listed-all {front} {rows} {old} {new} {at} {place} {done} all listed =
      subst (λ (l : List X). Writes old new at (front ++ flat_map octets l)) (take_all done rows all) listed.written

module _ {X : Type 0} (octets : X → List ℕ) (size : ℕ) (each : (row : X) → length (octets row) ≡ size) where
  -- how long they are in all
  pub length-rows : (rows : List X) → length (flat_map octets rows) ≡ size * length rows
  length-rows [] = omega arith
  length-rows (row ∷ rows) = omega (arith, length-append (octets row) (flat_map octets rows), each row, length-rows rows)

  -- one more row is written at its place
  pub Listed-more : {front : List ℕ} (rows : List X) (d : X) {old mid new : List ℕ} {at place next done : ℕ} → done < length rows
      → Listed front octets size rows old mid at place done → Writes mid new place (octets (get_or rows done d))
      → next ≡ place + size
      → Listed front octets size rows old new at next (done + 1)
  Listed-more {front} rows d {old} {mid} {new} {at} {place} {next} {done} here before row moved =
      let behind = before.behind in
      let written = flat_map octets (take done rows) in
      let long : length written ≡ size * done =
      length-rows (take done rows) ∙ ap (λ (n : ℕ). size * n) (length-take-le done rows (omega arith)) in record {
        behind = omega arith;
        written =
            subst (λ (ys : List ℕ). Writes old new at ys)
            (append_assoc front written (octets (get_or rows done d))
            ∙ ap (λ (ys : List ℕ). front ++ ys) (flat_map-more octets rows done d here))
            (Writes-then before.written row (omega (arith, length-append front written, long)));
      }
