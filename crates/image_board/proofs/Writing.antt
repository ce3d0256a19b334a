-- What a writer gained of octets, a part at a time.
use Rattle.std.proofs.Common.{◌≡◌, ℕ, List, ◌++◌, None, Some, ap, ◌∙◌, append_assoc, take, drop, length, take-append-drop}
use Rattle.std.proofs.lemmas.List.{take_rest}
use Rattle.std.specs.Prelude.{◌-◌, Option}
use Rattle.std.specs.Io.KnownBytes.{Appends}

-- The writer gained all octets but the rest.
pub record HasWritten (before after : Option (List ℕ)) (bytes rest : List ℕ) : Type 0 where
  pub front : List ℕ
  pub split : front ++ rest ≡ bytes
  pub gained : Appends before after front

gains_more : (a b c : Option (List ℕ)) (xs ys : List ℕ) → Appends a b xs → Appends b c ys → Appends a c (xs ++ ys)
gains_more None b c xs ys first second = tt
gains_more (Some x) None c xs ys first second = absurd first
gains_more (Some x) (Some y) None xs ys first second = absurd second
gains_more (Some x) (Some y) (Some z) xs ys first second =
    second ∙ ap (λ (l : List ℕ). l ++ ys) first ∙ append_assoc x xs ys

pub more_written : (a b c : Option (List ℕ)) (bytes rest : List ℕ) (n : ℕ) → HasWritten a b bytes rest
    → Appends b c (take n rest) → HasWritten a c bytes (take (length rest - n) (drop n rest))
more_written a b c bytes rest n so_far more = record {
  front = so_far.front ++ take n rest;
  split = ap (λ (l : List ℕ). (so_far.front ++ take n rest) ++ l) (take_rest rest n)
      ∙ append_assoc so_far.front (take n rest) (drop n rest)
      ∙ ap (λ (l : List ℕ). so_far.front ++ l) (take-append-drop n rest) ∙ so_far.split;
  gained = gains_more a b c so_far.front (take n rest) so_far.gained more;
}
