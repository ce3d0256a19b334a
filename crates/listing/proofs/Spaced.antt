-- Lines by their words.
use Rattle.std.proofs.Common.{◌≡◌, ◌<◌, ℕ, suc, ◌+◌, List, [], ◌∷◌, ◌++◌, length, map, take, drop, get_or, refl, sym, ◌∙◌, ap, subst, arith, append-nil, append_assoc, length-append}
use Rattle.std.proofs.Math.Seq.{take-append_seam, take-suc}
use Rattle.std.proofs.lemmas.List.{map-append}
use Rattle.listing.specs.Words.{HoldsLine, spaced, text_of}
use Rattle.listing.specs.declared.words.Word.{Word}
use Rattle.octet_fields.specs.Fields.{Writes}
use Rattle.octet_fields.proofs.Splices.{Writes-at_front, Writes-then, length-Writes}
use Rattle.pst_model.specs.Listing.{words_line}

pub spaced-append : (xs ys : List (List ℕ)) → spaced (xs ++ ys) ≡ spaced xs ++ spaced ys
spaced-append [] ys = refl
spaced-append (x ∷ xs) ys = ap (λ octets. 32 ∷ x ++ octets) (spaced-append xs ys) ∙ ap (λ octets. 32 ∷ octets) (sym (append_assoc x (spaced xs) (spaced ys)))

-- a line is its first word, the others behind spaces, and LF
pub line-spaced : (word : List ℕ) (words : List (List ℕ)) → words_line (word ∷ words) ≡ (word ++ spaced words) ++ 10 ∷ []
line-spaced word [] = ap (λ octets. octets ++ 10 ∷ []) (sym (append-nil word))
line-spaced word (next ∷ words) =
    ap (λ octets. word ++ 32 ∷ octets) (line-spaced next words)
    ∙ sym (append_assoc word (32 ∷ next ++ spaced words) (10 ∷ []))

-- a line that was written at the front of a buffer
pub held : (old new : List ℕ) (size : ℕ) (line : List ℕ) → Writes old new 0 line → size ≡ length line → HoldsLine old new size line
held old new size line writes long = record {
  front = ap (take size) (Writes-at_front writes) ∙ ap (λ n. take n (line ++ drop (length line) old)) long ∙ take-append_seam line (drop (length line) old);
  within = omega (arith, long, length-Writes writes, writes.room);
  same = length-Writes writes;
}

-- one write behind another, with the place behind both
pub and_then : {old mid new xs ys : List ℕ} {at a b : ℕ} → Writes old mid at xs → a ≡ at + length xs → Writes mid new a ys → b ≡ a + length ys
    → Writes old new at (xs ++ ys) × (b ≡ at + length (xs ++ ys))
and_then {xs = xs} {ys = ys} first one second two = (Writes-then first second one, omega (arith, one, two, length-append xs ys))

-- a first word, others behind it, and a line end
pub line_written : {old one two new text : List ℕ} {a b size : ℕ} (word : List ℕ) (words : List (List ℕ)) → text ≡ word
    → Writes old one 0 text → a ≡ 0 + length text → Writes one two a (spaced words) × (b ≡ a + length (spaced words))
    → Writes two new b (10 ∷ []) → size ≡ b + 1 → HoldsLine old new size (words_line (word ∷ words))
line_written {old} {one} {two} {new} {text} {a} {b} {size} word words is first at (second, behind) third end =
    let front = and_then first at second behind in
    let all = and_then {b = size} front.0 front.1 third (omega (arith, end)) in
    let line : (text ++ spaced words) ++ 10 ∷ [] ≡ words_line (word ∷ words) =
    ap (λ octets. (octets ++ spaced words) ++ 10 ∷ []) is ∙ sym (line-spaced word words) in
    held old new size (words_line (word ∷ words)) (subst (λ (octets : List ℕ). Writes old new 0 octets) line all.0)
    (omega (arith, all.1, ap length line))

-- one word more
pub spaced-more : (words : List Word) (at : ℕ) (d : Word) → at < length words
    → spaced (map text_of (take (at + 1) words)) ≡ spaced (map text_of (take at words)) ++ 32 ∷ text_of (get_or words at d)
spaced-more words at d within =
    let next : at + 1 ≡ suc at = omega arith in
    ap (λ n. spaced (map text_of (take n words))) next
    ∙ ap (λ l. spaced (map text_of l)) (take-suc words at d within)
    ∙ ap spaced (map-append text_of (take at words) (get_or words at d ∷ []))
    ∙ spaced-append (map text_of (take at words)) (text_of (get_or words at d) ∷ [])
    ∙ ap (λ octets. spaced (map text_of (take at words)) ++ 32 ∷ octets) (append-nil (text_of (get_or words at d)))
