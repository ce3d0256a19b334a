-- What a write at a place of a slice leaves, and several of them one after another.
use Rattle.std.proofs.Common.{◌≡◌, ℕ, ◌+◌, ◌-◌, ◌^◌, ◌<◌, ◌≤◌, List, [], ◌∷◌, ◌++◌, length, set, take, drop, refl, sym, ap, ◌∙◌, append_assoc, arith, length-append, length-take, length-drop}
use Rattle.std.proofs.lemmas.List.{take-append-drop, take-append-le, take_all, drop-drop, drop-take, take-set, drop-set}
use Rattle.std.proofs.Math.Seq.{drop-append-add, drop-append_seam}
use Rattle.std.specs.List.{splice}
use Rattle.byteorder.specs.Endian.{big_bytes, big_number}
use Rattle.byteorder.specs.Numbers.{big_number-reads_back}
use Rattle.octet_fields.specs.Fields.{Writes, field}
use borrow.Rule.Slice.PartMut.{put_mid, mid_of}

-- the end of a front and what follows it
drop-take-drop : (n k : ℕ) (xs : List ℕ) → n ≤ k → drop n (take k xs) ++ drop k xs ≡ drop n xs
drop-take-drop n k xs h =
    let split : k ≡ n + (k - n) = omega arith in
    let front : drop n (take k xs) ≡ take (k - n) (drop n xs) = ap (λ j. drop n (take j xs)) split ∙ drop-take n (k - n) xs in
    let back : drop k xs ≡ drop (k - n) (drop n xs) = ap (λ j. drop j xs) split ∙ sym (drop-drop (k - n) n xs) in
    rw (front, back) (take-append-drop (k - n) (drop n xs))

-- after a write of zs at the front of `s[a..]` or `s[a..a + k]`
pub put_mid-front : (a k n : ℕ) (xs zs part : List ℕ) → n ≤ k → part ≡ zs ++ drop n (mid_of a k xs) → put_mid a k xs part ≡ splice xs a (a + n) zs
put_mid-front a k n xs zs part h e =
    rw (e, append_assoc zs (drop n (take k (drop a xs))) (drop k (drop a xs)), drop-take-drop n k (drop a xs) h, drop-drop n a xs) refl

-- the length stays
pub length-splice : (xs : List ℕ) (a b : ℕ) (ys : List ℕ) → b ≤ length xs → a + length ys ≡ b → length (splice xs a b ys) ≡ length xs
length-splice xs a b ys h e =
    omega (arith, length-append (take a xs) (ys ++ drop b xs), length-append ys (drop b xs), length-take a xs, length-drop b xs)

-- two writes side by side are one
pub splice-splice : (xs : List ℕ) (a b c : ℕ) (ys zs : List ℕ) → c ≤ length xs → a + length ys ≡ b → b ≤ c → splice (splice xs a b ys) b c zs ≡ splice xs a c (ys ++ zs)
splice-splice xs a b c ys zs h e le =
    let len : length (take a xs ++ ys) ≡ b = omega (arith, length-append (take a xs) ys, length-take a xs) in
    let whole : splice xs a b ys ≡ (take a xs ++ ys) ++ drop b xs = sym (append_assoc (take a xs) ys (drop b xs)) in
    let front : take b (splice xs a b ys) ≡ take a xs ++ ys =
    ap (take b) whole ∙ take-append-le b (take a xs ++ ys) (drop b xs) (omega arith) ∙ take_all b (take a xs ++ ys) (omega arith) in
    let split : c ≡ length (take a xs ++ ys) + (c - b) = omega arith in
    let back : drop c (splice xs a b ys) ≡ drop c xs =
    ap (drop c) whole ∙ ap (λ j. drop j ((take a xs ++ ys) ++ drop b xs)) split
    ∙ drop-append-add (take a xs ++ ys) (drop b xs) (c - b) ∙ drop-drop (c - b) b xs ∙ ap (λ j. drop j xs) (omega arith) in
    rw (front, back, append_assoc (take a xs) ys (zs ++ drop c xs), append_assoc ys zs (drop c xs)) refl

-- a write at the front of `s[a..]`, as `BigEndian::write_u16(&mut s[a..], n)` makes it
pub Writes-front : (a n : ℕ) (xs zs part : List ℕ) → a + n ≤ length xs → length zs ≡ n
    → part ≡ zs ++ drop n (mid_of a (length xs - a) xs) → Writes xs (put_mid a (length xs - a) xs part) a zs
Writes-front a n xs zs part room len e = record {
  room = omega arith;
  after = put_mid-front a (length xs - a) n xs zs part (omega arith) e ∙ ap (λ j. splice xs a (a + j) zs) (sym len);
}

-- the length stays
pub length-Writes : {xs ws ys : List ℕ} {a : ℕ} → Writes xs ws a ys → length ws ≡ length xs
length-Writes {xs} {ws} {ys} {a} w = ap length w.after ∙ length-splice xs a (a + length ys) ys w.room refl

-- two writes side by side are one
pub Writes-then : {xs ws vs ys zs : List ℕ} {a b : ℕ} → Writes xs ws a ys → Writes ws vs b zs → b ≡ a + length ys → Writes xs vs a (ys ++ zs)
Writes-then {xs} {ws} {vs} {ys} {zs} {a} {b} first next side =
    let same = length-Writes first in
    let room = next.room in
    let total : b + length zs ≡ a + length (ys ++ zs) = omega (arith, length-append ys zs) in record {
      room = omega (arith, total, same);
      after =
          next.after ∙ ap (λ j. splice ws j (b + length zs) zs) side ∙ ap (λ j. splice ws (a + length ys) j zs) total
          ∙ ap (λ l. splice l (a + length ys) (a + length (ys ++ zs)) zs) first.after
          ∙ splice-splice xs a (a + length ys) (a + length (ys ++ zs)) ys zs (omega (arith, total, same)) refl (omega (arith, length-append ys zs));
    }

-- a write at the front, and the same as an equation
pub Writes-at_front : {old new ys : List ℕ} → Writes old new 0 ys → new ≡ ys ++ drop (length ys) old
Writes-at_front {old} {new} {ys} w = w.after ∙ ap (λ n. ys ++ drop n old) (omega arith)

pub Writes-from_front : (old new ys : List ℕ) → length ys ≤ length old → new ≡ ys ++ drop (length ys) old → Writes old new 0 ys
Writes-from_front old new ys room is = record {
  room = omega arith;
  after = is ∙ ap (λ n. ys ++ drop n old) (omega arith);
}

-- a write of one octet, as `s[a] = y` makes it
pub Writes-set : (xs : List ℕ) (a y : ℕ) → a < length xs → Writes xs (set xs a y) a (y ∷ [])
Writes-set xs a y h = record {
  room = omega arith;
  after =
      sym (take-append-drop a (set xs a y)) ∙ ap (λ l. l ++ drop a (set xs a y)) (take-set xs a y)
      ∙ ap (λ l. take a xs ++ l) (drop-set xs a y h);
}

-- what was written stands at its place
pub drop-Writes : {old new ys : List ℕ} {at : ℕ} → Writes old new at ys → drop at new ≡ ys ++ drop (at + length ys) old
drop-Writes {old} {new} {ys} {at} w =
    let room = w.room in
    let len : length (take at old) ≡ at = omega (arith, length-take at old) in
    ap (drop at) w.after ∙ ap (λ j. drop j (splice old at (at + length ys) ys)) (sym len)
    ∙ drop-append_seam (take at old) (ys ++ drop (at + length ys) old)

-- a number that was written is read back
pub field-Writes : (old new : List ℕ) (at n number : ℕ) → number < 256 ^ n → Writes old new at (big_bytes n number) → field n at new ≡ number
field-Writes old new at n number fits w =
    ap (big_number n) (drop-Writes w) ∙ big_number-reads_back n number (drop (at + length (big_bytes n number)) old) fits
