-- What stands in an area, when its pages change.
use Rattle.std.proofs.Common.{◌≡◌, ◌≢◌, ◌⊎◌, inl, inr, ℕ, ◌+◌, ◌<◌, ◌≤◌, Bool, true, false, ◌&&◌}
use Rattle.std.proofs.Common.{nat_le, nat_lt, List, [], ◌∷◌, ◌++◌, get_or, refl, sym, ◌∙◌, ap}
use Rattle.std.proofs.Common.{subst, arith}
use Rattle.std.specs.Prelude.{⊤}
use Rattle.std.proofs.lemmas.Bool.{cases_eq}
use Rattle.std.proofs.lemmas.Bool.Decides.{nat_tests}
use Rattle.std.proofs.lemmas.Slice.Eq.{bytes_eq-Decides}
use Rattle.board.specs.Flash.{blank}
use Rattle.commit_gate.specs.Entries.{Damaged, End, Entry, EntryAt, HasEntries, behind_gate}
use Rattle.commit_gate.specs.Entries.{entry_at, is_lawful, is_open, length_in, octets_from}
use Rattle.commit_gate.specs.Entries.{open_page, payload_pages, text_at, text_by, text_of}
use Rattle.commit_gate.proofs.AreaPages.{octets_same}

-- the test for a gate
is_open_true : (page : List ℕ) → page ≡ open_page → is_open page ≡ true
is_open_true page e = (bytes_eq-Decides page open_page).1 e

is_open_false : (page : List ℕ) → page ≢ open_page → is_open page ≡ false
is_open_false page ne = decide (is_open page) (λ t. ne ((bytes_eq-Decides page open_page).0 t))
  where
    decide : (b : Bool) → (b ≡ true → ⊥) → b ≡ false
    decide true h = absurd (h refl)
    decide false h = refl

-- a gate that is open, and one that is shut, or has no room behind it
pub open_gate : (at : ℕ) (page : List ℕ) → at ≤ 510 → page ≡ open_page
    → (nat_lt at 511 && is_open page) ≡ true
open_gate at page low e = rw below (is_open_true page e)
  where
    below : nat_lt at 511 ≡ true
    below = grind (arith, nat_tests)

pub shut_gate : (at : ℕ) (page : List ℕ) → (at ≤ 510 → page ≢ open_page)
    → (nat_lt at 511 && is_open page) ≡ false
shut_gate at page shut = pick (nat_lt at 511) (λ t. shut (low t))
  where
    low : nat_lt at 511 ≡ true → at ≤ 510
    low t = grind (arith, nat_tests)

    pick : (b : Bool) → (b ≡ true → page ≢ open_page) → (b && is_open page) ≡ false
    pick true h = is_open_false page (h refl)
    pick false h = refl

pub at_shut : (area : ℕ → List ℕ) (at : ℕ) → (nat_lt at 511 && is_open (area at)) ≡ false
    → entry_at area at ≡ End
unfolding entry_at
at_shut area at shut = rw shut refl

pub ends_here : (area : ℕ → List ℕ) (at : ℕ) → (at ≤ 510 → area at ≢ open_page)
    → entry_at area at ≡ End
ends_here area at shut = at_shut area at (shut_gate at (area at) shut)

pub at_open : (area : ℕ → List ℕ) (at : ℕ) → (nat_lt at 511 && is_open (area at)) ≡ true
    → entry_at area at ≡ text_at 5116 area (at + 1)
unfolding entry_at
at_open area at opened = rw opened refl

-- what is known of a text that stands
pub record Stood (longest : ℕ) (area : ℕ → List ℕ) (first : ℕ) (text : List ℕ)
    (next : ℕ) : Type 0 where
  pub lawful : is_lawful longest first (length_in (area first)) ≡ true
  pub is_text : text_of area first (length_in (area first)) ≡ text
  pub is_next : first + payload_pages (length_in (area first)) ≡ next

by_lawful : (b : Bool) (len : ℕ) (shown : ⊤ → List ℕ) (end : ℕ) (text : List ℕ) (next : ℕ)
    → text_by b len shown end ≡ Entry text next → (b ≡ true) × (shown tt ≡ text) × (end ≡ next)
by_lawful false len shown end text next e = absurd (cc)
by_lawful true len shown end text next e = (refl, cc, cc)

pub text_stood : (longest : ℕ) (area : ℕ → List ℕ) (first : ℕ) (text : List ℕ) (next : ℕ)
    → text_at longest area first ≡ Entry text next → Stood longest area first text next
unfolding text_at
text_stood longest area first text next e =
    let len = length_in (area first) in
    let parts =
    by_lawful (is_lawful longest first len) len (λ _. text_of area first len)
    (first + payload_pages len) text next e in
    record { lawful = parts.0; is_text = parts.1; is_next = parts.2 }

pub stood_text : (longest : ℕ) (area : ℕ → List ℕ) (first : ℕ) (text : List ℕ) (next : ℕ)
    → Stood longest area first text next → text_at longest area first ≡ Entry text next
unfolding text_at
stood_text longest area first text next stood =
    rw stood.lawful (λ i. Entry (stood.is_text i) (stood.is_next i))

by_gate : (b : Bool) (payload : ⊤ → EntryAt) (text : List ℕ) (next : ℕ)
    → behind_gate b payload ≡ Entry text next → (b ≡ true) × (payload tt ≡ Entry text next)
by_gate false payload text next e = absurd (cc)
by_gate true payload text next e = (refl, e)

-- what is known of an entry that stands
pub entry_stood : (area : ℕ → List ℕ) (at : ℕ) (text : List ℕ) (next : ℕ)
    → entry_at area at ≡ Entry text next
    → ((nat_lt at 511 && is_open (area at)) ≡ true) × (text_at 5116 area (at + 1) ≡ Entry text next)
unfolding entry_at
entry_stood area at text next e = by_gate (nat_lt at 511 && is_open (area at))
    (λ _. text_at 5116 area (at + 1)) text next e

never_end : (longest : ℕ) (area : ℕ → List ℕ) (first : ℕ) → text_at longest area first ≢ End
unfolding text_at
never_end longest area first = pick (is_lawful longest first (length_in (area first)))
  where
    pick : (b : Bool) → text_by b (length_in (area first))
        (λ _. text_of area first (length_in (area first)))
        (first + payload_pages (length_in (area first))) ≢ End
    pick true e = cc
    pick false e = cc

-- where nothing stands, the gate is shut
pub end_stood : (area : ℕ → List ℕ) (at : ℕ) → entry_at area at ≡ End
    → (nat_lt at 511 && is_open (area at)) ≡ false
unfolding entry_at
end_stood area at e = pick (nat_lt at 511 && is_open (area at)) e
  where
    pick : (b : Bool) → behind_gate b (λ _. text_at 5116 area (at + 1)) ≡ End → b ≡ false
    pick true e = absurd (never_end 5116 area (at + 1) e)
    pick false e = refl

pub lawful_fits : (longest first len : ℕ) → is_lawful longest first len ≡ true
    → (1 ≤ len) × (len ≤ longest) × (first + payload_pages len ≤ 512)
lawful_fits longest first len e = tests (first + payload_pages len) e
  where
    tests : (end : ℕ) → (nat_le 1 len && nat_le len longest && nat_le end 512) ≡ true
        → (1 ≤ len) × (len ≤ longest) × (end ≤ 512)
    tests end e = (grind (arith, nat_tests), grind (arith, nat_tests), grind (arith, nat_tests))

-- the pages of an entry
pub entry_fits : (area : ℕ → List ℕ) (at : ℕ) (text : List ℕ) (next : ℕ)
    → entry_at area at ≡ Entry text next → (at + 2 ≤ next) × (next ≤ 512)
entry_fits area at text next e =
    let stood = text_stood 5116 area (at + 1) text next (entry_stood area at text next e).1 in
    let fits = lawful_fits 5116 (at + 1) (length_in (area (at + 1))) stood.lawful in
    (omega (arith, stood.is_next, fits.0), omega (arith, stood.is_next, fits.2))

text_same : (longest : ℕ) (area new : ℕ → List ℕ) (first : ℕ) (text : List ℕ) (next : ℕ)
    → Stood longest area first text next → new first ≡ area first
    → octets_from new first (payload_pages (length_in (area first))) ≡ octets_from area first
    (payload_pages (length_in (area first))) → text_at longest new first ≡ Entry text next
unfolding text_at
text_same longest area new first text next stood page octets =
    rw page (rw octets (rw stood.lawful (λ i. Entry (stood.is_text i) (stood.is_next i))))

-- the same entry, where its pages are the same
pub entry_same : (area new : ℕ → List ℕ) (at : ℕ) (text : List ℕ) (next : ℕ)
    → entry_at area at ≡ Entry text next
    → ((q : ℕ) → at ≤ q → q < next → new q ≡ area q) → entry_at new at ≡ Entry text next
entry_same area new at text next e same =
    let (opened, is) = entry_stood area at text next e in
    let stood = text_stood 5116 area (at + 1) text next is in
    let (low, high) = entry_fits area at text next e in
    let gate : (nat_lt at 511 && is_open (new at)) ≡ true =
    ap (λ (page : List ℕ). nat_lt at 511 && is_open page) (same at (omega arith) (omega arith))
    ∙ opened in
    let first : new (at + 1) ≡ area (at + 1) = same (at + 1) (omega arith) (omega arith) in
    let octets =
    octets_same area new (payload_pages (length_in (area (at + 1)))) (at + 1)
    (λ q from to. same q (omega arith) (omega (arith, stood.is_next))) in
    at_open new at gate ∙ text_same 5116 area new (at + 1) text next stood first octets

-- the end, where its page is the same
pub end_same : (area new : ℕ → List ℕ) (at : ℕ) → entry_at area at ≡ End → new at ≡ area at
    → entry_at new at ≡ End
end_same area new at e same =
    at_shut new at (ap (λ (page : List ℕ). nat_lt at 511 && is_open page) same
    ∙ end_stood area at e)

pub at_le : (area : ℕ → List ℕ) (at : ℕ) (entries : List (List ℕ)) (end : ℕ)
    → HasEntries area at entries end → at ≤ end
at_le area at [] end has = omega (arith, has.0)
at_le area at (entry ∷ entries) end has =
    let rest = at_le area has.0 entries end has.2 in
    let fits = entry_fits area at entry has.0 has.1 in
    omega (arith, fits.0, rest)

pub ends : (area : ℕ → List ℕ) (at : ℕ) (entries : List (List ℕ)) (end : ℕ)
    → HasEntries area at entries end → entry_at area end ≡ End
ends area at [] end has = has.1
ends area at (entry ∷ entries) end has = ends area has.0 entries end has.2

-- the same entries, where the pages up to the end are the same and nothing stands at the end
pub entries_kept : (area new : ℕ → List ℕ) (at : ℕ) (entries : List (List ℕ)) (end : ℕ)
    → HasEntries area at entries end → ((q : ℕ) → at ≤ q → q < end → new q ≡ area q)
    → entry_at new end ≡ End → HasEntries new at entries end
entries_kept area new at [] end has same shut = (has.0, shut)
entries_kept area new at (entry ∷ entries) end has same shut =
    let rest = at_le area has.0 entries end has.2 in
    let fits = entry_fits area at entry has.0 has.1 in (
      has.0,
      entry_same area new at entry has.0 has.1 (λ q from to. same q from (omega (arith, rest, to))),
      entries_kept area new has.0 entries end has.2
          (λ q from to. same q (omega (arith, fits.0, from)) to) shut,
    )

-- one entry more, where the pages up to the old end are the same
pub entries_pushed : (area new : ℕ → List ℕ) (at : ℕ) (entries : List (List ℕ)) (end : ℕ)
    (entry : List ℕ) (next : ℕ) → HasEntries area at entries end
    → ((q : ℕ) → at ≤ q → q < end → new q ≡ area q) → entry_at new end ≡ Entry entry next
    → entry_at new next ≡ End → HasEntries new at (entries ++ entry ∷ []) next
entries_pushed area new at [] end entry next has same here shut =
    subst (λ (x : ℕ). HasEntries new x (entry ∷ []) next) (sym has.0) (next, here, (refl, shut))
entries_pushed area new at (first ∷ entries) end entry next has same here shut =
    let rest = at_le area has.0 entries end has.2 in
    let fits = entry_fits area at first has.0 has.1 in (
      has.0,
      entry_same area new at first has.0 has.1 (λ q from to. same q from (omega (arith, rest, to))),
      entries_pushed area new has.0 entries end entry next has.2
          (λ q from to. same q (omega (arith, fits.0, from)) to) here shut,
    )

pub blank≢open : blank ≢ open_page
unfolding blank open_page
blank≢open same = let octet : 255 ≡ 90 = ap (λ (l : List ℕ). get_or l 0 0) same in
    omega (arith, octet)

pub cases_same : (xs ys : List ℕ) → (xs ≡ ys) ⊎ (xs ≢ ys)
cases_same [] [] = inl refl
cases_same [] (y ∷ ys) = inr (λ e. cc)
cases_same (x ∷ xs) [] = inr (λ e. cc)
cases_same (x ∷ xs) (y ∷ ys) = elim (cases_eq x y) [
  | inl same ↦ elim (cases_same xs ys) [
    | inl rest ↦ inl (λ i. same i ∷ rest i)
    | inr other ↦ inr (λ e. let rest : xs ≡ ys = cc in other rest)
  ]
  | inr other ↦ inr (λ e. let same : x ≡ y = cc in other same)
]

-- an open gate with a length that is not lawful
pub at_damage : (longest : ℕ) (area : ℕ → List ℕ) (first len : ℕ) → len ≡ length_in (area first)
    → is_lawful longest first len ≡ false → text_at longest area first ≡ Damaged len
unfolding text_at
at_damage longest area first len is fails = rw (← is) (rw fails refl)

-- the test for a gate, where there is a page behind it
pub gate_is : (at : ℕ) (page : List ℕ) (b : Bool) → at ≤ 510 → b ≡ is_open page
    → (nat_lt at 511 && is_open page) ≡ b
gate_is at page b low e = rw below (sym e)
  where
    below : nat_lt at 511 ≡ true
    below = grind (arith, nat_tests)
