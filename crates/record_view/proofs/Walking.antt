-- One record after another.
use Rattle.std.proofs.Common.{◌≡◌, ℕ, zero, suc, ◌+◌, ◌-◌, ◌⊎◌, inl, inr, List, [], ◌∷◌, length, Some, None, refl, sym, ◌∙◌, ap, arith}
use Rattle.space_packet.specs.Charge.{charge_of}
use Rattle.record_view.specs.Records.{Meaning, number_after, record_at, records_from}
use Rattle.record_view.proofs.Spelling.{none_behind}

-- where no record is, none follow
pub records_end : (count : ℕ) (block : List ℕ) (number page : ℕ)
    → record_at block number page ≡ None → records_from count block number page ≡ []
unfolding records_from
records_end zero block number page none = refl
records_end (suc count) block number page none = rw none refl

none_asked : (block : List ℕ) (number page : ℕ) → records_from 0 block number page ≡ []
unfolding records_from
none_asked block number page = refl

-- none is left where none is asked for, or behind the last page
pub no_more : (count : ℕ) (block : List ℕ) (number page : ℕ) → (count ≡ 0) ⊎ (page ≡ 256)
    → records_from count block number page ≡ []
no_more count block number page (inl none) =
    ap (λ (n : ℕ). records_from n block number page) none ∙ none_asked block number page
no_more count block number page (inr behind) =
    records_end count block number page
    (ap (record_at block number) behind ∙ none_behind block number)

one_more : (count : ℕ) (block : List ℕ) (number page : ℕ) (meaning : Meaning)
    → record_at block number page ≡ Some meaning
    → records_from (suc count) block number page
    ≡ meaning ∷ records_from count block (number_after number)
    (page + charge_of (length meaning.packet))
unfolding records_from
one_more count block number page meaning is = rw is refl

-- a record, and those after it
pub records_step : (count : ℕ) (block : List ℕ) (number page pages : ℕ) (meaning : Meaning)
    → ¬ (count ≡ 0) → pages ≡ charge_of (length meaning.packet)
    → record_at block number page ≡ Some meaning
    → records_from count block number page
    ≡ meaning ∷ records_from (count - 1) block (number_after number) (page + pages)
records_step zero block number page pages meaning some pages_are is = absurd (some refl)
records_step (suc count) block number page pages meaning some pages_are is =
    let less : suc count - 1 ≡ count = omega arith in
    let after : ℕ → ℕ → List Meaning =
    λ n taken. meaning ∷ records_from n block (number_after number) (page + taken) in
    one_more count block number page meaning is
    ∙ ap (λ (n : ℕ). after n (charge_of (length meaning.packet))) (sym less)
    ∙ ap (after (suc count - 1)) (sym pages_are)
