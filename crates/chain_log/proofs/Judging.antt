-- What was kept of a record, judged by what is found.
use Rattle.std.proofs.Common.{◌≡◌, ◌≢◌, ℕ, ◌==◌, not, Bool, List, [], ◌∷◌}
use Rattle.std.proofs.Common.{Result, Ok, Err, IfOk, IfErr, refl, sym, ◌∙◌, ap, subst}
use Rattle.std.proofs.lemmas.Bool.{eq-eqb, ne_eqb}
use Rattle.std.specs.Prelude.{filter}
use Rattle.std.specs.Result.{IsErrAnd}
use Rattle.octet_fields.specs.Fields.{field}
use Rattle.space_packet.specs.Packet.{said_length, version_of}
use Rattle.record_view.specs.Records.{Meaning}
use Rattle.record_view.specs.View.{meaning_of}
use Rattle.record_view.specs.declared.view.RecordView.{RecordView}
use Rattle.chain_log.specs.declared.place.LoadFault.{LoadFault}
use Rattle.chain_log.specs.declared.place.LoadFault.TheVariants.{Flash, Mismatch}
use Rattle.chain_log.specs.Loaded.{Gives, IsFirstDifference, IsFound, differences, packet_in}

-- whether a pair differs
abbrev unlike : ℕ × ℕ → Bool
unlike pair = not (pair.0 == pair.1)

-- a pair that is alike, and one that is not
skip : (kept found : ℕ) (rest : List (ℕ × ℕ)) → kept ≡ found
    → filter unlike ((kept, found) ∷ rest) ≡ filter unlike rest
skip kept found rest same = rw (eq-eqb kept found same) refl

stop : (kept found : ℕ) (rest : List (ℕ × ℕ)) → kept ≢ found
    → filter unlike ((kept, found) ∷ rest) ≡ (kept, found) ∷ filter unlike rest
stop kept found rest other = rw (ne_eqb kept found other) refl

module _ (number long : ℕ) (octets : List ℕ) where
  abbrev packet : List ℕ
  packet = packet_in octets long

  abbrev version : ℕ × ℕ
  version = (0, version_of packet)

  abbrev own : ℕ × ℕ
  own = (long, said_length packet)

  abbrev FirstIs : ℕ → ℕ → Type 0
  FirstIs kept found =
      (rest : List (ℕ × ℕ)) × (differences number long octets ≡ (kept, found) ∷ rest)

  pub number_first : number ≢ field 4 6 octets → FirstIs number (field 4 6 octets)
  number_first other = (
    filter unlike ((long, field 2 10 octets) ∷ version ∷ own ∷ []),
    stop number (field 4 6 octets) ((long, field 2 10 octets) ∷ version ∷ own ∷ []) other,
  )

  module _ (same_number : number ≡ field 4 6 octets) where
    behind_number : differences number long octets
        ≡ filter unlike ((long, field 2 10 octets) ∷ version ∷ own ∷ [])
    behind_number =
        skip number (field 4 6 octets) ((long, field 2 10 octets) ∷ version ∷ own ∷ []) same_number

    pub length_first : long ≢ field 2 10 octets → FirstIs long (field 2 10 octets)
    length_first other = (
      filter unlike (version ∷ own ∷ []),
      behind_number ∙ stop long (field 2 10 octets) (version ∷ own ∷ []) other,
    )

    module _ (same_length : long ≡ field 2 10 octets) where
      behind_length : differences number long octets ≡ filter unlike (version ∷ own ∷ [])
      behind_length =
          behind_number ∙ skip long (field 2 10 octets) (version ∷ own ∷ []) same_length

      pub version_first : 0 ≢ version_of packet → FirstIs 0 (version_of packet)
      version_first other = (
        filter unlike (own ∷ []),
        behind_length ∙ stop 0 (version_of packet) (own ∷ []) other,
      )

      module _ (same_version : 0 ≡ version_of packet) where
        behind_version : differences number long octets ≡ filter unlike (own ∷ [])
        behind_version = behind_length ∙ skip 0 (version_of packet) (own ∷ []) same_version

        pub own_first : long ≢ said_length packet → FirstIs long (said_length packet)
        own_first other = ([], behind_version ∙ stop long (said_length packet) [] other)

        pub none_first : long ≡ said_length packet → differences number long octets ≡ []
        none_first same = behind_version ∙ skip long (said_length packet) [] same

-- the error of a call that is handed on
pub passed_on : {A E : Type 0} (answer : Result A E) (fault : E) (P : E → Type 0)
    → IsErrAnd answer (λ e. e ≡ fault) → P fault → IfErr answer P
passed_on (Ok value) fault P is holds = tt
passed_on (Err e) fault P is holds = subst P (sym is) holds

-- a fault that is made of the first pair that differs
pub fault_is : (octets : List ℕ) (number long block page kept found here : ℕ) (fault : LoadFault)
    → fault ≡ Mismatch block page kept found → found ≡ here
    → (rest : List (ℕ × ℕ)) × (differences number long octets ≡ (kept, here) ∷ rest)
    → IsFirstDifference octets number long fault
fault_is octets number long block page kept found here fault is same first =
    subst (IsFirstDifference octets number long)
    (sym (is ∙ ap (Mismatch block page kept) same)) first

nil_is_not : (pair : ℕ × ℕ) (rest : List (ℕ × ℕ)) → ◌≡◌ {A = List (ℕ × ℕ)} [] (pair ∷ rest) → ⊥
nil_is_not pair rest is = absurd (cc)

-- a record that no pair differs from is what is given
pub gives : (octets : List ℕ) (number long : ℕ) (meaning : Meaning)
    (answer : Result RecordView LoadFault) → IsFound octets number long meaning
    → IfOk answer (λ view. IsFound octets number long (meaning_of view))
    → IfErr answer (IsFirstDifference octets number long) → Gives meaning answer
gives octets number long meaning (Ok view) found is differs =
    is.record_is ∙ sym found.record_is
gives octets number long meaning (Err Flash) found is differs = tt
gives octets number long meaning (Err (Mismatch block page kept other)) found is differs =
    absurd (no_pair (differs.1))
  where
    no_pair : differences number long octets ≡ (kept, other) ∷ differs.0 → ⊥
    no_pair first = nil_is_not (kept, other) differs.0 (sym found.none_differs ∙ first)
