-- The kinds of request in the table, as they are found.
use Rattle.std.proofs.Common.{◌≡◌, ℕ, ◌≤◌, ◌==◌, ◌||◌, Bool, true, false, List, [], ◌∷◌, Some, refl, sym, ◌∙◌, ap, subst}
use Rattle.std.proofs.lemmas.Bool.{and_parts, eqb-true, leb-true}
use Rattle.std.specs.List.{list_all}
use Rattle.std.specs.Prelude.{find, if◌then◌else◌, nat_le}
use Rattle.control_defs.specs.declared.instructions.Instruction.TheVariants.{ForwardAdd, ForwardDelete, ForwardReport, Enable, Disable, AddTypes, DeleteTypes, ReportTypes, DeleteUpTo, Summary, OpenFrom, Resume, Suspend, Abort, Status, Remove, Configuration, ToCircular, ToBounded}
use Rattle.pst_model.specs.Layouts.{RequestKind, is_kind, kind_in, kinds, width_of}
use Rattle.pst_model.proofs.KindsRead.{IsReader, channel_reader, copy_reader, create_reader, empty_reader, listed_store, pattern_reader, resize_reader, start_range_reader, store_reader, time_reader, types_reader}

-- what holds of each kind of a list
infixr 20 ◌and◌
data Each (P : RequestKind → Type 0) : List RequestKind → Type 0 where
  nothing : Each P []
  ◌and◌ : {kind : RequestKind} {others : List RequestKind} → P kind → Each P others → Each P (kind ∷ others)

readers : Each IsReader kinds
readers =
    pattern_reader 1 ForwardAdd (λ p. refl) (λ p. refl) (λ p is. is) (λ p fits. (fits, tt)) (λ p. refl)
    and pattern_reader 2 ForwardDelete (λ p. refl) (λ p. refl) (λ p is. is) (λ p fits. (fits, tt)) (λ p. refl)
    and empty_reader 14 3 ForwardReport refl refl tt tt refl
    and listed_store 1 Enable (λ n. refl) (λ n. refl) (λ n. tt) (λ n fits. (fits, tt)) (λ n. refl)
    and listed_store 2 Disable (λ n. refl) (λ n. refl) (λ n. tt) (λ n fits. (fits, tt)) (λ n. refl)
    and types_reader 3 AddTypes (λ n p. refl) (λ n p. refl) (λ n p is. is) (λ n p fits pattern. (fits, (pattern, tt))) (λ n p. refl)
    and types_reader 4 DeleteTypes (λ n p. refl) (λ n p. refl) (λ n p is. is) (λ n p fits pattern. (fits, (pattern, tt))) (λ n p. refl)
    and store_reader false 15 5 ReportTypes (λ n. refl) (λ n. refl) (λ n. tt) (λ n fits. (fits, tt)) (λ n. refl)
    and start_range_reader
    and time_reader 11 DeleteUpTo (λ n t. refl) (λ n t. refl) (λ n t fits. fits) (λ n t fits time. (fits, (time, tt))) (λ n t. refl)
    and listed_store 12 Summary (λ n. refl) (λ n. refl) (λ n. tt) (λ n fits. (fits, tt)) (λ n. refl)
    and time_reader 14 OpenFrom (λ n t. refl) (λ n t. refl) (λ n t fits. fits) (λ n t fits time. (fits, (time, tt))) (λ n t. refl)
    and listed_store 15 Resume (λ n. refl) (λ n. refl) (λ n. tt) (λ n fits. (fits, tt)) (λ n. refl)
    and listed_store 16 Suspend (λ n. refl) (λ n. refl) (λ n. tt) (λ n fits. (fits, tt)) (λ n. refl)
    and listed_store 17 Abort (λ n. refl) (λ n. refl) (λ n. tt) (λ n fits. (fits, tt)) (λ n. refl)
    and empty_reader 15 18 Status refl refl tt tt refl
    and create_reader
    and listed_store 21 Remove (λ n. refl) (λ n. refl) (λ n. tt) (λ n fits. (fits, tt)) (λ n. refl)
    and empty_reader 15 22 Configuration refl refl tt tt refl
    and copy_reader
    and resize_reader
    and listed_store 26 ToCircular (λ n. refl) (λ n. refl) (λ n. tt) (λ n fits. (fits, tt)) (λ n. refl)
    and listed_store 27 ToBounded (λ n. refl) (λ n. refl) (λ n. tt) (λ n fits. (fits, tt)) (λ n. refl)
    and channel_reader
    and nothing

-- the kind that is found is one of the list, and has this service and subtype
found_in : (P : RequestKind → Type 0) (service subtype : ℕ) (all : List RequestKind) (kind : RequestKind) → Each P all → find (is_kind service subtype) all ≡ Some kind
    → P kind × (kind.service ≡ service) × (kind.subtype ≡ subtype)
found_in P service subtype [] kind nothing is = absurd cc
found_in P service subtype (first ∷ others) kind (here and rest) is = by (is_kind service subtype first) refl (found_in P service subtype others kind rest)
  where
    by : (passes : Bool) → is_kind service subtype first ≡ passes → (find (is_kind service subtype) others ≡ Some kind → P kind × (kind.service ≡ service) × (kind.subtype ≡ subtype))
        → P kind × (kind.service ≡ service) × (kind.subtype ≡ subtype)
    by true passes later =
        let one : Some first ≡ Some kind = sym (ap (λ (b : Bool). if b then Some first else find (is_kind service subtype) others) passes) ∙ is in
        let same : first ≡ kind = cc in
        let parts = and_parts (first.service == service) (first.subtype == subtype) passes in
        subst (λ (k : RequestKind). P k × (k.service ≡ service) × (k.subtype ≡ subtype)) same (here, eqb-true first.service service parts.0, eqb-true first.subtype subtype parts.1)
    by false passes later = later (sym (ap (λ (b : Bool). if b then Some first else find (is_kind service subtype) others) passes) ∙ is)

Each-from_test : (test : RequestKind → Bool) (all : List RequestKind) → list_all test all ≡ true → Each (λ (kind : RequestKind). test kind ≡ true) all
Each-from_test test [] passes = nothing
Each-from_test test (first ∷ others) passes =
    let parts = and_parts (test first) (list_all test others) passes in parts.0 and Each-from_test test others parts.1

-- the services that have kinds
abbrev pub is_service : ℕ → Bool
is_service service = service == 14 || service == 15

pub service_found : (service subtype : ℕ) (kind : RequestKind) → kind_in service subtype ≡ Some kind → is_service service ≡ true
service_found service subtype kind is =
    let served = λ (k : RequestKind). is_service k.service in
    let found = found_in (λ (k : RequestKind). served k ≡ true) service subtype kinds kind (Each-from_test served kinds refl) is in
    ap is_service (sym found.1) ∙ found.0

-- no item has more than 16 octets
pub width_found : (service subtype : ℕ) (kind : RequestKind) → kind_in service subtype ≡ Some kind → width_of kind.fields ≤ 16
width_found service subtype kind is =
    let is_narrow = λ (k : RequestKind). nat_le (width_of k.fields) 16 in
    leb-true (width_of kind.fields) 16 (found_in (λ (k : RequestKind). is_narrow k ≡ true) service subtype kinds kind (Each-from_test is_narrow kinds refl) is).0

pub reader_found : (service subtype : ℕ) (kind : RequestKind) → kind_in service subtype ≡ Some kind → IsReader kind × (kind.service ≡ service) × (kind.subtype ≡ subtype)
reader_found service subtype kind is = found_in IsReader service subtype kinds kind readers is
