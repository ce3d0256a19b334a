-- Patterns as octets: one with the form, two with the APID, one with the service type and one with
-- the message subtype. A field that the form does not use is 0.
use Rattle.std.specs.Prelude.{◌==◌, ◌&&◌, ◌||◌, ℕ, Bool, not, nat_le, nat_lt, if◌then◌else◌, List, [], ◌∷◌, ◌++◌, length, slice_index, position, Option, Some, None}
use Rattle.std.specs.List.{list_any}
use Rattle.octet_fields.specs.Fields.{big_bytes, field}
use Rattle.control_defs.specs.declared.patterns.Pattern.{Pattern}
use Rattle.control_defs.specs.declared.patterns.Pattern.TheVariants.{Every, App, Service, Kind}

abbrev pub pattern_octets : Pattern → List ℕ
pattern_octets Every = 0 ∷ big_bytes 2 0 ++ 0 ∷ 0 ∷ []
pattern_octets (App apid) = 1 ∷ big_bytes 2 apid ++ 0 ∷ 0 ∷ []
pattern_octets (Service apid service) = 2 ∷ big_bytes 2 apid ++ service ∷ 0 ∷ []
pattern_octets (Kind apid service subtype) = 3 ∷ big_bytes 2 apid ++ service ∷ subtype ∷ []

-- the fields at the front of octets
abbrev pub form_in : List ℕ → ℕ
form_in octets = slice_index octets 0

abbrev pub apid_in : List ℕ → ℕ
apid_in octets = field 2 1 octets

abbrev pub service_in : List ℕ → ℕ
service_in octets = slice_index octets 3

abbrev pub subtype_in : List ℕ → ℕ
subtype_in octets = slice_index octets 4

-- the pattern that the five octets at the front spell, where none of them is wrong
abbrev pub pattern_in : List ℕ → Pattern
pattern_in octets =
    if form_in octets == 0 then Every
    else if form_in octets == 1 then App (apid_in octets)
    else if form_in octets == 2 then Service (apid_in octets) (service_in octets)
    else Kind (apid_in octets) (service_in octets) (subtype_in octets)

-- how many octets a pattern of a form uses: those of the form, the APID, the service type and the
-- message subtype, as far as it has them. The others stand behind them.
abbrev pub used_by : (form : ℕ) → ℕ
used_by form = if form == 0 then 1 else if form == 1 then 3 else if form == 2 then 4 else 5

-- Whether the octet at this place of a pattern is wrong: a form above 3, the first of an APID above
-- 2047, or one other than 0 that the form does not use.
abbrev pub is_wrong_in_pattern : List ℕ → (place : ℕ) → Bool
is_wrong_in_pattern octets place =
    (place == 0 && nat_lt 3 (form_in octets))
    || (place == 1 && nat_lt 2047 (apid_in octets))
    || (nat_le (used_by (form_in octets)) place && not (slice_index octets place == 0))

-- the places of the five octets
abbrev pub pattern_places : List ℕ
pattern_places = 0 ∷ 1 ∷ 2 ∷ 3 ∷ 4 ∷ []

-- the place of the first wrong one of the five octets at the front
abbrev pub first_wrong_in_pattern : List ℕ → Option ℕ
first_wrong_in_pattern octets = position (is_wrong_in_pattern octets) pattern_places

-- whether none of the five octets at the front is wrong
abbrev pub is_right_pattern : List ℕ → Bool
is_right_pattern octets = not (list_any (is_wrong_in_pattern octets) pattern_places)

-- the pattern that the five octets at the front spell
unfoldable pub spelled_pattern : List ℕ → Option Pattern
spelled_pattern octets =
    if nat_le 5 (length octets) && is_right_pattern octets then Some (pattern_in octets) else None
