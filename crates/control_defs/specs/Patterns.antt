-- Patterns as sets of keys.
use Rattle.std.specs.Prelude.{◌≤◌, ◌==◌, ◌&&◌, ℕ, Bool, true, false, Option, Some, None, List}
use Rattle.std.specs.List.{list_any}
use Rattle.control_defs.specs.declared.keys.Key.{Key}
use Rattle.control_defs.specs.declared.patterns.Pattern.{Pattern}
use Rattle.control_defs.specs.declared.patterns.Pattern.TheVariants.{Every, App, Service, Kind}

-- a kind, of a service and a subtype, is of this service
abbrev pub is_of_service : Option (ℕ × ℕ) → ℕ → Bool
is_of_service None service = false
is_of_service (Some kind) service = kind.0 == service

-- a kind is of this service and this subtype
abbrev pub is_of_kind : Option (ℕ × ℕ) → ℕ → ℕ → Bool
is_of_kind None service subtype = false
is_of_kind (Some kind) service subtype = kind.0 == service && kind.1 == subtype

-- a pattern covers a key
abbrev pub covers : Pattern → Key → Bool
covers Every key = true
covers (App apid) key = key.apid == apid
covers (Service apid service) key = key.apid == apid && is_of_service key.kind service
covers (Kind apid service subtype) key = key.apid == apid && is_of_kind key.kind service subtype

-- one of the patterns covers the key
abbrev pub any_covers : List Pattern → Key → Bool
any_covers patterns key = list_any (λ pattern. covers pattern key) patterns

-- a pattern covers another, with all its keys
abbrev pub pattern_covers : Pattern → Pattern → Bool
pattern_covers Every other = true
pattern_covers (App apid) Every = false
pattern_covers (App apid) (App apid2) = apid == apid2
pattern_covers (App apid) (Service apid2 service2) = apid == apid2
pattern_covers (App apid) (Kind apid2 service2 subtype2) = apid == apid2
pattern_covers (Service apid service) Every = false
pattern_covers (Service apid service) (App apid2) = false
pattern_covers (Service apid service) (Service apid2 service2) =
    apid == apid2 && service == service2
pattern_covers (Service apid service) (Kind apid2 service2 subtype2) =
    apid == apid2 && service == service2
pattern_covers (Kind apid service subtype) Every = false
pattern_covers (Kind apid service subtype) (App apid2) = false
pattern_covers (Kind apid service subtype) (Service apid2 service2) = false
pattern_covers (Kind apid service subtype) (Kind apid2 service2 subtype2) =
    apid == apid2 && (service == service2 && subtype == subtype2)

-- an APID in a pattern has its eleven bits
abbrev pub IsPattern : Pattern → Type 0
IsPattern Every = Unit {0}
IsPattern (App apid) = apid ≤ 2047
IsPattern (Service apid service) = apid ≤ 2047
IsPattern (Kind apid service subtype) = apid ≤ 2047

-- the service and the subtype in a pattern are octets
abbrev pub HasPatternOctets : Pattern → Type 0
HasPatternOctets Every = Unit {0}
HasPatternOctets (App apid) = Unit {0}
HasPatternOctets (Service apid service) = service ≤ 255
HasPatternOctets (Kind apid service subtype) = (service ≤ 255) × (subtype ≤ 255)

-- a kind is of octets
abbrev pub IsKind : Option (ℕ × ℕ) → Type 0
IsKind None = Unit {0}
IsKind (Some kind) = (kind.0 ≤ 255) × (kind.1 ≤ 255)

-- a key of a packet: its APID has eleven bits, and its kind is of octets
abbrev pub IsKey : Key → Type 0
IsKey key = (key.apid ≤ 2047) × IsKind key.kind
