-- Small worked inputs, which the definitions compute.
use Rattle.std.proofs.Common.{◌≡◌, true, false, Some, None, List, [], ◌∷◌, refl}
use Rattle.std.specs.declared.cmp.Ordering.TheVariants.{Less, Equal, Greater}
use Rattle.control_defs.specs.declared.keys.Key.{Key}
use Rattle.control_defs.specs.declared.patterns.Pattern.{Pattern}
use Rattle.control_defs.specs.declared.patterns.Pattern.TheVariants.{Every, App, Service, Kind}
use Rattle.control_defs.specs.Lists.{pattern_cmp, with_pattern, without_pattern}
use Rattle.control_defs.specs.Patterns.{any_covers, covers}

-- the key of a report [3,25] of APID 100, and that of a packet of APID 100 with no kind
abbrev report : Key
report = record { apid = 100; kind = Some (3, 25) }

abbrev plain : Key
plain = record { apid = 100; kind = None }

every_report : covers Every report ≡ true
every_report = refl

every_plain : covers Every plain ≡ true
every_plain = refl

app_plain : covers (App 100) plain ≡ true
app_plain = refl

another_app : covers (App 101) plain ≡ false
another_app = refl

service_report : covers (Service 100 3) report ≡ true
service_report = refl

another_service : covers (Service 100 25) report ≡ false
another_service = refl

service_plain : covers (Service 100 3) plain ≡ false
service_plain = refl

kind_report : covers (Kind 100 3 25) report ≡ true
kind_report = refl

another_subtype : covers (Kind 100 3 24) report ≡ false
another_subtype = refl

kind_of_another_app : covers (Kind 101 3 25) report ≡ false
kind_of_another_app = refl

kind_plain : covers (Kind 100 3 25) plain ≡ false
kind_plain = refl

-- A list with a pattern: each pair of forms, where the new one covers the other, is covered, is the
-- same, or is apart.

every_to_none : with_pattern Every [] ≡ Every ∷ []
every_to_none = refl

every_to_every : with_pattern Every (Every ∷ []) ≡ Every ∷ []
every_to_every = refl

every_to_app : with_pattern Every (App 100 ∷ []) ≡ Every ∷ []
every_to_app = refl

app_to_every : with_pattern (App 100) (Every ∷ []) ≡ Every ∷ []
app_to_every = refl

every_to_service : with_pattern Every (Service 100 3 ∷ []) ≡ Every ∷ []
every_to_service = refl

service_to_every : with_pattern (Service 100 3) (Every ∷ []) ≡ Every ∷ []
service_to_every = refl

every_to_kind : with_pattern Every (Kind 100 3 25 ∷ []) ≡ Every ∷ []
every_to_kind = refl

kind_to_every : with_pattern (Kind 100 3 25) (Every ∷ []) ≡ Every ∷ []
kind_to_every = refl

app_to_app : with_pattern (App 100) (App 100 ∷ []) ≡ App 100 ∷ []
app_to_app = refl

app_to_another_app : with_pattern (App 100) (App 101 ∷ []) ≡ App 100 ∷ App 101 ∷ []
app_to_another_app = refl

app_to_service : with_pattern (App 100) (Service 100 3 ∷ []) ≡ App 100 ∷ []
app_to_service = refl

service_to_app : with_pattern (Service 100 3) (App 100 ∷ []) ≡ App 100 ∷ []
service_to_app = refl

app_to_service_of_another : with_pattern (App 100) (Service 99 3 ∷ []) ≡ App 100 ∷ Service 99 3 ∷ []
app_to_service_of_another = refl

service_of_another_to_app : with_pattern (Service 99 3) (App 100 ∷ []) ≡ App 100 ∷ Service 99 3 ∷ []
service_of_another_to_app = refl

app_to_kind : with_pattern (App 100) (Kind 100 3 25 ∷ []) ≡ App 100 ∷ []
app_to_kind = refl

kind_to_app : with_pattern (Kind 100 3 25) (App 100 ∷ []) ≡ App 100 ∷ []
kind_to_app = refl

app_to_kind_of_another : with_pattern (App 100) (Kind 99 3 25 ∷ []) ≡ App 100 ∷ Kind 99 3 25 ∷ []
app_to_kind_of_another = refl

kind_of_another_to_app : with_pattern (Kind 99 3 25) (App 100 ∷ []) ≡ App 100 ∷ Kind 99 3 25 ∷ []
kind_of_another_to_app = refl

service_to_service : with_pattern (Service 100 3) (Service 100 3 ∷ []) ≡ Service 100 3 ∷ []
service_to_service = refl

service_to_another_service : with_pattern (Service 100 3) (Service 100 2 ∷ []) ≡ Service 100 2 ∷ Service 100 3 ∷ []
service_to_another_service = refl

service_to_service_of_another : with_pattern (Service 100 3) (Service 99 3 ∷ []) ≡ Service 99 3 ∷ Service 100 3 ∷ []
service_to_service_of_another = refl

service_to_kind : with_pattern (Service 100 3) (Kind 100 3 25 ∷ []) ≡ Service 100 3 ∷ []
service_to_kind = refl

kind_to_service : with_pattern (Kind 100 3 25) (Service 100 3 ∷ []) ≡ Service 100 3 ∷ []
kind_to_service = refl

service_to_kind_of_another_service : with_pattern (Service 100 3) (Kind 100 2 25 ∷ []) ≡ Service 100 3 ∷ Kind 100 2 25 ∷ []
service_to_kind_of_another_service = refl

kind_of_another_service_to_service : with_pattern (Kind 100 2 25) (Service 100 3 ∷ []) ≡ Service 100 3 ∷ Kind 100 2 25 ∷ []
kind_of_another_service_to_service = refl

kind_of_another_app_to_service : with_pattern (Kind 99 3 25) (Service 100 3 ∷ []) ≡ Service 100 3 ∷ Kind 99 3 25 ∷ []
kind_of_another_app_to_service = refl

kind_to_kind : with_pattern (Kind 100 3 25) (Kind 100 3 25 ∷ []) ≡ Kind 100 3 25 ∷ []
kind_to_kind = refl

kind_to_another_subtype : with_pattern (Kind 100 3 25) (Kind 100 3 24 ∷ []) ≡ Kind 100 3 24 ∷ Kind 100 3 25 ∷ []
kind_to_another_subtype = refl

kind_to_kind_of_another_service : with_pattern (Kind 100 3 25) (Kind 100 4 25 ∷ []) ≡ Kind 100 3 25 ∷ Kind 100 4 25 ∷ []
kind_to_kind_of_another_service = refl

kind_to_kind_of_another_app : with_pattern (Kind 100 3 25) (Kind 101 3 25 ∷ []) ≡ Kind 100 3 25 ∷ Kind 101 3 25 ∷ []
kind_to_kind_of_another_app = refl

-- a pattern in the middle, in place of two that it covers
two_covered : with_pattern (Service 100 3) (App 7 ∷ Service 100 5 ∷ Kind 100 3 1 ∷ Kind 100 3 2 ∷ Kind 200 3 1 ∷ [])
    ≡ App 7 ∷ Service 100 3 ∷ Service 100 5 ∷ Kind 200 3 1 ∷ []
two_covered = refl

-- patterns that are apart
abbrev three : List Pattern
three = App 7 ∷ Service 100 3 ∷ Kind 200 3 25 ∷ []

-- a list without a pattern: without itself alone, and the same where it is only covered
first_removed : without_pattern (App 7) three ≡ Service 100 3 ∷ Kind 200 3 25 ∷ []
first_removed = refl

middle_removed : without_pattern (Service 100 3) three ≡ App 7 ∷ Kind 200 3 25 ∷ []
middle_removed = refl

last_removed : without_pattern (Kind 200 3 25) three ≡ App 7 ∷ Service 100 3 ∷ []
last_removed = refl

covered_not_removed : without_pattern (Kind 100 3 25) three ≡ three
covered_not_removed = refl

covering_not_removed : without_pattern (App 100) three ≡ three
covering_not_removed = refl

every_not_removed : without_pattern Every three ≡ three
every_not_removed = refl

none_removed : without_pattern Every [] ≡ []
none_removed = refl

-- the order at its edges
every_first : pattern_cmp Every (App 0) ≡ Less
every_first = refl

every_itself : pattern_cmp Every Every ≡ Equal
every_itself = refl

app_before_service : pattern_cmp (App 2047) (Service 0 0) ≡ Less
app_before_service = refl

service_before_kind : pattern_cmp (Service 2047 255) (Kind 0 0 0) ≡ Less
service_before_kind = refl

kind_behind_app : pattern_cmp (Kind 0 0 0) (App 2047) ≡ Greater
kind_behind_app = refl

app_by_apid : pattern_cmp (App 0) (App 2047) ≡ Less
app_by_apid = refl

app_itself : pattern_cmp (App 2047) (App 2047) ≡ Equal
app_itself = refl

service_by_apid_first : pattern_cmp (Service 2046 255) (Service 2047 0) ≡ Less
service_by_apid_first = refl

service_by_service : pattern_cmp (Service 2047 255) (Service 2047 0) ≡ Greater
service_by_service = refl

kind_by_apid_first : pattern_cmp (Kind 0 255 255) (Kind 1 0 0) ≡ Less
kind_by_apid_first = refl

kind_by_service_next : pattern_cmp (Kind 2047 254 255) (Kind 2047 255 0) ≡ Less
kind_by_service_next = refl

kind_by_subtype : pattern_cmp (Kind 2047 255 255) (Kind 2047 255 0) ≡ Greater
kind_by_subtype = refl

kind_itself : pattern_cmp (Kind 2047 255 255) (Kind 2047 255 255) ≡ Equal
kind_itself = refl

-- the keys that a list covers
one_covers_report : any_covers (App 7 ∷ Service 100 3 ∷ []) report ≡ true
one_covers_report = refl

none_covers_plain : any_covers (App 7 ∷ Service 100 3 ∷ []) plain ≡ false
none_covers_plain = refl

nothing_covers : any_covers [] report ≡ false
nothing_covers = refl
