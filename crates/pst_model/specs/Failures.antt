-- Why instructions fail: the codes, and checks in their order.
use Rattle.std.specs.Prelude.{ℕ, Bool, if◌then◌else◌, List, [], ◌∷◌, Result, Ok, Err}

abbrev pub unknown_subtype : ℕ
unknown_subtype = 4

abbrev pub unknown_store : ℕ
unknown_store = 6

abbrev pub store_exists : ℕ
store_exists = 7

abbrev pub too_many_stores : ℕ
too_many_stores = 8

abbrev pub wrong_size : ℕ
wrong_size = 9

abbrev pub no_blocks : ℕ
no_blocks = 10

abbrev pub wrong_channel : ℕ
wrong_channel = 11

abbrev pub storage_is_on : ℕ
storage_is_on = 12

abbrev pub open_is_on : ℕ
open_is_on = 13

abbrev pub range_stands : ℕ
range_stands = 14

abbrev pub times_reversed : ℕ
times_reversed = 15

abbrev pub holds_a_packet : ℕ
holds_a_packet = 16

abbrev pub empty_window : ℕ
empty_window = 17

abbrev pub window_too_large : ℕ
window_too_large = 18

abbrev pub content_too_large : ℕ
content_too_large = 19

abbrev pub too_many_patterns : ℕ
too_many_patterns = 20

abbrev pub no_such_pattern : ℕ
no_such_pattern = 21

abbrev pub already_so : ℕ
already_so = 22

abbrev pub same_store : ℕ
same_store = 24

-- The outcome of an instruction that none of these checks fails, each with its code: of those that
-- fail it the first one tells.
abbrev pub unless : {X : Type 0} → List (Bool × ℕ) → X → Result X ℕ
unless [] outcome = Ok outcome
unless (check ∷ checks) outcome = if check.0 then Err check.1 else unless checks outcome
