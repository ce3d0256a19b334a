-- Words that are numbers.
use Rattle.std.specs.Prelude.{ℕ, ◌+◌, ◌-◌, ◌*◌, ◌&&◌, nat_le, nat_lt, Bool, if◌then◌else◌, List, length, fold, Option, Some, None}
use Rattle.std.specs.List.{list_all}

abbrev pub is_digit : ℕ → Bool
is_digit octet = nat_le 48 octet && nat_le octet 57

-- the number that decimal digits spell
abbrev pub number_of : List ℕ → ℕ
number_of digits = fold (λ number digit. 10 * number + (digit - 48)) 0 digits

-- 1 to 20 decimal digits
abbrev pub is_number : List ℕ → Bool
is_number word = nat_le 1 (length word) && nat_le (length word) 20 && list_all is_digit word

-- the number of a word, if it is one below 2^64
abbrev pub number_named : List ℕ → Option ℕ
number_named word =
    if is_number word && nat_lt (number_of word) 18446744073709551616
    then Some (number_of word) else None

-- a number that is neither less than the least nor more than the most
abbrev pub in_range : (least most : ℕ) → Option ℕ → Option ℕ
in_range least most (Some number) =
    if nat_le least number && nat_le number most then Some number else None
in_range least most None = None
