-- Small worked inputs, which the definitions compute.
use Rattle.std.proofs.Common.{◌≡◌, ℕ, ◌^◌, List, [], ◌∷◌, ◌++◌, codes, refl}
use Rattle.std.specs.Prelude.{Some, None}
use Rattle.hex.proofs.OnLiterals.{hex_on_literals}
use Rattle.space_packet.specs.declared.fault.PacketFault.TheVariants.{Short, Version, Long}
use Rattle.pst_model.specs.declared.faults.LineFault.TheVariants.{Form, Packet, TextLimit}
use Rattle.pst_model.specs.Command.{Arrival, Grant, Idle}
use Rattle.pst_model.specs.Output.{output_line}
use Rattle.pst_model.specs.Text.{commands_of, commands_read, first_bad}

-- a packet of 20 octets
abbrev packet : List ℕ
packet = 8 ∷ 100 ∷ 192 ∷ 0 ∷ 0 ∷ 13 ∷ 32 ∷ 3 ∷ 25 ∷ 0 ∷ 0 ∷ 0 ∷ 0 ∷ 0 ∷ 0 ∷ 0 ∷ 0 ∷ 0 ∷ 16 ∷ 170 ∷ []

-- its arrival, and a grant
abbrev two_lines : List ℕ
two_lines = codes "A 000000000010 0864c000000d20031900000000000000000010aa\nG 000000000011\n"

two_commands : commands_of (2 ^ 40) two_lines ≡ Arrival 16 packet ∷ Grant 17 ∷ []
unfolding hex_on_literals
two_commands = refl

none_bad : first_bad (2 ^ 40) two_lines ≡ None
unfolding hex_on_literals
none_bad = refl

-- upper-case digits are read too
upper_case : commands_of (2 ^ 40) (codes "A 00000000ABCD 0864C000000D20031900000000000000000010AA\n") ≡ Arrival 43981 packet ∷ []
unfolding hex_on_literals
upper_case = refl

-- one octet too many, and one too few
long : first_bad (2 ^ 40) (codes "A 000000000010 0864c000000d20031900000000000000000010aabb\n") ≡ Some (1, Packet (Long 21 20))
unfolding hex_on_literals
long = refl

short : first_bad (2 ^ 40) (codes "A 000000000010 0864c000000d20031900000000000000000010\n") ≡ Some (1, Packet (Short 19 20))
unfolding hex_on_literals
short = refl

-- no whole header
no_header : first_bad (2 ^ 40) (codes "A 000000000010 00\n") ≡ Some (1, Packet (Short 1 6))
unfolding hex_on_literals
no_header = refl

-- another version, and a length past the greatest one, which is looked for behind the octets
version : first_bad (2 ^ 40) (codes "A 000000000010 28640000000000\n") ≡ Some (1, Packet (Version 1))
unfolding hex_on_literals
version = refl

short_first : first_bad (2 ^ 40) (codes "A 000000000010 28640000ffff00\n") ≡ Some (1, Packet (Short 7 65542))
unfolding hex_on_literals
short_first = refl

-- a last line without its LF
unended : commands_of (2 ^ 40) (codes "A 000000000010 0864c000000d20031900000000000000000010aa") ≡ Arrival 16 packet ∷ []
unfolding hex_on_literals
unended = refl

-- its LF was not taken, so it is not among the whole lines
not_whole : commands_read (2 ^ 40) (codes "G 000000000011\nG 000000000012") ≡ Grant 17 ∷ []
unfolding hex_on_literals
not_whole = refl

-- the commands in front of the first bad line count, and none behind it
to_the_bad_line : commands_of (2 ^ 40) (codes "G 000000000011\nG 12\nG 000000000013\n") ≡ Grant 17 ∷ []
unfolding hex_on_literals
to_the_bad_line = refl

second_bad : first_bad (2 ^ 40) (codes "G 000000000011\nG 12\nG 000000000013\n") ≡ Some (2, Form)
unfolding hex_on_literals
second_bad = refl

-- comments and lines without fields say nothing, and are counted
nothing_said : commands_of (2 ^ 40) (codes "# pass 1\n\n \t\n\t# G 000000000010\n#\r\n\rG 000000000011\n") ≡ []
unfolding hex_on_literals
nothing_said = refl

counted : first_bad (2 ^ 40) (codes "# pass 1\n\n  a 000000000010 00\n") ≡ Some (3, Form)
unfolding hex_on_literals
counted = refl

-- runs of blanks stand between fields, and in front and behind
blanks : commands_of (2 ^ 40) (codes " \tG\t 000000000011 \n") ≡ Grant 17 ∷ []
unfolding hex_on_literals
blanks = refl

spread_packet : commands_of (2 ^ 40) (codes "A  000000000010\t\t0864C000000D20031900000000000000000010AA\r\n") ≡ Arrival 16 packet ∷ []
unfolding hex_on_literals
spread_packet = refl

-- one CR at the end of a line goes, also where the line lacks its LF
returns_go : commands_of (2 ^ 40) (codes "G 000000000011\r\nI 000000000012 \r\nG 000000000013\r") ≡ Grant 17 ∷ Idle 18 ∷ Grant 19 ∷ []
unfolding hex_on_literals
returns_go = refl

return_alone : first_bad (2 ^ 40) (codes "\r\nG 000000000011\r\r\n") ≡ Some (2, Form)
unfolding hex_on_literals
return_alone = refl

return_within : first_bad (2 ^ 40) (codes "G\r000000000011\n") ≡ Some (1, Form)
unfolding hex_on_literals
return_within = refl

-- lines of no known form: a small letter, a letter with more behind it, a field too few or too many, an odd
-- digit, 11 and 13 digits, no digit, a NUL
small_letter : first_bad (2 ^ 40) (codes "a 000000000010 00\n") ≡ Some (1, Form)
unfolding hex_on_literals
small_letter = refl

long_letter : first_bad (2 ^ 40) (codes "GG 000000000011\n") ≡ Some (1, Form)
unfolding hex_on_literals
long_letter = refl

letter_alone : first_bad (2 ^ 40) (codes "G\n") ≡ Some (1, Form)
unfolding hex_on_literals
letter_alone = refl

no_packet : first_bad (2 ^ 40) (codes "A 000000000010\n") ≡ Some (1, Form)
unfolding hex_on_literals
no_packet = refl

a_field_more : first_bad (2 ^ 40) (codes "A 000000000010 00 00\n") ≡ Some (1, Form)
unfolding hex_on_literals
a_field_more = refl

grant_with_more : first_bad (2 ^ 40) (codes "G 000000000010 00\n") ≡ Some (1, Form)
unfolding hex_on_literals
grant_with_more = refl

odd_digit : first_bad (2 ^ 40) (codes "A 000000000010 000\n") ≡ Some (1, Form)
unfolding hex_on_literals
odd_digit = refl

eleven_digits : first_bad (2 ^ 40) (codes "G 00000000001\n") ≡ Some (1, Form)
unfolding hex_on_literals
eleven_digits = refl

thirteen_digits : first_bad (2 ^ 40) (codes "I 0000000000110\n") ≡ Some (1, Form)
unfolding hex_on_literals
thirteen_digits = refl

no_digit : first_bad (2 ^ 40) (codes "G 00000000001g\n") ≡ Some (1, Form)
unfolding hex_on_literals
no_digit = refl

null : first_bad (2 ^ 40) (codes "G 000000000011" ++ 0 ∷ 10 ∷ []) ≡ Some (1, Form)
unfolding hex_on_literals
null = refl

-- a text of no octets has no line
nothing : first_bad (2 ^ 40) [] ≡ None
nothing = refl

-- a line of which an octet lies past the limit of the text, with its LF or without, also where it says nothing,
-- and one that ends at the limit
past_limit : first_bad 10 (codes "G 000000000011\n") ≡ Some (1, TextLimit)
unfolding hex_on_literals
past_limit = refl

eleven_octets : first_bad 10 (codes "01234567890") ≡ Some (1, TextLimit)
unfolding hex_on_literals
eleven_octets = refl

ten_octets : first_bad 10 (codes "0123456789") ≡ Some (1, Form)
unfolding hex_on_literals
ten_octets = refl

comment_past : first_bad 10 (codes "# 34567890\n") ≡ Some (1, TextLimit)
unfolding hex_on_literals
comment_past = refl

comment_at : first_bad 10 (codes "# 3456789\n") ≡ None
unfolding hex_on_literals
comment_at = refl

one_past : first_bad 29 (codes "G 000000000011\nG 000000000012\n") ≡ Some (2, TextLimit)
unfolding hex_on_literals
one_past = refl

at_limit : commands_of 30 (codes "G 000000000011\nG 000000000012\n") ≡ Grant 17 ∷ Grant 18 ∷ []
unfolding hex_on_literals
at_limit = refl

-- a packet goes out in lower case
line_out : output_line 1 packet ≡ codes "1 0864c000000d20031900000000000000000010aa\n"
unfolding hex_on_literals
line_out = refl
