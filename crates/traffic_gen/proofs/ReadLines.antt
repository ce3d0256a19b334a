-- The line of a command is a written form of it.
use Rattle.std.proofs.Common.{◌≡◌, ◌≢◌, ◌⊎◌, ℕ, ◌-◌, ◌^◌, ◌<◌, ◌≤◌, ◌==◌, inl, inr, List, [], ◌∷◌, ◌++◌, length, slice_index, Some, Ok, refl, sym, ap, subst, append-nil, arith}
use Rattle.std.specs.Prelude.{All, Contains}
use Rattle.std.proofs.lemmas.Bool.{cond-false, ne_eqb}
use Rattle.std.proofs.lemmas.List.Elements.{All-append, All-cons, All-nil}
use Rattle.hex.specs.Hex.{IsBytes, encode_lower, lower_digits}
use Rattle.hex.proofs.HexLemmas.{decode_of-encode_lower, length-encode_with}
use Rattle.byteorder.specs.Numbers.{big_number-reads_back}
use Rattle.octet_fields.specs.Fields.{big_bytes}
use Rattle.pst_model.specs.Command.{Command, Arrival, Request, Grant, Idle}
use Rattle.pst_model.specs.Fields.{AreFields, BeginsWith, IsBlank, IsSolid}
use Rattle.pst_model.specs.Forms.{HasPacketForm, HasTimedForm, IsMoment, Spells, reading_of, without_return}
use Rattle.pst_model.proofs.WrittenForms.{reading_of-spells}
use Rattle.traffic_gen.specs.Lawful.{IsLawful}
use Rattle.traffic_gen.specs.Lines.{command_line}
use Rattle.traffic_gen.proofs.LineLengths.{front_of}
use Rattle.traffic_gen.proofs.Octets.{IsDigit, all-solid, bytes-six, digits-solid}

-- Lines without their LF.
abbrev pub packet_octets : (letter moment : ℕ) → List ℕ → List ℕ
packet_octets letter moment packet = front_of letter moment ++ 32 ∷ encode_lower packet

abbrev pub octets_of : Command → List ℕ
octets_of (Arrival moment packet) = packet_octets 65 moment packet
octets_of (Request moment packet) = packet_octets 82 moment packet
octets_of (Grant moment) = front_of 71 moment
octets_of (Idle moment) = front_of 73 moment

pub line-ends : (command : Command) → command_line command ≡ octets_of command ++ 10 ∷ []
line-ends (Arrival moment packet) = refl
line-ends (Request moment packet) = refl
line-ends (Grant moment) = refl
line-ends (Idle moment) = refl

-- each octet of a line is a space or more
abbrev pub IsText : ℕ → Type 0
IsText octet = 32 ≤ octet

text-digits : (octets : List ℕ) → All IsDigit octets → All IsText octets
text-digits octets are k d within = let digit = are k d within in omega arith

pub text-front : (letter moment : ℕ) → 32 ≤ letter → All IsText (front_of letter moment)
text-front letter moment is =
    let time = encode_lower (big_bytes 6 moment) in
    All-cons IsText letter (32 ∷ time) is (All-cons IsText 32 time (omega arith) (text-digits time (digits-solid (big_bytes 6 moment) (bytes-six moment))))

pub text-packet : (letter moment : ℕ) (packet : List ℕ) → 32 ≤ letter → IsBytes packet → All IsText (packet_octets letter moment packet)
text-packet letter moment packet is bytes =
    All-append IsText (front_of letter moment) (32 ∷ encode_lower packet) (text-front letter moment is)
    (All-cons IsText 32 (encode_lower packet) (omega arith) (text-digits (encode_lower packet) (digits-solid packet bytes)))

pub text-line : (command : Command) → IsLawful command → All IsText (octets_of command)
text-line (Arrival moment packet) lawful = text-packet 65 moment packet (omega arith) lawful.bytes
text-line (Request moment packet) lawful = text-packet 82 moment packet (omega arith) lawful.bytes
text-line (Grant moment) lawful = text-front 71 moment (omega arith)
text-line (Idle moment) lawful = text-front 73 moment (omega arith)

pub no_line_feed : (line : List ℕ) → All IsText line → ¬ (Contains line 10)
no_line_feed line text held = let octet = text held.0 10 held.1 in let is = held.2 in omega arith

no_return : (line : List ℕ) → 1 ≤ length line → All IsText line → without_return line ≡ line
no_return line some text =
    let last = text (length line - 1) 0 (omega arith) in
    cond-false (slice_index line (length line - 1) == 13) _ line (ne_eqb (slice_index line (length line - 1)) 13 (λ e. omega arith))

-- fields of a line

digits-some : (octets : List ℕ) → 1 ≤ length octets → encode_lower octets ≢ []
digits-some octets some none =
    let long = length-encode_with lower_digits octets in
    let empty = ap length none in
    omega arith

digits-begin : (octets rest : List ℕ) → IsBytes octets → 1 ≤ length octets → (rest ≡ []) ⊎ IsBlank (slice_index rest 0) → BeginsWith (encode_lower octets) (32 ∷ encode_lower octets ++ rest) rest
digits-begin octets rest bytes some behind = record {
  blanks = 32 ∷ [];
  split = refl;
  before = All-cons IsBlank 32 [] refl (All-nil IsBlank);
  some = digits-some octets some;
  solid = all-solid (encode_lower octets) (digits-solid octets bytes);
  behind = behind;
}

letter-begins : (letter : ℕ) (rest : List ℕ) → IsSolid letter → IsBlank (slice_index rest 0) → BeginsWith (letter ∷ []) (letter ∷ rest) rest
letter-begins letter rest solid blank = record {
  blanks = [];
  split = refl;
  before = All-nil IsBlank;
  some = λ none. cc;
  solid = All-cons IsSolid letter [] solid (All-nil IsSolid);
  behind = inr blank;
}

last-begins : (octets : List ℕ) → IsBytes octets → 1 ≤ length octets → BeginsWith (encode_lower octets) (32 ∷ encode_lower octets) []
last-begins octets bytes some =
    subst (λ (line : List ℕ). BeginsWith (encode_lower octets) (32 ∷ line) []) (append-nil (encode_lower octets)) (digits-begin octets [] bytes some (inl refl))

pub timed-fields : (letter moment : ℕ) → IsSolid letter → AreFields ((letter ∷ []) ∷ encode_lower (big_bytes 6 moment) ∷ []) (front_of letter moment)
timed-fields letter moment solid =
    let time = encode_lower (big_bytes 6 moment) in (
      32 ∷ time,
      letter-begins letter (32 ∷ time) solid refl,
      ([], last-begins (big_bytes 6 moment) (bytes-six moment) (omega arith), All-nil IsBlank),
    )

pub packet-fields : (letter moment : ℕ) (packet : List ℕ) → IsSolid letter → IsBytes packet → 1 ≤ length packet
    → AreFields ((letter ∷ []) ∷ encode_lower (big_bytes 6 moment) ∷ encode_lower packet ∷ []) (packet_octets letter moment packet)
packet-fields letter moment packet solid bytes some =
    let time = encode_lower (big_bytes 6 moment) in
    let hex = encode_lower packet in (
      32 ∷ time ++ 32 ∷ hex,
      letter-begins letter (32 ∷ time ++ 32 ∷ hex) solid refl,
      (32 ∷ hex, digits-begin (big_bytes 6 moment) (32 ∷ hex) (bytes-six moment) (omega arith) (inr refl), ([], last-begins packet bytes some, All-nil IsBlank)),
    )

pub moment-digits : (moment : ℕ) → moment < 2 ^ 48 → IsMoment (encode_lower (big_bytes 6 moment)) moment
moment-digits moment fits = record {
  octets = big_bytes 6 moment;
  count = omega (arith, length-encode_with lower_digits (big_bytes 6 moment));
  decoded = decode_of-encode_lower (big_bytes 6 moment) (bytes-six moment);
  value = sym (big_number-reads_back 6 moment [] fits);
}

timed-form : (letter moment : ℕ) → 48 ≤ letter → IsSolid letter → moment < 2 ^ 48 → HasTimedForm letter (front_of letter moment) moment
timed-form letter moment big solid fits =
    let whole = no_return (front_of letter moment) (omega arith) (text-front letter moment (omega arith)) in record {
      digits = encode_lower (big_bytes 6 moment);
      fields = subst (AreFields ((letter ∷ []) ∷ encode_lower (big_bytes 6 moment) ∷ [])) (sym whole) (timed-fields letter moment solid);
      time = moment-digits moment fits;
    }

packet-form : (letter moment : ℕ) (packet : List ℕ) → 48 ≤ letter → IsSolid letter → moment < 2 ^ 48 → IsBytes packet → 1 ≤ length packet
    → HasPacketForm letter (packet_octets letter moment packet) moment packet
packet-form letter moment packet big solid fits bytes some =
    let whole = no_return (packet_octets letter moment packet) (omega arith) (text-packet letter moment packet (omega arith) bytes) in record {
      digits = encode_lower (big_bytes 6 moment);
      hex = encode_lower packet;
      fields = subst (AreFields ((letter ∷ []) ∷ encode_lower (big_bytes 6 moment) ∷ encode_lower packet ∷ [])) (sym whole) (packet-fields letter moment packet solid bytes some);
      time = moment-digits moment fits;
      some = omega (arith, length-encode_with lower_digits packet);
      decoded = decode_of-encode_lower packet bytes;
    }

spells : (command : Command) → IsLawful command → Spells (octets_of command) command
spells (Arrival moment packet) lawful =
    let long = lawful.packet.at_least in (packet-form 65 moment packet (omega arith) refl lawful.moment lawful.bytes (omega arith), lawful.packet)
spells (Request moment packet) lawful =
    let long = lawful.packet.at_least in (packet-form 82 moment packet (omega arith) refl lawful.moment lawful.bytes (omega arith), lawful.packet)
spells (Grant moment) lawful = timed-form 71 moment (omega arith) refl lawful
spells (Idle moment) lawful = timed-form 73 moment (omega arith) refl lawful

-- what the line of a command says
pub says-command : (command : Command) → IsLawful command → reading_of (octets_of command) ≡ Ok (Some command)
says-command command lawful = (reading_of-spells (octets_of command) command).1 (spells command lawful)
