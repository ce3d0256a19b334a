-- What a line says is the command of which it is a written form, nothing, or the fault of its packet.
use Rattle.std.proofs.Common.{◌≡◌, ◌⊎◌, inl, inr, ℕ, ◌≤◌, ◌==◌, Bool, true, false, List, [], ◌∷◌, length, Option, Some, None, Result, Ok, Err, refl, sym, ◌∙◌, ap, subst}
use Rattle.std.proofs.lemmas.Bool.{cond-false, cond-true, eq-eqb, eqb-true, le-ltb, ltb-false}
use Rattle.std.specs.Prelude.{◌↔◌, if◌then◌else◌, nat_lt, slice_index}
use Rattle.hex.specs.Hex.{decode_of}
use Rattle.hex.specs.declared.error.FromHexError.{FromHexError}
use Rattle.space_packet.specs.Packet.{fault_of}
use Rattle.space_packet.specs.declared.fault.PacketFault.{PacketFault}
use Rattle.space_packet.proofs.Faults.{fault_of-none}
use Rattle.pst_model.specs.declared.faults.LineFault.TheVariants.{Form}
use Rattle.pst_model.specs.Command.{Command, Arrival, Request, Grant, Idle}
use Rattle.pst_model.specs.Fields.{AreFields, fields_of}
use Rattle.pst_model.specs.Forms.{HasPacketForm, HasTimedForm, IsMoment, IsSkipped, Reading, SayNothing, Spells, command_by, command_in, decoded_moment, decoded_packet, moment_in, packet_by, packet_in, reading_behind, reading_by, reading_in, reading_of, timed_by, without_return}
use Rattle.pst_model.proofs.SplitFields.{are_fields, fields_are}

-- moments

pub moment_read : (digits : List ℕ) (moment : ℕ) → moment_in digits ≡ Some moment → IsMoment digits moment
moment_read digits moment is = by (length digits == 12) refl is
  where
    some : length digits ≡ 12 → (decoded : Result (List ℕ) FromHexError) → decode_of digits ≡ decoded → decoded_moment decoded ≡ Some moment → IsMoment digits moment
    some count (Ok octets) decoded value = record { octets = octets; count = count; decoded = decoded; value = cc }
    some count (Err fault) decoded value = absurd cc

    by : (twelve : Bool) → (length digits == 12) ≡ twelve → (if twelve then decoded_moment (decode_of digits) else None) ≡ Some moment → IsMoment digits moment
    by true count value = some (eqb-true (length digits) 12 count) (decode_of digits) refl value
    by false count value = absurd cc

pub moment_spelled : (digits : List ℕ) (moment : ℕ) → IsMoment digits moment → moment_in digits ≡ Some moment
moment_spelled digits moment is =
    cond-true (length digits == 12) (decoded_moment (decode_of digits)) None (eq-eqb (length digits) 12 is.count)
    ∙ ap decoded_moment is.decoded ∙ ap Some (sym is.value)

moment_cases : (digits : List ℕ) → (moment_in digits ≡ None) ⊎ ((moment : ℕ) × IsMoment digits moment)
moment_cases digits = by (moment_in digits) refl
  where
    by : (moment : Option ℕ) → moment_in digits ≡ moment → (moment_in digits ≡ None) ⊎ ((moment : ℕ) × IsMoment digits moment)
    by (Some moment) is = inr (moment, moment_read digits moment is)
    by None is = inl is

-- packets

-- digits that spell octets, packet or not
abbrev IsHex : List ℕ → List ℕ → Type 0
IsHex hex octets = (2 ≤ length hex) × (decode_of hex ≡ Ok octets)

packet_spelled : (hex octets : List ℕ) → IsHex hex octets → packet_in hex ≡ packet_by octets (fault_of octets)
packet_spelled hex octets is = cond-false (nat_lt (length hex) 2) (Err Form) (decoded_packet (decode_of hex)) (le-ltb (length hex) 2 is.0) ∙ ap decoded_packet is.1

packet_cases : (hex : List ℕ) → (packet_in hex ≡ Err Form) ⊎ ((octets : List ℕ) × IsHex hex octets)
packet_cases hex = by (nat_lt (length hex) 2) refl
  where
    of : nat_lt (length hex) 2 ≡ false → (decoded : Result (List ℕ) FromHexError) → decode_of hex ≡ decoded → (packet_in hex ≡ Err Form) ⊎ ((octets : List ℕ) × IsHex hex octets)
    of long (Ok octets) is = inr (octets, (ltb-false (length hex) 2 long, is))
    of long (Err fault) is = inl (cond-false (nat_lt (length hex) 2) (Err Form) (decoded_packet (decode_of hex)) long ∙ ap decoded_packet is)

    by : (short : Bool) → nat_lt (length hex) 2 ≡ short → (packet_in hex ≡ Err Form) ⊎ ((octets : List ℕ) × IsHex hex octets)
    by true short = inl (cond-true (nat_lt (length hex) 2) (Err Form) (decoded_packet (decode_of hex)) short)
    by false short = of short (decode_of hex) refl

-- what lines of each form say

packet_says : (letter : ℕ) (make : ℕ → List ℕ → Command) (digits hex : List ℕ) (moment : ℕ) (octets : List ℕ) → IsMoment digits moment → IsHex hex octets
    → command_in make (moment_in digits) hex ≡ command_by make moment (packet_by octets (fault_of octets))
packet_says letter make digits hex moment octets time is =
    ap (λ (o : Option ℕ). command_in make o hex) (moment_spelled digits moment time) ∙ ap (command_by make moment) (packet_spelled hex octets is)

pub arrival_says : (line : List ℕ) (moment : ℕ) (octets : List ℕ) → HasPacketForm 65 line moment octets → reading_of line ≡ command_by Arrival moment (packet_by octets (fault_of octets))
arrival_says line moment octets form =
    ap reading_in (fields_are ((65 ∷ []) ∷ form.digits ∷ form.hex ∷ []) (without_return line) form.fields)
    ∙ packet_says 65 Arrival form.digits form.hex moment octets form.time (form.some, form.decoded)

pub request_says : (line : List ℕ) (moment : ℕ) (octets : List ℕ) → HasPacketForm 82 line moment octets → reading_of line ≡ command_by Request moment (packet_by octets (fault_of octets))
request_says line moment octets form =
    ap reading_in (fields_are ((82 ∷ []) ∷ form.digits ∷ form.hex ∷ []) (without_return line) form.fields)
    ∙ packet_says 82 Request form.digits form.hex moment octets form.time (form.some, form.decoded)

pub grant_says : (line : List ℕ) (moment : ℕ) → HasTimedForm 71 line moment → reading_of line ≡ Ok (Some (Grant moment))
grant_says line moment form =
    ap reading_in (fields_are ((71 ∷ []) ∷ form.digits ∷ []) (without_return line) form.fields) ∙ ap (timed_by Grant) (moment_spelled form.digits moment form.time)

pub idle_says : (line : List ℕ) (moment : ℕ) → HasTimedForm 73 line moment → reading_of line ≡ Ok (Some (Idle moment))
idle_says line moment form =
    ap reading_in (fields_are ((73 ∷ []) ∷ form.digits ∷ []) (without_return line) form.fields) ∙ ap (timed_by Idle) (moment_spelled form.digits moment form.time)

nothing_says : (fields : List (List ℕ)) → SayNothing fields → reading_in fields ≡ Ok None
nothing_says [] nothing = refl
nothing_says (first ∷ others) nothing = cond-true (slice_index first 0 == 35) (Ok None) (reading_behind first others) (eq-eqb (slice_index first 0) 35 nothing)

pub skipped_says : (line : List ℕ) → IsSkipped line → reading_of line ≡ Ok None
skipped_says line is = ap reading_in (fields_are is.fields (without_return line) is.are) ∙ nothing_says is.fields is.nothing

-- The other way round: what a line says tells its form.

abbrev HasPacket : ℕ → List ℕ → Type 0
HasPacket letter line = (moment : ℕ) × (octets : List ℕ) × HasPacketForm letter line moment octets

-- a line says nothing, or that it has no form, or it has one
pub data Says (line : List ℕ) : Type 0 where
  skipped : IsSkipped line → Says line
  no_form : reading_of line ≡ Err Form → Says line
  arrival : HasPacket 65 line → Says line
  request : HasPacket 82 line → Says line
  granted : (moment : ℕ) → HasTimedForm 71 line moment → Says line
  idle : (moment : ℕ) → HasTimedForm 73 line moment → Says line

module _ (line : List ℕ) where
  abbrev Has : List (List ℕ) → Type 0
  Has fields = AreFields fields (without_return line)

  as_packet : (letter : ℕ) (make : ℕ → List ℕ → Command) (digits hex : List ℕ) → Has ((letter ∷ []) ∷ digits ∷ hex ∷ [])
      → (command_in make (moment_in digits) hex ≡ Err Form) ⊎ HasPacket letter line
  as_packet letter make digits hex are = by (moment_cases digits) (packet_cases hex)
    where
      by : ((moment_in digits ≡ None) ⊎ ((moment : ℕ) × IsMoment digits moment)) → ((packet_in hex ≡ Err Form) ⊎ ((octets : List ℕ) × IsHex hex octets))
          → (command_in make (moment_in digits) hex ≡ Err Form) ⊎ HasPacket letter line
      by (inl none) octets = inl (ap (λ (o : Option ℕ). command_in make o hex) none)
      by (inr time) (inl none) = inl (ap (λ (o : Option ℕ). command_in make o hex) (moment_spelled digits time.0 time.1) ∙ ap (command_by make time.0) none)
      by (inr time) (inr octets) =
          inr (time.0, octets.0, record { digits = digits; hex = hex; fields = are; time = time.1; some = octets.1.0; decoded = octets.1.1 })

  as_timed : (letter : ℕ) (make : ℕ → Command) (digits : List ℕ) → Has ((letter ∷ []) ∷ digits ∷ [])
      → (timed_by make (moment_in digits) ≡ Err Form) ⊎ ((moment : ℕ) × HasTimedForm letter line moment)
  as_timed letter make digits are = by (moment_cases digits)
    where
      by : ((moment_in digits ≡ None) ⊎ ((moment : ℕ) × IsMoment digits moment)) → (timed_by make (moment_in digits) ≡ Err Form) ⊎ ((moment : ℕ) × HasTimedForm letter line moment)
      by (inl none) = inl (ap (timed_by make) none)
      by (inr time) = inr (time.0, record { digits = digits; fields = are; time = time.1 })

  from_arrival : {reading : Reading} → reading_of line ≡ reading → (reading ≡ Err Form) ⊎ HasPacket 65 line → Says line
  from_arrival is (inl none) = no_form (is ∙ none)
  from_arrival is (inr has) = arrival has

  from_request : {reading : Reading} → reading_of line ≡ reading → (reading ≡ Err Form) ⊎ HasPacket 82 line → Says line
  from_request is (inl none) = no_form (is ∙ none)
  from_request is (inr has) = request has

  from_grant : {reading : Reading} → reading_of line ≡ reading → (reading ≡ Err Form) ⊎ ((moment : ℕ) × HasTimedForm 71 line moment) → Says line
  from_grant is (inl none) = no_form (is ∙ none)
  from_grant is (inr has) = granted has.0 has.1

  from_idle : {reading : Reading} → reading_of line ≡ reading → (reading ≡ Err Form) ⊎ ((moment : ℕ) × HasTimedForm 73 line moment) → Says line
  from_idle is (inl none) = no_form (is ∙ none)
  from_idle is (inr has) = idle has.0 has.1

  timed_as : (letter : ℕ) (digits : List ℕ) → Has ((letter ∷ []) ∷ digits ∷ []) → reading_of line ≡ reading_by letter (digits ∷ []) → Says line
  timed_as letter digits are is = by (letter == 71) (letter == 73) refl refl
    where
      by : (grants idles : Bool) → (letter == 71) ≡ grants → (letter == 73) ≡ idles → Says line
      by true idles g i =
          from_grant (is ∙ cond-true (letter == 71) (timed_by Grant (moment_in digits)) _ g)
          (as_timed 71 Grant digits (subst (λ (l : ℕ). Has ((l ∷ []) ∷ digits ∷ [])) (eqb-true letter 71 g) are))
      by false true g i =
          from_idle (is ∙ cond-false (letter == 71) (timed_by Grant (moment_in digits)) _ g ∙ cond-true (letter == 73) (timed_by Idle (moment_in digits)) (Err Form) i)
          (as_timed 73 Idle digits (subst (λ (l : ℕ). Has ((l ∷ []) ∷ digits ∷ [])) (eqb-true letter 73 i) are))
      by false false g i =
          no_form (is ∙ cond-false (letter == 71) (timed_by Grant (moment_in digits)) _ g ∙ cond-false (letter == 73) (timed_by Idle (moment_in digits)) (Err Form) i)

  packet_as : (letter : ℕ) (digits hex : List ℕ) → Has ((letter ∷ []) ∷ digits ∷ hex ∷ []) → reading_of line ≡ reading_by letter (digits ∷ hex ∷ []) → Says line
  packet_as letter digits hex are is = by (letter == 65) (letter == 82) refl refl
    where
      by : (arrives requests : Bool) → (letter == 65) ≡ arrives → (letter == 82) ≡ requests → Says line
      by true requests a r =
          from_arrival (is ∙ cond-true (letter == 65) (command_in Arrival (moment_in digits) hex) _ a)
          (as_packet 65 Arrival digits hex (subst (λ (l : ℕ). Has ((l ∷ []) ∷ digits ∷ hex ∷ [])) (eqb-true letter 65 a) are))
      by false true a r =
          from_request
          (is ∙ cond-false (letter == 65) (command_in Arrival (moment_in digits) hex) _ a ∙ cond-true (letter == 82) (command_in Request (moment_in digits) hex) (Err Form) r)
          (as_packet 82 Request digits hex (subst (λ (l : ℕ). Has ((l ∷ []) ∷ digits ∷ hex ∷ [])) (eqb-true letter 82 r) are))
      by false false a r =
          no_form (is ∙ cond-false (letter == 65) (command_in Arrival (moment_in digits) hex) _ a ∙ cond-false (letter == 82) (command_in Request (moment_in digits) hex) (Err Form) r)

  letter_as : (letter : ℕ) (others : List (List ℕ)) → Has ((letter ∷ []) ∷ others) → reading_of line ≡ reading_by letter others → Says line
  letter_as letter [] are is = no_form is
  letter_as letter (digits ∷ []) are is = timed_as letter digits are is
  letter_as letter (digits ∷ hex ∷ []) are is = packet_as letter digits hex are is
  letter_as letter (digits ∷ hex ∷ more ∷ others) are is = no_form is

  first_as : (first : List ℕ) (others : List (List ℕ)) → Has (first ∷ others) → reading_of line ≡ reading_behind first others → Says line
  first_as [] others are is = no_form is
  first_as (letter ∷ []) others are is = letter_as letter others are is
  first_as (letter ∷ next ∷ rest) others are is = no_form is

  fields_as : (fields : List (List ℕ)) → Has fields → reading_of line ≡ reading_in fields → Says line
  fields_as [] are is = skipped (record { fields = []; are = are; nothing = tt })
  fields_as (first ∷ others) are is = by (slice_index first 0 == 35) refl
    where
      by : (comment : Bool) → (slice_index first 0 == 35) ≡ comment → Says line
      by true c = skipped (record { fields = first ∷ others; are = are; nothing = eqb-true (slice_index first 0) 35 c })
      by false c = first_as first others are (is ∙ cond-false (slice_index first 0 == 35) (Ok None) (reading_behind first others) c)

  pub says : Says line
  says = fields_as (fields_of (without_return line)) (are_fields (without_return line)) refl

-- A line says the command of which it is a written form.

-- the command of a packet that has no fault
made_if : (make : ℕ → List ℕ → Command) (moment : ℕ) (octets : List ℕ) (command : Command) (fault : Option PacketFault)
    → fault_of octets ≡ fault → command_by make moment (packet_by octets fault) ≡ Ok (Some command) → (make moment octets ≡ command) × (fault_of octets ≡ None)
made_if make moment octets command (Some fault) faulty says = absurd cc
made_if make moment octets command None whole says = let same : make moment octets ≡ command = cc in (same, whole)

spells_if : (line : List ℕ) (command : Command) → reading_of line ≡ Ok (Some command) → Says line → Spells line command
spells_if line command is (skipped none) = let no : Ok None ≡ Ok (Some command) = sym (skipped_says line none) ∙ is in absurd cc
spells_if line command is (no_form none) = let no : Err Form ≡ Ok (Some command) = sym none ∙ is in absurd cc
spells_if line command is (arrival has) =
    let made = made_if Arrival has.0 has.1 command (fault_of has.1) refl (sym (arrival_says line has.0 has.1 has.2) ∙ is) in
    subst (Spells line) made.0 (has.2, (fault_of-none has.1).0 made.1)
spells_if line command is (request has) =
    let made = made_if Request has.0 has.1 command (fault_of has.1) refl (sym (request_says line has.0 has.1 has.2) ∙ is) in
    subst (Spells line) made.0 (has.2, (fault_of-none has.1).0 made.1)
spells_if line command is (granted moment form) =
    let e : Ok (Some (Grant moment)) ≡ Ok (Some command) = sym (grant_says line moment form) ∙ is in let same : Grant moment ≡ command = cc in subst (Spells line) same form
spells_if line command is (idle moment form) =
    let e : Ok (Some (Idle moment)) ≡ Ok (Some command) = sym (idle_says line moment form) ∙ is in let same : Idle moment ≡ command = cc in subst (Spells line) same form

spelled_says : (line : List ℕ) (command : Command) → Spells line command → reading_of line ≡ Ok (Some command)
spelled_says line (Arrival moment packet) spells =
    arrival_says line moment packet spells.0 ∙ ap (λ (o : Option PacketFault). command_by Arrival moment (packet_by packet o)) ((fault_of-none packet).1 spells.1)
spelled_says line (Request moment packet) spells =
    request_says line moment packet spells.0 ∙ ap (λ (o : Option PacketFault). command_by Request moment (packet_by packet o)) ((fault_of-none packet).1 spells.1)
spelled_says line (Grant moment) spells = grant_says line moment spells
spelled_says line (Idle moment) spells = idle_says line moment spells

pub reading_of-spells : (line : List ℕ) (command : Command) → (reading_of line ≡ Ok (Some command)) ↔ Spells line command
reading_of-spells line command = (λ is. spells_if line command is (says line), spelled_says line command)

-- It says nothing where it has no field or is a comment.

pub packet_reads : (make : ℕ → List ℕ → Command) (moment : ℕ) (octets : List ℕ) (fault : Option PacketFault) → command_by make moment (packet_by octets fault) ≡ Ok None → ⊥
packet_reads make moment octets None is = cc
packet_reads make moment octets (Some fault) is = cc

skipped_if : (line : List ℕ) → reading_of line ≡ Ok None → Says line → IsSkipped line
skipped_if line is (skipped none) = none
skipped_if line is (no_form none) = let no : Err Form ≡ Ok None = sym none ∙ is in absurd cc
skipped_if line is (arrival has) = absurd (packet_reads Arrival has.0 has.1 (fault_of has.1) (sym (arrival_says line has.0 has.1 has.2) ∙ is))
skipped_if line is (request has) = absurd (packet_reads Request has.0 has.1 (fault_of has.1) (sym (request_says line has.0 has.1 has.2) ∙ is))
skipped_if line is (granted moment form) = let no : Ok (Some (Grant moment)) ≡ Ok None = sym (grant_says line moment form) ∙ is in absurd cc
skipped_if line is (idle moment form) = let no : Ok (Some (Idle moment)) ≡ Ok None = sym (idle_says line moment form) ∙ is in absurd cc

pub reading_of-skipped : (line : List ℕ) → (reading_of line ≡ Ok None) ↔ IsSkipped line
reading_of-skipped line = (λ is. skipped_if line is (says line), skipped_says line)
