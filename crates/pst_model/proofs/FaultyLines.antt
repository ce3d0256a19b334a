-- Which fault a bad line has: that of its limits, of its form or of its packet.
use Rattle.std.proofs.Common.{◌≡◌, ◌⊎◌, inl, inr, ℕ, ◌+◌, ◌<◌, ◌≤◌, ◌-◌, Bool, true, false, List, length, Option, Some, None, Ok, Err, refl, sym, ◌∙◌, ap, arith}
use Rattle.std.proofs.lemmas.Bool.{cond-false, cond-true, false≢true, le-ltb, lt-ltb, ltb-false, ltb-true}
use Rattle.std.specs.Prelude.{◌↔◌, min, nat_lt}
use Rattle.space_packet.specs.Packet.{fault_of}
use Rattle.space_packet.specs.declared.fault.PacketFault.{PacketFault}
use Rattle.pst_model.specs.declared.faults.LineFault.TheVariants.{Form, LongLine, Packet, TextLimit}
use Rattle.pst_model.specs.Command.{Command, Arrival, Request, Grant, Idle}
use Rattle.pst_model.specs.Forms.{HasPacketForm, Reading, command_by, packet_by, reading_of}
use Rattle.pst_model.specs.Text.{IsCut, Line, is_cut, line_reading, size_of}
use Rattle.pst_model.proofs.WrittenForms.{Says, arrival_says, granted, grant_says, idle, idle_says, no_form, request_says, says, skipped, skipped_says, arrival, request}

-- A line says the fault of its packet where it has the form of an arrival or of a request.

abbrev pub HasFault : List ℕ → PacketFault → Type 0
HasFault line fault = (moment : ℕ) × (octets : List ℕ) × (HasPacketForm 65 line moment octets ⊎ HasPacketForm 82 line moment octets) × (fault_of octets ≡ Some fault)

fault_if : (make : ℕ → List ℕ → Command) (moment : ℕ) (octets : List ℕ) (fault : PacketFault) (found : Option PacketFault)
    → fault_of octets ≡ found → command_by make moment (packet_by octets found) ≡ Err (Packet fault) → fault_of octets ≡ Some fault
fault_if make moment octets fault (Some found) faulty says = let same : found ≡ fault = cc in faulty ∙ ap Some same
fault_if make moment octets fault None whole says = absurd cc

faulty_if : (line : List ℕ) (fault : PacketFault) → reading_of line ≡ Err (Packet fault) → Says line → HasFault line fault
faulty_if line fault is (skipped none) = let no : Ok None ≡ Err (Packet fault) = sym (skipped_says line none) ∙ is in absurd cc
faulty_if line fault is (no_form none) = let no : Err Form ≡ Err (Packet fault) = sym none ∙ is in absurd cc
faulty_if line fault is (arrival has) = (has.0, has.1, inl has.2, fault_if Arrival has.0 has.1 fault (fault_of has.1) refl (sym (arrival_says line has.0 has.1 has.2) ∙ is))
faulty_if line fault is (request has) = (has.0, has.1, inr has.2, fault_if Request has.0 has.1 fault (fault_of has.1) refl (sym (request_says line has.0 has.1 has.2) ∙ is))
faulty_if line fault is (granted moment form) = let no : Ok (Some (Grant moment)) ≡ Err (Packet fault) = sym (grant_says line moment form) ∙ is in absurd cc
faulty_if line fault is (idle moment form) = let no : Ok (Some (Idle moment)) ≡ Err (Packet fault) = sym (idle_says line moment form) ∙ is in absurd cc

faulty_by : (line : List ℕ) (fault : PacketFault) (moment : ℕ) (octets : List ℕ) → HasPacketForm 65 line moment octets ⊎ HasPacketForm 82 line moment octets → fault_of octets ≡ Some fault → reading_of line ≡ Err (Packet fault)
faulty_by line fault moment octets (inl form) is = arrival_says line moment octets form ∙ ap (λ (o : Option PacketFault). command_by Arrival moment (packet_by octets o)) is
faulty_by line fault moment octets (inr form) is = request_says line moment octets form ∙ ap (λ (o : Option PacketFault). command_by Request moment (packet_by octets o)) is

pub reading_of-faulty : (line : List ℕ) (fault : PacketFault) → (reading_of line ≡ Err (Packet fault)) ↔ HasFault line fault
reading_of-faulty line fault = (λ is. faulty_if line fault is (says line), λ has. faulty_by line fault has.0 has.1 has.2 has.3)

-- The form of a line says nothing of its limits.

-- a reading that is not of a limit
abbrev Unlimited : Reading → Type 0
Unlimited (Ok said) = Unit {0}
Unlimited (Err TextLimit) = ⊥
Unlimited (Err LongLine) = ⊥
Unlimited (Err Form) = Unit {0}
Unlimited (Err (Packet fault)) = Unit {0}

unlimited_packet : (make : ℕ → List ℕ → Command) (moment : ℕ) (octets : List ℕ) (fault : Option PacketFault) → Unlimited (command_by make moment (packet_by octets fault))
unlimited_packet make moment octets None = tt
unlimited_packet make moment octets (Some fault) = tt

unlimited_if : (line : List ℕ) → Says line → Unlimited (reading_of line)
unlimited_if line (skipped none) = rw (skipped_says line none) tt
unlimited_if line (no_form none) = rw none tt
unlimited_if line (arrival has) = rw (arrival_says line has.0 has.1 has.2) (unlimited_packet Arrival has.0 has.1 (fault_of has.1))
unlimited_if line (request has) = rw (request_says line has.0 has.1 has.2) (unlimited_packet Request has.0 has.1 (fault_of has.1))
unlimited_if line (granted moment form) = rw (grant_says line moment form) tt
unlimited_if line (idle moment form) = rw (idle_says line moment form) tt

unlimited : (line : List ℕ) → Unlimited (reading_of line)
unlimited line = unlimited_if line (says line)

no_text_limit : (reading : Reading) → Unlimited reading → reading ≡ Err TextLimit → ⊥
no_text_limit (Ok said) un is = cc
no_text_limit (Err TextLimit) un is = un
no_text_limit (Err LongLine) un is = cc
no_text_limit (Err Form) un is = cc
no_text_limit (Err (Packet fault)) un is = cc

no_long_line : (reading : Reading) → Unlimited reading → reading ≡ Err LongLine → ⊥
no_long_line (Ok said) un is = cc
no_long_line (Err TextLimit) un is = cc
no_long_line (Err LongLine) un is = un
no_long_line (Err Form) un is = cc
no_long_line (Err (Packet fault)) un is = cc

-- the text is cut off within a line exactly where one of its first octets lies past the limit
cut_at : (limit place size : ℕ) → limit < place + min size 131201 → 0 < size → (at : ℕ) × (at < size) × (at < 131201) × (limit ≤ place + at)
cut_at limit place size cut some = (min size 131201 - 1, omega arith, omega arith, omega arith)

at_cut : (limit place size at : ℕ) → at < size → at < 131201 → limit ≤ place + at → limit < place + min size 131201
at_cut limit place size at within few past = omega arith

-- what a line says, by its tests
pub reading_cut : (limit place : ℕ) (line : Line) → is_cut limit place line ≡ true → line_reading limit place line ≡ Err TextLimit
reading_cut limit place line past = cond-true (is_cut limit place line) (Err TextLimit) _ past

pub reading_long : (limit place : ℕ) (line : Line) → is_cut limit place line ≡ false → 131200 < length line.octets → line_reading limit place line ≡ Err LongLine
reading_long limit place line whole size =
    cond-false (is_cut limit place line) (Err TextLimit) _ whole ∙ cond-true (nat_lt 131200 (length line.octets)) (Err LongLine) (reading_of line.octets) (lt-ltb _ _ size)

pub reading_short : (limit place : ℕ) (line : Line) → is_cut limit place line ≡ false → length line.octets ≤ 131200 → line_reading limit place line ≡ reading_of line.octets
reading_short limit place line whole size =
    cond-false (is_cut limit place line) (Err TextLimit) _ whole ∙ cond-false (nat_lt 131200 (length line.octets)) (Err LongLine) (reading_of line.octets) (le-ltb _ _ size)

whole_is : (limit place : ℕ) (line : Line) → 0 < size_of line → ¬ (IsCut limit place line) → is_cut limit place line ≡ false
whole_is limit place line some none = by (is_cut limit place line) refl
  where
    by : (cut : Bool) → is_cut limit place line ≡ cut → is_cut limit place line ≡ false
    by true cut = absurd (none (cut_at limit place (size_of line) (ltb-true _ _ cut) some))
    by false whole = whole

cut_is : (limit place : ℕ) (line : Line) → IsCut limit place line → is_cut limit place line ≡ true
cut_is limit place line cut = lt-ltb _ _ (at_cut limit place (size_of line) cut.0 cut.1 cut.2 cut.3)

not_cut : (limit place : ℕ) (line : Line) → is_cut limit place line ≡ false → ¬ (IsCut limit place line)
not_cut limit place line whole cut = false≢true (sym whole ∙ cut_is limit place line cut)

-- the three cases of a line's limits
pub data ByLimits (limit place : ℕ) (line : Line) : Type 0 where
  cut : is_cut limit place line ≡ true → ByLimits limit place line
  long : is_cut limit place line ≡ false → 131200 < length line.octets → ByLimits limit place line
  short : is_cut limit place line ≡ false → length line.octets ≤ 131200 → ByLimits limit place line

by_limits : (limit place : ℕ) (line : Line) → ByLimits limit place line
by_limits limit place line = by (is_cut limit place line) (nat_lt 131200 (length line.octets)) refl refl
  where
    by : (is_past over : Bool) → is_cut limit place line ≡ is_past → nat_lt 131200 (length line.octets) ≡ over → ByLimits limit place line
    by true over past size = cut past
    by false true whole size = long whole (ltb-true _ _ size)
    by false false whole size = short whole (ltb-false _ _ size)

text_limit_if : (limit place : ℕ) (line : Line) → 0 < size_of line → ByLimits limit place line → line_reading limit place line ≡ Err TextLimit → IsCut limit place line
text_limit_if limit place line some (cut past) is = cut_at limit place (size_of line) (ltb-true _ _ past) some
text_limit_if limit place line some (long whole size) is = let no : Err LongLine ≡ Err TextLimit = sym (reading_long limit place line whole size) ∙ is in absurd cc
text_limit_if limit place line some (short whole size) is = absurd (no_text_limit (reading_of line.octets) (unlimited line.octets) (sym (reading_short limit place line whole size) ∙ is))

pub text_limit : (limit place : ℕ) (line : Line) → 0 < size_of line → (line_reading limit place line ≡ Err TextLimit) ↔ IsCut limit place line
text_limit limit place line some = (text_limit_if limit place line some (by_limits limit place line), λ past. reading_cut limit place line (cut_is limit place line past))

long_line_if : (limit place : ℕ) (line : Line) → ByLimits limit place line → line_reading limit place line ≡ Err LongLine → ¬ (IsCut limit place line) × (131200 < length line.octets)
long_line_if limit place line (cut past) is = let no : Err TextLimit ≡ Err LongLine = sym (reading_cut limit place line past) ∙ is in absurd cc
long_line_if limit place line (long whole size) is = (not_cut limit place line whole, size)
long_line_if limit place line (short whole size) is = absurd (no_long_line (reading_of line.octets) (unlimited line.octets) (sym (reading_short limit place line whole size) ∙ is))

pub long_line : (limit place : ℕ) (line : Line) → (line_reading limit place line ≡ Err LongLine) ↔ (¬ (IsCut limit place line) × (131200 < length line.octets))
long_line limit place line =
    (long_line_if limit place line (by_limits limit place line), λ is. reading_long limit place line (whole_is limit place line (omega (arith, is.1)) is.0) is.1)

pub within_limits : (limit place : ℕ) (line : Line) → 0 < size_of line → ¬ (IsCut limit place line) → length line.octets ≤ 131200 → line_reading limit place line ≡ reading_of line.octets
within_limits limit place line some none size = reading_short limit place line (whole_is limit place line some none) size
