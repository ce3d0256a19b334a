-- What is judged when a record is loaded by its place.
use Rattle.std.specs.Prelude.{◌≡◌, ◌≢◌, ⊤, ℕ, ◌+◌, ◌*◌, ◌<◌, ◌≤◌, ◌^◌, ◌==◌, not}
use Rattle.std.specs.Prelude.{List, [], ◌∷◌, length, take, drop, filter, Result, Ok, Err}
use Rattle.octet_fields.specs.Fields.{field}
use Rattle.space_packet.specs.Charge.{charge_of}
use Rattle.space_packet.specs.Packet.{said_length, version_of}
use Rattle.commit_gate.specs.Entries.{octets_from}
use Rattle.record_view.specs.Records.{Meaning}
use Rattle.record_view.specs.View.{meaning_of}
use Rattle.record_view.specs.declared.view.RecordView.{RecordView}
use Rattle.chain_log.specs.declared.place.LoadFault.{LoadFault}
use Rattle.chain_log.specs.declared.place.LoadFault.TheVariants.{Flash, Mismatch}
use Rattle.chain_log.specs.declared.place.Place.{Place}

-- the pages of a place lie in one block of a device, and its packet has 7 to 4,096 octets
pub record IsPlace (blocks : ℕ) (place : Place) : Type 0 where
  pub block : place.block < blocks
  pub within : place.page + charge_of place.length ≤ 256
  pub shortest : 7 ≤ place.length
  pub longest : place.length ≤ 4096

-- the octets of a place
abbrev pub octets_at : (ℕ → List ℕ) → Place → List ℕ
octets_at content place =
    octets_from content (256 * place.block + place.page) (charge_of place.length)

-- the packet of this length behind a record's head
abbrev pub packet_in : List ℕ → ℕ → List ℕ
packet_in octets long = take long (drop 16 octets)

-- What was kept of a record, each beside what is found: its number, its length, the version of a
-- packet, and the packet's own length.
abbrev pub pairs_of : ℕ → ℕ → List ℕ → List (ℕ × ℕ)
pairs_of number long octets =
    (number, field 4 6 octets) ∷ (long, field 2 10 octets)
    ∷ (0, version_of (packet_in octets long)) ∷ (long, said_length (packet_in octets long)) ∷ []

-- the pairs that differ
abbrev pub differences : ℕ → ℕ → List ℕ → List (ℕ × ℕ)
differences number long octets =
    filter (λ pair. not (pair.0 == pair.1)) (pairs_of number long octets)

-- No pair differs, and this is the record. Octets 12 to 15 are not looked at.
pub record IsFound (octets : List ℕ) (number long : ℕ) (meaning : Meaning) : Type 0 where
  pub none_differs : differences number long octets ≡ []
  pub record_is : meaning
      ≡ record { number = number; stamp = field 6 0 octets; packet = packet_in octets long }

-- A mismatch is the first pair that differs.
abbrev pub IsFirstDifference : List ℕ → ℕ → ℕ → LoadFault → Type 0
IsFirstDifference octets number long Flash = ⊤
IsFirstDifference octets number long (Mismatch block page kept found) =
    (rest : List (ℕ × ℕ)) × (differences number long octets ≡ (kept, found) ∷ rest)

-- On each board, a mismatch names its place and two numbers that differ.
abbrev pub IsMismatchAt : Place → LoadFault → Type 0
IsMismatchAt place Flash = ⊤
IsMismatchAt place (Mismatch block page kept found) =
    (block ≡ place.block) × (page ≡ place.page) × (kept ≢ found)

-- On each board, what is loaded has the number and the length that were kept.
pub record IsKept (number long : ℕ) (view : RecordView) : Type 0 where
  pub same_number : view.number ≡ number
  pub stamp : view.stamp < 2 ^ 48
  pub same_length : length (meaning_of view).packet ≡ long

-- It is this record, if the flash did not fail.
abbrev pub Gives : Meaning → Result RecordView LoadFault → Type 0
Gives meaning (Ok view) = meaning_of view ≡ meaning
Gives meaning (Err Flash) = ⊤
Gives meaning (Err (Mismatch block page kept found)) = ⊥

-- Something that holds of an answer by what kind it is: of one after a read that failed, and of
-- each other.
abbrev pub OnFlash : {A : Type 0} → Result A LoadFault → Type 0 → Type 0
OnFlash (Ok answer) P = ⊤
OnFlash (Err Flash) P = P
OnFlash (Err (Mismatch block page kept found)) P = ⊤

abbrev pub UnlessFlash : {A : Type 0} → Result A LoadFault → Type 0 → Type 0
UnlessFlash (Ok answer) P = P
UnlessFlash (Err Flash) P = ⊤
UnlessFlash (Err (Mismatch block page kept found)) P = P
