-- Small worked inputs, which the definitions compute.
use Rattle.std.proofs.Common.{◌≡◌, ℕ, List, [], ◌∷◌, ◌++◌, Some, None, refl}
use Rattle.std.specs.Prelude.{replicate}
use Rattle.pus_header.specs.Commands.{acks_of, service_of, source_of, subtype_of, tc_fault_of}
use Rattle.pus_header.specs.declared.faults.TcFault.TheVariants.{NotCommand, NoHeader, WrongVersion}
use Rattle.pus_header.specs.Keys.{key_of}
use Rattle.pus_header.specs.Reports.{report_head}

-- a report [3,25] of APID 100, and a packet of APID 100 with no secondary header
abbrev report : List ℕ
report = 8 ∷ 100 ∷ 192 ∷ 0 ∷ 0 ∷ 13 ∷ 32 ∷ 3 ∷ 25 ∷ replicate 9 0 ++ 16 ∷ 170 ∷ []

abbrev plain : List ℕ
plain = 0 ∷ 100 ∷ 192 ∷ 0 ∷ 0 ∷ 0 ∷ 170 ∷ []

key_of_report : key_of report ≡ record { apid = 100; kind = Some (3, 25) }
key_of_report = refl

key_of_plain : key_of plain ≡ record { apid = 100; kind = None }
key_of_plain = refl

-- a request [15,18] of APID 10
abbrev request : List ℕ
request = 24 ∷ 10 ∷ 192 ∷ 0 ∷ 0 ∷ 4 ∷ 41 ∷ 15 ∷ 18 ∷ 0 ∷ 5 ∷ []

no_fault : tc_fault_of request ≡ None
no_fault = refl

acks : acks_of request ≡ 9
acks = refl

service : service_of request ≡ 15
service = refl

subtype : subtype_of request ≡ 18
subtype = refl

source : source_of request ≡ 5
source = refl

-- telemetry, a telecommand with no secondary header, one with four octets of it, and one of version
-- 1
not_command : tc_fault_of report ≡ Some NotCommand
not_command = refl

flag_not_set : tc_fault_of (16 ∷ 10 ∷ 192 ∷ 0 ∷ 0 ∷ 4 ∷ 25 ∷ 15 ∷ 18 ∷ 0 ∷ 0 ∷ []) ≡ Some NoHeader
flag_not_set = refl

too_short : tc_fault_of (24 ∷ 10 ∷ 192 ∷ 0 ∷ 0 ∷ 3 ∷ 25 ∷ 15 ∷ 18 ∷ 0 ∷ []) ≡ Some NoHeader
too_short = refl

wrong_version : tc_fault_of (24 ∷ 10 ∷ 192 ∷ 0 ∷ 0 ∷ 4 ∷ 25 ∷ 15 ∷ 18 ∷ 0 ∷ 0 ∷ []) ≡ Some (WrongVersion 1)
wrong_version = refl

-- the head of a report [1,2] at moment 7, with 6 octets of data
head : report_head 0 1 2 7 6 ≡ 8 ∷ 10 ∷ 192 ∷ 0 ∷ 0 ∷ 18 ∷ 32 ∷ 1 ∷ 2 ∷ replicate 9 0 ++ 7 ∷ []
head = refl
