-- Grants and counted reports on small images, as equations that the check computes.
use Rattle.std.proofs.Common.{◌≡◌, ℕ, false, true, List, [], ◌∷◌, Option, refl}
use Rattle.std.specs.Prelude.{Some, None}
use Rattle.board.specs.Flash.{blank}
use Rattle.commit_gate.specs.Entries.{octets_from}
use Rattle.meta_journal.proofs.DirectoryRows.{image_of}
use Rattle.pst_model.specs.Rules.{Retrieved, grant}
use Rattle.pst_model.specs.Table.{Table, boot_store}
use Rattle.record_view.specs.Records.{record_at, records_from}
use Rattle.retrieval.specs.Picks.{pick_of}
use Rattle.store_directory.specs.Changes.{Change, apply}
use Rattle.store_directory.specs.Checkpoints.{is_lawful}
use Rattle.store_directory.specs.Directory.{Directory}
use Rattle.store_directory.specs.Format.{first_row, first_store}
use Rattle.store_directory.specs.Options.{◌>>=◌}
use Rattle.store_directory.specs.declared.row.Row.{Row}
use Rattle.store_load.specs.Extents.{all_records, read_extent}
use Rattle.store_load.specs.Kept.{kept_of}
use Rattle.store_load.proofs.KeptRows.{link, packet, page_of}
use Rattle.image_table.specs.Granting.{counted, put_sent}
use Rattle.image_table.specs.Table.{table_by}
use Rattle.image_table.proofs.TableRows.{at_time}

-- Two records in one store: where its retrievals stand.
abbrev image : ℕ → List ℕ
image = image_of ((1792, page_of 0 4) ∷ (1793, page_of 1 5) ∷ [])

abbrev row_at : (behind : ℕ) → Option (ℕ × ℕ) → Row
row_at behind range = record first_row { count = 2; behind = behind; range = range }

abbrev at : (reports behind : ℕ) → Option (ℕ × ℕ) → Directory
at reports behind range = record {
  now = 5;
  reports = reports;
  forward = [];
  stores = record { row = row_at behind range; patterns = first_store.patterns; links = link 7 0 ∷ [] } ∷ [];
}

abbrev table_at : (reports behind : ℕ) → Option (ℕ × ℕ) → Table
table_at reports behind range = record {
  now = 5;
  reports = reports;
  forward = [];
  stores = record boot_store { packets = at_time 4 ∷ at_time 5 ∷ []; behind = behind; range = range } ∷ [];
}

abbrev after : Directory → Change → Option Table
after d change = apply d change >>= table_by 16 image

-- open retrieval passes its first packet
open_picked : pick_of (at 1 0 None).stores ≡ Some (record { at = 0; position = 0; channel = 1; range = false })
open_picked = refl

open_table : after (at 1 0 None) (put_sent (record { at = 0; position = 0; channel = 1; range = false }) (row_at 0 None)) ≡ Some (table_at 1 1 None)
unfolding table_by apply kept_of read_extent all_records records_from record_at octets_from blank is_lawful
open_table = refl

open_granted : (grant 3 (table_at 1 0 None)).table ≡ table_at 1 1 None
open_granted = refl

-- a range ends behind its last packet, and goes before open retrieval
range_picked : pick_of (at 1 0 (Some (1, 2))).stores ≡ Some (record { at = 0; position = 1; channel = 1; range = true })
range_picked = refl

range_table : after (at 1 0 (Some (1, 2))) (put_sent (record { at = 0; position = 1; channel = 1; range = true }) (row_at 0 (Some (1, 2)))) ≡ Some (table_at 1 0 None)
unfolding table_by apply kept_of read_extent all_records records_from record_at octets_from blank is_lawful
range_table = refl

range_granted : (grant 3 (table_at 1 0 (Some (1, 2)))).outputs ≡ record { command = 3; kind = Retrieved; channel = 1; packet = packet } ∷ []
range_granted = refl

-- all packets were sent
none_picked : pick_of (at 1 2 None).stores ≡ None
none_picked = refl

-- one more report, and two beyond the last number
one_more : after (at 1 0 None) (counted 1 (at 1 0 None)) ≡ Some (table_at 2 0 None)
unfolding table_by apply kept_of read_extent all_records records_from record_at octets_from blank is_lawful
one_more = refl

begun_again : after (at 16383 0 None) (counted 2 (at 16383 0 None)) ≡ Some (table_at 1 0 None)
unfolding table_by apply kept_of read_extent all_records records_from record_at octets_from blank is_lawful
begun_again = refl
