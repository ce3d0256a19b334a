-- A walk on other images, and its end.
use Rattle.std.proofs.Common.{◌≡◌, ℕ, ◌<◌, ◌≤◌, ◌^◌, true, false, ◌==◌, List, [], ◌∷◌, ◌++◌, append-nil, length, map, drop, Option, Some, refl, sym, ◌∙◌, ap, arith}
use Rattle.std.specs.Prelude.{max}
use Rattle.std.proofs.lemmas.Bool.{cond-false, cond-true}
use Rattle.std.proofs.lemmas.List.{drop_all, take_all}
use Rattle.std.specs.List.{All}
use Rattle.std.proofs.lemmas.List.Elements.{All-cons, All-nil}
use Rattle.board.specs.Flash.{IsContent}
use Rattle.image_table.specs.Table.{in_records, table_by}
use Rattle.image_table.proofs.Frames.{records_kept, table_loads}
use Rattle.image_table.proofs.Puts.{clock_goes}
use Rattle.pst_model.specs.Arrivals.{arrive, forwarded_on, offer, offered}
use Rattle.pst_model.specs.Replies.{behind_outputs}
use Rattle.pst_model.specs.Rules.{Step}
use Rattle.pst_model.specs.Table.{Store, Stored, Table}
use Rattle.space_packet.specs.Packet.{apid_of}
use Rattle.store_directory.specs.Changes.{Change, Clock, apply_all}
use Rattle.store_directory.specs.Directory.{Directory, IsDirectory}
use Rattle.store_directory.specs.Entries.{FitsChange, entry_octets}
use Rattle.store_directory.specs.Folds.{fold_entry}
use Rattle.store_directory.specs.Options.{◌>>=◌}
use Rattle.store_directory.proofs.WrittenChanges.{changes_in-octets}
use Rattle.put_laws.proofs.Clocks.{clock_applies}
use Rattle.put_laws.specs.Walks.{HasOffered, offered_to, table_at}

module _ (blocks : ℕ) (image : ℕ → List ℕ) (d : Directory) (table : Table) (stored : Stored) (at : ℕ) (changes : List Change) (next : Directory)
    (walk : HasOffered blocks image d table stored at changes next) where
  pub beside : (other : ℕ → List ℕ) → IsContent blocks other → ((p : ℕ) → in_records image p next ≡ true → other p ≡ image p)
      → HasOffered blocks other d table stored at changes next
  beside other pages same = record {
    pages = pages;
    made = walk.made;
    written = walk.written;
    short = walk.short;
    directory = walk.directory;
    loads = records_kept blocks image other walk.pages pages next same (table_at stored at table) walk.loads;
    left = walk.left;
  }

  pub folds : fold_entry d (entry_octets changes) ≡ Some next
  unfolding fold_entry
  folds = ap (λ (o : Option (List Change)). o >>= apply_all d) (changes_in-octets changes walk.written) ∙ walk.made

all_offered : (stored : Stored) (at : ℕ) (stores : List Store) → length stores ≤ at → offered_to stored at stores ≡ map (offered stored) stores
all_offered stored at stores few =
    ap (λ (l : List Store). map (offered stored) l ++ drop at stores) (take_all at stores few)
    ∙ ap (λ (l : List Store). map (offered stored) stores ++ l) (drop_all at stores few)
    ∙ append-nil (map (offered stored) stores)

arrived : (number moment : ℕ) (packet : List ℕ) (table : Table) → (apid_of packet == 2047) ≡ false
    → (arrive number moment packet table).table ≡ (offer number moment (record { time = max table.now moment; octets = packet }) table).table
arrived number moment packet table is =
    let now = max table.now moment in
    ap (λ (step : Step). step.table)
    (cond-false (apid_of packet == 2047) (record { table = record table { now = now }; outputs = [] })
    (behind_outputs (forwarded_on number packet table) (offer number moment (record { time = now; octets = packet }) table)) is)

pub ends : (blocks : ℕ) (image : ℕ → List ℕ) (d : Directory) (table : Table) (number moment : ℕ) (packet : List ℕ) (at : ℕ) (changes : List Change) (next : Directory)
    → HasOffered blocks image d table (record { time = max table.now moment; octets = packet }) at changes next
    → length table.stores ≤ at → (apid_of packet == 2047) ≡ false
    → table_by blocks image next ≡ Some (arrive number moment packet table).table
ends blocks image d table number moment packet at changes next walk few is =
    let stored : Stored = record { time = max table.now moment; octets = packet } in
    walk.loads
    ∙ ap (λ (l : List Store). Some (record (table_at stored at table) { stores = l })) (all_offered stored at table.stores few)
    ∙ ap Some (sym (arrived number moment packet table is))

-- an idle packet

idle : (number moment : ℕ) (packet : List ℕ) (table : Table) → (apid_of packet == 2047) ≡ true
    → (arrive number moment packet table).table ≡ record table { now = max table.now moment }
idle number moment packet table is =
    let now = max table.now moment in
    ap (λ (step : Step). step.table)
    (cond-true (apid_of packet == 2047) (record { table = record table { now = now }; outputs = [] })
    (behind_outputs (forwarded_on number packet table) (offer number moment (record { time = now; octets = packet }) table)) is)

pub idle_ends : (blocks : ℕ) (image : ℕ → List ℕ) (d : Directory) (table : Table) (number moment : ℕ) (packet : List ℕ)
    → IsContent blocks image → IsDirectory d → table_by blocks image d ≡ Some table
    → max table.now moment < 2 ^ 48 → (apid_of packet == 2047) ≡ true
    → (next : Directory) × IsDirectory next × (next.stores ≡ d.stores)
    × (fold_entry d (entry_octets (Clock (max table.now moment) table.reports ∷ [])) ≡ Some next)
    × (table_by blocks image next ≡ Some (arrive number moment packet table).table)
unfolding fold_entry
idle_ends blocks image d table number moment packet pages directory loads low is =
    let now = max table.now moment in
    let loaded = table_loads blocks image d table loads in
    let reports : table.reports ≡ d.reports = sym (ap (λ (t : Table). t.reports) loaded.whole) in
    let before : d.now ≡ table.now = ap (λ (t : Table). t.now) loaded.whole in
    let few : table.reports < 16384 = omega (arith, reports, directory.reports) in
    let next : Directory = record d { now = now; reports = table.reports } in
    let kept : IsDirectory next = record { now = low; reports = few; forward = directory.forward; stores = directory.stores } in
    let applied = clock_applies d now table.reports few in
    let change = Clock now table.reports in
    let fits : All FitsChange (change ∷ []) = All-cons FitsChange change [] (low, omega (arith, few)) (All-nil FitsChange) in (
      next,
      kept,
      refl,
      ap (λ (o : Option (List Change)). o >>= apply_all d) (changes_in-octets (change ∷ []) fits) ∙ rw applied refl,
      clock_goes blocks image d table now table.reports next loads applied (omega (arith, before, grows table.now moment))
          ∙ ap Some (sym (idle number moment packet table is)),
    )
  where
    grows : (a b : ℕ) → a ≤ max a b
    grows a b = omega arith
