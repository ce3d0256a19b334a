-- What an arriving packet does to one store: the changes of its directory, and what its blocks spell.
use Rattle.std.specs.Prelude.{◌≡◌, ◌≤◌, ◌<◌, ◌^◌, ℕ, ◌+◌, Bool, true, false, List, [], ◌∷◌, ◌++◌, length, map, Option, Some, None}
use Rattle.space_packet.specs.Charge.{charge_of}
use Rattle.chain_log.specs.Pages.{block_octets}
use Rattle.pst_model.specs.Arrivals.{is_offered}
use Rattle.pst_model.specs.Rules.{is_refused, to_drop}
use Rattle.pst_model.specs.Table.{Store, Stored}
use Rattle.record_view.specs.Records.{record_at}
use Rattle.record_view.specs.declared.link.Link.{Link}
use Rattle.retrieval.specs.Picks.{dropped_row}
use Rattle.store_directory.specs.Changes.{Change, Links, Put, listed_by}
use Rattle.store_directory.specs.Directory.{Directory, Listed, is_new}
use Rattle.store_directory.specs.declared.row.Row.{Row}
use Rattle.store_load.specs.Claims.{all_links, block_of, is_data}
use Rattle.store_load.specs.Extents.{end_of, last_of}
use Rattle.store_load.specs.Moving.{used_by}

-- What a store does with an arriving packet: it stays as it is; it refuses it, which is told for the
-- first time; it takes it into its last block, behind so many packets that leave the front; or it
-- takes it into a new block.
pub data Outcome : Type 0 where
  Stays : Outcome
  Tells : Outcome
  Takes : (gone : ℕ) → Outcome
  Begins : (gone : ℕ) → Link → Outcome

-- the row of a store that tells a refusal
abbrev pub told_row : Row → Row
told_row row = record row { told = true }

-- the row with one record behind its last one
abbrev pub with_one_more : Row → Row
with_one_more row = record row { count = row.count + 1; told = false }

-- the row behind a put: so many packets leave the front, and one goes last
abbrev pub row_behind_put : (gone : ℕ) → Row → Row
row_behind_put gone row = with_one_more (dropped_row gone row)

-- the changes of one store
abbrev pub changes_of_put : Row → Outcome → List Change
changes_of_put row Stays = []
changes_of_put row Tells = Put (told_row row) ∷ []
changes_of_put row (Takes gone) = Put (row_behind_put gone row) ∷ []
changes_of_put row (Begins gone link) =
    Links row.identifier (link ∷ []) ∷ Put (row_behind_put gone row) ∷ []

-- what the directory lists of the store behind them
abbrev pub listed_behind : Outcome → Listed → Listed
listed_behind Stays s = s
listed_behind Tells s = listed_by (told_row s.row) (Some s)
listed_behind (Takes gone) s = listed_by (row_behind_put gone s.row) (Some s)
listed_behind (Begins gone link) s =
    listed_by (row_behind_put gone s.row) (Some (record s { links = s.links ++ link ∷ [] }))

-- the pages that a packet takes
abbrev pub need_of : Stored → ℕ
need_of stored = charge_of (length stored.octets)

-- A store is offered a packet and refuses it.
pub record Refuses (store : Store) (stored : Stored) : Type 0 where
  pub offered : is_offered stored.octets store ≡ true
  pub refused : is_refused store (need_of stored) ≡ true

-- A store is offered a packet and takes it, behind the fewest packets that have to leave.
pub record Accepts (store : Store) (stored : Stored) (gone : ℕ) : Type 0 where
  pub offered : is_offered stored.octets store ≡ true
  pub room : is_refused store (need_of stored) ≡ false
  pub leaving : gone ≡ to_drop store (need_of stored)
  pub short : length stored.octets ≤ 4096

-- A page of a block spells the record of a packet with this number.
abbrev pub SpellsAt : (image : ℕ → List ℕ) → (block page number : ℕ) → Stored → Type 0
SpellsAt image block page number stored =
    record_at (block_octets image block) number page
    ≡ Some (record { number = number; stamp = stored.time; packet = stored.octets })

-- The record is spelled behind the last one of a store, in its last block.
pub record SpellsBehind (image : ℕ → List ℕ) (s : Listed) (stored : Stored) : Type 0 where
  pub link : Link
  pub links : List Link
  pub some : s.links ≡ link ∷ links
  pub spelled : SpellsAt image (last_of link links).block (used_by image s.row link links) (end_of s.row) stored

-- the link of a store's last block, where it has one
abbrev pub last_link : List Link → Option Link
last_link [] = None
last_link (link ∷ links) = Some (last_of link links)

-- no store's link names this block
abbrev pub is_unnamed : (block : ℕ) → Directory → Bool
is_unnamed block d = is_new block (map block_of (all_links d.stores))

-- a last block has no room for each packet any more, and a store without blocks has none
abbrev pub IsFull : (image : ℕ → List ℕ) → Row → List Link → Type 0
IsFull image row [] = Unit {0}
IsFull image row (link ∷ links) = 240 ≤ used_by image row link links

-- A data block that no store names begins with the record, whose number is the one behind the store's
-- last record. The last block before it is full.
pub record SpellsFirst (blocks : ℕ) (image : ℕ → List ℕ) (d : Directory) (s : Listed) (link : Link)
    (stored : Stored) : Type 0 where
  pub own : is_data blocks link ≡ true
  pub numbered : link.block < 2 ^ 16
  pub unnamed : is_unnamed link.block d ≡ true
  pub first : link.first ≡ end_of s.row
  pub full : IsFull image s.row s.links
  pub spelled : SpellsAt image link.block 0 (end_of s.row) stored
