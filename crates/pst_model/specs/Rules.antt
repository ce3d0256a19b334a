-- What goes out, what a put does to a store, and what a grant does to the table (ECSS-E-ST-70-41C,
-- 6.15.3).
use Rattle.std.specs.Prelude.{ℕ, ◌+◌, ◌-◌, ◌&&◌, ◌||◌, nat_le, nat_lt, Bool, true, false, is_some, if◌then◌else◌, List, [], ◌∷◌, ◌++◌, length, find, get_or, Option, Some, None}
use Rattle.space_packet.specs.Charge.{charge_of}
use Rattle.control_defs.specs.declared.instructions.StoreKind.{StoreKind}
use Rattle.control_defs.specs.declared.instructions.StoreKind.TheVariants.{Circular, Bounded}
use Rattle.pst_model.specs.Least.{least}
use Rattle.pst_model.specs.Table.{Store, Stored, Table, content_of, drop_front}

-- What goes out: a forwarded packet, a report or a retrieved packet, with the number of its
-- command.
pub data OutputKind : Type 0 where
  Forwarded : OutputKind
  Reply : OutputKind
  Retrieved : OutputKind

pub record Output : Type 0 where
  pub command : ℕ
  pub kind : OutputKind
  pub channel : ℕ
  pub packet : List ℕ

-- the table behind a command, and what goes out
pub record Step : Type 0 where
  pub table : Table
  pub outputs : List Output

-- What a put gives: the store with the packet, or a refusal with the pages that it needs and those
-- free.
pub data Put : Type 0 where
  Taken : Store → Put
  Refused : (need free : ℕ) → Put

abbrev pub is_bounded : StoreKind → Bool
is_bounded Circular = false
is_bounded Bounded = true

abbrev pub free_of : Store → ℕ
free_of store = store.size - content_of store

-- a packet that no circular store of this size can hold, or for which a bounded store has no room
abbrev pub is_refused : Store → (need : ℕ) → Bool
is_refused store need =
    nat_lt store.size need || (is_bounded store.kind && nat_lt (free_of store) need)

-- whether the store without its first packets has room for so many pages
abbrev pub has_room : Store → (need count : ℕ) → Bool
has_room store need count = nat_le (content_of (drop_front store count) + need) store.size

-- how many packets leave the front for so many pages: the fewest
abbrev pub to_drop : Store → (need : ℕ) → ℕ
to_drop store need = least (has_room store need) (length store.packets)

-- the store with the packet as its last one
abbrev pub with_last : Store → Stored → Store
with_last store stored = record store { packets = store.packets ++ stored ∷ []; told = false }

-- Putting a packet into a store: it goes last, behind the fewest packets that have to leave the
-- front.
abbrev pub put : Store → Stored → Put
put store stored =
    let need = charge_of (length stored.octets) in
    if is_refused store need then Refused need (free_of store)
    else Taken (with_last (drop_front store (to_drop store need)) stored)

abbrev pub behind_put : Store → Put → Store
behind_put store (Taken next) = next
behind_put store (Refused need free) = record store { told = true }

-- the packet at a position of a store
abbrev pub packet_at : Store → ℕ → List ℕ
packet_at store position = (get_or store.packets position (record { time = 0; octets = [] })).octets

-- where a range retrieval sends next
abbrev pub range_next : Option (ℕ × ℕ) → ℕ
range_next None = 0
range_next (Some (next, end)) = next

-- a range behind its first position: none where that was its last
abbrev pub range_sent : Option (ℕ × ℕ) → Option (ℕ × ℕ)
range_sent None = None
range_sent (Some (next, end)) = if nat_lt (next + 1) end then Some (next + 1, end) else None

abbrev pub has_range : Store → Bool
has_range store = is_some store.range

abbrev pub has_ahead : Store → Bool
has_ahead store = store.open_on && nat_lt store.behind (length store.packets)

-- the first store that passes the test, changed
abbrev pub at_first : (Store → Bool) → (Store → Store) → List Store → List Store
at_first test change [] = []
at_first test change (store ∷ stores) =
    if test store then change store ∷ stores else store ∷ at_first test change stores

abbrev pub retrieved : (number : ℕ) → Store → (position : ℕ) → List Output
retrieved number store position =
    record {
      command = number;
      kind = Retrieved;
      channel = store.channel;
      packet = packet_at store position;
    } ∷ []

abbrev pub grant_open : (number : ℕ) → Table → Option Store → Step
grant_open number table None = record { table = table; outputs = [] }
grant_open number table (Some store) = record {
  table = record table {
    stores = at_first has_ahead (λ store. record store { behind = store.behind + 1 }) table.stores;
  };
  outputs = retrieved number store store.behind;
}

abbrev pub grant_range : (number : ℕ) → Table → Option Store → Step
grant_range number table None = grant_open number table (find has_ahead table.stores)
grant_range number table (Some store) = record {
  table = record table {
    stores = at_first has_range (λ store. record store { range = range_sent store.range }) table.stores;
  };
  outputs = retrieved number store (range_next store.range);
}

-- A grant: the first store with a range sends the packet at its front; where there is none, the
-- first store whose open retrieval has packets ahead sends the first of them.
abbrev pub grant : (number : ℕ) → Table → Step
grant number table = grant_range number table (find has_range table.stores)
