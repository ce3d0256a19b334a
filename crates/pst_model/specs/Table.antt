-- The table of the packet stores (ECSS-E-ST-70-41C, 6.14 and 6.15), over plain lists and numbers.
use Rattle.std.specs.Prelude.{ℕ, ◌+◌, ◌-◌, Bool, true, false, nat_lt, if◌then◌else◌, List, [], ◌∷◌, length, drop, Option, Some, None}
use Rattle.space_packet.specs.Charge.{charge_of}
use Rattle.control_defs.specs.declared.instructions.StoreKind.{StoreKind}
use Rattle.control_defs.specs.declared.instructions.StoreKind.TheVariants.{Circular}
use Rattle.control_defs.specs.declared.patterns.Pattern.{Pattern}
use Rattle.control_defs.specs.declared.patterns.Pattern.TheVariants.{Every}

-- A stored packet: its octets, and its storage time in 1/65,536 seconds.
pub record Stored : Type 0 where
  pub time : ℕ
  pub octets : List ℕ

pub record Store : Type 0 where
  pub identifier : ℕ
  pub kind : StoreKind
  -- in pages
  pub size : ℕ
  -- the virtual channel of its packets
  pub channel : ℕ
  -- whether packets are stored, and whether open retrieval is on
  pub storage : Bool
  pub open_on : Bool
  -- whether a refusal was reported since the last put
  pub told : Bool
  pub patterns : List Pattern
  -- in the order of storage
  pub packets : List Stored
  -- how many packets at the front open retrieval has passed
  pub behind : ℕ
  -- the positions of a range retrieval, from the first one up to, and not including, the second
  pub range : Option (ℕ × ℕ)

pub record Table : Type 0 where
  -- the last storage time that was given
  pub now : ℕ
  -- the reports made so far, modulo 16,384
  pub reports : ℕ
  -- the patterns of the packets that are forwarded
  pub forward : List Pattern
  -- in the order of creation
  pub stores : List Store

-- the pages that stored packets take
abbrev pub content_in : List Stored → ℕ
content_in [] = 0
content_in (stored ∷ packets) = charge_of (length stored.octets) + content_in packets

-- the content of a store, in pages
abbrev pub content_of : Store → ℕ
content_of store = content_in store.packets

-- a range where this many packets left the front: none where nothing of it is left
abbrev pub range_behind : ℕ → Option (ℕ × ℕ) → Option (ℕ × ℕ)
range_behind count None = None
range_behind count (Some (next, end)) =
    if nat_lt (next - count) (end - count) then Some (next - count, end - count) else None

-- the store without its first packets
abbrev pub drop_front : Store → ℕ → Store
drop_front store count = record store {
  packets = drop count store.packets;
  behind = store.behind - count;
  range = range_behind count store.range;
}

-- The store of a table after a format: it takes every packet, and its open retrieval is on.
abbrev pub boot_store : Store
boot_store = record {
  identifier = 1;
  kind = Circular;
  size = 64;
  channel = 1;
  storage = true;
  open_on = true;
  told = false;
  patterns = Every ∷ [];
  packets = [];
  behind = 0;
  range = None;
}

-- the table after a format
abbrev pub after_format : Table
after_format = record { now = 0; reports = 0; forward = []; stores = boot_store ∷ [] }
