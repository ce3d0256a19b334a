-- How stores are created, deleted and configured (ECSS-E-ST-70-41C, 6.15.3), and the checks of each
-- instruction, in their order.
use Rattle.std.specs.Prelude.{ℕ, ◌+◌, ◌&&◌, nat_le, nat_lt, not, Bool, true, false, is_some, find, filter, List, [], ◌∷◌, ◌++◌, length, sum_by, None, Result}
use Rattle.block_pool.specs.Sizes.{blocks_for_size}
use Rattle.control_defs.specs.declared.instructions.StoreKind.{StoreKind}
use Rattle.control_defs.specs.declared.instructions.StoreKind.TheVariants.{Circular, Bounded}
use Rattle.pst_model.specs.Changes.{is_named, of_store, with_store}
use Rattle.pst_model.specs.Failures.{already_so, content_too_large, no_blocks, open_is_on, range_stands, storage_is_on, store_exists, too_many_stores, unless, wrong_channel, wrong_size}
use Rattle.pst_model.specs.Rules.{has_range}
use Rattle.pst_model.specs.Table.{Store, Table, content_of}

-- sizes in pages, and channels of stores
abbrev pub is_size : ℕ → Bool
is_size size = nat_le 1 size && nat_le size 100000

abbrev pub is_channel : ℕ → Bool
is_channel channel = nat_le 1 channel && nat_le channel 7

-- how many blocks stores reserve, by their sizes
abbrev pub reserved_by : List Store → ℕ
reserved_by stores = sum_by (λ (store : Store). blocks_for_size store.size) stores

-- Stores that reserve more than a device of so many blocks has for them: all but eight, which are
-- those of its roots and its journal and one more.
abbrev pub exceeds : (blocks : ℕ) → List Store → Bool
exceeds blocks stores = nat_lt blocks (reserved_by stores + 8)

-- a store as it is created: nothing is on, and it takes no packet
abbrev pub new_store : (identifier : ℕ) → StoreKind → (size channel : ℕ) → Store
new_store identifier kind size channel = record {
  identifier = identifier;
  kind = kind;
  size = size;
  channel = channel;
  storage = false;
  open_on = false;
  told = false;
  patterns = [];
  packets = [];
  behind = 0;
  range = None;
}

abbrev pub create_checks : (blocks : ℕ) → Store → List Store → List (Bool × ℕ)
create_checks blocks store stores =
    (is_some (find (is_named store.identifier) stores), store_exists)
    ∷ (nat_le 32 (length stores), too_many_stores)
    ∷ (not (is_size store.size), wrong_size)
    ∷ (not (is_channel store.channel), wrong_channel)
    ∷ (exceeds blocks (stores ++ store ∷ []), no_blocks) ∷ []

-- The table with one store more, which goes last.
abbrev pub create : (blocks : ℕ) → Store → Table → Result Table ℕ
create blocks store table =
    unless (create_checks blocks store table.stores)
    (record table { stores = table.stores ++ store ∷ [] })

-- the stores but that of this identifier
abbrev pub without_store : (identifier : ℕ) → List Store → List Store
without_store identifier stores = filter (λ store. not (is_named identifier store)) stores

-- a store with nothing on, and without a range
abbrev pub rest_checks : Store → List (Bool × ℕ)
rest_checks store =
    (store.storage, storage_is_on)
    ∷ (store.open_on, open_is_on)
    ∷ (has_range store, range_stands) ∷ []

-- The table without a store, whose packets are gone with it.
abbrev pub remove : (identifier : ℕ) → Table → Result Table ℕ
remove identifier table = of_store identifier table (λ store.
    unless (rest_checks store)
    (record table { stores = without_store identifier table.stores }))

-- a store of another size
abbrev pub with_size : (size : ℕ) → Store → Store
with_size size store = record store { size = size; told = false }

abbrev pub resize_checks : (blocks size : ℕ) → List Store → Store → List (Bool × ℕ)
resize_checks blocks size stores store =
    (not (is_size size), wrong_size)
    ∷ (store.storage, storage_is_on)
    ∷ (store.open_on, open_is_on)
    ∷ (has_range store, range_stands)
    ∷ (nat_lt size (content_of store), content_too_large)
    ∷ (exceeds blocks (with_store store.identifier (with_size size store) stores), no_blocks) ∷ []

-- A store of another size, among these stores.
abbrev pub resize : (blocks size : ℕ) → List Store → Store → Result Store ℕ
resize blocks size stores store =
    unless (resize_checks blocks size stores store) (with_size size store)

abbrev pub is_same_kind : StoreKind → StoreKind → Bool
is_same_kind Circular Circular = true
is_same_kind Bounded Bounded = true
is_same_kind _ _ = false

abbrev pub kind_checks : StoreKind → Store → List (Bool × ℕ)
kind_checks kind store =
    (store.storage, storage_is_on)
    ∷ (store.open_on, open_is_on)
    ∷ (has_range store, range_stands)
    ∷ (is_same_kind kind store.kind, already_so) ∷ []

-- A store of the other kind.
abbrev pub set_kind : StoreKind → Store → Result Store ℕ
set_kind kind store =
    unless (kind_checks kind store) (record store { kind = kind; told = false })

abbrev pub channel_checks : (channel : ℕ) → Store → List (Bool × ℕ)
channel_checks channel store =
    (not (is_channel channel), wrong_channel)
    ∷ (store.open_on, open_is_on)
    ∷ (has_range store, range_stands) ∷ []

-- A store on another channel.
abbrev pub set_channel : (channel : ℕ) → Store → Result Store ℕ
set_channel channel store =
    unless (channel_checks channel store) (record store { channel = channel })
