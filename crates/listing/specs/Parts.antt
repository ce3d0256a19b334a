-- Parts of the listing, by places of stores and positions of packets.
use Rattle.std.specs.Prelude.{ℕ, ◌+◌, List, ◌++◌, length, take, slice_get, sum_by, flat_map}
use Rattle.std.specs.Option.{option_to_list}
use Rattle.pst_model.specs.Listing.{packet_line, pattern_line, store_listing, store_words, words_line}
use Rattle.pst_model.specs.Table.{Store, Table}
use Rattle.store_directory.specs.Directory.{Listed}
use Rattle.time_index.specs.TimeIndex.{TimeIndex, pages_of}
use Rattle.vault.specs.Memory.{InMemory}

-- what stands at a place, if there is something
abbrev pub one_at : {X : Type 0} → List X → (at : ℕ) → List X
one_at xs at = option_to_list (slice_get xs at)

-- a store's line, and the lines of its patterns
abbrev pub title_of : Store → List ℕ
title_of store = words_line (store_words store) ++ flat_map pattern_line store.patterns

-- the same of the store at a place, and of its line alone

abbrev pub row_at : (at : ℕ) → Table → List ℕ
row_at at table = flat_map (λ store. words_line (store_words store)) (one_at table.stores at)

abbrev pub title_at : (at : ℕ) → Table → List ℕ
title_at at table = flat_map title_of (one_at table.stores at)

-- the lines of the first packets of the store at a place
abbrev pub packets_at : (at count : ℕ) → Table → List ℕ
packets_at at count table =
    flat_map (λ store. flat_map packet_line (take count store.packets)) (one_at table.stores at)

-- the line of the packet at a position
abbrev pub packet_at : (at position : ℕ) → Table → List ℕ
packet_at at position table =
    flat_map (λ store. flat_map packet_line (one_at store.packets position))
    (one_at table.stores at)

-- a store whole, and the first stores

abbrev pub store_at : (at : ℕ) → Table → List ℕ
store_at at table = flat_map store_listing (one_at table.stores at)

abbrev pub stores_to : (count : ℕ) → Table → List ℕ
stores_to count table = flat_map store_listing (take count table.stores)

-- the pages of the first packets of the store at a place
abbrev pub pages_at : (at count : ℕ) → InMemory → ℕ
pages_at at count vault =
    sum_by (λ index. pages_of (take count index.entries)) (one_at vault.indexes at)

-- the pages of all packets of these stores
abbrev pub all_pages : List TimeIndex → ℕ
all_pages indexes = sum_by (λ index. pages_of index.entries) indexes

-- the lines of stores with their patterns, and of packets

abbrev pub title_lines : Listed → ℕ
title_lines s = 1 + length s.patterns

abbrev pub packet_lines : TimeIndex → ℕ
packet_lines index = length index.entries

abbrev pub lines_of : List Listed → List TimeIndex → ℕ
lines_of stores indexes = sum_by title_lines stores + sum_by packet_lines indexes

-- the lines of a listing: one of the clock, one for each forward pattern, and those of the stores
abbrev pub lines_in : InMemory → ℕ
lines_in vault =
    1 + length vault.directory.forward + lines_of vault.directory.stores vault.indexes
