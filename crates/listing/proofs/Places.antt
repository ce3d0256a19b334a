-- The parts of a listing by places and positions, as a listing goes on.
use Rattle.std.proofs.Common.{◌≡◌, ℕ, suc, ◌+◌, ◌≤◌, List, [], ◌++◌, length, take, Option, Some, None, refl, sym, ◌∙◌, ap, arith}
use Rattle.std.proofs.lemmas.List.{take_all}
use Rattle.std.specs.List.{flat_map, sum_by}
use Rattle.std.specs.Option.{option_to_list}
use Rattle.std.specs.Prelude.{slice_get}
use Rattle.board.specs.Moments.{IsPrefixOf}
use Rattle.control_defs.specs.declared.patterns.Pattern.{Pattern}
use Rattle.listing.specs.Parts.{all_pages, lines_of, one_at, packet_at, packet_lines, packets_at, pages_at, row_at, store_at, stores_to, title_at, title_lines, title_of}
use Rattle.listing.proofs.Ones.{flat-both, flat-one, front-one, front-take, sum-one, sum-take}
use Rattle.listing.proofs.ShownStores.{text_here}
use Rattle.pst_model.specs.Listing.{packet_line, pattern_line, store_listing, store_words, words_line}
use Rattle.pst_model.specs.Table.{Store, Table}
use Rattle.space_packet.specs.Charge.{charge_of}
use Rattle.store_directory.specs.Directory.{Listed}
use Rattle.time_index.specs.TimeIndex.{TimeIndex, pages_of}
use Rattle.time_index.specs.declared.entry.Entry.{Entry}
use Rattle.vault.specs.Fetching.{charge_at, charge_by, charge_in}
use Rattle.vault.specs.Memory.{InMemory}

-- one packet more

pub packets-more : (at position : ℕ) (table : Table) → packets_at at (position + 1) table ≡ packets_at at position table ++ packet_at at position table
packets-more at position table =
    let next : position + 1 ≡ suc position = omega arith in
    ap (λ (n : ℕ). packets_at at n table) next
    ∙ flat-both (λ store. flat_map packet_line (take position store.packets)) (λ store. flat_map packet_line (one_at store.packets position))
    (λ store. flat_map packet_line (take (suc position) store.packets)) table.stores at (λ store. flat-one packet_line store.packets position)

charge-one : (o : Option Entry) → sum_by (λ entry. charge_of entry.length) (option_to_list o) ≡ charge_in o
charge-one None = refl
charge-one (Some entry) = omega arith

pages-by : (position : ℕ) (o : Option TimeIndex) → sum_by (λ index. pages_of (take (suc position) index.entries)) (option_to_list o)
    ≡ sum_by (λ index. pages_of (take position index.entries)) (option_to_list o) + charge_by o position
pages-by position None = refl
pages-by position (Some index) =
    let more = sum-one (λ entry. charge_of entry.length) index.entries position in
    let one = charge-one (slice_get index.entries position) in
    omega (arith, more, one)

pub pages-more : (at position : ℕ) (vault : InMemory) → pages_at at (position + 1) vault ≡ pages_at at position vault + charge_at vault at position
pages-more at position vault =
    let next : position + 1 ≡ suc position = omega arith in
    ap (λ (n : ℕ). pages_at at n vault) next ∙ pages-by position (slice_get vault.indexes at)

-- no packet
pub packets-none : (at : ℕ) (table : Table) → packets_at at 0 table ≡ []
packets-none at table = by (slice_get table.stores at)
  where
    by : (o : Option Store) → flat_map (λ store. flat_map packet_line (take 0 store.packets)) (option_to_list o) ≡ []
    by None = refl
    by (Some store) = refl

-- fewer packets

pub packets-front : (at k n : ℕ) (table : Table) → k ≤ n → IsPrefixOf (packets_at at k table) (packets_at at n table)
packets-front at k n table le =
    front-one (λ store. flat_map packet_line (take k store.packets)) (λ store. flat_map packet_line (take n store.packets)) table.stores at
    (λ store. front-take packet_line store.packets k n le)

pub pages-fewer : (at k n : ℕ) (vault : InMemory) → k ≤ n → pages_at at k vault ≤ pages_at at n vault
pages-fewer at k n vault le = by (slice_get vault.indexes at)
  where
    by : (o : Option TimeIndex) → sum_by (λ index. pages_of (take k index.entries)) (option_to_list o) ≤ sum_by (λ index. pages_of (take n index.entries)) (option_to_list o)
    by None = omega arith
    by (Some index) = let less = sum-take (λ entry. charge_of entry.length) index.entries k n le in omega (arith, less)

-- the title of a store

pub row-front : (at : ℕ) (table : Table) → IsPrefixOf (row_at at table) (title_at at table)
row-front at table = front-one (λ store. words_line (store_words store)) title_of table.stores at (λ store. (flat_map pattern_line store.patterns, refl))

pub row-title : (at : ℕ) (table : Table) (store : Store) (patterns : List Pattern) → slice_get table.stores at ≡ Some store → patterns ≡ store.patterns
    → row_at at table ++ flat_map pattern_line patterns ≡ title_at at table
row-title at table store patterns here same =
    ap (λ (l : List ℕ). l ++ flat_map pattern_line patterns) (text_here (λ store. words_line (store_words store)) table.stores at store here)
    ∙ ap (λ patterns. words_line (store_words store) ++ flat_map pattern_line patterns) same
    ∙ sym (text_here title_of table.stores at store here)

pub lines-title : (at : ℕ) (stores : List Listed) (s : Listed) → slice_get stores at ≡ Some s → sum_by title_lines (one_at stores at) ≡ 1 + length s.patterns
lines-title at stores s here =
    let one : sum_by title_lines (one_at stores at) ≡ 0 + (1 + length s.patterns) = ap (λ (o : Option Listed). sum_by title_lines (option_to_list o)) here in
    omega (arith, one)

-- a store whole: its title, and all its packets
pub store-whole : (at count : ℕ) (table : Table) (store : Store) → slice_get table.stores at ≡ Some store → length store.packets ≡ count
    → title_at at table ++ packets_at at count table ≡ store_at at table
store-whole at count table store here long =
    let title = text_here title_of table.stores at store here in
    let packets = text_here (λ store. flat_map packet_line (take count store.packets)) table.stores at store here in
    let whole = text_here store_listing table.stores at store here in
    let all : take count store.packets ≡ store.packets = take_all count store.packets (omega (arith, long)) in
    ap (λ (l : List ℕ). l ++ packets_at at count table) title ∙ ap (λ (l : List ℕ). title_of store ++ l) packets
    ∙ ap (λ packets. title_of store ++ flat_map packet_line packets) all ∙ sym whole

pub title-front : (at : ℕ) (table : Table) → IsPrefixOf (title_at at table) (store_at at table)
title-front at table = front-one title_of store_listing table.stores at (λ store. (flat_map packet_line store.packets, refl))

pub pages-whole : (at count : ℕ) (vault : InMemory) (index : TimeIndex) → slice_get vault.indexes at ≡ Some index → count ≡ length index.entries
    → pages_at at count vault ≡ all_pages (one_at vault.indexes at)
pages-whole at count vault index here long =
    let all : take count index.entries ≡ index.entries = take_all count index.entries (omega (arith, long)) in
    ap (λ (o : Option TimeIndex). sum_by (λ index. pages_of (take count index.entries)) (option_to_list o)) here
    ∙ ap (λ (entries : List Entry). 0 + pages_of entries) all
    ∙ sym (ap (λ (o : Option TimeIndex). all_pages (option_to_list o)) here)

pub lines-whole : (at count : ℕ) (stores : List Listed) (indexes : List TimeIndex) (index : TimeIndex) → slice_get indexes at ≡ Some index → count ≡ length index.entries
    → sum_by title_lines (one_at stores at) + count ≡ lines_of (one_at stores at) (one_at indexes at)
lines-whole at count stores indexes index here long =
    let one : sum_by packet_lines (one_at indexes at) ≡ 0 + length index.entries = ap (λ (o : Option TimeIndex). sum_by packet_lines (option_to_list o)) here in
    omega (arith, one, long)

-- one store more

pub stores-more : (at : ℕ) (table : Table) → stores_to (at + 1) table ≡ stores_to at table ++ store_at at table
stores-more at table =
    let next : at + 1 ≡ suc at = omega arith in
    ap (λ (n : ℕ). stores_to n table) next ∙ flat-one store_listing table.stores at

pub all_pages-more : (at : ℕ) (indexes : List TimeIndex) → all_pages (take (at + 1) indexes) ≡ all_pages (take at indexes) + all_pages (one_at indexes at)
all_pages-more at indexes =
    let next : at + 1 ≡ suc at = omega arith in
    ap (λ (n : ℕ). all_pages (take n indexes)) next ∙ sum-one (λ index. pages_of index.entries) indexes at

pub lines-more : (at : ℕ) (stores : List Listed) (indexes : List TimeIndex)
    → lines_of (take (at + 1) stores) (take (at + 1) indexes) ≡ lines_of (take at stores) (take at indexes) + lines_of (one_at stores at) (one_at indexes at)
lines-more at stores indexes =
    let next : at + 1 ≡ suc at = omega arith in
    ap (λ (n : ℕ). lines_of (take n stores) (take n indexes)) next ∙
    let titles = sum-one title_lines stores at in
    let packets = sum-one packet_lines indexes at in
    omega (arith, titles, packets)

-- fewer stores

pub stores-front : (k n : ℕ) (table : Table) → k ≤ n → IsPrefixOf (stores_to k table) (stores_to n table)
stores-front k n table le = front-take store_listing table.stores k n le

pub all_pages-fewer : (k n : ℕ) (indexes : List TimeIndex) → k ≤ n → all_pages (take k indexes) ≤ all_pages (take n indexes)
all_pages-fewer k n indexes le = sum-take (λ index. pages_of index.entries) indexes k n le

pub lines-fewer : (k n : ℕ) (stores : List Listed) (indexes : List TimeIndex) → k ≤ n → lines_of (take k stores) (take k indexes) ≤ lines_of (take n stores) (take n indexes)
lines-fewer k n stores indexes le =
    let titles = sum-take title_lines stores k n le in
    let packets = sum-take packet_lines indexes k n le in
    omega (arith, titles, packets)
