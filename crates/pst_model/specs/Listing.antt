-- The listing of a table: lines of words, which an operator reads.
use Rattle.std.specs.Prelude.{ℕ, Bool, true, false, List, [], ◌∷◌, ◌++◌, codes, flat_map, length, Option, Some, None}
use Rattle.std.specs.Fmt.{decimal}
use Rattle.byteorder.specs.Endian.{big_bytes}
use Rattle.hex.specs.Hex.{encode_lower}
use Rattle.control_defs.specs.declared.instructions.StoreKind.{StoreKind}
use Rattle.control_defs.specs.declared.instructions.StoreKind.TheVariants.{Circular, Bounded}
use Rattle.control_defs.specs.declared.patterns.Pattern.{Pattern}
use Rattle.control_defs.specs.declared.patterns.Pattern.TheVariants.{Every, App, Service, Kind}
use Rattle.pst_model.specs.Table.{Store, Stored, Table, content_of}

-- words with one space between two, and LF
abbrev pub words_line : List (List ℕ) → List ℕ
words_line [] = 10 ∷ []
words_line (word ∷ []) = word ++ 10 ∷ []
words_line (word ∷ next ∷ words) = word ++ 32 ∷ words_line (next ∷ words)

-- a time as twelve hexadecimal digits in lower case
abbrev pub time_word : ℕ → List ℕ
time_word time = encode_lower (big_bytes 6 time)

abbrev pub kind_word : StoreKind → List ℕ
kind_word Circular = codes "circular"
kind_word Bounded = codes "bounded"

abbrev pub on_word : Bool → List ℕ
on_word true = codes "on"
on_word false = codes "off"

abbrev pub yes_word : Bool → List ℕ
yes_word true = codes "yes"
yes_word false = codes "no"

abbrev pub range_words : Option (ℕ × ℕ) → List (List ℕ)
range_words None = codes "none" ∷ []
range_words (Some (next, end)) = decimal next ∷ decimal end ∷ []

abbrev pub pattern_words : Pattern → List (List ℕ)
pattern_words Every = codes "every" ∷ []
pattern_words (App apid) = codes "app" ∷ decimal apid ∷ []
pattern_words (Service apid service) = codes "service" ∷ decimal apid ∷ decimal service ∷ []
pattern_words (Kind apid service subtype) =
    codes "kind" ∷ decimal apid ∷ decimal service ∷ decimal subtype ∷ []

-- what the first line of a store says of it
abbrev pub store_words : Store → List (List ℕ)
store_words store =
    codes "store" ∷ decimal store.identifier
    ∷ kind_word store.kind
    ∷ codes "size" ∷ decimal store.size
    ∷ codes "channel" ∷ decimal store.channel
    ∷ codes "storage" ∷ on_word store.storage
    ∷ codes "open" ∷ on_word store.open_on
    ∷ codes "behind" ∷ decimal store.behind
    ∷ codes "range" ∷ range_words store.range
    ++ codes "told" ∷ yes_word store.told
    ∷ codes "packets" ∷ decimal (length store.packets)
    ∷ codes "pages" ∷ decimal (content_of store) ∷ []

abbrev pub table_line : Table → List ℕ
table_line table =
    words_line (codes "now" ∷ time_word table.now ∷ codes "reports" ∷ decimal table.reports ∷ [])

abbrev pub forward_line : Pattern → List ℕ
forward_line pattern = words_line (codes "forward" ∷ pattern_words pattern)

abbrev pub pattern_line : Pattern → List ℕ
pattern_line pattern = words_line (codes "pattern" ∷ pattern_words pattern)

abbrev pub packet_line : Stored → List ℕ
packet_line stored =
    words_line (codes "packet" ∷ time_word stored.time ∷ encode_lower stored.octets ∷ [])

-- a store with its patterns and its packets
abbrev pub store_listing : Store → List ℕ
store_listing store =
    words_line (store_words store)
    ++ flat_map pattern_line store.patterns
    ++ flat_map packet_line store.packets

-- The listing: the clock and the count of reports, the forward patterns, then each store in the order
-- of creation.
abbrev pub listing_of : Table → List ℕ
listing_of table =
    table_line table ++ flat_map forward_line table.forward ++ flat_map store_listing table.stores
