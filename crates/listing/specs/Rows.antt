-- The words of a store's line, by its row and its index.
use Rattle.std.specs.Prelude.{ℕ, Bool, List, [], ◌∷◌, codes, length}
use Rattle.std.specs.Fmt.{decimal}
use Rattle.pst_model.specs.Listing.{kind_word, on_word, yes_word}
use Rattle.store_directory.specs.declared.row.Row.{Row}
use Rattle.time_index.specs.TimeIndex.{TimeIndex, pages_of}

-- the words up to the range
abbrev pub row_words : Row → List (List ℕ)
row_words row =
    decimal row.identifier
    ∷ kind_word row.kind
    ∷ codes "size" ∷ decimal row.size
    ∷ codes "channel" ∷ decimal row.channel
    ∷ codes "storage" ∷ on_word row.storage
    ∷ codes "open" ∷ on_word row.open_on
    ∷ codes "behind" ∷ decimal row.behind
    ∷ codes "range" ∷ []

-- the words behind the range
abbrev pub content_words : (told : Bool) → TimeIndex → List (List ℕ)
content_words told index =
    codes "told" ∷ yes_word told
    ∷ codes "packets" ∷ decimal (length index.entries)
    ∷ codes "pages" ∷ decimal (pages_of index.entries) ∷ []
