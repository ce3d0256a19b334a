-- The words of a store by a row and an index that show it.
use Rattle.std.proofs.Common.{◌≡◌, ◌∷◌, ◌++◌, length, codes, refl, sym, ◌∙◌, ap}
use Rattle.std.proofs.lemmas.List.{length-map}
use Rattle.listing.specs.Rows.{content_words, row_words}
use Rattle.pst_model.specs.Listing.{range_words, store_words}
use Rattle.pst_model.specs.Table.{Store, content_of}
use Rattle.store_directory.specs.declared.row.Row.{Row}
use Rattle.store_policy.specs.Shown.{IsShown, length_of, octets_in}
use Rattle.space_packet.specs.Charge.{charge_of}
use Rattle.store_policy.proofs.Stored.{content-sum, pages-sum}
use Rattle.std.specs.List.{sum_by}
use Rattle.time_index.specs.TimeIndex.{TimeIndex, pages_of}

pub count-shown : (store : Store) (row : Row) (index : TimeIndex) → IsShown store row index → length store.packets ≡ length index.entries
count-shown store row index shown =
    sym (length-map store.packets octets_in) ∙ ap length shown.packets.lengths ∙ length-map index.entries length_of

pub pages-shown : (store : Store) (row : Row) (index : TimeIndex) → IsShown store row index → content_of store ≡ pages_of index.entries
pages-shown store row index shown =
    content-sum store.packets ∙ ap (sum_by charge_of) shown.packets.lengths ∙ sym (pages-sum index.entries)

pub store_words-shown : (store : Store) (row : Row) (index : TimeIndex) → IsShown store row index
    → store_words store ≡ codes "store" ∷ row_words row ++ range_words row.range ++ content_words row.told index
store_words-shown store row index shown =
    rw (
      shown.identifier,
      shown.kind,
      shown.size,
      shown.channel,
      shown.storage,
      shown.open_on,
      shown.behind,
      shown.range,
      shown.told,
      count-shown store row index shown,
      pages-shown store row index shown,
    ) refl
