-- An arriving packet was taken into a new block of a store.
use Rattle.std.proofs.Common.{◌≡◌, ℕ, ◌+◌, ◌*◌, ◌<◌, ◌≤◌, ◌&&◌, nat_le, nat_lt, true, false, List, [], ◌∷◌, ◌++◌, length, map, slice_set, refl, sym, ◌∙◌, ap, subst, arith}
use Rattle.std.proofs.lemmas.Bool.{and_parts}
use Rattle.block_pool.specs.Blocks.{Blocks, IsPool, blocks_of}
use Rattle.board.specs.Device.{Device}
use Rattle.board.specs.Flash.{Flash, IsContent, IsImage, loosened, pages_from, pages_of_block}
use Rattle.board.specs.Meaning.{BoardMeaning, TellsFlash}
use Rattle.board.specs.Touches.{Touches}
use Rattle.board.proofs.Works.{tells_too}
use Rattle.chain_log.specs.Pages.{IsCleanFrom}
use Rattle.image_table.proofs.Frames.{data_tests}
use Rattle.image_table.specs.Standing.{Beside, HoldsTable}
use Rattle.pst_model.specs.Table.{Stored, Table}
use Rattle.put_laws.specs.Indexes.{entry_of, index_behind_put}
use Rattle.put_laws.specs.Puts.{Begins, IsFull, SpellsAt, SpellsFirst, changes_of_put, need_of}
use Rattle.record_view.specs.declared.link.Link.{Link}
use Rattle.store_directory.specs.Changes.{Links, Put}
use Rattle.put_laws.specs.Puts.{row_behind_put}
use Rattle.store_directory.specs.Directory.{Listed, is_new}
use Rattle.store_directory.specs.declared.row.Row.{Row}
use Rattle.store_load.specs.Claims.{all_links, block_of}
use Rattle.store_load.specs.Extents.{end_of}
use Rattle.store_load.specs.Loaded.{used_in}
use Rattle.store_put.specs.Pools.{IsTaken, is_unlinked}
use Rattle.store_put.specs.Ranges.{IsFullBy}
use Rattle.store_put.proofs.StaysOn.{stays_unnamed}
use Rattle.time_index.specs.declared.entry.Entry.{Entry}
use Rattle.vault.proofs.Besides.{beside_unnamed, holds_on, while_beside}
use Rattle.vault.proofs.OfferFlash.{flash_begins, own, still_of}
use Rattle.vault.proofs.OfferBlocks.{other_pages}
use Rattle.vault.proofs.OfferMemory.{HasTurn, makes_both, memory_begins}
use Rattle.vault.proofs.OfferNeeds.{accepted, accepts, few, none_left, pages_left, shown_store}
use Rattle.vault.proofs.OfferQuiet.{quiet_begins}
use Rattle.vault.proofs.OfferShown.{entry_placed, need_few}
use Rattle.vault.specs.Memory.{InMemory}
use Rattle.vault.specs.Offering.{IsCounted, IsLinked, TakesAt, link_behind}
use Rattle.vault.specs.Standing.{StandsFor}
use Rattle.vault.specs.Storing.{HasPut, OffersOn, OffersQuietly, is_full}
use Rattle.vault.specs.declared.last_block.LastBlock.{LastBlock}

-- a last block that is full by its number of pages is so on the image
full_of : (image : ℕ → List ℕ) (row : Row) (links : List Link) (used : ℕ) → used_in image row links ≡ used → IsFullBy used links → IsFull image row links
full_of image row [] used is full = tt
full_of image row (link ∷ links) used is full = omega (arith, is, full)

module _ {B : Type 0} (means : BoardMeaning B) (start board : B) (old now : InMemory) (stored : Stored) (at : ℕ) (text : List ℕ)
    (put : HasPut means start board old now stored at text) (turn : HasTurn old now stored at) where
  abbrev s : Listed
  s = turn.s

  abbrev flash : Flash
  flash = means.flash board

  module _ (gone : ℕ) (taking : TakesAt now stored at gone) (shortest : 7 ≤ length stored.octets) (longest : length stored.octets ≤ 4096) where
    module _ (full : is_full s.links turn.last ≡ true) (block : ℕ) (pool : Blocks) (taken : IsTaken now.pool pool block) where
      unlinked : is_unlinked old.blocks now.directory.stores block ≡ true
      unlinked = put.memory.walk.unnamed block taken.was_free

      data_is : (nat_le 7 block && nat_lt block old.blocks) ≡ true
      data_is = (and_parts (nat_le 7 block && nat_lt block old.blocks) (is_new block (map block_of (all_links now.directory.stores))) unlinked).0

      module _ (told : TellsFlash means start) (table : Table) (stands : StandsFor old (means.flash start) table) where
        abbrev offering : OffersOn flash old now table stored at put.changes
        offering = put.flash told table stands

        beside_new : Beside flash old.directory.directory (pages_of_block block)
        beside_new =
            let before = put.memory.walk.unnamed_before block taken.was_free in
            beside_unnamed old.blocks old.directory.directory table flash block offering.offered.pages offering.loads (data_tests old.blocks block data_is).0
            (and_parts (nat_le 7 block && nat_lt block old.blocks) (is_new block (map block_of (all_links old.directory.stores))) before).1

        images_then : (image : ℕ → List ℕ) → IsImage (means.device board).blocks (loosened (pages_of_block block) flash) image → HoldsTable old.blocks table image
        images_then image is =
            while_beside old.blocks old.directory.directory old.journal table flash put.memory.sound.least
            (still_of flash old now table stored at put.changes offering) (pages_of_block block) beside_new image
            (subst (λ (n : ℕ). IsImage n (loosened (pages_of_block block) flash) image)
            (ap (λ (v : Device). v.blocks) put.quiet.same ∙ sym put.device) is)

      module _ (new : B) (touches : Touches means (pages_of_block block) (need_of stored) 1 1 board new) where
        pub quiet_new : OffersQuietly means start new old stored.octets (at + 1)
        quiet_new =
            quiet_begins means start board new old stored at put.quiet s turn.index turn.last turn.was (pages_of_block block) images_then (accepted means start board old now stored at text put turn gone taking) full touches

        pub offer_begins : (mid next : InMemory) (mid_text new_text : List ℕ) (entry : Entry) → entry ≡ entry_of stored block 0
            → IsPool pool → blocks_of pool ≡ blocks_of now.pool → IsLinked (record now { pool = pool }) mid block text mid_text s
            → IsCounted mid next at gone entry (need_of stored) mid_text new_text s turn.index
            → (TellsFlash means new → IsContent (means.device new).blocks (means.flash new).content)
            → (TellsFlash means board → SpellsAt (means.flash new).content block 0 (end_of s.row) stored)
            → (TellsFlash means board → IsCleanFrom (means.flash new) block (need_of stored))
            → HasPut means start new old next stored (at + 1) new_text
        offer_begins mid next mid_text new_text entry is lawful many linked counted content spelled clean =
            let counted_is = subst (λ (e : Entry). IsCounted mid next at gone e (need_of stored) mid_text new_text s turn.index) is counted in
            let made = entry_of stored block 0 in
            let link = link_behind s block in
            let fits_new : need_of stored ≤ 256 = omega (arith, need_few stored longest) in
            let pool_is : next.pool ≡ pool = ap (λ (v : InMemory). v.pool) counted_is.others ∙ ap (λ (v : InMemory). v.pool) linked.others in
            let indexes_are = ap (λ (v : InMemory). v.indexes) counted_is.others
            ∙ ap (λ (v : InMemory). slice_set v.indexes at (index_behind_put gone made turn.index)) linked.others in
            let lasts_are = ap (λ (v : InMemory). v.lasts) counted_is.others
            ∙ ap (λ (v : InMemory). slice_set v.lasts at (let l : LastBlock = record { used = need_of stored; stale = false } in l)) linked.others in
            let both = makes_both (Links s.identifier (link ∷ []) ∷ []) (Put (row_behind_put gone s.row) ∷ []) now.directory.directory mid.directory.directory next.directory.directory
            text mid_text new_text linked.makes counted_is.makes in
            record {
              changes = put.changes ++ changes_of_put s.row (Begins gone link);
              memory =
                  memory_begins old now next stored at put.changes text new_text put.memory s turn.index turn.last turn.here turn.was
                  turn.place gone (few means start board old now stored at text put turn gone taking) made (entry_placed stored block 0 shortest longest (omega (arith, fits_new)))
                  (pages_left means start board old now stored at text put turn gone taking) mid mid_text block pool (none_left s.links turn.last full) fits_new refl
                  taken lawful (many ∙ put.memory.walk.pool_blocks) put.memory.sound.most linked counted_is;
              quiet = quiet_new;
              device = put.device;
              stood = put.stood;
              flash = λ told table stands.
                  let told_now = tells_too put.quiet.same told in
                  let offers_now = put.flash told table stands in
                  let kept = touches.others told_now in
                  let after = means.flash new in
                  let blocks_are : (means.device new).blocks ≡ old.blocks =
                  ap (λ (v : Device). v.blocks) (touches.same ∙ put.quiet.same) ∙ sym put.device in
                  let pages : IsContent old.blocks after.content =
                  subst (λ (n : ℕ). IsContent n after.content) blocks_are (content (tells_too touches.same told_now)) in
                  let one = shown_store old now stored at turn (means.flash start) table stands in
                  let unnamed = (and_parts (nat_le 7 block && nat_lt block old.blocks) (is_new block (map block_of (all_links now.directory.stores))) unlinked).1 in
                  let stays =
                  stays_unnamed old.blocks flash after old.directory.directory table stored at put.changes now.directory.directory offers_now.offered pages
                  block unnamed kept in
                  let still =
                  holds_on old.blocks old.directory.directory old.journal table flash put.memory.sound.least
                  (still_of flash old now table stored at put.changes offers_now) (pages_of_block block) (beside_new told table stands) after kept pages in
                  let own_is = own flash old now now table stored at put.changes offers_now s turn.index turn.last turn.here turn.was one.store one.there in
                  let low = (data_tests old.blocks block data_is).1 in
                  let spells : SpellsFirst old.blocks after.content now.directory.directory s link stored = record {
                    own = data_is;
                    numbered = omega (arith, low, put.memory.sound.most);
                    unnamed = unnamed;
                    first = refl;
                    full = full_of after.content s.row s.links turn.last.used (stays.used at s turn.here.listed ∙ sym own_is.used_is) (none_left s.links turn.last full);
                    spelled = spelled told_now;
                  } in
                  flash_begins flash old now next table stored at put.changes offers_now s turn.index turn.last turn.here turn.was one.store one.there
                  after pages (pages_of_block block) kept stays still block
                  (λ other q differs high. other_pages_of other q differs high) gone
                  (accepts means start board old now stored at text put turn gone taking one.store one.shown one.patterns)
                  link refl spells (clean told_now) unlinked put.memory.walk.lawful (subst (λ (p : Blocks). IsTaken now.pool p block) (sym pool_is) taken)
                  both.made indexes_are lasts_are;
            }
          where
            other_pages_of : (other q : ℕ) → (block ≡ other → ⊥) → q < 256 → pages_of_block block (256 * other + q) ≡ false
            other_pages_of other q differs high =
                let same : 256 * block + 0 ≡ 256 * block = omega arith in
                ap (λ (n : ℕ). pages_from n 256 (256 * other + q)) (sym same) ∙ other_pages block 0 256 other q differs (omega arith) high
