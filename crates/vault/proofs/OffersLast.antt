-- An arriving packet was taken into the last block of a store.
use Rattle.std.proofs.Common.{◌≡◌, ℕ, ◌+◌, ◌*◌, ◌<◌, ◌≤◌, Bool, false, List, ◌∷◌, ◌++◌, length, sym, ◌∙◌, ap, subst, arith}
use Rattle.board.specs.Device.{Device}
use Rattle.board.specs.Flash.{Flash, IsContent, IsImage, loosened, pages_from}
use Rattle.board.specs.Meaning.{BoardMeaning, TellsFlash}
use Rattle.board.specs.Touches.{KeptElsewhere, Touches}
use Rattle.board.proofs.Works.{tells_too}
use Rattle.chain_log.specs.Pages.{IsCleanFrom}
use Rattle.image_table.specs.Standing.{Beside, HoldsTable}
use Rattle.pst_model.specs.Table.{Stored, Table}
use Rattle.put_laws.specs.Indexes.{entry_of}
use Rattle.put_laws.specs.Puts.{SpellsAt, Takes, changes_of_put, need_of}
use Rattle.record_view.specs.declared.link.Link.{Link}
use Rattle.store_directory.specs.Directory.{Listed}
use Rattle.store_load.specs.Extents.{end_of, last_of}
use Rattle.store_load.specs.Loaded.{used_in}
use Rattle.store_load.specs.Moving.{used_by}
use Rattle.store_put.proofs.StaysOn.{stays_behind}
use Rattle.time_index.specs.declared.entry.Entry.{Entry}
use Rattle.vault.proofs.Besides.{beside_behind, holds_on, while_beside}
use Rattle.vault.proofs.OfferFlash.{flash_takes, own, still_of}
use Rattle.vault.proofs.OfferBlocks.{other_pages}
use Rattle.vault.proofs.OfferMemory.{HasTurn, memory_takes}
use Rattle.vault.proofs.OfferNeeds.{accepted, accepts, few, own_block, pages_left, room_left, shown_store}
use Rattle.vault.proofs.OfferQuiet.{quiet_takes}
use Rattle.vault.proofs.OfferShown.{entry_placed, need_few}
use Rattle.vault.specs.Memory.{InMemory}
use Rattle.vault.specs.Offering.{IsCounted, TakesAt}
use Rattle.vault.specs.Standing.{StandsFor}
use Rattle.vault.specs.Storing.{HasPut, OffersOn, OffersQuietly, is_full}

module _ {B : Type 0} (means : BoardMeaning B) (start board : B) (old now : InMemory) (stored : Stored) (at : ℕ) (text : List ℕ)
    (put : HasPut means start board old now stored at text) (turn : HasTurn old now stored at) where
  abbrev s : Listed
  s = turn.s

  abbrev flash : Flash
  flash = means.flash board

  module _ (gone : ℕ) (taking : TakesAt now stored at gone) (shortest : 7 ≤ length stored.octets) (longest : length stored.octets ≤ 4096) where
    module _ (room : is_full s.links turn.last ≡ false) (block : ℕ) (link : Link) (links : List Link) (some : s.links ≡ link ∷ links)
        (is_last : block ≡ (last_of link links).block) where
      abbrev used : ℕ
      used = turn.last.used

      abbrev these : ℕ → Bool
      these = pages_from (256 * block + used) (need_of stored)

      pub fits : used + need_of stored ≤ 256
      fits = omega (arith, (room_left s.links turn.last room).1, need_few stored longest)

      data_block : (7 ≤ block) × (block < old.blocks)
      data_block =
          let own_is = own_block old.blocks now.directory.stores at s link links put.memory.walk.share turn.here.listed some in
          (omega (arith, own_is.0, is_last), omega (arith, own_is.1, is_last))

      -- the pages that are written, as those behind the last record
      module _ (told : TellsFlash means start) (table : Table) (stands : StandsFor old (means.flash start) table) where
        abbrev offers : OffersOn flash old now table stored at put.changes
        offers = put.flash told table stands

        used_is : used_by flash.content s.row link links ≡ used
        used_is =
            let one = shown_store old now stored at turn (means.flash start) table stands in
            ap (used_in flash.content s.row) (sym some)
            ∙ sym (own flash old now now table stored at put.changes offers s turn.index turn.last turn.here turn.was one.store one.there).used_is

        same_pages : pages_from (256 * (last_of link links).block + used_by flash.content s.row link links) (need_of stored) ≡ these
        same_pages = λ i. pages_from (256 * sym is_last i + used_is i) (need_of stored)

        beside : Beside flash old.directory.directory these
        beside =
            subst (Beside flash old.directory.directory) same_pages
            (beside_behind old.blocks old.directory.directory table flash at s link links (need_of stored) offers.offered.pages offers.loads turn.was.listed some
            (omega (arith, used_is, fits)) (omega (arith, data_block.0, is_last)))

        images_now : (image : ℕ → List ℕ) → IsImage (means.device board).blocks (loosened these flash) image → HoldsTable old.blocks table image
        images_now image is =
            while_beside old.blocks old.directory.directory old.journal table flash put.memory.sound.least
            (still_of flash old now table stored at put.changes offers) these beside image
            (subst (λ (n : ℕ). IsImage n (loosened these flash) image)
            (ap (λ (v : Device). v.blocks) put.quiet.same ∙ sym put.device) is)

      module _ (new : B) (touches : Touches means these (need_of stored) 0 0 board new) where
        pub quiet_last : OffersQuietly means start new old stored.octets (at + 1)
        quiet_last =
            quiet_takes means start board new old stored at put.quiet s turn.index turn.last turn.was these images_now (accepted means start board old now stored at text put turn gone taking) touches

        pub offer_takes : (next : InMemory) (new_text : List ℕ) (entry : Entry) → entry ≡ entry_of stored block used
            → IsCounted now next at gone entry (used + need_of stored) text new_text s turn.index
            → (TellsFlash means new → IsContent (means.device new).blocks (means.flash new).content)
            → (TellsFlash means board → SpellsAt (means.flash new).content block used (end_of s.row) stored)
            → (TellsFlash means board → IsCleanFrom (means.flash new) block (used + need_of stored))
            → HasPut means start new old next stored (at + 1) new_text
        offer_takes next new_text entry is counted content spelled clean =
            let counted_is = subst (λ (e : Entry). IsCounted now next at gone e (used + need_of stored) text new_text s turn.index) is counted in
            let made = entry_of stored block used in
            record {
              changes = put.changes ++ changes_of_put s.row (Takes gone);
              memory =
                  memory_takes old now next stored at put.changes text new_text put.memory s turn.index turn.last turn.here turn.was
                  turn.place gone (few means start board old now stored at text put turn gone taking) made (entry_placed stored block used shortest longest fits)
                  (pages_left means start board old now stored at text put turn gone taking) link links some fits is_last counted_is;
              quiet = quiet_last;
              device = put.device;
              stood = put.stood;
              flash = λ told table stands.
                  let told_now = tells_too put.quiet.same told in
                  let offers_now = put.flash told table stands in
                  let kept = touches.others told_now in
                  let after = means.flash new in
                  let blocks_are : (means.device new).blocks ≡ old.blocks =
                  ap (λ (v : Device). v.blocks) (touches.same ∙ put.quiet.same) ∙ sym put.device in
                  let pages : IsContent old.blocks after.content =
                  subst (λ (n : ℕ). IsContent n after.content) blocks_are (content (tells_too touches.same told_now)) in
                  let one = shown_store old now stored at turn (means.flash start) table stands in
                  let stays =
                  stays_behind old.blocks flash after old.directory.directory table stored at put.changes now.directory.directory offers_now.offered pages
                  at s link links (need_of stored) turn.here.listed some (omega (arith, used_is told table stands, fits))
                  (subst (λ (p : ℕ → Bool). KeptElsewhere p flash after) (sym (same_pages told table stands)) kept) in
                  let still =
                  holds_on old.blocks old.directory.directory old.journal table flash put.memory.sound.least
                  (still_of flash old now table stored at put.changes offers_now) these (beside told table stands) after kept pages in
                  flash_takes flash old now next table stored at put.changes offers_now s turn.index turn.last turn.here turn.was one.store one.there
                  after pages these kept stays still block
                  (λ other q differs high. other_pages block used (need_of stored) other q differs fits high) gone
                  (accepts means start board old now stored at text put turn gone taking one.store one.shown one.patterns)
                  link links some is_last (spelled told_now) (clean told_now) put.memory.walk.share put.memory.walk.unnamed counted_is.makes.made
                  (ap (λ (v : InMemory). v.indexes) counted_is.others) (ap (λ (v : InMemory). v.lasts) counted_is.others)
                  (ap (λ (v : InMemory). v.pool) counted_is.others);
            }
