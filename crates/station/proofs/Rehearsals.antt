-- A session in memory: what holds of any board and source, of those that were just made.
use Rattle.std.proofs.Common.{◌≡◌, ◌≤◌, ℕ, false, List, Option, Some, None, inl, inr, refl, sym, ◌∙◌, ap, subst, arith}
use Rattle.board.specs.declared.memory.MemBoard.{MemBoard}
use Rattle.board.specs.declared.memory_source.MemSource.{MemSource}
use Rattle.board.specs.Counts.{Counts, Rose}
use Rattle.board.specs.Device.{Device}
use Rattle.board.specs.Flash.{Flash, IsContent, IsPage}
use Rattle.board.specs.Memory.{IsNewBoard, counts_of, device_of, flash_of, memory_means, pages_in}
use Rattle.board.specs.MemorySource.{IsNewSource, faults_of, left_of, text_means}
use Rattle.station.specs.declared.ending.Ending.{Ending}
use Rattle.station.specs.declared.ending.Ending.TheVariants.{BadWords}
use Rattle.station.specs.Reading.{EndsAsTold}
use Rattle.station.specs.Generating.{Generates}
use Rattle.station.specs.Rehearsal.{Begin, IsTableIn, IsWithoutTable, NoneFailed, RehearsedFormat, RehearsedFresh, RehearsedGenerate, RehearsedList, RehearsedNone, RehearsedRun, blocks_in}
use Rattle.station.specs.Station.{BeginsFresh, Formats, Held, HeldNone, Lists, Runs}
use Rattle.station.proofs.Firm.{firm_holds}
use Rattle.station.proofs.Quiet.{not_none}
use Rattle.image_table.specs.Standing.{HoldsTable}
use Rattle.image_table.specs.Table.{table_of}
use Rattle.pst_model.specs.Table.{Table}
use Rattle.traffic_gen.specs.Traffic.{traffic_of}

-- a count that is 0 did not rise
unrisen : (old new : ℕ) → old ≡ 0 → new ≡ 0 → Rose old new → ⊥
unrisen old new was is (inl more) = absurd (omega arith)
unrisen old new was is (inr end) = absurd (omega arith)

module _ (image text : List ℕ) (board : MemBoard) (source : MemSource) (least : 16 ≤ blocks_in image) (content : IsContent (device_of board).blocks (flash_of board).content)
    (made : IsNewBoard (blocks_in image) (pages_in image) false board) (given : IsNewSource text source) where
  -- what was at first
  abbrev pub begin_of : Begin image text
  begin_of = record { board = board; source = source; made = made; given = given }

  many : (device_of board).blocks ≡ blocks_in image
  many = ap (λ (device : Device). device.blocks) made.device

  content_here : IsContent (blocks_in image) (flash_of board).content
  content_here = subst (λ (n : ℕ). IsContent n (flash_of board).content) many content

  content_image : IsContent (blocks_in image) (pages_in image)
  content_image p within = subst IsPage (made.content_is p within) (content_here p within)

  -- a flash of which nothing is loose, with what the image says
  of_image : Flash
  of_image = record { content = pages_in image; erased = λ p. false; loose = λ p. false }

  there : (table : Table) → IsTableIn image table → HoldsTable (blocks_in image) table (flash_of board).content
  unfolding of_image
  there table held =
      firm_holds (blocks_in image) of_image table (flash_of board).content least content_image (λ p. refl) held
      (record { pages = content_here; firm_pages = λ p within firm. made.content_is p within })

  pub held_there : (table : Table) → IsTableIn image table → Held memory_means board table
  held_there table held = subst (λ (n : ℕ). HoldsTable n table (flash_of board).content) (sym many) (there table held)

  -- what the flash holds the image holds
  back : (table : Table) → HoldsTable (blocks_in image) table (flash_of board).content → IsTableIn image table
  back table held =
      firm_holds (blocks_in image) (flash_of board) table (pages_in image) least content_here made.loose held
      (record { pages = content_image; firm_pages = λ p within firm. sym (made.content_is p within) })

  none_there : IsWithoutTable image → HeldNone memory_means board
  none_there none = subst (λ (n : ℕ). table_of n (flash_of board).content ≡ None) (sym many) (by (table_of (blocks_in image) (flash_of board).content) refl)
    where
      by : (held : Option Table) → table_of (blocks_in image) (flash_of board).content ≡ held → table_of (blocks_in image) (flash_of board).content ≡ None
      by None is = is
      by (Some table) is = absurd (not_none table (sym (back table is) ∙ none))

  module _ (ending : Ending) (board' : MemBoard) (source' : MemSource) where
    -- the text ends as it says, if no call has failed
    as_told : (NoneFailed board' source' → (Rose (counts_of board).flash_faults (counts_of board').flash_faults → ⊥) → (Rose (counts_of board).link_faults (counts_of board').link_faults → ⊥)
        → (Rose (faults_of source) (faults_of source') → ⊥) → EndsAsTold (left_of source) ending) → NoneFailed board' source' → EndsAsTold text ending
    as_told complete none = subst (λ (whole : List ℕ). EndsAsTold whole ending) given.left
        (complete none
        (unrisen (counts_of board).flash_faults (counts_of board').flash_faults (ap (λ (counts : Counts). counts.flash_faults) made.counts) none.flash)
        (unrisen (counts_of board).link_faults (counts_of board').link_faults (ap (λ (counts : Counts). counts.link_faults) made.counts) none.link)
        (unrisen (faults_of source) (faults_of source') given.faults none.text))

    pub rehearsed_run : Runs memory_means text_means board board' source source' ending
        → ((table : Table) → Held memory_means board table → (Rose (counts_of board).flash_faults (counts_of board').flash_faults → ⊥) → (Rose (counts_of board).link_faults (counts_of board').link_faults → ⊥)
        → (Rose (faults_of source) (faults_of source') → ⊥) → EndsAsTold (left_of source) ending)
        → RehearsedRun image text ending board' source'
    rehearsed_run runs complete = record {
      begin = begin_of;
      session = λ table held. runs.session refl made.loose table (held_there table held);
      unheld = λ none. runs.unheld refl (none_there none);
      complete = λ table held none. as_told (λ none. complete table (held_there table held)) none;
    }

    pub rehearsed_fresh : BeginsFresh memory_means text_means board board' source source' ending
        → ((Rose (counts_of board).flash_faults (counts_of board').flash_faults → ⊥) → (Rose (counts_of board).link_faults (counts_of board').link_faults → ⊥)
        → (Rose (faults_of source) (faults_of source') → ⊥) → EndsAsTold (left_of source) ending)
        → RehearsedFresh image text ending board' source'
    rehearsed_fresh begins complete = record {
      begin = begin_of;
      session = begins refl;
      complete = λ none. as_told (λ none. complete) none;
    }

    pub rehearsed_format : Formats memory_means board board' ending → source' ≡ source → RehearsedFormat image text ending board' source'
    rehearsed_format formats unread = record { begin = begin_of; formats = formats; unread = unread }

    pub rehearsed_generate : (number count : ℕ) → Generates memory_means (traffic_of number count) board board' ending → source' ≡ source
        → RehearsedGenerate number count image text ending board' source'
    rehearsed_generate number count generates unread = record { begin = begin_of; generates = generates; unread = unread }

    pub rehearsed_list : Lists memory_means board board' ending → source' ≡ source → RehearsedList image text ending board' source'
    rehearsed_list lists unread = record {
      begin = begin_of;
      listing = record {
        ends = λ table held. lists.listing.ends table (refl, held_there table held);
        whole = λ is link table held. lists.listing.whole is link table (refl, held_there table held);
        moments = λ link table held. lists.listing.moments link table (refl, held_there table held);
        writes = lists.listing.writes;
      };
      unread = unread;
    }

    pub rehearsed_none : ending ≡ BadWords → board' ≡ board → source' ≡ source → RehearsedNone image text ending board' source'
    rehearsed_none is same_board same_source = record {
      refused = is;
      unused = subst (λ (b : MemBoard). IsNewBoard (blocks_in image) (pages_in image) false b) (sym same_board) made;
      whole = subst (λ (s : MemSource). IsNewSource text s) (sym same_source) given;
    }
