-- A store that takes the packet into a new block.
use Rattle.std.proofs.Common.{◌≡◌, ℕ, suc, ◌+◌, ◌≤◌, true, List, [], ◌∷◌, ◌++◌, length, drop, slice_set, Some, eqb-true, refl, sym, ◌∙◌, ap, subst, arith}
use Rattle.std.specs.Prelude.{slice_get}
use Rattle.std.specs.List.{All}
use Rattle.std.proofs.lemmas.List.Elements.{All-cons, All-nil}
use Rattle.block_pool.specs.Sizes.{blocks_for_size}
use Rattle.chain_log.specs.Pages.{block_octets}
use Rattle.pst_model.specs.Arrivals.{offered}
use Rattle.pst_model.specs.Table.{Store, Stored, Table}
use Rattle.record_view.specs.Records.{record_at}
use Rattle.record_view.specs.declared.link.Link.{Link}
use Rattle.store_directory.specs.Changes.{Change, Links, Put}
use Rattle.store_directory.specs.Directory.{Directory, FitsLink, Listed, is_new, with_stores}
use Rattle.store_directory.specs.Entries.{FitsChange}
use Rattle.store_directory.specs.declared.row.Row.{Row}
use Rattle.store_directory.proofs.Lawful.{lawful-from_kept}
use Rattle.store_load.specs.Claims.{may_share}
use Rattle.store_load.specs.Kept.{begins_well}
use Rattle.store_load.specs.Extents.{end_of, last_of}
use Rattle.store_load.specs.Moving.{used_by}
use Rattle.store_load.proofs.Counting.{kept_parts}
use Rattle.image_table.specs.Going.{table_put, with_row}
use Rattle.image_table.specs.Going as going
use Rattle.image_table.specs.Table.{table_by, table_rule}
use Rattle.image_table.proofs.Puts.{block_linked, first_put}
use Rattle.put_laws.specs.Puts.{Accepts, Begins, IsFull, SpellsAt, SpellsFirst, changes_of_put, is_unnamed, listed_behind, row_behind_put}
use Rattle.put_laws.specs.Walks.{HasGoneOn, HasOffered, IsTurn, table_at}
use Rattle.put_laws.proofs.Applies.{Fits, found, links_fit_in, links_name_one, new_linked, new_put, put_fits_in, put_names_none}
use Rattle.put_laws.proofs.Contents.{few, keeps_is, room, taken_row, taking}
use Rattle.put_laws.proofs.FewLinks.{few_links}
use Rattle.put_laws.proofs.Replaced.{listed_in}
use Rattle.store_load.proofs.LastLinks.{last_more, used_none}
use Rattle.put_laws.proofs.Spots.{Spot, get_here, set_again, set_in}
use Rattle.put_laws.proofs.Taking.{fits_taken, left_taken, loads_taken, meaning, next_taken, now_is, row_fits, row_lawful, stores_taken, unnamed_taken}
use Rattle.put_laws.proofs.Turns.{Step, Turn, left_in, loaded, put_next, spot_listed, turn_of, walked}

module _ (blocks : ℕ) (image : ℕ → List ℕ) (d : Directory) (table : Table) (stored : Stored) (at : ℕ) (s : Listed) (store : Store)
    (turn : Turn blocks image d table stored at s store) (gone : ℕ) (accepts : Accepts store stored gone)
    (new : Link) (spells : SpellsFirst blocks image d s new stored) where
  pub fits_link : FitsLink new
  fits_link = (spells.numbered, omega (arith, spells.first))

  abbrev there : Spot d.stores at s
  there = spot_listed blocks image d table stored at s store turn

  abbrev share : may_share 240 blocks d.stores ≡ true
  share = (loaded blocks image d table stored at s store turn).share

  pub room_for_one : length s.links + 1 ≤ blocks_for_size s.size
  room_for_one =
      let (records, keeps, whole) = keeps_is blocks image d table stored at s store turn in
      few_links blocks image d.now s.row s.links records keeps spells.full

  abbrev pub linked : Listed
  linked = new_linked blocks d turn.directory share there.front s there.back there.parted new spells.own spells.unnamed fits_link room_for_one

  abbrev pub middle : Directory
  middle = with_stores d (there.front ++ linked ∷ there.back)

  unnamed_linked : (block : ℕ) → is_unnamed block d ≡ true → is_new block (new.block ∷ []) ≡ true → is_unnamed block middle ≡ true
  unnamed_linked = links_name_one blocks d turn.directory share there.front s there.back there.parted new spells.own spells.unnamed fits_link room_for_one

  left_linked : drop (suc at) middle.stores ≡ drop (suc at) d.stores
  left_linked = left_in d.stores there.front s linked there.back at there.parted there.long

  stores_linked : middle.stores ≡ slice_set d.stores at linked
  stores_linked = set_in d.stores there.front s linked there.back at there.parted there.long

  written : All FitsChange (changes_of_put s.row (Begins gone new))
  written =
      All-cons FitsChange (Links s.identifier (new ∷ [])) (Put (row_behind_put gone s.row) ∷ [])
      ((listed_in d turn.directory there.front s there.back there.parted).fits.identifier, omega arith, All-cons FitsLink new [] fits_link (All-nil FitsLink))
      (All-cons FitsChange (Put (row_behind_put gone s.row)) [] (row_fits blocks image d table stored at s store turn gone accepts) (All-nil FitsChange))

  abbrev new_behind : Listed
  new_behind = listed_behind (Begins gone new) s

  pub fits_linked : Fits blocks d (Links s.identifier (new ∷ [])) middle
  fits_linked = links_fit_in blocks d turn.directory share there.front s there.back there.parted new spells.own spells.unnamed fits_link room_for_one

  -- behind a full block: the store with the new link keeps the records that it had
  module _ (link : Link) (links : List Link) (some : s.links ≡ link ∷ links) where
    full : 240 ≤ used_by image s.row link links
    full = subst (IsFull image s.row) some spells.full

    turn_linked : Turn blocks image middle table stored at linked store
    turn_linked =
        let fits = fits_linked in
        record {
          pages = turn.pages;
          directory = fits.directory;
          loads =
              block_linked blocks image d middle (table_at stored at table) s.identifier s link new links
              (record {
                pages = turn.pages;
                directory = turn.directory;
                loads = turn.loads;
                applied = fits.applied;
                lawful = lawful-from_kept middle fits.directory;
                share = fits.share;
              }) (found blocks d turn.directory share there.front s there.back there.parted) some spells.first full;
          listed = ap (slice_get middle.stores) (sym there.long) ∙ get_here there.front linked there.back;
          shown = turn.shown;
        }

    pub begins_further : Step blocks image d table stored at s (Begins gone new)
    begins_further =
        let linked_fits = fits_linked in
        let fits = fits_taken blocks image middle table stored at linked store turn_linked gone accepts in
        let spelled : SpellsAt image (last_of link (links ++ new ∷ [])).block (used_by image s.row link (links ++ new ∷ [])) (end_of s.row) stored =
        subst (λ (l : Link). SpellsAt image l.block (used_by image s.row link (links ++ new ∷ [])) (end_of s.row) stored) (sym (last_more link links new))
        (subst (λ (n : ℕ). SpellsAt image new.block n (end_of s.row) stored) (sym (used_none image s.row link links new spells.first)) spells.spelled) in
        record {
          next = next_taken blocks image middle table stored at linked store turn_linked gone accepts;
          applied = rw (linked_fits.applied) (rw (fits.applied) refl);
          written = written;
          directory = fits.directory;
          loads =
              loads_taken blocks image middle table stored at linked store turn_linked gone accepts link (links ++ new ∷ [])
              (ap (λ (l : List Link). l ++ new ∷ []) some) spelled;
          left = left_taken blocks image middle table stored at linked store turn_linked gone accepts ∙ left_linked;
          stores =
              stores_taken blocks image middle table stored at linked store turn_linked gone accepts
              ∙ ap (λ (l : List Listed). slice_set l at new_behind) stores_linked ∙ set_again d.stores at linked new_behind;
          unnamed = λ block unnamed other.
              unnamed_taken blocks image middle table stored at linked store turn_linked gone accepts block (unnamed_linked block unnamed other);
        }

  -- as the first block
  module _ (none : s.links ≡ []) where
    abbrev row : Row
    row = row_behind_put gone s.row

    no_count : s.count ≡ 0
    no_count =
        let (records, keeps, whole) = keeps_is blocks image d table stored at s store turn in
        eqb-true s.count 0 (sym (ap (begins_well s.row) none) ∙ (kept_parts table_rule image d.now s.row s.links records keeps.kept).begins)

    none_gone : gone ≡ 0
    none_gone = omega (arith, no_count, few blocks image d table stored at s store turn gone accepts)

    same_first : end_of s.row ≡ row.first
    same_first = omega (arith, no_count, none_gone)

    abbrev pub new_first : Listed
    new_first =
        new_put blocks middle fits_linked.directory fits_linked.share there.front linked there.back refl row refl refl
        (row_lawful blocks image d table stored at s store turn gone accepts) (row_fits blocks image d table stored at s store turn gone accepts)

    abbrev pub next_first : Directory
    next_first = with_stores middle (there.front ++ new_first ∷ there.back)

    fits_first : Fits blocks middle (Put row) next_first
    fits_first =
        put_fits_in blocks middle fits_linked.directory fits_linked.share there.front linked there.back refl row refl refl
        (row_lawful blocks image d table stored at s store turn gone accepts) (row_fits blocks image d table stored at s store turn gone accepts)

    loads_first : table_by blocks image next_first ≡ Some (table_at stored (suc at) table)
    loads_first =
        let (records, keeps, whole) = keeps_is blocks image d table stored at s store turn in
        let linked_fits = fits_linked in
        let fits = fits_first in
        let space = room blocks image d table stored at s store turn gone accepts in
        let now = now_is blocks image d table stored at s store turn gone accepts in
        let begins : going.Begins blocks image d (table_at stored at table) new row next_first =
        record {
          loads = turn.loads;
          middle = middle;
          linked = linked_fits.applied;
          put = fits.applied;
          lawful = lawful-from_kept next_first fits.directory;
          share = fits.share;
          count = omega (arith, no_count);
          first = omega arith;
          same = spells.first ∙ same_first;
        } in
        let packet = meaning blocks image d table stored at s store turn gone accepts in
        let loads =
        first_put blocks image d next_first (table_at stored at table) s new row packet begins
        (found blocks d turn.directory share there.front s there.back there.parted) none
        (ap (λ (n : ℕ). record_at (block_octets image new.block) n 0) (sym same_first) ∙ spells.spelled)
        (omega (arith, now)) accepts.short (omega (arith, space)) in
        let made : with_row row (drop 0 store.packets ++ stored ∷ []) store ≡ offered stored store =
        ap (λ (n : ℕ). with_row row (drop n store.packets ++ stored ∷ []) store) (sym none_gone)
        ∙ taken_row stored s records store gone whole ∙ sym (taking stored store gone accepts) in
        loads ∙ ap Some (put_next blocks image d table stored at s store turn row 0 (stored ∷ []) refl made)

    pub begins_first : Step blocks image d table stored at s (Begins gone new)
    begins_first =
        let linked_fits = fits_linked in
        let fits = fits_first in
        record {
          next = next_first;
          applied = rw (linked_fits.applied) (rw (fits.applied) refl);
          written = written;
          directory = fits.directory;
          loads = loads_first;
          left = left_in middle.stores there.front linked new_first there.back at refl there.long ∙ left_linked;
          stores =
              set_in middle.stores there.front linked new_first there.back at refl there.long
              ∙ ap (λ (l : List Listed). slice_set l at new_behind) stores_linked ∙ set_again d.stores at linked new_behind;
          unnamed = λ block unnamed other.
              put_names_none blocks middle linked_fits.directory linked_fits.share there.front linked there.back refl row refl refl
              (row_lawful blocks image d table stored at s store turn gone accepts) (row_fits blocks image d table stored at s store turn gone accepts)
              block (unnamed_linked block unnamed other);
        }

  pub begins_block : (links : List Link) → s.links ≡ links → Step blocks image d table stored at s (Begins gone new)
  begins_block [] is = begins_first is
  begins_block (link ∷ links) is = begins_further link links is

pub begins : (blocks : ℕ) (image : ℕ → List ℕ) (d : Directory) (table : Table) (stored : Stored) (at : ℕ) (changes : List Change) (before : Directory) (s : Listed) (store : Store)
    (gone : ℕ) (link : Link) → HasOffered blocks image d table stored at changes before → IsTurn d table at s store → Accepts store stored gone
    → SpellsFirst blocks image before s link stored → HasGoneOn blocks image d table stored at changes before s (Begins gone link)
begins blocks image d table stored at changes before s store gone link walk turn accepts spells =
    walked blocks image d table stored at changes before s (Begins gone link) walk
    (begins_block blocks image before table stored at s store (turn_of blocks image d table stored at changes before s store walk turn) gone accepts link spells s.links refl)
