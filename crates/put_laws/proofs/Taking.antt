-- A store that takes the packet into its last block.
use Rattle.std.proofs.Common.{◌≡◌, ℕ, suc, ◌+◌, ◌≤◌, true, List, [], ◌∷◌, ◌++◌, length, drop, slice_set, Some, refl, sym, ◌∙◌, ap, subst, arith}
use Rattle.std.specs.Prelude.{find}
use Rattle.std.proofs.lemmas.List.Elements.{All-cons, All-nil}
use Rattle.std.proofs.lemmas.Option.{same_Some}
use Rattle.space_packet.specs.Charge.{charge_of}
use Rattle.pst_model.specs.Changes.{is_named}
use Rattle.pst_model.specs.Table.{Store, Stored, Table, content_in}
use Rattle.record_view.specs.Records.{Meaning}
use Rattle.record_view.specs.declared.link.Link.{Link}
use Rattle.store_directory.specs.Changes.{Change, Put}
use Rattle.store_directory.specs.Directory.{Directory, Listed, with_stores}
use Rattle.store_directory.specs.Entries.{FitsChange}
use Rattle.store_directory.specs.Rows.{FitsRow, is_lawful_row}
use Rattle.store_directory.specs.declared.row.Row.{Row}
use Rattle.store_directory.proofs.Lawful.{lawful-from_kept}
use Rattle.store_load.specs.Claims.{may_share}
use Rattle.store_load.specs.Extents.{end_of, last_of}
use Rattle.store_load.specs.Moving.{GoesOn, IsNext, used_by}
use Rattle.image_table.specs.Table.{table_by, table_rule}
use Rattle.image_table.proofs.Puts.{more_put}
use Rattle.put_laws.specs.Puts.{Accepts, SpellsAt, SpellsBehind, Takes, is_unnamed, need_of, row_behind_put}
use Rattle.put_laws.specs.Walks.{HasGoneOn, HasOffered, IsTurn, offered_to, table_at}
use Rattle.put_laws.proofs.Applies.{Fits, found, new_put, put_fits_in, put_names_none}
use Rattle.put_laws.proofs.Contents.{count_room, few, keeps_is, room, taken_row, taking}
use Rattle.put_laws.proofs.Replaced.{listed_in}
use Rattle.put_laws.proofs.Rows.{put_fits, put_lawful}
use Rattle.put_laws.proofs.Spots.{Spot, set_in}
use Rattle.put_laws.proofs.Turns.{Turn, found_is, left_in, loaded, put_next, spot_listed, turn_of, walked}

module _ (blocks : ℕ) (image : ℕ → List ℕ) (d : Directory) (table : Table) (stored : Stored) (at : ℕ) (s : Listed) (store : Store)
    (turn : Turn blocks image d table stored at s store) (gone : ℕ) (accepts : Accepts store stored gone) where
  abbrev there : Spot d.stores at s
  there = spot_listed blocks image d table stored at s store turn

  abbrev share : may_share 240 blocks d.stores ≡ true
  share = (loaded blocks image d table stored at s store turn).share

  abbrev row : Row
  row = row_behind_put gone s.row

  pub row_lawful : is_lawful_row row ≡ true
  row_lawful =
      put_lawful s.row gone (listed_in d turn.directory there.front s there.back there.parted).lawful
      (count_room blocks image d table stored at s store turn gone accepts)

  pub row_fits : FitsRow row
  row_fits =
      put_fits s.row gone (listed_in d turn.directory there.front s there.back there.parted).fits
      (count_room blocks image d table stored at s store turn gone accepts)

  abbrev pub new_taken : Listed
  new_taken = new_put blocks d turn.directory share there.front s there.back there.parted row refl refl row_lawful row_fits

  abbrev pub next_taken : Directory
  next_taken = with_stores d (there.front ++ new_taken ∷ there.back)

  pub fits_taken : Fits blocks d (Put row) next_taken
  fits_taken = put_fits_in blocks d turn.directory share there.front s there.back there.parted row refl refl row_lawful row_fits

  pub unnamed_taken : (block : ℕ) → is_unnamed block d ≡ true → is_unnamed block next_taken ≡ true
  unnamed_taken = put_names_none blocks d turn.directory share there.front s there.back there.parted row refl refl row_lawful row_fits

  pub left_taken : drop (suc at) next_taken.stores ≡ drop (suc at) d.stores
  left_taken = left_in d.stores there.front s new_taken there.back at there.parted there.long

  pub stores_taken : next_taken.stores ≡ slice_set d.stores at new_taken
  stores_taken = set_in d.stores there.front s new_taken there.back at there.parted there.long

  -- the packet is as new as the table
  pub now_is : d.now ≡ stored.time
  now_is = ap (λ (t : Table). t.now) (loaded blocks image d table stored at s store turn).whole

  abbrev pub meaning : Meaning
  meaning = record { number = end_of s.row; stamp = stored.time; packet = stored.octets }

  pub loads_taken : (link : Link) (links : List Link) → s.links ≡ link ∷ links
      → SpellsAt image (last_of link links).block (used_by image s.row link links) (end_of s.row) stored
      → table_by blocks image next_taken ≡ Some (table_at stored (suc at) table)
  loads_taken link links some spelled =
      let (records, keeps, whole) = keeps_is blocks image d table stored at s store turn in
      let fits = fits_taken in
      let stands = found blocks d turn.directory share there.front s there.back there.parted in
      let goes : GoesOn gone 1 s.row row =
      record { few = few blocks image d table stored at s store turn gone accepts; first = refl; count = refl } in
      let next : IsNext table_rule d.now d.now meaning =
      record { since = omega (arith, now_is); by = omega (arith, now_is); short = accepts.short } in
      let space = room blocks image d table stored at s store turn gone accepts in
      let has_space : (x : Store) → find (is_named s.identifier) (offered_to stored at table.stores) ≡ Some x
      → content_in (drop gone x.packets) + charge_of (length stored.octets) ≤ s.size = λ x is.
      subst (λ (y : Store). content_in (drop gone y.packets) + need_of stored ≤ s.size)
      (same_Some store x (sym (found_is blocks image d table stored at s store turn) ∙ is)) space in
      let loads =
      more_put blocks image d next_taken (table_at stored at table) row s gone
      (record {
        pages = turn.pages;
        directory = turn.directory;
        loads = turn.loads;
        applied = fits.applied;
        lawful = lawful-from_kept next_taken fits.directory;
        share = fits.share;
      }) stands link links some goes meaning spelled next has_space in
      loads
      ∙ ap Some
      (put_next blocks image d table stored at s store turn row gone (stored ∷ []) refl
      (taken_row stored s records store gone whole ∙ sym (taking stored store gone accepts)))

module _ (blocks : ℕ) (image : ℕ → List ℕ) (d : Directory) (table : Table) (stored : Stored) (at : ℕ) (changes : List Change) (before : Directory) (s : Listed) (store : Store)
    (walk : HasOffered blocks image d table stored at changes before) (turn : IsTurn d table at s store) (gone : ℕ) (accepts : Accepts store stored gone) where
  abbrev here : Turn blocks image before table stored at s store
  here = turn_of blocks image d table stored at changes before s store walk turn

  pub takes : SpellsBehind image s stored → HasGoneOn blocks image d table stored at changes before s (Takes gone)
  takes spells =
      let fits = fits_taken blocks image before table stored at s store here gone accepts in
      walked blocks image d table stored at changes before s (Takes gone) walk
      (record {
        next = next_taken blocks image before table stored at s store here gone accepts;
        applied = rw (fits.applied) refl;
        written =
            All-cons FitsChange (Put (row_behind_put gone s.row)) []
            (row_fits blocks image before table stored at s store here gone accepts) (All-nil FitsChange);
        directory = fits.directory;
        loads = loads_taken blocks image before table stored at s store here gone accepts spells.link spells.links spells.some spells.spelled;
        left = left_taken blocks image before table stored at s store here gone accepts;
        stores = stores_taken blocks image before table stored at s store here gone accepts;
        unnamed = λ block unnamed other. unnamed_taken blocks image before table stored at s store here gone accepts block unnamed;
      })
