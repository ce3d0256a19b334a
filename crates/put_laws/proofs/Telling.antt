-- A store that tells a refusal.
use Rattle.std.proofs.Common.{◌≡◌, ℕ, ◌≤◌, true, List, [], ◌∷◌, ◌++◌, append-nil, drop, Some, refl, sym, ◌∙◌, ap, subst, arith}
use Rattle.std.proofs.lemmas.List.Elements.{All-cons, All-nil}
use Rattle.std.proofs.lemmas.Option.{same_Some}
use Rattle.pst_model.specs.Table.{Store, Stored, Table, content_in}
use Rattle.record_view.specs.Records.{Meaning}
use Rattle.store_directory.specs.Changes.{Change, Put}
use Rattle.store_directory.specs.Directory.{Directory, IsListed, Listed, with_stores}
use Rattle.store_directory.specs.Entries.{FitsChange}
use Rattle.store_directory.specs.Rows.{FitsRow}
use Rattle.store_directory.proofs.Lawful.{lawful-from_kept}
use Rattle.store_load.specs.Moving.{GoesOn}
use Rattle.store_load.specs.Claims.{may_share}
use Rattle.image_table.specs.Going.{table_put, with_row}
use Rattle.image_table.specs.Table.{store_with, table_by}
use Rattle.image_table.proofs.Puts.{front_put}
use Rattle.put_laws.specs.Puts.{Refuses, Tells, told_row}
use Rattle.put_laws.specs.Walks.{HasGoneOn, HasOffered, IsTurn, table_at}
use Rattle.put_laws.proofs.Applies.{Fits, found, new_put, put_fits_in, put_names_none}
use Rattle.put_laws.proofs.Contents.{content_within}
use Rattle.put_laws.proofs.Replaced.{listed_in}
use Rattle.put_laws.proofs.Rows.{told_fits}
use Rattle.put_laws.proofs.Spots.{Spot, set_in}
use Rattle.put_laws.proofs.Staying.{refusal}
use Rattle.put_laws.proofs.Turns.{Step, Turn, found_is, kept_is, left_in, loaded, put_next, spot_listed, turn_of, walked}

-- the row makes of the store what the refusal does
told_store : (s : Listed) (records : List Meaning) (store : Store) → store_with s records ≡ store
    → with_row (told_row s.row) (drop 0 store.packets ++ []) store ≡ record store { told = true }
told_store s records store whole =
    ap (λ (l : List Stored). with_row (told_row s.row) l store) (append-nil store.packets)
    ∙ subst (λ (x : Store). with_row (told_row s.row) x.packets x ≡ record x { told = true }) whole refl

module _ (blocks : ℕ) (image : ℕ → List ℕ) (d : Directory) (table : Table) (stored : Stored) (at : ℕ) (s : Listed) (store : Store)
    (turn : Turn blocks image d table stored at s store) where
  abbrev there : Spot d.stores at s
  there = spot_listed blocks image d table stored at s store turn

  abbrev share : may_share 240 blocks d.stores ≡ true
  share = (loaded blocks image d table stored at s store turn).share

  listed : IsListed s
  listed = listed_in d turn.directory there.front s there.back there.parted

  row_fits : FitsRow (told_row s.row)
  row_fits = told_fits s.row listed.fits

  abbrev new_told : Listed
  new_told = new_put blocks d turn.directory share there.front s there.back there.parted (told_row s.row) refl refl listed.lawful row_fits

  abbrev next_told : Directory
  next_told = with_stores d (there.front ++ new_told ∷ there.back)

  fits_told : Fits blocks d (Put (told_row s.row)) next_told
  fits_told = put_fits_in blocks d turn.directory share there.front s there.back there.parted (told_row s.row) refl refl listed.lawful row_fits

  row_told : table_by blocks image next_told ≡ Some (table_put (told_row s.row) 0 [] (table_at stored at table))
  row_told =
      let fits = fits_told in
      let low = listed.fits.first in
      let goes : GoesOn 0 0 s.row (told_row s.row) = record { few = omega arith; first = omega (arith, low); count = omega arith } in
      let content = content_within blocks image d table stored at s store turn in
      front_put blocks image d next_told (table_at stored at table) (told_row s.row) s 0
      (record {
        pages = turn.pages;
        directory = turn.directory;
        loads = turn.loads;
        applied = fits.applied;
        lawful = lawful-from_kept next_told fits.directory;
        share = fits.share;
      }) (found blocks d turn.directory share there.front s there.back there.parted) goes
      (λ x is. subst (λ (y : Store). content_in y.packets ≤ s.size)
      (same_Some store x (sym (found_is blocks image d table stored at s store turn) ∙ is)) content)

  pub telling : Refuses store stored → Step blocks image d table stored at s Tells
  telling refuses =
      let fits = fits_told in
      let (records, kept, whole) = kept_is blocks image d table stored at s store turn in
      let made = told_store s records store whole ∙ sym (refusal stored store refuses) in
      record {
        next = next_told;
        applied = rw (fits.applied) refl;
        written = All-cons FitsChange (Put (told_row s.row)) [] row_fits (All-nil FitsChange);
        directory = fits.directory;
        loads = row_told ∙ ap Some (put_next blocks image d table stored at s store turn (told_row s.row) 0 [] refl made);
        left = left_in d.stores there.front s new_told there.back at there.parted there.long;
        stores = set_in d.stores there.front s new_told there.back at there.parted there.long;
        unnamed = λ block unnamed other.
            put_names_none blocks d turn.directory share there.front s there.back there.parted (told_row s.row) refl refl listed.lawful row_fits block unnamed;
      }

pub tells : (blocks : ℕ) (image : ℕ → List ℕ) (d : Directory) (table : Table) (stored : Stored) (at : ℕ) (changes : List Change) (before : Directory) (s : Listed) (store : Store)
    → HasOffered blocks image d table stored at changes before → IsTurn d table at s store → Refuses store stored
    → HasGoneOn blocks image d table stored at changes before s Tells
tells blocks image d table stored at changes before s store walk turn refuses =
    walked blocks image d table stored at changes before s Tells walk
    (telling blocks image before table stored at s store (turn_of blocks image d table stored at changes before s store walk turn) refuses)
