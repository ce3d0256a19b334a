-- A vault that was loaded stands for the table of the flash.
use Rattle.std.proofs.Common.{◌≡◌, ℕ, Bool, true, false, List, [], ◌∷◌, ◌++◌, length, take, Option, Some, None, Result, Ok, Err, sym, ◌∙◌, ap, subst, arith, zero, suc, get_or, replicate, refl}
use Rattle.std.specs.Prelude.{IfOk, OnOk}
use Rattle.std.proofs.lemmas.Bool.{false≢true}
use Rattle.std.proofs.lemmas.List.{take-append-le}
use Rattle.block_pool.specs.Blocks.{Blocks, is_ready, new_pool}
use Rattle.board.specs.Flash.{Flash, IsContent}
use Rattle.image_table.proofs.Standing.{table_here}
use Rattle.image_table.specs.Table.{table_by, table_of}
use Rattle.meta_journal.specs.Directories.{directory_of}
use Rattle.meta_journal.specs.Standing as journals
use Rattle.pst_model.specs.Table.{Table}
use Rattle.record_view.specs.declared.link.Link.{Link}
use Rattle.store_directory.specs.Checkpoints.{is_lawful}
use Rattle.store_directory.specs.Directory.{Directory}
use Rattle.store_directory.specs.Kept.{Kept}
use Rattle.store_directory.specs.Options.{◌>>=◌}
use Rattle.store_directory.proofs.Lawful.{lawful-from_kept}
use Rattle.vault.proofs.EachStores.{each_gives}
use Rattle.vault.proofs.Places.{take_whole}
use Rattle.vault.proofs.Tables.{HasIndex, Shows, shows_table, view_shows}
use Rattle.vault.specs.Answers.{OnNotHeld}
use Rattle.vault.specs.Loading.{IsLoadedStore}
use Rattle.vault.specs.Memory.{InMemory, IsFresh, IsStaleStore, has_link}
use Rattle.vault.specs.Opening.{IsLoadedVault}
use Rattle.vault.specs.Standing.{IsCleanBehind, IsStoreOf, StandsFor}
use Rattle.vault.specs.declared.fault.OpenFault.{OpenFault}
use Rattle.vault.specs.declared.fault.OpenFault.TheVariants as faults

-- what follows from an answer

pub if_ok : {A E : Type 0} (r : Result A E) (P Q : A → Type 0) → IfOk r P → ((x : A) → P x → Q x) → IfOk r Q
if_ok (Ok x) P Q h f = f x h
if_ok (Err e) P Q h f = tt

pub ok_gives : {A E : Type 0} (r : Result A E) (P Q : Type 0) → OnOk r P → (P → Q) → OnOk r Q
ok_gives (Ok x) P Q h f = f h
ok_gives (Err e) P Q h f = tt

pub none_held : {A : Type 0} (r : Result A OpenFault) (P Q : Type 0) → OnNotHeld r P → (P → Q) → OnNotHeld r Q
none_held (Ok x) P Q h f = tt
none_held (Err faults.NotHeld) P Q h f = f h
none_held (Err faults.Flash) P Q h f = tt
none_held (Err faults.NoMemory) P Q h f = tt

-- a buffer's first items
pub whole_taken : {X : Type 0} (n : ℕ) (xs ys : List X) → length xs ≡ n → take n (xs ++ ys) ≡ xs
whole_taken n xs ys is = take-append-le n xs ys (omega (arith, is)) ∙ take_whole xs n (omega (arith, is))

-- an image without a directory, or without the table of its directory, holds no table

pub no_directory : (blocks : ℕ) (image : ℕ → List ℕ) → directory_of blocks image ≡ None → table_of blocks image ≡ None
unfolding table_of
no_directory blocks image none = ap (λ (found : Option Directory). found >>= table_by blocks image) none

pub no_table : (blocks : ℕ) (image : ℕ → List ℕ) (d : Directory) → directory_of blocks image ≡ Some d → table_by blocks image d ≡ None
    → table_of blocks image ≡ None
unfolding table_of
no_table blocks image d is none = ap (λ (found : Option Directory). found >>= table_by blocks image) is ∙ none

clean_behind : (flash : Flash) (links : List Link) (used : ℕ) (stale : Bool) → stale ≡ has_link links → stale ≡ false → IsCleanBehind flash links used
clean_behind flash [] used stale is not_stale = tt
clean_behind flash (link ∷ links) used stale is not_stale = absurd (false≢true (sym not_stale ∙ is))

unready : (n block : ℕ) → get_or (replicate n false) block false ≡ false
unready zero block = refl
unready (suc n) zero = refl
unready (suc n) (suc block) = unready n block

-- no block is ready at first
none_ready : (pool : Blocks) (blocks block : ℕ) → pool.ready ≡ (new_pool blocks).ready → is_ready pool block ≡ false
none_ready pool blocks block is = ap (λ (marks : List Bool). get_or marks block false) is ∙ unready blocks block

module _ (told : Type 0) (yes : told) (blocks : ℕ) (wear : List ℕ) (d : Kept) (journal : journals.Kept) (vault : InMemory) (flash : Flash)
    (loaded : IsLoadedVault told flash.content blocks wear d journal vault) where
  lawful : is_lawful vault.directory.directory ≡ true
  lawful = subst (λ (d : Kept). is_lawful d.directory ≡ true) (sym loaded.directory) (lawful-from_kept d.directory loaded.lawful)

  shows : Shows vault.blocks flash.content vault.directory.directory vault.indexes
  shows =
      shows_table vault.blocks flash.content vault.directory.directory vault.indexes vault.lasts lawful loaded.sound.share
      (each_gives (IsLoadedStore told flash.content vault.directory.now) (HasIndex flash.content vault.directory.now)
      (λ s index last one. one.index_is yes) vault.directory.stores vault.indexes vault.lasts loaded.stores)

  here : directory_of blocks flash.content ≡ Some d.directory → directory_of vault.blocks flash.content ≡ Some vault.directory.directory
  here is =
      ap (λ n. directory_of n flash.content) loaded.blocks_is ∙ is ∙ ap (λ (d : Kept). Some d.directory) (sym loaded.directory)

  holds : directory_of blocks flash.content ≡ Some d.directory → table_of vault.blocks flash.content ≡ Some shows.table
  holds is = table_here vault.blocks flash.content vault.directory.directory shows.table (here is) shows.by

  -- the flash holds a table
  pub holds_table : directory_of blocks flash.content ≡ Some d.directory → (table : Table) × (table_of blocks flash.content ≡ Some table)
  holds_table is = (shows.table, ap (λ n. table_of n flash.content) (sym loaded.blocks_is) ∙ holds is)

  -- and the vault stands for it
  pub stands_for : IsContent blocks flash.content → directory_of blocks flash.content ≡ Some d.directory → journals.StandsFor journal flash
      → journals.AllFirm flash → (table : Table) × StandsFor vault flash table
  stands_for pages is journal_stands firm = (
    shows.table,
    record {
      pages = subst (λ n. IsContent n flash.content) (sym loaded.blocks_is) pages;
      holds = holds is;
      directory = here is;
      shows = view_shows vault.blocks flash.content vault shows;
      journal = subst (λ j. journals.StandsFor j flash) (sym loaded.journal_is) journal_stands;
      stores =
          each_gives (IsLoadedStore told flash.content vault.directory.now) (IsStoreOf flash vault.directory.now)
          (λ s index last one. record {
            index_is = one.index_is yes;
            used_is = one.used_is yes;
            clean = clean_behind flash s.links last.used last.stale one.stale_is;
          })
          vault.directory.stores vault.indexes vault.lasts loaded.stores;
      ready = λ block free marked. absurd (false≢true (sym (none_ready vault.pool (length wear) block loaded.ready_is) ∙ marked));
      firm_journal = λ p low. firm p;
      firm_records = λ p there. firm p;
    },
  )

-- nothing was changed yet
pub fresh_of : (told : Type 0) (image : ℕ → List ℕ) (blocks : ℕ) (wear : List ℕ) (d : Kept) (journal : journals.Kept) (vault : InMemory)
    → IsLoadedVault told image blocks wear d journal vault → journal.room ≡ 0 → IsFresh vault
fresh_of told image blocks wear d journal vault loaded room = record {
  is_open = loaded.is_open;
  room = ap (λ (j : journals.Kept). j.room) loaded.journal_is ∙ room;
  none_ready = λ block. none_ready vault.pool (length wear) block loaded.ready_is;
  stale =
      each_gives (IsLoadedStore told image vault.directory.now) IsStaleStore (λ s index last one. one.stale_is)
      vault.directory.stores vault.indexes vault.lasts loaded.stores;
}
