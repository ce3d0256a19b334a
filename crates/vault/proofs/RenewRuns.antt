-- How runs go on that renew last blocks.
use Rattle.std.proofs.Common.{◌≡◌, ℕ, true, List, Result, Ok, Err, OnOk, OnErr, refl, sym, ◌∙◌, ap, subst}
use Rattle.std.specs.Prelude.{⊤, IfErr, is_ok}
use Rattle.std.specs.Result.{IsErr}
use Rattle.std.proofs.lemmas.Bool.{false≢true}
use Rattle.board.specs.Counts.{Rose}
use Rattle.board.specs.Device.{Device}
use Rattle.board.specs.Flash.{IsImage}
use Rattle.board.specs.Meaning.{BoardMeaning, TellsFlash}
use Rattle.board.specs.Moments.{LeavesOnly}
use Rattle.board.specs.Touches.{Touches}
use Rattle.board.proofs.Runs as runs
use Rattle.board.proofs.Stops as stops
use Rattle.board.proofs.Works.{tells_too}
use Rattle.image_table.specs.Standing.{HoldsTable}
use Rattle.meta_journal.specs.Standing as journals
use Rattle.pst_model.specs.Table.{Store, Table}
use Rattle.store_directory.specs.Directory.{Directory, with_stores}
use Rattle.store_directory.specs.Kept.{Kept}
use Rattle.store_policy.specs.Shown.{AreShown}
use Rattle.time_index.specs.TimeIndex.{TimeIndex}
use Rattle.vault.proofs.ReplacedStores.{fresh_on, fresh_same, rows_on, rows_same}
use Rattle.vault.proofs.Stopped.{image_holds}
use Rattle.vault.specs.Changing.{journal_pages}
use Rattle.vault.specs.Fetching.{OnFlash, UnlessFlash}
use Rattle.vault.specs.Memory.{InMemory, IsSound}
use Rattle.vault.specs.Putting.{IsAfterRoom}
use Rattle.vault.specs.Renewing.{DiffersUntold, IsAfterRenewal, KeepFresh, KeepRows, Renews}
use Rattle.vault.specs.Standing.{StandsFor}
use Rattle.vault.specs.declared.fault.VaultFault.{VaultFault}
use Rattle.vault.specs.declared.fault.VaultFault.TheVariants.{Flash, Mismatch}

-- the table that a vault stands for, if the flash is told
abbrev pub StandsIfTold : {B : Type 0} → BoardMeaning B → (board : B) → InMemory → Type 0
StandsIfTold means board vault = TellsFlash means board → (table : Table) × StandsFor vault (means.flash board) table

-- what holds if a run did not fail

on_ok : {A : Type 0} (r : Result A VaultFault) (P Q : Type 0) → (P → Q) → OnOk r P → OnOk r Q
on_ok (Ok x) P Q f h = f h
on_ok (Err e) P Q f h = tt

unless_flash : {A : Type 0} (r : Result A VaultFault) (P Q : Type 0) → (P → Q) → UnlessFlash r P → UnlessFlash r Q
unless_flash (Ok x) P Q f h = f h
unless_flash (Err Flash) P Q f h = tt
unless_flash (Err (Mismatch block page kept found)) P Q f h = f h

on_flash : {A : Type 0} (r : Result A VaultFault) (P Q : Type 0) → (P → Q) → OnFlash r P → OnFlash r Q
on_flash (Ok x) P Q f h = tt
on_flash (Err Flash) P Q f h = f h
on_flash (Err (Mismatch block page kept found)) P Q f h = tt

untold : (fault : VaultFault) (P Q : Type 0) → (P → Q) → DiffersUntold Q fault → DiffersUntold P fault
untold Flash P Q f h = tt
untold (Mismatch block page kept found) P Q f h = (h.0, λ p. h.1 (f p))

if_err : {A : Type 0} (r : Result A VaultFault) (P Q : VaultFault → Type 0) → ((fault : VaultFault) → P fault → Q fault) → IfErr r P → IfErr r Q
if_err (Ok x) P Q f h = tt
if_err (Err e) P Q f h = f e h

-- what a run leaves as it was, whatever it failed for
pub after_failed : (r : Result ⊤ VaultFault) (fault : VaultFault) (old new : InMemory) → IsErr r → IsAfterRenewal {A = ⊤} old new (Err fault)
    → IsAfterRenewal old new r
after_failed (Ok x) fault old new failed after = absurd (false≢true failed)
after_failed (Err e) fault old new failed after =
    record { others = after.others; directory = after.directory; rows = after.rows; fresh = after.fresh }

module _ {B : Type 0} (means : BoardMeaning B) where
  -- nothing was renewed yet
  pub renews_none : (board : B) (vault : InMemory) → vault.blocks ≡ (means.device board).blocks → vault.is_open ≡ true → IsSound vault
      → StandsIfTold means board vault
      → ((image : ℕ → List ℕ) → TellsFlash means board → means.images board (means.moment board) image
      → IsImage (means.device board).blocks (means.flash board) image)
      → Renews {A = ⊤} means board board vault vault (Ok tt)
  renews_none board vault by is_open sound stands images = record {
    leaves = λ told table here. stops.started means board (HoldsTable vault.blocks table)
        (λ image left. image_holds vault (means.flash board) table image sound here
        (subst (λ (n : ℕ). IsImage n (means.flash board) image) (sym by) (images image told left)));
    stands = λ told table here. here;
    shown = λ stores are. are;
    after = record {
      others = λ i. record vault { is_open = is_open i };
      directory = refl;
      rows = rows_same vault.directory.stores;
      fresh = fresh_same vault.lasts;
    };
    sound = sound;
    journal = λ told. (stands told).1.journal;
    unsent = λ told. runs.sends_nothing_yet means board;
    link = record { faults = refl; sends = refl };
    same = refl;
    mismatch = tt;
    no_fault = refl;
    cause = tt;
  }

  -- some more
  module _ (old mid new : B) (was half now : InMemory) (first : Renews {A = ⊤} means old mid was half (Ok tt)) where
    pub renews_on : {A : Type 0} (r : Result A VaultFault) → Renews means mid new half now r → Renews means old new was now r
    renews_on r second =
        let blocks : half.blocks ≡ was.blocks = ap (λ (v : InMemory). v.blocks) first.after.others in
        record {
          leaves = λ told table here.
              stops.goes_on means old mid new (HoldsTable was.blocks table) (HoldsTable half.blocks table) (first.leaves told table here)
              (second.leaves (tells_too first.same told) table (first.stands told table here))
              (λ image is. subst (λ (n : ℕ). HoldsTable n table image) blocks is);
          stands =
              on_ok r (TellsFlash means mid → (table : Table) → StandsFor half (means.flash mid) table → StandsFor now (means.flash new) table)
              (TellsFlash means old → (table : Table) → StandsFor was (means.flash old) table → StandsFor now (means.flash new) table)
              (λ goes told table here. goes (tells_too first.same told) table (first.stands told table here)) second.stands;
          shown =
              on_ok r ((stores : List Store) → AreShown stores half.directory.stores half.indexes → AreShown stores now.directory.stores now.indexes)
              ((stores : List Store) → AreShown stores was.directory.stores was.indexes → AreShown stores now.directory.stores now.indexes)
              (λ goes stores are. goes stores (first.shown stores are)) second.shown;
          after = record {
            others =
                second.after.others
                ∙ (λ i. record (first.after.others i) {
                  directory = now.directory;
                  indexes = now.indexes;
                  lasts = now.lasts;
                  pool = now.pool;
                  journal = now.journal;
                  is_open = is_ok r;
                });
            directory = second.after.directory ∙ ap (λ (d : Directory). with_stores d now.directory.stores) first.after.directory;
            rows = rows_on was.directory.stores half.directory.stores now.directory.stores first.after.rows second.after.rows;
            fresh = fresh_on was.lasts half.lasts now.lasts first.after.fresh second.after.fresh;
          };
          sound = second.sound;
          journal =
              on_ok r (TellsFlash means mid → journals.StandsFor now.journal (means.flash new))
              (TellsFlash means old → journals.StandsFor now.journal (means.flash new)) (λ goes told. goes (tells_too first.same told)) second.journal;
          unsent = λ told. runs.sends_nothing_on means old mid new (first.unsent told) (second.unsent (runs.links_too first.same told));
          link = record { faults = second.link.faults ∙ first.link.faults; sends = second.link.sends ∙ first.link.sends };
          same = second.same ∙ first.same;
          mismatch =
              if_err r (DiffersUntold (TellsFlash means mid)) (DiffersUntold (TellsFlash means old))
              (λ fault h. untold fault (TellsFlash means old) (TellsFlash means mid) (tells_too first.same) h) second.mismatch;
          no_fault =
              unless_flash r ((means.counts new).flash_faults ≡ (means.counts mid).flash_faults)
              ((means.counts new).flash_faults ≡ (means.counts old).flash_faults) (λ is. is ∙ first.no_fault) second.no_fault;
          cause =
              on_flash r (Rose (means.counts mid).flash_faults (means.counts new).flash_faults)
              (Rose (means.counts old).flash_faults (means.counts new).flash_faults)
              (subst (λ (n : ℕ). Rose n (means.counts new).flash_faults) first.no_fault) second.cause;
        }

    pub stands_on : StandsIfTold means old was → StandsIfTold means mid half
    stands_on stands told =
        let told_old = tells_too (sym first.same) told in let (table, here) = stands told_old in (table, first.stands told_old table here)

    pub blocks_on : was.blocks ≡ (means.device old).blocks → half.blocks ≡ (means.device mid).blocks
    blocks_on by = ap (λ (v : InMemory). v.blocks) first.after.others ∙ by ∙ ap (λ (d : Device). d.blocks) (sym first.same)

    pub open_on : half.is_open ≡ true
    open_on = ap (λ (v : InMemory). v.is_open) first.after.others

  -- room was made in the journal
  pub room_renews : {A : Type 0} {p e b : ℕ} (old new : B) (was now : InMemory) (r : Result A VaultFault) → StandsIfTold means old was
      → (TellsFlash means old → (table : Table) → StandsFor was (means.flash old) table → LeavesOnly means old new (HoldsTable was.blocks table))
      → OnOk r (TellsFlash means old → (table : Table) → StandsFor was (means.flash old) table → StandsFor now (means.flash new) table)
      → IsAfterRoom was now r → OnOk r (IsSound now) → Touches means journal_pages p e b old new → IfErr r (λ fault. fault ≡ Flash)
      → OnOk r ((means.counts new).flash_faults ≡ (means.counts old).flash_faults)
      → OnErr r (Rose (means.counts old).flash_faults (means.counts new).flash_faults) → Renews means old new was now r
  room_renews {A = A} old new was now r here leaves stands after sound touches fault no_fault cause =
      let directory = ap (λ (v : InMemory). v.directory) after in
      let indexes = ap (λ (v : InMemory). v.indexes) after in
      let lasts = ap (λ (v : InMemory). v.lasts) after in
      let pool = ap (λ (v : InMemory). v.pool) after in
      record {
        leaves = leaves;
        stands = stands;
        shown = always r (λ stores are.
            subst (λ (d : Kept). AreShown stores d.stores now.indexes) (sym directory)
            (subst (λ (l : List TimeIndex). AreShown stores was.directory.stores l) (sym indexes) are));
        after = record {
          others =
              after ∙ (λ i. record was {
                directory = sym directory i;
                indexes = sym indexes i;
                lasts = sym lasts i;
                pool = sym pool i;
                journal = now.journal;
                is_open = is_ok r;
              });
          directory = ap (λ (d : Kept). d.directory) directory ∙ ap (λ (d : Kept). with_stores was.directory.directory d.stores) (sym directory);
          rows = subst (λ (d : Kept). KeepRows was.directory.stores d.stores) (sym directory) (rows_same was.directory.stores);
          fresh = subst (KeepFresh was.lasts) (sym lasts) (fresh_same was.lasts);
        };
        sound = sound;
        journal =
            on_ok r (TellsFlash means old → (table : Table) → StandsFor was (means.flash old) table → StandsFor now (means.flash new) table)
            (TellsFlash means old → journals.StandsFor now.journal (means.flash new))
            (λ goes told. let (table, stood) = here told in (goes told table stood).journal) stands;
        unsent = touches.unsent;
        link = record { faults = touches.work.link_faults; sends = touches.work.sends };
        same = touches.same;
        mismatch = if_err r (λ fault. fault ≡ Flash) (DiffersUntold (TellsFlash means old)) (λ f is. subst (DiffersUntold (TellsFlash means old)) (sym is) tt) fault;
        no_fault = no_fault_of ((means.counts new).flash_faults ≡ (means.counts old).flash_faults) r fault no_fault;
        cause = cause_of (Rose (means.counts old).flash_faults (means.counts new).flash_faults) r fault cause;
      }
    where
      always : {P : Type 0} (r : Result A VaultFault) → P → OnOk r P
      always (Ok x) p = p
      always (Err e) p = tt

      no_fault_of : (P : Type 0) (r : Result A VaultFault) → IfErr r (λ fault. fault ≡ Flash) → OnOk r P → UnlessFlash r P
      no_fault_of P (Ok x) fault h = h
      no_fault_of P (Err e) fault h = subst (λ (f : VaultFault). UnlessFlash {A = A} (Err f) P) (sym fault) tt

      cause_of : (P : Type 0) (r : Result A VaultFault) → IfErr r (λ fault. fault ≡ Flash) → OnErr r P → OnFlash r P
      cause_of P (Ok x) fault h = tt
      cause_of P (Err e) fault h = subst (λ (f : VaultFault). OnFlash {A = A} (Err f) P) (sym fault) h
