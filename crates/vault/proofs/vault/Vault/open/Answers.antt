use Rattle.std.proofs.Common.{◌≡◌, None, Some, length, sym, ◌∙◌, ap, subst, arith, rules}
use Rattle.board.specs.Device.{Device}
use Rattle.board.specs.Flash.{Flash}
use Rattle.board.specs.Meaning.{TellsFlash}
use Rattle.board.proofs.Reading.{reads_most, reads_none, reads_on}
use Rattle.board.proofs.Works.{tells_too}
use Rattle.image_table.specs.Table.{table_by, table_of}
use Rattle.journal_reader.specs.Halves.{counts_of_half}
use Rattle.meta_journal.specs.Directories.{directory_of, half_area}
use Rattle.meta_journal.specs.Halves.{half_of}
use Rattle.meta_journal.specs.Standing as journals
use Rattle.pst_model.specs.Table.{Table}
use Rattle.vault.specs.Memory.{InMemory, IsFresh}
use Rattle.vault.specs.Opening.{IsLoadedVault}
use Rattle.vault.specs.Standing.{StandsFor}
use Rattle.vault.proofs.Stands.{fresh_of, holds_table, if_ok, no_directory, no_table, none_held, stands_for, whole_taken}
use Rattle.vault.proofs.vault.Vault.open.Given.{Over}
use Rattle.vault.proofs.vault.Vault.open.Goals as goal

pub returns-in_default-clause-reads : goal.returns-in_default-clause-reads
returns-in_default-clause-reads g c =
    let means = g.B.Board.means in
    let old = c.args.board.now in
    reads_most means old old (reads_none means old (λ image told left. g.met.B.Board.images_now old image told left)) (omega arith)

-- what was loaded, of the board as it was in front of the call
loaded_here : (g : Over) (c : goal.After-drop-counts g) → TellsFlash g.B.Board.means c.args.board.now → (vault : InMemory)
    → IsLoadedVault (TellsFlash g.B.Board.means c.read_journal.new.board) (g.B.Board.means.flash c.read_journal.new.board).content
    (g.B.Board.means.device c.read_journal.new.board).blocks c.deref.result.now c.in-Ok-Some.opened.directory c.in-Ok-Some.opened.journal vault
    → IsLoadedVault (TellsFlash g.B.Board.means c.read_journal.new.board) (g.B.Board.means.flash c.args.board.now).content
    (g.B.Board.means.device c.args.board.now).blocks c.deref.result.now c.in-Ok-Some.opened.directory c.in-Ok-Some.opened.journal vault
loaded_here g c told vault loaded =
    let means = g.B.Board.means in
    let mid = c.read_journal.new.board in
    let opened = c.in-Ok-Some.opened in
    subst (λ (f : Flash). IsLoadedVault (TellsFlash means mid) f.content (means.device c.args.board.now).blocks c.deref.result.now opened.directory opened.journal vault)
    (c.read_journal.ensures.reads.stays told).flash
    (subst (λ (v : Device). IsLoadedVault (TellsFlash means mid) (means.flash mid).content v.blocks c.deref.result.now opened.directory opened.journal vault)
    c.read_journal.ensures.reads.same loaded)

-- what was read of the journal

read_here : (g : Over) (c : goal.After-drop-counts g) → TellsFlash g.B.Board.means c.args.board.now
    → directory_of (g.B.Board.means.device c.args.board.now).blocks (g.B.Board.means.flash c.args.board.now).content
    ≡ Some c.in-Ok-Some.opened.directory.directory
read_here g c told = search rules

stands_here : (g : Over) (c : goal.After-drop-counts g) → TellsFlash g.B.Board.means c.args.board.now
    → journals.StandsFor c.in-Ok-Some.opened.journal (g.B.Board.means.flash c.read_journal.new.board)
stands_here g c told = search rules

wear_here : (g : Over) (c : goal.After-drop-counts g) → TellsFlash g.B.Board.means c.args.board.now
    → counts_of_half (g.B.Board.means.device c.args.board.now).blocks
    (half_area (half_of c.in-Ok-Some.opened.journal.root) (g.B.Board.means.flash c.args.board.now).content) ≡ Some c.read_journal.new.wear
wear_here g c told = search rules

room_here : (g : Over) (c : goal.After-drop-counts g) → c.in-Ok-Some.opened.journal.room ≡ 0
room_here g c = search rules

pub returns-in-Ok-Some-clause-held : goal.returns-in-Ok-Some-clause-held
returns-in-Ok-Some-clause-held g c =
    let means = g.B.Board.means in
    let old = c.args.board.now in
    let mid = c.read_journal.new.board in
    let opened = c.in-Ok-Some.opened in
    if_ok c.open_stores.result
    (IsLoadedVault (TellsFlash means mid) (means.flash mid).content (means.device mid).blocks c.deref.result.now opened.directory opened.journal)
    (λ vault. TellsFlash means old → (table : Table) × (table_of (means.device old).blocks (means.flash old).content ≡ Some table))
    c.open_stores.ensures.loaded
    (λ vault loaded told.
    holds_table (TellsFlash means mid) (tells_too c.read_journal.ensures.reads.same told) (means.device old).blocks c.deref.result.now opened.directory
    opened.journal vault (means.flash old) (loaded_here g c told vault loaded) (read_here g c told))

pub returns-in-Ok-Some-clause-stands : goal.returns-in-Ok-Some-clause-stands
returns-in-Ok-Some-clause-stands g c =
    let means = g.B.Board.means in
    let old = c.args.board.now in
    let mid = c.read_journal.new.board in
    let new = c.open_stores.new.board in
    let opened = c.in-Ok-Some.opened in
    if_ok c.open_stores.result
    (IsLoadedVault (TellsFlash means mid) (means.flash mid).content (means.device mid).blocks c.deref.result.now opened.directory opened.journal)
    (λ vault. TellsFlash means old → journals.AllFirm (means.flash old) → (table : Table) × StandsFor vault (means.flash new) table)
    c.open_stores.ensures.loaded
    (λ vault loaded told firm.
    let told_mid = tells_too c.read_journal.ensures.reads.same told in
    let flash_mid = (c.read_journal.ensures.reads.stays told).flash in
    let flash_new : means.flash new ≡ means.flash old = (c.open_stores.ensures.reads.stays told_mid).flash ∙ flash_mid in
    subst (λ (f : Flash). (table : Table) × StandsFor vault f table) (sym flash_new)
    (stands_for (TellsFlash means mid) told_mid (means.device old).blocks c.deref.result.now opened.directory
    opened.journal vault (means.flash old) (loaded_here g c told vault loaded) (g.met.B.Board.content_pages old told) (read_here g c told)
    (subst (λ (f : Flash). journals.StandsFor opened.journal f) flash_mid (stands_here g c told)) firm))

pub returns-in-Ok-Some-clause-not_held : goal.returns-in-Ok-Some-clause-not_held
returns-in-Ok-Some-clause-not_held g c =
    let means = g.B.Board.means in
    let old = c.args.board.now in
    let mid = c.read_journal.new.board in
    let d = c.in-Ok-Some.opened.directory.directory in
    none_held c.open_stores.result
    (TellsFlash means mid → table_by (means.device mid).blocks (means.flash mid).content d ≡ None)
    (TellsFlash means old → table_of (means.device old).blocks (means.flash old).content ≡ None)
    c.open_stores.ensures.unlawful
    (λ none told.
    let same = c.read_journal.ensures.reads.same in
    let flash = (c.read_journal.ensures.reads.stays told).flash in
    no_table (means.device old).blocks (means.flash old).content d (read_here g c told)
    (sym (λ i. table_by (same i).blocks (flash i).content d) ∙ none (tells_too same told)))

pub returns-in-Ok-Some-clause-wear : goal.returns-in-Ok-Some-clause-wear
returns-in-Ok-Some-clause-wear g c =
    let means = g.B.Board.means in
    let old = c.args.board.now in
    let mid = c.read_journal.new.board in
    let opened = c.in-Ok-Some.opened in
    if_ok c.open_stores.result
    (IsLoadedVault (TellsFlash means mid) (means.flash mid).content (means.device mid).blocks c.deref.result.now opened.directory opened.journal)
    (λ vault. TellsFlash means old
    → counts_of_half (means.device old).blocks (half_area (half_of vault.journal.root) (means.flash old).content) ≡ Some vault.pool.wear)
    c.open_stores.ensures.loaded
    (λ vault loaded told.
    let many : length c.read_journal.new.wear ≡ c.in-Ok.counts.len = c.read_journal.auto.wear ∙ c.deref_mut-2.ensures.len in
    let counts : c.deref.result.now ≡ c.read_journal.new.wear =
    c.deref.ensures.value ∙ whole_taken c.in-Ok.counts.len c.read_journal.new.wear _ many in
    ap (λ (j : journals.Kept). counts_of_half (means.device old).blocks (half_area (half_of j.root) (means.flash old).content)) loaded.journal_is
    ∙ wear_here g c told ∙ ap Some (sym counts ∙ sym loaded.wear_is))

pub returns-in-Ok-Some-clause-fresh : goal.returns-in-Ok-Some-clause-fresh
returns-in-Ok-Some-clause-fresh g c =
    let means = g.B.Board.means in
    let mid = c.read_journal.new.board in
    let opened = c.in-Ok-Some.opened in
    if_ok c.open_stores.result
    (IsLoadedVault (TellsFlash means mid) (means.flash mid).content (means.device mid).blocks c.deref.result.now opened.directory opened.journal)
    IsFresh c.open_stores.ensures.loaded
    (λ vault loaded. fresh_of (TellsFlash means mid) (means.flash mid).content (means.device mid).blocks c.deref.result.now opened.directory
    opened.journal vault loaded (room_here g c))

pub returns-in-Ok-Some-clause-reads : goal.returns-in-Ok-Some-clause-reads
returns-in-Ok-Some-clause-reads g c =
    let means = g.B.Board.means in
    let old = c.args.board.now in
    let same : (means.device c.read_journal.new.board).blocks ≡ (means.device old).blocks = ap (λ (v : Device). v.blocks) c.read_journal.ensures.reads.same in
    let enough = g.met.B.Board.enough_blocks old in
    reads_most means old c.open_stores.new.board
    (reads_on means old c.read_journal.new.board c.open_stores.new.board c.read_journal.ensures.reads c.open_stores.ensures.reads)
    (omega (arith, same, enough))

pub returns-in-Ok-None-clause-not_held : goal.returns-in-Ok-None-clause-not_held
returns-in-Ok-None-clause-not_held g c told =
    let means = g.B.Board.means in
    let old = c.args.board.now in
    let none : directory_of (means.device old).blocks (means.flash old).content ≡ None = search rules in
    no_directory (means.device old).blocks (means.flash old).content none
