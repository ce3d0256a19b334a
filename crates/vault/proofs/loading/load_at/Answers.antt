use Rattle.std.proofs.Common.{◌≡◌, ◌*◌, ℕ, sym, subst, All, List}
use Rattle.std.specs.Prelude.{slice_get}
use Rattle.board.specs.Meaning.{TellsFlash}
use Rattle.board.specs.Reads.{ReadsOnly}
use Rattle.record_view.specs.declared.link.Link.{Link}
use Rattle.store_directory.specs.Directory.{IsListed, Listed}
use Rattle.store_load.specs.Keeping.{IsInDevice}
use Rattle.vault.specs.Loading.{IsLoadedStore}
use Rattle.vault.specs.Memory.{has_link}
use Rattle.vault.proofs.Loads.{all_at, links_here, loaded_store, own_at}
use Rattle.vault.proofs.Places.{if_some, of_some, some_at}
use Rattle.vault.proofs.loading.load_at.Goals as goal

pub load_store-requires-clause-blocks : goal.load_store-requires-clause-blocks
load_store-requires-clause-blocks g c =
    let blocks = (g.B.Board.means.device c.args.board.now).blocks in
    let stores = c.args.directory.now.directory.stores in
    let (s, is) = some_at stores c.args.at c.requires.within in
    let same : c.links-links.result.now ≡ s.links =
    of_some (λ (s : Listed). c.links-links.result.now ≡ s.links) (slice_get stores c.args.at) s c.links-links.ensures is in
    subst (λ (l : List Link). All (IsInDevice blocks) l) (sym same) (own_at blocks stores c.args.at s c.requires.share is)

pub returns-in-Ok-clause-loaded : goal.returns-in-Ok-clause-loaded
returns-in-Ok-clause-loaded g c =
    let means = g.B.Board.means in
    let old = c.args.board.now in
    let blocks = (means.device old).blocks in
    let d = c.args.directory.now.directory in
    let at = c.args.at in
    let loaded = c.in-Ok.loaded in
    if_some (slice_get d.stores at)
    (λ s. IsLoadedStore (TellsFlash means old) (means.flash old).content d.now s loaded.index (record { used = loaded.used; stale = has_link s.links }))
    (λ s is. loaded_store blocks d.now c.now.result (TellsFlash means old) (means.flash old).content s c.row-row.result.now c.links-links.result.now
    loaded.index loaded.used c.now.ensures.now
    (of_some (λ (s : Listed). c.row-row.result.now ≡ s.row) (slice_get d.stores at) s c.row-row.ensures is)
    (of_some (λ (s : Listed). c.links-links.result.now ≡ s.links) (slice_get d.stores at) s c.links-links.ensures is)
    (all_at IsListed d.stores at s c.requires.kept.stores.each is)
    (own_at blocks d.stores at s c.requires.share is)
    c.in-Ok.ensures.index c.in-Ok.ensures.used c.in-Ok.ensures.held)

pub returns-in-Ok-clause-reads : goal.returns-in-Ok-clause-reads
returns-in-Ok-clause-reads g c =
    let stores = c.args.directory.now.directory.stores in
    subst (λ (n : ℕ). ReadsOnly g.B.Board.means (256 * n) c.args.board.now c.load_store.new.board)
    (links_here stores c.args.at c.links-links.result.now c.requires.within c.links-links.ensures) c.load_store.ensures.reads

pub returns-in-Err-clause-reads : goal.returns-in-Err-clause-reads
returns-in-Err-clause-reads g c =
    let stores = c.args.directory.now.directory.stores in
    subst (λ (n : ℕ). ReadsOnly g.B.Board.means (256 * n) c.args.board.now c.load_store.new.board)
    (links_here stores c.args.at c.links-links.result.now c.requires.within c.links-links.ensures) c.load_store.ensures.reads
