use Rattle.std.proofs.Common.{◌≡◌, ◌≤◌, ℕ, true, length, refl, sym, ◌∙◌, ap, subst, arith}
use Rattle.block_pool.specs.Blocks.{blocks_of}
use Rattle.board.specs.Meaning.{TellsFlash}
use Rattle.board.proofs.Reading.{reads_most, reads_none}
use Rattle.store_load.specs.Claims.{may_share}
use Rattle.vault.specs.Memory.{IsSound, is_unlinked}
use Rattle.vault.proofs.Loads.{not_held}
use Rattle.vault.proofs.Sound.{kept_length, sound_of}
use Rattle.vault.proofs.Tables.{few_links, unkept, unshared}
use Rattle.vault.proofs.opening.open_stores.Given.{Over}
use Rattle.vault.proofs.opening.open_stores.Goals as goal

pub returns-in_default-clause-reads : goal.returns-in_default-clause-reads
returns-in_default-clause-reads g c =
    let means = g.B.Board.means in
    let old = c.args.board.now in
    reads_most means old old (reads_none means old (λ image told left. g.met.B.Board.images_now old image told left)) (omega arith)

pub returns-in_default-claimed-clause-reads : goal.returns-in_default-claimed-clause-reads
returns-in_default-claimed-clause-reads g c =
    let means = g.B.Board.means in
    let old = c.args.board.now in
    reads_most means old old (reads_none means old (λ image told left. g.met.B.Board.images_now old image told left)) (omega arith)

pub returns-in_default-claimed-clause-unlawful : goal.returns-in_default-claimed-clause-unlawful
returns-in_default-claimed-clause-unlawful g c told =
    let means = g.B.Board.means in
    let old = c.args.board.now in
    let d = c.args.opened.directory.directory in
    let many : blocks_of c.in-Ok.pool ≡ (means.device old).blocks = ap length c.in-Ok.ensures.wear ∙ c.requires.blocks in
    unshared (means.device old).blocks (means.flash old).content d
    (ap (λ n. may_share 240 n d.stores) (sym many) ∙ c.in_default-claimed.ensures.refused)

pub load_stores-requires-clause-share : goal.load_stores-requires-clause-share
load_stores-requires-clause-share g c =
    let means = g.B.Board.means in
    let many : blocks_of c.in-Ok.pool ≡ (means.device c.args.board.now).blocks = ap length c.in-Ok.ensures.wear ∙ c.requires.blocks in
    ap (λ n. may_share 240 n c.args.opened.directory.directory.stores) (sym many) ∙ c.in-Some.ensures.share

whole : (g : Over) (c : goal.In-Ok-load_stores g) → IsSound (record {
  directory = c.args.opened.directory;
  indexes = c.in-Ok-load_stores.stores.indexes.items;
  lasts = c.in-Ok-load_stores.stores.lasts.items;
  pool = c.in-Some.pool;
  journal = c.args.opened.journal;
  blocks = length c.args.wear.now;
  held = c.args.held;
  is_open = true;
})
whole g c =
    let means = g.B.Board.means in
    let old = c.args.board.now in
    let stores = c.args.opened.directory.directory.stores in
    let many : blocks_of c.in-Ok.pool ≡ length c.args.wear.now = ap length c.in-Ok.ensures.wear in
    sound_of (TellsFlash means old) (means.flash old).content _
    (subst (λ (n : ℕ). 16 ≤ n) (sym c.requires.blocks) (g.met.B.Board.enough_blocks old))
    (subst (λ (n : ℕ). n ≤ 512) (sym c.requires.blocks) (g.met.B.Board.few_blocks old))
    c.in-Ok-load_stores.ensures.kept
    c.in-Ok-load_stores.ensures.loaded
    (ap (λ n. may_share 240 n stores) (sym many) ∙ c.in-Some.ensures.share)
    (ap length c.in-Some.ensures.wear ∙ many)
    (λ block. c.in-Some.ensures.free block ∙ ap (λ n. is_unlinked n stores block) many)

pub invariant_of-result : goal.invariant_of-result
invariant_of-result g c =
    let here : length c.args.octets.items ≡ 65536 = c.requires.room in
    let long : length c.deref_mut.result.now ≡ c.args.octets.len = c.deref_mut.ensures.len in
    let same : length c.deref_mut.result.now ≡ length c.args.octets.items = ap length c.deref_mut.ensures.value in (
      kept_length c.args.octets.len c.load_stores.new.buf _ (c.load_stores.auto.buf ∙ long) ∙ sym long ∙ same ∙ here,
      λ open_now. whole g c,
    )

pub returns-in-Ok-load_stores-clause-loaded : goal.returns-in-Ok-load_stores-clause-loaded
returns-in-Ok-load_stores-clause-loaded g c = record {
  directory = refl;
  lawful = c.in-Ok-load_stores.ensures.kept;
  stores = c.in-Ok-load_stores.ensures.loaded;
  journal_is = refl;
  wear_is = c.in-Some.ensures.wear ∙ c.in-Ok.ensures.wear;
  ready_is = c.in-Some.ensures.ready ∙ c.in-Ok.ensures.ready;
  blocks_is = c.requires.blocks;
  is_open = refl;
  sound = whole g c;
}

pub returns-in-Ok-load_stores-clause-reads : goal.returns-in-Ok-load_stores-clause-reads
returns-in-Ok-load_stores-clause-reads g c =
    let few = few_links c.in-Ok.pool c.args.wear.now (g.B.Board.means.device c.args.board.now).blocks c.args.opened.directory.directory.stores
    c.in-Ok.ensures.wear c.requires.blocks c.in-Some.ensures.share in
    reads_most g.B.Board.means c.args.board.now c.load_stores.new.board c.load_stores.ensures.reads (omega (arith, few))

pub returns-in-Err-clause-reads : goal.returns-in-Err-clause-reads
returns-in-Err-clause-reads g c =
    let few = few_links c.in-Ok.pool c.args.wear.now (g.B.Board.means.device c.args.board.now).blocks c.args.opened.directory.directory.stores
    c.in-Ok.ensures.wear c.requires.blocks c.in-Some.ensures.share in
    reads_most g.B.Board.means c.args.board.now c.load_stores.new.board c.load_stores.ensures.reads (omega (arith, few))

pub returns-in-Err-clause-unlawful : goal.returns-in-Err-clause-unlawful
returns-in-Err-clause-unlawful g c =
    let means = g.B.Board.means in
    let old = c.args.board.now in
    not_held c.in-Err.fault
    (λ none told. unkept (means.device old).blocks (means.flash old).content c.args.opened.directory.directory (none told))
    c.in-Err.ensures.unlawful
