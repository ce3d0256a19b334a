use Rattle.std.proofs.Common.{◌≡◌, ◌+◌, ℕ, length, refl, ◌∙◌, ap, subst, arith}
use Rattle.board.specs.Counts.{Rose}
use Rattle.store_put.specs.Recording.{stored_by}
use Rattle.vault.proofs.OfferedSoFar.{on_err, put_closed, put_many, put_within, quiet_more}
use Rattle.vault.specs.Memory.{InMemory}
use Rattle.vault.specs.Storing.{HasPut, OffersQuietly}
use Rattle.vault.proofs.vault.Vault.offer_to_all.Goals as goal

pub loop-at-init : goal.loop-at-init
loop-at-init g c = record { goes = λ start first has. has; within = omega arith; blocks = refl; held = refl; no_fault = refl }

pub offer_to-requires-clause-within : goal.offer_to-requires-clause-within
offer_to-requires-clause-within g c =
    let means = g.B.Board.means in
    let (start, first, has) = c.requires.putting in
    let stored = stored_by c.args.arrival.now in
    let many = ap (λ (v : InMemory). length v.directory.stores) c.self.view_is in
    let were = put_many means start c.args.board.now first c.args.self.now stored c.args.text.now has in
    let len = c.len-at-end.ensures.len in
    put_within means start c.loop-at.board first c.loop-at.self stored c.loop-at.at c.loop-at.text (c.loop-at.invariant.goes start first has)
    (omega (arith, many, were, len, c.loop-at-test.true))

pub offer_to-requires-clause-putting : goal.offer_to-requires-clause-putting
offer_to-requires-clause-putting g c =
    let (start, first, has) = c.requires.putting in
    (start, first, c.loop-at.invariant.goes start first has)

pub returns-in_err-offer_to-clause-fails : goal.returns-in_err-offer_to-clause-fails
returns-in_err-offer_to-clause-fails g c =
    let means = g.B.Board.means in
    let stored = stored_by c.args.arrival.now in
    let many = ap (λ (v : InMemory). length v.directory.stores) c.self.view_is in
    let len = c.len-at-end.ensures.len in
    on_err c.from_residual.result
    ((start : g.row.B.Denot) (first : InMemory) → HasPut means start c.args.board.now first c.args.self.now stored 0 c.args.text.now
    → OffersQuietly means start c.offer_to.new.board first stored.octets (length first.directory.stores))
    (λ start first has.
    let were = put_many means start c.args.board.now first c.args.self.now stored c.args.text.now has in
    quiet_more means start c.offer_to.new.board first stored.octets (c.loop-at.at + 1) (length first.directory.stores)
    (omega (arith, many, were, len, c.loop-at-test.true))
    (c.in_err-offer_to.ensures.fails start first (c.loop-at.invariant.goes start first has)))

pub returns-in_err-offer_to-clause-blocks : goal.returns-in_err-offer_to-clause-blocks
returns-in_err-offer_to-clause-blocks g c = c.offer_to.ensures.blocks ∙ c.loop-at.invariant.blocks

pub returns-in_err-offer_to-clause-held : goal.returns-in_err-offer_to-clause-held
returns-in_err-offer_to-clause-held g c = c.offer_to.ensures.held ∙ c.loop-at.invariant.held

pub returns-in_err-offer_to-clause-cause : goal.returns-in_err-offer_to-clause-cause
returns-in_err-offer_to-clause-cause g c =
    let counts = g.B.Board.means.counts in
    let new = (counts c.offer_to.new.board).flash_faults in
    on_err c.from_residual.result (Rose (counts c.args.board.now).flash_faults new)
    (subst (λ (n : ℕ). Rose n new) c.loop-at.invariant.no_fault c.in_err-offer_to.ensures.cause)

pub loop-at-preserved : goal.loop-at-preserved
loop-at-preserved g c =
    let so_far = c.loop-at.invariant in
    let many = ap (λ (v : InMemory). length v.directory.stores) c.self.view_is in
    let len = c.len-at-end.ensures.len in
    record {
      goes = λ start first has. c.in_ok-offer_to.ensures.goes start first (so_far.goes start first has);
      within = omega (arith, many, len, c.loop-at-test.true);
      blocks = c.offer_to.ensures.blocks ∙ so_far.blocks;
      held = c.offer_to.ensures.held ∙ so_far.held;
      no_fault = c.in_ok-offer_to.ensures.no_fault ∙ so_far.no_fault;
    }

pub returns-clause-goes : goal.returns-clause-goes
returns-clause-goes g c start first has =
    let means = g.B.Board.means in
    let stored = stored_by c.args.arrival.now in
    let many = ap (λ (v : InMemory). length v.directory.stores) c.self.view_is in
    let were = put_many means start c.args.board.now first c.args.self.now stored c.args.text.now has in
    let len = c.len-at-end.ensures.len in
    let end : c.loop-at.at ≡ length first.directory.stores = omega (arith, many, were, len, c.loop-at-test.false, c.loop-at.invariant.within) in
    subst (λ (n : ℕ). HasPut means start c.loop-at.board first c.loop-at.self stored n c.loop-at.text) end (c.loop-at.invariant.goes start first has)

pub returns-clause-closed : goal.returns-clause-closed
returns-clause-closed g c =
    let (start, first, has) = c.requires.putting in
    put_closed g.B.Board.means start c.loop-at.board first c.loop-at.self (stored_by c.args.arrival.now) c.loop-at.at c.loop-at.text
    (c.loop-at.invariant.goes start first has)

pub returns-clause-blocks : goal.returns-clause-blocks
returns-clause-blocks g c = c.loop-at.invariant.blocks

pub returns-clause-held : goal.returns-clause-held
returns-clause-held g c = c.loop-at.invariant.held

pub returns-clause-no_fault : goal.returns-clause-no_fault
returns-clause-no_fault g c = c.loop-at.invariant.no_fault
