use Rattle.std.proofs.Common.{◌≡◌, ℕ, ◌+◌, ◌*◌, ◌≤◌, false, Result, Ok, Err, subst, arith}
use Rattle.std.specs.Prelude.{IfOk, OnOk}
use Rattle.std.proofs.lemmas.Bool.Decides.{nat_tests}
use Rattle.board.specs.Flash.{pages_from, pages_of_block}
use Rattle.board.specs.Meaning.{TellsFlash}
use Rattle.board.specs.Touches.{Touches}
use Rattle.board.proofs.Touching as touching
use Rattle.board.proofs.Works.{tells_too}
use Rattle.chain_log.specs.Pages.{IsCleanFrom}
use Rattle.chain_log.specs.Tails.{Filling}
use Rattle.time_index.specs.declared.entry.Entry.{Entry}
use Rattle.put_laws.specs.Indexes.{entry_of}
use Rattle.put_laws.specs.Puts.{SpellsAt, need_of}
use Rattle.store_load.specs.Extents.{end_of}
use Rattle.store_put.specs.Pools.{wear_begun}
use Rattle.store_put.specs.Recording.{stored_by}
use Rattle.store_put.proofs.recording.begin_record.Goals as goal

ok_gives : {A E : Type 0} (r : Result A E) (P Q : Type 0) → OnOk r P → (P → Q) → OnOk r Q
ok_gives (Ok x) P Q p f = f p
ok_gives (Err e) P Q p f = tt

any_ok : {A E : Type 0} (r : Result A E) (P : Type 0) → P → OnOk r P
any_ok (Ok x) P p = p
any_ok (Err e) P p = tt

inside : (f n p : ℕ) → n ≤ 256 → pages_from f 256 p ≡ false → pages_from (f + 0) n p ≡ false
inside f n p few out = grind (arith, nat_tests)

pub returns-clause-begins : goal.returns-clause-begins
returns-clause-begins g c =
    let means = g.B.Board.means in
    let old = c.args.board.now in
    let mid = c.begin_block.new.board in
    let new = c.append_to.new.board in
    let stored = stored_by c.args.arrival.now in
    let number = end_of c.args.row.now in
    let begun = c.in_ok-tail.ensures.begins in
    let block = begun.block in
    let is = begun.tail in
    let same = begun.touches.same in
    let few : need_of stored ≤ 256 = let long = c.args.arrival.now.packet.whole.at_most in omega (arith, long) in
    record {
      block = block;
      taken = begun.taken;
      many = begun.many;
      wear = any_ok c.append_to.result (c.begin_block.new.pool.wear ≡ wear_begun c.args.pool.now block) begun.wear;
      entry = subst (λ (t : Filling). IfOk c.append_to.result (λ (e : Entry). e ≡ entry_of stored t.block t.used)) is c.append_to.ensures.entry;
      spelled =
          ok_gives c.append_to.result (TellsFlash means mid → SpellsAt (means.flash new).content c.in_ok-tail.tail.block c.in_ok-tail.tail.used number stored)
          (TellsFlash means old → SpellsAt (means.flash new).content block 0 number stored) c.append_to.ensures.spelled
          (λ spelled told. subst (λ (t : Filling). SpellsAt (means.flash new).content t.block t.used number stored) is (spelled (tells_too same told)));
      clean =
          ok_gives c.append_to.result (TellsFlash means mid → IsCleanFrom (means.flash new) c.in_ok-tail.tail.block (c.in_ok-tail.tail.used + need_of stored))
          (TellsFlash means old → IsCleanFrom (means.flash new) block (need_of stored)) c.append_to.ensures.clean
          (λ clean told. none_before block (subst (λ (t : Filling). IsCleanFrom (means.flash new) t.block (t.used + need_of stored)) is (clean (tells_too same told))));
      seen =
          ok_gives c.append_to.result (TellsFlash means mid → means.images new (means.moment new) (means.flash new).content)
          (TellsFlash means old → means.images new (means.moment new) (means.flash new).content) c.append_to.ensures.seen
          (λ seen told. seen (tells_too same told));
      touches =
          touching.touches_most means
          (touching.touches_on means (pages_of_block block) (pages_from (256 * block + 0) (need_of stored)) old mid new
          (λ p out. inside (256 * block) (need_of stored) p few out) begun.touches
          (subst (λ (t : Filling). Touches means (pages_from (256 * t.block + t.used) (need_of stored)) (need_of stored) 0 0 mid new) is c.append_to.ensures.touches))
          (omega arith) (omega arith) (omega arith);
    }
  where
    none_before : (block : ℕ) → IsCleanFrom (g.B.Board.means.flash c.append_to.new.board) block (0 + need_of (stored_by c.args.arrival.now))
        → IsCleanFrom (g.B.Board.means.flash c.append_to.new.board) block (need_of (stored_by c.args.arrival.now))
    none_before block clean = λ q low high. clean q (omega (arith, low)) high
