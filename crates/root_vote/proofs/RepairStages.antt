-- The moments of a repair, page by page.
use Rattle.std.proofs.Common.{◌≡◌, ℕ, zero, suc, ◌+◌, ◌*◌, ◌^◌, ◌<◌, ◌≤◌, Bool, true, false, ◌&&◌, List, ◌∷◌, [], Option, Some, None, get_or, refl, sym, ◌∙◌, ap, subst, arith}
use Rattle.std.specs.Prelude.{if◌then◌else◌}
use Rattle.board.specs.Flash.{Flash, IsImage, loosened, only_page, pages_of_block}
use Rattle.board.specs.Meaning.{BoardMeaning, TellsFlash}
use Rattle.board.specs.Moments.{LeavesOnly}
use Rattle.board.proofs.Pages.{inside, is_only}
use Rattle.board.proofs.Stops.{weaker}
use Rattle.board.proofs.Works.{tells_too}
use Rattle.root_vote.specs.declared.root.Root.{Root}
use Rattle.root_vote.specs.Roots.{AreVotes, LeadsTo, are_all, choice_by, choice_of, choice_of_votes, is_vote, root_in, root_page}
use Rattle.root_vote.specs.Rooted.{FirmRoots, IsRepairOf, IsRepaired, Rooted, is_root_block, settled, settled_by, settled_pages, settled_work, with_repairs}
use Rattle.board.specs.Touches.{Touches}
use Rattle.root_vote.proofs.Choices.{first, second}
use Rattle.root_vote.proofs.PageRead.{page_read}
use Rattle.root_vote.proofs.Repairs.{repair_first, repair_last, repair_middle, repair_work, vote_for}
use Rattle.root_vote.proofs.Rewriting.{leaves_on, rewritten_others}
use Rattle.root_vote.proofs.RootStages.{page_left, root_block}
use Rattle.board.proofs.Touching as touching
use Rattle.board.proofs.Touching.{Within, image_since}

-- what settling a page leaves as it was
settled_other : (b : Bool) (block : ℕ) (page : List ℕ) (flash : Flash) (p : ℕ) → pages_of_block block p ≡ false → (settled_by b block page flash).content p ≡ flash.content p
settled_other true block page flash p out = refl
settled_other false block page flash p out = rewritten_others block page flash p out

settled_stays : (b : Bool) (block : ℕ) (page : List ℕ) (flash : Flash) (p : ℕ) → flash.loose p ≡ false → (settled_by b block page flash).loose p ≡ false
settled_stays true block page flash p was = was
settled_stays false block page flash p was = refl

-- and what it spells
settled_here : (b : Bool) (block : ℕ) (vote : Option Root) (to : Root) (flash : Flash) → root_in (root_page to) ≡ Some to → (b ≡ true → vote ≡ Some to) → root_in (flash.content (256 * block)) ≡ vote
    → root_in ((settled_by b block (root_page to) flash).content (256 * block)) ≡ Some to
settled_here true block vote to flash spelled is here = here ∙ is refl
settled_here false block vote to flash spelled is here = ap root_in (inside (only_page (256 * block) (256 * block)) (root_page to) _ (is_only (256 * block))) ∙ spelled

-- the pages that settling touches are the block's, and none where the vote is for the root
settled_out : (b : Bool) (block p : ℕ) → pages_of_block block p ≡ false → (if b then false else pages_of_block block p) ≡ false
settled_out true block p out = refl
settled_out false block p out = out

settled_none : (vote : Option Root) (to : Root) (block p : ℕ) → is_vote vote to ≡ true → settled_pages block vote to p ≡ false
settled_none vote to block p is = ap (λ (b : Bool). if b then false else pages_of_block block p) is

pub choice_at : (image : ℕ → List ℕ) (x y z : Option Root) → root_in (image 0) ≡ x → root_in (image 256) ≡ y → root_in (image 512) ≡ z → choice_of image ≡ choice_by x y z
unfolding choice_of
choice_at image x y z e f h = λ i. choice_by (e i) (f i) (h i)

module _ (blocks : ℕ) (flash : Flash) (u v w : Option Root) (to : Root) (enough : 3 ≤ blocks) (spelled : root_in (root_page to) ≡ Some to)
    (vote_is : (x : Option Root) → is_vote x to ≡ true → x ≡ Some to)
    (leads : LeadsTo to (choice_by u v w))
    (is_u : root_in (flash.content 0) ≡ u) (is_v : root_in (flash.content 256) ≡ v) (is_w : root_in (flash.content 512) ≡ w) (firm_roots : FirmRoots flash) where
  abbrev one : Flash
  one = settled 0 u to flash

  abbrev two : Flash
  two = settled 1 v to one

  abbrev Repaired : (ℕ → List ℕ) → Type 0
  Repaired = IsRepaired blocks flash (choice_by u v w)

  one_other : (p : ℕ) → pages_of_block 0 p ≡ false → one.content p ≡ flash.content p
  one_other p out = settled_other (is_vote u to) 0 (root_page to) flash p out

  two_other : (p : ℕ) → pages_of_block 1 p ≡ false → two.content p ≡ one.content p
  two_other p out = settled_other (is_vote v to) 1 (root_page to) one p out

  one_firm : (p : ℕ) → flash.loose p ≡ false → one.loose p ≡ false
  one_firm p was = settled_stays (is_vote u to) 0 (root_page to) flash p was

  two_firm : (p : ℕ) → flash.loose p ≡ false → two.loose p ≡ false
  two_firm p was = settled_stays (is_vote v to) 1 (root_page to) one p (one_firm p was)

  pub one_spells : root_in (one.content 0) ≡ Some to
  one_spells = settled_here (is_vote u to) 0 u to flash spelled (vote_is u) is_u

  pub two_spells : root_in (two.content 256) ≡ Some to
  two_spells = settled_here (is_vote v to) 1 v to one spelled (vote_is v) (ap root_in (one_other 256 refl) ∙ is_v)

  two_front : root_in (two.content 0) ≡ Some to
  two_front = ap root_in (two_other 0 refl) ∙ one_spells

  two_last : root_in (two.content 512) ≡ w
  two_last = ap root_in (two_other 512 refl ∙ one_other 512 refl) ∙ is_w

  around : (block : ℕ) (vote : Option Root) (mid : Flash) (image : ℕ → List ℕ) → block < 3 → ((p : ℕ) → is_root_block p ≡ false → flash.loose p ≡ false → mid.loose p ≡ false) → ((p : ℕ) → is_root_block p ≡ false → mid.content p ≡ flash.content p)
      → IsImage blocks (loosened (settled_pages block vote to) mid) image → IsImage blocks (loosened is_root_block flash) image
  around block vote mid image lt stays same is = image_since blocks is_root_block (settled_pages block vote to) flash mid image
      (λ p out. settled_out (is_vote vote to) block p (root_block block lt p out)) same stays is

  -- a page of a mid flash
  left : (block : ℕ) (vote : Option Root) (mid : Flash) (image : ℕ → List ℕ) (p : ℕ) → p < 768 → pages_of_block block p ≡ false → mid.loose p ≡ false
      → IsImage blocks (loosened (settled_pages block vote to) mid) image → root_in (image p) ≡ root_in (mid.content p)
  left block vote mid image p within out firm is = ap root_in (page_left blocks (settled_pages block vote to) mid image p (omega arith) (settled_out (is_vote vote to) block p out) firm is)

  -- the page itself, where its vote is for the root
  same : (block : ℕ) (vote : Option Root) (mid : Flash) (image : ℕ → List ℕ) (p : ℕ) → p < 768 → mid.loose p ≡ false → root_in (mid.content p) ≡ vote
      → IsImage blocks (loosened (settled_pages block vote to) mid) image → is_vote vote to ≡ true → root_in (image p) ≡ vote
  same block vote mid image p within firm here is h = ap root_in (page_left blocks (settled_pages block vote to) mid image p (omega arith) (settled_none vote to block p h) firm is) ∙ here

  pub repaired_first : (image : ℕ → List ℕ) → IsImage blocks (loosened (settled_pages 0 u to) flash) image → Repaired image
  repaired_first image is = record {
    choice = subst (IsRepairOf (choice_by u v w)) (sym (choice_at image (root_in (image 0)) v w refl
        (left 0 u flash image 256 (omega arith) refl (firm_roots 1 (omega arith)) is ∙ is_v) (left 0 u flash image 512 (omega arith) refl (firm_roots 2 (omega arith)) is ∙ is_w)))
        (repair_first u v w (root_in (image 0)) to leads (same 0 u flash image 0 (omega arith) (firm_roots 0 (omega arith)) is_u is));
    elsewhere = around 0 u flash image (omega arith) (λ p out was. was) (λ p out. refl) is;
  }

  pub repaired_second : (image : ℕ → List ℕ) → IsImage blocks (loosened (settled_pages 1 v to) one) image → Repaired image
  repaired_second image is = record {
    choice = subst (IsRepairOf (choice_by u v w)) (sym (choice_at image (Some to) (root_in (image 256)) w
        (left 1 v one image 0 (omega arith) refl (one_firm 0 (firm_roots 0 (omega arith))) is ∙ one_spells) refl
        (left 1 v one image 512 (omega arith) refl (one_firm 512 (firm_roots 2 (omega arith))) is ∙ ap root_in (one_other 512 refl) ∙ is_w)))
        (repair_middle u v w (root_in (image 256)) to leads (same 1 v one image 256 (omega arith) (one_firm 256 (firm_roots 1 (omega arith))) (ap root_in (one_other 256 refl) ∙ is_v) is));
    elsewhere = around 1 v one image (omega arith) (λ p out was. one_firm p was) (λ p out. one_other p (root_block 0 (omega arith) p out)) is;
  }

  pub repaired_third : (image : ℕ → List ℕ) → IsImage blocks (loosened (settled_pages 2 w to) two) image → Repaired image
  repaired_third image is = record {
    choice = subst (IsRepairOf (choice_by u v w)) (sym (choice_at image (Some to) (Some to) (root_in (image 512))
        (left 2 w two image 0 (omega arith) refl (two_firm 0 (firm_roots 0 (omega arith))) is ∙ two_front)
        (left 2 w two image 256 (omega arith) refl (two_firm 256 (firm_roots 1 (omega arith))) is ∙ two_spells) refl))
        (repair_last u v w (root_in (image 512)) to leads);
    elsewhere = around 2 w two image (omega arith) (λ p out was. two_firm p was) (λ p out. two_other p (root_block 1 (omega arith) p out) ∙ one_other p (root_block 0 (omega arith) p out)) is;
  }

  -- in the end
  pub repaired_roots : Rooted to (settled 2 w to two)
  repaired_roots = record { spelled = spells; firm_roots = λ k lt. settled_stays (is_vote w to) 2 (root_page to) two (256 * k) (two_firm (256 * k) (firm_roots k lt)) }
    where
      spells : (k : ℕ) → k < 3 → root_in ((settled 2 w to two).content (256 * k)) ≡ Some to
      spells zero lt = ap root_in (settled_other (is_vote w to) 2 (root_page to) two 0 refl) ∙ two_front
      spells (suc zero) lt = ap root_in (settled_other (is_vote w to) 2 (root_page to) two 256 refl) ∙ two_spells
      spells (suc (suc zero)) lt = settled_here (is_vote w to) 2 w to two spelled (vote_is w) two_last
      spells (suc (suc (suc k))) lt = absurd (omega arith)

-- a vote of a list
pub votes_at : (votes : List (Option Root)) (a b c : Option Root) → votes ≡ a ∷ b ∷ c ∷ [] → (a ≡ get_or votes 0 None) × (b ≡ get_or votes 1 None) × (c ≡ get_or votes 2 None)
votes_at votes a b c is = (
  ap (λ (l : List (Option Root)). get_or l 0 None) (sym is),
  ap (λ (l : List (Option Root)). get_or l 1 None) (sym is),
  ap (λ (l : List (Option Root)). get_or l 2 None) (sym is),
)

-- a repair leaves firm what was firm
pub repairs_firm : (votes : List (Option Root)) (to : Root) (flash : Flash) (p : ℕ) → flash.loose p ≡ false → (with_repairs votes to flash).loose p ≡ false
repairs_firm votes to flash p was =
    settled_stays (is_vote (get_or votes 2 None) to) 2 (root_page to) (settled 1 (get_or votes 1 None) to (settled 0 (get_or votes 0 None) to flash)) p
    (settled_stays (is_vote (get_or votes 1 None) to) 1 (root_page to) (settled 0 (get_or votes 0 None) to flash) p
    (settled_stays (is_vote (get_or votes 0 None) to) 0 (root_page to) flash p was))

-- where all three votes are for a root, the pages spell it
pub all_spell : (votes : List (Option Root)) (to : Root) (content : ℕ → List ℕ) → are_all votes to ≡ true → AreVotes votes content → (k : ℕ) → k < 3 → root_in (content (256 * k)) ≡ Some to
all_spell votes to content all are =
    let at = votes_at votes (root_in (content 0)) (root_in (content 256)) (root_in (content 512)) are in
    let u = is_vote (get_or votes 0 None) to in
    let v = is_vote (get_or votes 1 None) to in
    let w = is_vote (get_or votes 2 None) to in
    let front : (u && v) ≡ true = first (u && v) w all in
    spells (at.0 ∙ vote_for (get_or votes 0 None) to (first u v front)) (at.1 ∙ vote_for (get_or votes 1 None) to (second u v front)) (at.2 ∙ vote_for (get_or votes 2 None) to (second (u && v) w all))
  where
    spells : root_in (content 0) ≡ Some to → root_in (content 256) ≡ Some to → root_in (content 512) ≡ Some to → (k : ℕ) → k < 3 → root_in (content (256 * k)) ≡ Some to
    spells e f h zero lt = e
    spells e f h (suc zero) lt = f
    spells e f h (suc (suc zero)) lt = h
    spells e f h (suc (suc (suc k))) lt = absurd (omega arith)

-- what a stop leaves while each page is settled
module _ {B : Type 0} (means : BoardMeaning B)
    (old : B) (told : TellsFlash means old) (votes : List (Option Root)) (to : Root) (generation : to.generation < 256 ^ 8) (blocks : to.blocks < 256 ^ 4)
    (enough : 3 ≤ (means.device old).blocks) (leads : LeadsTo to (choice_of_votes votes))
    (are : AreVotes votes (means.flash old).content) (firm_roots : FirmRoots (means.flash old)) where
  abbrev u : Option Root
  u = get_or votes 0 None

  abbrev v : Option Root
  v = get_or votes 1 None

  abbrev w : Option Root
  w = get_or votes 2 None

  abbrev Now : (ℕ → List ℕ) → Type 0
  Now = IsRepaired (means.device old).blocks (means.flash old) (choice_of_votes votes)

  abbrev Settles : ℕ → Option Root → B → B → Type 0
  Settles block vote a b = Touches means (settled_pages block vote to) (settled_work vote to) (settled_work vote to) (2 * settled_work vote to) a b

  at : (root_in ((means.flash old).content 0) ≡ u) × (root_in ((means.flash old).content 256) ≡ v) × (root_in ((means.flash old).content 512) ≡ w)
  at = votes_at votes (root_in ((means.flash old).content 0)) (root_in ((means.flash old).content 256)) (root_in ((means.flash old).content 512)) are

  vote_is : (x : Option Root) → is_vote x to ≡ true → x ≡ Some to
  vote_is x h = vote_for x to h

  -- the root is read back from its page
  spelled : root_in (root_page to) ≡ Some to
  spelled = page_read to generation blocks

  abbrev IsSettled : ℕ → Option Root → B → B → Type 0
  IsSettled block vote a b = TellsFlash means a → means.flash b ≡ settled block vote to (means.flash a)

  second_flash : (a b : B) → Settles 0 u old a → IsSettled 0 u old a → IsSettled 1 v a b → means.flash b ≡ settled 1 v to (settled 0 u to (means.flash old))
  second_flash a b run ok_a ok_b = ok_b (tells_too run.same told) ∙ ap (settled 1 v to) (ok_a told)

  pub first_leaves : (a : B) → Settles 0 u old a → LeavesOnly means old a Now
  first_leaves a run = weaker means old a Now (IsImage (means.device old).blocks (loosened (settled_pages 0 u to) (means.flash old))) (run.leaves told)
      (repaired_first (means.device old).blocks (means.flash old) u v w to enough spelled vote_is leads at.0 at.1 at.2 firm_roots)

  pub second_leaves : (a b : B) → Settles 0 u old a → IsSettled 0 u old a → Settles 1 v a b → LeavesOnly means old b Now
  second_leaves a b run_a ok_a run_b = leaves_on means old a b Now (settled_pages 1 v to) (settled 0 u to (means.flash old))
      (first_leaves a run_a) run_a.same (ok_a told) (run_b.leaves (tells_too run_a.same told))
      (repaired_second (means.device old).blocks (means.flash old) u v w to enough spelled vote_is leads at.0 at.1 at.2 firm_roots)

  pub third_leaves : (a b d : B) → Settles 0 u old a → IsSettled 0 u old a → Settles 1 v a b → IsSettled 1 v a b → Settles 2 w b d → LeavesOnly means old d Now
  third_leaves a b d run_a ok_a run_b ok_b run_d = leaves_on means old b d Now (settled_pages 2 w to) (settled 1 v to (settled 0 u to (means.flash old)))
      (second_leaves a b run_a ok_a run_b) (run_b.same ∙ run_a.same) (second_flash a b run_a ok_a ok_b)
      (run_d.leaves (tells_too (run_b.same ∙ run_a.same) told))
      (repaired_third (means.device old).blocks (means.flash old) u v w to enough spelled vote_is leads at.0 at.1 at.2 firm_roots)

  -- and what the pages spell in the end
  pub roots_repaired : (a b d : B) → Settles 0 u old a → IsSettled 0 u old a → Settles 1 v a b → IsSettled 1 v a b → IsSettled 2 w b d → Rooted to (means.flash d)
  roots_repaired a b d run_a ok_a run_b ok_b ok_d =
      subst (Rooted to) (sym (ok_d (tells_too (run_b.same ∙ run_a.same) told) ∙ ap (settled 2 w to) (second_flash a b run_a ok_a ok_b)))
      (repaired_roots (means.device old).blocks (means.flash old) u v w to enough spelled vote_is leads at.0 at.1 at.2 firm_roots)

-- the pages and the work of a repair
module _ {B : Type 0} (means : BoardMeaning B)
    (old : B) (votes : List (Option Root)) (to : Root) (leads : LeadsTo to (choice_of_votes votes)) where
  abbrev Settling : ℕ → Option Root → B → B → Type 0
  Settling block vote a b = Touches means (settled_pages block vote to) (settled_work vote to) (settled_work vote to) (2 * settled_work vote to) a b

  among : (block : ℕ) (vote : Option Root) → block < 3 → Within (settled_pages block vote to) is_root_block
  among block vote lt p out = settled_out (is_vote vote to) block p (root_block block lt p out)

  one_touches : (a : B) → Settling 0 (get_or votes 0 None) old a
      → Touches means is_root_block (settled_work (get_or votes 0 None) to) (settled_work (get_or votes 0 None) to) (2 * settled_work (get_or votes 0 None) to) old a
  one_touches a first = touching.touches_more means is_root_block (settled_pages 0 (get_or votes 0 None) to) old a (among 0 (get_or votes 0 None) (omega arith)) first

  two_touches : (a b : B) → Settling 0 (get_or votes 0 None) old a → Settling 1 (get_or votes 1 None) a b
      → Touches means is_root_block (settled_work (get_or votes 0 None) to + settled_work (get_or votes 1 None) to) (settled_work (get_or votes 0 None) to + settled_work (get_or votes 1 None) to)
      (2 * settled_work (get_or votes 0 None) to + 2 * settled_work (get_or votes 1 None) to) old b
  two_touches a b first second = touching.touches_on means is_root_block (settled_pages 1 (get_or votes 1 None) to) old a b
      (among 1 (get_or votes 1 None) (omega arith)) (one_touches a first) second

  pub second_touches : (a b : B) → Settling 0 (get_or votes 0 None) old a → Settling 1 (get_or votes 1 None) a b
      → Touches means is_root_block 2 2 4 old b
  second_touches a b first second =
      let most = repair_work (get_or votes 0 None) (get_or votes 1 None) (get_or votes 2 None) to leads in
      touching.touches_most means (two_touches a b first second) (omega arith) (omega arith) (omega arith)

  pub third_touches : (a b d : B) → Settling 0 (get_or votes 0 None) old a → Settling 1 (get_or votes 1 None) a b
      → Settling 2 (get_or votes 2 None) b d → Touches means is_root_block 2 2 4 old d
  third_touches a b d first second third =
      let most = repair_work (get_or votes 0 None) (get_or votes 1 None) (get_or votes 2 None) to leads in
      touching.touches_most means
      (touching.touches_on means is_root_block (settled_pages 2 (get_or votes 2 None) to) old b d (among 2 (get_or votes 2 None) (omega arith)) (two_touches a b first second) third)
      (omega arith) (omega arith) (omega arith)
