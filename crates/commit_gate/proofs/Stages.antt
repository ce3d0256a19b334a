-- The moments of a commit, call by call: payload, barrier, gate, barrier.
use Rattle.std.proofs.Common.{◌≡◌, inl, ℕ, ◌+◌, ◌*◌, ◌<◌, ◌≤◌, Bool, true, false, List, length}
use Rattle.std.proofs.Common.{refl, ◌∙◌}
use Rattle.std.proofs.Common.{ap, subst, arith}
use Rattle.std.proofs.lemmas.Bool.Decides.{nat_tests}
use Rattle.board.specs.Device.{Device}
use Rattle.board.specs.Flash.{Flash, IsClean, IsImage, blank, firm, loosened, only_page, pages_from}
use Rattle.board.specs.Flash.{written}
use Rattle.board.specs.Meaning.{BoardMeaning, TellsFlash}
use Rattle.board.specs.Moments.{LeavesInTurn, LeavesOnly}
use Rattle.board.specs.Touches.{Touches, no_page}
use Rattle.board.proofs.Pages.{image_of_written}
use Rattle.board.proofs.Stops.{goes_on, in_turn, not_yet, weaker}
use Rattle.board.proofs.Touching.{Within, touches_more, touches_most, touches_on}
use Rattle.board.proofs.Works.{tells_too}
use Rattle.commit_gate.specs.Entries.{open_page, payload_pages}
use Rattle.commit_gate.specs.Commits.{HasAllButGate, IsBefore, IsBeforeOrAfter, Stands, entry_pages}
use Rattle.commit_gate.specs.Commits.{payload_at, text_pages, with_entry, with_payload}
use Rattle.commit_gate.proofs.Images.{gate_before_or_after, payload_before}

-- What a commit has at first: an entry that fits, and clean pages for it, on a flash that is told.
pub record Ready {B : Type 0} (means : BoardMeaning B) (old : B) (base at : ℕ)
    (entry : List ℕ) : Type 0 where
  pub told : TellsFlash means old
  pub shortest : 1 ≤ length entry
  pub longest : length entry ≤ 5116
  pub room : at + 1 + payload_pages (length entry) ≤ 512
  pub fits : base + 512 ≤ 256 * (means.device old).blocks
  pub clean : (q : ℕ) → at ≤ q → q < 512 → IsClean (means.flash old) (base + q)
  pub erased_blank : (p : ℕ) → (means.flash old).erased p ≡ true
      → (means.flash old).content p ≡ blank

-- the pages of the payload, and of the gate, are pages of the entry
payload_within : (base at : ℕ) (entry : List ℕ)
    → Within (text_pages base (at + 1) entry) (entry_pages base at entry)
payload_within base at entry p out = tests (payload_pages (length entry)) out
  where
    tests : (n : ℕ) → pages_from (base + at) (1 + n) p ≡ false
        → pages_from (base + (at + 1)) n p ≡ false
    tests n out = grind (arith, nat_tests)

gate_within : (base at : ℕ) (entry : List ℕ) → Within (only_page (base + at))
    (entry_pages base at entry)
gate_within base at entry p out = tests (payload_pages (length entry)) out
  where
    tests : (n : ℕ) → pages_from (base + at) (1 + n) p ≡ false → only_page (base + at) p ≡ false
    tests n out = grind (arith, nat_tests)

-- what a commit touched, wherever it ended
module _ {B : Type 0} (means : BoardMeaning B) (base at : ℕ) (entry : List ℕ) where
  abbrev Whole : ℕ → ℕ → B → B → Type 0
  Whole programs barriers = Touches means (entry_pages base at entry) programs 0 barriers

  abbrev Allowed : B → B → Type 0
  Allowed = Whole (1 + payload_pages (length entry)) 2

  module _ {old a : B} (filling : Touches means (text_pages base (at + 1) entry)
      (payload_pages (length entry)) 0 0 old a) where
    filled_so_far : Whole (payload_pages (length entry)) 0 old a
    filled_so_far = touches_more means (entry_pages base at entry)
        (text_pages base (at + 1) entry) old a (payload_within base at entry) filling

    module _ {b : B} (barring : Touches means no_page 0 0 1 a b) where
      firm_so_far : Whole (payload_pages (length entry) + 0) 1 old b
      firm_so_far = touches_on means (entry_pages base at entry) no_page old a b
          (λ p out. refl) filled_so_far barring

      pub touched_by_barrier : Allowed old b
      touched_by_barrier = touches_most means firm_so_far (omega arith) (omega arith) (omega arith)

      module _ {d : B} (opening : Touches means (only_page (base + at)) 1 0 0 b d) where
        open_so_far : Whole (payload_pages (length entry) + 0 + 1) 1 old d
        open_so_far = touches_on means (entry_pages base at entry) (only_page (base + at)) old b d
            (gate_within base at entry) firm_so_far opening

        pub touched_by_gate : Allowed old d
        touched_by_gate = touches_most means open_so_far (omega arith) (omega arith) (omega arith)

        pub touched_by_all : {e : B} → Touches means no_page 0 0 1 d e → Allowed old e
        touched_by_all barring_too =
            touches_most means (touches_on means (entry_pages base at entry) no_page old d _
            (λ p out. refl) open_so_far barring_too)
            (omega arith) (omega arith) (omega arith)

module _ {B : Type 0} (means : BoardMeaning B) (old : B) (base at : ℕ) (entry : List ℕ)
    (start : ℕ) (entries : List (List ℕ)) where
  abbrev Before : (ℕ → List ℕ) → Type 0
  Before = IsBefore (means.device old).blocks (means.flash old) base start entries at entry

  abbrev AllButGate : (ℕ → List ℕ) → Type 0
  AllButGate = HasAllButGate (means.device old).blocks (means.flash old) base at entry

  abbrev Either : (ℕ → List ℕ) → Type 0
  Either = IsBeforeOrAfter (means.device old).blocks (means.flash old) base start entries at entry

  -- What stops leave of a commit that ended on this board.
  pub record Leaves (new : B) : Type 0 where
    pub any_moment : LeavesOnly means old new Either
    pub turns : LeavesInTurn means old new Before AllButGate

-- What a commit that ended on this board shows, where the entries stood.
abbrev pub Shows : {B : Type 0} → BoardMeaning B → B → ℕ → ℕ → List ℕ → B → Type 0
Shows means old base at entry new = Ready means old base at entry
    → (start : ℕ) (entries : List (List ℕ)) → Stands (means.flash old) base start entries at
    → Leaves means old base at entry start entries new

module _ {B : Type 0} {means : BoardMeaning B} {old : B} {base at : ℕ} {entry : List ℕ}
    (ready : Ready means old base at entry) where
  abbrev blocks : ℕ
  blocks = (means.device old).blocks

  abbrev payload : ℕ → Bool
  payload = text_pages base (at + 1) entry

  abbrev gate : ℕ → Bool
  gate = only_page (base + at)

  -- the flash at first, with the payload, with it firm, and with the gate
  abbrev was : Flash
  was = means.flash old

  abbrev filled : Flash
  filled = with_payload base at entry was

  abbrev opened : Flash
  opened = written gate (λ _. open_page) (firm filled)

  -- what a call makes of the flash
  abbrev Makes : (Flash → Flash) → B → B → Type 0
  Makes change a b = TellsFlash means a → means.flash b ≡ change (means.flash a)

  makes : (a b : B) (mid : Flash) (change : Flash → Flash) → means.device a ≡ means.device old
      → means.flash a ≡ mid
      → Makes change a b → means.flash b ≡ change mid
  makes a b mid change same is call = call (tells_too same ready.told) ∙ ap change is

  -- what a stop leaves while these pages are touched, where the flash is known
  here : (a : B) (these : ℕ → Bool) (mid : Flash) → means.device a ≡ means.device old
      → means.flash a ≡ mid
      → (image : ℕ → List ℕ) → IsImage (means.device a).blocks
      (loosened these (means.flash a)) image → IsImage blocks (loosened these mid) image
  here a these mid same is image left =
      subst (λ (f : Flash). IsImage blocks (loosened these f) image) is
      (subst (λ (d : Device). IsImage d.blocks (loosened these (means.flash a)) image) same left)

  -- the payload, and its barrier
  module _ {a : B} (filling : Touches means payload (payload_pages (length entry)) 0 0 old a) where
    module _ (fills : means.flash a ≡ filled) {b : B}
        (barring : Touches means no_page 0 0 1 a b) where
      same_b : means.device b ≡ means.device old
      same_b = barring.same ∙ filling.same

      module _ (firms : Makes firm a b) where
        is_b : means.flash b ≡ firm filled
        is_b = makes a b filled firm filling.same fills firms

        -- the gate, and its barrier
        module _ {d : B} (opening : Touches means gate 1 0 0 b d)
            (opens : Makes (written gate (λ _. open_page)) b d) where
          is_d : means.flash d ≡ opened
          is_d = makes b d (firm filled) (written gate (λ _. open_page)) same_b is_b opens

          -- the flash in the end
          pub entry_is : {e : B} → Makes firm d e → means.flash e ≡ with_entry base at entry was
          entry_is firms_too = makes d _ opened firm (opening.same ∙ same_b) is_d firms_too

    module _ {start : ℕ} {entries : List (List ℕ)} (stands : Stands was base start entries at) where
      abbrev IsLeft : B → Type 0
      IsLeft = Leaves means old base at entry start entries

      abbrev EarlyOnly : B → Type 0
      EarlyOnly b = LeavesOnly means old b (Before means old base at entry start entries)

      abbrev LateOnly : B → B → Type 0
      LateOnly b d = LeavesOnly means b d (AllButGate means old base at entry start entries)

      before : (image : ℕ → List ℕ) → IsImage blocks (loosened payload was) image
          → Before means old base at entry start entries image
      before = payload_before blocks was base at entry ready.shortest ready.longest ready.room
          ready.fits ready.clean ready.erased_blank start entries stands

      either : (image : ℕ → List ℕ) → AllButGate means old base at entry start entries image
          → Either means old base at entry start entries image
      either = gate_before_or_after blocks was base at entry ready.shortest ready.longest ready.room
          ready.fits ready.clean ready.erased_blank start entries stands

      -- the whole, where the gate was not reached, and where it was
      early : (b : B) → EarlyOnly b → IsLeft b
      early b run =
          record {
            any_moment = weaker means old b _ _ run
                (λ image is. inl is);
            turns = not_yet means old b _ _ run;
          }

      late : (b d : B) → EarlyOnly b → LateOnly b d → IsLeft d
      late b d first second = record {
        any_moment = goes_on means old b d _ _ (early b first).any_moment second either;
        turns = in_turn means old b d _ _ first second;
      }

      -- a commit that ended in its payload
      filling_leaves : EarlyOnly a
      filling_leaves = weaker means old a _ _ (filling.leaves ready.told) before

      pub ends_in_payload : IsLeft a
      ends_in_payload = early a filling_leaves

      -- in the barrier behind it
      module _ (fills : means.flash a ≡ filled) {b : B}
          (barring : Touches means no_page 0 0 1 a b) where
        barring_leaves : EarlyOnly b
        barring_leaves = goes_on means old a b _ _ filling_leaves
            (barring.leaves (tells_too filling.same ready.told))
            (λ image left. before image (image_of_written blocks payload
            (payload_at (base + (at + 1)) entry) was image
            (here a no_page filled filling.same fills image left)))

        pub ends_in_barrier : IsLeft b
        ends_in_barrier = early b barring_leaves

        -- in its gate
        module _ (firms : Makes firm a b) {d : B} (opening : Touches means gate 1 0 0 b d) where
          opening_leaves : LateOnly b d
          opening_leaves = weaker means b d _ _
              (opening.leaves (tells_too (same_b fills barring) ready.told))
              (here b gate (firm filled) (same_b fills barring) (is_b fills barring firms))

          pub ends_in_gate : IsLeft d
          ends_in_gate = late b d barring_leaves opening_leaves

          -- in the last barrier, or behind it
          module _ (opens : Makes (written gate (λ _. open_page)) b d) {e : B}
              (barring_too : Touches means no_page 0 0 1 d e) where
            same_d : means.device d ≡ means.device old
            same_d = opening.same ∙ same_b fills barring

            pub ends_in_last_barrier : IsLeft e
            ends_in_last_barrier = late b e barring_leaves
                (goes_on means b d e _ _ opening_leaves
                (barring_too.leaves (tells_too same_d ready.told))
                (λ image left. image_of_written blocks gate (λ _. open_page) (firm filled) image
                (here d no_page opened same_d (is_d fills barring firms opening opens) image left)))
