-- A journal that stands for its flash, and the same with an entry more.
use Rattle.std.proofs.Common.{◌≡◌, ℕ, ◌+◌, ◌*◌, ◌<◌, ◌≤◌, true, false, List, [], ◌∷◌, ◌++◌, Some, length, refl, sym, ◌∙◌, subst, arith}
use Rattle.std.proofs.lemmas.Bool.Decides.{nat_tests}
use Rattle.board.specs.Flash.{Flash, blank, firm, only_page, pages_from}
use Rattle.board.specs.Meaning.{BoardMeaning}
use Rattle.board.specs.Moments.{LeavesInTurn}
use Rattle.board.proofs.Pages.{below_pages, elsewhere}
use Rattle.commit_gate.specs.Commits.{HasAllButGate, IsCleanFrom, Stands, entry_pages, payload_at, text_pages, with_entry}
use Rattle.commit_gate.specs.Entries.{Entry, area_of, payload_pages, text_at}
use Rattle.commit_gate.proofs.AreaEntries.{at_le}
use Rattle.commit_gate.proofs.AreaPages.{area_same}
use Rattle.commit_gate.proofs.EntriesRead.{entries_read}
use Rattle.commit_gate.proofs.Images.{entry_stands}
use Rattle.root_vote.specs.declared.votes.Choice.TheVariants.{Agreed}
use Rattle.root_vote.specs.Roots.{root_in}
use Rattle.root_vote.specs.Rooted.{SpellRoot}
use Rattle.root_vote.proofs.Choices.{choice_last}
use Rattle.root_vote.proofs.RepairStages.{all_spell}
use Rattle.store_directory.specs.Directory.{Directory}
use Rattle.store_directory.specs.Folds.{fold_entry}
use Rattle.meta_journal.specs.Directories.{half_area}
use Rattle.meta_journal.specs.Halves.{half_base, half_of}
use Rattle.meta_journal.specs.Journals.{FirmJournal, Holds, IsJournal}
use Rattle.meta_journal.specs.Standing.{EndsAt, IsWritten, Kept, StandsFor, room_from, with_less_room}
use Rattle.meta_journal.proofs.Chosen.{ChoiceHolds}
use Rattle.meta_journal.proofs.Committed.{journal_more, text_kept}
use Rattle.meta_journal.proofs.Filled.{half_reads}
use Rattle.meta_journal.proofs.Holding.{halves_of, holds_image}

-- a run in turn, where what it leaves gives more
pub turns_weaker : {B : Type 0} (means : BoardMeaning B) (old new : B) (P Q R S : (ℕ → List ℕ) → Type 0) → LeavesInTurn means old new P Q
    → ((image : ℕ → List ℕ) → P image → R image) → ((image : ℕ → List ℕ) → Q image → S image) → LeavesInTurn means old new R S
turns_weaker means old new P Q R S run first second = record {
  turn = run.turn;
  from = run.from;
  to = run.to;
  until = λ t image from to left. first image (run.until t image from to left);
  since = λ t image from to left. second image (run.since t image from to left);
}

-- pages outside of an entry are neither its gate nor its payload
not_gate : (base at n p : ℕ) → pages_from (base + at) (1 + n) p ≡ false → only_page (base + at) p ≡ false
not_gate base at n p out = grind (arith, nat_tests)

not_payload : (base at n p : ℕ) → pages_from (base + at) (1 + n) p ≡ false → pages_from (base + (at + 1)) n p ≡ false
not_payload base at n p out = grind (arith, nat_tests)

-- behind the payload's barrier each other page is as it was written
pub gate_written : (blocks : ℕ) (flash : Flash) (base at : ℕ) (entry : List ℕ) (image : ℕ → List ℕ) → HasAllButGate blocks flash base at entry image
    → IsWritten blocks (entry_pages base at entry) flash image
gate_written blocks flash base at entry image is = record {
  pages = is.pages;
  elsewhere = λ p within out.
      is.firm_pages p within (elsewhere (only_page (base + at) p) true false (not_gate base at (payload_pages (length entry)) p out))
      ∙ elsewhere (text_pages base (at + 1) entry p) (payload_at (base + (at + 1)) entry p) (flash.content p) (not_payload base at (payload_pages (length entry)) p out);
}

-- what is kept is so of the flash with nothing loose
abbrev firm_stands : (j : Kept) (flash : Flash) → StandsFor j flash → StandsFor j (firm flash)
firm_stands j flash stands = record {
  votes = stands.votes;
  agree = stands.agree;
  ends = stands.ends;
  clean = λ q from to. ((stands.clean q from to).0, refl);
}

-- where there is room
module _ (j : Kept) (flash : Flash) (some : 1 ≤ j.room) (stands : StandsFor j flash) where
  abbrev base : ℕ
  base = half_base (half_of j.root)

  abbrev pub spelled : SpellRoot j.root flash.content
  spelled = all_spell j.votes j.root flash.content (stands.agree some) stands.votes

  -- the journal is that of the directory that the flash holds
  abbrev pub journal_of : (blocks : ℕ) → FirmJournal flash → (d : Directory) → Holds blocks d flash.content → IsJournal blocks j.root d (room_from j) flash
  journal_of blocks still d held =
      let e = stands.ends some in
      let choice : ChoiceHolds blocks d (Agreed j.root) (halves_of blocks flash.content) =
      subst (λ c. ChoiceHolds blocks d c (halves_of blocks flash.content))
      (choice_last flash.content j.root (spelled 0 (omega arith)) (spelled 1 (omega arith))) (holds_image blocks d flash.content held) in
      record {
        own = choice.0;
        rooted = record { spelled = spelled; firm_roots = λ k lt. still (256 * k) (omega arith) };
        text = e.text;
        start = e.start;
        checkpoint = e.checkpoint;
        entries = e.entries;
        stands = record { has = e.has; firm_pages = λ q from to lt. still (base + q) (omega arith) };
        holds =
            sym (half_reads blocks (half_area (half_of j.root) flash.content) e.text e.start e.entries e.checkpoint
            (entries_read (half_area (half_of j.root) flash.content) e.start e.entries (room_from j) e.has)) ∙ choice.1;
        clean = stands.clean;
        is_firm = still;
      }

-- an entry more
module _ (j : Kept) (flash : Flash) (blocks : ℕ) (room : 21 ≤ j.room) (most : j.room ≤ 512) (stands : StandsFor j flash) (enough : 16 ≤ blocks)
    (erased_blank : (p : ℕ) → flash.erased p ≡ true → flash.content p ≡ blank)
    (entry : List ℕ) (shortest : 1 ≤ length entry) (longest : length entry ≤ 5116)
    (new : Flash) (is : new ≡ with_entry (half_base (half_of j.root)) (room_from j) entry flash)
    (same : (p : ℕ) → entry_pages (half_base (half_of j.root)) (room_from j) entry p ≡ false → new.content p ≡ flash.content p)
    (clean : IsCleanFrom new (half_base (half_of j.root)) (room_from j + 1 + payload_pages (length entry))) where
  abbrev here : ℕ
  here = half_base (half_of j.root)

  abbrev at : ℕ
  at = room_from j

  abbrev next : ℕ
  next = at + 1 + payload_pages (length entry)

  abbrev has : EndsAt (half_area (half_of j.root) flash.content) at
  has = stands.ends (omega arith)

  entries_stand : Stands new here has.start (has.entries ++ entry ∷ []) next
  entries_stand = subst (λ (f : Flash). Stands f here has.start (has.entries ++ entry ∷ []) next) (sym is)
      (entry_stands blocks (firm flash) here at entry shortest longest (omega arith) (omega arith) (firm_stands j flash stands).clean erased_blank
      has.start has.entries (record { has = has.has; firm_pages = λ q from to lt. refl }))

  root_same : (k : ℕ) → k < 3 → new.content (256 * k) ≡ flash.content (256 * k)
  root_same k lt = same (256 * k) (below_pages (here + at) (1 + payload_pages (length entry)) (256 * k) (omega arith))

  text_same : text_at 20476 (half_area (half_of j.root) new.content) 0 ≡ Entry has.text has.start
  text_same =
      let le = at_le (area_of here flash.content) has.start has.entries at has.has in
      text_kept 20476 (area_of here flash.content) (area_of here new.content) 0 has.text has.start has.checkpoint
      (λ q from to. area_same here flash.content new.content q (λ lt. same (here + q) (below_pages (here + at) (1 + payload_pages (length entry)) (here + q) (omega arith))))

  room_is : room_from (with_less_room (length entry) j) ≡ next
  room_is = omega arith

  pub commit_stands : StandsFor (with_less_room (length entry) j) new
  commit_stands = record {
    votes =
        let first = sym (root_same 0 (omega arith)) in
        let middle = sym (root_same 1 (omega arith)) in
        let last = sym (root_same 2 (omega arith)) in
        stands.votes ∙ (λ i. root_in (first i) ∷ root_in (middle i) ∷ root_in (last i) ∷ []);
    agree = λ some. stands.agree (omega arith);
    ends = λ some. subst (EndsAt (half_area (half_of j.root) new.content)) (sym room_is) (record {
      text = has.text;
      start = has.start;
      checkpoint = text_same;
      entries = has.entries ++ entry ∷ [];
      has = entries_stand.has;
    });
    clean = subst (IsCleanFrom new here) (sym room_is) clean;
  }

  -- and the journal is that of the directory with the entry
  pub commit_journal : (before after : Directory) → Holds blocks before flash.content → fold_entry before entry ≡ Some after → IsJournal blocks j.root after next new
  commit_journal before after held more =
      journal_more blocks (firm flash) j.root before at enough (omega arith) (journal_of j (firm flash) (omega arith) (firm_stands j flash stands) blocks (λ p lt. refl) before held)
      entry after more new is same entries_stand clean
