-- How a change of the directory becomes durable: the texts, the pages and the images.
use Rattle.std.proofs.Common.{◌≡◌, ℕ, ◌+◌, ◌-◌, ◌^◌, ◌<◌, ◌≤◌, ◌||◌, Bool, true, false, List, [], ◌∷◌, ◌++◌, All, length, take, Option, Some, Result, Ok, Err, if◌then◌else◌, refl, sym, ◌∙◌, ap, arith}
use Rattle.std.specs.Prelude.{OnOk}
use Rattle.std.proofs.lemmas.Bool.Decides.{nat_tests}
use Rattle.std.proofs.lemmas.List.{append-nil, take-append-le}
use Rattle.std.proofs.lemmas.List.Elements.{All-cons, All-nil}
use Rattle.board.specs.Flash.{Flash, IsContent}
use Rattle.board.proofs.Pages.{above_pages}
use Rattle.board.proofs.Touching.{Within}
use Rattle.commit_gate.specs.Commits.{entry_pages}
use Rattle.commit_gate.specs.Entries.{payload_pages}
use Rattle.meta_journal.proofs.Committed.{journal_holds}
use Rattle.meta_journal.proofs.FirstDirectory.{front_written}
use Rattle.meta_journal.specs.Directories.{directory_by}
use Rattle.meta_journal.specs.Halves.{half_base, half_of, half_pages}
use Rattle.meta_journal.specs.Journals.{IsJournal, next_of, repair_work, switch_pages}
use Rattle.meta_journal.specs.Standing.{repair_barriers}
use Rattle.octet_fields.specs.Fields.{Writes}
use Rattle.octet_fields.proofs.Splices.{length-Writes}
use Rattle.root_vote.specs.declared.root.Root.{Root}
use Rattle.root_vote.specs.Roots.{are_all}
use Rattle.root_vote.specs.Rooted.{is_root_block}
use Rattle.store_directory.specs.Changes.{Change, apply, apply_all}
use Rattle.store_directory.specs.Checkpoints.{Checkpoint, checkpoint_octets, read_checkpoint}
use Rattle.store_directory.specs.Directory.{Directory, IsDirectory}
use Rattle.store_directory.specs.Entries.{FitsChange, change_octets, changes_in, entry_octets}
use Rattle.store_directory.specs.Folds.{fold_entries, fold_entry}
use Rattle.store_directory.specs.Options.{◌>>=◌}
use Rattle.store_directory.proofs.KeptCheckpoints.{read_checkpoint-octets}
use Rattle.store_directory.proofs.WrittenChanges.{changes_in-octets}
use Rattle.vault.specs.Changing.{IsKept, journal_pages}

pub ok_two : {A E : Type 0} (r : Result A E) (P Q R : Type 0) → OnOk r P → OnOk r Q → (P → Q → R) → OnOk r R
ok_two (Ok x) P Q R p q f = f p q
ok_two (Err e) P Q R p q f = tt

-- what was written at the front, whatever stands behind it
pub text_written : (old new ys rest : List ℕ) (n : ℕ) → Writes old new 0 ys → n ≡ length ys → take n (new ++ rest) ≡ ys
text_written old new ys rest n written is =
    let long = length-Writes written in
    let room = written.room in
    take-append-le n new rest (omega (arith, long, room, is)) ∙ front_written old new ys n written is

-- a checkpoint spells its directory
pub checkpoint_spells : (blocks : ℕ) (d : Directory) (wear text : List ℕ) → IsDirectory d → All (λ (count : ℕ). count < 2 ^ 32) wear
    → length wear ≡ blocks → text ≡ checkpoint_octets d wear → directory_by blocks text [] ≡ Some d
checkpoint_spells blocks d wear text kept counts many is =
    let found : Checkpoint = record { directory = d; wear = wear } in
    let read : read_checkpoint blocks text ≡ Some found = (λ i. read_checkpoint (sym many i) (is i)) ∙ read_checkpoint-octets d wear kept counts in
    ap (λ (o : Option Checkpoint). o >>= λ (checkpoint : Checkpoint). fold_entries checkpoint.directory []) read

-- an entry of one change folds to what the change makes
pub change_folds : (d next : Directory) (change : Change) (text : List ℕ) → FitsChange change → text ≡ change_octets change
    → apply d change ≡ Some next → fold_entry d text ≡ Some next
unfolding fold_entry
change_folds d next change text fits is applied =
    let whole : entry_octets (change ∷ []) ≡ change_octets change = append-nil (change_octets change) in
    let spelled : changes_in text ≡ Some (change ∷ []) =
    ap changes_in (is ∙ sym whole) ∙ changes_in-octets (change ∷ []) (All-cons FitsChange change [] fits (All-nil FitsChange)) in
    ap (λ (o : Option (List Change)). o >>= apply_all d) spelled
    ∙ ap (λ (o : Option Directory). o >>= λ (d : Directory). apply_all d []) applied

low : (p : ℕ) → journal_pages p ≡ false → 1792 ≤ p
low p out = grind (arith, nat_tests)

-- the pages of a switch, and those of an entry, are the journal's

pub switch_within : (root : Root) → Within (switch_pages root) journal_pages
switch_within root p out =
    let from = low p out in
    let base = half_base (half_of (next_of root)) in
    both (is_root_block p) (half_pages base p) (above_pages 0 768 p (omega (arith, from))) (above_pages base 512 p (omega (arith, from)))
  where
    both : (a b : Bool) → a ≡ false → b ≡ false → (a || b) ≡ false
    both true b h k = h
    both false b h k = k

pub entry_within : (root : Root) (room : ℕ) (entry : List ℕ) → 21 ≤ room → length entry ≤ 5116
    → Within (entry_pages (half_base (half_of root)) (512 - room) entry) journal_pages
entry_within root room entry least longest p out =
    let from = low p out in
    above_pages (half_base (half_of root) + (512 - room)) (1 + payload_pages (length entry)) p (omega (arith, from, least, longest))

-- the work of a switch

pub most_pages : (n : ℕ) → n ≤ 20476 → payload_pages n ≤ 80
most_pages n le = omega (arith, le)

pub most_repairs : (votes : List (Option Root)) (root : Root) → repair_work votes root ≤ 2
most_repairs votes root = pick (are_all votes root)
  where
    pick : (b : Bool) → (if b then 0 else 2) ≤ 2
    pick true = omega arith
    pick false = omega arith

pub most_barriers : (votes : List (Option Root)) (root : Root) → repair_barriers votes root ≤ 5
most_barriers votes root = pick (are_all votes root)
  where
    pick : (b : Bool) → (if b then 0 else 5) ≤ 5
    pick true = omega arith
    pick false = omega arith

-- a flash that keeps a journal keeps its directory
pub journal_kept : (blocks : ℕ) (flash : Flash) (root : Root) (d : Directory) (at : ℕ) → 16 ≤ blocks → at ≤ 512 → IsContent blocks flash.content
    → IsJournal blocks root d at flash → IsKept blocks d flash
journal_kept blocks flash root d at enough within pages journal = record {
  holds =
      journal_holds blocks flash root d at enough within journal flash.content
      (record { pages = pages; firm_pages = λ p inside still. refl });
  is_firm = journal.is_firm;
}
