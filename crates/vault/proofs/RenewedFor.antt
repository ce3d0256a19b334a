-- Stores that are renewed one after another for a packet that they take.
use Rattle.std.proofs.Common.{◌≡◌, inl, inr, ◌<◌, ◌==◌, ◌+◌, ℕ, Bool, true, false, List, length, Ok, refl, sym, ◌∙◌, ap, subst, arith, eqb-true}
use Rattle.std.specs.Prelude.{⊤, slice_get}
use Rattle.std.proofs.lemmas.Bool.{cases_lt, eq-eqb, false≢true}
use Rattle.std.proofs.lemmas.Option.{slice_get_within}
use Rattle.board.specs.Flash.{IsImage}
use Rattle.board.specs.Meaning.{BoardMeaning, TellsFlash}
use Rattle.put_laws.proofs.Spots.{get_other}
use Rattle.store_directory.specs.Directory.{Listed}
use Rattle.time_index.specs.TimeIndex.{TimeIndex}
use Rattle.vault.proofs.Needing.{needs_not_fresh}
use Rattle.vault.proofs.Places.{some_at}
use Rattle.vault.proofs.RenewRuns.{StandsIfTold, renews_none, renews_on}
use Rattle.vault.proofs.ReplacedStores.{each_by_places, each_here, got_new}
use Rattle.vault.specs.Memory.{InMemory, IsSound, IsSoundStore}
use Rattle.vault.specs.Renewing.{AtPlace, NeedsRenewal, Renews, RenewsAt}
use Rattle.vault.specs.Storing.{AreFreshFor, IsFreshFor}
use Rattle.vault.specs.declared.last_block.LastBlock.{LastBlock}

-- Each store before a place was looked at. `old` was the vault when the board was `start`.
pub record HasRenewed {B : Type 0} (means : BoardMeaning B) (start board : B) (old now : InMemory) (packet : List ℕ) (at : ℕ) : Type 0 where
  pub renews : Renews {A = ⊤} means start board old now (Ok tt)
  pub fresh : (place : ℕ) → place < at → AtPlace now place (IsFreshFor packet)
  pub nothing : AreFreshFor packet old → (board ≡ start) × (now ≡ old)

below : (a b : ℕ) → a < b + 1 → (a == b) ≡ false → a < b
below a b lt other = elim (cases_lt a b) [
  | inl less ↦ less
  | inr more ↦ absurd (false≢true (sym other ∙ eq-eqb a b (omega (arith, lt, more))))
]

-- a store that needs it is not fresh
pub not_fresh : (vault : InMemory) (packet : List ℕ) (at : ℕ) → at < length vault.directory.stores → AtPlace vault at (NeedsRenewal packet)
    → AreFreshFor packet vault → ⊥
not_fresh vault packet at within needs fresh =
    let (s, there) = some_at vault.directory.stores at within in
    let here = each_here (IsFreshFor packet) vault.directory.stores vault.indexes vault.lasts at s fresh there in
    needs_not_fresh packet s here.index here.last (needs s here.index here.last there here.indexed here.lasting) here.is

module _ {B : Type 0} (means : BoardMeaning B) (packet : List ℕ) where
  pub none_yet : (board : B) (vault : InMemory) → vault.blocks ≡ (means.device board).blocks → vault.is_open ≡ true → IsSound vault
      → StandsIfTold means board vault
      → ((image : ℕ → List ℕ) → TellsFlash means board → means.images board (means.moment board) image
      → IsImage (means.device board).blocks (means.flash board) image)
      → HasRenewed means board board vault vault packet 0
  none_yet board vault by is_open sound stands images = record {
    renews = renews_none means board vault by is_open sound stands images;
    fresh = λ place low. absurd (omega (arith, low));
    nothing = λ fresh. (refl, refl);
  }

  module _ (start board : B) (old now : InMemory) (at : ℕ) (so_far : HasRenewed means start board old now packet at) where
    -- the next one is fresh
    pub spared_next : AtPlace now at (IsFreshFor packet) → HasRenewed means start board old now packet (at + 1)
    spared_next here = record {
      renews = so_far.renews;
      fresh = λ place low. pick place low (place == at) refl;
      nothing = so_far.nothing;
    }
      where
        pick : (place : ℕ) → place < at + 1 → (b : Bool) → (place == at) ≡ b → AtPlace now place (IsFreshFor packet)
        pick place low true is = subst (λ (n : ℕ). AtPlace now n (IsFreshFor packet)) (sym (eqb-true place at is)) here
        pick place low false is = so_far.fresh place (below place at low is)

    -- the next one is renewed
    module _ (needs : AtPlace now at (NeedsRenewal packet)) (within : at < length now.directory.stores) where
      pub needs_some : AreFreshFor packet old → ⊥
      needs_some fresh =
          not_fresh now packet at within needs (subst (AreFreshFor packet) (sym (so_far.nothing fresh).1) fresh)

      pub renewed_next : (new : B) (then : InMemory) → Renews {A = ⊤} means board new now then (Ok tt) → RenewsAt now then at
          → HasRenewed means start new old then packet (at + 1)
      renewed_next new then renews place = record {
        renews = renews_on means start board new old now then so_far.renews (Ok tt) renews;
        fresh = λ p low. pick p low (p == at) refl;
        nothing = λ fresh. absurd (needs_some fresh);
      }
        where
          pick : (p : ℕ) → p < at + 1 → (b : Bool) → (p == at) ≡ b → AtPlace then p (IsFreshFor packet)
          pick p low true is = λ s index last there indexed lasting store gone shown patterns accepts.
              let at_p = eqb-true p at is in
              let same : last ≡ place.last =
              got_new now.lasts at place.last last
              (ap (λ (l : List LastBlock). slice_get l at) (sym place.lasts) ∙ ap (slice_get then.lasts) (sym at_p) ∙ lasting) in
              inr (ap (λ (l : LastBlock). l.stale) same ∙ place.fresh)
          pick p low false is = λ s index last there indexed lasting.
              so_far.fresh p (below p at low is) s index last
              (sym (get_other now.directory.stores at p place.s is) ∙ ap (λ (l : List Listed). slice_get l p) (sym place.stores) ∙ there)
              (sym (get_other now.indexes at p place.index is) ∙ ap (λ (l : List TimeIndex). slice_get l p) (sym place.indexes) ∙ indexed)
              (sym (get_other now.lasts at p place.last is) ∙ ap (λ (l : List LastBlock). slice_get l p) (sym place.lasts) ∙ lasting)

  -- each one was looked at
  pub all_fresh : (start board : B) (old now : InMemory) → HasRenewed means start board old now packet (length now.directory.stores)
      → AreFreshFor packet now
  all_fresh start board old now so_far =
      each_by_places (IsSoundStore now.directory.now) (IsFreshFor packet) now.directory.stores now.indexes now.lasts so_far.renews.sound.stores
      (λ at s index last there indexed lasting.
      so_far.fresh at (slice_get_within now.directory.stores at s there) s index last there indexed lasting)
