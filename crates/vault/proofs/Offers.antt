-- An arriving packet was offered to a store that stays as it is or refuses it.
use Rattle.std.proofs.Common.{◌≡◌, ℕ, ◌+◌, Bool, true, false, List, [], ◌∷◌, ◌++◌, refl}
use Rattle.std.specs.Prelude.{if◌then◌else◌}
use Rattle.board.specs.Flash.{Flash}
use Rattle.board.specs.Meaning.{BoardMeaning}
use Rattle.pst_model.specs.Arrivals.{is_offered}
use Rattle.pst_model.specs.Table.{Store, Stored}
use Rattle.put_laws.specs.Puts.{Refuses, Stays, Tells, changes_of_put, told_row}
use Rattle.store_directory.specs.Changes.{Put}
use Rattle.store_directory.specs.Directory.{Listed}
use Rattle.store_policy.specs.Shown.{IsShown}
use Rattle.store_put.specs.Making.{Makes, changes_of_refusal}
use Rattle.vault.proofs.OfferFlash.{flash_passes, flash_tells, flash_told}
use Rattle.vault.proofs.OfferMemory.{HasTurn, memory_stays, memory_tells}
use Rattle.vault.proofs.OfferNeeds.{shown_store}
use Rattle.vault.proofs.OfferQuiet.{not_offered, quiet_stays, refuses_not}
use Rattle.vault.specs.Memory.{InMemory}
use Rattle.vault.specs.Storing.{HasPut}

module _ {B : Type 0} (means : BoardMeaning B) (start board : B) (old now : InMemory) (stored : Stored) (at : ℕ) (text : List ℕ)
    (put : HasPut means start board old now stored at text) (turn : HasTurn old now stored at) where
  abbrev s : Listed
  s = turn.s

  abbrev flash : Flash
  flash = means.flash board

  -- the store stays as it is, or refuses the packet

  module _ (next : InMemory) (new_text : List ℕ) (others : next ≡ record now { directory = next.directory }) where
    pub offer_passes : ((store : Store) → IsShown store s.row turn.index → store.patterns ≡ s.patterns → is_offered stored.octets store ≡ false)
        → Makes [] now.directory.directory next.directory.directory text new_text → HasPut means start board old next stored (at + 1) new_text
    offer_passes plan makes = record {
      changes = put.changes ++ changes_of_put s.row Stays;
      memory =
          memory_stays old now next stored at put.changes text new_text put.memory s turn.index turn.last turn.here turn.was
          (λ store shown. not_offered stored store (plan store shown.shown shown.patterns)) others makes;
      quiet = quiet_stays means start board board old stored at put.quiet s turn.index turn.last turn.was;
      device = put.device;
      stood = put.stood;
      flash = λ told table stands.
          let one = shown_store old now stored at turn (means.flash start) table stands in
          flash_passes flash old now next table stored at put.changes (put.flash told table stands) s turn.index turn.last turn.here turn.was one.store one.there
          others (plan one.store one.shown one.patterns) makes.made;
    }

    module _ (plan : (store : Store) → IsShown store s.row turn.index → store.patterns ≡ s.patterns → Refuses store stored) where
      offer_told : s.row.told ≡ true → Makes [] now.directory.directory next.directory.directory text new_text
          → HasPut means start board old next stored (at + 1) new_text
      offer_told told_it makes = record {
        changes = put.changes ++ changes_of_put s.row Stays;
        memory =
            memory_stays old now next stored at put.changes text new_text put.memory s turn.index turn.last turn.here turn.was
            (λ store shown. refuses_not stored store (plan store shown.shown shown.patterns)) others makes;
        quiet = quiet_stays means start board board old stored at put.quiet s turn.index turn.last turn.was;
        device = put.device;
        stood = put.stood;
        flash = λ told table stands.
            let one = shown_store old now stored at turn (means.flash start) table stands in
            flash_told flash old now next table stored at put.changes (put.flash told table stands) s turn.index turn.last turn.here turn.was one.store one.there
            others (plan one.store one.shown one.patterns) told_it makes.made;
      }

      offer_tells : Makes (Put (told_row s.row) ∷ []) now.directory.directory next.directory.directory text new_text
          → HasPut means start board old next stored (at + 1) new_text
      offer_tells makes = record {
        changes = put.changes ++ changes_of_put s.row Tells;
        memory =
            memory_tells old now next stored at put.changes text new_text put.memory s turn.index turn.last turn.here turn.was
            (λ store shown. refuses_not stored store (plan store shown.shown shown.patterns)) others makes;
        quiet = quiet_stays means start board board old stored at put.quiet s turn.index turn.last turn.was;
        device = put.device;
        stood = put.stood;
        flash = λ told table stands.
            let one = shown_store old now stored at turn (means.flash start) table stands in
            flash_tells flash old now next table stored at put.changes (put.flash told table stands) s turn.index turn.last turn.here turn.was one.store one.there
            others (plan one.store one.shown one.patterns) makes.made;
      }

      pub offer_refuses : Makes (changes_of_refusal s.row) now.directory.directory next.directory.directory text new_text
          → HasPut means start board old next stored (at + 1) new_text
      offer_refuses = pick s.row.told refl
        where
          pick : (b : Bool) → s.row.told ≡ b
              → Makes (if b then [] else Put (told_row s.row) ∷ []) now.directory.directory next.directory.directory text new_text
              → HasPut means start board old next stored (at + 1) new_text
          pick true is makes = offer_told is makes
          pick false is makes = offer_tells makes
