-- A store that stays as it is.
use Rattle.std.proofs.Common.{◌≡◌, ℕ, true, false, List, Some, refl, sym, ◌∙◌, ap}
use Rattle.std.proofs.lemmas.Bool.{cond-false, cond-true}
use Rattle.std.proofs.lemmas.List.Elements.{All-nil}
use Rattle.pst_model.specs.Arrivals.{is_offered, offered}
use Rattle.pst_model.specs.Rules.{Refused, Taken, behind_put, free_of, is_refused, put, to_drop, with_last}
use Rattle.pst_model.specs.Table.{Store, Stored, Table, drop_front}
use Rattle.store_directory.specs.Changes.{Change}
use Rattle.store_directory.specs.Directory.{Directory, Listed}
use Rattle.store_directory.specs.Entries.{FitsChange}
use Rattle.put_laws.specs.Puts.{Refuses, Stays, need_of}
use Rattle.put_laws.specs.Walks.{HasGoneOn, HasOffered, IsTurn}
use Rattle.put_laws.proofs.Spots.{set_same}
use Rattle.put_laws.proofs.Turns.{Turn, kept_is, same_next, turn_of, walked}

-- what an offer makes of a store

pub not_offered : (stored : Stored) (store : Store) → is_offered stored.octets store ≡ false → offered stored store ≡ store
not_offered stored store is = cond-false (is_offered stored.octets store) (behind_put store (put store stored)) store is

pub refusal : (stored : Stored) (store : Store) → Refuses store stored → offered stored store ≡ record store { told = true }
refusal stored store refuses =
    cond-true (is_offered stored.octets store) (behind_put store (put store stored)) store refuses.offered
    ∙ ap (behind_put store)
    (cond-true (is_refused store (need_of stored)) (Refused (need_of stored) (free_of store))
    (Taken (with_last (drop_front store (to_drop store (need_of stored))) stored)) refuses.refused)

pub told_before : (store : Store) → store.told ≡ true → record store { told = true } ≡ store
told_before store is = λ i. record store { told = sym is i }

module _ (blocks : ℕ) (image : ℕ → List ℕ) (d : Directory) (table : Table) (stored : Stored) (at : ℕ) (changes : List Change) (before : Directory) (s : Listed) (store : Store)
    (walk : HasOffered blocks image d table stored at changes before) (turn : IsTurn d table at s store) where
  abbrev here : Turn blocks image before table stored at s store
  here = turn_of blocks image d table stored at changes before s store walk turn

  stays : offered stored store ≡ store → HasGoneOn blocks image d table stored at changes before s Stays
  stays same =
      walked blocks image d table stored at changes before s Stays walk
      (record {
        next = before;
        applied = refl;
        written = All-nil FitsChange;
        directory = walk.directory;
        loads = walk.loads ∙ ap Some (same_next blocks image before table stored at s store here same);
        left = refl;
        stores = sym (set_same before.stores at s here.listed);
        unnamed = λ block new other. new;
      })

  pub passed_by : is_offered stored.octets store ≡ false → HasGoneOn blocks image d table stored at changes before s Stays
  passed_by is = stays (not_offered stored store is)

  pub told_already : Refuses store stored → s.told ≡ true → HasGoneOn blocks image d table stored at changes before s Stays
  told_already refuses told =
      let (records, kept, whole) = kept_is blocks image before table stored at s store here in
      stays (refusal stored store refuses ∙ told_before store (ap (λ (x : Store). x.told) (sym whole) ∙ told))
