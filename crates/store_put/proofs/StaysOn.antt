-- A walk stands on the image with a record that is programmed.
use Rattle.std.proofs.Common.{◌≡◌, ℕ, ◌+◌, ◌*◌, ◌≤◌, Bool, true, false, List, ◌∷◌, Some, refl, sym, ◌∙◌}
use Rattle.std.specs.Prelude.{slice_get}
use Rattle.std.proofs.lemmas.Bool.{false≢true}
use Rattle.board.specs.Flash.{Flash, IsContent, pages_from, pages_of_block}
use Rattle.board.specs.Touches.{KeptElsewhere}
use Rattle.image_table.specs.Table.{in_records}
use Rattle.pst_model.specs.Table.{Stored, Table}
use Rattle.record_view.specs.declared.link.Link.{Link}
use Rattle.store_directory.specs.Changes.{Change}
use Rattle.store_directory.specs.Directory.{Directory, Listed}
use Rattle.store_load.specs.Extents.{last_of}
use Rattle.store_load.specs.Moving.{used_by}
use Rattle.put_laws.specs.Puts.{is_unnamed}
use Rattle.put_laws.specs.Walks.{HasOffered, table_at}
use Rattle.put_laws.proofs.Ending.{beside}
use Rattle.put_laws.proofs.LastBlocks.{places_beside, used_beside}
use Rattle.put_laws.proofs.NewPages.{off_behind, off_unnamed}
use Rattle.store_put.specs.Staying.{StaysOn}

decide : (b : Bool) → (b ≡ true → ⊥) → b ≡ false
decide true h = absurd (h refl)
decide false h = refl

module _ (blocks : ℕ) (old new : Flash) (d : Directory) (table : Table) (stored : Stored) (at : ℕ) (changes : List Change) (next : Directory)
    (walk : HasOffered blocks old.content d table stored at changes next) (pages : IsContent blocks new.content) where
  stays : (these : ℕ → Bool) → KeptElsewhere these old new → ((p : ℕ) → in_records old.content p next ≡ true → these p ≡ false)
      → StaysOn blocks old.content new.content d table stored at changes next
  stays these kept off =
      let same : (p : ℕ) → in_records old.content p next ≡ true → new.content p ≡ old.content p = λ p there. kept.content p (off p there) in
      record {
        walk = beside blocks old.content d table stored at changes next walk new.content pages same;
        places = λ place s index listed is. places_beside blocks old.content d table stored at place changes next s walk listed new.content pages same index is;
        used = λ place s listed. used_beside blocks old.content d table stored at place changes next s walk listed new.content pages same;
      }

  -- in a block that no store names
  pub stays_unnamed : (block : ℕ) → is_unnamed block next ≡ true → KeptElsewhere (pages_of_block block) old new
      → StaysOn blocks old.content new.content d table stored at changes next
  stays_unnamed block unnamed kept =
      stays (pages_of_block block) kept
      (λ p there. decide (pages_of_block block p)
      (λ inside. false≢true
      (sym (off_unnamed blocks old.content next (table_at stored at table) block p walk.pages walk.loads unnamed inside) ∙ there)))

  -- in a last block, behind its last record
  pub stays_behind : (place : ℕ) (s : Listed) (link : Link) (links : List Link) (count : ℕ) → slice_get next.stores place ≡ Some s
      → s.links ≡ link ∷ links → used_by old.content s.row link links + count ≤ 256
      → KeptElsewhere (pages_from (256 * (last_of link links).block + used_by old.content s.row link links) count) old new
      → StaysOn blocks old.content new.content d table stored at changes next
  stays_behind place s link links count listed some few kept =
      stays (pages_from (256 * (last_of link links).block + used_by old.content s.row link links) count) kept
      (λ p there. decide (pages_from (256 * (last_of link links).block + used_by old.content s.row link links) count p)
      (λ inside. false≢true
      (sym (off_behind blocks old.content next (table_at stored at table) place s link links count p walk.pages walk.loads listed some few inside) ∙ there)))
