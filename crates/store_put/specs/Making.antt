-- Changes of a store that are made in memory, and written into the text of an entry.
use Rattle.std.specs.Prelude.{◌≡◌, ℕ, true, if◌then◌else◌, List, [], ◌∷◌, ◌++◌, Some}
use Rattle.store_directory.specs.Changes.{Change, Put, apply_all}
use Rattle.store_directory.specs.Directory.{Directory, Listed}
use Rattle.store_directory.specs.Entries.{entry_octets}
use Rattle.store_directory.specs.declared.row.Row.{Row}
use Rattle.store_load.specs.Claims.{may_share}
use Rattle.put_laws.specs.Puts.{told_row}

-- Some device may be shared by stores.
abbrev pub AreShared : List Listed → Type 0
AreShared stores = (blocks : ℕ) × (may_share 240 blocks stores ≡ true)

-- Changes were made, and written behind those of a text.
pub record Makes (changes : List Change) (old new : Directory) (old_text new_text : List ℕ)
    : Type 0 where
  pub made : apply_all old changes ≡ Some new
  pub text : new_text ≡ old_text ++ entry_octets changes

-- the changes of a store that refuses a packet: it tells the first refusal
abbrev pub changes_of_refusal : Row → List Change
changes_of_refusal row = if row.told then [] else Put (told_row row) ∷ []
