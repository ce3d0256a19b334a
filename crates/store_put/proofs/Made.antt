-- The changes of one store fit, and take no memory.
use Rattle.std.proofs.Common.{◌≡◌, ℕ, zero, suc, ◌+◌, ◌-◌, ◌<◌, ◌≤◌, List, [], ◌∷◌, drop, length, length-drop, Option, Some, None, Result, Ok, Err, refl, ap, subst, arith}
use Rattle.std.specs.Prelude.{⊤, OnOk, IfSome, IsSome, slice_get}
use Rattle.std.proofs.lemmas.Bool.{false≢true}
use Rattle.std.proofs.lemmas.Option.{none-some, same_Some}
use Rattle.store_directory.specs.Changes.{Change, Put, apply, apply_all}
use Rattle.store_directory.specs.Directory.{Directory, IsDirectory, Listed}
use Rattle.store_directory.specs.Slots.{AreWithin, largest_in, size_of}
use Rattle.store_directory.specs.Options.{◌>>=◌}
use Rattle.store_directory.specs.declared.fault.ApplyFault.{ApplyFault}
use Rattle.store_directory.specs.declared.fault.ApplyFault.TheVariants as faults
use Rattle.store_directory.specs.declared.row.Row.{Row}
use Rattle.store_policy.specs.Shown.{AreTogether}
use Rattle.time_index.specs.TimeIndex.{TimeIndex, pages_of}
use Rattle.put_laws.specs.Puts.{row_behind_put, told_row}
use Rattle.put_laws.proofs.Applies.{found, put_fits_in}
use Rattle.put_laws.proofs.Replaced.{listed_in}
use Rattle.put_laws.proofs.Rows.{put_fits, put_lawful, told_fits}
use Rattle.put_laws.proofs.Spots.{spot}
use Rattle.store_put.proofs.Laid.{pages_least}
use Rattle.store_put.specs.Making.{AreShared}

pub if_some : {X : Type 0} (o : Option X) (P : X → Type 0) → ((x : X) → o ≡ Some x → P x) → IfSome o P
if_some None P h = tt
if_some (Some x) P h = h x refl

pub some_gives : {X : Type 0} (o : Option X) (P : X → Type 0) (x : X) → IfSome o P → o ≡ Some x → P x
some_gives None P x h is = absurd (none-some x is)
some_gives (Some y) P x h is = subst P (same_Some y x is) h

pub is_some_of : {X : Type 0} (o : Option X) (x : X) → o ≡ Some x → IsSome o
is_some_of None x is = absurd (none-some x is)
is_some_of (Some y) x is = refl

-- what a change that fits and takes no memory makes
pub made_by : (r : Result ⊤ ApplyFault) (d new : Directory) (change : Change) → OnOk r (apply d change ≡ Some new)
    → (r ≡ Err faults.Unfit → apply d change ≡ None) → (r ≡ Err faults.NoMemory → ⊥) → IsSome (apply d change) → apply d change ≡ Some new
made_by (Ok x) d new change ok unfit memory some = ok
made_by (Err faults.Unfit) d new change ok unfit memory some = absurd (false≢true (subst IsSome (unfit refl) some))
made_by (Err faults.NoMemory) d new change ok unfit memory some = absurd (memory refl)

pub one_made : (d new : Directory) (change : Change) → apply d change ≡ Some new → apply_all d (change ∷ []) ≡ Some new
one_made d new change is = ap (λ (o : Option Directory). o >>= λ (e : Directory). apply_all e []) is

-- the store at a place tells a refusal
pub told_applies : (d : Directory) (at : ℕ) (s : Listed) → IsDirectory d → AreShared d.stores → slice_get d.stores at ≡ Some s
    → IsSome (apply d (Put (told_row s.row)))
told_applies d at s kept shared there =
    let place = spot d.stores at s there in
    let listed = listed_in d kept place.front s place.back place.parted in
    is_some_of (apply d (Put (told_row s.row))) _
    (put_fits_in shared.0 d kept shared.1 place.front s place.back place.parted (told_row s.row) refl refl listed.lawful (told_fits s.row listed.fits)).applied

-- or counts a record
pub count_room : (row : Row) (index : TimeIndex) (gone need : ℕ) → AreTogether row index → pages_of (drop gone index.entries) + need ≤ index.size
    → 1 ≤ need → row.count - gone + 1 ≤ row.size
count_room row index gone need together room some =
    let least = pages_least (drop gone index.entries) in
    let rest = length-drop gone index.entries in
    omega (arith, least, rest, together.count, together.size, room, some)

pub put_applies : (d : Directory) (at : ℕ) (s : Listed) (gone : ℕ) → IsDirectory d → AreShared d.stores → slice_get d.stores at ≡ Some s
    → s.row.count - gone + 1 ≤ s.row.size → IsSome (apply d (Put (row_behind_put gone s.row)))
put_applies d at s gone kept shared there room =
    let place = spot d.stores at s there in
    let listed = listed_in d kept place.front s place.back place.parted in
    is_some_of (apply d (Put (row_behind_put gone s.row))) _
    (put_fits_in shared.0 d kept shared.1 place.front s place.back place.parted (row_behind_put gone s.row) refl refl
    (put_lawful s.row gone listed.lawful room) (put_fits s.row gone listed.fits room)).applied

-- neither takes memory
pub needs_none : (d : Directory) (sizes : List (ℕ × ℕ)) (at : ℕ) (s : Listed) (row : Row) → IsDirectory d → AreShared d.stores
    → slice_get d.stores at ≡ Some s → AreWithin (record { stores = d.stores; sizes = sizes }) → row.identifier ≡ s.row.identifier → row.size ≡ s.row.size
    → largest_in sizes row.identifier < row.size → ⊥
needs_none d sizes at s row kept shared there within same sized less =
    let place = spot d.stores at s there in
    let stands = found shared.0 d kept shared.1 place.front s place.back place.parted in
    let most = within s.row.identifier in
    let is = ap size_of stands in
    let named = ap (largest_in sizes) same in
    absurd (omega (arith, most, is, named, sized, less))

-- the store at a place
pub some_at : {X : Type 0} (xs : List X) (at : ℕ) → at < length xs → (x : X) × (slice_get xs at ≡ Some x)
some_at [] at within = absurd (omega arith)
some_at (x ∷ xs) zero within = (x, refl)
some_at (x ∷ xs) (suc at) within = some_at xs at (omega arith)
