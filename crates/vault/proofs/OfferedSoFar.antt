-- A packet on its way along the stores: what so many of them take, and what holds before the first one.
use Rattle.std.proofs.Common.{◌≡◌, ◌≤◌, ◌<◌, ℕ, zero, suc, false, List, [], ◌∷◌, length, take, refl, sym, ap, subst, arith}
use Rattle.std.specs.Prelude.{Err, Ok, OnErr, Result}
use Rattle.std.proofs.lemmas.List.{length-drop}
use Rattle.std.proofs.lemmas.Nat.{mul-le}
use Rattle.board.specs.Flash.{IsImage}
use Rattle.board.specs.Meaning.{BoardMeaning, TellsFlash}
use Rattle.board.proofs.Runs as runs
use Rattle.board.proofs.Stops.{started}
use Rattle.board.proofs.Works.{works_most, works_none}
use Rattle.image_table.specs.Standing.{HoldsTable}
use Rattle.pst_model.specs.Table.{Store, Stored, Table}
use Rattle.space_packet.specs.Charge.{charge_of}
use Rattle.store_directory.specs.Directory.{Listed}
use Rattle.vault.proofs.Stopped.{image_holds}
use Rattle.vault.specs.Memory.{InMemory, IsSound}
use Rattle.vault.specs.Putting.{BeginsPut}
use Rattle.vault.specs.Standing.{StandsFor}
use Rattle.vault.specs.Storing.{AreFreshFor, HasPut, OffersQuietly, beginners, takers}
use Rattle.vault.specs.declared.last_block.LastBlock.{LastBlock}

-- what holds however it was answered
pub on_err : {A E : Type 0} (r : Result A E) (P : Type 0) → P → OnErr r P
on_err (Ok x) P is = tt
on_err (Err e) P is = is

takers_more : (packet : List ℕ) (stores : List Store) (m n : ℕ) → m ≤ n → takers packet (take m stores) ≤ takers packet (take n stores)
takers_more packet [] zero zero le = omega arith
takers_more packet [] zero (suc n) le = omega arith
takers_more packet [] (suc m) zero le = omega arith
takers_more packet [] (suc m) (suc n) le = omega arith
takers_more packet (s ∷ stores) zero zero le = omega arith
takers_more packet (s ∷ stores) zero (suc n) le = omega arith
takers_more packet (s ∷ stores) (suc m) zero le = absurd (omega (arith, le))
takers_more packet (s ∷ stores) (suc m) (suc n) le = let rest = takers_more packet stores m n (omega (arith, le)) in omega (arith, rest)

beginners_more : (packet : List ℕ) (stores : List Store) (m n : ℕ) (listed : List Listed) (lasts : List LastBlock) → m ≤ n
    → beginners packet (take m stores) listed lasts ≤ beginners packet (take n stores) listed lasts
beginners_more packet [] zero zero listed lasts le = omega arith
beginners_more packet [] zero (suc n) listed lasts le = omega arith
beginners_more packet [] (suc m) zero listed lasts le = omega arith
beginners_more packet [] (suc m) (suc n) listed lasts le = omega arith
beginners_more packet (s ∷ stores) zero zero listed lasts le = omega arith
beginners_more packet (s ∷ stores) zero (suc n) listed lasts le = omega arith
beginners_more packet (s ∷ stores) (suc m) zero listed lasts le = absurd (omega (arith, le))
beginners_more packet (s ∷ stores) (suc m) (suc n) [] lasts le = omega arith
beginners_more packet (s ∷ stores) (suc m) (suc n) (l ∷ listed) [] le = omega arith
beginners_more packet (s ∷ stores) (suc m) (suc n) (l ∷ listed) (last ∷ lasts) le =
    let rest = beginners_more packet stores m n listed lasts (omega (arith, le)) in omega (arith, rest)

-- all of them
pub takers_all : (packet : List ℕ) (stores : List Store) (n : ℕ) → takers packet (take n stores) ≤ takers packet stores
takers_all packet [] zero = omega arith
takers_all packet [] (suc n) = omega arith
takers_all packet (s ∷ stores) zero = omega arith
takers_all packet (s ∷ stores) (suc n) = let rest = takers_all packet stores n in omega (arith, rest)

pub beginners_all : (packet : List ℕ) (stores : List Store) (n : ℕ) (listed : List Listed) (lasts : List LastBlock)
    → beginners packet (take n stores) listed lasts ≤ beginners packet stores listed lasts
beginners_all packet [] zero listed lasts = omega arith
beginners_all packet [] (suc n) listed lasts = omega arith
beginners_all packet (s ∷ stores) zero listed lasts = omega arith
beginners_all packet (s ∷ stores) (suc n) [] lasts = omega arith
beginners_all packet (s ∷ stores) (suc n) (l ∷ listed) [] = omega arith
beginners_all packet (s ∷ stores) (suc n) (l ∷ listed) (last ∷ lasts) = let rest = beginners_all packet stores n listed lasts in omega (arith, rest)

module _ {B : Type 0} (means : BoardMeaning B) where
  -- an offer to fewer stores
  pub quiet_more : (start board : B) (old : InMemory) (packet : List ℕ) (m n : ℕ) → m ≤ n → OffersQuietly means start board old packet m
      → OffersQuietly means start board old packet n
  quiet_more start board old packet m n le quiet = record {
    leaves = quiet.leaves;
    unsent = quiet.unsent;
    same = quiet.same;
    work = λ table view is shown.
        let pages = takers_more packet table.stores m n le in
        let begun = beginners_more packet table.stores m n old.directory.stores old.lasts le in
        let c = charge_of (length packet) in
        works_most (quiet.work table view is shown) (omega arith)
        (mul-le c (takers packet (take m table.stores)) c (takers packet (take n table.stores)) (omega arith) pages) begun begun;
  }

  -- an offer to none
  pub quiet_first : (board : B) (old : InMemory) (packet : List ℕ) → old.blocks ≡ (means.device board).blocks → IsSound old
      → ((image : ℕ → List ℕ) → TellsFlash means board → means.images board (means.moment board) image → IsImage (means.device board).blocks (means.flash board) image)
      → OffersQuietly means board board old packet 0
  quiet_first board old packet by sound images = record {
    leaves = λ told table stands. started means board (HoldsTable old.blocks table)
        (λ image left. image_holds old (means.flash board) table image sound stands
        (subst (λ (n : ℕ). IsImage n (means.flash board) image) (sym by) (images image told left)));
    unsent = λ told. runs.sends_nothing_yet means board;
    same = refl;
    work = λ table view is shown. works_most (works_none (means.counts board)) (omega arith) (omega arith) (omega arith) (omega arith);
  }

  pub put_first : (board : B) (old now : InMemory) (stored : Stored) (text : List ℕ) → BeginsPut old now stored text → old.blocks ≡ (means.device board).blocks
      → IsSound old → AreFreshFor stored.octets old
      → ((image : ℕ → List ℕ) → TellsFlash means board → means.images board (means.moment board) image → IsImage (means.device board).blocks (means.flash board) image)
      → (TellsFlash means board → (table : Table) × StandsFor old (means.flash board) table)
      → HasPut means board board old now stored 0 text
  put_first board old now stored text begun by sound fresh images stood = record {
    changes = begun.changes;
    memory = begun.memory fresh;
    quiet = quiet_first board old stored.octets by sound images;
    device = by;
    stood = stood;
    flash = λ told table stands. begun.flash (means.flash board) table stands;
  }

  -- the stores that are left are in the vault too
  pub put_within : (start board : B) (old now : InMemory) (stored : Stored) (at : ℕ) (text : List ℕ) → HasPut means start board old now stored at text
      → at < length old.directory.stores → at < length now.directory.stores
  put_within start board old now stored at text has within =
      let same = ap length has.memory.walk.left in
      let left = length-drop at now.directory.stores in
      let were = length-drop at old.directory.stores in
      omega (arith, same, left, were, within)

  pub put_many : (start board : B) (old now : InMemory) (stored : Stored) (text : List ℕ) → HasPut means start board old now stored 0 text
      → length now.directory.stores ≡ length old.directory.stores
  put_many start board old now stored text has = ap length has.memory.walk.left

  pub put_closed : (start board : B) (old now : InMemory) (stored : Stored) (at : ℕ) (text : List ℕ) → HasPut means start board old now stored at text
      → now.is_open ≡ false
  put_closed start board old now stored at text has = ap (λ (v : InMemory). v.is_open) has.memory.others
