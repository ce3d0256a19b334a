-- How many of the first stores take a packet, and how many of them into a new block.
use Rattle.std.proofs.Common.{◌≡◌, ℕ, zero, suc, ◌+◌, ◌&&◌, Bool, List, [], ◌∷◌, take, Some, ap, subst, arith}
use Rattle.std.specs.Prelude.{if◌then◌else◌, slice_get}
use Rattle.std.proofs.lemmas.Option.{none-some, same_Some}
use Rattle.pst_model.specs.Table.{Store}
use Rattle.store_directory.specs.Directory.{Listed}
use Rattle.vault.specs.Storing.{beginners, is_full, takers, takes}
use Rattle.vault.specs.declared.last_block.LastBlock.{LastBlock}

abbrev pub one_if : Bool → ℕ
one_if b = if b then 1 else 0

takers_suc : (packet : List ℕ) (stores : List Store) (at : ℕ) (store : Store) → slice_get stores at ≡ Some store
    → takers packet (take (suc at) stores) ≡ takers packet (take at stores) + one_if (takes packet store)
takers_suc packet [] at store is = absurd (none-some store is)
takers_suc packet (x ∷ stores) zero store is = let same = ap (λ (y : Store). one_if (takes packet y)) (same_Some x store is) in omega (arith, same)
takers_suc packet (x ∷ stores) (suc at) store is = let rest = takers_suc packet stores at store is in omega (arith, rest)

pub takers_next : (packet : List ℕ) (stores : List Store) (at : ℕ) (store : Store) → slice_get stores at ≡ Some store
    → takers packet (take (at + 1) stores) ≡ takers packet (take at stores) + one_if (takes packet store)
takers_next packet stores at store is =
    let one : suc at ≡ at + 1 = omega arith in
    subst (λ (n : ℕ). takers packet (take n stores) ≡ takers packet (take at stores) + one_if (takes packet store)) one (takers_suc packet stores at store is)

beginners_suc : (packet : List ℕ) (stores : List Store) (listed : List Listed) (lasts : List LastBlock) (at : ℕ) (store : Store) (s : Listed) (last : LastBlock)
    → slice_get stores at ≡ Some store → slice_get listed at ≡ Some s → slice_get lasts at ≡ Some last
    → beginners packet (take (suc at) stores) listed lasts
    ≡ beginners packet (take at stores) listed lasts + one_if (takes packet store && is_full s.links last)
beginners_suc packet [] listed lasts at store s last is has knows = absurd (none-some store is)
beginners_suc packet (x ∷ stores) [] lasts at store s last is has knows = absurd (none-some s has)
beginners_suc packet (x ∷ stores) (l ∷ listed) [] at store s last is has knows = absurd (none-some last knows)
beginners_suc packet (x ∷ stores) (l ∷ listed) (b ∷ lasts) zero store s last is has knows =
    let first = same_Some x store is in
    let second = same_Some l s has in
    let third = same_Some b last knows in
    let sum : one_if (takes packet x && is_full l.links b) ≡ one_if (takes packet store && is_full s.links last) =
    (λ i. one_if (takes packet (first i) && is_full (second i).links (third i))) in
    omega (arith, sum)
beginners_suc packet (x ∷ stores) (l ∷ listed) (b ∷ lasts) (suc at) store s last is has knows =
    let rest = beginners_suc packet stores listed lasts at store s last is has knows in omega (arith, rest)

pub beginners_next : (packet : List ℕ) (stores : List Store) (listed : List Listed) (lasts : List LastBlock) (at : ℕ) (store : Store) (s : Listed) (last : LastBlock)
    → slice_get stores at ≡ Some store → slice_get listed at ≡ Some s → slice_get lasts at ≡ Some last
    → beginners packet (take (at + 1) stores) listed lasts
    ≡ beginners packet (take at stores) listed lasts + one_if (takes packet store && is_full s.links last)
beginners_next packet stores listed lasts at store s last is has knows =
    let one : suc at ≡ at + 1 = omega arith in
    subst (λ (n : ℕ). beginners packet (take n stores) listed lasts
    ≡ beginners packet (take at stores) listed lasts + one_if (takes packet store && is_full s.links last)) one
    (beginners_suc packet stores listed lasts at store s last is has knows)
