-- Records that stay spelled while others are copied behind them.
use Rattle.std.proofs.Common.{◌≡◌, inl, inr, ℕ, suc, ◌+◌, ◌*◌, ◌%◌, ◌<◌, ◌≤◌, false, List}
use Rattle.std.proofs.Common.{length, take, Some, sym, ◌∙◌, ap, subst, arith}
use Rattle.std.specs.Prelude.{◌≢◌, slice_get}
use Rattle.std.proofs.lemmas.Bool.{cases_lt}
use Rattle.std.proofs.lemmas.Bool.Decides.{nat_tests}
use Rattle.std.proofs.lemmas.Option.{same_Some}
use Rattle.board.specs.Flash.{IsContent, pages_from, pages_of_block}
use Rattle.board.proofs.Pages.{above_pages, below_pages}
use Rattle.board.proofs.Touching.{Within}
use Rattle.chain_log.specs.Loaded.{IsFound, IsMismatchAt}
use Rattle.chain_log.specs.declared.place.LoadFault.{LoadFault}
use Rattle.chain_log.specs.declared.place.LoadFault.TheVariants.{Flash, Mismatch}
use Rattle.chain_log.specs.Pages.{block_octets}
use Rattle.chain_log.proofs.Spelled.{stays}
use Rattle.commit_gate.proofs.AreaPages.{octets_same}
use Rattle.record_view.specs.Records.{Meaning, record_at}
use Rattle.space_packet.specs.Charge.{charge_of}
use Rattle.time_index.specs.TimeIndex.{pages_of}
use Rattle.time_index.specs.declared.entry.Entry.{Entry}
use Rattle.store_write.specs.Moved.{AreCopiedUpTo, IsMismatchIn, IsSpelled, place_of}
use Rattle.store_write.proofs.Entries.{pages_next, pages_up}

-- the pages of another block
off_block : (block other p : ℕ) → other ≢ block → 256 * other ≤ p → p < 256 * other + 256
    → pages_of_block block p ≡ false
off_block block other p apart low high = elim (cases_lt other block) [
  | inl before ↦ below_pages (256 * block) 256 p (omega (arith, before, high))
  | inr from ↦ elim (cases_lt block other) [
    | inl behind ↦ above_pages (256 * block) 256 p (omega (arith, behind, low))
    | inr to ↦ absurd (apart (omega (arith, from, to)))
  ]
]

-- a block that was not touched has the same octets
pub other_octets : (old new : ℕ → List ℕ) (block other : ℕ) → other ≢ block
    → ((p : ℕ) → pages_of_block block p ≡ false → new p ≡ old p)
    → block_octets new other ≡ block_octets old other
other_octets old new block other apart same =
    octets_same old new 256 (256 * other)
    (λ q low high. same q (off_block block other q apart low high))

-- a record that is spelled in such a block
pub spelled_still : (old new : ℕ → List ℕ) (block number : ℕ) (entry : Entry) (meaning : Meaning)
    → entry.block ≢ block → ((p : ℕ) → pages_of_block block p ≡ false → new p ≡ old p)
    → IsSpelled old number entry meaning → IsSpelled new number entry meaning
spelled_still old new block number entry meaning apart same is = record {
  spelled = ap (λ (octets : List ℕ). record_at octets number entry.page)
      (other_octets old new block entry.block apart same) ∙ is.spelled;
  long = is.long;
}

-- one copy more
module _ (blocks block first n : ℕ) (entries : List Entry) (old mid new : ℕ → List ℕ)
    (entry : Entry) (here : slice_get entries n ≡ Some entry) (inside : block < blocks)
    (mid_pages : IsContent blocks mid) (new_pages : IsContent blocks new)
    (same : (p : ℕ)
    → pages_from (256 * block + pages_of (take n entries)) (charge_of entry.length) p
    ≡ false → new p ≡ mid p) where
  earlier : (j : ℕ) (other : Entry) (meaning : Meaning) → j < n
      → slice_get entries j ≡ Some other → length meaning.packet ≡ other.length
      → record_at (block_octets mid block) ((first + j) % 4294967296)
      (pages_of (take j entries)) ≡ Some meaning
      → record_at (block_octets new block) ((first + j) % 4294967296)
      (pages_of (take j entries)) ≡ Some meaning
  earlier j other meaning before there long is =
      let at = pages_of (take j entries) in
      let cost = pages_next entries j other there in
      let up = pages_up entries (suc j) n (omega (arith, before)) in
      let charge = ap charge_of long in
      stays blocks mid new block at ((first + j) % 4294967296) meaning mid_pages new_pages inside is
      (λ i lt. same (256 * block + at + i)
      (below_pages (256 * block + pages_of (take n entries)) (charge_of entry.length)
      (256 * block + at + i) (omega (arith, lt, cost, up, charge))))

  pub one_copied : AreCopiedUpTo n old mid block first entries
      → ((meaning : Meaning) → IsSpelled old ((first + n) % 4294967296) entry meaning
      → record_at (block_octets new block) ((first + n) % 4294967296)
      (pages_of (take n entries)) ≡ Some meaning)
      → AreCopiedUpTo (suc n) old new block first entries
  one_copied are next j other meaning lt there is = elim (cases_lt j n) [
    | inl before ↦ earlier j other meaning before there is.long
        (are j other meaning before there is)
    | inr behind ↦
        let at : n ≡ j = omega (arith, behind, lt) in
        let same_entry : entry ≡ other =
        same_Some entry other (sym here ∙ ap (slice_get entries) at ∙ there) in
        subst (λ (k : ℕ). record_at (block_octets new block) ((first + k) % 4294967296)
        (pages_of (take k entries)) ≡ Some meaning) at
        (next meaning
        (subst (λ (k : ℕ). IsSpelled old ((first + k) % 4294967296) entry meaning) (sym at)
        (subst (λ (e : Entry). IsSpelled old ((first + j) % 4294967296) e meaning)
        (sym same_entry) is)))
  ]

-- all of them
pub all_copied : (many few : ℕ) (old new : ℕ → List ℕ) (block first : ℕ)
    (entries : List Entry) → few ≤ many → AreCopiedUpTo many old new block first entries
    → AreCopiedUpTo few old new block first entries
all_copied many few old new block first entries le are =
    λ j entry meaning lt. are j entry meaning (omega (arith, lt, le))

-- what is found in some octets is one record
pub one_record : (octets : List ℕ) (number long : ℕ) (copied meaning : Meaning)
    → IsFound octets number long copied → IsFound octets number long meaning
    → ◌≡◌ {A = Meaning} (record { number = number; stamp = copied.stamp; packet = copied.packet })
    meaning
one_record octets number long copied meaning there here =
    (λ i. record {
      number = number;
      stamp = (there.record_is i).stamp;
      packet = (there.record_is i).packet;
    })
    ∙ sym here.record_is

-- the pages of a record lie in its block
pub in_block : (block used pages : ℕ) → used + pages ≤ 256
    → Within (pages_from (256 * block + used) pages) (pages_of_block block)
in_block block used pages fits p out = grind (arith, nat_tests)

-- a mismatch at the place of an entry
pub mismatch_in : (entries : List Entry) (j : ℕ) (entry : Entry) (fault : LoadFault)
    → slice_get entries j ≡ Some entry → IsMismatchAt (place_of entry) fault
    → IsMismatchIn entries fault
mismatch_in entries j entry Flash there at = tt
mismatch_in entries j entry (Mismatch block page kept found) there at =
    (j, entry, there, at.0, at.1, at.2)
