-- What the retrievals of a session send, on a table for which a vault stands.
use Rattle.std.proofs.Common.{◌≡◌, ◌≢◌, ◌+◌, ◌==◌, ◌&&◌, ℕ, zero, suc, true, List, [], ◌∷◌, ◌++◌, length, not, Option, Some, None, inr, refl, sym, ◌∙◌, ap, subst, arith}
use Rattle.std.specs.Prelude.{All, find, nat_le, nat_lt}
use Rattle.std.proofs.lemmas.Bool.{and_parts, eq-eqb, leb-true, ltb-true, not-true, true≢false}
use Rattle.std.proofs.lemmas.List.{length-map}
use Rattle.std.proofs.lemmas.List.Elements.{All-cons, All-head, All-nil, All-tail}
use Rattle.board.specs.Flash.{Flash}
use Rattle.pst_laws.specs.Kept.{AreRising, IsFrom, IsRangeKept}
use Rattle.pst_laws.specs.Places.{place_in}
use Rattle.pst_laws.specs.Trails.{trail_at}
use Rattle.pst_laws.proofs.Ahead.{open_kept}
use Rattle.pst_laws.proofs.Granted.{granted}
use Rattle.pst_laws.proofs.Numbered.{numbers_kept}
use Rattle.pst_laws.proofs.Ranges.{ranges_kept}
use Rattle.pst_model.specs.Answers.{refusal_of}
use Rattle.pst_model.specs.Changes.{is_named}
use Rattle.pst_model.specs.Command.{Command, Grant}
use Rattle.pst_model.specs.Laws.{AreDistinct, IsRangeIn, IsRanged, identifiers, time_of}
use Rattle.pst_model.specs.Run.{run, run_from, step}
use Rattle.pst_model.specs.Table.{Store, Table}
use Rattle.pst_model.proofs.Orders.{step_distinct}
use Rattle.store_directory.specs.Directory as directories
use Rattle.store_directory.specs.Directory.{Directory, IsListed, Listed, are_distinct, is_new}
use Rattle.store_directory.specs.Rows.{is_lawful_row, is_range}
use Rattle.store_directory.specs.declared.row.Row.{Row}
use Rattle.store_policy.specs.Shown.{AreShown, AreTogether, IsStoreShown}
use Rattle.store_policy.specs.declared.view.View.{View}
use Rattle.time_index.specs.TimeIndex.{TimeIndex, stamp_of}
use Rattle.vault.specs.Memory.{EachStore, InMemory, IsSound, IsSoundStore}
use Rattle.vault.specs.Standing.{StandsFor}
use Rattle.vault.specs.declared.last_block.LastBlock.{LastBlock}
use Rattle.station.specs.Retrieving.{RetrievesInOrder}

-- Each range ends within the packets of its store, and no two stores have one identifier.
record IsOrderly (table : Table) : Type 0 where
  ranged : All IsRanged table.stores
  distinct : AreDistinct (identifiers table.stores)

-- the range of a row, in a store that it shows

in_range : (count : ℕ) (range : Option (ℕ × ℕ)) → is_range count range ≡ true → IsRangeIn count range
in_range count None is = tt
in_range count (Some (next, end)) is =
    let parts = and_parts (nat_lt next end) (nat_le end count) is in (ltb-true next end parts.0, leb-true end count parts.1)

row_range : (row : Row) → is_lawful_row row ≡ true → is_range row.count row.range ≡ true
row_range row lawful =
    (and_parts (nat_le 1 row.size && nat_le row.size 100000 && nat_le 1 row.channel && nat_le row.channel 7 && nat_le row.count row.size && nat_le row.behind row.count)
    (is_range row.count row.range) lawful).1

store_ranged : (store : Store) (s : Listed) (index : TimeIndex) → IsStoreShown store s index → AreTogether s.row index → is_lawful_row s.row ≡ true → IsRanged store
store_ranged store s index shown together lawful =
    let many : s.count ≡ length store.packets =
    sym (sym (length-map store.packets time_of) ∙ ap length shown.shown.packets.times ∙ length-map index.entries stamp_of ∙ together.count) in
    subst (IsRangeIn (length store.packets)) (sym shown.shown.range)
    (subst (λ (n : ℕ). IsRangeIn n s.range) many (in_range s.count s.range (row_range s.row lawful)))

all_ranged : (now : ℕ) (stores : List Store) (listed : List Listed) (indexes : List TimeIndex) (lasts : List LastBlock) → AreShown stores listed indexes
    → EachStore (IsSoundStore now) listed indexes lasts → All IsListed listed → All IsRanged stores
all_ranged now [] listed indexes lasts shown sound each = All-nil IsRanged
all_ranged now (store ∷ stores) [] indexes lasts shown sound each = absurd shown
all_ranged now (store ∷ stores) (s ∷ listed) [] lasts shown sound each = absurd shown
all_ranged now (store ∷ stores) (s ∷ listed) (index ∷ indexes) [] shown sound each = absurd sound
all_ranged now (store ∷ stores) (s ∷ listed) (index ∷ indexes) (last ∷ lasts) shown sound each =
    let own = All-head IsListed s listed each in
    All-cons IsRanged store stores (store_ranged store s index shown.0 sound.0.together own.lawful)
    (all_ranged now stores listed indexes lasts shown.1 sound.1 (All-tail IsListed s listed each))

-- identifiers

names_same : (stores : List Store) (listed : List Listed) (indexes : List TimeIndex) → AreShown stores listed indexes → identifiers stores ≡ directories.identifiers listed
names_same [] [] indexes shown = refl
names_same [] (s ∷ listed) indexes shown = absurd shown
names_same (store ∷ stores) [] indexes shown = absurd shown
names_same (store ∷ stores) (s ∷ listed) [] shown = absurd shown
names_same (store ∷ stores) (s ∷ listed) (index ∷ indexes) shown =
    λ i. shown.0.shown.identifier i ∷ names_same stores listed indexes shown.1 i

not_among : (n : ℕ) (others : List ℕ) → is_new n others ≡ true → All (λ (other : ℕ). n ≢ other) others
not_among n [] new = All-nil (λ (other : ℕ). n ≢ other)
not_among n (other ∷ others) new =
    let parts = and_parts (not (n == other)) (is_new n others) new in
    All-cons (λ (other : ℕ). n ≢ other) other others
    (λ same. true≢false (sym (eq-eqb n other same) ∙ not-true (n == other) parts.0))
    (not_among n others parts.1)

all_distinct : (numbers : List ℕ) → are_distinct numbers ≡ true → AreDistinct numbers
all_distinct [] distinct = λ i j d lt within. absurd (omega (arith, within))
all_distinct (number ∷ numbers) distinct =
    let parts = and_parts (is_new number numbers) (are_distinct numbers) distinct in
    pairs (not_among number numbers parts.0) (all_distinct numbers parts.1)
  where
    pairs : All (λ (other : ℕ). number ≢ other) numbers → AreDistinct numbers → AreDistinct (number ∷ numbers)
    pairs first rest zero zero d lt within = absurd (omega (arith, lt))
    pairs first rest zero (suc j) d lt within = first j d (omega (arith, within))
    pairs first rest (suc i) zero d lt within = absurd (omega (arith, lt))
    pairs first rest (suc i) (suc j) d lt within = rest i j d (omega (arith, lt)) (omega (arith, within))

-- what is shown of a vault
abbrev view_of : InMemory → View
view_of vault = record {
  directory = record { ref_ptr = (0, 0); now = vault.directory };
  indexes = record { ref_ptr = (0, 0); now = vault.indexes };
  blocks = vault.blocks;
}

orderly : (vault : InMemory) (flash : Flash) (table : Table) → IsSound vault → StandsFor vault flash table → IsOrderly table
orderly vault flash table sound stands =
    let shown = stands.shows (view_of vault) (record { directory = refl; indexes = refl; blocks = refl }) in
    record {
      ranged = all_ranged vault.directory.now table.stores vault.directory.stores vault.indexes vault.lasts shown.stores sound.stores sound.kept.stores.each;
      distinct =
          subst AreDistinct (sym (names_same table.stores vault.directory.stores vault.indexes shown.stores))
          (all_distinct (directories.identifiers vault.directory.stores) sound.kept.stores.distinct);
    }

-- over commands
run_distinct : (blocks number : ℕ) (table : Table) (commands : List Command) → AreDistinct (identifiers table.stores)
    → AreDistinct (identifiers (run_from blocks number table commands).table.stores)
run_distinct blocks number table [] distinct = distinct
run_distinct blocks number table (command ∷ commands) distinct =
    run_distinct blocks (number + 1) (step blocks number command table).table commands (step_distinct blocks number command table distinct)

pub retrieves : (blocks : ℕ) (vault : InMemory) (flash : Flash) (table : Table) (commands : List Command) → IsSound vault → StandsFor vault flash table
    → RetrievesInOrder blocks table commands
retrieves blocks vault flash table commands sound stands =
    let order = orderly vault flash table sound stands in
    record {
      numbers = λ identifier. numbers_kept refusal_of blocks 1 identifier table commands;
      ranges = λ identifier. ranges_kept refusal_of blocks 1 identifier table commands order.ranged;
      opens = λ identifier. open_kept refusal_of blocks 1 identifier table commands;
      grants = λ front others moment is. granted (length front + 1) (run blocks table front).table (run_distinct blocks 1 table front order.distinct);
    }

-- before the first command

none_rising : AreRising []
none_rising i j d lt within = absurd (omega (arith, within))

none_sent : (store : Option Store) → IsRangeKept (trail_at (place_in store)) (place_in store)
none_sent None = record { rising = none_rising; selected = All-nil (IsFrom 0 0); each = λ standing number from. absurd (omega (arith, from.0, from.1)) }
none_sent (Some store) = by store.range
  where
    by : (range : Option (ℕ × ℕ)) → IsRangeKept (trail_at (Some (record { packets = store.packets; behind = store.behind; range = range })))
        (Some (record { packets = store.packets; behind = store.behind; range = range }))
    by None = record { rising = none_rising; selected = All-nil (IsFrom 0 0); each = λ standing number from. absurd (omega (arith, from.0, from.1)) }
    by (Some (next, end)) = record {
      rising = none_rising;
      selected = All-nil (IsFrom next end);
      each = λ standing number from. inr (inr (omega (arith, from.0), omega (arith, from.1)));
    }

no_grant : (front others : List Command) (moment : ℕ) → [] ≡ front ++ Grant moment ∷ others → ⊥
no_grant [] others moment is = cc
no_grant (command ∷ front) others moment is = cc

pub retrieves_none : (blocks : ℕ) (table : Table) → RetrievesInOrder blocks table []
retrieves_none blocks table = record {
  numbers = λ identifier. numbers_kept refusal_of blocks 1 identifier table [];
  ranges = λ identifier. none_sent (find (is_named identifier) table.stores);
  opens = λ identifier. open_kept refusal_of blocks 1 identifier table [];
  grants = λ front others moment is. absurd (no_grant front others moment is);
}
