-- The stores in memory behind the change of an instruction: each keeps its records, one loses its front, or one goes.
use Rattle.std.proofs.Common.{◌≡◌, ℕ, zero, suc, ◌+◌, ◌-◌, ◌%◌, ◌≤◌, ◌==◌, ◌||◌, Bool, true, false, List, [], ◌∷◌, ◌++◌, length, map, Some, refl, sym, ◌∙◌, ap, subst, arith}
use Rattle.std.specs.Prelude.{if◌then◌else◌, nat_le}
use Rattle.std.specs.List.{list_any}
use Rattle.std.proofs.lemmas.Bool.{cond-false, cond-true, false≢true, leb-true}
use Rattle.std.proofs.lemmas.List.{drop_all}
use Rattle.std.proofs.lemmas.List.Sums.{count_by-le-length}
use Rattle.std.proofs.lemmas.Option.{none-some, same_Some}
use Rattle.board.specs.Flash.{Flash, IsContent}
use Rattle.chain_log.specs.Pages.{IsCleanFrom}
use Rattle.control_defs.specs.declared.instructions.Instruction.{Instruction}
use Rattle.control_defs.specs.declared.instructions.Instruction.TheVariants.{DeleteUpTo, Remove}
use Rattle.image_table.specs.Table.{table_rule}
use Rattle.image_table.proofs.Stores.{store_keeps}
use Rattle.put_laws.specs.Puts.{last_link}
use Rattle.put_laws.proofs.LastBlocks.{last_left, used_same}
use Rattle.put_laws.proofs.Named.{links_around, new_fewer, trims}
use Rattle.put_laws.proofs.Spots.{put_here}
use Rattle.record_view.specs.declared.link.Link.{Link}
use Rattle.request_laws.specs.Changing.{AllKeepRecords, Goes, LeavesFront, StepsBy, changed_for, deleted_index, deleted_row, index_for, indexes_by, without_for}
use Rattle.request_laws.proofs.Deleting.{around, left_together, pages_left}
use Rattle.request_laws.proofs.Finding.{found_has}
use Rattle.request_laws.proofs.Removing.{links_both}
use Rattle.request_laws.proofs.Room.{found_own}
use Rattle.store_directory.specs.Changes.{listed_by}
use Rattle.store_directory.specs.Directory.{Directory, IsDirectory, IsListed, Listed, are_distinct, find_store, identifiers, is_new, put_store, trim_front, trimmed, without_store}
use Rattle.store_directory.specs.Rows.{is_by}
use Rattle.store_directory.specs.declared.row.Row.{Row}
use Rattle.store_load.specs.Claims.{all_links, block_of, may_share}
use Rattle.store_load.specs.Extents.{Extent, end_of, extent_to, extents_from, extents_to, last_of, pages_in}
use Rattle.store_load.specs.Frame.{in_extent, in_store}
use Rattle.store_load.specs.Loaded.{used_in}
use Rattle.store_load.specs.Moving.{GoesOn}
use Rattle.store_load.proofs.Counting.{kept_parts}
use Rattle.store_load.proofs.Eachs.{in_either, in_other}
use Rattle.store_load.proofs.Indexed.{index_kept}
use Rattle.store_load.proofs.MovedIndexes.{front_indexed}
use Rattle.store_load.proofs.Rows.{row_numbers}
use Rattle.store_policy.specs.Shown.{AreAllTogether, AreTogether}
use Rattle.store_put.specs.Ranges.{IsInPlace, used_for}
use Rattle.store_put.proofs.Dropped.{left_in_place}
use Rattle.time_index.specs.TimeIndex.{TimeIndex, count_up_to, stamp_of, without_first}
use Rattle.time_index.specs.declared.entry.Entry.{Entry}
use Rattle.vault.proofs.Keeping.{all_kept}
use Rattle.vault.proofs.SameRecords.{each_any, each_next, index_same, links_kept, records_kept_in, sound_same}
use Rattle.vault.proofs.SameRecords as same
use Rattle.vault.specs.Following.{HasMoved, Stores, last_for, lasts_by}
use Rattle.vault.specs.Memory.{EachStore, IsSoundStore}
use Rattle.vault.specs.Standing.{IsCleanBehind, IsStoreOf}
use Rattle.vault.specs.declared.last_block.LastBlock.{LastBlock}

-- What is so of each store, and of the one that is put, or without the one that goes.

each_put : (P : Listed → TimeIndex → LastBlock → Type 0) (new s : Listed) (next : TimeIndex → TimeIndex) (next_last : LastBlock → LastBlock) (stores : List Listed) (indexes : List TimeIndex)
    (lasts : List LastBlock) → EachStore P stores indexes lasts → find_store new.identifier stores ≡ Some s
    → ((last : LastBlock) → P s (index_for new.identifier stores indexes) last → P new (next (index_for new.identifier stores indexes)) (next_last last))
    → EachStore P (put_store new stores) (changed_for new.identifier next stores indexes) (changed_for new.identifier next_last stores lasts)
each_put P new s next next_last [] indexes lasts each is goes = absurd (none-some s is)
each_put P new s next next_last (l ∷ stores) [] lasts each is goes = absurd each
each_put P new s next next_last (l ∷ stores) (i ∷ indexes) [] each is goes = absurd each
each_put P new s next next_last (l ∷ stores) (i ∷ indexes) (b ∷ lasts) each is goes =
    by (new.identifier == l.identifier) refl (each_put P new s next next_last stores indexes lasts each.1)
  where
    by : (test : Bool) → (new.identifier == l.identifier) ≡ test
        → (find_store new.identifier stores ≡ Some s
        → ((last : LastBlock) → P s (index_for new.identifier stores indexes) last → P new (next (index_for new.identifier stores indexes)) (next_last last))
        → EachStore P (put_store new stores) (changed_for new.identifier next stores indexes) (changed_for new.identifier next_last stores lasts))
        → EachStore P (put_store new (l ∷ stores)) (changed_for new.identifier next (l ∷ stores) (i ∷ indexes)) (changed_for new.identifier next_last (l ∷ stores) (b ∷ lasts))
    by true here rest =
        let this : l ≡ s = same_Some l s (sym (cond-true (new.identifier == l.identifier) (Some l) (find_store new.identifier stores) here) ∙ is) in
        let own : index_for new.identifier (l ∷ stores) (i ∷ indexes) ≡ i = cond-true (new.identifier == l.identifier) i (index_for new.identifier stores indexes) here in
        rw here
        (subst (λ (x : TimeIndex). P s x b → P new (next x) (next_last b)) own (goes b) (subst (λ (y : Listed). P y i b) this each.0), each.1)
    by false other rest =
        let own : index_for new.identifier (l ∷ stores) (i ∷ indexes) ≡ index_for new.identifier stores indexes =
        cond-false (new.identifier == l.identifier) i (index_for new.identifier stores indexes) other in
        rw other (
          each.0,
          rest (sym (cond-false (new.identifier == l.identifier) (Some l) (find_store new.identifier stores) other) ∙ is)
              (λ last. subst (λ (x : TimeIndex). P s x last → P new (next x) (next_last last)) own (goes last)),
        )

each_without : (P : Listed → TimeIndex → LastBlock → Type 0) (identifier : ℕ) (stores : List Listed) (indexes : List TimeIndex) (lasts : List LastBlock) → EachStore P stores indexes lasts
    → EachStore P (without_store identifier stores) (without_for identifier stores indexes) (without_for identifier stores lasts)
each_without P identifier [] [] [] each = each
each_without P identifier [] [] (b ∷ lasts) each = absurd each
each_without P identifier [] (i ∷ indexes) lasts each = absurd each
each_without P identifier (l ∷ stores) [] lasts each = absurd each
each_without P identifier (l ∷ stores) (i ∷ indexes) [] each = absurd each
each_without P identifier (l ∷ stores) (i ∷ indexes) (b ∷ lasts) each =
    by (identifier == l.identifier) refl (each_without P identifier stores indexes lasts each.1)
  where
    by : (test : Bool) → (identifier == l.identifier) ≡ test → EachStore P (without_store identifier stores) (without_for identifier stores indexes) (without_for identifier stores lasts)
        → EachStore P (without_store identifier (l ∷ stores)) (without_for identifier (l ∷ stores) (i ∷ indexes)) (without_for identifier (l ∷ stores) (b ∷ lasts))
    by true here rest = rw here each.1
    by false other rest = rw other (each.0, rest)

any_put : (test : Listed → Bool) (new s : Listed) (stores : List Listed) → find_store new.identifier stores ≡ Some s → (test new ≡ true → test s ≡ true)
    → list_any test (put_store new stores) ≡ true → list_any test stores ≡ true
any_put test new s [] is less any = absurd (none-some s is)
any_put test new s (l ∷ stores) is less any =
    by (new.identifier == l.identifier) (any_put test new s stores) is any
  where
    by : (b : Bool) → (find_store new.identifier stores ≡ Some s → (test new ≡ true → test s ≡ true) → list_any test (put_store new stores) ≡ true → list_any test stores ≡ true)
        → (if b then Some l else find_store new.identifier stores) ≡ Some s → list_any test (if b then new ∷ stores else l ∷ put_store new stores) ≡ true
        → (test l || list_any test stores) ≡ true
    by true rest is any =
        one_of (test new) (list_any test stores) (test l) (λ here. ap test (same_Some l s is) ∙ less here) any
      where
        one_of : (b c e : Bool) → (b ≡ true → e ≡ true) → (b || c) ≡ true → (e || c) ≡ true
        one_of true c e goes any = in_either e c (goes refl)
        one_of false c e goes any = in_other e c any
    by false rest is any = either (test l) (list_any test (put_store new stores)) (list_any test stores) (rest is less) any
      where
        either : (b c e : Bool) → (c ≡ true → e ≡ true) → (b || c) ≡ true → (b || e) ≡ true
        either true c e goes any = refl
        either false c e goes any = goes any

any_without : (test : Listed → Bool) (identifier : ℕ) (stores : List Listed) → list_any test (without_store identifier stores) ≡ true → list_any test stores ≡ true
any_without test identifier [] any = any
any_without test identifier (l ∷ stores) any =
    by (identifier == l.identifier) (any_without test identifier stores) any
  where
    by : (b : Bool) → (list_any test (without_store identifier stores) ≡ true → list_any test stores ≡ true)
        → list_any test (if b then stores else l ∷ without_store identifier stores) ≡ true → (test l || list_any test stores) ≡ true
    by true rest any = in_other (test l) (list_any test stores) any
    by false rest any = either (test l) (list_any test (without_store identifier stores)) (list_any test stores) rest any
      where
        either : (b c e : Bool) → (c ≡ true → e ≡ true) → (b || c) ≡ true → (b || e) ≡ true
        either true c e goes any = refl
        either false c e goes any = goes any

together_for : (identifier : ℕ) (listed : List Listed) (indexes : List TimeIndex) (s : Listed) → AreAllTogether listed indexes → find_store identifier listed ≡ Some s
    → AreTogether s.row (index_for identifier listed indexes)
together_for identifier [] indexes s all is = absurd (none-some s is)
together_for identifier (l ∷ listed) [] s all is = absurd all
together_for identifier (l ∷ listed) (i ∷ indexes) s all is =
    by (identifier == l.identifier) (together_for identifier listed indexes s all.1) is
  where
    by : (b : Bool) → (find_store identifier listed ≡ Some s → AreTogether s.row (index_for identifier listed indexes))
        → (if b then Some l else find_store identifier listed) ≡ Some s → AreTogether s.row (if b then i else index_for identifier listed indexes)
    by true rest is = subst (λ (x : Listed). AreTogether x.row i) (same_Some l s is) all.0
    by false rest is = rest is

-- What is read of a store whose first links go: no more than before.

less_from : (test : Extent → Bool) (end first : ℕ) (link : Link) (links : List Link) → list_any test (extents_to end (trim_front first link links)) ≡ true
    → list_any test (extents_from end link links) ≡ true
less_from test end first link [] any = any
less_from test end first link (next ∷ links) any = by (is_by next.first first) (less_from test end first next links) any
  where
    by : (b : Bool) → (list_any test (extents_to end (trim_front first next links)) ≡ true → list_any test (extents_from end next links) ≡ true)
        → list_any test (extents_to end (if b then trim_front first next links else link ∷ next ∷ links)) ≡ true → list_any test (extents_from end link (next ∷ links)) ≡ true
    by true deeper any = in_other (test (extent_to next.first link)) (list_any test (extents_from end next links)) (deeper any)
    by false deeper any = any

less_to : (test : Extent → Bool) (end first count : ℕ) (links : List Link) → list_any test (extents_to end (trimmed first count links)) ≡ true
    → list_any test (extents_to end links) ≡ true
less_to test end first zero links any = absurd (false≢true any)
less_to test end first (suc count) [] any = any
less_to test end first (suc count) (link ∷ links) any = less_from test end first link links any

store_less : (image : ℕ → List ℕ) (p : ℕ) (row next : Row) (links : List Link) → end_of next ≡ end_of row → in_store image p next (trimmed next.first next.count links) ≡ true
    → in_store image p row links ≡ true
store_less image p row next links ends any =
    less_to (in_extent image p) (end_of row) next.first next.count links
    (subst (λ (e : ℕ). list_any (in_extent image p) (extents_to e (trimmed next.first next.count links)) ≡ true) ends any)

-- What is known of its last block.

last_used : (count : ℕ) (last : LastBlock) → (last_for count last).used ≡ used_for count last.used
last_used zero last = refl
last_used (suc count) last = refl

used_left : (image : ℕ → List ℕ) (row next : Row) (links : List Link) (last : LastBlock) (count : ℕ) → end_of next ≡ end_of row → last.used ≡ used_in image row links
    → (last_for count last).used ≡ used_in image next (trimmed next.first count links)
used_left image row next links last zero ends is = refl
used_left image row next links last (suc count) ends is =
    is ∙ sym (used_same image row next links (trimmed next.first (suc count) links) ends (last_left next.first (suc count) links (omega arith)))

clean_as : (flash : Flash) (links left : List Link) (used : ℕ) → last_link left ≡ last_link links → IsCleanBehind flash links used → IsCleanBehind flash left used
clean_as flash links [] used is clean = tt
clean_as flash [] (x ∷ left) used is clean = absurd (none-some (last_of x left) (sym is))
clean_as flash (link ∷ links) (x ∷ left) used is clean =
    subst (λ (l : Link). IsCleanFrom flash l.block used) (sym (same_Some (last_of x left) (last_of link links) is)) clean

clean_left : (flash : Flash) (first : ℕ) (links : List Link) (last : LastBlock) (count : ℕ) → (last.stale ≡ false → IsCleanBehind flash links last.used)
    → (last_for count last).stale ≡ false → IsCleanBehind flash (trimmed first count links) (last_for count last).used
clean_left flash first links last zero clean fresh = tt
clean_left flash first links last (suc count) clean fresh =
    clean_as flash links (trimmed first (suc count) links) last.used (last_left first (suc count) links (omega arith)) (clean fresh)

module _ (blocks : ℕ) (old : Stores) (directory : IsDirectory old.directory) (share : may_share 240 blocks old.directory.stores ≡ true)
    (together : AreAllTogether old.directory.stores old.indexes) where
  abbrev d : Directory
  d = old.directory

  -- the packets with times of at most t leave the front of a store
  module _ (identifier t : ℕ) (next : Directory) (leaves : LeavesFront identifier t d old.indexes next) where
    abbrev s : Listed
    s = leaves.s

    abbrev index : TimeIndex
    index = index_for identifier d.stores old.indexes

    abbrev gone : ℕ
    gone = count_up_to index.entries t

    abbrev row : Row
    row = deleted_row t index s.row

    abbrev new : Listed
    new = listed_by row (Some s)

    abbrev left : ℕ
    left = length (deleted_index t index).entries

    own : identifier ≡ s.identifier
    own = found_own identifier d.stores s leaves.found

    found_here : find_store new.identifier d.stores ≡ Some s
    found_here = ap (λ (n : ℕ). find_store n d.stores) (sym own) ∙ leaves.found

    listed : IsListed s
    listed = found_has IsListed identifier d.stores s directory.stores.each leaves.found

    pair : AreTogether s.row index
    pair = together_for identifier d.stores old.indexes s together leaves.found

    goes_on : GoesOn gone 0 s.row row
    goes_on =
        let within = count_by-le-length (λ (entry : Entry). nat_le (stamp_of entry) t) index.entries in
        record { few = omega (arith, within, pair.count); first = refl; count = omega arith }

    ends : end_of row ≡ end_of s.row
    ends = let few = goes_on.few in at s.first s.count gone few
      where
        at : (first count gone : ℕ) → gone ≤ count → ((first + gone) % 4294967296 + (count - gone)) % 4294967296 ≡ (first + count) % 4294967296
        at first count gone few = omega (arith, few)

    many : left ≡ row.count
    many = let both = left_together gone s.row index pair in both.count

    sound_left : (now : ℕ) (last : LastBlock) → IsSoundStore now s index last → IsSoundStore now new (deleted_index t index) (last_for left last)
    sound_left now last sound =
        let numbers = row_numbers s.row listed.lawful in
        record {
          together = left_together gone s.row index sound.together;
          in_place =
              subst (λ (used : ℕ). IsInPlace now row (trimmed row.first row.count s.links) (deleted_index t index) used)
              (ap (λ (n : ℕ). used_for n last.used) (sym many) ∙ sym (last_used left last))
              (left_in_place now s.row row index last.used gone listed.fits.first (omega (arith, numbers.0, numbers.1)) goes_on refl s.links sound.in_place listed.fitting);
        }

    place_left : (flash : Flash) (now : ℕ) → IsContent blocks flash.content → (last : LastBlock) → IsStoreOf flash now s index last
        → IsStoreOf flash now new (deleted_index t index) (last_for left last)
    place_left flash now content last is =
        let (records, kept, seen) = index_kept table_rule flash.content now s.row s.links index is.index_is in
        let keeps = store_keeps blocks flash.content d identifier now s records content directory share leaves.found kept in
        let fits : pages_in records ≤ s.size = leb-true (pages_in records) s.size (kept_parts table_rule flash.content now s.row s.links records kept).fits in
        record {
          index_is =
              front_indexed table_rule blocks flash.content now now s.row s.links records index gone row keeps is.index_is (omega arith) goes_on
              (omega (arith, fits, pages_left gone records))
              ∙ (λ i. Some (record (without_first index gone) { size = sym pair.size i }));
          used_is =
              used_left flash.content s.row row s.links last left ends is.used_is
              ∙ ap (λ (n : ℕ). used_in flash.content row (trimmed row.first n s.links)) many;
          clean =
              subst (λ (n : ℕ). (last_for left last).stale ≡ false → IsCleanBehind flash (trimmed row.first n s.links) (last_for left last).used) many
              (clean_left flash row.first s.links last left is.clean);
        }

    unlinked_left : (block : ℕ) → is_new block (map block_of (all_links d.stores)) ≡ true → is_new block (map block_of (all_links (put_store new d.stores))) ≡ true
    unlinked_left block is =
        let place = around identifier d.stores s leaves.found in
        let (k, cut) = trims row.first row.count s.links in
        let put : put_store new d.stores ≡ place.front ++ new ∷ place.back =
        ap (put_store new) place.parted
        ∙ put_here s place.back new refl place.front (ap (λ (l : List Listed). are_distinct (identifiers l)) (sym place.parted) ∙ directory.stores.distinct) in
        ap (λ (l : List Listed). is_new block (map block_of (all_links l))) put
        ∙ ap (λ (l : List Link). is_new block (map block_of l)) (links_around place.front new place.back)
        ∙ ap (λ (l : List Link). is_new block (map block_of (all_links place.front ++ (l ++ all_links place.back)))) cut
        ∙ new_fewer block (all_links place.front) k s.links (all_links place.back)
        (ap (λ (l : List Link). is_new block (map block_of l)) (sym (links_around place.front s place.back))
        ∙ ap (λ (l : List Listed). is_new block (map block_of (all_links l))) (sym place.parted) ∙ is)

    each_left : (P : Listed → TimeIndex → LastBlock → Type 0) → ((last : LastBlock) → P s index last → P new (deleted_index t index) (last_for left last)) → EachStore P d.stores old.indexes old.lasts
        → EachStore P next.stores (changed_for identifier (deleted_index t) d.stores old.indexes) (changed_for identifier (last_for left) d.stores old.lasts)
    each_left P goes each =
        subst (λ (l : List Listed). EachStore P l (changed_for identifier (deleted_index t) d.stores old.indexes) (changed_for identifier (last_for left) d.stores old.lasts)) (sym leaves.stores)
        (subst (λ (n : ℕ). EachStore P (put_store new d.stores) (changed_for n (deleted_index t) d.stores old.indexes) (changed_for n (last_for left) d.stores old.lasts)) (sym own)
        (each_put P new s (deleted_index t) (last_for left) d.stores old.indexes old.lasts each found_here
        (subst (λ (n : ℕ). (last : LastBlock) → P s (index_for n d.stores old.indexes) last → P new (deleted_index t (index_for n d.stores old.indexes)) (last_for left last)) own goes)))

    front_moved : HasMoved blocks old
        (record { directory = next; indexes = changed_for identifier (deleted_index t) d.stores old.indexes; lasts = changed_for identifier (last_for left) d.stores old.lasts })
    front_moved = record {
      sound = λ now. each_left (IsSoundStore now) (sound_left now);
      places = λ flash now content. each_left (IsStoreOf flash now) (place_left flash now content);
      pages = λ image p there.
          any_put (λ (x : Listed). in_store image p x.row x.links) new s d.stores found_here (store_less image p s.row row s.links ends)
          (ap (list_any (λ (x : Listed). in_store image p x.row x.links)) (sym leaves.stores) ∙ there);
      unlinked = λ block is. ap (λ (l : List Listed). is_new block (map block_of (all_links l))) leaves.stores ∙ unlinked_left block is;
    }

  -- a store goes
  module _ (identifier : ℕ) (next : Directory) (goes : Goes identifier d next) where
    unlinked_without : (block : ℕ) → is_new block (map block_of (all_links d.stores)) ≡ true → is_new block (map block_of (all_links (without_store identifier d.stores))) ≡ true
    unlinked_without block is =
        let place = around identifier d.stores goes.s goes.found in
        let links = goes.s.links in
        ap (λ (l : List Listed). is_new block (map block_of (all_links l))) place.gone
        ∙ ap (λ (l : List Link). is_new block (map block_of l)) (links_both place.front place.back)
        ∙ ap (λ (l : List Link). is_new block (map block_of (all_links place.front ++ (l ++ all_links place.back)))) (sym (drop_all (length links) links (omega arith)))
        ∙ new_fewer block (all_links place.front) (length links) links (all_links place.back)
        (ap (λ (l : List Link). is_new block (map block_of l)) (sym (links_around place.front goes.s place.back))
        ∙ ap (λ (l : List Listed). is_new block (map block_of (all_links l))) (sym place.parted) ∙ is)

    each_gone : (P : Listed → TimeIndex → LastBlock → Type 0) → EachStore P d.stores old.indexes old.lasts
        → EachStore P next.stores (without_for identifier d.stores old.indexes) (without_for identifier d.stores old.lasts)
    each_gone P each =
        subst (λ (l : List Listed). EachStore P l (without_for identifier d.stores old.indexes) (without_for identifier d.stores old.lasts)) (sym goes.stores)
        (each_without P identifier d.stores old.indexes old.lasts each)

    store_moved : HasMoved blocks old
        (record { directory = next; indexes = without_for identifier d.stores old.indexes; lasts = without_for identifier d.stores old.lasts })
    store_moved = record {
      sound = λ now. each_gone (IsSoundStore now);
      places = λ flash now content. each_gone (IsStoreOf flash now);
      pages = λ image p there.
          any_without (λ (x : Listed). in_store image p x.row x.links) identifier d.stores
          (ap (list_any (λ (x : Listed). in_store image p x.row x.links)) (sym goes.stores) ∙ there);
      unlinked = λ block is. ap (λ (l : List Listed). is_new block (map block_of (all_links l))) goes.stores ∙ unlinked_without block is;
    }

  -- each store keeps its records
  stays_moved : (next : Directory) → AllKeepRecords d.stores next.stores → HasMoved blocks old (record { directory = next; indexes = old.indexes; lasts = old.lasts })
  stays_moved next keeps =
      let same_all = all_kept d.stores next.stores keeps in
      record {
        sound = λ now each.
            each_next (λ (x : Listed). Unit {0}) (IsSoundStore now) (IsSoundStore now)
            (λ x y i last is any here. sound_same x y is now now i last (omega arith) here)
            d.stores next.stores old.indexes old.lasts same_all (each_any next.stores) each;
        places = λ flash now content each.
            each_next (λ (x : Listed). Unit {0}) (IsStoreOf flash now) (IsStoreOf flash now)
            (λ x y i last is any here. record {
              index_is = index_same x y is table_rule flash.content now ∙ here.index_is;
              used_is = here.used_is ∙ sym (same.used_same x y is flash.content);
              clean = λ fresh. subst (λ (links : List Link). IsCleanBehind flash links last.used) (sym is.links) (here.clean fresh);
            })
            d.stores next.stores old.indexes old.lasts same_all (each_any next.stores) each;
        pages = λ image p there. sym (records_kept_in image p d.stores next.stores same_all) ∙ there;
        unlinked = λ block is. ap (λ (links : List Link). is_new block (map block_of links)) (links_kept d.stores next.stores same_all) ∙ is;
      }

  pub moved : (item : Instruction) (next : Directory) → StepsBy item d old.indexes next
      → HasMoved blocks old (record { directory = next; indexes = indexes_by d old.indexes item; lasts = lasts_by d old.indexes old.lasts item })
  moved (DeleteUpTo store t) next step = front_moved store t next step
  moved (Remove store) next step = store_moved store next step
  moved _ next step = stays_moved next step

-- none, and one after another

pub unmoved : (blocks : ℕ) (old : Stores) → HasMoved blocks old old
unmoved blocks old = record {
  sound = λ now each. each;
  places = λ flash now content each. each;
  pages = λ image p there. there;
  unlinked = λ block is. is;
}

pub moved_to : (blocks : ℕ) (old : Stores) (next last : Directory) (indexes : List TimeIndex) (lasts : List LastBlock) → last.stores ≡ next.stores
    → HasMoved blocks old (record { directory = next; indexes = indexes; lasts = lasts }) → HasMoved blocks old (record { directory = last; indexes = indexes; lasts = lasts })
moved_to blocks old next last indexes lasts stores first = record {
  sound = λ now each. subst (λ (l : List Listed). EachStore (IsSoundStore now) l indexes lasts) (sym stores) (first.sound now each);
  places = λ flash now content each. subst (λ (l : List Listed). EachStore (IsStoreOf flash now) l indexes lasts) (sym stores) (first.places flash now content each);
  pages = λ image p there. first.pages image p (ap (list_any (λ (x : Listed). in_store image p x.row x.links)) (sym stores) ∙ there);
  unlinked = λ block is. ap (λ (l : List Listed). is_new block (map block_of (all_links l))) stores ∙ first.unlinked block is;
}

pub moved_on : (blocks : ℕ) (old mid last : Stores) → HasMoved blocks old mid → HasMoved blocks mid last → HasMoved blocks old last
moved_on blocks old mid last first second = record {
  sound = λ now each. second.sound now (first.sound now each);
  places = λ flash now content each. second.places flash now content (first.places flash now content each);
  pages = λ image p there. first.pages image p (second.pages image p there);
  unlinked = λ block is. second.unlinked block (first.unlinked block is);
}
