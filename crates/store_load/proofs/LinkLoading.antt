-- What the records that a block gave say of its extent.
use Rattle.std.proofs.Common.{◌≡◌, ◌≤◌, ℕ, List, length, Some, None, Result, Ok, Err, sym, ◌∙◌, ap, subst}
use Rattle.std.specs.Prelude.{IfOk}
use Rattle.record_view.specs.Records.{Meaning, Reading, records_from, records_left}
use Rattle.chain_log.specs.Pages.{block_octets}
use Rattle.store_load.specs.Extents.{Extent, all_records, pages_in, read_extent}
use Rattle.store_load.specs.Loading.{IsLoaded, IsRefused, OnUnlawful, Progress, take_records}
use Rattle.store_load.specs.declared.loading.Limits.{Limits}
use Rattle.store_load.specs.declared.stop.LoadStop.{LoadStop}
use Rattle.store_load.specs.declared.stop.LoadStop.TheVariants.{Flash, Unlawful, NoMemory}
use Rattle.store_load.proofs.Records.{all_read, read_all}

module _ (limits : Limits) (told : Type 0) (image : ℕ → List ℕ) (extent : Extent) (reading : Reading)
    (old : Progress)
    (block : told → reading.block ≡ block_octets image extent.block) (long : length reading.block ≡ 65536)
    (asked : reading ≡ record { block = reading.block; number = extent.first; left = extent.count; page = 0 }) where
  -- what was asked for of the block
  left_is : records_left reading ≡ records_from extent.count reading.block extent.first 0
  left_is = ap records_left asked

  count_is : reading.left ≡ extent.count
  count_is = ap (λ (r : Reading). r.left) asked

  pub loaded_of : (new : Progress) (result : Result ℕ LoadStop)
      → IfOk result (λ used. (take_records limits extent.block 0 (records_left reading) old ≡ Some new)
      × (length (records_left reading) ≡ reading.left)
      × (used ≡ pages_in (records_left reading)) × (used ≤ 256))
      → IfOk result (IsLoaded limits told image extent old new)
  unfolding read_extent
  loaded_of new (Err stop) kept = tt
  loaded_of new (Ok used) (taken, many, used_is, within) = record {
    records = records_left reading;
    given = record {
      block = reading.block;
      whole = long;
      spelled = read_all reading.block extent.count extent.first 0 (records_left reading)
          (record { are = sym left_is; many = many ∙ count_is });
    };
    read = λ tells.
        subst (λ (b : List ℕ). all_records b extent.count extent.first 0 ≡ Some (records_left reading)) (block tells)
        (read_all reading.block extent.count extent.first 0 (records_left reading)
        (record { are = sym left_is; many = many ∙ count_is }));
    used_is = used_is;
    within = within;
    taken = taken;
  }

  pub refused_of : (result : Result ℕ LoadStop)
      → OnUnlawful result ((length (records_left reading) ≡ reading.left)
      → (take_records limits extent.block 0 (records_left reading) old ≡ None))
      → OnUnlawful result (told → IsRefused limits image extent old)
  unfolding read_extent
  refused_of (Ok used) kept = tt
  refused_of (Err Flash) kept = tt
  refused_of (Err NoMemory) kept = tt
  refused_of (Err Unlawful) kept = λ tells records is.
      let whole = all_read reading.block extent.count extent.first 0 records
      (subst (λ (b : List ℕ). all_records b extent.count extent.first 0 ≡ Some records) (sym (block tells)) is) in
      let same = left_is ∙ whole.are in
      ap (λ (r : List Meaning). take_records limits extent.block 0 r old) (sym same)
      ∙ kept (ap length same ∙ whole.many ∙ sym count_is)
