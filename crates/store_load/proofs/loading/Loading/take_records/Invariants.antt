use Rattle.std.proofs.Common.{◌≡◌, ◌+◌, length}
use Rattle.record_view.specs.Records.{records_left}
use Rattle.store_load.specs.Extents.{pages_in}
use Rattle.store_load.specs.Loading.{take_records}
use Rattle.store_load.proofs.loading.Loading.take_records.Given as goal

abbrev pub invariant-loop-view : goal.invariant-loop-view
invariant-loop-view l = record {
  at : l.page ≡ l.records.page;
  size : l.self.index.size ≡ l.limits.size;
  rest : take_records l.limits l.block l.records.page (records_left l.records) l.self
      ≡ take_records l.limits l.block l.initial.records.page (records_left l.initial.records) l.initial.self;
  left : l.records.left + length (records_left l.initial.records) ≡ l.initial.records.left + length (records_left l.records);
  pages : l.records.page + pages_in (records_left l.records) ≡ l.initial.records.page + pages_in (records_left l.initial.records);
}

abbrev pub decreases-loop-view : goal.decreases-loop-view
decreases-loop-view l = length (records_left l.records)
