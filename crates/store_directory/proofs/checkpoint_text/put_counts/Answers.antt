use Rattle.std.proofs.Common.{refl}
use Rattle.byteorder.specs.Numbers.{length-bytes_high_first}
use Rattle.octet_fields.specs.Fields.{big_bytes}
use Rattle.octet_fields.proofs.Rows.{Listed-more}
use Rattle.store_directory.proofs.checkpoint_text.put_counts.Goals as goal

pub loop-count-preserved : goal.loop-count-preserved
loop-count-preserved c =
    Listed-more (big_bytes 4) 4 (length-bytes_high_first 4) c.args.counts.now 0 c.loop-count-test.true c.loop-count.invariant c.put_u32.ensures refl
