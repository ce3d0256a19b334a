-- What a buffer of reports holds.
use Rattle.std.specs.Prelude.{ℕ, List}
use Rattle.report_lines.specs.declared.buffers.Buffers.{Buffers}

abbrev pub written_in : Buffers → List ℕ
written_in buffers = buffers.report.items
