-- What a line comes to that is not bad.
use Rattle.std.specs.Prelude.{Option, Some, None}
use Rattle.session_text.specs.declared.form.Form.{Form}
use Rattle.session_text.specs.declared.lines.Passed.{Passed}
use Rattle.session_text.specs.declared.lines.Passed.TheVariants as passed

abbrev pub passed_by : Option Form → Passed
passed_by (Some form) = passed.Said form
passed_by None = passed.Nothing
