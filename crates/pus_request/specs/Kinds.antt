-- The kinds of request that the code knows, as rows of the table.
use Rattle.std.specs.Prelude.{ℕ, [], unwrap_or}
use Rattle.control_defs.specs.declared.instructions.Instruction.TheVariants.{Status}
use Rattle.pst_model.specs.Layouts.{RequestKind, alone, kind_in}
use Rattle.pus_request.specs.declared.kinds.Kind.{Kind}
use Rattle.pus_request.specs.declared.kinds.Kind.TheVariants as variants

-- the service type and the message subtype of a kind
abbrev pub asked_by : Kind → ℕ × ℕ
asked_by variants.ForwardAdd = (14, 1)
asked_by variants.ForwardDelete = (14, 2)
asked_by variants.ForwardReport = (14, 3)
asked_by variants.Enable = (15, 1)
asked_by variants.Disable = (15, 2)
asked_by variants.AddTypes = (15, 3)
asked_by variants.DeleteTypes = (15, 4)
asked_by variants.ReportTypes = (15, 5)
asked_by variants.StartRange = (15, 9)
asked_by variants.DeleteUpTo = (15, 11)
asked_by variants.Summary = (15, 12)
asked_by variants.OpenFrom = (15, 14)
asked_by variants.Resume = (15, 15)
asked_by variants.Suspend = (15, 16)
asked_by variants.Abort = (15, 17)
asked_by variants.Status = (15, 18)
asked_by variants.Create = (15, 20)
asked_by variants.Remove = (15, 21)
asked_by variants.Configuration = (15, 22)
asked_by variants.Copy = (15, 24)
asked_by variants.Resize = (15, 25)
asked_by variants.ToCircular = (15, 26)
asked_by variants.ToBounded = (15, 27)
asked_by variants.Channel = (15, 28)

-- the row of the table
abbrev pub row_of : Kind → RequestKind
row_of kind =
    unwrap_or (kind_in (asked_by kind).0 (asked_by kind).1) (alone 0 0 [] (λ item. Status))
