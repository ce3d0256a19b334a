use Rattle.std.proofs.Common.{◌≡◌, ◌==◌, ◌&&◌, ℕ, Bool, true, false, Option, Some, None, refl, ◌∙◌}
use mathlib.Core.Bool.{beq}
use Rattle.std.specs.Option.{option_eq}
use Rattle.std.proofs.lemmas.Bool.Decides.{Decides-at}
use Rattle.control_defs.specs.contracts.instructions.StoreKindPartialEq.TheImpl.{eq-value as kind_eq}
use Rattle.control_defs.specs.declared.instructions.StoreKind.{StoreKind}
use Rattle.control_defs.specs.declared.instructions.StoreKind.TheVariants.{Bounded, Circular}
use Rattle.store_directory.specs.contracts.row.RowPartialEq.TheImpl.{eq-value}
use Rattle.store_directory.specs.declared.row.Row.{Row}
use Rattle.store_directory.specs.Same.{same_flag, same_kind, same_range, same_row}
use Rattle.store_directory.proofs.Sames.{rows_decided}
use Rattle.store_directory.proofs.sameness.same_row.Goals as goal

kinds : (a b : StoreKind) → kind_eq.it a b ≡ same_kind a b
kinds Circular Circular = refl
kinds Bounded Bounded = refl
kinds _ _ = refl

flags : (a b : Bool) → beq a b ≡ same_flag a b
flags true true = refl
flags true false = refl
flags false true = refl
flags false false = refl

ranges : (a b : Option (ℕ × ℕ)) → option_eq (λ (x y : ℕ × ℕ). x.0 == y.0 && x.1 == y.1) a b ≡ same_range a b
ranges None None = refl
ranges None (Some y) = refl
ranges (Some x) None = refl
ranges (Some x) (Some y) = refl

-- eleven tests, in three groups
grouped : (a b c d e f g h i j k : Bool) → (a && (b && (c && (d && (e && (f && (g && (h && (i && (j && k))))))))))
    ≡ ((a && b && c && d) && (e && f && g) && (h && i && j && k))
grouped false b c d e f g h i j k = refl
grouped true false c d e f g h i j k = refl
grouped true true false d e f g h i j k = refl
grouped true true true false e f g h i j k = refl
grouped true true true true false f g h i j k = refl
grouped true true true true true false g h i j k = refl
grouped true true true true true true false h i j k = refl
grouped true true true true true true true false i j k = refl
grouped true true true true true true true true false j k = refl
grouped true true true true true true true true true false k = refl
grouped true true true true true true true true true true k = refl

compared : (a b : Row) → eq-value.it a b ≡ same_row a b
compared a b =
    (λ i. (a.identifier == b.identifier) && (kinds a.kind b.kind i && ((a.size == b.size) && ((a.channel == b.channel)
    && (flags a.storage b.storage i && (flags a.open_on b.open_on i && (flags a.told b.told i
    && ((a.first == b.first) && ((a.count == b.count) && ((a.behind == b.behind) && ranges a.range b.range i))))))))))
    ∙ grouped (a.identifier == b.identifier) (same_kind a.kind b.kind) (a.size == b.size) (a.channel == b.channel)
    (same_flag a.storage b.storage) (same_flag a.open_on b.open_on) (same_flag a.told b.told)
    (a.first == b.first) (a.count == b.count) (a.behind == b.behind) (same_range a.range b.range)

pub returns : goal.returns
returns c = Decides-at c.eq.result (same_row c.args.row.now c.args.other.now) (c.eq.ensures ∙ compared c.args.row.now c.args.other.now) (rows_decided c.args.row.now c.args.other.now)
