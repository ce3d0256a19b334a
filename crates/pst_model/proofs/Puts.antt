-- How many packets leave the front of a store, and what a circular store refuses.
use Rattle.std.proofs.Common.{◌≡◌, ◌≤◌, ℕ, false, length, ap, arith}
use Rattle.std.proofs.lemmas.Bool.{le-leb, le-ltb, or_from}
use Rattle.std.proofs.lemmas.List.{drop_all}
use Rattle.std.specs.Prelude.{◌&&◌, nat_lt}
use Rattle.control_defs.specs.declared.instructions.StoreKind.{StoreKind}
use Rattle.control_defs.specs.declared.instructions.StoreKind.TheVariants.{Circular}
use Rattle.pst_model.specs.Least.{IsLeast}
use Rattle.pst_model.specs.Rules.{free_of, has_room, is_bounded, is_refused, to_drop}
use Rattle.pst_model.specs.Table.{Store, content_in}
use Rattle.pst_model.proofs.Leasts.{least-least}

-- the fewest packets leave that have to
pub to_drop-least : (store : Store) (need : ℕ) → need ≤ store.size → IsLeast (has_room store need) (to_drop store need)
to_drop-least store need fits =
    least-least (has_room store need) (length store.packets)
    (le-leb _ _ (omega (arith, ap content_in (drop_all (length store.packets) store.packets (omega arith)))))

-- a circular store refuses what exceeds its size alone
pub circular-not_refused : (store : Store) (need : ℕ) → store.kind ≡ Circular → need ≤ store.size → is_refused store need ≡ false
circular-not_refused store need circular le =
    or_from (nat_lt store.size need) (is_bounded store.kind && nat_lt (free_of store) need) (le-ltb store.size need le)
    (ap (λ (kind : StoreKind). is_bounded kind && nat_lt (free_of store) need) circular)
