-- What a store does with a packet that arrives, as the model has it.
use Rattle.std.specs.Prelude.{◌≡◌, ℕ, false}
use Rattle.pst_model.specs.Arrivals.{is_offered}
use Rattle.pst_model.specs.Rules.{free_of}
use Rattle.pst_model.specs.Table.{Store, Stored}
use Rattle.put_laws.specs.Puts.{Accepts, Refuses, need_of}
use Rattle.store_put.specs.declared.plan.Plan.{Plan}
use Rattle.store_put.specs.declared.plan.Plan.TheVariants as plans

-- A plan is what the model's store does with a packet. A refusal tells the pages.
abbrev pub IsPlanOf : Stored → Store → Plan → Type 0
IsPlanOf stored store plans.Stays = is_offered stored.octets store ≡ false
IsPlanOf stored store (plans.Refuses full) =
    Refuses store stored × (full.need ≡ need_of stored) × (full.free ≡ free_of store)
IsPlanOf stored store (plans.Takes gone) = Accepts store stored gone

-- how many packets leave the front
abbrev pub leaving_of : Plan → ℕ
leaving_of plans.Stays = 0
leaving_of (plans.Refuses full) = 0
leaving_of (plans.Takes gone) = gone
