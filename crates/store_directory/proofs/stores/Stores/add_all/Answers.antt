use Rattle.std.proofs.Common.{◌++◌, ◌∷◌, [], List, sym, ap, ◌∙◌, append_assoc}
use Rattle.store_directory.specs.Directory.{Listed}
use Rattle.store_directory.specs.Spelled.{text_of}
use Rattle.store_directory.proofs.PutSlots.{own-sizes}
use Rattle.store_directory.proofs.stores.Stores.add_all.Goals as goal

pub loop-store-preserved : goal.loop-store-preserved
loop-store-preserved c =
    let adds = c.in_ok-add.ensures.ok in
    let store = text_of c.in-Some.store in
    let rest = c.next_store.new.self in (
      ap (λ (l : List Listed). l ++ rest) adds.stores
          ∙ append_assoc c.loop-store.self.stores (store ∷ []) rest
          ∙ ap (λ (l : List Listed). c.loop-store.self.stores ++ l) (sym c.in-Some.ensures.next)
          ∙ c.loop-store.invariant.0,
      λ own. own-sizes store c.loop-store.self c.add.new.self adds (c.loop-store.invariant.1 own),
    )
