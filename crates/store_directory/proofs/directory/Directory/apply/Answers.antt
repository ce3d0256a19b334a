use Rattle.std.proofs.Common.{ap, ◌∙◌, sym}
use Rattle.std.proofs.lemmas.Result.{on_err_weaker, on_ok_weaker}
use Rattle.store_directory.specs.Changes.{Forward, Gone, Links, Put, Swap, Types, apply, change_store, put_row, remove_store, with_last, with_links, with_types}
use Rattle.store_directory.specs.Kept.{change_of}
use Rattle.store_directory.proofs.Applied.{directory_of, forward-none, forward-some, never-memory, on-ok, on-unfit, with-none, with-some}
use Rattle.store_directory.proofs.directory.Directory.apply.Goals as goal

-- Put

pub returns-in-Put-clause-ok : goal.returns-in-Put-clause-ok
unfolding apply
returns-in-Put-clause-ok c =
    on_ok_weaker c.put.result (
    λ is.
    ap (λ (ch : _). apply c.args.self.now.directory (change_of ch)) c.in-Put.is
    ∙ ap (λ k. apply k.directory (Put c.in-Put.row)) (sym c.self.view_is)
    ∙ with-some (directory_of c.self.inside.time c.self.inside.reports c.self.inside.forward c.self.inside.stores.stores) (put_row c.in-Put.row c.self.inside.stores.stores) _ is.stores
    ) c.put.ensures.ok

pub returns-in-Put-clause-unfit : goal.returns-in-Put-clause-unfit
unfolding apply
returns-in-Put-clause-unfit c unfit =
    ap (λ (ch : _). apply c.args.self.now.directory (change_of ch)) c.in-Put.is
    ∙ ap (λ k. apply k.directory (Put c.in-Put.row)) (sym c.self.view_is)
    ∙ with-none (directory_of c.self.inside.time c.self.inside.reports c.self.inside.forward c.self.inside.stores.stores) (put_row c.in-Put.row c.self.inside.stores.stores) (c.put.ensures.unfit unfit)

-- Clock

pub returns-in-Clock-clause-memory : goal.returns-in-Clock-clause-memory
returns-in-Clock-clause-memory c = never-memory c.fault_of.result _ c.fault_of.ensures.unfit

-- Forward

pub returns-in-Forward-clause-ok : goal.returns-in-Forward-clause-ok
unfolding apply
returns-in-Forward-clause-ok c =
    on-ok c.change_patterns.result c.fault_of-in-Forward.result _ c.fault_of-in-Forward.ensures.same (on_ok_weaker c.change_patterns.result (
    λ is.
    ap (λ (ch : _). apply c.args.self.now.directory (change_of ch)) c.in-Forward.is
    ∙ ap (λ k. apply k.directory (Forward c.in-Forward.add c.in-Forward.pattern)) (sym c.self-in-Forward.view_is)
    ∙ forward-some (directory_of c.self-in-Forward.inside.time c.self-in-Forward.inside.reports c.self-in-Forward.inside.forward c.self-in-Forward.inside.stores.stores) c.in-Forward.add c.in-Forward.pattern _ is
    ) c.change_patterns.ensures.ok)

pub returns-in-Forward-clause-unfit : goal.returns-in-Forward-clause-unfit
unfolding apply
returns-in-Forward-clause-unfit c =
    on-unfit c.change_patterns.result c.fault_of-in-Forward.result _ c.fault_of-in-Forward.ensures.same (on_err_weaker c.change_patterns.result (
    λ err.
    ap (λ (ch : _). apply c.args.self.now.directory (change_of ch)) c.in-Forward.is
    ∙ ap (λ k. apply k.directory (Forward c.in-Forward.add c.in-Forward.pattern)) (sym c.self-in-Forward.view_is)
    ∙ forward-none (directory_of c.self-in-Forward.inside.time c.self-in-Forward.inside.reports c.self-in-Forward.inside.forward c.self-in-Forward.inside.stores.stores) c.in-Forward.add c.in-Forward.pattern err.0
    ) c.change_patterns.ensures.err)

pub returns-in-Forward-clause-memory : goal.returns-in-Forward-clause-memory
returns-in-Forward-clause-memory c = never-memory c.fault_of-in-Forward.result _ c.fault_of-in-Forward.ensures.unfit

-- Gone

pub returns-in-Gone-clause-ok : goal.returns-in-Gone-clause-ok
unfolding apply
returns-in-Gone-clause-ok c =
    on-ok c.remove.result c.fault_of-in-Gone.result _ c.fault_of-in-Gone.ensures.same (on_ok_weaker c.remove.result (
    λ is.
    ap (λ (ch : _). apply c.args.self.now.directory (change_of ch)) c.in-Gone.is
    ∙ ap (λ k. apply k.directory (Gone c.in-Gone.store)) (sym c.self-in-Gone.view_is)
    ∙ with-some (directory_of c.self-in-Gone.inside.time c.self-in-Gone.inside.reports c.self-in-Gone.inside.forward c.self-in-Gone.inside.stores.stores) (remove_store c.in-Gone.store c.self-in-Gone.inside.stores.stores) _ is
    ) c.remove.ensures.ok)

pub returns-in-Gone-clause-unfit : goal.returns-in-Gone-clause-unfit
unfolding apply
returns-in-Gone-clause-unfit c =
    on-unfit c.remove.result c.fault_of-in-Gone.result _ c.fault_of-in-Gone.ensures.same (on_err_weaker c.remove.result (
    λ err.
    ap (λ (ch : _). apply c.args.self.now.directory (change_of ch)) c.in-Gone.is
    ∙ ap (λ k. apply k.directory (Gone c.in-Gone.store)) (sym c.self-in-Gone.view_is)
    ∙ with-none (directory_of c.self-in-Gone.inside.time c.self-in-Gone.inside.reports c.self-in-Gone.inside.forward c.self-in-Gone.inside.stores.stores) (remove_store c.in-Gone.store c.self-in-Gone.inside.stores.stores) err.0
    ) c.remove.ensures.err)

pub returns-in-Gone-clause-memory : goal.returns-in-Gone-clause-memory
returns-in-Gone-clause-memory c = never-memory c.fault_of-in-Gone.result _ c.fault_of-in-Gone.ensures.unfit

-- Types

pub returns-in-Types-clause-ok : goal.returns-in-Types-clause-ok
unfolding apply
returns-in-Types-clause-ok c =
    on-ok c.change_types.result c.fault_of-in-Types.result _ c.fault_of-in-Types.ensures.same (on_ok_weaker c.change_types.result (
    λ is.
    ap (λ (ch : _). apply c.args.self.now.directory (change_of ch)) c.in-Types.is
    ∙ ap (λ k. apply k.directory (Types c.in-Types.store c.in-Types.add c.in-Types.pattern)) (sym c.self-in-Types.view_is)
    ∙ with-some (directory_of c.self-in-Types.inside.time c.self-in-Types.inside.reports c.self-in-Types.inside.forward c.self-in-Types.inside.stores.stores) (change_store c.in-Types.store (with_types c.in-Types.add c.in-Types.pattern) c.self-in-Types.inside.stores.stores) _ is
    ) c.change_types.ensures.ok)

pub returns-in-Types-clause-unfit : goal.returns-in-Types-clause-unfit
unfolding apply
returns-in-Types-clause-unfit c =
    on-unfit c.change_types.result c.fault_of-in-Types.result _ c.fault_of-in-Types.ensures.same (on_err_weaker c.change_types.result (
    λ err.
    ap (λ (ch : _). apply c.args.self.now.directory (change_of ch)) c.in-Types.is
    ∙ ap (λ k. apply k.directory (Types c.in-Types.store c.in-Types.add c.in-Types.pattern)) (sym c.self-in-Types.view_is)
    ∙ with-none (directory_of c.self-in-Types.inside.time c.self-in-Types.inside.reports c.self-in-Types.inside.forward c.self-in-Types.inside.stores.stores) (change_store c.in-Types.store (with_types c.in-Types.add c.in-Types.pattern) c.self-in-Types.inside.stores.stores) err.0
    ) c.change_types.ensures.err)

pub returns-in-Types-clause-memory : goal.returns-in-Types-clause-memory
returns-in-Types-clause-memory c = never-memory c.fault_of-in-Types.result _ c.fault_of-in-Types.ensures.unfit

-- Links

pub returns-in-Links-clause-ok : goal.returns-in-Links-clause-ok
unfolding apply
returns-in-Links-clause-ok c =
    on-ok c.append.result c.fault_of-in-Links.result _ c.fault_of-in-Links.ensures.same (on_ok_weaker c.append.result (
    λ is.
    ap (λ (ch : _). apply c.args.self.now.directory (change_of ch)) c.in-Links.is
    ∙ ap (λ k. apply k.directory (Links c.in-Links.store c.in-Links.links.now)) (sym c.self-in-Links.view_is)
    ∙ with-some (directory_of c.self-in-Links.inside.time c.self-in-Links.inside.reports c.self-in-Links.inside.forward c.self-in-Links.inside.stores.stores) (change_store c.in-Links.store (with_links c.in-Links.links.now) c.self-in-Links.inside.stores.stores) _ is
    ) c.append.ensures.ok)

pub returns-in-Links-clause-unfit : goal.returns-in-Links-clause-unfit
unfolding apply
returns-in-Links-clause-unfit c =
    on-unfit c.append.result c.fault_of-in-Links.result _ c.fault_of-in-Links.ensures.same (on_err_weaker c.append.result (
    λ err.
    ap (λ (ch : _). apply c.args.self.now.directory (change_of ch)) c.in-Links.is
    ∙ ap (λ k. apply k.directory (Links c.in-Links.store c.in-Links.links.now)) (sym c.self-in-Links.view_is)
    ∙ with-none (directory_of c.self-in-Links.inside.time c.self-in-Links.inside.reports c.self-in-Links.inside.forward c.self-in-Links.inside.stores.stores) (change_store c.in-Links.store (with_links c.in-Links.links.now) c.self-in-Links.inside.stores.stores) err.0
    ) c.append.ensures.err)

pub returns-in-Links-clause-memory : goal.returns-in-Links-clause-memory
returns-in-Links-clause-memory c = never-memory c.fault_of-in-Links.result _ c.fault_of-in-Links.ensures.unfit

-- Swap

pub returns-in-Swap-clause-ok : goal.returns-in-Swap-clause-ok
unfolding apply
returns-in-Swap-clause-ok c =
    on-ok c.swap_last.result c.fault_of-in-Swap.result _ c.fault_of-in-Swap.ensures.same (on_ok_weaker c.swap_last.result (
    λ is.
    ap (λ (ch : _). apply c.args.self.now.directory (change_of ch)) c.in-Swap.is
    ∙ ap (λ k. apply k.directory (Swap c.in-Swap.store (record { block = c.in-Swap.block; first = c.in-Swap.first }))) (sym c.self-in-Swap.view_is)
    ∙ with-some (directory_of c.self-in-Swap.inside.time c.self-in-Swap.inside.reports c.self-in-Swap.inside.forward c.self-in-Swap.inside.stores.stores) (change_store c.in-Swap.store (with_last (record { block = c.in-Swap.block; first = c.in-Swap.first })) c.self-in-Swap.inside.stores.stores) _ is
    ) c.swap_last.ensures.ok)

pub returns-in-Swap-clause-unfit : goal.returns-in-Swap-clause-unfit
unfolding apply
returns-in-Swap-clause-unfit c =
    on-unfit c.swap_last.result c.fault_of-in-Swap.result _ c.fault_of-in-Swap.ensures.same (on_err_weaker c.swap_last.result (
    λ err.
    ap (λ (ch : _). apply c.args.self.now.directory (change_of ch)) c.in-Swap.is
    ∙ ap (λ k. apply k.directory (Swap c.in-Swap.store (record { block = c.in-Swap.block; first = c.in-Swap.first }))) (sym c.self-in-Swap.view_is)
    ∙ with-none (directory_of c.self-in-Swap.inside.time c.self-in-Swap.inside.reports c.self-in-Swap.inside.forward c.self-in-Swap.inside.stores.stores) (change_store c.in-Swap.store (with_last (record { block = c.in-Swap.block; first = c.in-Swap.first })) c.self-in-Swap.inside.stores.stores) err.0
    ) c.swap_last.ensures.err)

pub returns-in-Swap-clause-memory : goal.returns-in-Swap-clause-memory
returns-in-Swap-clause-memory c = never-memory c.fault_of-in-Swap.result _ c.fault_of-in-Swap.ensures.unfit
