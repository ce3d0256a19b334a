use Rattle.std.proofs.Common.{ap, ◌∙◌, sym}
use Rattle.std.proofs.lemmas.Result.{on_err_weaker, on_ok_weaker}
use Rattle.store_directory.specs.Changes.{Links, apply, change_store, with_links}
use Rattle.store_directory.specs.Spelled.{meaning_of}
use Rattle.store_directory.proofs.Applied.{directory_of, on-ok, on-unfit, with-none, with-some}
use Rattle.store_directory.proofs.directory.Directory.make.Goals as goal

pub returns-in-Links-clause-ok : goal.returns-in-Links-clause-ok
unfolding apply
returns-in-Links-clause-ok c =
    on-ok c.append.result c.fault_of.result _ c.fault_of.ensures.same (on_ok_weaker c.append.result (
    λ is.
    ap (λ (ch : _). apply c.args.self.now.directory (meaning_of ch)) c.in-Links.is
    ∙ ap (λ k. apply k.directory (Links c.in-Links.store c.in-Links.links)) (sym c.self.view_is)
    ∙ with-some (directory_of c.self.inside.time c.self.inside.reports c.self.inside.forward c.self.inside.stores.stores) (change_store c.in-Links.store (with_links c.in-Links.links) c.self.inside.stores.stores) _ is
    ) c.append.ensures.ok)

pub returns-in-Links-clause-unfit : goal.returns-in-Links-clause-unfit
unfolding apply
returns-in-Links-clause-unfit c =
    on-unfit c.append.result c.fault_of.result _ c.fault_of.ensures.same (on_err_weaker c.append.result (
    λ err.
    ap (λ (ch : _). apply c.args.self.now.directory (meaning_of ch)) c.in-Links.is
    ∙ ap (λ k. apply k.directory (Links c.in-Links.store c.in-Links.links)) (sym c.self.view_is)
    ∙ with-none (directory_of c.self.inside.time c.self.inside.reports c.self.inside.forward c.self.inside.stores.stores) (change_store c.in-Links.store (with_links c.in-Links.links) c.self.inside.stores.stores) err.0
    ) c.append.ensures.err)
