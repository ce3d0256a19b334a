use Rattle.std.proofs.Common.{◌≡◌, ℕ, ◌+◌, ◌%◌, sym, ◌∙◌, ap, subst}
use Rattle.board.specs.Device.{Device}
use Rattle.board.specs.Flash.{IsImage}
use Rattle.board.proofs.Works.{tells_too}
use Rattle.image_table.specs.Standing.{HoldsTable}
use Rattle.pst_model.specs.Reports.{count_behind}
use Rattle.pst_model.specs.Table.{Table}
use Rattle.store_directory.specs.Changes.{Clock}
use Rattle.vault.proofs.Counted.{count_entered, count_is, report_becomes}
use Rattle.vault.proofs.Stopped.{image_holds}
use Rattle.vault.specs.Changing.{Becomes, with_report}
use Rattle.vault.specs.Memory.{InMemory, IsSound}
use Rattle.vault.specs.Standing.{StandsFor}
use Rattle.vault.proofs.vault.Vault.report.Given.{Over}
use Rattle.vault.proofs.vault.Vault.report.Goals as goal
use Rattle.vault.proofs.vault.Vault.report.Goals.{After-now}

-- the numbers of the change

now_is : (g : Over) (c : After-now g) → c.now.result ≡ c.args.self.now.directory.now
now_is g c = c.now.ensures.now ∙ ap (λ (v : InMemory). v.directory.now) c.self.view_is

reports_are : (g : Over) (c : After-now g) → (c.reports-reports.result + 1) % 16384 ≡ count_behind c.args.self.now.directory.reports 1
reports_are g c = ap (λ (n : ℕ). (n + 1) % 16384) (c.reports-reports.ensures.reports ∙ ap (λ (v : InMemory). v.directory.reports) c.self.view_is)

pub enter-requires-clause-can_be_entered : goal.enter-requires-clause-can_be_entered
enter-requires-clause-can_be_entered g c =
    let at = (goal.at.enter-requires-clause-can_be_entered g c).After-now in
    count_entered c.args.self.now.directory.directory c.now.result ((c.reports-reports.result + 1) % 16384) (now_is g at) (reports_are g at)

-- the table behind it
becomes : (g : Over) (c : After-now g) (table : Table) → StandsFor c.args.self.now (g.B.Board.means.flash c.args.board.now) table
    → Becomes c.args.self.now (Clock c.now.result ((c.reports-reports.result + 1) % 16384)) (g.B.Board.means.flash c.args.board.now) (with_report table)
becomes g c table stands =
    let is = c.self.view_is in
    let sound = subst IsSound is (c.self.invariant.1 (ap (λ (v : InMemory). v.is_open) is ∙ c.requires.is_open)) in
    report_becomes c.args.self.now (g.B.Board.means.flash c.args.board.now) table c.now.result ((c.reports-reports.result + 1) % 16384) sound stands
    (now_is g c) (reports_are g c)

pub returns-in-Ok-clause-any_moment : goal.returns-in-Ok-clause-any_moment
returns-in-Ok-clause-any_moment g c told table stands =
    c.enter.ensures.any_moment told table (with_report table) stands (becomes g (goal.at.returns-in-Ok-clause-any_moment g c).After-now table stands)

pub returns-in-Err-clause-any_moment : goal.returns-in-Err-clause-any_moment
returns-in-Err-clause-any_moment g c told table stands =
    c.enter.ensures.any_moment told table (with_report table) stands (becomes g (goal.at.returns-in-Err-clause-any_moment g c).After-now table stands)

pub returns-in-Ok-clause-stands : goal.returns-in-Ok-clause-stands
returns-in-Ok-clause-stands g c told table stands =
    c.in-Ok.ensures.stands told table (with_report table) stands (becomes g (goal.at.returns-in-Ok-clause-stands g c).After-now table stands)

pub returns-in-Ok-clause-holds : goal.returns-in-Ok-clause-holds
returns-in-Ok-clause-holds g c told table stands image left =
    let means = g.B.Board.means in
    let new = c.enter.new.board in
    let vault = c.enter.new.self in
    let same = c.enter.ensures.touches.same in
    let blocks : vault.blocks ≡ c.args.self.now.blocks = ap (λ (v : InMemory). v.blocks) c.in-Ok.ensures.after.others in
    subst (λ (n : ℕ). HoldsTable n (with_report table) image) blocks
    (image_holds vault (means.flash new) (with_report table) image c.in-Ok.ensures.sound
    (c.in-Ok.ensures.stands told table (with_report table) stands (becomes g (goal.at.returns-in-Ok-clause-holds g c).After-now table stands))
    (subst (λ (n : ℕ). IsImage n (means.flash new) image) (sym (blocks ∙ c.requires.blocks))
    (subst (λ (v : Device). IsImage v.blocks (means.flash new) image) same (g.met.B.Board.images_now new image (tells_too same told) left))))

pub returns-in-Ok-clause-after : goal.returns-in-Ok-clause-after
returns-in-Ok-clause-after g c =
    let at = (goal.at.returns-in-Ok-clause-after g c).After-now in
    record {
      others = c.in-Ok.ensures.after.others;
      directory =
          count_is c.args.self.now.directory.directory c.now.result ((c.reports-reports.result + 1) % 16384) (now_is g at) (reports_are g at)
          c.enter.new.self.directory.directory c.in-Ok.ensures.after.directory;
    }
