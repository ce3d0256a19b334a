use Rattle.std.proofs.Common.{◌≡◌, ℕ, List, [], ◌∷◌, drop, length, take, sym, ◌∙◌, ap}
use Rattle.std.proofs.Math.Seq.{take-append_seam}
use Rattle.control_defs.specs.declared.patterns.Pattern.{Pattern}
use Rattle.pst_model.specs.Reports.{report_packet, types_report}
use Rattle.report_lines.proofs.Looks.{types-at, types-none}
use Rattle.report_lines.proofs.content.write_types_of.Goals as goal

pub returns-in_default-clause-none : goal.returns-in_default-clause-none
returns-in_default-clause-none c table shown =
    types-none c.args.view.now c.args.store table shown (sym c.in_default.is ∙ c.find.ensures.place)

pub returns-clause-some : goal.returns-clause-some
returns-clause-some c table shown =
    let patterns = c.list.result.now in
    let packet = report_packet c.args.head.count c.args.head.moment (types_report c.args.store patterns) in
    record {
      report = types_report c.args.store patterns;
      only = types-at c.args.view.now c.args.store table shown c.in-Some.at c.patterns-patterns.result.now (sym c.in-Some.is ∙ c.find.ensures.place) c.patterns-patterns.ensures
          ∙ ap (λ (l : List Pattern). types_report c.args.store l ∷ []) (sym c.list.ensures.list);
      written =
          ap (λ (n : ℕ). take n c.write_types.new.out) c.write_types.ensures.length
          ∙ ap (take (length packet)) c.write_types.ensures.report
          ∙ take-append_seam packet (drop (length packet) c.args.out.now);
      short = c.write_types.ensures.short;
    }
