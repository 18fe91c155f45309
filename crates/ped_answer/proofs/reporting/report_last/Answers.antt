use Rattle.std.proofs.Common.{ℕ, ◌++◌, length, codes, ap, ◌∙◌}
use Rattle.ped_session.specs.ped_rules.specs.ped_eval.specs.OutcomeViews.{outcome_view}
use Rattle.ped_answer.specs.Generated.{figure_line}
use Rattle.ped_answer.proofs.Reports.{eight_lines, of_last}
use Rattle.ped_answer.proofs.reporting.report_last.Goals as goal

pub returns : goal.returns
returns g c = λ last reads.
    let word = c.in_ok-push_runs.ensures in
    record {
      ended = outcome_view c.in_ok-last.last;
      runs = c.in_ok-last.ensures.outcome last reads;
      word = word.0;
      word_on = word.1;
      says = λ edges are.
          of_last c.args.size last c.statements.result c.pairs.result c.args.tally.accepted c.args.tally.refused c.args.tally.tested c.in_ok-edges.edges (length edges) word.0 _
          (c.statements.ensures last reads) (c.pairs.ensures last reads) (c.in_ok-edges.ensures last reads edges are)
          (eight_lines c.args.size c.statements.result c.pairs.result c.args.tally.accepted c.args.tally.refused c.args.tally.tested c.in_ok-edges.edges word.0 _ _ _ _ _ _ _ _ _
          c.new-out.ensures (c.in_ok-push_figure.ensures ∙ ap (λ (k : ℕ). c.new-out.result ++ figure_line (codes "generated") k) c.from.ensures) c.in_ok-push_figure-2.ensures c.in_ok-push_figure-3.ensures c.in_ok-push_figure-4.ensures c.in_ok-push_figure-5.ensures c.in_ok-push_tested.ensures c.in_ok-push_figure-6.ensures word.2);
    }
