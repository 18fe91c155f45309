use Rattle.std.proofs.Common.{[], map, ℕ, refl, sym, ap, ◌∙◌}
use Rattle.std.proofs.lemmas.Result.{on_ok_weaker}
use Rattle.std.proofs.lemmas.List.{append-nil}
use Rattle.ped_edges.specs.CodeEdges.{edge_of}
use Rattle.ped_graph.specs.HeldSelections.{asks}
use Rattle.ped_graph.specs.Held.{pair_by}
use Rattle.ped_graph.specs.CodeFacts.{framed_of}
use Rattle.ped_graph.proofs.EdgesAsked.{none_asked}
use Rattle.ped_graph.proofs.edges.push_asked.Goals as goal

pub returns-then-asks-clause-edges : goal.returns-then-asks-clause-edges
returns-then-asks-clause-edges g c = on_ok_weaker c.push_tested.result (λ (added, is, held). (added, is, (added, held, refl))) c.push_tested.ensures.edges

pub returns-clause-edges : goal.returns-clause-edges
returns-clause-edges g c = (
  [],
  sym (append-nil (map edge_of c.args.edges.now.items)),
  none_asked (asks c.args.question) (pair_by (framed_of c.args.facts.now) c.args.verdict.now)
      (λ e from to. c.asks.ensures e (ap (λ (place : ℕ × ℕ). place.0) from) (ap (λ (place : ℕ × ℕ). place.0) to) ∙ c.if-asks.false)
      c.has_list.ensures.few c.has_list.ensures.list,
)
