use Rattle.std.proofs.Common.{◌≡◌, ℕ, ◌+◌, List, Option, ap, subst, ◌∙◌, arith}
use Rattle.ped_tree.specs.Numbering.{statements_count}
use Rattle.ped_tree.specs.Views.{program_tree, stmt_trees}
use Rattle.ped_tree.specs.declared.statements.Stmt.{Stmt}
use Rattle.ped_refs.specs.References.{references, pairs}
use Rattle.ped_edges.specs.declared.edges.Edge.{Edge as CodeEdge}
use Rattle.ped_splits.specs.declared.returning.Bodies.{Bodies}
use Rattle.ped_splits.specs.CodeFusing.{bodies_of, IsFirstBack}
use Rattle.ped_splits.proofs.DistributeAnswers.{ok_by}
use Rattle.ped_splits.proofs.returning.first_back.Goals as goal

pub first_among-requires : goal.first_among-requires
first_among-requires c =
    let next = c.next_number-second.ensures in
    let count = c.count_statements.ensures ∙ ap (λ (xs : List Stmt). statements_count (stmt_trees xs)) c.deref.ensures.value in
    let few = c.requires.few in
    record {
      held = (program_tree c.args.new.now, c.in_ok-prepared.ensures);
      order = omega (arith, next);
      second = omega (arith, next, few);
      behind = omega (arith, next, count, few);
    }

pub returns : goal.returns
returns c =
    let u = program_tree c.args.new.now in
    let p = c.args.pair.now in
    let level = c.args.level in
    let made : ℕ → ℕ → Bodies = λ second count. record { number = p.number; second = second; behind = second + count; level = level } in
    let count = c.count_statements.ensures ∙ ap (λ (xs : List Stmt). statements_count (stmt_trees xs)) c.deref.ensures.value in
    let same : made c.next_number-second.result c.count_statements.result ≡ bodies_of p level = λ i. made (c.next_number-second.ensures i) (count i) in
    ok_by (λ r. (v : _) → c.in_ok-prepared.prepared ≡ _ → IsFirstBack v (made c.next_number-second.result c.count_statements.result) (pairs (references v)) r) (λ (r : Option CodeEdge). IsFirstBack u (bodies_of p level) (pairs (references u)) r) c.first_among.result
    (λ r h. subst (λ (b : Bodies). IsFirstBack u b (pairs (references u)) r) same (h u c.in_ok-prepared.ensures)) c.first_among.ensures
