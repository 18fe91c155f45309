-- A statement is one DO: what is asked of the DO with a number is asked of the one that is known.
use Rattle.std.proofs.Common.{◌≡◌, ℕ, Bool, true, false, ◌∙◌}
use Rattle.std.proofs.lemmas.Bool.{both_ways}
use Rattle.ped_tree.specs.Tree.{Head, StmtTrees, ProgramTree}
use Rattle.ped_loop_runs.specs.ped_flow.specs.Questions.{IsLoop, LoopOf}
use Rattle.ped_loop_runs.specs.ped_flow.proofs.Answering.{same_head, same_body}
use Rattle.ped_rules.specs.Chains.{WhereLoop}

-- a statement is one DO
pub one_loop : (t : ProgramTree) (s : ℕ) (l m : LoopOf t s) → (l.head ≡ m.head) × (l.body ≡ m.body)
one_loop t s l m = (same_head t s l.head m.head l.body m.body l.is m.is, same_body t s l.head m.head l.body m.body l.is m.is)

-- a test of a DO that fails there
pub fails_there : (t : ProgramTree) (s : ℕ) (h : Head) (body : StmtTrees) → IsLoop t s h body → (test : Head → StmtTrees → Bool) → test h body ≡ false → (n : ℕ) → WhereLoop t s test n → ⊥
fails_there t s h body is test fails n p =
    let same = one_loop t s p.0 (record { head = h; body = body; is = is }) in both_ways (test p.0.head p.0.body) ((λ i. test (same.0 i) (same.1 i)) ∙ fails) p.1
