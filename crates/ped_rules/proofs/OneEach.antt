-- Each of the shared rules names one statement.
use Rattle.std.proofs.Common.{◌≡◌, ℕ, inl, inr, Bool, List, Some, sym, ◌∙◌, arith}
use Rattle.ped_tree.specs.Tree.{ExprTree, Head, StmtTrees, ProgramTree}
use Rattle.ped_loop_runs.specs.ped_flow.specs.Questions.{IsFirst, IsBrokenBy}
use Rattle.ped_rules.specs.Chains.{WhereLoop, Unless}
use Rattle.ped_rules.specs.Rules.{WhereNoLoop, WhereEscape, HasUnplain, WhereUnplain, WhereLimit}
use Rattle.ped_rules.proofs.Chains.{IsOne}

pub one_first : (P : ℕ → Type 0) (m n : ℕ) → IsFirst P (Some m) → IsFirst P (Some n) → m ≡ n
one_first P m n a b = let le = a.1 n b.0 in let ge = b.1 m a.0 in omega (arith, le, ge)

-- where it is asked at all
pub unless_one : (bad : Bool) (P : ℕ → Type 0) → IsOne P → IsOne (Unless bad P)
unless_one bad P one m n a b = one m n a.1 b.1

module _ (t : ProgramTree) (s : ℕ) where
  pub no_loop_one : IsOne (WhereNoLoop t s)
  no_loop_one m n a b = a.1 ∙ sym b.1

  pub loop_one : (test : Head → StmtTrees → Bool) → IsOne (WhereLoop t s test)
  loop_one test m n a b = a.2 ∙ sym b.2

  pub escape_one : IsOne (WhereEscape t s)
  escape_one m n (l, inl a) (k, inl b) = one_first (IsBrokenBy t s) m n a b
  escape_one m n (l, inl a) (k, inr b) = absurd (b.0.0 m a.0)
  escape_one m n (l, inr a) (k, inl b) = absurd (a.0.0 n b.0)
  escape_one m n (l, inr a) (k, inr b) = a.1 ∙ sym b.1

  pub unplain_one : (Asked : ℕ → ExprTree → Type 0) → IsOne (WhereUnplain t s Asked)
  unplain_one Asked m n a b = one_first (HasUnplain t Asked) m n a.1 b.1

  pub limit_one : (Makes : ProgramTree → ProgramTree → List (ℕ × ℕ) → Type 0) → IsOne (WhereLimit Makes t s)
  limit_one Makes m n a b = a.2 ∙ sym b.2
