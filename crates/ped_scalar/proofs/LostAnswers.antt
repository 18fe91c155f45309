-- By which statement a scalar would be lost, and whether it is live after a DO.
use Rattle.std.proofs.Common.{ℕ, List, true, false, inl, inr, Option, Some, None, MatchOption, IsTrue, refl}
use Rattle.ped_tree.specs.Tree.{ProgramTree}
use Rattle.ped_rules.specs.ped_flow.specs.Questions.{IsFirst, IsExposed, IsLiveAfter, IsAssignedThrough}
use Rattle.ped_rules.specs.ped_flow.specs.Answers.{IsReader}
use Rattle.ped_rules.specs.ped_flow.specs.declared.flows.Reader.{Reader}
use Rattle.ped_rules.specs.ped_flow.specs.declared.flows.Reader.TheVariants.{Statement, Saved}
use Rattle.ped_rules.specs.Scalars.{is_scalar, IsLiveBy}
use Rattle.ped_scalar.specs.Expanding.{IsLostBy, IsScalarLostBy, SaysLive}
use Rattle.ped_scalar.proofs.FlowAnswers.{true_not_false}

module _ (t : ProgramTree) (s : ℕ) (x : List ℕ) where
  -- a scalar that is neither exposed nor unassigned on a path isn't lost
  pub kept_answer : IsFirst (IsExposed t s x) None → IsAssignedThrough t s x → (n : ℕ) → IsScalarLostBy t s x n → ⊥
  kept_answer unexposed assigned n p = by n p.1
    where
      by : (n : ℕ) → IsLostBy t s x n → ⊥
      by n (inl e) = unexposed n e.0
      by n (inr l) = l.2 assigned

  -- one that is unassigned on a path is lost where it is live
  pub lost_answer : (r : Option ℕ) → IsTrue (is_scalar t x) → IsFirst (IsExposed t s x) None → (IsAssignedThrough t s x → ⊥)
      → MatchOption r ((n : ℕ) → IsLiveBy t s x n → ⊥) (IsLiveBy t s x) → MatchOption r ((n : ℕ) → IsScalarLostBy t s x n → ⊥) (IsScalarLostBy t s x)
  lost_answer None scalar unexposed not_assigned h = λ n p. by n p.1
    where
      by : (n : ℕ) → IsLostBy t s x n → ⊥
      by n (inl e) = unexposed n e.0
      by n (inr l) = h n l.1
  lost_answer (Some n) scalar unexposed not_assigned h = (scalar, inr (unexposed, h, not_assigned))

  live_by_reader : (r : Reader) → IsReader t s x (Some r) → IsLiveAfter t s x
  live_by_reader (Statement n) h = inl (n, h.0)
  live_by_reader Saved h = inr h.1

  -- a reader says that the scalar is live
  pub says_live : (r : Reader) → IsReader t s x (Some r) → SaysLive t s x true
  says_live r h = (λ e. live_by_reader r h, λ e. refl)

  -- where there is no reader it isn't
  pub says_not : IsReader t s x None → SaysLive t s x false
  says_not h = (λ e. absurd (true_not_false false e refl), λ l. absurd (h l))
