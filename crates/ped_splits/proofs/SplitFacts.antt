-- What the step shows of a DO that is taken apart, where no rule stands against it.
use Rattle.std.proofs.Common.{◌≡◌, ℕ, ◌≤◌, List, length, false, refl, inl, inr, arith}
use Rattle.ped_tree.specs.Tree.{ExprTree, ProgramTree}
use Rattle.ped_rules.proofs.HeadLaws.PlainDecided.{OrNot, plain_decided}
use Rattle.ped_rules.specs.Rules.{IsBoundOf}
use Rattle.ped_rules.proofs.Chains.{not_this, not_those}
use Rattle.ped_rules.specs.Rules.{WhereNoLoop, is_parallel, WhereEscape, WhereUnplain}
use Rattle.ped_rules.specs.Chains.{WhereLoop}
use Rattle.ped_rules.specs.ped_steps.specs.Causes.{NoRule}
use Rattle.ped_rules.specs.ped_steps.specs.declared.rules.Rule.TheVariants.{NoLoop, ParallelState, IndexEscapes, BoundNotPlain}
use Rattle.ped_rules.specs.ped_flow.specs.PlainBounds.{IsPlain}
use Rattle.ped_rules.specs.ped_flow.specs.Questions.{LoopOf, IsContained}
use Rattle.ped_rules.specs.ped_eval.specs.Outcomes.{setting_of}
use Rattle.ped_rules.specs.ped_symbols.specs.NameRefusals.{IsValid}
use Rattle.ped_splits.proofs.DistributeRules as rules
use Rattle.ped_splits.specs.PiBlocks.{ArePiBlocks}
use Rattle.ped_splits.specs.Distributing.{distributed, IsItsBound, StandsAgainstDistribution}

-- a DO that may be taken apart into DO loops of these blocks: it isn't parallel and is contained, and its bounds are plain
pub record IsSplit (t : ProgramTree) (s : ℕ) (l : LoopOf t s) (found : List (List ℕ)) : Type 0 where
  pub valid : IsValid t
  pub new_valid : IsValid (distributed t s found)
  pub are : ArePiBlocks t s l.head l.body found
  pub many : 2 ≤ length found
  pub serial : l.head.parallel ≡ false
  pub contained : IsContained t s
  pub plain : (e : ExprTree) → IsBoundOf l.head e → IsPlain (setting_of t).constants t s e

pub is_split : (t : ProgramTree) (s : ℕ) (l : LoopOf t s) (found : List (List ℕ)) → IsValid t → NoRule (StandsAgainstDistribution s t) → ArePiBlocks t s l.head l.body found → IsSplit t s l found
is_split t s l found valid none are = record {
  valid = valid;
  new_valid = rules.is_valid s t none l found are;
  are = are;
  many = rules.are_many s t none l found are;
  serial = rules.is_serial s t none l;
  contained = rules.is_contained s t none;
  plain = λ e bound. by e bound (plain_decided (setting_of t).constants t s e);
}
  where
    none_but_escape : NoRule (rules.plain s t)
    none_but_escape = not_those IndexEscapes (WhereEscape t s) (rules.plain s t) (not_those ParallelState (WhereLoop t s is_parallel) (rules.escape s t) (not_those NoLoop (WhereNoLoop t s) (rules.state s t) none))

    by : (e : ExprTree) → IsBoundOf l.head e → OrNot (IsPlain (setting_of t).constants t s e) → IsPlain (setting_of t).constants t s e
    by e bound (inl p) = p
    by e bound (inr not) =
        absurd (not_this BoundNotPlain (WhereUnplain t s (IsItsBound t s)) (rules.single s t) none_but_escape s (l, ((e, (refl, l, bound), not), λ n p. let at : n ≡ s = p.1.0 in omega (arith, at))))
