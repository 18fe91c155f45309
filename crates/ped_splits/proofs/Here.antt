-- Rules about the DO with a number, where it is known.
use Rattle.std.proofs.Common.{◌≡◌, ℕ, Bool, true, false, refl, sym, ◌∙◌}
use Rattle.std.proofs.lemmas.Bool.{both_ways}
use Rattle.ped_tree.specs.Tree.{Head, StmtTrees, ProgramTree}
use Rattle.ped_rules.specs.ped_flow.specs.Questions.{IsLoop, LoopOf}
use Rattle.ped_rules.specs.ped_flow.proofs.Answering.{same_head, same_body}
use Rattle.ped_rules.specs.Chains.{WhereLoop, Unless}
use Rattle.ped_rules.specs.Rules.{WhereNoLoop}

pub false_by : (b : Bool) → (b ≡ true → ⊥) → b ≡ false
false_by true h = absurd (h refl)
false_by false h = refl

-- a rule that isn't asked doesn't stand
pub not_asked : (bad : Bool) (P : ℕ → Type 0) → bad ≡ true → (n : ℕ) → Unless bad P n → ⊥
not_asked bad P is n p = both_ways bad p.0 is

-- nor does one that is asked where it doesn't stand unasked
pub not_unless : (bad : Bool) (P : ℕ → Type 0) → ((n : ℕ) → P n → ⊥) → (n : ℕ) → Unless bad P n → ⊥
not_unless bad P none n p = none n p.1

module _ (t : ProgramTree) (s : ℕ) where
  -- a test that no DO of this number passes
  pub fails_by : (test : Head → StmtTrees → Bool) → ((n : ℕ) → WhereLoop t s test n → ⊥) → (l : LoopOf t s) → test l.head l.body ≡ false
  fails_by test none l = false_by (test l.head l.body) (λ holds. none s (l, holds, refl))

  module _ (h : Head) (body : StmtTrees) (is : IsLoop t s h body) where
    abbrev pub here : LoopOf t s
    here = record { head = h; body = body; is = is }

    pub not_no_loop : (n : ℕ) → WhereNoLoop t s n → ⊥
    not_no_loop n p = p.0 here

    -- a test of the DO that fails
    pub fails_there : (test : Head → StmtTrees → Bool) → test h body ≡ false → (n : ℕ) → WhereLoop t s test n → ⊥
    fails_there test fails n p =
        both_ways (test p.0.head p.0.body) ((λ i. test (sym (same_head t s h p.0.head body p.0.body is p.0.is) i) (sym (same_body t s h p.0.head body p.0.body is p.0.is) i)) ∙ fails) p.1

    -- a test that it passes
    pub passes_there : (test : Head → StmtTrees → Bool) → test h body ≡ true → WhereLoop t s test s
    passes_there test holds = (here, holds, refl)
