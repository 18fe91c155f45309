-- `privatise`: a scalar becomes private to the iterations of a DO. The new program, and the rules that forbid it (Allen and Kennedy, section 5.2; ParaScope).
use Rattle.std.specs.Prelude.{◌≡◌, ◌⊎◌, ℕ, List, [], ◌∷◌, ◌++◌, Bool, not, ◌&&◌, IsTrue}
use Rattle.ped_base.specs.Lists.{is_among}
use Rattle.ped_tree.specs.Tree.{Head, StmtTree, StmtTrees, Assign, If, Do, Print, Read, Stop, Comment, ProgramTree}
use Rattle.ped_rules.specs.ped_flow.specs.Questions.{LoopOf}
use Rattle.ped_rules.specs.ped_steps.specs.declared.rules.Rule.TheVariants.{NoLoop, ParallelState, ExposedOrLive, NotScalar, Limit, AlreadyPrivate}
use Rattle.ped_rules.specs.ped_steps.specs.Causes.{Rules, IsFirstCause, none_forbids}
use Rattle.ped_rules.specs.ped_steps.specs.Replacing.{alone, program_with, all_kept}
use Rattle.ped_rules.specs.Steps.{transformation, StepAt, asks_no_more}
use Rattle.ped_rules.specs.Chains.{no_rules, also, WhereLoop}
use Rattle.ped_rules.specs.Rules.{WhereNoLoop, WhereLimit}
use Rattle.ped_rules.specs.Scalars.{is_scalar, is_unfit, IsLiveBy, IsExposedBy, IsUnexposed}
use Rattle.ped_rules.specs.Scalars.{is_in_parallel}

-- a DO with the name last in its PRIVATE list (ParaScope)
abbrev pub with_private : List ℕ → StmtTree → StmtTrees
with_private x (Do h body) = alone (Do (record h { private = h.private ++ x ∷ [] }) body)
with_private x (Assign left right) = alone (Assign left right)
with_private x (If condition then_part else_part) = alone (If condition then_part else_part)
with_private x (Print items) = alone (Print items)
with_private x (Read items) = alone (Read items)
with_private x Stop = alone Stop
with_private x (Comment text) = alone (Comment text)

-- the program after the step (ParaScope)
abbrev pub privatised : ProgramTree → ℕ → List ℕ → ProgramTree
privatised t s x = program_with (with_private x) s t

-- the scalar is exposed in the DO or live after it, by this statement: the first with an exposed read, and else the first that may read it after the DO, and else the DO itself (Allen and Kennedy, sections 4.4, 5.2; this project)
abbrev pub IsExposedOrLiveBy : ProgramTree → ℕ → List ℕ → ℕ → Type 0
IsExposedOrLiveBy t s x n = IsExposedBy t s x n ⊎ (IsUnexposed t s x × IsLiveBy t s x n)

-- the name is that of a scalar variable, which is exposed in the DO or live after it by this statement (ParaScope; this project)
abbrev pub IsScalarExposedOrLiveBy : ProgramTree → ℕ → List ℕ → ℕ → Type 0
IsScalarExposedOrLiveBy t s x n = IsTrue (is_scalar t x) × IsExposedOrLiveBy t s x n

-- rule 12: a scalar is exposed in the DO or live after it. What is asked of a scalar isn't asked of another name (ParaScope; this project)
abbrev pub WhereExposedOrLive : ProgramTree → (s : ℕ) → List ℕ → ℕ → Type 0
WhereExposedOrLive t s x n = LoopOf t s × IsScalarExposedOrLiveBy t s x n

-- the name isn't in the DO's PRIVATE list (ParaScope)
abbrev pub isnt_listed : List ℕ → Head → StmtTrees → Bool
isnt_listed x h body = not (is_among x h.private)

-- what the step makes, which keeps each statement with its number (ParaScope)
abbrev pub MakesPrivatised : (s : ℕ) → List ℕ → ProgramTree → ProgramTree → List (ℕ × ℕ) → Type 0
MakesPrivatised s x t new keep = (new ≡ privatised t s x) × (keep ≡ all_kept t)

-- rule 15, which isn't asked where the name is in the list already (this project)
abbrev pub WhereUnlistedLimit : ProgramTree → (s : ℕ) → List ℕ → ℕ → Type 0
WhereUnlistedLimit t s x n = WhereLoop t s (isnt_listed x) n × WhereLimit (MakesPrivatised s x) t s n

-- rule 17: a scalar is in the DO's PRIVATE list already (ParaScope)
abbrev pub is_scalar_listed : ProgramTree → List ℕ → Head → StmtTrees → Bool
is_scalar_listed t x h body = is_scalar t x && is_among x h.private

-- which rules forbid the step: the statement is no DO; the DO or one around it is a PARALLEL DO; the scalar is exposed or live; the name is no such scalar; the new program isn't valid; the name is in the DO's PRIVATE list (ParaScope; this project)
abbrev pub StandsAgainstPrivatising : (s : ℕ) → List ℕ → ProgramTree → Rules
StandsAgainstPrivatising s x t =
    also NoLoop (WhereNoLoop t s)
    (also ParallelState (WhereLoop t s (is_in_parallel t s))
    (also ExposedOrLive (WhereExposedOrLive t s x)
    (also NotScalar (WhereLoop t s (is_unfit t s x))
    (also Limit (WhereUnlistedLimit t s x)
    (also AlreadyPrivate (WhereLoop t s (is_scalar_listed t x)) no_rules)))))

-- the step at a statement: a scalar becomes private to the iterations of a DO (Allen and Kennedy, section 5.2; ParaScope)
abbrev pub privatising : ℕ → List ℕ → StepAt
privatising s x = record {
  statement = s;
  kind = transformation;
  IsCause = λ t. IsFirstCause t (StandsAgainstPrivatising s x t) none_forbids;
  Makes = MakesPrivatised s x;
  IsTrueFor = asks_no_more;
}
