-- `distribute`: the body of a DO is taken apart into DO loops of their own (Allen and Kennedy, section 6.2.2; ParaScope).
use Rattle.std.specs.Prelude.{◌≡◌, ◌<◌, ℕ, suc, ◌+◌, ◌-◌, List, [], ◌∷◌, ◌++◌, map, length, filter, slice_index_or, Option, Some, None}
use Rattle.std.specs.List.{flat_map, range_with_len}
use Rattle.ped_tree.specs.Tree.{Head, ExprTree, StmtTree, StmtTrees, Do, no_stmts, more_stmts, ProgramTree}
use Rattle.ped_tree.specs.Numbering.{statements_count}
use Rattle.ped_rules.specs.Rules.{IsBoundOf}
use Rattle.ped_rules.specs.Chains.{no_rules, also, WhereLoop}
use Rattle.ped_rules.specs.OnlyLoops.{on_loop}
use Rattle.ped_rules.specs.Rules.{WhereNoLoop, is_parallel, WhereEscape, WhereUnplain, WhereLimit}
use Rattle.ped_rules.specs.Steps.{transformation, StepAt, asks_no_more}
use Rattle.ped_rules.specs.ped_flow.specs.Questions.{LoopOf}
use Rattle.ped_rules.specs.ped_steps.specs.declared.rules.Rule.TheVariants.{NoLoop, ParallelState, IndexEscapes, BoundNotPlain, OneBlock, Limit}
use Rattle.ped_rules.specs.ped_steps.specs.Causes.{Rules, IsFirstCause, none_forbids}
use Rattle.ped_rules.specs.ped_steps.specs.Replacing.{followed, program_with}
use Rattle.ped_splits.specs.Units.{units, stands_in}
use Rattle.ped_splits.specs.PiBlocks.{ArePiBlocks}

-- the statements of units, one unit after another
abbrev pub joined : List StmtTrees → StmtTrees
joined [] = no_stmts
joined (u ∷ us) = followed u (joined us)

-- these units of a body, one after another
abbrev pub units_at : StmtTrees → List ℕ → StmtTrees
units_at body block = joined (map (λ i. slice_index_or (units body) i no_stmts) block)

-- a DO for each pi-block, with the whole head of the old one (Allen and Kennedy, section 6.2.2; ParaScope)
abbrev pub loops_of : List (List ℕ) → Head → StmtTrees → StmtTrees
loops_of [] h body = no_stmts
loops_of (block ∷ pi_blocks) h body = more_stmts (Do h (units_at body block)) (loops_of pi_blocks h body)

-- the program after the step (ParaScope)
abbrev pub distributed : ProgramTree → (s : ℕ) → List (List ℕ) → ProgramTree
distributed t s pi_blocks = program_with (on_loop (loops_of pi_blocks)) s t

-- the numbers of the statements of a unit of the body of the DO with number s
abbrev pub numbers_of : (s : ℕ) → StmtTrees → (i : ℕ) → List ℕ
numbers_of s body i = filter (stands_in s body i) (range_with_len (s + 1) (statements_count body))

-- for each statement of the DO of a pi-block its number before the step; the DO itself comes from this one
abbrev pub pi_block_sources : (s : ℕ) → StmtTrees → Option ℕ → List ℕ → List (Option ℕ)
pi_block_sources s body head block = head ∷ map Some (flat_map (numbers_of s body) block)

-- for each statement of the DO loops of pi-blocks its number before the step: the first DO comes from the old one, the others from none
abbrev pub loop_sources : (s : ℕ) → StmtTrees → List (List ℕ) → List (Option ℕ)
loop_sources s body [] = []
loop_sources s body (block ∷ pi_blocks) = pi_block_sources s body (Some s) block ++ flat_map (pi_block_sources s body None) pi_blocks

-- the statements with numbers from this one on, as many as given, as what statements come from
abbrev pub unmoved : (first count : ℕ) → List (Option ℕ)
unmoved first count = map Some (range_with_len first count)

-- for each statement of the new program its number before the step; none for a DO that is new
abbrev pub sources : ProgramTree → (s : ℕ) → StmtTrees → List (List ℕ) → List (Option ℕ)
sources t s body pi_blocks = unmoved 1 (s - 1) ++ loop_sources s body pi_blocks ++ unmoved (s + 1 + statements_count body) (statements_count t.body - (s + statements_count body))

-- statements with the numbers from this one on, each with what it comes from: those that come from one, with its number before the step
abbrev pub kept_from : ℕ → List (Option ℕ) → List (ℕ × ℕ)
kept_from n [] = []
kept_from n (None ∷ rest) = kept_from (suc n) rest
kept_from n (Some k ∷ rest) = (k, n) ∷ kept_from (suc n) rest

-- what the step makes: the first of the new DO loops takes the old one's number, statements in the body go to their places, and the numbers after it grow by the number of new heads (ParaScope)
abbrev pub MakesDistributed : (s : ℕ) → ProgramTree → ProgramTree → List (ℕ × ℕ) → Type 0
MakesDistributed s t new keep =
    (l : LoopOf t s) × (pi_blocks : List (List ℕ)) × ArePiBlocks t s l.head l.body pi_blocks
    × (new ≡ distributed t s pi_blocks) × (keep ≡ kept_from 1 (sources t s l.body pi_blocks))

-- rule 6 of `distribute` asks for the bounds of the DO, which are evaluated anew for each new one (this project)
abbrev pub IsItsBound : ProgramTree → (s : ℕ) → ℕ → ExprTree → Type 0
IsItsBound t s n e = (n ≡ s) × (l : LoopOf t s) × IsBoundOf l.head e

-- rule 11: the units are fewer than two pi-blocks, so there is nothing to take apart (ParaScope; this project)
abbrev pub WhereOnePiBlock : ProgramTree → (s : ℕ) → ℕ → Type 0
WhereOnePiBlock t s n = (l : LoopOf t s) × (pi_blocks : List (List ℕ)) × ArePiBlocks t s l.head l.body pi_blocks × (length pi_blocks < 2) × (n ≡ s)

-- which rules forbid the step: the statement is no DO, or a PARALLEL DO; a variable of it is read outside its DO; one of its bounds isn't plain; the units of its body are fewer than two pi-blocks; the new program isn't valid (this project)
abbrev pub StandsAgainstDistribution : (s : ℕ) → ProgramTree → Rules
StandsAgainstDistribution s t =
    also NoLoop (WhereNoLoop t s)
    (also ParallelState (WhereLoop t s is_parallel)
    (also IndexEscapes (WhereEscape t s)
    (also BoundNotPlain (WhereUnplain t s (IsItsBound t s))
    (also OneBlock (WhereOnePiBlock t s)
    (also Limit (WhereLimit (MakesDistributed s) t s) no_rules)))))

-- `distribute s`: no dependence forbids it, since those that the order has to keep keep statements in one DO, or order the new ones (Allen and Kennedy, section 6.2.2)
abbrev pub distributing : ℕ → StepAt
distributing s = record {
  statement = s;
  kind = transformation;
  IsCause = λ t. IsFirstCause t (StandsAgainstDistribution s t) none_forbids;
  Makes = MakesDistributed s;
  IsTrueFor = asks_no_more;
}
