-- `inline`: the statements of a marked block come in the place of the block (ParaScope; this project).
use Rattle.std.specs.Prelude.{◌≡◌, ℕ, ◌-◌, List, map, Option, Some, None}
use Rattle.std.specs.List.{range_with_len}
use Rattle.ped_tree.specs.Tree.{StmtTree, StmtTrees, ProgramTree}
use Rattle.ped_tree.specs.Numbering.{statements_count}
use Rattle.ped_rules.specs.Settling.{settled}
use Rattle.ped_rules.specs.Chains.{no_rules, also}
use Rattle.ped_rules.specs.Steps.{transformation, StepAt, asks_no_more}
use Rattle.ped_rules.specs.ped_symbols.specs.NameRefusals.{IsValid}
use Rattle.ped_rules.specs.ped_steps.specs.declared.rules.Rule.TheVariants.{Limit, NoCall}
use Rattle.ped_rules.specs.ped_steps.specs.Causes.{Rules, IsFirstCause, none_forbids}
use Rattle.ped_rules.specs.ped_steps.specs.Replacing.{alone, program_with}
use Rattle.ped_rules.specs.KeepMaps.{opened_at}
use Rattle.ped_inline.specs.Blocks.{block_body, IsBlock}

-- these statements, or the one that is there (plain words)
abbrev pub given_or : StmtTree → Option StmtTrees → StmtTrees
given_or s None = alone s
given_or s (Some body) = body

-- the statements of a marked block; another statement stays (this project)
abbrev pub opened : StmtTree → StmtTrees
opened s = given_or s (block_body s)

-- the program with the statements of the block in its place. Comments that come to the front of the program go to the declarations (ParaScope; this project)
abbrev pub inlined : ProgramTree → ℕ → ProgramTree
inlined t s = settled (program_with opened s t)

-- each statement but the block, with its number after the step: the numbers after the block decrease by one (this project)
abbrev pub inline_kept : ProgramTree → ℕ → List (ℕ × ℕ)
inline_kept t s = map (λ k. (opened_at s k, k)) (range_with_len 1 (statements_count t.body - 1))

-- what the step makes (ParaScope; this project)
abbrev pub MakesInlined : (s : ℕ) → ProgramTree → ProgramTree → List (ℕ × ℕ) → Type 0
MakesInlined s t new keep = (new ≡ inlined t s) × (keep ≡ inline_kept t s)

-- the statement is a marked block, of which the step makes no valid program (this project)
abbrev pub WhereBlockLimit : ProgramTree → ℕ → ℕ → Type 0
WhereBlockLimit t s n = ((body : StmtTrees) × IsBlock t s body) × (IsValid (inlined t s) → ⊥) × (n ≡ s)

-- the statement is no marked block (ParaScope; this project)
abbrev pub WhereNoCall : ProgramTree → ℕ → ℕ → Type 0
WhereNoCall t s n = ((body : StmtTrees) → IsBlock t s body → ⊥) × (n ≡ s)

-- which rules forbid the step: the new program isn't valid; the statement is no marked block (this project)
abbrev pub StandsAgainstInlining : (s : ℕ) → ProgramTree → Rules
StandsAgainstInlining s t = also Limit (WhereBlockLimit t s) (also NoCall (WhereNoCall t s) no_rules)

-- `inline s`: no dependence forbids it, since all is done as before (ParaScope; this project)
abbrev pub inlining : ℕ → StepAt
inlining s = record {
  statement = s;
  kind = transformation;
  IsCause = λ t. IsFirstCause t (StandsAgainstInlining s t) none_forbids;
  Makes = MakesInlined s;
  IsTrueFor = asks_no_more;
}
