-- The rules against sums, as the code finds the first of them. Only contracts of private functions use it (this project).
use Rattle.std.specs.Prelude.{ℕ, List, Option, Some, None}
use Rattle.ped_tree.specs.Tree.{ProgramTree}
use Rattle.ped_rules.specs.ped_steps.specs.declared.rules.Rule.TheVariants.{Range, NotScalar, NotConstant, AlreadyPrivate, NotSum}
use Rattle.ped_rules.specs.ped_symbols.specs.Kinds.{table_of}
use Rattle.ped_rules.specs.ped_steps.specs.Causes.{Rules, NoRule, IsFirstRule}
use Rattle.ped_rules.specs.Chains.{no_rules, also, WhereLoop}
use Rattle.ped_rules.specs.Rules.{isnt_constant}
use Rattle.ped_rules.specs.Scalars.{has_far_value}
use Rattle.ped_reduce.specs.declared.rules.Standing.{Standing}
use Rattle.ped_reduce.specs.Reducing.{has_unsummable, has_private_or_twice, WhereNoSum}

-- from the rule on the values of the DO's variable on
abbrev pub also_from_range : (s : ℕ) → List (List ℕ) → ProgramTree → Rules → Rules
also_from_range s names t others =
    also Range (WhereLoop t s (has_far_value (table_of t).constants))
    (also NotScalar (WhereLoop t s (has_unsummable t s names))
    (also NotConstant (WhereLoop t s (isnt_constant (table_of t).constants)) others))

-- the first of these rules that forbids the step, with the statement that it names; or none forbids it
abbrev pub IsFirstOf : Rules → Option Standing → Type 0
IsFirstOf stands None = NoRule stands
IsFirstOf stands (Some found) = IsFirstRule stands found.rule found.statement

-- the rules after Limit
abbrev pub behind_limit : (s : ℕ) → List (List ℕ) → ProgramTree → Rules
behind_limit s names t = also AlreadyPrivate (WhereLoop t s (has_private_or_twice t s names)) (also NotSum (WhereNoSum t s names) no_rules)
