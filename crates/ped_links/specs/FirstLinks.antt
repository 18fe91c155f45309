-- The first of the refusals by CALLs, as the code finds it. Only contracts of private functions use it.
use Rattle.std.specs.Prelude.{◌≡◌, ℕ, Option, Some, None, Bool, true, false, ◌&&◌, ◌||◌, ◌==◌, nat_lt, ◌⊎◌, if◌then◌else◌}
use Rattle.ped_units.specs.Linking.{LinkRefusal, is_before}
use Rattle.ped_units.specs.Verdicts.{number_of_rule, of_links}
use Rattle.ped_units.specs.Views.{rule_of}
use Rattle.ped_units.specs.declared.refusals.UnitRule.{UnitRule}
use Rattle.ped_units.specs.declared.refusals.UnitFinding.{UnitFinding}

-- a finding comes before another, by line and then by number
abbrev pub is_before_finding : UnitFinding → UnitFinding → Bool
is_before_finding f g = nat_lt f.line g.line || (f.line == g.line && nat_lt (number_of_rule (rule_of f.rule)) (number_of_rule (rule_of g.rule)))

-- a finding comes before what was found, where something was
abbrev pub comes_first : UnitFinding → Option UnitFinding → Bool
comes_first f None = true
comes_first f (Some g) = is_before_finding f g

-- the earlier one of what was found and another finding
abbrev pub earlier_link : Option UnitFinding → UnitFinding → Option UnitFinding
earlier_link found f = if comes_first f found then Some f else found

-- the earlier one of what was found and this rule at this line, where the test holds
abbrev pub standing_link : Option UnitFinding → Bool → UnitRule → ℕ → Option UnitFinding
standing_link found test rule line = if test then earlier_link found (record { rule = rule; line = line }) else found

-- the earlier one of two, where there are some
abbrev pub first_link_of : Option UnitFinding → Option UnitFinding → Option UnitFinding
first_link_of found None = found
first_link_of found (Some f) = earlier_link found f

-- a finding is the first of these
pub record IsFirstAmong (stands : LinkRefusal → ℕ → Type 0) (f : UnitFinding) : Type 0 where
  pub rule : LinkRefusal
  pub is_rule : rule_of f.rule ≡ of_links rule
  pub stands_there : stands rule f.line
  pub least : (q : LinkRefusal) (other : ℕ) → stands q other → is_before q other rule f.line ≡ false

-- the first of these, or none where there is none
abbrev pub IsFirstOf : (LinkRefusal → ℕ → Type 0) → Option UnitFinding → Type 0
IsFirstOf stands None = (r : LinkRefusal) (line : ℕ) → stands r line → ⊥
IsFirstOf stands (Some f) = IsFirstAmong stands f

-- there is none
abbrev pub NoneStands : LinkRefusal → ℕ → Type 0
NoneStands r line = ⊥

-- it is one of these or one of the others
abbrev pub EitherStands : (LinkRefusal → ℕ → Type 0) → (LinkRefusal → ℕ → Type 0) → LinkRefusal → ℕ → Type 0
EitherStands one other r line = one r line ⊎ other r line

-- a rule is broken at a line where something holds
abbrev pub StandsIf : LinkRefusal → ℕ → Type 0 → LinkRefusal → ℕ → Type 0
StandsIf rule line holds r other = (r ≡ rule) × (other ≡ line) × holds
