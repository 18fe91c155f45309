-- Reading the text of a CALL, of a SUBROUTINE statement and of RETURN from left to right. Only contracts of private functions use it.
use Rattle.std.specs.Prelude.{◌≡◌, ℕ, List, [], codes, Option, Some, None, if◌then◌else◌}
use Rattle.ped_base.specs.Lists.{is_same_text}
use Rattle.ped_tree.specs.Tree.{ExprTree}
use Rattle.ped_tree.specs.Views.{pack_exprs}
use Rattle.ped_tree.specs.Grammar.Items.{Reading, says, outside_profile, no_form}
use Rattle.ped_expressions.specs.Scanning.{◌>>=◌, go_on, after}
use Rattle.ped_expressions.specs.ExpressionReading.{expr_of, all_with_literals}
use Rattle.ped_expressions.specs.ConditionReading.{cond_of, cond_with_literals}
use Rattle.ped_valid.specs.ped_parse.specs.ped_statements.specs.Listing.{is_end, several}
use Rattle.ped_valid.specs.ped_parse.specs.ped_statements.specs.StatementReading.{name_at}
use Rattle.ped_valid.specs.ped_parse.specs.ped_statements.specs.Saturated.{reading_with_literals}
use Rattle.ped_units.specs.Forms.{Called, UnitItem, plain, calls, calls_if, begins_unit, returns, IsUnitItem}

-- the expressions, where a closing parenthesis alone follows
abbrev pub closed : List ExprTree → List ℕ → Option (List ExprTree)
closed es rest = if is_same_text rest (codes ")") then Some es else None

-- the arguments of a CALL that the whole text is: none, or expressions in parentheses, each literal n as v n
unfoldable pub arguments_of : (ℕ → ℕ) → List ℕ → Option (List ExprTree)
arguments_of v text = if is_end text then Some [] else after (codes "(") text >>= λ q. several (expr_of v) q >>= λ y. closed y.0 y.1

-- a CALL of a subroutine
abbrev pub called : List ℕ → List ExprTree → Called
called x es = record { name = x; arguments = pack_exprs es }

-- what follows CALL
unfoldable pub called_of : (ℕ → ℕ) → List ℕ → Option Called
called_of v text = name_at text >>= λ x. arguments_of v x.1 >>= λ es. Some (called x.0 es)

-- the names, where a closing parenthesis alone follows
abbrev pub closed_names : List (List ℕ) → List ℕ → Option (List (List ℕ))
closed_names names rest = if is_same_text rest (codes ")") then Some names else None

-- the dummy arguments that the whole text is: none, or names in parentheses
unfoldable pub formals_of : List ℕ → Option (List (List ℕ))
formals_of text = if is_end text then Some [] else after (codes "(") text >>= λ q. several name_at q >>= λ y. closed_names y.0 y.1

-- what follows SUBROUTINE
unfoldable pub subroutine_of : List ℕ → Option UnitItem
subroutine_of text = name_at text >>= λ x. formals_of x.1 >>= λ names. Some (begins_unit x.0 names)

-- what follows the opening parenthesis of an IF
unfoldable pub if_call_of : (ℕ → ℕ) → List ℕ → Option UnitItem
if_call_of v text = cond_of v text >>= λ c. after (codes ")CALL") c.1 >>= λ q. called_of v q >>= λ d. Some (calls_if c.0 d)

-- a CALL, a logical IF with one, SUBROUTINE or RETURN
unfoldable pub unit_item_in : (ℕ → ℕ) → List ℕ → Option UnitItem
unit_item_in v text =
    if is_same_text text (codes "RETURN") then Some returns
    else go_on (after (codes "CALL") text)
    (go_on (after (codes "SUBROUTINE") text) (after (codes "IF(") text >>= λ q. if_call_of v q) (λ q. subroutine_of q))
    (λ q. called_of v q >>= λ c. Some (calls c))

-- a reading of the profile, or what a text without a form in it is
abbrev pub or_unit_item : (ℕ → ℕ) → List ℕ → Reading → UnitItem
or_unit_item v text (says i) = plain (says i)
or_unit_item v text outside_profile = go_on (unit_item_in v text) (plain outside_profile) (λ i. i)
or_unit_item v text no_form = go_on (unit_item_in v text) (plain no_form) (λ i. i)

-- a CALL with each literal n as v n
abbrev pub called_with_literals : (ℕ → ℕ) → Called → Called
called_with_literals v c = record { name = c.name; arguments = all_with_literals v c.arguments }

-- what a statement is with each literal n as v n
abbrev pub item_with_literals : (ℕ → ℕ) → UnitItem → UnitItem
item_with_literals v (plain r) = plain (reading_with_literals v r)
item_with_literals v (calls c) = calls (called_with_literals v c)
item_with_literals v (calls_if e c) = calls_if (cond_with_literals v e) (called_with_literals v c)
item_with_literals v (begins_unit x formals) = begins_unit x formals
item_with_literals v returns = returns

-- the text is what this stands for, where each literal n is taken as v n
abbrev pub IsItemReadAs : (ℕ → ℕ) → List ℕ → UnitItem → Type 0
IsItemReadAs v text i = (p : UnitItem) × IsUnitItem text p × (i ≡ item_with_literals v p)
