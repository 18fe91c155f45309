-- The values of named constants, and of bounds and increments, by the PARAMETER items before them (ANSI X3.9-1978, sections 5.1.1, 8.6, 11.10.3).
use Rattle.std.specs.Prelude.{ℕ, ℤ, pos, List, [], ◌∷◌, unsigned_abs, nat_le, int_lt, Bool, true, false, ◌||◌, Option, Some, None, if◌then◌else◌}
use Rattle.std.specs.List.{list_any}
use Rattle.std.specs.Ordering.{int_eq}
use Rattle.ped_tree.specs.Tree.{ExprTree, StmtTree, Do, BoundTree, DeclaratorTree, DeclTree, Integer, Dimension, Parameter}
use Rattle.ped_tree.specs.Grammar.LimitNumbers.{greatest_literal}
use Rattle.ped_tree.specs.Constants.ConstantExpressions.{constant_value}
use Rattle.ped_symbols.specs.Entries.{with_entry}
use Rattle.ped_symbols.specs.Sites.{Site, declaration, statement, private_names}

-- named constants with their values, in order
abbrev pub Values : Type 0
Values = List (List ℕ × ℤ)

-- a value that a named constant, a bound or an increment may have (this project)
abbrev pub within : Option ℤ → Option ℤ
within None = None
within (Some n) = if nat_le (unsigned_abs n) greatest_literal then Some n else None

-- the value of a constant expression that isn't too large; none where it isn't constant, faults or is too large (ANSI X3.9-1978, section 6.1.3; this project)
abbrev pub fixed_value : Values → ExprTree → Option ℤ
fixed_value values e = within (constant_value values e)

-- there is none (plain words)
abbrev pub is_missing : Option ℤ → Bool
is_missing None = true
is_missing (Some n) = false

-- the constants with one more at the end, where it has a value; of a name that has one already the first counts (ANSI X3.9-1978, section 8.6)
abbrev pub with_value : Values → List ℕ → Option ℤ → Values
with_value values x None = values
with_value values x (Some n) = with_entry values x n

-- after the items of a PARAMETER, each of which holds from its own place on (ANSI X3.9-1978, section 8.6)
abbrev pub behind_items : Values → List (List ℕ × ExprTree) → Values
behind_items values [] = values
behind_items values (v ∷ vs) = behind_items (with_value values v.0 (fixed_value values v.1)) vs

-- the declared names of INTEGER and DIMENSION (ANSI X3.9-1978, sections 8.1, 8.4.1)
abbrev pub declarators : DeclTree → List DeclaratorTree
declarators (Integer ds) = ds
declarators (Dimension ds) = ds
declarators d = []

-- the items of PARAMETER (ANSI X3.9-1978, section 8.6)
abbrev pub items : DeclTree → List (List ℕ × ExprTree)
items (Parameter values) = values
items d = []

-- after a declaration (ANSI X3.9-1978, section 8.6)
abbrev pub behind_decl : Values → DeclTree → Values
behind_decl values d = behind_items values (items d)

-- some item of a PARAMETER has no such value (ANSI X3.9-1978, section 8.6; this project)
abbrev pub some_item_fails : Values → List (List ℕ × ExprTree) → Bool
some_item_fails values [] = false
some_item_fails values (v ∷ vs) = is_missing (fixed_value values v.1) || some_item_fails (with_value values v.0 (fixed_value values v.1)) vs

-- a bound of an array that has no such value (ANSI X3.9-1978, section 5.1.1.1; this project)
abbrev pub bound_fails : Values → BoundTree → Bool
bound_fails values b = is_missing (fixed_value values b.lower) || is_missing (fixed_value values b.upper)

-- an array with such a bound (ANSI X3.9-1978, section 5.1.1.1; this project)
abbrev pub declarator_fails : Values → DeclaratorTree → Bool
declarator_fails values d = list_any (bound_fails values) d.bounds

-- a declaration with an item or a bound that has no such value (ANSI X3.9-1978, sections 5.1.1.1, 8.6; this project)
abbrev pub decl_fails : Values → DeclTree → Bool
decl_fails values d = some_item_fails values (items d) || list_any (declarator_fails values) (declarators d)

-- an increment that may not be: it has no such value, or it is 0 (ANSI X3.9-1978, section 11.10.3)
abbrev pub is_bad_step : Option ℤ → Bool
is_bad_step None = true
is_bad_step (Some n) = int_eq n (pos 0)

-- a DO whose increment may not be (ANSI X3.9-1978, section 11.10.3)
abbrev pub stmt_fails : Values → StmtTree → Bool
stmt_fails values (Do h body) = is_bad_step (fixed_value values h.step)
stmt_fails values s = false

-- at a site something has no value that has to have one
abbrev pub site_fails : Values → Site → Bool
site_fails values (declaration d) = decl_fails values d
site_fails values (statement s) = stmt_fails values s
site_fails values (private_names names) = false

-- the first value is above the second, where both are there (plain words)
abbrev pub is_above : Option ℤ → Option ℤ → Bool
is_above (Some lower) (Some upper) = int_lt upper lower
is_above (Some lower) None = false
is_above None upper = false

-- a lower bound above its upper bound (ANSI X3.9-1978, section 5.1.1.2)
abbrev pub bound_is_empty : Values → BoundTree → Bool
bound_is_empty values b = is_above (fixed_value values b.lower) (fixed_value values b.upper)

-- an array with such bounds (ANSI X3.9-1978, section 5.1.1.2)
abbrev pub declarator_is_empty : Values → DeclaratorTree → Bool
declarator_is_empty values d = list_any (bound_is_empty values) d.bounds

-- a declaration of such an array (ANSI X3.9-1978, section 5.1.1.2)
abbrev pub decl_is_empty : Values → DeclTree → Bool
decl_is_empty values d = list_any (declarator_is_empty values) (declarators d)

-- at a site such an array is declared
abbrev pub site_is_empty : Values → Site → Bool
site_is_empty values (declaration d) = decl_is_empty values d
site_is_empty values (statement s) = false
site_is_empty values (private_names names) = false
