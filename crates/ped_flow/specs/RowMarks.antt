-- What is marked in rows. Only contracts of private functions use these definitions.
use Rattle.std.specs.Prelude.{ℕ, List, [], map}
use Rattle.ped_tree.specs.Tree.{ExprTree, Int, Var, Element, Neg, Add, Sub, Mul, Div, Pow, Call}
use Rattle.ped_tree.specs.Accesses.{constant_names}
use Rattle.ped_tree.specs.Views.{decl_tree}
use Rattle.ped_flow.specs.Events.{unless_constant, all_scalars_in}
use Rattle.ped_flow.specs.declared.places.Places.{Places}

-- the scalars that have a place
abbrev pub names_in : Places → List (List ℕ)
names_in p = p.names

-- the named constants of their program
abbrev pub constants_in : Places → List (List ℕ)
constants_in p = constant_names (map decl_tree p.decls.now)

-- the scalars that a left side reads
abbrev pub read_left : List (List ℕ) → ExprTree → List (List ℕ)
read_left constants (Element x subscripts) = all_scalars_in constants subscripts
read_left constants (Var x) = []
read_left constants (Int k) = []
read_left constants (Neg a) = []
read_left constants (Add a b) = []
read_left constants (Sub a b) = []
read_left constants (Mul a b) = []
read_left constants (Div a b) = []
read_left constants (Pow a b) = []
read_left constants (Call f arguments) = []

-- the scalar that a left side assigns
abbrev pub assigned_left : List (List ℕ) → ExprTree → List (List ℕ)
assigned_left constants (Var x) = unless_constant constants x
assigned_left constants (Element x subscripts) = []
assigned_left constants (Int k) = []
assigned_left constants (Neg a) = []
assigned_left constants (Add a b) = []
assigned_left constants (Sub a b) = []
assigned_left constants (Mul a b) = []
assigned_left constants (Div a b) = []
assigned_left constants (Pow a b) = []
assigned_left constants (Call f arguments) = []
