-- How names are used in a program, in text order. An intrinsic function's name is no use, nor is the program's name in PROGRAM (ANSI X3.9-1978, sections 2.2, 18.1).
use Rattle.std.specs.Prelude.{ℕ, suc, List, [], ◌∷◌, ◌++◌, map, length, if◌then◌else◌}
use Rattle.std.specs.List.{flat_map}
use Rattle.ped_base.specs.Lists.{has_some}
use Rattle.ped_tree.specs.Tree.{ExprTree, ExprTrees, Int, Var, Element, Neg, Add, Sub, Mul, Div, Pow, Call, no_exprs, more_exprs, CondTree, Rel, Not, And, Or, ItemTree, Value, Text, StmtTree, Assign, If, Do, Print, Read, Stop, Comment, BoundTree, DeclaratorTree, DeclTree, Program, Implicit, Integer, Dimension, Parameter, Save, Remark}
use Rattle.ped_symbols.specs.declared.uses.Role.{Role}
use Rattle.ped_symbols.specs.declared.uses.Role.TheVariants.{Typed, Dimensioned, Named, Saved, Rejected, Index, Assigned, Operand}
use Rattle.ped_symbols.specs.declared.uses.Use.{Use}

-- a name that is used so (plain words)
abbrev pub used_as : Role → List ℕ → Use
used_as role x = record { name = x; role = role }

-- how many expressions there are (plain words)
abbrev pub expr_count : ExprTrees → ℕ
expr_count no_exprs = 0
expr_count (more_exprs e rest) = suc (expr_count rest)

-- the uses in an expression from left to right, an element before its subscripts: an operand without subscripts, or with this many (ANSI X3.9-1978, sections 5.4, 6.1)
abbrev mutual
  pub expr_uses : ExprTree → List Use
  expr_uses (Int n) = []
  expr_uses (Var x) = used_as (Operand 0) x ∷ []
  expr_uses (Element x subscripts) = used_as (Operand (expr_count subscripts)) x ∷ exprs_uses subscripts
  expr_uses (Neg a) = expr_uses a
  expr_uses (Add a b) = expr_uses a ++ expr_uses b
  expr_uses (Sub a b) = expr_uses a ++ expr_uses b
  expr_uses (Mul a b) = expr_uses a ++ expr_uses b
  expr_uses (Div a b) = expr_uses a ++ expr_uses b
  expr_uses (Pow a b) = expr_uses a ++ expr_uses b
  expr_uses (Call f arguments) = exprs_uses arguments

  -- the uses in expressions, one after another (ANSI X3.9-1978, sections 5.4, 6.1)
  pub exprs_uses : ExprTrees → List Use
  exprs_uses no_exprs = []
  exprs_uses (more_exprs e rest) = expr_uses e ++ exprs_uses rest

-- the uses in a condition from left to right (ANSI X3.9-1978, sections 6.3, 6.4)
abbrev pub cond_uses : CondTree → List Use
cond_uses (Rel r a b) = expr_uses a ++ expr_uses b
cond_uses (Not a) = cond_uses a
cond_uses (And a b) = cond_uses a ++ cond_uses b
cond_uses (Or a b) = cond_uses a ++ cond_uses b

-- the uses in a left side or an item of a READ: what is assigned, and then its subscripts (ANSI X3.9-1978, sections 10.1, 12.8)
abbrev pub target_uses : ExprTree → List Use
target_uses (Int n) = []
target_uses (Var x) = used_as (Assigned 0) x ∷ []
target_uses (Element x subscripts) = used_as (Assigned (expr_count subscripts)) x ∷ exprs_uses subscripts
target_uses (Neg a) = expr_uses a
target_uses (Add a b) = expr_uses a ++ expr_uses b
target_uses (Sub a b) = expr_uses a ++ expr_uses b
target_uses (Mul a b) = expr_uses a ++ expr_uses b
target_uses (Div a b) = expr_uses a ++ expr_uses b
target_uses (Pow a b) = expr_uses a ++ expr_uses b
target_uses (Call f arguments) = exprs_uses arguments

-- the uses in an item of a PRINT (ANSI X3.9-1978, section 12.8.2)
abbrev pub item_uses : ItemTree → List Use
item_uses (Value e) = expr_uses e
item_uses (Text text) = []

-- the uses in a statement by itself, without those in its parts and those of PRIVATE: the left side first; of a DO its rejected names, its variable, its initial value, its limit and its increment (ANSI X3.9-1978, sections 10.1, 11, 12.8; ParaScope)
abbrev pub own_uses : StmtTree → List Use
own_uses (Assign left right) = target_uses left ++ expr_uses right
own_uses (If condition then_part else_part) = cond_uses condition
own_uses (Do h body) = map (used_as Rejected) h.rejected ++ used_as Index h.variable ∷ (expr_uses h.first ++ expr_uses h.last ++ expr_uses h.step)
own_uses (Print items) = flat_map item_uses items
own_uses (Read items) = flat_map target_uses items
own_uses Stop = []
own_uses (Comment text) = []

-- the uses in the bounds of dimensions (ANSI X3.9-1978, section 5.1.1.1)
abbrev pub bounds_uses : List BoundTree → List Use
bounds_uses bounds = flat_map (λ b. expr_uses b.lower ++ expr_uses b.upper) bounds

-- a name with dimensions, and the uses in them (ANSI X3.9-1978, section 5.1)
abbrev pub dimension_uses : DeclaratorTree → List Use
dimension_uses d = used_as (Dimensioned (length d.bounds)) d.name ∷ bounds_uses d.bounds

-- a name in INTEGER, with its dimensions where it has some (ANSI X3.9-1978, section 8.4.1)
abbrev pub type_uses : DeclaratorTree → List Use
type_uses d = used_as Typed d.name ∷ (if has_some d.bounds then dimension_uses d else [])

-- the uses in a declaration (ANSI X3.9-1978, sections 8.1, 8.4, 8.6, 8.9)
abbrev pub decl_uses : DeclTree → List Use
decl_uses (Program x) = []
decl_uses Implicit = []
decl_uses (Integer ds) = flat_map type_uses ds
decl_uses (Dimension ds) = flat_map dimension_uses ds
decl_uses (Parameter values) = flat_map (λ v. used_as Named v.0 ∷ expr_uses v.1) values
decl_uses (Save names) = map (used_as Saved) names
decl_uses (Remark text) = []
