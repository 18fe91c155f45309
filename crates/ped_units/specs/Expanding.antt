-- What a file of program units expands to: each CALL gives way to a block with the statements of its subroutine, in which each dummy argument stands for its argument, and each other variable has a name of its own (ANSI X3.9-1978, section 15.9.3; this project).
use Rattle.std.specs.Prelude.{ℕ, zero, suc, ◌+◌, ℤ, List, [], ◌∷◌, ◌++◌, map, take, length, codes, Option, Some, None, is_some, Bool, false, not, if◌then◌else◌}
use Rattle.std.specs.List.{flat_map}
use Rattle.std.specs.Fmt.{decimal}
use Rattle.ped_base.specs.Dimensions.{Dimensions}
use Rattle.ped_base.specs.Lists.{is_among}
use Rattle.ped_tree.specs.declared.conditions.Relation.TheVariants.{Eq}
use Rattle.ped_tree.specs.Tree.{ExprTree, ExprTrees, Int, Var, Element, Neg, Add, Sub, Mul, Div, Pow, Call, no_exprs, more_exprs, CondTree, Rel, Not, And, Or, ItemTree, Value, Text, Head, StmtTree, StmtTrees, Assign, If, Do, Print, Read, Stop, Comment, no_stmts, more_stmts, BoundTree, DeclTree, Integer, ProgramTree}
use Rattle.ped_tree.specs.NamesIn.{stmts_names, first_occurrences}
use Rattle.ped_tree.specs.Accesses.{listed}
use Rattle.ped_tree.specs.Constants.NamedConstants.{value_named}
use Rattle.ped_symbolic.specs.Arithmetic.{literal}
use Rattle.ped_valid.specs.ped_symbols.specs.declared.symbols.Kind.{Kind}
use Rattle.ped_valid.specs.ped_symbols.specs.declared.symbols.Kind.TheVariants.{Scalar, Array, Constant}
use Rattle.ped_valid.specs.ped_symbols.specs.Declarations.{program_name}
use Rattle.ped_valid.specs.ped_symbols.specs.Entries.{entry_of, with_entry}
use Rattle.ped_valid.specs.ped_symbols.specs.Kinds.{at_last, kind_in, names_of}
use Rattle.ped_valid.specs.ped_symbols.specs.Values.{Values, fixed_value}
use Rattle.ped_units.specs.Forms.{Called}
use Rattle.ped_units.specs.Units.{ProgramUnit, ProgramUnits, unit_of, call_of, all_with_calls, called_text}
use Rattle.ped_units.specs.Refusals.{for_names}

-- KX with a number after it (this project)
abbrev pub numbered_name : ℕ → List ℕ
numbered_name n = codes "KX" ++ decimal n

-- the first of the names KXn that isn't taken, from this number on, with this many tries (this project)
abbrev pub free_from : ℕ → List (List ℕ) → ℕ → List ℕ
free_from zero taken n = numbered_name n
free_from (suc tries) taken n = if is_among (numbered_name n) taken then free_from tries taken (n + 1) else numbered_name n

-- the first of the names KX1, KX2 and so on that isn't taken: as many tries as there are names that are taken, and one more, find it (this project)
abbrev pub free_name : List (List ℕ) → List ℕ
free_name taken = free_from (length taken) taken 1

-- so far: the names that are taken, those of the main program and those that were given, and the arrays that were given names (this project)
pub record Given : Type 0 where
  pub taken : List (List ℕ)
  pub arrays : List DeclTree

-- after the next new name (this project)
abbrev pub with_new : Given → Given
with_new g = record g { taken = g.taken ++ free_name g.taken ∷ [] }

-- the bounds of a dimension as literals (ANSI X3.9-1978, section 5.1.1.1)
abbrev pub literal_bounds : List ℤ → List ℤ → List BoundTree
literal_bounds (l ∷ lower) (u ∷ upper) = record { lower = literal l; upper = literal u } ∷ literal_bounds lower upper
literal_bounds [] upper = []
literal_bounds (l ∷ lower) [] = []

-- the declaration of an array with these bounds (ANSI X3.9-1978, section 5.1)
abbrev pub array_declaration : List ℕ → Dimensions → DeclTree
array_declaration x d = Integer (record { name = x; bounds = literal_bounds d.lower d.upper } ∷ [])

-- the declaration of a new name, where it is given to an array (ANSI X3.9-1978, section 5.1)
abbrev pub declared_as : List ℕ → Option Kind → List DeclTree
declared_as x None = []
declared_as x (Some Scalar) = []
declared_as x (Some (Array d)) = array_declaration x d ∷ []
declared_as x (Some (Constant n)) = []

-- after the next new name, which is given to something of this kind (this project)
abbrev pub with_local : Given → Option Kind → Given
with_local g kind = record { taken = g.taken ++ free_name g.taken ∷ []; arrays = g.arrays ++ declared_as (free_name g.taken) kind }

-- names of a unit with what stands for them in its expanded statements (this project)
abbrev pub Meanings : Type 0
Meanings = List (List ℕ × ExprTree)

-- the expression, or the name itself where there is none
abbrev pub or_itself : List ℕ → Option ExprTree → ExprTree
or_itself x None = Var x
or_itself x (Some e) = e

-- what stands for a name
abbrev pub meaning : Meanings → List ℕ → ExprTree
meaning m x = or_itself x (entry_of m x)

-- the name that an expression is, else another
abbrev pub name_or : List ℕ → ExprTree → List ℕ
name_or x (Var y) = y
name_or x e = x

-- the name that stands for a name
abbrev pub name_meant : Meanings → List ℕ → List ℕ
name_meant m x = name_or x (meaning m x)

abbrev mutual
  -- an expression with what stands for each name; no sum is computed anew (this project)
  pub replaced : Meanings → ExprTree → ExprTree
  replaced m (Int n) = Int n
  replaced m (Var x) = meaning m x
  replaced m (Element x subscripts) = Element (name_meant m x) (all_replaced m subscripts)
  replaced m (Neg a) = Neg (replaced m a)
  replaced m (Add a b) = Add (replaced m a) (replaced m b)
  replaced m (Sub a b) = Sub (replaced m a) (replaced m b)
  replaced m (Mul a b) = Mul (replaced m a) (replaced m b)
  replaced m (Div a b) = Div (replaced m a) (replaced m b)
  replaced m (Pow a b) = Pow (replaced m a) (replaced m b)
  replaced m (Call f arguments) = Call f (all_replaced m arguments)

  -- the same of expressions
  pub all_replaced : Meanings → ExprTrees → ExprTrees
  all_replaced m no_exprs = no_exprs
  all_replaced m (more_exprs e rest) = more_exprs (replaced m e) (all_replaced m rest)

-- the same of a condition
abbrev pub cond_replaced : Meanings → CondTree → CondTree
cond_replaced m (Rel r a b) = Rel r (replaced m a) (replaced m b)
cond_replaced m (Not a) = Not (cond_replaced m a)
cond_replaced m (And a b) = And (cond_replaced m a) (cond_replaced m b)
cond_replaced m (Or a b) = Or (cond_replaced m a) (cond_replaced m b)

-- the same of an item of a PRINT
abbrev pub item_replaced : Meanings → ItemTree → ItemTree
item_replaced m (Value e) = Value (replaced m e)
item_replaced m (Text text) = Text text

-- the same of the head of a DO: its variable, its bounds, its increment and its PRIVATE names; a subroutine rejects no names (this project)
abbrev pub head_replaced : Meanings → Head → Head
head_replaced m h = record {
  variable = name_meant m h.variable;
  first = replaced m h.first;
  last = replaced m h.last;
  step = replaced m h.step;
  parallel = h.parallel;
  private = map (name_meant m) h.private;
  rejected = h.rejected;
}

-- a CALL with what stands for the names in its arguments
abbrev pub called_replaced : Meanings → Called → Called
called_replaced m c = record { name = c.name; arguments = all_replaced m c.arguments }

-- an argument is the name of a variable, where these are the named constants (ANSI X3.9-1978, section 15.9.3)
abbrev pub is_variable_name : Values → ExprTree → Bool
is_variable_name constants (Var x) = not (is_some (value_named constants x))
is_variable_name constants e = false

-- arguments that were bound: what stands for each dummy argument, the assignments before the subroutine's statements, and the names that are taken then
pub record Bound : Type 0 where
  pub meant : List ExprTree
  pub assignments : List StmtTree
  pub given : Given

-- an argument that stands for its dummy argument itself, before others
abbrev pub standing : ExprTree → Bound → Bound
standing e b = record b { meant = e ∷ b.meant }

-- an argument that is assigned to a new name, before others
abbrev pub assigned_to : List ℕ → ExprTree → Bound → Bound
assigned_to x e b = record b { meant = Var x ∷ b.meant; assignments = Assign (Var x) e ∷ b.assignments }

-- an argument that is no variable's name, by its value, before others: a constant of at most 2147483647 in size is written as a literal, any other is assigned to the next new name (this project)
abbrev pub bound_by : Option ℤ → ExprTree → Given → (Given → Bound) → Bound
bound_by (Some n) e g others = standing (literal n) (others g)
bound_by None e g others = assigned_to (free_name g.taken) e (others (with_new g))

-- the arguments of a CALL, from left to right, where these are the named constants: a variable's name stands for itself (ANSI X3.9-1978, section 15.9.3; this project)
abbrev pub bound_arguments : Values → List ExprTree → Given → Bound
bound_arguments constants [] g = record { meant = []; assignments = []; given = g }
bound_arguments constants (e ∷ rest) g =
    if is_variable_name constants e then standing e (bound_arguments constants rest g)
    else bound_by (fixed_value constants e) e g (bound_arguments constants rest)

-- a statement with exactly the names of a CALL's arguments, in their order (this project)
abbrev pub naming_arguments : Called → StmtTree
naming_arguments c = Print (map Value (listed c.arguments))

-- the names in the statements of a unit, those in arguments of CALLs among them, in the order of their first occurrence (this project)
abbrev pub body_names : ProgramUnit → List (List ℕ)
body_names u = first_occurrences [] (stmts_names (all_with_calls naming_arguments u.tree.body))

-- the named constants of a unit with their values (ANSI X3.9-1978, section 8.6)
abbrev pub constants_of : ProgramUnit → Values
constants_of u = (at_last (for_names u)).values

-- dummy arguments with what stands for them, by their places, as far as there are both, after other names; of a name that something stands for already the first counts
abbrev pub with_formals : Meanings → List (List ℕ) → List ExprTree → Meanings
with_formals m (f ∷ fs) (e ∷ es) = with_formals (with_entry m f e) fs es
with_formals m [] es = m
with_formals m (f ∷ fs) [] = m

-- named constants with their literals, after other names (ANSI X3.9-1978, section 8.6)
abbrev pub with_constants : Meanings → Values → Meanings
with_constants m [] = m
with_constants m (v ∷ vs) = with_constants (with_entry m v.0 (literal v.1)) vs

-- what stands for the names of a unit, and what is given then
pub record Renamed : Type 0 where
  pub meanings : Meanings
  pub given : Given

-- a variable of this kind with the next new name
abbrev pub with_renamed : List ℕ → Option Kind → Renamed → Renamed
with_renamed x kind r = record { meanings = with_entry r.meanings x (Var (free_name r.given.taken)); given = with_local r.given kind }

-- the names of a unit that nothing stands for yet, one after the other, each with a new name (this project)
abbrev pub renamed : ProgramUnit → List (List ℕ) → Renamed → Renamed
renamed u [] r = r
renamed u (x ∷ xs) r = renamed u xs (if is_some (entry_of r.meanings x) then r else with_renamed x (kind_in (for_names u) x) r)

-- what stands for the names of a subroutine whose arguments were bound: for dummy arguments what they are bound to, for constants their literals, for all other variables of its statements new names, in the order of their first occurrence (ANSI X3.9-1978, section 15.9.2; this project)
abbrev pub meanings_in : ProgramUnit → Bound → Renamed
meanings_in u b = renamed u (body_names u) (record { meanings = with_constants (with_formals [] u.formals b.meant) (constants_of u); given = b.given })

-- statements that follow others
abbrev pub behind_stmts : List StmtTree → StmtTrees → StmtTrees
behind_stmts [] rest = rest
behind_stmts (s ∷ ss) rest = more_stmts s (behind_stmts ss rest)

-- the comment that names a CALL, cut to a line (this project)
abbrev pub call_comment : Called → StmtTree
call_comment c = Comment (take 71 (codes "$CALL " ++ called_text c))

-- the marked block of a CALL: a block IF with the condition 0.EQ.0, the comment that names the CALL, and these statements (this project)
abbrev pub block_of : Called → List StmtTree → StmtTrees → StmtTree
block_of c assignments body = If (Rel Eq (Int 0) (Int 0)) (more_stmts (call_comment c) (behind_stmts assignments body)) no_stmts

-- a statement and the state after it
pub record Expanded (S : Type 0) : Type 0 where
  pub statement : StmtTree
  pub state : S

-- statements and the state after them
pub record AllExpanded (S : Type 0) : Type 0 where
  pub statements : StmtTrees
  pub state : S

-- a statement, or what a function makes of the CALL that it is, with what stands for the names in its arguments, and of the state
abbrev pub expanded_or : {S : Type 0} → Meanings → (Called → S → Expanded S) → StmtTree → S → Option Called → Expanded S
expanded_or m f s state None = record { statement = s; state = state }
expanded_or m f s state (Some c) = f (called_replaced m c) state

-- an IF with an expanded THEN part and an ELSE part that is expanded after it
abbrev pub if_expanded : {S : Type 0} → CondTree → AllExpanded S → (S → AllExpanded S) → Expanded S
if_expanded condition t rest = record { statement = If condition t.statements (rest t.state).statements; state = (rest t.state).state }

-- a DO with an expanded body
abbrev pub do_expanded : {S : Type 0} → Head → AllExpanded S → Expanded S
do_expanded h b = record { statement = Do h b.statements; state = b.state }

-- an expanded statement and those that are expanded after it
abbrev pub then_expanded : {S : Type 0} → Expanded S → (S → AllExpanded S) → AllExpanded S
then_expanded e rest = record { statements = more_stmts e.statement (rest e.state).statements; state = (rest e.state).state }

abbrev mutual
  -- a statement with what stands for each name, where each CALL in it gives way to what a function makes of it, in text order, with a state that goes along; a subroutine's name is no variable
  pub expanded_in : {S : Type 0} → Meanings → (Called → S → Expanded S) → StmtTree → S → Expanded S
  expanded_in m f (Assign left right) state = expanded_or m f (Assign (replaced m left) (replaced m right)) state (call_of left right)
  expanded_in m f (If condition then_part else_part) state = if_expanded (cond_replaced m condition) (all_expanded_in m f then_part state) (all_expanded_in m f else_part)
  expanded_in m f (Do h body) state = do_expanded (head_replaced m h) (all_expanded_in m f body state)
  expanded_in m f (Print items) state = record { statement = Print (map (item_replaced m) items); state = state }
  expanded_in m f (Read items) state = record { statement = Read (map (replaced m) items); state = state }
  expanded_in m f Stop state = record { statement = Stop; state = state }
  expanded_in m f (Comment text) state = record { statement = Comment text; state = state }

  -- the same of statements
  pub all_expanded_in : {S : Type 0} → Meanings → (Called → S → Expanded S) → StmtTrees → S → AllExpanded S
  all_expanded_in m f no_stmts state = record { statements = no_stmts; state = state }
  all_expanded_in m f (more_stmts s rest) state = then_expanded (expanded_in m f s state) (all_expanded_in m f rest)

-- a block with these expanded statements
abbrev pub block_with : Called → Bound → AllExpanded Given → Expanded Given
block_with c b e = record { statement = block_of c b.assignments e.statements; state = e.state }

-- the block of a CALL of this subroutine, whose arguments were bound and whose names have these meanings, where a function expands its own CALLs: these know no named constants
abbrev pub body_expanded : (Called → Given → Expanded Given) → ProgramUnit → Called → Bound → Renamed → Expanded Given
body_expanded inner v c b r = block_with c b (all_expanded_in r.meanings inner v.tree.body r.given)

-- the block of a CALL of this subroutine, where its arguments were bound and a function expands its own CALLs
abbrev pub bound_expanded : (Called → Given → Expanded Given) → ProgramUnit → Called → Bound → Expanded Given
bound_expanded inner v c b = body_expanded inner v c b (meanings_in v b)

-- the block of a CALL, by its subroutine; one that isn't there has no statements
abbrev pub unit_expanded : (Called → Given → Expanded Given) → Values → Called → Given → Option ProgramUnit → Expanded Given
unit_expanded inner constants c g None = record { statement = block_of c [] no_stmts; state = g }
unit_expanded inner constants c g (Some v) = bound_expanded inner v c (bound_arguments constants (listed c.arguments) g)

-- the block of a CALL in a unit with these named constants, in which CALLs are nested at most this deep; first its own new names are given, and then those of its CALLs (this project)
abbrev pub call_expanded : ℕ → ProgramUnits → Values → Called → Given → Expanded Given
call_expanded zero us constants c g = record { statement = block_of c [] no_stmts; state = g }
call_expanded (suc depth) us constants c g = unit_expanded (call_expanded depth us []) constants c g (unit_of us c.name)

-- before the first CALL: the names of the main program are taken, that in PROGRAM too (this project)
abbrev pub nothing_given : ProgramUnits → Given
nothing_given us = record { taken = first_occurrences [] (names_of (for_names us.main) ++ flat_map program_name us.main.tree.decls); arrays = [] }

-- a CALL of the main program: without recursion CALLs are nested in one another no deeper than there are subroutines
abbrev pub main_call_expanded : ProgramUnits → Called → Given → Expanded Given
main_call_expanded us c g = call_expanded (length us.others) us (constants_of us.main) c g

-- statements of the main program with each CALL expanded, in text order; each name stands for itself
abbrev pub main_expanded : ProgramUnits → StmtTrees → AllExpanded Given
main_expanded us body = all_expanded_in [] (main_call_expanded us) body (nothing_given us)

-- the main program with other statements, and with these arrays declared after its declarations
abbrev pub with_statements : ProgramUnits → AllExpanded Given → ProgramTree
with_statements us e = record { decls = us.main.tree.decls ++ e.state.arrays; body = e.statements }

-- the main program, where each CALL is expanded (this project)
abbrev pub expansion : ProgramUnits → ProgramTree
expansion us = with_statements us (main_expanded us us.main.tree.body)
