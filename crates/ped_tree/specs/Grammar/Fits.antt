-- Which trees are programs of the profile: those whose names, literals, comments and order can be written, in which no loop changes its variable and no STOP is in a loop, and that pass no limit at any place. A tree fits exactly where some text reads as it (this project).
use Rattle.std.specs.Prelude.{ℕ, ◌+◌, List, [], ◌∷◌, ◌++◌, length, Bool, true, false, not, ◌&&◌, ◌||◌, ◌==◌, nat_lt, nat_le, Option, Some, None}
use Rattle.std.specs.List.{list_all, list_any}
use Rattle.ped_base.specs.Lists.{has_some, is_same_text, is_among}
use Rattle.ped_tree.specs.declared.expressions.Intrinsic.{Intrinsic}
use Rattle.ped_tree.specs.declared.expressions.Intrinsic.TheVariants.{Mod, Abs, Max, Min}
use Rattle.ped_tree.specs.Tree.{ExprTree, ExprTrees, Int, Var, Element, Neg, Add, Sub, Mul, Div, Pow, Call, no_exprs, more_exprs, CondTree, Rel, Not, And, Or, ItemTree, Value, Text, Head, StmtTree, StmtTrees, Assign, If, Do, Print, Read, Stop, Comment, no_stmts, more_stmts, BoundTree, DeclaratorTree, DeclTree, Program, Implicit, Integer, Dimension, Parameter, Save, Remark, ProgramTree}
use Rattle.ped_tree.specs.Numbering.{statement_count, statements_count}
use Rattle.ped_tree.specs.Accesses.{own_accesses, constant_names}
use Rattle.ped_tree.specs.Printing.{own_text, private_text, decl_text}
use Rattle.ped_tree.specs.Grammar.LimitNumbers.{greatest_literal, most_dimensions, most_statements, most_loops_nested, most_blocks_nested, most_references, most_characters}
use Rattle.ped_tree.specs.Grammar.Words.{is_name, intrinsic_of}
use Rattle.ped_tree.specs.Grammar.Columns.{is_directive}
use Rattle.ped_tree.specs.Grammar.Characters.{is_printable}
use Rattle.ped_tree.specs.Grammar.Grouping.{trimmed}
use Rattle.ped_tree.specs.Grammar.StatementForms.{are_names}
use Rattle.ped_tree.specs.Grammar.Contexts.{decl_rank, is_stop}
use Rattle.ped_tree.specs.Grammar.ProgramRefusals.{is_out_of_order, assigned_by, meets}

-- no intrinsic function has the name (ANSI X3.9-1978, section 15.10)
abbrev pub is_no_intrinsic : Option Intrinsic → Bool
is_no_intrinsic None = true
is_no_intrinsic (Some f) = false

-- the right number of arguments: two for MOD, one for ABS, two or more for MAX and MIN (ANSI X3.9-1978, table 5)
abbrev pub takes_arguments : Intrinsic → ExprTrees → Bool
takes_arguments Mod (more_exprs a (more_exprs b no_exprs)) = true
takes_arguments Abs (more_exprs a no_exprs) = true
takes_arguments Max (more_exprs a (more_exprs b rest)) = true
takes_arguments Min (more_exprs a (more_exprs b rest)) = true
takes_arguments f arguments = false

-- one expression or more (plain words)
abbrev pub has_expr : ExprTrees → Bool
has_expr no_exprs = false
has_expr (more_exprs e rest) = true

abbrev mutual
  -- an expression whose literals aren't too large, whose names are names, and whose elements and functions have subscripts and arguments
  pub expr_fits : ExprTree → Bool
  expr_fits (Int n) = nat_le n greatest_literal
  expr_fits (Var x) = is_name x
  expr_fits (Element x subscripts) = is_name x && is_no_intrinsic (intrinsic_of x) && has_expr subscripts && exprs_fit subscripts
  expr_fits (Neg a) = expr_fits a
  expr_fits (Add a b) = expr_fits a && expr_fits b
  expr_fits (Sub a b) = expr_fits a && expr_fits b
  expr_fits (Mul a b) = expr_fits a && expr_fits b
  expr_fits (Div a b) = expr_fits a && expr_fits b
  expr_fits (Pow a b) = expr_fits a && expr_fits b
  expr_fits (Call f arguments) = takes_arguments f arguments && exprs_fit arguments

  -- expressions that all fit
  pub exprs_fit : ExprTrees → Bool
  exprs_fit no_exprs = true
  exprs_fit (more_exprs e rest) = expr_fits e && exprs_fit rest

-- a scalar or an element, which may be assigned (ANSI X3.9-1978, section 10.1)
abbrev pub target_fits : ExprTree → Bool
target_fits (Var x) = expr_fits (Var x)
target_fits (Element x subscripts) = expr_fits (Element x subscripts)
target_fits e = false

-- a condition of expressions that fit
abbrev pub cond_fits : CondTree → Bool
cond_fits (Rel r a b) = expr_fits a && expr_fits b
cond_fits (Not a) = cond_fits a
cond_fits (And a b) = cond_fits a && cond_fits b
cond_fits (Or a b) = cond_fits a && cond_fits b

-- an item of a PRINT: an expression that fits, or a constant of printable characters
abbrev pub item_fits : ItemTree → Bool
item_fits (Value e) = expr_fits e
item_fits (Text text) = list_all is_printable text

-- a comment fits in columns 2 to 72 of one line, has no blank or carriage return at its end, and doesn't begin as a directive does
abbrev pub comment_fits : List ℕ → Bool
comment_fits text = nat_le (length text) 71 && not (list_any (λ c. c == 10) text) && is_same_text (trimmed text) text && not (is_directive (67 ∷ text))

-- around a statement: the named constants, the variables and the PRIVATE names of the DO loops, how many loops and IFs, and how many numbered statements are before it
pub record Surroundings : Type 0 where
  pub constants : List (List ℕ)
  pub variables : List (List ℕ)
  pub private : List (List ℕ)
  pub depth : ℕ
  pub statements : ℕ

-- after this many statements
abbrev pub moved : Surroundings → ℕ → Surroundings
moved p n = record p { statements = p.statements + n }

-- in a part of an IF, after this many statements
abbrev pub in_if : Surroundings → ℕ → Surroundings
in_if p n = record p { depth = p.depth + 1; statements = p.statements + n }

-- in the loop
abbrev pub in_loop : Surroundings → Head → Surroundings
in_loop p h = record p {
  variables = h.variable ∷ p.variables;
  private = h.private ++ p.private;
  depth = p.depth + 1;
  statements = p.statements + 1;
}

-- a numbered statement by itself passes no limit: how many there are, its references, its printed length
abbrev pub is_within : Surroundings → StmtTree → Bool
is_within p s =
    nat_lt p.statements most_statements
    && nat_le (length (own_accesses p.constants p.variables s)) most_references
    && nat_le (length (own_text s)) most_characters

-- an assignment, PRINT, READ or STOP: it changes the variable of no loop around it, and STOP is in no loop
abbrev pub simple_fits : Surroundings → StmtTree → Bool
simple_fits p s = is_within p s && not (meets (assigned_by s) p.variables) && not (is_stop s && has_some p.variables)

-- the PRIVATE statement of a DO, where there is one: names, none of them the variable of its loop or of one around it
abbrev pub private_fits : Surroundings → Head → Bool
private_fits p h = not (has_some h.private) || (are_names h.private && nat_le (length (private_text h.private)) most_characters && not (meets h.private (h.variable ∷ p.variables)))

-- a DO by itself: its variable is that of no loop around it, and private to none
abbrev pub loop_fits : Surroundings → Head → StmtTrees → Bool
loop_fits p h body =
    is_within p (Do h body)
    && is_name h.variable && expr_fits h.first && expr_fits h.last && expr_fits h.step
    && not (is_among h.variable p.variables) && not (is_among h.variable p.private)
    && nat_lt (length p.variables) most_loops_nested && nat_lt p.depth most_blocks_nested
    && private_fits p h
    && list_all is_name h.rejected

abbrev mutual
  -- a statement with its parts
  pub stmt_fits : Surroundings → StmtTree → Bool
  stmt_fits p (Assign left right) = simple_fits p (Assign left right) && target_fits left && expr_fits right
  stmt_fits p (If condition then_part else_part) =
      is_within p (If condition then_part else_part) && nat_lt p.depth most_blocks_nested && cond_fits condition
      && stmts_fit (in_if p 1) then_part
      && stmts_fit (in_if p (1 + statements_count then_part)) else_part
  stmt_fits p (Do h body) = loop_fits p h body && stmts_fit (in_loop p h) body
  stmt_fits p (Print items) = simple_fits p (Print items) && list_all item_fits items
  stmt_fits p (Read items) = simple_fits p (Read items) && list_all target_fits items
  stmt_fits p Stop = simple_fits p Stop
  stmt_fits p (Comment text) = comment_fits text

  -- statements one after another
  pub stmts_fit : Surroundings → StmtTrees → Bool
  stmts_fit p no_stmts = true
  stmts_fit p (more_stmts s rest) = stmt_fits p s && stmts_fit (moved p (statement_count s)) rest

-- the bounds of a dimension (ANSI X3.9-1978, section 5.1.1.1)
abbrev pub bound_fits : BoundTree → Bool
bound_fits b = expr_fits b.lower && expr_fits b.upper

-- a declared name with as many dimensions as an array may have (ANSI X3.9-1978, section 5.1.1)
abbrev pub declarator_fits : DeclaratorTree → Bool
declarator_fits d = is_name d.name && nat_le (length d.bounds) most_dimensions && list_all bound_fits d.bounds

-- a declared array (ANSI X3.9-1978, section 5.1.1)
abbrev pub array_fits : DeclaratorTree → Bool
array_fits d = declarator_fits d && has_some d.bounds

-- a named constant with its value (ANSI X3.9-1978, section 8.6)
abbrev pub constant_fits : List ℕ × ExprTree → Bool
constant_fits v = is_name v.0 && expr_fits v.1

-- a declaration by itself: its names are names, and its bounds and values fit
abbrev pub decl_fits : DeclTree → Bool
decl_fits (Program x) = is_name x
decl_fits Implicit = true
decl_fits (Integer ds) = has_some ds && list_all declarator_fits ds
decl_fits (Dimension ds) = has_some ds && list_all array_fits ds
decl_fits (Parameter values) = has_some values && list_all constant_fits values
decl_fits (Save names) = are_names names
decl_fits (Remark text) = comment_fits text

-- declarations one after another, where the order of statements has reached this point (ANSI X3.9-1978, section 3.5)
abbrev pub decls_fit : ℕ → List DeclTree → Bool
decls_fit phase [] = true
decls_fit phase (Remark text ∷ ds) = comment_fits text && decls_fit phase ds
decls_fit phase (d ∷ ds) = decl_fits d && nat_le (length (decl_text d)) most_characters && not (is_out_of_order phase (decl_rank d)) && decls_fit (decl_rank d) ds

-- no comment comes before the first executable statement: it would belong to the declarations
abbrev pub begins_with_statement : StmtTrees → Bool
begins_with_statement (more_stmts (Comment text) rest) = false
begins_with_statement ss = true

-- before the first executable statement
abbrev pub at_body : ProgramTree → Surroundings
at_body t = record { constants = constant_names t.decls; variables = []; private = []; depth = 0; statements = 0 }

-- a program of the profile
abbrev pub fits : ProgramTree → Bool
fits t = decls_fit 0 t.decls && stmts_fit (at_body t) t.body && begins_with_statement t.body
