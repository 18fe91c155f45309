-- What statements say where each literal n is taken as v n: code keeps a literal in 32 bits, the greatest number of these for a greater one (this project).
use Rattle.std.specs.Prelude.{◌≡◌, ℕ, List, map}
use Rattle.ped_tree.specs.Tree.{ExprTree, ItemTree, Value, Text, Head, StmtTree, StmtTrees, Assign, If, Do, Print, Read, Stop, Comment, no_stmts, more_stmts, BoundTree, DeclaratorTree, DeclTree, Program, Implicit, Integer, Dimension, Parameter, Save, Remark}
use Rattle.ped_tree.specs.Grammar.Items.{Item, declares, saves_all, does, continues, logical_if, block_if, else_if, else_line, end_if, begins_do, ends_do, keeps_private, ends_program, Reading, says, outside_profile, no_form, Entry}
use Rattle.ped_tree.specs.Grammar.Reading.{IsReading}
use Rattle.ped_expressions.specs.ExpressionReading.{with_literals}
use Rattle.ped_expressions.specs.ConditionReading.{cond_with_literals}

-- an item of a PRINT
abbrev pub item_with_literals : (ℕ → ℕ) → ItemTree → ItemTree
item_with_literals v (Value e) = Value (with_literals v e)
item_with_literals v (Text text) = Text text

-- the head of a DO
abbrev pub head_with_literals : (ℕ → ℕ) → Head → Head
head_with_literals v h = record h { first = with_literals v h.first; last = with_literals v h.last; step = with_literals v h.step }

abbrev mutual
  -- the statement with each literal n as v n
  pub stmt_with_literals : (ℕ → ℕ) → StmtTree → StmtTree
  stmt_with_literals v (Assign left right) = Assign (with_literals v left) (with_literals v right)
  stmt_with_literals v (If condition then_part else_part) = If (cond_with_literals v condition) (stmts_with_literals v then_part) (stmts_with_literals v else_part)
  stmt_with_literals v (Do h body) = Do (head_with_literals v h) (stmts_with_literals v body)
  stmt_with_literals v (Print items) = Print (map (item_with_literals v) items)
  stmt_with_literals v (Read items) = Read (map (with_literals v) items)
  stmt_with_literals v Stop = Stop
  stmt_with_literals v (Comment text) = Comment text

  -- the statements with each literal n as v n
  pub stmts_with_literals : (ℕ → ℕ) → StmtTrees → StmtTrees
  stmts_with_literals v no_stmts = no_stmts
  stmts_with_literals v (more_stmts s rest) = more_stmts (stmt_with_literals v s) (stmts_with_literals v rest)

-- a dimension
abbrev pub bound_with_literals : (ℕ → ℕ) → BoundTree → BoundTree
bound_with_literals v b = record { lower = with_literals v b.lower; upper = with_literals v b.upper }

-- a declared name
abbrev pub declarator_with_literals : (ℕ → ℕ) → DeclaratorTree → DeclaratorTree
declarator_with_literals v d = record { name = d.name; bounds = map (bound_with_literals v) d.bounds }

-- a named constant with its value
abbrev pub value_with_literals : (ℕ → ℕ) → List ℕ × ExprTree → List ℕ × ExprTree
value_with_literals v c = (c.0, with_literals v c.1)

-- a declaration
abbrev pub decl_with_literals : (ℕ → ℕ) → DeclTree → DeclTree
decl_with_literals v (Program x) = Program x
decl_with_literals v Implicit = Implicit
decl_with_literals v (Integer ds) = Integer (map (declarator_with_literals v) ds)
decl_with_literals v (Dimension ds) = Dimension (map (declarator_with_literals v) ds)
decl_with_literals v (Parameter values) = Parameter (map (value_with_literals v) values)
decl_with_literals v (Save names) = Save names
decl_with_literals v (Remark text) = Remark text

-- what a statement says
abbrev pub says_with_literals : (ℕ → ℕ) → Item → Item
says_with_literals v (declares d) = declares (decl_with_literals v d)
says_with_literals v saves_all = saves_all
says_with_literals v (does s) = does (stmt_with_literals v s)
says_with_literals v continues = continues
says_with_literals v (logical_if c s) = logical_if (cond_with_literals v c) (stmts_with_literals v s)
says_with_literals v (block_if c) = block_if (cond_with_literals v c)
says_with_literals v (else_if c) = else_if (cond_with_literals v c)
says_with_literals v else_line = else_line
says_with_literals v end_if = end_if
says_with_literals v (begins_do label h) = begins_do label (head_with_literals v h)
says_with_literals v ends_do = ends_do
says_with_literals v (keeps_private names) = keeps_private names
says_with_literals v ends_program = ends_program

-- what a text is
abbrev pub reading_with_literals : (ℕ → ℕ) → Reading → Reading
reading_with_literals v (says i) = says (says_with_literals v i)
reading_with_literals v outside_profile = outside_profile
reading_with_literals v no_form = no_form

-- a statement of a text with what it says
abbrev pub entry_with_literals : (ℕ → ℕ) → Entry → Entry
entry_with_literals v e = record { statement = e.statement; reading = reading_with_literals v e.reading }

-- the text is what this stands for, where each literal n is taken as v n
abbrev pub IsReadAs : (ℕ → ℕ) → List ℕ → Reading → Type 0
IsReadAs v text r = (p : Reading) × IsReading text p × (r ≡ reading_with_literals v p)
