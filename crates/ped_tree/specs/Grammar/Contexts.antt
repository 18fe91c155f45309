-- What is open at a statement, and what has come before it (ANSI X3.9-1978, sections 3.5, 11.6 to 11.10). Each statement takes the text on, whatever is refused at it.
use Rattle.std.specs.Prelude.{ℕ, ◌+◌, List, [], ◌∷◌, ◌++◌, map, max, Bool, true, false, not, ◌||◌, Option, Some, None, is_none, if◌then◌else◌}
use Rattle.std.specs.List.{list_any}
use Rattle.ped_tree.specs.Tree.{Head, StmtTree, Stop, DeclTree, Program, Implicit, Save}
use Rattle.ped_tree.specs.Numbering.{statement_count, statements_count}
use Rattle.ped_tree.specs.Grammar.Statement.{Statement}
use Rattle.ped_tree.specs.Grammar.Items.{Item, declares, saves_all, does, continues, logical_if, block_if, else_if, else_line, end_if, begins_do, ends_do, keeps_private, ends_program, Reading, says, Entry}
use Rattle.ped_tree.specs.Grammar.Occurrences.{constants_of}
use Rattle.ped_tree.specs.Grammar.BlockForms.{has_label}

-- a DO loop that is open: its label or none, its variable, and the names and the line of its PRIVATE statement, none and 0 before that (ANSI X3.9-1978, section 11.10; this project)
pub record OpenLoop : Type 0 where
  pub label : Option ℕ
  pub variable : List ℕ
  pub private : List (List ℕ)
  pub private_line : ℕ

-- an open block: the THEN or the ELSE part of an IF, counted with its ELSE IFs, or a DO loop
pub data Block : Type 0 where
  in_then : ℕ → Block
  in_else : ℕ → Block
  in_do : OpenLoop → Block

-- at a statement: how far the order of statements has come, the open blocks with the innermost first, the numbered statements before it, the named constants, whether a SAVE with a list and one without have come, whether the statement before it is a DO
pub record Context : Type 0 where
  pub phase : ℕ
  pub blocks : List Block
  pub statements : ℕ
  pub constants : List (List ℕ)
  pub saves_names : Bool
  pub saves_everything : Bool
  pub behind_do : Bool

-- at the first statement
abbrev pub at_start : Context
at_start = record {
  phase = 0;
  blocks = [];
  statements = 0;
  constants = [];
  saves_names = false;
  saves_everything = false;
  behind_do = false;
}

-- the order of declarations: PROGRAM, IMPLICIT, all others (ANSI X3.9-1978, section 3.5)
abbrev pub decl_rank : DeclTree → ℕ
decl_rank (Program x) = 1
decl_rank Implicit = 2
decl_rank d = 3

-- the order of statements: declarations up to 3, executable statements 4, END 5 (ANSI X3.9-1978, section 3.5)
abbrev pub rank : Item → ℕ
rank (declares d) = decl_rank d
rank saves_all = 3
rank ends_program = 5
rank i = 4

-- how many numbered statements an item is (this project)
abbrev pub numbered_in : Item → ℕ
numbered_in (does s) = statement_count s
numbered_in (logical_if c s) = statements_count s + 1
numbered_in (block_if c) = 1
numbered_in (else_if c) = 1
numbered_in (begins_do label h) = 1
numbered_in i = 0

-- a DO statement (ANSI X3.9-1978, section 11.10)
abbrev pub is_do : Item → Bool
is_do (begins_do label h) = true
is_do i = false

-- STOP (ANSI X3.9-1978, section 11.12)
abbrev pub is_stop : StmtTree → Bool
is_stop Stop = true
is_stop s = false

-- a statement that may end a DO (ANSI X3.9-1978, section 11.10)
abbrev pub may_end : Item → Bool
may_end (does s) = not (is_stop s)
may_end continues = true
may_end ends_do = true
may_end (logical_if c s) = true
may_end i = false

-- a declaration is a SAVE with a list (ANSI X3.9-1978, section 8.9)
abbrev pub is_save : DeclTree → Bool
is_save (Save names) = true
is_save d = false

-- a SAVE with a list (ANSI X3.9-1978, section 8.9)
abbrev pub saves_list : Item → Bool
saves_list (declares d) = is_save d
saves_list i = false

-- a SAVE without a list (ANSI X3.9-1978, section 8.9)
abbrev pub saves_without : Item → Bool
saves_without saves_all = true
saves_without i = false

-- the DO loops that are open
abbrev pub open_loops : List Block → List OpenLoop
open_loops [] = []
open_loops (in_then n ∷ c) = open_loops c
open_loops (in_else n ∷ c) = open_loops c
open_loops (in_do d ∷ c) = d ∷ open_loops c

-- their variables
abbrev pub open_variables : List Block → List (List ℕ)
open_variables c = map (λ d. d.variable) (open_loops c)

-- a DO with this label is open (ANSI X3.9-1978, section 11.10)
abbrev pub has_do : ℕ → List Block → Bool
has_do l c = list_any (λ d. has_label d.label (Some l)) (open_loops c)

-- an IF is open (ANSI X3.9-1978, section 11.6)
abbrev pub has_if : List Block → Bool
has_if [] = false
has_if (in_then n ∷ c) = true
has_if (in_else n ∷ c) = true
has_if (in_do d ∷ c) = has_if c

-- a DO loop with this label (ANSI X3.9-1978, section 11.10)
abbrev pub is_loop_with : ℕ → Block → Bool
is_loop_with l (in_do d) = has_label d.label (Some l)
is_loop_with l b = false

-- the first statement after a DO that has its label ends the loop, and all that was begun in it; loops with one label end together (ANSI X3.9-1978, section 11.10.1)
abbrev pub left_by_label : ℕ → List Block → List Block
left_by_label l [] = []
left_by_label l (b ∷ c) = if has_do l c then left_by_label l c else if is_loop_with l b then c else b ∷ c

-- what a statement's label leaves open, where it has one (ANSI X3.9-1978, section 11.10.1)
abbrev pub left_by : Option ℕ → List Block → List Block
left_by None c = c
left_by (Some l) c = left_by_label l c

-- ELSE, ELSE IF and END IF end what was begun in the innermost IF (ANSI X3.9-1978, sections 11.6 to 11.9)
abbrev pub left_in_if : List Block → List Block
left_in_if [] = []
left_in_if (in_then n ∷ c) = in_then n ∷ c
left_in_if (in_else n ∷ c) = in_else n ∷ c
left_in_if (in_do d ∷ c) = if has_if c then left_in_if c else in_do d ∷ c

-- ELSE: the THEN part of the innermost IF gives way to its ELSE part (ANSI X3.9-1978, section 11.8)
abbrev pub with_else : List Block → List Block
with_else (in_then n ∷ c) = in_else n ∷ c
with_else c = c

-- ELSE IF: one IF more, whose THEN part begins (ANSI X3.9-1978, section 11.7)
abbrev pub with_else_if : List Block → List Block
with_else_if (in_then n ∷ c) = in_then (n + 1) ∷ c
with_else_if c = c

-- END IF: the innermost IF is closed with its ELSE IFs (ANSI X3.9-1978, section 11.9)
abbrev pub without_if : List Block → List Block
without_if (in_then n ∷ c) = c
without_if (in_else n ∷ c) = c
without_if c = c

-- the innermost open block is a DO without a label (this project)
abbrev pub is_in_bare_do : List Block → Bool
is_in_bare_do (in_do d ∷ c) = is_none d.label
is_in_bare_do c = false

-- a DO with the statement's label is open (this project)
abbrev pub carries_open : Option ℕ → List Block → Bool
carries_open None c = false
carries_open (Some l) c = has_do l c

-- END DO: a DO without a label that is the innermost open block is closed (this project)
abbrev pub without_do : List Block → List Block
without_do (in_do d ∷ c) = if is_none d.label then c else in_do d ∷ c
without_do c = c

-- a loop that has just begun
abbrev pub begun : Option ℕ → Head → OpenLoop
begun l h = record { label = l; variable = h.variable; private = []; private_line = 0 }

-- PRIVATE on this line belongs to the innermost block, which is a DO (this project)
abbrev pub with_private : ℕ → List (List ℕ) → List Block → List Block
with_private line names (in_do d ∷ c) = in_do (record d { private = names; private_line = line }) ∷ c
with_private line names c = c

-- the blocks that are open after a statement, by whether the one before it is a DO; END ends them all
abbrev pub blocks_behind : Bool → Statement → Item → List Block → List Block
blocks_behind behind_do s (block_if e) c = in_then 1 ∷ left_by s.label c
blocks_behind behind_do s (else_if e) c = left_by s.label (with_else_if (left_in_if c))
blocks_behind behind_do s else_line c = left_by s.label (with_else (left_in_if c))
blocks_behind behind_do s end_if c = left_by s.label (without_if (left_in_if c))
blocks_behind behind_do s (begins_do l h) c = in_do (begun l h) ∷ left_by s.label c
blocks_behind behind_do s ends_do c = if carries_open s.label c then left_by s.label c else without_do c
blocks_behind behind_do s (keeps_private names) c = left_by s.label (if behind_do then with_private s.line names c else c)
blocks_behind behind_do s ends_program c = []
blocks_behind behind_do s i c = left_by s.label c

-- after a statement that says this
abbrev pub behind_item : Context → Statement → Item → Context
behind_item c s i = record {
  phase = max c.phase (rank i);
  blocks = blocks_behind c.behind_do s i c.blocks;
  statements = c.statements + numbered_in i;
  constants = c.constants ++ constants_of i;
  saves_names = c.saves_names || saves_list i;
  saves_everything = c.saves_everything || saves_without i;
  behind_do = is_do i;
}

-- after a statement; of one that has no form the label counts alone
abbrev pub behind_reading : Context → Statement → Reading → Context
behind_reading c s (says i) = behind_item c s i
behind_reading c s r = record c { blocks = left_by s.label c.blocks; behind_do = false }

-- after a statement
abbrev pub behind : Context → Entry → Context
behind c e = behind_reading c e.statement e.reading

-- after statements
abbrev pub behind_all : Context → List Entry → Context
behind_all c [] = c
behind_all c (e ∷ rest) = behind_all (behind c e) rest
