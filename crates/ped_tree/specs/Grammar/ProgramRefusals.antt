-- Which of the refusals 7 to 13 a text meets at its statements (ANSI X3.9-1978, sections 3.5, 11.6 to 11.10; this project). Each statement is looked at, whatever is refused before it.
use Rattle.std.specs.Prelude.{ℕ, ◌+◌, List, [], ◌∷◌, ◌++◌, map, length, Bool, true, false, not, ◌&&◌, ◌||◌, nat_lt, nat_le, Option, Some, None, if◌then◌else◌}
use Rattle.std.specs.List.{list_any, flat_map}
use Rattle.ped_base.specs.Lists.{has_some, is_among}
use Rattle.ped_tree.specs.Tree.{ExprTree, Var, StmtTree, StmtTrees, Assign, If, Do, Read, no_stmts, more_stmts, DeclTree, Integer, Dimension, Save}
use Rattle.ped_tree.specs.Accesses.{own_accesses}
use Rattle.ped_tree.specs.Printing.{own_text, private_text, decl_text}
use Rattle.ped_tree.specs.Grammar.LimitNumbers.{most_dimensions, most_statements, most_loops_nested, most_blocks_nested, most_references, most_characters}
use Rattle.ped_tree.specs.Grammar.Literals.{cond_has_large_literal, head_has_large_literal, stmt_has_large_literal, decl_has_large_literal}
use Rattle.ped_tree.specs.Grammar.Refusal.{Finding, Syntax, NotInProfile, OpenBlock, BadTerminal, IndexAssigned, StopPlace, Limit, refused_if}
use Rattle.ped_tree.specs.Grammar.Statement.{Note, Statement, Statements}
use Rattle.ped_tree.specs.Grammar.Items.{Item, declares, saves_all, does, logical_if, block_if, else_if, else_line, end_if, begins_do, ends_do, keeps_private, ends_program, Reading, says, outside_profile, no_form, Entry}
use Rattle.ped_tree.specs.Grammar.Occurrences.{of_reading, do_variables, is_rejection, saved_names}
use Rattle.ped_tree.specs.Grammar.Contexts.{Block, in_then, in_else, in_do, Context, at_start, rank, numbered_in, is_do, is_stop, may_end, saves_list, saves_without, open_loops, open_variables, has_do, has_if, is_loop_with, is_in_bare_do, carries_open, behind, behind_all}
use Rattle.ped_tree.specs.Grammar.BlockForms.{whole_head}

-- a test of what a statement says, false where it says nothing (plain words)
abbrev pub where_it_says : (Item → Bool) → Reading → Bool
where_it_says test (says i) = test i
where_it_says test r = false

-- the form is one that the profile leaves out (this project)
abbrev pub is_left_out : Reading → Bool
is_left_out outside_profile = true
is_left_out r = false

-- the text has no form at all (this project)
abbrev pub is_formless : Reading → Bool
is_formless no_form = true
is_formless r = false

-- PROGRAM and IMPLICIT come once and before what follows them; declarations come before executable statements (ANSI X3.9-1978, section 3.5)
abbrev pub is_out_of_order : ℕ → ℕ → Bool
is_out_of_order phase rank = if nat_lt rank 3 then nat_le rank phase else nat_lt rank phase

-- the innermost IF is open, and its ELSE part hasn't begun (ANSI X3.9-1978, section 11.8)
abbrev pub takes_else : List Block → Bool
takes_else [] = false
takes_else (in_then n ∷ c) = true
takes_else (in_else n ∷ c) = false
takes_else (in_do d ∷ c) = takes_else c

-- ELSE, ELSE IF or END IF without its IF (ANSI X3.9-1978, sections 11.7 to 11.9)
abbrev pub lacks_if : List Block → Item → Bool
lacks_if c (else_if e) = not (takes_else c)
lacks_if c else_line = not (takes_else c)
lacks_if c end_if = not (has_if c)
lacks_if c i = false

-- END DO that carries the label of no open DO, where the innermost open block isn't a DO without a label (this project)
abbrev pub lacks_do : List Block → Option ℕ → Item → Bool
lacks_do c label ends_do = not (carries_open label c) && not (is_in_bare_do c)
lacks_do c label i = false

-- PRIVATE that isn't the first statement after a DO (this project)
abbrev pub is_late_private : Bool → Item → Bool
is_late_private behind_do (keeps_private names) = not behind_do
is_late_private behind_do i = false

-- a SAVE after another, at least one of the two without a list (ANSI X3.9-1978, section 8.9; this project)
abbrev pub saves_again : Context → Item → Bool
saves_again c i = (saves_list i && c.saves_everything) || (saves_without i && (c.saves_names || c.saves_everything))

-- a form at a place where it can't occur, by the statement's label (this project)
abbrev pub is_misplaced : Context → Option ℕ → Item → Bool
is_misplaced c label i =
    is_out_of_order c.phase (rank i) || lacks_if c.blocks i || is_late_private c.behind_do i || saves_again c i || lacks_do c.blocks label i

-- the statement follows END (ANSI X3.9-1978, section 11.14)
abbrev pub is_behind_end : Context → Bool
is_behind_end c = nat_le 5 c.phase

-- no form, or a form that can't occur there; a form that the profile leaves out is refused as that (this project)
abbrev pub breaks_syntax : Context → Option ℕ → Reading → Bool
breaks_syntax c label r = not (is_left_out r) && (is_behind_end c || is_formless r || where_it_says (is_misplaced c label) r)

-- the innermost open block is a DO (this project)
abbrev pub is_in_do : List Block → Bool
is_in_do (in_do d ∷ c) = true
is_in_do c = false

-- END while a block is open; ELSE, ELSE IF or END IF while a DO is open in the IF (ANSI X3.9-1978, sections 11.6, 11.10.1)
abbrev pub leaves_open : List Block → Item → Bool
leaves_open c (else_if e) = is_in_do c
leaves_open c else_line = is_in_do c
leaves_open c end_if = is_in_do c
leaves_open c ends_program = has_some c
leaves_open c i = false

-- without the innermost loops that have this label (ANSI X3.9-1978, section 11.10.1)
abbrev pub closed : ℕ → List Block → List Block
closed l [] = []
closed l (b ∷ c) = if is_loop_with l b then closed l c else b ∷ c

-- the label of an open DO on a statement that can't end one, or while a block is open in it that isn't a DO with that label (ANSI X3.9-1978, section 11.10)
abbrev pub ends_badly : List Block → Option ℕ → Reading → Bool
ends_badly c None r = false
ends_badly c (Some l) r = has_do l c && not (where_it_says may_end r && not (has_do l (closed l c)))

-- the scalar that a left side or an item of a READ is (ANSI X3.9-1978, section 11.10.5)
abbrev pub scalar_of : ExprTree → List (List ℕ)
scalar_of (Var x) = x ∷ []
scalar_of e = []

-- the scalars that a simple statement assigns or reads into (ANSI X3.9-1978, section 11.10.5)
abbrev pub assigned_by : StmtTree → List (List ℕ)
assigned_by (Assign left right) = scalar_of left
assigned_by (Read items) = flat_map scalar_of items
assigned_by s = []

-- the statements after a logical IF (ANSI X3.9-1978, section 11.5)
abbrev pub listed_stmts : StmtTrees → List StmtTree
listed_stmts no_stmts = []
listed_stmts (more_stmts s rest) = s ∷ listed_stmts rest

-- the scalars that a statement assigns, reads into, or has as DO variable (ANSI X3.9-1978, section 11.10.5)
abbrev pub assigned_in : Item → List (List ℕ)
assigned_in (does s) = assigned_by s
assigned_in (logical_if e s) = flat_map assigned_by (listed_stmts s)
assigned_in (begins_do l h) = h.variable ∷ []
assigned_in i = []

-- the names of a PRIVATE statement (this project)
abbrev pub private_in : Item → List (List ℕ)
private_in (keeps_private names) = names
private_in i = []

-- some name is one of the others (plain words)
abbrev pub meets : List (List ℕ) → List (List ℕ) → Bool
meets names others = list_any (λ x. is_among x others) names

-- the variable of a loop around the statement is assigned, read into or a DO variable again, or named in PRIVATE (ANSI X3.9-1978, section 11.10.5; this project)
abbrev pub assigns_index : Context → Reading → Bool
assigns_index c r = meets (of_reading assigned_in r ++ of_reading private_in r) (open_variables c.blocks)

-- a DO whose variable the PRIVATE statement of a loop around it names, which is refused at that statement (this project)
abbrev pub at_private : Context → Reading → List Finding
at_private c r = flat_map (λ d. refused_if (meets (of_reading do_variables r) d.private) IndexAssigned d.private_line) (open_loops c.blocks)

-- STOP, also after a logical IF (this project)
abbrev pub stops : Item → Bool
stops (does s) = is_stop s
stops (logical_if e s) = list_any is_stop (listed_stmts s)
stops i = false

-- the next statement's private names, which are written at its DO (this project)
abbrev pub private_behind : List Entry → List (List ℕ)
private_behind [] = []
private_behind (e ∷ rest) = of_reading private_in e.reading

-- the numbered statements that an item is, each by itself, where these are the private names of a DO (this project)
abbrev pub statements_of_item : List (List ℕ) → Item → List StmtTree
statements_of_item private (does s) = s ∷ []
statements_of_item private (logical_if e s) = If e no_stmts no_stmts ∷ listed_stmts s
statements_of_item private (block_if e) = If e no_stmts no_stmts ∷ []
statements_of_item private (else_if e) = If e no_stmts no_stmts ∷ []
statements_of_item private (begins_do l h) = Do (whole_head h private []) no_stmts ∷ []
statements_of_item private i = []

-- the texts of what is printed for an item, by the names of SAVE (this project)
abbrev pub printed_texts : List (List ℕ) → Item → List (List ℕ)
printed_texts saved (declares d) = decl_text d ∷ []
printed_texts saved saves_all = if has_some saved then decl_text (Save saved) ∷ [] else []
printed_texts saved (keeps_private names) = private_text names ∷ []
printed_texts saved i = map own_text (statements_of_item [] i)

-- how many loops are open (this project)
abbrev pub loop_depth : List Block → ℕ
loop_depth c = length (open_loops c)

-- how many loops and IFs are open, each ELSE IF an IF more (this project)
abbrev pub block_depth : List Block → ℕ
block_depth [] = 0
block_depth (in_then n ∷ c) = block_depth c + n
block_depth (in_else n ∷ c) = block_depth c + n
block_depth (in_do d ∷ c) = block_depth c + 1

-- a statement that is nested one deeper than the blocks around it: a DO or an IF (this project)
abbrev pub is_block : Item → Bool
is_block (logical_if e s) = true
is_block (block_if e) = true
is_block (else_if e) = true
is_block (begins_do l h) = true
is_block i = false

-- a declared array has more dimensions than an array may have (ANSI X3.9-1978, section 5.1.1)
abbrev pub has_eight_dimensions : DeclTree → Bool
has_eight_dimensions (Integer ds) = list_any (λ d. nat_lt most_dimensions (length d.bounds)) ds
has_eight_dimensions (Dimension ds) = list_any (λ d. nat_lt most_dimensions (length d.bounds)) ds
has_eight_dimensions d = false

-- a literal that is too large, or an array of too many dimensions (this project)
abbrev pub is_too_large : Item → Bool
is_too_large (declares d) = decl_has_large_literal d || has_eight_dimensions d
is_too_large (does s) = stmt_has_large_literal s
is_too_large (logical_if e s) = cond_has_large_literal e || list_any stmt_has_large_literal (listed_stmts s)
is_too_large (block_if e) = cond_has_large_literal e
is_too_large (else_if e) = cond_has_large_literal e
is_too_large (begins_do l h) = head_has_large_literal h
is_too_large i = false

-- the numbered statements of the program become too many (this project)
abbrev pub are_too_many : ℕ → Item → Bool
are_too_many before i = nat_lt 0 (numbered_in i) && nat_lt most_statements (before + numbered_in i)

-- too many DO loops, or too many loops and IFs, are nested in one another (this project)
abbrev pub is_too_deep : List Block → Item → Bool
is_too_deep c i = (is_do i && nat_le most_loops_nested (loop_depth c)) || (is_block i && nat_le most_blocks_nested (block_depth c))

-- too many references in one statement, those of the private names of a DO among them, by the named constants and the variables of the loops around it (this project)
abbrev pub has_many_references : List (List ℕ) → List (List ℕ) → List (List ℕ) → Item → Bool
has_many_references constants indices private i = list_any (λ s. nat_lt most_references (length (own_accesses constants indices s))) (statements_of_item private i)

-- too many characters in one printed statement (this project)
abbrev pub is_too_long : List (List ℕ) → Item → Bool
is_too_long saved i = list_any (λ text. nat_lt most_characters (length text)) (printed_texts saved i)

-- a limit is passed (this project)
abbrev pub passes_limit : List (List ℕ) → Context → List Entry → Item → Bool
passes_limit saved c rest i =
    is_too_large i
    || are_too_many c.statements i
    || is_too_deep c.blocks i
    || has_many_references c.constants (open_variables c.blocks) (private_behind rest) i
    || is_too_long saved i

-- a comment is between a directive and its statement (ParaScope; this project)
abbrev pub is_parted : Note → Statement → Bool
is_parted d s = list_any (λ n. nat_lt d.line n.line && nat_lt n.line s.line) s.comments

-- a directive is REJECT and a name, and is directly before a DO, with directives alone between (ParaScope; this project)
abbrev pub is_bad_directive : Context → Entry → Note → Bool
is_bad_directive c e d =
    is_behind_end c
    || not (is_rejection d.text)
    || not (where_it_says is_do e.reading)
    || nat_lt e.statement.line d.line
    || is_parted d e.statement

-- the refusals at the directives of a statement, each at its own line (ParaScope; this project)
abbrev pub at_directives : Context → Entry → List Finding
at_directives c e = flat_map (λ d. refused_if (is_bad_directive c e d) Syntax d.line) e.statement.directives

-- what is refused at a statement, by what is open before it and by the statement after it
abbrev pub at_statement : List (List ℕ) → Context → Entry → List Entry → List Finding
at_statement saved c e rest =
    at_directives c e
    ++ refused_if (breaks_syntax c e.statement.label e.reading) Syntax e.statement.line
    ++ refused_if (is_left_out e.reading) NotInProfile e.statement.line
    ++ refused_if (where_it_says (leaves_open c.blocks) e.reading) OpenBlock e.statement.line
    ++ refused_if (ends_badly c.blocks e.statement.label e.reading) BadTerminal e.statement.line
    ++ refused_if (assigns_index c e.reading) IndexAssigned e.statement.line
    ++ at_private c e.reading
    ++ refused_if (where_it_says stops e.reading && nat_lt 0 (loop_depth c.blocks)) StopPlace e.statement.line
    ++ refused_if (where_it_says (passes_limit saved c rest) e.reading) Limit e.statement.line

-- what is refused at statements, one after another
abbrev pub at_statements : List (List ℕ) → Context → List Entry → List Finding
at_statements saved c [] = []
at_statements saved c (e ∷ rest) = at_statement saved c e rest ++ at_statements saved (behind c e) rest

-- what is refused at the end: no END has come; a directive follows the last statement (this project)
abbrev pub at_end : Context → Statements → List Finding
at_end c all = refused_if (not (is_behind_end c)) OpenBlock all.lines ++ flat_map (λ d. refused_if true Syntax d.line) all.directives

-- all that is refused, statement by statement
abbrev pub program_refusals : Statements → List Entry → List Finding
program_refusals all entries = at_statements (saved_names entries) at_start entries ++ at_end (behind_all at_start entries) all
