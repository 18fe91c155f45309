-- What a file of program units is opened as: the program that it expands to, or its first refusal (this project).
use Rattle.std.specs.Prelude.{◌≡◌, ◌≤◌, ℕ, ◌+◌, ◌-◌, ◌==◌, List, [], ◌∷◌, ◌++◌, slice_get, Option, Some, None, Bool, true, false, not, ◌||◌, nat_lt, if◌then◌else◌}
use Rattle.ped_tree.specs.Tree.{StmtTree, StmtTrees, Assign, If, Do, Print, Read, Stop, Comment, no_stmts, more_stmts, DeclTree, Remark, ProgramTree}
use Rattle.ped_tree.specs.Numbering.{statements_count}
use Rattle.ped_tree.specs.Grammar.LimitNumbers.{most_statements}
use Rattle.ped_tree.specs.Grammar.Fits.{fits}
use Rattle.ped_tree.specs.Grammar.LineRefusals.{first_line_refusal}
use Rattle.ped_tree.specs.Grammar.Refusal.{Refusal, Limit, StorageLimit, Finding, number_of, name_of_refusal, first_of}
use Rattle.ped_valid.specs.ped_symbols.specs.NameRefusals.{name_refusals, IsValid}
use Rattle.ped_units.specs.Forms.{Called}
use Rattle.ped_units.specs.Units.{ProgramUnits, all_units, call_of}
use Rattle.ped_units.specs.Reading.{UnitEntry, IsCutIntoUnits}
use Rattle.ped_units.specs.Refusals.{first_segments_refusal, ReadsUnits, units_name_refusals}
use Rattle.ped_units.specs.Linking.{Placed, calls_of, LinkRefusal, number_of_link, name_of_link, IsFirstLink, IsLinked}
use Rattle.ped_units.specs.Expanding.{main_expanded, with_statements, expansion}

-- the CALL that a statement is (ANSI X3.9-1978, section 15.6.2)
abbrev pub call_here : StmtTree → Option Called
call_here (Assign left right) = call_of left right
call_here s = None

-- 1 for a CALL, 0 where there is none
abbrev pub one_for : Option Called → ℕ
one_for None = 0
one_for (Some c) = 1

abbrev mutual
  -- how many CALLs a statement has, itself and in its parts
  pub call_count : StmtTree → ℕ
  call_count (Assign left right) = one_for (call_of left right)
  call_count (If condition then_part else_part) = calls_count then_part + calls_count else_part
  call_count (Do h body) = calls_count body
  call_count (Print items) = 0
  call_count (Read items) = 0
  call_count Stop = 0
  call_count (Comment text) = 0

  -- the same of statements
  pub calls_count : StmtTrees → ℕ
  calls_count no_stmts = 0
  calls_count (more_stmts s rest) = call_count s + calls_count rest

-- a statement before others, or these alone where it is a CALL and no further one may come
abbrev pub while_calls : ℕ → Option Called → StmtTree → StmtTrees → StmtTrees
while_calls m None s rest = more_stmts s rest
while_calls m (Some c) s rest = if m == 0 then rest else more_stmts s rest

abbrev mutual
  -- a statement with only the first of the CALLs in its parts in text order, as many as given, and without the others
  pub with_first_calls : ℕ → StmtTree → StmtTree
  with_first_calls m (Assign left right) = Assign left right
  with_first_calls m (If condition then_part else_part) = If condition (first_calls m then_part) (first_calls (m - calls_count then_part) else_part)
  with_first_calls m (Do h body) = Do h (first_calls m body)
  with_first_calls m (Print items) = Print items
  with_first_calls m (Read items) = Read items
  with_first_calls m Stop = Stop
  with_first_calls m (Comment text) = Comment text

  -- statements with only the first of their CALLs in text order, as many as given, and without the others
  pub first_calls : ℕ → StmtTrees → StmtTrees
  first_calls m no_stmts = no_stmts
  first_calls m (more_stmts s rest) = while_calls m (call_here s) (with_first_calls m s) (first_calls (m - call_count s) rest)

-- the comments before the first statement that is none, as declarations (this project)
abbrev pub front_comments : StmtTrees → List DeclTree
front_comments (more_stmts (Comment text) rest) = Remark text ∷ front_comments rest
front_comments ss = []

-- the statements from the first on that is no comment (this project)
abbrev pub behind_comments : StmtTrees → StmtTrees
behind_comments (more_stmts (Comment text) rest) = behind_comments rest
behind_comments ss = ss

-- the program with the comments before its first statement among the declarations (this project)
abbrev pub settled : ProgramTree → ProgramTree
settled t = record { decls = t.decls ++ front_comments t.body; body = behind_comments t.body }

-- the main program with the first of its CALLs in text order expanded, as many as given, and without the others (this project)
abbrev pub partial : ProgramUnits → ℕ → ProgramTree
partial us m = settled (with_statements us (main_expanded us (first_calls m us.main.tree.body)))

-- with this many CALLs expanded the main program has too many statements, each later CALL counted as one; or it is no program of the profile, since it passes a limit (this project)
abbrev pub passes_limit : ProgramUnits → ℕ → Bool
passes_limit us m = nat_lt most_statements (statements_count (partial us m).body + (calls_count us.main.tree.body - m)) || not (fits (partial us m))

-- with this many CALLs expanded the main program passes a limit: one of statements; or one of storage and references and none of statements (this project)
abbrev pub IsPast : ProgramUnits → ℕ → Refusal → Type 0
IsPast us m Limit = passes_limit us m ≡ true
IsPast us m StorageLimit = (passes_limit us m ≡ false) × (name_refusals [] (partial us m) ≡ [] → ⊥)
IsPast us m r = ⊥

-- no limit is passed up to this many expanded CALLs (this project)
abbrev pub IsWithin : ProgramUnits → ℕ → Type 0
IsWithin us most = (m : ℕ) (r : Refusal) → 1 ≤ m → m ≤ most → IsPast us m r → ⊥

-- the program with all CALLs expanded isn't valid; a limit is passed at a CALL of the main program, and at none before it (this project)
pub record IsFirstPast (us : ProgramUnits) (r : Refusal) (line : ℕ) : Type 0 where
  pub invalid : IsValid (expansion us) → ⊥
  pub before : ℕ
  pub call : Placed
  pub is_call : slice_get (calls_of us.main) before ≡ Some call
  pub past : IsPast us (before + 1) r
  pub within : IsWithin us before
  pub there : call.line ≡ line

-- why a file of program units isn't opened: a rule of texts, or one of CALLs
pub data UnitRule : Type 0 where
  of_text : Refusal → UnitRule
  of_links : LinkRefusal → UnitRule

-- the number of a rule (this project)
abbrev pub number_of_rule : UnitRule → ℕ
number_of_rule (of_text r) = number_of r
number_of_rule (of_links r) = number_of_link r

-- the name of a rule (this project)
abbrev pub name_of_rule : UnitRule → List ℕ
name_of_rule (of_text r) = name_of_refusal r
name_of_rule (of_links r) = name_of_link r

-- a rule that is broken at a line
pub record UnitFinding : Type 0 where
  pub rule : UnitRule
  pub line : ℕ

-- a refusal of texts as one of files of program units
abbrev pub found_in_text : Finding → UnitFinding
found_in_text f = record { rule = of_text f.refusal; line = f.line }

-- the text reads as these units, whose names are right (this project)
pub record ReadsRightUnits (text : List ℕ) (us : ProgramUnits) : Type 0 where
  pub reads : ReadsUnits text us
  pub names : units_name_refusals (all_units us) ≡ []

-- and whose CALLs are right
pub record ReadsLinkedUnits (text : List ℕ) (us : ProgramUnits) : Type 0 where
  pub right : ReadsRightUnits text us
  pub linked : IsLinked us

-- the first refusal of a file of program units: those of lines decide before those of statements, these before those of names, these before those of CALLs, and these before limits that are passed in expanding (this project)
pub data RefusesUnits (text : List ℕ) (first : UnitFinding) : Type 0 where
  in_lines : (f : Finding) → first ≡ found_in_text f → first_line_refusal text ≡ Some f → RefusesUnits text first
  in_statements : (f : Finding) → first ≡ found_in_text f → (entries : List UnitEntry) → IsCutIntoUnits text entries → first_segments_refusal text entries ≡ Some f → RefusesUnits text first
  in_names : (f : Finding) → first ≡ found_in_text f → (us : ProgramUnits) → ReadsUnits text us → first_of (units_name_refusals (all_units us)) ≡ Some f → RefusesUnits text first
  in_links : (r : LinkRefusal) → first.rule ≡ of_links r → (us : ProgramUnits) → ReadsRightUnits text us → IsFirstLink us r first.line → RefusesUnits text first
  in_expanding : (r : Refusal) → first.rule ≡ of_text r → (us : ProgramUnits) → ReadsLinkedUnits text us → IsFirstPast us r first.line → RefusesUnits text first

-- the text is a file of program units that expands to this program, which is valid, and nothing is refused (this project)
pub record IsExpansion (text : List ℕ) (t : ProgramTree) : Type 0 where
  pub units : ProgramUnits
  pub linked : ReadsLinkedUnits text units
  pub expands : expansion units ≡ t
  pub valid : IsValid t
