-- The result of expanding the first CALLs of a main program, as the code reports it. Only contracts of private functions use it.
use Rattle.std.specs.Prelude.{◌≡◌, ◌+◌, ◌++◌, ℕ, List, [], ◌∷◌, Option, Some, None, Bool, true, false, not, ◌||◌, nat_lt}
use Rattle.ped_tree.specs.Tree.{StmtTree, StmtTrees, Assign, If, Do, Print, Read, Stop, Comment, DeclTree, ProgramTree}
use Rattle.ped_tree.specs.Views.{program_tree}
use Rattle.ped_tree.specs.Numbering.{statements_count}
use Rattle.ped_tree.specs.Grammar.LimitNumbers.{most_statements}
use Rattle.ped_tree.specs.Grammar.Fits.{fits, begins_with_statement}
use Rattle.ped_tree.specs.Grammar.Refusal.{Refusal}
use Rattle.ped_links.specs.ped_symbols.specs.Kinds.{table_of}
use Rattle.ped_links.specs.ped_symbols.specs.NameRefusals.{name_refusals, IsValid}
use Rattle.ped_links.specs.ped_units.specs.Units.{ProgramUnits}
use Rattle.ped_links.specs.ped_units.specs.Expanding.{main_expanded, with_statements, behind_stmts}
use Rattle.ped_links.specs.ped_units.specs.Verdicts.{front_comments, behind_comments, settled, calls_count, partial, IsPast, of_text, IsFirstPast}
use Rattle.ped_links.specs.ped_units.specs.Views.{unit_finding_of}
use Rattle.ped_tree.specs.Grammar.RefusalViews.{kind_of}
use Rattle.ped_tree.specs.declared.grammar.refusals.RefusalKind.{RefusalKind}
use Rattle.ped_links.specs.ped_units.specs.declared.refusals.UnitRefusal.{UnitRefusal}
use Rattle.ped_links.specs.ped_units.specs.declared.refusals.UnitRefusal.TheVariants.{At, NoMemory}
use Rattle.ped_calls.specs.declared.opening.Judgement.{Judgement}
use Rattle.ped_calls.specs.declared.opening.Judgement.TheVariants.{Valid, PastStatements, PastStorage}

-- the main program with these statements, in which each CALL is expanded
abbrev pub expanded_program : ProgramUnits → StmtTrees → ProgramTree
expanded_program us ss = settled (with_statements us (main_expanded us ss))

-- it has too many statements with this many later CALLs, each counted as one; or it is no program of the profile
abbrev pub has_many : ProgramUnits → StmtTrees → ℕ → Bool
has_many us ss later = nat_lt most_statements (statements_count (expanded_program us ss).body + later) || not (fits (expanded_program us ss))

-- the result of expanding these statements, where this many CALLs come later
abbrev pub Judges : ProgramUnits → StmtTrees → ℕ → Judgement → Type 0
Judges us ss later (Valid o) = (has_many us ss later ≡ false) × IsValid (expanded_program us ss) × (program_tree o.program ≡ expanded_program us ss) × (o.symbols ≡ table_of (expanded_program us ss))
Judges us ss later PastStatements = has_many us ss later ≡ true
Judges us ss later PastStorage = (has_many us ss later ≡ false) × (name_refusals [] (expanded_program us ss) ≡ [] → ⊥)

-- what a program is judged by itself
abbrev pub JudgesProgram : ProgramTree → Judgement → Type 0
JudgesProgram t (Valid o) = IsValid t × (program_tree o.program ≡ t) × (o.symbols ≡ table_of t)
JudgesProgram t PastStatements = fits t ≡ false
JudgesProgram t PastStorage = (fits t ≡ true) × (name_refusals [] t ≡ [] → ⊥)

-- statements placed after declarations: comments before the first statement belong to these
abbrev pub placed : List DeclTree → List StmtTree → StmtTrees → ProgramTree
placed ds [] left = record { decls = ds ++ front_comments left; body = behind_comments left }
placed ds (s ∷ ss) left = record { decls = ds; body = behind_stmts (s ∷ ss) left }

-- a comment
abbrev pub is_comment : StmtTree → Bool
is_comment (Assign left right) = false
is_comment (If condition then_part else_part) = false
is_comment (Do h body) = false
is_comment (Print items) = false
is_comment (Read items) = false
is_comment Stop = false
is_comment (Comment text) = true

-- no comment comes before the first statement of a main program, which is valid where it has no CALL
pub record StartsWell (us : ProgramUnits) : Type 0 where
  pub begins : begins_with_statement us.main.tree.body ≡ true
  pub valid : calls_count us.main.tree.body ≡ 0 → IsValid us.main.tree

-- the first limit that expanding passes, or out of memory
abbrev pub IsPastAt : ProgramUnits → UnitRefusal → Type 0
IsPastAt us NoMemory = Unit {0}
IsPastAt us (At f) = (r : Refusal) × ((unit_finding_of f).rule ≡ of_text r) × IsFirstPast us r (unit_finding_of f).line

-- no limit is passed where this many CALLs are expanded, and the program is valid; or this one is
abbrev pub FindsPast : ProgramUnits → ℕ → Option RefusalKind → Type 0
FindsPast us m None = ((r : Refusal) → IsPast us m r → ⊥) × IsValid (partial us m)
FindsPast us m (Some kind) = IsPast us m (kind_of kind)
