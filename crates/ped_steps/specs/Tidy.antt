-- Tidy programs: what a PARALLEL DO makes of the variables of the DO loops in it is nobody's business (ParaScope; this project).
use Rattle.std.specs.Prelude.{◌≡◌, ℕ, ◌+◌, List, Bool, true, false, nat_lt, ◌&&◌}
use Rattle.std.specs.List.{list_any}
use Rattle.ped_base.specs.Lists.{is_same_text}
use Rattle.ped_tree.specs.Tree.{StmtTrees, ProgramTree}
use Rattle.ped_tree.specs.Numbering.{statements_count}
use Rattle.ped_refs.specs.References.{Reference, references}
use Rattle.ped_weaves.specs.ped_flow.specs.Questions.{LoopOf, IsIndexIn, IsShownBehind}

-- a reference in the body of the DO with number l, which with those in it is this many statements, writes the name; what the DO's header refers to is outside (this project)
abbrev pub is_write_in : ℕ → ℕ → List ℕ → Reference → Bool
is_write_in l count x r = nat_lt l r.statement && nat_lt r.statement (l + count) && is_same_text x r.access.name && r.access.writes

-- a reference in the body of the DO with this number writes the name (Allen and Kennedy, section 2.2.1)
abbrev pub is_written_in : ProgramTree → ℕ → StmtTrees → List ℕ → Bool
is_written_in t l body x = list_any (is_write_in l (statements_count body + 1) x) (references t)

-- a variable of a DO: no reference in the DO writes it, and where it is saved, each path from the DO's exit to the end overwrites it (this project)
pub record IsLeftAlone (t : ProgramTree) (l : ℕ) (loop : LoopOf t l) (x : List ℕ) : Type 0 where
  pub unwritten : is_written_in t l loop.body x ≡ false
  pub unshown : IsShownBehind t l x → ⊥

-- a program is tidy: the variables of each PARALLEL DO and of the DO loops in it, of which its iterations have copies, are left alone (ParaScope; this project)
abbrev pub IsTidy : ProgramTree → Type 0
IsTidy t = (l : ℕ) (loop : LoopOf t l) → loop.head.parallel ≡ true → (x : List ℕ) → IsIndexIn t l x → IsLeftAlone t l loop x
