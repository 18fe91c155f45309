-- Programs in which statements have been exchanged for others, where the old ones end with a DO (ParaScope; this project).
use Rattle.std.specs.Prelude.{◌≡◌, ℕ, ◌+◌, ◌<◌, ◌≤◌, List, true, false, ◌⊎◌}
use Rattle.std.specs.List.{flat_map}
use Rattle.ped_bodies.specs.ped_flow.specs.ped_base.specs.Lists.{is_among}
use Rattle.ped_bodies.specs.ped_flow.specs.ped_tree.specs.Tree.{Head, StmtTrees, Do, ProgramTree}
use Rattle.ped_bodies.specs.ped_flow.specs.ped_tree.specs.Numbering.{statements_count}
use Rattle.ped_bodies.specs.ped_flow.specs.ped_tree.specs.Accesses.{constant_names}
use Rattle.ped_bodies.specs.ped_flow.specs.ped_tree.specs.NamesIn.{all_loop_variables}
use Rattle.ped_bodies.specs.ped_flow.specs.Questions.{IsShownBehind}
use Rattle.ped_bodies.specs.ped_flow.specs.ped_tree.specs.NamesIn.{saved_in}
use Rattle.ped_bodies.specs.ped_flow.specs.Summaries.{summary_of_all}
use Rattle.ped_bodies.specs.ped_laws.specs.FlowRuns.Covering.{some_stop}
use Rattle.ped_bodies.specs.ped_steps.specs.Replacing.{followed, alone}
use Rattle.ped_bodies.specs.ped_steps.specs.Runs.Gaps.{Gap, filled, number_at}
use Rattle.ped_loop_runs.specs.Writing.{all_write, some_write_index}

-- the gap in which two programs differ; the old statements there, of which a DO is the last; and the new ones (plain words)
pub record Exchange : Type 0 where
  pub gap : Gap
  pub front : StmtTrees
  pub head : Head
  pub body : StmtTrees
  pub new : StmtTrees

-- the old statements (plain words)
abbrev pub old_of : Exchange → StmtTrees
old_of x = followed x.front (alone (Do x.head x.body))

-- the number of the first of them, and of the first of the new ones (plain words)
abbrev pub start_of : Exchange → ℕ
start_of x = number_at x.gap 1

-- the number of the DO that is the last of the old ones (plain words)
abbrev pub loop_of : Exchange → ℕ
loop_of x = start_of x + statements_count x.front

-- the second program has the new statements where the first has the old ones, the same named constants and the same SAVE; no STOP is in the new ones. Comments that have come to the front of the program are among its declarations (ParaScope; this project)
pub record IsExchanged (x : Exchange) (t u : ProgramTree) : Type 0 where
  pub old_body : t.body ≡ filled x.gap (old_of x)
  pub comments : StmtTrees
  pub uncounted : statements_count comments ≡ 0
  pub new_body : followed comments u.body ≡ filled x.gap x.new
  pub constants : constant_names u.decls ≡ constant_names t.decls
  pub saved : flat_map saved_in u.decls ≡ flat_map saved_in t.decls
  pub unstopped : some_stop x.new ≡ false

-- the statement with number k stays and has number m now: before the gap it keeps its number, after it counts on from the new statements (plain words)
abbrev pub IsStaying : Exchange → ℕ → ℕ → Type 0
IsStaying x k m = ((k < start_of x) × (m ≡ k)) ⊎ ((i : ℕ) × (k ≡ start_of x + statements_count (old_of x) + i) × (m ≡ start_of x + statements_count x.new + i))

-- the number is that of a new statement (plain words)
abbrev pub IsNew : Exchange → ℕ → Type 0
IsNew x m = (start_of x ≤ m) × (m < start_of x + statements_count x.new)

-- where the name is the variable of a DO among the old statements or in one, it is so among the new ones (ANSI X3.9-1978, section 11.10)
abbrev pub KeepsVariable : Exchange → List ℕ → Type 0
KeepsVariable x w = is_among w (all_loop_variables (old_of x)) ≡ true → is_among w (all_loop_variables x.new) ≡ true

-- no statement of the program writes the name, and it isn't saved (ANSI X3.9-1978, section 8.9; this project)
pub record IsUnused (t : ProgramTree) (w : List ℕ) : Type 0 where
  pub unwritten : all_write (constant_names t.decls) w t.body ≡ false
  pub unsaved : is_among w (flat_map saved_in t.decls) ≡ false

-- the new statements leave alone what a tidy program leaves alone. The variables of the old DO loops are those of new ones, and what further variables these have, the old program doesn't use; none of the old ones may be shown after the old DO. The new statements write no name that the old ones don't, and no PARALLEL DO among them writes its variables where none of the old ones does; and where some path through them leaves a name as it is that is no variable of theirs, so does one through the old ones (ParaScope; this project)
pub record LeavesAlone (x : Exchange) (t : ProgramTree) : Type 0 where
  pub variables : (w : List ℕ) → KeepsVariable x w
  pub further : (w : List ℕ) → is_among w (all_loop_variables x.new) ≡ true → is_among w (all_loop_variables (old_of x)) ≡ false → IsUnused t w
  pub unshown : (w : List ℕ) → is_among w (all_loop_variables (old_of x)) ≡ true → IsShownBehind t (loop_of x) w → ⊥
  pub writes : (w : List ℕ) → all_write (constant_names t.decls) w (old_of x) ≡ false → all_write (constant_names t.decls) w x.new ≡ false
  pub unwritten : some_write_index (constant_names t.decls) (old_of x) ≡ false → some_write_index (constant_names t.decls) x.new ≡ false
  pub leaves : (w : List ℕ) → is_among w (all_loop_variables x.new) ≡ false → (summary_of_all (constant_names t.decls) w x.new (start_of x)).keeps ≡ true → (summary_of_all (constant_names t.decls) w (old_of x) (start_of x)).keeps ≡ true
