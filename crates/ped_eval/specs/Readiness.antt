-- What the code needs to run statements: that names are where they may be, and that their cells exist in the store (this project).
use Rattle.std.specs.Prelude.{◌≡◌, ◌≤◌, ◌<◌, ◌^◌, ℕ, ◌+◌, ℤ, List, length, true}
use Rattle.ped_tree.specs.Tree.{StmtTree, StmtTrees}
use Rattle.ped_tree.specs.Numbering.{statement_count, statements_count}
use Rattle.ped_symbols.specs.Entries.{entry_of}
use Rattle.ped_symbols.specs.Kinds.{Table}
use Rattle.ped_store.specs.Cells.{Scalar, Element}
use Rattle.ped_store.specs.Memories.{Memory}
use Rattle.ped_store.specs.Variables.{no_dimensions}
use Rattle.ped_symbols.specs.RightUses.RightUses.{NameKinds, is_scalar, has_rank, is_rank, stmt_is_right, stmts_are_right}
use Rattle.ped_symbols.specs.RightUses.RightLoops.{loop_depth, loops_deep, stmt_steps_are_right, steps_are_right}
use Rattle.ped_eval.specs.Scopes.{Setting, Scope}
use Rattle.ped_eval.specs.Outcomes.{bounds_of}
use Rattle.ped_eval.specs.Agreement.{DoCopiesStand}

-- what names stand for by a table
abbrev pub kinds_by : Table → NameKinds
kinds_by table x = entry_of table.kinds x

-- the setting of a program with this table
abbrev pub setting_by : Table → Setting
setting_by table = record { bounds = λ x. bounds_of (kinds_by table x); constants = table.constants; number = λ n. n }

-- a setting with these constants and no arrays
abbrev pub setting_with : List (List ℕ × ℤ) → Setting
setting_with constants = record { bounds = λ x. no_dimensions; constants = constants; number = λ n. n }

-- all that can be written in these iterations exists, and arrays have their bounds
pub record IsReady (table : Table) (scope : Scope) (m : Memory) : Type 0 where
  pub bounds : m.bounds ≡ (setting_by table).bounds
  pub scalars : (x : List ℕ) → is_scalar (kinds_by table) x ≡ true → m.stands (Scalar x) ≡ true
  pub elements : (x : List ℕ) (js : List ℤ) → has_rank (kinds_by table) (length js) x ≡ true → is_rank (length js) ≡ true → m.stands (Element x js) ≡ true
  pub copies : DoCopiesStand scope m.stands

-- a statement with number n can be run in these iterations
pub record CanDo (table : Table) (scope : Scope) (n : ℕ) (t : StmtTree) : Type 0 where
  pub right : stmt_is_right (kinds_by table) t ≡ true
  pub steps : stmt_steps_are_right table.constants t ≡ true
  pub nested : length scope + loop_depth t ≤ 6
  pub few : n + statement_count t < 2 ^ 31

-- statements, the first of them with number n, can be run in these iterations
pub record CanRun (table : Table) (scope : Scope) (n : ℕ) (ts : StmtTrees) : Type 0 where
  pub right : stmts_are_right (kinds_by table) ts ≡ true
  pub steps : steps_are_right table.constants ts ≡ true
  pub nested : length scope + loops_deep ts ≤ 6
  pub few : n + statements_count ts < 2 ^ 31
