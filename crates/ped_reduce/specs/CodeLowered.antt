-- What comes of a program when lists are lowered, as the code has it (this project).
use Rattle.std.specs.Prelude.{◌≡◌, ◌≤◌, ℕ, ◌+◌, ◌*◌, List, [], ◌∷◌, ◌++◌, map, length, true, Option, Some, None}
use Rattle.ped_tree.specs.Tree.{Head, StmtTrees, Do, ProgramTree}
use Rattle.ped_tree.specs.Views.{program_tree}
use Rattle.ped_rules.specs.ped_symbols.specs.Kinds.{table_of}
use Rattle.ped_rules.specs.ped_symbols.specs.NameRefusals.{IsValid}
use Rattle.ped_rules.specs.ped_steps.specs.Causes.{IsFirstCause}
use Rattle.ped_reduce.specs.declared.lowering.Lowered.{Lowered as CodeLowered}
use Rattle.ped_reduce.specs.declared.lowering.Made.{Made}
use Rattle.ped_reduce.specs.Lowering.{Partials, Lowered, origins_behind, gained, lowered_statement, lowered_at}
use Rattle.ped_reduce.specs.CodeLowering.{partials_view}
use Rattle.ped_reduce.specs.Reducing.{StandsAgainstSumming, carried_beside, IsLive}

-- what comes of a program by lowering
abbrev pub lowered_view : CodeLowered → Lowered
lowered_view l = record { tree = program_tree l.tree; origin = l.origin.items; live = l.live.items; more = l.more }

-- the program is valid and has no lines, and these are its names; it has at most 10000 further statements for each statement that was looked at
pub record IsKept (looked : ℕ) (l : CodeLowered) : Type 0 where
  pub valid : IsValid (program_tree l.tree)
  pub lines : l.tree.lines.items ≡ []
  pub symbols : l.symbols ≡ table_of (program_tree l.tree)
  pub few : l.more ≤ 10000 * looked

-- nothing forbids sums of these names in any order
abbrev pub IsFree : ProgramTree → (s : ℕ) → List (List ℕ) → Type 0
IsFree t s names = IsFirstCause t (StandsAgainstSumming s names t) (carried_beside t s names) None

-- what comes of lowering a DO that is live, or that it isn't live
abbrev pub IsLiveAt : ProgramTree → (s : ℕ) → CodeLowered → Option CodeLowered → Type 0
IsLiveAt t s l None = (r : Lowered) → IsLive t s (lowered_view l) r → ⊥
IsLiveAt t s l (Some new) = IsLive t s (lowered_view l) (lowered_view new) × IsKept s new

-- what comes of lowering the DO with number s too, where the program is valid; or that it isn't
abbrev pub IsNext : (s : ℕ) → List (List ℕ) → CodeLowered → Option CodeLowered → Type 0
IsNext s names l None = (r : Lowered) → lowered_at true (lowered_view l) s names ≡ Some r → IsValid r.tree → ⊥
IsNext s names l (Some new) = (lowered_at true (lowered_view l) s names ≡ Some (lowered_view new)) × IsKept s new

-- the program in which the DO with number s is lowered too is valid
abbrev pub IsLowerable : (s : ℕ) → List (List ℕ) → CodeLowered → Type 0
IsLowerable s names l = (r : Lowered) × (lowered_at true (lowered_view l) s names ≡ Some r) × IsValid r.tree

-- the arrays of all scalars
abbrev pub partials_in : Made → List Partials
partials_in made = map partials_view made.partials.items

-- what comes of lowering the DO with number s too, with this program and these arrays
abbrev pub next_view : (s : ℕ) → CodeLowered → StmtTrees → Made → Lowered
next_view s l body made = record {
  tree = program_tree made.tree;
  origin = origins_behind s (s + l.more) (partials_in made) body l.origin.items;
  live = l.live.items ++ s ∷ [];
  more = l.more + gained (partials_in made) body;
}

-- the program in which the DO is lowered too, with its arrays, one for each name; or that there is none
abbrev pub IsMade : (s : ℕ) → List (List ℕ) → CodeLowered → Head → StmtTrees → Option Made → Type 0
IsMade s names l h body None = lowered_statement true (lowered_view l) s names (Do h body) ≡ None
IsMade s names l h body (Some made) = (lowered_statement true (lowered_view l) s names (Do h body) ≡ Some (next_view s l body made)) × (length made.partials.items ≡ length names) × (made.tree.lines.items ≡ [])

-- what comes of lowering with this program, where it is valid; or that it isn't
abbrev pub IsNextBy : (s : ℕ) → CodeLowered → StmtTrees → Made → Option CodeLowered → Type 0
IsNextBy s l body made None = IsValid (program_tree made.tree) → ⊥
IsNextBy s l body made (Some new) = (lowered_view new ≡ next_view s l body made) × IsKept s new
