-- What is known of each statement of a program, by its number, for the scalars that have places. Only contracts of private functions use these definitions.
use Rattle.std.specs.Prelude.{◌≡◌, ℕ, ◌+◌, ◌<◌, ◌≤◌, ◌⊎◌, List, Bool, true, false, Option, Some, None, slice_index_or}
use Rattle.ped_tree.specs.Tree.{StmtTree, StmtTrees, Assign, If, Do, Print, Read, Stop, Comment, no_stmts, more_stmts}
use Rattle.ped_tree.specs.Numbering.{all_numbered, at_place, statement_count, statements_count}
use Rattle.ped_tree.specs.NamesIn.{loop_variables}
use Rattle.ped_flow.specs.Summaries.{passing, summary_of}
use Rattle.ped_flow.specs.Kept.{first_outside}
use Rattle.ped_flow.specs.RowPlaces.{place_of, bit}
use Rattle.ped_flow.specs.RowMarks.{names_in, constants_in}
use Rattle.ped_flow.specs.Parts.{IsPart}
use Rattle.ped_flow.specs.declared.places.Places.{Places}
use Rattle.ped_flow.specs.declared.entries.Entry.{Entry}
use Rattle.ped_flow.specs.declared.asked.Scalar.{Scalar}

-- what is known of the statement with a number, where something is
abbrev pub entry_at : List (Option Entry) → ℕ → Option Entry
entry_at table n = slice_index_or table n None

-- the statement is a DO
abbrev pub is_do : StmtTree → Bool
is_do (Assign left right) = false
is_do (If condition then_part else_part) = false
is_do (Do h body) = true
is_do (Print items) = false
is_do (Read items) = false
is_do Stop = false
is_do (Comment text) = false

-- this is known of the statement with a number
pub record IsEntry (p : Places) (e : Entry) (s : StmtTree) (n : ℕ) : Type 0 where
  pub part : IsPart (names_in p) e.part (λ x. summary_of (constants_in p) x s n) (λ x. first_outside (constants_in p) x s n) (loop_variables s)
  pub touched : (x : List ℕ) (i : ℕ) → place_of (names_in p) x ≡ Some i → bit e.touched i ≡ false → summary_of (constants_in p) x s n ≡ passing
  pub behind : e.behind ≡ n + statement_count s

-- what a table knows of the statement with a number, if anything, is true of it
abbrev pub IsEntered : Places → List (Option Entry) → StmtTree → ℕ → Type 0
IsEntered p table s n = (e : Entry) → entry_at table n ≡ Some e → IsEntry p e s n

-- what a table knows of a statement with a number and of those in it is true
abbrev mutual
  pub Knows : Places → List (Option Entry) → StmtTree → ℕ → Type 0
  Knows p table (Assign left right) n = IsEntered p table (Assign left right) n
  Knows p table (If condition then_part else_part) n =
      IsEntered p table (If condition then_part else_part) n × KnowsAll p table then_part (n + 1) × KnowsAll p table else_part (n + 1 + statements_count then_part)
  Knows p table (Do h body) n = IsEntered p table (Do h body) n × KnowsAll p table body (n + 1)
  Knows p table (Print items) n = IsEntered p table (Print items) n
  Knows p table (Read items) n = IsEntered p table (Read items) n
  Knows p table Stop n = IsEntered p table Stop n
  Knows p table (Comment text) n = Unit {0}

  -- the same of statements, of which the first has this number
  pub KnowsAll : Places → List (Option Entry) → StmtTrees → ℕ → Type 0
  KnowsAll p table no_stmts n = Unit {0}
  KnowsAll p table (more_stmts s rest) n = Knows p table s n × KnowsAll p table rest (n + statement_count s)

-- the same of the statements of a program, by their numbers
abbrev pub AreEntered : Places → List (Option Entry) → StmtTrees → Type 0
AreEntered p table ss = (k : ℕ) (s : StmtTree) → at_place (all_numbered ss) k ≡ Some s → IsEntered p table s (1 + k)

-- a table knows of the statements in a statement with a number
abbrev pub KnowsInside : Places → List (Option Entry) → StmtTree → ℕ → Type 0
KnowsInside p table (Assign left right) n = Unit {0}
KnowsInside p table (If condition then_part else_part) n = KnowsAll p table then_part (n + 1) × KnowsAll p table else_part (n + 1 + statements_count then_part)
KnowsInside p table (Do h body) n = KnowsAll p table body (n + 1)
KnowsInside p table (Print items) n = Unit {0}
KnowsInside p table (Read items) n = Unit {0}
KnowsInside p table Stop n = Unit {0}
KnowsInside p table (Comment text) n = Unit {0}

-- two tables know the same of all statements but for these numbers
abbrev pub AreSameBut : List (Option Entry) → List (Option Entry) → ℕ → ℕ → Type 0
AreSameBut old new from to = (k : ℕ) → ((k < from) ⊎ (to ≤ k)) → entry_at new k ≡ entry_at old k

-- the same of a statement with a number, for a scalar that is asked about
abbrev pub IsKnown : Scalar → StmtTree → ℕ → Type 0
IsKnown asked s n = Knows asked.places.now asked.table.now s n

-- and of statements, of which the first has this number
abbrev pub AreKnown : Scalar → StmtTrees → ℕ → Type 0
AreKnown asked ss n = KnowsAll asked.places.now asked.table.now ss n
