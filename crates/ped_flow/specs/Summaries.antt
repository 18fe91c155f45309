-- What the paths of a part of a program do to one scalar, in short. Only contracts of private functions and laws use these definitions (this project).
use Rattle.std.specs.Prelude.{◌≡◌, ℕ, ◌+◌, min, nat_le, List, [], ◌∷◌, Bool, true, false, ◌&&◌, ◌||◌, ◌==◌, ◌↔◌, IsTrue, Option, Some, None, if◌then◌else◌}
use Rattle.ped_base.specs.Lists.{is_same_text}
use Rattle.ped_tree.specs.Tree.{Head, StmtTree, StmtTrees, Assign, If, Do, Print, Read, Stop, Comment, no_stmts, more_stmts}
use Rattle.ped_tree.specs.Numbering.{statement_count, statements_count}
use Rattle.ped_flow.specs.Events.{Manner, reads, assigns, clears, Event, own_events, start_events, exit_events, overwrites, reads_first, has_value}
use Rattle.ped_flow.specs.PathSets.{Kind, Paths, Whole}
use Rattle.ped_flow.specs.Questions.{IsFirst}
use Rattle.ped_flow.specs.declared.summaries.Summary.{Summary}

-- what the paths that go on do to a scalar: whether one of them leaves it as it is, whether there is one, and whether one of them takes its value
pub record AreOnward (P : Kind) (x : List ℕ) (m : Summary) : Type 0 where
  pub keeps : IsTrue m.keeps ↔ ((path : List Event) × P path × (overwrites x path ≡ false))
  pub passes : IsTrue m.passes ↔ ((path : List Event) × P path)
  pub loses : IsTrue m.loses ↔ ((path : List Event) × P path × (has_value x true path ≡ false))

-- some path that goes on or ends reads the scalar by this statement before it is overwritten
abbrev pub IsReadOn : Paths → List ℕ → ℕ → Type 0
IsReadOn a x n = (path : List Event) × Whole a path × IsTrue (reads_first x n path)

-- what paths do to a scalar: those that go on, whether one of those that end leaves it as it is, and the first statement that reads it before it is overwritten
pub record AreSummed (a : Paths) (x : List ℕ) (m : Summary) : Type 0 where
  pub onward : AreOnward a.onward x m
  pub ends : IsTrue m.ends ↔ ((path : List Event) × a.ending path × (overwrites x path ≡ false))
  pub first : IsFirst (IsReadOn a x) m.first

-- the lesser of two numbers, where they are there (plain words)
abbrev pub least_of : Option ℕ → Option ℕ → Option ℕ
least_of None b = b
least_of (Some a) None = Some a
least_of (Some a) (Some b) = Some (min a b)

-- a path on which nothing happens to the scalar
abbrev pub passing : Summary
passing = record { first = None; keeps = true; ends = false; passes = true; loses = false }

-- no path
abbrev pub unreached : Summary
unreached = record { first = None; keeps = false; ends = false; passes = false; loses = false }

-- the path of a STOP
abbrev pub stopped : Summary
stopped = record { first = None; keeps = false; ends = true; passes = false; loses = false }

-- the statement with this number reads the scalar, or the scalar is assigned, or cleared
abbrev pub of_manner : Manner → ℕ → Summary
of_manner reads n = record { first = Some n; keeps = true; ends = false; passes = true; loses = false }
of_manner assigns n = record { first = None; keeps = false; ends = false; passes = true; loses = false }
of_manner clears n = record { first = None; keeps = false; ends = false; passes = true; loses = true }

-- a number where the test holds
abbrev pub when : Bool → Option ℕ → Option ℕ
when true n = n
when false n = None

-- one part and then another
abbrev pub summary_in_turn : Summary → Summary → Summary
summary_in_turn a b = record {
  first = least_of a.first (when a.keeps b.first);
  keeps = a.keeps && b.keeps;
  ends = a.ends || (a.keeps && b.ends);
  passes = a.passes && b.passes;
  loses = (a.loses && b.keeps) || (a.passes && b.loses);
}

-- either part
abbrev pub summary_either : Summary → Summary → Summary
summary_either a b = record {
  first = least_of a.first b.first;
  keeps = a.keeps || b.keeps;
  ends = a.ends || b.ends;
  passes = a.passes || b.passes;
  loses = a.loses || b.loses;
}

-- any number of trips
abbrev pub summary_trips : Summary → Summary
summary_trips a = record { first = a.first; keeps = true; ends = a.ends; passes = true; loses = a.loses }

-- an event
abbrev pub summary_event : List ℕ → Event → Summary
summary_event x e = if is_same_text x e.scalar then of_manner e.manner e.statement else passing

-- events in order
abbrev pub summary_events : List ℕ → List Event → Summary
summary_events x [] = passing
summary_events x (e ∷ rest) = summary_in_turn (summary_event x e) (summary_events x rest)

-- the trips of a DO, from what its body does, and then its exit
abbrev pub summary_loop : List ℕ → ℕ → Head → StmtTrees → Summary → Summary
summary_loop x n h body summary_of_body =
    summary_in_turn (summary_trips (summary_in_turn (summary_events x (start_events n h body)) summary_of_body)) (summary_events x (exit_events n h body))

-- a statement with this number
abbrev mutual
  pub summary_of : List (List ℕ) → List ℕ → StmtTree → ℕ → Summary
  summary_of constants x (Assign left right) n = summary_events x (own_events constants n (Assign left right))
  summary_of constants x (If condition then_part else_part) n =
      summary_in_turn (summary_events x (own_events constants n (If condition then_part else_part)))
      (summary_either (summary_of_all constants x then_part (n + 1)) (summary_of_all constants x else_part (n + 1 + statements_count then_part)))
  summary_of constants x (Do h body) n =
      summary_in_turn (summary_events x (own_events constants n (Do h body))) (summary_loop x n h body (summary_of_all constants x body (n + 1)))
  summary_of constants x (Print items) n = summary_events x (own_events constants n (Print items))
  summary_of constants x (Read items) n = summary_events x (own_events constants n (Read items))
  summary_of constants x Stop n = stopped
  summary_of constants x (Comment text) n = passing

  -- statements, of which the first has this number
  pub summary_of_all : List (List ℕ) → List ℕ → StmtTrees → ℕ → Summary
  summary_of_all constants x no_stmts n = passing
  summary_of_all constants x (more_stmts s rest) n = summary_in_turn (summary_of constants x s n) (summary_of_all constants x rest (n + statement_count s))

-- where this is so, a path on which nothing happens; else no path
abbrev pub summary_at_once : Bool → Summary
summary_at_once true = passing
summary_at_once false = unreached

-- the paths from the exit of a DO in a statement with this number
abbrev mutual
  pub summary_behind : List (List ℕ) → List ℕ → ℕ → StmtTree → ℕ → Summary
  summary_behind constants x l (Assign left right) n = unreached
  summary_behind constants x l (If condition then_part else_part) n =
      summary_either (summary_behind_all constants x l then_part (n + 1)) (summary_behind_all constants x l else_part (n + 1 + statements_count then_part))
  summary_behind constants x l (Do h body) n =
      summary_either (summary_at_once (l == n)) (summary_in_turn (summary_behind_all constants x l body (n + 1)) (summary_loop x n h body (summary_of_all constants x body (n + 1))))
  summary_behind constants x l (Print items) n = unreached
  summary_behind constants x l (Read items) n = unreached
  summary_behind constants x l Stop n = unreached
  summary_behind constants x l (Comment text) n = unreached

  -- the paths from the exit of a DO in statements, of which the first has this number
  pub summary_behind_all : List (List ℕ) → List ℕ → ℕ → StmtTrees → ℕ → Summary
  summary_behind_all constants x l no_stmts n = unreached
  summary_behind_all constants x l (more_stmts s rest) n =
      summary_either (summary_in_turn (summary_behind constants x l s n) (summary_of_all constants x rest (n + statement_count s)))
      (summary_behind_all constants x l rest (n + statement_count s))

-- the paths to the outermost DO in a statement with this number
abbrev mutual
  pub summary_before : List (List ℕ) → List ℕ → ℕ → StmtTree → ℕ → Summary
  summary_before constants x l (Assign left right) n = unreached
  summary_before constants x l (If condition then_part else_part) n =
      summary_in_turn (summary_events x (own_events constants n (If condition then_part else_part)))
      (summary_either (summary_before_all constants x l then_part (n + 1)) (summary_before_all constants x l else_part (n + 1 + statements_count then_part)))
  summary_before constants x l (Do h body) n = summary_at_once (nat_le n l && nat_le l (n + statements_count body))
  summary_before constants x l (Print items) n = unreached
  summary_before constants x l (Read items) n = unreached
  summary_before constants x l Stop n = unreached
  summary_before constants x l (Comment text) n = unreached

  -- the paths to the outermost DO among statements, of which the first has this number
  pub summary_before_all : List (List ℕ) → List ℕ → ℕ → StmtTrees → ℕ → Summary
  summary_before_all constants x l no_stmts n = unreached
  summary_before_all constants x l (more_stmts s rest) n =
      summary_either (summary_before constants x l s n) (summary_in_turn (summary_of constants x s n) (summary_before_all constants x l rest (n + statement_count s)))
