-- The first statement that reads a scalar outside the bodies of all DO loops of it.
use Rattle.std.proofs.Common.{◌≡◌, ℕ, ◌+◌, Bool, true, false, not, ◌&&◌, ◌||◌, ◌==◌, ◌⊎◌, IsTrue, List, [], ◌∷◌, Option, Some, None, refl, inl, inr, if◌then◌else◌, arith, eqb-true}
use Rattle.std.specs.List.{list_any}
use Rattle.ped_base.specs.Lists.{is_same_text}
use Rattle.ped_tree.specs.Tree.{StmtTree, StmtTrees, Assign, If, Do, Print, Read, Stop, Comment, no_stmts, more_stmts}
use Rattle.ped_tree.specs.Numbering.{statement_count, statements_count}
use Rattle.ped_flow.specs.Events.{Manner, reads, assigns, clears, Event, is_overwriting, is_read_by, own_events}
use Rattle.ped_flow.specs.Questions.{IsFirst, reads_outside, all_reads_outside}
use Rattle.ped_flow.specs.Summaries.{least_of}
use Rattle.ped_flow.specs.Kept.{reader_in, first_reader, unless, first_outside, all_first_outside}
use Rattle.ped_flow.proofs.Truths.{untrue, or_split}
use Rattle.ped_flow.proofs.FirstLaws.{first_map, first_or}

either_true : (a b : Bool) → IsTrue a ⊎ IsTrue b → IsTrue (a || b)
either_true true b s = refl
either_true false b (inl i) = untrue i
either_true false b (inr i) = i

-- the first of two tests
pub first_any : (f g : ℕ → Bool) (a b : Option ℕ) → IsFirst (λ k. IsTrue (f k)) a → IsFirst (λ k. IsTrue (g k)) b → IsFirst (λ k. IsTrue (f k || g k)) (least_of a b)
first_any f g a b h i =
    first_map (λ k. IsTrue (f k) ⊎ IsTrue (g k)) (λ k. IsTrue (f k || g k)) (least_of a b) (λ k s. either_true (f k) (g k) s) (λ k s. or_split (f k) (g k) s)
    (first_or (λ k. IsTrue (f k)) (λ k. IsTrue (g k)) a b h i)

reader_by_parts : (same : Bool) (manner : Manner) (statement : ℕ) → IsFirst (λ k. IsTrue (same && not (is_overwriting manner) && statement == k)) (if same && not (is_overwriting manner) then Some statement else None)
reader_by_parts false manner statement = λ k i. untrue i
reader_by_parts true reads statement = (grind (arith, eqb-true), λ k i. let e : (statement == k) ≡ true = i in grind (arith, eqb-true))
reader_by_parts true assigns statement = λ k i. untrue i
reader_by_parts true clears statement = λ k i. untrue i

events_first : (x : List ℕ) (events : List Event) → IsFirst (λ k. IsTrue (list_any (is_read_by x k) events)) (first_reader x events)
events_first x [] = λ k i. untrue i
events_first x (e ∷ rest) = first_any (λ k. is_read_by x k e) (λ k. list_any (is_read_by x k) rest) (reader_in x e) (first_reader x rest) (reader_by_parts (is_same_text x e.scalar) e.manner e.statement) (events_first x rest)

unless_first : (r : Bool) (g : ℕ → Bool) (b : Option ℕ) → IsFirst (λ k. IsTrue (g k)) b → IsFirst (λ k. IsTrue (not r && g k)) (unless r b)
unless_first true g b h = λ k i. untrue i
unless_first false g b h = h

mutual
  pub outside_first : (cs : List (List ℕ)) (x : List ℕ) (s : StmtTree) (n : ℕ) → IsFirst (λ k. IsTrue (reads_outside cs x k s n)) (first_outside cs x s n)
  outside_first cs x (Assign left right) n = events_first x (own_events cs n (Assign left right))
  outside_first cs x (If c a b) n =
      first_any (λ k. list_any (is_read_by x k) (own_events cs n (If c a b))) (λ k. all_reads_outside cs x k a (n + 1) || all_reads_outside cs x k b (n + 1 + statements_count a))
      (first_reader x (own_events cs n (If c a b))) (least_of (all_first_outside cs x a (n + 1)) (all_first_outside cs x b (n + 1 + statements_count a)))
      (events_first x (own_events cs n (If c a b)))
      (first_any (λ k. all_reads_outside cs x k a (n + 1)) (λ k. all_reads_outside cs x k b (n + 1 + statements_count a)) (all_first_outside cs x a (n + 1)) (all_first_outside cs x b (n + 1 + statements_count a))
      (all_outside_first cs x a (n + 1)) (all_outside_first cs x b (n + 1 + statements_count a)))
  outside_first cs x (Do h body) n =
      first_any (λ k. list_any (is_read_by x k) (own_events cs n (Do h body))) (λ k. not (is_same_text x h.variable) && all_reads_outside cs x k body (n + 1))
      (first_reader x (own_events cs n (Do h body))) (unless (is_same_text x h.variable) (all_first_outside cs x body (n + 1)))
      (events_first x (own_events cs n (Do h body)))
      (unless_first (is_same_text x h.variable) (λ k. all_reads_outside cs x k body (n + 1)) (all_first_outside cs x body (n + 1)) (all_outside_first cs x body (n + 1)))
  outside_first cs x (Print items) n = events_first x (own_events cs n (Print items))
  outside_first cs x (Read items) n = events_first x (own_events cs n (Read items))
  outside_first cs x Stop n = λ k i. untrue i
  outside_first cs x (Comment text) n = λ k i. untrue i

  pub all_outside_first : (cs : List (List ℕ)) (x : List ℕ) (ss : StmtTrees) (n : ℕ) → IsFirst (λ k. IsTrue (all_reads_outside cs x k ss n)) (all_first_outside cs x ss n)
  all_outside_first cs x no_stmts n = λ k i. untrue i
  all_outside_first cs x (more_stmts s rest) n =
      first_any (λ k. reads_outside cs x k s n) (λ k. all_reads_outside cs x k rest (n + statement_count s)) (first_outside cs x s n) (all_first_outside cs x rest (n + statement_count s))
      (outside_first cs x s n) (all_outside_first cs x rest (n + statement_count s))
