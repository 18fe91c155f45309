-- The copies of a finished iteration of an open loop can't be named any more.
use Rattle.std.proofs.Common.{◌≡◌, ◌⊎◌, inl, inr, ℕ, suc, ◌≤◌, List, true, arith}
use Rattle.ped_store.specs.Cells.{Iteration}
use Rattle.ped_interleavings.specs.ped_eval.specs.Scopes.{Scope}
use Rattle.ped_interleavings.specs.ped_eval.specs.Loops.{Entered}
use Rattle.ped_interleavings.specs.ped_eval.specs.Agreement.{path_of}
use Rattle.ped_interleavings.specs.Lefts.{Left, finished, begins, ends_turn, open_loop, Lefts, no_lefts, more_lefts, is_finished}
use Rattle.ped_machine.specs.Bases.{IsLonger}
use Rattle.ped_machine.specs.Naming.{IsInTurn, CanName, CanOneName, IsSpent, IsOneSpent, IsApart, AreApart}
use Rattle.ped_machine.proofs.IterationPaths.{turn_same, turn_not_front}

finished_names_none : (l : Left) (path : List Iteration) → is_finished l ≡ true → CanName l path → ⊥
finished_names_none finished path e h = h
finished_names_none (begins t n scope rest) path e h = absurd cc
finished_names_none (ends_turn d body n scope k more rest) path e h = absurd cc
finished_names_none (open_loop d n scope ls rest) path e h = absurd cc

module _ (e : Entered) (scope : Scope) (path : List Iteration) where
  -- in an iteration from number k on
  abbrev InFrom : ℕ → Type 0
  InFrom k = (j : ℕ) × (k ≤ j) × IsInTurn (path_of scope) e.number j path

  one_spent_in : (k : ℕ) (ls : Lefts) → IsOneSpent e scope k ls path → InFrom k
  one_spent_in k no_lefts h = absurd h
  one_spent_in k (more_lefts l ls) (inl (t, h)) = (k, omega arith, t)
  one_spent_in k (more_lefts l ls) (inr h) = let i = one_spent_in (suc k) ls h in (i.0, (let b = i.1 in omega (arith, b)), i.2)

  one_named_in : (k : ℕ) (ls : Lefts) → AreApart e scope k ls → CanOneName ls path → IsLonger path (path_of scope) ⊎ InFrom k
  one_named_in k no_lefts a h = absurd h
  one_named_in k (more_lefts l ls) a (inl h) = by (a.0 path h)
    where
      by : IsLonger path (path_of scope) ⊎ IsInTurn (path_of scope) e.number k path → IsLonger path (path_of scope) ⊎ InFrom k
      by (inl f) = inl f
      by (inr f) = inr (k, omega arith, f)
  one_named_in k (more_lefts l ls) a (inr h) = by (one_named_in (suc k) ls a.2 h)
    where
      by : IsLonger path (path_of scope) ⊎ InFrom (suc k) → IsLonger path (path_of scope) ⊎ InFrom k
      by (inl f) = inl f
      by (inr (j, b, f)) = inr (j, omega (arith, b), f)

  -- what is in one iteration is in no other
  in_one : (k : ℕ) → IsInTurn (path_of scope) e.number k path → IsLonger path (path_of scope) ⊎ InFrom (suc k) → ⊥
  in_one k t (inl f) = turn_not_front (path_of scope) e.number k path t f
  in_one k t (inr (j, b, f)) = let e = turn_same (path_of scope) e.number k j path t f in omega (arith, b, e)

  in_later : (k : ℕ) → InFrom (suc k) → IsLonger path (path_of scope) ⊎ IsInTurn (path_of scope) e.number k path → ⊥
  in_later k (j, b, t) (inl f) = turn_not_front (path_of scope) e.number j path t f
  in_later k (j, b, t) (inr f) = let e = turn_same (path_of scope) e.number j k path t f in omega (arith, b, e)

  not_front : InFrom 1 → IsLonger path (path_of scope) → ⊥
  not_front (j, b, t) f = turn_not_front (path_of scope) e.number j path t f

mutual
  pub spent : (l : Left) (path : List Iteration) → IsApart l → IsSpent l path → CanName l path → ⊥
  spent finished path a h k = h
  spent (begins t n scope rest) path a h k = h
  spent (ends_turn e body n scope i more rest) path a h k = h
  spent (open_loop e n scope ls rest) path a h (inl f) = not_front e scope path (one_spent_in e scope path 1 ls h) f
  spent (open_loop e n scope ls rest) path a h (inr (inl f)) = one_spent e scope 1 ls path a.1 h f
  spent (open_loop e n scope ls rest) path a h (inr (inr f)) = let i = one_spent_in e scope path 1 ls h in a.0 path (i.0, i.2) f

  one_spent : (e : Entered) (scope : Scope) (k : ℕ) (ls : Lefts) (path : List Iteration) → AreApart e scope k ls → IsOneSpent e scope k ls path → CanOneName ls path → ⊥
  one_spent e scope k no_lefts path a h f = h
  one_spent e scope k (more_lefts l ls) path a (inl (t, (inl done))) (inl f) = finished_names_none l path done f
  one_spent e scope k (more_lefts l ls) path a (inl (t, (inr h))) (inl f) = spent l path a.1 h f
  one_spent e scope k (more_lefts l ls) path a (inl (t, h)) (inr f) = in_one e scope path k t (one_named_in e scope path (suc k) ls a.2 f)
  one_spent e scope k (more_lefts l ls) path a (inr h) (inl f) = in_later e scope path k (one_spent_in e scope path (suc k) ls h) (a.0 path f)
  one_spent e scope k (more_lefts l ls) path a (inr h) (inr f) = one_spent e scope (suc k) ls path a.2 h f
