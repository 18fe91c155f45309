-- The values of a DO variable in the range of its loop.
use Rattle.std.proofs.Common.{◌≡◌, ℕ, ◌-◌, ◌≤◌, List, Bool, true, false, not, refl, sym, ap, ◌∙◌, subst, arith, ℤ, pos, ◌+ℤ◌, ◌*ℤ◌, int_lt, int_eq, Option, Some, None, Ok, if◌then◌else◌, unwrap_or}
use Rattle.std.proofs.lemmas.Bool.{and_parts}
use Rattle.std.proofs.lemmas.Int.{ints}
use Rattle.ped_graph.specs.ped_views.specs.Intervals.{Lies}
use Rattle.ped_graph.specs.ped_views.specs.declared.intervals.Interval.{Interval}
use Rattle.ped_graph.specs.ped_views.specs.Views.{range}
use Rattle.ped_graph.specs.ped_views.specs.Excluded.{InRange}
use Rattle.ped_graph.specs.ped_views.proofs.Products.{linear}
use Rattle.ped_flow.specs.ped_tree.specs.Tree.{Head, StmtTrees}
use Rattle.ped_flow.specs.ped_tree.specs.Constants.ConstantExpressions.{constant_value}
use Rattle.ped_eval.specs.ped_store.specs.Stores.{Store}
use Rattle.ped_graph.specs.ped_symbols.specs.RightUses.RightLoops.{is_small, is_step, step_is_right}
use Rattle.ped_eval.specs.Scopes as run
use Rattle.ped_eval.specs.Scopes.{Scope, names_in}
use Rattle.ped_eval.specs.Evaluation.{Seen}
use Rattle.ped_eval.specs.Loops.{Limits, limits, increment, iteration_count, entered_with, value_in}
use Rattle.ped_flow.specs.ped_affine.specs.Ranges.{Setting, Around, bound_interval, step_by, is_steady, range_between, loop_range}
use Rattle.ped_laws.specs.Covering.Within.{AreWithin}
use Rattle.ped_laws.proofs.CoveringLaws.Counting.{upwards, downwards}
use Rattle.ped_laws.proofs.CoveringLaws.ValueIntervals.{limits_lie}

-- an increment that has a right value counts with it
step_same : (c : Option ℤ) → is_step c ≡ true → step_by c ≡ unwrap_or c (pos 1)
step_same None h = refl
step_same (Some n) h = ap (λ (b : Bool). if b then n else pos 1) h

step_some : (c : Option ℤ) → is_step c ≡ true → ¬ (unwrap_or c (pos 1) ≡ pos 0)
step_some None h e = absurd cc
step_some (Some n) h e = let p = (and_parts (not (int_eq n (pos 0))) (is_small n) h).0 in absurd (is n e p)
  where
    is : (n : ℤ) → n ≡ pos 0 → not (int_eq n (pos 0)) ≡ true → ⊥
    is n q h = go (subst (λ (x : ℤ). not (int_eq x (pos 0)) ≡ true) q h)
      where
        go : not (int_eq (pos 0) (pos 0)) ≡ true → ⊥
        go t = absurd cc

module _ (a b : Interval) (l : Limits) (step : ℤ) (some : ¬ (step ≡ pos 0)) (steady : Bool) (first : Lies l.first a) (last : Lies l.last b) (k : ℕ) (one : 1 ≤ k) (few : k ≤ iteration_count l.first l.last step) where
  between : InRange (range_between a b step steady) (l.first +ℤ pos (k - 1) *ℤ step)
  between = go (int_lt step (pos 0)) refl
    where
      go : (t : Bool) → int_lt step (pos 0) ≡ t → InRange (if t then range b.lo a.hi step steady else range a.lo b.hi step steady) (l.first +ℤ pos (k - 1) *ℤ step)
      go true e = let w = downwards l.first l.last step k (omega (arith, ints)) one few in record { from = omega (arith, linear, w.0, last.from); to = omega (arith, linear, w.1, first.to) }
      go false e = let w = upwards l.first l.last step k (omega (arith, ints)) one few in record { from = omega (arith, linear, w.0, first.from); to = omega (arith, linear, w.1, last.to) }

pub value_in_range : (s : Setting) (around : Around) (p : run.Setting) (scope : Scope) (u : Store) (n : ℕ) (h : Head) (body : StmtTrees) (seen : List Seen) (l : Limits) (k : ℕ) → AreWithin s around (names_in p scope) u → (limits (names_in p scope) h u).result ≡ Ok l → step_is_right p.constants h.step ≡ true → 1 ≤ k → k ≤ (entered_with p n h body seen l).count → InRange (loop_range s around h) (value_in (entered_with p n h body seen l) k)
value_in_range s around p scope u n h body seen l k w e right one few =
    let both = limits_lie s around (names_in p scope) u h l w e in
    let same : step_by (constant_value s.constants h.step) ≡ increment p.constants h = ap (λ (c : List (List ℕ × ℤ)). step_by (constant_value c h.step)) (sym w.constants) ∙ step_same (constant_value p.constants h.step) right in
    subst (λ (x : ℤ). InRange (range_between (bound_interval s around h.first) (bound_interval s around h.last) x (is_steady s h.first)) (l.first +ℤ pos (k - 1) *ℤ increment p.constants h)) (sym same)
    (between (bound_interval s around h.first) (bound_interval s around h.last) l (increment p.constants h) (step_some (constant_value p.constants h.step) right) (is_steady s h.first) both.0 both.1 k one few)
