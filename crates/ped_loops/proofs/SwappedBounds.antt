-- Two loops whose inner bounds are worth the same in each iteration of the outer one have the same pairs of iterations in each other's place.
use Rattle.ped_rules.proofs.NestLaws.LoopPairs as pairs
use Rattle.ped_rules.proofs.NestLaws.LoopPairs.{inner_at, old_entered, row_at, rows_are, scope_at, store_at}
use Rattle.ped_rules.proofs.NestLaws.OnlyBodies.{pair}
use Rattle.ped_rules.proofs.NestLaws.SettledBounds.{IsSettled, limits_there, one_result, settled_reads}
use Rattle.ped_rules.proofs.NestLaws.WovenLoops.{HasSwappedTrips}
use Rattle.ped_rules.specs.OnlyLoops.{change_only, only_loop}
use Rattle.ped_rules.specs.ped_loop_runs.specs.Bounds.{IsOfFixed}
use Rattle.ped_rules.specs.ped_bodies.proofs.BodyLaws.LimitParts.{limits_parted}
use Rattle.ped_rules.specs.ped_bodies.specs.Trips.{HasLimits, entered_from}
use Rattle.ped_rules.specs.ped_eval.specs.Evaluation.{Evaluated}
use Rattle.ped_rules.specs.ped_eval.specs.Loops.{iteration_count}
use Rattle.ped_rules.specs.ped_laws.proofs.ActLaws.Lists.{in_parts}
use Rattle.ped_rules.specs.ped_laws.specs.Acts.Orders.{IsIn}
use Rattle.ped_rules.specs.ped_laws.specs.Plain.Executions.{IsDuring, IsPlaceWith}
use Rattle.ped_rules.specs.ped_laws.specs.Runs.Replaying.{finish_of, goes_on}
use Rattle.ped_rules.specs.ped_eval.specs.Evaluation.{cell_seen}
use Rattle.ped_rules.specs.ped_eval.specs.Loops.{Entered, Limits, frame, increment, limits}
use Rattle.ped_rules.specs.ped_eval.specs.Outcomes.{setting_of}
use Rattle.ped_rules.specs.ped_eval.specs.Runs.{run}
use Rattle.ped_rules.specs.ped_eval.specs.Scopes.{Scope, Setting, names_in}
use Rattle.ped_rules.specs.ped_eval.specs.Values.{value}
use Rattle.ped_rules.specs.ped_store.specs.Cells.{Cell}
use Rattle.ped_rules.specs.ped_store.specs.Stores.{Content, Store}
use Rattle.ped_tree.specs.Constants.ConstantExpressions.{constant_value}
use Rattle.ped_tree.specs.Tree.{Do, ExprTree, Head, ProgramTree, StmtTrees}
use Rattle.std.proofs.Common.{List, Ok, Some, ap, arith, inl, inr, pos, subst, sym, unwrap_or, ℕ, ℤ, ◌*ℤ◌, ◌++◌, ◌+ℤ◌, ◌+◌, ◌-◌, ◌∙◌, ◌∷◌, ◌≡◌, ◌≤◌}

module _ (t : ProgramTree) (l : ℕ) (d g h k : Head) (body inside : StmtTrees) (only : only_loop body ≡ Some (pair g inside)) (scope : Scope) (s : Store) (goes : finish_of (run (setting_of t) (Do d body) l scope s).ending ≡ goes_on)
    (first_is : h.first ≡ g.first) (last_is : h.last ≡ g.last) (step_is : h.step ≡ g.step) (inner_first : k.first ≡ d.first) (inner_last : k.last ≡ d.last) (inner_step : k.step ≡ d.step) where
  abbrev p : Setting
  p = setting_of t

  abbrev new_body : StmtTrees
  new_body = change_only (λ f z. Do k z) body

  abbrev e0 : Entered
  e0 = old_entered (setting_of t) d g body inside only l scope s goes

  abbrev old_bounds : Limits
  old_bounds = (pairs.outer (setting_of t) d g body inside only l scope s goes).bounds

  abbrev scope_old : ℕ → Scope
  scope_old i = scope_at (setting_of t) d g body inside only l scope s goes i

  abbrev store_old : ℕ → Store
  store_old i = store_at (setting_of t) d g body inside only l scope s goes i

  abbrev in_old : ℕ → Entered
  in_old i = inner_at (setting_of t) d g body inside only l scope s goes i

  abbrev entered_by : Limits → Entered
  entered_by m = entered_from (setting_of t) h (change_only (λ f z. Do k z) body) l scope s m

  module _ (told : List ℕ → ℤ) (first : Store) (of_first : IsSettled t l told first g.first) (of_last : IsSettled t l told first g.last) (outer_first : IsSettled t l told first d.first) (outer_last : IsSettled t l told first d.last)
      (here : IsPlaceWith (setting_of t).constants t l told scope) (old_place : (i : ℕ) → IsPlaceWith (setting_of t).constants t l told (scope_old i)) (new_place : (m : Limits) (a : ℕ) → IsPlaceWith (setting_of t).constants t l told (frame (entered_by m) a ∷ scope))
      (during : IsDuring (setting_of t) t l first s) (rows_during : (i : ℕ) → 1 ≤ i → i ≤ e0.count → IsDuring (setting_of t) t l first (store_old i)) where
    abbrev bounds : Limits
    bounds = record { first = of_first.worth.worth; last = of_last.worth.worth }

    abbrev z0 : Entered
    z0 = entered_by (record { first = of_first.worth.worth; last = of_last.worth.worth })

    abbrev scope_new : ℕ → Scope
    scope_new a = frame z0 a ∷ scope

    abbrev in_new : ℕ → Entered
    in_new a = entered_from (setting_of t) k inside (l + 1) (scope_new a) s old_bounds

    has : HasLimits (names_in p scope) d s old_bounds
    has = limits_parted (names_in p scope) d s old_bounds (pairs.outer (setting_of t) d g body inside only l scope s goes).come

    worth_at : (e : ExprTree) → (x : IsSettled t l told first e) → (around : Scope) → IsPlaceWith (setting_of t).constants t l told around → (u : Store) → IsDuring (setting_of t) t l first u → (value (names_in p around) e u).result ≡ Ok x.worth.worth
    worth_at e x around place u during_u = x.worth.comes around place u during_u

    as_named : (around : Scope) (u : Store) (a b : ExprTree) (m : ℤ) → a ≡ b → (value (names_in p around) b u).result ≡ Ok m → (value (names_in p around) a u).result ≡ Ok m
    as_named around u a b m is q = ap (λ (e : ExprTree). (value (names_in p around) e u).result) is ∙ q

    -- the new outer bounds
    outer_limits : limits (names_in p scope) h s ≡ record { seen = (value (names_in p scope) h.first s).seen ++ (value (names_in p scope) h.last s).seen; result = Ok bounds }
    outer_limits =
        limits_there (names_in p scope) h s of_first.worth.worth of_last.worth.worth (as_named scope s h.first g.first of_first.worth.worth first_is (worth_at g.first of_first scope here s during)) of_first.worth.bound
        (as_named scope s h.last g.last of_last.worth.worth last_is (worth_at g.last of_last scope here s during)) of_last.worth.bound

    same_first : outer_first.worth.worth ≡ old_bounds.first
    same_first = one_result (value (names_in p scope) d.first s).result outer_first.worth.worth old_bounds.first (worth_at d.first outer_first scope here s during) has.first

    same_last : outer_last.worth.worth ≡ old_bounds.last
    same_last = one_result (value (names_in p scope) d.last s).result outer_last.worth.worth old_bounds.last (worth_at d.last outer_last scope here s during) has.last

    -- the new inner bounds
    inner_limits : (a : ℕ) → limits (names_in p (scope_new a)) k s ≡ record { seen = (value (names_in p (scope_new a)) k.first s).seen ++ (value (names_in p (scope_new a)) k.last s).seen; result = Ok old_bounds }
    inner_limits a =
        limits_there (names_in p (scope_new a)) k s old_bounds.first old_bounds.last (as_named (scope_new a) s k.first d.first old_bounds.first inner_first (worth_at d.first outer_first (scope_new a) (new_place bounds a) s during ∙ ap Ok same_first)) has.first_bound
        (as_named (scope_new a) s k.last d.last old_bounds.last inner_last (worth_at d.last outer_last (scope_new a) (new_place bounds a) s during ∙ ap Ok same_last)) has.last_bound

    -- the old inner bounds are worth the new outer ones
    row_has : (i : ℕ) → 1 ≤ i → i ≤ e0.count → HasLimits (names_in p (scope_old i)) g (store_old i) (row_at (setting_of t) d g body inside only l scope s goes i).bounds
    row_has i from to = limits_parted (names_in p (scope_old i)) g (store_old i) (row_at (setting_of t) d g body inside only l scope s goes i).bounds (rows_are (setting_of t) d g body inside only l scope s goes i from to).come

    row_first : (i : ℕ) → 1 ≤ i → i ≤ e0.count → (row_at (setting_of t) d g body inside only l scope s goes i).bounds.first ≡ of_first.worth.worth
    row_first i from to = one_result (value (names_in p (scope_old i)) g.first (store_old i)).result (row_at (setting_of t) d g body inside only l scope s goes i).bounds.first of_first.worth.worth (row_has i from to).first (worth_at g.first of_first (scope_old i) (old_place i) (store_old i) (rows_during i from to))

    row_last : (i : ℕ) → 1 ≤ i → i ≤ e0.count → (row_at (setting_of t) d g body inside only l scope s goes i).bounds.last ≡ of_last.worth.worth
    row_last i from to = one_result (value (names_in p (scope_old i)) g.last (store_old i)).result (row_at (setting_of t) d g body inside only l scope s goes i).bounds.last of_last.worth.worth (row_has i from to).last (worth_at g.last of_last (scope_old i) (old_place i) (store_old i) (rows_during i from to))

    steps : (f e : Head) → f.step ≡ e.step → increment p.constants f ≡ increment p.constants e
    steps f e is = ap (λ (x : ExprTree). unwrap_or (constant_value p.constants x) (pos 1)) is

    old_counts : (i : ℕ) → 1 ≤ i → i ≤ e0.count → (in_old i).count ≡ z0.count
    old_counts i from to = λ q. iteration_count (row_first i from to q) (row_last i from to q) (sym (steps h g step_is) q)

    new_counts : (a : ℕ) → (in_new a).count ≡ e0.count
    new_counts a = ap (iteration_count old_bounds.first old_bounds.last) (steps k d inner_step)

    none_more : (n : ℕ) → 0 + n ≡ n
    none_more n = omega arith

    -- what the new bounds read
    limits_fixed : (f : Head) (around : Scope) (a b : ExprTree) → f.first ≡ a → f.last ≡ b → IsSettled t l told first a → IsSettled t l told first b → IsPlaceWith (setting_of t).constants t l told around → (c : Cell) (v : Content)
        → (limits (names_in p around) f s).seen ≡ (value (names_in p around) f.first s).seen ++ (value (names_in p around) f.last s).seen → IsIn (cell_seen c v) (limits (names_in p around) f s).seen → IsOfFixed p.constants t l c
    limits_fixed f around a b one two of_a of_b place c v is i = elim (in_parts (cell_seen c v) (value (names_in p around) f.first s).seen (value (names_in p around) f.last s).seen (subst (IsIn (cell_seen c v)) is i)) [
      | inl m ↦ settled_reads t l told first a of_a around place s during c v (subst (λ (e : ExprTree). IsIn (cell_seen c v) (value (names_in p around) e s).seen) one m)
      | inr m ↦ settled_reads t l told first b of_b around place s during c v (subst (λ (e : ExprTree). IsIn (cell_seen c v) (value (names_in p around) e s).seen) two m)
    ]

    pub settled_trips : HasSwappedTrips t l d g h k body inside only scope s goes
    settled_trips = record {
      bounds = bounds;
      come = ap (λ (x : Evaluated Limits). x.result) outer_limits;
      inner_bounds = λ a. old_bounds;
      inner_come = λ a from to. ap (λ (x : Evaluated Limits). x.result) (inner_limits a);
      fixed = λ c v i. limits_fixed h scope g.first g.last first_is last_is of_first of_last here c v (ap (λ (x : Evaluated Limits). x.seen) outer_limits) i;
      inner_fixed = λ a from to c v i. limits_fixed k (scope_new a) d.first d.last inner_first inner_last outer_first outer_last (new_place bounds a) c v (ap (λ (x : Evaluated Limits). x.seen) (inner_limits a)) i;
      later = λ i. 0;
      below = λ a. 0;
      grouped = record {
        forth = λ i j from to low high. (
          (let many = old_counts i from to in omega (arith, high, many)),
          omega (arith, from),
          (let many = new_counts (0 + j) in omega (arith, to, many)),
        );
        back = λ a b from to low high. (
          (let many = new_counts a in omega (arith, high, many)),
          omega (arith, from),
          (let many = old_counts (0 + b) (omega (arith, low)) (let more = new_counts a in omega (arith, high, more)) in omega (arith, to, many)),
        );
      };
      values = λ i j from to low high. λ q. sym (row_first i from to) q +ℤ pos (none_more j q - 1) *ℤ steps h g step_is q;
      inner_values = λ a b from to low high. λ q. old_bounds.first +ℤ pos (sym (none_more b) q - 1) *ℤ steps k d inner_step q;
    }
