-- A run that goes on has gone on in each of its parts, and has done what they do.
use Rattle.std.proofs.Common.{◌≡◌, ℕ, zero, suc, ◌+◌, ◌<◌, ◌≤◌, ℤ, List, [], Bool, true, false, Some, Result, Ok, Err, refl, sym, ap, subst, ◌∙◌, inr, arith, if◌then◌else◌}
use Rattle.std.specs.Prelude.{◌==◌}
use Rattle.std.proofs.lemmas.Bool.Decides.{nat_tests}
use Rattle.ped_laws.specs.ped_flow.specs.ped_tree.specs.Tree.{Head}
use Rattle.ped_laws.specs.ped_flow.specs.ped_tree.specs.Constants.ConstantExpressions.{constant_value}
use Rattle.ped_laws.specs.ped_eval.specs.ped_store.specs.Stores.{Store, out_of_range}
use Rattle.ped_laws.specs.ped_eval.specs.ped_store.specs.Acts.{Place, Act, ended_turn, closed, store_behind}
use Rattle.ped_laws.specs.Acts.Orders.{IsIn}
use Rattle.ped_laws.proofs.ActLaws.Lists.{in_left, in_right}
use Rattle.ped_laws.specs.ped_eval.specs.Scopes.{Frame, Scope, Names}
use Rattle.ped_laws.specs.ped_eval.specs.Evaluation.{Seen, ◌>>>◌, given}
use Rattle.ped_laws.specs.ped_eval.specs.Values.{value}
use Rattle.ped_laws.specs.ped_eval.specs.Loops.{is_bound, in_bounds, Limits, limits, Entered, frame, exit_touches, exit_when_none}
use Rattle.ped_laws.specs.ped_eval.specs.Runs.{Ending, going, stopped, failed, Run, nothing_done, followed_by, does, on_value, turns, parallel_turns, run_entered}
use Rattle.ped_laws.proofs.CoveringLaws.Comings.{ok_one, came, constant_comes}

-- acts with their ending, and a run after them, both of which go on
pub record Parted (acts : List Act) (e : Ending) (next : Store → Run) (v : Store) : Type 0 where
  pub middle : Store
  pub first : e ≡ going middle
  pub second : (next middle).ending ≡ going v
  pub of_first : (a : Act) → IsIn a acts → IsIn a (followed_by acts e next).acts
  pub of_second : (a : Act) → IsIn a (next middle).acts → IsIn a (followed_by acts e next).acts

pub parted : (acts : List Act) (e : Ending) (next : Store → Run) (v : Store) → (followed_by acts e next).ending ≡ going v → Parted acts e next v
parted acts (going u) next v h = record { middle = u; first = refl; second = h; of_first = λ a i. in_left a acts (next u).acts i; of_second = λ a i. in_right a acts (next u).acts i }
parted acts (stopped u) next v h = absurd cc
parted acts (failed fault statement) next v h = absurd cc

-- an evaluation in a run that goes on has come to a value
pub on_going : {A : Type 0} (at : Place) (seen : List Seen) (r : Result A ℕ) (next : List Seen → A → Run) (v : Store) → (on_value at seen r next).ending ≡ going v
    → (x : A) × (r ≡ Ok x) × ((next seen x).ending ≡ going v) × ((a : Act) → IsIn a (next seen x).acts → IsIn a (on_value at seen r next).acts)
on_going at seen (Ok x) next v h = (x, refl, h, λ a i. i)
on_going at seen (Err fault) next v h = absurd cc

-- acts do iteration k of a DO, and it goes on
pub record HasTurn (e : Entered) (body : Frame → Store → Run) (k : ℕ) (acts : List Act) : Type 0 where
  pub before : Store
  pub after : Store
  pub goes : (body (frame e k) before).ending ≡ going after
  pub inside : (a : Act) → IsIn a (body (frame e k) before).acts → IsIn a acts

wider_turn : (e : Entered) (body : Frame → Store → Run) (k : ℕ) (acts others : List Act) → ((a : Act) → IsIn a acts → IsIn a others) → HasTurn e body k acts → HasTurn e body k others
wider_turn e body k acts others more h = record { before = h.before; after = h.after; goes = h.goes; inside = λ a i. more a (h.inside a i) }

module _ (e : Entered) (body : Frame → Store → Run) where
  equal : (k m : ℕ) → (k == m) ≡ true → k ≡ m
  equal k m h = grind (arith, nat_tests)

  later : (k m : ℕ) → k ≤ m → (k == m) ≡ false → k + 1 ≤ m
  later k m from h = grind (arith, nat_tests)

  -- the next iteration, or a later one
  next_or_later : (k m : ℕ) (acts : List Act) → k ≤ m → HasTurn e body k acts → (k + 1 ≤ m → HasTurn e body m acts) → HasTurn e body m acts
  next_or_later k m acts from here there = go (k == m) refl
    where
      go : (b : Bool) → (k == m) ≡ b → HasTurn e body m acts
      go true h = subst (λ (j : ℕ). HasTurn e body j acts) (equal k m h) here
      go false h = there (later k m from h)

  turns_have : (n k : ℕ) (scope : Scope) (at : Place) (s v : Store) → (turns n k e scope at body s).ending ≡ going v → (m : ℕ) → k ≤ m → m < k + n → HasTurn e body m (turns n k e scope at body s).acts
  turns_have zero k scope at s v h m from to = absurd (omega (arith, from, to))
  turns_have (suc n) k scope at s v h m from to =
      let next = does (ended_turn n) at (exit_when_none n e scope) (turns n (k + 1) e scope at body) in
      let q = parted (body (frame e k) s).acts (body (frame e k) s).ending next v h in
      next_or_later k m _ from (record { before = s; after = q.middle; goes = q.first; inside = q.of_first })
      (λ further. wider_turn e body m (turns n (k + 1) e scope at body (store_behind (exit_when_none n e scope) q.middle)).acts _ (λ a i. q.of_second a (inr i))
      (turns_have n (k + 1) scope at (store_behind (exit_when_none n e scope) q.middle) v q.second m further (omega (arith, to))))

  parallel_have : (n k : ℕ) (s v : Store) → (parallel_turns n k e body s).ending ≡ going v → (m : ℕ) → k ≤ m → m < k + n → HasTurn e body m (parallel_turns n k e body s).acts
  parallel_have zero k s v h m from to = absurd (omega (arith, from, to))
  parallel_have (suc n) k s v h m from to =
      let q = parted (body (frame e k) s).acts (body (frame e k) s).ending (parallel_turns n (k + 1) e body) v h in
      next_or_later k m _ from (record { before = s; after = q.middle; goes = q.first; inside = q.of_first })
      (λ further. wider_turn e body m (parallel_turns n (k + 1) e body q.middle).acts _ q.of_second (parallel_have n (k + 1) q.middle v q.second m further (omega (arith, to))))

  -- a DO that goes on has done all its iterations
  pub entered_have : (parallel : Bool) (count : ℕ) (scope : Scope) (at : Place) (s v : Store) → (run_entered parallel count e scope at body s).ending ≡ going v → (m : ℕ) → 1 ≤ m → m ≤ count → HasTurn e body m (run_entered parallel count e scope at body s).acts
  entered_have parallel zero scope at s v h m from to = absurd (omega (arith, from, to))
  entered_have false (suc count) scope at s v h m from to = turns_have (suc count) 1 scope at s v h m from (omega (arith, to))
  entered_have true (suc count) scope at s v h m from to =
      let q = parted (parallel_turns (suc count) 1 e body s).acts (parallel_turns (suc count) 1 e body s).ending (does closed at (exit_touches e scope) nothing_done) v h in
      wider_turn e body m (parallel_turns (suc count) 1 e body s).acts _ q.of_first (parallel_have (suc count) 1 s q.middle q.first m from (omega (arith, to)))

-- what a DO is entered with: the values of its bounds, which lie in their range
bound_is : (m n : ℤ) → in_bounds m ≡ Ok n → (m ≡ n) × (is_bound n ≡ true)
bound_is m n h = go (is_bound m) refl h
  where
    go : (b : Bool) → is_bound m ≡ b → (if b then Ok m else Err out_of_range) ≡ Ok n → (m ≡ n) × (is_bound n ≡ true)
    go true i e = (ok_one m n e, ap is_bound (sym (ok_one m n e)) ∙ i)
    go false i e = absurd cc

pub limits_come : (g : Names) (h : Head) (s : Store) (l : Limits) → (limits g h s).result ≡ Ok l → (((value g h.first s).result ≡ Ok l.first) × (is_bound l.first ≡ true)) × (((value g h.last s).result ≡ Ok l.last) × (is_bound l.last ≡ true))
limits_come g h s l e =
    let one = came (value g h.first s).seen (value g h.first s).result (λ a. given (in_bounds a) >>> λ m. value g h.last s >>> λ b. given (in_bounds b) >>> λ n. given (Ok (record { first = m; last = n }))) l e in
    let two = came [] (in_bounds one.0) (λ m. value g h.last s >>> λ b. given (in_bounds b) >>> λ n. given (Ok (record { first = m; last = n }))) l one.2 in
    let three = came (value g h.last s).seen (value g h.last s).result (λ b. given (in_bounds b) >>> λ n. given (Ok (record { first = two.0; last = n }))) l two.2 in
    let four = came [] (in_bounds three.0) (λ n. given (Ok (record { first = two.0; last = n }))) l three.2 in
    let first = bound_is one.0 two.0 two.1 in
    let last = bound_is three.0 four.0 four.1 in
    let is = ok_one (record { first = two.0; last = four.0 }) l four.2 in
    subst (λ (x : Limits). (((value g h.first s).result ≡ Ok x.first) × (is_bound x.first ≡ true)) × (((value g h.last s).result ≡ Ok x.last) × (is_bound x.last ≡ true))) {x = record { first = two.0; last = four.0 }} is ((one.1 ∙ ap Ok first.0, first.1), (three.1 ∙ ap Ok last.0, last.1))

-- constant bounds come to their values
pub constant_limits : (g : Names) (h : Head) (s : Store) (l : Limits) (first last : ℤ) → (limits g h s).result ≡ Ok l → constant_value g.constants h.first ≡ Some first → constant_value g.constants h.last ≡ Some last → (l.first ≡ first) × (l.last ≡ last)
constant_limits g h s l first last e at_first at_last =
    let come = limits_come g h s l e in
    (ok_one l.first first (sym come.0.0 ∙ constant_comes g s h.first first at_first), ok_one l.last last (sym come.1.0 ∙ constant_comes g s h.last last at_last))
