-- Each step is lighter.
use Rattle.std.proofs.Common.{◌≡◌, ℕ, zero, suc, ◌+◌, ◌*◌, ◌/◌, ◌≤◌, ◌<◌, ◌∷◌, Bool, true, false, Option, Some, None, refl, ap, arith, if◌then◌else◌}
use Rattle.ped_tree.specs.Tree.{CondTree, Head, StmtTree, StmtTrees, Assign, If, Do, Print, Read, Stop, Comment, no_stmts, more_stmts}
use Rattle.ped_tree.specs.Numbering.{statement_count, statements_count}
use Rattle.ped_eval.specs.ped_store.specs.Stores.{Store}
use Rattle.ped_eval.specs.ped_store.specs.Acts.{Act, did, entered, ended_turn, closed}
use Rattle.ped_eval.specs.Scopes.{Setting, Scope, names_in, place_of}
use Rattle.ped_eval.specs.Evaluation.{numbered}
use Rattle.ped_eval.specs.Values.{truth}
use Rattle.ped_eval.specs.Loops.{limits, Entered, entered_with, increment, frame, exit_touches, exit_when_none, entry_touches}
use Rattle.ped_eval.specs.Runs.{run}
use Rattle.ped_interleavings.specs.Lefts.{Left, finished, begins, ends_turn, open_loop, Lefts, no_lefts, more_lefts, left_of, left_of_all, body_left, turns_left, lefts_by, entered_left, many, pick, with_left}
use Rattle.ped_interleavings.specs.Steps.{went, act_of, inside, opened_step, step, step_at}
use Rattle.ped_interleavings.specs.Weights.{most_turns, stmt_weight, stmts_weight, left_weight, lefts_weight}
use Rattle.ped_interleavings.proofs.Counts.{count_small}
use Rattle.ped_interleavings.proofs.Nexts.{went_left, over_is_not, by_run_leaves, seen_goes, inside_goes}

-- products
times_more : (n w : ℕ) → suc n * w ≡ w + n * w
times_more n w = grind arith

times_most : (n m w : ℕ) → n ≤ m → n * w ≤ m * w
times_most n m w h = grind arith

-- the weights of what is put together
of_weight : (t : StmtTree) (n : ℕ) (scope : Scope) (rest : Left) → left_weight (left_of t n scope rest) ≡ stmt_weight t + left_weight rest
of_weight (Assign left right) n scope rest = refl
of_weight (If c a b) n scope rest = refl
of_weight (Do h body) n scope rest = refl
of_weight (Print items) n scope rest = refl
of_weight (Read items) n scope rest = refl
of_weight Stop n scope rest = refl
of_weight (Comment text) n scope rest = omega arith

pub all_weight : (ts : StmtTrees) (n : ℕ) (scope : Scope) (rest : Left) → left_weight (left_of_all ts n scope rest) ≡ stmts_weight ts + left_weight rest
all_weight no_stmts n scope rest = omega arith
all_weight (more_stmts t ts) n scope rest =
    let more = left_of_all ts (n + statement_count t) scope rest in
    let e = of_weight t n scope more in
    let f = all_weight ts (n + statement_count t) scope rest in
    omega (arith, e, f)

turns_weight : (more k : ℕ) (e : Entered) (body : StmtTrees) (n : ℕ) (scope : Scope) (rest : Left) → left_weight (turns_left more k e body n scope rest) ≡ more * (stmts_weight body + 1) + left_weight rest
turns_weight zero k e body n scope rest = omega arith
turns_weight (suc more) k e body n scope rest =
    let q = all_weight body (n + 1) (frame e k ∷ scope) (ends_turn e body n scope k more rest) in
    let m = times_more more (stmts_weight body + 1) in
    omega (arith, q, m)

by_weight : (n k w : ℕ) (item : ℕ → Left) → ((i : ℕ) → left_weight (item i) ≡ w) → lefts_weight (lefts_by n k item) ≡ n * w
by_weight zero k w item h = omega arith
by_weight (suc n) k w item h =
    let q = h k in
    let r = by_weight n (k + 1) w item h in
    let m = times_more n w in
    omega (arith, q, r, m)

bodies_weight : (e : Entered) (body : StmtTrees) (n : ℕ) (scope : Scope) (count : ℕ) → lefts_weight (lefts_by count 1 (λ k. body_left e body n scope k finished)) ≡ count * stmts_weight body
bodies_weight e body n scope count =
    by_weight count 1 (stmts_weight body) (λ k. body_left e body n scope k finished) (λ k. let q = all_weight body (n + 1) (frame e k ∷ scope) finished in omega (arith, q))

entered_weight : (parallel : Bool) (count : ℕ) (e : Entered) (body : StmtTrees) (n : ℕ) (scope : Scope) (rest : Left) → count ≤ most_turns → left_weight (entered_left parallel count e body n scope rest) < 2 + most_turns * (stmts_weight body + 1) + left_weight rest
entered_weight parallel zero e body n scope rest h = omega arith
entered_weight false (suc more) e body n scope rest h =
    let q = turns_weight (suc more) 1 e body n scope rest in
    let m = times_most (suc more) most_turns (stmts_weight body + 1) h in
    omega (arith, q, m)
entered_weight true (suc more) e body n scope rest h =
    let q = bodies_weight e body n scope (suc more) in
    let m = times_most (suc more) most_turns (stmts_weight body + 1) h in
    let k : suc more * stmts_weight body ≤ suc more * (stmts_weight body + 1) = grind arith in
    omega (arith, q, m, k)

part_weight : (holds : Bool) (a b : Left) (w : ℕ) → left_weight a ≤ w → left_weight b ≤ w → left_weight (if holds then a else b) ≤ w
part_weight true a b w h k = h
part_weight false a b w h k = k

-- statements
one_lighter : (rest r : Left) (w : ℕ) → rest ≡ r → 0 < w → left_weight r < w + left_weight rest
one_lighter rest r w e h = let q = ap left_weight e in omega (arith, q)

module _ (p : Setting) (n : ℕ) (scope : Scope) (rest : Left) (s : Store) (a : Act) (r : Left) where
  condition_lighter : (c : CondTree) (x y : StmtTrees) → step p (begins (If c x y) n scope rest) 0 s ≡ went a r → left_weight r < 1 + stmts_weight x + stmts_weight y + left_weight rest
  condition_lighter c x y q =
      let at = place_of p n scope in
      let e = truth (names_in p scope) c s in
      let then_left = left_of_all x (n + 1) scope rest in
      let else_left = left_of_all y (n + 1 + statements_count x) scope rest in
      let g = seen_goes at e.seen e.result (λ seen holds. went (act_of did at (numbered 1 seen)) (if holds then then_left else else_left)) a r q in
      let i = ap left_weight (went_left (act_of did at (numbered 1 e.seen)) a (if g.0 then then_left else else_left) r g.2) in
      let u = all_weight x (n + 1) scope rest in
      let v = all_weight y (n + 1 + statements_count x) scope rest in
      let w = part_weight g.0 then_left else_left (stmts_weight x + stmts_weight y + left_weight rest) (omega (arith, u)) (omega (arith, v)) in
      omega (arith, i, w)

  loop_lighter : (h : Head) (body : StmtTrees) → step p (begins (Do h body) n scope rest) 0 s ≡ went a r → left_weight r < 2 + most_turns * (stmts_weight body + 1) + left_weight rest
  loop_lighter h body q =
      let at = place_of p n scope in
      let e = limits (names_in p scope) h s in
      let g = seen_goes at e.seen e.result (λ seen l. let d = entered_with p n h body seen l in went (act_of (entered d.count) at (entry_touches seen d scope)) (entered_left h.parallel d.count d body n scope rest)) a r q in
      let d = entered_with p n h body e.seen g.0 in
      let i = ap left_weight (went_left (act_of (entered d.count) at (entry_touches e.seen d scope)) a (entered_left h.parallel d.count d body n scope rest) r g.2) in
      let w = entered_weight h.parallel d.count d body n scope rest (count_small (names_in p scope) h s g.0 (increment p.constants h) g.1) in
      omega (arith, i, w)

  begun_lighter : (t : StmtTree) → step p (begins t n scope rest) 0 s ≡ went a r → left_weight r < stmt_weight t + left_weight rest
  begun_lighter (Assign left right) q = one_lighter rest r 1 (by_run_leaves (run p (Assign left right) n scope s).acts (run p (Assign left right) n scope s).ending rest a r q) (omega arith)
  begun_lighter (If c x y) q = condition_lighter c x y q
  begun_lighter (Do h body) q = loop_lighter h body q
  begun_lighter (Print items) q = one_lighter rest r 1 (by_run_leaves (run p (Print items) n scope s).acts (run p (Print items) n scope s).ending rest a r q) (omega arith)
  begun_lighter (Read items) q = one_lighter rest r 1 (by_run_leaves (run p (Read items) n scope s).acts (run p (Read items) n scope s).ending rest a r q) (omega arith)
  begun_lighter Stop q = one_lighter rest r 1 (by_run_leaves (run p Stop n scope s).acts (run p Stop n scope s).ending rest a r q) (omega arith)
  begun_lighter (Comment text) q = absurd (over_is_not a r q)

turn_lighter : (a b : Act) (e : Entered) (body : StmtTrees) (n : ℕ) (scope : Scope) (k more : ℕ) (rest r : Left) → went b (turns_left more (k + 1) e body n scope rest) ≡ went a r → left_weight r < 1 + more * (stmts_weight body + 1) + left_weight rest
turn_lighter a b e body n scope k more rest r q =
    let i = ap left_weight (went_left b a (turns_left more (k + 1) e body n scope rest) r q) in
    let w = turns_weight more (k + 1) e body n scope rest in
    omega (arith, i, w)

open_lighter : (p : Setting) (e : Entered) (n : ℕ) (scope : Scope) (ls : Lefts) (rest : Left) (c : ℕ) (s : Store) (a : Act) (r : Left) (o : Option ℕ)
    → ((j : ℕ) (b : Act) (l : Left) → step_at p ls j c s ≡ went b l → lefts_weight (with_left j l ls) < lefts_weight ls)
    → opened_step o (λ j. inside (step_at p ls j c s) (λ l. open_loop e n scope (with_left j l ls) rest)) (went (act_of closed (place_of p n scope) (exit_touches e scope)) rest) ≡ went a r
    → left_weight r < 1 + lefts_weight ls + left_weight rest
open_lighter p e n scope ls rest c s a r (Some j) h q =
    let g = inside_goes (step_at p ls j c s) (λ l. open_loop e n scope (with_left j l ls) rest) a r q in
    let i = ap left_weight g.3 in
    let w = h j g.0 g.1 g.2 in
    omega (arith, i, w)
open_lighter p e n scope ls rest c s a r None h q =
    let i = ap left_weight (went_left (act_of closed (place_of p n scope) (exit_touches e scope)) a rest r q) in
    omega (arith, i)

mutual
  pub lighter : (p : Setting) (l : Left) (c : ℕ) (s : Store) (a : Act) (r : Left) → step p l c s ≡ went a r → left_weight r < left_weight l
  lighter p finished c s a r q = absurd (over_is_not a r q)
  lighter p (begins t n scope rest) c s a r q = begun_lighter p n scope rest s a r t q
  lighter p (ends_turn e body n scope k more rest) c s a r q = turn_lighter a (act_of (ended_turn more) (place_of p n scope) (exit_when_none more e scope)) e body n scope k more rest r q
  lighter p (open_loop e n scope ls rest) c s a r q = open_lighter p e n scope ls rest (c / many ls) s a r (pick c ls) (λ j b l h. lighter_at p ls j (c / many ls) s b l h) q

  lighter_at : (p : Setting) (ls : Lefts) (j c : ℕ) (s : Store) (a : Act) (r : Left) → step_at p ls j c s ≡ went a r → lefts_weight (with_left j r ls) < lefts_weight ls
  lighter_at p no_lefts j c s a r q = absurd (over_is_not a r q)
  lighter_at p (more_lefts l ls) zero c s a r q = let w = lighter p l c s a r q in omega (arith, w)
  lighter_at p (more_lefts l ls) (suc j) c s a r q = let w = lighter_at p ls j c s a r q in omega (arith, w)
