-- Two DO loops become one: what their bodies do in an iteration of the one DO is done by references of the new program.
use Rattle.std.proofs.Common.{◌≡◌, ℕ, ◌+◌, ◌≤◌, List, [], ◌∷◌, ◌++◌, Bool, false, Ok, if◌then◌else◌, refl, sym, ap, ◌∙◌, subst, arith}
use Rattle.ped_base.specs.Lists.{is_among}
use Rattle.ped_tree.specs.Grammar.Fits.{Surroundings, in_loop, moved}
use Rattle.ped_tree.specs.Nests.{Loop}
use Rattle.ped_tree.specs.Numbering.{statement_count, statements_count}
use Rattle.ped_tree.specs.Tree.{StmtTrees, Do, no_stmts, more_stmts, ProgramTree}
use Rattle.ped_rules.specs.ped_affine.specs.Ranges as ranges
use Rattle.ped_rules.specs.ped_graph.specs.Dependences.{setting_in}
use Rattle.ped_rules.specs.ped_steps.specs.Replacing.{followed}
use Rattle.ped_rules.specs.ped_bodies.specs.Trips.{entered_from}
use Rattle.ped_rules.specs.ped_loop_runs.proofs.PastingLaws.PastedLoops.{run_followed}
use Rattle.ped_rules.specs.ped_laws.proofs.ActLaws.Lists.{in_left}
use Rattle.ped_rules.specs.ped_laws.proofs.ConflictLaws.MakingParts.{Part, Parts, rest_parts, body_parts}
use Rattle.ped_rules.specs.ped_laws.proofs.ConflictLaws.MakingRuns.{Fine, all_made, entered_frame}
use Rattle.ped_rules.specs.ped_laws.specs.Acts.Orders.{IsIn}
use Rattle.ped_rules.specs.ped_laws.specs.Conflicts.Reaching.{IsStoreIn, IsEntered, Reached}
use Rattle.ped_rules.specs.ped_laws.specs.Covering.Nested.{loop}
use Rattle.ped_rules.specs.ped_eval.specs.Loops.{Limits, limits, inner_variables, Entered, entered_with, frame}
use Rattle.ped_rules.specs.ped_eval.specs.Outcomes.{setting_of}
use Rattle.ped_rules.specs.ped_eval.specs.Runs.{Ending, going, stopped, failed, Run, followed_by, run_all}
use Rattle.ped_rules.specs.ped_eval.specs.Scopes.{Setting, Scope, names_in}
use Rattle.ped_rules.specs.ped_store.specs.Acts.{Act}
use Rattle.ped_rules.specs.ped_store.specs.Stores.{Store}
use Rattle.ped_splits.proofs.CoverMade as made
use Rattle.ped_splits.proofs.CoverMade.{HasCome}
use Rattle.ped_splits.proofs.CoverFacts.{MayFuse}
use Rattle.ped_splits.proofs.FuseFacts.{renamed, renamed_pair}
use Rattle.ped_splits.specs.Fusing.{Match}
use Rattle.ped_splits.specs.Neighbours.{Neighbour, fused, next_number}

-- behind the first of two pieces
followed_parts : (u : ProgramTree) (w : ranges.Setting) (nest : List Loop) (scope : Scope) (around : Surroundings) (n : ℕ) (xs ys : StmtTrees) → Parts u w nest scope around n (followed xs ys) → (other : Surroundings) × Parts u w nest scope other (n + statements_count xs) ys
followed_parts u w nest scope around n no_stmts ys p = (around, subst (λ (k : ℕ). Parts u w nest scope around k ys) (let none : n ≡ n + statements_count no_stmts = omega arith in none) p)
followed_parts u w nest scope around n (more_stmts x xs) ys p =
    let r = followed_parts u w nest scope (moved around (statement_count x)) (n + statement_count x) xs ys (rest_parts u w nest scope around n x (followed xs ys) p) in
    (r.0, subst (λ (k : ℕ). Parts u w nest scope r.0 k ys) (let e : n + statement_count x + statements_count xs ≡ n + (statement_count x + statements_count xs) = omega arith in e) r.1)

-- what the first of two pieces does
in_first : (acts : List Act) (e : Ending) (next : Store → Run) (a : Act) → IsIn a acts → IsIn a (followed_by acts e next).acts
in_first acts (going v) next a i = in_left a acts (next v).acts i
in_first acts (stopped v) next a i = i
in_first acts (failed fault n) next a i = i

-- a DO that isn't parallel has no copies but those of its PRIVATE names
no_copies : (b : Bool) (xs ys own : List (List ℕ)) → b ≡ false → (if b then xs else own) ≡ (if b then ys else own)
no_copies b xs ys own e = ap (λ (c : Bool). if c then xs else own) e ∙ sym (ap (λ (c : Bool). if c then ys else own) e)

module _ (t0 : ProgramTree) (s : ℕ) (m : Match t0 s) (x : MayFuse t0 s m) (same : setting_of (fused m.neighbour) ≡ setting_of (renamed m.neighbour)) (data_bytes : List ℕ) (scope : Scope) (w : Store) (c : HasCome t0 s m x same data_bytes scope w)
    (bounds : Limits) (come : (limits (names_in (setting_of (renamed m.neighbour)) scope) m.neighbour.own w).result ≡ Ok bounds) where
  abbrev n : Neighbour t0 s
  n = m.neighbour

  abbrev u : ProgramTree
  u = fused m.neighbour

  abbrev p : Setting
  p = setting_of (renamed m.neighbour)

  abbrev set : ranges.Setting
  set = setting_in (fused m.neighbour) c.outer.number

  within : IsStoreIn set c.first w
  within = c.stored [] (run_all p (renamed_pair n) s scope w).acts refl

  part : Part u set (made.nest t0 s m x same) scope (made.here t0 s m x same).around s (Do (made.head t0 s m x same) (made.bodies t0 s m x same))
  part =
      let it = made.here t0 s m x same in
      let q = subst (λ (k : ℕ). Part u (made.whole t0 s m x same) (made.nest t0 s m x same) it.scope it.around k (Do (made.head t0 s m x same) (made.bodies t0 s m x same))) n.numbered it.part in
      record {
        fit = q.fit;
        uses = q.uses;
        increments = q.increments;
        assigns = c.assigns;
        loops = q.loops;
        listed = q.listed;
        stand = q.stand;
        same = λ y. q.same y ∙ ap (is_among y) (it.tells ∙ sym c.tells);
        round = q.round ∙ it.tells ∙ sym c.tells;
      }

  -- the one DO, entered as the first of the two
  abbrev pub joined : Entered
  joined = entered_with (setting_of (fused m.neighbour)) s (made.head t0 s m x same) (made.bodies t0 s m x same) (limits (names_in (setting_of (fused m.neighbour)) scope) (made.head t0 s m x same) w).seen bounds

  abbrev pub entered : Entered
  entered = entered_from (setting_of (renamed m.neighbour)) m.neighbour.own m.neighbour.own_body s scope w bounds

  pub count_same : joined.count ≡ entered.count
  count_same = λ i. (entered_with (same i) s n.own n.own_body (limits (names_in (same i) scope) n.own w).seen bounds).count

  pub frame_same : (k : ℕ) → frame joined k ≡ frame entered k
  frame_same k =
      (λ i. frame (entered_with (same i) s (made.head t0 s m x same) (made.bodies t0 s m x same) (limits (names_in (same i) scope) n.own w).seen bounds) k)
      ∙ (λ i. record {
        turn = (frame entered k).turn;
        variable = n.own.variable;
        private = no_copies n.own.parallel (n.own.variable ∷ (n.own.private ++ inner_variables n.own.parallel (made.bodies t0 s m x same))) (n.own.variable ∷ (n.own.private ++ inner_variables n.own.parallel n.own_body)) n.own.private x.own_serial i;
      })

  enters : (k : ℕ) → 1 ≤ k → k ≤ joined.count → IsEntered u set c.first scope (loop s (made.head t0 s m x same)) (frame joined k)
  enters k from to =
      entered_frame u set c.first (made.nest t0 s m x same) scope (made.here t0 s m x same).around s (made.head t0 s m x same) (made.bodies t0 s m x same) part w within bounds
      ((λ i. (limits (names_in (same i) scope) n.own w).result) ∙ come) k from to

  reached_in : (k : ℕ) → 1 ≤ k → k ≤ joined.count → Reached u set c.first (c.outer ∷ c.inner) (frame joined k ∷ scope)
  reached_in k from to = subst (λ (ls : List Loop). Reached u set c.first ls (frame joined k ∷ scope)) c.is (made.nest t0 s m x same, loop s (made.head t0 s m x same), refl, enters k from to, c.reached)

  parts_in : (k : ℕ) → Parts u set (c.outer ∷ c.inner) (frame joined k ∷ scope) (in_loop (made.here t0 s m x same).around (made.head t0 s m x same)) (s + 1) (made.bodies t0 s m x same)
  parts_in k =
      subst (λ (ls : List Loop). Parts u set ls (frame joined k ∷ scope) (in_loop (made.here t0 s m x same).around (made.head t0 s m x same)) (s + 1) (made.bodies t0 s m x same)) c.is
      (body_parts u set (made.nest t0 s m x same) scope (made.here t0 s m x same).around s (made.head t0 s m x same) (made.bodies t0 s m x same) (frame joined k) refl part)

  abbrev pub IsFine : Act → Type 0
  IsFine = Fine (fused m.neighbour) x.new_valid c.outer c.first

  -- what the first body does in an iteration
  pub first_fine : (k : ℕ) → 1 ≤ k → k ≤ entered.count → (v : Store) → IsStoreIn set c.first v → (a : Act) → IsIn a (run_all p n.own_body (s + 1) (frame entered k ∷ scope) v).acts → IsFine a
  first_fine k from to v stored a i =
      (all_made u x.new_valid c.outer c.first (made.bodies t0 s m x same) c.inner (frame joined k ∷ scope) (in_loop (made.here t0 s m x same).around (made.head t0 s m x same)) (s + 1) (reached_in k from (subst (λ (j : ℕ). k ≤ j) (sym count_same) to)) (parts_in k) v stored).acts a
      (subst (λ (f : Store → Run). IsIn a (f v).acts) (sym (run_followed (setting_of u) n.own_body (followed n.between (made.second t0 s m x same)) (s + 1) (frame joined k ∷ scope)))
      (in_first (run_all (setting_of u) n.own_body (s + 1) (frame joined k ∷ scope) v).acts (run_all (setting_of u) n.own_body (s + 1) (frame joined k ∷ scope) v).ending
      (run_all (setting_of u) (followed n.between (made.second t0 s m x same)) (s + 1 + statements_count n.own_body) (frame joined k ∷ scope)) a
      (subst (IsIn a) (λ j. (run_all (sym same j) n.own_body (s + 1) (sym (frame_same k) j ∷ scope) v).acts) i)))

  -- what the second body does in an iteration of the new program
  pub second_fine : (k : ℕ) → 1 ≤ k → k ≤ entered.count → (v : Store) → IsStoreIn set c.first v → (a : Act) → IsIn a (run_all (setting_of u) (made.second t0 s m x same) (next_number n) (frame joined k ∷ scope) v).acts → IsFine a
  second_fine k from to v stored a i =
      let behind = followed_parts u set (c.outer ∷ c.inner) (frame joined k ∷ scope) (in_loop (made.here t0 s m x same).around (made.head t0 s m x same)) (s + 1) n.own_body (followed n.between (made.second t0 s m x same)) (parts_in k) in
      let rest = followed_parts u set (c.outer ∷ c.inner) (frame joined k ∷ scope) behind.0 (s + 1 + statements_count n.own_body) n.between (made.second t0 s m x same) behind.1 in
      let place : s + 1 + statements_count n.own_body + statements_count n.between ≡ next_number n = (let none = n.comments in omega (arith, none)) in
      (all_made u x.new_valid c.outer c.first (made.second t0 s m x same) c.inner (frame joined k ∷ scope) rest.0 (next_number n) (reached_in k from (subst (λ (j : ℕ). k ≤ j) (sym count_same) to))
      (subst (λ (j : ℕ). Parts u set (c.outer ∷ c.inner) (frame joined k ∷ scope) rest.0 j (made.second t0 s m x same)) place rest.1) v stored).acts a i
