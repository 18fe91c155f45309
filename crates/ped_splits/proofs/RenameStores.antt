-- The scope of each act of a run: its place and its cells are those of some iterations of DO loops of the program; and what a DO stores of itself it stores when it is left.
use Rattle.std.proofs.Common.{◌≡◌, ◌⊎◌, ℕ, zero, suc, ◌+◌, ◌<◌, ◌+ℤ◌, ◌*ℤ◌, pos, List, [], ◌∷◌, ◌++◌, Bool, true, false, ◌||◌, ◌==◌, Some, inl, inr, refl, sym, ap, subst, ◌∙◌, arith, if◌then◌else◌}
use Rattle.ped_base.specs.Lists.{is_among, is_same_text}
use Rattle.ped_base.proofs.NameEquality.{same_itself}
use Rattle.ped_tree.specs.NamesIn.{all_loop_variables}
use Rattle.ped_tree.specs.Numbering.{all_numbered, numbered, statement_count, statement_with, statements_count}
use Rattle.ped_tree.specs.Tree.{Assign, Comment, Do, Head, If, Print, ProgramTree, Read, StmtTree, StmtTrees, Stop, more_stmts, no_stmts}
use Rattle.ped_rules.specs.ped_loop_runs.proofs.PastingLaws.LeftCopies.{IsOwn, condition_own, entry_own, exit_own, exit_when_own}
use Rattle.ped_rules.specs.ped_steps.proofs.RunLaws.RunCells.{EachDos, all_keep}
use Rattle.ped_rules.specs.ped_steps.proofs.RunLaws.RunPlaces.{all_each}
use Rattle.ped_rules.specs.ped_steps.specs.Replacing.{alone}
use Rattle.ped_rules.specs.ped_laws.proofs.ActLaws.Lists.{in_left, in_parts}
use Rattle.ped_rules.specs.ped_laws.proofs.FlowRunLaws.Standing.{Stand, else_stands, first_stands, inner_stands, is_there, rest_stands}
use Rattle.ped_rules.specs.ped_laws.proofs.RunLaws.Touches.{Each, Fine, Good, all_good, any_result, does_each, each_none, on_each, then_each}
use Rattle.ped_rules.specs.ped_laws.proofs.RunLaws.Turning.{once_among}
use Rattle.ped_rules.specs.ped_laws.specs.Acts.Orders.{IsIn}
use Rattle.ped_rules.specs.ped_laws.specs.FlowRuns.Exits.{AreIterationsOf, is_exit}
use Rattle.ped_rules.specs.ped_laws.specs.Runs.Replaying.{act}
use Rattle.ped_rules.specs.ped_eval.specs.Evaluation.{Seen, cell_seen, index_seen, number_behind, numbered as numbered_reads}
use Rattle.ped_rules.specs.ped_eval.specs.Loops.{Entered, Limits, entered_with, entry_touches, exit_touches, exit_when_none, frame, inner_variables, limits, undefined_all, undefined_by}
use Rattle.ped_rules.specs.ped_eval.specs.Outcomes.{setting_of}
use Rattle.ped_rules.specs.ped_eval.specs.Runs.{Ending, Run, does, failed, followed_by, going, nothing_done, parallel_turns, run, run_all, run_entered, stopped, turns}
use Rattle.ped_rules.specs.ped_eval.specs.Scopes.{Frame, Scope, Setting, cell_of, names_in, place_of}
use Rattle.ped_rules.specs.ped_eval.specs.Values.{truth}
use Rattle.ped_rules.specs.ped_flow.specs.Questions.{LoopOf}
use Rattle.ped_rules.specs.ped_store.specs.Acts.{Act, Manner, Step, Touch, closed, did, ended_turn, entered, faulted, is_told, reads, writes}
use Rattle.ped_rules.specs.ped_store.specs.Cells.{Cell}
use Rattle.ped_rules.specs.ped_store.specs.Races.{is_write}
use Rattle.ped_rules.specs.ped_store.specs.Stores.{Number, Store, Undefined}

-- a DO that is left has stored this of itself
pub record IsStored (t : ProgramTree) (number : ℕ) (scope : Scope) (a : Act) (v : Touch) : Type 0 where
  pub loop : LoopOf t number
  pub leaves : is_exit a.step ≡ true
  pub name : List ℕ
  pub cell : v.cell ≡ cell_of scope name
  pub which : (name ≡ loop.head.variable) ⊎ ((loop.head.parallel ≡ true) × (is_among name (all_loop_variables loop.body) ≡ true))
  pub held : loop.head.parallel ≡ true → v.content ≡ Undefined

-- the act is done in these iterations, touches what scalars stand for there, and writes by references, or stores what a DO stores of itself
pub record IsScoped (t : ProgramTree) (a : Act) : Type 0 where
  pub scope : Scope
  pub number : ℕ
  pub place : a.place ≡ place_of (setting_of t) number scope
  pub iterations : AreIterationsOf (setting_of t) t scope
  pub cells : (v : Touch) → IsIn v a.touches → IsOwn (setting_of t) scope v.cell
  pub stores : (v : Touch) → IsIn v a.touches → is_write v.manner ≡ true → (0 < v.reference) ⊎ IsStored t number scope a v

never_written : (n : ℕ) (seen : List Seen) (v : Touch) → IsIn v (numbered_reads n seen) → is_write v.manner ≡ true → ⊥
never_written n [] v i w = absurd i
never_written n (cell_seen c content ∷ more) v i w = elim i [ inl e ↦ (let wrong : true ≡ false = sym w ∙ ap (λ (u : Touch). is_write u.manner) e in absurd cc) | inr j ↦ never_written (suc n) more v j w ]
never_written n (index_seen c m ∷ more) v i w = elim i [ inl e ↦ (let wrong : true ≡ false = sym w ∙ ap (λ (u : Touch). is_write u.manner) e in absurd cc) | inr j ↦ never_written n more v j w ]

behind_some : (n : ℕ) (seen : List Seen) → 0 < n → 0 < number_behind n seen
behind_some n [] h = h
behind_some n (cell_seen c content ∷ more) h = behind_some (suc n) more (omega arith)
behind_some n (index_seen c v ∷ more) h = behind_some n more h

module _ (t : ProgramTree) where
  abbrev p : Setting
  p = setting_of t

  abbrev AllScoped : List Act → Type 0
  AllScoped acts = Each (IsScoped t) acts

  -- an act that writes nothing
  reading : (n : ℕ) (S : Scope) (step : Step) (seen : List Seen) → AreIterationsOf p t S → Each (λ (v : Touch). IsOwn p S v.cell) (numbered_reads 1 seen) → IsScoped t (act step (place_of p n S) (numbered_reads 1 seen))
  reading n S step seen its own = record { scope = S; number = n; place = refl; iterations = its; cells = own; stores = λ v i w. absurd (never_written 1 seen v i w) }

  -- a statement without a part
  abbrev No : ℕ → Head → StmtTrees → Type 0
  No n h b = ⊥

  alone_acts : (z : StmtTree) (n : ℕ) (S : Scope) (s : Store) (a : Act) → IsIn a (run p z n S s).acts → IsIn a (run_all p (alone z) n S s).acts
  alone_acts z n S s a i = go (run p z n S s).ending i
    where
      go : (e : Ending) → IsIn a (run p z n S s).acts → IsIn a (followed_by (run p z n S s).acts e (run_all p no_stmts (n + statement_count z) S)).acts
      go (going w) j = in_left a (run p z n S s).acts [] j
      go (stopped w) j = j
      go (failed f m) j = j

  leaf : (z : StmtTree) (n : ℕ) (S : Scope) (s : Store) → EachDos (λ k h b. ⊥) (alone z) n → all_loop_variables (alone z) ≡ [] → AreIterationsOf p t S → AllScoped (run p z n S s).acts
  leaf z n S s none no_loops its a i = record {
    scope = S;
    number = placed.0;
    place = placed.1;
    iterations = its;
    cells = λ v j. all_keep p No (λ T c. IsOwn p T c) (λ T y. inl (y, refl)) (λ T y js w. inr refl) (λ T. inr refl) (λ T. inr refl) (λ k h body seen l m T c q o. absurd q) (alone z) n S s none a there v j;
    stores = λ v j w. inl (by v.manner v.cell v.reference (good.0 v j) w);
  }
    where
      there : IsIn a (run_all p (alone z) n S s).acts
      there = alone_acts z n S s a i

      placed : (m : ℕ) × (a.place ≡ place_of p m S)
      placed = all_each p No (λ T b. (m : ℕ) × (b.place ≡ place_of p m T)) (λ T m step touches. (m, refl)) (λ k h body seen l m T u b q j o. absurd q) (alone z) n S s none a there

      none_among : (y : List ℕ) → is_among y [] ≡ true → ⊥
      none_among y k = absurd cc

      good : Good (λ ts c. ⊥) a
      good = all_good (λ ts c. ⊥) (λ T y. ⊥) (λ T y h. absurd h) (λ T e k body q h y j. h y j) p (alone z) n S s (λ y j. none_among y (sym (ap (is_among y) no_loops) ∙ j)) a there

      by : (m : Manner) (c : Cell) (q : ℕ) → Fine (λ ts d. ⊥) a.place.turns m c q → is_write m ≡ true → 0 < q
      by writes c q f w = elim f.0 [ inl some ↦ some | inr wrong ↦ absurd wrong ]
      by reads c q f w = absurd cc
      by is_told c q f w = absurd cc

  -- what leaves a DO
  module _ (n : ℕ) (h : Head) (b : StmtTrees) (S : Scope) (is : statement_with n t ≡ Some (Do h b)) (its : AreIterationsOf p t S) (seen : List Seen) (l : Limits) where
    abbrev e : Entered
    e = entered_with p n h b seen l

    abbrev loop : LoopOf t n
    loop = record { head = h; body = b; is = is }

    by_reference : (a : Act) (m : ℕ) (xs : List (List ℕ)) → 0 < m → (v : Touch) → IsIn v (undefined_by S m xs) → 0 < v.reference
    by_reference a m [] some v i = absurd i
    by_reference a m (y ∷ ys) some v (inl q) = subst (λ (u : Touch). 0 < u.reference) (sym q) some
    by_reference a m (y ∷ ys) some v (inr i) = by_reference a (suc m) ys (omega arith) v i

    inner : (a : Act) → is_exit a.step ≡ true → h.parallel ≡ true → (xs : List (List ℕ)) → ((y : List ℕ) → is_among y xs ≡ true → is_among y (all_loop_variables b) ≡ true) → (v : Touch) → IsIn v (undefined_all S xs) → IsStored t n S a v
    inner a leaving parallel [] sub v i = absurd i
    inner a leaving parallel (y ∷ ys) sub v (inl q) = record {
      loop = loop;
      leaves = leaving;
      name = y;
      cell = ap (λ (u : Touch). u.cell) q;
      which = inr (parallel, sub y (ap (λ (c : Bool). c || is_among y ys) (same_itself y)));
      held = λ k. ap (λ (u : Touch). u.content) q;
    }
    inner a leaving parallel (y ∷ ys) sub v (inr i) = inner a leaving parallel ys (λ w k. sub w (more (is_same_text w y) (is_among w ys) k)) v i
      where
        more : (c d : Bool) → d ≡ true → c || d ≡ true
        more true d k = refl
        more false d k = k

    exit_stores : (a : Act) → is_exit a.step ≡ true → (v : Touch) → IsIn v (exit_touches e S) → (0 < v.reference) ⊎ IsStored t n S a v
    exit_stores a leaving v (inl q) = inr (record {
      loop = loop;
      leaves = leaving;
      name = h.variable;
      cell = ap (λ (u : Touch). u.cell) q;
      which = inl refl;
      held = λ parallel. ap (λ (u : Touch). u.content) q ∙ ap (λ (c : Bool). if c then Undefined else Number (e.first +ℤ pos e.count *ℤ e.step)) parallel;
    })
    exit_stores a leaving v (inr i) = elim (in_parts v (undefined_by S e.behind_bounds h.private) (undefined_all S e.inner) i) [
      | inl j ↦ inl (by_reference a e.behind_bounds h.private (behind_some 1 seen (omega arith)) v j)
      | inr j ↦ by_kind h.parallel refl j
    ]
      where
        by_kind : (c : Bool) → h.parallel ≡ c → IsIn v (undefined_all S (inner_variables h.parallel b)) → (0 < v.reference) ⊎ IsStored t n S a v
        by_kind true k j = inr (inner a leaving k (inner_variables h.parallel b) (λ y m. sym (once_among y (all_loop_variables b)) ∙ sym (ap (λ (z : Bool). is_among y (inner_variables z b)) k) ∙ m) v j)
        by_kind false k j = absurd (subst (λ (z : Bool). IsIn v (undefined_all S (inner_variables z b))) k j)

    when_stores : (m : ℕ) (a : Act) → ((m == 0) ≡ true → is_exit a.step ≡ true) → (v : Touch) → IsIn v (exit_when_none m e S) → (0 < v.reference) ⊎ IsStored t n S a v
    when_stores m a leaving v i = go (m == 0) refl i
      where
        go : (c : Bool) → (m == 0) ≡ c → IsIn v (if c then exit_touches e S else []) → (0 < v.reference) ⊎ IsStored t n S a v
        go true k j = exit_stores a (leaving k) v j
        go false k j = absurd j

    ended : (m : ℕ) → IsScoped t (act (ended_turn m) (place_of p n S) (exit_when_none m e S))
    ended m = record { scope = S; number = n; place = refl; iterations = its; cells = exit_when_own p S m e; stores = λ v i w. when_stores m (act (ended_turn m) (place_of p n S) (exit_when_none m e S)) (λ k. k) v i }

    closing : IsScoped t (act closed (place_of p n S) (exit_touches e S))
    closing = record { scope = S; number = n; place = refl; iterations = its; cells = exit_own p S e; stores = λ v i w. exit_stores (act closed (place_of p n S) (exit_touches e S)) refl v i }

    module _ (body : Frame → Store → Run) (bodies : (k : ℕ) (s : Store) → AllScoped (body (frame e k) s).acts) where
      turns_scoped : (left k : ℕ) (s : Store) → AllScoped (turns left k e S (place_of p n S) body s).acts
      turns_scoped zero k s = each_none (IsScoped t)
      turns_scoped (suc left) k s =
          then_each (IsScoped t) (body (frame e k) s) (does (ended_turn left) (place_of p n S) (exit_when_none left e S) (turns left (k + 1) e S (place_of p n S) body)) (bodies k s)
          (λ u. does_each (IsScoped t) (ended_turn left) (place_of p n S) (exit_when_none left e S) (turns left (k + 1) e S (place_of p n S) body) u (ended left) (turns_scoped left (k + 1)))

      parallel_scoped : (left k : ℕ) (s : Store) → AllScoped (parallel_turns left k e body s).acts
      parallel_scoped zero k s = each_none (IsScoped t)
      parallel_scoped (suc left) k s = then_each (IsScoped t) (body (frame e k) s) (parallel_turns left (k + 1) e body) (bodies k s) (parallel_scoped left (k + 1))

      entered_scoped : (parallel : Bool) (count : ℕ) (s : Store) → AllScoped (run_entered parallel count e S (place_of p n S) body s).acts
      entered_scoped parallel zero s = each_none (IsScoped t)
      entered_scoped false (suc count) s = turns_scoped (suc count) 1 s
      entered_scoped true (suc count) s =
          then_each (IsScoped t) (parallel_turns (suc count) 1 e body s) (does closed (place_of p n S) (exit_touches e S) nothing_done) (parallel_scoped (suc count) 1 s)
          (λ u. does_each (IsScoped t) closed (place_of p n S) (exit_touches e S) nothing_done u closing (λ v. each_none (IsScoped t)))

  part_scoped : (f g : Store → Run) → ((u : Store) → AllScoped (f u).acts) → ((u : Store) → AllScoped (g u).acts) → (b : Bool) (u : Store) → AllScoped ((if b then f else g) u).acts
  part_scoped f g h k true u = h u
  part_scoped f g h k false u = k u

  mutual
    one_scoped : (z : StmtTree) (n : ℕ) (S : Scope) (s : Store) → Stand t n (numbered z) → AreIterationsOf p t S → AllScoped (run p z n S s).acts
    one_scoped (Assign left right) n S s w its = leaf (Assign left right) n S s (tt, tt) refl its
    one_scoped (If c a b) n S s w its =
        let e = truth (names_in p S) c s in
        let inside = inner_stands t (If c a b) (all_numbered a ++ all_numbered b) n w in
        on_each (IsScoped t) _ (place_of p n S) e.seen e.result _ (any_result e.result) (reading n S faulted e.seen its (condition_own p S c s))
        (λ holds o. does_each (IsScoped t) did (place_of p n S) (numbered_reads 1 e.seen) (if holds then run_all p a (n + 1) S else run_all p b (n + 1 + statements_count a) S) s (reading n S did e.seen its (condition_own p S c s))
        (part_scoped (run_all p a (n + 1) S) (run_all p b (n + 1 + statements_count a) S)
        (λ u. all_scoped a (n + 1) S u (first_stands t (n + 1) (all_numbered a) (all_numbered b) inside) its)
        (λ u. all_scoped b (n + 1 + statements_count a) S u (else_stands t a b (n + 1) inside) its)
        holds))
    one_scoped (Do h b) n S s w its =
        let l = limits (names_in p S) h s in
        let there = is_there t (Do h b) (all_numbered b) n w in
        on_each (IsScoped t) _ (place_of p n S) l.seen l.result _ (any_result l.result) (reading n S faulted l.seen its (λ v i. entry_own p S h s nothing_entered v (in_left v (numbered_reads 1 l.seen) [] i)))
        (λ m o.
        let e = entered_with p n h b l.seen m in
        does_each (IsScoped t) (entered e.count) (place_of p n S) (entry_touches l.seen e S) (run_entered h.parallel e.count e S (place_of p n S) (λ f. run_all p b (n + 1) (f ∷ S))) s
        (record {
          scope = S;
          number = n;
          place = refl;
          iterations = its;
          cells = entry_own p S h s e;
          stores = λ v i k. elim (in_parts v (numbered_reads 1 l.seen) (exit_when_none e.count e S) i) [
            | inl j ↦ absurd (never_written 1 l.seen v j k)
            | inr j ↦ when_stores n h b S there its l.seen m e.count (act (entered e.count) (place_of p n S) (entry_touches l.seen e S)) (λ q. q) v j
          ];
        })
        (entered_scoped n h b S there its l.seen m (λ f. run_all p b (n + 1) (f ∷ S))
        (λ k u. all_scoped b (n + 1) (frame e k ∷ S) u (inner_stands t (Do h b) (all_numbered b) n w) (record { number = n; loop = record { head = h; body = b; is = there }; turn = refl; variable = refl; private = refl }, its))
        h.parallel e.count))
      where
        nothing_entered : Entered
        nothing_entered = record { number = n; head = h; first = pos 1; step = pos 1; count = 1; behind_bounds = 1; inner = [] }
    one_scoped (Print items) n S s w its = leaf (Print items) n S s (tt, tt) refl its
    one_scoped (Read items) n S s w its = leaf (Read items) n S s (tt, tt) refl its
    one_scoped Stop n S s w its = leaf Stop n S s (tt, tt) refl its
    one_scoped (Comment text) n S s w its = each_none (IsScoped t)

    pub all_scoped : (zs : StmtTrees) (n : ℕ) (S : Scope) (s : Store) → Stand t n (all_numbered zs) → AreIterationsOf (setting_of t) t S → Each (IsScoped t) (run_all (setting_of t) zs n S s).acts
    all_scoped no_stmts n S s w its = each_none (IsScoped t)
    all_scoped (more_stmts z rest) n S s w its =
        then_each (IsScoped t) (run p z n S s) (run_all p rest (n + statement_count z) S) (one_scoped z n S s (first_stands t n (numbered z) (all_numbered rest) w) its)
        (λ u. all_scoped rest (n + statement_count z) S u (rest_stands t z rest n w) its)
