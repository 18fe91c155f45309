-- Runs of statements whose acts are of a kind, and whose stores are those of an execution.
use Rattle.std.proofs.Common.{◌≡◌, ℕ, zero, suc, ◌+◌, ◌≤◌, List, [], ◌∷◌, ◌++◌, Bool, true, false, not, ◌&&◌, ◌||◌, Option, Some, None, Result, Ok, Err, refl, sym, ap, ◌∙◌, arith, ◌⊎◌, inl, inr, if◌then◌else◌}
use Rattle.std.specs.Prelude.{nat_lt}
use Rattle.std.specs.List.{list_all}
use Rattle.std.proofs.lemmas.Bool.{and_parts, not-true}
use Rattle.ped_flow.specs.ped_base.specs.Lists.{has_some, is_same_text, is_among}
use Rattle.ped_flow.specs.ped_tree.proofs.NameLaws.Collected.{among_append}
use Rattle.ped_flow.specs.ped_tree.specs.Tree.{ExprTree, CondTree, ItemTree, Head, StmtTree, StmtTrees, Assign, If, Do, Print, Read, Stop, Comment, no_stmts, more_stmts, ProgramTree}
use Rattle.ped_flow.specs.ped_tree.specs.Nests.{Loop, indices_of}
use Rattle.ped_flow.specs.ped_tree.specs.Numbering.{statements_count}
use Rattle.ped_flow.specs.ped_tree.specs.Accesses.{own_accesses, constant_names}
use Rattle.ped_flow.specs.ped_tree.specs.Grammar.LimitNumbers.{most_blocks_nested}
use Rattle.ped_flow.specs.ped_tree.specs.Grammar.Words.{is_name}
use Rattle.ped_flow.specs.ped_tree.specs.Grammar.StatementForms.{are_names}
use Rattle.ped_flow.specs.ped_tree.specs.Grammar.Fits.{Surroundings, in_if, in_loop, expr_fits, target_fits, cond_fits, item_fits, private_fits, loop_fits, stmts_fit}
use Rattle.ped_graph.specs.ped_refs.specs.References.{Reference, numbered_accesses, statements_references}
use Rattle.ped_graph.specs.ped_symbols.specs.NameRefusals.{IsValid}
use Rattle.ped_graph.specs.ped_symbols.specs.Kinds.{kind_in}
use Rattle.ped_graph.specs.ped_symbols.specs.RightUses.RightUses.{is_scalar, expr_is_right, target_is_right, cond_is_right, head_is_right, stmts_are_right}
use Rattle.ped_flow.specs.ped_affine.specs.Assigned.{assigned_in, assigned_in_all}
use Rattle.ped_flow.specs.ped_affine.specs.Ranges as ranges
use Rattle.ped_eval.specs.ped_store.specs.Stores.{Store}
use Rattle.ped_eval.specs.ped_store.specs.Acts.{Touch, Place, Step, did, entered, ended_turn, closed, faulted, Act, store_behind}
use Rattle.ped_laws.proofs.ActLaws.Lists.{in_left}
use Rattle.ped_eval.specs.Scopes.{Frame, Scope, Names, Setting, names_in, place_of}
use Rattle.ped_eval.specs.Evaluation.{Seen, Evaluated, numbered}
use Rattle.ped_eval.specs.Values.{truth}
use Rattle.ped_eval.specs.Statements.{Stored, assigned, assignment_touches, printed_line, print_touches, reading, reading_touches}
use Rattle.ped_eval.specs.Loops.{inner_variables, Limits, limits, Entered, entered_with, frame, exit_touches, exit_when_none, entry_touches}
use Rattle.ped_flow.specs.ped_tree.specs.NamesIn.{loop_variables, all_loop_variables}
use Rattle.ped_eval.specs.Runs.{Ending, going, stopped, failed, Run, followed_by, then_run, does, on_value, nothing_done, run_taking, turns, parallel_turns, run_entered, run_from_entry, run, run_all}
use Rattle.ped_eval.specs.Outcomes.{setting_of}
use Rattle.ped_laws.proofs.RunLaws.Touches.{Each, each_none, each_more, each_append}
use Rattle.ped_laws.proofs.RunLaws.Turning.{inner_among}
use Rattle.ped_laws.specs.Conflicts.Reaching.{IsStoreIn}
use Rattle.ped_laws.proofs.ConflictLaws.MakingParts.{among_left, among_right, among_first, among_rest, Part}
use Rattle.ped_laws.proofs.ConflictLaws.MakingTouches.{kept, Good, good_keeps, Listed, assignment_seen, assignment_good, print_seen, print_good, truth_good, read_good, bounds_seen, bounds_left, exit_good, maybe_exit_good}

or_split : (a b : Bool) → (a || b) ≡ true → (a ≡ true) ⊎ (b ≡ true)
or_split true b h = inl refl
or_split false b h = inr h

-- the variables of DO loops are assigned
module _ (x : List ℕ) where
  mutual
    index_assigned : (u : StmtTree) → is_among x (loop_variables u) ≡ true → is_among x (assigned_in u) ≡ true
    index_assigned (Assign left right) h = absurd cc
    index_assigned (If c a b) h = elim (or_split (is_among x (all_loop_variables a)) (is_among x (all_loop_variables b)) (sym (among_append x (all_loop_variables a) (all_loop_variables b)) ∙ h)) [
      | inl k ↦ among_left x (assigned_in_all a) (assigned_in_all b) (all_index_assigned a k)
      | inr k ↦ among_right x (assigned_in_all a) (assigned_in_all b) (all_index_assigned b k)
    ]
    index_assigned (Do h b) g = elim (or_split (is_same_text x h.variable) (is_among x (all_loop_variables b)) g) [
      | inl k ↦ ap (λ (z : Bool). z || is_among x (h.private ++ assigned_in_all b)) k
      | inr k ↦ among_rest x h.variable (h.private ++ assigned_in_all b) (among_right x h.private (assigned_in_all b) (all_index_assigned b k))
    ]
    index_assigned (Print items) h = absurd cc
    index_assigned (Read items) h = absurd cc
    index_assigned Stop h = absurd cc
    index_assigned (Comment text) h = absurd cc

    all_index_assigned : (us : StmtTrees) → is_among x (all_loop_variables us) ≡ true → is_among x (assigned_in_all us) ≡ true
    all_index_assigned no_stmts h = absurd cc
    all_index_assigned (more_stmts u rest) h = elim (or_split (is_among x (loop_variables u)) (is_among x (all_loop_variables rest)) (sym (among_append x (loop_variables u) (all_loop_variables rest)) ∙ h)) [
      | inl k ↦ among_left x (assigned_in u) (assigned_in_all rest) (index_assigned u k)
      | inr k ↦ among_right x (assigned_in u) (assigned_in_all rest) (all_index_assigned rest k)
    ]

-- what the head of a DO tells that fits
pub record HeadFits (around : Surroundings) (h : Head) : Type 0 where
  pub bounds : (expr_fits h.first ≡ true) × (expr_fits h.last ≡ true)
  pub named : list_all is_name h.private ≡ true
  pub other : is_among h.variable around.variables ≡ false

private_named : (xs : List (List ℕ)) (a b : Bool) → (not (has_some xs) || ((are_names xs && a) && b)) ≡ true → list_all is_name xs ≡ true
private_named [] a b h = refl
private_named (x ∷ xs) a b h = (and_parts _ a (and_parts _ b h).0).0

pub head_fits : (around : Surroundings) (h : Head) (b : StmtTrees) → loop_fits around h b ≡ true → HeadFits around h
head_fits around h b fits =
    let one = and_parts _ (list_all is_name h.rejected) fits in
    let two = and_parts _ (private_fits around h) one.0 in
    let three = and_parts _ (nat_lt around.depth most_blocks_nested) two.0 in
    let four = and_parts _ _ three.0 in
    let five = and_parts _ (not (is_among h.variable around.private)) four.0 in
    let six = and_parts _ (not (is_among h.variable around.variables)) five.0 in
    let seven = and_parts _ (expr_fits h.step) six.0 in
    let eight = and_parts _ (expr_fits h.last) seven.0 in
    let nine = and_parts _ (expr_fits h.first) eight.0 in
    record { bounds = (nine.1, eight.1); named = private_named h.private _ _ two.1; other = not-true (is_among h.variable around.variables) six.1 }

-- what the head of a DO tells that is right
pub record HeadUses (t : ProgramTree) (h : Head) : Type 0 where
  pub bounds : (expr_is_right (kind_in t) h.first ≡ true) × (expr_is_right (kind_in t) h.last ≡ true)
  pub private : list_all (is_scalar (kind_in t)) h.private ≡ true

pub head_uses : (t : ProgramTree) (h : Head) → head_is_right (kind_in t) h ≡ true → HeadUses t h
head_uses t h right =
    let one = and_parts _ (list_all (is_scalar (kind_in t)) h.private) right in
    let two = and_parts _ (expr_is_right (kind_in t) h.step) one.0 in
    let three = and_parts _ (expr_is_right (kind_in t) h.last) two.0 in
    let four = and_parts _ (expr_is_right (kind_in t) h.first) three.0 in
    record { bounds = (four.1, three.1); private = one.1 }

module _ (s : ranges.Setting) (first : Store) (P : Act → Type 0) where
  -- where the run goes on its store is one of the execution
  abbrev pub Behind : Ending → Type 0
  Behind (going u) = IsStoreIn s first u
  Behind (stopped u) = Unit {0}
  Behind (failed fault statement) = Unit {0}

  -- all acts are of the kind
  pub record Done (r : Run) : Type 0 where
    pub acts : Each P r.acts
    pub behind : Behind r.ending

  followed_done : (acts : List Act) (e : Ending) (next : Store → Run) → Each P acts → Behind e → ((u : Store) → IsStoreIn s first u → Done (next u)) → Done (followed_by acts e next)
  followed_done acts (going u) next all stored rest = let r = rest u stored in record { acts = each_append P acts (next u).acts all r.acts; behind = r.behind }
  followed_done acts (stopped u) next all stored rest = record { acts = all; behind = tt }
  followed_done acts (failed fault statement) next all stored rest = record { acts = all; behind = tt }

  pub then_done : (r : Run) (next : Store → Run) → Done r → ((u : Store) → IsStoreIn s first u → Done (next u)) → Done (then_run r next)
  then_done r next d rest = followed_done r.acts r.ending next d.acts d.behind rest

  pub nothing_is_done : (u : Store) → IsStoreIn s first u → Done (nothing_done u)
  nothing_is_done u stored = record { acts = each_none P; behind = stored }

  one_act : (a : Act) → P a → Each P (a ∷ [])
  one_act a h = each_more P a [] h (each_none P)

  pub does_done : (step : Step) (at : Place) (touches : List Touch) (next : Store → Run) (u : Store) → P (record { step = step; place = at; touches = touches }) → IsStoreIn s first (store_behind touches u) → ((v : Store) → IsStoreIn s first v → Done (next v)) → Done (does step at touches next u)
  does_done step at touches next u h stored rest = followed_done (record { step = step; place = at; touches = touches } ∷ []) (going (store_behind touches u)) next (one_act (record { step = step; place = at; touches = touches }) h) stored rest

  pub on_done : {A : Type 0} (at : Place) (seen : List Seen) (r : Result A ℕ) (next : List Seen → A → Run) → P (record { step = faulted; place = at; touches = numbered 1 seen }) → ((x : A) → r ≡ Ok x → Done (next seen x)) → Done (on_value at seen r next)
  on_done at seen (Ok x) next h rest = rest x refl
  on_done at seen (Err fault) next h rest = record { acts = one_act (record { step = faulted; place = at; touches = numbered 1 seen }) h; behind = tt }

-- a statement with this number, in these iterations
module _ (t : ProgramTree) (valid : IsValid t) (s : ranges.Setting) (first : Store) (P : Act → Type 0) (n : ℕ) (nest : List Loop) (scope : Scope) (around : Surroundings)
    (own : (step : Step) (touches : List Touch) → Each (Good t valid s first n nest scope) touches → P (record { step = step; place = place_of (setting_of t) n scope; touches = touches })) where
  abbrev p : Setting
  p = setting_of t

  abbrev g : Names
  g = names_in (setting_of t) scope

  abbrev at : Place
  at = place_of (setting_of t) n scope

  abbrev GoodHere : Touch → Type 0
  GoodHere = Good t valid s first n nest scope

  abbrev Ready : Run → Type 0
  Ready = Done s first P

  -- an act of the statement, and then a run
  act_done : (step : Step) (touches : List Touch) (next : Store → Run) (u : Store) → IsStoreIn s first u → Each GoodHere touches → ((v : Store) → IsStoreIn s first v → Ready (next v)) → Ready (does step at touches next u)
  act_done step touches next u stored good rest = does_done s first P step at touches next u (own step touches good) (kept s first touches u (good_keeps t valid s first n nest scope touches good) stored) rest

  pub assignment_done : (left right : ExprTree) → Part t s nest scope around n (Assign left right) → (u : Store) → IsStoreIn s first u → Ready (run p (Assign left right) n scope u)
  assignment_done left right k u stored =
      let fits = and_parts _ (expr_fits right) k.fit in
      let target = and_parts _ (target_fits left) fits.0 in
      let right_uses = and_parts (target_is_right (kind_in t) left) (expr_is_right (kind_in t) right) k.uses in
      let e : Evaluated Stored = assigned g left right u in
      on_done s first P at e.seen e.result (λ seen w. does did at (assignment_touches seen w) nothing_done u)
      (own faulted (numbered 1 e.seen) (assignment_seen t valid s first n nest scope k.same u stored left right target.1 right_uses.0 fits.1 right_uses.1 k.listed))
      (λ w o. act_done did (assignment_touches e.seen w) nothing_done u stored (assignment_good t valid s first n nest scope k.same u stored left right target.1 right_uses.0 fits.1 right_uses.1 k.listed k.assigns w o) (nothing_is_done s first P))

  pub print_done : (items : List ItemTree) → Part t s nest scope around n (Print items) → (u : Store) → IsStoreIn s first u → Ready (run p (Print items) n scope u)
  print_done items k u stored =
      let fits = and_parts _ (list_all item_fits items) k.fit in
      let e : Evaluated (List ℕ) = printed_line g items u in
      on_done s first P at e.seen e.result (λ seen line. does did at (print_touches seen line u) nothing_done u)
      (own faulted (numbered 1 e.seen) (print_seen t valid s first n nest scope k.same u stored items fits.1 k.uses k.listed))
      (λ line o. act_done did (print_touches e.seen line u) nothing_done u stored (print_good t valid s first n nest scope k.same u stored items fits.1 k.uses k.listed line o) (nothing_is_done s first P))

  pub read_done : (items : List ExprTree) → Part t s nest scope around n (Read items) → (u : Store) → IsStoreIn s first u → Ready (run p (Read items) n scope u)
  read_done items k u stored = go (reading g items u).fault
    where
      good : Each GoodHere (reading_touches (reading g items u) u)
      good = read_good t valid s first n nest scope k.same u stored items (and_parts _ (list_all target_fits items) k.fit).1 k.uses k.assigns k.listed

      go : (fault : Option ℕ) → Ready (run_taking at (reading g items u) fault u)
      go None = act_done did (reading_touches (reading g items u) u) nothing_done u stored good (nothing_is_done s first P)
      go (Some f) = record { acts = one_act s first P _ (own faulted (reading_touches (reading g items u) u) good); behind = tt }

  pub stop_done : (u : Store) → IsStoreIn s first u → Ready (run p Stop n scope u)
  stop_done u stored = act_done did [] (λ v. record { acts = []; ending = stopped v }) u stored (each_none GoodHere) (λ v within. record { acts = each_none P; behind = tt })

  -- the condition of an IF
  pub condition_good : (c : CondTree) (a b : StmtTrees) → Part t s nest scope around n (If c a b) → (u : Store) → IsStoreIn s first u → Each GoodHere (numbered 1 (truth g c u).seen)
  condition_good c a b k u stored =
      let fits = and_parts _ (stmts_fit (in_if around (1 + statements_count a)) b) k.fit in
      let front = and_parts _ (stmts_fit (in_if around 1) a) fits.0 in
      let mine = and_parts _ (cond_fits c) front.0 in
      let uses = and_parts _ (stmts_are_right (kind_in t) b) k.uses in
      let condition = and_parts (cond_is_right (kind_in t) c) (stmts_are_right (kind_in t) a) uses.0 in
      let whole : List Reference = numbered_accesses n 1 nest (own_accesses (constant_names t.decls) (indices_of nest) (If c a b)) in
      truth_good t valid s first n nest scope k.same u stored c mine.1 condition.0 (λ r i. k.listed r (in_left r (whole ++ statements_references (constant_names t.decls) nest (n + 1) a) _ (in_left r whole _ i)))

  pub if_done : (c : CondTree) (a b : StmtTrees) → Part t s nest scope around n (If c a b) → ((v : Store) → IsStoreIn s first v → Ready (run_all p a (n + 1) scope v)) → ((v : Store) → IsStoreIn s first v → Ready (run_all p b (n + 1 + statements_count a) scope v))
      → (u : Store) → IsStoreIn s first u → Ready (run p (If c a b) n scope u)
  if_done c a b k then_part else_part u stored =
      let e : Evaluated Bool = truth g c u in
      let good = condition_good c a b k u stored in
      on_done s first P at e.seen e.result (λ seen holds. does did at (numbered 1 seen) (if holds then run_all p a (n + 1) scope else run_all p b (n + 1 + statements_count a) scope) u)
      (own faulted (numbered 1 e.seen) good)
      (λ holds o. act_done did (numbered 1 e.seen) (if holds then run_all p a (n + 1) scope else run_all p b (n + 1 + statements_count a) scope) u stored good (go holds))
    where
      go : (holds : Bool) (v : Store) → IsStoreIn s first v → Ready ((if holds then run_all p a (n + 1) scope else run_all p b (n + 1 + statements_count a) scope) v)
      go true = then_part
      go false = else_part

  -- the iterations of a DO
  module _ (e : Entered) (body : Frame → Store → Run) (exits : Each GoodHere (exit_touches e scope)) (maybe_exits : (m : ℕ) → Each GoodHere (exit_when_none m e scope))
      (bodies : (k : ℕ) → 1 ≤ k → k ≤ e.count → (v : Store) → IsStoreIn s first v → Ready (body (frame e k) v)) where
    turns_done : (m k : ℕ) → 1 ≤ k → k + m ≤ e.count + 1 → (u : Store) → IsStoreIn s first u → Ready (turns m k e scope at body u)
    turns_done zero k from to u stored = nothing_is_done s first P u stored
    turns_done (suc m) k from to u stored =
        then_done s first P (body (frame e k) u) (does (ended_turn m) at (exit_when_none m e scope) (turns m (k + 1) e scope at body)) (bodies k from (omega (arith, to)) u stored)
        (λ v within. act_done (ended_turn m) (exit_when_none m e scope) (turns m (k + 1) e scope at body) v within (maybe_exits m) (turns_done m (k + 1) (omega (arith, from)) (omega (arith, to))))

    parallel_done : (m k : ℕ) → 1 ≤ k → k + m ≤ e.count + 1 → (u : Store) → IsStoreIn s first u → Ready (parallel_turns m k e body u)
    parallel_done zero k from to u stored = nothing_is_done s first P u stored
    parallel_done (suc m) k from to u stored =
        then_done s first P (body (frame e k) u) (parallel_turns m (k + 1) e body) (bodies k from (omega (arith, to)) u stored) (parallel_done m (k + 1) (omega (arith, from)) (omega (arith, to)))

    entered_done : (parallel : Bool) (m : ℕ) → m ≤ e.count → (u : Store) → IsStoreIn s first u → Ready (run_entered parallel m e scope at body u)
    entered_done parallel zero most u stored = nothing_is_done s first P u stored
    entered_done false (suc m) most u stored = turns_done (suc m) 1 (omega arith) (omega (arith, most)) u stored
    entered_done true (suc m) most u stored =
        then_done s first P (parallel_turns (suc m) 1 e body u) (does closed at (exit_touches e scope) nothing_done) (parallel_done (suc m) 1 (omega arith) (omega (arith, most)) u stored)
        (λ v within. act_done closed (exit_touches e scope) nothing_done v within exits (nothing_is_done s first P))

    from_entry_done : (seen : List Seen) → Each GoodHere (numbered 1 seen) → (u : Store) → IsStoreIn s first u → Ready (run_from_entry seen e scope at body u)
    from_entry_done seen good u stored =
        act_done (entered e.count) (entry_touches seen e scope) (run_entered e.head.parallel e.count e scope at body) u stored (each_append GoodHere (numbered 1 seen) (exit_when_none e.count e scope) good (maybe_exits e.count))
        (entered_done e.head.parallel e.count (omega arith))

  pub do_done : (h : Head) (b : StmtTrees) → Part t s nest scope around n (Do h b)
      → ((u : Store) → IsStoreIn s first u → (m : Limits) → (limits g h u).result ≡ Ok m → (k : ℕ) → 1 ≤ k → k ≤ (entered_with p n h b (limits g h u).seen m).count → (v : Store) → IsStoreIn s first v → Ready (run_all p b (n + 1) (frame (entered_with p n h b (limits g h u).seen m) k ∷ scope) v))
      → (u : Store) → IsStoreIn s first u → Ready (run p (Do h b) n scope u)
  do_done h b k bodies u stored =
      let head = head_fits around h b (and_parts _ (stmts_fit (in_loop around h) b) k.fit).0 in
      let uses = head_uses t h (and_parts _ (stmts_are_right (kind_in t) b) k.uses).0 in
      let whole : List Reference = numbered_accesses n 1 nest (own_accesses (constant_names t.decls) (indices_of nest) (Do h b)) in
      let mine : Listed t valid s first n nest scope 1 (own_accesses (constant_names t.decls) (indices_of nest) (Do h b)) = λ r i. k.listed r (in_left r whole _ i) in
      let e : Evaluated Limits = limits g h u in
      let good = bounds_seen t valid s first n nest scope k.same u stored h b head.bounds uses.bounds mine in
      on_done s first P at e.seen e.result (λ seen m. run_from_entry seen (entered_with p n h b seen m) scope at (λ f. run_all p b (n + 1) (f ∷ scope)) u)
      (own faulted (numbered 1 e.seen) good)
      (λ m o.
      let entry : Entered = entered_with p n h b e.seen m in
      let variable : is_among h.variable s.assigned ≡ true = k.assigns h.variable (among_first h.variable (h.private ++ assigned_in_all b)) in
      let of_loop : is_among h.variable s.loop_variables ≡ true = k.loops h.variable (among_first h.variable _) in
      let private : (x : List ℕ) → is_among x h.private ≡ true → is_among x s.assigned ≡ true = λ x i. k.assigns x (among_rest x h.variable (h.private ++ assigned_in_all b) (among_left x h.private (assigned_in_all b) i)) in
      let inner : (x : List ℕ) → is_among x (inner_variables h.parallel b) ≡ true → is_among x s.assigned ≡ true = λ x i. k.assigns x (among_rest x h.variable (h.private ++ assigned_in_all b) (among_right x h.private (assigned_in_all b) (all_index_assigned x b (inner_among h.parallel b x i)))) in
      let left = bounds_left t valid s first n nest scope k.same u stored h b head.bounds uses.bounds mine m o in
      from_entry_done entry (λ f. run_all p b (n + 1) (f ∷ scope)) (exit_good t valid s first n nest scope u stored entry variable of_loop head.named uses.private private inner left) (maybe_exit_good t valid s first n nest scope u stored entry variable of_loop head.named uses.private private inner left)
      (bodies u stored m o) e.seen good u stored)
