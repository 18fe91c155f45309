-- Acts that leave copies alone: those of other statements in the same iterations, and those of other iterations of a DO.
use Rattle.std.proofs.Common.{◌≡◌, ℕ, zero, suc, ◌+◌, ◌≤◌, ◌<◌, List, [], ◌∷◌, ◌++◌, Bool, true, false, eqb, refl, sym, ap, ◌∙◌, ◌⊎◌, inl, inr, append_assoc, arith, if◌then◌else◌}
use Rattle.std.proofs.lemmas.Bool.{both_ways}
use Rattle.std.proofs.lemmas.List.{map-append}
use Rattle.ped_bodies.specs.ped_flow.specs.ped_base.specs.Lists.{is_among}
use Rattle.ped_bodies.specs.ped_flow.specs.ped_tree.specs.Tree.{CondTree, Head, StmtTree, StmtTrees, Assign, If, Do, Print, Read, Stop, Comment, no_stmts, more_stmts}
use Rattle.ped_bodies.specs.ped_flow.specs.ped_tree.specs.Numbering.{statement_count, statements_count}
use Rattle.ped_bodies.specs.ped_store.specs.Cells.{Cell, Scalar, Element, Private, In, Out, Iteration}
use Rattle.ped_bodies.specs.ped_store.specs.Stores.{Undefined, Number, Store}
use Rattle.ped_bodies.specs.ped_store.specs.Acts.{is_told, Touch, Step, Place, Act, ended_turn, iterations_of}
use Rattle.ped_bodies.specs.ped_laws.specs.Acts.Orders.{IsIn}
use Rattle.ped_bodies.specs.ped_laws.specs.FlowRuns.Exits.{IsOneToOne}
use Rattle.ped_bodies.specs.ped_laws.specs.Runs.Replaying.{act}
use Rattle.ped_bodies.specs.ped_eval.specs.Scopes.{Setting, Frame, Scope, turns_of, cell_of, names_in}
use Rattle.ped_bodies.specs.ped_eval.specs.Evaluation.{Seen, cell_seen, index_seen, numbered}
use Rattle.ped_bodies.specs.ped_eval.specs.Values.{truth}
use Rattle.ped_bodies.specs.ped_eval.specs.Statements.{read_touch, write_touch}
use Rattle.ped_bodies.specs.ped_eval.specs.Loops.{Limits, limits, Entered, entered_with, frame, undefined_by, undefined_all, left_in_variable, exit_touches, exit_when_none, entry_touches}
use Rattle.ped_bodies.specs.ped_eval.specs.Runs.{Run, does, turns, parallel_turns, run, run_all}
use Rattle.ped_bodies.specs.ped_laws.proofs.FlowRunLaws.Names.{no_copy_within}
use Rattle.ped_bodies.specs.ped_laws.proofs.FlowRunLaws.Apart.{same_behind}
use Rattle.ped_bodies.specs.ped_laws.proofs.RunLaws.SeenCells.{AllSeen, truth_seen, limits_seen}
use Rattle.ped_bodies.specs.ped_laws.proofs.RunLaws.Touches.{Each, each_none, each_more, each_append, then_each, does_each}
use Rattle.ped_bodies.specs.ped_steps.specs.Runs.Exchanging.{is_of_scalar}
use Rattle.ped_bodies.specs.ped_steps.proofs.RunLaws.RunCells.{EachDo, EachDos, run_keeps, all_keep}
use Rattle.ped_bodies.specs.ped_steps.proofs.RunLaws.RunPlaces.{run_each, all_each}
use Rattle.ped_loop_runs.specs.Executions.{IsCopyInside, StandsInside, LeaveCopies}

abbrev path_of : Cell → List Iteration
path_of (Private x path) = path
path_of (Scalar x) = []
path_of (Element x js) = []
path_of In = []
path_of Out = []

same_head : {X : Type 0} (x y : X) (xs ys : List X) → x ∷ xs ≡ y ∷ ys → x ≡ y
same_head x y xs ys e = cc

-- one copy, and the iterations that it belongs to
same_iteration : (c : Cell) (x y : List ℕ) (at : List Iteration) (i j : Iteration) (r q : List Iteration) → c ≡ Private x (at ++ i ∷ r) → c ≡ Private y (at ++ j ∷ q) → i ≡ j
same_iteration c x y at i j r q e f = same_head i j r q (same_behind at (i ∷ r) (j ∷ q) (ap path_of (sym e ∙ f)))

-- no list goes on behind itself
no_longer : {X : Type 0} (xs : List X) (y : X) (ys : List X) → xs ≡ xs ++ y ∷ ys → ⊥
no_longer [] y ys e = absurd cc
no_longer (x ∷ xs) y ys e = let rest : xs ≡ xs ++ y ∷ ys = cc in no_longer xs y ys rest

-- the iterations that an act stands in, as those of a copy
abbrev standing : Act → Cell
standing a = Private [] (iterations_of a.place.turns)

-- the numbers of the DO loops in statements
mutual
  do_between : (x : StmtTree) (n lo count : ℕ) → lo ≤ n → n + statement_count x ≤ lo + count → EachDo (λ k h b. (lo ≤ k) × (k < lo + count)) x n
  do_between (Assign left right) n lo count h k = tt
  do_between (If c a b) n lo count h k = (dos_between a (n + 1) lo count (omega (arith, h)) (omega (arith, k)), dos_between b (n + 1 + statements_count a) lo count (omega (arith, h)) (omega (arith, k)))
  do_between (Do head b) n lo count h k = ((h, omega (arith, k)), dos_between b (n + 1) lo count (omega (arith, h)) (omega (arith, k)))
  do_between (Print items) n lo count h k = tt
  do_between (Read items) n lo count h k = tt
  do_between Stop n lo count h k = tt
  do_between (Comment text) n lo count h k = tt

  dos_between : (xs : StmtTrees) (n lo count : ℕ) → lo ≤ n → n + statements_count xs ≤ lo + count → EachDos (λ k h b. (lo ≤ k) × (k < lo + count)) xs n
  dos_between no_stmts n lo count h k = tt
  dos_between (more_stmts x rest) n lo count h k = (do_between x n lo count h (omega (arith, k)), dos_between rest (n + statement_count x) lo count (omega (arith, h)) (omega (arith, k)))

module _ (p : Setting) where
  -- what a scalar stands for in these iterations, or no cell of a scalar
  abbrev pub IsOwn : Scope → Cell → Type 0
  IsOwn S c = ((x : List ℕ) × (c ≡ cell_of S x)) ⊎ (is_of_scalar c ≡ false)

  abbrev pub Reaches : ℕ → ℕ → Scope → Cell → Type 0
  Reaches n count S c = IsOwn S c ⊎ IsCopyInside p S n count c

  pub own_scalar : (S : Scope) (x : List ℕ) → IsOwn S (cell_of S x)
  own_scalar S x = inl (x, refl)

  own_element : (S : Scope) (x : List ℕ) (js : _) → IsOwn S (Element x js)
  own_element S x js = inr refl

  own_in : (S : Scope) → IsOwn S In
  own_in S = inr refl

  own_out : (S : Scope) → IsOwn S Out
  own_out S = inr refl

  -- an iteration of a DO further in
  module _ (n : ℕ) (h : Head) (b : StmtTrees) (seen : List Seen) (m : Limits) (S : Scope) where
    abbrev Trip : ℕ → Scope
    Trip j = frame (entered_with p n h b seen m) j ∷ S

    longer : (j : ℕ) → iterations_of (turns_of (Trip j)) ≡ iterations_of (turns_of S) ++ (record { statement = p.number n; number = j }) ∷ []
    longer j = map-append _ (turns_of S) ((frame (entered_with p n h b seen m) j).turn ∷ [])

    -- a copy of this iteration, or of one further inside
    pub record IsOfTrip (j : ℕ) (c : Cell) : Type 0 where
      pub name : List ℕ
      pub rest : List Iteration
      pub is : c ≡ Private name (iterations_of (turns_of S) ++ (record { statement = p.number n; number = j }) ∷ rest)

    inside_trip : (j lo count : ℕ) (c : Cell) → IsCopyInside p (Trip j) lo count c → IsOfTrip j c
    inside_trip j lo count c k =
        let i : Iteration = record { statement = p.number k.statement; number = k.number } in
        record {
          name = k.name;
          rest = i ∷ k.rest;
          is = k.is ∙ ap (Private k.name) (ap (λ (z : List Iteration). z ++ i ∷ k.rest) (longer j) ∙ append_assoc (iterations_of (turns_of S)) ((record { statement = p.number n; number = j }) ∷ []) (i ∷ k.rest));
        }

    own_trip : (j : ℕ) (c : Cell) → IsOwn (Trip j) c → IsOwn S c ⊎ IsOfTrip j c
    own_trip j c (inr none) = inl (inr none)
    own_trip j c (inl own) = go (is_among own.0 (frame (entered_with p n h b seen m) j).private) own.1
      where
        go : (some : Bool) → c ≡ (if some then Private own.0 (iterations_of (turns_of (Trip j))) else cell_of S own.0) → IsOwn S c ⊎ IsOfTrip j c
        go true e = inr (record { name = own.0; rest = []; is = e ∙ ap (Private own.0) (longer j) })
        go false e = inl (inl (own.0, e))

    reach_trip : (j lo count : ℕ) (c : Cell) → Reaches lo count (Trip j) c → IsOwn S c ⊎ IsOfTrip j c
    reach_trip j lo count c (inl own) = own_trip j c own
    reach_trip j lo count c (inr k) = inr (inside_trip j lo count c k)

    pub trip_inside : (j lo count : ℕ) (c : Cell) → lo ≤ n → n < lo + count → IsOfTrip j c → IsCopyInside p S lo count c
    trip_inside j lo count c from to k = record { name = k.name; statement = n; from = from; to = to; number = j; rest = k.rest; is = k.is }

    outward : (j lo count : ℕ) (c : Cell) → (lo ≤ n) × (n < lo + count) → Reaches lo count (Trip j) c → Reaches lo count S c
    outward j lo count c q r = elim (reach_trip j lo count c r) [ inl own ↦ inl own | inr k ↦ inr (trip_inside j lo count c q.0 q.1 k) ]

    trips_apart : (i j lo count : ℕ) (c : Cell) → (i ≡ j → ⊥) → IsOwn S c ⊎ IsOfTrip j c → IsCopyInside p (Trip i) lo count c → ⊥
    trips_apart i j lo count c other (inr k) copy =
        let d = inside_trip i lo count c copy in
        other (ap (λ (z : Iteration). z.number) (same_iteration c d.name k.name (iterations_of (turns_of S)) (record { statement = p.number n; number = i }) (record { statement = p.number n; number = j }) d.rest k.rest d.is k.is))
    trips_apart i j lo count c other (inl own) copy = let d = inside_trip i lo count c copy in own_apart own d
      where
        own_apart : IsOwn S c → IsOfTrip i c → ⊥
        own_apart (inl e) d = no_copy_within S e.0 d.name (record { statement = p.number n; number = i }) d.rest (sym e.1 ∙ d.is)
        own_apart (inr none) d = both_ways (is_of_scalar c) none (ap is_of_scalar d.is)

  -- where an act stands: here, or further inside
  abbrev Stands : ℕ → ℕ → Scope → Act → Type 0
  Stands n count S a = (iterations_of a.place.turns ≡ iterations_of (turns_of S)) ⊎ IsCopyInside p S n count (standing a)

  as_copy : (S : Scope) (lo count : ℕ) (a : Act) → StandsInside p S lo count a.place.turns → IsCopyInside p S lo count (standing a)
  as_copy S lo count a k = record { name = []; statement = k.statement; from = k.from; to = k.to; number = k.number; rest = k.rest; is = ap (Private []) k.is }

  here_apart : (S : Scope) (lo count : ℕ) (a : Act) → iterations_of a.place.turns ≡ iterations_of (turns_of S) → StandsInside p S lo count a.place.turns → ⊥
  here_apart S lo count a e k = no_longer (iterations_of (turns_of S)) (record { statement = p.number k.statement; number = k.number }) k.rest (sym e ∙ k.is)

  module _ (n : ℕ) (h : Head) (b : StmtTrees) (seen : List Seen) (m : Limits) (S : Scope) where
    stands_trip : (j lo count : ℕ) (a : Act) → Stands lo count (Trip n h b seen m S j) a → IsOfTrip n h b seen m S j (standing a)
    stands_trip j lo count a (inl e) = record { name = []; rest = []; is = ap (Private []) (e ∙ longer n h b seen m S j) }
    stands_trip j lo count a (inr k) = inside_trip n h b seen m S j lo count (standing a) k

    stands_outward : (j lo count : ℕ) (a : Act) → (lo ≤ n) × (n < lo + count) → Stands lo count (Trip n h b seen m S j) a → Stands lo count S a
    stands_outward j lo count a q r = inr (trip_inside n h b seen m S j lo count (standing a) q.0 q.1 (stands_trip j lo count a r))

  pub own_apart : (S : Scope) (lo count : ℕ) (c : Cell) → IsOwn S c → IsCopyInside p S lo count c → ⊥
  own_apart S lo count c (inl e) d = no_copy_within S e.0 d.name (record { statement = p.number d.statement; number = d.number }) d.rest (sym e.1 ∙ d.is)
  own_apart S lo count c (inr none) d = both_ways (is_of_scalar c) none (ap is_of_scalar d.is)

  inside_apart : IsOneToOne p.number → (S : Scope) (n count lo more : ℕ) (c : Cell) → (n + count ≤ lo) ⊎ (lo + more ≤ n) → IsCopyInside p S n count c → IsCopyInside p S lo more c → ⊥
  inside_apart one S n count lo more c ranges k d =
      let same = same_iteration c k.name d.name (iterations_of (turns_of S)) (record { statement = p.number k.statement; number = k.number }) (record { statement = p.number d.statement; number = d.number }) k.rest d.rest k.is d.is in
      let s : k.statement ≡ d.statement = one k.statement d.statement (ap (λ (z : Iteration). z.statement) same) in
      let k_from = k.from in
      let k_to = k.to in
      let d_from = d.from in
      let d_to = d.to in
      elim ranges [ inl h ↦ omega (arith, h, s, k_to, d_from) | inr h ↦ omega (arith, h, s, k_from, d_to) ]

  -- an act
  abbrev pub Leaves : Scope → ℕ → ℕ → Act → Type 0
  Leaves S lo count a = ((t : Touch) → IsIn t a.touches → IsCopyInside p S lo count t.cell → ⊥) × (StandsInside p S lo count a.place.turns → ⊥)

  pub leave_narrow : (S : Scope) (lo count n more : ℕ) (acts : List Act) → lo ≤ n → n + more ≤ lo + count → LeaveCopies p S lo count acts → LeaveCopies p S n more acts
  leave_narrow S lo count n more acts h k leave a i = (
    (λ t j c. let from = c.from in let to = c.to in (leave a i).0 t j (record { name = c.name; statement = c.statement; from = omega (arith, h, from); to = omega (arith, k, to); number = c.number; rest = c.rest; is = c.is })),
    (λ c. let from = c.from in let to = c.to in (leave a i).1 (record { statement = c.statement; from = omega (arith, h, from); to = omega (arith, k, to); number = c.number; rest = c.rest; is = c.is })),
  )

  pub leave_inward : (n : ℕ) (h : Head) (b : StmtTrees) (seen : List Seen) (m : Limits) (S : Scope) (j lo count from more : ℕ) (acts : List Act) → lo ≤ n → n < lo + count → LeaveCopies p S lo count acts → LeaveCopies p (frame (entered_with p n h b seen m) j ∷ S) from more acts
  leave_inward n h b seen m S j lo count from more acts below above leave a i = (
    (λ t k c. (leave a i).0 t k (trip_inside n h b seen m S j lo count t.cell below above (inside_trip n h b seen m S j from more t.cell c))),
    (λ k. let c = trip_inside n h b seen m S j lo count (standing a) below above (inside_trip n h b seen m S j from more (standing a) (as_copy (frame (entered_with p n h b seen m) j ∷ S) from more a k)) in
        (leave a i).1 (record { statement = c.statement; from = c.from; to = c.to; number = c.number; rest = c.rest; is = ap path_of c.is })),
  )

  pub leave_append : (S : Scope) (lo count : ℕ) (acts others : List Act) → LeaveCopies p S lo count acts → LeaveCopies p S lo count others → LeaveCopies p S lo count (acts ++ others)
  leave_append S lo count acts others = each_append (Leaves S lo count) acts others

  pub leave_none : (S : Scope) (lo count : ℕ) → LeaveCopies p S lo count []
  leave_none S lo count = each_none (Leaves S lo count)

  pub own_leaves : (S : Scope) (lo count : ℕ) (step : Step) (at : Place) → at.turns ≡ turns_of S → (touches : List Touch) → Each (λ (t : Touch). IsOwn S t.cell) touches → LeaveCopies p S lo count (act step at touches ∷ [])
  own_leaves S lo count step at there touches own =
      each_more (Leaves S lo count) (act step at touches) [] ((λ t i copy. own_apart S lo count t.cell (own t i) copy), (λ k. here_apart S lo count (act step at touches) (ap iterations_of there) k)) (leave_none S lo count)

  -- the cells that a run touches
  pub run_reaches : (x : StmtTree) (n : ℕ) (S : Scope) (s : Store) (a : Act) → IsIn a (run p x n S s).acts → (t : Touch) → IsIn t a.touches → Reaches n (statement_count x) S t.cell
  run_reaches x n S s a i t j =
      run_keeps p (λ k h b. (n ≤ k) × (k < n + statement_count x)) (λ S c. Reaches n (statement_count x) S c) (λ S y. inl (own_scalar S y)) (λ S y js w. inl (own_element S y js)) (λ S. inl (own_in S)) (λ S. inl (own_out S))
      (λ k h b seen m i S c q r. outward k h b seen m S i n (statement_count x) c q r) x n S s (do_between x n n (statement_count x) (omega arith) (omega arith)) a i t j

  pub all_reach : (xs : StmtTrees) (n : ℕ) (S : Scope) (s : Store) (a : Act) → IsIn a (run_all p xs n S s).acts → (t : Touch) → IsIn t a.touches → Reaches n (statements_count xs) S t.cell
  all_reach xs n S s a i t j =
      all_keep p (λ k h b. (n ≤ k) × (k < n + statements_count xs)) (λ S c. Reaches n (statements_count xs) S c) (λ S y. inl (own_scalar S y)) (λ S y js w. inl (own_element S y js)) (λ S. inl (own_in S)) (λ S. inl (own_out S))
      (λ k h b seen m i S c q r. outward k h b seen m S i n (statements_count xs) c q r) xs n S s (dos_between xs n n (statements_count xs) (omega arith) (omega arith)) a i t j

  -- other statements in the same iterations
  pub run_leaves : IsOneToOne p.number → (x : StmtTree) (n : ℕ) (S : Scope) (s : Store) (lo count : ℕ) → (n + statement_count x ≤ lo) ⊎ (lo + count ≤ n) → LeaveCopies p S lo count (run p x n S s).acts
  run_leaves one x n S s lo count ranges a i = (touches, stands)
    where
      touches : (t : Touch) → IsIn t a.touches → IsCopyInside p S lo count t.cell → ⊥
      touches t j copy =
          elim (run_reaches x n S s a i t j) [
            | inl own ↦ own_apart S lo count t.cell own copy
            | inr k ↦ inside_apart one S n (statement_count x) lo count t.cell ranges k copy
          ]

      stands : StandsInside p S lo count a.place.turns → ⊥
      stands copy =
          elim (run_each p (λ k h b. (n ≤ k) × (k < n + statement_count x)) (Stands n (statement_count x)) (λ S k step touches. inl refl)
          (λ k h b seen m i S u c q there r. stands_outward k h b seen m S i n (statement_count x) c q r) x n S s (do_between x n n (statement_count x) (omega arith) (omega arith)) a i) [
            | inl e ↦ here_apart S lo count a e copy
            | inr k ↦ inside_apart one S n (statement_count x) lo count (standing a) ranges k (as_copy S lo count a copy)
          ]

  pub all_leave : IsOneToOne p.number → (xs : StmtTrees) (n : ℕ) (S : Scope) (s : Store) (lo count : ℕ) → (n + statements_count xs ≤ lo) ⊎ (lo + count ≤ n) → LeaveCopies p S lo count (run_all p xs n S s).acts
  all_leave one xs n S s lo count ranges a i = (touches, stands)
    where
      touches : (t : Touch) → IsIn t a.touches → IsCopyInside p S lo count t.cell → ⊥
      touches t j copy =
          elim (all_reach xs n S s a i t j) [
            | inl own ↦ own_apart S lo count t.cell own copy
            | inr k ↦ inside_apart one S n (statements_count xs) lo count t.cell ranges k copy
          ]

      stands : StandsInside p S lo count a.place.turns → ⊥
      stands copy =
          elim (all_each p (λ k h b. (n ≤ k) × (k < n + statements_count xs)) (Stands n (statements_count xs)) (λ S k step touches. inl refl)
          (λ k h b seen m i S u c q there r. stands_outward k h b seen m S i n (statements_count xs) c q r) xs n S s (dos_between xs n n (statements_count xs) (omega arith) (omega arith)) a i) [
            | inl e ↦ here_apart S lo count a e copy
            | inr k ↦ inside_apart one S n (statements_count xs) lo count (standing a) ranges k (as_copy S lo count a copy)
          ]

  -- the cells of an entry, of a condition and of an exit
  numbered_own : (S : Scope) (n : ℕ) (seen : List Seen) → AllSeen (IsOwn S) seen → Each (λ (t : Touch). IsOwn S t.cell) (numbered n seen)
  numbered_own S n [] a = each_none (λ (t : Touch). IsOwn S t.cell)
  numbered_own S n (cell_seen c content ∷ more) a = each_more (λ (t : Touch). IsOwn S t.cell) (read_touch c content n) (numbered (suc n) more) a.0 (numbered_own S (suc n) more a.1)
  numbered_own S n (index_seen c v ∷ more) a = each_more (λ (t : Touch). IsOwn S t.cell) (record { cell = c; manner = is_told; content = Number v; reference = 0 }) (numbered n more) a.0 (numbered_own S n more a.1)

  private_own : (S : Scope) (n : ℕ) (xs : List (List ℕ)) → Each (λ (t : Touch). IsOwn S t.cell) (undefined_by S n xs)
  private_own S n [] = each_none (λ (t : Touch). IsOwn S t.cell)
  private_own S n (x ∷ xs) = each_more (λ (t : Touch). IsOwn S t.cell) (write_touch (cell_of S x) Undefined n) (undefined_by S (suc n) xs) (own_scalar S x) (private_own S (suc n) xs)

  inner_own : (S : Scope) (xs : List (List ℕ)) → Each (λ (t : Touch). IsOwn S t.cell) (undefined_all S xs)
  inner_own S [] = each_none (λ (t : Touch). IsOwn S t.cell)
  inner_own S (x ∷ xs) = each_more (λ (t : Touch). IsOwn S t.cell) (write_touch (cell_of S x) Undefined 0) (undefined_all S xs) (own_scalar S x) (inner_own S xs)

  pub exit_own : (S : Scope) (e : Entered) → Each (λ (t : Touch). IsOwn S t.cell) (exit_touches e S)
  exit_own S e =
      each_more (λ (t : Touch). IsOwn S t.cell) (write_touch (cell_of S e.head.variable) (left_in_variable e) 0) (undefined_by S e.behind_bounds e.head.private ++ undefined_all S e.inner) (own_scalar S e.head.variable)
      (each_append (λ (t : Touch). IsOwn S t.cell) (undefined_by S e.behind_bounds e.head.private) (undefined_all S e.inner) (private_own S e.behind_bounds e.head.private) (inner_own S e.inner))

  pub exit_when_own : (S : Scope) (n : ℕ) (e : Entered) → Each (λ (t : Touch). IsOwn S t.cell) (exit_when_none n e S)
  exit_when_own S n e = go (eqb n 0)
    where
      go : (some : Bool) → Each (λ (t : Touch). IsOwn S t.cell) (if some then exit_touches e S else [])
      go true = exit_own S e
      go false = each_none (λ (t : Touch). IsOwn S t.cell)

  pub condition_own : (S : Scope) (c : CondTree) (s : Store) → Each (λ (t : Touch). IsOwn S t.cell) (numbered 1 (truth (names_in p S) c s).seen)
  condition_own S c s = numbered_own S 1 (truth (names_in p S) c s).seen (truth_seen (IsOwn S) (names_in p S) (own_scalar S) (own_element S) c s)

  pub entry_own : (S : Scope) (h : Head) (s : Store) (e : Entered) → Each (λ (t : Touch). IsOwn S t.cell) (entry_touches (limits (names_in p S) h s).seen e S)
  entry_own S h s e =
      each_append (λ (t : Touch). IsOwn S t.cell) (numbered 1 (limits (names_in p S) h s).seen) (exit_when_none e.count e S)
      (numbered_own S 1 (limits (names_in p S) h s).seen (limits_seen (IsOwn S) (names_in p S) (own_scalar S) (own_element S) h s)) (exit_when_own S e.count e)

  -- other iterations
  module _ (n : ℕ) (h : Head) (b : StmtTrees) (seen : List Seen) (m : Limits) (S : Scope) where
    abbrev Of : ℕ → Scope
    Of j = frame (entered_with p n h b seen m) j ∷ S

    abbrev Body : Frame → Store → Run
    Body f = run_all p b (n + 1) (f ∷ S)

    pub body_reaches : (j : ℕ) (s : Store) (a : Act) → IsIn a (Body (frame (entered_with p n h b seen m) j) s).acts → (t : Touch) → IsIn t a.touches → IsOwn S t.cell ⊎ IsOfTrip n h b seen m S j t.cell
    body_reaches j s a i t k = reach_trip n h b seen m S j (n + 1) (statements_count b) t.cell (all_reach b (n + 1) (Of j) s a i t k)

    pub body_leaves : (i j : ℕ) (s : Store) (lo count : ℕ) → (i ≡ j → ⊥) → LeaveCopies p (Of i) lo count (Body (frame (entered_with p n h b seen m) j) s).acts
    body_leaves i j s lo count other a k = (touches, stands)
      where
        touches : (t : Touch) → IsIn t a.touches → IsCopyInside p (Of i) lo count t.cell → ⊥
        touches t q copy =
            trips_apart n h b seen m S i j lo count t.cell other
            (body_reaches j s a k t q)
            copy

        stands : StandsInside p (Of i) lo count a.place.turns → ⊥
        stands copy =
            trips_apart n h b seen m S i j lo count (standing a) other
            (inr (stands_trip n h b seen m S j (n + 1) (statements_count b) a
            (all_each p (λ k h c. (n + 1 ≤ k) × (k < n + 1 + statements_count b)) (Stands (n + 1) (statements_count b)) (λ S k step touches. inl refl)
            (λ k h b' seen m i S u c q there r. stands_outward k h b' seen m S i (n + 1) (statements_count b) c q r) b (n + 1) (Of j) s (dos_between b (n + 1) (n + 1) (statements_count b) (omega arith) (omega arith)) a k)))
            (as_copy (Of i) lo count a copy)

    pub end_leaves : (i lo count : ℕ) (step : Step) (at : Place) → at.turns ≡ turns_of S → (touches : List Touch) → Each (λ (t : Touch). IsOwn S t.cell) touches → LeaveCopies p (Of i) lo count (act step at touches ∷ [])
    end_leaves i lo count step at there touches own = leave_inward n h b seen m S i n 1 lo count (act step at touches ∷ []) (omega arith) (omega arith) (own_leaves S n 1 step at there touches own)

    pub turns_leave : (at : Place) → at.turns ≡ turns_of S → (left k : ℕ) (s : Store) (i lo count : ℕ) → i < k → LeaveCopies p (Of i) lo count (turns left k (entered_with p n h b seen m) S at Body s).acts
    turns_leave at there zero k s i lo count earlier = leave_none (Of i) lo count
    turns_leave at there (suc left) k s i lo count earlier =
        let e = entered_with p n h b seen m in
        then_each (Leaves (Of i) lo count) (Body (frame e k) s) (does (ended_turn left) at (exit_when_none left e S) (turns left (k + 1) e S at Body)) (body_leaves i k s lo count (λ same. omega (arith, earlier, same)))
        (λ u. does_each (Leaves (Of i) lo count) (ended_turn left) at (exit_when_none left e S) (turns left (k + 1) e S at Body) u
        (end_leaves i lo count (ended_turn left) at there (exit_when_none left e S) (exit_when_own S left e) (act (ended_turn left) at (exit_when_none left e S)) (inl refl))
        (λ v. turns_leave at there left (k + 1) v i lo count (omega (arith, earlier))))

    pub parallel_leave : (left k : ℕ) (s : Store) (i lo count : ℕ) → i < k → LeaveCopies p (Of i) lo count (parallel_turns left k (entered_with p n h b seen m) Body s).acts
    parallel_leave zero k s i lo count earlier = leave_none (Of i) lo count
    parallel_leave (suc left) k s i lo count earlier =
        let e = entered_with p n h b seen m in
        then_each (Leaves (Of i) lo count) (Body (frame e k) s) (parallel_turns left (k + 1) e Body) (body_leaves i k s lo count (λ same. omega (arith, earlier, same))) (λ u. parallel_leave left (k + 1) u i lo count (omega (arith, earlier)))
