-- Two places in the same iterations, at which some names stand for other cells: what leaves these cells alone is done alike at both.
use Rattle.std.proofs.Common.{◌≡◌, ℕ, suc, ◌+◌, ◌<◌, List, [], ◌∷◌, ◌++◌, map, length, Bool, true, false, eqb, Some, Ok, inl, inr, ◌⊎◌, refl, sym, ap, subst, ◌∙◌, arith, if◌then◌else◌}
use Rattle.std.specs.Prelude.{◌||◌}
use Rattle.std.proofs.lemmas.Bool.{both_ways, or_right}
use Rattle.ped_bodies.specs.ped_flow.specs.ped_base.specs.Lists.{is_same_text, is_among}
use Rattle.ped_bodies.specs.ped_flow.specs.ped_base.proofs.NameEquality.{same_itself}
use Rattle.ped_bodies.specs.ped_flow.specs.ped_tree.specs.Tree.{CondTree, Head, StmtTree, StmtTrees, Assign, If, Do, Print, Read, Stop, Comment, no_stmts, more_stmts}
use Rattle.ped_bodies.specs.ped_flow.specs.ped_tree.specs.Numbering.{statement_count, statements_count}
use Rattle.ped_bodies.specs.ped_store.specs.Cells.{Cell, Scalar, Element, Private, In, Out, same_cell}
use Rattle.ped_bodies.specs.ped_store.specs.Stores.{Undefined, Number, Store}
use Rattle.ped_bodies.specs.ped_store.specs.Acts.{is_told, Turn, Touch, Act, iterations_of}
use Rattle.ped_bodies.specs.ped_laws.specs.Acts.Orders.{IsIn}
use Rattle.ped_bodies.specs.ped_laws.specs.Runs.Seeing.{Holds, ComesTo, IsToldBySight}
use Rattle.ped_bodies.specs.ped_laws.specs.Runs.Replaying.{Finish, finish_of, Replays}
use Rattle.ped_bodies.specs.ped_eval.specs.Scopes.{Setting, Frame, Scope, turns_of, cell_of, index_value, names_in}
use Rattle.ped_bodies.specs.ped_eval.specs.Evaluation.{Seen, cell_seen, index_seen, Evaluated, numbered}
use Rattle.ped_bodies.specs.ped_eval.specs.Values.{truth}
use Rattle.ped_bodies.specs.ped_eval.specs.Statements.{read_touch, write_touch}
use Rattle.ped_bodies.specs.ped_eval.specs.Loops.{Limits, limits, Entered, entered_with, frame, undefined_by, undefined_all, left_in_variable, exit_touches, exit_when_none}
use Rattle.ped_bodies.specs.ped_eval.specs.Runs.{Run, run, run_all}
use Rattle.ped_bodies.specs.ped_laws.proofs.ActLaws.Lists.{in_left, in_right}
use Rattle.ped_bodies.specs.ped_laws.proofs.RunLaws.SeenCells.{AllSeen, truth_seen, limits_seen}
use Rattle.ped_bodies.specs.ped_laws.proofs.RunLaws.Sight.{truth_told, limits_told}
use Rattle.ped_bodies.specs.ped_laws.proofs.RunLaws.StatementsTold.{run_told}
use Rattle.ped_bodies.specs.ped_laws.proofs.RunLaws.Touches.{Each}
use Rattle.ped_bodies.specs.ped_steps.specs.Runs.Exchanging.{IsExchange, AreExchanged, exchanged_store, exchanged_touch, exchanged_acts, exchanged_run, is_of_scalar, swapped}
use Rattle.ped_bodies.specs.ped_steps.proofs.RunLaws.ExchangedRuns.{run_in}
use Rattle.ped_bodies.specs.ped_steps.proofs.RunLaws.ExchangedSight.{seen_in, seeing, itself, names_exchanged, truth_in, limits_in}
use Rattle.ped_bodies.specs.ped_steps.proofs.RunLaws.Replayed.{same_finish, replays_in}
use Rattle.ped_bodies.specs.ped_steps.proofs.RunLaws.RunCells.{EachDo, EachDos, run_keeps, all_keep}
use Rattle.ped_bodies.specs.ped_steps.proofs.RunLaws.Swapped.{cell_name, cell_depth, swapped_first, swapped_other, twice, named_so, of_scalar, length_behind, length_path, depth_within}
use Rattle.ped_loop_runs.specs.OtherCopies.{AreNear}

-- each DO is of any kind
mutual
  any_do : (t : StmtTree) (n : ℕ) → EachDo (λ k h body. Unit {0}) t n
  any_do (Assign left right) n = tt
  any_do (If c a b) n = (any_dos a (n + 1), any_dos b (n + 1 + statements_count a))
  any_do (Do h body) n = (tt, any_dos body (n + 1))
  any_do (Print items) n = tt
  any_do (Read items) n = tt
  any_do Stop n = tt
  any_do (Comment text) n = tt

  any_dos : (ts : StmtTrees) (n : ℕ) → EachDos (λ k h body. Unit {0}) ts n
  any_dos no_stmts n = tt
  any_dos (more_stmts t rest) n = (any_do t n, any_dos rest (n + statement_count t))

-- what a scalar stands for at a place, a copy further inside, or a cell of no scalar
abbrev Own : Scope → Cell → Type 0
Own S c = ((x : List ℕ) × (c ≡ cell_of S x)) ⊎ ((length (turns_of S) < cell_depth c) ⊎ (is_of_scalar c ≡ false))

own_scalar : (S : Scope) (x : List ℕ) → Own S (cell_of S x)
own_scalar S x = inl (x, refl)

own_outward : (f : Frame) (S : Scope) (c : Cell) → Own (f ∷ S) c → Own S c
own_outward f S c (inr (inr none)) = inr (inr none)
own_outward f S c (inr (inl deep)) = let longer = length_behind (turns_of S) f.turn in inr (inl (omega (arith, deep, longer)))
own_outward f S c (inl own) = go (is_among own.0 f.private) own.1
  where
    go : (b : Bool) → c ≡ (if b then Private own.0 (iterations_of (turns_of (f ∷ S))) else cell_of S own.0) → Own S c
    go true e =
        let deep : cell_depth c ≡ length (iterations_of (turns_of (f ∷ S))) = ap cell_depth e in
        let path = length_path (turns_of (f ∷ S)) in
        let longer = length_behind (turns_of S) f.turn in
        inr (inl (omega (arith, deep, path, longer)))
    go false e = inl (own.0, e)

-- each cell that a run touches is such a cell
abbrev AllOwn : Scope → List Act → Type 0
AllOwn S acts = Each (λ (a : Act). Each (λ (t : Touch). Own S t.cell) a.touches) acts

run_own : (p : Setting) (t : StmtTree) (n : ℕ) (S : Scope) (s : Store) → AllOwn S (run p t n S s).acts
run_own p t n S s =
    run_keeps p (λ k h body. Unit {0}) Own own_scalar (λ T x js w. inr (inr refl)) (λ T. inr (inr refl)) (λ T. inr (inr refl))
    (λ k h body seen m j T c q o. own_outward (frame (entered_with p k h body seen m) j) T c o) t n S s (any_do t n)

all_own : (p : Setting) (ts : StmtTrees) (n : ℕ) (S : Scope) (s : Store) → AllOwn S (run_all p ts n S s).acts
all_own p ts n S s =
    all_keep p (λ k h body. Unit {0}) Own own_scalar (λ T x js w. inr (inr refl)) (λ T. inr (inr refl)) (λ T. inr (inr refl))
    (λ k h body seen m j T c q o. own_outward (frame (entered_with p k h body seen m) j) T c o) ts n S s (any_dos ts n)

-- what each scalar stands for at the one place and at the other change places
abbrev near_name : Scope → Scope → Cell → Cell
near_name S T (Scalar x) = swapped (cell_of S x) (cell_of T x) (Scalar x)
near_name S T (Private x path) = swapped (cell_of S x) (cell_of T x) (Private x path)
near_name S T (Element x js) = Element x js
near_name S T In = In
near_name S T Out = Out

module _ (S T : Scope) where
  abbrev swapping : List ℕ → Cell → Cell
  swapping x = swapped (cell_of S x) (cell_of T x)

  abbrev IsNamed : List ℕ → Cell → Type 0
  IsNamed x c = (cell_name c ≡ x) × (is_of_scalar c ≡ true)

  of_name : (x : List ℕ) (c : Cell) → IsNamed x c → near_name S T c ≡ swapping x c
  of_name x (Scalar y) h = ap (λ (z : List ℕ). swapping z (Scalar y)) h.0
  of_name x (Private y path) h = ap (λ (z : List ℕ). swapping z (Private y path)) h.0
  of_name x (Element y js) h = absurd (both_ways false refl h.1)
  of_name x In h = absurd (both_ways false refl h.1)
  of_name x Out h = absurd (both_ways false refl h.1)

  swapped_named : (x : List ℕ) (c : Cell) → IsNamed x c → IsNamed x (swapping x c)
  swapped_named x c h = go (same_cell (cell_of S x) c) (same_cell (cell_of T x) c)
    where
      go : (a b : Bool) → IsNamed x (if a then cell_of T x else (if b then cell_of S x else c))
      go true b = (named_so T x, of_scalar T x)
      go false true = (named_so S x, of_scalar S x)
      go false false = h

  named_twice : (x : List ℕ) (c : Cell) → IsNamed x c → near_name S T (near_name S T c) ≡ c
  named_twice x c h = ap (near_name S T) (of_name x c h) ∙ (of_name x (swapping x c) (swapped_named x c h) ∙ twice (cell_of S x) (cell_of T x) c)

  near_twice : (c : Cell) → near_name S T (near_name S T c) ≡ c
  near_twice (Scalar x) = named_twice x (Scalar x) (refl, refl)
  near_twice (Private x path) = named_twice x (Private x path) (refl, refl)
  near_twice (Element x js) = refl
  near_twice In = refl
  near_twice Out = refl

  near_exchanges : IsExchange (near_name S T)
  near_exchanges = record { twice = near_twice; element = λ x js. refl; input = refl; output = refl }

  near_cell : (x : List ℕ) → near_name S T (cell_of S x) ≡ cell_of T x
  near_cell x = of_name x (cell_of S x) (named_so S x, of_scalar S x) ∙ swapped_first (cell_of S x) (cell_of T x) (cell_of S x) refl

  module _ (turns : turns_of T ≡ turns_of S) (index : (x : List ℕ) → index_value T x ≡ index_value S x) where
    near_inside : (x : List ℕ) (path : List _) → length (turns_of S) < length path → near_name S T (Private x path) ≡ Private x path
    near_inside x path less =
        of_name x (Private x path) (refl, refl)
        ∙ swapped_other (cell_of S x) (cell_of T x) (Private x path)
        (λ q. let a = depth_within S x in let b : cell_depth (cell_of S x) ≡ length path = ap cell_depth q in omega (arith, a, b, less))
        (λ q. let a = depth_within T x in let b : cell_depth (cell_of T x) ≡ length path = ap cell_depth q in let e : length (turns_of T) ≡ length (turns_of S) = ap length turns in omega (arith, a, b, e, less))

    near_exchanged : AreExchanged (near_name S T) S T
    near_exchanged = record { turns = turns; index = index; cell = λ x. sym (near_cell x); inside = near_inside }

    deep_stays : (c : Cell) → length (turns_of S) < cell_depth c → near_name S T c ≡ c
    deep_stays (Private x path) less = near_inside x path less
    deep_stays (Scalar x) less = absurd (omega (arith, less))
    deep_stays (Element x js) less = refl
    deep_stays In less = refl
    deep_stays Out less = refl

  other_stays : (c : Cell) → is_of_scalar c ≡ false → near_name S T c ≡ c
  other_stays (Scalar x) h = absurd (both_ways true h refl)
  other_stays (Private x path) h = absurd (both_ways true h refl)
  other_stays (Element x js) h = refl
  other_stays In h = refl
  other_stays Out h = refl

pub first_among : (x : List ℕ) (xs : List (List ℕ)) → is_among x (x ∷ xs) ≡ true
first_among x xs = ap (λ (b : Bool). b || is_among x xs) (same_itself x)

pub rest_among : (y x : List ℕ) (xs : List (List ℕ)) → is_among y xs ≡ true → is_among y (x ∷ xs) ≡ true
rest_among y x xs h = or_right (is_same_text y x) (is_among y xs) h

-- touches that leave the cells alone that stand apart
abbrev pub LeaveTouches : (Cell → Bool) → List Touch → Type 0
LeaveTouches apart ts = (t : Touch) → IsIn t ts → apart t.cell ≡ false

-- acts of such touches
abbrev pub LeaveActs : (Cell → Bool) → List Act → Type 0
LeaveActs apart acts = (a : Act) → IsIn a acts → LeaveTouches apart a.touches

module _ (names : List (List ℕ)) (apart : Cell → Bool) (S T : Scope) (near : AreNear names apart S T) where
  abbrev name : Cell → Cell
  name = near_name S T

  exchanged : AreExchanged name S T
  exchanged = near_exchanged S T near.turns near.index

  -- what a scalar stands for is the same cell at both, where it doesn't stand apart, and where it is none of the names
  pub cell_same : (x : List ℕ) → apart (cell_of S x) ≡ false → cell_of T x ≡ cell_of S x
  cell_same x h = elim (near.cell x) [ inl e ↦ e | inr q ↦ absurd (both_ways (apart (cell_of S x)) h q.1) ]

  pub named_same : (x : List ℕ) → is_among x names ≡ false → cell_of T x ≡ cell_of S x
  named_same x h = elim (near.cell x) [ inl e ↦ e | inr q ↦ absurd (both_ways (is_among x names) h q.0) ]

  stays : (c : Cell) → Own S c → apart c ≡ false → name c ≡ c
  stays c (inl own) h = ap name own.1 ∙ (near_cell S T own.0 ∙ (cell_same own.0 (ap apart (sym own.1) ∙ h) ∙ sym own.1))
  stays c (inr (inl deep)) h = deep_stays S T near.turns near.index c deep
  stays c (inr (inr none)) h = other_stays S T c none

  touches_stay : (ts : List Touch) → Each (λ (t : Touch). Own S t.cell) ts → LeaveTouches apart ts → map (exchanged_touch name) ts ≡ ts
  touches_stay [] own leave = refl
  touches_stay (t ∷ ts) own leave =
      λ i. record { cell = stays t.cell (own t (inl refl)) (leave t (inl refl)) i; manner = t.manner; content = t.content; reference = t.reference } ∷ touches_stay ts (λ x j. own x (inr j)) (λ x j. leave x (inr j)) i

  acts_stay : (acts : List Act) → AllOwn S acts → LeaveActs apart acts → exchanged_acts name acts ≡ acts
  acts_stay [] own leave = refl
  acts_stay (a ∷ acts) own leave =
      λ i. record { step = a.step; place = a.place; touches = touches_stay a.touches (own a (inl refl)) (leave a (inl refl)) i } ∷ acts_stay acts (λ x j. own x (inr j)) (λ x j. leave x (inr j)) i

  -- statements do the same at both
  pub all_near : (p : Setting) (ts : StmtTrees) (n : ℕ) (s : Store) → LeaveActs apart (run_all p ts n S s).acts → Replays (run_all p ts n T) (run_all p ts n S s).acts (finish_of (run_all p ts n S s).ending)
  all_near p ts n s leave =
      subst (λ (acts : List Act). Replays (run_all p ts n T) acts (finish_of (run_all p ts n S s).ending)) (acts_stay (run_all p ts n S s).acts (all_own p ts n S s) leave)
      (replays_in name p ts n S T (near_exchanges S T) exchanged s)

  pub run_near : (p : Setting) (t : StmtTree) (n : ℕ) (s : Store) → LeaveActs apart (run p t n S s).acts → Replays (run p t n T) (run p t n S s).acts (finish_of (run p t n S s).ending)
  run_near p t n s leave =
      let back : exchanged_store name (exchanged_store name s) ≡ s = (λ i c. s (near_twice S T c i)) in
      let there : run p t n T (exchanged_store name s) ≡ exchanged_run name (run p t n S s) =
      run_in name (near_exchanges S T) p t n S T exchanged (exchanged_store name s) ∙ ap (λ (u : Store). exchanged_run name (run p t n S u)) back in
      subst (λ (acts : List Act). Replays (run p t n T) acts (finish_of (run p t n S s).ending)) (acts_stay (run p t n S s).acts (run_own p t n S s) leave)
      (subst (λ (finish : Finish). Replays (run p t n T) (exchanged_acts name (run p t n S s).acts) finish) (same_finish name (run p t n S s).ending)
      (subst (λ (r : Run). Replays (run p t n T) r.acts (finish_of r.ending)) there ((run_told p t n T).replays (exchanged_store name s))))

  -- evaluations come to the same at both
  abbrev Stay : List Seen → Type 0
  Stay seen = AllSeen (λ c. name c ≡ c) seen

  seen_stay : (n : ℕ) (seen : List Seen) → AllSeen (Own S) seen → LeaveTouches apart (numbered n seen) → Stay seen
  seen_stay n [] own leave = tt
  seen_stay n (cell_seen c content ∷ more) own leave = (stays c own.0 (leave (read_touch c content n) (inl refl)), seen_stay (suc n) more own.1 (λ t i. leave t (inr i)))
  seen_stay n (index_seen c v ∷ more) own leave = (stays c own.0 (leave (record { cell = c; manner = is_told; content = Number v; reference = 0 }) (inl refl)), seen_stay n more own.1 (λ t i. leave t (inr i)))

  seen_same : (seen : List Seen) → Stay seen → map (seen_in name) seen ≡ seen
  seen_same [] h = refl
  seen_same (cell_seen c content ∷ more) h = λ i. cell_seen (h.0 i) content ∷ seen_same more h.1 i
  seen_same (index_seen c v ∷ more) h = λ i. index_seen (h.0 i) v ∷ seen_same more h.1 i

  holds_same : (s : Store) (seen : List Seen) → Stay seen → Holds s seen → Holds (exchanged_store name s) seen
  holds_same s [] h k = tt
  holds_same s (cell_seen c content ∷ more) h k = (ap s h.0 ∙ k.0, holds_same s more h.1 k.1)
  holds_same s (index_seen c v ∷ more) h k = holds_same s more h.1 k

  comes_near : {X : Type 0} (e other : Store → Evaluated X) → IsToldBySight e → ((s : Store) → other s ≡ seeing name itself (e (exchanged_store name s))) → (u : Store) (seen : List Seen) (x : X) → e u ≡ record { seen = seen; result = Ok x } → Stay seen → ComesTo other seen (Ok x)
  comes_near e other told same u seen x is stay s holds =
      let comes : ComesTo e seen (Ok x) = subst (λ (r : Evaluated _). ComesTo e r.seen r.result) is (told.comes u) in
      same s ∙ (ap (seeing name itself) (comes (exchanged_store name s) (holds_same s seen stay holds)) ∙ (λ i. record { seen = seen_same seen stay i; result = Ok x }))

  pub truth_near : (p : Setting) (c : CondTree) (u : Store) (seen : List Seen) (x : Bool) → truth (names_in p S) c u ≡ record { seen = seen; result = Ok x } → LeaveTouches apart (numbered 1 seen) → ComesTo (truth (names_in p T) c) seen (Ok x)
  truth_near p c u seen x is leave =
      let own : AllSeen (Own S) seen = subst (λ (r : Evaluated Bool). AllSeen (Own S) r.seen) is (truth_seen (Own S) (names_in p S) (own_scalar S) (λ y js. inr (inr refl)) c u) in
      comes_near (truth (names_in p S) c) (truth (names_in p T) c) (truth_told (names_in p S) c) (truth_in name (near_exchanges S T).element (names_in p S) (names_in p T) (names_exchanged name p S T exchanged) c) u seen x is (seen_stay 1 seen own leave)

  pub limits_near : (p : Setting) (h : Head) (u : Store) (seen : List Seen) (x : Limits) → limits (names_in p S) h u ≡ record { seen = seen; result = Ok x } → LeaveTouches apart (numbered 1 seen) → ComesTo (limits (names_in p T) h) seen (Ok x)
  limits_near p h u seen x is leave =
      let own : AllSeen (Own S) seen = subst (λ (r : Evaluated Limits). AllSeen (Own S) r.seen) is (limits_seen (Own S) (names_in p S) (own_scalar S) (λ y js. inr (inr refl)) h u) in
      comes_near (limits (names_in p S) h) (limits (names_in p T) h) (limits_told (names_in p S) h) (limits_in name (near_exchanges S T).element (names_in p S) (names_in p T) (names_exchanged name p S T exchanged) h) u seen x is (seen_stay 1 seen own leave)

  -- exits
  undefined_by_near : (n : ℕ) (xs : List (List ℕ)) → LeaveTouches apart (undefined_by S n xs) → undefined_by T n xs ≡ undefined_by S n xs
  undefined_by_near n [] leave = refl
  undefined_by_near n (x ∷ xs) leave = λ i. write_touch (cell_same x (leave (write_touch (cell_of S x) Undefined n) (inl refl)) i) Undefined n ∷ undefined_by_near (suc n) xs (λ t j. leave t (inr j)) i

  undefined_all_near : (xs : List (List ℕ)) → LeaveTouches apart (undefined_all S xs) → undefined_all T xs ≡ undefined_all S xs
  undefined_all_near [] leave = refl
  undefined_all_near (x ∷ xs) leave = λ i. write_touch (cell_same x (leave (write_touch (cell_of S x) Undefined 0) (inl refl)) i) Undefined 0 ∷ undefined_all_near xs (λ t j. leave t (inr j)) i

  pub exit_near : (e : Entered) → LeaveTouches apart (exit_touches e S) → exit_touches e T ≡ exit_touches e S
  exit_near e leave =
      let private = undefined_by_near e.behind_bounds e.head.private (λ t j. leave t (inr (in_left t (undefined_by S e.behind_bounds e.head.private) (undefined_all S e.inner) j))) in
      let inner = undefined_all_near e.inner (λ t j. leave t (inr (in_right t (undefined_by S e.behind_bounds e.head.private) (undefined_all S e.inner) j))) in
      λ i. write_touch (cell_same e.head.variable (leave (write_touch (cell_of S e.head.variable) (left_in_variable e) 0) (inl refl)) i) (left_in_variable e) 0 ∷ (private i ++ inner i)

  pub exit_when_near : (n : ℕ) (e : Entered) → LeaveTouches apart (exit_when_none n e S) → exit_when_none n e T ≡ exit_when_none n e S
  exit_when_near n e leave = go (eqb n 0) leave
    where
      go : (b : Bool) → LeaveTouches apart (if b then exit_touches e S else []) → (if b then exit_touches e T else []) ≡ (if b then exit_touches e S else [])
      go true k = exit_near e k
      go false k = refl

  -- what the head of a PARALLEL DO names becomes undefined at both, where it is none of the names
  pub private_near : (n : ℕ) (xs : List (List ℕ)) → ((x : List ℕ) → is_among x xs ≡ true → is_among x names ≡ false) → undefined_by T n xs ≡ undefined_by S n xs
  private_near n [] none = refl
  private_near n (x ∷ xs) none = λ i. write_touch (named_same x (none x (first_among x xs)) i) Undefined n ∷ private_near (suc n) xs (λ y h. none y (rest_among y x xs h)) i

  -- iterations further in
  pub near_more : (f g : Frame) → g.turn ≡ f.turn → g.variable ≡ f.variable → ((x : List ℕ) → (is_among x g.private ≡ is_among x f.private) ⊎ ((is_among x names ≡ true) × (apart (cell_of (f ∷ S) x) ≡ true))) → AreNear names apart (f ∷ S) (g ∷ T)
  near_more f g turn variable private = record {
    turns = turns;
    index = λ x i. if is_same_text x (variable i) then Some (turn i).value else near.index x i;
    cell = λ x. elim (private x) [ inl e ↦ cell x e (is_among x f.private) refl | inr q ↦ inr q ];
  }
    where
      turns : turns_of (g ∷ T) ≡ turns_of (f ∷ S)
      turns i = near.turns i ++ turn i ∷ []

      cell : (x : List ℕ) → is_among x g.private ≡ is_among x f.private → (b : Bool) → is_among x f.private ≡ b → (cell_of (g ∷ T) x ≡ cell_of (f ∷ S) x) ⊎ ((is_among x names ≡ true) × (apart (cell_of (f ∷ S) x) ≡ true))
      cell x e true q =
          let there : cell_of (g ∷ T) x ≡ Private x (iterations_of (turns_of (g ∷ T))) = ap (λ (b : Bool). if b then Private x (iterations_of (turns_of (g ∷ T))) else cell_of T x) (e ∙ q) in
          let here : cell_of (f ∷ S) x ≡ Private x (iterations_of (turns_of (f ∷ S))) = ap (λ (b : Bool). if b then Private x (iterations_of (turns_of (f ∷ S))) else cell_of S x) q in
          inl (there ∙ (ap (λ (ts : List Turn). Private x (iterations_of ts)) turns ∙ sym here))
      cell x e false q =
          let there : cell_of (g ∷ T) x ≡ cell_of T x = ap (λ (b : Bool). if b then Private x (iterations_of (turns_of (g ∷ T))) else cell_of T x) (e ∙ q) in
          let here : cell_of (f ∷ S) x ≡ cell_of S x = ap (λ (b : Bool). if b then Private x (iterations_of (turns_of (f ∷ S))) else cell_of S x) q in
          elim (near.cell x) [ inl same ↦ inl (there ∙ (same ∙ sym here)) | inr w ↦ inr (w.0, ap apart here ∙ w.1) ]

pub near_itself : (names : List (List ℕ)) (apart : Cell → Bool) (S : Scope) → AreNear names apart S S
near_itself names apart S = record { turns = refl; index = λ x. refl; cell = λ x. inl refl }
