-- The accesses of a run of a program in its DO loops are made by references.
use Rattle.std.proofs.Common.{◌≡◌, ℕ, ◌+◌, ◌<◌, ◌≤◌, List, [], ◌∷◌, Bool, true, false, Result, Ok, Err, Some, refl, sym, ap, subst, ◌∙◌, arith, if◌then◌else◌}
use Rattle.std.specs.Prelude.{nat_lt}
use Rattle.std.specs.Str.Lines.{lines}
use Rattle.std.proofs.lemmas.Bool.{and_parts, lt-ltb, ltb-true}
use Rattle.ped_flow.specs.ped_base.specs.Lists.{is_among}
use Rattle.ped_flow.specs.ped_tree.specs.Names.Collecting.{with_names}
use Rattle.ped_flow.specs.ped_tree.proofs.NameLaws.Collected.{among_collected}
use Rattle.ped_flow.specs.ped_tree.specs.Tree.{CondTree, Head, StmtTree, StmtTrees, Assign, If, Do, Print, Read, Stop, Comment, no_stmts, more_stmts, ProgramTree}
use Rattle.ped_flow.specs.ped_tree.specs.Numbering.{statement_with, statement_count, statements_count}
use Rattle.ped_flow.specs.ped_tree.specs.Grammar.Fits.{Surroundings, moved, in_if, decls_fit, stmts_fit, begins_with_statement, at_body}
use Rattle.ped_graph.specs.ped_refs.specs.References.{Reference, outermost}
use Rattle.ped_graph.specs.ped_symbols.specs.NameRefusals.{IsValid}
use Rattle.ped_graph.specs.ped_symbols.specs.Kinds.{table_of}
use Rattle.ped_graph.specs.ped_symbols.specs.RightUses.RightPrograms.{IsRight}
use Rattle.ped_flow.specs.ped_affine.specs.Assigned.{assigned_in, assigned_in_all}
use Rattle.ped_flow.specs.ped_tree.specs.NamesIn.{all_loop_variables}
use Rattle.ped_flow.specs.ped_affine.specs.Ranges as ranges
use Rattle.ped_graph.specs.Dependences.{assigned_by, setting_in}
use Rattle.ped_eval.specs.ped_store.specs.Cells.{Scalar, Element, Private, In, Out}
use Rattle.ped_eval.specs.ped_store.specs.Stores.{Store, store_at_start}
use Rattle.ped_eval.specs.ped_store.specs.Acts.{Touch, Turn, Step, did, faulted, Act, store_behind}
use Rattle.ped_eval.specs.ped_store.specs.Races.{Access, accesses_of}
use Rattle.ped_laws.specs.Acts.Orders.{IsIn}
use Rattle.ped_eval.specs.Scopes.{Scope, Setting, names_in, place_of}
use Rattle.ped_eval.specs.Evaluation.{numbered}
use Rattle.ped_eval.specs.Values.{truth}
use Rattle.ped_eval.specs.Runs.{Ending, going, stopped, failed, Run, followed_by, does, on_value, run, run_all}
use Rattle.ped_eval.specs.Outcomes.{setting_of, run_of}
use Rattle.ped_laws.proofs.RunLaws.Touches.{Each, each_none, each_more, each_append}
use Rattle.ped_laws.specs.Covering.Within.{HoldsStorable}
use Rattle.ped_laws.specs.Conflicts.Reaching.{IsStoreIn}
use Rattle.ped_laws.specs.Conflicts.Making.{IsMade, AreMade}
use Rattle.ped_laws.proofs.ConflictLaws.Scoping.{touch_of_access, act_of_access}
use Rattle.ped_laws.proofs.ConflictLaws.MakingParts.{Part, Parts, stand_whole, first_part, rest_parts, then_parts, else_parts, in_setting}
use Rattle.ped_laws.proofs.ConflictLaws.MakingTouches.{Good, kept, good_keeps}
use Rattle.ped_laws.proofs.ConflictLaws.MakingSteps.{Behind, Done, assignment_done, print_done, read_done, stop_done, condition_good}
use Rattle.ped_laws.proofs.ConflictLaws.MakingRuns.{Fine, outermost_made}

module _ (t : ProgramTree) (valid : IsValid t) where
  abbrev p : Setting
  p = setting_of t

  abbrev variables : List (List ℕ)
  variables = with_names [] (all_loop_variables t.body)

  -- all that the program assigns
  abbrev whole : ranges.Setting
  whole = record { constants = (table_of t).constants; loop_variables = variables; assigned = assigned_in_all t.body }

  -- an access is made by a reference in an outermost DO with a number from lo on and before hi
  pub record MadeIn (first : ℕ → Store) (lo hi : ℕ) (a : Access) : Type 0 where
    pub reference : Reference
    pub scope : Scope
    pub store : Store
    pub least : lo ≤ outermost reference
    pub most : outermost reference < hi
    pub is : IsMade t (first (outermost reference)) a reference scope store

  abbrev FineIn : (ℕ → Store) → ℕ → ℕ → Act → Type 0
  FineIn first lo hi act = (a : Access) (turn : Turn) (inner : List Turn) → IsIn a (accesses_of act) → 0 < a.reference → a.place.turns ≡ turn ∷ inner → MadeIn first lo hi a

  -- where the run goes on its store holds storable numbers
  abbrev Holding : Ending → Type 0
  Holding (going u) = HoldsStorable variables u
  Holding (stopped u) = Unit {0}
  Holding (failed fault statement) = Unit {0}

  -- a run of statements with numbers from lo on and before hi that stand in no DO
  pub record Top (lo hi : ℕ) (r : Run) : Type 0 where
    pub first : ℕ → Store
    pub acts : Each (FineIn first lo hi) r.acts
    pub behind : Holding r.ending

  stored : (u : Store) → HoldsStorable variables u → IsStoreIn whole u u
  stored u h = record { storable = h; constant = λ x free. refl }

  widened : (first : ℕ → Store) (lo hi lo' hi' : ℕ) → lo' ≤ lo → hi ≤ hi' → (act : Act) → FineIn first lo hi act → FineIn first lo' hi' act
  widened first lo hi lo' hi' below above act fine a turn inner i positive e =
      let m = fine a turn inner i positive e in
      let least = m.least in
      let most = m.most in
      record { reference = m.reference; scope = m.scope; store = m.store; least = omega (arith, least, below); most = omega (arith, most, above); is = m.is }

  widened_top : (lo hi lo' hi' : ℕ) (r : Run) → lo' ≤ lo → hi ≤ hi' → Top lo hi r → Top lo' hi' r
  widened_top lo hi lo' hi' r below above top = record { first = top.first; acts = λ a i. widened top.first lo hi lo' hi' below above a (top.acts a i); behind = top.behind }

  -- the stores before and from a number on
  abbrev joined : ℕ → (ℕ → Store) → (ℕ → Store) → ℕ → Store
  joined mid first second m = if nat_lt m mid then first m else second m

  joined_first : (mid : ℕ) (first second : ℕ → Store) (lo hi : ℕ) → mid ≤ hi → (act : Act) → FineIn first lo mid act → FineIn (joined mid first second) lo hi act
  joined_first mid first second lo hi below act fine a turn inner i positive e =
      let m = fine a turn inner i positive e in
      let most = m.most in
      let same : first (outermost m.reference) ≡ joined mid first second (outermost m.reference) = ap (λ (b : Bool). if b then first (outermost m.reference) else second (outermost m.reference)) (sym (lt-ltb (outermost m.reference) mid most)) in
      record { reference = m.reference; scope = m.scope; store = m.store; least = m.least; most = omega (arith, most, below); is = subst (λ (u : Store). IsMade t u a m.reference m.scope m.store) same m.is }

  joined_second : (mid : ℕ) (first second : ℕ → Store) (lo hi : ℕ) → lo ≤ mid → (act : Act) → FineIn second mid hi act → FineIn (joined mid first second) lo hi act
  joined_second mid first second lo hi below act fine a turn inner i positive e =
      let m = fine a turn inner i positive e in
      let least = m.least in
      record { reference = m.reference; scope = m.scope; store = m.store; least = omega (arith, least, below); most = m.most; is = go (nat_lt (outermost m.reference) mid) refl m.is least }
    where
      go : (b : Bool) {r : Reference} {scope : Scope} {u : Store} → nat_lt (outermost r) mid ≡ b → IsMade t (second (outermost r)) a r scope u → mid ≤ outermost r → IsMade t (if b then first (outermost r) else second (outermost r)) a r scope u
      go false k made least = made
      go true {r = r} k made least = absurd (let z = ltb-true (outermost r) mid k in omega (arith, z, least))

  followed_top : (lo mid hi : ℕ) (first : ℕ → Store) (acts : List Act) (e : Ending) (next : Store → Run) → lo ≤ mid → mid ≤ hi → Each (FineIn first lo mid) acts → Holding e → ((u : Store) → HoldsStorable variables u → Top mid hi (next u)) → Top lo hi (followed_by acts e next)
  followed_top lo mid hi first acts (going u) next below above fine h rest =
      let r = rest u h in
      record {
        first = joined mid first r.first;
        acts = each_append (FineIn (joined mid first r.first) lo hi) acts (next u).acts (λ a i. joined_first mid first r.first lo hi above a (fine a i)) (λ a i. joined_second mid first r.first lo hi below a (r.acts a i));
        behind = r.behind;
      }
  followed_top lo mid hi first acts (stopped u) next below above fine h rest = record { first = first; acts = λ a i. widened first lo mid lo hi (omega arith) above a (fine a i); behind = tt }
  followed_top lo mid hi first acts (failed fault statement) next below above fine h rest = record { first = first; acts = λ a i. widened first lo mid lo hi (omega arith) above a (fine a i); behind = tt }

  -- an act outside of all DO loops
  outside : (first : ℕ → Store) (lo hi n : ℕ) (step : Step) (touches : List Touch) → FineIn first lo hi (record { step = step; place = place_of p n []; touches = touches })
  outside first lo hi n step touches a turn inner i positive e =
      let x = touch_of_access a (record { step = step; place = place_of p n []; touches = touches }) i in
      let none : [] ≡ turn ∷ inner = sym (ap (λ (z : Access). z.place.turns) x.2) ∙ e in
      absurd cc

  holding_of : (u : Store) (e : Ending) → Behind whole u (FineIn (λ m. u) 0 0) e → Holding e
  holding_of u (going v) h = h.storable
  holding_of u (stopped v) h = tt
  holding_of u (failed fault statement) h = tt

  -- a statement without parts
  simple_top : (u : Store) (n hi : ℕ) (r : Run) → Done whole u (FineIn (λ m. u) 0 0) r → Top n hi r
  simple_top u n hi r d = record { first = λ m. u; acts = λ a i x turn inner j positive e. none a i x turn inner j positive e; behind = holding_of u r.ending d.behind }
    where
      none : (a : Act) → IsIn a r.acts → FineIn (λ m. u) n hi a
      none a i x turn inner j positive e = let m = d.acts a i x turn inner j positive e in let most = m.most in absurd (omega (arith, most))

  -- the condition of an IF, and one of its parts
  if_top : (around : Surroundings) (n hi : ℕ) (c : CondTree) (a b : StmtTrees) → Part t whole [] [] around n (If c a b) → (first second : Store → Run) → n + 1 ≤ hi → ((u : Store) → HoldsStorable variables u → Top (n + 1) hi (first u)) → ((u : Store) → HoldsStorable variables u → Top (n + 1) hi (second u))
      → (u : Store) → HoldsStorable variables u → Top n hi (on_value (place_of p n []) (truth (names_in p []) c u).seen (truth (names_in p []) c u).result (λ seen holds. does did (place_of p n []) (numbered 1 seen) (if holds then first else second) u))
  if_top around n hi c a b k first second above h_first h_second u h = go (truth (names_in p []) c u).result
    where
      behind : HoldsStorable variables (store_behind (numbered 1 (truth (names_in p []) c u).seen) u)
      behind = (kept whole u (numbered 1 (truth (names_in p []) c u).seen) u
          (good_keeps t valid whole u n [] [] (numbered 1 (truth (names_in p []) c u).seen) (condition_good t valid whole u (FineIn (λ m. u) 0 0) n [] [] around (λ step touches good. outside (λ m. u) 0 0 n step touches) c a b k u (stored u h)))
          (stored u h)).storable

      act_first : (step : Step) → Each (FineIn (λ m. u) n (n + 1)) ((record { step = step; place = place_of p n []; touches = numbered 1 (truth (names_in p []) c u).seen }) ∷ [])
      act_first step = each_more (FineIn (λ m. u) n (n + 1)) _ [] (outside (λ m. u) n (n + 1) n step (numbered 1 (truth (names_in p []) c u).seen)) (each_none (FineIn (λ m. u) n (n + 1)))

      part : (holds : Bool) (v : Store) → HoldsStorable variables v → Top (n + 1) hi ((if holds then first else second) v)
      part true = h_first
      part false = h_second

      go : (r : Result Bool ℕ) → Top n hi (on_value (place_of p n []) (truth (names_in p []) c u).seen r (λ seen holds. does did (place_of p n []) (numbered 1 seen) (if holds then first else second) u))
      go (Ok holds) = followed_top n (n + 1) hi (λ m. u) ((record { step = did; place = place_of p n []; touches = numbered 1 (truth (names_in p []) c u).seen }) ∷ []) (going (store_behind (numbered 1 (truth (names_in p []) c u).seen) u)) (if holds then first else second) (omega arith) above (act_first did) behind (part holds)
      go (Err fault) = record { first = λ m. u; acts = λ a i. widened (λ m. u) n (n + 1) n hi (omega arith) above a (act_first faulted a i); behind = tt }

  -- a DO
  do_top : (around : Surroundings) (n hi : ℕ) (h : Head) (b : StmtTrees) → Part t whole [] [] around n (Do h b) → n < hi → (u : Store) → HoldsStorable variables u → Top n hi (run p (Do h b) n [] u)
  do_top around n hi h b k above u holds =
      let place : n + 0 ≡ n = omega arith in
      let stands : statement_with n t ≡ Some (Do h b) = ap (λ (i : ℕ). statement_with i t) (sym place) ∙ k.stand 0 (Do h b) refl in
      let assigns : (x : List ℕ) → is_among x (assigned_in (Do h b)) ≡ true → is_among x (setting_in t n).assigned ≡ true = λ x i. ap (λ o. is_among x (with_names [] (assigned_by o))) stands ∙ (among_collected x [] (assigned_in (Do h b)) ∙ i) in
      let d = outermost_made t valid around n h b (in_setting t whole (setting_in t n) [] [] around n (Do h b) refl assigns k) u (record { storable = holds; constant = λ x free. refl }) in
      record { first = λ m. u; acts = λ a i. fine a (d.acts a i); behind = by (run p (Do h b) n [] u).ending d.behind }
    where
      fine : (act : Act) → Fine t valid (record { number = n; head = h }) u act → FineIn (λ m. u) n hi act
      fine act f a turn inner i positive e =
          let m = f a turn inner i positive e in
          let same = m.inside in
          record { reference = m.reference; scope = m.scope; store = m.store; least = omega (arith, same); most = omega (arith, same, above); is = m.is }

      by : (e : Ending) → Behind (setting_in t n) u (Fine t valid (record { number = n; head = h }) u) e → Holding e
      by (going v) q = q.storable
      by (stopped v) q = tt
      by (failed fault statement) q = tt

  own : (u : Store) (n : ℕ) (step : Step) (touches : List Touch) → Each (Good t valid whole u n [] []) touches → FineIn (λ m. u) 0 0 (record { step = step; place = place_of p n []; touches = touches })
  own u n step touches good = outside (λ m. u) 0 0 n step touches

  mutual
    run_top : (x : StmtTree) (around : Surroundings) (n : ℕ) → Part t whole [] [] around n x → (u : Store) → HoldsStorable variables u → Top n (n + statement_count x) (run p x n [] u)
    run_top (Assign left right) around n k u h = simple_top u n (n + 1) (run p (Assign left right) n [] u) (assignment_done t valid whole u (FineIn (λ m. u) 0 0) n [] [] around (own u n) left right k u (stored u h))
    run_top (If c a b) around n k u h =
        if_top around n (n + (statements_count a + statements_count b + 1)) c a b k (run_all p a (n + 1) []) (run_all p b (n + 1 + statements_count a) []) (omega arith)
        (λ v g. widened_top (n + 1) (n + 1 + statements_count a) (n + 1) (n + (statements_count a + statements_count b + 1)) (run_all p a (n + 1) [] v) (omega arith) (omega arith) (all_top a (in_if around 1) (n + 1) (then_parts t whole [] [] around n c a b k) v g))
        (λ v g. widened_top (n + 1 + statements_count a) (n + 1 + statements_count a + statements_count b) (n + 1) (n + (statements_count a + statements_count b + 1)) (run_all p b (n + 1 + statements_count a) [] v) (omega arith) (omega arith)
        (all_top b (in_if around (1 + statements_count a)) (n + 1 + statements_count a) (else_parts t whole [] [] around n c a b k) v g))
        u h
    run_top (Do hd b) around n k u h = do_top around n (n + (statements_count b + 1)) hd b k (omega arith) u h
    run_top (Print items) around n k u h = simple_top u n (n + 1) (run p (Print items) n [] u) (print_done t valid whole u (FineIn (λ m. u) 0 0) n [] [] around (own u n) items k u (stored u h))
    run_top (Read items) around n k u h = simple_top u n (n + 1) (run p (Read items) n [] u) (read_done t valid whole u (FineIn (λ m. u) 0 0) n [] [] around (own u n) items k u (stored u h))
    run_top Stop around n k u h = simple_top u n (n + 1) (run p Stop n [] u) (stop_done t valid whole u (FineIn (λ m. u) 0 0) n [] [] around (own u n) u (stored u h))
    run_top (Comment text) around n k u h = record { first = λ m. u; acts = each_none (FineIn (λ m. u) n (n + 0)); behind = h }

    all_top : (xs : StmtTrees) (around : Surroundings) (n : ℕ) → Parts t whole [] [] around n xs → (u : Store) → HoldsStorable variables u → Top n (n + statements_count xs) (run_all p xs n [] u)
    all_top no_stmts around n k u h = record { first = λ m. u; acts = each_none (FineIn (λ m. u) n (n + 0)); behind = h }
    all_top (more_stmts x rest) around n k u h =
        let r = run_top x around n (first_part t whole [] [] around n x rest k) u h in
        let more = λ (v : Store) (g : HoldsStorable variables v). all_top rest (moved around (statement_count x)) (n + statement_count x) (rest_parts t whole [] [] around n x rest k) v g in
        let same : n + statement_count x + statements_count rest ≡ n + (statement_count x + statements_count rest) = omega arith in
        subst (λ (hi : ℕ). Top n hi (run_all p (more_stmts x rest) n [] u)) same
        (followed_top n (n + statement_count x) (n + statement_count x + statements_count rest) r.first (run p x n [] u).acts (run p x n [] u).ending (run_all p rest (n + statement_count x) []) (omega arith) (omega arith) r.acts r.behind more)

  at_start : (data_lines : List (List ℕ)) → HoldsStorable variables (store_at_start data_lines)
  at_start data_lines (Scalar x) n storing h = absurd cc
  at_start data_lines (Element x js) n storing h = absurd cc
  at_start data_lines (Private x path) n storing h = absurd cc
  at_start data_lines In n storing h = absurd cc
  at_start data_lines Out n storing h = absurd cc

  pub program_made : IsRight t → (data_bytes : List ℕ) → (first : ℕ → Store) × AreMade t data_bytes first
  program_made right data_bytes =
      let fits = and_parts (decls_fit 0 t.decls) (stmts_fit (at_body t) t.body) (and_parts _ (begins_with_statement t.body) valid.fits).0 in
      let top = all_top t.body (at_body t) 1 (record {
        fit = fits.1;
        uses = right.statements;
        increments = right.steps;
        assigns = λ x h. h;
        loops = λ x h. among_collected x [] (all_loop_variables t.body) ∙ h;
        listed = λ r i. i;
        stand = stand_whole t;
        same = λ x. refl;
        round = refl;
      }) (store_at_start (lines data_bytes)) (at_start (lines data_bytes)) in (
        top.first,
        λ a turn inner i positive e. (
            let act = act_of_access a (run_of t data_bytes).acts i in
            let m = top.acts act.0 act.1 a turn inner act.2 positive e in
            (m.reference, m.scope, m.store, m.is)
            ),
      )
