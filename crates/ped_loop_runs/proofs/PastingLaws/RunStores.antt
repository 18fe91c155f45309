-- Stores of a run of a valid program: elements, and scalars that are the variable of no DO, hold storable numbers.
use Rattle.std.proofs.Common.{◌≡◌, ℕ, ◌+◌, List, [], ◌∷◌, ◌++◌, true, not, refl, sym, ap, ◌∙◌, subst, inl, inr}
use Rattle.std.specs.Str.Lines.{lines}
use Rattle.std.proofs.lemmas.Bool.{and_parts}
use Rattle.ped_bodies.specs.ped_flow.specs.ped_tree.specs.Names.Collecting.{with_names}
use Rattle.ped_bodies.specs.ped_flow.specs.ped_tree.proofs.NameLaws.Collected.{among_collected}
use Rattle.ped_bodies.specs.ped_flow.specs.ped_tree.specs.Tree.{StmtTree, StmtTrees, Assign, If, Do, Print, Read, Stop, Comment, no_stmts, more_stmts, ProgramTree}
use Rattle.ped_bodies.specs.ped_flow.specs.ped_tree.specs.Nests.{Loop}
use Rattle.ped_bodies.specs.ped_flow.specs.ped_tree.specs.Numbering.{statement_count, statements_count}
use Rattle.ped_bodies.specs.ped_flow.specs.ped_tree.specs.Grammar.Fits.{Surroundings, moved, in_if, in_loop, decls_fit, stmts_fit, begins_with_statement, at_body}
use Rattle.ped_bodies.specs.ped_graph.specs.Dependences.{setting_in}
use Rattle.ped_bodies.specs.ped_symbols.specs.NameRefusals.{IsValid}
use Rattle.ped_bodies.specs.ped_symbols.specs.Kinds.{table_of}
use Rattle.ped_bodies.specs.ped_symbols.specs.RightUses.RightPrograms.{IsRight}
use Rattle.ped_bodies.specs.ped_affine.specs.Assigned.{assigned_in_all}
use Rattle.ped_bodies.specs.ped_flow.specs.ped_tree.specs.NamesIn.{all_loop_variables}
use Rattle.ped_bodies.specs.ped_affine.specs.Ranges as ranges
use Rattle.ped_bodies.specs.ped_store.specs.Cells.{Cell, Scalar, Element, Private, In, Out}
use Rattle.ped_bodies.specs.ped_store.specs.Stores.{Store, store_at_start}
use Rattle.ped_bodies.specs.ped_store.specs.Acts.{Touch, Step, Act, store_behind}
use Rattle.ped_bodies.specs.ped_laws.specs.Acts.Fitting.{store_after}
use Rattle.ped_bodies.specs.ped_laws.specs.Acts.Orders.{IsIn}
use Rattle.ped_bodies.specs.ped_laws.proofs.ActLaws.Lists.{in_left}
use Rattle.ped_bodies.specs.ped_laws.specs.Covering.Within.{is_storing, HoldsStorable}
use Rattle.ped_bodies.specs.ped_laws.specs.Conflicts.Reaching.{IsStoreIn}
use Rattle.ped_bodies.specs.ped_eval.specs.Scopes.{Scope, Setting, names_in, place_of}
use Rattle.ped_bodies.specs.ped_eval.specs.Loops.{limits, entered_with, frame}
use Rattle.ped_bodies.specs.ped_eval.specs.Runs.{run, run_all}
use Rattle.ped_bodies.specs.ped_eval.specs.Outcomes.{setting_of, run_of}
use Rattle.ped_bodies.specs.ped_laws.proofs.RunLaws.Touches.{Each}
use Rattle.ped_bodies.specs.ped_laws.proofs.ConflictLaws.MakingParts.{Part, Parts, stand_whole, first_part, rest_parts, then_parts, else_parts, body_parts}
use Rattle.ped_bodies.specs.ped_laws.proofs.ConflictLaws.MakingTouches.{Keeps, Good, kept, good_keeps}
use Rattle.ped_bodies.specs.ped_laws.proofs.ConflictLaws.MakingSteps.{Done, then_done, nothing_is_done, assignment_done, print_done, read_done, stop_done, if_done, do_done}

module _ (t : ProgramTree) (valid : IsValid t) (s : ranges.Setting) (first : Store) where
  abbrev p : Setting
  p = setting_of t

  -- each touch of the act keeps what stores hold
  abbrev Keeping : Act → Type 0
  Keeping a = Each (Keeps s) a.touches

  own : (nest : List Loop) (scope : Scope) (n : ℕ) (step : Step) (touches : List Touch) → Each (Good t valid s first n nest scope) touches → Keeping (record { step = step; place = place_of (setting_of t) n scope; touches = touches })
  own nest scope n step touches good = good_keeps t valid s first n nest scope touches good

  mutual
    run_keeping : (u : StmtTree) (nest : List Loop) (scope : Scope) (around : Surroundings) (n : ℕ) → Part t s nest scope around n u → (v : Store) → IsStoreIn s first v → Done s first Keeping (run p u n scope v)
    run_keeping (Assign left right) nest scope around n k v stored = assignment_done t valid s first Keeping n nest scope around (own nest scope n) left right k v stored
    run_keeping (If c a b) nest scope around n k v stored =
        if_done t valid s first Keeping n nest scope around (own nest scope n) c a b k
        (λ w within. all_keeping a nest scope (in_if around 1) (n + 1) (then_parts t s nest scope around n c a b k) w within)
        (λ w within. all_keeping b nest scope (in_if around (1 + statements_count a)) (n + 1 + statements_count a) (else_parts t s nest scope around n c a b k) w within)
        v stored
    run_keeping (Do h b) nest scope around n k v stored =
        do_done t valid s first Keeping n nest scope around (own nest scope n) h b k
        (λ u within m comes i from to w inside.
        let f = frame (entered_with p n h b (limits (names_in p scope) h u).seen m) i in
        all_keeping b (nest ++ (record { number = n; head = h }) ∷ []) (f ∷ scope) (in_loop around h) (n + 1) (body_parts t s nest scope around n h b f refl k) w inside)
        v stored
    run_keeping (Print items) nest scope around n k v stored = print_done t valid s first Keeping n nest scope around (own nest scope n) items k v stored
    run_keeping (Read items) nest scope around n k v stored = read_done t valid s first Keeping n nest scope around (own nest scope n) items k v stored
    run_keeping Stop nest scope around n k v stored = stop_done t valid s first Keeping n nest scope around (own nest scope n) v stored
    run_keeping (Comment text) nest scope around n k v stored = nothing_is_done s first Keeping v stored

    all_keeping : (us : StmtTrees) (nest : List Loop) (scope : Scope) (around : Surroundings) (n : ℕ) → Parts t s nest scope around n us → (v : Store) → IsStoreIn s first v → Done s first Keeping (run_all p us n scope v)
    all_keeping no_stmts nest scope around n k v stored = nothing_is_done s first Keeping v stored
    all_keeping (more_stmts u rest) nest scope around n k v stored =
        then_done s first Keeping (run p u n scope v) (run_all p rest (n + statement_count u) scope) (run_keeping u nest scope around n (first_part t s nest scope around n u rest k) v stored)
        (λ w within. all_keeping rest nest scope (moved around (statement_count u)) (n + statement_count u) (rest_parts t s nest scope around n u rest k) w within)

  within_after : (acts : List Act) (u : Store) → Each Keeping acts → IsStoreIn s first u → IsStoreIn s first (store_after acts u)
  within_after [] u all h = h
  within_after (a ∷ acts) u all h = within_after acts (store_behind a.touches u) (λ b i. all b (inr i)) (kept s first a.touches u (all a (inl refl)) h)

module _ (t : ProgramTree) (valid : IsValid t) (right : IsRight t) (data_bytes : List ℕ) where
  abbrev start : Store
  start = store_at_start (lines data_bytes)

  abbrev variables : List (List ℕ)
  variables = with_names [] (all_loop_variables t.body)

  -- all that the program assigns
  abbrev whole : ranges.Setting
  whole = record { constants = (table_of t).constants; loop_variables = variables; assigned = assigned_in_all t.body }

  at_start : HoldsStorable variables start
  at_start (Scalar x) n storing h = absurd cc
  at_start (Element x js) n storing h = absurd cc
  at_start (Private x path) n storing h = absurd cc
  at_start In n storing h = absurd cc
  at_start Out n storing h = absurd cc

  all_acts : Each (λ (a : Act). Each (Keeps whole) a.touches) (run_of t data_bytes).acts
  all_acts =
      let fits = and_parts (decls_fit 0 t.decls) (stmts_fit (at_body t) t.body) (and_parts _ (begins_with_statement t.body) valid.fits).0 in
      (all_keeping t valid whole start t.body [] [] (at_body t) 1 (record {
        fit = fits.1;
        uses = right.statements;
        increments = right.steps;
        assigns = λ x h. h;
        loops = λ x h. among_collected x [] (all_loop_variables t.body) ∙ h;
        listed = λ r i. i;
        stand = stand_whole t;
        same = λ x. refl;
        round = refl;
      }) start (record { storable = at_start; constant = λ x free. refl })).acts

  storing_collected : (c : Cell) → is_storing (all_loop_variables t.body) c ≡ true → is_storing variables c ≡ true
  storing_collected (Scalar x) h = ap not (among_collected x [] (all_loop_variables t.body)) ∙ h
  storing_collected (Element x js) h = h
  storing_collected (Private x path) h = ap not (among_collected x [] (all_loop_variables t.body)) ∙ h
  storing_collected In h = h
  storing_collected Out h = h

  pub storable_after : (front behind : List Act) → (run_of t data_bytes).acts ≡ front ++ behind → (n : ℕ) → HoldsStorable (setting_in t n).loop_variables (store_after front start)
  storable_after front behind is n =
      (within_after t valid whole start front start (λ a i. all_acts a (subst (IsIn a) (sym is) (in_left a front behind i))) (record { storable = at_start; constant = λ x free. refl })).storable

  pub all_storable_after : (front behind : List Act) → (run_of t data_bytes).acts ≡ front ++ behind → HoldsStorable (all_loop_variables t.body) (store_after front start)
  all_storable_after front behind is c n storing = storable_after front behind is 0 c n (storing_collected c storing)
