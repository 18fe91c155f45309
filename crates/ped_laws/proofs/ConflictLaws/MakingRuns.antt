-- The accesses of an execution of an outermost DO are made by references.
use Rattle.std.proofs.Common.{◌≡◌, ℕ, ◌+◌, ◌<◌, ◌≤◌, List, [], ◌∷◌, ◌++◌, Ok, refl, sym, ap, subst, ◌∙◌, arith}
use Rattle.std.proofs.lemmas.Bool.{and_parts}
use Rattle.ped_flow.specs.ped_base.specs.Lists.{is_among}
use Rattle.ped_flow.specs.ped_tree.specs.Tree.{Head, StmtTree, StmtTrees, Assign, If, Do, Print, Read, Stop, Comment, no_stmts, more_stmts, ProgramTree}
use Rattle.ped_flow.specs.ped_tree.specs.Nests.{Loop}
use Rattle.ped_flow.specs.ped_tree.specs.Numbering.{statement_with, statement_count, statements_count}
use Rattle.ped_flow.specs.ped_tree.specs.Grammar.Fits.{Surroundings, moved, in_if, in_loop, stmts_fit}
use Rattle.ped_graph.specs.ped_refs.specs.References.{Reference, outermost}
use Rattle.ped_graph.specs.ped_symbols.specs.NameRefusals.{IsValid}
use Rattle.ped_graph.specs.ped_symbols.specs.Kinds.{kind_in, at_last}
use Rattle.ped_graph.specs.ped_symbols.specs.RightUses.RightUses.{stmts_are_right}
use Rattle.ped_graph.specs.ped_symbols.specs.RightUses.RightLoops.{step_is_right, steps_are_right}
use Rattle.ped_flow.specs.ped_affine.specs.Ranges as ranges
use Rattle.ped_graph.specs.Dependences.{setting_in}
use Rattle.ped_eval.specs.ped_store.specs.Stores.{Store}
use Rattle.ped_eval.specs.ped_store.specs.Acts.{Touch, Turn, Step, Act}
use Rattle.ped_eval.specs.ped_store.specs.Races.{Access, accesses_of}
use Rattle.ped_laws.specs.Acts.Orders.{IsIn}
use Rattle.ped_eval.specs.Scopes.{Scope, Setting, names_in, place_of}
use Rattle.ped_eval.specs.Loops.{Limits, limits, entered_with, frame}
use Rattle.ped_eval.specs.Runs.{run, run_all}
use Rattle.ped_eval.specs.Outcomes.{setting_of}
use Rattle.ped_laws.proofs.RunLaws.Touches.{Each}
use Rattle.ped_laws.specs.Conflicts.Reaching.{IsStoreIn, IsEntered, Reached}
use Rattle.ped_laws.specs.Conflicts.Making.{IsMade}
use Rattle.ped_laws.proofs.ConflictLaws.Scoping.{index_untold, touch_of_access}
use Rattle.ped_laws.proofs.ConflictLaws.MakingParts.{Part, Parts, first_part, rest_parts, then_parts, else_parts, body_parts}
use Rattle.ped_laws.proofs.ConflictLaws.MakingTouches.{Good}
use Rattle.ped_laws.proofs.ConflictLaws.MakingSteps.{Done, then_done, nothing_is_done, assignment_done, print_done, read_done, stop_done, if_done, do_done, head_fits, head_uses}

-- an iteration of a DO of the program, whose bounds have come to these limits in this store, is one that is entered
pub entered_frame : (t : ProgramTree) (s : ranges.Setting) (first : Store) (nest : List Loop) (scope : Scope) (around : Surroundings) (n : ℕ) (h : Head) (b : StmtTrees) → Part t s nest scope around n (Do h b)
    → (u : Store) → IsStoreIn s first u → (m : Limits) → (limits (names_in (setting_of t) scope) h u).result ≡ Ok m → (k : ℕ) → 1 ≤ k → k ≤ (entered_with (setting_of t) n h b (limits (names_in (setting_of t) scope) h u).seen m).count
    → IsEntered t s first scope (record { number = n; head = h }) (frame (entered_with (setting_of t) n h b (limits (names_in (setting_of t) scope) h u).seen m) k)
entered_frame t s first nest scope around n h b p u stored m comes k from to =
    let head = head_fits around h b (and_parts _ (stmts_fit (in_loop around h) b) p.fit).0 in
    let uses = head_uses t h (and_parts _ (stmts_are_right (kind_in t) b) p.uses).0 in
    let place : n + 0 ≡ n = omega arith in
    record {
      body = b;
      stands = ap (λ (i : ℕ). statement_with i t) (sym place) ∙ p.stand 0 (Do h b) refl;
      step = (and_parts (step_is_right (at_last t).values h.step) (steps_are_right (at_last t).values b) p.increments).0;
      private = uses.private;
      named = head.named;
      other = index_untold scope h.variable (ap (is_among h.variable) (sym p.round) ∙ head.other);
      store = u;
      within = stored;
      seen = (limits (names_in (setting_of t) scope) h u).seen;
      bounds = m;
      comes = comes;
      turn = k;
      from = from;
      to = to;
      is = refl;
    }

-- the execution of an outermost DO, which begins with this store
module _ (t : ProgramTree) (valid : IsValid t) (outer : Loop) (first : Store) where
  abbrev s : ranges.Setting
  s = setting_in t outer.number

  abbrev p : Setting
  p = setting_of t

  -- an access that is made by a reference in the DO
  pub record Made (a : Access) : Type 0 where
    pub reference : Reference
    pub scope : Scope
    pub store : Store
    pub inside : outermost reference ≡ outer.number
    pub is : IsMade t first a reference scope store

  -- each access of the act that a reference makes in a DO is made so
  abbrev pub Fine : Act → Type 0
  Fine act = (a : Access) (turn : Turn) (inner : List Turn) → IsIn a (accesses_of act) → 0 < a.reference → a.place.turns ≡ turn ∷ inner → Made a

  own_fine : (ls : List Loop) (scope : Scope) (n : ℕ) → Reached t s first (outer ∷ ls) scope → (step : Step) (touches : List Touch) → Each (Good t valid s first n (outer ∷ ls) scope) touches → Fine (record { step = step; place = place_of (setting_of t) n scope; touches = touches })
  own_fine ls scope n reached step touches good a turn inner i above e =
      let x = touch_of_access a (record { step = step; place = place_of (setting_of t) n scope; touches = touches }) i in
      let m = (good x.0 x.1).made (subst (λ (z : Access). 0 < z.reference) x.2 above) in
      subst Made (sym x.2) (record {
        reference = record { statement = n; number = x.0.reference; access = m.access; nest = outer ∷ ls };
        scope = scope;
        store = m.store;
        inside = refl;
        is = record { listed = m.listed; statement = refl; number = refl; writes = m.manner; turns = refl; reached = reached; within = m.within; cell = m.stands };
      })

  mutual
    pub run_made : (u : StmtTree) (ls : List Loop) (scope : Scope) (around : Surroundings) (n : ℕ) → Reached t s first (outer ∷ ls) scope → Part t s (outer ∷ ls) scope around n u → (v : Store) → IsStoreIn s first v → Done s first Fine (run p u n scope v)
    run_made (Assign left right) ls scope around n reached k v stored = assignment_done t valid s first Fine n (outer ∷ ls) scope around (own_fine ls scope n reached) left right k v stored
    run_made (If c a b) ls scope around n reached k v stored =
        if_done t valid s first Fine n (outer ∷ ls) scope around (own_fine ls scope n reached) c a b k
        (λ w within. all_made a ls scope (in_if around 1) (n + 1) reached (then_parts t s (outer ∷ ls) scope around n c a b k) w within)
        (λ w within. all_made b ls scope (in_if around (1 + statements_count a)) (n + 1 + statements_count a) reached (else_parts t s (outer ∷ ls) scope around n c a b k) w within)
        v stored
    run_made (Do h b) ls scope around n reached k v stored =
        do_done t valid s first Fine n (outer ∷ ls) scope around (own_fine ls scope n reached) h b k
        (λ u within m comes i from to w inside.
        let f = frame (entered_with p n h b (limits (names_in p scope) h u).seen m) i in
        let l : Loop = record { number = n; head = h } in
        all_made b (ls ++ l ∷ []) (f ∷ scope) (in_loop around h) (n + 1) (outer ∷ ls, l, refl, entered_frame t s first (outer ∷ ls) scope around n h b k u within m comes i from to, reached)
        (body_parts t s (outer ∷ ls) scope around n h b f refl k) w inside)
        v stored
    run_made (Print items) ls scope around n reached k v stored = print_done t valid s first Fine n (outer ∷ ls) scope around (own_fine ls scope n reached) items k v stored
    run_made (Read items) ls scope around n reached k v stored = read_done t valid s first Fine n (outer ∷ ls) scope around (own_fine ls scope n reached) items k v stored
    run_made Stop ls scope around n reached k v stored = stop_done t valid s first Fine n (outer ∷ ls) scope around (own_fine ls scope n reached) v stored
    run_made (Comment text) ls scope around n reached k v stored = nothing_is_done s first Fine v stored

    pub all_made : (us : StmtTrees) (ls : List Loop) (scope : Scope) (around : Surroundings) (n : ℕ) → Reached t s first (outer ∷ ls) scope → Parts t s (outer ∷ ls) scope around n us → (v : Store) → IsStoreIn s first v → Done s first Fine (run_all p us n scope v)
    all_made no_stmts ls scope around n reached k v stored = nothing_is_done s first Fine v stored
    all_made (more_stmts u rest) ls scope around n reached k v stored =
        then_done s first Fine (run p u n scope v) (run_all p rest (n + statement_count u) scope) (run_made u ls scope around n reached (first_part t s (outer ∷ ls) scope around n u rest k) v stored)
        (λ w within. all_made rest ls scope (moved around (statement_count u)) (n + statement_count u) reached (rest_parts t s (outer ∷ ls) scope around n u rest k) w within)

-- the run of a DO that stands in no other
pub outermost_made : (t : ProgramTree) (valid : IsValid t) (around : Surroundings) (n : ℕ) (h : Head) (b : StmtTrees) → Part t (setting_in t n) [] [] around n (Do h b) → (u : Store) → IsStoreIn (setting_in t n) u u
    → Done (setting_in t n) u (Fine t valid (record { number = n; head = h }) u) (run (setting_of t) (Do h b) n [] u)
outermost_made t valid around n h b k u stored =
    do_done t valid (setting_in t n) u (Fine t valid (record { number = n; head = h }) u) n [] [] around own h b k
    (λ w within m comes i from to v inside.
    let f = frame (entered_with (setting_of t) n h b (limits (names_in (setting_of t) []) h w).seen m) i in
    all_made t valid (record { number = n; head = h }) u b [] (f ∷ []) (in_loop around h) (n + 1) ([], record { number = n; head = h }, refl, entered_frame t (setting_in t n) u [] [] around n h b k w within m comes i from to, refl)
    (body_parts t (setting_in t n) [] [] around n h b f refl k) v inside)
    u stored
  where
    own : (step : Step) (touches : List Touch) → Each (Good t valid (setting_in t n) u n [] []) touches → Fine t valid (record { number = n; head = h }) u (record { step = step; place = place_of (setting_of t) n []; touches = touches })
    own step touches good a turn inner i above e =
        let x = touch_of_access a (record { step = step; place = place_of (setting_of t) n []; touches = touches }) i in
        let none : [] ≡ turn ∷ inner = sym (ap (λ (z : Access). z.place.turns) x.2) ∙ e in
        absurd cc
