-- A statement whose run goes on makes an access by each of its references.
use Rattle.std.proofs.Common.{◌≡◌, ℕ, ◌+◌, List, [], ◌∷◌, ◌++◌, Bool, Option, Some, None, refl, inl, if◌then◌else◌}
use Rattle.std.specs.List.{list_all}
use Rattle.std.proofs.lemmas.Bool.{and_parts}
use Rattle.ped_laws.specs.ped_flow.specs.ped_tree.specs.Tree.{ExprTree, CondTree, ItemTree, Head, StmtTree, StmtTrees, Assign, If, Do, Print, Read, Stop, Comment, ProgramTree}
use Rattle.ped_laws.specs.ped_flow.specs.ped_tree.specs.Nests.{Loop, indices_of}
use Rattle.ped_laws.specs.ped_flow.specs.ped_tree.specs.Numbering.{statements_count}
use Rattle.ped_laws.specs.ped_flow.specs.ped_tree.specs.Accesses as tree
use Rattle.ped_laws.specs.ped_flow.specs.ped_tree.specs.Accesses.{private_writes, own_accesses, constant_names}
use Rattle.ped_laws.specs.ped_flow.specs.ped_tree.specs.Grammar.Fits.{Surroundings, in_if, in_loop, expr_fits, target_fits, cond_fits, item_fits, stmts_fit}
use Rattle.ped_laws.specs.ped_graph.specs.ped_symbols.specs.NameRefusals.{IsValid}
use Rattle.ped_laws.specs.ped_graph.specs.ped_symbols.specs.Kinds.{kind_in}
use Rattle.ped_laws.specs.ped_graph.specs.ped_symbols.specs.RightUses.RightUses.{expr_is_right, target_is_right, cond_is_right, stmts_are_right}
use Rattle.ped_laws.specs.ped_graph.specs.ped_refs.specs.References.{Reference, numbered_accesses}
use Rattle.ped_laws.specs.ped_flow.specs.ped_affine.specs.Ranges as ranges
use Rattle.ped_laws.specs.ped_eval.specs.ped_store.specs.Stores.{Store}
use Rattle.ped_laws.specs.ped_eval.specs.ped_store.specs.Acts.{Touch, Place, Step, Act, did, entered, store_behind}
use Rattle.ped_laws.specs.ped_eval.specs.ped_store.specs.Races.{Access, accesses}
use Rattle.ped_laws.specs.ped_eval.specs.Scopes.{Frame, Scope, Setting, Names, cell_of, names_in, place_of}
use Rattle.ped_laws.specs.ped_eval.specs.Evaluation.{Evaluated, numbered, number_behind}
use Rattle.ped_laws.specs.ped_eval.specs.Values.{truth}
use Rattle.ped_laws.specs.ped_eval.specs.Statements.{write_touch, Stored, assigned, assignment_touches, printed_line, print_touches, reading, reading_touches}
use Rattle.ped_laws.specs.ped_eval.specs.Loops.{Limits, limits, Entered, entered_with, left_in_variable, undefined_by, undefined_all, exit_touches, exit_when_none, entry_touches}
use Rattle.ped_laws.specs.ped_eval.specs.Runs.{going, Run, does, nothing_done, run_taking, run_from_entry, run, run_all}
use Rattle.ped_laws.specs.ped_eval.specs.Outcomes.{setting_of}
use Rattle.ped_laws.specs.Acts.Orders.{IsIn}
use Rattle.ped_laws.specs.Runs.Replaying.{act}
use Rattle.ped_laws.proofs.ActLaws.Conflicting.{access_by, access_in, accesses_in}
use Rattle.ped_laws.proofs.ConflictLaws.MakingParts.{Part}
use Rattle.ped_laws.proofs.ConflictLaws.MakingSteps.{head_fits, head_uses}
use Rattle.ped_rows.proofs.TouchingLaws.TouchedReferences.{IsTouched, touched_left, touched_right, touched_later, HaveAll, reference_has, have_weaker}
use Rattle.ped_rows.proofs.TouchingLaws.TouchedStatements.{TouchAll, assignment_touched, print_touched, condition_touched, bounds_touched, undefined_touched, read_touched}
use Rattle.ped_rows.proofs.TouchingLaws.LoopExits.{value_going, IsExited, entered_exited}

-- one of the accesses of these acts is made at this place by the reference with this number
abbrev pub IsAccessed : Place → List Act → ℕ → Type 0
IsAccessed at acts m = (a : Access) × IsIn a (accesses acts) × (a.place ≡ at) × (a.reference ≡ m)

-- a touch of an act is an access of its acts
module _ (at : Place) where
  touched_accessed : (m : ℕ) (step : Step) (touches : List Touch) (acts : List Act) → IsIn (act step at touches) acts → IsTouched m touches → IsAccessed at acts m
  touched_accessed m step touches acts i h =
      let a : Act = act step at touches in
      (access_by a h.touch, accesses_in acts a (access_by a h.touch) i (access_in a touches h.touch h.among h.counts), refl, h.number)

  first_act : (step : Step) (touches : List Touch) (later : List Act) (own : List tree.Access) → TouchAll touches 1 own → HaveAll (IsAccessed at (act step at touches ∷ later)) 1 own
  first_act step touches later own all = have_weaker (λ m. IsTouched m touches) (IsAccessed at (act step at touches ∷ later)) (λ m h. touched_accessed m step touches (act step at touches ∷ later) (inl refl) h) 1 own all

  -- the PRIVATE names of a DO become undefined where it is left
  exit_accessed : (scope : Scope) (e : Entered) (acts : List Act) → IsExited scope at e acts → (m : ℕ) → IsTouched m (undefined_by scope e.behind_bounds e.head.private) → IsAccessed at acts m
  exit_accessed scope e acts exit m h =
      let private : List Touch = undefined_by scope e.behind_bounds e.head.private in
      let inner : List Touch = undefined_all scope e.inner in
      touched_accessed m exit.step (exit.front ++ exit_touches e scope) acts exit.among
      (touched_right m exit.front (exit_touches e scope)
      (touched_later m (write_touch (cell_of scope e.head.variable) (left_in_variable e) 0) (private ++ inner) (touched_left m private inner h)))

-- a statement with this number, in these iterations
module _ (t : ProgramTree) (valid : IsValid t) (s : ranges.Setting) (nest : List Loop) (scope : Scope) (around : Surroundings) (n : ℕ) where
  abbrev p : Setting
  p = setting_of t

  abbrev g : Names
  g = names_in (setting_of t) scope

  abbrev here : Place
  here = place_of (setting_of t) n scope

  abbrev Own : StmtTree → List tree.Access
  Own x = own_accesses (constant_names t.decls) (indices_of nest) x

  -- each reference of the statement makes one of the accesses of these acts
  abbrev AccessAll : StmtTree → List Act → Type 0
  AccessAll x acts = HaveAll (IsAccessed here acts) 1 (Own x)

  module _ (u v : Store) where
    assignment_accessed : (left right : ExprTree) → Part t s nest scope around n (Assign left right) → (run p (Assign left right) n scope u).ending ≡ going v → AccessAll (Assign left right) (run p (Assign left right) n scope u).acts
    assignment_accessed left right k goes =
        let fits = and_parts _ (expr_fits right) k.fit in
        let target = and_parts _ (target_fits left) fits.0 in
        let uses = and_parts (target_is_right (kind_in t) left) (expr_is_right (kind_in t) right) k.uses in
        let e : Evaluated Stored = assigned g left right u in
        value_going (λ r. AccessAll (Assign left right) r.acts) here e.seen e.result (λ seen w. does did here (assignment_touches seen w) nothing_done u) v goes
        (λ w o goes_on. first_act here did (assignment_touches e.seen w) [] (Own (Assign left right)) (assignment_touched t valid scope (indices_of nest) k.same u left right target.1 uses.0 fits.1 uses.1 w o))

    print_accessed : (items : List ItemTree) → Part t s nest scope around n (Print items) → (run p (Print items) n scope u).ending ≡ going v → AccessAll (Print items) (run p (Print items) n scope u).acts
    print_accessed items k goes =
        let fits = and_parts _ (list_all item_fits items) k.fit in
        let e : Evaluated (List ℕ) = printed_line g items u in
        value_going (λ r. AccessAll (Print items) r.acts) here e.seen e.result (λ seen line. does did here (print_touches seen line u) nothing_done u) v goes
        (λ line o goes_on. first_act here did (print_touches e.seen line u) [] (Own (Print items)) (print_touched t valid scope (indices_of nest) k.same u items fits.1 k.uses line o))

    read_accessed : (items : List ExprTree) → Part t s nest scope around n (Read items) → (run p (Read items) n scope u).ending ≡ going v → AccessAll (Read items) (run p (Read items) n scope u).acts
    read_accessed items k goes = by_fault (reading g items u).fault refl goes
      where
        by_fault : (fault : Option ℕ) → (reading g items u).fault ≡ fault → (run_taking here (reading g items u) fault u).ending ≡ going v → AccessAll (Read items) (run_taking here (reading g items u) fault u).acts
        by_fault None none goes_on =
            first_act here did (reading_touches (reading g items u) u) [] (Own (Read items)) (read_touched t valid scope (indices_of nest) k.same u items (and_parts _ (list_all target_fits items) k.fit).1 k.uses none)
        by_fault (Some f) some goes_on = absurd cc

    condition_accessed : (c : CondTree) (a b : StmtTrees) → Part t s nest scope around n (If c a b) → (run p (If c a b) n scope u).ending ≡ going v → AccessAll (If c a b) (run p (If c a b) n scope u).acts
    condition_accessed c a b k goes =
        let fits = and_parts _ (stmts_fit (in_if around (1 + statements_count a)) b) k.fit in
        let front = and_parts _ (stmts_fit (in_if around 1) a) fits.0 in
        let mine = and_parts _ (cond_fits c) front.0 in
        let uses = and_parts _ (stmts_are_right (kind_in t) b) k.uses in
        let condition = and_parts (cond_is_right (kind_in t) c) (stmts_are_right (kind_in t) a) uses.0 in
        let e : Evaluated Bool = truth g c u in
        let part : Bool → Store → Run = λ holds. if holds then run_all p a (n + 1) scope else run_all p b (n + 1 + statements_count a) scope in
        value_going (λ r. AccessAll (If c a b) r.acts) here e.seen e.result (λ seen holds. does did here (numbered 1 seen) (part holds) u) v goes
        (λ holds o goes_on. first_act here did (numbered 1 e.seen) (part holds (store_behind (numbered 1 e.seen) u)).acts (Own (If c a b)) (condition_touched t valid scope (indices_of nest) k.same u c mine.1 condition.0 holds o))

    do_accessed : (h : Head) (b : StmtTrees) → Part t s nest scope around n (Do h b) → (run p (Do h b) n scope u).ending ≡ going v → AccessAll (Do h b) (run p (Do h b) n scope u).acts
    do_accessed h b k goes =
        let head = head_fits around h b (and_parts _ (stmts_fit (in_loop around h) b) k.fit).0 in
        let uses = head_uses t h (and_parts _ (stmts_are_right (kind_in t) b) k.uses).0 in
        let e : Evaluated Limits = limits g h u in
        let body : Frame → Store → Run = λ f. run_all p b (n + 1) (f ∷ scope) in
        value_going (λ r. AccessAll (Do h b) r.acts) here e.seen e.result (λ seen l. run_from_entry seen (entered_with p n h b seen l) scope here body u) v goes
        (λ l o goes_on.
        let entry : Entered = entered_with p n h b e.seen l in
        let acts : List Act = (run_from_entry e.seen entry scope here body u).acts in
        let exit : IsExited scope here entry acts = entered_exited scope here entry body v h.parallel entry.count e.seen u goes_on in
        bounds_touched t valid scope (indices_of nest) k.same u h b head.bounds uses.bounds l o (IsAccessed here acts)
        (λ m x. touched_accessed here m (entered entry.count) (entry_touches e.seen entry scope) acts (inl refl) (touched_left m (numbered 1 e.seen) (exit_when_none entry.count entry scope) x))
        (have_weaker (λ m. IsTouched m (undefined_by scope (number_behind 1 e.seen) h.private)) (IsAccessed here acts) (exit_accessed here scope entry acts exit) (number_behind 1 e.seen) (private_writes (constant_names t.decls) h.private)
        (undefined_touched t valid scope (indices_of nest) k.same h.private (number_behind 1 e.seen) uses.private)))

    statement_accessed : (x : StmtTree) → Part t s nest scope around n x → (run p x n scope u).ending ≡ going v → AccessAll x (run p x n scope u).acts
    statement_accessed (Assign left right) k goes = assignment_accessed left right k goes
    statement_accessed (If c a b) k goes = condition_accessed c a b k goes
    statement_accessed (Do h b) k goes = do_accessed h b k goes
    statement_accessed (Print items) k goes = print_accessed items k goes
    statement_accessed (Read items) k goes = read_accessed items k goes
    statement_accessed Stop k goes = tt
    statement_accessed (Comment text) k goes = tt

  pub statement_touches : (x : StmtTree) → Part t s nest scope around n x → (u v : Store) → (run p x n scope u).ending ≡ going v → (r : Reference) → IsIn r (numbered_accesses n 1 nest (Own x))
      → (a : Access) × IsIn a (accesses (run p x n scope u).acts) × (a.place ≡ here) × (a.reference ≡ r.number)
  statement_touches x k u v goes r i = reference_has (IsAccessed here (run p x n scope u).acts) n 1 nest (Own x) (statement_accessed u v x k goes) r i
