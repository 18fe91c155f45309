-- Iterations of the DO loops in an outermost DO.
use Rattle.std.proofs.Common.{◌≡◌, ℕ, ◌-◌, ◌==◌, List, [], ◌∷◌, ◌++◌, Bool, true, false, ◌||◌, ◌⊎◌, inl, inr, Option, Some, None, if◌then◌else◌, sym, ap, ◌∙◌}
use Rattle.std.proofs.lemmas.List.Folds.{list_any-append}
use Rattle.std.proofs.lemmas.Bool.{or_left, or_right}
use Rattle.ped_flow.specs.ped_base.specs.Lists.{is_same_text, is_among}
use Rattle.ped_flow.specs.ped_tree.specs.Tree.{Head, StmtTree, StmtTrees, Assign, If, Do, Print, Read, Stop, Comment, no_stmts, more_stmts, ProgramTree}
use Rattle.ped_flow.specs.ped_tree.specs.Numbering.{numbered, all_numbered, at_place, statement_with}
use Rattle.ped_eval.specs.Scopes as run
use Rattle.ped_eval.specs.Evaluation.{Seen}
use Rattle.ped_eval.specs.Loops.{Limits, entered_with, inner_variables, frame}
use Rattle.ped_flow.specs.ped_affine.specs.Assigned.{assigned_in, assigned_in_all}
use Rattle.ped_flow.specs.ped_tree.specs.NamesIn.{loop_variables, all_loop_variables}
use Rattle.ped_flow.specs.PlainBounds.{Values, nest_round, setting_round, outermost_or, assigned_by}
use Rattle.ped_flow.specs.Questions.{LoopOf}
use Rattle.ped_flow.proofs.Truths.{untrue, or_split}
use Rattle.ped_flow.specs.ped_base.proofs.NameEquality.{same_itself}
use Rattle.ped_laws.proofs.FlowRunLaws.Names.{inner_among}
use Rattle.ped_laws.proofs.FlowRunLaws.Seeing.{among_left, among_right}
use Rattle.ped_laws.proofs.CoveringLaws.Comings.{some_one}
use Rattle.ped_laws.specs.Plain.Executions.{IsOneOf, IsInside}

-- a statement at a place of a list is one of it
one_at : (u : StmtTree) (xs : List StmtTree) (i : ℕ) → at_place xs i ≡ Some u → IsOneOf u xs
one_at u [] i e = absurd cc
one_at u (x ∷ xs) i e = go (i == 0) (one_at u xs (i - 1)) e
  where
    go : (b : Bool) → (at_place xs (i - 1) ≡ Some u → IsOneOf u xs) → (if b then Some x else at_place xs (i - 1)) ≡ Some u → (x ≡ u) ⊎ IsOneOf u xs
    go true rest k = inl (some_one x u k)
    go false rest k = inr (rest k)

one_of_either : (u : StmtTree) (xs ys : List StmtTree) → IsOneOf u (xs ++ ys) → IsOneOf u xs ⊎ IsOneOf u ys
one_of_either u [] ys h = inr h
one_of_either u (x ∷ xs) ys h = elim h [ inl e ↦ inl (inl e) | inr k ↦ elim (one_of_either u xs ys k) [ inl a ↦ inl (inr a) | inr b ↦ inr b ] ]

-- what is among the loop variables of a part is among those of the whole
module _ (x : List ℕ) (u : StmtTree) (holds : is_among x (loop_variables u) ≡ true) where
  loop_variables_itself : (s : StmtTree) → s ≡ u → is_among x (loop_variables s) ≡ true
  loop_variables_itself s e = ap (λ (z : StmtTree). is_among x (loop_variables z)) e ∙ holds

  mutual
    pub loop_variables_part : (s : StmtTree) → IsOneOf u (numbered s) → is_among x (loop_variables s) ≡ true
    loop_variables_part (Assign left right) h = elim h [ inl e ↦ loop_variables_itself (Assign left right) e | inr k ↦ absurd k ]
    loop_variables_part (If c a b) h = elim h [
      | inl e ↦ loop_variables_itself (If c a b) e
      | inr k ↦ elim (one_of_either u (all_numbered a) (all_numbered b) k) [
        | inl i ↦ among_left x (all_loop_variables a) (all_loop_variables b) (all_loop_variables_part a i)
        | inr i ↦ among_right x (all_loop_variables a) (all_loop_variables b) (all_loop_variables_part b i)
      ]
    ]
    loop_variables_part (Do hd b) h = elim h [ inl e ↦ loop_variables_itself (Do hd b) e | inr k ↦ or_right (is_same_text x hd.variable) _ (all_loop_variables_part b k) ]
    loop_variables_part (Print items) h = elim h [ inl e ↦ loop_variables_itself (Print items) e | inr k ↦ absurd k ]
    loop_variables_part (Read items) h = elim h [ inl e ↦ loop_variables_itself (Read items) e | inr k ↦ absurd k ]
    loop_variables_part Stop h = elim h [ inl e ↦ loop_variables_itself Stop e | inr k ↦ absurd k ]
    loop_variables_part (Comment text) h = absurd h

    pub all_loop_variables_part : (ss : StmtTrees) → IsOneOf u (all_numbered ss) → is_among x (all_loop_variables ss) ≡ true
    all_loop_variables_part no_stmts h = absurd h
    all_loop_variables_part (more_stmts s rest) h = elim (one_of_either u (numbered s) (all_numbered rest) h) [
      | inl i ↦ among_left x (loop_variables s) (all_loop_variables rest) (loop_variables_part s i)
      | inr i ↦ among_right x (loop_variables s) (all_loop_variables rest) (all_loop_variables_part rest i)
    ]

-- what is among the assigned names of a part is among those of the whole
module _ (x : List ℕ) (u : StmtTree) (holds : is_among x (assigned_in u) ≡ true) where
  assigned_in_itself : (s : StmtTree) → s ≡ u → is_among x (assigned_in s) ≡ true
  assigned_in_itself s e = ap (λ (z : StmtTree). is_among x (assigned_in z)) e ∙ holds

  mutual
    pub assigned_in_part : (s : StmtTree) → IsOneOf u (numbered s) → is_among x (assigned_in s) ≡ true
    assigned_in_part (Assign left right) h = elim h [ inl e ↦ assigned_in_itself (Assign left right) e | inr k ↦ absurd k ]
    assigned_in_part (If c a b) h = elim h [
      | inl e ↦ assigned_in_itself (If c a b) e
      | inr k ↦ elim (one_of_either u (all_numbered a) (all_numbered b) k) [
        | inl i ↦ among_left x (assigned_in_all a) (assigned_in_all b) (assigned_in_all_part a i)
        | inr i ↦ among_right x (assigned_in_all a) (assigned_in_all b) (assigned_in_all_part b i)
      ]
    ]
    assigned_in_part (Do hd b) h = elim h [ inl e ↦ assigned_in_itself (Do hd b) e | inr k ↦ or_right (is_same_text x hd.variable) _ (among_right x hd.private (assigned_in_all b) (assigned_in_all_part b k)) ]
    assigned_in_part (Print items) h = elim h [ inl e ↦ assigned_in_itself (Print items) e | inr k ↦ absurd k ]
    assigned_in_part (Read items) h = elim h [ inl e ↦ assigned_in_itself (Read items) e | inr k ↦ absurd k ]
    assigned_in_part Stop h = elim h [ inl e ↦ assigned_in_itself Stop e | inr k ↦ absurd k ]
    assigned_in_part (Comment text) h = absurd h

    pub assigned_in_all_part : (ss : StmtTrees) → IsOneOf u (all_numbered ss) → is_among x (assigned_in_all ss) ≡ true
    assigned_in_all_part no_stmts h = absurd h
    assigned_in_all_part (more_stmts s rest) h = elim (one_of_either u (numbered s) (all_numbered rest) h) [
      | inl i ↦ among_left x (assigned_in s) (assigned_in_all rest) (assigned_in_part s i)
      | inr i ↦ among_right x (assigned_in s) (assigned_in_all rest) (assigned_in_all_part rest i)
    ]

-- the variables of DO loops are assigned
module _ (x : List ℕ) where
  mutual
    loops_assigned : (t : StmtTree) → is_among x (loop_variables t) ≡ true → is_among x (assigned_in t) ≡ true
    loops_assigned (Assign left right) h = untrue h
    loops_assigned (If condition a b) h = elim (or_split (is_among x (all_loop_variables a)) (is_among x (all_loop_variables b)) (sym (list_any-append (is_same_text x) (all_loop_variables a) (all_loop_variables b)) ∙ h)) [
      | inl k ↦ among_left x (assigned_in_all a) (assigned_in_all b) (all_loops_assigned a k)
      | inr k ↦ among_right x (assigned_in_all a) (assigned_in_all b) (all_loops_assigned b k)
    ]
    loops_assigned (Do h b) g = elim (or_split (is_same_text x h.variable) (is_among x (all_loop_variables b)) g) [
      | inl k ↦ or_left (is_same_text x h.variable) _ k
      | inr k ↦ or_right (is_same_text x h.variable) _ (among_right x h.private (assigned_in_all b) (all_loops_assigned b k))
    ]
    loops_assigned (Print items) h = untrue h
    loops_assigned (Read items) h = untrue h
    loops_assigned Stop h = untrue h
    loops_assigned (Comment text) h = untrue h

    all_loops_assigned : (ts : StmtTrees) → is_among x (all_loop_variables ts) ≡ true → is_among x (assigned_in_all ts) ≡ true
    all_loops_assigned no_stmts h = untrue h
    all_loops_assigned (more_stmts t rest) h = elim (or_split (is_among x (loop_variables t)) (is_among x (all_loop_variables rest)) (sym (list_any-append (is_same_text x) (loop_variables t) (all_loop_variables rest)) ∙ h)) [
      | inl k ↦ among_left x (assigned_in t) (assigned_in_all rest) (loops_assigned t k)
      | inr k ↦ among_right x (assigned_in t) (assigned_in_all rest) (all_loops_assigned rest k)
    ]

  -- copies are of names that the DO assigns
  copied_assigned : (parallel : Bool) (variable : List ℕ) (private : List (List ℕ)) (b : StmtTrees) → is_among x (if parallel then variable ∷ (private ++ inner_variables parallel b) else private) ≡ true
      → (is_same_text x variable || is_among x (private ++ assigned_in_all b)) ≡ true
  copied_assigned true variable private b h = elim (or_split (is_same_text x variable) (is_among x (private ++ inner_variables true b)) h) [
    | inl k ↦ or_left (is_same_text x variable) _ k
    | inr k ↦ or_right (is_same_text x variable) _ (elim (or_split (is_among x private) (is_among x (inner_variables true b)) (sym (list_any-append (is_same_text x) private (inner_variables true b)) ∙ k)) [
      | inl j ↦ among_left x private (assigned_in_all b) j
      | inr j ↦ among_right x private (assigned_in_all b) (all_loops_assigned b (sym (inner_among x b) ∙ j))
    ])
  ]
  copied_assigned false variable private b h = or_right (is_same_text x variable) _ (among_left x private (assigned_in_all b) h)

one_of_program : (u : StmtTree) (t : ProgramTree) (n : ℕ) → statement_with n t ≡ Some u → IsOneOf u (all_numbered t.body)
one_of_program u t n e = go (n == 0) e
  where
    go : (b : Bool) → (if b then None else at_place (all_numbered t.body) (n - 1)) ≡ Some u → IsOneOf u (all_numbered t.body)
    go true k = absurd cc
    go false k = one_at u (all_numbered t.body) (n - 1) k

pub inside_iteration : (constants : Values) (t : ProgramTree) (l : ℕ) (outer : LoopOf t (outermost_or l (nest_round t l))) (h : Head) (b : StmtTrees) → IsOneOf (Do h b) (numbered (Do outer.head outer.body)) → (p : run.Setting) (n : ℕ) (seen : List Seen) (m : Limits) (k : ℕ) → IsInside (setting_round constants t l) (frame (entered_with p n h b seen m) k)
inside_iteration constants t l outer h b part p n seen m k = record {
  variable = all_loop_variables_part h.variable (Do outer.head outer.body) (loop_variables_part h.variable (Do h b) (or_left (is_same_text h.variable h.variable) _ (same_itself h.variable)) (Do outer.head outer.body) part) t.body (one_of_program (Do outer.head outer.body) t (outermost_or l (nest_round t l)) outer.is);
  private = λ x copied. ap (λ (o : Option StmtTree). is_among x (assigned_by o)) outer.is ∙ assigned_in_part x (Do h b) (copied_assigned x h.parallel h.variable h.private b copied) (Do outer.head outer.body) part;
}
