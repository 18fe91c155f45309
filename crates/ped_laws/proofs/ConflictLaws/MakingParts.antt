-- What is known of a piece of a program: of its statements, and where it stands.
use Rattle.std.proofs.Common.{◌≡◌, ℕ, ◌+◌, ◌-◌, ◌==◌, List, [], ◌∷◌, ◌++◌, length, Bool, true, false, ◌||◌, Some, None, refl, sym, ap, ◌∙◌, arith, if◌then◌else◌, eqb-true}
use Rattle.std.proofs.lemmas.Bool.{and_parts, or_left, or_right}
use Rattle.std.proofs.lemmas.List.{map-append}
use Rattle.ped_flow.specs.ped_base.specs.Lists.{is_same_text, is_among}
use Rattle.ped_flow.specs.ped_tree.proofs.NameLaws.Collected.{among_append}
use Rattle.ped_flow.specs.ped_base.proofs.NameEquality.{same_itself}
use Rattle.ped_flow.specs.ped_tree.specs.Tree.{CondTree, Head, StmtTree, StmtTrees, If, Do, more_stmts, ProgramTree}
use Rattle.ped_flow.specs.ped_tree.specs.Nests.{Loop, indices_of}
use Rattle.ped_flow.specs.ped_tree.specs.Numbering.{numbered, all_numbered, at_place, statement_with, statement_count, statements_count}
use Rattle.ped_flow.specs.ped_tree.specs.Accesses.{own_accesses, constant_names}
use Rattle.ped_flow.specs.ped_tree.proofs.Numbers.{length-numbered, length-all_numbered, at_place-front, at_place-back}
use Rattle.ped_flow.specs.ped_tree.specs.Grammar.Fits.{Surroundings, moved, in_if, in_loop, loop_fits, stmt_fits, stmts_fit}
use Rattle.ped_graph.specs.ped_refs.specs.References.{Reference, references, numbered_accesses, statement_references, statements_references}
use Rattle.ped_graph.specs.ped_symbols.specs.Kinds.{kind_in, at_last}
use Rattle.ped_graph.specs.ped_symbols.specs.RightUses.RightUses.{cond_is_right, head_is_right, stmt_is_right, stmts_are_right}
use Rattle.ped_graph.specs.ped_symbols.specs.RightUses.RightLoops.{step_is_right, stmt_steps_are_right, steps_are_right}
use Rattle.ped_flow.specs.ped_affine.specs.Assigned.{assigned_in, assigned_in_all}
use Rattle.ped_flow.specs.ped_tree.specs.NamesIn.{loop_variables, all_loop_variables}
use Rattle.ped_flow.specs.ped_affine.specs.Ranges.{Setting}
use Rattle.ped_laws.specs.Acts.Orders.{IsIn}
use Rattle.ped_laws.proofs.ActLaws.Lists.{in_left, in_right}
use Rattle.ped_eval.specs.Scopes.{Frame, Scope}
use Rattle.ped_laws.proofs.ConflictLaws.Scoping.{variables_of}

pub among_left : (x : List ℕ) (xs ys : List (List ℕ)) → is_among x xs ≡ true → is_among x (xs ++ ys) ≡ true
among_left x xs ys h = among_append x xs ys ∙ or_left (is_among x xs) (is_among x ys) h

pub among_right : (x : List ℕ) (xs ys : List (List ℕ)) → is_among x ys ≡ true → is_among x (xs ++ ys) ≡ true
among_right x xs ys h = among_append x xs ys ∙ or_right (is_among x xs) (is_among x ys) h

pub among_first : (x : List ℕ) (ys : List (List ℕ)) → is_among x (x ∷ ys) ≡ true
among_first x ys = or_left (is_same_text x x) (is_among x ys) (same_itself x)

pub among_rest : (x y : List ℕ) (ys : List (List ℕ)) → is_among x ys ≡ true → is_among x (y ∷ ys) ≡ true
among_rest x y ys h = or_right (is_same_text x y) (is_among x ys) h

-- these statements of the program have numbers from n on
abbrev pub Stand : ProgramTree → ℕ → List StmtTree → Type 0
Stand t n xs = (i : ℕ) (s : StmtTree) → at_place xs i ≡ Some s → statement_with (n + i) t ≡ Some s

stand_first : (t : ProgramTree) (n : ℕ) (xs ys : List StmtTree) → Stand t n (xs ++ ys) → Stand t n xs
stand_first t n xs ys w i s h = w i s (at_place-front xs ys i s h)

stand_rest : (t : ProgramTree) (n k : ℕ) (xs ys : List StmtTree) → k ≡ length xs → Stand t n (xs ++ ys) → Stand t (n + k) ys
stand_rest t n k xs ys e w i s h =
    let same : n + (i + length xs) ≡ n + k + i = omega (arith, e) in
    ap (λ (m : ℕ). statement_with m t) (sym same) ∙ w (i + length xs) s (at_place-back xs ys (i + length xs) i refl ∙ h)

pub stand_whole : (t : ProgramTree) → Stand t 1 (all_numbered t.body)
stand_whole t i s h =
    let none : (1 + i == 0) ≡ false = grind (arith, eqb-true) in
    let place : 1 + i - 1 ≡ i = omega arith in
    ap (λ (b : Bool). if b then None else at_place (all_numbered t.body) (1 + i - 1)) none ∙ ap (at_place (all_numbered t.body)) place ∙ h

-- statements fit and are right, they assign what the outermost DO assigns, their references and numbers are those of the program, and the iterations round them are of the DO loops of the nest
pub record Holds (t : ProgramTree) (s : Setting) (nest : List Loop) (scope : Scope) (around : Surroundings) (n : ℕ) (fits right steps : Bool) (assigned variables : List (List ℕ)) (refs : List Reference) (statements : List StmtTree) : Type 0 where
  pub fit : fits ≡ true
  pub uses : right ≡ true
  pub increments : steps ≡ true
  pub assigns : (x : List ℕ) → is_among x assigned ≡ true → is_among x s.assigned ≡ true
  pub loops : (x : List ℕ) → is_among x variables ≡ true → is_among x s.loop_variables ≡ true
  pub listed : (r : Reference) → IsIn r refs → IsIn r (references t)
  pub stand : Stand t n statements
  pub same : (x : List ℕ) → is_among x (indices_of nest) ≡ is_among x (variables_of scope)
  pub round : around.variables ≡ variables_of scope

module _ (t : ProgramTree) where
  abbrev constants : List (List ℕ)
  constants = constant_names t.decls

  abbrev pub Part : Setting → List Loop → Scope → Surroundings → ℕ → StmtTree → Type 0
  Part s nest scope around n u = Holds t s nest scope around n (stmt_fits around u) (stmt_is_right (kind_in t) u) (stmt_steps_are_right (at_last t).values u) (assigned_in u) (loop_variables u) (statement_references constants nest n u) (numbered u)

  abbrev pub Parts : Setting → List Loop → Scope → Surroundings → ℕ → StmtTrees → Type 0
  Parts s nest scope around n us = Holds t s nest scope around n (stmts_fit around us) (stmts_are_right (kind_in t) us) (steps_are_right (at_last t).values us) (assigned_in_all us) (all_loop_variables us) (statements_references constants nest n us) (all_numbered us)

  module _ (s : Setting) (nest : List Loop) (scope : Scope) (around : Surroundings) (n : ℕ) where
    pub first_part : (u : StmtTree) (rest : StmtTrees) → Parts s nest scope around n (more_stmts u rest) → Part s nest scope around n u
    first_part u rest p = record {
      fit = (and_parts (stmt_fits around u) _ p.fit).0;
      uses = (and_parts (stmt_is_right (kind_in t) u) _ p.uses).0;
      increments = (and_parts (stmt_steps_are_right (at_last t).values u) _ p.increments).0;
      assigns = λ x h. p.assigns x (among_left x (assigned_in u) (assigned_in_all rest) h);
      loops = λ x h. p.loops x (among_left x (loop_variables u) (all_loop_variables rest) h);
      listed = λ r i. p.listed r (in_left r (statement_references constants nest n u) _ i);
      stand = stand_first t n (numbered u) (all_numbered rest) p.stand;
      same = p.same;
      round = p.round;
    }

    pub rest_parts : (u : StmtTree) (rest : StmtTrees) → Parts s nest scope around n (more_stmts u rest) → Parts s nest scope (moved around (statement_count u)) (n + statement_count u) rest
    rest_parts u rest p = record {
      fit = (and_parts (stmt_fits around u) _ p.fit).1;
      uses = (and_parts (stmt_is_right (kind_in t) u) _ p.uses).1;
      increments = (and_parts (stmt_steps_are_right (at_last t).values u) _ p.increments).1;
      assigns = λ x h. p.assigns x (among_right x (assigned_in u) (assigned_in_all rest) h);
      loops = λ x h. p.loops x (among_right x (loop_variables u) (all_loop_variables rest) h);
      listed = λ r i. p.listed r (in_right r (statement_references constants nest n u) _ i);
      stand = stand_rest t n (statement_count u) (numbered u) (all_numbered rest) (sym (length-numbered u)) p.stand;
      same = p.same;
      round = p.round;
    }

    abbrev if_own : CondTree → StmtTrees → StmtTrees → List Reference
    if_own c a b = numbered_accesses n 1 nest (own_accesses constants (indices_of nest) (If c a b))

    pub then_parts : (c : CondTree) (a b : StmtTrees) → Part s nest scope around n (If c a b) → Parts s nest scope (in_if around 1) (n + 1) a
    then_parts c a b p =
        let fits = and_parts _ (stmts_fit (in_if around (1 + statements_count a)) b) p.fit in
        let front = and_parts _ (stmts_fit (in_if around 1) a) fits.0 in
        let right = and_parts _ (stmts_are_right (kind_in t) b) p.uses in
        let inner = stand_rest t n 1 (If c a b ∷ []) (all_numbered a ++ all_numbered b) refl p.stand in
        record {
          fit = front.1;
          uses = (and_parts (cond_is_right (kind_in t) c) (stmts_are_right (kind_in t) a) right.0).1;
          increments = (and_parts (steps_are_right (at_last t).values a) (steps_are_right (at_last t).values b) p.increments).0;
          assigns = λ x h. p.assigns x (among_left x (assigned_in_all a) (assigned_in_all b) h);
          loops = λ x h. p.loops x (among_left x (all_loop_variables a) (all_loop_variables b) h);
          listed = λ r i. p.listed r (in_left r (if_own c a b ++ statements_references constants nest (n + 1) a) _ (in_right r (if_own c a b) _ i));
          stand = stand_first t (n + 1) (all_numbered a) (all_numbered b) inner;
          same = p.same;
          round = p.round;
        }

    pub else_parts : (c : CondTree) (a b : StmtTrees) → Part s nest scope around n (If c a b) → Parts s nest scope (in_if around (1 + statements_count a)) (n + 1 + statements_count a) b
    else_parts c a b p =
        let inner = stand_rest t n 1 (If c a b ∷ []) (all_numbered a ++ all_numbered b) refl p.stand in
        record {
          fit = (and_parts _ (stmts_fit (in_if around (1 + statements_count a)) b) p.fit).1;
          uses = (and_parts _ (stmts_are_right (kind_in t) b) p.uses).1;
          increments = (and_parts (steps_are_right (at_last t).values a) (steps_are_right (at_last t).values b) p.increments).1;
          assigns = λ x h. p.assigns x (among_right x (assigned_in_all a) (assigned_in_all b) h);
          loops = λ x h. p.loops x (among_right x (all_loop_variables a) (all_loop_variables b) h);
          listed = λ r i. p.listed r (in_right r (if_own c a b ++ statements_references constants nest (n + 1) a) _ i);
          stand = stand_rest t (n + 1) (statements_count a) (all_numbered a) (all_numbered b) (sym (length-all_numbered a)) inner;
          same = p.same;
          round = p.round;
        }

    -- a loop round a statement is one more of the nest
    more_round : (h : Head) (f : Frame) → f.variable ≡ h.variable → ((x : List ℕ) → is_among x (indices_of nest) ≡ is_among x (variables_of scope)) → (x : List ℕ) → is_among x (indices_of (nest ++ (record { number = n; head = h }) ∷ [])) ≡ is_among x (variables_of (f ∷ scope))
    more_round h f e same x =
        ap (is_among x) (map-append (λ l. l.head.variable) nest ((record { number = n; head = h }) ∷ []))
        ∙ (among_append x (indices_of nest) (h.variable ∷ [])
        ∙ (go (is_among x (indices_of nest)) (is_same_text x h.variable)
        ∙ (λ i. is_same_text x (e' i) || same x i)))
      where
        e' : h.variable ≡ f.variable
        e' = sym e

        go : (a b : Bool) → (a || (b || false)) ≡ (b || a)
        go true true = refl
        go true false = refl
        go false true = refl
        go false false = refl

    pub body_parts : (h : Head) (b : StmtTrees) (f : Frame) → f.variable ≡ h.variable → Part s nest scope around n (Do h b) → Parts s (nest ++ (record { number = n; head = h }) ∷ []) (f ∷ scope) (in_loop around h) (n + 1) b
    body_parts h b f e p = record {
      fit = (and_parts (loop_fits around h b) _ p.fit).1;
      uses = (and_parts (head_is_right (kind_in t) h) _ p.uses).1;
      increments = (and_parts (step_is_right (at_last t).values h.step) _ p.increments).1;
      assigns = λ x i. p.assigns x (among_rest x h.variable (h.private ++ assigned_in_all b) (among_right x h.private (assigned_in_all b) i));
      loops = λ x i. p.loops x (among_rest x h.variable (all_loop_variables b) i);
      listed = λ r i. p.listed r (in_right r (numbered_accesses n 1 nest (own_accesses constants (indices_of nest) (Do h b))) _ i);
      stand = stand_rest t n 1 (Do h b ∷ []) (all_numbered b) refl p.stand;
      same = more_round h f e p.same;
      round = λ i. sym e i ∷ p.round i;
    }

  -- the same piece, where a setting assigns what it assigns
  pub in_setting : (s s' : Setting) (nest : List Loop) (scope : Scope) (around : Surroundings) (n : ℕ) (u : StmtTree) → s'.loop_variables ≡ s.loop_variables → ((x : List ℕ) → is_among x (assigned_in u) ≡ true → is_among x s'.assigned ≡ true)
      → Part s nest scope around n u → Part s' nest scope around n u
  in_setting s s' nest scope around n u e assigns p = record {
    fit = p.fit;
    uses = p.uses;
    increments = p.increments;
    assigns = assigns;
    loops = λ x h. ap (is_among x) e ∙ p.loops x h;
    listed = p.listed;
    stand = p.stand;
    same = p.same;
    round = p.round;
  }
