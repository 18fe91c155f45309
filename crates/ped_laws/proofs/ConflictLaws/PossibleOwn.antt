-- A scalar that the outermost DO doesn't assign is no variable and no copy of the iterations in it: it has one value in the whole execution.
use Rattle.std.proofs.Common.{◌≡◌, ℕ, ℤ, List, [], ◌∷◌, ◌++◌, Bool, true, false, not, ◌||◌, ◌⊎◌, inl, inr, Option, Some, None, Ok, if◌then◌else◌, refl, sym, ap, ◌∙◌, subst}
use Rattle.std.proofs.lemmas.Bool.{and_parts}
use Rattle.std.proofs.lemmas.List.Folds.{list_any-append}
use Rattle.ped_flow.specs.ped_base.specs.Lists.{is_same_text, is_among}
use Rattle.ped_flow.specs.ped_base.specs.Arithmetic.Arithmetic.{sum_of, difference_of, negation_of, product_of, quotient_of, power_of}
use Rattle.ped_flow.specs.ped_tree.specs.Tree.{ExprTree, ExprTrees, Int, Var, Element, Neg, Add, Sub, Mul, Div, Pow, Call, no_exprs, more_exprs, StmtTree, StmtTrees, Assign, If, Do, Print, Read, Stop, Comment, no_stmts, more_stmts, ProgramTree}
use Rattle.ped_flow.specs.ped_tree.specs.Nests.{Loop}
use Rattle.ped_flow.specs.ped_tree.specs.Numbering.{statement_with}
use Rattle.ped_flow.specs.ped_tree.proofs.NameLaws.Collected.{among_collected}
use Rattle.ped_flow.specs.ped_tree.specs.Constants.NamedConstants.{value_named}
use Rattle.ped_flow.specs.ped_tree.specs.Constants.ConstantExpressions.{intrinsic_result}
use Rattle.ped_eval.specs.ped_store.specs.Cells.{Scalar, Private}
use Rattle.ped_eval.specs.ped_store.specs.Stores.{Store, number_read}
use Rattle.ped_eval.specs.ped_store.specs.Acts.{iterations_of}
use Rattle.ped_eval.specs.Scopes.{Scope, Names, turns_of, cell_of, index_value}
use Rattle.ped_eval.specs.Evaluation.{cell_seen, ◌>>>◌, given}
use Rattle.ped_eval.specs.Values.{unary, binary, of_intrinsic, variable_value, name_value, value, values}
use Rattle.ped_eval.specs.Loops.{inner_variables, entered_with, frame}
use Rattle.ped_flow.specs.ped_tree.specs.NamesIn.{loop_variables, all_loop_variables}
use Rattle.ped_eval.specs.Outcomes.{setting_of}
use Rattle.ped_laws.proofs.RunLaws.Turning.{inner_among}
use Rattle.ped_flow.specs.ped_affine.specs.Assigned.{assigned_in, assigned_in_all}
use Rattle.ped_flow.specs.ped_affine.specs.Ranges.{Setting, is_steady, are_steady}
use Rattle.ped_graph.specs.Dependences.{assigned_by, setting_in}
use Rattle.ped_laws.specs.Conflicts.Reaching.{IsStoreIn, Reached}
use Rattle.ped_laws.proofs.ConflictLaws.PossibleNames.{among_front, among_back, among_inner, among_first, AssignWithin}

-- one of two is true where `or` is
one_true : (a b : Bool) → (a || b) ≡ true → (a ≡ true) ⊎ (b ≡ true)
one_true true b h = inl refl
one_true false b h = inr h

none_true : {A : Type 0} → false ≡ true → A
none_true h = absurd cc

-- what would make something true that is false is false itself
pub not_so : (a b : Bool) → (a ≡ true → b ≡ true) → b ≡ false → a ≡ false
not_so true b h k = none_true (sym k ∙ h refl)
not_so false b h k = refl

pub not_true : (a : Bool) → not a ≡ true → a ≡ false
not_true true h = none_true h
not_true false h = refl

module _ (x : List ℕ) where
  in_parts : (a b : List (List ℕ)) → is_among x (a ++ b) ≡ true → (is_among x a ≡ true) ⊎ (is_among x b ≡ true)
  in_parts a b h = one_true (is_among x a) (is_among x b) (sym (list_any-append (is_same_text x) a b) ∙ h)

  -- the variables of DO loops are assigned
  mutual
    index_assigned : (s : StmtTree) → is_among x (loop_variables s) ≡ true → is_among x (assigned_in s) ≡ true
    index_assigned (Assign left right) h = none_true h
    index_assigned (If condition a b) h = elim (in_parts (all_loop_variables a) (all_loop_variables b) h) [
      | inl i ↦ among_front x (assigned_in_all a) (assigned_in_all b) (all_index_assigned a i)
      | inr i ↦ among_back x (assigned_in_all a) (assigned_in_all b) (all_index_assigned b i)
    ]
    index_assigned (Do h b) k = elim (one_true (is_same_text x h.variable) (is_among x (all_loop_variables b)) k) [
      | inl i ↦ among_first x h.variable (h.private ++ assigned_in_all b) i
      | inr i ↦ among_inner x h.variable (h.private ++ assigned_in_all b) (among_back x h.private (assigned_in_all b) (all_index_assigned b i))
    ]
    index_assigned (Print items) h = none_true h
    index_assigned (Read items) h = none_true h
    index_assigned Stop h = none_true h
    index_assigned (Comment text) h = none_true h

    all_index_assigned : (ss : StmtTrees) → is_among x (all_loop_variables ss) ≡ true → is_among x (assigned_in_all ss) ≡ true
    all_index_assigned no_stmts h = none_true h
    all_index_assigned (more_stmts s rest) h = elim (in_parts (loop_variables s) (all_loop_variables rest) h) [
      | inl i ↦ among_front x (assigned_in s) (assigned_in_all rest) (index_assigned s i)
      | inr i ↦ among_back x (assigned_in s) (assigned_in_all rest) (all_index_assigned rest i)
    ]

  -- the copies of an iteration are of names that the DO assigns
  copied_assigned : (parallel : Bool) (variable : List ℕ) (private : List (List ℕ)) (b : StmtTrees) → is_among x (if parallel then variable ∷ (private ++ inner_variables parallel b) else private) ≡ true
      → is_among x (variable ∷ (private ++ assigned_in_all b)) ≡ true
  copied_assigned true variable private b h = elim (one_true (is_same_text x variable) (is_among x (private ++ inner_variables true b)) h) [
    | inl i ↦ among_first x variable (private ++ assigned_in_all b) i
    | inr i ↦ among_inner x variable (private ++ assigned_in_all b) (elim (in_parts private (inner_variables true b) i) [
      | inl j ↦ among_front x private (assigned_in_all b) j
      | inr j ↦ among_back x private (assigned_in_all b) (all_index_assigned b (inner_among true b x j))
    ])
  ]
  copied_assigned false variable private b h = among_inner x variable (private ++ assigned_in_all b) (among_front x private (assigned_in_all b) h)

pub last_within : (t : ProgramTree) (o : ℕ) (around : List Loop) (l : Loop) → AssignWithin t o (around ++ l ∷ [])
    → AssignWithin t o around × ((x : List ℕ) → is_among x (assigned_by (statement_with l.number t)) ≡ true → is_among x (assigned_by (statement_with o t)) ≡ true)
last_within t o [] l h = (tt, h.0)
last_within t o (m ∷ around) l h = let k = last_within t o around l h.1 in ((h.0, k.0), k.1)

-- in iterations of loops that assign only what the outermost DO does, other names are no variable of a DO and have no copy
module _ (t : ProgramTree) (o : ℕ) (s : Setting) (first : Store) (x : List ℕ) (other : is_among x (assigned_by (statement_with o t)) ≡ false) where
  own : (nest : List Loop) (scope : Scope) → AssignWithin t o nest → Reached t s first nest scope → (index_value scope x ≡ None) × (cell_of scope x ≡ Scalar x)
  own nest [] within reached = (refl, refl)
  own nest (f ∷ outer) within reached =
      let around : List Loop = reached.0 in
      let l : Loop = reached.1 in
      let e = reached.3 in
      let parts = last_within t o around l (subst (λ (ls : List Loop). AssignWithin t o ls) reached.2 within) in
      let rest = own around outer parts.0 reached.4 in
      let assigned : is_among x (assigned_in (Do l.head e.body)) ≡ false = not_so (is_among x (assigned_in (Do l.head e.body))) (is_among x (assigned_by (statement_with o t))) (λ i. parts.1 x (ap (λ z. is_among x (assigned_by z)) e.stands ∙ i)) other in
      let no_variable : is_same_text x l.head.variable ≡ false = not_so (is_same_text x l.head.variable) (is_among x (assigned_in (Do l.head e.body))) (among_first x l.head.variable (l.head.private ++ assigned_in_all e.body)) assigned in
      let no_copy : is_among x (frame (entered_with (setting_of t) l.number l.head e.body e.seen e.bounds) e.turn).private ≡ false =
      not_so (is_among x (frame (entered_with (setting_of t) l.number l.head e.body e.seen e.bounds) e.turn).private) (is_among x (assigned_in (Do l.head e.body))) (copied_assigned x l.head.parallel l.head.variable l.head.private e.body) assigned in (
        ap (λ g. index_value (g ∷ outer) x) e.is ∙ (ap (λ (b : Bool). if b then Some (frame (entered_with (setting_of t) l.number l.head e.body e.seen e.bounds) e.turn).turn.value else index_value outer x) no_variable ∙ rest.0),
        ap (λ g. cell_of (g ∷ outer) x) e.is
            ∙ (ap (λ (b : Bool). if b then Private x (iterations_of (turns_of (frame (entered_with (setting_of t) l.number l.head e.body e.seen e.bounds) e.turn ∷ outer))) else cell_of outer x) no_copy ∙ rest.1),
      )

  -- so its value is that of its own cell at the start
  pub own_value : (nest : List Loop) (scope : Scope) (u : Store) → AssignWithin t o nest → Reached t s first nest scope → u (Scalar x) ≡ first (Scalar x)
      → variable_value (index_value scope x) u (cell_of scope x) ≡ variable_value None first (Scalar x)
  own_value nest scope u within reached held =
      let both = own nest scope within reached in
      (λ i. variable_value (both.0 i) u (both.1 i)) ∙ kept held
    where
      kept : u (Scalar x) ≡ first (Scalar x) → variable_value None u (Scalar x) ≡ variable_value None first (Scalar x)
      kept h = λ i. record { seen = cell_seen (Scalar x) (h i) ∷ []; result = number_read (h i) }

-- the names that the outermost DO assigns, as its setting lists them
pub assigned_is : (t : ProgramTree) (o : ℕ) (x : List ℕ) → is_among x (setting_in t o).assigned ≡ is_among x (assigned_by (statement_with o t))
assigned_is t o x = among_collected x [] (assigned_by (statement_with o t))

pub constant_name : (t : ProgramTree) (o : ℕ) (first : Store) (x : List ℕ) → is_among x (setting_in t o).assigned ≡ false → (nest : List Loop) (scope : Scope) (u : Store)
    → AssignWithin t o nest → Reached t (setting_in t o) first nest scope → IsStoreIn (setting_in t o) first u → variable_value (index_value scope x) u (cell_of scope x) ≡ variable_value None first (Scalar x)
constant_name t o first x other nest scope u within reached during =
    own_value t o (setting_in t o) first x (sym (assigned_is t o x) ∙ other) nest scope u within reached (during.constant x other)

-- an expression of such names has one value
module _ (s : Setting) (g h : Names) (u v : Store) (constants : g.constants ≡ h.constants)
    (names : (x : List ℕ) → is_among x s.assigned ≡ false → variable_value (g.index x) u (g.cell x) ≡ variable_value (h.index x) v (h.cell x)) where
  same_name : (x : List ℕ) (c : Option ℤ) → is_among x s.assigned ≡ false → name_value c g x u ≡ name_value c h x v
  same_name x (Some n) k = refl
  same_name x None k = names x k

  mutual
    pub steady_value : (e : ExprTree) → is_steady s e ≡ true → value g e u ≡ value h e v
    steady_value (Int n) k = refl
    steady_value (Var x) k = ap (λ (c : List (List ℕ × ℤ)). name_value (value_named c x) g x u) constants ∙ same_name x (value_named h.constants x) (not_true (is_among x s.assigned) k)
    steady_value (Element x subscripts) k = none_true k
    steady_value (Neg a) k = λ i. unary negation_of (steady_value a k i)
    steady_value (Add a b) k = let p = and_parts (is_steady s a) (is_steady s b) k in λ i. binary sum_of (steady_value a p.0 i) (steady_value b p.1 i)
    steady_value (Sub a b) k = let p = and_parts (is_steady s a) (is_steady s b) k in λ i. binary difference_of (steady_value a p.0 i) (steady_value b p.1 i)
    steady_value (Mul a b) k = let p = and_parts (is_steady s a) (is_steady s b) k in λ i. binary product_of (steady_value a p.0 i) (steady_value b p.1 i)
    steady_value (Div a b) k = let p = and_parts (is_steady s a) (is_steady s b) k in λ i. binary quotient_of (steady_value a p.0 i) (steady_value b p.1 i)
    steady_value (Pow a b) k = let p = and_parts (is_steady s a) (is_steady s b) k in λ i. binary power_of (steady_value a p.0 i) (steady_value b p.1 i)
    steady_value (Call f arguments) k = λ i. steady_values arguments k i >>> λ us. given (of_intrinsic (intrinsic_result f us))

    steady_values : (es : ExprTrees) → are_steady s es ≡ true → values g es u ≡ values h es v
    steady_values no_exprs k = refl
    steady_values (more_exprs e rest) k = let p = and_parts (is_steady s e) (are_steady s rest) k in λ i. steady_value e p.0 i >>> λ a. steady_values rest p.1 i >>> λ us. given (Ok (a ∷ us))
