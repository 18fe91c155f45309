-- Places that stand alike, further inside too; rewritten statements count the same and have the same DO loops.
use Rattle.std.proofs.Common.{◌≡◌, ℕ, ◌+◌, ℤ, pos, List, [], ◌∷◌, ◌++◌, map, Bool, true, false, Option, Some, None, refl, sym, ap, subst, ◌∙◌, append_assoc, if◌then◌else◌}
use Rattle.std.specs.Option.{unwrap_or}
use Rattle.std.proofs.lemmas.List.{map-append}
use Rattle.ped_steps.specs.ped_flow.specs.ped_base.specs.Lists.{is_same_text, is_among}
use Rattle.ped_steps.specs.ped_flow.specs.ped_tree.specs.Constants.NamedConstants.{value_named}
use Rattle.ped_steps.specs.ped_flow.specs.ped_base.proofs.NameEquality.{same_is}
use Rattle.ped_steps.specs.ped_flow.specs.ped_tree.specs.Tree.{ExprTree, Var, Head, StmtTree, StmtTrees, Assign, If, Do, Print, Read, Stop, Comment, no_stmts, more_stmts}
use Rattle.ped_steps.specs.ped_flow.specs.ped_tree.specs.Numbering.{statement_count, statements_count}
use Rattle.ped_steps.specs.ped_store.specs.Cells.{Cell, Private, Iteration}
use Rattle.ped_steps.specs.ped_store.specs.Stores.{Store}
use Rattle.ped_steps.specs.ped_store.specs.Acts.{Turn, Act, iterations_of}
use Rattle.ped_steps.specs.ped_eval.specs.Scopes.{Setting, Frame, Scope, turns_of, cell_of, index_value, names_in}
use Rattle.ped_steps.specs.ped_eval.specs.Values.{variable_value, name_value, value}
use Rattle.ped_steps.specs.ped_eval.specs.Loops.{increment, sorted_once, inner_variables}
use Rattle.ped_steps.specs.ped_flow.specs.ped_tree.specs.NamesIn.{loop_variables, all_loop_variables}
use Rattle.ped_steps.specs.Runs.Renumbering.{renumbered_iteration, renumbered_turn}
use Rattle.ped_bodies.specs.Rewriting.{head_rewritten, statement_rewritten, statements_rewritten, KeepsIncrement}
use Rattle.ped_bodies.specs.Likewise.{Meet, IsLikewise, AreLikewise}
use Rattle.ped_bodies.specs.Standing.{IsTold, HaveVariablesIn, EvaluateLikewise, StandLikewise}

module _ (h : ExprTree → ExprTree) where
  mutual
    pub count_kept : (t : StmtTree) → statement_count (statement_rewritten h t) ≡ statement_count t
    count_kept (Assign left right) = refl
    count_kept (If c a b) = λ i. counts_kept a i + counts_kept b i + 1
    count_kept (Do d body) = λ i. counts_kept body i + 1
    count_kept (Print items) = refl
    count_kept (Read items) = refl
    count_kept Stop = refl
    count_kept (Comment text) = refl

    pub counts_kept : (ts : StmtTrees) → statements_count (statements_rewritten h ts) ≡ statements_count ts
    counts_kept no_stmts = refl
    counts_kept (more_stmts t rest) = λ i. count_kept t i + counts_kept rest i

  mutual
    index_kept : (t : StmtTree) → loop_variables (statement_rewritten h t) ≡ loop_variables t
    index_kept (Assign left right) = refl
    index_kept (If c a b) = λ i. indices_kept a i ++ indices_kept b i
    index_kept (Do d body) = λ i. d.variable ∷ indices_kept body i
    index_kept (Print items) = refl
    index_kept (Read items) = refl
    index_kept Stop = refl
    index_kept (Comment text) = refl

    pub indices_kept : (ts : StmtTrees) → all_loop_variables (statements_rewritten h ts) ≡ all_loop_variables ts
    indices_kept no_stmts = refl
    indices_kept (more_stmts t rest) = λ i. index_kept t i ++ indices_kept rest i

  pub inner_kept : (b : Bool) (body : StmtTrees) → inner_variables b (statements_rewritten h body) ≡ inner_variables b body
  inner_kept true body = ap sorted_once (indices_kept body)
  inner_kept false body = refl

  pub increment_kept : (constants : List (List ℕ × ℤ)) (d : Head) → KeepsIncrement h constants d → increment constants (head_rewritten h d) ≡ increment constants d
  increment_kept constants d k = ap (λ (o : Option ℤ). unwrap_or o (pos 1)) k

-- places that stand likewise evaluate likewise
pub evaluating : (h : ExprTree → ExprTree) (name : Cell → Cell) (idle : Cell → Bool) (f : ℕ → ℕ) (q : Setting) (names loops : List (List ℕ)) (scope other : Scope) → StandLikewise h name idle f q names loops scope other → EvaluateLikewise h name idle q names scope other
evaluating h name idle f q names loops scope other at = record { told = λ x v among none is. at.told x v [] among none is tt refl; untold = at.untold; constant = at.constant; cell = at.cell }

-- the iteration that corresponds, under the new number of its DO
abbrev pub renumbered_frame : (ℕ → ℕ) → Frame → Frame
renumbered_frame f r = record { turn = renumbered_turn f r.turn; variable = r.variable; private = r.private }

-- variables of DO loops
variables_append : (loops : List (List ℕ)) (fs gs : Scope) → HaveVariablesIn loops fs → HaveVariablesIn loops gs → HaveVariablesIn loops (fs ++ gs)
variables_append loops [] gs h k = k
variables_append loops (f ∷ fs) gs h k = (h.0, variables_append loops fs gs h.1 k)

pub index_behind : (fs gs : Scope) (x : List ℕ) → index_value fs x ≡ None → index_value (fs ++ gs) x ≡ index_value gs x
index_behind [] gs x h = refl
index_behind (f ∷ fs) gs x h = go (is_same_text x f.variable) h (index_behind fs gs x)
  where
    go : (b : Bool) → (if b then Some f.turn.value else index_value fs x) ≡ None → (index_value fs x ≡ None → index_value (fs ++ gs) x ≡ index_value gs x) → (if b then Some f.turn.value else index_value (fs ++ gs) x) ≡ index_value gs x
    go true e more = absurd cc
    go false e more = more e

iterations_more : (turns : List Turn) (t : Turn) → iterations_of (turns ++ t ∷ []) ≡ iterations_of turns ++ iterations_of (t ∷ [])
iterations_more turns t = map-append (λ (u : Turn). record { statement = u.statement; number = u.number }) turns (t ∷ [])

module _ (h : ExprTree → ExprTree) (name : Cell → Cell) (idle : Cell → Bool) (f : ℕ → ℕ) (q : Setting) (names loops : List (List ℕ)) (scope other : Scope) (at : StandLikewise h name idle f q names loops scope other)
    (r : Frame) (loop : is_among r.variable loops ≡ true) (kept : h (Var r.variable) ≡ Var r.variable) where
  abbrev new : Frame
  new = renumbered_frame f r

  -- the variable of the DO itself
  own_told : (x : List ℕ) (v : ℤ) (fs : Scope) → is_same_text x r.variable ≡ true → r.turn.value ≡ v → value_named q.constants x ≡ None → index_value fs x ≡ None → IsTold (value (names_in q (fs ++ new ∷ other)) (h (Var x))) v
  own_told x v fs same is free apart =
      subst (λ (t : ExprTree). IsTold (value (names_in q (fs ++ new ∷ other)) t) v) (sym stays)
      (subst (λ (o : Option ℤ). IsTold (name_value o (names_in q (fs ++ new ∷ other)) x) v) (sym free)
      (subst (λ (o : Option ℤ). IsTold (λ (s : Store). variable_value o s (cell_of (fs ++ new ∷ other) x)) v) (sym told) (record { comes = λ s. refl; unseen = λ s. tt })))
    where
      stays : h (Var x) ≡ Var x
      stays = let e = same_is x r.variable same in subst (λ (y : List ℕ). h (Var y) ≡ Var y) (sym e) kept

      told : index_value (fs ++ new ∷ other) x ≡ Some v
      told = index_behind fs (new ∷ other) x apart ∙ ap (λ (b : Bool). if b then Some r.turn.value else index_value other x) same ∙ ap Some is

  told_inside : (x : List ℕ) (v : ℤ) (fs : Scope) → is_among x names ≡ true → value_named q.constants x ≡ None → index_value (r ∷ scope) x ≡ Some v → HaveVariablesIn loops fs → index_value fs x ≡ None → IsTold (value (names_in q (fs ++ new ∷ other)) (h (Var x))) v
  told_inside x v fs among free there variables apart = go (is_same_text x r.variable) refl there
    where
      go : (b : Bool) → is_same_text x r.variable ≡ b → (if b then Some r.turn.value else index_value scope x) ≡ Some v → IsTold (value (names_in q (fs ++ new ∷ other)) (h (Var x))) v
      go true same e = let is : r.turn.value ≡ v = cc in own_told x v fs same is free apart
      go false unlike e =
          subst (λ (fs' : Scope). IsTold (value (names_in q fs') (h (Var x))) v) (append_assoc fs (new ∷ []) other)
          (at.told x v (fs ++ new ∷ []) among free e (variables_append loops fs (new ∷ []) variables (loop, tt))
          (index_behind fs (new ∷ []) x apart ∙ ap (λ (b : Bool). if b then Some r.turn.value else None) unlike))

  untold_inside : (x : List ℕ) → is_among x names ≡ true → index_value (r ∷ scope) x ≡ None → (h (Var x) ≡ Var x) × (index_value (new ∷ other) x ≡ None)
  untold_inside x among there = go (is_same_text x r.variable) there
    where
      go : (b : Bool) → (if b then Some r.turn.value else index_value scope x) ≡ None → (h (Var x) ≡ Var x) × ((if b then Some r.turn.value else index_value other x) ≡ None)
      go true e = absurd cc
      go false e = at.untold x among e

  copy_inside : (x : List ℕ) → is_among x names ≡ true → Meet name idle (Private x (iterations_of (turns_of (r ∷ scope)))) (Private x (iterations_of (turns_of (new ∷ other))))
  copy_inside x among =
      subst (λ (path : List Iteration). Meet name idle (Private x path) (Private x (iterations_of (turns_of (new ∷ other))))) (sym (iterations_more (turns_of scope) r.turn))
      (subst (λ (path : List Iteration). Meet name idle (Private x (iterations_of (turns_of scope) ++ iterations_of (r.turn ∷ []))) (Private x path)) (sym (iterations_more (turns_of other) new.turn))
      (at.inside x (record { statement = r.turn.statement; number = r.turn.number }) [] among))

  cell_inside : (x : List ℕ) → is_among x names ≡ true → Meet name idle (cell_of (r ∷ scope) x) (cell_of (new ∷ other) x)
  cell_inside x among = go (is_among x r.private)
    where
      go : (b : Bool) → Meet name idle (if b then Private x (iterations_of (turns_of (r ∷ scope))) else cell_of scope x) (if b then Private x (iterations_of (turns_of (new ∷ other))) else cell_of other x)
      go true = copy_inside x among
      go false = at.cell x among

  further_inside : (x : List ℕ) (i : Iteration) (more : List Iteration) → is_among x names ≡ true → Meet name idle (Private x (iterations_of (turns_of (r ∷ scope)) ++ i ∷ more)) (Private x (iterations_of (turns_of (new ∷ other)) ++ map (renumbered_iteration f) (i ∷ more)))
  further_inside x i more among =
      subst (λ (path : List Iteration). Meet name idle (Private x path) (Private x (iterations_of (turns_of (new ∷ other)) ++ map (renumbered_iteration f) (i ∷ more)))) (sym old_path)
      (subst (λ (path : List Iteration). Meet name idle (Private x (iterations_of (turns_of scope) ++ j ∷ (i ∷ more))) (Private x path)) (sym new_path) (at.inside x j (i ∷ more) among))
    where
      j : Iteration
      j = record { statement = r.turn.statement; number = r.turn.number }

      old_path : iterations_of (turns_of (r ∷ scope)) ++ i ∷ more ≡ iterations_of (turns_of scope) ++ j ∷ (i ∷ more)
      old_path = ap (λ (path : List Iteration). path ++ i ∷ more) (iterations_more (turns_of scope) r.turn) ∙ append_assoc (iterations_of (turns_of scope)) (j ∷ []) (i ∷ more)

      new_path : iterations_of (turns_of (new ∷ other)) ++ map (renumbered_iteration f) (i ∷ more) ≡ iterations_of (turns_of other) ++ map (renumbered_iteration f) (j ∷ (i ∷ more))
      new_path =
          ap (λ (path : List Iteration). path ++ map (renumbered_iteration f) (i ∷ more)) (iterations_more (turns_of other) new.turn)
          ∙ append_assoc (iterations_of (turns_of other)) (renumbered_iteration f j ∷ []) (map (renumbered_iteration f) (i ∷ more))

  -- an iteration further inside, places stand alike, too
  pub deeper : StandLikewise h name idle f q names loops (r ∷ scope) (renumbered_frame f r ∷ other)
  deeper = record { told = told_inside; untold = untold_inside; constant = at.constant; cell = cell_inside; inside = further_inside }

-- acts that are done likewise in an iteration are done likewise round it
module _ (name : Cell → Cell) (idle : Cell → Bool) (f : ℕ → ℕ) (turns others : List Turn) (t : Turn) where
  act_outside : (a b : Act) → IsLikewise name idle f (turns ++ t ∷ []) (others ++ renumbered_turn f t ∷ []) a b → IsLikewise name idle f turns others a b
  act_outside a b k = record {
    step = k.step;
    statement = k.statement;
    more = t ∷ k.more;
    old = k.old ∙ append_assoc turns (t ∷ []) k.more;
    new = k.new ∙ append_assoc others (renumbered_turn f t ∷ []) (map (renumbered_turn f) k.more);
    touches = k.touches;
  }

  pub acts_outside : (acts fresh : List Act) → AreLikewise name idle f (turns ++ t ∷ []) (others ++ renumbered_turn f t ∷ []) acts fresh → AreLikewise name idle f turns others acts fresh
  acts_outside [] [] k = tt
  acts_outside [] (b ∷ bs) k = absurd k
  acts_outside (a ∷ acts) [] k = absurd k
  acts_outside (a ∷ acts) (b ∷ bs) k = (act_outside a b k.0, acts_outside acts bs k.1)
