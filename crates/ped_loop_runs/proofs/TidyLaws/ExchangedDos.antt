-- Where each DO of a program comes from in which statements have been exchanged: it is one of the new statements or in one, or it stood in the old program.
use Rattle.std.proofs.Common.{◌≡◌, ℕ, ◌+◌, ◌-◌, ◌<◌, ◌≤◌, List, [], ◌∷◌, ◌++◌, Bool, true, false, ◌||◌, ◌⊎◌, inl, inr, refl, sym, subst, ◌∙◌, arith}
use Rattle.std.proofs.lemmas.List.Folds.{list_any-append}
use Rattle.std.proofs.lemmas.Bool.{or_left, or_right}
use Rattle.ped_bodies.specs.ped_flow.specs.ped_base.specs.Lists.{is_same_text, is_among}
use Rattle.ped_bodies.specs.ped_flow.specs.ped_tree.specs.Tree.{Head, StmtTree, StmtTrees, Assign, If, Do, Print, Read, Stop, Comment, no_stmts, more_stmts, ProgramTree}
use Rattle.ped_bodies.specs.ped_flow.specs.ped_tree.specs.Numbering.{statement_count, statements_count}
use Rattle.ped_bodies.specs.ped_flow.specs.ped_tree.specs.NamesIn.{loop_variables, all_loop_variables}
use Rattle.ped_bodies.specs.ped_flow.specs.PlainBounds.{all_loops_round}
use Rattle.ped_bodies.specs.ped_flow.specs.Questions.{LoopOf}
use Rattle.ped_bodies.specs.ped_laws.specs.Acts.Orders.{IsIn}
use Rattle.ped_bodies.specs.ped_steps.specs.Runs.Gaps.{Gap, filled}
use Rattle.ped_bodies.specs.ped_steps.proofs.RunLaws.FilledGaps.{counted}
use Rattle.ped_bodies.specs.ped_steps.proofs.RunLaws.RunCells.{EachDo, EachDos}
use Rattle.ped_loop_runs.specs.Exchanges.{Exchange, old_of, start_of, IsExchanged, IsStaying, IsNew}
use Rattle.ped_loop_runs.proofs.TidyLaws.TidyReferencesGaps.{Stands, each_stands, of_rest, each_exchanged, each_of_program}
use Rattle.ped_loop_runs.proofs.TidyLaws.WrittenIndices.{IsFurther, variable_from}

-- a DO stood in the old program with the same head; its variables and those of the DO loops in it are those of the old one, or further ones
pub record Stood (x : Exchange) (t : ProgramTree) (m : ℕ) (h : Head) (b : StmtTrees) : Type 0 where
  pub number : ℕ
  pub body : StmtTrees
  pub stands : Stands t number h body
  pub staying : IsStaying x number m
  pub variables : (w : List ℕ) → is_among w (loop_variables (Do h b)) ≡ true → (is_among w (loop_variables (Do h body)) ≡ true) ⊎ IsFurther (old_of x) x.new w

-- a DO is one of the new statements or in one
pub record Comes (x : Exchange) (m : ℕ) (h : Head) (b : StmtTrees) : Type 0 where
  pub new : IsNew x m
  pub variables : (w : List ℕ) → is_among w (loop_variables (Do h b)) ≡ true → is_among w (all_loop_variables x.new) ≡ true

module _ (x : Exchange) (t u : ProgramTree) (is : IsExchanged x t u) where
  abbrev From : ℕ → Head → StmtTrees → Type 0
  From m h b = Comes x m h b ⊎ Stood x t m h b

  itself : (k m : ℕ) (h : Head) (b : StmtTrees) → IsStaying x k m → Stands t k h b → From m h b
  itself k m h b staying stands = inr (record { number = k; body = b; stands = stands; staying = staying; variables = λ w e. inl e })

  stays : (k m : ℕ) (h : Head) (b : StmtTrees) → k < start_of x → m ≡ k → Stands t k h b → From m h b
  stays k m h b below e = itself k m h b (inl (below, e))

  moves : (k m : ℕ) (h : Head) (b : StmtTrees) → start_of x + statements_count (old_of x) ≤ k → m + statements_count (old_of x) ≡ k + statements_count x.new → Stands t k h b → From m h b
  moves k m h b above e = itself k m h b (inr (k - (start_of x + statements_count (old_of x)), omega (arith, above), omega (arith, above, e)))

  round : (n : ℕ) (h : Head) (g : Gap) → n < start_of x → IsIn (record { number = n; head = h }) (all_loops_round (start_of x) (filled x.gap (old_of x)) 1) → Stands t n h (filled g (old_of x)) → From n h (filled g x.new)
  round n h g below there stands = inr (record { number = n; body = filled g (old_of x); stands = stands; staying = inl (below, refl); variables = from })
    where
      from : (w : List ℕ) → is_among w (loop_variables (Do h (filled g x.new))) ≡ true → (is_among w (loop_variables (Do h (filled g (old_of x)))) ≡ true) ⊎ IsFurther (old_of x) x.new w
      from w e = go (is_same_text w h.variable) refl e
        where
          go : (b : Bool) → is_same_text w h.variable ≡ b → (b || is_among w (all_loop_variables (filled g x.new))) ≡ true
              → (is_among w (loop_variables (Do h (filled g (old_of x)))) ≡ true) ⊎ IsFurther (old_of x) x.new w
          go true f k = inl (or_left (is_same_text w h.variable) (is_among w (all_loop_variables (filled g (old_of x)))) f)
          go false f k = elim (variable_from (old_of x) x.new g w k) [
            | inl m ↦ inl (or_right (is_same_text w h.variable) (is_among w (all_loop_variables (filled g (old_of x)))) m)
            | inr m ↦ inr m
          ]

  -- each DO among the new statements
  abbrev Among : List (List ℕ) → Type 0
  Among names = (w : List ℕ) → is_among w names ≡ true → is_among w (all_loop_variables x.new) ≡ true

  first_among : (xs ys : List (List ℕ)) → Among (xs ++ ys) → Among xs
  first_among xs ys all w e = all w (list_any-append (is_same_text w) xs ys ∙ or_left (is_among w xs) (is_among w ys) e)

  rest_among : (xs ys : List (List ℕ)) → Among (xs ++ ys) → Among ys
  rest_among xs ys all w e = all w (list_any-append (is_same_text w) xs ys ∙ or_right (is_among w xs) (is_among w ys) e)

  mutual
    one_new : (s : StmtTree) (n : ℕ) → start_of x ≤ n → n + statement_count s ≤ start_of x + statements_count x.new → Among (loop_variables s) → EachDo From s n
    one_new (Assign left right) n low high all = tt
    one_new (If c a b) n low high all = (
      all_new a (n + 1) (omega (arith, low)) (omega (arith, high)) (first_among (all_loop_variables a) (all_loop_variables b) all),
      all_new b (n + 1 + statements_count a) (omega (arith, low)) (omega (arith, high)) (rest_among (all_loop_variables a) (all_loop_variables b) all),
    )
    one_new (Do h body) n low high all = (
      inl (record { new = (low, omega (arith, high)); variables = all }),
      all_new body (n + 1) (omega (arith, low)) (omega (arith, high)) (rest_among (h.variable ∷ []) (all_loop_variables body) all),
    )
    one_new (Print items) n low high all = tt
    one_new (Read items) n low high all = tt
    one_new Stop n low high all = tt
    one_new (Comment text) n low high all = tt

    all_new : (ss : StmtTrees) (n : ℕ) → start_of x ≤ n → n + statements_count ss ≤ start_of x + statements_count x.new → Among (all_loop_variables ss) → EachDos From ss n
    all_new no_stmts n low high all = tt
    all_new (more_stmts s rest) n low high all = (
      one_new s n low (omega (arith, high)) (first_among (loop_variables s) (all_loop_variables rest) all),
      all_new rest (n + statement_count s) (omega (arith, low)) (omega (arith, high)) (rest_among (loop_variables s) (all_loop_variables rest) all),
    )

  some_old : 0 < statements_count (old_of x)
  some_old = let e = counted x.front (more_stmts (Do x.head x.body) no_stmts) in omega (arith, e)

  each_from : EachDos From u.body 1
  each_from =
      of_rest From is.comments u.body 1 1 (let none = is.uncounted in omega (arith, none))
      (subst (λ (ss : StmtTrees). EachDos From ss 1) (sym is.new_body)
      (each_exchanged (Stands t) From (old_of x) x.new (statements_count x.new) (statements_count (old_of x)) (start_of x) (all_loops_round (start_of x) (filled x.gap (old_of x)) 1) some_old (omega arith) stays moves round
      (λ all. all_new x.new (start_of x) (omega arith) (omega arith) (λ w e. e)) x.gap 1 refl (λ m i. i) (subst (λ (ss : StmtTrees). EachDos (Stands t) ss 1) is.old_body (each_stands t))))

  -- each DO of the new program
  pub comes_from : (m : ℕ) (p : LoopOf u m) → Comes x m p.head p.body ⊎ Stood x t m p.head p.body
  comes_from m p = each_of_program From u each_from m p
