-- Statements with elements of an array in the place of a scalar leave no more of another scalar.
use Rattle.std.proofs.Common.{◌≡◌, ℕ, ◌+◌, Bool, true, false, ◌||◌, List, [], ◌∷◌, map, refl, sym, ap, subst, ◌∙◌, if◌then◌else◌}
use Rattle.std.specs.List.{flat_map}
use Rattle.ped_base.specs.Lists.{is_same_text, is_among}
use Rattle.ped_base.proofs.NameEquality.{same_is}
use Rattle.ped_tree.specs.Tree.{ExprTree, Int, Var, Element, Neg, Add, Sub, Mul, Div, Pow, Call, Head, StmtTree, StmtTrees, Assign, If, Do, Print, Read, Stop, Comment, no_stmts, more_stmts}
use Rattle.ped_tree.specs.Numbering.{statement_count, statements_count}
use Rattle.ped_tree.specs.NamesIn.{all_loop_variables}
use Rattle.ped_loop_runs.specs.ped_flow.specs.Summaries.{passing, unreached, summary_in_turn, summary_either, summary_of, summary_of_all, summary_behind, summary_behind_all}
use Rattle.ped_loop_runs.specs.ped_flow.proofs.Truths.{untrue}
use Rattle.ped_loop_runs.specs.ped_laws.specs.FlowRuns.Covering.{has_stop, some_stop}
use Rattle.ped_loop_runs.specs.ped_symbolic.specs.Substitution.{substituted, head_substituted, condition_substituted, item_substituted, statement_substituted, statements_substituted}
use Rattle.ped_loop_runs.specs.ped_steps.proofs.RunLaws.SubstitutedShapes.{count_kept, counts_kept}
use Rattle.ped_loop_runs.proofs.TidyLaws.TidyPathsSums.{IsNoMore, AreNoMore, ClearsAll, append_more, no_more, either_more, lefts, own_more, loop_more, do_more, if_more, more_more}
use Rattle.ped_loop_runs.proofs.TidyLaws.TidyPathsGaps.{loop_behind_more, rest_behind_more}
use Rattle.ped_rules.proofs.NameLaws.SubstitutedReferences.{all_variables_stay}

module _ (x : List ℕ) (by : ExprTree) where
  mutual
    stop_kept : (t : StmtTree) → has_stop (statement_substituted x by t) ≡ has_stop t
    stop_kept (Assign left right) = refl
    stop_kept (If c a b) = λ i. stops_kept a i || stops_kept b i
    stop_kept (Do h body) = stops_kept body
    stop_kept (Print items) = refl
    stop_kept (Read items) = refl
    stop_kept Stop = refl
    stop_kept (Comment text) = refl

    pub stops_kept : (ts : StmtTrees) → some_stop (statements_substituted x by ts) ≡ some_stop ts
    stops_kept no_stmts = refl
    stops_kept (more_stmts t rest) = λ i. stop_kept t i || stops_kept rest i

  -- another scalar is cleared as before
  module _ (cs : List (List ℕ)) (w : List ℕ) where
    pub variables_clear : (ts : StmtTrees) → AreNoMore w (all_loop_variables ts) (all_loop_variables (statements_substituted x by ts))
    variables_clear ts e = ap (is_among w) (all_variables_stay x by ts) ∙ e

    substituted_clears : (h : Head) (body : StmtTrees) → ClearsAll cs w (head_substituted x by h) h (statements_substituted x by body) body
    substituted_clears h body = record { variable = refl; parallel = refl; private = λ e. e; loops = variables_clear body }

    module _ (other : is_same_text w x ≡ false) where
      is_it : (c : Bool) (y : List ℕ) → is_among w (if c then [] else y ∷ []) ≡ true → is_same_text w y ≡ true
      is_it true y e = untrue e
      is_it false y e = go (is_same_text w y) e
        where
          go : (b : Bool) → (b || false) ≡ true → b ≡ true
          go true f = refl
          go false f = f

      lefts_kept : (left : ExprTree) → AreNoMore w (lefts cs left) (lefts cs (substituted x by left))
      lefts_kept (Var y) e = go (is_same_text x y) refl
        where
          go : (b : Bool) → is_same_text x y ≡ b → is_among w (lefts cs (if b then by else Var y)) ≡ true
          go true f = untrue (sym other ∙ ap (is_same_text w) (same_is x y f) ∙ is_it (is_among y cs) y e)
          go false f = e
      lefts_kept (Element y es) e = untrue e
      lefts_kept (Int k) e = untrue e
      lefts_kept (Neg a) e = untrue e
      lefts_kept (Add a b) e = untrue e
      lefts_kept (Sub a b) e = untrue e
      lefts_kept (Mul a b) e = untrue e
      lefts_kept (Div a b) e = untrue e
      lefts_kept (Pow a b) e = untrue e
      lefts_kept (Call f es) e = untrue e

      items_kept : (items : List ExprTree) → AreNoMore w (flat_map (lefts cs) items) (flat_map (lefts cs) (map (substituted x by) items))
      items_kept [] = λ e. e
      items_kept (e ∷ rest) = append_more w (lefts cs e) (flat_map (lefts cs) rest) (lefts cs (substituted x by e)) (flat_map (lefts cs) (map (substituted x by) rest)) (lefts_kept e) (items_kept rest)

      mutual
        pub substituted_leaves : (t : StmtTree) (n m : ℕ) → IsNoMore (summary_of cs w (statement_substituted x by t) n) (summary_of cs w t m)
        substituted_leaves (Assign left right) n m = own_more cs w (Assign (substituted x by left) (substituted x by right)) (Assign left right) n m (lefts_kept left)
        substituted_leaves (If c a b) n m =
            let first = statements_substituted x by a in
            let second = statements_substituted x by b in
            if_more cs w first second a b (If (condition_substituted x by c) first second) (If c a b) n m (n + 1) (n + 1 + statements_count first) (m + 1) (m + 1 + statements_count a) (λ e. e)
            (all_substituted_leave a (n + 1) (m + 1)) (all_substituted_leave b (n + 1 + statements_count first) (m + 1 + statements_count a))
        substituted_leaves (Do h body) n m = do_more cs w (head_substituted x by h) h (statements_substituted x by body) body n m (substituted_clears h body) (all_substituted_leave body (n + 1) (m + 1))
        substituted_leaves (Print items) n m = own_more cs w (Print (map (item_substituted x by) items)) (Print items) n m (λ e. e)
        substituted_leaves (Read items) n m = own_more cs w (Read (map (substituted x by) items)) (Read items) n m (items_kept items)
        substituted_leaves Stop n m = no_more (summary_of cs w Stop n)
        substituted_leaves (Comment text) n m = no_more passing

        pub all_substituted_leave : (ts : StmtTrees) (n m : ℕ) → IsNoMore (summary_of_all cs w (statements_substituted x by ts) n) (summary_of_all cs w ts m)
        all_substituted_leave no_stmts n m = no_more passing
        all_substituted_leave (more_stmts t rest) n m =
            let first = statement_substituted x by t in
            more_more cs w first t (statements_substituted x by rest) rest n m (n + statement_count first) (m + statement_count t)
            (substituted_leaves t n m) (all_substituted_leave rest (n + statement_count first) (m + statement_count t))

      mutual
        substituted_behind : (t : StmtTree) (k n : ℕ) → IsNoMore (summary_behind cs w k (statement_substituted x by t) n) (summary_behind cs w k t n)
        substituted_behind (Assign left right) k n = no_more unreached
        substituted_behind (If c a b) k n =
            let first = statements_substituted x by a in
            let second = statements_substituted x by b in
            subst (λ (i : ℕ). IsNoMore (summary_either (summary_behind_all cs w k first (n + 1)) (summary_behind_all cs w k second (n + 1 + i))) (summary_either (summary_behind_all cs w k a (n + 1)) (summary_behind_all cs w k b (n + 1 + statements_count a))))
            (sym (counts_kept x by a))
            (either_more (summary_behind_all cs w k first (n + 1)) (summary_behind_all cs w k second (n + 1 + statements_count a)) (summary_behind_all cs w k a (n + 1)) (summary_behind_all cs w k b (n + 1 + statements_count a))
            (all_substituted_behind a k (n + 1)) (all_substituted_behind b k (n + 1 + statements_count a)))
        substituted_behind (Do h body) k n =
            let inner = statements_substituted x by body in
            loop_behind_more cs w (head_substituted x by h) h inner body k n k n refl (all_substituted_behind body k (n + 1))
            (loop_more cs w (head_substituted x by h) h inner body n n (summary_of_all cs w inner (n + 1)) (summary_of_all cs w body (n + 1)) (substituted_clears h body) (all_substituted_leave body (n + 1) (n + 1)))
        substituted_behind (Print items) k n = no_more unreached
        substituted_behind (Read items) k n = no_more unreached
        substituted_behind Stop k n = no_more unreached
        substituted_behind (Comment text) k n = no_more unreached

        pub all_substituted_behind : (ts : StmtTrees) (k n : ℕ) → IsNoMore (summary_behind_all cs w k (statements_substituted x by ts) n) (summary_behind_all cs w k ts n)
        all_substituted_behind no_stmts k n = no_more unreached
        all_substituted_behind (more_stmts t rest) k n =
            let first = statement_substituted x by t in
            let others = statements_substituted x by rest in
            subst (λ (i : ℕ). IsNoMore (summary_either (summary_in_turn (summary_behind cs w k first n) (summary_of_all cs w others (n + i))) (summary_behind_all cs w k others (n + i))) (summary_behind_all cs w k (more_stmts t rest) n))
            (sym (count_kept x by t))
            (rest_behind_more cs w first t others rest k n k n (n + statement_count t) (n + statement_count t)
            (substituted_behind t k n) (all_substituted_leave rest (n + statement_count t) (n + statement_count t)) (all_substituted_behind rest k (n + statement_count t)))
