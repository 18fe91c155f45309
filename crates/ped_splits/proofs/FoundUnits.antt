-- Units as they are found, statement by statement.
use Rattle.std.proofs.Common.{◌≡◌, ◌⊎◌, ℕ, zero, suc, ◌+◌, ◌-◌, ◌<◌, ◌≤◌, ◌==◌, List, [], ◌∷◌, ◌++◌, map, length, take, drop, get_or, Bool, true, false, if◌then◌else◌, inl, inr, refl, sym, ap, subst, ◌∙◌, append-nil, eqb-true, arith}
use Rattle.std.specs.Prelude.{slice_range}
use Rattle.std.proofs.lemmas.List.{append_assoc, drop_all, drop_more, take_all, take_more, length-drop, get_or-drop, map-append}
use Rattle.std.proofs.lemmas.List.Folds.{drop_split}
use Rattle.ped_tree.specs.Tree.{StmtTree, StmtTrees, no_stmts, more_stmts}
use Rattle.ped_tree.specs.Numbering.{statement_count, statements_count}
use Rattle.ped_tree.specs.Views.{stmt_tree, stmt_trees}
use Rattle.ped_tree.specs.declared.statements.Stmt.{Stmt}
use Rattle.ped_rules.specs.ped_steps.specs.Replacing.{alone}
use Rattle.ped_splits.specs.declared.units.Unit.{Unit}
use Rattle.ped_splits.specs.Units.{before_first, units}
use Rattle.ped_splits.specs.CodeUnits.{unit_tree, unit_trees}

-- statements without a number before one
chosen : (c : StmtTree) (b : Bool) (x y : StmtTrees) (us : List StmtTrees) → before_first c (if b then x ∷ [] else y ∷ us) ≡ (if b then more_stmts c x ∷ [] else more_stmts c y ∷ us)
chosen c true x y us = refl
chosen c false x y us = refl

module _ (s : Stmt) (r : List Stmt) (numbered : (statement_count (stmt_tree s) == 0) ≡ false) where
  -- the first unit of comments, a statement and others behind it
  pub first_unit : (cs : List Stmt) → statements_count (stmt_trees cs) ≡ 0
      → units (stmt_trees (cs ++ s ∷ r)) ≡ (if statements_count (stmt_trees r) == 0 then stmt_trees (cs ++ s ∷ r) ∷ [] else stmt_trees (cs ++ s ∷ []) ∷ units (stmt_trees r))
  first_unit [] none = ap (λ (b : Bool). if b then before_first (stmt_tree s) (units (stmt_trees r)) else (if statements_count (stmt_trees r) == 0 then stmt_trees (s ∷ r) ∷ [] else alone (stmt_tree s) ∷ units (stmt_trees r))) numbered
  first_unit (c ∷ cs) none =
      let zero_here : statement_count (stmt_tree c) ≡ 0 = omega (arith, none) in
      let zero_there : statements_count (stmt_trees cs) ≡ 0 = omega (arith, none) in
      let whole = units (stmt_trees (cs ++ s ∷ r)) in
      ap (λ (n : ℕ). if n == 0 then before_first (stmt_tree c) whole else (if statements_count (stmt_trees (cs ++ s ∷ r)) == 0 then stmt_trees (c ∷ cs ++ s ∷ r) ∷ [] else alone (stmt_tree c) ∷ whole)) zero_here
      ∙ ap (before_first (stmt_tree c)) (first_unit cs zero_there)
      ∙ chosen (stmt_tree c) (statements_count (stmt_trees r) == 0) (stmt_trees (cs ++ s ∷ r)) (stmt_trees (cs ++ s ∷ [])) (units (stmt_trees r))

-- comments have no unit
pub no_unit : (cs : List Stmt) → statements_count (stmt_trees cs) ≡ 0 → units (stmt_trees cs) ≡ []
no_unit [] none = refl
no_unit (c ∷ cs) none =
    let zero_here : statement_count (stmt_tree c) ≡ 0 = omega (arith, none) in
    let zero_there : statements_count (stmt_trees cs) ≡ 0 = omega (arith, none) in
    ap (λ (n : ℕ). if n == 0 then before_first (stmt_tree c) (units (stmt_trees cs)) else (if statements_count (stmt_trees cs) == 0 then stmt_trees (c ∷ cs) ∷ [] else alone (stmt_tree c) ∷ units (stmt_trees cs))) zero_here
    ∙ ap (before_first (stmt_tree c)) (no_unit cs zero_there)

-- statements with one more behind them
slice_more : {X : Type 0} (xs : List X) (a b : ℕ) (d : X) → a ≤ b → b < length xs → slice_range xs a (b + 1) ≡ slice_range xs a b ++ get_or xs b d ∷ []
slice_more xs a b d le h =
    let inside = length-drop a xs in
    let at_end : a + (b - a) ≡ b = omega (arith, le) in
    let longer : b + 1 - a ≡ b - a + 1 = omega (arith, le) in
    ap (λ (n : ℕ). take n (drop a xs)) longer
    ∙ take_more (drop a xs) (b - a) d (omega (arith, le, h, inside))
    ∙ ap (λ (x : _). take (b - a) (drop a xs) ++ x ∷ []) (get_or-drop a xs (b - a) d ∙ ap (λ (k : ℕ). get_or xs k d) at_end)

count_more : (xs : List Stmt) (s : Stmt) → statements_count (stmt_trees (xs ++ s ∷ [])) ≡ statements_count (stmt_trees xs) + statement_count (stmt_tree s)
count_more [] s = omega arith
count_more (x ∷ xs) s = let rest = count_more xs s in omega (arith, rest)

not_none : (n : ℕ) → (n == 0) ≡ false → 1 ≤ n
not_none zero e = absurd cc
not_none (suc n) e = omega arith

-- behind so many statements: the units that are found, and where the next one begins
pub record AreFound (body : List Stmt) (place from : ℕ) (found : List Unit) : Type 0 where
  pub inside : from ≤ length body
  pub done : unit_trees found ++ units (stmt_trees (drop from body)) ≡ units (stmt_trees body)
  pub stands : ((from ≤ place) × (statements_count (stmt_trees (slice_range body from place)) ≡ 0)) ⊎ ((from ≡ length body) × (statements_count (stmt_trees (drop place body)) ≡ 0))

module _ (body : List Stmt) (place from : ℕ) (found : List Unit) (are : AreFound body place from found) (s : Stmt) (within : place < length body) (is : s ≡ get_or body place s) where
  dropped : drop place body ≡ s ∷ drop (place + 1) body
  dropped = drop_more body place s within ∙ ap (λ (x : Stmt). x ∷ drop (place + 1) body) (sym is)

  count_is : statements_count (stmt_trees (drop place body)) ≡ statement_count (stmt_tree s) + statements_count (stmt_trees (drop (place + 1) body))
  count_is = ap (λ (xs : List Stmt). statements_count (stmt_trees xs)) dropped

  -- a comment
  pub next_comment : (statement_count (stmt_tree s) == 0) ≡ true → AreFound body (place + 1) from found
  next_comment e = record { inside = are.inside; done = are.done; stands = by are.stands }
    where
      none : statement_count (stmt_tree s) ≡ 0
      none = eqb-true (statement_count (stmt_tree s)) 0 e

      by : ((from ≤ place) × (statements_count (stmt_trees (slice_range body from place)) ≡ 0)) ⊎ ((from ≡ length body) × (statements_count (stmt_trees (drop place body)) ≡ 0))
          → ((from ≤ place + 1) × (statements_count (stmt_trees (slice_range body from (place + 1))) ≡ 0)) ⊎ ((from ≡ length body) × (statements_count (stmt_trees (drop (place + 1) body)) ≡ 0))
      by (inl (le, zero_so_far)) =
          let longer = ap (λ (xs : List Stmt). statements_count (stmt_trees xs)) (slice_more body from place s le within ∙ ap (λ (x : Stmt). slice_range body from place ++ x ∷ []) (sym is)) in
          let more = count_more (slice_range body from place) s in
          inl (omega (arith, le), omega (arith, longer, more, zero_so_far, none))
      by (inr (ends, zero_behind)) = inr (ends, let whole = count_is in omega (arith, whole, zero_behind))

  -- a statement with a number
  module _ (numbered : (statement_count (stmt_tree s) == 0) ≡ false) where
    abbrev comments : List Stmt
    comments = slice_range body from place

    abbrev rest : List Stmt
    rest = drop (place + 1) body

    pub begins : (from ≤ place) × (statements_count (stmt_trees comments) ≡ 0)
    begins = by are.stands
      where
        by : ((from ≤ place) × (statements_count (stmt_trees (slice_range body from place)) ≡ 0)) ⊎ ((from ≡ length body) × (statements_count (stmt_trees (drop place body)) ≡ 0)) → (from ≤ place) × (statements_count (stmt_trees comments) ≡ 0)
        by (inl h) = h
        by (inr (ends, zero_behind)) = let some = not_none (statement_count (stmt_tree s)) numbered in let whole = count_is in absurd (omega (arith, some, whole, zero_behind))

    left : drop from body ≡ comments ++ s ∷ rest
    left = drop_split body from place begins.0 ∙ ap (λ (xs : List Stmt). comments ++ xs) dropped

    next_unit : units (stmt_trees (drop from body)) ≡ (if statements_count (stmt_trees rest) == 0 then stmt_trees (comments ++ s ∷ rest) ∷ [] else stmt_trees (comments ++ s ∷ []) ∷ units (stmt_trees rest))
    next_unit = ap (λ (xs : List Stmt). units (stmt_trees xs)) left ∙ first_unit s rest numbered comments begins.1

    pub next_found : (u : Unit) (behind : ℕ) → behind ≡ (if statements_count (stmt_trees rest) == 0 then length body else place + 1) → u.statements.now ≡ slice_range body from behind → AreFound body (place + 1) behind (found ++ u ∷ [])
    next_found u behind ends tells = by (statements_count (stmt_trees rest) == 0) refl
      where
        before : unit_trees (found ++ u ∷ []) ≡ unit_trees found ++ unit_tree u ∷ []
        before = map-append unit_tree found (u ∷ [])

        by : (b : Bool) → (statements_count (stmt_trees rest) == 0) ≡ b → AreFound body (place + 1) behind (found ++ u ∷ [])
        by true e =
            let at_end : behind ≡ length body = ends ∙ ap (λ (b : Bool). if b then length body else place + 1) e in
            let inside = length-drop from body in
            let tree : unit_tree u ≡ stmt_trees (comments ++ s ∷ rest) = ap stmt_trees (tells ∙ ap (λ (k : ℕ). slice_range body from k) at_end ∙ take_all (length body - from) (drop from body) (omega (arith, inside)) ∙ left) in
            let behind_none : units (stmt_trees (drop behind body)) ≡ [] = ap (λ (k : ℕ). units (stmt_trees (drop k body))) at_end ∙ ap (λ (xs : List Stmt). units (stmt_trees xs)) (drop_all (length body) body (omega arith)) in
            let whole = next_unit ∙ ap (λ (b : Bool). if b then stmt_trees (comments ++ s ∷ rest) ∷ [] else stmt_trees (comments ++ s ∷ []) ∷ units (stmt_trees rest)) e in
            record {
              inside = omega (arith, at_end);
              done = (λ i. before i ++ behind_none i) ∙ append-nil (unit_trees found ++ unit_tree u ∷ []) ∙ ap (λ (tree : StmtTrees). unit_trees found ++ tree ∷ []) tree ∙ ap (λ (us : List StmtTrees). unit_trees found ++ us) (sym whole) ∙ are.done;
              stands = inr (at_end, eqb-true (statements_count (stmt_trees rest)) 0 e);
            }
        by false e =
            let at_next : behind ≡ place + 1 = ends ∙ ap (λ (b : Bool). if b then length body else place + 1) e in
            let tree : unit_tree u ≡ stmt_trees (comments ++ s ∷ []) =
            ap stmt_trees (tells ∙ ap (λ (k : ℕ). slice_range body from k) at_next ∙ slice_more body from place s begins.0 within ∙ ap (λ (x : Stmt). comments ++ x ∷ []) (sym is)) in
            let whole = next_unit ∙ ap (λ (b : Bool). if b then stmt_trees (comments ++ s ∷ rest) ∷ [] else stmt_trees (comments ++ s ∷ []) ∷ units (stmt_trees rest)) e in
            let nothing : slice_range body behind (place + 1) ≡ [] = nothing_between at_next in
            record {
              inside = omega (arith, at_next, within);
              done = (λ i. before i ++ units (stmt_trees (drop (at_next i) body))) ∙ append_assoc (unit_trees found) (unit_tree u ∷ []) (units (stmt_trees rest)) ∙ ap (λ (tree : StmtTrees). unit_trees found ++ tree ∷ units (stmt_trees rest)) tree
                  ∙ ap (λ (us : List StmtTrees). unit_trees found ++ us) (sym whole) ∙ are.done;
              stands = inl (omega (arith, at_next), ap (λ (xs : List Stmt). statements_count (stmt_trees xs)) nothing);
            }
          where
            nothing_between : behind ≡ place + 1 → slice_range body behind (place + 1) ≡ []
            nothing_between at = let none : place + 1 - behind ≡ 0 = omega (arith, at) in ap (λ (n : ℕ). take n (drop behind body)) none

-- all statements are passed
pub all_found : (body : List Stmt) (place from : ℕ) (found : List Unit) → AreFound body place from found → length body ≤ place → unit_trees found ≡ units (stmt_trees body)
all_found body place from found are ends = sym (append-nil (unit_trees found)) ∙ ap (λ (us : List StmtTrees). unit_trees found ++ us) (sym none) ∙ are.done
  where
    by : ((from ≤ place) × (statements_count (stmt_trees (slice_range body from place)) ≡ 0)) ⊎ ((from ≡ length body) × (statements_count (stmt_trees (drop place body)) ≡ 0)) → statements_count (stmt_trees (drop from body)) ≡ 0
    by (inl (le, zero_so_far)) =
        let inside = length-drop from body in
        ap (λ (xs : List Stmt). statements_count (stmt_trees xs)) (sym (take_all (place - from) (drop from body) (omega (arith, inside, ends)))) ∙ zero_so_far
    by (inr (at_end, zero_behind)) = ap (λ (xs : List Stmt). statements_count (stmt_trees xs)) (drop_all from body (omega (arith, at_end)))

    none : units (stmt_trees (drop from body)) ≡ []
    none = no_unit (drop from body) (by are.stands)

pub none_found : (body : List Stmt) → AreFound body 0 0 []
none_found body = record { inside = omega arith; done = refl; stands = inl (omega arith, refl) }

-- where a unit ends
pub ends_there : (b : Bool) (n place behind : ℕ) → place < n → behind ≡ (if b then n else place + 1) → (place < behind) × (behind ≤ n)
ends_there true n place behind h e = (omega (arith, h, e), omega (arith, e))
ends_there false n place behind h e = (omega (arith, e), omega (arith, h, e))
