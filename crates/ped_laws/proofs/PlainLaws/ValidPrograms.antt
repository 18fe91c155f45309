-- What a valid program tells of its bounds and of STOP.
use Rattle.std.proofs.Common.{◌≡◌, ℕ, ◌+◌, ◌-◌, ℤ, List, [], ◌∷◌, Bool, true, false, Option, Some, None, is_some, refl, ap, sym, ◌∙◌, if◌then◌else◌}
use Rattle.std.specs.Prelude.{◌&&◌, ◌==◌}
use Rattle.std.specs.List.{list_all}
use Rattle.std.proofs.lemmas.Bool.{and_parts, and_from}
use Rattle.std.proofs.lemmas.List.Folds.{list_all-append}
use Rattle.ped_flow.specs.ped_base.specs.Lists.{is_among}
use Rattle.ped_flow.specs.ped_tree.specs.Tree.{Head, StmtTree, StmtTrees, Assign, If, Do, Print, Read, Stop, Comment, no_stmts, more_stmts, ProgramTree}
use Rattle.ped_flow.specs.ped_tree.specs.Numbering.{statement_count, statements_count, numbered, all_numbered, at_place, statement_with}
use Rattle.ped_flow.specs.ped_tree.specs.Accesses.{constant_names}
use Rattle.ped_flow.specs.ped_tree.specs.Constants.NamedConstants.{value_named}
use Rattle.ped_flow.specs.ped_tree.specs.Grammar.Fits.{Surroundings, moved, in_if, in_loop, expr_fits, loop_fits, stmt_fits, stmts_fit, decls_fit, begins_with_statement, at_body}
use Rattle.ped_graph.specs.ped_symbols.specs.NameRefusals.{IsValid}
use Rattle.ped_graph.specs.ped_symbols.proofs.RightUseLaws.Whole.{constants_valued}
use Rattle.ped_eval.specs.Outcomes.{setting_of}
use Rattle.ped_laws.specs.FlowRuns.Covering.{some_stops_in_loop}
use Rattle.ped_laws.proofs.FlowRunLaws.Stopping.{fitting_stops}
use Rattle.ped_laws.specs.Plain.Executions.{HaveValues}

-- the bounds of a DO fit (plain words)
abbrev bounds_fit : StmtTree → Bool
bounds_fit (Do h body) = expr_fits h.first && expr_fits h.last
bounds_fit (Assign left right) = true
bounds_fit (If condition then_part else_part) = true
bounds_fit (Print items) = true
bounds_fit (Read items) = true
bounds_fit Stop = true
bounds_fit (Comment text) = true

head_bounds : (p : Surroundings) (h : Head) (body : StmtTrees) → loop_fits p h body ≡ true → (expr_fits h.first && expr_fits h.last) ≡ true
head_bounds p h body f =
    let steps = (and_parts _ _ (and_parts _ _ (and_parts _ _ (and_parts _ _ (and_parts _ _ (and_parts _ _ f).0).0).0).0).0).0 in
    let last = and_parts _ (expr_fits h.step) steps in
    let first = and_parts _ (expr_fits h.last) last.0 in
    and_from (expr_fits h.first) (expr_fits h.last) (and_parts _ (expr_fits h.first) first.0).1 first.1

mutual
  own_bounds : (p : Surroundings) (s : StmtTree) → stmt_fits p s ≡ true → list_all bounds_fit (numbered s) ≡ true
  own_bounds p (Assign left right) f = refl
  own_bounds p (If c a b) f =
      let second = and_parts _ (stmts_fit (in_if p (1 + statements_count a)) b) f in
      let first = and_parts _ (stmts_fit (in_if p 1) a) second.0 in
      list_all-append bounds_fit (all_numbered a) (all_numbered b) ∙ and_from _ _ (all_bounds (in_if p 1) a first.1) (all_bounds (in_if p (1 + statements_count a)) b second.1)
  own_bounds p (Do h body) f =
      let parts = and_parts (loop_fits p h body) (stmts_fit (in_loop p h) body) f in
      and_from (expr_fits h.first && expr_fits h.last) _ (head_bounds p h body parts.0) (all_bounds (in_loop p h) body parts.1)
  own_bounds p (Print items) f = refl
  own_bounds p (Read items) f = refl
  own_bounds p Stop f = refl
  own_bounds p (Comment text) f = refl

  all_bounds : (p : Surroundings) (ss : StmtTrees) → stmts_fit p ss ≡ true → list_all bounds_fit (all_numbered ss) ≡ true
  all_bounds p no_stmts f = refl
  all_bounds p (more_stmts s rest) f =
      let parts = and_parts (stmt_fits p s) (stmts_fit (moved p (statement_count s)) rest) f in
      list_all-append bounds_fit (numbered s) (all_numbered rest) ∙ and_from _ _ (own_bounds p s parts.0) (all_bounds (moved p (statement_count s)) rest parts.1)

bounds_at : (ss : List StmtTree) (n : ℕ) (s : StmtTree) → list_all bounds_fit ss ≡ true → at_place ss n ≡ Some s → bounds_fit s ≡ true
bounds_at [] n s a h = absurd cc
bounds_at (x ∷ xs) n s a h = go (n == 0) h (and_parts (bounds_fit x) (list_all bounds_fit xs) a) (bounds_at xs (n - 1) s)
  where
    go : (r : Bool) → (if r then Some x else at_place xs (n - 1)) ≡ Some s → (bounds_fit x ≡ true) × (list_all bounds_fit xs ≡ true)
        → (list_all bounds_fit xs ≡ true → at_place xs (n - 1) ≡ Some s → bounds_fit s ≡ true) → bounds_fit s ≡ true
    go true e p f = ap (λ (o : Option StmtTree). bounds_of o) (sym e) ∙ p.0
      where
        bounds_of : Option StmtTree → Bool
        bounds_of None = true
        bounds_of (Some y) = bounds_fit y
    go false e p f = f p.1 e

-- the statements of a valid program fit
body_fits : (t : ProgramTree) → IsValid t → stmts_fit (at_body t) t.body ≡ true
body_fits t v = (and_parts (decls_fit 0 t.decls) (stmts_fit (at_body t) t.body) (and_parts _ (begins_with_statement t.body) v.fits).0).1

-- in a valid program the bounds of each DO fit
pub loop_bounds_fit : (t : ProgramTree) (l : ℕ) (h : Head) (body : StmtTrees) → IsValid t → statement_with l t ≡ Some (Do h body) → (expr_fits h.first ≡ true) × (expr_fits h.last ≡ true)
loop_bounds_fit t l h body v is = go (l == 0) is
  where
    go : (r : Bool) → (if r then None else at_place (all_numbered t.body) (l - 1)) ≡ Some (Do h body) → (expr_fits h.first ≡ true) × (expr_fits h.last ≡ true)
    go true e = absurd cc
    go false e = and_parts (expr_fits h.first) (expr_fits h.last) (bounds_at (all_numbered t.body) (l - 1) (Do h body) (all_bounds (at_body t) t.body (body_fits t v)) e)

not_none : (o : Option ℤ) (P : Type 0) → is_some o ≡ true → o ≡ None → P
not_none None P h e = absurd cc
not_none (Some n) P h e = absurd cc

-- in a valid program no STOP stands in a loop
pub no_stop_in_loops : (t : ProgramTree) → IsValid t → some_stops_in_loop t.body ≡ false
no_stop_in_loops t v = fitting_stops t v.fits

-- and each named constant has a value
pub have_values : (t : ProgramTree) → IsValid t → HaveValues (setting_of t).constants t
have_values t v x none = go (is_among x (constant_names t.decls)) refl
  where
    go : (r : Bool) → is_among x (constant_names t.decls) ≡ r → r ≡ false
    go true e = let has : is_some (value_named (setting_of t).constants x) ≡ true = constants_valued t x v e in not_none (value_named (setting_of t).constants x) (true ≡ false) has none
    go false e = refl
