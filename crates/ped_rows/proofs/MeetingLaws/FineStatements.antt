-- Each statement of a valid program fits, its names stand where they may, and its increments are right.
use Rattle.std.proofs.Common.{◌≡◌, ℕ, ◌+◌, ◌-◌, ℤ, List, [], ◌∷◌, Bool, true, false, Some, None, sym, subst, inl, inr, if◌then◌else◌}
use Rattle.std.specs.Prelude.{◌==◌}
use Rattle.std.proofs.lemmas.Bool.{and_parts}
use Rattle.ped_laws.specs.ped_flow.specs.ped_tree.specs.Tree.{Head, StmtTree, StmtTrees, Assign, If, Do, Print, Read, Stop, Comment, no_stmts, more_stmts, ProgramTree}
use Rattle.ped_laws.specs.ped_flow.specs.ped_tree.specs.Numbering.{statement_count, statements_count, numbered, all_numbered, at_place, statement_with}
use Rattle.ped_laws.specs.ped_flow.specs.ped_tree.specs.Grammar.Fits.{Surroundings, moved, in_if, in_loop, loop_fits, stmt_fits, stmts_fit, decls_fit, begins_with_statement, at_body}
use Rattle.ped_laws.specs.ped_graph.specs.ped_symbols.specs.Kinds.{kind_in, at_last}
use Rattle.ped_laws.specs.ped_graph.specs.ped_symbols.specs.NameRefusals.{IsValid}
use Rattle.ped_laws.specs.ped_graph.specs.ped_symbols.specs.RightUses.RightUses.{cond_is_right, head_is_right, stmt_is_right, stmts_are_right}
use Rattle.ped_laws.specs.ped_graph.specs.ped_symbols.specs.RightUses.RightLoops.{step_is_right, stmt_steps_are_right, steps_are_right}
use Rattle.ped_laws.specs.ped_graph.specs.ped_symbols.proofs.RightUseLaws.Whole.{right_program}
use Rattle.ped_laws.specs.Acts.Orders.{IsIn}
use Rattle.ped_laws.proofs.ActLaws.Lists.{in_parts}

module _ (t : ProgramTree) where
  abbrev values : List (List ℕ × ℤ)
  values = (at_last t).values

  -- a statement fits where it stands, its names stand where they may, and its increments are right
  pub record IsFine (s : StmtTree) : Type 0 where
    pub around : Surroundings
    pub fits : stmt_fits around s ≡ true
    pub uses : stmt_is_right (kind_in t) s ≡ true
    pub steps : stmt_steps_are_right values s ≡ true

  itself : (around : Surroundings) (s x : StmtTree) → stmt_fits around s ≡ true → stmt_is_right (kind_in t) s ≡ true → stmt_steps_are_right values s ≡ true → x ≡ s → IsFine x
  itself around s x f u p e = subst IsFine (sym e) (record { around = around; fits = f; uses = u; steps = p })

  one_fine : (around : Surroundings) (s x : StmtTree) → stmt_fits around s ≡ true → stmt_is_right (kind_in t) s ≡ true → stmt_steps_are_right values s ≡ true → IsIn x (s ∷ []) → IsFine x
  one_fine around s x f u p (inl e) = itself around s x f u p e
  one_fine around s x f u p (inr i) = absurd i

  mutual
    each_fine : (around : Surroundings) (s x : StmtTree) → stmt_fits around s ≡ true → stmt_is_right (kind_in t) s ≡ true → stmt_steps_are_right values s ≡ true → IsIn x (numbered s) → IsFine x
    each_fine around (Assign left right) x f u p i = one_fine around (Assign left right) x f u p i
    each_fine around (If condition a b) x f u p (inl e) = itself around (If condition a b) x f u p e
    each_fine around (If condition a b) x f u p (inr i) =
        let fits = and_parts _ (stmts_fit (in_if around (1 + statements_count a)) b) f in
        let front = and_parts _ (stmts_fit (in_if around 1) a) fits.0 in
        let right = and_parts _ (stmts_are_right (kind_in t) b) u in
        let steps = and_parts (steps_are_right values a) (steps_are_right values b) p in
        elim (in_parts x (all_numbered a) (all_numbered b) i) [
          | inl j ↦ all_fine (in_if around 1) a x front.1 (and_parts (cond_is_right (kind_in t) condition) (stmts_are_right (kind_in t) a) right.0).1 steps.0 j
          | inr j ↦ all_fine (in_if around (1 + statements_count a)) b x fits.1 right.1 steps.1 j
        ]
    each_fine around (Do h body) x f u p (inl e) = itself around (Do h body) x f u p e
    each_fine around (Do h body) x f u p (inr i) =
        all_fine (in_loop around h) body x (and_parts (loop_fits around h body) (stmts_fit (in_loop around h) body) f).1 (and_parts (head_is_right (kind_in t) h) (stmts_are_right (kind_in t) body) u).1
        (and_parts (step_is_right values h.step) (steps_are_right values body) p).1 i
    each_fine around (Print items) x f u p i = one_fine around (Print items) x f u p i
    each_fine around (Read items) x f u p i = one_fine around (Read items) x f u p i
    each_fine around Stop x f u p i = one_fine around Stop x f u p i
    each_fine around (Comment text) x f u p i = absurd i

    all_fine : (around : Surroundings) (ss : StmtTrees) (x : StmtTree) → stmts_fit around ss ≡ true → stmts_are_right (kind_in t) ss ≡ true → steps_are_right values ss ≡ true → IsIn x (all_numbered ss) → IsFine x
    all_fine around no_stmts x f u p i = absurd i
    all_fine around (more_stmts s rest) x f u p i =
        let fits = and_parts (stmt_fits around s) (stmts_fit (moved around (statement_count s)) rest) f in
        let right = and_parts (stmt_is_right (kind_in t) s) (stmts_are_right (kind_in t) rest) u in
        let steps = and_parts (stmt_steps_are_right values s) (steps_are_right values rest) p in
        elim (in_parts x (numbered s) (all_numbered rest) i) [
          | inl j ↦ each_fine around s x fits.0 right.0 steps.0 j
          | inr j ↦ all_fine (moved around (statement_count s)) rest x fits.1 right.1 steps.1 j
        ]

some_statement : (s x : StmtTree) → Some s ≡ Some x → x ≡ s
some_statement s x e = cc

at_place_in : (ss : List StmtTree) (n : ℕ) (x : StmtTree) → at_place ss n ≡ Some x → IsIn x ss
at_place_in [] n x e = absurd cc
at_place_in (s ∷ ss) n x e = go (n == 0) e (at_place_in ss (n - 1) x)
  where
    go : (b : Bool) → (if b then Some s else at_place ss (n - 1)) ≡ Some x → (at_place ss (n - 1) ≡ Some x → IsIn x ss) → IsIn x (s ∷ ss)
    go true e more = inl (some_statement s x e)
    go false e more = inr (more e)

with_number_in : (t : ProgramTree) (n : ℕ) (x : StmtTree) → statement_with n t ≡ Some x → IsIn x (all_numbered t.body)
with_number_in t n x e = go (n == 0) e
  where
    go : (b : Bool) → (if b then None else at_place (all_numbered t.body) (n - 1)) ≡ Some x → IsIn x (all_numbered t.body)
    go true e = absurd cc
    go false e = at_place_in (all_numbered t.body) (n - 1) x e

-- each statement of a valid program fits and is right
pub fine_statement : (t : ProgramTree) (n : ℕ) (x : StmtTree) → IsValid t → statement_with n t ≡ Some x → IsFine t x
fine_statement t n x valid e =
    let right = right_program t valid in
    let fits = and_parts (decls_fit 0 t.decls) (stmts_fit (at_body t) t.body) (and_parts _ (begins_with_statement t.body) valid.fits).0 in
    all_fine t (at_body t) t.body x fits.1 right.statements right.steps (with_number_in t n x e)

-- so is the increment of each of its DO loops
pub step_right : (t : ProgramTree) (n : ℕ) (h : Head) (body : StmtTrees) → IsValid t → statement_with n t ≡ Some (Do h body) → step_is_right (at_last t).values h.step ≡ true
step_right t n h body valid e = (and_parts (step_is_right (at_last t).values h.step) (steps_are_right (at_last t).values body) (fine_statement t n (Do h body) valid e).steps).0
