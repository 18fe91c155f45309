-- Two DO loops that the code takes for alike are so.
use Rattle.std.proofs.Common.{◌≡◌, ◌⊎◌, inl, inr, List, Bool, true, false, not, ◌&&◌, ◌||◌, ◌↔◌, ℕ, refl, sym, subst, ◌∙◌}
use Rattle.ped_base.specs.Lists.{is_same_text, is_among}
use Rattle.ped_base.proofs.NameEquality.{same_itself, same_is}
use Rattle.ped_tree.specs.NamesIn.{stmts_names}
use Rattle.ped_tree.specs.Tree.{Head, StmtTrees}
use Rattle.ped_splits.specs.CodeAlike.{is_same_expr, have_same_bounds, is_like}
use Rattle.ped_splits.specs.Neighbours.{AreAlike}
use Rattle.ped_splits.proofs.SameTrees.{both_of, both_so, alike_trees}

either_of : (a b : Bool) → (a || not b) ≡ true → (a ≡ true) ⊎ (b ≡ false)
either_of true b h = inl refl
either_of false true h = absurd cc
either_of false false h = inr refl

left_so : (a b : Bool) → a ≡ true → (a || b) ≡ true
left_so true b h = refl
left_so false b h = absurd cc

right_so : (a b : Bool) → b ≡ false → (a || not b) ≡ true
right_so true b h = refl
right_so false true h = absurd cc
right_so false false h = refl

module _ (h k : Head) (body : StmtTrees) where
  alike : is_like h k body ≡ true → AreAlike h k body
  alike e =
      let p = both_of (have_same_bounds h k) (is_same_text h.variable k.variable || not (is_among h.variable (stmts_names body))) e in
      let first = both_of (is_same_expr h.first k.first) (is_same_expr h.last k.last && is_same_expr h.step k.step) p.0 in
      let last = both_of (is_same_expr h.last k.last) (is_same_expr h.step k.step) first.1 in
      record {
        first = (alike_trees h.first k.first).0 first.0;
        last = (alike_trees h.last k.last).0 last.0;
        step = (alike_trees h.step k.step).0 last.1;
        variable = by (either_of (is_same_text h.variable k.variable) (is_among h.variable (stmts_names body)) p.1);
      }
    where
      by : (is_same_text h.variable k.variable ≡ true) ⊎ (is_among h.variable (stmts_names body) ≡ false) → (h.variable ≡ k.variable) ⊎ (is_among h.variable (stmts_names body) ≡ false)
      by (inl same) = inl (same_is h.variable k.variable same)
      by (inr none) = inr none

  told : AreAlike h k body → is_like h k body ≡ true
  told a =
      both_so (have_same_bounds h k) (is_same_text h.variable k.variable || not (is_among h.variable (stmts_names body)))
      (both_so (is_same_expr h.first k.first) (is_same_expr h.last k.last && is_same_expr h.step k.step) ((alike_trees h.first k.first).1 a.first)
      (both_so (is_same_expr h.last k.last) (is_same_expr h.step k.step) ((alike_trees h.last k.last).1 a.last) ((alike_trees h.step k.step).1 a.step)))
      (by a.variable)
    where
      by : (h.variable ≡ k.variable) ⊎ (is_among h.variable (stmts_names body) ≡ false) → (is_same_text h.variable k.variable || not (is_among h.variable (stmts_names body))) ≡ true
      by (inl same) =
          left_so (is_same_text h.variable k.variable) (not (is_among h.variable (stmts_names body))) (subst (λ (y : List ℕ). is_same_text h.variable y ≡ true) same (same_itself h.variable))
      by (inr none) = right_so (is_same_text h.variable k.variable) (is_among h.variable (stmts_names body)) none

-- the code's test holds exactly where the two are alike
pub alike_loops : (h k : Head) (body : StmtTrees) (b : Bool) → b ≡ is_like h k body → (b ≡ true) ↔ AreAlike h k body
alike_loops h k body b is = (λ e. alike h k body (sym is ∙ e), λ a. is ∙ told h k body a)
