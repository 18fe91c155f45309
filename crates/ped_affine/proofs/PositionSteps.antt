-- The positions of a pair, one by one.
use Rattle.std.proofs.Common.{◌≡◌, ℕ, ◌+◌, ◌<◌, ◌≤◌, ◌⊎◌, inl, inr, min, List, [], ◌∷◌, ◌++◌, length, map, drop, get_or, refl, sym, ap, ◌∙◌, append_assoc, append-nil, arith}
use Rattle.std.proofs.lemmas.Bool.Decides.{leb_tells}
use Rattle.std.proofs.lemmas.List.{drop_more, drop_all}
use Rattle.ped_views.specs.Views.{SubscriptPair}
use Rattle.ped_tree.specs.declared.expressions.Expr.{Expr}
use Rattle.ped_tree.specs.Tree.{ExprTree}
use Rattle.ped_tree.specs.Views.{expr_tree}
use Rattle.ped_affine.specs.Ranges.{Setting}
use Rattle.ped_affine.specs.PairViews.{Site, position_of, positions_of}

module _ (s : Setting) (source sink : Site) where
  -- the positions of what is left of both
  abbrev pub rest_of : List Expr → List Expr → List SubscriptPair
  rest_of ls rs = positions_of s source sink (map expr_tree ls) (map expr_tree rs)

  no_right : (es : List ExprTree) → positions_of s source sink es [] ≡ []
  no_right [] = refl
  no_right (e ∷ es) = refl

  -- where one side has no more subscripts there are no more positions
  pub none_left : (ls rs : List Expr) (i : ℕ) (found all : List SubscriptPair) → (length ls ≤ i) ⊎ (length rs ≤ i) → found ++ rest_of (drop i ls) (drop i rs) ≡ all → found ≡ all
  none_left ls rs i found all (inl h) e =
      sym (append-nil found) ∙ ap (λ (xs : List Expr). found ++ rest_of xs (drop i rs)) (sym (drop_all i ls h)) ∙ e
  none_left ls rs i found all (inr h) e =
      sym (append-nil found) ∙ ap (λ (ps : List SubscriptPair). found ++ ps) (sym (no_right (map expr_tree (drop i ls))))
      ∙ ap (λ (xs : List Expr). found ++ rest_of (drop i ls) xs) (sym (drop_all i rs h)) ∙ e

  -- one more position
  pub one_more : (ls rs : List Expr) (i : ℕ) (found new all : List SubscriptPair) (l r : Expr) (p : SubscriptPair) → i < length ls → i < length rs →
      l ≡ get_or ls i l → r ≡ get_or rs i r → p ≡ position_of s source sink (expr_tree l) (expr_tree r) → new ≡ found ++ p ∷ [] →
      found ++ rest_of (drop i ls) (drop i rs) ≡ all → new ++ rest_of (drop (i + 1) ls) (drop (i + 1) rs) ≡ all
  one_more ls rs i found new all l r p a b at_l at_r is grown e =
      let left : l ∷ drop (i + 1) ls ≡ drop i ls = ap (λ (x : Expr). x ∷ drop (i + 1) ls) at_l ∙ sym (drop_more ls i l a) in
      let right : r ∷ drop (i + 1) rs ≡ drop i rs = ap (λ (x : Expr). x ∷ drop (i + 1) rs) at_r ∙ sym (drop_more rs i r b) in
      ap (λ (ps : List SubscriptPair). ps ++ rest_of (drop (i + 1) ls) (drop (i + 1) rs)) grown
      ∙ append_assoc found (p ∷ []) (rest_of (drop (i + 1) ls) (drop (i + 1) rs))
      ∙ ap (λ (q : SubscriptPair). found ++ q ∷ rest_of (drop (i + 1) ls) (drop (i + 1) rs)) is
      ∙ (λ j. found ++ rest_of (left j) (right j)) ∙ e

pub at_end : (m n i : ℕ) → min m n ≤ i → (m ≤ i) ⊎ (n ≤ i)
at_end m n i h = elim (leb_tells m i) [ inl p ↦ inl p.1 | inr p ↦ inr (omega (arith, p.1)) ]
