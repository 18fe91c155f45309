-- Rows that are added one after another.
use Rattle.std.proofs.Common.{◌≡◌, ℕ, zero, suc, ◌≤◌, min, refl, sym, ap, ◌∙◌, arith, List, [], ◌∷◌, ◌++◌, length, drop, append-nil, append_assoc, map}
use Rattle.ped_certificates.specs.declared.systems.Row.{Row}
use Rattle.ped_tree.specs.Tree.{ExprTree}
use Rattle.ped_tree.specs.Views.{expr_tree}
use Rattle.ped_tree.specs.declared.expressions.Expr.{Expr}
use Rattle.ped_affine.specs.PairViews.{Site}
use Rattle.ped_certificates.specs.declared.claims.Sign.{Sign}
use Rattle.ped_evidence.specs.declared.levels.Level.{Level as CodeLevel}
use Rattle.ped_evidence.specs.Kept.{levels_kept}
use Rattle.ped_evidence.specs.Levels.{Level}
use Rattle.ped_evidence.specs.Layouts.{Columns, Layout}
use Rattle.ped_evidence.specs.Systems.{sign_rows, position_rows}

pub two_more : (old one two : List Row) (a b r q : Row) → one ≡ old ++ a ∷ [] → two ≡ one ++ b ∷ [] → a ≡ r → b ≡ q → two ≡ old ++ (r ∷ q ∷ [])
two_more old one two a b r q e h i j = h ∙ ((λ k. e k ++ b ∷ []) ∙ (append_assoc old (a ∷ []) (b ∷ []) ∙ (λ k. old ++ (i k ∷ j k ∷ []))))

-- no signs are left
no_signs : (c : Columns) (vs : List Level) → sign_rows c vs [] ≡ []
no_signs c [] = refl
no_signs c (v ∷ vs) = refl

signs_end : (c : Columns) (vs : List CodeLevel) (ss : List Sign) (i : ℕ) → min (length vs) (length ss) ≤ i → sign_rows c (levels_kept (drop i vs)) (drop i ss) ≡ []
signs_end c [] ss zero h = refl
signs_end c [] ss (suc i) h = refl
signs_end c (v ∷ vs) [] zero h = refl
signs_end c (v ∷ vs) [] (suc i) h = no_signs c (levels_kept (drop i vs))
signs_end c (v ∷ vs) (s ∷ ss) zero h = absurd (omega arith)
signs_end c (v ∷ vs) (s ∷ ss) (suc i) h = signs_end c vs ss i (omega arith)

pub signs_done : (c : Columns) (vs : List CodeLevel) (ss : List Sign) (i : ℕ) (rows all : List Row) → min (length vs) (length ss) ≤ i → rows ++ sign_rows c (levels_kept (drop i vs)) (drop i ss) ≡ all → rows ≡ all
signs_done c vs ss i rows all h e = sym (ap (λ (xs : List Row). rows ++ xs) (signs_end c vs ss i h) ∙ append-nil rows) ∙ e

no_positions : (y : Layout) (a b : Site) (es : List ExprTree) → position_rows y a b es [] ≡ []
no_positions y a b [] = refl
no_positions y a b (e ∷ es) = refl

positions_end : (y : Layout) (a b : Site) (es gs : List Expr) (i : ℕ) → min (length es) (length gs) ≤ i → position_rows y a b (map expr_tree (drop i es)) (map expr_tree (drop i gs)) ≡ []
positions_end y a b [] gs zero h = refl
positions_end y a b [] gs (suc i) h = refl
positions_end y a b (e ∷ es) [] zero h = refl
positions_end y a b (e ∷ es) [] (suc i) h = no_positions y a b (map expr_tree (drop i es))
positions_end y a b (e ∷ es) (g ∷ gs) zero h = absurd (omega arith)
positions_end y a b (e ∷ es) (g ∷ gs) (suc i) h = positions_end y a b es gs i (omega arith)

pub positions_done : (y : Layout) (a b : Site) (es gs : List Expr) (i : ℕ) (rows all : List Row) → min (length es) (length gs) ≤ i → rows ++ position_rows y a b (map expr_tree (drop i es)) (map expr_tree (drop i gs)) ≡ all → rows ≡ all
positions_done y a b es gs i rows all h e = sym (ap (λ (xs : List Row). rows ++ xs) (positions_end y a b es gs i h) ∙ append-nil rows) ∙ e
