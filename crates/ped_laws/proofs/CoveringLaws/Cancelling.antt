-- What the variables that belong to no loop add to both subscripts cancels.
use Rattle.std.proofs.Common.{◌≡◌, ℕ, zero, suc, List, [], ◌∷◌, take, drop, Bool, true, false, refl, arith, ℤ, pos, ◌+ℤ◌, int_eq, Option, Some, None, Ok, if◌then◌else◌}
use Rattle.std.specs.Cmp.Lexicographic.{pointwise}
use Rattle.std.proofs.lemmas.Bool.{and_parts}
use Rattle.std.proofs.lemmas.Bool.Decides.{Decides-int_eq}
use Rattle.ped_graph.specs.ped_views.specs.Excluded.{dot, difference}
use Rattle.ped_graph.specs.ped_views.proofs.Products.{linear}
use Rattle.ped_flow.specs.ped_tree.specs.Tree.{ExprTree}
use Rattle.ped_eval.specs.ped_store.specs.Stores.{Store}
use Rattle.ped_eval.specs.Scopes.{Names}
use Rattle.ped_eval.specs.Values.{value}
use Rattle.ped_flow.specs.ped_affine.specs.Ranges.{Setting}
use Rattle.ped_flow.specs.ped_affine.specs.AffineForms.{AffineForm, affine_of}
use Rattle.ped_flow.specs.ped_affine.specs.PairViews.{Site, Depths, depths_of, terms_of, other_variables, other_coefficients, unusable, usable_pair, subscript_pair, position_of}
use Rattle.ped_laws.specs.Covering.Weights.{HaveValues}
use Rattle.ped_laws.specs.Covering.Together.{IsSolvedBy, indices_among, side_values, AgreeOnOthers}
use Rattle.ped_laws.proofs.CoveringLaws.FormValues.{value_tells}

-- a sum of products in two parts
dot_parts : (k : ℕ) (cs vs : List ℤ) → dot cs vs ≡ dot (take k cs) (take k vs) +ℤ dot (drop k cs) (drop k vs)
dot_parts zero cs vs = omega (arith, linear)
dot_parts (suc k) [] vs = refl
dot_parts (suc k) (c ∷ cs) [] = none (drop k cs)
  where
    none : (ds : List ℤ) → pos 0 ≡ pos 0 +ℤ dot ds []
    none [] = refl
    none (d ∷ ds) = refl
dot_parts (suc k) (c ∷ cs) (v ∷ vs) = let h = dot_parts k cs vs in omega (arith, linear)

same_numbers : (xs ys : List ℤ) → pointwise int_eq xs ys ≡ true → xs ≡ ys
same_numbers [] [] h = refl
same_numbers [] (y ∷ ys) h = absurd cc
same_numbers (x ∷ xs) [] h = absurd cc
same_numbers (x ∷ xs) (y ∷ ys) h =
    let p = and_parts (int_eq x y) (pointwise int_eq xs ys) h in
    let e = (Decides-int_eq x y).0 p.0 in
    let r = same_numbers xs ys p.1 in
    λ i. e i ∷ r i

module _ (n : Depths) (from to : List ℤ) (agree : AgreeOnOthers n from to) where
  usable_solved : (a b : AffineForm) (m : ℤ) → other_coefficients n.common n.source a ≡ other_coefficients n.common n.sink b → m ≡ dot a.coefficients from +ℤ a.constant → m ≡ dot b.coefficients to +ℤ b.constant → difference (usable_pair n a b) (indices_among n from to) ≡ pos 0
  usable_solved a b m same x y =
      let a1 = dot_parts n.common a.coefficients from in
      let a2 = dot_parts n.source (drop n.common a.coefficients) (drop n.common from) in
      let b1 = dot_parts n.common b.coefficients to in
      let b2 = dot_parts n.sink (drop n.common b.coefficients) (drop n.common to) in
      let c : dot (drop n.source (drop n.common a.coefficients)) (drop n.source (drop n.common from)) ≡ dot (drop n.sink (drop n.common b.coefficients)) (drop n.sink (drop n.common to)) = λ i. dot (same i) (agree i) in
      omega (arith, linear)

  pub pair_solved : (oa ob : Option AffineForm) (m : ℤ) → ((a : AffineForm) → oa ≡ Some a → m ≡ dot a.coefficients from +ℤ a.constant) → ((b : AffineForm) → ob ≡ Some b → m ≡ dot b.coefficients to +ℤ b.constant) → IsSolvedBy (indices_among n from to) (subscript_pair n oa ob)
  pair_solved None ob m x y = λ h. absurd cc
  pair_solved (Some a) None m x y = λ h. absurd cc
  pair_solved (Some a) (Some b) m x y = go (pointwise int_eq (other_coefficients n.common n.source a) (other_coefficients n.common n.sink b)) refl
    where
      go : (t : Bool) → pointwise int_eq (other_coefficients n.common n.source a) (other_coefficients n.common n.sink b) ≡ t → IsSolvedBy (indices_among n from to) (if t then usable_pair n a b else unusable n)
      go true e = λ h. usable_solved a b m (same_numbers (other_coefficients n.common n.source a) (other_coefficients n.common n.sink b) e) (x a refl) (y b refl)
      go false e = λ h. absurd cc

pub position_solved : (s : Setting) (source sink : Site) (e g : ExprTree) (from to : List ℕ → ℤ) (at_source at_sink : Names) (before behind : Store) (n : ℤ)
    → let others = other_variables s source sink e g in HaveValues (terms_of s source.nest others) from at_source before → HaveValues (terms_of s sink.nest others) to at_sink behind → AgreeOnOthers (depths_of source sink) (side_values from source others) (side_values to sink others) → (value at_source e before).result ≡ Ok n → (value at_sink g behind).result ≡ Ok n → IsSolvedBy (indices_among (depths_of source sink) (side_values from source others) (side_values to sink others)) (position_of s source sink e g)
position_solved s source sink e g from to at_source at_sink before behind n x y agree v w =
    let others : List (List ℕ) = other_variables s source sink e g in
    pair_solved (depths_of source sink) (side_values from source others) (side_values to sink others) agree (affine_of (terms_of s source.nest others) e) (affine_of (terms_of s sink.nest others) g) n
    (λ a h. (value_tells (terms_of s source.nest others) from at_source before x e n a v h).1)
    (λ b h. (value_tells (terms_of s sink.nest others) to at_sink behind y g n b w h).1)
