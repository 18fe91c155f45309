-- Rows in their order are told by what they are: a list of dependences has one list of folded rows.
use Rattle.std.proofs.Common.{◌≡◌, List, [], ◌∷◌, Option, refl, sym, ap, ◌∙◌, subst, inl, inr}
use Rattle.std.proofs.lemmas.Cmp.{tied_itself}
use Rattle.std.proofs.lemmas.Map.Keys.{sorted_head, sorted_tail}
use Rattle.std.specs.Ordering.{ordering_reverse}
use Rattle.std.specs.declared.cmp.Ordering.TheVariants.{Less, Equal, Greater}
use Rattle.std.specs.List.{AllByRecursion}
use Rattle.std.specs.List.Sorted.{IsStrictlySortedBy}
use Rattle.ped_edges.specs.Edges.{Edge}
use Rattle.ped_rules.specs.ped_laws.specs.Acts.Orders.{IsIn}
use Rattle.ped_inline.specs.Folding.{CallBlock, Row, row_cmp, AreRows}
use Rattle.ped_inline.specs.RowOrders.{row_cmp_total}

at_each : {X : Type 0} (P : X → Type 0) (xs : List X) (x : X) → AllByRecursion P xs → IsIn x xs → P x
at_each P [] x all i = absurd i
at_each P (y ∷ ys) x all (inl e) = subst P (sym e) all.0
at_each P (y ∷ ys) x all (inr i) = at_each P ys x all.1 i

not_itself : (r : Row) → row_cmp r r ≡ Less → ⊥
not_itself r h = let e : Less ≡ Equal = sym h ∙ tied_itself row_cmp_total r in absurd cc

not_both : (r s : Row) → row_cmp r s ≡ Less → row_cmp s r ≡ Less → ⊥
not_both r s h k = let e : Less ≡ Greater = sym h ∙ row_cmp_total.antisymm r s ∙ ap ordering_reverse k in absurd cc

-- the first rows are one
one_first : (x y : Row) (xs ys : List Row) → AllByRecursion (λ r. row_cmp x r ≡ Less) xs → AllByRecursion (λ r. row_cmp y r ≡ Less) ys → IsIn x (y ∷ ys) → IsIn y (x ∷ xs) → x ≡ y
one_first x y xs ys above below (inl e) j = e
one_first x y xs ys above below (inr i) (inl e) = sym e
one_first x y xs ys above below (inr i) (inr j) = absurd (not_both x y (at_each (λ r. row_cmp x r ≡ Less) xs y above j) (at_each (λ r. row_cmp y r ≡ Less) ys x below i))

-- what stands behind the first of one list stands behind the first of the other
behind_first : (x y r : Row) (xs ys : List Row) → x ≡ y → AllByRecursion (λ s. row_cmp x s ≡ Less) xs → IsIn r xs → IsIn r (y ∷ ys) → IsIn r ys
behind_first x y r xs ys same above i (inl e) = absurd (not_itself x (subst (λ (s : Row). row_cmp x s ≡ Less) (e ∙ sym same) (at_each (λ s. row_cmp x s ≡ Less) xs r above i)))
behind_first x y r xs ys same above i (inr j) = j

-- two lists in this order that hold the same rows are one
pub one_list : (xs ys : List Row) → IsStrictlySortedBy row_cmp xs → IsStrictlySortedBy row_cmp ys → ((r : Row) → IsIn r xs → IsIn r ys) → ((r : Row) → IsIn r ys → IsIn r xs) → xs ≡ ys
one_list [] [] p q there back = refl
one_list [] (y ∷ ys) p q there back = absurd (back y (inl refl))
one_list (x ∷ xs) [] p q there back = absurd (there x (inl refl))
one_list (x ∷ xs) (y ∷ ys) p q there back =
    let above = sorted_head row_cmp x xs p in
    let below = sorted_head row_cmp y ys q in
    let first : x ≡ y = one_first x y xs ys above below (there x (inl refl)) (back y (inl refl)) in
    let rest : xs ≡ ys =
    one_list xs ys (sorted_tail row_cmp x xs p) (sorted_tail row_cmp y ys q)
    (λ r i. behind_first x y r xs ys first above i (there r (inr i)))
    (λ r i. behind_first y x r ys xs (sym first) below i (back r (inr i))) in
    λ i. first i ∷ rest i

-- dependences have one list of folded rows
pub one_rows : (bs : List (Option CallBlock)) (edges : List Edge) (xs ys : List Row) → AreRows bs edges xs → AreRows bs edges ys → xs ≡ ys
one_rows bs edges xs ys p q = one_list xs ys p.ordered q.ordered (there xs ys p q) (there ys xs q p)
  where
    there : (xs ys : List Row) → AreRows bs edges xs → AreRows bs edges ys → (r : Row) → IsIn r xs → IsIn r ys
    there xs ys p q r i = let a = p.none_added r i in subst (λ (s : Row). IsIn s ys) (sym a.3) (q.none_lost a.0 a.1 a.2)
