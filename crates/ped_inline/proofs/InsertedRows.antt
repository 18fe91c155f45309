-- Rows with one more, which comes to its place in their order where it isn't there.
use Rattle.std.proofs.Common.{◌≡◌, List, [], ◌∷◌, ◌++◌, map, true, false, refl, sym, ap, ◌∙◌, subst, ◌⊎◌, inl, inr, Option}
use Rattle.std.proofs.lemmas.Bool.{both_ways}
use Rattle.std.specs.Ordering.{match_ordering}
use Rattle.std.specs.declared.cmp.Ordering.{Ordering}
use Rattle.std.specs.declared.cmp.Ordering.TheVariants.{Less, Equal, Greater}
use Rattle.std.specs.BTreeSet.{insert_key}
use Rattle.std.specs.List.{AllByRecursion}
use Rattle.std.specs.List.Sorted.{IsStrictlySortedBy}
use Rattle.ped_edges.specs.Edges.{Edge}
use Rattle.ped_rules.specs.ped_laws.specs.Acts.Orders.{IsIn}
use Rattle.ped_rules.specs.ped_laws.proofs.ActLaws.Lists.{in_left, in_right, in_parts}
use Rattle.ped_inline.specs.Folding.{CallBlock, is_folded, Row, row_of, row_cmp, AreRows}
use Rattle.ped_inline.proofs.EqualRows.{row_equal}

-- what keys stand for, with one more
pub seen_inserted : {K X : Type 0} (f : K → X) (cmp : X → X → Ordering) (k : K) (ks : List K) → map f (insert_key (λ a b. cmp (f a) (f b)) ks k) ≡ insert_key cmp (map f ks) (f k)
seen_inserted f cmp k [] = refl
seen_inserted f cmp k (x ∷ xs) = go (cmp (f k) (f x)) (seen_inserted f cmp k xs)
  where
    go : (o : Ordering) → map f (insert_key (λ a b. cmp (f a) (f b)) xs k) ≡ insert_key cmp (map f xs) (f k)
        → map f (match_ordering o (k ∷ x ∷ xs) (x ∷ xs) (x ∷ insert_key (λ a b. cmp (f a) (f b)) xs k)) ≡ match_ordering o (f k ∷ f x ∷ map f xs) (f x ∷ map f xs) (f x ∷ insert_key cmp (map f xs) (f k))
    go Less e = refl
    go Equal e = refl
    go Greater e = ap (λ ys. f x ∷ ys) e

all_seen : {K X : Type 0} (f : K → X) (P : X → Type 0) (ks : List K) → AllByRecursion (λ k. P (f k)) ks → AllByRecursion P (map f ks)
all_seen f P [] h = h
all_seen f P (k ∷ ks) h = (h.0, all_seen f P ks h.1)

-- what keys stand for, in the same order
pub seen_sorted : {K X : Type 0} (f : K → X) (cmp : X → X → Ordering) (ks : List K) → IsStrictlySortedBy (λ a b. cmp (f a) (f b)) ks → IsStrictlySortedBy cmp (map f ks)
unfolding IsStrictlySortedBy
seen_sorted f cmp [] h = h
seen_sorted f cmp (k ∷ ks) h = (all_seen f (λ y. cmp (f k) y ≡ Less) ks h.0, seen_sorted f cmp ks h.1)

pub none_sorted : IsStrictlySortedBy row_cmp []
unfolding IsStrictlySortedBy
none_sorted = tt

in_new : (k : Row) (ks : List Row) → IsIn k (insert_key row_cmp ks k)
in_new k [] = inl refl
in_new k (x ∷ xs) = go (row_cmp k x) refl (in_new k xs)
  where
    go : (o : Ordering) → row_cmp k x ≡ o → IsIn k (insert_key row_cmp xs k) → IsIn k (match_ordering o (k ∷ x ∷ xs) (x ∷ xs) (x ∷ insert_key row_cmp xs k))
    go Less e more = inl refl
    go Equal e more = inl (row_equal k x e)
    go Greater e more = inr more

in_kept : (r k : Row) (ks : List Row) → IsIn r ks → IsIn r (insert_key row_cmp ks k)
in_kept r k [] i = absurd i
in_kept r k (x ∷ xs) i = go (row_cmp k x) i (in_kept r k xs)
  where
    go : (o : Ordering) → IsIn r (x ∷ xs) → (IsIn r xs → IsIn r (insert_key row_cmp xs k)) → IsIn r (match_ordering o (k ∷ x ∷ xs) (x ∷ xs) (x ∷ insert_key row_cmp xs k))
    go Less j more = inr j
    go Equal j more = j
    go Greater (inl e) more = inl e
    go Greater (inr j) more = inr (more j)

in_both : (r k : Row) (ks : List Row) → IsIn r (insert_key row_cmp ks k) → (r ≡ k) ⊎ IsIn r ks
in_both r k [] i = i
in_both r k (x ∷ xs) i = go (row_cmp k x) i (in_both r k xs)
  where
    go : (o : Ordering) → IsIn r (match_ordering o (k ∷ x ∷ xs) (x ∷ xs) (x ∷ insert_key row_cmp xs k)) → (IsIn r (insert_key row_cmp xs k) → (r ≡ k) ⊎ IsIn r xs) → (r ≡ k) ⊎ IsIn r (x ∷ xs)
    go Less j more = j
    go Equal j more = inr j
    go Greater (inl e) more = inr (inl e)
    go Greater (inr j) more = elim (more j) [ inl e ↦ inl e | inr l ↦ inr (inr l) ]

module _ (bs : List (Option CallBlock)) (e : Edge) (done : List Edge) where
  first_ones : (x : Edge) → IsIn x done → IsIn x (done ++ e ∷ [])
  first_ones x i = in_left x done (e ∷ []) i

  last_one : (x : Edge) → IsIn x (done ++ e ∷ []) → IsIn x done ⊎ (x ≡ e)
  last_one x i = elim (in_parts x done (e ∷ []) i) [
    | inl j ↦ inl j
    | inr j ↦ elim j [ inl same ↦ inr same | inr none ↦ absurd none ]
  ]

  -- the rows with that of one more dependence, which is folded
  pub one_added : (rows : List Row) → is_folded bs e ≡ true → AreRows bs done rows → IsStrictlySortedBy row_cmp (insert_key row_cmp rows (row_of bs e)) → AreRows bs (done ++ e ∷ []) (insert_key row_cmp rows (row_of bs e))
  one_added rows folded are ordered = record {
    ordered = ordered;
    none_lost = λ x i f. elim (last_one x i) [
      | inl j ↦ in_kept (row_of bs x) (row_of bs e) rows (are.none_lost x j f)
      | inr same ↦ subst (λ (z : Edge). IsIn (row_of bs z) (insert_key row_cmp rows (row_of bs e))) (sym same) (in_new (row_of bs e) rows)
    ];
    none_added = λ r i. elim (in_both r (row_of bs e) rows i) [
      | inl same ↦ (e, in_right e done (e ∷ []) (inl refl), folded, same)
      | inr j ↦ (let a = are.none_added r j in (a.0, first_ones a.0 a.1, a.2, a.3))
    ];
  }

  -- the rows behind one more dependence, which isn't folded
  pub one_passed : (rows : List Row) → is_folded bs e ≡ false → AreRows bs done rows → AreRows bs (done ++ e ∷ []) rows
  one_passed rows other are = record {
    ordered = are.ordered;
    none_lost = λ x i f. elim (last_one x i) [
      | inl j ↦ are.none_lost x j f
      | inr same ↦ absurd (both_ways (is_folded bs e) other (ap (is_folded bs) (sym same) ∙ f))
    ];
    none_added = λ r i. (let a = are.none_added r i in (a.0, first_ones a.0 a.1, a.2, a.3));
  }

-- no dependences have no rows
pub no_rows : (bs : List (Option CallBlock)) → AreRows bs [] []
no_rows bs = record { ordered = none_sorted; none_lost = λ e i f. absurd i; none_added = λ r i. absurd i }
