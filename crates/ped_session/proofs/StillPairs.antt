-- Where a graph holds the same after a change that keeps all statements, nothing is tested.
use Rattle.std.proofs.Common.{◌≡◌, ℕ, zero, suc, ◌+◌, ◌<◌, ◌≤◌, List, [], ◌∷◌, ◌++◌, map, filter, cond, Bool, true, false, not, ◌&&◌, ◌||◌, ◌==◌, eqb, refl, sym, ap, ◌∙◌, arith, eqb-true, append_assoc}
use Rattle.std.specs.List.{list_all, list_any, flat_map, range_with_len, AllByRecursion}
use Rattle.std.proofs.lemmas.List.Folds.{sum_by-zero}
use Rattle.ped_tree.specs.Tree.{ProgramTree}
use Rattle.ped_tree.specs.Numbering.{statements_count}
use Rattle.ped_refs.specs.References.{Reference, references, is_pair, pairs}
use Rattle.ped_refs.proofs.Ascending.{references_within}
use Rattle.ped_transformations.specs.ped_rules.specs.ped_views.specs.Views.{View}
use Rattle.ped_transformations.specs.ped_rules.specs.ped_views.specs.SameViews.{same_view}
use Rattle.ped_transformations.specs.ped_rules.specs.ped_views.proofs.SameViews.{same_view_decides}
use Rattle.ped_transformations.specs.ped_graph.specs.Dependences.{facts_of, view_of}
use Rattle.ped_transformations.specs.ped_graph.specs.Held.{Pair, Held, framed, pairs_by, held_of, held_pairs}
use Rattle.ped_versions.specs.ped_update.specs.Fresh.{keeps, keeps_place, comes_from, is_fresh, fresh_pairs, tested_pairs}
use Rattle.ped_transformations.specs.ped_steps.specs.Replacing.{all_kept}
use Rattle.ped_versions.specs.Flags.{flagged}

above : (from m : ℕ) → from ≤ m → (from == m) ≡ false → from + 1 ≤ m
above from m low other = grind (arith, low, other, eqb-true)

kept_first : (more : List (ℕ × ℕ)) (from m : ℕ) (b : Bool) → (from == m) ≡ b → ((from == m) ≡ false → keeps more m m ≡ true) → keeps ((from, from) ∷ more) m m ≡ true
kept_first more from m true e rest = ap (λ (k : Bool). (k && k) || keeps more m m) e
kept_first more from m false e rest = ap (λ (k : Bool). (k && k) || keeps more m m) e ∙ rest e

-- a number in a range is kept
kept_in : (count from m : ℕ) → from ≤ m → m < from + count → keeps (map (λ (n : ℕ). (n, n)) (range_with_len from count)) m m ≡ true
kept_in zero from m low high = absurd (omega (arith, low, high))
kept_in (suc count) from m low high = kept_first (map (λ (n : ℕ). (n, n)) (range_with_len (from + 1) count)) from m (from == m) refl (λ other. kept_in count (from + 1) m (above from m low other) (omega (arith, high)))

itself : (m : ℕ) → (m == m) ≡ true
itself m = grind (arith, eqb-true)

module _ (t : ProgramTree) where
  abbrev keep : List (ℕ × ℕ)
  keep = all_kept t

  abbrev IsInside : Reference → Type 0
  IsInside r = (1 ≤ r.statement) × (r.statement < 1 + statements_count t.body)

  place_kept : (r : Reference) → IsInside r → keeps_place keep (r.statement, r.number) (r.statement, r.number) ≡ true
  place_kept r inside = λ i. kept_in (statements_count t.body) 1 r.statement inside.0 inside.1 i && itself r.number i

  abbrev AreInside : Reference × Reference → Type 0
  AreInside p = IsInside p.0 × IsInside p.1

  sinks_inside : (source : Reference) (test : Reference → Bool) (refs : List Reference) → IsInside source → AllByRecursion IsInside refs → AllByRecursion AreInside (map (λ (sink : Reference). (source, sink)) (filter test refs))
  sinks_inside source test [] a all = tt
  sinks_inside source test (r ∷ refs) a all = by (test r) (sinks_inside source test refs a all.1)
    where
      by : (b : Bool) → AllByRecursion AreInside (map (λ (sink : Reference). (source, sink)) (filter test refs))
          → AllByRecursion AreInside (map (λ (sink : Reference). (source, sink)) (cond b (r ∷ filter test refs) (filter test refs)))
      by true rest = ((a, all.0), rest)
      by false rest = rest

  both_inside : (xs ys : List (Reference × Reference)) → AllByRecursion AreInside xs → AllByRecursion AreInside ys → AllByRecursion AreInside (xs ++ ys)
  both_inside [] ys h k = k
  both_inside (x ∷ xs) ys h k = (h.0, both_inside xs ys h.1 k)

  pairs_inside : (refs rs : List Reference) → AllByRecursion IsInside refs → AllByRecursion IsInside rs → AllByRecursion AreInside (flat_map (λ (source : Reference). map (λ (sink : Reference). (source, sink)) (filter (is_pair source) refs)) rs)
  pairs_inside refs [] all these = tt
  pairs_inside refs (r ∷ rs) all these = both_inside _ _ (sinks_inside r (is_pair r) refs these.0 all) (pairs_inside refs rs all these.1)

  -- each pair comes from itself
  abbrev ComesFromItself : Pair → Type 0
  ComesFromItself p = comes_from keep p p ≡ true

  same_itself : (v : View) → same_view v v ≡ true
  same_itself v = (same_view_decides v v).1 refl

  from_itself : (ps : List (Reference × Reference)) → AllByRecursion AreInside ps
      → AllByRecursion ComesFromItself (pairs_by (map (λ (p : Reference × Reference). framed (facts_of t) p.0 p.1) ps) (map (λ (p : Reference × Reference). view_of t p.0 p.1) ps))
  from_itself [] all = tt
  from_itself (p ∷ ps) all = ((λ i. (place_kept p.0 all.0.0 i && place_kept p.1 all.0.1 i) && same_itself (view_of t p.0 p.1) i), from_itself ps all.1)

  any_behind : (test : Pair → Bool) (front rest : List Pair) (p : Pair) → test p ≡ true → list_any test (front ++ p ∷ rest) ≡ true
  any_behind test [] rest p e = ap (λ (b : Bool). b || list_any test rest) e
  any_behind test (x ∷ front) rest p e = ap (λ (b : Bool). test x || b) (any_behind test front rest p e) ∙ or_true (test x)
    where
      or_true : (b : Bool) → (b || true) ≡ true
      or_true true = refl
      or_true false = refl

  none_new : (front xs : List Pair) → AllByRecursion ComesFromItself xs
      → list_all (λ (p : Pair). eqb (cond (not (list_any (λ (q : Pair). comes_from keep q p) (front ++ xs))) 1 0) 0) xs ≡ true
  none_new front [] all = refl
  none_new front (p ∷ xs) all =
      let first : not (list_any (λ (q : Pair). comes_from keep q p) (front ++ p ∷ xs)) ≡ false = ap not (any_behind (λ (q : Pair). comes_from keep q p) front xs p all.0) in
      let rest : list_all (λ (k : Pair). eqb (cond (not (list_any (λ (q : Pair). comes_from keep q k) (front ++ p ∷ xs))) 1 0) 0) xs ≡ true =
      ap (λ (ys : List Pair). list_all (λ (k : Pair). eqb (cond (not (list_any (λ (q : Pair). comes_from keep q k) ys)) 1 0) 0) xs) (sym (append_assoc front (p ∷ []) xs)) ∙ none_new (front ++ p ∷ []) xs all.1 in
      λ i. eqb (cond (first i) 1 0) 0 && rest i

  none_fresh : fresh_pairs (held_of t) keep (held_of t) ≡ 0
  none_fresh =
      let all = references_within t in
      eqb-true (fresh_pairs (held_of t) keep (held_of t)) 0
      (sum_by-zero (λ (p : Pair). cond (is_fresh (held_of t) keep p) 1 0) (held_pairs (held_of t))
      ∙ none_new [] (held_pairs (held_of t)) (from_itself (pairs (references t)) (pairs_inside (references t) (references t) all all)))

  nothing_tested : (new : ProgramTree) → held_of new ≡ held_of t → tested_pairs t new keep ≡ 0
  nothing_tested new same = ap (λ (h : Held). fresh_pairs (held_of t) keep h) same ∙ none_fresh

-- so nothing is tested after a flag
pub flag_tests : (t new : ProgramTree) (s : ℕ) (p : Bool) (keep : List (ℕ × ℕ)) → held_of (flagged t s p) ≡ held_of t → new ≡ flagged t s p → keep ≡ all_kept t → 0 ≡ tested_pairs t new keep
flag_tests t new s p keep same there all = sym (ap (tested_pairs t new) all ∙ nothing_tested t new (ap held_of there ∙ same))
