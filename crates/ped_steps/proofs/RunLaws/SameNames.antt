-- Names in byte order, each once: the same names are one list.
use Rattle.std.proofs.Common.{◌≡◌, ℕ, List, [], ◌∷◌, Bool, true, false, ◌||◌, refl, sym, ap, subst, ◌∙◌}
use Rattle.std.specs.Ordering.{nat_cmp, ordering_reverse}
use Rattle.std.specs.declared.cmp.Ordering.{Ordering}
use Rattle.std.specs.declared.cmp.Ordering.TheVariants.{Less, Equal, Greater}
use Rattle.std.specs.Cmp.Lexicographic.{slice_cmp}
use Rattle.std.proofs.lemmas.Cmp.{nat_list_cmp_total}
use Rattle.std.proofs.lemmas.Map.Lookups.{exact_bytes}
use Rattle.ped_base.specs.Lists.{is_same_text, is_among}
use Rattle.ped_tree.specs.Tree.{StmtTrees}
use Rattle.ped_base.proofs.NameEquality.{same_is, same_itself}
use Rattle.ped_weaves.specs.ped_eval.specs.Loops.{with_name_by, with_sorted, sorted_once}
use Rattle.ped_tree.specs.NamesIn.{all_loop_variables}
use Rattle.ped_weaves.specs.ped_laws.proofs.RunLaws.Turning.{once_among}

abbrev compared : List ℕ → List ℕ → Ordering
compared = slice_cmp nat_cmp

-- the name comes before each of these
abbrev Below : List ℕ → List (List ℕ) → Type 0
Below x [] = Unit {0}
Below x (y ∷ ys) = (compared x y ≡ Less) × Below x ys

-- each name comes before those behind it
abbrev Ascend : List (List ℕ) → Type 0
Ascend [] = Unit {0}
Ascend (x ∷ xs) = Below x xs × Ascend xs

turned : (x y : List ℕ) (o : Ordering) → compared x y ≡ o → compared y x ≡ ordering_reverse o
turned x y o e = nat_list_cmp_total.antisymm y x ∙ ap ordering_reverse e

below_more : (x y : List ℕ) (zs : List (List ℕ)) → compared x y ≡ Less → Below y zs → Below x zs
below_more x y [] h k = tt
below_more x y (z ∷ zs) h k = (nat_list_cmp_total.trans x y z h k.0, below_more x y zs h k.1)

below_sorted : (x y : List ℕ) (zs : List (List ℕ)) → compared x y ≡ Less → Below x zs → Below x (with_sorted y zs)
below_sorted x y [] h k = (h, tt)
below_sorted x y (z ∷ zs) h k = by (compared y z) (below_sorted x y zs h k.1)
  where
    by : (o : Ordering) → Below x (with_sorted y zs) → Below x (with_name_by o y z zs (with_sorted y zs))
    by Less r = (h, k)
    by Equal r = k
    by Greater r = (k.0, r)

ascend_sorted : (y : List ℕ) (zs : List (List ℕ)) → Ascend zs → Ascend (with_sorted y zs)
ascend_sorted y [] h = (tt, tt)
ascend_sorted y (z ∷ zs) h = by (compared y z) refl (ascend_sorted y zs h.1)
  where
    by : (o : Ordering) → compared y z ≡ o → Ascend (with_sorted y zs) → Ascend (with_name_by o y z zs (with_sorted y zs))
    by Less e r = ((e, below_more y z zs e h.0), h)
    by Equal e r = h
    by Greater e r = (below_sorted z y zs (turned y z Greater e) h.0, r)

once_ascends : (xs : List (List ℕ)) → Ascend (sorted_once xs)
once_ascends [] = tt
once_ascends (x ∷ xs) = ascend_sorted x (sorted_once xs) (once_ascends xs)

unlike : (x y : List ℕ) → compared x y ≡ Less → is_same_text x y ≡ false
unlike x y h = by (is_same_text x y) refl
  where
    by : (b : Bool) → is_same_text x y ≡ b → b ≡ false
    by true e =
        let same : x ≡ y = same_is x y e in
        let less : compared x x ≡ Less = ap (compared x) same ∙ h in
        let more : compared x x ≡ Greater = turned x x Less less in
        let no : Less ≡ Greater = sym less ∙ more in
        absurd cc
    by false e = refl

-- a name that comes before all isn't among them
below_none : (x : List ℕ) (ys : List (List ℕ)) → Below x ys → is_among x ys ≡ false
below_none x [] h = refl
below_none x (y ∷ ys) h = λ i. unlike x y h.0 i || below_none x ys h.1 i

none_first : (x y : List ℕ) (ys : List (List ℕ)) → compared x y ≡ Less → Below y ys → is_among x (y ∷ ys) ≡ false
none_first x y ys h k = below_none x (y ∷ ys) (h, below_more x y ys h k)

first_among : (x : List ℕ) (xs : List (List ℕ)) → is_among x (x ∷ xs) ≡ true
first_among x xs = ap (λ (b : Bool). b || is_among x xs) (same_itself x)

abbrev Alike : List (List ℕ) → List (List ℕ) → Type 0
Alike xs ys = (z : List ℕ) → is_among z xs ≡ is_among z ys

alike_behind : (x : List ℕ) (xs ys : List (List ℕ)) → Below x xs → Below x ys → Alike (x ∷ xs) (x ∷ ys) → Alike xs ys
alike_behind x xs ys h k same z = by (is_same_text z x) refl (same z)
  where
    by : (b : Bool) → is_same_text z x ≡ b → (b || is_among z xs) ≡ (b || is_among z ys) → is_among z xs ≡ is_among z ys
    by true e r =
        let it : z ≡ x = same_is z x e in
        ap (λ (w : List ℕ). is_among w xs) it ∙ (below_none x xs h ∙ (sym (below_none x ys k) ∙ ap (λ (w : List ℕ). is_among w ys) (sym it)))
    by false e r = r

one_list : (xs ys : List (List ℕ)) → Ascend xs → Ascend ys → Alike xs ys → xs ≡ ys
one_list [] [] h k same = refl
one_list [] (y ∷ ys) h k same = let no : false ≡ true = same y ∙ first_among y ys in absurd cc
one_list (x ∷ xs) [] h k same = let no : false ≡ true = sym (same x) ∙ first_among x xs in absurd cc
one_list (x ∷ xs) (y ∷ ys) h k same = by (compared x y) refl (one_list xs ys h.1 k.1)
  where
    by : (o : Ordering) → compared x y ≡ o → (Alike xs ys → xs ≡ ys) → x ∷ xs ≡ y ∷ ys
    by Less e more = let no : false ≡ true = sym (none_first x y ys e k.0) ∙ (sym (same x) ∙ first_among x xs) in absurd cc
    by Greater e more = let no : false ≡ true = sym (none_first y x xs (turned x y Greater e) h.0) ∙ (same y ∙ first_among y ys) in absurd cc
    by Equal e more =
        let it : x ≡ y = exact_bytes x y e in
        let below : Below x ys = subst (λ (w : List ℕ). Below w ys) (sym it) k.0 in
        let rest : xs ≡ ys = more (alike_behind x xs ys h.0 below (λ z. same z ∙ ap (λ (w : List ℕ). is_among z (w ∷ ys)) (sym it))) in
        λ i. it i ∷ rest i

-- a PARALLEL DO that has the same variables in it undefines the same names, in one order
pub inner_alike : (body other : StmtTrees) → Alike (all_loop_variables body) (all_loop_variables other) → sorted_once (all_loop_variables body) ≡ sorted_once (all_loop_variables other)
inner_alike body other same =
    one_list (sorted_once (all_loop_variables body)) (sorted_once (all_loop_variables other)) (once_ascends (all_loop_variables body)) (once_ascends (all_loop_variables other))
    (λ z. once_among z (all_loop_variables body) ∙ (same z ∙ sym (once_among z (all_loop_variables other))))
