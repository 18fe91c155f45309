-- Parts of declarations: what is read is written so, and what is written so is read.
use Rattle.std.proofs.Common.{◌≡◌, ℕ, true, List, [], ◌∷◌, ◌++◌, map, Some, None, refl, sym, ap, subst, ◌∙◌, append_assoc, arith, inl, inr}
use Rattle.std.specs.Prelude.{codes}
use Rattle.std.specs.List.{list_all, flat_map, join_by}
use Rattle.std.proofs.lemmas.Bool.{eqb-true}
use Rattle.ped_tree.specs.Tree.{ExprTree, Int, BoundTree, DeclaratorTree}
use Rattle.ped_tree.specs.Grammar.Words.{is_name}
use Rattle.ped_tree.specs.Grammar.ExpressionForms.{expr_form_text, expr_form_tree}
use Rattle.ped_tree.specs.Grammar.StatementForms.{BoundForm, upper_bound, both_bounds, ArrayForm, an_array, DeclaratorForm, a_scalar, of_array, ConstantForm, a_constant, bound_form_text, array_form_text, declarator_form_text, constant_form_text, bound_form_tree, array_form_tree, declarator_form_tree, constant_form_tree}
use Rattle.ped_expressions.specs.Scanning.{◌>>=◌, go_on, after}
use Rattle.ped_expressions.specs.ExpressionReading.{with_literals, expr_of}
use Rattle.ped_statements.specs.Saturated.{bound_with_literals, declarator_with_literals, value_with_literals}
use Rattle.ped_statements.specs.Listing.{several}
use Rattle.ped_statements.specs.StatementReading.{name_at, bound, bound_of, declarator, dimensions_of, is_array, declarator_of, value_of}
use Rattle.ped_expressions.proofs.Basics.{some_is, bind_some, stops_or_goes, after_is}
use Rattle.ped_expressions.proofs.Sound.{read_on}
use Rattle.ped_expressions.proofs.Again.{ends_alphanumeric, ends_call, assoc_3, assoc_4, expr_again, sums_stop}
use Rattle.ped_statements.proofs.Several.{Shrinks, Finds, IsReadBack, listed, several_step, shrinks, several_found, several_again}
use Rattle.ped_statements.proofs.Pieces.{ends_part, part_ends_word, expr_finds, expr_part, name_found, name_back}

-- lists of trees with literals

pub map_map : {A B C : Type 0} (g : B → C) (f : A → B) (xs : List A) → map g (map f xs) ≡ map (λ x. g (f x)) xs
map_map g f [] = refl
map_map {A} {B} {C} g f (x ∷ xs) = ap (λ (ys : List C). g (f x) ∷ ys) (map_map g f xs)

pub all_true : {A : Type 0} (xs : List A) → list_all (λ x. true) xs ≡ true
all_true [] = refl
all_true (x ∷ xs) = all_true xs

-- dimensions

part_no_colon : (ts : List ℕ) → ends_part ts ≡ true → after (codes ":") ts ≡ None
part_no_colon [] h = refl
part_no_colon (c ∷ ts) h = grind (arith, eqb-true)

pub bound_found : (v : ℕ → ℕ) → Finds bound_form_text (λ b. bound_with_literals v (bound_form_tree b)) (λ b. true) (bound_of v)
unfolding bound_of
bound_found v ts x h =
    let Found : BoundTree × List ℕ → Type 0 = λ y. (b : BoundForm) × (true ≡ true) × (bound_with_literals v (bound_form_tree b) ≡ y.0) × (ts ≡ bound_form_text b ++ y.1) in
    let a = bind_some (expr_of v ts) (λ x. go_on (after (codes ":") x.1) (Some (bound (Int (v 1)) x.0, x.1)) (λ r. expr_of v r >>= λ y. Some (bound x.0 y.0, y.1))) x h in
    let f = expr_finds v ts a.0 a.1 in
    elim (stops_or_goes (after (codes ":") a.0.1) (Some (bound (Int (v 1)) a.0.0, a.0.1)) (λ r. expr_of v r >>= λ y. Some (bound a.0.0 y.0, y.1)) (Some x) a.2) [
      | inl g ↦ subst Found (some_is (bound (Int (v 1)) a.0.0, a.0.1) x g.1) (upper_bound f.0, refl, ap (bound (Int (v 1))) f.1, f.2)
      | inr g ↦
          let b = bind_some (expr_of v g.0) (λ y. Some (bound a.0.0 y.0, y.1)) x g.2 in
          let k = expr_finds v g.0 b.0 b.1 in
          subst Found (some_is (bound a.0.0 b.0.0, b.0.1) x b.2) (
            both_bounds f.0 k.0,
            refl,
            ap (λ (t : ExprTree). bound t (with_literals v (expr_form_tree k.0))) f.1 ∙ ap (bound a.0.0) k.1,
            f.2 ∙ read_on (expr_form_text f.0) (codes ":") a.0.1 g.0 (after_is (codes ":") a.0.1 g.0 g.1) ∙ read_on (expr_form_text f.0 ++ codes ":") (expr_form_text k.0) g.0 b.0.1 k.2,
          )
    ]

pub bound_back : (v : ℕ → ℕ) → IsReadBack bound_form_text (λ b. bound_with_literals v (bound_form_tree b)) (λ b. true) ends_part (bound_of v)
unfolding bound_of
bound_back v (upper_bound e) rest g h = rw (expr_part v e rest h, part_no_colon rest h) refl
bound_back v (both_bounds e k) rest g h =
    let r = expr_form_text k ++ rest in
    let p = expr_again v e (codes ":" ++ r) refl refl ∙ sums_stop v (with_literals v (expr_form_tree e)) (codes ":" ++ r) refl in
    let q = expr_part v k rest h in
    ap (bound_of v) (assoc_3 (expr_form_text e) (codes ":") (expr_form_text k) rest) ∙ rw (p, q) refl

bounds_tree : (v : ℕ → ℕ) (bs : List BoundForm) → map (λ b. bound_with_literals v (bound_form_tree b)) bs ≡ map (bound_with_literals v) (map bound_form_tree bs)
bounds_tree v bs = sym (map_map (bound_with_literals v) bound_form_tree bs)

-- arrays

FoundArray : (ℕ → ℕ) → List ℕ → DeclaratorTree × List ℕ → Type 0
FoundArray v ts y = (a : ArrayForm) × (true ≡ true) × (declarator_with_literals v (array_form_tree a) ≡ y.0) × (ts ≡ array_form_text a ++ y.1)

dimensions_found : (v : ℕ → ℕ) (x ts : List ℕ) (is : is_name x ≡ true) (y : DeclaratorTree × List ℕ) → dimensions_of v x ts ≡ Some y → FoundArray v (x ++ (codes "(" ++ ts)) y
unfolding dimensions_of FoundArray
dimensions_found v x ts is y h =
    let a = bind_some (several (bound_of v) ts) (λ y. after (codes ")") y.1 >>= λ r. Some (declarator x y.0, r)) y h in
    let b = bind_some (after (codes ")") a.0.1) (λ r. Some (declarator x a.0.0, r)) y a.2 in
    let f = several_found bound_form_text (λ b. bound_with_literals v (bound_form_tree b)) (λ b. true) (bound_of v) (bound_found v) ts a.0 a.1 in
    let t = join_by bound_form_text (codes ",") (f.0 ∷ f.1) in
    let all : x ++ (codes "(" ++ ts) ≡ x ++ codes "(" ++ t ++ codes ")" ++ b.0 =
    sym (append_assoc x (codes "(") ts) ∙ read_on (x ++ codes "(") t ts a.0.1 f.4 ∙ read_on (x ++ codes "(" ++ t) (codes ")") a.0.1 b.0 (after_is (codes ")") a.0.1 b.0 b.1) in
    subst (λ (z : DeclaratorTree × List ℕ). (a : ArrayForm) × (true ≡ true) × (declarator_with_literals v (array_form_tree a) ≡ z.0) × (x ++ (codes "(" ++ ts) ≡ array_form_text a ++ z.1)) (some_is (declarator x a.0.0, b.0) y b.2)
    (an_array x is f.0 f.1, refl, ap (declarator x) (sym (bounds_tree v (f.0 ∷ f.1)) ∙ f.3), all)

dimensions_again : (v : ℕ → ℕ) (x : List ℕ) (b : BoundForm) (bs : List BoundForm) (rest : List ℕ) → dimensions_of v x (join_by bound_form_text (codes ",") (b ∷ bs) ++ (codes ")" ++ rest)) ≡ Some (declarator x (map (bound_with_literals v) (map bound_form_tree (b ∷ bs))), rest)
unfolding dimensions_of
dimensions_again v x b bs rest =
    let s = shrinks bound_form_text (λ b. bound_with_literals v (bound_form_tree b)) (λ b. true) (bound_of v) (bound_found v) in
    let p = several_again bound_form_text (λ b. bound_with_literals v (bound_form_tree b)) (λ b. true) ends_part (bound_of v) s (bound_back v) (λ r. refl) b bs (codes ")" ++ rest) (all_true (b ∷ bs)) refl refl in
    rw p (ap (λ (ts : List BoundTree). Some (declarator x ts, rest)) (bounds_tree v (b ∷ bs)))

array_begins : (v : ℕ → ℕ) (a : ArrayForm) (rest : List ℕ) → (x : List ℕ) × (q : List ℕ) × (is_name x ≡ true) × (array_form_text a ++ rest ≡ x ++ (codes "(" ++ q)) × (dimensions_of v x q ≡ Some (declarator_with_literals v (array_form_tree a), rest))
array_begins v (an_array x is b bs) rest = (x, join_by bound_form_text (codes ",") (b ∷ bs) ++ (codes ")" ++ rest), is, assoc_4 x (codes "(") (join_by bound_form_text (codes ",") (b ∷ bs)) (codes ")") rest, dimensions_again v x b bs rest)

-- declared names

pub declarator_found : (v : ℕ → ℕ) → Finds declarator_form_text (λ d. declarator_with_literals v (declarator_form_tree d)) (λ d. true) (declarator_of v)
unfolding declarator_of FoundArray
declarator_found v ts y h =
    let Found : DeclaratorTree × List ℕ → Type 0 = λ y. (d : DeclaratorForm) × (true ≡ true) × (declarator_with_literals v (declarator_form_tree d) ≡ y.0) × (ts ≡ declarator_form_text d ++ y.1) in
    let a = bind_some (name_at ts) (λ x. go_on (after (codes "(") x.1) (Some (declarator x.0 [], x.1)) (λ q. dimensions_of v x.0 q)) y h in
    let n = name_found ts a.0 a.1 in
    let is : is_name a.0.0 ≡ true = ap is_name (sym n.2) ∙ n.1 in
    let front : ts ≡ a.0.0 ++ a.0.1 = n.3 ∙ ap (λ (w : List ℕ). w ++ a.0.1) n.2 in
    elim (stops_or_goes (after (codes "(") a.0.1) (Some (declarator a.0.0 [], a.0.1)) (λ q. dimensions_of v a.0.0 q) (Some y) a.2) [
      | inl g ↦ subst Found (some_is (declarator a.0.0 [], a.0.1) y g.1) (a_scalar a.0.0 is, refl, refl, front)
      | inr g ↦
          let f = dimensions_found v a.0.0 g.0 is y g.2 in
          (of_array f.0, refl, f.2, front ∙ ap (λ (w : List ℕ). a.0.0 ++ w) (after_is (codes "(") a.0.1 g.0 g.1) ∙ f.3)
    ]

pub declarator_back : (v : ℕ → ℕ) → IsReadBack declarator_form_text (λ d. declarator_with_literals v (declarator_form_tree d)) (λ d. true) ends_part (declarator_of v)
unfolding declarator_of
declarator_back v (a_scalar x is) rest g h =
    let w = part_ends_word rest h in
    let n = name_back x rest is (ends_alphanumeric rest w) in
    rw (n, ends_call rest w) refl
declarator_back v (of_array a) rest g h =
    let p = array_begins v a rest in
    let n = name_back p.0 (codes "(" ++ p.1) p.2 refl in
    ap (declarator_of v) p.3 ∙ rw n p.4

-- arrays alone

pub arrays_found : (v : ℕ → ℕ) (ds : List DeclaratorForm) → list_all is_array (map (λ d. declarator_with_literals v (declarator_form_tree d)) ds) ≡ true → (arrays : List ArrayForm) × (map of_array arrays ≡ ds)
arrays_found v [] h = ([], refl)
arrays_found v (a_scalar x is ∷ ds) h = absurd cc
arrays_found v (of_array (an_array x is b bs) ∷ ds) h =
    let r = arrays_found v ds h in
    (an_array x is b bs ∷ r.0, ap (λ (fs : List DeclaratorForm). of_array (an_array x is b bs) ∷ fs) r.1)

pub are_arrays : (v : ℕ → ℕ) (arrays : List ArrayForm) → list_all is_array (map (λ d. declarator_with_literals v (declarator_form_tree d)) (map of_array arrays)) ≡ true
are_arrays v [] = refl
are_arrays v (an_array x is b bs ∷ rest) = are_arrays v rest

arrays_behind : (arrays : List ArrayForm) → flat_map (λ d. codes "," ++ declarator_form_text d) (map of_array arrays) ≡ flat_map (λ a. codes "," ++ array_form_text a) arrays
arrays_behind [] = refl
arrays_behind (a ∷ rest) = ap (λ (w : List ℕ). codes "," ++ array_form_text a ++ w) (arrays_behind rest)

pub arrays_text : (a : ArrayForm) (rest : List ArrayForm) → join_by declarator_form_text (codes ",") (map of_array (a ∷ rest)) ≡ join_by array_form_text (codes ",") (a ∷ rest)
arrays_text a rest = ap (λ (w : List ℕ). array_form_text a ++ w) (arrays_behind rest)

pub arrays_tree : (arrays : List ArrayForm) → map declarator_form_tree (map of_array arrays) ≡ map array_form_tree arrays
arrays_tree arrays = map_map declarator_form_tree of_array arrays

-- named constants

pub value_found : (v : ℕ → ℕ) → Finds constant_form_text (λ c. value_with_literals v (constant_form_tree c)) (λ c. true) (value_of v)
unfolding value_of
value_found v ts y h =
    let Found : (List ℕ × ExprTree) × List ℕ → Type 0 = λ y. (c : ConstantForm) × (true ≡ true) × (value_with_literals v (constant_form_tree c) ≡ y.0) × (ts ≡ constant_form_text c ++ y.1) in
    let a = bind_some (name_at ts) (λ x. after (codes "=") x.1 >>= λ q. expr_of v q >>= λ y. Some ((x.0, y.0), y.1)) y h in
    let b = bind_some (after (codes "=") a.0.1) (λ q. expr_of v q >>= λ y. Some ((a.0.0, y.0), y.1)) y a.2 in
    let e = bind_some (expr_of v b.0) (λ y. Some ((a.0.0, y.0), y.1)) y b.2 in
    let n = name_found ts a.0 a.1 in
    let f = expr_finds v b.0 e.0 e.1 in
    let is : is_name a.0.0 ≡ true = ap is_name (sym n.2) ∙ n.1 in
    subst Found (some_is ((a.0.0, e.0.0), e.0.1) y e.2) (
      a_constant a.0.0 is f.0,
      refl,
      ap (λ (t : ExprTree). (a.0.0, t)) f.1,
      n.3 ∙ ap (λ (w : List ℕ). w ++ a.0.1) n.2 ∙ read_on a.0.0 (codes "=") a.0.1 b.0 (after_is (codes "=") a.0.1 b.0 b.1) ∙ read_on (a.0.0 ++ codes "=") (expr_form_text f.0) b.0 e.0.1 f.2,
    )

pub value_back : (v : ℕ → ℕ) → IsReadBack constant_form_text (λ c. value_with_literals v (constant_form_tree c)) (λ c. true) ends_part (value_of v)
unfolding value_of
value_back v (a_constant x is e) rest g h =
    let n = name_back x (codes "=" ++ (expr_form_text e ++ rest)) is refl in
    let p = expr_part v e rest h in
    ap (value_of v) (assoc_3 x (codes "=") (expr_form_text e) rest) ∙ rw (n, p) refl

-- no part leaves more than there was

pub bounds_shrink : (v : ℕ → ℕ) → Shrinks (bound_of v)
bounds_shrink v = shrinks bound_form_text (λ b. bound_with_literals v (bound_form_tree b)) (λ b. true) (bound_of v) (bound_found v)

pub declarators_shrink : (v : ℕ → ℕ) → Shrinks (declarator_of v)
declarators_shrink v = shrinks declarator_form_text (λ d. declarator_with_literals v (declarator_form_tree d)) (λ d. true) (declarator_of v) (declarator_found v)

pub values_shrink : (v : ℕ → ℕ) → Shrinks (value_of v)
values_shrink v = shrinks constant_form_text (λ c. value_with_literals v (constant_form_tree c)) (λ c. true) (value_of v) (value_found v)

-- a step of a list

pub bounds_step : (v : ℕ → ℕ) (ts : List ℕ) → several (bound_of v) ts ≡ (bound_of v ts >>= listed (several (bound_of v)))
bounds_step v ts = several_step (bound_of v) (bounds_shrink v) ts

pub declarators_step : (v : ℕ → ℕ) (ts : List ℕ) → several (declarator_of v) ts ≡ (declarator_of v ts >>= listed (several (declarator_of v)))
declarators_step v ts = several_step (declarator_of v) (declarators_shrink v) ts

pub values_step : (v : ℕ → ℕ) (ts : List ℕ) → several (value_of v) ts ≡ (value_of v ts >>= listed (several (value_of v)))
values_step v ts = several_step (value_of v) (values_shrink v) ts
