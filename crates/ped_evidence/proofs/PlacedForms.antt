-- The value of an expression at a place of a run, by its form in the loops' variables and in symbols.
use Rattle.std.proofs.Common.{◌≡◌, ℕ, ◌+◌, ◌≤◌, refl, sym, ap, ◌∙◌, subst, arith, ℤ, pos, ◌+ℤ◌, List, [], ◌∷◌, ◌++◌, map, length, take, drop, Bool, true, false, ◌||◌, Some, None, Result, Ok, Err, if◌then◌else◌}
use Rattle.std.proofs.lemmas.List.{length-map, length-append, map-append}
use Rattle.std.proofs.lemmas.List.Folds.{list_any-append}
use Rattle.std.proofs.lemmas.Bool.{or_left, or_right}
use Rattle.ped_base.specs.Lists.{is_same_text, is_among}
use Rattle.ped_views.specs.Excluded as views
use Rattle.ped_views.proofs.Products.{linear}
use Rattle.ped_certificates.specs.Rows.{dot}
use Rattle.ped_tree.specs.Tree.{ExprTree, ProgramTree}
use Rattle.ped_tree.specs.Nests.{Loop, indices_of}
use Rattle.ped_affine.specs.Ranges.{Setting}
use Rattle.ped_affine.specs.AffineForms.{AffineForm}
use Rattle.ped_affine.specs.PairViews.{terms_of}
use Rattle.ped_laws.specs.ped_graph.specs.Dependences.{setting_in}
use Rattle.ped_laws.specs.ped_store.specs.Cells.{Scalar}
use Rattle.ped_laws.specs.ped_store.specs.Stores.{Store}
use Rattle.ped_laws.specs.ped_store.specs.Acts.{Turn}
use Rattle.ped_laws.specs.ped_eval.specs.Scopes.{Scope, turns_of, names_in, cell_of, index_value}
use Rattle.ped_laws.specs.ped_eval.specs.Values.{variable_value, value}
use Rattle.ped_laws.specs.ped_eval.specs.Outcomes.{setting_of}
use Rattle.ped_laws.specs.Covering.Weights.{first_values, HaveValues}
use Rattle.ped_laws.specs.Covering.Together.{AreDistinct}
use Rattle.ped_laws.specs.Conflicts.Reaching.{IsStoreIn, Reached}
use Rattle.ped_laws.proofs.CoveringLaws.FormValues.{value_tells}
use Rattle.ped_laws.proofs.CoveringLaws.Texts.{text_is, text_itself}
use Rattle.ped_laws.proofs.ConflictLaws.PossibleNames.{AssignWithin}
use Rattle.ped_laws.proofs.ConflictLaws.PossibleOwn.{constant_name}
use Rattle.ped_laws.proofs.ConflictLaws.PossibleTurns.{distinct, told}
use Rattle.ped_evidence.specs.Layouts.{form_at}
use Rattle.ped_evidence.specs.Facts.{value_by, IsComplete}

-- the number that a value is, 0 where there is none
abbrev pub number_in : Result ℤ ℕ → ℤ
number_in (Ok n) = n
number_in (Err f) = pos 0

-- what a variable holds at a place
abbrev pub held_at : Scope → Store → List ℕ → ℤ
held_at scope u x = number_in (variable_value (index_value scope x) u (cell_of scope x)).result

-- what a scalar holds at the start of an execution
abbrev pub held_first : Store → List ℕ → ℤ
held_first first x = number_in (variable_value None first (Scalar x)).result

-- names that are of no DO round a place, that the outermost DO doesn't assign, and that are there once
pub record AreSymbols (s : Setting) (nest : List Loop) (names : List (List ℕ)) : Type 0 where
  pub once : AreDistinct names
  pub other : (x : List ℕ) → is_among x names ≡ true → is_among x (indices_of nest) ≡ false
  pub kept : (x : List ℕ) → is_among x names ≡ true → is_among x s.assigned ≡ false

same_dot : (cs xs : List ℤ) → views.dot cs xs ≡ dot cs xs
same_dot [] xs = refl
same_dot (a ∷ cs) [] = refl
same_dot (a ∷ cs) (x ∷ xs) = let h = same_dot cs xs in omega (arith, linear)

-- the products with the first values, and those with the others
dot_parts : (cs xs ys : List ℤ) → length xs ≤ length cs → dot cs (xs ++ ys) ≡ dot (take (length xs) cs) xs +ℤ dot (drop (length xs) cs) ys
dot_parts cs [] ys h = omega (arith, linear)
dot_parts [] (x ∷ xs) ys h = absurd (omega arith)
dot_parts (a ∷ cs) (x ∷ xs) ys h = let k = dot_parts cs xs ys (omega arith) in omega (arith, linear)

true_false : (b : Bool) → b ≡ true → b ≡ false → ⊥
true_false true e h = absurd cc
true_false false e h = absurd cc

or_false : (a b : Bool) → a ≡ false → b ≡ false → (a || b) ≡ false
or_false a b e h = (λ i. e i || h i)

-- where no name comes twice, each counts
each_counts : (values : List ℕ → ℤ) (before xs : List (List ℕ)) → AreDistinct xs → ((x : List ℕ) → is_among x xs ≡ true → is_among x before ≡ false) → first_values values before xs ≡ map values xs
each_counts values before [] d h = refl
each_counts values before (x ∷ xs) d h = λ i. first i ∷ each_counts values (x ∷ before) xs d.1 later i
  where
    first : (if is_among x before then pos 0 else values x) ≡ values x
    first = ap (λ (b : Bool). if b then pos 0 else values x) (h x (or_left (is_same_text x x) (is_among x xs) (text_itself x)))

    other : (y : List ℕ) → is_among y xs ≡ true → (b : Bool) → is_same_text y x ≡ b → b ≡ false
    other y i true e = absurd (true_false (is_among x xs) (subst (λ (z : List ℕ). is_among z xs ≡ true) (text_is y x e) i) d.0)
    other y i false e = refl

    later : (y : List ℕ) → is_among y xs ≡ true → is_among y (x ∷ before) ≡ false
    later y i = or_false (is_same_text y x) (is_among y before) (other y i (is_same_text y x) refl) (h y (or_right (is_same_text y x) (is_among y xs) i))

-- names behind others of which none is among them
distinct_both : (xs ys : List (List ℕ)) → AreDistinct xs → AreDistinct ys → ((y : List ℕ) → is_among y ys ≡ true → is_among y xs ≡ false) → AreDistinct (xs ++ ys)
distinct_both [] ys d e h = e
distinct_both (x ∷ xs) ys d e h = (list_any-append (is_same_text x) xs ys ∙ or_false (is_among x xs) (is_among x ys) d.0 (away (is_among x ys) refl), distinct_both xs ys d.1 e (λ y i. (parts (is_same_text y x) (is_among y xs) (h y i)).1))
  where
    parts : (a b : Bool) → (a || b) ≡ false → (a ≡ false) × (b ≡ false)
    parts true b k = absurd cc
    parts false b k = (refl, k)

    away : (b : Bool) → is_among x ys ≡ b → b ≡ false
    away false i = refl
    away true i = absurd (true_false (is_same_text x x || is_among x xs) (or_left (is_same_text x x) (is_among x xs) (text_itself x)) (h x i))

values_told : (scope : Scope) (u : Store) (xs : List (List ℕ)) (is : List Turn) → map (index_value scope) xs ≡ map (λ i. Some i.value) is → map (held_at scope u) xs ≡ map (λ i. i.value) is
values_told scope u [] [] h = refl
values_told scope u [] (i ∷ is) h = absurd cc
values_told scope u (x ∷ xs) [] h = absurd cc
values_told scope u (x ∷ xs) (i ∷ is) h =
    let first : index_value scope x ≡ Some i.value = cc in
    let others : map (index_value scope) xs ≡ map (λ z. Some z.value) is = cc in
    let rest = values_told scope u xs is others in
    λ k. number_in (variable_value (first k) u (cell_of scope x)).result ∷ rest k

module _ (t : ProgramTree) (o : ℕ) (first : Store) (names : List (List ℕ)) where
  abbrev s : Setting
  s = setting_in t o

  -- the values of the symbols in the whole execution
  abbrev pub ys : List ℤ
  ys = map (held_first first) names

  module _ (nest : List Loop) (scope : Scope) (u : Store) (symbols : AreSymbols s nest names) (within : AssignWithin t o nest) (reached : Reached t s first nest scope) (during : IsStoreIn s first u) where
    abbrev loops : List ℤ
    loops = map (λ i. i.value) (turns_of scope)

    have : HaveValues (terms_of s nest names) (held_at scope u) (names_in (setting_of t) scope) u
    have = record { constants = refl; unknowns = λ x n i e. sym (ap number_in e) }

    symbols_told : (xs : List (List ℕ)) → ((x : List ℕ) → is_among x xs ≡ true → is_among x s.assigned ≡ false) → map (held_at scope u) xs ≡ map (held_first first) xs
    symbols_told [] h = refl
    symbols_told (x ∷ xs) h = λ i. one i ∷ symbols_told xs (λ y k. h y (or_right (is_same_text y x) (is_among y xs) k)) i
      where
        one : held_at scope u x ≡ held_first first x
        one = ap (λ v. number_in v.result) (constant_name t o first x (h x (or_left (is_same_text x x) (is_among x xs) (text_itself x))) nest scope u within reached during)

    -- the values of all unknowns
    unknowns_told : first_values (held_at scope u) [] (indices_of nest ++ names) ≡ loops ++ ys
    unknowns_told =
        each_counts (held_at scope u) [] (indices_of nest ++ names) (distinct_both (indices_of nest) names (distinct t s first nest scope reached) symbols.once symbols.other) (λ x i. refl)
        ∙ (map-append (held_at scope u) (indices_of nest) names
        ∙ (λ i. values_told scope u (indices_of nest) (turns_of scope) (told t s first nest scope reached) i ++ symbols_told names symbols.kept i))

    loops_long : length (indices_of nest) ≡ length loops
    loops_long =
        let a : length (map (held_at scope u) (indices_of nest)) ≡ length loops = ap length (values_told scope u (indices_of nest) (turns_of scope) (told t s first nest scope reached)) in
        let b : length (map (held_at scope u) (indices_of nest)) ≡ length (indices_of nest) = length-map (indices_of nest) (held_at scope u) in
        sym b ∙ a

    -- an expression that has a value and a form has its value by the form
    pub told_by_form : (e : ExprTree) (f : AffineForm) (n : ℤ) → (value (names_in (setting_of t) scope) e u).result ≡ Ok n → form_at s names nest e ≡ Some f → IsComplete loops ys f × (n ≡ value_by loops ys f)
    told_by_form e f n comes is =
        let tells = value_tells (terms_of s nest names) (held_at scope u) (names_in (setting_of t) scope) u have e n f comes is in
        let long : length f.coefficients ≡ length loops + length ys =
        tells.0 ∙ (length-append (indices_of nest) names ∙ (λ i. loops_long i + sym (length-map names (held_first first)) i)) in
        (long, tells.1 ∙ ap (λ (z : ℤ). z +ℤ f.constant) (same_dot f.coefficients (first_values (held_at scope u) [] (indices_of nest ++ names)) ∙ (ap (dot f.coefficients) unknowns_told ∙ dot_parts f.coefficients loops ys (omega (arith, long)))))
