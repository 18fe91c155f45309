-- Subscripts that the values of the loops make equal come to one number.
use Rattle.std.proofs.Common.{◌≡◌, ℕ, zero, suc, ◌+◌, ◌-◌, ◌≤◌, ◌==◌, ℤ, pos, ◌+ℤ◌, int_eq, List, [], ◌∷◌, ◌++◌, map, take, drop, length, filter, Bool, true, false, not, ◌&&◌, Option, Some, None, Result, Ok, Err, if◌then◌else◌, refl, sym, ap, ◌∙◌, subst, arith}
use Rattle.std.specs.List.{list_all, AllByRecursion}
use Rattle.std.specs.Cmp.Lexicographic.{pointwise}
use Rattle.std.specs.Cmp.Rules.{signed_items}
use Rattle.std.proofs.lemmas.Bool.{and_parts}
use Rattle.std.proofs.lemmas.Map.Views.{any-filter_same}
use Rattle.std.proofs.lemmas.List.{length-map, take-take, drop-take}
use Rattle.ped_laws.specs.ped_flow.specs.ped_base.specs.Lists.{is_same_text, is_among}
use Rattle.ped_laws.specs.ped_graph.specs.ped_views.specs.Forms.{form_of}
use Rattle.ped_laws.specs.ped_graph.specs.ped_views.specs.Excluded.{Indices, dot, difference}
use Rattle.ped_laws.specs.ped_graph.specs.ped_views.proofs.Products.{linear}
use Rattle.ped_verdict.specs.Exactness.{is_exact_form, is_exact_position}
use Rattle.ped_laws.specs.ped_flow.specs.ped_tree.specs.Tree.{ExprTree, ProgramTree}
use Rattle.ped_laws.specs.ped_flow.specs.ped_tree.specs.Nests.{Loop, indices_of, common_nest}
use Rattle.ped_laws.specs.ped_flow.specs.ped_affine.specs.Ranges.{Setting}
use Rattle.ped_laws.specs.ped_flow.specs.ped_affine.specs.AffineForms.{AffineForm, affine_of, form_variables}
use Rattle.ped_laws.specs.ped_flow.specs.ped_affine.specs.PairViews.{Site, Depths, depths_of, is_other, other_variables, terms_of, other_coefficients, unusable, usable_pair, subscript_pair, position_of, positions_of}
use Rattle.ped_laws.specs.ped_graph.specs.Dependences.{setting_in}
use Rattle.ped_laws.specs.ped_eval.specs.ped_store.specs.Stores.{Store}
use Rattle.ped_laws.specs.ped_eval.specs.ped_store.specs.Acts.{Turn}
use Rattle.ped_laws.specs.ped_eval.specs.Scopes.{Scope, turns_of, names_in, cell_of, index_value}
use Rattle.ped_laws.specs.ped_eval.specs.Values.{variable_value, value}
use Rattle.ped_laws.specs.ped_eval.specs.Outcomes.{setting_of}
use Rattle.ped_laws.specs.Covering.Weights.{HaveValues}
use Rattle.ped_laws.specs.Covering.Together.{IsSolvedBy, indices_among, side_values, AgreeOnOthers}
use Rattle.ped_laws.specs.Conflicts.Making.{ComeTo}
use Rattle.ped_laws.specs.Conflicts.Reaching.{IsStoreIn, Reached}
use Rattle.ped_laws.proofs.CoveringLaws.FormValues.{value_tells}
use Rattle.ped_laws.proofs.CoveringLaws.Sides.{loops_first, agree}
use Rattle.ped_laws.proofs.CoveringLaws.Texts.{text_is}
use Rattle.ped_laws.proofs.ConflictLaws.PossibleNames.{AssignWithin}
use Rattle.ped_laws.proofs.ConflictLaws.PossibleOwn.{not_true, constant_name}
use Rattle.ped_laws.proofs.ConflictLaws.PossibleTurns.{distinct, told}

-- a sum of products in two parts
dot_parts : (k : ℕ) (cs vs : List ℤ) → dot cs vs ≡ dot (take k cs) (take k vs) +ℤ dot (drop k cs) (drop k vs)
dot_parts zero cs vs = omega (arith, linear)
dot_parts (suc k) [] vs = refl
dot_parts (suc k) (c ∷ cs) [] = none (drop k cs)
  where
    none : (ds : List ℤ) → pos 0 ≡ pos 0 +ℤ dot ds []
    none [] = refl
    none (d ∷ ds) = refl
dot_parts (suc k) (c ∷ cs) (v ∷ vs) = let h = dot_parts k cs vs in omega (arith, linear)

-- two forms whose difference is 0 have one value, where the other variables agree
module _ (n : Depths) (from to : List ℤ) (agrees : AgreeOnOthers n from to) where
  forms_meet : (a b : AffineForm) (m k : ℤ) → other_coefficients n.common n.source a ≡ other_coefficients n.common n.sink b → m ≡ dot a.coefficients from +ℤ a.constant → k ≡ dot b.coefficients to +ℤ b.constant → difference (usable_pair n a b) (indices_among n from to) ≡ pos 0 → m ≡ k
  forms_meet a b m k same x y none =
      let a1 = dot_parts n.common a.coefficients from in
      let a2 = dot_parts n.source (drop n.common a.coefficients) (drop n.common from) in
      let b1 = dot_parts n.common b.coefficients to in
      let b2 = dot_parts n.sink (drop n.common b.coefficients) (drop n.common to) in
      let c : dot (drop n.source (drop n.common a.coefficients)) (drop n.source (drop n.common from)) ≡ dot (drop n.sink (drop n.common b.coefficients)) (drop n.sink (drop n.common to)) = λ i. dot (same i) (agrees i) in
      omega (arith, linear)

  pair_meets : (oa ob : Option AffineForm) (m k : ℤ) → ((a : AffineForm) → oa ≡ Some a → m ≡ dot a.coefficients from +ℤ a.constant) → ((b : AffineForm) → ob ≡ Some b → k ≡ dot b.coefficients to +ℤ b.constant)
      → (subscript_pair n oa ob).usable ≡ true → IsSolvedBy (indices_among n from to) (subscript_pair n oa ob) → m ≡ k
  pair_meets None ob m k x y usable solved = absurd cc
  pair_meets (Some a) None m k x y usable solved = absurd cc
  pair_meets (Some a) (Some b) m k x y usable solved = go (pointwise int_eq (other_coefficients n.common n.source a) (other_coefficients n.common n.sink b)) refl usable solved
    where
      go : (z : Bool) → pointwise int_eq (other_coefficients n.common n.source a) (other_coefficients n.common n.sink b) ≡ z → (if z then usable_pair n a b else unusable n).usable ≡ true → IsSolvedBy (indices_among n from to) (if z then usable_pair n a b else unusable n) → m ≡ k
      go true e u h = forms_meet a b m k ((signed_items (other_coefficients n.common n.source a) (other_coefficients n.common n.sink b)).0 e) (x a refl) (y b refl) (h refl)
      go false e u h = absurd cc

-- a name that is kept passes the test
passes : (test : List ℕ → Bool) (y : List ℕ) (xs : List (List ℕ)) → is_among y (filter test xs) ≡ true → test y ≡ true
passes test y xs h = (and_parts (test y) (is_among y xs) (sym (any-filter_same (is_same_text y) test (test y) (λ x e. ap test (sym (text_is y x e))) xs) ∙ h)).0

common_within : (ls ms : List Loop) → (length (common_nest ls ms) ≤ length ls) × (length (common_nest ls ms) ≤ length ms)
common_within [] ms = (omega arith, omega arith)
common_within (l ∷ ls) [] = (omega arith, omega arith)
common_within (l ∷ ls) (m ∷ ms) = let h = common_within ls ms in go (l.number == m.number) h.0 h.1
  where
    go : (b : Bool) → length (common_nest ls ms) ≤ length ls → length (common_nest ls ms) ≤ length ms → (length (if b then l ∷ common_nest ls ms else []) ≤ length (l ∷ ls)) × (length (if b then l ∷ common_nest ls ms else []) ≤ length (m ∷ ms))
    go true h k = (omega (arith, h), omega (arith, k))
    go false h k = (omega arith, omega arith)

-- the number that a value is, 0 where there is none
abbrev number_in : Result ℤ ℕ → ℤ
number_in (Ok n) = n
number_in (Err f) = pos 0

-- what a variable holds at a place
abbrev value_at : Scope → Store → List ℕ → ℤ
value_at scope u x = number_in (variable_value (index_value scope x) u (cell_of scope x)).result

values_told : (scope : Scope) (u : Store) (xs : List (List ℕ)) (is : List Turn) → map (index_value scope) xs ≡ map (λ i. Some i.value) is → map (value_at scope u) xs ≡ map (λ i. i.value) is
values_told scope u [] [] h = refl
values_told scope u [] (i ∷ is) h = absurd cc
values_told scope u (x ∷ xs) [] h = absurd cc
values_told scope u (x ∷ xs) (i ∷ is) h =
    let first : index_value scope x ≡ Some i.value = cc in
    let others : map (index_value scope) xs ≡ map (λ z. Some z.value) is = cc in
    let rest = values_told scope u xs is others in
    λ k. number_in (variable_value (first k) u (cell_of scope x)).result ∷ rest k

-- of values, the first of which are these, those of the common loops, and those of the further ones
front_and_back : (k n : ℕ) (all these : List ℤ) → k ≤ n → take n all ≡ these → (take k all ≡ take k these) × (take (n - k) (drop k all) ≡ drop k these)
front_and_back k n all these h e =
    let back : k + (n - k) ≡ n = omega (arith, h) in (
      sym (take-take k n all h) ∙ ap (take k) e,
      sym (drop-take k (n - k) all) ∙ (ap (λ (m : ℕ). drop k (take m all)) back ∙ ap (drop k) e),
    )

module _ (t : ProgramTree) (o : ℕ) (first : Store) (source sink : Site) (at_source at_sink : Scope) (u v : Store)
    (source_within : AssignWithin t o source.nest) (sink_within : AssignWithin t o sink.nest) (to_source : Reached t (setting_in t o) first source.nest at_source) (to_sink : Reached t (setting_in t o) first sink.nest at_sink)
    (source_store : IsStoreIn (setting_in t o) first u) (sink_store : IsStoreIn (setting_in t o) first v) where
  abbrev s : Setting
  s = setting_in t o

  abbrev k : ℕ
  k = length (common_nest source.nest sink.nest)

  -- the values of the loops' variables come first on each side
  side_parts : (side : Site) (scope : Scope) (w : Store) (others : List (List ℕ)) → k ≤ length side.nest → Reached t s first side.nest scope
      → (take k (side_values (value_at scope w) side others) ≡ take k (map (λ i. i.value) (turns_of scope))) × (take (length side.nest - k) (drop k (side_values (value_at scope w) side others)) ≡ drop k (map (λ i. i.value) (turns_of scope)))
  side_parts side scope w others h reached =
      let loops : length (indices_of side.nest) ≡ length side.nest = length-map side.nest (λ l. l.head.variable) in
      front_and_back k (length side.nest) (side_values (value_at scope w) side others) (map (λ i. i.value) (turns_of scope)) h
      (ap (λ (n : ℕ). take n (side_values (value_at scope w) side others)) (sym loops) ∙ (loops_first (value_at scope w) side others (distinct t s first side.nest scope reached) ∙ values_told scope w (indices_of side.nest) (turns_of scope) (told t s first side.nest scope reached)))

  -- the values of the loops, which no other variables change
  abbrev pub at : Indices
  at = record {
    source = take k (map (λ i. i.value) (turns_of at_source));
    sink = take k (map (λ i. i.value) (turns_of at_sink));
    source_inner = drop k (map (λ i. i.value) (turns_of at_source));
    sink_inner = drop k (map (λ i. i.value) (turns_of at_sink));
  }

  among : (others : List (List ℕ)) → indices_among (depths_of source sink) (side_values (value_at at_source u) source others) (side_values (value_at at_sink v) sink others) ≡ at
  among others =
      let within = common_within source.nest sink.nest in
      let a = side_parts source at_source u others within.0 to_source in
      let b = side_parts sink at_sink v others within.1 to_sink in
      λ i. record { source = a.0 i; sink = b.0 i; source_inner = a.1 i; sink_inner = b.1 i }

  have : (nest : List Loop) (others : List (List ℕ)) (scope : Scope) (w : Store) → HaveValues (terms_of s nest others) (value_at scope w) (names_in (setting_of t) scope) w
  have nest others scope w = record { constants = refl; unknowns = λ x n i e. sym (ap number_in e) }

  -- what belongs to no loop has one value
  agreed : (e g : ExprTree) (x : List ℕ) → is_among x (other_variables s source sink e g) ≡ true → value_at at_source u x ≡ value_at at_sink v x
  agreed e g x h =
      let p = passes (is_other s source sink) x (form_variables e ++ form_variables g) h in
      let q = and_parts (not (is_among x (indices_of source.nest)) && not (is_among x (indices_of sink.nest))) (not (is_among x s.assigned)) p in
      let other = not_true (is_among x s.assigned) q.1 in
      ap (λ z. number_in z.result) (constant_name t o first x other source.nest at_source u source_within to_source source_store ∙ sym (constant_name t o first x other sink.nest at_sink v sink_within to_sink sink_store))

  -- both subscripts of a position that is usable, and that the values solve, come to one number
  values_meet : (e g : ExprTree) (m n : ℤ) → (value (names_in (setting_of t) at_source) e u).result ≡ Ok m → (value (names_in (setting_of t) at_sink) g v).result ≡ Ok n
      → (position_of s source sink e g).usable ≡ true → IsSolvedBy at (position_of s source sink e g) → m ≡ n
  values_meet e g m n x y usable solved =
      let others : List (List ℕ) = other_variables s source sink e g in
      pair_meets (depths_of source sink) (side_values (value_at at_source u) source others) (side_values (value_at at_sink v) sink others)
      (agree s source sink e g (value_at at_source u) (value_at at_sink v) (agreed e g))
      (affine_of (terms_of s source.nest others) e) (affine_of (terms_of s sink.nest others) g) m n
      (λ f h. (value_tells (terms_of s source.nest others) (value_at at_source u) (names_in (setting_of t) at_source) u (have source.nest others at_source u) e m f x h).1)
      (λ f h. (value_tells (terms_of s sink.nest others) (value_at at_sink v) (names_in (setting_of t) at_sink) v (have sink.nest others at_sink v) g n f y h).1)
      usable (subst (λ (values : Indices). IsSolvedBy values (position_of s source sink e g)) (sym (among others)) solved)

  -- so do those of all positions
  pub numbers_meet : (es gs : List ExprTree) (ms ns : List ℤ) → length es ≡ length gs → ComeTo (names_in (setting_of t) at_source) u es ms → ComeTo (names_in (setting_of t) at_sink) v gs ns
      → list_all is_exact_position (positions_of s source sink es gs) ≡ true → AllByRecursion (IsSolvedBy at) (positions_of s source sink es gs) → ms ≡ ns
  numbers_meet [] [] [] [] l x y exact solved = refl
  numbers_meet [] [] [] (n ∷ ns) l x y exact solved = absurd y
  numbers_meet [] [] (m ∷ ms) ns l x y exact solved = absurd x
  numbers_meet [] (g ∷ gs) ms ns l x y exact solved = absurd (omega (arith, l))
  numbers_meet (e ∷ es) [] ms ns l x y exact solved = absurd (omega (arith, l))
  numbers_meet (e ∷ es) (g ∷ gs) [] ns l x y exact solved = absurd x
  numbers_meet (e ∷ es) (g ∷ gs) (m ∷ ms) [] l x y exact solved = absurd y
  numbers_meet (e ∷ es) (g ∷ gs) (m ∷ ms) (n ∷ ns) l x y exact solved =
      let both = and_parts (is_exact_position (position_of s source sink e g)) (list_all is_exact_position (positions_of s source sink es gs)) exact in
      let usable = (and_parts (position_of s source sink e g).usable (is_exact_form (form_of (position_of s source sink e g))) both.0).0 in
      let here = values_meet e g m n x.0 y.0 usable solved.0 in
      let rest = numbers_meet es gs ms ns (omega (arith, l)) x.1 y.1 both.1 solved.1 in
      λ i. here i ∷ rest i
