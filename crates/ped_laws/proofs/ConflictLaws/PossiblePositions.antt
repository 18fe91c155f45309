-- No position excludes the directions in which two places of one execution stand, where both subscripts have equal values.
use Rattle.std.proofs.Common.{◌≡◌, ℕ, suc, ◌+◌, ◌-◌, ◌≤◌, ◌==◌, ℤ, pos, int_eq, List, [], ◌∷◌, ◌++◌, map, filter, take, drop, length, Bool, true, false, not, ◌&&◌, Option, Some, None, Result, Ok, Err, if◌then◌else◌, refl, sym, ap, ◌∙◌, subst, arith}
use Rattle.std.specs.List.{AllByRecursion}
use Rattle.std.specs.Cmp.Lexicographic.{pointwise}
use Rattle.std.specs.Cmp.Rules.{signed_items}
use Rattle.std.proofs.lemmas.Bool.{and_parts}
use Rattle.std.proofs.lemmas.Map.Views.{any-filter_same}
use Rattle.std.proofs.lemmas.List.Elements.{All-from_recursion}
use Rattle.std.proofs.lemmas.List.{length-map, length-append, length-replicate, length-take-le, length-drop, take-take, drop-take}
use Rattle.ped_flow.specs.ped_base.specs.Lists.{is_same_text, is_among}
use Rattle.ped_graph.specs.ped_views.specs.declared.directions.Direction.{Direction}
use Rattle.ped_graph.specs.ped_views.specs.Views.{Range, SubscriptPair}
use Rattle.ped_graph.specs.ped_views.specs.Limits.{FitsLoops}
use Rattle.ped_graph.specs.ped_views.specs.Excluded.{Indices}
use Rattle.ped_graph.specs.ped_views.specs.Vectors.{IsPossible}
use Rattle.ped_flow.specs.ped_tree.specs.Tree.{ExprTree, Head, ProgramTree}
use Rattle.ped_flow.specs.ped_tree.specs.Nests.{Loop, indices_of, common_nest}
use Rattle.ped_eval.specs.ped_store.specs.Cells.{Cell, same_cell}
use Rattle.ped_eval.specs.ped_store.specs.Stores.{Store}
use Rattle.ped_eval.specs.ped_store.specs.Acts.{Turn}
use Rattle.ped_eval.specs.Scopes.{Scope, turns_of, names_in, cell_of, index_value}
use Rattle.ped_eval.specs.Values.{variable_value, value}
use Rattle.ped_eval.specs.Outcomes.{setting_of}
use Rattle.ped_flow.specs.ped_affine.specs.Ranges.{Setting, Around, loop_range, inside, ranges_inside, nest_ranges}
use Rattle.ped_flow.specs.ped_affine.specs.AffineForms.{AffineForm, affine_of, form_variables}
use Rattle.ped_flow.specs.ped_affine.specs.PairViews.{Site, Depths, depths_of, is_other, other_variables, terms_of, other_coefficients, usable_pair, unusable, subscript_pair, position_of, positions_of, heads_of, view_at}
use Rattle.ped_graph.specs.Dependences.{setting_in}
use Rattle.ped_laws.specs.Covering.Weights.{HaveValues}
use Rattle.ped_laws.specs.Covering.Together.{CommonValues, StandTogether, IsSolvedBy, indices_among, side_values}
use Rattle.ped_laws.proofs.CoveringLaws.Cancelling.{position_solved}
use Rattle.ped_laws.proofs.CoveringLaws.FormValues.{value_tells}
use Rattle.ped_laws.proofs.CoveringLaws.Sides.{loops_first, agree}
use Rattle.ped_laws.proofs.CoveringLaws.Solutions.{none_excludes}
use Rattle.ped_laws.proofs.CoveringLaws.Texts.{text_is}
use Rattle.ped_laws.specs.Conflicts.Making.{ComeTo, StandsFor}
use Rattle.ped_laws.specs.Conflicts.Reaching.{IsStoreIn, Reached}
use Rattle.ped_laws.specs.Conflicts.Directions.{StandInDirections}
use Rattle.ped_laws.proofs.ConflictLaws.PossibleNames.{AssignWithin}
use Rattle.ped_laws.proofs.ConflictLaws.PossibleOwn.{not_true, constant_name}
use Rattle.ped_laws.proofs.ConflictLaws.PossibleTurns.{turns_reached, in_nest, distinct, told}
use Rattle.ped_laws.proofs.ConflictLaws.PossibleCommon.{Fit, common}

-- a name that is kept passes the test
passes : (test : List ℕ → Bool) (y : List ℕ) (xs : List (List ℕ)) → is_among y (filter test xs) ≡ true → test y ≡ true
passes test y xs h = (and_parts (test y) (is_among y xs) (sym (any-filter_same (is_same_text y) test (test y) (λ x e. ap test (sym (text_is y x e))) xs) ∙ h)).0

common_within : (ls ms : List Loop) → (length (common_nest ls ms) ≤ length ls) × (length (common_nest ls ms) ≤ length ms)
common_within [] ms = (omega arith, omega arith)
common_within (l ∷ ls) [] = (omega arith, omega arith)
common_within (l ∷ ls) (m ∷ ms) = let h = common_within ls ms in go (l.number == m.number) h.0 h.1
  where
    go : (b : Bool) → length (common_nest ls ms) ≤ length ls → length (common_nest ls ms) ≤ length ms → (length (if b then l ∷ common_nest ls ms else []) ≤ length (l ∷ ls)) × (length (if b then l ∷ common_nest ls ms else []) ≤ length (m ∷ ms))
    go true h k = (omega (arith, h), omega (arith, k))
    go false h k = (omega arith, omega arith)

ranges_long : (s : Setting) (around : Around) (hs : List Head) → length (ranges_inside s around hs) ≡ length hs
ranges_long s around [] = refl
ranges_long s around (h ∷ hs) = ap suc (ranges_long s (inside around h (loop_range s around h)) hs)

as_many : (rs : List Range) (ds : List Direction) (is js : List ℤ) → CommonValues rs ds is js → length ds ≡ length rs
as_many (r ∷ rs) (d ∷ ds) (i ∷ is) (j ∷ js) h = ap suc (as_many rs ds is js h.1)
as_many [] [] [] [] h = refl
as_many [] (d ∷ ds) is js h = absurd h
as_many [] [] (i ∷ is) js h = absurd h
as_many [] [] [] (j ∷ js) h = absurd h
as_many (r ∷ rs) [] is js h = absurd h
as_many (r ∷ rs) (d ∷ ds) [] js h = absurd h
as_many (r ∷ rs) (d ∷ ds) (i ∷ is) [] h = absurd h

-- both subscripts have a coefficient for each loop round their side
fits : (n : Depths) (a b : Option AffineForm) → ((f : AffineForm) → a ≡ Some f → n.common + n.source ≤ length f.coefficients) → ((f : AffineForm) → b ≡ Some f → n.common + n.sink ≤ length f.coefficients)
    → FitsLoops n.common n.source n.sink (subscript_pair n a b)
fits n a b h k = by a b h k
  where
    none : FitsLoops n.common n.source n.sink (unusable n)
    none = record {
      source_common = length-replicate n.common (pos 0);
      sink_common = length-replicate n.common (pos 0);
      source_inner = length-replicate n.source (pos 0);
      sink_inner = length-replicate n.sink (pos 0);
    }

    inner : (c : ℕ) (m : ℕ) (xs : List ℤ) → c + m ≤ length xs → length (take m (drop c xs)) ≡ m
    inner c m xs l = length-take-le m (drop c xs) (let d = length-drop c xs in omega (arith, d, l))

    by : (a b : Option AffineForm) → ((f : AffineForm) → a ≡ Some f → n.common + n.source ≤ length f.coefficients) → ((f : AffineForm) → b ≡ Some f → n.common + n.sink ≤ length f.coefficients) → FitsLoops n.common n.source n.sink (subscript_pair n a b)
    by None b h k = none
    by (Some f) None h k = none
    by (Some f) (Some g) h k = test (pointwise int_eq (other_coefficients n.common n.source f) (other_coefficients n.common n.sink g))
      where
        test : (c : Bool) → FitsLoops n.common n.source n.sink (if c then usable_pair n f g else unusable n)
        test false = none
        test true =
            let p = h f refl in
            let q = k g refl in
            record {
              source_common = length-take-le n.common f.coefficients (omega (arith, p));
              sink_common = length-take-le n.common g.coefficients (omega (arith, q));
              source_inner = inner n.common n.source f.coefficients p;
              sink_inner = inner n.common n.sink g.coefficients q;
            }

-- the number that a value is, 0 where there is none
abbrev number_in : Result ℤ ℕ → ℤ
number_in (Ok n) = n
number_in (Err f) = pos 0

-- what a variable holds at a place
abbrev value_at : Scope → Store → List ℕ → ℤ
value_at scope u x = number_in (variable_value (index_value scope x) u (cell_of scope x)).result

values_told : (scope : Scope) (u : Store) (xs : List (List ℕ)) (is : List Turn) → map (index_value scope) xs ≡ map (λ i. Some i.value) is → map (value_at scope u) xs ≡ map (λ i. i.value) is
values_told scope u [] [] h = refl
values_told scope u [] (i ∷ is) h = absurd cc
values_told scope u (x ∷ xs) [] h = absurd cc
values_told scope u (x ∷ xs) (i ∷ is) h =
    let first : index_value scope x ≡ Some i.value = cc in
    let others : map (index_value scope) xs ≡ map (λ z. Some z.value) is = cc in
    let rest = values_told scope u xs is others in
    λ k. number_in (variable_value (first k) u (cell_of scope x)).result ∷ rest k

-- of values, the first of which are these, those of the common loops, and those of the further ones
front_and_back : (k n : ℕ) (all these : List ℤ) → k ≤ n → take n all ≡ these → (take k all ≡ take k these) × (take (n - k) (drop k all) ≡ drop k these)
front_and_back k n all these h e =
    let back : k + (n - k) ≡ n = omega (arith, h) in (
      sym (take-take k n all h) ∙ ap (take k) e,
      sym (drop-take k (n - k) all) ∙ (ap (λ (m : ℕ). drop k (take m all)) back ∙ ap (drop k) e),
    )

module _ (t : ProgramTree) (o : ℕ) (first : Store) (source sink : Site) (at_source at_sink : Scope) (u v : Store) (vector : List Direction)
    (source_within : AssignWithin t o source.nest) (sink_within : AssignWithin t o sink.nest) (to_source : Reached t (setting_in t o) first source.nest at_source) (to_sink : Reached t (setting_in t o) first sink.nest at_sink)
    (source_store : IsStoreIn (setting_in t o) first u) (sink_store : IsStoreIn (setting_in t o) first v) (stands : StandInDirections t (turns_of at_source) (turns_of at_sink) vector) where
  abbrev s : Setting
  s = setting_in t o

  abbrev k : ℕ
  k = length (common_nest source.nest sink.nest)

  fit : Fit t o first k (nest_ranges s (heads_of source.nest)) (nest_ranges s (heads_of sink.nest)) vector (map (λ i. i.value) (turns_of at_source)) (map (λ i. i.value) (turns_of at_sink))
  fit = common t o first [] source.nest sink.nest (turns_of at_source) (turns_of at_sink) vector (turns_reached t o first source.nest at_source source_within to_source) (turns_reached t o first sink.nest at_sink sink_within to_sink)
      (in_nest t o first source.nest at_source to_source).iterations (in_nest t o first sink.nest at_sink to_sink).iterations stands

  pub long : length vector ≡ length (view_at s source sink).loops
  long = as_many (take k (nest_ranges s (heads_of source.nest))) vector (take k (map (λ i. i.value) (turns_of at_source))) (take k (map (λ i. i.value) (turns_of at_sink))) fit.0

  -- one coefficient for each loop of the view
  abbrev Fits : SubscriptPair → Type 0
  Fits = FitsLoops (length (view_at s source sink).loops) (length (view_at s source sink).source_inner) (length (view_at s source sink).sink_inner)

  -- the values of the loops' variables come first on each side
  side_parts : (side : Site) (scope : Scope) (w : Store) (others : List (List ℕ)) → k ≤ length side.nest → Reached t s first side.nest scope
      → (take k (side_values (value_at scope w) side others) ≡ take k (map (λ i. i.value) (turns_of scope))) × (take (length side.nest - k) (drop k (side_values (value_at scope w) side others)) ≡ drop k (map (λ i. i.value) (turns_of scope)))
  side_parts side scope w others h reached =
      let loops : length (indices_of side.nest) ≡ length side.nest = length-map side.nest (λ l. l.head.variable) in
      front_and_back k (length side.nest) (side_values (value_at scope w) side others) (map (λ i. i.value) (turns_of scope)) h
      (ap (λ (n : ℕ). take n (side_values (value_at scope w) side others)) (sym loops) ∙ (loops_first (value_at scope w) side others (distinct t s first side.nest scope reached) ∙ values_told scope w (indices_of side.nest) (turns_of scope) (told t s first side.nest scope reached)))

  -- the values of the loops, which no other variables change
  abbrev at : Indices
  at = record {
    source = take k (map (λ i. i.value) (turns_of at_source));
    sink = take k (map (λ i. i.value) (turns_of at_sink));
    source_inner = drop k (map (λ i. i.value) (turns_of at_source));
    sink_inner = drop k (map (λ i. i.value) (turns_of at_sink));
  }

  together : StandTogether (view_at s source sink) vector at
  together = record { common = fit.0; source_inner = fit.1; sink_inner = fit.2 }

  among : (others : List (List ℕ)) → indices_among (depths_of source sink) (side_values (value_at at_source u) source others) (side_values (value_at at_sink v) sink others) ≡ at
  among others =
      let within = common_within source.nest sink.nest in
      let a = side_parts source at_source u others within.0 to_source in
      let b = side_parts sink at_sink v others within.1 to_sink in
      λ i. record { source = a.0 i; sink = b.0 i; source_inner = a.1 i; sink_inner = b.1 i }

  have : (nest : List Loop) (others : List (List ℕ)) (scope : Scope) (w : Store) → HaveValues (terms_of s nest others) (value_at scope w) (names_in (setting_of t) scope) w
  have nest others scope w = record { constants = refl; unknowns = λ x n i e. sym (ap number_in e) }

  -- what belongs to no loop has one value
  agreed : (e g : ExprTree) (x : List ℕ) → is_among x (other_variables s source sink e g) ≡ true → value_at at_source u x ≡ value_at at_sink v x
  agreed e g x h =
      let p = passes (is_other s source sink) x (form_variables e ++ form_variables g) h in
      let q = and_parts (not (is_among x (indices_of source.nest)) && not (is_among x (indices_of sink.nest))) (not (is_among x s.assigned)) p in
      let other = not_true (is_among x s.assigned) q.1 in
      ap (λ z. number_in z.result) (constant_name t o first x other source.nest at_source u source_within to_source source_store ∙ sym (constant_name t o first x other sink.nest at_sink v sink_within to_sink sink_store))

  covered : (side : Site) (e : ExprTree) (others : List (List ℕ)) (scope : Scope) (w : Store) (n : ℤ) → k ≤ length side.nest → (value (names_in (setting_of t) scope) e w).result ≡ Ok n
      → (f : AffineForm) → affine_of (terms_of s side.nest others) e ≡ Some f → k + (length side.nest - k) ≤ length f.coefficients
  covered side e others scope w n h comes f is =
      let complete : length f.coefficients ≡ length (indices_of side.nest ++ others) = (value_tells (terms_of s side.nest others) (value_at scope w) (names_in (setting_of t) scope) w (have side.nest others scope w) e n f comes is).0 in
      let parts : length (indices_of side.nest ++ others) ≡ length (indices_of side.nest) + length others = length-append (indices_of side.nest) others in
      let loops : length (indices_of side.nest) ≡ length side.nest = length-map side.nest (λ l. l.head.variable) in
      omega (arith, h, complete, parts, loops)

  -- both subscripts of a position that come to one number fit the view and are equal at the values of the loops
  solved_at : (e g : ExprTree) (n : ℤ) → (value (names_in (setting_of t) at_source) e u).result ≡ Ok n → (value (names_in (setting_of t) at_sink) g v).result ≡ Ok n → Fits (position_of s source sink e g) × IsSolvedBy at (position_of s source sink e g)
  solved_at e g n x y =
      let others : List (List ℕ) = other_variables s source sink e g in
      let d : Depths = depths_of source sink in
      let within = common_within source.nest sink.nest in
      let f = fits d (affine_of (terms_of s source.nest others) e) (affine_of (terms_of s sink.nest others) g) (covered source e others at_source u n within.0 x) (covered sink g others at_sink v n within.1 y) in
      let source_heads : length (heads_of source.nest) ≡ length source.nest = length-map source.nest (λ l. l.head) in
      let sink_heads : length (heads_of sink.nest) ≡ length sink.nest = length-map sink.nest (λ l. l.head) in
      let source_ranges : length (nest_ranges s (heads_of source.nest)) ≡ length source.nest = ranges_long s [] (heads_of source.nest) ∙ source_heads in
      let sink_ranges : length (nest_ranges s (heads_of sink.nest)) ≡ length sink.nest = ranges_long s [] (heads_of sink.nest) ∙ sink_heads in
      let few : k ≤ length (nest_ranges s (heads_of source.nest)) = (let w = within.0 in omega (arith, w, source_ranges)) in
      let loops : length (view_at s source sink).loops ≡ k = length-take-le k (nest_ranges s (heads_of source.nest)) few in
      let source_further : length (view_at s source sink).source_inner ≡ length source.nest - k = length-drop k (nest_ranges s (heads_of source.nest)) ∙ ap (λ (m : ℕ). m - k) source_ranges in
      let sink_further : length (view_at s source sink).sink_inner ≡ length sink.nest - k = length-drop k (nest_ranges s (heads_of sink.nest)) ∙ ap (λ (m : ℕ). m - k) sink_ranges in (
        record { source_common = f.source_common ∙ sym loops; sink_common = f.sink_common ∙ sym loops; source_inner = f.source_inner ∙ sym source_further; sink_inner = f.sink_inner ∙ sym sink_further },
        subst (λ (values : Indices). IsSolvedBy values (position_of s source sink e g)) (among others)
            (position_solved s source sink e g (value_at at_source u) (value_at at_sink v) (names_in (setting_of t) at_source) (names_in (setting_of t) at_sink) u v n (have source.nest others at_source u) (have sink.nest others at_sink v)
            (agree s source sink e g (value_at at_source u) (value_at at_sink v) (agreed e g)) x y),
      )

  -- all positions of subscripts that come to the same numbers
  all_solved : (es gs : List ExprTree) (ns : List ℤ) → ComeTo (names_in (setting_of t) at_source) u es ns → ComeTo (names_in (setting_of t) at_sink) v gs ns
      → AllByRecursion Fits (positions_of s source sink es gs) × AllByRecursion (IsSolvedBy at) (positions_of s source sink es gs)
  all_solved [] gs ns x y = (tt, tt)
  all_solved (e ∷ es) [] ns x y = (tt, tt)
  all_solved (e ∷ es) (g ∷ gs) [] x y = absurd x
  all_solved (e ∷ es) (g ∷ gs) (n ∷ ns) x y =
      let h = solved_at e g n x.0 y.0 in
      let rest = all_solved es gs ns x.1 y.1 in
      ((h.0, rest.0), (h.1, rest.1))

  -- subscripts that stand for one cell
  all_meet : (es gs : List ExprTree) (x y : List ℕ) (c d : Cell) → StandsFor t (names_in (setting_of t) at_source) u x es c → StandsFor t (names_in (setting_of t) at_sink) v y gs d → same_cell c d ≡ true
      → AllByRecursion Fits (positions_of s source sink es gs) × AllByRecursion (IsSolvedBy at) (positions_of s source sink es gs)
  all_meet [] gs x y c d p q h = (tt, tt)
  all_meet (e ∷ es) [] x y c d p q h = (tt, tt)
  all_meet (e ∷ es) (g ∷ gs) x y c d p q h =
      let both : (is_same_text x y && pointwise int_eq p.0 q.0) ≡ true = (λ i. same_cell (sym p.2 i) (sym q.2 i)) ∙ h in
      let numbers : p.0 ≡ q.0 = (signed_items p.0 q.0).0 (and_parts (is_same_text x y) (pointwise int_eq p.0 q.0) both).1 in
      all_solved (e ∷ es) (g ∷ gs) q.0 (subst (λ (ns : List ℤ). ComeTo (names_in (setting_of t) at_source) u (e ∷ es) ns) numbers p.1) q.1

  -- no position and no group excludes the directions of accesses to one cell
  pub cells_meet : (x y : List ℕ) (c d : Cell) → StandsFor t (names_in (setting_of t) at_source) u x source.subscripts c → StandsFor t (names_in (setting_of t) at_sink) v y sink.subscripts d → same_cell c d ≡ true → IsPossible (view_at s source sink) vector
  cells_meet x y c d p q h =
      let all = all_meet source.subscripts sink.subscripts x y c d p q h in
      let positions = positions_of s source sink source.subscripts sink.subscripts in
      none_excludes (view_at s source sink) vector at (All-from_recursion Fits positions all.0) together (All-from_recursion (IsSolvedBy at) positions all.1)
