-- What a store keeps before the first statement, by the names of the program with their kinds.
use Rattle.std.proofs.Common.{◌≡◌, ℕ, ℤ, List, [], ◌∷◌, ◌++◌, map, length, Bool, true, false, ◌&&◌, ◌==◌, Option, Some, None, refl, sym, ap, ◌∙◌, if◌then◌else◌}
use Rattle.std.specs.Prelude.{◌||◌}
use Rattle.std.specs.List.{flat_map}
use Rattle.std.specs.Option.{option_to_list}
use Rattle.ped_base.specs.Dimensions.{Dimensions}
use Rattle.ped_base.specs.Lists.{has_some, is_same_text, is_among}
use Rattle.ped_symbols.specs.declared.symbols.Kind.{Kind}
use Rattle.ped_symbols.specs.declared.symbols.Kind.TheVariants.{Scalar, Array, Constant}
use Rattle.ped_symbols.specs.Entries.{entry_of}
use Rattle.ped_symbols.specs.Kinds.{Table}
use Rattle.ped_store.specs.declared.shapes.Shape.{Shape}
use Rattle.ped_store.specs.Cells as Cells
use Rattle.ped_store.specs.Memories.{bounds_among, is_shape, stands_among, memory_at_start}
use Rattle.ped_store.specs.Variables.{no_dimensions}
use Rattle.ped_eval.specs.Outcomes.{bounds_of}
use Rattle.ped_eval.specs.Live.{shape_by, shapes_by}
use Rattle.ped_symbols.specs.RightUses.RightUses.{NameKinds, is_scalar_kind, is_array_kind, is_rank}
use Rattle.ped_eval.specs.Readiness.{IsReady}
use Rattle.ped_base.proofs.NameEquality.{same_is}

-- the shapes of names by their kinds
abbrev pub shapes_with : NameKinds → List (List ℕ × Kind) → List Shape
shapes_with k es = flat_map (λ e. option_to_list (shape_by e.0 (k e.0))) es

abbrev names : List (List ℕ × Kind) → List (List ℕ)
names es = map (λ e. e.0) es

-- a name that isn't there has no kind
unknown : (es : List (List ℕ × Kind)) (x : List ℕ) → is_among x (names es) ≡ false → entry_of es x ≡ None
unknown [] x h = refl
unknown (e ∷ es) x h = go (is_same_text x e.0) h (unknown es x)
  where
    go : (r : Bool) → (r || is_among x (names es)) ≡ false → (is_among x (names es) ≡ false → entry_of es x ≡ None) → (if r then Some e.1 else entry_of es x) ≡ None
    go true h more = absurd cc
    go false h more = more h

no_some : {X : Type 0} {x : X} → Some x ≡ None → ⊥
no_some h = cc

-- a name with a kind is there
known : (es : List (List ℕ × Kind)) (x : List ℕ) (kind : Kind) → entry_of es x ≡ Some kind → is_among x (names es) ≡ true
known es x kind h = go (is_among x (names es)) (unknown es x)
  where
    go : (r : Bool) → (r ≡ false → entry_of es x ≡ None) → r ≡ true
    go true none = refl
    go false none = absurd (no_some (sym h ∙ none refl))

-- the bounds of a name are those of its kind
bounds_found : (k : NameKinds) (es : List (List ℕ × Kind)) (x : List ℕ) → (is_among x (names es) ≡ false → bounds_of (k x) ≡ no_dimensions)
    → bounds_among (shapes_with k es) x ≡ bounds_of (k x)
bounds_found k [] x none = sym (none refl)
bounds_found k (e ∷ es) x none = go (k e.0) refl (is_same_text x e.0) refl none (bounds_found k es x)
  where
    same_kind : (o : Option Kind) → k e.0 ≡ o → is_same_text x e.0 ≡ true → k x ≡ o
    same_kind o ke same = ap k (same_is x e.0 same) ∙ ke

    go : (o : Option Kind) → k e.0 ≡ o → (r : Bool) → is_same_text x e.0 ≡ r → ((r || is_among x (names es)) ≡ false → bounds_of (k x) ≡ no_dimensions)
        → ((is_among x (names es) ≡ false → bounds_of (k x) ≡ no_dimensions) → bounds_among (shapes_with k es) x ≡ bounds_of (k x)) → bounds_among (option_to_list (shape_by e.0 o) ++ shapes_with k es) x ≡ bounds_of (k x)
    go None ke true same none more = more (λ _. ap bounds_of (same_kind None ke same))
    go None ke false same none more = more none
    go (Some (Constant n)) ke true same none more = more (λ _. ap bounds_of (same_kind (Some (Constant n)) ke same))
    go (Some (Constant n)) ke false same none more = more none
    go (Some Scalar) ke true same none more = ap (λ (b : Bool). if b then no_dimensions else bounds_among (shapes_with k es) x) same ∙ sym (ap bounds_of (same_kind (Some Scalar) ke same))
    go (Some Scalar) ke false same none more = ap (λ (b : Bool). if b then no_dimensions else bounds_among (shapes_with k es) x) same ∙ more none
    go (Some (Array d)) ke true same none more = ap (λ (b : Bool). if b then d else bounds_among (shapes_with k es) x) same ∙ sym (ap bounds_of (same_kind (Some (Array d)) ke same))
    go (Some (Array d)) ke false same none more = ap (λ (b : Bool). if b then d else bounds_among (shapes_with k es) x) same ∙ more none

-- the kind has a shape
abbrev has_shape : Option Kind → Bool
has_shape None = false
has_shape (Some Scalar) = true
has_shape (Some (Array d)) = true
has_shape (Some (Constant n)) = false

-- a scalar or an array is among the shapes
shape_found : (k : NameKinds) (es : List (List ℕ × Kind)) (x : List ℕ) → has_shape (k x) ≡ true → is_among x (names es) ≡ true → is_shape (shapes_with k es) x ≡ true
shape_found k [] x has among = absurd cc
shape_found k (e ∷ es) x has among = go (k e.0) refl (is_same_text x e.0) refl among (shape_found k es x has)
  where
    or_true : (b c : Bool) → c ≡ true → (b || c) ≡ true
    or_true true c h = refl
    or_true false c h = h

    wrong : (o : Option Kind) → k e.0 ≡ o → is_same_text x e.0 ≡ true → has_shape o ≡ true
    wrong o ke same = ap has_shape (sym (ap k (same_is x e.0 same) ∙ ke)) ∙ has

    go : (o : Option Kind) → k e.0 ≡ o → (r : Bool) → is_same_text x e.0 ≡ r → (r || is_among x (names es)) ≡ true
        → (is_among x (names es) ≡ true → is_shape (shapes_with k es) x ≡ true) → is_shape (option_to_list (shape_by e.0 o) ++ shapes_with k es) x ≡ true
    go None ke true same h more = let e : false ≡ true = wrong None ke same in absurd cc
    go None ke false same h more = more h
    go (Some (Constant n)) ke true same h more = let e : false ≡ true = wrong (Some (Constant n)) ke same in absurd cc
    go (Some (Constant n)) ke false same h more = more h
    go (Some Scalar) ke true same h more = ap (λ (b : Bool). b || is_shape (shapes_with k es) x) same
    go (Some Scalar) ke false same h more = or_true (is_same_text x e.0) (is_shape (shapes_with k es) x) (more h)
    go (Some (Array d)) ke true same h more = ap (λ (b : Bool). b || is_shape (shapes_with k es) x) same
    go (Some (Array d)) ke false same h more = or_true (is_same_text x e.0) (is_shape (shapes_with k es) x) (more h)

module _ (table : Table) (data_lines : List (List ℕ)) where
  bounds_start : (x : List ℕ) → bounds_among (shapes_by table.kinds) x ≡ bounds_of (entry_of table.kinds x)
  bounds_start x = bounds_found (entry_of table.kinds) table.kinds x (λ h. ap bounds_of (unknown table.kinds x h))

  scalar_stands : (x : List ℕ) (o : Option Kind) → entry_of table.kinds x ≡ o → is_scalar_kind o ≡ true → stands_among (shapes_by table.kinds) (Cells.Scalar x) ≡ true
  scalar_stands x None e h = absurd cc
  scalar_stands x (Some (Array d)) e h = absurd cc
  scalar_stands x (Some (Constant n)) e h = absurd cc
  scalar_stands x (Some Scalar) e h =
      ap (λ (b : Bool). b && (length (bounds_among (shapes_by table.kinds) x).lower == 0)) (shape_found (entry_of table.kinds) table.kinds x (ap has_shape e) (known table.kinds x Scalar e))
      ∙ ap (λ (d : Dimensions). length d.lower == 0) (bounds_start x ∙ ap bounds_of e)

  has_one : (js : List ℤ) → is_rank (length js) ≡ true → has_some js ≡ true
  has_one [] h = absurd cc
  has_one (j ∷ js) h = refl

  and_first : (b c : Bool) → (b && c) ≡ true → b ≡ true
  and_first true c h = refl
  and_first false c h = absurd cc

  element_stands : (x : List ℕ) (js : List ℤ) (o : Option Kind) → entry_of table.kinds x ≡ o → is_array_kind (length js) o ≡ true → is_rank (length js) ≡ true → stands_among (shapes_by table.kinds) (Cells.Element x js) ≡ true
  element_stands x js None e h right = absurd cc
  element_stands x js (Some Scalar) e h right = absurd cc
  element_stands x js (Some (Constant n)) e h right = absurd cc
  element_stands x js (Some (Array d)) e h right =
      ap (λ (b : Bool). b && has_some js && (length (bounds_among (shapes_by table.kinds) x).lower == length js)) (shape_found (entry_of table.kinds) table.kinds x (ap has_shape e) (known table.kinds x (Array d) e))
      ∙ ap (λ (b : Bool). b && (length (bounds_among (shapes_by table.kinds) x).lower == length js)) (has_one js right)
      ∙ ap (λ (d : Dimensions). length d.lower == length js) (bounds_start x ∙ ap bounds_of e)
      ∙ and_first (length d.lower == length js) (length d.upper == length js) h

  -- before the first statement all that can be written stands
  pub ready_at_start : IsReady table [] (memory_at_start (shapes_by table.kinds) data_lines)
  ready_at_start = record {
    bounds = λ i x. bounds_start x i;
    scalars = λ x h. scalar_stands x (entry_of table.kinds x) refl h;
    elements = λ x js h right. element_stands x js (entry_of table.kinds x) refl h right;
    copies = tt;
  }
