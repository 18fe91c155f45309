-- Arrays declared behind the other declarations: the same names are saved, the constants are the same, and other names stand for what they stood for.
use Rattle.std.proofs.Common.{◌≡◌, ℕ, ℤ, List, [], ◌∷◌, ◌++◌, Bool, true, false, ◌||◌, append-nil, inl, inr, refl, sym, ap, subst, ◌∙◌}
use Rattle.std.specs.Prelude.{nat_lt, unsigned_abs}
use Rattle.std.specs.Int.{int_min, int_max}
use Rattle.std.specs.List.{flat_map, list_any}
use Rattle.std.proofs.lemmas.Bool.{both_ways, or_parts}
use Rattle.std.proofs.lemmas.List.{append_assoc}
use Rattle.std.proofs.lemmas.List.Concat.{flat_map-append}
use Rattle.ped_base.specs.Lists.{is_same_text, is_among}
use Rattle.ped_base.proofs.NameEquality.{same_is, same_flip}
use Rattle.ped_tree.specs.NamesIn.{saved_in}
use Rattle.ped_tree.specs.Tree.{DeclTree, StmtTrees, ProgramTree}
use Rattle.ped_rules.specs.ped_symbols.specs.Kinds.{kind_of, names_of, at_last}
use Rattle.ped_rules.specs.ped_symbols.specs.declared.symbols.Kind.TheVariants.{Array}
use Rattle.ped_rules.specs.ped_flow.proofs.Truths.{untrue, or_split}
use Rattle.ped_rules.specs.ped_laws.specs.Acts.Orders.{IsIn}
use Rattle.ped_rules.specs.ped_steps.specs.Runs.Expanding.{array_decl, array_bounds}
use Rattle.ped_rules.specs.ped_steps.proofs.RunLaws.DeclaredArrays.{names_more, names_besides, array_named, values_same, kind_same, kind_there}
use Rattle.ped_rules.specs.Spans.{Span}
use Rattle.ped_reduce.specs.Lowering.{Partials, declarations}
use Rattle.ped_reduce.proofs.SumStores.{is_array_of, is_array, AreDistinct, AreThree, high_array, low_array, flag_array}
use Rattle.ped_reduce.proofs.SumExits.{AllDistinct}

-- they save nothing
saved_none : (v : Span) (ps : List Partials) → flat_map saved_in (declarations v ps) ≡ []
saved_none v [] = refl
saved_none v (p ∷ ps) = saved_none v ps

pub saved_declared : (ds : List DeclTree) (v : Span) (ps : List Partials) → flat_map saved_in (ds ++ declarations v ps) ≡ flat_map saved_in ds
saved_declared ds v ps = flat_map-append saved_in ds (declarations v ps) ∙ ap (λ (xs : List (List ℕ)). flat_map saved_in ds ++ xs) (saved_none v ps) ∙ append-nil (flat_map saved_in ds)

module _ (v : Span) (body : StmtTrees) (near : nat_lt 2147483647 (unsigned_abs (int_min v.first v.last)) ≡ false) (far : nat_lt 2147483647 (unsigned_abs (int_max v.first v.last)) ≡ false) where
  abbrev lo : ℤ
  lo = int_min v.first v.last

  abbrev hi : ℤ
  hi = int_max v.first v.last

  -- a program with these declarations
  abbrev pub program : List DeclTree → ProgramTree
  program ds = record { decls = ds; body = body }

  -- with the declaration of one array more
  abbrev one_more : List DeclTree → List ℕ → List DeclTree
  one_more ds x = ds ++ array_decl x (int_min v.first v.last) (int_max v.first v.last) ∷ []

  -- three more, and then others
  three_more : (ds : List DeclTree) (p : Partials) (ps : List Partials) → ds ++ declarations v (p ∷ ps) ≡ one_more (one_more (one_more ds p.high) p.low) p.flag ++ declarations v ps
  three_more ds p ps =
      let first = array_decl p.high lo hi in
      let second = array_decl p.low lo hi in
      let third = array_decl p.flag lo hi in
      let rest = declarations v ps in
      sym (append_assoc ds (first ∷ []) (second ∷ (third ∷ rest))) ∙ sym (append_assoc (one_more ds p.high) (second ∷ []) (third ∷ rest)) ∙ sym (append_assoc (one_more (one_more ds p.high) p.low) (third ∷ []) rest)

  -- the constants stay
  pub values_declared : (ps : List Partials) (ds : List DeclTree) → (at_last (program (ds ++ declarations v ps))).values ≡ (at_last (program ds)).values
  values_declared [] ds = ap (λ (es : List DeclTree). (at_last (program es)).values) (append-nil ds)
  values_declared (p ∷ ps) ds =
      ap (λ (es : List DeclTree). (at_last (program es)).values) (three_more ds p ps)
      ∙ values_declared ps (one_more (one_more (one_more ds p.high) p.low) p.flag)
      ∙ values_same (program (one_more (one_more ds p.high) p.low)) body p.flag lo hi near far
      ∙ values_same (program (one_more ds p.high)) body p.low lo hi near far
      ∙ values_same (program ds) body p.high lo hi near far

  -- other names stand for what they stood for
  pub kinds_declared : (ps : List Partials) (ds : List DeclTree) (y : List ℕ) → is_array ps y ≡ false → kind_of (program (ds ++ declarations v ps)) y ≡ kind_of (program ds) y
  kinds_declared [] ds y none = ap (λ (es : List DeclTree). kind_of (program es) y) (append-nil ds)
  kinds_declared (p ∷ ps) ds y none =
      let parts = or_parts (is_array_of p y) (is_array ps y) none in
      let high = or_parts (is_same_text y p.high) (is_same_text y p.low || is_same_text y p.flag) parts.0 in
      let low = or_parts (is_same_text y p.low) (is_same_text y p.flag) high.1 in
      ap (λ (es : List DeclTree). kind_of (program es) y) (three_more ds p ps)
      ∙ kinds_declared ps (one_more (one_more (one_more ds p.high) p.low) p.flag) y parts.1
      ∙ kind_same (program (one_more (one_more ds p.high) p.low)) body p.flag lo hi near far y low.1
      ∙ kind_same (program (one_more ds p.high)) body p.low lo hi near far y low.0
      ∙ kind_same (program ds) body p.high lo hi near far y high.0

  -- and other names are those that there were
  pub names_declared : (ps : List Partials) (ds : List DeclTree) (y : List ℕ) → is_array ps y ≡ false → is_among y (names_of (program (ds ++ declarations v ps))) ≡ is_among y (names_of (program ds))
  names_declared [] ds y none = ap (λ (es : List DeclTree). is_among y (names_of (program es))) (append-nil ds)
  names_declared (p ∷ ps) ds y none =
      let parts = or_parts (is_array_of p y) (is_array ps y) none in
      let high = or_parts (is_same_text y p.high) (is_same_text y p.low || is_same_text y p.flag) parts.0 in
      let low = or_parts (is_same_text y p.low) (is_same_text y p.flag) high.1 in
      ap (λ (es : List DeclTree). is_among y (names_of (program es))) (three_more ds p ps)
      ∙ names_declared ps (one_more (one_more (one_more ds p.high) p.low) p.flag) y parts.1
      ∙ names_besides (program (one_more (one_more ds p.high) p.low)) body p.flag lo hi y low.1
      ∙ names_besides (program (one_more ds p.high)) body p.low lo hi y low.0
      ∙ names_besides (program ds) body p.high lo hi y high.0

  -- a name that occurs still does
  named_more : (ds : List DeclTree) (x y : List ℕ) → is_among y (names_of (program ds)) ≡ true → is_among y (names_of (program (one_more ds x))) ≡ true
  named_more ds x y h = names_more (program ds) body x lo hi y ∙ ap (λ (b : Bool). b || is_same_text y x) h

  named_still : (ps : List Partials) (ds : List DeclTree) (y : List ℕ) → is_among y (names_of (program ds)) ≡ true → is_among y (names_of (program (ds ++ declarations v ps))) ≡ true
  named_still [] ds y h = ap (λ (es : List DeclTree). is_among y (names_of (program es))) (append-nil ds) ∙ h
  named_still (p ∷ ps) ds y h =
      ap (λ (es : List DeclTree). is_among y (names_of (program es))) (three_more ds p ps)
      ∙ named_still ps (one_more (one_more (one_more ds p.high) p.low) p.flag) y (named_more (one_more (one_more ds p.high) p.low) p.flag y (named_more (one_more ds p.high) p.low y (named_more ds p.high y h)))

  -- the name is that of an array from the least to the greatest value
  abbrev pub IsDeclared : List DeclTree → List ℕ → Type 0
  IsDeclared ds x = (is_among x (names_of (program ds)) ≡ true) × (kind_of (program ds) x ≡ Array (array_bounds lo hi))

  declared_then : (ds : List DeclTree) (x y : List ℕ) → is_same_text y x ≡ false → IsDeclared ds y → IsDeclared (one_more ds x) y
  declared_then ds x y other h = (named_more ds x y h.0, kind_same (program ds) body x lo hi near far y other ∙ h.1)

  declared_behind : (ps : List Partials) (ds : List DeclTree) (y : List ℕ) → is_array ps y ≡ false → IsDeclared ds y → IsDeclared (ds ++ declarations v ps) y
  declared_behind ps ds y none h = (named_still ps ds y h.0, kinds_declared ps ds y none ∙ h.1)

  -- arrays of other scalars are others
  none_in : {A : Type 0} (f : A → Bool) (xs : List A) → ((a : A) → IsIn a xs → f a ≡ false) → list_any f xs ≡ false
  none_in f [] none = refl
  none_in f (x ∷ xs) none = λ i. none x (inl refl) i || none_in f xs (λ a j. none a (inr j)) i

  own_no_others : (p : Partials) (ps : List Partials) (x : List ℕ) → ((o : Partials) → IsIn o ps → AreDistinct p o) → is_array_of p x ≡ true → is_array ps x ≡ false
  own_no_others p ps x distinct i = none_in (λ o. is_array_of o x) ps (λ o j. (let d = distinct o j in elim (or_split (is_same_text x p.high) (is_same_text x p.low || is_same_text x p.flag) i) [
    | inl e ↦ ap (is_array_of o) (same_is x p.high e) ∙ d.high
    | inr k ↦ elim (or_split (is_same_text x p.low) (is_same_text x p.flag) k) [ inl e ↦ ap (is_array_of o) (same_is x p.low e) ∙ d.low | inr e ↦ ap (is_array_of o) (same_is x p.flag e) ∙ d.flag ]
  ]))

  -- the names are told of the program with other statements, in which they don't occur
  module _ (old : StmtTrees) where
    abbrev IsAbsent : List DeclTree → List ℕ → Type 0
    IsAbsent ds x = is_among x (names_of (record { decls = ds; body = old })) ≡ false

    declared_now : (ds : List DeclTree) (x : List ℕ) → IsAbsent ds x → IsDeclared (one_more ds x) x
    declared_now ds x absent = (array_named (program ds) body x lo hi, kind_there (record { decls = ds; body = old }) body x lo hi near far absent)

    absent_then : (ds : List DeclTree) (x y : List ℕ) → is_same_text y x ≡ false → IsAbsent ds y → IsAbsent (one_more ds x) y
    absent_then ds x y other h = names_besides (record { decls = ds; body = old }) old x lo hi y other ∙ h

    -- the arrays of one scalar
    module _ (ds : List DeclTree) (p : Partials) (three : AreThree p) (absent : (x : List ℕ) → is_array_of p x ≡ true → IsAbsent ds x) where
      own_declared : (x : List ℕ) → is_array_of p x ≡ true → IsDeclared (one_more (one_more (one_more ds p.high) p.low) p.flag) x
      own_declared x i = elim (or_split (is_same_text x p.high) (is_same_text x p.low || is_same_text x p.flag) i) [
        | inl e ↦ subst (IsDeclared (one_more (one_more (one_more ds p.high) p.low) p.flag)) (sym (same_is x p.high e))
            (declared_then (one_more (one_more ds p.high) p.low) p.flag p.high three.high_flag (declared_then (one_more ds p.high) p.low p.high three.high_low (declared_now ds p.high (absent p.high (high_array p)))))
        | inr k ↦ elim (or_split (is_same_text x p.low) (is_same_text x p.flag) k) [
          | inl e ↦ subst (IsDeclared (one_more (one_more (one_more ds p.high) p.low) p.flag)) (sym (same_is x p.low e))
              (declared_then (one_more (one_more ds p.high) p.low) p.flag p.low three.low_flag
              (declared_now (one_more ds p.high) p.low (absent_then ds p.high p.low (same_flip p.low p.high ∙ three.high_low) (absent p.low (low_array p)))))
          | inr e ↦ subst (IsDeclared (one_more (one_more (one_more ds p.high) p.low) p.flag)) (sym (same_is x p.flag e))
              (declared_now (one_more (one_more ds p.high) p.low) p.flag
              (absent_then (one_more ds p.high) p.low p.flag (same_flip p.flag p.low ∙ three.low_flag) (absent_then ds p.high p.flag (same_flip p.flag p.high ∙ three.high_flag) (absent p.flag (flag_array p)))))
        ]
      ]

    -- each of the arrays is declared so
    pub arrays_declared : (ps : List Partials) (ds : List DeclTree) → ((p : Partials) → IsIn p ps → AreThree p) → AllDistinct ps → ((x : List ℕ) → is_array ps x ≡ true → IsAbsent ds x) → (x : List ℕ) → is_array ps x ≡ true
        → IsDeclared (ds ++ declarations v ps) x
    arrays_declared [] ds three distinct absent x i = untrue i
    arrays_declared (p ∷ ps) ds three distinct absent x i = subst (λ (es : List DeclTree). IsDeclared es x) (sym (three_more ds p ps)) (by (is_array_of p x) refl i (arrays_declared ps (one_more (one_more (one_more ds p.high) p.low) p.flag) (λ q j. three q (inr j)) distinct.1 still_absent x))
      where
        before : (a b : Bool) → a ≡ true → (a || b) ≡ true
        before true b e = refl
        before false b e = untrue e

        behind : (a b : Bool) → b ≡ true → (a || b) ≡ true
        behind true b e = refl
        behind false b e = e

        own_absent : (y : List ℕ) → is_array_of p y ≡ true → IsAbsent ds y
        own_absent y e = absent y (before (is_array_of p y) (is_array ps y) e)

        other : (y z : List ℕ) → is_array ps y ≡ true → is_array_of p z ≡ true → is_same_text y z ≡ false
        other y z k e = go (is_same_text y z) refl
          where
            go : (b : Bool) → is_same_text y z ≡ b → is_same_text y z ≡ false
            go true same = absurd (both_ways (is_array ps y) (ap (is_array ps) (same_is y z same) ∙ own_no_others p ps z distinct.0 e) k)
            go false same = same

        still_absent : (y : List ℕ) → is_array ps y ≡ true → IsAbsent (one_more (one_more (one_more ds p.high) p.low) p.flag) y
        still_absent y k =
            absent_then (one_more (one_more ds p.high) p.low) p.flag y (other y p.flag k (flag_array p))
            (absent_then (one_more ds p.high) p.low y (other y p.low k (low_array p)) (absent_then ds p.high y (other y p.high k (high_array p)) (absent y (behind (is_array_of p y) (is_array ps y) k))))

        by : (b : Bool) → is_array_of p x ≡ b → (b || is_array ps x) ≡ true → (is_array ps x ≡ true → IsDeclared (one_more (one_more (one_more ds p.high) p.low) p.flag ++ declarations v ps) x) → IsDeclared (one_more (one_more (one_more ds p.high) p.low) p.flag ++ declarations v ps) x
        by true e k more = declared_behind ps (one_more (one_more (one_more ds p.high) p.low) p.flag) x (own_no_others p ps x distinct.0 e) (own_declared ds p (three p (inl refl)) own_absent x e)
        by false e k more = more k
