-- The heads of two loops in each other's place have the names of the old ones, also where the inner bounds have shapes.
use Rattle.ped_base.specs.Lists.{is_among, is_same_text}
use Rattle.ped_loops.proofs.MovedBounds.{IsShaped, shape_is, some_shape}
use Rattle.ped_rules.proofs.HeadLaws.HeadNames.{among_both, head_uses, literal_unnamed, names_in}
use Rattle.ped_rules.proofs.NestLaws.WovenKinds.{occurs_in}
use Rattle.ped_loops.specs.Shapes.{Shape, arguments_of, asked_above, asked_below, asked_if, difference, extreme_of, first_shape, free, is_turned, itself, last_shape, moved_bound, new_inner, new_outer, shape_of, sum, turned}
use Rattle.ped_rules.specs.ped_steps.proofs.RunLaws.SubstitutedSums.{by_shape}
use Rattle.ped_rules.specs.ped_laws.proofs.ActLaws.Renamings.{or_left, or_right}
use Rattle.ped_symbolic.specs.Arithmetic.{added, computed, is_zero, literal_or, literal_value, minus_of, of_both, plus_of, small, subtracted}
use Rattle.ped_rules.specs.ped_symbols.specs.Uses.{expr_uses, exprs_uses, used_as}
use Rattle.ped_rules.specs.ped_symbols.specs.declared.uses.Role.TheVariants.{Rejected}
use Rattle.ped_tree.specs.Tree.{Add, ExprTree, Head, Sub, Var, no_stmts}
use Rattle.ped_tree.specs.declared.expressions.Intrinsic.TheVariants.{Max, Min}
use Rattle.ped_tree.specs.declared.expressions.Intrinsic.{Intrinsic}
use Rattle.std.proofs.Common.{Bool, List, None, Option, Some, [], ap, false, if◌then◌else◌, inl, inr, map, refl, sym, true, ℕ, ℤ, ◌++◌, ◌+ℤ◌, ◌-ℤ◌, ◌||◌, ◌∙◌, ◌∷◌, ◌≡◌}
use Rattle.std.specs.Prelude.{is_none, nat_le, not, unsigned_abs}

bool_same : (a b : Bool) → (a ≡ true → b ≡ true) → (b ≡ true → a ≡ true) → a ≡ b
bool_same true b f g = sym (f refl)
bool_same false true f g = g refl
bool_same false false f g = refl

or_cases : (P : Type 0) (a b : Bool) → a || b ≡ true → (a ≡ true → P) → (b ≡ true → P) → P
or_cases P true b h f g = f refl
or_cases P false b h f g = g h

or_none : (a : Bool) → a || false ≡ a
or_none true = refl
or_none false = refl

-- what stands in a head: rejected names, the variable, the bounds and the increment
abbrev heads : (r v f l s : Bool) → Bool
heads r v f l s = r || (v || ((f || l) || s))

module _ (r v f l s : Bool) where
  rejected_in : r ≡ true → heads r v f l s ≡ true
  rejected_in h = or_left r (v || ((f || l) || s)) h

  later_in : v || ((f || l) || s) ≡ true → heads r v f l s ≡ true
  later_in h = or_right r (v || ((f || l) || s)) h

  variable_in : v ≡ true → heads r v f l s ≡ true
  variable_in h = later_in (or_left v ((f || l) || s) h)

  bounds_in : f || l ≡ true → heads r v f l s ≡ true
  bounds_in h = later_in (or_right v ((f || l) || s) (or_left (f || l) s h))

  first_in : f ≡ true → heads r v f l s ≡ true
  first_in h = bounds_in (or_left f l h)

  last_in : l ≡ true → heads r v f l s ≡ true
  last_in h = bounds_in (or_right f l h)

  step_in : s ≡ true → heads r v f l s ≡ true
  step_in h = later_in (or_right v ((f || l) || s) (or_right (f || l) s h))

  head_cases : (P : Type 0) → heads r v f l s ≡ true → (r ≡ true → P) → (v ≡ true → P) → (f ≡ true → P) → (l ≡ true → P) → (s ≡ true → P) → P
  head_cases P h of_r of_v of_f of_l of_s =
      or_cases P r (v || ((f || l) || s)) h of_r
      (λ k. or_cases P v ((f || l) || s) k of_v (λ m. or_cases P (f || l) s m (λ n. or_cases P f l n of_f of_l) of_s))

module _ (y : List ℕ) where
  abbrev used : ExprTree → Bool
  used e = is_among y (names_in (expr_uses e))

  abbrev all_used : List ExprTree → Bool
  all_used es = is_among y (names_in (exprs_uses (arguments_of es)))

  -- literals have no names
  literal_less : (m : ℤ) (e : ExprTree) → literal_value e ≡ Some m → used e ≡ false
  literal_less m = by_shape (λ (e : ExprTree). literal_value e ≡ Some m → used e ≡ false) (λ n p. refl) (λ n p. refl) (λ e p q is other h. absurd (none_some (literal_value e) p h))
    where
      none_some : (o : Option ℤ) → o ≡ None → o ≡ Some m → ⊥
      none_some None p q = absurd cc
      none_some (Some z) p q = absurd cc

  zero_less : (e : ExprTree) → is_zero e ≡ true → used e ≡ false
  zero_less = by_shape (λ (e : ExprTree). is_zero e ≡ true → used e ≡ false) (λ n p. refl) (λ n p. refl) (λ e p q is other h. absurd (not_both (is_zero e) q h))
    where
      not_both : (b : Bool) → b ≡ false → b ≡ true → ⊥
      not_both true p q = absurd cc
      not_both false p q = absurd cc

  -- names in sums and differences that are made anew
  computed_used : (f : ℤ → ℤ → ℤ) (a b other : ExprTree) → used other ≡ used a || used b → used (literal_or (computed f a b) other) ≡ used a || used b
  computed_used f a b other h = go (literal_value a) (literal_value b) refl refl
    where
      fits : (o : Option ℤ) → used a ≡ false → used b ≡ false → used (literal_or (small o) other) ≡ used a || used b
      fits None p q = h
      fits (Some z) p q = by (nat_le (unsigned_abs z) 2147483647)
        where
          by : (c : Bool) → used (literal_or (if c then Some z else None) other) ≡ used a || used b
          by true = literal_unnamed y z ∙ (λ i. sym p i || sym q i)
          by false = h

      go : (l m : Option ℤ) → literal_value a ≡ l → literal_value b ≡ m → used (literal_or (small (of_both f l m)) other) ≡ used a || used b
      go None m p q = h
      go (Some l) None p q = h
      go (Some l) (Some m) p q = fits (Some (f l m)) (literal_less l a p) (literal_less m b q)

  second_zero : (a b other : ExprTree) → used other ≡ used a || used b → used (if is_zero b then a else other) ≡ used a || used b
  second_zero a b other h = go (is_zero b) refl
    where
      go : (z : Bool) → is_zero b ≡ z → used (if z then a else other) ≡ used a || used b
      go true e = sym (or_none (used a)) ∙ (λ i. used a || sym (zero_less b e) i)
      go false e = h

  first_zero : (a b other : ExprTree) → used other ≡ used a || used b → used (if is_zero a then b else other) ≡ used a || used b
  first_zero a b other h = go (is_zero a) refl
    where
      go : (z : Bool) → is_zero a ≡ z → used (if z then b else other) ≡ used a || used b
      go true e = (λ i. sym (zero_less a e) i || used b)
      go false e = h

  added_used : (a b : ExprTree) → used (added a b) ≡ used a || used b
  added_used a =
      by_shape (λ (b : ExprTree). used (added a b) ≡ used a || used b) (λ n. among_both y (expr_uses a) []) (λ n. among_both y (expr_uses a) [])
      (λ e p q is other. ap used (is a) ∙ among_both y (expr_uses a) (expr_uses e))

  subtracted_used : (a b : ExprTree) → used (subtracted a b) ≡ used a || used b
  subtracted_used a =
      by_shape (λ (b : ExprTree). used (subtracted a b) ≡ used a || used b) (λ n. among_both y (expr_uses a) []) (λ n. among_both y (expr_uses a) [])
      (λ e p q other is. ap used (is a) ∙ among_both y (expr_uses a) (expr_uses e))

  plus_used : (a b : ExprTree) → used (plus_of a b) ≡ used a || used b
  plus_used a b = computed_used ◌+ℤ◌ a b (if is_zero b then a else if is_zero a then b else added a b) (second_zero a b (if is_zero a then b else added a b) (first_zero a b (added a b) (added_used a b)))

  minus_used : (a b : ExprTree) → used (minus_of a b) ≡ used a || used b
  minus_used a b = computed_used ◌-ℤ◌ a b (if is_zero b then a else subtracted a b) (second_zero a b (subtracted a b) (subtracted_used a b))

  -- names in the greatest or the least of a bound and others
  extreme_used : (f : Intrinsic) (e : ExprTree) (es : List ExprTree) → used (extreme_of f e es) ≡ used e || all_used es
  extreme_used f e [] = sym (or_none (used e))
  extreme_used f e (c ∷ cs) = among_both y (expr_uses e) (exprs_uses (arguments_of (c ∷ cs)))

  joined_used : (P : Type 0) (es fs : List ExprTree) → all_used (es ++ fs) ≡ true → (all_used es ≡ true → P) → (all_used fs ≡ true → P) → P
  joined_used P [] fs h f g = g h
  joined_used P (e ∷ es) fs h f g =
      or_cases P (used e) (all_used (es ++ fs)) (sym (among_both y (expr_uses e) (exprs_uses (arguments_of (es ++ fs)))) ∙ h)
      (λ k. f (among_both y (expr_uses e) (exprs_uses (arguments_of es)) ∙ or_left (used e) (all_used es) k))
      (λ k. joined_used P es fs k (λ m. f (among_both y (expr_uses e) (exprs_uses (arguments_of es)) ∙ or_right (used e) (all_used es) m)) g)

  -- the other part of a bound with a shape
  abbrev of_part : Shape → ExprTree → Bool
  of_part free e = used e
  of_part itself e = false
  of_part (sum c) e = used c
  of_part (difference c) e = used c
  of_part (turned c) e = used c

  of_name : (x : List ℕ) → used (Var x) ≡ is_same_text y x
  of_name x = or_none (is_same_text y x)

  of_two : (P : Type 0) (e a b whole : ExprTree) → whole ≡ e → used e ≡ used a || used b → used whole ≡ true → (used a ≡ true → P) → (used b ≡ true → P) → P
  of_two P e a b whole is parts h = or_cases P (used a) (used b) (sym parts ∙ ap used (sym is) ∙ h)

  -- the names of a bound are the outer variable and those of its part
  bound_names : (P : Type 0) (x : List ℕ) (shape : Shape) (e : ExprTree) → IsShaped x e shape → used e ≡ true → (is_same_text y x ≡ true → P) → (of_part shape e ≡ true → P) → P
  bound_names P x free e is h name part = part h
  bound_names P x itself e is h name part = name (sym (of_name x) ∙ ap used (sym is) ∙ h)
  bound_names P x (sum c) e is h name part = elim is.1 [
    | inl q ↦ of_two P (Add (Var x) c) (Var x) c e q (among_both y (expr_uses (Var x)) (expr_uses c)) h (λ k. name (sym (of_name x) ∙ k)) part
    | inr q ↦ of_two P (Add c (Var x)) c (Var x) e q (among_both y (expr_uses c) (expr_uses (Var x))) h part (λ k. name (sym (of_name x) ∙ k))
  ]
  bound_names P x (difference c) e is h name part = of_two P (Sub (Var x) c) (Var x) c e is.1 (among_both y (expr_uses (Var x)) (expr_uses c)) h (λ k. name (sym (of_name x) ∙ k)) part
  bound_names P x (turned c) e is h name part = of_two P (Sub c (Var x)) c (Var x) e is.1 (among_both y (expr_uses c) (expr_uses (Var x))) h part (λ k. name (sym (of_name x) ∙ k))

  part_in_bound : (x : List ℕ) (shape : Shape) (e : ExprTree) → IsShaped x e shape → of_part shape e ≡ true → used e ≡ true
  part_in_bound x free e is h = h
  part_in_bound x itself e is h = absurd cc
  part_in_bound x (sum c) e is h = elim is.1 [
    | inl q ↦ ap used q ∙ among_both y (expr_uses (Var x)) (expr_uses c) ∙ or_right (used (Var x)) (used c) h
    | inr q ↦ ap used q ∙ among_both y (expr_uses c) (expr_uses (Var x)) ∙ or_left (used c) (used (Var x)) h
  ]
  part_in_bound x (difference c) e is h = ap used is.1 ∙ among_both y (expr_uses (Var x)) (expr_uses c) ∙ or_right (used (Var x)) (used c) h
  part_in_bound x (turned c) e is h = ap used is.1 ∙ among_both y (expr_uses c) (expr_uses (Var x)) ∙ or_left (used c) (used (Var x)) h

  -- those of the bound that comes of it are the part's and those of the outer bounds
  moved_names : (P : Type 0) (shape : Shape) (e near far : ExprTree) → used (moved_bound shape e near far) ≡ true → (used near ≡ true → P) → (used far ≡ true → P) → (of_part shape e ≡ true → P) → P
  moved_names P free e near far h first last part = part h
  moved_names P itself e near far h first last part = first h
  moved_names P (sum c) e near far h first last part = or_cases P (used near) (used c) (sym (plus_used near c) ∙ h) first part
  moved_names P (difference c) e near far h first last part = or_cases P (used near) (used c) (sym (minus_used near c) ∙ h) first part
  moved_names P (turned c) e near far h first last part = or_cases P (used c) (used far) (sym (minus_used c far) ∙ h) part last

  part_in_moved : (shape : Shape) (e near far : ExprTree) → of_part shape e ≡ true → used (moved_bound shape e near far) ≡ true
  part_in_moved free e near far h = h
  part_in_moved itself e near far h = absurd cc
  part_in_moved (sum c) e near far h = plus_used near c ∙ or_right (used near) (used c) h
  part_in_moved (difference c) e near far h = minus_used near c ∙ or_right (used near) (used c) h
  part_in_moved (turned c) e near far h = minus_used c far ∙ or_left (used c) (used far) h

  -- and those of what it asks are the inner variable and the part's
  one_used : (e : ExprTree) → all_used (e ∷ []) ≡ used e
  one_used e = among_both y (expr_uses e) [] ∙ or_none (used e)

  asked_names : (P : Type 0) (j : List ℕ) (b : Bool) (shape : Shape) (e : ExprTree) → all_used (asked_if b shape j) ≡ true → (is_same_text y j ≡ true → P) → (of_part shape e ≡ true → P) → P
  asked_names P j false shape e h name part = absurd cc
  asked_names P j true free e h name part = absurd cc
  asked_names P j true itself e h name part = name (sym (one_used (Var j) ∙ of_name j) ∙ h)
  asked_names P j true (sum c) e h name part = or_cases P (used (Var j)) (used c) (sym (one_used (minus_of (Var j) c) ∙ minus_used (Var j) c) ∙ h) (λ k. name (sym (of_name j) ∙ k)) part
  asked_names P j true (difference c) e h name part = or_cases P (used (Var j)) (used c) (sym (one_used (plus_of (Var j) c) ∙ plus_used (Var j) c) ∙ h) (λ k. name (sym (of_name j) ∙ k)) part
  asked_names P j true (turned c) e h name part = or_cases P (used c) (used (Var j)) (sym (one_used (minus_of c (Var j)) ∙ minus_used c (Var j)) ∙ h) part (λ k. name (sym (of_name j) ∙ k))

  module _ (d g : Head) (some_first : is_none (shape_of d.variable g.first) ≡ false) (some_last : is_none (shape_of d.variable g.last) ≡ false) where
    abbrev one : Shape
    one = first_shape d g

    abbrev two : Shape
    two = last_shape d g

    first_is : IsShaped d.variable g.first (first_shape d g)
    first_is = shape_is d.variable g.first (first_shape d g) (some_shape d.variable g.first some_first)

    last_is : IsShaped d.variable g.last (last_shape d g)
    last_is = shape_is d.variable g.last (last_shape d g) (some_shape d.variable g.last some_last)

    abbrev h : Head
    h = new_outer d g

    abbrev k : Head
    k = new_inner d g

    abbrev rejected : Head → Bool
    rejected f = is_among y (names_in (map (used_as Rejected) f.rejected))

    abbrev its : Head → Bool
    its f = heads (rejected f) (is_same_text y f.variable) (used f.first) (used f.last) (used f.step)

    abbrev In : (first last : Head) → Type 0
    In first last = its first || its last ≡ true

    in_first : (e f : Head) → its e ≡ true → In e f
    in_first e f = or_left (its e) (its f)

    in_second : (e f : Head) → its f ≡ true → In e f
    in_second e f = or_right (its e) (its f)

    abbrev below : List ExprTree
    below = asked_below (first_shape d g) (last_shape d g) g.variable

    abbrev above : List ExprTree
    above = asked_above (first_shape d g) (last_shape d g) g.variable

    old_variable : is_same_text y d.variable ≡ true → In d g
    old_variable q = in_first d g (variable_in (rejected d) (is_same_text y d.variable) (used d.first) (used d.last) (used d.step) q)

    old_first : used d.first ≡ true → In d g
    old_first q = in_first d g (first_in (rejected d) (is_same_text y d.variable) (used d.first) (used d.last) (used d.step) q)

    old_last : used d.last ≡ true → In d g
    old_last q = in_first d g (last_in (rejected d) (is_same_text y d.variable) (used d.first) (used d.last) (used d.step) q)

    old_inner_variable : is_same_text y g.variable ≡ true → In d g
    old_inner_variable q = in_second d g (variable_in (rejected g) (is_same_text y g.variable) (used g.first) (used g.last) (used g.step) q)

    old_inner_first : used g.first ≡ true → In d g
    old_inner_first q = in_second d g (first_in (rejected g) (is_same_text y g.variable) (used g.first) (used g.last) (used g.step) q)

    old_inner_last : used g.last ≡ true → In d g
    old_inner_last q = in_second d g (last_in (rejected g) (is_same_text y g.variable) (used g.first) (used g.last) (used g.step) q)

    first_part : of_part (first_shape d g) g.first ≡ true → In d g
    first_part q = old_inner_first (part_in_bound d.variable (first_shape d g) g.first first_is q)

    last_part : of_part (last_shape d g) g.last ≡ true → In d g
    last_part q = old_inner_last (part_in_bound d.variable (last_shape d g) g.last last_is q)

    asked_old : (b c : Bool) → all_used (asked_if b (first_shape d g) g.variable ++ asked_if c (last_shape d g) g.variable) ≡ true → In d g
    asked_old b c q =
        joined_used (In d g) (asked_if b (first_shape d g) g.variable) (asked_if c (last_shape d g) g.variable) q
        (λ m. asked_names (In d g) g.variable b (first_shape d g) g.first m old_inner_variable first_part)
        (λ m. asked_names (In d g) g.variable c (last_shape d g) g.last m old_inner_variable last_part)

    forth : In h k → In d g
    forth q =
        or_cases (In d g) (its h) (its k) q
        (λ m. head_cases (rejected h) (is_same_text y h.variable) (used h.first) (used h.last) (used h.step) (In d g) m
        (λ n. in_second d g (rejected_in (rejected g) (is_same_text y g.variable) (used g.first) (used g.last) (used g.step) n)) old_inner_variable
        (λ n. moved_names (In d g) (first_shape d g) g.first d.first d.last n old_first old_last first_part) (λ n. moved_names (In d g) (last_shape d g) g.last d.last d.first n old_last old_first last_part)
        (λ n. in_second d g (step_in (rejected g) (is_same_text y g.variable) (used g.first) (used g.last) (used g.step) n)))
        (λ m. head_cases (rejected k) (is_same_text y k.variable) (used k.first) (used k.last) (used k.step) (In d g) m
        (λ n. in_first d g (rejected_in (rejected d) (is_same_text y d.variable) (used d.first) (used d.last) (used d.step) n)) old_variable
        (λ n. or_cases (In d g) (used d.first) (all_used below) (sym (extreme_used Max d.first below) ∙ n) old_first (asked_old (is_turned (first_shape d g)) (not (is_turned (last_shape d g)))))
        (λ n. or_cases (In d g) (used d.last) (all_used above) (sym (extreme_used Min d.last above) ∙ n) old_last (asked_old (not (is_turned (first_shape d g))) (is_turned (last_shape d g))))
        (λ n. in_first d g (step_in (rejected d) (is_same_text y d.variable) (used d.first) (used d.last) (used d.step) n)))

    new_inner_variable : is_same_text y d.variable ≡ true → In h k
    new_inner_variable q = in_second h k (variable_in (rejected k) (is_same_text y k.variable) (used k.first) (used k.last) (used k.step) q)

    new_first : used h.first ≡ true → In h k
    new_first q = in_first h k (first_in (rejected h) (is_same_text y h.variable) (used h.first) (used h.last) (used h.step) q)

    new_last : used h.last ≡ true → In h k
    new_last q = in_first h k (last_in (rejected h) (is_same_text y h.variable) (used h.first) (used h.last) (used h.step) q)

    back : In d g → In h k
    back q =
        or_cases (In h k) (its d) (its g) q
        (λ m. head_cases (rejected d) (is_same_text y d.variable) (used d.first) (used d.last) (used d.step) (In h k) m
        (λ n. in_second h k (rejected_in (rejected k) (is_same_text y k.variable) (used k.first) (used k.last) (used k.step) n)) new_inner_variable
        (λ n. in_second h k (first_in (rejected k) (is_same_text y k.variable) (used k.first) (used k.last) (used k.step) (extreme_used Max d.first below ∙ or_left (used d.first) (all_used below) n)))
        (λ n. in_second h k (last_in (rejected k) (is_same_text y k.variable) (used k.first) (used k.last) (used k.step) (extreme_used Min d.last above ∙ or_left (used d.last) (all_used above) n)))
        (λ n. in_second h k (step_in (rejected k) (is_same_text y k.variable) (used k.first) (used k.last) (used k.step) n)))
        (λ m. head_cases (rejected g) (is_same_text y g.variable) (used g.first) (used g.last) (used g.step) (In h k) m
        (λ n. in_first h k (rejected_in (rejected h) (is_same_text y h.variable) (used h.first) (used h.last) (used h.step) n))
        (λ n. in_first h k (variable_in (rejected h) (is_same_text y h.variable) (used h.first) (used h.last) (used h.step) n))
        (λ n. bound_names (In h k) d.variable (first_shape d g) g.first first_is n new_inner_variable (λ w. new_first (part_in_moved (first_shape d g) g.first d.first d.last w)))
        (λ n. bound_names (In h k) d.variable (last_shape d g) g.last last_is n new_inner_variable (λ w. new_last (part_in_moved (last_shape d g) g.last d.last d.first w)))
        (λ n. in_first h k (step_in (rejected h) (is_same_text y h.variable) (used h.first) (used h.last) (used h.step) n)))

    pub shaped_names : occurs_in y (new_outer d g) || occurs_in y (new_inner d g) ≡ occurs_in y d || occurs_in y g
    shaped_names =
        (λ i. head_uses y h no_stmts i || head_uses y k no_stmts i)
        ∙ bool_same (its h || its k) (its d || its g) forth back
        ∙ sym (λ i. head_uses y d no_stmts i || head_uses y g no_stmts i)
