-- A name that stands in an expression is read there, where it is neither a constant nor the variable of a DO round it; one that stands on a left side is read or written there.
use Rattle.std.proofs.Common.{◌≡◌, ◌⊎◌, ℕ, List, [], ◌∷◌, ◌++◌, Bool, true, false, if◌then◌else◌, inl, inr, refl, sym, ap, subst, ◌∙◌}
use Rattle.std.specs.List.{flat_map, list_all}
use Rattle.std.proofs.lemmas.Bool.{and_parts}
use Rattle.ped_base.specs.Lists.{is_same_text, is_among}
use Rattle.ped_base.proofs.NameEquality.{same_is}
use Rattle.ped_tree.proofs.NameLaws.Collected.{among_append}
use Rattle.ped_tree.specs.Accesses.{Access, read_of, write_of, unless_constant, expr_reads, exprs_reads, cond_reads, left_accesses, item_reads, listed}
use Rattle.ped_tree.specs.NamesIn.{expr_names, exprs_names, cond_names, item_names}
use Rattle.ped_tree.specs.Tree.{ExprTree, ExprTrees, Int, Var, Element, Neg, Add, Sub, Mul, Div, Pow, Call, no_exprs, more_exprs, CondTree, Rel, Not, And, Or, ItemTree, Value, Text}
use Rattle.ped_rules.specs.ped_symbols.specs.RightUses.RightUses.{NameKinds, target_is_right}
use Rattle.ped_rules.specs.ped_flow.proofs.Truths.{untrue, or_split}
use Rattle.ped_rules.specs.ped_laws.specs.Acts.Orders.{IsIn}
use Rattle.ped_rules.specs.ped_laws.proofs.ActLaws.Lists.{in_left, in_right}

module _ (x : List ℕ) (cs indices : List (List ℕ)) (named : is_among x cs ≡ false) (outside : is_among x indices ≡ false) where
  abbrev Has : List (List ℕ) → Type 0
  Has names = is_among x names ≡ true

  -- one of these accesses is of the name
  abbrev pub IsTold : List Access → Type 0
  IsTold accesses = (a : Access) × IsIn a accesses × (a.name ≡ x)

  told_left : (p q : List Access) → IsTold p → IsTold (p ++ q)
  told_left p q (a, i, e) = (a, in_left a p q i, e)

  told_right : (p q : List Access) → IsTold q → IsTold (p ++ q)
  told_right p q (a, i, e) = (a, in_right a p q i, e)

  parts : (xs ys : List (List ℕ)) → Has (xs ++ ys) → Has xs ⊎ Has ys
  parts xs ys h = or_split (is_among x xs) (is_among x ys) (sym (among_append x xs ys) ∙ h)

  -- an access of the name itself
  own_told : (a : Access) → is_same_text x a.name ≡ true → IsTold (unless_constant cs a)
  own_told a e =
      let is = same_is x a.name e in
      let absent : is_among a.name cs ≡ false = ap (λ (y : List ℕ). is_among y cs) (sym is) ∙ named in
      (a, subst (λ (b : Bool). IsIn a (if b then [] else a ∷ [])) (sym absent) (inl refl), sym is)

  index_told : (y : List ℕ) → is_same_text x y ≡ true → IsTold (if is_among y indices then [] else unless_constant cs (read_of y []))
  index_told y e =
      let away : is_among y indices ≡ false = ap (λ (z : List ℕ). is_among z indices) (sym (same_is x y e)) ∙ outside in
      subst (λ (b : Bool). IsTold (if b then [] else unless_constant cs (read_of y []))) (sym away) (own_told (read_of y []) e)

  one : (y : List ℕ) → Has (y ∷ []) → is_same_text x y ≡ true
  one y h = elim (or_split (is_same_text x y) false h) [ inl e ↦ e | inr k ↦ untrue k ]

  either_told : (xs ys : List (List ℕ)) (p q : List Access) → (Has xs → IsTold p) → (Has ys → IsTold q) → Has (xs ++ ys) → IsTold (p ++ q)
  either_told xs ys p q f g h = elim (parts xs ys h) [ inl k ↦ told_left p q (f k) | inr k ↦ told_right p q (g k) ]

  mutual
    pub expr_told : (e : ExprTree) → is_among x (expr_names e) ≡ true → IsTold (expr_reads cs indices e)
    expr_told (Int n) h = untrue h
    expr_told (Var y) h = index_told y (one y h)
    expr_told (Element y es) h = elim (or_split (is_same_text x y) (is_among x (exprs_names es)) h) [
      | inl e ↦ told_right (exprs_reads cs indices es) (unless_constant cs (read_of y (listed es))) (own_told (read_of y (listed es)) e)
      | inr k ↦ told_left (exprs_reads cs indices es) (unless_constant cs (read_of y (listed es))) (exprs_told es k)
    ]
    expr_told (Neg a) h = expr_told a h
    expr_told (Add a b) h = either_told (expr_names a) (expr_names b) (expr_reads cs indices a) (expr_reads cs indices b) (expr_told a) (expr_told b) h
    expr_told (Sub a b) h = either_told (expr_names a) (expr_names b) (expr_reads cs indices a) (expr_reads cs indices b) (expr_told a) (expr_told b) h
    expr_told (Mul a b) h = either_told (expr_names a) (expr_names b) (expr_reads cs indices a) (expr_reads cs indices b) (expr_told a) (expr_told b) h
    expr_told (Div a b) h = either_told (expr_names a) (expr_names b) (expr_reads cs indices a) (expr_reads cs indices b) (expr_told a) (expr_told b) h
    expr_told (Pow a b) h = either_told (expr_names a) (expr_names b) (expr_reads cs indices a) (expr_reads cs indices b) (expr_told a) (expr_told b) h
    expr_told (Call f es) h = exprs_told es h

    exprs_told : (es : ExprTrees) → is_among x (exprs_names es) ≡ true → IsTold (exprs_reads cs indices es)
    exprs_told no_exprs h = untrue h
    exprs_told (more_exprs e rest) h = either_told (expr_names e) (exprs_names rest) (expr_reads cs indices e) (exprs_reads cs indices rest) (expr_told e) (exprs_told rest) h

  pub cond_told : (c : CondTree) → is_among x (cond_names c) ≡ true → IsTold (cond_reads cs indices c)
  cond_told (Rel r a b) h = either_told (expr_names a) (expr_names b) (expr_reads cs indices a) (expr_reads cs indices b) (expr_told a) (expr_told b) h
  cond_told (Not a) h = cond_told a h
  cond_told (And a b) h = either_told (cond_names a) (cond_names b) (cond_reads cs indices a) (cond_reads cs indices b) (cond_told a) (cond_told b) h
  cond_told (Or a b) h = either_told (cond_names a) (cond_names b) (cond_reads cs indices a) (cond_reads cs indices b) (cond_told a) (cond_told b) h

  item_told : (i : ItemTree) → Has (item_names i) → IsTold (item_reads cs indices i)
  item_told (Value e) h = expr_told e h
  item_told (Text t) h = untrue h

  pub items_told : (is : List ItemTree) → is_among x (flat_map item_names is) ≡ true → IsTold (flat_map (item_reads cs indices) is)
  items_told [] h = untrue h
  items_told (i ∷ is) h = either_told (item_names i) (flat_map item_names is) (item_reads cs indices i) (flat_map (item_reads cs indices) is) (item_told i) (items_told is) h

  module _ (k : NameKinds) where
    pub left_told : (e : ExprTree) → target_is_right k e ≡ true → is_among x (expr_names e) ≡ true → IsTold (left_accesses cs indices e)
    left_told (Var y) right h = own_told (write_of y []) (one y h)
    left_told (Element y es) right h = elim (or_split (is_same_text x y) (is_among x (exprs_names es)) h) [
      | inl e ↦ told_right (exprs_reads cs indices es) (unless_constant cs (write_of y (listed es))) (own_told (write_of y (listed es)) e)
      | inr j ↦ told_left (exprs_reads cs indices es) (unless_constant cs (write_of y (listed es))) (exprs_told es j)
    ]
    left_told (Int n) right h = untrue h
    left_told (Neg a) right h = untrue right
    left_told (Add a b) right h = untrue right
    left_told (Sub a b) right h = untrue right
    left_told (Mul a b) right h = untrue right
    left_told (Div a b) right h = untrue right
    left_told (Pow a b) right h = untrue right
    left_told (Call f es) right h = untrue right

    pub lefts_told : (es : List ExprTree) → list_all (target_is_right k) es ≡ true → is_among x (flat_map expr_names es) ≡ true → IsTold (flat_map (left_accesses cs indices) es)
    lefts_told [] right h = untrue h
    lefts_told (e ∷ es) right h =
        let r = and_parts (target_is_right k e) (list_all (target_is_right k) es) right in
        either_told (expr_names e) (flat_map expr_names es) (left_accesses cs indices e) (flat_map (left_accesses cs indices) es) (left_told e r.0) (lefts_told es r.1) h
