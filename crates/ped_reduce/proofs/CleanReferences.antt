-- A name that stands in no statement, or a scalar whose references all stand in sums of it, stands in no subscript of a reference and in no initial value of a DO round one.
use Rattle.std.proofs.Common.{◌≡◌, ℕ, ◌+◌, List, [], ◌∷◌, ◌++◌, Bool, true, false, ◌&&◌, ◌||◌, Option, Some, None, is_some, if◌then◌else◌, refl, sym, ap, subst, ◌∙◌, inl, inr}
use Rattle.std.specs.Prelude.{codes}
use Rattle.std.specs.List.{list_any, flat_map}
use Rattle.std.proofs.lemmas.Bool.{and_parts, both_ways}
use Rattle.ped_base.specs.Lists.{is_same_text, is_among}
use Rattle.ped_base.proofs.NameEquality.{same_itself, same_is}
use Rattle.ped_tree.proofs.NameLaws.Collected.{among_append}
use Rattle.ped_tree.specs.Tree.{ExprTree, ExprTrees, Int, Var, Element, Neg, Add, Sub, Mul, Div, Pow, Call, no_exprs, more_exprs, CondTree, Rel, Not, And, Or, ItemTree, Value, Text, Head, StmtTree, StmtTrees, Assign, If, Do, Print, Read, Stop, Comment, no_stmts, more_stmts, ProgramTree}
use Rattle.ped_tree.specs.Accesses.{Access, read_of, write_of, unless_constant, expr_reads, exprs_reads, cond_reads, left_accesses, item_reads, private_writes, own_accesses, listed}
use Rattle.ped_tree.specs.Nests.{Loop, indices_of}
use Rattle.ped_tree.specs.NamesIn.{expr_names, exprs_names, cond_names, item_names, head_names, stmt_names, stmts_names, loop_variables, all_loop_variables}
use Rattle.ped_tree.specs.Numbering.{numbered, all_numbered, statement_with, statement_count, statements_count}
use Rattle.ped_refs.specs.References.{Reference, numbered_accesses, statement_references, statements_references}
use Rattle.ped_rules.specs.ped_affine.specs.PairViews.{heads_of}
use Rattle.ped_rules.specs.ped_symbols.specs.RightUses.RightUses.{NameKinds, is_scalar, expr_is_right, target_is_right, cond_is_right, head_is_right, stmt_is_right, stmts_are_right}
use Rattle.ped_rules.specs.ped_flow.proofs.Truths.{or_none}
use Rattle.ped_rules.specs.ped_laws.specs.Acts.Orders.{IsIn}
use Rattle.ped_rules.specs.ped_laws.proofs.ActLaws.Lists.{in_left, in_right, in_parts}
use Rattle.ped_rules.specs.ped_laws.proofs.ConflictLaws.CoveringWrites.{own_access}
use Rattle.ped_rules.specs.ped_laws.proofs.FlowRunLaws.Standing.{Stand, first_stands, rest_stands, inner_stands, else_stands, is_there}
use Rattle.ped_reduce.specs.Sums.{Sum, sum_to}
use Rattle.ped_reduce.specs.Lowering.{and_then}
use Rattle.ped_reduce.proofs.SumShapes.{operand, IsSumOf, sum_is}
use Rattle.ped_reduce.proofs.ResemblingViews.{AreClean, HeadsClean}
use Rattle.ped_reduce.proofs.ReferencesInGaps.{loop}
use Rattle.ped_reduce.proofs.SummedReferences.{as_reference, not_read, sum_right}

false_or : (b : Bool) → (b ≡ true → ⊥) → b ≡ false
false_or true h = absurd (h refl)
false_or false h = refl

-- names for each of which it is known that it stands nowhere stand nowhere together
none_bad : (bad : List ℕ → Bool) (names : List (List ℕ)) → ((x : List ℕ) → bad x ≡ true → is_among x names ≡ false) → list_any bad names ≡ false
none_bad bad [] h = refl
none_bad bad (z ∷ zs) h = by (bad z) refl (none_bad bad zs (λ x b. (or_none (is_same_text x z) (is_among x zs) (h x b)).1))
  where
    by : (b : Bool) → bad z ≡ b → list_any bad zs ≡ false → (b || list_any bad zs) ≡ false
    by true e rest = absurd (both_ways (is_same_text z z) (or_none (is_same_text z z) (is_among z zs) (h z e)).0 (same_itself z))
    by false e rest = rest

heads_append : (xs ys : List Loop) → heads_of (xs ++ ys) ≡ heads_of xs ++ heads_of ys
heads_append [] ys = refl
heads_append (z ∷ xs) ys = ap (λ (hs : List Head). z.head ∷ hs) (heads_append xs ys)

variables_append : (xs ys : List Loop) → indices_of (xs ++ ys) ≡ indices_of xs ++ indices_of ys
variables_append [] ys = refl
variables_append (z ∷ xs) ys = ap (λ (vs : List (List ℕ)). z.head.variable ∷ vs) (variables_append xs ys)

module _ (x : List ℕ) where
  -- the name stands in none of these expressions
  abbrev pub Lack : List ExprTree → Type 0
  Lack [] = Unit {0}
  Lack (e ∷ es) = (is_among x (expr_names e) ≡ false) × Lack es

  -- nor in the initial value of one of these DO loops
  abbrev pub HeadsLack : List Head → Type 0
  HeadsLack [] = Unit {0}
  HeadsLack (h ∷ hs) = (is_among x (expr_names h.first) ≡ false) × HeadsLack hs

  -- it stands in no subscript of a reference, and in no initial value of a DO round it
  abbrev pub IsClearOf : Reference → Type 0
  IsClearOf r = HeadsLack (heads_of r.nest) × Lack r.access.subscripts

  heads_lack : (hs : List Head) (h : Head) → HeadsLack hs → is_among x (expr_names h.first) ≡ false → HeadsLack (hs ++ h ∷ [])
  heads_lack [] h a b = (b, tt)
  heads_lack (g ∷ hs) h a b = (a.0, heads_lack hs h a.1 b)

  pub nest_lacks : (nest : List Loop) (n : ℕ) (h : Head) → HeadsLack (heads_of nest) → is_among x (expr_names h.first) ≡ false → HeadsLack (heads_of (nest ++ loop n h ∷ []))
  nest_lacks nest n h a b = subst HeadsLack (sym (heads_append nest (loop n h ∷ []))) (heads_lack (heads_of nest) h a b)

  parts : (xs ys : List (List ℕ)) → is_among x (xs ++ ys) ≡ false → (is_among x xs ≡ false) × (is_among x ys ≡ false)
  parts xs ys h = or_none (is_among x xs) (is_among x ys) (sym (among_append x xs ys) ∙ h)

  joined : (xs ys : List (List ℕ)) → is_among x xs ≡ false → is_among x ys ≡ false → is_among x (xs ++ ys) ≡ false
  joined xs ys h k = among_append x xs ys ∙ (λ i. h i || k i)

  listed_lack : (es : ExprTrees) → is_among x (exprs_names es) ≡ false → Lack (listed es)
  listed_lack no_exprs h = tt
  listed_lack (more_exprs e rest) h = let p = parts (expr_names e) (exprs_names rest) h in (p.0, listed_lack rest p.1)

  -- it stands in no subscript of these accesses
  abbrev Bare : List Access → Type 0
  Bare accesses = (a : Access) → IsIn a accesses → Lack a.subscripts

  -- none of these accesses is of it
  abbrev Unread : List Access → Type 0
  Unread accesses = (a : Access) → IsIn a accesses → is_same_text x a.name ≡ false

  none_bare : Bare []
  none_bare a i = absurd i

  both_bare : (p q : List Access) → Bare p → Bare q → Bare (p ++ q)
  both_bare p q h k a i = elim (in_parts a p q i) [ inl j ↦ h a j | inr j ↦ k a j ]

  one_bare : (b : Bool) (one : Access) → Lack one.subscripts → Bare (if b then [] else one ∷ [])
  one_bare true one h a i = absurd i
  one_bare false one h a (inl e) = subst (λ (z : Access). Lack z.subscripts) (sym e) h
  one_bare false one h a (inr i) = absurd i

  single_bare : (one : Access) → Lack one.subscripts → Bare (one ∷ [])
  single_bare one h = one_bare false one h

  first_unread : (p q : List Access) → Unread (p ++ q) → Unread p
  first_unread p q h a i = h a (in_left a p q i)

  second_unread : (p q : List Access) → Unread (p ++ q) → Unread q
  second_unread p q h a i = h a (in_right a p q i)

  module _ (cs : List (List ℕ)) where
    module _ (indices : List (List ℕ)) where
      index_bare : (b : Bool) (y : List ℕ) → Bare (if b then [] else unless_constant cs (read_of y []))
      index_bare true y = none_bare
      index_bare false y = one_bare (is_among y cs) (read_of y []) tt

      -- where it doesn't stand in an expression, it stands in no subscript there
      mutual
        expr_bare : (e : ExprTree) → is_among x (expr_names e) ≡ false → Bare (expr_reads cs indices e)
        expr_bare (Int n) h = none_bare
        expr_bare (Var y) h = index_bare (is_among y indices) y
        expr_bare (Element y es) h =
            let p = or_none (is_same_text x y) (is_among x (exprs_names es)) h in
            both_bare (exprs_reads cs indices es) (unless_constant cs (read_of y (listed es))) (exprs_bare es p.1) (one_bare (is_among y cs) (read_of y (listed es)) (listed_lack es p.1))
        expr_bare (Neg a) h = expr_bare a h
        expr_bare (Add a b) h = let p = parts (expr_names a) (expr_names b) h in both_bare (expr_reads cs indices a) (expr_reads cs indices b) (expr_bare a p.0) (expr_bare b p.1)
        expr_bare (Sub a b) h = let p = parts (expr_names a) (expr_names b) h in both_bare (expr_reads cs indices a) (expr_reads cs indices b) (expr_bare a p.0) (expr_bare b p.1)
        expr_bare (Mul a b) h = let p = parts (expr_names a) (expr_names b) h in both_bare (expr_reads cs indices a) (expr_reads cs indices b) (expr_bare a p.0) (expr_bare b p.1)
        expr_bare (Div a b) h = let p = parts (expr_names a) (expr_names b) h in both_bare (expr_reads cs indices a) (expr_reads cs indices b) (expr_bare a p.0) (expr_bare b p.1)
        expr_bare (Pow a b) h = let p = parts (expr_names a) (expr_names b) h in both_bare (expr_reads cs indices a) (expr_reads cs indices b) (expr_bare a p.0) (expr_bare b p.1)
        expr_bare (Call f es) h = exprs_bare es h

        exprs_bare : (es : ExprTrees) → is_among x (exprs_names es) ≡ false → Bare (exprs_reads cs indices es)
        exprs_bare no_exprs h = none_bare
        exprs_bare (more_exprs e rest) h = let p = parts (expr_names e) (exprs_names rest) h in both_bare (expr_reads cs indices e) (exprs_reads cs indices rest) (expr_bare e p.0) (exprs_bare rest p.1)

      cond_bare : (c : CondTree) → is_among x (cond_names c) ≡ false → Bare (cond_reads cs indices c)
      cond_bare (Rel r a b) h = let p = parts (expr_names a) (expr_names b) h in both_bare (expr_reads cs indices a) (expr_reads cs indices b) (expr_bare a p.0) (expr_bare b p.1)
      cond_bare (Not a) h = cond_bare a h
      cond_bare (And a b) h = let p = parts (cond_names a) (cond_names b) h in both_bare (cond_reads cs indices a) (cond_reads cs indices b) (cond_bare a p.0) (cond_bare b p.1)
      cond_bare (Or a b) h = let p = parts (cond_names a) (cond_names b) h in both_bare (cond_reads cs indices a) (cond_reads cs indices b) (cond_bare a p.0) (cond_bare b p.1)

      element_bare : (y : List ℕ) (es : ExprTrees) → is_among x (exprs_names es) ≡ false → Bare (left_accesses cs indices (Element y es))
      element_bare y es h = both_bare (exprs_reads cs indices es) (unless_constant cs (write_of y (listed es))) (exprs_bare es h) (one_bare (is_among y cs) (write_of y (listed es)) (listed_lack es h))

      left_bare : (e : ExprTree) → is_among x (expr_names e) ≡ false → Bare (left_accesses cs indices e)
      left_bare (Var y) h = one_bare (is_among y cs) (write_of y []) tt
      left_bare (Element y es) h = element_bare y es (or_none (is_same_text x y) (is_among x (exprs_names es)) h).1
      left_bare (Int n) h = none_bare
      left_bare (Neg a) h = none_bare
      left_bare (Add a b) h = none_bare
      left_bare (Sub a b) h = none_bare
      left_bare (Mul a b) h = none_bare
      left_bare (Div a b) h = none_bare
      left_bare (Pow a b) h = none_bare
      left_bare (Call f es) h = none_bare

      lefts_bare : (es : List ExprTree) → is_among x (flat_map expr_names es) ≡ false → Bare (flat_map (left_accesses cs indices) es)
      lefts_bare [] h = none_bare
      lefts_bare (e ∷ es) h = let p = parts (expr_names e) (flat_map expr_names es) h in both_bare (left_accesses cs indices e) (flat_map (left_accesses cs indices) es) (left_bare e p.0) (lefts_bare es p.1)

      item_bare : (i : ItemTree) → is_among x (item_names i) ≡ false → Bare (item_reads cs indices i)
      item_bare (Value e) h = expr_bare e h
      item_bare (Text t) h = none_bare

      items_bare : (is : List ItemTree) → is_among x (flat_map item_names is) ≡ false → Bare (flat_map (item_reads cs indices) is)
      items_bare [] h = none_bare
      items_bare (i ∷ is) h = let p = parts (item_names i) (flat_map item_names is) h in both_bare (item_reads cs indices i) (flat_map (item_reads cs indices) is) (item_bare i p.0) (items_bare is p.1)

      private_bare : (ys : List (List ℕ)) → Bare (private_writes cs ys)
      private_bare [] = none_bare
      private_bare (y ∷ ys) = both_bare (unless_constant cs (write_of y [])) (private_writes cs ys) (one_bare (is_among y cs) (write_of y []) tt) (private_bare ys)

      head_bare : (h : Head) → is_among x (expr_names h.first) ≡ false → is_among x (expr_names h.last) ≡ false → Bare (expr_reads cs indices h.first ++ expr_reads cs indices h.last ++ private_writes cs h.private)
      head_bare h first last =
          both_bare (expr_reads cs indices h.first ++ expr_reads cs indices h.last) (private_writes cs h.private)
          (both_bare (expr_reads cs indices h.first) (expr_reads cs indices h.last) (expr_bare h.first first) (expr_bare h.last last)) (private_bare h.private)

      -- a variable that is no constant and no variable of a DO round an expression, and isn't read there, doesn't stand in it
      module _ (no_constant : is_among x cs ≡ false) where
        named : (y : List ℕ) (one : Access) → one.name ≡ y → Unread (if is_among y cs then [] else one ∷ []) → is_same_text x y ≡ false
        named y one name h = false_or (is_same_text x y) (λ e. (
            let here : is_among y cs ≡ false = ap (λ (z : List ℕ). is_among z cs) (sym (same_is x y e)) ∙ no_constant in
            let there : IsIn one (if is_among y cs then [] else one ∷ []) = subst (λ (b : Bool). IsIn one (if b then [] else one ∷ [])) (sym here) (inl refl) in
            both_ways (is_same_text x one.name) (h one there) (ap (is_same_text x) name ∙ e)
            ))

        module _ (no_index : is_among x indices ≡ false) where
          index_named : (y : List ℕ) (b : Bool) → is_among y indices ≡ b → Unread (if b then [] else unless_constant cs (read_of y [])) → is_same_text x y ≡ false
          index_named y true e h = false_or (is_same_text x y) (λ q. both_ways (is_among x indices) no_index (ap (λ (z : List ℕ). is_among z indices) (same_is x y q) ∙ e))
          index_named y false e h = named y (read_of y []) refl h

          mutual
            expr_lacks : (e : ExprTree) → Unread (expr_reads cs indices e) → is_among x (expr_names e) ≡ false
            expr_lacks (Int n) h = refl
            expr_lacks (Var y) h = λ i. index_named y (is_among y indices) refl h i || false
            expr_lacks (Element y es) h =
                let own = unless_constant cs (read_of y (listed es)) in
                let first = named y (read_of y (listed es)) refl (second_unread (exprs_reads cs indices es) own h) in
                let inner = exprs_lack es (first_unread (exprs_reads cs indices es) own h) in
                λ i. first i || inner i
            expr_lacks (Neg a) h = expr_lacks a h
            expr_lacks (Add a b) h = joined (expr_names a) (expr_names b) (expr_lacks a (first_unread (expr_reads cs indices a) (expr_reads cs indices b) h)) (expr_lacks b (second_unread (expr_reads cs indices a) (expr_reads cs indices b) h))
            expr_lacks (Sub a b) h = joined (expr_names a) (expr_names b) (expr_lacks a (first_unread (expr_reads cs indices a) (expr_reads cs indices b) h)) (expr_lacks b (second_unread (expr_reads cs indices a) (expr_reads cs indices b) h))
            expr_lacks (Mul a b) h = joined (expr_names a) (expr_names b) (expr_lacks a (first_unread (expr_reads cs indices a) (expr_reads cs indices b) h)) (expr_lacks b (second_unread (expr_reads cs indices a) (expr_reads cs indices b) h))
            expr_lacks (Div a b) h = joined (expr_names a) (expr_names b) (expr_lacks a (first_unread (expr_reads cs indices a) (expr_reads cs indices b) h)) (expr_lacks b (second_unread (expr_reads cs indices a) (expr_reads cs indices b) h))
            expr_lacks (Pow a b) h = joined (expr_names a) (expr_names b) (expr_lacks a (first_unread (expr_reads cs indices a) (expr_reads cs indices b) h)) (expr_lacks b (second_unread (expr_reads cs indices a) (expr_reads cs indices b) h))
            expr_lacks (Call f es) h = exprs_lack es h

            exprs_lack : (es : ExprTrees) → Unread (exprs_reads cs indices es) → is_among x (exprs_names es) ≡ false
            exprs_lack no_exprs h = refl
            exprs_lack (more_exprs e rest) h =
                joined (expr_names e) (exprs_names rest) (expr_lacks e (first_unread (expr_reads cs indices e) (exprs_reads cs indices rest) h)) (exprs_lack rest (second_unread (expr_reads cs indices e) (exprs_reads cs indices rest) h))

          cond_lacks : (c : CondTree) → Unread (cond_reads cs indices c) → is_among x (cond_names c) ≡ false
          cond_lacks (Rel r a b) h = joined (expr_names a) (expr_names b) (expr_lacks a (first_unread (expr_reads cs indices a) (expr_reads cs indices b) h)) (expr_lacks b (second_unread (expr_reads cs indices a) (expr_reads cs indices b) h))
          cond_lacks (Not a) h = cond_lacks a h
          cond_lacks (And a b) h = joined (cond_names a) (cond_names b) (cond_lacks a (first_unread (cond_reads cs indices a) (cond_reads cs indices b) h)) (cond_lacks b (second_unread (cond_reads cs indices a) (cond_reads cs indices b) h))
          cond_lacks (Or a b) h = joined (cond_names a) (cond_names b) (cond_lacks a (first_unread (cond_reads cs indices a) (cond_reads cs indices b) h)) (cond_lacks b (second_unread (cond_reads cs indices a) (cond_reads cs indices b) h))

          -- so it stands in no subscript of a statement by itself that doesn't refer to it
          left_unread : (e : ExprTree) → Unread (left_accesses cs indices e) → Bare (left_accesses cs indices e)
          left_unread (Var y) h = one_bare (is_among y cs) (write_of y []) tt
          left_unread (Element y es) h = element_bare y es (exprs_lack es (first_unread (exprs_reads cs indices es) (unless_constant cs (write_of y (listed es))) h))
          left_unread (Int n) h = none_bare
          left_unread (Neg a) h = none_bare
          left_unread (Add a b) h = none_bare
          left_unread (Sub a b) h = none_bare
          left_unread (Mul a b) h = none_bare
          left_unread (Div a b) h = none_bare
          left_unread (Pow a b) h = none_bare
          left_unread (Call f es) h = none_bare

          lefts_unread : (es : List ExprTree) → Unread (flat_map (left_accesses cs indices) es) → Bare (flat_map (left_accesses cs indices) es)
          lefts_unread [] h = none_bare
          lefts_unread (e ∷ es) h =
              both_bare (left_accesses cs indices e) (flat_map (left_accesses cs indices) es)
              (left_unread e (first_unread (left_accesses cs indices e) (flat_map (left_accesses cs indices) es) h)) (lefts_unread es (second_unread (left_accesses cs indices e) (flat_map (left_accesses cs indices) es) h))

          item_unread : (i : ItemTree) → Unread (item_reads cs indices i) → Bare (item_reads cs indices i)
          item_unread (Value e) h = expr_bare e (expr_lacks e h)
          item_unread (Text t) h = none_bare

          items_unread : (is : List ItemTree) → Unread (flat_map (item_reads cs indices) is) → Bare (flat_map (item_reads cs indices) is)
          items_unread [] h = none_bare
          items_unread (i ∷ is) h =
              both_bare (item_reads cs indices i) (flat_map (item_reads cs indices) is)
              (item_unread i (first_unread (item_reads cs indices i) (flat_map (item_reads cs indices) is) h)) (items_unread is (second_unread (item_reads cs indices i) (flat_map (item_reads cs indices) is) h))

          assign_unread : (left right : ExprTree) → Unread (own_accesses cs indices (Assign left right)) → Bare (own_accesses cs indices (Assign left right))
          assign_unread left right h =
              both_bare (expr_reads cs indices right) (left_accesses cs indices left)
              (expr_bare right (expr_lacks right (first_unread (expr_reads cs indices right) (left_accesses cs indices left) h))) (left_unread left (second_unread (expr_reads cs indices right) (left_accesses cs indices left) h))

          first_lacks : (h : Head) (body : StmtTrees) → Unread (own_accesses cs indices (Do h body)) → is_among x (expr_names h.first) ≡ false
          first_lacks h body u =
              let bounds = first_unread (expr_reads cs indices h.first ++ expr_reads cs indices h.last) (private_writes cs h.private) u in
              expr_lacks h.first (first_unread (expr_reads cs indices h.first) (expr_reads cs indices h.last) bounds)

          last_lacks : (h : Head) (body : StmtTrees) → Unread (own_accesses cs indices (Do h body)) → is_among x (expr_names h.last) ≡ false
          last_lacks h body u =
              let bounds = first_unread (expr_reads cs indices h.first ++ expr_reads cs indices h.last) (private_writes cs h.private) u in
              expr_lacks h.last (second_unread (expr_reads cs indices h.first) (expr_reads cs indices h.last) bounds)

          -- nor in one of a sum of it
          module _ (k : NameKinds) (scalar : is_scalar k x ≡ true) where
            operand_bare : (e : ExprTree) → Unread (expr_reads cs indices e) → Bare (expr_reads cs indices e)
            operand_bare e h = expr_bare e (expr_lacks e h)

            right_bare : (left right : ExprTree) (sum : Sum) → IsSumOf x left right sum → expr_is_right k right ≡ true → Bare (expr_reads cs indices right)
            right_bare left right sum of fits =
                let e = operand sum in
                let it : Bare (expr_reads cs indices e) = operand_bare e (λ a i. not_read k x scalar cs indices e a (sum_right k x left right sum of fits) of.lacks i) in
                let own : Bare (expr_reads cs indices (Var x)) = index_bare (is_among x indices) x in
                elim of.shape [
                  | inl q ↦ subst (λ (z : ExprTree). Bare (expr_reads cs indices z)) (sym q) (both_bare (expr_reads cs indices (Var x)) (expr_reads cs indices e) own it)
                  | inr w ↦ elim w [
                    | inl q ↦ subst (λ (z : ExprTree). Bare (expr_reads cs indices z)) (sym q) (both_bare (expr_reads cs indices e) (expr_reads cs indices (Var x)) it own)
                    | inr q ↦ subst (λ (z : ExprTree). Bare (expr_reads cs indices z)) (sym q) (both_bare (expr_reads cs indices (Var x)) (expr_reads cs indices e) own it)
                  ]
                ]

            sum_bare : (left right : ExprTree) (sum : Sum) → IsSumOf x left right sum → expr_is_right k right ≡ true → Bare (own_accesses cs indices (Assign left right))
            sum_bare left right sum of fits =
                both_bare (expr_reads cs indices right) (left_accesses cs indices left) (right_bare left right sum of fits)
                (subst (λ (z : ExprTree). Bare (left_accesses cs indices z)) (sym of.written) (one_bare (is_among x cs) (write_of x []) tt))

    -- all of these are clear of it
    abbrev pub AllClear : List Reference → Type 0
    AllClear refs = (r : Reference) → IsIn r refs → IsClearOf r

    none_clear : AllClear []
    none_clear r i = absurd i

    both_clear : (p q : List Reference) → AllClear p → AllClear q → AllClear (p ++ q)
    both_clear p q h k r i = elim (in_parts r p q i) [ inl j ↦ h r j | inr j ↦ k r j ]

    own_clear : (n : ℕ) (nest : List Loop) (accesses : List Access) → HeadsLack (heads_of nest) → Bare accesses → AllClear (numbered_accesses n 1 nest accesses)
    own_clear n nest accesses heads bare r i = let o = own_access n 1 nest accesses r i in (subst (λ (ls : List Loop). HeadsLack (heads_of ls)) (sym o.1) heads, bare r.access o.2)

    -- references of statements in which the name doesn't stand
    mutual
      one_unnamed : (nest : List Loop) (n : ℕ) (s : StmtTree) → HeadsLack (heads_of nest) → is_among x (stmt_names s) ≡ false → AllClear (statement_references cs nest n s)
      one_unnamed nest n (Assign left right) heads h =
          let p = parts (expr_names left) (expr_names right) h in
          let idx = indices_of nest in
          own_clear n nest (own_accesses cs idx (Assign left right)) heads (both_bare (expr_reads cs idx right) (left_accesses cs idx left) (expr_bare idx right p.1) (left_bare idx left p.0))
      one_unnamed nest n (If c a b) heads h =
          let p = parts (cond_names c ++ stmts_names a) (stmts_names b) h in
          let q = parts (cond_names c) (stmts_names a) p.0 in
          let own = numbered_accesses n 1 nest (own_accesses cs (indices_of nest) (If c a b)) in
          both_clear (own ++ statements_references cs nest (n + 1) a) (statements_references cs nest (n + 1 + statements_count a) b)
          (both_clear own (statements_references cs nest (n + 1) a) (own_clear n nest (own_accesses cs (indices_of nest) (If c a b)) heads (cond_bare (indices_of nest) c q.0)) (all_unnamed nest (n + 1) a heads q.1))
          (all_unnamed nest (n + 1 + statements_count a) b heads p.1)
      one_unnamed nest n (Do h body) heads k =
          let p = parts (head_names h) (stmts_names body) k in
          let rest = (or_none (is_same_text x h.variable) (is_among x (expr_names h.first ++ expr_names h.last ++ expr_names h.step ++ h.private)) (parts h.rejected (h.variable ∷ (expr_names h.first ++ expr_names h.last ++ expr_names h.step ++ h.private)) p.0).1).1 in
          let step = parts (expr_names h.first ++ expr_names h.last ++ expr_names h.step) h.private rest in
          let last = parts (expr_names h.first ++ expr_names h.last) (expr_names h.step) step.0 in
          let bounds = parts (expr_names h.first) (expr_names h.last) last.0 in
          let inner = nest ++ loop n h ∷ [] in
          both_clear (numbered_accesses n 1 nest (own_accesses cs (indices_of nest) (Do h body))) (statements_references cs inner (n + 1) body)
          (own_clear n nest (own_accesses cs (indices_of nest) (Do h body)) heads (head_bare (indices_of nest) h bounds.0 bounds.1)) (all_unnamed inner (n + 1) body (nest_lacks nest n h heads bounds.0) p.1)
      one_unnamed nest n (Print items) heads h =
          own_clear n nest (own_accesses cs (indices_of nest) (Print items)) heads
          (both_bare (flat_map (item_reads cs (indices_of nest)) items) (write_of (codes "(OUT)") [] ∷ []) (items_bare (indices_of nest) items h) (single_bare (write_of (codes "(OUT)") []) tt))
      one_unnamed nest n (Read items) heads h =
          own_clear n nest (own_accesses cs (indices_of nest) (Read items)) heads
          (both_bare (write_of (codes "(IN)") [] ∷ []) (flat_map (left_accesses cs (indices_of nest)) items) (single_bare (write_of (codes "(IN)") []) tt) (lefts_bare (indices_of nest) items h))
      one_unnamed nest n Stop heads h = none_clear
      one_unnamed nest n (Comment text) heads h = none_clear

      pub all_unnamed : (nest : List Loop) (n : ℕ) (ss : StmtTrees) → HeadsLack (heads_of nest) → is_among x (stmts_names ss) ≡ false → AllClear (statements_references cs nest n ss)
      all_unnamed nest n no_stmts heads h = none_clear
      all_unnamed nest n (more_stmts s rest) heads h =
          let p = parts (stmt_names s) (stmts_names rest) h in
          both_clear (statement_references cs nest n s) (statements_references cs nest (n + statement_count s) rest) (one_unnamed nest n s heads p.0) (all_unnamed nest (n + statement_count s) rest heads p.1)

    -- references of statements in which those to a scalar stand in sums of it
    module _ (t : ProgramTree) (k : NameKinds) (scalar : is_scalar k x ≡ true) (no_constant : is_among x cs ≡ false) where
      -- where it is one to the scalar, its statement is a sum of that
      abbrev pub InSum : Reference → Type 0
      InSum r = is_same_text x r.access.name ≡ true → is_some (and_then (statement_with r.statement t) (sum_to x)) ≡ true

      abbrev Own : ℕ → List Loop → StmtTree → List Reference
      Own n nest s = numbered_accesses n 1 nest (own_accesses cs (indices_of nest) s)

      unread : (n : ℕ) (nest : List Loop) (s : StmtTree) (xs : List StmtTree) → Stand t n (s ∷ xs) → ((r : Reference) → IsIn r (Own n nest s) → InSum r) → sum_to x s ≡ None → Unread (own_accesses cs (indices_of nest) s)
      unread n nest s xs st sums none a i = false_or (is_same_text x a.name) (λ e. (
          let r = as_reference n 1 nest a (own_accesses cs (indices_of nest) s) i in
          let o = own_access n 1 nest (own_accesses cs (indices_of nest) s) r.0 r.1 in
          let there : statement_with r.0.statement t ≡ Some s = ap (λ (j : ℕ). statement_with j t) o.0 ∙ is_there t s xs n st in
          both_ways (is_some (sum_to x s)) (ap is_some none)
          (sym (ap (λ (z : Option StmtTree). is_some (and_then z (sum_to x))) there) ∙ sums r.0 r.1 (ap (λ (z : Access). is_same_text x z.name) r.2 ∙ e))
          ))

      assign_bare : (n : ℕ) (nest : List Loop) (left right : ExprTree) → is_among x (indices_of nest) ≡ false → Stand t n (Assign left right ∷ []) → expr_is_right k right ≡ true → ((r : Reference) → IsIn r (Own n nest (Assign left right)) → InSum r)
          → (o : Option Sum) → sum_to x (Assign left right) ≡ o → Bare (own_accesses cs (indices_of nest) (Assign left right))
      assign_bare n nest left right free st fits sums None e = assign_unread (indices_of nest) no_constant free left right (unread n nest (Assign left right) [] st sums e)
      assign_bare n nest left right free st fits sums (Some sum) e = sum_bare (indices_of nest) no_constant free k scalar left right sum (sum_is x sum left right e) fits

      free_more : (nest : List Loop) (n : ℕ) (h : Head) → is_among x (indices_of nest) ≡ false → is_same_text x h.variable ≡ false → is_among x (indices_of (nest ++ loop n h ∷ [])) ≡ false
      free_more nest n h a b = ap (is_among x) (variables_append nest (loop n h ∷ [])) ∙ joined (indices_of nest) (h.variable ∷ []) a (λ i. b i || false)

      mutual
        one_summed : (nest : List Loop) (n : ℕ) (s : StmtTree) → HeadsLack (heads_of nest) → is_among x (indices_of nest) ≡ false → is_among x (loop_variables s) ≡ false → Stand t n (numbered s) → stmt_is_right k s ≡ true
            → ((r : Reference) → IsIn r (statement_references cs nest n s) → InSum r) → AllClear (statement_references cs nest n s)
        one_summed nest n (Assign left right) heads free clear st fits sums =
            own_clear n nest (own_accesses cs (indices_of nest) (Assign left right)) heads
            (assign_bare n nest left right free st (and_parts (target_is_right k left) (expr_is_right k right) fits).1 sums (sum_to x (Assign left right)) refl)
        one_summed nest n (If c a b) heads free clear st fits sums =
            let inside = inner_stands t (If c a b) (all_numbered a ++ all_numbered b) n st in
            let rights = and_parts (cond_is_right k c && stmts_are_right k a) (stmts_are_right k b) fits in
            let variables = parts (all_loop_variables a) (all_loop_variables b) clear in
            let own = Own n nest (If c a b) in
            let of_a = statements_references cs nest (n + 1) a in
            let of_b = statements_references cs nest (n + 1 + statements_count a) b in
            let mine : Unread (own_accesses cs (indices_of nest) (If c a b)) = unread n nest (If c a b) (all_numbered a ++ all_numbered b) st (λ r w. sums r (in_left r (own ++ of_a) of_b (in_left r own of_a w))) refl in
            both_clear (own ++ of_a) of_b
            (both_clear own of_a (own_clear n nest (own_accesses cs (indices_of nest) (If c a b)) heads (cond_bare (indices_of nest) c (cond_lacks (indices_of nest) no_constant free c mine)))
            (all_summed nest (n + 1) a heads free variables.0 (first_stands t (n + 1) (all_numbered a) (all_numbered b) inside) (and_parts (cond_is_right k c) (stmts_are_right k a) rights.0).1 (λ r w. sums r (in_left r (own ++ of_a) of_b (in_right r own of_a w)))))
            (all_summed nest (n + 1 + statements_count a) b heads free variables.1 (else_stands t a b (n + 1) inside) rights.1 (λ r w. sums r (in_right r (own ++ of_a) of_b w)))
        one_summed nest n (Do h body) heads free clear st fits sums =
            let rights = and_parts (head_is_right k h) (stmts_are_right k body) fits in
            let variables = or_none (is_same_text x h.variable) (is_among x (all_loop_variables body)) clear in
            let inner = nest ++ loop n h ∷ [] in
            let own = Own n nest (Do h body) in
            let of_body = statements_references cs inner (n + 1) body in
            let mine : Unread (own_accesses cs (indices_of nest) (Do h body)) = unread n nest (Do h body) (all_numbered body) st (λ r w. sums r (in_left r own of_body w)) refl in
            let first = first_lacks (indices_of nest) no_constant free h body mine in
            let last = last_lacks (indices_of nest) no_constant free h body mine in
            both_clear own of_body (own_clear n nest (own_accesses cs (indices_of nest) (Do h body)) heads (head_bare (indices_of nest) h first last))
            (all_summed inner (n + 1) body (nest_lacks nest n h heads first) (free_more nest n h free variables.0) variables.1 (inner_stands t (Do h body) (all_numbered body) n st) rights.1 (λ r w. sums r (in_right r own of_body w)))
        one_summed nest n (Print items) heads free clear st fits sums =
            let idx = indices_of nest in
            let mine : Unread (own_accesses cs idx (Print items)) = unread n nest (Print items) [] st sums refl in
            own_clear n nest (own_accesses cs idx (Print items)) heads
            (both_bare (flat_map (item_reads cs idx) items) (write_of (codes "(OUT)") [] ∷ []) (items_unread idx no_constant free items (first_unread (flat_map (item_reads cs idx) items) (write_of (codes "(OUT)") [] ∷ []) mine)) (single_bare (write_of (codes "(OUT)") []) tt))
        one_summed nest n (Read items) heads free clear st fits sums =
            let idx = indices_of nest in
            let mine : Unread (own_accesses cs idx (Read items)) = unread n nest (Read items) [] st sums refl in
            own_clear n nest (own_accesses cs idx (Read items)) heads
            (both_bare (write_of (codes "(IN)") [] ∷ []) (flat_map (left_accesses cs idx) items) (single_bare (write_of (codes "(IN)") []) tt) (lefts_unread idx no_constant free items (second_unread (write_of (codes "(IN)") [] ∷ []) (flat_map (left_accesses cs idx) items) mine)))
        one_summed nest n Stop heads free clear st fits sums = none_clear
        one_summed nest n (Comment text) heads free clear st fits sums = none_clear

        pub all_summed : (nest : List Loop) (n : ℕ) (ss : StmtTrees) → HeadsLack (heads_of nest) → is_among x (indices_of nest) ≡ false → is_among x (all_loop_variables ss) ≡ false → Stand t n (all_numbered ss) → stmts_are_right k ss ≡ true
            → ((r : Reference) → IsIn r (statements_references cs nest n ss) → InSum r) → AllClear (statements_references cs nest n ss)
        all_summed nest n no_stmts heads free clear st fits sums = none_clear
        all_summed nest n (more_stmts s rest) heads free clear st fits sums =
            let rights = and_parts (stmt_is_right k s) (stmts_are_right k rest) fits in
            let variables = parts (loop_variables s) (all_loop_variables rest) clear in
            let of_s = statement_references cs nest n s in
            let of_rest = statements_references cs nest (n + statement_count s) rest in
            both_clear of_s of_rest
            (one_summed nest n s heads free variables.0 (first_stands t n (numbered s) (all_numbered rest) st) rights.0 (λ r w. sums r (in_left r of_s of_rest w)))
            (all_summed nest (n + statement_count s) rest heads free variables.1 (rest_stands t s rest n st) rights.1 (λ r w. sums r (in_right r of_s of_rest w)))

-- expressions in which none of some names stands are clean of them
pub subscripts_clean : (bad : List ℕ → Bool) (es : List ExprTree) → ((x : List ℕ) → bad x ≡ true → Lack x es) → AreClean bad es
subscripts_clean bad [] h = tt
subscripts_clean bad (e ∷ es) h = (none_bad bad (expr_names e) (λ x b. (h x b).0), subscripts_clean bad es (λ x b. (h x b).1))

pub heads_clean : (bad : List ℕ → Bool) (hs : List Head) → ((x : List ℕ) → bad x ≡ true → HeadsLack x hs) → HeadsClean bad hs
heads_clean bad [] h = tt
heads_clean bad (g ∷ hs) h = (none_bad bad (expr_names g.first) (λ x b. (h x b).0), heads_clean bad hs (λ x b. (h x b).1))
