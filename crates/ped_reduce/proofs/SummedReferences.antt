-- The references in the body of a lowered DO: to its arrays, at the DO's variable; or those of the old body, to none of the scalars.
use Rattle.std.proofs.Common.{◌≡◌, ◌⊎◌, ℕ, suc, ◌+◌, ◌<◌, List, [], ◌∷◌, ◌++◌, map, Bool, true, false, ◌&&◌, ◌||◌, Option, Some, None, is_some, if◌then◌else◌, inl, inr, refl, sym, ap, subst, ◌∙◌, arith, append_assoc, append-nil}
use Rattle.std.proofs.lemmas.Bool.{and_parts, both_ways}
use Rattle.std.proofs.lemmas.List.{map-append}
use Rattle.ped_base.specs.Lists.{is_same_text, is_among}
use Rattle.ped_base.proofs.NameEquality.{same_flip, same_is}
use Rattle.ped_tree.specs.Tree.{ExprTree, ExprTrees, Int, Var, Element, Neg, Add, Sub, Mul, Div, Pow, Call, no_exprs, more_exprs, Head, StmtTree, StmtTrees, Assign, If, Do, Print, Read, Stop, Comment, no_stmts, more_stmts, ProgramTree}
use Rattle.ped_tree.specs.declared.expressions.Intrinsic.TheVariants.{Mod}
use Rattle.ped_tree.specs.Accesses.{Access, read_of, write_of, unless_constant, expr_reads, exprs_reads, left_accesses, own_accesses, listed}
use Rattle.ped_tree.proofs.NameLaws.Collected.{among_append}
use Rattle.ped_tree.specs.NamesIn.{loop_variables, all_loop_variables}
use Rattle.ped_tree.specs.Nests.{Loop, indices_of}
use Rattle.ped_tree.specs.Numbering.{numbered, all_numbered, statement_with, statement_count, statements_count}
use Rattle.ped_refs.specs.References.{Reference, numbered_accesses, statement_references, statements_references}
use Rattle.ped_rules.specs.ped_affine.specs.PairViews.{heads_of}
use Rattle.ped_rules.specs.ped_symbols.specs.declared.symbols.Kind.{Kind}
use Rattle.ped_rules.specs.ped_symbols.specs.declared.symbols.Kind.TheVariants.{Scalar, Array, Constant}
use Rattle.ped_rules.specs.ped_symbols.specs.Uses.{expr_count}
use Rattle.ped_rules.specs.ped_symbols.specs.RightUses.RightUses.{NameKinds, is_scalar_kind, is_array_kind, is_scalar, has_rank, is_rank, expr_is_right, exprs_are_right, target_is_right, cond_is_right, head_is_right, stmt_is_right, stmts_are_right}
use Rattle.ped_rules.specs.ped_flow.proofs.Truths.{untrue, or_none}
use Rattle.ped_rules.specs.ped_symbolic.specs.Substitution.{has_scalar, have_scalar}
use Rattle.ped_rules.specs.ped_laws.specs.Acts.Orders.{IsIn}
use Rattle.ped_rules.specs.ped_laws.proofs.ActLaws.Lists.{in_left, in_right, in_parts}
use Rattle.ped_rules.specs.ped_laws.proofs.ConflictLaws.CoveringWrites.{own_access}
use Rattle.ped_rules.specs.ped_laws.proofs.FlowRunLaws.Standing.{Stand, first_stands, rest_stands, inner_stands, else_stands, is_there}
use Rattle.ped_reduce.specs.Sums.{Sum, plus, minus, sum_of, sum_to}
use Rattle.ped_reduce.specs.Lowering.{Partials, at, zeros, with_sum, added_apart, sum_apart, summed, all_summed, and_then}
use Rattle.ped_reduce.proofs.Resembling.{arrays_of, scalars_of}
use Rattle.ped_reduce.proofs.SumShapes.{operand, IsSumOf, IsApart, IsBare, apart_or_bare, scalar_among, scalar_of, arrays_among}
use Rattle.ped_reduce.proofs.ResemblingViews.{same_indices}
use Rattle.ped_reduce.proofs.ReferencesInGaps.{loop, references_followed}

-- a DO under another number
abbrev pub renumbered : (ℕ → ℕ) → Loop → Loop
renumbered f l = record { number = f l.number; head = l.head }

-- the new numbers of the DO loops in a statement, whose number is n and becomes m, where sums are kept apart
abbrev mutual
  pub Tells : (ℕ → ℕ) → List ℕ → List Partials → StmtTree → ℕ → ℕ → Type 0
  Tells f v ps (Assign left right) n m = Unit {0}
  Tells f v ps (If c a b) n m = AllTell f v ps a (n + 1) (m + 1) × AllTell f v ps b (n + 1 + statements_count a) (m + 1 + statements_count (all_summed v ps a))
  Tells f v ps (Do h body) n m = (f n ≡ m) × AllTell f v ps body (n + 1) (m + 1)
  Tells f v ps (Print items) n m = Unit {0}
  Tells f v ps (Read items) n m = Unit {0}
  Tells f v ps Stop n m = Unit {0}
  Tells f v ps (Comment text) n m = Unit {0}

  pub AllTell : (ℕ → ℕ) → List ℕ → List Partials → StmtTrees → ℕ → ℕ → Type 0
  AllTell f v ps no_stmts n m = Unit {0}
  AllTell f v ps (more_stmts s rest) n m = Tells f v ps s n m × AllTell f v ps rest (n + statement_count s) (m + statements_count (summed v ps s))

-- an access of this array, at the DO's variable
abbrev pub OfArray : List ℕ → List ℕ → Access → Type 0
OfArray v array a = (a.name ≡ array) × (a.subscripts ≡ Var v ∷ [])

-- a reference to one of the arrays, at the DO's variable, inside DO loops that have other variables
pub record IsOfArrays (other : List Loop) (v : List ℕ) (ps : List Partials) (r : Reference) : Type 0 where
  pub array : is_among r.access.name (arrays_of ps) ≡ true
  pub subscripts : r.access.subscripts ≡ Var v ∷ []
  pub inner : List Loop
  pub nest : r.nest ≡ other ++ inner
  pub apart : is_among v (indices_of inner) ≡ false

-- a reference that comes from one of these, to none of the scalars: the same access, in the same DO loops under other numbers, those further in behind a number
pub record IsFrom (f : ℕ → ℕ) (low : ℕ) (base other : List Loop) (ps : List Partials) (old : List Reference) (r : Reference) : Type 0 where
  pub source : Reference
  pub listed : IsIn source old
  pub access : r.access ≡ source.access
  pub inner : List Loop
  pub deep : (l : Loop) → IsIn l inner → low < l.number
  pub old_nest : source.nest ≡ base ++ inner
  pub new_nest : r.nest ≡ other ++ map (renumbered f) inner
  pub unsummed : is_among source.access.name (scalars_of ps) ≡ false

false_or : (b : Bool) → (b ≡ true → ⊥) → b ≡ false
false_or true h = absurd (h refl)
false_or false h = refl

-- an access of a statement by itself as a reference
pub as_reference : (n k : ℕ) (nest : List Loop) (a : Access) (accesses : List Access) → IsIn a accesses → (r : Reference) × IsIn r (numbered_accesses n k nest accesses) × (r.access ≡ a)
as_reference n k nest a [] i = absurd i
as_reference n k nest a (x ∷ xs) (inl e) = (record { statement = n; number = k; access = x; nest = nest }, inl refl, sym e)
as_reference n k nest a (x ∷ xs) (inr i) = let r = as_reference n (suc k) nest a xs i in (r.0, inr r.1, r.2)

-- no scalar is read as an array
module _ (k : NameKinds) (x : List ℕ) (scalar : is_scalar k x ≡ true) where
  apart_kinds : (rank : ℕ) (o : Option Kind) → is_scalar_kind o ≡ true → is_array_kind rank o ≡ true → ⊥
  apart_kinds rank None s a = untrue s
  apart_kinds rank (Some Scalar) s a = untrue a
  apart_kinds rank (Some (Array d)) s a = untrue s
  apart_kinds rank (Some (Constant n)) s a = untrue s

  no_array : (rank : ℕ) (y : List ℕ) → has_rank k rank y ≡ true → is_same_text x y ≡ false
  no_array rank y h = false_or (is_same_text x y) (λ e. apart_kinds rank (k x) scalar (ap (λ (z : List ℕ). has_rank k rank z) (same_is x y e) ∙ h))

  module _ (cs indices : List (List ℕ)) where
    by_constant : (y : List ℕ) (es : List ExprTree) (b : Bool) (a : Access) → is_same_text x y ≡ false → IsIn a (if b then [] else read_of y es ∷ []) → is_same_text x a.name ≡ false
    by_constant y es true a h i = absurd i
    by_constant y es false a h (inl e) = ap (λ (z : Access). is_same_text x z.name) e ∙ h
    by_constant y es false a h (inr i) = absurd i

    by_index : (y : List ℕ) (b : Bool) (a : Access) → is_same_text x y ≡ false → IsIn a (if b then [] else unless_constant cs (read_of y [])) → is_same_text x a.name ≡ false
    by_index y true a h i = absurd i
    by_index y false a h i = by_constant y [] (is_among y cs) a h i

    -- where the scalar doesn't stand in a right expression, it isn't read there
    mutual
      pub not_read : (e : ExprTree) (a : Access) → expr_is_right k e ≡ true → has_scalar x e ≡ false → IsIn a (expr_reads cs indices e) → is_same_text x a.name ≡ false
      not_read (Int n) a right lacks i = absurd i
      not_read (Var y) a right lacks i = by_index y (is_among y indices) a lacks i
      not_read (Element y es) a right lacks i =
          let whole = and_parts (has_rank k (expr_count es) y && is_rank (expr_count es)) (exprs_are_right k es) right in
          let rank = and_parts (has_rank k (expr_count es) y) (is_rank (expr_count es)) whole.0 in
          elim (in_parts a (exprs_reads cs indices es) (unless_constant cs (read_of y (listed es))) i) [
            | inl j ↦ none_read es a whole.1 lacks j
            | inr j ↦ by_constant y (listed es) (is_among y cs) a (no_array (expr_count es) y rank.0) j
          ]
      not_read (Neg e) a right lacks i = not_read e a right lacks i
      not_read (Add e g) a right lacks i =
          let r = and_parts (expr_is_right k e) (expr_is_right k g) right in
          let l = or_none (has_scalar x e) (has_scalar x g) lacks in
          elim (in_parts a (expr_reads cs indices e) (expr_reads cs indices g) i) [ inl j ↦ not_read e a r.0 l.0 j | inr j ↦ not_read g a r.1 l.1 j ]
      not_read (Sub e g) a right lacks i =
          let r = and_parts (expr_is_right k e) (expr_is_right k g) right in
          let l = or_none (has_scalar x e) (has_scalar x g) lacks in
          elim (in_parts a (expr_reads cs indices e) (expr_reads cs indices g) i) [ inl j ↦ not_read e a r.0 l.0 j | inr j ↦ not_read g a r.1 l.1 j ]
      not_read (Mul e g) a right lacks i =
          let r = and_parts (expr_is_right k e) (expr_is_right k g) right in
          let l = or_none (has_scalar x e) (has_scalar x g) lacks in
          elim (in_parts a (expr_reads cs indices e) (expr_reads cs indices g) i) [ inl j ↦ not_read e a r.0 l.0 j | inr j ↦ not_read g a r.1 l.1 j ]
      not_read (Div e g) a right lacks i =
          let r = and_parts (expr_is_right k e) (expr_is_right k g) right in
          let l = or_none (has_scalar x e) (has_scalar x g) lacks in
          elim (in_parts a (expr_reads cs indices e) (expr_reads cs indices g) i) [ inl j ↦ not_read e a r.0 l.0 j | inr j ↦ not_read g a r.1 l.1 j ]
      not_read (Pow e g) a right lacks i =
          let r = and_parts (expr_is_right k e) (expr_is_right k g) right in
          let l = or_none (has_scalar x e) (has_scalar x g) lacks in
          elim (in_parts a (expr_reads cs indices e) (expr_reads cs indices g) i) [ inl j ↦ not_read e a r.0 l.0 j | inr j ↦ not_read g a r.1 l.1 j ]
      not_read (Call f es) a right lacks i = none_read es a (and_parts _ (exprs_are_right k es) right).1 lacks i

      none_read : (es : ExprTrees) (a : Access) → exprs_are_right k es ≡ true → have_scalar x es ≡ false → IsIn a (exprs_reads cs indices es) → is_same_text x a.name ≡ false
      none_read no_exprs a right lacks i = absurd i
      none_read (more_exprs e rest) a right lacks i =
          let r = and_parts (expr_is_right k e) (exprs_are_right k rest) right in
          let l = or_none (has_scalar x e) (have_scalar x rest) lacks in
          elim (in_parts a (expr_reads cs indices e) (exprs_reads cs indices rest) i) [ inl j ↦ not_read e a r.0 l.0 j | inr j ↦ none_read rest a r.1 l.1 j ]

-- what the statements that keep a sum apart read and write
module _ (cs indices : List (List ℕ)) (v : List ℕ) (indexed : is_among v indices ≡ true) where
  not_index : (b : Bool) (a : Access) → b ≡ true → IsIn a (if b then [] else unless_constant cs (read_of v [])) → ⊥
  not_index true a e i = i
  not_index false a e i = untrue e

  only_one : (b : Bool) (a one : Access) → IsIn a (if b then [] else one ∷ []) → a ≡ one
  only_one true a one i = absurd i
  only_one false a one (inl e) = e
  only_one false a one (inr i) = absurd i

  no_subscript : (a : Access) → IsIn a (exprs_reads cs indices (more_exprs (Var v) no_exprs)) → ⊥
  no_subscript a i = elim (in_parts a (expr_reads cs indices (Var v)) [] i) [ inl j ↦ not_index (is_among v indices) a indexed j | inr j ↦ j ]

  element_reads : (array : List ℕ) (a : Access) → IsIn a (expr_reads cs indices (at array v)) → OfArray v array a
  element_reads array a i = elim (in_parts a (exprs_reads cs indices (more_exprs (Var v) no_exprs)) (unless_constant cs (read_of array (Var v ∷ []))) i) [
    | inl j ↦ absurd (no_subscript a j)
    | inr j ↦ (let e = only_one (is_among array cs) a (read_of array (Var v ∷ [])) j in (ap (λ (z : Access). z.name) e, ap (λ (z : Access). z.subscripts) e))
  ]

  pub element_writes : (array : List ℕ) (a : Access) → IsIn a (left_accesses cs indices (at array v)) → OfArray v array a
  element_writes array a i = elim (in_parts a (exprs_reads cs indices (more_exprs (Var v) no_exprs)) (unless_constant cs (write_of array (Var v ∷ []))) i) [
    | inl j ↦ absurd (no_subscript a j)
    | inr j ↦ (let e = only_one (is_among array cs) a (write_of array (Var v ∷ [])) j in (ap (λ (z : Access). z.name) e, ap (λ (z : Access). z.subscripts) e))
  ]

  module _ (p : Partials) (sum : Sum) where
    -- an access of one of the three arrays, or a read of what is added
    abbrev pub OfSum : Access → Type 0
    OfSum a = (OfArray v p.high a ⊎ (OfArray v p.low a ⊎ OfArray v p.flag a)) ⊎ IsIn a (expr_reads cs indices (operand sum))

    with_reads : (s : Sum) (a : Access) → IsIn a (expr_reads cs indices (with_sum (at p.low v) s)) → OfArray v p.low a ⊎ IsIn a (expr_reads cs indices (operand s))
    with_reads (plus e) a i = elim (in_parts a (expr_reads cs indices (at p.low v)) (expr_reads cs indices e) i) [ inl j ↦ inl (element_reads p.low a j) | inr j ↦ inr j ]
    with_reads (minus e) a i = elim (in_parts a (expr_reads cs indices (at p.low v)) (expr_reads cs indices e) i) [ inl j ↦ inl (element_reads p.low a j) | inr j ↦ inr j ]

    sum_reads : (a : Access) → IsIn a (expr_reads cs indices (with_sum (at p.low v) sum)) → OfSum a
    sum_reads a i = elim (with_reads sum a i) [ inl j ↦ inl (inr (inl j)) | inr j ↦ inr j ]

    of_high : (a : Access) → IsIn a (own_accesses cs indices (Assign (at p.high v) (Add (at p.high v) (Div (with_sum (at p.low v) sum) (Int 65536))))) → OfSum a
    of_high a i =
        let high = expr_reads cs indices (at p.high v) in
        let low = expr_reads cs indices (with_sum (at p.low v) sum) in
        elim (in_parts a (high ++ (low ++ [])) (left_accesses cs indices (at p.high v)) i) [
          | inl j ↦ elim (in_parts a high (low ++ []) j) [
            | inl k ↦ inl (inl (element_reads p.high a k))
            | inr k ↦ elim (in_parts a low [] k) [ inl o ↦ sum_reads a o | inr o ↦ absurd o ]
          ]
          | inr j ↦ inl (inl (element_writes p.high a j))
        ]

    of_low : (a : Access) → IsIn a (own_accesses cs indices (Assign (at p.low v) (Call Mod (more_exprs (with_sum (at p.low v) sum) (more_exprs (Int 65536) no_exprs))))) → OfSum a
    of_low a i =
        let low = expr_reads cs indices (with_sum (at p.low v) sum) in
        elim (in_parts a (low ++ []) (left_accesses cs indices (at p.low v)) i) [
          | inl j ↦ elim (in_parts a low [] j) [ inl o ↦ sum_reads a o | inr o ↦ absurd o ]
          | inr j ↦ inl (inr (inl (element_writes p.low a j)))
        ]

    of_flag : (a : Access) → IsIn a (own_accesses cs indices (Assign (at p.flag v) (Int 1))) → OfSum a
    of_flag a i = inl (inr (inr (element_writes p.flag a i)))

    -- of the three statements
    pub of_apart : (nest : List Loop) (m : ℕ) (r : Reference) → indices_of nest ≡ indices → IsIn r (statements_references cs nest m (added_apart v p sum)) → (r.nest ≡ nest) × OfSum r.access
    of_apart nest m r e i =
        elim (in_parts r (own m first) (own (m + 1) second ++ (own (m + 1 + 1) third ++ [])) i) [
          | inl j ↦ (let o = own_access m 1 nest (own_accesses cs (indices_of nest) first) r j in (o.1, of_high r.access (by first r.access o.2)))
          | inr j ↦ elim (in_parts r (own (m + 1) second) (own (m + 1 + 1) third ++ []) j) [
            | inl k ↦ (let o = own_access (m + 1) 1 nest (own_accesses cs (indices_of nest) second) r k in (o.1, of_low r.access (by second r.access o.2)))
            | inr k ↦ elim (in_parts r (own (m + 1 + 1) third) [] k) [
              | inl q ↦ (let o = own_access (m + 1 + 1) 1 nest (own_accesses cs (indices_of nest) third) r q in (o.1, of_flag r.access (by third r.access o.2)))
              | inr q ↦ absurd q
            ]
          ]
        ]
      where
        first : StmtTree
        first = Assign (at p.high v) (Add (at p.high v) (Div (with_sum (at p.low v) sum) (Int 65536)))

        second : StmtTree
        second = Assign (at p.low v) (Call Mod (more_exprs (with_sum (at p.low v) sum) (more_exprs (Int 65536) no_exprs)))

        third : StmtTree
        third = Assign (at p.flag v) (Int 1)

        own : ℕ → StmtTree → List Reference
        own k s = numbered_accesses k 1 nest (own_accesses cs (indices_of nest) s)

        by : (s : StmtTree) (a : Access) → IsIn a (own_accesses cs (indices_of nest) s) → IsIn a (own_accesses cs indices s)
        by s a j = subst (λ (xs : List (List ℕ)). IsIn a (own_accesses cs xs s)) e j

-- what is added stands on the right side of a sum
pub sum_read : (cs indices : List (List ℕ)) (x : List ℕ) (left right : ExprTree) (sum : Sum) → IsSumOf x left right sum → (a : Access) → IsIn a (expr_reads cs indices (operand sum)) → IsIn a (expr_reads cs indices right)
sum_read cs indices x left right sum of a i = elim of.shape [
  | inl q ↦ subst (λ (e : ExprTree). IsIn a (expr_reads cs indices e)) (sym q) (in_right a (expr_reads cs indices (Var x)) (expr_reads cs indices (operand sum)) i)
  | inr w ↦ elim w [
    | inl q ↦ subst (λ (e : ExprTree). IsIn a (expr_reads cs indices e)) (sym q) (in_left a (expr_reads cs indices (operand sum)) (expr_reads cs indices (Var x)) i)
    | inr q ↦ subst (λ (e : ExprTree). IsIn a (expr_reads cs indices e)) (sym q) (in_right a (expr_reads cs indices (Var x)) (expr_reads cs indices (operand sum)) i)
  ]
]

pub sum_right : (k : NameKinds) (x : List ℕ) (left right : ExprTree) (sum : Sum) → IsSumOf x left right sum → expr_is_right k right ≡ true → expr_is_right k (operand sum) ≡ true
sum_right k x left right sum of h = elim of.shape [
  | inl q ↦ (and_parts (expr_is_right k (Var x)) (expr_is_right k (operand sum)) (ap (expr_is_right k) (sym q) ∙ h)).1
  | inr w ↦ elim w [
    | inl q ↦ (and_parts (expr_is_right k (operand sum)) (expr_is_right k (Var x)) (ap (expr_is_right k) (sym q) ∙ h)).0
    | inr q ↦ (and_parts (expr_is_right k (Var x)) (expr_is_right k (operand sum)) (ap (expr_is_right k) (sym q) ∙ h)).1
  ]
]

-- a sum of one scalar is none of another
pub other_sum : (x y : List ℕ) (left right : ExprTree) (sum : Sum) → IsSumOf x left right sum → is_same_text y x ≡ false → sum_to y (Assign left right) ≡ None
other_sum x y left right sum of e = ap (λ (z : ExprTree). sum_to y (Assign z right)) of.written ∙ ap (λ (c : Bool). if c then sum_of y right else None) e

module _ (t : ProgramTree) (k : NameKinds) (cs : List (List ℕ)) (v : List ℕ) (ps : List Partials) (f : ℕ → ℕ) (low : ℕ) (base other : List Loop) (heads : heads_of other ≡ heads_of base) (indexed : is_among v (indices_of base) ≡ true)
    (scalars : (x : List ℕ) → is_among x (scalars_of ps) ≡ true → is_scalar k x ≡ true) where
  -- the statement of a reference to one of the scalars is a sum of it
  abbrev pub InSum : Reference → Type 0
  InSum r = is_among r.access.name (scalars_of ps) ≡ true → is_some (and_then (statement_with r.statement t) (sum_to r.access.name)) ≡ true

  abbrev Comes : List Reference → Reference → Type 0
  Comes old r = IsOfArrays other v ps r ⊎ IsFrom f low base other ps old r

  more_listed : (old wide : List Reference) (r : Reference) → ((s : Reference) → IsIn s old → IsIn s wide) → Comes old r → Comes wide r
  more_listed old wide r more (inl a) = inl a
  more_listed old wide r more (inr c) = inr (record { source = c.source; listed = more c.source c.listed; access = c.access; inner = c.inner; deep = c.deep; old_nest = c.old_nest; new_nest = c.new_nest; unsummed = c.unsummed })

  -- DO loops behind the number, with other variables
  abbrev pub AreDeep : List Loop → Type 0
  AreDeep inner = ((l : Loop) → IsIn l inner → low < l.number) × (is_among v (indices_of inner) ≡ false)

  apart_more : (ls : List Loop) (n : ℕ) (h : Head) → is_among v (indices_of ls) ≡ false → is_same_text v h.variable ≡ false → is_among v (indices_of (ls ++ loop n h ∷ [])) ≡ false
  apart_more [] n h a b = λ i. b i || false
  apart_more (l ∷ ls) n h a b = let p = or_none (is_same_text v l.head.variable) (is_among v (indices_of ls)) a in λ i. p.0 i || apart_more ls n h p.1 b i

  deeper : (inner : List Loop) (n : ℕ) (h : Head) → low < n → is_same_text v h.variable ≡ false → AreDeep inner → AreDeep (inner ++ loop n h ∷ [])
  deeper inner n h above differs deep = (behind, apart_more inner n h deep.1 differs)
    where
      behind : (l : Loop) → IsIn l (inner ++ loop n h ∷ []) → low < l.number
      behind l i = elim (in_parts l inner (loop n h ∷ []) i) [
        | inl j ↦ deep.0 l j
        | inr j ↦ elim j [ inl e ↦ (let same = ap (λ (z : Loop). z.number) e in omega (arith, same, above)) | inr w ↦ absurd w ]
      ]

  abbrev old_nest : List Loop → List Loop
  old_nest inner = base ++ inner

  abbrev new_nest : List Loop → List Loop
  new_nest inner = other ++ map (renumbered f) inner

  heads_append : (xs ys : List Loop) → heads_of (xs ++ ys) ≡ heads_of xs ++ heads_of ys
  heads_append [] ys = refl
  heads_append (x ∷ xs) ys = ap (λ (hs : List Head). x.head ∷ hs) (heads_append xs ys)

  heads_renumbered : (ls : List Loop) → heads_of (map (renumbered f) ls) ≡ heads_of ls
  heads_renumbered [] = refl
  heads_renumbered (l ∷ ls) = ap (λ (hs : List Head). l.head ∷ hs) (heads_renumbered ls)

  pub same_heads : (inner : List Loop) → heads_of (new_nest inner) ≡ heads_of (old_nest inner)
  same_heads inner = heads_append other (map (renumbered f) inner) ∙ (λ i. heads i ++ heads_renumbered inner i) ∙ sym (heads_append base inner)

  same_variables : (inner : List Loop) → indices_of (new_nest inner) ≡ indices_of (old_nest inner)
  same_variables inner = same_indices (new_nest inner) (old_nest inner) (same_heads inner)

  or_more : (b c d : Bool) → (c ≡ true → d ≡ true) → (b || c) ≡ true → (b || d) ≡ true
  or_more true c d more h = refl
  or_more false c d more h = more h

  indexed_more : (inner ls : List Loop) → is_among v (indices_of ls) ≡ true → is_among v (indices_of (ls ++ inner)) ≡ true
  indexed_more inner [] h = untrue h
  indexed_more inner (l ∷ ls) h = or_more (is_same_text v l.head.variable) (is_among v (indices_of ls)) (is_among v (indices_of (ls ++ inner))) (indexed_more inner ls) h

  indexed_in : (inner : List Loop) → is_among v (indices_of (old_nest inner)) ≡ true
  indexed_in inner = indexed_more inner base indexed

  -- where the statement is no sum of it, a reference is to none of the scalars
  none_summed : (n : ℕ) (s : StmtTree) (xs : List StmtTree) (r : Reference) → Stand t n (s ∷ xs) → r.statement ≡ n → InSum r → (is_among r.access.name (scalars_of ps) ≡ true → sum_to r.access.name s ≡ None) → is_among r.access.name (scalars_of ps) ≡ false
  none_summed n s xs r st e sums none =
      false_or (is_among r.access.name (scalars_of ps)) (λ h.
      both_ways (is_some (sum_to r.access.name s)) (ap is_some (none h))
      (sym (ap (λ (o : Option StmtTree). is_some (and_then o (sum_to r.access.name))) (ap (λ (j : ℕ). statement_with j t) e ∙ is_there t s xs n st)) ∙ sums h))

  abbrev OwnOld : List Loop → ℕ → StmtTree → List Reference
  OwnOld inner n s = numbered_accesses n 1 (old_nest inner) (own_accesses cs (indices_of (old_nest inner)) s)

  abbrev OwnNew : List Loop → ℕ → StmtTree → List Reference
  OwnNew inner m s = numbered_accesses m 1 (new_nest inner) (own_accesses cs (indices_of (new_nest inner)) s)

  -- a statement that stays, by itself
  own_comes : (inner : List Loop) → AreDeep inner → (s : StmtTree) (xs : List StmtTree) (n m : ℕ) → Stand t n (s ∷ xs) → ((x : List ℕ) → is_among x (scalars_of ps) ≡ true → sum_to x s ≡ None) → ((r : Reference) → IsIn r (OwnOld inner n s) → InSum r)
      → (u : StmtTree) → own_accesses cs (indices_of (new_nest inner)) u ≡ own_accesses cs (indices_of (new_nest inner)) s → (r : Reference) → IsIn r (OwnNew inner m u) → Comes (OwnOld inner n s) r
  own_comes inner deep s xs n m st none sums u same r i =
      let o = own_access m 1 (new_nest inner) (own_accesses cs (indices_of (new_nest inner)) u) r i in
      let there : IsIn r.access (own_accesses cs (indices_of (old_nest inner)) s) =
      subst (λ (is : List (List ℕ)). IsIn r.access (own_accesses cs is s)) (same_variables inner) (subst (λ (xs : List Access). IsIn r.access xs) same o.2) in
      let a = as_reference n 1 (old_nest inner) r.access (own_accesses cs (indices_of (old_nest inner)) s) there in
      let b = own_access n 1 (old_nest inner) (own_accesses cs (indices_of (old_nest inner)) s) a.0 a.1 in
      inr (record { source = a.0; listed = a.1; access = sym a.2; inner = inner; deep = deep.0; old_nest = b.1; new_nest = o.1; unsummed = none_summed n s xs a.0 st b.0 (sums a.0 a.1) (λ h. none a.0.access.name h) })

  -- a read of what is added
  read_comes : (inner : List Loop) → AreDeep inner → (left right : ExprTree) (n : ℕ) (p : Partials) (sum : Sum) → Stand t n (Assign left right ∷ []) → expr_is_right k right ≡ true → ((r : Reference) → IsIn r (OwnOld inner n (Assign left right)) → InSum r)
      → IsIn p ps → IsSumOf p.scalar left right sum → (r : Reference) → r.nest ≡ new_nest inner → IsIn r.access (expr_reads cs (indices_of (old_nest inner)) (operand sum)) → Comes (OwnOld inner n (Assign left right)) r
  read_comes inner deep left right n p sum st is_right sums among of r nest i =
      let idx = indices_of (old_nest inner) in
      let there = in_left r.access (expr_reads cs idx right) (left_accesses cs idx left) (sum_read cs idx p.scalar left right sum of r.access i) in
      let a = as_reference n 1 (old_nest inner) r.access (own_accesses cs idx (Assign left right)) there in
      let b = own_access n 1 (old_nest inner) (own_accesses cs idx (Assign left right)) a.0 a.1 in
      let apart = not_read k p.scalar (scalars p.scalar (scalar_among p ps among)) cs idx (operand sum) r.access (sum_right k p.scalar left right sum of is_right) of.lacks i in
      let other_name : is_same_text a.0.access.name p.scalar ≡ false = ap (λ (z : Access). is_same_text z.name p.scalar) a.2 ∙ same_flip r.access.name p.scalar ∙ apart in
      inr (record {
        source = a.0;
        listed = a.1;
        access = sym a.2;
        inner = inner;
        deep = deep.0;
        old_nest = b.1;
        new_nest = nest;
        unsummed = none_summed n (Assign left right) [] a.0 st b.0 (sums a.0 a.1) (λ h. other_sum p.scalar a.0.access.name left right sum of other_name);
      })

  renumbered_variables : (ls : List Loop) → indices_of (map (renumbered f) ls) ≡ indices_of ls
  renumbered_variables [] = refl
  renumbered_variables (l ∷ ls) = ap (λ (xs : List (List ℕ)). l.head.variable ∷ xs) (renumbered_variables ls)

  of_arrays : (inner : List Loop) → AreDeep inner → (r : Reference) → r.nest ≡ new_nest inner → (array : List ℕ) → is_among array (arrays_of ps) ≡ true → OfArray v array r.access → IsOfArrays other v ps r
  of_arrays inner deep r nest array among o = record {
    array = ap (λ (z : List ℕ). is_among z (arrays_of ps)) o.0 ∙ among;
    subscripts = o.1;
    inner = map (renumbered f) inner;
    nest = nest;
    apart = ap (is_among v) (renumbered_variables inner) ∙ deep.1;
  }

  -- an assignment: as it was, or a sum that is kept apart
  assigned_comes : (inner : List Loop) → AreDeep inner → (left right : ExprTree) (n m : ℕ) → Stand t n (Assign left right ∷ []) → expr_is_right k right ≡ true → ((r : Reference) → IsIn r (OwnOld inner n (Assign left right)) → InSum r) → (ws : StmtTrees)
      → IsApart v ps left right ws ⊎ IsBare ps left right ws → (r : Reference) → IsIn r (statements_references cs (new_nest inner) m ws) → Comes (OwnOld inner n (Assign left right)) r
  assigned_comes inner deep left right n m st is_right sums ws (inl a) r i =
      let among = arrays_among a.partials ps a.among in
      let o =
      of_apart cs (indices_of (old_nest inner)) v (indexed_in inner) a.partials a.sum (new_nest inner) m r (same_variables inner) (subst (λ (ts : StmtTrees). IsIn r (statements_references cs (new_nest inner) m ts)) a.is i) in
      elim o.1 [
        | inl arrays ↦ inl (elim arrays [
          | inl q ↦ of_arrays inner deep r o.0 a.partials.high among.high q
          | inr w ↦ elim w [ inl q ↦ of_arrays inner deep r o.0 a.partials.low among.low q | inr q ↦ of_arrays inner deep r o.0 a.partials.flag among.flag q ]
        ])
        | inr j ↦ read_comes inner deep left right n a.partials a.sum st is_right sums a.among a.of r o.0 j
      ]
  assigned_comes inner deep left right n m st is_right sums ws (inr b) r i =
      elim (in_parts r (OwnNew inner m (Assign left right)) [] (subst (λ (ts : StmtTrees). IsIn r (statements_references cs (new_nest inner) m ts)) b.is i)) [
        | inl j ↦ own_comes inner deep (Assign left right) [] n m st (λ x h. (let p = scalar_of x ps h in ap (λ (z : List ℕ). sum_to z (Assign left right)) p.2 ∙ b.none p.0 p.1)) sums (Assign left right) refl r j
        | inr j ↦ absurd j
      ]

  deeper_old : (inner : List Loop) (n : ℕ) (h : Head) → old_nest inner ++ loop n h ∷ [] ≡ old_nest (inner ++ loop n h ∷ [])
  deeper_old inner n h = append_assoc base inner (loop n h ∷ [])

  deeper_new : (inner : List Loop) (n m : ℕ) (h : Head) → f n ≡ m → new_nest inner ++ loop m h ∷ [] ≡ new_nest (inner ++ loop n h ∷ [])
  deeper_new inner n m h e =
      append_assoc other (map (renumbered f) inner) (loop m h ∷ [])
      ∙ ap (λ (ls : List Loop). other ++ ls) ((λ i. map (renumbered f) inner ++ loop (sym e i) h ∷ []) ∙ sym (map-append (renumbered f) inner (loop n h ∷ [])))

  clear_parts : (xs ys : List (List ℕ)) → is_among v (xs ++ ys) ≡ false → (is_among v xs ≡ false) × (is_among v ys ≡ false)
  clear_parts xs ys h = or_none (is_among v xs) (is_among v ys) (sym (among_append v xs ys) ∙ h)

  abbrev Old : List Loop → ℕ → StmtTree → List Reference
  Old inner n s = statement_references cs (old_nest inner) n s

  abbrev AllOld : List Loop → ℕ → StmtTrees → List Reference
  AllOld inner n ss = statements_references cs (old_nest inner) n ss

  -- the references of statements in which sums are kept apart
  mutual
    comes : (inner : List Loop) → AreDeep inner → (s : StmtTree) (n m : ℕ) → low < n → is_among v (loop_variables s) ≡ false → Stand t n (numbered s) → stmt_is_right k s ≡ true → Tells f v ps s n m → ((r : Reference) → IsIn r (Old inner n s) → InSum r)
        → (r : Reference) → IsIn r (statements_references cs (new_nest inner) m (summed v ps s)) → Comes (Old inner n s) r
    comes inner deep (Assign left right) n m above clear st is_right tells sums r i =
        assigned_comes inner deep left right n m st (and_parts (target_is_right k left) (expr_is_right k right) is_right).1 sums (sum_apart v ps (Assign left right)) (apart_or_bare v left right ps) r i
    comes inner deep (If c a b) n m above clear st is_right tells sums r i =
        let inside = inner_stands t (If c a b) (all_numbered a ++ all_numbered b) n st in
        let rights = and_parts (cond_is_right k c && stmts_are_right k a) (stmts_are_right k b) is_right in
        let new_a = all_summed v ps a in
        let new_b = all_summed v ps b in
        let own = OwnOld inner n (If c a b) in
        let of_a = AllOld inner (n + 1) a in
        let of_b = AllOld inner (n + 1 + statements_count a) b in
        elim (in_parts r (OwnNew inner m (If c new_a new_b) ++ statements_references cs (new_nest inner) (m + 1) new_a ++ statements_references cs (new_nest inner) (m + 1 + statements_count new_a) new_b) [] i) [
          | inl j ↦ elim (in_parts r (OwnNew inner m (If c new_a new_b) ++ statements_references cs (new_nest inner) (m + 1) new_a) (statements_references cs (new_nest inner) (m + 1 + statements_count new_a) new_b) j) [
            | inl q ↦ elim (in_parts r (OwnNew inner m (If c new_a new_b)) (statements_references cs (new_nest inner) (m + 1) new_a) q) [
              | inl o ↦ more_listed own (own ++ of_a ++ of_b) r (λ s w. in_left s (own ++ of_a) of_b (in_left s own of_a w))
                  (own_comes inner deep (If c a b) (all_numbered a ++ all_numbered b) n m st (λ x h. refl) (λ s w. sums s (in_left s (own ++ of_a) of_b (in_left s own of_a w))) (If c new_a new_b) refl r o)
              | inr o ↦ more_listed of_a (own ++ of_a ++ of_b) r (λ s w. in_left s (own ++ of_a) of_b (in_right s own of_a w))
                  (all_come inner deep a (n + 1) (m + 1) (omega (arith, above)) (clear_parts (all_loop_variables a) (all_loop_variables b) clear).0 (first_stands t (n + 1) (all_numbered a) (all_numbered b) inside) (and_parts (cond_is_right k c) (stmts_are_right k a) rights.0).1 tells.0 (λ s w. sums s (in_left s (own ++ of_a) of_b (in_right s own of_a w))) r o)
            ]
            | inr q ↦ more_listed of_b (own ++ of_a ++ of_b) r (λ s w. in_right s (own ++ of_a) of_b w)
                (all_come inner deep b (n + 1 + statements_count a) (m + 1 + statements_count new_a) (omega (arith, above)) (clear_parts (all_loop_variables a) (all_loop_variables b) clear).1 (else_stands t a b (n + 1) inside) rights.1 tells.1 (λ s w. sums s (in_right s (own ++ of_a) of_b w)) r q)
          ]
          | inr j ↦ absurd j
        ]
    comes inner deep (Do h body) n m above clear st is_right tells sums r i =
        let rights = and_parts (head_is_right k h) (stmts_are_right k body) is_right in
        let new = all_summed v ps body in
        let wider = inner ++ loop n h ∷ [] in
        let own = OwnOld inner n (Do h body) in
        let mine = statements_references cs (old_nest inner ++ loop n h ∷ []) (n + 1) body in
        let there : AllOld wider (n + 1) body ≡ mine = ap (λ (ls : List Loop). statements_references cs ls (n + 1) body) (sym (deeper_old inner n h)) in
        elim (in_parts r (OwnNew inner m (Do h new) ++ statements_references cs (new_nest inner ++ loop m h ∷ []) (m + 1) new) [] i) [
          | inl j ↦ elim (in_parts r (OwnNew inner m (Do h new)) (statements_references cs (new_nest inner ++ loop m h ∷ []) (m + 1) new) j) [
            | inl o ↦ more_listed own (own ++ mine) r (λ s w. in_left s own mine w)
                (own_comes inner deep (Do h body) (all_numbered body) n m st (λ x g. refl) (λ s w. sums s (in_left s own mine w)) (Do h new) refl r o)
            | inr o ↦ more_listed (AllOld wider (n + 1) body) (own ++ mine) r (λ s w. in_right s own mine (subst (λ (rs : List Reference). IsIn s rs) there w))
                (all_come wider (deeper inner n h above (or_none (is_same_text v h.variable) (is_among v (all_loop_variables body)) clear).0 deep) body (n + 1) (m + 1) (omega (arith, above)) (or_none (is_same_text v h.variable) (is_among v (all_loop_variables body)) clear).1 (inner_stands t (Do h body) (all_numbered body) n st) rights.1 tells.1 (λ s w. sums s (in_right s own mine (subst (λ (rs : List Reference). IsIn s rs) there w)))
                r (subst (λ (ls : List Loop). IsIn r (statements_references cs ls (m + 1) new)) (deeper_new inner n m h tells.0) o))
          ]
          | inr j ↦ absurd j
        ]
    comes inner deep (Print items) n m above clear st is_right tells sums r i = elim (in_parts r (OwnNew inner m (Print items)) [] i) [ inl j ↦ own_comes inner deep (Print items) [] n m st (λ x h. refl) sums (Print items) refl r j | inr j ↦ absurd j ]
    comes inner deep (Read items) n m above clear st is_right tells sums r i = elim (in_parts r (OwnNew inner m (Read items)) [] i) [ inl j ↦ own_comes inner deep (Read items) [] n m st (λ x h. refl) sums (Read items) refl r j | inr j ↦ absurd j ]
    comes inner deep Stop n m above clear st is_right tells sums r i = absurd i
    comes inner deep (Comment text) n m above clear st is_right tells sums r i = absurd i

    pub all_come : (inner : List Loop) → AreDeep inner → (ss : StmtTrees) (n m : ℕ) → low < n → is_among v (all_loop_variables ss) ≡ false → Stand t n (all_numbered ss) → stmts_are_right k ss ≡ true → AllTell f v ps ss n m → ((r : Reference) → IsIn r (AllOld inner n ss) → InSum r)
        → (r : Reference) → IsIn r (statements_references cs (new_nest inner) m (all_summed v ps ss)) → Comes (AllOld inner n ss) r
    all_come inner deep no_stmts n m above clear st is_right tells sums r i = absurd i
    all_come inner deep (more_stmts s rest) n m above clear st is_right tells sums r i =
        let rights = and_parts (stmt_is_right k s) (stmts_are_right k rest) is_right in
        let of_s = Old inner n s in
        let of_rest = AllOld inner (n + statement_count s) rest in
        let parts = subst (λ (rs : List Reference). IsIn r rs) (references_followed cs (new_nest inner) m (summed v ps s) (all_summed v ps rest)) i in
        elim (in_parts r (statements_references cs (new_nest inner) m (summed v ps s)) (statements_references cs (new_nest inner) (m + statements_count (summed v ps s)) (all_summed v ps rest)) parts) [
          | inl j ↦ more_listed of_s (of_s ++ of_rest) r (λ x w. in_left x of_s of_rest w)
              (comes inner deep s n m above (clear_parts (loop_variables s) (all_loop_variables rest) clear).0 (first_stands t n (numbered s) (all_numbered rest) st) rights.0 tells.0 (λ x w. sums x (in_left x of_s of_rest w)) r j)
          | inr j ↦ more_listed of_rest (of_s ++ of_rest) r (λ x w. in_right x of_s of_rest w)
              (all_come inner deep rest (n + statement_count s) (m + statements_count (summed v ps s)) (omega (arith, above)) (clear_parts (loop_variables s) (all_loop_variables rest) clear).1 (rest_stands t s rest n st) rights.1 tells.1 (λ x w. sums x (in_right x of_s of_rest w)) r j)
        ]

  -- the zeros at the beginning of each iteration
  pub zeros_come : (old : List Reference) (qs : List Partials) → ((p : Partials) → IsIn p qs → IsIn p ps) → (m : ℕ) (r : Reference) → IsIn r (statements_references cs other m (zeros v qs)) → IsOfArrays other v ps r
  zeros_come old [] sub m r i = absurd i
  zeros_come old (p ∷ qs) sub m r i =
      let among = arrays_among p ps (sub p (inl refl)) in
      let first = own m (Assign (at p.high v) (Int 0)) in
      let second = own (m + 1) (Assign (at p.low v) (Int 0)) in
      let third = own (m + 1 + 1) (Assign (at p.flag v) (Int 0)) in
      let rest = statements_references cs other (m + 1 + 1 + 1) (zeros v qs) in
      elim (in_parts r first (second ++ (third ++ rest)) i) [
        | inl j ↦ one p.high m among.high j
        | inr j ↦ elim (in_parts r second (third ++ rest) j) [
          | inl q ↦ one p.low (m + 1) among.low q
          | inr q ↦ elim (in_parts r third rest q) [ inl o ↦ one p.flag (m + 1 + 1) among.flag o | inr o ↦ zeros_come old qs (λ z w. sub z (inr w)) (m + 1 + 1 + 1) r o ]
        ]
      ]
    where
      own : ℕ → StmtTree → List Reference
      own j s = numbered_accesses j 1 other (own_accesses cs (indices_of other) s)

      there : is_among v (indices_of other) ≡ true
      there = ap (is_among v) (same_indices other base heads) ∙ indexed

      one : (array : List ℕ) (j : ℕ) → is_among array (arrays_of ps) ≡ true → IsIn r (numbered_accesses j 1 other (own_accesses cs (indices_of other) (Assign (at array v) (Int 0)))) → IsOfArrays other v ps r
      one array j among w =
          let o = own_access j 1 other (own_accesses cs (indices_of other) (Assign (at array v) (Int 0))) r w in
          of_arrays [] ((λ l w. absurd w), refl) r (o.1 ∙ sym (append-nil other)) array among (element_writes cs (indices_of other) v there array r.access o.2)
