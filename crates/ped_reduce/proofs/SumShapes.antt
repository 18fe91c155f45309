-- How a sum is written, and what keeps it apart.
use Rattle.std.proofs.Common.{◌≡◌, ◌⊎◌, ℕ, List, [], ◌∷◌, Bool, true, false, not, ◌&&◌, ◌||◌, Option, Some, None, if◌then◌else◌, inl, inr, refl, sym, ap, ◌∙◌}
use Rattle.std.proofs.lemmas.Bool.{and_parts}
use Rattle.ped_base.specs.Lists.{is_same_text, is_among}
use Rattle.ped_base.proofs.NameEquality.{same_itself, same_is}
use Rattle.ped_tree.specs.Tree.{ExprTree, Int, Var, Element, Neg, Add, Sub, Mul, Div, Pow, Call, StmtTrees, Assign}
use Rattle.ped_rules.specs.ped_flow.proofs.Truths.{untrue, not_true}
use Rattle.ped_rules.specs.ped_steps.specs.Replacing.{alone}
use Rattle.ped_rules.specs.ped_symbolic.specs.Substitution.{has_scalar, is_scalar}
use Rattle.ped_rules.specs.ped_laws.specs.Acts.Orders.{IsIn}
use Rattle.ped_reduce.specs.Sums.{Sum, plus, minus, sum_of, sum_to}
use Rattle.ped_reduce.specs.Lowering.{Partials, added_apart, apart_or, sum_apart}
use Rattle.ped_reduce.proofs.Resembling.{arrays_of, scalars_of}

-- what is added or taken away
abbrev pub operand : Sum → ExprTree
operand (plus e) = e
operand (minus e) = e

-- an assignment is a sum of the scalar: which is its left side, and the one operand on its right side, and doesn't stand in the other
pub record IsSumOf (x : List ℕ) (left right : ExprTree) (sum : Sum) : Type 0 where
  pub written : left ≡ Var x
  pub shape : (right ≡ Add (Var x) (operand sum)) ⊎ ((right ≡ Add (operand sum) (Var x)) ⊎ (right ≡ Sub (Var x) (operand sum)))
  pub lacks : has_scalar x (operand sum) ≡ false

scalar_is : (x : List ℕ) (e : ExprTree) → is_scalar x e ≡ true → e ≡ Var x
scalar_is x (Var y) h = ap Var (sym (same_is x y h))
scalar_is x (Int n) h = untrue h
scalar_is x (Element y es) h = untrue h
scalar_is x (Neg a) h = untrue h
scalar_is x (Add a b) h = untrue h
scalar_is x (Sub a b) h = untrue h
scalar_is x (Mul a b) h = untrue h
scalar_is x (Div a b) h = untrue h
scalar_is x (Pow a b) h = untrue h
scalar_is x (Call f es) h = untrue h

nothing : {A : Type 0} (sum : Sum) → ◌≡◌ {A = Option Sum} None (Some sum) → A
nothing sum e = absurd cc

same_sum : (a b : Sum) → Some a ≡ Some b → a ≡ b
same_sum a b e = cc

-- the right side of a sum
record IsRightOf (x : List ℕ) (right : ExprTree) (sum : Sum) : Type 0 where
  shape : (right ≡ Add (Var x) (operand sum)) ⊎ ((right ≡ Add (operand sum) (Var x)) ⊎ (right ≡ Sub (Var x) (operand sum)))
  lacks : has_scalar x (operand sum) ≡ false

module _ (x : List ℕ) (sum : Sum) where
  add_by : (a b : ExprTree) (c d : Bool) → (is_scalar x a && not (has_scalar x b)) ≡ c → (is_scalar x b && not (has_scalar x a)) ≡ d → (if c then Some (plus b) else if d then Some (plus a) else None) ≡ Some sum → IsRightOf x (Add a b) sum
  add_by a b true d e f h =
      let both = and_parts (is_scalar x a) (not (has_scalar x b)) e in
      let is : b ≡ operand sum = ap operand (same_sum (plus b) sum h) in
      record { shape = inl (λ i. Add (scalar_is x a both.0 i) (is i)); lacks = ap (has_scalar x) (sym is) ∙ not_true (has_scalar x b) both.1 }
  add_by a b false true e f h =
      let both = and_parts (is_scalar x b) (not (has_scalar x a)) f in
      let is : a ≡ operand sum = ap operand (same_sum (plus a) sum h) in
      record { shape = inr (inl (λ i. Add (is i) (scalar_is x b both.0 i))); lacks = ap (has_scalar x) (sym is) ∙ not_true (has_scalar x a) both.1 }
  add_by a b false false e f h = nothing sum h

  sub_by : (a b : ExprTree) (c : Bool) → (is_scalar x a && not (has_scalar x b)) ≡ c → (if c then Some (minus b) else None) ≡ Some sum → IsRightOf x (Sub a b) sum
  sub_by a b true e h =
      let both = and_parts (is_scalar x a) (not (has_scalar x b)) e in
      let is : b ≡ operand sum = ap operand (same_sum (minus b) sum h) in
      record { shape = inr (inr (λ i. Sub (scalar_is x a both.0 i) (is i))); lacks = ap (has_scalar x) (sym is) ∙ not_true (has_scalar x b) both.1 }
  sub_by a b false e h = nothing sum h

  right_of : (right : ExprTree) → sum_of x right ≡ Some sum → IsRightOf x right sum
  right_of (Add a b) h = add_by a b (is_scalar x a && not (has_scalar x b)) (is_scalar x b && not (has_scalar x a)) refl refl h
  right_of (Sub a b) h = sub_by a b (is_scalar x a && not (has_scalar x b)) refl h
  right_of (Int n) h = nothing sum h
  right_of (Var y) h = nothing sum h
  right_of (Element y es) h = nothing sum h
  right_of (Neg a) h = nothing sum h
  right_of (Mul a b) h = nothing sum h
  right_of (Div a b) h = nothing sum h
  right_of (Pow a b) h = nothing sum h
  right_of (Call f es) h = nothing sum h

  pub sum_is : (left right : ExprTree) → sum_to x (Assign left right) ≡ Some sum → IsSumOf x left right sum
  sum_is left right h = by (is_scalar x left) refl h
    where
      by : (b : Bool) → is_scalar x left ≡ b → (if b then sum_of x right else None) ≡ Some sum → IsSumOf x left right sum
      by true e k = let r = right_of right k in record { written = scalar_is x left e; shape = r.shape; lacks = r.lacks }
      by false e k = nothing sum k

-- a sum that is kept apart
pub record IsApart (v : List ℕ) (ps : List Partials) (left right : ExprTree) (ws : StmtTrees) : Type 0 where
  pub partials : Partials
  pub sum : Sum
  pub among : IsIn partials ps
  pub sums : sum_to partials.scalar (Assign left right) ≡ Some sum
  pub of : IsSumOf partials.scalar left right sum
  pub is : ws ≡ added_apart v partials sum

-- an assignment is no sum of these, and stays
pub record IsBare (ps : List Partials) (left right : ExprTree) (ws : StmtTrees) : Type 0 where
  pub none : (p : Partials) → IsIn p ps → sum_to p.scalar (Assign left right) ≡ None
  pub is : ws ≡ alone (Assign left right)

pub apart_or_bare : (v : List ℕ) (left right : ExprTree) (ps : List Partials) → IsApart v ps left right (sum_apart v ps (Assign left right)) ⊎ IsBare ps left right (sum_apart v ps (Assign left right))
apart_or_bare v left right [] = inr (record { none = λ p i. absurd i; is = refl })
apart_or_bare v left right (p ∷ ps) = by (sum_to p.scalar (Assign left right)) refl (apart_or_bare v left right ps)
  where
    none : sum_to p.scalar (Assign left right) ≡ None → IsBare ps left right (sum_apart v ps (Assign left right)) → (q : Partials) → IsIn q (p ∷ ps) → sum_to q.scalar (Assign left right) ≡ None
    none e b q (inl is) = ap (λ (r : Partials). sum_to r.scalar (Assign left right)) is ∙ e
    none e b q (inr i) = b.none q i

    by : (o : Option Sum) → sum_to p.scalar (Assign left right) ≡ o → IsApart v ps left right (sum_apart v ps (Assign left right)) ⊎ IsBare ps left right (sum_apart v ps (Assign left right))
        → IsApart v (p ∷ ps) left right (apart_or v p o (sum_apart v ps (Assign left right))) ⊎ IsBare (p ∷ ps) left right (apart_or v p o (sum_apart v ps (Assign left right)))
    by (Some sum) e more = inl (record { partials = p; sum = sum; among = inl refl; sums = e; of = sum_is p.scalar sum left right e; is = refl })
    by None e (inl a) = inl (record { partials = a.partials; sum = a.sum; among = inr a.among; sums = a.sums; of = a.of; is = a.is })
    by None e (inr b) = inr (record { none = none e b; is = b.is })

-- the scalar and the arrays of a sum are among those of all
or_behind : (a b : Bool) → b ≡ true → (a || b) ≡ true
or_behind true b h = refl
or_behind false b h = h

or_before : (a b : Bool) → a ≡ true → (a || b) ≡ true
or_before true b h = refl
or_before false b h = untrue h

pub scalar_among : (p : Partials) (ps : List Partials) → IsIn p ps → is_among p.scalar (scalars_of ps) ≡ true
scalar_among p (q ∷ qs) (inl e) = or_before (is_same_text p.scalar q.scalar) (is_among p.scalar (scalars_of qs)) (ap (λ (z : Partials). is_same_text p.scalar z.scalar) (sym e) ∙ same_itself p.scalar)
scalar_among p (q ∷ qs) (inr i) = or_behind (is_same_text p.scalar q.scalar) (is_among p.scalar (scalars_of qs)) (scalar_among p qs i)
scalar_among p [] i = absurd i

pub scalar_of : (x : List ℕ) (ps : List Partials) → is_among x (scalars_of ps) ≡ true → (p : Partials) × IsIn p ps × (x ≡ p.scalar)
scalar_of x [] h = untrue h
scalar_of x (p ∷ ps) h = by (is_same_text x p.scalar) refl h (scalar_of x ps)
  where
    by : (b : Bool) → is_same_text x p.scalar ≡ b → (b || is_among x (scalars_of ps)) ≡ true → (is_among x (scalars_of ps) ≡ true → (q : Partials) × IsIn q ps × (x ≡ q.scalar)) → (q : Partials) × IsIn q (p ∷ ps) × (x ≡ q.scalar)
    by true e k more = (p, inl refl, same_is x p.scalar e)
    by false e k more = let r = more k in (r.0, inr r.1, r.2)

-- each of the three arrays
pub record AreAmong (p : Partials) (ps : List Partials) : Type 0 where
  pub high : is_among p.high (arrays_of ps) ≡ true
  pub low : is_among p.low (arrays_of ps) ≡ true
  pub flag : is_among p.flag (arrays_of ps) ≡ true

or_third : (a b c d : Bool) → d ≡ true → (a || (b || (c || d))) ≡ true
or_third true b c d h = refl
or_third false true c d h = refl
or_third false false true d h = refl
or_third false false false d h = h

first_three : (p : Partials) (ps : List Partials) → AreAmong p (p ∷ ps)
first_three p ps = record {
  high = or_before (is_same_text p.high p.high) _ (same_itself p.high);
  low = or_behind (is_same_text p.low p.high) _ (or_before (is_same_text p.low p.low) _ (same_itself p.low));
  flag = or_behind (is_same_text p.flag p.high) _ (or_behind (is_same_text p.flag p.low) _ (or_before (is_same_text p.flag p.flag) _ (same_itself p.flag)));
}

pub arrays_among : (p : Partials) (ps : List Partials) → IsIn p ps → AreAmong p ps
arrays_among p [] i = absurd i
arrays_among p (q ∷ qs) (inl e) = subst_first q e
  where
    subst_first : (r : Partials) → p ≡ r → AreAmong p (r ∷ qs)
    subst_first r is = record {
      high = ap (λ (z : Partials). is_among p.high (z.high ∷ z.low ∷ z.flag ∷ arrays_of qs)) (sym is) ∙ (first_three p qs).high;
      low = ap (λ (z : Partials). is_among p.low (z.high ∷ z.low ∷ z.flag ∷ arrays_of qs)) (sym is) ∙ (first_three p qs).low;
      flag = ap (λ (z : Partials). is_among p.flag (z.high ∷ z.low ∷ z.flag ∷ arrays_of qs)) (sym is) ∙ (first_three p qs).flag;
    }
arrays_among p (q ∷ qs) (inr i) =
    let more = arrays_among p qs i in
    record {
      high = or_third (is_same_text p.high q.high) (is_same_text p.high q.low) (is_same_text p.high q.flag) (is_among p.high (arrays_of qs)) more.high;
      low = or_third (is_same_text p.low q.high) (is_same_text p.low q.low) (is_same_text p.low q.flag) (is_among p.low (arrays_of qs)) more.low;
      flag = or_third (is_same_text p.flag q.high) (is_same_text p.flag q.low) (is_same_text p.flag q.flag) (is_among p.flag (arrays_of qs)) more.flag;
    }
