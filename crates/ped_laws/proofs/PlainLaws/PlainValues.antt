-- The values of plain bounds.
use Rattle.std.proofs.Common.{◌≡◌, ℕ, ◌^◌, List, [], ◌∷◌, Bool, true, false, ◌&&◌, ◌⊎◌, inl, inr, refl, sym, ap, ◌∙◌, subst, arith, ℤ, pos, neg_ℤ, ◌+ℤ◌, ◌-ℤ◌, ◌*ℤ◌, ◌≤ℤ◌, ◌<ℤ◌, int_le, int_lt, Option, Some, None, Result, Ok, Err, if◌then◌else◌, IsTrue}
use Rattle.std.specs.Int.{int_min, int_max}
use Rattle.std.specs.Map.{lookup}
use Rattle.std.proofs.lemmas.Int.{clamps}
use Rattle.ped_flow.specs.ped_base.specs.Lists.{is_same_text, is_among}
use Rattle.ped_flow.specs.ped_base.specs.declared.arithmetic.faults.Fault.TheVariants.{OutOfRange}
use Rattle.ped_flow.specs.ped_base.specs.Arithmetic.Faults.{◌>>=◌}
use Rattle.ped_flow.specs.ped_base.specs.Arithmetic.Arithmetic.{is_in_range, in_range, negation_of, from_left}
use Rattle.ped_graph.specs.ped_views.specs.declared.intervals.Interval.{Interval}
use Rattle.ped_graph.specs.ped_views.specs.Intervals.{Lies}
use Rattle.ped_graph.specs.ped_views.proofs.Products.{linear}
use Rattle.ped_flow.specs.ped_tree.specs.declared.expressions.Intrinsic.{Intrinsic}
use Rattle.ped_flow.specs.ped_tree.specs.declared.expressions.Intrinsic.TheVariants.{Mod, Abs, Max, Min}
use Rattle.ped_flow.specs.ped_tree.specs.Tree.{ExprTree, ExprTrees, Int, Var, Element, Neg, Add, Sub, Mul, Div, Pow, Call, no_exprs, more_exprs, ProgramTree}
use Rattle.ped_flow.specs.ped_tree.specs.Nests.{indices_of}
use Rattle.ped_flow.specs.ped_tree.specs.Grammar.Fits.{takes_arguments, expr_fits, exprs_fit}
use Rattle.ped_flow.specs.ped_tree.specs.Constants.NamedConstants.{value_named}
use Rattle.ped_flow.specs.ped_tree.specs.Constants.ConstantExpressions.{intrinsic_result, constant_value}
use Rattle.ped_eval.specs.ped_store.specs.Stores.{Store, number_read}
use Rattle.ped_eval.specs.Scopes.{Names}
use Rattle.ped_eval.specs.Evaluation.{Evaluated, onward, ◌>>>◌, given, by_number}
use Rattle.ped_eval.specs.Values.{unary, binary, of_intrinsic, variable_value, name_value, value, values}
use Rattle.ped_eval.specs.Loops.{is_bound}
use Rattle.ped_flow.specs.ped_affine.specs.IntervalArithmetic.{point, interval_sum, interval_difference, interval_negation, interval_product}
use Rattle.ped_flow.specs.ped_affine.specs.Ranges.{Setting, Around, kept_near, constant_or, of_one, of_two, any_value, variable_by, variable_interval, onto, call_interval, interval_of, intervals_of, near_or_all}
use Rattle.ped_flow.specs.PlainBounds.{Values, nest_round, setting_round, IsConstant, IsFixed, IsExtreme, IsPlainlyBuilt, ArePlainlyBuilt, IsPlain}
use Rattle.ped_flow.proofs.Truths.{untrue, and_split}
use Rattle.ped_laws.specs.Covering.Within.{AllLie}
use Rattle.ped_laws.proofs.CoveringLaws.Comings.{ok_one, some_one, kept, point_lies, constant_comes}
use Rattle.ped_laws.proofs.CoveringLaws.Parts.{KeepAll, sum_lies, difference_lies, product_lies, call_of_keeps, storable_lies}
use Rattle.ped_laws.specs.Plain.PlainValues.{around_loop, IsKept, AreInRange, Stand, HasPlainValue}
use Rattle.ped_laws.proofs.PlainLaws.NearIntervals.{IsNear, lies_near, kept_ends, AllNear, NearAround, interval_ends, intervals_ends, around_near, unfound}

le_is : (a b : ℤ) → a ≤ℤ b → int_le a b ≡ true
le_is a b h = go (int_le a b) refl
  where
    go : (c : Bool) → int_le a b ≡ c → int_le a b ≡ true
    go true e = e
    go false e = absurd (omega (arith, linear, e, h))

lt_is : (a b : ℤ) → a <ℤ b → int_lt a b ≡ true
lt_is a b h = go (int_lt a b) refl
  where
    go : (c : Bool) → int_lt a b ≡ c → int_lt a b ≡ true
    go true e = e
    go false e = absurd (omega (arith, linear, e, h))

-- a number near zero has 128 bits, and is a bound
in_is : (n : ℤ) → IsNear n → by_number (in_range n) ≡ Ok n
in_is n near =
    let from : int_le (neg_ℤ (pos (2 ^ 127))) n ≡ true = le_is (neg_ℤ (pos (2 ^ 127))) n (omega (arith, linear, near.from)) in
    let to : int_lt n (pos (2 ^ 127)) ≡ true = lt_is n (pos (2 ^ 127)) (omega (arith, linear, near.to)) in
    ap (λ (b : Bool). by_number (if b && int_lt n (pos (2 ^ 127)) then Ok n else Err OutOfRange)) from
    ∙ ap (λ (b : Bool). by_number (if b then Ok n else Err OutOfRange)) to

bound_is : (n : ℤ) → IsNear n → is_bound n ≡ true
bound_is n near = ap (λ (b : Bool). b && int_le n (pos (2 ^ 62))) (le_is (neg_ℤ (pos (2 ^ 62))) n near.from) ∙ le_is n (pos (2 ^ 62)) near.to

-- numbers near zero
abbrev AreAllNear : List ℤ → Type 0
AreAllNear [] = Unit {0}
AreAllNear (n ∷ ns) = IsNear n × AreAllNear ns

numbers_near : (ns : List ℤ) (rs : List Interval) → AllLie ns rs → AllNear rs → AreAllNear ns
numbers_near [] [] all near = tt
numbers_near [] (r ∷ rs) all near = absurd all
numbers_near (n ∷ ns) [] all near = absurd all
numbers_near (n ∷ ns) (r ∷ rs) all near = (lies_near n r all.0 near.0, numbers_near ns rs all.1 near.1)

max_is_near : (u v : ℤ) → IsNear u → IsNear v → IsNear (int_max u v)
max_is_near u v a b = record { from = omega (arith, linear, clamps, a.from, b.from); to = omega (arith, linear, clamps, a.to, b.to) }

min_is_near : (u v : ℤ) → IsNear u → IsNear v → IsNear (int_min u v)
min_is_near u v a b = record { from = omega (arith, linear, clamps, a.from, b.from); to = omega (arith, linear, clamps, a.to, b.to) }

-- MAX or MIN of numbers near zero
left_comes : (op : ℤ → ℤ → ℤ) → ((u v : ℤ) → IsNear u → IsNear v → IsNear (op u v)) → (us : List ℤ) (u : ℤ) → IsNear u → AreAllNear us → (n : ℤ) × (by_number (from_left (λ a. λ b. in_range (op a b)) u us) ≡ Ok n)
left_comes op law [] u a all = (u, refl)
left_comes op law (v ∷ us) u a all =
    let near : IsNear (op u v) = law u v a all.0 in
    let rest = left_comes op law us (op u v) near all.1 in
    (rest.0, go (is_in_range (op u v)) (in_is (op u v) near) ∙ rest.1)
  where
    go : (b : Bool) → by_number (if b then Ok (op u v) else Err OutOfRange) ≡ Ok (op u v)
        → by_number ((if b then Ok (op u v) else Err OutOfRange) >>= λ c. from_left (λ x. λ y. in_range (op x y)) c us) ≡ by_number (from_left (λ x. λ y. in_range (op x y)) (op u v) us)
    go true e = refl
    go false e = absurd cc

-- two intervals or more
abbrev HasTwo : List Interval → Type 0
HasTwo [] = ⊥
HasTwo (r ∷ []) = ⊥
HasTwo (r ∷ (q ∷ rs)) = Unit {0}

two_of : (o p : Option Interval) (q : Option (List Interval)) (rs : List Interval) → onto o (onto p q) ≡ Some rs → HasTwo rs
two_of None p q rs h = absurd cc
two_of (Some i) None q rs h = absurd cc
two_of (Some i) (Some j) None rs h = absurd cc
two_of (Some i) (Some j) (Some is) rs h = subst HasTwo (some_one (i ∷ (j ∷ is)) rs h) tt

max_comes : (ns : List ℤ) (rs : List Interval) → HasTwo rs → AllLie ns rs → AreAllNear ns → (n : ℤ) × (of_intrinsic (intrinsic_result Max ns) ≡ Ok n)
max_comes ns [] two all near = absurd two
max_comes ns (r ∷ []) two all near = absurd two
max_comes [] (r ∷ (q ∷ rs)) two all near = absurd all
max_comes (u ∷ []) (r ∷ (q ∷ rs)) two all near = absurd all.1
max_comes (u ∷ (v ∷ us)) (r ∷ (q ∷ rs)) two all near = left_comes int_max max_is_near (v ∷ us) u near.0 near.1

min_comes : (ns : List ℤ) (rs : List Interval) → HasTwo rs → AllLie ns rs → AreAllNear ns → (n : ℤ) × (of_intrinsic (intrinsic_result Min ns) ≡ Ok n)
min_comes ns [] two all near = absurd two
min_comes ns (r ∷ []) two all near = absurd two
min_comes [] (r ∷ (q ∷ rs)) two all near = absurd all
min_comes (u ∷ []) (r ∷ (q ∷ rs)) two all near = absurd all.1
min_comes (u ∷ (v ∷ us)) (r ∷ (q ∷ rs)) two all near = left_comes int_min min_is_near (v ∷ us) u near.0 near.1

extreme_comes : (f : Intrinsic) → IsExtreme f → (ns : List ℤ) (rs : List Interval) → HasTwo rs → AllLie ns rs → AreAllNear ns → (n : ℤ) × (of_intrinsic (intrinsic_result f ns) ≡ Ok n)
extreme_comes f x ns rs two all near = elim x [
  | inl e ↦ subst (λ (g : Intrinsic). (n : ℤ) × (of_intrinsic (intrinsic_result g ns) ≡ Ok n)) (sym e) (max_comes ns rs two all near)
  | inr e ↦ subst (λ (g : Intrinsic). (n : ℤ) × (of_intrinsic (intrinsic_result g ns) ≡ Ok n)) (sym e) (min_comes ns rs two all near)
]

no_call : (f : Intrinsic) (r : Interval) → call_interval f None ≡ Some r → ⊥
no_call Mod r h = absurd cc
no_call Abs r h = absurd cc
no_call Max r h = absurd cc
no_call Min r h = absurd cc

module _ (constants : Values) (t : ProgramTree) (l : ℕ) (v : List ℕ → ℤ) (range : AreInRange constants t l v) where
  abbrev s : Setting
  s = setting_round constants t l

  abbrev around : Around
  around = around_loop constants t l

  near_round : NearAround around
  near_round = around_near s (nest_round t l) [] (λ x r h. absurd cc)

  -- an evaluation comes to this wherever the values stand
  abbrev Told : (Names → Store → Result ℤ ℕ) → ℤ → Type 0
  Told f n = (g : Names) (u : Store) → Stand constants t l v g u → f g u ≡ Ok n

  abbrev ToldAll : (Names → Store → Result (List ℤ) ℕ) → List ℤ → Type 0
  ToldAll f ns = (g : Names) (u : Store) → Stand constants t l v g u → f g u ≡ Ok ns

  -- an evaluation comes to one value in the interval, where there is one
  abbrev Known : Option Interval → (Names → Store → Result ℤ ℕ) → Type 0
  Known o f = (r : Interval) → o ≡ Some r → (n : ℤ) × Lies n r × Told f n

  abbrev KnownAll : Option (List Interval) → (Names → Store → Result (List ℤ) ℕ) → Type 0
  KnownAll o f = (rs : List Interval) → o ≡ Some rs → (ns : List ℤ) × AllLie ns rs × ToldAll f ns

  abbrev IsKnown : ExprTree → Type 0
  IsKnown e = Known (interval_of s around e) (λ g. λ u. (value g e u).result)

  constant_interval : (e : ExprTree) (m : ℤ) → constant_value constants e ≡ Some m → interval_of s around e ≡ kept_near (point m)
  constant_interval (Int n) m h = ap (λ (z : ℤ). kept_near (point z)) (some_one (pos n) m h)
  constant_interval (Var x) m h = ap (λ (c : Option ℤ). constant_or c (variable_interval s around x)) h
  constant_interval (Element x subscripts) m h = absurd cc
  constant_interval (Neg a) m h = ap (λ (c : Option ℤ). constant_or c (of_one interval_negation (interval_of s around a))) h
  constant_interval (Add a b) m h = ap (λ (c : Option ℤ). constant_or c (of_two interval_sum (interval_of s around a) (interval_of s around b))) h
  constant_interval (Sub a b) m h = ap (λ (c : Option ℤ). constant_or c (of_two interval_difference (interval_of s around a) (interval_of s around b))) h
  constant_interval (Mul a b) m h = ap (λ (c : Option ℤ). constant_or c (of_two interval_product (interval_of s around a) (interval_of s around b))) h
  constant_interval (Div a b) m h = ap (λ (c : Option ℤ). constant_or c None) h
  constant_interval (Pow a b) m h = ap (λ (c : Option ℤ). constant_or c None) h
  constant_interval (Call f arguments) m h = ap (λ (c : Option ℤ). constant_or c (call_interval f (intervals_of s around arguments))) h

  known_constant : (e : ExprTree) (m : ℤ) → constant_value constants e ≡ Some m → IsKnown e
  known_constant e m k r h = (m, point_lies m r (sym (constant_interval e m k) ∙ h), λ g u w. constant_comes g u e m (ap (λ (c : Values). constant_value c e) w.same ∙ k))

  -- a constant expression, or one that is built otherwise
  or_built : {B : Type 0} (e : ExprTree) → IsConstant s e ⊎ B → (constant_value constants e ≡ None → B → IsKnown e) → IsKnown e
  or_built {B} e built other = go (constant_value constants e) refl
    where
      go : (c : Option ℤ) → constant_value constants e ≡ c → IsKnown e
      go (Some m) k = known_constant e m k
      go None k = elim built [ inl c ↦ absurd (c k) | inr b ↦ other k b ]

  of_constant : (e : ExprTree) → IsConstant s e → IsKnown e
  of_constant e c = or_built {B = ⊥} e (inl c) (λ k b. absurd b)

  one_known : (o : Option Interval) (f : Names → Store → Evaluated ℤ) → Known o (λ g. λ u. (f g u).result) → Known (of_one interval_negation o) (λ g. λ u. (unary negation_of (f g u)).result)
  one_known None f k r h = absurd cc
  one_known (Some i) f k r h =
      let a = k i refl in
      let la : Lies a.0 i = a.1 in
      let lies : Lies (neg_ℤ a.0) (interval_negation i) = record { from = omega (arith, linear, la.to); to = omega (arith, linear, la.from) } in
      let here : Lies (neg_ℤ a.0) r = subst (λ (q : Interval). Lies (neg_ℤ a.0) q) (kept (interval_negation i) r h) lies in (
        neg_ℤ a.0,
        here,
        λ g u w. ap (λ (z : Result ℤ ℕ). (onward (f g u).seen z (λ x. given (by_number (negation_of x)))).result) (a.2 g u w) ∙ in_is (neg_ℤ a.0) (lies_near (neg_ℤ a.0) r here (kept_ends (interval_negation i) r h)),
      )

  two_known : (F : Interval → Interval → Interval) (op : ℤ → ℤ → ℤ) → ((a b : ℤ) (i j : Interval) → Lies a i → Lies b j → Lies (op a b) (F i j))
      → (o p : Option Interval) (f e : Names → Store → Evaluated ℤ) → Known o (λ g. λ u. (f g u).result) → Known p (λ g. λ u. (e g u).result)
      → Known (of_two F o p) (λ g. λ u. (binary (λ x. λ y. in_range (op x y)) (f g u) (e g u)).result)
  two_known F op law None p f e k m r h = absurd cc
  two_known F op law (Some i) None f e k m r h = absurd cc
  two_known F op law (Some i) (Some j) f e k m r h =
      let a = k i refl in
      let b = m j refl in
      let n : ℤ = op a.0 b.0 in
      let here : Lies n r = subst (λ (q : Interval). Lies n q) (kept (F i j) r h) (law a.0 b.0 i j a.1 b.1) in (
        n,
        here,
        λ g u w. ap (λ (z : Result ℤ ℕ). (onward (f g u).seen z (λ x. e g u >>> λ y. given (by_number (in_range (op x y))))).result) (a.2 g u w)
            ∙ ap (λ (z : Result ℤ ℕ). (onward (e g u).seen z (λ y. given (by_number (in_range (op a.0 y))))).result) (b.2 g u w)
            ∙ in_is n (lies_near n r here (kept_ends (F i j) r h)),
      )

  more_known : (o : Option Interval) (p : Option (List Interval)) (f : Names → Store → Evaluated ℤ) (e : Names → Store → Evaluated (List ℤ)) → Known o (λ g. λ u. (f g u).result) → KnownAll p (λ g. λ u. (e g u).result)
      → KnownAll (onto o p) (λ g. λ u. (f g u >>> λ n. e g u >>> λ ns. given (Ok (n ∷ ns))).result)
  more_known None p f e k m rs h = absurd cc
  more_known (Some i) None f e k m rs h = absurd cc
  more_known (Some i) (Some is) f e k m rs h =
      let a = k i refl in
      let b = m is refl in (
        a.0 ∷ b.0,
        subst (λ (q : List Interval). AllLie (a.0 ∷ b.0) q) (some_one (i ∷ is) rs h) (a.1, b.1),
        λ g u w. ap (λ (z : Result ℤ ℕ). (onward (f g u).seen z (λ n. e g u >>> λ ns. given (Ok (n ∷ ns)))).result) (a.2 g u w)
            ∙ ap (λ (z : Result (List ℤ) ℕ). (onward (e g u).seen z (λ ns. given (Ok (a.0 ∷ ns)))).result) (b.2 g u w),
      )

  call_known : (f : Intrinsic) → IsExtreme f → (o : Option (List Interval)) → ((rs : List Interval) → o ≡ Some rs → HasTwo rs) → ((rs : List Interval) → o ≡ Some rs → AllNear rs) → (e : Names → Store → Evaluated (List ℤ)) → KnownAll o (λ g. λ u. (e g u).result)
      → Known (call_interval f o) (λ g. λ u. (e g u >>> λ us. given (of_intrinsic (intrinsic_result f us))).result)
  call_known f x None two near e k r h = absurd (no_call f r h)
  call_known f x (Some rs) two near e k r h =
      let a = k rs refl in
      let ns : List ℤ = a.0 in
      let all : AllLie ns rs = a.1 in
      let n = extreme_comes f x ns rs (two rs refl) all (numbers_near ns rs all (near rs refl)) in
      let keeps : KeepAll (Some rs) (Ok ns) = λ ms qs e h. subst (λ (q : List Interval). AllLie ms q) (some_one rs qs h) (subst (λ (m : List ℤ). AllLie m rs) (ok_one ns ms e) all) in (
        n.0,
        call_of_keeps f (Some rs) (given (Ok ns)) keeps n.0 r n.1 h,
        λ g u w. ap (λ (z : Result (List ℤ) ℕ). (onward (e g u).seen z (λ us. given (of_intrinsic (intrinsic_result f us)))).result) (a.2 g u w) ∙ n.1,
      )

  -- a variable of a loop round the bound, or a scalar that keeps its value
  variable_lies : (x : List ℕ) → IsTrue (is_among x (indices_of (nest_round t l))) ⊎ IsKept constants t l x → (o : Option Interval) → lookup (is_same_text x) around ≡ o → (r : Interval) → variable_by o (is_among x s.loop_variables) ≡ Some r → Lies (v x) r
  variable_lies x is (Some q) k r h = subst (λ (z : Interval). Lies (v x) z) (some_one q r h) (range.indices x q k)
  variable_lies x is None k r h = elim is [
    | inl among ↦ (let z : false ≡ true = sym (unfound s x (nest_round t l) [] k).1 ∙ among in untrue z)
    | inr fixed ↦ (
        let e = ap (λ (b : Bool). variable_by None b) (sym fixed.fixed.other) ∙ h in
        subst (λ (z : Interval). Lies (v x) z) (some_one any_value r e) (storable_lies (v x) (range.scalars x fixed))
        )
  ]

  variable_told : (x : List ℕ) → value_named constants x ≡ None → IsTrue (is_among x (indices_of (nest_round t l))) ⊎ IsKept constants t l x → Told (λ g. λ u. (value g (Var x) u).result) (v x)
  variable_told x none is g u w = ap (λ (o : Option ℤ). (name_value o g x u).result) (ap (λ (c : Values). value_named c x) w.same ∙ none) ∙ by is
    where
      by : IsTrue (is_among x (indices_of (nest_round t l))) ⊎ IsKept constants t l x → (variable_value (g.index x) u (g.cell x)).result ≡ Ok (v x)
      by (inl among) = ap (λ (o : Option ℤ). (variable_value o u (g.cell x)).result) (w.indices x among)
      by (inr fixed) = ap (λ (o : Option ℤ). (variable_value o u (g.cell x)).result) (w.unbound x fixed) ∙ ap number_read (w.scalars x fixed)

  variable_known : (x : List ℕ) → value_named constants x ≡ None → IsTrue (is_among x (indices_of (nest_round t l))) ⊎ IsFixed constants t l x → IsKnown (Var x)
  variable_known x none is r h =
      let known : IsTrue (is_among x (indices_of (nest_round t l))) ⊎ IsKept constants t l x = elim is [ inl among ↦ inl among | inr fixed ↦ inr (record { fixed = fixed; other = none }) ] in
      (v x, variable_lies x known (lookup (is_same_text x) around) refl r (ap (λ (c : Option ℤ). constant_or c (variable_interval s around x)) (sym none) ∙ h), variable_told x none known)

  two_max : (es : ExprTrees) → takes_arguments Max es ≡ true → (rs : List Interval) → intervals_of s around es ≡ Some rs → HasTwo rs
  two_max no_exprs fits rs h = untrue fits
  two_max (more_exprs a no_exprs) fits rs h = untrue fits
  two_max (more_exprs a (more_exprs b rest)) fits rs h = two_of (interval_of s around a) (interval_of s around b) (intervals_of s around rest) rs h

  two_min : (es : ExprTrees) → takes_arguments Min es ≡ true → (rs : List Interval) → intervals_of s around es ≡ Some rs → HasTwo rs
  two_min no_exprs fits rs h = untrue fits
  two_min (more_exprs a no_exprs) fits rs h = untrue fits
  two_min (more_exprs a (more_exprs b rest)) fits rs h = two_of (interval_of s around a) (interval_of s around b) (intervals_of s around rest) rs h

  -- MAX and MIN have two arguments or more
  two_arguments : (f : Intrinsic) → IsExtreme f → (es : ExprTrees) → takes_arguments f es ≡ true → (rs : List Interval) → intervals_of s around es ≡ Some rs → HasTwo rs
  two_arguments f x es fits rs h = elim x [
    | inl e ↦ two_max es (subst (λ (g : Intrinsic). takes_arguments g es ≡ true) e fits) rs h
    | inr e ↦ two_min es (subst (λ (g : Intrinsic). takes_arguments g es ≡ true) e fits) rs h
  ]

  mutual
    pub value_known : (e : ExprTree) → IsPlainlyBuilt constants t l e → expr_fits e ≡ true → IsKnown e
    value_known (Int n) built fits = known_constant (Int n) (pos n) refl
    value_known (Var x) built fits = or_built (Var x) built (λ k b. variable_known x k b)
    value_known (Element x subscripts) built fits = absurd built
    value_known (Neg a) built fits = or_built (Neg a) built (λ k b r h.
        one_known (interval_of s around a) (λ g. λ u. value g a u) (value_known a b fits) r
        (ap (λ (c : Option ℤ). constant_or c (of_one interval_negation (interval_of s around a))) (sym k) ∙ h))
    value_known (Add a b) built fits = or_built (Add a b) built (λ k p r h.
        let f = and_split (expr_fits a) (expr_fits b) fits in
        two_known interval_sum (λ x. λ y. x +ℤ y) sum_lies (interval_of s around a) (interval_of s around b) (λ g. λ u. value g a u) (λ g. λ u. value g b u) (value_known a p.0 f.0) (value_known b p.1 f.1) r
        (ap (λ (c : Option ℤ). constant_or c (of_two interval_sum (interval_of s around a) (interval_of s around b))) (sym k) ∙ h))
    value_known (Sub a b) built fits = or_built (Sub a b) built (λ k p r h.
        let f = and_split (expr_fits a) (expr_fits b) fits in
        two_known interval_difference (λ x. λ y. x -ℤ y) difference_lies (interval_of s around a) (interval_of s around b) (λ g. λ u. value g a u) (λ g. λ u. value g b u) (value_known a p.0 f.0) (value_known b p.1 f.1) r
        (ap (λ (c : Option ℤ). constant_or c (of_two interval_difference (interval_of s around a) (interval_of s around b))) (sym k) ∙ h))
    value_known (Mul a b) built fits = or_built (Mul a b) built (λ k p r h.
        let f = and_split (expr_fits a) (expr_fits b) fits in
        let both : IsKnown a × IsKnown b = elim p [ inl q ↦ (of_constant a q.0, value_known b q.1 f.1) | inr q ↦ (value_known a q.0 f.0, of_constant b q.1) ] in
        two_known interval_product (λ x. λ y. x *ℤ y) product_lies (interval_of s around a) (interval_of s around b) (λ g. λ u. value g a u) (λ g. λ u. value g b u) both.0 both.1 r
        (ap (λ (c : Option ℤ). constant_or c (of_two interval_product (interval_of s around a) (interval_of s around b))) (sym k) ∙ h))
    value_known (Div a b) built fits = of_constant (Div a b) built
    value_known (Pow a b) built fits = of_constant (Pow a b) built
    value_known (Call f arguments) built fits = or_built (Call f arguments) built (λ k p r h.
        let fit = and_split (takes_arguments f arguments) (exprs_fit arguments) fits in
        call_known f p.0 (intervals_of s around arguments) (two_arguments f p.0 arguments fit.0) (intervals_ends s around near_round arguments) (λ g. λ u. values g arguments u) (values_known arguments p.1 fit.1) r
        (ap (λ (c : Option ℤ). constant_or c (call_interval f (intervals_of s around arguments))) (sym k) ∙ h))

    values_known : (es : ExprTrees) → ArePlainlyBuilt constants t l es → exprs_fit es ≡ true → KnownAll (intervals_of s around es) (λ g. λ u. (values g es u).result)
    values_known no_exprs built fits = λ rs h. ([], subst (λ (q : List Interval). AllLie [] q) (some_one [] rs h) tt, λ g u w. refl)
    values_known (more_exprs e rest) built fits =
        let f = and_split (expr_fits e) (exprs_fit rest) fits in
        more_known (interval_of s around e) (intervals_of s around rest) (λ g. λ u. value g e u) (λ g. λ u. values g rest u) (value_known e built.0 f.0) (values_known rest built.1 f.1)

  pub plain_value : (e : ExprTree) → IsPlain constants t l e → expr_fits e ≡ true → HasPlainValue constants t l v e
  plain_value e plain fits = go (interval_of s around e) refl
    where
      go : (o : Option Interval) → interval_of s around e ≡ o → HasPlainValue constants t l v e
      go None k = absurd (plain.near k)
      go (Some r) k =
          let n = value_known e plain.built fits r k in
          let lies : Lies n.0 r = n.1 in
          record {
            worth = n.0;
            lies = subst (λ (o : Option Interval). Lies n.0 (near_or_all o)) (sym k) lies;
            bound = bound_is n.0 (lies_near n.0 r lies (interval_ends s around near_round e r k));
            comes = n.2;
          }
