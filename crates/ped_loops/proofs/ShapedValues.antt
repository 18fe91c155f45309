-- The values of sums and differences that are made anew, and of MAX and MIN of a bound and others; what they read is what their parts read.
use Rattle.ped_base.specs.Arithmetic.Arithmetic.{difference_of, from_left, in_range, is_in_range, sum_of}
use Rattle.ped_base.specs.Arithmetic.Faults.{◌>>=◌}
use Rattle.ped_base.specs.declared.arithmetic.faults.Fault.TheVariants.{OutOfRange}
use Rattle.ped_base.specs.declared.arithmetic.faults.Fault.{Fault}
use Rattle.ped_rules.proofs.NestLaws.SettledBounds.{limits_there}
use Rattle.ped_loops.specs.Shapes.{arguments_of, extreme_of}
use Rattle.ped_rules.specs.ped_steps.proofs.RunLaws.SubstitutedSums.{minus_comes, plus_comes}
use Rattle.ped_rules.specs.ped_laws.proofs.ActLaws.Lists.{in_parts}
use Rattle.ped_rules.specs.ped_laws.specs.Acts.Orders.{IsIn}
use Rattle.ped_rules.specs.ped_eval.specs.Evaluation.{Evaluated, Seen, by_number, cell_seen, given, index_seen, ◌>>>◌}
use Rattle.ped_rules.specs.ped_eval.specs.Loops.{Limits, is_bound, limits}
use Rattle.ped_rules.specs.ped_eval.specs.Scopes.{Names}
use Rattle.ped_rules.specs.ped_eval.specs.Values.{binary, name_value, of_intrinsic, value, values, variable_value}
use Rattle.ped_rules.specs.ped_store.specs.Cells.{Cell}
use Rattle.ped_rules.specs.ped_store.specs.Stores.{Content, Store}
use Rattle.ped_symbolic.specs.Arithmetic.{minus_of, plus_of}
use Rattle.ped_tree.specs.Constants.ConstantExpressions.{intrinsic_result}
use Rattle.ped_tree.specs.Constants.NamedConstants.{value_named}
use Rattle.ped_tree.specs.Tree.{Call, ExprTree, ExprTrees, Head, Var}
use Rattle.ped_tree.specs.declared.expressions.Intrinsic.TheVariants.{Max, Min}
use Rattle.ped_tree.specs.declared.expressions.Intrinsic.{Intrinsic}
use Rattle.std.proofs.Common.{Bool, Err, List, None, Ok, Result, Some, [], ap, append-nil, arith, false, fold, if◌then◌else◌, inl, inr, neg_ℤ, pos, refl, subst, sym, true, ℕ, ℤ, ◌++◌, ◌+ℤ◌, ◌-ℤ◌, ◌^◌, ◌∙◌, ◌∷◌, ◌≡◌}
use Rattle.std.proofs.lemmas.Bool.{and_from, and_parts}
use Rattle.std.proofs.lemmas.Int.{clamps, ints}
use Rattle.std.specs.Int.{int_max, int_min}
use Rattle.std.specs.Prelude.{int_le, int_lt, ◌<ℤ◌, ◌≤ℤ◌}

abbrev evaluated : {A : Type 0} → List Seen → Result A ℕ → Evaluated A
evaluated seen result = record { seen = seen; result = result }

-- a number within 2^64 of zero
pub record IsSmall (n : ℤ) : Type 0 where
  pub from : neg_ℤ (pos (2 ^ 64)) ≤ℤ n
  pub to : n ≤ℤ pos (2 ^ 64)

le_is : (a b : ℤ) → a ≤ℤ b → int_le a b ≡ true
le_is a b h = go (int_le a b) refl
  where
    go : (c : Bool) → int_le a b ≡ c → int_le a b ≡ true
    go true e = e
    go false e = absurd (omega (arith, ints, e, h))

lt_is : (a b : ℤ) → a <ℤ b → int_lt a b ≡ true
lt_is a b h = go (int_lt a b) refl
  where
    go : (c : Bool) → int_lt a b ≡ c → int_lt a b ≡ true
    go true e = e
    go false e = absurd (omega (arith, ints, e, h))

small_in_range : (n : ℤ) → IsSmall n → is_in_range n ≡ true
small_in_range n small = and_from (int_le (neg_ℤ (pos (2 ^ 127))) n) (int_lt n (pos (2 ^ 127))) (le_is (neg_ℤ (pos (2 ^ 127))) n (omega (arith, ints, small.from))) (lt_is n (pos (2 ^ 127)) (omega (arith, ints, small.to)))

pub in_range_comes : (n : ℤ) → IsSmall n → by_number (in_range n) ≡ Ok n
in_range_comes n small = ap (λ (b : Bool). by_number (if b then Ok n else Err OutOfRange)) (small_in_range n small)

-- a result of arithmetic is the exact one
pub ranged : (n w : ℤ) → by_number (in_range n) ≡ Ok w → w ≡ n
ranged n w = go (is_in_range n)
  where
    go : (b : Bool) → by_number (if b then Ok n else Err OutOfRange) ≡ Ok w → w ≡ n
    go true e = let same : n ≡ w = cc in sym same
    go false e = absurd cc

-- a bound of a DO
pub record IsNearZero (n : ℤ) : Type 0 where
  pub from : neg_ℤ (pos (2 ^ 62)) ≤ℤ n
  pub to : n ≤ℤ pos (2 ^ 62)

pub bound_near : (n : ℤ) → is_bound n ≡ true → IsNearZero n
bound_near n h =
    let both = and_parts (int_le (neg_ℤ (pos (2 ^ 62))) n) (int_le n (pos (2 ^ 62))) h in
    let low : int_le (neg_ℤ (pos (2 ^ 62))) n ≡ true = both.0 in
    let high : int_le n (pos (2 ^ 62)) ≡ true = both.1 in
    record { from = omega (arith, ints, low); to = omega (arith, ints, high) }

pub near_bound : (n : ℤ) → IsNearZero n → is_bound n ≡ true
near_bound n near = and_from (int_le (neg_ℤ (pos (2 ^ 62))) n) (int_le n (pos (2 ^ 62))) (le_is (neg_ℤ (pos (2 ^ 62))) n near.from) (le_is n (pos (2 ^ 62)) near.to)

-- two evaluations one behind the other
two_come : (f : ℤ → ℤ → Result ℤ Fault) (a b : Evaluated ℤ) (u v w : ℤ) → a.result ≡ Ok u → b.result ≡ Ok v → by_number (f u v) ≡ Ok w → binary f a b ≡ evaluated (a.seen ++ b.seen) (Ok w)
two_come f a b u v w h k e =
    (λ i. binary f (evaluated a.seen (h i)) (evaluated b.seen (k i)))
    ∙ (λ i. evaluated (a.seen ++ append-nil b.seen i) (e i))

more_come : (a : Evaluated ℤ) (b : Evaluated (List ℤ)) (u : ℤ) (us : List ℤ) → a.result ≡ Ok u → b.result ≡ Ok us → (a >>> λ n. b >>> λ ns. given (Ok (n ∷ ns))) ≡ evaluated (a.seen ++ b.seen) (Ok (u ∷ us))
more_come a b u us h k =
    (λ i. evaluated a.seen (h i) >>> λ n. evaluated b.seen (k i) >>> λ ns. given (Ok (n ∷ ns)))
    ∙ (λ i. evaluated (a.seen ++ append-nil b.seen i) (Ok (u ∷ us)))

call_comes : (f : Intrinsic) (a : Evaluated (List ℤ)) (us : List ℤ) (w : ℤ) → a.result ≡ Ok us → of_intrinsic (intrinsic_result f us) ≡ Ok w → (a >>> λ ns. given (of_intrinsic (intrinsic_result f ns))) ≡ evaluated a.seen (Ok w)
call_comes f a us w h e =
    (λ i. evaluated a.seen (h i) >>> λ ns. given (of_intrinsic (intrinsic_result f ns)))
    ∙ (λ i. evaluated (append-nil a.seen i) (e i))

-- numbers that are all small
abbrev pub AllSmall : List ℤ → Type 0
AllSmall [] = Unit {0}
AllSmall (n ∷ ns) = IsSmall n × AllSmall ns

pub small_joined : (ms ns : List ℤ) → AllSmall ms → AllSmall ns → AllSmall (ms ++ ns)
small_joined [] ns a b = b
small_joined (m ∷ ms) ns a b = (a.0, small_joined ms ns a.1 b)

-- the greatest and the least of small numbers
left_comes : (op : ℤ → ℤ → ℤ) → ((u v : ℤ) → IsSmall u → IsSmall v → IsSmall (op u v)) → (us : List ℤ) (u : ℤ) → IsSmall u → AllSmall us → by_number (from_left (λ a. λ b. in_range (op a b)) u us) ≡ Ok (fold op u us)
left_comes op law [] u a all = refl
left_comes op law (v ∷ us) u a all = let small : IsSmall (op u v) = law u v a all.0 in go (is_in_range (op u v)) (small_in_range (op u v) small) ∙ left_comes op law us (op u v) small all.1
  where
    go : (b : Bool) → b ≡ true
        → by_number ((if b then Ok (op u v) else Err OutOfRange) >>= λ c. from_left (λ x. λ y. in_range (op x y)) c us) ≡ by_number (from_left (λ x. λ y. in_range (op x y)) (op u v) us)
    go true e = refl
    go false e = absurd cc

max_small : (u v : ℤ) → IsSmall u → IsSmall v → IsSmall (int_max u v)
max_small u v a b = record { from = omega (arith, ints, clamps, a.from, b.from); to = omega (arith, ints, clamps, a.to, b.to) }

min_small : (u v : ℤ) → IsSmall u → IsSmall v → IsSmall (int_min u v)
min_small u v a b = record { from = omega (arith, ints, clamps, a.from, b.from); to = omega (arith, ints, clamps, a.to, b.to) }

-- an expression comes to a number, and reads cells of one kind alone
pub record IsWorth (g : Names) (s : Store) (P : Cell → Type 0) (e : ExprTree) (n : ℤ) : Type 0 where
  pub comes : (value g e s).result ≡ Ok n
  pub reads : (c : Cell) (v : Content) → IsIn (cell_seen c v) (value g e s).seen → P c

module _ (g : Names) (s : Store) (P : Cell → Type 0) where
  by_two : (e a b : ExprTree) (n u v : ℤ) → IsWorth g s P a u → IsWorth g s P b v → value g e s ≡ evaluated ((value g a s).seen ++ (value g b s).seen) (Ok n) → IsWorth g s P e n
  by_two e a b n u v first second is = record {
    comes = ap (λ (r : Evaluated ℤ). r.result) is;
    reads = λ c w i. elim (in_parts (cell_seen c w) (value g a s).seen (value g b s).seen (subst (λ (r : Evaluated ℤ). IsIn (cell_seen c w) r.seen) is i)) [
      | inl m ↦ first.reads c w m
      | inr m ↦ second.reads c w m
    ];
  }

  pub same_worth : (e : ExprTree) (m n : ℤ) → m ≡ n → IsWorth g s P e m → IsWorth g s P e n
  same_worth e m n is = subst (IsWorth g s P e) is

  pub plus_worth : (a b : ExprTree) (u v : ℤ) → IsWorth g s P a u → IsWorth g s P b v → IsSmall (u +ℤ v) → IsWorth g s P (plus_of a b) (u +ℤ v)
  plus_worth a b u v first second small =
      let whole = two_come sum_of (value g a s) (value g b s) u v (u +ℤ v) first.comes second.comes (in_range_comes (u +ℤ v) small) in
      by_two (plus_of a b) a b (u +ℤ v) u v first second (plus_comes g s a b (u +ℤ v) (ap (λ (r : Evaluated ℤ). r.result) whole) ∙ whole)

  pub minus_worth : (a b : ExprTree) (u v : ℤ) → IsWorth g s P a u → IsWorth g s P b v → IsSmall (u -ℤ v) → IsWorth g s P (minus_of a b) (u -ℤ v)
  minus_worth a b u v first second small =
      let whole = two_come difference_of (value g a s) (value g b s) u v (u -ℤ v) first.comes second.comes (in_range_comes (u -ℤ v) small) in
      by_two (minus_of a b) a b (u -ℤ v) u v first second (minus_comes g s a b (u -ℤ v) (ap (λ (r : Evaluated ℤ). r.result) whole) ∙ whole)

  -- the variable of a DO round the place
  index_is : (x : List ℕ) (n : ℤ) → value_named g.constants x ≡ None → g.index x ≡ Some n → value g (Var x) s ≡ evaluated (index_seen (g.cell x) n ∷ []) (Ok n)
  index_is x n none told = (λ i. name_value (none i) g x s) ∙ (λ i. variable_value (told i) s (g.cell x))

  pub index_worth : (x : List ℕ) (n : ℤ) → value_named g.constants x ≡ None → g.index x ≡ Some n → IsWorth g s P (Var x) n
  index_worth x n none told = record {
    comes = ap (λ (r : Evaluated ℤ). r.result) (index_is x n none told);
    reads = λ c w i. absurd (none_read c w (subst (λ (r : Evaluated ℤ). IsIn (cell_seen c w) r.seen) (index_is x n none told) i));
  }
    where
      none_read : (c : Cell) (w : Content) → IsIn (cell_seen c w) (index_seen (g.cell x) n ∷ []) → ⊥
      none_read c w (inl q) = absurd cc
      none_read c w (inr m) = m

  -- expressions come to numbers, one by one
  abbrev pub AllWorth : List ExprTree → List ℤ → Type 0
  AllWorth [] [] = Unit {0}
  AllWorth [] (n ∷ ns) = ⊥
  AllWorth (e ∷ es) [] = ⊥
  AllWorth (e ∷ es) (n ∷ ns) = IsWorth g s P e n × AllWorth es ns

  pub all_joined : (es fs : List ExprTree) (ns ms : List ℤ) → AllWorth es ns → AllWorth fs ms → AllWorth (es ++ fs) (ns ++ ms)
  all_joined [] fs [] ms a b = b
  all_joined [] fs (n ∷ ns) ms a b = absurd a
  all_joined (e ∷ es) fs [] ms a b = absurd a
  all_joined (e ∷ es) fs (n ∷ ns) ms a b = (a.0, all_joined es fs ns ms a.1 b)

  record Come (es : ExprTrees) (ns : List ℤ) : Type 0 where
    pub comes : (values g es s).result ≡ Ok ns
    pub reads : (c : Cell) (v : Content) → IsIn (cell_seen c v) (values g es s).seen → P c

  all_come : (es : List ExprTree) (ns : List ℤ) → AllWorth es ns → Come (arguments_of es) ns
  all_come [] [] all = record { comes = refl; reads = λ c v i. absurd i }
  all_come [] (n ∷ ns) all = absurd all
  all_come (e ∷ es) [] all = absurd all
  all_come (e ∷ es) (n ∷ ns) all =
      let rest = all_come es ns all.1 in
      let whole : values g (arguments_of (e ∷ es)) s ≡ evaluated ((value g e s).seen ++ (values g (arguments_of es) s).seen) (Ok (n ∷ ns)) = more_come (value g e s) (values g (arguments_of es) s) n ns all.0.comes rest.comes in
      record {
        comes = ap (λ (r : Evaluated (List ℤ)). r.result) whole;
        reads = λ c v i. elim (in_parts (cell_seen c v) (value g e s).seen (values g (arguments_of es) s).seen (subst (λ (r : Evaluated (List ℤ)). IsIn (cell_seen c v) r.seen) whole i)) [
          | inl m ↦ all.0.reads c v m
          | inr m ↦ rest.reads c v m
        ];
      }

  called : (f : Intrinsic) (es : List ExprTree) (ns : List ℤ) (w : ℤ) → AllWorth es ns → of_intrinsic (intrinsic_result f ns) ≡ Ok w → IsWorth g s P (Call f (arguments_of es)) w
  called f es ns w all e =
      let come = all_come es ns all in
      let whole : value g (Call f (arguments_of es)) s ≡ evaluated (values g (arguments_of es) s).seen (Ok w) = call_comes f (values g (arguments_of es) s) ns w come.comes e in
      record {
        comes = ap (λ (r : Evaluated ℤ). r.result) whole;
        reads = λ c v i. come.reads c v (subst (λ (r : Evaluated ℤ). IsIn (cell_seen c v) r.seen) whole i);
      }

  -- the greatest of a bound and others, and the least of them
  pub greatest_worth : (e : ExprTree) (es : List ExprTree) (n : ℤ) (ns : List ℤ) → IsWorth g s P e n → AllWorth es ns → IsSmall n → AllSmall ns → IsWorth g s P (extreme_of Max e es) (fold int_max n ns)
  greatest_worth e [] n [] one all small all_small = one
  greatest_worth e [] n (m ∷ ns) one all small all_small = absurd all
  greatest_worth e (c ∷ cs) n [] one all small all_small = absurd all
  greatest_worth e (c ∷ cs) n (m ∷ ns) one all small all_small = called Max (e ∷ c ∷ cs) (n ∷ m ∷ ns) (fold int_max n (m ∷ ns)) (one, all) (left_comes int_max max_small (m ∷ ns) n small all_small)

  pub least_worth : (e : ExprTree) (es : List ExprTree) (n : ℤ) (ns : List ℤ) → IsWorth g s P e n → AllWorth es ns → IsSmall n → AllSmall ns → IsWorth g s P (extreme_of Min e es) (fold int_min n ns)
  least_worth e [] n [] one all small all_small = one
  least_worth e [] n (m ∷ ns) one all small all_small = absurd all
  least_worth e (c ∷ cs) n [] one all small all_small = absurd all
  least_worth e (c ∷ cs) n (m ∷ ns) one all small all_small = called Min (e ∷ c ∷ cs) (n ∷ m ∷ ns) (fold int_min n (m ∷ ns)) (one, all) (left_comes int_min min_small (m ∷ ns) n small all_small)

  -- the limits of a DO whose bounds come so
  pub limits_worth : (f : Head) (m n : ℤ) → IsWorth g s P f.first m → is_bound m ≡ true → IsWorth g s P f.last n → is_bound n ≡ true
      → ((limits g f s).result ≡ Ok (record { first = m; last = n })) × ((c : Cell) (v : Content) → IsIn (cell_seen c v) (limits g f s).seen → P c)
  limits_worth f m n one first_bound two last_bound =
      let there = limits_there g f s m n one.comes first_bound two.comes last_bound in (
        ap (λ (r : Evaluated Limits). r.result) there,
        λ c v i. elim (in_parts (cell_seen c v) (value g f.first s).seen (value g f.last s).seen (subst (λ (r : Evaluated Limits). IsIn (cell_seen c v) r.seen) there i)) [
          | inl k ↦ one.reads c v k
          | inr k ↦ two.reads c v k
        ],
      )
