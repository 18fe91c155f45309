-- Where the sums of a DO may be kept apart, and the new program is valid, all is known of both programs by which the new one keeps the meaning of the old one.
use Rattle.std.proofs.Common.{◌≡◌, ◌⊎◌, ℕ, suc, ◌+◌, ◌-◌, ◌≤◌, ℤ, pos, neg_ℤ, ◌+ℤ◌, ◌*ℤ◌, ◌≤ℤ◌, int_le, int_lt, unsigned_abs, List, [], ◌∷◌, ◌++◌, length, Bool, true, false, cond, ◌&&◌, ◌||◌, Option, Some, None, if◌then◌else◌, append-nil, inl, inr, refl, sym, ap, subst, ◌∙◌, arith}
use Rattle.std.specs.Prelude.{nat_lt}
use Rattle.std.specs.Int.{int_min, int_max}
use Rattle.std.specs.List.{flat_map, list_any}
use Rattle.std.proofs.Math.IntN.{*ℤ_comm}
use Rattle.std.proofs.lemmas.Bool.{both_ways, or_parts}
use Rattle.std.proofs.lemmas.Bool.Decides.{nat_tests}
use Rattle.std.proofs.lemmas.Int.{ints, by_lt_z}
use Rattle.ped_rules.specs.ped_views.proofs.Products.{linear, mul-le, neg-mul}
use Rattle.ped_base.specs.Dimensions.{Dimensions}
use Rattle.ped_base.specs.Lists.{is_same_text, is_among}
use Rattle.ped_base.proofs.NameEquality.{same_is}
use Rattle.ped_tree.specs.Constants.ConstantExpressions.{constant_value}
use Rattle.ped_tree.specs.NamesIn.{loop_variables, all_loop_variables, private_names_in, stmt_names, stmts_names}
use Rattle.ped_tree.specs.Nests.{Loop, indices_of}
use Rattle.ped_tree.specs.Numbering.{numbered, all_numbered, statement_count, statements_count, statement_with}
use Rattle.ped_tree.specs.Tree.{Head, StmtTrees, If, Do, ProgramTree}
use Rattle.ped_rules.specs.ped_symbols.specs.declared.symbols.Kind.{Kind}
use Rattle.ped_rules.specs.ped_symbols.specs.Kinds.{kind_of, kind_in, names_of, table_of}
use Rattle.ped_rules.specs.ped_symbols.specs.NameRefusals.{IsValid}
use Rattle.ped_rules.specs.ped_symbols.specs.RightUses.RightUses.{is_scalar_kind}
use Rattle.ped_rules.specs.ped_symbols.specs.Sites.{decl_sites, stmts_sites}
use Rattle.ped_rules.specs.ped_symbols.proofs.RightUseLaws.Whole.{names_occur, same_values}
use Rattle.ped_rules.specs.ped_flow.specs.PlainBounds.{all_loops_round, nest_round}
use Rattle.ped_rules.specs.ped_flow.specs.Questions.{LoopOf}
use Rattle.ped_rules.specs.ped_flow.proofs.Truths.{untrue, or_split}
use Rattle.ped_rules.specs.ped_laws.specs.Acts.Orders.{IsIn}
use Rattle.ped_rules.specs.ped_store.specs.Storage.{is_within}
use Rattle.ped_rules.specs.ped_eval.specs.Loops.{increment, iteration_count}
use Rattle.ped_rules.specs.ped_eval.specs.Outcomes.{bounds_of, setting_of}
use Rattle.ped_rules.specs.ped_laws.proofs.FlowRunLaws.Standing.{Stand, whole_stands, first_stands, rest_stands, inner_stands, else_stands, is_there}
use Rattle.ped_rules.specs.ped_laws.proofs.PlainLaws.Nests.{all_loops_among}
use Rattle.ped_rules.specs.ped_steps.specs.Replacing.{alone, all_replaced}
use Rattle.ped_rules.specs.ped_steps.specs.Runs.Expanding.{array_bounds}
use Rattle.ped_rules.specs.ped_steps.specs.Runs.Gaps.{Gap, at_front, past, in_then, in_else, in_body, filled}
use Rattle.ped_rules.specs.ped_steps.proofs.RunLaws.ConstantBounds.{Counts, constant_counts, constant_step}
use Rattle.ped_rules.specs.ped_steps.proofs.RunLaws.DeclaredArrays.{kind_same}
use Rattle.ped_rules.specs.ped_steps.proofs.RunLaws.NamesAtSites.{stmts_at}
use Rattle.ped_rules.specs.ped_steps.proofs.RunLaws.NamesKept.{occurs, occurs_append}
use Rattle.ped_rules.specs.ped_loop_runs.specs.Statements.{GivesWay}
use Rattle.ped_rules.specs.ped_loop_runs.proofs.PastingLaws.OneStatement.{gives_way}
use Rattle.ped_rules.specs.OnlyLoops.{on_loop}
use Rattle.ped_rules.specs.Spans.{Values, Span, has_iteration, last_value, span_by, span_of, is_far}
use Rattle.ped_rules.proofs.OneLoop.{one_loop}
use Rattle.ped_rules.proofs.RightSteps.{near_is}
use Rattle.ped_reduce.specs.Lowering.{Partials, lowered_loop}
use Rattle.ped_reduce.proofs.LoopsRoundGaps.{gap_loops, gap_nest}
use Rattle.ped_reduce.proofs.ResemblingPaths.{in_gap}
use Rattle.ped_reduce.proofs.LoweredNames.{in_lowered}
use Rattle.ped_reduce.proofs.SumStores.{is_array_of, is_array, is_total, array_apart}
use Rattle.ped_reduce.proofs.SumPlaces.{moves}
use Rattle.ped_reduce.proofs.SumKeeps.{IsKeptApart}
use Rattle.ped_reduce.proofs.SumGoals.{kept_apart, MayKeepApart, DeclaredApart}
use Rattle.ped_reduce.proofs.SumNames.{IsUnlike, lowered_lacks, filled_more}
use Rattle.ped_reduce.proofs.SumDeclared.{saved_declared, values_declared, kinds_declared, names_declared, arrays_declared}

-- what none is, one isn't; and what one is, is found
none_of : {A : Type 0} (f : A → Bool) (xs : List A) (a : A) → list_any f xs ≡ false → IsIn a xs → f a ≡ false
none_of f [] a h i = absurd i
none_of f (x ∷ xs) a h (inl e) = ap f e ∙ (or_parts (f x) (list_any f xs) h).0
none_of f (x ∷ xs) a h (inr i) = none_of f xs a (or_parts (f x) (list_any f xs) h).1 i

pub found : {A : Type 0} (f : A → Bool) (xs : List A) → list_any f xs ≡ true → (a : A) × IsIn a xs × (f a ≡ true)
found f [] h = untrue h
found f (x ∷ xs) h = elim (or_split (f x) (list_any f xs) h) [ inl e ↦ (x, inl refl, e) | inr k ↦ (let a = found f xs k in (a.0, inr a.1, a.2)) ]

false_or : (b : Bool) → (b ≡ true → ⊥) → b ≡ false
false_or true h = absurd (h refl)
false_or false h = refl

same_truth : (b c : Bool) → (b ≡ true → c ≡ true) → (c ≡ true → b ≡ true) → b ≡ c
same_truth true c f g = sym (f refl)
same_truth false true f g = g refl
same_truth false false f g = refl

-- the DO loops round a gap are DO loops of the program
module _ (t : ProgramTree) where
  loops_stand : (gap : Gap) (ts : StmtTrees) (n : ℕ) → Stand t n (all_numbered (filled gap ts)) → (k : Loop) → IsIn k (gap_loops gap n) → (b : StmtTrees) × (statement_with k.number t ≡ Some (Do k.head b))
  loops_stand (at_front rest) ts n h k i = absurd i
  loops_stand (past z gap) ts n h k i = loops_stand gap ts (n + statement_count z) (rest_stands t z (filled gap ts) n h) k i
  loops_stand (in_then c gap other rest) ts n h k i =
      let it = filled gap ts in
      loops_stand gap ts (n + 1) (first_stands t (n + 1) (all_numbered it) (all_numbered other) (inner_stands t (If c it other) (all_numbered it ++ all_numbered other) n (first_stands t n (numbered (If c it other)) (all_numbered rest) h))) k i
  loops_stand (in_else c other gap rest) ts n h k i =
      let it = filled gap ts in
      loops_stand gap ts (n + 1 + statements_count other) (else_stands t other it (n + 1) (inner_stands t (If c other it) (all_numbered other ++ all_numbered it) n (first_stands t n (numbered (If c other it)) (all_numbered rest) h))) k i
  loops_stand (in_body g gap rest) ts n h k (inl e) =
      let it = filled gap ts in
      (it, subst (λ (z : Loop). statement_with z.number t ≡ Some (Do z.head it)) (sym e) (is_there t (Do g it) (all_numbered it) n (first_stands t n (numbered (Do g it)) (all_numbered rest) h)))
  loops_stand (in_body g gap rest) ts n h k (inr i) =
      let it = filled gap ts in
      loops_stand gap ts (n + 1) (inner_stands t (Do g it) (all_numbered it) n (first_stands t n (numbered (Do g it)) (all_numbered rest) h)) k i

-- so what is so of no head round a DO isn't so of the head of one of the DO loops with these numbers
module _ (t : ProgramTree) (s : ℕ) (loop : LoopOf t s) where
  way : GivesWay (λ x. alone x) s (Do loop.head loop.body) t
  way = gives_way (λ x. alone x) s (Do loop.head loop.body) t loop.is

  pub none_round : (f : Head → Bool) → list_any (λ (m : Loop). f m.head) (nest_round t s) ≡ false → (n : ℕ) (m : LoopOf t n) → ((k : Loop) × IsIn k (nest_round t s) × (k.number ≡ n)) → f m.head ≡ false
  none_round f none n m (k, i, e) =
      let round : nest_round t s ≡ gap_loops way.gap 1 = ap (λ (ts : StmtTrees). all_loops_round s ts 1) way.old ∙ gap_nest s (alone (Do loop.head loop.body)) (omega arith) way.gap 1 way.number in
      let stands = loops_stand t way.gap (alone (Do loop.head loop.body)) 1 (subst (λ (ts : StmtTrees). Stand t 1 (all_numbered ts)) way.old (whole_stands t)) k (subst (IsIn k) round i) in
      let same = (one_loop t n (record { head = k.head; body = stands.0; is = ap (λ (j : ℕ). statement_with j t) (sym e) ∙ stands.1 }) m).0 in
      ap f (sym same) ∙ none_of (λ (l : Loop). f l.head) (nest_round t s) k none i

  -- variables of DO loops round it, of it or in it are variables of DO loops of the program
  module _ (x : List ℕ) (no_loop : is_among x (all_loop_variables t.body) ≡ false) where
    pub none_outer : is_among x (indices_of (nest_round t s)) ≡ false
    none_outer = false_or (is_among x (indices_of (nest_round t s))) (λ e. both_ways (is_among x (all_loop_variables t.body)) no_loop (all_loops_among s x t.body 1 e))

    pub none_near : is_among x (loop_variables (Do loop.head loop.body)) ≡ false
    none_near = false_or (is_among x (loop_variables (Do loop.head loop.body))) (λ e. both_ways (is_among x (all_loop_variables t.body)) no_loop (ap (λ (ts : StmtTrees). is_among x (all_loop_variables ts)) way.old ∙ in_gap loop.head loop.body x e way.gap))

-- the values of a DO's variable, by its bounds and its increment
record IsSpanned (constants : Values) (h : Head) (v : Span) : Type 0 where
  m1 : ℤ
  m2 : ℤ
  m3 : ℤ
  first : constant_value constants h.first ≡ Some m1
  last : constant_value constants h.last ≡ Some m2
  step : constant_value constants h.step ≡ Some m3
  some : has_iteration m1 m2 m3 ≡ true
  first_is : m1 ≡ v.first
  last_is : last_value m1 m2 m3 ≡ v.last

module _ (constants : Values) (h : Head) (v : Span) where
  abbrev spanning : ℤ → ℤ → Span
  spanning m n = record { first = m; last = n }

  span_is : (w u : Span) → Some w ≡ Some u → w ≡ u
  span_is w u q = cc

  by_iteration : (m1 m2 m3 : ℤ) → constant_value constants h.first ≡ Some m1 → constant_value constants h.last ≡ Some m2 → constant_value constants h.step ≡ Some m3
      → (some : Bool) → has_iteration m1 m2 m3 ≡ some → (if some then Some (spanning m1 (last_value m1 m2 m3)) else None) ≡ Some v → IsSpanned constants h v
  by_iteration m1 m2 m3 first last step true some q =
      let is = span_is (spanning m1 (last_value m1 m2 m3)) v q in
      record { m1 = m1; m2 = m2; m3 = m3; first = first; last = last; step = step; some = some; first_is = ap (λ (w : Span). w.first) is; last_is = ap (λ (w : Span). w.last) is }
  by_iteration m1 m2 m3 first last step false some q = absurd cc

  by_bounds : (a b c : Option ℤ) → constant_value constants h.first ≡ a → constant_value constants h.last ≡ b → constant_value constants h.step ≡ c → span_by a b c ≡ Some v → IsSpanned constants h v
  by_bounds (Some m1) (Some m2) (Some m3) first last step q = by_iteration m1 m2 m3 first last step (has_iteration m1 m2 m3) refl q
  by_bounds (Some m1) (Some m2) None first last step q = absurd cc
  by_bounds (Some m1) None c first last step q = absurd cc
  by_bounds None b c first last step q = absurd cc

  spanned : span_of constants h ≡ Some v → IsSpanned constants h v
  spanned q = by_bounds (constant_value constants h.first) (constant_value constants h.last) (constant_value constants h.step) refl refl refl q

-- each value lies between the least and the greatest of the first and the last
holds : (b : Bool) → (b ≡ false → ⊥) → b ≡ true
holds true n = refl
holds false n = absurd (n refl)

above_least : (a b v : ℤ) (c : Bool) → int_lt b a ≡ c → (a ≤ℤ v) ⊎ (b ≤ℤ v) → int_le (if c then b else a) v ≡ true
above_least a b v true e (inl h) = holds (int_le b v) (λ k. omega (arith, ints, e, h, k))
above_least a b v true e (inr h) = holds (int_le b v) (λ k. omega (arith, ints, e, h, k))
above_least a b v false e (inl h) = holds (int_le a v) (λ k. omega (arith, ints, e, h, k))
above_least a b v false e (inr h) = holds (int_le a v) (λ k. omega (arith, ints, e, h, k))

below_greatest : (a b v : ℤ) (c : Bool) → int_lt b a ≡ c → (v ≤ℤ a) ⊎ (v ≤ℤ b) → int_le v (if c then a else b) ≡ true
below_greatest a b v true e (inl h) = holds (int_le v a) (λ k. omega (arith, ints, e, h, k))
below_greatest a b v true e (inr h) = holds (int_le v a) (λ k. omega (arith, ints, e, h, k))
below_greatest a b v false e (inl h) = holds (int_le v b) (λ k. omega (arith, ints, e, h, k))
below_greatest a b v false e (inr h) = holds (int_le v b) (λ k. omega (arith, ints, e, h, k))

mul_zero : (a : ℤ) → a *ℤ pos 0 ≡ pos 0
mul_zero a = omega (arith, ints)

module _ (m1 m3 : ℤ) (others k : ℕ) (one : 1 ≤ k) (few : k ≤ suc others) where
  abbrev value_there : ℤ
  value_there = m1 +ℤ pos (k - 1) *ℤ m3

  abbrev last_there : ℤ
  last_there = m1 +ℤ pos others *ℤ m3

  between : ((m1 ≤ℤ value_there) × (value_there ≤ℤ last_there)) ⊎ ((last_there ≤ℤ value_there) × (value_there ≤ℤ m1)) → (int_le (int_min m1 last_there) value_there ≡ true) × (int_le value_there (int_max m1 last_there) ≡ true)
  between (inl p) = (above_least m1 last_there value_there (int_lt last_there m1) refl (inl p.0), below_greatest m1 last_there value_there (int_lt last_there m1) refl (inr p.1))
  between (inr p) = (above_least m1 last_there value_there (int_lt last_there m1) refl (inr p.0), below_greatest m1 last_there value_there (int_lt last_there m1) refl (inl p.1))

  values_between : (int_le (int_min m1 last_there) value_there ≡ true) × (int_le value_there (int_max m1 last_there) ≡ true)
  values_between =
      by_lt_z m3 (pos 0)
      (λ d. let a = mul-le (neg_ℤ m3) (pos (k - 1)) (pos others) (omega (arith, linear)) (omega (arith, ints)) in
      let b = mul-le (neg_ℤ m3) (pos 0) (pos (k - 1)) (omega (arith, linear)) (omega (arith, ints)) in
      let z = mul_zero (neg_ℤ m3) in
      let e = neg-mul m3 (pos others) in
      let f = neg-mul m3 (pos (k - 1)) in
      let g = *ℤ_comm m3 (pos others) in
      let h = *ℤ_comm m3 (pos (k - 1)) in
      between (inr (omega (arith, linear), omega (arith, linear))))
      (λ d. let a = mul-le m3 (pos (k - 1)) (pos others) (omega (arith, linear)) (omega (arith, ints)) in
      let b = mul-le m3 (pos 0) (pos (k - 1)) (omega (arith, linear)) (omega (arith, ints)) in
      let z = mul_zero m3 in
      let g = *ℤ_comm m3 (pos others) in
      let h = *ℤ_comm m3 (pos (k - 1)) in
      between (inl (omega (arith, linear), omega (arith, linear))))

-- numbers that literals have
near_number : (n : ℤ) → is_far n ≡ false → nat_lt 2147483647 (unsigned_abs n) ≡ false
near_number n h = let k = near_is n h in grind (arith, nat_tests, k)

least_near : (a b : ℤ) → nat_lt 2147483647 (unsigned_abs a) ≡ false → nat_lt 2147483647 (unsigned_abs b) ≡ false → nat_lt 2147483647 (unsigned_abs (int_min a b)) ≡ false
least_near a b h k = go (int_lt b a)
  where
    go : (c : Bool) → nat_lt 2147483647 (unsigned_abs (cond c b a)) ≡ false
    go true = k
    go false = h

greatest_near : (a b : ℤ) → nat_lt 2147483647 (unsigned_abs a) ≡ false → nat_lt 2147483647 (unsigned_abs b) ≡ false → nat_lt 2147483647 (unsigned_abs (int_max a b)) ≡ false
greatest_near a b h k = go (int_lt b a)
  where
    go : (c : Bool) → nat_lt 2147483647 (unsigned_abs (cond c a b)) ≡ false
    go true = h
    go false = k

-- a name that is another
not_longer : (y : List ℕ) → is_same_text y (0 ∷ y) ≡ false
not_longer y = false_or (is_same_text y (0 ∷ y)) (λ e. (let longer = ap length (same_is y (0 ∷ y) e) in absurd (omega (arith, longer))))

module _ (t : ProgramTree) (s : ℕ) (loop : LoopOf t s) (ps : List Partials) (v : Span) (m : MayKeepApart t s loop ps v) (new_valid : IsValid (kept_apart false t s ps v)) where
  abbrev h : Head
  h = loop.head

  abbrev u : ProgramTree
  u = kept_apart false t s ps v

  abbrev new : StmtTrees
  new = all_replaced (on_loop (lowered_loop false ps)) s t.body 1

  -- the program with the new statements and the old declarations
  abbrev mid : ProgramTree
  mid = record { decls = t.decls; body = new }

  far : (is_far v.first ≡ false) × (is_far v.last ≡ false)
  far = or_parts (is_far v.first) (is_far v.last) m.near

  least : nat_lt 2147483647 (unsigned_abs (int_min v.first v.last)) ≡ false
  least = least_near v.first v.last (near_number v.first far.0) (near_number v.last far.1)

  greatest : nat_lt 2147483647 (unsigned_abs (int_max v.first v.last)) ≡ false
  greatest = greatest_near v.first v.last (near_number v.first far.0) (near_number v.last far.1)

  constants : (setting_of u).constants ≡ (setting_of t).constants
  constants = values_declared v new least greatest ps t.decls ∙ same_values t mid refl

  -- statements say nothing of what a name stands for
  kind_mid : (y : List ℕ) → kind_of mid y ≡ kind_of t y
  kind_mid y =
      let other = not_longer y in
      let lo = int_min v.first v.last in
      let hi = int_max v.first v.last in
      sym (kind_same mid new (0 ∷ y) lo hi least greatest y other) ∙ kind_same t new (0 ∷ y) lo hi least greatest y other

  fresh : (y : List ℕ) → is_array ps y ≡ true → is_among y (names_of t) ≡ false
  fresh y e = let p = found (λ (p : Partials). is_array_of p y) ps e in m.fresh p.0 y p.1 p.2

  -- which names occur
  the_way : GivesWay (on_loop (lowered_loop false ps)) s (Do loop.head loop.body) t
  the_way = gives_way (on_loop (lowered_loop false ps)) s (Do loop.head loop.body) t loop.is

  names_are : (x : ProgramTree) (y : List ℕ) → is_among y (names_of x) ≡ (occurs y (flat_map decl_sites x.decls) || is_among y (stmts_names x.body))
  names_are x y = names_occur x y ∙ occurs_append y (flat_map decl_sites x.decls) (stmts_sites x.body) ∙ ap (λ (names : List (List ℕ)). occurs y (flat_map decl_sites x.decls) || is_among y names) (stmts_at x.body)

  or_more : (a b c : Bool) → (b ≡ true → c ≡ true) → (a || b) ≡ true → (a || c) ≡ true
  or_more true b c f e = refl
  or_more false b c f e = f e

  module _ (y : List ℕ) where
    to_lowered : is_among y (stmts_names (alone (Do loop.head loop.body))) ≡ true → is_among y (stmts_names (lowered_loop false ps loop.head loop.body)) ≡ true
    to_lowered e = in_lowered y false ps loop.head loop.body (ap (is_among y) (sym (append-nil (stmt_names (Do loop.head loop.body)))) ∙ e)

    still_named : is_among y (names_of t) ≡ true → is_among y (names_of mid) ≡ true
    still_named e =
        names_are mid y
        ∙ or_more (occurs y (flat_map decl_sites t.decls)) (is_among y (stmts_names t.body)) (is_among y (stmts_names new))
        (λ k. ap (λ (ts : StmtTrees). is_among y (stmts_names ts)) the_way.new ∙ filled_more y (alone (Do loop.head loop.body)) (lowered_loop false ps loop.head loop.body) to_lowered the_way.gap (ap (λ (ts : StmtTrees). is_among y (stmts_names ts)) (sym the_way.old) ∙ k))
        (sym (names_are t y) ∙ e)

    scalar_named : is_total ps y ≡ true → is_among y (names_of t) ≡ true
    scalar_named e =
        let p = found (λ (p : Partials). is_same_text y p.scalar) ps e in
        ap (λ (z : List ℕ). is_among z (names_of t)) (same_is y p.0.scalar p.2) ∙ by (is_among p.0.scalar (names_of t)) (kind_of t p.0.scalar) (m.scalar p.0 p.1)
      where
        by : (b : Bool) (k : Kind) → is_scalar_kind (if b then Some k else None) ≡ true → b ≡ true
        by true k i = refl
        by false k i = untrue i

    module _ (none : is_array ps y ≡ false) (no_total : is_total ps y ≡ false) where
      unlike : (p : Partials) → IsIn p ps → IsUnlike y p
      unlike p i =
          let own = none_of (λ (o : Partials). is_array_of o y) ps p none i in
          let high = or_parts (is_same_text y p.high) (is_same_text y p.low || is_same_text y p.flag) own in
          let low = or_parts (is_same_text y p.low) (is_same_text y p.flag) high.1 in
          record { scalar = none_of (λ (o : Partials). is_same_text y o.scalar) ps p no_total i; high = high.0; low = low.0; flag = low.1 }

      from_lowered : is_among y (stmts_names (lowered_loop false ps loop.head loop.body)) ≡ true → is_among y (stmts_names (alone (Do loop.head loop.body))) ≡ true
      from_lowered e = ap (is_among y) (append-nil (stmt_names (Do loop.head loop.body))) ∙ by (is_among y (stmt_names (Do loop.head loop.body))) refl
        where
          by : (b : Bool) → is_among y (stmt_names (Do loop.head loop.body)) ≡ b → b ≡ true
          by true k = refl
          by false k = absurd (both_ways (is_among y (stmts_names (lowered_loop false ps loop.head loop.body))) (lowered_lacks y ps unlike false loop.head loop.body k) e)

      was_named : is_among y (names_of mid) ≡ true → is_among y (names_of t) ≡ true
      was_named e =
          names_are t y
          ∙ or_more (occurs y (flat_map decl_sites t.decls)) (is_among y (stmts_names new)) (is_among y (stmts_names t.body))
          (λ k. ap (λ (ts : StmtTrees). is_among y (stmts_names ts)) the_way.old ∙ filled_more y (lowered_loop false ps loop.head loop.body) (alone (Do loop.head loop.body)) from_lowered the_way.gap (ap (λ (ts : StmtTrees). is_among y (stmts_names ts)) (sym the_way.new) ∙ k))
          (sym (names_are mid y) ∙ e)

    names_mid : is_array ps y ≡ false → is_among y (names_of mid) ≡ is_among y (names_of t)
    names_mid none = same_truth (is_among y (names_of mid)) (is_among y (names_of t)) (by (is_total ps y) refl) still_named
      where
        by : (b : Bool) → is_total ps y ≡ b → is_among y (names_of mid) ≡ true → is_among y (names_of t) ≡ true
        by true e k = scalar_named e
        by false e k = was_named none e k

    kinds : is_array ps y ≡ false → kind_in u y ≡ kind_in t y
    kinds none =
        let names = names_declared v new least greatest ps t.decls y none ∙ names_mid none in
        let kind = kinds_declared v new least greatest ps t.decls y none ∙ kind_mid y in
        λ i. if names i then Some (kind i) else None

  -- the bounds of the new arrays
  bounds : (x : List ℕ) → is_array ps x ≡ true → (setting_of u).bounds x ≡ array_bounds (int_min v.first v.last) (int_max v.first v.last)
  bounds x array =
      let declared = arrays_declared v new least greatest t.body ps t.decls m.arrays.three m.distinct fresh x array in
      λ i. bounds_of (if declared.0 i then Some (declared.1 i) else None)

  values : IsSpanned (table_of t).constants loop.head v
  values = spanned (table_of t).constants loop.head v m.spans

  step_is : increment (setting_of u).constants loop.head ≡ values.m3
  step_is = ap (λ (c : Values). increment c loop.head) constants ∙ constant_step (table_of t).constants loop.head values.m3 values.step

  counts : Counts values.m1 values.m2 values.m3
  counts = constant_counts values.m1 values.m2 values.m3 (λ e. moves t m.valid s loop (constant_step (table_of t).constants loop.head values.m3 values.step ∙ e)) values.some

  -- the value in an iteration lies within them
  within : (j : ℕ) → 1 ≤ j → j ≤ iteration_count values.m1 values.m2 values.m3 → (x : List ℕ) → is_array ps x ≡ true → is_within ((setting_of u).bounds x) ((values.m1 +ℤ pos (j - 1) *ℤ values.m3) ∷ []) ≡ true
  within j one few x array =
      let value = values.m1 +ℤ pos (j - 1) *ℤ values.m3 in
      let lies = values_between values.m1 values.m3 counts.others j one (subst (λ (n : ℕ). j ≤ n) counts.some few) in
      let last : values.m1 +ℤ pos counts.others *ℤ values.m3 ≡ v.last = counts.last ∙ values.last_is in
      let from : int_le (int_min v.first v.last) value ≡ true = (λ i. int_le (int_min (sym values.first_is i) (sym last i)) value) ∙ lies.0 in
      let to : int_le value (int_max v.first v.last) ≡ true = (λ i. int_le value (int_max (sym values.first_is i) (sym last i))) ∙ lies.1 in
      ap (λ (d : Dimensions). is_within d (value ∷ [])) (bounds x array) ∙ (λ i. (from i && to i) && true)

  inside : (j : ℕ) → 1 ≤ j → j ≤ iteration_count values.m1 values.m2 (increment (setting_of u).constants loop.head) → (p : Partials) (x : List ℕ) → IsIn p ps → is_array_of p x ≡ true
      → is_within ((setting_of u).bounds x) ((values.m1 +ℤ pos (j - 1) *ℤ increment (setting_of u).constants loop.head) ∷ []) ≡ true
  inside j one few p x i e =
      ap (λ (d : ℤ). is_within ((setting_of u).bounds x) ((values.m1 +ℤ pos (j - 1) *ℤ d) ∷ [])) step_is
      ∙ within j one (subst (λ (d : ℤ). j ≤ iteration_count values.m1 values.m2 d) step_is few) x (array_apart ps p x i e)

  in_order : (loop.head.parallel ≡ false) × (list_any (λ (l : Loop). l.head.parallel) (nest_round t s) ≡ false)
  in_order = or_parts loop.head.parallel (list_any (λ (l : Loop). l.head.parallel) (nest_round t s)) m.in_order

  private : (p : Partials) → IsIn p ps → (is_among p.scalar (private_names_in (Do loop.head loop.body)) ≡ false) × (list_any (λ (l : Loop). is_among p.scalar l.head.private) (nest_round t s) ≡ false)
  private p i = or_parts (is_among p.scalar (private_names_in (Do loop.head loop.body))) (list_any (λ (l : Loop). is_among p.scalar l.head.private) (nest_round t s)) (m.shared p i)

  is_kept_apart : IsKeptApart t u s loop ps values.m1 values.m2
  is_kept_apart = record {
    valid = m.valid;
    new_valid = new_valid;
    body = refl;
    saved = saved_declared t.decls v ps;
    constants = constants;
    kinds = kinds;
    fresh = fresh;
    serial = in_order.0;
    round = in_order.1;
    serial_round = none_round t s loop (λ g. g.parallel) in_order.1;
    first = values.first;
    last = values.last;
    inside = inside;
    scalar = m.scalar;
    no_loop = m.no_loop;
    outer = λ p i. none_outer t s loop p.scalar (m.no_loop p i);
    near = λ p i. none_near t s loop p.scalar (m.no_loop p i);
    shared = λ p i. (private p i).0;
    shared_round = λ p i. none_round t s loop (λ g. is_among p.scalar g.private) (private p i).1;
    clear = m.clear;
    arrays = m.arrays;
    distinct = m.distinct;
  }

-- all is known of them
pub declared_apart : DeclaredApart
declared_apart t s loop ps v m new_valid = ((values t s loop ps v m new_valid).m1, (values t s loop ps v m new_valid).m2, is_kept_apart t s loop ps v m new_valid)
