-- The bounds of the DO over the strips, and of that over one strip, in one execution.
use Rattle.std.proofs.Common.{Bool, Err, List, None, Ok, Some, [], ap, append-nil, arith, eqb-true, false, if◌then◌else◌, inl, inr, int_lt, neg_ℤ, pos, refl, subst, sym, true, unwrap_or, ℕ, ℤ, ◌&&◌, ◌*ℤ◌, ◌++◌, ◌+ℤ◌, ◌+◌, ◌-ℤ◌, ◌-◌, ◌<ℤ◌, ◌<◌, ◌==◌, ◌^◌, ◌∙◌, ◌∷◌, ◌≡◌, ◌≤ℤ◌, ◌≤◌}
use Rattle.std.proofs.lemmas.Bool.{and_parts, both_ways}
use Rattle.std.proofs.lemmas.Int.{ints}
use Rattle.std.specs.Int.{int_min, is_negative}
use Rattle.std.specs.Prelude.{int_le}
use Rattle.ped_base.proofs.NameEquality.{same_is, same_itself}
use Rattle.ped_base.specs.Arithmetic.Arithmetic.{from_left, in_range, least_of, sum_of}
use Rattle.ped_base.specs.Arithmetic.Faults.{◌>>=◌}
use Rattle.ped_base.specs.Lists.{is_among, is_same_text}
use Rattle.ped_base.specs.declared.arithmetic.faults.Fault.TheVariants.{OutOfRange}
use Rattle.ped_rules.proofs.NestLaws.SettledBounds.{limits_there}
use Rattle.ped_rules.specs.ped_bodies.proofs.BodyLaws.LimitParts.{limits_parted}
use Rattle.ped_rules.specs.ped_bodies.specs.Trips.{HasLimits, bounds_seen, entered_from}
use Rattle.ped_rules.specs.ped_steps.specs.Replacing.{alone}
use Rattle.ped_rules.specs.ped_laws.specs.Acts.Orders.{IsIn}
use Rattle.ped_rules.specs.ped_eval.specs.Evaluation.{Evaluated, Seen, by_number, cell_seen, given, index_seen, ◌>>>◌}
use Rattle.ped_rules.specs.ped_eval.specs.Loops.{Entered, Limits, frame, increment, is_bound, iteration_count, limits, value_in}
use Rattle.ped_rules.specs.ped_eval.specs.Scopes.{Names, Scope, Setting, cell_of, index_value, names_in}
use Rattle.ped_rules.specs.ped_eval.specs.Values.{binary, name_value, of_intrinsic, value, values, variable_value}
use Rattle.ped_rules.specs.ped_store.specs.Cells.{Cell}
use Rattle.ped_rules.specs.ped_store.specs.Stores.{Content, Store}
use Rattle.ped_symbolic.specs.Arithmetic.{literal, plus_of}
use Rattle.ped_rules.specs.ped_views.proofs.Products.{linear}
use Rattle.ped_reindex.proofs.StripsNumbers.{IsStrip, is_strip, strip_first, strip_last, strips}
use Rattle.ped_rules.proofs.NameLaws.UnnamedCells.{UnnamedHead, neither, unnamed_head}
use Rattle.ped_rules.proofs.NameLaws.ValuesBut.{AgreeBut, limits_but, value_but}
use Rattle.ped_reindex.specs.Stripping.{strip_end, strip_head, strips_head}
use Rattle.ped_tree.specs.Constants.ConstantExpressions.{constant_value, intrinsic_result}
use Rattle.ped_tree.specs.Constants.NamedConstants.{value_named}
use Rattle.ped_tree.specs.NamesIn.{head_names, stmt_names, stmts_names}
use Rattle.ped_tree.specs.Numbering.{statements_count}
use Rattle.ped_tree.specs.Tree.{Add, Call, Do, ExprTree, Head, Int, Neg, ProgramTree, StmtTrees, Var, more_exprs, no_exprs}
use Rattle.ped_tree.specs.declared.expressions.Intrinsic.TheVariants.{Min}
use Rattle.ped_rules.specs.ped_flow.specs.Questions.{IsContained, LoopOf}
use Rattle.ped_rules.specs.ped_symbols.specs.NameRefusals.{IsValid}
use Rattle.ped_tree.specs.Grammar.Words.{is_name}
use Rattle.ped_rules.specs.ped_symbols.specs.Kinds.{names_of}
use Rattle.ped_rules.specs.ped_eval.specs.Outcomes.{setting_of}
use Rattle.ped_rules.specs.ped_flow.specs.PlainBounds.{IsPlain}
use Rattle.ped_rules.proofs.NameLaws.ValuesBut.{AreBeside}

at_least : (a b : ℤ) → int_le a b ≡ true → a ≤ℤ b
at_least a b h = omega (arith, linear, h)

le_is : (a b : ℤ) → a ≤ℤ b → int_le a b ≡ true
le_is a b h = go (int_le a b) refl
  where
    go : (r : Bool) → int_le a b ≡ r → r ≡ true
    go true e = refl
    go false e = absurd (omega (arith, linear, e, h))

lt_is : (a b : ℤ) → a <ℤ b → int_lt a b ≡ true
lt_is a b h = go (int_lt a b) refl
  where
    go : (r : Bool) → int_lt a b ≡ r → r ≡ true
    go true e = refl
    go false e = absurd (omega (arith, linear, e, h))

-- bounds lie in their range, and so does what lies between two
record IsNear (n : ℤ) : Type 0 where
  from : neg_ℤ (pos (2 ^ 62)) ≤ℤ n
  to : n ≤ℤ pos (2 ^ 62)

near : (n : ℤ) → is_bound n ≡ true → IsNear n
near n h =
    let both = and_parts (int_le (neg_ℤ (pos (2 ^ 62))) n) (int_le n (pos (2 ^ 62))) h in
    record { from = at_least (neg_ℤ (pos (2 ^ 62))) n both.0; to = at_least n (pos (2 ^ 62)) both.1 }

bound_between : (a b n : ℤ) → is_bound a ≡ true → is_bound b ≡ true → a ≤ℤ n → n ≤ℤ b → is_bound n ≡ true
bound_between a b n h k low high =
    let one = near a h in
    let two = near b k in
    (λ i. le_is (neg_ℤ (pos (2 ^ 62))) n (let from = one.from in omega (arith, linear, from, low)) i && le_is n (pos (2 ^ 62)) (let to = two.to in omega (arith, linear, to, high)) i)

-- and a little further numbers have 128 bits
in_range_is : (n : ℤ) → neg_ℤ (pos (2 ^ 62)) ≤ℤ n → n ≤ℤ pos (2 ^ 63) → in_range n ≡ Ok n
in_range_is n from to =
    λ i. if le_is (neg_ℤ (pos (2 ^ 127))) n (omega (arith, linear, from)) i && lt_is n (pos (2 ^ 127)) (omega (arith, linear, to)) i then Ok n else Err OutOfRange

pub literal_is : (n : ℕ) → literal (pos n) ≡ Int n
literal_is n = go (is_negative (pos n)) refl
  where
    go : (b : Bool) → is_negative (pos n) ≡ b → (if b then Neg (Int n) else Int n) ≡ Int n
    go true h = let k : int_lt (pos n) (pos 0) ≡ true = h in absurd (omega (arith, ints, k))
    go false h = refl

-- the last value of a whole strip
pub end_is : (K : ℕ) (w : List ℕ) → 2 ≤ K → strip_end (pos K) w ≡ Add (Var w) (Int (K - 1))
end_is K w some =
    ap (λ (z : ℤ). plus_of (Var w) (literal z)) (let e : pos K -ℤ pos 1 ≡ pos (K - 1) = omega (arith, ints, some) in e)
    ∙ ap (plus_of (Var w)) (literal_is (K - 1))
    ∙ ap (λ (b : Bool). if b then Var w else Add (Var w) (Int (K - 1))) (let none : (K - 1 == 0) ≡ false = grind (arith, eqb-true, some) in none)

-- a sum, and the lesser of two
sum_comes : (g : Names) (a : ExprTree) (n : ℕ) (s : Store) (A : List Seen) (u : ℤ) → value g a s ≡ record { seen = A; result = Ok u } → in_range (u +ℤ pos n) ≡ Ok (u +ℤ pos n) → value g (Add a (Int n)) s ≡ record { seen = A ++ []; result = Ok (u +ℤ pos n) }
sum_comes g a n s A u x r = (λ i. binary sum_of (x i) (value g (Int n) s)) ∙ (λ i. record { seen = A ++ []; result = by_number (r i) })

least_comes : (g : Names) (a b : ExprTree) (s : Store) (A B : List Seen) (u v : ℤ) → value g a s ≡ record { seen = A; result = Ok u } → value g b s ≡ record { seen = B; result = Ok v } → in_range (int_min u v) ≡ Ok (int_min u v)
    → value g (Call Min (more_exprs a (more_exprs b no_exprs))) s ≡ record { seen = (A ++ ((B ++ []) ++ [])) ++ []; result = Ok (int_min u v) }
least_comes g a b s A B u v x y r =
    (λ i. (x i >>> λ m. ((y i >>> λ n. (values g no_exprs s >>> λ us. given (Ok (n ∷ us)))) >>> λ us. given (Ok (m ∷ us)))) >>> λ us. given (of_intrinsic (intrinsic_result Min us)))
    ∙ (λ i. record { seen = (A ++ ((B ++ []) ++ [])) ++ []; result = by_number (r i >>= λ c. from_left least_of c []) })

all_four : {X : Type 0} (xs ys : List X) → (xs ++ ((ys ++ []) ++ [])) ++ [] ≡ xs ++ ys
all_four xs ys = append-nil (xs ++ ((ys ++ []) ++ [])) ∙ (λ i. xs ++ (append-nil (ys ++ []) i)) ∙ (λ i. xs ++ append-nil ys i)

-- the new program counts the DO over the strips as the old DO, and the statements in both as the old ones
pub record CountsStrips (p q : Setting) (l : ℕ) (body : StmtTrees) (w : List ℕ) : Type 0 where
  pub constants : q.constants ≡ p.constants
  pub bounds : (y : List ℕ) → is_same_text w y ≡ false → q.bounds y ≡ p.bounds y
  pub outer : q.number l ≡ p.number l
  pub inside : (m : ℕ) → m < statements_count body → q.number (l + 1 + 1 + m) ≡ p.number (l + 1 + m)

-- a DO that isn't parallel and goes through its values one by one, in which the name of the new variable doesn't occur
pub record CanStrip (p : Setting) (d : Head) (body : StmtTrees) (w : List ℕ) : Type 0 where
  pub serial : d.parallel ≡ false
  pub private : d.private ≡ []
  pub step : increment p.constants d ≡ pos 1
  pub absent : is_among w (stmt_names (Do d body)) ≡ false
  pub no_constant : value_named p.constants w ≡ None

text_turned : (x y : List ℕ) → is_same_text y x ≡ false → is_same_text x y ≡ false
text_turned x y h = go (is_same_text x y) refl
  where
    go : (b : Bool) → is_same_text x y ≡ b → b ≡ false
    go true e = absurd (both_ways (is_same_text y x) h (ap (is_same_text y) (same_is x y e) ∙ same_itself y))
    go false e = refl

module _ (K : ℕ) (some : 2 ≤ K) (few : K ≤ 1000) (p q : Setting) (l : ℕ) (d : Head) (body : StmtTrees) (w : List ℕ) (counts : CountsStrips p q l body w) (can : CanStrip p d body w) (scope other : Scope) (beside : AreBeside w scope other) (s : Store) (old : Limits) (come : (limits (names_in p scope) d s).result ≡ Ok old) where
  abbrev h : Head
  h = strips_head (pos K) w d

  abbrev g : Head
  g = strip_head (pos K) w d

  abbrev pub over : Entered
  over = entered_from q (strips_head (pos K) w d) (alone (Do (strip_head (pos K) w d) body)) l other s old

  abbrev pub around : ℕ → Scope
  around a = frame (entered_from q (strips_head (pos K) w d) (alone (Do (strip_head (pos K) w d) body)) l other s old) a ∷ other

  abbrev pub within : ℕ → Limits
  within a = record { first = strip_first K some old.first old.last a; last = strip_last K some old.first old.last a }

  unnamed : UnnamedHead w d
  unnamed = unnamed_head w d (neither w (head_names d) (stmts_names body) can.absent).0

  pub step_is : increment q.constants h ≡ pos K
  step_is = ap (λ (e : ExprTree). unwrap_or (constant_value q.constants e) (pos 1)) (literal_is K)

  pub strips_are : over.count ≡ strips K some old.first old.last
  strips_are = ap (iteration_count old.first old.last) step_is

  pub starts : (a : ℕ) → value_in over a ≡ strip_first K some old.first old.last a
  starts a = ap (λ (n : ℤ). old.first +ℤ pos (a - 1) *ℤ n) step_is

  -- names but the new one stand for the same
  agree : AgreeBut w (names_in p scope) (names_in q other)
  agree = record { constants = counts.constants; bounds = counts.bounds; cell = beside.cell; index = λ y apart. beside.index y }

  agree_within : (a : ℕ) → AgreeBut w (names_in p scope) (names_in q (around a))
  agree_within a = record {
    constants = counts.constants;
    bounds = counts.bounds;
    cell = beside.cell;
    index = λ y apart. ap (λ (b : Bool). if b then Some (value_in over a) else index_value other y) (text_turned y w apart) ∙ beside.index y;
  }

  -- the new outer bounds
  pub outer_limits : limits (names_in q other) h s ≡ limits (names_in p scope) d s
  outer_limits = limits_but w (names_in p scope) (names_in q other) agree s d unnamed.first unnamed.last

  has : HasLimits (names_in p scope) d s old
  has = limits_parted (names_in p scope) d s old come

  module _ (a : ℕ) (from : 1 ≤ a) (to : a ≤ over.count) where
    abbrev n : Names
    n = names_in q (around a)

    strip : IsStrip K some old.first old.last a
    strip = is_strip K some old.first old.last a from (let many = strips_are in omega (arith, to, many))

    abbrev told : List Seen
    told = index_seen (cell_of (around a) w) (value_in over a) ∷ []

    abbrev limit_seen : List Seen
    limit_seen = (value (names_in p scope) d.last s).seen

    first_bound : is_bound (strip_first K some old.first old.last a) ≡ true
    first_bound = bound_between old.first old.last (strip_first K some old.first old.last a) has.first_bound has.last_bound strip.first (let last = strip.last in let end = strip.end in omega (arith, linear, last, end))

    last_bound : is_bound (strip_last K some old.first old.last a) ≡ true
    last_bound = bound_between old.first old.last (strip_last K some old.first old.last a) has.first_bound has.last_bound (let first = strip.first in let last = strip.last in omega (arith, linear, first, last)) strip.end

    no_constant : value_named q.constants w ≡ None
    no_constant = ap (λ (c : List (List ℕ × ℤ)). value_named c w) counts.constants ∙ can.no_constant

    value_first : value n (Var w) s ≡ record { seen = told; result = Ok (value_in over a) }
    value_first =
        (λ i. name_value (no_constant i) n w s)
        ∙ (λ i. variable_value (if same_itself w i then Some (value_in over a) else index_value other w) s (cell_of (around a) w))

    value_end : value n (strip_end (pos K) w) s ≡ record { seen = told; result = Ok (value_in over a +ℤ pos (K - 1)) }
    value_end =
        ap (λ (e : ExprTree). value n e s) (end_is K w some)
        ∙ sum_comes n (Var w) (K - 1) s told (value_in over a) value_first
        (in_range_is (value_in over a +ℤ pos (K - 1)) (further (value_in over a) (starts a) (near old.first has.first_bound)) (not_far (value_in over a) (starts a) (near old.last has.last_bound)))
      where
        further : (v : ℤ) → v ≡ strip_first K some old.first old.last a → IsNear old.first → neg_ℤ (pos (2 ^ 62)) ≤ℤ (v +ℤ pos (K - 1))
        further v is close = let low = close.from in let first = strip.first in omega (arith, linear, is, low, first)

        not_far : (v : ℤ) → v ≡ strip_first K some old.first old.last a → IsNear old.last → (v +ℤ pos (K - 1)) ≤ℤ pos (2 ^ 63)
        not_far v is close = let high = close.to in let last = strip.last in let end = strip.end in omega (arith, linear, is, high, last, end, few)

    value_limit : value n d.last s ≡ record { seen = limit_seen; result = Ok old.last }
    value_limit = value_but w (names_in p scope) n (agree_within a) s d.last unnamed.last ∙ (λ i. record { seen = limit_seen; result = has.last i })

    least_is : int_min (value_in over a +ℤ pos (K - 1)) old.last ≡ strip_last K some old.first old.last a
    least_is = (λ i. int_min (starts a i +ℤ (let e : pos (K - 1) ≡ pos K -ℤ pos 1 = omega (arith, ints, some) in e i)) old.last)

    in_reach : in_range (int_min (value_in over a +ℤ pos (K - 1)) old.last) ≡ Ok (int_min (value_in over a +ℤ pos (K - 1)) old.last)
    in_reach = subst (λ (z : ℤ). in_range z ≡ Ok z) (sym least_is) (let close = near (strip_last K some old.first old.last a) last_bound in in_range_is (strip_last K some old.first old.last a) close.from (let high = close.to in omega (arith, linear, high)))

    value_last : value n g.last s ≡ record { seen = told ++ limit_seen; result = Ok (strip_last K some old.first old.last a) }
    value_last =
        least_comes n (strip_end (pos K) w) d.last s told limit_seen (value_in over a +ℤ pos (K - 1)) old.last value_end value_limit in_reach
        ∙ (λ i. record { seen = all_four told limit_seen i; result = Ok (least_is i) })

    -- the new inner bounds: they read what the old limit has read
    pub inner_limits : limits n g s ≡ record { seen = told ++ (told ++ limit_seen); result = Ok (within a) }
    inner_limits =
        limits_there n g s (strip_first K some old.first old.last a) (strip_last K some old.first old.last a) (ap (λ (e : Evaluated ℤ). e.result) value_first ∙ ap Ok (starts a)) first_bound (ap (λ (e : Evaluated ℤ). e.result) value_last) last_bound
        ∙ (λ i. record { seen = (value_first i).seen ++ (value_last i).seen; result = Ok (within a) })

    pub inner_reads : (c : Cell) (v : Content) → IsIn (cell_seen c v) (bounds_seen q g (around a) s) → IsIn (cell_seen c v) (value (names_in p scope) d.last s).seen
    inner_reads c v i = by (subst (IsIn (cell_seen c v)) (ap (λ (e : Evaluated Limits). e.seen) inner_limits) i)
      where
        by : IsIn (cell_seen c v) (told ++ (told ++ limit_seen)) → IsIn (cell_seen c v) limit_seen
        by (inl e) = absurd cc
        by (inr (inl e)) = absurd cc
        by (inr (inr k)) = k

-- what a step shows of the DO, the size of a strip, and the name of the new variable
pub record IsStripped (t : ProgramTree) (l : ℕ) (loop : LoopOf t l) (K : ℕ) (w : List ℕ) (q : Setting) : Type 0 where
  pub valid : IsValid t
  pub some : 2 ≤ K
  pub few : K ≤ 1000
  pub name : is_name w ≡ true
  pub absent : is_among w (names_of t) ≡ false
  pub counts : CountsStrips (setting_of t) q l loop.body w
  pub can : CanStrip (setting_of t) loop.head loop.body w
  pub contained : IsContained t l
  pub plain : IsPlain (setting_of t).constants t l loop.head.last
