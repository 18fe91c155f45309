-- Numbers along the trace of an expansion: a statement of a unit counts as what it expands to and the arguments that are no statements there.
use Rattle.std.proofs.Common.{◌≡◌, ℕ, suc, ◌+◌, ◌≤◌, ◌<◌, ℤ, List, [], ◌∷◌, ◌++◌, length, Bool, true, false, nat_lt, Option, Some, None, refl, sym, subst, arith, if◌then◌else◌}
use Rattle.std.proofs.lemmas.Bool.{ltb-true, ltb-false}
use Rattle.ped_tree.specs.Numbering.{statement_count, statements_count}
use Rattle.ped_tree.specs.Tree.{ExprTree, StmtTree, StmtTrees, Assign, If, Do, Print, Read, Stop, Comment, no_stmts, more_stmts}
use Rattle.ped_steps.specs.ped_symbols.specs.Values.{Values, fixed_value}
use Rattle.ped_calls.specs.ped_units.specs.Forms.{Called}
use Rattle.ped_calls.specs.ped_units.specs.Units.{call_of}
use Rattle.ped_calls.specs.ped_units.specs.Expanding.{Given, with_new, Meanings, replaced, called_replaced, is_variable_name, Bound, standing, bound_by, bound_arguments, Expanded, AllExpanded, expanded_or, expanded_in, all_expanded_in}
use Rattle.ped_call_runs.specs.UnitRuns.{count_or, sized, all_sized}
use Rattle.ped_call_runs.proofs.EachCalls.{OfCall, EachCall, AllCalls}
use Rattle.ped_call_runs.proofs.RisingNumbers.{passed}
use Rattle.ped_call_runs.proofs.Traces.{Trace, nothing_traced, traced_before, value_traced, arguments_traced, CallTraced, traced_or, traced, all_traced}

-- places that lie behind the first number, and at the second or before it
abbrev pub Lie : ℕ → ℕ → List ℕ → Type 0
Lie lo hi [] = Unit {0}
Lie lo hi (g ∷ gs) = (lo < g) × (g ≤ hi) × Lie lo hi gs

pub lie_wider : (lo hi lower higher : ℕ) (gs : List ℕ) → lower ≤ lo → hi ≤ higher → Lie lo hi gs → Lie lower higher gs
lie_wider lo hi lower higher [] h k l = tt
lie_wider lo hi lower higher (g ∷ gs) h k l = let a = l.0 in let b = l.1 in (omega (arith, h, a), omega (arith, k, b), lie_wider lo hi lower higher gs h k l.2)

pub lie_joined : (lo hi : ℕ) (xs ys : List ℕ) → Lie lo hi xs → Lie lo hi ys → Lie lo hi (xs ++ ys)
lie_joined lo hi [] ys h k = k
lie_joined lo hi (x ∷ xs) ys h k = (h.0, h.1, lie_joined lo hi xs ys h.2 k)

zero_more : (n : ℕ) → n ≡ 0 + n
zero_more n = omega (arith)

one_longer : (a b c : ℕ) → a ≡ b + c → suc a ≡ suc b + c
one_longer a b c h = omega (arith, h)

one_behind : (a b c : ℕ) → a ≡ b + c → suc a ≡ b + suc c
one_behind a b c h = omega (arith, h)

at_most : (j n : ℕ) → j ≤ j + n
at_most j n = omega (arith)

sums : (a b c d x y z : ℕ) → a ≡ c + x → b ≡ d + y → z ≡ x + y → a + b ≡ c + d + z
sums a b c d x y z h k l = omega (arith, h, k, l)

pub length_joined : (xs ys : List ℕ) → length (xs ++ ys) ≡ length xs + length ys
length_joined [] ys = zero_more (length ys)
length_joined (x ∷ xs) ys = one_longer (length (xs ++ ys)) (length xs) (length ys) (length_joined xs ys)

pub passed_joined : (xs ys : List ℕ) (j : ℕ) → passed (xs ++ ys) j ≡ passed xs j + passed ys j
passed_joined [] ys j = zero_more (passed ys j)
passed_joined (x ∷ xs) ys j = go (if nat_lt j x then 0 else 1) (passed_joined xs ys j)
  where
    go : (a : ℕ) → passed (xs ++ ys) j ≡ passed xs j + passed ys j → a + passed (xs ++ ys) j ≡ a + passed xs j + passed ys j
    go a r = omega (arith, r)

-- all places that lie before are passed, and none that lies behind
pub passed_all : (lo hi j : ℕ) (gs : List ℕ) → Lie lo hi gs → hi ≤ j → passed gs j ≡ length gs
passed_all lo hi j [] h k = refl
passed_all lo hi j (g ∷ gs) h k = go (nat_lt j g) refl (passed_all lo hi j gs h.2 k)
  where
    go : (t : Bool) → nat_lt j g ≡ t → passed gs j ≡ length gs → (if t then 0 else 1) + passed gs j ≡ suc (length gs)
    go true e r = let a = ltb-true j g e in let b = h.1 in absurd (omega (arith, a, b, k))
    go false e r = let s : 1 + passed gs j ≡ suc (length gs) = omega (arith, r) in s

pub passed_none : (lo hi j : ℕ) (gs : List ℕ) → Lie lo hi gs → j ≤ lo → passed gs j ≡ 0
passed_none lo hi j [] h k = refl
passed_none lo hi j (g ∷ gs) h k = go (nat_lt j g) refl (passed_none lo hi j gs h.2 k)
  where
    go : (t : Bool) → nat_lt j g ≡ t → passed gs j ≡ 0 → (if t then 0 else 1) + passed gs j ≡ 0
    go true e r = let s : 0 + passed gs j ≡ 0 = omega (arith, r) in s
    go false e r = let a = ltb-false j g e in let b = h.0 in absurd (omega (arith, a, b, k))

-- a piece of a unit counts as its expansion and its gaps, and these lie in the expansion, which begins at this number
pub record IsCounted (j size count : ℕ) (t : Trace) : Type 0 where
  pub sizes : size ≡ count + length t.gaps
  pub range : Lie j (j + count) t.gaps

pub joined_counted : (j a b c d : ℕ) (s t : Trace) → IsCounted j a c s → IsCounted (j + c) b d t → IsCounted j (a + b) (c + d) (traced_before s t)
joined_counted j a b c d s t h k = record {
  sizes = sums a b c d (length s.gaps) (length t.gaps) (length (s.gaps ++ t.gaps)) h.sizes k.sizes (length_joined s.gaps t.gaps);
  range = lie_joined j (j + (c + d)) s.gaps t.gaps (lie_wider j (j + c) j (j + (c + d)) s.gaps (omega (arith)) (omega (arith)) h.range) (lie_wider (j + c) (j + c + d) j (j + (c + d)) t.gaps (omega (arith)) (omega (arith)) k.range);
}

one_before : (a c x : ℕ) → a ≡ c + x → 1 + a ≡ c + 1 + x
one_before a c x h = omega (arith, h)

two_before : (a b c d x : ℕ) → a + b ≡ c + d + x → 1 + a + b ≡ c + d + 1 + x
two_before a b c d x h = omega (arith, h)

-- with one statement before it
one_more : (j a c : ℕ) (t : Trace) → IsCounted (j + 1) a c t → IsCounted j (1 + a) (c + 1) t
one_more j a c t h = record {
  sizes = one_before a c (length t.gaps) h.sizes;
  range = lie_wider (j + 1) (j + 1 + c) j (j + (c + 1)) t.gaps (omega (arith)) (omega (arith)) h.range;
}

one_more_of_two : (j a b c d : ℕ) (s t : Trace) → IsCounted (j + 1) (a + b) (c + d) (traced_before s t) → IsCounted j (1 + a + b) (c + d + 1) (traced_before s t)
one_more_of_two j a b c d s t h = record {
  sizes = two_before a b c d (length (s.gaps ++ t.gaps)) h.sizes;
  range = lie_wider (j + 1) (j + 1 + (c + d)) j (j + (c + d + 1)) (s.gaps ++ t.gaps) (omega (arith)) (omega (arith)) h.range;
}

module _ (k : Meanings) (size : Called → ℕ) (inner : Called → Given → Expanded Given) (call : CallTraced) (fits : Called → Type 0) where
  -- CALLs count as their blocks and their gaps
  abbrev pub CallsCount : Type 0
  CallsCount = (c : Called) → fits c → (n j : ℕ) (g : Given) → IsCounted j (size c) (statement_count (inner (called_replaced k c) g).statement) (call c n j g)

  plain : (j : ℕ) → IsCounted j 1 1 nothing_traced
  plain j = record { sizes = refl; range = tt }

  assign_counted : CallsCount → (t : StmtTree) (n j : ℕ) (g : Given) (o : Option Called) → OfCall fits o → statement_count t ≡ 1
      → IsCounted j (count_or size o) (statement_count (expanded_or k inner t g o).statement) (traced_or call n j g o)
  assign_counted calls t n j g None h one = subst (λ (m : ℕ). IsCounted j 1 m nothing_traced) (sym one) (plain j)
  assign_counted calls t n j g (Some c) h one = calls c h n j g

  mutual
    pub counted : CallsCount → (t : StmtTree) (n j : ℕ) (g : Given) → EachCall fits t → IsCounted j (sized size t) (statement_count (expanded_in k inner t g).statement) (traced k size inner call t n j g)
    counted calls (Assign left right) n j g h = assign_counted calls (Assign (replaced k left) (replaced k right)) n j g (call_of left right) h refl
    counted calls (If c x y) n j g h =
        let made : AllExpanded Given = all_expanded_in k inner x g in
        let other : AllExpanded Given = all_expanded_in k inner y made.state in
        one_more_of_two j (all_sized size x) (all_sized size y) (statements_count made.statements) (statements_count other.statements)
        (all_traced k size inner call x (n + 1) (j + 1) g) (all_traced k size inner call y (n + 1 + all_sized size x) (j + 1 + statements_count made.statements) made.state)
        (joined_counted (j + 1) (all_sized size x) (all_sized size y) (statements_count made.statements) (statements_count other.statements)
        (all_traced k size inner call x (n + 1) (j + 1) g) (all_traced k size inner call y (n + 1 + all_sized size x) (j + 1 + statements_count made.statements) made.state)
        (all_counted calls x (n + 1) (j + 1) g h.0) (all_counted calls y (n + 1 + all_sized size x) (j + 1 + statements_count made.statements) made.state h.1))
    counted calls (Do head body) n j g h =
        one_more j (all_sized size body) (statements_count (all_expanded_in k inner body g).statements) (all_traced k size inner call body (n + 1) (j + 1) g) (all_counted calls body (n + 1) (j + 1) g h)
    counted calls (Print items) n j g h = plain j
    counted calls (Read items) n j g h = plain j
    counted calls Stop n j g h = plain j
    counted calls (Comment text) n j g h = record { sizes = refl; range = tt }

    pub all_counted : CallsCount → (ts : StmtTrees) (n j : ℕ) (g : Given) → AllCalls fits ts → IsCounted j (all_sized size ts) (statements_count (all_expanded_in k inner ts g).statements) (all_traced k size inner call ts n j g)
    all_counted calls no_stmts n j g h = record { sizes = refl; range = tt }
    all_counted calls (more_stmts t rest) n j g h =
        let made : Expanded Given = expanded_in k inner t g in
        joined_counted j (sized size t) (all_sized size rest) (statement_count made.statement) (statements_count (all_expanded_in k inner rest made.state).statements)
        (traced k size inner call t n j g) (all_traced k size inner call rest (n + sized size t) (j + statement_count made.statement) made.state)
        (counted calls t n j g h.0) (all_counted calls rest (n + sized size t) (j + statement_count made.statement) made.state h.1)

pub none_first : (n : ℕ) → suc n ≡ 0 → ⊥
none_first n h = omega (arith, h)

pub one_less : (a b : ℕ) → suc a ≡ suc b → a ≡ b
one_less a b h = omega (arith, h)

-- the arguments of a CALL, as many as its subroutine has dummy arguments: each is an assignment or a gap, behind the number i and before the statements that follow
pub record AreCounted (i j many : ℕ) (b : Bound) (t : Trace) : Type 0 where
  pub sizes : many ≡ length b.assignments + length t.gaps
  pub range : Lie i (j + length b.assignments) t.gaps

pub arguments_counted : (constants : Values) (n i : ℕ) (xs : List (List ℕ)) (es : List ExprTree) → length es ≡ length xs → (j : ℕ) → i < j → (g : Given)
    → AreCounted i j (length es) (bound_arguments constants es g) (arguments_traced constants n xs es j g)
arguments_counted constants n i [] [] same j less g = record { sizes = refl; range = tt }
arguments_counted constants n i [] (e ∷ es) same j less g = absurd (none_first (length es) same)
arguments_counted constants n i (x ∷ xs) [] same j less g = absurd (none_first (length xs) (sym same))
arguments_counted constants n i (x ∷ xs) (e ∷ es) same j less g = go (is_variable_name constants e) (fixed_value constants e) (arguments_counted constants n i xs es (one_less (length es) (length xs) same))
  where
    go : (u : Bool) (o : Option ℤ) → ((j : ℕ) → i < j → (g : Given) → AreCounted i j (length es) (bound_arguments constants es g) (arguments_traced constants n xs es j g))
        → AreCounted i j (suc (length es)) (if u then standing e (bound_arguments constants es g) else bound_by o e g (bound_arguments constants es))
        (if u then record (arguments_traced constants n xs es j g) { gaps = j ∷ (arguments_traced constants n xs es j g).gaps } else value_traced o n x j g (arguments_traced constants n xs es))
    go true o more = record {
      sizes = one_behind (length es) (length (bound_arguments constants es g).assignments) (length (arguments_traced constants n xs es j g).gaps) (more j less g).sizes;
      range = (less, at_most j (length (bound_arguments constants es g).assignments), (more j less g).range);
    }
    go false (Some v) more = record {
      sizes = one_behind (length es) (length (bound_arguments constants es g).assignments) (length (arguments_traced constants n xs es j g).gaps) (more j less g).sizes;
      range = (less, at_most j (length (bound_arguments constants es g).assignments), (more j less g).range);
    }
    go false None more =
        let r = more (j + 1) (omega (arith, less)) (with_new g) in
        let made : ℕ = length (bound_arguments constants es (with_new g)).assignments in
        record {
          sizes = one_longer (length es) made (length (arguments_traced constants n xs es (j + 1) (with_new g)).gaps) r.sizes;
          range = lie_wider i (j + 1 + made) i (j + suc made) (arguments_traced constants n xs es (j + 1) (with_new g)).gaps (omega (arith)) (omega (arith)) r.range;
        }
