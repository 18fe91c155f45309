-- The arguments of a CALL and the assignments in its block stand alike; what stands for each dummy argument on both sides.
use Rattle.std.proofs.Common.{◌≡◌, ℕ, suc, ◌+◌, ◌≤◌, ◌<◌, ◌^◌, ℤ, pos, negsuc, neg_ℤ, ◌-ℤ◌, int_le, List, [], ◌∷◌, ◌++◌, map, length, nat_le, unsigned_abs, not, is_some, Bool, true, false, ◌&&◌, ◌||◌, Option, Some, None, IfSome, refl, sym, ap, ◌∙◌, subst, ◌⊎◌, inl, inr, arith, if◌then◌else◌}
use Rattle.std.proofs.lemmas.Bool.{or_parts, both_ways}
use Rattle.std.proofs.lemmas.Int.{ints}
use Rattle.ped_base.specs.Lists.{is_same_text, is_among}
use Rattle.ped_base.proofs.NameEquality.{same_is, same_itself, same_flip}
use Rattle.ped_tree.specs.Accesses.{listed}
use Rattle.ped_tree.specs.Constants.ConstantExpressions.{constant_value}
use Rattle.ped_tree.specs.Constants.NamedConstants.{value_named}
use Rattle.ped_tree.specs.Grammar.LimitNumbers.{greatest_literal}
use Rattle.ped_tree.specs.NamesIn.{expr_names, exprs_names, stmts_names}
use Rattle.ped_tree.specs.Tree.{ExprTree, ExprTrees, Int, Var, Element, Neg, Add, Sub, Mul, Div, Pow, Call, no_exprs, more_exprs, StmtTree, StmtTrees, Assign, ProgramTree}
use Rattle.ped_steps.specs.ped_symbolic.specs.Arithmetic.{literal}
use Rattle.ped_steps.specs.ped_symbols.specs.Kinds.{kind_in}
use Rattle.ped_steps.specs.ped_symbols.specs.NameRefusals.{has_twice}
use Rattle.ped_steps.specs.ped_symbols.specs.Values.{Values, within, fixed_value}
use Rattle.ped_calls.specs.Giving.{IsSmall}
use Rattle.ped_calls.specs.ped_units.specs.Forms.{Called}
use Rattle.ped_calls.specs.ped_units.specs.Units.{ProgramUnit, ProgramUnits}
use Rattle.ped_calls.specs.ped_units.specs.Linking.{IsIn, Association, associations, associated, IsLinked}
use Rattle.ped_calls.specs.ped_units.specs.Expanding.{Given, free_name, with_new, declared_as, Meanings, meaning, replaced, all_replaced, is_variable_name, Bound, standing, bound_by, bound_arguments, constants_of, behind_stmts, nothing_given}
use Rattle.ped_calls.proofs.SmallKinds.{small_fixed}
use Rattle.ped_steps.specs.ped_store.specs.Stores.{is_storable}
use Rattle.ped_steps.specs.ped_eval.specs.Outcomes.{bounds_of}
use Rattle.ped_steps.specs.ped_eval.specs.Scopes.{Setting}
use Rattle.ped_call_runs.specs.UnitRuns.{own, Instance, formals_stand}
use Rattle.ped_call_runs.proofs.EachNames.{Each, each_front, each_behind, each_two}
use Rattle.ped_call_runs.proofs.FollowingStores.{Bond, tight, loose, held, free, is_bound}
use Rattle.ped_call_runs.proofs.FollowingNames.{MeansAlike, by_name, by_constant, by_held, NamedAlike}
use Rattle.ped_call_runs.proofs.FollowingCalls.{knowing, ArgumentsAlike}
use Rattle.ped_call_runs.proofs.ConstantValues.{HasSome, each_valued}
use Rattle.ped_call_runs.proofs.GivenMore.{GivesMore, gives_then, gives_new, arguments_give}
use Rattle.ped_call_runs.proofs.Traces.{Trace, gap_before, value_traced, arguments_traced, first_bond}
use Rattle.ped_call_runs.proofs.TraceNumbers.{Lie, lie_wider, lie_joined, IsCounted, none_first, one_less, AreCounted, arguments_counted}
use Rattle.ped_call_runs.proofs.TraceCalls.{as_many}
use Rattle.ped_call_runs.proofs.PlacedNumbers.{IsPlaced, placed_gap, placed_next}
use Rattle.ped_call_runs.proofs.OwnNames.{firsts}
use Rattle.ped_call_runs.proofs.TraceOwn.{own_same, arguments_outside}
use Rattle.ped_call_runs.proofs.RenamedEntries.{HasPair, pair_first}
use Rattle.ped_call_runs.proofs.WrittenNames.{IsName}
use Rattle.ped_call_runs.proofs.EachElements.{EachElement, AllElements, elements_two}
use Rattle.ped_call_runs.proofs.UnitNames.{IsPlain}
use Rattle.ped_call_runs.proofs.UnitArrays.{IsArray}
use Rattle.ped_call_runs.proofs.SuitedUnits.{Reads}
use Rattle.ped_call_runs.proofs.Contexts.{WrittenName, written_in, Context, Telling}

-- what is known of the whole expansion
pub record Facts (us : ProgramUnits) (pairs : List (List ℕ × List ℕ)) (gaps : List ℕ) (top : Given) (f : List ℕ → List ℕ) (q : Setting) : Type 0 where
  pub linked : IsLinked us
  pub twice : (x : List ℕ) → f (f x) ≡ x
  pub paired : (x y : List ℕ) → HasPair x y pairs → f x ≡ y
  pub number : (n j size count : ℕ) (t : Trace) → IsPlaced gaps n j count t.gaps → IsCounted j size count t → q.number j ≡ n
  pub valued : (g h : Given) → GivesMore (nothing_given us) g → GivesMore h top → h.taken ≡ g.taken ++ free_name g.taken ∷ [] → IsName (free_name g.taken) → value_named q.constants (free_name g.taken) ≡ None
  pub local : (g h : Given) → GivesMore (nothing_given us) g → GivesMore h top → h.taken ≡ g.taken ++ free_name g.taken ∷ [] → IsName (free_name g.taken) → (t : ProgramTree) (x : List ℕ) → h.arrays ≡ g.arrays ++ declared_as (free_name g.taken) (kind_in t x)
      → q.bounds (free_name g.taken) ≡ bounds_of (kind_in t x)

-- what is known of a name of a CALL's own at first
mapped_firsts : (ps : List (List ℕ × List ℕ)) → map (λ p. p.0) ps ≡ firsts ps
mapped_firsts [] = refl
mapped_firsts (p ∷ ps) = ap (λ (xs : List (List ℕ)). p.0 ∷ xs) (mapped_firsts ps)

first_of_own : (pairs : List (List ℕ × List ℕ)) (n : ℕ) (x : List ℕ) (t : Bool) → is_among (own n x) (firsts pairs) ≡ t → first_bond pairs (own n x) ≡ (if t then loose else free)
first_of_own pairs n x t h = ap (λ (u : Bool). if u then loose else free) (ap (is_among (own n x)) (mapped_firsts pairs) ∙ h)

pub own_loose : (pairs : List (List ℕ × List ℕ)) (n : ℕ) (x y : List ℕ) → HasPair (own n x) y pairs → first_bond pairs (own n x) ≡ loose
own_loose pairs n x y h = first_of_own pairs n x true (pair_first (own n x) y pairs h)

pub own_free : (pairs : List (List ℕ × List ℕ)) (n : ℕ) (x : List ℕ) → is_among (own n x) (firsts pairs) ≡ false → first_bond pairs (own n x) ≡ free
own_free pairs n x h = first_of_own pairs n x false h

-- what is known of names in one way is known in another
abbrev pub KeepsBonds : (List ℕ → Bond) → (List ℕ → Bond) → Type 0
KeepsBonds b c = (y : List ℕ) → (b y ≡ free → ⊥) → c y ≡ b y

bound_some : (b : Bond) → is_bound b ≡ true → b ≡ free → ⊥
bound_some tight h e = absurd cc
bound_some loose h e = absurd cc
bound_some (held n) h e = absurd cc
bound_some free h e = absurd cc

held_some : (b : Bond) (n : ℤ) → b ≡ held n → b ≡ free → ⊥
held_some b n h e = let z : held n ≡ free = sym h ∙ e in absurd cc

pub bound_kept : (b c : List ℕ → Bond) → KeepsBonds b c → (y : List ℕ) → is_bound (b y) ≡ true → is_bound (c y) ≡ true
bound_kept b c keeps y h = ap is_bound (keeps y (bound_some (b y) h)) ∙ h

pub held_kept : (b c : List ℕ → Bond) → KeepsBonds b c → (y : List ℕ) (n : ℤ) → b y ≡ held n → c y ≡ held n
held_kept b c keeps y n h = keeps y (held_some (b y) n h) ∙ h

pub means_kept : (b c : List ℕ → Bond) → KeepsBonds b c → (f : List ℕ → List ℕ) (p q : Setting) (m k : Meanings) (x : List ℕ) → MeansAlike b f p q m k x → MeansAlike c f p q m k x
means_kept b c keeps f p q m k x (by_name y u v d h) = by_name y u v d (bound_kept b c keeps y h)
means_kept b c keeps f p q m k x (by_constant y n u v r d) = by_constant y n u v r d
means_kept b c keeps f p q m k x (by_held y n u v r d h) = by_held y n u v r d (held_kept b c keeps y n h)

-- a number becomes known of a name of which nothing was known
knowing_keeps : (b : List ℕ → Bond) (x : List ℕ) (n : ℤ) → b x ≡ free → KeepsBonds b (knowing x n b)
knowing_keeps b x n nothing y h = go (is_same_text y x) refl
  where
    go : (t : Bool) → is_same_text y x ≡ t → (if t then held n else b y) ≡ b y
    go false e = refl
    go true e = absurd (h (ap b (same_is y x e) ∙ nothing))

keeps_then : (b c d : List ℕ → Bond) → KeepsBonds b c → KeepsBonds c d → KeepsBonds b d
keeps_then b c d h k y some = k y (λ e. some (sym (h y some) ∙ e)) ∙ h y some

pub named_kept : (b c : List ℕ → Bond) → KeepsBonds b c → (f : List ℕ → List ℕ) (p q : Setting) (m k : Meanings) (x : List ℕ) → NamedAlike b f p q m k x → NamedAlike c f p q m k x
named_kept b c keeps f p q m k x a = record { name = a.name; left = a.left; right = a.right; bounds = a.bounds; bound = bound_kept b c keeps a.name a.bound }

holds : (b : Bool) → (b ≡ false → ⊥) → b ≡ true
holds true n = refl
holds false n = absurd (n refl)

-- a scalar can hold a small number
small_storable : (n : ℤ) → IsSmall n → is_storable n ≡ true
small_storable (pos m) h =
    let small : m ≤ 2147483647 = h in
    let from : int_le (neg_ℤ (pos (2 ^ 31))) (pos m) ≡ true = holds (int_le (neg_ℤ (pos (2 ^ 31))) (pos m)) (λ e. omega (arith, ints, e)) in
    let to : int_le (pos m) (pos (2 ^ 31) -ℤ pos 1) ≡ true = holds (int_le (pos m) (pos (2 ^ 31) -ℤ pos 1)) (λ e. omega (arith, ints, small, e)) in
    λ i. from i && to i
small_storable (negsuc m) h =
    let small : suc m ≤ 2147483647 = h in
    let from : int_le (neg_ℤ (pos (2 ^ 31))) (negsuc m) ≡ true = holds (int_le (neg_ℤ (pos (2 ^ 31))) (negsuc m)) (λ e. omega (arith, ints, small, e)) in
    let to : int_le (negsuc m) (pos (2 ^ 31) -ℤ pos 1) ≡ true = holds (int_le (negsuc m) (pos (2 ^ 31) -ℤ pos 1)) (λ e. omega (arith, ints, e)) in
    λ i. from i && to i

one_less_than : (j : ℕ) → j < j + 1
one_less_than j = omega (arith)

-- the value of an expression that has a fixed one
pub within_is : (o : Option ℤ) (n : ℤ) → within o ≡ Some n → o ≡ Some n
within_is None n h = h
within_is (Some m) n h = choice (nat_le (unsigned_abs m) greatest_literal) h
  where
    choice : (t : Bool) → (if t then Some m else None) ≡ Some n → Some m ≡ Some n
    choice true e = e
    choice false e = absurd cc

pub fixed_constant : (values : Values) (e : ExprTree) (n : ℤ) → fixed_value values e ≡ Some n → constant_value values e ≡ Some n
fixed_constant values e n = within_is (constant_value values e) n

abbrev number_or : ℤ → Option ℤ → ℤ
number_or m None = m
number_or m (Some n) = n

pub same_number : (m n : ℤ) → Some m ≡ Some n → m ≡ n
same_number m n h = ap (number_or m) h

-- the name of a variable
pub variable_named : (constants : Values) (a : ExprTree) → is_variable_name constants a ≡ true → (z : List ℕ) × (a ≡ Var z) × (value_named constants z ≡ None)
variable_named constants (Int n) h = absurd cc
variable_named constants (Var x) h = (x, refl, go (value_named constants x) h)
  where
    go : (o : Option ℤ) → not (is_some o) ≡ true → o ≡ None
    go None e = refl
    go (Some n) e = absurd cc
variable_named constants (Element x es) h = absurd cc
variable_named constants (Neg a) h = absurd cc
variable_named constants (Add a b) h = absurd cc
variable_named constants (Sub a b) h = absurd cc
variable_named constants (Mul a b) h = absurd cc
variable_named constants (Div a b) h = absurd cc
variable_named constants (Pow a b) h = absurd cc
variable_named constants (Call f es) h = absurd cc

-- something holds for each dummy argument, its argument, and what stands for it on both sides
abbrev pub EachFormal : (List ℕ → ExprTree → ExprTree → ExprTree → Type 0) → List (List ℕ) → List ExprTree → List ExprTree → List ExprTree → Type 0
EachFormal P [] arguments ls rs = Unit {0}
EachFormal P (x ∷ xs) (a ∷ rest) (l ∷ ls) (r ∷ rs) = P x a l r × EachFormal P xs rest ls rs
EachFormal P (x ∷ xs) [] ls rs = ⊥
EachFormal P (x ∷ xs) (a ∷ rest) [] rs = ⊥
EachFormal P (x ∷ xs) (a ∷ rest) (l ∷ ls) [] = ⊥

module _ (us : ProgramUnits) (pairs : List (List ℕ × List ℕ)) (gaps : List ℕ) (top : Given) (f : List ℕ → List ℕ) (q : Setting) (facts : Facts us pairs gaps top f q)
    (u : ProgramUnit) (lo : ℕ) (first : List ℕ → Bond) (k : Meanings) (i : Instance) (context : Context us pairs gaps top f q u lo first k i) (constants : Values) (telling : Telling us pairs gaps top f q u k constants)
    (v : ProgramUnit) (c : Called) (n : ℕ) (body : StmtTrees) where
  -- a dummy argument stands alike on both sides: for a variable of the caller; for a number that is known; for a variable of the CALL's own and a new name
  pub data FormalAlike (after : List ℕ → Bond) (x : List ℕ) (a l r : ExprTree) : Type 0 where
    variable : (z : List ℕ) → a ≡ Var z → Reads us u z → IsPlain u z → l ≡ meaning i.stands z → r ≡ meaning k z → FormalAlike after x a l r
    known : (w : ℤ) → is_variable_name (constants_of u) a ≡ false → l ≡ Var (own n x) → r ≡ literal w → IsSmall w → after (own n x) ≡ held w → FormalAlike after x a l r
    made : (y : List ℕ) → is_variable_name (constants_of u) a ≡ false → l ≡ Var (own n x) → r ≡ Var y → f (own n x) ≡ y → is_bound (after (own n x)) ≡ true → value_named q.constants y ≡ None → FormalAlike after x a l r

  -- and is associated with its argument
  pub record FormalStands (after : List ℕ → Bond) (x : List ℕ) (a l r : ExprTree) : Type 0 where
    pub associated : IsIn (record { formal = x; argument = a }) (associated v c)
    pub alike : FormalAlike after x a l r

  -- dummy arguments, arguments, of which the first has number m in the unit, assignments, of which the first has number j in the expansion, and what stands for the dummy arguments
  pub record ArgumentsStand (m j : ℕ) (b : List ℕ → Bond) (xs : List (List ℕ)) (es : List ExprTree) (assignments : List StmtTree) (meant : List ExprTree) : Type 0 where
    pub after : List ℕ → Bond
    pub alike : ArgumentsAlike f q k i n m j b xs es assignments after
    pub formals : EachFormal (FormalStands after) xs es (formals_stand i n xs es) meant
    pub keeps : KeepsBonds b after
    pub others : (y : List ℕ) → ((x : List ℕ) → is_among x xs ≡ true → is_same_text y (own n x) ≡ false) → after y ≡ b y

  -- what is asked of the arguments that are left
  pub record Conditions (m j : ℕ) (xs : List (List ℕ)) (b : List ℕ → Bond) (t : Trace) (bound : Bound) (g : Given) : Type 0 where
    pub positive : 0 < j
    pub further : ℕ
    pub further_gaps : List ℕ
    pub placed : IsPlaced gaps m j (length bound.assignments + further) (t.gaps ++ further_gaps)
    pub range : Lie (j + length bound.assignments) (j + length bound.assignments + further) further_gaps
    pub keeps : KeepsBonds first b
    pub unknown : (x : List ℕ) → is_among x xs ≡ true → b (own n x) ≡ first_bond pairs (own n x)
    pub inside : (x y : List ℕ) → IsName y → HasPair x y t.pairs → HasPair x y pairs
    pub only : (x : List ℕ) → is_among x xs ≡ true → is_among (own n x) (firsts pairs) ≡ true → is_among (own n x) (firsts t.pairs) ≡ true
    pub names : Each IsName (stmts_names (behind_stmts bound.assignments body))
    pub before : GivesMore (nothing_given us) g
    pub later : GivesMore bound.given top

  abbrev bounds : ExprTrees → Given → Bound
  bounds es g = bound_arguments constants (listed (all_replaced k es)) g

  abbrev traces : List (List ℕ) → ExprTrees → ℕ → Given → Trace
  traces xs es j g = arguments_traced constants n xs (listed (all_replaced k es)) j g

  abbrev Claim : List (List ℕ) → ExprTrees → Type 0
  Claim xs es = (b : List ℕ → Bond) (m j : ℕ) (g : Given) → Conditions m j xs b (traces xs es j g) (bounds es g) g → ArgumentsStand m j b xs (listed es) (bounds es g).assignments (bounds es g).meant

  -- the names of an argument
  means_by : (b : List ℕ → Bond) → KeepsBonds first b → (a : ExprTree) → Each (Reads us u) (expr_names a) → Each (WrittenName k) (expr_names a) → Each (MeansAlike b f i.setting q i.stands k) (expr_names a)
  means_by b keeps a reads written =
      each_two (Reads us u) (WrittenName k) (MeansAlike b f i.setting q i.stands k) (expr_names a)
      (λ x r w. means_kept first b keeps f i.setting q i.stands k x (context.reads x r w)) reads written

  -- the elements of an argument
  elements_by : (b : List ℕ → Bond) → KeepsBonds first b → (a : ExprTree) → EachElement (IsArray u) a → Each (Reads us u) (expr_names a) → Each (WrittenName k) (expr_names a) → EachElement (NamedAlike b f i.setting q i.stands k) a
  elements_by b keeps a has reads written =
      elements_two (IsArray u) (λ x. Reads us u x × WrittenName k x) (NamedAlike b f i.setting q i.stands k)
      (λ x h w. named_kept first b keeps f i.setting q i.stands k x (context.arrays x w.0 h w.1)) a has
      (each_two (Reads us u) (WrittenName k) (λ x. Reads us u x × WrittenName k x) (expr_names a) (λ x r w. (r, w)) reads written)

  -- names of a constant expression are none of a CALL's own
  constant_written : (a : ExprTree) (w : ℤ) → constant_value constants (replaced k a) ≡ Some w → Each (WrittenName k) (expr_names a)
  constant_written a w e = go (expr_names a) (each_valued constants k a w e)
    where
      go : (xs : List (List ℕ)) → Each (λ x. HasSome (constant_value constants (meaning k x))) xs → Each (WrittenName k) xs
      go [] h = tt
      go (x ∷ xs) h = ((λ y is. telling.unowned y h.0.0 (ap (constant_value constants) (sym is) ∙ h.0.1)), go xs h.1)

  either : (t : Bool) → t || true ≡ true
  either true = refl
  either false = refl

  later_among : (x z : List ℕ) (xs : List (List ℕ)) → is_among z xs ≡ true → is_among z (x ∷ xs) ≡ true
  later_among x z xs h = ap (λ (t : Bool). is_same_text z x || t) h ∙ either (is_same_text z x)

  first_among : (x : List ℕ) (xs : List (List ℕ)) → is_among x (x ∷ xs) ≡ true
  first_among x xs = ap (λ (t : Bool). t || is_among x xs) (same_itself x)

  -- another dummy argument is another name
  apart_from : (x z : List ℕ) (xs : List (List ℕ)) → is_among x xs ≡ false → is_among z xs ≡ true → is_same_text z x ≡ false
  apart_from x z xs h l = go (is_same_text z x) refl
    where
      go : (t : Bool) → is_same_text z x ≡ t → t ≡ false
      go false e = refl
      go true e = absurd (both_ways (is_among x xs) h (ap (λ (y : List ℕ). is_among y xs) (sym (same_is z x e)) ∙ l))

  module _ (x : List ℕ) (xs : List (List ℕ)) (a : ExprTree) (rest : ExprTrees) (same : length (listed rest) ≡ length xs) (outside : is_among x xs ≡ false) (reads : Each (Reads us u) (expr_names a)) (has : EachElement (IsArray u) a) (associates : IsIn (record { formal = x; argument = a }) (associated v c))
      (more : Claim xs rest) where
    abbrev e : ExprTree
    e = replaced k a

    abbrev bound_so : Bool → Option ℤ → Given → Bound
    bound_so t o g = if t then standing e (bounds rest g) else bound_by o e g (bounds rest)

    abbrev traced_so : Bool → Option ℤ → ℕ → Given → Trace
    traced_so t o j g = if t then gap_before j (traces xs rest j g) else value_traced o n x j g (traces xs rest)

    no_variable : is_variable_name i.constants a ≡ false → is_variable_name (constants_of u) a ≡ false
    no_variable h = ap (λ (cs : Values). is_variable_name cs a) (sym context.constants) ∙ h

    -- an argument that is a variable's name
    by_variable : (b : List ℕ → Bond) (m j : ℕ) (g : Given) (r : ExprTree) → is_variable_name i.constants a ≡ true → r ≡ e → Conditions (m + 1) j (x ∷ xs) b (traces xs rest j g) (bounds rest g) g
        → ArgumentsStand m j b (x ∷ xs) (a ∷ listed rest) (bounds rest g).assignments (r ∷ (bounds rest g).meant)
    by_variable b m j g r h is conditions =
        let s = more b (m + 1) j g (record {
          positive = conditions.positive;
          further = conditions.further;
          further_gaps = conditions.further_gaps;
          placed = conditions.placed;
          range = conditions.range;
          keeps = conditions.keeps;
          unknown = λ z l. conditions.unknown z (later_among x z xs l);
          inside = conditions.inside;
          only = λ z l. conditions.only z (later_among x z xs l);
          names = conditions.names;
          before = conditions.before;
          later = conditions.later;
        }) in
        let named = variable_named (constants_of u) a (ap (λ (cs : Values). is_variable_name cs a) (sym context.constants) ∙ h) in
        record {
          after = s.after;
          alike = inl (h, s.alike);
          formals = subst (λ (t : Bool). EachFormal (FormalStands s.after) (x ∷ xs) (a ∷ listed rest) ((if t then replaced i.stands a else Var (own n x)) ∷ formals_stand i n xs (listed rest)) (r ∷ (bounds rest g).meant)) (sym h) (
            record {
              associated = associates;
              alike = variable named.0 named.1 (subst (λ (z : ExprTree). Each (Reads us u) (expr_names z)) named.1 reads).0 named.2 (ap (replaced i.stands) named.1) (is ∙ ap (replaced k) named.1);
            },
            s.formals,
          );
          keeps = s.keeps;
          others = λ y l. s.others y (λ z m. l z (later_among x z xs m));
        }

    -- one with a value that is known
    by_number : (b : List ℕ → Bond) (m j : ℕ) (g : Given) (w : ℤ) → is_variable_name i.constants a ≡ false → fixed_value constants e ≡ Some w → Conditions (m + 1) j (x ∷ xs) b (traces xs rest j g) (bounds rest g) g
        → ArgumentsStand m j b (x ∷ xs) (a ∷ listed rest) (bounds rest g).assignments (literal w ∷ (bounds rest g).meant)
    by_number b m j g w h fixed conditions =
        let value = fixed_constant constants e w fixed in
        let nothing : b (own n x) ≡ free = conditions.unknown x (first_among x xs) ∙ own_free pairs n x (unpaired (is_among (own n x) (firsts pairs)) refl) in
        let small : IsSmall w = subst (λ (o : Option ℤ). IfSome o IsSmall) fixed (small_fixed constants e) in
        let s = more (knowing (own n x) w b) (m + 1) j g (record {
          positive = conditions.positive;
          further = conditions.further;
          further_gaps = conditions.further_gaps;
          placed = conditions.placed;
          range = conditions.range;
          keeps = keeps_then first b (knowing (own n x) w b) conditions.keeps (knowing_keeps b (own n x) w nothing);
          unknown = λ z l. other_known z (apart_from x z xs outside l) ∙ conditions.unknown z (later_among x z xs l);
          inside = conditions.inside;
          only = λ z l. conditions.only z (later_among x z xs l);
          names = conditions.names;
          before = conditions.before;
          later = conditions.later;
        }) in
        record {
          after = s.after;
          alike = inr (inl (w, record { no_name = h; means = means_by b conditions.keeps a reads (constant_written a w value); elements = elements_by b conditions.keeps a has reads (constant_written a w value); constant = telling.more e w value; storable = small_storable w small; nothing_known = nothing }, s.alike));
          formals = subst (λ (t : Bool). EachFormal (FormalStands s.after) (x ∷ xs) (a ∷ listed rest) ((if t then replaced i.stands a else Var (own n x)) ∷ formals_stand i n xs (listed rest)) (literal w ∷ (bounds rest g).meant)) (sym h) (
            record {
              associated = associates;
              alike = known w (no_variable h) refl refl small
                  (s.others (own n x) (λ z l. own_same n x z ∙ same_flip x z ∙ apart_from x z xs outside l) ∙ ap (λ (t : Bool). if t then held w else b (own n x)) (same_itself (own n x)));
            },
            s.formals,
          );
          keeps = keeps_then b (knowing (own n x) w b) s.after (knowing_keeps b (own n x) w nothing) s.keeps;
          others = λ y l. s.others y (λ z m. l z (later_among x z xs m)) ∙ ap (λ (t : Bool). if t then held w else b y) (l x (first_among x xs));
        }
      where
        unpaired : (t : Bool) → is_among (own n x) (firsts pairs) ≡ t → t ≡ false
        unpaired false l = refl
        unpaired true l = absurd (both_ways (is_among (own n x) (firsts (traces xs rest j g).pairs)) (arguments_outside constants n x xs (listed (all_replaced k rest)) j g outside) (conditions.only x (first_among x xs) l))

        other_known : (z : List ℕ) → is_same_text z x ≡ false → knowing (own n x) w b (own n z) ≡ b (own n z)
        other_known z l = ap (λ (t : Bool). if t then held w else b (own n z)) (own_same n z x ∙ l)

    -- and one that is assigned
    by_assignment : (b : List ℕ → Bond) (m j : ℕ) (g : Given) → is_variable_name i.constants a ≡ false
        → Conditions m j (x ∷ xs) b (value_traced None n x j g (traces xs rest)) (bound_by None e g (bounds rest)) g
        → ArgumentsStand m j b (x ∷ xs) (a ∷ listed rest) (bound_by None e g (bounds rest)).assignments (bound_by None e g (bounds rest)).meant
    by_assignment b m j g h conditions =
        let new : List ℕ = free_name g.taken in
        let h2 : Given = with_new g in
        let named : IsName new = conditions.names.0 in
        let pair : HasPair (own n x) new pairs = conditions.inside (own n x) new named (inl (refl, refl)) in
        let to : f (own n x) ≡ new = facts.paired (own n x) new pair in
        let left = each_front IsName (new ∷ expr_names e) (stmts_names (behind_stmts (bounds rest h2).assignments body)) conditions.names in
        let bond : b (own n x) ≡ loose = conditions.unknown x (first_among x xs) ∙ own_loose pairs n x new pair in
        let many : ℕ = length (bounds rest h2).assignments in
        let counted : AreCounted j (j + 1) (length (listed (all_replaced k rest))) (bounds rest h2) (traces xs rest (j + 1) h2) =
        arguments_counted constants n j xs (listed (all_replaced k rest)) (as_many k rest ∙ same) (j + 1) (one_less_than j) h2 in
        let others : List ℕ = (traces xs rest (j + 1) h2).gaps ++ conditions.further_gaps in
        let all : ℕ = suc many + conditions.further in
        let number : q.number j ≡ m =
        facts.number m j (all + length others) all (record { pairs = []; gaps = others }) conditions.placed (record {
          sizes = refl;
          range = lie_joined j (j + all) (traces xs rest (j + 1) h2).gaps conditions.further_gaps
              (lie_wider j (j + 1 + many) j (j + all) (traces xs rest (j + 1) h2).gaps (omega (arith)) (omega (arith)) counted.range)
              (lie_wider (j + suc many) (j + suc many + conditions.further) j (j + all) conditions.further_gaps (omega (arith)) (omega (arith)) conditions.range);
        }) in
        let s = more b (m + 1) (j + 1) h2 (record {
          positive = omega (arith);
          further = conditions.further;
          further_gaps = conditions.further_gaps;
          placed = placed_next gaps m j many conditions.further others conditions.placed;
          range = lie_wider (j + suc many) (j + suc many + conditions.further) (j + 1 + many) (j + 1 + many + conditions.further) conditions.further_gaps (omega (arith)) (omega (arith)) conditions.range;
          keeps = conditions.keeps;
          unknown = λ z l. conditions.unknown z (later_among x z xs l);
          inside = λ y z is l. conditions.inside y z is (inr l);
          only = λ z l m. sym (ap (λ (t : Bool). t || is_among (own n z) (firsts (traces xs rest (j + 1) h2).pairs)) (own_same n z x ∙ apart_from x z xs outside l)) ∙ conditions.only z (later_among x z xs l) m;
          names = each_behind IsName (new ∷ expr_names e) (stmts_names (behind_stmts (bounds rest h2).assignments body)) conditions.names;
          before = gives_then (nothing_given us) g h2 conditions.before (gives_new g);
          later = conditions.later;
        }) in
        let later : GivesMore h2 top = gives_then h2 (bounds rest h2).given top (arguments_give constants (listed (all_replaced k rest)) h2) conditions.later in
        let after_bond : s.after (own n x) ≡ loose = s.keeps (own n x) (λ l. loose_some (sym bond ∙ l)) ∙ bond in
        record {
          after = s.after;
          alike = inr (inr (
            (bounds rest h2).assignments,
            record {
              no_name = h;
              number = number ∙ sym (context.number m);
              means = means_by b conditions.keeps a reads (written_in k a left.1);
              elements = elements_by b conditions.keeps a has reads (written_in k a left.1);
              bound = ap is_bound bond;
              first = ap (λ (y : List ℕ). Assign (Var y) e ∷ (bounds rest h2).assignments) (sym to);
            },
            s.alike,
          ));
          formals = subst (λ (t : Bool). EachFormal (FormalStands s.after) (x ∷ xs) (a ∷ listed rest) ((if t then replaced i.stands a else Var (own n x)) ∷ formals_stand i n xs (listed rest)) (Var new ∷ (bounds rest h2).meant)) (sym h) (
            record {
              associated = associates;
              alike = made new (no_variable h) refl refl to (ap is_bound after_bond) (facts.valued g h2 conditions.before later refl named);
            },
            s.formals,
          );
          keeps = s.keeps;
          others = λ y l. s.others y (λ z m. l z (later_among x z xs m));
        }
      where
        loose_some : loose ≡ free → ⊥
        loose_some z = absurd cc

    -- what is asked behind an argument for which nothing is assigned
    behind_gap : (r : ExprTree) (b : List ℕ → Bond) (m j : ℕ) (g : Given) → Conditions m j (x ∷ xs) b (gap_before j (traces xs rest j g)) (standing r (bounds rest g)) g → Conditions (m + 1) j (x ∷ xs) b (traces xs rest j g) (bounds rest g) g
    behind_gap r b m j g h = record {
      positive = h.positive;
      further = h.further;
      further_gaps = h.further_gaps;
      placed = placed_gap gaps m j (length (bounds rest g).assignments + h.further) ((traces xs rest j g).gaps ++ h.further_gaps) h.positive h.placed;
      range = h.range;
      keeps = h.keeps;
      unknown = h.unknown;
      inside = h.inside;
      only = h.only;
      names = h.names;
      before = h.before;
      later = h.later;
    }

    -- an argument of any kind
    one_stands : (b : List ℕ → Bond) (m j : ℕ) (g : Given) (t w : Bool) (o : Option ℤ) → is_variable_name i.constants a ≡ t → is_variable_name constants e ≡ w → fixed_value constants e ≡ o → Conditions m j (x ∷ xs) b (traced_so w o j g) (bound_so w o g) g
        → ArgumentsStand m j b (x ∷ xs) (a ∷ listed rest) (bound_so w o g).assignments (bound_so w o g).meant
    one_stands b m j g true true o h l fixed conditions = by_variable b m j g e h refl (behind_gap e b m j g conditions)
    one_stands b m j g true false o h l fixed conditions =
        let named = variable_named (constants_of u) a (ap (λ (cs : Values). is_variable_name cs a) (sym context.constants) ∙ h) in
        let meant : e ≡ meaning k named.0 = ap (replaced k) named.1 in
        by_telling o fixed conditions named.0 meant (telling.name named.0 (subst (λ (z : ExprTree). Each (Reads us u) (expr_names z)) named.1 reads).0 named.2)
      where
        by_telling : (o : Option ℤ) → fixed_value constants e ≡ o → Conditions m j (x ∷ xs) b (traced_so false o j g) (bound_so false o g) g → (z : List ℕ) → e ≡ meaning k z
            → (is_variable_name constants (meaning k z) ≡ true) ⊎ ((v : ℤ) × (is_variable_name constants (meaning k z) ≡ false) × (fixed_value constants (meaning k z) ≡ Some v) × (meaning k z ≡ literal v))
            → ArgumentsStand m j b (x ∷ xs) (a ∷ listed rest) (bound_so false o g).assignments (bound_so false o g).meant
        by_telling o fixed conditions z meant (inl named) = absurd (both_ways (is_variable_name constants e) l (ap (is_variable_name constants) meant ∙ named))
        by_telling None fixed conditions z meant (inr t) = let absent = sym fixed ∙ ap (fixed_value constants) meant ∙ t.2 in absurd cc
        by_telling (Some v) fixed conditions z meant (inr t) =
            let same_value : v ≡ t.0 = same_number v t.0 (sym fixed ∙ ap (fixed_value constants) meant ∙ t.2) in
            by_variable b m j g (literal v) h (ap literal same_value ∙ sym t.3 ∙ sym meant) (behind_gap (literal v) b m j g conditions)
    one_stands b m j g false true o h l fixed conditions = absurd (both_ways (is_variable_name constants e) (telling.no_name a reads (no_variable h)) l)
    one_stands b m j g false false (Some v) h l fixed conditions = by_number b m j g v h fixed (behind_gap (literal v) b m j g conditions)
    one_stands b m j g false false None h l fixed conditions = by_assignment b m j g h conditions

  -- all arguments, as many as there are dummy arguments
  pub arguments_stand : (xs : List (List ℕ)) (es : ExprTrees) → length (listed es) ≡ length xs → has_twice xs ≡ false → Each (Reads us u) (exprs_names es) → AllElements (IsArray u) es → ((a : Association) → IsIn a (associations xs (listed es)) → IsIn a (associated v c)) → Claim xs es
  arguments_stand [] no_exprs same once reads has associates b m j g conditions = record { after = b; alike = (refl, refl); formals = tt; keeps = λ y h. refl; others = λ y h. refl }
  arguments_stand [] (more_exprs a rest) same once reads has associates b m j g conditions = absurd (none_first (length (listed rest)) same)
  arguments_stand (x ∷ xs) no_exprs same once reads has associates b m j g conditions = absurd (none_first (length xs) (sym same))
  arguments_stand (x ∷ xs) (more_exprs a rest) same once reads has associates b m j g conditions =
      let apart = or_parts (is_among x xs) (has_twice xs) once in
      let fewer : length (listed rest) ≡ length xs = one_less (length (listed rest)) (length xs) same in
      one_stands x xs a rest fewer apart.0 (each_front (Reads us u) (expr_names a) (exprs_names rest) reads) has.0 (associates (record { formal = x; argument = a }) (inl refl))
      (arguments_stand xs rest fewer apart.1 (each_behind (Reads us u) (expr_names a) (exprs_names rest) reads) has.1 (λ z l. associates z (inr l)))
      b m j g (is_variable_name i.constants a) (is_variable_name constants (replaced k a)) (fixed_value constants (replaced k a)) refl refl refl conditions

  -- the conditions for all arguments of a CALL
  pub arguments_of : (es : ExprTrees) → length (listed es) ≡ length v.formals → has_twice v.formals ≡ false → Each (Reads us u) (exprs_names es) → AllElements (IsArray u) es → ((a : Association) → IsIn a (associations v.formals (listed es)) → IsIn a (associated v c)) → (m j : ℕ) (g : Given)
      → 0 < j → (further : ℕ) (further_gaps : List ℕ) → IsPlaced gaps m j (length (bounds es g).assignments + further) ((traces v.formals es j g).gaps ++ further_gaps) → Lie (j + length (bounds es g).assignments) (j + length (bounds es g).assignments + further) further_gaps
      → ((x : List ℕ) → is_among x v.formals ≡ true → first (own n x) ≡ first_bond pairs (own n x))
      → ((x y : List ℕ) → IsName y → HasPair x y (traces v.formals es j g).pairs → HasPair x y pairs)
      → ((x : List ℕ) → is_among x v.formals ≡ true → is_among (own n x) (firsts pairs) ≡ true → is_among (own n x) (firsts (traces v.formals es j g).pairs) ≡ true)
      → Each IsName (stmts_names (behind_stmts (bounds es g).assignments body)) → GivesMore (nothing_given us) g → GivesMore (bounds es g).given top
      → ArgumentsStand m j first v.formals (listed es) (bounds es g).assignments (bounds es g).meant
  arguments_of es same once reads has associates m j g positive further further_gaps placed range unknown inside only names before later =
      arguments_stand v.formals es same once reads has associates first m j g
      (record { positive = positive; further = further; further_gaps = further_gaps; placed = placed; range = range; keeps = λ y h. refl; unknown = unknown; inside = inside; only = only; names = names; before = before; later = later })
