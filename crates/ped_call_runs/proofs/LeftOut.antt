-- The arguments for which an expansion has no statement are the gaps of its trace: so statements of the expansion are told by numbers of the units.
use Rattle.std.proofs.Common.{◌≡◌, ℕ, zero, suc, ◌+◌, ◌-◌, ◌≤◌, ◌<◌, ℤ, List, [], ◌∷◌, ◌++◌, map, filter, take, length, nat_lt, nat_le, unsigned_abs, Bool, true, false, ◌||◌, Option, Some, None, is_some, not, IfSome, refl, sym, ap, ◌∙◌, subst, ◌⊎◌, inl, inr, arith, option_and_then, if◌then◌else◌}
use Rattle.std.specs.Result.{result_ok}
use Rattle.std.proofs.lemmas.Bool.{ltb-true, ltb-false, leb-false, or_parts, both_ways}
use Rattle.std.proofs.lemmas.Map.Entries.{All-lookup}
use Rattle.ped_base.specs.Arithmetic.Arithmetic.{sum_of, difference_of, negation_of, product_of, quotient_of, power_of}
use Rattle.ped_base.specs.Lists.{is_same_text, is_among}
use Rattle.ped_base.proofs.NameEquality.{same_is, same_itself}
use Rattle.ped_tree.specs.Accesses.{listed}
use Rattle.ped_tree.specs.Constants.ConstantExpressions.{unary_value, binary_value, onto, intrinsic_result, constant_value, constant_values}
use Rattle.ped_tree.specs.Constants.NamedConstants.{value_named}
use Rattle.ped_tree.specs.Grammar.LimitNumbers.{greatest_literal}
use Rattle.ped_tree.specs.Numbering.{statement_count, statements_count}
use Rattle.ped_tree.specs.Tree.{ExprTree, ExprTrees, Int, Var, Element, Neg, Add, Sub, Mul, Div, Pow, Call, no_exprs, more_exprs, StmtTree, StmtTrees, Assign, If, Do, Print, Read, Stop, Comment, no_stmts, more_stmts}
use Rattle.ped_steps.specs.ped_symbolic.specs.Arithmetic.{literal}
use Rattle.ped_calls.specs.Giving.{IsSmall}
use Rattle.ped_steps.specs.ped_symbols.specs.Entries.{entry_of, with_entry}
use Rattle.ped_steps.specs.ped_symbols.specs.Kinds.{kind_in}
use Rattle.ped_steps.specs.ped_symbols.specs.NameRefusals.{has_twice}
use Rattle.ped_steps.specs.ped_symbols.specs.Values.{Values, within, fixed_value}
use Rattle.ped_calls.specs.ped_units.specs.Forms.{Called}
use Rattle.ped_calls.specs.ped_units.specs.Units.{ProgramUnit, ProgramUnits, all_units, unit_of, call_of}
use Rattle.ped_calls.specs.ped_units.specs.Linking.{IsIn}
use Rattle.ped_calls.specs.ped_units.specs.Refusals.{for_names}
use Rattle.ped_calls.specs.ped_units.specs.Expanding.{Given, free_name, with_new, Meanings, meaning, or_itself, replaced, all_replaced, called_replaced, is_variable_name, Bound, standing, bound_by, bound_arguments, body_names, constants_of, with_formals, with_constants, Renamed, with_renamed, renamed, meanings_in, call_comment, Expanded, AllExpanded, expanded_or, expanded_in, all_expanded_in, unit_expanded, call_expanded, nothing_given}
use Rattle.ped_calls.proofs.SmallKinds.{small_fixed, small_constants}
use Rattle.ped_call_runs.specs.UnitRuns.{number_inside, sized, all_sized, call_size}
use Rattle.ped_call_runs.specs.UnitFaults.{with_value, formal_values, is_left_out, left_out_or, left_out, all_left_out, left_out_of, left_out_in, units_left_out, expanded_number}
use Rattle.ped_call_runs.proofs.ConstantValues.{HasSome}
use Rattle.ped_call_runs.proofs.EachCalls.{OfCall, EachCall, AllCalls, UnitFits, FitsAt}
use Rattle.ped_call_runs.proofs.Traces.{Trace, nothing_traced, traced_before, value_traced, arguments_traced, CallTraced, traced_or, traced, all_traced, unit_traced, call_traced, units_traced}
use Rattle.ped_call_runs.proofs.TraceNumbers.{none_first, one_less}
use Rattle.ped_call_runs.proofs.TraceCalls.{front_counts, block_count}
use Rattle.ped_call_runs.proofs.RisingNumbers.{passed, number_past}
use Rattle.ped_call_runs.proofs.MeaningEntries.{new_entry, other_entry, of_constant, constants_kept, constants_entry, formals_kept, no_formal}
use Rattle.ped_call_runs.proofs.RenamedEntries.{renamed_stays, renamed_new}
use Rattle.ped_call_runs.proofs.ExpandedKinds.{small_literal}
use Rattle.ped_call_runs.proofs.UnitNames.{HasPlainNames}
use Rattle.ped_call_runs.proofs.ArgumentsStand.{fixed_constant, variable_named}
use Rattle.ped_call_runs.proofs.Walks.{unit_found}

-- the numbers of the expansion before which something is left out, where the first is number j
abbrev pub gaps_from : ℕ → List Bool → List ℕ
gaps_from j [] = []
gaps_from j (true ∷ bs) = j ∷ gaps_from j bs
gaps_from j (false ∷ bs) = gaps_from (j + 1) bs

-- how many are not left out
abbrev pub kept : List Bool → ℕ
kept [] = 0
kept (true ∷ bs) = kept bs
kept (false ∷ bs) = suc (kept bs)

-- how many of the first are left out
abbrev out : ℕ → List Bool → ℕ
out n bs = length (filter (λ b. b) (take n bs))

none_passed : (bs : List Bool) (j m : ℕ) → m < j → passed (gaps_from j bs) m ≡ 0
none_passed [] j m h = refl
none_passed (true ∷ bs) j m h = go (nat_lt m j) refl (none_passed bs j m h)
  where
    go : (t : Bool) → nat_lt m j ≡ t → passed (gaps_from j bs) m ≡ 0 → (if t then 0 else 1) + passed (gaps_from j bs) m ≡ 0
    go true e r = let s : 0 + passed (gaps_from j bs) m ≡ 0 = omega (arith, r) in s
    go false e r = let a = ltb-false m j e in absurd (omega (arith, a, h))
none_passed (false ∷ bs) j m h = none_passed bs (j + 1) m (omega (arith, h))

-- of the numbers up to that of a statement as many are left out as places that it has passed
take_out : (bs : List Bool) (j m n : ℕ) → j ≤ m → n + j ≡ suc m + passed (gaps_from j bs) m → out n bs ≡ passed (gaps_from j bs) m
take_out [] j m zero h e = refl
take_out [] j m (suc n) h e = refl
take_out (true ∷ bs) j m zero h e = go (nat_lt m j) refl e
  where
    go : (t : Bool) → nat_lt m j ≡ t → 0 + j ≡ suc m + ((if t then 0 else 1) + passed (gaps_from j bs) m) → 0 ≡ (if t then 0 else 1) + passed (gaps_from j bs) m
    go true d k = let a = ltb-true m j d in absurd (omega (arith, a, h))
    go false d k = absurd (omega (arith, k, h))
take_out (true ∷ bs) j m (suc n) h e = go (nat_lt m j) refl e (take_out bs j m n h)
  where
    go : (t : Bool) → nat_lt m j ≡ t → suc n + j ≡ suc m + ((if t then 0 else 1) + passed (gaps_from j bs) m) → (n + j ≡ suc m + passed (gaps_from j bs) m → out n bs ≡ passed (gaps_from j bs) m)
        → suc (out n bs) ≡ (if t then 0 else 1) + passed (gaps_from j bs) m
    go true d k more = let a = ltb-true m j d in absurd (omega (arith, a, h))
    go false d k more = let r = more (omega (arith, k)) in let s : suc (out n bs) ≡ 1 + passed (gaps_from j bs) m = omega (arith, r) in s
take_out (false ∷ bs) j m zero h e = absurd (omega (arith, e, h))
take_out (false ∷ bs) j m (suc n) h e = go (nat_lt j m) refl (take_out bs (j + 1) m n)
  where
    go : (t : Bool) → nat_lt j m ≡ t → (j + 1 ≤ m → n + (j + 1) ≡ suc m + passed (gaps_from (j + 1) bs) m → out n bs ≡ passed (gaps_from (j + 1) bs) m) → out n bs ≡ passed (gaps_from (j + 1) bs) m
    go true d more = let a = ltb-true j m d in more (omega (arith, a)) (omega (arith, e))
    go false d more =
        let a = ltb-false j m d in
        let none = none_passed bs (j + 1) m (omega (arith, a)) in
        let first : n ≡ 0 = omega (arith, e, none, a, h) in
        ap (λ (z : ℕ). out z bs) first ∙ sym none

out_below : (bs : List Bool) (m : ℕ) → out (m + passed (gaps_from 1 bs) m) bs ≡ passed (gaps_from 1 bs) m
out_below bs zero =
    let none = none_passed bs 1 0 (omega (arith)) in
    let nothing : 0 + passed (gaps_from 1 bs) 0 ≡ 0 = omega (arith, none) in
    ap (λ (z : ℕ). out z bs) nothing ∙ sym none
out_below bs (suc m) = take_out bs 1 (suc m) (suc m + passed (gaps_from 1 bs) (suc m)) (omega (arith)) (omega (arith))

without : (m p : ℕ) → m + p - p ≡ m
without m p = omega (arith)

-- so a statement of the expansion is told by its number in the units
pub expanded_back : (us : ProgramUnits) (gaps : List ℕ) → gaps ≡ gaps_from 1 (units_left_out us) → (m : ℕ) → expanded_number us (number_past gaps m) ≡ m
expanded_back us gaps h m =
    let bs = units_left_out us in
    ap (λ (gs : List ℕ). expanded_number us (number_past gs m)) h
    ∙ ap (λ (z : ℕ). m + passed (gaps_from 1 bs) m - z) (out_below bs m)
    ∙ without m (passed (gaps_from 1 bs) m)

shift : (j a : ℕ) → j + suc a ≡ j + 1 + a
shift j a = omega (arith)

gaps_joined : (j : ℕ) (xs ys : List Bool) → gaps_from j (xs ++ ys) ≡ gaps_from j xs ++ gaps_from (j + kept xs) ys
gaps_joined j [] ys = ap (λ (z : ℕ). gaps_from z ys) (nothing j)
  where
    nothing : (j : ℕ) → j ≡ j + 0
    nothing j = omega (arith)
gaps_joined j (true ∷ xs) ys = ap (λ (gs : List ℕ). j ∷ gs) (gaps_joined j xs ys)
gaps_joined j (false ∷ xs) ys = gaps_joined (j + 1) xs ys ∙ ap (λ (z : ℕ). gaps_from (j + 1) xs ++ gaps_from z ys) (sym (shift j (kept xs)))

kept_joined : (xs ys : List Bool) → kept (xs ++ ys) ≡ kept xs + kept ys
kept_joined [] ys = nothing (kept ys)
  where
    nothing : (n : ℕ) → n ≡ 0 + n
    nothing n = omega (arith)
kept_joined (true ∷ xs) ys = kept_joined xs ys
kept_joined (false ∷ xs) ys = let r = kept_joined xs ys in omega (arith, r)

-- the gaps of a piece are what is left out in it, and it has as many statements as aren't
record IsLeftOut (j many : ℕ) (t : Trace) (bs : List Bool) : Type 0 where
  gaps : t.gaps ≡ gaps_from j bs
  count : kept bs ≡ many

both_left : (j a b : ℕ) (s t : Trace) (xs ys : List Bool) → IsLeftOut j a s xs → IsLeftOut (j + a) b t ys → IsLeftOut j (a + b) (traced_before s t) (xs ++ ys)
both_left j a b s t xs ys h k = record {
  gaps = (λ i. h.gaps i ++ k.gaps i) ∙ ap (λ (z : ℕ). gaps_from j xs ++ gaps_from (j + z) ys) (sym h.count) ∙ sym (gaps_joined j xs ys);
  count = kept_joined xs ys ∙ (λ i. h.count i + k.count i);
}

one_before : (j a : ℕ) (t : Trace) (xs : List Bool) → IsLeftOut (j + 1) a t xs → IsLeftOut j (a + 1) t (false ∷ xs)
one_before j a t xs h = record { gaps = h.gaps; count = let r = h.count in omega (arith, r) }

two_before : (j a b : ℕ) (t : Trace) (xs : List Bool) → IsLeftOut (j + 1) (a + b) t xs → IsLeftOut j (a + b + 1) t (false ∷ xs)
two_before j a b t xs h = one_before j (a + b) t xs h

alone : (j : ℕ) → IsLeftOut j 1 nothing_traced (false ∷ [])
alone j = record { gaps = refl; count = refl }

module _ (k : Meanings) (size : Called → ℕ) (inner : Called → Given → Expanded Given) (call : CallTraced) (fits : Called → Type 0) (leaves : Called → List Bool) where
  abbrev CallsLeave : Type 0
  CallsLeave = (c : Called) → fits c → (n j : ℕ) (g : Given) → IsLeftOut j (statement_count (inner (called_replaced k c) g).statement) (call c n j g) (leaves c)

  assign_leaves : CallsLeave → (l r : ExprTree) (n j : ℕ) (g : Given) (o : Option Called) → OfCall fits o
      → IsLeftOut j (statement_count (expanded_or k inner (Assign l r) g o).statement) (traced_or call n j g o) (left_out_or leaves o)
  assign_leaves calls l r n j g None h = alone j
  assign_leaves calls l r n j g (Some c) h = calls c h n j g

  mutual
    leave : CallsLeave → (t : StmtTree) (n j : ℕ) (g : Given) → EachCall fits t → IsLeftOut j (statement_count (expanded_in k inner t g).statement) (traced k size inner call t n j g) (left_out leaves t)
    leave calls (Assign l r) n j g h = assign_leaves calls (replaced k l) (replaced k r) n j g (call_of l r) h
    leave calls (If c x y) n j g h =
        let made : AllExpanded Given = all_expanded_in k inner x g in
        let other : AllExpanded Given = all_expanded_in k inner y made.state in
        let cx : ℕ = statements_count made.statements in
        let first : Trace = all_traced k size inner call x (n + 1) (j + 1) g in
        let second : Trace = all_traced k size inner call y (n + 1 + all_sized size x) (j + 1 + cx) made.state in
        two_before j cx (statements_count other.statements) (traced_before first second) (all_left_out leaves x ++ all_left_out leaves y)
        (both_left (j + 1) cx (statements_count other.statements) first second (all_left_out leaves x) (all_left_out leaves y)
        (all_leave calls x (n + 1) (j + 1) g h.0) (all_leave calls y (n + 1 + all_sized size x) (j + 1 + cx) made.state h.1))
    leave calls (Do head body) n j g h =
        one_before j (statements_count (all_expanded_in k inner body g).statements) (all_traced k size inner call body (n + 1) (j + 1) g) (all_left_out leaves body) (all_leave calls body (n + 1) (j + 1) g h)
    leave calls (Print items) n j g h = alone j
    leave calls (Read items) n j g h = alone j
    leave calls Stop n j g h = alone j
    leave calls (Comment text) n j g h = record { gaps = refl; count = refl }

    all_leave : CallsLeave → (ts : StmtTrees) (n j : ℕ) (g : Given) → AllCalls fits ts → IsLeftOut j (statements_count (all_expanded_in k inner ts g).statements) (all_traced k size inner call ts n j g) (all_left_out leaves ts)
    all_leave calls no_stmts n j g h = record { gaps = refl; count = refl }
    all_leave calls (more_stmts t rest) n j g h =
        let made : Expanded Given = expanded_in k inner t g in
        both_left j (statement_count made.statement) (statements_count (all_expanded_in k inner rest made.state).statements)
        (traced k size inner call t n j g) (all_traced k size inner call rest (n + sized size t) (j + statement_count made.statement) made.state) (left_out leaves t) (all_left_out leaves rest)
        (leave calls t n j g h.0) (all_leave calls rest (n + sized size t) (j + statement_count made.statement) made.state h.1)

-- what names stand for in the expansion has the values that are known of them
record Knows (constants : Values) (k : Meanings) (values : Values) : Type 0 where
  value : (x : List ℕ) → constant_value constants (meaning k x) ≡ value_named values x
  shape : (x : List ℕ) → (is_variable_name constants (meaning k x) ≡ true) ⊎ HasSome (fixed_value constants (meaning k x))

module _ (constants : Values) (k : Meanings) (values : Values) (knows : Knows constants k values) where
  mutual
    same_value : (e : ExprTree) → constant_value constants (replaced k e) ≡ constant_value values e
    same_value (Int n) = refl
    same_value (Var x) = knows.value x
    same_value (Element x es) = refl
    same_value (Neg a) = ap (unary_value negation_of) (same_value a)
    same_value (Add a b) = λ i. binary_value sum_of (same_value a i) (same_value b i)
    same_value (Sub a b) = λ i. binary_value difference_of (same_value a i) (same_value b i)
    same_value (Mul a b) = λ i. binary_value product_of (same_value a i) (same_value b i)
    same_value (Div a b) = λ i. binary_value quotient_of (same_value a i) (same_value b i)
    same_value (Pow a b) = λ i. binary_value power_of (same_value a i) (same_value b i)
    same_value (Call f es) = ap (λ (o : Option (List ℤ)). option_and_then result_ok (option_and_then (intrinsic_result f) o)) (same_values es)

    same_values : (es : ExprTrees) → constant_values constants (all_replaced k es) ≡ constant_values values es
    same_values no_exprs = refl
    same_values (more_exprs e rest) = λ i. onto (same_value e i) (same_values rest i)

  same_fixed : (e : ExprTree) → fixed_value constants (replaced k e) ≡ fixed_value values e
  same_fixed e = ap within (same_value e)

  -- an argument: it is left out where it is a variable's name or has a value
  abbrev Told : ExprTree → Bool → Type 0
  Told e true = (is_variable_name constants e ≡ true) ⊎ HasSome (fixed_value constants e)
  Told e false = (is_variable_name constants e ≡ false) × (fixed_value constants e ≡ None)

  by_value : (e a : ExprTree) → is_variable_name constants e ≡ false → fixed_value constants e ≡ fixed_value values a → Told e (is_some (fixed_value values a))
  by_value e a h same = go (fixed_value values a) same
    where
      go : (o : Option ℤ) → fixed_value constants e ≡ o → Told e (is_some o)
      go (Some n) d = inr (n, d)
      go None d = (h, d)

  told : (a : ExprTree) → Told (replaced k a) (is_left_out values a)
  told (Int n) = by_value (Int n) (Int n) refl refl
  told (Var x) = knows.shape x
  told (Element x es) = by_value (replaced k (Element x es)) (Element x es) refl (same_fixed (Element x es))
  told (Neg a) = by_value (replaced k (Neg a)) (Neg a) refl (same_fixed (Neg a))
  told (Add a b) = by_value (replaced k (Add a b)) (Add a b) refl (same_fixed (Add a b))
  told (Sub a b) = by_value (replaced k (Sub a b)) (Sub a b) refl (same_fixed (Sub a b))
  told (Mul a b) = by_value (replaced k (Mul a b)) (Mul a b) refl (same_fixed (Mul a b))
  told (Div a b) = by_value (replaced k (Div a b)) (Div a b) refl (same_fixed (Div a b))
  told (Pow a b) = by_value (replaced k (Pow a b)) (Pow a b) refl (same_fixed (Pow a b))
  told (Call f es) = by_value (replaced k (Call f es)) (Call f es) refl (same_fixed (Call f es))

  abbrev traces : ℕ → List (List ℕ) → ExprTrees → ℕ → Given → Trace
  traces n xs es j g = arguments_traced constants n xs (listed (all_replaced k es)) j g

  abbrev bound : ExprTrees → Given → Bound
  bound es g = bound_arguments constants (listed (all_replaced k es)) g

  abbrev out_of : ExprTrees → List Bool
  out_of es = map (is_left_out values) (listed es)

  arguments_leave : (n : ℕ) (xs : List (List ℕ)) (es : ExprTrees) → length (listed es) ≡ length xs → (j : ℕ) (g : Given) → IsLeftOut j (length (bound es g).assignments) (traces n xs es j g) (out_of es)
  arguments_leave n [] no_exprs same j g = record { gaps = refl; count = refl }
  arguments_leave n [] (more_exprs a rest) same j g = absurd (none_first (length (listed rest)) same)
  arguments_leave n (x ∷ xs) no_exprs same j g = absurd (none_first (length xs) (sym same))
  arguments_leave n (x ∷ xs) (more_exprs a rest) same j g =
      go (is_left_out values a) (is_variable_name constants (replaced k a)) (fixed_value constants (replaced k a)) refl refl (told a) (arguments_leave n xs rest (one_less (length (listed rest)) (length xs) same))
    where
      e : ExprTree
      e = replaced k a

      More : Type 0
      More = (j : ℕ) (g : Given) → IsLeftOut j (length (bound rest g).assignments) (traces n xs rest j g) (out_of rest)

      trace_so : Bool → Option ℤ → Trace
      trace_so u o = if u then record (traces n xs rest j g) { gaps = j ∷ (traces n xs rest j g).gaps } else value_traced o n x j g (arguments_traced constants n xs (listed (all_replaced k rest)))

      bound_so : Bool → Option ℤ → Bound
      bound_so u o = if u then standing e (bound rest g) else bound_by o e g (bound_arguments constants (listed (all_replaced k rest)))

      go : (t u : Bool) (o : Option ℤ) → is_variable_name constants e ≡ u → fixed_value constants e ≡ o → Told e t → More → IsLeftOut j (length (bound_so u o).assignments) (trace_so u o) (t ∷ out_of rest)
      go true true o l fixed tell more = record { gaps = ap (λ (gs : List ℕ). j ∷ gs) (more j g).gaps; count = (more j g).count }
      go true false (Some v) l fixed tell more = record { gaps = ap (λ (gs : List ℕ). j ∷ gs) (more j g).gaps; count = (more j g).count }
      go true false None l fixed (inl named) more = absurd (both_ways (is_variable_name constants e) l named)
      go true false None l fixed (inr has) more = let z : None ≡ Some has.0 = sym fixed ∙ has.1 in absurd cc
      go false true o l fixed tell more = absurd (both_ways (is_variable_name constants e) tell.0 l)
      go false false (Some v) l fixed tell more = let z : None ≡ Some v = sym tell.1 ∙ fixed in absurd cc
      go false false None l fixed tell more = record { gaps = (more (j + 1) (with_new g)).gaps; count = ap suc (more (j + 1) (with_new g)).count }

  -- what stands for a dummy argument in the subroutine's own CALLs, where names are no constants
  record IsMeant (a r : ExprTree) : Type 0 where
    value : constant_value [] r ≡ fixed_value values a
    shape : (is_variable_name [] r ≡ true) ⊎ HasSome (fixed_value [] r)

  abbrev EachMeant : List ExprTree → List ExprTree → Type 0
  EachMeant [] [] = Unit {0}
  EachMeant (a ∷ rest) (r ∷ rs) = IsMeant a r × EachMeant rest rs
  EachMeant [] (r ∷ rs) = ⊥
  EachMeant (a ∷ rest) [] = ⊥

  variable_meant : (a : ExprTree) → is_variable_name constants (replaced k a) ≡ true → IsMeant a (replaced k a)
  variable_meant a h =
      let named = variable_named constants (replaced k a) h in
      record {
        value = ap (constant_value []) named.1 ∙ sym (ap within (sym (same_value a) ∙ ap (constant_value constants) named.1 ∙ named.2));
        shape = inl (ap (is_variable_name []) named.1);
      }

  number_meant : (a : ExprTree) (n : ℤ) → fixed_value constants (replaced k a) ≡ Some n → IsMeant a (literal n)
  number_meant a n h =
      let small : IsSmall n = subst (λ (o : Option ℤ). IfSome o IsSmall) h (small_fixed constants (replaced k a)) in
      record {
        value = fixed_constant [] (literal n) n (small_literal [] n small) ∙ sym h ∙ same_fixed a;
        shape = inr (n, small_literal [] n small);
      }

  arguments_meant : (es : ExprTrees) (g : Given) → EachMeant (listed es) (bound es g).meant
  arguments_meant no_exprs g = tt
  arguments_meant (more_exprs a rest) g = go (is_variable_name constants (replaced k a)) (fixed_value constants (replaced k a)) refl refl (arguments_meant rest)
    where
      go : (u : Bool) (o : Option ℤ) → is_variable_name constants (replaced k a) ≡ u → fixed_value constants (replaced k a) ≡ o → ((g : Given) → EachMeant (listed rest) (bound rest g).meant)
          → EachMeant (a ∷ listed rest) (if u then standing (replaced k a) (bound rest g) else bound_by o (replaced k a) g (bound_arguments constants (listed (all_replaced k rest)))).meant
      go true o l fixed more = (variable_meant a l, more g)
      go false (Some n) l fixed more = (number_meant a n fixed, more g)
      go false None l fixed more = (record { value = sym (sym (same_fixed a) ∙ fixed); shape = inl refl }, more (with_new g))

  -- what was found of a dummy argument
  record Found (m : Meanings) (others : Values) (x : List ℕ) (fs : List (List ℕ)) (es rs : List ExprTree) : Type 0 where
    stands : ExprTree
    entry : entry_of (with_formals m fs rs) x ≡ Some stands
    value : constant_value [] stands ≡ value_named (formal_values values fs es ++ others) x
    shape : (is_variable_name [] stands ≡ true) ⊎ HasSome (fixed_value [] stands)

  -- the value of another name
  other_first : (f x : List ℕ) (o : Option ℤ) (vs others : Values) → is_same_text x f ≡ false → value_named (with_value f o vs ++ others) x ≡ value_named (vs ++ others) x
  other_first f x None vs others h = refl
  other_first f x (Some n) vs others h = ap (λ (t : Bool). if t then Some n else value_named (vs ++ others) x) h

  no_value : (others : Values) (x : List ℕ) (fs : List (List ℕ)) (es : List ExprTree) → is_among x fs ≡ false → value_named (formal_values values fs es ++ others) x ≡ value_named others x
  no_value others x [] es h = refl
  no_value others x (f ∷ fs) [] h = refl
  no_value others x (f ∷ fs) (a ∷ rest) h =
      let p = or_parts (is_same_text x f) (is_among x fs) h in
      other_first f x (fixed_value values a) (formal_values values fs rest) others p.0 ∙ no_value others x fs rest p.1

  first_value : (others : Values) (x : List ℕ) (o : Option ℤ) (vs : Values) → value_named (vs ++ others) x ≡ None → value_named (with_value x o vs ++ others) x ≡ o
  first_value others x None vs h = h
  first_value others x (Some n) vs h = ap (λ (t : Bool). if t then Some n else value_named (vs ++ others) x) (same_itself x)

  formal_found : (others : Values) (fs : List (List ℕ)) (es rs : List ExprTree) → EachMeant es rs → length es ≡ length fs → has_twice fs ≡ false → (m : Meanings) → ((z : List ℕ) → is_among z fs ≡ true → entry_of m z ≡ None)
      → (x : List ℕ) → is_among x fs ≡ true → value_named others x ≡ None → Found m others x fs es rs
  formal_found others [] es rs meant same once m none x h nothing = absurd cc
  formal_found others (f ∷ fs) [] rs meant same once m none x h nothing = absurd (none_first (length fs) (sym same))
  formal_found others (f ∷ fs) (a ∷ rest) [] meant same once m none x h nothing = absurd meant
  formal_found others (f ∷ fs) (a ∷ rest) (r ∷ rs) meant same once m none x h nothing =
      go (is_same_text x f) refl
      (formal_found others fs rest rs meant.1 (one_less (length rest) (length fs) same) apart.1 (with_entry m f r) (λ z e. other_entry m f r z (differs z e) (none z (later z e))) x)
    where
      apart : (is_among f fs ≡ false) × (has_twice fs ≡ false)
      apart = or_parts (is_among f fs) (has_twice fs) once

      either : (t : Bool) → t || true ≡ true
      either true = refl
      either false = refl

      later : (z : List ℕ) → is_among z fs ≡ true → is_among z (f ∷ fs) ≡ true
      later z e = ap (λ (t : Bool). is_same_text z f || t) e ∙ either (is_same_text z f)

      differs : (z : List ℕ) → is_among z fs ≡ true → is_same_text z f ≡ false
      differs z e = by (is_same_text z f) refl
        where
          by : (t : Bool) → is_same_text z f ≡ t → t ≡ false
          by false l = refl
          by true l = absurd (both_ways (is_among f fs) apart.0 (ap (λ (v : List ℕ). is_among v fs) (sym (same_is z f l)) ∙ e))

      go : (t : Bool) → is_same_text x f ≡ t → (is_among x fs ≡ true → value_named others x ≡ None → Found (with_entry m f r) others x fs rest rs) → Found m others x (f ∷ fs) (a ∷ rest) (r ∷ rs)
      go true e more =
          let is : f ≡ x = sym (same_is x f e) in
          subst (λ (z : List ℕ). Found m others x (z ∷ fs) (a ∷ rest) (r ∷ rs)) (sym is) (record {
            stands = r;
            entry = formals_kept fs rs (with_entry m x r) x r (new_entry m x r (none x h));
            value = meant.0.value ∙ sym (first_value others x (fixed_value values a) (formal_values values fs rest) (no_value others x fs rest (subst (λ (z : List ℕ). is_among z fs ≡ false) is apart.0) ∙ nothing));
            shape = meant.0.shape;
          })
      go false e more =
          let found = more (sym (ap (λ (t : Bool). t || is_among x fs) e) ∙ h) nothing in
          record {
            stands = found.stands;
            entry = found.entry;
            value = found.value ∙ sym (other_first f x (fixed_value values a) (formal_values values fs rest) others e);
            shape = found.shape;
          }

-- a name for which nothing stands and that isn't among these stays so
renamed_none : (u : ProgramUnit) (xs : List (List ℕ)) (r : Renamed) (y : List ℕ) → is_among y xs ≡ false → entry_of r.meanings y ≡ None → entry_of (renamed u xs r).meanings y ≡ None
renamed_none u [] r y h k = k
renamed_none u (x ∷ xs) r y h k =
    let p = or_parts (is_same_text y x) (is_among y xs) h in
    renamed_none u xs (if is_some (entry_of r.meanings x) then r else with_renamed x (kind_in (for_names u) x) r) y p.1 (go (is_some (entry_of r.meanings x)) p.0)
  where
    go : (t : Bool) → is_same_text y x ≡ false → entry_of (if t then r else with_renamed x (kind_in (for_names u) x) r).meanings y ≡ None
    go true d = k
    go false d = other_entry r.meanings x (Var (free_name r.given.taken)) y d k

-- a small number is within the limits
within_small : (n : ℤ) → IsSmall n → within (Some n) ≡ Some n
within_small n h = go (nat_le (unsigned_abs n) greatest_literal) refl
  where
    go : (t : Bool) → nat_le (unsigned_abs n) greatest_literal ≡ t → (if t then Some n else None) ≡ Some n
    go true e = refl
    go false e = absurd (let a = leb-false (unsigned_abs n) greatest_literal e in omega (arith, a, h))

-- what stands for a name has the value that is known of it
record IsKnownName (k : Meanings) (values : Values) (x : List ℕ) : Type 0 where
  value : constant_value [] (meaning k x) ≡ value_named values x
  shape : (is_variable_name [] (meaning k x) ≡ true) ⊎ HasSome (fixed_value [] (meaning k x))

module _ (us : ProgramUnits) (plain : (u : ProgramUnit) → IsIn u (all_units us) → HasPlainNames u) where
  small_named : (v : ProgramUnit) (x : List ℕ) (w : ℤ) → value_named (constants_of v) x ≡ Some w → IsSmall w
  small_named v x w h = subst (λ (o : Option ℤ). IfSome o IsSmall) h (All-lookup IsSmall (is_same_text x) (constants_of v) (small_constants (for_names v)))

  -- in a subroutine that is called
  knows_inside : (constants : Values) (k : Meanings) (values : Values) → Knows constants k values → (c : Called) (v : ProgramUnit) → HasPlainNames v → length (listed c.arguments) ≡ length v.formals → has_twice v.formals ≡ false → (g : Given)
      → Knows [] (meanings_in v (bound_arguments constants (listed (called_replaced k c).arguments) g)).meanings (formal_values values v.formals (listed c.arguments) ++ constants_of v)
  knows_inside constants k values knows c v names same once g = record { value = λ x. (of_name x).value; shape = λ x. (of_name x).shape }
    where
      b : Bound
      b = bound_arguments constants (listed (called_replaced k c).arguments) g

      start : Renamed
      start = record { meanings = with_constants (with_formals [] v.formals b.meant) (constants_of v); given = b.given }

      after : Meanings
      after = (meanings_in v b).meanings

      known : Values
      known = formal_values values v.formals (listed c.arguments) ++ constants_of v

      OfName : List ℕ → Type 0
      OfName x = IsKnownName after known x

      by_meaning : (x : List ℕ) (e : ExprTree) → meaning after x ≡ e → constant_value [] e ≡ value_named known x → (is_variable_name [] e ≡ true) ⊎ HasSome (fixed_value [] e) → OfName x
      by_meaning x e is value shape = subst (λ (z : ExprTree). (constant_value [] z ≡ value_named known x) → ((is_variable_name [] z ≡ true) ⊎ HasSome (fixed_value [] z)) → OfName x) is (λ p q. record { value = p; shape = q }) value shape

      no_dummy : (x : List ℕ) → is_among x v.formals ≡ false → value_named known x ≡ value_named (constants_of v) x
      no_dummy x outside = no_value constants k values knows (constants_of v) x v.formals (listed c.arguments) outside

      by_constant : (x : List ℕ) → is_among x v.formals ≡ false → (o : Option ℤ) → value_named (constants_of v) x ≡ o → OfName x
      by_constant x outside (Some w) e =
          let none = no_formal v.formals b.meant [] x outside refl in
          let entry : entry_of start.meanings x ≡ Some (literal w) = constants_entry (constants_of v) (with_formals [] v.formals b.meant) x none ∙ ap of_constant e in
          let small = small_named v x w e in
          by_meaning x (literal w) (ap (or_itself x) (renamed_stays v (body_names v) start x (literal w) entry))
          (fixed_constant [] (literal w) w (small_literal [] w small) ∙ sym e ∙ sym (no_dummy x outside)) (inr (w, small_literal [] w small))
      by_constant x outside None e = among (is_among x (body_names v)) refl
        where
          absent : entry_of start.meanings x ≡ None
          absent = constants_entry (constants_of v) (with_formals [] v.formals b.meant) x (no_formal v.formals b.meant [] x outside refl) ∙ ap of_constant e

          as_variable : (y : List ℕ) → meaning after x ≡ Var y → OfName x
          as_variable y is = by_meaning x (Var y) is (sym (no_dummy x outside ∙ e)) (inl refl)

          among : (t : Bool) → is_among x (body_names v) ≡ t → OfName x
          among true m = let new = renamed_new 0 v (body_names v) start x absent m in as_variable (free_name new.at.taken) (ap (or_itself x) new.stands)
          among false m = as_variable x (ap (or_itself x) (renamed_none v (body_names v) start x m absent))

      of_name : (x : List ℕ) → OfName x
      of_name x = go (is_among x v.formals) refl
        where
          go : (t : Bool) → is_among x v.formals ≡ t → OfName x
          go false h = by_constant x h (value_named (constants_of v) x) refl
          go true h =
              let found = formal_found constants k values knows (constants_of v) v.formals (listed c.arguments) b.meant (arguments_meant constants k values knows c.arguments g) same once [] (λ z m. refl) x h (names.formals x h) in
              by_meaning x found.stands
              (ap (or_itself x) (renamed_stays v (body_names v) start x found.stands (constants_kept (constants_of v) (with_formals [] v.formals b.meant) x found.stands found.entry)))
              found.value found.shape

  first_is : (j : ℕ) → j + 1 + 0 ≡ j + 1
  first_is j = omega (arith)

  abbrev Leaves : ℕ → Type 0
  Leaves depth = (constants : Values) (k : Meanings) (values : Values) → Knows constants k values → (c : Called) → FitsAt us depth c → (n j : ℕ) (g : Given)
      → IsLeftOut j (statement_count (call_expanded depth us constants (called_replaced k c) g).statement) (call_traced depth us constants k c n j g) (left_out_in depth us values c)

  unit_leaves : (depth : ℕ) → Leaves depth → (constants : Values) (k : Meanings) (values : Values) → Knows constants k values → (c : Called) (n j : ℕ) (g : Given) (o : Option ProgramUnit) → unit_of us c.name ≡ o → UnitFits (FitsAt us depth) c o
      → IsLeftOut j (statement_count (unit_expanded (call_expanded depth us []) constants (called_replaced k c) g o).statement) (unit_traced depth us (call_traced depth us []) k constants c n j g o) (left_out_of (left_out_in depth us) values c o)
  unit_leaves depth deeper constants k values knows c n j g None is fit = record { gaps = refl; count = refl }
  unit_leaves depth deeper constants k values knows c n j g (Some v) is fit =
      let es : List ExprTree = listed (called_replaced k c).arguments in
      let b : Bound = bound_arguments constants es g in
      let r : Renamed = meanings_in v b in
      let made : ℕ = length b.assignments in
      let first : ℕ = j + 1 + statement_count (call_comment (called_replaced k c)) in
      let body : StmtTrees = (all_expanded_in r.meanings (call_expanded depth us []) v.tree.body r.given).statements in
      let count : ℕ = statements_count body in
      let known : Values = formal_values values v.formals (listed c.arguments) ++ constants_of v in
      let inside : Trace = all_traced r.meanings (call_size depth us) (call_expanded depth us []) (call_traced depth us [] r.meanings) v.tree.body (number_inside c n) (first + made) r.given in
      let arguments : Trace = arguments_traced constants n v.formals es first g in
      let knows_there : Knows [] r.meanings known = knows_inside constants k values knows c v (plain v (inr (unit_found us.others c.name v is))) fit.0 fit.1 g in
      let in_arguments : IsLeftOut first made arguments (map (is_left_out values) (listed c.arguments)) = arguments_leave constants k values knows n v.formals c.arguments fit.0 first g in
      let in_body : IsLeftOut (first + made) count inside (all_left_out (left_out_in depth us known) v.tree.body) =
      all_leave r.meanings (call_size depth us) (call_expanded depth us []) (call_traced depth us [] r.meanings) (FitsAt us depth) (left_out_in depth us known) (deeper [] r.meanings known knows_there) v.tree.body (number_inside c n) (first + made) r.given fit.2 in
      let outs : List Bool = map (is_left_out values) (listed c.arguments) ++ all_left_out (left_out_in depth us known) v.tree.body in
      let both : IsLeftOut first (made + count) (traced_before arguments inside) outs =
      both_left first made count arguments inside (map (is_left_out values) (listed c.arguments)) (all_left_out (left_out_in depth us known) v.tree.body) in_arguments in_body in
      let whole : statement_count (unit_expanded (call_expanded depth us []) constants (called_replaced k c) g (Some v)).statement ≡ made + count + 1 =
      block_count (called_replaced k c) b.assignments body ∙ ap (λ (z : ℕ). z + 1) (front_counts constants es g body) in
      subst (λ (z : ℕ). IsLeftOut j z (unit_traced depth us (call_traced depth us []) k constants c n j g (Some v)) (left_out_of (left_out_in depth us) values c (Some v))) (sym whole)
      (record {
        gaps = both.gaps ∙ ap (λ (z : ℕ). gaps_from z outs) (first_is j);
        count = let s = both.count in omega (arith, s);
      })

  calls_leave : (depth : ℕ) → Leaves depth
  calls_leave zero constants k values knows c h n j g = record { gaps = refl; count = refl }
  calls_leave (suc depth) constants k values knows c h n j g = unit_leaves depth (calls_leave depth) constants k values knows c n j g (unit_of us c.name) refl h

  -- the main program
  main_known : Knows (constants_of us.main) [] (constants_of us.main)
  main_known = record { value = λ x. refl; shape = λ x. go x (value_named (constants_of us.main) x) refl }
    where
      go : (x : List ℕ) (o : Option ℤ) → value_named (constants_of us.main) x ≡ o → (is_variable_name (constants_of us.main) (Var x) ≡ true) ⊎ HasSome (fixed_value (constants_of us.main) (Var x))
      go x None e = inl (ap (λ (o : Option ℤ). not (is_some o)) e)
      go x (Some n) e = inr (n, ap within e ∙ within_small n (small_named us.main x n e))

  -- the gaps of the whole trace
  pub left_out_gaps : AllCalls (FitsAt us (length us.others)) us.main.tree.body → (units_traced us).gaps ≡ gaps_from 1 (units_left_out us)
  left_out_gaps fit =
      (all_leave [] (call_size (length us.others) us) (call_expanded (length us.others) us (constants_of us.main)) (call_traced (length us.others) us (constants_of us.main) []) (FitsAt us (length us.others)) (left_out_in (length us.others) us (constants_of us.main))
      (calls_leave (length us.others) (constants_of us.main) [] (constants_of us.main) main_known) us.main.tree.body 1 1 (nothing_given us) fit).gaps
