-- The names of a subroutine that is called: what they are on both sides, by what the arguments are there.
use Rattle.std.proofs.Common.{◌≡◌, ℕ, suc, ◌+◌, ◌≤◌, ◌<◌, ◌^◌, ℤ, pos, negsuc, neg_ℤ, int_le, int_lt, unsigned_abs, List, [], ◌∷◌, ◌++◌, length, not, is_some, Bool, true, false, ◌&&◌, ◌||◌, ◌==◌, eqb, eqb-true, Option, Some, None, IfSome, refl, sym, ap, ◌∙◌, subst, ◌⊎◌, inl, inr, arith, if◌then◌else◌}
use Rattle.std.specs.Int.{is_negative}
use Rattle.std.proofs.lemmas.Bool.{or_parts, and_parts, both_ways}
use Rattle.std.proofs.lemmas.Int.{ints}
use Rattle.std.proofs.lemmas.Map.Entries.{All-lookup}
use Rattle.ped_base.specs.Arithmetic.Arithmetic.{is_in_range}
use Rattle.ped_base.specs.Dimensions.{Dimensions}
use Rattle.ped_base.specs.Lists.{is_same_text, is_among}
use Rattle.ped_base.proofs.NameEquality.{same_is, same_itself, same_flip}
use Rattle.ped_tree.specs.Accesses.{listed}
use Rattle.ped_tree.specs.Constants.ConstantExpressions.{constant_value}
use Rattle.ped_tree.specs.Constants.NamedConstants.{value_named}
use Rattle.ped_tree.specs.NamesIn.{expr_names}
use Rattle.ped_tree.specs.Tree.{ExprTree, Int, Var, Element, Neg, Add, Sub, Mul, Div, Pow, Call, StmtTrees, ProgramTree}
use Rattle.ped_steps.specs.ped_symbolic.specs.Arithmetic.{literal}
use Rattle.ped_steps.specs.ped_symbols.specs.Entries.{entry_of, with_entry}
use Rattle.ped_steps.specs.ped_symbols.specs.Kinds.{at_last, kind_by, kind_of, kind_in, names_of}
use Rattle.ped_steps.specs.ped_symbols.specs.NameRefusals.{has_twice}
use Rattle.ped_steps.specs.ped_symbols.specs.Values.{Values, fixed_value}
use Rattle.ped_calls.specs.Giving.{IsSmall}
use Rattle.ped_calls.specs.ped_units.specs.Forms.{Called}
use Rattle.ped_calls.specs.ped_units.specs.Units.{ProgramUnit, ProgramUnits, all_units, unit_of}
use Rattle.ped_calls.specs.ped_units.specs.Refusals.{for_names}
use Rattle.ped_calls.specs.ped_units.specs.Linking.{IsIn, Placed, calls_of, associated, IsAssigned, bounds_by, array_bounds, argument_bounds, is_scalar, is_scalar_name, Arguments, Misfits, other_bounds, no_scalar, HasAllArguments}
use Rattle.ped_calls.specs.ped_units.specs.Expanding.{Given, free_name, with_local, Meanings, meaning, or_itself, name_or, replaced, is_variable_name, Bound, body_names, constants_of, with_formals, with_constants, Renamed, meanings_in, nothing_given}
use Rattle.ped_calls.proofs.SmallKinds.{small_constants}
use Rattle.ped_steps.specs.ped_eval.specs.Outcomes.{bounds_of}
use Rattle.ped_steps.specs.ped_eval.specs.Scopes.{Setting}
use Rattle.ped_call_runs.specs.UnitRuns.{own, Instance, number_inside, formals_stand, bounds_with_own, own_constants, called_instance}
use Rattle.ped_call_runs.proofs.EachNames.{Each}
use Rattle.ped_call_runs.proofs.FollowingStores.{Bond, is_bound}
use Rattle.ped_call_runs.proofs.FollowingNames.{MeansAlike, by_name, by_constant, by_held, NamedAlike}
use Rattle.ped_call_runs.proofs.ConstantValues.{constant_kept, unreplaced}
use Rattle.ped_call_runs.proofs.GivenMore.{GivesMore, gives_then}
use Rattle.ped_call_runs.proofs.ExpandedKinds.{small_literal}
use Rattle.ped_call_runs.proofs.MeaningEntries.{new_entry, other_entry, own_kept, own_entry, constants_kept, of_constant, constants_entry, formals_kept, no_formal}
use Rattle.ped_call_runs.proofs.Traces.{locals_traced}
use Rattle.ped_call_runs.proofs.OwnNames.{own_apart}
use Rattle.ped_call_runs.proofs.TraceOwn.{own_same}
use Rattle.ped_call_runs.proofs.RenamedEntries.{HasPair, renamed_stays, IsRenamed, renamed_new}
use Rattle.ped_call_runs.proofs.WrittenNames.{IsName}
use Rattle.ped_call_runs.proofs.UnitNames.{IsPlain, HasPlainNames}
use Rattle.ped_call_runs.proofs.UnitArrays.{IsArray}
use Rattle.ped_call_runs.proofs.SuitedUnits.{Reads, Writes}
use Rattle.ped_call_runs.proofs.Contexts.{IsOld, IsWritten, IsNameOrLiteral, Context, Telling}
use Rattle.ped_call_runs.proofs.ArgumentsStand.{Facts, own_loose, KeepsBonds, bound_kept, held_kept, fixed_constant, EachFormal, FormalAlike, variable, known, made, FormalStands}

-- the entry of a name is what stands for it
pub meant_by : (m : Meanings) (x : List ℕ) (e : ExprTree) → entry_of m x ≡ Some e → meaning m x ≡ e
meant_by m x e h = ap (or_itself x) h

-- what was found of a dummy argument
pub record FoundFormal (P : List ℕ → ExprTree → ExprTree → ExprTree → Type 0) (x : List ℕ) (m w : Meanings) : Type 0 where
  pub argument : ExprTree
  pub left : ExprTree
  pub right : ExprTree
  pub holds : P x argument left right
  pub in_left : entry_of m x ≡ Some left
  pub in_right : entry_of w x ≡ Some right

pub formals_found : (P : List ℕ → ExprTree → ExprTree → ExprTree → Type 0) (xs : List (List ℕ)) (arguments ls rs : List ExprTree) → EachFormal P xs arguments ls rs → has_twice xs ≡ false → (m w : Meanings)
    → ((z : List ℕ) → is_among z xs ≡ true → entry_of m z ≡ None) → ((z : List ℕ) → is_among z xs ≡ true → entry_of w z ≡ None) → (x : List ℕ) → is_among x xs ≡ true → FoundFormal P x (with_formals m xs ls) (with_formals w xs rs)
formals_found P [] arguments ls rs h once m w none absent x k = absurd cc
formals_found P (y ∷ ys) [] ls rs h once m w none absent x k = absurd h
formals_found P (y ∷ ys) (a ∷ rest) [] rs h once m w none absent x k = absurd h
formals_found P (y ∷ ys) (a ∷ rest) (l ∷ ls) [] h once m w none absent x k = absurd h
formals_found P (y ∷ ys) (a ∷ rest) (l ∷ ls) (r ∷ rs) h once m w none absent x k =
    go (is_same_text x y) refl
    (formals_found P ys rest ls rs h.1 apart.1 (with_entry m y l) (with_entry w y r) (λ z e. other_entry m y l z (differs z e) (none z (later z e))) (λ z e. other_entry w y r z (differs z e) (absent z (later z e))) x)
  where
    apart : (is_among y ys ≡ false) × (has_twice ys ≡ false)
    apart = or_parts (is_among y ys) (has_twice ys) once

    either : (t : Bool) → t || true ≡ true
    either true = refl
    either false = refl

    later : (z : List ℕ) → is_among z ys ≡ true → is_among z (y ∷ ys) ≡ true
    later z e = ap (λ (t : Bool). is_same_text z y || t) e ∙ either (is_same_text z y)

    first : is_among y (y ∷ ys) ≡ true
    first = ap (λ (t : Bool). t || is_among y ys) (same_itself y)

    differs : (z : List ℕ) → is_among z ys ≡ true → is_same_text z y ≡ false
    differs z e = by (is_same_text z y) refl
      where
        by : (t : Bool) → is_same_text z y ≡ t → t ≡ false
        by false l = refl
        by true l = absurd (both_ways (is_among y ys) apart.0 (ap (λ (v : List ℕ). is_among v ys) (sym (same_is z y l)) ∙ e))

    go : (t : Bool) → is_same_text x y ≡ t → (is_among x ys ≡ true → FoundFormal P x (with_formals (with_entry m y l) ys ls) (with_formals (with_entry w y r) ys rs)) → FoundFormal P x (with_formals (with_entry m y l) ys ls) (with_formals (with_entry w y r) ys rs)
    go true e more =
        subst (λ (z : List ℕ). FoundFormal P z (with_formals (with_entry m y l) ys ls) (with_formals (with_entry w y r) ys rs)) (sym (same_is x y e))
        (record {
          argument = a;
          left = l;
          right = r;
          holds = h.0;
          in_left = formals_kept ys ls (with_entry m y l) y l (new_entry m y l (none y first));
          in_right = formals_kept ys rs (with_entry w y r) y r (new_entry w y r (absent y first));
        })
    go false e more = more (sym (ap (λ (t : Bool). t || is_among x ys) e) ∙ k)

-- a literal is no variable
pub literal_no_name : (constants : Values) (n : ℤ) → is_variable_name constants (literal n) ≡ false
literal_no_name constants n = go (is_negative n)
  where
    go : (t : Bool) → is_variable_name constants (if t then Neg (Int (unsigned_abs n)) else Int (unsigned_abs n)) ≡ false
    go true = refl
    go false = refl

holds : (b : Bool) → (b ≡ false → ⊥) → b ≡ true
holds true n = refl
holds false n = absurd (n refl)

-- a small number is in the range of numbers
small_in_range : (n : ℤ) → IsSmall n → is_in_range n ≡ true
small_in_range (pos m) h =
    let small : m ≤ 2147483647 = h in
    let from : int_le (neg_ℤ (pos (2 ^ 127))) (pos m) ≡ true = holds (int_le (neg_ℤ (pos (2 ^ 127))) (pos m)) (λ e. omega (arith, ints, e)) in
    let to : int_lt (pos m) (pos (2 ^ 127)) ≡ true = holds (int_lt (pos m) (pos (2 ^ 127))) (λ e. omega (arith, ints, small, e)) in
    λ i. from i && to i
small_in_range (negsuc m) h =
    let small : suc m ≤ 2147483647 = h in
    let from : int_le (neg_ℤ (pos (2 ^ 127))) (negsuc m) ≡ true = holds (int_le (neg_ℤ (pos (2 ^ 127))) (negsuc m)) (λ e. omega (arith, ints, small, e)) in
    let to : int_lt (negsuc m) (pos (2 ^ 127)) ≡ true = holds (int_lt (negsuc m) (pos (2 ^ 127))) (λ e. omega (arith, ints, e)) in
    λ i. from i && to i

-- the bounds and the constants of a name of the CALL's own, and of others
itself_equal : (n : ℕ) → eqb n n ≡ true
itself_equal n = grind (arith, eqb-true)

own_bounds : (v : ProgramUnit) (n : ℕ) (others : List ℕ → Dimensions) (x : List ℕ) → bounds_with_own v n others (own n x) ≡ bounds_of (kind_in (for_names v) x)
own_bounds v n others x = ap (λ (t : Bool). if t then bounds_of (kind_in (for_names v) x) else others (own n x)) (itself_equal n)

-- a name that isn't of this CALL's own
abbrev pub IsOther : ℕ → List ℕ → Type 0
IsOther n y = (x : List ℕ) → is_same_text (own n x) y ≡ false

other_name_bounds : (v : ProgramUnit) (n : ℕ) (others : List ℕ → Dimensions) (y : List ℕ) → IsOther n y → bounds_with_own v n others y ≡ others y
other_name_bounds v n others [] h = refl
other_name_bounds v n others (c ∷ []) h = refl
other_name_bounds v n others (c ∷ m ∷ x) h = go (c == 0 && m == n) refl
  where
    go : (t : Bool) → (c == 0 && m == n) ≡ t → (if t then bounds_of (kind_in (for_names v) x) else others (c ∷ m ∷ x)) ≡ others (c ∷ m ∷ x)
    go false e = refl
    go true e =
        let parts = and_parts (c == 0) (m == n) e in
        let zero : c ≡ 0 = eqb-true c 0 parts.0 in
        let same : m ≡ n = eqb-true m n parts.1 in
        absurd (both_ways (is_same_text (own n x) (c ∷ m ∷ x)) (h x) ((λ i. is_same_text (own n x) (zero i ∷ same i ∷ x)) ∙ same_itself (own n x)))

own_valued : (n : ℕ) (vs : Values) (x : List ℕ) → value_named (own_constants n vs) (own n x) ≡ value_named vs x
own_valued n [] x = refl
own_valued n (v ∷ vs) x = λ i. if own_same n x v.0 i then Some v.1 else own_valued n vs x i

valued_front : (vs ws : Values) (y : List ℕ) (m : ℤ) → value_named vs y ≡ Some m → value_named (vs ++ ws) y ≡ Some m
valued_front [] ws y m h = absurd cc
valued_front (v ∷ vs) ws y m h = go (is_same_text y v.0) refl (valued_front vs ws y m)
  where
    go : (t : Bool) → is_same_text y v.0 ≡ t → (value_named vs y ≡ Some m → value_named (vs ++ ws) y ≡ Some m) → (if is_same_text y v.0 then Some v.1 else value_named (vs ++ ws) y) ≡ Some m
    go true e more = ap (λ (t : Bool). if t then Some v.1 else value_named (vs ++ ws) y) e ∙ sym (ap (λ (t : Bool). if t then Some v.1 else value_named vs y) e) ∙ h
    go false e more = ap (λ (t : Bool). if t then Some v.1 else value_named (vs ++ ws) y) e ∙ more (sym (ap (λ (t : Bool). if t then Some v.1 else value_named vs y) e) ∙ h)

valued_behind : (vs ws : Values) (y : List ℕ) → value_named vs y ≡ None → value_named (vs ++ ws) y ≡ value_named ws y
valued_behind [] ws y h = refl
valued_behind (v ∷ vs) ws y h = go (is_same_text y v.0) refl (valued_behind vs ws y)
  where
    go : (t : Bool) → is_same_text y v.0 ≡ t → (value_named vs y ≡ None → value_named (vs ++ ws) y ≡ value_named ws y) → (if is_same_text y v.0 then Some v.1 else value_named (vs ++ ws) y) ≡ value_named ws y
    go true e more = let z : Some v.1 ≡ None = sym (ap (λ (t : Bool). if t then Some v.1 else value_named vs y) e) ∙ h in absurd cc
    go false e more = ap (λ (t : Bool). if t then Some v.1 else value_named (vs ++ ws) y) e ∙ more (sym (ap (λ (t : Bool). if t then Some v.1 else value_named vs y) e) ∙ h)

other_unvalued : (n : ℕ) (vs : Values) (y : List ℕ) → IsOther n y → value_named (own_constants n vs) y ≡ None
other_unvalued n [] y h = refl
other_unvalued n (v ∷ vs) y h = λ i. if (same_flip y (own n v.0) ∙ h v.0) i then Some v.1 else other_unvalued n vs y h i

-- a name with a value is neither an array nor a scalar
pub valued_kind : (t : ProgramTree) (x : List ℕ) (w : ℤ) → value_named (at_last t).values x ≡ Some w → (bounds_by (kind_in t x) ≡ None) × (is_scalar (kind_in t x) ≡ false)
valued_kind t x w h = go (is_among x (names_of t))
  where
    go : (b : Bool) → (bounds_by (if b then Some (kind_of t x) else None) ≡ None) × (is_scalar (if b then Some (kind_of t x) else None) ≡ false)
    go false = (refl, refl)
    go true = (ap (λ (o : Option ℤ). bounds_by (Some (kind_by o (entry_of (at_last t).arrays x)))) h, ap (λ (o : Option ℤ). is_scalar (Some (kind_by o (entry_of (at_last t).arrays x)))) h)

-- an argument that is no variable's name is the name of no array and of no scalar
no_variable_kind : (u : ProgramUnit) (a : ExprTree) → is_variable_name (constants_of u) a ≡ false → (argument_bounds u a ≡ None) × (is_scalar_name u a ≡ false)
no_variable_kind u (Int n) h = (refl, refl)
no_variable_kind u (Var x) h = go (value_named (constants_of u) x) refl h
  where
    go : (o : Option ℤ) → value_named (constants_of u) x ≡ o → not (is_some o) ≡ false → (bounds_by (kind_in (for_names u) x) ≡ None) × (is_scalar (kind_in (for_names u) x) ≡ false)
    go (Some w) e l = valued_kind (for_names u) x w e
    go None e l = absurd cc
no_variable_kind u (Element x es) h = (refl, refl)
no_variable_kind u (Neg a) h = (refl, refl)
no_variable_kind u (Add a b) h = (refl, refl)
no_variable_kind u (Sub a b) h = (refl, refl)
no_variable_kind u (Mul a b) h = (refl, refl)
no_variable_kind u (Div a b) h = (refl, refl)
no_variable_kind u (Pow a b) h = (refl, refl)
no_variable_kind u (Call f es) h = (refl, refl)

module _ (us : ProgramUnits) (pairs : List (List ℕ × List ℕ)) (gaps : List ℕ) (top : Given) (f : List ℕ → List ℕ) (q : Setting) (facts : Facts us pairs gaps top f q)
    (u : ProgramUnit) (lo : ℕ) (first : List ℕ → Bond) (k : Meanings) (i : Instance) (context : Context us pairs gaps top f q u lo first k i) (constants : Values) (telling : Telling us pairs gaps top f q u k constants)
    (v : ProgramUnit) (c : Called) (n : ℕ) (less : lo ≤ n) (body : StmtTrees)
    (place : Placed) (is_call : IsIn place (calls_of u)) (same_call : place.called ≡ c) (is_unit : unit_of us c.name ≡ Some v) (is_in : IsIn v (all_units us)) (plain : HasPlainNames v)
    (same : length (listed c.arguments) ≡ length v.formals) (once : has_twice v.formals ≡ false) (b : Bound) (after : List ℕ → Bond) (keeps : KeepsBonds first after)
    (others : (y : List ℕ) → ((x : List ℕ) → is_among x v.formals ≡ true → is_same_text y (own n x) ≡ false) → after y ≡ first y)
    (formals : EachFormal (FormalStands us pairs gaps top f q facts u lo first k i context constants telling v c n body after) v.formals (listed c.arguments) (formals_stand i n v.formals (listed c.arguments)) b.meant)
    (before : GivesMore (nothing_given us) b.given) (later : GivesMore (meanings_in v b).given top)
    (inside : (x y : List ℕ) → IsName y → HasPair x y (locals_traced n v (body_names v) (record { meanings = with_constants (with_formals [] v.formals b.meant) (constants_of v); given = b.given })) → HasPair x y pairs) where
  abbrev Stands : List ℕ → ExprTree → ExprTree → ExprTree → Type 0
  Stands = FormalStands us pairs gaps top f q facts u lo first k i context constants telling v c n body after

  abbrev p : Setting
  p = i.setting

  abbrev there : Instance
  there = called_instance i n v c

  abbrev start : Renamed
  start = record { meanings = with_constants (with_formals [] v.formals b.meant) (constants_of v); given = b.given }

  abbrev meant : Meanings
  meant = (meanings_in v b).meanings

  -- a variable of the CALL's own, and its new name
  record IsLocal (x y : List ℕ) : Type 0 where
    to : f (own n x) ≡ y
    bound : is_bound (after (own n x)) ≡ true
    valued : value_named q.constants y ≡ None
    bounds : q.bounds y ≡ bounds_of (kind_in (for_names v) x)

  -- what a name of the subroutine is on both sides
  data NameOf (x : List ℕ) : Type 0 where
    formal : is_among x v.formals ≡ true → (a l r : ExprTree) → meaning there.stands x ≡ l → meaning meant x ≡ r → Stands x a l r → NameOf x
    constant : (w : ℤ) → value_named (constants_of v) x ≡ Some w → meaning there.stands x ≡ Var (own n x) → meaning meant x ≡ literal w → NameOf x
    local : (y : List ℕ) → IsPlain v x → meaning there.stands x ≡ Var (own n x) → meaning meant x ≡ Var y → (IsName y → IsLocal x y) → NameOf x

  name_of : (x : List ℕ) → Reads us v x → NameOf x
  name_of x reads = go (is_among x v.formals) refl
    where
      by_value : is_among x v.formals ≡ false → (o : Option ℤ) → value_named (constants_of v) x ≡ o → NameOf x
      by_value outside (Some w) e =
          let none : entry_of (with_formals [] v.formals b.meant) x ≡ None = no_formal v.formals b.meant [] x outside refl in
          let value : entry_of start.meanings x ≡ Some (literal w) = constants_entry (constants_of v) (with_formals [] v.formals b.meant) x none ∙ ap of_constant e in
          constant w e
          (meant_by there.stands x (Var (own n x)) (own_entry n (body_names v) (with_formals [] v.formals (formals_stand i n v.formals (listed c.arguments))) x (no_formal v.formals (formals_stand i n v.formals (listed c.arguments)) [] x outside refl) reads))
          (meant_by meant x (literal w) (renamed_stays v (body_names v) start x (literal w) value))
      by_value outside None e =
          let none : entry_of (with_formals [] v.formals b.meant) x ≡ None = no_formal v.formals b.meant [] x outside refl in
          let absent : entry_of start.meanings x ≡ None = constants_entry (constants_of v) (with_formals [] v.formals b.meant) x none ∙ ap of_constant e in
          let new : IsRenamed n v start.given x (locals_traced n v (body_names v) start) (meanings_in v b) = renamed_new n v (body_names v) start x absent reads in
          let name : List ℕ = free_name new.at.taken in
          let so_far : GivesMore (nothing_given us) new.at = gives_then (nothing_given us) b.given new.at before new.before in
          let to_come : GivesMore (with_local new.at (kind_in (for_names v) x)) top = gives_then (with_local new.at (kind_in (for_names v) x)) (meanings_in v b).given top new.later later in
          let unmet : (z : List ℕ) → is_among z v.formals ≡ true → is_same_text (own n x) (own n z) ≡ false = λ z m. own_same n x z ∙ apart z m in
          local name e
          (meant_by there.stands x (Var (own n x)) (own_entry n (body_names v) (with_formals [] v.formals (formals_stand i n v.formals (listed c.arguments))) x (no_formal v.formals (formals_stand i n v.formals (listed c.arguments)) [] x outside refl) reads))
          (meant_by meant x (Var name) new.stands)
          (λ is.
          let pair : HasPair (own n x) name pairs = inside (own n x) name is new.pair in
          record {
            to = facts.paired (own n x) name pair;
            bound = ap is_bound (others (own n x) unmet ∙ context.unknown n x less ∙ own_loose pairs n x name pair);
            valued = facts.valued new.at (with_local new.at (kind_in (for_names v) x)) so_far to_come refl is;
            bounds = facts.local new.at (with_local new.at (kind_in (for_names v) x)) so_far to_come refl is (for_names v) x refl;
          })
        where
          apart : (z : List ℕ) → is_among z v.formals ≡ true → is_same_text x z ≡ false
          apart z m = by (is_same_text x z) refl
            where
              by : (t : Bool) → is_same_text x z ≡ t → t ≡ false
              by false l = refl
              by true l = absurd (both_ways (is_among x v.formals) outside (ap (λ (w : List ℕ). is_among w v.formals) (same_is x z l) ∙ m))

      go : (t : Bool) → is_among x v.formals ≡ t → NameOf x
      go true e =
          let found = formals_found Stands v.formals (listed c.arguments) (formals_stand i n v.formals (listed c.arguments)) b.meant formals once [] [] (λ z m. refl) (λ z m. refl) x e in
          formal e found.argument found.left found.right
          (meant_by there.stands x found.left (own_kept n (body_names v) (with_formals [] v.formals (formals_stand i n v.formals (listed c.arguments))) x found.left found.in_left))
          (meant_by meant x found.right (renamed_stays v (body_names v) start x found.right (constants_kept (constants_of v) (with_formals [] v.formals b.meant) x found.right found.in_right)))
          found.holds
      go false e = by_value e (value_named (constants_of v) x) refl

  -- no argument misfits
  fits : (x : List ℕ) (a : ExprTree) → IsIn (record { formal = x; argument = a }) (associated v c) → Misfits us u v place.loops (record { formal = x; argument = a }) → ⊥
  fits x a is misfits =
      facts.linked Arguments place.line (inr (inr (record {
        unit = u;
        is_unit = context.is_unit;
        call = place;
        is_call = is_call;
        stands = (
          v,
          ap (λ (d : Called). unit_of us d.name) same_call ∙ is_unit,
          inr (subst (λ (d : Called). HasAllArguments v d) (sym same_call) same, record { formal = x; argument = a }, subst (λ (d : Called). IsIn (record { formal = x; argument = a }) (associated v d)) (sym same_call) is, misfits),
        );
        there = refl;
      })))

  -- an argument that is no variable's name stands for no array
  no_array : (x : List ℕ) (a : ExprTree) → IsIn (record { formal = x; argument = a }) (associated v c) → is_variable_name (constants_of u) a ≡ false → array_bounds v x ≡ None
  no_array x a is h = go (array_bounds v x) refl
    where
      go : (o : Option Dimensions) → array_bounds v x ≡ o → o ≡ None
      go None e = refl
      go (Some d) e = absurd (fits x a is (other_bounds d e (λ l. none_some d (sym (no_variable_kind u a h).0 ∙ l))))
        where
          none_some : (d : Dimensions) → None ≡ Some d → ⊥
          none_some d e = absurd cc

  -- and for none that is assigned
  not_assigned : (x : List ℕ) (a : ExprTree) → IsIn (record { formal = x; argument = a }) (associated v c) → is_variable_name (constants_of u) a ≡ false → IsAssigned us v x → ⊥
  not_assigned x a is h assigned = fits x a is (no_scalar (no_array x a is h) assigned (no_variable_kind u a h).1)

  other_of : (y : List ℕ) → IsOld lo y → IsOther n y
  other_of y h x = h n x less

  there_bounds : (y : List ℕ) → IsOld lo y → there.setting.bounds y ≡ p.bounds y
  there_bounds y h = other_name_bounds v n p.bounds y (other_of y h)

  there_valued : (y : List ℕ) → IsOld lo y → value_named there.setting.constants y ≡ value_named p.constants y
  there_valued y h = valued_behind (own_constants n (constants_of v)) p.constants y (other_unvalued n (constants_of v) y (other_of y h))

  own_value : (x : List ℕ) (o : Option ℤ) → value_named (constants_of v) x ≡ o → value_named there.setting.constants (own n x) ≡ o
  own_value x (Some w) h = valued_front (own_constants n (constants_of v)) p.constants (own n x) w (own_valued n (constants_of v) x ∙ h)
  own_value x None h = valued_behind (own_constants n (constants_of v)) p.constants (own n x) (own_valued n (constants_of v) x ∙ h) ∙ context.fresh n x less

  -- a variable of the caller stands for the name
  moved : (x z : List ℕ) → meaning there.stands x ≡ meaning i.stands z → meaning meant x ≡ meaning k z → ((y : List ℕ) → meaning i.stands z ≡ Var y → IsOld lo y)
      → MeansAlike first f p q i.stands k z → MeansAlike after f there.setting q there.stands meant x
  moved x z left right old (by_name y l r d h) =
      let is = old y l in
      by_name y (left ∙ l) (right ∙ r) (d ∙ sym (there_valued y is)) (bound_kept first after keeps y h)
  moved x z left right old (by_constant y m l r range e) =
      let is = old y l in
      by_constant y m (left ∙ l) (right ∙ r) range (there_valued y is ∙ e)
  moved x z left right old (by_held y m l r range e h) =
      let is = old y l in
      by_held y m (left ∙ l) (right ∙ r) range (there_valued y is ∙ e) (held_kept first after keeps y m h)

  -- what is written here is written there
  written_there : (x z : List ℕ) → meaning meant x ≡ meaning k z → IsWritten (meaning meant x) → IsWritten (meaning k z)
  written_there x z right h y e = h y (right ∙ e)

  constant_small : (x : List ℕ) (w : ℤ) → value_named (constants_of v) x ≡ Some w → IsSmall w
  constant_small x w h = subst (λ (o : Option ℤ). IfSome o IsSmall) h (All-lookup IsSmall (is_same_text x) (constants_of v) (small_constants (for_names v)))

  reads_there : (x : List ℕ) → Reads us v x → IsWritten (meaning meant x) → MeansAlike after f there.setting q there.stands meant x
  reads_there x reads written = go (name_of x reads)
    where
      by_formal : is_among x v.formals ≡ true → (a l r : ExprTree) → meaning there.stands x ≡ l → meaning meant x ≡ r → IsIn (record { formal = x; argument = a }) (associated v c)
          → FormalAlike us pairs gaps top f q facts u lo first k i context constants telling v c n body after x a l r → MeansAlike after f there.setting q there.stands meant x
      by_formal is a l r left right in_call (variable z e rz pz lz kz) =
          let w = written_there x z (right ∙ kz) written in
          moved x z (left ∙ lz) (right ∙ kz) (context.old z rz w) (context.reads z rz w)
      by_formal is a l r left right in_call (known w unnamed lx rx small h) =
          by_held (own n x) w (left ∙ lx) (right ∙ rx) (small_in_range w small) (own_value x None (plain.formals x is)) h
      by_formal is a l r left right in_call (made y unnamed lx rx to h valued) =
          by_name (own n x) (left ∙ lx) (right ∙ rx ∙ ap Var (sym to)) (ap (value_named q.constants) to ∙ valued ∙ sym (own_value x None (plain.formals x is))) h

      go : NameOf x → MeansAlike after f there.setting q there.stands meant x
      go (formal is a l r left right s) = by_formal is a l r left right s.associated s.alike
      go (constant w value left right) = by_constant (own n x) w left right (small_in_range w (constant_small x w value)) (own_value x (Some w) value)
      go (local y unvalued left right named) =
          let is = named (written y right) in
          by_name (own n x) left (right ∙ ap Var (sym is.to)) (ap (value_named q.constants) is.to ∙ is.valued ∙ sym (own_value x None unvalued)) is.bound

  -- names of this CALL's own are old for CALLs with greater numbers
  own_old : (x : List ℕ) → IsOld (number_inside c n) (own n x)
  own_old x m z from = same_flip (own m z) (own n x) ∙ own_apart n m x z (greater n m (length (listed c.arguments)) from)
    where
      greater : (n m many : ℕ) → n + 1 + many ≤ m → n < m
      greater n m many h = omega (arith, h)

  from_lo : (m : ℕ) → number_inside c n ≤ m → lo ≤ m
  from_lo m h = lesser lo n m (length (listed c.arguments)) less h
    where
      lesser : (lo n m many : ℕ) → lo ≤ n → n + 1 + many ≤ m → lo ≤ m
      lesser lo n m many h l = omega (arith, h, l)

  same_var : (x y z : List ℕ) (e : ExprTree) → e ≡ Var y → e ≡ Var z → y ≡ z
  same_var x y z e h l = ap (name_or x) (sym h ∙ l)

  old_there : (x : List ℕ) → Reads us v x → IsWritten (meaning meant x) → (y : List ℕ) → meaning there.stands x ≡ Var y → IsOld (number_inside c n) y
  old_there x reads written y e = go (name_of x reads)
    where
      of_own : meaning there.stands x ≡ Var (own n x) → IsOld (number_inside c n) y
      of_own left = subst (IsOld (number_inside c n)) (same_var x (own n x) y (meaning there.stands x) left e) (own_old x)

      by_formal : (a l r : ExprTree) → meaning there.stands x ≡ l → meaning meant x ≡ r → FormalAlike us pairs gaps top f q facts u lo first k i context constants telling v c n body after x a l r → IsOld (number_inside c n) y
      by_formal a l r left right (variable z is rz pz lz kz) = λ m w from. context.old z rz (written_there x z (right ∙ kz) written) y (sym (left ∙ lz) ∙ e) m w (from_lo m from)
      by_formal a l r left right (known w unnamed lx rx small h) = of_own (left ∙ lx)
      by_formal a l r left right (made z unnamed lx rx to h valued) = of_own (left ∙ lx)

      go : NameOf x → IsOld (number_inside c n) y
      go (formal is a l r left right s) = by_formal a l r left right s.alike
      go (constant w value left right) = of_own left
      go (local z unvalued left right named) = of_own left

  -- a dummy argument that is assigned is passed for one
  passed : (x z : List ℕ) → is_among x v.formals ≡ true → IsIn (record { formal = x; argument = Var z }) (associated v c) → is_among z u.formals ≡ true → IsAssigned us v x → IsAssigned us u z
  passed x z is in_call from assigned = (
    (record { unit = v; formal = x }) ∷ assigned.0,
    (
      record {
        is_formal = from;
        calls = record { call = place; is_call = is_call; is_unit = ap (λ (d : Called). unit_of us d.name) same_call ∙ is_unit };
        association = record { formal = x; argument = Var z };
        associates = subst (λ (d : Called). IsIn (record { formal = x; argument = Var z }) (associated v d)) (sym same_call) in_call;
        passes = refl;
        stands_for = refl;
      },
      assigned.1,
    ),
  )

  -- a name that stands for one of the caller
  moved_name : (x z : List ℕ) → Reads us u z → IsWritten (meaning k z) → meaning there.stands x ≡ meaning i.stands z → meaning meant x ≡ meaning k z → NamedAlike first f p q i.stands k z → NamedAlike after f there.setting q there.stands meant x
  moved_name x z rz w left right named = record {
    name = named.name;
    left = left ∙ named.left;
    right = right ∙ named.right;
    bounds = named.bounds ∙ sym (there_bounds named.name (context.old z rz w named.name named.left));
    bound = bound_kept first after keeps named.name named.bound;
  }

  -- an array that is a dummy argument stands for an array
  array_argument : (x z : List ℕ) → IsIn (record { formal = x; argument = Var z }) (associated v c) → IsArray v x → IsArray u z
  array_argument x z in_call array = go (array_bounds u z) refl
    where
      some_none : (d : Dimensions) → None ≡ Some d → ⊥
      some_none d e = absurd cc

      go : (o : Option Dimensions) → array_bounds u z ≡ o → IsArray u z
      go (Some d) e = (d, e)
      go None e = absurd (fits x (Var z) in_call (other_bounds array.0 array.1 (λ l. some_none array.0 (sym e ∙ l))))

  arrays_there : (x : List ℕ) → Reads us v x → IsArray v x → IsWritten (meaning meant x) → NamedAlike after f there.setting q there.stands meant x
  arrays_there x reads array written = go (name_of x reads)
    where
      Goal : Type 0
      Goal = NamedAlike after f there.setting q there.stands meant x

      unbounded : array_bounds v x ≡ None → Goal
      unbounded e = let z : None ≡ Some array.0 = sym e ∙ array.1 in absurd cc

      by_formal : (a l r : ExprTree) → meaning there.stands x ≡ l → meaning meant x ≡ r → IsIn (record { formal = x; argument = a }) (associated v c)
          → FormalAlike us pairs gaps top f q facts u lo first k i context constants telling v c n body after x a l r → Goal
      by_formal a l r left right in_call (variable z e rz pz lz kz) =
          let w = written_there x z (right ∙ kz) written in
          moved_name x z rz w (left ∙ lz) (right ∙ kz)
          (context.arrays z rz (array_argument x z (subst (λ (d : ExprTree). IsIn (record { formal = x; argument = d }) (associated v c)) e in_call) array) w)
      by_formal a l r left right in_call (known w unnamed lx rx small h) = unbounded (no_array x a in_call unnamed)
      by_formal a l r left right in_call (made y unnamed lx rx to h valued) = unbounded (no_array x a in_call unnamed)

      go : NameOf x → Goal
      go (formal is a l r left right s) = by_formal a l r left right s.associated s.alike
      go (constant w value left right) = unbounded (valued_kind (for_names v) x w value).0
      go (local y unvalued left right named) =
          let is = named (written y right) in
          record { name = own n x; left = left; right = right ∙ ap Var (sym is.to); bounds = ap q.bounds is.to ∙ is.bounds ∙ sym (own_bounds v n p.bounds x); bound = is.bound }

  writes_there : (x : List ℕ) → Writes us v x → IsWritten (meaning meant x) → NamedAlike after f there.setting q there.stands meant x
  writes_there x writes written = go (name_of x writes.reads)
    where
      by_formal : is_among x v.formals ≡ true → (a l r : ExprTree) → meaning there.stands x ≡ l → meaning meant x ≡ r → IsIn (record { formal = x; argument = a }) (associated v c)
          → FormalAlike us pairs gaps top f q facts u lo first k i context constants telling v c n body after x a l r → NamedAlike after f there.setting q there.stands meant x
      by_formal is a l r left right in_call (variable z e rz pz lz kz) =
          let w = written_there x z (right ∙ kz) written in
          let named = context.writes z (record {
            reads = rz;
            may = record { plain = pz; assigned = λ from. passed x z is (subst (λ (d : ExprTree). IsIn (record { formal = x; argument = d }) (associated v c)) e in_call) from (writes.may.assigned is) };
          }) w in
          moved_name x z rz w (left ∙ lz) (right ∙ kz) named
      by_formal is a l r left right in_call (known w unnamed lx rx small h) = absurd (not_assigned x a in_call unnamed (writes.may.assigned is))
      by_formal is a l r left right in_call (made y unnamed lx rx to h valued) = absurd (not_assigned x a in_call unnamed (writes.may.assigned is))

      go : NameOf x → NamedAlike after f there.setting q there.stands meant x
      go (formal is a l r left right s) = by_formal is a l r left right s.associated s.alike
      go (constant w value left right) = let z : None ≡ Some w = sym writes.may.plain ∙ value in absurd cc
      go (local y unvalued left right named) =
          let is = named (written y right) in
          record { name = own n x; left = left; right = right ∙ ap Var (sym is.to); bounds = ap q.bounds is.to ∙ is.bounds ∙ sym (own_bounds v n p.bounds x); bound = is.bound }

  fixed_there : (x : List ℕ) → Reads us v x → (m : ℤ) → value_named (constants_of v) x ≡ Some m → (constant_value q.constants (meaning meant x) ≡ Some m) × (constant_value there.setting.constants (meaning there.stands x) ≡ Some m)
  fixed_there x reads m e = go (name_of x reads)
    where
      go : NameOf x → (constant_value q.constants (meaning meant x) ≡ Some m) × (constant_value there.setting.constants (meaning there.stands x) ≡ Some m)
      go (formal is a l r left right s) = let z : None ≡ Some m = sym (plain.formals x is) ∙ e in absurd cc
      go (constant w value left right) =
          let same : Some w ≡ Some m = sym value ∙ e in (
            ap (constant_value q.constants) right ∙ fixed_constant q.constants (literal w) w (small_literal q.constants w (constant_small x w value)) ∙ same,
            ap (constant_value there.setting.constants) left ∙ own_value x (Some w) value ∙ same,
          )
      go (local y unvalued left right named) = let z : None ≡ Some m = sym unvalued ∙ e in absurd cc

  shape_there : (x : List ℕ) → Reads us v x → IsPlain v x → IsNameOrLiteral (meaning meant x)
  shape_there x reads plainly = go (name_of x reads)
    where
      by_formal : (a l r : ExprTree) → meaning meant x ≡ r → FormalAlike us pairs gaps top f q facts u lo first k i context constants telling v c n body after x a l r → IsNameOrLiteral (meaning meant x)
      by_formal a l r right (variable z e rz pz lz kz) = subst IsNameOrLiteral (sym (right ∙ kz)) (context.shape z rz pz)
      by_formal a l r right (known w unnamed lx rx small h) = inr (w, small, right ∙ rx)
      by_formal a l r right (made y unnamed lx rx to h valued) = inl (y, right ∙ rx)

      go : NameOf x → IsNameOrLiteral (meaning meant x)
      go (formal is a l r left right s) = by_formal a l r right s.alike
      go (constant w value left right) = let z : None ≡ Some w = sym plainly ∙ value in absurd cc
      go (local y unvalued left right named) = inl (y, right)

  pub called_context : Context us pairs gaps top f q v (number_inside c n) after meant there
  called_context = record {
    is_unit = is_in;
    constants = refl;
    reads = reads_there;
    old = old_there;
    arrays = arrays_there;
    writes = writes_there;
    fixed = fixed_there;
    shape = shape_there;
    fresh = λ m x from.
        valued_behind (own_constants n (constants_of v)) p.constants (own m x) (other_unvalued n (constants_of v) (own m x) (λ z. same_flip (own n z) (own m x) ∙ own_old z m x from)) ∙ context.fresh m x (from_lo m from);
    unknown = λ m x from. others (own m x) (λ z is. own_old z m x from) ∙ context.unknown m x (from_lo m from);
    number = context.number;
  }

  -- the subroutine's own CALLs know no named constants
  pub called_telling : Telling us pairs gaps top f q v meant []
  called_telling = record {
    no_name = no_name_there;
    name = λ x reads plainly. named x (shape_there x reads plainly);
    more = λ e w h.
        sym (ap (constant_value q.constants) (unreplaced e)) ∙ constant_kept [] q.constants [] [] e (all_none (expr_names e)) w (ap (constant_value []) (unreplaced e) ∙ h);
    unowned = λ y w h. absurd cc;
  }
    where
      named : (x : List ℕ) → IsNameOrLiteral (meaning meant x) → (is_variable_name [] (meaning meant x) ≡ true) ⊎ ((m : ℤ) × (is_variable_name [] (meaning meant x) ≡ false) × (fixed_value [] (meaning meant x) ≡ Some m) × (meaning meant x ≡ literal m))
      named x (inl h) = inl (ap (is_variable_name []) h.1)
      named x (inr h) = inr (h.0, ap (is_variable_name []) h.2 ∙ literal_no_name [] h.0, ap (fixed_value []) h.2 ∙ small_literal [] h.0 h.1, h.2)

      all_none : (xs : List (List ℕ)) → Each (λ x. (w : ℤ) → constant_value [] (meaning [] x) ≡ Some w → constant_value q.constants (meaning [] x) ≡ Some w) xs
      all_none [] = tt
      all_none (x ∷ xs) = ((λ w e. absurd cc), all_none xs)

      no_name_there : (a : ExprTree) → Each (Reads us v) (expr_names a) → is_variable_name (constants_of v) a ≡ false → is_variable_name [] (replaced meant a) ≡ false
      no_name_there (Int m) reads h = refl
      no_name_there (Var x) reads h = go (name_of x reads.0) (value_named (constants_of v) x) refl h
        where
          go : NameOf x → (o : Option ℤ) → value_named (constants_of v) x ≡ o → not (is_some o) ≡ false → is_variable_name [] (meaning meant x) ≡ false
          go name None e l = absurd cc
          go (formal is a l r left right s) (Some m) e h = let z : None ≡ Some m = sym (plain.formals x is) ∙ e in absurd cc
          go (constant w value left right) (Some m) e h = ap (is_variable_name []) right ∙ literal_no_name [] w
          go (local y unvalued left right named) (Some m) e h = let z : None ≡ Some m = sym unvalued ∙ e in absurd cc
      no_name_there (Element x es) reads h = refl
      no_name_there (Neg a) reads h = refl
      no_name_there (Add a d) reads h = refl
      no_name_there (Sub a d) reads h = refl
      no_name_there (Mul a d) reads h = refl
      no_name_there (Div a d) reads h = refl
      no_name_there (Pow a d) reads h = refl
      no_name_there (Call g es) reads h = refl
