-- Statements of a unit and their expansion stand alike, and so do CALLs and their blocks, however deep CALLs stand in one another.
use Rattle.std.proofs.Common.{◌≡◌, ℕ, zero, suc, ◌+◌, ◌≤◌, ◌<◌, ℤ, pos, List, [], ◌∷◌, ◌++◌, map, length, Bool, true, false, ◌==◌, eqb-true, Option, Some, None, refl, sym, ap, ◌∙◌, subst, inl, inr, arith, if◌then◌else◌}
use Rattle.std.specs.List.{flat_map}
use Rattle.std.specs.Option.{unwrap_or}
use Rattle.std.proofs.lemmas.Bool.{and_parts}
use Rattle.std.proofs.lemmas.List.{map-append}
use Rattle.ped_base.specs.Lists.{is_same_text, is_among}
use Rattle.ped_tree.specs.Accesses.{listed}
use Rattle.ped_tree.specs.Constants.ConstantExpressions.{constant_value}
use Rattle.ped_tree.specs.NamesIn.{expr_names, cond_names, item_names, head_names, stmt_names, stmts_names, loop_variables, all_loop_variables}
use Rattle.ped_tree.specs.Numbering.{statement_count, statements_count}
use Rattle.ped_tree.specs.Tree.{ExprTree, CondTree, Rel, Not, And, Or, ItemTree, Value, Text, Head, StmtTree, StmtTrees, Assign, If, Do, Print, Read, Stop, Comment, no_stmts, more_stmts}
use Rattle.ped_steps.specs.ped_symbols.specs.Values.{Values}
use Rattle.ped_calls.specs.ped_units.specs.Forms.{Called}
use Rattle.ped_calls.specs.ped_units.specs.Units.{ProgramUnit, ProgramUnits, all_units, unit_among, unit_of, call_of}
use Rattle.ped_calls.specs.ped_units.specs.Linking.{IsIn, assigned_left}
use Rattle.ped_calls.specs.ped_units.specs.Expanding.{Given, Meanings, meaning, name_meant, replaced, cond_replaced, item_replaced, head_replaced, called_replaced, Bound, bound_arguments, body_names, constants_of, with_formals, with_constants, Renamed, meanings_in, behind_stmts, call_comment, Expanded, AllExpanded, expanded_or, expanded_in, all_expanded_in, unit_expanded, call_expanded, nothing_given}
use Rattle.ped_steps.specs.ped_eval.specs.Loops.{increment}
use Rattle.ped_steps.specs.ped_eval.specs.Scopes.{Setting}
use Rattle.ped_call_runs.specs.UnitRuns.{own, is_own, Instance, number_inside, called_instance, stmts_replaced, call_stays, count_or, sized, all_sized, size_in, call_size}
use Rattle.ped_call_runs.proofs.EachNames.{Each, each_front, each_behind, each_map, each_joined, each_two}
use Rattle.ped_call_runs.proofs.FollowingStores.{Bond, is_bound, is_slack}
use Rattle.ped_call_runs.proofs.FollowingNames.{MeansAlike, NamedAlike}
use Rattle.ped_call_runs.proofs.FollowingLoops.{all_named, all_bound, HeadsAlike}
use Rattle.ped_call_runs.proofs.FollowingStatements.{AssignStands, Stands, AllStand}
use Rattle.ped_call_runs.proofs.FollowingDepths.{UnitHolds, Holds}
use Rattle.ped_call_runs.proofs.EachCalls.{OfCall, EachCall, AllCalls, UnitFits, FitsAt}
use Rattle.ped_call_runs.proofs.GivenMore.{GivesMore, gives_then, arguments_give, renamed_give, statement_gives, statements_give}
use Rattle.ped_call_runs.proofs.Traces.{Trace, nothing_traced, traced_before, arguments_traced, locals_traced, CallTraced, traced_or, traced, all_traced, unit_traced, call_traced}
use Rattle.ped_call_runs.proofs.TraceNumbers.{IsCounted, CallsCount, counted, all_counted, AreCounted, arguments_counted}
use Rattle.ped_call_runs.proofs.TraceCalls.{as_many, front_counts, block_count, calls_count}
use Rattle.ped_call_runs.proofs.PlacedNumbers.{IsPlaced, placed_first, placed_second, placed_inside, placed_arguments, placed_body}
use Rattle.ped_call_runs.proofs.OwnNames.{firsts, IsOwnIn, among_joined, outside_in}
use Rattle.ped_call_runs.proofs.TraceOwn.{arguments_own, locals_own, locals_outside}
use Rattle.ped_call_runs.proofs.TraceRanges.{AreOwnPairs, CallsOwn, owned, all_owned, calls_owned, formals_entered, meant_length}
use Rattle.ped_call_runs.proofs.RenamedEntries.{HasPair, pair_front, pair_behind}
use Rattle.ped_call_runs.proofs.FirstBonds.{first_slack}
use Rattle.ped_call_runs.proofs.MeaningEntries.{constants_kept}
use Rattle.ped_call_runs.proofs.ConstantValues.{constant_kept, unreplaced}
use Rattle.ped_call_runs.proofs.WrittenNames.{IsName}
use Rattle.ped_call_runs.proofs.EachElements.{EachElement, AllElements, OrElements, StmtElements, StmtsElements, elements_two, cond_elements_two, items_elements_two, targets_elements_two}
use Rattle.ped_call_runs.proofs.UnitNames.{HasPlainNames}
use Rattle.ped_call_runs.proofs.UnitArrays.{IsArray}
use Rattle.ped_call_runs.proofs.SuitedUnits.{each_left, each_item, Reads, Writes, CallSuits, OrCallSuits, HeadSuits, Suits, AllSuit, unit_suits, head_variable, head_bounds, loops_named}
use Rattle.ped_call_runs.proofs.Contexts.{WrittenName, meant_written, written_in, IsWithin, firsts_joined, only_first, within_first, within_second, within_fewer, IsPiece, Context, Telling}
use Rattle.ped_call_runs.proofs.ArgumentsStand.{Facts, arguments_of}
use Rattle.ped_call_runs.proofs.CalledContexts.{called_context, called_telling}

-- names in conditions and items that are written
module _ (k : Meanings) where
  written_cond : (c : CondTree) → Each IsName (cond_names (cond_replaced k c)) → Each (WrittenName k) (cond_names c)
  written_cond (Rel r a b) h =
      each_joined (WrittenName k) (expr_names a) (expr_names b) (written_in k a (each_front IsName (expr_names (replaced k a)) (expr_names (replaced k b)) h)) (written_in k b (each_behind IsName (expr_names (replaced k a)) (expr_names (replaced k b)) h))
  written_cond (Not a) h = written_cond a h
  written_cond (And a b) h =
      each_joined (WrittenName k) (cond_names a) (cond_names b) (written_cond a (each_front IsName (cond_names (cond_replaced k a)) (cond_names (cond_replaced k b)) h)) (written_cond b (each_behind IsName (cond_names (cond_replaced k a)) (cond_names (cond_replaced k b)) h))
  written_cond (Or a b) h =
      each_joined (WrittenName k) (cond_names a) (cond_names b) (written_cond a (each_front IsName (cond_names (cond_replaced k a)) (cond_names (cond_replaced k b)) h)) (written_cond b (each_behind IsName (cond_names (cond_replaced k a)) (cond_names (cond_replaced k b)) h))

  written_item : (item : ItemTree) → Each IsName (item_names (item_replaced k item)) → Each (WrittenName k) (item_names item)
  written_item (Value e) h = written_in k e h
  written_item (Text text) h = tt

  written_items : (items : List ItemTree) → Each IsName (flat_map item_names (map (item_replaced k) items)) → Each (WrittenName k) (flat_map item_names items)
  written_items [] h = tt
  written_items (item ∷ rest) h =
      each_joined (WrittenName k) (item_names item) (flat_map item_names rest)
      (written_item item (each_front IsName (item_names (item_replaced k item)) (flat_map item_names (map (item_replaced k) rest)) h))
      (written_items rest (each_behind IsName (item_names (item_replaced k item)) (flat_map item_names (map (item_replaced k) rest)) h))

  written_targets : (items : List ExprTree) → Each IsName (flat_map expr_names (map (replaced k) items)) → Each (WrittenName k) (flat_map expr_names items)
  written_targets [] h = tt
  written_targets (e ∷ rest) h =
      each_joined (WrittenName k) (expr_names e) (flat_map expr_names rest)
      (written_in k e (each_front IsName (expr_names (replaced k e)) (flat_map expr_names (map (replaced k) rest)) h))
      (written_targets rest (each_behind IsName (expr_names (replaced k e)) (flat_map expr_names (map (replaced k) rest)) h))

  written_list : (xs : List (List ℕ)) → Each IsName (map (name_meant k) xs) → Each (WrittenName k) xs
  written_list [] h = tt
  written_list (x ∷ xs) h = (meant_written k x h.0, written_list xs h.1)

-- the variables of loops in statements without CALLs
module _ {S : Type 0} (m : Meanings) (f : Called → S → Expanded S) where
  assign_loops : (l r : ExprTree) (state : S) (o : Option Called) → OfCall (λ c. ⊥) o → loop_variables (expanded_or m f (Assign l r) state o).statement ≡ []
  assign_loops l r state None h = refl
  assign_loops l r state (Some c) h = absurd h

  mutual
    loop_made : (t : StmtTree) (state : S) → EachCall (λ c. ⊥) t → loop_variables (expanded_in m f t state).statement ≡ map (name_meant m) (loop_variables t)
    loop_made (Assign l r) state h = assign_loops (replaced m l) (replaced m r) state (call_of l r) h
    loop_made (If c x y) state h =
        (λ i. loops_made x state h.0 i ++ loops_made y (all_expanded_in m f x state).state h.1 i) ∙ sym (map-append (name_meant m) (all_loop_variables x) (all_loop_variables y))
    loop_made (Do head body) state h = λ i. name_meant m head.variable ∷ loops_made body state h i
    loop_made (Print items) state h = refl
    loop_made (Read items) state h = refl
    loop_made Stop state h = refl
    loop_made (Comment text) state h = refl

    loops_made : (ts : StmtTrees) (state : S) → AllCalls (λ c. ⊥) ts → all_loop_variables (all_expanded_in m f ts state).statements ≡ map (name_meant m) (all_loop_variables ts)
    loops_made no_stmts state h = refl
    loops_made (more_stmts t rest) state h =
        (λ i. loop_made t state h.0 i ++ loops_made rest (expanded_in m f t state).state h.1 i) ∙ sym (map-append (name_meant m) (loop_variables t) (all_loop_variables rest))

-- numbers of parts
same_le : (n : ℕ) → n ≤ n
same_le n = omega (arith)

one_le : (n a : ℕ) → n + 1 ≤ n + 1 + a
one_le n a = omega (arith)

part_le : (n a b : ℕ) → n + a ≤ n + a + b
part_le n a b = omega (arith)

sums_le : (n a b : ℕ) → n + a + b ≤ n + (a + b)
sums_le n a b = omega (arith)

inner_le : (n a : ℕ) → n + 1 + a ≤ n + (1 + a)
inner_le n a = omega (arith)

inner_two_le : (n a b : ℕ) → n + 1 + a + b ≤ n + (1 + a + b)
inner_two_le n a b = omega (arith)

next_le : (n : ℕ) → n ≤ n + 1
next_le n = omega (arith)

lower_le : (lo n : ℕ) → lo ≤ n → lo ≤ n + 1
lower_le lo n h = omega (arith, h)

further_le : (lo n a : ℕ) → lo ≤ n → lo ≤ n + a
further_le lo n a h = omega (arith, h)

call_less : (n many within : ℕ) → n < n + (0 + 1 + many + within)
call_less n many within = omega (arith)

body_le : (n many within : ℕ) → n + 1 + many + within ≤ n + (0 + 1 + many + within)
body_le n many within = omega (arith)

before_inside : (n many : ℕ) → n < n + 1 + many
before_inside n many = omega (arith)

behind_first : (j : ℕ) → j < j + 1 + 0
behind_first j = omega (arith)

first_positive : (j : ℕ) → 0 < j + 1 + 0
first_positive j = omega (arith)

-- a name of the CALL's own, among those of CALLs with lesser numbers
own_before : (n : ℕ) (x : List ℕ) (hi : ℕ) → n < hi → IsOwnIn n hi (own n x)
own_before n x hi h = record { number = n; name = x; is = refl; from = same_le n; to = h }

-- a unit, or another where there is none
abbrev unit_or : ProgramUnit → Option ProgramUnit → ProgramUnit
unit_or u None = u
unit_or u (Some w) = w

-- the unit of a name is one of the units
pub unit_found : (vs : List ProgramUnit) (x : List ℕ) (v : ProgramUnit) → unit_among vs x ≡ Some v → IsIn v vs
unit_found [] x v h = absurd cc
unit_found (u ∷ us) x v h = go (is_same_text x u.name) h (unit_found us x v)
  where
    go : (t : Bool) → (if t then Some u else unit_among us x) ≡ Some v → (unit_among us x ≡ Some v → IsIn v us) → IsIn v (u ∷ us)
    go true e more = inl (sym (ap (unit_or u) e))
    go false e more = inr (more e)

-- a name of the CALL's own
own_form : (n : ℕ) (x : List ℕ) → is_own n x ≡ true → (z : List ℕ) × (x ≡ own n z)
own_form n [] h = absurd cc
own_form n (c ∷ []) h = absurd cc
own_form n (c ∷ m ∷ z) h =
    let parts = and_parts (c == 0) (m == n) h in
    let zero_first : c ≡ 0 = eqb-true c 0 parts.0 in
    let same : m ≡ n = eqb-true m n parts.1 in
    (z, λ i. zero_first i ∷ same i ∷ z)

-- behind the assignments of a block
behind_assignments : (ss : List StmtTree) (body : StmtTrees) → Each IsName (stmts_names (behind_stmts ss body)) → Each IsName (stmts_names body)
behind_assignments [] body h = h
behind_assignments (s ∷ ss) body h = behind_assignments ss body (each_behind IsName (stmt_names s) (stmts_names (behind_stmts ss body)) h)

module _ (us : ProgramUnits) (pairs : List (List ℕ × List ℕ)) (gaps : List ℕ) (top : Given) (f : List ℕ → List ℕ) (q : Setting) (facts : Facts us pairs gaps top f q) (plain : (u : ProgramUnit) → IsIn u (all_units us) → HasPlainNames u)
    (arrays : (u : ProgramUnit) → IsIn u (all_units us) → StmtsElements (IsArray u) u.tree.body) where
  abbrev Piece : ℕ → ℕ → ℕ → ℕ → Trace → List (List ℕ) → Given → Given → Type 0
  Piece n j size count t names g h = IsPiece us pairs gaps top f q n j size count t names g h

  module _ (depth : ℕ) (u : ProgramUnit) (lo : ℕ) (b : List ℕ → Bond) (k : Meanings) (i : Instance) (context : Context us pairs gaps top f q u lo b k i) (constants : Values) where
    abbrev inner : Called → Given → Expanded Given
    inner = call_expanded depth us constants

    abbrev size : Called → ℕ
    size = call_size depth us

    abbrev call : CallTraced
    call = call_traced depth us constants k

    abbrev fits : Called → Type 0
    fits = FitsAt us depth

    abbrev holds : Called → ℕ → ℕ → Given → Type 0
    holds = Holds us f q depth b k i constants

    -- each CALL of the unit stands alike
    abbrev pub CallsStand : Type 0
    CallsStand = (c : Called) → CallSuits us u c → AllElements (IsArray u) c.arguments → FitsAt us depth c → (n j : ℕ) (g : Given) → lo ≤ n
        → IsPiece us pairs gaps top f q n j (call_size depth us c) (statement_count (call_expanded depth us constants (called_replaced k c) g).statement) (call_traced depth us constants k c n j g) (stmt_names (call_expanded depth us constants (called_replaced k c) g).statement) g (call_expanded depth us constants (called_replaced k c) g).state
        → Holds us f q depth b k i constants c n j g

    means : (xs : List (List ℕ)) → Each (Reads us u) xs → Each (WrittenName k) xs → Each (MeansAlike b f i.setting q i.stands k) xs
    means xs h w = each_two (Reads us u) (WrittenName k) (MeansAlike b f i.setting q i.stands k) xs context.reads h w

    named : (xs : List (List ℕ)) → Each (Writes us u) xs → Each (WrittenName k) xs → Each (NamedAlike b f i.setting q i.stands k) xs
    named xs h w = each_two (Writes us u) (WrittenName k) (NamedAlike b f i.setting q i.stands k) xs context.writes h w

    -- names that are read, and as they are written
    abbrev ReadName : List ℕ → Type 0
    ReadName x = Reads us u x × WrittenName k x

    read_names : (xs : List (List ℕ)) → Each (Reads us u) xs → Each (WrittenName k) xs → Each ReadName xs
    read_names xs h w = each_two (Reads us u) (WrittenName k) ReadName xs (λ x r w. (r, w)) h w

    array : (x : List ℕ) → IsArray u x → ReadName x → NamedAlike b f i.setting q i.stands k x
    array x h r = context.arrays x r.0 h r.1

    elements : (e : ExprTree) → EachElement (IsArray u) e → Each (Reads us u) (expr_names e) → Each (WrittenName k) (expr_names e) → EachElement (NamedAlike b f i.setting q i.stands k) e
    elements e h r w = elements_two (IsArray u) ReadName (NamedAlike b f i.setting q i.stands k) array e h (read_names (expr_names e) r w)

    -- a statement that counts as one in the unit and in the expansion
    one_number : (n j : ℕ) → IsPlaced gaps n j 1 [] → q.number j ≡ i.setting.number n
    one_number n j placed = facts.number n j 1 1 nothing_traced placed (record { sizes = refl; range = tt }) ∙ sym (context.number n)

    counts : CallsCount k size inner call fits
    counts c h = calls_count us depth constants k c h

    owns : CallsOwn k size inner call fits
    owns c h = calls_owned us depth constants k c h

    or_stands : CallsStand → (l r : ExprTree) (n j : ℕ) (g : Given) → lo ≤ n → (o : Option Called) → OrCallSuits us u l r o → OrElements (IsArray u) l r o → OfCall fits o
        → Piece n j (count_or size o) (statement_count (expanded_or k inner (Assign (replaced k l) (replaced k r)) g o).statement) (traced_or call n j g o) (stmt_names (expanded_or k inner (Assign (replaced k l) (replaced k r)) g o).statement) g (expanded_or k inner (Assign (replaced k l) (replaced k r)) g o).state
        → AssignStands b f q k size inner holds i l r n j g o
    or_stands calls l r n j g less None suits has fit piece =
        let left = written_in k l (each_front IsName (expr_names (replaced k l)) (expr_names (replaced k r)) piece.names) in
        let right = written_in k r (each_behind IsName (expr_names (replaced k l)) (expr_names (replaced k r)) piece.names) in
        record {
          number = one_number n j piece.placed;
          in_left = means (expr_names l) suits.in_left left;
          in_right = means (expr_names r) suits.in_right right;
          left_elements = elements l has.0 suits.in_left left;
          right_elements = elements r has.1 suits.in_right right;
          assigned = named (assigned_left l) suits.assigned (each_left (WrittenName k) l left);
        }
    or_stands calls l r n j g less (Some c) suits has fit piece = calls c suits has fit n j g less piece

    -- the increment has one value
    step_alike : (h : Head) (body : StmtTrees) → HeadSuits us u h body → increment q.constants (head_replaced k h) ≡ increment i.setting.constants (head_replaced i.stands h)
    step_alike h body suits =
        let here = ap (constant_value (constants_of u)) (unreplaced h.step) ∙ suits.value.1 in
        let right : constant_value q.constants (replaced k h.step) ≡ Some suits.value.0 =
        constant_kept (constants_of u) q.constants [] k h.step (each_map (Reads us u) (λ x. (v : ℤ) → constant_value (constants_of u) (meaning [] x) ≡ Some v → constant_value q.constants (meaning k x) ≡ Some v) (expr_names h.step) (λ x r v e. (context.fixed x r v e).0) suits.step) suits.value.0 here in
        let left : constant_value i.setting.constants (replaced i.stands h.step) ≡ Some suits.value.0 =
        constant_kept (constants_of u) i.setting.constants [] i.stands h.step (each_map (Reads us u) (λ x. (v : ℤ) → constant_value (constants_of u) (meaning [] x) ≡ Some v → constant_value i.setting.constants (meaning i.stands x) ≡ Some v) (expr_names h.step) (λ x r v e. (context.fixed x r v e).1) suits.step) suits.value.0 here in
        ap (λ (o : Option ℤ). unwrap_or o (pos 1)) (right ∙ sym left)

    head_alike : (h : Head) (body : StmtTrees) (g : Given) → HeadSuits us u h body → Each IsName (head_names (head_replaced k h) ++ stmts_names (all_expanded_in k inner body g).statements)
        → HeadsAlike b f i.setting q i.stands k h (all_loop_variables (stmts_replaced i.stands body)) (all_loop_variables (all_expanded_in k inner body g).statements)
    head_alike h body g suits names =
        let made : StmtTrees = (all_expanded_in k inner body g).statements in
        let new : Head = head_replaced k h in
        let head = each_front IsName (head_names new) (stmts_names made) names in
        let inside = each_behind IsName (head_names new) (stmts_names made) names in
        let bounds = head_bounds IsName new head in
        let three = each_front IsName (expr_names new.first ++ expr_names new.last ++ expr_names new.step) new.private bounds in
        let two = each_front IsName (expr_names new.first ++ expr_names new.last) (expr_names new.step) three in
        let private = each_behind IsName (expr_names new.first ++ expr_names new.last ++ expr_names new.step) new.private bounds in
        record {
          first = means (expr_names h.first) suits.first (written_in k h.first (each_front IsName (expr_names new.first) (expr_names new.last) two));
          last = means (expr_names h.last) suits.last (written_in k h.last (each_behind IsName (expr_names new.first) (expr_names new.last) two));
          step = step_alike h body suits;
          variable = context.writes h.variable suits.variable (meant_written k h.variable (head_variable IsName new head));
          private = named h.private suits.private (written_list k h.private private);
          inner = λ parallel.
              loops_made k inner body g (suits.no_call parallel)
              ∙ all_named b f facts.twice i.setting q i.stands k (all_loop_variables body) (inner_named parallel inside)
              ∙ ap (map f) (sym (loops_made i.stands call_stays body tt (suits.no_call parallel)));
          inner_bound = λ parallel.
              subst (Each (λ y. is_bound (b y) ≡ true)) (sym (loops_made i.stands call_stays body tt (suits.no_call parallel))) (all_bound b f facts.twice i.setting q i.stands k (all_loop_variables body) (inner_named parallel inside));
        }
      where
        inner_named : h.parallel ≡ true → Each IsName (stmts_names (all_expanded_in k inner body g).statements) → Each (NamedAlike b f i.setting q i.stands k) (all_loop_variables body)
        inner_named parallel inside =
            named (all_loop_variables body) suits.inner
            (written_list k (all_loop_variables body) (subst (Each IsName) (loops_made k inner body g (suits.no_call parallel)) (loops_named IsName (all_expanded_in k inner body g).statements inside)))

    head_elements : (h : Head) (body : StmtTrees) (g : Given) → HeadSuits us u h body → EachElement (IsArray u) h.first × EachElement (IsArray u) h.last → Each IsName (head_names (head_replaced k h) ++ stmts_names (all_expanded_in k inner body g).statements)
        → EachElement (NamedAlike b f i.setting q i.stands k) h.first × EachElement (NamedAlike b f i.setting q i.stands k) h.last
    head_elements h body g suits has names =
        let new : Head = head_replaced k h in
        let bounds = head_bounds IsName new (each_front IsName (head_names new) (stmts_names (all_expanded_in k inner body g).statements) names) in
        let three = each_front IsName (expr_names new.first ++ expr_names new.last ++ expr_names new.step) new.private bounds in
        let two = each_front IsName (expr_names new.first ++ expr_names new.last) (expr_names new.step) three in
        (elements h.first has.0 suits.first (written_in k h.first (each_front IsName (expr_names new.first) (expr_names new.last) two)), elements h.last has.1 suits.last (written_in k h.last (each_behind IsName (expr_names new.first) (expr_names new.last) two)))

    mutual
      stands : CallsStand → (t : StmtTree) (n j : ℕ) (g : Given) → lo ≤ n → Suits us u t → StmtElements (IsArray u) t → EachCall fits t
          → Piece n j (sized size t) (statement_count (expanded_in k inner t g).statement) (traced k size inner call t n j g) (stmt_names (expanded_in k inner t g).statement) g (expanded_in k inner t g).state
          → Stands b f q k size inner holds i t n j g
      stands calls (Assign l r) n j g less suits has fit piece = or_stands calls l r n j g less (call_of l r) suits has fit piece
      stands calls (If c x y) n j g less suits has fit piece =
          let first : AllExpanded Given = all_expanded_in k inner x g in
          let second : AllExpanded Given = all_expanded_in k inner y first.state in
          let cx : ℕ = statements_count first.statements in
          let cy : ℕ = statements_count second.statements in
          let nx : ℕ = all_sized size x in
          let ny : ℕ = all_sized size y in
          let front : Trace = all_traced k size inner call x (n + 1) (j + 1) g in
          let behind : Trace = all_traced k size inner call y (n + 1 + nx) (j + 1 + cx) first.state in
          let condition = cond_names (cond_replaced k c) in
          let names = each_front IsName (condition ++ stmts_names first.statements) (stmts_names second.statements) piece.names in
          let written = written_cond k c (each_front IsName condition (stmts_names first.statements) names) in
          let placed : IsPlaced gaps (n + 1) (j + 1) (cx + cy) (front.gaps ++ behind.gaps) = placed_inside gaps n j (cx + cy) (front.gaps ++ behind.gaps) piece.placed in
          let within : IsWithin pairs (n + 1) (n + 1 + nx + ny) (front.pairs ++ behind.pairs) = within_fewer pairs n (n + (1 + nx + ny)) (n + 1) (n + 1 + nx + ny) (front.pairs ++ behind.pairs) (next_le n) (inner_two_le n nx ny) piece.within in (
            (
              facts.number n j (1 + nx + ny) (cx + cy + 1) (traced_before front behind) piece.placed (counted k size inner call fits counts (If c x y) n j g fit) ∙ sym (context.number n),
              means (cond_names c) suits.0 written,
              cond_elements_two (IsArray u) ReadName (NamedAlike b f i.setting q i.stands k) array c has.0 (read_names (cond_names c) suits.0 written),
            ),
            all_stand calls x (n + 1) (j + 1) g (lower_le lo n less) suits.1 has.1 fit.0 (record {
              placed = placed_first gaps (n + 1) (j + 1) ny cx cy front behind placed (all_counted k size inner call fits counts y (n + 1 + nx) (j + 1 + cx) first.state fit.1);
              within = within_first pairs (n + 1) (n + 1 + nx) (n + 1 + nx + ny) front.pairs behind.pairs (part_le (n + 1) nx ny) within (all_owned k size inner call fits owns y (n + 1 + nx) (j + 1 + cx) first.state fit.1).own;
              names = each_behind IsName condition (stmts_names first.statements) names;
              before = piece.before;
              later = gives_then first.state second.state top (statements_give depth us constants k y first.state) piece.later;
            }),
            all_stand calls y (n + 1 + nx) (j + 1 + cx) first.state (further_le lo (n + 1) nx (lower_le lo n less)) suits.2 has.2 fit.1 (record {
              placed = placed_second gaps (n + 1) (j + 1) nx cx cy front behind placed (all_counted k size inner call fits counts x (n + 1) (j + 1) g fit.0);
              within = within_second pairs (n + 1) (n + 1) (n + 1 + nx) (n + 1 + nx + ny) front.pairs behind.pairs (one_le n nx) within (all_owned k size inner call fits owns x (n + 1) (j + 1) g fit.0).own;
              names = each_behind IsName (condition ++ stmts_names first.statements) (stmts_names second.statements) piece.names;
              before = gives_then (nothing_given us) g first.state piece.before (statements_give depth us constants k x g);
              later = piece.later;
            }),
          )
      stands calls (Do h body) n j g less suits has fit piece =
          let made : AllExpanded Given = all_expanded_in k inner body g in
          let inside : Trace = all_traced k size inner call body (n + 1) (j + 1) g in (
            head_alike h body g suits.0 piece.names,
            facts.number n j (1 + all_sized size body) (statements_count made.statements + 1) inside piece.placed (counted k size inner call fits counts (Do h body) n j g fit) ∙ sym (context.number n),
            head_elements h body g suits.0 has.0 piece.names,
            all_stand calls body (n + 1) (j + 1) g (lower_le lo n less) suits.1 has.1 fit (record {
              placed = placed_inside gaps n j (statements_count made.statements) inside.gaps piece.placed;
              within = within_fewer pairs n (n + (1 + all_sized size body)) (n + 1) (n + 1 + all_sized size body) inside.pairs (next_le n) (inner_le n (all_sized size body)) piece.within;
              names = each_behind IsName (head_names (head_replaced k h)) (stmts_names made.statements) piece.names;
              before = piece.before;
              later = piece.later;
            }),
          )
      stands calls (Print items) n j g less suits has fit piece =
          let written = written_items k items piece.names in (
            one_number n j piece.placed,
            means (flat_map item_names items) suits written,
            items_elements_two (IsArray u) ReadName (NamedAlike b f i.setting q i.stands k) array items has (read_names (flat_map item_names items) suits written),
          )
      stands calls (Read items) n j g less suits has fit piece =
          let written = written_targets k items piece.names in (
            one_number n j piece.placed,
            means (flat_map expr_names items) suits.0 written,
            named (flat_map assigned_left items) suits.1 (each_item (WrittenName k) items written),
            targets_elements_two (IsArray u) ReadName (NamedAlike b f i.setting q i.stands k) array items has (read_names (flat_map expr_names items) suits.0 written),
          )
      stands calls Stop n j g less suits has fit piece = tt
      stands calls (Comment text) n j g less suits has fit piece = tt

      pub all_stand : CallsStand → (ts : StmtTrees) (n j : ℕ) (g : Given) → lo ≤ n → AllSuit us u ts → StmtsElements (IsArray u) ts → AllCalls (FitsAt us depth) ts
          → IsPiece us pairs gaps top f q n j (all_sized (call_size depth us) ts) (statements_count (all_expanded_in k (call_expanded depth us constants) ts g).statements) (all_traced k (call_size depth us) (call_expanded depth us constants) (call_traced depth us constants k) ts n j g)
          (stmts_names (all_expanded_in k (call_expanded depth us constants) ts g).statements) g (all_expanded_in k (call_expanded depth us constants) ts g).state
          → AllStand b f q k (call_size depth us) (call_expanded depth us constants) (Holds us f q depth b k i constants) i ts n j g
      all_stand calls no_stmts n j g less suits has fit piece = tt
      all_stand calls (more_stmts t rest) n j g less suits has fit piece =
          let made : Expanded Given = expanded_in k inner t g in
          let others : AllExpanded Given = all_expanded_in k inner rest made.state in
          let cx : ℕ = statement_count made.statement in
          let cy : ℕ = statements_count others.statements in
          let nx : ℕ = sized size t in
          let ny : ℕ = all_sized size rest in
          let front : Trace = traced k size inner call t n j g in
          let behind : Trace = all_traced k size inner call rest (n + nx) (j + cx) made.state in
          let within : IsWithin pairs n (n + nx + ny) (front.pairs ++ behind.pairs) = within_fewer pairs n (n + (nx + ny)) n (n + nx + ny) (front.pairs ++ behind.pairs) (same_le n) (sums_le n nx ny) piece.within in (
            stands calls t n j g less suits.0 has.0 fit.0 (record {
              placed = placed_first gaps n j ny cx cy front behind piece.placed (all_counted k size inner call fits counts rest (n + nx) (j + cx) made.state fit.1);
              within = within_first pairs n (n + nx) (n + nx + ny) front.pairs behind.pairs (part_le n nx ny) within (all_owned k size inner call fits owns rest (n + nx) (j + cx) made.state fit.1).own;
              names = each_front IsName (stmt_names made.statement) (stmts_names others.statements) piece.names;
              before = piece.before;
              later = gives_then made.state others.state top (statements_give depth us constants k rest made.state) piece.later;
            }),
            all_stand calls rest (n + nx) (j + cx) made.state (further_le lo n nx less) suits.1 has.1 fit.1 (record {
              placed = placed_second gaps n j nx cx cy front behind piece.placed (counted k size inner call fits counts t n j g fit.0);
              within = within_second pairs n n (n + nx) (n + nx + ny) front.pairs behind.pairs (further_le n n nx (same_le n)) within (owned k size inner call fits owns t n j g fit.0).own;
              names = each_behind IsName (stmt_names made.statement) (stmts_names others.statements) piece.names;
              before = gives_then (nothing_given us) g made.state piece.before (statement_gives depth us constants k t g);
              later = piece.later;
            }),
          )

  -- CALLs of one depth stand alike, wherever they stand
  abbrev pub AllCallsStand : ℕ → Type 0
  AllCallsStand depth = (u : ProgramUnit) (lo : ℕ) (b : List ℕ → Bond) (k : Meanings) (i : Instance) (context : Context us pairs gaps top f q u lo b k i) (constants : Values) → Telling us pairs gaps top f q u k constants → CallsStand depth u lo b k i context constants

  unit_stands : (depth : ℕ) → AllCallsStand depth → (u : ProgramUnit) (lo : ℕ) (b : List ℕ → Bond) (k : Meanings) (i : Instance) → Context us pairs gaps top f q u lo b k i → (constants : Values) → Telling us pairs gaps top f q u k constants
      → (c : Called) → CallSuits us u c → AllElements (IsArray u) c.arguments → (n j : ℕ) (g : Given) → lo ≤ n → (o : Option ProgramUnit) → unit_of us c.name ≡ o → UnitFits (FitsAt us depth) c o
      → Piece n j (size_in (call_size depth us) c o) (statement_count (unit_expanded (call_expanded depth us []) constants (called_replaced k c) g o).statement) (unit_traced depth us (call_traced depth us []) k constants c n j g o)
      (stmt_names (unit_expanded (call_expanded depth us []) constants (called_replaced k c) g o).statement) g (unit_expanded (call_expanded depth us []) constants (called_replaced k c) g o).state
      → UnitHolds us f q (Holds us f q depth) depth b k i constants c n j g o
  unit_stands depth calls u lo b k i context constants telling c suits has n j g less None is fit piece = tt
  unit_stands depth calls u lo b k i context constants telling c suits has n j g less (Some v) is fit piece =
      let es : List ExprTree = listed (called_replaced k c).arguments in
      let bound : Bound = bound_arguments constants es g in
      let start : Renamed = record { meanings = with_constants (with_formals [] v.formals bound.meant) (constants_of v); given = bound.given } in
      let r : Renamed = meanings_in v bound in
      let first : ℕ = j + 1 + statement_count (call_comment (called_replaced k c)) in
      let made : ℕ = length bound.assignments in
      let body : AllExpanded Given = all_expanded_in r.meanings (call_expanded depth us []) v.tree.body r.given in
      let arguments : Trace = arguments_traced constants n v.formals es first g in
      let locals : List (List ℕ × List ℕ) = locals_traced n v (body_names v) start in
      let inside : Trace = all_traced r.meanings (call_size depth us) (call_expanded depth us []) (call_traced depth us [] r.meanings) v.tree.body (number_inside c n) (first + made) r.given in
      let many : ℕ = length (listed c.arguments) in
      let within : ℕ = all_sized (call_size depth us) v.tree.body in
      let count : ℕ = statements_count body.statements in
      let is_in : IsIn v (all_units us) = inr (unit_found us.others c.name v is) in
      let suits_there : AllSuit us v v.tree.body = unit_suits us facts.linked v is_in (plain v is_in) in
      let many_same : length es ≡ many = as_many k c.arguments in
      let long : length bound.meant ≡ length v.formals = meant_length constants es g ∙ many_same ∙ fit.0 in
      let counted_arguments : AreCounted j first (length es) bound arguments = arguments_counted constants n j v.formals es (many_same ∙ fit.0) first (behind_first j) g in
      let placed : IsPlaced gaps n j (made + count + 1) (arguments.gaps ++ inside.gaps) =
      subst (λ (z : ℕ). IsPlaced gaps n j z (arguments.gaps ++ inside.gaps)) (block_count (called_replaced k c) bound.assignments body.statements ∙ ap (λ (z : ℕ). z + 1) (front_counts constants es g body.statements)) piece.placed in
      let counted_inside : IsCounted (first + made) within count inside =
      all_counted r.meanings (call_size depth us) (call_expanded depth us []) (call_traced depth us [] r.meanings) (FitsAt us depth) (λ d h. calls_count us depth [] r.meanings d h) v.tree.body (number_inside c n) (first + made) r.given fit.2 in
      let owned_inside : AreOwnPairs (number_inside c n) (number_inside c n + within) inside.pairs =
      all_owned r.meanings (call_size depth us) (call_expanded depth us []) (call_traced depth us [] r.meanings) (FitsAt us depth) (λ d h. calls_owned us depth [] r.meanings d h) v.tree.body (number_inside c n) (first + made) r.given fit.2 in
      let names : Each IsName (stmts_names (behind_stmts bound.assignments body.statements)) = each_front IsName (stmts_names (behind_stmts bound.assignments body.statements)) [] piece.names in
      let to_come : GivesMore r.given top = gives_then r.given body.state top (statements_give depth us [] r.meanings v.tree.body r.given) piece.later in
      let so_far : GivesMore (nothing_given us) bound.given = gives_then (nothing_given us) g bound.given piece.before (arguments_give constants es g) in
      let of_locals : (x y : List ℕ) → IsName y → HasPair x y locals → HasPair x y pairs = λ x y is h. piece.within.inside x y is (pair_behind x y arguments.pairs (locals ++ inside.pairs) (pair_front x y locals inside.pairs h)) in
      let args =
      arguments_of us pairs gaps top f q facts u lo b k i context constants telling v c n body.statements c.arguments fit.0 fit.1 suits.arguments has (λ a m. m) (n + 1) first g
      (first_positive j) count inside.gaps (placed_arguments gaps n j (made + count) (arguments.gaps ++ inside.gaps) placed)
      counted_inside.range
      (λ x m. context.unknown n x less)
      (λ x y is h. piece.within.inside x y is (pair_front x y arguments.pairs (locals ++ inside.pairs) h))
      (λ x m h.
      let entry = formals_entered v.formals bound.meant [] long x m in
      only_first (is_among (own n x) (firsts arguments.pairs)) (is_among (own n x) (firsts (locals ++ inside.pairs)))
      (sym (firsts_joined (own n x) arguments.pairs (locals ++ inside.pairs)) ∙ piece.within.only n x (same_le n) (call_less n many within) h)
      (among_joined (own n x) locals inside.pairs
      (locals_outside n v (body_names v) start x entry.0 (constants_kept (constants_of v) (with_formals [] v.formals bound.meant) x entry.0 entry.1))
      (outside_in n (number_inside c n) (number_inside c n + within) (own n x) inside.pairs (own_before n x (number_inside c n) (before_inside n many)) owned_inside.own)))
      names piece.before (gives_then bound.given r.given top (renamed_give v (body_names v) start) to_come) in
      let context_there =
      called_context us pairs gaps top f q facts u lo b k i context constants telling v c n less body.statements suits.place suits.is_call suits.is is is_in (plain v is_in) fit.0 fit.1 bound args.after args.keeps args.others args.formals so_far to_come of_locals in
      let telling_there =
      called_telling us pairs gaps top f q facts u lo b k i context constants telling v c n less body.statements suits.place suits.is_call suits.is is is_in (plain v is_in) fit.0 fit.1 bound args.after args.keeps args.others args.formals so_far to_come of_locals in
      record {
        after = args.after;
        own_names = λ x h.
            let form = own_form n x h in
            subst (λ (y : List ℕ). is_slack (b y) ≡ true) (sym form.1) (ap is_slack (context.unknown n form.0 less) ∙ first_slack pairs n (own n form.0) (ap (is_own n) (sym form.1) ∙ h));
        arguments = args.alike;
        body = all_stand depth v (number_inside c n) args.after r.meanings (called_instance i n v c) context_there [] (calls v (number_inside c n) args.after r.meanings (called_instance i n v c) context_there [] telling_there)
            v.tree.body (number_inside c n) (first + made) r.given (same_le (number_inside c n)) suits_there (arrays v is_in) fit.2 (record {
              placed = placed_body gaps n j many made count arguments.gaps inside.gaps placed (sym many_same ∙ counted_arguments.sizes) counted_arguments.range;
              within = within_fewer pairs (n + 1) (n + (0 + 1 + many + within)) (number_inside c n) (number_inside c n + within) inside.pairs (one_le n many) (body_le n many within)
                  (within_second pairs n (n + 1) (n + 1) (n + (0 + 1 + many + within)) locals inside.pairs (same_le (n + 1))
                  (within_second pairs n n (n + 1) (n + (0 + 1 + many + within)) arguments.pairs (locals ++ inside.pairs) (next_le n) piece.within (arguments_own constants n v.formals es first g))
                  (locals_own n v (body_names v) start));
              names = behind_assignments bound.assignments body.statements names;
              before = gives_then (nothing_given us) bound.given r.given so_far (renamed_give v (body_names v) start);
              later = piece.later;
            });
      }

  -- CALLs of any depth
  pub calls_stand : (depth : ℕ) → AllCallsStand depth
  calls_stand zero u lo b k i context constants telling c suits has fit n j g less piece = tt
  calls_stand (suc depth) u lo b k i context constants telling c suits has fit n j g less piece = unit_stands depth (calls_stand depth) u lo b k i context constants telling c suits has n j g less (unit_of us c.name) refl fit piece
