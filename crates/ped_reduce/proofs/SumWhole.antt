-- A DO with a list, its sums kept apart and its exits behind it: where the DO goes on, these do, and leave what it leaves but in the new arrays.
use Rattle.std.proofs.Common.{◌≡◌, ℕ, zero, suc, ◌+◌, ◌-◌, ◌≤◌, ◌<◌, ℤ, pos, ◌+ℤ◌, ◌-ℤ◌, ◌*ℤ◌, List, [], ◌∷◌, ◌++◌, Bool, true, false, ◌||◌, inl, inr, Some, None, Result, Ok, Err, refl, sym, ap, subst, ◌∙◌, if◌then◌else◌, arith}
use Rattle.std.specs.List.{list_any}
use Rattle.std.proofs.Math.IntN.{*ℤ_comm}
use Rattle.std.specs.Prelude.{unsigned_abs}
use Rattle.std.proofs.lemmas.Bool.{both_ways, or_parts}
use Rattle.std.proofs.lemmas.Int.{ints}
use Rattle.ped_rules.specs.ped_views.proofs.Products.{linear, abs_some, sub-mul, small_multiple}
use Rattle.std.proofs.lemmas.List.Folds.{list_any-append}
use Rattle.ped_base.specs.Dimensions.{Dimensions}
use Rattle.ped_base.specs.Lists.{is_same_text, is_among}
use Rattle.ped_base.proofs.NameEquality.{same_is, same_itself}
use Rattle.ped_tree.specs.Constants.NamedConstants.{value_named}
use Rattle.ped_tree.specs.Constants.ConstantExpressions.{constant_value}
use Rattle.ped_tree.specs.Tree.{Head, StmtTrees, Do, more_stmts}
use Rattle.ped_tree.specs.Numbering.{statements_count}
use Rattle.ped_rules.specs.ped_steps.specs.Replacing.{followed, alone}
use Rattle.ped_rules.specs.ped_store.specs.Cells.{Cell, Scalar, Element, Private, In, Out, same_cell}
use Rattle.ped_rules.specs.ped_store.specs.Stores.{Undefined, Number, Store, put}
use Rattle.ped_rules.specs.ped_store.specs.Storage.{is_within}
use Rattle.ped_rules.specs.ped_store.specs.Acts.{Manner, reads, writes, is_told, Touch, Turn, Place, entered, ended_turn, Act, store_behind, touched, iterations_of}
use Rattle.ped_rules.specs.ped_laws.specs.Acts.Orders.{IsIn}
use Rattle.ped_rules.specs.ped_laws.proofs.ActLaws.SameCells.{cell_itself, cell_is}
use Rattle.ped_rules.specs.ped_laws.proofs.ActLaws.Lists.{in_parts}
use Rattle.ped_rules.specs.ped_laws.proofs.ActLaws.Stores.{put_same, put_other, behind_append}
use Rattle.ped_rules.specs.ped_eval.specs.Scopes.{Setting, Frame, Scope, turns_of, cell_of, index_value, Names, names_in, place_of}
use Rattle.ped_rules.specs.ped_eval.specs.Evaluation.{Seen, Evaluated, onward, ◌>>>◌, given, number_behind}
use Rattle.ped_rules.specs.ped_eval.specs.Values.{value}
use Rattle.ped_rules.specs.ped_eval.specs.Loops.{Limits, limits, in_bounds, increment, iteration_count, inner_variables, Entered, entered_with, copied_names, frame, value_in, undefined_by, undefined_all, left_in_variable, exit_touches, exit_when_none, entry_touches}
use Rattle.ped_rules.specs.ped_eval.specs.Runs.{going, Run, does, on_value, turns, run_entered, run_from_entry, run_do, run, run_all}
use Rattle.ped_rules.specs.ped_laws.specs.Runs.Replaying.{act}
use Rattle.ped_rules.specs.ped_laws.proofs.CoveringLaws.Comings.{constant_comes}
use Rattle.ped_rules.specs.ped_laws.proofs.FlowRunLaws.Names.{same_cells}
use Rattle.ped_rules.specs.ped_steps.proofs.RunLaws.ConstantBounds.{constant_limits}
use Rattle.ped_reduce.specs.Lowering.{Partials, zeros, all_summed, exits, bare}
use Rattle.ped_reduce.proofs.SumStores.{is_array_of, is_array, is_total, is_apart, part, AreSmall, HaveArrays, total_apart}
use Rattle.ped_reduce.proofs.SumSight.{AllTouch, all_append}
use Rattle.ped_reduce.proofs.SumSteps.{StandsAt, reads_leave}
use Rattle.ped_reduce.proofs.SumParts.{going_then}
use Rattle.ped_reduce.proofs.SumBodies.{AreClear, CountAlike, then_nothing}
use Rattle.ped_reduce.proofs.SumRuns.{NoneTotal, not_total, none_total}
use Rattle.ped_reduce.proofs.SumTrips.{IsCalm, AreNew, new_append}
use Rattle.ped_reduce.proofs.SumTurns.{then_went, going_is, IsOfSums, TurnsGo, when_kept, turns_add}
use Rattle.ped_reduce.proofs.SumExits.{AllDistinct}
use Rattle.ped_reduce.proofs.SumLoops.{told_same, variable_stays, IsOfExits, ExitTurnsGo, exit_turns_go}

-- an element of the new arrays
abbrev pub is_part : List Partials → Cell → Bool
is_part ps (Element x js) = is_array ps x
is_part ps (Scalar x) = false
is_part ps (Private x path) = false
is_part ps In = false
is_part ps Out = false

-- where a list has some item of a kind, there is one
any_gives : {A : Type 0} (f : A → Bool) (xs : List A) → list_any f xs ≡ true → (x : A) × IsIn x xs × (f x ≡ true)
any_gives f [] h = absurd cc
any_gives f (x ∷ xs) h = go (f x) refl h (any_gives f xs)
  where
    go : (b : Bool) → f x ≡ b → (b || list_any f xs) ≡ true → (list_any f xs ≡ true → (y : _) × IsIn y xs × (f y ≡ true)) → (y : _) × IsIn y (x ∷ xs) × (f y ≡ true)
    go true e k more = (x, inl refl, e)
    go false e k more = let y = more k in (y.0, inr y.1, y.2)

-- where a scalar or none of them has the cell
totals_apart : (ps : List Partials) (p : Partials) (c : Cell) → IsIn p ps → is_apart ps c ≡ false → Scalar p.scalar ≡ c → ⊥
totals_apart ps p c i h e = both_ways (is_apart ps c) h (ap (is_apart ps) (sym e) ∙ total_apart ps p i)

-- touches of other cells keep a scalar
behind_elsewhere : (ps : List Partials) (ts : List Touch) (s : Store) (c : Cell) → AllTouch (λ d. is_apart ps d ≡ false) ts → is_apart ps c ≡ true → store_behind ts s c ≡ s c
behind_elsewhere ps [] s c h a = refl
behind_elsewhere ps (t ∷ ts) s c h a = behind_elsewhere ps ts _ c h.1 a ∙ one t.manner
  where
    unlike : same_cell t.cell c ≡ false
    unlike = go (same_cell t.cell c) refl
      where
        go : (b : Bool) → same_cell t.cell c ≡ b → same_cell t.cell c ≡ false
        go true e = absurd (both_ways (is_apart ps t.cell) h.0 (ap (is_apart ps) (cell_is t.cell c e) ∙ a))
        go false e = e

    one : (m : Manner) → touched m t.cell t.content s c ≡ s c
    one writes = put_other t.cell t.content s c unlike
    one reads = refl
    one is_told = refl

-- turns in order
entered_in_order : (b : Bool) (count : ℕ) (e : Entered) (scope : Scope) (at : Place) (body : Frame → Store → Run) (s : Store) → b ≡ false → run_entered b count e scope at body s ≡ turns count 1 e scope at body s
entered_in_order true count e scope at body s h = absurd cc
entered_in_order false zero e scope at body s h = refl
entered_in_order false (suc n) e scope at body s h = refl

-- results alone count for what comes of them
onward_result : {A B : Type 0} (seen other : List Seen) (r z : Result A ℕ) (f h : A → Evaluated B) → r ≡ z → ((x : A) → (f x).result ≡ (h x).result) → (onward seen r f).result ≡ (onward other z h).result
onward_result {A} {B} seen other r z f h e same = subst (λ (y : Result A ℕ). (onward seen r f).result ≡ (onward other y h).result) e (go r)
  where
    go : (y : Result A ℕ) → (onward seen y f).result ≡ (onward other y h).result
    go (Ok x) = same x
    go (Err n) = refl

-- constant bounds give the same limits in each store
limits_constant : (g : Names) (h : Head) (a b : ℤ) → constant_value g.constants h.first ≡ Some a → constant_value g.constants h.last ≡ Some b → (s u : Store) → (limits g h s).result ≡ (limits g h u).result
limits_constant g h a b first last s u =
    onward_result (value g h.first s).seen (value g h.first u).seen (value g h.first s).result (value g h.first u).result
    (λ x. given (in_bounds x) >>> λ m. value g h.last s >>> λ y. given (in_bounds y) >>> λ n. given (Ok (record { first = m; last = n })))
    (λ x. given (in_bounds x) >>> λ m. value g h.last u >>> λ y. given (in_bounds y) >>> λ n. given (Ok (record { first = m; last = n })))
    (constant_comes g s h.first a first ∙ sym (constant_comes g u h.first a first))
    (λ x. onward_result [] [] (in_bounds x) (in_bounds x) (λ m. value g h.last s >>> λ y. given (in_bounds y) >>> λ n. given (Ok (record { first = m; last = n }))) (λ m. value g h.last u >>> λ y. given (in_bounds y) >>> λ n. given (Ok (record { first = m; last = n }))) refl
    (λ m. onward_result (value g h.last s).seen (value g h.last u).seen (value g h.last s).result (value g h.last u).result (λ y. given (in_bounds y) >>> λ n. given (Ok (record { first = m; last = n }))) (λ y. given (in_bounds y) >>> λ n. given (Ok (record { first = m; last = n })))
    (constant_comes g s h.last b last ∙ sym (constant_comes g u h.last b last)) (λ y. refl)))

-- a DO that goes on has been entered
do_went : (p : Setting) (n : ℕ) (scope : Scope) (h : Head) (body : StmtTrees) (r : Frame → Store → Run) (s t : Store) → (run_do p n scope h body r s).ending ≡ going t
    → (l : Limits) × ((limits (names_in p scope) h s).result ≡ Ok l) × ((run_from_entry (limits (names_in p scope) h s).seen (entered_with p n h body (limits (names_in p scope) h s).seen l) scope (place_of p n scope) r s).ending ≡ going t)
do_went p n scope h body r s t e = go (limits (names_in p scope) h s).result refl e
  where
    go : (x : Result Limits ℕ) → (limits (names_in p scope) h s).result ≡ x → (on_value (place_of p n scope) (limits (names_in p scope) h s).seen x (λ seen l. run_from_entry seen (entered_with p n h body seen l) scope (place_of p n scope) r s)).ending ≡ going t
        → (l : Limits) × ((limits (names_in p scope) h s).result ≡ Ok l) × ((run_from_entry (limits (names_in p scope) h s).seen (entered_with p n h body (limits (names_in p scope) h s).seen l) scope (place_of p n scope) r s).ending ≡ going t)
    go (Ok l) q k = (l, q, k)
    go (Err fault) q k = absurd cc

-- and is the run from there
do_is : (p : Setting) (n : ℕ) (scope : Scope) (h : Head) (body : StmtTrees) (r : Frame → Store → Run) (s : Store) (l : Limits) → (limits (names_in p scope) h s).result ≡ Ok l
    → run_do p n scope h body r s ≡ run_from_entry (limits (names_in p scope) h s).seen (entered_with p n h body (limits (names_in p scope) h s).seen l) scope (place_of p n scope) r s
do_is p n scope h body r s l e = ap (λ (x : Result Limits ℕ). on_value (place_of p n scope) (limits (names_in p scope) h s).seen x (λ seen l. run_from_entry seen (entered_with p n h body seen l) scope (place_of p n scope) r s)) e

-- steps that aren't 0 lead to other values
values_differ : (step : ℤ) (i j : ℕ) → (step ≡ pos 0 → ⊥) → i < j → pos j *ℤ step ≡ pos i *ℤ step → ⊥
values_differ step i j moves less e =
    let d = sub-mul (pos j) (pos i) step in
    let none : (pos j -ℤ pos i) *ℤ step ≡ pos 0 = omega (arith, linear, d, e) in
    let some = abs_some step moves in
    let zero : pos j -ℤ pos i ≡ pos 0 = small_multiple step (pos j -ℤ pos i) (subst (λ (z : ℤ). unsigned_abs z < unsigned_abs step) (sym (*ℤ_comm step (pos j -ℤ pos i) ∙ none)) some) in
    omega (arith, ints, zero, less)

-- a scalar's cell is none of these, where the scalar is none of them
cell_others : (ps : List Partials) (scope : Scope) (x : List ℕ) → is_total ps x ≡ false → is_apart ps (cell_of scope x) ≡ false
cell_others ps [] x h = h
cell_others ps (f ∷ fs) x h = go (is_among x f.private) (cell_others ps fs x h)
  where
    go : (b : Bool) → is_apart ps (cell_of fs x) ≡ false → is_apart ps (if b then Private x (iterations_of (turns_of (f ∷ fs))) else cell_of fs x) ≡ false
    go true rest = refl
    go false rest = rest

-- no PARALLEL DO further inside
calm_more : (scope : Scope) (f : Frame) → IsCalm (turns_of scope) → f.turn.parallel ≡ false → IsCalm (turns_of (f ∷ scope))
calm_more scope f outer serial = list_any-append (λ (t : Turn). t.parallel) (turns_of scope) (f.turn ∷ []) ∙ (λ i. outer i || (serial i || false))

module _ (bounds : List ℕ → Dimensions) (constants : List (List ℕ × ℤ)) (f f' : ℕ → ℕ) (ps : List Partials) (arrays : HaveArrays ps) (distinct : AllDistinct ps) (h : Head) (body : StmtTrees) (n m : ℕ) (scope : Scope) (a b : ℤ) where
  abbrev old : Setting
  old = record { bounds = bounds; constants = constants; number = f }

  abbrev new : Setting
  new = record { bounds = bounds; constants = constants; number = f' }

  abbrev g : Names
  g = names_in old scope

  abbrev v : List ℕ
  v = h.variable

  abbrev told : Cell
  told = cell_of scope v

  abbrev step : ℤ
  step = increment constants h

  -- the DO without its list, with zeros before it and its sums kept apart; and the DO of the exits
  abbrev pub new_body : StmtTrees
  new_body = followed (zeros v ps) (all_summed v ps body)

  abbrev pub lowered : StmtTrees
  lowered = more_stmts (Do h new_body) (alone (Do (bare h) (exits v ps)))

  -- a scalar is read from its own cell in all of the DO
  pub record IsOwnScalar (p : Partials) : Type 0 where
    pub variable : value_named constants p.scalar ≡ None
    pub unbound : index_value scope p.scalar ≡ None
    pub own : cell_of scope p.scalar ≡ Scalar p.scalar
    pub unlike : is_same_text p.scalar v ≡ false
    pub unlisted : is_among p.scalar h.private ≡ false

  -- what is asked: the DO is no PARALLEL DO, and none is round it; its bounds are constant, and it moves; its variable is no constant and not in its PRIVATE list; the scalars are read from their own cells, and sums alone refer to them; the elements at its variable's values lie within the bounds; statements that stay count alike
  pub record IsSummable : Type 0 where
    pub serial : h.parallel ≡ false
    pub outer : IsCalm (turns_of scope)
    pub first : constant_value constants h.first ≡ Some a
    pub last : constant_value constants h.last ≡ Some b
    pub moves : step ≡ pos 0 → ⊥
    pub plain : value_named constants v ≡ None
    pub unlisted : is_among v h.private ≡ false
    pub scalars : (p : Partials) → IsIn p ps → IsOwnScalar p
    pub clear : AreClear ps v body
    pub counts : CountAlike f f' v ps body (n + 1) (m + 1 + statements_count (zeros v ps))
    pub number : f n ≡ f' m
    pub inside : (j : ℕ) → 1 ≤ j → j ≤ iteration_count a b step → (p : Partials) (x : List ℕ) → IsIn p ps → is_array_of p x ≡ true → is_within (bounds x) ((a +ℤ pos (j - 1) *ℤ step) ∷ []) ≡ true

  module _ (may : IsSummable) where
    no_total : is_total ps v ≡ false
    no_total = not_total ps v (λ p i. (may.scalars p i).unlike)

    told_apart : is_apart ps told ≡ false
    told_apart = cell_others ps scope v no_total

    module _ (seen : List Seen) where
      abbrev limit : Limits
      limit = record { first = a; last = b }

      abbrev e : Entered
      e = entered_with old n h body seen limit

      copies : copied_names e ≡ h.private
      copies = ap (λ (c : Bool). if c then v ∷ (h.private ++ e.inner) else h.private) may.serial

      none_inside : e.inner ≡ []
      none_inside = ap (λ (c : Bool). inner_variables c body) may.serial

      -- the old DO and the new one are entered alike
      entered_same : e ≡ entered_with new m h new_body seen limit
      entered_same = λ i. record {
        number = may.number i;
        head = h;
        first = a;
        step = step;
        count = iteration_count a b step;
        behind_bounds = number_behind 1 seen;
        inner = (ap (λ (c : Bool). inner_variables c body) may.serial ∙ sym (ap (λ (c : Bool). inner_variables c new_body) may.serial)) i;
      }

      stands : (j : ℕ) → 1 ≤ j → j ≤ e.count → StandsAt ps (names_in old (frame e j ∷ scope)) v (value_in e j) told
      stands j from to = record {
        plain = may.plain;
        index = ap (λ (c : Bool). if c then Some (value_in e j) else index_value scope v) (same_itself v);
        cell = ap (λ (c : Bool). if c then Private v (iterations_of (turns_of (frame e j ∷ scope))) else told) (ap (is_among v) copies ∙ may.unlisted);
        variable = λ p i. (may.scalars p i).variable;
        unbound = λ p i. ap (λ (c : Bool). if c then Some (value_in e j) else index_value scope p.scalar) (may.scalars p i).unlike ∙ (may.scalars p i).unbound;
        own = λ p i. ap (λ (c : Bool). if c then Private p.scalar (iterations_of (turns_of (frame e j ∷ scope))) else cell_of scope p.scalar) (ap (is_among p.scalar) copies ∙ (may.scalars p i).unlisted) ∙ (may.scalars p i).own;
        others = λ x none. cell_others ps (frame e j ∷ scope) x none;
        inside = λ p x i own. may.inside j from to p x i own;
      }

      undefined_apart : (k : ℕ) (xs : List (List ℕ)) → NoneTotal ps xs → AllTouch (λ c. is_apart ps c ≡ false) (undefined_by scope k xs)
      undefined_apart k [] none = tt
      undefined_apart k (x ∷ xs) none = (cell_others ps scope x none.0, undefined_apart (suc k) xs none.1)

      exits_apart : AllTouch (λ c. is_apart ps c ≡ false) (exit_touches e scope)
      exits_apart = (
        told_apart,
        all_append (λ c. is_apart ps c ≡ false) (undefined_by scope e.behind_bounds h.private) (undefined_all scope e.inner) (undefined_apart e.behind_bounds h.private (none_total ps h.private (λ p i. (may.scalars p i).unlisted)))
            (subst (λ (xs : List (List ℕ)). AllTouch (λ c. is_apart ps c ≡ false) (undefined_all scope xs)) (sym none_inside) tt),
      )

      sums : IsOfSums bounds constants f f' ps arrays v told body n m scope e
      sums = record {
        clear = may.clear;
        counts = may.counts;
        calm = λ j. calm_more scope (frame e j) may.outer may.serial;
        outer = may.outer;
        stands = stands;
        exits = exits_apart;
        differ = λ i j from less to same. values_differ step (i - 1) (j - 1) may.moves (omega (arith, from, less)) (cancelled (pos (j - 1) *ℤ step) (pos (i - 1) *ℤ step) same);
      }
        where
          cancelled : (x y : ℤ) → a +ℤ x ≡ a +ℤ y → x ≡ y
          cancelled x y same = omega (arith, linear, same)

      -- the exit leaves its value in the variable
      undefined_other : (k : ℕ) (xs : List (List ℕ)) (u : Store) → is_among v xs ≡ false → store_behind (undefined_by scope k xs) u told ≡ u told
      undefined_other k [] u none = refl
      undefined_other k (x ∷ xs) u none =
          let parts = or_parts (is_same_text v x) (is_among v xs) none in
          undefined_other (suc k) xs (put (cell_of scope x) Undefined u) parts.1 ∙ put_other (cell_of scope x) Undefined u told (same_cells scope x v ∙ parts.0)

      exit_holds : (u : Store) → store_behind (exit_touches e scope) u told ≡ left_in_variable e
      exit_holds u =
          let w = put told (left_in_variable e) u in
          ap (λ (z : Store). z told) (behind_append (undefined_by scope e.behind_bounds h.private) (undefined_all scope e.inner) w)
          ∙ ap (λ (xs : List (List ℕ)). store_behind (undefined_all scope xs) (store_behind (undefined_by scope e.behind_bounds h.private) w) told) none_inside
          ∙ undefined_other e.behind_bounds h.private w may.unlisted
          ∙ put_same told (left_in_variable e) u told (cell_itself told)

      abbrev old_body : Frame → Store → Run
      old_body x = run_all old body (n + 1) (x ∷ scope)

      turns_leave : (left j : ℕ) (s t : Store) → (turns (suc left) j e scope (place_of old n scope) old_body s).ending ≡ going t → t told ≡ left_in_variable e
      turns_leave zero j s t k =
          let w = then_went (old_body (frame e j) s) (does (ended_turn 0) (place_of old n scope) (exit_when_none 0 e scope) (turns 0 (j + 1) e scope (place_of old n scope) old_body)) t k in
          ap (λ (z : Store). z told) (sym (going_is (store_behind (exit_touches e scope) w.0) t w.2)) ∙ exit_holds w.0
      turns_leave (suc left) j s t k =
          let w = then_went (old_body (frame e j) s) (does (ended_turn (suc left)) (place_of old n scope) (exit_when_none (suc left) e scope) (turns (suc left) (j + 1) e scope (place_of old n scope) old_body)) t k in
          turns_leave left (j + 1) (store_behind (exit_when_none (suc left) e scope) w.0) t w.2

      entry_leaves : (s t : Store) (c : ℕ) → e.count ≡ c → (turns c 1 e scope (place_of old n scope) old_body (store_behind (entry_touches seen e scope) s)).ending ≡ going t → t told ≡ left_in_variable e
      entry_leaves s t zero none k =
          ap (λ (z : Store). z told) (sym (going_is (store_behind (entry_touches seen e scope) s) t k))
          ∙ ap (λ (z : Store). z told) (reads_leave seen 1 (exit_when_none e.count e scope) s)
          ∙ ap (λ (i : ℕ). store_behind (exit_when_none i e scope) s told) none
          ∙ exit_holds s
      entry_leaves s t (suc c) some k = turns_leave c 1 (store_behind (entry_touches seen e scope) s) t k

    -- where the DO goes on, these do, and leave what it leaves but in the arrays
    pub record WholeGoes (s t : Store) : Type 0 where
      pub behind : Store
      pub ending : (run_all new lowered m scope s).ending ≡ going behind
      pub same : (c : Cell) → is_part ps c ≡ false → behind c ≡ t c
      pub acts : AreNew ps told (run old (Do h body) n scope s).acts (run_all new lowered m scope s).acts

    module _ (s t : Store) (small : AreSmall ps s) (come : (limits g h s).result ≡ Ok (limit [])) (k : (run_from_entry (limits g h s).seen (e (limits g h s).seen) scope (place_of old n scope) (old_body (limits g h s).seen) s).ending ≡ going t) where
      abbrev seen : List Seen
      seen = (limits g h s).seen

      abbrev d : Entered
      d = e seen

      abbrev at : Place
      at = place_of old n scope

      abbrev at' : Place
      at' = place_of new m scope

      abbrev old_turns : Frame → Store → Run
      old_turns x = run_all old body (n + 1) (x ∷ scope)

      abbrev new_turns : Frame → Store → Run
      new_turns x = run_all new new_body (m + 1) (x ∷ scope)

      abbrev ts : List Touch
      ts = entry_touches seen d scope

      abbrev s1 : Store
      s1 = store_behind ts s

      in_turns : (turns d.count 1 d scope at old_turns s1).ending ≡ going t
      in_turns = ap (λ (r : Run). r.ending) (sym (entered_in_order h.parallel d.count d scope at old_turns s1 may.serial)) ∙ k

      entry_keeps : (p : Partials) → IsIn p ps → s1 (Scalar p.scalar) ≡ s (Scalar p.scalar)
      entry_keeps p i =
          ap (λ (z : Store). z (Scalar p.scalar)) (reads_leave seen 1 (exit_when_none d.count d scope) s)
          ∙ behind_elsewhere ps (exit_when_none d.count d scope) s (Scalar p.scalar) (when_kept bounds constants f f' ps arrays v told body n m scope d (sums seen) d.count) (total_apart ps p i)

      small1 : AreSmall ps s1
      small1 p i x held = small p i x (sym (entry_keeps p i) ∙ held)

      turns_go : TurnsGo bounds constants f f' ps arrays v told body n m scope d d.count 1 s1 t s1
      turns_go = turns_add bounds constants f f' ps arrays v told body n m scope d (sums seen) d.count 1 (omega arith) (omega arith) s1 t s1 small1 (λ c h. refl) in_turns

      abbrev u : Store
      u = turns_go.behind

      -- the first DO
      abbrev entry_act : Act
      entry_act = act (entered d.count) at' ts

      first_is : run new (Do h new_body) m scope s ≡ record { acts = entry_act ∷ (turns d.count 1 d scope at' new_turns s1).acts; ending = (turns d.count 1 d scope at' new_turns s1).ending }
      first_is =
          do_is new m scope h new_body new_turns s (limit seen) come
          ∙ ap (λ (y : Entered). run_from_entry seen y scope at' new_turns s) (sym (entered_same seen))
          ∙ ap (λ (r : Run). record { acts = entry_act ∷ r.acts; ending = r.ending }) (entered_in_order h.parallel d.count d scope at' new_turns s1 may.serial)

      old_is : run old (Do h body) n scope s ≡ record { acts = act (entered d.count) at ts ∷ (turns d.count 1 d scope at old_turns s1).acts; ending = (turns d.count 1 d scope at old_turns s1).ending }
      old_is =
          do_is old n scope h body old_turns s (limit seen) come
          ∙ ap (λ (r : Run). record { acts = act (entered d.count) at ts ∷ r.acts; ending = r.ending }) (entered_in_order h.parallel d.count d scope at old_turns s1 may.serial)

      first_ending : (run new (Do h new_body) m scope s).ending ≡ going u
      first_ending = ap (λ (r : Run). r.ending) first_is ∙ turns_go.ending

      -- the DO of the exits
      abbrev m2 : ℕ
      m2 = m + (statements_count new_body + 1)

      abbrev seen2 : List Seen
      seen2 = (limits g h u).seen

      abbrev x : Entered
      x = entered_with new m2 (bare h) (exits v ps) seen2 (limit seen)

      abbrev at2 : Place
      at2 = place_of new m2 scope

      abbrev exit_turns : Frame → Store → Run
      exit_turns y = run_all new (exits v ps) (m2 + 1) (y ∷ scope)

      exit_stands : (j : ℕ) → 1 ≤ j → j ≤ x.count → StandsAt ps (names_in new (frame x j ∷ scope)) v (value_in x j) told
      exit_stands j from to = record {
        plain = may.plain;
        index = ap (λ (c : Bool). if c then Some (value_in x j) else index_value scope v) (same_itself v);
        cell = refl;
        variable = λ p i. (may.scalars p i).variable;
        unbound = λ p i. ap (λ (c : Bool). if c then Some (value_in x j) else index_value scope p.scalar) (may.scalars p i).unlike ∙ (may.scalars p i).unbound;
        own = λ p i. (may.scalars p i).own;
        others = λ y none. cell_others ps (frame x j ∷ scope) y none;
        inside = λ p y i own. may.inside j from to p y i own;
      }

      of_exits : IsOfExits ps distinct new v told m2 scope x
      of_exits = record {
        stands = exit_stands;
        stores = refl;
        other = λ p i. totals_apart ps p told i told_apart;
        calm = λ j. calm_more scope (frame x j) may.outer refl;
        outer = may.outer;
      }

      variable_left : u told ≡ left_in_variable x
      variable_left =
          turns_go.same told told_apart
          ∙ entry_leaves seen s t d.count refl in_turns
          ∙ ap (λ (c : Bool). if c then Undefined else Number (a +ℤ pos d.count *ℤ step)) may.serial

      abbrev ts2 : List Touch
      ts2 = entry_touches seen2 x scope

      abbrev u1 : Store
      u1 = store_behind ts2 u

      same1 : (c : Cell) → u1 c ≡ u c
      same1 c = ap (λ (z : Store). z c) (reads_leave seen2 1 (exit_when_none x.count x scope) u) ∙ variable_stays ps distinct new v told m2 scope x of_exits x.count u variable_left c

      exits_done : ExitTurnsGo ps distinct new v told m2 scope x x.count 1 t u1
      exits_done =
          exit_turns_go ps distinct new v told m2 scope x of_exits x.count 1 (omega arith) (omega arith) turns_go.trail turns_go.many turns_go.trips s1 t u1 turns_go.chain
          (λ p i. same1 (Scalar p.scalar) ∙ turns_go.preserved (Scalar p.scalar) (total_apart ps p i) (λ j from to. refl))
          (told_same ps u u1 (λ y j. same1 (part y j)) turns_go.trail turns_go.tell)
          (same1 told ∙ variable_left)

      abbrev z : Store
      z = exits_done.behind

      abbrev exit_act : Act
      exit_act = act (entered x.count) at2 ts2

      second_is : run new (Do (bare h) (exits v ps)) m2 scope u ≡ record { acts = exit_act ∷ (turns x.count 1 x scope at2 exit_turns u1).acts; ending = (turns x.count 1 x scope at2 exit_turns u1).ending }
      second_is =
          do_is new m2 scope (bare h) (exits v ps) exit_turns u (limit seen) (limits_constant g h a b may.first may.last u s ∙ come)
          ∙ ap (λ (r : Run). record { acts = exit_act ∷ r.acts; ending = r.ending }) (entered_in_order false x.count x scope at2 exit_turns u1 refl)

      whole_is : run_all new lowered m scope s ≡ record { acts = (run new (Do h new_body) m scope s).acts ++ (run new (Do (bare h) (exits v ps)) m2 scope u).acts; ending = (run new (Do (bare h) (exits v ps)) m2 scope u).ending }
      whole_is =
          going_then (run new (Do h new_body) m scope s) u (run_all new (alone (Do (bare h) (exits v ps))) m2 scope) first_ending
          ∙ ap (λ (r : Run). record { acts = (run new (Do h new_body) m scope s).acts ++ r.acts; ending = r.ending }) (then_nothing (run new (Do (bare h) (exits v ps)) m2 scope u))

      -- what it leaves
      leaves : (c : Cell) → is_part ps c ≡ false → z c ≡ t c
      leaves c none = go (is_apart ps c) refl
        where
          others : is_apart ps c ≡ false → z c ≡ t c
          others out = exits_done.kept c (λ p i q. totals_apart ps p c i out q) ∙ same1 c ∙ turns_go.same c out

          total : (d : Cell) → is_part ps d ≡ false → is_apart ps d ≡ true → z d ≡ t d
          total (Scalar y) part_none own =
              let p = any_gives (λ (o : Partials). is_same_text y o.scalar) ps own in
              subst (λ (w : List ℕ). z (Scalar w) ≡ t (Scalar w)) (sym (same_is y p.0.scalar p.2)) (exits_done.totals p.0 p.1)
          total (Element y js) part_none own = absurd (both_ways (is_array ps y) part_none own)
          total (Private y path) part_none own = absurd cc
          total In part_none own = absurd cc
          total Out part_none own = absurd cc

          go : (c1 : Bool) → is_apart ps c ≡ c1 → z c ≡ t c
          go true own = total c none own
          go false out = others out

      -- and its acts
      calm_one : (b1 : Act) → b1.place.turns ≡ turns_of scope → IsCalm b1.place.turns
      calm_one b1 q = subst IsCalm (sym q) may.outer

      first_acts : AreNew ps told (act (entered d.count) at ts ∷ (turns d.count 1 d scope at old_turns s1).acts) (entry_act ∷ (turns d.count 1 d scope at' new_turns s1).acts)
      first_acts =
          new_append ps told (act (entered d.count) at ts ∷ []) (entry_act ∷ []) (turns d.count 1 d scope at old_turns s1).acts (turns d.count 1 d scope at' new_turns s1).acts
          (λ b1 i. elim i [ inl q ↦ inl (calm_one b1 (ap (λ (y : Act). y.place.turns) q)) | inr j ↦ absurd j ]) turns_go.acts

      second_acts : (b1 : Act) → IsIn b1 (exit_act ∷ (turns x.count 1 x scope at2 exit_turns u1).acts) → IsCalm b1.place.turns
      second_acts b1 (inl q) = calm_one b1 (ap (λ (y : Act). y.place.turns) q)
      second_acts b1 (inr i) = exits_done.calm b1 i

      whole_acts : AreNew ps told (run old (Do h body) n scope s).acts (run_all new lowered m scope s).acts
      whole_acts =
          subst (AreNew ps told (run old (Do h body) n scope s).acts) (sym (ap (λ (r : Run). r.acts) whole_is))
          (λ b1 i. elim (in_parts b1 (run new (Do h new_body) m scope s).acts (run new (Do (bare h) (exits v ps)) m2 scope u).acts i) [
            | inl j ↦ subst (λ (ys : List Act). AreNew ps told ys (run new (Do h new_body) m scope s).acts) (sym (ap (λ (r : Run). r.acts) old_is))
                (subst (AreNew ps told (act (entered d.count) at ts ∷ (turns d.count 1 d scope at old_turns s1).acts)) (sym (ap (λ (r : Run). r.acts) first_is)) first_acts) b1 j
            | inr j ↦ inl (second_acts b1 (subst (IsIn b1) (ap (λ (r : Run). r.acts) second_is) j))
          ])

      entered_goes : WholeGoes s t
      entered_goes = record {
        behind = z;
        ending = ap (λ (r : Run). r.ending) whole_is ∙ ap (λ (r : Run). r.ending) second_is ∙ exits_done.ending;
        same = leaves;
        acts = whole_acts;
      }

    -- where the limits come to those that are constant
    limits_are : (s : Store) (l : Limits) → (limits g h s).result ≡ Ok l → l ≡ limit []
    limits_are s l come = let c = constant_limits g s h a b may.first may.last l come in λ i. record { first = c.0 i; last = c.1 i }

    pub whole_goes : (s t : Store) → AreSmall ps s → (run old (Do h body) n scope s).ending ≡ going t → WholeGoes s t
    whole_goes s t small ending =
        let w = do_went old n scope h body (λ x. run_all old body (n + 1) (x ∷ scope)) s t ending in
        let is : w.0 ≡ limit [] = limits_are s w.0 w.1 in
        entered_goes s t small (w.1 ∙ ap Ok is) (subst (λ (l : Limits). (run_from_entry (limits g h s).seen (entered_with old n h body (limits g h s).seen l) scope (place_of old n scope) (λ x. run_all old body (n + 1) (x ∷ scope)) s).ending ≡ going t) is w.2)
