-- In each iteration of the outer loop the skewed inner one has limits, as many iterations as before, and in each its body does likewise.
use Rattle.std.proofs.Common.{◌≡◌, ℕ, ◌+◌, ◌-◌, ◌≤◌, ℤ, pos, ◌+ℤ◌, ◌*ℤ◌, List, [], ◌∷◌, ◌++◌, Bool, true, false, ◌||◌, Option, Some, None, Ok, refl, sym, ap, ◌∙◌, subst, inl, arith, append_assoc, append-nil, if◌then◌else◌}
use Rattle.std.specs.Prelude.{is_none}
use Rattle.std.specs.Int.{is_negative}
use Rattle.std.specs.Map.{lookup}
use Rattle.std.specs.Str.Lines.{lines}
use Rattle.std.proofs.lemmas.Bool.{and_parts, or_parts, both_ways}
use Rattle.ped_base.specs.Lists.{is_same_text, is_among}
use Rattle.ped_base.proofs.NameEquality.{same_is, same_itself}
use Rattle.ped_tree.specs.Constants.ConstantExpressions.{constant_value}
use Rattle.ped_tree.specs.Constants.NamedConstants.{value_named}
use Rattle.ped_tree.specs.NamesIn.{loop_variables, all_loop_variables, stmts_names}
use Rattle.ped_tree.specs.Nests.{Loop, indices_of}
use Rattle.ped_tree.specs.Numbering.{statements_count}
use Rattle.ped_tree.specs.Tree.{Head, ExprTree, StmtTree, StmtTrees, Assign, If, Do, Print, Read, Stop, Comment, no_stmts, more_stmts, ProgramTree}
use Rattle.ped_rules.specs.ped_affine.specs.Assigned.{assigned_in, assigned_in_all}
use Rattle.ped_rules.specs.ped_affine.specs.PairViews.{heads_of}
use Rattle.ped_rules.specs.ped_affine.specs.Ranges as ranges
use Rattle.ped_rules.specs.ped_affine.specs.Ranges.{Around, interval_of}
use Rattle.ped_rules.specs.ped_views.specs.declared.intervals.Interval.{Interval}
use Rattle.ped_rules.specs.ped_views.specs.Intervals.{Lies}
use Rattle.ped_rules.specs.ped_flow.specs.PlainBounds.{nest_round, setting_round}
use Rattle.ped_rules.specs.ped_flow.specs.Questions.{LoopOf}
use Rattle.ped_rules.specs.ped_symbols.specs.Kinds.{kind_in, at_last}
use Rattle.ped_rules.specs.ped_symbols.specs.NameRefusals.{IsValid}
use Rattle.ped_rules.specs.ped_symbols.specs.RightUses.RightLoops.{is_step, step_is_right, stmt_steps_are_right, steps_are_right}
use Rattle.ped_rules.specs.ped_symbols.proofs.RightUseLaws.Whole.{right_program}
use Rattle.ped_rules.specs.ped_store.specs.Stores.{Store, store_at_start}
use Rattle.ped_rules.specs.ped_store.specs.Acts.{Touch, Act}
use Rattle.ped_rules.specs.ped_laws.specs.Acts.Fitting.{store_after, of_cells}
use Rattle.ped_rules.specs.ped_laws.specs.Acts.Renaming.{own_name}
use Rattle.ped_rules.specs.ped_laws.specs.Acts.Sets.{nothing}
use Rattle.ped_rules.specs.ped_laws.specs.Covering.Nested.{Match, IsInNest, loop}
use Rattle.ped_rules.specs.ped_laws.specs.Covering.Within.{HoldsStorable}
use Rattle.ped_rules.specs.ped_laws.specs.Runs.Replaying.{finish_of, goes_on}
use Rattle.ped_rules.specs.ped_laws.proofs.ActLaws.Stores.{after_append}
use Rattle.ped_rules.specs.ped_laws.proofs.CoveringLaws.Nesting.{within, one_deeper, heads_more}
use Rattle.ped_rules.specs.ped_laws.proofs.CoveringLaws.ValueIntervals.{value_lies}
use Rattle.ped_rules.specs.ped_laws.proofs.PlainLaws.NearIntervals.{IsNear, lies_near, Ends, NearAround, interval_ends, around_near}
use Rattle.ped_rules.specs.ped_eval.specs.Evaluation.{Seen, Evaluated, numbered}
use Rattle.ped_rules.specs.ped_eval.specs.Loops.{is_bound, Limits, limits, increment, Entered, value_in, frame, copied_names}
use Rattle.ped_rules.specs.ped_eval.specs.Outcomes.{setting_of, run_of}
use Rattle.ped_rules.specs.ped_eval.specs.Runs.{run}
use Rattle.ped_rules.specs.ped_eval.specs.Scopes.{Setting, Scope, Names, index_value, names_in, place_of}
use Rattle.ped_rules.specs.ped_eval.specs.Values.{value}
use Rattle.ped_rules.specs.ped_steps.specs.Replacing.{alone}
use Rattle.ped_symbolic.specs.Substitution.{substituted, statements_substituted}
use Rattle.ped_rules.specs.ped_steps.proofs.RunLaws.UntoldVariables.{untold_at}
use Rattle.ped_rules.specs.ped_steps.proofs.RunLaws.ProgramParts.{IsPart, part_at}
use Rattle.ped_rules.specs.ped_steps.proofs.RunLaws.LoopVariables.{variable_scalar, variable_outside}
use Rattle.ped_rules.specs.ped_steps.proofs.RunLaws.ScalarNames.{scalar_unvalued}
use Rattle.ped_rules.specs.ped_steps.proofs.RunLaws.SparedVariables.{IsUnassigned, variables_unassigned}
use Rattle.ped_rules.specs.ped_loop_runs.proofs.TidyLaws.TidyReferencesGaps.{each_of_program}
use Rattle.ped_rules.specs.ped_bodies.specs.Likewise.{AllMeet, AreSeenAlike}
use Rattle.ped_rules.specs.ped_bodies.specs.Moving.{own_number, HaveSameCopies, GivesWayTo}
use Rattle.ped_rules.specs.ped_bodies.specs.Rewriting.{OfHeads, HaveIncrements, MayBeRewritten}
use Rattle.ped_rules.specs.ped_bodies.specs.Standing.{SettingsAgree, SeesNoCell, GoLikewise}
use Rattle.ped_rules.specs.ped_bodies.specs.Trips.{HasLimits, IsMadeOfTrips, bounds_seen, entered_from, loop_close, loop_entry, trip_end, trips}
use Rattle.ped_rules.specs.ped_bodies.proofs.BodyLaws.Corresponding.{see_append, told_alike}
use Rattle.ped_rules.specs.ped_bodies.proofs.BodyLaws.Instances.{skewed_body}
use Rattle.ped_rules.specs.ped_bodies.proofs.BodyLaws.LimitParts.{limits_parted}
use Rattle.ped_rules.specs.ped_bodies.proofs.BodyLaws.Rewritings.{may_give_way}
use Rattle.ped_rules.specs.ped_loop_runs.specs.Executions.{IsExecuted}
use Rattle.ped_rules.specs.ped_loop_runs.proofs.PastingLaws.EnteredRanges.{in_nest_round, same_around}
use Rattle.ped_rules.specs.ped_loop_runs.proofs.PastingLaws.RunStores.{all_storable_after}
use Rattle.ped_rules.specs.OnlyLoops.{of_loop, only_loop}
use Rattle.ped_rules.specs.Rules.{leaves, setting_at, heads_round}
use Rattle.ped_rules.proofs.NestLaws.InnerPlaces.{inner_there}
use Rattle.ped_rules.proofs.NestLaws.IndicesApart.{variable_apart, inner_variable_apart}
use Rattle.ped_rules.proofs.NestLaws.OnlyBodies.{pair, only_tells}
use Rattle.ped_rules.proofs.NestLaws.SettledBounds.{limits_there, split_numbers}
use Rattle.ped_reindex.specs.Skewing.{is_bad_factor, offset, skewed_bound, unskewed, skewed_head, skew_leaves}
use Rattle.ped_reindex.proofs.SkewedLoops.{HasLaterTrips, outer, outer_entered, store_at}
use Rattle.ped_reindex.proofs.SkewedValues.{near_bound, bound_near, signed, offset_told, bound_comes, unskewed_told, same_count, same_shift}
use Rattle.ped_rules.specs.ped_loop_runs.proofs.LoopLaws.OneForOneStands.{false_unless}

-- what isn't None is there
there_is : (o : Option Interval) → is_none o ≡ false → (r : Interval) × (o ≡ Some r)
there_is (Some r) h = (r, refl)
there_is None h = absurd cc

-- increments that are right have values
value_of : (o : Option ℤ) → is_step o ≡ true → (k : ℤ) × (o ≡ Some k)
value_of (Some k) h = (k, refl)
value_of None h = absurd cc

module _ (cs : List (List ℕ × ℤ)) where
  mutual
    one_increment : (s : StmtTree) → stmt_steps_are_right cs s ≡ true → OfHeads (λ d. (k : ℤ) × (constant_value cs d.step ≡ Some k)) s
    one_increment (Assign left right) h = tt
    one_increment (If c a b) h = let both = and_parts (steps_are_right cs a) (steps_are_right cs b) h in (all_increments a both.0, all_increments b both.1)
    one_increment (Do d body) h = let both = and_parts (step_is_right cs d.step) (steps_are_right cs body) h in (value_of (constant_value cs d.step) both.0, all_increments body both.1)
    one_increment (Print items) h = tt
    one_increment (Read items) h = tt
    one_increment Stop h = tt
    one_increment (Comment text) h = tt

    all_increments : (ss : StmtTrees) → steps_are_right cs ss ≡ true → HaveIncrements cs ss
    all_increments no_stmts h = tt
    all_increments (more_stmts s rest) h = let both = and_parts (stmt_steps_are_right cs s) (steps_are_right cs rest) h in (one_increment s both.0, all_increments rest both.1)

match_near : (o : Option ℤ) (q : Option Interval) (n : ℤ) → Match o q → o ≡ Some n → Ends q → IsNear n
match_near (Some m) (Some r) n h e near = let same : m ≡ n = cc in lies_near n r (subst (λ (z : ℤ). Lies z r) same h) (near r refl)
match_near (Some m) None n h e near = absurd h
match_near None q n h e near = absurd cc

-- values that places in nests tell lie within 2^62
place_near : (s : ranges.Setting) (p : Setting) (nest : List Loop) (scope : Scope) → IsInNest s p nest scope → (x : List ℕ) (n : ℤ) → index_value scope x ≡ Some n → IsNear n
place_near s p nest scope place x n e =
    match_near (index_value scope x) (lookup (is_same_text x) (ranges.around_with s [] (heads_of nest))) n (place.variables x) e
    (subst NearAround (same_around s [] nest) (around_near s nest [] (λ y r h. absurd cc)) x)

arranged : (a : List Act) (b : Act) (t p c z : List Act) → a ++ ((b ∷ ((t ++ p) ++ c)) ++ z) ≡ (a ++ (b ∷ t)) ++ ((p ++ c) ++ z)
arranged a b t p c z =
    ap (λ (y : List Act). a ++ (b ∷ y)) (append_assoc (t ++ p) c z ∙ append_assoc t p (c ++ z) ∙ ap (λ (y : List Act). t ++ y) (sym (append_assoc p c z)))
    ∙ sym (append_assoc a (b ∷ t) ((p ++ c) ++ z))

meet_itself : (ts : List Touch) → AllMeet own_name nothing ts ts
meet_itself [] = tt
meet_itself (x ∷ xs) = (record { manner = refl; reference = refl; content = refl; cells = inl refl }, meet_itself xs)

same_round : (names : List (List ℕ)) (scope : Scope) → HaveSameCopies names scope scope
same_round names [] = tt
same_round names (f ∷ fs) = (refl, refl, (λ x apart. refl), same_round names fs)

module _ (t : ProgramTree) (valid : IsValid t) (l : ℕ) (loop_is : LoopOf t l) (g : Head) (inside_it : StmtTrees) (only : only_loop loop_is.body ≡ Some (pair g inside_it)) (f : ℤ) (good : is_bad_factor f ≡ false) (near : skew_leaves t l f loop_is.head loop_is.body ≡ false) (serial : g.parallel ≡ false) where
  abbrev p : Setting
  p = setting_of t

  abbrev d : Head
  d = loop_is.head

  abbrev body : StmtTrees
  body = loop_is.body

  abbrev i : List ℕ
  i = d.variable

  abbrev j : List ℕ
  j = g.variable

  abbrev h : Head
  h = skewed_head f d.variable g

  abbrev others : StmtTrees
  others = statements_substituted g.variable (unskewed f d.variable g.variable) inside_it

  abbrev s : ranges.Setting
  s = setting_round (setting_of t).constants t l

  abbrev nest : List Loop
  nest = nest_round t l ++ loop l d ∷ []

  abbrev inner_loop : LoopOf t (l + 1)
  inner_loop = record { head = g; body = inside_it; is = inner_there t l d body g inside_it loop_is.is only }

  -- what validity tells of the two variables
  unassigned : is_among i (assigned_in_all body) ≡ false
  unassigned = (each_of_program (IsUnassigned t (kind_in t)) t (variables_unassigned t valid) l loop_is).1

  inner_unassigned : is_among j (assigned_in_all inside_it) ≡ false
  inner_unassigned = (each_of_program (IsUnassigned t (kind_in t)) t (variables_unassigned t valid) (l + 1) inner_loop).1

  differ : is_same_text i j ≡ false
  differ =
      (or_parts (is_same_text i j) (is_among i (g.private ++ assigned_in_all inside_it))
      (ap (is_among i) (sym (only_tells g inside_it assigned_in assigned_in_all (λ (xs ys : List (List ℕ)). xs ++ ys) [] (λ xs. refl) (λ xs. append-nil xs) refl (λ z rest. refl) (λ text. refl) body only)) ∙ unassigned)).0

  differ_back : is_same_text j i ≡ false
  differ_back = false_unless (is_same_text j i) (λ e. both_ways (is_same_text i j) differ (ap (is_same_text i) (same_is j i e) ∙ same_itself i))

  outside : is_among i (all_loop_variables inside_it) ≡ false
  outside =
      (or_parts (is_same_text i j) (is_among i (all_loop_variables inside_it))
      (ap (is_among i) (sym (only_tells g inside_it loop_variables all_loop_variables (λ (xs ys : List (List ℕ)). xs ++ ys) [] (λ xs. refl) (λ xs. append-nil xs) refl (λ z rest. refl) (λ text. refl) body only)) ∙ variable_outside t valid l loop_is)).1

  unvalued : value_named p.constants i ≡ None
  unvalued = scalar_unvalued t i (variable_scalar t valid l loop_is)

  inner_unvalued : value_named p.constants j ≡ None
  inner_unvalued = scalar_unvalued t j (variable_scalar t valid (l + 1) inner_loop)

  part : IsPart t (Do d body)
  part = part_at t valid l (Do d body) loop_is.is

  inner_part : IsPart t (Do g inside_it)
  inner_part = part_at t valid (l + 1) (Do g inside_it) inner_loop.is

  step_right : step_is_right p.constants d.step ≡ true
  step_right = (and_parts (step_is_right (at_last t).values d.step) (steps_are_right (at_last t).values body) part.steps).0

  inner_steps : (step_is_right p.constants g.step ≡ true) × (steps_are_right p.constants inside_it ≡ true)
  inner_steps = and_parts (step_is_right (at_last t).values g.step) (steps_are_right (at_last t).values inside_it) inner_part.steps

  may : MayBeRewritten (substituted j (unskewed f i j)) p.constants inside_it
  may = may_give_way p.constants j inner_unvalued (unskewed f i j) inside_it inner_unassigned (all_increments p.constants inside_it inner_steps.1)

  -- rule 9
  around_is : ranges.around_with s [] (heads_of nest) ≡ ranges.around_with s [] (heads_round t l ++ d ∷ [])
  around_is = ap (ranges.around_with s []) (heads_more (nest_round t l) (loop l d))

  both_kept : (leaves (setting_at t l) (heads_round t l ++ d ∷ []) h.first ≡ false) × (leaves (setting_at t l) (heads_round t l ++ d ∷ []) h.last ≡ false)
  both_kept =
      or_parts (leaves (setting_at t l) (heads_round t l ++ d ∷ []) h.first) (leaves (setting_at t l) (heads_round t l ++ d ∷ []) h.last)
      (ap (of_loop (λ g b. leaves (setting_at t l) (heads_round t l ++ d ∷ []) (skewed_bound f d.variable g.first) || leaves (setting_at t l) (heads_round t l ++ d ∷ []) (skewed_bound f d.variable g.last))) (sym only) ∙ near)

  abbrev HasInterval : ExprTree → Type 0
  HasInterval e = (r : Interval) × (interval_of s (ranges.around_with s [] (heads_of nest)) e ≡ Some r)

  has_interval : (e : ExprTree) → leaves (setting_at t l) (heads_round t l ++ d ∷ []) e ≡ false → HasInterval e
  has_interval e k = let r = there_is (interval_of s (ranges.around_with s [] (heads_round t l ++ d ∷ [])) e) k in (r.0, ap (λ (around : Around). interval_of s around e) around_is ∙ r.1)

  module _ (data_bytes : List ℕ) (scope : Scope) (front behind : List Act) (v : Store) (executed : IsExecuted p t (store_at_start (lines data_bytes)) l (statements_count (alone (Do d body))) scope front (run p (Do d body) l scope v).acts behind v) (goes : finish_of (run p (Do d body) l scope v).ending ≡ goes_on)
      (k : ℕ) (from : 1 ≤ k) (to : k ≤ (outer_entered p d body l scope v goes).count) where
    abbrev start : Store
    start = store_at_start (lines data_bytes)

    abbrev made : IsMadeOfTrips p d body l scope v
    made = outer p d body l scope v goes

    abbrev e0 : Entered
    e0 = outer_entered p d body l scope v goes

    abbrev here : Scope
    here = frame e0 k ∷ scope

    abbrev u : Store
    u = store_at p d body l scope v goes k

    abbrev here_names : Names
    here_names = names_in p here

    -- stores hold storable numbers
    abbrev entry : Act
    entry = loop_entry (bounds_seen p d scope v) e0 scope (place_of p l scope)

    abbrev first_trips : List Act
    first_trips = trips e0 scope (place_of p l scope) made.trip 1 (k - 1)

    held : (before after : List Act) → (run_of t data_bytes).acts ≡ before ++ after → HoldsStorable (all_loop_variables t.body) (store_after before start)
    held = all_storable_after t valid (right_program t valid) data_bytes

    held_before : HoldsStorable (all_loop_variables t.body) v
    held_before = subst (HoldsStorable (all_loop_variables t.body)) (sym executed.from) (held front ((run p (Do d body) l scope v).acts ++ behind) executed.whole)

    held_here : HoldsStorable (all_loop_variables t.body) u
    held_here =
        let parted = split_numbers (λ n. made.trip n ++ trip_end e0 scope (place_of p l scope) n) (k - 1) e0.count 1 (omega (arith, to)) in
        let close = loop_close e0 scope (place_of p l scope) in
        subst (HoldsStorable (all_loop_variables t.body)) (after_append front (entry ∷ first_trips) start ∙ ap (store_after (entry ∷ first_trips)) (sym executed.from))
        (held (front ++ (entry ∷ first_trips)) ((parted.0 ++ close) ++ behind)
        (executed.whole
        ∙ ap (λ (acts : List Act). front ++ (acts ++ behind)) (made.acts ∙ ap (λ (xs : List Act). entry ∷ (xs ++ close)) parted.1)
        ∙ arranged front entry first_trips parted.0 close behind))

    -- the place is in the nest
    nested : IsInNest s p (nest_round t l) scope
    nested = in_nest_round t valid (right_program t valid) data_bytes l (statements_count (alone (Do d body))) scope front (run p (Do d body) l scope v).acts behind v executed

    untold : (x : List ℕ) → is_among x (indices_of (nest_round t l)) ≡ false → index_value scope x ≡ None
    untold x apart = untold_at t l p (λ m n same. same) x apart scope executed.place

    nested_here : IsInNest s p nest here
    nested_here = one_deeper s p (nest_round t l) scope v l d body (bounds_seen p d scope v) made.bounds k refl held_before nested (untold i (variable_apart t valid l loop_is)) step_right made.come from to

    -- the outer variable
    abbrev outer_value : ℤ
    outer_value = value_in e0 k

    index_here : index_value here i ≡ Some outer_value
    index_here = ap (λ (b : Bool). if b then Some outer_value else index_value scope i) (same_itself i)

    value_near : IsNear outer_value
    value_near = place_near s p nest here nested_here i outer_value index_here

    abbrev more : ℤ
    more = signed f good outer_value value_near (is_negative f)

    near_around : NearAround (ranges.around_with s [] (heads_of nest))
    near_around = subst NearAround (same_around s [] nest) (around_near s nest [] (λ y r q. absurd cc))

    -- a bound that is skewed is a bound
    still_bound : (e : ExprTree) (m : ℤ) → HasInterval (skewed_bound f i e) → (value here_names (skewed_bound f i e) u).result ≡ Ok m → is_bound m ≡ true
    still_bound e m has comes =
        near_bound m
        (lies_near m has.0 (value_lies s (ranges.around_with s [] (heads_of nest)) here_names u (within s (ranges.around_with s [] (heads_of nest)) p here u refl nested_here.variables held_here) (skewed_bound f i e) m has.0 comes has.1)
        (interval_ends s (ranges.around_with s [] (heads_of nest)) near_around (skewed_bound f i e) has.0 has.1))

    module _ (old : Limits) (come : (limits here_names g u).result ≡ Ok old) where
      has : HasLimits here_names g u old
      has = limits_parted here_names g u old come

      abbrev offset_seen : List Seen
      offset_seen = (value here_names (offset f i) u).seen

      first_comes : value here_names h.first u ≡ record { seen = (value here_names g.first u).seen ++ offset_seen; result = Ok (old.first +ℤ more) }
      first_comes = bound_comes f good outer_value value_near p i unvalued here index_here u g.first old.first has.first (bound_near old.first has.first_bound)

      last_comes : value here_names h.last u ≡ record { seen = (value here_names g.last u).seen ++ offset_seen; result = Ok (old.last +ℤ more) }
      last_comes = bound_comes f good outer_value value_near p i unvalued here index_here u g.last old.last has.last (bound_near old.last has.last_bound)

      abbrev new : Limits
      new = record { first = old.first +ℤ more; last = old.last +ℤ more }

      new_come : limits here_names h u ≡ record { seen = ((value here_names g.first u).seen ++ offset_seen) ++ ((value here_names g.last u).seen ++ offset_seen); result = Ok new }
      new_come =
          limits_there here_names h u (old.first +ℤ more) (old.last +ℤ more)
          (ap (λ (z : Evaluated ℤ). z.result) first_comes) (still_bound g.first (old.first +ℤ more) (has_interval h.first both_kept.0) (ap (λ (z : Evaluated ℤ). z.result) first_comes))
          (ap (λ (z : Evaluated ℤ). z.result) last_comes) (still_bound g.last (old.last +ℤ more) (has_interval h.last both_kept.1) (ap (λ (z : Evaluated ℤ). z.result) last_comes))
          ∙ (λ i. record { seen = (first_comes i).seen ++ (last_comes i).seen; result = Ok new })

      -- they read the same
      unseen : SeesNoCell offset_seen
      unseen = (offset_told f good outer_value value_near p i unvalued [] [] here index_here refl [] tt refl).unseen u

      itself_alike : (xs : List Seen) → AreSeenAlike own_name nothing xs xs
      itself_alike xs = record { touches = λ n. meet_itself (of_cells (numbered n xs)); behind = λ n. refl }

      with_offset : (xs : List Seen) → AreSeenAlike own_name nothing xs (xs ++ offset_seen)
      with_offset xs = subst (λ (ys : List Seen). AreSeenAlike own_name nothing ys (xs ++ offset_seen)) (append-nil xs) (see_append own_name nothing xs xs [] offset_seen (itself_alike xs) (told_alike own_name nothing [] offset_seen tt unseen))

      seen_alike : AreSeenAlike own_name nothing (bounds_seen p g here u) (bounds_seen p h here u)
      seen_alike =
          subst (λ (xs : List Seen). AreSeenAlike own_name nothing xs (bounds_seen p h here u)) (sym has.seen)
          (subst (AreSeenAlike own_name nothing ((value here_names g.first u).seen ++ (value here_names g.last u).seen)) (sym (ap (λ (z : Evaluated Limits). z.seen) new_come))
          (see_append own_name nothing (value here_names g.first u).seen ((value here_names g.first u).seen ++ offset_seen) (value here_names g.last u).seen ((value here_names g.last u).seen ++ offset_seen) (with_offset (value here_names g.first u).seen) (with_offset (value here_names g.last u).seen)))

      abbrev e : Entered
      e = entered_from p g inside_it (l + 1) here u old

      abbrev z : Entered
      z = entered_from p h others (l + 1) here u new

      counts : z.count ≡ e.count
      counts = same_count old.first old.last (increment p.constants g) more

      -- an iteration
      module _ (n : ℕ) (low : 1 ≤ n) (high : n ≤ z.count) where
        nested_in : IsInNest s p (nest ++ loop (l + 1) g ∷ []) (frame e n ∷ here)
        nested_in = one_deeper s p nest here u (l + 1) g inside_it (bounds_seen p g here u) old n refl held_here nested_here untold_here inner_steps.0 come low (let same = counts in omega (arith, high, same))
          where
            untold_here : index_value here j ≡ None
            untold_here = ap (λ (b : Bool). if b then Some outer_value else index_value scope j) differ_back ∙ untold j (inner_variable_apart t valid l loop_is g inside_it only)

        index_in : index_value (frame e n ∷ here) j ≡ Some (value_in e n)
        index_in = ap (λ (b : Bool). if b then Some (value_in e n) else index_value here j) (same_itself j)

        new_index : index_value (frame z n ∷ here) j ≡ Some (value_in z n)
        new_index = ap (λ (b : Bool). if b then Some (value_in z n) else index_value here j) (same_itself j)

        outer_index : index_value (frame z n ∷ here) i ≡ Some outer_value
        outer_index = ap (λ (b : Bool). if b then Some (value_in z n) else index_value here i) differ ∙ index_here

        further : value_in z n ≡ value_in e n +ℤ more
        further = same_shift old.first more (pos (n - 1) *ℤ increment p.constants g)

        others_tell : (y : List ℕ) → is_same_text j y ≡ false → index_value (frame z n ∷ here) y ≡ index_value (frame e n ∷ here) y
        others_tell y other = go (is_same_text y j) refl
          where
            go : (b : Bool) → is_same_text y j ≡ b → (if b then Some (value_in z n) else index_value here y) ≡ (if b then Some (value_in e n) else index_value here y)
            go true q = absurd (both_ways (is_same_text j y) other (ap (is_same_text j) (same_is y j q) ∙ same_itself j))
            go false q = refl

        gives : GivesWayTo p (stmts_names inside_it) (all_loop_variables inside_it) j (unskewed f i j) (frame e n ∷ here) (frame z n ∷ here)
        gives = record {
          value = value_in e n;
          index = index_in;
          no_constant = inner_unvalued;
          told = unskewed_told f good outer_value value_near p i unvalued (all_loop_variables inside_it) j inner_unvalued (frame z n ∷ here) (value_in e n) (value_in z n) new_index outer_index outside
              (place_near s p (nest ++ loop (l + 1) g ∷ []) (frame e n ∷ here) nested_in j (value_in e n) index_in) further;
          others = λ y among other. others_tell y other;
        }

        copies : (y : List ℕ) → is_among y (copied_names z) ≡ is_among y (copied_names e)
        copies y = (λ q. is_among y (if serial q then g.variable ∷ (g.private ++ z.inner) else g.private)) ∙ (λ q. is_among y (if sym serial q then g.variable ∷ (g.private ++ e.inner) else g.private))

        agree : SettingsAgree own_number p p inside_it (l + 1 + 1) (l + 1 + 1)
        agree = record { constants = refl; bounds = λ y q. refl; numbers = λ q less. refl }

        body_likewise : GoLikewise own_name nothing own_number p p inside_it others (l + 1 + 1) (l + 1 + 1) (frame e n ∷ here) (frame z n ∷ here)
        body_likewise = skewed_body p p inside_it (l + 1 + 1) (l + 1 + 1) agree j (unskewed f i j) (frame e n ∷ here) (frame z n ∷ here) (refl, refl, (λ y apart. copies y), same_round [] here) may gives

      pub later_trips : HasLaterTrips p g (skewed_head f loop_is.head.variable g) inside_it (statements_substituted g.variable (unskewed f loop_is.head.variable g.variable) inside_it) (l + 1) here u old
      later_trips = record {
        bounds = new;
        come = ap (λ (q : Evaluated Limits). q.result) new_come;
        seen = seen_alike;
        count = counts;
        likewise = λ n low high. body_likewise n low high;
      }
