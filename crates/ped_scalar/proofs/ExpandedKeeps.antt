-- Where an array may come for a scalar, the new program keeps the meaning of the old one.
use Rattle.std.proofs.Common.{◌≡◌, ℕ, ◌+◌, ◌<◌, ◌≤◌, ℤ, List, [], ◌∷◌, ◌++◌, Bool, true, false, ◌||◌, refl, sym, ap, subst, ◌∙◌, inl, inr, arith, int_le, int_lt, cond, if◌then◌else◌}
use Rattle.std.specs.Prelude.{unsigned_abs, nat_lt}
use Rattle.std.specs.Int.{int_min, int_max}
use Rattle.std.specs.Str.Lines.{lines}
use Rattle.std.specs.List.{flat_map}
use Rattle.ped_base.specs.Lists.{is_same_text, is_among}
use Rattle.ped_tree.specs.Tree.{Head, StmtTree, StmtTrees, Do, ProgramTree}
use Rattle.ped_tree.specs.NamesIn.{stmt_names, all_loop_variables, saved_in}
use Rattle.ped_tree.specs.Accesses.{constant_names}
use Rattle.ped_tree.specs.Numbering.{statement_count, statements_count}
use Rattle.ped_rules.specs.ped_symbols.specs.NameRefusals.{IsValid}
use Rattle.ped_rules.specs.ped_symbols.proofs.RightUseLaws.Whole.{names_occur}
use Rattle.ped_rules.specs.ped_store.specs.Cells.{Element}
use Rattle.ped_rules.specs.ped_store.specs.Storage.{is_within}
use Rattle.ped_rules.specs.ped_store.specs.Stores.{Store, store_at_start}
use Rattle.ped_rules.specs.ped_store.specs.Acts.{Act}
use Rattle.ped_rules.specs.ped_laws.specs.Acts.Orders.{IsIn}
use Rattle.ped_rules.specs.ped_laws.specs.Acts.Pieces.{StandsFor}
use Rattle.ped_rules.specs.ped_laws.specs.Acts.Renaming.{touch}
use Rattle.ped_rules.specs.ped_laws.specs.Acts.Sets.{wants}
use Rattle.ped_rules.specs.ped_laws.specs.FlowRuns.Covering.{some_stop}
use Rattle.ped_rules.specs.ped_laws.specs.FlowRuns.Exits.{IsOneToOne}
use Rattle.ped_rules.specs.ped_laws.specs.Runs.Replaying.{goes_on, finish_of, Replays}
use Rattle.ped_rules.specs.ped_laws.specs.Runs.Showing.{shown_at_end}
use Rattle.ped_rules.specs.ped_laws.proofs.ActLaws.Lists.{in_left, in_parts}
use Rattle.ped_rules.specs.ped_laws.proofs.FlowRunLaws.DeadExits.{unwanted_behind}
use Rattle.ped_rules.specs.ped_laws.proofs.FlowRunLaws.Stopping.{fitting_stops, loop_stops}
use Rattle.ped_rules.specs.ped_laws.proofs.FlowRunLaws.TripReads.{unexposed_unneeded}
use Rattle.ped_rules.specs.ped_laws.proofs.RunLaws.Numbers.{run_same}
use Rattle.ped_rules.specs.ped_eval.specs.Outcomes.{setting_of, run_of, IsRaceFree}
use Rattle.ped_rules.specs.ped_eval.specs.Runs.{Run, run, run_all}
use Rattle.ped_rules.specs.ped_eval.specs.Scopes.{Setting, Scope}
use Rattle.ped_rules.specs.ped_flow.specs.Questions.{LoopOf}
use Rattle.ped_rules.specs.ped_flow.proofs.Truths.{or_none}
use Rattle.ped_rules.specs.ped_steps.specs.Replacing.{alone}
use Rattle.ped_rules.specs.ped_steps.specs.Runs.Expanding.{last_value}
use Rattle.ped_scalar.proofs.ArraysForScalars.{new_statements, expanded_by, MayExpand}
use Rattle.ped_rules.specs.ped_steps.specs.Runs.Gaps.{filled, number_at}
use Rattle.ped_rules.specs.ped_steps.specs.Runs.Meaning.{Keeps}
use Rattle.ped_rules.specs.ped_steps.specs.Runs.Renumbering.{renumbered}
use Rattle.ped_rules.specs.ped_steps.specs.Runs.Substituting.{element_at}
use Rattle.ped_rules.specs.ped_steps.proofs.RunLaws.FilledGaps.{number_room}
use Rattle.ped_rules.specs.ped_steps.proofs.RunLaws.NamesAtSites.{stmt_at}
use Rattle.ped_rules.specs.ped_steps.proofs.RunLaws.OwnBounds.{run_bounds}
use Rattle.ped_rules.specs.ped_steps.proofs.RunLaws.OwnCells.{own_cell}
use Rattle.ped_rules.specs.ped_steps.proofs.RunLaws.ProgramParts.{not_true, part_at}
use Rattle.ped_rules.specs.ped_steps.proofs.RunLaws.ScalarNames.{scalar_named, shown_scalar}
use Rattle.ped_rules.specs.ped_steps.proofs.RunLaws.SubstitutedRuns.{substituted_run}
use Rattle.ped_rules.specs.ped_steps.proofs.RunLaws.SubstitutedShapes.{counts_kept, indices_kept}
use Rattle.ped_rules.specs.ped_loop_runs.specs.Executions.{IsExecuted, as_done}
use Rattle.ped_rules.specs.ped_loop_runs.specs.Meaning.{RaceFreeInstead, IsExchange}
use Rattle.ped_rules.specs.ped_loop_runs.specs.Numbers.{counted_by, told_by, in_a_row, kept_numbers, FitInGap}
use Rattle.ped_rules.specs.ped_loop_runs.specs.Pasting.{CountAlike, DoInstead, StandInstead}
use Rattle.ped_rules.specs.ped_loop_runs.specs.Statements.{GivesWay}
use Rattle.ped_rules.specs.ped_loop_runs.proofs.LoopLaws.OneForOneStands.{run_alone}
use Rattle.ped_rules.specs.ped_loop_runs.proofs.PastingLaws.CountedNumbers.{Differ, append_apart, count_alike, in_row, inside_counts, row_apart, row_in, told_back}
use Rattle.ped_rules.specs.ped_loop_runs.proofs.PastingLaws.KeptMeaning.{exchange_keeps, wanted_suit}
use Rattle.ped_rules.specs.ped_loop_runs.proofs.PastingLaws.OneStatement.{gives_way}
use Rattle.ped_scalar.proofs.ExpandedNames as names
use Rattle.ped_scalar.proofs.ExpandedLoops.{expanded_acts, expanded_replay, substituted_at, stand_instead}
use Rattle.ped_scalar.proofs.ExpandedPlaces.{private_apart, may, kept}
use Rattle.ped_scalar.proofs.ExpandedRaces.{expanded_race_free}
use Rattle.ped_scalar.proofs.ExpandedRuns.{agree_but, element_untouched}

-- the least and the greatest of two numbers are literals where both are
least_near : (a b : ℤ) → nat_lt 2147483647 (unsigned_abs a) ≡ false → nat_lt 2147483647 (unsigned_abs b) ≡ false → nat_lt 2147483647 (unsigned_abs (int_min a b)) ≡ false
least_near a b h k = go (int_lt b a)
  where
    go : (c : Bool) → nat_lt 2147483647 (unsigned_abs (cond c b a)) ≡ false
    go true = k
    go false = h

greatest_near : (a b : ℤ) → nat_lt 2147483647 (unsigned_abs a) ≡ false → nat_lt 2147483647 (unsigned_abs b) ≡ false → nat_lt 2147483647 (unsigned_abs (int_max a b)) ≡ false
greatest_near a b h k = go (int_lt b a)
  where
    go : (c : Bool) → nat_lt 2147483647 (unsigned_abs (cond c a b)) ≡ false
    go true = h
    go false = k

-- numbers of the new statements, in pairs with those under which they count: those of the DO as they did, and the one that follows behind all
abbrev pairs_of : Bool → (l count all : ℕ) → List (ℕ × ℕ)
pairs_of true l count all = in_a_row l l count ++ (l + count, all + 1) ∷ []
pairs_of false l count all = in_a_row l l count

row_from : (l count : ℕ) (y : ℕ × ℕ) → IsIn y (in_a_row l l count) → (l ≤ y.0) × (y.0 < l + count) × (l ≤ y.1) × (y.1 < l + count)
row_from l count y i =
    let h = in_row l l count y i in
    let less = h.1 in
    let first = h.2 in
    let second = h.3 in
    (omega (arith, first), omega (arith, first, less), omega (arith, second), omega (arith, second, less))

last_differs : (l count all : ℕ) → l + count ≤ all + 1 → Differ (in_a_row l l count) ((l + count, all + 1) ∷ [])
last_differs l count all room z y i (inl e) =
    let h = row_from l count z i in
    let less = h.1 in
    let under = h.3 in
    let first = ap (λ (w : ℕ × ℕ). w.0) e in
    let second = ap (λ (w : ℕ × ℕ). w.1) e in
    (λ q. omega (arith, less, first, q), λ q. omega (arith, under, second, room, q))
last_differs l count all room z y i (inr k) = absurd k

fits : (b : Bool) (l count all : ℕ) → l + count ≤ all + 1 → FitInGap l count (count + (if b then 1 else 0)) all (pairs_of b l count all)
fits true l count all room = record {
  room = room;
  apart = append_apart (in_a_row l l count) ((l + count, all + 1) ∷ []) (row_apart l l count) ((λ y i. absurd i), tt) (last_differs l count all room);
  from = λ y i. elim (in_parts y (in_a_row l l count) ((l + count, all + 1) ∷ []) i) [
    | inl j ↦ (row_from l count y j).0
    | inr j ↦ elim j [ inl e ↦ (let first = ap (λ (w : ℕ × ℕ). w.0) e in omega (arith, first)) | inr k ↦ absurd k ]
  ];
  to = λ y i. elim (in_parts y (in_a_row l l count) ((l + count, all + 1) ∷ []) i) [
    | inl j ↦ (let less = (row_from l count y j).1 in omega (arith, less))
    | inr j ↦ elim j [ inl e ↦ (let first = ap (λ (w : ℕ × ℕ). w.0) e in omega (arith, first)) | inr k ↦ absurd k ]
  ];
  under = λ y i. elim (in_parts y (in_a_row l l count) ((l + count, all + 1) ∷ []) i) [
    | inl j ↦ inl ((row_from l count y j).2, (row_from l count y j).3)
    | inr j ↦ elim j [ inl e ↦ (let second = ap (λ (w : ℕ × ℕ). w.1) e in inr (omega (arith, second))) | inr k ↦ absurd k ]
  ];
}
fits false l count all room = record {
  room = room;
  apart = row_apart l l count;
  from = λ y i. (row_from l count y i).0;
  to = λ y i. (let less = (row_from l count y i).1 in omega (arith, less));
  under = λ y i. inl ((row_from l count y i).2, (row_from l count y i).3);
}

row_among : (b : Bool) (l count all : ℕ) (y : ℕ × ℕ) → IsIn y (in_a_row l l count) → IsIn y (pairs_of b l count all)
row_among true l count all y i = in_left y (in_a_row l l count) ((l + count, all + 1) ∷ []) i
row_among false l count all y i = i

module _ (t : ProgramTree) (valid : IsValid t) (l : ℕ) (loop : LoopOf t l) (x array : List ℕ) (live : Bool) (m1 m2 m3 : ℤ) (can : MayExpand t l loop x array live m1 m2 m3) (by : StmtTree → StmtTrees) (by_is : by (Do loop.head loop.body) ≡ new_statements x array live (last_value m1 m2 m3) loop.head loop.body) where
  abbrev last : ℤ
  last = last_value m1 m2 m3

  abbrev lo : ℤ
  lo = int_min m1 last

  abbrev hi : ℤ
  hi = int_max m1 last

  abbrev u : ProgramTree
  u = expanded_by t l by array m1 m2 m3

  near : nat_lt 2147483647 (unsigned_abs lo) ≡ false
  near = least_near m1 last can.near_first can.near_last

  far : nat_lt 2147483647 (unsigned_abs hi) ≡ false
  far = greatest_near m1 last can.near_first can.near_last

  variables : (is_same_text x loop.head.variable ≡ false) × (is_among x (all_loop_variables loop.body) ≡ false)
  variables = or_none (is_same_text x loop.head.variable) (is_among x (all_loop_variables loop.body)) can.near

  abbrev h : Head
  h = loop.head

  abbrev body : StmtTrees
  body = loop.body

  abbrev s : StmtTree
  s = Do loop.head loop.body

  constants : (setting_of u).constants ≡ (setting_of t).constants
  constants = names.constants_kept t l loop x array can.scalar can.new lo hi last near far live by by_is

  within : (k : ℤ) → int_le lo k ≡ true → int_le k hi ≡ true → is_within ((setting_of u).bounds array) (k ∷ []) ≡ true
  within = names.array_within t l loop x array can.scalar can.new lo hi last near far live by by_is

  unnamed : is_among array (stmt_names s) ≡ false
  unnamed = not_true (is_among array (stmt_names s)) (λ there. sym ((part_at t valid l s loop.is).named array (ap (is_among array) (stmt_at s) ∙ there)) ∙ sym (names_occur t array) ∙ can.new)

  hidden : (js : List ℤ) → shown_at_end t (Element array js) ≡ false
  hidden = names.element_hidden t l loop x array can.scalar can.new lo hi last near far live by by_is

  saved : flat_map saved_in u.decls ≡ flat_map saved_in t.decls
  saved = names.saved_same t.decls array lo hi

  -- the old statements and the new ones
  way : GivesWay by l s t
  way = gives_way by l s t loop.is

  abbrev old : StmtTrees
  old = alone (Do loop.head loop.body)

  abbrev new : StmtTrees
  new = new_statements x array live (last_value m1 m2 m3) loop.head loop.body

  abbrev count : ℕ
  count = statements_count old

  abbrev all : ℕ
  all = statements_count t.body

  new_count : statements_count new ≡ count + (if live then 1 else 0)
  new_count = counts live
    where
      counts : (b : Bool) → statements_count (new_statements x array b last h body) ≡ count + (if b then 1 else 0)
      counts true = ap (λ (n : ℕ). n + 1 + (1 + 0)) (counts_kept x (element_at array h.variable) body) ∙ omega arith
      counts false = ap (λ (n : ℕ). n + 1 + 0) (counts_kept x (element_at array h.variable) body) ∙ omega arith

  same_indices : (y : List ℕ) → is_among y (all_loop_variables new) ≡ is_among y (all_loop_variables old)
  same_indices y = told live
    where
      told : (b : Bool) → is_among y (all_loop_variables (new_statements x array b last h body)) ≡ is_among y (all_loop_variables old)
      told true = ap (λ (variables : List (List ℕ)). is_among y (h.variable ∷ (variables ++ []))) (indices_kept x (element_at array h.variable) body)
      told false = ap (λ (variables : List (List ℕ)). is_among y (h.variable ∷ (variables ++ []))) (indices_kept x (element_at array h.variable) body)

  room : l + count ≤ all + 1
  room =
      let most = number_room way.gap old 1 in
      let number = way.number in
      let same : all ≡ statements_count (filled way.gap old) = ap statements_count way.old in
      omega (arith, most, number, same)

  abbrev inside : List (ℕ × ℕ)
  inside = pairs_of live l count all

  abbrev pairs : List (ℕ × ℕ)
  pairs = kept_numbers l count (statements_count new) all inside

  fit : FitInGap l count (statements_count new) all inside
  fit = subst (λ (n : ℕ). FitInGap l count n all inside) (sym new_count) (fits live l count all room)

  abbrev counted : ℕ → ℕ
  counted = counted_by pairs

  -- the old program's setting, and the new one's under the old numbers
  abbrev p : Setting
  p = setting_of t

  abbrev q : Setting
  q = renumbered (counted_by pairs) (setting_of u)

  one : IsOneToOne p.number
  one m n e = e

  same_numbers : (k : ℕ) → k < statement_count s → p.number (l + k) ≡ q.number (l + k)
  same_numbers k less =
      let r = row_in l l count k (omega (arith, less)) in
      sym (ap counted (sym r.2) ∙ inside_counts l count (statements_count new) all inside fit r.0 (row_among live l count all r.0 r.1) ∙ r.3)

  -- the old DO does the same in both
  alike : (S : Scope) (v : Store) → run q s l S v ≡ run p s l S v
  alike S v =
      ap (λ (r : Store → Run). r v) (sym (run_bounds p q.bounds s l S (agree_but p.bounds q.bounds array (stmt_names s) (λ y apart. sym (names.bounds_kept t l loop x array can.scalar can.new lo hi last near far live by by_is y apart)) unnamed)
      ∙ run_same (record { bounds = q.bounds; constants = p.constants; number = p.number }) q refl (sym constants) s l l S same_numbers))

  not_private : is_among x h.private ≡ false
  not_private = (private_apart x h body can.shared).0

  unvalued : is_among x (constant_names t.decls) ≡ false
  unvalued = scalar_named t x valid can.scalar

  stops : some_stop old ≡ false
  stops = (λ i. loop_stops t l loop (fitting_stops t valid.fits) i || false)

  abbrev acts : Scope → Store → List Act
  acts = expanded_acts t l loop x array live last q

  module _ (valid_new : IsValid u) (data_bytes : List ℕ) (free : IsRaceFree t data_bytes) where
    abbrev start : Store
    start = store_at_start (lines data_bytes)

    untouched : (js : List ℤ) → touch (run_of t data_bytes).acts (Element array js) ≡ false
    untouched js = element_untouched p array js t.body 1 [] start (names.array_absent t l loop x array can.scalar can.new lo hi last near far live by by_is)

    module _ (scope : Scope) (front behind : List Act) (v : Store) (executed : IsExecuted p t start l count scope front (run_all p old l scope v).acts behind v) (goes : finish_of (run_all p old l scope v).ending ≡ goes_on) where
      goes_alone : finish_of (run p s l scope v).ending ≡ goes_on
      goes_alone = ap (λ (r : Run). finish_of r.ending) (sym (run_alone p s l scope v)) ∙ goes

      executed_alone : IsExecuted p t start l count scope front (run p s l scope v).acts behind v
      executed_alone = subst (λ (r : Run). IsExecuted p t start l count scope front r.acts behind v) (run_alone p s l scope v) executed

      replayed : Replays (run_all q new l scope) (acts scope v) goes_on
      replayed = expanded_replay t l loop x array live last q p alike can.in_order not_private variables.0 (λ S ts y a w k fit n z sound. substituted_run q S ts y a w k fit n z sound) (may t valid l loop x array can.scalar can.round can.near can.shared can.new q constants p one m1 m2 m3 can.first can.last can.step can.some within live) (λ so. kept t valid l loop x array can.scalar can.round can.near can.shared can.new q constants p one m1 m2 m3 can.first can.last can.step can.some within live can.in_order can.near_last can.unexposed (can.through so)) scope v executed.place goes_alone

      stood : StandsFor (record { agreed = wants (shown_at_end t) ((run_all p old l scope v).acts ++ behind); old = (run_all p old l scope v).acts; new = acts scope v }) (wants (shown_at_end t) behind) v
      stood =
          subst (λ (r : Run). StandsFor (record { agreed = wants (shown_at_end t) (r.acts ++ behind); old = r.acts; new = acts scope v }) (wants (shown_at_end t) behind) v) (sym (run_alone p s l scope v))
          (stand_instead t l loop x array live last q p alike can.in_order not_private variables.0 (λ S ts y a w k fit n z sound. substituted_run q S ts y a w k fit n z sound) (may t valid l loop x array can.scalar can.round can.near can.shared can.new q constants p one m1 m2 m3 can.first can.last can.step can.some within live) (λ so. kept t valid l loop x array can.scalar can.round can.near can.shared can.new q constants p one m1 m2 m3 can.first can.last can.step can.some within live can.in_order can.near_last can.unexposed (can.through so)) start (shown_at_end t) hidden free.0 untouched
          (λ S seen m k w done. unexposed_unneeded q t l loop x unvalued (loop_stops t l loop (fitting_stops t valid.fits)) can.unexposed S seen m k w done)
          (λ so S rest exit. unwanted_behind p one t x unvalued (fitting_stops t valid.fits) start l S rest exit (can.dead so) (shown_at_end t) (shown_scalar t x S))
          scope v executed.place (as_done executed_alone) goes_alone)

    do_instead : DoInstead p q t start (number_at way.gap 1) count (run_all p old (number_at way.gap 1)) new acts
    do_instead = subst (λ (k : ℕ). DoInstead p q t start k count (run_all p old k) new acts) (sym way.number) replayed

    stands_instead : StandInstead (wants (shown_at_end t)) p t start (number_at way.gap 1) count (run_all p old (number_at way.gap 1)) acts
    stands_instead = subst (λ (k : ℕ). StandInstead (wants (shown_at_end t)) p t start k count (run_all p old k) acts) (sym way.number) stood

    no_race : RaceFreeInstead p t start l count (run_all p old l) acts (run_all q u.body 1 [])
    no_race =
        expanded_race_free t u valid_new l loop x array live last (counted_by pairs) (told_by pairs) (told_back pairs) data_bytes alike can.in_order not_private (own_cell p t one l x can.shared_round can.no_index)
        (substituted_at t l loop x array live last q p alike can.in_order not_private variables.0 (λ S ts y a w k fit n z sound. substituted_run q S ts y a w k fit n z sound) (may t valid l loop x array can.scalar can.round can.near can.shared can.new q constants p one m1 m2 m3 can.first can.last can.step can.some within live) (λ so. kept t valid l loop x array can.scalar can.round can.near can.shared can.new q constants p one m1 m2 m3 can.first can.last can.step can.some within live can.in_order can.near_last can.unexposed (can.through so))) (λ so. kept t valid l loop x array can.scalar can.round can.near can.shared can.new q constants p one m1 m2 m3 can.first can.last can.step can.some within live can.in_order can.near_last can.unexposed (can.through so)) (λ n. untouched (n ∷ []))

    exchange : IsExchange way.gap old new t u data_bytes
    exchange = record {
      saved = saved;
      kinds = names.live_kinds t l loop x array can.scalar can.new lo hi last near far live by by_is;
      counted = counted_by pairs;
      told = told_by pairs;
      back = told_back pairs;
      pasted = record {
        old_body = way.old;
        new_body = way.new ∙ ap (filled way.gap) by_is;
        bounds = names.bounds_agree t l loop x array can.scalar can.new lo hi last near far live by by_is;
        constants = sym constants;
        one_each = one;
        numbers = subst (λ (k : ℕ). CountAlike p q k count (statements_count new) all) (sym way.number) (count_alike l count (statements_count new) all inside fit t u);
        some = way.some;
        unstopped = stops;
        indices = λ k. same_indices;
      };
      agreed = wants (shown_at_end t);
      suit = wanted_suit (shown_at_end t);
      fresh = acts;
      instead = do_instead;
      stand = stands_instead;
      free = subst (λ (k : ℕ). RaceFreeInstead p t start k count (run_all p old k) acts (run_all q u.body 1 [])) (sym way.number) no_race;
    }

  -- the program keeps its meaning
  pub expanding_keeps : IsValid u → Keeps t u
  expanding_keeps valid_new = exchange_keeps way.gap old new t u saved (exchange valid_new)
