-- Two loops, one of which is the body of the other, in an execution: what is plain at the outer one is worth one number, at its place and in each iteration.
use Rattle.ped_base.specs.Lists.{is_among, is_same_text}
use Rattle.ped_rules.proofs.NestLaws.LoopPairs as pairs
use Rattle.ped_rules.proofs.NestLaws.LoopPairs.{old_entered, scope_at, store_at}
use Rattle.ped_rules.proofs.NestLaws.InnerPlaces.{inner_there, loops_of_program}
use Rattle.ped_rules.proofs.NestLaws.OnlyBodies.{only_counted, only_tells, pair}
use Rattle.ped_rules.specs.OnlyLoops.{only_loop}
use Rattle.ped_loop_runs.proofs.LoopLaws.NextIn.{first_is_next}
use Rattle.ped_loop_runs.proofs.LoopLaws.OneOut.{place_further_in}
use Rattle.ped_loop_runs.proofs.LoopLaws.PlainReads.{plain_again}
use Rattle.ped_loop_runs.specs.Bounds.{IsOfFixed, ReadTheSame}
use Rattle.ped_loop_runs.specs.OneOut.{IsNextIn}
use Rattle.ped_loop_runs.proofs.PastingLaws.EnteredRanges.{told_lie}
use Rattle.ped_loop_runs.proofs.PastingLaws.ExecutedDuring.{whole_outermost}
use Rattle.ped_loop_runs.proofs.PastingLaws.ToldPlaces.{place_with}
use Rattle.ped_loop_runs.specs.Executions.{IsExecuted, as_done}
use Rattle.ped_loop_runs.specs.Places.{AreDuring, told_at}
use Rattle.ped_loop_runs.specs.ped_bodies.proofs.BodyLaws.LimitParts.{limits_come}
use Rattle.ped_loop_runs.specs.ped_bodies.specs.Trips.{bounds_seen, entered_from, loop_close, loop_entry, trip_end, trips}
use Rattle.ped_loop_runs.specs.ped_steps.specs.Replacing.{alone}
use Rattle.ped_loop_runs.specs.ped_flow.specs.PlainBounds.{IsPlain, IsPlainlyBuilt, nest_round, setting_round}
use Rattle.ped_loop_runs.specs.ped_flow.specs.Questions.{LoopOf}
use Rattle.ped_loop_runs.specs.ped_laws.proofs.ActLaws.Renamings.{or_left, or_right}
use Rattle.ped_loop_runs.specs.ped_laws.proofs.ActLaws.SameCells.{text_itself}
use Rattle.ped_loop_runs.specs.ped_laws.proofs.PlainLaws.Standing.{value_during}
use Rattle.ped_loop_runs.specs.ped_laws.proofs.PlainLaws.ValidPrograms.{have_values, loop_bounds_fit, no_stop_in_loops}
use Rattle.ped_loop_runs.specs.ped_laws.proofs.RunLaws.Sight.{holds_append, value_told}
use Rattle.ped_loop_runs.specs.ped_laws.specs.Acts.Fitting.{store_after}
use Rattle.ped_loop_runs.specs.ped_laws.specs.Acts.Orders.{IsIn}
use Rattle.ped_loop_runs.specs.ped_laws.specs.Plain.Executions.{HasValueDuring, IsDuring, IsInside, IsPlaceWith, LieInRanges}
use Rattle.ped_loop_runs.specs.ped_laws.specs.Runs.Replaying.{finish_of, goes_on}
use Rattle.ped_loop_runs.specs.ped_laws.specs.Runs.Seeing.{ComesTo}
use Rattle.ped_loop_runs.specs.ped_eval.specs.Evaluation.{Seen, cell_seen, index_seen}
use Rattle.ped_loop_runs.specs.ped_eval.specs.Loops.{Entered, Limits, copied_names, frame, is_bound, limits}
use Rattle.ped_loop_runs.specs.ped_eval.specs.Outcomes.{Ends, setting_of}
use Rattle.ped_loop_runs.specs.ped_eval.specs.Runs.{Ending, failed, going, run, stopped}
use Rattle.ped_loop_runs.specs.ped_eval.specs.Scopes.{Names, Scope, Setting, names_in, place_of}
use Rattle.ped_loop_runs.specs.ped_eval.specs.Values.{value}
use Rattle.ped_loop_runs.specs.ped_store.specs.Acts.{Act}
use Rattle.ped_loop_runs.specs.ped_store.specs.Cells.{Cell}
use Rattle.ped_loop_runs.specs.ped_store.specs.Stores.{Content, Store, store_at_start}
use Rattle.ped_loop_runs.specs.ped_symbols.proofs.RightUseLaws.Whole.{right_program}
use Rattle.ped_loop_runs.specs.ped_symbols.specs.NameRefusals.{IsValid}
use Rattle.ped_tree.specs.Grammar.Fits.{expr_fits}
use Rattle.ped_tree.specs.NamesIn.{all_loop_variables, loop_variables}
use Rattle.ped_tree.specs.Nests.{indices_of}
use Rattle.ped_tree.specs.Numbering.{statement_with, statements_count}
use Rattle.ped_tree.specs.Tree.{Do, ExprTree, Head, ProgramTree, StmtTrees}
use Rattle.std.proofs.Common.{Bool, List, Ok, Result, Some, [], ap, append-nil, append_assoc, arith, false, if◌then◌else◌, inl, inr, refl, subst, suc, sym, true, zero, ℕ, ℤ, ◌++◌, ◌+◌, ◌-◌, ◌∙◌, ◌∷◌, ◌≡◌, ◌≤◌}
use Rattle.std.specs.List.{flat_map, range_with_len}
use Rattle.std.specs.Str.Lines.{lines}

pub one_result : (r : Result ℤ ℕ) (m n : ℤ) → r ≡ Ok m → r ≡ Ok n → m ≡ n
one_result r m n a b = same (sym a ∙ b)
  where
    same : ◌≡◌ {A = Result ℤ ℕ} (Ok m) (Ok n) → m ≡ n
    same q = cc

-- what two such evaluations read are cells of this kind
pub read_so : (P : Cell → Type 0) (xs ys : List Seen) → ReadTheSame P xs ys → (c : Cell) (v : Content) → IsIn (cell_seen c v) xs → P c
read_so P [] ys same c v i = absurd i
read_so P (cell_seen e w ∷ xs) [] same c v i = absurd same
read_so P (cell_seen e w ∷ xs) (cell_seen f u ∷ ys) same c v (inl q) = let cells : c ≡ e = cc in subst P (sym cells) same.0
read_so P (cell_seen e w ∷ xs) (cell_seen f u ∷ ys) same c v (inr i) = read_so P xs ys same.3 c v i
read_so P (cell_seen e w ∷ xs) (index_seen f n ∷ ys) same c v i = absurd same
read_so P (index_seen e m ∷ xs) [] same c v i = absurd same
read_so P (index_seen e m ∷ xs) (cell_seen f u ∷ ys) same c v i = absurd same
read_so P (index_seen e m ∷ xs) (index_seen f n ∷ ys) same c v (inl q) = absurd cc
read_so P (index_seen e m ∷ xs) (index_seen f n ∷ ys) same c v (inr i) = read_so P xs ys same.1 c v i

-- bounds come where both their values do
pub limits_there : (n : Names) (f : Head) (u : Store) (a b : ℤ) → (value n f.first u).result ≡ Ok a → is_bound a ≡ true → (value n f.last u).result ≡ Ok b → is_bound b ≡ true → limits n f u ≡ record { seen = (value n f.first u).seen ++ (value n f.last u).seen; result = Ok (record { first = a; last = b }) }
limits_there n f u a b one first_bound two last_bound =
    limits_come n f (value n f.first u).seen (value n f.last u).seen a b (comes f.first a one) first_bound (comes f.last b two) last_bound u
    (holds_append u (value n f.first u).seen (value n f.last u).seen ((value_told n f.first).holds u) ((value_told n f.last).holds u))
  where
    comes : (x : ExprTree) (v : ℤ) → (value n x u).result ≡ Ok v → ComesTo (value n x) (value n x u).seen (Ok v)
    comes x v is w holds = (value_told n x).comes u w holds ∙ (λ i. record { seen = (value n x u).seen; result = is i })

-- an expression is plain, and worth one number at each place in an execution of the outermost DO that tells these values
pub record IsSettled (t : ProgramTree) (l : ℕ) (told : List ℕ → ℤ) (first : Store) (e : ExprTree) : Type 0 where
  pub worth : HasValueDuring (setting_of t) t l told first e
  pub built : IsPlainlyBuilt (setting_of t).constants t l e

-- it reads fixed scalars alone
pub settled_reads : (t : ProgramTree) (l : ℕ) (told : List ℕ → ℤ) (first : Store) (e : ExprTree) → IsSettled t l told first e → (around : Scope) → IsPlaceWith (setting_of t).constants t l told around → (s : Store) → IsDuring (setting_of t) t l first s
    → (c : Cell) (v : Content) → IsIn (cell_seen c v) (value (names_in (setting_of t) around) e s).seen → IsOfFixed (setting_of t).constants t l c
settled_reads t l told first e x around place s during c v i =
    read_so (IsOfFixed (setting_of t).constants t l) (value (names_in (setting_of t) around) e s).seen (value (names_in (setting_of t) around) e s).seen
    (plain_again (setting_of t) (setting_of t) refl t l e x.built told around around place place first s s during during).seen c v i

-- the first numbers of a row, and the others
pub split_numbers : (f : ℕ → List Act) (m n a : ℕ) → m ≤ n → (rest : List Act) × (flat_map f (range_with_len a n) ≡ flat_map f (range_with_len a m) ++ rest)
split_numbers f zero n a h = (flat_map f (range_with_len a n), refl)
split_numbers f (suc m) zero a h = absurd (omega (arith, h))
split_numbers f (suc m) (suc n) a h = let r = split_numbers f m n (a + 1) (omega (arith, h)) in (r.0, ap (λ (xs : List Act). f a ++ xs) r.1 ∙ sym (append_assoc (f a) (flat_map f (range_with_len (a + 1) m)) r.0))

pub ends_so : (e : Ending) → finish_of e ≡ goes_on → Ends e
ends_so (going s) q = tt
ends_so (stopped s) q = tt
ends_so (failed fault n) q = absurd cc

-- two loops in one execution, the inner one the body of the outer one: the values of the variables of the loops round them are told, and what is plain at the outer one is worth one number at its place, in each of its iterations, and in those of a loop of the inner variable in its place
pub record ArePlaced (t : ProgramTree) (l : ℕ) (loop : LoopOf t l) (g : Head) (inside : StmtTrees) (only : only_loop loop.body ≡ Some (pair g inside)) (scope : Scope) (s : Store) (goes : finish_of (run (setting_of t) (Do loop.head loop.body) l scope s).ending ≡ goes_on) : Type 0 where
  pub told : List ℕ → ℤ
  pub first : Store
  pub settled : (e : ExprTree) → IsPlain (setting_of t).constants t l e → expr_fits e ≡ true → IsSettled t l told first e
  pub here : IsPlaceWith (setting_of t).constants t l told scope
  pub old_place : (i : ℕ) → IsPlaceWith (setting_of t).constants t l told (scope_at (setting_of t) loop.head g loop.body inside only l scope s goes i)
  pub new_place : (h : Head) (body : StmtTrees) → h.variable ≡ g.variable → h.parallel ≡ false → h.private ≡ [] → (m : Limits) (a : ℕ) → IsPlaceWith (setting_of t).constants t l told (frame (entered_from (setting_of t) h body l scope s m) a ∷ scope)
  pub during : IsDuring (setting_of t) t l first s
  pub rows_during : (i : ℕ) → 1 ≤ i → i ≤ (old_entered (setting_of t) loop.head g loop.body inside only l scope s goes).count → IsDuring (setting_of t) t l first (store_at (setting_of t) loop.head g loop.body inside only l scope s goes i)

module _ (t : ProgramTree) (valid : IsValid t) (l : ℕ) (loop : LoopOf t l) (g : Head) (inside : StmtTrees) (only : only_loop loop.body ≡ Some (pair g inside)) (serial : loop.head.parallel ≡ false) (private : loop.head.private ≡ [])
    (apart : is_among loop.head.variable (indices_of (nest_round t l)) ≡ false) (inner_apart : is_among g.variable (indices_of (nest_round t l)) ≡ false) where
  -- the inner DO in the program
  pub next : IsNextIn t l loop (l + 1)
  next = first_is_next t l loop (let many = only_counted g inside loop.body only in omega (arith, many))

  pub its_inner : statement_with (l + 1) t ≡ Some (Do g inside)
  its_inner = inner_there t l loop.head loop.body g inside loop.is only

  pub fits : (expr_fits loop.head.first ≡ true) × (expr_fits loop.head.last ≡ true)
  fits = loop_bounds_fit t l loop.head loop.body valid loop.is

  pub inner_fits : (expr_fits g.first ≡ true) × (expr_fits g.last ≡ true)
  inner_fits = loop_bounds_fit t (l + 1) g inside valid its_inner

  module _ (data_bytes : List ℕ) (scope : Scope) (front behind : List Act) (s : Store)
      (executed : IsExecuted (setting_of t) t (store_at_start (lines data_bytes)) l (statements_count (alone (Do loop.head loop.body))) scope front (run (setting_of t) (Do loop.head loop.body) l scope s).acts behind s)
      (goes : finish_of (run (setting_of t) (Do loop.head loop.body) l scope s).ending ≡ goes_on) where
    abbrev p : Setting
    p = setting_of t

    abbrev start : Store
    start = store_at_start (lines data_bytes)

    abbrev told : List ℕ → ℤ
    told = told_at scope

    abbrev e0 : Entered
    e0 = old_entered (setting_of t) loop.head g loop.body inside only l scope s goes

    around : AreDuring p t start l (run (setting_of t) (Do loop.head loop.body) l scope s).acts s
    around = whole_outermost p t start l loop scope s executed.place (as_done executed) (ends_so (run (setting_of t) (Do loop.head loop.body) l scope s).ending goes)

    abbrev first : Store
    first = store_after around.front (store_at_start (lines data_bytes))

    here : IsPlaceWith p.constants t l told scope
    here = place_with p t l (λ m n same. same) scope executed.place

    ranges : LieInRanges p.constants t l told
    ranges = told_lie t valid (right_program t valid) data_bytes l (statements_count (alone (Do loop.head loop.body))) scope front (run (setting_of t) (Do loop.head loop.body) l scope s).acts behind s executed

    settled : (e : ExprTree) → IsPlain p.constants t l e → expr_fits e ≡ true → IsSettled t l told first e
    settled e plain fit = record {
      worth = value_during (setting_of t) t (λ m n same. same) (no_stop_in_loops t valid) (have_values t valid) start l around.front around.entry told (λ x. refl) e plain fit ranges;
      built = plain.built;
    }

    -- iterations of the loops tell what the places round them tell
    no_copies_of : (f : Entered) → f.head.parallel ≡ false → f.head.private ≡ [] → copied_names f ≡ []
    no_copies_of f q r = ap (λ (b : Bool). if b then f.head.variable ∷ (f.head.private ++ f.inner) else f.head.private) q ∙ r

    inside_so : (f : Entered) (n : ℕ) → f.head.parallel ≡ false → f.head.private ≡ [] → is_among f.head.variable (loop_variables (Do loop.head loop.body)) ≡ true → IsInside (setting_round p.constants t l) (frame f n)
    inside_so f n q r named = record {
      variable = loops_of_program t l loop f.head.variable named;
      private = λ x i. absurd (none x (ap (is_among x) (sym (no_copies_of f q r)) ∙ i));
    }
      where
        none : (x : List ℕ) → is_among x [] ≡ true → ⊥
        none x e = absurd cc

    own_named : is_among loop.head.variable (loop_variables (Do loop.head loop.body)) ≡ true
    own_named = or_left (is_same_text loop.head.variable loop.head.variable) (is_among loop.head.variable (all_loop_variables loop.body)) (text_itself loop.head.variable)

    inner_named : is_among g.variable (loop_variables (Do loop.head loop.body)) ≡ true
    inner_named =
        or_right (is_same_text g.variable loop.head.variable) (is_among g.variable (all_loop_variables loop.body))
        (ap (is_among g.variable) (only_tells g inside loop_variables all_loop_variables (λ (xs ys : List (List ℕ)). xs ++ ys) [] (λ xs. refl) (λ xs. append-nil xs) refl (λ s rest. refl) (λ text. refl) loop.body only)
        ∙ or_left (is_same_text g.variable g.variable) (is_among g.variable (all_loop_variables inside)) (text_itself g.variable))

    old_place : (i : ℕ) → IsPlaceWith p.constants t l told (scope_at (setting_of t) loop.head g loop.body inside only l scope s goes i)
    old_place i = place_further_in p.constants t l told scope (frame e0 i) here (inside_so e0 i serial private own_named) apart

    new_place : (h : Head) (body : StmtTrees) → h.variable ≡ g.variable → h.parallel ≡ false → h.private ≡ [] → (m : Limits) (a : ℕ) → IsPlaceWith p.constants t l told (frame (entered_from (setting_of t) h body l scope s m) a ∷ scope)
    new_place h body variable new_serial new_private m a =
        place_further_in p.constants t l told scope (frame (entered_from (setting_of t) h body l scope s m) a) here
        (inside_so (entered_from (setting_of t) h body l scope s m) a new_serial new_private (ap (λ (v : List ℕ). is_among v (loop_variables (Do loop.head loop.body))) variable ∙ inner_named))
        (ap (λ (v : List ℕ). is_among v (indices_of (nest_round t l))) variable ∙ inner_apart)

    rows_during : (i : ℕ) → 1 ≤ i → i ≤ e0.count → IsDuring p t l first (store_at (setting_of t) loop.head g loop.body inside only l scope s goes i)
    rows_during i from to =
        let made = pairs.outer (setting_of t) loop.head g loop.body inside only l scope s goes in
        let parted = split_numbers (λ j. made.trip j ++ trip_end e0 scope (place_of p l scope) j) (i - 1) e0.count 1 (omega (arith, to)) in
        around.during (loop_entry (bounds_seen p loop.head scope s) e0 scope (place_of p l scope) ∷ trips e0 scope (place_of p l scope) made.trip 1 (i - 1)) (parted.0 ++ loop_close e0 scope (place_of p l scope))
        (made.acts
        ∙ ap (λ (xs : List Act). loop_entry (bounds_seen p loop.head scope s) e0 scope (place_of p l scope) ∷ (xs ++ loop_close e0 scope (place_of p l scope))) parted.1
        ∙ ap (λ (xs : List Act). loop_entry (bounds_seen p loop.head scope s) e0 scope (place_of p l scope) ∷ xs) (append_assoc (trips e0 scope (place_of p l scope) made.trip 1 (i - 1)) parted.0 (loop_close e0 scope (place_of p l scope))))

    pub are_placed : ArePlaced t l loop g inside only scope s goes
    are_placed = record {
      told = told;
      first = first;
      settled = settled;
      here = here;
      old_place = old_place;
      new_place = new_place;
      during = around.during [] (run (setting_of t) (Do loop.head loop.body) l scope s).acts refl;
      rows_during = rows_during;
    }
