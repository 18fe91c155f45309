-- Two loops in each other's place: what a step shows of them, and the new loops put together from what the old bodies did.
use Rattle.std.proofs.Common.{Bool, List, Ok, Some, [], ap, arith, false, if◌then◌else◌, refl, subst, sym, ℕ, ◌++◌, ◌+◌, ◌-◌, ◌∙◌, ◌∷◌, ◌≡◌, ◌≤◌}
use Rattle.std.specs.Str.Lines.{lines}
use Rattle.ped_base.specs.Lists.{is_same_text}
use Rattle.ped_rules.proofs.NestLaws.LoopPairs.{Row, chosen, chosen_are, inner_at, old_entered, pairs_made, row_at, rows_are, scope_at}
use Rattle.ped_rules.proofs.NestLaws.OnlyBodies.{only_changed, pair}
use Rattle.ped_rules.proofs.NestLaws.PairOrders.{IsRegrouped}
use Rattle.ped_rules.proofs.NestLaws.WovenCells.{swapped_names}
use Rattle.ped_rules.specs.OnlyLoops.{change_only, only_loop}
use Rattle.ped_loop_runs.specs.Bounds.{IsOfFixed}
use Rattle.ped_loop_runs.specs.Executions.{IsExecuted}
use Rattle.ped_loop_runs.specs.ped_bodies.proofs.BodyLaws.Instances.{interchanged_body}
use Rattle.ped_loop_runs.specs.ped_bodies.specs.Likewise.{AreLikewise, DoesLikewise}
use Rattle.ped_loop_runs.specs.ped_bodies.specs.Moving.{HaveNoCopies, own_number}
use Rattle.ped_loop_runs.specs.ped_bodies.specs.Standing.{GoLikewise, SettingsAgree}
use Rattle.ped_loop_runs.specs.ped_bodies.specs.Trips.{IsTrip, bounds_seen, entered_from, loop_acts}
use Rattle.ped_loop_runs.specs.ped_steps.specs.Replacing.{alone, program_with}
use Rattle.ped_loop_runs.specs.ped_flow.specs.Questions.{IsContained, LoopOf}
use Rattle.ped_loop_runs.specs.ped_laws.proofs.RunLaws.Sight.{limits_told}
use Rattle.ped_loop_runs.specs.ped_laws.specs.Acts.Orders.{IsIn}
use Rattle.ped_loop_runs.specs.ped_laws.specs.Acts.Sets.{nothing}
use Rattle.ped_loop_runs.specs.ped_laws.specs.Runs.Replaying.{IsEntered, Replays, finish_of, goes_on}
use Rattle.ped_loop_runs.specs.ped_laws.specs.Runs.Seeing.{ComesTo}
use Rattle.ped_loop_runs.specs.ped_eval.specs.Evaluation.{Seen, cell_seen}
use Rattle.ped_loop_runs.specs.ped_eval.specs.Loops.{Entered, Limits, frame, increment, limits, value_in}
use Rattle.ped_loop_runs.specs.ped_eval.specs.Outcomes.{setting_of}
use Rattle.ped_loop_runs.specs.ped_eval.specs.Runs.{run}
use Rattle.ped_loop_runs.specs.ped_eval.specs.Scopes.{Scope, Setting, names_in, place_of, turns_of}
use Rattle.ped_loop_runs.specs.ped_eval.specs.Turns.{body_run}
use Rattle.ped_loop_runs.specs.ped_store.specs.Acts.{Act, Place}
use Rattle.ped_loop_runs.specs.ped_store.specs.Cells.{Cell}
use Rattle.ped_loop_runs.specs.ped_store.specs.Stores.{Content, Store, store_at_start}
use Rattle.ped_loop_runs.specs.ped_symbols.specs.Kinds.{kind_in}
use Rattle.ped_loop_runs.specs.ped_symbols.specs.NameRefusals.{IsValid}
use Rattle.ped_tree.specs.Numbering.{statements_count}
use Rattle.ped_tree.specs.Tree.{Do, Head, ProgramTree, StmtTrees}

-- in one execution the new loops have the same pairs of iterations: their bounds have values in the store at its entry, for which they read scalars that keep theirs; each pair of the old loops is one of the new ones, and so back; and the two variables have the same values in it (Allen and Kennedy, section 5.2)
pub record HasSwappedTrips (t : ProgramTree) (l : ℕ) (d g h k : Head) (body inside : StmtTrees) (only : only_loop body ≡ Some (pair g inside)) (scope : Scope) (s : Store) (goes : finish_of (run (setting_of t) (Do d body) l scope s).ending ≡ goes_on) : Type 0 where
  pub bounds : Limits
  pub come : (limits (names_in (setting_of t) scope) h s).result ≡ Ok bounds
  pub inner_bounds : ℕ → Limits
  pub inner_come : (a : ℕ) → 1 ≤ a → a ≤ (entered_from (setting_of t) h (change_only (λ f z. Do k z) body) l scope s bounds).count
      → (limits (names_in (setting_of t) (frame (entered_from (setting_of t) h (change_only (λ f z. Do k z) body) l scope s bounds) a ∷ scope)) k s).result ≡ Ok (inner_bounds a)
  pub fixed : (c : Cell) (v : Content) → IsIn (cell_seen c v) (bounds_seen (setting_of t) h scope s) → IsOfFixed (setting_of t).constants t l c
  pub inner_fixed : (a : ℕ) → 1 ≤ a → a ≤ (entered_from (setting_of t) h (change_only (λ f z. Do k z) body) l scope s bounds).count
      → (c : Cell) (v : Content) → IsIn (cell_seen c v) (bounds_seen (setting_of t) k (frame (entered_from (setting_of t) h (change_only (λ f z. Do k z) body) l scope s bounds) a ∷ scope) s) → IsOfFixed (setting_of t).constants t l c
  pub later : ℕ → ℕ
  pub below : ℕ → ℕ
  pub grouped : IsRegrouped (old_entered (setting_of t) d g body inside only l scope s goes).count (entered_from (setting_of t) h (change_only (λ f z. Do k z) body) l scope s bounds).count (λ i. (inner_at (setting_of t) d g body inside only l scope s goes i).count)
      (λ a. (entered_from (setting_of t) k inside (l + 1) (frame (entered_from (setting_of t) h (change_only (λ f z. Do k z) body) l scope s bounds) a ∷ scope) s (inner_bounds a)).count) later below
  pub values : (i j : ℕ) → 1 ≤ i → i ≤ (old_entered (setting_of t) d g body inside only l scope s goes).count → 1 ≤ j → j ≤ (inner_at (setting_of t) d g body inside only l scope s goes i).count
      → value_in (entered_from (setting_of t) h (change_only (λ f z. Do k z) body) l scope s bounds) (later i + j) ≡ value_in (inner_at (setting_of t) d g body inside only l scope s goes i) j
  pub inner_values : (a b : ℕ) → 1 ≤ a → a ≤ (entered_from (setting_of t) h (change_only (λ f z. Do k z) body) l scope s bounds).count → 1 ≤ b
      → b ≤ (entered_from (setting_of t) k inside (l + 1) (frame (entered_from (setting_of t) h (change_only (λ f z. Do k z) body) l scope s bounds) a ∷ scope) s (inner_bounds a)).count
      → value_in (entered_from (setting_of t) k inside (l + 1) (frame (entered_from (setting_of t) h (change_only (λ f z. Do k z) body) l scope s bounds) a ∷ scope) s (inner_bounds a)) b ≡ value_in (old_entered (setting_of t) d g body inside only l scope s goes) (below a + b)

-- two loops of a valid program are in each other's place, and names stand for what they stood for: the variables, the increments and the bodies are the same, none of the loops is a PARALLEL DO or has PRIVATE names, the outer one is contained, and the pairs of iterations are the same (Allen and Kennedy, section 5.2)
pub record AreSwapped (t u : ProgramTree) (l : ℕ) (loop : LoopOf t l) (g h k : Head) (inside : StmtTrees) (only : only_loop loop.body ≡ Some (pair g inside)) : Type 0 where
  pub valid : IsValid t
  pub new_valid : IsValid u
  pub new : u ≡ program_with (λ s. alone (Do h (change_only (λ f z. Do k z) loop.body))) l t
  pub kinds : (y : List ℕ) → kind_in u y ≡ kind_in t y
  pub variable : h.variable ≡ g.variable
  pub inner_variable : k.variable ≡ loop.head.variable
  pub steps : increment (setting_of t).constants h ≡ increment (setting_of t).constants g
  pub differ : is_same_text loop.head.variable g.variable ≡ false
  pub serial : loop.head.parallel ≡ false
  pub inner_serial : g.parallel ≡ false
  pub new_serial : h.parallel ≡ false
  pub new_inner_serial : k.parallel ≡ false
  pub private : loop.head.private ≡ []
  pub inner_private : g.private ≡ []
  pub new_private : h.private ≡ []
  pub new_inner_private : k.private ≡ []
  pub contained : IsContained t l
  pub trips : (data_bytes : List ℕ) (scope : Scope) (front behind : List Act) (s : Store)
      → IsExecuted (setting_of t) t (store_at_start (lines data_bytes)) l (statements_count (alone (Do loop.head loop.body))) scope front (run (setting_of t) (Do loop.head loop.body) l scope s).acts behind s
      → (goes : finish_of (run (setting_of t) (Do loop.head loop.body) l scope s).ending ≡ goes_on) → HasSwappedTrips t l loop.head g h k loop.body inside only scope s goes

module _ (t : ProgramTree) (l : ℕ) (d g h k : Head) (body inside : StmtTrees) (only : only_loop body ≡ Some (pair g inside)) (scope : Scope) (s : Store) (goes : finish_of (run (setting_of t) (Do d body) l scope s).ending ≡ goes_on) (same : HasSwappedTrips t l d g h k body inside only scope s goes) where
  abbrev p : Setting
  p = setting_of t

  abbrev pub new_body : StmtTrees
  new_body = change_only (λ f z. Do k z) body

  abbrev pub e : Entered
  e = old_entered (setting_of t) d g body inside only l scope s goes

  abbrev pub old_in : ℕ → Entered
  old_in i = inner_at (setting_of t) d g body inside only l scope s goes i

  abbrev pub old_scope : ℕ → Scope
  old_scope i = scope_at (setting_of t) d g body inside only l scope s goes i

  abbrev pub old_row : ℕ → Row
  old_row i = row_at (setting_of t) d g body inside only l scope s goes i

  abbrev pub z : Entered
  z = entered_from (setting_of t) h (change_only (λ f w. Do k w) body) l scope s same.bounds

  abbrev pub new_scope : ℕ → Scope
  new_scope a = frame z a ∷ scope

  abbrev pub new_seen : ℕ → List Seen
  new_seen a = bounds_seen (setting_of t) k (new_scope a) s

  abbrev pub new_in : ℕ → Entered
  new_in a = entered_from (setting_of t) k inside (l + 1) (new_scope a) s (same.inner_bounds a)

  abbrev pub new_place : ℕ → Place
  new_place a = place_of (setting_of t) (l + 1) (new_scope a)

  abbrev pub its_names : Cell → Cell
  its_names = swapped_names (setting_of t) scope l e.count z.count (λ i. (old_in i).count) (λ a. (new_in a).count) same.later same.below same.grouped

  -- what the body does in an old pair of iterations
  pub old_trip : (i j : ℕ) → 1 ≤ i → i ≤ e.count → 1 ≤ j → j ≤ (old_in i).count → (v : Store) × IsTrip (setting_of t) inside (l + 1) (old_scope i) (old_in i) j v ((old_row i).trip j)
  old_trip i j from to low high = (_, (rows_are (setting_of t) d g body inside only l scope s goes i from to).are j low high)

  -- the new loops are entered so
  comes : ComesTo (limits (names_in (setting_of t) scope) h) (bounds_seen (setting_of t) h scope s) (Ok same.bounds)
  comes u holds = (limits_told (names_in (setting_of t) scope) h).comes s u holds ∙ (λ i. record { seen = bounds_seen (setting_of t) h scope s; result = same.come i })

  pub new_entered : IsEntered (setting_of t) l scope h new_body (bounds_seen (setting_of t) h scope s) z
  new_entered = (same.bounds, comes, refl)

  inner_comes : (a : ℕ) → 1 ≤ a → a ≤ z.count → ComesTo (limits (names_in (setting_of t) (new_scope a)) k) (new_seen a) (Ok (same.inner_bounds a))
  inner_comes a from to u holds = (limits_told (names_in (setting_of t) (new_scope a)) k).comes s u holds ∙ (λ i. record { seen = new_seen a; result = same.inner_come a from to i })

  pub new_inner_entered : (a : ℕ) → 1 ≤ a → a ≤ z.count → IsEntered (setting_of t) (l + 1) (new_scope a) k inside (new_seen a) (new_in a)
  new_inner_entered a from to = (same.inner_bounds a, inner_comes a from to, refl)

  -- the new pair of an old one, and the old one of a new one
  pub back_pair : (a b : ℕ) → 1 ≤ a → a ≤ z.count → 1 ≤ b → b ≤ (new_in a).count → (1 ≤ same.below a + b) × (same.below a + b ≤ e.count) × (1 ≤ a - same.later (same.below a + b)) × (a - same.later (same.below a + b) ≤ (old_in (same.below a + b)).count)
      × (same.later (same.below a + b) + (a - same.later (same.below a + b)) ≡ a)
  back_pair a b from to low high =
      let r = same.grouped.back a b from to low high in
      let under = r.1 in
      let over = r.2 in
      (omega (arith, low), r.0, omega (arith, under), omega (arith, over), omega (arith, under))

  module _ (variable : h.variable ≡ g.variable) (inner_variable : k.variable ≡ d.variable) (differ : is_same_text d.variable g.variable ≡ false) (serial : d.parallel ≡ false) (inner_serial : g.parallel ≡ false) (new_serial : h.parallel ≡ false) (new_inner_serial : k.parallel ≡ false)
      (private : d.private ≡ []) (inner_private : g.private ≡ []) (new_private : h.private ≡ []) (new_inner_private : k.private ≡ []) where
    uncopied : (f : Head) (xs : List (List ℕ)) → f.parallel ≡ false → f.private ≡ [] → (if f.parallel then f.variable ∷ (f.private ++ xs) else f.private) ≡ []
    uncopied f xs q r = ap (λ (b : Bool). if b then f.variable ∷ (f.private ++ xs) else f.private) q ∙ r

    pub old_frames : (i j : ℕ) → HaveNoCopies (frame (old_in i) j ∷ (frame e i ∷ []))
    old_frames i j = (uncopied g (old_in i).inner inner_serial inner_private, (uncopied d e.inner serial private, tt))

    pub new_frames : (a b : ℕ) → HaveNoCopies (frame (new_in a) b ∷ (frame z a ∷ []))
    new_frames a b = (uncopied k (new_in a).inner new_inner_serial new_inner_private, (uncopied h z.inner new_serial new_private, tt))

    agree : SettingsAgree own_number p p inside (l + 1 + 1) (l + 1 + 1)
    agree = record { constants = refl; bounds = λ x w. refl; numbers = λ m less. refl }

    -- in each new pair the body does likewise what it did in the old one
    pub record PairDone (a b : ℕ) (acts : List Act) : Type 0 where
      pub likewise : AreLikewise its_names nothing own_number (turns_of (frame (old_in (same.below a + b)) (a - same.later (same.below a + b)) ∷ old_scope (same.below a + b))) (turns_of (frame (new_in a) b ∷ new_scope a)) ((old_row (same.below a + b)).trip (a - same.later (same.below a + b))) acts
      pub replays : Replays (body_run (setting_of t) inside (l + 1) (new_scope a) (frame (new_in a) b)) acts goes_on

    pub each_pair : (a b : ℕ) → 1 ≤ a → a ≤ z.count → 1 ≤ b → b ≤ (new_in a).count → (acts : List Act) × PairDone a b acts
    each_pair a b from to low high = (done.fresh, record { likewise = done.likewise; replays = done.replays })
      where
        i : ℕ
        i = same.below a + b

        j : ℕ
        j = a - same.later (same.below a + b)

        there : (1 ≤ i) × (i ≤ e.count) × (1 ≤ j) × (j ≤ (old_in i).count) × (same.later i + j ≡ a)
        there = back_pair a b from to low high

        its : (v : Store) × IsTrip (setting_of t) inside (l + 1) (old_scope i) (old_in i) j v ((old_row i).trip j)
        its = old_trip i j there.0 there.1 there.2 there.3

        same_value : value_in z a ≡ value_in (old_in i) j
        same_value = ap (value_in z) (sym there.4) ∙ same.values i j there.0 there.1 there.2 there.3

        second : b ≡ i - same.below (same.later i + j)
        second = (let under : b ≡ i - same.below a = omega (arith, low) in under) ∙ ap (λ (m : ℕ). i - same.below m) (sym there.4)

        goes_likewise : GoLikewise its_names nothing own_number p p inside inside (l + 1 + 1) (l + 1 + 1) (frame (old_in i) j ∷ (frame e i ∷ scope)) (frame (new_in a) b ∷ (frame z a ∷ scope))
        goes_likewise =
            interchanged_body p p inside (l + 1 + 1) (l + 1 + 1) agree scope l (l + 1) (λ m n. same.later m + n) (λ m n. m - same.below (same.later m + n)) (frame (old_in i) j) (frame e i) (frame (new_in a) b) (frame z a)
            refl refl refl (sym there.4) second (inner_variable, same.inner_values a b from to low high) (variable, same_value) differ (old_frames i j) (new_frames a b)

        done : DoesLikewise its_names nothing own_number (turns_of (frame (old_in i) j ∷ old_scope i)) (turns_of (frame (new_in a) b ∷ new_scope a)) ((old_row i).trip j) goes_on (body_run (setting_of t) inside (l + 1) (new_scope a) (frame (new_in a) b))
        done =
            subst (λ (acts : List Act). DoesLikewise its_names nothing own_number (turns_of (frame (old_in i) j ∷ old_scope i)) (turns_of (frame (new_in a) b ∷ new_scope a)) acts goes_on (body_run (setting_of t) inside (l + 1) (new_scope a) (frame (new_in a) b)))
            (sym its.1.is) (goes_likewise its.0 its.1.goes)

    pub record RowDone (a : ℕ) (f : ℕ → List Act) : Type 0 where
      pub each : (b : ℕ) → 1 ≤ b → b ≤ (new_in a).count → PairDone a b (f b)

    pub each_new_row : (a : ℕ) → 1 ≤ a → a ≤ z.count → (f : ℕ → List Act) × RowDone a f
    each_new_row a from to = (
      chosen [] (new_in a).count (PairDone a) (λ b low high. each_pair a b from to low high),
      record { each = chosen_are [] (new_in a).count (PairDone a) (λ b low high. each_pair a b from to low high) },
    )

    abbrev pub nothing_there : ℕ → List Act
    nothing_there b = []

    abbrev pub new_trip : ℕ → ℕ → List Act
    new_trip = chosen nothing_there z.count RowDone each_new_row

    new_done : (a b : ℕ) → 1 ≤ a → a ≤ z.count → 1 ≤ b → b ≤ (new_in a).count → PairDone a b (new_trip a b)
    new_done a b from to low high = (chosen_are nothing_there z.count RowDone each_new_row a from to).each b low high

    pub new_likewise : (a b : ℕ) → 1 ≤ a → a ≤ z.count → 1 ≤ b → b ≤ (new_in a).count
        → AreLikewise its_names nothing own_number (turns_of (frame (old_in (same.below a + b)) (a - same.later (same.below a + b)) ∷ old_scope (same.below a + b))) (turns_of (frame (new_in a) b ∷ new_scope a)) ((old_row (same.below a + b)).trip (a - same.later (same.below a + b))) (new_trip a b)
    new_likewise a b from to low high = (new_done a b from to low high).likewise

    abbrev pub new_whole : List Act
    new_whole = loop_acts (bounds_seen (setting_of t) h scope s) z scope (place_of (setting_of t) l scope) (λ a. loop_acts (new_seen a) (new_in a) (new_scope a) (new_place a) (new_trip a))

    -- so the new loops do these acts
    pub new_replays : Replays (run (setting_of t) (Do h new_body) l scope) new_whole goes_on
    new_replays =
        pairs_made (setting_of t) h k new_body inside (only_changed g inside k body only) l scope (bounds_seen (setting_of t) h scope s) z new_entered new_seen new_in new_inner_entered new_trip
        (λ a b from to low high. (new_done a b from to low high).replays)
