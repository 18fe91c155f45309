-- The two loops that do the iterations of a DO in strips, put together from what the old body did in each.
use Rattle.std.proofs.Common.{Bool, List, Ok, Some, [], ap, arith, false, if◌then◌else◌, inl, map, pos, refl, subst, sym, true, ℕ, ◌%◌, ◌*ℤ◌, ◌*◌, ◌++◌, ◌+ℤ◌, ◌+◌, ◌-◌, ◌/◌, ◌∙◌, ◌∷◌, ◌≡◌, ◌≤◌}
use Rattle.std.proofs.lemmas.Bool.{both_ways}
use Rattle.ped_base.proofs.NameEquality.{same_is, same_itself}
use Rattle.ped_base.specs.Lists.{is_among, is_same_text}
use Rattle.ped_rules.proofs.NestLaws.LoopPairs.{chosen, chosen_are, pairs_made}
use Rattle.ped_rules.specs.ped_bodies.proofs.BodyLaws.Instances.{moved}
use Rattle.ped_rules.specs.ped_bodies.proofs.BodyLaws.MovedCells.{moved_alone, moved_names, no_copies, strips_lead}
use Rattle.ped_rules.specs.ped_bodies.proofs.BodyLaws.Rewritings.{not_among}
use Rattle.ped_rules.specs.ped_bodies.proofs.BodyLaws.TripLists.{loop_apart}
use Rattle.ped_rules.specs.ped_bodies.specs.Likewise.{AreLikewise, DoesLikewise, Meet}
use Rattle.ped_rules.specs.ped_bodies.specs.Moving.{CellsCorrespond, HaveNoCopies, LeadTo, TellTheSame, in_strips, own_number}
use Rattle.ped_rules.specs.ped_bodies.specs.Standing.{GoLikewise, SettingsAgree}
use Rattle.ped_rules.specs.ped_bodies.specs.Trips.{IsMadeOfTrips, bounds_seen, entered_from, loop_acts}
use Rattle.ped_rules.specs.ped_steps.specs.Replacing.{alone}
use Rattle.ped_rules.specs.ped_steps.specs.Runs.Renumbering.{renumbered_iteration}
use Rattle.ped_rules.specs.ped_laws.proofs.RunLaws.Sight.{limits_told}
use Rattle.ped_rules.specs.ped_laws.specs.Acts.Sets.{nothing}
use Rattle.ped_rules.specs.ped_laws.specs.Runs.Replaying.{IsEntered, Replays, finish_of, goes_on}
use Rattle.ped_rules.specs.ped_laws.specs.Runs.Seeing.{ComesTo}
use Rattle.ped_rules.specs.ped_eval.specs.Evaluation.{Evaluated, Seen}
use Rattle.ped_rules.specs.ped_eval.specs.Loops.{Entered, Limits, frame, iteration_count, limits, value_in}
use Rattle.ped_rules.specs.ped_eval.specs.Runs.{run}
use Rattle.ped_rules.specs.ped_eval.specs.Scopes.{Scope, Setting, index_value, names_in, place_of, turns_of}
use Rattle.ped_rules.specs.ped_eval.specs.Turns.{body_run}
use Rattle.ped_rules.specs.ped_store.specs.Acts.{Act, Place, Turn, iterations_of}
use Rattle.ped_rules.specs.ped_store.specs.Cells.{Cell, Private}
use Rattle.ped_rules.specs.ped_store.specs.Stores.{Store}
use Rattle.ped_rules.proofs.NameLaws.ValuesBut.{AreBeside}
use Rattle.ped_reindex.proofs.StripsBounds.{CanStrip, CountsStrips, inner_limits, outer_limits, strips_are}
use Rattle.ped_reindex.proofs.StripsCells.{strip_names, strips_stay}
use Rattle.ped_reindex.proofs.StripsNumbers.{IsInStrip, IsOfStrip, is_in_strip, is_of_strip, same_value, strip_first, strip_last, strips, whole}
use Rattle.ped_rules.proofs.NameLaws.UnnamedCells.{neither}
use Rattle.ped_reindex.specs.Stripping.{strip_head, strips_head}
use Rattle.ped_tree.specs.NamesIn.{head_names, stmts_names}
use Rattle.ped_tree.specs.Tree.{Do, Head, StmtTrees}

module _ (K : ℕ) (some : 2 ≤ K) (few : K ≤ 1000) (p q : Setting) (l : ℕ) (d : Head) (body : StmtTrees) (w : List ℕ) (counts : CountsStrips p q l body w) (can : CanStrip p d body w) (scope other : Scope) (beside : AreBeside w scope other) (s : Store) (goes : finish_of (run p (Do d body) l scope s).ending ≡ goes_on) where
  abbrev h : Head
  h = strips_head (pos K) w d

  abbrev g : Head
  g = strip_head (pos K) w d

  abbrev new_body : StmtTrees
  new_body = alone (Do (strip_head (pos K) w d) body)

  pub old : IsMadeOfTrips p d body l scope s
  old = loop_apart p d body l scope s goes

  abbrev pub e : Entered
  e = entered_from p d body l scope s old.bounds

  abbrev pub z : Entered
  z = entered_from q (strips_head (pos K) w d) (alone (Do (strip_head (pos K) w d) body)) l other s old.bounds

  abbrev pub new_scope : ℕ → Scope
  new_scope a = frame z a ∷ other

  abbrev pub inner_bounds : ℕ → Limits
  inner_bounds a = record { first = strip_first K some old.bounds.first old.bounds.last a; last = strip_last K some old.bounds.first old.bounds.last a }

  abbrev pub new_seen : ℕ → List Seen
  new_seen a = bounds_seen q (strip_head (pos K) w d) (frame z a ∷ other) s

  abbrev pub new_in : ℕ → Entered
  new_in a = entered_from q (strip_head (pos K) w d) body (l + 1) (frame z a ∷ other) s (inner_bounds a)

  abbrev pub new_place : ℕ → Place
  new_place a = place_of q (l + 1) (frame z a ∷ other)

  abbrev pub names : Cell → Cell
  names = strip_names p scope l (q.number (l + 1)) K

  -- so many iterations
  pub count_is : e.count ≡ whole K some old.bounds.first old.bounds.last
  count_is = ap (iteration_count old.bounds.first old.bounds.last) can.step

  pub strips_count : z.count ≡ strips K some old.bounds.first old.bounds.last
  strips_count = strips_are K some few p q l d body w counts can scope other beside s old.bounds old.come

  -- the number of the strip of an iteration, and its number there
  abbrev pub strip_of : ℕ → ℕ
  strip_of i = (i - 1) / K + 1

  abbrev pub place_in : ℕ → ℕ
  place_in i = (i - 1) % K + 1

  -- the new loops are entered so
  abbrev outer_seen : List Seen
  outer_seen = bounds_seen q (strips_head (pos K) w d) other s

  outer_come : limits (names_in q other) h s ≡ limits (names_in p scope) d s
  outer_come = outer_limits K some few p q l d body w counts can scope other beside s old.bounds old.come

  comes : ComesTo (limits (names_in q other) h) outer_seen (Ok old.bounds)
  comes u holds = (limits_told (names_in q other) h).comes s u holds ∙ (λ i. record { seen = outer_seen; result = (ap (λ (x : Evaluated Limits). x.result) outer_come ∙ old.come) i })

  pub new_entered : IsEntered q l other h new_body outer_seen z
  new_entered = (old.bounds, comes, refl)

  inner_comes : (a : ℕ) → 1 ≤ a → a ≤ z.count → ComesTo (limits (names_in q (new_scope a)) g) (new_seen a) (Ok (inner_bounds a))
  inner_comes a from to u holds =
      (limits_told (names_in q (new_scope a)) g).comes s u holds
      ∙ (λ i. record { seen = new_seen a; result = (inner_limits K some few p q l d body w counts can scope other beside s old.bounds old.come a from to i).result })

  pub new_inner_entered : (a : ℕ) → 1 ≤ a → a ≤ z.count → IsEntered q (l + 1) (new_scope a) g body (new_seen a) (new_in a)
  new_inner_entered a from to = (inner_bounds a, inner_comes a from to, refl)

  -- no iteration has copies of its own
  uncopied : (xs : List (List ℕ)) → (if d.parallel then d.variable ∷ (d.private ++ xs) else d.private) ≡ []
  uncopied xs = ap (λ (b : Bool). if b then d.variable ∷ (d.private ++ xs) else d.private) can.serial ∙ can.private

  pub old_alone : (i : ℕ) → HaveNoCopies (frame e i ∷ [])
  old_alone i = (uncopied e.inner, tt)

  pub new_alone : (a b : ℕ) → HaveNoCopies (frame (new_in a) b ∷ (frame z a ∷ []))
  new_alone a b = (uncopied (new_in a).inner, (refl, tt))

  body_absent : is_among w (stmts_names body) ≡ false
  body_absent = (neither w (head_names d) (stmts_names body) can.absent).1

  other_name : (x : List ℕ) → is_among x (stmts_names body) ≡ true → is_same_text w x ≡ false
  other_name x among = not_among (stmts_names body) w x body_absent among

  settings : SettingsAgree own_number p q body (l + 1) (l + 1 + 1)
  settings = record { constants = sym counts.constants; bounds = λ x among. sym (counts.bounds x (other_name x among)); numbers = counts.inside }

  text_turned : (x : List ℕ) → is_same_text w x ≡ false → is_same_text x w ≡ false
  text_turned x apart = go (is_same_text x w) refl
    where
      go : (b : Bool) → is_same_text x w ≡ b → b ≡ false
      go true k = absurd (both_ways (is_same_text w x) apart (ap (is_same_text w) (same_is x w k) ∙ same_itself w))
      go false k = refl

  -- in its place in its strip the body does likewise what it did in an iteration
  pub record IsTripDone (i : ℕ) (acts : List Act) : Type 0 where
    pub likewise : AreLikewise names nothing own_number (turns_of (frame e i ∷ scope)) (turns_of (frame (new_in (strip_of i)) (place_in i) ∷ new_scope (strip_of i))) (old.trip i) acts
    pub replays : Replays (body_run q body (l + 1) (new_scope (strip_of i)) (frame (new_in (strip_of i)) (place_in i))) acts goes_on

  module _ (i : ℕ) (from : 1 ≤ i) (to : i ≤ e.count) where
    abbrev a : ℕ
    a = (i - 1) / K + 1

    abbrev b : ℕ
    b = (i - 1) % K + 1

    abbrev after : Scope
    after = frame (new_in ((i - 1) / K + 1)) ((i - 1) % K + 1) ∷ (frame z ((i - 1) / K + 1) ∷ other)

    inside : IsInStrip K some old.bounds.first old.bounds.last i
    inside = is_in_strip K some old.bounds.first old.bounds.last i from (let many = count_is in omega (arith, to, many))

    same : value_in (new_in a) b ≡ value_in e i
    same =
        same_value K some old.bounds.first old.bounds.last a b inside.inner_from
        ∙ (λ j. old.bounds.first +ℤ pos (inside.is j - 1) *ℤ sym can.step j)

    tell : TellTheSame (stmts_names body) (frame e i ∷ scope) after
    tell x among = λ j. if is_same_text x d.variable then Some (same j) else (ap (λ (r : Bool). if r then Some (value_in z a) else index_value other x) (text_turned x (other_name x among)) ∙ beside.index x) j

    lead : LeadTo (in_strips (p.number l) (q.number (l + 1)) K) own_number (frame e i ∷ []) (frame (new_in a) b ∷ (frame z a ∷ []))
    lead = strips_lead (p.number l) (q.number (l + 1)) K (frame e i) (frame z a) (frame (new_in a) b) refl counts.outer refl refl refl

    here : CellsCorrespond names nothing own_number (stmts_names body) (frame e i ∷ scope) (frame (new_in a) b ∷ (frame z a ∷ scope))
    here = moved_alone nothing own_number (in_strips (p.number l) (q.number (l + 1)) K) (stmts_names body) scope (frame e i ∷ []) (frame (new_in a) b ∷ (frame z a ∷ [])) (old_alone i) (new_alone a b) refl lead

    cells_there : CellsCorrespond names nothing own_number (stmts_names body) (frame e i ∷ scope) after
    cells_there = record {
      cell = λ x among. inl (
          no_copies (frame (new_in a) b ∷ (frame z a ∷ [])) other x (new_alone a b) ∙ beside.cell x (other_name x among)
          ∙ sym (strips_stay p scope l (q.number (l + 1)) K x) ∙ ap names (sym (no_copies (frame e i ∷ []) scope x (old_alone i))));
      inside = λ x j more among.
          subst (λ (ts : List Turn). Meet names nothing (Private x (iterations_of (turns_of (frame e i ∷ scope)) ++ j ∷ more)) (Private x (iterations_of ((ts ++ (frame z a).turn ∷ []) ++ (frame (new_in a) b).turn ∷ []) ++ map (renumbered_iteration own_number) (j ∷ more)))) (sym beside.turns) (here.inside x j more among);
    }

    goes_likewise : GoLikewise names nothing own_number p q body body (l + 1) (l + 1 + 1) (frame e i ∷ scope) after
    goes_likewise = moved own_number p q body (l + 1) (l + 1 + 1) settings names nothing (frame e i ∷ scope) after (moved_names (iterations_of (turns_of scope)) (in_strips (p.number l) (q.number (l + 1)) K)) tell cells_there

    done : DoesLikewise names nothing own_number (turns_of (frame e i ∷ scope)) (turns_of after) (old.trip i) goes_on (body_run q body (l + 1) (new_scope a) (frame (new_in a) b))
    done =
        subst (λ (acts : List Act). DoesLikewise names nothing own_number (turns_of (frame e i ∷ scope)) (turns_of after) acts goes_on (body_run q body (l + 1) (new_scope a) (frame (new_in a) b)))
        (sym (old.are i from to).is) (goes_likewise _ (old.are i from to).goes)

    pub each_trip : (acts : List Act) × IsTripDone i acts
    each_trip = (done.fresh, record { likewise = done.likewise; replays = done.replays })

  abbrev pub new_trip : ℕ → List Act
  new_trip = chosen [] e.count IsTripDone each_trip

  pub new_trips_are : (i : ℕ) → 1 ≤ i → i ≤ e.count → IsTripDone i (new_trip i)
  new_trips_are i from to = chosen_are [] e.count IsTripDone each_trip i from to

  -- a place in a strip is that of an iteration
  pub of_strip : (a b : ℕ) → 1 ≤ a → a ≤ z.count → 1 ≤ b → b ≤ (new_in a).count → IsOfStrip K some old.bounds.first old.bounds.last a b
  of_strip a b from to low high = is_of_strip K some old.bounds.first old.bounds.last a b from (let many = strips_count in omega (arith, to, many)) low high

  pub in_strips_done : (a b : ℕ) → 1 ≤ a → a ≤ z.count → 1 ≤ b → b ≤ (new_in a).count → Replays (body_run q body (l + 1) (new_scope a) (frame (new_in a) b)) (new_trip ((a - 1) * K + b)) goes_on
  in_strips_done a b from to low high =
      let at = of_strip a b from to low high in
      let whole_to = at.to in
      let many = count_is in
      let r = (new_trips_are ((a - 1) * K + b) at.from (omega (arith, whole_to, many))).replays in
      subst (λ (c : ℕ). Replays (body_run q body (l + 1) (new_scope a) (frame (new_in a) c)) (new_trip ((a - 1) * K + b)) goes_on) at.number
      (subst (λ (c : ℕ). Replays (body_run q body (l + 1) (new_scope c) (frame (new_in c) (place_in ((a - 1) * K + b)))) (new_trip ((a - 1) * K + b)) goes_on) at.strip r)

  abbrev pub new_row : ℕ → List Act
  new_row a = loop_acts (new_seen a) (new_in a) (new_scope a) (new_place a) (λ b. new_trip ((a - 1) * K + b))

  abbrev pub new_whole : List Act
  new_whole = loop_acts (bounds_seen q (strips_head (pos K) w d) other s) z other (place_of q l other) new_row

  -- so the new loops do these acts
  pub new_replays : Replays (run q (Do h new_body) l other) new_whole goes_on
  new_replays =
      pairs_made q h g new_body body refl l other outer_seen z new_entered new_seen new_in new_inner_entered (λ a b. new_trip ((a - 1) * K + b)) in_strips_done
