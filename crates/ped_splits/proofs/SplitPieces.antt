-- What units did stands in the run one behind another; it is done by statements of the unit, in its iteration.
use Rattle.std.proofs.Common.{◌≡◌, ◌⊎◌, ℕ, zero, suc, ◌+◌, ◌-◌, ◌<◌, ◌≤◌, List, [], ◌∷◌, ◌++◌, length, Bool, true, false, ◌||◌, inl, inr, refl, sym, ap, subst, ◌∙◌, append_assoc, arith}
use Rattle.std.proofs.lemmas.Bool.{both_ways, cases_lt, or_right}
use Rattle.std.specs.Prelude.{slice_index_or}
use Rattle.ped_base.specs.Lists.{is_among, is_same_text}
use Rattle.ped_tree.proofs.NameLaws.Collected.{among_append}
use Rattle.ped_tree.specs.NamesIn.{all_loop_variables, loop_variables}
use Rattle.ped_tree.specs.Tree.{StmtTree, StmtTrees, Do, no_stmts, more_stmts, ProgramTree}
use Rattle.ped_tree.specs.Numbering.{all_numbered, numbered, statement_count, statements_count}
use Rattle.ped_rules.specs.ped_loop_runs.proofs.LoopLaws.ApartTurns.{iterations_append}
use Rattle.ped_rules.proofs.NestLaws.WovenLists.{AreParts, IsPart, parts_around, parts_inside, trip_in_loop, trips_in_loop}
use Rattle.ped_rules.specs.ped_loop_runs.proofs.LoopLaws.OneForOneKnots.{one_at, two_at}
use Rattle.ped_rules.specs.ped_loop_runs.proofs.LoopLaws.OneForOneStands.{own_within}
use Rattle.ped_rules.specs.ped_loop_runs.specs.Carried.{AllStoreWithin}
use Rattle.ped_rules.specs.ped_loop_runs.proofs.PastingLaws.ActNumbers.{all_in}
use Rattle.ped_rules.specs.ped_loop_runs.proofs.PastingLaws.LeftCopies.{all_leave}
use Rattle.ped_rules.specs.ped_loop_runs.proofs.PastingLaws.OneStatement.{gives_way}
use Rattle.ped_rules.specs.ped_bodies.specs.Likewise.{AreLikewise}
use Rattle.ped_rules.specs.ped_bodies.specs.Moving.{is_cell_among, own_number}
use Rattle.ped_rules.specs.ped_bodies.specs.Trips.{loop_acts}
use Rattle.ped_rules.specs.ped_steps.specs.Replacing.{alone, followed}
use Rattle.ped_rules.specs.ped_steps.specs.Runs.Gaps.{Gap, at_front, filled, in_body, in_else, in_then, number_at, past}
use Rattle.ped_rules.specs.ped_flow.specs.Questions.{LoopOf}
use Rattle.ped_rules.specs.ped_laws.proofs.FlowRunLaws.Standing.{Stand, else_stands, first_stands, inner_stands, rest_stands, whole_stands}
use Rattle.ped_rules.specs.ped_laws.specs.Acts.Orders.{IsIn}
use Rattle.ped_rules.specs.ped_laws.specs.Acts.Sets.{nothing}
use Rattle.ped_rules.specs.ped_laws.specs.Runs.Replaying.{finish_of, goes_on}
use Rattle.ped_rules.specs.ped_eval.specs.Loops.{Entered, frame}
use Rattle.ped_rules.specs.ped_eval.specs.Outcomes.{setting_of}
use Rattle.ped_rules.specs.ped_eval.specs.Runs.{run}
use Rattle.ped_rules.specs.ped_eval.specs.Scopes.{Scope, Setting, place_of, turns_of}
use Rattle.ped_rules.specs.ped_store.specs.Acts.{Act, Turn, iterations_of}
use Rattle.ped_rules.specs.ped_store.specs.Cells.{Cell}
use Rattle.ped_rules.specs.ped_store.specs.Stores.{Store}
use Rattle.ped_splits.proofs.SplitConflicts.{AreOfUnit, IsOfUnit}
use Rattle.ped_splits.proofs.SplitFacts.{IsSplit}
use Rattle.ped_splits.proofs.SplitRuns as runs
use Rattle.ped_splits.proofs.UnitTests.{joined_none, only_comment}
use Rattle.ped_splits.proofs.SplitUnits.{followed_none, offset, size_of_unit}
use Rattle.ped_splits.specs.Distributing.{joined}
use Rattle.ped_splits.specs.Units.{units}

pub followed_numbered : (ts us : StmtTrees) → all_numbered (followed ts us) ≡ all_numbered ts ++ all_numbered us
followed_numbered no_stmts us = refl
followed_numbered (more_stmts t rest) us = ap (λ (z : List StmtTree). numbered t ++ z) (followed_numbered rest us) ∙ sym (append_assoc (numbered t) (all_numbered rest) (all_numbered us))

-- each act is done in these iterations, or further inside
inside_turns : (name : Cell → Cell) (turns others : List Turn) (acts fresh : List Act) → AreLikewise name nothing own_number turns others acts fresh → (a : Act) → IsIn a acts → (more : List Turn) × (a.place.turns ≡ turns ++ more)
inside_turns name turns others [] fresh like a i = absurd i
inside_turns name turns others (b ∷ acts) [] like a i = absurd like
inside_turns name turns others (b ∷ acts) (c ∷ fresh) like a (inl e) = (like.0.more, ap (λ (z : Act). z.place.turns) e ∙ like.0.old)
inside_turns name turns others (b ∷ acts) (c ∷ fresh) like a (inr i) = inside_turns name turns others acts fresh like.1 a i

module _ (t : ProgramTree) where
  -- statements that fill a gap stand there
  pub gap_stands : (gap : Gap) (old : StmtTrees) (n : ℕ) → Stand t n (all_numbered (filled gap old)) → Stand t (number_at gap n) (all_numbered old)
  gap_stands (at_front rest) old n h = first_stands t n (all_numbered old) (all_numbered rest) (subst (Stand t n) (followed_numbered old rest) h)
  gap_stands (past x gap) old n h = gap_stands gap old (n + statement_count x) (rest_stands t x (filled gap old) n h)
  gap_stands (in_then c gap b rest) old n h = gap_stands gap old (n + 1) (first_stands t (n + 1) (all_numbered (filled gap old)) (all_numbered b) (inner_stands t _ (all_numbered (filled gap old) ++ all_numbered b) n (first_stands t n _ (all_numbered rest) h)))
  gap_stands (in_else c a gap rest) old n h = gap_stands gap old (n + 1 + statements_count a) (else_stands t a (filled gap old) (n + 1) (inner_stands t _ (all_numbered a ++ all_numbered (filled gap old)) n (first_stands t n _ (all_numbered rest) h)))
  gap_stands (in_body d gap rest) old n h = gap_stands gap old (n + 1) (inner_stands t _ (all_numbered (filled gap old)) n (first_stands t n _ (all_numbered rest) h))

  loop_stands : (s : ℕ) (l : LoopOf t s) → Stand t (s + 1) (all_numbered l.body)
  loop_stands s l =
      let way = gives_way alone s (Do l.head l.body) t l.is in
      inner_stands t (Do l.head l.body) (all_numbered l.body) s
      (first_stands t s (numbered (Do l.head l.body)) []
      (subst (λ (n : ℕ). Stand t n (all_numbered (alone (Do l.head l.body)))) way.number (gap_stands way.gap (alone (Do l.head l.body)) 1 (subst (λ (ts : StmtTrees). Stand t 1 (all_numbered ts)) way.old (whole_stands t)))))

  units_stand : (us : List StmtTrees) (n k : ℕ) → k < length us → Stand t n (all_numbered (joined us)) → Stand t (n + offset us k) (all_numbered (slice_index_or us k no_stmts))
  units_stand [] n k less h = absurd (omega (arith, less))
  units_stand (u ∷ us) n zero less h = subst (λ (m : ℕ). Stand t m (all_numbered u)) (let e : n ≡ n + 0 = omega arith in e) (first_stands t n (all_numbered u) (all_numbered (joined us)) (subst (Stand t n) (followed_numbered u (joined us)) h))
  units_stand (u ∷ us) n (suc k) less h =
      subst (λ (m : ℕ). Stand t m (all_numbered (slice_index_or us k no_stmts))) (let e : n + statements_count u + offset us k ≡ n + (statements_count u + offset us k) = omega arith in e)
      (units_stand us (n + statements_count u) k (omega (arith, less))
      (else_stands t u (joined us) n (subst (Stand t n) (followed_numbered u (joined us)) h)))

-- what a unit did is done by its statements
module _ (t : ProgramTree) (s : ℕ) (l : LoopOf t s) (found : List (List ℕ)) (x : IsSplit t s l found) (scope : Scope) (v : Store) (goes : finish_of (run (setting_of t) (Do l.head l.body) s scope v).ending ≡ goes_on) where
  abbrev p : Setting
  p = setting_of t

  abbrev e : Entered
  e = runs.e t s l found x scope v goes

  abbrev old_unit : ℕ → ℕ → List Act
  old_unit = runs.old_unit t s l found x scope v goes

  abbrev unit : ℕ → StmtTrees
  unit k = slice_index_or (units l.body) k no_stmts

  module _ (i k : ℕ) (from : 1 ≤ i) (to : i ≤ e.count) (inside : k < length (units l.body)) where
    was : runs.IsDoneBy p (frame e i ∷ scope) (unit k) (s + 1 + offset (units l.body) k) (old_unit i k)
    was = runs.old_units_done t s l found x scope v goes i k from to inside

    in_it : (n : ℕ) → s + 1 + offset (units l.body) k ≤ n → n < s + 1 + offset (units l.body) k + size_of_unit l.body k → IsOfUnit s l.body k n
    in_it n low high = record { place = n - (s + 1 + offset (units l.body) k); less = omega (arith, low, high); is = omega (arith, low) }

    pub of_unit : AreOfUnit s l.body (turns_of scope) (frame e i).turn k (old_unit i k)
    of_unit = record {
      stand = λ a m.
          let r = all_in p t (unit k) (s + 1 + offset (units l.body) k) (frame e i ∷ scope) was.store (units_stand t (units l.body) (s + 1) k inside (subst (λ (ts : StmtTrees). Stand t (s + 1) (all_numbered ts)) (sym (runs.its_body t s l found x scope v goes)) (loop_stands t s l))) a (subst (IsIn a) was.is m) in
          subst (IsOfUnit s l.body k) (sym r.is) (in_it r.number r.from r.to);
      inside = λ a m.
          let r = inside_turns (runs.unit_names t s l found x scope v goes k) (turns_of (frame e i ∷ scope)) (turns_of (frame (runs.entered_at t s l found x scope v goes (runs.loop_at t s l found x scope v goes k)) i ∷ scope)) (old_unit i k) (runs.new_unit t s l found x scope v goes i k) (runs.new_units_are t s l found x scope v goes i k from to inside).likewise a m in
          (r.0, r.1 ∙ append_assoc (turns_of scope) ((frame e i).turn ∷ []) r.0, (λ w more first. first_inside a m r.0 r.1 w more first));
    }
      where
        outside : (a : Act) → IsIn a (old_unit i k) → (rs : List Turn) → a.place.turns ≡ turns_of (frame e i ∷ scope) ++ rs → (w : Turn) (more : List Turn) → rs ≡ w ∷ more → (s + 1 + offset (units l.body) k + size_of_unit l.body k ≤ w.statement) ⊎ (w.statement + 1 ≤ s + 1 + offset (units l.body) k) → ⊥
        outside a m rs turns w more first apart =
            (all_leave p (λ b c same. same) (unit k) (s + 1 + offset (units l.body) k) (frame e i ∷ scope) was.store w.statement 1 apart a (subst (IsIn a) was.is m)).1
            (record {
              statement = w.statement;
              from = omega arith;
              to = omega arith;
              number = w.number;
              rest = iterations_of more;
              is = ap iterations_of (turns ∙ ap (λ (z : List Turn). turns_of (frame e i ∷ scope) ++ z) first) ∙ iterations_append (turns_of (frame e i ∷ scope)) (w ∷ more);
            })

        first_inside : (a : Act) → IsIn a (old_unit i k) → (rs : List Turn) → a.place.turns ≡ turns_of (frame e i ∷ scope) ++ rs → (w : Turn) (more : List Turn) → rs ≡ w ∷ more → IsOfUnit s l.body k w.statement
        first_inside a m rs turns w more first = elim (cases_lt w.statement (s + 1 + offset (units l.body) k)) [
          | inl below ↦ absurd (outside a m rs turns w more first (inr (omega (arith, below))))
          | inr low ↦ elim (cases_lt w.statement (s + 1 + offset (units l.body) k + size_of_unit l.body k)) [
            | inl high ↦ in_it w.statement low high
            | inr above ↦ absurd (outside a m rs turns w more first (inl above))
          ]
        ]

  -- its part of the run of the DO
  pub trip_unit : (i k : ℕ) → 1 ≤ i → i ≤ e.count → k < length (units l.body) → IsPart ((runs.old t s l found x scope v goes).trip i) (old_unit i k)
  trip_unit i k from to inside =
      let r = one_at (old_unit i) (length (units l.body)) 0 k (omega arith) (omega (arith, inside)) in
      record { before = r.0; behind = r.1; is = runs.old_parted t s l found x scope v goes i from to ∙ r.2 }

  two_units : (i k j : ℕ) → 1 ≤ i → i ≤ e.count → k < j → j < length (units l.body) → AreParts ((runs.old t s l found x scope v goes).trip i) (old_unit i k) (old_unit i j)
  two_units i k j from to less inside =
      let r = two_at (old_unit i) (length (units l.body)) 0 k j (omega arith) less (omega (arith, inside)) in
      record { before = r.0; between = r.1; behind = r.2; is = runs.old_parted t s l found x scope v goes i from to ∙ r.3 }

  abbrev whole : List Act
  whole = (run (setting_of t) (Do l.head l.body) s scope v).acts

  abbrev by_trips : List Act
  by_trips = loop_acts (runs.seen t s l found x scope v goes) e scope (place_of p s scope) (runs.old t s l found x scope v goes).trip

  pub parts_of_run : (i k j h : ℕ) → 1 ≤ i → i ≤ e.count → 1 ≤ j → j ≤ e.count → k < length (units l.body) → h < length (units l.body) → (i < j) ⊎ ((i ≡ j) × (k < h)) → AreParts whole (old_unit i k) (old_unit j h)
  parts_of_run i k j h from to low high inside within (inl less) =
      let old = runs.old t s l found x scope v goes in
      subst (λ (acts : List Act). AreParts acts (old_unit i k) (old_unit j h)) (sym old.acts)
      (parts_inside by_trips (old.trip i) (old.trip j) (old_unit i k) (old_unit j h) (trips_in_loop (runs.seen t s l found x scope v goes) e scope (place_of p s scope) old.trip i j from less high) (trip_unit i k from to inside) (trip_unit j h low high within))
  parts_of_run i k j h from to low high inside within (inr same) =
      let old = runs.old t s l found x scope v goes in
      subst (λ (acts : List Act). AreParts acts (old_unit i k) (old_unit j h)) (sym old.acts)
      (subst (λ (n : ℕ). AreParts by_trips (old_unit i k) (old_unit n h)) same.0
      (parts_around by_trips (old.trip i) (old_unit i k) (old_unit i h) (trip_in_loop (runs.seen t s l found x scope v goes) e scope (place_of p s scope) old.trip i from to) (two_units i k h from to same.1 within)))

  -- own stores are those of variables of DO loops
  its_variables : (k : ℕ) (y : List ℕ) → is_among y (all_loop_variables (unit k)) ≡ true → is_among y (loop_variables (Do l.head l.body)) ≡ true
  its_variables k y there = by (is_among y (all_loop_variables l.body)) refl
    where
      quiet : (z : StmtTree) → statement_count z ≡ 0 → is_among y (loop_variables z) ≡ false
      quiet = only_comment (λ z. is_among y (loop_variables z) ≡ false) (λ text. refl)

      by : (b : Bool) → is_among y (all_loop_variables l.body) ≡ b → is_same_text y l.head.variable || is_among y (all_loop_variables l.body) ≡ true
      by true is = ap (λ (b : Bool). is_same_text y l.head.variable || b) is ∙ or_right (is_same_text y l.head.variable) true refl
      by false is =
          let none = joined_none (λ ts. is_among y (all_loop_variables ts)) (λ z. is_among y (loop_variables z)) refl (λ z rest. among_append y (loop_variables z) (all_loop_variables rest)) quiet l.body (k ∷ []) is in
          absurd (both_ways (is_among y (all_loop_variables (unit k))) (ap (λ (ts : StmtTrees). is_among y (all_loop_variables ts)) (sym (followed_none (unit k))) ∙ none) there)

  pub unit_stores : (i k : ℕ) → 1 ≤ i → i ≤ e.count → k < length (units l.body) → AllStoreWithin (is_cell_among (loop_variables (Do l.head l.body))) (old_unit i k)
  unit_stores i k from to inside =
      let done = runs.old_units_done t s l found x scope v goes i k from to inside in
      subst (AllStoreWithin (is_cell_among (loop_variables (Do l.head l.body)))) (sym done.is)
      (own_within (loop_variables (Do l.head l.body)) p (unit k) (s + 1 + offset (units l.body) k) (frame e i ∷ scope) done.store (its_variables k))
