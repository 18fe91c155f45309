-- What a unit does in its new DO it does on cells by their new names, but for cells that count for nothing.
use Rattle.std.proofs.Common.{◌≡◌, ◌⊎◌, ℕ, ℤ, zero, suc, ◌+◌, ◌<◌, ◌≤◌, List, [], ◌∷◌, ◌++◌, codes, length, filter, cond, Bool, true, false, ◌||◌, ◌&&◌, not, Option, Some, None, inl, inr, if◌then◌else◌, eq-eqb, eqb-true, refl, sym, ap, subst, ◌∙◌, arith}
use Rattle.std.proofs.lemmas.Bool.{cases_lt}
use Rattle.std.specs.List.{list_any, range_with_len}
use Rattle.std.specs.Option.{unwrap_or}
use Rattle.std.specs.Prelude.{slice_index_or}
use Rattle.std.specs.Str.Lines.{lines}
use Rattle.ped_base.proofs.NameEquality.{same_is}
use Rattle.ped_base.specs.Lists.{is_among, is_same_text}
use Rattle.ped_tree.specs.NamesIn.{loop_variables}
use Rattle.ped_tree.specs.Numbering.{statements_count}
use Rattle.ped_tree.specs.Tree.{Do, ExprTree, no_stmts, ProgramTree}
use Rattle.ped_rules.proofs.NestLaws.WovenLists.{trip_in_loop}
use Rattle.ped_rules.specs.ped_loop_runs.specs.Executions.{IsExecuted}
use Rattle.ped_rules.specs.ped_loop_runs.specs.Numbers.{counted_by}
use Rattle.ped_rules.specs.ped_bodies.proofs.BodyLaws.LikewiseActs.{likewise_stripped}
use Rattle.ped_rules.specs.ped_bodies.specs.Likewise.{AllMeet, AreLikewise, Meet}
use Rattle.ped_rules.specs.ped_bodies.specs.Moving.{is_cell_among, own_number}
use Rattle.ped_rules.specs.ped_steps.proofs.RunLaws.Swapped.{cell_name, named_so}
use Rattle.ped_rules.specs.ped_steps.specs.Replacing.{alone}
use Rattle.ped_rules.specs.ped_flow.proofs.Answering.{loop_fits}
use Rattle.ped_rules.specs.ped_flow.specs.Questions.{LoopOf}
use Rattle.ped_refs.specs.References.{Reference, references}
use Rattle.ped_rules.specs.ped_laws.proofs.ActLaws.Conflicting.{access_by, access_in, accesses_in}
use Rattle.ped_rules.specs.ped_laws.proofs.ActLaws.Lists.{in_left, in_right}
use Rattle.ped_rules.specs.ped_laws.proofs.ActLaws.Renamings.{or_either, or_left, or_right}
use Rattle.ped_rules.specs.ped_laws.proofs.ActLaws.SameCells.{text_itself}
use Rattle.ped_rules.specs.ped_laws.proofs.ConflictLaws.CoveringRuns.{MakingLaw}
use Rattle.ped_rules.specs.ped_laws.proofs.RunLaws.Touches.{Fine, all_good}
use Rattle.ped_rules.specs.ped_laws.specs.Acts.Conflicts.{without}
use Rattle.ped_rules.specs.ped_laws.specs.Acts.Fitting.{has_cell, of_cells}
use Rattle.ped_rules.specs.ped_laws.specs.Acts.Orders.{IsIn}
use Rattle.ped_rules.specs.ped_laws.specs.Acts.Renaming.{Renamed}
use Rattle.ped_rules.specs.ped_laws.specs.Acts.Sets.{nothing}
use Rattle.ped_rules.specs.ped_laws.specs.Conflicts.Making.{StandsFor}
use Rattle.ped_rules.specs.ped_laws.specs.Runs.Replaying.{finish_of, goes_on}
use Rattle.ped_rules.specs.ped_eval.specs.Loops.{Entered, frame}
use Rattle.ped_rules.specs.ped_eval.specs.Outcomes.{run_of, setting_of}
use Rattle.ped_rules.specs.ped_eval.specs.Runs.{run}
use Rattle.ped_rules.specs.ped_eval.specs.Scopes.{Scope, Setting, cell_of, names_in, place_of, turns_of}
use Rattle.ped_rules.specs.ped_store.specs.Acts.{Act, Manner, Touch, Turn, is_told, iterations_of, reads, writes}
use Rattle.ped_rules.specs.ped_store.specs.Cells.{Cell, Element, In, Iteration, Out, Private, same_cell}
use Rattle.ped_rules.specs.ped_store.specs.Races.{is_access, is_lines, is_write}
use Rattle.ped_rules.specs.ped_store.specs.Stores.{Store, store_at_start}
use Rattle.ped_splits.proofs.PiBlockLaws.{In as InList, from_filter, in_either, in_filter}
use Rattle.ped_splits.proofs.DistributeTrusted.{each_placed}
use Rattle.ped_splits.proofs.KeptArrows.{linked_together}
use Rattle.ped_splits.proofs.Partitions.{flat}
use Rattle.ped_splits.proofs.SplitCells.{idle_alike, moved_are, moved_or_not, names_are, names_or_moved, own_stays, own_unmoved}
use Rattle.ped_splits.proofs.SplitConflicts.{IsOfUnit, stands_there}
use Rattle.ped_splits.proofs.SplitControls.{any_there}
use Rattle.ped_splits.proofs.SplitFacts.{IsSplit}
use Rattle.ped_splits.proofs.SplitFresh.{name_below, same_loop}
use Rattle.ped_splits.proofs.SplitNames.{number_of, split_names, unit_of_name, unit_of_statement}
use Rattle.ped_splits.proofs.SplitNumbers.{split_numbers}
use Rattle.ped_splits.proofs.SplitPieces.{of_unit, trip_unit, unit_stores}
use Rattle.ped_splits.proofs.SplitPlaces.{look, units_placed}
use Rattle.ped_splits.proofs.SplitRuns as runs
use Rattle.ped_splits.proofs.SplitSources.{passed}
use Rattle.ped_splits.proofs.SplitUnits.{offset}
use Rattle.ped_splits.proofs.SplitTouches.{IsUnitCell, reads_none, unit_cells}
use Rattle.ped_splits.specs.Units.{is_unit, refers, stands_in, unit_of, units}

-- what passes a test
passing : {X : Type 0} (f : X → Bool) (xs : List X) (y : X) → IsIn y (filter f xs) → f y ≡ true
passing f [] y i = absurd i
passing f (x ∷ xs) y i = by (passing f xs y) (f x) refl i
  where
    by : (IsIn y (filter f xs) → f y ≡ true) → (b : Bool) → f x ≡ b → IsIn y (cond b (x ∷ filter f xs) (filter f xs)) → f y ≡ true
    by more true e (inl q) = ap f q ∙ e
    by more true e (inr k) = more k
    by more false e k = more k

-- acts that are done likewise by one name are done likewise by another where both names are one, or the cell counts for nothing
module _ (name other : Cell → Cell) (idle : Cell → Bool) (alike : (c : Cell) → idle (name c) ≡ idle c) where
  abbrev Agree : Touch → Type 0
  Agree y = (idle y.cell ≡ true) ⊎ (name y.cell ≡ other y.cell)

  cell_meets : (c d : Cell) → (idle c ≡ true) ⊎ (name c ≡ other c) → Meet name nothing c d → Meet other idle c d
  cell_meets c d (inl quiet) (inl e) = inr (quiet, ap idle e ∙ alike c ∙ quiet)
  cell_meets c d (inr same) (inl e) = inl (e ∙ same)
  cell_meets c d agree (inr e) = absurd cc

  touches_meet : (xs ys : List Touch) → ((y : Touch) → IsIn y xs → Agree y) → AllMeet name nothing xs ys → AllMeet other idle xs ys
  touches_meet [] [] agree h = tt
  touches_meet [] (y ∷ ys) agree h = absurd h
  touches_meet (x ∷ xs) [] agree h = absurd h
  touches_meet (x ∷ xs) (y ∷ ys) agree h = (
    record { manner = h.0.manner; reference = h.0.reference; content = h.0.content; cells = cell_meets x.cell y.cell (agree x (inl refl)) h.0.cells },
    touches_meet xs ys (λ z i. agree z (inr i)) h.1,
  )

  pub other_likewise : (f : ℕ → ℕ) (turns others : List Turn) (acts fresh : List Act) → ((a : Act) → IsIn a acts → (y : Touch) → IsIn y a.touches → has_cell y.manner ≡ true → (idle y.cell ≡ true) ⊎ (name y.cell ≡ other y.cell))
      → AreLikewise name nothing f turns others acts fresh → AreLikewise other idle f turns others acts fresh
  other_likewise f turns others [] [] agree h = tt
  other_likewise f turns others [] (b ∷ fresh) agree h = absurd h
  other_likewise f turns others (a ∷ acts) [] agree h = absurd h
  other_likewise f turns others (a ∷ acts) (b ∷ fresh) agree h = (
    record {
      step = h.0.step;
      statement = h.0.statement;
      more = h.0.more;
      old = h.0.old;
      new = h.0.new;
      touches = touches_meet (of_cells a.touches) (of_cells b.touches)
          (λ y i. agree a (inl refl) y (passed (λ (z : Touch). has_cell z.manner) a.touches y i) (passing (λ (z : Touch). has_cell z.manner) a.touches y i)) h.0.touches;
    },
    other_likewise f turns others acts fresh (λ c m y j some. agree c (inr m) y j some) h.1,
  )

-- numbers in lists
in_there : (a n k : ℕ) → a ≤ k → k < a + n → InList k (range_with_len a n)
in_there a zero k low high = absurd (omega (arith, low, high))
in_there a (suc n) k low high = elim (cases_lt a k) [
  | inl less ↦ inr (in_there (a + 1) n k (omega (arith, less)) (omega (arith, high)))
  | inr least ↦ inl (omega (arith, low, least))
]

first_in : (ks : List ℕ) (k : ℕ) → InList k ks → InList (slice_index_or ks 0 0) ks
first_in [] k i = absurd i
first_in (z ∷ ks) k i = inl refl

in_one_of : (k : ℕ) (bs : List (List ℕ)) → InList k (flat bs) → (y : ℕ) × InList k (slice_index_or bs y [])
in_one_of k [] i = absurd i
in_one_of k (block ∷ bs) i = elim (in_either k block (flat bs) i) [
  | inl j ↦ (0, j)
  | inr j ↦ let r = in_one_of k bs j in (suc r.0, r.1)
]

among_in : (y : List ℕ) (ys : List (List ℕ)) → is_among y ys ≡ true → IsIn y ys
among_in y [] h = absurd cc
among_in y (z ∷ zs) h = elim (or_either (is_same_text y z) (is_among y zs) h) [ inl e ↦ inl (same_is y z e) | inr k ↦ inr (among_in y zs k) ]

first_turn : (outer : List Turn) (turn : Turn) (inner : List Turn) → (first : Turn) × (rest : List Turn) × (outer ++ turn ∷ inner ≡ first ∷ rest)
first_turn [] turn inner = (turn, inner, refl)
first_turn (u ∷ us) turn inner = (u, us ++ turn ∷ inner, refl)

some_or_none : (n : ℕ) → (0 < n) ⊎ (n ≡ 0)
some_or_none zero = inr refl
some_or_none (suc n) = inl (omega arith)

module _ (t : ProgramTree) where
  no_element : (name : List ℕ) (path : List Iteration) (z : List ℕ) (ns : List ℤ) → Private name path ≡ Element z ns → ⊥
  no_element name path z ns e = absurd cc

  -- the name that stands for a copy is the copy's
  name_of : (S : Scope) (u : Store) (z : List ℕ) (es : List ExprTree) (c : Cell) (name : List ℕ) (path : List Iteration) → c ≡ Private name path → StandsFor t (names_in (setting_of t) S) u z es c → z ≡ name
  name_of S u z [] c name path is stands = by (is_same_text z (codes "(IN)")) (is_same_text z (codes "(OUT)")) (sym is ∙ stands)
    where
      by : (a b : Bool) → Private name path ≡ (if a then In else (if b then Out else cell_of S z)) → z ≡ name
      by true b e = absurd cc
      by false true e = absurd cc
      by false false e = sym (named_so S z) ∙ ap cell_name (sym e)
  name_of S u z (e ∷ es) c name path is stands = absurd (no_element name path z stands.0 (sym is ∙ stands.2))

module _ (making : MakingLaw) (t : ProgramTree) (s : ℕ) (l : LoopOf t s) (found : List (List ℕ)) (x : IsSplit t s l found) (data_bytes : List ℕ)
    (scope : Scope) (front behind : List Act) (v : Store) (executed : IsExecuted (setting_of t) t (store_at_start (lines data_bytes)) s (statements_count (alone (Do l.head l.body))) scope front (run (setting_of t) (Do l.head l.body) s scope v).acts behind v)
    (goes : finish_of (run (setting_of t) (Do l.head l.body) s scope v).ending ≡ goes_on) where
  abbrev p : Setting
  p = setting_of t

  abbrev e : Entered
  e = runs.e t s l found x scope v goes

  abbrev old_acts : List Act
  old_acts = (run (setting_of t) (Do l.head l.body) s scope v).acts

  abbrev old_unit : ℕ → ℕ → List Act
  old_unit = runs.old_unit t s l found x scope v goes

  abbrev new_unit : ℕ → ℕ → List Act
  new_unit = runs.new_unit t s l found x scope v goes

  abbrev names : Cell → Cell
  names = split_names t s l found x scope v goes

  abbrev variables : List (List ℕ)
  variables = loop_variables (Do l.head l.body)

  abbrev idle : Cell → Bool
  idle c = is_cell_among variables c || list_any (λ y. same_cell (cell_of scope y) c) l.head.private

  abbrev many_units : ℕ
  many_units = length (units l.body)

  -- units that refer to one PRIVATE name of the DO stand in one new DO
  linked : (k : ℕ) → k < many_units → (name : List ℕ) → is_among name l.head.private ≡ true → refers t s l.body name k ≡ true → number_of t s l found x scope v goes (unit_of_name t s l found x scope v goes name) ≡ number_of t s l found x scope v goes k
  linked k inside name among here =
      let n = unit_of_name t s l found x scope v goes name in
      let ks = filter (refers t s l.body name) (range_with_len 0 many_units) in
      let first : InList n ks = first_in ks k (in_filter (refers t s l.body name) k (range_with_len 0 many_units) (in_there 0 many_units k (omega arith) (omega (arith, inside))) here) in
      let other = (from_filter (refers t s l.body name) n (range_with_len 0 many_units) first).1 in
      let below : n < many_units = name_below t s l found x scope v goes name in
      let one = in_one_of n found (each_placed t s l.head l.body found x.are n below) in
      let two = in_one_of k found (each_placed t s l.head l.body found x.are k inside) in
      let same : one.0 ≡ two.0 = linked_together t s l.head l.body found x.are name (among_in name l.head.private among) n k one.0 two.0 below inside other here one.1 two.1 in
      ap (counted_by (split_numbers t s l.body found))
      (same_loop s l.body (counted_by (split_numbers t s l.body found)) (look l.body s found) s found (units_placed t s l.head l.body found x.are (loop_fits t s l.head l.body l.is)) two.0 n k
      (subst (λ (y : ℕ). InList n (slice_index_or found y [])) same one.1) two.1)

  module _ (i k : ℕ) (from : 1 ≤ i) (to : i ≤ e.count) (inside : k < length (units l.body)) where
    abbrev unit_names : Cell → Cell
    unit_names = runs.unit_names t s l found x scope v goes k

    abbrev number : ℕ
    number = number_of t s l found x scope v goes k

    -- an act of the unit is one of the run
    in_run : (a : Act) → IsIn a (old_unit i k) → IsIn a (run_of t data_bytes).acts
    in_run a m =
        let old = runs.old t s l found x scope v goes in
        let part = trip_unit t s l found x scope v goes i k from to inside in
        let whole = trip_in_loop (runs.seen t s l found x scope v goes) e scope (place_of p s scope) old.trip i from to in
        let in_trip : IsIn a (old.trip i) = subst (IsIn a) (sym part.is) (in_right a part.before (old_unit i k ++ part.behind) (in_left a (old_unit i k) part.behind m)) in
        let in_old : IsIn a old_acts = subst (IsIn a) (sym old.acts) (subst (IsIn a) (sym whole.is) (in_right a whole.before (old.trip i ++ whole.behind) (in_left a (old.trip i) whole.behind in_trip))) in
        subst (IsIn a) (sym executed.whole) (in_right a front (old_acts ++ behind) (in_left a old_acts behind in_old))

    -- where a reference touches a copy, the unit refers to its name
    refers_to : (a : Act) → IsIn a (old_unit i k) → (y : Touch) → IsIn y a.touches → 0 < y.reference → (name : List ℕ) (path : List Iteration) → y.cell ≡ Private name path → refers t s l.body name k ≡ true
    refers_to a m y j some name path is =
        let of = of_unit t s l found x scope v goes i k from to inside in
        let inner = of.inside a m in
        let first = first_turn (turns_of scope) (frame e i).turn inner.0 in
        let counts : is_access y ≡ true = or_right (is_write y.manner) (not (is_lines y.cell)) (ap not (ap is_lines is)) in
        let by = (making t data_bytes x.valid).1 (access_by a y) first.0 first.1 (accesses_in (run_of t data_bytes).acts a (access_by a y) (in_run a m) (access_in a a.touches y j counts)) some (inner.1 ∙ first.2) in
        let r : Reference = by.0 in
        let named : is_same_text name r.access.name ≡ true = ap (is_same_text name) (name_of t by.1 by.2 r.access.name r.access.subscripts y.cell name path is by.3.cell) ∙ text_itself name in
        let there : stands_in s l.body k r.statement ≡ true = ap (stands_in s l.body k) (sym by.3.statement) ∙ stands_there s l.body k a.place.statement inside (of.stand a m) in
        any_there (λ (z : Reference). is_same_text name z.access.name && stands_in s l.body k z.statement) (references t) r by.3.listed (λ q. named q && there q)

    -- what no reference touches of the copies is the variable of a DO
    fine : (a : Act) → IsIn a (old_unit i k) → (y : Touch) → IsIn y a.touches → Fine (λ ts c. Unit {0}) a.place.turns y.manner y.cell y.reference
    fine a m y j =
        let was = runs.old_units_done t s l found x scope v goes i k from to inside in
        (all_good (λ ts c. Unit {0}) (λ S z. Unit {0}) (λ S z h. tt) (λ S f n body q h z h2. tt) p (slice_index_or (units l.body) k no_stmts) (s + 1 + offset (units l.body) k) (frame e i ∷ scope) was.store (λ z h. tt) a (subst (IsIn a) was.is m)).0 y j

    unreferred : (a : Act) → IsIn a (old_unit i k) → (y : Touch) → IsIn y a.touches → has_cell y.manner ≡ true → y.reference ≡ 0 → (name : List ℕ) (path : List Iteration) → y.cell ≡ Private name path → is_cell_among variables y.cell ≡ true
    unreferred a m y j some none name path is = by y.manner refl some (fine a m y j)
      where
        lines_none : is_lines y.cell ≡ true → ⊥
        lines_none h = let wrong : true ≡ false = sym h ∙ ap is_lines is in absurd cc

        by : (w : Manner) → y.manner ≡ w → has_cell w ≡ true → Fine (λ ts c. Unit {0}) a.place.turns w y.cell y.reference → is_cell_among variables y.cell ≡ true
        by reads q h f = elim f.0 [ inl read ↦ absurd (lines_none read) | inr more ↦ absurd (omega (arith, more, none)) ]
        by writes q h f = unit_stores t s l found x scope v goes i k from to inside a m y j (λ r. is_write (q r) && (eq-eqb y.reference 0 none) r)
        by is_told q h f = absurd cc

    -- the unit of a statement of the unit
    unit_is : (n : ℕ) → IsOfUnit s l.body k n → unit_of_statement t s l found x scope v goes n ≡ k
    unit_is n of = by (unit_of s l.body n) (stands_there s l.body k n inside of)
      where
        by : (o : Option ℕ) → is_unit k o ≡ true → unwrap_or o 0 ≡ k
        by None h = absurd cc
        by (Some m) h = eqb-true m k h

    -- the names of its DO are the new ones, but for cells that count for nothing
    agree : (a : Act) → IsIn a (old_unit i k) → (y : Touch) → IsIn y a.touches → has_cell y.manner ≡ true → (idle y.cell ≡ true) ⊎ (unit_names y.cell ≡ names y.cell)
    agree a m y j some = by (unit_cells t s l found x scope v goes i k from to inside a m y j)
      where
        of_copy : (name : List ℕ) → is_among name l.head.private ≡ true → y.cell ≡ Private name (iterations_of (turns_of scope) ++ record { statement = s; number = i } ∷ []) → (idle y.cell ≡ true) ⊎ (unit_names y.cell ≡ names y.cell)
        of_copy name among is = elim (some_or_none y.reference) [
          | inl counts ↦ inr (ap unit_names is ∙ moved_are t s l found x scope v goes number name i []
              ∙ ap (λ (n : ℕ). Private name (iterations_of (turns_of scope) ++ record { statement = n; number = i } ∷ [])) (sym (linked k inside name among (refers_to a m y j counts name (iterations_of (turns_of scope) ++ record { statement = s; number = i } ∷ []) is)))
              ∙ sym (ap names is ∙ names_are t s l found x scope v goes name i []))
          | inr none ↦ inl (or_left (is_cell_among variables y.cell) (list_any (λ z. same_cell (cell_of scope z) y.cell) l.head.private) (unreferred a m y j some none name (iterations_of (turns_of scope) ++ record { statement = s; number = i } ∷ []) is))
        ]

        by : IsUnitCell t s l found x scope v goes i k y.cell → (idle y.cell ≡ true) ⊎ (unit_names y.cell ≡ names y.cell)
        by (inl none) = inr (own_unmoved t s l found x scope v goes number y.cell (inr none) ∙ sym (own_stays t s l found x scope v goes y.cell (inr none)))
        by (inr (inl own)) = inr (own_unmoved t s l found x scope v goes number y.cell (inl (own.0, own.2)) ∙ sym (own_stays t s l found x scope v goes y.cell (inl (own.0, own.2))))
        by (inr (inr (inl copy))) = of_copy copy.0 copy.1 copy.2
        by (inr (inr (inr copy))) =
            inr (ap unit_names copy.4 ∙ moved_are t s l found x scope v goes number copy.0 i (copy.1 ∷ copy.2)
            ∙ ap (λ (n : ℕ). Private copy.0 (iterations_of (turns_of scope) ++ record { statement = number_of t s l found x scope v goes n; number = i } ∷ (copy.1 ∷ copy.2))) (sym (unit_is copy.1.statement copy.3))
            ∙ sym (ap names copy.4 ∙ names_are t s l found x scope v goes copy.0 i (copy.1 ∷ copy.2)))

    pub likewise_renamed : Renamed (split_names t s l found x scope v goes)
        (without (λ c. is_cell_among (loop_variables (Do l.head l.body)) c || list_any (λ y. same_cell (cell_of scope y) c) l.head.private) (runs.old_unit t s l found x scope v goes i k))
        (without (λ c. is_cell_among (loop_variables (Do l.head l.body)) c || list_any (λ y. same_cell (cell_of scope y) c) l.head.private) (runs.new_unit t s l found x scope v goes i k))
    likewise_renamed =
        let turns = turns_of (frame e i ∷ scope) in
        let others = turns_of (frame (runs.entered_at t s l found x scope v goes (runs.loop_at t s l found x scope v goes k)) i ∷ scope) in
        (likewise_stripped names idle (λ c. idle_alike t s l found x scope v goes variables l.head.private c (names c) (names_or_moved t s l found x scope v goes c)) own_number turns others (old_unit i k) (new_unit i k)
        (reads_none t s l found x scope v goes i k from to inside)
        (other_likewise unit_names names idle (λ c. idle_alike t s l found x scope v goes variables l.head.private c (unit_names c) (moved_or_not t s l found x scope v goes number c)) own_number turns others (old_unit i k) (new_unit i k) agree
        (runs.new_units_are t s l found x scope v goes i k from to inside).likewise)).0
