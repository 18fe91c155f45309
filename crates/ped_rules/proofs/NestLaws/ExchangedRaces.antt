-- New acts in the place of executions make no race, where their accesses come from those of the executions, or read scalars that keep their values.
use Rattle.std.proofs.Common.{Bool, List, [], ap, append-nil, arith, false, inl, inr, length, refl, subst, sym, true, ℕ, ◌++◌, ◌<◌, ◌||◌, ◌∙◌, ◌∷◌, ◌≡◌, ◌⊎◌}
use Rattle.std.proofs.lemmas.Bool.{and_parts}
use Rattle.std.specs.Str.Lines.{lines}
use Rattle.ped_loop_runs.proofs.LoopLaws.ApartTurns.{apart_first, apart_inside, apart_within, front_apart, iterations_append, none_within, or_turned, same_fronts, turns_long}
use Rattle.ped_rules.proofs.NestLaws.FixedWrites.{fixed_unwritten_there}
use Rattle.ped_rules.proofs.NestLaws.OnlyBodies.{never}
use Rattle.ped_loop_runs.proofs.LoopLaws.ChangedPairs.{Change, Give, in_acts, pairs_give}
use Rattle.ped_loop_runs.proofs.LoopLaws.OneForOneCells.{IsOfLoop}
use Rattle.ped_loop_runs.proofs.LoopLaws.RacesByReferences.{by_references}
use Rattle.ped_loop_runs.specs.Bounds.{IsOfFixed}
use Rattle.ped_loop_runs.proofs.PastingLaws.PastedRuns.{exchanged}
use Rattle.ped_loop_runs.specs.Executions.{IsExecuted, LeaveCopies, StandsInside}
use Rattle.ped_loop_runs.specs.Pasting.{AreExchanged, IsExchanged}
use Rattle.ped_loop_runs.specs.ped_steps.proofs.RunLaws.AccessTouches.{touch_of, write_there, accesses_from}
use Rattle.ped_loop_runs.specs.ped_steps.specs.Runs.Pasting.{AreTurnsOf}
use Rattle.ped_loop_runs.specs.ped_flow.specs.PlainBounds.{nest_round, outermost_or}
use Rattle.ped_loop_runs.specs.ped_laws.proofs.ActLaws.Lists.{first_in, second_in}
use Rattle.ped_loop_runs.specs.ped_laws.proofs.ActLaws.SameCells.{cell_is}
use Rattle.ped_loop_runs.specs.ped_laws.proofs.RunLaws.Turning.{At}
use Rattle.ped_loop_runs.specs.ped_laws.specs.Acts.Orders.{IsIn, StandsBefore}
use Rattle.ped_loop_runs.specs.ped_laws.specs.Acts.Pieces.{Part, new_parts, old_parts}
use Rattle.ped_loop_runs.specs.ped_laws.specs.Acts.Sets.{written}
use Rattle.ped_loop_runs.specs.ped_laws.specs.Runs.Replaying.{finish_of, goes_on}
use Rattle.ped_loop_runs.specs.ped_eval.specs.Outcomes.{run_of, setting_of}
use Rattle.ped_loop_runs.specs.ped_eval.specs.Runs.{Run, run_all}
use Rattle.ped_loop_runs.specs.ped_eval.specs.Scopes.{Scope, Setting, turns_of}
use Rattle.ped_loop_runs.specs.ped_store.specs.Acts.{Act, Turn, iterations_of}
use Rattle.ped_loop_runs.specs.ped_store.specs.Cells.{Cell, Iteration, Private, Scalar, same_cell}
use Rattle.ped_loop_runs.specs.ped_store.specs.Races.{Access, HasNoRace, accesses, are_apart, race, is_write}
use Rattle.ped_loop_runs.specs.ped_store.specs.Stores.{Store, store_at_start}
use Rattle.ped_loop_runs.specs.ped_symbols.specs.NameRefusals.{IsValid}
use Rattle.ped_loop_runs.specs.ped_weaves.proofs.WeaveLaws.RaceSources.{pairs_free}
use Rattle.ped_loop_runs.specs.ped_weaves.specs.Sources.{RaceSomewhere}
use Rattle.ped_tree.specs.Nests.{Loop}
use Rattle.ped_tree.specs.Numbering.{statements_count}
use Rattle.ped_tree.specs.Tree.{ProgramTree, StmtTrees}
use Rattle.ped_loop_runs.proofs.LoopLaws.OldRaces.{acts_outside, round_apart}
use Rattle.ped_loop_runs.proofs.LoopLaws.OldRaces as origins

-- a read of a scalar that keeps its value in the outermost DO: it stands in the iterations round an execution, or in one of the DO there
pub record ReadsFixed (t : ProgramTree) (l : ℕ) (scope : Scope) (b : Access) : Type 0 where
  pub fixed : IsOfFixed (setting_of t).constants t l b.cell
  pub reading : b.writes ≡ false
  pub extra : List Turn
  pub place : b.place.turns ≡ turns_of scope ++ extra
  pub whose : (v : Turn) (more : List Turn) → extra ≡ v ∷ more → v.statement ≡ l

-- an access in an iteration of a DO in the place of another comes from one in an iteration of that one, in the same cell, or in a copy that belongs to an iteration of that
pub record ComesInside (t : ProgramTree) (l : ℕ) (scope : Scope) (olds : List Act) (b : Access) : Type 0 where
  pub origin : Access
  pub found : IsIn origin (accesses olds)
  pub writes : origin.writes ≡ b.writes
  pub turn : Turn
  pub more : List Turn
  pub place : b.place.turns ≡ turns_of scope ++ turn ∷ more
  pub statement : turn.statement ≡ l
  pub old_turn : Turn
  pub old_more : List Turn
  pub was : origin.place.turns ≡ turns_of scope ++ old_turn ∷ old_more
  pub old_statement : old_turn.statement ≡ l
  pub cell : (origin.cell ≡ b.cell) ⊎ IsOfLoop (setting_of t) scope l b.cell

-- two accesses come from two old ones that race
pub record RaceBefore (olds : List Act) (b c : Access) : Type 0 where
  pub one : Access
  pub other : Access
  pub one_in : IsIn one (accesses olds)
  pub other_in : IsIn other (accesses olds)
  pub cells : one.cell ≡ other.cell
  pub writes : one.writes || other.writes ≡ true
  pub apart : are_apart one.place.turns other.place.turns ≡ true

-- the new acts of one execution: each access by a reference comes from one of it or reads such a scalar, and two that race from two that race; and none of the old acts writes such a scalar
pub record AreRaceFree (t : ProgramTree) (l : ℕ) (scope : Scope) (old new : List Act) : Type 0 where
  pub comes : (b : Access) → IsIn b (accesses new) → 0 < b.reference → ReadsFixed t l scope b ⊎ ComesInside t l scope old b
  pub meets : (b c : Access) → IsIn b (accesses new) → IsIn c (accesses new) → 0 < b.reference → 0 < c.reference → b.cell ≡ c.cell → b.writes || c.writes ≡ true → are_apart b.place.turns c.place.turns ≡ true → RaceBefore old b c
  pub unwritten : (c : Cell) → IsOfFixed (setting_of t).constants t l c → written old c ≡ false

pub only_second : (a b : Bool) → a || b ≡ true → a ≡ false → b ≡ true
only_second true b h e = absurd cc
only_second false b h e = h

-- what comes from inside doesn't write a scalar that the old acts don't write
pub inside_leaves : (t : ProgramTree) (l : ℕ) (scope : Scope) (olds : List Act) (b : Access) → ComesInside t l scope olds b → ((c : Cell) → IsOfFixed (setting_of t).constants t l c → written olds c ≡ false) → IsOfFixed (setting_of t).constants t l b.cell → b.writes ≡ true → ⊥
inside_leaves t l scope olds b k unwritten fixed write = elim k.cell [
  | inl kept ↦ (
      let a = accesses_from olds k.origin k.found in
      let v = touch_of a.0 a.0.touches k.origin a.2 in
      let cell : v.0.cell ≡ b.cell = ap (λ (x : Access). x.cell) (sym v.3) ∙ kept in
      let writing : is_write v.0.manner ≡ true = ap (λ (x : Access). x.writes) (sym v.3) ∙ k.writes ∙ write in
      never (written olds b.cell) (ap (written olds) (sym cell) ∙ write_there olds a.0 v.0 a.1 v.1 writing) (unwritten b.cell fixed)
      )
  | inr gone ↦ no_scalar fixed.0 gone.name (iterations_of (turns_of scope) ++ record { statement = l; number = gone.number } ∷ gone.rest) (sym fixed.1 ∙ gone.is)
]
  where
    no_scalar : (x n : List ℕ) (path : List Iteration) → Scalar x ≡ Private n path → ⊥
    no_scalar x n path e = absurd cc

-- such a scalar is written by nothing that is apart from the iterations round the execution of its read
module _ (t : ProgramTree) (valid : IsValid t) (l : ℕ) (data_bytes : List ℕ) (scope : Scope) (place : AreTurnsOf (setting_of t).number (nest_round t l) (turns_of scope)) where
  pub read_unwritten : (b c : Access) → ReadsFixed t l scope b → b.cell ≡ c.cell → b.writes || c.writes ≡ true → IsIn c (accesses (run_of t data_bytes).acts) → are_apart (turns_of scope) c.place.turns ≡ true → ⊥
  read_unwritten b c k cells writing i apart = by (turns_of scope) (nest_round t l) place refl refl apart
    where
      write : c.writes ≡ true
      write = only_second b.writes c.writes writing k.reading

      by : (ts : List Turn) (ls : List Loop) → AreTurnsOf (setting_of t).number ls ts → ts ≡ turns_of scope → ls ≡ nest_round t l → are_apart ts c.place.turns ≡ true → ⊥
      by [] ls of e f apart = none_within c.place.turns apart
      by (a ∷ ts) [] of e f apart = absurd of
      by (a ∷ ts) (m ∷ ls) of e f apart =
          let first = apart_first a ts c.place.turns apart in
          fixed_unwritten_there t valid l k.fixed.0 k.fixed.2 (store_at_start (lines data_bytes)) c i first.0 first.1 first.2 (sym first.3 ∙ of.0 ∙ ap (outermost_or l) f) write (sym cells ∙ k.fixed.1)

module _ (t u : ProgramTree) (valid : IsValid t) (new_valid : IsValid u) (l : ℕ) (old : StmtTrees) (some : 0 < statements_count old) (fresh : Scope → Store → List Act) (data_bytes : List ℕ) where
  abbrev p : Setting
  p = setting_of t

  abbrev start : Store
  start = store_at_start (lines data_bytes)

  abbrev olds : List Act
  olds = (run_of t data_bytes).acts

  abbrev news : List Act
  news = (run_of u data_bytes).acts

  abbrev piece : Scope → Store → Run
  piece = run_all p old l

  abbrev count : ℕ
  count = statements_count old

  -- two new accesses that race
  abbrev Race : Access → Access → Type 0
  Race = origins.Race t (setting_of u) u.body data_bytes

  abbrev flipped : (b c : Access) → origins.Race t (setting_of u) u.body data_bytes b c → origins.Race t (setting_of u) u.body data_bytes c b
  flipped = origins.flipped t (setting_of u) u.body data_bytes

  -- two old ones that they come from race
  abbrev somewhere : (y z : Access) → IsIn y (accesses (run_of t data_bytes).acts) → IsIn z (accesses (run_of t data_bytes).acts) → y.cell ≡ z.cell → y.writes || z.writes ≡ true → are_apart y.place.turns z.place.turns ≡ true → RaceSomewhere (run_of t data_bytes).acts
  somewhere = origins.somewhere t (setting_of u) u.body data_bytes

  both_kept : (b c : Access) → Race b c → IsIn b (accesses olds) → IsIn c (accesses olds) → RaceSomewhere olds
  both_kept b c r i j = somewhere b c i j r.cells r.writing r.apart

  module _ (instead : (scope : Scope) (front behind : List Act) (s : Store) → IsExecuted p t start l count scope front (piece scope s).acts behind s → finish_of (piece scope s).ending ≡ goes_on → AreRaceFree t l scope (piece scope s).acts (fresh scope s)) where
    -- an execution, among the acts of the run
    record Execution : Type 0 where
      scope : Scope
      store : Store
      front : List Act
      behind : List Act
      executed : IsExecuted p t start l count scope front (piece scope store).acts behind store
      goes : finish_of (piece scope store).ending ≡ goes_on
      sub : (a : Act) → IsIn a (piece scope store).acts → IsIn a olds
      within : (a : Act) → IsIn a (fresh scope store) → IsIn a news

    module _ (y : Execution) where
      abbrev its : List Act
      its = (piece y.scope y.store).acts

      abbrev round : List Turn
      round = turns_of y.scope

      abbrev Reads : Access → Type 0
      Reads b = ReadsFixed t l y.scope b

      abbrev Inside : Access → Type 0
      Inside b = ComesInside t l y.scope its b

      free : AreRaceFree t l y.scope its (fresh y.scope y.store)
      free = instead y.scope y.front y.behind y.store y.executed y.goes

      comes : (b : Access) → IsIn b (accesses (fresh y.scope y.store)) → 0 < b.reference → Reads b ⊎ Inside b
      comes b i referred = free.comes b i referred

      abbrev Outside : List Turn → Type 0
      Outside ts = StandsInside p y.scope l count ts → ⊥

      -- what is done before or behind it stands outside
      apart_acts : (acts : List Act) → LeaveCopies p y.scope l count acts → (c : Access) → IsIn c (accesses acts) → Outside c.place.turns
      apart_acts = acts_outside p y.scope l count

      -- an access that stands outside is apart from the iterations round the DO
      apart_round : (b c : Access) → Race b c → Outside c.place.turns → (extra : List Turn) → b.place.turns ≡ round ++ extra → ((v : Turn) (more : List Turn) → extra ≡ v ∷ more → v.statement ≡ l) → are_apart round c.place.turns ≡ true
      apart_round b c r outside extra place whose = round_apart t y.scope l count some b c r.apart outside extra place (λ v more e. inl (whose v more e))

      -- such a scalar is written by nothing that stands outside and is apart from its read
      read_kept : (b c : Access) → Race b c → Reads b → IsIn c (accesses olds) → Outside c.place.turns → ⊥
      read_kept b c r k i outside = read_unwritten t valid l data_bytes y.scope y.executed.place.turns b c k r.cells r.writing i (apart_round b c r outside k.extra k.place k.whose)

      module _ (b : Access) (k : Inside b) where
        found : IsIn k.origin (accesses olds)
        found = in_acts its olds k.origin y.sub k.found

        -- an access that stands outside is apart from the iterations round the DO, and the cell has its name
        side : (c : Access) → Race b c → Outside c.place.turns → (are_apart round c.place.turns ≡ true) × (k.origin.cell ≡ b.cell)
        side c r outside = (apart, elim k.cell [ inl kept ↦ kept | inr gone ↦ absurd (reached gone) ])
          where
            apart : are_apart round c.place.turns ≡ true
            apart = apart_round b c r outside (k.turn ∷ k.more) k.place (λ v more e. (let same : k.turn ≡ v = cc in ap (λ (z : Turn). z.statement) (sym same)) ∙ k.statement)

            reached : IsOfLoop p y.scope l b.cell → ⊥
            reached gone = front_apart round c.place.turns (record { statement = p.number l; number = gone.number } ∷ gone.rest) (subst (λ (z : Cell). At c.place.turns z) (sym r.cells ∙ gone.is) (origins.reaches t (setting_of u) u.body data_bytes c r.other)) apart

        -- one that comes from inside, and one that stays as it was
        inside_kept : (c : Access) → Race b c → IsIn c (accesses olds) → Outside c.place.turns → RaceSomewhere olds
        inside_kept c r i outside =
            let s = side c r outside in
            somewhere k.origin c found i (s.1 ∙ r.cells) ((λ j. k.writes j || c.writes) ∙ r.writing)
            ((λ j. are_apart (k.was j) c.place.turns) ∙ ap (are_apart (round ++ k.old_turn ∷ k.old_more)) (sym (append-nil c.place.turns)) ∙ apart_inside round c.place.turns (k.old_turn ∷ k.old_more) [] s.0)

        -- what comes from inside doesn't write such a scalar
        inside_read : IsOfFixed p.constants t l b.cell → b.writes ≡ true → ⊥
        inside_read fixed write = inside_leaves t l y.scope its b k free.unwritten fixed write

      -- two accesses of one execution
      one_execution : (b c : Access) → Race b c → IsIn b (accesses (fresh y.scope y.store)) → IsIn c (accesses (fresh y.scope y.store)) → 0 < b.reference → 0 < c.reference → RaceSomewhere olds
      one_execution b c r i j one other =
          let m = free.meets b c i j one other r.cells r.writing r.apart in
          somewhere m.one m.other (in_acts its olds m.one y.sub m.one_in) (in_acts its olds m.other y.sub m.other_in) m.cells m.writes m.apart

    -- one of an iteration stands outside another execution, if what it comes from does
    inside_outside : (y w : Execution) (c : Access) (m : Inside w c) → Outside y m.origin.place.turns → Outside y c.place.turns
    inside_outside y w c m outside k =
        outside (record {
          statement = l;
          from = omega arith;
          to = omega (arith, some);
          number = m.old_turn.number;
          rest = iterations_of m.old_more;
          is = ap iterations_of m.was ∙ iterations_append (round w) (m.old_turn ∷ m.old_more) ∙ (λ i. same_round i ++ record { statement = m.old_statement i; number = m.old_turn.number } ∷ iterations_of m.old_more);
        })
      where
        long : length (round w) ≡ length (round y)
        long = turns_long p.number (nest_round t l) (round w) w.executed.place.turns ∙ sym (turns_long p.number (nest_round t l) (round y) y.executed.place.turns)

        same_round : iterations_of (round w) ≡ iterations_of (round y)
        same_round =
            (same_fronts (λ (v : Turn). record { statement = v.statement; number = v.number }) (round w) (round y) (iterations_of (m.turn ∷ m.more)) (record { statement = p.number k.statement; number = k.number } ∷ k.rest) long
            (sym (iterations_append (round w) (m.turn ∷ m.more)) ∙ ap iterations_of (sym m.place) ∙ k.is)).0

    -- two executions, the first one before the second
    record AreSuccessive (y w : Execution) : Type 0 where
      before : (a : Act) → IsIn a (piece y.scope y.store).acts → IsIn a w.front
      after : (a : Act) → IsIn a (piece w.scope w.store).acts → IsIn a y.behind

    both_read : (b c : Access) → Race b c → b.writes ≡ false → c.writes ≡ false → ⊥
    both_read b c r e f = never c.writes (only_second b.writes c.writes r.writing e) f

    two_executions : (y w : Execution) → AreSuccessive y w → (b c : Access) → Race b c → Reads y b ⊎ Inside y b → Reads w c ⊎ Inside w c → RaceSomewhere olds
    two_executions y w s b c r (inl f) (inl g) = absurd (both_read b c r f.reading g.reading)
    two_executions y w s b c r (inl f) (inr m) =
        absurd (inside_read w c m (subst (IsOfFixed p.constants t l) r.cells f.fixed) (only_second b.writes c.writes r.writing f.reading))
    two_executions y w s b c r (inr k) (inl g) =
        absurd (inside_read y b k (subst (IsOfFixed p.constants t l) (sym r.cells) g.fixed) (only_second c.writes b.writes (or_turned b.writes c.writes r.writing) g.reading))
    two_executions y w s b c r (inr k) (inr m) =
        let of_c = side y b k c r (inside_outside y w c m (apart_acts y y.behind y.executed.unused_behind m.origin (in_acts (its w) y.behind m.origin s.after m.found))) in
        let of_b = side w c m b (flipped b c r) (inside_outside w y b k (apart_acts w w.front w.executed.unused_before k.origin (in_acts (its y) w.front k.origin s.before k.found))) in
        let long : length (round y) ≡ length (round w) = turns_long p.number (nest_round t l) (round y) y.executed.place.turns ∙ sym (turns_long p.number (nest_round t l) (round w) w.executed.place.turns) in
        let rounds : are_apart (round y) (round w) ≡ true = apart_within (round y) (round w) (m.turn ∷ m.more) long ((λ i. are_apart (round y) (sym m.place i)) ∙ of_c.0) in
        somewhere k.origin m.origin (found y b k) (found w c m) (of_c.1 ∙ r.cells ∙ sym of_b.1) ((λ i. k.writes i || m.writes i) ∙ r.writing)
        ((λ i. are_apart (k.was i) (m.was i)) ∙ apart_inside (round y) (round w) (k.old_turn ∷ k.old_more) (m.old_turn ∷ m.old_more) rounds)

    -- two new accesses by references that race
    abbrev Meet : Access → Access → Type 0
    Meet b c = Race b c × (0 < b.reference) × (0 < c.reference)

    abbrev By : List Act → List Act → Store → List Act → List Act → Type 0
    By = IsExchanged p t start l count piece fresh

    abbrev execution_of : Change By olds news → Execution
    execution_of y = record {
      scope = y.by.scope;
      store = y.store;
      front = y.front;
      behind = y.behind;
      executed = y.by.executed;
      goes = y.by.goes;
      sub = λ a i. y.sub a (subst (λ (acts : List Act). IsIn a acts) (sym y.by.old_is) i);
      within = λ a i. y.within a (subst (λ (acts : List Act). IsIn a acts) (sym y.by.new_is) i);
    }

    made : (y : Change By olds news) (b : Access) → IsIn b (accesses y.new) → IsIn b (accesses (fresh y.by.scope y.store))
    made y b i = subst (λ (acts : List Act). IsIn b (accesses acts)) y.by.new_is i

    -- one of a part that stays, and one that comes from an execution
    stays : (y : Execution) (b c : Access) → Race b c → Reads y b ⊎ Inside y b → IsIn c (accesses olds) → Outside y c.place.turns → RaceSomewhere olds
    stays y b c r (inl g) i outside = absurd (read_kept y b c r g i outside)
    stays y b c r (inr k) i outside = inside_kept y b k c r i outside

    -- two new accesses that race come from two old ones that do
    give : Give By olds news Meet (RaceSomewhere olds)
    give = record {
      kept = λ b c m i j. both_kept b c m.0 i j;
      before = λ y b c m i j k. stays (execution_of y) c b (flipped b c m.0) (comes (execution_of y) c (made y c k) m.2) j (apart_acts (execution_of y) y.front y.by.executed.unused_before b i);
      behind = λ y b c m k i j. stays (execution_of y) b c m.0 (comes (execution_of y) b (made y b k) m.1) j (apart_acts (execution_of y) y.behind y.by.executed.unused_behind c i);
      inside = λ y b c m i j. one_execution (execution_of y) b c m.0 (made y b i) (made y c j) m.1 m.2;
      between = λ y w s b c m i j. two_executions (execution_of y) (execution_of w)
          (record {
            before = λ a k. s.before a (subst (λ (acts : List Act). IsIn a acts) (sym y.by.old_is) k);
            after = λ a k. s.after a (subst (λ (acts : List Act). IsIn a acts) (sym w.by.old_is) k);
          }) b c m.0 (comes (execution_of y) b (made y b i) m.1) (comes (execution_of w) c (made w c j) m.2);
    }

    pub exchanged_races : (parts : List Part) → old_parts parts ≡ olds → AreExchanged p t start l count piece fresh [] parts [] start → new_parts parts ≡ news → HasNoRace (accesses (old_parts parts)) → HasNoRace (accesses (new_parts parts))
    exchanged_races parts olds_are exchanged news_are free =
        subst (λ (acts : List Act). HasNoRace (accesses acts)) (sym news_are)
        (pairs_free olds news race_before (subst (λ (acts : List Act). HasNoRace (accesses acts)) olds_are free))
      where
        race_before : (b c : Access) → StandsBefore b c (accesses news) → race b c ≡ true → RaceSomewhere olds
        race_before b c before races =
            let i = first_in b c (accesses news) before in
            let j = second_in b c (accesses news) before in
            let r = by_references u new_valid data_bytes b c i j races in
            let parts_of = and_parts (same_cell b.cell c.cell) (b.writes || c.writes) r.4 in
            pairs_give By olds news Meet (RaceSomewhere olds) give [] parts [] start exchanged (λ a k. subst (λ (acts : List Act). IsIn a acts) olds_are k) (λ a k. subst (λ (acts : List Act). IsIn a acts) news_are k) b c
            (subst (λ (acts : List Act). StandsBefore b c (accesses acts)) (sym news_are) before)
            (record { one = i; other = j; apart = r.2; back = r.3; cells = cell_is b.cell c.cell parts_of.0; writing = parts_of.1 }, r.0, r.1)
