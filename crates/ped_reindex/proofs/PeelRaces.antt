-- New acts in the place of executions make no race, where their accesses come from those of the executions. The new program is run under numbers of which the old one may have none: so are the iterations that a step gives other numbers.
use Rattle.ped_rules.specs.ped_loop_runs.proofs.LoopLaws.ApartTurns.{apart_inside, apart_split, apart_within, front_apart, iterations_append, same_fronts, turns_long}
use Rattle.ped_rules.proofs.NestLaws.ExchangedRaces.{RaceBefore}
use Rattle.ped_rules.specs.ped_loop_runs.proofs.LoopLaws.ChangedPairs.{Change, Give, in_acts, pairs_give}
use Rattle.ped_rules.specs.ped_loop_runs.specs.Executions.{IsExecuted, LeaveCopies, StandsInside}
use Rattle.ped_rules.specs.ped_loop_runs.specs.Pasting.{AreExchanged, IsExchanged}
use Rattle.ped_rules.specs.ped_steps.proofs.RunLaws.AccessTouches.{accesses_from}
use Rattle.ped_rules.specs.ped_steps.specs.Runs.Renumbering.{IsToldBack, renumbered}
use Rattle.ped_rules.specs.ped_flow.specs.PlainBounds.{nest_round}
use Rattle.ped_rules.specs.ped_laws.proofs.ActLaws.Conflicting.{access_place}
use Rattle.ped_rules.specs.ped_laws.proofs.ActLaws.Lists.{first_in, second_in}
use Rattle.ped_rules.specs.ped_laws.proofs.ActLaws.SameCells.{cell_is}
use Rattle.ped_rules.specs.ped_laws.proofs.RunLaws.Turning.{At}
use Rattle.ped_rules.specs.ped_laws.specs.Acts.Orders.{IsIn, StandsBefore}
use Rattle.ped_rules.specs.ped_laws.specs.Acts.Pieces.{Part, new_parts, old_parts}
use Rattle.ped_rules.specs.ped_laws.specs.Runs.Replaying.{finish_of, goes_on}
use Rattle.ped_rules.specs.ped_eval.specs.Outcomes.{run_of, setting_of}
use Rattle.ped_rules.specs.ped_eval.specs.Runs.{Run, run_all}
use Rattle.ped_rules.specs.ped_eval.specs.Scopes.{Scope, Setting, turns_of}
use Rattle.ped_rules.specs.ped_store.specs.Acts.{Act, Place, Turn, iterations_of}
use Rattle.ped_rules.specs.ped_store.specs.Cells.{Cell, Iteration, Private, same_cell}
use Rattle.ped_rules.specs.ped_store.specs.Races.{Access, HasNoRace, accesses, are_apart, race}
use Rattle.ped_rules.specs.ped_store.specs.Stores.{Store, store_at_start}
use Rattle.ped_rules.specs.ped_symbols.specs.NameRefusals.{IsValid}
use Rattle.ped_rules.specs.ped_weaves.proofs.WeaveLaws.RaceSources.{pairs_free}
use Rattle.ped_rules.specs.ped_weaves.specs.Sources.{RaceSomewhere}
use Rattle.ped_rules.proofs.NameLaws.AbsentNumbers.{turns_below}
use Rattle.ped_rules.proofs.NameLaws.RenumberedRaces.{references_renumbered}
use Rattle.ped_tree.specs.Numbering.{statements_count}
use Rattle.ped_tree.specs.Tree.{ProgramTree, StmtTrees}
use Rattle.std.proofs.Common.{List, [], ap, append-nil, arith, inl, inr, length, subst, sym, true, ℕ, ◌++◌, ◌<◌, ◌||◌, ◌∙◌, ◌∷◌, ◌≡◌, ◌⊎◌}
use Rattle.std.proofs.lemmas.Bool.{and_parts}
use Rattle.std.specs.Str.Lines.{lines}
use Rattle.ped_rules.specs.ped_loop_runs.proofs.LoopLaws.OldRaces.{acts_outside, round_apart}
use Rattle.ped_rules.specs.ped_loop_runs.proofs.LoopLaws.OldRaces as origins

-- an access in the place of an execution comes from one in an iteration of the DO, in the same cell, or in a copy that belongs to an iteration of the DO, or to one that the old program doesn't have
pub record ComesInside (t : ProgramTree) (l : ℕ) (scope : Scope) (olds : List Act) (b : Access) : Type 0 where
  pub origin : Access
  pub found : IsIn origin (accesses olds)
  pub writes : origin.writes ≡ b.writes
  pub extra : List Turn
  pub place : b.place.turns ≡ turns_of scope ++ extra
  pub whose : (v : Turn) (more : List Turn) → extra ≡ v ∷ more → (v.statement ≡ l) ⊎ (statements_count t.body < v.statement)
  pub old_turn : Turn
  pub old_more : List Turn
  pub was : origin.place.turns ≡ turns_of scope ++ old_turn ∷ old_more
  pub old_statement : old_turn.statement ≡ l
  pub cell : (origin.cell ≡ b.cell) ⊎ ((x : List ℕ) × (i : Iteration) × (rest : List Iteration) × (b.cell ≡ Private x (iterations_of (turns_of scope) ++ i ∷ rest)))

-- the new acts of one execution: each access by a reference comes from one of it, and two that race from two that race
pub record AreRaceFree (t : ProgramTree) (l : ℕ) (scope : Scope) (old new : List Act) : Type 0 where
  pub comes : (b : Access) → IsIn b (accesses new) → 0 < b.reference → ComesInside t l scope old b
  pub meets : (b c : Access) → IsIn b (accesses new) → IsIn c (accesses new) → 0 < b.reference → 0 < c.reference → b.cell ≡ c.cell → b.writes || c.writes ≡ true → are_apart b.place.turns c.place.turns ≡ true → RaceBefore old b c

module _ (t u : ProgramTree) (f g : ℕ → ℕ) (told : IsToldBack f g) (new_valid : IsValid u) (l : ℕ) (old : StmtTrees) (some : 0 < statements_count old) (fresh : Scope → Store → List Act) (data_bytes : List ℕ) where
  abbrev p : Setting
  p = setting_of t

  abbrev start : Store
  start = store_at_start (lines data_bytes)

  abbrev olds : List Act
  olds = (run_of t data_bytes).acts

  abbrev news : List Act
  news = (run_all (renumbered f (setting_of u)) u.body 1 [] (store_at_start (lines data_bytes))).acts

  abbrev piece : Scope → Store → Run
  piece = run_all p old l

  abbrev count : ℕ
  count = statements_count old

  -- two new accesses that race
  abbrev Race : Access → Access → Type 0
  Race = origins.Race t (renumbered f (setting_of u)) u.body data_bytes

  abbrev flipped : (b c : Access) → origins.Race t (renumbered f (setting_of u)) u.body data_bytes b c → origins.Race t (renumbered f (setting_of u)) u.body data_bytes c b
  flipped = origins.flipped t (renumbered f (setting_of u)) u.body data_bytes

  -- two old ones that they come from race
  abbrev somewhere : (y z : Access) → IsIn y (accesses (run_of t data_bytes).acts) → IsIn z (accesses (run_of t data_bytes).acts) → y.cell ≡ z.cell → y.writes || z.writes ≡ true → are_apart y.place.turns z.place.turns ≡ true → RaceSomewhere (run_of t data_bytes).acts
  somewhere = origins.somewhere t (renumbered f (setting_of u)) u.body data_bytes

  both_kept : (b c : Access) → Race b c → IsIn b (accesses olds) → IsIn c (accesses olds) → RaceSomewhere olds
  both_kept b c r i j = somewhere b c i j r.cells r.writing r.apart

  module _ (instead : (scope : Scope) (front behind : List Act) (s : Store) → IsExecuted p t start l count scope front (piece scope s).acts behind s → finish_of (piece scope s).ending ≡ goes_on → AreRaceFree t l scope (piece scope s).acts (fresh scope s)) where
    -- an execution, among the acts of the run
    record Execution : Type 0 where
      scope : Scope
      store : Store
      front : List Act
      behind : List Act
      executed : IsExecuted p t start l count scope front (piece scope store).acts behind store
      goes : finish_of (piece scope store).ending ≡ goes_on
      sub : (a : Act) → IsIn a (piece scope store).acts → IsIn a olds
      within : (a : Act) → IsIn a (fresh scope store) → IsIn a news

    module _ (y : Execution) where
      abbrev its : List Act
      its = (piece y.scope y.store).acts

      abbrev round : List Turn
      round = turns_of y.scope

      abbrev Inside : Access → Type 0
      Inside b = ComesInside t l y.scope its b

      free : AreRaceFree t l y.scope its (fresh y.scope y.store)
      free = instead y.scope y.front y.behind y.store y.executed y.goes

      comes : (b : Access) → IsIn b (accesses (fresh y.scope y.store)) → 0 < b.reference → Inside b
      comes b i referred = free.comes b i referred

      abbrev Outside : List Turn → Type 0
      Outside ts = StandsInside p y.scope l count ts → ⊥

      -- what is done before or behind it stands outside
      apart_acts : (acts : List Act) → LeaveCopies p y.scope l count acts → (c : Access) → IsIn c (accesses acts) → Outside c.place.turns
      apart_acts = acts_outside p y.scope l count

      -- an old access that stands outside is apart from the iterations round the DO
      apart_round : (b c : Access) → Race b c → IsIn c (accesses olds) → Outside c.place.turns → Inside b → are_apart round c.place.turns ≡ true
      apart_round b c r i outside k =
          round_apart t y.scope l count some b c r.apart outside k.extra k.place (λ v more e. elim (k.whose v more e) [ inl own ↦ inl own | inr above ↦ inr (λ w j alike. far w j (subst (λ (n : ℕ). statements_count t.body < n) alike above)) ])
        where
          far : (w : Turn) → IsIn w c.place.turns → statements_count t.body < w.statement → ⊥
          far w j above =
              let found = accesses_from olds c i in
              let less = turns_below t start found.0 found.1 w (subst (λ (x : Place). IsIn w x.turns) (access_place found.0 c found.2) j) in
              omega (arith, less, above)

      module _ (b : Access) (k : Inside b) where
        found : IsIn k.origin (accesses olds)
        found = in_acts its olds k.origin y.sub k.found

        -- the cell has its name, where the other access is apart from the iterations round the DO
        named : (c : Access) → Race b c → are_apart round c.place.turns ≡ true → k.origin.cell ≡ b.cell
        named c r apart = elim k.cell [ inl kept ↦ kept | inr gone ↦ absurd (front_apart round c.place.turns (gone.1 ∷ gone.2) (subst (λ (z : Cell). At c.place.turns z) (sym r.cells ∙ gone.3) (origins.reaches t (renumbered f (setting_of u)) u.body data_bytes c r.other)) apart) ]

        -- one that comes from inside, and one that stays as it was
        inside_kept : (c : Access) → Race b c → IsIn c (accesses olds) → Outside c.place.turns → RaceSomewhere olds
        inside_kept c r i outside =
            let apart = apart_round b c r i outside k in
            somewhere k.origin c found i (named c r apart ∙ r.cells) ((λ j. k.writes j || c.writes) ∙ r.writing)
            ((λ j. are_apart (k.was j) c.place.turns) ∙ ap (are_apart (round ++ k.old_turn ∷ k.old_more)) (sym (append-nil c.place.turns)) ∙ apart_inside round c.place.turns (k.old_turn ∷ k.old_more) [] apart)

      -- two accesses of one execution
      one_execution : (b c : Access) → Race b c → IsIn b (accesses (fresh y.scope y.store)) → IsIn c (accesses (fresh y.scope y.store)) → 0 < b.reference → 0 < c.reference → RaceSomewhere olds
      one_execution b c r i j one other =
          let m = free.meets b c i j one other r.cells r.writing r.apart in
          somewhere m.one m.other (in_acts its olds m.one y.sub m.one_in) (in_acts its olds m.other y.sub m.other_in) m.cells m.writes m.apart

    abbrev numbers_of : Turn → Iteration
    numbers_of v = record { statement = v.statement; number = v.number }

    long : (y w : Execution) → length (round w) ≡ length (round y)
    long y w = turns_long p.number (nest_round t l) (round w) w.executed.place.turns ∙ sym (turns_long p.number (nest_round t l) (round y) y.executed.place.turns)

    -- two executions in the same iterations would be one: what the one does would stand inside the other
    not_same : (y w : Execution) (c : Access) (m : Inside w c) → Outside y m.origin.place.turns → iterations_of (round w) ≡ iterations_of (round y) → ⊥
    not_same y w c m outside alike =
        outside (record {
          statement = l;
          from = omega arith;
          to = omega (arith, some);
          number = m.old_turn.number;
          rest = iterations_of m.old_more;
          is = ap iterations_of m.was ∙ iterations_append (round w) (m.old_turn ∷ m.old_more) ∙ (λ i. alike i ++ record { statement = m.old_statement i; number = m.old_turn.number } ∷ iterations_of m.old_more);
        })

    rounds_apart : (y w : Execution) (b c : Access) → Race b c → Inside y b → Inside w c → (iterations_of (round w) ≡ iterations_of (round y) → ⊥) → are_apart (round y) c.place.turns ≡ true
    rounds_apart y w b c r k m differ = elim (apart_split (round y) k.extra c.place.turns ((λ j. are_apart (sym k.place j) c.place.turns) ∙ r.apart)) [
      | inl apart ↦ apart
      | inr n ↦ absurd (differ (
          (same_fronts numbers_of (round w) (round y) (iterations_of m.extra) (iterations_of n.1) (long y w)
          (sym (iterations_append (round w) m.extra) ∙ ap iterations_of (sym m.place ∙ n.2) ∙ iterations_append n.0 n.1 ∙ ap (λ (is : List Iteration). is ++ iterations_of n.1) n.3)).0))
    ]

    -- two executions, the first one before the second
    record AreInOrder (y w : Execution) : Type 0 where
      before : (a : Act) → IsIn a (piece y.scope y.store).acts → IsIn a w.front
      after : (a : Act) → IsIn a (piece w.scope w.store).acts → IsIn a y.behind

    two_executions : (y w : Execution) → AreInOrder y w → (b c : Access) → Race b c → Inside y b → Inside w c → RaceSomewhere olds
    two_executions y w s b c r k m =
        let differ = not_same y w c m (apart_acts y y.behind y.executed.unused_behind m.origin (in_acts (its w) y.behind m.origin s.after m.found)) in
        let of_c = rounds_apart y w b c r k m differ in
        let of_b = rounds_apart w y c b (flipped b c r) m k (λ e. differ (sym e)) in
        let rounds : are_apart (round y) (round w) ≡ true = apart_within (round y) (round w) m.extra (sym (long y w)) ((λ i. are_apart (round y) (sym m.place i)) ∙ of_c) in
        somewhere k.origin m.origin (found y b k) (found w c m) (named y b k c r of_c ∙ r.cells ∙ sym (named w c m b (flipped b c r) of_b)) ((λ i. k.writes i || m.writes i) ∙ r.writing)
        ((λ i. are_apart (k.was i) (m.was i)) ∙ apart_inside (round y) (round w) (k.old_turn ∷ k.old_more) (m.old_turn ∷ m.old_more) rounds)

    -- two new accesses by references that race
    abbrev Meet : Access → Access → Type 0
    Meet b c = Race b c × (0 < b.reference) × (0 < c.reference)

    abbrev By : List Act → List Act → Store → List Act → List Act → Type 0
    By = IsExchanged p t start l count piece fresh

    abbrev execution_of : Change By olds news → Execution
    execution_of y = record {
      scope = y.by.scope;
      store = y.store;
      front = y.front;
      behind = y.behind;
      executed = y.by.executed;
      goes = y.by.goes;
      sub = λ a i. y.sub a (subst (λ (acts : List Act). IsIn a acts) (sym y.by.old_is) i);
      within = λ a i. y.within a (subst (λ (acts : List Act). IsIn a acts) (sym y.by.new_is) i);
    }

    made : (y : Change By olds news) (b : Access) → IsIn b (accesses y.new) → IsIn b (accesses (fresh y.by.scope y.store))
    made y b i = subst (λ (acts : List Act). IsIn b (accesses acts)) y.by.new_is i

    -- two new accesses that race come from two old ones that do
    give : Give By olds news Meet (RaceSomewhere olds)
    give = record {
      kept = λ b c m i j. both_kept b c m.0 i j;
      before = λ y b c m i j k. inside_kept (execution_of y) c (comes (execution_of y) c (made y c k) m.2) b (flipped b c m.0) j (apart_acts (execution_of y) y.front y.by.executed.unused_before b i);
      behind = λ y b c m k i j. inside_kept (execution_of y) b (comes (execution_of y) b (made y b k) m.1) c m.0 j (apart_acts (execution_of y) y.behind y.by.executed.unused_behind c i);
      inside = λ y b c m i j. one_execution (execution_of y) b c m.0 (made y b i) (made y c j) m.1 m.2;
      between = λ y w s b c m i j. two_executions (execution_of y) (execution_of w)
          (record {
            before = λ a k. s.before a (subst (λ (acts : List Act). IsIn a acts) (sym y.by.old_is) k);
            after = λ a k. s.after a (subst (λ (acts : List Act). IsIn a acts) (sym w.by.old_is) k);
          }) b c m.0 (comes (execution_of y) b (made y b i) m.1) (comes (execution_of w) c (made w c j) m.2);
    }

    pub exchanged_races : (parts : List Part) → old_parts parts ≡ olds → AreExchanged p t start l count piece fresh [] parts [] start → new_parts parts ≡ news → HasNoRace (accesses (old_parts parts)) → HasNoRace (accesses (new_parts parts))
    exchanged_races parts olds_are exchanged news_are free =
        subst (λ (acts : List Act). HasNoRace (accesses acts)) (sym news_are)
        (pairs_free olds news race_before (subst (λ (acts : List Act). HasNoRace (accesses acts)) olds_are free))
      where
        race_before : (b c : Access) → StandsBefore b c (accesses news) → race b c ≡ true → RaceSomewhere olds
        race_before b c before races =
            let i = first_in b c (accesses news) before in
            let j = second_in b c (accesses news) before in
            let r = references_renumbered f g told u new_valid data_bytes b c i j races in
            let parts_of = and_parts (same_cell b.cell c.cell) (b.writes || c.writes) r.4 in
            pairs_give By olds news Meet (RaceSomewhere olds) give [] parts [] start exchanged (λ a k. subst (λ (acts : List Act). IsIn a acts) olds_are k) (λ a k. subst (λ (acts : List Act). IsIn a acts) news_are k) b c
            (subst (λ (acts : List Act). StandsBefore b c (accesses acts)) (sym news_are) before)
            (record { one = i; other = j; apart = r.2; back = r.3; cells = cell_is b.cell c.cell parts_of.0; writing = parts_of.1 }, r.0, r.1)
