-- A program in which the second of two DO loops gets the variable of the first keeps its meaning, and by references it does the same.
use Rattle.std.proofs.Common.{◌≡◌, ◌⊎◌, ℕ, ◌+◌, List, [], ◌∷◌, ◌++◌, Bool, true, false, ◌||◌, refl, sym, ap, subst, ◌∙◌, inl, inr, arith, append-nil, if◌then◌else◌}
use Rattle.std.specs.Str.Lines.{lines}
use Rattle.std.proofs.lemmas.Bool.{both_ways, or_parts}
use Rattle.ped_base.proofs.NameEquality.{same_is}
use Rattle.ped_base.specs.Lists.{is_among, is_same_text}
use Rattle.ped_tree.specs.NamesIn.{all_loop_variables}
use Rattle.ped_tree.specs.Numbering.{statement_with, statements_count}
use Rattle.ped_tree.specs.Tree.{Do, ProgramTree, StmtTree, StmtTrees, Var}
use Rattle.ped_rules.specs.ped_loop_runs.proofs.LoopLaws.OneForOneStands.{run_alone}
use Rattle.ped_rules.specs.ped_loop_runs.proofs.LoopLaws.RacesByReferences.{told_is_unreferred}
use Rattle.ped_rules.specs.ped_loop_runs.proofs.PastingLaws.KeptMeaning.{made_keeps, parts_fit, wanted_suit}
use Rattle.ped_rules.specs.ped_loop_runs.proofs.PastingLaws.PastedRuns.{exchanged_near}
use Rattle.ped_rules.specs.ped_loop_runs.proofs.PastingLaws.StandingParts.{all_stand_near}
use Rattle.ped_rules.specs.ped_loop_runs.specs.Executions.{IsExecuted}
use Rattle.ped_rules.specs.ped_loop_runs.specs.Meaning.{KeepsOn}
use Rattle.ped_rules.specs.ped_loop_runs.specs.OtherCopies.{AreExchangedNear, AreNear, AskNothing, DoNear, HasOtherCopies, IsExchangedNear, IsOtherExit, IsPastedBut, IsUndefinedInBoth, LeaveApart, OfParallelRound, StandNear}
use Rattle.ped_rules.specs.ped_loop_runs.specs.Pasting.{PartsStandBy}
use Rattle.ped_rules.specs.ped_steps.proofs.RunLaws.SubstitutedShapes.{counts_kept, indices_kept}
use Rattle.ped_rules.specs.ped_steps.specs.Replacing.{alone}
use Rattle.ped_rules.specs.ped_steps.specs.Runs.Gaps.{Gap, filled, number_at}
use Rattle.ped_rules.specs.ped_steps.specs.Runs.Renumbering.{renumbered}
use Rattle.ped_symbolic.specs.Substitution.{statements_substituted}
use Rattle.ped_rules.specs.ped_laws.proofs.FlowRunLaws.Stopping.{fitting_stops, loop_stops}
use Rattle.ped_rules.specs.ped_laws.proofs.ActLaws.Lists.{in_left, in_right}
use Rattle.ped_rules.specs.ped_laws.proofs.RunLaws.StatementsTold.{all_told}
use Rattle.ped_rules.specs.ped_laws.proofs.RunLaws.Turning.{once_among}
use Rattle.ped_rules.specs.ped_laws.proofs.ConflictLaws.CoveringRuns.{MakingLaw}
use Rattle.ped_rules.specs.ped_laws.specs.Acts.Fitting.{Fits, store_after}
use Rattle.ped_rules.specs.ped_laws.specs.Acts.Orders.{IsIn}
use Rattle.ped_rules.specs.ped_laws.specs.Acts.Pieces.{Part, StandsFor, changed, new_parts, old_parts, same}
use Rattle.ped_rules.specs.ped_laws.specs.Acts.Sets.{wants}
use Rattle.ped_rules.specs.ped_laws.specs.FlowRuns.Covering.{is_cell_of}
use Rattle.ped_rules.specs.ped_laws.specs.Runs.Replaying.{Replays, act, ending_with, finish_of, goes_on}
use Rattle.ped_rules.specs.ped_laws.specs.Runs.Showing.{shown_at_end}
use Rattle.ped_rules.specs.ped_eval.specs.Loops.{entered_with, frame, undefined_all}
use Rattle.ped_rules.specs.ped_eval.specs.Outcomes.{Ends, IsRaceFree, run_of, setting_of}
use Rattle.ped_rules.specs.ped_eval.specs.Runs.{Ending, Run, failed, going, run, run_all, stopped}
use Rattle.ped_rules.specs.ped_eval.specs.Scopes.{Scope, Setting, cell_of, place_of, turns_of}
use Rattle.ped_rules.specs.ped_store.specs.Acts.{Act, Touch, iterations_of}
use Rattle.ped_rules.specs.ped_store.specs.Cells.{Cell, Private}
use Rattle.ped_rules.specs.ped_store.specs.Races.{Access, HasNoRace, accesses}
use Rattle.ped_rules.specs.ped_store.specs.Stores.{Store, store_at_start}
use Rattle.ped_rules.proofs.NameLaws.ValuesBut.{AreBeside}
use Rattle.ped_splits.proofs.FuseFacts.{renamed, renamed_next}
use Rattle.ped_splits.proofs.RenameFacts.{IsRenaming}
use Rattle.ped_splits.proofs.RenameGaps.{next_gap, next_loop, next_new, next_numbered, next_old}
use Rattle.ped_splits.proofs.RenameAsked.{unwanted_exit}
use Rattle.ped_splits.proofs.RenameInside.{loses_inside, next_inside, own_inside}
use Rattle.ped_splits.proofs.RenameQuiet.{quiet_copies}
use Rattle.ped_splits.proofs.RenamePlaces.{copy_lost, lost_turn, stands_in}
use Rattle.ped_splits.proofs.RenameKinds.{renamed_live, renamed_setting}
use Rattle.ped_splits.proofs.RenameLost.{is_lost, lost_named, loses}
use Rattle.ped_splits.proofs.RenameActs.{AreTurned, exits_referred, referred, referred_append, turned_referred}
use Rattle.ped_splits.proofs.RenameRaces.{no_race_comes}
use Rattle.ped_splits.proofs.RenameRound.{round_renamed}
use Rattle.ped_splits.proofs.RenameShown.{MayBeShown}
use Rattle.ped_splits.proofs.RenameStands.{does_renamed, stands_renamed, turned_renamed}
use Rattle.ped_splits.proofs.RenameTold.{told_unraced}
use Rattle.ped_splits.specs.Neighbours.{Neighbour, next_number}

-- what ends as a run that ends
ends_alike : (e : Ending) (v : Store) → Ends e → Ends (ending_with (finish_of e) v)
ends_alike (going w) v h = tt
ends_alike (stopped w) v h = tt
ends_alike (failed fault n) v h = h

module _ (making : MakingLaw) (t : ProgramTree) (s : ℕ) (x : Neighbour t s) (r : IsRenaming t s x) where
  abbrev p : Setting
  p = setting_of t

  abbrev u : ProgramTree
  u = renamed x

  abbrev q : Setting
  q = renumbered (λ n. n) (setting_of (renamed x))

  abbrev k : ℕ
  k = next_number x

  abbrev I : List ℕ
  I = x.own.variable

  abbrev J : List ℕ
  J = x.next.variable

  abbrev old_loop : StmtTree
  old_loop = Do x.next x.next_body

  abbrev new_loop : StmtTree
  new_loop = Do (record x.next { variable = x.own.variable }) (statements_substituted x.next.variable (Var x.own.variable) x.next_body)

  abbrev old : StmtTrees
  old = alone (Do x.next x.next_body)

  abbrev new : StmtTrees
  new = alone (Do (record x.next { variable = x.own.variable }) (statements_substituted x.next.variable (Var x.own.variable) x.next_body))

  abbrev gap : Gap
  gap = next_gap x

  abbrev first : ℕ
  first = number_at (next_gap x) 1

  abbrev count : ℕ
  count = statements_count (alone (Do x.next x.next_body))

  abbrev names : List (List ℕ)
  names = x.own.variable ∷ (x.next.variable ∷ [])

  abbrev apart : Cell → Bool
  apart = is_lost t x.next.variable (next_number x)

  abbrev Near : Scope → Scope → Type 0
  Near = AreNear (x.own.variable ∷ (x.next.variable ∷ [])) (is_lost t x.next.variable (next_number x))

  new_is : alone (renamed_next x) ≡ new
  new_is = ap (λ (b : Bool). alone (Do (record x.next { variable = I }) (if b then x.next_body else statements_substituted J (Var I) x.next_body))) r.differ

  -- both programs are run by one setting
  setting : setting_of u ≡ p
  setting = renamed_setting t s x r

  same_setting : q ≡ p
  same_setting = ap (renumbered (λ n. n)) setting

  as_many : statements_count new ≡ statements_count old
  as_many = let e = counts_kept J (Var I) x.next_body in omega (arith, e)

  indices : (y : List ℕ) → is_among y names ≡ false → is_among y (all_loop_variables new) ≡ is_among y (all_loop_variables old)
  indices y none =
      let one = or_parts (is_same_text y I) (is_same_text y J || false) none in
      let other = or_parts (is_same_text y J) false one.1 in
      ap (is_among y) (append-nil (I ∷ all_loop_variables (statements_substituted J (Var I) x.next_body)))
      ∙ (λ i. (one.0 ∙ sym other.0) i || is_among y (indices_kept J (Var I) x.next_body i))
      ∙ sym (ap (is_among y) (append-nil (J ∷ all_loop_variables x.next_body)))

  round : OfParallelRound (HasOtherCopies names apart p old new) gap 1
  round = round_renamed t s x r

  pasted : IsPastedBut names apart p q gap old new t u
  pasted = record {
    old_body = next_old x;
    new_body = next_new x ∙ ap (filled gap) new_is;
    bounds = λ y among. ap (λ (z : Setting). z.bounds y) (sym setting);
    constants = ap (λ (z : Setting). z.constants) (sym setting);
    one_each = λ m n e. e;
    numbers = record { before = λ n less. refl; behind = λ n less. ap (λ (m : ℕ). first + m + n) as_many };
    some = omega arith;
    unstopped = (λ i. loop_stops t k (next_loop x) (fitting_stops t r.valid.fits) i || false);
    indices = λ parallel. indices;
    round = round;
  }

  names_only : (y : List ℕ) → is_among y names ≡ true → (y ≡ I) ⊎ (y ≡ J)
  names_only y i = go (is_same_text y I) refl (is_same_text y J) refl i
    where
      go : (b : Bool) → is_same_text y I ≡ b → (c : Bool) → is_same_text y J ≡ c → b || (c || false) ≡ true → (y ≡ I) ⊎ (y ≡ J)
      go true e c f h = inl (same_is y I e)
      go false e true f h = inr (same_is y J f)
      go false e false f h = absurd cc

  named : (S : Scope) (y : List ℕ) → is_cell_of J (cell_of S y) ≡ true → is_same_text J y ≡ true
  named [] y h = h
  named (f ∷ S) y h = go (is_among y f.private) (named S y) h
    where
      go : (b : Bool) → (is_cell_of J (cell_of S y) ≡ true → is_same_text J y ≡ true) → is_cell_of J (if b then Private y (iterations_of (turns_of (f ∷ S))) else cell_of S y) ≡ true → is_same_text J y ≡ true
      go true more k = k
      go false more k = more k

  -- at a place near it all but the variable of the second DO stands for the same
  beside : (scope other : Scope) → Near scope other → AreBeside J scope other
  beside scope other near = record {
    turns = near.turns;
    index = near.index;
    cell = λ y other_name. elim (near.cell y) [
      | inl e ↦ e
      | inr n ↦ absurd (both_ways (is_same_text J y) other_name (named scope y (lost_named t J k (cell_of scope y) n.1)))
    ];
  }

  -- with these cells shown at the end
  module _ (shown : Cell → Bool) (may : MayBeShown t shown) (data_bytes : List ℕ) (ends : Ends (run_of t data_bytes).ending) where
    abbrev start : Store
    start = store_at_start (lines data_bytes)

    abbrev fresh : (scope other : Scope) → Store → List Act
    fresh scope other v = (run_all p (alone (Do (record x.next { variable = x.own.variable }) (statements_substituted x.next.variable (Var x.own.variable) x.next_body))) (next_number x) other v).acts

    module _ (scope other : Scope) (front behind : List Act) (v : Store) (near : Near scope other) (executed : IsExecuted p t start k count scope front (run_all p old k scope v).acts behind v) (goes : finish_of (run_all p old k scope v).ending ≡ goes_on) where
      executed_alone : IsExecuted p t start k count scope front (run p old_loop k scope v).acts behind v
      executed_alone = subst (λ (y : Run). IsExecuted p t start k count scope front y.acts behind v) (run_alone p old_loop k scope v) executed

      goes_alone : finish_of (run p old_loop k scope v).ending ≡ goes_on
      goes_alone = ap (λ (y : Run). finish_of y.ending) (sym (run_alone p old_loop k scope v)) ∙ goes

      new_acts : fresh scope other v ≡ (run p new_loop k other v).acts
      new_acts = ap (λ (y : Run). y.acts) (run_alone p new_loop k other v)

      replayed : Replays (run_all p new k other) (fresh scope other v) goes_on
      replayed =
          subst (λ (f : Store → Run). Replays f (fresh scope other v) goes_on) (sym (λ i w. run_alone p new_loop k other w i))
          (subst (λ (acts : List Act). Replays (run p new_loop k other) acts goes_on) (sym new_acts) (does_renamed t s x r shown may data_bytes ends scope other (beside scope other near) front behind v executed_alone goes_alone))

      stood : StandsFor (record { agreed = wants shown ((run_all p old k scope v).acts ++ behind); old = (run_all p old k scope v).acts; new = fresh scope other v }) (wants shown behind) v
      stood =
          subst (λ (y : Run). StandsFor (record { agreed = wants shown (y.acts ++ behind); old = y.acts; new = fresh scope other v }) (wants shown behind) v) (sym (run_alone p old_loop k scope v))
          (subst (λ (acts : List Act). StandsFor (record { agreed = wants shown ((run p old_loop k scope v).acts ++ behind); old = (run p old_loop k scope v).acts; new = acts }) (wants shown behind) v) (sym new_acts)
          (stands_renamed t s x r shown may data_bytes ends scope other (beside scope other near) front behind v executed_alone goes_alone))

    do_near : DoNear names apart p q t start first count (run_all p old first) new fresh
    do_near =
        subst (λ (z : Setting). DoNear names apart p z t start first count (run_all p old first) new fresh) (sym same_setting)
        (subst (λ (n : ℕ). DoNear names apart p p t start n count (run_all p old n) new fresh) (sym (next_numbered x)) (λ scope other front behind v near executed goes. replayed scope other front behind v near executed goes))

    stand_near : StandNear (wants shown) names apart p t start first count (run_all p old first) fresh
    stand_near = subst (λ (n : ℕ). StandNear (wants shown) names apart p t start n count (run_all p old n) fresh) (sym (next_numbered x)) (λ scope other front behind v near executed goes. stood scope other front behind v near executed goes)

    -- other statements leave the lost copies alone
    quiet : LeaveApart apart p t first count (run_of t data_bytes).acts
    quiet = subst (λ (n : ℕ). LeaveApart apart p t n count (run_of t data_bytes).acts) (sym (next_numbered x)) (λ a i v j h. quiet_copies making t s x r data_bytes ends a i v j h)

    -- nobody asks for a variable of a PARALLEL DO behind it
    asked : AskNothing (wants shown) names apart p t start first
    asked = subst (AskNothing (wants shown) names apart p t start) (sym (next_numbered x)) (λ front behind v before after e y among. asked_of front behind v before after e y among)
      where
        asked_of : (front behind : List Act) (v : Store) (before after : List Act) → (e : IsOtherExit names apart p t start k front behind v before after) → (y : List ℕ) → is_among y names ≡ true
            → IsUndefinedInBoth e y ⊎ ((is_among y e.undefined ≡ true → wants shown behind (cell_of e.scope y) ≡ false) × (is_among y e.undefined_now ≡ true → wants shown behind (cell_of e.other y) ≡ false))
        asked_of front behind v before after e y among = inr ((λ there. old_one), new_one (e.near.cell y))
          where
            in_body : is_among y (all_loop_variables e.round.loop.body) ≡ true
            in_body = elim (names_only y among) [
              | inl own ↦ ap (λ (z : List ℕ). is_among z (all_loop_variables e.round.loop.body)) own ∙ own_inside x e.number e.round.loop e.round.from e.round.to
              | inr next ↦ ap (λ (z : List ℕ). is_among z (all_loop_variables e.round.loop.body)) next ∙ next_inside x e.number e.round.loop e.round.from e.round.to
            ]

            old_one : wants shown behind (cell_of e.scope y) ≡ false
            old_one = unwanted_exit t r.valid shown may data_bytes ends names apart k front behind v before after e y in_body

            leaving : Act
            leaving = act e.step (place_of p e.number e.scope) (e.first ++ undefined_all e.scope e.undefined)

            in_run : IsIn leaving (run_of t data_bytes).acts
            in_run = subst (IsIn leaving) (sym e.whole) (in_right leaving front (before ++ behind) (in_left leaving before behind (subst (IsIn leaving) (sym e.old_is) (inl refl))))

            -- where it is another cell, the PARALLEL DO has lost it
            lost_there : apart (cell_of e.scope y) ≡ true → loses t J k e.number (statement_with e.number t) ≡ true
            lost_there h =
                let i = lost_turn t J k e.scope y h in
                let stands = stands_in t r.valid start leaving in_run i.0 i.1 in
                let from = stands.from in
                loses_inside t J k i.0.statement e.number stands.loop e.round.loop e.round.parallel (omega (arith, from)) e.round.from e.round.to i.2

            gone : apart (cell_of e.scope y) ≡ true → is_among y e.undefined_now ≡ false
            gone h =
                let is : y ≡ J = sym (same_is J y (named e.scope y (lost_named t J k (cell_of e.scope y) h))) in
                let there : is_among y e.undefined ≡ true = ap (is_among y) e.undefined_is ∙ once_among y (all_loop_variables e.round.loop.body) ∙ in_body in
                e.went y among there
                (λ S seen l n. ap (λ (z : List ℕ). apart (cell_of (frame (entered_with p e.number e.round.loop.head e.round.loop.body seen l) n ∷ S) z)) is
                ∙ copy_lost t J k e.number e.round.loop.head e.round.loop.body e.round.parallel (ap (λ (z : List ℕ). is_among z (all_loop_variables e.round.loop.body)) (sym is) ∙ in_body) S seen l n ∙ lost_there h)

            new_one : (cell_of e.other y ≡ cell_of e.scope y) ⊎ ((is_among y names ≡ true) × (apart (cell_of e.scope y) ≡ true)) → is_among y e.undefined_now ≡ true → wants shown behind (cell_of e.other y) ≡ false
            new_one (inl alike) there = ap (wants shown behind) alike ∙ old_one
            new_one (inr n) there = absurd (both_ways (is_among y e.undefined_now) (gone n.1) there)

    -- the run is made of parts, and the new program does the new ones
    abbrev Made : Type 0
    Made =
        (parts : List Part) × (old_parts parts ≡ (run_of t data_bytes).acts) × AreExchangedNear names apart p t start first count (run_all p old first) fresh [] parts [] start
        × Replays (run_all q u.body 1 []) (new_parts parts) (finish_of (run_of t data_bytes).ending)

    made : Made
    made = exchanged_near names apart p q gap old new t u start fresh pasted quiet do_near ends

    stand : PartsStandBy (wants shown) made.0 start
    stand = all_stand_near shown (wants shown) (wanted_suit shown) names apart p t start first count (run_all p old first) fresh stand_near asked made.0 made.2

    -- by references both do the same
    none_referred : (S : Scope) (xs : List (List ℕ)) (v : Touch) → IsIn v (undefined_all S xs) → v.reference ≡ 0
    none_referred S [] v i = absurd i
    none_referred S (y ∷ xs) v (inl e) = ap (λ (z : Touch). z.reference) e
    none_referred S (y ∷ xs) v (inr i) = none_referred S xs v i

    of_execution : (scope other : Scope) (front behind : List Act) (v : Store) → Near scope other → IsExecuted p t start first count scope front (run_all p old first scope v).acts behind v → finish_of (run_all p old first scope v).ending ≡ goes_on
        → referred (run_all p old first scope v).acts ≡ referred (fresh scope other v)
    of_execution = subst (λ (n : ℕ). (scope other : Scope) (front behind : List Act) (v : Store) → Near scope other → IsExecuted p t start n count scope front (run_all p old n scope v).acts behind v → finish_of (run_all p old n scope v).ending ≡ goes_on
        → referred (run_all p old n scope v).acts ≡ referred (fresh scope other v)) (sym (next_numbered x)) alike
      where
        alike : (scope other : Scope) (front behind : List Act) (v : Store) → Near scope other → IsExecuted p t start k count scope front (run_all p old k scope v).acts behind v → finish_of (run_all p old k scope v).ending ≡ goes_on
            → referred (run_all p old k scope v).acts ≡ referred (fresh scope other v)
        alike scope other front behind v near executed goes =
            turned_referred (cell_of scope J) (cell_of other I) (run_all p old k scope v).acts (fresh scope other v)
            (subst (λ (y : Run). AreTurned (cell_of scope J) (cell_of other I) y.acts (fresh scope other v)) (sym (run_alone p old_loop k scope v))
            (subst (AreTurned (cell_of scope J) (cell_of other I) (run p old_loop k scope v).acts) (sym (new_acts scope other front behind v near executed goes))
            (turned_renamed t s x r shown may data_bytes ends scope other (beside scope other near) front behind v (executed_alone scope other front behind v near executed goes) (goes_alone scope other front behind v near executed goes))))
            (told_is_unreferred p old k scope v) (told_is_unreferred p new k other v)

    parts_referred : (front : List Act) (parts : List Part) (behind : List Act) (v : Store) → AreExchangedNear names apart p t start first count (run_all p old first) fresh front parts behind v → referred (old_parts parts) ≡ referred (new_parts parts)
    parts_referred front [] behind v exchanged = refl
    parts_referred front (same acts ∷ parts) behind v exchanged =
        referred_append acts (old_parts parts) ∙ ap (λ (zs : List Access). referred acts ++ zs) (parts_referred (front ++ acts) parts behind (store_after acts v) exchanged) ∙ sym (referred_append acts (new_parts parts))
    parts_referred front (changed olds news ∷ parts) behind v exchanged =
        referred_append olds (old_parts parts) ∙ (λ i. one exchanged.0 i ++ parts_referred (front ++ olds) parts behind (store_after olds v) exchanged.1 i) ∙ sym (referred_append news (new_parts parts))
      where
        one : IsExchangedNear names apart p t start first count (run_all p old first) fresh front (old_parts parts ++ behind) v olds news ⊎ IsOtherExit names apart p t start first front (old_parts parts ++ behind) v olds news → referred olds ≡ referred news
        one (inl y) = ap referred y.old_is ∙ of_execution y.scope y.other front (old_parts parts ++ behind) v y.near y.executed y.goes ∙ sym (ap referred y.new_is)
        one (inr y) =
            ap referred y.old_is
            ∙ exits_referred y.step (place_of p y.number y.scope) y.first (undefined_all y.scope y.undefined) (undefined_all y.other y.undefined_now) (none_referred y.scope y.undefined) (none_referred y.other y.undefined_now)
            ∙ sym (ap referred y.new_is)

    old_fits : Fits (old_parts made.0) start
    old_fits = subst (λ (acts : List Act). Fits acts start) (sym made.1) ((all_told p t.body 1 []).fits start)

    new_run : run_all q u.body 1 [] start ≡ record { acts = new_parts made.0; ending = ending_with (finish_of (run_of t data_bytes).ending) (store_after (new_parts made.0) start) }
    new_run = made.3 start (parts_fit shown (wants shown) (wanted_suit shown) made.0 start start stand (λ c m. refl) old_fits)

    pub renaming_ends : Ends (run_of (renamed x) data_bytes).ending
    renaming_ends = subst (λ (y : Run). Ends y.ending) (sym new_run) (ends_alike (run_of t data_bytes).ending (store_after (new_parts made.0) start) ends)

    pub renaming_alike : referred (run_of t data_bytes).acts ≡ referred (run_of (renamed x) data_bytes).acts
    renaming_alike = ap referred (sym made.1) ∙ parts_referred [] made.0 [] start made.2 ∙ ap (λ (y : Run). referred y.acts) (sym new_run)

  -- so what is shown at the end stays, where it may be shown
  module _ (may : MayBeShown t (shown_at_end t)) (data_bytes : List ℕ) (free : IsRaceFree t data_bytes) where
    abbrev alike : referred (run_of t data_bytes).acts ≡ referred (run_of (renamed x) data_bytes).acts
    alike = renaming_alike (shown_at_end t) may data_bytes free.0

    pub renaming_keeps : KeepsOn t (renamed x) data_bytes
    renaming_keeps = made_keeps t u data_bytes free (record {
      saved = refl;
      kinds = renamed_live t s x r;
      counted = λ n. n;
      told = λ n. n;
      back = record { back = λ n. refl };
      agreed = wants (shown_at_end t);
      suit = wanted_suit (shown_at_end t);
      parts = (made (shown_at_end t) may data_bytes free.0).0;
      old_are = (made (shown_at_end t) may data_bytes free.0).1;
      stand = stand (shown_at_end t) may data_bytes free.0;
      replays = (made (shown_at_end t) may data_bytes free.0).3;
      free = λ same none. subst (λ (acts : List Act). HasNoRace (accesses acts)) (sym same) (no_race_comes t u data_bytes (told_unraced t s x r data_bytes alike) alike free.1);
    })
