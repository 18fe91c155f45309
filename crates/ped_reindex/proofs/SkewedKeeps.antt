-- A program in which the inner one of two DO loops has given way keeps its meaning.
use Rattle.std.proofs.Common.{◌≡◌, ℕ, ◌+◌, ◌<◌, List, [], ◌∷◌, ◌++◌, map, Bool, true, false, ◌==◌, ◌&&◌, ◌||◌, refl, sym, ap, ◌∙◌, subst, inl, inr, arith, if◌then◌else◌}
use Rattle.std.specs.Str.Lines.{lines}
use Rattle.std.specs.List.{flat_map}
use Rattle.ped_base.specs.Lists.{is_among}
use Rattle.ped_tree.specs.NamesIn.{loop_variables, saved_in, all_loop_variables}
use Rattle.ped_tree.specs.Numbering.{statements_count}
use Rattle.ped_tree.specs.Tree.{Head, StmtTree, StmtTrees, Do, DeclTree, ProgramTree}
use Rattle.ped_rules.specs.ped_store.specs.Cells.{Cell, same_cell}
use Rattle.ped_rules.specs.ped_store.specs.Stores.{Store, store_at_start}
use Rattle.ped_rules.specs.ped_store.specs.Acts.{Turn, Act}
use Rattle.ped_rules.specs.ped_store.specs.Races.{Access, accesses, are_apart, race, HasNoRace}
use Rattle.ped_rules.specs.ped_laws.specs.Acts.Fitting.{store_after}
use Rattle.ped_rules.specs.ped_laws.specs.Acts.Orders.{IsIn, StandsBefore}
use Rattle.ped_rules.specs.ped_laws.specs.Acts.Pieces.{Part, same, changed, old_parts, new_parts, StandsFor}
use Rattle.ped_rules.specs.ped_laws.specs.Acts.Sets.{wants}
use Rattle.ped_rules.specs.ped_laws.proofs.ActLaws.Lists.{first_in, second_in}
use Rattle.ped_rules.specs.ped_laws.specs.Runs.Replaying.{goes_on, finish_of, Replays}
use Rattle.ped_rules.specs.ped_laws.specs.Runs.Showing.{shown_at_end}
use Rattle.ped_rules.specs.ped_laws.proofs.FlowRunLaws.Stopping.{fitting_stops, loop_stops}
use Rattle.ped_rules.specs.ped_eval.specs.Scopes.{Setting, Scope}
use Rattle.ped_rules.specs.ped_eval.specs.Runs.{Run, run, run_all}
use Rattle.ped_rules.specs.ped_eval.specs.Outcomes.{bounds_of, setting_of, run_of, IsRaceFree}
use Rattle.ped_rules.specs.ped_symbols.proofs.RightUseLaws.Whole.{same_values}
use Rattle.ped_rules.specs.ped_flow.specs.Questions.{LoopOf}
use Rattle.ped_rules.specs.ped_steps.specs.Replacing.{alone}
use Rattle.ped_rules.specs.ped_steps.specs.Runs.Gaps.{number_at}
use Rattle.ped_rules.specs.ped_steps.specs.Runs.Meaning.{Keeps}
use Rattle.ped_rules.specs.ped_steps.specs.Runs.Renumbering.{renumbered}
use Rattle.ped_rules.specs.ped_weaves.specs.Sources.{RaceSomewhere}
use Rattle.ped_rules.specs.ped_weaves.proofs.WeaveLaws.RaceSources.{pairs_free}
use Rattle.ped_rules.specs.ped_bodies.specs.Likewise.{IsOnlyTold}
use Rattle.ped_rules.specs.ped_bodies.specs.Moving.{is_cell_among}
use Rattle.ped_rules.specs.ped_loop_runs.specs.Executions.{IsExecuted}
use Rattle.ped_rules.specs.ped_loop_runs.specs.Pasting.{DoInstead, StandInstead, AreExchanged}
use Rattle.ped_rules.specs.ped_loop_runs.specs.Meaning.{RaceFreeInstead, IsExchange}
use Rattle.ped_rules.specs.ped_loop_runs.specs.Statements.{GivesWay}
use Rattle.ped_rules.specs.ped_loop_runs.proofs.PastingLaws.KeptMeaning.{wanted_suit, exchange_keeps}
use Rattle.ped_rules.specs.ped_loop_runs.proofs.PastingLaws.OneStatement.{gives_way}
use Rattle.ped_rules.specs.ped_loop_runs.proofs.LoopLaws.OneForOneStands.{run_alone}
use Rattle.ped_rules.specs.ped_loop_runs.proofs.LoopLaws.RacesByReferences.{by_references, told_is_unreferred}
use Rattle.ped_reindex.proofs.SkewedActs.{valueless, AreSameTurns, AreKept, IsKeptAccess, acts_themselves, kept_append, access_kept}
use Rattle.ped_reindex.proofs.SkewedLoops.{same_loops}
use Rattle.ped_rules.proofs.NestLaws.OnlyBodies.{only_counted}
use Rattle.ped_reindex.proofs.SkewedStands.{IsInnerChange, stands_instead, does_instead, kept_instead}

-- values of DO variables don't tell whether two places are apart
apart_valueless : (is ks : List Turn) → are_apart is ks ≡ are_apart (map valueless is) (map valueless ks)
apart_valueless [] ks = refl
apart_valueless (i ∷ is) [] = refl
apart_valueless (i ∷ is) (k ∷ ks) = λ z. (i.statement == k.statement) && (if i.number == k.number then apart_valueless is ks z else i.parallel)

apart_alike : (is js ks ms : List Turn) → AreSameTurns is js → AreSameTurns ks ms → are_apart is ks ≡ are_apart js ms
apart_alike is js ks ms h k = apart_valueless is ks ∙ (λ z. are_apart (h z) (k z)) ∙ sym (apart_valueless js ms)

module _ (t u : ProgramTree) (l : ℕ) (loop : LoopOf t l) (g h : Head) (inside others other_body : StmtTrees) (x : IsInnerChange t u l loop g h inside others other_body) where
  abbrev p : Setting
  p = setting_of t

  abbrev q : Setting
  q = renumbered (λ n. n) (setting_of u)

  abbrev idle : Cell → Bool
  idle = is_cell_among (loop_variables (Do loop.head loop.body))

  abbrev old : StmtTrees
  old = alone (Do loop.head loop.body)

  abbrev new : StmtTrees
  new = alone (Do loop.head other_body)

  abbrev by : StmtTree → StmtTrees
  by s = alone (Do loop.head other_body)

  abbrev start : List ℕ → Store
  start data_bytes = store_at_start (lines data_bytes)

  abbrev fresh : Scope → Store → List Act
  fresh scope s = (run_all p (alone (Do loop.head other_body)) l scope s).acts

  abbrev count : ℕ
  count = statements_count (alone (Do loop.head loop.body))

  way : GivesWay by l (Do loop.head loop.body) t
  way = gives_way by l (Do loop.head loop.body) t loop.is

  abbrev first : ℕ
  first = number_at way.gap 1

  decls : u.decls ≡ t.decls
  decls = ap (λ (v : ProgramTree). v.decls) x.new

  -- both programs are run by one setting
  setting : setting_of u ≡ p
  setting = λ i. record { bounds = λ y. bounds_of (x.kinds y i); constants = same_values t u (sym decls) i; number = λ n. n }

  same_setting : q ≡ p
  same_setting = ap (renumbered (λ n. n)) setting

  indices : (y : List ℕ) → is_among y (all_loop_variables new) ≡ is_among y (all_loop_variables old)
  indices y = λ i. is_among y ((loop.head.variable ∷ same_loops p g h inside others x.variable x.private x.parallel x.loops idle loop.body other_body x.only x.new_only i) ++ [])

  as_many : statements_count new ≡ statements_count old
  as_many = let one = only_counted g inside loop.body x.only in let two = only_counted h others other_body x.new_only in let same = x.counted in omega (arith, one, two, same)

  module _ (data_bytes : List ℕ) (free : IsRaceFree t data_bytes) where
    module _ (scope : Scope) (front behind : List Act) (s : Store) (executed : IsExecuted p t (start data_bytes) l count scope front (run_all p old l scope s).acts behind s) (goes : finish_of (run_all p old l scope s).ending ≡ goes_on) where
      executed_alone : IsExecuted p t (start data_bytes) l count scope front (run p (Do loop.head loop.body) l scope s).acts behind s
      executed_alone = subst (λ (r : Run). IsExecuted p t (start data_bytes) l count scope front r.acts behind s) (run_alone p (Do loop.head loop.body) l scope s) executed

      goes_alone : finish_of (run p (Do loop.head loop.body) l scope s).ending ≡ goes_on
      goes_alone = ap (λ (r : Run). finish_of r.ending) (sym (run_alone p (Do loop.head loop.body) l scope s)) ∙ goes

      new_acts : fresh scope s ≡ (run p (Do loop.head other_body) l scope s).acts
      new_acts = ap (λ (r : Run). r.acts) (run_alone p (Do loop.head other_body) l scope s)

      replayed : Replays (run_all p new l scope) (fresh scope s) goes_on
      replayed =
          subst (λ (f : Store → Run). Replays f (fresh scope s) goes_on) (sym (λ i v. run_alone p (Do loop.head other_body) l scope v i))
          (subst (λ (acts : List Act). Replays (run p (Do loop.head other_body) l scope) acts goes_on) (sym new_acts) (does_instead t u l loop g h inside others other_body x data_bytes free.0 scope front behind s executed_alone goes_alone))

      stood : StandsFor (record { agreed = wants (shown_at_end t) ((run_all p old l scope s).acts ++ behind); old = (run_all p old l scope s).acts; new = fresh scope s }) (wants (shown_at_end t) behind) s
      stood =
          subst (λ (r : Run). StandsFor (record { agreed = wants (shown_at_end t) (r.acts ++ behind); old = r.acts; new = fresh scope s }) (wants (shown_at_end t) behind) s) (sym (run_alone p (Do loop.head loop.body) l scope s))
          (subst (λ (acts : List Act). StandsFor (record { agreed = wants (shown_at_end t) ((run p (Do loop.head loop.body) l scope s).acts ++ behind); old = (run p (Do loop.head loop.body) l scope s).acts; new = acts }) (wants (shown_at_end t) behind) s) (sym new_acts)
          (stands_instead t u l loop g h inside others other_body x data_bytes free.0 scope front behind s executed_alone goes_alone))

      kept : AreKept idle (run_all p old l scope s).acts (fresh scope s)
      kept =
          subst (λ (r : Run). AreKept idle r.acts (fresh scope s)) (sym (run_alone p (Do loop.head loop.body) l scope s))
          (subst (AreKept idle (run p (Do loop.head loop.body) l scope s).acts) (sym new_acts) (kept_instead t u l loop g h inside others other_body x data_bytes free.0 scope front behind s executed_alone goes_alone))

    do_instead : DoInstead p q t (start data_bytes) first count (run_all p old first) new fresh
    do_instead =
        subst (λ (r : Setting). DoInstead p r t (start data_bytes) first count (run_all p old first) new fresh) (sym same_setting)
        (subst (λ (k : ℕ). DoInstead p p t (start data_bytes) k count (run_all p old k) new fresh) (sym way.number) replayed)

    stand_instead : StandInstead (wants (shown_at_end t)) p t (start data_bytes) first count (run_all p old first) fresh
    stand_instead = subst (λ (k : ℕ). StandInstead (wants (shown_at_end t)) p t (start data_bytes) k count (run_all p old k) fresh) (sym way.number) stood

    -- all acts of the new run are done as before
    parts_kept : (front : List Act) (parts : List Part) (behind : List Act) (s : Store) → AreExchanged p t (start data_bytes) l count (run_all p old l) fresh front parts behind s → AreKept idle (old_parts parts) (new_parts parts)
    parts_kept front [] behind s exchanged = tt
    parts_kept front (same acts ∷ parts) behind s exchanged = kept_append idle acts acts (old_parts parts) (new_parts parts) (acts_themselves idle acts) (parts_kept (front ++ acts) parts behind (store_after acts s) exchanged)
    parts_kept front (changed olds news ∷ parts) behind s exchanged =
        let it = exchanged.0 in
        kept_append idle olds news (old_parts parts) (new_parts parts)
        (subst (λ (acts : List Act). AreKept idle acts news) (sym it.old_is) (subst (AreKept idle (run_all p old l it.scope s).acts) (sym it.new_is) (kept it.scope front (old_parts parts ++ behind) s it.executed it.goes)))
        (parts_kept (front ++ olds) parts behind (store_after olds s) exchanged.1)

    abbrev olds : List Act
    olds = (run_of t data_bytes).acts

    abbrev news : List Act
    news = (run_of u data_bytes).acts

    -- each access of it is made as before
    module _ (all_kept : AreKept idle olds news) where
      from : (b : Access) → IsIn b (accesses news) → 0 < b.reference → (y : Access) × IsIn y (accesses olds) × IsKeptAccess y b
      from b i some = elim (access_kept idle olds news all_kept b i) [ inl r ↦ r | inr told ↦ absurd (unreferred told) ]
        where
          unreferred : IsOnlyTold news b → ⊥
          unreferred told =
              let none = told_is_unreferred (setting_of u) u.body 1 [] (start data_bytes) told.by told.found told.touch told.among told.manner in
              let is = ap (λ (y : Access). y.reference) told.is in
              omega (arith, none, is, some)

      race_before : (b c : Access) → StandsBefore b c (accesses news) → race b c ≡ true → RaceSomewhere olds
      race_before b c before races =
          let i = first_in b c (accesses news) before in
          let j = second_in b c (accesses news) before in
          let r = by_references u x.new_valid data_bytes b c i j races in
          let y = from b i r.0 in
          let z = from c j r.1 in
          record {
            one = y.0;
            other = z.0;
            one_in = y.1;
            other_in = z.1;
            apart = (
              apart_alike y.0.place.turns b.place.turns z.0.place.turns c.place.turns (sym y.2.turns) (sym z.2.turns) ∙ r.2,
              apart_alike z.0.place.turns c.place.turns y.0.place.turns b.place.turns (sym z.2.turns) (sym y.2.turns) ∙ r.3,
            );
            conflicting = (λ k. same_cell (y.2.cell k) (z.2.cell k) && (y.2.writes k || z.2.writes k)) ∙ r.4;
          }

    races : RaceFreeInstead p t (start data_bytes) l count (run_all p old l) fresh (run_all q u.body 1 [])
    races parts olds_are news_are exchanged none =
        subst (λ (acts : List Act). HasNoRace (accesses acts)) (sym news_are)
        (pairs_free olds news
        (race_before (subst (AreKept idle olds) news_are (subst (λ (acts : List Act). AreKept idle acts (new_parts parts)) olds_are (parts_kept [] parts [] (start data_bytes) exchanged))))
        (subst (λ (acts : List Act). HasNoRace (accesses acts)) olds_are none))

  same_saved : flat_map saved_in u.decls ≡ flat_map saved_in t.decls
  same_saved = ap (λ (ds : List DeclTree). flat_map saved_in ds) decls

  inner_change : (data_bytes : List ℕ) → IsRaceFree t data_bytes → IsExchange way.gap old new t u data_bytes
  inner_change data_bytes free = record {
    saved = same_saved;
    kinds = λ y k. x.kinds y;
    counted = λ n. n;
    told = λ n. n;
    back = record { back = λ n. refl };
    pasted = record {
      old_body = way.old;
      new_body = ap (λ (v : ProgramTree). v.body) x.new ∙ way.new;
      bounds = λ y k. ap (λ (r : Setting). r.bounds y) (sym setting);
      constants = ap (λ (r : Setting). r.constants) (sym setting);
      one_each = λ m n e. e;
      numbers = record { before = λ k less. refl; behind = λ k less. ap (λ (n : ℕ). first + n + k) as_many };
      some = way.some;
      unstopped = (λ i. loop_stops t l loop (fitting_stops t x.valid.fits) i || false);
      indices = λ k. indices;
    };
    agreed = wants (shown_at_end t);
    suit = wanted_suit (shown_at_end t);
    fresh = fresh;
    instead = do_instead data_bytes free;
    stand = stand_instead data_bytes free;
    free = subst (λ (k : ℕ). RaceFreeInstead p t (start data_bytes) k count (run_all p old k) fresh (run_all q u.body 1 [])) (sym way.number) (races data_bytes free);
  }

  pub inner_keeps : Keeps t u
  inner_keeps = exchange_keeps way.gap old new t u same_saved inner_change
