-- A program in which two loops are in each other's place keeps its meaning.
use Rattle.std.proofs.Common.{append-nil, Some, ◌≡◌, ℕ, ◌+◌, List, [], ◌∷◌, ◌++◌, Bool, true, false, ◌||◌, refl, sym, ap, subst, ◌∙◌, arith}
use Rattle.std.specs.Str.Lines.{lines}
use Rattle.std.specs.List.{flat_map}
use Rattle.ped_base.specs.Lists.{is_same_text, is_among}
use Rattle.ped_tree.specs.Tree.{Head, StmtTree, StmtTrees, Do, DeclTree, ProgramTree}
use Rattle.ped_tree.specs.NamesIn.{saved_in, all_loop_variables, loop_variables}
use Rattle.ped_tree.specs.Numbering.{statements_count}
use Rattle.ped_rules.specs.ped_flow.specs.Questions.{LoopOf}
use Rattle.ped_rules.specs.ped_symbols.proofs.RightUseLaws.Whole.{same_values}
use Rattle.ped_rules.specs.ped_store.specs.Stores.{Store, store_at_start}
use Rattle.ped_rules.specs.ped_store.specs.Acts.{Act}
use Rattle.ped_rules.specs.ped_laws.specs.Acts.Pieces.{StandsFor}
use Rattle.ped_rules.specs.ped_laws.specs.Runs.Replaying.{goes_on, finish_of, Replays}
use Rattle.ped_rules.specs.ped_laws.specs.Runs.Showing.{shown_at_end}
use Rattle.ped_rules.specs.ped_laws.proofs.FlowRunLaws.Stopping.{fitting_stops, loop_stops}
use Rattle.ped_rules.specs.ped_laws.proofs.ConflictLaws.CoveringRuns.{MakingLaw, SequenceLaw}
use Rattle.ped_rules.specs.ped_eval.specs.Scopes.{Setting, Scope}
use Rattle.ped_rules.specs.ped_eval.specs.Runs.{Run, run, run_all}
use Rattle.ped_rules.specs.ped_eval.specs.Outcomes.{bounds_of, setting_of, IsRaceFree}
use Rattle.ped_rules.specs.ped_steps.specs.Replacing.{alone}
use Rattle.ped_rules.specs.ped_steps.specs.Runs.Gaps.{number_at}
use Rattle.ped_rules.specs.ped_steps.specs.Runs.Meaning.{Keeps}
use Rattle.ped_rules.specs.ped_steps.specs.Runs.Renumbering.{renumbered}
use Rattle.ped_rules.specs.ped_loop_runs.specs.Executions.{IsExecuted}
use Rattle.ped_rules.specs.ped_loop_runs.specs.Pasting.{DoInstead, StandInstead}
use Rattle.ped_rules.specs.ped_loop_runs.specs.Meaning.{RaceFreeInstead, KeepsOn, IsExchange}
use Rattle.ped_rules.specs.ped_loop_runs.specs.Statements.{GivesWay}
use Rattle.ped_rules.specs.ped_loop_runs.proofs.PastingLaws.KeptMeaning.{apart_suit, keeps_always, exchange_keeps_on}
use Rattle.ped_rules.specs.ped_loop_runs.proofs.PastingLaws.OneStatement.{gives_way}
use Rattle.ped_rules.specs.ped_loop_runs.proofs.LoopLaws.OneForOneStands.{run_alone}
use Rattle.ped_rules.specs.ped_weaves.specs.Apart.{agreed}
use Rattle.ped_rules.specs.OnlyLoops.{change_only, only_loop}
use Rattle.ped_rules.specs.ped_store.specs.Cells.{Cell}
use Rattle.ped_rules.proofs.NestLaws.OnlyBodies.{pair, only_changed, only_tells, only_counted}
use Rattle.ped_rules.specs.ped_graph.specs.Dependences.{AreEdges}
use Rattle.ped_edges.specs.Edges.{Edge}
use Rattle.ped_rules.proofs.NestLaws.WovenConflicts.{NoneCrossesOn}
use Rattle.ped_rules.proofs.NestLaws.WovenLoops.{AreSwapped}
use Rattle.ped_rules.proofs.NestLaws.WovenStands.{stands_apart, stands_swapped, does_swapped}
use Rattle.ped_rules.proofs.NestLaws.WovenAccesses.{free_swapped}
use Rattle.ped_rules.proofs.NestLaws.ExchangedRaces.{AreRaceFree, exchanged_races}

or_second : (a b c : Bool) → a || (b || c) ≡ b || (a || c)
or_second true true c = refl
or_second true false c = refl
or_second false true c = refl
or_second false false c = refl

module _ (making : MakingLaw) (sequence : SequenceLaw) (t u : ProgramTree) (l : ℕ) (loop : LoopOf t l) (g h k : Head) (inside : StmtTrees) (only : only_loop loop.body ≡ Some (pair g inside)) (x : AreSwapped t u l loop g h k inside only) where
  abbrev p : Setting
  p = setting_of t

  abbrev q : Setting
  q = renumbered (λ n. n) (setting_of u)

  abbrev old_loop : StmtTree
  old_loop = Do loop.head loop.body

  abbrev its_body : StmtTrees
  its_body = change_only (λ f z. Do k z) loop.body

  abbrev new_loop : StmtTree
  new_loop = Do h (change_only (λ f z. Do k z) loop.body)

  abbrev old : StmtTrees
  old = alone (Do loop.head loop.body)

  abbrev new : StmtTrees
  new = alone (Do h (change_only (λ f z. Do k z) loop.body))

  abbrev by : StmtTree → StmtTrees
  by s = alone (Do h (change_only (λ f z. Do k z) loop.body))

  abbrev start : List ℕ → Store
  start data_bytes = store_at_start (lines data_bytes)

  abbrev fresh : Scope → Store → List Act
  fresh scope s = (run_all p (alone (Do h (change_only (λ f z. Do k z) loop.body))) l scope s).acts

  abbrev count : ℕ
  count = statements_count (alone (Do loop.head loop.body))

  abbrev apart : Cell → Bool
  apart = stands_apart (loop_variables (Do loop.head loop.body))

  way : GivesWay by l (Do loop.head loop.body) t
  way = gives_way by l (Do loop.head loop.body) t loop.is

  abbrev first : ℕ
  first = number_at way.gap 1

  decls : u.decls ≡ t.decls
  decls = ap (λ (v : ProgramTree). v.decls) x.new

  -- both programs are run by one setting
  setting : setting_of u ≡ p
  setting = λ i. record { bounds = λ y. bounds_of (x.kinds y i); constants = same_values t u (sym decls) i; number = λ n. n }

  same_setting : q ≡ p
  same_setting = ap (renumbered (λ n. n)) setting

  -- the loops have the same variables, and as many statements
  old_inner : all_loop_variables loop.body ≡ loop_variables (Do g inside)
  old_inner = only_tells g inside loop_variables all_loop_variables (λ (xs ys : List (List ℕ)). xs ++ ys) [] (λ xs. refl) (λ xs. append-nil xs) refl (λ s rest. refl) (λ text. refl) loop.body only

  new_inner : all_loop_variables its_body ≡ loop_variables (Do k inside)
  new_inner = only_tells k inside loop_variables all_loop_variables (λ (xs ys : List (List ℕ)). xs ++ ys) [] (λ xs. refl) (λ xs. append-nil xs) refl (λ s rest. refl) (λ text. refl) its_body (only_changed g inside k loop.body only)

  indices : (y : List ℕ) → is_among y (all_loop_variables new) ≡ is_among y (all_loop_variables old)
  indices y =
      (λ i. is_among y ((x.variable i ∷ new_inner i) ++ []))
      ∙ (λ i. is_among y ((g.variable ∷ (x.inner_variable i ∷ all_loop_variables inside)) ++ []))
      ∙ or_second (is_same_text y g.variable) (is_same_text y loop.head.variable) (is_among y (all_loop_variables inside ++ []))
      ∙ (λ i. is_among y ((loop.head.variable ∷ sym old_inner i) ++ []))

  as_many : statements_count new ≡ statements_count old
  as_many = let one = only_counted g inside loop.body only in let two = only_counted k inside its_body (only_changed g inside k loop.body only) in omega (arith, one, two)

  same_saved : flat_map saved_in u.decls ≡ flat_map saved_in t.decls
  same_saved = ap (λ (ds : List DeclTree). flat_map saved_in ds) decls

  module _ (data_bytes : List ℕ) (uncrossed : (edges : List Edge) → AreEdges t edges → NoneCrossesOn t edges data_bytes l loop.body) (free : IsRaceFree t data_bytes) where
    module _ (scope : Scope) (front behind : List Act) (s : Store) (executed : IsExecuted p t (start data_bytes) l count scope front (run_all p old l scope s).acts behind s) (goes : finish_of (run_all p old l scope s).ending ≡ goes_on) where
      executed_alone : IsExecuted p t (start data_bytes) l count scope front (run p (Do loop.head loop.body) l scope s).acts behind s
      executed_alone = subst (λ (r : Run). IsExecuted p t (start data_bytes) l count scope front r.acts behind s) (run_alone p (Do loop.head loop.body) l scope s) executed

      goes_alone : finish_of (run p (Do loop.head loop.body) l scope s).ending ≡ goes_on
      goes_alone = ap (λ (r : Run). finish_of r.ending) (sym (run_alone p (Do loop.head loop.body) l scope s)) ∙ goes

      new_acts : fresh scope s ≡ (run p new_loop l scope s).acts
      new_acts = ap (λ (r : Run). r.acts) (run_alone p new_loop l scope s)

      replayed : Replays (run_all p new l scope) (fresh scope s) goes_on
      replayed =
          subst (λ (f : Store → Run). Replays f (fresh scope s) goes_on) (sym (λ i v. run_alone p new_loop l scope v i))
          (subst (λ (acts : List Act). Replays (run p new_loop l scope) acts goes_on) (sym new_acts) (does_swapped making sequence t u l loop g h k inside only x data_bytes uncrossed free.0 scope front behind s executed_alone goes_alone))

      stood : StandsFor (record { agreed = agreed apart (shown_at_end t) ((run_all p old l scope s).acts ++ behind); old = (run_all p old l scope s).acts; new = fresh scope s }) (agreed apart (shown_at_end t) behind) s
      stood =
          subst (λ (r : Run). StandsFor (record { agreed = agreed apart (shown_at_end t) (r.acts ++ behind); old = r.acts; new = fresh scope s }) (agreed apart (shown_at_end t) behind) s) (sym (run_alone p (Do loop.head loop.body) l scope s))
          (subst (λ (acts : List Act). StandsFor (record { agreed = agreed apart (shown_at_end t) ((run p (Do loop.head loop.body) l scope s).acts ++ behind); old = (run p (Do loop.head loop.body) l scope s).acts; new = acts }) (agreed apart (shown_at_end t) behind) s) (sym new_acts)
          (stands_swapped making sequence t u l loop g h k inside only x data_bytes uncrossed free.0 scope front behind s executed_alone goes_alone))

      unraced : AreRaceFree t l scope (run_all p old l scope s).acts (fresh scope s)
      unraced =
          subst (λ (r : Run). AreRaceFree t l scope r.acts (fresh scope s)) (sym (run_alone p (Do loop.head loop.body) l scope s))
          (subst (AreRaceFree t l scope (run p (Do loop.head loop.body) l scope s).acts) (sym new_acts) (free_swapped making sequence t u l loop g h k inside only x data_bytes uncrossed free.0 scope front behind s executed_alone goes_alone))

    do_instead : DoInstead p q t (start data_bytes) first count (run_all p old first) new fresh
    do_instead =
        subst (λ (r : Setting). DoInstead p r t (start data_bytes) first count (run_all p old first) new fresh) (sym same_setting)
        (subst (λ (k : ℕ). DoInstead p p t (start data_bytes) k count (run_all p old k) new fresh) (sym way.number) replayed)

    stand_instead : StandInstead (agreed apart (shown_at_end t)) p t (start data_bytes) first count (run_all p old first) fresh
    stand_instead = subst (λ (k : ℕ). StandInstead (agreed apart (shown_at_end t)) p t (start data_bytes) k count (run_all p old k) fresh) (sym way.number) stood

    races : RaceFreeInstead p t (start data_bytes) l count (run_all p old l) fresh (run_all q u.body 1 [])
    races parts olds_are news_are exchanged unraced_before = exchanged_races t u x.valid x.new_valid l old (omega arith) fresh data_bytes unraced parts olds_are exchanged news_are unraced_before

    swapped : IsExchange way.gap old new t u data_bytes
    swapped = record {
      saved = same_saved;
      kinds = λ y k. x.kinds y;
      counted = λ n. n;
      told = λ n. n;
      back = record { back = λ n. refl };
      pasted = record {
        old_body = way.old;
        new_body = ap (λ (v : ProgramTree). v.body) x.new ∙ way.new;
        bounds = λ y k. ap (λ (r : Setting). r.bounds y) (sym setting);
        constants = ap (λ (r : Setting). r.constants) (sym setting);
        one_each = λ m n e. e;
        numbers = record { before = λ k less. refl; behind = λ k less. ap (λ (n : ℕ). first + n + k) as_many };
        some = way.some;
        unstopped = (λ i. loop_stops t l loop (fitting_stops t x.valid.fits) i || false);
        indices = λ k. indices;
      };
      agreed = agreed apart (shown_at_end t);
      suit = apart_suit apart (shown_at_end t);
      fresh = fresh;
      instead = do_instead;
      stand = stand_instead;
      free = subst (λ (k : ℕ). RaceFreeInstead p t (start data_bytes) k count (run_all p old k) fresh (run_all q u.body 1 [])) (sym way.number) races;
    }

    pub swapped_keeps_on : KeepsOn t u data_bytes
    swapped_keeps_on = exchange_keeps_on way.gap old new t u data_bytes free swapped

  pub swapped_keeps : ((data_bytes : List ℕ) (edges : List Edge) → AreEdges t edges → NoneCrossesOn t edges data_bytes l loop.body) → Keeps t u
  swapped_keeps uncrossed = keeps_always t u same_saved (λ data_bytes. swapped_keeps_on data_bytes (uncrossed data_bytes))
