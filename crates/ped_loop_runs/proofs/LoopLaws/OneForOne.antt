-- A program in which a DO has given way to one with the same iterations keeps its meaning.
use Rattle.std.proofs.Common.{◌≡◌, ℕ, List, [], ◌∷◌, ◌++◌, Bool, true, false, ◌||◌, refl, sym, ap, subst, ◌∙◌, inl, inr}
use Rattle.std.specs.Str.Lines.{lines}
use Rattle.std.specs.List.{flat_map}
use Rattle.ped_bodies.specs.ped_flow.specs.ped_base.specs.Lists.{is_among}
use Rattle.ped_bodies.specs.ped_flow.specs.ped_tree.specs.Tree.{Head, StmtTree, StmtTrees, Do, DeclTree, ProgramTree}
use Rattle.ped_bodies.specs.ped_flow.specs.ped_tree.specs.NamesIn.{saved_in, all_loop_variables}
use Rattle.ped_bodies.specs.ped_flow.specs.ped_tree.specs.Numbering.{statements_count}
use Rattle.ped_bodies.specs.ped_flow.specs.Questions.{LoopOf}
use Rattle.ped_bodies.specs.ped_symbols.proofs.RightUseLaws.Whole.{same_values}
use Rattle.ped_bodies.specs.ped_store.specs.Stores.{Store, store_at_start}
use Rattle.ped_bodies.specs.ped_store.specs.Acts.{Act}
use Rattle.ped_bodies.specs.ped_laws.specs.Acts.Pieces.{StandsFor}
use Rattle.ped_bodies.specs.ped_laws.specs.Acts.Sets.{wants}
use Rattle.ped_bodies.specs.ped_laws.specs.Runs.Replaying.{goes_on, finish_of, Replays}
use Rattle.ped_bodies.specs.ped_laws.specs.Runs.Showing.{shown_at_end}
use Rattle.ped_bodies.specs.ped_laws.proofs.FlowRunLaws.Stopping.{fitting_stops, loop_stops}
use Rattle.ped_bodies.specs.ped_laws.proofs.ConflictLaws.CoveringRuns.{MakingLaw, SequenceLaw}
use Rattle.ped_bodies.specs.ped_eval.specs.Scopes.{Setting, Scope}
use Rattle.ped_bodies.specs.ped_eval.specs.Runs.{Run, run, run_all}
use Rattle.ped_bodies.specs.ped_eval.specs.Outcomes.{bounds_of, setting_of, run_of, IsRaceFree}
use Rattle.ped_bodies.specs.ped_steps.specs.Replacing.{alone}
use Rattle.ped_bodies.specs.ped_steps.specs.Runs.Gaps.{number_at}
use Rattle.ped_bodies.specs.ped_steps.specs.Runs.Meaning.{Keeps}
use Rattle.ped_bodies.specs.ped_steps.specs.Runs.Renumbering.{renumbered}
use Rattle.ped_bodies.specs.ped_graph.specs.Dependences.{AreEdges}
use Rattle.ped_bodies.specs.ped_edges.specs.Edges.{Edge}
use Rattle.ped_loop_runs.specs.Carried.{NoneMeetOn}
use Rattle.ped_loop_runs.specs.Executions.{IsExecuted}
use Rattle.ped_loop_runs.specs.Pasting.{DoInstead, StandInstead}
use Rattle.ped_loop_runs.specs.Meaning.{RaceFreeInstead, KeepsOn, IsExchange}
use Rattle.ped_loop_runs.specs.Statements.{GivesWay}
use Rattle.ped_loop_runs.proofs.PastingLaws.KeptMeaning.{wanted_suit, keeps_always, exchange_keeps_on}
use Rattle.ped_loop_runs.proofs.PastingLaws.OneStatement.{gives_way}
use Rattle.ped_loop_runs.specs.OneForOne.{IsReordered, IsOneForOne, IsMadeInstead}
use Rattle.ped_loop_runs.proofs.LoopLaws.OneForOneStands.{run_alone, stands_instead, does_instead, made_instead}
use Rattle.ped_loop_runs.proofs.LoopLaws.RacesInOrder.{races_in_order}
use Rattle.ped_loop_runs.proofs.LoopLaws.RacesReversed.{races_reversed}

module _ (making : MakingLaw) (sequence : SequenceLaw) (t u : ProgramTree) (l : ℕ) (loop : LoopOf t l) (h : Head) where
  abbrev p : Setting
  p = setting_of t

  abbrev q : Setting
  q = renumbered (λ n. n) (setting_of u)

  abbrev old : StmtTrees
  old = alone (Do loop.head loop.body)

  abbrev new : StmtTrees
  new = alone (Do h loop.body)

  abbrev by : StmtTree → StmtTrees
  by s = alone (Do h loop.body)

  abbrev start : List ℕ → Store
  start data_bytes = store_at_start (lines data_bytes)

  abbrev fresh : Scope → Store → List Act
  fresh scope s = (run_all p (alone (Do h loop.body)) l scope s).acts

  abbrev count : ℕ
  count = statements_count (alone (Do loop.head loop.body))

  way : GivesWay by l (Do loop.head loop.body) t
  way = gives_way by l (Do loop.head loop.body) t loop.is

  abbrev first : ℕ
  first = number_at way.gap 1

  module _ (reversed : Bool) (x : IsOneForOne t u l loop h reversed) where
    decls : u.decls ≡ t.decls
    decls = ap (λ (v : ProgramTree). v.decls) x.new

    -- both programs are run by one setting
    setting : setting_of u ≡ p
    setting = λ i. record { bounds = λ y. bounds_of (x.kinds y i); constants = same_values t u (sym decls) i; number = λ n. n }

    same_setting : q ≡ p
    same_setting = ap (renumbered (λ n. n)) setting

    one_run : (data_bytes : List ℕ) → run_all q u.body 1 [] (start data_bytes) ≡ run_of u data_bytes
    one_run data_bytes = refl

    same_saved : flat_map saved_in u.decls ≡ flat_map saved_in t.decls
    same_saved = ap (λ (ds : List DeclTree). flat_map saved_in ds) decls

    module _ (data_bytes : List ℕ) (none : IsReordered loop.head h reversed → (edges : List Edge) → AreEdges t edges → NoneMeetOn t edges data_bytes l loop.body) (free : IsRaceFree t data_bytes) where
      module _ (scope : Scope) (front behind : List Act) (s : Store) (executed : IsExecuted p t (start data_bytes) l count scope front (run_all p old l scope s).acts behind s) (goes : finish_of (run_all p old l scope s).ending ≡ goes_on) where
        executed_alone : IsExecuted p t (start data_bytes) l count scope front (run p (Do loop.head loop.body) l scope s).acts behind s
        executed_alone = subst (λ (r : Run). IsExecuted p t (start data_bytes) l count scope front r.acts behind s) (run_alone p (Do loop.head loop.body) l scope s) executed

        goes_alone : finish_of (run p (Do loop.head loop.body) l scope s).ending ≡ goes_on
        goes_alone = ap (λ (r : Run). finish_of r.ending) (sym (run_alone p (Do loop.head loop.body) l scope s)) ∙ goes

        made : IsMadeInstead p loop.head h loop.body l reversed scope s
        made = made_instead making sequence t u l loop h reversed x data_bytes (λ turned. none (inl turned)) free.0 scope front behind s executed_alone goes_alone

        new_acts : fresh scope s ≡ (run p (Do h loop.body) l scope s).acts
        new_acts = ap (λ (r : Run). r.acts) (run_alone p (Do h loop.body) l scope s)

        replayed : Replays (run_all p new l scope) (fresh scope s) goes_on
        replayed =
            subst (λ (f : Store → Run). Replays f (fresh scope s) goes_on) (sym (λ i v. run_alone p (Do h loop.body) l scope v i))
            (subst (λ (acts : List Act). Replays (run p (Do h loop.body) l scope) acts goes_on) (sym new_acts) (does_instead making sequence t u l loop h reversed x data_bytes (λ turned. none (inl turned)) free.0 scope front behind s executed_alone goes_alone))

        stood : StandsFor (record { agreed = wants (shown_at_end t) ((run_all p old l scope s).acts ++ behind); old = (run_all p old l scope s).acts; new = fresh scope s }) (wants (shown_at_end t) behind) s
        stood =
            subst (λ (r : Run). StandsFor (record { agreed = wants (shown_at_end t) (r.acts ++ behind); old = r.acts; new = fresh scope s }) (wants (shown_at_end t) behind) s) (sym (run_alone p (Do loop.head loop.body) l scope s))
            (subst (λ (acts : List Act). StandsFor (record { agreed = wants (shown_at_end t) ((run p (Do loop.head loop.body) l scope s).acts ++ behind); old = (run p (Do loop.head loop.body) l scope s).acts; new = acts }) (wants (shown_at_end t) behind) s) (sym new_acts)
            (stands_instead making sequence t u l loop h reversed x data_bytes (λ turned. none (inl turned)) free.0 scope front behind s executed_alone goes_alone))

      do_instead : DoInstead p q t (start data_bytes) first count (run_all p old first) new fresh
      do_instead =
          subst (λ (r : Setting). DoInstead p r t (start data_bytes) first count (run_all p old first) new fresh) (sym same_setting)
          (subst (λ (k : ℕ). DoInstead p p t (start data_bytes) k count (run_all p old k) new fresh) (sym way.number) replayed)

      stand_instead : StandInstead (wants (shown_at_end t)) p t (start data_bytes) first count (run_all p old first) fresh
      stand_instead = subst (λ (k : ℕ). StandInstead (wants (shown_at_end t)) p t (start data_bytes) k count (run_all p old k) fresh) (sym way.number) stood

      exchange : RaceFreeInstead p t (start data_bytes) l count (run_all p old l) fresh (run_all q u.body 1 []) → IsExchange way.gap old new t u data_bytes
      exchange races = record {
        saved = same_saved;
        kinds = λ y k. x.kinds y;
        counted = λ n. n;
        told = λ n. n;
        back = record { back = λ n. refl };
        pasted = record {
          old_body = way.old;
          new_body = ap (λ (v : ProgramTree). v.body) x.new ∙ way.new;
          bounds = λ y k. ap (λ (r : Setting). r.bounds y) (sym setting);
          constants = ap (λ (r : Setting). r.constants) (sym setting);
          one_each = λ m n e. e;
          numbers = record { before = λ k less. refl; behind = λ k less. refl };
          some = way.some;
          unstopped = (λ i. loop_stops t l loop (fitting_stops t x.valid.fits) i || false);
          indices = λ k y i. is_among y ((x.variable i ∷ all_loop_variables loop.body) ++ []);
        };
        agreed = wants (shown_at_end t);
        suit = wanted_suit (shown_at_end t);
        fresh = fresh;
        instead = do_instead;
        stand = stand_instead;
        free = subst (λ (k : ℕ). RaceFreeInstead p t (start data_bytes) k count (run_all p old k) fresh (run_all q u.body 1 [])) (sym way.number) races;
      }

  module _ (data_bytes : List ℕ) where
    pub one_keeps_on : (reversed : Bool) → IsOneForOne t u l loop h reversed → (IsReordered loop.head h reversed → (edges : List Edge) → AreEdges t edges → NoneMeetOn t edges data_bytes l loop.body) → IsRaceFree t data_bytes → KeepsOn t u data_bytes
    one_keeps_on true x none free = exchange_keeps_on way.gap old new t u data_bytes free (exchange true x data_bytes none free (λ parts olds_are news_are exchanged. races_reversed t u l loop h x data_bytes (made true x data_bytes none free) parts olds_are exchanged news_are))
    one_keeps_on false x none free = exchange_keeps_on way.gap old new t u data_bytes free
        (exchange false x data_bytes none free (λ parts olds_are news_are exchanged. races_in_order making sequence t u l loop h x data_bytes (λ became. none (inr became)) (made false x data_bytes none free) parts olds_are exchanged news_are))

  pub one_keeps : (reversed : Bool) → IsOneForOne t u l loop h reversed → ((data_bytes : List ℕ) → IsReordered loop.head h reversed → (edges : List Edge) → AreEdges t edges → NoneMeetOn t edges data_bytes l loop.body) → Keeps t u
  one_keeps reversed x none = keeps_always t u (same_saved reversed x) (λ data_bytes. one_keeps_on data_bytes reversed x (none data_bytes))
