-- A program in which a DO is taken apart keeps its meaning: on data on which no rejected dependence occurs, and so on all data where it has no C$PED REJECT.
use Rattle.std.proofs.Common.{◌≡◌, ℕ, ◌+◌, ◌≤◌, List, [], ◌++◌, length, append-nil, Bool, false, ◌||◌, refl, sym, ap, subst, ◌∙◌, arith}
use Rattle.std.specs.Str.Lines.{lines}
use Rattle.ped_base.specs.Lists.{is_among, is_same_text}
use Rattle.ped_tree.proofs.NameLaws.Collected.{among_append}
use Rattle.ped_tree.specs.Tree.{StmtTree, StmtTrees, Do, ProgramTree}
use Rattle.ped_tree.specs.NamesIn.{all_loop_variables, loop_variables}
use Rattle.ped_tree.specs.Numbering.{statement_count, statements_count}
use Rattle.ped_rules.specs.OnlyLoops.{on_loop}
use Rattle.ped_rules.specs.ped_loop_runs.proofs.LoopLaws.OneForOneStands.{run_alone}
use Rattle.ped_rules.specs.ped_loop_runs.proofs.PastingLaws.CountedNumbers.{count_alike, told_back}
use Rattle.ped_rules.specs.ped_loop_runs.proofs.PastingLaws.KeptMeaning.{apart_suit, exchange_keeps_on, keeps_always}
use Rattle.ped_rules.specs.ped_loop_runs.proofs.PastingLaws.OneStatement.{gives_way}
use Rattle.ped_rules.specs.ped_loop_runs.specs.Executions.{IsExecuted}
use Rattle.ped_rules.specs.ped_loop_runs.specs.Meaning.{IsExchange, KeepsOn, RaceFreeInstead}
use Rattle.ped_rules.specs.ped_loop_runs.specs.Numbers.{counted_by, told_by}
use Rattle.ped_rules.specs.ped_loop_runs.specs.Pasting.{CountAlike, DoInstead, StandInstead}
use Rattle.ped_rules.specs.ped_loop_runs.specs.Statements.{GivesWay}
use Rattle.ped_rules.specs.ped_loop_runs.specs.TrueRejections.{IsTrueOn}
use Rattle.ped_rules.specs.ped_loop_runs.specs.Unrejected.{some_rejection}
use Rattle.ped_rules.specs.ped_steps.specs.Replacing.{alone, program_with}
use Rattle.ped_rules.specs.ped_steps.specs.Runs.Gaps.{number_at}
use Rattle.ped_rules.specs.ped_steps.specs.Runs.Meaning.{Keeps}
use Rattle.ped_rules.specs.ped_steps.specs.Runs.Renumbering.{renumbered}
use Rattle.ped_rules.specs.ped_flow.proofs.Answering.{loop_fits}
use Rattle.ped_rules.specs.ped_flow.specs.Questions.{LoopOf}
use Rattle.ped_rules.specs.ped_laws.proofs.ConflictLaws.CoveringRuns.{MakingLaw, SequenceLaw}
use Rattle.ped_rules.specs.ped_laws.proofs.FlowRunLaws.Stopping.{fitting_stops, loop_stops}
use Rattle.ped_rules.specs.ped_laws.specs.Acts.Pieces.{StandsFor}
use Rattle.ped_rules.specs.ped_laws.specs.Runs.Replaying.{Replays, finish_of, goes_on}
use Rattle.ped_rules.specs.ped_laws.specs.Runs.Showing.{shown_at_end}
use Rattle.ped_rules.specs.ped_eval.specs.Outcomes.{IsRaceFree, setting_of}
use Rattle.ped_rules.specs.ped_eval.specs.Runs.{Run, run, run_all}
use Rattle.ped_rules.specs.ped_eval.specs.Scopes.{Scope, Setting}
use Rattle.ped_rules.specs.ped_store.specs.Acts.{Act}
use Rattle.ped_rules.specs.ped_store.specs.Cells.{Cell}
use Rattle.ped_rules.specs.ped_store.specs.Stores.{Store, store_at_start}
use Rattle.ped_rules.specs.ped_symbols.specs.Kinds.{kind_in}
use Rattle.ped_rules.specs.ped_weaves.specs.Apart.{agreed}
use Rattle.ped_rules.proofs.NestLaws.WovenStands.{stands_apart}
use Rattle.ped_splits.proofs.DistributedKinds.{distributed_kinds, distributed_setting}
use Rattle.ped_splits.proofs.DistributeAnswers.{distributed_program}
use Rattle.ped_splits.proofs.DistributeTrusted.{each_placed}
use Rattle.ped_splits.proofs.UnitTests.{only_comment, loops_tell}
use Rattle.ped_splits.proofs.SplitFacts.{IsSplit}
use Rattle.ped_splits.proofs.SplitNumbers.{split_pairs, split_numbers, split_fits, loops_counted}
use Rattle.ped_splits.proofs.SplitStands.{does_split, stands_split}
use Rattle.ped_splits.proofs.SplitRaces.{AreRaceFree, split_races}
use Rattle.ped_splits.proofs.SplitAccesses.{free_split}
use Rattle.ped_splits.specs.Distributing.{loop_sources, loops_of, distributed}

-- it is true what the lines of a program without C$PED REJECT say
abbrev TrueLaw : Type 0
TrueLaw = (t : ProgramTree) (data_bytes : List ℕ) → some_rejection t.body ≡ false → IsTrueOn t data_bytes

module _ (making : MakingLaw) (sequence : SequenceLaw) (t : ProgramTree) (s : ℕ) (l : LoopOf t s) (found : List (List ℕ)) (x : IsSplit t s l found) (data_bytes : List ℕ) (holds : IsTrueOn t data_bytes) (free : IsRaceFree t data_bytes) where
  abbrev p : Setting
  p = setting_of t

  abbrev u : ProgramTree
  u = distributed t s found

  abbrev counted : ℕ → ℕ
  counted = counted_by (split_numbers t s l.body found)

  abbrev q : Setting
  q = renumbered (counted_by (split_numbers t s l.body found)) (setting_of t)

  abbrev old : StmtTrees
  old = alone (Do l.head l.body)

  abbrev new : StmtTrees
  new = loops_of found l.head l.body

  abbrev start : Store
  start = store_at_start (lines data_bytes)

  abbrev fresh : Scope → Store → List Act
  fresh scope v = (run_all q (loops_of found l.head l.body) s scope v).acts

  abbrev count : ℕ
  count = statements_count (alone (Do l.head l.body))

  abbrev apart : Cell → Bool
  apart = stands_apart (loop_variables (Do l.head l.body))

  way : GivesWay (on_loop (loops_of found)) s (Do l.head l.body) t
  way = gives_way (on_loop (loops_of found)) s (Do l.head l.body) t l.is

  abbrev first : ℕ
  first = number_at way.gap 1

  same_program : program_with (λ z. loops_of found l.head l.body) s t ≡ distributed t s found
  same_program = distributed_program t s found l.head l.body (loops_of found l.head l.body) l.is refl

  kinds : (y : List ℕ) → kind_in u y ≡ kind_in t y
  kinds y = ap (λ (v : ProgramTree). kind_in v y) (sym same_program) ∙ distributed_kinds t x.valid s l found x.are x.many y

  setting : setting_of u ≡ setting_of t
  setting = ap setting_of (sym same_program) ∙ distributed_setting t x.valid s l found x.are x.many

  same_setting : renumbered counted (setting_of u) ≡ q
  same_setting = ap (renumbered counted) setting

  module _ (scope : Scope) (front behind : List Act) (v : Store) (executed : IsExecuted p t start s count scope front (run_all p old s scope v).acts behind v) (goes : finish_of (run_all p old s scope v).ending ≡ goes_on) where
    executed_alone : IsExecuted p t start s count scope front (run p (Do l.head l.body) s scope v).acts behind v
    executed_alone = subst (λ (r : Run). IsExecuted p t start s count scope front r.acts behind v) (run_alone p (Do l.head l.body) s scope v) executed

    goes_alone : finish_of (run p (Do l.head l.body) s scope v).ending ≡ goes_on
    goes_alone = ap (λ (r : Run). finish_of r.ending) (sym (run_alone p (Do l.head l.body) s scope v)) ∙ goes

    replayed : Replays (run_all q new s scope) (fresh scope v) goes_on
    replayed = does_split making sequence t s l found x data_bytes holds free.0 scope front behind v executed_alone goes_alone

    stood : StandsFor (record { agreed = agreed apart (shown_at_end t) ((run_all p old s scope v).acts ++ behind); old = (run_all p old s scope v).acts; new = fresh scope v }) (agreed apart (shown_at_end t) behind) v
    stood =
        subst (λ (r : Run). StandsFor (record { agreed = agreed apart (shown_at_end t) (r.acts ++ behind); old = r.acts; new = fresh scope v }) (agreed apart (shown_at_end t) behind) v) (sym (run_alone p (Do l.head l.body) s scope v))
        (stands_split making sequence t s l found x data_bytes holds free.0 scope front behind v executed_alone goes_alone)

    unraced : AreRaceFree t s count scope (run_all p old s scope v).acts (fresh scope v)
    unraced =
        subst (λ (r : Run). AreRaceFree t s count scope r.acts (fresh scope v)) (sym (run_alone p (Do l.head l.body) s scope v))
        (free_split making sequence t s l found x data_bytes holds free.0 scope front behind v executed_alone goes_alone)

  do_instead : DoInstead p (renumbered counted (setting_of u)) t start first count (run_all p old first) new fresh
  do_instead =
      subst (λ (r : Setting). DoInstead p r t start first count (run_all p old first) new fresh) (sym same_setting)
      (subst (λ (k : ℕ). DoInstead p q t start k count (run_all p old k) new fresh) (sym way.number) replayed)

  stand_instead : StandInstead (agreed apart (shown_at_end t)) p t start first count (run_all p old first) fresh
  stand_instead = subst (λ (k : ℕ). StandInstead (agreed apart (shown_at_end t)) p t start k count (run_all p old k) fresh) (sym way.number) stood

  races : RaceFreeInstead p t start s count (run_all p old s) fresh (run_all (renumbered counted (setting_of u)) u.body 1 [])
  races parts olds_are news_are exchanged unraced_before =
      split_races t u counted (told_by (split_numbers t s l.body found)) (told_back (split_numbers t s l.body found)) x.new_valid s old (omega arith) fresh data_bytes unraced parts olds_are exchanged news_are unraced_before

  counts_alike : CountAlike p (renumbered counted (setting_of u)) first (statements_count old) (statements_count new) (statements_count t.body)
  counts_alike =
      subst (λ (k : ℕ). CountAlike p (renumbered counted (setting_of u)) k (statements_count old) (statements_count new) (statements_count t.body)) (sym way.number)
      (subst (λ (k : ℕ). CountAlike p (renumbered counted (setting_of u)) s k (statements_count new) (statements_count t.body)) (let one : statements_count l.body + 1 ≡ statements_count old = omega arith in one)
      (subst (λ (k : ℕ). CountAlike p (renumbered counted (setting_of u)) s (statements_count l.body + 1) k (statements_count t.body)) (sym (loops_counted t s l.head l.body found x.are))
      (count_alike s (statements_count l.body + 1) (length (loop_sources s l.body found)) (statements_count t.body) (split_pairs s (statements_count t.body + 1) (loop_sources s l.body found))
      (split_fits t s l.head l.body found x.are (loop_fits t s l.head l.body l.is)) t u)))

  indices : (y : List ℕ) → is_among y (all_loop_variables new) ≡ is_among y (all_loop_variables old)
  indices y =
      loops_tell (λ ts. is_among y (all_loop_variables ts)) (λ z. is_among y (loop_variables z)) refl (λ z rest. among_append y (loop_variables z) (all_loop_variables rest)) quiet l.head l.body found (omega (arith, many))
      (each_placed t s l.head l.body found x.are) (is_same_text y l.head.variable) (λ b. refl)
      ∙ ap (is_among y) (sym (append-nil (loop_variables (Do l.head l.body))))
    where
      many : 2 ≤ length found
      many = x.many

      quiet : (z : StmtTree) → statement_count z ≡ 0 → is_among y (loop_variables z) ≡ false
      quiet = only_comment (λ z. is_among y (loop_variables z) ≡ false) (λ text. refl)

  exchange : IsExchange way.gap old new t u data_bytes
  exchange = record {
    saved = refl;
    kinds = λ y k. kinds y;
    counted = counted;
    told = told_by (split_numbers t s l.body found);
    back = told_back (split_numbers t s l.body found);
    pasted = record {
      old_body = way.old;
      new_body = way.new;
      bounds = λ y k. ap (λ (r : Setting). r.bounds y) (sym setting);
      constants = ap (λ (r : Setting). r.constants) (sym setting);
      one_each = λ a b e. e;
      numbers = counts_alike;
      some = way.some;
      unstopped = (λ i. loop_stops t s l (fitting_stops t x.valid.fits) i || false);
      indices = λ k. indices;
    };
    agreed = agreed apart (shown_at_end t);
    suit = apart_suit apart (shown_at_end t);
    fresh = fresh;
    instead = do_instead;
    stand = stand_instead;
    free = subst (λ (k : ℕ). RaceFreeInstead p t start k count (run_all p old k) fresh (run_all (renumbered counted (setting_of u)) u.body 1 [])) (sym way.number) races;
  }

  pub distributed_keeps : KeepsOn t (distributed t s found) data_bytes
  distributed_keeps = exchange_keeps_on way.gap old new t u data_bytes free exchange

pub distributed_always : MakingLaw → SequenceLaw → TrueLaw → (t : ProgramTree) (s : ℕ) (l : LoopOf t s) (found : List (List ℕ)) → IsSplit t s l found → some_rejection t.body ≡ false → Keeps t (distributed t s found)
distributed_always making sequence law t s l found x plain = keeps_always t (distributed t s found) refl (λ data_bytes free. distributed_keeps making sequence t s l found x data_bytes (law t data_bytes plain) free)
