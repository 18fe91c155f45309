-- A program in which two DO loops of one variable become one keeps its meaning, on data on which none cross.
use Rattle.std.proofs.Common.{Bool, List, [], ap, arith, false, refl, subst, sym, ℕ, ◌++◌, ◌+◌, ◌<◌, ◌∙◌, ◌≡◌, ◌≤◌}
use Rattle.std.specs.List.{flat_map}
use Rattle.std.specs.Str.Lines.{lines}
use Rattle.ped_tree.specs.NamesIn.{saved_in}
use Rattle.ped_tree.specs.Numbering.{statements_count}
use Rattle.ped_tree.specs.Tree.{DeclTree, Do, ProgramTree, StmtTree, StmtTrees}
use Rattle.ped_rules.proofs.NestLaws.WovenStands.{stands_apart}
use Rattle.ped_rules.specs.ped_loop_runs.proofs.LoopLaws.OneForOneStands.{run_alone}
use Rattle.ped_rules.specs.ped_loop_runs.proofs.PastingLaws.KeptMeaning.{apart_suit, exchange_keeps_on}
use Rattle.ped_rules.specs.ped_loop_runs.specs.Executions.{IsExecuted}
use Rattle.ped_rules.specs.ped_loop_runs.specs.Meaning.{IsExchange, KeepsOn, RaceFreeInstead}
use Rattle.ped_rules.specs.ped_loop_runs.specs.Pasting.{CountAlike, DoInstead, StandInstead}
use Rattle.ped_rules.specs.ped_bodies.specs.Moving.{is_cell_among}
use Rattle.ped_rules.specs.ped_steps.specs.Runs.Gaps.{number_at}
use Rattle.ped_rules.specs.ped_steps.specs.Runs.Renumbering.{renumbered}
use Rattle.ped_rules.specs.ped_laws.specs.Acts.Conflicts.{blocks_conflict_outside}
use Rattle.ped_rules.specs.ped_laws.specs.Acts.Pieces.{StandsFor}
use Rattle.ped_rules.specs.ped_laws.specs.Runs.Replaying.{Replays, finish_of, goes_on}
use Rattle.ped_rules.specs.ped_laws.specs.Runs.Showing.{shown_at_end}
use Rattle.ped_rules.specs.ped_eval.specs.Outcomes.{IsRaceFree, bounds_of, setting_of}
use Rattle.ped_rules.specs.ped_eval.specs.Runs.{Run, run_all}
use Rattle.ped_rules.specs.ped_eval.specs.Scopes.{Scope, Setting}
use Rattle.ped_rules.specs.ped_store.specs.Acts.{Act}
use Rattle.ped_rules.specs.ped_store.specs.Cells.{Cell}
use Rattle.ped_rules.specs.ped_store.specs.Stores.{Store, store_at_start}
use Rattle.ped_rules.specs.ped_symbols.proofs.RightUseLaws.Whole.{same_values}
use Rattle.ped_rules.specs.ped_weaves.specs.Apart.{agreed}
use Rattle.ped_splits.proofs.FuseFacts.{IsFusable, renamed}
use Rattle.ped_splits.proofs.JoinAccesses.{free_joined}
use Rattle.ped_splits.proofs.JoinCrossing.{NoneCrosses}
use Rattle.ped_splits.proofs.JoinFacts.{AreJoined, NoneCross, both_loops, one_body, one_head, one_loop, variables_of}
use Rattle.ped_splits.proofs.JoinNumbers.{counts_alike, opened_back, pair_count}
use Rattle.ped_splits.proofs.JoinSame.{none_stops, same_indices}
use Rattle.ped_splits.proofs.JoinWoven.{joined_stands, one_run}
use Rattle.ped_splits.proofs.CoverFacts.{may_fuse}
use Rattle.ped_splits.proofs.JoinedFacts.{are_joined}
use Rattle.ped_splits.proofs.SplitRaces.{split_races}
use Rattle.ped_splits.specs.Fusing.{Match}
use Rattle.ped_rules.specs.KeepMaps.{closed_up, opened_at}
use Rattle.ped_splits.specs.Neighbours.{fused}
use Rattle.ped_splits.proofs.JoinRuns as runs

module _ (t u : ProgramTree) (s : ℕ) (x : AreJoined t u s) (data_bytes : List ℕ) (cross : NoneCross t u s x data_bytes) (free : IsRaceFree t data_bytes) where
  abbrev p : Setting
  p = setting_of t

  abbrev m : ℕ
  m = s + 1 + statements_count x.own_body

  abbrev q : Setting
  q = renumbered (opened_at (s + 1 + statements_count x.own_body)) (setting_of t)

  abbrev old : StmtTrees
  old = both_loops x

  abbrev new : StmtTrees
  new = one_loop x

  abbrev one_do : StmtTree
  one_do = Do (one_head x) (one_body x)

  abbrev start : Store
  start = store_at_start (lines data_bytes)

  abbrev fresh : Scope → Store → List Act
  fresh scope v = (run_all (renumbered (opened_at (s + 1 + statements_count x.own_body)) (setting_of t)) (one_loop x) s scope v).acts

  abbrev count : ℕ
  count = statements_count (both_loops x)

  abbrev apart : Cell → Bool
  apart = stands_apart (variables_of x)

  abbrev first : ℕ
  first = number_at x.gap 1

  setting : setting_of u ≡ setting_of t
  setting = λ i. record { bounds = λ y. bounds_of (x.kinds y i); constants = same_values t u (sym x.decls) i; number = λ n. n }

  same_setting : renumbered (opened_at m) (setting_of u) ≡ q
  same_setting = ap (renumbered (opened_at m)) setting

  some : 0 < statements_count (both_loops x)
  some = let many = pair_count t u s x in omega (arith, many)

  module _ (scope : Scope) (front behind : List Act) (v : Store) (executed : IsExecuted p t start s count scope front (run_all p old s scope v).acts behind v) (goes : finish_of (run_all p old s scope v).ending ≡ goes_on) where
    abbrev made : List Act
    made = runs.new_acts t u s x data_bytes scope front behind v executed goes

    apart_there : (i j : ℕ) → 1 ≤ j → j < i → i ≤ (runs.e t u s x data_bytes scope front behind v executed goes).count → blocks_conflict_outside (is_cell_among (variables_of x)) (runs.old_part t u s x data_bytes scope front behind v executed goes i 0) (runs.old_part t u s x data_bytes scope front behind v executed goes j 1) ≡ false
    apart_there i j from less to =
        let many = runs.counts t u s x data_bytes scope front behind v executed goes in
        cross free.0 scope front behind v executed goes (runs.old t u s x data_bytes scope front behind v executed goes) (runs.other t u s x data_bytes scope front behind v executed goes) i j from less to (omega (arith, less, to, many))

    made_is : fresh scope v ≡ made
    made_is = ap (λ (r : Run). r.acts) (run_alone q one_do s scope v ∙ one_run t u s x data_bytes free.0 scope front behind v executed goes apart_there)

    replayed : Replays (run_all q new s scope) (fresh scope v) goes_on
    replayed =
        subst (λ (acts : List Act). Replays (run_all q new s scope) acts goes_on) (sym made_is)
        (subst (λ (f : Store → Run). Replays f made goes_on) (sym (λ i w. run_alone q one_do s scope w i)) (runs.one_replays t u s x data_bytes scope front behind v executed goes))

    stood : StandsFor (record { agreed = agreed apart (shown_at_end t) ((run_all p old s scope v).acts ++ behind); old = (run_all p old s scope v).acts; new = fresh scope v }) (agreed apart (shown_at_end t) behind) v
    stood =
        subst (λ (acts : List Act). StandsFor (record { agreed = agreed apart (shown_at_end t) ((run_all p old s scope v).acts ++ behind); old = (run_all p old s scope v).acts; new = acts }) (agreed apart (shown_at_end t) behind) v) (sym made_is)
        (joined_stands t u s x data_bytes free.0 scope front behind v executed goes apart_there)

  do_instead : DoInstead p (renumbered (opened_at m) (setting_of u)) t start first count (run_all p old first) new fresh
  do_instead =
      subst (λ (r : Setting). DoInstead p r t start first count (run_all p old first) new fresh) (sym same_setting)
      (subst (λ (k : ℕ). DoInstead p q t start k count (run_all p old k) new fresh) (sym x.numbered) replayed)

  stand_instead : StandInstead (agreed apart (shown_at_end t)) p t start first count (run_all p old first) fresh
  stand_instead = subst (λ (k : ℕ). StandInstead (agreed apart (shown_at_end t)) p t start k count (run_all p old k) fresh) (sym x.numbered) stood

  races : RaceFreeInstead p t start s count (run_all p old s) fresh (run_all (renumbered (opened_at m) (setting_of u)) u.body 1 [])
  races parts olds_are news_are exchanged unraced_before =
      split_races t u (opened_at m) (closed_up m) (opened_back m) x.new_valid s old some fresh data_bytes
      (λ scope front behind v executed goes. free_joined t u s x data_bytes scope front behind v executed goes (made_is scope front behind v executed goes)) parts olds_are exchanged news_are unraced_before

  exchange : IsExchange x.gap old new t u data_bytes
  exchange = record {
    saved = ap (λ (ds : List DeclTree). flat_map saved_in ds) x.decls;
    kinds = λ y k. x.kinds y;
    counted = opened_at m;
    told = closed_up m;
    back = opened_back m;
    pasted = record {
      old_body = x.stands;
      new_body = x.new_stands;
      bounds = λ y k. ap (λ (r : Setting). r.bounds y) (sym setting);
      constants = ap (λ (r : Setting). r.constants) (sym setting);
      one_each = λ a b same. same;
      numbers = subst (λ (k : ℕ). CountAlike p (renumbered (opened_at m) (setting_of u)) k (statements_count old) (statements_count new) (statements_count t.body)) (sym x.numbered)
          (counts_alike t u s x (statements_count t.body) (renumbered (opened_at m) (setting_of u)) (λ k. refl));
      some = some;
      unstopped = none_stops t u s x;
      indices = λ k. same_indices t u s x;
    };
    agreed = agreed apart (shown_at_end t);
    suit = apart_suit apart (shown_at_end t);
    fresh = fresh;
    instead = do_instead;
    stand = stand_instead;
    free = subst (λ (k : ℕ). RaceFreeInstead p t start k count (run_all p old k) fresh (run_all (renumbered (opened_at m) (setting_of u)) u.body 1 [])) (sym x.numbered) races;
  }

  pub both_keep : KeepsOn t u data_bytes
  both_keep = exchange_keeps_on x.gap old new t u data_bytes free exchange

-- the program in which both have one variable, and the one with the one DO
pub joined_keeps : (t : ProgramTree) (s : ℕ) (m : Match t s) → IsFusable t s m → (data_bytes : List ℕ) → NoneCrosses m.neighbour data_bytes → IsRaceFree (renamed m.neighbour) data_bytes → KeepsOn (renamed m.neighbour) (fused m.neighbour) data_bytes
joined_keeps t s m f data_bytes crossing free = both_keep (renamed m.neighbour) (fused m.neighbour) s (are_joined t s m (may_fuse t s m f)) data_bytes crossing free
