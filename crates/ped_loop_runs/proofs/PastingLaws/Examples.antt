-- The laws of cut and paste at work: a program in which statements give way to themselves shows all that a step has to show.
use Rattle.std.proofs.Common.{◌≡◌, ℕ, ◌<◌, List, [], ◌∷◌, ◌++◌, false, refl, sym, subst, ◌∙◌}
use Rattle.std.specs.Str.Lines.{lines}
use Rattle.ped_bodies.specs.ped_flow.specs.ped_tree.specs.Tree.{StmtTrees, ProgramTree}
use Rattle.ped_bodies.specs.ped_flow.specs.ped_tree.specs.Numbering.{statements_count}
use Rattle.ped_bodies.specs.ped_store.specs.Stores.{Store, store_at_start}
use Rattle.ped_bodies.specs.ped_store.specs.Acts.{Act}
use Rattle.ped_bodies.specs.ped_store.specs.Races.{accesses, HasNoRace}
use Rattle.ped_bodies.specs.ped_laws.specs.Acts.Fitting.{store_after, touches_of, of_cells}
use Rattle.ped_bodies.specs.ped_laws.specs.Acts.Sets.{wants}
use Rattle.ped_bodies.specs.ped_laws.specs.Acts.Pieces.{Part, same, changed, old_parts, new_parts}
use Rattle.ped_bodies.specs.ped_laws.proofs.ActLaws.Renamings.{own_names}
use Rattle.ped_bodies.specs.ped_laws.proofs.ActLaws.Exchanging.{same_stands, needed_wanted, wanted_before}
use Rattle.ped_bodies.specs.ped_laws.specs.FlowRuns.Covering.{some_stop}
use Rattle.ped_bodies.specs.ped_laws.specs.Runs.Showing.{shown_at_end}
use Rattle.ped_bodies.specs.ped_laws.specs.Runs.Replaying.{Finish, Replays}
use Rattle.ped_bodies.specs.ped_laws.proofs.RunLaws.StatementsTold.{all_told}
use Rattle.ped_bodies.specs.ped_eval.specs.Scopes.{Setting, Scope}
use Rattle.ped_bodies.specs.ped_eval.specs.Runs.{run_all}
use Rattle.ped_bodies.specs.ped_eval.specs.Outcomes.{setting_of}
use Rattle.ped_bodies.specs.ped_steps.specs.Runs.Gaps.{Gap, filled, number_at}
use Rattle.ped_bodies.specs.ped_steps.specs.Runs.Meaning.{Keeps}
use Rattle.ped_loop_runs.specs.Pasting.{AreExchanged}
use Rattle.ped_loop_runs.specs.Meaning.{IsExchange}
use Rattle.ped_loop_runs.proofs.PastingLaws.KeptMeaning.{wanted_suit, exchange_keeps}

module _ (gap : Gap) (old : StmtTrees) (t : ProgramTree) (body : t.body ≡ filled gap old) (some : 0 < statements_count old) (stop : some_stop old ≡ false) where
  abbrev p : Setting
  p = setting_of t

  abbrev l : ℕ
  l = number_at gap 1

  -- the acts that the old statements do
  abbrev acts_of : Scope → Store → List Act
  acts_of scope u = (run_all p old l scope u).acts

  same_parts : (start : Store) (front : List Act) (parts : List Part) (behind : List Act) (u : Store) → AreExchanged p t start l (statements_count old) (run_all p old l) acts_of front parts behind u → new_parts parts ≡ old_parts parts
  same_parts start front [] behind u h = refl
  same_parts start front (same acts ∷ parts) behind u h = λ i. acts ++ same_parts start (front ++ acts) parts behind (store_after acts u) h i
  same_parts start front (changed before after ∷ parts) behind u h = λ i. (h.0.new_is ∙ sym h.0.old_is) i ++ same_parts start (front ++ before) parts behind (store_after before u) h.1 i

  itself : (data_bytes : List ℕ) → IsExchange gap old old t t data_bytes
  itself data_bytes = record {
    saved = refl;
    kinds = λ x k. refl;
    counted = λ n. n;
    told = λ n. n;
    back = record { back = λ n. refl };
    pasted = record {
      old_body = body;
      new_body = body;
      bounds = λ x k. refl;
      constants = refl;
      one_each = λ m n e. e;
      numbers = record { before = λ k h. refl; behind = λ k h. refl };
      some = some;
      unstopped = stop;
      indices = λ k x. refl;
    };
    agreed = wants (shown_at_end t);
    suit = wanted_suit (shown_at_end t);
    fresh = acts_of;
    instead = λ scope front behind u x goes. subst (λ (finish : Finish). Replays (run_all p old l scope) (acts_of scope u) finish) goes ((all_told p old l scope).replays u);
    stand = λ scope front behind u x goes.
        same_stands (acts_of scope u) (acts_of scope u) (wants (shown_at_end t) (acts_of scope u ++ behind)) (wants (shown_at_end t) behind) u (own_names (of_cells (touches_of (acts_of scope u)))) ((all_told p old l scope).fits u)
        (needed_wanted (shown_at_end t) (acts_of scope u) behind) (wanted_before (shown_at_end t) (acts_of scope u) behind);
    free = λ parts is same exchanged h. subst (λ (acts : List Act). HasNoRace (accesses acts)) (sym (same_parts (store_at_start (lines data_bytes)) [] parts [] (store_at_start (lines data_bytes)) exchanged)) h;
  }

  -- so it keeps its own meaning
  kept : Keeps t t
  kept = exchange_keeps gap old old t t refl (λ data_bytes free. itself data_bytes)
