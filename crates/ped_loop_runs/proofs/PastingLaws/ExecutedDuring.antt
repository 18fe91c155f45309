-- What is done in a DO, or by it, is done while the outermost DO is executed.
use Rattle.std.proofs.Common.{◌≡◌, ℕ, List, [], ◌∷◌, ◌++◌, Result, Ok, Err, Some, refl, sym, ap, subst, ◌∙◌, append_assoc, append-nil, arith, ◌≤◌, ◌+◌}
use Rattle.ped_bodies.specs.ped_flow.specs.ped_tree.specs.Tree.{Head, StmtTrees, Do, ProgramTree}
use Rattle.ped_bodies.specs.ped_flow.specs.ped_tree.specs.Numbering.{statement_with, statements_count}
use Rattle.ped_bodies.specs.ped_flow.specs.PlainBounds.{nest_round, outermost_or}
use Rattle.ped_bodies.specs.ped_flow.specs.Questions.{LoopOf}
use Rattle.ped_bodies.specs.ped_store.specs.Stores.{Store}
use Rattle.ped_bodies.specs.ped_store.specs.Acts.{Act, Place, entered, store_behind}
use Rattle.ped_bodies.specs.ped_eval.specs.Scopes.{Setting, Frame, Scope, names_in, place_of}
use Rattle.ped_bodies.specs.ped_eval.specs.Evaluation.{Seen}
use Rattle.ped_bodies.specs.ped_eval.specs.Loops.{Limits, limits, Entered, entered_with, entry_touches}
use Rattle.ped_bodies.specs.ped_eval.specs.Runs.{Run, on_value, run_entered, run_from_entry, run, run_all}
use Rattle.ped_bodies.specs.ped_eval.specs.Outcomes.{Ends}
use Rattle.ped_bodies.specs.ped_laws.specs.Acts.Fitting.{store_after}
use Rattle.ped_bodies.specs.ped_laws.specs.FlowRuns.Entries.{IsEntry}
use Rattle.ped_bodies.specs.ped_laws.specs.Plain.Executions.{IsDuring}
use Rattle.ped_bodies.specs.ped_laws.specs.Runs.Replaying.{act}
use Rattle.ped_bodies.specs.ped_laws.proofs.ActLaws.Stores.{after_append}
use Rattle.ped_bodies.specs.ped_steps.specs.Runs.Pasting.{IsPlaceOf, IsPartOf, IsDone}
use Rattle.ped_loop_runs.specs.Places.{AreDuring}
use Rattle.ped_loop_runs.proofs.PastingLaws.ToldPlaces.{no_turns}

-- acts that begin with the entry of a DO
record BeginsByEntry (p : Setting) (n : ℕ) (scope : Scope) (acts : List Act) : Type 0 where
  first : Act
  more : List Act
  is : acts ≡ first ∷ more
  count : ℕ
  enters : first.step ≡ entered count
  place : first.place ≡ place_of p n scope

module _ (p : Setting) (n : ℕ) (scope : Scope) (h : Head) (b : StmtTrees) (s : Store) where
  abbrev From : List Seen → Result Limits ℕ → Run
  From seen r = on_value (place_of p n scope) seen r (λ seen l. run_from_entry seen (entered_with p n h b seen l) scope (place_of p n scope) (λ f. run_all p b (n + 1) (f ∷ scope)) s)

  begins_from : (seen : List Seen) (r : Result Limits ℕ) → Ends (From seen r).ending → BeginsByEntry p n scope (From seen r).acts
  begins_from seen (Ok l) ends =
      let e : Entered = entered_with p n h b seen l in
      record {
        first = act (entered e.count) (place_of p n scope) (entry_touches seen e scope);
        more = (run_entered e.head.parallel e.count e scope (place_of p n scope) (λ f. run_all p b (n + 1) (f ∷ scope)) (store_behind (entry_touches seen e scope) s)).acts;
        is = refl;
        count = e.count;
        enters = refl;
        place = refl;
      }
  begins_from seen (Err fault) ends = absurd ends

  -- a DO that ends begins with its entry
  begins : Ends (run p (Do h b) n scope s).ending → BeginsByEntry p n scope (run p (Do h b) n scope s).acts
  begins ends = begins_from (limits (names_in p scope) h s).seen (limits (names_in p scope) h s).result ends

module _ (p : Setting) (t : ProgramTree) (start : Store) (l : ℕ) where
  abbrev most : ℕ
  most = outermost_or l (nest_round t l)

  -- the execution of an outermost DO begins with its entry
  module _ (o : LoopOf t most) (from : most ≤ l) (to : l ≤ most + statements_count o.body) (first : Store) (execution : IsPartOf (run_all p t.body 1 [] start).acts start (run p (Do o.head o.body) most [] first).acts first) (ends : Ends (run p (Do o.head o.body) most [] first).ending) where
    abbrev Outer : List Act
    Outer = (run p (Do o.head o.body) most [] first).acts

    entry : IsEntry p t start l execution.front
    entry =
        let e = begins p most [] o.head o.body first ends in
        record {
          act = e.first;
          behind = e.more ++ execution.behind;
          whole = execution.is ∙ ap (λ (z : List Act). execution.front ++ (z ++ execution.behind)) e.is;
          count = e.count;
          enters = e.enters;
          outermost = ap (λ (z : Place). z.turns) e.place;
          number = most;
          loop = o;
          is = ap (λ (z : Place). z.statement) e.place;
          from = from;
          to = to;
        }

    within : (acts : List Act) (u : Store) → IsPartOf Outer first acts u → AreDuring p t start l acts u
    within acts u part = record {
      front = execution.front;
      entry = entry;
      during = λ done left e. subst (λ (z : Store). IsDuring p t l z (store_after done u)) execution.from (record {
        loop = o;
        done = part.front ++ done;
        left = left ++ part.behind;
        whole = part.is ∙ ap (λ (z : List Act). part.front ++ (z ++ part.behind)) e ∙ ap (λ (z : List Act). part.front ++ z) (append_assoc done left part.behind) ∙ sym (append_assoc part.front done (left ++ part.behind));
        after = ap (store_after done) part.from ∙ sym (after_append part.front done first);
      });
    }

  pub inside_outermost : (f : Frame) (scope : Scope) (acts : List Act) (u : Store) → IsDone p t start l (f ∷ scope) acts u → AreDuring p t start l acts u
  inside_outermost f scope acts u d = let x = d.outer in within x.loop x.from x.to x.first x.execution x.ends acts u x.part

  -- a DO that is the outermost one
  module _ (loop : LoopOf t l) (u : Store) (none : nest_round t l ≡ []) where
    same_number : l ≡ most
    same_number = ap (outermost_or l) (sym none)

    by_itself : IsDone p t start l [] (run p (Do loop.head loop.body) l [] u).acts u → Ends (run p (Do loop.head loop.body) l [] u).ending → AreDuring p t start l (run p (Do loop.head loop.body) l [] u).acts u
    by_itself d ends =
        let run_is : run p (Do loop.head loop.body) l [] u ≡ run p (Do loop.head loop.body) most [] u = ap (λ (k : ℕ). run p (Do loop.head loop.body) k [] u) same_number in
        let o : LoopOf t most = record { head = loop.head; body = loop.body; is = subst (λ (k : ℕ). statement_with k t ≡ Some (Do loop.head loop.body)) same_number loop.is } in
        let acts_are : (run p (Do loop.head loop.body) l [] u).acts ≡ (run p (Do loop.head loop.body) most [] u).acts = ap (λ (r : Run). r.acts) run_is in
        let same = same_number in
        within o (omega (arith, same)) (omega (arith, same)) u (subst (λ (z : List Act). IsPartOf (run_all p t.body 1 [] start).acts start z u) acts_are d.part)
        (subst (λ (r : Run). Ends r.ending) run_is ends) (run p (Do loop.head loop.body) l [] u).acts u
        (record { front = []; behind = []; is = sym acts_are ∙ sym (append-nil (run p (Do loop.head loop.body) l [] u).acts); from = refl })

  pub whole_outermost : (loop : LoopOf t l) (scope : Scope) (u : Store) → IsPlaceOf p t l scope → IsDone p t start l scope (run p (Do loop.head loop.body) l scope u).acts u → Ends (run p (Do loop.head loop.body) l scope u).ending → AreDuring p t start l (run p (Do loop.head loop.body) l scope u).acts u
  whole_outermost loop [] u place d ends = by_itself loop u (no_turns p.number (nest_round t l) place.turns) d ends
  whole_outermost loop (f ∷ fs) u place d ends = inside_outermost f fs (run p (Do loop.head loop.body) l (f ∷ fs) u).acts u d
