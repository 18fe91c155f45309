-- A run of the program before a step has come to the iterations round the statements in a gap; so has an execution of the program behind it, which has the same DO loops round them.
use Rattle.std.proofs.Common.{◌≡◌, ℕ, List, [], ◌∷◌, ◌++◌, Bool, true, false, Some, refl, sym, ap, subst, ◌∙◌}
use Rattle.std.specs.Prelude.{◌≤◌}
use Rattle.ped_base.specs.Lists.{is_among}
use Rattle.ped_tree.specs.Tree.{Head, StmtTrees, Do, ProgramTree}
use Rattle.ped_tree.specs.Nests.{Loop}
use Rattle.ped_tree.specs.NamesIn.{all_loop_variables}
use Rattle.ped_tree.specs.Numbering.{statement_with}
use Rattle.ped_rules.specs.ped_affine.specs.Ranges as ranges
use Rattle.ped_rules.specs.ped_steps.proofs.RunLaws.SameNames.{inner_alike}
use Rattle.ped_rules.specs.ped_steps.specs.Runs.Pasting.{AreTurnsOf}
use Rattle.ped_rules.specs.ped_loop_runs.proofs.PastingLaws.NestsRound.{variables_behind, variables_last}
use Rattle.ped_rules.specs.ped_loop_runs.proofs.PastingLaws.ToldPlaces.{last_turn, no_turns, same_head}
use Rattle.ped_rules.specs.ped_loop_runs.specs.Executions.{AreEntered}
use Rattle.ped_rules.specs.ped_laws.proofs.ConflictLaws.Scoping.{variables_of, index_untold}
use Rattle.ped_rules.specs.ped_laws.specs.Acts.Fitting.{store_after}
use Rattle.ped_rules.specs.ped_laws.specs.Conflicts.Reaching.{IsStoreIn, Reached}
use Rattle.ped_rules.specs.ped_eval.specs.Evaluation.{Seen, Evaluated}
use Rattle.ped_rules.specs.ped_eval.specs.Loops.{Limits, limits, Entered, entered_with, inner_variables, frame}
use Rattle.ped_rules.specs.ped_eval.specs.Outcomes.{setting_of}
use Rattle.ped_rules.specs.ped_eval.specs.Scopes.{Setting, Frame, Scope, names_in, turns_of}
use Rattle.ped_rules.specs.ped_store.specs.Acts.{Act}
use Rattle.ped_rules.specs.ped_store.specs.Stores.{Store}
use Rattle.ped_splits.proofs.CoverGaps.{AreRoundBoth, IsRoundBoth, last_round}

-- a DO finds the same variables of DO loops in it
same_inner : (parallel : Bool) (body other : StmtTrees) → ((y : List ℕ) → is_among y (all_loop_variables body) ≡ is_among y (all_loop_variables other)) → inner_variables parallel body ≡ inner_variables parallel other
same_inner true body other alike = inner_alike body other alike
same_inner false body other alike = refl

-- so it is entered alike
pub entered_alike : (p q : Setting) → q ≡ p → (n m : ℕ) → m ≡ n → (h d : Head) → d ≡ h → (body other : StmtTrees) → ((y : List ℕ) → is_among y (all_loop_variables other) ≡ is_among y (all_loop_variables body)) → (seen : List Seen) (l : Limits) → entered_with q m d other seen l ≡ entered_with p n h body seen l
entered_alike p q same n m number h d head body other alike seen l =
    (λ i. entered_with (same i) (number i) (head i) other seen l) ∙ ap (λ (inner : List (List ℕ)). with_inner (entered_with p n h body seen l) inner) (same_inner h.parallel other body alike)
  where
    with_inner : Entered → List (List ℕ) → Entered
    with_inner e inner = record e { inner = inner }

module _ (t u : ProgramTree) (same : setting_of u ≡ setting_of t) (new : StmtTrees) (s : ranges.Setting) (acts : List Act) (first : Store) (stored : (front behind : List Act) → acts ≡ front ++ behind → IsStoreIn s first (store_after front first)) where
  -- the iterations are reached, and have the variables of the loops
  pub reached_there : (scope : Scope) (nest : List Loop) → AreEntered (setting_of t) t acts first scope → AreTurnsOf (setting_of t).number nest (turns_of scope) → AreRoundBoth t u new [] nest → Reached u s first nest scope × (variables_of scope ≡ variables_behind [] nest)
  reached_there [] nest entered turns both = let none : nest ≡ [] = no_turns (setting_of t).number nest turns in (none, sym (ap (variables_behind []) none))
  reached_there (f ∷ outer) nest entered turns both =
      let e = entered.0 in
      let l = last_turn (setting_of t).number nest (turns_of outer) f.turn turns in
      let own = last_round t u new [] l.front l.last (subst (AreRoundBoth t u new []) l.is both) in
      let k : IsRoundBoth t u new (variables_behind [] l.front) l.last = own.1 in
      let deeper = reached_there outer l.front entered.1 l.turns own.0 in
      let place : l.last.number ≡ e.number = sym l.statement ∙ ap (λ (g : Frame). g.turn.statement) e.is in
      let both_are : Some (Do l.last.head k.old_body) ≡ Some (Do e.loop.head e.loop.body) = sym k.stood ∙ ap (λ (n : ℕ). statement_with n t) place ∙ e.loop.is in
      let head : l.last.head ≡ e.loop.head = same_head l.last.head e.loop.head k.old_body e.loop.body both_are in
      let body : k.old_body ≡ e.loop.body = cc in
      let enters : entered_with (setting_of u) l.last.number l.last.head k.body e.seen e.bounds ≡ entered_with (setting_of t) e.number e.loop.head e.loop.body e.seen e.bounds =
      entered_alike (setting_of t) (setting_of u) same e.number l.last.number place e.loop.head l.last.head head e.loop.body k.body (λ y. k.variables y ∙ ap (λ (ts : StmtTrees). is_among y (all_loop_variables ts)) body) e.seen e.bounds in (
        (
          l.front,
          l.last,
          l.is,
          record {
            body = k.body;
            stands = k.stands;
            step = k.step;
            private = k.private;
            named = k.named;
            other = index_untold outer l.last.head.variable (ap (is_among l.last.head.variable) deeper.1 ∙ k.other);
            store = e.store;
            within = subst (IsStoreIn s first) (sym e.left) (stored e.front e.behind e.whole);
            seen = e.seen;
            bounds = e.bounds;
            comes = (λ i. (limits (names_in (same i) outer) (head i) e.store).result) ∙ ap (λ (z : Evaluated Limits). z.result) e.come;
            turn = e.turn;
            from = e.from;
            to = subst (λ (z : Entered). e.turn ≤ z.count) (sym enters) e.to;
            is = e.is ∙ ap (λ (z : Entered). frame z e.turn) (sym enters);
          },
          deeper.0,
        ),
        (λ i. (ap (λ (g : Frame). g.variable) e.is ∙ ap (λ (g : Head). g.variable) (sym head)) i ∷ deeper.1 i) ∙ sym (variables_last [] l.front l.last) ∙ ap (variables_behind []) (sym l.is),
      )
