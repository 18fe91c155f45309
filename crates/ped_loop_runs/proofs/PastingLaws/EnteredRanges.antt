-- In a run of a valid program the iterations round an execution are in the nest of the loops round it, at values in their ranges.
use Rattle.std.proofs.Common.{◌≡◌, ℕ, ℤ, pos, List, [], ◌∷◌, ◌++◌, true, inl, Option, Some, None, refl, sym, ap, subst, ◌∙◌, append_assoc}
use Rattle.std.specs.Prelude.{unwrap_or}
use Rattle.std.specs.Map.{lookup}
use Rattle.std.specs.Str.Lines.{lines}
use Rattle.ped_bodies.specs.ped_flow.specs.ped_base.specs.Lists.{is_same_text, is_among}
use Rattle.ped_bodies.specs.ped_views.specs.declared.intervals.Interval.{Interval}
use Rattle.ped_bodies.specs.ped_views.specs.Intervals.{Lies}
use Rattle.ped_bodies.specs.ped_flow.specs.ped_tree.specs.Tree.{Head, Do, ProgramTree}
use Rattle.ped_bodies.specs.ped_flow.specs.ped_tree.specs.Nests.{Loop}
use Rattle.ped_bodies.specs.ped_flow.specs.ped_tree.specs.Numbering.{all_numbered, statement_with}
use Rattle.ped_bodies.specs.ped_graph.specs.Dependences.{setting_in}
use Rattle.ped_bodies.specs.ped_symbols.specs.NameRefusals.{IsValid}
use Rattle.ped_bodies.specs.ped_symbols.specs.RightUses.RightLoops.{step_is_right}
use Rattle.ped_bodies.specs.ped_symbols.specs.RightUses.RightPrograms.{IsRight}
use Rattle.ped_bodies.specs.ped_affine.specs.Ranges as ranges
use Rattle.ped_bodies.specs.ped_affine.specs.Ranges.{Around, inside, loop_range}
use Rattle.ped_bodies.specs.ped_affine.specs.PairViews.{heads_of}
use Rattle.ped_bodies.specs.ped_flow.specs.PlainBounds as bounds
use Rattle.ped_bodies.specs.ped_flow.specs.PlainBounds.{nest_round, setting_round, outermost_or}
use Rattle.ped_bodies.specs.ped_store.specs.Stores.{Store, store_at_start}
use Rattle.ped_bodies.specs.ped_store.specs.Acts.{Act}
use Rattle.ped_bodies.specs.ped_eval.specs.Scopes.{Setting, Frame, Scope, turns_of, index_value}
use Rattle.ped_bodies.specs.ped_eval.specs.Evaluation.{Evaluated}
use Rattle.ped_bodies.specs.ped_eval.specs.Loops.{Limits, entered_with, frame}
use Rattle.ped_bodies.specs.ped_eval.specs.Runs.{run}
use Rattle.ped_bodies.specs.ped_eval.specs.Outcomes.{setting_of, run_of}
use Rattle.ped_bodies.specs.ped_laws.specs.Acts.Fitting.{store_after}
use Rattle.ped_bodies.specs.ped_laws.specs.Acts.Orders.{IsIn}
use Rattle.ped_bodies.specs.ped_laws.specs.Covering.Within.{HoldsStorable}
use Rattle.ped_bodies.specs.ped_laws.specs.Covering.Nested.{Match, IsInNest, loop}
use Rattle.ped_bodies.specs.ped_laws.specs.Plain.Executions.{LieInRanges}
use Rattle.ped_bodies.specs.ped_laws.proofs.ActLaws.Lists.{in_left, in_right}
use Rattle.ped_bodies.specs.ped_laws.proofs.ActLaws.Stores.{after_append}
use Rattle.ped_bodies.specs.ped_laws.proofs.ConflictLaws.Scoping.{variables_of, index_untold}
use Rattle.ped_bodies.specs.ped_laws.proofs.CoveringLaws.Comings.{some_one}
use Rattle.ped_bodies.specs.ped_laws.proofs.CoveringLaws.Nesting.{one_deeper}
use Rattle.ped_bodies.specs.ped_steps.specs.Runs.Pasting.{AreTurnsOf}
use Rattle.ped_loop_runs.specs.Executions.{AreEntered, IsExecuted}
use Rattle.ped_loop_runs.specs.Places.{told_at}
use Rattle.ped_loop_runs.proofs.PastingLaws.NestsRound.{IsLoopIn, AreRound, nest_is_round, AreProper, variables_behind, variables_last, proper_parts, nest_is_proper}
use Rattle.ped_loop_runs.proofs.PastingLaws.RunStores.{storable_after, all_storable_after}
use Rattle.ped_loop_runs.proofs.PastingLaws.ToldPlaces.{last_turn, no_turns, same_head}

-- outside all loops
pub in_no_nest : (s : ranges.Setting) (p : Setting) → IsInNest s p [] []
in_no_nest s p = record { iterations = tt; variables = λ x. tt }

module _ (t : ProgramTree) (s : ranges.Setting) (same : (setting_of t).constants ≡ s.constants) where
  abbrev p : Setting
  p = setting_of t

  -- iterations that have been entered in an execution whose stores hold storable numbers
  module _ (acts : List Act) (first : Store) (held : (front behind : List Act) → acts ≡ front ++ behind → HoldsStorable s.loop_variables (store_after front first)) where
    entered_nest : (scope : Scope) (nest : List Loop) → AreEntered p t acts first scope → AreTurnsOf p.number nest (turns_of scope) → ((k : Loop) → IsIn k nest → IsLoopIn t (all_numbered t.body) k) → AreProper t [] nest
        → IsInNest s p nest scope × (variables_of scope ≡ variables_behind [] nest)
    entered_nest [] nest entered turns each proper =
        let none = sym (no_turns p.number nest turns) in
        (subst (λ (ns : List Loop). IsInNest s p ns []) none (in_no_nest s p), ap (variables_behind []) none)
    entered_nest (f ∷ outer) nest entered turns each proper =
        let e = entered.0 in
        let h : Head = e.loop.head in
        let l = last_turn p.number nest (turns_of outer) f.turn turns in
        let own = proper_parts t [] l.front l.last (subst (AreProper t []) l.is proper) in
        let deeper = entered_nest outer l.front entered.1 l.turns (λ k i. each k (subst (IsIn k) (sym l.is) (in_left k l.front (l.last ∷ []) i))) own.0 in
        let k = each l.last (subst (IsIn l.last) (sym l.is) (in_right l.last l.front (l.last ∷ []) (inl refl))) in
        let number : l.last.number ≡ e.number = sym l.statement ∙ ap (λ (g : Frame). g.turn.statement) e.is in
        let head : l.last.head ≡ h = same_head l.last.head h k.body e.loop.body (sym k.stands ∙ ap (λ (n : ℕ). statement_with n t) number ∙ e.loop.is) in
        let is : loop e.number h ≡ l.last = (λ i. record { number = sym number i; head = sym head i }) in
        let untold : index_value outer h.variable ≡ None =
        index_untold outer h.variable (ap (is_among h.variable) deeper.1 ∙ ap (λ (g : Head). is_among g.variable (variables_behind [] l.front)) (sym head) ∙ own.1.other) in
        let step : step_is_right p.constants h.step ≡ true = ap (λ (g : Head). step_is_right p.constants g.step) (sym head) ∙ own.1.step in
        let store : HoldsStorable s.loop_variables e.store = subst (HoldsStorable s.loop_variables) (sym e.left) (held e.front e.behind e.whole) in
        let here = one_deeper s p l.front outer e.store e.number h e.loop.body e.seen e.bounds e.turn same store deeper.0 untold step (ap (λ (z : Evaluated Limits). z.result) e.come) e.from e.to in
        let whole : l.front ++ loop e.number h ∷ [] ≡ nest = ap (λ (m : Loop). l.front ++ m ∷ []) is ∙ sym l.is in (
          subst (λ (g : Frame). IsInNest s p nest (g ∷ outer)) (sym e.is) (subst (λ (ns : List Loop). IsInNest s p ns (frame (entered_with p e.number h e.loop.body e.seen e.bounds) e.turn ∷ outer)) whole here),
          (λ i. (ap (λ (g : Frame). g.variable) e.is ∙ ap (λ (g : Head). g.variable) (sym head)) i ∷ deeper.1 i) ∙ sym (variables_last [] l.front l.last) ∙ ap (variables_behind []) (sym l.is),
        )

  module _ (valid : IsValid t) (right : IsRight t) (data_bytes : List ℕ) where
    abbrev start : Store
    start = store_at_start (lines data_bytes)

    module _ (storable : (front behind : List Act) → (run_of t data_bytes).acts ≡ front ++ behind → HoldsStorable s.loop_variables (store_after front start)) (l count : ℕ) where
      executed_nest : (scope : Scope) (front acts behind : List Act) (u : Store) → IsExecuted p t start l count scope front acts behind u → IsInNest s p (nest_round t l) scope
      executed_nest [] front acts behind u x = subst (λ (ns : List Loop). IsInNest s p ns []) (sym (no_turns p.number (nest_round t l) x.place.turns)) (in_no_nest s p)
      executed_nest (f ∷ fs) front acts behind u x =
          let o = x.outer in
          let r : AreRound t (all_numbered t.body) (nest_round t l) = nest_is_round t l in
          let whole : List Act = (run p (Do o.loop.head o.loop.body) (outermost_or l (nest_round t l)) [] o.first).acts in
          (entered_nest whole o.first
          (λ before after e. subst (HoldsStorable s.loop_variables) (after_append o.execution.front before start ∙ ap (store_after before) (sym o.execution.from))
          (storable (o.execution.front ++ before) (after ++ o.execution.behind)
          (o.execution.is ∙ ap (λ (z : List Act). o.execution.front ++ (z ++ o.execution.behind)) e ∙ ap (λ (z : List Act). o.execution.front ++ z) (append_assoc before after o.execution.behind)
          ∙ sym (append_assoc o.execution.front before (after ++ o.execution.behind)))))
          (f ∷ fs) (nest_round t l) x.entered x.place.turns r.each (nest_is_proper t l valid right)).0

-- the loops round a bound are told in two ways
pub same_around : (s : ranges.Setting) (around : Around) (nest : List Loop) → bounds.around_with s around nest ≡ ranges.around_with s around (heads_of nest)
same_around s around [] = refl
same_around s around (l ∷ ls) = same_around s (inside around l.head (loop_range s around l.head)) ls

matched_lies : (o : Option ℤ) (q : Option Interval) (r : Interval) → Match o q → q ≡ Some r → Lies (unwrap_or o (pos 0)) r
matched_lies (Some n) (Some i) r m e = subst (λ (z : Interval). Lies n z) (some_one i r e) m
matched_lies (Some n) None r m e = absurd m
matched_lies None (Some i) r m e = absurd m
matched_lies None None r m e = absurd cc

module _ (t : ProgramTree) (valid : IsValid t) (right : IsRight t) (data_bytes : List ℕ) (l count : ℕ) (scope : Scope) (front acts behind : List Act) (u : Store) (x : IsExecuted (setting_of t) t (store_at_start (lines data_bytes)) l count scope front acts behind u) where
  pub in_nest_round : IsInNest (setting_round (setting_of t).constants t l) (setting_of t) (nest_round t l) scope
  in_nest_round = executed_nest t (setting_round (setting_of t).constants t l) refl valid right data_bytes (all_storable_after t valid right data_bytes) l count scope front acts behind u x

  pub in_nest_setting : (n : ℕ) → IsInNest (setting_in t n) (setting_of t) (nest_round t l) scope
  in_nest_setting n = executed_nest t (setting_in t n) refl valid right data_bytes (λ before after e. storable_after t valid right data_bytes before after e n) l count scope front acts behind u x

  pub told_lie : LieInRanges (setting_of t).constants t l (told_at scope)
  told_lie y r e =
      matched_lies (index_value scope y) (lookup (is_same_text y) (ranges.around_with (setting_round (setting_of t).constants t l) [] (heads_of (nest_round t l)))) r (in_nest_round.variables y)
      (ap (lookup (is_same_text y)) (sym (same_around (setting_round (setting_of t).constants t l) [] (nest_round t l))) ∙ e)
