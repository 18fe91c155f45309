-- What is asked of a DO with constant bounds whose scalar is expanded: the element may stand for the scalar in each iteration, and the last one leaves a number in it.
use Rattle.std.proofs.Common.{◌≡◌, ℕ, suc, ◌≤◌, ℤ, int_le, List, [], ◌∷◌, Bool, true, false, Some, sym, subst, ◌∙◌, arith}
use Rattle.std.specs.Int.{int_min, int_max}
use Rattle.std.specs.Prelude.{unsigned_abs, nat_lt}
use Rattle.std.proofs.lemmas.List.Folds.{list_any-append}
use Rattle.ped_base.specs.Lists.{is_same_text, is_among}
use Rattle.ped_tree.specs.Tree.{Head, StmtTrees, Do, ProgramTree}
use Rattle.ped_tree.specs.Nests.{indices_of}
use Rattle.ped_tree.specs.Constants.ConstantExpressions.{constant_value}
use Rattle.ped_rules.specs.ped_symbols.specs.Kinds.{kind_in, names_of}
use Rattle.ped_rules.specs.ped_symbols.specs.NameRefusals.{IsValid}
use Rattle.ped_rules.specs.ped_symbols.specs.RightUses.RightUses.{is_scalar}
use Rattle.ped_tree.specs.NamesIn.{loop_variables, all_loop_variables}
use Rattle.ped_rules.specs.ped_store.specs.Stores.{Store}
use Rattle.ped_rules.specs.ped_store.specs.Storage.{is_within}
use Rattle.ped_rules.specs.ped_eval.specs.Scopes.{Setting, Scope, names_in}
use Rattle.ped_rules.specs.ped_eval.specs.Loops.{Limits, limits, entered_with, frame, value_in}
use Rattle.ped_rules.specs.ped_eval.specs.Outcomes.{setting_of}
use Rattle.ped_rules.specs.ped_flow.specs.PlainBounds.{nest_round}
use Rattle.ped_rules.specs.ped_flow.specs.Questions.{LoopOf, IsExposed, IsAssignedThrough}
use Rattle.ped_rules.specs.ped_flow.proofs.Truths.{or_none}
use Rattle.ped_rules.specs.ped_laws.specs.FlowRuns.Exits.{IsOneToOne}
use Rattle.ped_rules.specs.ped_laws.proofs.FlowRunLaws.Stopping.{fitting_stops, loop_stops}
use Rattle.ped_rules.specs.ped_steps.specs.Runs.Pasting.{IsPlaceOf}
use Rattle.ped_rules.specs.ped_steps.specs.Runs.Substituting.{MayStandFor}
use Rattle.ped_tree.specs.NamesIn.{private_names_in, all_private_names_in}
use Rattle.ped_rules.specs.ped_steps.specs.Runs.Expanding.{has_iteration, last_value}
use Rattle.ped_rules.specs.ped_steps.proofs.RunLaws.ScalarNames.{scalar_named}
use Rattle.ped_scalar.proofs.ExpandedLoops.{IsEnteredBy, IsKept}
use Rattle.ped_scalar.proofs.StandingElements.{has_more, last_value_is, lies, may_stand_each}
use Rattle.ped_scalar.proofs.LastValues.{last_writes, last_stores}

-- what is private to no DO of a statement is private neither to it nor to one in it
pub private_apart : (x : List ℕ) (h : Head) (body : StmtTrees) → is_among x (private_names_in (Do h body)) ≡ false → (is_among x h.private ≡ false) × (is_among x (all_private_names_in body) ≡ false)
private_apart x h body none = or_none (is_among x h.private) (is_among x (all_private_names_in body)) (sym (list_any-append (is_same_text x) h.private (all_private_names_in body)) ∙ none)

module _ (t : ProgramTree) (valid : IsValid t) (l : ℕ) (loop : LoopOf t l) (x array : List ℕ) (scalar : is_scalar (kind_in t) x ≡ true) (round : is_among x (indices_of (nest_round t l)) ≡ false) (near : is_among x (loop_variables (Do loop.head loop.body)) ≡ false)
    (shared : is_among x (private_names_in (Do loop.head loop.body)) ≡ false) (new : is_among array (names_of t) ≡ false) (q : Setting) (constants : q.constants ≡ (setting_of t).constants) (o : Setting) (one : IsOneToOne o.number)
    (m1 m2 m3 : ℤ) (first : constant_value (setting_of t).constants loop.head.first ≡ Some m1) (last : constant_value (setting_of t).constants loop.head.last ≡ Some m2) (step : constant_value (setting_of t).constants loop.head.step ≡ Some m3) (some : has_iteration m1 m2 m3 ≡ true)
    (within : (k : ℤ) → int_le (int_min m1 (last_value m1 m2 m3)) k ≡ true → int_le k (int_max m1 (last_value m1 m2 m3)) ≡ true → is_within (q.bounds array) (k ∷ []) ≡ true) (live : Bool) where
  abbrev h : Head
  h = loop.head

  abbrev body : StmtTrees
  body = loop.body

  abbrev apart : (is_among x h.private ≡ false) × (is_among x (all_private_names_in body) ≡ false)
  apart = private_apart x h body shared

  pub may : (S : Scope) → IsPlaceOf o t l S → (s : Store) (m : Limits) → IsEnteredBy t l loop x array live (last_value m1 m2 m3) q S s m → let e = entered_with q l h body (limits (names_in q S) h s).seen m in (k : ℕ) → 1 ≤ k → k ≤ e.count → MayStandFor q (frame e k ∷ S) body x array h.variable (value_in e k)
  may S place s m comes = may_stand_each t valid l loop x array scalar round near apart.1 new q constants o one m1 m2 m3 first last step some within S s m comes place

  module _ (in_order : h.parallel ≡ false) (far : nat_lt 2147483647 (unsigned_abs (last_value m1 m2 m3)) ≡ false) (unexposed : (n : ℕ) → IsExposed t l x n → ⊥) (through : IsAssignedThrough t l x) where
    pub kept : (S : Scope) → IsPlaceOf o t l S → (s : Store) (m : Limits) → IsEnteredBy t l loop x array live (last_value m1 m2 m3) q S s m → IsKept q h body l S x array (limits (names_in q S) h s).seen m (last_value m1 m2 m3)
    kept S place s m comes =
        let seen = (limits (names_in q S) h s).seen in
        let more = has_more t valid l loop x array scalar round near apart.1 new q constants o one m1 m2 m3 first last step some within S s m comes in
        let at_last = last_value_is t valid l loop x array scalar round near apart.1 new q constants o one m1 m2 m3 first last step some within S s m comes in
        let count = (entered_with q l h body seen m).count in
        let unnamed = scalar_named t x valid scalar in
        let unstopping = loop_stops t l loop (fitting_stops t valid.fits) in
        let no_loop = (or_none (is_same_text x h.variable) (is_among x (all_loop_variables body)) near).1 in
        record {
          others = more.0;
          some = more.1;
          is_last = at_last;
          near = far;
          within = subst (λ (v : ℤ). is_within (q.bounds array) (v ∷ []) ≡ true) at_last (lies t valid l loop x array scalar round near apart.1 new q constants o one m1 m2 m3 first last step some within S s m comes count (at_least count more.0 more.1) (omega arith));
          writes = λ u goes. last_writes t l loop x array q in_order apart.0 unnamed unstopping no_loop unexposed through S seen m count u goes;
          stores = λ u goes. last_stores t l loop x array q in_order apart.0 unnamed unstopping no_loop unexposed through S seen m count u goes;
        }
      where
        at_least : (n others : ℕ) → n ≡ suc others → 1 ≤ n
        at_least n others e = omega (arith, e)
