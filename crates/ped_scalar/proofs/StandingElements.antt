-- An element may stand for a scalar in the body of a DO with constant bounds.
use Rattle.std.proofs.Common.{◌≡◌, ℕ, suc, ◌≤◌, ℤ, int_le, List, [], ◌∷◌, ◌++◌, Bool, true, false, Some, None, sym, ap, ◌∙◌, if◌then◌else◌}
use Rattle.std.specs.Int.{int_min, int_max}
use Rattle.ped_base.specs.Lists.{is_same_text, is_among}
use Rattle.ped_tree.specs.Tree.{ExprTree, Head, StmtTrees, Do, ProgramTree}
use Rattle.ped_tree.specs.Nests.{indices_of}
use Rattle.ped_tree.specs.Constants.NamedConstants.{value_named}
use Rattle.ped_tree.specs.Constants.ConstantExpressions.{constant_value}
use Rattle.ped_base.proofs.NameEquality.{same_itself}
use Rattle.ped_rules.specs.ped_symbols.specs.Sites.{statement, private_site, stmts_sites}
use Rattle.ped_rules.specs.ped_symbols.specs.Kinds.{kind_in, names_of}
use Rattle.ped_rules.specs.ped_symbols.specs.NameRefusals.{IsValid}
use Rattle.ped_rules.specs.ped_symbols.specs.RightUses.RightUses.{is_scalar}
use Rattle.ped_rules.specs.ped_symbols.proofs.RightUseLaws.Whole.{names_occur}
use Rattle.ped_tree.specs.NamesIn.{loop_variables, all_loop_variables}
use Rattle.ped_rules.specs.ped_store.specs.Stores.{Store}
use Rattle.ped_rules.specs.ped_store.specs.Storage.{is_within}
use Rattle.ped_rules.specs.ped_eval.specs.Scopes.{Setting, Scope, names_in, index_value}
use Rattle.ped_rules.specs.ped_eval.specs.Evaluation.{Seen}
use Rattle.ped_rules.specs.ped_eval.specs.Loops.{Limits, limits, Entered, entered_with, frame, value_in}
use Rattle.ped_rules.specs.ped_eval.specs.Outcomes.{setting_of}
use Rattle.ped_rules.specs.ped_flow.specs.PlainBounds.{nest_round}
use Rattle.ped_rules.specs.ped_flow.specs.Questions.{LoopOf}
use Rattle.ped_rules.specs.ped_flow.proofs.Truths.{or_none}
use Rattle.ped_rules.specs.ped_laws.specs.FlowRuns.Exits.{IsOneToOne}
use Rattle.ped_rules.specs.ped_steps.specs.Runs.Pasting.{IsPlaceOf}
use Rattle.ped_rules.specs.ped_steps.specs.Runs.Substituting.{MayStandFor}
use Rattle.ped_tree.specs.NamesIn.{all_private_names_in}
use Rattle.ped_rules.specs.ped_steps.specs.Runs.Expanding.{has_iteration, last_value}
use Rattle.ped_rules.specs.ped_steps.proofs.RunLaws.NamesKept.{occurs, occurs_append}
use Rattle.ped_rules.specs.ped_steps.proofs.RunLaws.ScalarNames.{scalar_unvalued}
use Rattle.ped_rules.specs.ped_steps.proofs.RunLaws.ConstantBounds.{others, count_is, last_is, value_lies}
use Rattle.ped_rules.specs.ped_steps.proofs.RunLaws.LoopVariables.{step_not_zero, variable_scalar, variable_outside}
use Rattle.ped_scalar.proofs.ExpandedLoops.{IsEnteredBy}
use Rattle.ped_rules.specs.ped_steps.proofs.RunLaws.UntoldVariables.{untold_at}
use Rattle.ped_rules.specs.ped_steps.proofs.RunLaws.ProgramParts.{not_true, or_right, IsPart, part_at}

module _ (t : ProgramTree) (valid : IsValid t) (l : ℕ) (loop : LoopOf t l) where
  abbrev h : Head
  h = loop.head

  abbrev body : StmtTrees
  body = loop.body

  abbrev p : Setting
  p = setting_of t

  part : IsPart t (Do h body)
  part = part_at t valid l (Do h body) loop.is

  -- a name that doesn't occur in the program doesn't occur in the body
  pub new_in_body : (y : List ℕ) → is_among y (names_of t) ≡ false → occurs y (stmts_sites body) ≡ false
  new_in_body y none = not_true (occurs y (stmts_sites body)) (λ there.
      sym (part.named y (occurs_append y (statement (Do h body) ∷ []) (private_site h.private ++ stmts_sites body)
      ∙ or_right (occurs y (statement (Do h body) ∷ [])) (occurs y (private_site h.private ++ stmts_sites body))
      (occurs_append y (private_site h.private) (stmts_sites body) ∙ or_right (occurs y (private_site h.private)) (occurs y (stmts_sites body)) there)))
      ∙ sym (names_occur t y) ∙ none)

  module _ (x array : List ℕ) (scalar : is_scalar (kind_in t) x ≡ true) (round : is_among x (indices_of (nest_round t l)) ≡ false) (near : is_among x (loop_variables (Do h body)) ≡ false) (shared : is_among x (all_private_names_in body) ≡ false)
      (new : is_among array (names_of t) ≡ false) (q : Setting) (constants : q.constants ≡ p.constants) (o : Setting) (one : IsOneToOne o.number) where
    apart : (is_same_text x h.variable ≡ false) × (is_among x (all_loop_variables body) ≡ false)
    apart = or_none (is_same_text x h.variable) (is_among x (all_loop_variables body)) near

    unvalued : (y : List ℕ) → is_scalar (kind_in t) y ≡ true → value_named q.constants y ≡ None
    unvalued y s = ap (λ (c : List (List ℕ × ℤ)). value_named c y) constants ∙ scalar_unvalued t y s

    -- in an iteration the element at the DO's variable may stand for the scalar
    pub may_stand : (S : Scope) → IsPlaceOf o t l S → (seen : List Seen) (m : Limits) (k : ℕ) → let e = entered_with q l h body seen m in is_within (q.bounds array) (value_in e k ∷ []) ≡ true → MayStandFor q (frame e k ∷ S) body x array h.variable (value_in e k)
    may_stand S place seen m k within = let e = entered_with q l h body seen m in
        record {
          new = new_in_body array new;
          variable = unvalued x scalar;
          unbound = ap (λ (b : Bool). if b then Some (value_in e k) else index_value S x) apart.0 ∙ untold_at t l o one x round S place;
          no_loop = apart.1;
          shared = shared;
          subscript = unvalued h.variable (variable_scalar t valid l loop);
          told = ap (λ (b : Bool). if b then Some (value_in e k) else index_value S h.variable) (same_itself h.variable);
          outside = variable_outside t valid l loop;
          within = within;
        }

    -- so it may in each iteration of a DO with constant bounds, where the array has the values of its variable as subscripts
    module _ (m1 m2 m3 : ℤ) (first : constant_value p.constants h.first ≡ Some m1) (last : constant_value p.constants h.last ≡ Some m2) (step : constant_value p.constants h.step ≡ Some m3) (some : has_iteration m1 m2 m3 ≡ true)
        (within : (k : ℤ) → int_le (int_min m1 (last_value m1 m2 m3)) k ≡ true → int_le k (int_max m1 (last_value m1 m2 m3)) ≡ true → is_within (q.bounds array) (k ∷ []) ≡ true) where
      by_constants : (e : ExprTree) (n : ℤ) → constant_value p.constants e ≡ Some n → constant_value q.constants e ≡ Some n
      by_constants e n h = ap (λ (c : List (List ℕ × ℤ)). constant_value c e) constants ∙ h

      module _ (S : Scope) (s : Store) (m : Limits) (comes : IsEnteredBy t l loop x array true m1 q S s m) where
        abbrev entered : Entered
        entered = entered_with q l h body (limits (names_in q S) h s).seen m

        pub has_more : (n : ℕ) × (entered.count ≡ suc n)
        has_more = (others q h body l m1 m2 m3 (by_constants h.first m1 first) (by_constants h.last m2 last) (by_constants h.step m3 step) (step_not_zero t valid l loop m3 step) some S s m comes, count_is q h body l m1 m2 m3 (by_constants h.first m1 first) (by_constants h.last m2 last) (by_constants h.step m3 step) (step_not_zero t valid l loop m3 step) some S s m comes)

        pub last_value_is : value_in entered entered.count ≡ last_value m1 m2 m3
        last_value_is = last_is q h body l m1 m2 m3 (by_constants h.first m1 first) (by_constants h.last m2 last) (by_constants h.step m3 step) (step_not_zero t valid l loop m3 step) some S s m comes

        pub lies : (k : ℕ) → 1 ≤ k → k ≤ entered.count → is_within (q.bounds array) (value_in entered k ∷ []) ≡ true
        lies k from to =
            let v = value_lies q h body l m1 m2 m3 (by_constants h.first m1 first) (by_constants h.last m2 last) (by_constants h.step m3 step) (step_not_zero t valid l loop m3 step) some S s m comes k from to in
            within (value_in entered k) v.0 v.1

        pub may_stand_each : IsPlaceOf o t l S → (k : ℕ) → 1 ≤ k → k ≤ entered.count → MayStandFor q (frame entered k ∷ S) body x array h.variable (value_in entered k)
        may_stand_each place k from to = may_stand S place (limits (names_in q S) h s).seen m k (lies k from to)
