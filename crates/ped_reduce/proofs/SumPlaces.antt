-- At a place of a DO of a valid program: the scalars to which sums are added are read from their own cells, no PARALLEL DO is round it, and its variable is in none of its lists.
use Rattle.std.proofs.Common.{◌≡◌, ℕ, List, [], ◌∷◌, Bool, true, false, ℤ, pos, Option, Some, None, arith, ◌&&◌, ◌||◌, refl, sym, ap, ◌∙◌}
use Rattle.std.specs.Prelude.{not, nat_le, length}
use Rattle.std.specs.List.{list_any, list_all}
use Rattle.std.proofs.lemmas.Bool.{and_parts, both_ways, or_parts}
use Rattle.std.specs.Option.{unwrap_or}
use Rattle.std.proofs.lemmas.Int.{ints}
use Rattle.ped_tree.specs.Constants.ConstantExpressions.{constant_value}
use Rattle.ped_rules.specs.ped_eval.specs.Loops.{increment}
use Rattle.std.proofs.lemmas.List.Folds.{list_any-append}
use Rattle.ped_base.specs.Lists.{is_same_text, is_among, has_some}
use Rattle.ped_base.proofs.NameEquality.{same_is, same_itself}
use Rattle.ped_tree.specs.Constants.NamedConstants.{value_named}
use Rattle.ped_tree.specs.Grammar.Fits.{Surroundings, private_fits, loop_fits, stmts_fit, in_loop}
use Rattle.ped_tree.specs.Grammar.LimitNumbers.{most_characters}
use Rattle.ped_tree.specs.Grammar.ProgramRefusals.{meets}
use Rattle.ped_tree.specs.Grammar.StatementForms.{are_names}
use Rattle.ped_tree.specs.Grammar.Words.{is_name}
use Rattle.ped_tree.specs.NamesIn.{loop_variables, all_loop_variables, private_names_in, all_private_names_in}
use Rattle.ped_tree.specs.Nests.{Loop, indices_of}
use Rattle.ped_tree.specs.Printing.{private_text}
use Rattle.ped_tree.specs.Tree.{Head, Do, ProgramTree}
use Rattle.ped_rules.specs.ped_symbols.specs.Kinds.{kind_in, at_last}
use Rattle.ped_rules.specs.ped_symbols.specs.NameRefusals.{IsValid}
use Rattle.ped_rules.specs.ped_symbols.specs.RightUses.RightUses.{is_scalar}
use Rattle.ped_rules.specs.ped_flow.specs.PlainBounds.{nest_round}
use Rattle.ped_rules.specs.ped_flow.specs.Questions.{LoopOf}
use Rattle.ped_rules.specs.ped_steps.specs.Runs.Pasting.{AreTurnsOf, IsPlaceOf}
use Rattle.ped_rules.specs.ped_store.specs.Cells.{Scalar}
use Rattle.ped_rules.specs.ped_store.specs.Acts.{Turn}
use Rattle.ped_rules.specs.ped_laws.specs.Acts.Orders.{IsIn}
use Rattle.ped_rules.specs.ped_eval.specs.Outcomes.{setting_of}
use Rattle.ped_rules.specs.ped_eval.specs.Scopes.{Scope, cell_of, index_value}
use Rattle.ped_rules.specs.ped_steps.proofs.RunLaws.UntoldVariables.{untold_at}
use Rattle.ped_rules.specs.ped_steps.proofs.RunLaws.ProgramParts.{IsPart, part_at}
use Rattle.ped_rules.specs.ped_steps.proofs.RunLaws.LoopVariables.{variable_scalar, step_not_zero}
use Rattle.ped_rules.specs.ped_steps.proofs.RunLaws.OwnCells.{own_cell}
use Rattle.ped_rules.specs.ped_steps.proofs.RunLaws.ScalarNames.{scalar_unvalued}
use Rattle.ped_reduce.proofs.SumTrips.{IsCalm}

-- no turn is one of a PARALLEL DO, where no loop is one
pub calm_turns : (number : ℕ → ℕ) (ls : List Loop) (ts : List Turn) → AreTurnsOf number ls ts → list_any (λ (m : Loop). m.head.parallel) ls ≡ false → IsCalm ts
calm_turns number [] [] h none = refl
calm_turns number [] (t ∷ ts) h none = absurd h
calm_turns number (l ∷ ls) [] h none = refl
calm_turns number (l ∷ ls) (t ∷ ts) h none =
    let parts = or_parts l.head.parallel (list_any (λ (m : Loop). m.head.parallel) ls) none in
    λ i. (h.1 ∙ parts.0) i || calm_turns number ls ts h.2 parts.1 i

-- the variable of a DO isn't in its own PRIVATE list
own_unlisted : (around : Surroundings) (h : Head) → private_fits around h ≡ true → is_among h.variable h.private ≡ false
own_unlisted around h fits = go (has_some h.private) refl fits
  where
    no_meeting : (xs : List (List ℕ)) → meets xs (h.variable ∷ around.variables) ≡ false → is_among h.variable xs ≡ false
    no_meeting [] none = refl
    no_meeting (x ∷ xs) none =
        let parts = or_parts (is_among x (h.variable ∷ around.variables)) (meets xs (h.variable ∷ around.variables)) none in
        let own = or_parts (is_same_text x h.variable) (is_among x around.variables) parts.0 in
        λ i. turned (is_same_text h.variable x) refl own.0 i || no_meeting xs parts.1 i
      where
        turned : (b : Bool) → is_same_text h.variable x ≡ b → is_same_text x h.variable ≡ false → is_same_text h.variable x ≡ false
        turned true e none = absurd (both_ways (is_same_text x h.variable) none (ap (is_same_text x) (same_is h.variable x e) ∙ same_itself x))
        turned false e none = e

    empty : (xs : List (List ℕ)) → has_some xs ≡ false → is_among h.variable xs ≡ false
    empty [] e = refl
    empty (x ∷ xs) e = absurd cc

    not_true : (b : Bool) → not b ≡ true → b ≡ false
    not_true false e = refl
    not_true true e = absurd cc

    go : (b : Bool) → has_some h.private ≡ b → (not b || (are_names h.private && nat_le (length (private_text h.private)) most_characters && not (meets h.private (h.variable ∷ around.variables)))) ≡ true → is_among h.variable h.private ≡ false
    go false e k = empty h.private e
    go true e k = no_meeting h.private (not_true (meets h.private (h.variable ∷ around.variables)) (and_parts (are_names h.private && nat_le (length (private_text h.private)) most_characters) (not (meets h.private (h.variable ∷ around.variables))) k).1)

module _ (t : ProgramTree) (valid : IsValid t) (l : ℕ) (loop : LoopOf t l) where
  abbrev h : Head
  h = loop.head

  its : IsPart t (Do h loop.body)
  its = part_at t valid l (Do h loop.body) loop.is

  pub unlisted : is_among h.variable h.private ≡ false
  unlisted =
      let fit = and_parts (loop_fits its.around h loop.body) (stmts_fit (in_loop its.around h) loop.body) its.fits in
      own_unlisted its.around h (and_parts _ (private_fits its.around h) (and_parts _ (list_all is_name h.rejected) fit.0).0).1

  pub plain : value_named (at_last t).values h.variable ≡ None
  plain = scalar_unvalued t h.variable (variable_scalar t valid l loop)

  -- its increment isn't 0
  pub moves : increment (at_last t).values h ≡ pos 0 → ⊥
  moves = by (constant_value (at_last t).values h.step) refl
    where
      one_some : pos 1 ≡ pos 0 → ⊥
      one_some e = omega (arith, ints, e)

      by : (o : Option ℤ) → constant_value (at_last t).values h.step ≡ o → unwrap_or o (pos 1) ≡ pos 0 → ⊥
      by None q e = one_some e
      by (Some m) q e = step_not_zero t valid l loop m q e

  -- a scalar that is no DO's variable near the DO and private nowhere near, where no PARALLEL DO is round it
  module _ (x : List ℕ) (scalar : is_scalar (kind_in t) x ≡ true) (round : is_among x (indices_of (nest_round t l)) ≡ false) (near : is_among x (loop_variables (Do h loop.body)) ≡ false) (shared : is_among x (private_names_in (Do h loop.body)) ≡ false)
      (shared_round : (n : ℕ) (m : LoopOf t n) → ((k : Loop) × IsIn k (nest_round t l) × (k.number ≡ n)) → is_among x m.head.private ≡ false) (serial_round : (n : ℕ) (m : LoopOf t n) → ((k : Loop) × IsIn k (nest_round t l) × (k.number ≡ n)) → m.head.parallel ≡ false) where
    pub unvalued : value_named (at_last t).values x ≡ None
    unvalued = scalar_unvalued t x scalar

    pub unlike : is_same_text x h.variable ≡ false
    unlike = (or_parts (is_same_text x h.variable) (is_among x (all_loop_variables loop.body)) near).0

    pub unshared : is_among x h.private ≡ false
    unshared = (or_parts (is_among x h.private) (is_among x (all_private_names_in loop.body)) (sym (list_any-append (is_same_text x) h.private (all_private_names_in loop.body)) ∙ shared)).0

    module _ (scope : Scope) (place : IsPlaceOf (setting_of t) t l scope) where
      pub unbound : index_value scope x ≡ None
      unbound = untold_at t l (setting_of t) (λ m n e. e) x round scope place

      pub own : cell_of scope x ≡ Scalar x
      own = own_cell (setting_of t) t (λ m n e. e) l x shared_round (λ n m k parallel. absurd (both_ways m.head.parallel (serial_round n m k) parallel)) scope place
