-- Where a bound stands as the code has it, in a program that is the flow's; what the code tells of a bound there, and of both bounds of a DO.
use Rattle.std.proofs.Common.{◌≡◌, ℕ, ◌+◌, ◌<◌, ◌^◌, List, [], Bool, true, false, ◌&&◌, refl, sym, ap, ◌∙◌, subst, inl, inr}
use Rattle.std.specs.Prelude.{◌↔◌}
use Rattle.ped_base.specs.Lists.{is_among}
use Rattle.ped_tree.specs.Names.Collecting.{with_names}
use Rattle.ped_tree.specs.NamesIn.{all_loop_variables}
use Rattle.ped_tree.specs.Nests.{Loop}
use Rattle.ped_tree.specs.Numbering.{statements_count, statement_with}
use Rattle.ped_tree.specs.Tree.{ExprTree, Head, ProgramTree}
use Rattle.ped_tree.proofs.NameLaws.Collected.{among_collected}
use Rattle.ped_loop_runs.specs.ped_steps.proofs.Answering.{few_numbers}
use Rattle.ped_loop_runs.specs.ped_flow.specs.PlainBounds.{Values, nest_round, outermost_or, assigned_by, IsPlain}
use Rattle.ped_loop_runs.specs.ped_symbols.specs.Kinds.{table_of}
use Rattle.ped_loop_runs.specs.ped_symbols.specs.NameRefusals.{IsValid}
use Rattle.ped_rules.specs.Rules.{TellsPlain}

-- the program, and the one that the flow is of
module _ (t u : ProgramTree) (is : u ≡ t) where
  pub few_there : IsValid t → statements_count u.body + 1 < 2 ^ 32
  few_there valid = subst (λ (v : ProgramTree). statements_count v.body + 1 < 2 ^ 32) (sym is) (few_numbers t valid)

  pub round_there : (n : ℕ) (loops : List Loop) → loops ≡ nest_round t n → loops ≡ nest_round u n
  round_there n loops round = round ∙ ap (λ (v : ProgramTree). nest_round v n) (sym is)

  pub variables_there : (names : List (List ℕ)) → names ≡ with_names [] (all_loop_variables t.body) → (x : List ℕ) → is_among x names ≡ is_among x (all_loop_variables u.body)
  variables_there names made x = ap (is_among x) made ∙ among_collected x [] (all_loop_variables t.body) ∙ ap (λ (v : ProgramTree). is_among x (all_loop_variables v.body)) (sym is)

  pub assigned_there : (n : ℕ) (names : List (List ℕ)) → names ≡ with_names [] (assigned_by (statement_with (outermost_or n (nest_round t n)) t)) → (x : List ℕ) → is_among x names ≡ is_among x (assigned_by (statement_with (outermost_or n (nest_round u n)) u))
  assigned_there n names made x =
      ap (is_among x) made
      ∙ among_collected x [] (assigned_by (statement_with (outermost_or n (nest_round t n)) t))
      ∙ ap (λ (v : ProgramTree). is_among x (assigned_by (statement_with (outermost_or n (nest_round v n)) v))) (sym is)

  -- what the code tells of a bound, by the values that it has for the named constants
  pub told_there : (constants : Values) → constants ≡ (table_of t).constants → (n : ℕ) (e : ExprTree) (r : Bool) → ((r ≡ true) ↔ IsPlain constants u n e) → ((r ≡ true) ↔ IsPlain (table_of t).constants t n e)
  told_there constants same n e r f = (λ h. there (f.0 h), λ plain. f.1 (back plain))
    where
      there : IsPlain constants u n e → IsPlain (table_of t).constants t n e
      there plain = subst (λ (vs : Values). IsPlain vs t n e) same (subst (λ (v : ProgramTree). IsPlain constants v n e) is plain)

      back : IsPlain (table_of t).constants t n e → IsPlain constants u n e
      back plain = subst (λ (v : ProgramTree). IsPlain constants v n e) (sym is) (subst (λ (vs : Values). IsPlain vs t n e) (sym same) plain)

-- what the code tells of both bounds of a DO
pub told_of_both : (t : ProgramTree) (n : ℕ) (h : Head) (a b r : Bool) → r ≡ (a && b) → ((a ≡ true) ↔ IsPlain (table_of t).constants t n h.first) → ((b ≡ true) ↔ IsPlain (table_of t).constants t n h.last) → TellsPlain t n h r
told_of_both t n h a b r made f g = by a b r made f g
  where
    by : (x y z : Bool) → z ≡ (x && y) → ((x ≡ true) ↔ IsPlain (table_of t).constants t n h.first) → ((y ≡ true) ↔ IsPlain (table_of t).constants t n h.last) → TellsPlain t n h z
    by true true true e f g = (f.0 refl, g.0 refl)
    by true true false e f g = absurd cc
    by true false true e f g = absurd cc
    by true false false e f g = (h.last, inr refl, λ plain. let clash : false ≡ true = g.1 plain in absurd cc)
    by false y true e f g = absurd cc
    by false y false e f g = (h.first, inl refl, λ plain. let clash : false ≡ true = f.1 plain in absurd cc)
