use Rattle.std.proofs.Common.{◌≡◌, ℕ, List, [], ◌∷◌, length, ◌==◌, true, false, refl, sym, ◌∙◌, subst, arith}
use Rattle.std.proofs.lemmas.Bool.Decides.{nat_tests}
use Rattle.std.proofs.lemmas.Result.{IfOk-weaker}
use Rattle.ped_tree.specs.Views.{program_tree}
use Rattle.ped_eval.specs.Outcomes.{Outcome}
use Rattle.ped_order.specs.ped_interleavings.specs.Interleavings.{at_start, IsInterleaved}
use Rattle.ped_session.proofs.running.run_program.Goals as goal

no_choices : (cs : List ℕ) → (length cs == 0) ≡ true → cs ≡ []
no_choices [] h = refl
no_choices (c ∷ cs) h = let some : (length (c ∷ cs) == 0) ≡ false = grind (arith, nat_tests) in absurd cc

pub returns-then-is_empty : goal.returns-then-is_empty
returns-then-is_empty c =
    let t = program_tree c.args.program.now in
    let d = c.args.input.now in
    let choices = c.args.choices.now in
    let (o, comes) = c.an_interleaving.ensures t (at_start t d choices) in
    let in_order = c.without_choices.ensures t d o (subst (λ (cs : List ℕ). IsInterleaved t d cs o) (no_choices choices (sym c.is_empty.ensures ∙ c.if-is_empty.true)) comes) in
    IfOk-weaker c.run_in_order.result _ _ (λ found is. subst (λ (x : Outcome). IsInterleaved t d choices x) (in_order ∙ sym is) comes) c.run_in_order.ensures
