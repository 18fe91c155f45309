use Rattle.std.proofs.Common.{Some, rules, sym, ap, ◌∙◌}
use Rattle.std.specs.Int.{w128}
use Rattle.std.specs.Int.RustNames.{FitsSigned}
use Rattle.std.proofs.lemmas.Int.{to_z-of_z}
use Rattle.ped_eval.proofs.ConstantLists.{named_found, named_passed}
use Rattle.ped_eval.proofs.named.constant_in_line.Goals as goal

pub returns-in-Some : goal.returns-in-Some
returns-in-Some c =
    let fits : FitsSigned w128 c.in-Some.value = search rules in
    ap Some (to_z-of_z w128 c.in-Some.value fits)
    ∙ named_found c.args.consts.now c.loop-place.place c.in_ok-constant.constant c.args.name.now c.in-Some.value c.in_ok-constant.ensures (sym c.in-Some.is ∙ c.value_under.ensures)
    ∙ c.loop-place.invariant

pub loop-place-preserved : goal.loop-place-preserved
loop-place-preserved c =
    named_passed c.args.consts.now c.loop-place.place c.in_ok-constant.constant c.args.name.now c.in_ok-constant.ensures (sym c.in_default.is ∙ c.value_under.ensures)
    ∙ c.loop-place.invariant
