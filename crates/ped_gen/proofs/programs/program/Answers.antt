use Rattle.std.proofs.Common.{◌+◌, ap, ◌∙◌, List, ℕ, ◌++◌, arith}
use Rattle.ped_gen.specs.Generated as Spec
use Rattle.ped_gen.proofs.Texts.{left_from, last, one_more, at_end, program_left}
use Rattle.ped_gen.proofs.programs.program.Goals as goal

pub loop-nest-init : goal.loop-nest-init
loop-nest-init c =
    ap (λ (t : List ℕ). t ++ left_from Spec.later_nest last 1 (c.args.nests + 1)) (c.in_ok-push_front.ensures ∙ ap (λ (t : List ℕ). t ++ Spec.text_of Spec.front) c.new-text.ensures)
    ∙ program_left c.args.nests

pub loop-nest-preserved : goal.loop-nest-preserved
loop-nest-preserved c =
    one_more Spec.later_nest last c.loop-nest.nest (c.args.nests + 1) c.loop-nest.text c.push_nest.new.text (Spec.program c.args.nests)
    (let h = c.loop-nest-test.true in omega (arith, h)) c.in_ok-push_nest.ensures c.loop-nest.invariant

pub returns : goal.returns
returns c =
    c.in_ok-extend_from_slice.ensures.ok
    ∙ at_end Spec.later_nest last c.loop-nest.nest (c.args.nests + 1) c.loop-nest.text (Spec.program c.args.nests)
    (let h = c.loop-nest-test.false in omega (arith, h)) c.loop-nest.invariant
