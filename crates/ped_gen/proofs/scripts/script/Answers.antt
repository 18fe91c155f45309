use Rattle.std.proofs.Common.{◌+◌, [], ap, sym, ◌∙◌, List, ℕ, ◌++◌, append-nil, arith}
use Rattle.ped_gen.specs.Generated as Spec
use Rattle.ped_gen.proofs.Texts.{left_from, one_more, at_end, script_left}
use Rattle.ped_gen.proofs.scripts.script.Goals as goal

pub loop-nest-init : goal.loop-nest-init
loop-nest-init c =
    ap (λ (t : List ℕ). t ++ left_from Spec.commands [] 1 (c.args.nests + 1)) c.new-text.ensures
    ∙ script_left c.args.nests

pub loop-nest-preserved : goal.loop-nest-preserved
loop-nest-preserved c =
    one_more Spec.commands [] c.loop-nest.nest (c.args.nests + 1) c.loop-nest.text c.push_commands.new.text (Spec.script c.args.nests)
    (let h = c.loop-nest-test.true in omega (arith, h)) c.in_ok-push_commands.ensures c.loop-nest.invariant

pub returns : goal.returns
returns c =
    sym (append-nil c.loop-nest.text)
    ∙ at_end Spec.commands [] c.loop-nest.nest (c.args.nests + 1) c.loop-nest.text (Spec.script c.args.nests)
    (let h = c.loop-nest-test.false in omega (arith, h)) c.loop-nest.invariant
