use Rattle.std.proofs.Common.{option_map}
use Rattle.std.proofs.lemmas.Result.{on_ok_weaker}
use Rattle.ped_tree.specs.Views.{program_tree}
use Rattle.ped_auto.specs.ped_rules.specs.ped_steps.specs.CodeCauses.{cause_of}
use Rattle.ped_transformations.proofs.AdviceLines.{line_told}
use Rattle.ped_transformations.proofs.advising.push_line.Goals as goal

pub push_verdict-requires : goal.push_verdict-requires
push_verdict-requires g c = c.in_ok-found.ensures.1

pub returns : goal.returns
returns g c =
    on_ok_weaker c.push.result
    (λ last. line_told (program_tree c.args.scene.now.tree.now) c.args.command.now.statement c.args.words.now c.args.command.now.step (option_map cause_of c.in_ok-found.found) _ _ _ _ c.in_ok-found.ensures.0 c.in_ok-extend_from_slice.ensures.ok c.in_ok-push_verdict.ensures last)
    c.push.ensures.ok
