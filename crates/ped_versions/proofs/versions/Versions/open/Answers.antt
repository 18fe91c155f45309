use Rattle.std.proofs.Common.{◌≡◌, ◌+◌, ◌≤◌, subst}
use Rattle.ped_tree.specs.Tree.{ProgramTree}
use Rattle.ped_tree.specs.Views.{program_tree}
use Rattle.ped_refs.specs.References.{references, pair_count}
use Rattle.ped_versions.proofs.Accepted.{one_valid, not_both}
use Rattle.ped_versions.proofs.versions.Versions.open.Goals as goal

pub returns-in-Ok-clause-ticks : goal.returns-in-Ok-clause-ticks
returns-in-Ok-clause-ticks g c t reads =
    let same = one_valid c.args.text.now (program_tree c.in_ok-program.program.program) t c.in_ok-program.ensures.tree reads in
    subst (λ (u : ProgramTree). c.begin.new.steps ≡ c.args.steps.now + pair_count (references u)) same c.in-Ok.ensures.ticks

pub returns-in-Ok-clause-most : goal.returns-in-Ok-clause-most
returns-in-Ok-clause-most g c t reads =
    let same = one_valid c.args.text.now (program_tree c.in_ok-program.program.program) t c.in_ok-program.ensures.tree reads in
    subst (λ (u : ProgramTree). c.begin.new.steps ≤ c.args.steps.now + pair_count (references u)) same c.begin.ensures.most

pub returns-in-Err-clause-most : goal.returns-in-Err-clause-most
returns-in-Err-clause-most g c t reads =
    let same = one_valid c.args.text.now (program_tree c.in_ok-program.program.program) t c.in_ok-program.ensures.tree reads in
    subst (λ (u : ProgramTree). c.begin.new.steps ≤ c.args.steps.now + pair_count (references u)) same c.begin.ensures.most

pub returns-in-Ok-clause-none : goal.returns-in-Ok-clause-none
returns-in-Ok-clause-none g c = λ f refused. absurd (not_both c.args.text.now (program_tree c.in_ok-program.program.program) f c.in_ok-program.ensures.tree refused)

pub returns-in-Err-clause-none : goal.returns-in-Err-clause-none
returns-in-Err-clause-none g c = λ f refused. absurd (not_both c.args.text.now (program_tree c.in_ok-program.program.program) f c.in_ok-program.ensures.tree refused)
