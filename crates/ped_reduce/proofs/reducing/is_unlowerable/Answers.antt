use Rattle.std.proofs.Common.{sym, ◌∙◌}
use Rattle.ped_tree.specs.Views.{program_tree, stmt_trees, head_of}
use Rattle.ped_rules.specs.ped_steps.proofs.Answering.{few_numbers}
use Rattle.ped_reduce.proofs.UnlowerableAnswers as answers
use Rattle.ped_reduce.proofs.reducing.is_unlowerable.Goals as goal

pub overflow_sub-number : goal.overflow_sub-number
overflow_sub-number g c = answers.numbered (program_tree c.args.scene.now.tree.now) c.args.number (head_of c.args.d.now) (stmt_trees c.args.d.now.body.items) c.requires.is

pub lower_front-requires-clause-inside : goal.lower_front-requires-clause-inside
lower_front-requires-clause-inside g c = answers.there (program_tree c.args.scene.now.tree.now) c.args.number (head_of c.args.d.now) (stmt_trees c.args.d.now.body.items) c.requires.is

pub is_in_live-requires : goal.is_in_live-requires
is_in_live-requires g c = few_numbers (program_tree c.args.scene.now.tree.now) c.requires.scene.valid

pub returns-then-branch : goal.returns-then-branch
returns-then-branch g c =
    answers.in_live (program_tree c.args.scene.now.tree.now) c.args.number (head_of c.args.d.now) (stmt_trees c.args.d.now.body.items) c.requires.is c.args.names.now c.in_ok-lowered.lowered c.in_ok-lowered.ensures.lowers
    (sym c.in_ok-is_in_live.ensures ∙ c.if-branch.true)

pub is_lowerable-requires : goal.is_lowerable-requires
is_lowerable-requires g c =
    let t = program_tree c.args.scene.now.tree.now in
    let h = head_of c.args.d.now in
    let body = stmt_trees c.args.d.now.body.items in
    record {
      small = answers.few t c.args.number h body c.requires.is c.requires.scene.valid;
      from = answers.numbered t c.args.number h body c.requires.is;
      kept = c.in_ok-lowered.ensures.kept;
    }

pub returns : goal.returns
returns g c =
    answers.by_lowering (program_tree c.args.scene.now.tree.now) c.args.number (head_of c.args.d.now) (stmt_trees c.args.d.now.body.items) c.requires.is c.args.names.now c.in_ok-lowered.lowered c.in_ok-lowered.ensures.lowers
    c.requires.new (sym c.in_ok-is_in_live.ensures ∙ c.if-branch.false) c.in_ok-found.found c.in_ok-found.ensures
