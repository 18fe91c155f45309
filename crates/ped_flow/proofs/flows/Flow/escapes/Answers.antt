use Rattle.std.proofs.Common.{arith, subst, sym, Option}
use Rattle.ped_tree.specs.Views.{program_tree, stmt_trees}
use Rattle.ped_tree.specs.Views.{head_of}
use Rattle.ped_flow.specs.Answers.{IsEscape}
use Rattle.ped_flow.specs.declared.flows.Reader.{Reader}
use Rattle.ped_flow.proofs.Skipping.{loop_known, entered_known}
use Rattle.ped_flow.proofs.Answering.{loop_fits}
use Rattle.ped_flow.proofs.Escaping.{escape_is, escape_nowhere}
use Rattle.ped_flow.proofs.flows.Flow.escapes.Goals as goal

pub returns-in-Some : goal.returns-in-Some
returns-in-Some c =
    subst (λ (z : Option Reader). IsEscape (program_tree c.args.self.now.program.now) c.args.loop_number z) (sym c.escaping.ensures)
    (escape_is (program_tree c.args.self.now.program.now) c.args.loop_number (head_of c.in-Some.d.now) (stmt_trees c.in-Some.d.now.body.items) c.in-Some.ensures)

pub returns-in-None : goal.returns-in-None
returns-in-None c = escape_nowhere (program_tree c.args.self.now.program.now) c.args.loop_number c.in-None.ensures

pub escaping-requires-clause-fits : goal.escaping-requires-clause-fits
escaping-requires-clause-fits c =
    let f = loop_fits (program_tree c.args.self.now.program.now) c.args.loop_number (head_of c.in-Some.d.now) (stmt_trees c.in-Some.d.now.body.items) c.in-Some.ensures in
    omega (arith, f, c.requires)

pub escaping-requires-clause-known : goal.escaping-requires-clause-known
escaping-requires-clause-known c =
    let flow = c.args.self.now in
    loop_known flow.places flow.table.items (program_tree flow.program.now) c.args.loop_number (head_of c.in-Some.d.now) (stmt_trees c.in-Some.d.now.body.items) (entered_known flow.places flow.table.items (program_tree flow.program.now).body flow.known) c.in-Some.ensures
