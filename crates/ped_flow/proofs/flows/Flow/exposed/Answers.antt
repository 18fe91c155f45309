use Rattle.std.proofs.Common.{◌+◌, arith}
use Rattle.ped_tree.specs.Views.{program_tree, stmt_trees}
use Rattle.ped_tree.specs.Views.{head_of}
use Rattle.ped_flow.specs.Kept.{name_of, constants_of}
use Rattle.ped_flow.proofs.Skipping.{asked_known, loop_known, entered_known}
use Rattle.ped_flow.proofs.Answering.{exposed_answer, exposed_nowhere, loop_fits}
use Rattle.ped_flow.proofs.flows.Flow.exposed.Goals as goal

pub returns-in-Some : goal.returns-in-Some
returns-in-Some c =
    exposed_answer (program_tree c.args.self.now.program.now) c.args.loop_number c.args.name.now (name_of c.scalar_of-scalar.result) (constants_of c.scalar_of-scalar.result) (head_of c.in-Some.d.now) (stmt_trees c.in-Some.d.now.body.items)
    c.exposed_in.result c.scalar_of-scalar.ensures.name c.scalar_of-scalar.ensures.constants c.in-Some.ensures c.exposed_in.ensures

pub returns-in-None : goal.returns-in-None
returns-in-None c = exposed_nowhere (program_tree c.args.self.now.program.now) c.args.loop_number c.args.name.now c.in-None.ensures

pub exposed_in-requires-clause-few : goal.exposed_in-requires-clause-few
exposed_in-requires-clause-few c =
    let f = loop_fits (program_tree c.args.self.now.program.now) c.args.loop_number (head_of c.in-Some.d.now) (stmt_trees c.in-Some.d.now.body.items) c.in-Some.ensures in
    omega (arith, f, c.requires)

pub exposed_in-requires-clause-known : goal.exposed_in-requires-clause-known
exposed_in-requires-clause-known c =
    let flow = c.args.self.now in
    asked_known c.scalar_of-scalar.result flow.places flow.table.items (stmt_trees c.in-Some.d.now.body.items) (c.args.loop_number + 1) c.scalar_of-scalar.ensures.places c.scalar_of-scalar.ensures.table
    (loop_known flow.places flow.table.items (program_tree flow.program.now) c.args.loop_number (head_of c.in-Some.d.now) (stmt_trees c.in-Some.d.now.body.items) (entered_known flow.places flow.table.items (program_tree flow.program.now).body flow.known) c.in-Some.ensures)
