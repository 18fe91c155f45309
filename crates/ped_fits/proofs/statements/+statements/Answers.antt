use Rattle.std.proofs.Common.{◌≡◌, true, rules}
use Rattle.ped_tree.specs.Views.{stmt_trees}
use Rattle.ped_tree.specs.declared.statements.Stmt.{the_lemmas}
use Rattle.ped_tree.specs.Grammar.Fits.{loop_fits}
use Rattle.ped_fits.specs.Surroundings.{place}
use Rattle.ped_tree.specs.Views.{head_of}
use Rattle.ped_fits.proofs.Limits.{has_room}
use Rattle.ped_fits.proofs.statements.+statements.Goals as goal

pub statement_fits-body_fits-requires : goal.statement_fits-body_fits-requires
statement_fits-body_fits-requires t c =
    let d = c.in-Do.d in
    let fits : loop_fits (place c.args.around.now c.args.before) (head_of d) (stmt_trees d.body.items) ≡ true = search (rules, c.loop_fits.ensures, c.if-not-loop_fits.false, c.if-not-loop_fits.ensures) in
    let room = has_room (place c.args.around.now c.args.before) (head_of d) (stmt_trees d.body.items) fits in
    (search (rules, the_lemmas), (c.requires.around, (room.0, (room.1, room.2))))
