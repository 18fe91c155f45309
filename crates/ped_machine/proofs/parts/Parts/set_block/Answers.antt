use Rattle.std.proofs.Common.{◌≡◌, ◌<◌, ◌+◌, ◌-◌, length, refl, sym, ap, ◌∙◌, arith}
use Rattle.std.specs.Vec.{vec_len}
use Rattle.ped_tree.specs.Views.{stmt_trees}
use Rattle.ped_machine.specs.Parts.{with_statements}
use Rattle.ped_machine.proofs.PartsLeft.{last_at}
use Rattle.ped_machine.proofs.parts.Parts.set_block.Goals as goal

pub returns-in-Some : goal.returns-in-Some
returns-in-Some c =
    let v = c.args.self.now.items in
    let f = c.in-Some.part.now in
    let n : vec_len v ≡ length v.items = v.ok.0 in
    let less : 0 < vec_len v = c.in-Some.ensures.variant.0 refl in
    let all : vec_len v - 1 + 1 ≡ length v.items = omega (arith, n, less) in
    let l = last_at v.items f (vec_len v - 1) all c.in-Some.ensures.item.1 in
    l.2 record { stmts = c.args.block.stmts; first = c.args.block.first; turn = f.turn }
    ∙ sym (ap (with_statements (stmt_trees c.args.block.stmts.now) c.args.block.first) l.1)
