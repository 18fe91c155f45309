use Rattle.std.proofs.Common.{◌≡◌, ◌<◌, ◌∷◌, ◌+◌, ◌-◌, Some, length, refl, sym, ap, ◌∙◌, arith}
use Rattle.std.specs.Vec.{vec_len}
use Rattle.ped_machine.specs.Parts.{counted, turn_seen}
use Rattle.ped_tree.specs.Views.{stmt_trees}
use Rattle.ped_machine.proofs.PartsLeft.{last_at}
use Rattle.ped_machine.proofs.parts.Parts.count_turn.Goals as goal

pub returns-in-Some-turn : goal.returns-in-Some-turn
returns-in-Some-turn c =
    let v = c.args.self.now.items in
    let f = c.in-Some.part.now in
    let n : vec_len v ≡ length v.items = v.ok.0 in
    let less : 0 < vec_len v = c.in-Some.ensures.variant.0 refl in
    let all : vec_len v - 1 + 1 ≡ length v.items = omega (arith, n, less) in
    let l = last_at v.items f (vec_len v - 1) all c.in-Some.ensures.item.1 in
    l.2 record { stmts = f.stmts; first = f.first; turn = Some record { d = c.in-Some-turn.turn.d; plan = c.in-Some-turn.turn.plan; earlier = c.in-Some-turn.turn.earlier + 1 } }
    ∙ sym (ap counted (l.1 ∙ ap (λ (o : _). record { stmts = stmt_trees f.stmts.now; first = f.first; turn = turn_seen o } ∷ l.0) c.in-Some-turn.is))
