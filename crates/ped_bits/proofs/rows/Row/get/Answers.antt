use Rattle.std.proofs.Common.{◌<◌, length, sym, ap, ◌∙◌, arith}
use Rattle.ped_bits.specs.Words.{is_set}
use Rattle.ped_bits.proofs.Values.{length-values}
use Rattle.ped_bits.proofs.Bits.{read_place}
use Rattle.ped_bits.proofs.rows.Row.get.Goals as goal

pub index-requires : goal.index-requires
index-requires c =
    let w = length-values (is_set c.self.inside.words.items) c.self.inside.width in
    let v = ap length c.self.view_is in
    omega (arith, c.self.invariant.long, c.self.inside.words.ok)

pub returns : goal.returns
returns c =
    let w = length-values (is_set c.self.inside.words.items) c.self.inside.width in
    let v = ap length c.self.view_is in
    let h : c.args.place < c.self.inside.width = omega arith in
    let same = read_place c.self.inside.width c.self.inside.words.items c.args.self.now c.index.result.now c.args.place c.self.invariant c.self.view_is h c.index.ensures in
    (λ t. sym same ∙ t, λ t. same ∙ t)
