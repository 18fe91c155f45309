use Rattle.std.proofs.Common.{◌<◌, true, slice_set, List, Bool, length, ap, ◌∙◌, arith}
use Rattle.ped_bits.specs.Words.{is_set}
use Rattle.ped_bits.proofs.Values.{length-values}
use Rattle.ped_bits.proofs.Bits.{kept_set, set_is}
use Rattle.ped_bits.proofs.rows.Row.set.Goals as goal

pub index_mut-requires : goal.index_mut-requires
index_mut-requires c =
    let w = length-values (is_set c.self.inside.words.items) c.self.inside.width in
    let v = ap length c.self.view_is in
    omega (arith, c.self.invariant.long, c.self.inside.words.ok)

pub invariant_of-self : goal.invariant_of-self
invariant_of-self c =
    let w = length-values (is_set c.self.inside.words.items) c.self.inside.width in
    let v = ap length c.self.view_is in
    let h : c.args.place < c.self.inside.width = omega arith in
    kept_set c.self.inside.width c.args.place c.self.inside.words.items c.index_mut.result.now c.self.invariant h c.index_mut.ensures.value

pub returns : goal.returns
returns c =
    let w = length-values (is_set c.self.inside.words.items) c.self.inside.width in
    let v = ap length c.self.view_is in
    let h : c.args.place < c.self.inside.width = omega arith in
    set_is c.self.inside.width c.args.place c.self.inside.words.items c.index_mut.result.now c.self.invariant h c.index_mut.ensures.value
    ∙ ap (λ (row : List Bool). slice_set row c.args.place true) c.self.view_is
