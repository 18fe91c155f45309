use Rattle.std.proofs.Common.{◌<◌, length, sym, ◌∙◌, arith}
use Rattle.ped_bits.specs.Places.{union}
use Rattle.ped_bits.proofs.Merging.{add_above, add_below, add_itself}
use Rattle.ped_bits.proofs.square.add_row.Goals as goal

pub returns-then-from-into : goal.returns-then-from-into
returns-then-from-into c =
    let s = c.split_at_mut-front in
    let some : 0 < length s.result.1.now = omega (arith, s.ensures.back_len) in
    let source = c.index-front-from.is in
    let target = c.index-back-0.is in
    add_above c.args.rows.now s.result.0.now s.result.1.now c.args.from c.args.into c.index-front-from.result c.index-back-0.result c.or_into.new.target
    s.ensures.value (c.or_into.ensures ∙ sym (λ i. union (target i) (source i))) s.ensures.front_len c.requires.into c.if-from-into.true source target some

pub returns-then-into-from : goal.returns-then-into-from
returns-then-into-from c =
    let s = c.split_at_mut-front-then-into-from in
    let some : 0 < length s.result.1.now = omega (arith, s.ensures.back_len) in
    let source = c.index-back-0-then-into-from.is in
    let target = c.index-front-into.is in
    add_below c.args.rows.now s.result.0.now s.result.1.now c.args.from c.args.into c.index-back-0-then-into-from.result c.index-front-into.result c.or_into-then-into-from.new.target
    s.ensures.value (c.or_into-then-into-from.ensures ∙ sym (λ i. union (target i) (source i))) s.ensures.front_len c.requires.from c.if-into-from.true source target some

pub returns-else-into-from : goal.returns-else-into-from
returns-else-into-from c = add_itself c.args.rows.now c.args.from c.args.into c.if-from-into.false c.if-into-from.false
