use Rattle.std.proofs.Common.{length, sym, ap, ◌∙◌}
use Rattle.ped_bits.proofs.Bits.{lengths, inside, within_all}
use Rattle.ped_bits.proofs.rows.Row.is_subset.Goals as goal

pub words_within-requires : goal.words_within-requires
words_within-requires c =
    let l = lengths c.self.inside.width c.other.inside.width c.self.inside.words.items c.self.inside.words.items c.other.inside.words.items c.args.self.now c.args.other.now c.self.invariant c.other.invariant c.self.view_is c.other.view_is (sym c.requires) in
    ap length c.deref.ensures.value ∙ sym l ∙ sym (ap length c.deref-2.ensures.value)

pub returns : goal.returns
returns c =
    let within = c.words_within.ensures.within in
    let from = inside c.self.inside.width c.other.inside.width c.deref.result.now c.deref-2.result.now c.args.self.now c.args.other.now (rw c.deref.ensures.value c.self.invariant) (rw c.deref-2.ensures.value c.other.invariant) (rw c.deref.ensures.value c.self.view_is) (rw c.deref-2.ensures.value c.other.view_is) in
    let back = within_all c.self.inside.width c.other.inside.width c.deref.result.now c.deref-2.result.now c.args.self.now c.args.other.now (rw c.deref.ensures.value c.self.invariant) (rw c.deref-2.ensures.value c.other.invariant) (rw c.deref.ensures.value c.self.view_is) (rw c.deref-2.ensures.value c.other.view_is) in
    (λ t. from c.words_within.ensures.small_outer (within.0 t), λ h. within.1 (back c.words_within.ensures.small_inner c.words_within.ensures.small_outer h))
