use Rattle.std.proofs.Common.{ℕ, length, sym, ap, ◌∙◌}
use Rattle.ped_bits.proofs.Bits.{lengths, meet, met}
use Rattle.ped_bits.proofs.rows.Row.meets.Goals as goal

pub words_meet-requires : goal.words_meet-requires
words_meet-requires c =
    let l = lengths c.self.inside.width c.other.inside.width c.self.inside.words.items c.self.inside.words.items c.other.inside.words.items c.args.self.now c.args.other.now c.self.invariant c.other.invariant c.self.view_is c.other.view_is (sym c.requires) in
    ap length c.deref.ensures.value ∙ sym l ∙ sym (ap length c.deref-2.ensures.value)

pub returns : goal.returns
returns c =
    let small = λ (j : ℕ). c.words_meet.ensures.small j in
    let common = c.words_meet.ensures.common in
    let from = meet c.self.inside.width c.other.inside.width c.deref.result.now c.deref-2.result.now c.args.self.now c.args.other.now (rw c.deref.ensures.value c.self.invariant) (rw c.deref-2.ensures.value c.other.invariant) (rw c.deref.ensures.value c.self.view_is) (rw c.deref-2.ensures.value c.other.view_is) in
    let back = met c.self.inside.width c.other.inside.width c.deref.result.now c.deref-2.result.now c.args.self.now c.args.other.now (rw c.deref.ensures.value c.self.invariant) (rw c.deref-2.ensures.value c.other.invariant) (rw c.deref.ensures.value c.self.view_is) (rw c.deref-2.ensures.value c.other.view_is) in
    (λ t. from small (common.0 t), λ h. common.1 (back h))
