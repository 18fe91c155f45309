use Rattle.std.proofs.Common.{ℕ, List, length, refl, sym, subst, ◌∙◌}
use Rattle.ped_base.specs.Names.{IsNameInside}
use Rattle.ped_base.proofs.Keeping.{inside_is, kept}
use Rattle.ped_base.proofs.identifiers.Name.from_bytes.Goals as goal

pub invariant_of-result : goal.invariant_of-result
invariant_of-result c =
    let bytes = c.args.bytes.now in
    subst (λ (text : List ℕ). IsNameInside (record { len = length bytes; text = text })) (sym (kept bytes c.copy_from_slice.new.self _ c.copy_from_slice.ensures.after refl))
    (inside_is bytes c.if-bytes-gt31.false (sym c.is_name.ensures ∙ c.if-not-is_name.false))
