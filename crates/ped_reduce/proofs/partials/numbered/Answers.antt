use Rattle.std.proofs.Common.{◌≡◌, ◌++◌, List, ℕ, sym, ap, ◌∙◌}
use Rattle.std.specs.Prelude.{codes}
use Rattle.std.specs.Fmt.{decimal}
use Rattle.ped_base.specs.Letters.{name_of}
use Rattle.ped_rules.specs.declared.fresh.NewName.TheVariants.{Array}
use Rattle.ped_rules.proofs.FreshNames.{numbered_name}
use Rattle.ped_reduce.proofs.partials.numbered.Goals as goal

pub unreachable-requires : goal.unreachable-requires
unreachable-requires c =
    let front = c.in_ok-extend_from_slice.ensures.ok ∙ ap (λ (text : List ℕ). text ++ codes "KX") c.new-text.ensures in
    let number = c.as_bytes.ensures.value ∙ c.format.ensures.text in
    let text : c.as_slice.result.now ≡ codes "KX" ++ decimal c.args.n = c.as_slice.ensures
    ∙ c.in_ok-extend_from_slice-2.ensures.ok
    ∙ ap (λ (text : List ℕ). text ++ c.as_bytes.result.now) front
    ∙ ap (λ (digits : List ℕ). codes "KX" ++ digits) number in
    let found = sym c.in-None.is ∙ c.from_bytes.ensures ∙ ap name_of text ∙ numbered_name Array c.args.n c.requires in
    absurd cc
