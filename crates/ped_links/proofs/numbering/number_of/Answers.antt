use Rattle.std.proofs.Common.{◌≡◌, [], true, sym, ap, ◌∙◌}
use Rattle.ped_base.specs.Letters.{is_name}
use Rattle.ped_links.proofs.Meant.{table_finds}
use Rattle.ped_links.proofs.numbering.number_of.Goals as goal

no_name : is_name [] ≡ true → ⊥
no_name h = absurd cc

pub returns : goal.returns
returns c us known =
    let name = c.args.name.now in
    c.copied.ensures ∙ c.get.ensures.value ∙ table_finds name c.args.numbers.now.entries
    ∙ known name (λ e. absurd (no_name (sym (ap is_name (c.as_bytes-letters.ensures.bytes ∙ e)) ∙ c.as_bytes-letters.ensures.name)))
