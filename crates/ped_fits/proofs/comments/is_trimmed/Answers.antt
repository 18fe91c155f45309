use Rattle.std.proofs.Common.{ap, sym, ◌∙◌}
use Rattle.std.specs.Prelude.{not, ◌||◌, ◌==◌}
use Rattle.std.proofs.lemmas.Bool.{ne_eqb, eq-eqb}
use Rattle.std.specs.Option.{option_copied}
use Rattle.ped_fits.proofs.Lists.{trimmed_at}
use Rattle.ped_fits.proofs.comments.is_trimmed.Goals as goal

pub returns-then-c-ne32 : goal.returns-then-c-ne32
returns-then-c-ne32 c =
    let x = c.in-Some.c.now in
    let last = sym (ap option_copied c.in-Some.is) ∙ c.last.ensures.value in
    ap (λ b. not (b || x == 13)) (sym (ne_eqb x 32 c.if-c-ne32.true)) ∙ sym (trimmed_at c.args.text.now x (sym last))

pub returns-else-c-ne32 : goal.returns-else-c-ne32
returns-else-c-ne32 c =
    let x = c.in-Some.c.now in
    let last = sym (ap option_copied c.in-Some.is) ∙ c.last.ensures.value in
    let blank = eq-eqb x 32 c.if-c-ne32.false in
    ap not blank ∙ ap (λ b. not (b || x == 13)) (sym blank) ∙ sym (trimmed_at c.args.text.now x (sym last))
