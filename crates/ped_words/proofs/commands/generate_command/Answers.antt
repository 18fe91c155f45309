use Rattle.std.proofs.Common.{◌≡◌, pos, codes, ◌∙◌, arith, rules}
use Rattle.std.proofs.lemmas.Result.{IfOk-weaker}
use Rattle.clap.specs.declared.builder.value_parser.ValueParser.TheVariants.{Signed}
use Rattle.ped_words.proofs.Chains.{only_size}
use Rattle.ped_words.proofs.commands.generate_command.Goals as goal

pub returns-clause-number : goal.returns-clause-number
returns-clause-number c =
    let given = c.value_parser-number.ensures.given in
    let made : c.range.result ≡ Signed (pos 1) (pos 300) = search rules in
    let is : given.0 ≡ Signed (pos 1) (pos 300) = given.2 ∙ made in
    IfOk-weaker c.arg.result _ _ (λ cmd added. only_size (codes "generate") c.mode.result cmd c.value_parser-number.result _ _ given.0 c.mode.ensures added (search rules) (search rules) (search rules) (search rules) (λ e. omega (arith, e)) (λ e. omega (arith, e)) given.1 is) c.arg.ensures
