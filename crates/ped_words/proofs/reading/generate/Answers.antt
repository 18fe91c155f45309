use Rattle.std.proofs.Common.{◌≡◌, ℕ, Option, map, refl, sym, ap, subst, ◌∙◌, arith}
use Rattle.std.specs.Option.{is_some}
use Rattle.std.specs.Prelude.{string_bytes}
use Rattle.clap.specs.Lexer.{without_minus}
use Rattle.clap.specs.Matches.{ReadsOne}
use Rattle.ped_words.specs.Modes.{generate_app}
use Rattle.ped_words.proofs.Asked.{parse_found}
use Rattle.ped_words.proofs.Sizes.{Reads, same_number, size_read, generate_is}
use Rattle.ped_words.proofs.reading.generate.Goals as goal

pub unwrap-requires : goal.unwrap-requires
unwrap-requires c =
    let size = c.in_ok-generate_command.ensures.number c.in_ok-matches.matches c.in_ok-matches.ensures.parsed in
    let one = c.get_one.ensures.value (without_minus size.0) size.1 in
    let read = size_read size.0 c.get_one.result one size.2 in
    ap is_some read.1

pub returns-clause-answer : goal.returns-clause-answer
returns-clause-answer c =
    let words = map string_bytes c.args.words.now in
    let m = c.in_ok-matches.matches in
    let parse = c.in_ok-matches.ensures in
    let found = parse_found generate_app words m c.in_ok-generate_command.field-0 c.in_ok-generate_command.ensures.app refl refl parse.kinds parse.matches in
    let size = c.in_ok-generate_command.ensures.number m parse.parsed in
    let one = c.get_one.ensures.value (without_minus size.0) size.1 in
    generate_is words m (without_minus size.0) c.unwrap.result found size.1 (subst (λ (o : Option ℕ). ReadsOne Reads (without_minus size.0) o) c.unwrap.ensures one)

pub returns-clause-size : goal.returns-clause-size
returns-clause-size c =
    let size = c.in_ok-generate_command.ensures.number c.in_ok-matches.matches c.in_ok-matches.ensures.parsed in
    let one = c.get_one.ensures.value (without_minus size.0) size.1 in
    let read = size_read size.0 c.get_one.result one size.2 in
    let same : c.unwrap.result ≡ read.0 = same_number c.unwrap.result read.0 (sym c.unwrap.ensures ∙ read.1) in
    (omega (arith, same, read.2), omega (arith, same, read.3))
