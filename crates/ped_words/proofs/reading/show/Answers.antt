use Rattle.std.proofs.Common.{map, refl}
use Rattle.std.specs.Prelude.{string_bytes}
use Rattle.ped_words.specs.Modes.{show_app}
use Rattle.ped_words.proofs.Asked.{parse_found, show_is}
use Rattle.ped_words.proofs.reading.show.Goals as goal

pub returns : goal.returns
returns c =
    let words = map string_bytes c.args.words.now in
    let m = c.in_ok-matches.matches in
    let parse = c.in_ok-matches.ensures in
    let found = parse_found show_app words m c.in_ok-show_command.field-0 c.in_ok-show_command.ensures.app refl refl parse.kinds parse.matches in
    show_is words m c.get_str.result c.unwrap.result found c.get_str.ensures c.unwrap.ensures
