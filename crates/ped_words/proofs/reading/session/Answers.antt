use Rattle.std.proofs.Common.{map, refl}
use Rattle.std.specs.Prelude.{string_bytes}
use Rattle.ped_words.specs.Modes.{session_app}
use Rattle.ped_words.proofs.Asked.{parse_found, session_is}
use Rattle.ped_words.proofs.reading.session.Goals as goal

pub returns : goal.returns
returns c =
    let words = map string_bytes c.args.words.now in
    let m = c.in_ok-matches.matches in
    let parse = c.in_ok-matches.ensures in
    let found = parse_found session_app words m c.in_ok-session_command.field-0 c.in_ok-session_command.ensures.app refl refl parse.kinds parse.matches in
    session_is words m c.get_str.result c.get_str-2.result c.get_str-3.result c.unwrap.result c.unwrap-2.result found c.get_str.ensures c.unwrap.ensures c.get_str-2.ensures c.unwrap-2.ensures c.get_str-3.ensures
