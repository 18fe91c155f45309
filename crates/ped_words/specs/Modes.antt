-- The commands of the modes, as clap's own records of them (this project).
use Rattle.std.specs.Prelude.{pos, true, codes, Some}
use Rattle.clap.specs.Simple.{on_top}
use Rattle.clap.specs.Walk.{Text}
use Rattle.clap.specs.Words.{App, Rule, new_app, new_rule, with_rule}
use Rattle.clap.specs.declared.builder.value_parser.ValueParser.TheVariants.{Signed}
use Rattle.clap.specs.declared.builder.action.ArgAction.TheVariants.{Set}

-- a command of this name without a flag for help; it has none for a version, since it has no version
abbrev pub mode : Text → App
mode name = on_top (λ s. record s { disable_help_flag = true }) (new_app name)

-- an argument that must be there, with one value
abbrev pub needed : Text → Rule
needed name = record (new_rule name) { action = Some Set; required = true }

-- an argument after two hyphens and its name, which need not be given
abbrev pub named : Text → Rule
named name = record (new_rule name) { long = Some name }

-- a number from 1 to 300 that must be there
abbrev pub needed_size : Text → Rule
needed_size name = record (needed name) { parser = Some (Signed (pos 1) (pos 300)) }

-- `show PROGRAM`
abbrev pub show_app : App
show_app = with_rule (mode (codes "show")) (needed (codes "program"))

-- `session PROGRAM SCRIPT [--data FILE]`
abbrev pub session_app : App
session_app = with_rule (with_rule (with_rule (mode (codes "session")) (needed (codes "program"))) (needed (codes "script"))) (named (codes "data"))

-- `generate N`
abbrev pub generate_app : App
generate_app = with_rule (mode (codes "generate")) (needed_size (codes "number"))
