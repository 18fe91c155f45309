-- What the words of a call ask for, by what clap states of the mode's command (this project).
use Rattle.std.specs.Prelude.{ℕ, List, [], ◌∷◌, codes, Option, Some, None, unwrap_or, if◌then◌else◌}
use Rattle.std.specs.Str.Parse.{digits_value, without_leading_plus}
use Rattle.ped_base.specs.Lists.{is_same_text}
use Rattle.clap.specs.Walk.{Text, is_empty}
use Rattle.clap.specs.Words.{App, fault_of, matches_of, first_of, one_of}
use Rattle.ped_words.specs.Modes.{show_app, session_app, generate_app}

-- what words ask for: to show a program, to run a script on one, with or without data, or to make a program and a script of a size
pub data Request : Type 0 where
  show : Text → Request
  session : Text → Text → Option Text → Request
  generate : ℕ → Request

-- the value of an argument that must be there
abbrev pub value_of : App → List Text → Text → Text
value_of app words name = unwrap_or (first_of name (matches_of app words)) []

-- the number that is read of an argument that must be there
abbrev pub number_of : App → List Text → Text → ℕ
number_of app words name = digits_value 10 (without_leading_plus (unwrap_or (one_of name (matches_of app words)) []))

-- what words ask for, where the command takes them: it finds no fault in them
abbrev pub taken_by : App → List Text → Request → Option Request
taken_by app words asked = if is_empty (fault_of app words) then Some asked else None

-- `show PROGRAM`
abbrev pub show_request : List Text → Option Request
show_request words = taken_by show_app words (show (value_of show_app words (codes "program")))

-- `session PROGRAM SCRIPT [--data FILE]`
abbrev pub session_request : List Text → Option Request
session_request words =
    taken_by session_app words (session (value_of session_app words (codes "program")) (value_of session_app words (codes "script")) (first_of (codes "data") (matches_of session_app words)))

-- `generate N`
abbrev pub generate_request : List Text → Option Request
generate_request words = taken_by generate_app words (generate (number_of generate_app words (codes "number")))

-- what words ask for whose first is this
abbrev pub request_in : Text → List Text → Option Request
request_in mode words =
    if is_same_text mode (codes "show") then show_request words
    else if is_same_text mode (codes "session") then session_request words
    else if is_same_text mode (codes "generate") then generate_request words
    else None

-- what words ask for, which are those after the program's name: the first is the mode, which clap passes over as the name of the mode's command
unfoldable pub request_of : List Text → Option Request
request_of [] = None
request_of (mode ∷ rest) = request_in mode (mode ∷ rest)
