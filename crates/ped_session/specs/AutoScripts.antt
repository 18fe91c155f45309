-- The accepted steps of `auto` as a script that does the same (this project).
use Rattle.std.specs.Prelude.{ℕ, ◌+◌, List, [], ◌∷◌, false, Some}
use Rattle.std.specs.List.{flat_map}
use Rattle.ped_script.specs.declared.items.Command.{Command}
use Rattle.ped_script.specs.declared.items.Item.{Item}
use Rattle.ped_session.specs.declared.replies.Reply.TheVariants.{Changed}
use Rattle.ped_session.specs.Replies.{reply_text}
use Rattle.ped_session.specs.AutoAnswers.{script_row}
use Rattle.ped_session.specs.Scripts.{Said}

-- the script of commands: each on a line of its own
abbrev pub script_of : List Command → List ℕ
script_of commands = flat_map script_row commands

-- the commands as items of a script, on lines that count from this one
abbrev pub items_on : ℕ → List Command → List Item
items_on line [] = []
items_on line (command ∷ commands) = record { line = line; command = Some command } ∷ items_on (line + 1) commands

-- what items say each of which is an accepted change, where this many pairs of references are tested for all of them
abbrev pub all_accepted : List Item → ℕ → Said
all_accepted items tests = record { bytes = flat_map (λ item. reply_text item.line Changed) items; refused = false; tests = tests }
