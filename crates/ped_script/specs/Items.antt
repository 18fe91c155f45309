-- The items of a script: each line with a word that isn't in the text of a command, with its command (this project).
use Rattle.std.specs.Prelude.{ℕ, ◌+◌, ◌-◌, List, [], ◌∷◌, ◌++◌, map, Bool, nat_lt, codes, Option, Some, None, option_map, if◌then◌else◌}
use Rattle.std.specs.Str.Lines.{lines}
use Rattle.ped_base.specs.Lists.{is_same_text}
use Rattle.ped_script.specs.Words.{Text, words_of}
use Rattle.ped_certificates.specs.declared.claims.EvidenceLine.{EvidenceLine}
use Rattle.ped_script.specs.EvidenceLines.{evidence_line}
use Rattle.ped_script.specs.Rows.{command_of}
use Rattle.ped_script.specs.declared.items.Command.{Command}
use Rattle.ped_script.specs.declared.items.Command.TheVariants.{Replace, Insert, InterchangeBy, ReverseBy, ParallelBy}
use Rattle.ped_script.specs.declared.items.Item.{Item}

-- the line that ends the text of a command: a period alone
abbrev pub is_end : Text → Bool
is_end line = is_same_text line (codes ".")

-- the text of a command: the lines before the first that ends it; none where no line does
abbrev pub text_of : List Text → Option (List Text)
text_of [] = None
text_of (l ∷ ls) = if is_end l then Some [] else option_map (λ text. l ∷ text) (text_of ls)

-- how many lines a text takes: those up to the first that ends it, or all where no line does
abbrev pub text_count : List Text → ℕ
text_count [] = 0
text_count (l ∷ ls) = if is_end l then 1 else text_count ls + 1

-- the text as evidence, line by line
abbrev pub evidence_of : List Text → Option (List EvidenceLine)
evidence_of following = option_map (λ text. map evidence_line text) (text_of following)

-- the command with its text, where it takes one and these lines follow; none where they hold no text
abbrev pub with_text : Command → List Text → Option Command
with_text (Replace first last _) following = option_map (λ text. Replace first last text) (text_of following)
with_text (Insert after _) following = option_map (λ text. Insert after text) (text_of following)
with_text (InterchangeBy s _) following = option_map (λ evidence. InterchangeBy s evidence) (evidence_of following)
with_text (ReverseBy s _) following = option_map (λ evidence. ReverseBy s evidence) (evidence_of following)
with_text (ParallelBy s _) following = option_map (λ evidence. ParallelBy s evidence) (evidence_of following)
with_text c following = Some c

-- the command of these words, with its text, where these lines follow
abbrev pub whole_command : Option Command → List Text → Option Command
whole_command None following = None
whole_command (Some c) following = with_text c following

-- how many of the lines that follow belong to the command
abbrev pub taken_lines : Option Command → List Text → ℕ
taken_lines (Some (Replace first last _)) following = text_count following
taken_lines (Some (Insert after _)) following = text_count following
taken_lines (Some (InterchangeBy s _)) following = text_count following
taken_lines (Some (ReverseBy s _)) following = text_count following
taken_lines (Some (ParallelBy s _)) following = text_count following
taken_lines c following = 0

-- what line n asks for by its words, where these lines follow: nothing where it has no word
abbrev pub item_at : ℕ → List Text → List Text → List Item
item_at n [] following = []
item_at n (w ∷ ws) following = record { line = n; command = whole_command (command_of (w ∷ ws)) following } ∷ []

-- the items of lines from line n on, of which as many as given at the front still belong to the command before
abbrev pub items_from : ℕ → ℕ → List Text → List Item
items_from n taken [] = []
items_from n taken (l ∷ ls) =
    if nat_lt 0 taken then items_from (n + 1) (taken - 1) ls
    else item_at n (words_of l) ls ++ items_from (n + 1) (taken_lines (command_of (words_of l)) ls) ls

-- the items of a script, whose lines count from 1
unfoldable pub commands_of : Text → List Item
commands_of script = items_from 1 0 (lines script)
