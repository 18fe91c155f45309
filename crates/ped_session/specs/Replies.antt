-- What is printed of replies (this project).
use Rattle.std.specs.Prelude.{ℕ, List, [], ◌∷◌, ◌++◌, codes, Bool, true, false}
use Rattle.std.specs.Fmt.{decimal}
use Rattle.ped_tree.specs.Grammar.Refusal.{Finding, number_of, name_of_refusal}
use Rattle.ped_tree.specs.Grammar.RefusalViews.{finding_of}
use Rattle.ped_session.specs.declared.replies.Refusal.{Refusal}
use Rattle.ped_transformations.specs.ped_steps.specs.CauseWords.{cause_words}
use Rattle.ped_session.specs.declared.replies.Refusal.TheVariants.{BadEdit, Step, NothingToUndo, NothingToRedo, NoSuchStatement, NoSuchLine, NoSuchPair}
use Rattle.ped_session.specs.declared.replies.Reply.{Reply}
use Rattle.ped_session.specs.declared.replies.Reply.TheVariants.{Changed, Shown, Refused}

-- a row that answers the command on this line of the script
abbrev pub answer_row : ℕ → List ℕ → List ℕ
answer_row line words = decimal line ++ codes ": " ++ words ++ 10 ∷ []

-- a line of a script that is no command
abbrev pub bad_command_row : ℕ → List ℕ
bad_command_row line = answer_row line (codes "refused BadCommand")

-- why an edit's text isn't read: the refusal by its number and its name, and its line in that text
abbrev pub bad_edit_words : Finding → List ℕ
bad_edit_words f = codes "BadEdit " ++ decimal (number_of f.refusal) ++ codes " " ++ name_of_refusal f.refusal ++ codes " at " ++ decimal f.line

-- why a command is refused
abbrev pub refusal_words : Refusal → List ℕ
refusal_words (BadEdit r) = bad_edit_words (finding_of r)
refusal_words (Step cause) = cause_words cause
refusal_words NothingToUndo = codes "NothingToUndo"
refusal_words NothingToRedo = codes "NothingToRedo"
refusal_words NoSuchStatement = codes "NoSuchStatement"
refusal_words NoSuchLine = codes "NoSuchLine"
refusal_words NoSuchPair = codes "NoSuchPair"

-- what is printed of the reply to the command on this line of the script
abbrev pub reply_text : ℕ → Reply → List ℕ
reply_text line Changed = answer_row line (codes "ok")
reply_text line (Shown bytes) = bytes
reply_text line (Refused why) = answer_row line (codes "refused " ++ refusal_words why)

-- the command is refused
abbrev pub is_refused : Reply → Bool
is_refused Changed = false
is_refused (Shown bytes) = false
is_refused (Refused why) = true
