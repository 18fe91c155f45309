-- What a script prints: the answers to its items in their order (this project).
use Rattle.std.specs.Prelude.{◌≡◌, ◌⊎◌, ℕ, ◌+◌, List, [], ◌∷◌, ◌++◌, Bool, true, false, ◌||◌, Option, Some, None}
use Rattle.ped_script.specs.declared.items.Command.{Command}
use Rattle.ped_script.specs.declared.items.Command.TheVariants.{Auto}
use Rattle.ped_script.specs.declared.items.Item.{Item}
use Rattle.ped_script.specs.Kinds.{kind_of}
use Rattle.ped_session.specs.declared.replies.Reply.{Reply}
use Rattle.ped_session.specs.declared.replies.Reply.TheVariants.{Changed, Shown, Refused}
use Rattle.ped_versions.specs.States.{State}
use Rattle.ped_session.specs.Replies.{bad_command_row, reply_text, is_refused}
use Rattle.ped_session.specs.Steps.{IsStep}
use Rattle.ped_session.specs.Idle.{AreIdle}
use Rattle.ped_session.specs.AutoAnswers.{AnswersAuto}

-- what items answer: the bytes, whether a line was refused, and how many pairs of references were tested
pub record Said : Type 0 where
  pub bytes : List ℕ
  pub refused : Bool
  pub tests : ℕ

-- how many pairs a step with this reply tests, which leads to this state: those of the accepted change
abbrev pub tests_of : Reply → State → ℕ
tests_of Changed next = next.tested
tests_of (Shown bytes) next = 0
tests_of (Refused why) next = 0

-- what the reply to the command on this line says, with the rows of idle lines after it; these are no refused lines
abbrev pub said_by : ℕ → Reply → List ℕ → State → Said
said_by line reply rows next = record { bytes = reply_text line reply ++ rows; refused = is_refused reply; tests = tests_of reply next }

-- what a line that is no command says
abbrev pub bad_command_said : ℕ → Said
bad_command_said line = record { bytes = bad_command_row line; refused = true; tests = 0 }

-- nothing is said
abbrev pub nothing_said : Said
nothing_said = record { bytes = []; refused = false; tests = 0 }

-- something is said, and more after it
abbrev pub said_both : Said → Said → Said
said_both first rest = record { bytes = first.bytes ++ rest.bytes; refused = first.refused || rest.refused; tests = first.tests + rest.tests }

-- what the reply to the command on this line says, and the lines of its evidence that prove nothing in the state before; and the state after it
abbrev pub AnswersReply : ℕ → Command → List ℕ → State → Said → State → Type 0
AnswersReply line command data_bytes s said next =
    (reply : Reply) × IsStep command data_bytes s reply next × (rows : List ℕ) × AreIdle line (kind_of command) s rows × (said ≡ said_by line reply rows next)

-- what `auto` on this line says, which is never refused, and the state after it
abbrev pub SaysAuto : ℕ → State → Said → State → Type 0
SaysAuto line s said next = AnswersAuto line s said.bytes said.tests next × (said.refused ≡ false)

-- what the command on this line answers: `auto` takes steps by its strategy, and each other command has its reply; a line that is no command is refused, and the session is as it was
abbrev pub AnswersCommand : ℕ → Option Command → List ℕ → State → Said → State → Type 0
AnswersCommand line None data_bytes s said next = (said ≡ bad_command_said line) × (next ≡ s)
AnswersCommand line (Some command) data_bytes s said next = AnswersReply line command data_bytes s said next ⊎ ((command ≡ Auto) × SaysAuto line s said next)

-- what an item of a script answers
abbrev pub AnswersItem : Item → List ℕ → State → Said → State → Type 0
AnswersItem item data_bytes s said next = AnswersCommand item.line item.command data_bytes s said next

-- what items answer one after another, each in the state that the one before has left
abbrev pub AnswersItems : List Item → List ℕ → State → Said → State → Type 0
AnswersItems [] data_bytes s said last = (said ≡ nothing_said) × (last ≡ s)
AnswersItems (item ∷ items) data_bytes s said last =
    (first : Said) × (next : State) × AnswersItem item data_bytes s first next
    × (rest : Said) × AnswersItems items data_bytes next rest last × (said ≡ said_both first rest)
