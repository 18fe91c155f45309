-- What a call reads, gives and counts where files are read in order. Only contracts of private functions use it (this project).
use Rattle.std.specs.Prelude.{◌≡◌, ◌≢◌, ◌≤◌, ℕ, List, Bool, true, false, Option, Some, None}
use Rattle.ped_io.specs.Outside.{Contents, IsHeld, Rose}
use Rattle.ped_io.specs.declared.loading.LoadError.{LoadError}
use Rattle.ped_io.specs.declared.loading.LoadError.TheVariants as load
use Rattle.ped_script.specs.Items.{commands_of}
use Rattle.ped_session.specs.States.{State}
use Rattle.ped_session.specs.Scripts.{Said, AnswersItems}
use Rattle.ped_answer.specs.declared.answering.Status.{Status}
use Rattle.ped_answer.specs.declared.answering.Status.TheVariants.{Done, SomeRefused, BadWords, ReadFault, WriteFault, NoMemory, TooLong}
use Rattle.ped_words.specs.Requests.{Request}
use Rattle.ped_answer.specs.Answer.{Input, inputs_of, IsOneOf, AgreeOn, HasRead, HoldsTooMany, MayGive, Answers, Sends, IsJust, cannot_read_line, too_long_line}
use Rattle.ped_answer.specs.TestCounts.{Tests, Ticks, IsUntested}

-- a call: the files that its shelf has, what they may hold by all that reads have given at its end, each name's count of faults before and after it, the bytes that its sink says it has taken, those that were sent, and its count of faults before and after it, the tests counted before and after it, and how it ended
pub record Call : Type 1 where
  pub told : Option Contents
  pub may : Contents → Type 0
  pub counts : List ℕ → ℕ
  pub counts_after : List ℕ → ℕ
  pub taken : Option (List ℕ)
  pub taken_after : Option (List ℕ)
  pub sent : List ℕ
  pub sent_after : List ℕ
  pub faults : ℕ
  pub faults_after : ℕ
  pub steps : ℕ
  pub steps_after : ℕ
  pub status : Status

-- the count of faults of a name has risen in the call
abbrev pub HasFailed : Call → List ℕ → Type 0
HasFailed call name = Rose (call.counts name) (call.counts_after name)

-- the sink's count of faults has risen in the call
abbrev pub SinkFailed : Call → Type 0
SinkFailed call = Rose call.faults call.faults_after

-- a call reads these files in order and gives the answer, by whatever the files may hold, with the tests that it takes; each fault has its cause, and no count falls
pub record Served (inputs : List Input) (answers : Contents → Status → List ℕ → Type 0) (tests : Contents → ℕ → Type 0) (call : Call) : Type 0 where
  pub sends : (files : Contents) → call.may files
      → Sends (MayGive inputs files (HasFailed call) (answers files)) (SinkFailed call) call.sent call.sent_after call.status
  pub known : HasRead call.status → (files others : Contents) → call.may files → call.may others → AgreeOn inputs files others
  pub words : call.status ≢ BadWords
  pub read_fault : call.status ≡ ReadFault → (name : List ℕ) × IsOneOf inputs name × HasFailed call name
  pub write_fault : call.status ≡ WriteFault → SinkFailed call
  pub too_long : call.status ≡ TooLong → (files : Contents) → call.may files → HoldsTooMany inputs files
  pub rises : (name : List ℕ) → call.counts name ≤ call.counts_after name
  pub others : (files : Contents) → call.told ≡ Some files → (name : List ℕ) → ¬ (IsOneOf inputs name) → IsHeld files name → call.counts_after name ≡ call.counts name
  pub sink_rises : call.faults ≤ call.faults_after
  pub untold : call.taken ≡ None → call.taken_after ≡ None
  pub told_sent : call.taken ≡ Some call.sent → call.taken_after ≡ Some call.sent_after
  pub ticks : (files : Contents) → call.may files → (n : ℕ) → tests files n → Ticks call.status call.steps call.steps_after n
  pub untested : IsUntested call.status → call.steps_after ≡ call.steps
  pub steps_rise : call.steps ≤ call.steps_after

-- a call gives the answer to a request
abbrev pub ServedRequest : Request → Call → Type 0
ServedRequest request call = Served (inputs_of (Some request)) (Answers (Some request)) (Tests (Some request)) call

-- what is said where a file isn't loaded: that it can't be read, or that it is too long; and nothing where memory ran out
abbrev pub SaysUnread : Input → LoadError → Status → List ℕ → Type 0
SaysUnread i load.ReadFault status bytes = IsJust ReadFault (cannot_read_line i.name) status bytes
SaysUnread i load.TooLong status bytes = IsJust TooLong (too_long_line i) status bytes
SaysUnread i load.NoMemory status bytes = ⊥

-- how a call ends that says why a file isn't loaded
abbrev pub unread_status : LoadError → Status
unread_status load.ReadFault = ReadFault
unread_status load.TooLong = TooLong
unread_status load.NoMemory = NoMemory

-- how a session ends, by whether a line of its script was refused
abbrev pub session_status : Bool → Status
session_status false = Done
session_status true = SomeRefused

-- what a script answers in a state of a session
abbrev pub AnswersFrom : State → List ℕ → List ℕ → Status → List ℕ → Type 0
AnswersFrom s script data_bytes status bytes =
    (said : Said) × (last : State) × AnswersItems (commands_of script) data_bytes s said last × (status ≡ session_status said.refused) × (bytes ≡ said.bytes)
