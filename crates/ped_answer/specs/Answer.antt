-- The answer to words and files, and what a call may have done of it (this project).
use Rattle.std.specs.Prelude.{◌≡◌, ◌⊎◌, ℕ, List, [], ◌∷◌, ◌++◌, length, codes, Bool, true, false, nat_lt, Option, Some, None, MatchOption, MatchBool, ⊤}
use Rattle.std.specs.Fmt.{decimal}
use Rattle.ped_io.specs.Outside.{Contents, content}
use Rattle.ped_words.specs.Requests.{Request, show, session, generate}
use Rattle.ped_tree.specs.Tree.{ProgramTree}
use Rattle.ped_call_runs.specs.ped_calls.specs.ped_units.specs.Verdicts.{UnitFinding, RefusesUnits, IsExpansion}
use Rattle.ped_script.specs.Items.{commands_of}
use Rattle.ped_session.specs.States.{State, opened}
use Rattle.ped_session.specs.Panes.{ArePanes}
use Rattle.ped_session.specs.Scripts.{Said, AnswersItems}
use Rattle.ped_answer.specs.declared.answering.Status.{Status}
use Rattle.ped_answer.specs.declared.answering.Status.TheVariants.{Done, SomeRefused, BadWords, ReadFault, WriteFault, ProgramRefused, NoMemory, TooLong}
use Rattle.ped_answer.specs.Refusals.{refused_line}
use Rattle.ped_answer.specs.Generated.{IsGenerated}

-- a file that a request reads, and the most bytes that it may have
pub record Input : Type 0 where
  pub name : List ℕ
  pub most : ℕ

-- a program or a script has 1,048,576 bytes at the most
abbrev pub source_input : List ℕ → Input
source_input name = record { name = name; most = 1048576 }

-- data have 4,194,304 bytes at the most
abbrev pub data_input : List ℕ → Input
data_input name = record { name = name; most = 4194304 }

-- the file of data, where there is one
abbrev pub data_inputs : Option (List ℕ) → List Input
data_inputs None = []
data_inputs (Some file) = data_input file ∷ []

-- the files that a request reads, in order
abbrev pub inputs_of : Option Request → List Input
inputs_of None = []
inputs_of (Some (show program)) = source_input program ∷ []
inputs_of (Some (session program script data_file)) = source_input program ∷ source_input script ∷ data_inputs data_file
inputs_of (Some (generate number)) = []

-- the name of one of these files
abbrev pub IsOneOf : List Input → List ℕ → Type 0
IsOneOf [] name = ⊥
IsOneOf (i ∷ is) name = (name ≡ i.name) ⊎ IsOneOf is name

-- two such contents hold the same under the names of these files
abbrev pub AgreeOn : List Input → Contents → Contents → Type 0
AgreeOn [] files others = ⊤
AgreeOn (i ∷ is) files others = (content files i.name ≡ content others i.name) × AgreeOn is files others

-- how the program is called
abbrev pub usage_line : List ℕ
usage_line = codes "usage: ped show PROGRAM | session PROGRAM SCRIPT [--data FILE] | generate N" ++ 10 ∷ []

-- a file can't be read
abbrev pub cannot_read_line : List ℕ → List ℕ
cannot_read_line name = codes "ped: cannot read " ++ name ++ 10 ∷ []

-- a file is longer than it may be
abbrev pub too_long_line : Input → List ℕ
too_long_line i = codes "ped: " ++ i.name ++ codes " is longer than " ++ decimal i.most ++ codes " bytes" ++ 10 ∷ []

-- this answer and no other
abbrev pub IsJust : Status → List ℕ → Status → List ℕ → Type 0
IsJust only text status bytes = (status ≡ only) × (bytes ≡ text)

-- what is shown of a file's text: both panes of the program that its program units expand to, which are a main program and subroutines, or its first refusal
abbrev pub IsShown : List ℕ → Status → List ℕ → Type 0
IsShown text Done bytes = (t : ProgramTree) × IsExpansion text t × ArePanes t bytes
IsShown text ProgramRefused bytes = (f : UnitFinding) × RefusesUnits text f × (bytes ≡ refused_line f)
IsShown text SomeRefused bytes = ⊥
IsShown text BadWords bytes = ⊥
IsShown text ReadFault bytes = ⊥
IsShown text WriteFault bytes = ⊥
IsShown text NoMemory bytes = ⊥
IsShown text TooLong bytes = ⊥

-- these bytes are what a script answers on the program that a file's program units expand to, and this says whether a line was refused
pub record AnswersScript (text script data_bytes : List ℕ) (refused : Bool) (bytes : List ℕ) : Type 0 where
  pub tree : ProgramTree
  pub expands : IsExpansion text tree
  pub said : Said
  pub last : State
  pub answers : AnswersItems (commands_of script) data_bytes (opened tree) said last
  pub says : bytes ≡ said.bytes
  pub some : refused ≡ said.refused

-- what a session answers: what its script does on the printed text of the program that the file's program units expand to, where the status says that a line was refused; or the first refusal of the file's text
abbrev pub IsSession : List ℕ → List ℕ → List ℕ → Status → List ℕ → Type 0
IsSession text script data_bytes Done bytes = AnswersScript text script data_bytes false bytes
IsSession text script data_bytes SomeRefused bytes = AnswersScript text script data_bytes true bytes
IsSession text script data_bytes ProgramRefused bytes = (f : UnitFinding) × RefusesUnits text f × (bytes ≡ refused_line f)
IsSession text script data_bytes BadWords bytes = ⊥
IsSession text script data_bytes ReadFault bytes = ⊥
IsSession text script data_bytes WriteFault bytes = ⊥
IsSession text script data_bytes NoMemory bytes = ⊥
IsSession text script data_bytes TooLong bytes = ⊥

-- the answer where a file is read: that it isn't there, that it has too many bytes, or what is answered to its bytes
abbrev pub AnswersInput : Input → Contents → (List ℕ → Status → List ℕ → Type 0) → Status → List ℕ → Type 0
AnswersInput i files answers status bytes =
    MatchOption (content files i.name) (IsJust ReadFault (cannot_read_line i.name) status bytes)
    (λ text. MatchBool (nat_lt i.most (length text)) (IsJust TooLong (too_long_line i) status bytes) (answers text status bytes))

-- the answer where data are read: without a file they are empty
abbrev pub AnswersData : Option (List ℕ) → Contents → (List ℕ → Status → List ℕ → Type 0) → Status → List ℕ → Type 0
AnswersData None files answers status bytes = answers [] status bytes
AnswersData (Some file) files answers status bytes = AnswersInput (data_input file) files answers status bytes

-- the answer to a request: its status and its bytes, by what the shelf holds
abbrev pub Answers : Option Request → Contents → Status → List ℕ → Type 0
Answers None files status bytes = IsJust BadWords usage_line status bytes
Answers (Some (show program)) files status bytes = AnswersInput (source_input program) files IsShown status bytes
Answers (Some (session program script data_file)) files status bytes =
    AnswersInput (source_input program) files (λ text. AnswersInput (source_input script) files (λ commands. AnswersData data_file files (IsSession text commands))) status bytes
Answers (Some (generate number)) files status bytes = IsGenerated number status bytes

-- the endings of an answer on a program that was written whole
abbrev pub IsWhole : Status → Type 0
IsWhole Done = ⊤
IsWhole SomeRefused = ⊤
IsWhole BadWords = ⊥
IsWhole ReadFault = ⊥
IsWhole WriteFault = ⊥
IsWhole ProgramRefused = ⊥
IsWhole NoMemory = ⊥
IsWhole TooLong = ⊥

-- the endings that come only where all files of the words were read to their end
abbrev pub HasRead : Status → Type 0
HasRead Done = ⊤
HasRead SomeRefused = ⊤
HasRead BadWords = ⊥
HasRead ReadFault = ⊥
HasRead WriteFault = ⊥
HasRead ProgramRefused = ⊤
HasRead NoMemory = ⊥
HasRead TooLong = ⊥

-- these are the data of a session: what the file holds, or none without a file
abbrev pub AreData : Option (List ℕ) → Contents → List ℕ → Type 0
AreData None files data_bytes = data_bytes ≡ []
AreData (Some file) files data_bytes = content files file ≡ Some data_bytes

-- a file is there and has no more bytes than it may have
pub record IsHeldWithin (i : Input) (files : Contents) : Type 0 where
  pub bytes : List ℕ
  pub held : content files i.name ≡ Some bytes
  pub within : nat_lt i.most (length bytes) ≡ false

-- a file has more bytes than it may have
pub record IsTooLong (i : Input) (files : Contents) : Type 0 where
  pub bytes : List ℕ
  pub held : content files i.name ≡ Some bytes
  pub more : nat_lt i.most (length bytes) ≡ true

-- one of the files has more bytes than it may have, and all before it are there within their limits
abbrev pub HoldsTooMany : List Input → Contents → Type 0
HoldsTooMany [] files = ⊥
HoldsTooMany (i ∷ is) files = IsTooLong i files ⊎ (IsHeldWithin i files × HoldsTooMany is files)

-- the line says that a file can't be read whose count of faults rose, and all before it are there within their limits
abbrev pub CannotRead : List Input → Contents → (List ℕ → Type 0) → List ℕ → Type 0
CannotRead [] files failed line = ⊥
CannotRead (i ∷ is) files failed line = (failed i.name × (line ≡ cannot_read_line i.name)) ⊎ (IsHeldWithin i files × CannotRead is files failed line)

-- what may be given where these files are read and this is the answer: the answer; or that a file can't be read, only where its count of faults rose
abbrev pub MayGive : List Input → Contents → (List ℕ → Type 0) → (Status → List ℕ → Type 0) → Status → List ℕ → Type 0
MayGive inputs files failed answers ReadFault bytes = CannotRead inputs files failed bytes
MayGive inputs files failed answers Done bytes = answers Done bytes
MayGive inputs files failed answers SomeRefused bytes = answers SomeRefused bytes
MayGive inputs files failed answers BadWords bytes = answers BadWords bytes
MayGive inputs files failed answers ProgramRefused bytes = answers ProgramRefused bytes
MayGive inputs files failed answers TooLong bytes = answers TooLong bytes
MayGive inputs files failed answers WriteFault bytes = ⊥
MayGive inputs files failed answers NoMemory bytes = ⊥

-- what may be answered to a request
abbrev pub MayAnswer : Option Request → Contents → (List ℕ → Type 0) → Status → List ℕ → Type 0
MayAnswer request files failed status bytes = MayGive (inputs_of request) files failed (Answers request files) status bytes

-- some bytes are the front of others
abbrev pub IsFront : List ℕ → List ℕ → Type 0
IsFront front bytes = (rest : List ℕ) × (front ++ rest ≡ bytes)

-- nothing, or a front of what may be answered
abbrev pub IsFrontOfAnswer : (Status → List ℕ → Type 0) → List ℕ → Type 0
IsFrontOfAnswer answers sent = (sent ≡ []) ⊎ ((status : Status) × (bytes : List ℕ) × answers status bytes × IsFront sent bytes)

-- what was sent, and how it ended: an answer whole; or a front of one, where the sink failed or memory ran out
abbrev pub IsOutcome : (Status → List ℕ → Type 0) → Type 0 → List ℕ → Status → Type 0
IsOutcome answers sink_failed sent Done = answers Done sent
IsOutcome answers sink_failed sent SomeRefused = answers SomeRefused sent
IsOutcome answers sink_failed sent BadWords = answers BadWords sent
IsOutcome answers sink_failed sent ReadFault = answers ReadFault sent
IsOutcome answers sink_failed sent ProgramRefused = answers ProgramRefused sent
IsOutcome answers sink_failed sent TooLong = answers TooLong sent
IsOutcome answers sink_failed sent WriteFault = sink_failed × IsFrontOfAnswer answers sent
IsOutcome answers sink_failed sent NoMemory = IsFrontOfAnswer answers sent

-- what was sent after the bytes before, and how the call ended
abbrev pub Sends : (Status → List ℕ → Type 0) → Type 0 → List ℕ → List ℕ → Status → Type 0
Sends answers sink_failed before after status = (bytes : List ℕ) × (after ≡ before ++ bytes) × IsOutcome answers sink_failed bytes status

-- both panes of the tree, and no other answer
abbrev pub ShowsTree : ProgramTree → Status → List ℕ → Type 0
ShowsTree t status bytes = (status ≡ Done) × ArePanes t bytes
