-- Commands by their kinds: what each asks for, and which take a step (this project).
use Rattle.std.specs.Prelude.{ℕ, List, [], Bool, true, false, Option, Some, None, ⊤}
use Rattle.ped_certificates.specs.declared.claims.EvidenceLine.{EvidenceLine}
use Rattle.ped_script.specs.declared.items.Command.{Command}
use Rattle.ped_script.specs.declared.items.Command.TheVariants as command
use Rattle.ped_script.specs.declared.kinds.WhichStep.{WhichStep}
use Rattle.ped_script.specs.declared.kinds.WhichStep.TheVariants.{Interchange, Reverse, Skew, Strip, Peel, Distribute, Fuse, Inline, Expand, Privatise, Reduce, Parallel, InterchangeBy, ReverseBy, ParallelBy, Serial, Reject}
use Rattle.ped_script.specs.declared.kinds.StepCommand.{StepCommand}
use Rattle.ped_script.specs.declared.kinds.Query.TheVariants.{Source, Deps, Show, Calls, Print, Advise, Tested, System}
use Rattle.ped_script.specs.declared.kinds.LineEdit.TheVariants.{Replace, Insert}
use Rattle.ped_script.specs.declared.kinds.HistoryMove.TheVariants.{Undo, Redo}
use Rattle.ped_script.specs.declared.kinds.ProgramRun.TheVariants.{Run, Races}
use Rattle.ped_script.specs.declared.kinds.CommandKind.{CommandKind}
use Rattle.ped_script.specs.declared.kinds.CommandKind.TheVariants as kind

-- a step at a statement
abbrev pub at_statement : ℕ → WhichStep → StepCommand
at_statement number step = record { statement = number; step = step }

-- the kind of a command, with all that it says
abbrev pub kind_of : Command → CommandKind
kind_of command.Source = kind.Ask Source
kind_of (command.Deps of) = kind.Ask (Deps of)
kind_of command.Show = kind.Ask Show
kind_of command.Calls = kind.Ask Calls
kind_of command.Print = kind.Ask Print
kind_of (command.Advise number) = kind.Ask (Advise number)
kind_of command.Tested = kind.Ask Tested
kind_of (command.System source sink pattern) = kind.Ask (System source sink pattern)
kind_of (command.Replace first last lines) = kind.Edit (Replace first last lines)
kind_of (command.Insert after lines) = kind.Edit (Insert after lines)
kind_of (command.Delete first last) = kind.Edit (Replace first last [])
kind_of (command.Interchange number) = kind.Step (at_statement number Interchange)
kind_of (command.Reverse number) = kind.Step (at_statement number Reverse)
kind_of (command.Skew number factor) = kind.Step (at_statement number (Skew factor))
kind_of (command.Strip number size) = kind.Step (at_statement number (Strip size))
kind_of (command.Peel number last) = kind.Step (at_statement number (Peel last))
kind_of (command.Distribute number) = kind.Step (at_statement number Distribute)
kind_of (command.Fuse number) = kind.Step (at_statement number Fuse)
kind_of (command.Inline number) = kind.Step (at_statement number Inline)
kind_of (command.Expand number name) = kind.Step (at_statement number (Expand name))
kind_of (command.Privatise number name) = kind.Step (at_statement number (Privatise name))
kind_of (command.Reduce number names) = kind.Step (at_statement number (Reduce names))
kind_of (command.Parallel number) = kind.Step (at_statement number Parallel)
kind_of (command.InterchangeBy number evidence) = kind.Step (at_statement number (InterchangeBy evidence))
kind_of (command.ReverseBy number evidence) = kind.Step (at_statement number (ReverseBy evidence))
kind_of (command.ParallelBy number evidence) = kind.Step (at_statement number (ParallelBy evidence))
kind_of (command.Serial number) = kind.Step (at_statement number Serial)
kind_of (command.Reject number name) = kind.Step (at_statement number (Reject name))
kind_of command.Auto = kind.Auto
kind_of command.Undo = kind.Move Undo
kind_of command.Redo = kind.Move Redo
kind_of (command.Run choices) = kind.Run (Run choices)
kind_of command.Races = kind.Run Races

-- the step that a command of this kind takes, where it takes one
abbrev pub step_among : CommandKind → Option StepCommand
step_among (kind.Step step) = Some step
step_among (kind.Ask query) = None
step_among (kind.Edit edit) = None
step_among kind.Auto = None
step_among (kind.Move way) = None
step_among (kind.Run run) = None

-- the step that a command takes, where it takes one
abbrev pub step_in : Command → Option StepCommand
step_in c = step_among (kind_of c)

-- the evidence with which a step is taken; most steps take none
abbrev pub evidence_of : WhichStep → List EvidenceLine
evidence_of (InterchangeBy evidence) = evidence
evidence_of (ReverseBy evidence) = evidence
evidence_of (ParallelBy evidence) = evidence
evidence_of step = []

-- the evidence of a command of this kind, where it takes a step
abbrev pub evidence_among : CommandKind → List EvidenceLine
evidence_among (kind.Step command) = evidence_of command.step
evidence_among (kind.Ask query) = []
evidence_among (kind.Edit edit) = []
evidence_among kind.Auto = []
evidence_among (kind.Move way) = []
evidence_among (kind.Run run) = []

-- the evidence of a command
abbrev pub evidence_in : Command → List EvidenceLine
evidence_in c = evidence_among (kind_of c)

-- a command of this kind goes along the history
abbrev pub IsMove : CommandKind → Type 0
IsMove (kind.Move way) = ⊤
IsMove (kind.Ask query) = ⊥
IsMove (kind.Edit edit) = ⊥
IsMove (kind.Step step) = ⊥
IsMove kind.Auto = ⊥
IsMove (kind.Run run) = ⊥

-- the step rejects dependences, and transforms nothing
abbrev pub is_rejection : WhichStep → Bool
is_rejection (Reject name) = true
is_rejection step = false
