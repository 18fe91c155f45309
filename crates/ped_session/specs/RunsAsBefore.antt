-- What the runs of a script show (ParaScope; this project).
use Rattle.std.specs.Prelude.{◌≡◌, ℕ, List, [], ◌∷◌, Option, Some}
use Rattle.ped_script.specs.declared.items.Command.{Command}
use Rattle.ped_script.specs.declared.items.Command.TheVariants.{Run}
use Rattle.ped_script.specs.declared.items.Item.{Item}
use Rattle.ped_versions.specs.States.{State}
use Rattle.ped_session.specs.Meanings.{IsMeaningKept, ShowsAsBefore}
use Rattle.ped_session.specs.Scripts.{Said, nothing_said, said_both, AnswersItem}

-- where a command is `run`, with whatever choices, it shows what each program shows from which the present one has come by transformations alone, if that one is tidy and without C$PED REJECT and runs without a fault and without a race, or, where no list of sums of the present program is live, if that one so runs, and all programs on the way are tidy and their C$PED REJECT lines are true on the data (ParaScope; this project)
abbrev pub RunsAsBefore : Option Command → List ℕ → State → Said → Type 0
RunsAsBefore command data_bytes s said = (choices : List ℕ) → command ≡ Some (Run choices) → ShowsAsBefore s data_bytes said.bytes

-- items answer one after another; each transformation in the history keeps the meaning, and each run shows what the earlier programs show (ParaScope; this project)
abbrev pub AnswersAsBefore : List Item → List ℕ → State → Said → State → Type 0
AnswersAsBefore [] data_bytes s said last = IsMeaningKept s × (said ≡ nothing_said) × (last ≡ s)
AnswersAsBefore (item ∷ items) data_bytes s said last =
    IsMeaningKept s × (first : Said) × (next : State) × AnswersItem item data_bytes s first next × RunsAsBefore item.command data_bytes s first
    × (rest : Said) × AnswersAsBefore items data_bytes next rest last × (said ≡ said_both first rest)
