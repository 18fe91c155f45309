-- A script of accepted commands, one after another (this project).
use Rattle.std.specs.Prelude.{◌≡◌, ℕ, ◌+◌, List, [], ◌∷◌, true}
use Rattle.ped_script.specs.declared.items.Command.{Command}
use Rattle.ped_script.specs.CommandTexts.{IsShortName}
use Rattle.ped_rules.specs.ped_flow.specs.ped_tree.specs.Tree.{ProgramTree}
use Rattle.ped_auto.specs.CarriedNames.{is_scalar_name}
use Rattle.ped_auto.specs.Editing.{Editing}

-- an editor accepts the commands one after another; this is the last state, and this many pairs of references are tested on the way
abbrev pub Replays : {S : Type 0} → Editing S → S → List Command → S → ℕ → Type 0
Replays e s [] last tests = (last ≡ s) × (tests ≡ 0)
Replays {S} e s (c ∷ cs) last tests =
    (next : S) × (first : ℕ) × (rest : ℕ) × e.Accepts s c next first × Replays e next cs last rest × (tests ≡ first + rest)

-- the scalars of each present program have names that a script can write
abbrev pub HasShortNames : {S : Type 0} → Editing S → Type 0
HasShortNames {S} e = (s : S) (t : ProgramTree) (x : List ℕ) → e.Reads s t → is_scalar_name t x ≡ true → IsShortName x
