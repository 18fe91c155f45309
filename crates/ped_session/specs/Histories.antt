-- What holds of a session whatever is done (ParaScope; this project).
use Rattle.std.specs.Prelude.{◌≡◌, ℕ, zero, suc, List, All}
use Rattle.ped_tree.specs.Tree.{ProgramTree}
use Rattle.ped_tree.specs.Printing.{program_text}
use Rattle.ped_transformations.specs.ped_symbols.specs.NameRefusals.{IsValid}
use Rattle.ped_script.specs.declared.items.Command.{Command}
use Rattle.ped_session.specs.declared.replies.Reply.TheVariants.{Changed}
use Rattle.ped_versions.specs.States.{Other, State}
use Rattle.ped_session.specs.Steps.{IsStep}

-- a text is the printed text of a valid program
abbrev pub IsPrinted : List ℕ → Type 0
IsPrinted text = (t : ProgramTree) × IsValid t × (text ≡ program_text t)

-- all sources of a session are printed texts of valid programs
pub record ArePrinted (s : State) : Type 0 where
  pub past : All (λ (o : Other). IsPrinted o.0) s.past
  pub present : IsPrinted s.present
  pub future : All (λ (o : Other). IsPrinted o.0) s.future

-- two states have the same sources, with the same changes between them
pub record HaveSameSources (s u : State) : Type 0 where
  pub past : s.past ≡ u.past
  pub present : s.present ≡ u.present
  pub future : s.future ≡ u.future

-- a command is accepted this many times one after another
abbrev pub Times : ℕ → Command → List ℕ → State → State → Type 0
Times zero command data_bytes s last = last ≡ s
Times (suc n) command data_bytes s last = (next : State) × IsStep command data_bytes s Changed next × Times n command data_bytes next last
