-- What the answers to questions say (this project).
use Rattle.std.specs.Prelude.{ℕ, List, Option, Some, None}
use Rattle.ped_tree.specs.Tree.{ProgramTree}
use Rattle.ped_flow.specs.Questions.{IsFirst, IsReadBehind, IsShownBehind, IsLiveAfter, IsContained, IsBrokenBy, IsShown}
use Rattle.ped_flow.specs.declared.flows.Reader.{Reader}
use Rattle.ped_flow.specs.declared.flows.Reader.TheVariants.{Statement, Saved}

-- the scalar isn't live after the DO; or this is the first statement that may read it; or no statement may, and the program's end may show it
abbrev pub IsReader : ProgramTree → ℕ → List ℕ → Option Reader → Type 0
IsReader t l x None = IsLiveAfter t l x → ⊥
IsReader t l x (Some (Statement n)) = IsFirst (IsReadBehind t l x) (Some n)
IsReader t l x (Some Saved) = IsFirst (IsReadBehind t l x) None × IsShownBehind t l x

-- the DO is contained; or this is the first statement by whose read it isn't; or there is none, and the program's end may show its variable or that of a DO in it
abbrev pub IsEscape : ProgramTree → ℕ → Option Reader → Type 0
IsEscape t l None = IsContained t l
IsEscape t l (Some (Statement n)) = IsFirst (IsBrokenBy t l) (Some n)
IsEscape t l (Some Saved) = IsFirst (IsBrokenBy t l) None × IsShown t l
