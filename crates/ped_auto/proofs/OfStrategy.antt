-- What is so of each command that the strategy may take.
use Rattle.std.proofs.Common.{ℕ, List}
use Rattle.ped_script.specs.declared.items.Command.{Command}
use Rattle.ped_script.specs.declared.items.Command.TheVariants.{Source, Deps, Show, Calls, Print, Advise, Replace, Insert, Delete, Interchange, InterchangeBy, Reverse, ReverseBy, Skew, Strip, Peel, Distribute, Fuse, Inline, Expand, Privatise, Reduce, Parallel, ParallelBy, Serial, Reject, Auto, Undo, Redo, Run, Races, System, Tested}
use Rattle.ped_auto.specs.Editing.{IsOfStrategy}

-- it is so of each of the four
pub record IsSoOfStrategy (IsSo : Command → Type 0) : Type 0 where
  pub parallel : (number : ℕ) → IsSo (Parallel number)
  pub privatise : (number : ℕ) (name : List ℕ) → IsSo (Privatise number name)
  pub reduce : (number : ℕ) (names : List (List ℕ)) → IsSo (Reduce number names)
  pub distribute : (number : ℕ) → IsSo (Distribute number)

module _ (IsSo : Command → Type 0) (so : IsSoOfStrategy IsSo) where
  pub so_of_strategy : (c : Command) → IsOfStrategy c → IsSo c
  so_of_strategy (Parallel number) is = so.parallel number
  so_of_strategy (Privatise number name) is = so.privatise number name
  so_of_strategy (Reduce number names) is = so.reduce number names
  so_of_strategy (Distribute number) is = so.distribute number
  so_of_strategy Source is = absurd is
  so_of_strategy (Deps of) is = absurd is
  so_of_strategy Show is = absurd is
  so_of_strategy Calls is = absurd is
  so_of_strategy Print is = absurd is
  so_of_strategy (Advise number) is = absurd is
  so_of_strategy (Replace first last lines) is = absurd is
  so_of_strategy (Insert after lines) is = absurd is
  so_of_strategy (Delete first last) is = absurd is
  so_of_strategy (Interchange number) is = absurd is
  so_of_strategy (InterchangeBy number evidence) is = absurd is
  so_of_strategy (Reverse number) is = absurd is
  so_of_strategy (ReverseBy number evidence) is = absurd is
  so_of_strategy (Skew number factor) is = absurd is
  so_of_strategy (Strip number size) is = absurd is
  so_of_strategy (Peel number last) is = absurd is
  so_of_strategy (Fuse number) is = absurd is
  so_of_strategy (Inline number) is = absurd is
  so_of_strategy (Expand number name) is = absurd is
  so_of_strategy (ParallelBy number evidence) is = absurd is
  so_of_strategy (Serial number) is = absurd is
  so_of_strategy (Reject number name) is = absurd is
  so_of_strategy Auto is = absurd is
  so_of_strategy Undo is = absurd is
  so_of_strategy Redo is = absurd is
  so_of_strategy (Run choices) is = absurd is
  so_of_strategy Races is = absurd is
  so_of_strategy (System source sink pattern) is = absurd is
  so_of_strategy Tested is = absurd is
