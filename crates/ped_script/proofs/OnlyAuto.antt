-- Only `auto` is of its kind.
use Rattle.std.proofs.Common.{◌≡◌, refl}
use Rattle.ped_script.specs.declared.items.Command.{Command}
use Rattle.ped_script.specs.declared.items.Command.TheVariants.{Source, Deps, Show, Calls, Print, Advise, Replace, Insert, Delete, Interchange, Reverse, Skew, Strip, Peel, Distribute, Fuse, Inline, Expand, Privatise, Reduce, Parallel, InterchangeBy, ReverseBy, ParallelBy, Serial, Reject, Auto, Undo, Redo, Run, Races, Tested, System}
use Rattle.ped_script.specs.declared.kinds.CommandKind.TheVariants as kind
use Rattle.ped_script.specs.Kinds.{kind_of}

pub only_auto : (c : Command) → kind_of c ≡ kind.Auto → c ≡ Auto
only_auto Auto is = refl
only_auto Source is = absurd cc
only_auto (Deps of) is = absurd cc
only_auto Show is = absurd cc
only_auto Calls is = absurd cc
only_auto Print is = absurd cc
only_auto (Advise number) is = absurd cc
only_auto (Replace first last lines) is = absurd cc
only_auto (Insert after lines) is = absurd cc
only_auto (Delete first last) is = absurd cc
only_auto (Interchange number) is = absurd cc
only_auto (Reverse number) is = absurd cc
only_auto (Skew number factor) is = absurd cc
only_auto (Strip number size) is = absurd cc
only_auto (Peel number last) is = absurd cc
only_auto (Distribute number) is = absurd cc
only_auto (Fuse number) is = absurd cc
only_auto (Inline number) is = absurd cc
only_auto (Expand number name) is = absurd cc
only_auto (Privatise number name) is = absurd cc
only_auto (Reduce number names) is = absurd cc
only_auto (Parallel number) is = absurd cc
only_auto (InterchangeBy number evidence) is = absurd cc
only_auto (ReverseBy number evidence) is = absurd cc
only_auto (ParallelBy number evidence) is = absurd cc
only_auto (Serial number) is = absurd cc
only_auto (Reject number name) is = absurd cc
only_auto Undo is = absurd cc
only_auto Redo is = absurd cc
only_auto (Run choices) is = absurd cc
only_auto Races is = absurd cc
only_auto Tested is = absurd cc
only_auto (System source sink pattern) is = absurd cc
