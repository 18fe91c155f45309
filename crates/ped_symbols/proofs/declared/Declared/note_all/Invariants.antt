use Rattle.std.proofs.Common.{◌≡◌, [], take}
use Rattle.ped_symbols.specs.Passes.{KnowsUses}
use Rattle.ped_symbols.proofs.declared.Declared.note_all.Given as goal

abbrev pub invariant-loop-u : goal.invariant-loop-u
invariant-loop-u l = record {
  implicit : l.self.implicit ≡ l.initial.self.implicit;
  program : l.self.program ≡ l.initial.self.program;
  uses : KnowsUses l.initial.self [] → KnowsUses l.self (take l.u-index l.uses);
}
