use Rattle.std.proofs.Common.{drop}
use Rattle.ped_calls.specs.Giving.{given_of, HasNext}
use Rattle.ped_calls.specs.Meaning.{meanings_of}
use Rattle.ped_links.specs.ped_units.specs.Views.{program_unit_of}
use Rattle.ped_calls.proofs.NamedAlike.{NamesOn, with_literals}
use Rattle.ped_calls.proofs.binding.add_names.Given as goal

abbrev pub invariant-loop-name : goal.invariant-loop-name
invariant-loop-name l = record {
  names : NamesOn (program_unit_of l.unit) l.name-items (with_literals (program_unit_of l.unit) (meanings_of l.initial.meanings) (given_of l.initial.given))
      (drop l.name-index l.name-items) (record { meanings = meanings_of l.meanings; given = given_of l.given });
  next : HasNext l.given;
}
