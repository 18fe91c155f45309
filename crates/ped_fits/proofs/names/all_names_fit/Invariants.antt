use Rattle.std.proofs.Common.{◌≡◌, drop}
use Rattle.std.specs.List.{list_all}
use Rattle.ped_tree.specs.Grammar.Words.{is_name}
use Rattle.ped_fits.proofs.names.all_names_fit.Given as goal

abbrev pub invariant-loop-name : goal.invariant-loop-name
invariant-loop-name l = list_all is_name (drop l.name-index l.names) ≡ list_all is_name l.names
