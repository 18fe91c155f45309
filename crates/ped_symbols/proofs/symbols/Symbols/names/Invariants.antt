use Rattle.std.proofs.Common.{◌≡◌, ◌++◌, map}
use Rattle.ped_symbols.proofs.symbols.Symbols.names.Given as goal

abbrev pub invariant-loop-name : goal.invariant-loop-name
invariant-loop-name l = l.names ++ l.name-iterator ≡ map (λ e. e.0) l.self.kinds
