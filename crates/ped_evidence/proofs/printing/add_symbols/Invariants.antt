use Rattle.std.proofs.Common.{◌≡◌, ◌++◌, drop}
use Rattle.ped_evidence.proofs.printing.add_symbols.Given as goal

abbrev pub invariant-loop-symbol : goal.invariant-loop-symbol
invariant-loop-symbol l = l.names ++ drop l.symbol-index l.symbols ≡ l.fn.names ++ l.symbols
