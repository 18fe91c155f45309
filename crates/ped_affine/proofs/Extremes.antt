-- MAX and MIN of intervals, argument by argument.
use Rattle.std.proofs.Common.{List, map, fold, Option}
use Rattle.std.specs.Prelude.{option_map}
use Rattle.ped_views.specs.declared.intervals.Interval.{Interval}
use Rattle.ped_tree.specs.declared.expressions.Expr.{Expr}
use Rattle.ped_tree.specs.Views.{expr_tree, pack_exprs}
use Rattle.ped_affine.specs.Ranges.{Setting, Around, intervals_of}

-- an operation from left to right that has come to an interval, with the arguments that are left
abbrev pub go_on : (Interval → Interval → Interval) → Setting → Around → Interval → List Expr → Option Interval
go_on f s around r es = option_map (λ rs. fold f r rs) (intervals_of s around (pack_exprs (map expr_tree es)))
