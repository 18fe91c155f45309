use Rattle.std.proofs.Common.{◌≡◌, ◌++◌, map, drop}
use Rattle.ped_tree.specs.Views.{decl_tree}
use Rattle.ped_rules.specs.CodeSpans.{span_in}
use Rattle.ped_reduce.specs.Lowering.{declarations}
use Rattle.ped_reduce.specs.CodeLowering.{partials_view}
use Rattle.ped_reduce.proofs.partials.declare.Given as goal

abbrev pub invariant-loop-p : goal.invariant-loop-p
invariant-loop-p l =
    map decl_tree l.decls.items ++ declarations (span_in l.span) (map partials_view (drop l.p-index l.partials))
    ≡ map decl_tree l.initial.decls.items ++ declarations (span_in l.span) (map partials_view l.partials)
