use Rattle.std.proofs.Common.{◌≡◌, map, drop}
use Rattle.ped_tree.specs.Views.{decl_tree}
use Rattle.ped_tree.specs.Grammar.Fits.{decls_fit}
use Rattle.ped_fits.proofs.declarations.decls_fit.Given as goal

abbrev pub invariant-loop-decl : goal.invariant-loop-decl
invariant-loop-decl l = decls_fit l.phase (map decl_tree (drop l.decl-index l.decls)) ≡ decls_fit 0 (map decl_tree l.decls)
