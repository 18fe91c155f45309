use Rattle.std.proofs.Common.{List, sym, subst}
use Rattle.ped_tree.specs.Views.{program_tree}
use Rattle.ped_refs.specs.Occurrences.{references_of}
use Rattle.ped_graph.specs.KnownProgram.{AreSides}
use Rattle.ped_graph.specs.declared.sides.Side.{Side}
use Rattle.ped_update.proofs.matching.matched.Goals as goal

pub match_pairs-requires-clause-sides : goal.match_pairs-requires-clause-sides
match_pairs-requires-clause-sides g c =
    subst (λ (ws : List Side). AreSides (program_tree c.args.known.now.program.now) (references_of c.args.known.now.found.now) ws) (sym c.deref.ensures.value) c.in_ok-sides.ensures

pub returns-clause-parts : goal.returns-clause-parts
returns-clause-parts g c = λ once. c.in_ok-match_pairs.ensures.parts c.args.keep.now once c.in_ok-statements.ensures

pub returns-clause-ticks : goal.returns-clause-ticks
returns-clause-ticks g c = λ once. c.in_ok-match_pairs.ensures.ticks c.args.keep.now once c.in_ok-statements.ensures

pub returns-clause-most : goal.returns-clause-most
returns-clause-most g c = λ once. c.match_pairs.ensures.most c.args.keep.now once c.in_ok-statements.ensures

pub returns-in_err-match_pairs-clause-most : goal.returns-in_err-match_pairs-clause-most
returns-in_err-match_pairs-clause-most g c = λ once. c.match_pairs.ensures.most c.args.keep.now once c.in_ok-statements.ensures
