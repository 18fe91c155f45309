use Rattle.std.proofs.Common.{◌≡◌, ◌∙◌, ◌+◌, ap, sym, subst, ◌∷◌, drop, add-one, arith}
use Rattle.ped_tree.specs.Views.{program_tree}
use Rattle.ped_refs.specs.References.{Reference, references, pairs}
use Rattle.ped_refs.specs.Occurrences.{references_of, pair_at}
use Rattle.ped_graph.specs.Dependences.{view_of}
use Rattle.ped_graph.specs.KnownProgram.{AreSides}
use Rattle.ped_graph.proofs.Places.{next_listed, index_there, same_length, none_left, more_made, all_made}
use Rattle.ped_graph.proofs.preparing.views_of_pairs.Goals as goal

pub add_view-requires-clause-sides : goal.add_view-requires-clause-sides
add_view-requires-clause-sides c = subst (AreSides (program_tree c.args.known.now.program.now) (references_of c.args.known.now.found.now)) (sym c.deref.ensures.value) c.in_ok-sides.ensures

pub loop-pair-preserved : goal.loop-pair-preserved
loop-pair-preserved c =
    let t = program_tree c.args.known.now.program.now in
    let refs = references_of c.args.known.now.found.now in
    let ps = pairs (references t) in
    let i = c.loop-pair.pair-index in
    let next = next_listed (pair_at refs) c.args.listed.now ps i _ c.requires.listed (index_there c.args.listed.now i _ c.loop-pair-test.true) in
    let behind : drop i ps ≡ next.0 ∷ drop (i + 1) ps = next.2 ∙ ap (λ (n : _). next.0 ∷ drop n ps) (sym (add-one i)) in
    record {
      views = more_made (λ (p : Reference × Reference). view_of t p.0 p.1) c.loop-pair.views.items _ _ next.0 (drop i ps) (drop (i + 1) ps) (c.in_ok-add_view.ensures next.0 next.1) behind c.loop-pair.invariant.views;
      round = c.in_ok-enter.ensures.round;
    }

pub returns : goal.returns
returns c =
    let t = program_tree c.args.known.now.program.now in
    let ps = pairs (references t) in
    let long = same_length _ c.args.listed.now ps c.requires.listed in
    let past = c.loop-pair-test.false in
    all_made (λ (p : Reference × Reference). view_of t p.0 p.1) c.loop-pair.views.items _ _ (none_left ps c.loop-pair.pair-index (omega (arith, long, past))) c.loop-pair.invariant.views
