use Rattle.std.proofs.Common.{◌≡◌, ℕ, List, Bool, map, length, IsTrue, sym, ap, subst, ◌∙◌, arith}
use Rattle.std.proofs.lemmas.List.{length-replicate, length-map}
use Rattle.ped_tree.specs.Tree.{StmtTrees}
use Rattle.ped_tree.specs.Views.{program_tree, head_of}
use Rattle.ped_rules.specs.ped_graph.specs.Dependences.{AreEdges}
use Rattle.ped_edges.specs.CodeEdges.{edge_of}
use Rattle.ped_edges.specs.declared.edges.Edge.{Edge}
use Rattle.ped_refs.specs.Occurrences.{references_of}
use Rattle.ped_rules.specs.ped_symbols.proofs.FewReferences.{few_statements, few_references}
use Rattle.ped_splits.specs.Units.{units}
use Rattle.ped_splits.specs.CodeUnits.{AreBelow, body_of, unit_tree}
use Rattle.ped_splits.proofs.ArrowLaws.{Adds}
use Rattle.ped_splits.proofs.ArrowRows.{leading, closed_arrows}
use Rattle.ped_splits.proofs.UnitSizes.{homes_below}
use Rattle.ped_splits.proofs.arrows.reaching.Goals as goal

pub add_dependences-requires : goal.add_dependences-requires
add_dependences-requires g c =
    let us = units (body_of c.args.parted.now) in
    let n = length c.args.parted.now.units.now in
    let long : length c.in_ok-arrows.arrows ≡ length us =
    ap (λ (m : List (List Bool)). length m) c.in_ok-arrows.ensures ∙ length-replicate n _ ∙ sym (length-map c.args.parted.now.units.now unit_tree) ∙ ap (λ (ts : List StmtTrees). length ts) c.requires.parted.parts in
    subst (λ (k : ℕ). AreBelow k c.args.parted.now.homes.now) (sym long) (subst (AreBelow (length us)) (sym c.requires.parted.places) (homes_below 0 (length us) us (omega arith)))

pub occurrences-requires-clause-statements : goal.occurrences-requires-clause-statements
occurrences-requires-clause-statements g c = few_statements (program_tree c.args.scene.now.tree.now) c.requires.scene.valid.fits

pub occurrences-requires-clause-references : goal.occurrences-requires-clause-references
occurrences-requires-clause-references g c = few_references (program_tree c.args.scene.now.tree.now) c.requires.scene.valid.fits

pub add_links-requires : goal.add_links-requires
add_links-requires g c =
    let us = units (body_of c.args.parted.now) in
    let n = length c.args.parted.now.units.now in
    let long : length c.add_dependences.new.arrows ≡ length us =
    c.add_dependences.ensures.width ∙ ap (λ (m : List (List Bool)). length m) c.in_ok-arrows.ensures ∙ length-replicate n _ ∙ sym (length-map c.args.parted.now.units.now unit_tree) ∙ ap (λ (ts : List StmtTrees). length ts) c.requires.parted.parts in
    subst (λ (k : ℕ). AreBelow k c.args.parted.now.homes.now) (sym long) (subst (AreBelow (length us)) (sym c.requires.parted.places) (homes_below 0 (length us) us (omega arith)))

pub returns : goal.returns
returns g c =
    let t = program_tree c.args.scene.now.tree.now in
    let s = c.args.parted.now.number in
    let h = head_of c.args.parted.now.statement.now in
    let body = body_of c.args.parted.now in
    let us = units body in
    let n = length c.args.parted.now.units.now in
    let edges = map edge_of c.deref.result.now in
    let are = subst (λ (es : List Edge). AreEdges t (map edge_of es)) (sym c.deref.ensures.value) (c.in_ok-edges.ensures.edges t c.requires.scene.graph) in
    let refs = references_of c.deref-2.result.now in
    let long : length c.add_links.new.arrows ≡ length us =
    c.in_ok-add_links.ensures.width ∙ c.add_dependences.ensures.width ∙ ap (λ (m : List (List Bool)). length m) c.in_ok-arrows.ensures ∙ length-replicate n _ ∙ sym (length-map c.args.parted.now.units.now unit_tree) ∙ ap (λ (ts : List StmtTrees). length ts) c.requires.parted.parts in
    let deps = subst (λ (rows : List (List Bool)). Adds rows c.add_dependences.new.arrows (λ i j. IsTrue (leading t s h body edges c.in_ok-level.level c.args.parted.now.homes.now i j))) c.in_ok-arrows.ensures c.add_dependences.ensures.arrows in (
      edges,
      are,
      closed_arrows t s h body edges c.in_ok-level.level c.args.parted.now.homes.now refs c.in_ok-level.ensures c.requires.parted.places (ap references_of c.deref-2.ensures.value ∙ c.in_ok-found.ensures) n n c.add_dependences.new.arrows c.add_links.new.arrows
          c.close.new.self long c.width-width.ensures.square deps c.in_ok-add_links.ensures.arrows c.close.ensures.width c.close.ensures.square c.close.ensures.reaches,
    )
