use Rattle.std.proofs.Common.{List, ◌∙◌, map, ap}
use Rattle.ped_tree.specs.Views.{program_tree}
use Rattle.ped_refs.specs.References.{references, outermost}
use Rattle.ped_refs.specs.ListedReferences.{ref_of, AreInOrder, AreOfProgram}
use Rattle.ped_refs.specs.Occurrences.{references_of}
use Rattle.ped_refs.specs.declared.occurring.Occurrence.{Occurrence}
use Rattle.ped_refs.proofs.listing.refs.Goals as goal

pub count_pairs-requires : goal.count_pairs-requires
count_pairs-requires c = record {
  tree = program_tree c.args.program.now;
  are = record { items = c.in_ok-refs.ensures.items ∙ ap (λ (os : List Occurrence). map ref_of (references_of os)) c.deref.ensures.value ∙ ap (map ref_of) c.in_ok-found.ensures; outer = c.in_ok-refs.ensures.outer ∙ ap (λ (os : List Occurrence). map outermost (references_of os)) c.deref.ensures.value ∙ ap (map outermost) c.in_ok-found.ensures };
  few = c.requires.references;
}

pub returns : goal.returns
returns c =
    let t = program_tree c.args.program.now in
    let are : AreInOrder t c.in_ok-refs.refs = record { items = c.in_ok-refs.ensures.items ∙ ap (λ (os : List Occurrence). map ref_of (references_of os)) c.deref.ensures.value ∙ ap (map ref_of) c.in_ok-found.ensures; outer = c.in_ok-refs.ensures.outer ∙ ap (λ (os : List Occurrence). map outermost (references_of os)) c.deref.ensures.value ∙ ap (map outermost) c.in_ok-found.ensures } in
    record { in_order = record { items = are.items; outer = are.outer }; pairs = c.in_ok-refs-2.ensures t are }
