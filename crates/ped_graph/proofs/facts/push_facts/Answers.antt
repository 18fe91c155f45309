use Rattle.std.proofs.Common.{◌≡◌, ◌∙◌, ◌++◌, ◌∷◌, [], List, map, length, ap}
use Rattle.std.specs.Prelude.{◌&&◌}
use Rattle.ped_tree.specs.Nests.{common_nest}
use Rattle.ped_refs.specs.Occurrences.{reference_of}
use Rattle.ped_refs.specs.Loops.{nest_of}
use Rattle.ped_graph.specs.Dependences.{place_of}
use Rattle.ped_graph.specs.CodeFacts.{framed_of}
use Rattle.ped_graph.specs.declared.facts.Facts.{Facts}
use Rattle.ped_graph.specs.declared.own_facts.OwnFacts.{OwnFacts}
use Rattle.ped_graph.proofs.Slices.{map_more}
use Rattle.ped_graph.proofs.facts.push_facts.Goals as goal

pub returns : goal.returns
returns c = λ facts first second.
    let old = c.args.all.now.items in
    let source = reference_of c.args.source.now in
    let sink = reference_of c.args.sink.now in
    let owner = c.common_owner.ensures source sink (ap (λ (o : OwnFacts). o.owner) first) (ap (λ (o : OwnFacts). o.owner) second) (ap (λ (o : OwnFacts). o.level) first) in
    let common : c.common_depth-common.result ≡ length (common_nest source.nest sink.nest) =
    c.common_depth-common.ensures ∙ (λ i. length (common_nest (nest_of (c.as_slice.ensures.value i)) (nest_of (c.as_slice-2.ensures.value i)))) in
    let rejecting = c.rejecting_levels.ensures source sink (ap (λ (o : OwnFacts). o.rejecting) first) common in
    let firm = c.both.ensures ∙ (λ i. (first i).firm && (second i).firm) in
    ap (λ (fs : List Facts). map framed_of fs) c.in_ok-push.ensures.items ∙ map_more framed_of old _
    ∙ (λ i. map framed_of old ++ (record {
      source = place_of source;
      sink = place_of sink;
      name = source.access.name;
      kind = c.kind_of.ensures i;
      is_forward = c.comes_before.ensures i;
      owner = owner i;
      firm = firm i;
      rejecting = rejecting i;
    }) ∷ [])
