use Rattle.std.proofs.Common.{sym, ◌∙◌}
use Rattle.ped_flow.proofs.RowSummaries.{union_wide}
use Rattle.ped_flow.proofs.PartSummaries.{or_part}
use Rattle.ped_flow.proofs.parts.Part.or.Goals as goal

pub invariant_of-self-2 : goal.invariant_of-self-2
invariant_of-self-2 c =
    let o = c.args.self.now in
    let n = c.args.other.now in
    let w = c.in_ok-or.ensures.width in
    record {
      loose_wide = union_wide o.loose n.loose _ _ c.or_into.ensures (o.loose_wide ∙ sym w) (n.loose_wide ∙ sym c.requires ∙ sym w);
      indices_wide = union_wide o.indices n.indices _ _ c.or_into-2.ensures (o.indices_wide ∙ sym w) (n.indices_wide ∙ sym c.requires ∙ sym w);
    }

pub returns-clause-part : goal.returns-clause-part
returns-clause-part c = λ names f g p q u v h k.
    let o = c.args.self.now in
    let n = c.args.other.now in
    or_part names o n _ p q u v f g h k (o.loose_wide ∙ c.requires ∙ sym n.loose_wide) c.or_into.ensures (o.indices_wide ∙ c.requires ∙ sym n.indices_wide) c.or_into-2.ensures c.in_ok-or.ensures.width c.in_ok-or.ensures.held
