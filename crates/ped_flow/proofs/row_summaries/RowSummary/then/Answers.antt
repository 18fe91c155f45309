use Rattle.std.proofs.Common.{sym, ap, ◌∙◌}
use Rattle.ped_bits.specs.Places.{union}
use Rattle.ped_flow.proofs.RowSummaries.{less_wide, union_wide, or_less_at, or_at, less_or_at, reads_then, ends_then, not_both, loses_then}
use Rattle.ped_flow.proofs.row_summaries.RowSummary.then.Goals as goal

pub or_into-requires : goal.or_into-requires
or_into-requires c =
    let o = c.args.self.now in
    let n = c.args.next.now in
    less_wide n.reads o.overwritten _ o.width c.in_ok-reads.ensures (n.even.reads ∙ sym c.requires) o.even.overwritten ∙ sym o.even.reads

pub or_into-requires-2 : goal.or_into-requires-2
or_into-requires-2 c =
    let o = c.args.self.now in
    let n = c.args.next.now in
    less_wide n.ends o.overwritten _ o.width c.in_ok-ends.ensures (n.even.ends ∙ sym c.requires) o.even.overwritten ∙ sym o.even.ends

pub or_into-requires-3 : goal.or_into-requires-3
or_into-requires-3 c =
    let o = c.args.self.now in
    let n = c.args.next.now in
    less_wide n.loses o.blocked _ o.width c.in_ok-loses.ensures (n.even.loses ∙ sym c.requires) o.even.blocked
    ∙ sym (less_wide o.loses n.overwritten _ o.width c.and_not_into.ensures o.even.loses (n.even.overwritten ∙ sym c.requires))

pub invariant_of-self : goal.invariant_of-self
invariant_of-self c =
    let o = c.args.self.now in
    let n = c.args.next.now in
    record {
      even = record {
        reads = union_wide o.reads _ _ o.width c.or_into.ensures o.even.reads (less_wide n.reads o.overwritten _ o.width c.in_ok-reads.ensures (n.even.reads ∙ sym c.requires) o.even.overwritten);
        overwritten = union_wide o.overwritten n.overwritten _ o.width c.or_into-4.ensures o.even.overwritten (n.even.overwritten ∙ sym c.requires);
        ends = union_wide o.ends _ _ o.width c.or_into-2.ensures o.even.ends (less_wide n.ends o.overwritten _ o.width c.in_ok-ends.ensures (n.even.ends ∙ sym c.requires) o.even.overwritten);
        blocked = union_wide o.blocked n.blocked _ o.width c.or_into-5.ensures o.even.blocked (n.even.blocked ∙ sym c.requires);
        loses = union_wide _ _ _ o.width c.or_into-3.ensures (less_wide o.loses n.overwritten _ o.width c.and_not_into.ensures o.even.loses (n.even.overwritten ∙ sym c.requires)) (less_wide n.loses o.blocked _ o.width c.in_ok-loses.ensures (n.even.loses ∙ sym c.requires) o.even.blocked);
      };
    }

pub returns-clause-held : goal.returns-clause-held
returns-clause-held c = λ i a b h k.
    let o = c.args.self.now in
    let n = c.args.next.now in
    record {
      reads = or_less_at o.reads n.reads o.overwritten _ i (o.even.reads ∙ c.requires ∙ sym n.even.reads) (n.even.reads ∙ sym c.requires ∙ sym o.even.overwritten) (c.or_into.ensures ∙ ap (union o.reads) c.in_ok-reads.ensures)
          ∙ reads_then _ _ _ a.first b.first a.keeps h.reads k.reads h.overwritten;
      overwritten = or_at o.overwritten n.overwritten _ i (o.even.overwritten ∙ c.requires ∙ sym n.even.overwritten) c.or_into-4.ensures ∙ not_both _ _ a.keeps b.keeps h.overwritten k.overwritten;
      ends = or_less_at o.ends n.ends o.overwritten _ i (o.even.ends ∙ c.requires ∙ sym n.even.ends) (n.even.ends ∙ sym c.requires ∙ sym o.even.overwritten) (c.or_into-2.ensures ∙ ap (union o.ends) c.in_ok-ends.ensures)
          ∙ ends_then _ _ _ a.ends b.ends a.keeps h.ends k.ends h.overwritten;
      blocked = or_at o.blocked n.blocked _ i (o.even.blocked ∙ c.requires ∙ sym n.even.blocked) c.or_into-5.ensures ∙ not_both _ _ a.passes b.passes h.blocked k.blocked;
      loses = less_or_at o.loses n.overwritten n.loses o.blocked _ i (o.even.loses ∙ c.requires ∙ sym n.even.overwritten) (o.even.loses ∙ c.requires ∙ sym n.even.loses) (n.even.loses ∙ sym c.requires ∙ sym o.even.blocked)
          (c.or_into-3.ensures ∙ (λ j. union (c.and_not_into.ensures j) (c.in_ok-loses.ensures j)))
          ∙ loses_then _ _ _ _ a.loses b.keeps b.loses a.passes h.loses k.overwritten k.loses h.blocked;
    }
