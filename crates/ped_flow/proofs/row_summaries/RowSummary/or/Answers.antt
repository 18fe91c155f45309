use Rattle.std.proofs.Common.{◌||◌, length, sym, ap, ◌∙◌}
use Rattle.ped_flow.proofs.RowLaws.{length-union, length-without}
use Rattle.ped_flow.proofs.RowSummaries.{or_at, common_at, reads_or, not_either}
use Rattle.ped_flow.proofs.row_summaries.RowSummary.or.Goals as goal

pub invariant_of-self : goal.invariant_of-self
invariant_of-self c =
    let o = c.args.self.now in
    let p = c.args.other.now in
    let w = o.even in
    let v = p.even in
    record {
      even = record {
        reads = ap length c.or_into.ensures ∙ length-union o.reads p.reads (w.reads ∙ c.requires ∙ sym v.reads) ∙ w.reads;
        overwritten = ap length c.in_ok-overwritten.ensures ∙ length-without o.overwritten _ (sym (length-without o.overwritten p.overwritten (w.overwritten ∙ c.requires ∙ sym v.overwritten))) ∙ w.overwritten;
        ends = ap length c.or_into-2.ensures ∙ length-union o.ends p.ends (w.ends ∙ c.requires ∙ sym v.ends) ∙ w.ends;
        blocked = ap length c.in_ok-blocked.ensures ∙ length-without o.blocked _ (sym (length-without o.blocked p.blocked (w.blocked ∙ c.requires ∙ sym v.blocked))) ∙ w.blocked;
        loses = ap length c.or_into-3.ensures ∙ length-union o.loses p.loses (w.loses ∙ c.requires ∙ sym v.loses) ∙ w.loses;
      };
    }

pub returns-clause-held : goal.returns-clause-held
returns-clause-held c = λ i a b h k.
    let o = c.args.self.now in
    let p = c.args.other.now in
    let w = o.even in
    let v = p.even in
    record {
      reads = or_at o.reads p.reads _ i (w.reads ∙ c.requires ∙ sym v.reads) c.or_into.ensures ∙ reads_or _ _ a.first b.first h.reads k.reads;
      overwritten = common_at o.overwritten p.overwritten _ i (w.overwritten ∙ c.requires ∙ sym v.overwritten) c.in_ok-overwritten.ensures ∙ not_either _ _ a.keeps b.keeps h.overwritten k.overwritten;
      ends = or_at o.ends p.ends _ i (w.ends ∙ c.requires ∙ sym v.ends) c.or_into-2.ensures ∙ (λ j. h.ends j || k.ends j);
      blocked = common_at o.blocked p.blocked _ i (w.blocked ∙ c.requires ∙ sym v.blocked) c.in_ok-blocked.ensures ∙ not_either _ _ a.passes b.passes h.blocked k.blocked;
      loses = or_at o.loses p.loses _ i (w.loses ∙ c.requires ∙ sym v.loses) c.or_into-3.ensures ∙ (λ j. h.loses j || k.loses j);
    }
