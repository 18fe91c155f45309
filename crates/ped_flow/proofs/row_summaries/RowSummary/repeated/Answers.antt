use Rattle.std.proofs.Common.{◌||◌, sym, ◌∙◌}
use Rattle.ped_flow.proofs.RowSummaries.{or_at, union_wide}
use Rattle.ped_flow.proofs.row_summaries.RowSummary.repeated.Goals as goal

pub invariant_of-trips : goal.invariant_of-trips
invariant_of-trips c =
    let p = c.in_ok-trips.trips in
    let s = c.args.self.now in
    let w = c.in_ok-trips.ensures.width in
    record {
      even = record {
        reads = union_wide p.reads s.reads _ _ c.or_into.ensures p.even.reads (s.even.reads ∙ sym w);
        overwritten = p.even.overwritten;
        ends = union_wide p.ends s.ends _ _ c.or_into-2.ensures p.even.ends (s.even.ends ∙ sym w);
        blocked = p.even.blocked;
        loses = union_wide p.loses s.loses _ _ c.or_into-3.ensures p.even.loses (s.even.loses ∙ sym w);
      };
    }

pub returns-clause-held : goal.returns-clause-held
returns-clause-held c = λ i a h.
    let p = c.in_ok-trips.trips in
    let s = c.args.self.now in
    let w = c.in_ok-trips.ensures.width in
    let g = c.in_ok-trips.ensures.held i in
    record {
      reads = or_at p.reads s.reads _ i (p.even.reads ∙ w ∙ sym s.even.reads) c.or_into.ensures ∙ (λ j. g.reads j || h.reads j);
      overwritten = g.overwritten;
      ends = or_at p.ends s.ends _ i (p.even.ends ∙ w ∙ sym s.even.ends) c.or_into-2.ensures ∙ (λ j. g.ends j || h.ends j);
      blocked = g.blocked;
      loses = or_at p.loses s.loses _ i (p.even.loses ∙ w ∙ sym s.even.loses) c.or_into-3.ensures ∙ (λ j. g.loses j || h.loses j);
    }
