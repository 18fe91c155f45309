use Rattle.std.proofs.Common.{◌≡◌, length, ◌||◌, sym, ◌∙◌}
use Rattle.ped_flow.specs.RowPlaces.{bit}
use Rattle.ped_flow.proofs.RowSummaries.{or_at, union_wide, cleared_first, cleared_keeps, cleared_ends, cleared_passes, cleared_loses}
use Rattle.ped_flow.proofs.row_summaries.RowSummary.cleared.Goals as goal

pub invariant_of-part : goal.invariant_of-part
invariant_of-part c =
    let p = c.in_ok-part.part in
    let r = c.args.cleared.now in
    let w : length r ≡ p.width = sym (c.in_ok-part.ensures.width ∙ c.width.ensures) in
    record {
      even = record {
        reads = p.even.reads;
        overwritten = union_wide p.overwritten r _ _ c.or_into.ensures p.even.overwritten w;
        ends = p.even.ends;
        blocked = p.even.blocked;
        loses = union_wide p.loses r _ _ c.or_into-2.ensures p.even.loses w;
      };
    }

pub returns-clause-held : goal.returns-clause-held
returns-clause-held c = λ i.
    let p = c.in_ok-part.part in
    let r = c.args.cleared.now in
    let w : p.width ≡ length r = c.in_ok-part.ensures.width ∙ c.width.ensures in
    let h = c.in_ok-part.ensures.held i in
    record {
      reads = h.reads ∙ sym (cleared_first (bit r i));
      overwritten = or_at p.overwritten r _ i (p.even.overwritten ∙ w) c.or_into.ensures ∙ (λ j. h.overwritten j || bit r i) ∙ sym (cleared_keeps (bit r i));
      ends = h.ends ∙ sym (cleared_ends (bit r i));
      blocked = h.blocked ∙ sym (cleared_passes (bit r i));
      loses = or_at p.loses r _ i (p.even.loses ∙ w) c.or_into-2.ensures ∙ (λ j. h.loses j || bit r i) ∙ sym (cleared_loses (bit r i));
    }
