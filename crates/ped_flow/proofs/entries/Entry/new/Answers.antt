use Rattle.std.proofs.Common.{refl, sym, ◌∙◌}
use Rattle.ped_flow.proofs.Touching.{wide_two, wide_three, wide_four, wide_all, untouched}
use Rattle.ped_flow.proofs.entries.Entry.new.Goals as goal

pub or_into-requires-2 : goal.or_into-requires-2
or_into-requires-2 c = let r = c.args.part.summaries in r.even.ends ∙ sym (wide_two r _ _ _ _ _ c.in_ok-touched.ensures c.or_into.ensures refl refl refl)

pub or_into-requires-3 : goal.or_into-requires-3
or_into-requires-3 c = let r = c.args.part.summaries in r.even.blocked ∙ sym (wide_three r _ _ _ _ _ c.in_ok-touched.ensures c.or_into.ensures c.or_into-2.ensures refl refl)

pub or_into-requires-4 : goal.or_into-requires-4
or_into-requires-4 c = let r = c.args.part.summaries in r.even.loses ∙ sym (wide_four r _ _ _ _ _ c.in_ok-touched.ensures c.or_into.ensures c.or_into-2.ensures c.or_into-3.ensures refl)

pub invariant_of-result : goal.invariant_of-result
invariant_of-result c = record { touched_wide = wide_all c.args.part.summaries _ _ _ _ _ c.in_ok-touched.ensures c.or_into.ensures c.or_into-2.ensures c.or_into-3.ensures c.or_into-4.ensures }

pub returns : goal.returns
returns c = record {
  part = refl;
  behind = refl;
  touched = untouched c.args.part.summaries _ _ _ _ _ c.in_ok-touched.ensures c.or_into.ensures c.or_into-2.ensures c.or_into-3.ensures c.or_into-4.ensures;
}
