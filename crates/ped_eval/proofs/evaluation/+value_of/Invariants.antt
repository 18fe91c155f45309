use Rattle.std.proofs.Common.{◌≡◌, ◌-◌, pos, length, take, drop, replicate, map}
use Rattle.ped_tree.specs.declared.expressions.Intrinsic.TheVariants.{Max, Min}
use Rattle.ped_tree.specs.Tree.{Call}
use Rattle.ped_tree.specs.Views.{pack_exprs, expr_tree}
use Rattle.ped_base.specs.Arithmetic.Arithmetic.{greatest_of, least_of}
use Rattle.ped_eval.specs.declared.notes.Notes.{Notes}
use Rattle.ped_eval.specs.Noting.{HasNoted, all_seen_at}
use Rattle.ped_eval.specs.Results.{value_at, values_at, fault_or}
use Rattle.ped_eval.proofs.Steps.{with_front}
use Rattle.ped_eval.proofs.Intrinsics.{go_on}
use Rattle.ped_eval.proofs.evaluation.+value_of.Given as goal

abbrev pub invariant-fault_in-loop-e : goal.invariant-fault_in-loop-e
invariant-fault_in-loop-e l = record {
  fault : fault_or l.fault (values_at l.around l.expressions) ≡ fault_or l.fault (values_at l.around (drop l.e-index l.expressions));
  noted : (new : Notes) → HasNoted l.notes (all_seen_at l.around (drop l.e-index l.expressions)) new → HasNoted l.initial.notes (all_seen_at l.around l.expressions) new;
}

abbrev pub invariant-places_of-loop-i : goal.invariant-places_of-loop-i
invariant-places_of-loop-i l = record {
  long : length l.places ≡ 7;
  rest : drop l.i l.places ≡ replicate (7 - l.i) (pos 0);
  values : values_at l.around l.subscripts ≡ with_front (take l.i l.places) (values_at l.around (drop l.i l.subscripts));
  noted : (new : Notes) → HasNoted l.notes (all_seen_at l.around (drop l.i l.subscripts)) new → HasNoted l.initial.notes (all_seen_at l.around l.subscripts) new;
}

abbrev pub invariant-greatest_of_all-loop-argument : goal.invariant-greatest_of_all-loop-argument
invariant-greatest_of_all-loop-argument l = record {
  value : value_at l.around (Call Max (pack_exprs (map expr_tree l.arguments))) ≡ go_on greatest_of l.value (values_at l.around (drop l.argument-index l.argument-items));
  noted : (new : Notes) → HasNoted l.notes (all_seen_at l.around (drop l.argument-index l.argument-items)) new → HasNoted l.fn.notes (all_seen_at l.around l.arguments) new;
}

abbrev pub invariant-least_of_all-loop-argument : goal.invariant-least_of_all-loop-argument
invariant-least_of_all-loop-argument l = record {
  value : value_at l.around (Call Min (pack_exprs (map expr_tree l.arguments))) ≡ go_on least_of l.value (values_at l.around (drop l.argument-index l.argument-items));
  noted : (new : Notes) → HasNoted l.notes (all_seen_at l.around (drop l.argument-index l.argument-items)) new → HasNoted l.fn.notes (all_seen_at l.around l.arguments) new;
}
