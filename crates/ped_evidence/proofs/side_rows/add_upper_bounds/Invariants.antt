use Rattle.std.proofs.Common.{◌≡◌, ◌++◌, map, drop}
use Rattle.ped_evidence.specs.Kept.{form_of, layout_kept, level_of, trees_of, AreRows}
use Rattle.ped_evidence.specs.Forms.{at_most}
use Rattle.ped_evidence.specs.Systems.{bound_forms}
use Rattle.ped_evidence.proofs.side_rows.add_upper_bounds.Given as goal

abbrev pub invariant-loop-bound : goal.invariant-loop-bound
invariant-loop-bound l = record {
  rows : l.rows ++ map (λ f. at_most (form_of l.x) f) (bound_forms (layout_kept l.layout) l.before (level_of l.level) (trees_of (drop l.bound-index l.bounds)))
      ≡ l.fn.rows ++ map (λ f. at_most (form_of l.x) f) (bound_forms (layout_kept l.layout) l.before (level_of l.level) (trees_of l.bounds));
  fits : AreRows l.layout.columns l.rows;
}
