use Rattle.std.proofs.Common.{ap, sym, ◌∙◌}
use Rattle.ped_base.specs.Lists.{is_among}
use Rattle.ped_eval.specs.ScopeViews.{scope_view, frame_view}
use Rattle.ped_eval.proofs.Frames.{own_first}
use Rattle.ped_eval.proofs.scopes.is_private_at.Goals as goal

pub returns-in-Some-clause-view : goal.returns-in-Some-clause-view
returns-in-Some-clause-view c = λ h. own_first (scope_view c.args.frames.now) (frame_view c.in-Some.innermost.now) _ c.args.name.now c.in-Some.ensures.is (ap (is_among c.args.name.now) (sym c.as_slice.ensures) ∙ c.is_at.ensures h)
