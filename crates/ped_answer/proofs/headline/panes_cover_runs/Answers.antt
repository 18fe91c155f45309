use Rattle.ped_answer.proofs.CoveredPanes.{request_covered}
use Rattle.ped_answer.proofs.headline.panes_cover_runs.Goals as goal

pub returns : goal.returns
returns c = λ request files s bytes whole answers.
    request_covered (record {
      conflicts = c.conflicts_are_covered.ensures;
      races = c.races_are_covered.ensures;
      calls = c.calls_are_covered.ensures;
      occur = c.proven_dependences_occur.ensures.left;
      occur_at_end = c.proven_dependences_occur.ensures.ended;
    }) request files bytes
    (c.panes_are_afresh.ensures request files s bytes whole answers)
