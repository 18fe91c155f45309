use Rattle.ped_inline.proofs.FoldedCovering.{calls_covered}
use Rattle.ped_inline.proofs.pane_laws.calls_are_covered.Goals as goal

pub returns : goal.returns
returns c = λ t data_bytes a b edges valid come meets one other share are.
    calls_covered c.accesses_are_made.ensures c.accesses_in_sequence.ensures t data_bytes a b edges valid come meets one other share are
    (c.conflicts_are_covered.ensures t data_bytes a b edges valid come meets one other share are)
