use Rattle.std.proofs.Common.{◌≡◌, drop}
use Rattle.std.specs.List.{list_any}
use Rattle.ped_base.specs.Lists.{is_among}
use Rattle.ped_tree.specs.Nests.{Loop}
use Rattle.ped_refs.specs.Loops.{nest_of}
use Rattle.ped_rules.proofs.privacy.is_private_round.Given as goal

abbrev pub invariant-loop-l : goal.invariant-loop-l
invariant-loop-l l =
    list_any (λ (m : Loop). is_among l.name m.head.private) (nest_of (drop l.l-index l.loops)) ≡ list_any (λ (m : Loop). is_among l.name m.head.private) (nest_of l.loops)
