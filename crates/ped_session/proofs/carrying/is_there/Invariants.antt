use Rattle.std.proofs.Common.{◌≡◌, drop}
use Rattle.std.specs.List.{list_any}
use Rattle.ped_base.specs.Lists.{is_same_text}
use Rattle.ped_refs.specs.Occurrences.{name_text}
use Rattle.ped_session.proofs.carrying.is_there.Given as goal

abbrev pub invariant-loop-other : goal.invariant-loop-other
invariant-loop-other l = list_any (λ other. is_same_text (name_text l.name) (name_text other)) (drop l.other-index l.names) ≡ list_any (λ other. is_same_text (name_text l.name) (name_text other)) l.names
