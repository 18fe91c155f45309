use Rattle.std.proofs.Common.{◌≡◌, map, drop}
use Rattle.std.specs.List.{list_any}
use Rattle.ped_tree.specs.Grammar.OutsideProfile.{begins_with}
use Rattle.ped_statements.proofs.outside_profile.begins_with_any.Given as goal

abbrev pub invariant-loop-word : goal.invariant-loop-word
invariant-loop-word l = list_any (begins_with l.text) (map (λ w. w.now) (drop l.word-index l.words)) ≡ list_any (begins_with l.text) (map (λ w. w.now) l.words)
