use Rattle.std.proofs.Common.{◌≡◌, drop, ◌++◌, map, option_to_list}
use Rattle.ped_views.specs.Forms.{occurring}
use Rattle.ped_verdict.specs.CodeForms.{occurrence_shown}
use Rattle.ped_verdict.proofs.forms.common_form.Given as goal

-- what was found, and what is ahead, are all that occur
abbrev pub invariant-loop-place : goal.invariant-loop-place
invariant-loop-place l = map occurrence_shown (option_to_list l.found) ++ occurring l.place (drop l.place l.source) (drop l.place l.sink) ≡ occurring 0 l.source l.sink
