use Rattle.std.proofs.Common.{sym, subst}
use Rattle.ped_calls.specs.Giving.{HasNext}
use Rattle.ped_calls.specs.declared.giving.Given.{Given}
use Rattle.ped_calls.proofs.giving.Given.new_local.Goals.{in-Some+in_ok-push, in_default}
use Rattle.ped_calls.proofs.giving.Given.new_local.Goals as goal

pub returns-clause-next : goal.returns-clause-next
returns-clause-next c =
    let next = c.in_ok-name.ensures.next in
    elim c.match-branch-3.branch [
      | in-Some+in_ok-push w ↦ subst (λ (g : Given). HasNext g) (sym w.self-is) record { first = next.first; taken = next.taken; few = next.few }
      | in_default w ↦ subst (λ (g : Given). HasNext g) (sym w.self-is) next
    ]
