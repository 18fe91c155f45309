use Rattle.std.proofs.Common.{Option, sym, ap, subst, ◌∙◌}
use Rattle.std.specs.Prelude.{is_some}
use Rattle.ped_interleavings.specs.Lefts.{wants_choice, unfinished}
use Rattle.ped_machine.specs.declared.opens.Open.{Open}
use Rattle.ped_machine.specs.Parts.{parts_of, parts_left}
use Rattle.ped_machine.specs.Opens.{lefts_of, place_left}
use Rattle.ped_machine.specs.Rests.{opened_left, IfOpened}
use Rattle.ped_machine.proofs.Resting.{none_inner, parts_want_none, first_of_same}
use Rattle.ped_machine.proofs.rests.Rest.wants_choice.Goals as goal

pub returns-in-None : goal.returns-in-None
returns-in-None g c scope table stands h = sym (ap wants_choice (none_inner g.C.Work.left scope c.args.self.now c.in-None.is) ∙ parts_want_none (parts_of c.args.self.now.parts) scope)

pub returns-in-Some : goal.returns-in-Some
returns-in-Some g c scope table stands h =
    let left = g.C.Work.left in
    let o = c.in-Some.inner in
    let right = subst (λ (x : Option (Open _)). IfOpened left g.C.Work.base g.C.Work.sound scope x table stands) c.in-Some.is h.inner in
    c.is_some.ensures ∙ ap is_some (c.pick.ensures scope table stands right) ∙ first_of_same (unfinished 0 (lefts_of o.plan.count (place_left left scope o)))
    ∙ sym (ap (λ (x : Option (Open _)). wants_choice (opened_left left scope x (parts_left (parts_of c.args.self.now.parts) scope))) c.in-Some.is)
