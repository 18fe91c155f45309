use Rattle.std.proofs.Common.{Bool, List, get_or, sym, ap, subst, ◌∙◌}
use Rattle.std.specs.Prelude.{IsTrue}
use Rattle.ped_base.specs.Lists.{is_among}
use Rattle.ped_units.specs.Units.{all_units}
use Rattle.ped_links.specs.Arguments.{formal_number}
use Rattle.ped_links.specs.Reaching.{IsMarkedNumber}
use Rattle.ped_links.proofs.Used.{formals_there}
use Rattle.ped_links.proofs.formals.Marks.is_index.Goals as goal

pub returns : goal.returns
returns c us marks below among =
    let unit = c.args.unit in
    let formal = c.args.formal.now in
    let number = c.number.ensures.number (all_units us) marks.formals below in
    let there : IsTrue (is_among formal (get_or (all_units us) unit us.main).formals) = ap (is_among formal) (sym (formals_there (all_units us) unit us.main below)) ∙ among in
    let uses = marks.indexes unit formal below there in
    let same = c.deref.ensures.value in (
      λ t. uses.0 (subst (λ (ms : List Bool). IsMarkedNumber ms (formal_number (all_units us) unit formal)) same (subst (IsMarkedNumber c.deref.result.now) number (c.is_marked.ensures.0 t))),
      λ h. c.is_marked.ensures.1 (subst (IsMarkedNumber c.deref.result.now) (sym number) (subst (λ (ms : List Bool). IsMarkedNumber ms (formal_number (all_units us) unit formal)) (sym same) (uses.1 h))),
    )
