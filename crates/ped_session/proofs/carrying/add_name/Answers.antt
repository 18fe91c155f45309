use Rattle.std.proofs.Common.{◌∙◌, List, [], ◌∷◌, map, sym, ap}
use Rattle.std.specs.List.{list_any}
use Rattle.std.proofs.lemmas.List.{map-append}
use Rattle.ped_base.specs.Lists.{is_same_text}
use Rattle.ped_refs.specs.Occurrences.{name_text}
use Rattle.ped_refs.specs.declared.references.RefName.{RefName}
use Rattle.ped_session.proofs.CarriedTexts.{there_by_text, name_there, name_new}
use Rattle.ped_session.proofs.carrying.add_name.Goals as goal

pub returns-then-is_there : goal.returns-then-is_there
returns-then-is_there c =
    name_there (map name_text c.args.names.now.items) (name_text c.args.name.now)
    (sym (there_by_text (name_text c.args.name.now) c.args.names.now.items)
    ∙ ap (λ (xs : List RefName). list_any (λ other. is_same_text (name_text c.args.name.now) (name_text other)) xs) (sym c.deref.ensures.value) ∙ sym c.if-is_there.ensures)

pub returns : goal.returns
returns c =
    ap (map name_text) c.in_ok-push.ensures.items
    ∙ map-append name_text c.args.names.now.items (c.args.name.now ∷ [])
    ∙ name_new (map name_text c.args.names.now.items) (name_text c.args.name.now)
    (sym (there_by_text (name_text c.args.name.now) c.args.names.now.items)
    ∙ ap (λ (xs : List RefName). list_any (λ other. is_same_text (name_text c.args.name.now) (name_text other)) xs) (sym c.deref.ensures.value) ∙ sym c.if-is_there.ensures)
