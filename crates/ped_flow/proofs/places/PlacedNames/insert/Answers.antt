use Rattle.std.proofs.Common.{List, ℕ, ◌∷◌, [], ◌++◌, Bool, ap, ◌∙◌, if◌then◌else◌}
use Rattle.ped_base.specs.Lists.{is_among}
use Rattle.ped_base.proofs.NameEquality.{any_same}
use Rattle.ped_flow.proofs.places.PlacedNames.insert.Goals as goal

pub returns-clause-ok : goal.returns-clause-ok
returns-clause-ok c =
    let name = c.args.name.now in
    let keys = c.self.inside.names.keys in
    c.in_ok-insert.ensures.keys
    ∙ ap (λ (b : Bool). if b then keys else keys ++ name ∷ []) (any_same name keys)
    ∙ ap (λ (names : List (List ℕ)). if is_among name names then names else names ++ name ∷ []) c.self.view_is
