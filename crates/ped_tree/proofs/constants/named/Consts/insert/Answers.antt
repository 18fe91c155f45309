use Rattle.std.proofs.Common.{◌≡◌, ℤ, [], ◌∷◌, ◌++◌, Bool, true, false, Option, Some, None, is_some, refl, ap, sym, ◌∙◌, if◌then◌else◌}
use Rattle.std.proofs.lemmas.Int.{to_z-of_z}
use Rattle.std.specs.Int.{w64}
use Rattle.ped_base.specs.contracts.identifiers.NamePartialEq.TheImpl as code
use Rattle.indexmap.proofs.CallerLemmas.{insert_entry-new}
use Rattle.ped_tree.specs.Constants.NamedConstants.{value_named}
use Rattle.ped_base.proofs.NameEquality.{looked_up}
use Rattle.ped_tree.proofs.constants.named.Consts.insert.Goals as goal

none_there : (o : Option ℤ) → is_some o ≡ false → o ≡ None
none_there None h = refl
none_there (Some value) h = absurd (cc)

pub returns-then-contains_key-clause-ok : goal.returns-then-contains_key-clause-ok
returns-then-contains_key-clause-ok c =
    let name = c.args.name.now in
    let consts = c.args.self.now in
    let there : is_some (value_named consts name) ≡ true =
    sym (ap is_some (looked_up name c.self.inside.values.entries ∙ ap (λ cs. value_named cs name) c.self.view_is))
    ∙ sym c.contains_key.ensures ∙ c.if-contains_key.true in
    sym (ap (λ (b : Bool). if b then consts else consts ++ (name, c.args.value) ∷ []) there)

pub returns-clause-ok : goal.returns-clause-ok
returns-clause-ok c =
    let name = c.args.name.now in
    let consts = c.args.self.now in
    let entries = c.self.inside.values.entries in
    let not_there = sym c.contains_key.ensures ∙ c.if-contains_key.false in
    let missing : is_some (value_named consts name) ≡ false =
    sym (ap is_some (looked_up name entries ∙ ap (λ cs. value_named cs name) c.self.view_is)) ∙ not_there in
    (simp (to_z-of_z w64 c.args.value c.ranges.value) at c.in_ok-insert.ensures.entries)
    ∙ insert_entry-new (code.eq-value).it c.self.inside.values name c.args.value (none_there _ not_there)
    ∙ ap (λ cs. cs ++ (name, c.args.value) ∷ []) c.self.view_is
    ∙ sym (ap (λ (b : Bool). if b then consts else consts ++ (name, c.args.value) ∷ []) missing)
