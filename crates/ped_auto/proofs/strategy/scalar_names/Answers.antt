use Rattle.std.proofs.Common.{◌≡◌, ◌≢◌, ℕ, List, [], map, true, false, Option, refl, sym, ap, subst, ◌∙◌, arith}
use Rattle.std.specs.List.{list_all}
use Rattle.std.proofs.lemmas.List.{take_all}
use Rattle.ped_refs.specs.Occurrences.{name_text}
use Rattle.ped_refs.specs.declared.references.RefName.{RefName}
use Rattle.ped_auto.specs.CarriedNames.{are_scalars}
use Rattle.ped_auto.specs.CodeStages.{IsScalarName}
use Rattle.ped_auto.proofs.ScalarNames.{passes, none_of, none_there, all_there}
use Rattle.ped_auto.proofs.strategy.scalar_names.Goals as goal

pub returns-in_default : goal.returns-in_default
returns-in_default g c =
    let h = c.in_ok-carried.ensures in
    let found = c.deref-name-items.result.now in
    let x = c.name-item.result in
    let none : passes name_text h.0 x ≡ false = subst (λ (o : Option (List ℕ)). IsScalarName h.0 (name_text x) o) c.in_default.is (c.scalar_of.ensures h.0 h.1) in (
      h.0,
      h.1,
      map name_text c.in_ok-carried.carried.items,
      h.2,
      subst (λ (xs : List RefName). are_scalars h.0 (map name_text xs) ≡ false) c.deref-name-items.ensures.value
          (none_of name_text h.0 found c.loop-name.name-index x (let t = c.loop-name-test.true in omega (arith, t)) (ap (passes name_text h.0) (sym c.name-item.is) ∙ none)),
    )

pub returns-then-is_empty : goal.returns-then-is_empty
returns-then-is_empty g c =
    let h = c.in_ok-carried.ensures in
    let found = c.deref-name-items.result.now in
    let past = c.loop-name-test.false in
    let all = take_all c.loop-name.name-index found (omega (arith, past)) in
    let empty : c.loop-name.names ≡ [] = c.if-is_empty.ensures.0 refl in (
      h.0,
      h.1,
      map name_text c.in_ok-carried.carried.items,
      h.2,
      subst (λ (xs : List RefName). are_scalars h.0 (map name_text xs) ≡ false) c.deref-name-items.ensures.value
          (none_there h.0 (map name_text found) (sym (c.loop-name.invariant.names ∙ ap (map name_text) all) ∙ empty)),
    )

pub returns : goal.returns
returns g c =
    let h = c.in_ok-carried.ensures in
    let found = c.deref-name-items.result.now in
    let past = c.loop-name-test.false in
    let all = take_all c.loop-name.name-index found (omega (arith, past)) in
    let names : c.loop-name.names ≡ map name_text found = c.loop-name.invariant.names ∙ ap (map name_text) all in
    let some : c.loop-name.names ≢ [] = λ none. (let no : false ≡ true = c.if-is_empty.ensures.1 none in absurd cc) in
    let value = c.deref-name-items.ensures.value in
    let scalars : list_all (passes name_text h.0) found ≡ true = subst (λ (xs : List RefName). list_all (passes name_text h.0) xs ≡ true) all (c.loop-name.invariant.scalars h.0 h.1) in (
      h.0,
      h.1,
      map name_text c.in_ok-carried.carried.items,
      h.2,
      (
        subst (λ (xs : List RefName). are_scalars h.0 (map name_text xs) ≡ true) value (all_there name_text h.0 found (λ none. some (names ∙ none)) scalars),
        names ∙ ap (map name_text) value,
      ),
    )
