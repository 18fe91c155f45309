use Rattle.std.proofs.Common.{◌≡◌, ◌+◌, ◌≤◌, ℕ, List, [], ◌∷◌, ◌++◌, Bool, true, false, length, take, drop, sym, ap, ◌∙◌, if◌then◌else◌, arith, take_all}
use Rattle.std.proofs.lemmas.Bool.{or_left, or_from}
use Rattle.std.proofs.lemmas.Grind.{common_steps}
use Rattle.std.proofs.lemmas.List.{take-append-drop}
use Rattle.ped_base.specs.Lists.{is_among}
use Rattle.ped_units.specs.ped_valid.specs.ped_symbols.specs.NameRefusals.{has_twice}
use Rattle.ped_links.proofs.Twice.{twice_behind, twice_in_front}
use Rattle.ped_links.proofs.linking.stands_twice.Goals as goal

pub loop-name-preserved : goal.loop-name-preserved
loop-name-preserved c =
    let names = c.args.names.now in
    let i = c.loop-name.name-index in
    let x = c.name-item.result in
    let seen = c.loop-name.seen in
    let more : take (i + 1) names ≡ take i names ++ x ∷ [] = grind (arith, common_steps) in
    let new : is_among x seen ≡ false = sym c.contains.ensures ∙ c.if-contains.false in
    let front : is_among x (take i names) ≡ false = ap (is_among x) (sym c.loop-name.invariant.seen) ∙ new in
    record {
      seen = c.in_ok-insert.ensures.ok ∙ ap (λ (b : Bool). if b then seen else seen ++ x ∷ []) new ∙ ap (λ (xs : List (List ℕ)). xs ++ x ∷ []) c.loop-name.invariant.seen ∙ sym more;
      once = ap has_twice more ∙ twice_behind (take i names) x ∙ or_from (is_among x (take i names)) (has_twice (take i names)) front c.loop-name.invariant.once;
    }

pub returns-then-contains : goal.returns-then-contains
returns-then-contains c =
    let names = c.args.names.now in
    let i = c.loop-name.name-index in
    let x = c.name-item.result in
    let more : take (i + 1) names ≡ take i names ++ x ∷ [] = grind (arith, common_steps) in
    let there : is_among x (take i names) ≡ true = ap (is_among x) (sym c.loop-name.invariant.seen) ∙ sym c.contains.ensures ∙ c.if-contains.true in
    let twice : has_twice (take (i + 1) names) ≡ true = ap has_twice more ∙ twice_behind (take i names) x ∙ or_left (is_among x (take i names)) (has_twice (take i names)) there in
    sym (ap has_twice (sym (take-append-drop (i + 1) names)) ∙ twice_in_front (take (i + 1) names) (drop (i + 1) names) twice)

pub returns : goal.returns
returns c =
    let ended : length c.args.names.now ≤ c.loop-name.name-index = omega arith in
    sym (ap has_twice (sym (take_all c.loop-name.name-index c.args.names.now ended)) ∙ c.loop-name.invariant.once)
