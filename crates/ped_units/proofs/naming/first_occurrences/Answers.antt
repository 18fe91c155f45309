use Rattle.std.proofs.Common.{rules, ◌≡◌, ℕ, ◌≤◌, List, [], length, sym, ap, ◌∙◌, arith}
use Rattle.std.proofs.lemmas.List.{drop_all}
use Rattle.ped_tree.specs.Names.Collecting.{with_names}
use Rattle.ped_units.proofs.CollectedNames.{collected}
use Rattle.ped_units.proofs.naming.first_occurrences.Goals as goal

pub returns : goal.returns
returns c =
    let names = c.args.names.now in
    let seen = c.loop-name.seen in
    let copied : c.from_vec.result ≡ seen = search rules in
    let ended : length names ≤ c.loop-name.name-index = omega (arith, c.loop-name-test.false, c.loop-name.auto.name-index-end) in
    let all : seen ≡ with_names [] names = ap (λ (xs : List (List ℕ)). with_names seen xs) (sym (drop_all c.loop-name.name-index names ended)) ∙ c.loop-name.invariant in
    copied ∙ all ∙ collected names
