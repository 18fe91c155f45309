use Rattle.std.proofs.Common.{◌≡◌, ℕ, List, Option, [], ◌∷◌, ◌++◌, map, refl, sym, ap, ◌∙◌}
use Rattle.ped_tree.specs.Tree.{ExprTree}
use Rattle.ped_tree.specs.Accesses.{listed}
use Rattle.ped_tree.specs.Views.{expr_tree, pack_exprs}
use Rattle.ped_links.specs.Placing.{argument_name}
use Rattle.ped_links.specs.declared.placing.Around.{Around}
use Rattle.ped_links.specs.declared.placing.PlacedCall.{PlacedCall}
use Rattle.ped_links.proofs.placing.Walk.add.Goals as goal

listed_packed : (es : List ExprTree) → listed (pack_exprs es) ≡ es
listed_packed [] = refl
listed_packed (e ∷ es) = ap (λ (xs : List ExprTree). e ∷ xs) (listed_packed es)

abbrev placed_at : ℕ → List ℕ → List (Option (List ℕ)) → Around → PlacedCall
placed_at line name names around = record { line = line; name = name; arguments = names; around = around }

same_call : (line : ℕ) (name : List ℕ) (names others : List (Option (List ℕ))) (around other : Around) → names ≡ others → around ≡ other → placed_at line name names around ≡ placed_at line name others other
same_call line name names others around other n a = λ i. placed_at line name (n i) (a i)

pub returns-clause-calls : goal.returns-clause-calls
returns-clause-calls c =
    let old = c.args.self.now.found.calls.items in
    let names = map argument_name (listed (pack_exprs (map expr_tree c.args.arguments.now))) in
    let same : c.in_ok-arguments.arguments ≡ names = c.in_ok-arguments.ensures ∙ ap (map argument_name) (sym (listed_packed (map expr_tree c.args.arguments.now))) in
    c.in_ok-push.ensures.items ∙ ap (λ (p : PlacedCall). old ++ p ∷ []) (same_call c.args.line c.args.name.now c.in_ok-arguments.arguments names c.in_ok-around.around c.args.around.now same c.in_ok-around.ensures)
