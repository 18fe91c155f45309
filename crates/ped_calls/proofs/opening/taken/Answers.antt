use Rattle.std.proofs.Common.{◌≡◌, ℕ, List, [], ◌++◌, map, ap, ◌∙◌}
use Rattle.std.specs.List.{flat_map}
use Rattle.ped_tree.specs.Names.Collecting.{with_names}
use Rattle.ped_tree.specs.Views.{decl_tree}
use Rattle.ped_links.specs.ped_symbols.specs.declared.symbols.Kind.{Kind}
use Rattle.ped_links.specs.ped_symbols.specs.Declarations.{program_name}
use Rattle.ped_links.specs.ped_units.proofs.CollectedNames.{collected}
use Rattle.ped_calls.proofs.MainSteps.{with_both}
use Rattle.ped_calls.proofs.opening.taken.Goals as goal

pub returns : goal.returns
returns c =
    let names : List (List ℕ) = map (λ (e : List ℕ × Kind). e.0) c.args.table.now.kinds in
    let programs = flat_map program_name (map decl_tree c.args.decls.now) in
    let is = c.as_slice.ensures ∙ c.in_ok-names.ensures in
    let first : c.add_all.new.taken ≡ with_names [] names = c.in_ok-add_all.ensures ∙ (λ i. with_names (c.new-taken.ensures i) (is i)) in
    c.in_ok-add_program_names.ensures ∙ ap (λ (t : List (List ℕ)). with_names t programs) first ∙ with_both [] names programs ∙ collected (names ++ programs)
