use Rattle.std.proofs.Common.{◌≡◌, ◌∙◌, ap, List, ℕ, map, filter, not, []}
use Rattle.std.specs.List.{flat_map}
use Rattle.std.proofs.lemmas.Result.{IfOk-weaker}
use Rattle.ped_base.specs.Lists.{is_among}
use Rattle.ped_tree.specs.Grammar.Occurrences.{all_constants, all_do_variables, entry_names, saved_among, saved_names}
use Rattle.ped_tree.specs.Grammar.ItemViews.{entry_of}
use Rattle.ped_tree.specs.Names.Collecting.{with_names}
use Rattle.ped_refusals.proofs.Collecting.{saved}
use Rattle.ped_refusals.proofs.saving.saved_names.Goals as goal

both : (names others all left : List (List ℕ)) → names ≡ all → others ≡ left → filter (λ x. not (is_among x others)) names ≡ filter (λ x. not (is_among x left)) all
both names others all left p q = λ i. filter (λ x. not (is_among x (q i))) (p i)

pub returns : goal.returns
returns c =
    let entries = map entry_of c.up_to_end-entries.result.now in
    let all : List (List ℕ) = with_names [] (flat_map entry_names entries) in
    let left : List (List ℕ) = with_names (with_names [] (all_constants entries)) (all_do_variables entries) in
    let names = c.as_slice.result.now in
    let others = c.in_ok-others.others in
    IfOk-weaker c.without.result (λ (rest : List (List ℕ)). rest ≡ filter (λ x. not (is_among x others)) names) (λ (rest : List (List ℕ)). rest ≡ saved_names (map entry_of c.args.entries.now))
    (λ (rest : List (List ℕ)) h. h ∙ both names others all left (c.as_slice.ensures ∙ c.in_ok-all.ensures) c.in_ok-others.ensures ∙ saved (all_constants entries) (all_do_variables entries) (flat_map entry_names entries) ∙ ap saved_among c.up_to_end-entries.ensures)
    c.without.ensures
