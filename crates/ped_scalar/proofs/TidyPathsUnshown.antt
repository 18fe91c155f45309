-- Behind `expand` the program's end shows no more of the variables of the DO loops, by what stands against the step.
use Rattle.std.proofs.Common.{◌≡◌, ℕ, ◌+◌, List, Bool, false, ◌∙◌, sym}
use Rattle.std.specs.List.{list_any}
use Rattle.std.proofs.lemmas.List.Folds.{list_any-append}
use Rattle.ped_base.specs.Lists.{is_same_text, is_among}
use Rattle.ped_tree.specs.Tree.{Do, ProgramTree}
use Rattle.ped_tree.specs.Nests.{indices_of}
use Rattle.ped_tree.specs.Numbering.{statements_count}
use Rattle.ped_rules.specs.ped_symbols.specs.NameRefusals.{IsValid}
use Rattle.ped_tree.specs.NamesIn.{loop_variables}
use Rattle.ped_rules.specs.ped_flow.specs.PlainBounds.{nest_round}
use Rattle.ped_rules.specs.ped_flow.specs.Questions.{LoopOf, IsIndexIn, IsShownBehind}
use Rattle.ped_rules.specs.ped_flow.proofs.Truths.{or_none}
use Rattle.ped_rules.specs.ped_laws.proofs.FlowRunLaws.Stopping.{fitting_stops, loop_stops}
use Rattle.ped_rules.specs.Scalars.{is_index_near}
use Rattle.ped_rules.specs.Spans.{Span}
use Rattle.ped_rules.specs.Scalars.{is_private_near}
use Rattle.ped_scalar.specs.Expanding.{expanded, moved_behind}
use Rattle.ped_tree.specs.NamesIn.{private_names_in, all_private_names_in}
use Rattle.ped_scalar.proofs.TidyPathsExpanding.{expanded_index_shows_less}

-- where the scalar is no variable and no PRIVATE name of a DO in the one that is expanded or round it, and that isn't parallel
pub valid_expanded_shows_less : (t : ProgramTree) (s : ℕ) (l : LoopOf t s) (x array : List ℕ) (live : Bool) (v : Span) → IsValid t → l.head.parallel ≡ false
    → is_index_near t s l.head l.body x ≡ false → is_private_near t s l.head l.body x ≡ false
    → (k : ℕ) (w : List ℕ) → IsIndexIn t k w → IsShownBehind (expanded t s x live array v) (moved_behind (s + statements_count l.body) live k) w → IsShownBehind t k w
valid_expanded_shows_less t s l x array live v valid serial index private k w =
    let variable = (or_none (is_among x (indices_of (nest_round t s))) (is_among x (loop_variables (Do l.head l.body))) index).1 in
    let all = (or_none (is_among x (private_names_in (Do l.head l.body))) (list_any (λ m. is_among x m.head.private) (nest_round t s)) private).0 in
    let own = (or_none (is_among x l.head.private) (is_among x (all_private_names_in l.body)) (sym (list_any-append (is_same_text x) l.head.private (all_private_names_in l.body)) ∙ all)).0 in
    expanded_index_shows_less t s l x array live v serial variable own (loop_stops t s l (fitting_stops t valid.fits)) k w
