-- What a DO is refused for whose variable is private to loops round it, loop by loop.
use Rattle.std.proofs.Common.{◌≡◌, ℕ, false, List, [], ◌∷◌, ◌++◌, Option, refl, sym, ap, ◌∙◌}
use Rattle.std.specs.List.{flat_map}
use Rattle.std.proofs.lemmas.Grind.{flat_map-append}
use Rattle.std.proofs.lemmas.List.Concat.{flat_map-cons}
use Rattle.ped_tree.specs.Grammar.Contexts.{Context, Block, in_then, in_else, in_do, OpenLoop, open_loops}
use Rattle.ped_tree.specs.Grammar.Refusal.{Finding, IndexAssigned, earliest, refused_if}
use Rattle.ped_tree.specs.Grammar.Items.{Reading}
use Rattle.ped_tree.specs.Grammar.Occurrences.{of_reading, do_variables}
use Rattle.ped_tree.specs.Grammar.ProgramRefusals.{meets, at_private}
use Rattle.ped_tree.proofs.GrammarLaws.First.{earliest_append}

-- what stands at a DO with this variable
abbrev pub at_loops : List ℕ → List Block → List Finding
at_loops x c = flat_map (λ d. refused_if (meets (x ∷ []) d.private) IndexAssigned d.private_line) (open_loops c)

first_loop : (b : Block) (c : List Block) → open_loops (b ∷ c) ≡ open_loops (b ∷ []) ++ open_loops c
first_loop (in_then n) c = refl
first_loop (in_else n) c = refl
first_loop (in_do d) c = refl

-- one block more has been looked at
pub loop_step : (x : List ℕ) (found next : Option Finding) (b : Block) (c all : List Block) → all ≡ b ∷ c → next ≡ earliest found (at_loops x (b ∷ [])) → earliest next (at_loops x c) ≡ earliest found (at_loops x all)
loop_step x found next b c all h n =
    let at : OpenLoop → List Finding = λ d. refused_if (meets (x ∷ []) d.private) IndexAssigned d.private_line in
    ap (λ (f : Option Finding). earliest f (at_loops x c)) n
    ∙ sym (earliest_append found (at_loops x (b ∷ [])) (at_loops x c))
    ∙ ap (earliest found) (sym (flat_map-append at (open_loops (b ∷ [])) (open_loops c)))
    ∙ ap (λ (ds : List OpenLoop). earliest found (flat_map at ds)) (sym (first_loop b c))
    ∙ ap (λ (bs : List Block). earliest found (at_loops x bs)) (sym h)

none_private : (ds : List OpenLoop) → flat_map (λ d. refused_if false IndexAssigned d.private_line) ds ≡ []
unfolding refused_if
none_private [] = refl
none_private (d ∷ ds) = flat_map-cons (λ d. refused_if false IndexAssigned d.private_line) d ds ∙ none_private ds

-- no DO
pub no_variable : (c : Context) (r : Reading) (found : Option Finding) → of_reading do_variables r ≡ [] → found ≡ earliest found (at_private c r)
no_variable c r found h =
    ap (earliest found) (sym (none_private (open_loops c.blocks)))
    ∙ ap (λ (xs : List (List ℕ)). earliest found (flat_map (λ d. refused_if (meets xs d.private) IndexAssigned d.private_line) (open_loops c.blocks))) (sym h)

-- a DO with this variable
pub one_variable : (c : Context) (r : Reading) (x : List ℕ) (found next : Option Finding) → of_reading do_variables r ≡ x ∷ [] → next ≡ earliest found (at_loops x c.blocks) → next ≡ earliest found (at_private c r)
one_variable c r x found next h n =
    n ∙ ap (λ (xs : List (List ℕ)). earliest found (flat_map (λ d. refused_if (meets xs d.private) IndexAssigned d.private_line) (open_loops c.blocks))) (sym h)
