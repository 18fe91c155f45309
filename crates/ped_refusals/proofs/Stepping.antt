-- The first refusal as a loop goes on.
use Rattle.std.proofs.Common.{◌≡◌, ℕ, ◌+◌, ◌<◌, List, ◌∷◌, length, map, drop, get_or, Option, sym, ap, ◌∙◌, add-one, drop-cons}
use Rattle.std.specs.List.{flat_map}
use Rattle.std.proofs.lemmas.List.Concat.{flat_map-cons}
use Rattle.ped_tree.specs.Grammar.StatementViews.{note_of}
use Rattle.ped_tree.specs.declared.grammar.statements.NoteLine.{NoteLine}
use Rattle.ped_tree.specs.Grammar.Statement.{Note}
use Rattle.ped_tree.specs.Grammar.Refusal.{Finding, earliest}
use Rattle.ped_tree.proofs.GrammarLaws.First.{earliest_append}

-- what is left of a list begins with the item at its place
pub left_cons : {X : Type 0} (xs : List X) (i : ℕ) (x : X) → i < length xs → x ≡ get_or xs i x → drop i xs ≡ x ∷ drop (i + 1) xs
left_cons xs i x h e = drop-cons xs i x h ∙ (λ k. sym e k ∷ drop (sym (add-one i) k) xs)

-- one note more has been looked at
pub note_step : (at : Note → List Finding) (found next : Option Finding) (notes : List NoteLine) (i : ℕ) (note : NoteLine) → i < length notes → note ≡ get_or notes i note → next ≡ earliest found (at (note_of note)) → earliest next (flat_map at (map note_of (drop (i + 1) notes))) ≡ earliest found (flat_map at (map note_of (drop i notes)))
note_step at found next notes i note h e n =
    let rest = map note_of (drop (i + 1) notes) in
    ap (λ (f : Option Finding). earliest f (flat_map at rest)) n
    ∙ sym (earliest_append found (at (note_of note)) (flat_map at rest))
    ∙ ap (earliest found) (sym (flat_map-cons at (note_of note) rest))
    ∙ ap (λ (ns : List NoteLine). earliest found (flat_map at (map note_of ns))) (sym (left_cons notes i note h e))
