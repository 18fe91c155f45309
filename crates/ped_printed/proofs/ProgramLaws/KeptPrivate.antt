-- A DO whose variable a loop round it keeps private is refused at that loop's PRIVATE statement, and no other is.
use Rattle.std.proofs.Common.{◌≡◌, ℕ, List, [], ◌∷◌, ◌++◌, Bool, true, false, refl, sym, ◌∙◌}
use Rattle.std.specs.Prelude.{◌||◌}
use Rattle.std.specs.List.{flat_map}
use Rattle.std.proofs.lemmas.Bool.{or_parts, or_from}
use Rattle.std.proofs.lemmas.List.Folds.{list_any-append}
use Rattle.ped_lines.specs.ped_base.specs.Lists.{is_same_text, is_among}
use Rattle.ped_lines.specs.ped_tree.specs.Grammar.Refusal.{Refusal, Finding, IndexAssigned, refused_if}
use Rattle.ped_lines.specs.ped_tree.specs.Grammar.Contexts.{OpenLoop, Block, open_loops}
use Rattle.ped_lines.specs.ped_tree.specs.Grammar.ProgramRefusals.{meets}
use Rattle.ped_blocks.proofs.BlocksFound.{none_stands, left_empty, right_empty}

-- the private names of the loops that are open
abbrev pub open_private : List Block → List (List ℕ)
open_private bs = flat_map (λ d. d.private) (open_loops bs)

pub none : (r : Refusal) (line : ℕ) (test : Bool) → test ≡ false → refused_if test r line ≡ []
unfolding refused_if
none r line true h = absurd cc
none r line false h = refl

-- what is refused at the PRIVATE statements of these loops by a DO with such variables
abbrev pub kept_in : List (List ℕ) → List OpenLoop → List Finding
kept_in vs ds = flat_map (λ d. refused_if (meets vs d.private) IndexAssigned d.private_line) ds

-- no statement but a DO is refused there
pub kept_never : (ds : List OpenLoop) → kept_in [] ds ≡ []
kept_never [] = refl
kept_never (d ∷ ds) = let first = none IndexAssigned d.private_line false refl in let more = kept_never ds in λ i. first i ++ more i

among_both : (v : List ℕ) (d : OpenLoop) (ds : List OpenLoop) → is_among v (d.private ++ flat_map (λ d. d.private) ds) ≡ (is_among v d.private || is_among v (flat_map (λ d. d.private) ds))
among_both v d ds = list_any-append (is_same_text v) d.private (flat_map (λ d. d.private) ds)

pub kept_nowhere : (v : List ℕ) (ds : List OpenLoop) → is_among v (flat_map (λ d. d.private) ds) ≡ false → kept_in (v ∷ []) ds ≡ []
kept_nowhere v [] h = refl
kept_nowhere v (d ∷ ds) h =
    let k = or_parts (is_among v d.private) _ (sym (among_both v d ds) ∙ h) in
    let first = none IndexAssigned d.private_line (is_among v d.private || false) (or_from (is_among v d.private) false k.0 refl) in
    let more = kept_nowhere v ds k.1 in
    λ i. first i ++ more i

pub unkept : (v : List ℕ) (ds : List OpenLoop) → kept_in (v ∷ []) ds ≡ [] → is_among v (flat_map (λ d. d.private) ds) ≡ false
unkept v [] h = refl
unkept v (d ∷ ds) h =
    let first = none_stands (is_among v d.private || false) IndexAssigned d.private_line (left_empty _ (kept_in (v ∷ []) ds) h) in
    let more = unkept v ds (right_empty (refused_if (is_among v d.private || false) IndexAssigned d.private_line) _ h) in
    among_both v d ds ∙ or_from (is_among v d.private) _ (or_parts (is_among v d.private) false first).0 more
