-- Rows of variables, one more at a time.
use Rattle.std.proofs.Common.{◌≡◌, ◌<◌, ◌+◌, ℕ, List, [], ◌∷◌, ◌++◌, drop, length, map, get_or, refl, ap, sym, ◌∙◌}
use Rattle.std.proofs.lemmas.List.{at_drop_more}
use Rattle.ped_store.specs.Memories.{Memory}
use Rattle.ped_eval.specs.Outcomes.{LiveRow}
use Rattle.ped_eval.specs.declared.outcomes.LiveRow as code
use Rattle.ped_eval.specs.Live.{row_in, rows_in}
use Rattle.ped_eval.specs.OutcomeViews.{row_view}

-- a row behind others
more_rows : (rows : List code.LiveRow) (row : code.LiveRow) (rest : List LiveRow) → map row_view (rows ++ row ∷ []) ++ rest ≡ map row_view rows ++ row_view row ∷ rest
more_rows [] row rest = refl
more_rows (r ∷ rows) row rest = ap (λ more. row_view r ∷ more) (more_rows rows row rest)

pub rows_next : (m : Memory) (rows : List code.LiveRow) (row : code.LiveRow) (names : List (List ℕ)) (i : ℕ) (name : List ℕ) → i < length names → name ≡ get_or names i name → row_view row ≡ row_in m name
    → map row_view rows ++ rows_in m (drop i names) ≡ rows_in m names → map row_view (rows ++ row ∷ []) ++ rows_in m (drop (i + 1) names) ≡ rows_in m names
rows_next m rows row names i name within is right all =
    more_rows rows row (rows_in m (drop (i + 1) names))
    ∙ ap (λ r. map row_view rows ++ r ∷ rows_in m (drop (i + 1) names)) (right ∙ ap (row_in m) is)
    ∙ ap (λ more. map row_view rows ++ more) (sym (at_drop_more (rows_in m) names i name within))
    ∙ all
