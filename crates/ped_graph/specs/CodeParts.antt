-- How kept verdicts are exchanged. Only contracts of private functions use this definition (this project).
use Rattle.std.specs.Prelude.{List, [], ◌∷◌, Option, None, slice_set, slice_index_or}
use Rattle.ped_views.specs.Views.{View}
use Rattle.ped_graph.specs.declared.parts.Kept.{Kept}

-- verdicts and slots after the exchanges of these pairs, one after the other
abbrev pub exchanged : List Kept → List (Option View) → List (Option View) → List (Option View) × List (Option View)
exchanged [] verdicts slots = (verdicts, slots)
exchanged (k ∷ kept) verdicts slots =
    exchanged kept (slice_set verdicts k.here (slice_index_or slots k.there None)) (slice_set slots k.there (slice_index_or verdicts k.here None))
