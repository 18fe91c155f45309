-- The pairs of references that a change of a program tests afresh (this project).
use Rattle.std.specs.Prelude.{ℕ, List, Bool, ◌==◌, ◌&&◌, not}
use Rattle.std.specs.List.{list_any, count_by}
use Rattle.ped_tree.specs.Tree.{ProgramTree}
use Rattle.ped_views.specs.SameViews.{same_view}
use Rattle.ped_graph.specs.Held.{Pair, Held, held_of, held_pairs}

-- the statement with the first number before the change has the second one after it (this project)
abbrev pub keeps : List (ℕ × ℕ) → ℕ → ℕ → Bool
keeps keep former now = list_any (λ k. k.0 == former && k.1 == now) keep

-- a reference of a kept statement, with the same number in it (this project)
abbrev pub keeps_place : List (ℕ × ℕ) → ℕ × ℕ → ℕ × ℕ → Bool
keeps_place keep former now = keeps keep former.0 now.0 && former.1 == now.1

-- the second pair comes from the first: both its references are kept, and its view is the same (this project)
abbrev pub comes_from : List (ℕ × ℕ) → Pair → Pair → Bool
comes_from keep q p = keeps_place keep q.source p.source && keeps_place keep q.sink p.sink && same_view q.view p.view

-- the pair comes from no pair that the former graph held (this project)
abbrev pub is_fresh : Held → List (ℕ × ℕ) → Pair → Bool
is_fresh former keep p = not (list_any (λ q. comes_from keep q p) (held_pairs former))

-- how many pairs of the second graph come from none of the first, where these statements are kept (this project)
abbrev pub fresh_pairs : Held → List (ℕ × ℕ) → Held → ℕ
fresh_pairs former keep changed = count_by (is_fresh former keep) (held_pairs changed)

-- how many pairs of references are tested when the first program becomes the second, which keeps these statements: those that come from no pair of the first with the same view (this project)
abbrev pub tested_pairs : ProgramTree → ProgramTree → List (ℕ × ℕ) → ℕ
tested_pairs old new keep = fresh_pairs (held_of old) keep (held_of new)
