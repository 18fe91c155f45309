-- Which statements a step keeps, each with its number before and after the step (this project).
use Rattle.std.specs.Prelude.{ℕ, suc, ◌+◌, ◌-◌, nat_le, nat_lt, List, map, filter, Bool, not, ◌&&◌, if◌then◌else◌}
use Rattle.std.specs.List.{range_with_len}
use Rattle.ped_tree.specs.Tree.{ProgramTree}
use Rattle.ped_tree.specs.Numbering.{statements_count}
use Rattle.ped_loop_runs.specs.ped_steps.specs.Replacing.{all_kept}

-- the number lies from the first of these to the last
abbrev pub is_between : (first last : ℕ) → ℕ → Bool
is_between first last n = nat_le first n && nat_le n last

-- all statements keep their numbers but those with numbers from the first to the last, which go
abbrev pub all_but : (first last : ℕ) → ProgramTree → List (ℕ × ℕ)
all_but first last t = filter (λ p. not (is_between first last p.0)) (all_kept t)

-- statements up to this number keep theirs, and the numbers after it grow by the other number
abbrev pub moved : ℕ → ℕ → ℕ → ℕ
moved end further n = if nat_lt end n then n + further else n

-- all statements stay, and the numbers after this one grow by the other number
abbrev pub moved_by : (end further : ℕ) → ProgramTree → List (ℕ × ℕ)
moved_by end further t = map (λ n. (n, moved end further n)) (range_with_len 1 (statements_count t.body))

-- the number after a step of the statement with number k, where the statement with number m goes and those in it stay (this project)
abbrev pub closed_up : (m k : ℕ) → ℕ
closed_up m k = if nat_lt k m then k else k - 1

-- the number before such a step of the statement with number k of the new program (this project)
abbrev pub opened_at : (m k : ℕ) → ℕ
opened_at m k = if nat_lt k m then k else suc k
