-- Blocks of the iterations of two loops, by rows and by columns (this project).
use Rattle.std.specs.Prelude.{ℕ, ◌<◌, List, map, filter, Bool}
use Rattle.std.specs.List.{flat_map}
use Rattle.ped_eval.specs.ped_store.specs.Acts.{Act}
use Rattle.ped_laws.specs.Acts.Orders.{StandsBefore, Block}

-- numbers that rise (plain words)
abbrev pub IsRising : List ℕ → Type 0
IsRising ns = (m n : ℕ) → StandsBefore m n ns → m < n

-- the block of the outer iteration i and the inner iteration j (plain words)
abbrev pub block_at : (ℕ → ℕ → List Act) → ℕ → ℕ → Block
block_at acts i j = record { outer = i; inner = j; acts = acts i j }

-- the blocks of each outer iteration, one after the other, where only some pairs of iterations are done (this project)
abbrev pub by_rows : (ℕ → ℕ → Bool) → (ℕ → ℕ → List Act) → List ℕ → List ℕ → List Block
by_rows done acts outer inner = flat_map (λ i. map (block_at acts i) (filter (done i) inner)) outer

-- the same blocks, those of each inner iteration one after the other (this project)
abbrev pub by_columns : (ℕ → ℕ → Bool) → (ℕ → ℕ → List Act) → List ℕ → List ℕ → List Block
by_columns done acts outer inner = flat_map (λ j. map (λ i. block_at acts i j) (filter (λ i. done i j) outer)) inner
