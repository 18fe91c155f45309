-- What the code keeps after the items of a READ (ANSI X3.9-1978, section 12.8; this project).
use Rattle.std.specs.Prelude.{ℕ, ℤ, List, [], ◌∷◌, Result, Ok}
use Rattle.ped_base.specs.Arithmetic.Faults.{◌>>=◌}
use Rattle.ped_tree.specs.Tree.{ExprTree}
use Rattle.ped_store.specs.Stores.{Number}
use Rattle.ped_store.specs.DataLines.{begun, next_value_of}
use Rattle.ped_store.specs.Memories.{Memory, with_content, with_data}
use Rattle.ped_eval.specs.Scopes.{Scope, Names, cell_of, index_value}
use Rattle.ped_eval.specs.Values.{target}

-- what names stand for in these iterations, by what a store keeps and these constants
abbrev pub names_with : Memory → Scope → List (List ℕ × ℤ) → Names
names_with m scope constants = record { bounds = m.bounds; constants = constants; cell = cell_of scope; index = index_value scope }

-- what is kept after an item of a READ, or the fault that ends it
abbrev pub item_taken : List (List ℕ × ℤ) → Scope → ExprTree → Memory → Result Memory ℕ
item_taken constants scope item m =
    next_value_of m.input >>= λ t.
    (target (names_with (with_data t.behind m) scope constants) item (with_data t.behind m).cells).result >>= λ c.
    Ok (with_content c (Number t.value) (with_data t.behind m))

-- what is kept after the items of a READ, or the fault that ends it
abbrev pub items_taken : List (List ℕ × ℤ) → Scope → List ExprTree → Memory → Result Memory ℕ
items_taken constants scope [] m = Ok m
items_taken constants scope (item ∷ rest) m = item_taken constants scope item m >>= items_taken constants scope rest

-- what is kept after a READ of these items, or the fault that ends it
abbrev pub read_taken : List (List ℕ × ℤ) → Scope → List ExprTree → Memory → Result Memory ℕ
read_taken constants scope items m = begun m.input.lines >>= λ d. items_taken constants scope items (with_data d m)
