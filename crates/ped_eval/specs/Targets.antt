-- Cells of left sides and of items of READ, before their bounds are tested (ANSI X3.9-1978, sections 10.1, 12.8; this project).
use Rattle.std.specs.Prelude.{◌≡◌, ℕ, ℤ, List, length, Result, Ok, Err, if◌then◌else◌}
use Rattle.ped_tree.specs.Tree as tree
use Rattle.ped_tree.specs.Tree.{ExprTree}
use Rattle.ped_symbols.specs.Uses.{expr_count}
use Rattle.ped_store.specs.Cells.{Cell, Scalar, Element, Private, In, Out}
use Rattle.ped_store.specs.Stores.{outside_bounds}
use Rattle.ped_store.specs.Storage.{is_within}
use Rattle.ped_store.specs.Memories.{Memory}
use Rattle.ped_eval.specs.Scopes.{Scope, cell_of}

-- the cell, or the fault where it is an element with a subscript outside its bounds (ANSI X3.9-1978, section 5.4.2; this project)
abbrev pub bounded : Memory → Cell → Result Cell ℕ
bounded m (Element x subscripts) = if is_within (m.bounds x) subscripts then Ok (Element x subscripts) else Err outside_bounds
bounded m (Scalar x) = Ok (Scalar x)
bounded m (Private x iterations) = Ok (Private x iterations)
bounded m In = Ok In
bounded m Out = Ok Out

-- the cell is what the expression names: what a scalar stands for, or an element of the array with as many subscripts as are written (ANSI X3.9-1978, sections 5.4, 10.1)
abbrev pub IsNamedBy : Scope → ExprTree → Cell → Type 0
IsNamedBy scope (tree.Var x) c = c ≡ cell_of scope x
IsNamedBy scope (tree.Element x subscripts) c = (js : List ℤ) × (length js ≡ expr_count subscripts) × (c ≡ Element x js)
IsNamedBy scope e c = ⊥
