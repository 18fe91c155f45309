-- The pane of calls: the marked blocks of a program and its folded dependences (ParaScope; this project).
use Rattle.std.specs.Prelude.{◌≡◌, ℕ, ◌+◌, List, [], ◌∷◌, ◌++◌, drop, length, codes, if◌then◌else◌}
use Rattle.std.specs.List.{flat_map, join_by}
use Rattle.std.specs.Fmt.{decimal}
use Rattle.ped_tree.specs.Tree.{StmtTree, StmtTrees, Assign, If, Do, Print, Read, Stop, Comment, no_stmts, more_stmts, ProgramTree}
use Rattle.ped_tree.specs.Numbering.{all_numbered}
use Rattle.ped_edges.specs.Edges.{Edge}
use Rattle.ped_edges.specs.Rows.{kind_text, level_text}
use Rattle.ped_rules.specs.ped_graph.specs.Dependences.{AreEdges}
use Rattle.ped_inline.specs.Folding.{is_block, blocks, Row, AreRows}

-- a CALL of the pane: the number of its block, and the text of the CALL (this project)
pub record Called : Type 0 where
  pub number : ℕ
  pub text : List ℕ

-- what a comment says after `$CALL ` (this project)
abbrev pub behind_mark : StmtTree → List ℕ
behind_mark (Comment text) = drop 6 text
behind_mark (Assign left right) = []
behind_mark (If condition then_part else_part) = []
behind_mark (Do h body) = []
behind_mark (Print items) = []
behind_mark (Read items) = []
behind_mark Stop = []

-- what the first of statements says, which is a comment (this project)
abbrev pub first_mark : StmtTrees → List ℕ
first_mark no_stmts = []
first_mark (more_stmts s rest) = behind_mark s

-- the text of the CALL that a marked block was made from (this project)
abbrev pub call_text : StmtTree → List ℕ
call_text (If condition then_part else_part) = first_mark then_part
call_text (Assign left right) = []
call_text (Do h body) = []
call_text (Print items) = []
call_text (Read items) = []
call_text Stop = []
call_text (Comment text) = []

-- the CALL of a statement with this number, where that is a marked block (this project)
abbrev pub called_at : ℕ → StmtTree → List Called
called_at n s = if is_block s then (record { number = n; text = call_text s }) ∷ [] else []

-- the CALLs of numbered statements, of which the first has number n (this project)
abbrev pub called_from : ℕ → List StmtTree → List Called
called_from n [] = []
called_from n (s ∷ ss) = called_at n s ++ called_from (n + 1) ss

-- the CALLs of a program, in text order, those in other blocks too (this project)
abbrev pub calls : ProgramTree → List Called
calls t = called_from 1 (all_numbered t.body)

-- the number of the block and the text of its CALL, with a blank between (this project)
abbrev pub called_row : Called → List ℕ
called_row c = decimal c.number ++ 32 ∷ c.text

-- source, sink, variable, kind and level, with a blank between two (this project)
abbrev pub folded_row : Row → List ℕ
folded_row r = join_by (λ part. part) (codes " ") (decimal r.source ∷ decimal r.sink ∷ r.name ∷ kind_text r.kind ∷ level_text r.level ∷ [])

-- how many CALLs and how many folded dependences there are, then a line for each CALL, and then one for each dependence (this project)
abbrev pub calls_pane : List Called → List Row → List ℕ
calls_pane cs rows =
    codes "calls " ++ decimal (length cs) ++ codes " edges " ++ decimal (length rows) ++ 10
    ∷ (flat_map (λ c. called_row c ++ 10 ∷ []) cs ++ flat_map (λ r. folded_row r ++ 10 ∷ []) rows)

-- the pane of calls of a program (ParaScope; this project)
abbrev pub IsCallsPane : ProgramTree → List ℕ → Type 0
IsCallsPane t pane = (edges : List Edge) × AreEdges t edges × (rows : List Row) × AreRows (blocks t) edges rows × (pane ≡ calls_pane (calls t) rows)
