-- Marked blocks, CALLs and rows as the code keeps them (this project).
use Rattle.std.specs.Prelude.{ℕ, List, map, Option, Some, None}
use Rattle.ped_refs.specs.Occurrences.{name_text}
use Rattle.ped_edges.specs.CodeEdges.{kind_of}
use Rattle.ped_inline.specs.Folding.{CallBlock, Row}
use Rattle.ped_inline.specs.CallsPane.{Called}
use Rattle.ped_inline.specs.declared.block_places.CallBlock as code_blocks
use Rattle.ped_inline.specs.declared.called.Called as code_calls
use Rattle.ped_inline.specs.declared.rows.FoldedRow.{FoldedRow}

-- the marked block with this number, in this many DO loops (this project)
abbrev pub numbered_block : (number loops : ℕ) → CallBlock
numbered_block number loops = record { number = number; loops = loops }

-- the block that the code keeps (this project)
abbrev pub block_seen : code_blocks.CallBlock → CallBlock
block_seen b = numbered_block b.number b.loops

-- the same, where there is one (this project)
abbrev pub place_seen : Option code_blocks.CallBlock → Option CallBlock
place_seen None = None
place_seen (Some b) = Some (block_seen b)

-- the blocks of statements that the code keeps (this project)
abbrev pub places_seen : List (Option code_blocks.CallBlock) → List (Option CallBlock)
places_seen places = map place_seen places

-- the CALL that the code keeps (this project)
abbrev pub called_seen : code_calls.Called → Called
called_seen c = record { number = c.number; text = c.text.now }

-- the row that the code keeps (this project)
abbrev pub row_seen : FoldedRow → Row
row_seen r = record { source = r.source; sink = r.sink; name = name_text r.name; kind = kind_of r.kind; level = r.level }
