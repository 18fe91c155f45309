-- Folded dependences: those of a program in which each marked block counts as one statement (ParaScope; this project).
use Rattle.std.specs.Prelude.{◌≡◌, ℕ, ◌+◌, ◌-◌, ◌==◌, List, [], ◌∷◌, ◌++◌, slice_index_or, replicate, nat_lt, Bool, true, false, not, ◌&&◌, is_some, Option, Some, None, if◌then◌else◌}
use Rattle.std.specs.Ordering.{nat_cmp, ordering_then}
use Rattle.std.specs.declared.cmp.Ordering.{Ordering}
use Rattle.std.specs.declared.cmp.Ordering.TheVariants.{Less, Equal, Greater}
use Rattle.std.specs.Cmp.Lexicographic.{slice_cmp}
use Rattle.std.specs.List.Sorted.{IsStrictlySortedBy}
use Rattle.ped_tree.specs.Tree.{StmtTree, StmtTrees, Assign, If, Do, Print, Read, Stop, Comment, no_stmts, more_stmts, ProgramTree}
use Rattle.ped_tree.specs.Numbering.{statement_count, statements_count}
use Rattle.ped_edges.specs.Edges.{Kind, flow, anti, output, Edge}
use Rattle.ped_rules.specs.ped_laws.specs.Acts.Orders.{IsIn}
use Rattle.ped_inline.specs.Blocks.{block_body}

-- a marked block: its number, and how many DO loops are around it (this project)
pub record CallBlock : Type 0 where
  pub number : ℕ
  pub loops : ℕ

-- the statement is a marked block (this project)
abbrev pub is_block : StmtTree → Bool
is_block s = is_some (block_body s)

abbrev mutual
  -- for each numbered statement of a statement and its parts, in text order, the outermost marked block that it is or is in; the statement has number n, is in no marked block, and in this many DO loops (this project)
  pub blocks_in : (loops n : ℕ) → StmtTree → List (Option CallBlock)
  blocks_in loops n (If condition then_part else_part) =
      if is_block (If condition then_part else_part) then replicate (statement_count (If condition then_part else_part)) (Some (record { number = n; loops = loops }))
      else None ∷ (all_blocks_in loops (n + 1) then_part ++ all_blocks_in loops (n + 1 + statements_count then_part) else_part)
  blocks_in loops n (Do h body) = None ∷ all_blocks_in (loops + 1) (n + 1) body
  blocks_in loops n (Assign left right) = None ∷ []
  blocks_in loops n (Print items) = None ∷ []
  blocks_in loops n (Read items) = None ∷ []
  blocks_in loops n Stop = None ∷ []
  blocks_in loops n (Comment text) = []

  -- the same of statements, one after another (this project)
  pub all_blocks_in : (loops n : ℕ) → StmtTrees → List (Option CallBlock)
  all_blocks_in loops n no_stmts = []
  all_blocks_in loops n (more_stmts s rest) = blocks_in loops n s ++ all_blocks_in loops (n + statement_count s) rest

-- for each statement of a program, by its number, the outermost marked block that it is or is in (this project)
abbrev pub blocks : ProgramTree → List (Option CallBlock)
blocks t = all_blocks_in 0 1 t.body

-- the block that stands for the statement with this number; None where it is in none (this project)
abbrev pub block_at : List (Option CallBlock) → ℕ → Option CallBlock
block_at bs number = slice_index_or bs (number - 1) None

-- no loop carries the dependence, or one that is in the block: those around it have lesser levels (Allen and Kennedy, section 2.2.5; this project)
abbrev pub stays_inside : CallBlock → Option ℕ → Bool
stays_inside b None = true
stays_inside b (Some level) = nat_lt b.loops level

-- a dependence of this level with these blocks at its source and at its sink is shown where one is a block, but for what stays inside one block (this project)
abbrev pub is_folded_by : Option CallBlock → Option CallBlock → Option ℕ → Bool
is_folded_by None None level = false
is_folded_by None (Some c) level = true
is_folded_by (Some b) None level = true
is_folded_by (Some b) (Some c) level = not (b.number == c.number && stays_inside b level)

-- the dependence is shown among those of blocks (ParaScope; this project)
abbrev pub is_folded : List (Option CallBlock) → Edge → Bool
is_folded bs e = is_folded_by (block_at bs e.source.0) (block_at bs e.sink.0) e.level

-- the number of a block, or of the statement that is in none (this project)
abbrev pub number_by : ℕ → Option CallBlock → ℕ
number_by number None = number
number_by number (Some b) = b.number

-- what is shown of a folded dependence: its source and its sink, the variable, the kind, and the level of the loop that carries it, None where it is independent of loops (Allen and Kennedy, section 2.2; this project)
pub record Row : Type 0 where
  pub source : ℕ
  pub sink : ℕ
  pub name : List ℕ
  pub kind : Kind
  pub level : Option ℕ

-- the row of a dependence: a block has its number for all references in it (this project)
abbrev pub row_of : List (Option CallBlock) → Edge → Row
row_of bs e = record {
  source = number_by e.source.0 (block_at bs e.source.0);
  sink = number_by e.sink.0 (block_at bs e.sink.0);
  name = e.name;
  kind = e.kind;
  level = e.level;
}

-- flow comes before anti, and anti before output (this project)
abbrev pub kind_rank : Kind → ℕ
kind_rank flow = 0
kind_rank anti = 1
kind_rank output = 2

-- outer loops come first, and what is independent of loops comes last (this project)
abbrev pub level_cmp : Option ℕ → Option ℕ → Ordering
level_cmp (Some a) (Some b) = nat_cmp a b
level_cmp (Some a) None = Less
level_cmp None (Some b) = Greater
level_cmp None None = Equal

-- rows go by source, sink, name, kind and level; names in byte order (this project)
abbrev pub row_cmp : Row → Row → Ordering
row_cmp r s =
    ordering_then (nat_cmp r.source s.source)
    (ordering_then (nat_cmp r.sink s.sink)
    (ordering_then (slice_cmp nat_cmp r.name s.name)
    (ordering_then (nat_cmp (kind_rank r.kind) (kind_rank s.kind))
    (level_cmp r.level s.level))))

-- these are the rows of the folded ones among the dependences, each once, in their order (this project)
pub record AreRows (bs : List (Option CallBlock)) (edges : List Edge) (rows : List Row) : Type 0 where
  pub ordered : IsStrictlySortedBy row_cmp rows
  pub none_lost : (e : Edge) → IsIn e edges → is_folded bs e ≡ true → IsIn (row_of bs e) rows
  pub none_added : (r : Row) → IsIn r rows → (e : Edge) × IsIn e edges × (is_folded bs e ≡ true) × (r ≡ row_of bs e)
