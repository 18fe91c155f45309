-- How deep blocks stand behind a statement, and how many there are.
use Rattle.std.proofs.Common.{ℕ, ◌+◌, ◌≤◌, Bool, true, false, List, [], ◌∷◌, Option, Some, None, is_none, if◌then◌else◌, arith}
use Rattle.ped_tree.specs.Grammar.Statement.{Statement}
use Rattle.ped_tree.specs.Grammar.Items.{Item, declares, saves_all, does, continues, logical_if, block_if, else_if, else_line, end_if, begins_do, ends_do, keeps_private, ends_program, Reading, says, outside_profile, no_form, Entry}
use Rattle.ped_tree.specs.Grammar.Contexts.{Block, in_then, in_else, in_do, Context, has_do, has_if, is_loop_with, left_by_label, left_by, left_in_if, with_else, with_else_if, without_if, carries_open, without_do, with_private, blocks_behind, behind}
use Rattle.ped_tree.specs.Grammar.ProgramRefusals.{block_depth}

chosen_less : (b : Bool) (c d : List Block) (n : ℕ) → block_depth c ≤ n → block_depth d ≤ n → block_depth (if b then c else d) ≤ n
chosen_less true c d n h k = h
chosen_less false c d n h k = k

outer_less : (b : Block) (c : List Block) → block_depth c ≤ block_depth (b ∷ c)
outer_less (in_then n) c = omega arith
outer_less (in_else n) c = omega arith
outer_less (in_do d) c = omega arith

left_by_label_less : (l : ℕ) (c : List Block) → block_depth (left_by_label l c) ≤ block_depth c
left_by_label_less l [] = omega arith
left_by_label_less l (b ∷ c) =
    let outer : block_depth c ≤ block_depth (b ∷ c) = outer_less b c in
    let inner : block_depth (left_by_label l c) ≤ block_depth c = left_by_label_less l c in
    chosen_less (has_do l c) (left_by_label l c) (if is_loop_with l b then c else b ∷ c) (block_depth (b ∷ c)) (omega arith)
    (chosen_less (is_loop_with l b) c (b ∷ c) (block_depth (b ∷ c)) outer (omega arith))

-- a label leaves no more open
pub left_by_less : (label : Option ℕ) (c : List Block) → block_depth (left_by label c) ≤ block_depth c
left_by_less None c = omega arith
left_by_less (Some l) c = left_by_label_less l c

-- nor do ELSE, ELSE IF and END IF
pub in_if_less : (c : List Block) → block_depth (left_in_if c) ≤ block_depth c
in_if_less [] = omega arith
in_if_less (in_then n ∷ c) = omega arith
in_if_less (in_else n ∷ c) = omega arith
in_if_less (in_do d ∷ c) =
    let inner : block_depth (left_in_if c) ≤ block_depth c = in_if_less c in
    chosen_less (has_if c) (left_in_if c) (in_do d ∷ c) (block_depth c + 1) (omega arith) (omega arith)

else_if_less : (c : List Block) → block_depth (with_else_if c) ≤ block_depth c + 1
else_if_less [] = omega arith
else_if_less (in_then n ∷ c) = omega arith
else_if_less (in_else n ∷ c) = omega arith
else_if_less (in_do d ∷ c) = omega arith

else_less : (c : List Block) → block_depth (with_else c) ≤ block_depth c + 1
else_less [] = omega arith
else_less (in_then n ∷ c) = omega arith
else_less (in_else n ∷ c) = omega arith
else_less (in_do d ∷ c) = omega arith

without_less : (c : List Block) → block_depth (without_if c) ≤ block_depth c + 1
without_less [] = omega arith
without_less (in_then n ∷ c) = omega arith
without_less (in_else n ∷ c) = omega arith
without_less (in_do d ∷ c) = omega arith

private_less : (line : ℕ) (names : List (List ℕ)) (c : List Block) → block_depth (with_private line names c) ≤ block_depth c
private_less line names [] = omega arith
private_less line names (in_then n ∷ c) = omega arith
private_less line names (in_else n ∷ c) = omega arith
private_less line names (in_do d ∷ c) = omega arith

without_do_less : (c : List Block) → block_depth (without_do c) ≤ block_depth c
without_do_less [] = omega arith
without_do_less (in_then n ∷ c) = omega arith
without_do_less (in_else n ∷ c) = omega arith
without_do_less (in_do d ∷ c) = chosen_less (is_none d.label) c (in_do d ∷ c) (block_depth c + 1) (omega arith) (omega arith)

-- one deeper at most
item_less : (behind_do : Bool) (s : Statement) (i : Item) (c : List Block) → block_depth (blocks_behind behind_do s i c) ≤ block_depth c + 1
item_less behind_do s (declares d) c = omega (arith, left_by_less s.label c)
item_less behind_do s saves_all c = omega (arith, left_by_less s.label c)
item_less behind_do s (does t) c = omega (arith, left_by_less s.label c)
item_less behind_do s continues c = omega (arith, left_by_less s.label c)
item_less behind_do s (logical_if e t) c = omega (arith, left_by_less s.label c)
item_less behind_do s (block_if e) c = omega (arith, left_by_less s.label c)
item_less behind_do s (else_if e) c =
    omega (arith, in_if_less c, else_if_less (left_in_if c), left_by_less s.label (with_else_if (left_in_if c)))
item_less behind_do s else_line c =
    omega (arith, in_if_less c, else_less (left_in_if c), left_by_less s.label (with_else (left_in_if c)))
item_less behind_do s end_if c =
    omega (arith, in_if_less c, without_less (left_in_if c), left_by_less s.label (without_if (left_in_if c)))
item_less behind_do s (begins_do l h) c = omega (arith, left_by_less s.label c)
item_less behind_do s ends_do c =
    let ended = left_by s.label c in
    let left = without_do c in
    let less : block_depth (if carries_open s.label c then ended else left) ≤ block_depth c = chosen_less (carries_open s.label c) ended left (block_depth c) (left_by_less s.label c) (without_do_less c) in
    omega (arith, less)
item_less behind_do s (keeps_private names) c =
    let kept = with_private s.line names c in
    omega (arith, left_by_less s.label (if behind_do then kept else c), chosen_less behind_do kept c (block_depth c) (private_less s.line names c) (omega arith))
item_less behind_do s ends_program c = omega arith

pub deeper : (c : Context) (e : Entry) → block_depth (behind c e).blocks ≤ block_depth c.blocks + 1
deeper c e = by e.reading where
  by : (r : Reading) → block_depth (behind c record { statement = e.statement; reading = r }).blocks ≤ block_depth c.blocks + 1
  by (says i) = item_less c.behind_do e.statement i c.blocks
  by outside_profile = omega (arith, left_by_less e.statement.label c.blocks)
  by no_form = omega (arith, left_by_less e.statement.label c.blocks)
