-- What the open blocks of the code stand for. Only contracts of private functions use this.
use Rattle.std.specs.Prelude.{ℕ, List, [], map, reverse, Bool, false, Option, Some}
use Rattle.ped_tree.specs.Views.{cond_tree, head_of, stmt_tree, decl_tree}
use Rattle.ped_tree.specs.Grammar.Statement as whole
use Rattle.ped_tree.specs.Grammar.BlockForms.{has_label}
use Rattle.ped_blocks.specs.Machine as plain
use Rattle.ped_blocks.specs.declared.frames.Arm.{Arm}
use Rattle.ped_blocks.specs.declared.frames.Frame.{Frame}
use Rattle.ped_blocks.specs.declared.frames.Frame.TheVariants as frame
use Rattle.ped_blocks.specs.declared.nesting.Nesting.{Nesting}
use Rattle.ped_blocks.specs.declared.programs.Built.{Built}

-- a condition with the THEN part that follows it
abbrev pub arm_of : Arm → plain.Arm
arm_of a = record { condition = cond_tree a.condition; then_part = map stmt_tree a.then_part.items }

-- conditions, the last first
unfoldable pub arms_of : List Arm → List plain.Arm
arms_of arms = reverse (map arm_of arms)

-- an open block with the statements before it
abbrev pub frame_of : Frame → plain.Frame
frame_of (frame.Then b) = plain.then_frame (map stmt_tree b.before.items) (arms_of b.arms.items) (cond_tree b.condition)
frame_of (frame.Else b) = plain.else_frame (map stmt_tree b.before.items) (arms_of b.arms.items)
frame_of (frame.Loop b) = plain.do_frame (map stmt_tree b.before.items) b.label (head_of b.head)

-- a DO loop that ends at this label
abbrev pub ends_at : ℕ → plain.Frame → Bool
ends_at l (plain.then_frame before arms c) = false
ends_at l (plain.else_frame before arms) = false
ends_at l (plain.do_frame before m h) = has_label m (Some l)

-- open blocks, the innermost first
unfoldable pub blocks_of : List Frame → List plain.Frame
blocks_of frames = reverse (map frame_of frames)

-- the open blocks, and the statements so far of the innermost
abbrev pub nesting_of : Nesting → plain.Nesting
nesting_of n = plain.nest (blocks_of n.frames.items) (map stmt_tree n.current.items)

-- the declarations so far, and how the executable statements so far nest
abbrev pub built_of : Built → plain.Built
built_of b = record { declarations = map decl_tree b.decls.items; nesting = nesting_of b.nesting }

-- a statement with this label and these directives: nothing else of it counts where what it says is taken
abbrev pub statement_with : Option ℕ → List whole.Note → whole.Statement
statement_with label directives = record { line = 0; label = label; text = []; comments = []; directives = directives }
