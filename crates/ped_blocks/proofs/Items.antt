-- What a statement says is taken by its label and its directives alone.
use Rattle.std.proofs.Common.{◌≡◌, List, refl}
use Rattle.ped_tree.specs.Tree.{StmtTree}
use Rattle.ped_tree.specs.Grammar.Statement.{Statement}
use Rattle.ped_tree.specs.Grammar.Items.{Item, declares, saves_all, does, continues, logical_if, block_if, else_if, else_line, end_if, begins_do, ends_do, keeps_private, ends_program}
use Rattle.ped_blocks.specs.Machine.{Frame, nest_item}
use Rattle.ped_blocks.specs.BlockViews.{statement_with}

pub by_label : (s : Statement) (i : Item) (frames : List Frame) (current : List StmtTree) → nest_item s i frames current ≡ nest_item (statement_with s.label s.directives) i frames current
by_label s (declares d) frames current = refl
by_label s saves_all frames current = refl
by_label s (does t) frames current = refl
by_label s continues frames current = refl
by_label s (logical_if c t) frames current = refl
by_label s (block_if c) frames current = refl
by_label s (else_if c) frames current = refl
by_label s else_line frames current = refl
by_label s end_if frames current = refl
by_label s (begins_do l h) frames current = refl
by_label s ends_do frames current = refl
by_label s (keeps_private names) frames current = refl
by_label s ends_program frames current = refl
