-- Statements taken one by one, and what is built of them so far: declarations, open blocks, and the statements of the innermost block (this project).
use Rattle.std.specs.Prelude.{ℕ, List, [], ◌∷◌, ◌++◌, Option, Some, None, if◌then◌else◌}
use Rattle.ped_tree.specs.Tree.{CondTree, Head, StmtTree, no_stmts, If, Do, DeclTree, ProgramTree}
use Rattle.ped_tree.specs.Views.{pack_stmts}
use Rattle.ped_tree.specs.Grammar.Statement.{Statement}
use Rattle.ped_tree.specs.Grammar.Items.{Item, declares, saves_all, does, continues, logical_if, block_if, else_if, else_line, end_if, begins_do, ends_do, keeps_private, ends_program, Reading, says, outside_profile, no_form, Entry}
use Rattle.ped_tree.specs.Grammar.Occurrences.{rejected_names}
use Rattle.ped_tree.specs.Grammar.BlockForms.{comments_of, whole_head, has_label}
use Rattle.ped_tree.specs.Grammar.ProgramForms.{remarks_of, save_of, front_remarks, behind_front}

-- a condition with the THEN part that follows it
pub record Arm : Type 0 where
  pub condition : CondTree
  pub then_part : List StmtTree

-- an open block with the statements before it: the THEN part after a condition, or the ELSE part, each with the conditions before it, the last first; or a DO with its label, where it has one, and its head
pub data Frame : Type 0 where
  then_frame : List StmtTree → List Arm → CondTree → Frame
  else_frame : List StmtTree → List Arm → Frame
  do_frame : List StmtTree → Option ℕ → Head → Frame

-- the open blocks with the innermost first, and the statements so far of the innermost
pub record Nesting : Type 0 where
  pub frames : List Frame
  pub current : List StmtTree

-- the declarations so far, and how the executable statements so far nest
pub record Built : Type 0 where
  pub declarations : List DeclTree
  pub nesting : Nesting

-- these blocks with these statements in the innermost
abbrev pub nest : List Frame → List StmtTree → Nesting
nest frames current = record { frames = frames; current = current }

-- before the first statement
abbrev pub nothing_built : Built
nothing_built = record { declarations = []; nesting = nest [] [] }

-- conditions, the last first, as IFs in the ELSE parts of one another
abbrev pub chained : List Arm → List StmtTree → List StmtTree
chained [] else_part = else_part
chained (a ∷ arms) else_part = chained arms (If a.condition (pack_stmts a.then_part) (pack_stmts else_part) ∷ [])

-- the innermost loops that have this label end
abbrev pub close_loops : ℕ → List Frame → List StmtTree → Nesting
close_loops l [] current = nest [] current
close_loops l (then_frame before arms c ∷ frames) current = nest (then_frame before arms c ∷ frames) current
close_loops l (else_frame before arms ∷ frames) current = nest (else_frame before arms ∷ frames) current
close_loops l (do_frame before m h ∷ frames) current =
    if has_label m (Some l) then close_loops l frames (before ++ Do h (pack_stmts current) ∷ []) else nest (do_frame before m h ∷ frames) current

-- the same for a statement's label, where it has one
abbrev pub close_labelled : Option ℕ → List Frame → List StmtTree → Nesting
close_labelled None frames current = nest frames current
close_labelled (Some l) frames current = close_loops l frames current

-- ELSE IF ends a THEN part, and begins another
abbrev pub take_else_if : CondTree → List Frame → List StmtTree → Nesting
take_else_if d [] current = nest [] current
take_else_if d (then_frame before arms c ∷ frames) current = nest (then_frame before (record { condition = c; then_part = current } ∷ arms) d ∷ frames) []
take_else_if d (else_frame before arms ∷ frames) current = nest (else_frame before arms ∷ frames) current
take_else_if d (do_frame before l h ∷ frames) current = nest (do_frame before l h ∷ frames) current

-- ELSE ends a THEN part, and begins the ELSE part
abbrev pub take_else : List Frame → List StmtTree → Nesting
take_else [] current = nest [] current
take_else (then_frame before arms c ∷ frames) current = nest (else_frame before (record { condition = c; then_part = current } ∷ arms) ∷ frames) []
take_else (else_frame before arms ∷ frames) current = nest (else_frame before arms ∷ frames) current
take_else (do_frame before l h ∷ frames) current = nest (do_frame before l h ∷ frames) current

-- END IF ends an IF
abbrev pub take_end_if : List Frame → List StmtTree → Nesting
take_end_if [] current = nest [] current
take_end_if (then_frame before arms c ∷ frames) current = nest frames (before ++ chained (record { condition = c; then_part = current } ∷ arms) [])
take_end_if (else_frame before arms ∷ frames) current = nest frames (before ++ chained arms current)
take_end_if (do_frame before l h ∷ frames) current = nest (do_frame before l h ∷ frames) current

-- END DO ends a DO without a label; a DO with a label ends as at any other statement with that label
abbrev pub take_end_do : Option ℕ → List Frame → List StmtTree → Nesting
take_end_do label [] current = nest [] current
take_end_do label (then_frame before arms c ∷ frames) current = nest (then_frame before arms c ∷ frames) current
take_end_do label (else_frame before arms ∷ frames) current = nest (else_frame before arms ∷ frames) current
take_end_do label (do_frame before None h ∷ frames) current = nest frames (before ++ Do h (pack_stmts current) ∷ [])
take_end_do label (do_frame before (Some m) h ∷ frames) current = close_labelled label (do_frame before (Some m) h ∷ frames) current

-- PRIVATE belongs to the DO before it
abbrev pub take_private : List (List ℕ) → List Frame → List StmtTree → Nesting
take_private names [] current = nest [] current
take_private names (then_frame before arms c ∷ frames) current = nest (then_frame before arms c ∷ frames) current
take_private names (else_frame before arms ∷ frames) current = nest (else_frame before arms ∷ frames) current
take_private names (do_frame before l h ∷ frames) current = nest (do_frame before l (record h { private = names }) ∷ frames) current

-- an executable statement is taken, where these are the statements so far of the innermost block with the comments before it
abbrev pub nest_item : Statement → Item → List Frame → List StmtTree → Nesting
nest_item s (declares d) frames current = nest frames current
nest_item s saves_all frames current = nest frames current
nest_item s (does t) frames current = close_labelled s.label frames (current ++ t ∷ [])
nest_item s continues frames current = close_labelled s.label frames current
nest_item s (logical_if c t) frames current = close_labelled s.label frames (current ++ If c t no_stmts ∷ [])
nest_item s (block_if c) frames current = nest (then_frame current [] c ∷ frames) []
nest_item s (else_if c) frames current = take_else_if c frames current
nest_item s else_line frames current = take_else frames current
nest_item s end_if frames current = take_end_if frames current
nest_item s (begins_do l h) frames current = nest (do_frame current l (whole_head h [] (rejected_names s.directives)) ∷ frames) []
nest_item s ends_do frames current = take_end_do s.label frames current
nest_item s (keeps_private names) frames current = take_private names frames current
nest_item s ends_program frames current = nest frames current

-- an executable statement is taken after the comments before it
abbrev pub with_nested : Built → Statement → Item → Built
with_nested b s i = record b { nesting = nest_item s i b.nesting.frames (b.nesting.current ++ comments_of s) }

-- what a statement says is taken, where SAVE without a list is read as these names
abbrev pub take_item : List (List ℕ) → Built → Statement → Item → Built
take_item saved b s (declares d) = record b { declarations = b.declarations ++ (remarks_of s ++ d ∷ []) }
take_item saved b s saves_all = record b { declarations = b.declarations ++ (remarks_of s ++ save_of saved) }
take_item saved b s (does t) = with_nested b s (does t)
take_item saved b s continues = with_nested b s continues
take_item saved b s (logical_if c t) = with_nested b s (logical_if c t)
take_item saved b s (block_if c) = with_nested b s (block_if c)
take_item saved b s (else_if c) = with_nested b s (else_if c)
take_item saved b s else_line = with_nested b s else_line
take_item saved b s end_if = with_nested b s end_if
take_item saved b s (begins_do l h) = with_nested b s (begins_do l h)
take_item saved b s ends_do = with_nested b s ends_do
take_item saved b s (keeps_private names) = with_nested b s (keeps_private names)
take_item saved b s ends_program = with_nested b s ends_program

-- what the text of a statement is adds nothing where it has no form
abbrev pub take_reading : List (List ℕ) → Built → Statement → Reading → Built
take_reading saved b s (says i) = take_item saved b s i
take_reading saved b s outside_profile = b
take_reading saved b s no_form = b

-- a statement is taken
abbrev pub take_entry : List (List ℕ) → Built → Entry → Built
take_entry saved b e = take_reading saved b e.statement e.reading

-- statements are taken, one after another
abbrev pub take_entries : List (List ℕ) → Built → List Entry → Built
take_entries saved b [] = b
take_entries saved b (e ∷ rest) = take_entries saved (take_entry saved b e) rest

-- the program that is built; comments before the first executable statement belong to the declarations
abbrev pub built_program : Built → ProgramTree
built_program b = record {
  decls = b.declarations ++ front_remarks b.nesting.current;
  body = pack_stmts (behind_front b.nesting.current);
}
