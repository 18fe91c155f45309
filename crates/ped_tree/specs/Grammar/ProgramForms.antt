-- A whole program: declarations, executable statements, END (ANSI X3.9-1978, section 3.5).
use Rattle.std.specs.Prelude.{ℕ, List, [], ◌∷◌, ◌++◌, map, replicate, if◌then◌else◌}
use Rattle.std.specs.List.{flat_map}
use Rattle.ped_tree.specs.Tree.{StmtTree, Comment, DeclTree, Save, Remark, ProgramTree}
use Rattle.ped_tree.specs.Views.{pack_stmts}
use Rattle.ped_base.specs.Lists.{has_some}
use Rattle.ped_tree.specs.Grammar.Statement.{Statement}
use Rattle.ped_tree.specs.Grammar.Items.{Item, declares, saves_all, keeps_private, ends_program, Reading, says, Entry}
use Rattle.ped_tree.specs.Grammar.Contexts.{numbered_in}
use Rattle.ped_tree.specs.Grammar.BlockForms.{BodyForm, entry, body_entries, body_trees, comments_of}

-- a declaration, or a SAVE without a list
pub data DeclForm : Type 0 where
  a_declaration : Statement → DeclTree → DeclForm
  a_save_of_all : Statement → DeclForm

-- the declarations, the executable statements, END
pub record ProgramForm : Type 0 where
  pub declarations : List DeclForm
  pub body : BodyForm
  pub ending : Statement

-- the statement of a declaration
abbrev pub decl_entry : DeclForm → Entry
decl_entry (a_declaration s d) = entry s (declares d)
decl_entry (a_save_of_all s) = entry s saves_all

-- the statements of a program, in the order of the text
abbrev pub program_entries : ProgramForm → List Entry
program_entries f = map decl_entry f.declarations ++ body_entries f.body ++ entry f.ending ends_program ∷ []

-- the comments before a declaration (this project)
abbrev pub remarks_of : Statement → List DeclTree
remarks_of s = map (λ n. Remark n.text) s.comments

-- SAVE of these names, dropped where there is none (ANSI X3.9-1978, section 8.9; this project)
abbrev pub save_of : List (List ℕ) → List DeclTree
save_of names = if has_some names then Save names ∷ [] else []

-- a declaration with the comments before it, where SAVE without a list is read as these names (this project)
abbrev pub decl_trees : List (List ℕ) → DeclForm → List DeclTree
decl_trees saved (a_declaration s d) = remarks_of s ++ d ∷ []
decl_trees saved (a_save_of_all s) = remarks_of s ++ save_of saved

-- the comments before the first statement that is none (this project)
abbrev pub front_remarks : List StmtTree → List DeclTree
front_remarks [] = []
front_remarks (Comment text ∷ rest) = Remark text ∷ front_remarks rest
front_remarks (s ∷ rest) = []

-- the statements from the first on that is no comment (this project)
abbrev pub behind_front : List StmtTree → List StmtTree
behind_front [] = []
behind_front (Comment text ∷ rest) = behind_front rest
behind_front (s ∷ rest) = s ∷ rest

-- the executable statements with the comments before and among them and before END (this project)
abbrev pub all_trees : ProgramForm → List StmtTree
all_trees f = body_trees f.body ++ comments_of f.ending

-- the tree of a program, where SAVE without a list is read as these names; comments before the first executable statement belong to the declarations (ANSI X3.9-1978, section 2.4; this project)
abbrev pub program_form_tree : List (List ℕ) → ProgramForm → ProgramTree
program_form_tree saved f = record {
  decls = flat_map (decl_trees saved) f.declarations ++ front_remarks (all_trees f);
  body = pack_stmts (behind_front (all_trees f));
}

-- how often the line of a statement counts: once for a declaration and for PRIVATE, once for each numbered statement that it is (this project)
abbrev pub line_count : List (List ℕ) → Item → ℕ
line_count saved (declares d) = 1
line_count saved saves_all = if has_some saved then 1 else 0
line_count saved (keeps_private names) = 1
line_count saved i = numbered_in i

-- the line of a statement, as often as it counts (this project)
abbrev pub lines_of_reading : List (List ℕ) → ℕ → Reading → List ℕ
lines_of_reading saved line (says i) = replicate (line_count saved i) line
lines_of_reading saved line r = []

-- the first line of each declaration, of each numbered statement and of each PRIVATE, in text order (this project)
abbrev pub first_lines : List (List ℕ) → List Entry → List ℕ
first_lines saved entries = flat_map (λ e. lines_of_reading saved e.statement.line e.reading) entries
