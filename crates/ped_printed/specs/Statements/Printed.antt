-- What the printed text of a single statement or declaration reads as (this project).
use Rattle.std.specs.Prelude.{◌≡◌, ◌↔◌, ℕ, List, [], ◌++◌, codes, Option, None, IsTrue, IsFalse}
use Rattle.ped_lines.specs.ped_tree.specs.Tree.{CondTree, Head, StmtTree, StmtTrees, Assign, If, Do, Print, Read, Stop, Comment, no_stmts, more_stmts, DeclTree, Save}
use Rattle.ped_lines.specs.ped_tree.specs.Grammar.Characters.{text_of}
use Rattle.ped_lines.specs.ped_tree.specs.Grammar.Items.{Item, declares, does, logical_if, block_if, else_if, else_line, end_if, begins_do, ends_do, keeps_private, ends_program}
use Rattle.ped_lines.specs.ped_tree.specs.Grammar.Literals.{decl_has_large_literal}
use Rattle.ped_lines.specs.ped_tree.specs.Grammar.StatementForms.{are_names, ReadsItem}
use Rattle.ped_lines.specs.ped_tree.specs.Grammar.BlockForms.{whole_head}
use Rattle.ped_lines.specs.ped_tree.specs.Grammar.ProgramRefusals.{is_too_large}
use Rattle.ped_lines.specs.ped_tree.specs.Printing.{blanks, own_text, private_text, decl_text}

-- the characters of a statement read as this item alone, and blanks before and after them change nothing (ANSI X3.9-1978, section 3.1.6)
pub record ReadsOnly (characters : List ℕ) (i : Item) : Type 0 where
  pub only : (j : Item) → ReadsItem (text_of characters) j ↔ (j ≡ i)
  pub among_blanks : (before behind : ℕ) → text_of (blanks before ++ characters ++ blanks behind) ≡ text_of characters

-- an item says the statement, or its first line where it has parts: the IF of a block IF, of an ELSE IF or of a logical IF, the statement after a logical IF, a DO with or without a label and with whatever private and rejected names (ANSI X3.9-1978, section 3.4; this project)
pub data SaysFirstLine (i : Item) (s : StmtTree) : Type 0 where
  itself : i ≡ does s → SaysFirstLine i s
  of_block_if : (c : CondTree) (then_part else_part : StmtTrees) → i ≡ block_if c → s ≡ If c then_part else_part → SaysFirstLine i s
  of_else_if : (c : CondTree) (then_part else_part : StmtTrees) → i ≡ else_if c → s ≡ If c then_part else_part → SaysFirstLine i s
  of_logical_if : (c : CondTree) (behind then_part else_part : StmtTrees) → i ≡ logical_if c behind → s ≡ If c then_part else_part → SaysFirstLine i s
  behind_logical_if : (c : CondTree) → i ≡ logical_if c (more_stmts s no_stmts) → SaysFirstLine i s
  of_do : (label : Option ℕ) (h : Head) (private rejected : List (List ℕ)) (body : StmtTrees) → i ≡ begins_do label h → s ≡ Do (whole_head h private rejected) body → SaysFirstLine i s

-- what the first printed line of a statement says: each IF is printed as a block IF, and each DO without a label (ANSI X3.9-1978, section 3.4; this project)
abbrev pub first_line_item : StmtTree → Item
first_line_item (Assign left right) = does (Assign left right)
first_line_item (If condition then_part else_part) = block_if condition
first_line_item (Do h body) = begins_do None (whole_head h [] [])
first_line_item (Print items) = does (Print items)
first_line_item (Read items) = does (Read items)
first_line_item Stop = does Stop
first_line_item (Comment text) = does (Comment text)

-- a declaration that some text reads as, without a literal above 2147483647, is printed as a text that reads as it alone
abbrev pub DeclarationPrints : Type 0
DeclarationPrints = (text : List ℕ) (d : DeclTree) → ReadsItem text (declares d) → IsFalse (decl_has_large_literal d) → ReadsOnly (decl_text d) (declares d)

-- SAVE with a list of names, which SAVE without one stands for, is printed as a text that reads as it alone
abbrev pub SavePrints : Type 0
SavePrints = (names : List (List ℕ)) → IsTrue (are_names names) → ReadsOnly (decl_text (Save names)) (declares (Save names))

-- a statement whose first line an item of some text says, without a literal above 2147483647, has a first printed line that reads as that line alone
abbrev pub StatementPrints : Type 0
StatementPrints = (text : List ℕ) (i : Item) (s : StmtTree) → ReadsItem text i → IsFalse (is_too_large i) → SaysFirstLine i s → ReadsOnly (own_text s) (first_line_item s)

-- the same of PRIVATE
abbrev pub PrivatePrints : Type 0
PrivatePrints = (text : List ℕ) (names : List (List ℕ)) → ReadsItem text (keeps_private names) → ReadsOnly (private_text names) (keeps_private names)

-- the lines that are printed alike at each place read as they say
pub record WordsPrint : Type 0 where
  pub of_else : ReadsOnly (codes "ELSE") else_line
  pub of_end_if : ReadsOnly (codes "END IF") end_if
  pub of_end_do : ReadsOnly (codes "END DO") ends_do
  pub of_end : ReadsOnly (codes "END") ends_program
