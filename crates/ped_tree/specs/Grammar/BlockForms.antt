-- How statements nest: the parts of a block IF, and DO loops that end at END DO, at a labelled statement of their own or at one that they share (ANSI X3.9-1978, sections 11.6, 11.10).
use Rattle.std.specs.Prelude.{ℕ, List, [], ◌∷◌, ◌++◌, map, Bool, true, false, not, ◌&&◌, ◌||◌, ◌==◌, Option, Some, None, is_none}
use Rattle.std.specs.List.{list_any}
use Rattle.ped_tree.specs.Tree.{CondTree, Head, StmtTree, StmtTrees, no_stmts, If, Do, Comment}
use Rattle.ped_tree.specs.Views.{pack_stmts}
use Rattle.ped_tree.specs.Grammar.Statement.{Statement}
use Rattle.ped_tree.specs.Grammar.Items.{Item, does, continues, logical_if, block_if, else_if, else_line, end_if, begins_do, ends_do, keeps_private, says, Entry}
use Rattle.ped_tree.specs.Grammar.Occurrences.{rejected_names}

-- an assignment, PRINT, READ or STOP, a CONTINUE, or a logical IF (ANSI X3.9-1978, sections 10.1, 11.5, 11.11, 11.12, 12.8)
pub data PlainForm : Type 0 where
  a_simple : StmtTree → PlainForm
  a_continue : PlainForm
  a_logical_if : CondTree → StmtTrees → PlainForm

-- the PRIVATE statement of a DO, where it has one (this project)
pub data PrivateForm : Type 0 where
  no_private : PrivateForm
  private_list : Statement → List (List ℕ) → PrivateForm

mutual
  -- statements one after another
  pub data BodyForm : Type 0 where
    nothing : BodyForm
    and_then : BodyForm → PartForm → BodyForm

  -- a plain statement, a block IF with its THEN part, or a DO loop
  pub data PartForm : Type 0 where
    a_plain : Statement → PlainForm → PartForm
    an_if : Statement → CondTree → BodyForm → RestForm → PartForm
    a_do : LoopForm → PartForm

  -- what follows a THEN part: END IF, or ELSE with its part and END IF, or ELSE IF with its THEN part and what follows that
  pub data RestForm : Type 0 where
    ends_if : Statement → RestForm
    has_else : Statement → BodyForm → Statement → RestForm
    has_else_if : Statement → CondTree → BodyForm → RestForm → RestForm

  -- a DO statement with its label or none, PRIVATE, the statements of the body, and how the loop ends
  pub data LoopForm : Type 0 where
    loop : Statement → Option ℕ → Head → PrivateForm → BodyForm → EndingForm → LoopForm

  -- a loop ends at a plain statement with its label, at END DO, or where a loop in it ends that has the same label
  pub data EndingForm : Type 0 where
    at_plain : Statement → PlainForm → EndingForm
    at_end_do : Statement → EndingForm
    with_inner : LoopForm → EndingForm

-- what a plain statement says (ANSI X3.9-1978, section 3.5)
abbrev pub plain_item : PlainForm → Item
plain_item (a_simple s) = does s
plain_item a_continue = continues
plain_item (a_logical_if c s) = logical_if c s

-- a statement that says this (ANSI X3.9-1978, section 3.5)
abbrev pub entry : Statement → Item → Entry
entry s i = record { statement = s; reading = says i }

-- the statement of PRIVATE (ANSI X3.9-1978, section 3.5)
abbrev pub private_entries : PrivateForm → List Entry
private_entries no_private = []
private_entries (private_list s names) = entry s (keeps_private names) ∷ []

-- the statements of a form, in the order of the text (ANSI X3.9-1978, section 3.5)
abbrev mutual
  pub body_entries : BodyForm → List Entry
  body_entries nothing = []
  body_entries (and_then b p) = body_entries b ++ part_entries p

  pub part_entries : PartForm → List Entry
  part_entries (a_plain s p) = entry s (plain_item p) ∷ []
  part_entries (an_if s c b r) = entry s (block_if c) ∷ (body_entries b ++ rest_entries r)
  part_entries (a_do d) = loop_entries d

  pub rest_entries : RestForm → List Entry
  rest_entries (ends_if s) = entry s end_if ∷ []
  rest_entries (has_else s b e) = entry s else_line ∷ (body_entries b ++ entry e end_if ∷ [])
  rest_entries (has_else_if s c b r) = entry s (else_if c) ∷ (body_entries b ++ rest_entries r)

  pub loop_entries : LoopForm → List Entry
  loop_entries (loop s l h p b e) = entry s (begins_do l h) ∷ (private_entries p ++ body_entries b ++ ending_entries e)

  pub ending_entries : EndingForm → List Entry
  ending_entries (at_plain s p) = entry s (plain_item p) ∷ []
  ending_entries (at_end_do s) = entry s ends_do ∷ []
  ending_entries (with_inner d) = loop_entries d

-- the comments before a statement, which come before it in the tree (this project)
abbrev pub comments_of : Statement → List StmtTree
comments_of s = map (λ n. Comment n.text) s.comments

-- the tree of a plain statement: a logical IF is a block IF, and a CONTINUE is nothing (ANSI X3.9-1978, section 11.5; this project)
abbrev pub plain_trees : PlainForm → List StmtTree
plain_trees (a_simple s) = s ∷ []
plain_trees a_continue = []
plain_trees (a_logical_if c s) = If c s no_stmts ∷ []

-- the private names (this project)
abbrev pub names_of_private : PrivateForm → List (List ℕ)
names_of_private no_private = []
names_of_private (private_list s names) = names

-- the comments between a DO and its PRIVATE come first in the body (this project)
abbrev pub comments_of_private : PrivateForm → List StmtTree
comments_of_private no_private = []
comments_of_private (private_list s names) = comments_of s

-- the statement that follows a THEN part; the comments before it end that part (this project)
abbrev pub first_of_rest : RestForm → Statement
first_of_rest (ends_if s) = s
first_of_rest (has_else s b e) = s
first_of_rest (has_else_if s c b r) = s

-- the head of a loop with its private names and those of its directives (this project)
abbrev pub whole_head : Head → List (List ℕ) → List (List ℕ) → Head
whole_head h private rejected = record h { private = private; rejected = rejected }

-- the trees of a form: an ELSE IF is an IF in the ELSE part, and labels are gone (ANSI X3.9-1978, sections 11.6 to 11.10; this project)
abbrev mutual
  pub body_trees : BodyForm → List StmtTree
  body_trees nothing = []
  body_trees (and_then b p) = body_trees b ++ part_trees p

  pub part_trees : PartForm → List StmtTree
  part_trees (a_plain s p) = comments_of s ++ plain_trees p
  part_trees (an_if s c b r) = comments_of s ++ If c (pack_stmts (body_trees b ++ comments_of (first_of_rest r))) (pack_stmts (rest_trees r)) ∷ []
  part_trees (a_do d) = loop_trees d

  pub rest_trees : RestForm → List StmtTree
  rest_trees (ends_if s) = []
  rest_trees (has_else s b e) = body_trees b ++ comments_of e
  rest_trees (has_else_if s c b r) = If c (pack_stmts (body_trees b ++ comments_of (first_of_rest r))) (pack_stmts (rest_trees r)) ∷ []

  pub loop_trees : LoopForm → List StmtTree
  loop_trees (loop s l h p b e) =
      comments_of s
      ++ Do (whole_head h (names_of_private p) (rejected_names s.directives)) (pack_stmts (comments_of_private p ++ body_trees b ++ ending_trees e)) ∷ []

  pub ending_trees : EndingForm → List StmtTree
  ending_trees (at_plain s p) = comments_of s ++ plain_trees p
  ending_trees (at_end_do s) = comments_of s
  ending_trees (with_inner d) = loop_trees d

-- the label of a DO, where it has one (ANSI X3.9-1978, section 11.10)
abbrev pub loop_label : LoopForm → Option ℕ
loop_label (loop s l h p b e) = l

-- a loop has a label, and it is that of the statement (ANSI X3.9-1978, section 11.10.1)
abbrev pub has_label : Option ℕ → Option ℕ → Bool
has_label (Some l) (Some m) = m == l
has_label (Some l) None = false
has_label None m = false

-- the statement has none of these labels, those of the loops around it (ANSI X3.9-1978, section 11.10.1)
abbrev pub is_free : List (Option ℕ) → Statement → Bool
is_free labels s = not (list_any (λ l. has_label l s.label) labels)

-- PRIVATE has none of these labels (this project)
abbrev pub private_keeps_labels : List (Option ℕ) → PrivateForm → Bool
private_keeps_labels labels no_private = true
private_keeps_labels labels (private_list s names) = is_free labels s

-- the first statement after a DO that has its label ends it: within loops with these labels none of them occurs but at an ending; END DO ends a DO without a label (ANSI X3.9-1978, section 11.10.1; this project)
abbrev mutual
  pub body_keeps_labels : List (Option ℕ) → BodyForm → Bool
  body_keeps_labels labels nothing = true
  body_keeps_labels labels (and_then b p) = body_keeps_labels labels b && part_keeps_labels labels p

  pub part_keeps_labels : List (Option ℕ) → PartForm → Bool
  part_keeps_labels labels (a_plain s p) = is_free labels s
  part_keeps_labels labels (an_if s c b r) = is_free labels s && body_keeps_labels labels b && rest_keeps_labels labels r
  part_keeps_labels labels (a_do d) = not (list_any (λ l. has_label l (loop_label d)) labels) && loop_keeps_labels labels d

  pub rest_keeps_labels : List (Option ℕ) → RestForm → Bool
  rest_keeps_labels labels (ends_if s) = is_free labels s
  rest_keeps_labels labels (has_else s b e) = is_free labels s && body_keeps_labels labels b && is_free labels e
  rest_keeps_labels labels (has_else_if s c b r) = is_free labels s && body_keeps_labels labels b && rest_keeps_labels labels r

  pub loop_keeps_labels : List (Option ℕ) → LoopForm → Bool
  loop_keeps_labels labels (loop s l h p b e) = is_free labels s && private_keeps_labels (l ∷ labels) p && body_keeps_labels (l ∷ labels) b && ending_keeps_labels (l ∷ labels) l e

  pub ending_keeps_labels : List (Option ℕ) → Option ℕ → EndingForm → Bool
  ending_keeps_labels labels l (at_plain s p) = has_label l s.label
  ending_keeps_labels labels l (at_end_do s) = has_label l s.label || (is_none l && is_free labels s)
  ending_keeps_labels labels l (with_inner d) = has_label l (loop_label d) && loop_keeps_labels labels d
