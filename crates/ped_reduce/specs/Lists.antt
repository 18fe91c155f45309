-- The list of a reduction: comments at the front of a DO's body that name the scalars to which its iterations add (Allen and Kennedy, section 5.6; this project).
use Rattle.std.specs.Prelude.{ℕ, List, [], ◌∷◌, ◌++◌, map, filter, take, drop, codes, Bool, not, Option, Some, None, if◌then◌else◌}
use Rattle.std.specs.Char.{to_ascii_uppercase}
use Rattle.ped_base.specs.Letters.{name_of}
use Rattle.ped_base.specs.Lists.{is_same_text, has_some}
use Rattle.ped_tree.specs.Grammar.Columns.{is_blank}
use Rattle.ped_tree.specs.Tree.{Head, StmtTrees, Assign, If, Do, Print, Read, Stop, Comment, no_stmts, more_stmts}

-- the text of a comment in capitals, without blanks
abbrev pub folded : List ℕ → List ℕ
folded text = map to_ascii_uppercase (filter (λ c. not (is_blank c)) text)

-- the name after $REDUCE, where these are that word and a name
abbrev pub name_behind_word : List ℕ → Option (List ℕ)
name_behind_word text = if is_same_text (take 7 text) (codes "$REDUCE") then name_of (drop 7 text) else None

-- the name that a comment lists, where its text is $REDUCE and a name; blanks and small letters make no difference (this project)
abbrev pub listed_name : List ℕ → Option (List ℕ)
listed_name text = name_behind_word (folded text)

-- a name, where there is one, before others; else none of them
abbrev pub before_names : Option (List ℕ) → List (List ℕ) → List (List ℕ)
before_names None names = []
before_names (Some x) names = x ∷ names

-- the list of these statements: the names in the comments at their front, up to the first statement or comment that lists none (this project)
abbrev pub list_of : StmtTrees → List (List ℕ)
list_of no_stmts = []
list_of (more_stmts (Comment text) rest) = before_names (listed_name text) (list_of rest)
list_of (more_stmts (Assign left right) rest) = []
list_of (more_stmts (If condition then_part else_part) rest) = []
list_of (more_stmts (Do h body) rest) = []
list_of (more_stmts (Print items) rest) = []
list_of (more_stmts (Read items) rest) = []
list_of (more_stmts Stop rest) = []

-- the first statements where there is no name, and the others where there is one
abbrev pub unless_named : Option (List ℕ) → StmtTrees → StmtTrees → StmtTrees
unless_named None whole others = whole
unless_named (Some x) whole others = others

-- the statements without their list
abbrev pub without_list : StmtTrees → StmtTrees
without_list no_stmts = no_stmts
without_list (more_stmts (Comment text) rest) = unless_named (listed_name text) (more_stmts (Comment text) rest) (without_list rest)
without_list (more_stmts (Assign left right) rest) = more_stmts (Assign left right) rest
without_list (more_stmts (If condition then_part else_part) rest) = more_stmts (If condition then_part else_part) rest
without_list (more_stmts (Do h body) rest) = more_stmts (Do h body) rest
without_list (more_stmts (Print items) rest) = more_stmts (Print items) rest
without_list (more_stmts (Read items) rest) = more_stmts (Read items) rest
without_list (more_stmts Stop rest) = more_stmts Stop rest

-- the text of the comment that lists a name
abbrev pub list_text : List ℕ → List ℕ
list_text x = codes "$REDUCE " ++ x

-- the statements with comments before them that list these names, in order
abbrev pub with_list : List (List ℕ) → StmtTrees → StmtTrees
with_list [] body = body
with_list (x ∷ xs) body = more_stmts (Comment (list_text x)) (with_list xs body)

-- the body of the DO has a list
abbrev pub has_list : Head → StmtTrees → Bool
has_list h body = has_some (list_of body)
