-- Reading the text of a statement from left to right (this project).
use Rattle.std.specs.Prelude.{ℕ, List, [], ◌∷◌, codes, Option, Some, None, Bool, true, false, ◌==◌, if◌then◌else◌}
use Rattle.std.specs.List.{list_all}
use Rattle.ped_base.specs.Letters.{is_letter, is_digit, is_alphanumeric}
use Rattle.ped_tree.specs.Tree as plain
use Rattle.ped_tree.specs.Tree.{ExprTree, Int, Var, Element, Neg, Add, Sub, Mul, Div, Pow, Call, ItemTree, Value, Text, Head, StmtTree, StmtTrees, Assign, Print, Read, Stop, no_stmts, more_stmts, BoundTree, DeclaratorTree}
use Rattle.ped_base.specs.Lists.{has_some, is_same_text}
use Rattle.ped_tree.specs.Grammar.Words.{is_name, numeral_value}
use Rattle.ped_tree.specs.Grammar.Items.{Item, declares, saves_all, does, continues, logical_if, block_if, else_if, else_line, end_if, begins_do, ends_do, keeps_private, ends_program}
use Rattle.ped_tree.specs.Grammar.StatementForms.{is_label}
use Rattle.ped_statements.specs.declared.keywords.Keyword.{Keyword}
use Rattle.ped_statements.specs.declared.keywords.Keyword.TheVariants as keyword
use Rattle.ped_expressions.specs.Scanning.{Answer, ◌>>=◌, go_on, front, behind, first_is, after}
use Rattle.ped_expressions.specs.ExpressionReading.{expr_of, primary_of}
use Rattle.ped_expressions.specs.ConditionReading.{cond_of}
use Rattle.ped_statements.specs.Listing.{is_end, whole, several, each_behind_comma}

-- a name
abbrev pub name_at : List ℕ → Answer (List ℕ)
name_at text = if is_name (front is_alphanumeric text) then Some (front is_alphanumeric text, behind is_alphanumeric text) else None

-- a scalar or an element
abbrev pub is_reference : ExprTree → Bool
is_reference (Int n) = false
is_reference (Var x) = true
is_reference (Element x subscripts) = true
is_reference (Neg a) = false
is_reference (Add a b) = false
is_reference (Sub a b) = false
is_reference (Mul a b) = false
is_reference (Div a b) = false
is_reference (Pow a b) = false
is_reference (Call f arguments) = false

-- a scalar or an element, each literal n as v n
unfoldable pub reference_of : (ℕ → ℕ) → List ℕ → Answer ExprTree
reference_of v text = if first_is is_letter text then (primary_of v text >>= λ x. if is_reference x.0 then Some x else None) else None

-- the dimension with these bounds
abbrev pub bound : ExprTree → ExprTree → BoundTree
bound lower upper = record { lower = lower; upper = upper }

-- a dimension
unfoldable pub bound_of : (ℕ → ℕ) → List ℕ → Answer BoundTree
bound_of v text = expr_of v text >>= λ x. go_on (after (codes ":") x.1) (Some (bound (Int (v 1)) x.0, x.1)) (λ r. expr_of v r >>= λ y. Some (bound x.0 y.0, y.1))

-- the declared name with these dimensions
abbrev pub declarator : List ℕ → List BoundTree → DeclaratorTree
declarator x bounds = record { name = x; bounds = bounds }

-- the dimensions of an array after its opening parenthesis
unfoldable pub dimensions_of : (ℕ → ℕ) → List ℕ → List ℕ → Answer DeclaratorTree
dimensions_of v x text = several (bound_of v) text >>= λ y. after (codes ")") y.1 >>= λ r. Some (declarator x y.0, r)

-- a declared scalar or array
unfoldable pub declarator_of : (ℕ → ℕ) → List ℕ → Answer DeclaratorTree
declarator_of v text = name_at text >>= λ x. go_on (after (codes "(") x.1) (Some (declarator x.0 [], x.1)) (λ q. dimensions_of v x.0 q)

-- an array and no scalar
abbrev pub is_array : DeclaratorTree → Bool
is_array d = has_some d.bounds

-- a named constant with its value
unfoldable pub value_of : (ℕ → ℕ) → List ℕ → Answer (List ℕ × ExprTree)
value_of v text = name_at text >>= λ x. after (codes "=") x.1 >>= λ q. expr_of v q >>= λ y. Some ((x.0, y.0), y.1)

-- the characters of a constant before the apostrophe that closes it, two apostrophes as one; whether an apostrophe is directly before them
abbrev pub quoted_at : Bool → List ℕ → Answer (List ℕ)
quoted_at false [] = None
quoted_at true [] = Some ([], [])
quoted_at false (c ∷ cs) = if c == 39 then quoted_at true cs else quoted_at false cs >>= λ x. Some (c ∷ x.0, x.1)
quoted_at true (c ∷ cs) = if c == 39 then (quoted_at false cs >>= λ x. Some (39 ∷ x.0, x.1)) else Some ([], c ∷ cs)

-- an item of a PRINT
unfoldable pub print_item_of : (ℕ → ℕ) → List ℕ → Answer ItemTree
print_item_of v text = go_on (after (codes "'") text) (expr_of v text >>= λ x. Some (Value x.0, x.1)) (λ q. quoted_at false q >>= λ x. Some (Text x.0, x.1))

-- an assignment
unfoldable pub assignment_of : (ℕ → ℕ) → List ℕ → Option StmtTree
assignment_of v text = reference_of v text >>= λ l. after (codes "=") l.1 >>= λ q. whole (expr_of v q) >>= λ e. Some (Assign l.0 e)

-- PRINT, READ, STOP or CONTINUE, of which the last does nothing
unfoldable pub worded_of : (ℕ → ℕ) → List ℕ → Option (Option StmtTree)
worded_of v text =
    if is_same_text text (codes "STOP") then Some (Some Stop)
    else if is_same_text text (codes "CONTINUE") then Some None
    else go_on (after (codes "PRINT*") text)
    (after (codes "READ*") text >>= λ q. each_behind_comma (reference_of v) q >>= λ items. Some (Some (Read items)))
    (λ q. each_behind_comma (print_item_of v) q >>= λ items. Some (Some (Print items)))

-- a statement that may follow a logical IF
unfoldable pub simple_of : (ℕ → ℕ) → List ℕ → Option (Option StmtTree)
simple_of v text = go_on (assignment_of v text) (worded_of v text) (λ s. Some (Some s))

-- the statement after a logical IF
abbrev pub behind_logical : Option StmtTree → StmtTrees
behind_logical None = no_stmts
behind_logical (Some s) = more_stmts s no_stmts

-- what a simple statement says
abbrev pub simply : Option StmtTree → Item
simply None = continues
simply (Some s) = does s

-- what follows the opening parenthesis of an IF
unfoldable pub if_of : (ℕ → ℕ) → List ℕ → Option Item
if_of v text = cond_of v text >>= λ c. after (codes ")") c.1 >>= λ r.
    if is_same_text r (codes "THEN") then Some (block_if c.0) else simple_of v r >>= λ s. Some (logical_if c.0 (behind_logical s))

-- what follows the opening parenthesis of an ELSE IF
unfoldable pub else_if_of : (ℕ → ℕ) → List ℕ → Option Item
else_if_of v text = cond_of v text >>= λ c. if is_same_text c.1 (codes ")THEN") then Some (else_if c.0) else None

-- the text without a comma at its front
abbrev pub without_comma : List ℕ → List ℕ
without_comma text = go_on (after (codes ",") text) text (λ r. r)

-- the increment of a DO, 1 where none is written
unfoldable pub step_of : (ℕ → ℕ) → List ℕ → Answer ExprTree
step_of v text = go_on (after (codes ",") text) (Some (Int (v 1), text)) (λ r. expr_of v r)

-- the head of a DO, without private and rejected names
abbrev pub head : Bool → List ℕ → ExprTree → ExprTree → ExprTree → Head
head parallel x first last step = record { variable = x; first = first; last = last; step = step; parallel = parallel; private = []; rejected = [] }

-- the variable of a DO, its bounds and its increment
unfoldable pub control_of : (ℕ → ℕ) → Bool → List ℕ → Answer Head
control_of v parallel text =
    name_at text >>= λ x. after (codes "=") x.1 >>= λ q. expr_of v q >>= λ a. after (codes ",") a.1 >>= λ r. expr_of v r >>= λ b. step_of v b.1 >>= λ s.
    Some (head parallel x.0 a.0 b.0 s.0, s.1)

-- what follows DO or PARALLEL DO: a label with or without a comma after it, or none
unfoldable pub do_of : (ℕ → ℕ) → Bool → List ℕ → Option Item
do_of v parallel text =
    if is_end (front is_digit text) then (whole (control_of v parallel text) >>= λ h. Some (begins_do None h))
    else if is_label (front is_digit text) then (whole (control_of v parallel (without_comma (behind is_digit text))) >>= λ h. Some (begins_do (Some (numeral_value (front is_digit text))) h))
    else None

-- a word that begins a statement, with what always follows it
abbrev pub keyword_text : Keyword → List ℕ
keyword_text keyword.Program = codes "PROGRAM"
keyword_text keyword.Implicit = codes "IMPLICITINTEGER(A-Z)"
keyword_text keyword.Integer = codes "INTEGER"
keyword_text keyword.Dimension = codes "DIMENSION"
keyword_text keyword.Parameter = codes "PARAMETER("
keyword_text keyword.Save = codes "SAVE"
keyword_text keyword.If = codes "IF("
keyword_text keyword.ElseIf = codes "ELSEIF("
keyword_text keyword.Else = codes "ELSE"
keyword_text keyword.EndIf = codes "ENDIF"
keyword_text keyword.EndDo = codes "ENDDO"
keyword_text keyword.Do = codes "DO"
keyword_text keyword.ParallelDo = codes "PARALLELDO"
keyword_text keyword.Private = codes "PRIVATE"
keyword_text keyword.End = codes "END"

-- the first of the keywords that begins the text
abbrev pub first_keyword : List Keyword → List ℕ → Answer Keyword
first_keyword [] text = None
first_keyword (k ∷ ks) text = go_on (after (keyword_text k) text) (first_keyword ks text) (λ rest. Some (k, rest))

-- the keywords, each before those that begin it
abbrev pub all_keywords : List Keyword
all_keywords =
    keyword.Program ∷ keyword.Implicit ∷ keyword.Integer ∷ keyword.Dimension ∷ keyword.Parameter ∷ keyword.Save
    ∷ keyword.If ∷ keyword.ElseIf ∷ keyword.Else ∷ keyword.EndIf ∷ keyword.EndDo ∷ keyword.Do ∷ keyword.ParallelDo ∷ keyword.Private ∷ keyword.End ∷ []

-- the keyword at the front
abbrev pub keyword_at : List ℕ → Answer Keyword
keyword_at text = first_keyword all_keywords text

-- the item, where nothing follows
abbrev pub alone : Item → List ℕ → Option Item
alone i text = if is_end text then Some i else None

-- what a statement says that begins with the keyword, by what follows it
unfoldable pub statement_behind : (ℕ → ℕ) → Keyword → List ℕ → Option Item
statement_behind v keyword.Program text = if is_name text then Some (declares (plain.Program text)) else None
statement_behind v keyword.Implicit text = alone (declares plain.Implicit) text
statement_behind v keyword.Integer text = whole (several (declarator_of v) text) >>= λ ds. Some (declares (plain.Integer ds))
statement_behind v keyword.Dimension text = whole (several (declarator_of v) text) >>= λ ds. if list_all is_array ds then Some (declares (plain.Dimension ds)) else None
statement_behind v keyword.Parameter text = several (value_of v) text >>= λ y. if is_same_text y.1 (codes ")") then Some (declares (plain.Parameter y.0)) else None
statement_behind v keyword.Save text = if is_end text then Some saves_all else whole (several name_at text) >>= λ names. Some (declares (plain.Save names))
statement_behind v keyword.If text = if_of v text
statement_behind v keyword.ElseIf text = else_if_of v text
statement_behind v keyword.Else text = alone else_line text
statement_behind v keyword.EndIf text = alone end_if text
statement_behind v keyword.EndDo text = alone ends_do text
statement_behind v keyword.Do text = do_of v false text
statement_behind v keyword.ParallelDo text = do_of v true text
statement_behind v keyword.Private text = whole (several name_at text) >>= λ names. Some (keeps_private names)
statement_behind v keyword.End text = alone ends_program text

-- a statement that begins with a keyword
unfoldable pub keyword_statement_of : (ℕ → ℕ) → List ℕ → Option Item
keyword_statement_of v text = keyword_at text >>= λ k. statement_behind v k.0 k.1

-- a statement of the profile
unfoldable pub statement_of : (ℕ → ℕ) → List ℕ → Option Item
statement_of v text = go_on (simple_of v text) (keyword_statement_of v text) (λ s. Some (simply s))
