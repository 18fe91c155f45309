-- The printed form of a program: one statement a line with its continuation lines, indented by the loops and IFs around it, each DO ended by an END DO of its own (this project).
use Rattle.std.specs.Prelude.{ℕ, suc, ◌+◌, ◌-◌, ◌*◌, ◌/◌, min, List, [], ◌∷◌, ◌++◌, map, take, drop, length, replicate, codes, Bool, true, false, ◌==◌, Option, Some, None, is_some, if◌then◌else◌}
use Rattle.std.specs.List.{count_by, join_by, flat_map, range_with_len}
use Rattle.std.specs.Fmt.{decimal}
use Rattle.ped_tree.specs.declared.expressions.Intrinsic.{Intrinsic}
use Rattle.ped_tree.specs.declared.expressions.Intrinsic.TheVariants.{Mod, Abs, Max, Min}
use Rattle.ped_tree.specs.declared.conditions.Relation.{Relation}
use Rattle.ped_tree.specs.declared.conditions.Relation.TheVariants as relation
use Rattle.ped_tree.specs.Tree.{ExprTree, ExprTrees, Int, Var, Element, Neg, Add, Sub, Mul, Div, Pow, Call, no_exprs, more_exprs, CondTree, Rel, Not, And, Or, ItemTree, Value, Text, Head, StmtTree, StmtTrees, Assign, If, Do, Print, Read, Stop, Comment, no_stmts, more_stmts, BoundTree, DeclaratorTree, DeclTree, Program, Implicit, Integer, Dimension, Parameter, Save, Remark, ProgramTree}
use Rattle.ped_tree.specs.Numbering.{statement_count, statements_count}

-- the place of an expression: alone, as a term of a sum or after a sign, as a factor, as the base of a power (ANSI X3.9-1978, section 6.1.2)
pub data Place : Type 0 where
  alone : Place
  as_term : Place
  as_factor : Place
  as_base : Place

-- a sum, a difference or a negation is enclosed there (ANSI X3.9-1978, section 6.1.2)
abbrev pub encloses_sum : Place → Bool
encloses_sum alone = false
encloses_sum as_term = true
encloses_sum as_factor = true
encloses_sum as_base = true

-- a product or a quotient is enclosed there (ANSI X3.9-1978, section 6.1.2)
abbrev pub encloses_product : Place → Bool
encloses_product alone = false
encloses_product as_term = false
encloses_product as_factor = true
encloses_product as_base = true

-- a power is enclosed there: powers group to the right (ANSI X3.9-1978, section 6.1.2)
abbrev pub encloses_power : Place → Bool
encloses_power alone = false
encloses_power as_term = false
encloses_power as_factor = false
encloses_power as_base = true

-- in parentheses where they are needed (ANSI X3.9-1978, section 6.1.2)
abbrev pub enclosed : Bool → List ℕ → List ℕ
enclosed needed text = if needed then codes "(" ++ text ++ codes ")" else text

-- the name of an intrinsic function (ANSI X3.9-1978, sections 6.1, 15.10)
abbrev pub intrinsic_text : Intrinsic → List ℕ
intrinsic_text Mod = codes "MOD"
intrinsic_text Abs = codes "ABS"
intrinsic_text Max = codes "MAX"
intrinsic_text Min = codes "MIN"

-- an expression without blanks, with the fewest parentheses (ANSI X3.9-1978, sections 6.1, 15.10)
abbrev mutual
  pub expr_text : Place → ExprTree → List ℕ
  expr_text p (Int n) = decimal n
  expr_text p (Var x) = x
  expr_text p (Element x subscripts) = x ++ codes "(" ++ exprs_text subscripts ++ codes ")"
  expr_text p (Neg a) = enclosed (encloses_sum p) (codes "-" ++ expr_text as_term a)
  expr_text p (Add a b) = enclosed (encloses_sum p) (expr_text alone a ++ codes "+" ++ expr_text as_term b)
  expr_text p (Sub a b) = enclosed (encloses_sum p) (expr_text alone a ++ codes "-" ++ expr_text as_term b)
  expr_text p (Mul a b) = enclosed (encloses_product p) (expr_text as_term a ++ codes "*" ++ expr_text as_factor b)
  expr_text p (Div a b) = enclosed (encloses_product p) (expr_text as_term a ++ codes "/" ++ expr_text as_factor b)
  expr_text p (Pow a b) = enclosed (encloses_power p) (expr_text as_base a ++ codes "**" ++ expr_text as_factor b)
  expr_text p (Call f arguments) = intrinsic_text f ++ codes "(" ++ exprs_text arguments ++ codes ")"

  -- subscripts or arguments, with a comma between two (ANSI X3.9-1978, sections 6.1, 15.10)
  pub exprs_text : ExprTrees → List ℕ
  exprs_text no_exprs = []
  exprs_text (more_exprs e rest) = expr_text alone e ++ further_text rest

  pub further_text : ExprTrees → List ℕ
  further_text no_exprs = []
  further_text (more_exprs e rest) = codes "," ++ expr_text alone e ++ further_text rest

-- an expression that is alone (ANSI X3.9-1978, sections 6.1, 15.10)
abbrev pub value_text : ExprTree → List ℕ
value_text e = expr_text alone e

-- the relational operator between its periods (ANSI X3.9-1978, section 6.3)
abbrev pub relation_text : Relation → List ℕ
relation_text relation.Lt = codes ".LT."
relation_text relation.Le = codes ".LE."
relation_text relation.Eq = codes ".EQ."
relation_text relation.Ne = codes ".NE."
relation_text relation.Gt = codes ".GT."
relation_text relation.Ge = codes ".GE."

-- the place of a condition: as a whole, as a part of .OR., as the right part of .AND., after .NOT. (ANSI X3.9-1978, sections 6.4, 6.5)
pub data Standing : Type 0 where
  whole : Standing
  in_or : Standing
  in_and : Standing
  in_not : Standing

-- .OR. is enclosed there (ANSI X3.9-1978, sections 6.4, 6.5)
abbrev pub encloses_or : Standing → Bool
encloses_or whole = false
encloses_or in_or = true
encloses_or in_and = true
encloses_or in_not = true

-- .AND. is enclosed there (ANSI X3.9-1978, sections 6.4, 6.5)
abbrev pub encloses_and : Standing → Bool
encloses_and whole = false
encloses_and in_or = false
encloses_and in_and = true
encloses_and in_not = true

-- .NOT. is enclosed there (ANSI X3.9-1978, sections 6.4, 6.5)
abbrev pub encloses_not : Standing → Bool
encloses_not whole = false
encloses_not in_or = false
encloses_not in_and = false
encloses_not in_not = true

-- a condition without blanks, with the fewest parentheses (ANSI X3.9-1978, sections 6.4, 6.5)
abbrev pub cond_text : Standing → CondTree → List ℕ
cond_text s (Rel r a b) = value_text a ++ relation_text r ++ value_text b
cond_text s (Not a) = enclosed (encloses_not s) (codes ".NOT." ++ cond_text in_not a)
cond_text s (And a b) = enclosed (encloses_and s) (cond_text in_or a ++ codes ".AND." ++ cond_text in_and b)
cond_text s (Or a b) = enclosed (encloses_or s) (cond_text whole a ++ codes ".OR." ++ cond_text in_or b)

-- the literal 1 (ANSI X3.9-1978, sections 5.1.1.1, 11.10)
abbrev pub is_one : ExprTree → Bool
is_one (Int n) = n == 1
is_one (Var x) = false
is_one (Element x subscripts) = false
is_one (Neg a) = false
is_one (Add a b) = false
is_one (Sub a b) = false
is_one (Mul a b) = false
is_one (Div a b) = false
is_one (Pow a b) = false
is_one (Call f arguments) = false

-- an apostrophe within a constant is written twice (ANSI X3.9-1978, section 4.8.1)
abbrev pub doubled : List ℕ → List ℕ
doubled text = flat_map (λ c. if c == 39 then 39 ∷ 39 ∷ [] else c ∷ []) text

-- a character constant between apostrophes (ANSI X3.9-1978, section 4.8.1)
abbrev pub constant_text : List ℕ → List ℕ
constant_text text = 39 ∷ (doubled text ++ 39 ∷ [])

-- an item of a PRINT (ANSI X3.9-1978, section 12.8.2)
abbrev pub item_text : ItemTree → List ℕ
item_text (Value e) = value_text e
item_text (Text t) = constant_text t

-- names with a comma and a blank between two
abbrev pub names_text : List (List ℕ) → List ℕ
names_text names = join_by (λ x. x) (codes ", ") names

-- as many blanks as given
abbrev pub blanks : ℕ → List ℕ
blanks n = replicate n 32

-- two blanks for each loop and IF around a statement, at most 20
abbrev pub indentation : ℕ → List ℕ
indentation depth = blanks (min (2 * depth) 20)

-- an increment other than the literal 1 (ANSI X3.9-1978, section 11.10)
abbrev pub step_text : ExprTree → List ℕ
step_text step = if is_one step then [] else codes ", " ++ value_text step

-- DO or PARALLEL DO (ANSI X3.9-1978, section 11.10; this project)
abbrev pub do_word : Bool → List ℕ
do_word parallel = if parallel then codes "PARALLEL DO " else codes "DO "

-- the text of a DO statement (ANSI X3.9-1978, section 11.10; this project)
abbrev pub do_text : Head → List ℕ
do_text h = do_word h.parallel ++ h.variable ++ codes " = " ++ value_text h.first ++ codes ", " ++ value_text h.last ++ step_text h.step

-- the text of a PRIVATE statement
abbrev pub private_text : List (List ℕ) → List ℕ
private_text names = codes "PRIVATE " ++ names_text names

-- the text of a statement by itself (ANSI X3.9-1978, sections 10.1, 11, 12.8)
abbrev pub own_text : StmtTree → List ℕ
own_text (Assign left right) = value_text left ++ codes " = " ++ value_text right
own_text (If condition then_part else_part) = codes "IF (" ++ cond_text whole condition ++ codes ") THEN"
own_text (Do h body) = do_text h
own_text (Print items) = codes "PRINT *" ++ flat_map (λ i. codes ", " ++ item_text i) items
own_text (Read items) = codes "READ *" ++ flat_map (λ e. codes ", " ++ value_text e) items
own_text Stop = codes "STOP"
own_text (Comment text) = codes "C" ++ text

-- a printed line, and the number of the statement that begins on it, where a numbered one does
pub record Line : Type 0 where
  pub statement : Option ℕ
  pub text : List ℕ

-- a line without a statement's number
abbrev pub plain_line : List ℕ → Line
plain_line text = record { statement = None; text = text }

-- a text's piece of 66 characters with this number, from 0 (ANSI X3.9-1978, section 3.2.3; this project)
abbrev pub piece : List ℕ → ℕ → List ℕ
piece text k = take 66 (drop (66 * k) text)

-- how many pieces a text has
abbrev pub piece_count : List ℕ → ℕ
piece_count text = (length text + 65) / 66

-- the continuation lines of a text: a blank field, `&` in column 6, and a piece (ANSI X3.9-1978, section 3.2.3; this project)
abbrev pub continuation_lines : List ℕ → List Line
continuation_lines text = map (λ k. plain_line (codes "     &" ++ piece text k)) (range_with_len 1 (piece_count text - 1))

-- a statement's lines: its text begins in column 7 after the indentation, and is cut into pieces of 66 characters (ANSI X3.9-1978, sections 3.2.2, 3.2.3; this project)
abbrev pub text_lines : Option ℕ → ℕ → List ℕ → List Line
text_lines number depth text =
    (record { statement = number; text = blanks 6 ++ piece (indentation depth ++ text) 0 })
    ∷ continuation_lines (indentation depth ++ text)

-- the directives before a DO, one for each rejected name
abbrev pub directive_lines : List (List ℕ) → List Line
directive_lines names = map (λ x. plain_line (codes "C$PED REJECT " ++ x)) names

-- the PRIVATE statement of a DO, where it has private names
abbrev pub private_lines : ℕ → List (List ℕ) → List Line
private_lines depth [] = []
private_lines depth (x ∷ xs) = text_lines None depth (private_text (x ∷ xs))

-- the lines of a statement, by the loops and IFs around it and its number (ANSI X3.9-1978, sections 3.3, 11.6)
abbrev mutual
  pub statement_lines : ℕ → ℕ → StmtTree → List Line
  statement_lines depth number (Assign left right) = text_lines (Some number) depth (own_text (Assign left right))
  statement_lines depth number (If condition then_part else_part) =
      text_lines (Some number) depth (own_text (If condition then_part else_part))
      ++ statements_lines (suc depth) (number + 1) then_part
      ++ else_lines depth (number + 1 + statements_count then_part) else_part
      ++ text_lines None depth (codes "END IF")
  statement_lines depth number (Do h body) =
      directive_lines h.rejected
      ++ text_lines (Some number) depth (own_text (Do h body))
      ++ private_lines (suc depth) h.private
      ++ statements_lines (suc depth) (number + 1) body
      ++ text_lines None depth (codes "END DO")
  statement_lines depth number (Print items) = text_lines (Some number) depth (own_text (Print items))
  statement_lines depth number (Read items) = text_lines (Some number) depth (own_text (Read items))
  statement_lines depth number Stop = text_lines (Some number) depth (own_text Stop)
  statement_lines depth number (Comment text) = plain_line (own_text (Comment text)) ∷ []

  pub statements_lines : ℕ → ℕ → StmtTrees → List Line
  statements_lines depth number no_stmts = []
  statements_lines depth number (more_stmts s rest) =
      statement_lines depth number s ++ statements_lines depth (number + statement_count s) rest

  -- ELSE and its part, where there is one (ANSI X3.9-1978, sections 3.3, 11.6)
  pub else_lines : ℕ → ℕ → StmtTrees → List Line
  else_lines depth number no_stmts = []
  else_lines depth number (more_stmts s rest) =
      text_lines None depth (codes "ELSE")
      ++ statement_lines (suc depth) number s
      ++ statements_lines (suc depth) (number + statement_count s) rest

-- a dimension: a lower bound of literal 1 isn't printed (ANSI X3.9-1978, section 5.1.1.1)
abbrev pub bound_text : BoundTree → List ℕ
bound_text b = if is_one b.lower then value_text b.upper else value_text b.lower ++ codes ":" ++ value_text b.upper

-- the dimensions of an array in parentheses; a scalar has none (ANSI X3.9-1978, section 5.1.1)
abbrev pub dimensions_text : List BoundTree → List ℕ
dimensions_text [] = []
dimensions_text (b ∷ bs) = codes "(" ++ join_by bound_text (codes ",") (b ∷ bs) ++ codes ")"

-- a declared name (ANSI X3.9-1978, section 5.1.1)
abbrev pub declarator_text : DeclaratorTree → List ℕ
declarator_text d = d.name ++ dimensions_text d.bounds

-- a named constant and its value (ANSI X3.9-1978, section 8.6)
abbrev pub parameter_text : List ℕ × ExprTree → List ℕ
parameter_text p = p.0 ++ codes "=" ++ value_text p.1

-- the text of a declaration (ANSI X3.9-1978, sections 8, 14.1)
abbrev pub decl_text : DeclTree → List ℕ
decl_text (Program x) = codes "PROGRAM " ++ x
decl_text Implicit = codes "IMPLICIT INTEGER (A-Z)"
decl_text (Integer ds) = codes "INTEGER " ++ join_by declarator_text (codes ", ") ds
decl_text (Dimension ds) = codes "DIMENSION " ++ join_by declarator_text (codes ", ") ds
decl_text (Parameter values) = codes "PARAMETER (" ++ join_by parameter_text (codes ", ") values ++ codes ")"
decl_text (Save names) = codes "SAVE " ++ names_text names
decl_text (Remark text) = codes "C" ++ text

-- a comment begins in column 1 (ANSI X3.9-1978, section 3.2.1)
abbrev pub is_remark : DeclTree → Bool
is_remark (Program x) = false
is_remark Implicit = false
is_remark (Integer ds) = false
is_remark (Dimension ds) = false
is_remark (Parameter values) = false
is_remark (Save names) = false
is_remark (Remark text) = true

-- the lines of a declaration (ANSI X3.9-1978, sections 8, 14.1)
abbrev pub decl_lines : DeclTree → List Line
decl_lines d = if is_remark d then plain_line (decl_text d) ∷ [] else text_lines None 0 (decl_text d)

-- the lines of a program: declarations, statements, END (ANSI X3.9-1978, section 3.5)
abbrev pub program_lines : ProgramTree → List Line
program_lines t =
    flat_map decl_lines t.decls
    ++ statements_lines 0 1 t.body
    ++ text_lines None 0 (codes "END")

-- the printed text of a program (ANSI X3.9-1978, sections 3.3, 3.5)
abbrev pub program_text : ProgramTree → List ℕ
program_text t = flat_map (λ l. l.text ++ 10 ∷ []) (program_lines t)

-- how many numbered statements begin on these lines
abbrev pub begun_in : List Line → ℕ
begun_in ls = count_by (λ l. is_some l.statement) ls

-- the printed length of a statement by itself, without indentation
abbrev pub printed_length : StmtTree → ℕ
printed_length s = length (own_text s)
