-- What the values of the code stand for (this project).
use Rattle.std.specs.Prelude.{◌≡◌, ℕ, List, Option, Some, None, Result, Ok, Err, map, ⊤}
use Rattle.std.specs.Borrow.{Bor}
use Rattle.std.specs.Global.{Vec}
use Rattle.ped_tree.specs.declared.expressions.Expr.{Expr}
use Rattle.ped_tree.specs.declared.conditions.Cond.{Cond}
use Rattle.ped_tree.specs.declared.conditions.Relation.{Relation}
use Rattle.ped_tree.specs.Tree.{ExprTree, ExprTrees, CondTree}
use Rattle.ped_tree.specs.Views.{expr_tree, pack_exprs, cond_tree}
use Rattle.ped_tree.specs.Grammar.ExpressionForms as forms
use Rattle.ped_expressions.specs.declared.readings.Failure.{Failure}
use Rattle.ped_expressions.specs.declared.readings.Failure.TheVariants.{NoForm, OutOfMemory}
use Rattle.ped_expressions.specs.declared.operators.Sign.{Sign}
use Rattle.ped_expressions.specs.declared.operators.Sign.TheVariants as sign
use Rattle.ped_expressions.specs.declared.operators.Adding.{Adding}
use Rattle.ped_expressions.specs.declared.operators.Adding.TheVariants as adding
use Rattle.ped_expressions.specs.declared.operators.Scaling.{Scaling}
use Rattle.ped_expressions.specs.declared.operators.Scaling.TheVariants as scaling
use Rattle.ped_expressions.specs.Scanning.{Answer}

-- the result is what is read, unless memory runs out
abbrev pub Gives : {X Y : Type 0} → (X → Y) → Result X Failure → Option Y → Type 0
Gives view (Ok x) read = read ≡ Some (view x)
Gives view (Err OutOfMemory) read = ⊤
Gives view (Err NoForm) read = read ≡ None

-- the text that is lent, where there is one
abbrev pub lent : Option (Bor (List ℕ)) → Option (List ℕ)
lent None = None
lent (Some x) = Some x.now

-- an expression and the text after it
abbrev pub expr_and_rest : Expr × Bor (List ℕ) → ExprTree × List ℕ
expr_and_rest x = (expr_tree x.0, x.1.now)

-- expressions and the text after them
abbrev pub exprs_and_rest : Vec Expr × Bor (List ℕ) → ExprTrees × List ℕ
exprs_and_rest x = (pack_exprs (map expr_tree x.0.items), x.1.now)

-- a condition and the text after it
abbrev pub cond_and_rest : Cond × Bor (List ℕ) → CondTree × List ℕ
cond_and_rest x = (cond_tree x.0, x.1.now)

-- the operators of the grammar
abbrev pub sign_of : Sign → forms.Sign
sign_of sign.Unsigned = forms.unsigned
sign_of sign.Positive = forms.positive
sign_of sign.Negative = forms.negative

-- the operator + or - of the grammar
abbrev pub adding_of : Adding → forms.Adding
adding_of adding.Add = forms.add
adding_of adding.Subtract = forms.subtract

-- the operator * or / of the grammar
abbrev pub scaling_of : Scaling → forms.Scaling
scaling_of scaling.Multiply = forms.multiply
scaling_of scaling.Divide = forms.divide

-- an operator and the text after it, where there is one
abbrev pub adding_and_rest : Option (Adding × Bor (List ℕ)) → Answer forms.Adding
adding_and_rest None = None
adding_and_rest (Some x) = Some (adding_of x.0, x.1.now)

-- the operator * or / and the text after it, where there is one
abbrev pub scaling_and_rest : Option (Scaling × Bor (List ℕ)) → Answer forms.Scaling
scaling_and_rest None = None
scaling_and_rest (Some x) = Some (scaling_of x.0, x.1.now)

-- a relational operator and the text after it, where there is one
abbrev pub relation_and_rest : Option (Relation × Bor (List ℕ)) → Answer Relation
relation_and_rest None = None
relation_and_rest (Some x) = Some (x.0, x.1.now)
