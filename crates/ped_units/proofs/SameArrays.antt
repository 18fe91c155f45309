-- What stands for CALLs depends on which names are arrays, and not on their order.
use Rattle.std.proofs.Common.{◌≡◌, ℕ, List, [], ◌∷◌, refl, if◌then◌else◌}
use Rattle.ped_tree.specs.Tree.{ExprTree, Int, Var, Element, Neg, Add, Sub, Mul, Div, Pow, Call, StmtTrees, If, no_stmts}
use Rattle.ped_tree.specs.Accesses.{listed}
use Rattle.ped_tree.specs.Names.Collecting.{HaveSame}
use Rattle.ped_units.specs.Units.{all_with_calls}
use Rattle.ped_units.specs.Refusals.{is_whole_array, plain_arguments, condition_of, using_arguments}

same_whole : (a b : List (List ℕ)) → HaveSame a b → (e : ExprTree) → is_whole_array a e ≡ is_whole_array b e
same_whole a b h (Int n) = refl
same_whole a b h (Var x) = h x
same_whole a b h (Element x es) = refl
same_whole a b h (Neg d) = refl
same_whole a b h (Add d e) = refl
same_whole a b h (Sub d e) = refl
same_whole a b h (Mul d e) = refl
same_whole a b h (Div d e) = refl
same_whole a b h (Pow d e) = refl
same_whole a b h (Call f es) = refl

same_plain : (a b : List (List ℕ)) → HaveSame a b → (es : List ExprTree) → plain_arguments a es ≡ plain_arguments b es
same_plain a b h [] = refl
same_plain a b h (e ∷ es) = λ i. if same_whole a b h e i then same_plain a b h es i else e ∷ same_plain a b h es i

-- statements with something plain for each CALL
pub same_with_calls : (a b : List (List ℕ)) → HaveSame a b → (ss : StmtTrees) → all_with_calls (using_arguments a) ss ≡ all_with_calls (using_arguments b) ss
same_with_calls a b h ss = λ i. all_with_calls (λ c. If (condition_of (same_plain a b h (listed c.arguments) i)) no_stmts no_stmts) ss
