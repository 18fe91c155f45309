-- Whether two DO loops are alike is decided, since whether two expressions are written alike is.
use Rattle.std.proofs.Common.{◌≡◌, ◌⊎◌, ℕ, ◌==◌, List, [], Bool, true, false, inl, inr, if◌then◌else◌, refl, sym, ap, ap₂, ◌∙◌, eqb-true, eq-eqb, subst}
use Rattle.std.proofs.lemmas.Bool.{both_ways}
use Rattle.ped_base.specs.Lists.{is_same_text, is_among}
use Rattle.ped_base.proofs.NameEquality.{same_itself, same_is}
use Rattle.ped_tree.specs.Tree.{ExprTree, ExprTrees, Int, Var, Element, Neg, Add, Sub, Mul, Div, Pow, Call, no_exprs, more_exprs, Head, StmtTrees, ProgramTree}
use Rattle.ped_tree.specs.declared.expressions.Intrinsic.{Intrinsic}
use Rattle.ped_tree.specs.declared.expressions.Intrinsic.TheVariants.{Max, Min, Abs, Mod}
use Rattle.ped_tree.specs.NamesIn.{stmts_names}
use Rattle.ped_rules.proofs.HeadLaws.PlainDecided.{OrNot}
use Rattle.ped_splits.specs.Neighbours.{Neighbour, AreAlike}
use Rattle.ped_splits.specs.Fusing.{Match}
use Rattle.ped_splits.proofs.NeighbourFound.{Found, neighbour_decided, one_neighbour}

-- of which kind an expression is
abbrev kind_of : ExprTree → ℕ
kind_of (Int n) = 0
kind_of (Var x) = 1
kind_of (Element x subscripts) = 2
kind_of (Neg a) = 3
kind_of (Add a b) = 4
kind_of (Sub a b) = 5
kind_of (Mul a b) = 6
kind_of (Div a b) = 7
kind_of (Pow a b) = 8
kind_of (Call f arguments) = 9

abbrev number_of : ExprTree → ℕ
number_of (Int n) = n
number_of (Var x) = 0
number_of (Element x subscripts) = 0
number_of (Neg a) = 0
number_of (Add a b) = 0
number_of (Sub a b) = 0
number_of (Mul a b) = 0
number_of (Div a b) = 0
number_of (Pow a b) = 0
number_of (Call f arguments) = 0

abbrev name_of : ExprTree → List ℕ
name_of (Int n) = []
name_of (Var x) = x
name_of (Element x subscripts) = x
name_of (Neg a) = []
name_of (Add a b) = []
name_of (Sub a b) = []
name_of (Mul a b) = []
name_of (Div a b) = []
name_of (Pow a b) = []
name_of (Call f arguments) = []

abbrev left_of : ExprTree → ExprTree
left_of (Int n) = Int 0
left_of (Var x) = Int 0
left_of (Element x subscripts) = Int 0
left_of (Neg a) = a
left_of (Add a b) = a
left_of (Sub a b) = a
left_of (Mul a b) = a
left_of (Div a b) = a
left_of (Pow a b) = a
left_of (Call f arguments) = Int 0

abbrev right_of : ExprTree → ExprTree
right_of (Int n) = Int 0
right_of (Var x) = Int 0
right_of (Element x subscripts) = Int 0
right_of (Neg a) = Int 0
right_of (Add a b) = b
right_of (Sub a b) = b
right_of (Mul a b) = b
right_of (Div a b) = b
right_of (Pow a b) = b
right_of (Call f arguments) = Int 0

abbrev inner_of : ExprTree → ExprTrees
inner_of (Int n) = no_exprs
inner_of (Var x) = no_exprs
inner_of (Element x subscripts) = subscripts
inner_of (Neg a) = no_exprs
inner_of (Add a b) = no_exprs
inner_of (Sub a b) = no_exprs
inner_of (Mul a b) = no_exprs
inner_of (Div a b) = no_exprs
inner_of (Pow a b) = no_exprs
inner_of (Call f arguments) = arguments

abbrev function_of : ExprTree → Intrinsic
function_of (Int n) = Mod
function_of (Var x) = Mod
function_of (Element x subscripts) = Mod
function_of (Neg a) = Mod
function_of (Add a b) = Mod
function_of (Sub a b) = Mod
function_of (Mul a b) = Mod
function_of (Div a b) = Mod
function_of (Pow a b) = Mod
function_of (Call f arguments) = f

-- an expression of a kind, with the parts of another
abbrev built : ℕ → ExprTree → ExprTree
built k e =
    if k == 0 then Int (number_of e)
    else if k == 1 then Var (name_of e)
    else if k == 2 then Element (name_of e) (inner_of e)
    else if k == 3 then Neg (left_of e)
    else if k == 4 then Add (left_of e) (right_of e)
    else if k == 5 then Sub (left_of e) (right_of e)
    else if k == 6 then Mul (left_of e) (right_of e)
    else if k == 7 then Div (left_of e) (right_of e)
    else if k == 8 then Pow (left_of e) (right_of e)
    else Call (function_of e) (inner_of e)

built_again : (e : ExprTree) → built (kind_of e) e ≡ e
built_again (Int n) = refl
built_again (Var x) = refl
built_again (Element x subscripts) = refl
built_again (Neg a) = refl
built_again (Add a b) = refl
built_again (Sub a b) = refl
built_again (Mul a b) = refl
built_again (Div a b) = refl
built_again (Pow a b) = refl
built_again (Call f arguments) = refl

-- an expression of a kind is built so
of_kind : (k : ℕ) (e : ExprTree) → kind_of e ≡ k → built k e ≡ e
of_kind k e h = ap (λ (n : ℕ). built n e) (sym h) ∙ built_again e

pub number_decided : (a b : ℕ) → OrNot (a ≡ b)
number_decided a b = by (a == b) refl
  where
    by : (c : Bool) → (a == b) ≡ c → OrNot (a ≡ b)
    by true e = inl (eqb-true a b e)
    by false e = inr (λ same. both_ways (a == b) e (eq-eqb a b same))

pub text_decided : (x y : List ℕ) → OrNot (x ≡ y)
text_decided x y = by (is_same_text x y) refl
  where
    by : (c : Bool) → is_same_text x y ≡ c → OrNot (x ≡ y)
    by true e = inl (same_is x y e)
    by false e = inr (λ same. let f : true ≡ false = sym (same_itself x) ∙ ap (is_same_text x) same ∙ e in absurd cc)

abbrev rank_of : Intrinsic → ℕ
rank_of Max = 0
rank_of Min = 1
rank_of Abs = 2
rank_of Mod = 3

abbrev ranked : ℕ → Intrinsic
ranked n = if n == 0 then Max else if n == 1 then Min else if n == 2 then Abs else Mod

ranked_again : (f : Intrinsic) → ranked (rank_of f) ≡ f
ranked_again Max = refl
ranked_again Min = refl
ranked_again Abs = refl
ranked_again Mod = refl

function_decided : (f g : Intrinsic) → OrNot (f ≡ g)
function_decided f g = by (number_decided (rank_of f) (rank_of g))
  where
    by : OrNot (rank_of f ≡ rank_of g) → OrNot (f ≡ g)
    by (inl e) = inl (sym (ranked_again f) ∙ (ap ranked e ∙ ranked_again g))
    by (inr n) = inr (λ e. n (ap rank_of e))

-- two are alike where they are of one kind and their parts are alike
by_parts : {P Q : Type 0} (k : ℕ) (a b : ExprTree) → kind_of a ≡ k → OrNot (kind_of b ≡ k) → OrNot P → OrNot Q → (P → Q → a ≡ built k b) → (a ≡ b → P × Q) → OrNot (a ≡ b)
by_parts k a b is (inr n) p q to from = inr (λ e. n (sym (ap kind_of e) ∙ is))
by_parts k a b is (inl h) (inl p) (inl q) to from = inl (to p q ∙ of_kind k b h)
by_parts k a b is (inl h) (inl p) (inr n) to from = inr (λ e. n (from e).1)
by_parts k a b is (inl h) (inr n) q to from = inr (λ e. n (from e).0)

first_alike : (a b : ExprTree) (all others : ExprTrees) → more_exprs a all ≡ more_exprs b others → a ≡ b
first_alike a b all others e = cc

rest_alike : (a b : ExprTree) (all others : ExprTrees) → more_exprs a all ≡ more_exprs b others → all ≡ others
rest_alike a b all others e = cc

both_parts : (a b : ExprTree) (all others : ExprTrees) → OrNot (a ≡ b) → OrNot (all ≡ others) → OrNot (more_exprs a all ≡ more_exprs b others)
both_parts a b all others (inl p) (inl q) = inl (ap₂ more_exprs p q)
both_parts a b all others (inl p) (inr n) = inr (λ e. n (rest_alike a b all others e))
both_parts a b all others (inr n) d = inr (λ e. n (first_alike a b all others e))

mutual
  pub expr_decided : (a b : ExprTree) → OrNot (a ≡ b)
  expr_decided (Int m) b = by_parts 0 (Int m) b refl (number_decided (kind_of b) 0) (number_decided m (number_of b)) (number_decided 0 0) (λ p q. ap Int p) (λ e. (ap number_of e, refl))
  expr_decided (Var x) b = by_parts 1 (Var x) b refl (number_decided (kind_of b) 1) (text_decided x (name_of b)) (number_decided 0 0) (λ p q. ap Var p) (λ e. (ap name_of e, refl))
  expr_decided (Element x subscripts) b =
      by_parts 2 (Element x subscripts) b refl (number_decided (kind_of b) 2) (text_decided x (name_of b)) (exprs_decided subscripts (inner_of b)) (λ p q. ap₂ Element p q) (λ e. (ap name_of e, ap inner_of e))
  expr_decided (Neg c) b = by_parts 3 (Neg c) b refl (number_decided (kind_of b) 3) (expr_decided c (left_of b)) (number_decided 0 0) (λ p q. ap Neg p) (λ e. (ap left_of e, refl))
  expr_decided (Add c d) b =
      by_parts 4 (Add c d) b refl (number_decided (kind_of b) 4) (expr_decided c (left_of b)) (expr_decided d (right_of b)) (λ p q. ap₂ Add p q) (λ e. (ap left_of e, ap right_of e))
  expr_decided (Sub c d) b =
      by_parts 5 (Sub c d) b refl (number_decided (kind_of b) 5) (expr_decided c (left_of b)) (expr_decided d (right_of b)) (λ p q. ap₂ Sub p q) (λ e. (ap left_of e, ap right_of e))
  expr_decided (Mul c d) b =
      by_parts 6 (Mul c d) b refl (number_decided (kind_of b) 6) (expr_decided c (left_of b)) (expr_decided d (right_of b)) (λ p q. ap₂ Mul p q) (λ e. (ap left_of e, ap right_of e))
  expr_decided (Div c d) b =
      by_parts 7 (Div c d) b refl (number_decided (kind_of b) 7) (expr_decided c (left_of b)) (expr_decided d (right_of b)) (λ p q. ap₂ Div p q) (λ e. (ap left_of e, ap right_of e))
  expr_decided (Pow c d) b =
      by_parts 8 (Pow c d) b refl (number_decided (kind_of b) 8) (expr_decided c (left_of b)) (expr_decided d (right_of b)) (λ p q. ap₂ Pow p q) (λ e. (ap left_of e, ap right_of e))
  expr_decided (Call f arguments) b =
      by_parts 9 (Call f arguments) b refl (number_decided (kind_of b) 9) (function_decided f (function_of b)) (exprs_decided arguments (inner_of b)) (λ p q. ap₂ Call p q) (λ e. (ap function_of e, ap inner_of e))

  exprs_decided : (all others : ExprTrees) → OrNot (all ≡ others)
  exprs_decided no_exprs no_exprs = inl refl
  exprs_decided no_exprs (more_exprs b bs) = inr (λ e. absurd cc)
  exprs_decided (more_exprs a all) no_exprs = inr (λ e. absurd cc)
  exprs_decided (more_exprs a all) (more_exprs b others) = both_parts a b all others (expr_decided a b) (exprs_decided all others)

pub neither : {S T : Type 0} → (S → ⊥) → (T → ⊥) → S ⊎ T → ⊥
neither n m (inl p) = n p
neither n m (inr q) = m q

not_absent : (b : Bool) → b ≡ true → b ≡ false → ⊥
not_absent b e f = both_ways b f e

-- one variable, or the one stands nowhere there
variable_decided : (x y : List ℕ) (names : List (List ℕ)) → OrNot ((x ≡ y) ⊎ (is_among x names ≡ false))
variable_decided x y names = by (text_decided x y) (is_among x names) refl
  where
    by : OrNot (x ≡ y) → (b : Bool) → is_among x names ≡ b → OrNot ((x ≡ y) ⊎ (is_among x names ≡ false))
    by (inl e) b f = inl (inl e)
    by (inr n) false f = inl (inr f)
    by (inr n) true f = inr (neither n (λ g. not_absent (is_among x names) f g))

-- the two are alike, or they aren't
pub alike_decided : (h k : Head) (body : StmtTrees) → OrNot (AreAlike h k body)
alike_decided h k body = by (expr_decided h.first k.first) (expr_decided h.last k.last) (expr_decided h.step k.step) (variable_decided h.variable k.variable (stmts_names body))
  where
    by : OrNot (h.first ≡ k.first) → OrNot (h.last ≡ k.last) → OrNot (h.step ≡ k.step) → OrNot ((h.variable ≡ k.variable) ⊎ (is_among h.variable (stmts_names body) ≡ false)) → OrNot (AreAlike h k body)
    by (inl a) (inl b) (inl c) (inl d) = inl (record { first = a; last = b; step = c; variable = d })
    by (inl a) (inl b) (inl c) (inr n) = inr (λ x. n x.variable)
    by (inl a) (inl b) (inr n) d = inr (λ x. n x.step)
    by (inl a) (inr n) c d = inr (λ x. n x.last)
    by (inr n) b c d = inr (λ x. n x.first)

-- a DO comes next that is alike, or none does
pub match_decided : (t : ProgramTree) (s : ℕ) → OrNot (Match t s)
match_decided t s = by (neighbour_decided t s)
  where
    is_alike : (x y : Neighbour t s) → AreAlike x.own x.next x.next_body → AreAlike y.own y.next y.next_body
    is_alike x y a = subst (λ (f : Found). AreAlike f.own f.next f.next_body) (one_neighbour t s x y) a

    on : (x : Neighbour t s) → OrNot (AreAlike x.own x.next x.next_body) → OrNot (Match t s)
    on x (inl a) = inl (record { neighbour = x; alike = a })
    on x (inr n) = inr (λ m. n (is_alike m.neighbour x m.alike))

    by : OrNot (Neighbour t s) → OrNot (Match t s)
    by (inl x) = on x (alike_decided x.own x.next x.next_body)
    by (inr n) = inr (λ m. n m.neighbour)
