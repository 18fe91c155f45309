-- A DO with a list, lowered: each iteration keeps what it adds to a scalar in elements of its own, and a DO after it adds these to the scalar in order (Allen and Kennedy, section 5.6; this project).
use Rattle.std.specs.Prelude.{ℕ, ◌+◌, ◌*◌, List, [], ◌∷◌, ◌++◌, length, filter, take, drop, replicate, codes, Bool, true, false, not, Option, Some, None, is_some, option_map, if◌then◌else◌}
use Rattle.std.specs.List.{list_any, range_with_len}
use Rattle.ped_tree.specs.declared.conditions.Relation.TheVariants.{Eq}
use Rattle.ped_tree.specs.declared.expressions.Intrinsic.TheVariants.{Mod}
use Rattle.ped_tree.specs.Tree.{ExprTree, Int, Var, Add, Sub, Mul, Div, Call, no_exprs, more_exprs, Rel, Head, StmtTree, StmtTrees, Assign, If, Do, Print, Read, Stop, Comment, no_stmts, more_stmts, DeclTree, ProgramTree}
use Rattle.ped_tree.specs.Numbering.{all_numbered, statements_count, statement_with}
use Rattle.ped_rules.specs.ped_symbols.specs.Kinds.{table_of}
use Rattle.ped_rules.specs.ped_steps.specs.Replacing.{followed, alone, all_replaced}
use Rattle.ped_rules.specs.OnlyLoops.{on_loop}
use Rattle.ped_rules.specs.Fresh.{occurs, numbered_names, most_numbered}
use Rattle.ped_rules.specs.Spans.{Span, span_of, spans_far}
use Rattle.ped_rules.specs.ScalarArrays.{element, declaration}
use Rattle.ped_reduce.specs.Lists.{without_list}
use Rattle.ped_reduce.specs.Sums.{Sum, plus, minus, sum_to}

-- the arrays in which each iteration keeps what it adds to a scalar: high * 65536 + low, and 1 in flag once it has added something
pub record Partials : Type 0 where
  pub scalar : List ℕ
  pub high : List ℕ
  pub low : List ℕ
  pub flag : List ℕ

-- the names KX1, KX2 and so on that don't occur in the program, in order (this project)
abbrev pub fresh_arrays : ProgramTree → List (List ℕ)
fresh_arrays t = filter (λ x. not (occurs t x)) (numbered_names (codes "KX") 1 most_numbered)

-- three arrays for each scalar, in order; none where there are too few names
abbrev pub partials_of : List (List ℕ) → List (List ℕ) → Option (List Partials)
partials_of [] fresh = Some []
partials_of (x ∷ xs) [] = None
partials_of (x ∷ xs) (a ∷ []) = None
partials_of (x ∷ xs) (a ∷ b ∷ []) = None
partials_of (x ∷ xs) (a ∷ b ∷ c ∷ fresh) = option_map (λ ps. (record { scalar = x; high = a; low = b; flag = c }) ∷ ps) (partials_of xs fresh)

-- the declarations of the arrays, each from the least to the greatest value of the DO's variable (ANSI X3.9-1978, section 5.1)
abbrev pub declarations : Span → List Partials → List DeclTree
declarations v [] = []
declarations v (p ∷ ps) = declaration p.high v ∷ declaration p.low v ∷ declaration p.flag v ∷ declarations v ps

-- the element of an array at the value of a DO's variable
abbrev pub at : List ℕ → List ℕ → ExprTree
at array v = element array (Var v)

-- each iteration begins with nothing added
abbrev pub zeros : List ℕ → List Partials → StmtTrees
zeros v [] = no_stmts
zeros v (p ∷ ps) = more_stmts (Assign (at p.high v) (Int 0)) (more_stmts (Assign (at p.low v) (Int 0)) (more_stmts (Assign (at p.flag v) (Int 0)) (zeros v ps)))

-- an expression with what is added, or taken away
abbrev pub with_sum : ExprTree → Sum → ExprTree
with_sum a (plus e) = Add a e
with_sum a (minus e) = Sub a e

-- KXa(v) = KXa(v)+(KXb(v)+e)/65536; KXb(v) = MOD(KXb(v)+e,65536); KXc(v) = 1: what an iteration adds to a scalar is kept as KXa(v)*65536+KXb(v), where KXb(v) stays less than 65536 in size (this project)
abbrev pub added_apart : List ℕ → Partials → Sum → StmtTrees
added_apart v p sum =
    more_stmts (Assign (at p.high v) (Add (at p.high v) (Div (with_sum (at p.low v) sum) (Int 65536))))
    (more_stmts (Assign (at p.low v) (Call Mod (more_exprs (with_sum (at p.low v) sum) (more_exprs (Int 65536) no_exprs))))
    (alone (Assign (at p.flag v) (Int 1))))

-- the statements that keep apart what a sum adds; where the statement is no sum, the others
abbrev pub apart_or : List ℕ → Partials → Option Sum → StmtTrees → StmtTrees
apart_or v p None others = others
apart_or v p (Some sum) others = added_apart v p sum

-- a statement that may be a sum of one of these scalars, with what it adds kept apart
abbrev pub sum_apart : List ℕ → List Partials → StmtTree → StmtTrees
sum_apart v [] s = alone s
sum_apart v (p ∷ ps) s = apart_or v p (sum_to p.scalar s) (sum_apart v ps s)

-- a statement in which all sums of these scalars are kept apart
abbrev mutual
  pub summed : List ℕ → List Partials → StmtTree → StmtTrees
  summed v ps (Assign left right) = sum_apart v ps (Assign left right)
  summed v ps (If condition then_part else_part) = alone (If condition (all_summed v ps then_part) (all_summed v ps else_part))
  summed v ps (Do h body) = alone (Do h (all_summed v ps body))
  summed v ps (Print items) = alone (Print items)
  summed v ps (Read items) = alone (Read items)
  summed v ps Stop = alone Stop
  summed v ps (Comment text) = alone (Comment text)

  -- the same of statements
  pub all_summed : List ℕ → List Partials → StmtTrees → StmtTrees
  all_summed v ps no_stmts = no_stmts
  all_summed v ps (more_stmts s rest) = followed (summed v ps s) (all_summed v ps rest)

-- K = K+(KXa(v)*65536+KXb(v)): the scalar becomes itself with what an iteration has added
abbrev pub addition : List ℕ → Partials → StmtTree
addition v p = Assign (Var p.scalar) (Add (Var p.scalar) (Add (Mul (at p.high v) (Int 65536)) (at p.low v)))

-- the same, where an iteration has added something
abbrev pub exit : List ℕ → Partials → StmtTree
exit v p = If (Rel Eq (at p.flag v) (Int 1)) (alone (addition v p)) no_stmts

-- what an iteration has added goes to each scalar
abbrev pub exits : List ℕ → List Partials → StmtTrees
exits v [] = no_stmts
exits v (p ∷ ps) = more_stmts (exit v p) (exits v ps)

-- the head of a DO with the same iterations and nothing else
abbrev pub bare : Head → Head
bare h = record { variable = h.variable; first = h.first; last = h.last; step = h.step; parallel = false; private = []; rejected = [] }

-- a DO with a list, in whose iterations all sums are kept apart, as a PARALLEL DO or not; after it a DO that adds them to the scalars
abbrev pub lowered_loop : Bool → List Partials → Head → StmtTrees → StmtTrees
lowered_loop parallel ps h body =
    more_stmts (Do (record h { parallel = parallel }) (followed (zeros h.variable ps) (all_summed h.variable ps (without_list body))))
    (alone (Do (bare h) (exits h.variable ps)))

-- the statement is a sum of one of these scalars
abbrev pub is_sum : List Partials → StmtTree → Bool
is_sum ps s = list_any (λ p. is_some (sum_to p.scalar s)) ps

-- what the statements come from that a statement becomes: a sum becomes three (this project)
abbrev pub repeated : Bool → ℕ → List ℕ
repeated false n = n ∷ []
repeated true n = n ∷ n ∷ n ∷ []

-- what the statements come from that these statements become where all sums are kept apart; these have the numbers from n on
abbrev pub summed_origins : List Partials → List StmtTree → (n : ℕ) → List ℕ
summed_origins ps [] n = []
summed_origins ps (s ∷ ss) n = repeated (is_sum ps s) n ++ summed_origins ps ss (n + 1)

-- what comes of a program by lowering: the program; for each of its statements the number of the one from which it comes; which DO loops are lowered; and how many statements have come
pub record Lowered : Type 0 where
  pub tree : ProgramTree
  pub origin : List ℕ
  pub live : List ℕ
  pub more : ℕ

-- nothing is lowered
abbrev pub not_lowered : ProgramTree → Lowered
not_lowered t = record { tree = t; origin = range_with_len 1 (statements_count t.body); live = []; more = 0 }

-- where the statements come from when the DO with number s is lowered, which has number m by now: what is added comes from the DO
abbrev pub origins_behind : (s m : ℕ) → List Partials → StmtTrees → List ℕ → List ℕ
origins_behind s m ps body origin =
    take m origin
    ++ replicate (3 * length ps) s
    ++ summed_origins ps (all_numbered body) (s + 1)
    ++ replicate (2 * length ps + 1) s
    ++ drop (m + statements_count body) origin

-- how many statements come when a DO is lowered: three at its beginning and two at its exit for each scalar, the DO of the exit, and two for each sum
abbrev pub gained : List Partials → StmtTrees → ℕ
gained ps body = 5 * length ps + 1 + 2 * length (filter (is_sum ps) (all_numbered body))

-- the DO with number s is lowered with these partial sums, over these values
abbrev pub lowered_with : Bool → Lowered → (s : ℕ) → StmtTrees → Span → List Partials → Lowered
lowered_with parallel p s body v ps = record {
  tree = record { decls = p.tree.decls ++ declarations v ps; body = all_replaced (on_loop (lowered_loop parallel ps)) (s + p.more) p.tree.body 1 };
  origin = origins_behind s (s + p.more) ps body p.origin;
  live = p.live ++ s ∷ [];
  more = p.more + gained ps body;
}

-- what there is goes on to the next; nothing stays nothing (plain words)
abbrev pub and_then : {X Y : Type 0} → Option X → (X → Option Y) → Option Y
and_then None next = None
and_then (Some x) next = next x

-- the values of a DO's variable, where literals have them
abbrev pub near_only : Option Span → Option Span
near_only None = None
near_only (Some v) = if spans_far v then None else Some v

-- the statement with number s is lowered for these scalars; there is nothing where it isn't a DO, where its bounds aren't constant or it has no iteration, where a value of its variable is more than 2147483647 in size, or where too few names KX1, KX2 and so on are left
abbrev pub lowered_statement : Bool → Lowered → (s : ℕ) → List (List ℕ) → StmtTree → Option Lowered
lowered_statement parallel p s names (Do h body) =
    and_then (near_only (span_of (table_of p.tree).constants h)) (λ v. option_map (lowered_with parallel p s body v) (partials_of names (fresh_arrays p.tree)))
lowered_statement parallel p s names x = None

-- a program in which the DO with number s is lowered for these scalars, after those before it, as a PARALLEL DO or not; none where it isn't a DO, where the values of its variable aren't known or no literal has them, or where too few names are left
abbrev pub lowered_at : Bool → Lowered → (s : ℕ) → List (List ℕ) → Option Lowered
lowered_at parallel p s names = and_then (statement_with (s + p.more) p.tree) (lowered_statement parallel p s names)
