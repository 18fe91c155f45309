-- How the code keeps two DO loops that follow one another, and puts one in their place. Only contracts of private functions and lemmas use it (this project).
use Rattle.std.specs.Prelude.{◌≡◌, ℕ, ◌+◌, ◌==◌, nat_lt, Bool, not, ◌&&◌, Option, Some, None, if◌then◌else◌}
use Rattle.ped_tree.specs.Tree.{Head, StmtTree, StmtTrees, Assign, If, Do, Print, Read, Stop, Comment, no_stmts, more_stmts, ProgramTree}
use Rattle.ped_tree.specs.Numbering.{statement_count, statements_count}
use Rattle.ped_tree.specs.Views.{stmt_trees, head_of}
use Rattle.ped_rules.specs.ped_steps.specs.Replacing.{followed}
use Rattle.ped_splits.specs.declared.neighbours.Pair.{Pair}
use Rattle.ped_splits.specs.Neighbours.{Neighbour}

-- these are the two, in a program
pub record IsPair (t : ProgramTree) (p : Pair) : Type 0 where
  pub neighbour : Neighbour t p.number
  pub own : neighbour.own ≡ head_of p.own.now
  pub own_body : neighbour.own_body ≡ stmt_trees p.own.now.body.items
  pub between : neighbour.between ≡ stmt_trees p.between.now
  pub next : neighbour.next ≡ head_of p.next.now
  pub next_body : neighbour.next_body ≡ stmt_trees p.next.now.body.items

-- a DO with this number, the statements after it, and the DO that comes next
pub record TwoLoops : Type 0 where
  pub number : ℕ
  pub own : Head
  pub own_body : StmtTrees
  pub between : StmtTrees
  pub next : Head
  pub next_body : StmtTrees

-- the two that the code has found
abbrev pub two_of : Pair → TwoLoops
two_of p = record {
  number = p.number;
  own = head_of p.own.now;
  own_body = stmt_trees p.own.now.body.items;
  between = stmt_trees p.between.now;
  next = head_of p.next.now;
  next_body = stmt_trees p.next.now.body.items;
}

-- the two, where the code has found them
abbrev pub two_in : Option Pair → Option TwoLoops
two_in None = None
two_in (Some p) = Some (two_of p)

-- a DO, and the statements before it
pub record NextLoop : Type 0 where
  pub before : StmtTrees
  pub head : Head
  pub body : StmtTrees

-- the same with more statements before it
abbrev pub behind_all : StmtTrees → Option NextLoop → Option NextLoop
behind_all front None = None
behind_all front (Some n) = Some (record n { before = followed front n.before })

-- the first of these statements that is no comment, where it is a DO
abbrev pub next_in : StmtTrees → Option NextLoop
next_in no_stmts = None
next_in (more_stmts (Assign left right) rest) = None
next_in (more_stmts (If condition then_part else_part) rest) = None
next_in (more_stmts (Do h body) rest) = Some (record { before = no_stmts; head = h; body = body })
next_in (more_stmts (Print items) rest) = None
next_in (more_stmts (Read items) rest) = None
next_in (more_stmts Stop rest) = None
next_in (more_stmts (Comment text) rest) = behind_all (more_stmts (Comment text) no_stmts) (next_in rest)

-- the DO with number k and the next one
abbrev pub two_with : ℕ → Head → StmtTrees → Option NextLoop → Option TwoLoops
two_with k h body None = None
two_with k h body (Some n) = Some (record { number = k; own = h; own_body = body; between = n.before; next = n.head; next_body = n.body })

-- the DO with number k and this statement, where it is a DO, too, with others between
abbrev pub two_to : ℕ → Head → StmtTrees → (between : StmtTrees) → StmtTree → Option TwoLoops
two_to k h body between (Do g b) = Some (record { number = k; own = h; own_body = body; between = between; next = g; next_body = b })
two_to k h body between (Assign left right) = None
two_to k h body between (If condition then_part else_part) = None
two_to k h body between (Print items) = None
two_to k h body between (Read items) = None
two_to k h body between Stop = None
two_to k h body between (Comment text) = None

-- the statement with number k and the next DO among those after it, where it is a DO, too
abbrev pub two_from : ℕ → StmtTree → StmtTrees → Option TwoLoops
two_from k (Do h body) others = two_with k h body (next_in others)
two_from k (Assign left right) others = None
two_from k (If condition then_part else_part) others = None
two_from k (Print items) others = None
two_from k (Read items) others = None
two_from k Stop others = None
two_from k (Comment text) others = None

-- the DO with number k and the next one in its list, among statements of which the first has number n
abbrev mutual
  pub two_among : StmtTrees → (n k : ℕ) → Option TwoLoops
  two_among no_stmts n k = None
  two_among (more_stmts s rest) n k =
      if nat_lt k (n + statement_count s) then (if n == k then two_from k s rest else two_under s n k) else two_among rest (n + statement_count s) k

  -- the same in the parts of a statement, which has number n
  pub two_under : StmtTree → (n k : ℕ) → Option TwoLoops
  two_under (Assign left right) n k = None
  two_under (If condition then_part else_part) n k =
      if nat_lt k (n + 1 + statements_count then_part) then two_among then_part (n + 1) k else two_among else_part (n + 1 + statements_count then_part) k
  two_under (Do h body) n k = two_among body (n + 1) k
  two_under (Print items) n k = None
  two_under (Read items) n k = None
  two_under Stop n k = None
  two_under (Comment text) n k = None

-- what follows the first of these statements that is no comment
abbrev pub behind_next : StmtTrees → StmtTrees
behind_next no_stmts = no_stmts
behind_next (more_stmts s rest) = if statement_count s == 0 then behind_next rest else rest

-- statements, of which the first has number n, with a new one in the place of that with number k and of what follows that up to the next that is no comment
abbrev mutual
  pub all_joined : (new : StmtTree) → (k : ℕ) → StmtTrees → (n : ℕ) → StmtTrees
  all_joined new k no_stmts n = no_stmts
  all_joined new k (more_stmts s rest) n =
      if (n == k) && not (statement_count s == 0) then more_stmts new (behind_next rest)
      else more_stmts (one_joined new k s n) (all_joined new k rest (n + statement_count s))

  -- the same in the parts of a statement, which has number n
  pub one_joined : (new : StmtTree) → (k : ℕ) → StmtTree → (n : ℕ) → StmtTree
  one_joined new k (Assign left right) n = Assign left right
  one_joined new k (If condition then_part else_part) n = If condition (all_joined new k then_part (n + 1)) (all_joined new k else_part (n + 1 + statements_count then_part))
  one_joined new k (Do h body) n = Do h (all_joined new k body (n + 1))
  one_joined new k (Print items) n = Print items
  one_joined new k (Read items) n = Read items
  one_joined new k Stop n = Stop
  one_joined new k (Comment text) n = Comment text
