-- What the surroundings of the code stand for. Only contracts of private functions use it.
use Rattle.std.specs.Prelude.{◌≡◌, ℕ, ◌+◌, ◌≤◌, List, [], map, length, Bool, true, false, ◌&&◌, Option, MatchOption}
use Rattle.std.specs.List.{list_all, flat_map}
use Rattle.std.specs.Borrow.{Bor}
use Rattle.ped_tree.specs.Accesses.{constant_names}
use Rattle.ped_tree.specs.Tree.{StmtTree, Assign, If, Do, Print, Read, Stop, Comment}
use Rattle.ped_tree.specs.Views.{decl_tree}
use Rattle.ped_tree.specs.declared.declarations.Decl.{Decl}
use Rattle.ped_tree.specs.Grammar.Fits as plain
use Rattle.ped_fits.specs.declared.surroundings.Surroundings.{Surroundings}

-- the names of lists that are lent, one after another
abbrev pub all_names : List (Bor (List (List ℕ))) → List (List ℕ)
all_names lists = flat_map (λ l. l.now) lists

-- the plain surroundings of a statement with this many before it
abbrev pub place : Surroundings → ℕ → plain.Surroundings
place a n = record {
  constants = constant_names (map decl_tree a.decls.now);
  variables = a.variables.now;
  private = all_names a.private.now;
  depth = a.depth;
  statements = n;
}

-- as many lists of private names as variables, and no more loops and IFs than may be nested in one another
pub record IsAround (a : Surroundings) : Type 0 where
  pub same : length a.private.now ≡ length a.variables.now
  pub shallow : a.depth ≤ 100

-- after this many statements, and no more than a program may have
pub record IsBehind (before statements n : ℕ) : Type 0 where
  pub statements_are : n ≡ before + statements
  pub few : n ≤ 4000

-- how many numbered statements come before what follows what fits, none where it doesn't fit
abbrev pub Follows : Bool → ℕ → ℕ → Option ℕ → Type 0
Follows fits before statements result = MatchOption result (fits ≡ false) (λ n. (fits ≡ true) × IsBehind before statements n)

-- the expressions and items of an assignment, PRINT, READ or STOP
abbrev pub simple_parts_fit : StmtTree → Bool
simple_parts_fit (Assign left right) = plain.target_fits left && plain.expr_fits right
simple_parts_fit (If condition then_part else_part) = false
simple_parts_fit (Do h body) = false
simple_parts_fit (Print items) = list_all plain.item_fits items
simple_parts_fit (Read items) = list_all plain.target_fits items
simple_parts_fit Stop = true
simple_parts_fit (Comment text) = false

-- before the first executable statement after these declarations
abbrev pub at_first : List Decl → plain.Surroundings
at_first decls = record { constants = constant_names (map decl_tree decls); variables = []; private = []; depth = 0; statements = 0 }

-- an assignment, PRINT, READ or STOP
abbrev pub is_simple : StmtTree → Bool
is_simple (Assign left right) = true
is_simple (If condition then_part else_part) = false
is_simple (Do h body) = false
is_simple (Print items) = true
is_simple (Read items) = true
is_simple Stop = true
is_simple (Comment text) = false
