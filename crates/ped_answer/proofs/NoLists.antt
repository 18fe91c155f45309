-- The DO loops of a bare program are bare, and none has a list of sums.
use Rattle.std.proofs.Common.{◌≡◌, refl, ap, subst, ℕ, ◌-◌, ◌==◌, Bool, true, false, List, [], ◌∷◌, Option, Some, None}
use Rattle.std.specs.Prelude.{if◌then◌else◌}
use Rattle.std.specs.List.{AllByRecursion}
use Rattle.ped_base.specs.Lists.{has_some}
use Rattle.ped_tree.specs.Tree.{Head, StmtTree, StmtTrees, Assign, If, Do, Print, Read, Stop, Comment, no_stmts, more_stmts, ProgramTree}
use Rattle.ped_tree.specs.Numbering.{numbered, all_numbered, at_place, statement_with}
use Rattle.ped_session.specs.ped_transformations.specs.ped_reduce.specs.Lists.{list_of}
use Rattle.ped_session.specs.LoweredRuns.{HasNoList}
use Rattle.ped_answer.proofs.BareTexts.{IsBareHead, IsBare, AreBare, joined}

bare_list : (ss : StmtTrees) → AreBare ss → list_of ss ≡ []
bare_list no_stmts bare = refl
bare_list (more_stmts (Comment text) rest) bare = absurd bare.0
bare_list (more_stmts (Assign left right) rest) bare = refl
bare_list (more_stmts (If condition a b) rest) bare = refl
bare_list (more_stmts (Do h body) rest) bare = refl
bare_list (more_stmts (Print items) rest) bare = refl
bare_list (more_stmts (Read items) rest) bare = refl
bare_list (more_stmts Stop rest) bare = refl

mutual
  bare_numbered : (s : StmtTree) → IsBare s → AllByRecursion IsBare (numbered s)
  bare_numbered (Assign left right) bare = (tt, tt)
  bare_numbered (If condition a b) bare = (bare, joined IsBare (all_numbered a) (all_numbered b) (bare_all a bare.0) (bare_all b bare.1))
  bare_numbered (Do h body) bare = (bare, bare_all body bare.1)
  bare_numbered (Print items) bare = (tt, tt)
  bare_numbered (Read items) bare = (tt, tt)
  bare_numbered Stop bare = (tt, tt)
  bare_numbered (Comment text) bare = absurd bare

  bare_all : (ss : StmtTrees) → AreBare ss → AllByRecursion IsBare (all_numbered ss)
  bare_all no_stmts bare = tt
  bare_all (more_stmts s rest) bare = joined IsBare (numbered s) (all_numbered rest) (bare_numbered s bare.0) (bare_all rest bare.1)

bare_at : (ss : List StmtTree) (n : ℕ) (s : StmtTree) → AllByRecursion IsBare ss → at_place ss n ≡ Some s → IsBare s
bare_at [] n s all e = absurd cc
bare_at (x ∷ xs) n s all e = go (n == 0) e (bare_at xs (n - 1) s all.1)
  where
    own : Option StmtTree → Type 0
    own None = ⊥
    own (Some y) = IsBare y

    go : (r : Bool) → (if r then Some x else at_place xs (n - 1)) ≡ Some s → (at_place xs (n - 1) ≡ Some s → IsBare s) → IsBare s
    go true e more = subst own e all.0
    go false e more = more e

-- each DO of the program is bare
pub bare_loop : (t : ProgramTree) → AreBare t.body → (l : ℕ) (h : Head) (body : StmtTrees) → statement_with l t ≡ Some (Do h body) → IsBareHead h × AreBare body
bare_loop t bare l h body is = go (l == 0) is
  where
    go : (r : Bool) → (if r then None else at_place (all_numbered t.body) (l - 1)) ≡ Some (Do h body) → IsBareHead h × AreBare body
    go true e = absurd cc
    go false e = bare_at (all_numbered t.body) (l - 1) (Do h body) (bare_all t.body bare) e

-- and has no list
pub has_no_list : (t : ProgramTree) → AreBare t.body → HasNoList t
has_no_list t bare s l = ap has_some (bare_list l.body (bare_loop t bare s l.head l.body l.is).1)
