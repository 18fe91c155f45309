-- Where no list is found, no DO has one.
use Rattle.std.proofs.Common.{◌≡◌, ℕ, ◌-◌, ◌==◌, Bool, true, false, ◌||◌, List, [], ◌∷◌, ◌++◌, Option, Some, None, refl, sym, ap, ◌∙◌}
use Rattle.std.specs.Prelude.{if◌then◌else◌}
use Rattle.ped_tree.specs.Tree.{StmtTree, StmtTrees, Assign, If, Do, Print, Read, Stop, Comment, no_stmts, more_stmts, ProgramTree}
use Rattle.ped_tree.specs.Numbering.{numbered, all_numbered, at_place}
use Rattle.ped_transformations.specs.ped_reduce.specs.Lists.{has_list}
use Rattle.ped_session.specs.Listing.{holds_list, some_holds_list}
use Rattle.ped_session.specs.LoweredRuns.{HasNoList}

-- a statement is a DO with a list
abbrev own_list : StmtTree → Bool
own_list (Assign left right) = false
own_list (If condition then_part else_part) = false
own_list (Do h body) = has_list h body
own_list (Print items) = false
own_list (Read items) = false
own_list Stop = false
own_list (Comment text) = false

-- no one of these statements is
abbrev HasNone : List StmtTree → Type 0
HasNone [] = Unit {0}
HasNone (s ∷ ss) = (own_list s ≡ false) × HasNone ss

none_left : (a b : Bool) → (a || b) ≡ false → a ≡ false
none_left true b h = h
none_left false b h = refl

none_right : (a b : Bool) → (a || b) ≡ false → b ≡ false
none_right true b h = absurd cc
none_right false b h = h

none_both : (xs ys : List StmtTree) → HasNone xs → HasNone ys → HasNone (xs ++ ys)
none_both [] ys a b = b
none_both (x ∷ xs) ys a b = (a.0, none_both xs ys a.1 b)

mutual
  none_in : (s : StmtTree) → holds_list s ≡ false → HasNone (numbered s)
  none_in (Assign left right) h = (refl, tt)
  none_in (If condition a b) h =
      let left = none_left (some_holds_list a) (some_holds_list b) h in
      let right = none_right (some_holds_list a) (some_holds_list b) h in
      (refl, none_both (all_numbered a) (all_numbered b) (none_among a left) (none_among b right))
  none_in (Do hd body) h = (none_left (has_list hd body) (some_holds_list body) h, none_among body (none_right (has_list hd body) (some_holds_list body) h))
  none_in (Print items) h = (refl, tt)
  none_in (Read items) h = (refl, tt)
  none_in Stop h = (refl, tt)
  none_in (Comment text) h = tt

  none_among : (ss : StmtTrees) → some_holds_list ss ≡ false → HasNone (all_numbered ss)
  none_among no_stmts h = tt
  none_among (more_stmts s rest) h =
      let left = none_left (holds_list s) (some_holds_list rest) h in
      let right = none_right (holds_list s) (some_holds_list rest) h in
      none_both (numbered s) (all_numbered rest) (none_in s left) (none_among rest right)

-- so the statement at a place is none
none_at : (ss : List StmtTree) (n : ℕ) (s : StmtTree) → HasNone ss → at_place ss n ≡ Some s → own_list s ≡ false
none_at [] n s none e = absurd cc
none_at (x ∷ xs) n s none e = go (n == 0) e (none_at xs (n - 1) s none.1)
  where
    is_own : Option StmtTree → Bool
    is_own None = false
    is_own (Some y) = own_list y

    go : (r : Bool) → (if r then Some x else at_place xs (n - 1)) ≡ Some s → (at_place xs (n - 1) ≡ Some s → own_list s ≡ false) → own_list s ≡ false
    go true e more = ap is_own (sym e) ∙ none.0
    go false e more = more e

-- no DO of the program has a list
pub has_no_list : (t : ProgramTree) → some_holds_list t.body ≡ false → HasNoList t
has_no_list t none s l = go (s == 0) l.is
  where
    go : (r : Bool) → (if r then None else at_place (all_numbered t.body) (s - 1)) ≡ Some (Do l.head l.body) → has_list l.head l.body ≡ false
    go true e = absurd cc
    go false e = none_at (all_numbered t.body) (s - 1) (Do l.head l.body) (none_among t.body none) e
