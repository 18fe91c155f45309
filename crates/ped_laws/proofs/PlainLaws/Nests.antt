-- The variables of the DO loops round a statement are those of DO loops of the program.
use Rattle.std.proofs.Common.{◌≡◌, ℕ, ◌+◌, List, [], ◌∷◌, ◌++◌, Bool, true, false, ◌||◌, ◌&&◌, refl, sym, ap, ◌∙◌, if◌then◌else◌, nat_le}
use Rattle.std.specs.Prelude.{nat_lt}
use Rattle.std.proofs.lemmas.List.Folds.{list_any-append}
use Rattle.ped_flow.specs.ped_base.specs.Lists.{is_same_text, is_among}
use Rattle.ped_flow.specs.ped_tree.specs.Tree.{StmtTree, StmtTrees, Assign, If, Do, Print, Read, Stop, Comment, no_stmts, more_stmts, Head}
use Rattle.ped_flow.specs.ped_tree.specs.Nests.{Loop, indices_of}
use Rattle.ped_flow.specs.ped_tree.specs.Numbering.{statement_count, statements_count}
use Rattle.ped_flow.specs.ped_tree.specs.NamesIn.{loop_variables, all_loop_variables}
use Rattle.ped_flow.specs.PlainBounds.{loops_round, all_loops_round}
use Rattle.ped_flow.proofs.Truths.{untrue}

or_both : (a b c d : Bool) → (a ≡ true → c ≡ true) → (b ≡ true → d ≡ true) → (a || b) ≡ true → (c || d) ≡ true
or_both true b c d f g h = ap (λ (z : Bool). z || d) (f refl)
or_both false b true d f g h = refl
or_both false b false d f g h = g h

or_assoc : (a b c : Bool) → (a || (b || c)) ≡ ((a || b) || c)
or_assoc true b c = refl
or_assoc false b c = refl

module _ (number : ℕ) (x : List ℕ) where
  parts_among : (a b : List Loop) → is_among x (indices_of (a ++ b)) ≡ (is_among x (indices_of a) || is_among x (indices_of b))
  parts_among [] b = refl
  parts_among (l ∷ a) b = ap (λ (z : Bool). is_same_text x l.head.variable || z) (parts_among a b) ∙ or_assoc (is_same_text x l.head.variable) (is_among x (indices_of a)) (is_among x (indices_of b))

  both_among : (a b : List Loop) (xs ys : List (List ℕ)) → (is_among x (indices_of a) ≡ true → is_among x xs ≡ true) → (is_among x (indices_of b) ≡ true → is_among x ys ≡ true) → is_among x (indices_of (a ++ b)) ≡ true → is_among x (xs ++ ys) ≡ true
  both_among a b xs ys f g h = list_any-append (is_same_text x) xs ys ∙ or_both (is_among x (indices_of a)) (is_among x (indices_of b)) (is_among x xs) (is_among x ys) f g (sym (parts_among a b) ∙ h)

  do_among : (hd : Head) (xs : List (List ℕ)) (inner : List Loop) (n : ℕ) (b : Bool) → (is_among x (indices_of inner) ≡ true → is_among x xs ≡ true) → is_among x (indices_of (if b then (record { number = n; head = hd }) ∷ inner else [])) ≡ true → (is_same_text x hd.variable || is_among x xs) ≡ true
  do_among hd xs inner n true f h = or_both (is_same_text x hd.variable) (is_among x (indices_of inner)) (is_same_text x hd.variable) (is_among x xs) (λ e. e) f h
  do_among hd xs inner n false f h = untrue h

  mutual
    loops_among : (t : StmtTree) (n : ℕ) → is_among x (indices_of (loops_round number t n)) ≡ true → is_among x (loop_variables t) ≡ true
    loops_among (Assign left right) n h = untrue h
    loops_among (If condition a b) n h = both_among (all_loops_round number a (n + 1)) (all_loops_round number b (n + 1 + statements_count a)) (all_loop_variables a) (all_loop_variables b) (all_loops_among a (n + 1)) (all_loops_among b (n + 1 + statements_count a)) h
    loops_among (Do hd body) n h = do_among hd (all_loop_variables body) (all_loops_round number body (n + 1)) n (nat_lt n number && nat_le number (n + statements_count body)) (all_loops_among body (n + 1)) h
    loops_among (Print items) n h = untrue h
    loops_among (Read items) n h = untrue h
    loops_among Stop n h = untrue h
    loops_among (Comment text) n h = untrue h

    pub all_loops_among : (ts : StmtTrees) (n : ℕ) → is_among x (indices_of (all_loops_round number ts n)) ≡ true → is_among x (all_loop_variables ts) ≡ true
    all_loops_among no_stmts n h = untrue h
    all_loops_among (more_stmts t rest) n h = both_among (loops_round number t n) (all_loops_round number rest (n + statement_count t)) (loop_variables t) (all_loop_variables rest) (loops_among t n) (all_loops_among rest (n + statement_count t)) h
