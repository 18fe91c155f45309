-- What is known of statements, one by one and together.
use Rattle.std.proofs.Common.{◌≡◌, ◌↔◌, IsTrue, ℕ, ◌+◌, ◌-◌, ◌<◌, ◌≤◌, ◌==◌, List, [], ◌∷◌, ◌++◌, length, drop, get_or, Bool, true, false, Option, Some, None, is_some, nat_lt, refl, sym, ap, subst, ◌∙◌, arith, eqb-true, if◌then◌else◌}
use Rattle.ped_tree.specs.Tree.{Head, StmtTree, StmtTrees, Assign, If, Do, Print, Read, Stop, Comment, no_stmts, more_stmts, ProgramTree}
use Rattle.ped_tree.specs.Views.{stmt_tree, stmt_trees}
use Rattle.ped_tree.specs.Numbering.{numbered, all_numbered, at_place, statement_count, statements_count}
use Rattle.ped_tree.specs.declared.statements.Stmt.{Stmt}
use Rattle.ped_tree.proofs.Numbers.{at_place-front, at_place-back, length-numbered, length-all_numbered}
use Rattle.ped_bits.specs.Places.{Has}
use Rattle.ped_flow.specs.Questions.{IsLoop}
use Rattle.ped_flow.specs.RowPlaces.{bit}
use Rattle.ped_flow.specs.Entries.{IsEntered, Knows, KnowsAll, AreEntered, AreKnown}
use Rattle.ped_flow.specs.declared.asked.Scalar.{Scalar}
use Rattle.ped_flow.specs.declared.places.Places.{Places}
use Rattle.ped_flow.specs.declared.entries.Entry.{Entry}
use Rattle.ped_flow.proofs.Truths.{untrue}
use Rattle.ped_flow.proofs.ScalarSteps.{rest_is}
use Rattle.ped_flow.proofs.Answering.{at_place-within}

-- a number isn't there where a row has not the place that says whether it is
pub unread : (row : List Bool) (i : ℕ) (r : Bool) (a : Option ℕ) → IsTrue r ↔ Has row i → r ≡ false → bit row i ≡ is_some a → a ≡ None
unread row i r (Some n) h k e = untrue (sym k ∙ h.1 e)
unread row i r None h k e = refl

some_or : StmtTree → Option StmtTree → StmtTree
some_or d (Some s) = s
some_or d None = d

is_none_here : Option StmtTree → Bool
is_none_here (Some s) = false
is_none_here None = true

-- each statement of a list is so, the first with this number
module _ (Q : StmtTree → ℕ → Type 0) where
  abbrev Within : List StmtTree → ℕ → Type 0
  Within xs n = (k : ℕ) (f : StmtTree) → at_place xs k ≡ Some f → Q f (n + k)

  none_within : (n : ℕ) → Within [] n
  unfolding is_none_here
  none_within n k f e = untrue (sym (ap is_none_here e))

  head_within : (s : StmtTree) (rest : List StmtTree) (n : ℕ) → Q s n → Within rest (n + 1) → Within (s ∷ rest) n
  unfolding some_or
  head_within s rest n h w k f e = by (k == 0) refl e
    where
      by : (r : Bool) → (k == 0) ≡ r → (if r then Some s else at_place rest (k - 1)) ≡ Some f → Q f (n + k)
      by true z g =
          let i : s ≡ f = ap (some_or s) g in
          let j : n ≡ n + k = (let q : k ≡ 0 = eqb-true k 0 z in omega (arith, q)) in
          subst (λ (t : StmtTree). Q t (n + k)) i (subst (λ (m : ℕ). Q s m) j h)
      by false z g =
          let j : n + 1 + (k - 1) ≡ n + k = (let q : (k == 0) ≡ false = z in grind (arith, eqb-true)) in
          subst (λ (m : ℕ). Q f m) j (w (k - 1) f g)

  append_within : (xs ys : List StmtTree) (n a : ℕ) → length xs ≡ a → Within xs n → Within ys (n + a) → Within (xs ++ ys) n
  append_within xs ys n a l h g k f e = by (nat_lt k (length xs)) refl
    where
      by : (r : Bool) → nat_lt k (length xs) ≡ r → Q f (n + k)
      by true z =
          let w : k < length xs = grind arith in
          h k f (sym (at_place-within xs ys k w) ∙ e)
      by false z =
          let w : length xs ≤ k = grind arith in
          let d : k - length xs + length xs ≡ k = omega arith in
          let j : n + a + (k - length xs) ≡ n + k = omega (arith, l) in
          subst (λ (m : ℕ). Q f m) j (g (k - length xs) f (sym (at_place-back xs ys k (k - length xs) d) ∙ e))

module _ (p : Places) (table : List (Option Entry)) where
  -- the statements behind the next one of a list are known
  module _ (body : List Stmt) (i : ℕ) (s : Stmt) (within : i < length body) (is : s ≡ get_or body i s) (n : ℕ) (k : KnowsAll p table (stmt_trees (drop i body)) n) where
    parts : KnowsAll p table (more_stmts (stmt_tree s) (stmt_trees (drop (i + 1) body))) n
    parts = subst (λ (z : StmtTrees). KnowsAll p table z n) (ap stmt_trees (rest_is body i s within is)) k

    pub rest_known : (m : ℕ) → m ≡ n + statement_count (stmt_tree s) → KnowsAll p table (stmt_trees (drop (i + 1) body)) m
    rest_known m e = subst (λ (z : ℕ). KnowsAll p table (stmt_trees (drop (i + 1) body)) z) (sym e) parts.1

  mutual
    within : (s : StmtTree) (n : ℕ) → Knows p table s n → Within (Knows p table) (numbered s) n
    within (Assign left right) n k = head_within (Knows p table) (Assign left right) [] n k (none_within (Knows p table) (n + 1))
    within (If c a b) n k =
        head_within (Knows p table) (If c a b) (all_numbered a ++ all_numbered b) n k
        (append_within (Knows p table) (all_numbered a) (all_numbered b) (n + 1) (statements_count a) (length-all_numbered a) (all_within a (n + 1) k.1) (all_within b (n + 1 + statements_count a) k.2))
    within (Do h body) n k = head_within (Knows p table) (Do h body) (all_numbered body) n k (all_within body (n + 1) k.1)
    within (Print items) n k = head_within (Knows p table) (Print items) [] n k (none_within (Knows p table) (n + 1))
    within (Read items) n k = head_within (Knows p table) (Read items) [] n k (none_within (Knows p table) (n + 1))
    within Stop n k = head_within (Knows p table) Stop [] n k (none_within (Knows p table) (n + 1))
    within (Comment text) n k = none_within (Knows p table) n

    all_within : (ss : StmtTrees) (n : ℕ) → KnowsAll p table ss n → Within (Knows p table) (all_numbered ss) n
    all_within no_stmts n k = none_within (Knows p table) n
    all_within (more_stmts s rest) n k = append_within (Knows p table) (numbered s) (all_numbered rest) n (statement_count s) (length-numbered s) (within s n k.0) (all_within rest (n + statement_count s) k.1)

  -- each statement that has a number has an entry
  mutual
    entries : (s : StmtTree) (n : ℕ) → Knows p table s n → Within (IsEntered p table) (numbered s) n
    entries (Assign left right) n k = head_within (IsEntered p table) (Assign left right) [] n k (none_within (IsEntered p table) (n + 1))
    entries (If c a b) n k =
        head_within (IsEntered p table) (If c a b) (all_numbered a ++ all_numbered b) n k.0
        (append_within (IsEntered p table) (all_numbered a) (all_numbered b) (n + 1) (statements_count a) (length-all_numbered a) (all_entries a (n + 1) k.1) (all_entries b (n + 1 + statements_count a) k.2))
    entries (Do h body) n k = head_within (IsEntered p table) (Do h body) (all_numbered body) n k.0 (all_entries body (n + 1) k.1)
    entries (Print items) n k = head_within (IsEntered p table) (Print items) [] n k (none_within (IsEntered p table) (n + 1))
    entries (Read items) n k = head_within (IsEntered p table) (Read items) [] n k (none_within (IsEntered p table) (n + 1))
    entries Stop n k = head_within (IsEntered p table) Stop [] n k (none_within (IsEntered p table) (n + 1))
    entries (Comment text) n k = none_within (IsEntered p table) n

    all_entries : (ss : StmtTrees) (n : ℕ) → KnowsAll p table ss n → Within (IsEntered p table) (all_numbered ss) n
    all_entries no_stmts n k = none_within (IsEntered p table) n
    all_entries (more_stmts s rest) n k =
        append_within (IsEntered p table) (numbered s) (all_numbered rest) n (statement_count s) (length-numbered s) (entries s n k.0) (all_entries rest (n + statement_count s) k.1)

  pub are_entered : (ss : StmtTrees) → KnowsAll p table ss 1 → AreEntered p table ss
  are_entered ss k = all_entries ss 1 k

  -- and a statement is known where those have
  own_entry : (s : StmtTree) (rest : List StmtTree) (n : ℕ) → Within (IsEntered p table) (s ∷ rest) n → IsEntered p table s n
  own_entry s rest n w = let e : n + 0 ≡ n = omega arith in subst (λ (m : ℕ). IsEntered p table s m) e (w 0 s refl)

  behind_own : (s : StmtTree) (rest : List StmtTree) (n : ℕ) → Within (IsEntered p table) (s ∷ rest) n → Within (IsEntered p table) rest (n + 1)
  behind_own s rest n w k f e =
      let z : (k + 1 == 0) ≡ false = grind (arith, eqb-true) in
      let j : k + 1 - 1 ≡ k = omega arith in
      let m : n + (k + 1) ≡ n + 1 + k = omega arith in
      subst (λ (i : ℕ). IsEntered p table f i) m
      (w (k + 1) f (ap (λ (b : Bool). if b then Some s else at_place rest (k + 1 - 1)) z ∙ ap (at_place rest) j ∙ e))

  in_front : (xs ys : List StmtTree) (n : ℕ) → Within (IsEntered p table) (xs ++ ys) n → Within (IsEntered p table) xs n
  in_front xs ys n w k f e = w k f (at_place-front xs ys k f e)

  in_back : (xs ys : List StmtTree) (n a : ℕ) → length xs ≡ a → Within (IsEntered p table) (xs ++ ys) n → Within (IsEntered p table) ys (n + a)
  in_back xs ys n a l w k f e =
      let m : n + (k + a) ≡ n + a + k = omega arith in
      let d : k + length xs ≡ k + a = omega (arith, l) in
      subst (λ (i : ℕ). IsEntered p table f i) m (w (k + a) f (at_place-back xs ys (k + a) k d ∙ e))

  mutual
    known_of : (s : StmtTree) (n : ℕ) → Within (IsEntered p table) (numbered s) n → Knows p table s n
    known_of (Assign left right) n w = own_entry (Assign left right) [] n w
    known_of (If c a b) n w =
        let rest = behind_own (If c a b) (all_numbered a ++ all_numbered b) n w in (
          own_entry (If c a b) (all_numbered a ++ all_numbered b) n w,
          all_known_of a (n + 1) (in_front (all_numbered a) (all_numbered b) (n + 1) rest),
          all_known_of b (n + 1 + statements_count a) (in_back (all_numbered a) (all_numbered b) (n + 1) (statements_count a) (length-all_numbered a) rest),
        )
    known_of (Do h body) n w = (own_entry (Do h body) (all_numbered body) n w, all_known_of body (n + 1) (behind_own (Do h body) (all_numbered body) n w))
    known_of (Print items) n w = own_entry (Print items) [] n w
    known_of (Read items) n w = own_entry (Read items) [] n w
    known_of Stop n w = own_entry Stop [] n w
    known_of (Comment text) n w = tt

    all_known_of : (ss : StmtTrees) (n : ℕ) → Within (IsEntered p table) (all_numbered ss) n → KnowsAll p table ss n
    all_known_of no_stmts n w = tt
    all_known_of (more_stmts s rest) n w = (
      known_of s n (in_front (numbered s) (all_numbered rest) n w),
      all_known_of rest (n + statement_count s) (in_back (numbered s) (all_numbered rest) n (statement_count s) (length-numbered s) w),
    )

  pub entered_known : (ss : StmtTrees) → AreEntered p table ss → KnowsAll p table ss 1
  entered_known ss w = all_known_of ss 1 w

  -- the body of a DO is known
  pub loop_known : (t : ProgramTree) (l : ℕ) (h : Head) (body : StmtTrees) → KnowsAll p table t.body 1 → IsLoop t l h body → KnowsAll p table body (l + 1)
  loop_known t l h body k is = by (l == 0) refl is
    where
      by : (r : Bool) → (l == 0) ≡ r → (if r then None else at_place (all_numbered t.body) (l - 1)) ≡ Some (Do h body) → KnowsAll p table body (l + 1)
      by true z g = absurd (let i : None ≡ Some (Do h body) = g in cc)
      by false z g =
          let j : 1 + (l - 1) ≡ l = (let q : (l == 0) ≡ false = z in grind (arith, eqb-true)) in
          let d : Knows p table (Do h body) (1 + (l - 1)) = all_within t.body 1 k (l - 1) (Do h body) g in
          subst (λ (m : ℕ). KnowsAll p table body (m + 1)) j d.1

-- what is known is known for a scalar that is asked about
pub asked_known : (asked : Scalar) (p : Places) (table : List (Option Entry)) (ss : StmtTrees) (n : ℕ) → asked.places.now ≡ p → asked.table.now ≡ table → KnowsAll p table ss n → AreKnown asked ss n
asked_known asked p table ss n e f k = subst (λ (t : List (Option Entry)). KnowsAll asked.places.now t ss n) (sym f) (subst (λ (q : Places). KnowsAll q table ss n) (sym e) k)
