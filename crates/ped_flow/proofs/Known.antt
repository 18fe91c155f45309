-- What a table knows of statements, as it grows.
use Rattle.std.proofs.Common.{◌≡◌, ◌↔◌, IsTrue, ℕ, zero, suc, ◌+◌, ◌<◌, ◌≤◌, ◌≢◌, inl, inr, List, [], length, map, drop, get_or, slice_set, Bool, true, false, Option, Some, None, refl, Result, Ok, Err, IfOk, OnOk, sym, ap, subst, ◌∙◌, rules, arith}
use Rattle.std.proofs.lemmas.List.{get_or-set_same, get_or-set_other}
use Rattle.ped_tree.specs.Tree.{CondTree, StmtTree, StmtTrees, Assign, If, Do, Print, Read, Stop, Comment, no_stmts, more_stmts}
use Rattle.std.specs.Global.{Vec}
use Rattle.ped_tree.specs.Views.{expr_tree, cond_tree, item_tree, stmt_tree, stmt_trees}
use Rattle.ped_tree.specs.declared.expressions.Expr.{Expr}
use Rattle.ped_tree.specs.declared.conditions.Cond.{Cond}
use Rattle.ped_tree.specs.declared.statements.PrintItem.{PrintItem}
use Rattle.ped_tree.specs.declared.statements.Do.{Do as DoLoop}
use Rattle.ped_tree.specs.declared.statements.Stmt as variant
use Rattle.ped_tree.specs.Views.{head_of}
use Rattle.ped_tree.specs.Numbering.{statement_count, statements_count}
use Rattle.ped_tree.specs.declared.statements.Stmt.{Stmt}
use Rattle.ped_tree.specs.NamesIn.{loop_variables}
use Rattle.ped_flow.specs.Summaries.{passing, summary_of}
use Rattle.ped_flow.specs.Kept.{first_outside}
use Rattle.ped_flow.specs.RowMarks.{names_in, constants_in}
use Rattle.ped_flow.specs.Parts.{IsPart}
use Rattle.ped_flow.specs.Made.{IsMade}
use Rattle.ped_flow.specs.Entries.{entry_at, IsEntry, IsEntered, Knows, KnowsAll, KnowsInside, AreSameBut}
use Rattle.ped_flow.specs.declared.parts.Part.{Part}
use Rattle.ped_flow.specs.declared.places.Places.{Places}
use Rattle.ped_flow.specs.declared.entries.Entry.{Entry}
use Rattle.ped_flow.proofs.ScalarSteps.{rest_is}
use Rattle.ped_flow.proofs.EventRows.{if_ok}

-- an entry is written
pub written_at : (table : List (Option Entry)) (n : ℕ) (e : Entry) → n < length table → entry_at (slice_set table n (Some e)) n ≡ Some e
written_at table n e h = get_or-set_same table n (Some e) None h

pub written_other : (table : List (Option Entry)) (n k : ℕ) (e : Entry) → k ≢ n → entry_at (slice_set table n (Some e)) k ≡ entry_at table k
written_other table n k e h = get_or-set_other table n k (Some e) None h

none_there : (n : ℕ) (e : Entry) → entry_at [] n ≡ Some e → ⊥
none_there zero e at = absurd cc
none_there (suc n) e at = absurd cc

module _ (p : Places) where
  entered : (table : List (Option Entry)) (s : StmtTree) (n : ℕ) (e : Entry) → IsEntry p e s n → entry_at table n ≡ Some e → IsEntered p table s n
  entered table s n e h at f g = let same : e ≡ f = cc in subst (λ (z : Entry). IsEntry p z s n) same h

  entered_kept : (table other : List (Option Entry)) (s : StmtTree) (n : ℕ) → entry_at other n ≡ entry_at table n → IsEntered p table s n → IsEntered p other s n
  entered_kept table other s n k h e at = h e (sym k ∙ at)

  empty : (s : StmtTree) (n : ℕ) → IsEntered p [] s n
  empty s n e at = absurd (none_there n e at)

  -- an empty table knows nothing
  mutual
    knows_nothing : (s : StmtTree) (n : ℕ) → Knows p [] s n
    knows_nothing (Assign left right) n = empty (Assign left right) n
    knows_nothing (If c a b) n = (empty (If c a b) n, all_knows_nothing a (n + 1), all_knows_nothing b (n + 1 + statements_count a))
    knows_nothing (Do g body) n = (empty (Do g body) n, all_knows_nothing body (n + 1))
    knows_nothing (Print items) n = empty (Print items) n
    knows_nothing (Read items) n = empty (Read items) n
    knows_nothing Stop n = empty Stop n
    knows_nothing (Comment text) n = tt

    pub all_knows_nothing : (ss : StmtTrees) (n : ℕ) → KnowsAll p [] ss n
    all_knows_nothing no_stmts n = tt
    all_knows_nothing (more_stmts s rest) n = (knows_nothing s n, all_knows_nothing rest (n + statement_count s))

  -- what is known of statements stays known where their entries do
  mutual
    pub knows_kept : (table other : List (Option Entry)) (s : StmtTree) (n : ℕ) → ((k : ℕ) → n ≤ k → k < n + statement_count s → entry_at other k ≡ entry_at table k) → Knows p table s n → Knows p other s n
    knows_kept table other (Assign left right) n h k = entered_kept table other (Assign left right) n (h n (omega arith) (omega arith)) k
    knows_kept table other (If c a b) n h k = (
      entered_kept table other (If c a b) n (h n (omega arith) (omega arith)) k.0,
      knows_all_kept table other a (n + 1) (λ j l m. h j (omega arith) (omega arith)) k.1,
      knows_all_kept table other b (n + 1 + statements_count a) (λ j l m. h j (omega arith) (omega arith)) k.2,
    )
    knows_kept table other (Do g body) n h k = (entered_kept table other (Do g body) n (h n (omega arith) (omega arith)) k.0, knows_all_kept table other body (n + 1) (λ j l m. h j (omega arith) (omega arith)) k.1)
    knows_kept table other (Print items) n h k = entered_kept table other (Print items) n (h n (omega arith) (omega arith)) k
    knows_kept table other (Read items) n h k = entered_kept table other (Read items) n (h n (omega arith) (omega arith)) k
    knows_kept table other Stop n h k = entered_kept table other Stop n (h n (omega arith) (omega arith)) k
    knows_kept table other (Comment text) n h k = tt

    pub knows_all_kept : (table other : List (Option Entry)) (ss : StmtTrees) (n : ℕ) → ((k : ℕ) → n ≤ k → k < n + statements_count ss → entry_at other k ≡ entry_at table k) → KnowsAll p table ss n → KnowsAll p other ss n
    knows_all_kept table other no_stmts n h k = tt
    knows_all_kept table other (more_stmts s rest) n h k = (knows_kept table other s n (λ j l m. h j l (omega arith)) k.0, knows_all_kept table other rest (n + statement_count s) (λ j l m. h j (omega arith) (omega arith)) k.1)

  -- a statement is known where its entry and those in it are
  pub knows_of : (table : List (Option Entry)) (s : StmtTree) (n : ℕ) (e : Entry) → entry_at table n ≡ Some e → IsEntry p e s n → KnowsInside p table s n → Knows p table s n
  knows_of table (Assign left right) n e at h k = entered table (Assign left right) n e h at
  knows_of table (If c a b) n e at h k = (entered table (If c a b) n e h at, k.0, k.1)
  knows_of table (Do g body) n e at h k = (entered table (Do g body) n e h at, k)
  knows_of table (Print items) n e at h k = entered table (Print items) n e h at
  knows_of table (Read items) n e at h k = entered table (Read items) n e h at
  knows_of table Stop n e at h k = entered table Stop n e h at
  knows_of table (Comment text) n e at h k = tt

  inside_kept : (table other : List (Option Entry)) (s : StmtTree) (n : ℕ) → ((k : ℕ) → n + 1 ≤ k → k < n + statement_count s → entry_at other k ≡ entry_at table k) → KnowsInside p table s n → KnowsInside p other s n
  inside_kept table other (Assign left right) n h k = tt
  inside_kept table other (If c a b) n h k = (knows_all_kept table other a (n + 1) (λ j l m. h j (omega arith) (omega arith)) k.0, knows_all_kept table other b (n + 1 + statements_count a) (λ j l m. h j (omega arith) (omega arith)) k.1)
  inside_kept table other (Do g body) n h k = knows_all_kept table other body (n + 1) (λ j l m. h j (omega arith) (omega arith)) k
  inside_kept table other (Print items) n h k = tt
  inside_kept table other (Read items) n h k = tt
  inside_kept table other Stop n h k = tt
  inside_kept table other (Comment text) n h k = tt

  -- a statement's entry is written behind those in it
  pub knows_written : (table : List (Option Entry)) (s : StmtTree) (n : ℕ) (e : Entry) → n < length table → IsEntry p e s n → KnowsInside p table s n → Knows p (slice_set table n (Some e)) s n
  knows_written table s n e w h k =
      knows_of (slice_set table n (Some e)) s n e (written_at table n e w) h
      (inside_kept table (slice_set table n (Some e)) s n (λ j l m. written_other table n j e (λ (z : j ≡ n). absurd (omega arith))) k)

-- other entries stay
pub same_then : (a b c : List (Option Entry)) (from mid to : ℕ) → from ≤ mid → mid ≤ to → AreSameBut a b from mid → AreSameBut b c mid to → AreSameBut a c from to
same_then a b c from mid to f g h k j (inl l) = k j (inl (omega arith)) ∙ h j (inl l)
same_then a b c from mid to f g h k j (inr l) = k j (inr l) ∙ h j (inr (omega arith))

pub same_written : (a b : List (Option Entry)) (n to : ℕ) (e : Entry) → n < to → AreSameBut a b (n + 1) to → AreSameBut a (slice_set b n (Some e)) n to
same_written a b n to e w h j (inl l) = written_other b n j e (λ (z : j ≡ n). absurd (omega arith)) ∙ h j (inl (omega arith))
same_written a b n to e w h j (inr l) = written_other b n j e (λ (z : j ≡ n). absurd (omega arith)) ∙ h j (inr l)

-- what holds of an answer that is there
pub if_found : {X E : Type 0} (P : X → Type 0) (r : Result X E) (x : X) → r ≡ Ok x → IfOk r P → P x
if_found {X = X} {E = E} P r x e h = subst (λ (z : Result X E). IfOk z P) e h

pub on_found : {X E : Type 0} {A : Type 0} (r : Result X E) (x : X) → r ≡ Ok x → OnOk r A → A
on_found {X = X} {E = E} {A = A} r x e h = subst (λ (z : Result X E). OnOk z A) e h

-- what follows where another answer is there holds of an answer that needs it
pub on_both : {X Y E F : Type 0} (P : X → Y → Type 0) {A : Type 0} (r : Result Y F) (other : Result X E) → IfOk r (λ e. (q : X) × (other ≡ Ok q) × P q e) → ((q : X) → other ≡ Ok q → A) → OnOk r A
on_both P (Ok e) other h f = f h.0 h.1
on_both P (Err e) other h f = tt

-- an entry is made of what a statement does
pub made_entry : (p : Places) (s : StmtTree) (n : ℕ) (part : Part) (behind : ℕ) (e : Entry) → IsMade part behind e
    → IsPart (names_in p) part (λ x. summary_of (constants_in p) x s n) (λ x. first_outside (constants_in p) x s n) (loop_variables s) → behind ≡ n + statement_count s → IsEntry p e s n
made_entry p s n part behind e made is at = record {
  part = subst (λ (q : Part). IsPart (names_in p) q (λ x. summary_of (constants_in p) x s n) (λ x. first_outside (constants_in p) x s n) (loop_variables s)) (sym made.part) is;
  touched = λ x i w t. made.touched i (summary_of (constants_in p) x s n) (is.summaries x i w) t;
  behind = made.behind ∙ at;
}

-- an entry is made of what a statement does, where that was found
pub entry_found : {E F : Type 0} (p : Places) (s : StmtTree) (n behind : ℕ) (part : Result Part E) (r : Result Entry F) → IfOk part (λ q. IsPart (names_in p) q (λ x. summary_of (constants_in p) x s n) (λ x. first_outside (constants_in p) x s n) (loop_variables s))
    → behind ≡ n + statement_count s → IfOk r (λ e. (q : Part) × (part ≡ Ok q) × IsMade q behind e) → IfOk r (λ e. IsEntry p e s n)
entry_found p s n behind part r is at made = if_ok r (λ e h. made_entry p s n h.0 behind e h.2 (if_found _ part h.0 h.1 is) at) made

-- what holds anyway holds of an answer
pub on_ok : {X E : Type 0} {A : Type 0} (r : Result X E) → A → OnOk r A
on_ok (Ok x) a = a
on_ok (Err e) a = tt

-- the parts of an IF
module _ (p : Places) (t u v : List (Option Entry)) (c : CondTree) (a b : StmtTrees) (n m : ℕ) (at : m ≡ n + 1 + statements_count a) where
  pub if_known : KnowsAll p u a (n + 1) → KnowsAll p v b m → AreSameBut u v m (m + statements_count b) → KnowsInside p v (If c a b) n
  if_known h k same = (knows_all_kept p u v a (n + 1) (λ j l w. same j (inl (omega arith))) h, subst (λ (z : ℕ). KnowsAll p v b z) at k)

  pub if_others : AreSameBut t u (n + 1) (n + 1 + statements_count a) → AreSameBut u v m (m + statements_count b) → AreSameBut t v (n + 1) (n + statement_count (If c a b))
  if_others h k j (inl l) = k j (inl (omega arith)) ∙ h j (inl l)
  if_others h k j (inr l) = k j (inr (omega arith)) ∙ h j (inr (omega arith))

  pub if_count : (k : ℕ) → k ≡ m + statements_count b → k ≡ n + statement_count (If c a b)
  if_count k h = omega arith

-- one more statement of a list
module _ (p : Places) (body : List Stmt) (i : ℕ) (s : Stmt) (within : i < length body) (is : s ≡ get_or body i s) (n m : ℕ) (k : m ≡ n + statement_count (stmt_tree s)) (first : ℕ) (old now new : List (Option Entry)) where
  pub known_next : ((table : List (Option Entry)) → ((j : ℕ) → j < n → entry_at table j ≡ entry_at now j) → KnowsAll p table (stmt_trees (drop i body)) n → KnowsAll p table (stmt_trees body) first)
      → Knows p new (stmt_tree s) n → AreSameBut now new n (n + statement_count (stmt_tree s))
      → (table : List (Option Entry)) → ((j : ℕ) → j < m → entry_at table j ≡ entry_at new j) → KnowsAll p table (stmt_trees (drop (i + 1) body)) m → KnowsAll p table (stmt_trees body) first
  known_next inv h same table f g =
      inv table (λ j l. f j (omega arith) ∙ same j (inl l))
      (subst (λ (ss : StmtTrees). KnowsAll p table ss n) (sym (ap stmt_trees (rest_is body i s within is)))
      (knows_kept p new table (stmt_tree s) n (λ j l w. f j (omega arith)) h, subst (λ (z : ℕ). KnowsAll p table (stmt_trees (drop (i + 1) body)) z) k g))

  pub others_next : first ≤ n → AreSameBut old now first n → AreSameBut now new n (n + statement_count (stmt_tree s)) → AreSameBut old new first m
  others_next w h same j (inl l) = same j (inl (omega arith)) ∙ h j (inl l)
  others_next w h same j (inr l) = same j (inr (omega arith)) ∙ h j (inr (omega arith))

-- the trees of statements
pub tree-Stop : stmt_tree variant.Stop ≡ Stop
tree-Stop = search (rules, variant.the_lemmas)

pub tree-Comment : (text : List ℕ) → stmt_tree (variant.Comment text) ≡ Comment text
tree-Comment text = search (rules, variant.the_lemmas)

pub tree-Assign : (left right : Expr) → stmt_tree (variant.Assign left right) ≡ Assign (expr_tree left) (expr_tree right)
tree-Assign left right = search (rules, variant.the_lemmas)

pub tree-Print : (v : Vec PrintItem) → stmt_tree (variant.Print v) ≡ Print (map item_tree v.items)
tree-Print v = search (rules, variant.the_lemmas)

pub tree-Read : (v : Vec Expr) → stmt_tree (variant.Read v) ≡ Read (map expr_tree v.items)
tree-Read v = search (rules, variant.the_lemmas)

pub tree-If : (c : Cond) (a b : Vec Stmt) → stmt_tree (variant.If c a b) ≡ If (cond_tree c) (stmt_trees a.items) (stmt_trees b.items)
tree-If c a b = search (rules, variant.the_lemmas)

pub tree-Do : (d : DoLoop) → stmt_tree (variant.Do d) ≡ Do (head_of d) (stmt_trees d.body.items)
tree-Do d = search (rules, variant.the_lemmas)

-- a statement without a number is a comment
module _ (p : Places) (table : List (Option Entry)) (cs : List (List ℕ)) (x : List ℕ) (n : ℕ) where
  pub unnumbered : (s : StmtTree) → statement_count s ≡ 0 → (summary_of cs x s n ≡ passing) × (first_outside cs x s n ≡ None) × (loop_variables s ≡ []) × Knows p table s n
  unnumbered (Assign left right) h = absurd (omega arith)
  unnumbered (If c a b) h = absurd (omega arith)
  unnumbered (Do g body) h = absurd (omega arith)
  unnumbered (Print items) h = absurd (omega arith)
  unnumbered (Read items) h = absurd (omega arith)
  unnumbered Stop h = absurd (omega arith)
  unnumbered (Comment text) h = (refl, refl, refl, tt)

pub uncounted : (r : Bool) (n : ℕ) → r ≡ false → IsTrue r ↔ (0 < n) → n ≡ 0
uncounted r n h k = by n refl
  where
    not_so : r ≡ false → r ≡ true → ⊥
    not_so i j = let z : false ≡ true = sym i ∙ j in cc

    by : (m : ℕ) → n ≡ m → n ≡ 0
    by zero e = e
    by (suc m) e = absurd (not_so h (k.1 (omega arith)))
