-- What `skew` answers, and the program that its code makes.
use Rattle.std.proofs.Common.{◌≡◌, ℕ, ◌+◌, ◌==◌, ℤ, List, [], ◌∷◌, ◌++◌, map, Bool, ◌||◌, true, false, Some, None, Ok, Err, refl, sym, ap, ◌∙◌, arith, eqb-true, if◌then◌else◌}
use Rattle.std.specs.Prelude.{is_none}
use Rattle.ped_tree.specs.Numbering.{statements_count}
use Rattle.ped_tree.specs.Tree.{Head, StmtTree, StmtTrees, Assign, If, Do, Print, Read, Stop, Comment, no_stmts, more_stmts, ProgramTree}
use Rattle.ped_tree.specs.Views.{stmt_tree, stmt_trees, pack_stmts}
use Rattle.ped_tree.specs.declared.statements.Stmt.{Stmt}
use Rattle.ped_rules.specs.OnlyLoops.{only_loop, of_loop, on_loop, change_only}
use Rattle.ped_rules.specs.Rules.{leaves, setting_at, heads_round}
use Rattle.ped_rules.specs.ped_steps.specs.Replacing.{alone, program_with, all_kept}
use Rattle.ped_rules.specs.Steps.{transformation, Answers}
use Rattle.ped_rules.specs.ped_flow.specs.Questions.{IsLoop}
use Rattle.ped_rules.specs.ped_steps.specs.declared.causes.Refused.{Refused}
use Rattle.ped_rules.specs.ped_steps.specs.declared.causes.Refused.TheVariants as variant
use Rattle.ped_rules.specs.ped_steps.specs.declared.changes.Change.{Change}
use Rattle.ped_rules.specs.ped_steps.specs.declared.rules.Rule.{Rule}
use Rattle.ped_rules.specs.ped_steps.specs.Causes.{NoRule, IsFirstRule, none_forbids}
use Rattle.ped_rules.specs.ped_steps.specs.Changes.{IsChange}
use Rattle.ped_rules.specs.ped_steps.proofs.OnePlace.{one_program}
use Rattle.ped_rules.proofs.Answering.{refused_by, accepted_by, none_first}
use Rattle.ped_reindex.specs.CodeSkewing.{skewed_statement, all_skewed}
use Rattle.ped_reindex.specs.Skewing.{skewed_bound, skew_leaves, skewed_loop, with_skewed, skewed, MakesSkewed, StandsAgainstSkewing, skewing}
use Rattle.ped_reindex.proofs.Answering.{same_statement}

module _ (s : ℕ) (f : ℤ) (t : ProgramTree) where
  pub refused : (r : Rule) (n : ℕ) (found : Refused) → found ≡ variant.Rule r n → IsFirstRule (StandsAgainstSkewing s f t) r n → Answers (skewing s f) t (Err found)
  refused r n found is first = refused_by transformation s (StandsAgainstSkewing s f) (λ u. none_forbids) (MakesSkewed s f) t r n found is first

  pub accepted : (change : Change) → NoRule (StandsAgainstSkewing s f t) → IsChange (skewed t s f) (all_kept t) change → Answers (skewing s f) t (Ok change)
  accepted change none made = accepted_by transformation s (StandsAgainstSkewing s f) (λ u. none_forbids) (MakesSkewed s f) t change (skewed t s f) (all_kept t) none (none_first t) (refl, refl) made

-- the new program of the code is that of the step
pub skewed_program : (t : ProgramTree) (n : ℕ) (f : ℤ) (h : Head) (body : StmtTrees) (g : Stmt) (new : List Stmt) → IsLoop t n h body → new ≡ g ∷ [] → alone (stmt_tree g) ≡ with_skewed f h body → program_with (λ s. stmt_trees new) n t ≡ skewed t n f
skewed_program t n f h body g new is listed made =
    one_program (λ (s : StmtTree). stmt_trees new) (on_loop (with_skewed f)) n t (λ z e. ap stmt_trees listed ∙ made ∙ ap (on_loop (with_skewed f)) (same_statement (Do h body) z (sym is ∙ e)))

-- a statement is counted
counted : (m n : ℕ) → (m + 1 + n == 0) ≡ true → ⊥
counted m n h = let e = eqb-true (m + 1 + n) 0 h in omega (arith, e)

-- a comment isn't
uncounted : (n : ℕ) → (0 + n == 0) ≡ true → (n == 0) ≡ true
uncounted n h = let e : n ≡ 0 + n = omega arith in ap (λ (m : ℕ). m == 0) e ∙ h

module _ (f : ℤ) (i : List ℕ) where
  -- comments stay
  comments_stay : (ss : StmtTrees) → (statements_count ss == 0) ≡ true → all_skewed f i ss ≡ ss
  comments_stay no_stmts h = refl
  comments_stay (more_stmts (Comment text) rest) h = ap (more_stmts (Comment text)) (comments_stay rest (uncounted (statements_count rest) h))
  comments_stay (more_stmts (Assign left right) rest) h = absurd (counted 0 (statements_count rest) h)
  comments_stay (more_stmts (If c a b) rest) h = absurd (counted (statements_count a + statements_count b) (statements_count rest) h)
  comments_stay (more_stmts (Do g body) rest) h = absurd (counted (statements_count body) (statements_count rest) h)
  comments_stay (more_stmts (Print items) rest) h = absurd (counted 0 (statements_count rest) h)
  comments_stay (more_stmts (Read items) rest) h = absurd (counted 0 (statements_count rest) h)
  comments_stay (more_stmts Stop rest) h = absurd (counted 0 (statements_count rest) h)

  if_some : (b : Bool) (l : Head × StmtTrees) → is_none (if b then Some l else None) ≡ false → b ≡ true
  if_some true l h = refl
  if_some false l h = absurd cc

  -- where the body is one loop, that one is skewed and nothing else changed
  pub only_one_skewed : (ss : StmtTrees) → is_none (only_loop ss) ≡ false → all_skewed f i ss ≡ change_only (skewed_loop f i) ss
  only_one_skewed no_stmts h = absurd cc
  only_one_skewed (more_stmts (Comment text) rest) h = ap (more_stmts (Comment text)) (only_one_skewed rest h)
  only_one_skewed (more_stmts (Do g body) rest) h = ap (more_stmts (skewed_loop f i g body)) (comments_stay rest (if_some (statements_count rest == 0) (g, body) h))
  only_one_skewed (more_stmts (Assign left right) rest) h = absurd cc
  only_one_skewed (more_stmts (If c a b) rest) h = absurd cc
  only_one_skewed (more_stmts (Print items) rest) h = absurd cc
  only_one_skewed (more_stmts (Read items) rest) h = absurd cc
  only_one_skewed (more_stmts Stop rest) h = absurd cc

-- statements one by one are the statements together
pub all_packed : (f : ℤ) (i : List ℕ) (ss : List StmtTree) → pack_stmts (map (skewed_statement f i) ss) ≡ all_skewed f i (pack_stmts ss)
all_packed f i [] = refl
all_packed f i (s ∷ ss) = ap (more_stmts (skewed_statement f i s)) (all_packed f i ss)

-- a new bound of the inner DO leaves 2^62, as the code asks
module _ (t : ProgramTree) (s : ℕ) (h : Head) (body : StmtTrees) (g : Head) (b : StmtTrees) (only : only_loop body ≡ Some (g, b)) where
  pub leaves_is : (f : ℤ) {z : ℤ} → z ≡ f → {hs ks : List Head} → hs ≡ heads_round t s ++ h ∷ [] → ks ≡ heads_round t s ++ h ∷ [] → (first last : Bool) → first ≡ leaves (setting_at t s) hs (skewed_bound z h.variable g.first) → last ≡ leaves (setting_at t s) ks (skewed_bound z h.variable g.last)
      → (first || last) ≡ skew_leaves t s f h body
  leaves_is f same one two first last p q =
      (λ i. (p ∙ (λ j. leaves (setting_at t s) (one j) (skewed_bound (same j) h.variable g.first))) i || (q ∙ (λ j. leaves (setting_at t s) (two j) (skewed_bound (same j) h.variable g.last))) i)
      ∙ ap (of_loop (λ (k : Head) (c : StmtTrees). leaves (setting_at t s) (heads_round t s ++ h ∷ []) (skewed_bound f h.variable k.first) || leaves (setting_at t s) (heads_round t s ++ h ∷ []) (skewed_bound f h.variable k.last))) (sym only)
