-- What `strip` answers, and the program that its code makes.
use Rattle.std.proofs.Common.{◌≡◌, ℕ, ℤ, List, [], ◌∷◌, Some, Ok, Err, refl, sym, ap, ◌∙◌, ◌++◌}
use Rattle.ped_tree.specs.Tree.{ExprTree, Head, StmtTree, StmtTrees, Assign, If, Do, Print, Read, Stop, Comment, ProgramTree}
use Rattle.ped_tree.specs.Views.{stmt_tree, stmt_trees}
use Rattle.ped_tree.specs.declared.statements.Stmt.{Stmt}
use Rattle.ped_rules.specs.KeepMaps.{moved_by}
use Rattle.ped_rules.specs.OnlyLoops.{on_loop}
use Rattle.ped_rules.specs.Rules.{leaves, setting_at, heads_round}
use Rattle.ped_rules.specs.ped_steps.specs.Replacing.{alone, program_with}
use Rattle.ped_rules.specs.Steps.{transformation, Answers}
use Rattle.ped_rules.specs.ped_flow.specs.Questions.{IsLoop}
use Rattle.ped_rules.specs.ped_steps.specs.declared.causes.Refused.{Refused}
use Rattle.ped_rules.specs.ped_steps.specs.declared.causes.Refused.TheVariants as variant
use Rattle.ped_rules.specs.ped_steps.specs.declared.changes.Change.{Change}
use Rattle.ped_rules.specs.ped_steps.specs.declared.rules.Rule.{Rule}
use Rattle.ped_rules.specs.ped_steps.specs.Causes.{NoRule, IsFirstRule, none_forbids}
use Rattle.ped_rules.specs.ped_steps.specs.Changes.{IsChange}
use Rattle.ped_rules.specs.ped_steps.proofs.OnePlace.{one_program}
use Rattle.ped_rules.proofs.Answering.{refused_by, accepted_by, none_first}
use Rattle.ped_reindex.specs.Stripping.{strip_variable, strips_head, strip_end, of_name, strip_leaves, with_strips, stripped, MakesStripped, StandsAgainstStripping, stripping}
use Rattle.ped_reindex.proofs.Answering.{same_statement}

module _ (s : ℕ) (k : ℤ) (t : ProgramTree) where
  pub refused : (r : Rule) (n : ℕ) (found : Refused) → found ≡ variant.Rule r n → IsFirstRule (StandsAgainstStripping s k t) r n → Answers (stripping s k) t (Err found)
  refused r n found is first = refused_by transformation s (StandsAgainstStripping s k) (λ u. none_forbids) (MakesStripped s k) t r n found is first

  pub accepted : (w : List ℕ) (change : Change) → strip_variable t ≡ Some w → NoRule (StandsAgainstStripping s k t) → IsChange (stripped t s k w) (moved_by s 1 t) change → Answers (stripping s k) t (Ok change)
  accepted w change fresh none made = accepted_by transformation s (StandsAgainstStripping s k) (λ u. none_forbids) (MakesStripped s k) t change (stripped t s k w) (moved_by s 1 t) none (none_first t) (w, fresh, refl, refl) made

-- the new program of the code is that of the step
pub stripped_program : (t : ProgramTree) (n : ℕ) (k : ℤ) (w : List ℕ) (h : Head) (body : StmtTrees) (g : Stmt) (new : List Stmt) → IsLoop t n h body → new ≡ g ∷ [] → alone (stmt_tree g) ≡ with_strips k w h body → program_with (λ s. stmt_trees new) n t ≡ stripped t n k w
stripped_program t n k w h body g new is listed made =
    one_program (λ (s : StmtTree). stmt_trees new) (on_loop (with_strips k w)) n t (λ z e. ap stmt_trees listed ∙ made ∙ ap (on_loop (with_strips k w)) (same_statement (Do h body) z (sym is ∙ e)))

head_or : Head → StmtTree → Head
head_or g (Do h body) = h
head_or g (Assign left right) = g
head_or g (If c a b) = g
head_or g (Print items) = g
head_or g (Read items) = g
head_or g Stop = g
head_or g (Comment text) = g

-- one DO has one head
pub one_head : (g h : Head) (a b : StmtTrees) → Do g a ≡ Do h b → g ≡ h
unfolding head_or
one_head g h a b e = ap (head_or g) e

-- the last value of a whole strip leaves 2^62, as the code asks
pub leaves_is : (t : ProgramTree) (s : ℕ) (k : ℤ) (h : Head) (body : StmtTrees) (w : List ℕ) → strip_variable t ≡ Some w → {hs : List Head} → hs ≡ heads_round t s ++ strips_head k w h ∷ [] → {e : ExprTree} → e ≡ strip_end k w
    → leaves (setting_at t s) hs e ≡ strip_leaves t s k h body
leaves_is t s k h body w fresh heads same =
    (λ i. leaves (setting_at t s) (heads i) (same i)) ∙ ap (of_name (λ (v : List ℕ). leaves (setting_at t s) (heads_round t s ++ strips_head k v h ∷ []) (strip_end k v))) (sym fresh)
