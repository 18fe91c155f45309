-- By which statement a scalar is exposed in a DO or live behind it.
use Rattle.std.proofs.Common.{◌≡◌, ℕ, List, [], ◌∷◌, Bool, true, false, not, ◌||◌, ◌⊎◌, inl, inr, Option, Some, None, MatchOption, IsTrue, refl, sym, ap, ◌∙◌}
use Rattle.ped_tree.specs.Tree.{Head, StmtTree, StmtTrees, Do, ProgramTree}
use Rattle.ped_tree.specs.Views.{stmt_tree, stmt_trees}
use Rattle.ped_tree.specs.declared.statements.Stmt.{Stmt}
use Rattle.ped_rules.specs.ped_flow.specs.Questions.{IsLoop, IsFirst, IsExposed}
use Rattle.ped_rules.specs.ped_steps.specs.Replacing.{alone, program_with}
use Rattle.ped_rules.specs.ped_steps.proofs.OnePlace.{one_program}
use Rattle.ped_rules.specs.Scalars.{is_scalar, is_index_near, is_referred, is_unfit, IsLiveBy}
use Rattle.ped_scalar.specs.Privatising.{with_private, privatised, IsScalarExposedOrLiveBy}

pub true_not_false : (b : Bool) → IsTrue b → b ≡ false → ⊥
true_not_false b h e = let f : true ≡ false = sym h ∙ e in absurd cc

-- where the scalar isn't exposed it may be live
pub live_answer : (t : ProgramTree) (s : ℕ) (x : List ℕ) (r : Option ℕ) → IsTrue (is_scalar t x) → IsFirst (IsExposed t s x) None
    → MatchOption r ((n : ℕ) → IsLiveBy t s x n → ⊥) (IsLiveBy t s x) → MatchOption r ((n : ℕ) → IsScalarExposedOrLiveBy t s x n → ⊥) (IsScalarExposedOrLiveBy t s x)
live_answer t s x None scalar unexposed h = λ n p. by n p.1
  where
    by : (n : ℕ) → IsFirst (IsExposed t s x) (Some n) ⊎ (IsFirst (IsExposed t s x) None × IsLiveBy t s x n) → ⊥
    by n (inl e) = unexposed n e.0
    by n (inr l) = h n l.1
live_answer t s x (Some n) scalar unexposed h = (scalar, inr (unexposed, h))

-- a name that is no scalar's is unfit
pub no_scalar : (t : ProgramTree) (s : ℕ) (h : Head) (body : StmtTrees) (x : List ℕ) → is_scalar t x ≡ false → true ≡ is_unfit t s x h body
no_scalar t s h body x e = ap (λ (a : Bool). not a || is_index_near t s h body x || not (is_referred t s body x)) (sym e)

-- a name that isn't unfit is a scalar's
pub fit_scalar : (t : ProgramTree) (s : ℕ) (h : Head) (body : StmtTrees) (x : List ℕ) → is_unfit t s x h body ≡ false → IsTrue (is_scalar t x)
fit_scalar t s h body x e = by (is_scalar t x) refl
  where
    by : (b : Bool) → is_scalar t x ≡ b → IsTrue b
    by true i = refl
    by false i = let f : true ≡ false = no_scalar t s h body x i ∙ e in absurd cc

one_found : (a b : StmtTree) → Some a ≡ Some b → a ≡ b
one_found a b e = cc

-- the new program of the code is that of the step
pub private_program : (t : ProgramTree) (n : ℕ) (x : List ℕ) (h : Head) (body : StmtTrees) (f : Stmt) (new : List Stmt) → IsLoop t n h body → new ≡ f ∷ [] → alone (stmt_tree f) ≡ with_private x (Do h body)
    → program_with (λ s. stmt_trees new) n t ≡ privatised t n x
private_program t n x h body f new is listed made =
    one_program (λ (s : StmtTree). stmt_trees new) (with_private x) n t
    (λ g e. ap stmt_trees listed ∙ made ∙ ap (with_private x) (one_found (Do h body) g (sym is ∙ e)))
