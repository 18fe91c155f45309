-- `privatise` and `expand` leave the rejected names of each DO as they are.
use Rattle.std.proofs.Common.{◌≡◌, ℕ, ℤ, List, Bool, true, false, ◌||◌, refl, ap, ◌∙◌}
use Rattle.ped_base.specs.Lists.{has_some}
use Rattle.ped_tree.specs.Tree.{Var, StmtTree, Assign, If, Do, Print, Read, Stop, Comment, ProgramTree}
use Rattle.ped_rules.specs.ped_flow.specs.Questions.{LoopOf}
use Rattle.ped_rules.specs.ped_loop_runs.specs.Unrejected.{has_rejection, some_rejection}
use Rattle.ped_rules.specs.ped_loop_runs.proofs.TidyLaws.UnrejectedTrees.{alone_unrejected, program_unrejected}
use Rattle.ped_scalar.specs.Privatising.{with_private, privatised}
use Rattle.ped_rules.specs.ScalarArrays.{element}
use Rattle.ped_scalar.specs.Expanding.{kept_value, with_elements, IsExpanded}
use Rattle.ped_rules.proofs.NameLaws.SubstitutedRejections.{rejections_kept}

with_private_unrejected : (x : List ℕ) (s : StmtTree) → has_rejection s ≡ false → some_rejection (with_private x s) ≡ false
with_private_unrejected x (Do h body) e = alone_unrejected (Do h body) e
with_private_unrejected x (Assign left right) e = refl
with_private_unrejected x (If c a b) e = alone_unrejected (If c a b) e
with_private_unrejected x (Print items) e = refl
with_private_unrejected x (Read items) e = refl
with_private_unrejected x Stop e = refl
with_private_unrejected x (Comment text) e = refl

pub privatised_unrejected : (t : ProgramTree) (s : ℕ) (x : List ℕ) → some_rejection t.body ≡ false → some_rejection (privatised t s x).body ≡ false
privatised_unrejected t s x = program_unrejected (with_private x) s t (with_private_unrejected x)

no_rejection_behind : (live : Bool) (x array : List ℕ) (last : ℤ) → some_rejection (kept_value live x array last) ≡ false
no_rejection_behind true x array last = refl
no_rejection_behind false x array last = refl

with_elements_unrejected : (x array : List ℕ) (live : Bool) (last : ℤ) (s : StmtTree) → has_rejection s ≡ false → some_rejection (with_elements x array live last s) ≡ false
with_elements_unrejected x array live last (Do h body) e = λ i. (ap (λ (b : Bool). has_some h.rejected || b) (rejections_kept x (element array (Var h.variable)) body) ∙ e) i || no_rejection_behind live x array last i
with_elements_unrejected x array live last (Assign left right) e = refl
with_elements_unrejected x array live last (If c a b) e = alone_unrejected (If c a b) e
with_elements_unrejected x array live last (Print items) e = refl
with_elements_unrejected x array live last (Read items) e = refl
with_elements_unrejected x array live last Stop e = refl
with_elements_unrejected x array live last (Comment text) e = refl

pub expanded_unrejected : (t new : ProgramTree) (s : ℕ) (l : LoopOf t s) (x : List ℕ) → IsExpanded t s x l.head new → some_rejection t.body ≡ false → some_rejection new.body ≡ false
expanded_unrejected t new s l x is e =
    ap (λ (u : ProgramTree). some_rejection u.body) is.made
    ∙ program_unrejected (with_elements x is.array is.live is.span.last) s t (with_elements_unrejected x is.array is.live is.span.last) e
