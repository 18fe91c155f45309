-- That a text has one valid tree and no refusal, or one first refusal and no valid tree (this project).
use Rattle.std.specs.Prelude.{◌≡◌, ℕ, List}
use Rattle.ped_tree.specs.Tree.{ProgramTree}
use Rattle.ped_tree.specs.Grammar.Refusal.{Finding}
use Rattle.ped_valid.specs.Validity.{ReadsValid, RefusesText}

-- the text reads as this valid tree and as no other, and isn't refused
pub record HasOneValidTree (text : List ℕ) : Type 0 where
  pub tree : ProgramTree
  pub reads : ReadsValid text tree
  pub only : (u : ProgramTree) → ReadsValid text u → u ≡ tree
  pub accepted : (f : Finding) → RefusesText text f → ⊥

-- this is the text's first refusal and no other is, and it reads as no valid tree
pub record HasOneFirstRefusal (text : List ℕ) : Type 0 where
  pub first : Finding
  pub refuses : RefusesText text first
  pub only : (f : Finding) → RefusesText text f → f ≡ first
  pub treeless : (t : ProgramTree) → ReadsValid text t → ⊥
