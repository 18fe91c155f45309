-- That a text has one tree and no refusal, or one refusal and no tree (this project).
use Rattle.std.specs.Prelude.{◌≡◌, ℕ, List}
use Rattle.ped_tree.specs.Tree.{ProgramTree}
use Rattle.ped_tree.specs.Grammar.Refusal.{Finding}
use Rattle.ped_tree.specs.Grammar.Reading.{Reads, Refuses}

-- the text reads as this tree and as no other, and isn't refused
pub record HasOneTree (text : List ℕ) : Type 0 where
  pub tree : ProgramTree
  pub reads : Reads text tree
  pub only : (u : ProgramTree) → Reads text u → u ≡ tree
  pub accepted : (f : Finding) → Refuses text f → ⊥

-- this is the text's first refusal and no other is, and it reads as no tree
pub record HasOneRefusal (text : List ℕ) : Type 0 where
  pub first : Finding
  pub refuses : Refuses text first
  pub only : (f : Finding) → Refuses text f → f ≡ first
  pub treeless : (t : ProgramTree) → Reads text t → ⊥
