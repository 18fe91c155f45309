-- What a text is shown and analysed as: its one valid tree, or else its first refusal (this project).
use Rattle.std.specs.Prelude.{◌≡◌, ◌↔◌, ℕ, List, Some}
use Rattle.ped_tree.specs.Tree.{ProgramTree}
use Rattle.ped_tree.specs.Printing.{program_text}
use Rattle.ped_tree.specs.Grammar.Refusal.{Finding, first_of}
use Rattle.ped_tree.specs.Grammar.Reading.{Reads, Refuses, HasFirstLines}
use Rattle.ped_symbols.specs.NameRefusals.{name_refusals, IsValid}

-- the text reads as this tree, and the tree is valid: a program of the profile whose names are right
pub record ReadsValid (text : List ℕ) (tree : ProgramTree) : Type 0 where
  pub reads : Reads text tree
  pub valid : IsValid tree

-- the text reads as a tree, and this is the first of the refusals of its names, each at the first line of its statement
pub record RefusesNames (text : List ℕ) (first : Finding) : Type 0 where
  pub tree : ProgramTree
  pub reads : Reads text tree
  pub lines : List ℕ
  pub begin : HasFirstLines text lines
  pub least : first_of (name_refusals lines tree) ≡ Some first

-- the text's first refusal: those of its lines and statements decide before those of its names
pub data RefusesText (text : List ℕ) (first : Finding) : Type 0 where
  in_reading : Refuses text first → RefusesText text first
  in_names : RefusesNames text first → RefusesText text first

-- the printed text of the program reads as it, which is valid, and as no other program
abbrev pub PrintsValid : ProgramTree → Type 0
PrintsValid t = (u : ProgramTree) → ReadsValid (program_text t) u ↔ (u ≡ t)
