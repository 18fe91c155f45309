-- A marked block by its parts, and the gap in which it stands.
use Rattle.std.proofs.Common.{◌≡◌, ℕ, List, Bool, true, false, Some, None, if◌then◌else◌, refl, ap, ◌∙◌}
use Rattle.ped_tree.specs.declared.conditions.Relation.TheVariants.{Eq}
use Rattle.ped_tree.specs.Tree.{Int, Rel, StmtTree, StmtTrees, Assign, If, Do, Print, Read, Stop, Comment, no_stmts, more_stmts, ProgramTree}
use Rattle.ped_rules.specs.ped_steps.specs.Replacing.{program_with}
use Rattle.ped_rules.specs.ped_steps.proofs.RunLaws.ReplacedTrees.{HasGap, program_gap}
use Rattle.ped_inline.specs.Blocks.{is_always, is_mark, behind_call, block_body, IsBlock}
use Rattle.ped_inline.proofs.OpenedRuns.{always_is}

same_body : (a b : StmtTrees) → Some a ≡ Some b → a ≡ b
same_body a b e = cc

abbrev pub call_block : List ℕ → StmtTrees → StmtTree
call_block text body = If (Rel Eq (Int 0) (Int 0)) (more_stmts (Comment text) body) no_stmts

mark_is : (s : StmtTree) → is_mark s ≡ true → (text : List ℕ) × (s ≡ Comment text)
mark_is (Comment text) h = (text, refl)
mark_is (Assign left right) h = absurd cc
mark_is (If c a b) h = absurd cc
mark_is (Do d body) h = absurd cc
mark_is (Print items) h = absurd cc
mark_is (Read items) h = absurd cc
mark_is Stop h = absurd cc

behind_is : (a body : StmtTrees) → behind_call a ≡ Some body → (text : List ℕ) × (a ≡ more_stmts (Comment text) body)
behind_is no_stmts body h = absurd cc
behind_is (more_stmts s rest) body h = by (is_mark s) refl h
  where
    by : (b : Bool) → is_mark s ≡ b → (if b then Some rest else None) ≡ Some body → (text : List ℕ) × (more_stmts s rest ≡ more_stmts (Comment text) body)
    by true e g = let m = mark_is s e in (m.0, λ i. more_stmts (m.1 i) (same_body rest body g i))
    by false e g = absurd cc

-- a marked block by its parts
pub block_is : (s : StmtTree) (body : StmtTrees) → block_body s ≡ Some body → (text : List ℕ) × (s ≡ call_block text body)
block_is (If c a no_stmts) body h = by (is_always c) refl h
  where
    by : (b : Bool) → is_always c ≡ b → (if b then behind_call a else None) ≡ Some body → (text : List ℕ) × (If c a no_stmts ≡ call_block text body)
    by true e g = let m = behind_is a body g in (m.0, λ i. If (always_is c e i) (m.1 i) no_stmts)
    by false e g = absurd cc
block_is (If c a (more_stmts s rest)) body h = absurd cc
block_is (Assign left right) body h = absurd cc
block_is (Do d ss) body h = absurd cc
block_is (Print items) body h = absurd cc
block_is (Read items) body h = absurd cc
block_is Stop body h = absurd cc
block_is (Comment text) body h = absurd cc

module _ (t : ProgramTree) (s : ℕ) (body : StmtTrees) (b : IsBlock t s body) where
  abbrev pub text : List ℕ
  text = (block_is b.statement body b.opens).0

  -- the program before comments go to its declarations
  abbrev pub raw : ProgramTree
  raw = program_with (λ z. body) s t

  pub gap : HasGap (λ z. body) s (call_block text body) 1 t.body raw.body
  gap = program_gap (λ z. body) s (call_block text body) t (b.is ∙ ap (λ (z : StmtTree). Some z) (block_is b.statement body b.opens).1)
