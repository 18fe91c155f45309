-- The references of a statement, from those of its parts.
use Rattle.std.proofs.Common.{◌≡◌, ℕ, suc, ◌+◌, List, [], ◌∷◌, ◌++◌, length, refl, ap, sym, ◌∙◌, append_assoc, rules, arith}
use Rattle.std.specs.Global.{Vec}
use Rattle.ped_tree.specs.Tree as plain
use Rattle.ped_tree.specs.Accesses.{Access, own_accesses}
use Rattle.ped_tree.specs.Nests.{Loop, indices_of}
use Rattle.ped_tree.specs.Numbering.{statements_count}
use Rattle.ped_tree.specs.Views.{cond_tree, stmt_tree, stmt_trees}
use Rattle.ped_tree.specs.declared.conditions.Cond.{Cond}
use Rattle.ped_tree.specs.declared.statements.Stmt.{Stmt, the_lemmas}
use Rattle.ped_tree.specs.declared.statements.Stmt as variant
use Rattle.ped_tree.specs.declared.statements.Do.{Do}
use Rattle.ped_refs.specs.References.{Reference, numbered_accesses, statement_references, statements_references}
use Rattle.ped_tree.specs.Views.{head_of}

stmt_tree-If : (c : Cond) (a b : Vec Stmt) → stmt_tree (variant.If c a b) ≡ plain.If (cond_tree c) (stmt_trees a.items) (stmt_trees b.items)
stmt_tree-If c a b = search (rules, the_lemmas)

stmt_tree-Do : (d : Do) → stmt_tree (variant.Do d) ≡ plain.Do (head_of d) (stmt_trees d.body.items)
stmt_tree-Do d = search (rules, the_lemmas)

-- each access is one reference
pub length-numbered_accesses : (statement number : ℕ) (nest : List Loop) (accesses : List Access) → length (numbered_accesses statement number nest accesses) ≡ length accesses
length-numbered_accesses statement number nest [] = refl
length-numbered_accesses statement number nest (a ∷ rest) = ap suc (length-numbered_accesses statement (suc number) nest rest)

module _ (constants : List (List ℕ)) (nest : List Loop) (before : ℕ) (s : Stmt) where
  -- the references of a statement by itself
  abbrev own : List Reference
  own = numbered_accesses (before + 1) 1 nest (own_accesses constants (indices_of nest) (stmt_tree s))

  -- the references of a block IF behind others: its own, those of its first part, and those of its second part
  pub if_references : (c : Cond) (a b : Vec Stmt) (first second : List Stmt) (between last : ℕ) (old with_own with_first new : List Reference)
      → s ≡ variant.If c a b → first ≡ a.items → second ≡ b.items → between ≡ before + 1 → last ≡ between + statements_count (stmt_trees first)
      → with_own ≡ old ++ own → with_first ≡ with_own ++ statements_references constants nest (between + 1) (stmt_trees first)
      → new ≡ with_first ++ statements_references constants nest (last + 1) (stmt_trees second)
      → new ≡ old ++ statement_references constants nest (before + 1) (stmt_tree s)
  if_references c a b first second between last old with_own with_first new is f g m n h k l =
      let tree : stmt_tree s ≡ plain.If (cond_tree c) (stmt_trees a.items) (stmt_trees b.items) = ap stmt_tree is ∙ stmt_tree-If c a b in
      let start : between + 1 ≡ before + 1 + 1 = ap (λ x. x + 1) m in
      let behind : last + 1 ≡ before + 1 + 1 + statements_count (stmt_trees a.items) = omega (arith, m, n, ap (λ (xs : List Stmt). statements_count (stmt_trees xs)) f) in
      l
      ∙ ap (λ xs. xs ++ statements_references constants nest (last + 1) (stmt_trees second)) (k ∙ ap (λ xs. xs ++ statements_references constants nest (between + 1) (stmt_trees first)) h)
      ∙ ap (λ xs. xs ++ statements_references constants nest (last + 1) (stmt_trees second)) (append_assoc old own (statements_references constants nest (between + 1) (stmt_trees first)))
      ∙ append_assoc old (own ++ statements_references constants nest (between + 1) (stmt_trees first)) (statements_references constants nest (last + 1) (stmt_trees second))
      ∙ (λ i. old ++ (numbered_accesses (before + 1) 1 nest (own_accesses constants (indices_of nest) (tree i))
      ++ statements_references constants nest (start i) (stmt_trees (f i)) ++ statements_references constants nest (behind i) (stmt_trees (g i))))
      ∙ ap (λ t. old ++ statement_references constants nest (before + 1) t) (sym tree)

  -- the references of a DO behind others: those of its header, and those of its body
  pub do_references : (d : Do) (between : ℕ) (old with_own new : List Reference)
      → s ≡ variant.Do d → between ≡ before + 1 → with_own ≡ old ++ own
      → new ≡ with_own ++ statements_references constants (nest ++ (record { number = between; head = head_of d }) ∷ []) (between + 1) (stmt_trees d.body.items)
      → new ≡ old ++ statement_references constants nest (before + 1) (stmt_tree s)
  do_references d between old with_own new is m h k =
      let tree : stmt_tree s ≡ plain.Do (head_of d) (stmt_trees d.body.items) = ap stmt_tree is ∙ stmt_tree-Do d in
      k
      ∙ ap (λ xs. xs ++ statements_references constants (nest ++ (record { number = between; head = head_of d }) ∷ []) (between + 1) (stmt_trees d.body.items)) h
      ∙ append_assoc old own (statements_references constants (nest ++ (record { number = between; head = head_of d }) ∷ []) (between + 1) (stmt_trees d.body.items))
      ∙ (λ i. old ++ (numbered_accesses (before + 1) 1 nest (own_accesses constants (indices_of nest) (tree i))
      ++ statements_references constants (nest ++ (record { number = m i; head = head_of d }) ∷ []) (m i + 1) (stmt_trees d.body.items)))
      ∙ ap (λ t. old ++ statement_references constants nest (before + 1) t) (sym tree)
