-- The new program of the code is that of the step.
use Rattle.std.proofs.Common.{◌≡◌, ℕ, Bool, List, ◌++◌, [], ◌∷◌, map, Some, sym, ap, ◌∙◌}
use Rattle.std.proofs.lemmas.List.{map-append}
use Rattle.ped_tree.specs.Tree.{Head, StmtTree, StmtTrees, Do, DeclTree, ProgramTree}
use Rattle.ped_tree.specs.Views.{stmt_trees, decl_tree}
use Rattle.ped_tree.specs.declared.statements.Stmt.{Stmt}
use Rattle.ped_tree.specs.declared.declarations.Decl.{Decl}
use Rattle.ped_rules.specs.ped_flow.specs.Questions.{IsLoop}
use Rattle.ped_rules.specs.ped_steps.specs.Replacing.{all_replaced}
use Rattle.ped_rules.specs.ped_steps.proofs.OnePlace.{one_program}
use Rattle.ped_rules.specs.Spans.{Span}
use Rattle.ped_scalar.specs.Expanding.{with_elements, expanded}
use Rattle.ped_rules.specs.ScalarArrays.{declaration}

one_found : (a b : StmtTree) → Some a ≡ Some b → a ≡ b
one_found a b e = cc

module _ (t : ProgramTree) (n : ℕ) (x array : List ℕ) (live : Bool) (v : Span) (h : Head) (body : StmtTrees) where
  -- the statements of the code in the place of the DO
  pub replaced_body : (new : List Stmt) → IsLoop t n h body → stmt_trees new ≡ with_elements x array live v.last (Do h body)
      → all_replaced (λ s. stmt_trees new) n t.body 1 ≡ all_replaced (with_elements x array live v.last) n t.body 1
  replaced_body new is made =
      ap (λ (u : ProgramTree). u.body)
      (one_program (λ (s : StmtTree). stmt_trees new) (with_elements x array live v.last) n t (λ g e. made ∙ ap (with_elements x array live v.last) (one_found (Do h body) g (sym is ∙ e))))

  -- the program with these declarations and this body
  pub expanded_is : (decls : List DeclTree) (inner : StmtTrees) → decls ≡ t.decls ++ declaration array v ∷ [] → inner ≡ all_replaced (with_elements x array live v.last) n t.body 1
      → ◌≡◌ {A = ProgramTree} (record { decls = decls; body = inner }) (expanded t n x live array v)
  expanded_is decls inner d b = λ i. record { decls = d i; body = b i }

-- declarations with one more behind them
pub declared_is : (old : List DeclTree) (copies : List Decl) (decl : Decl) (tree : DeclTree) → map decl_tree copies ≡ old → decl_tree decl ≡ tree → map decl_tree (copies ++ decl ∷ []) ≡ old ++ tree ∷ []
declared_is old copies decl tree c d = map-append decl_tree copies (decl ∷ []) ∙ (λ i. c i ++ d i ∷ [])
