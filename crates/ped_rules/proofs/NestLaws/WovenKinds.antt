-- What names stand for in a program in which two DO loops have given way to two with the same names in their heads.
use Rattle.std.proofs.Common.{◌≡◌, ℕ, List, [], ◌∷◌, ◌++◌, Bool, true, false, Some, refl, sym, ap, subst, ◌∙◌, append-nil}
use Rattle.std.specs.Prelude.{◌||◌}
use Rattle.ped_base.specs.Lists.{is_same_text, is_among}
use Rattle.ped_tree.specs.Accesses.{constant_names}
use Rattle.ped_tree.specs.Numbering.{statement_with}
use Rattle.ped_tree.specs.Tree.{Head, StmtTree, StmtTrees, Do, no_stmts, ProgramTree}
use Rattle.ped_rules.specs.OnlyLoops.{change_only, only_loop}
use Rattle.ped_loop_runs.specs.ped_flow.specs.Questions.{LoopOf}
use Rattle.ped_loop_runs.specs.ped_symbols.specs.Kinds.{names_of, kind_in}
use Rattle.ped_loop_runs.specs.ped_symbols.specs.NameRefusals.{IsValid}
use Rattle.ped_loop_runs.specs.ped_symbols.specs.Sites.{Site, statement, private_site, stmt_sites, stmts_sites}
use Rattle.ped_loop_runs.specs.ped_symbols.proofs.RightUseLaws.Whole.{same_kinds}
use Rattle.ped_loop_runs.specs.ped_steps.specs.Replacing.{alone, program_with}
use Rattle.ped_loop_runs.specs.ped_steps.proofs.RunLaws.NamesKept.{occurs, occurs_append, Alike, AreAlike, alike_itself, by_sites, names_kept}
use Rattle.ped_loop_runs.specs.ped_steps.proofs.RunLaws.ScalarNames.{scalar_occurs, statement_in}
use Rattle.ped_loop_runs.specs.ped_steps.proofs.RunLaws.LoopVariables.{variable_scalar}
use Rattle.ped_rules.proofs.NestLaws.OnlyBodies.{pair, only_changed, only_tells}
use Rattle.ped_loop_runs.proofs.LoopLaws.OneForOneNames.{constant_there}

-- the name occurs in the head of a DO, its PRIVATE statement apart
abbrev pub occurs_in : List ℕ → Head → Bool
occurs_in y h = occurs y (statement (Do h no_stmts) ∷ [])

or_grouped : (a b c : Bool) → a || (b || c) ≡ (a || b) || c
or_grouped true b c = refl
or_grouped false b c = refl

-- what occurs in a DO without PRIVATE names
pub in_loop : (y : List ℕ) (h : Head) (body : StmtTrees) → h.private ≡ [] → occurs y (stmt_sites (Do h body)) ≡ occurs_in y h || occurs y (stmts_sites body)
in_loop y h body private =
    occurs_append y (statement (Do h body) ∷ []) (private_site h.private ++ stmts_sites body)
    ∙ ap (λ (xs : List (List ℕ)). occurs_in y h || occurs y (private_site xs ++ stmts_sites body)) private

-- and in two, one of which is the body of the other
pub in_both : (y : List ℕ) (h g : Head) (body inside : StmtTrees) → only_loop body ≡ Some (pair g inside) → h.private ≡ [] → g.private ≡ [] → occurs y (stmt_sites (Do h body)) ≡ (occurs_in y h || occurs_in y g) || occurs y (stmts_sites inside)
in_both y h g body inside only private inner_private =
    in_loop y h body private
    ∙ ap (λ (sites : List Site). occurs_in y h || occurs y sites) (only_tells g inside stmt_sites stmts_sites (λ (xs ys : List Site). xs ++ ys) [] (λ xs. refl) (λ xs. append-nil xs) refl (λ s rest. refl) (λ text. refl) body only)
    ∙ ap (λ (b : Bool). occurs_in y h || b) (in_loop y g inside inner_private)
    ∙ or_grouped (occurs_in y h) (occurs_in y g) (occurs y (stmts_sites inside))

module _ (t : ProgramTree) (valid : IsValid t) (l : ℕ) (loop : LoopOf t l) (g h k : Head) (inside : StmtTrees) (only : only_loop loop.body ≡ Some (pair g inside))
    (private : loop.head.private ≡ []) (inner_private : g.private ≡ []) (new_private : h.private ≡ []) (new_inner_private : k.private ≡ [])
    (heads : (y : List ℕ) → is_among y (constant_names t.decls) ≡ false → occurs_in y h || occurs_in y k ≡ occurs_in y loop.head || occurs_in y g) where
  abbrev its_body : StmtTrees
  its_body = change_only (λ f z. Do k z) loop.body

  abbrev by : StmtTree → StmtTrees
  by s = alone (Do h (change_only (λ f z. Do k z) loop.body))

  abbrev v : List ℕ
  v = loop.head.variable

  occurs_alike : (y : List ℕ) → is_among y (constant_names t.decls) ≡ false → occurs y (stmt_sites (Do h its_body)) ≡ occurs y (stmt_sites (Do loop.head loop.body))
  occurs_alike y other =
      in_both y h k its_body inside (only_changed g inside k loop.body only) new_private new_inner_private
      ∙ ap (λ (b : Bool). b || occurs y (stmts_sites inside)) (heads y other)
      ∙ sym (in_both y loop.head g loop.body inside only private inner_private)

  sites_alike : (y : List ℕ) → is_among y (constant_names t.decls) ≡ false → AreAlike v y (stmts_sites (alone (Do h its_body))) (stmt_sites (Do loop.head loop.body))
  sites_alike y other =
      by_sites v y (stmt_sites (Do h its_body) ++ []) (stmt_sites (Do h its_body)) (stmt_sites (Do loop.head loop.body)) (append-nil (stmt_sites (Do h its_body)))
      (subst (λ (b : Bool). Alike (is_same_text y v) b (occurs y (stmt_sites (Do loop.head loop.body)))) (sym (occurs_alike y other)) (alike_itself (is_same_text y v) (occurs y (stmt_sites (Do loop.head loop.body)))))

  of_it : (y : List ℕ) → is_among y (constant_names t.decls) ≡ false → (old : StmtTree) → statement_with l t ≡ Some old → AreAlike v y (stmts_sites (by old)) (stmt_sites old)
  of_it y other old there =
      let is : Do loop.head loop.body ≡ old = ap (statement_in (Do loop.head loop.body)) (sym loop.is ∙ there) in
      subst (λ (z : StmtTree). AreAlike v y (stmts_sites (alone (Do h its_body))) (stmt_sites z)) is (sites_alike y other)

  same_names : (y : List ℕ) (b : Bool) → is_among y (constant_names t.decls) ≡ b → is_among y (names_of (program_with by l t)) ≡ is_among y (names_of t)
  same_names y true named = constant_there y (program_with by l t) named ∙ sym (constant_there y t named)
  same_names y false other = names_kept v y by l t (of_it y other) (scalar_occurs t v (variable_scalar t valid l loop))

  pub swapped_kinds : (y : List ℕ) → kind_in (program_with by l t) y ≡ kind_in t y
  swapped_kinds = same_kinds t (program_with by l t) refl (λ y. same_names y (is_among y (constant_names t.decls)) refl)
