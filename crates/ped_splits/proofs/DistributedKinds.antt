-- What names stand for in a program in which a DO is taken apart: all that they stood for.
use Rattle.std.proofs.Common.{◌≡◌, ℕ, ◌≤◌, List, length, Bool, false, ◌||◌, Some, refl, ap, sym, subst, ◌∙◌, arith}
use Rattle.ped_base.specs.Lists.{is_among, is_same_text}
use Rattle.ped_tree.proofs.NameLaws.Collected.{among_append}
use Rattle.ped_tree.specs.NamesIn.{head_names, stmt_names, stmts_names}
use Rattle.ped_tree.specs.Numbering.{statement_count, statement_with}
use Rattle.ped_tree.specs.Tree.{Do, Head, ProgramTree, StmtTree, StmtTrees}
use Rattle.ped_rules.specs.ped_steps.proofs.RunLaws.NamesAtSites.{stmt_at, stmts_at}
use Rattle.ped_rules.specs.ped_steps.proofs.RunLaws.LoopVariables.{variable_scalar}
use Rattle.ped_rules.specs.ped_steps.proofs.RunLaws.NamesKept.{Alike, AreAlike, names_kept, occurs}
use Rattle.ped_rules.specs.ped_steps.proofs.RunLaws.ScalarNames.{scalar_occurs, statement_in}
use Rattle.ped_rules.specs.ped_steps.specs.Replacing.{program_with}
use Rattle.ped_rules.specs.ped_flow.specs.Questions.{LoopOf}
use Rattle.ped_rules.specs.ped_eval.specs.Scopes.{Setting}
use Rattle.ped_rules.specs.ped_eval.specs.Outcomes.{bounds_of, setting_of}
use Rattle.ped_rules.specs.ped_symbols.proofs.RightUseLaws.Whole.{same_kinds, same_values}
use Rattle.ped_rules.specs.ped_symbols.specs.Kinds.{kind_in, names_of}
use Rattle.ped_rules.specs.ped_symbols.specs.NameRefusals.{IsValid}
use Rattle.ped_rules.specs.ped_symbols.specs.Sites.{stmt_sites, stmts_sites}
use Rattle.ped_splits.specs.PiBlocks.{ArePiBlocks}
use Rattle.ped_splits.specs.Distributing.{loops_of}
use Rattle.ped_splits.proofs.DistributeTrusted.{each_placed}
use Rattle.ped_splits.proofs.UnitTests.{only_comment, loops_tell}

module _ (t : ProgramTree) (valid : IsValid t) (s : ℕ) (loop : LoopOf t s) (found : List (List ℕ)) (are : ArePiBlocks t s loop.head loop.body found) (many : 2 ≤ length found) where
  abbrev d : Head
  d = loop.head

  abbrev body : StmtTrees
  body = loop.body

  abbrev new : StmtTrees
  new = loops_of found loop.head loop.body

  abbrev u : ProgramTree
  u = program_with (λ z. loops_of found loop.head loop.body) s t

  module _ (y : List ℕ) where
    quiet_name : (z : StmtTree) → statement_count z ≡ 0 → is_among y (stmt_names z) ≡ false
    quiet_name = only_comment (λ z. is_among y (stmt_names z) ≡ false) (λ text. refl)

    same : is_among y (stmts_names (loops_of found loop.head loop.body)) ≡ is_among y (stmt_names (Do loop.head loop.body))
    same =
        loops_tell (λ ts. is_among y (stmts_names ts)) (λ z. is_among y (stmt_names z)) refl (λ z rest. among_append y (stmt_names z) (stmts_names rest)) quiet_name loop.head loop.body found (omega (arith, many))
        (each_placed t s loop.head loop.body found are) (is_among y (head_names loop.head)) (λ b. among_append y (head_names loop.head) (stmts_names b))

    sites_alike : AreAlike loop.head.variable y (stmts_sites (loops_of found loop.head loop.body)) (stmt_sites (Do loop.head loop.body))
    sites_alike =
        subst (λ (b : Bool). Alike (is_same_text y loop.head.variable) b (occurs y (stmt_sites (Do d body)))) (sym (ap (is_among y) (stmts_at new)))
        (subst (λ (b : Bool). Alike (is_same_text y loop.head.variable) (is_among y (stmts_names new)) b) (sym (ap (is_among y) (stmt_at (Do d body))))
        (record { but = ap (λ (b : Bool). b || is_same_text y loop.head.variable) same; kept = λ h. same ∙ h }))

    of_it : (old : StmtTree) → statement_with s t ≡ Some old → AreAlike loop.head.variable y (stmts_sites (loops_of found loop.head loop.body)) (stmt_sites old)
    of_it old there =
        let is : Do loop.head loop.body ≡ old = ap (statement_in (Do loop.head loop.body)) (sym loop.is ∙ there) in
        subst (λ (z : StmtTree). AreAlike loop.head.variable y (stmts_sites (loops_of found loop.head loop.body)) (stmt_sites z)) is sites_alike

    same_names : is_among y (names_of u) ≡ is_among y (names_of t)
    same_names = names_kept loop.head.variable y (λ z. loops_of found loop.head loop.body) s t of_it (scalar_occurs t loop.head.variable (variable_scalar t valid s loop))

  pub distributed_kinds : (y : List ℕ) → kind_in (program_with (λ z. loops_of found loop.head loop.body) s t) y ≡ kind_in t y
  distributed_kinds = same_kinds t (program_with (λ z. loops_of found loop.head loop.body) s t) refl same_names

  -- so both programs are run by one setting
  pub distributed_setting : setting_of (program_with (λ z. loops_of found loop.head loop.body) s t) ≡ setting_of t
  distributed_setting = λ i. record { bounds = λ y. bounds_of (distributed_kinds y i); constants = same_values t u refl i; number = λ n. n }
