-- What `reverse` answers, and the program that its code makes.
use Rattle.std.proofs.Common.{◌≡◌, ◌⊎◌, ℕ, ℤ, pos, negsuc, neg_ℤ, ◌≤◌, unsigned_abs, List, [], ◌∷◌, true, Option, Some, None, Ok, Err, refl, sym, ap, ◌∙◌, subst, inl, inr, arith, unwrap_or, to_z, of_z, ◌-ℤ◌}
use Rattle.std.specs.Int.{w64}
use Rattle.ped_symbolic.specs.Arithmetic.{literal}
use Rattle.ped_tree.specs.Constants.ConstantExpressions.{constant_value}
use Rattle.ped_tree.specs.Tree.{Head, StmtTree, StmtTrees, Do, ProgramTree}
use Rattle.ped_tree.specs.Views.{stmt_tree, stmt_trees}
use Rattle.ped_tree.specs.declared.statements.Stmt.{Stmt}
use Rattle.ped_rules.specs.OnlyLoops.{on_loop}
use Rattle.ped_rules.specs.Rules.{is_unit}
use Rattle.ped_rules.specs.ped_steps.specs.Causes.{IsFirstRule}
use Rattle.ped_rules.specs.ped_steps.specs.Replacing.{alone, program_with, all_kept}
use Rattle.ped_rules.specs.ped_steps.specs.declared.causes.Refused.{Refused}
use Rattle.ped_rules.specs.ped_steps.specs.declared.causes.Refused.TheVariants as variant
use Rattle.ped_rules.specs.ped_steps.specs.declared.rules.Rule.{Rule}
use Rattle.ped_rules.specs.ped_flow.specs.Questions.{IsLoop}
use Rattle.ped_rules.specs.ped_symbols.specs.Kinds.{table_of}
use Rattle.ped_rules.specs.ped_steps.proofs.OnePlace.{one_program}
use Rattle.ped_loops.specs.CodeEnding.{IsByRules}
use Rattle.ped_loops.specs.Reversing.{turned_head, with_turned, reversed, StandsAgainstReversal}
use Rattle.ped_loops.proofs.Endings.{ruled}
use Rattle.ped_loops.proofs.ReversedLoops.{unit_is}

pub refused : (s : ℕ) (t : ProgramTree) (r : Rule) (n : ℕ) (found : Refused) → found ≡ variant.Rule r n → IsFirstRule (StandsAgainstReversal s t) r n → IsByRules (StandsAgainstReversal s t) (reversed t s) (all_kept t) (Err found)
refused s t r n found is first = ruled (StandsAgainstReversal s t) (reversed t s) (all_kept t) r n found is first

same_statement : (a b : StmtTree) → Some a ≡ Some b → a ≡ b
same_statement a b e = cc

-- the new program of the code is that of the step
pub turned_program : (t : ProgramTree) (n : ℕ) (h : Head) (body : StmtTrees) (m k : ℤ) (f : Stmt) (new : List Stmt) → IsLoop t n h body → constant_value (table_of t).constants h.step ≡ Some m → k ≡ neg_ℤ m → new ≡ f ∷ []
    → stmt_tree f ≡ Do (record h { first = h.last; last = h.first; step = literal k }) body → program_with (λ s. stmt_trees new) n t ≡ reversed t n
turned_program t n h body m k f new is step negated listed made =
    one_program (λ (s : StmtTree). stmt_trees new) (on_loop (with_turned (table_of t).constants)) n t
    (λ g e. ap stmt_trees listed ∙ ap alone (made ∙ same) ∙ ap (on_loop (with_turned (table_of t).constants)) (same_statement (Do h body) g (sym is ∙ e)))
  where
    same : Do (record h { first = h.last; last = h.first; step = literal k }) body ≡ Do (turned_head (table_of t).constants h) body
    same = ap (λ (j : ℤ). Do (record h { first = h.last; last = h.first; step = literal j }) body) negated ∙ ap (λ (o : Option ℤ). Do (record h { first = h.last; last = h.first; step = literal (neg_ℤ (unwrap_or o (pos 1))) }) body) (sym step)

-- 1 and -1 are small, and so are their negatives
unit_small_by : (m : ℤ) → (m ≡ pos 1) ⊎ (m ≡ negsuc 0) → unsigned_abs m ≤ 2147483647
unit_small_by m (inl is) = subst (λ (n : ℤ). unsigned_abs n ≤ 2147483647) (sym is) (omega arith)
unit_small_by m (inr is) = subst (λ (n : ℤ). unsigned_abs n ≤ 2147483647) (sym is) (omega arith)

pub unit_small : (m : ℤ) → is_unit m ≡ true → unsigned_abs m ≤ 2147483647
unit_small m h = unit_small_by m (unit_is m h)

negated_by : (m : ℤ) → (m ≡ pos 1) ⊎ (m ≡ negsuc 0) → is_unit (neg_ℤ m) ≡ true
negated_by m (inl is) = ap (λ (n : ℤ). is_unit (neg_ℤ n)) is
negated_by m (inr is) = ap (λ (n : ℤ). is_unit (neg_ℤ n)) is

pub unit_negated : (m : ℤ) → is_unit m ≡ true → is_unit (neg_ℤ m) ≡ true
unit_negated m h = negated_by m (unit_is m h)

-- a number as it is handed over, and with its sign turned on the way
passed_by : (m : ℤ) → (m ≡ pos 1) ⊎ (m ≡ negsuc 0) → to_z w64 (of_z w64 m) ≡ m
passed_by m (inl is) = ap (λ (n : ℤ). to_z w64 (of_z w64 n)) is ∙ sym is
passed_by m (inr is) = ap (λ (n : ℤ). to_z w64 (of_z w64 n)) is ∙ sym is

pub unit_passed : (m : ℤ) → is_unit m ≡ true → to_z w64 (of_z w64 m) ≡ m
unit_passed m h = passed_by m (unit_is m h)

turned_by : (m : ℤ) → (m ≡ pos 1) ⊎ (m ≡ negsuc 0) → to_z w64 (of_z w64 (pos 0 -ℤ to_z w64 (of_z w64 m))) ≡ neg_ℤ m
turned_by m (inl is) = ap (λ (n : ℤ). to_z w64 (of_z w64 (pos 0 -ℤ to_z w64 (of_z w64 n)))) is ∙ ap neg_ℤ (sym is)
turned_by m (inr is) = ap (λ (n : ℤ). to_z w64 (of_z w64 (pos 0 -ℤ to_z w64 (of_z w64 n)))) is ∙ ap neg_ℤ (sym is)

pub unit_turned : (m : ℤ) → is_unit m ≡ true → to_z w64 (of_z w64 (pos 0 -ℤ to_z w64 (of_z w64 m))) ≡ neg_ℤ m
unit_turned m h = turned_by m (unit_is m h)
