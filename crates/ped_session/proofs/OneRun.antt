-- A program has one outcome with its choices, by what it is lowered to.
use Rattle.std.proofs.Common.{◌≡◌, ◌↔◌, ℕ, zero, suc, ◌+◌, List, refl, sym, ap, ◌∙◌, subst, arith}
use Rattle.std.specs.Prelude.{slice_index_or}
use Rattle.std.specs.List.{range_with_len}
use Rattle.ped_tree.specs.Tree.{ProgramTree}
use Rattle.ped_tree.specs.Numbering.{statements_count}
use Rattle.ped_eval.specs.Outcomes.{Outcome, Ended, Fault}
use Rattle.ped_order.specs.ped_interleavings.specs.Interleavings.{at_start, IsInterleaved}
use Rattle.ped_order.proofs.OneOutcome.{one_outcome}
use Rattle.ped_transformations.specs.ped_reduce.specs.Lowering.{Lowered, not_lowered}
use Rattle.ped_transformations.specs.ped_reduce.specs.Reducing.{IsLowered}
use Rattle.ped_transformations.specs.ped_reduce.proofs.LoweringLaws.{one_lowered}
use Rattle.ped_session.specs.LoweredRuns.{origin_at, told_by, TellsRun, IsLoweredRun}

pub one_lowered_run : (choices data_bytes : List ℕ) (t : ProgramTree) (o p : Outcome) → IsLoweredRun choices data_bytes t o → IsLoweredRun choices data_bytes t p → o ≡ p
one_lowered_run choices d t o p a b =
    let same : a.lowered ≡ b.lowered = one_lowered t a.lowered b.lowered a.lowers b.lowers in
    let q = b.lowered in
    let ended : a.tells.0 ≡ b.tells.0 = one_outcome q.tree (at_start q.tree d choices) a.tells.0 b.tells.0 (subst (λ (r : Lowered). IsInterleaved r.tree d choices a.tells.0) same a.tells.1) b.tells.1 in
    a.tells.2 ∙ (λ i. told_by (same i) (ended i)) ∙ sym b.tells.2

-- a number behind so many others is itself
counted : (a n k : ℕ) → slice_index_or (range_with_len a n) k (a + k) ≡ a + k
counted a zero k = refl
counted a (suc n) zero = omega arith
counted a (suc n) (suc k) = subst (λ (m : ℕ). slice_index_or (range_with_len (a + 1) n) k m ≡ m) (let e : a + 1 + k ≡ a + suc k = omega arith in e) (counted (a + 1) n k)

-- where nothing is lowered, each statement comes from itself
own_origin : (n k : ℕ) → origin_at (range_with_len 1 n) k ≡ k
own_origin n zero = refl
own_origin n (suc k) = subst (λ (m : ℕ). slice_index_or (range_with_len 1 n) k m ≡ m) (let e : 1 + k ≡ suc k = omega arith in e) (counted 1 n k)

-- so an outcome is told as it is
pub told_itself : (t : ProgramTree) (o : Outcome) → told_by (not_lowered t) o ≡ o
told_itself t (Ended output live) = refl
told_itself t (Fault number statement) = ap (Fault number) (own_origin (statements_count t.body) statement)

-- and the outcomes of a program are its own
pub tells_itself : (choices data_bytes : List ℕ) (t : ProgramTree) (o : Outcome) → IsInterleaved t data_bytes choices o → TellsRun choices data_bytes (not_lowered t) o
tells_itself choices d t o is = (o, is, sym (told_itself t o))

pub runs_itself : (choices data_bytes : List ℕ) (t : ProgramTree) (o : Outcome) → IsLowered t (not_lowered t) → IsInterleaved t data_bytes choices o → IsLoweredRun choices data_bytes t o
runs_itself choices d t o lowers is = record { lowered = not_lowered t; lowers = lowers; tells = tells_itself choices d t o is }

own_run : (choices data_bytes : List ℕ) (t : ProgramTree) (o : Outcome) → TellsRun choices data_bytes (not_lowered t) o → IsInterleaved t data_bytes choices o
own_run choices d t o tells = subst (IsInterleaved t d choices) (sym (tells.2 ∙ told_itself t tells.0)) tells.1

pub as_it_is : (choices data_bytes : List ℕ) (t : ProgramTree) (o : Outcome) → IsLowered t (not_lowered t) → IsLoweredRun choices data_bytes t o ↔ IsInterleaved t data_bytes choices o
as_it_is choices d t o lowers = (
  (λ run. own_run choices d t o (subst (λ (q : Lowered). TellsRun choices d q o) (one_lowered t run.lowered (not_lowered t) run.lowers lowers) run.tells)),
  runs_itself choices d t o lowers,
)
