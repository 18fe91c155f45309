-- Sums in order mean the same, at each list that is live, behind those before it.
use Rattle.std.proofs.Common.{◌+◌, false, sym, subst}
use Rattle.ped_rules.specs.ped_symbols.specs.NameRefusals.{IsValid}
use Rattle.ped_rules.specs.ped_steps.specs.Runs.Meaning.{Keeps}
use Rattle.ped_rules.specs.ped_loop_runs.specs.Unrejected.{IsTrusted}
use Rattle.ped_reduce.proofs.SumKeeps.{kept_apart_keeps}
use Rattle.ped_reduce.proofs.SumGoals.{kept_apart, SumsInOrder}
use Rattle.ped_reduce.proofs.SumApart.{declared_apart}
use Rattle.ped_reduce.proofs.SumLive.{live_may_keep_apart}
use Rattle.ped_reduce.proofs.SumFlags.{flag_off}
use Rattle.ped_reduce.proofs.SumTrusted.{kept_apart_trusted}

-- the DO in order is valid as the PARALLEL DO is; all is known of both programs by which the new one keeps the meaning; and it may be trusted as the old one may
pub sums_in_order : SumsInOrder
sums_in_order t s p q w valid lowers stage live makes =
    let m = live_may_keep_apart t s p q w valid stage lowers live makes in
    let new_valid = flag_off p.tree (s + p.more) m.1 m.2 (subst IsValid m.5 live.valid) in
    let known = declared_apart p.tree (s + p.more) m.0 m.1 m.2 m.3 new_valid in (
      subst IsValid (sym m.4) new_valid,
      subst (Keeps p.tree) (sym m.4) (kept_apart_keeps p.tree (kept_apart false p.tree (s + p.more) m.1 m.2) (s + p.more) m.0 m.1 known.0 known.1 known.2),
      λ trusted. subst IsTrusted (sym m.4) (kept_apart_trusted p.tree (s + p.more) m.0 m.1 m.2 m.3 new_valid trusted),
    )
