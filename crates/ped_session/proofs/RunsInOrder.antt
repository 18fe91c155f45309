-- Without choices a program runs in order, by what it is lowered to.
use Rattle.std.proofs.Common.{◌≡◌, ℕ, List, [], ap, ◌∙◌}
use Rattle.std.specs.List.{range_with_len}
use Rattle.ped_tree.specs.Tree.{ProgramTree}
use Rattle.ped_tree.specs.Numbering.{statements_count}
use Rattle.ped_versions.specs.ped_valid.specs.Validity.{ReadsValid}
use Rattle.ped_eval.specs.Outcomes.{Outcome, outcome}
use Rattle.ped_order.specs.ped_interleavings.specs.Interleavings.{IsInterleaved}
use Rattle.ped_transformations.specs.ped_reduce.specs.Lowering.{not_lowered}
use Rattle.ped_transformations.specs.ped_reduce.specs.Reducing.{IsLowered}
use Rattle.ped_transformations.specs.ped_reduce.proofs.LoweringLaws.{stays_itself}
use Rattle.ped_session.specs.declared.replies.Reply.{Reply}
use Rattle.ped_versions.specs.States.{State}
use Rattle.ped_session.specs.OutcomeTexts.{outcome_text, IsRunText}
use Rattle.ped_session.specs.LoweredRuns.{HasNoList, told_by, IsLoweredRun, IsLoweredInOrder}
use Rattle.ped_session.specs.Steps.{Shows}
use Rattle.ped_session.proofs.OneRun.{as_it_is}

-- without choices a program runs as it does in order
abbrev pub RunsInOrder : Type 0
RunsInOrder = (t : ProgramTree) (data_bytes : List ℕ) (o : Outcome) → IsInterleaved t data_bytes [] o → o ≡ outcome t data_bytes

-- where no DO has a list, a program is lowered to itself
pub lowered_to_itself : (t : ProgramTree) → HasNoList t → IsLowered t (not_lowered t)
lowered_to_itself t none = stays_itself t none (range_with_len 1 (statements_count t.body)) (not_lowered t)

lowered_in_order : RunsInOrder → (d : List ℕ) (t : ProgramTree) (o : Outcome) → IsLoweredRun [] d t o → IsLoweredInOrder d t o
lowered_in_order same d t o run = record {
  lowered = run.lowered;
  lowers = run.lowers;
  told = run.tells.2 ∙ ap (told_by run.lowered) (same run.lowered.tree d run.tells.0 run.tells.1);
}

pub in_order : RunsInOrder → (d : List ℕ) (s next : State) (reply : Reply) → Shows (IsRunText [] d) s reply next
    → Shows (λ t bytes. (o : Outcome) × IsLoweredInOrder d t o × (bytes ≡ outcome_text o)) s reply next
in_order same d s next reply shows = record {
  tree = shows.tree;
  reads = shows.reads;
  bytes = shows.bytes;
  so = (shows.so.0, lowered_in_order same d shows.tree shows.so.0 shows.so.1, shows.so.2);
  prints = shows.prints;
}

pub plain_order : RunsInOrder → (d : List ℕ) (s next : State) (reply : Reply) → Shows (IsRunText [] d) s reply next
    → ((t : ProgramTree) → ReadsValid s.present t → HasNoList t) → Shows (λ t bytes. bytes ≡ outcome_text (outcome t d)) s reply next
plain_order same d s next reply shows none =
    let t = shows.tree in
    let o = shows.so.0 in
    record {
      tree = t;
      reads = shows.reads;
      bytes = shows.bytes;
      so = shows.so.2 ∙ ap outcome_text (same t d o ((as_it_is [] d t o (lowered_to_itself t (none t shows.reads))).0 shows.so.1));
      prints = shows.prints;
    }
