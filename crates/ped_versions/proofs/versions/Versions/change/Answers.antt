use Rattle.std.proofs.Common.{ℕ, ◌+◌, ◌≤◌, ap, subst, ◌∙◌}
use Rattle.ped_tree.specs.Views.{program_tree}
use Rattle.ped_tree.specs.Printing.{program_text}
use Rattle.ped_update.specs.Fresh.{tested_pairs}
use Rattle.ped_versions.specs.declared.versions.Version.{Version}
use Rattle.ped_versions.specs.Holding.{tree_of}
use Rattle.ped_versions.specs.declared.changes.ChangeKind.{ChangeKind}
use Rattle.ped_versions.specs.States.{State, changed_to}
use Rattle.ped_versions.proofs.PresentProgram.{graph_of, reads_version}
use Rattle.ped_versions.proofs.Accepted.{changed_by, as_counted, fresh_by}
use Rattle.ped_versions.proofs.versions.Versions.change.Goals as goal

pub returns-in_err-delta-clause-most : goal.returns-in_err-delta-clause-most
returns-in_err-delta-clause-most g c old reads =
    let s = c.self.inside in
    let held = graph_of s.present s.graph s.history.past s.history.future c.self.invariant c.args.self.now.present (ap (λ (u : State). u.present) c.self.view_is) old reads in
    subst (λ (n : ℕ). c.update.new.steps ≤ c.args.steps.now + n) (fresh_by s.graph old (program_tree c.args.new.program) c.args.keep.now held) c.update.ensures.most

pub returns-clause-changes : goal.returns-clause-changes
returns-clause-changes g c =
    let s = c.self.inside in
    let t = program_tree c.args.new.program in
    let old = tree_of s.present in (
      old,
      reads_version s.present c.self.invariant.version c.args.self.now.present (ap (λ (u : State). u.present) c.self.view_is),
      changed_by c.args.self.now (program_text t) c.replace-other.new.dest.text s.present.text s.history c.reserve.new.self c.push.new.self
          c.entry_to.result s.tested c.tested-self-inside.result (tested_pairs old t c.args.keep.now)
          (ap (λ (v : Version). v.text) c.replace-other.ensures.after ∙ c.in_ok-text.ensures) c.push.ensures c.in_ok-reserve.ensures.past
          (c.entry_to.ensures.text ∙ ap (λ (v : Version). v.text) c.replace-other.ensures.value) c.self.view_is
          (c.tested-self-inside.ensures ∙ c.in_ok-delta.ensures.tested ∙ fresh_by s.graph old t c.args.keep.now c.self.invariant.graph_is)
          ∙ ap (λ (k : ChangeKind). changed_to (program_text t) k (tested_pairs old t c.args.keep.now) c.args.self.now) c.entry_to.ensures.change,
    )

pub returns-clause-ticks : goal.returns-clause-ticks
returns-clause-ticks g c =
    let s = c.self.inside in
    let t = program_tree c.args.new.program in
    let fresh = fresh_by s.graph (tree_of s.present) t c.args.keep.now c.self.invariant.graph_is in
    as_counted c.update.new.steps c.args.steps.now c.in_ok-delta.delta.tested (tested_pairs (tree_of s.present) t c.args.keep.now) c.tested-self-inside.result
    (c.in_ok-delta.ensures.ticks ∙ ap (λ (n : ℕ). c.args.steps.now + n) fresh) (c.in_ok-delta.ensures.tested ∙ fresh) c.tested-self-inside.ensures

pub returns-clause-most : goal.returns-clause-most
returns-clause-most g c old reads =
    let s = c.self.inside in
    let held = graph_of s.present s.graph s.history.past s.history.future c.self.invariant c.args.self.now.present (ap (λ (u : State). u.present) c.self.view_is) old reads in
    subst (λ (n : ℕ). c.update.new.steps ≤ c.args.steps.now + n) (fresh_by s.graph old (program_tree c.args.new.program) c.args.keep.now held) c.update.ensures.most
