use Rattle.std.proofs.Common.{◌≡◌, ◌∙◌, ap, [], ℕ}
use Rattle.std.proofs.lemmas.Result.{IfOk-weaker}
use Rattle.ped_tree.specs.Views.{program_tree}
use Rattle.ped_tree.specs.Numbering.{statement_with}
use Rattle.ped_tree.specs.Names.Collecting.{with_names}
use Rattle.ped_refs.specs.References.{Reference, outermost}
use Rattle.ped_refs.specs.Occurrences.{reference_of}
use Rattle.ped_affine.specs.Ranges.{Setting}
use Rattle.ped_laws.specs.ped_graph.specs.Dependences.{assigned_by, setting_in, site_of}
use Rattle.ped_evidence.specs.declared.systems.Described.{Described}
use Rattle.ped_evidence.specs.Claims.{system}
use Rattle.ped_evidence.specs.Symbols.{symbols_of}
use Rattle.ped_evidence.specs.Systems.{system_at}
use Rattle.ped_evidence.specs.Judged.{symbols_in}
use Rattle.ped_evidence.proofs.JudgedLines.{in_setting}
use Rattle.ped_evidence.proofs.claimed.described_pair.Goals as goal

pub returns-clause-system : goal.returns-clause-system
returns-clause-system c =
    let t = program_tree c.args.known.now.program.now in
    let r : Reference = reference_of c.args.pair.now.source.now in
    let q : Reference = reference_of c.args.pair.now.sink.now in
    let pattern = c.args.pattern.now in
    let s : Setting = record { constants = c.args.known.now.constants.now; loop_variables = c.args.known.now.loop_variables.now; assigned = c.in_ok-assigned.assigned } in
    let assigned = c.in_ok-assigned.ensures ∙ ap (λ (n : ℕ). with_names [] (assigned_by (statement_with n t))) c.outermost.ensures in
    let is : s ≡ setting_in t (outermost r) = in_setting t r s c.requires.known.constants c.requires.known.loop_variables assigned in
    IfOk-weaker c.described_in.result (λ (found : Described). found.system ≡ system_at s (site_of r) (site_of q) pattern) (λ (found : Described). found.system ≡ system t r q pattern)
    (λ found h. h ∙ ap (λ (z : Setting). system_at z (site_of r) (site_of q) pattern) is) c.described_in.ensures.system

pub returns-clause-symbols : goal.returns-clause-symbols
returns-clause-symbols c =
    let t = program_tree c.args.known.now.program.now in
    let r : Reference = reference_of c.args.pair.now.source.now in
    let q : Reference = reference_of c.args.pair.now.sink.now in
    let s : Setting = record { constants = c.args.known.now.constants.now; loop_variables = c.args.known.now.loop_variables.now; assigned = c.in_ok-assigned.assigned } in
    let assigned = c.in_ok-assigned.ensures ∙ ap (λ (n : ℕ). with_names [] (assigned_by (statement_with n t))) c.outermost.ensures in
    let is : s ≡ setting_in t (outermost r) = in_setting t r s c.requires.known.constants c.requires.known.loop_variables assigned in
    IfOk-weaker c.described_in.result (λ (found : Described). found.symbols ≡ symbols_of s (site_of r) (site_of q)) (λ (found : Described). found.symbols ≡ symbols_in t (r, q))
    (λ found h. h ∙ ap (λ (z : Setting). symbols_of z (site_of r) (site_of q)) is) c.described_in.ensures.symbols
