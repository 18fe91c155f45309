use Rattle.std.proofs.Common.{◌≡◌, ◌∙◌}
use Rattle.std.proofs.lemmas.Result.{IfOk-weaker}
use Rattle.ped_refs.specs.Occurrences.{reference_of}
use Rattle.ped_affine.specs.Arguments.{setting_of, site}
use Rattle.ped_laws.specs.ped_graph.specs.Dependences.{site_of}
use Rattle.ped_evidence.specs.declared.systems.Described.{Described}
use Rattle.ped_evidence.specs.Symbols.{symbols_of}
use Rattle.ped_evidence.specs.Systems.{system_at}
use Rattle.ped_evidence.proofs.claimed.described_in.Goals as goal

pub returns-clause-system : goal.returns-clause-system
returns-clause-system c =
    let s = setting_of c.args.setting.now in
    let pattern = c.args.pattern.now in
    let source = c.place_of-source.ensures.site in
    let sink = c.place_of-sink.ensures.site in
    IfOk-weaker c.describe.result (λ (found : Described). found.system ≡ system_at s (site c.place_of-source.result) (site c.place_of-sink.result) pattern)
    (λ (found : Described). found.system ≡ system_at s (site_of (reference_of c.args.pair.now.source.now)) (site_of (reference_of c.args.pair.now.sink.now)) pattern)
    (λ found h. h ∙ (λ i. system_at s (source i) (sink i) pattern)) c.describe.ensures.system

pub returns-clause-symbols : goal.returns-clause-symbols
returns-clause-symbols c =
    let s = setting_of c.args.setting.now in
    let source = c.place_of-source.ensures.site in
    let sink = c.place_of-sink.ensures.site in
    IfOk-weaker c.describe.result (λ (found : Described). found.symbols ≡ symbols_of s (site c.place_of-source.result) (site c.place_of-sink.result))
    (λ (found : Described). found.symbols ≡ symbols_of s (site_of (reference_of c.args.pair.now.source.now)) (site_of (reference_of c.args.pair.now.sink.now)))
    (λ found h. h ∙ (λ i. symbols_of s (source i) (sink i))) c.describe.ensures.symbols
