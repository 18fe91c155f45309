use Rattle.std.proofs.Common.{◌∙◌, List, length, filter, ap}
use Rattle.ped_affine.specs.Arguments.{setting_of}
use Rattle.ped_evidence.specs.Levels.{Level}
use Rattle.ped_evidence.specs.Layouts.{has_own, has_shared}
use Rattle.ped_evidence.proofs.PairLevels.{few_quotients}
use Rattle.ped_evidence.proofs.systems.count_quotients.Goals as goal

pub returns : goal.returns
returns c =
    let s = setting_of c.args.pair.now.setting in
    let names = c.args.symbols.now in
    record {
      source = c.in_ok-source.ensures.count ∙ ap (λ (vs : List Level). length (filter (has_own s names) vs)) c.requires.pair.source;
      sink = c.in_ok-sink.ensures.count ∙ ap (λ (vs : List Level). length (filter (has_own s names) vs)) c.requires.pair.sink;
      shared = c.in_ok-shared.ensures.count ∙ ap (λ (vs : List Level). length (filter (has_shared s names) vs)) c.requires.common;
      few = few_quotients c.args.pair.now c.requires.pair c.args.common.now c.requires.common c.in_ok-source.source c.in_ok-sink.sink c.in_ok-shared.shared c.in_ok-source.ensures.few c.in_ok-sink.ensures.few c.in_ok-shared.ensures.few;
    }
