-- Commands that take a text, by what their words say. Only contracts of private functions use it.
use Rattle.std.specs.Prelude.{List, Option, option_map}
use Rattle.ped_script.specs.declared.items.Command.{Command}
use Rattle.ped_script.specs.declared.items.Command.TheVariants.{Replace, Insert, InterchangeBy, ReverseBy, ParallelBy}
use Rattle.ped_script.specs.declared.reading.Head.{Head}
use Rattle.ped_script.specs.declared.reading.Head.TheVariants as head
use Rattle.ped_script.specs.Words.{Text}
use Rattle.ped_script.specs.Items.{text_of, evidence_of}

-- the command with this head, with its text, where these lines follow; none where they hold no text
abbrev pub headed : Head → List Text → Option Command
headed (head.Replace first last) following = option_map (λ text. Replace first last text) (text_of following)
headed (head.Insert after) following = option_map (λ text. Insert after text) (text_of following)
headed (head.InterchangeBy s) following = option_map (λ evidence. InterchangeBy s evidence) (evidence_of following)
headed (head.ReverseBy s) following = option_map (λ evidence. ReverseBy s evidence) (evidence_of following)
headed (head.ParallelBy s) following = option_map (λ evidence. ParallelBy s evidence) (evidence_of following)
