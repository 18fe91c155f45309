use Rattle.std.proofs.Common.{◌≡◌, ◌+◌, ◌++◌, length, drop, option_map}
use Rattle.ped_script.specs.Items.{evidence_of, text_count}
use Rattle.ped_script.proofs.reading.evidence.Given as goal

abbrev pub invariant-loop-line : goal.invariant-loop-line
invariant-loop-line l = record {
  evidence : option_map (λ evidence. l.evidence ++ evidence) (evidence_of l.lines.lines) ≡ evidence_of l.initial.lines.lines;
  lines : drop (text_count l.lines.lines) l.lines.lines ≡ drop (text_count l.initial.lines.lines) l.initial.lines.lines;
  read : l.lines.read + text_count l.lines.lines ≡ l.initial.lines.read + text_count l.initial.lines.lines;
}

abbrev pub decreases-loop-line : goal.decreases-loop-line
decreases-loop-line l = length l.lines.lines
