use Rattle.std.proofs.Common.{◌≡◌, ◌++◌, ℕ, List, take}
use Rattle.ped_tree.specs.Grammar.Characters.{has_bad, text_behind}
use Rattle.ped_lines.specs.Quoting.{quoting_of}
use Rattle.ped_lines.proofs.characters.OpenText.with_columns.Given as goal

abbrev pub invariant-loop-c : goal.invariant-loop-c
invariant-loop-c l = record {
  text : (before : List ℕ) → quoting_of before ≡ l.initial.quoting → l.bytes.items ≡ l.initial.bytes.items ++ text_behind before (take l.c-index l.columns);
  quoting : (before : List ℕ) → quoting_of before ≡ l.initial.quoting → quoting_of (before ++ take l.c-index l.columns) ≡ l.quoting;
  bad : (before : List ℕ) → quoting_of before ≡ l.initial.quoting → has_bad before (take l.c-index l.columns) ≡ l.bad;
}
