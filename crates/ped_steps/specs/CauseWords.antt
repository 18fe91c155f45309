-- The words by which a refused step is reported (this project).
use Rattle.std.specs.Prelude.{ℕ, List, ◌++◌, codes}
use Rattle.std.specs.Fmt.{decimal}
use Rattle.ped_edges.specs.Edges.{Edge}
use Rattle.ped_edges.specs.Rows.{edge_row}
use Rattle.ped_steps.specs.declared.rules.Rule.{Rule}
use Rattle.ped_steps.specs.RuleNames.{number_of, name_of}
use Rattle.ped_steps.specs.Causes.{Cause, rule, dependence}

-- `rule`, the number and the name of the rule, `at` and the statement that it names (this project)
abbrev pub rule_words : Rule → ℕ → List ℕ
rule_words r n = codes "rule " ++ decimal (number_of r) ++ codes " " ++ name_of r ++ codes " at " ++ decimal n

-- `edge` and the row of the dependence in the pane (ParaScope; this project)
abbrev pub edge_words : Edge → List ℕ
edge_words e = codes "edge " ++ edge_row e

-- the words of a cause (this project)
abbrev pub cause_words : Cause → List ℕ
cause_words (rule r n) = rule_words r n
cause_words (dependence e) = edge_words e
