-- What the values of the code stand for (this project).
use Rattle.std.specs.Prelude.{ℕ, List, [], map, Option, Some, None}
use Rattle.ped_tree.specs.Views.{expr_tree, pack_exprs, cond_tree, program_tree}
use Rattle.ped_tree.specs.Grammar.StatementViews.{statement_of}
use Rattle.ped_tree.specs.Grammar.ItemViews.{reading_of}
use Rattle.ped_tree.specs.Grammar.RefusalViews.{kind_of}
use Rattle.ped_units.specs.Forms as forms
use Rattle.ped_units.specs.Units as units
use Rattle.ped_units.specs.Reading as reading
use Rattle.ped_units.specs.Linking as linking
use Rattle.ped_units.specs.Verdicts as verdicts
use Rattle.ped_units.specs.declared.items.Called.{Called}
use Rattle.ped_units.specs.declared.items.UnitItem.{UnitItem}
use Rattle.ped_units.specs.declared.items.UnitItem.TheVariants as item
use Rattle.ped_units.specs.declared.items.UnitEntry.{UnitEntry}
use Rattle.ped_units.specs.declared.segments.Segment.{Segment}
use Rattle.ped_units.specs.declared.units.ProgramUnit.{ProgramUnit}
use Rattle.ped_units.specs.declared.refusals.UnitRule.{UnitRule}
use Rattle.ped_units.specs.declared.refusals.UnitRule.TheVariants as rule
use Rattle.ped_units.specs.declared.refusals.UnitFinding.{UnitFinding}
use Rattle.ped_units.specs.declared.refusals.UnitRefusal.{UnitRefusal}
use Rattle.ped_units.specs.declared.refusals.UnitRefusal.TheVariants as refusal

-- a CALL
abbrev pub called_of : Called → forms.Called
called_of c = record { name = c.name; arguments = pack_exprs (map expr_tree c.arguments.items) }

-- what a statement is
abbrev pub unit_item_of : UnitItem → forms.UnitItem
unit_item_of (item.Plain r) = forms.plain (reading_of r)
unit_item_of (item.Call c) = forms.calls (called_of c)
unit_item_of (item.LogicalIfCall e c) = forms.calls_if (cond_tree e) (called_of c)
unit_item_of (item.Subroutine x formals) = forms.begins_unit x formals
unit_item_of item.Return = forms.returns

-- a statement with what it is
abbrev pub unit_entry_of : UnitEntry → reading.UnitEntry
unit_entry_of e = record { statement = statement_of e.statement; item = unit_item_of e.item }

-- a statement with what it is, where there is one
abbrev pub head_of : Option UnitEntry → Option reading.UnitEntry
head_of None = None
head_of (Some e) = Some (unit_entry_of e)

-- the statements of a unit
abbrev pub segment_of : Segment → reading.Segment
segment_of s = record { head = head_of s.head; entries = map unit_entry_of s.entries.items }

-- a name, none that of a main program
abbrev pub name_or_none : Option (List ℕ) → List ℕ
name_or_none None = []
name_or_none (Some x) = x

-- a program unit
abbrev pub program_unit_of : ProgramUnit → units.ProgramUnit
program_unit_of u = record {
  name = name_or_none u.name;
  formals = u.formals;
  line = u.line;
  tree = program_tree u.program;
  lines = u.program.lines.items;
}

-- a rule
abbrev pub rule_of : UnitRule → verdicts.UnitRule
rule_of (rule.Text kind) = verdicts.of_text (kind_of kind)
rule_of rule.NoUnit = verdicts.of_links linking.NoUnit
rule_of rule.Recursion = verdicts.of_links linking.Recursion
rule_of rule.Arguments = verdicts.of_links linking.Arguments
rule_of rule.Aliased = verdicts.of_links linking.Aliased
rule_of rule.CallPlace = verdicts.of_links linking.CallPlace

-- a rule that is broken at a line
abbrev pub unit_finding_of : UnitFinding → verdicts.UnitFinding
unit_finding_of f = record { rule = rule_of f.rule; line = f.line }

-- the file's first refusal, or out of memory
abbrev pub IsUnitRefusalOf : List ℕ → UnitRefusal → Type 0
IsUnitRefusalOf text refusal.NoMemory = Unit {0}
IsUnitRefusalOf text (refusal.At f) = verdicts.RefusesUnits text (unit_finding_of f)
