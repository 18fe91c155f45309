-- A program that is read is what its printed text says.
use Rattle.std.proofs.Common.{◌≡◌, ℕ, List, None}
use Rattle.std.specs.Prelude.{Result, Ok, Err, IfOk}
use Rattle.ped_tree.specs.Views.{program_tree}
use Rattle.ped_tree.specs.declared.declarations.Program.{Program}
use Rattle.ped_tree.specs.Grammar.Grouping.{statements_of}
use Rattle.ped_tree.specs.Grammar.LineRefusals.{first_line_refusal}
use Rattle.ped_tree.specs.Grammar.Reading.{Reads}
use Rattle.ped_tree.specs.Grammar.StatementViews.{statements_view}
use Rattle.ped_tree.specs.declared.grammar.statements.Statements.{Statements}
use Rattle.ped_printed.specs.Programs.PrintedPrograms.{PrintsItself}
use Rattle.ped_printed.proofs.ProgramLaws.PrintedProgram.{prints_itself}
use Rattle.ped_parse.specs.declared.refusals.ReadRefusal.{ReadRefusal}

pub printed_here : (r : Result Program ReadRefusal) (cut : Statements) (text : List ℕ)
    → IfOk r (λ p. (t : List ℕ) → first_line_refusal t ≡ None → statements_view cut ≡ statements_of t → Reads t (program_tree p))
    → first_line_refusal text ≡ None → statements_view cut ≡ statements_of text → IfOk r (λ p. PrintsItself (program_tree p))
printed_here (Ok p) cut text h none same = prints_itself text (program_tree p) (h text none same)
printed_here (Err e) cut text h none same = h
