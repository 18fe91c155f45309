-- A program that fits is read from its printed text.
use Rattle.std.proofs.Common.{◌≡◌, ◌+◌, true, List, [], ◌∷◌, map, None, refl, sym, ap, ◌∙◌, subst}
use Rattle.std.specs.List.{AllByRecursion}
use Rattle.std.proofs.lemmas.Bool.{and_parts}
use Rattle.ped_lines.specs.ped_tree.specs.Tree.{StmtTree, StmtTrees, Assign, If, Do, Print, Read, Stop, Comment, no_stmts, more_stmts, ProgramTree}
use Rattle.ped_lines.specs.ped_tree.specs.Numbering.{statement_count, statements_count}
use Rattle.ped_lines.specs.ped_tree.specs.Printing.{program_text}
use Rattle.ped_lines.specs.ped_tree.specs.Grammar.Statement.{Statement, Statements}
use Rattle.ped_lines.specs.ped_tree.specs.Grammar.Grouping.{statements_of}
use Rattle.ped_lines.specs.ped_tree.specs.Grammar.LineRefusals.{first_line_refusal}
use Rattle.ped_lines.specs.ped_tree.specs.Grammar.Items.{Entry}
use Rattle.ped_lines.specs.ped_tree.specs.Grammar.Occurrences.{saved_names}
use Rattle.ped_lines.specs.ped_tree.specs.Grammar.Reading.{AreEntries, Reads}
use Rattle.ped_lines.specs.Printed.Parts.{Part, program_parts, with_notes, printed_statements}
use Rattle.ped_lines.specs.Printed.Fitting.{StatementsFit}
use Rattle.ped_lines.specs.Printed.Cut.{cut, cut_from}
use Rattle.ped_lines.proofs.PrintedLaws.Grouped as Grouped
use Rattle.ped_lines.proofs.PrintedLaws.Grouped.{PartFits}
use Rattle.ped_lines.proofs.PrintedLaws.Whole.{not_refused, are_cut}
use Rattle.ped_lines.proofs.PrintedLaws.Bridge.{printed_program}
use Rattle.ped_printed.proofs.ProgramLaws.Pieces.{Piece, noted, said, program_pieces, program_parts_of, Spot, behind_piece, entries_here, cut_here}
use Rattle.ped_printed.proofs.ProgramLaws.Trees.{Rejecting, AllRejecting}
use Rattle.ped_printed.proofs.ProgramLaws.WholeForm.{start, whole_form, whole_entries, form_entries, form_tree, form_labelled}
use Rattle.ped_lines.specs.ped_tree.specs.Grammar.Fits.{Surroundings, moved, in_if, in_loop, stmt_fits, stmts_fit, decls_fit, begins_with_statement, at_body, fits}
use Rattle.ped_printed.proofs.ProgramLaws.Fits.{if_parts, do_parts}
use Rattle.ped_printed.proofs.ProgramLaws.AcceptedDecls.{whole_accepted}
use Rattle.ped_printed.proofs.ProgramLaws.Good.{AllGood, good_program, parts_fit}

-- rejected names are names

mutual
  rejecting : (p : Surroundings) (s : StmtTree) → stmt_fits p s ≡ true → Rejecting s
  rejecting p (Assign l r) fits = tt
  rejecting p (If c a b) fits = let f = if_parts p c a b fits in (all_rejecting (in_if p 1) a f.then_part, all_rejecting (in_if p (1 + statements_count a)) b f.else_part)
  rejecting p (Do h body) fits = let f = do_parts p h body fits in (f.0.rejected, all_rejecting (in_loop p h) body f.1)
  rejecting p (Print items) fits = tt
  rejecting p (Read items) fits = tt
  rejecting p Stop fits = tt
  rejecting p (Comment text) fits = tt

  all_rejecting : (p : Surroundings) (s : StmtTrees) → stmts_fit p s ≡ true → AllRejecting s
  all_rejecting p no_stmts fits = tt
  all_rejecting p (more_stmts s rest) fits =
      let q = moved p (statement_count s) in
      let f = and_parts (stmt_fits p s) (stmts_fit q rest) fits in
      (rejecting p s f.0, all_rejecting q rest f.1)

-- what the statements among the pieces say is what their texts are
all_read : (p : Spot) (xs : List Piece) → AllGood xs → AreEntries (map (λ (e : Entry). e.statement) (entries_here p xs)) (entries_here p xs)
all_read p [] g = tt
all_read p (noted n ∷ xs) g = all_read (behind_piece p (noted n)) xs g.1
all_read p (said depth text i ∷ xs) g = (refl, g.0.1, all_read (behind_piece p (said depth text i)) xs g.1)

-- the printed text of a program that fits reads as it
pub reads_again : (t : ProgramTree) → fits t ≡ true → Reads (program_text t) t
reads_again t h =
    let begins = and_parts _ (begins_with_statement t.body) h in
    let statements_are = (and_parts (decls_fit 0 t.decls) (stmts_fit (at_body t) t.body) begins.0).1 in
    let ps = printed_statements t in
    let good = good_program t h in
    let parts : AllByRecursion PartFits (program_parts t) = subst (λ (xs : List Part). AllByRecursion PartFits xs) (program_parts_of t) (parts_fit (program_pieces t) good) in
    let fit : StatementsFit ps = Grouped.program_fits t parts in
    let same = printed_program t in
    let accepted : first_line_refusal (program_text t) ≡ None = ap first_line_refusal same ∙ not_refused ps fit in
    let whole : statements_of (program_text t) ≡ cut ps = ap statements_of same ∙ are_cut ps fit in
    let es = whole_entries t in
    let statements : map (λ (e : Entry). e.statement) es ≡ (statements_of (program_text t)).statements =
    cut_here start (program_pieces t) ∙ ap (λ (xs : List Part). cut_from 1 (with_notes [] xs)) (program_parts_of t) ∙ sym (ap (λ (s : Statements). s.statements) whole) in
    let readings : AreEntries (statements_of (program_text t)).statements es = subst (λ (ss : List Statement). AreEntries ss es) statements (all_read start (program_pieces t) good) in
    record {
      entries = es;
      cut = record { accepted = accepted; readings = readings };
      accepted = whole_accepted t (statements_of (program_text t)) h (ap (λ (s : Statements). s.directives) whole);
      form = whole_form t;
      written = form_entries t;
      labelled = form_labelled t;
      nested = form_tree (saved_names es) t (all_rejecting (at_body t) t.body statements_are) begins.1;
    }
