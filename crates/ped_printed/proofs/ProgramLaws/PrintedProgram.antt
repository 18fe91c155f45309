-- A tree fits exactly where some text reads as it, and then it is what its printed text says.
use Rattle.std.proofs.Common.{◌≡◌, ℕ, List, true, sym, subst}
use Rattle.std.specs.Prelude.{◌↔◌}
use Rattle.ped_lines.specs.ped_tree.specs.Tree.{ProgramTree}
use Rattle.ped_lines.specs.ped_tree.specs.Printing.{program_text}
use Rattle.ped_lines.specs.ped_tree.specs.Grammar.Reading.{Reads}
use Rattle.ped_lines.specs.ped_tree.specs.Grammar.Fits.{fits}
use Rattle.ped_statements.proofs.OneStatement.{one_item}
use Rattle.ped_blocks.proofs.BlocksOneTree.{read_once}
use Rattle.ped_printed.specs.Programs.PrintedPrograms.{PrintsItself, IsRead}
use Rattle.ped_printed.proofs.ProgramLaws.Sources.{statements_sourced}
use Rattle.ped_printed.proofs.ProgramLaws.FitDeclsWhole.{program_fits}
use Rattle.ped_printed.proofs.ProgramLaws.RoundTrip.{reads_again}

pub read_fits : (text : List ℕ) (t : ProgramTree) → Reads text t → fits t ≡ true
read_fits text t r = program_fits text t r (statements_sourced text r.cut.accepted)

pub fits_where_read : (t : ProgramTree) → (fits t ≡ true) ↔ IsRead t
fits_where_read t = (λ h. (program_text t, reads_again t h), λ r. read_fits r.0 t r.1)

pub fitting_prints : (t : ProgramTree) → fits t ≡ true → PrintsItself t
fitting_prints t h =
    let again = reads_again t h in
    λ u. (λ r. read_once one_item (program_text t) u t r again, λ e. subst (λ (v : ProgramTree). Reads (program_text t) v) (sym e) again)

pub prints_itself : (text : List ℕ) (t : ProgramTree) → Reads text t → PrintsItself t
prints_itself text t r = fitting_prints t (read_fits text t r)
