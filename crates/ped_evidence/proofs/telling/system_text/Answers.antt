use Rattle.std.proofs.Common.{◌∙◌, ap, List, []}
use Rattle.ped_tree.specs.Views.{program_tree, stmt_trees}
use Rattle.ped_tree.specs.NamesIn.{all_loop_variables}
use Rattle.ped_tree.specs.Names.Collecting.{with_names}
use Rattle.ped_tree.specs.declared.statements.Stmt.{Stmt}
use Rattle.ped_refs.specs.Occurrences.{references_of}
use Rattle.ped_evidence.proofs.JudgedLines.{statements_few, references_few, shallow_found}
use Rattle.ped_evidence.proofs.telling.system_text.Goals as goal

pub occurrences-requires-clause-statements : goal.occurrences-requires-clause-statements
occurrences-requires-clause-statements c = let t = program_tree c.args.program.now in statements_few t (c.small_where_it_fits.ensures t c.requires.valid.fits)

pub occurrences-requires-clause-references : goal.occurrences-requires-clause-references
occurrences-requires-clause-references c = let t = program_tree c.args.program.now in references_few t (c.small_where_it_fits.ensures t c.requires.valid.fits)

pub text_in-requires : goal.text_in-requires
text_in-requires c =
    let t = program_tree c.args.program.now in
    let found = ap references_of c.deref-2.ensures.value ∙ c.in_ok-found.ensures in
    record {
      constants = c.consts.ensures ∙ (λ i. (c.requires.symbols i).constants);
      loop_variables = c.in_ok-loop_variables.ensures ∙ ap (λ (body : List Stmt). with_names [] (all_loop_variables (stmt_trees body))) c.deref.ensures.value;
      found = found;
      shallow = shallow_found t c.deref-2.result.now (c.small_where_it_fits.ensures t c.requires.valid.fits) found;
    }
