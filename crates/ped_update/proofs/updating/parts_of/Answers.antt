use Rattle.std.proofs.Common.{◌<◌, ◌^◌, ◌∙◌, List, [], map, length, Some, All, ap, subst, sym}
use Rattle.ped_tree.specs.Views.{program_tree, stmt_trees}
use Rattle.ped_tree.specs.Numbering.{statements_count, statement_count, all_numbered}
use Rattle.ped_tree.specs.NamesIn.{all_loop_variables}
use Rattle.ped_tree.specs.Names.Collecting.{with_names}
use Rattle.ped_tree.specs.declared.statements.Stmt.{Stmt}
use Rattle.ped_refs.specs.References.{pairs}
use Rattle.ped_refs.specs.Occurrences.{reference_of, references_of, pair_at, IsWithin}
use Rattle.ped_refs.specs.declared.occurring.Occurrence.{Occurrence}
use Rattle.ped_refs.specs.declared.pairing.Pair.{Pair}
use Rattle.ped_graph.specs.Guards.{guards}
use Rattle.ped_graph.specs.KnownProgram.{own_of, trees_of}
use Rattle.ped_graph.proofs.Known.{few_statements, few_references, shallow_found}
use Rattle.ped_update.proofs.updating.parts_of.Goals as goal

pub occurrences-requires-clause-statements : goal.occurrences-requires-clause-statements
occurrences-requires-clause-statements g c = few_statements (program_tree c.args.program.now) c.requires.valid

pub occurrences-requires-clause-references : goal.occurrences-requires-clause-references
occurrences-requires-clause-references g c = few_references (program_tree c.args.program.now) c.requires.valid

pub extents-requires : goal.extents-requires
extents-requires g c = subst (λ (body : List Stmt). statements_count (stmt_trees body) < 2 ^ 32) (sym c.deref.ensures.value) (few_statements (program_tree c.args.program.now) c.requires.valid)

pub all_own_facts-requires : goal.all_own_facts-requires
all_own_facts-requires g c = shallow_found (program_tree c.args.program.now) c.deref-3.result.now c.requires.valid (ap references_of c.deref-3.ensures.value ∙ c.in_ok-found.ensures)

pub matched-requires-clause-known : goal.matched-requires-clause-known
matched-requires-clause-known g c =
    let t = program_tree c.args.program.now in
    let found = c.deref-3.ensures.value ∙ sym c.deref-6.ensures.value in
    record {
      constants = c.requires.constants;
      loop_variables = c.in_ok-loop_variables.ensures ∙ ap (λ (body : List Stmt). with_names [] (all_loop_variables (stmt_trees body))) c.deref-5.ensures.value;
      statements = ap trees_of c.deref-8.ensures.value ∙ c.in_ok-statements.ensures ∙ ap (λ (body : List Stmt). all_numbered (stmt_trees body)) c.deref-4.ensures.value;
      own = c.deref-7.ensures.value ∙ c.in_ok-own.ensures ∙ ap (λ (os : List Occurrence). map (λ (o : Occurrence). own_of c.args.consts.now (guards t) (reference_of o)) os) found;
      shallow = shallow_found t c.deref-6.result.now c.requires.valid (ap references_of c.deref-6.ensures.value ∙ c.in_ok-found.ensures);
    }

pub matched-requires-clause-within : goal.matched-requires-clause-within
matched-requires-clause-within g c =
    let found = c.deref-2.ensures.value ∙ sym c.deref-6.ensures.value in
    subst (λ (listed : List Pair). All (IsWithin (length c.deref-6.result.now)) listed) (sym c.deref-9.ensures.value)
    (subst (λ (os : List Occurrence). All (IsWithin (length os)) c.in_ok-listed.listed.items) found c.in_ok-listed.ensures.within)

pub matched-requires-clause-listed : goal.matched-requires-clause-listed
matched-requires-clause-listed g c =
    let there = c.deref-2.ensures.value in
    ap (λ (listed : List Pair). map (pair_at (references_of c.deref-6.result.now)) listed) c.deref-9.ensures.value
    ∙ ap (λ (os : List Occurrence). map (pair_at (references_of os)) c.in_ok-listed.listed.items) (c.deref-6.ensures.value ∙ sym there)
    ∙ c.in_ok-listed.ensures.pairs ∙ ap (λ (os : List Occurrence). map Some (pairs (references_of os))) there ∙ ap (λ (rs : _). map Some (pairs rs)) c.in_ok-found.ensures

pub matched-requires-clause-found : goal.matched-requires-clause-found
matched-requires-clause-found g c = ap references_of c.deref-6.ensures.value ∙ c.in_ok-found.ensures

pub matched-requires-clause-extents : goal.matched-requires-clause-extents
matched-requires-clause-extents g c = c.in_ok-extents.ensures ∙ ap (λ (body : List Stmt). map statement_count (all_numbered (stmt_trees body))) c.deref.ensures.value
