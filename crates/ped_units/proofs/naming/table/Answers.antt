use Rattle.std.proofs.Common.{◌<◌, ◌^◌, length, sym, subst}
use Rattle.ped_tree.specs.Tree.{ProgramTree}
use Rattle.ped_tree.specs.Numbering.{statements_count}
use Rattle.ped_valid.specs.ped_symbols.specs.ped_refs.specs.References.{references}
use Rattle.ped_units.proofs.naming.table.Goals as goal

pub symbols_of-requires : goal.symbols_of-requires
symbols_of-requires c =
    let is = sym c.in_ok-program.ensures.tree in
    record {
      statements = subst (λ (t : ProgramTree). statements_count t.body < 2 ^ 32) is c.requires.statements;
      references = subst (λ (t : ProgramTree). length (references t) < 2 ^ 32) is c.requires.references;
    }
