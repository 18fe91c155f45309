use Rattle.std.proofs.Common.{◌++◌, map, ap, ◌∙◌}
use Rattle.ped_tree.specs.Views.{stmt_trees}
use Rattle.ped_symbols.specs.Sites.{stmts_sites}
use Rattle.ped_symbols.specs.Kinds.{names_at}
use Rattle.ped_symbols.specs.Passes.{with_kinds}
use Rattle.ped_symbols.specs.Passed.{kind_held}
use Rattle.ped_symbols.proofs.symbols.in_body.Goals as goal

pub returns : goal.returns
returns c =
    let names = map (λ u. u.name) c.args.uses.now ++ names_at (stmts_sites (stmt_trees c.args.body.now)) in
    record {
      refusal = λ d k refs b v u. c.in_ok-first.ensures.refusal d k refs b (record { values = v; until = u });
      names = c.in_ok-first.ensures.names ∙ ap (λ es. with_kinds (kind_held c.args.held.now) es names) c.new-kinds.ensures;
    }
