use Rattle.std.proofs.Common.{[], map, ap, sym, ◌∙◌, append-nil}
use Rattle.ped_tree.specs.Views.{stmt_trees}
use Rattle.ped_symbols.specs.Sites.{stmts_sites}
use Rattle.ped_symbols.specs.Kinds.{names_at}
use Rattle.ped_symbols.specs.Passes.{kind_with, with_kinds, first_with}
use Rattle.ped_symbols.proofs.Walking.{kinds_append}
use Rattle.ped_symbols.proofs.symbols.with_names.Goals as goal

pub returns-clause-refusal : goal.returns-clause-refusal
returns-clause-refusal c =
    let sites = stmts_sites (stmt_trees c.args.body.now) in
    λ d k refs b s. c.in_ok-found.ensures.refusal d k refs b s [] ∙ ap (first_with d refs b c.args.found) (append-nil sites)

pub returns-clause-names : goal.returns-clause-names
returns-clause-names c =
    let sites = stmts_sites (stmt_trees c.args.body.now) in
    let kind = kind_with c.args.known.now in
    let names = map (λ u. u.name) c.args.uses.now in
    c.in_ok-found.ensures.names [] ∙ ap (λ s. with_kinds kind c.keep_kinds.new.kinds.entries.entries (names_at s)) (append-nil sites)
    ∙ ap (λ es. with_kinds kind es (names_at sites)) c.in_ok-keep_kinds.ensures
    ∙ sym (kinds_append kind c.args.kinds.now.entries.entries names (names_at sites))
