use Rattle.std.proofs.Common.{◌++◌, sym, ap, ◌∙◌}
use Rattle.std.proofs.lemmas.Result.{on_ok_weaker}
use Rattle.ped_base.specs.Lists.{is_among}
use Rattle.ped_tree.specs.Views.{decl_tree}
use Rattle.ped_symbols.specs.Declarations.{program_name}
use Rattle.ped_symbols.proofs.Lookups.{added_alike}
use Rattle.ped_symbols.proofs.declared.add_program_name.Goals as goal

pub returns-in-Program : goal.returns-in-Program
returns-in-Program c =
    on_ok_weaker c.insert.result
    (λ e before h x. ap (is_among x) e ∙ added_alike c.args.names.now before c.in-Program.name h x ∙ ap (λ d. is_among x (before ++ program_name (decl_tree d))) (sym c.in-Program.is))
    c.insert.ensures.ok
