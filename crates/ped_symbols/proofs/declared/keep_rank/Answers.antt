use Rattle.std.proofs.Common.{◌++◌, sym, ap, ◌∙◌}
use Rattle.std.proofs.lemmas.Result.{on_ok_weaker}
use Rattle.ped_symbols.specs.Entries.{entry_of}
use Rattle.ped_symbols.specs.Declarations.{rank_by}
use Rattle.ped_symbols.proofs.Lookups.{kept_alike}
use Rattle.ped_symbols.proofs.declared.keep_rank.Goals as goal

pub returns-in-Dimensioned : goal.returns-in-Dimensioned
returns-in-Dimensioned c =
    let name = c.args.name.now in
    on_ok_weaker c.keep.result
    (λ e before h x. ap (λ es. entry_of es x) e ∙ kept_alike c.args.ranks.now.entries.entries before name c.in-Dimensioned.count h x ∙ ap (λ role. entry_of (before ++ rank_by name role) x) (sym c.in-Dimensioned.is))
    c.keep.ensures.ok
