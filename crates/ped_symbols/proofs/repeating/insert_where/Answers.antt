use Rattle.std.proofs.Common.{Bool, [], ◌∷◌, ◌++◌, ◌∙◌, ap, sym, if◌then◌else◌}
use Rattle.std.proofs.lemmas.Result.{on_ok_weaker}
use Rattle.ped_base.specs.Lists.{is_among}
use Rattle.ped_symbols.proofs.Lookups.{added_alike}
use Rattle.ped_symbols.proofs.repeating.insert_where.Goals as goal

pub returns-then-wanted : goal.returns-then-wanted
returns-then-wanted c = on_ok_weaker c.insert.result (λ e before h x. ap (is_among x) e ∙ added_alike c.args.names.now before c.args.name.now h x ∙ ap (λ (r : Bool). is_among x (before ++ (if r then c.args.name.now ∷ [] else []))) (sym c.if-wanted.true)) c.insert.ensures.ok
