use Rattle.std.proofs.Common.{sym, ap, ◌∙◌}
use Rattle.std.proofs.lemmas.Result.{on_ok_weaker}
use Rattle.ped_store.specs.DataLines.{begun}
use Rattle.ped_store.specs.Keeping.{Kept, memory_of}
use Rattle.ped_store.proofs.Readings.{with_data_is}
use Rattle.ped_store.proofs.store.Store.next_line.Goals as goal

pub returns-clause-ok : goal.returns-clause-ok
returns-clause-ok c =
    let m = c.args.self.now in
    let d = c.next_line.new.self in
    on_ok_weaker c.next_line.result
    (λ p. (d, ap (λ (k : Kept). begun k.input.lines) (sym c.self.view_is) ∙ p, ap (λ (k : Kept). memory_of (record k { input = d })) c.self.view_is ∙ with_data_is m d))
    c.next_line.ensures.ok
