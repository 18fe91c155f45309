use Rattle.std.proofs.Common.{sym, ap, ◌∙◌}
use Rattle.std.proofs.lemmas.Result.{IfOk-weaker}
use Rattle.ped_store.specs.DataLines.{next_value_of}
use Rattle.ped_store.specs.Keeping.{Kept, memory_of}
use Rattle.ped_store.proofs.Readings.{with_data_is}
use Rattle.ped_store.proofs.store.Store.next_value.Goals as goal

pub returns-clause-ok : goal.returns-clause-ok
returns-clause-ok c =
    let m = c.args.self.now in
    let d = c.next_value.new.self in
    IfOk-weaker c.next_value.result _ _
    (λ n p. (d, ap (λ (k : Kept). next_value_of k.input) (sym c.self.view_is) ∙ p, ap (λ (k : Kept). memory_of (record k { input = d })) c.self.view_is ∙ with_data_is m d))
    c.next_value.ensures.ok
