use Rattle.ped_store.specs.Keeping.{memory_of}
use Rattle.ped_eval.specs.ScopeViews.{names_at}
use Rattle.ped_eval.specs.Values.{value}
use Rattle.ped_tree.specs.Views.{head_of}
use Rattle.ped_eval.proofs.Notings.{next_noted, fault_noted}
use Rattle.ped_eval.proofs.Storing.{limits_noted}
use Rattle.ped_eval.proofs.plans.limits_of.Goals as goal

pub returns-in-Ok-limit_of-clause-noted : goal.returns-in-Ok-limit_of-clause-noted
returns-in-Ok-limit_of-clause-noted c =
    let m = memory_of c.args.state.now.store in
    let g = names_at m c.args.state.now.scope c.args.symbols.now.constants in
    let h = head_of c.args.d.now in
    limits_noted g h m.cells c.args.notes.now c.limit_of.new.notes c.limit_of-in-Ok.new.notes c.limit_of.result c.limit_of.ensures.value c.limit_of.ensures.noted
    (next_noted c.limit_of.new.notes c.limit_of-in-Ok.new.notes c.limit_of.result c.in-Ok.first (value g h.last m.cells).seen c.in-Ok.is c.limit_of-in-Ok.ensures.noted)

pub returns-in-Err-limit_of-clause-noted : goal.returns-in-Err-limit_of-clause-noted
returns-in-Err-limit_of-clause-noted c =
    let m = memory_of c.args.state.now.store in
    let g = names_at m c.args.state.now.scope c.args.symbols.now.constants in
    let h = head_of c.args.d.now in
    limits_noted g h m.cells c.args.notes.now c.limit_of.new.notes c.limit_of-in-Ok.new.notes c.limit_of.result c.limit_of.ensures.value c.limit_of.ensures.noted
    (next_noted c.limit_of.new.notes c.limit_of-in-Ok.new.notes c.limit_of.result c.in-Ok.first (value g h.last m.cells).seen c.in-Ok.is c.limit_of-in-Ok.ensures.noted)

pub returns-in-Err-clause-noted : goal.returns-in-Err-clause-noted
returns-in-Err-clause-noted c =
    let m = memory_of c.args.state.now.store in
    let g = names_at m c.args.state.now.scope c.args.symbols.now.constants in
    let h = head_of c.args.d.now in
    limits_noted g h m.cells c.args.notes.now c.limit_of.new.notes c.limit_of.new.notes c.limit_of.result c.limit_of.ensures.value c.limit_of.ensures.noted
    (fault_noted c.limit_of.new.notes c.limit_of.result c.in-Err.fault (value g h.last m.cells).seen c.in-Err.is)
