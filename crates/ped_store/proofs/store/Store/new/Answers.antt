use Rattle.std.specs.Str.Lines.{lines}
use Rattle.std.proofs.Common.{◌∙◌}
use Rattle.ped_store.specs.Keeping.{memory_of}
use Rattle.ped_store.proofs.Starts.{start_is}
use Rattle.ped_store.proofs.store.Store.new.Goals as goal

pub returns : goal.returns
returns c =
    let layout = c.in_ok-slots.field-0 in
    (λ z. memory_of (record { slots = layout.slots.entries; held = c.in_ok-undefined_cells.ensures z; copies = c.new.ensures.empty z; input = c.in_ok-new.ensures z; output = c.new-3.ensures z }))
    ∙ start_is c.args.shapes.now (lines c.args.input.now) layout.cells layout.slots.entries c.in_ok-slots.ensures.first
