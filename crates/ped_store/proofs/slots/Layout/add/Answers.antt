use Rattle.std.proofs.Common.{◌≡◌, ℕ, ◌+◌, List, Some, if◌then◌else◌, refl, sym, ap, subst, ◌∙◌, arith}
use Rattle.std.specs.Prelude.{is_some}
use Rattle.std.specs.Map.{lookup}
use Rattle.ped_store.specs.Slots.{slot_count, IsLaid}
use Rattle.ped_base.proofs.NameEquality.{looked_up}
use Rattle.indexmap.proofs.CallerLemmas.{insert_entry-new}
use Rattle.ped_base.specs.contracts.identifiers.NamePartialEq.TheImpl as code
use Rattle.ped_store.specs.declared.slots.Slot.{Slot}
use Rattle.ped_base.proofs.NameEquality.{name_same}
use Rattle.ped_store.proofs.Layouts.{added_bounds, known_bounds, laid_more, nothing_there}
use Rattle.ped_store.proofs.slots.Layout.add.Goals as goal

pub returns-then-contains_key-clause-first : goal.returns-then-contains_key-clause-first
returns-then-contains_key-clause-first c =
    let entries = c.args.self.now.slots.entries in
    known_bounds entries c.args.shape.now.name c.args.shape.now.bounds (ap is_some (sym (looked_up c.args.shape.now.name entries)) ∙ sym c.contains_key.ensures ∙ c.if-contains_key.true)

pub returns-clause-laid : goal.returns-clause-laid
returns-clause-laid c =
    let slots = c.args.self.now.slots in
    let slot : Slot = record { bounds = c.args.shape.now.bounds; start = c.args.self.now.cells } in
    let none = nothing_there (lookup ((code.eq-value).it c.args.shape.now.name) slots.entries) (sym c.contains_key.ensures ∙ c.if-contains_key.false) in
    let placed = c.in_ok-insert.ensures.entries ∙ insert_entry-new (code.eq-value).it slots c.args.shape.now.name slot none in
    let end : c.args.self.now.cells + slot_count slot ≡ c.saturating_add-cells.result = omega (arith, c.saturating_add-cells.ensures, c.cell_count.ensures.count, c.if-cells.false) in
    subst (λ (n : ℕ). IsLaid 0 c.insert.new.self.entries n) end
    (subst (λ (es : List (List ℕ × Slot)). IsLaid 0 es (c.args.self.now.cells + slot_count slot)) (sym placed) (laid_more slots.entries 0 c.args.self.now.cells c.args.shape.now.name slot c.requires refl))

pub returns-clause-first : goal.returns-clause-first
returns-clause-first c =
    let entries = c.args.self.now.slots.entries in
    let name = c.args.shape.now.name in
    let slot : Slot = record { bounds = c.args.shape.now.bounds; start = c.args.self.now.cells } in
    added_bounds entries c.insert.new.self.entries name slot
    (ap is_some (sym (looked_up name entries)) ∙ sym c.contains_key.ensures ∙ c.if-contains_key.false)
    (λ x. sym (looked_up x c.insert.new.self.entries) ∙ c.in_ok-insert.ensures.updates.0 x ∙ (λ i. if name_same name x i then Some slot else looked_up x entries i))
