use Rattle.std.proofs.Common.{ℕ, List, Bool, ◌<◌, length, slice_index_or, false, sym, ap, subst, ◌∙◌, true}
use Rattle.std.proofs.lemmas.List.{take_all, length-set}
use Rattle.ped_refs.specs.Occurrences.{references_of}
use Rattle.ped_refs.specs.declared.occurring.Occurrence.{Occurrence}
use Rattle.ped_splits.specs.CodeUnits.{refers_by}
use Rattle.ped_splits.proofs.ReferenceRows.{other_name, no_home, with_unit, home_below}
use Rattle.ped_splits.proofs.arrows.units_with.Goals as goal
use Rattle.ped_splits.proofs.arrows.units_with.Goals.{then-is_named+in-Some, then-is_named+in_default, else-is_named}

pub loop-occurrence-preserved : goal.loop-occurrence-preserved
loop-occurrence-preserved c =
    let s = c.args.parted.now.number in
    let homes = c.args.parted.now.homes.now in
    let x = c.args.name.now in
    let os = c.args.found.now in
    let k = c.loop-occurrence.occurrence-index in
    let o = c.occurrence-item.result in
    let row = c.loop-occurrence.units in
    elim c.if-is_named.branch [
      | then-is_named+in-Some w ↦
          let home = sym w.home_at.ensures ∙ w.in-Some.is in
          let inside = subst (λ (n : ℕ). w.in-Some.unit < n) (sym c.loop-occurrence.invariant.0) (home_below s homes o.statement c.args.width w.in-Some.unit c.requires home) in (
            ap (λ (r : List Bool). length r) (w.units-is ∙ w.set.ensures) ∙ length-set row w.in-Some.unit true ∙ c.loop-occurrence.invariant.0,
            λ i. ap (λ (r : List Bool). slice_index_or r i false) (w.units-is ∙ w.set.ensures)
                ∙ with_unit s homes x os k o c.loop-occurrence-test.true c.occurrence-item.is row c.loop-occurrence.invariant.1 w.in-Some.unit (sym c.is_named.ensures ∙ w.if-is_named.true) home inside i,
          )
      | then-is_named+in_default w ↦ (
        ap (λ (r : List Bool). length r) w.units-is ∙ c.loop-occurrence.invariant.0,
        λ i. ap (λ (r : List Bool). slice_index_or r i false) w.units-is ∙ no_home s homes x os k o c.loop-occurrence-test.true c.occurrence-item.is row c.loop-occurrence.invariant.1 (sym w.home_at.ensures ∙ w.in_default.is) i,
      )
      | else-is_named w ↦ (
        ap (λ (r : List Bool). length r) w.units-is ∙ c.loop-occurrence.invariant.0,
        λ i. ap (λ (r : List Bool). slice_index_or r i false) w.units-is ∙ other_name s homes x os k o c.loop-occurrence-test.true c.occurrence-item.is row c.loop-occurrence.invariant.1 (sym c.is_named.ensures ∙ w.if-is_named.false) i,
      )
    ]

pub returns-clause-units : goal.returns-clause-units
returns-clause-units c = λ i. c.loop-occurrence.invariant.1 i
    ∙ ap (λ (os : List Occurrence). refers_by c.args.parted.now.number c.args.parted.now.homes.now (references_of os) c.args.name.now i) (take_all c.loop-occurrence.occurrence-index c.args.found.now c.loop-occurrence-test.false)
