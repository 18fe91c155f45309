use Rattle.std.proofs.Common.{rules, ◌≡◌, [], List, refl, sym, subst, arith}
use Rattle.std.proofs.lemmas.List.{nil_from_length}
use Rattle.std.specs.Vec.Iter.{into_iter_items}
use Rattle.ped_units.specs.Seeing.{AreReadUnits, AreBuiltOf}
use Rattle.ped_units.specs.declared.reading.ReadUnit.{ReadUnit}
use Rattle.ped_units.specs.declared.units.ProgramUnit.{ProgramUnit}
use Rattle.ped_units.proofs.BuiltUnits.{built_more, all_built}
use Rattle.ped_units.proofs.reading.built.Goals as goal

pub loop-unit-init : goal.loop-unit-init
loop-unit-init c all ss read =
    let whole : into_iter_items c.into_iter-unit-iterator.result ≡ c.args.units.items = search rules in
    record {
      done = [];
      rest = ss;
      are = subst (λ (us : List ProgramUnit). AreBuiltOf [] us) (sym c.new-built.ensures.items) tt;
      read = subst (λ (us : List ReadUnit). AreReadUnits all ss us) (sym whole) read;
      both = refl;
    }

pub loop-unit-preserved : goal.loop-unit-preserved
loop-unit-preserved c all ss read =
    built_more all ss c.loop-unit.built.items c.push.new.self.items (into_iter_items c.loop-unit.unit-iterator) (into_iter_items c.next.new.self) c.in-Some.unit c.in_ok-build.field-0 (c.loop-unit.invariant all ss read) c.in-Some.ensures.steps.0 c.in_ok-push.ensures.items
    (λ ending s h. c.in_ok-build.ensures ending s h)

pub returns : goal.returns
returns c all ss read =
    let at = c.loop-unit in
    let none : into_iter_items at.unit-iterator ≡ [] = nil_from_length _ (omega (arith, c.in-None.ensures.steps.0, at.unit-iterator.rest.ok.0)) in
    all_built all ss at.built.items (into_iter_items at.unit-iterator) (at.invariant all ss read) none
