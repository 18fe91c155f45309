use Rattle.std.proofs.Common.{◌≡◌, ℕ, ◌^◌, ◌∙◌, List, ap, sym, subst, length, arith, rules}
use Rattle.std.proofs.lemmas.Grind.{common_steps}
use Rattle.ped_views.specs.Views.{View}
use Rattle.ped_verdict.specs.declared.sights.Sight.{Sight}
use Rattle.ped_verdict.specs.Marked.{SingleExcludes}
use Rattle.ped_verdict.specs.Sights.{AreSights}
use Rattle.ped_verdict.proofs.Added.{excluded_none, excluded_more}
use Rattle.ped_verdict.proofs.Answering.{few}
use Rattle.ped_verdict.proofs.Asked.{no_sights, excluded_all}
use Rattle.ped_verdict.proofs.refining.excluded_vectors.Goals as goal

pub loop-position-init : goal.loop-position-init
loop-position-init c =
    let loops = ap (λ (v : View). length v.loops) c.view.view_is in
    let n : c.len.result ≡ length c.args.view.now.loops = grind (arith, common_steps) in
    record {
      excluded = excluded_none c.args.view.now (SingleExcludes c.args.view.now) c.vector_count.result c.in_ok-excluded.excluded (c.vector_count.ensures ∙ ap (λ k. 3 ^ k) n) c.in_ok-excluded.ensures;
      sights = no_sights c.args.view.now _ (search rules);
    }

pub loop-position-preserved : goal.loop-position-preserved
loop-position-preserved c =
    let positions = ap (λ (v : View). length v.positions) c.view.view_is in
    let n : c.len-position-end.result ≡ length c.args.view.now.positions = grind (arith, common_steps) in
    let t = c.loop-position-test.true in
    record {
      excluded = excluded_more c.args.view.now c.loop-position.position c.loop-position.excluded c.exclude_by.new.excluded (omega arith) c.loop-position.invariant.excluded c.in_ok-exclude_by.ensures.marks;
      sights = c.in_ok-exclude_by.ensures.sights c.loop-position.invariant.sights;
    }

pub exclude_others-requires-clause-few : goal.exclude_others-requires-clause-few
exclude_others-requires-clause-few c = few _ c.args.view.now c.view.view_is c.view.invariant

pub exclude_others-requires-clause-sights : goal.exclude_others-requires-clause-sights
exclude_others-requires-clause-sights c =
    let positions = ap (λ (v : View). length v.positions) c.view.view_is in
    let n : c.len-position-end.result ≡ length c.args.view.now.positions = grind (arith, common_steps) in
    let past = c.loop-position-test.false in
    let within = c.loop-position.auto.position-end in
    let e : c.loop-position.position ≡ length c.args.view.now.positions = omega arith in
    subst (λ (xs : List Sight). AreSights c.args.view.now (length c.args.view.now.positions) xs) (sym c.deref.ensures.value)
    (subst (λ (k : ℕ). AreSights c.args.view.now k c.loop-position.sights.items) e c.loop-position.invariant.sights)

pub exclude_others-requires-clause-wide : goal.exclude_others-requires-clause-wide
exclude_others-requires-clause-wide c = c.loop-position.invariant.excluded.wide

pub returns : goal.returns
returns c =
    let positions = ap (λ (v : View). length v.positions) c.view.view_is in
    let n : c.len-position-end.result ≡ length c.args.view.now.positions = grind (arith, common_steps) in
    let t = c.loop-position-test.false in
    excluded_all c.args.view.now c.loop-position.position c.loop-position.excluded c.exclude_others.new.excluded (omega arith) c.loop-position.invariant.excluded c.exclude_others.ensures
