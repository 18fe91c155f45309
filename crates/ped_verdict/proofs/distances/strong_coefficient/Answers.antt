use Rattle.std.proofs.Common.{rules, ap, sym, ◌∙◌, ℕ, FitsSigned, w64}
use Rattle.std.proofs.lemmas.Int.{to_z-of_z}
use Rattle.ped_views.specs.Views.{SubscriptPair}
use Rattle.ped_views.specs.Forms.{strong_siv}
use Rattle.ped_verdict.proofs.distances.strong_coefficient.Goals as goal

pub returns-then-one-place : goal.returns-then-one-place
returns-then-one-place c =
    let one = c.in-Strong.one in
    let f : FitsSigned w64 one.at_source = search rules in
    simp to_z-of_z (record {
      usable = sym (ap (λ (p : SubscriptPair). p.usable) c.position.view_is) ∙ c.if-not-position.false;
      at_sink = one.at_sink;
      form = sym c.in-Strong.ensures.form ∙ ap (λ (k : ℕ). strong_siv (record { place = k; at_source = one.at_source; at_sink = one.at_sink })) c.if-one-place.true;
      some = c.in-Strong.ensures.sound.1;
    })
