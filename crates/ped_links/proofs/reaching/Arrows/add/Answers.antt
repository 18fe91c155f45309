use Rattle.std.proofs.Common.{◌≡◌, ℕ, List, length, subst, arith}
use Rattle.std.specs.Global.{Vec}
use Rattle.std.specs.Prelude.{OnOk, OnErr}
use Rattle.ped_links.specs.Reaching.{ends_in}
use Rattle.ped_links.proofs.ArrowsAdded.{with_arrow, added_within}
use Rattle.ped_links.proofs.reaching.Arrows.add.Goals as goal

pub invariant_of-self : goal.invariant_of-self
invariant_of-self c =
    let ends = c.args.self.now.ends in
    let now = c.add_end.new.ends in
    let seen = c.deref_mut.ensures.value in
    let long : ends.len ≡ length ends.items = omega (arith, ends.ok.0) in
    record {
      within = added_within c.add_end.result ends.items now ends.len c.args.from c.args.to long c.requires.begins c.requires.ends c.args.self.now.within
          (subst (λ (vs : List (Vec ℕ)). OnOk c.add_end.result (ends_in now ≡ with_arrow (ends_in vs) c.args.from c.args.to)) seen c.add_end.ensures.ok)
          (subst (λ (vs : List (Vec ℕ)). OnErr c.add_end.result (ends_in now ≡ ends_in vs)) seen c.add_end.ensures.err);
    }
