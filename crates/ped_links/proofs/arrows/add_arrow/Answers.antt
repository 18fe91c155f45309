use Rattle.std.proofs.Common.{◌<◌, ℕ, Option, length, subst}
use Rattle.std.proofs.lemmas.Result.{on_ok_weaker}
use Rattle.std.specs.Prelude.{IfSome}
use Rattle.ped_links.specs.ArrowViews.{ends_of}
use Rattle.ped_links.proofs.ArrowsAdded.{leads_added}
use Rattle.ped_links.proofs.arrows.add_arrow.Goals as goal

pub returns-clause-added : goal.returns-clause-added
returns-clause-added c =
    let old = ends_of c.args.arrows.now in
    let below : c.in-Some.from < length old = subst (λ (o : Option ℕ). IfSome o (λ k. k < length old)) c.in-Some.is c.requires.from in
    on_ok_weaker c.add.result (λ e i j. leads_added old (ends_of c.add.new.self) c.in-Some.from c.in-Some-to.to c.args.from c.args.to c.in-Some.is c.in-Some-to.is below e i j) c.add.ensures.ok
