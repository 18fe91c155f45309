use Rattle.std.proofs.Common.{ℕ, List, true, [], ◌∷◌, sym, subst}
use Rattle.std.proofs.Math.ListN.{set}
use Rattle.ped_links.specs.Reaching.{AreAdded}
use Rattle.ped_links.proofs.Added.{one_added}
use Rattle.ped_links.proofs.reaching.add.Goals as goal

pub returns : goal.returns
returns c =
    let marks = c.args.marks.now in
    let n = c.args.number in
    subst (λ (ns : List ℕ). AreAdded (n ∷ []) marks c.args.waiting.now.items (set marks n true) ns) (sym c.in_ok-push.ensures.items)
    (one_added marks c.args.waiting.now.items n c.requires c.if-marks-number.false)
