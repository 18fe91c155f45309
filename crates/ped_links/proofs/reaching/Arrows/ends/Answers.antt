use Rattle.std.proofs.Common.{◌≡◌, ◌<◌, ℕ, List, [], length, get_or, sym, subst, ap, ◌∙◌, arith}
use Rattle.std.specs.Global.{Vec}
use Rattle.std.proofs.lemmas.List.{get_or-map, length-map}
use Rattle.ped_units.specs.Linking.{IsIn}
use Rattle.ped_links.specs.ArrowViews.{ends_of}
use Rattle.ped_links.proofs.reaching.Arrows.ends.Goals as goal

pub returns-clause-below : goal.returns-clause-below
returns-clause-below c n i =
    let all = c.args.self.now.ends.items in
    let below : c.args.from < length all = omega (arith, c.requires, length-map all (λ (v : Vec ℕ). v.items)) in
    let is : c.deref.result.now ≡ get_or (ends_of c.args.self.now) c.args.from [] = c.deref.ensures.value ∙ ap (λ (v : Vec ℕ). v.items) c.index.ensures ∙ sym (get_or-map (λ (v : Vec ℕ). v.items) all c.args.from c.index.result.now [] below) in
    c.args.self.now.within c.args.from n (subst (λ (ns : List ℕ). IsIn n ns) is i)
