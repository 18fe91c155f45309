use Rattle.std.proofs.Common.{◌≡◌, ℕ, Bool, false, List, [], ◌∷◌, length, refl, inl, sym, ap, subst, ◌∙◌, arith}
use Rattle.std.proofs.lemmas.List.{length-map, length-replicate}
use Rattle.std.specs.Global.{Vec}
use Rattle.ped_units.specs.Linking.{IsIn}
use Rattle.ped_links.specs.Reaching.{ends_in, IsMarked, AreAdded}
use Rattle.ped_links.proofs.Added.{no_marks, within}
use Rattle.ped_links.proofs.ArrowsAdded.{written_back}
use Rattle.ped_links.proofs.Members.{in_right}
use Rattle.ped_links.proofs.Reached.{IsSearch, search_begins, search_goes_on, search_ends}
use Rattle.ped_links.proofs.reaching.Arrows.reached.Goals as goal

pub add_all-requires : goal.add_all-requires
add_all-requires c n i =
    let marks = ap length c.deref_mut.ensures.value in
    let made = ap length c.in_ok-marks.ensures in
    let long = length-replicate c.len.result false in
    let ends = c.args.self.now.ends in
    let wide = length-map ends.items (λ (v : Vec ℕ). v.items) in
    let below = c.requires n i in
    omega (arith, marks, made, long, c.len.ensures, ends.ok.0, wide, below)

pub loop-number-init : goal.loop-number-init
loop-number-init c =
    let ends = c.args.self.now.ends in
    let all = ends_in ends.items in
    let old = c.in_ok-marks.marks in
    let new = c.add_all.new.marks in
    let added = c.in_ok-add_all.ensures in
    let same = c.deref_mut.ensures.value in
    let made = ap length c.in_ok-marks.ensures in
    let long = length-replicate c.len.result false in
    let as_many = length-map ends.items (λ (v : Vec ℕ). v.items) in
    let marks = ap length same in
    let wide : length c.deref_mut.result.now ≡ length all = omega (arith, marks, made, long, c.len.ensures, ends.ok.0, as_many) in
    let len : old.len ≡ length old.items = omega (arith, old.ok.0) in
    subst (λ (ms : List Bool). IsSearch all c.args.seeds.now ms c.add_all.new.waiting.items) (sym (written_back old.len new old.items len (added.wide ∙ marks)))
    (search_begins all c.args.seeds.now c.deref_mut.result.now new c.new-waiting.result.items c.add_all.new.waiting.items wide
    (λ j m. no_marks c.len.result j (subst (λ (ms : List Bool). IsMarked ms j) (same ∙ c.in_ok-marks.ensures) m)) c.new-waiting.ensures.items added)

pub ends-requires : goal.ends-requires
ends-requires c =
    let number = c.in-Some.number in
    let there = subst (λ (ns : List ℕ). IsIn number ns) (sym c.in-Some.ensures.items) (in_right number c.pop.new.self.items (number ∷ []) (inl refl)) in
    let below = within c.loop-number.marks.items number (c.loop-number.invariant.waits number there) in
    omega (arith, below, c.loop-number.invariant.wide)

pub add_all-requires-in-Some : goal.add_all-requires-in-Some
add_all-requires-in-Some c n i =
    let below = c.ends.ensures.below n i in
    let marks = ap length c.deref_mut-in-Some.ensures.value in
    omega (arith, below, marks, c.loop-number.invariant.wide)

pub loop-number-preserved : goal.loop-number-preserved
loop-number-preserved c =
    let all = ends_in c.args.self.now.ends.items in
    let old = c.loop-number.marks in
    let new = c.add_all-in-Some.new.marks in
    let rest = c.pop.new.self.items in
    let waiting = c.add_all-in-Some.new.waiting.items in
    let added : AreAdded c.ends.result.now old.items rest new waiting = subst (λ (ms : List Bool). AreAdded c.ends.result.now ms rest new waiting) c.deref_mut-in-Some.ensures.value c.in_ok-add_all-2.ensures in
    let len : old.len ≡ length old.items = omega (arith, old.ok.0) in
    subst (λ (ms : List Bool). IsSearch all c.args.seeds.now ms waiting) (sym (written_back old.len new old.items len added.wide))
    (search_goes_on all c.args.seeds.now old.items new c.loop-number.waiting.items rest waiting c.in-Some.number c.ends.result.now c.loop-number.invariant c.in-Some.ensures.items c.ends.ensures.ends added)

pub returns-clause-marked : goal.returns-clause-marked
returns-clause-marked c j =
    let none : c.loop-number.waiting.items ≡ [] = grind arith in
    (c.loop-number.invariant.sound j, search_ends (ends_in c.args.self.now.ends.items) c.args.seeds.now c.loop-number.marks.items c.loop-number.waiting.items none c.loop-number.invariant j)
