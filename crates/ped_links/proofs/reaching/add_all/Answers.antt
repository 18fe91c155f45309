use Rattle.std.proofs.Common.{◌<◌, ◌≤◌, ℕ, List, [], ◌∷◌, take, length, get_or, sym, subst, arith, take_all}
use Rattle.std.proofs.lemmas.List.{take_more}
use Rattle.ped_links.specs.Reaching.{AreAdded}
use Rattle.ped_links.proofs.Added.{nothing_added, added_both, in_at}
use Rattle.ped_links.proofs.reaching.add_all.Goals as goal

pub loop-number-init : goal.loop-number-init
loop-number-init c = nothing_added c.args.marks.now c.args.waiting.now.items

pub add-requires : goal.add-requires
add-requires c =
    let i = c.loop-number.number-index in
    let there : i < length c.args.numbers.now = omega arith in
    let below = c.requires (get_or c.args.numbers.now i 0) (in_at c.args.numbers.now i there) in
    let wide = c.loop-number.invariant.wide in
    omega (arith, below, wide)

pub loop-number-preserved : goal.loop-number-preserved
loop-number-preserved c =
    let i = c.loop-number.number-index in
    let there : i < length c.args.numbers.now = omega arith in
    subst (λ (ns : List ℕ). AreAdded ns c.args.marks.now c.args.waiting.now.items c.add.new.marks c.add.new.waiting.items) (sym (take_more c.args.numbers.now i 0 there))
    (added_both (take i c.args.numbers.now) (get_or c.args.numbers.now i 0 ∷ []) c.args.marks.now c.args.waiting.now.items c.loop-number.marks c.loop-number.waiting.items c.add.new.marks c.add.new.waiting.items c.loop-number.invariant c.in_ok-add.ensures)

pub returns : goal.returns
returns c =
    let ended : length c.args.numbers.now ≤ c.loop-number.number-index = omega arith in
    subst (λ (ns : List ℕ). AreAdded ns c.args.marks.now c.args.waiting.now.items c.loop-number.marks c.loop-number.waiting.items) (take_all c.loop-number.number-index c.args.numbers.now ended) c.loop-number.invariant
