use Rattle.std.proofs.Common.{ℕ, ◌<◌, ◌≤◌, ◌+◌, ◌-◌, ◌==◌, List, [], ◌∷◌, ◌++◌, map, length, filter, slice_index_or, not, subst, sym, ap, ◌∙◌, arith}
use Rattle.std.specs.List.{range_with_len}
use Rattle.std.proofs.lemmas.List.FromFn.{length-map-range_with_len}
use Rattle.ped_splits.specs.PiBlocks.{are_together}
use Rattle.ped_splits.specs.CodeUnits.{AreBelow, leaders}
use Rattle.ped_splits.proofs.PiBlockOrders as law
use Rattle.ped_splits.proofs.PiBlockOrders.{ArePlaced, range_below}
use Rattle.ped_splits.proofs.pi_blocks.pi_blocks.Goals as goal

pub all_leaders-requires : goal.all_leaders-requires
all_leaders-requires c =
    let n = length c.args.reach.now in
    subst (AreBelow n) (sym (c.deref.ensures.value ∙ c.in_ok-left.ensures)) (range_below 0 n n (omega arith))

pub loop-round-init : goal.loop-round-init
loop-round-init c =
    let reach = c.args.reach.now in
    let led = c.in_ok-leaders.ensures ∙ ap (λ (xs : List ℕ). map (leaders reach xs) (range_with_len 0 (length reach))) c.deref.ensures.value in
    subst (λ (found : List (List ℕ)). ArePlaced reach 0 found c.in_ok-left.left.items c.in_ok-leaders.leaders.items) (sym c.new-pi_blocks.ensures.items) (law.at_first reach c.in_ok-left.left.items c.in_ok-leaders.leaders.items c.in_ok-left.ensures led)

pub first_free-requires : goal.first_free-requires
first_free-requires c =
    let reach = c.args.reach.now in
    let long = ap (λ (xs : List ℕ). length xs) (c.deref-in-loop-round-2.ensures.value ∙ c.loop-round.invariant.led) ∙ length-map-range_with_len (leaders reach c.loop-round.left.items) 0 (length reach) in
    subst (λ (xs : List ℕ). AreBelow (length c.deref-in-loop-round-2.result.now) xs) (sym c.deref-in-loop-round.ensures.value) (subst (λ (n : ℕ). AreBelow n c.loop-round.left.items) (sym long) c.loop-round.invariant.below)

pub pi_block_of-requires-clause-first : goal.pi_block_of-requires-clause-first
pi_block_of-requires-clause-first c =
    let lead = sym c.deref-in-loop-round-2.ensures.value in
    let left = sym c.deref-in-loop-round.ensures.value in
    let is = (λ j. filter (λ (i : ℕ). slice_index_or (lead j) i 0 == 0) (left j)) ∙ c.in-Some.ensures.1 in
    law.is_below c.args.reach.now c.loop-round._round c.loop-round.pi_blocks.items c.loop-round.left.items c.loop-round.leaders.items c.loop-round.invariant c.in-Some.first c.in-Some.ensures.0 is

pub without-requires-clause-length : goal.without-requires-clause-length
without-requires-clause-length c =
    let reach = c.args.reach.now in
    ap (λ (xs : List ℕ). length xs) (c.deref-in-Some-2.ensures.value ∙ c.loop-round.invariant.led) ∙ length-map-range_with_len (leaders reach c.loop-round.left.items) 0 (length reach)

pub without-requires-clause-below : goal.without-requires-clause-below
without-requires-clause-below c =
    let lead = sym c.deref-in-loop-round-2.ensures.value in
    let left = sym c.deref-in-loop-round.ensures.value in
    let is = (λ j. filter (λ (i : ℕ). slice_index_or (lead j) i 0 == 0) (left j)) ∙ c.in-Some.ensures.1 in
    let is_block = c.as_slice.ensures ∙ c.in_ok-block-in-Some.ensures ∙ ap (filter (are_together c.args.reach.now c.in-Some.first)) c.deref-in-Some.ensures.value in
    subst (AreBelow (length c.args.reach.now)) (sym is_block) (law.block_below c.args.reach.now c.loop-round._round c.loop-round.pi_blocks.items c.loop-round.left.items c.loop-round.leaders.items c.loop-round.invariant c.in-Some.first c.in-Some.ensures.0 is)

pub without-requires-clause-enough : goal.without-requires-clause-enough
without-requires-clause-enough c =
    let lead = sym c.deref-in-loop-round-2.ensures.value in
    let left = sym c.deref-in-loop-round.ensures.value in
    let is = (λ j. filter (λ (i : ℕ). slice_index_or (lead j) i 0 == 0) (left j)) ∙ c.in-Some.ensures.1 in
    let reach = c.args.reach.now in
    let is_block = c.as_slice.ensures ∙ c.in_ok-block-in-Some.ensures ∙ ap (filter (are_together reach c.in-Some.first)) c.deref-in-Some.ensures.value in
    let counts = c.deref-in-Some-2.ensures.value in
    λ i h. subst (λ (xs : List ℕ). leaders reach xs i ≤ slice_index_or c.deref-in-Some-2.result.now i 0) (sym is_block)
    (subst (λ (ys : List ℕ). leaders reach (filter (are_together reach c.in-Some.first) c.loop-round.left.items) i ≤ slice_index_or ys i 0) (sym counts)
    (law.are_enough reach c.loop-round._round c.loop-round.pi_blocks.items c.loop-round.left.items c.loop-round.leaders.items c.loop-round.invariant c.in-Some.first c.in-Some.ensures.0 is i h))

pub behind-requires-clause-first : goal.behind-requires-clause-first
behind-requires-clause-first c =
    let lead = sym c.deref-in-loop-round-2.ensures.value in
    let left = sym c.deref-in-loop-round.ensures.value in
    let is = (λ j. filter (λ (i : ℕ). slice_index_or (lead j) i 0 == 0) (left j)) ∙ c.in-Some.ensures.1 in
    law.is_below c.args.reach.now c.loop-round._round c.loop-round.pi_blocks.items c.loop-round.left.items c.loop-round.leaders.items c.loop-round.invariant c.in-Some.first c.in-Some.ensures.0 is

pub returns-in-None : goal.returns-in-None
returns-in-None c =
    let lead = sym c.deref-in-loop-round-2.ensures.value in
    let left = sym c.deref-in-loop-round.ensures.value in
    let is = (λ j. filter (λ (i : ℕ). slice_index_or (lead j) i 0 == 0) (left j)) ∙ c.in-None.ensures in
    law.none_free c.args.reach.now c.loop-round._round c.loop-round.pi_blocks.items c.loop-round.left.items c.loop-round.leaders.items c.loop-round.invariant is

pub loop-round-preserved : goal.loop-round-preserved
loop-round-preserved c =
    let reach = c.args.reach.now in
    let n = length reach in
    let lead = sym c.deref-in-loop-round-2.ensures.value in
    let left = sym c.deref-in-loop-round.ensures.value in
    let is = (λ j. filter (λ (i : ℕ). slice_index_or (lead j) i 0 == 0) (left j)) ∙ c.in-Some.ensures.1 in
    let more : c.loop-round._round < n = let test = c.loop-round-test.true in let wide = c.width-round-end.ensures.width in omega (arith, test, wide) in
    let block_value = c.in_ok-block-in-Some.ensures ∙ ap (filter (are_together reach c.in-Some.first)) c.deref-in-Some.ensures.value in
    let is_block = c.as_slice.ensures ∙ block_value in
    let found = c.in_ok-push-in-Some.ensures.items ∙ ap (λ (b : List ℕ). c.loop-round.pi_blocks.items ++ b ∷ []) block_value in
    let later = c.in_ok-left-in-Some.ensures ∙ ap (filter (λ (k : ℕ). not (are_together reach c.in-Some.first k))) c.deref-in-Some-3.ensures.value in
    let counts = c.in_ok-leaders-in-Some.ensures ∙ (λ j. map (λ (i : ℕ). slice_index_or (c.deref-in-Some-2.ensures.value j) i 0 - leaders reach (is_block j) i) (range_with_len 0 n)) in
    let placed = law.next reach c.loop-round._round c.loop-round.pi_blocks.items c.loop-round.left.items c.loop-round.leaders.items c.loop-round.invariant c.in-Some.first c.in-Some.ensures.0 is more in
    subst (λ (bs : List (List ℕ)). ArePlaced reach (c.loop-round._round + 1) bs c.in_ok-left-in-Some.left.items c.in_ok-leaders-in-Some.leaders.items) (sym found)
    (subst (λ (ks : List ℕ). ArePlaced reach (c.loop-round._round + 1) (c.loop-round.pi_blocks.items ++ filter (are_together reach c.in-Some.first) c.loop-round.left.items ∷ []) ks c.in_ok-leaders-in-Some.leaders.items) (sym later)
    (subst (λ (cs : List ℕ). ArePlaced reach (c.loop-round._round + 1) (c.loop-round.pi_blocks.items ++ filter (are_together reach c.in-Some.first) c.loop-round.left.items ∷ []) (filter (λ (k : ℕ). not (are_together reach c.in-Some.first k)) c.loop-round.left.items) cs) (sym counts) placed))
