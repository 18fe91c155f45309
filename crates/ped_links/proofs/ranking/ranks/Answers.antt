use Rattle.std.proofs.Common.{◌≡◌, ◌+◌, ℕ, List, [], ◌∷◌, length, refl, inl, sym, ap, subst, ◌∙◌, arith}
use Rattle.std.proofs.lemmas.List.{length-replicate, length-set}
use Rattle.ped_units.specs.Linking.{IsIn}
use Rattle.ped_links.proofs.ArrowsAdded.{written_back}
use Rattle.ped_links.proofs.Members.{in_left, in_right}
use Rattle.ped_links.proofs.ranking.ranks.Goals as goal

pub loop-rank-init : goal.loop-rank-init
loop-rank-init c =
    let made = ap length c.in_ok-ranks.ensures in
    let long = length-replicate {A = ℕ} c.count.result 0 in
    record {
      counts = c.in_ok-counts.ensures;
      ranks = omega (arith, made, long, c.count.ensures);
      waiting = λ n i. let below = c.in_ok-waiting.ensures n i in let same = ap length c.deref.ensures.value in omega (arith, below, same, c.in_ok-counts.ensures);
    }

pub index_mut-requires : goal.index_mut-requires
index_mut-requires c =
    let number = c.in-Some.number in
    let low = c.loop-rank.invariant.waiting number (subst (λ (ns : List ℕ). IsIn number ns) (sym c.in-Some.ensures.items) (in_right number c.pop.new.self.items (number ∷ []) (inl refl))) in
    omega (arith, low, c.loop-rank.invariant.ranks, c.loop-rank.ranks.ok.0)

pub ends-requires : goal.ends-requires
ends-requires c =
    let number = c.in-Some.number in
    c.loop-rank.invariant.waiting number (subst (λ (ns : List ℕ). IsIn number ns) (sym c.in-Some.ensures.items) (in_right number c.pop.new.self.items (number ∷ []) (inl refl)))

pub count_down-requires-clause-numbers : goal.count_down-requires-clause-numbers
count_down-requires-clause-numbers c n i =
    let below = c.ends.ensures.below n i in
    let same = ap length c.deref_mut.ensures.value in
    omega (arith, below, same, c.loop-rank.invariant.counts)

pub count_down-requires-clause-waiting : goal.count_down-requires-clause-waiting
count_down-requires-clause-waiting c n i =
    let below = c.loop-rank.invariant.waiting n (subst (λ (ns : List ℕ). IsIn n ns) (sym c.in-Some.ensures.items) (in_left n c.pop.new.self.items (c.in-Some.number ∷ []) i)) in
    let same = ap length c.deref_mut.ensures.value in
    omega (arith, below, same, c.loop-rank.invariant.counts)

pub loop-rank-preserved : goal.loop-rank-preserved
loop-rank-preserved c =
    let old = c.loop-rank.counts in
    let new = c.count_down.new.counts in
    let same = ap length c.deref_mut.ensures.value in
    let wide : length new ≡ length old.items = c.in_ok-count_down-in-Some.ensures.wide ∙ same in
    let len : old.len ≡ length old.items = omega (arith, old.ok.0) in
    record {
      counts = ap length (written_back old.len new old.items len wide) ∙ wide ∙ c.loop-rank.invariant.counts;
      ranks = length-set c.loop-rank.ranks.items c.in-Some.number (c.loop-rank.rank + 1) ∙ c.loop-rank.invariant.ranks;
      waiting = λ n i. let below = c.in_ok-count_down-in-Some.ensures.waiting n i in omega (arith, below, same, c.loop-rank.invariant.counts);
    }
