use Rattle.std.proofs.Common.{◌≡◌, ◌⊎◌, ◌↔◌, ◌+◌, ◌≤◌, [], ◌∷◌, ◌++◌, ℕ, List, length, take, inl, inr, subst, arith, take_all}
use Rattle.std.proofs.lemmas.Grind.{common_steps}
use Rattle.ped_links.specs.Arguments.{IsSeedAmong}
use Rattle.ped_units.specs.Linking.{IsIn}
use Rattle.ped_links.proofs.Seeds.{seeds_step}
use Rattle.ped_links.proofs.formals.add_seeds.Goals as goal

pub loop-name-init : goal.loop-name-init
loop-name-init c = record { below = λ b. b; seeds = λ us f u n. (λ i. inl i, λ h. elim h [ inl i ↦ i | inr a ↦ absurd a.1 ]) }

pub loop-name-preserved : goal.loop-name-preserved
loop-name-preserved c =
    let own = c.args.own.now in
    let i = c.loop-name.name-index in
    let name = c.name-item.result in
    let more : take (i + 1) own ≡ take i own ++ name ∷ [] = grind (arith, common_steps) in
    record {
      below = λ b. c.in_ok-add_seed.ensures.below (c.loop-name.invariant.below b);
      seeds = λ us f u. seeds_step us c.args.unit (take i own) (take (i + 1) own) c.args.names.now name c.args.seeds.now.items c.loop-name.seeds.items c.add_seed.new.seeds.items more (c.loop-name.invariant.seeds us f u) (c.in_ok-add_seed.ensures.seeds us f u);
    }

pub returns-clause-seeds : goal.returns-clause-seeds
returns-clause-seeds c us f u n =
    let ended : length c.args.own.now ≤ c.loop-name.name-index = omega arith in
    subst (λ (own : List (List ℕ)). IsIn n c.loop-name.seeds.items ↔ (IsIn n c.args.seeds.now.items ⊎ IsSeedAmong us c.args.unit own c.args.names.now n)) (take_all c.loop-name.name-index c.args.own.now ended) (c.loop-name.invariant.seeds us f u n)
