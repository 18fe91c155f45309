-- Where ranks rise along arrows, none leads back to a number with a rank.
use Rattle.std.proofs.Common.{◌≡◌, ℕ, zero, suc, ◌<◌, ◌≤◌, Bool, true, false, not, ◌||◌, List, [], ◌∷◌, ◌++◌, length, map, get_or, refl, sym, ap, subst, ◌∙◌, inl, inr, arith}
use Rattle.std.specs.Prelude.{◌==◌}
use Rattle.std.proofs.lemmas.List.{get_or-map}
use Rattle.ped_units.specs.Linking.{IsIn}
use Rattle.ped_links.specs.Reaching.{Leads, LeadAlong, IsReached, IsMarked}
use Rattle.ped_links.specs.Ranking.{rank_of, Rise, RiseFrom}
use Rattle.ped_links.proofs.Members.{in_one}
use Rattle.ped_links.proofs.Reached.{leads_within}

rises_along : (ends : List (List ℕ)) (ranks : List ℕ) (path : List ℕ) (j i : ℕ) → Rise ends ranks → LeadAlong ends j path i → 0 < rank_of ranks i → (0 < rank_of ranks j) × (rank_of ranks j ≤ rank_of ranks i)
rises_along ends ranks [] j i r e h = subst (λ (n : ℕ). (0 < rank_of ranks n) × (rank_of ranks n ≤ rank_of ranks i)) (sym e) (h, omega arith)
rises_along ends ranks (k ∷ path) j i r l h =
    let later = rises_along ends ranks path k i r l.1 h in
    let step = r j k l.0 later.0 in
    (step.0, omega (arith, step.1, later.1))

-- arrows don't lead back to a number with a rank
pub none_returns : (ends : List (List ℕ)) (ranks : List ℕ) (i j : ℕ) → Rise ends ranks → Leads ends i j → IsReached ends (j ∷ []) i → 0 < rank_of ranks i → ⊥
none_returns ends ranks i j r l back h =
    let from_seed = rises_along ends ranks back.path back.seed i r back.leads h in
    let seed : back.seed ≡ j = in_one back.seed j back.is_seed in
    let there : 0 < rank_of ranks j = subst (λ (n : ℕ). 0 < rank_of ranks n) seed from_seed.0 in
    let low : rank_of ranks j ≤ rank_of ranks i = subst (λ (n : ℕ). rank_of ranks n ≤ rank_of ranks i) seed from_seed.1 in
    let up = (r i j l there).1 in
    absurd (omega (arith, low, up))

-- ranks rise from a number to each of these
pub rise_to : (ranks : List ℕ) (i j : ℕ) (js : List ℕ) → RiseFrom ranks i js → IsIn j js → 0 < rank_of ranks j → (0 < rank_of ranks i) × (rank_of ranks i < rank_of ranks j)
rise_to ranks i j [] r h p = absurd h
rise_to ranks i j (k ∷ ks) r (inl e) p =
    let step = r.0 (subst (λ (n : ℕ). 0 < rank_of ranks n) e p) in
    (step.0, subst (λ (n : ℕ). rank_of ranks i < rank_of ranks n) (sym e) step.1)
rise_to ranks i j (k ∷ ks) r (inr h) p = rise_to ranks i j ks r.1 h p

pub rise_to_all : (ranks : List ℕ) (i : ℕ) (js : List ℕ) → ((j : ℕ) → IsIn j js → 0 < rank_of ranks j → (0 < rank_of ranks i) × (rank_of ranks i < rank_of ranks j)) → RiseFrom ranks i js
rise_to_all ranks i [] f = tt
rise_to_all ranks i (j ∷ js) f = (f j (inl refl), rise_to_all ranks i js (λ k h. f k (inr h)))

-- one more
pub rise_more : (ranks : List ℕ) (i j : ℕ) (js : List ℕ) → RiseFrom ranks i js → (0 < rank_of ranks j → (0 < rank_of ranks i) × (rank_of ranks i < rank_of ranks j)) → RiseFrom ranks i (js ++ j ∷ [])
rise_more ranks i j [] r h = (h, tt)
rise_more ranks i j (k ∷ ks) r h = (r.0, rise_more ranks i j ks r.1 h)

-- all to which arrows lead back are among those without a rank, where ranks rise, and else among all
pub marked_all : (ends : List (List ℕ)) (ranks : List ℕ) (rising : Bool) (marks : List Bool) → (rising ≡ true → Rise ends ranks) → length ranks ≡ length ends → marks ≡ map (λ (r : ℕ). not rising || (r == 0)) ranks
    → (i j : ℕ) → Leads ends i j → IsReached ends (j ∷ []) i → IsMarked marks i
marked_all ends ranks rising marks f wide e i j l r =
    let below = leads_within ends i j l in
    let within : i < length ranks = omega (arith, below, wide) in
    ap (λ (ms : List Bool). get_or ms i false) e ∙ get_or-map (λ (n : ℕ). not rising || (n == 0)) ranks i 0 false within ∙ by rising refl (rank_of ranks i) refl
  where
    by : (b : Bool) → rising ≡ b → (n : ℕ) → rank_of ranks i ≡ n → (not b || (n == 0)) ≡ true
    by false e n k = refl
    by true e zero k = refl
    by true e (suc n) k = absurd (none_returns ends ranks i j (f e) l r (omega (arith, k)))
