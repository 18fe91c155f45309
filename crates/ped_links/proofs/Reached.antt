-- What is marked and what is reached.
use Rattle.std.proofs.Common.{◌≡◌, ◌⊎◌, inl, inr, ℕ, zero, suc, ◌<◌, Bool, List, [], ◌∷◌, ◌++◌, length, get_or, refl, sym, subst, ◌∙◌, arith}
use Rattle.ped_units.specs.Linking.{IsIn}
use Rattle.ped_links.specs.Reaching.{Leads, LeadAlong, IsReached, IsMarked, AreAdded}
use Rattle.ped_links.proofs.Members.{in_either, in_one}

-- the state of the search: what waits is marked, what is marked is reached, and arrows lead from what is marked and doesn't wait to what is marked
pub record IsSearch (ends : List (List ℕ)) (seeds : List ℕ) (marks : List Bool) (waiting : List ℕ) : Type 0 where
  pub wide : length marks ≡ length ends
  pub waits : (j : ℕ) → IsIn j waiting → IsMarked marks j
  pub seeds_marked : (j : ℕ) → IsIn j seeds → IsMarked marks j
  pub done : (i : ℕ) → IsMarked marks i → IsIn i waiting ⊎ ((j : ℕ) → Leads ends i j → IsMarked marks j)
  pub sound : (j : ℕ) → IsMarked marks j → IsReached ends seeds j

pub along_more : (ends : List (List ℕ)) (i j k : ℕ) (path : List ℕ) → LeadAlong ends i path j → Leads ends j k → LeadAlong ends i (path ++ k ∷ []) k
along_more ends i j k [] e l = (subst (λ (n : ℕ). Leads ends n k) (sym e) l, refl)
along_more ends i j k (m ∷ path) h l = (h.0, along_more ends m j k path h.1 l)

-- an arrow leads from what is reached to what is reached
pub reached_more : (ends : List (List ℕ)) (seeds : List ℕ) (i j : ℕ) → IsReached ends seeds i → Leads ends i j → IsReached ends seeds j
reached_more ends seeds i j r l = record { seed = r.seed; is_seed = r.is_seed; path = r.path ++ j ∷ []; leads = along_more ends r.seed i j r.path r.leads l }

pub seed_reached : (ends : List (List ℕ)) (seeds : List ℕ) (j : ℕ) → IsIn j seeds → IsReached ends seeds j
seed_reached ends seeds j i = record { seed = j; is_seed = i; path = []; leads = refl }

along_marked : (ends : List (List ℕ)) (marks : List Bool) (path : List ℕ) (i j : ℕ) → ((n m : ℕ) → IsMarked marks n → Leads ends n m → IsMarked marks m) → IsMarked marks i → LeadAlong ends i path j → IsMarked marks j
along_marked ends marks [] i j f m e = subst (IsMarked marks) e m
along_marked ends marks (k ∷ path) i j f m h = along_marked ends marks path k j f (f i k m h.0) h.1

-- nothing waits any more
pub search_ends : (ends : List (List ℕ)) (seeds : List ℕ) (marks : List Bool) (waiting : List ℕ) → waiting ≡ [] → IsSearch ends seeds marks waiting → (j : ℕ) → IsReached ends seeds j → IsMarked marks j
search_ends ends seeds marks waiting e s j r =
    let closed : (n m : ℕ) → IsMarked marks n → Leads ends n m → IsMarked marks m = λ n m k l. elim (s.done n k) [ inl i ↦ absurd (subst (λ (w : List ℕ). IsIn n w) e i) | inr f ↦ f m l ] in
    along_marked ends marks r.path r.seed j closed (s.seeds_marked r.seed r.is_seed) r.leads

-- the seeds are marked, and wait
pub search_begins : (ends : List (List ℕ)) (seeds : List ℕ) (before marks : List Bool) (none waiting : List ℕ) → length before ≡ length ends → ((j : ℕ) → IsMarked before j → ⊥) → none ≡ [] → AreAdded seeds before none marks waiting → IsSearch ends seeds marks waiting
search_begins ends seeds before marks none waiting w n e a = record {
  wide = a.wide ∙ w;
  waits = λ j i. elim (a.new j i) [ inl x ↦ absurd (subst (λ (v : List ℕ). IsIn j v) e x) | inr y ↦ a.marked j y ];
  seeds_marked = a.marked;
  done = λ i m. elim (a.waits i m) [ inl x ↦ absurd (n i x) | inr y ↦ inl y ];
  sound = λ j m. elim (a.known j m) [ inl x ↦ absurd (n j x) | inr y ↦ seed_reached ends seeds j y ];
}

-- one that waits is looked at
pub search_goes_on : (ends : List (List ℕ)) (seeds : List ℕ) (marks marks_now : List Bool) (waiting rest waiting_now : List ℕ) (number : ℕ) (there : List ℕ)
    → IsSearch ends seeds marks waiting → waiting ≡ rest ++ number ∷ [] → there ≡ get_or ends number [] → AreAdded there marks rest marks_now waiting_now → IsSearch ends seeds marks_now waiting_now
search_goes_on ends seeds marks marks_now waiting rest waiting_now number there s w t a =
    let was : (j : ℕ) → IsIn j rest → IsMarked marks j = λ j i. s.waits j (subst (λ (v : List ℕ). IsIn j v) (sym w) (in_front j rest number i)) in
    let here : IsMarked marks number = s.waits number (subst (λ (v : List ℕ). IsIn number v) (sym w) (at_end number rest)) in
    let leads : (j : ℕ) → IsIn j there → Leads ends number j = λ j i. subst (λ (v : List ℕ). IsIn j v) t i in
    let led : (j : ℕ) → Leads ends number j → IsIn j there = λ j i. subst (λ (v : List ℕ). IsIn j v) (sym t) i in
    record {
      wide = a.wide ∙ s.wide;
      waits = λ j i. elim (a.new j i) [ inl x ↦ a.kept j (was j x) | inr y ↦ a.marked j y ];
      seeds_marked = λ j i. a.kept j (s.seeds_marked j i);
      done = λ i m. elim (a.waits i m) [
        | inl x ↦ elim (s.done i x) [
          | inl y ↦ elim (in_either i rest (number ∷ []) (subst (λ (v : List ℕ). IsIn i v) w y)) [
            | inl z ↦ inl (a.stays i z)
            | inr z ↦ inr (λ j l. a.marked j (led j (subst (λ (n : ℕ). Leads ends n j) (in_one i number z) l)))
          ]
          | inr f ↦ inr (λ j l. a.kept j (f j l))
        ]
        | inr y ↦ inl y
      ];
      sound = λ j m. elim (a.known j m) [ inl x ↦ s.sound j x | inr y ↦ reached_more ends seeds number j (s.sound number here) (leads j y) ];
    }
  where
    in_front : (j : ℕ) (xs : List ℕ) (n : ℕ) → IsIn j xs → IsIn j (xs ++ n ∷ [])
    in_front j (x ∷ xs) n (inl e) = inl e
    in_front j (x ∷ xs) n (inr h) = inr (in_front j xs n h)
    in_front j [] n h = absurd h

    at_end : (j : ℕ) (xs : List ℕ) → IsIn j (xs ++ j ∷ [])
    at_end j [] = inl refl
    at_end j (x ∷ xs) = inr (at_end j xs)

-- what waits is within
pub waits_within : (marks : List Bool) (waiting rest : List ℕ) (number : ℕ) (ends : List (List ℕ)) (seeds : List ℕ) → IsSearch ends seeds marks waiting → waiting ≡ rest ++ number ∷ [] → IsMarked marks number
waits_within marks waiting rest number ends seeds s w = s.waits number (subst (λ (v : List ℕ). IsIn number v) (sym w) (last number rest))
  where
    last : (j : ℕ) (xs : List ℕ) → IsIn j (xs ++ j ∷ [])
    last j [] = inl refl
    last j (x ∷ xs) = inr (last j xs)

-- an arrow begins at a number that has ends
pub leads_within : (ends : List (List ℕ)) (i j : ℕ) → Leads ends i j → i < length ends
leads_within [] i j h = absurd h
leads_within (e ∷ es) zero j h = omega arith
leads_within (e ∷ es) (suc i) j h = let below = leads_within es i j h in omega (arith, below)
