-- Steps from a place on: what is left once the first of them is taken.
use Rattle.std.proofs.Common.{◌≡◌, ℕ, zero, suc, ◌+◌, ◌<◌, ◌≤◌, refl, sym, ap, ◌∙◌, arith, ℤ, List, [], ◌∷◌, ◌++◌, length, take, drop, get_or, true, false, Option, Some, nat_eq, append-nil, ◌⊎◌, inl, inr, ◌≢◌}
use Rattle.std.specs.Option.{option_map_or}
use Rattle.std.proofs.lemmas.List.{drop_more, drop_all, length-take, take-take, take_all, take-append-le}
use Rattle.std.proofs.lemmas.Bool.Decides.{eqb_tells}
use Rattle.ped_certificates.specs.declared.systems.Row.{Row}
use Rattle.ped_certificates.specs.declared.systems.Step.{Step}
use Rattle.ped_certificates.specs.declared.systems.System.{System}
use Rattle.ped_certificates.specs.Certificates.{more_than, after, close, refutes}

-- no step closes a branch
pub no_step : (n : ℕ) (rows : List Row) (branches : List (List Row)) (steps : List Step) (from : ℕ) → length steps ≤ from → close n (rows ∷ branches) (drop from steps) ≡ false
no_step n rows branches steps from h = ap (close n (rows ∷ branches)) (drop_all from steps h)

pub goes_on : (n : ℕ) (rows : List Row) (steps : List Step) (from : ℕ) (step : Step) (left : Option (List (List Row))) → from < length steps → step ≡ get_or steps from step → after n rows step ≡ left → (branches : List (List Row)) → close n (rows ∷ branches) (drop from steps) ≡ option_map_or (λ parts. close n (parts ++ branches) (drop (from + 1) steps)) left false
goes_on n rows steps from step left below is made branches =
    ap (close n (rows ∷ branches)) (drop_more steps from step below ∙ ap (λ s. s ∷ drop (from + 1) steps) (sym is))
    ∙ ap (λ (o : Option (List (List Row))). option_map_or (λ parts. close n (parts ++ branches) (drop (from + 1) steps)) o false) made

-- a front that is kept twice
pub kept_longer : {X : Type 0} (xs ys : List X) → take (length xs) ys ≡ xs → length xs ≤ length ys
kept_longer xs ys h = let e = ap length h in let l = length-take (length xs) ys in omega arith

pub kept_through : {X : Type 0} (xs ys zs : List X) → take (length xs) ys ≡ xs → take (length ys) zs ≡ ys → take (length xs) zs ≡ xs
kept_through {X} xs ys zs h k =
    sym (take-take (length xs) (length ys) zs (kept_longer xs ys h)) ∙ ap (λ (l : List X). take (length xs) l) k ∙ h

-- the steps from a place on close no branch exactly where the place is their end
pub ended_at : (n k : ℕ) (steps : List Step) → k ≤ length steps → close n [] (drop k steps) ≡ nat_eq k (length steps)
ended_at n k steps h = by (eqb_tells k (length steps))
  where
    still : (j : ℕ) (left : List Step) → j < length left → close n [] (drop j left) ≡ false
    still j [] l = absurd (omega arith)
    still zero (step ∷ left) l = refl
    still (suc j) (step ∷ left) l = still j left (omega arith)

    by : ((nat_eq k (length steps) ≡ true) × (k ≡ length steps)) ⊎ ((nat_eq k (length steps) ≡ false) × (k ≢ length steps)) → close n [] (drop k steps) ≡ nat_eq k (length steps)
    by (inl e) = let l = e.1 in ap (close n []) (drop_all k steps (omega arith)) ∙ sym e.0
    by (inr e) = let l = e.1 in still k steps (omega arith) ∙ sym e.0

-- with no row added, the branch is that of the system's rows
pub system_begins : (system : System) (added : List Row) (steps : List Step) → added ≡ [] → close system.unknowns ((system.rows ++ added) ∷ []) steps ≡ refutes system steps
system_begins system added steps e =
    ap (λ (rows : List Row). close system.unknowns ((system.rows ++ rows) ∷ []) steps) e
    ∙ ap (λ (rows : List Row). close system.unknowns (rows ∷ []) steps) (append-nil system.rows)

-- the rows kept while the first part was closed
pub kept_of : {X : Type 0} (xs ys zs front : List X) (kept : ℕ) → kept ≡ length xs → take (length xs) ys ≡ xs → take (length ys) zs ≡ ys → front ≡ take kept zs → front ≡ xs
kept_of {X} xs ys zs front kept l h k e = e ∙ ap (λ (m : ℕ). take m zs) l ∙ kept_through xs ys zs h k

pub kept_with : {X : Type 0} (xs ys zs : List X) (x : X) → ys ≡ xs ++ x ∷ [] → take (length ys) zs ≡ ys → take (length xs) zs ≡ xs
kept_with {X} xs ys zs x e h = kept_through xs ys zs front h
  where
    front : take (length xs) ys ≡ xs
    front = ap (λ (l : List X). take (length xs) l) e ∙ take-append-le (length xs) xs (x ∷ []) (omega arith) ∙ take_all (length xs) xs (omega arith)

-- a branch that is divided: the first part is closed, and the second one begins
module _ (n u : ℕ) (k : ℤ) (given before now : List Row) (steps : List Step) (from : ℕ) (step : Step) (below : from < length steps) (is : step ≡ get_or steps from step) where
  pub second_begins : after n (given ++ before) step ≡ Some ((given ++ now) ∷ (given ++ (before ++ more_than n u k ∷ [])) ∷ []) → (found : Option ℕ) (next : ℕ) → ((branches : List (List Row)) → close n ((given ++ now) ∷ branches) (drop (from + 1) steps) ≡ option_map_or (λ p. close n branches (drop p steps)) found false) → found ≡ Some next → (begun : List Row) → begun ≡ before ++ more_than n u k ∷ [] → (branches : List (List Row)) → close n ((given ++ before) ∷ branches) (drop from steps) ≡ close n ((given ++ begun) ∷ branches) (drop next steps)
  second_begins made found next first some begun e branches =
      goes_on n (given ++ before) steps from step (Some ((given ++ now) ∷ (given ++ (before ++ more_than n u k ∷ [])) ∷ [])) below is made branches
      ∙ first ((given ++ (before ++ more_than n u k ∷ [])) ∷ branches)
      ∙ ap (λ (o : Option ℕ). option_map_or (λ p. close n ((given ++ (before ++ more_than n u k ∷ [])) ∷ branches) (drop p steps)) o false) some
      ∙ ap (λ (rows : List Row). close n ((given ++ rows) ∷ branches) (drop next steps)) (sym e)
