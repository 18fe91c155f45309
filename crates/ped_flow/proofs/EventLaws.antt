-- What a path does to a scalar, from what its parts do.
use Rattle.std.proofs.Common.{◌≡◌, ℕ, Bool, true, false, not, ◌&&◌, ◌||◌, ◌⊎◌, List, [], ◌∷◌, ◌++◌, refl, sym, ap, ◌∙◌, inl, inr, if◌then◌else◌}
use Rattle.std.proofs.lemmas.List.Folds.{list_any-append}
use Rattle.ped_flow.specs.Events.{Event, is_overwriting_of, is_assigning, is_read_by, overwrites, reads_first, has_value}
use Rattle.ped_flow.proofs.Truths.{untrue, or_split, or_none, and_split, not_true}

pub overwrites-append : (x : List ℕ) (p q : List Event) → overwrites x (p ++ q) ≡ (overwrites x p || overwrites x q)
overwrites-append x p q = list_any-append (is_overwriting_of x) p q

-- neither part overwrites
pub overwrites-parts : (x : List ℕ) (p q : List Event) → overwrites x (p ++ q) ≡ false → (overwrites x p ≡ false) × (overwrites x q ≡ false)
overwrites-parts x p q h = or_none (overwrites x p) (overwrites x q) (sym (overwrites-append x p q) ∙ h)

pub overwrites-whole : (x : List ℕ) (p q : List Event) → overwrites x p ≡ false → overwrites x q ≡ false → overwrites x (p ++ q) ≡ false
overwrites-whole x p q h k = overwrites-append x p q ∙ (λ i. h i || k i)

shuffle : (r o f w g : Bool) → (r || (not o && (f || (not w && g)))) ≡ ((r || (not o && f)) || (not (o || w) && g))
shuffle true o f w g = refl
shuffle false true f w g = refl
shuffle false false f w g = refl

pub reads_first-append : (x : List ℕ) (n : ℕ) (p q : List Event) → reads_first x n (p ++ q) ≡ (reads_first x n p || (not (overwrites x p) && reads_first x n q))
reads_first-append x n [] q = refl
reads_first-append x n (e ∷ p) q =
    ap (λ (b : Bool). is_read_by x n e || (not (is_overwriting_of x e) && b)) (reads_first-append x n p q)
    ∙ shuffle (is_read_by x n e) (is_overwriting_of x e) (reads_first x n p) (overwrites x p) (reads_first x n q)

-- a read of the whole is one of the front, or the front doesn't overwrite and it is one of the back
pub reads_first-parts : (x : List ℕ) (n : ℕ) (p q : List Event) → reads_first x n (p ++ q) ≡ true → (reads_first x n p ≡ true) ⊎ ((overwrites x p ≡ false) × (reads_first x n q ≡ true))
reads_first-parts x n p q h = behind (or_split (reads_first x n p) (not (overwrites x p) && reads_first x n q) (sym (reads_first-append x n p q) ∙ h))
  where
    behind : (reads_first x n p ≡ true) ⊎ ((not (overwrites x p) && reads_first x n q) ≡ true) → (reads_first x n p ≡ true) ⊎ ((overwrites x p ≡ false) × (reads_first x n q ≡ true))
    behind (inl r) = inl r
    behind (inr r) = inr (not_true (overwrites x p) (and_split (not (overwrites x p)) (reads_first x n q) r).0, (and_split (not (overwrites x p)) (reads_first x n q) r).1)

or_true : (b : Bool) → (b || true) ≡ true
or_true true = refl
or_true false = refl

pub reads_first-front : (x : List ℕ) (n : ℕ) (p q : List Event) → reads_first x n p ≡ true → reads_first x n (p ++ q) ≡ true
reads_first-front x n p q h = reads_first-append x n p q ∙ ap (λ (b : Bool). b || (not (overwrites x p) && reads_first x n q)) h

pub reads_first-back : (x : List ℕ) (n : ℕ) (p q : List Event) → overwrites x p ≡ false → reads_first x n q ≡ true → reads_first x n (p ++ q) ≡ true
reads_first-back x n p q h k = reads_first-append x n p q ∙ (λ i. reads_first x n p || (not (h i) && k i)) ∙ or_true (reads_first x n p)

pub has_value-append : (x : List ℕ) (b : Bool) (p q : List Event) → has_value x b (p ++ q) ≡ has_value x (has_value x b p) q
has_value-append x b [] q = refl
has_value-append x b (e ∷ p) q = has_value-append x (if is_overwriting_of x e then is_assigning e.manner else b) p q

-- what isn't overwritten keeps its value
pub has_value-kept : (x : List ℕ) (b : Bool) (p : List Event) → overwrites x p ≡ false → has_value x b p ≡ b
has_value-kept x b [] h = refl
has_value-kept x b (e ∷ p) h =
    let parts = or_none (is_overwriting_of x e) (overwrites x p) h in
    ap (λ (o : Bool). has_value x (if o then is_assigning e.manner else b) p) parts.0 ∙ has_value-kept x b p parts.1

-- what loses its value has none behind
pub has_value-lost : (x : List ℕ) (b : Bool) (p : List Event) → has_value x true p ≡ false → has_value x b p ≡ false
has_value-lost x b [] h = untrue (sym h)
has_value-lost x b (e ∷ p) h = by (is_overwriting_of x e) (is_assigning e.manner) (λ k. has_value-lost x b p k) h
  where
    by : (o a : Bool) → (has_value x true p ≡ false → has_value x b p ≡ false) → has_value x (if o then a else true) p ≡ false → has_value x (if o then a else b) p ≡ false
    by true a rest k = k
    by false a rest k = rest k

-- what has no value behind, where it had none before, isn't overwritten or loses its value
pub has_value-none : (x : List ℕ) (p : List Event) → has_value x false p ≡ false → (overwrites x p ≡ false) ⊎ (has_value x true p ≡ false)
has_value-none x [] h = inl refl
has_value-none x (e ∷ p) h = by (is_overwriting_of x e) (is_assigning e.manner) (λ k. has_value-none x p k) h
  where
    by : (o a : Bool) → (has_value x false p ≡ false → (overwrites x p ≡ false) ⊎ (has_value x true p ≡ false)) → has_value x (if o then a else false) p ≡ false → ((o || overwrites x p) ≡ false) ⊎ (has_value x (if o then a else true) p ≡ false)
    by true a rest k = inr k
    by false a rest k = rest k

-- a path that loses the value does so in its front, and its back keeps it so, or in its back
pub has_value-parts : (x : List ℕ) (p q : List Event) → has_value x true (p ++ q) ≡ false → ((has_value x true p ≡ false) × (overwrites x q ≡ false)) ⊎ (has_value x true q ≡ false)
has_value-parts x p q h = by (has_value x true p) refl (sym (has_value-append x true p q) ∙ h)
  where
    last : has_value x true p ≡ false → (overwrites x q ≡ false) ⊎ (has_value x true q ≡ false) → ((has_value x true p ≡ false) × (overwrites x q ≡ false)) ⊎ (has_value x true q ≡ false)
    last e (inl k) = inl (e, k)
    last e (inr k) = inr k

    by : (v : Bool) → has_value x true p ≡ v → has_value x v q ≡ false → ((has_value x true p ≡ false) × (overwrites x q ≡ false)) ⊎ (has_value x true q ≡ false)
    by true e k = inr k
    by false e k = last e (has_value-none x q k)
