-- Names of CALLs' own are different, where the numbers of the CALLs are.
use Rattle.std.proofs.Common.{◌≡◌, ℕ, ◌≤◌, ◌<◌, List, [], ◌∷◌, ◌++◌, Bool, true, false, ◌&&◌, ◌||◌, eqb, eqb-true, refl, ap, ◌∙◌, arith}
use Rattle.ped_base.specs.Lists.{is_same_text, is_among}
use Rattle.ped_call_runs.specs.UnitRuns.{own}

-- the first names of pairs
abbrev pub firsts : List (List ℕ × List ℕ) → List (List ℕ)
firsts [] = []
firsts (p ∷ ps) = p.0 ∷ firsts ps

-- a name of the own of a CALL whose number is not below the first and below the second
pub record IsOwnIn (lo hi : ℕ) (y : List ℕ) : Type 0 where
  pub number : ℕ
  pub name : List ℕ
  pub is : y ≡ own number name
  pub from : lo ≤ number
  pub to : number < hi

abbrev pub OwnIn : ℕ → ℕ → List (List ℕ × List ℕ) → Type 0
OwnIn lo hi [] = Unit {0}
OwnIn lo hi (p ∷ ps) = IsOwnIn lo hi p.0 × OwnIn lo hi ps

-- no first name stands twice
abbrev pub NoneTwice : List (List ℕ × List ℕ) → Type 0
NoneTwice [] = Unit {0}
NoneTwice (p ∷ ps) = (is_among p.0 (firsts ps) ≡ false) × NoneTwice ps

-- a name that is none of a CALL's own
abbrev pub IsNoOwn : List ℕ → Type 0
IsNoOwn y = (m : ℕ) (x : List ℕ) → is_same_text (own m x) y ≡ false

pub own_apart : (m l : ℕ) (x y : List ℕ) → m < l → is_same_text (own m x) (own l y) ≡ false
own_apart m l x y less = go (eqb m l) refl
  where
    go : (t : Bool) → eqb m l ≡ t → is_same_text (own m x) (own l y) ≡ false
    go true e = let same : m ≡ l = eqb-true m l e in absurd (omega (arith, less, same))
    go false e = ap (λ (t : Bool). t && is_same_text x y) e

apart_in : (lo mid hi : ℕ) (y z : List ℕ) → IsOwnIn lo mid y → IsOwnIn mid hi z → is_same_text y z ≡ false
apart_in lo mid hi y z a b =
    let from = b.from in
    let to = a.to in
    (λ i. is_same_text (a.is i) (b.is i)) ∙ own_apart a.number b.number a.name b.name (omega (arith, from, to))

pub outside_in : (lo mid hi : ℕ) (y : List ℕ) (qs : List (List ℕ × List ℕ)) → IsOwnIn lo mid y → OwnIn mid hi qs → is_among y (firsts qs) ≡ false
outside_in lo mid hi y [] a h = refl
outside_in lo mid hi y (q ∷ qs) a h = λ i. apart_in lo mid hi y q.0 a h.0 i || outside_in lo mid hi y qs a h.1 i

pub among_joined : (y : List ℕ) (ps qs : List (List ℕ × List ℕ)) → is_among y (firsts ps) ≡ false → is_among y (firsts qs) ≡ false → is_among y (firsts (ps ++ qs)) ≡ false
among_joined y [] qs h k = k
among_joined y (p ∷ ps) qs h k =
    let parts = neither (is_same_text y p.0) (is_among y (firsts ps)) h in
    λ i. parts.0 i || among_joined y ps qs parts.1 k i
  where
    neither : (a b : Bool) → a || b ≡ false → (a ≡ false) × (b ≡ false)
    neither true b h = absurd cc
    neither false b h = (refl, h)

-- pairs of CALLs with lesser numbers before pairs of CALLs with greater ones
pub none_twice_joined : (lo mid hi : ℕ) (ps qs : List (List ℕ × List ℕ)) → OwnIn lo mid ps → OwnIn mid hi qs → NoneTwice ps → NoneTwice qs → NoneTwice (ps ++ qs)
none_twice_joined lo mid hi [] qs a b h k = k
none_twice_joined lo mid hi (p ∷ ps) qs a b h k = (among_joined p.0 ps qs h.0 (outside_in lo mid hi p.0 qs a.0 b), none_twice_joined lo mid hi ps qs a.1 b h.1 k)

own_wider : (lo hi lower higher : ℕ) (y : List ℕ) → lower ≤ lo → hi ≤ higher → IsOwnIn lo hi y → IsOwnIn lower higher y
own_wider lo hi lower higher y h k a = record {
  number = a.number;
  name = a.name;
  is = a.is;
  from = let from = a.from in omega (arith, from, h);
  to = let to = a.to in omega (arith, to, k);
}

pub own_in_wider : (lo hi lower higher : ℕ) (ps : List (List ℕ × List ℕ)) → lower ≤ lo → hi ≤ higher → OwnIn lo hi ps → OwnIn lower higher ps
own_in_wider lo hi lower higher [] h k a = tt
own_in_wider lo hi lower higher (p ∷ ps) h k a = (own_wider lo hi lower higher p.0 h k a.0, own_in_wider lo hi lower higher ps h k a.1)

pub own_in_joined : (lo hi : ℕ) (ps qs : List (List ℕ × List ℕ)) → OwnIn lo hi ps → OwnIn lo hi qs → OwnIn lo hi (ps ++ qs)
own_in_joined lo hi [] qs a b = b
own_in_joined lo hi (p ∷ ps) qs a b = (a.0, own_in_joined lo hi ps qs a.1 b)
