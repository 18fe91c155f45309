-- Places in the outer iterations of a path.
use Rattle.std.proofs.Common.{◌≡◌, ℕ, suc, ◌≤◌, ◌<◌, List, [], ◌∷◌, map, length, take, min, Bool, true, false, ◌&&◌, ◌==◌, not, refl, ap, ◌∙◌, arith}
use Prim.Native.Nat.{zero}
use Rattle.std.specs.Prelude.{if◌then◌else◌, ltb}
use Rattle.std.proofs.lemmas.Bool.{and_parts, eqb-true, ltb-false}
use Rattle.std.proofs.lemmas.List.{length-map, length-take}
use Rattle.ped_laws.specs.ped_eval.specs.declared.accesses.Turn as code
use Rattle.ped_laws.specs.ped_eval.specs.AccessViews.{turn_view}
use Rattle.ped_store.specs.Cells.{Iteration, same_iteration}
use Rattle.ped_store.specs.Acts.{Turn}
use Rattle.ped_order.specs.Keys.{iteration_of, is_elsewhere, Key}
use Rattle.ped_order.specs.Paths.{same_turn, common_count}
use Rattle.ped_order.specs.Entered.{is_within}

-- a place with no more iterations than stand around a DO is in none of that DO
pub too_short : (is : List Iteration) (statement n : ℕ) (ts : List Turn) → length ts ≤ length is → is_elsewhere is statement n ts ≡ false
too_short [] statement n [] h = refl
too_short [] statement n (t ∷ ts) h = absurd (omega (arith, h))
too_short (i ∷ is) statement n [] h = refl
too_short (i ∷ is) statement n (t ∷ ts) h = go (same_iteration (iteration_of t) i) (too_short is statement n ts (omega (arith, h)))
  where
    go : (b : Bool) → is_elsewhere is statement n ts ≡ false → b && is_elsewhere is statement n ts ≡ false
    go true e = e
    go false e = refl

-- the outer iterations of a place tell whether it is elsewhere
pub front_tells : (c : ℕ) (is : List Iteration) (statement n : ℕ) (ts : List Turn) → length is < c → is_elsewhere is statement n (take c ts) ≡ is_elsewhere is statement n ts
front_tells zero is statement n ts h = absurd (omega (arith, h))
front_tells (suc c) is statement n [] h = refl
front_tells (suc c) [] statement n (t ∷ ts) h = refl
front_tells (suc c) (i ∷ is) statement n (t ∷ ts) h = ap (λ r. same_iteration (iteration_of t) i && r) (front_tells c is statement n ts (omega (arith, h)))

one_flag : (p q : Bool) → (if p then q else not q) ≡ true → p ≡ q
one_flag true true h = refl
one_flag true false h = absurd cc
one_flag false true h = absurd cc
one_flag false false h = refl

-- iterations that pass the test have the same parts
record SameParts (t u : Turn) : Type 0 where
  statement : t.statement ≡ u.statement
  number : t.number ≡ u.number
  parallel : t.parallel ≡ u.parallel

same_parts : (t u : Turn) → same_turn t u ≡ true → SameParts t u
same_parts t u e =
    let p = and_parts (t.statement == u.statement) ((t.number == u.number) && (if t.parallel then u.parallel else not u.parallel)) e in
    let q = and_parts (t.number == u.number) (if t.parallel then u.parallel else not u.parallel) p.1 in
    record { statement = eqb-true t.statement u.statement p.0; number = eqb-true t.number u.number q.0; parallel = one_flag t.parallel u.parallel q.1 }

-- two places are both elsewhere or neither is, as far as they have their iterations in common
pub common_tells : (is : List Iteration) (statement n : ℕ) (ts us : List Turn) → length is < common_count ts us → is_elsewhere is statement n ts ≡ is_elsewhere is statement n us
common_tells is statement n [] us h = absurd (omega (arith, h))
common_tells is statement n (t ∷ ts) [] h = absurd (omega (arith, h))
common_tells [] statement n (t ∷ ts) (u ∷ us) h = go (same_turn t u) refl h
  where
    go : (b : Bool) → same_turn t u ≡ b → 0 < (if b then suc (common_count ts us) else 0) → is_elsewhere [] statement n (t ∷ ts) ≡ is_elsewhere [] statement n (u ∷ us)
    go false e k = absurd (omega (arith, k))
    go true e k = let p = same_parts t u e in λ i. (p.statement i == statement) && (not (p.number i == n) && p.parallel i)
common_tells (j ∷ is) statement n (t ∷ ts) (u ∷ us) h = go (common_tells is statement n ts us) (same_turn t u) refl h
  where
    go : (length is < common_count ts us → is_elsewhere is statement n ts ≡ is_elsewhere is statement n us) → (b : Bool) → same_turn t u ≡ b → suc (length is) < (if b then suc (common_count ts us) else 0) → is_elsewhere (j ∷ is) statement n (t ∷ ts) ≡ is_elsewhere (j ∷ is) statement n (u ∷ us)
    go more false e k = absurd (omega (arith, k))
    go more true e k = let p = same_parts t u e in let r = more (omega (arith, k)) in λ i. ((p.statement i == j.statement) && (p.number i == j.number)) && r i

-- no key with so many DOs around it is of a DO around the place
pub nothing_within : (k : Key) (n from : ℕ) (ts : List Turn) (q : Bool) → length ts ≤ from → is_within from k && (is_elsewhere k.around k.statement n ts && q) ≡ false
nothing_within k n from ts q h = go (ltb (length k.around) from) refl
  where
    go : (b : Bool) → ltb (length k.around) from ≡ b → not b && (is_elsewhere k.around k.statement n ts && q) ≡ false
    go true e = refl
    go false e = let f = ltb-false (length k.around) from e in ap (λ r. r && q) (too_short k.around k.statement n ts (omega (arith, h, f)))

-- the outer iterations are at most so many
pub front_short : (n : ℕ) (path : List code.Turn) → length (map turn_view (take n path)) ≤ n
front_short n path =
    let l : length (map turn_view (take n path)) ≡ length (take n path) = length-map (take n path) turn_view in
    let m : length (take n path) ≡ min n (length path) = length-take n path in
    omega (arith, l, m)
