-- Places in DO loops that are apart: in different iterations of one PARALLEL DO.
use Rattle.std.proofs.Common.{Bool, List, [], ap, arith, eqb, eqb-true, false, if◌then◌else◌, inl, inr, length, map, refl, suc, sym, true, ℕ, ◌&&◌, ◌++◌, ◌||◌, ◌∙◌, ◌∷◌, ◌≡◌, ◌⊎◌}
use Rattle.std.proofs.lemmas.Bool.{and_parts, both_ways}
use Rattle.std.proofs.lemmas.List.{map-append}
use Rattle.ped_bodies.specs.ped_flow.specs.ped_tree.specs.Nests.{Loop}
use Rattle.ped_bodies.specs.ped_steps.specs.Runs.Pasting.{AreTurnsOf}
use Rattle.ped_bodies.specs.ped_laws.proofs.RunLaws.Touches.{Fine}
use Rattle.ped_bodies.specs.ped_laws.proofs.RunLaws.Turning.{At, Front}
use Rattle.ped_bodies.specs.ped_store.specs.Acts.{Manner, Turn, is_told, iterations_of, reads, writes}
use Rattle.ped_bodies.specs.ped_store.specs.Cells.{Cell, Iteration}
use Rattle.ped_bodies.specs.ped_store.specs.Races.{are_apart}

pub number_itself : (n : ℕ) → eqb n n ≡ true
number_itself n = grind (arith, eqb-true)

-- places that are apart differ in iterations round a place, or the second stands in these iterations, too, and they differ further inside
pub apart_split : (ts more us : List Turn) → are_apart (ts ++ more) us ≡ true → (are_apart ts us ≡ true) ⊎ ((rs : List Turn) × (vs : List Turn) × (us ≡ rs ++ vs) × (iterations_of rs ≡ iterations_of ts) × (are_apart more vs ≡ true))
apart_split [] more us h = inr ([], us, refl, refl, h)
apart_split (t ∷ ts) more [] h = absurd cc
apart_split (t ∷ ts) more (u ∷ us) h = go (eqb t.number u.number) refl parts.1 (apart_split ts more us)
  where
    parts : (eqb t.statement u.statement ≡ true) × ((if eqb t.number u.number then are_apart (ts ++ more) us else t.parallel) ≡ true)
    parts = and_parts (eqb t.statement u.statement) (if eqb t.number u.number then are_apart (ts ++ more) us else t.parallel) h

    Result : Type 0
    Result = (are_apart (t ∷ ts) (u ∷ us) ≡ true) ⊎ ((rs : List Turn) × (vs : List Turn) × (u ∷ us ≡ rs ++ vs) × (iterations_of rs ≡ iterations_of (t ∷ ts)) × (are_apart more vs ≡ true))

    go : (b : Bool) → eqb t.number u.number ≡ b → (if b then are_apart (ts ++ more) us else t.parallel) ≡ true
        → (are_apart (ts ++ more) us ≡ true → (are_apart ts us ≡ true) ⊎ ((rs : List Turn) × (vs : List Turn) × (us ≡ rs ++ vs) × (iterations_of rs ≡ iterations_of ts) × (are_apart more vs ≡ true))) → Result
    go false e k further = inl (λ i. parts.0 i && (if e i then are_apart ts us else k i))
    go true e k further = elim (further k) [
      | inl m ↦ inl (λ i. parts.0 i && (if e i then m i else t.parallel))
      | inr r ↦ (
          let statement : t.statement ≡ u.statement = eqb-true t.statement u.statement parts.0 in
          let number : t.number ≡ u.number = eqb-true t.number u.number e in
          inr (u ∷ r.0, r.1, ap (λ (zs : List Turn). u ∷ zs) r.2, (λ i. record { statement = sym statement i; number = sym number i } ∷ r.3 i), r.4)
          )
    ]

-- places further inside are apart where these are
pub apart_inside : (ts us more others : List Turn) → are_apart ts us ≡ true → are_apart (ts ++ more) (us ++ others) ≡ true
apart_inside [] us more others h = absurd cc
apart_inside (t ∷ ts) [] more others h = absurd cc
apart_inside (t ∷ ts) (u ∷ us) more others h = go (eqb t.number u.number) refl parts.1 (apart_inside ts us more others)
  where
    parts : (eqb t.statement u.statement ≡ true) × ((if eqb t.number u.number then are_apart ts us else t.parallel) ≡ true)
    parts = and_parts (eqb t.statement u.statement) (if eqb t.number u.number then are_apart ts us else t.parallel) h

    go : (b : Bool) → eqb t.number u.number ≡ b → (if b then are_apart ts us else t.parallel) ≡ true → (are_apart ts us ≡ true → are_apart (ts ++ more) (us ++ others) ≡ true) → are_apart ((t ∷ ts) ++ more) ((u ∷ us) ++ others) ≡ true
    go true e k further = λ i. parts.0 i && (if e i then further k i else t.parallel)
    go false e k further = λ i. parts.0 i && (if e i then are_apart (ts ++ more) (us ++ others) else k i)

-- a place is apart from iterations that are as many
pub apart_within : (ts us more : List Turn) → length ts ≡ length us → are_apart ts (us ++ more) ≡ true → are_apart ts us ≡ true
apart_within [] us more long h = absurd cc
apart_within (t ∷ ts) [] more long h = absurd cc
apart_within (t ∷ ts) (u ∷ us) more long h = go (eqb t.number u.number) refl parts.1 (apart_within ts us more (let less : length ts ≡ length us = cc in less))
  where
    parts : (eqb t.statement u.statement ≡ true) × ((if eqb t.number u.number then are_apart ts (us ++ more) else t.parallel) ≡ true)
    parts = and_parts (eqb t.statement u.statement) (if eqb t.number u.number then are_apart ts (us ++ more) else t.parallel) h

    go : (b : Bool) → eqb t.number u.number ≡ b → (if b then are_apart ts (us ++ more) else t.parallel) ≡ true → (are_apart ts (us ++ more) ≡ true → are_apart ts us ≡ true) → are_apart (t ∷ ts) (u ∷ us) ≡ true
    go true e k further = λ i. parts.0 i && (if e i then further k i else t.parallel)
    go false e k further = λ i. parts.0 i && (if e i then are_apart ts us else k i)

-- the same iterations round two places don't count
pub apart_same : (ts more others : List Turn) → are_apart (ts ++ more) (ts ++ others) ≡ are_apart more others
apart_same [] more others = refl
apart_same (t ∷ ts) more others = (λ i. number_itself t.statement i && (if number_itself t.number i then are_apart (ts ++ more) (ts ++ others) else t.parallel)) ∙ apart_same ts more others

pub none_behind : (more : List Turn) → are_apart more [] ≡ true → ⊥
none_behind [] h = absurd cc
none_behind (t ∷ more) h = absurd cc

-- a copy of these iterations isn't reached from a place that is apart from them
pub front_apart : (ts us : List Turn) (rest : List Iteration) → Front (iterations_of ts ++ rest) us → are_apart ts us ≡ true → ⊥
front_apart [] us rest f h = absurd cc
front_apart (t ∷ ts) [] rest f h = absurd f
front_apart (t ∷ ts) (u ∷ us) rest f h =
    let same : eqb t.number u.number ≡ true = ap (eqb t.number) (sym f.0) ∙ number_itself t.number in
    front_apart ts us rest f.1
    (sym (ap (λ (b : Bool). if b then are_apart ts us else t.parallel) same) ∙ (and_parts (eqb t.statement u.statement) (if eqb t.number u.number then are_apart ts us else t.parallel) h).1)

pub iterations_append : (ts us : List Turn) → iterations_of (ts ++ us) ≡ iterations_of ts ++ iterations_of us
iterations_append ts us = map-append (λ (u : Turn). record { statement = u.statement; number = u.number }) ts us

pub turns_long : (number : ℕ → ℕ) (ls : List Loop) (ts : List Turn) → AreTurnsOf number ls ts → length ts ≡ length ls
turns_long number [] [] h = refl
turns_long number [] (t ∷ ts) h = absurd h
turns_long number (m ∷ ls) [] h = absurd h
turns_long number (m ∷ ls) (t ∷ ts) h = ap suc (turns_long number ls ts h.2)

-- lists that are as long and begin two equal ones are equal
pub same_fronts : {X Y : Type 0} (f : X → Y) (xs ys : List X) (more others : List Y) → length xs ≡ length ys → map f xs ++ more ≡ map f ys ++ others → (map f xs ≡ map f ys) × (more ≡ others)
same_fronts f [] [] more others long e = (refl, e)
same_fronts f [] (y ∷ ys) more others long e = absurd cc
same_fronts f (x ∷ xs) [] more others long e = absurd cc
same_fronts f (x ∷ xs) (y ∷ ys) more others long e =
    let first : f x ≡ f y = cc in
    let rest : map f xs ++ more ≡ map f ys ++ others = cc in
    let less : length xs ≡ length ys = cc in
    let r = same_fronts f xs ys more others less rest in
    ((λ i. first i ∷ r.0 i), r.1)

pub at_of : (ts : List Turn) (m : Manner) (c : Cell) (r : ℕ) → Fine (λ ts c. Unit {0}) ts m c r → At ts c
at_of ts reads c r f = f.1
at_of ts writes c r f = f.1
at_of ts is_told c r f = f.1

pub or_turned : (x y : Bool) → x || y ≡ true → y || x ≡ true
or_turned true true e = refl
or_turned true false e = refl
or_turned false true e = refl
or_turned false false e = e

-- nothing is apart from a place in no DO
pub none_within : (us : List Turn) → are_apart [] us ≡ true → ⊥
none_within us h = absurd cc

-- places that are apart stand in one DO
pub apart_first : (a : Turn) (ts us : List Turn) → are_apart (a ∷ ts) us ≡ true → (c : Turn) × (rest : List Turn) × (us ≡ c ∷ rest) × (a.statement ≡ c.statement)
apart_first a ts [] h = absurd cc
apart_first a ts (c ∷ us) h = (c, us, refl, eqb-true a.statement c.statement (and_parts (eqb a.statement c.statement) (if eqb a.number c.number then are_apart ts us else a.parallel) h).0)

-- where that is no PARALLEL DO, they stand in one iteration of it
pub in_one_iteration : (a c : Turn) (ts us : List Turn) → a.parallel ≡ false → are_apart (a ∷ ts) (c ∷ us) ≡ true → (a.number ≡ c.number) × (are_apart ts us ≡ true)
in_one_iteration a c ts us serial h = go (eqb a.number c.number) refl (and_parts (eqb a.statement c.statement) (if eqb a.number c.number then are_apart ts us else a.parallel) h).1
  where
    go : (b : Bool) → eqb a.number c.number ≡ b → (if b then are_apart ts us else a.parallel) ≡ true → (a.number ≡ c.number) × (are_apart ts us ≡ true)
    go true e k = (eqb-true a.number c.number e, k)
    go false e k = absurd (both_ways a.parallel serial k)

-- places are apart in one iteration of a DO where they are further inside
pub apart_further : (a c : Turn) (ts us : List Turn) → a.statement ≡ c.statement → a.number ≡ c.number → are_apart ts us ≡ true → are_apart (a ∷ ts) (c ∷ us) ≡ true
apart_further a c ts us statement number h =
    let one : eqb a.statement c.statement ≡ true = ap (eqb a.statement) (sym statement) ∙ number_itself a.statement in
    let two : eqb a.number c.number ≡ true = ap (eqb a.number) (sym number) ∙ number_itself a.number in
    λ i. one i && (if two i then h i else a.parallel)
