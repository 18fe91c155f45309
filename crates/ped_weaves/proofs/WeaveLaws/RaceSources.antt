-- Lists whose accesses come from a list without a race.
use Rattle.std.proofs.Common.{◌≡◌, ℕ, List, [], ◌∷◌, Bool, true, false, ◌&&◌, ◌||◌, refl, ap, ◌∙◌, ◌⊎◌, inl, inr, eqb, eqb-true, arith}
use Rattle.std.proofs.lemmas.Bool.{and_parts, both_ways}
use Rattle.ped_laws.specs.ped_store.specs.Cells.{same_cell}
use Rattle.ped_laws.specs.ped_store.specs.Acts.{Turn, Act}
use Rattle.ped_laws.specs.ped_store.specs.Races.{Access, accesses, conflict, are_apart, race, HasNoRace}
use Rattle.ped_laws.specs.Acts.Orders.{IsIn, StandsBefore}
use Rattle.ped_laws.proofs.ActLaws.SameCells.{cell_flip}
use Rattle.ped_laws.proofs.ActLaws.Lists.{first_in, second_in, in_order}
use Rattle.ped_laws.proofs.ActLaws.Renamings.{or_right, or_left, or_either}
use Rattle.ped_laws.proofs.ActLaws.RaceFree.{no_race_before, no_race_from}
use Rattle.ped_weaves.specs.Sources.{IsFreeOf, HaveSources, RaceSomewhere}

or_flip : (a b : Bool) → a || b ≡ true → b || a ≡ true
or_flip true b h = or_right b true refl
or_flip false b h = or_left b false h

conflict_flip : (x y : Access) → conflict x y ≡ true → conflict y x ≡ true
conflict_flip x y h =
    let k = and_parts (same_cell x.cell y.cell) (x.writes || y.writes) h in
    ap (λ b. b && (y.writes || x.writes)) (cell_flip y.cell x.cell ∙ k.0) ∙ or_flip x.writes y.writes k.1

races : (x y : Access) → are_apart x.place.turns y.place.turns ≡ true → conflict x y ≡ true → race x y ≡ true
races x y a h = ap (λ b. b && conflict x y) a ∙ h

number_itself : (n : ℕ) → eqb n n ≡ true
number_itself n = grind (arith, eqb-true)

-- no place is apart from itself
not_apart : (ts : List Turn) → are_apart ts ts ≡ false
not_apart [] = refl
not_apart (t ∷ ts) = rw (number_itself t.statement, number_itself t.number) (not_apart ts)

-- a list without a race has no two accesses that race, whichever is the earlier
nowhere : (acts : List Act) → HasNoRace (accesses acts) → RaceSomewhere acts → ⊥
nowhere acts free r = elim (in_order r.one r.other (accesses acts) r.one_in r.other_in) [
  | inl e ↦ both_ways (are_apart r.one.place.turns r.one.place.turns) (not_apart r.one.place.turns) (ap (λ (z : Access). are_apart r.one.place.turns z.place.turns) e ∙ r.apart.0)
  | inr k ↦ elim k [
    | inl b ↦ both_ways (race r.one r.other) (no_race_before (accesses acts) r.one r.other free b) (races r.one r.other r.apart.0 r.conflicting)
    | inr b ↦ both_ways (race r.other r.one) (no_race_before (accesses acts) r.other r.one free b) (races r.other r.one r.apart.1 (conflict_flip r.one r.other r.conflicting))
  ]
]

pub pairs_free : (acts others : List Act) → ((b c : Access) → StandsBefore b c (accesses others) → race b c ≡ true → RaceSomewhere acts) → HasNoRace (accesses acts) → HasNoRace (accesses others)
pairs_free acts others h free = no_race_from (accesses others) (λ b c k. go b c k (race b c) refl)
  where
    go : (b c : Access) → StandsBefore b c (accesses others) → (r : Bool) → race b c ≡ r → race b c ≡ false
    go b c k true p = absurd (nowhere acts free (h b c k p))
    go b c k false p = p

pub sources_free : (comes : Access → Access → Type 0) (acts others : List Act) → HaveSources comes acts others → HasNoRace (accesses acts) → HasNoRace (accesses others)
sources_free comes acts others o = pairs_free acts others each
  where
    meets : (b c : Access) → IsIn b (accesses others) → IsIn c (accesses others) → are_apart b.place.turns c.place.turns ≡ true → conflict b c ≡ true
        → ((x : Access) × IsIn x (accesses acts) × comes b x) ⊎ IsFreeOf others b → ((y : Access) × IsIn y (accesses acts) × comes c y) ⊎ IsFreeOf others c → RaceSomewhere acts
    meets b c i j a h (inr free) q = absurd (both_ways (conflict b c) ((free c j).0 a) h)
    meets b c i j a h (inl p) (inr free) = absurd (both_ways (conflict b c) ((free b i).1 a) h)
    meets b c i j a h (inl p) (inl q) =
        let k = and_parts (same_cell b.cell c.cell) (b.writes || c.writes) h in
        let w : p.0.writes || q.0.writes ≡ true = elim (or_either b.writes c.writes k.1) [
          | inl e ↦ or_left p.0.writes q.0.writes (o.written b p.0 i p.1 p.2 e)
          | inr e ↦ or_right p.0.writes q.0.writes (o.written c q.0 j q.1 q.2 e)
        ] in
        record {
          one = p.0;
          other = q.0;
          one_in = p.1;
          other_in = q.1;
          apart = o.apart b c p.0 q.0 i j p.1 q.1 p.2 q.2 a h;
          conflicting = ap (λ z. z && (p.0.writes || q.0.writes)) (o.one_cell b c p.0 q.0 i j p.1 q.1 p.2 q.2 k.0) ∙ w;
        }

    each : (b c : Access) → StandsBefore b c (accesses others) → race b c ≡ true → RaceSomewhere acts
    each b c k h =
        let r = and_parts (are_apart b.place.turns c.place.turns) (conflict b c) h in
        let i = first_in b c (accesses others) k in
        let j = second_in b c (accesses others) k in
        meets b c i j r.0 r.1 (o.source b i) (o.source c j)
