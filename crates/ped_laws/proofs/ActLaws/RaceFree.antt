-- Lists without a race.
use Rattle.std.proofs.Common.{◌≡◌, ℕ, List, [], ◌∷◌, Bool, true, false, ◌&&◌, ◌||◌, Option, Some, None, eqb, eqb-true, refl, sym, ap, subst, ◌∙◌, arith, inl, inr}
use Rattle.std.specs.Prelude.{if◌then◌else◌}
use Rattle.std.specs.List.{AllByRecursion}
use Rattle.std.proofs.lemmas.List.Elements.{All-from_recursion, recursion_from_All}
use Rattle.std.proofs.lemmas.Bool.{and_parts, both_ways}
use Rattle.ped_eval.specs.ped_store.specs.Cells.{same_cell}
use Rattle.ped_eval.specs.ped_store.specs.Acts.{Turn, Act}
use Rattle.ped_eval.specs.ped_store.specs.Races.{Access, accesses, conflict, are_apart, race, HasNoRace}
use Rattle.ped_laws.specs.Acts.Conflicts.{acts_conflict}
use Rattle.ped_laws.specs.Acts.Orders.{IsIn, StandsBefore}
use Rattle.ped_laws.specs.Acts.Origins.{WritesItsLines, AreOfOneKind, HaveOrigins}
use Rattle.ped_laws.proofs.ActLaws.SameCells.{cell_flip}
use Rattle.ped_laws.proofs.ActLaws.Lists.{first_in, second_in, in_order}
use Rattle.ped_laws.proofs.ActLaws.Renamings.{or_right, or_left, or_either}
use Rattle.ped_laws.proofs.ActLaws.Conflicting.{accesses_of_conflict, access_place, accesses_before}

all_in : {X : Type 0} (P : X → Type 0) (xs : List X) (x : X) → AllByRecursion P xs → IsIn x xs → P x
all_in P [] x h i = absurd i
all_in P (y ∷ ys) x h (inl e) = subst P (sym e) h.0
all_in P (y ∷ ys) x h (inr i) = all_in P ys x h.1 i

all_from : {X : Type 0} (P : X → Type 0) (xs : List X) → ((x : X) → IsIn x xs → P x) → AllByRecursion P xs
all_from P [] h = tt
all_from P (x ∷ xs) h = (h x (inl refl), all_from P xs (λ y i. h y (inr i)))

-- no access races with one behind it
pub no_race_before : (xs : List Access) (p q : Access) → HasNoRace xs → StandsBefore p q xs → race p q ≡ false
no_race_before [] p q h b = absurd b
no_race_before (x ∷ xs) p q h (inl k) =
    subst (λ z. race z q ≡ false) (sym k.0) (all_in (λ b. race x b ≡ false) xs q (recursion_from_All (λ b. race x b ≡ false) xs h.0) k.1)
no_race_before (x ∷ xs) p q h (inr b) = no_race_before xs p q h.1 b

pub no_race_from : (xs : List Access) → ((p q : Access) → StandsBefore p q xs → race p q ≡ false) → HasNoRace xs
no_race_from [] h = tt
no_race_from (x ∷ xs) h = (
  All-from_recursion (λ b. race x b ≡ false) xs (all_from (λ b. race x b ≡ false) xs (λ q i. h x q (inl (refl, i)))),
  no_race_from xs (λ p q b. h p q (inr b)),
)

number_itself : (n : ℕ) → eqb n n ≡ true
number_itself n = grind (arith, eqb-true)

-- no place is apart from itself
not_apart : (ts : List Turn) → are_apart ts ts ≡ false
not_apart [] = refl
not_apart (t ∷ ts) = rw (number_itself t.statement, number_itself t.number) (not_apart ts)

eqb_flip : (m n : ℕ) → eqb m n ≡ eqb n m
eqb_flip m n = grind (arith, eqb-true)

-- where iterations of one DO are of one kind, it doesn't matter which place is the earlier
pub apart_flip : (ts us : List Turn) → AreOfOneKind ts us → are_apart ts us ≡ true → are_apart us ts ≡ true
apart_flip [] us k h = absurd cc
apart_flip (t ∷ ts) [] k h = absurd cc
apart_flip (t ∷ ts) (u ∷ us) k h = go (apart_flip ts us (λ v w i j. k v w (inr i) (inr j))) (eqb t.number u.number) refl
  where
    p : (eqb t.statement u.statement ≡ true) × ((if eqb t.number u.number then are_apart ts us else t.parallel) ≡ true)
    p = and_parts (eqb t.statement u.statement) (if eqb t.number u.number then are_apart ts us else t.parallel) h

    same : eqb u.statement t.statement ≡ true
    same = eqb_flip u.statement t.statement ∙ p.0

    inner : (b : Bool) → eqb t.number u.number ≡ b → (if b then are_apart ts us else t.parallel) ≡ true
    inner b e = subst (λ z. (if z then are_apart ts us else t.parallel) ≡ true) e p.1

    go : (are_apart ts us ≡ true → are_apart us ts ≡ true) → (b : Bool) → eqb t.number u.number ≡ b → are_apart (u ∷ us) (t ∷ ts) ≡ true
    go more true e = rw (same, eqb_flip u.number t.number ∙ e) (more (inner true e))
    go more false e = rw (same, eqb_flip u.number t.number ∙ e) (sym (k t u (inl refl) (inl refl) (eqb-true t.statement u.statement p.0)) ∙ inner false e)

write_flip : (a b : Bool) → a || b ≡ true → b || a ≡ true
write_flip true b h = or_right b true refl
write_flip false b h = or_left b false h

-- a list whose accesses have origins in a list without a race has none
pub origins_race_free : (from : Access → Option Access) (acts others : List Act) → HaveOrigins from acts others → HasNoRace (accesses acts) → HasNoRace (accesses others)
origins_race_free from acts others o free = no_race_from (accesses others) each
  where
    meets : (p q x y : Access) → IsIn p (accesses others) → IsIn q (accesses others) → from p ≡ Some x → from q ≡ Some y → are_apart p.place.turns q.place.turns ≡ true → conflict p q ≡ true → ⊥
    meets p q x y i j e f h k =
        let c = and_parts (same_cell p.cell q.cell) (p.writes || q.writes) k in
        let a = o.apart p q x y i j e f h k in
        let s = o.one_cell p q x y i j e f c.0 in
        let w : x.writes || y.writes ≡ true = elim (or_either p.writes q.writes c.1) [
          | inl k ↦ or_left x.writes y.writes (o.written p x i e k)
          | inr k ↦ or_right x.writes y.writes (o.written q y j f k)
        ] in
        let xy : race x y ≡ true = ap (λ b. b && conflict x y) a.0 ∙ ap (λ b. b && (x.writes || y.writes)) s ∙ w in
        let yx : race y x ≡ true = ap (λ b. b && conflict y x) a.1 ∙ ap (λ b. b && (y.writes || x.writes)) (cell_flip y.cell x.cell ∙ s) ∙ write_flip x.writes y.writes w in
        elim (in_order x y (accesses acts) (o.found p x i e) (o.found q y j f)) [
          | inl e ↦ both_ways (are_apart x.place.turns x.place.turns) (not_apart x.place.turns) (ap (λ (z : Access). are_apart x.place.turns z.place.turns) e ∙ a.0)
          | inr k ↦ elim k [
            | inl b ↦ both_ways (race x y) (no_race_before (accesses acts) x y free b) xy
            | inr b ↦ both_ways (race y x) (no_race_before (accesses acts) y x free b) yx
          ]
        ]

    traced : (p q : Access) (v w : Option Access) → IsIn p (accesses others) → IsIn q (accesses others) → from p ≡ v → from q ≡ w → are_apart p.place.turns q.place.turns ≡ true → conflict p q ≡ true → ⊥
    traced p q None w i j e f h k = both_ways (conflict p q) (o.alone p q i j e h) k
    traced p q (Some x) None i j e f h k = both_ways (conflict p q) (o.alone_behind p q i j f h) k
    traced p q (Some x) (Some y) i j e f h k = meets p q x y i j e f h k

    each : (p q : Access) → StandsBefore p q (accesses others) → race p q ≡ false
    each p q b = go (race p q) refl
      where
        go : (r : Bool) → race p q ≡ r → race p q ≡ false
        go true h =
            let r = and_parts (are_apart p.place.turns q.place.turns) (conflict p q) h in
            absurd (traced p q (from p) (from q) (first_in p q (accesses others) b) (second_in p q (accesses others) b) refl refl r.0 r.1)
        go false h = h

-- acts in two iterations of one execution of a PARALLEL DO don't conflict in a list without a race
pub race_free_acts : (acts : List Act) (a b : Act) → HasNoRace (accesses acts) → StandsBefore a b acts → are_apart a.place.turns b.place.turns ≡ true → WritesItsLines a → WritesItsLines b → acts_conflict a b ≡ false
race_free_acts acts a b free before apart la lb = go (acts_conflict a b) refl
  where
    go : (r : Bool) → acts_conflict a b ≡ r → acts_conflict a b ≡ false
    go false h = h
    go true h =
        let k = accesses_of_conflict a b la lb h in
        let p = k.0 in
        let q = k.1 in
        let n = no_race_before (accesses acts) p q free (accesses_before acts a b p q before k.2 k.3) in
        let e : are_apart p.place.turns q.place.turns ≡ true = ap (λ z. are_apart z.turns q.place.turns) (access_place a p k.2) ∙ ap (λ z. are_apart a.place.turns z.turns) (access_place b q k.3) ∙ apart in
        absurd (both_ways (race p q) n (ap (λ z. z && conflict p q) e ∙ k.4))
