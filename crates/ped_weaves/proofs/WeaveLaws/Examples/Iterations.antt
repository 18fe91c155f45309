-- PARALLEL DO 10 I=1,2; 10 A(I)=I is reversed, and DO 20 J=1,N goes round its body: each write of A comes from the write of that element, and the reads of N, which nothing writes, from nowhere.
use Rattle.std.proofs.Common.{◌≡◌, ℕ, pos, List, [], ◌∷◌, true, false, ◌&&◌, refl, sym, ap, subst, ◌∙◌, ◌⊎◌, inl, inr}
use Rattle.std.specs.Prelude.{not}
use Rattle.std.specs.List.{list_all}
use Rattle.std.proofs.lemmas.Bool.{both_ways}
use Rattle.ped_laws.specs.ped_store.specs.Cells.{same_cell}
use Rattle.ped_laws.specs.ped_store.specs.Acts.{did, entered, Turn, Act}
use Rattle.ped_laws.specs.ped_store.specs.Races.{Access, accesses, conflict, are_apart, race, HasNoRace}
use Rattle.ped_laws.specs.Acts.Orders.{IsIn}
use Rattle.ped_laws.proofs.ActLaws.RaceFree.{no_race_from}
use Rattle.ped_weaves.specs.Sources.{IsFreeOf, HaveSources}
use Rattle.ped_weaves.proofs.WeaveLaws.RaceSources.{sources_free}
use Rattle.ped_weaves.proofs.WeaveLaws.Examples.Checks.{in_passes, before_passes, not_is}
use Rattle.ped_weaves.proofs.WeaveLaws.Examples.Lists.{n, a, read, write, act}

abbrev iteration : ℕ → Turn
iteration k = record { statement = 1; parallel = true; number = k; value = pos k }

-- A(I)=I in iteration k, where I is l
abbrev sets : ℕ → ℕ → Act
sets k l = act did 2 (iteration k ∷ []) (write (a l) l 1 ∷ [])

-- the same in a loop inside, whose entry reads N
abbrev enters : ℕ → Act
enters k = act (entered 1) 2 (iteration k ∷ []) (read n 1 1 ∷ [])

abbrev sets_inside : ℕ → ℕ → Act
sets_inside k l = act did 3 (iteration k ∷ record { statement = 2; parallel = false; number = 1; value = pos 1 } ∷ []) (write (a l) l 1 ∷ [])

abbrev old : List Act
old = sets 1 1 ∷ sets 2 2 ∷ []

abbrev new : List Act
new = enters 1 ∷ sets_inside 1 2 ∷ enters 2 ∷ sets_inside 2 1 ∷ []

abbrev write_of : ℕ → Access
write_of l = record { cell = a l; writes = true; place = (sets l l).place; reference = 1 }

-- a write comes from the write of the same cell
abbrev comes : Access → Access → Type 0
comes b x = b.cell ≡ x.cell

-- N is read alone
free : (k : ℕ) → (k ≡ 1) ⊎ (k ≡ 2) → (b : Access) → b ≡ record { cell = n; writes = false; place = (enters k).place; reference = 1 } → IsFreeOf new b
free k one b e = subst (IsFreeOf new) (sym e) (λ c j. (λ h. unwritten c j, (λ h. flipped c j)))
  where
    unwritten : (c : Access) → IsIn c (accesses new) → conflict (record { cell = n; writes = false; place = (enters k).place; reference = 1 }) c ≡ false
    unwritten c j = not_is (conflict (record { cell = n; writes = false; place = (enters k).place; reference = 1 }) c) (in_passes (λ c. not (conflict (record { cell = n; writes = false; place = (enters k).place; reference = 1 }) c)) (accesses new) refl c j)

    flipped : (c : Access) → IsIn c (accesses new) → conflict c (record { cell = n; writes = false; place = (enters k).place; reference = 1 }) ≡ false
    flipped c j = not_is (conflict c (record { cell = n; writes = false; place = (enters k).place; reference = 1 })) (in_passes (λ c. not (conflict c (record { cell = n; writes = false; place = (enters k).place; reference = 1 }))) (accesses new) refl c j)

source : (b : Access) → IsIn b (accesses new) → ((x : Access) × IsIn x (accesses old) × comes b x) ⊎ IsFreeOf new b
source b (inl e) = inr (free 1 (inl refl) b e)
source b (inr (inl e)) = inl (write_of 2, inr (inl refl), ap (λ (z : Access). z.cell) e)
source b (inr (inr (inl e))) = inr (free 2 (inr refl) b e)
source b (inr (inr (inr (inl e)))) = inl (write_of 1, inl refl, ap (λ (z : Access). z.cell) e)
source b (inr (inr (inr (inr k)))) = absurd k

-- no two new accesses conflict in two iterations
never : (b c : Access) → IsIn b (accesses new) → IsIn c (accesses new) → are_apart b.place.turns c.place.turns ≡ true → conflict b c ≡ true → ⊥
never b c i j h k =
    let p = in_passes (λ c. not (race b c)) (accesses new) (in_passes (λ b. list_all (λ c. not (race b c)) (accesses new)) (accesses new) refl b i) c j in
    both_ways (race b c) (not_is (race b c) p) (ap (λ z. z && conflict b c) h ∙ k)

sources : HaveSources comes old new
sources = record {
  source = source;
  written = λ b x i j e h. in_passes (λ x. x.writes) (accesses old) refl x j;
  one_cell = λ b c x y i j k l p q h. ap (λ z. same_cell z y.cell) (sym p) ∙ ap (same_cell b.cell) (sym q) ∙ h;
  apart = λ b c x y i j k l p q h m. absurd (never b c i j h m);
}

free_of_races : HasNoRace (accesses old)
free_of_races = no_race_from (accesses old) (λ p q before. not_is (race p q) (before_passes (λ p q. not (race p q)) (accesses old) refl p q before))

pub none_comes : HasNoRace (accesses new)
none_comes = sources_free comes old new sources free_of_races
