-- Whether index values of one loop meet: over a finite range that is settled by looking at each pair of its values.
use Rattle.std.proofs.Common.{◌≡◌, refl, ℤ, pos, ◌+ℤ◌, ◌-ℤ◌, ◌*ℤ◌, List, Bool, true, IsTrue}
use Rattle.std.specs.List.{AllByRecursion}
use Rattle.ped_rules.specs.ped_views.specs.declared.directions.Direction.{Direction}
use Rattle.ped_rules.specs.ped_views.specs.declared.directions.Direction.TheVariants.{Before, Same, After}
use Rattle.ped_rules.specs.ped_views.specs.declared.strong_rows.StrongRow.{StrongRow}
use Rattle.ped_rules.specs.ped_views.specs.Whole.{Divides}
use Rattle.ped_rules.specs.ped_views.specs.Views.{Range}
use Rattle.ped_rules.specs.ped_views.specs.Excluded.{StandsByValue, by_value, Stands, InRange, NeverMeets, NeverMeetTogether}
use Rattle.ped_splits.proofs.Existence.Sentences.{Decided}
use Rattle.ped_splits.proofs.Existence.Deciding.{decided_same, decided_not, decided_both, decided_where, true_decided, less_decided, equal_decided, divides_decided, all_decided}
use Rattle.ped_splits.proofs.Existence.Reaching.{Reach, Within, reach_same, reach_alone, reach_where, reach_within, some_decided}

by_value_decided : (d : Direction) (i j : ℤ) → Decided (StandsByValue d i j)
by_value_decided Before i j = less_decided i j
by_value_decided Same i j = equal_decided i j
by_value_decided After i j = less_decided j i

pub stands_decided : (r : Range) (d : Direction) (i j : ℤ) → Decided (Stands r d i j)
stands_decided r d i j = by_value_decided (by_value r.step d) i j

-- a number that two values of the range make, where they stand so
pub record Made (r : Range) (S : ℤ → ℤ → Type 0) (f : ℤ → ℤ → ℤ) (v : ℤ) : Type 0 where
  pub i : ℤ
  pub j : ℤ
  pub source : InRange r i
  pub sink : InRange r j
  pub stand : S i j
  pub is : f i j ≡ v

pub reach_made : (s : Bool) (r : Range) (S : ℤ → ℤ → Type 0) (f : ℤ → ℤ → ℤ) → ((i j : ℤ) → Decided (S i j)) → Reach s (Made r S f)
reach_made s r S f each =
    reach_same s (Within r.lo r.hi (λ i. Within r.lo r.hi (λ j. λ v. S i j × (f i j ≡ v)))) (Made r S f)
    (λ v x. let (i, a, b, y) = x in let (j, k, l, z) = y in record { i = i; j = j; source = record { from = a; to = b }; sink = record { from = k; to = l }; stand = z.0; is = z.1 })
    (λ v u. (u.i, u.source.from, u.source.to, (u.j, u.sink.from, u.sink.to, (u.stand, u.is))))
    (reach_within s r.lo r.hi (λ i. Within r.lo r.hi (λ j. λ v. S i j × (f i j ≡ v)))
    (λ i. reach_within s r.lo r.hi (λ j. λ v. S i j × (f i j ≡ v)) (λ j. reach_where s (S i j) (λ v. f i j ≡ v) (each i j) (reach_alone s (f i j)))))

-- values of the range stand so, or none do
never_decided : (r : Range) (S : ℤ → ℤ → Type 0) → ((i j : ℤ) → Decided (S i j)) → Decided ((i j : ℤ) → InRange r i → InRange r j → ¬ (S i j))
never_decided r S each =
    decided_same
    (λ none i j p q t. none (pos 0, record { i = i; j = j; source = p; sink = q; stand = t; is = refl }))
    (λ never x. never x.1.i x.1.j x.1.source x.1.sink x.1.stand)
    (decided_not (some_decided true (Made r S (λ i j. pos 0)) (reach_made true r S (λ i j. pos 0) each)))

pub never_meets_decided : (a b c1 c2 : ℤ) (r : Range) (d : Direction) → Decided (NeverMeets a b c1 c2 r d)
never_meets_decided a b c1 c2 r d =
    decided_same
    (λ never i j m. never i j m.source m.sink (m.stands, m.equal))
    (λ never i j p q t. never i j (record { source = p; sink = q; stands = t.0; equal = t.1 }))
    (never_decided r (λ i. λ j. Stands r d i j × (a *ℤ i +ℤ c1 ≡ b *ℤ j +ℤ c2)) (λ i j. decided_both (stands_decided r d i j) (equal_decided (a *ℤ i +ℤ c1) (b *ℤ j +ℤ c2))))

-- what two values owe to meet in a group of rows
abbrev Together : List StrongRow → Range → Direction → ℤ → ℤ → Type 0
Together rows r d i j = Stands r d i j × ((IsTrue r.steady → Divides r.step (j -ℤ i)) × AllByRecursion (λ s. s.a *ℤ i +ℤ s.c1 ≡ s.a *ℤ j +ℤ s.c2) rows)

together_decided : (rows : List StrongRow) (r : Range) (d : Direction) (i j : ℤ) → Decided (Together rows r d i j)
together_decided rows r d i j =
    decided_both (stands_decided r d i j)
    (decided_both (decided_where (true_decided r.steady) (divides_decided r.step (j -ℤ i)))
    (all_decided (λ s. s.a *ℤ i +ℤ s.c1 ≡ s.a *ℤ j +ℤ s.c2) (λ s. equal_decided (s.a *ℤ i +ℤ s.c1) (s.a *ℤ j +ℤ s.c2)) rows))

pub never_meet_together_decided : (rows : List StrongRow) (r : Range) (d : Direction) → Decided (NeverMeetTogether rows r d)
never_meet_together_decided rows r d =
    decided_same
    (λ never i j m. never i j m.source m.sink (m.stands, (m.in_step, m.equal)))
    (λ never i j p q t. never i j (record { source = p; sink = q; stands = t.0; in_step = t.1.0; equal = t.1.1 }))
    (never_decided r (Together rows r d) (together_decided rows r d))
