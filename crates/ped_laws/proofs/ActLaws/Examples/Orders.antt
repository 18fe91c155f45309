-- DO 10 I=1,2; A(I)=I; 10 B(I)=A(I): the statements of its iterations in another order, by each of the laws.
use Rattle.std.proofs.Common.{◌≡◌, ℕ, ◌≤◌, List, [], ◌∷◌, true, false, ◌||◌, refl, sym, ap, ◌∙◌, arith, inl, inr}
use Rattle.std.specs.Prelude.{not, nat_le}
use Rattle.std.proofs.lemmas.Bool.{leb-true, both_ways}
use Rattle.ped_eval.specs.ped_store.specs.Stores.{Store}
use Rattle.ped_eval.specs.ped_store.specs.Acts.{did, Act}
use Rattle.ped_laws.specs.Acts.Fitting.{Fits, store_after}
use Rattle.ped_laws.specs.Acts.Sets.{nothing}
use Rattle.ped_laws.specs.Acts.Conflicts.{acts_conflict, blocks_conflict_outside}
use Rattle.ped_laws.specs.Acts.Orders.{IsIn, StandsBefore, EachOnce, IsReordered, KeepsOrder, Numbered, number_from, numbered_conflict, AreApart}
use Rattle.ped_laws.proofs.ActLaws.Reorderings.{front_fits, between_fits, between_leaves, reordered_fits, reordered_leaves, sorted_fits, reversed_fits, nothing_read}
use Rattle.ped_laws.proofs.ActLaws.Examples.Checks.{in_passes, before_passes, sorted_by, not_is, implied, four_lost}
use Rattle.ped_laws.proofs.ActLaws.Examples.Lists.{i, a, b, told, read, write, turn, act}

-- A(I)=I and B(I)=A(I) in iteration k
abbrev pub sets_a : ℕ → Act
sets_a k = act did 2 (turn 1 k ∷ []) (told i k 1 ∷ told i k 2 ∷ write (a k) k 3 ∷ [])

abbrev pub sets_b : ℕ → Act
sets_b k = act did 3 (turn 1 k ∷ []) (told i k 1 ∷ read (a k) k 2 ∷ told i k 3 ∷ write (b k) k 4 ∷ [])

abbrev pub by_iterations : List Act
by_iterations = sets_a 1 ∷ sets_b 1 ∷ sets_a 2 ∷ sets_b 2 ∷ []

abbrev pub by_statements : List Act
by_statements = sets_a 1 ∷ sets_a 2 ∷ sets_b 1 ∷ sets_b 2 ∷ []

-- the second A to the front of what follows the first: to_the_front
moved : (s : Store) → Fits (sets_b 1 ∷ sets_a 2 ∷ sets_b 2 ∷ []) s → Fits (sets_a 2 ∷ sets_b 1 ∷ sets_b 2 ∷ []) s
moved s = front_fits (sets_b 1 ∷ []) (sets_b 2 ∷ []) (sets_a 2) s free
  where
    free : (x : Act) → IsIn x (sets_b 1 ∷ []) → acts_conflict x (sets_a 2) ≡ false
    free x i = not_is (acts_conflict x (sets_a 2)) (in_passes (λ x. not (acts_conflict x (sets_a 2))) (sets_b 1 ∷ []) refl x i)

-- the blocks of one act in the middle: blocks_exchanged
exchanged : (s : Store) → Fits by_iterations s → Fits by_statements s
exchanged s = between_fits (sets_a 1 ∷ []) (sets_b 1 ∷ []) (sets_a 2 ∷ []) (sets_b 2 ∷ []) s refl

exchanged_same : (s : Store) → store_after by_statements s ≡ store_after by_iterations s
exchanged_same s = between_leaves (sets_a 1 ∷ []) (sets_b 1 ∷ []) (sets_a 2 ∷ []) (sets_b 2 ∷ []) s refl

-- sorted by statements: sorted_by_key
abbrev numbered : ℕ → Act → Numbered
numbered k x = record { number = k; act = x }

abbrev order : List Numbered
order = numbered 0 (sets_a 1) ∷ numbered 2 (sets_a 2) ∷ numbered 1 (sets_b 1) ∷ numbered 3 (sets_b 2) ∷ []

abbrev key : Numbered → ℕ
key x = x.act.place.statement

order_once : EachOnce order
order_once x before =
    let h = sorted_by key order refl x x before in
    elim h [ inl p ↦ omega arith | inr p ↦ let q = p.1 in omega arith ]

reordered : IsReordered (number_from 0 by_iterations) order
reordered = record {
  once = order_once;
  same = record {
    none_lost = four_lost (numbered 0 (sets_a 1)) (numbered 1 (sets_b 1)) (numbered 2 (sets_a 2)) (numbered 3 (sets_b 2));
    none_added = four_lost (numbered 0 (sets_a 1)) (numbered 2 (sets_a 2)) (numbered 1 (sets_b 1)) (numbered 3 (sets_b 2));
  };
}

respected : (x y : Numbered) → StandsBefore x y (number_from 0 by_iterations) → numbered_conflict nothing x y ≡ true → key x ≤ key y
respected x y before h =
    leb-true (key x) (key y)
    (implied (numbered_conflict nothing x y) (nat_le (key x) (key y))
    (before_passes (λ x y. not (numbered_conflict nothing x y) || nat_le (key x) (key y)) (number_from 0 by_iterations) refl x y before) h)

sorted : (s : Store) → Fits by_iterations s → Fits by_statements s
sorted s = sorted_fits nothing key by_iterations order s s reordered (sorted_by key order refl) respected (nothing_read by_iterations) (λ c h. refl)

-- the general law: reordering
kept : KeepsOrder (λ x y. acts_conflict x.act y.act) (number_from 0 by_iterations) order
kept x y (inl p) h = inl (p.0, elim p.1 [ inl e ↦ inr (inl e) | inr k ↦ elim k [ inl e ↦ inl e | inr n ↦ inr (inr n) ] ])
kept x y (inr (inl p)) h = elim p.1 [
  | inl e ↦ absurd (never (ap (λ (z : Numbered). acts_conflict z.act y.act) (sym p.0) ∙ h) (ap (λ (z : Numbered). acts_conflict (sets_b 1) z.act) e))
  | inr k ↦ inr (inr (inl (p.0, k)))
]
  where
    never : acts_conflict (sets_b 1) y.act ≡ true → acts_conflict (sets_b 1) y.act ≡ false → ⊥
    never p q = both_ways (acts_conflict (sets_b 1) y.act) q p
kept x y (inr (inr (inl p))) h = inr (inl (p.0, inr p.1))
kept x y (inr (inr (inr (inl p)))) h = absurd p.1
kept x y (inr (inr (inr (inr k)))) h = absurd k

by_order : (s : Store) → Fits by_iterations s → Fits by_statements s
by_order s = reordered_fits by_iterations order s reordered kept

by_order_same : (s : Store) → store_after by_statements s ≡ store_after by_iterations s
by_order_same s = reordered_leaves by_iterations order s reordered kept

-- the iterations in reverse: blocks_reversed
abbrev iterations : List (List Act)
iterations = (sets_a 1 ∷ sets_b 1 ∷ []) ∷ (sets_a 2 ∷ sets_b 2 ∷ []) ∷ []

iterations_apart : AreApart nothing iterations
iterations_apart x y before = not_is (blocks_conflict_outside nothing x y) (before_passes (λ x y. not (blocks_conflict_outside nothing x y)) iterations refl x y before)

backwards : (s : Store) → Fits by_iterations s → Fits (sets_a 2 ∷ sets_b 2 ∷ sets_a 1 ∷ sets_b 1 ∷ []) s
backwards s = reversed_fits nothing iterations s s iterations_apart (nothing_read by_iterations) (λ c h. refl)
