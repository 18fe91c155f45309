-- Where the acts of the new DO loops come from: from entries and ends, which touch what names stand for there, or from what units did.
use Rattle.std.proofs.Common.{◌≡◌, ◌⊎◌, ℕ, ◌-◌, List, [], ◌∷◌, filter, cond, Bool, true, false, inl, inr, refl, sym, ap, subst, ◌∙◌}
use Rattle.ped_tree.specs.Tree.{Head}
use Rattle.ped_rules.specs.ped_loop_runs.proofs.PastingLaws.LeftCopies.{IsOwn, entry_own, exit_when_own}
use Rattle.ped_rules.specs.ped_bodies.proofs.BodyLaws.TripLists.{end_in_order}
use Rattle.ped_rules.specs.ped_bodies.specs.Likewise.{AllMeet, AreLikewise, Meet}
use Rattle.ped_rules.specs.ped_bodies.specs.Trips.{bounds_seen, loop_entry, trip_end}
use Rattle.ped_rules.specs.ped_laws.proofs.ActLaws.Lists.{in_parts}
use Rattle.ped_rules.specs.ped_laws.specs.Acts.Fitting.{has_cell, of_cells}
use Rattle.ped_rules.specs.ped_laws.specs.Acts.Orders.{IsIn}
use Rattle.ped_rules.specs.ped_laws.specs.Acts.Sets.{nothing}
use Rattle.ped_rules.specs.ped_laws.specs.Runs.Replaying.{act}
use Rattle.ped_rules.specs.ped_eval.specs.Loops.{Entered, exit_when_none}
use Rattle.ped_rules.specs.ped_eval.specs.Scopes.{Scope, Setting}
use Rattle.ped_rules.specs.ped_store.specs.Acts.{Act, Manner, Place, Touch, Turn, ended_turn, is_told, reads, writes}
use Rattle.ped_rules.specs.ped_store.specs.Cells.{Cell}
use Rattle.ped_rules.specs.ped_store.specs.Races.{is_write}
use Rattle.ped_rules.specs.ped_store.specs.Stores.{Store}
use Rattle.ped_rules.specs.ped_weaves.specs.Weaves.{Knot, block, control, knotted}
use Rattle.ped_splits.proofs.SplitControls.{control_is}
use Rattle.ped_splits.proofs.SplitKnots.{loop_knots}

-- what is among the items that pass a test, and what is there before
pub passes : {X : Type 0} (f : X → Bool) (xs : List X) (y : X) → IsIn y xs → f y ≡ true → IsIn y (filter f xs)
passes f [] y i h = absurd i
passes f (x ∷ xs) y (inl e) h = by (f x) (ap f (sym e) ∙ h)
  where
    by : (b : Bool) → b ≡ true → IsIn y (cond b (x ∷ filter f xs) (filter f xs))
    by true k = inl e
    by false k = absurd cc
passes f (x ∷ xs) y (inr i) h = by (passes f xs y i h) (f x)
  where
    by : IsIn y (filter f xs) → (b : Bool) → IsIn y (cond b (x ∷ filter f xs) (filter f xs))
    by k true = inr k
    by k false = k

pub passed : {X : Type 0} (f : X → Bool) (xs : List X) (y : X) → IsIn y (filter f xs) → IsIn y xs
passed f [] y i = i
passed f (x ∷ xs) y i = by (passed f xs y) (f x) i
  where
    by : (IsIn y (filter f xs) → IsIn y xs) → (b : Bool) → IsIn y (cond b (x ∷ filter f xs) (filter f xs)) → (y ≡ x) ⊎ IsIn y xs
    by more true (inl e) = inl e
    by more true (inr k) = inr (more k)
    by more false k = inr (more k)

-- an act of a woven list is one of a block, or of a control
pub in_knots : (acts : ℕ → ℕ → List Act) (ks : List Knot) (a : Act) → IsIn a (knotted acts ks) → ((i : ℕ) × (j : ℕ) × IsIn (block i j) ks × IsIn a (acts i j)) ⊎ ((c : List Act) × IsIn (control c) ks × IsIn a c)
in_knots acts [] a i = absurd i
in_knots acts (block m n ∷ ks) a i = elim (in_parts a (acts m n) (knotted acts ks) i) [
  | inl k ↦ inl (m, n, inl refl, k)
  | inr k ↦ elim (in_knots acts ks a k) [ inl r ↦ inl (r.0, r.1, inr r.2, r.3) | inr r ↦ inr (r.0, inr r.1, r.2) ]
]
in_knots acts (control c ∷ ks) a i = elim (in_parts a c (knotted acts ks) i) [
  | inl k ↦ inr (c, inl refl, k)
  | inr k ↦ elim (in_knots acts ks a k) [ inl r ↦ inl (r.0, r.1, inr r.2, r.3) | inr r ↦ inr (r.0, inr r.1, r.2) ]
]

-- controls touch what names stand for at the place of the DO
pub control_own : (p : Setting) (scope : Scope) (h : Head) (u : Store) (e : Entered) → e.head.parallel ≡ false → (at : Place) (ks : List ℕ) (c : List Act) → IsIn (control c) (loop_knots e scope at (bounds_seen p h scope u) ks) → (a : Act) → IsIn a c → (y : Touch) → IsIn y a.touches → IsOwn p scope y.cell
control_own p scope h u e serial at ks c i a j y k = by (control_is e scope at (bounds_seen p h scope u) ks c i)
  where
    of_entry : IsIn a (loop_entry (bounds_seen p h scope u) e scope at ∷ []) → IsOwn p scope y.cell
    of_entry (inl q) = entry_own p scope h u e y (subst (λ (b : Act). IsIn y b.touches) q k)
    of_entry (inr none) = absurd none

    of_end : (n : ℕ) → IsIn a (act (ended_turn (e.count - n)) at (exit_when_none (e.count - n) e scope) ∷ []) → IsOwn p scope y.cell
    of_end n (inl q) = exit_when_own p scope (e.count - n) e y (subst (λ (b : Act). IsIn y b.touches) q k)
    of_end n (inr none) = absurd none

    by : (c ≡ loop_entry (bounds_seen p h scope u) e scope at ∷ []) ⊎ ((n : ℕ) × (c ≡ trip_end e scope at n)) → IsOwn p scope y.cell
    by (inl q) = of_entry (subst (IsIn a) q j)
    by (inr r) = of_end r.0 (subst (IsIn a) (r.1 ∙ end_in_order e scope at r.0 (e.count - r.0) serial refl) j)

-- a write is a touch of a cell
pub write_has : (m : Manner) → is_write m ≡ true → has_cell m ≡ true
write_has reads h = refl
write_has writes h = refl
write_has is_told h = absurd cc

-- what acts that are done likewise touch, the others touch by its own name
module _ (name : Cell → Cell) where
  touch_source : (xs ys : List Touch) → AllMeet name nothing xs ys → (y : Touch) → IsIn y ys → (z : Touch) × IsIn z xs × (y.cell ≡ name z.cell)
  touch_source [] [] h y i = absurd i
  touch_source [] (w ∷ ys) h y i = absurd h
  touch_source (x ∷ xs) [] h y i = absurd i
  touch_source (x ∷ xs) (w ∷ ys) h y (inl q) = (x, inl refl, ap (λ (z : Touch). z.cell) q ∙ by h.0.cells)
    where
      by : Meet name nothing x.cell w.cell → w.cell ≡ name x.cell
      by (inl e) = e
      by (inr e) = absurd cc
  touch_source (x ∷ xs) (w ∷ ys) h y (inr i) = let r = touch_source xs ys h.1 y i in (r.0, inr r.1, r.2)

  pub likewise_source : (f : ℕ → ℕ) (turns others : List Turn) (acts fresh : List Act) → AreLikewise name nothing f turns others acts fresh → (b : Act) → IsIn b fresh → (y : Touch) → IsIn y b.touches → has_cell y.manner ≡ true
      → (a : Act) × IsIn a acts × (z : Touch) × IsIn z a.touches × (y.cell ≡ name z.cell)
  likewise_source f turns others [] [] h b i y j m = absurd i
  likewise_source f turns others [] (c ∷ fresh) h b i y j m = absurd h
  likewise_source f turns others (a ∷ acts) [] h b i y j m = absurd i
  likewise_source f turns others (a ∷ acts) (c ∷ fresh) h b (inl q) y j m =
      let r = touch_source (of_cells a.touches) (of_cells c.touches) h.0.touches y (passes (λ (z : Touch). has_cell z.manner) c.touches y (subst (λ (d : Act). IsIn y d.touches) q j) m) in
      (a, inl refl, r.0, passed (λ (z : Touch). has_cell z.manner) a.touches r.0 r.1, r.2)
  likewise_source f turns others (a ∷ acts) (c ∷ fresh) h b (inr i) y j m = let r = likewise_source f turns others acts fresh h.1 b i y j m in (r.0, inr r.1, r.2, r.3, r.4)
