-- The two loops as lists that are woven of the bodies in their pairs of iterations: by rows before the step, and by columns behind it.
use Rattle.std.proofs.Common.{Bool, List, [], ap, append-nil, append_assoc, arith, false, if◌then◌else◌, inl, inr, refl, subst, suc, sym, true, ℕ, ◌++◌, ◌-◌, ◌<◌, ◌==◌, ◌∙◌, ◌∷◌, ◌≡◌, ◌≤◌}
use Rattle.ped_base.specs.Lists.{is_among}
use Rattle.ped_loop_runs.proofs.LoopLaws.LoopParts.{numbered_reads}
use Rattle.ped_loop_runs.proofs.LoopLaws.OneForOneCells.{cell_among}
use Rattle.ped_loop_runs.proofs.LoopLaws.OneForOneKnots.{one_at, two_at}
use Rattle.ped_loop_runs.specs.ped_bodies.proofs.BodyLaws.TripLists.{end_in_order}
use Rattle.ped_loop_runs.specs.ped_bodies.specs.Moving.{is_cell_among}
use Rattle.ped_loop_runs.specs.ped_bodies.specs.Trips.{loop_acts, loop_close, loop_entry, trip_end, trips}
use Rattle.ped_loop_runs.specs.ped_laws.proofs.ActLaws.Lists.{in_parts}
use Rattle.ped_loop_runs.specs.ped_laws.specs.Acts.Conflicts.{WriteWithin}
use Rattle.ped_loop_runs.specs.ped_laws.specs.Acts.Fitting.{touches_of}
use Rattle.ped_loop_runs.specs.ped_laws.specs.Acts.Orders.{IsIn}
use Rattle.ped_loop_runs.specs.ped_laws.specs.Runs.Replaying.{act}
use Rattle.ped_loop_runs.specs.ped_eval.specs.Evaluation.{Seen, cell_seen, index_seen, numbered}
use Rattle.ped_loop_runs.specs.ped_eval.specs.Loops.{Entered, entry_touches, exit_touches, exit_when_none, undefined_all, undefined_by}
use Rattle.ped_loop_runs.specs.ped_eval.specs.Scopes.{Scope}
use Rattle.ped_loop_runs.specs.ped_store.specs.Acts.{Act, Place, Touch, ended_turn, reads}
use Rattle.ped_loop_runs.specs.ped_store.specs.Cells.{Cell}

-- one list stands in another, and two of them one behind the other
pub record IsPart {X : Type 0} (whole part : List X) : Type 0 where
  pub before : List X
  pub behind : List X
  pub is : whole ≡ before ++ (part ++ behind)

pub record AreParts {X : Type 0} (whole one other : List X) : Type 0 where
  pub before : List X
  pub between : List X
  pub behind : List X
  pub is : whole ≡ before ++ (one ++ (between ++ (other ++ behind)))

pub part_inside : {X : Type 0} (whole middle part : List X) → IsPart whole middle → IsPart middle part → IsPart whole part
part_inside whole middle part a b = record {
  before = a.before ++ b.before;
  behind = b.behind ++ a.behind;
  is = a.is ∙ ap (λ xs. a.before ++ (xs ++ a.behind)) b.is ∙ ap (λ xs. a.before ++ xs) (append_assoc b.before (part ++ b.behind) a.behind ∙ ap (λ xs. b.before ++ xs) (append_assoc part b.behind a.behind)) ∙ sym (append_assoc a.before b.before (part ++ (b.behind ++ a.behind)));
}

pub parts_inside : {X : Type 0} (whole m n one other : List X) → AreParts whole m n → IsPart m one → IsPart n other → AreParts whole one other
parts_inside whole m n one other a b c = record {
  before = a.before ++ b.before;
  between = b.behind ++ (a.between ++ c.before);
  behind = c.behind ++ a.behind;
  is = a.is ∙ (λ i. a.before ++ (b.is i ++ (a.between ++ (c.is i ++ a.behind)))) ∙ arranged a.before b.before one b.behind a.between c.before other c.behind a.behind;
}
  where
    arranged : {X : Type 0} (p q r s t u v w x : List X) → p ++ ((q ++ (r ++ s)) ++ (t ++ ((u ++ (v ++ w)) ++ x))) ≡ (p ++ q) ++ (r ++ ((s ++ (t ++ u)) ++ (v ++ (w ++ x))))
    arranged p q r s t u v w x =
        let last : (u ++ (v ++ w)) ++ x ≡ u ++ (v ++ (w ++ x)) = append_assoc u (v ++ w) x ∙ ap (λ ys. u ++ ys) (append_assoc v w x) in
        let middle : s ++ (t ++ (u ++ (v ++ (w ++ x)))) ≡ (s ++ (t ++ u)) ++ (v ++ (w ++ x)) = ap (λ ys. s ++ ys) (sym (append_assoc t u (v ++ (w ++ x)))) ∙ sym (append_assoc s (t ++ u) (v ++ (w ++ x))) in
        ap (λ ys. p ++ ((q ++ (r ++ s)) ++ (t ++ ys))) last
        ∙ ap (λ ys. p ++ ys) (append_assoc q (r ++ s) (t ++ (u ++ (v ++ (w ++ x)))) ∙ ap (λ ys. q ++ ys) (append_assoc r s (t ++ (u ++ (v ++ (w ++ x)))) ∙ ap (λ ys. r ++ ys) middle))
        ∙ sym (append_assoc p q (r ++ ((s ++ (t ++ u)) ++ (v ++ (w ++ x)))))

pub parts_around : {X : Type 0} (whole middle one other : List X) → IsPart whole middle → AreParts middle one other → AreParts whole one other
parts_around whole middle one other a b = record {
  before = a.before ++ b.before;
  between = b.between;
  behind = b.behind ++ a.behind;
  is = a.is ∙ ap (λ xs. a.before ++ (xs ++ a.behind)) b.is ∙ arranged a.before b.before one b.between other b.behind a.behind;
}
  where
    arranged : {X : Type 0} (p q r s t u v : List X) → p ++ ((q ++ (r ++ (s ++ (t ++ u)))) ++ v) ≡ (p ++ q) ++ (r ++ (s ++ (t ++ (u ++ v))))
    arranged p q r s t u v =
        ap (λ ys. p ++ ys) (append_assoc q (r ++ (s ++ (t ++ u))) v ∙ ap (λ ys. q ++ ys) (append_assoc r (s ++ (t ++ u)) v ∙ ap (λ ys. r ++ ys) (append_assoc s (t ++ u) v ∙ ap (λ ys. s ++ ys) (append_assoc t u v))))
        ∙ sym (append_assoc p q (r ++ (s ++ (t ++ (u ++ v)))))

-- a trip of a loop, and two of them
module _ (seen : List Seen) (e : Entered) (scope : Scope) (at : Place) (trip : ℕ → List Act) where
  abbrev with_end : ℕ → List Act
  with_end j = trip j ++ trip_end e scope at j

  of_first : (j : ℕ) → IsPart (with_end j) (trip j)
  of_first j = record { before = []; behind = trip_end e scope at j; is = refl }

  in_trips : IsPart (loop_acts seen e scope at trip) (trips e scope at trip 1 e.count)
  in_trips = record { before = loop_entry seen e scope at ∷ []; behind = loop_close e scope at; is = refl }

  pub trip_in_loop : (j : ℕ) → 1 ≤ j → j ≤ e.count → IsPart (loop_acts seen e scope at trip) (trip j)
  trip_in_loop j from to =
      let r = one_at with_end e.count 1 j from (omega (arith, to)) in
      part_inside (loop_acts seen e scope at trip) (trips e scope at trip 1 e.count) (trip j) in_trips
      (part_inside (trips e scope at trip 1 e.count) (with_end j) (trip j) (record { before = r.0; behind = r.1; is = r.2 }) (of_first j))

  pub trips_in_loop : (j k : ℕ) → 1 ≤ j → j < k → k ≤ e.count → AreParts (loop_acts seen e scope at trip) (trip j) (trip k)
  trips_in_loop j k from less to =
      let r = two_at with_end e.count 1 j k from less (omega (arith, to)) in
      parts_around (loop_acts seen e scope at trip) (trips e scope at trip 1 e.count) (trip j) (trip k) in_trips
      (parts_inside (trips e scope at trip 1 e.count) (with_end j) (with_end k) (trip j) (trip k) (record { before = r.0; between = r.1; behind = r.2; is = r.3 }) (of_first j) (of_first k))

-- entries and ends write nothing but the variables of their loops
module _ (variables : List (List ℕ)) where
  abbrev idle : Cell → Bool
  idle = is_cell_among variables

  reads_alone : (n : ℕ) (seen : List Seen) → WriteWithin idle (numbered n seen)
  reads_alone n [] = tt
  reads_alone n (cell_seen c content ∷ more) = (tt, reads_alone (suc n) more)
  reads_alone n (index_seen c v ∷ more) = (tt, reads_alone n more)

  within_append : (xs ys : List Touch) → WriteWithin idle xs → WriteWithin idle ys → WriteWithin idle (xs ++ ys)
  within_append [] ys h k = k
  within_append (t ∷ xs) ys h k = (h.0, within_append xs ys h.1 k)

  one_act : (a : Act) → WriteWithin idle a.touches → WriteWithin idle (touches_of (a ∷ []))
  one_act a h = subst (WriteWithin idle) (sym (append-nil a.touches)) h

  module _ (e : Entered) (scope : Scope) (serial : e.head.parallel ≡ false) (private : e.head.private ≡ []) (inner : e.inner ≡ []) (named : is_among e.head.variable variables ≡ true) where
    exit_within : WriteWithin idle (exit_touches e scope)
    exit_within = (
      cell_among variables scope e.head.variable ∙ named,
      subst (λ (xs : List (List ℕ)). WriteWithin idle (undefined_by scope e.behind_bounds xs ++ undefined_all scope e.inner)) (sym private)
          (subst (λ (xs : List (List ℕ)). WriteWithin idle (undefined_all scope xs)) (sym inner) tt),
    )

    none_within : (n : ℕ) → WriteWithin idle (exit_when_none n e scope)
    none_within n = go (n == 0)
      where
        go : (b : Bool) → WriteWithin idle (if b then exit_touches e scope else [])
        go true = exit_within
        go false = tt

    pub entry_within : (seen : List Seen) (at : Place) → WriteWithin idle (touches_of (loop_entry seen e scope at ∷ []))
    entry_within seen at = one_act (loop_entry seen e scope at) (within_append (numbered 1 seen) (exit_when_none e.count e scope) (reads_alone 1 seen) (none_within e.count))

    pub end_within : (at : Place) (j : ℕ) → WriteWithin idle (touches_of (trip_end e scope at j))
    end_within at j =
        subst (λ (acts : List Act). WriteWithin idle (touches_of acts)) (sym (end_in_order e scope at j (e.count - j) serial refl))
        (one_act (act (ended_turn (e.count - j)) at (exit_when_none (e.count - j) e scope)) (none_within (e.count - j)))

    -- and read their bounds alone
    exit_reads : (v : Touch) → IsIn v (exit_touches e scope) → v.manner ≡ reads → ⊥
    exit_reads v i m = by (subst (λ (xs : List (List ℕ)). IsIn v (undefined_by scope e.behind_bounds xs ++ undefined_all scope e.inner)) private) i
      where
        by : (IsIn v (undefined_by scope e.behind_bounds e.head.private ++ undefined_all scope e.inner) → IsIn v ([] ++ undefined_all scope e.inner)) → IsIn v (exit_touches e scope) → ⊥
        by rest (inl q) = let told = sym (ap (λ (w : Touch). w.manner) q) ∙ m in absurd cc
        by rest (inr k) = subst (λ (xs : List (List ℕ)). IsIn v (undefined_all scope xs)) inner (rest k)

    none_reads : (n : ℕ) (v : Touch) → IsIn v (exit_when_none n e scope) → v.manner ≡ reads → ⊥
    none_reads n v i m = go (n == 0) i
      where
        go : (b : Bool) → IsIn v (if b then exit_touches e scope else []) → ⊥
        go true k = exit_reads v k m
        go false k = k

    pub entry_reads : (seen : List Seen) (at : Place) (v : Touch) → IsIn v (touches_of (loop_entry seen e scope at ∷ [])) → v.manner ≡ reads → IsIn (cell_seen v.cell v.content) seen
    entry_reads seen at v i m = elim (in_parts v (numbered 1 seen) (exit_when_none e.count e scope) (subst (IsIn v) (append-nil (entry_touches seen e scope)) i)) [
      | inl k ↦ cell_read 1 seen v k m
      | inr k ↦ absurd (none_reads e.count v k m)
    ]
      where
        cell_read : (n : ℕ) (xs : List Seen) (y : Touch) → IsIn y (numbered n xs) → y.manner ≡ reads → IsIn (cell_seen y.cell y.content) xs
        cell_read n [] y j q = absurd j
        cell_read n (cell_seen c content ∷ more) y (inl q) r = inl (λ k. cell_seen (q k).cell (q k).content)
        cell_read n (cell_seen c content ∷ more) y (inr j) r = inr (cell_read (suc n) more y j r)
        cell_read n (index_seen c w ∷ more) y (inl q) r = let told = sym (ap (λ (t : Touch). t.manner) q) ∙ r in absurd cc
        cell_read n (index_seen c w ∷ more) y (inr j) r = inr (cell_read n more y j r)

    pub end_reads : (at : Place) (j : ℕ) (v : Touch) → IsIn v (touches_of (trip_end e scope at j)) → v.manner ≡ reads → ⊥
    end_reads at j v i m =
        none_reads (e.count - j) v
        (subst (IsIn v) (append-nil (exit_when_none (e.count - j) e scope)) (subst (λ (acts : List Act). IsIn v (touches_of acts)) (end_in_order e scope at j (e.count - j) serial refl) i)) m

    -- what leaves the loop is written by no reference
    exit_unreferred : (v : Touch) → IsIn v (exit_touches e scope) → v.reference ≡ 0
    exit_unreferred v (inl q) = ap (λ (w : Touch). w.reference) q
    exit_unreferred v (inr i) = absurd (none (subst (λ (xs : List (List ℕ)). IsIn v (undefined_by scope e.behind_bounds xs ++ undefined_all scope e.inner)) private i))
      where
        none : IsIn v (undefined_all scope e.inner) → ⊥
        none j = subst (λ (xs : List (List ℕ)). IsIn v (undefined_all scope xs)) inner j

    none_unreferred : (n : ℕ) (v : Touch) → IsIn v (exit_when_none n e scope) → v.reference ≡ 0
    none_unreferred n v i = go (n == 0) i
      where
        go : (b : Bool) → IsIn v (if b then exit_touches e scope else []) → v.reference ≡ 0
        go true k = exit_unreferred v k
        go false k = absurd k

    pub entry_referred : (seen : List Seen) (at : Place) (v : Touch) → IsIn v (loop_entry seen e scope at).touches → 0 < v.reference → v.manner ≡ reads
    entry_referred seen at v i some = elim (in_parts v (numbered 1 seen) (exit_when_none e.count e scope) i) [
      | inl k ↦ numbered_reads 1 seen v k some
      | inr k ↦ (let none = none_unreferred e.count v k in absurd (omega (arith, none, some)))
    ]

    pub end_unreferred : (at : Place) (j : ℕ) (v : Touch) → IsIn v (touches_of (trip_end e scope at j)) → v.reference ≡ 0
    end_unreferred at j v i =
        none_unreferred (e.count - j) v
        (subst (IsIn v) (append-nil (exit_when_none (e.count - j) e scope)) (subst (λ (acts : List Act). IsIn v (touches_of acts)) (end_in_order e scope at j (e.count - j) serial refl) i))
