-- What the paths of a whole do to a scalar, from what those of its parts do.
use Rattle.std.proofs.Common.{◌≡◌, ℕ, zero, suc, Bool, true, false, not, ◌&&◌, ◌||◌, ◌⊎◌, ◌↔◌, IsTrue, List, [], ◌∷◌, ◌++◌, refl, sym, ap, ◌∙◌, inl, inr, if◌then◌else◌, append-nil, arith, eqb-true, ◌==◌}
use Rattle.ped_base.specs.Lists.{is_same_text}
use Rattle.ped_flow.specs.Events.{Manner, reads, assigns, clears, Event, is_overwriting, is_assigning, overwrites, reads_first, has_value}
use Rattle.ped_flow.specs.PathSets.{Kind, Never, Just, Either, InTurn, Times, AnyTimes, Paths, going, nowhere, stopping, in_turn, either, trips, Whole}
use Rattle.ped_flow.specs.Questions.{IsFirst}
use Rattle.ped_flow.specs.Summaries.{AreOnward, AreSummed, IsReadOn, least_of, when, passing, unreached, stopped, of_manner, summary_in_turn, summary_either, summary_trips, summary_event, summary_events}
use Rattle.ped_flow.specs.declared.summaries.Summary.{Summary}
use Rattle.ped_flow.proofs.Truths.{untrue, and_iff, or_iff, iff_map}
use Rattle.ped_flow.proofs.EventLaws.{overwrites-parts, overwrites-whole, reads_first-parts, reads_first-front, reads_first-back, has_value-append, has_value-kept, has_value-lost, has_value-parts}
use Rattle.ped_flow.proofs.FirstLaws.{first_map, first_or, first_when}

-- a path of the kind leaves the scalar as it is
abbrev Keeps : Kind → List ℕ → Type 0
Keeps P x = (path : List Event) × P path × (overwrites x path ≡ false)

-- there is a path of the kind
abbrev pub Passes : Kind → Type 0
Passes P = (path : List Event) × P path

-- a path of the kind takes the scalar's value
abbrev Loses : Kind → List ℕ → Type 0
Loses P x = (path : List Event) × P path × (has_value x true path ≡ false)

-- a path of the kind reads the scalar by this statement before it is overwritten
abbrev Reads : Kind → List ℕ → ℕ → Type 0
Reads P x n = (path : List Event) × P path × IsTrue (reads_first x n path)

-- paths of a kind and then of another

keeps_apart : (P Q : Kind) (x : List ℕ) → Keeps (InTurn P Q) x → Keeps P x × Keeps Q x
keeps_apart P Q x s =
    let parts = overwrites-parts x s.1.0 s.1.1 (ap (overwrites x) (sym s.1.2) ∙ s.2) in
    ((s.1.0, s.1.3, parts.0), (s.1.1, s.1.4, parts.1))

keeps_together : (P Q : Kind) (x : List ℕ) → Keeps P x × Keeps Q x → Keeps (InTurn P Q) x
keeps_together P Q x s = (s.0.0 ++ s.1.0, (s.0.0, s.1.0, refl, s.0.1, s.1.1), overwrites-whole x s.0.0 s.1.0 s.0.2 s.1.2)

loses_apart : (P Q : Kind) (x : List ℕ) → Loses (InTurn P Q) x → (Loses P x × Keeps Q x) ⊎ (Passes P × Loses Q x)
loses_apart P Q x s = by (has_value-parts x s.1.0 s.1.1 (ap (has_value x true) (sym s.1.2) ∙ s.2))
  where
    by : ((has_value x true s.1.0 ≡ false) × (overwrites x s.1.1 ≡ false)) ⊎ (has_value x true s.1.1 ≡ false) → (Loses P x × Keeps Q x) ⊎ (Passes P × Loses Q x)
    by (inl h) = inl ((s.1.0, s.1.3, h.0), (s.1.1, s.1.4, h.1))
    by (inr h) = inr ((s.1.0, s.1.3), (s.1.1, s.1.4, h))

loses_together : (P Q : Kind) (x : List ℕ) → (Loses P x × Keeps Q x) ⊎ (Passes P × Loses Q x) → Loses (InTurn P Q) x
loses_together P Q x (inl s) =
    (s.0.0 ++ s.1.0, (s.0.0, s.1.0, refl, s.0.1, s.1.1), has_value-append x true s.0.0 s.1.0 ∙ has_value-kept x (has_value x true s.0.0) s.1.0 s.1.2 ∙ s.0.2)
loses_together P Q x (inr s) =
    (s.0.0 ++ s.1.0, (s.0.0, s.1.0, refl, s.0.1, s.1.1), has_value-append x true s.0.0 s.1.0 ∙ has_value-lost x (has_value x true s.0.0) s.1.0 s.1.2)

pub in_turn-onward : (P Q : Kind) (x : List ℕ) (a b : Summary) → AreOnward P x a → AreOnward Q x b → AreOnward (InTurn P Q) x (summary_in_turn a b)
in_turn-onward P Q x a b h k = record {
  keeps = iff_map (and_iff a.keeps b.keeps h.keeps k.keeps) (keeps_together P Q x) (keeps_apart P Q x);
  passes = iff_map (and_iff a.passes b.passes h.passes k.passes) (λ s. (s.0.0 ++ s.1.0, (s.0.0, s.1.0, refl, s.0.1, s.1.1))) (λ s. ((s.1.0, s.1.3), (s.1.1, s.1.4)));
  loses = iff_map (or_iff (a.loses && b.keeps) (a.passes && b.loses) (and_iff a.loses b.keeps h.loses k.keeps) (and_iff a.passes b.loses h.passes k.loses)) (loses_together P Q x) (loses_apart P Q x);
}

-- the statement reads in the first part, or the first part keeps and it reads in the second
reads_apart : (P Q : Kind) (x : List ℕ) (n : ℕ) → Reads (InTurn P Q) x n → Reads P x n ⊎ (Keeps P x × Reads Q x n)
reads_apart P Q x n s = by (reads_first-parts x n s.1.0 s.1.1 (ap (reads_first x n) (sym s.1.2) ∙ s.2))
  where
    by : (reads_first x n s.1.0 ≡ true) ⊎ ((overwrites x s.1.0 ≡ false) × (reads_first x n s.1.1 ≡ true)) → Reads P x n ⊎ (Keeps P x × Reads Q x n)
    by (inl h) = inl (s.1.0, s.1.3, h)
    by (inr h) = inr ((s.1.0, s.1.3, h.0), (s.1.1, s.1.4, h.1))

in_turn-reads-apart : (A B : Paths) (x : List ℕ) (n : ℕ) → IsReadOn (in_turn A B) x n → IsReadOn A x n ⊎ (Keeps A.onward x × IsReadOn B x n)
in_turn-reads-apart A B x n s = by s.0 s.1 s.2
  where
    onward : Reads A.onward x n ⊎ (Keeps A.onward x × Reads B.onward x n) → IsReadOn A x n ⊎ (Keeps A.onward x × IsReadOn B x n)
    onward (inl h) = inl (h.0, inl h.1, h.2)
    onward (inr h) = inr (h.0, (h.1.0, inl h.1.1, h.1.2))

    ending : Reads A.onward x n ⊎ (Keeps A.onward x × Reads B.ending x n) → IsReadOn A x n ⊎ (Keeps A.onward x × IsReadOn B x n)
    ending (inl h) = inl (h.0, inl h.1, h.2)
    ending (inr h) = inr (h.0, (h.1.0, inr h.1.1, h.1.2))

    by : (path : List Event) → Whole (in_turn A B) path → IsTrue (reads_first x n path) → IsReadOn A x n ⊎ (Keeps A.onward x × IsReadOn B x n)
    by path (inl w) r = onward (reads_apart A.onward B.onward x n (path, w, r))
    by path (inr (inl w)) r = inl (path, inr w, r)
    by path (inr (inr w)) r = ending (reads_apart A.onward B.ending x n (path, w, r))

in_turn-reads-together : (A B : Paths) (x : List ℕ) (n : ℕ) → Passes (Whole B) → IsReadOn A x n ⊎ (Keeps A.onward x × IsReadOn B x n) → IsReadOn (in_turn A B) x n
in_turn-reads-together A B x n some s = by some.0 some.1 s
  where
    with_back : (p q : List Event) → A.onward p → Whole B q → IsTrue (reads_first x n (p ++ q)) → IsReadOn (in_turn A B) x n
    with_back p q w (inl v) r = (p ++ q, inl (p, q, refl, w, v), r)
    with_back p q w (inr v) r = (p ++ q, inr (inr (p, q, refl, w, v)), r)

    in_front : (p q : List Event) → Whole A p → Whole B q → IsTrue (reads_first x n p) → IsReadOn (in_turn A B) x n
    in_front p q (inl w) v r = with_back p q w v (reads_first-front x n p q r)
    in_front p q (inr w) v r = (p, inr (inl w), r)

    by : (q : List Event) → Whole B q → IsReadOn A x n ⊎ (Keeps A.onward x × IsReadOn B x n) → IsReadOn (in_turn A B) x n
    by q v (inl h) = in_front h.0 q h.1 v h.2
    by q v (inr h) = with_back h.0.0 h.1.0 h.0.1 h.1.1 (reads_first-back x n h.0.0 h.1.0 h.0.2 h.1.2)

-- the paths that end
either-keeps : (P Q : Kind) (x : List ℕ) → Keeps P x ⊎ Keeps Q x → Keeps (Either P Q) x
either-keeps P Q x (inl s) = (s.0, inl s.1, s.2)
either-keeps P Q x (inr s) = (s.0, inr s.1, s.2)

keeps-either : (P Q : Kind) (x : List ℕ) → Keeps (Either P Q) x → Keeps P x ⊎ Keeps Q x
keeps-either P Q x s = by s.0 s.1 s.2
  where
    by : (path : List Event) → Either P Q path → overwrites x path ≡ false → Keeps P x ⊎ Keeps Q x
    by path (inl w) h = inl (path, w, h)
    by path (inr w) h = inr (path, w, h)

either-loses : (P Q : Kind) (x : List ℕ) → Loses P x ⊎ Loses Q x → Loses (Either P Q) x
either-loses P Q x (inl s) = (s.0, inl s.1, s.2)
either-loses P Q x (inr s) = (s.0, inr s.1, s.2)

loses-either : (P Q : Kind) (x : List ℕ) → Loses (Either P Q) x → Loses P x ⊎ Loses Q x
loses-either P Q x s = by s.0 s.1 s.2
  where
    by : (path : List Event) → Either P Q path → has_value x true path ≡ false → Loses P x ⊎ Loses Q x
    by path (inl w) h = inl (path, w, h)
    by path (inr w) h = inr (path, w, h)

either-passes : (P Q : Kind) → Passes P ⊎ Passes Q → Passes (Either P Q)
either-passes P Q (inl s) = (s.0, inl s.1)
either-passes P Q (inr s) = (s.0, inr s.1)

passes-either : (P Q : Kind) → Passes (Either P Q) → Passes P ⊎ Passes Q
passes-either P Q s = by s.0 s.1
  where
    by : (path : List Event) → Either P Q path → Passes P ⊎ Passes Q
    by path (inl w) = inl (path, w)
    by path (inr w) = inr (path, w)

in_turn-ends : (A B : Paths) (x : List ℕ) → Keeps A.ending x ⊎ (Keeps A.onward x × Keeps B.ending x) → Keeps (in_turn A B).ending x
in_turn-ends A B x (inl s) = (s.0, inl s.1, s.2)
in_turn-ends A B x (inr s) = let k = keeps_together A.onward B.ending x s in (k.0, inr k.1, k.2)

ends-in_turn : (A B : Paths) (x : List ℕ) → Keeps (in_turn A B).ending x → Keeps A.ending x ⊎ (Keeps A.onward x × Keeps B.ending x)
ends-in_turn A B x s = by (keeps-either A.ending (InTurn A.onward B.ending) x s)
  where
    by : Keeps A.ending x ⊎ Keeps (InTurn A.onward B.ending) x → Keeps A.ending x ⊎ (Keeps A.onward x × Keeps B.ending x)
    by (inl k) = inl k
    by (inr k) = inr (keeps_apart A.onward B.ending x k)

-- one part and then another, through which some path leads
pub in_turn-summed : (A B : Paths) (x : List ℕ) (a b : Summary) → (path : List Event) × Whole B path → AreSummed A x a → AreSummed B x b → AreSummed (in_turn A B) x (summary_in_turn a b)
in_turn-summed A B x a b some h k = record {
  onward = in_turn-onward A.onward B.onward x a b h.onward k.onward;
  ends = iff_map (or_iff a.ends (a.keeps && b.ends) h.ends (and_iff a.keeps b.ends h.onward.keeps k.ends)) (in_turn-ends A B x) (ends-in_turn A B x);
  first = first_map (λ n. IsReadOn A x n ⊎ (Keeps A.onward x × IsReadOn B x n)) (IsReadOn (in_turn A B) x) (least_of a.first (when a.keeps b.first))
      (λ n s. in_turn-reads-together A B x n some s) (λ n s. in_turn-reads-apart A B x n s)
      (first_or (IsReadOn A x) (λ n. Keeps A.onward x × IsReadOn B x n) a.first (when a.keeps b.first) h.first
      (first_when (Keeps A.onward x) (IsReadOn B x) a.keeps b.first h.onward.keeps k.first));
}

pub either-onward : (P Q : Kind) (x : List ℕ) (a b : Summary) → AreOnward P x a → AreOnward Q x b → AreOnward (Either P Q) x (summary_either a b)
either-onward P Q x a b h k = record {
  keeps = iff_map (or_iff a.keeps b.keeps h.keeps k.keeps) (either-keeps P Q x) (keeps-either P Q x);
  passes = iff_map (or_iff a.passes b.passes h.passes k.passes) (either-passes P Q) (passes-either P Q);
  loses = iff_map (or_iff a.loses b.loses h.loses k.loses) (either-loses P Q x) (loses-either P Q x);
}

either-reads : (A B : Paths) (x : List ℕ) (n : ℕ) → IsReadOn A x n ⊎ IsReadOn B x n → IsReadOn (either A B) x n
either-reads A B x n (inl s) = by s.0 s.1 s.2
  where
    by : (path : List Event) → Whole A path → IsTrue (reads_first x n path) → IsReadOn (either A B) x n
    by path (inl w) r = (path, inl (inl w), r)
    by path (inr w) r = (path, inr (inl w), r)
either-reads A B x n (inr s) = by s.0 s.1 s.2
  where
    by : (path : List Event) → Whole B path → IsTrue (reads_first x n path) → IsReadOn (either A B) x n
    by path (inl w) r = (path, inl (inr w), r)
    by path (inr w) r = (path, inr (inr w), r)

reads-either : (A B : Paths) (x : List ℕ) (n : ℕ) → IsReadOn (either A B) x n → IsReadOn A x n ⊎ IsReadOn B x n
reads-either A B x n s = by s.0 s.1 s.2
  where
    by : (path : List Event) → Whole (either A B) path → IsTrue (reads_first x n path) → IsReadOn A x n ⊎ IsReadOn B x n
    by path (inl (inl w)) r = inl (path, inl w, r)
    by path (inl (inr w)) r = inr (path, inl w, r)
    by path (inr (inl w)) r = inl (path, inr w, r)
    by path (inr (inr w)) r = inr (path, inr w, r)

-- either part
pub either-summed : (A B : Paths) (x : List ℕ) (a b : Summary) → AreSummed A x a → AreSummed B x b → AreSummed (either A B) x (summary_either a b)
either-summed A B x a b h k = record {
  onward = either-onward A.onward B.onward x a b h.onward k.onward;
  ends = iff_map (or_iff a.ends b.ends h.ends k.ends) (either-keeps A.ending B.ending x) (keeps-either A.ending B.ending x);
  first = first_map (λ n. IsReadOn A x n ⊎ IsReadOn B x n) (IsReadOn (either A B) x) (least_of a.first b.first)
      (λ n s. either-reads A B x n s) (λ n s. reads-either A B x n s) (first_or (IsReadOn A x) (IsReadOn B x) a.first b.first h.first k.first);
}

-- any number of trips: one of them is enough

once : (P : Kind) (path : List Event) → P path → AnyTimes P path
once P path w = (1, (path, [], sym (append-nil path), w, refl))

times-loses : (P : Kind) (x : List ℕ) (k : ℕ) → Loses (Times k P) x → Loses P x
times-loses P x zero s = untrue (sym (ap (has_value x true) (sym s.1) ∙ s.2))
times-loses P x (suc k) s = by (λ h. times-loses P x k h) (loses_apart P (Times k P) x s)
  where
    by : (Loses (Times k P) x → Loses P x) → (Loses P x × Keeps (Times k P) x) ⊎ (Passes P × Loses (Times k P) x) → Loses P x
    by rest (inl h) = h.0
    by rest (inr h) = rest h.1

times-reads : (P : Kind) (x : List ℕ) (n k : ℕ) → Reads (Times k P) x n → Reads P x n
times-reads P x n zero s = untrue (ap (reads_first x n) (sym s.1) ∙ s.2)
times-reads P x n (suc k) s = by (λ h. times-reads P x n k h) (reads_apart P (Times k P) x n s)
  where
    by : (Reads (Times k P) x n → Reads P x n) → Reads P x n ⊎ (Keeps P x × Reads (Times k P) x n) → Reads P x n
    by rest (inl h) = h
    by rest (inr h) = rest h.1

trips-reads : (A : Paths) (x : List ℕ) (n : ℕ) → IsReadOn A x n → IsReadOn (trips A) x n
trips-reads A x n s = by s.0 s.1 s.2
  where
    by : (path : List Event) → Whole A path → IsTrue (reads_first x n path) → IsReadOn (trips A) x n
    by path (inl w) r = (path, inl (once A.onward path w), r)
    by path (inr w) r = (path, inr ([], path, refl, (0, refl), w), r)

reads-trips : (A : Paths) (x : List ℕ) (n : ℕ) → IsReadOn (trips A) x n → IsReadOn A x n
reads-trips A x n s = by s.0 s.1 s.2
  where
    from_onward : Reads A.onward x n → IsReadOn A x n
    from_onward h = (h.0, inl h.1, h.2)

    in_last : Reads (AnyTimes A.onward) x n ⊎ (Keeps (AnyTimes A.onward) x × Reads A.ending x n) → IsReadOn A x n
    in_last (inl h) = from_onward (times-reads A.onward x n h.1.0 (h.0, h.1.1, h.2))
    in_last (inr h) = (h.1.0, inr h.1.1, h.1.2)

    by : (path : List Event) → Whole (trips A) path → IsTrue (reads_first x n path) → IsReadOn A x n
    by path (inl w) r = from_onward (times-reads A.onward x n w.0 (path, w.1, r))
    by path (inr w) r = in_last (reads_apart (AnyTimes A.onward) A.ending x n (path, w, r))

-- any number of trips, none and one of which are enough to know all
pub trips-summed : (A : Paths) (x : List ℕ) (a : Summary) → AreSummed A x a → AreSummed (trips A) x (summary_trips a)
trips-summed A x a h = record {
  onward = record {
    keeps = (λ t. ([], (0, refl), refl), λ s. refl);
    passes = (λ t. ([], (0, refl)), λ s. refl);
    loses = iff_map h.onward.loses (λ s. (s.0, once A.onward s.0 s.1, s.2)) (λ s. times-loses A.onward x s.1.0 (s.0, s.1.1, s.2));
  };
  ends = iff_map h.ends (λ s. (s.0, ([], s.0, refl, (0, refl), s.1), s.2)) (λ s. (keeps_apart (AnyTimes A.onward) A.ending x s).1);
  first = first_map (IsReadOn A x) (IsReadOn (trips A) x) a.first (λ n s. trips-reads A x n s) (λ n s. reads-trips A x n s) h.first;
}

-- single paths

pub nowhere-onward : (x : List ℕ) → AreOnward Never x unreached
nowhere-onward x = record { keeps = (λ t. untrue t, λ s. absurd s.1); passes = (λ t. untrue t, λ s. absurd s.1); loses = (λ t. untrue t, λ s. absurd s.1) }

pub nowhere-summed : (x : List ℕ) → AreSummed nowhere x unreached
nowhere-summed x = record { onward = nowhere-onward x; ends = (λ t. untrue t, λ s. absurd s.1); first = λ n s. none s.0 s.1 }
  where
    none : (path : List Event) → Whole nowhere path → ⊥
    none path (inl w) = w
    none path (inr w) = w

pub stopping-summed : (x : List ℕ) → AreSummed stopping x stopped
stopping-summed x = record { onward = record { keeps = (λ t. untrue t, λ s. absurd s.1); passes = (λ t. untrue t, λ s. absurd s.1); loses = (λ t. untrue t, λ s. absurd s.1) }; ends = (λ t. ([], refl, refl), λ s. refl); first = λ n s. none n s.0 s.1 s.2 }
  where
    none : (n : ℕ) (path : List Event) → Whole stopping path → IsTrue (reads_first x n path) → ⊥
    none n path (inl w) r = w
    none n path (inr w) r = untrue (ap (reads_first x n) (sym w) ∙ r)

-- what one path does
record IsOne (x : List ℕ) (events : List Event) (m : Summary) : Type 0 where
  keeps : IsTrue m.keeps ↔ (overwrites x events ≡ false)
  passes : IsTrue m.passes
  loses : IsTrue m.loses ↔ (has_value x true events ≡ false)
  ends : m.ends ≡ false
  first : IsFirst (λ n. IsTrue (reads_first x n events)) m.first

one-onward : (x : List ℕ) (events : List Event) (m : Summary) → IsOne x events m → AreOnward (Just events) x m
one-onward x events m h = record {
  keeps = iff_map h.keeps (λ k. (events, refl, k)) (λ s. ap (overwrites x) (sym s.1) ∙ s.2);
  passes = (λ t. (events, refl), λ s. h.passes);
  loses = iff_map h.loses (λ k. (events, refl, k)) (λ s. ap (has_value x true) (sym s.1) ∙ s.2);
}

one-summed : (x : List ℕ) (events : List Event) (m : Summary) → IsOne x events m → AreSummed (going events) x m
one-summed x events m h = record {
  onward = one-onward x events m h;
  ends = (λ t. untrue (sym h.ends ∙ t), λ s. absurd s.1);
  first = first_map (λ n. IsTrue (reads_first x n events)) (IsReadOn (going events) x) m.first (λ n r. (events, inl refl, r)) (λ n s. by n s.0 s.1 s.2) h.first;
}
  where
    by : (n : ℕ) (path : List Event) → Whole (going events) path → IsTrue (reads_first x n path) → IsTrue (reads_first x n events)
    by n path (inl w) r = ap (reads_first x n) (sym w) ∙ r
    by n path (inr w) r = absurd w

pub going-none : (x : List ℕ) → AreSummed (going []) x passing
going-none x = one-summed x [] passing record { keeps = (λ t. refl, λ h. refl); passes = refl; loses = (λ t. untrue t, λ h. sym h); ends = refl; first = λ n r. untrue r }

-- the same paths
summed_same : (A B : Paths) (x : List ℕ) (m : Summary) → ((path : List Event) → A.onward path ↔ B.onward path) → ((path : List Event) → A.ending path ↔ B.ending path) → AreSummed A x m → AreSummed B x m
summed_same A B x m f g h = record {
  onward = record {
    keeps = iff_map h.onward.keeps (λ s. (s.0, (f s.0).0 s.1, s.2)) (λ s. (s.0, (f s.0).1 s.1, s.2));
    passes = iff_map h.onward.passes (λ s. (s.0, (f s.0).0 s.1)) (λ s. (s.0, (f s.0).1 s.1));
    loses = iff_map h.onward.loses (λ s. (s.0, (f s.0).0 s.1, s.2)) (λ s. (s.0, (f s.0).1 s.1, s.2));
  };
  ends = iff_map h.ends (λ s. (s.0, (g s.0).0 s.1, s.2)) (λ s. (s.0, (g s.0).1 s.1, s.2));
  first = first_map (IsReadOn A x) (IsReadOn B x) m.first (λ n s. to n s.0 s.1 s.2) (λ n s. from n s.0 s.1 s.2) h.first;
}
  where
    to : (n : ℕ) (path : List Event) → Whole A path → IsTrue (reads_first x n path) → IsReadOn B x n
    to n path (inl w) r = (path, inl ((f path).0 w), r)
    to n path (inr w) r = (path, inr ((g path).0 w), r)

    from : (n : ℕ) (path : List Event) → Whole B path → IsTrue (reads_first x n path) → IsReadOn A x n
    from n path (inl w) r = (path, inl ((f path).1 w), r)
    from n path (inr w) r = (path, inr ((g path).1 w), r)

-- events and then others
pub going-append : (p q : List Event) (x : List ℕ) (a b : Summary) → AreSummed (going p) x a → AreSummed (going q) x b → AreSummed (going (p ++ q)) x (summary_in_turn a b)
going-append p q x a b h k = summed_same (in_turn (going p) (going q)) (going (p ++ q)) x (summary_in_turn a b) onward ending (in_turn-summed (going p) (going q) x a b (q, inl refl) h k)
  where
    onward : (path : List Event) → (in_turn (going p) (going q)).onward path ↔ (going (p ++ q)).onward path
    onward path = (λ s. s.2 ∙ (λ i. s.3 i ++ s.4 i), λ e. (p, q, e, refl, refl))

    none : (path : List Event) → (in_turn (going p) (going q)).ending path → ⊥
    none path (inl w) = w
    none path (inr w) = w.4

    ending : (path : List Event) → (in_turn (going p) (going q)).ending path ↔ (going (p ++ q)).ending path
    ending path = (none path, λ w. absurd w)

-- what one event does, by whether it is of the scalar
record IsOneBy (same : Bool) (manner : Manner) (statement : ℕ) (m : Summary) : Type 0 where
  keeps : IsTrue m.keeps ↔ (((same && is_overwriting manner) || false) ≡ false)
  passes : IsTrue m.passes
  loses : IsTrue m.loses ↔ ((if same && is_overwriting manner then is_assigning manner else true) ≡ false)
  ends : m.ends ≡ false
  first : IsFirst (λ n. IsTrue ((same && not (is_overwriting manner) && statement == n) || (not (same && is_overwriting manner) && false))) m.first

or_nothing : (b : Bool) → (b || false) ≡ true → b ≡ true
or_nothing true h = refl
or_nothing false h = h

one_by : (same : Bool) (manner : Manner) (statement : ℕ) → IsOneBy same manner statement (if same then of_manner manner statement else passing)
one_by false manner statement = record { keeps = (λ t. refl, λ h. refl); passes = refl; loses = (λ t. untrue t, λ h. sym h); ends = refl; first = λ n r. untrue r }
one_by true reads statement = record { keeps = (λ t. refl, λ h. refl); passes = refl; loses = (λ t. untrue t, λ h. sym h); ends = refl; first = (grind (arith, eqb-true), λ n r. let e : (statement == n) ≡ true = or_nothing (statement == n) r in grind (arith, eqb-true)) }
one_by true assigns statement = record { keeps = (λ t. untrue t, λ h. sym h); passes = refl; loses = (λ t. untrue t, λ h. sym h); ends = refl; first = λ n r. untrue r }
one_by true clears statement = record { keeps = (λ t. untrue t, λ h. sym h); passes = refl; loses = (λ t. refl, λ h. refl); ends = refl; first = λ n r. untrue r }

one_event : (x : List ℕ) (e : Event) → IsOne x (e ∷ []) (summary_event x e)
one_event x e = let h = one_by (is_same_text x e.scalar) e.manner e.statement in record { keeps = h.keeps; passes = h.passes; loses = h.loses; ends = h.ends; first = h.first }

-- events in order
pub going-summed : (x : List ℕ) (events : List Event) → AreSummed (going events) x (summary_events x events)
going-summed x [] = going-none x
going-summed x (e ∷ rest) = going-append (e ∷ []) rest x (summary_event x e) (summary_events x rest) (one-summed x (e ∷ []) (summary_event x e) (one_event x e)) (going-summed x rest)

-- through each part leads a path

pub in_turn-some : (A B : Paths) → Passes (Whole A) → Passes (Whole B) → Passes (Whole (in_turn A B))
in_turn-some A B s t = by s.0 t.0 s.1 t.1
  where
    by : (p q : List Event) → Whole A p → Whole B q → Passes (Whole (in_turn A B))
    by p q (inl w) (inl v) = (p ++ q, inl (p, q, refl, w, v))
    by p q (inl w) (inr v) = (p ++ q, inr (inr (p, q, refl, w, v)))
    by p q (inr w) v = (p, inr (inl w))

pub either-some : (A B : Paths) → Passes (Whole A) → Passes (Whole (either A B))
either-some A B s = by s.0 s.1
  where
    by : (p : List Event) → Whole A p → Passes (Whole (either A B))
    by p (inl w) = (p, inl (inl w))
    by p (inr w) = (p, inr (inl w))

pub trips-some : (A : Paths) → Passes (Whole (trips A))
trips-some A = ([], inl (0, refl))

pub going-some : (events : List Event) → Passes (Whole (going events))
going-some events = (events, inl refl)
