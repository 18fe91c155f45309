-- Traces: what a run did in order, with the iterations of its PARALLEL DO loops side by side.
use Rattle.std.proofs.Common.{◌≡◌, List, [], ◌∷◌, ◌++◌, Bool, true, false, refl, sym, ap, ◌∙◌, append_assoc, inl, inr}
use Rattle.ped_interleavings.specs.ped_eval.specs.ped_store.specs.Stores.{Store}
use Rattle.ped_interleavings.specs.ped_eval.specs.ped_store.specs.Acts.{Act, store_behind}
use Rattle.ped_laws.specs.Acts.Fitting.{Fits}
use Rattle.ped_laws.specs.Acts.Conflicts.{acts_conflict}
use Rattle.ped_laws.specs.Acts.Orders.{IsIn}
use Rattle.ped_laws.proofs.ActLaws.Reorderings.{front_fits}

-- nothing; an act and then a trace; or the traces of the iterations of an execution of a PARALLEL DO, the act that closes it, and then a trace
mutual
  pub data Trace : Type 0 where
    nothing : Trace
    one : Act → Trace → Trace
    fork : Traces → Act → Trace → Trace

  pub data Traces : Type 0 where
    no_traces : Traces
    more_traces : Trace → Traces → Traces

-- the acts of a trace, one iteration after the other
abbrev mutual
  pub flat : Trace → List Act
  flat nothing = []
  flat (one a t) = a ∷ flat t
  flat (fork ts a t) = flats ts ++ a ∷ flat t

  pub flats : Traces → List Act
  flats no_traces = []
  flats (more_traces t ts) = flat t ++ flats ts

abbrev pub is_nothing : Trace → Bool
is_nothing nothing = true
is_nothing (one a t) = false
is_nothing (fork ts a t) = false

-- one trace and then another
abbrev pub join : Trace → Trace → Trace
join nothing u = u
join (one a t) u = one a (join t u)
join (fork ts a t) u = fork ts a (join t u)

-- no act of the first list conflicts with one of the second
abbrev pub Apart : List Act → List Act → Type 0
Apart xs ys = (x y : Act) → IsIn x xs → IsIn y ys → acts_conflict x y ≡ false

-- no iteration conflicts with a later one of its execution
abbrev pub AllApart : Traces → Type 0
AllApart no_traces = Unit {0}
AllApart (more_traces t ts) = Apart (flat t) (flats ts) × AllApart ts

abbrev mutual
  pub AreFree : Trace → Type 0
  AreFree nothing = Unit {0}
  AreFree (one a t) = AreFree t
  AreFree (fork ts a t) = AllApart ts × AllFree ts × AreFree t

  pub AllFree : Traces → Type 0
  AllFree no_traces = Unit {0}
  AllFree (more_traces t ts) = AreFree t × AllFree ts

pub flat-join : (t u : Trace) → flat (join t u) ≡ flat t ++ flat u
flat-join nothing u = refl
flat-join (one a t) u = ap (λ (z : List Act). a ∷ z) (flat-join t u)
flat-join (fork ts a t) u = ap (λ (z : List Act). flats ts ++ a ∷ z) (flat-join t u) ∙ sym (append_assoc (flats ts) (a ∷ flat t) (flat u))

pub join_assoc : (t u v : Trace) → join (join t u) v ≡ join t (join u v)
join_assoc nothing u v = refl
join_assoc (one a t) u v = ap (one a) (join_assoc t u v)
join_assoc (fork ts a t) u v = ap (fork ts a) (join_assoc t u v)

pub join-nothing : (t : Trace) → join t nothing ≡ t
join-nothing nothing = refl
join-nothing (one a t) = ap (one a) (join-nothing t)
join-nothing (fork ts a t) = ap (fork ts a) (join-nothing t)

pub free_join : (t u : Trace) → AreFree t → AreFree u → AreFree (join t u)
free_join nothing u f g = g
free_join (one a t) u f g = free_join t u f g
free_join (fork ts a t) u f g = (f.0, f.1, free_join t u f.2 g)

-- acts that are apart from those before them fit without these
pub fits_apart : (xs ys : List Act) (s : Store) → Apart xs ys → Fits (xs ++ ys) s → Fits ys s
fits_apart xs [] s a f = tt
fits_apart xs (y ∷ ys) s a f =
    let m = front_fits xs ys y s (λ x i. a x y i (inl refl)) f in
    (m.0, fits_apart xs ys (store_behind y.touches s) (λ x w i j. a x w i (inr j)) m.1)
