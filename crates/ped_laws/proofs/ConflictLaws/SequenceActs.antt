-- Acts of which each access stands in a relation to each later one.
use Rattle.std.proofs.Common.{◌≡◌, ℕ, List, [], ◌∷◌, ◌++◌, Result, Ok, Err, sym, subst, append-nil}
use Rattle.std.proofs.lemmas.List.Concat.{flat_map-append}
use Rattle.ped_eval.specs.ped_store.specs.Stores.{Store}
use Rattle.ped_eval.specs.ped_store.specs.Acts.{Touch, Place, Step, Act, faulted, store_behind}
use Rattle.ped_eval.specs.ped_store.specs.Races.{is_write, is_access, Access, accesses_of, accesses}
use Rattle.ped_eval.specs.Evaluation.{Seen, numbered as numbered_reads}
use Rattle.ped_eval.specs.Runs.{Ending, going, stopped, failed, Run, followed_by, then_run, does, on_value}
use Rattle.ped_laws.specs.Runs.Replaying.{act}
use Rattle.ped_laws.proofs.RunLaws.Touches.{Each, each_none, each_append}
use Rattle.ped_laws.proofs.ConflictLaws.SequencePairs.{Pairwise, each_weaker, pairwise_append, each_kept, pairwise_kept}

-- the accesses of acts are all of a kind, and each stands so to each later one
abbrev pub Sorted : (Access → Type 0) → (Access → Access → Type 0) → List Act → Type 0
Sorted P R acts = Each P (accesses acts) × Pairwise R (accesses acts)

-- an access of an act
abbrev pub access_at : Place → Touch → Access
access_at at t = record { cell = t.cell; writes = is_write t.manner; place = at; reference = t.reference }

module _ (R : Access → Access → Type 0) where
  pub sorted_none : (P : Access → Type 0) → Sorted P R []
  sorted_none P = (each_none P, tt)

  pub sorted_weaker : (P Q : Access → Type 0) (acts : List Act) → ((x : Access) → P x → Q x) → Sorted P R acts → Sorted Q R acts
  sorted_weaker P Q acts f h = (each_weaker P Q (accesses acts) f h.0, h.1)

  -- acts behind others
  module _ (P Q W : Access → Type 0) (first : (x : Access) → P x → W x) (second : (x : Access) → Q x → W x) (across : (x y : Access) → P x → Q y → R x y) where
    pub sorted_append : (xs ys : List Act) → Sorted P R xs → Sorted Q R ys → Sorted W R (xs ++ ys)
    sorted_append xs ys h k =
        let e : accesses (xs ++ ys) ≡ accesses xs ++ accesses ys = flat_map-append accesses_of xs ys in (
          subst (Each W) (sym e) (each_append W (accesses xs) (accesses ys) (each_weaker P W (accesses xs) first h.0) (each_weaker Q W (accesses ys) second k.0)),
          subst (Pairwise R) (sym e) (pairwise_append P Q R (accesses xs) (accesses ys) across h.0 k.0 h.1 k.1),
        )

    pub followed_sorted : (acts : List Act) (e : Ending) (g : Store → Run) → Sorted P R acts → ((u : Store) → Sorted Q R (g u).acts) → Sorted W R (followed_by acts e g).acts
    followed_sorted acts (going u) g h k = sorted_append acts (g u).acts h (k u)
    followed_sorted acts (stopped u) g h k = sorted_weaker P W acts first h
    followed_sorted acts (failed fault statement) g h k = sorted_weaker P W acts first h

    pub then_sorted : (r : Run) (g : Store → Run) → Sorted P R r.acts → ((u : Store) → Sorted Q R (g u).acts) → Sorted W R (then_run r g).acts
    then_sorted r g h k = followed_sorted r.acts r.ending g h k

    pub does_sorted : (step : Step) (at : Place) (touches : List Touch) (next : Store → Run) (s : Store) → Sorted P R (act step at touches ∷ []) → ((u : Store) → Sorted Q R (next u).acts) → Sorted W R (does step at touches next s).acts
    does_sorted step at touches next s h k = sorted_append (act step at touches ∷ []) (next (store_behind touches s)).acts h (k (store_behind touches s))

  pub on_sorted : (P : Access → Type 0) {A : Type 0} (at : Place) (seen : List Seen) (r : Result A ℕ) (k : List Seen → A → Run) → Sorted P R (act faulted at (numbered_reads 1 seen) ∷ []) → ((x : A) → Sorted P R (k seen x).acts) → Sorted P R (on_value at seen r k).acts
  on_sorted P at seen (Ok x) k h more = more x
  on_sorted P at seen (Err n) k h more = h

  -- one act
  pub act_sorted : (P : Access → Type 0) (step : Step) (at : Place) (touches : List Touch) → Each (λ t. P (access_at at t)) touches → Pairwise (λ t u. R (access_at at t) (access_at at u)) touches → Sorted P R (act step at touches ∷ [])
  act_sorted P step at touches h k =
      let xs = accesses_of (act step at touches) in (
        subst (Each P) (sym (append-nil xs)) (each_kept is_access (access_at at) P touches h),
        subst (Pairwise R) (sym (append-nil xs)) (pairwise_kept is_access (access_at at) R touches k),
      )
