-- A DO on both sides: its iterations, and the names of which they have copies.
use Rattle.std.proofs.Common.{◌≡◌, ℕ, ◌-◌, pos, ◌+ℤ◌, ◌*ℤ◌, List, [], ◌∷◌, ◌++◌, map, Bool, true, false, ◌||◌, Some, refl, sym, ap, ◌∙◌, subst, if◌then◌else◌}
use Rattle.std.proofs.lemmas.Bool.{both_ways}
use Rattle.ped_base.specs.Lists.{is_same_text, is_among}
use Rattle.ped_base.proofs.NameEquality.{same_is}
use Rattle.ped_tree.specs.NamesIn.{expr_names, all_loop_variables}
use Rattle.ped_tree.specs.Tree.{Head, StmtTrees}
use Rattle.ped_calls.specs.ped_units.specs.Expanding.{Meanings, name_or, name_meant, head_replaced}
use Rattle.ped_steps.specs.ped_store.specs.Cells.{Private}
use Rattle.ped_steps.specs.ped_store.specs.Stores.{Undefined, Number, Store}
use Rattle.ped_steps.specs.ped_store.specs.Acts.{store_behind, iterations_of}
use Rattle.ped_steps.specs.ped_eval.specs.Scopes.{Setting, Frame, Scope, turns_of, cell_of, index_value}
use Rattle.ped_steps.specs.ped_eval.specs.Evaluation.{Seen}
use Rattle.ped_steps.specs.ped_eval.specs.Loops.{Limits, increment, iteration_count, sorted_once, inner_variables, Entered, entered_with, copied_names, frame, left_in_variable, exit_touches}
use Rattle.ped_steps.specs.ped_laws.proofs.RunLaws.Turning.{once_among}
use Rattle.ped_call_runs.proofs.EachNames.{Each, each_of, of_each, each_map, each_mapped, each_joined}
use Rattle.ped_call_runs.proofs.FollowingStores.{Bond, IsBelow, is_bound}
use Rattle.ped_call_runs.proofs.FollowingNames.{named_cell, bond_of, AreNamed, named_inside, same_names, IsUnheld, MeansAlike, NamedAlike}
use Rattle.ped_call_runs.proofs.FollowingExits.{HaveSameMembers, inner_named, private_named, exit_below}

-- names in byte order
pub each_inner : (P : List ℕ → Type 0) (parallel : Bool) (body : StmtTrees) → (parallel ≡ true → Each P (all_loop_variables body)) → Each P (inner_variables parallel body)
each_inner P false body h = tt
each_inner P true body h = of_each P (sorted_once (all_loop_variables body)) (λ z e. each_of P (all_loop_variables body) (h refl) z (sym (once_among z (all_loop_variables body)) ∙ e))

among_append : (z : List ℕ) (xs ys : List (List ℕ)) → is_among z (xs ++ ys) ≡ is_among z xs || is_among z ys
among_append z [] ys = refl
among_append z (x ∷ xs) ys = ap (λ (t : Bool). is_same_text z x || t) (among_append z xs ys) ∙ turned (is_same_text z x) (is_among z xs) (is_among z ys)
  where
    turned : (a b c : Bool) → (a || (b || c)) ≡ ((a || b) || c)
    turned true b c = refl
    turned false b c = refl

-- the head of a DO on both sides, and the variables of the loops in it
pub record HeadsAlike (b : List ℕ → Bond) (f : List ℕ → List ℕ) (p q : Setting) (m k : Meanings) (h : Head) (variables others : List (List ℕ)) : Type 0 where
  pub first : Each (MeansAlike b f p q m k) (expr_names h.first)
  pub last : Each (MeansAlike b f p q m k) (expr_names h.last)
  pub step : increment q.constants (head_replaced k h) ≡ increment p.constants (head_replaced m h)
  pub variable : NamedAlike b f p q m k h.variable
  pub private : Each (NamedAlike b f p q m k) h.private
  pub inner : h.parallel ≡ true → others ≡ map f variables
  pub inner_bound : h.parallel ≡ true → Each (λ y. is_bound (b y) ≡ true) variables

module _ (b : List ℕ → Bond) (f : List ℕ → List ℕ) (twice : (x : List ℕ) → f (f x) ≡ x) where
  -- a name that may not be written is none that may
  unbound_apart : (y x : List ℕ) → is_bound (b y) ≡ false → is_bound (b x) ≡ true → is_same_text y x ≡ false
  unbound_apart y x h k = go (is_same_text y x) refl
    where
      go : (t : Bool) → is_same_text y x ≡ t → t ≡ false
      go false e = refl
      go true e = absurd (both_ways (is_bound (b y)) h (ap (λ (a : List ℕ). is_bound (b a)) (same_is y x e) ∙ k))

  unbound_outside : (y : List ℕ) (xs : List (List ℕ)) → is_bound (b y) ≡ false → Each (λ x. is_bound (b x) ≡ true) xs → is_among y xs ≡ false
  unbound_outside y [] h k = refl
  unbound_outside y (x ∷ xs) h k = λ i. unbound_apart y x h k.0 i || unbound_outside y xs h k.1 i

  -- further inside, names that may not be written are as they were
  pub unheld_inside : (r : Frame) (scope : Scope) → is_bound (b r.variable) ≡ true → Each (λ x. is_bound (b x) ≡ true) r.private → IsUnheld b scope → IsUnheld b (r ∷ scope)
  unheld_inside r scope variable private outer = record {
    index = λ y h. ap (λ (t : Bool). if t then Some r.turn.value else index_value scope y) (unbound_apart y r.variable h variable) ∙ outer.index y h;
    cell = λ y h. ap (λ (t : Bool). if t then Private y (iterations_of (turns_of (r ∷ scope))) else cell_of scope y) (unbound_outside y r.private h private) ∙ outer.cell y h;
  }

  module _ (p q : Setting) (m k : Meanings) where
    -- a name that may be assigned, and its other name
    pub meant_named : (x : List ℕ) → NamedAlike b f p q m k x → name_meant k x ≡ f (name_meant m x)
    meant_named x a = ap (name_or x) a.right ∙ ap f (sym (ap (name_or x) a.left))

    pub meant_bound : (x : List ℕ) → NamedAlike b f p q m k x → is_bound (b (name_meant m x)) ≡ true
    meant_bound x a = subst (λ (z : List ℕ). is_bound (b z) ≡ true) (sym (ap (name_or x) a.left)) a.bound

    pub all_named : (xs : List (List ℕ)) → Each (NamedAlike b f p q m k) xs → map (name_meant k) xs ≡ map f (map (name_meant m) xs)
    all_named [] h = refl
    all_named (x ∷ xs) h = λ i. meant_named x h.0 i ∷ all_named xs h.1 i

    pub all_bound : (xs : List (List ℕ)) → Each (NamedAlike b f p q m k) xs → Each (λ y. is_bound (b y) ≡ true) (map (name_meant m) xs)
    all_bound xs h = each_mapped (λ y. is_bound (b y) ≡ true) (name_meant m) xs (each_map (NamedAlike b f p q m k) (λ x. is_bound (b (name_meant m x)) ≡ true) xs meant_bound h)

    module _ (n j : ℕ) (h : Head) (ss ts : StmtTrees) (heads : HeadsAlike b f p q m k h (all_loop_variables ss) (all_loop_variables ts)) (number : q.number j ≡ p.number n) (seen others : List Seen) (l : Limits) where
      abbrev Here : Entered
      Here = entered_with p n (head_replaced m h) ss seen l

      abbrev There : Entered
      There = entered_with q j (head_replaced k h) ts others l

      members : HaveSameMembers There.inner (map f Here.inner)
      members = inner_named b f twice h.parallel ss ts heads.inner

      inner_bound : Each (λ y. is_bound (b y) ≡ true) Here.inner
      inner_bound = each_inner (λ y. is_bound (b y) ≡ true) h.parallel ss heads.inner_bound

      private_members : HaveSameMembers There.head.private (map f Here.head.private)
      private_members z = ap (is_among z) (all_named h.private heads.private)

      copied_alike : (x : List ℕ) → is_among (f x) (copied_names There) ≡ is_among x (copied_names Here)
      copied_alike x = go h.parallel
        where
          lists : is_among (f x) (There.head.private ++ There.inner) ≡ is_among x (Here.head.private ++ Here.inner)
          lists =
              among_append (f x) There.head.private There.inner
              ∙ (λ i. private_named b f twice x Here.head.private There.head.private private_members i || private_named b f twice x Here.inner There.inner members i)
              ∙ sym (among_append x Here.head.private Here.inner)

          go : (t : Bool) → is_among (f x) (if t then There.head.variable ∷ (There.head.private ++ There.inner) else There.head.private) ≡ is_among x (if t then Here.head.variable ∷ (Here.head.private ++ Here.inner) else Here.head.private)
          go true =
              ap (λ (z : List ℕ). is_same_text (f x) z || is_among (f x) (There.head.private ++ There.inner)) (meant_named h.variable heads.variable)
              ∙ (λ i. same_names f twice x Here.head.variable i || lists i)
          go false = private_named b f twice x Here.head.private There.head.private private_members

      copied_bound : Each (λ y. is_bound (b y) ≡ true) (copied_names Here)
      copied_bound = go h.parallel
        where
          go : (t : Bool) → Each (λ y. is_bound (b y) ≡ true) (if t then Here.head.variable ∷ (Here.head.private ++ Here.inner) else Here.head.private)
          go true = (meant_bound h.variable heads.variable, each_joined (λ y. is_bound (b y) ≡ true) Here.head.private Here.inner (all_bound h.private heads.private) inner_bound)
          go false = all_bound h.private heads.private

      -- an iteration on both sides
      pub frame_named : (c : ℕ) (scope other : Scope) → AreNamed f scope other → AreNamed f (frame Here c ∷ scope) (frame There c ∷ other)
      frame_named c scope other same =
          named_inside f twice (frame Here c) (frame There c) scope other
          (λ i. record { statement = number i; parallel = h.parallel; number = c; value = l.first +ℤ pos (c - 1) *ℤ heads.step i })
          (meant_named h.variable heads.variable) copied_alike same

      pub frame_unheld : (c : ℕ) (scope : Scope) → IsUnheld b scope → IsUnheld b (frame Here c ∷ scope)
      frame_unheld c scope outer = unheld_inside (frame Here c) scope (meant_bound h.variable heads.variable) copied_bound outer

      left_same : left_in_variable There ≡ left_in_variable Here
      left_same = λ i. if h.parallel then Undefined else Number (l.first +ℤ pos (iteration_count l.first l.last (heads.step i)) *ℤ heads.step i)

      -- the exit on both sides
      pub loop_exit : (scope other : Scope) → AreNamed f scope other → (s w : Store) → IsBelow (bond_of b) (named_cell f) s w → IsBelow (bond_of b) (named_cell f) (store_behind (exit_touches Here scope) s) (store_behind (exit_touches There other) w)
      loop_exit scope other same s w below =
          exit_below b f twice scope other same Here There s w (meant_bound h.variable heads.variable) (all_bound h.private heads.private) inner_bound
          (meant_named h.variable heads.variable) (all_named h.private heads.private) members left_same below
