-- What the exit of a DO leaves: names that become undefined on both sides.
use Rattle.std.proofs.Common.{◌≡◌, ℕ, List, [], ◌∷◌, map, Bool, true, false, ◌||◌, refl, sym, ap, ◌∙◌, subst, if◌then◌else◌}
use Rattle.std.specs.List.{list_any}
use Rattle.ped_base.specs.Lists.{is_same_text, is_among}
use Rattle.ped_base.proofs.NameEquality.{same_is, same_itself}
use Rattle.ped_tree.specs.Tree.{StmtTrees}
use Rattle.ped_tree.specs.NamesIn.{all_loop_variables}
use Rattle.ped_steps.specs.ped_store.specs.Cells.{Cell, same_cell}
use Rattle.ped_steps.specs.ped_store.specs.Stores.{Content, Undefined, Store, put}
use Rattle.ped_steps.specs.ped_store.specs.Acts.{store_behind}
use Rattle.ped_steps.specs.ped_eval.specs.Scopes.{Scope, cell_of}
use Rattle.ped_steps.specs.ped_eval.specs.Loops.{sorted_once, inner_variables, Entered, left_in_variable, exit_touches}
use Rattle.ped_steps.specs.ped_eval.specs.Turns.{undefined_cells}
use Rattle.ped_steps.specs.ped_eval.proofs.Endings.{exit_is}
use Rattle.ped_steps.specs.ped_laws.proofs.RunLaws.Turning.{once_among}
use Rattle.ped_call_runs.proofs.EachNames.{Each}
use Rattle.ped_call_runs.proofs.FollowingStores.{Bond, IsBelow, is_bound, put_below}
use Rattle.ped_call_runs.proofs.FollowingNames.{named_cell, bond_of, cell_bound, AreNamed, same_cells, same_names}

-- names are members of both lists or of none
abbrev pub HaveSameMembers : List (List ℕ) → List (List ℕ) → Type 0
HaveSameMembers xs ys = (z : List ℕ) → is_among z xs ≡ is_among z ys

pub same_truth : (a b : Bool) → (a ≡ true → b ≡ true) → (b ≡ true → a ≡ true) → a ≡ b
same_truth true b f g = sym (f refl)
same_truth false true f g = g refl
same_truth false false f g = refl

module _ (P : List ℕ → Bool) where
  -- a name of the list of which the test holds
  any_one : (xs : List (List ℕ)) → list_any P xs ≡ true → (z : List ℕ) × (is_among z xs ≡ true) × (P z ≡ true)
  any_one [] h = absurd cc
  any_one (x ∷ xs) h = go (P x) refl (any_one xs)
    where
      later : (t u : Bool) → u ≡ true → (t || u) ≡ true
      later true u k = refl
      later false u k = k

      go : (t : Bool) → P x ≡ t → (list_any P xs ≡ true → (z : List ℕ) × (is_among z xs ≡ true) × (P z ≡ true)) → (z : List ℕ) × (is_among z (x ∷ xs) ≡ true) × (P z ≡ true)
      go true e more = (x, ap (λ (t : Bool). t || is_among x xs) (same_itself x), e)
      go false e more =
          let r = more (sym (ap (λ (t : Bool). t || list_any P xs) e) ∙ h) in
          (r.0, later (is_same_text r.0 x) (is_among r.0 xs) r.1, r.2)

  one_any : (z : List ℕ) (ys : List (List ℕ)) → is_among z ys ≡ true → P z ≡ true → list_any P ys ≡ true
  one_any z [] h k = absurd cc
  one_any z (y ∷ ys) h k = go (is_same_text z y) refl (one_any z ys)
    where
      later : (t u : Bool) → u ≡ true → (t || u) ≡ true
      later true u l = refl
      later false u l = l

      go : (t : Bool) → is_same_text z y ≡ t → (is_among z ys ≡ true → P z ≡ true → list_any P ys ≡ true) → (P y || list_any P ys) ≡ true
      go true e more = ap (λ (t : Bool). t || list_any P ys) (subst (λ (x : List ℕ). P x ≡ true) (same_is z y e) k)
      go false e more = later (P y) (list_any P ys) (more (sym (ap (λ (t : Bool). t || is_among z ys) e) ∙ h) k)

  -- some name passes the test in both lists or in none
  pub any_same : (xs ys : List (List ℕ)) → HaveSameMembers xs ys → list_any P xs ≡ list_any P ys
  any_same xs ys same =
      same_truth (list_any P xs) (list_any P ys)
      (λ h. let r = any_one xs h in one_any r.0 ys (sym (same r.0) ∙ r.1) r.2)
      (λ h. let r = any_one ys h in one_any r.0 xs (same r.0 ∙ r.1) r.2)

-- a cell is undefined where it is that of one of the names
undefined_at : (scope : Scope) (xs : List (List ℕ)) (s : Store) (c : Cell) → undefined_cells scope xs s c ≡ (if list_any (λ x. same_cell (cell_of scope x) c) xs then Undefined else s c)
undefined_at scope [] s c = refl
undefined_at scope (x ∷ xs) s c = undefined_at scope xs (put (cell_of scope x) Undefined s) c ∙ go (same_cell (cell_of scope x) c) (list_any (λ x. same_cell (cell_of scope x) c) xs)
  where
    go : (t u : Bool) → (if u then Undefined else (if t then Undefined else s c)) ≡ (if t || u then Undefined else s c)
    go true true = refl
    go true false = refl
    go false true = refl
    go false false = refl

-- the same names become undefined in any order
pub undefined_same : (scope : Scope) (xs ys : List (List ℕ)) (s : Store) → HaveSameMembers xs ys → undefined_cells scope xs s ≡ undefined_cells scope ys s
undefined_same scope xs ys s same = λ i c. at c i
  where
    at : (c : Cell) → undefined_cells scope xs s c ≡ undefined_cells scope ys s c
    at c =
        undefined_at scope xs s c
        ∙ ap (λ (t : Bool). if t then Undefined else s c) (any_same (λ x. same_cell (cell_of scope x) c) xs ys same)
        ∙ sym (undefined_at scope ys s c)

module _ (b : List ℕ → Bond) (f : List ℕ → List ℕ) (twice : (x : List ℕ) → f (f x) ≡ x) where
  among_named : (x : List ℕ) (xs : List (List ℕ)) → is_among (f x) (map f xs) ≡ is_among x xs
  among_named x [] = refl
  among_named x (y ∷ ys) = λ i. same_names f twice x y i || among_named x ys i

  -- renamed names in byte order are the names in byte order, renamed, in another order
  pub sorted_named : (xs : List (List ℕ)) → HaveSameMembers (sorted_once (map f xs)) (map f (sorted_once xs))
  sorted_named xs z =
      once_among z (map f xs)
      ∙ ap (λ (y : List ℕ). is_among y (map f xs)) (sym (twice z))
      ∙ among_named (f z) xs
      ∙ sym (once_among (f z) xs)
      ∙ sym (among_named (f z) (sorted_once xs))
      ∙ ap (λ (y : List ℕ). is_among y (map f (sorted_once xs))) (twice z)

  pub inner_named : (parallel : Bool) (body other : StmtTrees) → (parallel ≡ true → all_loop_variables other ≡ map f (all_loop_variables body)) → HaveSameMembers (inner_variables parallel other) (map f (inner_variables parallel body))
  inner_named false body other e z = refl
  inner_named true body other e z = ap (λ (xs : List (List ℕ)). is_among z (sorted_once xs)) (e refl) ∙ sorted_named (all_loop_variables body) z

  -- a name that is private on one side
  pub private_named : (x : List ℕ) (xs ys : List (List ℕ)) → HaveSameMembers ys (map f xs) → is_among (f x) ys ≡ is_among x xs
  private_named x xs ys same = same (f x) ∙ among_named x xs

  module _ (scope other : Scope) (same : AreNamed f scope other) where
    abbrev Below : Store → Store → Type 0
    Below s w = IsBelow (bond_of b) (named_cell f) s w

    -- a scalar and the renamed one get the same content
    pub scalar_below : (y : List ℕ) (v : Content) (s w : Store) → is_bound (b y) ≡ true → Below s w → Below (put (cell_of scope y) v s) (put (cell_of other (f y)) v w)
    scalar_below y v s w h below =
        subst (λ (c : Cell). Below (put (cell_of scope y) v s) (put c v w)) (sym (same.cell y))
        (put_below (bond_of b) (named_cell f) (same_cells f twice) (cell_of scope y) v s w (cell_bound b scope y h) below)

    undefined_below : (xs : List (List ℕ)) (s w : Store) → Each (λ y. is_bound (b y) ≡ true) xs → Below s w → Below (undefined_cells scope xs s) (undefined_cells other (map f xs) w)
    undefined_below [] s w h below = below
    undefined_below (x ∷ xs) s w h below = undefined_below xs (put (cell_of scope x) Undefined s) (put (cell_of other (f x)) Undefined w) h.1 (scalar_below x Undefined s w h.0 below)

    -- behind the exits of the loop and of the renamed one
    pub exit_below : (e d : Entered) (s w : Store) → is_bound (b e.head.variable) ≡ true → Each (λ y. is_bound (b y) ≡ true) e.head.private → Each (λ y. is_bound (b y) ≡ true) e.inner
        → d.head.variable ≡ f e.head.variable → d.head.private ≡ map f e.head.private → HaveSameMembers d.inner (map f e.inner) → left_in_variable d ≡ left_in_variable e
        → Below s w → Below (store_behind (exit_touches e scope) s) (store_behind (exit_touches d other) w)
    exit_below e d s w variable private inner head names members left below =
        let a : Store = put (cell_of scope e.head.variable) (left_in_variable e) s in
        let c : Store = put (cell_of other (f e.head.variable)) (left_in_variable e) w in
        let behind : Below (undefined_cells scope e.inner (undefined_cells scope e.head.private a)) (undefined_cells other (map f e.inner) (undefined_cells other (map f e.head.private) c)) =
        undefined_below e.inner (undefined_cells scope e.head.private a) (undefined_cells other (map f e.head.private) c) inner
        (undefined_below e.head.private a c private (scalar_below e.head.variable (left_in_variable e) s w variable below)) in
        let same_store : store_behind (exit_touches d other) w ≡ undefined_cells other (map f e.inner) (undefined_cells other (map f e.head.private) c) =
        exit_is d other w
        ∙ (λ i. undefined_cells other d.inner (undefined_cells other (names i) (put (cell_of other (head i)) (left i) w)))
        ∙ undefined_same other d.inner (map f e.inner) (undefined_cells other (map f e.head.private) c) members in
        subst (λ (u : Store). Below u (store_behind (exit_touches d other) w)) (sym (exit_is e scope s))
        (subst (λ (u : Store). Below (undefined_cells scope e.inner (undefined_cells scope e.head.private a)) u) (sym same_store) behind)
