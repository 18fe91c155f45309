-- No two cells of the trips of a loop get one name.
use Rattle.std.proofs.Common.{◌≡◌, ℕ, ◌+◌, ◌-◌, ◌*◌, ◌≤◌, List, [], ◌∷◌, ◌++◌, map, Bool, true, false, eqb, eqb-true, Option, Some, None, refl, sym, ap, ◌∙◌, arith, if◌then◌else◌}
use Rattle.std.specs.Prelude.{◌==◌, ◌/◌, ◌%◌}
use Rattle.std.proofs.lemmas.Bool.{and_parts}
use Rattle.std.proofs.Math.Nat.{div-add-mod}
use Rattle.ped_steps.specs.ped_store.specs.Cells.{Scalar, Element, Private, In, Out, Iteration, same_iteration}
use Rattle.ped_steps.specs.Runs.Renumbering.{renumbered_iteration}
use Rattle.ped_bodies.specs.Moving.{behind_front, with_rest, moved_behind, turned, transposed, in_strips, peeled, in_loop, IsOfTrips, IsInsideTrips, IsOfPairs, NamesApart, TellNumbers}
use Rattle.ped_bodies.proofs.BodyLaws.MovedCells.{behind_itself, is_there}

-- two iterations that compare alike are one
same_is : (i j : Iteration) → same_iteration i j ≡ true → i ≡ j
same_is i j h =
    let both = and_parts (eqb i.statement j.statement) (eqb i.number j.number) h in
    λ k. record { statement = eqb-true i.statement j.statement both.0 k; number = eqb-true i.number j.number both.1 k }

-- a path that begins with a front is the front and what stands behind it
pub behind_is : (front path rest : List Iteration) → behind_front front path ≡ Some rest → path ≡ front ++ rest
behind_is [] path rest h = let same : path ≡ rest = cc in same
behind_is (i ∷ front) [] rest h = absurd cc
behind_is (i ∷ front) (j ∷ path) rest h = go (same_iteration i j) refl h (behind_is front path rest)
  where
    go : (b : Bool) → same_iteration i j ≡ b → (if b then behind_front front path else None) ≡ Some rest → (behind_front front path ≡ Some rest → path ≡ front ++ rest) → j ∷ path ≡ i ∷ (front ++ rest)
    go true is e more = λ k. sym (same_is i j is) k ∷ more e k
    go false is e more = absurd cc

module _ (P : Option (List Iteration) → Type 0) (front : List Iteration) (g : List Iteration → List Iteration) (apart : (r s : List Iteration) → P (Some r) → P (Some s) → g r ≡ g s → r ≡ s) where
  paths_apart : (path other : List Iteration) (o p : Option (List Iteration)) → behind_front front path ≡ o → behind_front front other ≡ p → P o → P p → with_rest front g path o ≡ with_rest front g other p → path ≡ other
  paths_apart path other None None h k u v e = e
  paths_apart path other None (Some s) h k u v e =
      let clash : None ≡ Some (g s) = sym h ∙ ap (behind_front front) e ∙ behind_itself front (g s) in absurd cc
  paths_apart path other (Some r) None h k u v e =
      let clash : None ≡ Some (g r) = sym k ∙ ap (behind_front front) (sym e) ∙ behind_itself front (g r) in absurd cc
  paths_apart path other (Some r) (Some s) h k u v e =
      let both : Some (g r) ≡ Some (g s) = sym (behind_itself front (g r)) ∙ ap (behind_front front) e ∙ behind_itself front (g s) in
      let same : g r ≡ g s = cc in
      behind_is front path r h ∙ ap (λ (rest : List Iteration). front ++ rest) (apart r s u v same) ∙ sym (behind_is front other s k)

  cells_apart : NamesApart P front (moved_behind front g)
  cells_apart (Scalar x) (Scalar y) u v e = e
  cells_apart (Scalar x) (Private y path) u v e = absurd cc
  cells_apart (Scalar x) (Element y js) u v e = absurd cc
  cells_apart (Scalar x) In u v e = absurd cc
  cells_apart (Scalar x) Out u v e = absurd cc
  cells_apart (Private x path) (Private y other) u v e =
      let names : x ≡ y = cc in
      let paths : with_rest front g path (behind_front front path) ≡ with_rest front g other (behind_front front other) = cc in
      let same = paths_apart path other (behind_front front path) (behind_front front other) refl refl u v paths in
      λ k. Private (names k) (same k)
  cells_apart (Private x path) (Scalar y) u v e = absurd cc
  cells_apart (Private x path) (Element y js) u v e = absurd cc
  cells_apart (Private x path) In u v e = absurd cc
  cells_apart (Private x path) Out u v e = absurd cc
  cells_apart (Element x is) (Scalar y) u v e = absurd cc
  cells_apart (Element x is) (Private y path) u v e = absurd cc
  cells_apart (Element x is) (Element y js) u v e = e
  cells_apart (Element x is) In u v e = absurd cc
  cells_apart (Element x is) Out u v e = absurd cc
  cells_apart In (Scalar y) u v e = absurd cc
  cells_apart In (Private y path) u v e = absurd cc
  cells_apart In (Element y js) u v e = absurd cc
  cells_apart In In u v e = e
  cells_apart In Out u v e = absurd cc
  cells_apart Out (Scalar y) u v e = absurd cc
  cells_apart Out (Private y path) u v e = absurd cc
  cells_apart Out (Element y js) u v e = absurd cc
  cells_apart Out In u v e = absurd cc
  cells_apart Out Out u v e = e

-- iterations with the same numbers
same_iterations : (i j : Iteration) → i.statement ≡ j.statement → i.number ≡ j.number → i ≡ j
same_iterations i j h k = λ a. record { statement = h a; number = k a }

first_same : (i j : Iteration) (is js : List Iteration) → i ∷ is ≡ j ∷ js → i ≡ j
first_same i j is js e = cc

more_same : (i j : Iteration) (is js : List Iteration) → i ∷ is ≡ j ∷ js → is ≡ js
more_same i j is js e = cc

-- a list of iterations, where the first is one of the loop
abbrev at : ℕ → ℕ → Iteration
at statement number = record { statement = statement; number = number }

turned_is : (l n : ℕ) (i : Iteration) (more : List Iteration) → i.statement ≡ l → turned l n (i ∷ more) ≡ at l (n + 1 - i.number) ∷ more
turned_is l n i more h = ap (λ (b : Bool). if b then at l (n + 1 - i.number) ∷ more else i ∷ more) (is_there l i.statement h)

turned_apart : (l n : ℕ) (r s : List Iteration) → IsOfTrips l n (Some r) → IsOfTrips l n (Some s) → turned l n r ≡ turned l n s → r ≡ s
turned_apart l n [] [] u v e = refl
turned_apart l n [] (j ∷ js) u v e = let clash : [] ≡ at l (n + 1 - j.number) ∷ js = e ∙ turned_is l n j js v.0 in absurd cc
turned_apart l n (i ∷ is) [] u v e = let clash : [] ≡ at l (n + 1 - i.number) ∷ is = sym e ∙ turned_is l n i is u.0 in absurd cc
turned_apart l n (i ∷ is) (j ∷ js) u v e =
    let whole : at l (n + 1 - i.number) ∷ is ≡ at l (n + 1 - j.number) ∷ js = sym (turned_is l n i is u.0) ∙ e ∙ turned_is l n j js v.0 in
    let first = first_same (at l (n + 1 - i.number)) (at l (n + 1 - j.number)) is js whole in
    let number : n + 1 - i.number ≡ n + 1 - j.number = ap (λ (k : Iteration). k.number) first in
    let same : i.number ≡ j.number = omega (arith, number, u.1, u.2, v.1, v.2) in
    λ k. same_iterations i j (u.0 ∙ sym v.0) same k ∷ more_same (at l (n + 1 - i.number)) (at l (n + 1 - j.number)) is js whole k

pub reversed_apart : (front : List Iteration) (l n : ℕ) → NamesApart (IsOfTrips l n) front (moved_behind front (turned l n))
reversed_apart front l n = cells_apart (IsOfTrips l n) front (turned l n) (turned_apart l n)

in_loop_is : (l m : ℕ) (i : Iteration) (more : List Iteration) → i.statement ≡ l → in_loop l m (i ∷ more) ≡ at m i.number ∷ more
in_loop_is l m i more h = ap (λ (b : Bool). if b then at m i.number ∷ more else i ∷ more) (is_there l i.statement h)

in_loop_apart : (l m n : ℕ) (r s : List Iteration) → IsOfTrips l n (Some r) → IsOfTrips l n (Some s) → in_loop l m r ≡ in_loop l m s → r ≡ s
in_loop_apart l m n [] [] u v e = refl
in_loop_apart l m n [] (j ∷ js) u v e = let clash : [] ≡ at m j.number ∷ js = e ∙ in_loop_is l m j js v.0 in absurd cc
in_loop_apart l m n (i ∷ is) [] u v e = let clash : [] ≡ at m i.number ∷ is = sym e ∙ in_loop_is l m i is u.0 in absurd cc
in_loop_apart l m n (i ∷ is) (j ∷ js) u v e =
    let whole : at m i.number ∷ is ≡ at m j.number ∷ js = sym (in_loop_is l m i is u.0) ∙ e ∙ in_loop_is l m j js v.0 in
    let number : i.number ≡ j.number = ap (λ (k : Iteration). k.number) (first_same (at m i.number) (at m j.number) is js whole) in
    λ k. same_iterations i j (u.0 ∙ sym v.0) number k ∷ more_same (at m i.number) (at m j.number) is js whole k

pub distributed_apart : (front : List Iteration) (l m n : ℕ) → NamesApart (IsOfTrips l n) front (moved_behind front (in_loop l m))
distributed_apart front l m n = cells_apart (IsOfTrips l n) front (in_loop l m) (in_loop_apart l m n)

-- strips
abbrev strip : ℕ → Iteration → ℕ
strip size i = (i.number - 1) / size + 1

abbrev within : ℕ → Iteration → ℕ
within size i = (i.number - 1) % size + 1

strips_is : (l inner size : ℕ) (i : Iteration) (more : List Iteration) → i.statement ≡ l → in_strips l inner size (i ∷ more) ≡ at l (strip size i) ∷ (at inner (within size i) ∷ more)
strips_is l inner size i more h = ap (λ (b : Bool). if b then at l (strip size i) ∷ (at inner (within size i) ∷ more) else i ∷ more) (is_there l i.statement h)

one_back : (m n : ℕ) → m + 1 ≡ n + 1 → m ≡ n
one_back m n e = omega arith

strips_apart : (l inner size n : ℕ) (r s : List Iteration) → IsOfTrips l n (Some r) → IsOfTrips l n (Some s) → in_strips l inner size r ≡ in_strips l inner size s → r ≡ s
strips_apart l inner size n [] [] u v e = refl
strips_apart l inner size n [] (j ∷ js) u v e = let clash : [] ≡ at l (strip size j) ∷ (at inner (within size j) ∷ js) = e ∙ strips_is l inner size j js v.0 in absurd cc
strips_apart l inner size n (i ∷ is) [] u v e = let clash : [] ≡ at l (strip size i) ∷ (at inner (within size i) ∷ is) = sym e ∙ strips_is l inner size i is u.0 in absurd cc
strips_apart l inner size n (i ∷ is) (j ∷ js) u v e =
    let whole : at l (strip size i) ∷ (at inner (within size i) ∷ is) ≡ at l (strip size j) ∷ (at inner (within size j) ∷ js) = sym (strips_is l inner size i is u.0) ∙ e ∙ strips_is l inner size j js v.0 in
    let rest = more_same (at l (strip size i)) (at l (strip size j)) (at inner (within size i) ∷ is) (at inner (within size j) ∷ js) whole in
    let first = ap (λ (k : Iteration). k.number) (first_same (at l (strip size i)) (at l (strip size j)) (at inner (within size i) ∷ is) (at inner (within size j) ∷ js) whole) in
    let second = ap (λ (k : Iteration). k.number) (first_same (at inner (within size i)) (at inner (within size j)) is js rest) in
    let quotients = one_back ((i.number - 1) / size) ((j.number - 1) / size) first in
    let remainders = one_back ((i.number - 1) % size) ((j.number - 1) % size) second in
    let before : i.number - 1 ≡ j.number - 1 = sym (div-add-mod (i.number - 1) size) ∙ (λ k. size * quotients k + remainders k) ∙ div-add-mod (j.number - 1) size in
    let same : i.number ≡ j.number = omega (arith, before, u.1, v.1) in
    λ k. same_iterations i j (u.0 ∙ sym v.0) same k ∷ more_same (at inner (within size i)) (at inner (within size j)) is js rest k

pub stripped_apart : (front : List Iteration) (l inner size n : ℕ) → NamesApart (IsOfTrips l n) front (moved_behind front (in_strips l inner size))
stripped_apart front l inner size n = cells_apart (IsOfTrips l n) front (in_strips l inner size) (strips_apart l inner size n)

-- interchanged loops
transposed_is : (outer inner : ℕ) (column row : ℕ → ℕ → ℕ) (i j : Iteration) (more : List Iteration) → i.statement ≡ outer → transposed outer inner column row (i ∷ (j ∷ more)) ≡ at outer (column i.number j.number) ∷ (at inner (row i.number j.number) ∷ more)
transposed_is outer inner column row i j more h = ap (λ (b : Bool). if b then at outer (column i.number j.number) ∷ (at inner (row i.number j.number) ∷ more) else i ∷ (j ∷ more)) (is_there outer i.statement h)

module _ (outer inner : ℕ) (done : ℕ → ℕ → Bool) (column row : ℕ → ℕ → ℕ) (tell : TellNumbers done column row) where
  abbrev swap : List Iteration → List Iteration
  swap = transposed outer inner column row

  abbrev P : Option (List Iteration) → Type 0
  P = IsOfPairs outer inner done

  transposed_apart : (r s : List Iteration) → P (Some r) → P (Some s) → swap r ≡ swap s → r ≡ s
  transposed_apart [] [] u v e = refl
  transposed_apart [] (m ∷ []) u v e = absurd v
  transposed_apart [] (m ∷ (n ∷ js)) u v e = let clash : [] ≡ at outer (column m.number n.number) ∷ (at inner (row m.number n.number) ∷ js) = e ∙ transposed_is outer inner column row m n js v.0 in absurd cc
  transposed_apart (i ∷ []) s u v e = absurd u
  transposed_apart (i ∷ (j ∷ is)) [] u v e = let clash : [] ≡ at outer (column i.number j.number) ∷ (at inner (row i.number j.number) ∷ is) = sym e ∙ transposed_is outer inner column row i j is u.0 in absurd cc
  transposed_apart (i ∷ (j ∷ is)) (m ∷ []) u v e = absurd v
  transposed_apart (i ∷ (j ∷ is)) (m ∷ (n ∷ js)) u v e =
      let first : Iteration = at outer (column i.number j.number) in
      let second : Iteration = at inner (row i.number j.number) in
      let other : Iteration = at outer (column m.number n.number) in
      let another : Iteration = at inner (row m.number n.number) in
      let whole : first ∷ (second ∷ is) ≡ other ∷ (another ∷ js) = sym (transposed_is outer inner column row i j is u.0) ∙ e ∙ transposed_is outer inner column row m n js v.0 in
      let rest = more_same first other (second ∷ is) (another ∷ js) whole in
      let columns = ap (λ (k : Iteration). k.number) (first_same first other (second ∷ is) (another ∷ js) whole) in
      let rows = ap (λ (k : Iteration). k.number) (first_same second another is js rest) in
      let numbers = tell i.number j.number m.number n.number u.2 v.2 columns rows in
      λ k. same_iterations i m (u.0 ∙ sym v.0) numbers.0 k ∷ (same_iterations j n (u.1 ∙ sym v.1) numbers.1 k ∷ more_same second another is js rest k)

  pub interchanged_apart : (front : List Iteration) → NamesApart P front (moved_behind front swap)
  interchanged_apart front = cells_apart P front swap transposed_apart

-- a loop of which an iteration is peeled off
module _ (l n k : ℕ) (f : ℕ → ℕ) (one : (i j : ℕ) → f i ≡ f j → i ≡ j) (other : (i : ℕ) → f i ≡ l → ⊥) where
  abbrev off : List Iteration → List Iteration
  off = peeled l k f

  abbrev behind : ℕ → ℕ
  behind i = if k == 1 then i - 1 else i

  numbers_apart : (is js : List Iteration) → map (renumbered_iteration f) is ≡ map (renumbered_iteration f) js → is ≡ js
  numbers_apart [] [] e = refl
  numbers_apart [] (j ∷ js) e = absurd cc
  numbers_apart (i ∷ is) [] e = absurd cc
  numbers_apart (i ∷ is) (j ∷ js) e =
      let first = first_same (renumbered_iteration f i) (renumbered_iteration f j) (map (renumbered_iteration f) is) (map (renumbered_iteration f) js) e in
      let rest = more_same (renumbered_iteration f i) (renumbered_iteration f j) (map (renumbered_iteration f) is) (map (renumbered_iteration f) js) e in
      λ a. same_iterations i j (one i.statement j.statement (ap (λ (z : Iteration). z.statement) first)) (ap (λ (z : Iteration). z.number) first) a ∷ numbers_apart is js rest a

  off_is : (i : Iteration) (more : List Iteration) → i.statement ≡ l → (b : Bool) → (i.number == k) ≡ b → off (i ∷ more) ≡ (if b then map (renumbered_iteration f) more else at l (behind i.number) ∷ more)
  off_is i more h b e = λ a. if is_there l i.statement h a then if e a then map (renumbered_iteration f) more else at l (behind i.number) ∷ more else i ∷ more

  behind_apart : (i j : ℕ) → (i == k) ≡ false → (j == k) ≡ false → 1 ≤ i → 1 ≤ j → behind i ≡ behind j → i ≡ j
  behind_apart i j h m u v e = go (k == 1) refl e
    where
      go : (b : Bool) → (k == 1) ≡ b → (if b then i - 1 else i) ≡ (if b then j - 1 else j) → i ≡ j
      go true first same = omega (arith, u, v, same)
      go false first same = same

  -- none of the peeled copies is named as one that is left
  no_clash : (i : Iteration) (is : List Iteration) (m : ℕ) (js : List Iteration) → map (renumbered_iteration f) (i ∷ is) ≡ at l m ∷ js → ⊥
  no_clash i is m js e = other i.statement (ap (λ (z : Iteration). z.statement) (first_same (renumbered_iteration f i) (at l m) (map (renumbered_iteration f) is) js e))

  peeled_off_apart : (r s : List Iteration) → IsInsideTrips l n (Some r) → IsInsideTrips l n (Some s) → off r ≡ off s → r ≡ s
  peeled_off_apart [] [] u v e = refl
  peeled_off_apart [] (j ∷ []) u v e = absurd v
  peeled_off_apart [] (j ∷ (b ∷ js)) u v e = none (j.number == k) refl
    where
      none : (o : Bool) → (j.number == k) ≡ o → [] ≡ j ∷ (b ∷ js)
      none true h = let clash : [] ≡ map (renumbered_iteration f) (b ∷ js) = e ∙ off_is j (b ∷ js) v.0 true h in absurd cc
      none false h = let clash : [] ≡ at l (behind j.number) ∷ (b ∷ js) = e ∙ off_is j (b ∷ js) v.0 false h in absurd cc
  peeled_off_apart (i ∷ []) s u v e = absurd u
  peeled_off_apart (i ∷ (a ∷ is)) [] u v e = none (i.number == k) refl
    where
      none : (o : Bool) → (i.number == k) ≡ o → i ∷ (a ∷ is) ≡ []
      none true h = let clash : [] ≡ map (renumbered_iteration f) (a ∷ is) = sym e ∙ off_is i (a ∷ is) u.0 true h in absurd cc
      none false h = let clash : [] ≡ at l (behind i.number) ∷ (a ∷ is) = sym e ∙ off_is i (a ∷ is) u.0 false h in absurd cc
  peeled_off_apart (i ∷ (a ∷ is)) (j ∷ []) u v e = absurd v
  peeled_off_apart (i ∷ (a ∷ is)) (j ∷ (b ∷ js)) u v e = go (i.number == k) (j.number == k) refl refl
    where
      both : (o p : Bool) → (i.number == k) ≡ o → (j.number == k) ≡ p → (if o then map (renumbered_iteration f) (a ∷ is) else at l (behind i.number) ∷ (a ∷ is)) ≡ (if p then map (renumbered_iteration f) (b ∷ js) else at l (behind j.number) ∷ (b ∷ js))
      both o p h m = sym (off_is i (a ∷ is) u.0 o h) ∙ e ∙ off_is j (b ∷ js) v.0 p m

      go : (o p : Bool) → (i.number == k) ≡ o → (j.number == k) ≡ p → i ∷ (a ∷ is) ≡ j ∷ (b ∷ js)
      go true true h m = λ z. same_iterations i j (u.0 ∙ sym v.0) (eqb-true i.number k h ∙ sym (eqb-true j.number k m)) z ∷ numbers_apart (a ∷ is) (b ∷ js) (both true true h m) z
      go true false h m = absurd (no_clash a is (behind j.number) (b ∷ js) (both true false h m))
      go false true h m = absurd (no_clash b js (behind i.number) (a ∷ is) (sym (both false true h m)))
      go false false h m =
          let whole = both false false h m in
          let number = ap (λ (z : Iteration). z.number) (first_same (at l (behind i.number)) (at l (behind j.number)) (a ∷ is) (b ∷ js) whole) in
          λ z. same_iterations i j (u.0 ∙ sym v.0) (behind_apart i.number j.number h m u.1 v.1 number) z ∷ more_same (at l (behind i.number)) (at l (behind j.number)) (a ∷ is) (b ∷ js) whole z

  pub peeled_apart : (front : List Iteration) → NamesApart (IsInsideTrips l n) front (moved_behind front off)
  peeled_apart front = cells_apart (IsInsideTrips l n) front off peeled_off_apart
