-- What copies in two DO loops are called in the one: those of the second belong to the iterations of the first. No two cells that they touch get one name.
use Rattle.std.proofs.Common.{Bool, List, None, Option, Some, [], ap, arith, eq-eqb, eqb-true, false, if◌then◌else◌, inl, inr, refl, sym, true, ℕ, ◌++◌, ◌<◌, ◌==◌, ◌∙◌, ◌∷◌, ◌≡◌, ◌≤◌, ◌⊎◌}
use Rattle.std.proofs.lemmas.Bool.{both_ways}
use Rattle.ped_rules.specs.ped_loop_runs.proofs.PastingLaws.LeftCopies.{IsOwn}
use Rattle.ped_rules.specs.ped_bodies.proofs.BodyLaws.MovedCells.{moved_is}
use Rattle.ped_rules.specs.ped_bodies.proofs.BodyLaws.NamesApart.{behind_is}
use Rattle.ped_rules.specs.ped_bodies.specs.Moving.{behind_front, in_loop, is_cell_among, moved_behind, with_rest}
use Rattle.ped_rules.specs.ped_steps.specs.Runs.Exchanging.{is_of_scalar}
use Rattle.ped_rules.specs.ped_laws.proofs.FlowRunLaws.Apart.{same_behind}
use Rattle.ped_rules.specs.ped_laws.proofs.FlowRunLaws.Names.{no_copy_within}
use Rattle.ped_rules.specs.ped_eval.specs.Scopes.{Scope, Setting, turns_of}
use Rattle.ped_rules.specs.ped_store.specs.Acts.{iterations_of}
use Rattle.ped_rules.specs.ped_store.specs.Cells.{Cell, Element, In, Iteration, Out, Private, Scalar}

same_first : (i j : Iteration) (is js : List Iteration) → i ∷ is ≡ j ∷ js → i ≡ j
same_first i j is js e = cc

same_rest : (i j : Iteration) (is js : List Iteration) → i ∷ is ≡ j ∷ js → is ≡ js
same_rest i j is js e = cc

same_name : (y w : List ℕ) (path other : List Iteration) → Private y path ≡ Private w other → y ≡ w
same_name y w path other e = cc

same_path : (y w : List ℕ) (path other : List Iteration) → Private y path ≡ Private w other → path ≡ other
same_path y w path other e = cc

-- iterations of the DO with number l become those of the one with number k
module _ (p : Setting) (scope : Scope) (l k : ℕ) where
  abbrev front : List Iteration
  front = iterations_of (turns_of scope)

  abbrev names : Cell → Cell
  names = moved_behind (iterations_of (turns_of scope)) (in_loop l k)

  abbrev pub at : ℕ → ℕ → Iteration
  at j n = record { statement = j; number = n }

  in_loop_is : (n : ℕ) (more : List Iteration) → in_loop l k (at l n ∷ more) ≡ at k n ∷ more
  in_loop_is n more = ap (λ (b : Bool). if b then at k n ∷ more else at l n ∷ more) (eq-eqb l l refl)

  pub moved_so : (y : List ℕ) (n : ℕ) (more : List Iteration) → moved_behind (iterations_of (turns_of scope)) (in_loop l k) (Private y (iterations_of (turns_of scope) ++ record { statement = l; number = n } ∷ more)) ≡ Private y (iterations_of (turns_of scope) ++ record { statement = k; number = n } ∷ more)
  moved_so y n more = moved_is (in_loop l k) front (at l n ∷ more) y ∙ ap (λ (r : List Iteration). Private y (front ++ r)) (in_loop_is n more)

  -- a copy in an iteration of the DO, and its name
  pub record IsMoved (c : Cell) : Type 0 where
    pub name : List ℕ
    pub number : ℕ
    pub rest : List Iteration
    pub was : c ≡ Private name (iterations_of (turns_of scope) ++ record { statement = l; number = number } ∷ rest)
    pub is : moved_behind (iterations_of (turns_of scope)) (in_loop l k) c ≡ Private name (iterations_of (turns_of scope) ++ record { statement = k; number = number } ∷ rest)

  pub moved_or_not : (c : Cell) → (moved_behind (iterations_of (turns_of scope)) (in_loop l k) c ≡ c) ⊎ IsMoved c
  moved_or_not (Scalar y) = inl refl
  moved_or_not (Element y js) = inl refl
  moved_or_not In = inl refl
  moved_or_not Out = inl refl
  moved_or_not (Private y path) = go (behind_front front path) refl
    where
      renamed : (o : Option (List Iteration)) → behind_front front path ≡ o → names (Private y path) ≡ Private y (with_rest front (in_loop l k) path o)
      renamed o e = ap (λ (r : Option (List Iteration)). Private y (with_rest front (in_loop l k) path r)) e

      by : (i : Iteration) (more : List Iteration) → behind_front front path ≡ Some (i ∷ more) → (b : Bool) → (i.statement == l) ≡ b → (names (Private y path) ≡ Private y path) ⊎ IsMoved (Private y path)
      by i more e false apart =
          inl (renamed (Some (i ∷ more)) e ∙ ap (λ (b : Bool). Private y (front ++ (if b then at k i.number ∷ more else i ∷ more))) apart ∙ ap (Private y) (sym (behind_is front path (i ∷ more) e)))
      by i more e true same =
          let of : i.statement ≡ l = eqb-true i.statement l same in
          let was : Private y path ≡ Private y (front ++ at l i.number ∷ more) = ap (Private y) (behind_is front path (i ∷ more) e ∙ (λ r. front ++ record { statement = of r; number = i.number } ∷ more)) in
          inr (record { name = y; number = i.number; rest = more; was = was; is = ap names was ∙ moved_so y i.number more })

      go : (o : Option (List Iteration)) → behind_front front path ≡ o → (names (Private y path) ≡ Private y path) ⊎ IsMoved (Private y path)
      go None e = inl (renamed None e)
      go (Some []) e = inl (renamed (Some []) e ∙ ap (Private y) (sym (behind_is front path [] e)))
      go (Some (i ∷ more)) e = by i more e (i.statement == l) refl

  own_no_copy : (c : Cell) (y : List ℕ) (i : Iteration) (rest : List Iteration) → IsOwn p scope c → c ≡ Private y (front ++ i ∷ rest) → ⊥
  own_no_copy c y i rest (inl o) e = no_copy_within scope o.0 y i rest (sym o.1 ∙ e)
  own_no_copy c y i rest (inr none) e = both_ways (is_of_scalar c) none (ap is_of_scalar e)

  -- what a name stands for at the place keeps its name
  pub own_stays : (c : Cell) → IsOwn p scope c → moved_behind (iterations_of (turns_of scope)) (in_loop l k) c ≡ c
  own_stays c own = elim (moved_or_not c) [ inl e ↦ e | inr r ↦ absurd (own_no_copy c r.name (at l r.number) r.rest own r.was) ]

  -- so does a copy in another DO
  pub other_stays : (c : Cell) (y : List ℕ) (j n : ℕ) (rest : List Iteration) → (j ≡ l → ⊥) → c ≡ Private y (iterations_of (turns_of scope) ++ record { statement = j; number = n } ∷ rest) → moved_behind (iterations_of (turns_of scope)) (in_loop l k) c ≡ c
  other_stays c y j n rest apart is = elim (moved_or_not c) [
    | inl e ↦ e
    | inr r ↦ (
        let whole : Private y (front ++ at j n ∷ rest) ≡ Private r.name (front ++ at l r.number ∷ r.rest) = sym is ∙ r.was in
        let rests = same_behind front (at j n ∷ rest) (at l r.number ∷ r.rest) (same_path y r.name (front ++ at j n ∷ rest) (front ++ at l r.number ∷ r.rest) whole) in
        absurd (apart (ap (λ (i : Iteration). i.statement) (same_first (at j n) (at l r.number) rest r.rest rests)))
        )
  ]

  -- the new name counts as the old one
  pub among_alike : (variables : List (List ℕ)) (c : Cell) → is_cell_among variables (moved_behind (iterations_of (turns_of scope)) (in_loop l k) c) ≡ is_cell_among variables c
  among_alike variables (Scalar y) = refl
  among_alike variables (Private y path) = refl
  among_alike variables (Element y js) = refl
  among_alike variables In = refl
  among_alike variables Out = refl

-- nothing changes where the DO stays the same
pub same_loop : (p : Setting) (scope : Scope) (l : ℕ) (c : Cell) → moved_behind (iterations_of (turns_of scope)) (in_loop l l) c ≡ c
same_loop p scope l c = elim (moved_or_not p scope l l c) [ inl e ↦ e | inr r ↦ r.is ∙ sym r.was ]

-- cells of two DO loops: the second one has the number m, and the statements in the first one have lower numbers, those in the second one have not
module _ (p : Setting) (scope : Scope) (s m : ℕ) (less : s < m) where
  -- a copy inside an iteration of one of them, of a DO in it
  pub record IsPartCell (c : Cell) : Type 0 where
    pub name : List ℕ
    pub number : ℕ
    pub inner : Iteration
    pub rest : List Iteration
    pub of : ℕ
    pub is : c ≡ Private name (iterations_of (turns_of scope) ++ record { statement = of; number = number } ∷ (inner ∷ rest))
    pub which : ((of ≡ s) × (inner.statement < m)) ⊎ ((of ≡ m) × (m ≤ inner.statement))

  abbrev pub IsReached : Cell → Type 0
  IsReached c = IsOwn p scope c ⊎ IsPartCell c

  abbrev path : List Iteration
  path = iterations_of (turns_of scope)

  named_so : (c : Cell) (r : IsPartCell c) → moved_behind path (in_loop m s) c ≡ Private r.name (path ++ record { statement = s; number = r.number } ∷ (r.inner ∷ r.rest))
  named_so c r = elim r.which [
    | inl first ↦ (let at_first = first.0 in
        other_stays p scope m s c r.name r.of r.number (r.inner ∷ r.rest) (λ e. omega (arith, e, at_first, less)) r.is ∙ r.is ∙ (λ i. Private r.name (path ++ record { statement = first.0 i; number = r.number } ∷ (r.inner ∷ r.rest))))
    | inr second ↦ ap (moved_behind path (in_loop m s)) (r.is ∙ (λ i. Private r.name (path ++ record { statement = second.0 i; number = r.number } ∷ (r.inner ∷ r.rest)))) ∙ moved_so p scope m s r.name r.number (r.inner ∷ r.rest)
  ]

  no_copy : (c : Cell) (y : List ℕ) (i : Iteration) (rest : List Iteration) → IsOwn p scope c → c ≡ Private y (path ++ i ∷ rest) → ⊥
  no_copy c y i rest (inl o) e = no_copy_within scope o.0 y i rest (sym o.1 ∙ e)
  no_copy c y i rest (inr none) e = both_ways (is_of_scalar c) none (ap is_of_scalar e)

  -- one statement inside stands in one of them
  one_loop_of : (c d : Cell) (a : IsPartCell c) (b : IsPartCell d) → a.inner ≡ b.inner → a.of ≡ b.of
  one_loop_of c d a b e = by a.which b.which
    where
      same : a.inner.statement ≡ b.inner.statement
      same = ap (λ (i : Iteration). i.statement) e

      by : ((a.of ≡ s) × (a.inner.statement < m)) ⊎ ((a.of ≡ m) × (m ≤ a.inner.statement)) → ((b.of ≡ s) × (b.inner.statement < m)) ⊎ ((b.of ≡ m) × (m ≤ b.inner.statement)) → a.of ≡ b.of
      by (inl f) (inl g) = f.0 ∙ sym g.0
      by (inr f) (inr g) = f.0 ∙ sym g.0
      by (inl f) (inr g) = let one = f.1 in let two = g.1 in let is = same in absurd (omega (arith, one, two, is))
      by (inr f) (inl g) = let one = f.1 in let two = g.1 in let is = same in absurd (omega (arith, one, two, is))

  pub names_apart : (c d : Cell) → IsReached c → IsReached d → moved_behind (iterations_of (turns_of scope)) (in_loop m s) c ≡ moved_behind (iterations_of (turns_of scope)) (in_loop m s) d → c ≡ d
  names_apart c d (inl a) (inl b) e = sym (own_stays p scope m s c a) ∙ e ∙ own_stays p scope m s d b
  names_apart c d (inl a) (inr r) e = absurd (no_copy c r.name (record { statement = s; number = r.number }) (r.inner ∷ r.rest) a (sym (own_stays p scope m s c a) ∙ e ∙ named_so d r))
  names_apart c d (inr r) (inl b) e = absurd (no_copy d r.name (record { statement = s; number = r.number }) (r.inner ∷ r.rest) b (sym (own_stays p scope m s d b) ∙ sym e ∙ named_so c r))
  names_apart c d (inr a) (inr b) e =
      let i : Iteration = record { statement = s; number = a.number } in
      let j : Iteration = record { statement = s; number = b.number } in
      let whole : Private a.name (path ++ i ∷ (a.inner ∷ a.rest)) ≡ Private b.name (path ++ j ∷ (b.inner ∷ b.rest)) = sym (named_so c a) ∙ e ∙ named_so d b in
      let name = same_name a.name b.name (path ++ i ∷ (a.inner ∷ a.rest)) (path ++ j ∷ (b.inner ∷ b.rest)) whole in
      let rests = same_behind path (i ∷ (a.inner ∷ a.rest)) (j ∷ (b.inner ∷ b.rest)) (same_path a.name b.name (path ++ i ∷ (a.inner ∷ a.rest)) (path ++ j ∷ (b.inner ∷ b.rest)) whole) in
      let number : a.number ≡ b.number = ap (λ (k : Iteration). k.number) (same_first i j (a.inner ∷ a.rest) (b.inner ∷ b.rest) rests) in
      let more = same_rest i j (a.inner ∷ a.rest) (b.inner ∷ b.rest) rests in
      let inner = same_first a.inner b.inner a.rest b.rest more in
      let rest = same_rest a.inner b.inner a.rest b.rest more in
      let of = one_loop_of c d a b inner in
      a.is ∙ (λ r. Private (name r) (path ++ record { statement = of r; number = number r } ∷ (inner r ∷ rest r))) ∙ sym b.is
