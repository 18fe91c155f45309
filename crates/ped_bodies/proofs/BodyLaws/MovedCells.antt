-- Cells at a place to which a body is moved.
use Rattle.std.proofs.Common.{◌≡◌, ℕ, ◌+◌, ◌-◌, ◌<◌, List, [], ◌∷◌, ◌++◌, map, length, Bool, true, false, ◌&&◌, eqb, eqb-true, Option, Some, None, inl, inr, refl, sym, ap, ◌∙◌, arith, append_assoc, append-nil, if◌then◌else◌}
use Rattle.std.specs.Prelude.{◌==◌, ◌/◌, ◌%◌}
use Rattle.std.proofs.lemmas.List.{map-append, length-append, length-map}
use Rattle.ped_steps.specs.ped_flow.specs.ped_base.specs.Lists.{is_among}
use Rattle.ped_steps.specs.ped_store.specs.Cells.{Cell, Private, Iteration, same_iteration}
use Rattle.ped_steps.specs.ped_store.specs.Acts.{Turn, iterations_of}
use Rattle.ped_steps.specs.ped_laws.specs.Acts.Renaming.{own_name}
use Rattle.ped_steps.specs.ped_eval.specs.Scopes.{Frame, Scope, turns_of, cell_of}
use Rattle.ped_steps.specs.Runs.Exchanging.{IsExchange, AreExchanged}
use Rattle.ped_steps.specs.Runs.Renumbering.{renumbered_iteration}
use Rattle.ped_bodies.specs.Likewise.{NamesScalars, Meet}
use Rattle.ped_bodies.specs.Moving.{own_number, is_cell_among, behind_front, with_rest, moved_behind, turned, transposed, in_strips, peeled, in_loop, HaveNoCopies, LeadTo, HaveSameCopies, CellsCorrespond}

pub moved_names : (front : List Iteration) (g : List Iteration → List Iteration) → NamesScalars (moved_behind front g)
moved_names front g = record { element = λ x js. refl; input = refl; output = refl }

pub own_names : NamesScalars own_name
own_names = record { element = λ x js. refl; input = refl; output = refl }

-- what stands behind a front
itself : (n : ℕ) → eqb n n ≡ true
itself n = grind (arith, eqb-true)

same_itself : (i : Iteration) → same_iteration i i ≡ true
same_itself i = ap (λ (b : Bool). b && eqb i.number i.number) (itself i.statement) ∙ itself i.number

behind_same : (path front rest : List Iteration) → behind_front (path ++ front) (path ++ rest) ≡ behind_front front rest
behind_same [] front rest = refl
behind_same (i ∷ path) front rest = ap (λ (b : Bool). if b then behind_front (path ++ front) (path ++ rest) else None) (same_itself i) ∙ behind_same path front rest

pub behind_itself : (front rest : List Iteration) → behind_front front (front ++ rest) ≡ Some rest
behind_itself front rest = ap (λ (path : List Iteration). behind_front path (front ++ rest)) (sym (append-nil front)) ∙ behind_same front [] rest

module _ (g : List Iteration → List Iteration) where
  pub moved_is : (front rest : List Iteration) (x : List ℕ) → moved_behind front g (Private x (front ++ rest)) ≡ Private x (front ++ g rest)
  moved_is front rest x = ap (λ (o : Option (List Iteration)). Private x (with_rest front g (front ++ rest) o)) (behind_itself front rest)

  -- a path that a front begins with stays
  front_stays : (none : g [] ≡ []) (path more : List Iteration) → with_rest (path ++ more) g path (behind_front (path ++ more) path) ≡ path
  front_stays none path [] =
      ap (with_rest (path ++ []) g path) (ap (behind_front (path ++ [])) (sym (append-nil path)) ∙ behind_same path [] [])
      ∙ ap (λ (rest : List Iteration). (path ++ []) ++ rest) none ∙ append-nil (path ++ []) ∙ append-nil path
  front_stays none path (i ∷ more) = ap (with_rest (path ++ i ∷ more) g path) (ap (behind_front (path ++ i ∷ more)) (sym (append-nil path)) ∙ behind_same path (i ∷ more) [])

iterations_append : (turns others : List Turn) → iterations_of (turns ++ others) ≡ iterations_of turns ++ iterations_of others
iterations_append turns others = map-append (λ (u : Turn). record { statement = u.statement; number = u.number }) turns others

pub turns_append : (fs scope : Scope) → turns_of (fs ++ scope) ≡ turns_of scope ++ turns_of fs
turns_append [] scope = sym (append-nil (turns_of scope))
turns_append (f ∷ fs) scope = ap (λ (turns : List Turn). turns ++ f.turn ∷ []) (turns_append fs scope) ∙ append_assoc (turns_of scope) (turns_of fs) (f.turn ∷ [])

pub path_append : (fs scope : Scope) → iterations_of (turns_of (fs ++ scope)) ≡ iterations_of (turns_of scope) ++ iterations_of (turns_of fs)
path_append fs scope = ap iterations_of (turns_append fs scope) ∙ iterations_append (turns_of scope) (turns_of fs)

-- cells round the place stay
module _ (g : List Iteration → List Iteration) (none : g [] ≡ []) where
  round_stays : (scope : Scope) (more : List Iteration) (x : List ℕ) → moved_behind (iterations_of (turns_of scope) ++ more) g (cell_of scope x) ≡ cell_of scope x
  round_stays [] more x = refl
  round_stays (f ∷ fs) more x = go (is_among x f.private) (round_stays fs (record { statement = f.turn.statement; number = f.turn.number } ∷ more) x)
    where
      i : Iteration
      i = record { statement = f.turn.statement; number = f.turn.number }

      deeper_front : iterations_of (turns_of fs) ++ i ∷ more ≡ iterations_of (turns_of (f ∷ fs)) ++ more
      deeper_front = sym (append_assoc (iterations_of (turns_of fs)) (i ∷ []) more) ∙ ap (λ (path : List Iteration). path ++ more) (sym (iterations_append (turns_of fs) (f.turn ∷ [])))

      go : (b : Bool) → moved_behind (iterations_of (turns_of fs) ++ i ∷ more) g (cell_of fs x) ≡ cell_of fs x
          → moved_behind (iterations_of (turns_of (f ∷ fs)) ++ more) g (if b then Private x (iterations_of (turns_of (f ∷ fs))) else cell_of fs x) ≡ (if b then Private x (iterations_of (turns_of (f ∷ fs))) else cell_of fs x)
      go true rest = ap (Private x) (front_stays g none (iterations_of (turns_of (f ∷ fs))) more)
      go false rest = ap (λ (front : List Iteration). moved_behind front g (cell_of fs x)) (sym deeper_front) ∙ rest

  pub place_stays : (scope : Scope) (x : List ℕ) → moved_behind (iterations_of (turns_of scope)) g (cell_of scope x) ≡ cell_of scope x
  place_stays scope x = ap (λ (front : List Iteration). moved_behind front g (cell_of scope x)) (sym (append-nil (iterations_of (turns_of scope)))) ∙ round_stays scope [] x

pub no_copies : (fs scope : Scope) (x : List ℕ) → HaveNoCopies fs → cell_of (fs ++ scope) x ≡ cell_of scope x
no_copies [] scope x h = refl
no_copies (f ∷ fs) scope x h = ap (λ (names : List (List ℕ)). if is_among x names then Private x (iterations_of (turns_of (f ∷ (fs ++ scope)))) else cell_of (fs ++ scope) x) h.0 ∙ no_copies fs scope x h.1

-- a body is moved inside one place
module _ (idle : Cell → Bool) (f : ℕ → ℕ) (g : List Iteration → List Iteration) (names : List (List ℕ)) (scope : Scope) where
  abbrev front : List Iteration
  front = iterations_of (turns_of scope)

  copies_lead : (fs gs : Scope) → LeadTo g f fs gs → (x : List ℕ) (more : List Iteration) → Private x (iterations_of (turns_of (gs ++ scope)) ++ map (renumbered_iteration f) more) ≡ moved_behind front g (Private x (iterations_of (turns_of (fs ++ scope)) ++ more))
  copies_lead fs gs lead x more =
      ap (λ (path : List Iteration). Private x (path ++ map (renumbered_iteration f) more)) (path_append gs scope)
      ∙ ap (Private x) (append_assoc front (iterations_of (turns_of gs)) (map (renumbered_iteration f) more))
      ∙ ap (λ (rest : List Iteration). Private x (front ++ rest)) (sym (lead more))
      ∙ sym (moved_is g front (iterations_of (turns_of fs) ++ more) x)
      ∙ ap (λ (path : List Iteration). moved_behind front g (Private x path)) (sym (append_assoc front (iterations_of (turns_of fs)) more))
      ∙ ap (λ (path : List Iteration). moved_behind front g (Private x (path ++ more))) (sym (path_append fs scope))

  -- iterations without copies of their own
  pub moved_alone : (fs gs : Scope) → HaveNoCopies fs → HaveNoCopies gs → g [] ≡ [] → LeadTo g f fs gs → CellsCorrespond (moved_behind front g) idle f names (fs ++ scope) (gs ++ scope)
  moved_alone fs gs h k none lead = record {
    cell = λ x among. inl (no_copies gs scope x k ∙ sym (place_stays g none scope x) ∙ ap (moved_behind front g) (sym (no_copies fs scope x h)));
    inside = λ x i more among. inl (copies_lead fs gs lead x (i ∷ more));
  }

  -- one iteration, with the same copies
  pub moved_with_copies : (r z : Frame) → z.private ≡ r.private → g [] ≡ [] → LeadTo g f (r ∷ []) (z ∷ []) → CellsCorrespond (moved_behind front g) idle f names (r ∷ scope) (z ∷ scope)
  moved_with_copies r z same none lead = record {
    cell = λ x among. inl (cell x);
    inside = λ x i more among. inl (copies_lead (r ∷ []) (z ∷ []) lead x (i ∷ more));
  }
    where
      own : (x : List ℕ) → Private x (iterations_of (turns_of (z ∷ scope))) ≡ moved_behind front g (Private x (iterations_of (turns_of (r ∷ scope))))
      own x =
          ap (Private x) (sym (append-nil (iterations_of (turns_of (z ∷ scope))))) ∙ copies_lead (r ∷ []) (z ∷ []) lead x []
          ∙ ap (λ (path : List Iteration). moved_behind front g (Private x path)) (append-nil (iterations_of (turns_of (r ∷ scope))))

      by : (x : List ℕ) (b : Bool) → (if b then Private x (iterations_of (turns_of (z ∷ scope))) else cell_of scope x) ≡ moved_behind front g (if b then Private x (iterations_of (turns_of (r ∷ scope))) else cell_of scope x)
      by x true = own x
      by x false = sym (place_stays g none scope x)

      cell : (x : List ℕ) → cell_of (z ∷ scope) x ≡ moved_behind front g (cell_of (r ∷ scope) x)
      cell x = ap (λ (xs : List (List ℕ)). if is_among x xs then Private x (iterations_of (turns_of (z ∷ scope))) else cell_of scope x) same ∙ by x (is_among x r.private)

-- the same iterations
pub same_numbers : (path : List Iteration) → map (renumbered_iteration own_number) path ≡ path
same_numbers [] = refl
same_numbers (i ∷ path) = ap (λ (rest : List Iteration). i ∷ rest) (same_numbers path)

same_path : (names : List (List ℕ)) (scope other : Scope) → HaveSameCopies names scope other → iterations_of (turns_of other) ≡ iterations_of (turns_of scope)
same_path names [] [] h = refl
same_path names [] (g ∷ gs) h = absurd h
same_path names (f ∷ fs) [] h = absurd h
same_path names (f ∷ fs) (g ∷ gs) h =
    iterations_append (turns_of gs) (g.turn ∷ []) ∙ (λ i. same_path names fs gs h.3 i ++ record { statement = h.0 i; number = h.1 i } ∷ []) ∙ sym (iterations_append (turns_of fs) (f.turn ∷ []))

-- the cell of a name belongs to that name
own_cell : (names : List (List ℕ)) (scope : Scope) (x : List ℕ) → is_among x names ≡ true → is_cell_among names (cell_of scope x) ≡ true
own_cell names [] x h = h
own_cell names (f ∷ fs) x h = go (is_among x f.private) (own_cell names fs x h)
  where
    go : (b : Bool) → is_cell_among names (cell_of fs x) ≡ true → is_cell_among names (if b then Private x (iterations_of (turns_of (f ∷ fs))) else cell_of fs x) ≡ true
    go true rest = h
    go false rest = rest

other_cell : (names : List (List ℕ)) (scope other : Scope) → HaveSameCopies names scope other → (x : List ℕ) → is_among x names ≡ false → cell_of other x ≡ cell_of scope x
other_cell names [] [] h x apart = refl
other_cell names [] (g ∷ gs) h x apart = absurd h
other_cell names (f ∷ fs) [] h x apart = absurd h
other_cell names (f ∷ fs) (g ∷ gs) h x apart = λ i. if h.2 x apart i then Private x (same_path names (f ∷ fs) (g ∷ gs) h i) else other_cell names fs gs h.3 x apart i

pub same_cells : (names others : List (List ℕ)) (idle : Cell → Bool) (scope other : Scope) → ((c : Cell) → is_cell_among names c ≡ true → idle c ≡ true) → HaveSameCopies names scope other → CellsCorrespond own_name idle own_number others scope other
same_cells names others idle scope other covers same = record {
  cell = λ x among. go x (is_among x names) refl;
  inside = λ x i more among. inl (λ j. Private x (same_path names scope other same j ++ same_numbers (i ∷ more) j));
}
  where
    go : (x : List ℕ) (b : Bool) → is_among x names ≡ b → Meet own_name idle (cell_of scope x) (cell_of other x)
    go x true h = inr (covers (cell_of scope x) (own_cell names scope x h), covers (cell_of other x) (own_cell names other x h))
    go x false h = inl (other_cell names scope other same x h)

-- cells that have changed places in the same iterations
pub exchanged_cells : (name : Cell → Cell) (idle : Cell → Bool) (names : List (List ℕ)) (scope other : Scope) → AreExchanged name scope other → CellsCorrespond name idle own_number names scope other
exchanged_cells name idle names scope other same = record {
  cell = λ x among. inl (same.cell x);
  inside = λ x i more among. inl (copy x i more);
}
  where
    longer : (i : Iteration) (more : List Iteration) → length (turns_of scope) < length (iterations_of (turns_of scope) ++ i ∷ more)
    longer i more =
        let same_length : length (iterations_of (turns_of scope)) ≡ length (turns_of scope) = length-map (turns_of scope) _ in
        omega (arith, length-append (iterations_of (turns_of scope)) (i ∷ more))

    copy : (x : List ℕ) (i : Iteration) (more : List Iteration) → Private x (iterations_of (turns_of other) ++ map (renumbered_iteration own_number) (i ∷ more)) ≡ name (Private x (iterations_of (turns_of scope) ++ i ∷ more))
    copy x i more =
        (λ j. Private x (iterations_of (same.turns j) ++ same_numbers (i ∷ more) j))
        ∙ sym (same.inside x (iterations_of (turns_of scope) ++ i ∷ more) (longer i more))

pub exchanged_names : (name : Cell → Cell) → IsExchange name → NamesScalars name
exchanged_names name laws = record { element = laws.element; input = laws.input; output = laws.output }

-- where the names of each step lead
pub is_there : (l n : ℕ) → n ≡ l → (n == l) ≡ true
is_there l n h = grind (arith, eqb-true)

pub turned_leads : (l n : ℕ) (r z : Frame) → r.turn.statement ≡ l → z.turn.statement ≡ l → z.turn.number ≡ n + 1 - r.turn.number → LeadTo (turned l n) own_number (r ∷ []) (z ∷ [])
turned_leads l n r z at there number more =
    ap (λ (b : Bool). if b then record { statement = l; number = n + 1 - r.turn.number } ∷ more else record { statement = r.turn.statement; number = r.turn.number } ∷ more) (is_there l r.turn.statement at)
    ∙ (λ i. record { statement = sym there i; number = sym number i } ∷ sym (same_numbers more) i)

pub in_loop_leads : (l k : ℕ) (r z : Frame) → r.turn.statement ≡ l → z.turn.statement ≡ k → z.turn.number ≡ r.turn.number → LeadTo (in_loop l k) own_number (r ∷ []) (z ∷ [])
in_loop_leads l k r z at there number more =
    ap (λ (b : Bool). if b then record { statement = k; number = r.turn.number } ∷ more else record { statement = r.turn.statement; number = r.turn.number } ∷ more) (is_there l r.turn.statement at)
    ∙ (λ i. record { statement = sym there i; number = sym number i } ∷ sym (same_numbers more) i)

-- the inner iteration is the first of two frames
pub transposed_leads : (outer inner : ℕ) (column row : ℕ → ℕ → ℕ) (j i i' j' : Frame) → i.turn.statement ≡ outer → j'.turn.statement ≡ outer → i'.turn.statement ≡ inner → j'.turn.number ≡ column i.turn.number j.turn.number → i'.turn.number ≡ row i.turn.number j.turn.number
    → LeadTo (transposed outer inner column row) own_number (j ∷ (i ∷ [])) (i' ∷ (j' ∷ []))
transposed_leads outer inner column row j i i' j' at there inside first second more =
    ap
    (λ (b : Bool).
    if b then record { statement = outer; number = column i.turn.number j.turn.number } ∷ (record { statement = inner; number = row i.turn.number j.turn.number } ∷ more)
    else record { statement = i.turn.statement; number = i.turn.number } ∷ (record { statement = j.turn.statement; number = j.turn.number } ∷ more))
    (is_there outer i.turn.statement at)
    ∙ (λ k. record { statement = sym there k; number = sym first k } ∷ (record { statement = sym inside k; number = sym second k } ∷ sym (same_numbers more) k))

pub strips_lead : (l inner size : ℕ) (r q z : Frame) → r.turn.statement ≡ l → q.turn.statement ≡ l → z.turn.statement ≡ inner → q.turn.number ≡ (r.turn.number - 1) / size + 1 → z.turn.number ≡ (r.turn.number - 1) % size + 1
    → LeadTo (in_strips l inner size) own_number (r ∷ []) (z ∷ (q ∷ []))
strips_lead l inner size r q z at there inside first second more =
    ap
    (λ (b : Bool).
    if b then record { statement = l; number = (r.turn.number - 1) / size + 1 } ∷ (record { statement = inner; number = (r.turn.number - 1) % size + 1 } ∷ more) else record { statement = r.turn.statement; number = r.turn.number } ∷ more)
    (is_there l r.turn.statement at)
    ∙ (λ k. record { statement = sym there k; number = sym first k } ∷ (record { statement = sym inside k; number = sym second k } ∷ sym (same_numbers more) k))

-- the peeled iteration, and another one
pub peeled_leads : (l k : ℕ) (f : ℕ → ℕ) (r : Frame) → r.turn.statement ≡ l → r.turn.number ≡ k → LeadTo (peeled l k f) f (r ∷ []) []
peeled_leads l k f r at number more =
    (λ i. if is_there l r.turn.statement at i then if is_there k r.turn.number number i then map (renumbered_iteration f) more else record { statement = l; number = if k == 1 then r.turn.number - 1 else r.turn.number } ∷ more
    else record { statement = r.turn.statement; number = r.turn.number } ∷ more)

pub unpeeled_leads : (l k : ℕ) (f : ℕ → ℕ) (r z : Frame) → r.turn.statement ≡ l → z.turn.statement ≡ l → (r.turn.number == k) ≡ false → z.turn.number ≡ (if k == 1 then r.turn.number - 1 else r.turn.number) → LeadTo (peeled l k f) own_number (r ∷ []) (z ∷ [])
unpeeled_leads l k f r z at there other number more =
    (λ i. if is_there l r.turn.statement at i then if other i then map (renumbered_iteration f) more else record { statement = l; number = if k == 1 then r.turn.number - 1 else r.turn.number } ∷ more
    else record { statement = r.turn.statement; number = r.turn.number } ∷ more)
    ∙ (λ i. record { statement = sym there i; number = sym number i } ∷ sym (same_numbers more) i)
