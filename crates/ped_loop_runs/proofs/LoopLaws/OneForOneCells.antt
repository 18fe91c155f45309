-- Copies inside a DO and their names in the DO that takes its place, and cells of which nothing is asked.
use Rattle.std.proofs.Common.{◌≡◌, ℕ, suc, ◌+◌, ◌-◌, ◌<◌, ◌≤◌, List, [], ◌∷◌, ◌++◌, Bool, true, false, eqb, eqb-true, Option, Some, None, refl, sym, ap, subst, ◌∙◌, ◌⊎◌, inl, inr, arith, append-nil, if◌then◌else◌}
use Rattle.std.specs.Prelude.{◌&&◌}
use Rattle.std.proofs.lemmas.Bool.{and_parts, both_ways}
use Rattle.ped_bodies.specs.ped_flow.specs.ped_base.specs.Lists.{is_same_text, is_among}
use Rattle.ped_bodies.specs.ped_store.specs.Cells.{Cell, Scalar, Element, Private, In, Out, Iteration, same_cell}
use Rattle.ped_bodies.specs.ped_store.specs.Stores.{Undefined}
use Rattle.ped_bodies.specs.ped_store.specs.Acts.{Manner, reads, writes, is_told, Touch, Turn, Act, iterations_of}
use Rattle.ped_bodies.specs.ped_laws.specs.Acts.Fitting.{touches_of, of_cells, has_cell}
use Rattle.ped_bodies.specs.ped_laws.specs.Acts.Sets.{nothing, read_first, needed_by, needs}
use Rattle.ped_bodies.specs.ped_laws.specs.Acts.Conflicts.{IsNoReadOf, LeaveUnread, ReadNone, touches_without}
use Rattle.ped_bodies.specs.ped_laws.specs.Acts.Orders.{IsIn}
use Rattle.ped_bodies.specs.ped_laws.specs.Acts.Renaming.{AreRenamed, touched_by, touch}
use Rattle.ped_bodies.specs.ped_laws.proofs.ActLaws.SameCells.{text_itself, cell_is}
use Rattle.ped_bodies.specs.ped_laws.proofs.ActLaws.Lists.{in_parts}
use Rattle.ped_bodies.specs.ped_laws.proofs.ActLaws.Renamings.{or_left, or_right, or_either}
use Rattle.ped_bodies.specs.ped_laws.proofs.ActLaws.Outside.{kept_first, dropped_first, without_append, unread_append, unread_touches}
use Rattle.ped_bodies.specs.ped_laws.specs.FlowRuns.Covering.{is_cell_of}
use Rattle.ped_bodies.specs.ped_laws.proofs.FlowRunLaws.Names.{no_copy_within}
use Rattle.ped_bodies.specs.ped_eval.specs.Scopes.{Setting, Scope, turns_of, cell_of}
use Rattle.ped_bodies.specs.ped_eval.specs.Statements.{write_touch}
use Rattle.ped_bodies.specs.ped_eval.specs.Loops.{Entered, undefined_by, undefined_all, left_in_variable, exit_touches}
use Rattle.ped_bodies.specs.ped_steps.specs.Runs.Exchanging.{is_of_scalar}
use Rattle.ped_loop_runs.specs.Executions.{IsCopyInside}
use Rattle.ped_loop_runs.proofs.PastingLaws.LeftCopies.{IsOwn}
use Rattle.ped_bodies.specs.Likewise.{Meet, AllMeet, AreLikewise}
use Rattle.ped_bodies.specs.Moving.{is_cell_among, behind_front, with_rest, turned, IsOfTrips, LiesBehind}
use Rattle.ped_bodies.proofs.BodyLaws.MovedCells.{behind_itself, moved_is, place_stays}
use Rattle.ped_bodies.proofs.BodyLaws.NamesApart.{behind_is, reversed_apart}
use Rattle.ped_loop_runs.specs.OneForOne.{trip_names, trip_idle}

number_itself : (n : ℕ) → eqb n n ≡ true
number_itself n = grind (arith, eqb-true)

-- cells of these names
pub among_of_scalar : (names : List (List ℕ)) (c : Cell) → is_cell_among names c ≡ true → is_of_scalar c ≡ true
among_of_scalar names (Scalar x) h = refl
among_of_scalar names (Private x path) h = refl
among_of_scalar names (Element x js) h = absurd cc
among_of_scalar names In h = absurd cc
among_of_scalar names Out h = absurd cc

pub cell_among : (names : List (List ℕ)) (scope : Scope) (x : List ℕ) → is_cell_among names (cell_of scope x) ≡ is_among x names
cell_among names [] x = refl
cell_among names (f ∷ fs) x = go (is_among x f.private) (cell_among names fs x)
  where
    go : (b : Bool) → is_cell_among names (cell_of fs x) ≡ is_among x names → is_cell_among names (if b then Private x (iterations_of (turns_of (f ∷ fs))) else cell_of fs x) ≡ is_among x names
    go true h = refl
    go false h = h

-- what isn't read of each name isn't read of all
not_read : (names : List (List ℕ)) (c : Cell) → ((w : List ℕ) → is_among w names ≡ true → is_cell_of w c ≡ false) → is_cell_among names c ≡ false
not_read names (Scalar x) h = go (is_among x names) refl
  where
    go : (b : Bool) → is_among x names ≡ b → b ≡ false
    go true e = absurd (both_ways (is_same_text x x) (h x e) (text_itself x))
    go false e = refl
not_read names (Private x path) h = go (is_among x names) refl
  where
    go : (b : Bool) → is_among x names ≡ b → b ≡ false
    go true e = absurd (both_ways (is_same_text x x) (h x e) (text_itself x))
    go false e = refl
not_read names (Element x js) h = refl
not_read names In h = refl
not_read names Out h = refl

touch_unread : (names : List (List ℕ)) (m : Manner) (c : Cell) → ((w : List ℕ) → is_among w names ≡ true → IsNoReadOf (is_cell_of w) m c) → IsNoReadOf (is_cell_among names) m c
touch_unread names reads c h = not_read names c h
touch_unread names writes c h = tt
touch_unread names is_told c h = tt

touches_unread : (names : List (List ℕ)) (ts : List Touch) → ((w : List ℕ) → is_among w names ≡ true → LeaveUnread (is_cell_of w) ts) → LeaveUnread (is_cell_among names) ts
touches_unread names [] h = tt
touches_unread names (t ∷ ts) h = (touch_unread names t.manner t.cell (λ w i. (h w i).0), touches_unread names ts (λ w i. (h w i).1))

pub all_unread : (names : List (List ℕ)) (acts : List Act) → ((w : List ℕ) → is_among w names ≡ true → ReadNone (is_cell_of w) acts) → ReadNone (is_cell_among names) acts
all_unread names [] h = tt
all_unread names (a ∷ acts) h = (touches_unread names a.touches (λ w i. (h w i).0), all_unread names acts (λ w i. (h w i).1))

-- what isn't read isn't needed
unread_unneeded : (d : Cell → Bool) (ts : List Touch) (c : Cell) → LeaveUnread d ts → needed_by ts c ≡ true → d c ≡ false
unread_unneeded d [] c h n = absurd cc
unread_unneeded d (t ∷ ts) c h n = go (same_cell t.cell c) refl n (unread_unneeded d ts c h.1)
  where
    by : (m : Manner) → IsNoReadOf d m t.cell → same_cell t.cell c ≡ true → read_first m (needed_by ts c) ≡ true → (needed_by ts c ≡ true → d c ≡ false) → d c ≡ false
    by reads k e q more = ap d (sym (cell_is t.cell c e)) ∙ k
    by writes k e q more = absurd cc
    by is_told k e q more = more q

    go : (b : Bool) → same_cell t.cell c ≡ b → (if b then read_first t.manner (needed_by ts c) else needed_by ts c) ≡ true → (needed_by ts c ≡ true → d c ≡ false) → d c ≡ false
    go true e q more = by t.manner h.0 e q more
    go false e q more = more q

pub needed_counts : (d : Cell → Bool) (acts : List Act) (c : Cell) → ReadNone d acts → needs acts c ≡ true → d c ≡ false
needed_counts d acts c h n = unread_unneeded d (touches_of acts) c (unread_touches d acts h) n

-- acts that touch a cell have a touch of it
touch_in : (ts : List Touch) (c : Cell) → touched_by ts c ≡ true → (t : Touch) × IsIn t ts × (t.cell ≡ c)
touch_in [] c h = absurd cc
touch_in (t ∷ ts) c h = elim (or_either (has_cell t.manner && same_cell t.cell c) (touched_by ts c) h) [
  | inl k ↦ (t, inl refl, cell_is t.cell c (and_parts (has_cell t.manner) (same_cell t.cell c) k).1)
  | inr k ↦ let r = touch_in ts c k in (r.0, inr r.1, r.2)
]

touch_of : (acts : List Act) (t : Touch) → IsIn t (touches_of acts) → (a : Act) × IsIn a acts × IsIn t a.touches
touch_of [] t i = absurd i
touch_of (b ∷ acts) t i = elim (in_parts t b.touches (touches_of acts) i) [
  | inl k ↦ (b, inl refl, k)
  | inr k ↦ let r = touch_of acts t k in (r.0, inr r.1, r.2)
]

pub touched_in : (acts : List Act) (c : Cell) → touch acts c ≡ true → (a : Act) × IsIn a acts × (t : Touch) × IsIn t a.touches × (t.cell ≡ c)
touched_in acts c h =
    let t = touch_in (touches_of acts) c h in
    let a = touch_of acts t.0 t.1 in
    (a.0, a.1, t.0, a.2, t.2)

-- more cells may be idle where none was
meets_wider : (name : Cell → Cell) (idle : Cell → Bool) (xs ys : List Touch) → AllMeet name nothing xs ys → AllMeet name idle xs ys
meets_wider name idle [] [] h = tt
meets_wider name idle [] (y ∷ ys) h = absurd h
meets_wider name idle (x ∷ xs) [] h = absurd h
meets_wider name idle (x ∷ xs) (y ∷ ys) h = (record { manner = h.0.manner; reference = h.0.reference; content = h.0.content; cells = wider h.0.cells }, meets_wider name idle xs ys h.1)
  where
    wider : Meet name nothing x.cell y.cell → Meet name idle x.cell y.cell
    wider (inl e) = inl e
    wider (inr e) = absurd cc

likewise_wider : (name : Cell → Cell) (idle : Cell → Bool) (f : ℕ → ℕ) (turns others : List Turn) (acts fresh : List Act) → AreLikewise name nothing f turns others acts fresh → AreLikewise name idle f turns others acts fresh
likewise_wider name idle f turns others [] [] h = tt
likewise_wider name idle f turns others [] (b ∷ fresh) h = absurd h
likewise_wider name idle f turns others (a ∷ acts) [] h = absurd h
likewise_wider name idle f turns others (a ∷ acts) (b ∷ fresh) h = (
  record { step = h.0.step; statement = h.0.statement; more = h.0.more; old = h.0.old; new = h.0.new; touches = meets_wider name idle (of_cells a.touches) (of_cells b.touches) h.0.touches },
  likewise_wider name idle f turns others acts fresh h.1,
)

pub likewise_idle : (reversed : Bool) (names : List (List ℕ)) (name : Cell → Cell) (f : ℕ → ℕ) (turns others : List Turn) (acts fresh : List Act) → AreLikewise name (trip_idle reversed names) f turns others acts fresh → AreLikewise name (is_cell_among names) f turns others acts fresh
likewise_idle true names name f turns others acts fresh h = likewise_wider name (is_cell_among names) f turns others acts fresh h
likewise_idle false names name f turns others acts fresh h = h

-- what the exit of a DO writes, without the variables of the DO loops
module _ (idle : Cell → Bool) (scope : Scope) where
  private_unread : (n : ℕ) (xs : List (List ℕ)) → LeaveUnread idle (undefined_by scope n xs)
  private_unread n [] = tt
  private_unread n (x ∷ xs) = (tt, private_unread (suc n) xs)

  inner_unread : (xs : List (List ℕ)) → LeaveUnread idle (undefined_all scope xs)
  inner_unread [] = tt
  inner_unread (x ∷ xs) = (tt, inner_unread xs)

  pub exit_unread : (e : Entered) → LeaveUnread idle (exit_touches e scope)
  exit_unread e = (tt, unread_append idle (undefined_by scope e.behind_bounds e.head.private) (undefined_all scope e.inner) (private_unread e.behind_bounds e.head.private) (inner_unread e.inner))

  no_inner_left : (xs : List (List ℕ)) → ((x : List ℕ) → is_among x xs ≡ true → idle (cell_of scope x) ≡ true) → touches_without idle (undefined_all scope xs) ≡ []
  no_inner_left [] h = refl
  no_inner_left (x ∷ xs) h =
      dropped_first idle (write_touch (cell_of scope x) Undefined 0) (undefined_all scope xs) (h x (or_left (is_same_text x x) (is_among x xs) (text_itself x)))
      ∙ no_inner_left xs (λ y i. h y (or_right (is_same_text y x) (is_among y xs) i))

  private_alone : (e : Entered) → idle (cell_of scope e.head.variable) ≡ true → ((x : List ℕ) → is_among x e.inner ≡ true → idle (cell_of scope x) ≡ true) → touches_without idle (exit_touches e scope) ≡ touches_without idle (undefined_by scope e.behind_bounds e.head.private)
  private_alone e own inner =
      let names = undefined_by scope e.behind_bounds e.head.private in
      dropped_first idle (write_touch (cell_of scope e.head.variable) (left_in_variable e) 0) (names ++ undefined_all scope e.inner) own
      ∙ without_append idle names (undefined_all scope e.inner)
      ∙ ap (λ (ts : List Touch). touches_without idle names ++ ts) (no_inner_left e.inner inner)
      ∙ append-nil (touches_without idle names)

  module _ (name : Cell → Cell) (stays : (x : List ℕ) → name (cell_of scope x) ≡ cell_of scope x) where
    private_renamed : (n m : ℕ) (xs : List (List ℕ)) → AreRenamed name (of_cells (touches_without idle (undefined_by scope n xs))) (of_cells (touches_without idle (undefined_by scope m xs)))
    private_renamed n m [] = tt
    private_renamed n m (x ∷ xs) = go (idle (cell_of scope x)) refl (private_renamed (suc n) (suc m) xs)
      where
        first : ℕ → Touch
        first k = write_touch (cell_of scope x) Undefined k

        Same : List Touch → List Touch → Type 0
        Same ts us = AreRenamed name (of_cells ts) (of_cells us)

        go : (b : Bool) → idle (cell_of scope x) ≡ b → Same (touches_without idle (undefined_by scope (suc n) xs)) (touches_without idle (undefined_by scope (suc m) xs)) → Same (touches_without idle (undefined_by scope n (x ∷ xs))) (touches_without idle (undefined_by scope m (x ∷ xs)))
        go true e more =
            subst (λ (ts : List Touch). Same ts (touches_without idle (undefined_by scope m (x ∷ xs)))) (sym (dropped_first idle (first n) (undefined_by scope (suc n) xs) e))
            (subst (λ (us : List Touch). Same (touches_without idle (undefined_by scope (suc n) xs)) us) (sym (dropped_first idle (first m) (undefined_by scope (suc m) xs) e)) more)
        go false e more =
            subst (λ (ts : List Touch). Same ts (touches_without idle (undefined_by scope m (x ∷ xs)))) (sym (kept_first idle (first n) (undefined_by scope (suc n) xs) e))
            (subst (λ (us : List Touch). Same (first n ∷ touches_without idle (undefined_by scope (suc n) xs)) us) (sym (kept_first idle (first m) (undefined_by scope (suc m) xs) e)) (refl, refl, sym (stays x), more))

    pub exit_renamed : (e z : Entered) → z.head.private ≡ e.head.private → idle (cell_of scope e.head.variable) ≡ true → idle (cell_of scope z.head.variable) ≡ true → ((x : List ℕ) → is_among x e.inner ≡ true → idle (cell_of scope x) ≡ true)
        → ((x : List ℕ) → is_among x z.inner ≡ true → idle (cell_of scope x) ≡ true) → AreRenamed name (of_cells (touches_without idle (exit_touches e scope))) (of_cells (touches_without idle (exit_touches z scope)))
    exit_renamed e z private own other inner others =
        subst (λ (ts : List Touch). AreRenamed name (of_cells ts) (of_cells (touches_without idle (exit_touches z scope)))) (sym (private_alone e own inner))
        (subst (λ (us : List Touch). AreRenamed name (of_cells (touches_without idle (undefined_by scope e.behind_bounds e.head.private))) (of_cells us)) (sym (private_alone z other others ∙ ap (λ (xs : List (List ℕ)). touches_without idle (undefined_by scope z.behind_bounds xs)) private))
        (private_renamed e.behind_bounds z.behind_bounds e.head.private))

-- copies of the iterations of the DO with number l
-- what a name stands for at a place is no copy further inside
module _ (p : Setting) (scope : Scope) (P : Option (List Iteration) → Type 0) (other : P None) (here : P (Some [])) where
  abbrev its_front : List Iteration
  its_front = iterations_of (turns_of scope)

  pub own_lies : (c : Cell) → IsOwn p scope c → LiesBehind P (iterations_of (turns_of scope)) c
  own_lies (Scalar x) own = tt
  own_lies (Element x js) own = tt
  own_lies In own = tt
  own_lies Out own = tt
  own_lies (Private x path) own = go (behind_front its_front path) refl
    where
      none : (i : Iteration) (more : List Iteration) → path ≡ its_front ++ i ∷ more → IsOwn p scope (Private x path) → ⊥
      none i more e (inl k) = no_copy_within scope k.0 x i more (sym k.1 ∙ ap (Private x) e)
      none i more e (inr k) = absurd cc

      go : (o : Option (List Iteration)) → behind_front its_front path ≡ o → P o
      go None e = other
      go (Some []) e = here
      go (Some (i ∷ more)) e = absurd (none i more (behind_is its_front path (i ∷ more) e) own)

module _ (p : Setting) (scope : Scope) (l : ℕ) where
  abbrev front : List Iteration
  front = iterations_of (turns_of scope)

  abbrev at : ℕ → Iteration
  at k = record { statement = p.number l; number = k }

  -- a copy that belongs to an iteration of the DO, or to one further inside
  pub record IsOfLoop (c : Cell) : Type 0 where
    pub name : List ℕ
    pub number : ℕ
    pub rest : List Iteration
    pub is : c ≡ Private name (front ++ at number ∷ rest)

  pub inside : (count : ℕ) (c : Cell) → 0 < count → IsOfLoop c → IsCopyInside p scope l count c
  inside count c some k = record { name = k.name; statement = l; from = omega arith; to = omega (arith, some); number = k.number; rest = k.rest; is = k.is }

  module _ (n : ℕ) where
    abbrev names : Bool → Cell → Cell
    names b = trip_names b front (p.number l) n

    pub names_idle : (b : Bool) (variables : List (List ℕ)) (c : Cell) → is_cell_among variables (names b c) ≡ is_cell_among variables c
    names_idle true variables (Scalar x) = refl
    names_idle true variables (Private x path) = refl
    names_idle true variables (Element x js) = refl
    names_idle true variables In = refl
    names_idle true variables Out = refl
    names_idle false variables c = refl

    pub names_stay : (b : Bool) (x : List ℕ) → names b (cell_of scope x) ≡ cell_of scope x
    names_stay true x = place_stays (turned (p.number l) n) refl scope x
    names_stay false x = refl

    turned_first : (i : Iteration) (more : List Iteration) (b : Bool) → eqb i.statement (p.number l) ≡ b → turned (p.number l) n (i ∷ more) ≡ (if b then at (n + 1 - i.number) ∷ more else i ∷ more)
    turned_first i more b e = ap (λ (r : Bool). if r then at (n + 1 - i.number) ∷ more else i ∷ more) e

    -- a cell keeps its name, or is such a copy
    pub stays_or_moves : (b : Bool) (c : Cell) → (names b c ≡ c) ⊎ IsOfLoop c
    stays_or_moves false c = inl refl
    stays_or_moves true (Scalar x) = inl refl
    stays_or_moves true (Element x js) = inl refl
    stays_or_moves true In = inl refl
    stays_or_moves true Out = inl refl
    stays_or_moves true (Private x path) = go (behind_front front path) refl
      where
        renamed : (o : Option (List Iteration)) → behind_front front path ≡ o → names true (Private x path) ≡ Private x (with_rest front (turned (p.number l) n) path o)
        renamed o e = ap (λ (r : Option (List Iteration)). Private x (with_rest front (turned (p.number l) n) path r)) e

        by : (i : Iteration) (more : List Iteration) → behind_front front path ≡ Some (i ∷ more) → (b : Bool) → eqb i.statement (p.number l) ≡ b → (names true (Private x path) ≡ Private x path) ⊎ IsOfLoop (Private x path)
        by i more e true q =
            let statement : i.statement ≡ p.number l = eqb-true i.statement (p.number l) q in
            inr (record { name = x; number = i.number; rest = more; is = ap (Private x) (behind_is front path (i ∷ more) e ∙ (λ k. front ++ record { statement = statement k; number = i.number } ∷ more)) })
        by i more e false q = inl (renamed (Some (i ∷ more)) e ∙ ap (λ (r : List Iteration). Private x (front ++ r)) (turned_first i more false q) ∙ ap (Private x) (sym (behind_is front path (i ∷ more) e)))

        go : (o : Option (List Iteration)) → behind_front front path ≡ o → (names true (Private x path) ≡ Private x path) ⊎ IsOfLoop (Private x path)
        go None e = inl (renamed None e)
        go (Some []) e = inl (renamed (Some []) e ∙ ap (Private x) (sym (behind_is front path [] e)))
        go (Some (i ∷ more)) e = by i more e (eqb i.statement (p.number l)) refl

    -- such a copy is called as one
    pub moves_inside : (b : Bool) (c : Cell) → IsOfLoop c → IsOfLoop (names b c)
    moves_inside false c k = k
    moves_inside true c k = record {
      name = k.name;
      number = n + 1 - k.number;
      rest = k.rest;
      is = ap (names true) k.is ∙ moved_is (turned (p.number l) n) front (at k.number ∷ k.rest) k.name ∙ ap (λ (r : List Iteration). Private k.name (front ++ r)) (turned_first (at k.number) k.rest true (number_itself (p.number l)));
    }

    -- what names stand for at the place, and such copies of so many iterations
    abbrev pub Reached : Cell → Type 0
    Reached c = IsOwn p scope c ⊎ ((k : ℕ) × (1 ≤ k) × (k ≤ n) × (x : List ℕ) × (rest : List Iteration) × (c ≡ Private x (front ++ at k ∷ rest)))

    pub lies : (c : Cell) → Reached c → LiesBehind (IsOfTrips (p.number l) n) front c
    lies c (inl own) = own_lies p scope (IsOfTrips (p.number l) n) tt tt c own
    lies c (inr r) =
        subst (LiesBehind (IsOfTrips (p.number l) n) front) (sym r.5)
        (subst (IsOfTrips (p.number l) n) (sym (behind_itself front (at r.0 ∷ r.4))) (refl, r.1, r.2))

    pub names_apart : (b : Bool) (c d : Cell) → Reached c → Reached d → names b c ≡ names b d → c ≡ d
    names_apart false c d u v e = e
    names_apart true c d u v e = reversed_apart front (p.number l) n c d (lies c u) (lies d v) e
