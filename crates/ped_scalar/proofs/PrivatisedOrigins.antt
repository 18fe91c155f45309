-- Where the accesses come from that are made in the place of an execution of a DO whose iterations have one more private scalar.
use Rattle.std.proofs.Common.{◌≡◌, ℕ, zero, suc, ◌+◌, List, [], ◌∷◌, ◌++◌, map, cond, Bool, true, false, Ok, refl, sym, ap, subst, ◌∙◌, ◌⊎◌, inl, inr}
use Rattle.std.specs.Prelude.{not, ◌||◌}
use Rattle.std.specs.List.{filter}
use Rattle.std.proofs.lemmas.Bool.{both_ways}
use Rattle.ped_base.specs.Lists.{is_among}
use Rattle.ped_tree.specs.Tree.{Head, StmtTrees, Do, ProgramTree}
use Rattle.ped_tree.specs.Numbering.{statements_count}
use Rattle.ped_rules.specs.ped_store.specs.Cells.{Cell, Scalar, Element, Private, In, Out}
use Rattle.ped_rules.specs.ped_store.specs.Stores.{Store}
use Rattle.ped_rules.specs.ped_store.specs.Acts.{Touch, Act, entered, ended_turn, iterations_of}
use Rattle.ped_rules.specs.ped_store.specs.Races.{Access, is_lines, is_write, is_access, accesses_of, accesses}
use Rattle.ped_rules.specs.ped_laws.specs.Acts.Fitting.{store_after}
use Rattle.ped_rules.specs.ped_laws.specs.Acts.Orders.{IsIn}
use Rattle.ped_rules.specs.ped_laws.specs.Acts.Pieces.{Part, same, changed, old_parts, new_parts}
use Rattle.ped_rules.specs.ped_laws.proofs.ActLaws.Lists.{in_left, in_right, in_parts}
use Rattle.ped_rules.specs.ped_laws.proofs.ActLaws.Conflicting.{access_by, access_from, access_place, accesses_in}
use Rattle.ped_rules.specs.ped_eval.specs.Scopes.{Setting, Scope, turns_of, cell_of, names_in, place_of}
use Rattle.ped_rules.specs.ped_eval.specs.Evaluation.{Seen}
use Rattle.ped_rules.specs.ped_eval.specs.Loops.{Limits, limits, entered_with, frame, entry_touches, exit_when_none}
use Rattle.ped_rules.specs.ped_eval.specs.Runs.{Run, run, run_all}
use Rattle.ped_rules.specs.ped_eval.specs.Turns.{body_run}
use Rattle.ped_rules.specs.ped_flow.specs.Questions.{LoopOf}
use Rattle.ped_rules.specs.ped_laws.specs.Runs.Replaying.{goes_on, finish_of, act}
use Rattle.ped_rules.specs.ped_laws.specs.FlowRuns.Exits.{IsOneToOne, AreIterationsOf}
use Rattle.ped_rules.specs.ped_laws.proofs.FlowRunLaws.Standing.{whole_stands}
use Rattle.ped_rules.specs.ped_steps.specs.Runs.Exchanging.{IsExchange, exchanged_touch, exchanged_act, exchanged_acts, swapped}
use Rattle.ped_rules.specs.ped_steps.specs.Replacing.{alone}
use Rattle.ped_rules.specs.ped_steps.specs.Runs.Pasting.{IsPlaceOf}
use Rattle.ped_rules.specs.ped_loop_runs.specs.Pasting.{AreExchanged}
use Rattle.ped_rules.specs.ped_loop_runs.proofs.LoopLaws.OneForOneStands.{run_alone}
use Rattle.ped_rules.specs.ped_steps.proofs.RunLaws.AccessTouches.{accesses_from}
use Rattle.ped_rules.specs.ped_steps.proofs.RunLaws.Swapped.{decided, swapped_first, swapped_other, swap_exchanges, of_scalar}
use Rattle.ped_rules.specs.ped_steps.proofs.RunLaws.Uncopied.{IsCopyIn, copy_unnamed}
use Rattle.ped_scalar.proofs.PrivatisedLoops.{copy, new_turns, old_turns, new_loop, turns_are, more_goes, loop_is, turns_go}
use Rattle.ped_scalar.proofs.PrivatisedParts.{is_entered, all_spare_in, copy_is}

from_map : {X Y : Type 0} (f : X → Y) (xs : List X) (y : Y) → IsIn y (map f xs) → (x : X) × IsIn x xs × (y ≡ f x)
from_map f [] y i = absurd i
from_map f (x ∷ xs) y (inl e) = (x, inl refl, e)
from_map f (x ∷ xs) y (inr i) = let r = from_map f xs y i in (r.0, inr r.1, r.2)

-- cells that change places are those of scalars: the data and the output stay
module _ (name : Cell → Cell) (ex : IsExchange name) where
  lines_stay : (c : Cell) → is_lines c ≡ true → name c ≡ c
  lines_stay In h = ex.input
  lines_stay Out h = ex.output
  lines_stay (Scalar x) h = absurd cc
  lines_stay (Element x js) h = absurd cc
  lines_stay (Private x path) h = absurd cc

  same_lines : (c : Cell) → is_lines (name c) ≡ is_lines c
  same_lines c = go (is_lines c) refl (is_lines (name c)) refl
    where
      go : (b : Bool) → is_lines c ≡ b → (r : Bool) → is_lines (name c) ≡ r → is_lines (name c) ≡ is_lines c
      go true e r q = ap is_lines (lines_stay c e)
      go false e false q = q ∙ sym e
      go false e true q = absurd (both_ways (is_lines c) e (ap is_lines (sym (ex.twice c) ∙ lines_stay (name c) q) ∙ q))

  -- the access of the renamed cell
  abbrev renamed : Access → Access
  renamed b = record b { cell = name b.cell }

  module _ (a : Act) where
    by_touches : (ts : List Touch) → map (access_by (exchanged_act name a)) (filter is_access (map (exchanged_touch name) ts)) ≡ map renamed (map (access_by a) (filter is_access ts))
    by_touches [] = refl
    by_touches (t ∷ ts) =
        ap (λ (b : Bool). map (access_by (exchanged_act name a)) (cond b (exchanged_touch name t ∷ filter is_access (map (exchanged_touch name) ts)) (filter is_access (map (exchanged_touch name) ts)))) (ap (λ (b : Bool). is_write t.manner || not b) (same_lines t.cell))
        ∙ go (is_access t) (by_touches ts)
      where
        go : (b : Bool) → map (access_by (exchanged_act name a)) (filter is_access (map (exchanged_touch name) ts)) ≡ map renamed (map (access_by a) (filter is_access ts))
            → map (access_by (exchanged_act name a)) (cond b (exchanged_touch name t ∷ filter is_access (map (exchanged_touch name) ts)) (filter is_access (map (exchanged_touch name) ts))) ≡ map renamed (map (access_by a) (cond b (t ∷ filter is_access ts) (filter is_access ts)))
        go true more = ap (λ (zs : List Access). renamed (access_by a t) ∷ zs) more
        go false more = more

    -- the accesses of an act on renamed cells are renamed ones
    pub renamed_from : (b : Access) → IsIn b (accesses_of (exchanged_act name a)) → (c : Access) × IsIn c (accesses_of a) × (b ≡ renamed c)
    renamed_from b i = from_map renamed (accesses_of a) b (subst (IsIn b) (by_touches a.touches) i)

module _ (p : Setting) (h : Head) (body : StmtTrees) (l : ℕ) (x : List ℕ) (in_order : h.parallel ≡ false) (absent : is_among x h.private ≡ false) where
  module _ (S : Scope) (seen : List Seen) (m : Limits) where
    -- the scalar's own cell and its copy change places
    abbrev exchanging : ℕ → Cell → Cell
    exchanging k = swapped (cell_of S x) (copy p h body l S x in_order absent seen m k)

    -- an act stands at the place of the DO, or is one of these acts where the cells have changed places
    abbrev pub ComesFrom : List Act → Act → Type 0
    ComesFrom olds a = (a.place ≡ place_of p l S) ⊎ ((k : ℕ) × (b : Act) × IsIn b olds × (a ≡ exchanged_act (exchanging k) b))

    among : (xs ys : List Act) (a : Act) → ((b : Act) → IsIn b xs → IsIn b ys) → ComesFrom xs a → ComesFrom ys a
    among xs ys a sub (inl e) = inl e
    among xs ys a sub (inr r) = inr (r.0, r.1, sub r.1 r.2, r.3)

    abbrev old : ℕ → ℕ → Store → List Act
    old n k s = (old_turns p h body l S x in_order absent seen m n k s).acts

    abbrev new : ℕ → ℕ → Store → List Act
    new n k s = new_turns p h body l S x in_order absent seen m n k s

    abbrev trip : ℕ → Store → List Act
    trip k s = (body_run p body l S (frame (entered_with p l h body seen m) k) s).acts

    abbrev ended : ℕ → ℕ → Store → List Act
    ended n k s = trip k s ++ act (ended_turn n) (place_of p l S) (exit_when_none n (entered_with p l h body seen m) S) ∷ []

    abbrev rest : ℕ → ℕ → Store → List Act
    rest n k s = old n (k + 1) (store_after (ended n k s) s)

    turns_from : (n k : ℕ) (s : Store) → finish_of (old_turns p h body l S x in_order absent seen m n k s).ending ≡ goes_on → (a : Act) → IsIn a (new n k s) → ComesFrom (old n k s) a
    turns_from zero k s q a i = absurd i
    turns_from (suc n) k s q a i =
        elim (in_parts a (exchanged_acts (exchanging k) (trip k s)) _ i) [
          | inl j ↦ (let r = from_map (exchanged_act (exchanging k)) (trip k s) a j in inr (k, r.0, back r.0 (in_left r.0 (ended n k s) (rest n k s) (in_left r.0 (trip k s) _ r.1)), r.2))
          | inr j ↦ elim j [
            | inl e ↦ inl (ap (λ (b : Act). b.place) e)
            | inr o ↦ among (rest n k s) (old (suc n) k s) a (λ b w. back b (in_right b (ended n k s) (rest n k s) w)) (turns_from n (k + 1) (store_after (ended n k s) s) (more_goes p h body l S x in_order absent seen m n k s q) a o)
          ]
        ]
      where
        back : (b : Act) → IsIn b (ended n k s ++ rest n k s) → IsIn b (old (suc n) k s)
        back b w = subst (IsIn b) (ap (λ (r : Run). r.acts) (sym (turns_are p h body l S x in_order absent seen m n k s q))) w

    module _ (s : Store) (comes : limits (names_in p S) h s ≡ record { seen = seen; result = Ok m }) (goes : finish_of (run p (Do h body) l S s).ending ≡ goes_on) where
      abbrev entry : Act
      entry = act (entered (entered_with p l h body seen m).count) (place_of p l S) (entry_touches seen (entered_with p l h body seen m) S)

      back_in : (b : Act) → IsIn b (entry ∷ old (entered_with p l h body seen m).count 1 (store_after (entry ∷ []) s)) → IsIn b (run p (Do h body) l S s).acts
      back_in b w = subst (IsIn b) (ap (λ (r : Run). r.acts) (sym (loop_is p h body l S x in_order absent seen m s comes goes))) w

      -- what is done in the place of an execution comes from what was done
      pub loop_from : (a : Act) → IsIn a (new_loop p h body l S x in_order absent seen m s) → ComesFrom (run p (Do h body) l S s).acts a
      loop_from a (inl e) = inl (ap (λ (b : Act). b.place) e)
      loop_from a (inr i) =
          let count = (entered_with p l h body seen m).count in
          let u = store_after (entry ∷ []) s in
          among (old count 1 u) (run p (Do h body) l S s).acts a (λ b w. back_in b (inr w)) (turns_from count 1 u (turns_go p h body l S x in_order absent seen m s comes goes) a i)

-- the scalar's own cell in iterations of DO loops of the program, and its copy in one of the DO further inside
pub record IsCopied (p : Setting) (t : ProgramTree) (l : ℕ) (x : List ℕ) (own copied : Cell) : Type 0 where
  pub scope : Scope
  pub iterations : AreIterationsOf p t scope
  pub number : ℕ
  pub own_is : own ≡ cell_of scope x
  pub copied_is : copied ≡ Private x (iterations_of (turns_of scope) ++ (record { statement = p.number l; number = number }) ∷ [])

-- an access of the old acts that a new one comes from: the same, or one of the scalar where the new one is of its copy
pub record HasOrigin (p : Setting) (t : ProgramTree) (l : ℕ) (x : List ℕ) (acts : List Act) (b : Access) : Type 0 where
  pub origin : Access
  pub found : IsIn origin (accesses acts)
  pub place : origin.place ≡ b.place
  pub writes : origin.writes ≡ b.writes
  pub cell : (origin.cell ≡ b.cell) ⊎ IsCopied p t l x origin.cell b.cell

-- a new access stands at the place of the DO
pub record IsOfLoop (p : Setting) (t : ProgramTree) (l : ℕ) (b : Access) : Type 0 where
  pub scope : Scope
  pub round : IsPlaceOf p t l scope
  pub place : b.place ≡ place_of p l scope

module _ (t : ProgramTree) (l : ℕ) (loop : LoopOf t l) (x : List ℕ) (p : Setting) (one : IsOneToOne p.number) (in_order : loop.head.parallel ≡ false) (absent : is_among x loop.head.private ≡ false) (start : Store) where
  abbrev h : Head
  h = loop.head

  abbrev body : StmtTrees
  body = loop.body

  abbrev whole : List Act
  whole = (run_all p t.body 1 [] start).acts

  -- no old access is one of a copy in the DO
  pub no_access : (b : Access) → IsIn b (accesses whole) → IsCopyIn p x (p.number l) b.cell → ⊥
  no_access b i c =
      let r = accesses_from whole b i in
      let z = access_from r.0 r.0.touches b r.2 in
      copy_unnamed p x (p.number l) t.body 1 start (all_spare_in t l loop x p one in_order absent t.body 1 (whole_stands t)) r.0 z.0 r.1 z.1 (record { path = c.path; number = c.number; is = sym (ap (λ (d : Access). d.cell) z.2) ∙ c.is })

  -- where a new access comes from
  abbrev pub Comes : Access → Type 0
  Comes b = HasOrigin p t l x whole b ⊎ IsOfLoop p t l b

  stays : (b : Access) → IsIn b (accesses whole) → Comes b
  stays b i = inl (record { origin = b; found = i; place = refl; writes = refl; cell = inl refl })

  module _ (S : Scope) (seen : List Seen) (m : Limits) (iterations : AreIterationsOf p t S) where
    abbrev copied : ℕ → Cell
    copied k = copy p h body l S x in_order absent seen m k

    -- an access of an act where the cells have changed places
    swapped_comes : (k : ℕ) (a : Act) (b : Access) → IsIn a whole → IsIn b (accesses_of (exchanged_act (swapped (cell_of S x) (copied k)) a)) → Comes b
    swapped_comes k a b i j =
        let r = renamed_from (swapped (cell_of S x) (copied k)) (swap_exchanges (cell_of S x) (copied k) (of_scalar S x) refl) a b j in
        let found : IsIn r.0 (accesses whole) = accesses_in whole a r.0 i r.1 in
        let now : b.cell ≡ swapped (cell_of S x) (copied k) r.0.cell = ap (λ (c : Access). c.cell) r.2 in
        inl (record {
          origin = r.0;
          found = found;
          place = ap (λ (c : Access). c.place) (sym r.2);
          writes = ap (λ (c : Access). c.writes) (sym r.2);
          cell =
              decided (cell_of S x) (copied k) (cell_of S x) r.0.cell ((r.0.cell ≡ b.cell) ⊎ IsCopied p t l x r.0.cell b.cell)
              (λ e. inr (record { scope = S; iterations = iterations; number = k; own_is = sym e; copied_is = now ∙ swapped_first (cell_of S x) (copied k) r.0.cell e ∙ copy_is t l loop x p one in_order absent S seen m k }))
              (λ n. inl (sym (now ∙ swapped_other (cell_of S x) (copied k) r.0.cell n (λ e. no_access r.0 found (record { path = iterations_of (turns_of S); number = k; is = sym e ∙ copy_is t l loop x p one in_order absent S seen m k })))));
        })

  module _ (fresh : Scope → Store → List Act)
      (fresh_is : (S : Scope) (s : Store) (m : Limits) → limits (names_in p S) h s ≡ record { seen = (limits (names_in p S) h s).seen; result = Ok m } → fresh S s ≡ new_loop p h body l S x in_order absent (limits (names_in p S) h s).seen m s) where
    module _ (S : Scope) (u : Store) (place : IsPlaceOf p t l S) (goes : finish_of (run p (Do h body) l S u).ending ≡ goes_on) (sub : (a : Act) → IsIn a (run p (Do h body) l S u).acts → IsIn a whole) where
      placed_comes : (seen : List Seen) (m : Limits) → limits (names_in p S) h u ≡ record { seen = seen; result = Ok m } → (a : Act) (b : Access) → IsIn b (accesses_of a) → ComesFrom p h body l x in_order absent S seen m (run p (Do h body) l S u).acts a → Comes b
      placed_comes seen m comes a b j (inl e) = inr (record { scope = S; round = place; place = access_place a b j ∙ e })
      placed_comes seen m comes a b j (inr r) = swapped_comes S seen m place.iterations r.0 r.1 b (sub r.1 r.2) (subst (λ (c : Act). IsIn b (accesses_of c)) r.3 j)

      execution_comes : (a : Act) (b : Access) → IsIn a (fresh S u) → IsIn b (accesses_of a) → Comes b
      execution_comes a b i j =
          let seen = (limits (names_in p S) h u).seen in
          let r = is_entered t l loop x p one in_order absent S u goes in
          placed_comes seen r.0 r.1 a b j (loop_from p h body l x in_order absent S seen r.0 u r.1 goes a (subst (IsIn a) (fresh_is S u r.0 r.1) i))

    abbrev Exchanged : List Act → List Part → List Act → Store → Type 0
    Exchanged front parts behind u = AreExchanged p t start l (statements_count (alone (Do h body))) (run_all p (alone (Do h body)) l) fresh front parts behind u

    -- where the accesses of the new acts come from
    act_comes : (front : List Act) (parts : List Part) (behind : List Act) (u : Store) → ((a : Act) → IsIn a (old_parts parts) → IsIn a whole) → Exchanged front parts behind u → (a : Act) (b : Access) → IsIn a (new_parts parts) → IsIn b (accesses_of a) → Comes b
    act_comes front [] behind u sub exchanged a b i j = absurd i
    act_comes front (same acts ∷ parts) behind u sub exchanged a b i j = elim (in_parts a acts (new_parts parts) i) [
      | inl k ↦ stays b (accesses_in whole a b (sub a (in_left a acts (old_parts parts) k)) j)
      | inr k ↦ act_comes (front ++ acts) parts behind (store_after acts u) (λ c w. sub c (in_right c acts (old_parts parts) w)) exchanged a b k j
    ]
    act_comes front (changed old new ∷ parts) behind u sub exchanged a b i j = elim (in_parts a new (new_parts parts) i) [
      | inl k ↦ (
          let e = exchanged.0 in
          let one_run = run_alone p (Do h body) l e.scope u in
          execution_comes e.scope u e.executed.place (ap (λ (r : Run). finish_of r.ending) (sym one_run) ∙ e.goes)
          (λ c w. sub c (in_left c old (old_parts parts) (subst (IsIn c) (sym (e.old_is ∙ ap (λ (r : Run). r.acts) one_run)) w))) a b (subst (IsIn a) e.new_is k) j
          )
      | inr k ↦ act_comes (front ++ old) parts behind (store_after old u) (λ c w. sub c (in_right c old (old_parts parts) w)) exchanged.1 a b k j
    ]

    pub access_comes : (parts : List Part) → ((a : Act) → IsIn a (old_parts parts) → IsIn a whole) → Exchanged [] parts [] start → (b : Access) → IsIn b (accesses (new_parts parts)) → Comes b
    access_comes parts sub exchanged b i = let r = accesses_from (new_parts parts) b i in act_comes [] parts [] start sub exchanged r.0 b r.1 r.2
