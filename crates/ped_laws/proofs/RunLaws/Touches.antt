-- What the acts of a run touch.
use Rattle.std.proofs.Common.{◌≡◌, ℕ, zero, suc, ◌+◌, ◌<◌, ℤ, List, [], ◌∷◌, ◌++◌, Bool, true, false, eqb, Option, Some, None, Result, Ok, Err, refl, sym, ap, subst, ◌∙◌, ◌⊎◌, inl, inr, arith, if◌then◌else◌, ◌||◌}
use Rattle.std.proofs.lemmas.Bool.{both_ways, or_right}
use Rattle.std.proofs.lemmas.List.Folds.{list_any-append}
use Rattle.ped_flow.specs.ped_base.specs.Lists.{is_same_text, is_among}
use Rattle.ped_flow.specs.ped_tree.specs.Tree.{ExprTree, CondTree, ItemTree, Head, StmtTree, StmtTrees, Assign, If, Do, Print, Read, Stop, Comment, no_stmts, more_stmts}
use Rattle.ped_flow.specs.ped_tree.specs.Numbering.{statement_count, statements_count}
use Rattle.ped_eval.specs.ped_store.specs.Cells.{Cell, Element, In, Out, same_cell}
use Rattle.ped_eval.specs.ped_store.specs.Stores.{Content, Undefined, Number, Lines, Store, put, lines_in}
use Rattle.ped_eval.specs.ped_store.specs.Acts.{Manner, reads, writes, is_told, Touch, Turn, Place, Step, Act, did, entered, ended_turn, closed, faulted, store_behind}
use Rattle.ped_eval.specs.ped_store.specs.DataLines.{Data, begun, Taken, next_value_of}
use Rattle.ped_eval.specs.ped_store.specs.Races.{is_lines, is_write}
use Rattle.ped_laws.specs.Acts.Orders.{IsIn}
use Rattle.ped_laws.proofs.ActLaws.SameCells.{text_itself}
use Rattle.ped_laws.proofs.ActLaws.Lists.{in_parts, in_right}
use Rattle.ped_eval.specs.Scopes.{Setting, Frame, Scope, Names, turns_of, cell_of, names_in, place_of}
use Rattle.ped_eval.specs.Evaluation.{Seen, cell_seen, index_seen, numbered, number_behind}
use Rattle.ped_eval.specs.Values.{truth, target}
use Rattle.ped_eval.specs.Statements.{Stored, assigned, printed_line, into_item, with_taken, taking, taking_from, reading, reading_touches, read_touch, write_touch}
use Rattle.ped_eval.specs.Loops.{Limits, limits, Entered, entered_with, frame, inner_variables, undefined_by, undefined_all, exit_touches, exit_when_none}
use Rattle.ped_flow.specs.ped_tree.specs.NamesIn.{loop_variables, all_loop_variables}
use Rattle.ped_eval.specs.Runs.{Ending, going, stopped, failed, Run, nothing_done, followed_by, then_run, does, on_value, run_assignment, run_print, run_taking, run_if, run_do, turns, parallel_turns, run_entered, run, run_all}
use Rattle.ped_laws.specs.Runs.Replaying.{act}
use Rattle.ped_laws.proofs.RunLaws.StatementsTold.{no_lines}
use Rattle.ped_laws.proofs.RunLaws.SeenCells.{AllSeen, OfResult, truth_seen, target_seen, target_is, line_seen, limits_seen, assigned_seen, assigned_is}
use Rattle.ped_laws.proofs.RunLaws.Turning.{At, cell_at, inner_among}

-- each item is of this kind
abbrev pub Each : {X : Type 0} → (X → Type 0) → List X → Type 0
Each P xs = (x : _) → IsIn x xs → P x

pub each_none : {X : Type 0} (P : X → Type 0) → Each P []
each_none P x i = absurd i

pub each_more : {X : Type 0} (P : X → Type 0) (y : X) (xs : List X) → P y → Each P xs → Each P (y ∷ xs)
each_more P y xs h k x (inl e) = subst P (sym e) h
each_more P y xs h k x (inr i) = k x i

pub each_append : {X : Type 0} (P : X → Type 0) (xs ys : List X) → Each P xs → Each P ys → Each P (xs ++ ys)
each_append P xs ys h k x i = elim (in_parts x xs ys i) [ inl j ↦ h x j | inr j ↦ k x j ]

-- acts of runs one after the other
module _ (P : Act → Type 0) where
  followed_each : (acts : List Act) (e : Ending) (g : Store → Run) → Each P acts → ((u : Store) → Each P (g u).acts) → Each P (followed_by acts e g).acts
  followed_each acts (going u) g h k = each_append P acts (g u).acts h (k u)
  followed_each acts (stopped u) g h k = h
  followed_each acts (failed fault statement) g h k = h

  pub then_each : (r : Run) (g : Store → Run) → Each P r.acts → ((u : Store) → Each P (g u).acts) → Each P (then_run r g).acts
  then_each r g h k = followed_each r.acts r.ending g h k

  pub does_each : (step : Step) (at : Place) (touches : List Touch) (next : Store → Run) (s : Store) → P (act step at touches) → ((u : Store) → Each P (next u).acts) → Each P (does step at touches next s).acts
  does_each step at touches next s h k = each_more P (act step at touches) (next (store_behind touches s)).acts h (k (store_behind touches s))

  pub on_each : {A : Type 0} (Q : A → Type 0) (at : Place) (seen : List Seen) (r : Result A ℕ) (k : List Seen → A → Run) → OfResult Q r → P (act faulted at (numbered 1 seen)) → ((x : A) → Q x → Each P (k seen x).acts) → Each P (on_value at seen r k).acts
  on_each Q at seen (Ok x) k q h more = more x q
  on_each Q at seen (Err n) k q h more = each_more P (act faulted at (numbered 1 seen)) [] h (each_none P)

pub any_result : {A : Type 0} (r : Result A ℕ) → OfResult (λ (x : A). Unit {0}) r
any_result (Ok x) = tt
any_result (Err n) = tt

-- a cell that holds no lines and that these iterations reach
abbrev pub Plain : List Turn → Cell → Type 0
Plain ts c = (is_lines c ≡ false) × At ts c

-- an act that touches lines writes them by a reference
abbrev pub LinesWritten : List Touch → Type 0
LinesWritten ts = (t : Touch) → IsIn t ts → is_lines t.cell ≡ true → (u : Touch) × IsIn u ts × (is_write u.manner ≡ true) × (same_cell u.cell t.cell ≡ true) × (0 < u.reference)

-- what a touch in these iterations is, where Own tells of the cells that a DO's own stores write
abbrev pub Fine : (List Turn → Cell → Type 0) → List Turn → Manner → Cell → ℕ → Type 0
Fine Own ts reads c r = ((is_lines c ≡ true) ⊎ (0 < r)) × At ts c
Fine Own ts writes c r = ((0 < r) ⊎ Own ts c) × At ts c
Fine Own ts is_told c r = (r ≡ 0) × At ts c

abbrev pub AllFine : (List Turn → Cell → Type 0) → List Turn → List Touch → Type 0
AllFine Own ts touches = Each (λ (t : Touch). Fine Own ts t.manner t.cell t.reference) touches

abbrev pub Good : (List Turn → Cell → Type 0) → Act → Type 0
Good Own a = AllFine Own a.place.turns a.touches × LinesWritten a.touches

lines_between : (before after : List Touch) (x y : Touch) → Each (λ (t : Touch). is_lines t.cell ≡ false) before → Each (λ (t : Touch). is_lines t.cell ≡ false) after
    → is_write y.manner ≡ true → 0 < y.reference → same_cell y.cell x.cell ≡ true → same_cell y.cell y.cell ≡ true → LinesWritten (before ++ x ∷ (y ∷ after))
lines_between before after x y h k w r e f t i lines = elim (in_parts t before (x ∷ (y ∷ after)) i) [
  | inl j ↦ absurd (both_ways (is_lines t.cell) (h t j) lines)
  | inr j ↦ elim j [
    | inl q ↦ (y, in_right y before (x ∷ (y ∷ after)) (inr (inl refl)), w, ap (λ (z : Touch). same_cell y.cell z.cell) q ∙ e, r)
    | inr m ↦ elim m [
      | inl q ↦ (y, in_right y before (x ∷ (y ∷ after)) (inr (inl refl)), w, ap (λ (z : Touch). same_cell y.cell z.cell) q ∙ f, r)
      | inr l ↦ absurd (both_ways (is_lines t.cell) (k t l) lines)
    ]
  ]
]

behind_one : (n : ℕ) (seen : List Seen) → 0 < n → 0 < number_behind n seen
behind_one n [] h = h
behind_one n (cell_seen c content ∷ more) h = behind_one (suc n) more (omega arith)
behind_one n (index_seen c v ∷ more) h = behind_one n more h

module _ (Own : List Turn → Cell → Type 0) (May : Scope → List ℕ → Type 0)
    (owned : (scope : Scope) (x : List ℕ) → May scope x → Own (turns_of scope) (cell_of scope x))
    (inside : (scope : Scope) (e : Entered) (k : ℕ) (body : StmtTrees) → e.inner ≡ inner_variables e.head.parallel body → ((x : List ℕ) → is_among x (all_loop_variables body) ≡ true → May scope x) → (x : List ℕ) → is_among x (all_loop_variables body) ≡ true → May (frame e k ∷ scope) x) where
  -- a touch as it should be, of a cell without lines
  abbrev Sound : List Turn → Touch → Type 0
  Sound ts t = Fine Own ts t.manner t.cell t.reference × (is_lines t.cell ≡ false)

  sound_good : (step : Step) (at : Place) (touches : List Touch) → Each (Sound at.turns) touches → Good Own (act step at touches)
  sound_good step at touches h = ((λ t i. (h t i).0), (λ t i lines. absurd (both_ways (is_lines t.cell) (h t i).1 lines)))

  numbered_sound : (ts : List Turn) (n : ℕ) (seen : List Seen) → 0 < n → AllSeen (Plain ts) seen → Each (Sound ts) (numbered n seen)
  numbered_sound ts n [] h a = each_none (Sound ts)
  numbered_sound ts n (cell_seen c content ∷ more) h a = each_more (Sound ts) (read_touch c content n) (numbered (suc n) more) ((inr h, a.0.1), a.0.0) (numbered_sound ts (suc n) more (omega arith) a.1)
  numbered_sound ts n (index_seen c v ∷ more) h a = each_more (Sound ts) (record { cell = c; manner = is_told; content = Number v; reference = 0 }) (numbered n more) ((refl, a.0.1), a.0.0) (numbered_sound ts n more h a.1)

  write_sound : (ts : List Turn) (c : Cell) (v : Content) (n : ℕ) → 0 < n → Plain ts c → Each (Sound ts) (write_touch c v n ∷ [])
  write_sound ts c v n h a = each_more (Sound ts) (write_touch c v n) [] ((inl h, a.1), a.0) (each_none (Sound ts))

  module _ (p : Setting) (scope : Scope) where
    plain : (x : List ℕ) → Plain (turns_of scope) (cell_of scope x)
    plain x = (no_lines scope x, cell_at scope x)

    element_plain : (x : List ℕ) (js : List ℤ) → Plain (turns_of scope) (Element x js)
    element_plain x js = (refl, tt)

    -- exits
    private_sound : (n : ℕ) (xs : List (List ℕ)) → 0 < n → Each (Sound (turns_of scope)) (undefined_by scope n xs)
    private_sound n [] h = each_none (Sound (turns_of scope))
    private_sound n (x ∷ xs) h =
        each_more (Sound (turns_of scope)) (write_touch (cell_of scope x) Undefined n) (undefined_by scope (suc n) xs) ((inl h, cell_at scope x), no_lines scope x) (private_sound (suc n) xs (omega arith))

    inner_sound : (xs : List (List ℕ)) → ((x : List ℕ) → is_among x xs ≡ true → May scope x) → Each (Sound (turns_of scope)) (undefined_all scope xs)
    inner_sound [] h = each_none (Sound (turns_of scope))
    inner_sound (x ∷ xs) h =
        each_more (Sound (turns_of scope)) (write_touch (cell_of scope x) Undefined 0) (undefined_all scope xs)
        ((inr (owned scope x (h x (ap (λ b. b || is_among x xs) (text_itself x)))), cell_at scope x), no_lines scope x)
        (inner_sound xs (λ y i. h y (or_right (is_same_text y x) (is_among y xs) i)))

    exit_sound : (e : Entered) → 0 < e.behind_bounds → May scope e.head.variable → ((x : List ℕ) → is_among x e.inner ≡ true → May scope x) → Each (Sound (turns_of scope)) (exit_touches e scope)
    exit_sound e h m i =
        each_more (Sound (turns_of scope)) _ (undefined_by scope e.behind_bounds e.head.private ++ undefined_all scope e.inner)
        ((inr (owned scope e.head.variable m), cell_at scope e.head.variable), no_lines scope e.head.variable)
        (each_append (Sound (turns_of scope)) (undefined_by scope e.behind_bounds e.head.private) (undefined_all scope e.inner) (private_sound e.behind_bounds e.head.private h) (inner_sound e.inner i))

    exit_when_sound : (n : ℕ) (e : Entered) → 0 < e.behind_bounds → May scope e.head.variable → ((x : List ℕ) → is_among x e.inner ≡ true → May scope x) → Each (Sound (turns_of scope)) (exit_when_none n e scope)
    exit_when_sound n e h m i = go (eqb n 0)
      where
        go : (b : Bool) → Each (Sound (turns_of scope)) (if b then exit_touches e scope else [])
        go true = exit_sound e h m i
        go false = each_none (Sound (turns_of scope))

    -- the turns of a DO
    module _ (n : ℕ) (e : Entered) (body : Frame → Store → Run) (behind : 0 < e.behind_bounds) (variable : May scope e.head.variable) (inner : (x : List ℕ) → is_among x e.inner ≡ true → May scope x)
        (bodies : (k : ℕ) (s : Store) → Each (Good Own) (body (frame e k) s).acts) where
      turns_good : (left k : ℕ) (s : Store) → Each (Good Own) (turns left k e scope (place_of p n scope) body s).acts
      turns_good zero k s = each_none (Good Own)
      turns_good (suc left) k s =
          then_each (Good Own) (body (frame e k) s) (does (ended_turn left) (place_of p n scope) (exit_when_none left e scope) (turns left (k + 1) e scope (place_of p n scope) body)) (bodies k s)
          (λ u. does_each (Good Own) (ended_turn left) (place_of p n scope) (exit_when_none left e scope) (turns left (k + 1) e scope (place_of p n scope) body) u
          (sound_good (ended_turn left) (place_of p n scope) (exit_when_none left e scope) (exit_when_sound left e behind variable inner))
          (turns_good left (k + 1)))

      parallel_good : (left k : ℕ) (s : Store) → Each (Good Own) (parallel_turns left k e body s).acts
      parallel_good zero k s = each_none (Good Own)
      parallel_good (suc left) k s = then_each (Good Own) (body (frame e k) s) (parallel_turns left (k + 1) e body) (bodies k s) (parallel_good left (k + 1))

      entered_good : (b : Bool) (count : ℕ) (s : Store) → Each (Good Own) (run_entered b count e scope (place_of p n scope) body s).acts
      entered_good b zero s = each_none (Good Own)
      entered_good false (suc count) s = turns_good (suc count) 1 s
      entered_good true (suc count) s =
          then_each (Good Own) (parallel_turns (suc count) 1 e body s) (does closed (place_of p n scope) (exit_touches e scope) nothing_done) (parallel_good (suc count) 1 s)
          (λ u. does_each (Good Own) closed (place_of p n scope) (exit_touches e scope) nothing_done u (sound_good closed (place_of p n scope) (exit_touches e scope) (exit_sound e behind variable inner)) (λ v. each_none (Good Own)))

    -- the items of a READ
    module _ (g : Names) (scalars : (x : List ℕ) → Plain (turns_of scope) (g.cell x)) where
      item_sound : (rest : List ExprTree) → ((n : ℕ) (d : Data) (s : Store) → 0 < n → Each (Sound (turns_of scope)) (taking g rest n d s).touches)
          → (n : ℕ) (left : Data) (v : ℤ) (s : Store) → 0 < n → (seen : List Seen) (r : Result Cell ℕ) → AllSeen (Plain (turns_of scope)) seen → OfResult (Plain (turns_of scope)) r
          → Each (Sound (turns_of scope)) (into_item n left v seen r (λ m c. taking g rest m left (put c (Number v) s))).touches
      item_sound rest more n left v s h seen (Err fault) a o = numbered_sound (turns_of scope) n seen h a
      item_sound rest more n left v s h seen (Ok c) a o =
          let w = write_touch c (Number v) (number_behind n seen) in
          let b = behind_one n seen h in
          each_append (Sound (turns_of scope)) (numbered n seen ++ w ∷ []) (taking g rest (suc (number_behind n seen)) left (put c (Number v) s)).touches
          (each_append (Sound (turns_of scope)) (numbered n seen) (w ∷ []) (numbered_sound (turns_of scope) n seen h a) (write_sound (turns_of scope) c (Number v) (number_behind n seen) b o))
          (more (suc (number_behind n seen)) left (put c (Number v) s) (omega arith))

      taken_sound : (rest : List ExprTree) → ((n : ℕ) (d : Data) (s : Store) → 0 < n → Each (Sound (turns_of scope)) (taking g rest n d s).touches)
          → (item : ExprTree) (n : ℕ) (d : Data) (s : Store) → 0 < n → (t : Result Taken ℕ)
          → Each (Sound (turns_of scope)) (with_taken d t (λ v left. into_item n left v (target g item s).seen (target g item s).result λ m c. taking g rest m left (put c (Number v) s))).touches
      taken_sound rest more item n d s h (Err fault) = each_none (Sound (turns_of scope))
      taken_sound rest more item n d s h (Ok t) =
          item_sound rest more n t.behind t.value s h (target g item s).seen (target g item s).result (target_seen (Plain (turns_of scope)) g scalars element_plain item s) (target_is (Plain (turns_of scope)) g scalars element_plain item s)

      taking_sound : (items : List ExprTree) (n : ℕ) (d : Data) (s : Store) → 0 < n → Each (Sound (turns_of scope)) (taking g items n d s).touches
      taking_sound [] n d s h = each_none (Sound (turns_of scope))
      taking_sound (item ∷ rest) n d s h = taken_sound rest (taking_sound rest) item n d s h (next_value_of d)

      from_sound : (items : List ExprTree) (b : Result Data ℕ) (s : Store) → Each (Sound (turns_of scope)) (taking_from g items b s).touches
      from_sound items (Ok d) s = taking_sound items 2 d s (omega arith)
      from_sound items (Err fault) s = each_none (Sound (turns_of scope))

    module _ (n : ℕ) (s : Store) where
      read_good : (items : List ExprTree) (step : Step) → Good Own (act step (place_of p n scope) (reading_touches (reading (names_in p scope) items s) s))
      read_good items step =
          let t = reading (names_in p scope) items s in
          let sound = from_sound (names_in p scope) plain items (begun (lines_in (s In))) s in (
            each_more _ (read_touch In (s In) 0) (write_touch In (Lines t.left.lines) 1 ∷ t.touches) (inl refl, tt) (each_more _ (write_touch In (Lines t.left.lines) 1) t.touches (inl (omega arith), tt) (λ x i. (sound x i).0)),
            lines_between [] t.touches (read_touch In (s In) 0) (write_touch In (Lines t.left.lines) 1) (each_none _) (λ x i. (sound x i).1) refl (omega arith) refl refl,
          )

      taking_good : (items : List ExprTree) (fault : Option ℕ) → Each (Good Own) (run_taking (place_of p n scope) (reading (names_in p scope) items s) fault s).acts
      taking_good items None = each_more (Good Own) _ [] (read_good items did) (each_none (Good Own))
      taking_good items (Some k) = each_more (Good Own) _ [] (read_good items faulted) (each_none (Good Own))

      fault_good : (seen : List Seen) → AllSeen (Plain (turns_of scope)) seen → Good Own (act faulted (place_of p n scope) (numbered 1 seen))
      fault_good seen a = sound_good faulted (place_of p n scope) (numbered 1 seen) (numbered_sound (turns_of scope) 1 seen (omega arith) a)

      assignment_good : (left right : ExprTree) → Each (Good Own) (run_assignment (names_in p scope) (place_of p n scope) left right s).acts
      assignment_good left right =
          let e = assigned (names_in p scope) left right s in
          let a = assigned_seen (Plain (turns_of scope)) (names_in p scope) plain element_plain left right s in
          on_each (Good Own) (λ (w : Stored). Plain (turns_of scope) w.cell) (place_of p n scope) e.seen e.result _ (assigned_is (Plain (turns_of scope)) (names_in p scope) plain element_plain left right s) (fault_good e.seen a)
          (λ w o. each_more (Good Own) _ []
          (sound_good did (place_of p n scope) _ (each_append (Sound (turns_of scope)) (numbered 1 e.seen) _ (numbered_sound (turns_of scope) 1 e.seen (omega arith) a)
          (write_sound (turns_of scope) w.cell (Number w.number) (number_behind 1 e.seen) (behind_one 1 e.seen (omega arith)) o)))
          (each_none (Good Own)))

      print_good : (items : List ItemTree) → Each (Good Own) (run_print (names_in p scope) (place_of p n scope) items s).acts
      print_good items =
          let e = printed_line (names_in p scope) items s in
          let a = line_seen (Plain (turns_of scope)) (names_in p scope) plain element_plain items s in
          let sound = numbered_sound (turns_of scope) 1 e.seen (omega arith) a in
          on_each (Good Own) (λ (line : List ℕ). Unit {0}) (place_of p n scope) e.seen e.result _ (any_result e.result) (fault_good e.seen a)
          (λ line o. each_more (Good Own) _ [] (
            (each_append _ (numbered 1 e.seen) (read_touch Out (s Out) 0 ∷ (write_touch Out (Lines (lines_in (s Out) ++ line ∷ [])) (number_behind 1 e.seen) ∷ [])) (λ x i. (sound x i).0)
                (each_more _ (read_touch Out (s Out) 0) (write_touch Out (Lines (lines_in (s Out) ++ line ∷ [])) (number_behind 1 e.seen) ∷ []) (inl refl, tt) (each_more _ (write_touch Out (Lines (lines_in (s Out) ++ line ∷ [])) (number_behind 1 e.seen)) [] (inl (behind_one 1 e.seen (omega arith)), tt) (each_none _)))),
            lines_between (numbered 1 e.seen) [] (read_touch Out (s Out) 0) (write_touch Out (Lines (lines_in (s Out) ++ line ∷ [])) (number_behind 1 e.seen)) (λ x i. (sound x i).1) (each_none _) refl (behind_one 1 e.seen (omega arith)) refl refl,
          )
          (each_none (Good Own)))

      if_good : (c : CondTree) (f g : Store → Run) → ((u : Store) → Each (Good Own) (f u).acts) → ((u : Store) → Each (Good Own) (g u).acts) → Each (Good Own) (run_if (names_in p scope) (place_of p n scope) c f g s).acts
      if_good c f g h k =
          let e = truth (names_in p scope) c s in
          let a = truth_seen (Plain (turns_of scope)) (names_in p scope) plain element_plain c s in
          on_each (Good Own) (λ (holds : Bool). Unit {0}) (place_of p n scope) e.seen e.result _ (any_result e.result) (fault_good e.seen a)
          (λ holds o. does_each (Good Own) did (place_of p n scope) (numbered 1 e.seen) (if holds then f else g) s
          (sound_good did (place_of p n scope) (numbered 1 e.seen) (numbered_sound (turns_of scope) 1 e.seen (omega arith) a))
          (part holds))
        where
          part : (b : Bool) (u : Store) → Each (Good Own) ((if b then f else g) u).acts
          part true u = h u
          part false u = k u

      do_good : (h : Head) (statements : StmtTrees) (body : Frame → Store → Run) → May scope h.variable → ((x : List ℕ) → is_among x (all_loop_variables statements) ≡ true → May scope x)
          → ((e : Entered) (k : ℕ) (u : Store) → e.inner ≡ inner_variables e.head.parallel statements → Each (Good Own) (body (frame e k) u).acts)
          → Each (Good Own) (run_do p n scope h statements body s).acts
      do_good h statements body m names bodies =
          let l = limits (names_in p scope) h s in
          let a = limits_seen (Plain (turns_of scope)) (names_in p scope) plain element_plain h s in
          let inner : (x : List ℕ) → is_among x (inner_variables h.parallel statements) ≡ true → May scope x = λ x i. names x (inner_among h.parallel statements x i) in
          let b = behind_one 1 l.seen (omega arith) in
          on_each (Good Own) (λ (limits : Limits). Unit {0}) (place_of p n scope) l.seen l.result _ (any_result l.result) (fault_good l.seen a)
          (λ limits o.
          let e = entered_with p n h statements l.seen limits in
          does_each (Good Own) (entered e.count) (place_of p n scope) (numbered 1 l.seen ++ exit_when_none e.count e scope) (run_entered h.parallel e.count e scope (place_of p n scope) body) s
          (sound_good (entered e.count) (place_of p n scope) (numbered 1 l.seen ++ exit_when_none e.count e scope)
          (each_append (Sound (turns_of scope)) (numbered 1 l.seen) (exit_when_none e.count e scope) (numbered_sound (turns_of scope) 1 l.seen (omega arith) a) (exit_when_sound e.count e b m inner)))
          (entered_good n e body b m inner (λ k u. bodies e k u refl) h.parallel e.count))

  or_first : (a b : Bool) → a ≡ true → a || b ≡ true
  or_first true b h = refl
  or_first false b h = absurd cc

  or_second : (a b : Bool) → b ≡ true → a || b ≡ true
  or_second true b h = refl
  or_second false b h = h

  first_names : (x : List ℕ) (xs ys : List (List ℕ)) → is_among x xs ≡ true → is_among x (xs ++ ys) ≡ true
  first_names x xs ys i = list_any-append (is_same_text x) xs ys ∙ or_first (is_among x xs) (is_among x ys) i

  second_names : (x : List ℕ) (xs ys : List (List ℕ)) → is_among x ys ≡ true → is_among x (xs ++ ys) ≡ true
  second_names x xs ys i = list_any-append (is_same_text x) xs ys ∙ or_second (is_among x xs) (is_among x ys) i

  mutual
    pub run_good : (p : Setting) (t : StmtTree) (n : ℕ) (scope : Scope) (s : Store) → ((x : List ℕ) → is_among x (loop_variables t) ≡ true → May scope x) → Each (Good Own) (run p t n scope s).acts
    run_good p (Assign left right) n scope s may = assignment_good p scope n s left right
    run_good p (If c a b) n scope s may =
        if_good p scope n s c (run_all p a (n + 1) scope) (run_all p b (n + 1 + statements_count a) scope)
        (λ u. all_good p a (n + 1) scope u (λ x i. may x (first_names x (all_loop_variables a) (all_loop_variables b) i)))
        (λ u. all_good p b (n + 1 + statements_count a) scope u (λ x i. may x (second_names x (all_loop_variables a) (all_loop_variables b) i)))
    run_good p (Do h body) n scope s may =
        let names : (x : List ℕ) → is_among x (all_loop_variables body) ≡ true → May scope x = λ x i. may x (or_second (is_same_text x h.variable) (is_among x (all_loop_variables body)) i) in
        do_good p scope n s h body (λ f. run_all p body (n + 1) (f ∷ scope)) (may h.variable (ap (λ b. b || is_among h.variable (all_loop_variables body)) (text_itself h.variable))) names
        (λ e k u q. all_good p body (n + 1) (frame e k ∷ scope) u (inside scope e k body q names))
    run_good p (Print items) n scope s may = print_good p scope n s items
    run_good p (Read items) n scope s may = taking_good p scope n s items (reading (names_in p scope) items s).fault
    run_good p Stop n scope s may = each_more (Good Own) _ [] (sound_good did (place_of p n scope) [] (each_none _)) (each_none (Good Own))
    run_good p (Comment text) n scope s may = each_none (Good Own)

    pub all_good : (p : Setting) (ts : StmtTrees) (n : ℕ) (scope : Scope) (s : Store) → ((x : List ℕ) → is_among x (all_loop_variables ts) ≡ true → May scope x) → Each (Good Own) (run_all p ts n scope s).acts
    all_good p no_stmts n scope s may = each_none (Good Own)
    all_good p (more_stmts t rest) n scope s may =
        then_each (Good Own) (run p t n scope s) (run_all p rest (n + statement_count t) scope)
        (run_good p t n scope s (λ x i. may x (first_names x (loop_variables t) (all_loop_variables rest) i)))
        (λ u. all_good p rest (n + statement_count t) scope u (λ x i. may x (second_names x (loop_variables t) (all_loop_variables rest) i)))
