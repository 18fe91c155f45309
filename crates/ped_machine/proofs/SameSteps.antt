-- Stores that agree on what is left to be named give the same next step.
use Rattle.std.proofs.Common.{◌≡◌, inl, inr, ℕ, zero, suc, ◌+◌, ◌/◌, List, [], ◌∷◌, ◌++◌, Option, Some, None, Result, Ok, Err, refl, sym, ap, ◌∙◌, append-nil, append_assoc, if◌then◌else◌}
use Rattle.std.specs.List.{join_with_byte}
use Rattle.std.specs.Fmt.{signed_decimal}
use Rattle.std.proofs.lemmas.List.{map-append}
use Rattle.ped_tree.specs.Numbering.{statements_count}
use Rattle.ped_tree.specs.Tree.{ExprTree, ItemTree, Value, Text, Head, StmtTree, Assign, If, Do, Print, Read, Stop, Comment}
use Rattle.ped_store.specs.Cells.{Cell, Element, Private, In, Out, Iteration, same_cell}
use Rattle.ped_store.specs.Stores.{Content, Number, Lines, Store, put, lines_in, storable}
use Rattle.ped_store.specs.DataLines.{Data, begun, next_value_of}
use Rattle.ped_store.specs.Acts.{Place, Turn, did, entered, closed}
use Rattle.ped_interleavings.specs.ped_eval.specs.Scopes.{Setting, Frame, Scope, Names, names_in, place_of, turns_of}
use Rattle.ped_interleavings.specs.ped_eval.specs.Evaluation.{Seen, Evaluated, ◌>>>◌, given, numbered, number_behind}
use Rattle.ped_interleavings.specs.ped_eval.specs.Statements.{Stored, assigned, assignment_touches, item_text, item_texts, printed_line, print_touches, read_touch, write_touch, Taking, with_taken, into_item, taking, taking_from, reading}
use Rattle.ped_interleavings.specs.ped_eval.specs.Loops.{limits, in_bounds, entered_with, entry_touches, exit_touches}
use Rattle.ped_interleavings.specs.ped_eval.specs.Runs.{on, on_value, does, nothing_done, run_taking}
use Rattle.ped_interleavings.specs.ped_eval.specs.Agreement.{path_of, IsSameOutside, IsSame}
use Rattle.ped_interleavings.specs.ped_eval.proofs.SameValues.{IsSameFor, same_value, same_truth, same_target}
use Rattle.ped_interleavings.specs.ped_eval.proofs.Evaluations.{reached_same}
use Rattle.ped_interleavings.specs.Lefts.{Left, finished, begins, ends_turn, open_loop, Lefts, no_lefts, more_lefts, left_of_all, entered_left, many, pick, with_left}
use Rattle.ped_interleavings.specs.Steps.{went, inside, act_of, seen_next, simple_step, opened_step, begun as begun_step, step, step_at}
use Rattle.ped_machine.specs.Bases.{IsLonger}
use Rattle.ped_machine.specs.Naming.{CanName, CanOneName}

-- a path is before those that it is before by way of another
front_twice : (a b c : List Iteration) → IsLonger a b → IsLonger b c → IsLonger a c
front_twice a b c g h = (g.0 ++ h.0, h.1 ∙ ap (λ (p : List Iteration). p ++ h.0) g.1 ∙ append_assoc a g.0 h.0)

around : (f : Frame) (fs : Scope) → IsLonger (path_of fs) (path_of (f ∷ fs))
around f fs = (record { statement = f.turn.statement; number = f.turn.number } ∷ [], map-append (λ (t : Turn). record { statement = t.statement; number = t.number }) (turns_of fs) (f.turn ∷ []))

module _ (u s : Store) (outside : IsSameOutside u s) where
  same_around : (whole scope : Scope) → IsLonger (path_of scope) (path_of whole) → ((x : List ℕ) (path : List Iteration) → IsLonger path (path_of whole) → u (Private x path) ≡ s (Private x path)) → IsSame scope u s
  same_around whole [] front copies = outside
  same_around whole (f ∷ fs) front copies = (
    λ x k. copies x (path_of (f ∷ fs)) front,
    same_around whole fs (front_twice (path_of fs) (path_of (f ∷ fs)) (path_of whole) (around f fs) front) copies,
  )

  -- where the iterations around a place hold the same, both stores are the same for its names
  same_for : (p : Setting) (scope : Scope) → ((x : List ℕ) (path : List Iteration) → IsLonger path (path_of scope) → u (Private x path) ≡ s (Private x path)) → IsSameFor (names_in p scope) u s
  same_for p scope copies = reached_same p scope u s (same_around scope scope ([], sym (append-nil (path_of scope))) copies)

same_behind : (g : Names) (c : Cell) (v : Content) (u s : Store) → IsSameFor g u s → IsSameFor g (put c v u) (put c v s)
same_behind g c v u s h = record {
  scalars = λ x. ap (λ (w : Content). if same_cell c (g.cell x) then v else w) (h.scalars x);
  elements = λ x js. ap (λ (w : Content). if same_cell c (Element x js) then v else w) (h.elements x js);
}

module _ (g : Names) where
  same_assigned : (u s : Store) → IsSameFor g u s → (left right : ExprTree) → assigned g left right u ≡ assigned g left right s
  same_assigned u s h left right = λ i. same_value g u s h right i >>> λ v. same_target g u s h left i >>> λ c. given (storable v) >>> λ n. given (Ok (record { cell = c; number = n }))

  same_item : (u s : Store) → IsSameFor g u s → (item : ItemTree) → item_text g item u ≡ item_text g item s
  same_item u s h (Value e) = λ i. same_value g u s h e i >>> λ n. given (Ok (signed_decimal n))
  same_item u s h (Text text) = refl

  same_items : (u s : Store) → IsSameFor g u s → (items : List ItemTree) → item_texts g items u ≡ item_texts g items s
  same_items u s h [] = refl
  same_items u s h (item ∷ rest) = λ i. same_item u s h item i >>> λ text. same_items u s h rest i >>> λ texts. given (Ok (text ∷ texts))

  same_line : (u s : Store) → IsSameFor g u s → (items : List ItemTree) → printed_line g items u ≡ printed_line g items s
  same_line u s h items = λ i. same_items u s h items i >>> λ texts. given (Ok (join_with_byte 32 texts))

  same_limits : (u s : Store) → IsSameFor g u s → (d : Head) → limits g d u ≡ limits g d s
  same_limits u s h d = λ i. same_value g u s h d.first i >>> λ v. given (in_bounds v) >>> λ m. same_value g u s h d.last i >>> λ w. given (in_bounds w) >>> λ n. given (Ok (record { first = m; last = n }))

  same_taking : (items : List ExprTree) (n : ℕ) (d : Data) (u s : Store) → IsSameFor g u s → taking g items n d u ≡ taking g items n d s
  same_taking [] n d u s h = refl
  same_taking (item ∷ rest) n d u s h = λ i.
      with_taken d (next_value_of d) λ v left.
      into_item n left v (same_target g u s h item i).seen (same_target g u s h item i).result λ m c.
      same_taking rest m left (put c (Number v) u) (put c (Number v) s) (same_behind g c (Number v) u s h) i

  same_from : (items : List ExprTree) (o : Result Data ℕ) (u s : Store) → IsSameFor g u s → taking_from g items o u ≡ taking_from g items o s
  same_from items (Ok d) u s h = same_taking items 2 d u s h
  same_from items (Err fault) u s h = refl

  same_reading : (items : List ExprTree) (u s : Store) → IsSameFor g u s → u In ≡ s In → reading g items u ≡ reading g items s
  same_reading items u s h e = same_from items (begun (lines_in (u In))) u s h ∙ ap (λ (w : Content). taking_from g items (begun (lines_in w)) s) e

module _ (at : Place) (rest : Left) (u s : Store) where
  assigns : (seen : List Seen) (r : Result Stored ℕ)
      → simple_step (on_value at seen r (λ z w. does did at (assignment_touches z w) nothing_done u)) rest ≡ simple_step (on_value at seen r (λ z w. does did at (assignment_touches z w) nothing_done s)) rest
  assigns seen (Ok w) = refl
  assigns seen (Err fault) = refl

  prints : u Out ≡ s Out → (seen : List Seen) (r : Result (List ℕ) ℕ)
      → simple_step (on_value at seen r (λ z line. does did at (print_touches z line u) nothing_done u)) rest ≡ simple_step (on_value at seen r (λ z line. does did at (print_touches z line s) nothing_done s)) rest
  prints e seen (Ok line) = λ i. went (act_of did at (numbered 1 seen ++ read_touch Out (e i) 0 ∷ write_touch Out (Lines (lines_in (e i) ++ line ∷ [])) (number_behind 1 seen) ∷ [])) rest
  prints e seen (Err fault) = refl

  takes : u In ≡ s In → (t : Taking) (f : Option ℕ) → simple_step (run_taking at t f u) rest ≡ simple_step (run_taking at t f s) rest
  takes e t None = λ i. went (act_of did at (read_touch In (e i) 0 ∷ write_touch In (Lines t.left.lines) 1 ∷ t.touches)) rest
  takes e t (Some fault) = refl

module _ (p : Setting) (n : ℕ) (scope : Scope) (rest : Left) (u s : Store) (outside : IsSameOutside u s) (h : IsSameFor (names_in p scope) u s) where
  same_begun : (t : StmtTree) → begun_step p t n scope rest u ≡ begun_step p t n scope rest s
  same_begun (Assign left right) =
      assigns (place_of p n scope) rest u s (assigned (names_in p scope) left right u).seen (assigned (names_in p scope) left right u).result
      ∙ ap (λ (e : Evaluated Stored). simple_step (on (place_of p n scope) e (λ z w. does did (place_of p n scope) (assignment_touches z w) nothing_done s)) rest) (same_assigned (names_in p scope) u s h left right)
  same_begun (If c x y) = λ i.
      seen_next (place_of p n scope) (same_truth (names_in p scope) u s h c i).seen (same_truth (names_in p scope) u s h c i).result λ seen holds.
      went (act_of did (place_of p n scope) (numbered 1 seen)) (if holds then left_of_all x (n + 1) scope rest else left_of_all y (n + 1 + statements_count x) scope rest)
  same_begun (Do d body) = λ i.
      seen_next (place_of p n scope) (same_limits (names_in p scope) u s h d i).seen (same_limits (names_in p scope) u s h d i).result λ seen l.
      let e = entered_with p n d body seen l in
      went (act_of (entered e.count) (place_of p n scope) (entry_touches seen e scope)) (entered_left d.parallel e.count e body n scope rest)
  same_begun (Print items) =
      prints (place_of p n scope) rest u s (outside Out refl) (printed_line (names_in p scope) items u).seen (printed_line (names_in p scope) items u).result
      ∙ ap (λ (e : Evaluated (List ℕ)). simple_step (on (place_of p n scope) e (λ z line. does did (place_of p n scope) (print_touches z line s) nothing_done s)) rest) (same_line (names_in p scope) u s h items)
  same_begun (Read items) =
      takes (place_of p n scope) rest u s (outside In refl) (reading (names_in p scope) items u) (reading (names_in p scope) items u).fault
      ∙ ap (λ (t : Taking). simple_step (run_taking (place_of p n scope) t t.fault s) rest) (same_reading (names_in p scope) items u s h (outside In refl))
  same_begun Stop = refl
  same_begun (Comment text) = refl

module _ (p : Setting) (u s : Store) (outside : IsSameOutside u s) where
  mutual
    pub same_next : (l : Left) (c : ℕ) → ((x : List ℕ) (path : List Iteration) → CanName l path → u (Private x path) ≡ s (Private x path)) → step p l c u ≡ step p l c s
    same_next finished c copies = refl
    same_next (begins t n scope rest) c copies = same_begun p n scope rest u s outside (same_for u s outside p scope (λ x path f. copies x path (inl f))) t
    same_next (ends_turn e body n scope k more rest) c copies = refl
    same_next (open_loop e n scope ls rest) c copies = λ i.
        opened_step (pick c ls)
        (λ j. inside (same_at ls j (c / many ls) (λ x path f. copies x path (inr (inl f))) i) (λ l. open_loop e n scope (with_left j l ls) rest))
        (went (act_of closed (place_of p n scope) (exit_touches e scope)) rest)

    same_at : (ls : Lefts) (j c : ℕ) → ((x : List ℕ) (path : List Iteration) → CanOneName ls path → u (Private x path) ≡ s (Private x path)) → step_at p ls j c u ≡ step_at p ls j c s
    same_at no_lefts j c copies = refl
    same_at (more_lefts l ls) zero c copies = same_next l c (λ x path f. copies x path (inl f))
    same_at (more_lefts l ls) (suc j) c copies = same_at ls j c (λ x path f. copies x path (inr f))
