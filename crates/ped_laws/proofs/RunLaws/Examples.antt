-- DO 10 I=1,2; 10 A(I)=K is reversed, whatever K holds: what the loops do is put together from their parts, and the laws of lists lead from the one list to the other.
use Rattle.std.proofs.Common.{◌≡◌, ℕ, ℤ, pos, List, [], ◌∷◌, Bool, true, false, Ok, Err, refl, ap, ◌∙◌, inl, inr, if◌then◌else◌}
use Rattle.std.specs.Prelude.{codes}
use Rattle.ped_flow.specs.ped_tree.specs.Tree.{ExprTree, Int, Var, Element, Neg, no_exprs, more_exprs, Head, StmtTree, StmtTrees, Assign, Do, no_stmts, more_stmts}
use Rattle.ped_eval.specs.ped_store.specs.Cells as cells
use Rattle.ped_eval.specs.ped_store.specs.Cells.{Cell, Scalar, same_cell}
use Rattle.ped_eval.specs.ped_store.specs.Stores.{Content, Number, Store, is_storable, number_read, storable, out_of_range}
use Rattle.ped_eval.specs.ped_store.specs.Acts.{Act, did, entered, ended_turn}
use Rattle.ped_laws.specs.Acts.Fitting.{Fits, store_after}
use Rattle.ped_laws.specs.Acts.Sets.{AgreeOutside, written}
use Rattle.ped_laws.specs.Acts.Conflicts.{LeaveUnread, ReadNone, blocks_conflict_outside}
use Rattle.ped_laws.specs.Acts.Orders.{AreApart, acts_in_all}
use Rattle.ped_laws.specs.Acts.Changes.{Change, stays, goes, comes, acts_before, AreSameOutside, PlainChange}
use Rattle.ped_laws.proofs.ActLaws.Changing.{changed_fits, changed_leaves, plain_changes}
use Rattle.ped_laws.proofs.ActLaws.Reorderings.{reversed_fits, reversed_leaves}
use Rattle.ped_eval.specs.Scopes.{Setting, names_in, place_of}
use Rattle.ped_eval.specs.Evaluation.{Seen, cell_seen, index_seen, Evaluated, having_seen, ◌>>>◌, given}
use Rattle.ped_eval.specs.Statements.{Stored, assigned, assignment_touches}
use Rattle.ped_eval.specs.Loops.{Entered, entered_with, frame, entry_touches, exit_when_none}
use Rattle.ped_eval.specs.Runs.{Run, going, turns, run}
use Rattle.ped_eval.specs.Turns.{body_run}
use Rattle.ped_laws.specs.Runs.Seeing.{ComesTo}
use Rattle.ped_laws.specs.Runs.Replaying.{goes_on, act, Replays, IsEntered}
use Rattle.ped_laws.proofs.RunLaws.Joined.{replays_nothing, statements_more, turns_more, loop_in_order, assignment_does}

abbrev setting : Setting
setting = record { bounds = λ x. record { lower = pos 1 ∷ []; upper = pos 2 ∷ [] }; constants = []; number = λ n. n }

abbrev i : Cell
i = Scalar (codes "I")

abbrev k : Cell
k = Scalar (codes "K")

abbrev a : ℤ → Cell
a j = cells.Element (codes "A") (j ∷ [])

abbrev left : ExprTree
left = Element (codes "A") (more_exprs (Var (codes "I")) no_exprs)

abbrev sets : StmtTree
sets = Assign left (Var (codes "K"))

abbrev body : StmtTrees
body = more_stmts sets no_stmts

abbrev head : ExprTree → ExprTree → ExprTree → Head
head first last step = record { variable = codes "I"; first = first; last = last; step = step; parallel = false; private = []; rejected = [] }

abbrev upward : Head
upward = head (Int 1) (Int 2) (Int 1)

abbrev downward : Head
downward = head (Int 2) (Int 1) (Neg (Int 1))

-- both loops are entered without a read
abbrev up : Entered
up = entered_with setting 1 upward body [] (record { first = pos 1; last = pos 2 })

abbrev down : Entered
down = entered_with setting 1 downward body [] (record { first = pos 2; last = pos 1 })

up_entered : IsEntered setting 1 [] upward body [] up
up_entered = (record { first = pos 1; last = pos 2 }, (λ s h. refl), refl)

down_entered : IsEntered setting 1 [] downward body [] down
down_entered = (record { first = pos 2; last = pos 1 }, (λ s h. refl), refl)

-- K holds a number that an element can hold
module _ (v : ℤ) (small : is_storable v ≡ true) where
  abbrev seen : ℤ → List Seen
  seen j = cell_seen k (Number v) ∷ index_seen i j ∷ []

  abbrev stored : ℤ → Stored
  stored j = record { cell = a j; number = v }

  -- A(I)=K in an iteration in which I has this value
  -- what comes of an assignment once K has been read
  abbrev behind_k : ℤ → Content → Evaluated Stored
  behind_k j c = record { seen = cell_seen k c ∷ []; result = number_read c } >>> λ u. (record { seen = index_seen i j ∷ []; result = Ok (a j) } >>> λ d. given (storable u) >>> λ n. given (Ok (record { cell = d; number = n })))

  k_read : (j : ℤ) → behind_k j (Number v) ≡ record { seen = seen j; result = Ok (stored j) }
  k_read j = ap (λ b. having_seen (cell_seen k (Number v) ∷ []) (having_seen (index_seen i j ∷ []) (given (if b then Ok v else Err out_of_range) >>> λ n. given (Ok (record { cell = a j; number = n }))))) small

  up_sets_1 : ComesTo (assigned (names_in setting (frame up 1 ∷ [])) left (Var (codes "K"))) (seen (pos 1)) (Ok (stored (pos 1)))
  up_sets_1 s h = ap (behind_k (pos 1)) h.0 ∙ k_read (pos 1)

  up_sets_2 : ComesTo (assigned (names_in setting (frame up 2 ∷ [])) left (Var (codes "K"))) (seen (pos 2)) (Ok (stored (pos 2)))
  up_sets_2 s h = ap (behind_k (pos 2)) h.0 ∙ k_read (pos 2)

  down_sets_1 : ComesTo (assigned (names_in setting (frame down 1 ∷ [])) left (Var (codes "K"))) (seen (pos 2)) (Ok (stored (pos 2)))
  down_sets_1 s h = ap (behind_k (pos 2)) h.0 ∙ k_read (pos 2)

  down_sets_2 : ComesTo (assigned (names_in setting (frame down 2 ∷ [])) left (Var (codes "K"))) (seen (pos 1)) (Ok (stored (pos 1)))
  down_sets_2 s h = ap (behind_k (pos 1)) h.0 ∙ k_read (pos 1)

  -- the acts of an iteration, and those of the loops
  abbrev iteration : Entered → ℕ → ℤ → Act
  iteration e n j = act did (place_of setting 2 (frame e n ∷ [])) (assignment_touches (seen j) (stored j))

  abbrev ends : Entered → ℕ → Act
  ends e n = act (ended_turn n) (place_of setting 1 []) (exit_when_none n e [])

  abbrev entry : Entered → Act
  entry e = act (entered 2) (place_of setting 1 []) (entry_touches [] e [])

  abbrev loop : Entered → ℤ → ℤ → List Act
  loop e first second = entry e ∷ iteration e 1 first ∷ ends e 1 ∷ iteration e 2 second ∷ ends e 0 ∷ []

  -- an iteration does its statement
  body_does : (e : Entered) (n : ℕ) (j : ℤ) → ComesTo (assigned (names_in setting (frame e n ∷ [])) left (Var (codes "K"))) (seen j) (Ok (stored j)) → Replays (body_run setting body 1 [] (frame e n)) (iteration e n j ∷ []) goes_on
  body_does e n j h =
      statements_more setting sets no_stmts 2 (frame e n ∷ []) (iteration e n j ∷ []) [] goes_on
      (assignment_does setting left (Var (codes "K")) 2 (frame e n ∷ []) (seen j) (stored j) h) replays_nothing

  -- and a loop its entry and two turns
  turns_do : (e : Entered) (first second : ℤ) → ComesTo (assigned (names_in setting (frame e 1 ∷ [])) left (Var (codes "K"))) (seen first) (Ok (stored first)) → ComesTo (assigned (names_in setting (frame e 2 ∷ [])) left (Var (codes "K"))) (seen second) (Ok (stored second))
      → Replays (turns 2 1 e [] (place_of setting 1 []) (body_run setting body 1 [])) (iteration e 1 first ∷ ends e 1 ∷ iteration e 2 second ∷ ends e 0 ∷ []) goes_on
  turns_do e first second h k =
      turns_more 1 1 e [] (place_of setting 1 []) (body_run setting body 1 []) (iteration e 1 first ∷ []) (iteration e 2 second ∷ ends e 0 ∷ []) goes_on (body_does e 1 first h)
      (turns_more 0 2 e [] (place_of setting 1 []) (body_run setting body 1 []) (iteration e 2 second ∷ []) [] goes_on (body_does e 2 second k) replays_nothing)

  abbrev old : List Act
  old = loop up (pos 1) (pos 2)

  abbrev new : List Act
  new = loop down (pos 2) (pos 1)

  up_does : Replays (run setting (Do upward body) 1 []) old goes_on
  up_does = loop_in_order setting upward body 1 [] [] up (iteration up 1 (pos 1) ∷ ends up 1 ∷ iteration up 2 (pos 2) ∷ ends up 0 ∷ []) goes_on up_entered refl (turns_do up (pos 1) (pos 2) up_sets_1 up_sets_2)

  down_does : Replays (run setting (Do downward body) 1 []) new goes_on
  down_does = loop_in_order setting downward body 1 [] [] down (iteration down 1 (pos 2) ∷ ends down 1 ∷ iteration down 2 (pos 1) ∷ ends down 0 ∷ []) goes_on down_entered refl (turns_do down (pos 2) (pos 1) down_sets_1 down_sets_2)

  -- from the one list to the other: I counts for nothing, entries and ends go, iterations are reversed, entries and ends come
  abbrev index : Cell → Bool
  index c = same_cell i c

  abbrev gone : List Change
  gone = goes (entry up) ∷ stays (iteration up 1 (pos 1)) (iteration down 2 (pos 1)) ∷ goes (ends up 1) ∷ stays (iteration up 2 (pos 2)) (iteration down 1 (pos 2)) ∷ goes (ends up 0) ∷ []

  abbrev come : List Change
  come = comes (entry down) ∷ stays (iteration down 1 (pos 2)) (iteration down 1 (pos 2)) ∷ comes (ends down 1) ∷ stays (iteration down 2 (pos 1)) (iteration down 2 (pos 1)) ∷ comes (ends down 0) ∷ []

  abbrev iterations : List (List Act)
  iterations = (iteration down 2 (pos 1) ∷ []) ∷ (iteration down 1 (pos 2) ∷ []) ∷ []

  unread : (e : Entered) (n : ℕ) (j : ℤ) → LeaveUnread index (iteration e n j).touches
  unread e n j = (refl, (tt, (tt, tt)))

  same : (e f : Entered) (n m : ℕ) (j : ℤ) → AreSameOutside index (iteration e n j).touches (iteration f m j).touches
  same e f n m j = (unread e n j, (refl, refl, refl, (refl, refl, refl, tt)))

  gone_plain : (s : Store) → PlainChange index (written (acts_before gone)) s gone
  gone_plain s = (tt, (same up down 1 2 (pos 1), (tt, (same up down 2 1 (pos 2), ((refl, tt), tt)))))

  come_plain : (s : Store) → PlainChange index (written (acts_before come)) s come
  come_plain s = (tt, tt, (same down down 1 1 (pos 2), (tt, tt, (same down down 2 2 (pos 1), ((refl, tt), (tt, tt), tt)))))

  apart : AreApart index iterations
  apart x y (inl (e, inl f)) = ap (λ z. blocks_conflict_outside index z y) e ∙ ap (blocks_conflict_outside index (iteration down 2 (pos 1) ∷ [])) f
  apart x y (inl (e, inr n)) = absurd n
  apart x y (inr (inl (e, n))) = absurd n
  apart x y (inr (inr n)) = absurd n

  unread_all : ReadNone index (acts_in_all iterations)
  unread_all = (unread down 2 (pos 1), (unread down 1 (pos 2), tt))

  itself : (s : Store) → AgreeOutside index s s
  itself s c h = refl

  middle_fits : (s : Store) → Fits old s → Fits (acts_in_all iterations) s
  middle_fits s f = changed_fits index gone s s (plain_changes index gone s s (gone_plain s)) (itself s) f

  reversed : (s : Store) → Fits old s → Fits (acts_before come) s
  reversed s f = reversed_fits index iterations s s apart unread_all (itself s) (middle_fits s f)

  new_fits : (s : Store) → Fits old s → Fits new s
  new_fits s f = changed_fits index come s s (plain_changes index come s s (come_plain s)) (itself s) (reversed s f)

  new_leaves : (s : Store) → Fits old s → AgreeOutside index (store_after old s) (store_after new s)
  new_leaves s f c h =
      changed_leaves index gone s s (plain_changes index gone s s (gone_plain s)) (itself s) f c h
      ∙ reversed_leaves index iterations s s apart (itself s) c h
      ∙ changed_leaves index come s s (plain_changes index come s s (come_plain s)) (itself s) (reversed s f) c h

  -- so both loops go on from each store in which K holds the number, and leave stores that agree but for I
  old_fits : (s : Store) → s k ≡ Number v → Fits old s
  old_fits s h = (tt, ((h, (tt, (tt, tt))), (tt, ((h, (tt, (tt, tt))), ((tt, tt), tt)))))

  up_run : (s : Store) → s k ≡ Number v → (run setting (Do upward body) 1 [] s).ending ≡ going (store_after old s)
  up_run s h = ap (λ (r : Run). r.ending) (up_does s (old_fits s h))

  down_run : (s : Store) → s k ≡ Number v → (run setting (Do downward body) 1 [] s).ending ≡ going (store_after new s)
  down_run s h = ap (λ (r : Run). r.ending) (down_does s (new_fits s (old_fits s h)))

  same_ends : (s : Store) → s k ≡ Number v → AgreeOutside index (store_after old s) (store_after new s)
  same_ends s h = new_leaves s (old_fits s h)
