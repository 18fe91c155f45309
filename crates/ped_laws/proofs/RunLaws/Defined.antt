-- In a run without a fault each read of a cell finds a number.
use Rattle.std.proofs.Common.{◌≡◌, ℕ, zero, suc, ◌+◌, ℤ, List, [], ◌∷◌, ◌++◌, Bool, true, false, eqb, Option, Some, None, Result, Ok, Err, refl, sym, ap, subst, ◌∙◌, inl, inr, if◌then◌else◌}
use Rattle.ped_flow.specs.ped_tree.specs.Constants.NamedConstants.{value_named}
use Rattle.ped_flow.specs.ped_tree.specs.Tree.{ExprTree, ExprTrees, Int, Var, Element, Neg, Add, Sub, Mul, Div, Pow, Call, no_exprs, more_exprs, CondTree, Rel, Not, And, Or, ItemTree, Value, Text, Head, StmtTree, StmtTrees, Assign, If, Do, Print, Read, Stop, Comment, no_stmts, more_stmts}
use Rattle.ped_flow.specs.ped_tree.specs.Numbering.{statement_count, statements_count}
use Rattle.ped_eval.specs.ped_store.specs.Cells.{Cell, In, Out, same_cell}
use Rattle.ped_eval.specs.ped_store.specs.Stores.{Content, Undefined, Number, Lines, Store, put, number_read, storable, lines_in}
use Rattle.ped_eval.specs.ped_store.specs.Acts.{Manner, reads, writes, is_told, Touch, Place, Step, Act, did, entered, ended_turn, closed, touched}
use Rattle.ped_eval.specs.ped_store.specs.DataLines.{Data, begun, Taken, next_value_of}
use Rattle.ped_eval.specs.ped_store.specs.Races.{is_lines}
use Rattle.ped_laws.specs.Acts.Fitting.{Find, touches_of}
use Rattle.ped_laws.specs.Acts.Sets.{read_first, needed_by, needs}
use Rattle.ped_laws.specs.Acts.Orders.{IsIn}
use Rattle.ped_laws.proofs.ActLaws.SameCells.{cell_is}
use Rattle.ped_laws.proofs.ActLaws.Stores.{fits_find}
use Rattle.ped_eval.specs.Scopes.{Setting, Frame, Scope, Names, names_in, place_of, cell_of}
use Rattle.ped_eval.specs.Evaluation.{Seen, cell_seen, index_seen, Evaluated, onward, ◌>>>◌, given, read_cell, numbered, number_behind}
use Rattle.ped_eval.specs.Values.{variable_value, name_value, element_cell, value, values, truth, target}
use Rattle.ped_eval.specs.Statements.{assigned, assignment_touches, item_text, item_texts, printed_line, print_touches, Taking, into_item, with_taken, taking, taking_from, reading, reading_touches, read_touch, write_touch}
use Rattle.ped_eval.specs.Loops.{in_bounds, limits, Entered, entered_with, frame, undefined_by, undefined_all, exit_touches, exit_when_none, entry_touches}
use Rattle.ped_eval.specs.Runs.{Ending, going, stopped, failed, Run, nothing_done, followed_by, then_run, does, on_value, run_taking, turns, parallel_turns, run_entered, run, run_all}
use Rattle.ped_laws.specs.Runs.Replaying.{finish_of, act, has_fault}
use Rattle.ped_laws.proofs.RunLaws.StatementsTold.{all_told}
use Rattle.ped_laws.proofs.RunLaws.Touches.{Each, each_none, each_more, each_append}

-- what was seen are numbers
abbrev AllNumbers : List Seen → Type 0
AllNumbers [] = Unit {0}
AllNumbers (cell_seen c content ∷ more) = ((v : ℤ) × (content ≡ Number v)) × AllNumbers more
AllNumbers (index_seen c v ∷ more) = AllNumbers more

-- they are, where the evaluation has a result
abbrev Defined : {A : Type 0} → List Seen → Result A ℕ → Type 0
Defined seen (Ok x) = AllNumbers seen
Defined seen (Err n) = Unit {0}

numbers_append : (xs ys : List Seen) → AllNumbers xs → AllNumbers ys → AllNumbers (xs ++ ys)
numbers_append [] ys h k = k
numbers_append (cell_seen c content ∷ xs) ys h k = (h.0, numbers_append xs ys h.1 k)
numbers_append (index_seen c v ∷ xs) ys h k = numbers_append xs ys h k

defined_append : {A : Type 0} (xs ys : List Seen) (r : Result A ℕ) → AllNumbers xs → Defined ys r → Defined (xs ++ ys) r
defined_append xs ys (Ok x) h k = numbers_append xs ys h k
defined_append xs ys (Err n) h k = tt

onward_defined : {A B : Type 0} (seen : List Seen) (r : Result A ℕ) (f : A → Evaluated B) → Defined seen r → ((x : A) → Defined (f x).seen (f x).result) → Defined (onward seen r f).seen (onward seen r f).result
onward_defined seen (Ok x) f h k = defined_append seen (f x).seen (f x).result h (k x)
onward_defined seen (Err n) f h k = tt

then_defined : {A B : Type 0} (e : Evaluated A) (f : A → Evaluated B) → Defined e.seen e.result → ((x : A) → Defined (f x).seen (f x).result) → Defined (e >>> f).seen (e >>> f).result
then_defined e f h k = onward_defined e.seen e.result f h k

given_defined : {A : Type 0} (r : Result A ℕ) → Defined [] r
given_defined (Ok x) = tt
given_defined (Err n) = tt

one_defined : {A B : Type 0} (f : A → Result B ℕ) (a : Evaluated A) → Defined a.seen a.result → Defined (a >>> λ u. given (f u)).seen (a >>> λ u. given (f u)).result
one_defined f a h = then_defined a (λ u. given (f u)) h (λ u. given_defined (f u))

two_defined : {A B C : Type 0} (f : A → B → Result C ℕ) (a : Evaluated A) (b : Evaluated B) → Defined a.seen a.result → Defined b.seen b.result → Defined (a >>> λ u. b >>> λ v. given (f u v)).seen (a >>> λ u. b >>> λ v. given (f u v)).result
two_defined f a b h k = then_defined a (λ u. b >>> λ v. given (f u v)) h (λ u. one_defined (f u) b k)

read_defined : (c : Cell) (content : Content) → Defined (cell_seen c content ∷ []) (number_read content)
read_defined c (Number v) = ((v, refl), tt)
read_defined c Undefined = tt
read_defined c (Lines lines) = tt

module _ (g : Names) where
  variable_defined : (v : Option ℤ) (c : Cell) (s : Store) → Defined (variable_value v s c).seen (variable_value v s c).result
  variable_defined (Some n) c s = tt
  variable_defined None c s = read_defined c (s c)

  name_defined : (v : Option ℤ) (x : List ℕ) (s : Store) → Defined (name_value v g x s).seen (name_value v g x s).result
  name_defined (Some n) x s = tt
  name_defined None x s = variable_defined (g.index x) (g.cell x) s

  mutual
    value_defined : (e : ExprTree) (s : Store) → Defined (value g e s).seen (value g e s).result
    value_defined (Int n) s = tt
    value_defined (Var x) s = name_defined (value_named g.constants x) x s
    value_defined (Element x es) s =
        then_defined (values g es s) (λ js. given (element_cell g x js) >>> read_cell s) (values_defined es s)
        (λ js. then_defined (given (element_cell g x js)) (read_cell s) (given_defined (element_cell g x js)) (λ c. read_defined c (s c)))
    value_defined (Neg a) s = one_defined _ (value g a s) (value_defined a s)
    value_defined (Add a b) s = two_defined _ (value g a s) (value g b s) (value_defined a s) (value_defined b s)
    value_defined (Sub a b) s = two_defined _ (value g a s) (value g b s) (value_defined a s) (value_defined b s)
    value_defined (Mul a b) s = two_defined _ (value g a s) (value g b s) (value_defined a s) (value_defined b s)
    value_defined (Div a b) s = two_defined _ (value g a s) (value g b s) (value_defined a s) (value_defined b s)
    value_defined (Pow a b) s = two_defined _ (value g a s) (value g b s) (value_defined a s) (value_defined b s)
    value_defined (Call f es) s = one_defined _ (values g es s) (values_defined es s)

    values_defined : (es : ExprTrees) (s : Store) → Defined (values g es s).seen (values g es s).result
    values_defined no_exprs s = tt
    values_defined (more_exprs e rest) s = two_defined _ (value g e s) (values g rest s) (value_defined e s) (values_defined rest s)

  truth_defined : (c : CondTree) (s : Store) → Defined (truth g c s).seen (truth g c s).result
  truth_defined (Rel r a b) s = two_defined _ (value g a s) (value g b s) (value_defined a s) (value_defined b s)
  truth_defined (Not a) s = one_defined _ (truth g a s) (truth_defined a s)
  truth_defined (And a b) s = two_defined _ (truth g a s) (truth g b s) (truth_defined a s) (truth_defined b s)
  truth_defined (Or a b) s = two_defined _ (truth g a s) (truth g b s) (truth_defined a s) (truth_defined b s)

  target_defined : (e : ExprTree) (s : Store) → Defined (target g e s).seen (target g e s).result
  target_defined (Var x) s = tt
  target_defined (Element x es) s = one_defined (element_cell g x) (values g es s) (values_defined es s)
  target_defined (Int n) s = tt
  target_defined (Neg a) s = tt
  target_defined (Add a b) s = tt
  target_defined (Sub a b) s = tt
  target_defined (Mul a b) s = tt
  target_defined (Div a b) s = tt
  target_defined (Pow a b) s = tt
  target_defined (Call f es) s = tt

  text_defined : (item : ItemTree) (s : Store) → Defined (item_text g item s).seen (item_text g item s).result
  text_defined (Value e) s = one_defined _ (value g e s) (value_defined e s)
  text_defined (Text text) s = tt

  texts_defined : (items : List ItemTree) (s : Store) → Defined (item_texts g items s).seen (item_texts g items s).result
  texts_defined [] s = tt
  texts_defined (item ∷ rest) s = two_defined _ (item_text g item s) (item_texts g rest s) (text_defined item s) (texts_defined rest s)

  line_defined : (items : List ItemTree) (s : Store) → Defined (printed_line g items s).seen (printed_line g items s).result
  line_defined items s = one_defined _ (item_texts g items s) (texts_defined items s)

  limits_defined : (h : Head) (s : Store) → Defined (limits g h s).seen (limits g h s).result
  limits_defined h s =
      then_defined (value g h.first s) (λ u. given (in_bounds u) >>> λ m. value g h.last s >>> λ v. given (in_bounds v) >>> λ n. given (Ok (record { first = m; last = n }))) (value_defined h.first s) (λ u.
      then_defined (given (in_bounds u)) (λ m. value g h.last s >>> λ v. given (in_bounds v) >>> λ n. given (Ok (record { first = m; last = n }))) (given_defined (in_bounds u)) (λ m.
      then_defined (value g h.last s) (λ v. given (in_bounds v) >>> λ n. given (Ok (record { first = m; last = n }))) (value_defined h.last s) (λ v.
      one_defined (λ n. Ok (record { first = m; last = n })) (given (in_bounds v)) (given_defined (in_bounds v)))))

  assigned_defined : (left right : ExprTree) (s : Store) → Defined (assigned g left right s).seen (assigned g left right s).result
  assigned_defined left right s =
      then_defined (value g right s) (λ v. target g left s >>> λ c. given (storable v) >>> λ n. given (Ok (record { cell = c; number = n }))) (value_defined right s) (λ v.
      then_defined (target g left s) (λ c. given (storable v) >>> λ n. given (Ok (record { cell = c; number = n }))) (target_defined left s) (λ c.
      one_defined (λ n. Ok (record { cell = c; number = n })) (given (storable v)) (given_defined (storable v))))

-- a touch that reads a cell finds a number
abbrev FindsNumber : Manner → Cell → Content → Type 0
FindsNumber reads c content = is_lines c ≡ false → (v : ℤ) × (content ≡ Number v)
FindsNumber writes c content = Unit {0}
FindsNumber is_told c content = Unit {0}

abbrev OfNumber : Touch → Type 0
OfNumber t = FindsNumber t.manner t.cell t.content

abbrev OfNumbers : Act → Type 0
OfNumbers a = Each OfNumber a.touches

numbered_of : (n : ℕ) (seen : List Seen) → AllNumbers seen → Each OfNumber (numbered n seen)
numbered_of n [] h = each_none OfNumber
numbered_of n (cell_seen c content ∷ more) h = each_more OfNumber (read_touch c content n) (numbered (suc n) more) (λ l. h.0) (numbered_of (suc n) more h.1)
numbered_of n (index_seen c v ∷ more) h = each_more OfNumber (record { cell = c; manner = is_told; content = Number v; reference = 0 }) (numbered n more) tt (numbered_of n more h)

-- the acts of a run without a fault read numbers
abbrev Clean : List Act → Ending → Type 0
Clean acts (going s) = Each OfNumbers acts
Clean acts (stopped s) = Each OfNumbers acts
Clean acts (failed fault statement) = Unit {0}

abbrev IsClean : Run → Type 0
IsClean r = Clean r.acts r.ending

clean_append : (acts others : List Act) (e : Ending) → Each OfNumbers acts → Clean others e → Clean (acts ++ others) e
clean_append acts others (going s) h k = each_append OfNumbers acts others h k
clean_append acts others (stopped s) h k = each_append OfNumbers acts others h k
clean_append acts others (failed fault statement) h k = tt

followed_clean : (acts : List Act) (e : Ending) (g : Store → Run) → Clean acts e → ((u : Store) → IsClean (g u)) → IsClean (followed_by acts e g)
followed_clean acts (going u) g h k = clean_append acts (g u).acts (g u).ending h (k u)
followed_clean acts (stopped u) g h k = h
followed_clean acts (failed fault statement) g h k = tt

then_clean : (r : Run) (g : Store → Run) → IsClean r → ((u : Store) → IsClean (g u)) → IsClean (then_run r g)
then_clean r g h k = followed_clean r.acts r.ending g h k

does_clean : (step : Step) (at : Place) (touches : List Touch) (next : Store → Run) (s : Store) → Each OfNumber touches → ((u : Store) → IsClean (next u)) → IsClean (does step at touches next s)
does_clean step at touches next s h k = followed_clean (act step at touches ∷ []) (going _) next (each_more OfNumbers (act step at touches) [] h (each_none OfNumbers)) k

nothing_clean : (s : Store) → IsClean (nothing_done s)
nothing_clean s = each_none OfNumbers

on_clean : {A : Type 0} (at : Place) (seen : List Seen) (r : Result A ℕ) (k : List Seen → A → Run) → Defined seen r → ((x : A) → AllNumbers seen → IsClean (k seen x)) → IsClean (on_value at seen r k)
on_clean at seen (Ok x) k h more = more x h
on_clean at seen (Err n) k h more = tt

-- exits
private_of : (scope : Scope) (n : ℕ) (xs : List (List ℕ)) → Each OfNumber (undefined_by scope n xs)
private_of scope n [] = each_none OfNumber
private_of scope n (x ∷ xs) = each_more OfNumber (write_touch (cell_of scope x) Undefined n) (undefined_by scope (suc n) xs) tt (private_of scope (suc n) xs)

inner_of : (scope : Scope) (xs : List (List ℕ)) → Each OfNumber (undefined_all scope xs)
inner_of scope [] = each_none OfNumber
inner_of scope (x ∷ xs) = each_more OfNumber (write_touch (cell_of scope x) Undefined 0) (undefined_all scope xs) tt (inner_of scope xs)

exit_of : (e : Entered) (scope : Scope) → Each OfNumber (exit_touches e scope)
exit_of e scope =
    each_more OfNumber _ (undefined_by scope e.behind_bounds e.head.private ++ undefined_all scope e.inner) tt
    (each_append OfNumber (undefined_by scope e.behind_bounds e.head.private) (undefined_all scope e.inner) (private_of scope e.behind_bounds e.head.private) (inner_of scope e.inner))

exit_when_of : (n : ℕ) (e : Entered) (scope : Scope) → Each OfNumber (exit_when_none n e scope)
exit_when_of n e scope = go (eqb n 0)
  where
    go : (b : Bool) → Each OfNumber (if b then exit_touches e scope else [])
    go true = exit_of e scope
    go false = each_none OfNumber

module _ (e : Entered) (scope : Scope) (at : Place) (body : Frame → Store → Run) (bodies : (f : Frame) (s : Store) → IsClean (body f s)) where
  turns_clean : (left k : ℕ) (s : Store) → IsClean (turns left k e scope at body s)
  turns_clean zero k s = nothing_clean s
  turns_clean (suc left) k s =
      then_clean (body (frame e k) s) (does (ended_turn left) at (exit_when_none left e scope) (turns left (k + 1) e scope at body)) (bodies (frame e k) s)
      (λ u. does_clean (ended_turn left) at (exit_when_none left e scope) (turns left (k + 1) e scope at body) u (exit_when_of left e scope) (turns_clean left (k + 1)))

  parallel_clean : (left k : ℕ) (s : Store) → IsClean (parallel_turns left k e body s)
  parallel_clean zero k s = nothing_clean s
  parallel_clean (suc left) k s = then_clean (body (frame e k) s) (parallel_turns left (k + 1) e body) (bodies (frame e k) s) (parallel_clean left (k + 1))

  entered_clean : (b : Bool) (count : ℕ) (s : Store) → IsClean (run_entered b count e scope at body s)
  entered_clean b zero s = nothing_clean s
  entered_clean false (suc count) s = turns_clean (suc count) 1 s
  entered_clean true (suc count) s =
      then_clean (parallel_turns (suc count) 1 e body s) (does closed at (exit_touches e scope) nothing_done) (parallel_clean (suc count) 1 s)
      (λ u. does_clean closed at (exit_touches e scope) nothing_done u (exit_of e scope) nothing_clean)

-- READ
abbrev OfTaking : List Touch → Option ℕ → Type 0
OfTaking touches None = Each OfNumber touches
OfTaking touches (Some fault) = Unit {0}

taking_append : (xs ys : List Touch) (fault : Option ℕ) → Each OfNumber xs → OfTaking ys fault → OfTaking (xs ++ ys) fault
taking_append xs ys None h k = each_append OfNumber xs ys h k
taking_append xs ys (Some fault) h k = tt

module _ (g : Names) where
  item_of : (rest : List ExprTree) → ((n : ℕ) (d : Data) (s : Store) → OfTaking (taking g rest n d s).touches (taking g rest n d s).fault)
      → (n : ℕ) (left : Data) (v : ℤ) (s : Store) (seen : List Seen) (r : Result Cell ℕ) → Defined seen r
      → OfTaking (into_item n left v seen r (λ m c. taking g rest m left (put c (Number v) s))).touches (into_item n left v seen r (λ m c. taking g rest m left (put c (Number v) s))).fault
  item_of rest more n left v s seen (Err fault) h = tt
  item_of rest more n left v s seen (Ok c) h =
      taking_append (numbered n seen ++ write_touch c (Number v) (number_behind n seen) ∷ []) (taking g rest (suc (number_behind n seen)) left (put c (Number v) s)).touches (taking g rest (suc (number_behind n seen)) left (put c (Number v) s)).fault
      (each_append OfNumber (numbered n seen) (write_touch c (Number v) (number_behind n seen) ∷ []) (numbered_of n seen h) (each_more OfNumber (write_touch c (Number v) (number_behind n seen)) [] tt (each_none OfNumber)))
      (more (suc (number_behind n seen)) left (put c (Number v) s))

  taken_of : (rest : List ExprTree) → ((n : ℕ) (d : Data) (s : Store) → OfTaking (taking g rest n d s).touches (taking g rest n d s).fault)
      → (item : ExprTree) (n : ℕ) (d : Data) (s : Store) (t : Result Taken ℕ)
      → OfTaking (with_taken d t (λ v left. into_item n left v (target g item s).seen (target g item s).result λ m c. taking g rest m left (put c (Number v) s))).touches
      (with_taken d t (λ v left. into_item n left v (target g item s).seen (target g item s).result λ m c. taking g rest m left (put c (Number v) s))).fault
  taken_of rest more item n d s (Err fault) = tt
  taken_of rest more item n d s (Ok t) = item_of rest more n t.behind t.value s (target g item s).seen (target g item s).result (target_defined g item s)

  taking_of : (items : List ExprTree) (n : ℕ) (d : Data) (s : Store) → OfTaking (taking g items n d s).touches (taking g items n d s).fault
  taking_of [] n d s = each_none OfNumber
  taking_of (item ∷ rest) n d s = taken_of rest (taking_of rest) item n d s (next_value_of d)

  from_of : (items : List ExprTree) (b : Result Data ℕ) (s : Store) → OfTaking (taking_from g items b s).touches (taking_from g items b s).fault
  from_of items (Ok d) s = taking_of items 2 d s
  from_of items (Err fault) s = tt

taking_clean : (at : Place) (t : Taking) (fault : Option ℕ) (s : Store) → OfTaking t.touches fault → IsClean (run_taking at t fault s)
taking_clean at t (Some k) s h = tt
taking_clean at t None s h =
    does_clean did at (reading_touches t s) nothing_done s
    (each_more OfNumber (read_touch In (s In) 0) (write_touch In (Lines t.left.lines) 1 ∷ t.touches) (λ l. absurd cc) (each_more OfNumber (write_touch In (Lines t.left.lines) 1) t.touches tt h))
    nothing_clean

part_clean : (f g : Store → Run) → ((u : Store) → IsClean (f u)) → ((u : Store) → IsClean (g u)) → (b : Bool) (u : Store) → IsClean ((if b then f else g) u)
part_clean f g h k true u = h u
part_clean f g h k false u = k u

mutual
  run_clean : (p : Setting) (t : StmtTree) (n : ℕ) (scope : Scope) (s : Store) → IsClean (run p t n scope s)
  run_clean p (Assign left right) n scope s =
      let e = assigned (names_in p scope) left right s in
      on_clean (place_of p n scope) e.seen e.result _ (assigned_defined (names_in p scope) left right s)
      (λ w h. does_clean did (place_of p n scope) (assignment_touches e.seen w) nothing_done s
      (each_append OfNumber (numbered 1 e.seen) (write_touch w.cell (Number w.number) (number_behind 1 e.seen) ∷ []) (numbered_of 1 e.seen h) (each_more OfNumber (write_touch w.cell (Number w.number) (number_behind 1 e.seen)) [] tt (each_none OfNumber)))
      nothing_clean)
  run_clean p (If c a b) n scope s =
      let e = truth (names_in p scope) c s in
      on_clean (place_of p n scope) e.seen e.result _ (truth_defined (names_in p scope) c s)
      (λ holds h. does_clean did (place_of p n scope) (numbered 1 e.seen) (if holds then run_all p a (n + 1) scope else run_all p b (n + 1 + statements_count a) scope) s (numbered_of 1 e.seen h)
      (part_clean (run_all p a (n + 1) scope) (run_all p b (n + 1 + statements_count a) scope) (all_clean p a (n + 1) scope) (all_clean p b (n + 1 + statements_count a) scope) holds))
  run_clean p (Do h body) n scope s =
      let l = limits (names_in p scope) h s in
      on_clean (place_of p n scope) l.seen l.result _ (limits_defined (names_in p scope) h s)
      (λ limits k.
      let e = entered_with p n h body l.seen limits in
      does_clean (entered e.count) (place_of p n scope) (entry_touches l.seen e scope) (run_entered h.parallel e.count e scope (place_of p n scope) (λ f. run_all p body (n + 1) (f ∷ scope))) s
      (each_append OfNumber (numbered 1 l.seen) (exit_when_none e.count e scope) (numbered_of 1 l.seen k) (exit_when_of e.count e scope))
      (entered_clean e scope (place_of p n scope) (λ f. run_all p body (n + 1) (f ∷ scope)) (λ f. all_clean p body (n + 1) (f ∷ scope)) h.parallel e.count))
  run_clean p (Print items) n scope s =
      let e = printed_line (names_in p scope) items s in
      on_clean (place_of p n scope) e.seen e.result _ (line_defined (names_in p scope) items s)
      (λ line h. does_clean did (place_of p n scope) (print_touches e.seen line s) nothing_done s
      (each_append OfNumber (numbered 1 e.seen) (read_touch Out (s Out) 0 ∷ (write_touch Out (Lines (lines_in (s Out) ++ line ∷ [])) (number_behind 1 e.seen) ∷ [])) (numbered_of 1 e.seen h)
      (each_more OfNumber (read_touch Out (s Out) 0) (write_touch Out (Lines (lines_in (s Out) ++ line ∷ [])) (number_behind 1 e.seen) ∷ []) (λ l. absurd cc) (each_more OfNumber (write_touch Out (Lines (lines_in (s Out) ++ line ∷ [])) (number_behind 1 e.seen)) [] tt (each_none OfNumber))))
      nothing_clean)
  run_clean p (Read items) n scope s = taking_clean (place_of p n scope) (reading (names_in p scope) items s) (reading (names_in p scope) items s).fault s (from_of (names_in p scope) items (begun (lines_in (s In))) s)
  run_clean p Stop n scope s = does_clean did (place_of p n scope) [] (λ u. record { acts = []; ending = stopped u }) s (each_none OfNumber) (λ u. each_none OfNumbers)
  run_clean p (Comment text) n scope s = nothing_clean s

  all_clean : (p : Setting) (ts : StmtTrees) (n : ℕ) (scope : Scope) (s : Store) → IsClean (run_all p ts n scope s)
  all_clean p no_stmts n scope s = nothing_clean s
  all_clean p (more_stmts t rest) n scope s = then_clean (run p t n scope s) (run_all p rest (n + statement_count t) scope) (run_clean p t n scope s) (all_clean p rest (n + statement_count t) scope)

clean_acts : (acts : List Act) (e : Ending) → has_fault (finish_of e) ≡ false → Clean acts e → Each OfNumbers acts
clean_acts acts (going s) f h = h
clean_acts acts (stopped s) f h = h
clean_acts acts (failed fault statement) f h = absurd cc

-- so what acts need is defined
touches_each : (acts : List Act) → Each OfNumbers acts → Each OfNumber (touches_of acts)
touches_each [] h = each_none OfNumber
touches_each (a ∷ acts) h = each_append OfNumber a.touches (touches_of acts) (h a (inl refl)) (touches_each acts (λ b i. h b (inr i)))

touched_elsewhere : (m : Manner) (c : Cell) (v : Content) (s : Store) (d : Cell) → same_cell c d ≡ false → touched m c v s d ≡ s d
touched_elsewhere writes c v s d h = ap (λ b. if b then v else s d) h
touched_elsewhere reads c v s d h = refl
touched_elsewhere is_told c v s d h = refl

needed_is : (ts : List Touch) (s : Store) (c : Cell) → is_lines c ≡ false → Each OfNumber ts → Find ts s → needed_by ts c ≡ true → (v : ℤ) × (s c ≡ Number v)
needed_is [] s c l h f k = absurd cc
needed_is (t ∷ ts) s c l h f k = go (same_cell t.cell c) refl (needed_is ts (touched t.manner t.cell t.content s) c l (λ u i. h u (inr i)) f.1)
  where
    told : (m : Manner) (content : Content) → FindsNumber m t.cell content → Find (record { cell = t.cell; manner = m; content = content; reference = t.reference } ∷ []) s → t.cell ≡ c → read_first m (needed_by ts c) ≡ true
        → (needed_by ts c ≡ true → (v : ℤ) × (touched m t.cell content s c ≡ Number v)) → (v : ℤ) × (s c ≡ Number v)
    told reads content n g e r more = let z = n (ap is_lines e ∙ l) in (z.0, ap s (sym e) ∙ g.0 ∙ z.1)
    told writes content n g e r more = absurd cc
    told is_told content n g e r more = more r

    go : (b : Bool) → same_cell t.cell c ≡ b → (needed_by ts c ≡ true → (v : ℤ) × (touched t.manner t.cell t.content s c ≡ Number v)) → (v : ℤ) × (s c ≡ Number v)
    go true e more = told t.manner t.content (h t (inl refl)) (f.0, tt) (cell_is t.cell c e) (sym (ap (λ b. if b then read_first t.manner (needed_by ts c) else needed_by ts c) e) ∙ k) more
    go false e more =
        let z = more (sym (ap (λ b. if b then read_first t.manner (needed_by ts c) else needed_by ts c) e) ∙ k) in
        (z.0, sym (touched_elsewhere t.manner t.cell t.content s c e) ∙ z.1)

pub numbers_needed : (p : Setting) (ts : StmtTrees) (n : ℕ) (scope : Scope) (s : Store) (c : Cell) → has_fault (finish_of (run_all p ts n scope s).ending) ≡ false → is_lines c ≡ false → needs (run_all p ts n scope s).acts c ≡ true → (v : ℤ) × (s c ≡ Number v)
numbers_needed p ts n scope s c h l k =
    let r = run_all p ts n scope s in
    needed_is (touches_of r.acts) s c l (touches_each r.acts (clean_acts r.acts r.ending h (all_clean p ts n scope s))) (fits_find r.acts s ((all_told p ts n scope).fits s)) k

-- a read that an act does
read_is : (t : Touch) → OfNumber t → t.manner ≡ reads → is_lines t.cell ≡ false → (v : ℤ) × (t.content ≡ Number v)
read_is t h e l = subst (λ (m : Manner). FindsNumber m t.cell t.content) e h l

pub numbers_read : (p : Setting) (ts : StmtTrees) (n : ℕ) (scope : Scope) (s : Store) (a : Act) (t : Touch) → has_fault (finish_of (run_all p ts n scope s).ending) ≡ false → IsIn a (run_all p ts n scope s).acts → IsIn t a.touches → t.manner ≡ reads → is_lines t.cell ≡ false → (v : ℤ) × (t.content ≡ Number v)
numbers_read p ts n scope s a t h i j e l = read_is t (clean_acts (run_all p ts n scope s).acts (run_all p ts n scope s).ending h (all_clean p ts n scope s) a i t j) e l
