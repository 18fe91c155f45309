-- What events do to scalars, by which names are read and which are assigned.
use Rattle.std.proofs.Common.{◌≡◌, ℕ, min, List, [], ◌∷◌, ◌++◌, map, length, replicate, Bool, true, false, not, ◌&&◌, ◌||◌, Option, None, Some, is_some, ◌⊎◌, inl, inr, Result, Ok, Err, IfOk, OnOk, refl, sym, ap, ◌∙◌, append_assoc, append-nil, arith, if◌then◌else◌}
use Rattle.std.proofs.lemmas.List.{length-replicate}
use Rattle.ped_base.specs.Lists.{is_same_text, is_among}
use Rattle.ped_tree.specs.Tree.{ExprTree, Int, Var, Element, Neg, Add, Sub, Mul, Div, Pow, Call}
use Rattle.ped_bits.specs.Places.{union, without}
use Rattle.ped_tree.proofs.NameLaws.Collected.{among_append}
use Rattle.ped_flow.specs.Events.{Event, reads, assigns, event, reads_of, all_scalars_in, left_events}
use Rattle.ped_flow.specs.Summaries.{least_of, passing, of_manner, summary_in_turn, summary_event, summary_events}
use Rattle.ped_flow.specs.Kept.{unless, first_reader}
use Rattle.ped_flow.specs.RowPlaces.{place_of, bit, AreMarked, IsRowOf}
use Rattle.ped_flow.specs.RowMarks.{read_left, assigned_left}
use Rattle.ped_flow.specs.Parts.{IsPart, AreEvents}
use Rattle.ped_flow.specs.declared.summaries.Summary.{Summary}
use Rattle.ped_flow.specs.declared.parts.Part.{Part}
use Rattle.ped_flow.proofs.SumLaws.{events-append, events_of-append}
use Rattle.ped_flow.proofs.OutsideSteps.{first_reader-append}
use Rattle.ped_flow.proofs.RowLaws.{nothing_at, without_at}
use Rattle.ped_flow.proofs.RowSummaries.{or_at, less_wide, union_wide}

-- what holds of an answer by a weaker sentence
pub if_ok : {X E : Type 0} {P Q : X → Type 0} (r : Result X E) → ((x : X) → P x → Q x) → IfOk r P → IfOk r Q
if_ok (Ok x) f h = f x h
if_ok (Err e) f h = h

-- what follows an answer by a weaker sentence
pub if_done : {X E : Type 0} {A B : Type 0} (r : Result X E) → (A → B) → OnOk r A → OnOk r B
if_done (Ok x) f h = f h
if_done (Err e) f h = h

-- a row with nothing but what is marked
pub row_marked : (names : List (List ℕ)) (n : ℕ) (old new : List Bool) (xs : List (List ℕ)) → old ≡ replicate n false → AreMarked names old new xs → IsRowOf names new xs
row_marked names n old new xs e h x i at = h.marked x i at ∙ ap (λ (z : Bool). z || is_among x xs) (ap (λ (r : List Bool). bit r i) e ∙ nothing_at n i)

-- an empty row
pub row_empty : (names : List (List ℕ)) (n : ℕ) (row : List Bool) → row ≡ replicate n false → IsRowOf names row []
row_empty names n row e x i at = ap (λ (r : List Bool). bit r i) e ∙ nothing_at n i

read_more : (same among : Bool) (n : ℕ) → summary_in_turn (if same then of_manner reads n else passing) (if among then of_manner reads n else passing) ≡ (if same || among then of_manner reads n else passing)
read_more true true n = λ j. record { first = Some (same n j); keeps = true; ends = false; passes = true; loses = false }
  where
    same : (n : ℕ) → min n n ≡ n
    same n = omega arith
read_more true false n = refl
read_more false true n = refl
read_more false false n = refl

-- reads
reads_summary : (x : List ℕ) (n : ℕ) (xs : List (List ℕ)) → summary_events x (reads_of n xs) ≡ (if is_among x xs then of_manner reads n else passing)
reads_summary x n [] = refl
reads_summary x n (y ∷ ys) = ap (summary_in_turn (summary_event x (event n reads y))) (reads_summary x n ys) ∙ read_more (is_same_text x y) (is_among x ys) n

assign_more : (same among : Bool) (n : ℕ) → summary_in_turn (if same then of_manner assigns n else passing) (if among then of_manner assigns 0 else passing) ≡ (if same || among then of_manner assigns 0 else passing)
assign_more true true n = refl
assign_more true false n = refl
assign_more false true n = refl
assign_more false false n = refl

assigns_summary : (x : List ℕ) (n : ℕ) (xs : List (List ℕ)) → summary_events x (map (event n assigns) xs) ≡ (if is_among x xs then of_manner assigns 0 else passing)
assigns_summary x n [] = refl
assigns_summary x n (y ∷ ys) = ap (summary_in_turn (summary_event x (event n assigns y))) (assigns_summary x n ys) ∙ assign_more (is_same_text x y) (is_among x ys) n

some_more : (same among : Bool) (n : ℕ) (a : Option ℕ) → is_some a ≡ among → is_some (least_of (if same && true then Some n else None) a) ≡ (same || among)
some_more true b n None h = refl
some_more true b n (Some k) h = refl
some_more false b n a h = h

reads_loose : (x : List ℕ) (n : ℕ) (xs : List (List ℕ)) → is_some (first_reader x (reads_of n xs)) ≡ is_among x xs
reads_loose x n [] = refl
reads_loose x n (y ∷ ys) = some_more (is_same_text x y) (is_among x ys) n (first_reader x (reads_of n ys)) (reads_loose x n ys)

none_more : (same : Bool) (n : ℕ) (a : Option ℕ) → a ≡ None → least_of (if same && false then Some n else None) a ≡ None
none_more true n a h = h
none_more false n a h = h

assigns_loose : (x : List ℕ) (n : ℕ) (xs : List (List ℕ)) → first_reader x (map (event n assigns) xs) ≡ None
assigns_loose x n [] = refl
assigns_loose x n (y ∷ ys) = none_more (is_same_text x y) n (first_reader x (map (event n assigns) ys)) (assigns_loose x n ys)

-- reads and then assignments
both_summary : (x : List ℕ) (n : ℕ) (xs ys : List (List ℕ)) → summary_events x (reads_of n xs ++ map (event n assigns) ys) ≡ summary_in_turn (if is_among x xs then of_manner reads n else passing) (if is_among x ys then of_manner assigns 0 else passing)
both_summary x n xs ys = events-append x (reads_of n xs) (map (event n assigns) ys) ∙ (λ j. summary_in_turn (reads_summary x n xs j) (assigns_summary x n ys j))

least-none : (a : Option ℕ) → least_of a None ≡ a
least-none None = refl
least-none (Some a) = refl

module _ (n : ℕ) where
  first_is : (a b : Bool) → a ≡ is_some (summary_in_turn (if a then of_manner reads n else passing) (if b then of_manner assigns 0 else passing)).first
  first_is true true = refl
  first_is true false = refl
  first_is false true = refl
  first_is false false = refl

  keeps_is : (a b : Bool) → b ≡ not (summary_in_turn (if a then of_manner reads n else passing) (if b then of_manner assigns 0 else passing)).keeps
  keeps_is true true = refl
  keeps_is true false = refl
  keeps_is false true = refl
  keeps_is false false = refl

  ends_is : (a b : Bool) → (summary_in_turn (if a then of_manner reads n else passing) (if b then of_manner assigns 0 else passing)).ends ≡ false
  ends_is true true = refl
  ends_is true false = refl
  ends_is false true = refl
  ends_is false false = refl

  passes_is : (a b : Bool) → not (summary_in_turn (if a then of_manner reads n else passing) (if b then of_manner assigns 0 else passing)).passes ≡ false
  passes_is true true = refl
  passes_is true false = refl
  passes_is false true = refl
  passes_is false false = refl

  loses_is : (a b : Bool) → (summary_in_turn (if a then of_manner reads n else passing) (if b then of_manner assigns 0 else passing)).loses ≡ false
  loses_is true true = refl
  loses_is true false = refl
  loses_is false true = refl
  loses_is false false = refl

-- events that are reads and then assignments
pub simple_events : (n : ℕ) (xs ys : List (List ℕ)) (events : List Event) → events ≡ reads_of n xs ++ map (event n assigns) ys → AreEvents xs ys (λ x. summary_events x events) (λ x. first_reader x events)
simple_events n xs ys events e = record {
  reads = λ x. first_is n (is_among x xs) (is_among x ys) ∙ ap (λ (m : Summary). is_some m.first) (sym (whole x));
  assigns = λ x. keeps_is n (is_among x xs) (is_among x ys) ∙ ap (λ (m : Summary). not m.keeps) (sym (whole x));
  ends = λ x. ap (λ (m : Summary). m.ends) (whole x) ∙ ends_is n (is_among x xs) (is_among x ys);
  passes = λ x. ap (λ (m : Summary). not m.passes) (whole x) ∙ passes_is n (is_among x xs) (is_among x ys);
  loses = λ x. ap (λ (m : Summary). m.loses) (whole x) ∙ loses_is n (is_among x xs) (is_among x ys);
  loose = λ x. sym (
      ap (λ (es : List Event). is_some (first_reader x es)) e
      ∙ ap is_some (first_reader-append x (reads_of n xs) (map (event n assigns) ys) ∙ ap (least_of (first_reader x (reads_of n xs))) (assigns_loose x n ys) ∙ least-none (first_reader x (reads_of n xs)))
      ∙ reads_loose x n xs);
}
  where
    whole : (x : List ℕ) → summary_events x events ≡ summary_in_turn (if is_among x xs then of_manner reads n else passing) (if is_among x ys then of_manner assigns 0 else passing)
    whole x = ap (summary_events x) e ∙ both_summary x n xs ys

-- a left side
pub left_split : (cs : List (List ℕ)) (n : ℕ) (e : ExprTree) → left_events cs n e ≡ reads_of n (read_left cs e) ++ map (event n assigns) (assigned_left cs e)
left_split cs n (Var y) = refl
left_split cs n (Element y subscripts) = sym (append-nil (reads_of n (all_scalars_in cs subscripts)))
left_split cs n (Int k) = refl
left_split cs n (Neg a) = refl
left_split cs n (Add a b) = refl
left_split cs n (Sub a b) = refl
left_split cs n (Mul a b) = refl
left_split cs n (Div a b) = refl
left_split cs n (Pow a b) = refl
left_split cs n (Call f arguments) = refl

pub assignment_split : (cs : List (List ℕ)) (n : ℕ) (right : List (List ℕ)) (e : ExprTree) → reads_of n right ++ left_events cs n e ≡ reads_of n (right ++ read_left cs e) ++ map (event n assigns) (assigned_left cs e)
assignment_split cs n right e =
    ap (λ (es : List Event). reads_of n right ++ es) (left_split cs n e)
    ∙ sym (append_assoc (reads_of n right) (reads_of n (read_left cs e)) (map (event n assigns) (assigned_left cs e)))
    ∙ ap (λ (es : List Event). es ++ map (event n assigns) (assigned_left cs e)) (sym (events_of-append (event n reads) right (read_left cs e)))

pub reads_split : (n : ℕ) (xs : List (List ℕ)) → reads_of n xs ≡ reads_of n xs ++ map (event n assigns) []
reads_split n xs = sym (append-nil (reads_of n xs))

-- a row that was marked is as wide as there are names
pub marked_wide : (names : List (List ℕ)) (n : ℕ) (old new : List Bool) (xs : List (List ℕ)) → old ≡ replicate n false → n ≡ length names → AreMarked names old new xs → length names ≡ length new
marked_wide names n old new xs e w h = sym (h.width ∙ ap length e ∙ length-replicate n false ∙ w)

pub empty_wide : (names : List (List ℕ)) (n : ℕ) (row : List Bool) → row ≡ replicate n false → n ≡ length names → length row ≡ length names
empty_wide names n row e w = ap length e ∙ length-replicate n false ∙ w

-- the scalars of which an iteration has copies
pub copies_row : (names : List (List ℕ)) (n : ℕ) (old row indices new : List Bool) (private variables : List (List ℕ)) (parallel : Bool) → old ≡ replicate n false → AreMarked names old row private → length row ≡ length indices
    → ((parallel ≡ true) × (new ≡ union row indices)) ⊎ ((parallel ≡ false) × (new ≡ row)) → IsRowOf names indices variables → IsRowOf names new (private ++ (if parallel then variables else []))
copies_row names n old row indices new private variables parallel e h w (inl b) k x i at =
    or_at row indices new i w b.1 ∙ (λ j. row_marked names n old row private e h x i at j || k x i at j) ∙ sym (among_append x private variables)
    ∙ ap (λ (p : Bool). is_among x (private ++ (if p then variables else []))) (sym b.0)
copies_row names n old row indices new private variables parallel e h w (inr b) k x i at =
    ap (λ (r : List Bool). bit r i) b.1 ∙ row_marked names n old row private e h x i at
    ∙ ap (is_among x) (sym (append-nil private)) ∙ ap (λ (p : Bool). is_among x (private ++ (if p then variables else []))) (sym b.0)

or-flip : (a b : Bool) → (a || (b || false)) ≡ (b || a)
or-flip true true = refl
or-flip true false = refl
or-flip false true = refl
or-flip false false = refl

-- those that the exit clears
pub left_row : (names : List (List ℕ)) (row new : List Bool) (copied : List (List ℕ)) (y : List ℕ) (parallel : Bool)
    → ((parallel ≡ true) × AreMarked names row new (y ∷ [])) ⊎ ((parallel ≡ false) × (new ≡ row)) → IsRowOf names row copied → IsRowOf names new ((if parallel then y ∷ [] else []) ++ copied)
left_row names row new copied y parallel (inl b) k x i at =
    b.1.marked x i at ∙ ap (λ (z : Bool). z || (is_same_text x y || false)) (k x i at) ∙ or-flip (is_among x copied) (is_same_text x y)
    ∙ ap (λ (p : Bool). is_among x ((if p then y ∷ [] else []) ++ copied)) (sym b.0)
left_row names row new copied y parallel (inr b) k x i at = ap (λ (r : List Bool). bit r i) b.1 ∙ k x i at ∙ ap (λ (p : Bool). is_among x ((if p then y ∷ [] else []) ++ copied)) (sym b.0)

unless_some : (same : Bool) (a : Option ℕ) → (is_some a && not (same || false)) ≡ is_some (unless same a)
unless_some true None = refl
unless_some true (Some n) = refl
unless_some false None = refl
unless_some false (Some n) = refl

or_once : (a b : Bool) → ((a || false) || b) ≡ (a || b)
or_once true b = refl
or_once false b = refl

-- the trips of a DO, from its body
module _ (names : List (List ℕ)) (b : Part) (f : List ℕ → Summary) (o : List ℕ → Option ℕ) (variables : List (List ℕ)) (y : List ℕ) (k : IsPart names b f o variables) (v : List Bool) (at_y : IsRowOf names v (y ∷ [])) (wide : length v ≡ length names) where
  pub trips_loose : (r : List Bool) → r ≡ without b.loose v → (x : List ℕ) (i : ℕ) → place_of names x ≡ Some i → bit r i ≡ is_some (unless (is_same_text x y) (o x))
  trips_loose r e x i at =
      ap (λ (z : List Bool). bit z i) e ∙ without_at b.loose v i (b.loose_wide ∙ k.width ∙ sym wide)
      ∙ (λ j. k.loose x i at j && not (at_y x i at j)) ∙ unless_some (is_same_text x y) (o x)

  pub trips_indices : (r : List Bool) → r ≡ union v b.indices → (x : List ℕ) (i : ℕ) → place_of names x ≡ Some i → bit r i ≡ is_among x (y ∷ variables)
  trips_indices r e x i at =
      or_at v b.indices r i (wide ∙ sym k.width ∙ sym b.indices_wide) e ∙ (λ j. at_y x i at j || k.indices x i at j) ∙ or_once (is_same_text x y) (is_among x variables)

  pub trips_wide : (w : ℕ) → w ≡ length names → (r s : List Bool) → r ≡ without b.loose v → s ≡ union v b.indices → (length r ≡ w) × (length s ≡ w)
  trips_wide w h r s e g = (less_wide b.loose v r w e (b.loose_wide ∙ k.width ∙ sym h) (wide ∙ sym h), union_wide v b.indices s w g (wide ∙ sym h) (b.indices_wide ∙ k.width ∙ sym h))
