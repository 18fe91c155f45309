-- A sum kept apart: where the statement goes on, the three that come in its place do, and the parts tell the scalar's new value.
use Rattle.std.proofs.Common.{◌≡◌, ℕ, suc, ℤ, ◌+ℤ◌, ◌-ℤ◌, List, [], ◌∷◌, ◌++◌, Bool, true, false, ◌||◌, inl, inr, Option, Some, None, Result, Ok, Err, if◌then◌else◌, refl, sym, ap, subst, ◌∙◌, arith}
use Rattle.std.proofs.lemmas.Int.{ints}
use Rattle.ped_base.specs.declared.arithmetic.faults.Fault.{Fault}
use Rattle.ped_base.specs.Arithmetic.Arithmetic.{sum_of, difference_of}
use Rattle.ped_tree.specs.Constants.NamedConstants.{value_named}
use Rattle.ped_tree.specs.Tree.{ExprTree, Var, Add, Sub, no_exprs, more_exprs}
use Rattle.ped_rules.specs.ped_store.specs.Cells.{Cell, Scalar, same_cell}
use Rattle.ped_rules.specs.ped_store.specs.Stores.{Content, Undefined, Number, Lines, Store, put, number_read, is_storable, storable, outside_bounds, out_of_range}
use Rattle.ped_rules.specs.ped_store.specs.Storage.{is_within}
use Rattle.ped_rules.specs.ped_store.specs.Acts.{Manner, reads, writes, is_told, Touch, Place, did, store_behind}
use Rattle.ped_rules.specs.ped_laws.specs.Acts.Orders.{IsIn}
use Rattle.ped_rules.specs.ped_laws.specs.Acts.Sets.{written_by, writes_to}
use Rattle.ped_rules.specs.ped_laws.proofs.ActLaws.SameCells.{cell_itself}
use Rattle.ped_rules.specs.ped_laws.proofs.ActLaws.Lists.{in_left}
use Rattle.ped_rules.specs.ped_eval.specs.Scopes.{Names}
use Rattle.ped_rules.specs.ped_eval.specs.Evaluation.{Seen, cell_seen, index_seen, Evaluated, having_seen, onward, ◌>>>◌, given, by_number, read_cell, read_index, numbered, number_behind}
use Rattle.ped_rules.specs.ped_eval.specs.Values.{binary, variable_value, name_value, element_cell, value, values, target}
use Rattle.ped_rules.specs.ped_eval.specs.Statements.{Stored, assigned, assignment_touches, write_touch}
use Rattle.ped_rules.specs.ped_eval.specs.Runs.{going, Run, nothing_done, does, on_value, run_assignment}
use Rattle.ped_rules.specs.ped_laws.specs.Runs.Replaying.{act}
use Rattle.ped_rules.specs.ped_laws.proofs.CoveringLaws.Comings.{came, ok_one, within_range}
use Rattle.ped_reduce.specs.Sums.{Sum, plus, minus}
use Rattle.ped_reduce.specs.Lowering.{Partials, at}
use Rattle.ped_reduce.proofs.SumStores.{is_array_of, is_total, is_apart, part}

-- what is added or taken away
abbrev pub operand : Sum → ExprTree
operand (plus e) = e
operand (minus e) = e

-- a number with another added to it, or taken away
abbrev pub changed : Sum → ℤ → ℤ → ℤ
changed (plus e) a m = a +ℤ m
changed (minus e) a m = a -ℤ m

-- each read of a cell and each value that is told is of this kind
abbrev pub AllSeenBy : (Manner → Cell → Type 0) → List Seen → Type 0
AllSeenBy Q [] = Unit {0}
AllSeenBy Q (cell_seen c content ∷ more) = Q reads c × AllSeenBy Q more
AllSeenBy Q (index_seen c v ∷ more) = Q is_told c × AllSeenBy Q more

abbrev pub AllTouchBy : (Manner → Cell → Type 0) → List Touch → Type 0
AllTouchBy Q [] = Unit {0}
AllTouchBy Q (t ∷ ts) = Q t.manner t.cell × AllTouchBy Q ts

module _ (Q : Manner → Cell → Type 0) where
  pub by_append : (xs ys : List Seen) → AllSeenBy Q xs → AllSeenBy Q ys → AllSeenBy Q (xs ++ ys)
  by_append [] ys h k = k
  by_append (cell_seen c content ∷ xs) ys h k = (h.0, by_append xs ys h.1 k)
  by_append (index_seen c v ∷ xs) ys h k = (h.0, by_append xs ys h.1 k)

  pub by_first : (xs ys : List Seen) → AllSeenBy Q (xs ++ ys) → AllSeenBy Q xs
  by_first [] ys h = tt
  by_first (cell_seen c content ∷ xs) ys h = (h.0, by_first xs ys h.1)
  by_first (index_seen c v ∷ xs) ys h = (h.0, by_first xs ys h.1)

  pub by_rest : (xs ys : List Seen) → AllSeenBy Q (xs ++ ys) → AllSeenBy Q ys
  by_rest [] ys h = h
  by_rest (cell_seen c content ∷ xs) ys h = by_rest xs ys h.1
  by_rest (index_seen c v ∷ xs) ys h = by_rest xs ys h.1

  pub touches_append : (xs ys : List Touch) → AllTouchBy Q xs → AllTouchBy Q ys → AllTouchBy Q (xs ++ ys)
  touches_append [] ys h k = k
  touches_append (x ∷ xs) ys h k = (h.0, touches_append xs ys h.1 k)

  pub numbered_by : (n : ℕ) (seen : List Seen) → AllSeenBy Q seen → AllTouchBy Q (numbered n seen)
  numbered_by n [] h = tt
  numbered_by n (cell_seen c content ∷ more) h = (h.0, numbered_by (suc n) more h.1)
  numbered_by n (index_seen c v ∷ more) h = (h.0, numbered_by n more h.1)

  pub touch_in : (ts : List Touch) (t : Touch) → AllTouchBy Q ts → IsIn t ts → Q t.manner t.cell
  touch_in [] t h i = absurd i
  touch_in (x ∷ ts) t h (inl e) = subst (λ (y : Touch). Q y.manner y.cell) (sym e) h.0
  touch_in (x ∷ ts) t h (inr i) = touch_in ts t h.1 i

-- a touch of the cell in this manner is one of these
abbrev pub IsTouched : List Touch → Manner → Cell → Type 0
IsTouched ts m c = (t : Touch) × IsIn t ts × (t.cell ≡ c) × (t.manner ≡ m)

touched_more : (t : Touch) (ts : List Touch) (m : Manner) (c : Cell) → IsTouched ts m c → IsTouched (t ∷ ts) m c
touched_more t ts m c h = (h.0, inr h.1, h.2, h.3)

pub seen_map : (Q R : Manner → Cell → Type 0) → ((m : Manner) (c : Cell) → Q m c → R m c) → (xs : List Seen) → AllSeenBy Q xs → AllSeenBy R xs
seen_map Q R f [] h = tt
seen_map Q R f (cell_seen c content ∷ xs) h = (f reads c h.0, seen_map Q R f xs h.1)
seen_map Q R f (index_seen c v ∷ xs) h = (f is_told c h.0, seen_map Q R f xs h.1)

-- what was seen is touched
seen_touched : (n : ℕ) (xs : List Seen) → AllSeenBy (IsTouched (numbered n xs)) xs
seen_touched n [] = tt
seen_touched n (cell_seen c content ∷ xs) = ((_, inl refl, refl, refl), seen_map (IsTouched (numbered (suc n) xs)) (IsTouched (numbered n (cell_seen c content ∷ xs))) (touched_more _ (numbered (suc n) xs)) xs (seen_touched (suc n) xs))
seen_touched n (index_seen c v ∷ xs) = ((_, inl refl, refl, refl), seen_map (IsTouched (numbered n xs)) (IsTouched (numbered n (index_seen c v ∷ xs))) (touched_more _ (numbered n xs)) xs (seen_touched n xs))

touched_left : (ts us : List Touch) (m : Manner) (c : Cell) → IsTouched ts m c → IsTouched (ts ++ us) m c
touched_left ts us m c h = (h.0, in_left h.0 ts us h.1, h.2, h.3)

-- reads leave the store
pub reads_leave : (seen : List Seen) (n : ℕ) (ts : List Touch) (s : Store) → store_behind (numbered n seen ++ ts) s ≡ store_behind ts s
reads_leave [] n ts s = refl
reads_leave (cell_seen c content ∷ more) n ts s = reads_leave more (suc n) ts s
reads_leave (index_seen c value ∷ more) n ts s = reads_leave more n ts s

written_last : (ts : List Touch) (t : Touch) (c : Cell) → writes_to t c ≡ true → written_by (ts ++ t ∷ []) c ≡ true
written_last [] t c h = ap (λ (b : Bool). b || false) h
written_last (x ∷ ts) t c h = late (writes_to x c) (written_last ts t c h)
  where
    late : (b : Bool) {d : Bool} → d ≡ true → (b || d) ≡ true
    late true e = refl
    late false e = e

-- operations on two numbers, where both have come
pub two_comes : (f : ℤ → ℤ → Result ℤ Fault) (a b : Evaluated ℤ) (x y z : ℤ) → a.result ≡ Ok x → b.result ≡ Ok y → by_number (f x y) ≡ Ok z → binary f a b ≡ record { seen = a.seen ++ (b.seen ++ []); result = Ok z }
two_comes f a b x y z p q r =
    ap (λ (w : Result ℤ ℕ). onward a.seen w (λ u. b >>> λ v. given (by_number (f u v)))) p
    ∙ ap (λ (w : Result ℤ ℕ). having_seen a.seen (onward b.seen w (λ v. given (by_number (f x v))))) q
    ∙ ap (λ (w : Result ℤ ℕ). having_seen a.seen (having_seen b.seen (given w))) r

-- and back
pub record CameOfTwo (f : ℤ → ℤ → Result ℤ Fault) (a b : Evaluated ℤ) (z : ℤ) : Type 0 where
  pub x : ℤ
  pub y : ℤ
  pub first : a.result ≡ Ok x
  pub second : b.result ≡ Ok y
  pub together : by_number (f x y) ≡ Ok z
  pub seen : (binary f a b).seen ≡ a.seen ++ (b.seen ++ [])

two_came : (f : ℤ → ℤ → Result ℤ Fault) (a b : Evaluated ℤ) (z : ℤ) → (binary f a b).result ≡ Ok z → CameOfTwo f a b z
two_came f a b z h =
    let one = came a.seen a.result (λ u. b >>> λ v. given (by_number (f u v))) z h in
    let two = came b.seen b.result (λ v. given (by_number (f one.0 v))) z one.2 in
    record { x = one.0; y = two.0; first = one.1; second = two.1; together = two.2; seen = ap (λ (e : Evaluated ℤ). e.seen) (two_comes f a b one.0 two.0 z one.1 two.1 two.2) }

number_held : (c : Content) (n : ℤ) → number_read c ≡ Ok n → c ≡ Number n
number_held (Number m) n h = ap Number (ok_one m n h)
number_held Undefined n h = absurd cc
number_held (Lines lines) n h = absurd cc

-- what an assignment that goes on has done
pub record CameOfAssignment (g : Names) (place : Place) (left right : ExprTree) (s u : Store) : Type 0 where
  pub stored : Stored
  pub comes : (assigned g left right s).result ≡ Ok stored
  pub acts : (run_assignment g place left right s).acts ≡ act did place (assignment_touches (assigned g left right s).seen stored) ∷ []
  pub behind : u ≡ put stored.cell (Number stored.number) s

going_one : (s u : Store) → going s ≡ going u → s ≡ u
going_one s u e = cc

abbrev store_next : Place → Store → List Seen → Stored → Run
store_next place s seen w = does did place (assignment_touches seen w) nothing_done s

pub assignment_came : (g : Names) (place : Place) (left right : ExprTree) (s u : Store) → (run_assignment g place left right s).ending ≡ going u → CameOfAssignment g place left right s u
assignment_came g place left right s u h = go (assigned g left right s).result refl h
  where
    go : (r : Result Stored ℕ) → (assigned g left right s).result ≡ r → (on_value place (assigned g left right s).seen r (store_next place s)).ending ≡ going u → CameOfAssignment g place left right s u
    go (Ok w) e k = record {
      stored = w;
      comes = e;
      acts = ap (λ (r : Result Stored ℕ). (on_value place (assigned g left right s).seen r (store_next place s)).acts) e;
      behind = sym (going_one (store_behind (assignment_touches (assigned g left right s).seen w) s) u k) ∙ reads_leave (assigned g left right s).seen 1 (write_touch w.cell (Number w.number) (number_behind 1 (assigned g left right s).seen) ∷ []) s;
    }
    go (Err fault) e k = absurd cc

-- a scalar on the left
stored_came : (c : Cell) (z : ℤ) (w : Stored) → (given (Ok c) >>> λ d. given (storable z) >>> λ n. given (Ok (record { cell = d; number = n }))).result ≡ Ok w → (w ≡ record { cell = c; number = z }) × (is_storable z ≡ true)
stored_came c z w h = go (is_storable z) refl h
  where
    go : (b : Bool) → is_storable z ≡ b → (given (Ok c) >>> λ d. given (if b then Ok z else Err out_of_range) >>> λ n. given (Ok (record { cell = d; number = n }))).result ≡ Ok w → (w ≡ record { cell = c; number = z }) × (is_storable z ≡ true)
    go true e k = (sym (ok_one (record { cell = c; number = z }) w k), e)
    go false e k = absurd cc

-- where the DO's variable and the scalars stand for what they do throughout the DO
pub record StandsAt (ps : List Partials) (g : Names) (v : List ℕ) (k : ℤ) (told : Cell) : Type 0 where
  pub plain : value_named g.constants v ≡ None
  pub index : g.index v ≡ Some k
  pub cell : g.cell v ≡ told
  pub variable : (p : Partials) → IsIn p ps → value_named g.constants p.scalar ≡ None
  pub unbound : (p : Partials) → IsIn p ps → g.index p.scalar ≡ None
  pub own : (p : Partials) → IsIn p ps → g.cell p.scalar ≡ Scalar p.scalar
  pub others : (x : List ℕ) → is_total ps x ≡ false → is_apart ps (g.cell x) ≡ false
  pub inside : (p : Partials) (x : List ℕ) → IsIn p ps → is_array_of p x ≡ true → is_within (g.bounds x) (k ∷ []) ≡ true

module _ (ps : List Partials) (g : Names) (v : List ℕ) (k : ℤ) (told : Cell) (stands : StandsAt ps g v k told) where
  -- the elements at the variable
  module _ (p : Partials) (i : IsIn p ps) (x : List ℕ) (own : is_array_of p x ≡ true) (s : Store) where
    subscripts_come : values g (more_exprs (Var v) no_exprs) s ≡ record { seen = index_seen told k ∷ []; result = Ok (k ∷ []) }
    subscripts_come =
        ap (λ (o : Option ℤ). name_value o g v s >>> λ u. given (Ok []) >>> λ us. given (Ok (u ∷ us))) stands.plain
        ∙ ap (λ (o : Option ℤ). variable_value o s (g.cell v) >>> λ u. given (Ok []) >>> λ us. given (Ok (u ∷ us))) stands.index
        ∙ ap (λ (c : Cell). read_index c k >>> λ u. given (Ok []) >>> λ us. given (Ok (u ∷ us))) stands.cell

    cell_comes : element_cell g x (k ∷ []) ≡ Ok (part x k)
    cell_comes = ap (λ (b : Bool). if b then Ok (part x k) else Err outside_bounds) (stands.inside p x i own)

    pub element_comes : value g (at x v) s ≡ record { seen = index_seen told k ∷ (cell_seen (part x k) (s (part x k)) ∷ []); result = number_read (s (part x k)) }
    element_comes =
        ap (λ (a : Evaluated (List ℤ)). a >>> λ js. given (element_cell g x js) >>> read_cell s) subscripts_come
        ∙ ap (λ (r : Result Cell ℕ). having_seen (index_seen told k ∷ []) (given r >>> read_cell s)) cell_comes

    pub target_comes : target g (at x v) s ≡ record { seen = index_seen told k ∷ []; result = Ok (part x k) }
    target_comes =
        ap (λ (a : Evaluated (List ℤ)). a >>> λ js. given (element_cell g x js)) subscripts_come
        ∙ ap (λ (r : Result Cell ℕ). having_seen (index_seen told k ∷ []) (given r)) cell_comes

    -- a number is stored there
    stored_there : (right : ExprTree) (z : ℤ) → (value g right s).result ≡ Ok z → is_storable z ≡ true → assigned g (at x v) right s ≡ record { seen = (value g right s).seen ++ (index_seen told k ∷ []); result = Ok (record { cell = part x k; number = z }) }
    stored_there right z comes small =
        ap (λ (r : Result ℤ ℕ). onward (value g right s).seen r (λ n. target g (at x v) s >>> λ c. given (storable n) >>> λ m. given (Ok (record { cell = c; number = m })))) comes
        ∙ ap (λ (a : Evaluated Cell). having_seen (value g right s).seen (a >>> λ c. given (storable z) >>> λ m. given (Ok (record { cell = c; number = m })))) target_comes
        ∙ ap (λ (b : Bool). having_seen (value g right s).seen (having_seen (index_seen told k ∷ []) (given (if b then Ok z else Err out_of_range) >>> λ m. given (Ok (record { cell = part x k; number = m }))))) small

    module _ (Q : Manner → Cell → Type 0) (tells : Q is_told told) (touches : (m : Manner) → Q m (part x k)) where
      -- the run of such an assignment
      pub record RunOfPart (r : Run) (z : ℤ) (place : Place) : Type 0 where
        pub touched : List Touch
        pub acts : r.acts ≡ act did place touched ∷ []
        pub by : AllTouchBy Q touched
        pub ending : r.ending ≡ going (put (part x k) (Number z) s)

      pub part_runs : (right : ExprTree) (z : ℤ) (place : Place) → (value g right s).result ≡ Ok z → AllSeenBy Q (value g right s).seen → is_storable z ≡ true → RunOfPart (run_assignment g place (at x v) right s) z place
      part_runs right z place comes by small =
          let seen = (value g right s).seen ++ (index_seen told k ∷ []) in
          let w : Stored = record { cell = part x k; number = z } in
          let last = write_touch (part x k) (Number z) (number_behind 1 seen) in
          let all = by_append Q (value g right s).seen (index_seen told k ∷ []) by (tells, tt) in
          let is : run_assignment g place (at x v) right s ≡ does did place (assignment_touches seen w) nothing_done s =
          ap (λ (e : Evaluated Stored). on_value place e.seen e.result (λ seen w. does did place (assignment_touches seen w) nothing_done s)) (stored_there right z comes small) in
          record {
            touched = assignment_touches seen w;
            acts = ap (λ (r : Run). r.acts) is;
            by = touches_append Q (numbered 1 seen) (last ∷ []) (numbered_by Q 1 seen all) (touches writes, tt);
            ending = ap (λ (r : Run). r.ending) is ∙ ap going (reads_leave seen 1 (last ∷ []) s);
          }

  -- the scalar is read from its own cell
  pub scalar_comes : (p : Partials) → IsIn p ps → (s : Store) → value g (Var p.scalar) s ≡ read_cell s (Scalar p.scalar)
  scalar_comes p i s =
      ap (λ (o : Option ℤ). name_value o g p.scalar s) (stands.variable p i)
      ∙ ap (λ (o : Option ℤ). variable_value o s (g.cell p.scalar)) (stands.unbound p i)
      ∙ ap (λ (c : Cell). read_cell s c) (stands.own p i)

  -- what a sum that goes on has done: the scalar holds y and gets z, where its operand comes to m; it touches what the operand sees, and writes the scalar
  pub record CameOfSum (p : Partials) (sum : Sum) (place : Place) (r : Run) (s u : Store) : Type 0 where
    pub y : ℤ
    pub m : ℤ
    pub held : s (Scalar p.scalar) ≡ Number y
    pub comes : (value g (operand sum) s).result ≡ Ok m
    pub stored : is_storable (changed sum y m) ≡ true
    pub behind : u ≡ put (Scalar p.scalar) (Number (changed sum y m)) s
    pub touches : List Touch
    pub acts : r.acts ≡ act did place touches ∷ []
    pub sees : AllSeenBy (IsTouched touches) (value g (operand sum) s).seen
    pub writes_it : written_by touches (Scalar p.scalar) ≡ true

  module _ (p : Partials) (i : IsIn p ps) (place : Place) (s u : Store) where
    -- by the value of the right side, whose seen cells are those of the operand and more
    by_value : (sum : Sum) (right : ExprTree) (y m : ℤ) → s (Scalar p.scalar) ≡ Number y → (value g (operand sum) s).result ≡ Ok m → (value g right s).result ≡ Ok (changed sum y m)
        → ((Q : Manner → Cell → Type 0) → AllSeenBy Q (value g right s).seen → AllSeenBy Q (value g (operand sum) s).seen)
        → (run_assignment g place (Var p.scalar) right s).ending ≡ going u → CameOfSum p sum place (run_assignment g place (Var p.scalar) right s) s u
    by_value sum right y m held comes value_is within h =
        let c = assignment_came g place (Var p.scalar) right s u h in
        let seen = (assigned g (Var p.scalar) right s).seen in
        let z = changed sum y m in
        let next = λ (n : ℤ). given (Ok (g.cell p.scalar)) >>> λ d. given (storable n) >>> λ o. given (Ok (record { cell = d; number = o })) in
        let came_to : (next z).result ≡ Ok c.stored = ap (λ (r : Result ℤ ℕ). (onward (value g right s).seen r next).result) (sym value_is) ∙ c.comes in
        let stored = stored_came (g.cell p.scalar) z c.stored came_to in
        let is : c.stored ≡ record { cell = Scalar p.scalar; number = z } = stored.0 ∙ ap (λ (d : Cell). record { cell = d; number = z }) (stands.own p i) in
        let last = write_touch c.stored.cell (Number c.stored.number) (number_behind 1 seen) in
        let more : AllSeenBy (IsTouched (numbered 1 seen)) (value g right s).seen = by_first (IsTouched (numbered 1 seen)) (value g right s).seen (next z).seen
        (subst (AllSeenBy (IsTouched (numbered 1 seen))) (ap (λ (r : Result ℤ ℕ). (onward (value g right s).seen r next).seen) value_is) (seen_touched 1 seen)) in
        record {
          y = y;
          m = m;
          held = held;
          comes = comes;
          stored = stored.1;
          behind = c.behind ∙ ap (λ (w : Stored). put w.cell (Number w.number) s) is;
          touches = assignment_touches seen c.stored;
          acts = c.acts;
          sees = seen_map (IsTouched (numbered 1 seen)) (IsTouched (numbered 1 seen ++ last ∷ [])) (touched_left (numbered 1 seen) (last ∷ [])) (value g (operand sum) s).seen (within (IsTouched (numbered 1 seen)) more);
          writes_it = written_last (numbered 1 seen) last (Scalar p.scalar) (ap (λ (w : Stored). same_cell w.cell (Scalar p.scalar)) is ∙ cell_itself (Scalar p.scalar));
        }

    right_comes : (right : ExprTree) → (run_assignment g place (Var p.scalar) right s).ending ≡ going u → (z : ℤ) × ((value g right s).result ≡ Ok z)
    right_comes right h =
        let c = assignment_came g place (Var p.scalar) right s u h in
        let one = came (value g right s).seen (value g right s).result (λ n. given (Ok (g.cell p.scalar)) >>> λ d. given (storable n) >>> λ o. given (Ok (record { cell = d; number = o }))) c.stored c.comes in
        (one.0, one.1)

    held_by : (y : ℤ) → (value g (Var p.scalar) s).result ≡ Ok y → s (Scalar p.scalar) ≡ Number y
    held_by y h = number_held (s (Scalar p.scalar)) y (ap (λ (e : Evaluated ℤ). e.result) (sym (scalar_comes p i s)) ∙ h)

    pub scalar_first : (e : ExprTree) → (run_assignment g place (Var p.scalar) (Add (Var p.scalar) e) s).ending ≡ going u → CameOfSum p (plus e) place (run_assignment g place (Var p.scalar) (Add (Var p.scalar) e) s) s u
    scalar_first e h =
        let z = right_comes (Add (Var p.scalar) e) h in
        let two = two_came sum_of (value g (Var p.scalar) s) (value g e s) z.0 z.1 in
        by_value (plus e) (Add (Var p.scalar) e) two.x two.y (held_by two.x two.first) two.second (z.1 ∙ ap Ok (sym (within_range (two.x +ℤ two.y) z.0 two.together)))
        (λ Q all. by_first Q (value g e s).seen [] (by_rest Q (value g (Var p.scalar) s).seen ((value g e s).seen ++ []) (subst (AllSeenBy Q) two.seen all))) h

    pub scalar_last : (e : ExprTree) → (run_assignment g place (Var p.scalar) (Add e (Var p.scalar)) s).ending ≡ going u → CameOfSum p (plus e) place (run_assignment g place (Var p.scalar) (Add e (Var p.scalar)) s) s u
    scalar_last e h =
        let z = right_comes (Add e (Var p.scalar)) h in
        let two = two_came sum_of (value g e s) (value g (Var p.scalar) s) z.0 z.1 in
        let turned : two.x +ℤ two.y ≡ two.y +ℤ two.x = omega (arith, ints) in
        by_value (plus e) (Add e (Var p.scalar)) two.y two.x (held_by two.y two.second) two.first (z.1 ∙ ap Ok (sym (within_range (two.x +ℤ two.y) z.0 two.together) ∙ turned))
        (λ Q all. by_first Q (value g e s).seen ((value g (Var p.scalar) s).seen ++ []) (subst (AllSeenBy Q) two.seen all)) h

    pub taken_away : (e : ExprTree) → (run_assignment g place (Var p.scalar) (Sub (Var p.scalar) e) s).ending ≡ going u → CameOfSum p (minus e) place (run_assignment g place (Var p.scalar) (Sub (Var p.scalar) e) s) s u
    taken_away e h =
        let z = right_comes (Sub (Var p.scalar) e) h in
        let two = two_came difference_of (value g (Var p.scalar) s) (value g e s) z.0 z.1 in
        by_value (minus e) (Sub (Var p.scalar) e) two.x two.y (held_by two.x two.first) two.second (z.1 ∙ ap Ok (sym (within_range (two.x -ℤ two.y) z.0 two.together)))
        (λ Q all. by_first Q (value g e s).seen [] (by_rest Q (value g (Var p.scalar) s).seen ((value g e s).seen ++ []) (subst (AllSeenBy Q) two.seen all))) h
