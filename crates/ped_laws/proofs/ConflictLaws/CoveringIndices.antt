-- Where a place tells the value of a DO variable: the cell belongs to the iteration of that DO, or of a PARALLEL DO round it, as far as there is one.
use Rattle.std.proofs.Common.{◌≡◌, ℕ, ℤ, List, [], ◌∷◌, ◌++◌, Bool, true, false, refl, sym, ap, ◌∙◌, subst, Some, if◌then◌else◌}
use Rattle.std.specs.Prelude.{◌==◌}
use Rattle.std.proofs.lemmas.Bool.{both_ways, and_parts}
use Rattle.std.proofs.lemmas.List.{append_assoc, append-nil, map-append}
use Rattle.ped_flow.specs.ped_base.specs.Lists.{is_same_text, is_among}
use Rattle.ped_flow.specs.ped_tree.specs.Tree.{Head, StmtTrees, Do, ProgramTree}
use Rattle.ped_flow.specs.ped_tree.specs.Numbering.{statement_with}
use Rattle.ped_eval.specs.ped_store.specs.Cells.{Cell, Scalar, Element, Private, In, Out, Iteration}
use Rattle.ped_eval.specs.ped_store.specs.Acts.{Turn, iterations_of}
use Rattle.ped_eval.specs.ped_store.specs.Races.{are_apart}
use Rattle.ped_eval.specs.Scopes.{Frame, Scope, turns_of, cell_of, index_value}
use Rattle.ped_laws.specs.Runs.Touching.{HasCopies}
use Rattle.ped_laws.proofs.RunLaws.Turning.{Front, At, NoneParallel, Covers, Owned, cell_owned}
use Rattle.ped_laws.proofs.CoveringLaws.Texts.{text_is}
use Rattle.ped_laws.proofs.ConflictLaws.CoveringDirections.{same_numbers, numbers_are}
use Rattle.ped_laws.proofs.ConflictLaws.CoveringCells.{name_in, name_of_scalar, iteration_of}

-- the iterations of a copy are the outer ones of these as far as there is a PARALLEL DO, or all of these and further ones
abbrev Through : List Turn → List Iteration → Type 0
Through [] path = Unit {0}
Through (t ∷ ts) [] = NoneParallel (t ∷ ts)
Through (t ∷ ts) (i ∷ path) = (i.number ≡ t.number) × Through ts path

-- a cell of a scalar, which belongs to the innermost of these iterations that is of a PARALLEL DO, or to one further in
abbrev pub Near : List Turn → Cell → Type 0
Near ts (Scalar x) = NoneParallel ts
Near ts (Private x path) = Through ts path
Near ts (Element x js) = ⊥
Near ts In = ⊥
Near ts Out = ⊥

covers_through : (ts : List Turn) (path : List Iteration) → Covers ts path → Through ts path
covers_through [] path h = tt
covers_through (t ∷ ts) [] h = h
covers_through (t ∷ ts) (i ∷ path) h = (h.0, covers_through ts path h.1)

itself_through : (ts : List Turn) (more : List Iteration) → Through ts (iterations_of ts ++ more)
itself_through [] more = tt
itself_through (t ∷ ts) more = (refl, itself_through ts more)

owned_near : (ts : List Turn) (scope : Scope) (x : List ℕ) → Owned ts (cell_of scope x) → Near ts (cell_of scope x)
owned_near ts [] x h = h
owned_near ts (f ∷ outer) x h = go (is_among x f.private) h (owned_near ts outer x)
  where
    go : (b : Bool) → Owned ts (if b then Private x (iterations_of (turns_of (f ∷ outer))) else cell_of outer x) → (Owned ts (cell_of outer x) → Near ts (cell_of outer x)) → Near ts (if b then Private x (iterations_of (turns_of (f ∷ outer))) else cell_of outer x)
    go true k more = covers_through ts (iterations_of (turns_of (f ∷ outer))) k
    go false k more = more k

-- iterations of which one is of a DO whose variable names the cell
pub record IsIndexAt (t : ProgramTree) (turns : List Turn) (c : Cell) : Type 0 where
  pub front : List Turn
  pub last : Turn
  pub more : List Turn
  pub round : turns ≡ (front ++ last ∷ []) ++ more
  pub head : Head
  pub body : StmtTrees
  pub stands : statement_with last.statement t ≡ Some (Do head body)
  pub variable : name_in c ≡ head.variable
  pub near : Near (front ++ last ∷ []) c

-- the place tells values of such variables alone
abbrev pub TellsIndices : ProgramTree → Scope → Type 0
TellsIndices t scope = (x : List ℕ) (n : ℤ) → index_value scope x ≡ Some n → IsIndexAt t (turns_of scope) (cell_of scope x)

pub tells_none : (t : ProgramTree) → TellsIndices t []
tells_none t x n e = absurd cc

-- so it does one DO further in
pub tells_more : (t : ProgramTree) (f : Frame) (outer : Scope) (head : Head) (body : StmtTrees) → statement_with f.turn.statement t ≡ Some (Do head body) → f.variable ≡ head.variable → HasCopies (f ∷ outer) head.variable → TellsIndices t outer → TellsIndices t (f ∷ outer)
tells_more t f outer head body stands variable copies tells x n e = go (is_same_text x f.variable) refl e
  where
    further : (b : Bool) → (k : IsIndexAt t (turns_of outer) (cell_of outer x)) → Near (k.front ++ k.last ∷ []) (if b then Private x (iterations_of (turns_of (f ∷ outer))) else cell_of outer x)
    further true k =
        subst (λ (is : List Turn). Through (k.front ++ k.last ∷ []) (iterations_of (is ++ f.turn ∷ []))) (sym k.round)
        (subst (λ (is : List Iteration). Through (k.front ++ k.last ∷ []) is) (sym (ap iterations_of (append_assoc (k.front ++ k.last ∷ []) k.more (f.turn ∷ [])) ∙ map-append iteration_of (k.front ++ k.last ∷ []) (k.more ++ f.turn ∷ [])))
        (itself_through (k.front ++ k.last ∷ []) (iterations_of (k.more ++ f.turn ∷ []))))
    further false k = k.near

    deeper : IsIndexAt t (turns_of outer) (cell_of outer x) → IsIndexAt t (turns_of (f ∷ outer)) (cell_of (f ∷ outer) x)
    deeper k = record {
      front = k.front;
      last = k.last;
      more = k.more ++ f.turn ∷ [];
      round = ap (λ (is : List Turn). is ++ f.turn ∷ []) k.round ∙ append_assoc (k.front ++ k.last ∷ []) k.more (f.turn ∷ []);
      head = k.head;
      body = k.body;
      stands = k.stands;
      variable = name_of_scalar (f ∷ outer) x ∙ sym (name_of_scalar outer x) ∙ k.variable;
      near = further (is_among x f.private) k;
    }

    here : x ≡ f.variable → IsIndexAt t (turns_of (f ∷ outer)) (cell_of (f ∷ outer) x)
    here q = record {
      front = turns_of outer;
      last = f.turn;
      more = [];
      round = sym (append-nil (turns_of (f ∷ outer)));
      head = head;
      body = body;
      stands = stands;
      variable = name_of_scalar (f ∷ outer) x ∙ q ∙ variable;
      near = owned_near (turns_of (f ∷ outer)) (f ∷ outer) x (cell_owned (f ∷ outer) x (subst (λ (y : List ℕ). HasCopies (f ∷ outer) y) (sym (q ∙ variable)) copies));
    }

    go : (b : Bool) → is_same_text x f.variable ≡ b → (if b then Some f.turn.value else index_value outer x) ≡ Some n → IsIndexAt t (turns_of (f ∷ outer)) (cell_of (f ∷ outer) x)
    go true q k = here (text_is x f.variable q)
    go false q k = deeper (tells x n k)

-- iterations at the front that are the same
pub record HasFront (ts us : List Turn) : Type 0 where
  pub front : List Turn
  pub rest : List Turn
  pub is : us ≡ front ++ rest
  pub same : iterations_of front ≡ iterations_of ts

module _ (t u : Turn) (ts us : List Turn) (h : are_apart (t ∷ ts) (u ∷ us) ≡ true) where
  statements : t.statement ≡ u.statement
  statements = numbers_are t.statement u.statement (and_parts (t.statement == u.statement) (if t.number == u.number then are_apart ts us else t.parallel) h).0

  apart_further : t.number ≡ u.number → are_apart ts us ≡ true
  apart_further e =
      sym (ap (λ (b : Bool). if b then are_apart ts us else t.parallel) (same_numbers t.number u.number e))
      ∙ (and_parts (t.statement == u.statement) (if t.number == u.number then are_apart ts us else t.parallel) h).1

  -- iterations of a DO that isn't parallel are the same
  sequential : t.parallel ≡ false → t.number ≡ u.number
  sequential e = go (t.number == u.number) refl (and_parts (t.statement == u.statement) (if t.number == u.number then are_apart ts us else t.parallel) h).1
    where
      go : (b : Bool) → (t.number == u.number) ≡ b → (if b then are_apart ts us else t.parallel) ≡ true → t.number ≡ u.number
      go true q k = numbers_are t.number u.number q
      go false q k = absurd (both_ways t.parallel e k)

more_front : (t u : Turn) (ts us : List Turn) → t.statement ≡ u.statement → t.number ≡ u.number → HasFront ts us → HasFront (t ∷ ts) (u ∷ us)
more_front t u ts us e n k = record {
  front = u ∷ k.front;
  rest = k.rest;
  is = ap (λ (is : List Turn). u ∷ is) k.is;
  same = λ i. record { statement = sym e i; number = sym n i } ∷ k.same i;
}

none_front : (ts more us : List Turn) → are_apart (ts ++ more) us ≡ true → NoneParallel ts → HasFront ts us
none_front [] more us h k = record { front = []; rest = us; is = refl; same = refl }
none_front (t ∷ ts) more [] h k = absurd cc
none_front (t ∷ ts) more (u ∷ us) h k =
    let e = sequential t u (ts ++ more) us h k.0 in
    more_front t u ts us (statements t u (ts ++ more) us h) e (none_front ts more us (apart_further t u (ts ++ more) us h e) k.1)

through_front : (ts more us : List Turn) (path : List Iteration) → are_apart (ts ++ more) us ≡ true → Through ts path → Front path us → HasFront ts us
through_front [] more us path h k f = record { front = []; rest = us; is = refl; same = refl }
through_front (t ∷ ts) more [] path h k f = absurd cc
through_front (t ∷ ts) more (u ∷ us) [] h k f = none_front (t ∷ ts) more (u ∷ us) h k
through_front (t ∷ ts) more (u ∷ us) (i ∷ path) h k f =
    let e : t.number ≡ u.number = sym k.0 ∙ f.0 in
    more_front t u ts us (statements t u (ts ++ more) us h) e (through_front ts more us path (apart_further t u (ts ++ more) us h e) k.1 f.1)

-- in another iteration of a PARALLEL DO that reaches the cell, these iterations are the same
pub near_front : (ts more us : List Turn) (c : Cell) → are_apart (ts ++ more) us ≡ true → Near ts c → At us c → HasFront ts us
near_front ts more us (Scalar x) h k f = none_front ts more us h k
near_front ts more us (Private x path) h k f = through_front ts more us path h k f
near_front ts more us (Element x js) h k f = absurd k
near_front ts more us In h k f = absurd k
near_front ts more us Out h k f = absurd k
