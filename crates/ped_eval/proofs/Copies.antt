-- What the making and the dropping of private copies do to what is kept.
use Rattle.std.proofs.Common.{◌≡◌, ℕ, ◌+◌, ◌<◌, List, [], ◌∷◌, ◌++◌, length, Bool, true, false, ◌&&◌, ◌||◌, if◌then◌else◌, eqb, eqb-true, ltb, refl, sym, ap, ◌∙◌, arith, length-append}
use Rattle.std.proofs.lemmas.List.{length-map}
use Rattle.std.proofs.lemmas.Bool.{and_parts, ltb-true, lt-ltb}
use Rattle.std.specs.List.{list_all, list_any}
use Rattle.std.specs.Cmp.Lexicographic.{pointwise}
use Rattle.ped_base.specs.Lists.{is_same_text, is_among}
use Rattle.ped_base.proofs.NameEquality.{same_is, same_itself}
use Rattle.ped_store.specs.Cells.{Cell, Scalar, Element, Private, In, Out, Iteration, same_iteration, same_cell}
use Rattle.ped_store.specs.Stores.{Undefined, Store}
use Rattle.ped_store.specs.Memories.{Memory, with_copy, without_copy}
use Rattle.ped_eval.specs.Scopes.{Frame, Scope, cell_of, turns_of}
use Rattle.ped_eval.specs.Agreement.{path_of, before, before_turn, is_copy, IsSame, Agrees, DoCopiesStand}
use Rattle.ped_eval.specs.Turns.{with_copies, without_copies}
use Rattle.ped_eval.proofs.Moments.{itself, into_turn, own_copies, next_turn}
use Rattle.ped_eval.proofs.Agreements.{other_copy, fresh_later}

-- the cell is that of one of these names
abbrev pub is_cell_of : Scope → List (List ℕ) → Cell → Bool
is_cell_of scope xs d = list_any (λ x. same_cell (cell_of scope x) d) xs

one_or : {A : Type 0} (a b : Bool) (u v : A) → (if b then u else (if a then u else v)) ≡ (if a || b then u else v)
one_or true true u v = refl
one_or true false u v = refl
one_or false true u v = refl
one_or false false u v = refl

pub opened_cells : (scope : Scope) (xs : List (List ℕ)) (m : Memory) (d : Cell) → (with_copies scope xs m).cells d ≡ (if is_cell_of scope xs d then Undefined else m.cells d)
opened_cells scope [] m d = refl
opened_cells scope (x ∷ xs) m d = opened_cells scope xs (with_copy (cell_of scope x) m) d ∙ one_or (same_cell (cell_of scope x) d) (is_cell_of scope xs d) Undefined (m.cells d)

pub closed_cells : (scope : Scope) (xs : List (List ℕ)) (m : Memory) (d : Cell) → (without_copies scope xs m).cells d ≡ (if is_cell_of scope xs d then Undefined else m.cells d)
closed_cells scope [] m d = refl
closed_cells scope (x ∷ xs) m d = closed_cells scope xs (without_copy (cell_of scope x) m) d ∙ one_or (same_cell (cell_of scope x) d) (is_cell_of scope xs d) Undefined (m.cells d)

pub opened_stands : (scope : Scope) (xs : List (List ℕ)) (m : Memory) (d : Cell) → (with_copies scope xs m).stands d ≡ (if is_cell_of scope xs d then true else m.stands d)
opened_stands scope [] m d = refl
opened_stands scope (x ∷ xs) m d = opened_stands scope xs (with_copy (cell_of scope x) m) d ∙ one_or (same_cell (cell_of scope x) d) (is_cell_of scope xs d) true (m.stands d)

pub closed_stands : (scope : Scope) (xs : List (List ℕ)) (m : Memory) (d : Cell) → (without_copies scope xs m).stands d ≡ (if is_cell_of scope xs d then false else m.stands d)
closed_stands scope [] m d = refl
closed_stands scope (x ∷ xs) m d = closed_stands scope xs (without_copy (cell_of scope x) m) d ∙ one_or (same_cell (cell_of scope x) d) (is_cell_of scope xs d) false (m.stands d)

pub opened_bounds : (scope : Scope) (xs : List (List ℕ)) (m : Memory) → (with_copies scope xs m).bounds ≡ m.bounds
opened_bounds scope [] m = refl
opened_bounds scope (x ∷ xs) m = opened_bounds scope xs (with_copy (cell_of scope x) m)

pub closed_bounds : (scope : Scope) (xs : List (List ℕ)) (m : Memory) → (without_copies scope xs m).bounds ≡ m.bounds
closed_bounds scope [] m = refl
closed_bounds scope (x ∷ xs) m = closed_bounds scope xs (without_copy (cell_of scope x) m)

same_path : (p : List Iteration) → pointwise same_iteration p p ≡ true
same_path [] = refl
same_path (i ∷ p) = (λ z. (itself i.statement z && itself i.number z) && same_path p z)

-- a copy is the same as itself
pub own_copy : (x : List ℕ) (p : List Iteration) → same_cell (Private x p) (Private x p) ≡ true
own_copy x p = λ z. same_itself x z && same_path p z

-- all of these names are among those
abbrev pub AreAmong : List (List ℕ) → List (List ℕ) → Type 0
AreAmong xs ys = list_all (λ x. is_among x ys) xs ≡ true

more_among : (x y : List ℕ) (ys : List (List ℕ)) → is_among x ys ≡ true → is_among x (y ∷ ys) ≡ true
more_among x y ys h = by (is_same_text x y)
  where
    by : (b : Bool) → (b || is_among x ys) ≡ true
    by true = refl
    by false = h

each_among : (xs zs : List (List ℕ)) → ((x : List ℕ) → is_among x xs ≡ true → is_among x zs ≡ true) → AreAmong xs zs
each_among [] zs h = refl
each_among (x ∷ xs) zs h =
    let own : is_among x (x ∷ xs) ≡ true = ap (λ b. b || is_among x xs) (same_itself x) in
    λ i. h x own i && each_among xs zs (λ y k. h y (more_among y x xs k)) i

pub all_among : (xs : List (List ℕ)) → AreAmong xs xs
all_among xs = each_among xs xs (λ x h. h)

or_true : (b : Bool) → (b || true) ≡ true
or_true true = refl
or_true false = refl

module _ (f : Frame) (fs : Scope) where
  -- a name that is private to the iteration stands for its copy
  pub private_cell : (x : List ℕ) → is_among x f.private ≡ true → cell_of (f ∷ fs) x ≡ Private x (path_of (f ∷ fs))
  private_cell x h = ap (λ b. if b then Private x (path_of (f ∷ fs)) else cell_of fs x) h

  -- all of these names stand for private copies
  pub all_copies : (xs : List (List ℕ)) → AreAmong xs f.private → list_all (λ x. is_copy (cell_of (f ∷ fs) x)) xs ≡ true
  all_copies [] h = refl
  all_copies (x ∷ xs) h =
      let p = and_parts (is_among x f.private) (list_all (λ y. is_among y f.private) xs) h in
      λ i. is_copy (private_cell x p.0 i) && all_copies xs p.1 i

  own_by : (x y : List ℕ) (b c : Bool) → is_same_text y x ≡ b → is_among x f.private ≡ true → (b ≡ false → c ≡ true) → (same_cell (cell_of (f ∷ fs) x) (Private y (path_of (f ∷ fs))) || c) ≡ true
  own_by x y true c e h k =
      ap (λ d. same_cell d (Private y (path_of (f ∷ fs))) || c) (private_cell x h)
      ∙ ap (λ z. same_cell (Private x (path_of (f ∷ fs))) (Private z (path_of (f ∷ fs))) || c) (same_is y x e)
      ∙ ap (λ b. b || c) (own_copy x (path_of (f ∷ fs)))
  own_by x y false c e h k =
      ap (λ b. same_cell (cell_of (f ∷ fs) x) (Private y (path_of (f ∷ fs))) || b) (k refl) ∙ or_true (same_cell (cell_of (f ∷ fs) x) (Private y (path_of (f ∷ fs))))

  pub own_cell : (xs : List (List ℕ)) → AreAmong xs f.private → (y : List ℕ) → is_among y xs ≡ true → is_cell_of (f ∷ fs) xs (Private y (path_of (f ∷ fs))) ≡ true
  own_cell [] h y k = absurd cc
  own_cell (x ∷ xs) h y k =
      let p = and_parts (is_among x f.private) (list_all (λ z. is_among z f.private) xs) h in
      own_by x y (is_same_text y x) (is_cell_of (f ∷ fs) xs (Private y (path_of (f ∷ fs)))) refl p.0
      (λ e. own_cell xs p.1 y (sym (ap (λ b. b || is_among y xs) e) ∙ k))

-- a cell that isn't a private copy, or the copy of an iteration with fewer than so many round it and its own
abbrev pub is_shallow : ℕ → Cell → Bool
is_shallow n (Scalar x) = true
is_shallow n (Element x js) = true
is_shallow n (Private x path) = ltb (length path) n
is_shallow n In = true
is_shallow n Out = true

pub turns_length : (gs : Scope) → length (turns_of gs) ≡ length gs
turns_length [] = refl
turns_length (f ∷ fs) =
    let h : length (turns_of fs) ≡ length fs = turns_length fs in
    let k : length (turns_of fs ++ f.turn ∷ []) ≡ length (turns_of fs) + 1 = length-append (turns_of fs) (f.turn ∷ []) in
    omega (arith, h, k)

pub path_length : (fs : Scope) → length (path_of fs) ≡ length fs
path_length fs = length-map (turns_of fs) _ ∙ turns_length fs

-- what holds the same in all shallow cells does so for the iterations outside
pub same_shallow : (gs : Scope) (n : ℕ) (u v s : Store) → length gs < n → ((d : Cell) → is_shallow n d ≡ true → u d ≡ v d) → IsSame gs v s → IsSame gs u s
same_shallow [] n u v s h k same = λ d e. outside d e
  where
    outside : (d : Cell) → is_copy d ≡ false → u d ≡ s d
    outside (Scalar x) e = k (Scalar x) refl ∙ same (Scalar x) refl
    outside (Element x js) e = k (Element x js) refl ∙ same (Element x js) refl
    outside (Private x path) e = absurd cc
    outside In e = k In refl ∙ same In refl
    outside Out e = k Out refl ∙ same Out refl
same_shallow (g ∷ gs) n u v s h k same = (
  λ x e. k (Private x (path_of (g ∷ gs))) (lt-ltb (length (path_of (g ∷ gs))) n (omega (arith, h, path_length (g ∷ gs)))) ∙ same.0 x e,
  same_shallow gs n u v s (omega (arith, h)) k same.1,
)

pub stands_shallow : (gs : Scope) (n : ℕ) (p q : Cell → Bool) → length gs < n → ((d : Cell) → is_shallow n d ≡ true → p d ≡ q d) → DoCopiesStand gs q → DoCopiesStand gs p
stands_shallow [] n p q h k stand = tt
stands_shallow (g ∷ gs) n p q h k stand = (
  λ x e. k (Private x (path_of (g ∷ gs))) (lt-ltb (length (path_of (g ∷ gs))) n (omega (arith, h, path_length (g ∷ gs)))) ∙ stand.0 x e,
  stands_shallow gs n p q (omega (arith, h)) k stand.1,
)

other_shallow : (x : List ℕ) (path : List Iteration) (d : Cell) → is_shallow (length path) d ≡ true → same_cell (Private x path) d ≡ false
other_shallow x path (Scalar y) h = refl
other_shallow x path (Element y js) h = refl
other_shallow x path (Private y q) h = other_copy x y path q (λ e. absurd (less_self (ap length e) (ltb-true (length q) (length path) h)))
  where
    less_self : {m n : ℕ} → m ≡ n → n < m → ⊥
    less_self e h = omega (arith, e, h)
other_shallow x path In h = refl
other_shallow x path Out h = refl

module _ (f : Frame) (fs : Scope) where
  no_cell : (xs : List (List ℕ)) → AreAmong xs f.private → (d : Cell) → is_shallow (length (path_of (f ∷ fs))) d ≡ true → is_cell_of (f ∷ fs) xs d ≡ false
  no_cell [] h d k = refl
  no_cell (x ∷ xs) h d k =
      let p = and_parts (is_among x f.private) (list_all (λ z. is_among z f.private) xs) h in
      (λ i. same_cell (private_cell f fs x p.0 i) d || is_cell_of (f ∷ fs) xs d)
      ∙ (λ i. other_shallow x (path_of (f ∷ fs)) d k i || no_cell xs p.1 d k i)

  inside_less : length fs < length (path_of (f ∷ fs))
  inside_less = omega (arith, path_length (f ∷ fs))

  module _ (m : Memory) where
    open_cell : (d : Cell) → is_shallow (length (path_of (f ∷ fs))) d ≡ true → (with_copies (f ∷ fs) f.private m).cells d ≡ m.cells d
    open_cell d h = opened_cells (f ∷ fs) f.private m d ∙ ap (λ b. if b then Undefined else m.cells d) (no_cell f.private (all_among f.private) d h)

    close_cell : (d : Cell) → is_shallow (length (path_of (f ∷ fs))) d ≡ true → (without_copies (f ∷ fs) f.private m).cells d ≡ m.cells d
    close_cell d h = closed_cells (f ∷ fs) f.private m d ∙ ap (λ b. if b then Undefined else m.cells d) (no_cell f.private (all_among f.private) d h)

    pub open_stand : (d : Cell) → is_shallow (length (path_of (f ∷ fs))) d ≡ true → (with_copies (f ∷ fs) f.private m).stands d ≡ m.stands d
    open_stand d h = opened_stands (f ∷ fs) f.private m d ∙ ap (λ b. if b then true else m.stands d) (no_cell f.private (all_among f.private) d h)

    pub close_stand : (d : Cell) → is_shallow (length (path_of (f ∷ fs))) d ≡ true → (without_copies (f ∷ fs) f.private m).stands d ≡ m.stands d
    close_stand d h = closed_stands (f ∷ fs) f.private m d ∙ ap (λ b. if b then false else m.stands d) (no_cell f.private (all_among f.private) d h)

    -- at the start of an iteration, whose copies are made
    pub open_agrees : (n : ℕ) (s : Store) → Agrees fs (before_turn fs f.turn.statement f.turn.number) m.cells s → Agrees (f ∷ fs) (before (f ∷ fs) n) (with_copies (f ∷ fs) f.private m).cells s
    open_agrees n s g = record {
      same = (
        λ x h.
            opened_cells (f ∷ fs) f.private m (Private x (path_of (f ∷ fs)))
            ∙ ap (λ b. if b then Undefined else m.cells (Private x (path_of (f ∷ fs)))) (own_cell f fs f.private (all_among f.private) x h)
            ∙ sym (g.fresh x (path_of (f ∷ fs)) (own_copies f fs)),
        same_shallow fs (length (path_of (f ∷ fs))) _ m.cells s inside_less open_cell g.same,
      );
      fresh = fresh_later (before_turn fs f.turn.statement f.turn.number) (before (f ∷ fs) n) s (into_turn f fs n) g.fresh;
    }

    -- behind an iteration, whose copies are dropped
    pub close_agrees : (n : ℕ) (s : Store) → Agrees (f ∷ fs) (before (f ∷ fs) n) m.cells s → Agrees fs (before_turn fs f.turn.statement (f.turn.number + 1)) (without_copies (f ∷ fs) f.private m).cells s
    close_agrees n s g = record {
      same = same_shallow fs (length (path_of (f ∷ fs))) _ m.cells s inside_less close_cell g.same.1;
      fresh = fresh_later (before (f ∷ fs) n) (before_turn fs f.turn.statement (f.turn.number + 1)) s (next_turn f fs n) g.fresh;
    }

    pub open_copies_stand : DoCopiesStand fs m.stands → DoCopiesStand (f ∷ fs) (with_copies (f ∷ fs) f.private m).stands
    open_copies_stand h = (
      λ x k.
          opened_stands (f ∷ fs) f.private m (Private x (path_of (f ∷ fs)))
          ∙ ap (λ b. if b then true else m.stands (Private x (path_of (f ∷ fs)))) (own_cell f fs f.private (all_among f.private) x k),
      stands_shallow fs (length (path_of (f ∷ fs))) _ m.stands inside_less open_stand h,
    )

    pub close_copies_stand : DoCopiesStand (f ∷ fs) m.stands → DoCopiesStand fs (without_copies (f ∷ fs) f.private m).stands
    close_copies_stand h = stands_shallow fs (length (path_of (f ∷ fs))) _ m.stands inside_less close_stand h.1
