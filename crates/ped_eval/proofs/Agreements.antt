-- What writes and a later moment leave of the agreement between what is kept and the store of a run.
use Rattle.std.proofs.Common.{subst, not, ◌≡◌, ℕ, ℤ, List, [], ◌∷◌, ◌++◌, Bool, true, false, if◌then◌else◌, eqb, eqb-true, refl, sym, ap, ◌∙◌, append_assoc}
use Rattle.std.proofs.lemmas.Bool.{and_parts}
use Rattle.std.specs.Cmp.Lexicographic.{pointwise}
use Rattle.ped_base.specs.Lists.{is_same_text, is_among}
use Rattle.ped_store.specs.Cells.{Cell, Scalar, Element, Private, In, Out, Iteration, same_iteration, same_cell}
use Rattle.ped_store.specs.Stores.{Content, Store, put}
use Rattle.ped_eval.specs.Scopes.{Frame, Scope, cell_of}
use Rattle.ped_eval.specs.Agreement.{path_of, row_of, is_ahead, before, IsFresh, IsSameOutside, IsSame, Agrees}
use Rattle.ped_eval.proofs.Moments.{later, front_behind, row_inside}

-- a later moment has fewer iterations ahead
pub fresh_later : (a b : List ℕ) (s : Store) → is_ahead a b ≡ true → IsFresh a s → IsFresh b s
fresh_later a b s h fresh x path ahead = fresh x path (later a b (row_of path) h ahead)

pub agrees_later : (scope : Scope) (a b : List ℕ) (u s : Store) → is_ahead a b ≡ true → Agrees scope a u s → Agrees scope b u s
agrees_later scope a b u s h g = record { same = g.same; fresh = fresh_later a b s h g.fresh }

-- outside of private copies both hold the same in all iterations
pub outside_same : (scope : Scope) (u s : Store) → IsSame scope u s → IsSameOutside u s
outside_same [] u s h = h
outside_same (f ∷ fs) u s h = outside_same fs u s h.1

same_by : (f : Frame) (fs : Scope) (x : List ℕ) (u s : Store) (b : Bool) → is_among x f.private ≡ b → IsSame (f ∷ fs) u s → u (cell_of fs x) ≡ s (cell_of fs x)
    → u (if b then Private x (path_of (f ∷ fs)) else cell_of fs x) ≡ s (if b then Private x (path_of (f ∷ fs)) else cell_of fs x)
same_by f fs x u s true e h k = h.0 x e
same_by f fs x u s false e h k = k

-- both hold the same in the cell of a scalar
pub scalar_same : (scope : Scope) (x : List ℕ) (u s : Store) → IsSame scope u s → u (cell_of scope x) ≡ s (cell_of scope x)
scalar_same [] x u s h = h (Scalar x) refl
scalar_same (f ∷ fs) x u s h = same_by f fs x u s (is_among x f.private) refl h (scalar_same fs x u s h.1)

pub element_same : (scope : Scope) (x : List ℕ) (js : List ℤ) (u s : Store) → IsSame scope u s → u (Element x js) ≡ s (Element x js)
element_same scope x js u s h = outside_same scope u s h (Element x js) refl

put_same : (c d : Cell) (v : Content) (u s : Store) → u d ≡ s d → put c v u d ≡ put c v s d
put_same c d v u s h = ap (λ (w : Content). if same_cell c d then v else w) h

-- a write into both leaves them the same
pub same_put : (scope : Scope) (c : Cell) (v : Content) (u s : Store) → IsSame scope u s → IsSame scope (put c v u) (put c v s)
same_put [] c v u s h = λ d k. put_same c d v u s (h d k)
same_put (f ∷ fs) c v u s h = (λ x k. put_same c (Private x (path_of (f ∷ fs))) v u s (h.0 x k), same_put fs c v u s h.1)

-- a cell that isn't ahead of a moment: no private copy, or one of an earlier iteration
abbrev pub is_past : List ℕ → Cell → Bool
is_past moment (Scalar x) = true
is_past moment (Element x js) = true
is_past moment (Private x path) = not (is_ahead moment (row_of path))
is_past moment In = true
is_past moment Out = true

pub same_iterations : (xs ys : List Iteration) → pointwise same_iteration xs ys ≡ true → xs ≡ ys
same_iterations [] [] h = refl
same_iterations [] (y ∷ ys) h = absurd cc
same_iterations (x ∷ xs) [] h = absurd cc
same_iterations (x ∷ xs) (y ∷ ys) h =
    let p = and_parts (same_iteration x y) (pointwise same_iteration xs ys) h in
    let q = and_parts (eqb x.statement y.statement) (eqb x.number y.number) p.0 in
    let s = eqb-true x.statement y.statement q.0 in
    let n = eqb-true x.number y.number q.1 in
    let r = same_iterations xs ys p.1 in
    λ i. record { statement = s i; number = n i } ∷ r i

-- copies of different iterations are different
pub other_copy : (x y : List ℕ) (p q : List Iteration) → (p ≡ q → ⊥) → same_cell (Private x p) (Private y q) ≡ false
other_copy x y p q h = by (same_cell (Private x p) (Private y q)) refl
  where
    by : (b : Bool) → same_cell (Private x p) (Private y q) ≡ b → b ≡ false
    by true e = absurd (h (same_iterations p q (and_parts (is_same_text x y) (pointwise same_iteration p q) e).1))
    by false e = refl

-- a past cell is no copy that is ahead
pub past_other : (moment : List ℕ) (c : Cell) (x : List ℕ) (path : List Iteration) → is_past moment c ≡ true → is_ahead moment (row_of path) ≡ true → same_cell c (Private x path) ≡ false
past_other moment (Scalar y) x path h k = refl
past_other moment (Element y js) x path h k = refl
past_other moment (Private y q) x path h k = other_copy y x q path (λ e. absurd (false_true (sym (ap (λ (p : List Iteration). not (is_ahead moment (row_of p))) e ∙ ap not k) ∙ h)))
  where
    false_true : false ≡ true → ⊥
    false_true e = cc
past_other moment In x path h k = refl
past_other moment Out x path h k = refl

-- a write into a past cell leaves all that is ahead undefined
pub fresh_put : (moment : List ℕ) (c : Cell) (v : Content) (s : Store) → is_past moment c ≡ true → IsFresh moment s → IsFresh moment (put c v s)
fresh_put moment c v s h fresh x path ahead =
    ap (λ b. if b then v else s (Private x path)) (past_other moment c x path h ahead) ∙ fresh x path ahead

pub agrees_put : (scope : Scope) (moment : List ℕ) (c : Cell) (v : Content) (u s : Store) → is_past moment c ≡ true → Agrees scope moment u s → Agrees scope moment (put c v u) (put c v s)
agrees_put scope moment c v u s h g = record { same = same_put scope c v u s g.same; fresh = fresh_put moment c v s h g.fresh }

past_by : (f : Frame) (fs : Scope) (x : List ℕ) (moment : List ℕ) (b : Bool) → is_ahead moment (row_of (path_of (f ∷ fs))) ≡ false → is_past moment (cell_of fs x) ≡ true
    → is_past moment (if b then Private x (path_of (f ∷ fs)) else cell_of fs x) ≡ true
past_by f fs x moment true e h = ap not e
past_by f fs x moment false e h = h

pub past_behind : (scope : Scope) (x : List ℕ) (n : ℕ) (more : List ℕ) → is_past (row_of (path_of scope) ++ n ∷ more) (cell_of scope x) ≡ true
past_behind [] x n more = refl
past_behind (f ∷ fs) x n more =
    let e : row_of (path_of (f ∷ fs)) ++ n ∷ more ≡ row_of (path_of fs) ++ f.turn.statement ∷ (f.turn.number ∷ (n ∷ more)) =
    ap (λ (r : List ℕ). r ++ n ∷ more) (row_inside f fs) ∙ append_assoc (row_of (path_of fs)) (f.turn.statement ∷ (f.turn.number ∷ [])) (n ∷ more) in
    let h : is_past (row_of (path_of (f ∷ fs)) ++ n ∷ more) (cell_of fs x) ≡ true = subst (λ (r : List ℕ). is_past r (cell_of fs x) ≡ true) (sym e) (past_behind fs x f.turn.statement (f.turn.number ∷ (n ∷ more))) in
    past_by f fs x (row_of (path_of (f ∷ fs)) ++ n ∷ more) (is_among x f.private) (front_behind (row_of (path_of (f ∷ fs))) n more) h

-- the cell of a scalar is past at each statement in these iterations
pub scalar_past : (scope : Scope) (x : List ℕ) (n : ℕ) → is_past (before scope n) (cell_of scope x) ≡ true
scalar_past scope x n = past_behind scope x n []
