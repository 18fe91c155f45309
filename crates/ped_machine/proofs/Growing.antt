-- What stays so where more cells stand.
use Rattle.std.proofs.Common.{◌≡◌, ◌<◌, ◌-◌, ℕ, suc, List, [], ◌∷◌, Bool, true, false, ◌||◌, refl, sym, ap, subst, ◌∙◌, arith}
use Rattle.std.proofs.lemmas.Bool.{and_parts}
use Rattle.std.specs.List.{list_all}
use Rattle.ped_base.specs.Lists.{is_same_text, is_among}
use Rattle.ped_base.proofs.NameEquality.{same_is}
use Rattle.ped_symbols.specs.Kinds.{Table}
use Rattle.ped_store.specs.Cells.{Cell, Scalar, Element}
use Rattle.ped_store.specs.Stores.{Content, Undefined, Store}
use Rattle.ped_store.specs.Acts.{Touch, store_behind}
use Rattle.ped_store.specs.Memories.{Memory, with_content}
use Rattle.ped_interleavings.specs.ped_eval.specs.Scopes.{Frame, Scope, cell_of}
use Rattle.ped_interleavings.specs.ped_eval.specs.Agreement.{is_copy, DoCopiesStand}
use Rattle.ped_interleavings.specs.ped_eval.specs.ScopeViews.{outside}
use Rattle.ped_interleavings.specs.ped_eval.specs.Loops.{Entered, left_in_variable, exit_touches, exit_when_none}
use Rattle.ped_interleavings.specs.ped_eval.specs.Turns.{undefined_in, exited, undefined_cells}
use Rattle.ped_interleavings.specs.ped_eval.specs.Readiness.{IsReady}
use Rattle.ped_interleavings.specs.ped_eval.proofs.Copies.{private_cell, all_among, all_copies}
use Rattle.ped_interleavings.specs.ped_eval.proofs.Endings.{exit_is, none_left}
use Rattle.ped_interleavings.specs.ped_eval.proofs.Undefining.{exited_stands, exited_bounds}
use Rattle.ped_machine.specs.Doing.{HasGrown, HasRoom}
use Rattle.ped_machine.specs.Growth.{copies_grow}

pub ready_grows : (table : Table) (scope : Scope) (old new : Memory) → HasGrown old new → IsReady table scope old → IsReady table scope new
ready_grows table scope old new g h = record {
  bounds = g.bounds ∙ h.bounds;
  scalars = λ x k. g.stands (Scalar x) (h.scalars x k);
  elements = λ x js k r. g.stands (Element x js) (h.elements x js k r);
  copies = copies_grow scope old.stands new.stands g.stands h.copies;
}

-- what is ready in some iterations is so in others whose copies stand
pub ready_in : (table : Table) (scope other : Scope) (m : Memory) → IsReady table scope m → DoCopiesStand other m.stands → IsReady table other m
ready_in table scope other m h k = record { bounds = h.bounds; scalars = h.scalars; elements = h.elements; copies = k }

pub not_grown : (m : Memory) → HasGrown m m
not_grown m = record { bounds = refl; stands = λ c h. h }

pub no_room : (m : Memory) → HasRoom m m
no_room m = record { cells = refl; grown = not_grown m }

pub grown_twice : (a b c : Memory) → HasGrown a b → HasGrown b c → HasGrown a c
grown_twice a b c g h = record { bounds = h.bounds ∙ g.bounds; stands = λ d k. h.stands d (g.stands d k) }

pub room_twice : (a b c : Memory) → HasRoom a b → HasRoom b c → HasRoom a c
room_twice a b c g h = record { cells = h.cells ∙ g.cells; grown = grown_twice a b c g.grown h.grown }

-- a name among those of which all is so
pub one_among : (P : List ℕ → Bool) (xs : List (List ℕ)) → list_all P xs ≡ true → (x : List ℕ) → is_among x xs ≡ true → P x ≡ true
one_among P [] h x k = absurd cc
one_among P (y ∷ ys) h x k =
    let p = and_parts (P y) (list_all P ys) h in
    by (is_same_text x y) refl p.0 (λ e. one_among P ys p.1 x e) k
  where
    by : (b : Bool) → is_same_text x y ≡ b → P y ≡ true → (is_among x ys ≡ true → P x ≡ true) → (b || is_among x ys) ≡ true → P x ≡ true
    by true e here there k = ap P (same_is x y e) ∙ here
    by false e here there k = there k

-- the copies of an iteration stand, where the cells of its names do
pub own_copies_stand : (f : Frame) (fs : Scope) (stands : Cell → Bool) → list_all (λ x. stands (cell_of (f ∷ fs) x)) f.private ≡ true → DoCopiesStand fs stands → DoCopiesStand (f ∷ fs) stands
own_copies_stand f fs stands h k = (
  λ x a. ap stands (sym (private_cell f fs x a)) ∙ one_among (λ x. stands (cell_of (f ∷ fs) x)) f.private h x a,
  k,
)

undefined_cells_are : (scope : Scope) (xs : List (List ℕ)) (m : Memory) → (undefined_in scope xs m).cells ≡ undefined_cells scope xs m.cells
undefined_cells_are scope [] m = refl
undefined_cells_are scope (x ∷ xs) m = undefined_cells_are scope xs (with_content (cell_of scope x) Undefined m)

-- the exit of a DO leaves its store
pub exit_cells : (e : Entered) (scope : Scope) (m : Memory) → (exited e scope m).cells ≡ store_behind (exit_touches e scope) m.cells
exit_cells e scope m =
    let v = with_content (cell_of scope e.head.variable) (left_in_variable e) m in
    undefined_cells_are scope e.inner (undefined_in scope e.head.private v)
    ∙ ap (undefined_cells scope e.inner) (undefined_cells_are scope e.head.private v)
    ∙ sym (exit_is e scope m.cells)

-- and all stands that stood
pub exit_grows : (e : Entered) (scope : Scope) (m : Memory) → HasGrown m (exited e scope m)
exit_grows e scope m = record {
  bounds = exited_bounds e scope m;
  stands = λ c h. (λ i. exited_stands e scope m i c) ∙ h;
}

-- a write leaves all standing
pub content_grows : (c : Cell) (v : Content) (m new : Memory) → new ≡ with_content c v m → HasGrown m new
content_grows c v m new e = record { bounds = λ i. (e i).bounds; stands = λ d h. (λ i. (e i).stands d) ∙ h }

pub same_grows : (m new : Memory) → new.bounds ≡ m.bounds → new.stands ≡ m.stands → HasGrown m new
same_grows m new b s = record { bounds = b; stands = λ d h. (λ i. s i d) ∙ h }

-- where nothing has changed
pub unchanged : (m new : Memory) → new ≡ m → HasRoom m new
unchanged m new e = subst (λ (k : Memory). HasRoom m k) (sym e) (no_room m)

-- the names of which an iteration has copies stand for these
pub turned_names : (scope : Scope) (f : Frame) (fs : Scope) (names : List (List ℕ)) → scope ≡ f ∷ fs → names ≡ f.private → list_all (λ x. is_copy (cell_of scope x)) names ≡ true
turned_names scope f fs names s n = (λ i. list_all (λ x. is_copy (cell_of (s i) x)) (n i)) ∙ all_copies f fs f.private (all_among f.private)

-- where they stand, and those of the iterations round it, all do
pub turned_copies : (scope : Scope) (f : Frame) (fs : Scope) (names : List (List ℕ)) (m new : Memory) → scope ≡ f ∷ fs → names ≡ f.private → HasRoom m new → list_all (λ x. new.stands (cell_of scope x)) names ≡ true
    → DoCopiesStand fs m.stands → DoCopiesStand scope new.stands
turned_copies scope f fs names m new s n r h k =
    subst (λ (z : Scope). DoCopiesStand z new.stands) (sym s)
    (own_copies_stand f fs new.stands ((λ i. list_all (λ x. new.stands (cell_of (sym s i) x)) (sym n i)) ∙ h) (copies_grow fs m.stands new.stands r.grown.stands k))

-- the copies of iterations are those of the innermost and of the others
pub outer_copies : (scope : Scope) (stands : Cell → Bool) → DoCopiesStand scope stands → DoCopiesStand (outside scope) stands
outer_copies [] stands h = h
outer_copies (f ∷ fs) stands h = h.1

-- copies stand still in other iterations that are the same
pub same_copies : (scope other : Scope) (m new : Memory) → other ≡ scope → HasGrown m new → DoCopiesStand scope m.stands → DoCopiesStand other new.stands
same_copies scope other m new e g h = subst (λ (z : Scope). DoCopiesStand z new.stands) (sym e) (copies_grow scope m.stands new.stands g.stands h)

-- the exit of a DO that has been left so
pub left_grows : (e : Entered) (scope : Scope) (m new : Memory) → new ≡ exited e scope m → HasGrown m new
left_grows e scope m new is = subst (λ (k : Memory). HasGrown m k) (sym is) (exit_grows e scope m)

-- what is ready is so where more stands
pub ready_there : (table : Table) (scope other : Scope) (m new : Memory) → other ≡ scope → HasGrown m new → IsReady table scope m → IsReady table other new
ready_there table scope other m new e g h = subst (λ (z : Scope). IsReady table z new) (sym e) (ready_grows table scope m new g h)

-- the entry of a DO that goes on leaves the store as it was
pub entry_leaves : (count : ℕ) (e : Entered) (scope : Scope) (s : Store) → 0 < count → s ≡ store_behind (exit_when_none count e scope) s
entry_leaves count e scope s some =
    let one : count ≡ suc (count - 1) = omega (arith, some) in
    sym (ap (λ (n : ℕ). store_behind (exit_when_none n e scope) s) one ∙ ap (λ (ts : List Touch). store_behind ts s) (none_left (count - 1) e scope))
