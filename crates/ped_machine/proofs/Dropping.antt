-- What it needs that copies are dropped: which cells are copies of some iterations, and which of others.
use Rattle.std.proofs.Common.{◌≡◌, inl, inr, ℕ, ◌+◌, ◌<◌, List, [], ◌∷◌, ◌++◌, length, Bool, true, false, if◌then◌else◌, Err, refl, sym, ap, subst, ◌∙◌, arith, append_assoc, length-append}
use mathlib.Core.Path.{fun_ext}
use Rattle.std.proofs.lemmas.Bool.{and_parts}
use Rattle.std.specs.Cmp.Lexicographic.{pointwise}
use Rattle.ped_base.specs.Lists.{is_same_text, is_among}
use Rattle.ped_symbols.specs.Kinds.{Table}
use Rattle.ped_store.specs.Cells.{Cell, Scalar, Element, Private, In, Out, Iteration, same_iteration, same_cell}
use Rattle.ped_store.specs.Memories.{Memory, without_copy, got}
use Rattle.ped_store.specs.Keeping.{Kept, memory_of}
use Rattle.ped_store.specs.IterationLaws.{iterations_decide}
use Rattle.ped_interleavings.specs.ped_eval.specs.Scopes.{Frame, Scope, cell_of}
use Rattle.ped_interleavings.specs.ped_eval.specs.Agreement.{path_of, is_copy, DoCopiesStand}
use Rattle.ped_interleavings.specs.ped_eval.specs.Readiness.{IsReady}
use Rattle.ped_interleavings.specs.ped_eval.proofs.Copies.{path_length}
use Rattle.ped_machine.specs.Bases.{IsLonger, IsInside, IsNear, is_own, IsWithin, HasKept, HasLost}
use Rattle.ped_machine.specs.Doing.{HasGrown}
use Rattle.ped_machine.specs.Growth.{path_append, longer_within, longer_twice}
use Rattle.ped_machine.proofs.Copying.{put_same, unread_undefined}

pub nothing_kept : (base : Scope) (m : Memory) → HasKept base m m
nothing_kept base m = record { bounds = refl; stands = λ c n h. h }

pub same_kept : (base : Scope) (m new : Memory) → new ≡ m → HasKept base m new
same_kept base m new e = subst (λ (k : Memory). HasKept base m k) (sym e) (nothing_kept base m)

pub kept_twice : (base : Scope) (a b c : Memory) → HasKept base a b → HasKept base b c → HasKept base a c
kept_twice base a b c g h = record { bounds = h.bounds ∙ g.bounds; stands = λ d n k. h.stands d n (g.stands d n k) }

-- where all that stood stands still, all that isn't dropped does
pub grown_kept : (base : Scope) (m new : Memory) → HasGrown m new → HasKept base m new
grown_kept base m new g = record { bounds = g.bounds; stands = λ c n k. g.stands c k }

pub lost_nothing : (c : Cell) (m : Memory) → HasLost c m m
lost_nothing c m = record { cells = refl; bounds = refl; stands = λ d n. refl }

-- a copy that can't be read is dropped
pub lost_copy : (s new : Kept) (c : Cell) (f : ℕ) → is_copy c ≡ true → got (memory_of s) c ≡ Err f → memory_of new ≡ without_copy c (memory_of s) → HasLost c (memory_of s) (memory_of new)
lost_copy s new (Scalar y) f h e w = absurd cc
lost_copy s new (Element y js) f h e w = absurd cc
lost_copy s new In f h e w = absurd cc
lost_copy s new Out f h e w = absurd cc
lost_copy s new (Private x path) f h e w = record {
  cells = (λ i. (w i).cells) ∙ fun_ext (put_same x path (memory_of s).cells (unread_undefined s (Private x path) f h e));
  bounds = λ i. (w i).bounds;
  stands = λ d n. (λ i. (w i).stands d) ∙ ap (λ b. if b then false else (memory_of s).stands d) n;
}

-- the same copy belongs to the same iterations
pub inside_same : (base : Scope) (c d : Cell) → IsInside base c → same_cell c d ≡ true → IsInside base d
inside_same base (Private x p) (Private y q) h e = (h.0, sym ((iterations_decide p q).0 (and_parts (is_same_text x y) (pointwise same_iteration p q) e).1) ∙ h.1)
inside_same base (Private x p) (Scalar y) h e = absurd cc
inside_same base (Private x p) (Element y js) h e = absurd cc
inside_same base (Private x p) In h e = absurd cc
inside_same base (Private x p) Out h e = absurd cc
inside_same base (Scalar x) d h e = absurd h
inside_same base (Element x js) d h e = absurd h
inside_same base In d h e = absurd h
inside_same base Out d h e = absurd h

pub other_inside : (base : Scope) (c d : Cell) → IsInside base c → (IsInside base d → ⊥) → same_cell c d ≡ false
other_inside base c d h n = by (same_cell c d) refl
  where
    by : (b : Bool) → same_cell c d ≡ b → b ≡ false
    by true e = absurd (n (inside_same base c d h e))
    by false e = refl

own_inside_by : (base scope : Scope) (f : Frame) (x : List ℕ) (b : Bool) → IsWithin base (f ∷ scope) → (b ≡ false → IsInside base (cell_of scope x)) → IsInside base (if b then Private x (path_of (f ∷ scope)) else cell_of scope x)
own_inside_by base scope f x true w h = longer_within base (f ∷ scope) w
own_inside_by base scope f x false w h = h refl

own_in : (base inner : Scope) (x : List ℕ) → is_own base x ≡ true → IsInside base (cell_of (inner ++ base) x)
own_in [] inner x h = absurd cc
own_in (f ∷ fs) [] x h =
    own_inside_by (f ∷ fs) fs f x (is_among x f.private) ([], refl) (λ e. absurd (let w : true ≡ false = sym h ∙ e in cc))
own_in (f ∷ fs) (g ∷ inner) x h =
    own_inside_by (f ∷ fs) (inner ++ f ∷ fs) g x (is_among x g.private) (g ∷ inner, refl) (λ e. own_in (f ∷ fs) inner x h)

-- a name with a copy in some iterations stands for it, or for one inside
pub own_inside : (base scope : Scope) (x : List ℕ) → IsWithin base scope → is_own base x ≡ true → IsInside base (cell_of scope x)
own_inside base scope x w h = subst (λ (z : Scope). IsInside base (cell_of z x)) (sym w.1) (own_in base w.0 x h)

pub lost_kept : (base : Scope) (c : Cell) (m new : Memory) → IsInside base c → HasLost c m new → HasKept base m new
lost_kept base c m new h l = record { bounds = l.bounds; stands = λ d n k. l.stands d (other_inside base c d h n) ∙ k }

-- what is kept of some iterations is kept of those round them
pub kept_outside : (base inner : Scope) (m new : Memory) → IsWithin base inner → HasKept inner m new → HasKept base m new
kept_outside base inner m new w h = record { bounds = h.bounds; stands = λ c n k. h.stands c (λ q. n (wider c q)) k }
  where
    wider : (c : Cell) → IsInside inner c → IsInside base c
    wider (Private x p) q = longer_twice (path_of base) (path_of inner) p (longer_within base inner w) q
    wider (Scalar x) q = absurd q
    wider (Element x js) q = absurd q
    wider In q = absurd q
    wider Out q = absurd q

longer_length : (a b : List Iteration) → IsLonger a b → length a < length b + 1
longer_length a b h = let e : length b ≡ length a + length h.0 = ap length h.1 ∙ length-append a h.0 in omega (arith, e)

round_stand : (f : Frame) (fs scope : Scope) (m new : Memory) → length scope < length fs + 1 → HasKept (f ∷ fs) m new → DoCopiesStand scope m.stands → DoCopiesStand scope new.stands
round_stand f fs [] m new less h k = tt
round_stand f fs (g ∷ gs) m new less h k = (
  λ x a.
      h.stands (Private x (path_of (g ∷ gs)))
      (λ q.
      let n = longer_length (path_of (f ∷ fs)) (path_of (g ∷ gs)) q in
      let u = path_length (f ∷ fs) in
      let v = path_length (g ∷ gs) in
      omega (arith, n, u, v, less))
      (k.0 x a),
  round_stand f fs gs m new (omega (arith, less)) h k.1,
)

-- what is dropped inside of a loop isn't round it
pub copies_round_stand : (f : Frame) (fs : Scope) (m new : Memory) → HasKept (f ∷ fs) m new → DoCopiesStand fs m.stands → DoCopiesStand fs new.stands
copies_round_stand f fs m new h k = round_stand f fs fs m new (omega arith) h k

cancels : (p a b : List Iteration) → p ++ a ≡ p ++ b → a ≡ b
cancels [] a b e = e
cancels (i ∷ p) a b e = let t : p ++ a ≡ p ++ b = cc in cancels p a b t

own_path : (f : Frame) (fs : Scope) → path_of (f ∷ fs) ≡ path_of fs ++ record { statement = f.turn.statement; number = f.turn.number } ∷ []
own_path f fs = path_append (f ∷ []) fs

first_is : (i k : Iteration) (a b : List Iteration) → i ∷ a ≡ k ∷ b → i.number ≡ k.number
first_is i k a b e = let h : i ≡ k = cc in ap (λ (j : Iteration). j.number) h

-- what is dropped with one iteration of a loop another doesn't need
pub apart_inside : (f g : Frame) (fs : Scope) (c : Cell) → IsInside (f ∷ fs) c → IsNear (g ∷ fs) c → f.turn.number ≡ g.turn.number
apart_inside f g fs (Private x p) (more, e) (inl (rest, k)) =
    let i : Iteration = record { statement = f.turn.statement; number = f.turn.number } in
    let j : Iteration = record { statement = g.turn.statement; number = g.turn.number } in
    let a = ap (λ (q : List Iteration). q ++ more) (own_path f fs) ∙ append_assoc (path_of fs) (i ∷ []) more in
    let b = ap (λ (q : List Iteration). q ++ rest) (own_path g fs) ∙ append_assoc (path_of fs) (j ∷ []) rest in
    first_is i j more rest (cancels (path_of fs) (i ∷ more) (j ∷ rest) (sym a ∙ sym e ∙ k ∙ b))
apart_inside f g fs (Private x p) (more, e) (inr (rest, k)) =
    let i : Iteration = record { statement = f.turn.statement; number = f.turn.number } in
    let j : Iteration = record { statement = g.turn.statement; number = g.turn.number } in
    let a = ap (λ (q : List Iteration). (q ++ more) ++ rest) (own_path f fs) ∙ append_assoc (path_of fs ++ i ∷ []) more rest ∙ append_assoc (path_of fs) (i ∷ []) (more ++ rest) in
    first_is i j (more ++ rest) [] (cancels (path_of fs) (i ∷ (more ++ rest)) (j ∷ []) (sym a ∙ sym (ap (λ (q : List Iteration). q ++ rest) e) ∙ sym k ∙ own_path g fs))
apart_inside f g fs (Scalar x) h k = absurd h
apart_inside f g fs (Element x js) h k = absurd h
apart_inside f g fs In h k = absurd h
apart_inside f g fs Out h k = absurd h

-- what is ready is so in other iterations whose copies stand, where no more than copies have been dropped
pub ready_kept : (table : Table) (base scope : Scope) (old new : Memory) → HasKept base old new → IsReady table base old → DoCopiesStand scope new.stands → IsReady table scope new
ready_kept table base scope old new h r k = record {
  bounds = h.bounds ∙ r.bounds;
  scalars = λ x a. h.stands (Scalar x) (λ q. q) (r.scalars x a);
  elements = λ x js a b. h.stands (Element x js) (λ q. q) (r.elements x js a b);
  copies = k;
}
