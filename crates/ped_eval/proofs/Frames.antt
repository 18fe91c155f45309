-- Frames of the code, the innermost last, and the iterations that they stand for, the innermost first.
use Rattle.std.proofs.Common.{Option, Some, Bor, IfSome, is_some, nat_lt, subst, ◌≡◌, ℕ, ℤ, zero, suc, ◌+◌, ◌-◌, ◌<◌, ◌≤◌, List, [], ◌∷◌, ◌++◌, map, length, take, get_or, replicate, refl, sym, ap, ◌∙◌, arith, append_assoc}
use Rattle.std.proofs.Math.ListN.{set}
use Rattle.std.proofs.Math.Seq.{set-append_seam, take-length}
use Rattle.std.proofs.lemmas.List.{length-map, length-take-le, take_at, take_more, map-append, reverse-append}
use Rattle.std.specs.Prelude.{reverse, true, false, Bool, ◌||◌, if◌then◌else◌}
use Rattle.std.proofs.lemmas.Bool.{ltb-true}
use Rattle.ped_base.specs.Lists.{is_same_text, is_among}
use Rattle.ped_store.specs.Cells.{Private}
use Rattle.ped_store.specs.Acts.{Turn, iterations_of}
use Rattle.ped_store.specs.Cells.{Iteration}
use Rattle.ped_eval.specs.declared.scopes.Frame as code
use Rattle.ped_eval.specs.Scopes.{Frame, Scope, turns_of, cell_of}
use Rattle.ped_eval.specs.ScopeViews.{frame_view, frame_iteration, scope_view, with_turn}

turns_behind : (fs : Scope) (f : Frame) → turns_of (fs ++ f ∷ []) ≡ f.turn ∷ turns_of fs
turns_behind [] f = refl
turns_behind (g ∷ fs) f = ap (λ (ts : List Turn). ts ++ g.turn ∷ []) (turns_behind fs f)

scope_first : (f : code.Frame) (fs : List code.Frame) → scope_view (f ∷ fs) ≡ scope_view fs ++ frame_view f ∷ []
scope_first f fs = reverse-append (frame_view f ∷ []) (map frame_view fs)

-- the innermost frame is the first iteration
pub scope_last : (fs : List code.Frame) (f : code.Frame) → scope_view (fs ++ f ∷ []) ≡ frame_view f ∷ scope_view fs
scope_last fs f = ap reverse (map-append frame_view fs (f ∷ [])) ∙ reverse-append (map frame_view fs) (frame_view f ∷ [])

-- another iteration of the innermost loop
pub turned : (fs : List code.Frame) (f : code.Frame) (number : ℕ) (value : ℤ) → 0 < length fs → f ≡ get_or fs (length fs - 1) f
    → scope_view (set fs (length fs - 1) (record f { number = number; value = value })) ≡ with_turn number value (scope_view fs)
turned fs f number value some is =
    let k = length fs - 1 in
    let g : code.Frame = record f { number = number; value = value } in
    let front = take k fs in
    let n : length front ≡ k = length-take-le k fs (omega arith) in
    let all : k + 1 ≡ length fs = omega arith in
    let whole : fs ≡ front ++ f ∷ [] =
    sym (take-length fs) ∙ ap (λ (j : ℕ). take j fs) (sym all) ∙ take_more fs k f (omega arith) ∙ ap (λ (h : code.Frame). front ++ h ∷ []) (sym is) in
    let new : set fs k g ≡ front ++ g ∷ [] =
    ap (λ (xs : List code.Frame). set xs k g) whole ∙ ap (λ (j : ℕ). set (front ++ f ∷ []) j g) (sym n) ∙ set-append_seam front f [] g in
    ap scope_view new ∙ scope_last front g
    ∙ sym (ap (with_turn number value) (ap scope_view whole ∙ scope_last front f))

-- the iterations of frames are those round the place
pub iterations_round : (fs : List code.Frame) → map frame_iteration fs ≡ iterations_of (turns_of (scope_view fs))
iterations_round [] = refl
iterations_round (f ∷ fs) =
    ap (λ (is : List Iteration). frame_iteration f ∷ is) (iterations_round fs)
    ∙ sym (ap iterations_of (ap turns_of (scope_first f fs) ∙ turns_behind (scope_view fs) (frame_view f)))

-- a name that is private to the innermost iteration stands for its copy
pub own_first : (scope : Scope) (f : Frame) (fs : Scope) (x : List ℕ) → scope ≡ f ∷ fs → is_among x f.private ≡ true → cell_of scope x ≡ Private x (iterations_of (turns_of scope))
own_first scope f fs x e h = rw e (ap (λ (b : Bool). if b then Private x (iterations_of (turns_of (f ∷ fs))) else cell_of fs x) h)

-- a name that stands at a place is one of the names
pub among_at : (xs : List (List ℕ)) (k : ℕ) (x y : List ℕ) → k < length xs → y ≡ get_or xs k y → is_same_text x y ≡ true → is_among x xs ≡ true
among_at [] k x y p e h = absurd (omega (arith, p))
among_at (z ∷ xs) zero x y p e h = ap (λ b. b || is_among x xs) (ap (is_same_text x) (sym e) ∙ h)
among_at (z ∷ xs) (suc k) x y p e h = ap (λ b. is_same_text x z || b) (among_at xs k x y (omega (arith, p)) e h) ∙ or_end (is_same_text x z)
  where
    or_end : (b : Bool) → b || true ≡ true
    or_end true = refl
    or_end false = refl

pub among_got : (xs : List (List ℕ)) (k : ℕ) (x : List ℕ) (r : Option (Bor (List ℕ))) (y : Bor (List ℕ)) → r ≡ Some y → is_some r ≡ nat_lt k (length xs) → IfSome r (λ z. z.now ≡ get_or xs k z.now) → is_same_text x y.now ≡ true → is_among x xs ≡ true
among_got xs k x r y e some at same =
    among_at xs k x y.now (ltb-true k (length xs) (sym some ∙ ap is_some e)) (subst (λ (o : Option (Bor (List ℕ))). IfSome o (λ z. z.now ≡ get_or xs k z.now)) e at) same
