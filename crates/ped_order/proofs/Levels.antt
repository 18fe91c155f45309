-- Places that are apart, level by level.
use Rattle.std.proofs.Common.{◌≡◌, ℕ, ◌+◌, ◌<◌, List, [], ◌∷◌, ◌++◌, map, length, take, get_or, Bool, true, false, ◌&&◌, ◌||◌, ◌==◌, not, refl, sym, ap, ◌∙◌}
use Rattle.std.specs.Prelude.{if◌then◌else◌}
use Rattle.std.proofs.Math.Bool.{or-false}
use Rattle.std.proofs.lemmas.List.{take_more, map-append}
use Rattle.std.specs.Cmp.Lexicographic.{pointwise}
use Rattle.ped_store.specs.Cells.{Iteration, same_iteration}
use Rattle.ped_store.specs.Acts.{Turn}
use Rattle.ped_store.specs.Races.{are_apart}
use Rattle.ped_laws.specs.ped_eval.specs.declared.accesses.Turn as code
use Rattle.ped_laws.specs.ped_eval.specs.AccessViews.{turn_view}
use Rattle.ped_order.specs.Keys.{iteration_of, is_elsewhere}

-- no place is apart from one outside all DO loops
pub not_apart : (ts : List Turn) → are_apart ts [] ≡ false
not_apart [] = refl
not_apart (t ∷ ts) = refl

last_level : (e f r p : Bool) → r ≡ false → e && (if f then r else p) ≡ (e && (not f && p))
last_level true true r p h = h
last_level true false r p h = refl
last_level false f r p h = refl

outer_level : (e f x y p : Bool) → e && (if f then x || y else p) ≡ (e && (if f then x else p)) || ((e && f) && y)
outer_level true true x y p = refl
outer_level true false x y p = sym (or-false p)
outer_level false f x y p = refl

-- a place is apart at a further level, or it is elsewhere there
pub apart_further : (ts before : List Turn) (u : Turn) → are_apart ts (before ++ u ∷ []) ≡ are_apart ts before || is_elsewhere (map iteration_of before) u.statement u.number ts
apart_further [] [] u = refl
apart_further (t ∷ ts) [] u = last_level (t.statement == u.statement) (t.number == u.number) (are_apart ts []) t.parallel (not_apart ts)
apart_further [] (b ∷ bs) u = refl
apart_further (t ∷ ts) (b ∷ bs) u =
    ap (λ r. (t.statement == b.statement) && (if t.number == b.number then r else t.parallel)) (apart_further ts bs u)
    ∙ outer_level (t.statement == b.statement) (t.number == b.number) (are_apart ts bs) (is_elsewhere (map iteration_of bs) u.statement u.number ts) t.parallel

-- a place outside all DO loops is in no iteration
pub nowhere : (is : List Iteration) (statement n : ℕ) → is_elsewhere is statement n [] ≡ false
nowhere [] statement n = refl
nowhere (i ∷ is) statement n = refl

inner_level : (s x q r : Bool) → s && (x || (q && r)) ≡ (s && x) || ((s && q) && r)
inner_level true x q r = refl
inner_level false x q r = refl

-- a place with one turn more is elsewhere, or that turn is
pub elsewhere_further : (is : List Iteration) (statement n : ℕ) (before : List Turn) (u : Turn)
    → is_elsewhere is statement n (before ++ u ∷ []) ≡ is_elsewhere is statement n before || (pointwise same_iteration (map iteration_of before) is && ((u.statement == statement) && (not (u.number == n) && u.parallel)))
elsewhere_further [] statement n [] u = refl
elsewhere_further [] statement n (b ∷ bs) u = sym (or-false _)
elsewhere_further (i ∷ is) statement n [] u = go (same_iteration (iteration_of u) i)
  where
    go : (s : Bool) → s && is_elsewhere is statement n [] ≡ false
    go true = nowhere is statement n
    go false = refl
elsewhere_further (i ∷ is) statement n (b ∷ bs) u =
    ap (λ r. same_iteration (iteration_of b) i && r) (elsewhere_further is statement n bs u)
    ∙ inner_level (same_iteration (iteration_of b) i) (is_elsewhere is statement n bs) (pointwise same_iteration (map iteration_of bs) is) ((u.statement == statement) && (not (u.number == n) && u.parallel))

-- one turn more of a path
pub one_more : (path : List code.Turn) (level : ℕ) (d : code.Turn) → level < length path → map turn_view (take (level + 1) path) ≡ map turn_view (take level path) ++ turn_view (get_or path level d) ∷ []
one_more path level d h = ap (map turn_view) (take_more path level d h) ∙ map-append turn_view (take level path) (get_or path level d ∷ [])
