-- The bounds of dimensions as literals, one by one.
use Rattle.std.proofs.Common.{◌≡◌, ℕ, ℤ, pos, ◌+◌, ◌<◌, ◌≤◌, List, [], ◌∷◌, ◌++◌, map, length, take, drop, get_or, arith, ap, sym, subst, ◌∙◌, append_assoc, append-nil, length-take-le, get_or-take}
use Rattle.std.proofs.lemmas.List.{map_push, drop_all}
use Rattle.std.proofs.lemmas.Grind.{common_steps}
use Rattle.ped_base.specs.Dimensions.{dimensions, IsBounds}
use Rattle.ped_base.specs.declared.bounds.Bounds.TheInside.{Inside}
use Rattle.ped_links.specs.ped_units.specs.ped_symbolic.specs.Arithmetic.{literal}
use Rattle.ped_tree.specs.Tree.{BoundTree}
use Rattle.ped_tree.specs.Views.{bound_tree}
use Rattle.ped_tree.specs.declared.declarations.Bound.{Bound}
use Rattle.ped_links.specs.ped_units.specs.Expanding.{literal_bounds}
use Rattle.ped_calls.specs.Giving.{IsSmall, HasSmallBounds}

next_item : (xs : List ℤ) (n i : ℕ) (d : ℤ) → i < n → n ≤ length xs → drop i (take n xs) ≡ get_or xs i d ∷ drop (i + 1) (take n xs)
next_item xs n i d h k = grind (arith, common_steps)

-- the first of the dimensions that are left
pub next_bound : (b : Inside) (i : ℕ) → IsBounds b → i < b.rank →
    literal_bounds (drop i (dimensions b).lower) (drop i (dimensions b).upper)
    ≡ record { lower = literal (get_or b.lower i (pos 0)); upper = literal (get_or b.upper i (pos 0)) } ∷ literal_bounds (drop (i + 1) (dimensions b).lower) (drop (i + 1) (dimensions b).upper)
next_bound b i h k =
    let lower = next_item b.lower b.rank i (pos 0) k (omega (arith, h.few, h.lower_long)) in
    let upper = next_item b.upper b.rank i (pos 0) k (omega (arith, h.few, h.upper_long)) in
    λ j. literal_bounds (lower j) (upper j)

-- one dimension more
pub bound_more : (all : List Bound) (x : Bound) (b : Inside) (i : ℕ) (whole : List BoundTree) → IsBounds b → i < b.rank
    → bound_tree x ≡ record { lower = literal (get_or b.lower i (pos 0)); upper = literal (get_or b.upper i (pos 0)) }
    → map bound_tree all ++ literal_bounds (drop i (dimensions b).lower) (drop i (dimensions b).upper) ≡ whole
    → map bound_tree (all ++ x ∷ []) ++ literal_bounds (drop (i + 1) (dimensions b).lower) (drop (i + 1) (dimensions b).upper) ≡ whole
bound_more all x b i whole h k is before =
    let rest = literal_bounds (drop (i + 1) (dimensions b).lower) (drop (i + 1) (dimensions b).upper) in
    ap (λ (bs : List BoundTree). bs ++ rest) (map_push bound_tree all x)
    ∙ append_assoc (map bound_tree all) (bound_tree x ∷ []) rest
    ∙ ap (λ (t : BoundTree). map bound_tree all ++ t ∷ rest) is
    ∙ ap (λ (bs : List BoundTree). map bound_tree all ++ bs) (sym (next_bound b i h k))
    ∙ before

-- no dimension is left
pub no_bound : (b : Inside) (i : ℕ) (all whole : List BoundTree) → IsBounds b → b.rank ≤ i → all ++ literal_bounds (drop i (dimensions b).lower) (drop i (dimensions b).upper) ≡ whole → all ≡ whole
no_bound b i all whole h k before =
    let long : length (take b.rank b.lower) ≡ b.rank = length-take-le b.rank b.lower (omega (arith, h.lower_long, h.few)) in
    let none = drop_all i (take b.rank b.lower) (omega (arith, long, k)) in
    sym (append-nil all)
    ∙ ap (λ (l : List ℤ). all ++ literal_bounds l (drop i (take b.rank b.upper))) (sym none)
    ∙ before

-- the bounds of each dimension are small where all are
pub small_lower : (b : Inside) (i : ℕ) → IsBounds b → i < b.rank → HasSmallBounds (dimensions b) → IsSmall (get_or b.lower i (pos 0))
small_lower b i h k small =
    let long : length (take b.rank b.lower) ≡ b.rank = length-take-le b.rank b.lower (omega (arith, h.lower_long, h.few)) in
    subst IsSmall (get_or-take b.rank b.lower i (pos 0) k) (small.lower i (pos 0) (omega (arith, long, k)))

pub small_upper : (b : Inside) (i : ℕ) → IsBounds b → i < b.rank → HasSmallBounds (dimensions b) → IsSmall (get_or b.upper i (pos 0))
small_upper b i h k small =
    let long : length (take b.rank b.upper) ≡ b.rank = length-take-le b.rank b.upper (omega (arith, h.upper_long, h.few)) in
    subst IsSmall (get_or-take b.rank b.upper i (pos 0) k) (small.upper i (pos 0) (omega (arith, long, k)))
