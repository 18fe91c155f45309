-- The references of a program as sides of their pairs, one by one.
use Rattle.std.proofs.Common.{◌≡◌, ◌⊎◌, inl, inr, ℕ, zero, suc, List, [], ◌∷◌, ◌++◌, length, Some, slice_get, refl, ap, sym, ◌∙◌, subst}
use Rattle.ped_tree.specs.Tree.{ProgramTree}
use Rattle.ped_refs.specs.References.{Reference, outermost}
use Rattle.ped_graph.specs.declared.sides.Side.{Side}
use Rattle.ped_graph.specs.Sides.{IsSide}
use Rattle.ped_graph.specs.Dependences.{setting_in, site_of}
use Rattle.ped_graph.specs.KnownProgram.{AreSides}
use Rattle.ped_graph.proofs.Slices.{some_is}

-- there are none at first
pub no_sides : (t : ProgramTree) (refs : List Reference) (ws : List Side) → ws ≡ [] → AreSides t refs ws
no_sides t refs [] e n r w h k = cc
no_sides t refs (v ∷ ws) e n r w h k = cc

-- what stands in a list with one more item
pushed : {X : Type 0} (xs : List X) (x y : X) (n : ℕ) → slice_get (xs ++ x ∷ []) n ≡ Some y → (slice_get xs n ≡ Some y) ⊎ ((n ≡ length xs) × (x ≡ y))
pushed [] x y zero e = inr (refl, some_is x y e)
pushed [] x y (suc n) e = cc
pushed (z ∷ xs) x y zero e = inl e
pushed (z ∷ xs) x y (suc n) e = later (pushed xs x y n e)
  where
    later : (slice_get xs n ≡ Some y) ⊎ ((n ≡ length xs) × (x ≡ y)) → (slice_get (z ∷ xs) (suc n) ≡ Some y) ⊎ ((suc n ≡ suc (length xs)) × (x ≡ y))
    later (inl h) = inl h
    later (inr h) = inr (ap suc h.0, h.1)

-- one more side
pub sides_more : (t : ProgramTree) (refs : List Reference) (old new : List Side) (w : Side) (r : Reference) (i : ℕ) → length old ≡ i → slice_get refs i ≡ Some r
    → IsSide (setting_in t (outermost r)) (site_of r) w → new ≡ old ++ w ∷ [] → AreSides t refs old → AreSides t refs new
sides_more t refs old new w r i many there is grown so n q v at in_new = by (pushed old w v n (sym (ap (λ (ws : List Side). slice_get ws n) grown) ∙ in_new))
  where
    by : (slice_get old n ≡ Some v) ⊎ ((n ≡ length old) × (w ≡ v)) → IsSide (setting_in t (outermost q)) (site_of q) v
    by (inl h) = so n q v at h
    by (inr h) =
        let same : r ≡ q = some_is r q (sym there ∙ ap (λ (m : ℕ). slice_get refs m) (sym (h.0 ∙ many)) ∙ at) in
        subst (λ (x : Side). IsSide (setting_in t (outermost q)) (site_of q) x) h.1 (subst (λ (x : Reference). IsSide (setting_in t (outermost x)) (site_of x) w) same is)
