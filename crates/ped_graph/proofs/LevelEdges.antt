-- The dependences of a pair, level by level.
use Rattle.std.proofs.Common.{◌≡◌, ℕ, zero, suc, ◌+◌, List, [], ◌∷◌, ◌++◌, map, length, Bool, true, false, Option, Some, None, if◌then◌else◌, refl, sym, ap, subst, ◌∙◌, arith}
use Rattle.std.proofs.lemmas.Bool.{cond-true}
use Rattle.std.proofs.lemmas.List.{append-nil}
use Rattle.std.specs.List.{flat_map, range_with_len}
use Rattle.ped_base.specs.Lists.{has_some}
use Rattle.ped_views.specs.declared.directions.Direction.{Direction}
use Rattle.ped_edges.specs.Edges.{Edge}
use Rattle.ped_graph.specs.Dependences.{Carriage, carried, independent, backward, carriage_from, vectors_of}
use Rattle.ped_graph.specs.Held.{Pair, held_edge, held_divided, held_by, held_edges}
use Rattle.ped_graph.specs.HeldPairs.{held_carried}
use Rattle.ped_graph.specs.Levels.{MayPrecede, ComeByLevel, leads_on, edge_by}
use Rattle.ped_graph.specs.declared.levels.LevelVectors.{LevelVectors}
use Rattle.ped_graph.proofs.LevelOrder.{none_of}
use Rattle.ped_graph.proofs.Slices.{map_more}

none_held : (p : Pair) (level : Option ℕ) (vectors : List (List Direction)) → length vectors ≡ 0 → held_edge p level vectors ≡ []
none_held p level [] e = refl
none_held p level (v ∷ vs) e = absurd (omega (arith, e))

-- a level without vectors has no dependence
pub none_more : (p : Pair) (level : Option ℕ) (vectors : List (List Direction)) (levels : List LevelVectors) → length vectors ≡ 0 → map (edge_by p) levels ≡ map (edge_by p) levels ++ held_edge p level vectors
none_more p level vectors levels e = sym (ap (λ (es : List Edge). map (edge_by p) levels ++ es) (none_held p level vectors e) ∙ append-nil (map (edge_by p) levels))

has_one : (vectors : List (List Direction)) → (length vectors ≡ 0 → ⊥) → has_some vectors ≡ true
has_one [] some = absurd (some refl)
has_one (v ∷ vs) some = refl

-- a level with vectors has one
pub one_more : (p : Pair) (l : LevelVectors) (old new : List LevelVectors) → (length l.vectors.now ≡ 0 → ⊥) → new ≡ old ++ l ∷ [] → map (edge_by p) new ≡ map (edge_by p) old ++ held_edge p l.level l.vectors.now
one_more p l old new some e =
    ap (λ (ls : List LevelVectors). map (edge_by p) ls) e ∙ map_more (edge_by p) old l
    ∙ ap (λ (es : List Edge). map (edge_by p) old ++ es) (sym (cond-true (has_some l.vectors.now) (edge_by p l ∷ []) [] (has_one l.vectors.now some)))

-- the dependences of a pair whose source doesn't come first
pub divided_carried : (p : Pair) (vectors : List (List Direction)) (loops : ℕ) (edges : List Edge) → p.is_forward ≡ false → length p.view.loops ≡ loops → edges ≡ held_carried p vectors loops → edges ≡ held_divided p vectors
divided_carried p vectors loops edges f n e =
    e ∙ sym (append-nil (held_carried p vectors loops))
    ∙ (λ i. held_carried p vectors (sym n i) ++ (if sym f i then held_edge p None (vectors_of None vectors) else []))

-- the dependences of a pair whose source comes first
pub divided_forward : (p : Pair) (vectors : List (List Direction)) (loops : ℕ) (edges : List Edge) → p.is_forward ≡ true → length p.view.loops ≡ loops
    → edges ≡ held_carried p vectors loops ++ held_edge p None (vectors_of None vectors) → edges ≡ held_divided p vectors
divided_forward p vectors loops edges f n e =
    e ∙ (λ i. held_carried p vectors (sym n i) ++ (if sym f i then held_edge p None (vectors_of None vectors) else []))

-- none of these vectors is of a level of a pair
abbrev pub HaveNoLevel : Bool → List (List Direction) → Type 0
HaveNoLevel is_forward vectors = ((level : ℕ) → vectors_of (Some level) vectors ≡ []) × (is_forward ≡ true → vectors_of None vectors ≡ [])

none_at : (p : Pair) (level : Option ℕ) (vectors : List (List Direction)) → vectors ≡ [] → held_edge p level vectors ≡ []
none_at p level vectors e = ap (λ (vs : List (List Direction)). held_edge p level vs) e

none_carried : (p : Pair) (vectors : List (List Direction)) → ((level : ℕ) → vectors_of (Some level) vectors ≡ []) → (a n : ℕ)
    → flat_map (λ level. held_edge p (Some level) (vectors_of (Some level) vectors)) (range_with_len a n) ≡ []
none_carried p vectors none a zero = refl
none_carried p vectors none a (suc n) = λ i. none_at p (Some a) (vectors_of (Some a) vectors) (none a) i ++ none_carried p vectors none (a + 1) n i

none_independent : (p : Pair) (vectors : List (List Direction)) (t : Bool) → (t ≡ true → vectors_of None vectors ≡ []) → (if t then held_edge p None (vectors_of None vectors) else []) ≡ []
none_independent p vectors true none = none_at p None (vectors_of None vectors) (none refl)
none_independent p vectors false none = refl

-- where no vector is of a level, there is no dependence
pub none_divided : (p : Pair) (vectors : List (List Direction)) → HaveNoLevel p.is_forward vectors → held_divided p vectors ≡ []
none_divided p vectors none = λ i. none_carried p vectors none.0 1 (length p.view.loops) i ++ none_independent p vectors p.is_forward none.1 i

-- no vectors are of no level
pub none_empty : (is_forward : Bool) (vectors : List (List Direction)) → length vectors ≡ 0 → HaveNoLevel is_forward vectors
none_empty is_forward [] e = (λ level. refl, λ independent. refl)
none_empty is_forward (v ∷ vs) e = absurd (omega (arith, e))

-- where the first vector doesn't lead on, none is of a level
pub none_led : (is_forward : Bool) (v : List Direction) (vs : List (List Direction)) → leads_on is_forward (carriage_from 1 v) ≡ false → ComeByLevel (carried 1) (v ∷ vs) → HaveNoLevel is_forward (v ∷ vs)
none_led is_forward v vs off order = go (carriage_from 1 v) refl off
  where
    go : (c : Carriage) → carriage_from 1 v ≡ c → leads_on is_forward c ≡ false → HaveNoLevel is_forward (v ∷ vs)
    go (carried k) e off = cc
    go independent e off = (
      λ level. none_of (Some level) v vs (subst (MayPrecede (carried (level + 1))) (sym e) tt) order,
      λ forward. cc,
    )
    go backward e off = (
      λ level. none_of (Some level) v vs (subst (MayPrecede (carried (level + 1))) (sym e) tt) order,
      λ forward. none_of None v vs (subst (MayPrecede backward) (sym e) tt) order,
    )

-- no vectors are left of references that mean different private copies
pub none_shared : (p : Pair) (vectors shared : List (List Direction)) → p.owner ≡ None → shared ≡ [] → held_divided p shared ≡ held_edges p vectors
none_shared p vectors shared e s =
    ap (λ (vs : List (List Direction)). held_divided p vs) s
    ∙ none_divided p [] (λ level. refl, λ forward. refl)
    ∙ sym (ap (λ (o : Option ℕ). held_by o p vectors) e)
