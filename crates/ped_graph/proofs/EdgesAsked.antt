-- Dependences that are asked for: those of other pairs are none of them.
use Rattle.std.proofs.Common.{◌≡◌, ℕ, ◌+◌, List, [], ◌∷◌, ◌++◌, filter, cond, length, drop, ◌≤◌, refl, sym, ap, ◌∙◌, Bool, true, false, Option, None, Some, if◌then◌else◌}
use Rattle.std.specs.List.{flat_map, range_with_len}
use Rattle.std.proofs.lemmas.List.Elements.{filter-append}
use Rattle.ped_base.specs.Lists.{has_some}
use Rattle.ped_views.specs.declared.directions.Direction.{Direction}
use Rattle.ped_edges.specs.Edges.{Edge}
use Rattle.ped_verdict.specs.Dependence.{HasList}
use Rattle.ped_graph.specs.Owners.{within_iteration}
use Rattle.ped_graph.specs.Dependences.{vectors_of}
use Rattle.ped_graph.specs.Held.{Pair, held_edge, held_edges, held_by, held_divided}
use Rattle.ped_graph.specs.HeldPairs.{HaveSame, IsHeldAsked, AreHeldAsked}
use Rattle.ped_graph.proofs.HeldEdges.{AreAhead, none_found, one_found, all_found}

-- with dependences found behind others on both sides, the same are asked for
same_behind : (asked : Edge → Bool) (found all added first : List Edge) → HaveSame asked found all → HaveSame asked added first → HaveSame asked (found ++ added) (all ++ first)
same_behind asked found all added first h k = filter-append asked found added ∙ (λ i. h i ++ k i) ∙ sym (filter-append asked all first)

-- a pair none of whose dependences is kept
module _ (keeps : Edge → Bool) (p : Pair) (out : (e : Edge) → e.source ≡ p.source → e.sink ≡ p.sink → keeps e ≡ false) where
  one_dropped : (e : Edge) → keeps e ≡ false → (there : Bool) → filter keeps (if there then e ∷ [] else []) ≡ []
  one_dropped e h true = ap (λ (b : Bool). cond b (e ∷ []) []) h
  one_dropped e h false = refl

  level_dropped : (level : Option ℕ) (vectors : List (List Direction)) → filter keeps (held_edge p level vectors) ≡ []
  level_dropped level vectors = one_dropped _ (out _ refl refl) (has_some vectors)

  levels_dropped : (f : ℕ → List (List Direction)) (levels : List ℕ) → filter keeps (flat_map (λ level. held_edge p (Some level) (f level)) levels) ≡ []
  levels_dropped f [] = refl
  levels_dropped f (k ∷ ks) =
      filter-append keeps (held_edge p (Some k) (f k)) (flat_map (λ level. held_edge p (Some level) (f level)) ks)
      ∙ (λ i. level_dropped (Some k) (f k) i ++ levels_dropped f ks i)

  forward_dropped : (forward : Bool) (vectors : List (List Direction)) → filter keeps (if forward then held_edge p None vectors else []) ≡ []
  forward_dropped true vectors = level_dropped None vectors
  forward_dropped false vectors = refl

  divided_dropped : (vectors : List (List Direction)) → filter keeps (held_divided p vectors) ≡ []
  divided_dropped vectors =
      filter-append keeps (flat_map (λ level. held_edge p (Some level) (vectors_of (Some level) vectors)) (range_with_len 1 (length p.view.loops))) (if p.is_forward then held_edge p None (vectors_of None vectors) else [])
      ∙ (λ i. levels_dropped (λ level. vectors_of (Some level) vectors) (range_with_len 1 (length p.view.loops)) i ++ forward_dropped p.is_forward (vectors_of None vectors) i)

  owned_dropped : (owner : Option ℕ) (vectors : List (List Direction)) → filter keeps (held_by owner p vectors) ≡ []
  owned_dropped None vectors = refl
  owned_dropped (Some level) vectors = divided_dropped (within_iteration level vectors)

  all_dropped : (vectors : List (List Direction)) → filter keeps (held_edges p vectors) ≡ []
  all_dropped vectors = owned_dropped p.owner vectors

-- none of the dependences of a pair is asked for
pub none_asked : (asked : Edge → Bool) (p : Pair) → ((e : Edge) → e.source ≡ p.source → e.sink ≡ p.sink → asked e ≡ false) → length p.view.loops ≤ 6 → HasList p.view → IsHeldAsked asked p []
none_asked asked p out few there = (held_edges p there.0, record { few = few; vectors = there.0; possible = there.1; divided = refl }, sym (all_dropped asked p out there.0))

-- as to what is asked for, the dependences so far and those of the pairs ahead of place i are all
abbrev pub AreAheadAsked : (Edge → Bool) → List Pair → ℕ → List Edge → Type 0
AreAheadAsked asked ps i found = (all : List Edge) × AreAhead ps i all × HaveSame asked found all

pub none_found_asked : (asked : Edge → Bool) (ps : List Pair) → AreAheadAsked asked ps 0 []
none_found_asked asked ps = ([], none_found ps, refl)

-- behind one more pair
pub one_found_asked : (asked : Edge → Bool) (ps : List Pair) (i : ℕ) (found added : List Edge) (p : Pair) → drop i ps ≡ p ∷ drop (i + 1) ps
    → IsHeldAsked asked p added → AreAheadAsked asked ps i found → AreAheadAsked asked ps (i + 1) (found ++ added)
one_found_asked asked ps i found added p next one so_far =
    (so_far.0 ++ one.0, one_found ps i so_far.0 one.0 p next one.1 so_far.1, same_behind asked found so_far.0 added one.0 so_far.2 one.2)

-- behind the last pair
pub all_found_asked : (asked : Edge → Bool) (ps : List Pair) (i : ℕ) (found : List Edge) → length ps ≤ i → AreAheadAsked asked ps i found → AreHeldAsked asked ps found
all_found_asked asked ps i found past so_far = (so_far.0, all_found ps i so_far.0 past so_far.1, so_far.2)
