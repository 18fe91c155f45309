-- Rows of the places of possible vectors.
use Rattle.std.proofs.Common.{◌≡◌, ◌↔◌, ℕ, zero, suc, ◌+◌, ◌<◌, ◌≤◌, List, [], ◌∷◌, ◌++◌, length, get_or, slice_index_or, Bool, true, false, IsTrue, refl, sym, subst, ◌∙◌, inl, inr, arith}
use Rattle.std.proofs.lemmas.Bool.{cases_lt, false≢true}
use Rattle.std.proofs.lemmas.List.{get_or_past}
use Rattle.ped_views.specs.declared.directions.Direction.{Direction}
use Rattle.ped_views.specs.Views.{View}
use Rattle.ped_views.specs.Vectors.{IsPossible, AreVectors, all_vectors}
use Rattle.ped_bits.specs.Places.{Has}
use Rattle.ped_verdict.specs.Dependence.{MayDepend, HasList}
use Rattle.ped_verdict.specs.Marked.{place_of, AreMarked}
use Rattle.ped_verdict.proofs.Ordered.{at_place, length-all_vectors, all_vectors_at}
use Rattle.ped_verdict.proofs.Chosen.{AreAhead, one_found, passed_over, all_found}

-- the place of some vector is in a row that isn't empty
some_vector : (v : View) (row : List Bool) → AreMarked v row → (place : ℕ) → Has row place → MayDepend v
some_vector v row m place h = elim (cases_lt place (length row)) [
  | inl below ↦
      let w = m.wide in
      let at = at_place (length v.loops) place (omega arith) in
      (at.vector, at.long, (m.marks at.vector at.long).0 (subst (Has row) (sym at.is) h))
  | inr past ↦ let d = get_or_past row place false past in absurd (cc)
]

pub has_some : (v : View) (row : List Bool) → AreMarked v row → (t : Bool) → (IsTrue t ↔ ((place : ℕ) × Has row place × Has row place)) → IsTrue t ↔ MayDepend v
has_some v row m t h = (
  λ x. let s = h.0 x in some_vector v row m s.0 s.1,
  λ s. let p = (m.marks s.0 s.1).1 s.2 in h.1 (place_of s.0, p, p),
)

-- one place further in the list of all vectors
module _ (v : View) (row : List Bool) (m : AreMarked v row) (place : ℕ) (found : List (List Direction)) (below : place < length row) where
  abbrev Ahead : ℕ → List (List Direction) → Type 0
  Ahead k vectors = AreAhead (IsPossible v) (all_vectors (length v.loops)) k vectors

  stands : (w : List Direction) → length w ≡ length v.loops → place_of w ≡ place → get_or (all_vectors (length v.loops)) place w ≡ w
  stands w l e = subst (λ (k : ℕ). get_or (all_vectors k) place w ≡ w) l (subst (λ (k : ℕ). get_or (all_vectors (length w)) k w ≡ w) e (all_vectors_at w w))

  within_all : place < length (all_vectors (length v.loops))
  within_all = let w = m.wide in let l = length-all_vectors (length v.loops) in omega arith

  pub one_more : (w : List Direction) → length w ≡ length v.loops → place_of w ≡ place → Has row place → Ahead place found → Ahead (place + 1) (found ++ w ∷ [])
  one_more w l e h ahead = one_found (IsPossible v) (all_vectors (length v.loops)) place found w within_all (stands w l e) ((m.marks w l).0 (subst (Has row) (sym e) h)) ahead

  pub none_there : ¬ (Has row place) → Ahead place found → Ahead (place + 1) found
  none_there n ahead =
      let w = m.wide in
      let at = at_place (length v.loops) place (omega arith) in
      passed_over (IsPossible v) (all_vectors (length v.loops)) place found at.vector within_all (stands at.vector at.long at.is) (λ p. n (subst (Has row) at.is ((m.marks at.vector at.long).1 p))) ahead

-- behind the last place all possible vectors are found
pub all_there : (v : View) (row : List Bool) → AreMarked v row → (place : ℕ) (found : List (List Direction)) → length row ≤ place → AreAhead (IsPossible v) (all_vectors (length v.loops)) place found → AreVectors v found
all_there v row m place found past ahead =
    let w = m.wide in
    let l = length-all_vectors (length v.loops) in
    all_found (IsPossible v) (all_vectors (length v.loops)) place found (omega arith) ahead

-- the possible vectors before each place can be found
found_before : (v : View) (row : List Bool) → AreMarked v row → (place : ℕ) → place ≤ length row
    → (found : List (List Direction)) × AreAhead (IsPossible v) (all_vectors (length v.loops)) place found
found_before v row m zero below = ([], λ rest h. h)
found_before v row m (suc place) below = by (slice_index_or row place false) refl (found_before v row m place (omega (arith, below)))
  where
    there : place < length row
    there = omega (arith, below)

    next : place + 1 ≡ suc place
    next = omega arith

    by : (b : Bool) → slice_index_or row place false ≡ b → (found : List (List Direction)) × AreAhead (IsPossible v) (all_vectors (length v.loops)) place found → (found : List (List Direction)) × AreAhead (IsPossible v) (all_vectors (length v.loops)) (suc place) found
    by true is (found, ahead) =
        let w = m.wide in
        let at = at_place (length v.loops) place (omega (arith, w, there)) in
        (found ++ at.vector ∷ [], subst (λ (k : ℕ). AreAhead (IsPossible v) (all_vectors (length v.loops)) k (found ++ at.vector ∷ [])) next (one_more v row m place found there at.vector at.long at.is is ahead))
    by false is (found, ahead) =
        (found, subst (λ (k : ℕ). AreAhead (IsPossible v) (all_vectors (length v.loops)) k found) next (none_there v row m place found there (λ h. false≢true (sym is ∙ h)) ahead))

-- a view has its vectors
pub some_list : (v : View) (row : List Bool) → AreMarked v row → HasList v
some_list v row m =
    let s = found_before v row m (length row) (omega arith) in
    (s.0, all_there v row m (length row) s.0 (omega arith) s.1)
