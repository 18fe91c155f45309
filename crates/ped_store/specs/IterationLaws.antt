-- Iterations are compared and hashed as what they are (plain words).
use Rattle.std.specs.Prelude.{◌≡◌, List, true, ◌==◌, Decides}
use Rattle.std.proofs.Common.{refl, ap}
use Rattle.std.proofs.lemmas.Bool.Decides.{Decides-and, Decides-like}
use Rattle.std.proofs.lemmas.Slice.Eq.{slice_eq-Decides}
use Rattle.std.specs.Cmp.{IsEquivalence, IsPartialEquivalence, decided, partial_equiv_from_equiv, unsigned_Decides}
use Rattle.std.specs.Cmp.Lexicographic.{pointwise}
use Rattle.ped_store.specs.Cells.{Iteration, same_iteration}
use Rattle.ped_store.specs.Iterations.{iterations_writes}

-- the test of iterations is equality
pub iteration_decides : (i j : Iteration) → Decides (same_iteration i j) (i ≡ j)
iteration_decides i j =
    Decides-like (same_iteration i j) (λ p z. record { statement = p.0 z; number = p.1 z }) (λ e. (ap (λ (k : Iteration). k.statement) e, ap (λ (k : Iteration). k.number) e))
    (Decides-and (i.statement == j.statement) (i.number == j.number) (unsigned_Decides i.statement j.statement) (unsigned_Decides i.number j.number))

-- so is that of lists of them
pub iterations_decide : (is js : List Iteration) → Decides (pointwise same_iteration is js) (is ≡ js)
iterations_decide is js = slice_eq-Decides iteration_decides is js (pointwise same_iteration is js) refl

-- the test goes both ways, and from one list to the next
pub iterations_equivalence : IsEquivalence (pointwise same_iteration)
iterations_equivalence = decided (pointwise same_iteration) iterations_decide

-- the same of lists that may be equal to none
pub iterations_partial_equivalence : IsPartialEquivalence (pointwise same_iteration)
iterations_partial_equivalence = partial_equiv_from_equiv iterations_equivalence

-- equal lists are hashed alike
pub iterations_hash_alike : (is js : List Iteration) → pointwise same_iteration is js ≡ true → iterations_writes is ≡ iterations_writes js
iterations_hash_alike is js e = ap iterations_writes ((iterations_decide is js).0 e)
