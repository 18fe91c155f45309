-- Keys are compared and hashed as what they are (plain words).
use Rattle.std.specs.Prelude.{◌≡◌, true, ◌&&◌, ◌==◌, Decides}
use Rattle.std.proofs.Common.{ap}
use Rattle.std.proofs.lemmas.Bool.Decides.{Decides-and, Decides-like}
use Rattle.std.specs.Cmp.{IsEquivalence, IsPartialEquivalence, decided, partial_equiv_from_equiv, unsigned_Decides}
use Rattle.std.specs.Cmp.Lexicographic.{pointwise}
use Rattle.ped_store.specs.Cells.{Cell, same_iteration, same_cell}
use Rattle.ped_store.specs.IterationLaws.{iterations_decide}
use Rattle.ped_laws.proofs.ActLaws.SameCells.{cell_is, is_cell}
use Rattle.ped_order.specs.Keys.{Key, same_key, key_writes, cell_writes}

-- the test of keys is equality
pub key_decides : (k l : Key) → Decides (same_key k l) (k ≡ l)
key_decides k l =
    Decides-like (same_key k l) (λ p z. record { statement = p.0 z; cell = p.1.0 z; around = p.1.1 z }) (λ e. (ap (λ (j : Key). j.statement) e, (ap (λ (j : Key). j.cell) e, ap (λ (j : Key). j.around) e)))
    (Decides-and (k.statement == l.statement) (same_cell k.cell l.cell && pointwise same_iteration k.around l.around) (unsigned_Decides k.statement l.statement)
    (Decides-and (same_cell k.cell l.cell) (pointwise same_iteration k.around l.around) (cell_is k.cell l.cell, is_cell k.cell l.cell) (iterations_decide k.around l.around)))

-- the test of keys goes both ways, and from one to the next
pub key_equivalence : IsEquivalence same_key
key_equivalence = decided same_key key_decides

-- the same of keys that may be equal to none
pub key_partial_equivalence : IsPartialEquivalence same_key
key_partial_equivalence = partial_equiv_from_equiv key_equivalence

-- equal keys are hashed alike
pub keys_hash_alike : (k l : Key) → same_key k l ≡ true → key_writes k ≡ key_writes l
keys_hash_alike k l e = ap key_writes ((key_decides k l).0 e)

-- the test of cells is equality
pub cell_decides : (c d : Cell) → Decides (same_cell c d) (c ≡ d)
cell_decides c d = (cell_is c d, is_cell c d)

-- the test of cells goes both ways, and from one to the next
pub cell_equivalence : IsEquivalence same_cell
cell_equivalence = decided same_cell cell_decides

-- the same of cells that may be equal to none
pub cell_partial_equivalence : IsPartialEquivalence same_cell
cell_partial_equivalence = partial_equiv_from_equiv cell_equivalence

-- equal cells are hashed alike
pub cells_hash_alike : (c d : Cell) → same_cell c d ≡ true → cell_writes c ≡ cell_writes d
cells_hash_alike c d e = ap cell_writes ((cell_decides c d).0 e)
