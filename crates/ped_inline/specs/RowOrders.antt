-- The order of rows is one: each two rows are in it in one way, and those that it can't distinguish are the same (plain words).
use Rattle.std.specs.Prelude.{◌≡◌, ℕ, Option, Some, None, refl}
use Rattle.std.specs.Ordering.{ordering_reverse}
use Rattle.std.specs.declared.cmp.Ordering.TheVariants.{Less, Equal}
use Rattle.std.specs.Cmp.{IsTotalOrder, nat_cmp_total, on_total, then_total}
use Rattle.std.specs.Cmp.Lexicographic.{nat_list_cmp_total}
use Rattle.ped_inline.specs.Folding.{Row, kind_rank, level_cmp, row_cmp}
use Rattle.ped_inline.specs.CodeFolding.{row_seen}
use Rattle.ped_inline.specs.declared.rows.FoldedRow.{FoldedRow}

level_total : IsTotalOrder level_cmp
level_total = record {
  antisymm = antisymm;
  trans = trans;
  congr = congr;
}
  where
    antisymm : (x y : Option ℕ) → level_cmp x y ≡ ordering_reverse (level_cmp y x)
    antisymm (Some a) (Some b) = nat_cmp_total.antisymm a b
    antisymm (Some a) None = refl
    antisymm None (Some b) = refl
    antisymm None None = refl

    trans : (x y z : Option ℕ) → level_cmp x y ≡ Less → level_cmp y z ≡ Less → level_cmp x z ≡ Less
    trans (Some a) (Some b) (Some c) h k = nat_cmp_total.trans a b c h k
    trans (Some a) (Some b) None h k = refl
    trans (Some a) None (Some c) h k = absurd cc
    trans (Some a) None None h k = absurd cc
    trans None (Some b) z h k = absurd cc
    trans None None z h k = absurd cc

    congr : (x y z : Option ℕ) → level_cmp x y ≡ Equal → level_cmp x z ≡ level_cmp y z
    congr (Some a) (Some b) (Some c) h = nat_cmp_total.congr a b c h
    congr (Some a) (Some b) None h = refl
    congr (Some a) None z h = absurd cc
    congr None (Some b) z h = absurd cc
    congr None None z h = refl

-- the order of rows is total (plain words)
pub row_cmp_total : IsTotalOrder row_cmp
row_cmp_total =
    then_total (on_total (λ (r : Row). r.source) nat_cmp_total)
    (then_total (on_total (λ (r : Row). r.sink) nat_cmp_total)
    (then_total (on_total (λ (r : Row). r.name) nat_list_cmp_total)
    (then_total (on_total (λ (r : Row). kind_rank r.kind) nat_cmp_total)
    (on_total (λ (r : Row). r.level) level_total))))

-- so is that of rows as the code keeps them (plain words)
pub rows_total : IsTotalOrder (λ (a b : FoldedRow). row_cmp (row_seen a) (row_seen b))
rows_total = on_total row_seen row_cmp_total
