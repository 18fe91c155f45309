use Rattle.std.proofs.Common.{◌≡◌, ◌*ℤ◌, ◌++◌, map, take, drop}
use Rattle.std.specs.List.{list_all}
use Rattle.ped_affine.specs.AffineForms.{is_small}
use Rattle.ped_affine.proofs.coefficients.multiply_all.Given as goal

abbrev pub invariant-loop-i : goal.invariant-loop-i
invariant-loop-i l = record {
  products : take l.i l.products ++ map (λ a. l.n *ℤ a) (drop l.i l.products) ≡ map (λ a. l.n *ℤ a) l.fn.products;
  answer : list_all is_small (map (λ a. l.n *ℤ a) (drop l.i l.products)) ≡ list_all is_small (map (λ a. l.n *ℤ a) l.fn.products);
}
