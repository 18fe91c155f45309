-- How the bounds of an array are kept (ANSI X3.9-1978, section 5.1.1).
use Rattle.std.specs.Prelude.{◌≡◌, ◌-◌, ◌≤◌, ℤ, pos, List, ◌++◌, length, take, drop, replicate}
use Rattle.std.proofs.Common.{arith}
use Rattle.std.proofs.lemmas.List.{length-take-le, take-append-drop}
use Rattle.ped_base.specs.declared.bounds.Bounds.TheInside.{Inside}

-- the dimensions of an array: its lower and its upper bounds, none for a scalar
pub record Dimensions : Type 0 where
  pub lower : List ℤ
  pub upper : List ℤ

-- the bounds of the dimensions
abbrev pub dimensions : Inside → Dimensions
dimensions b = record { lower = take b.rank b.lower; upper = take b.rank b.upper }

-- at most seven dimensions, and 0 in the places past them
pub record IsBounds (b : Inside) : Type 0 where
  pub few : b.rank ≤ 7
  pub lower_long : length b.lower ≡ 7
  pub upper_long : length b.upper ≡ 7
  pub lower_rest : drop b.rank b.lower ≡ replicate (7 - b.rank) (pos 0)
  pub upper_rest : drop b.rank b.upper ≡ replicate (7 - b.rank) (pos 0)

-- how dimensions are kept (this project)
abbrev pub bounds : Dimensions → Inside
bounds d = record {
  rank = length d.lower;
  lower = d.lower ++ replicate (7 - length d.lower) (pos 0);
  upper = d.upper ++ replicate (7 - length d.upper) (pos 0);
}

-- dimensions that are kept and taken out again are the same (this project)
pub bounds_back : (b : Inside) → IsBounds b → bounds (dimensions b) ≡ b
bounds_back b h =
    let n : length (take b.rank b.lower) ≡ b.rank = length-take-le b.rank b.lower (omega (arith, h.lower_long, h.few)) in
    let m : length (take b.rank b.upper) ≡ b.rank = length-take-le b.rank b.upper (omega (arith, h.upper_long, h.few)) in
    let l : take b.rank b.lower ++ replicate (7 - length (take b.rank b.lower)) (pos 0) ≡ b.lower =
    rw (n, ← h.lower_rest) (take-append-drop b.rank b.lower) in
    let u : take b.rank b.upper ++ replicate (7 - length (take b.rank b.upper)) (pos 0) ≡ b.upper =
    rw (m, ← h.upper_rest) (take-append-drop b.rank b.upper) in
    λ i. record { rank = n i; lower = l i; upper = u i }
