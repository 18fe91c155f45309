-- How the bytes of a name are kept.
use Rattle.std.proofs.Common.{◌≡◌, ◌≤◌, ◌++◌, ◌-◌, ℕ, List, true, length, drop, replicate, refl, ap, ◌∙◌, arith}
use Rattle.std.proofs.lemmas.List.{take_at, drop_at, drop-replicate, length-append, length-replicate}
use Rattle.ped_base.specs.Letters.{is_name}
use Rattle.ped_base.specs.Names.{IsNameInside, inside}

-- the bytes of a name, kept before zeros, are the inside of a name
pub inside_is : (bytes : List ℕ) → length bytes ≤ 31 → is_name bytes ≡ true → IsNameInside (inside bytes)
inside_is bytes few name = record {
  short = few;
  long = length-append bytes (replicate (31 - length bytes) 0) ∙ omega (arith, length-replicate {A = ℕ} (31 - length bytes) 0);
  name = ap is_name (take_at bytes (replicate (31 - length bytes) 0) (length bytes) refl) ∙ name;
  zeros = drop_at bytes (replicate (31 - length bytes) 0) (length bytes) refl;
}

-- the bytes copied over the front of zeros are so kept
pub kept : (bytes copied zeros : List ℕ) → copied ≡ bytes → zeros ≡ replicate 31 0 → copied ++ drop (length bytes) zeros ≡ bytes ++ replicate (31 - length bytes) 0
kept bytes copied zeros same all = ap (λ (c : List ℕ). c ++ drop (length bytes) zeros) same ∙ ap (λ (z : List ℕ). bytes ++ drop (length bytes) z) all ∙ ap (λ (z : List ℕ). bytes ++ z) (drop-replicate (length bytes) 31 0)
