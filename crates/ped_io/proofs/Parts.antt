-- What a read of a part gives.
use Rattle.std.proofs.Common.{◌≡◌, ◌⊎◌, ◌≤◌, ℕ, List, Some, length, take, drop, inl, inr, sym, ◌∙◌, ap, arith, length-drop}
use Rattle.std.specs.Option.{option_or}
use Rattle.std.proofs.lemmas.Bool.{cases_lt}
use Rattle.std.proofs.lemmas.List.{length-take-le, take_at}
use Rattle.std.proofs.lemmas.Option.{same_Some}
use Rattle.ped_io.specs.Outside.{Contents, held_content, content, GivesPart}
use Rattle.ped_io.specs.Shelves.{Copies}

inside_of : (bytes old new : List ℕ) (at most n : ℕ) → Copies bytes at most n old new →
    n ≤ length (drop at bytes)
inside_of bytes old new at most n copies = omega (arith, copies.len)

-- where a shelf that allows bytes copies none, there is no room or nothing left
end_of : (bytes old new : List ℕ) (at most n : ℕ) → (most ≡ 0 → length old ≡ 0) →
    Copies bytes at most n old new → n ≡ 0 → (length old ≡ 0) ⊎ (length bytes ≤ at)
end_of bytes old new at most n some copies none =
    elim (cases_lt 0 (length old)) [
      | inl room ↦
          elim (cases_lt 0 most) [
            | inl any ↦ inr (omega (arith, copies.len, length-drop at bytes))
            | inr nothing ↦ inl (some (omega arith))
          ]
      | inr full ↦ inl (omega arith)
    ]

-- a copy gives part of the bytes
pub GivesPart-Copies : (bytes old new : List ℕ) (at most n : ℕ) → (most ≡ 0 → length old ≡ 0) →
    Copies bytes at most n old new → GivesPart bytes at n old new
GivesPart-Copies bytes old new at most n some copies =
    let inside : n ≤ length (drop at bytes) = inside_of bytes old new at most n copies in
    let front : length (take n (drop at bytes)) ≡ n = length-take-le n (drop at bytes) inside in
    record {
      part = ap (take n) copies.piece ∙ take_at (take n (drop at bytes)) (drop n old) n front;
      inside = inside;
      end = end_of bytes old new at most n some copies;
    }

-- what a shelf gives is part of what it tells
pub given_told : (contents files : Contents) (name bytes old new : List ℕ) (at n : ℕ) →
    Some contents ≡ Some files → content contents name ≡ Some bytes → GivesPart bytes at n old new →
    (b : List ℕ) × (content files name ≡ Some b) × GivesPart b at n old new
given_told contents files name bytes old new at n told held part =
    (bytes, ap (λ c. content c name) (sym (same_Some _ _ told)) ∙ held, part)

-- a name that is held holds its content
pub content-held : (contents : Contents) (name bytes : List ℕ) →
    held_content contents name ≡ Some bytes → content contents name ≡ Some bytes
content-held contents name bytes held = ap (λ h. option_or h contents.other) held
