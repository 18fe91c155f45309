-- Names as their bytes (this project).
use Rattle.std.specs.Prelude.{◌≡◌, ℕ, ◌-◌, ◌≤◌, List, ◌++◌, length, take, drop, replicate, IsTrue}
use Rattle.std.proofs.Common.{arith}
use Rattle.std.proofs.lemmas.List.{length-take-le, take-append-drop}
use Rattle.ped_base.specs.Letters.{is_name}
use Rattle.ped_base.specs.declared.identifiers.Name.TheInside.{Inside}

-- the bytes of a name are at the front, and zeros fill the rest
pub record IsNameInside (a : Inside) : Type 0 where
  pub short : a.len ≤ 31
  pub long : length a.text ≡ 31
  pub name : IsTrue (is_name (take a.len a.text))
  pub zeros : drop a.len a.text ≡ replicate (31 - a.len) 0

-- how a name's bytes are kept
abbrev pub inside : List ℕ → Inside
inside bytes = record { len = length bytes; text = bytes ++ replicate (31 - length bytes) 0 }

-- a name that is taken out and kept again is the same
pub inside_back : (a : Inside) → IsNameInside a → inside (take a.len a.text) ≡ a
inside_back a h =
    let l : length (take a.len a.text) ≡ a.len = length-take-le a.len a.text (omega (arith, h.long, h.short)) in
    let t : take a.len a.text ++ replicate (31 - length (take a.len a.text)) 0 ≡ a.text =
    rw (l, ← h.zeros) (take-append-drop a.len a.text) in
    λ i. record { len = l i; text = t i }
