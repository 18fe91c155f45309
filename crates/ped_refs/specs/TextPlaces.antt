-- The order of references and of pairs in the text of a program (this project).
use Rattle.std.specs.Prelude.{◌≡◌, ◌⊎◌, ℕ, ◌<◌}
use Rattle.ped_refs.specs.References.{Reference}

-- a place comes before another one: in an earlier statement, or in the same statement with a lesser number (this project)
abbrev pub IsBefore : ℕ × ℕ → ℕ × ℕ → Type 0
IsBefore a b = (a.0 < b.0) ⊎ ((a.0 ≡ b.0) × (a.1 < b.1))

-- the place of a reference: its statement, and its number in the statement (this project)
abbrev pub place_of : Reference → ℕ × ℕ
place_of r = (r.statement, r.number)

-- the places of the source and of the sink of a pair (this project)
abbrev pub Key : Type 0
Key = (ℕ × ℕ) × (ℕ × ℕ)

-- the key of a pair (this project)
abbrev pub key_of : Reference × Reference → Key
key_of p = (place_of p.0, place_of p.1)

-- a key comes before another one: by its source, or for one source by its sink (this project)
abbrev pub IsKeyBefore : Key → Key → Type 0
IsKeyBefore a b = IsBefore a.0 b.0 ⊎ ((a.0 ≡ b.0) × IsBefore a.1 b.1)
