-- Acts of small programs.
use Rattle.std.specs.Prelude.{ℕ, pos, List, [], ◌∷◌, false}
use Rattle.ped_laws.specs.ped_store.specs.Cells.{Cell, Scalar, Element, Private}
use Rattle.ped_laws.specs.ped_store.specs.Stores.{Number, Undefined}
use Rattle.ped_laws.specs.ped_store.specs.Acts.{reads, writes, is_told, Touch, Turn, Step, Act}

-- the scalars I, J, N, T, the copies of T that belong to iterations of a DO with number 1, and elements of the arrays A, B
abbrev pub i : Cell
i = Scalar (73 ∷ [])

abbrev pub j : Cell
j = Scalar (74 ∷ [])

abbrev pub n : Cell
n = Scalar (78 ∷ [])

abbrev pub t : Cell
t = Scalar (84 ∷ [])

abbrev pub copy : ℕ → Cell
copy k = Private (84 ∷ []) (record { statement = 1; number = k } ∷ [])

abbrev pub a : ℕ → Cell
a k = Element (65 ∷ []) (pos k ∷ [])

abbrev pub b : ℕ → Cell
b k = Element (66 ∷ []) (pos k ∷ [])

abbrev pub c : ℕ → ℕ → Cell
c k l = Element (67 ∷ []) (pos k ∷ pos l ∷ [])

abbrev pub told : Cell → ℕ → ℕ → Touch
told x v r = record { cell = x; manner = is_told; content = Number (pos v); reference = r }

abbrev pub read : Cell → ℕ → ℕ → Touch
read x v r = record { cell = x; manner = reads; content = Number (pos v); reference = r }

abbrev pub write : Cell → ℕ → ℕ → Touch
write x v r = record { cell = x; manner = writes; content = Number (pos v); reference = r }

-- T becomes undefined, by reference 3
abbrev pub undefines_t : Touch
undefines_t = record { cell = t; manner = writes; content = Undefined; reference = 3 }

-- iteration k of the DO with this statement number, whose variable is k
abbrev pub turn : ℕ → ℕ → Turn
turn statement k = record { statement = statement; parallel = false; number = k; value = pos k }

abbrev pub act : Step → ℕ → List Turn → List Touch → Act
act step statement turns touches = record { step = step; place = record { statement = statement; turns = turns }; touches = touches }
