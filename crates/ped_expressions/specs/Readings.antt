-- What the result of a reader says about a text (this project).
use Rattle.std.specs.Prelude.{Bool, IsTrue, IsFalse}
use Rattle.ped_expressions.specs.declared.readings.Reading.{Reading}
use Rattle.ped_expressions.specs.declared.readings.Reading.TheVariants.{Tree, TooLarge, NoForm}

-- the tree that the text reads as, where no literal in it is too large; that one is; that the text reads as none
abbrev pub Says : {T X : Type 0} → (T → Type 0) → (T → Bool) → (X → T) → Reading X → Type 0
Says reads is_large view (Tree x) = reads (view x) × IsFalse (is_large (view x))
Says {T} reads is_large view TooLarge = (t : T) × reads t × IsTrue (is_large t)
Says {T} reads is_large view NoForm = (t : T) → reads t → ⊥
