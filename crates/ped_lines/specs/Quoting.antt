-- The place of a statement's next character relative to its constants. Only contracts of private functions use it.
use Rattle.std.specs.Prelude.{ℕ, List, [], ◌∷◌, ◌++◌, Bool, true, false, if◌then◌else◌}
use Rattle.ped_tree.specs.Grammar.Characters.{is_quoted, ends_apart}
use Rattle.ped_lines.specs.declared.characters.Quoting.{Quoting}
use Rattle.ped_lines.specs.declared.characters.Quoting.TheVariants.{Inside, Closed, Apart, Outside}

-- in a constant
abbrev pub is_inside : Quoting → Bool
is_inside Inside = true
is_inside Closed = false
is_inside Apart = false
is_inside Outside = false

-- by whether a constant is open, whether blanks alone follow one, and whether they do after one more blank
abbrev pub quoting_by : Bool → Bool → Bool → Quoting
quoting_by quoted apart next = if quoted then Inside else if apart then Apart else if next then Closed else Outside

-- the place of the next character after these
unfoldable pub quoting_of : List ℕ → Quoting
quoting_of before = quoting_by (is_quoted before) (ends_apart before) (ends_apart (before ++ 32 ∷ []))

-- characters after which the next one has this place
abbrev pub front_of : Quoting → List ℕ
front_of Inside = 39 ∷ []
front_of Closed = 39 ∷ 39 ∷ []
front_of Apart = 39 ∷ 39 ∷ 32 ∷ []
front_of Outside = []
