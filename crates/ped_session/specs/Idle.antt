-- Lines of evidence that prove nothing, and what a script is told of them (this project).
use Rattle.std.specs.Prelude.{◌≡◌, ℕ, ◌+◌, List, [], ◌∷◌, ◌++◌, codes, Bool, true, false, not, if◌then◌else◌}
use Rattle.ped_tree.specs.Tree.{ProgramTree}
use Rattle.ped_versions.specs.ped_valid.specs.Validity.{ReadsValid}
use Rattle.ped_script.specs.ped_certificates.specs.declared.claims.EvidenceLine.{EvidenceLine}
use Rattle.ped_script.specs.ped_certificates.specs.declared.claims.EvidenceLine.TheVariants.{Empty, Malformed, Claim}
use Rattle.ped_script.specs.declared.kinds.CommandKind.{CommandKind}
use Rattle.ped_script.specs.Kinds.{evidence_among}
use Rattle.ped_transformations.specs.ped_evidence.specs.Evidence.{holds}
use Rattle.ped_transformations.specs.ped_evidence.specs.Lines.{line_of}
use Rattle.ped_versions.specs.States.{State}
use Rattle.ped_session.specs.Replies.{answer_row}

-- a line of evidence proves nothing in a program: it isn't of the form, or it doesn't hold there; a line without a word is passed over (this project)
abbrev pub is_idle : ProgramTree → EvidenceLine → Bool
is_idle t Empty = false
is_idle t Malformed = true
is_idle t (Claim claim) = not (holds t (line_of claim))

-- the row that says that the line with this number is idle
abbrev pub row_of_idle : ℕ → List ℕ
row_of_idle number = answer_row number (codes "idle")

-- the row of the line with this number, where it is idle
abbrev pub idle_row : ProgramTree → ℕ → EvidenceLine → List ℕ
idle_row t number line = if is_idle t line then row_of_idle number else []

-- the rows of idle lines in their order; the first line has this number
abbrev pub idle_rows : ProgramTree → ℕ → List EvidenceLine → List ℕ
idle_rows t number [] = []
idle_rows t number (line ∷ lines) = idle_row t number line ++ idle_rows t (number + 1) lines

-- these are the rows of idle lines in the program that a source reads as; where there is no line, there is no row
abbrev pub AreIdleRows : List ℕ → ℕ → List EvidenceLine → List ℕ → Type 0
AreIdleRows source number [] rows = rows ≡ []
AreIdleRows source number (line ∷ lines) rows = (t : ProgramTree) × ReadsValid source t × (rows ≡ idle_rows t number (line ∷ lines))

-- these are the rows of idle lines of a command of this kind, which are the lines of the script after this one, in the present program; a command without evidence has none (this project)
abbrev pub AreIdle : ℕ → CommandKind → State → List ℕ → Type 0
AreIdle line kind s rows = AreIdleRows s.present (line + 1) (evidence_among kind) rows
