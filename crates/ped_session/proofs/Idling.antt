-- The rows of idle lines, one line after another.
use Rattle.std.proofs.Common.{◌≡◌, ℕ, ◌+◌, ◌<◌, List, [], ◌∷◌, ◌++◌, append-nil, append_assoc, length, take, get_or, sym, ap, ◌∙◌, arith}
use Rattle.std.proofs.lemmas.List.{take_more, length-take-le}
use Rattle.ped_tree.specs.Tree.{ProgramTree}
use Rattle.ped_versions.specs.ped_valid.specs.Validity.{ReadsValid}
use Rattle.ped_script.specs.ped_certificates.specs.declared.claims.EvidenceLine.{EvidenceLine}
use Rattle.ped_session.specs.Idle.{idle_row, idle_rows, AreIdleRows}

-- rows of lines, and of more lines behind them
rows_behind : (t : ProgramTree) (number : ℕ) (front back : List EvidenceLine) → idle_rows t number (front ++ back) ≡ idle_rows t number front ++ idle_rows t (number + length front) back
rows_behind t number [] back = ap (λ (n : ℕ). idle_rows t n back) (let e : number ≡ number + 0 = omega arith in e)
rows_behind t number (line ∷ front) back =
    ap (λ (rows : List ℕ). idle_row t number line ++ rows) (rows_behind t (number + 1) front back)
    ∙ sym (append_assoc (idle_row t number line) (idle_rows t (number + 1) front) (idle_rows t (number + 1 + length front) back))
    ∙ ap (λ (n : ℕ). (idle_row t number line ++ idle_rows t (number + 1) front) ++ idle_rows t n back) (let e : number + 1 + length front ≡ number + length (line ∷ front) = omega arith in e)

-- lines of a source that reads as a program
pub rows_in : (source : List ℕ) (number : ℕ) (lines : List EvidenceLine) (t : ProgramTree) (rows : List ℕ) → ReadsValid source t → rows ≡ idle_rows t number lines → AreIdleRows source number lines rows
rows_in source number [] t rows reads is = is
rows_in source number (line ∷ lines) t rows reads is = (t, reads, is)

-- one line more
pub rows_more : (t : ProgramTree) (number : ℕ) (lines : List EvidenceLine) (i : ℕ) (line : EvidenceLine) → i < length lines → line ≡ get_or lines i line
    → idle_rows t number (take (i + 1) lines) ≡ idle_rows t number (take i lines) ++ idle_row t (number + i) line
rows_more t number lines i line h at =
    ap (idle_rows t number) (take_more lines i line h ∙ ap (λ (x : EvidenceLine). take i lines ++ x ∷ []) (sym at))
    ∙ rows_behind t number (take i lines) (line ∷ [])
    ∙ ap (λ (rows : List ℕ). idle_rows t number (take i lines) ++ rows) (append-nil (idle_row t (number + length (take i lines)) line))
    ∙ ap (λ (n : ℕ). idle_rows t number (take i lines) ++ idle_row t (number + n) line) (length-take-le i lines (omega (arith, h)))
