-- Parts one behind the other, and the statements among them.
use Rattle.std.proofs.Common.{◌≡◌, ℕ, ◌+◌, List, [], ◌∷◌, ◌++◌, length, refl, ap, sym, ◌∙◌, length-append, add-zero, arith}
use Rattle.std.specs.List.{AllByRecursion}
use Rattle.ped_tree.specs.Tree.{ProgramTree}
use Rattle.ped_tree.specs.Grammar.Statement.{Statement}
use Rattle.ped_lines.specs.Printed.Printed.{PrintedNote, PrintedStatement, printed_lines, all_printed_lines}
use Rattle.ped_lines.specs.Printed.Fitting.{NoteFits, TextFits, StatementsFit}
use Rattle.ped_lines.specs.Printed.Cut.{cut_at, cut_from}
use Rattle.ped_lines.specs.Printed.Parts.{Part, a_note, a_statement, program_parts, with_notes, notes_left, printed_statements}

-- what holds of the elements of both lists holds of those of the joined list
pub all_joined : {X : Type 0} (P : X → Type 0) (xs ys : List X) → AllByRecursion P xs → AllByRecursion P ys → AllByRecursion P (xs ++ ys)
all_joined P [] ys h k = k
all_joined P (x ∷ xs) ys h k = (h.0, all_joined P xs ys h.1 k)

-- the notes behind the first parts stand before the others
pub statements_joined : (before : List PrintedNote) (ps qs : List Part) → with_notes before (ps ++ qs) ≡ with_notes before ps ++ with_notes (notes_left before ps) qs
statements_joined before [] qs = refl
statements_joined before (a_note n ∷ ps) qs = statements_joined (before ++ n ∷ []) ps qs
statements_joined before (a_statement depth text ∷ ps) qs =
    ap (λ (x : List PrintedStatement). record { notes = before; depth = depth; text = text } ∷ x) (statements_joined [] ps qs)

pub left_joined : (before : List PrintedNote) (ps qs : List Part) → notes_left before (ps ++ qs) ≡ notes_left (notes_left before ps) qs
left_joined before [] qs = refl
left_joined before (a_note n ∷ ps) qs = left_joined (before ++ n ∷ []) ps qs
left_joined before (a_statement depth text ∷ ps) qs = left_joined [] ps qs

-- the statements that are read from two lists, one behind the other
pub cut_joined : (n : ℕ) (ss ts : List PrintedStatement) → cut_from n (ss ++ ts) ≡ cut_from n ss ++ cut_from (n + length (all_printed_lines ss)) ts
cut_joined n [] ts = ap (λ (m : ℕ). cut_from m ts) (sym (add-zero n))
cut_joined n (s ∷ ss) ts =
    let place : (n + length (printed_lines s)) + length (all_printed_lines ss) ≡ n + length (all_printed_lines (s ∷ ss)) = omega (arith, length-append (printed_lines s) (all_printed_lines ss)) in
    ap (λ (x : List Statement). cut_at n s ∷ x) (cut_joined (n + length (printed_lines s)) ss ts ∙ ap (λ (m : ℕ). cut_from (n + length (printed_lines s)) ss ++ cut_from m ts) place)

-- a note or a statement can be read back
abbrev pub PartFits : Part → Type 0
PartFits (a_note n) = NoteFits n
PartFits (a_statement depth text) = TextFits depth text

-- and so can the statements among parts
pub statements_fit : (before : List PrintedNote) (ps : List Part) → AllByRecursion NoteFits before → AllByRecursion PartFits ps → StatementsFit (with_notes before ps)
statements_fit before [] b h = tt
statements_fit before (a_note n ∷ ps) b h = statements_fit (before ++ n ∷ []) ps (all_joined NoteFits before (n ∷ []) b (h.0, tt)) h.1
statements_fit before (a_statement depth text ∷ ps) b h = (record { notes = b; text = h.0 }, statements_fit [] ps tt h.1)

pub program_fits : (t : ProgramTree) → AllByRecursion PartFits (program_parts t) → StatementsFit (printed_statements t)
program_fits t h = statements_fit [] (program_parts t) tt h
