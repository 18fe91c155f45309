-- Comments and directives before a statement, line by line.
use Rattle.std.proofs.Common.{◌≡◌, ℕ, suc, ◌+◌, Bool, true, false, if◌then◌else◌, List, [], ◌∷◌, ◌++◌, map, length, drop, codes, filter, refl, ap, sym, ◌∙◌, append_assoc, length-append, add-zero, eqb, cond, inl, inr, arith}
use Rattle.std.specs.Prelude.{not, ◌||◌}
use Rattle.std.specs.List.{AllByRecursion, list_all}
use Rattle.std.specs.Char.{to_ascii_uppercase}
use Rattle.std.proofs.lemmas.List.{append-nil, take_all}
use Rattle.std.proofs.lemmas.Bool.{or_cases, or_from}
use Rattle.std.proofs.lemmas.List.Folds.{list_all-append}
use Rattle.ped_base.specs.Letters.{is_letter, is_digit, is_alphanumeric}
use Rattle.ped_tree.specs.Grammar.Characters.{is_printable}
use Rattle.ped_tree.specs.Grammar.Columns.{is_blank, is_comment, is_directive}
use Rattle.ped_tree.specs.Grammar.Statement.{Note}
use Rattle.ped_tree.specs.Grammar.Grouping.{with_rest, trimmed, comment_text, directive_text, comment_at, directive_at, further_lines, notes_within, notes_behind, statements_from}
use Rattle.ped_tree.specs.Grammar.LineRefusals.{in_statements}
use Rattle.ped_lines.specs.Printed.Printed.{PrintedNote, a_comment, a_rejection, note_line}
use Rattle.ped_lines.specs.Printed.Fitting.{IsCommentText, IsRejectedName, NoteFits}
use Rattle.ped_lines.specs.Printed.Cut.{comments_at, directives_at}
use Rattle.ped_lines.proofs.PrintedLaws.Bytes.{both, all_of}
use Rattle.ped_lines.proofs.PrintedLaws.Lines.{IsLine, last_of, ends, printable_line}

-- text that is trimmed

-- with another byte at the front the rest is trimmed alike
with_rest_same : (c : ℕ) (cs rest : List ℕ) → with_rest c rest ≡ c ∷ cs → rest ≡ cs
with_rest_same c cs [] h = go (eqb c 32 || eqb c 13) h where
  go : (b : Bool) → (if b then [] else c ∷ []) ≡ c ∷ cs → [] ≡ cs
  go true h = absurd cc
  go false h = cc
with_rest_same c cs (x ∷ xs) h = cc

ends_seen : (c : ℕ) → with_rest c [] ≡ c ∷ [] → eqb c 13 ≡ false
ends_seen c h = go (eqb c 32) (eqb c 13) h where
  go : (a b : Bool) → (if a || b then [] else c ∷ []) ≡ c ∷ [] → b ≡ false
  go true b h = absurd cc
  go false true h = absurd cc
  go false false h = refl

trimmed_last : (c : ℕ) (cs : List ℕ) → trimmed (c ∷ cs) ≡ c ∷ cs → eqb (last_of c cs) 13 ≡ false
trimmed_last c [] t = ends_seen c t
trimmed_last c (d ∷ ds) t = trimmed_last d ds (with_rest_same c (d ∷ ds) (trimmed (d ∷ ds)) t)

comment_last : (text : List ℕ) → trimmed text ≡ text → eqb (last_of 67 text) 13 ≡ false
comment_last [] t = refl
comment_last (c ∷ cs) t = trimmed_last c cs t

-- a comment

comment_line : (text : List ℕ) → IsCommentText text → IsLine (67 ∷ text)
comment_line text h = record { one = h.one_line; ended = ends 67 text (comment_last text h.ended) }

comment_read : (text : List ℕ) → IsCommentText text → comment_text (67 ∷ text) ≡ text
unfolding comment_text
comment_read text h = ap trimmed (take_all 71 text h.short) ∙ h.ended

comment_found : (n : ℕ) (text : List ℕ) → IsCommentText text → comment_at n (67 ∷ text) ≡ record { line = n; text = text } ∷ []
unfolding comment_at
comment_found n text h = ap (λ (b : Bool). if b then [] else record { line = n; text = comment_text (67 ∷ text) } ∷ []) h.no_directive ∙ ap (λ (t : List ℕ). record { line = n; text = t } ∷ []) (comment_read text h)

no_directive_found : (n : ℕ) (text : List ℕ) → IsCommentText text → directive_at n (67 ∷ text) ≡ []
unfolding directive_at
no_directive_found n text h = ap (λ (b : Bool). if b then record { line = n; text = directive_text (67 ∷ text) } ∷ [] else []) h.no_directive

-- a directive

plain_letter : (c : ℕ) → is_alphanumeric c ≡ true → (eqb c 32 ≡ false) × (eqb c 13 ≡ false) × (to_ascii_uppercase c ≡ c) × (is_printable c ≡ true)
plain_letter c h = elim (or_cases (is_letter c) (is_digit c) h) [ inl l ↦ letter c l | inr d ↦ digit c d ] where
  letter : (c : ℕ) → is_letter c ≡ true → (eqb c 32 ≡ false) × (eqb c 13 ≡ false) × (to_ascii_uppercase c ≡ c) × (is_printable c ≡ true)
  letter c h = (grind arith, grind arith, grind arith, grind arith)

  digit : (c : ℕ) → is_digit c ≡ true → (eqb c 32 ≡ false) × (eqb c 13 ≡ false) × (to_ascii_uppercase c ≡ c) × (is_printable c ≡ true)
  digit c h = (grind arith, grind arith, grind arith, grind arith)

name_kept : (name : List ℕ) → list_all is_alphanumeric name ≡ true → map to_ascii_uppercase (filter (λ c. not (is_blank c)) name) ≡ name
name_kept [] h = refl
name_kept (c ∷ cs) h =
    let parts = both (is_alphanumeric c) (list_all is_alphanumeric cs) h in
    let p = plain_letter c parts.0 in
    ap (λ (b : Bool). map to_ascii_uppercase (cond (not b) (c ∷ filter (λ c. not (is_blank c)) cs) (filter (λ c. not (is_blank c)) cs))) p.0
    ∙ (λ i. p.2 i ∷ name_kept cs parts.1 i)

name_trimmed : (name : List ℕ) → list_all is_alphanumeric name ≡ true → trimmed name ≡ name
name_trimmed [] h = refl
name_trimmed (c ∷ cs) h =
    let parts = both (is_alphanumeric c) (list_all is_alphanumeric cs) h in
    ap (with_rest c) (name_trimmed cs parts.1) ∙ kept c cs (plain_letter c parts.0) where
      kept : (c : ℕ) (cs : List ℕ) → (eqb c 32 ≡ false) × (eqb c 13 ≡ false) × (to_ascii_uppercase c ≡ c) × (is_printable c ≡ true) → with_rest c cs ≡ c ∷ cs
      kept c [] p = ap (λ (b : Bool). if b then [] else c ∷ []) (or_from _ _ p.0 p.1)
      kept c (x ∷ xs) p = refl

rejection_line : (name : List ℕ) → IsRejectedName name → IsLine (codes "C$PED REJECT " ++ name)
rejection_line name h =
    let all : list_all is_printable (codes "C$PED REJECT " ++ name) ≡ true = list_all-append is_printable (codes "C$PED REJECT ") name ∙ all_of is_alphanumeric is_printable (λ c l. (plain_letter c l).3) name h.letters in
    printable_line (codes "C$PED REJECT " ++ name) all

abbrev with_rests : List ℕ → List ℕ → List ℕ
with_rests [] rest = rest
with_rests (c ∷ cs) rest = with_rest c (with_rests cs rest)

clean : List ℕ → List ℕ
clean text = map to_ascii_uppercase (filter (λ c. not (is_blank c)) text)

front_trimmed : (name : List ℕ) → trimmed name ≡ name → clean (drop 4 (trimmed (codes "$PED REJECT " ++ name))) ≡ codes "REJECT" ++ clean name
unfolding clean
front_trimmed [] t = refl
front_trimmed (c ∷ cs) t = ap (λ (x : List ℕ). clean (drop 4 (with_rests (codes "$PED REJECT ") x))) t

rejection_read : (name : List ℕ) → IsRejectedName name → directive_text (codes "C$PED REJECT " ++ name) ≡ codes "REJECT" ++ name
unfolding directive_text comment_text clean
rejection_read name h =
    ap (λ (x : List ℕ). clean (drop 4 (trimmed x))) (take_all 71 (codes "$PED REJECT " ++ name) (omega (arith, length-append (codes "$PED REJECT ") name, h.short)))
    ∙ front_trimmed name (name_trimmed name h.letters)
    ∙ ap (λ (x : List ℕ). codes "REJECT" ++ x) (name_kept name h.letters)

rejection_found : (n : ℕ) (name : List ℕ) → IsRejectedName name → directive_at n (codes "C$PED REJECT " ++ name) ≡ record { line = n; text = codes "REJECT" ++ name } ∷ []
unfolding directive_at is_directive
rejection_found n name h = ap (λ (t : List ℕ). record { line = n; text = t } ∷ []) (rejection_read name h)

no_comment_found : (n : ℕ) (name : List ℕ) → comment_at n (codes "C$PED REJECT " ++ name) ≡ []
unfolding comment_at is_directive
no_comment_found n name = refl

-- either

pub note_lines : (notes : List PrintedNote) → AllByRecursion NoteFits notes → AllByRecursion IsLine (map note_line notes)
note_lines [] h = tt
note_lines (a_comment text ∷ more) h = (comment_line text h.0, note_lines more h.1)
note_lines (a_rejection name ∷ more) h = (rejection_line name h.0, note_lines more h.1)

note_comment : (x : PrintedNote) → is_comment (note_line x) ≡ true
unfolding is_comment
note_comment (a_comment text) = refl
note_comment (a_rejection name) = refl

-- no statement begins at notes, and none is continued

later : (n m : ℕ) → (n + 1) + m ≡ n + suc m
later n m = omega arith

pub statements_past : (n : ℕ) (notes : List PrintedNote) (more : List (List ℕ)) → in_statements n (map note_line notes ++ more) ≡ in_statements (n + length notes) more
statements_past n [] more = ap (λ (m : ℕ). in_statements m more) (omega arith)
statements_past n (x ∷ xs) more =
    rw (note_comment x) (statements_past (n + 1) xs more ∙ ap (λ (m : ℕ). in_statements m more) (later n (length xs)))

pub further_past : (n : ℕ) (notes : List PrintedNote) (more : List (List ℕ)) → further_lines n (map note_line notes ++ more) ≡ further_lines (n + length notes) more
further_past n [] more = ap (λ (m : ℕ). further_lines m more) (omega arith)
further_past n (x ∷ xs) more =
    rw (note_comment x) (further_past (n + 1) xs more ∙ ap (λ (m : ℕ). further_lines m more) (later n (length xs)))

-- where nothing is to come behind them, they lead to nothing

pub within_past : (at : ℕ → List ℕ → List Note) (more : List (List ℕ)) → ((before : List Note) (n : ℕ) → notes_within at before n more ≡ []) → (before : List Note) (n : ℕ) (notes : List PrintedNote) → notes_within at before n (map note_line notes ++ more) ≡ []
within_past at more none before n [] = none before n
within_past at more none before n (x ∷ xs) = rw (note_comment x) (within_past at more none (before ++ at n (note_line x)) (n + 1) xs)

pub behind_past : (at : ℕ → List ℕ → List Note) (more : List (List ℕ)) → ((before : List Note) (n : ℕ) → notes_behind at before n more ≡ []) → (before : List Note) (n : ℕ) (notes : List PrintedNote) → notes_behind at before n (map note_line notes ++ more) ≡ []
behind_past at more none before n [] = none before n
behind_past at more none before n (x ∷ xs) = rw (note_comment x) (behind_past at more none (before ++ at n (note_line x)) (n + 1) xs)

-- the next statement has them

from_note : (comments directives : List Note) (n : ℕ) (x : PrintedNote) (rest : List (List ℕ)) → statements_from comments directives n (note_line x ∷ rest) ≡ statements_from (comments ++ comment_at n (note_line x)) (directives ++ directive_at n (note_line x)) (n + 1) rest
from_note comments directives n x rest = rw (note_comment x) refl

none_added : (notes new : List Note) → new ≡ [] → notes ++ new ≡ notes
none_added notes new h = ap (λ (x : List Note). notes ++ x) h ∙ append-nil notes

pub statements_with : (comments directives : List Note) (n : ℕ) (notes : List PrintedNote) (more : List (List ℕ)) → AllByRecursion NoteFits notes
    → statements_from comments directives n (map note_line notes ++ more) ≡ statements_from (comments ++ comments_at n notes) (directives ++ directives_at n notes) (n + length notes) more
statements_with comments directives n [] more h =
    λ i. statements_from (sym (append-nil comments) i) (sym (append-nil directives) i) (sym (add-zero n) i) more
statements_with comments directives n (a_comment text ∷ xs) more h =
    let note : Note = record { line = n; text = text } in
    from_note comments directives n (a_comment text) (map note_line xs ++ more)
    ∙ (λ i. statements_from (comments ++ comment_found n text h.0 i) (none_added directives _ (no_directive_found n text h.0) i) (n + 1) (map note_line xs ++ more))
    ∙ statements_with (comments ++ note ∷ []) directives (n + 1) xs more h.1
    ∙ (λ i. statements_from (append_assoc comments (note ∷ []) (comments_at (n + 1) xs) i) (directives ++ directives_at (n + 1) xs) (later n (length xs) i) more)
statements_with comments directives n (a_rejection name ∷ xs) more h =
    let note : Note = record { line = n; text = codes "REJECT" ++ name } in
    from_note comments directives n (a_rejection name) (map note_line xs ++ more)
    ∙ (λ i. statements_from (none_added comments _ (no_comment_found n name) i) (directives ++ rejection_found n name h.0 i) (n + 1) (map note_line xs ++ more))
    ∙ statements_with comments (directives ++ note ∷ []) (n + 1) xs more h.1
    ∙ (λ i. statements_from (comments ++ comments_at (n + 1) xs) (append_assoc directives (note ∷ []) (directives_at (n + 1) xs) i) (later n (length xs) i) more)
