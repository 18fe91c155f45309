-- The lines of one statement: an initial line and its continuation lines.
use Rattle.std.proofs.Common.{◌≡◌, ℕ, suc, zero, ◌+◌, ◌-◌, ◌*◌, ◌≤◌, Bool, true, false, List, [], ◌∷◌, ◌++◌, map, length, take, drop, codes, refl, ap, sym, ◌∙◌, add-zero, eqb, arith}
use Rattle.std.specs.List.{AllByRecursion, list_all, flat_map}
use Rattle.std.proofs.lemmas.Bool.{ne_eqb}
use Rattle.ped_tree.specs.Grammar.Columns.{is_comment, is_continuation, has_tab, has_bad_label, has_label_field, statement_columns}
use Rattle.ped_tree.specs.Grammar.Characters.{is_printable, has_bad}
use Rattle.ped_tree.specs.Grammar.Statement.{Note}
use Rattle.ped_tree.specs.Grammar.Grouping.{NumberedLine, further_lines, joined_columns, notes_within, notes_behind, statements_from}
use Rattle.ped_tree.specs.Grammar.Refusal.{refused_if}
use Rattle.ped_tree.specs.Grammar.LineRefusals.{Role, Initial, Continuation, label_is_bad, is_too_many, is_orphan, at_line, at_further, in_statements}
use Rattle.ped_tree.specs.Printing.{piece}
use Rattle.ped_lines.proofs.Quoting.{has_bad_append}
use Rattle.ped_lines.proofs.PrintedLaws.Bytes.{neither, both, none_of, all_taken, printable_tab}
use Rattle.ped_lines.proofs.PrintedLaws.Lines.{IsLine, printable_line}
use Rattle.ped_lines.proofs.PrintedLaws.Pieces.{filled, piece_short, columns_behind}

-- the continuation line with a piece
abbrev pub further_line : List ℕ → ℕ → List ℕ
further_line cs k = codes "     &" ++ piece cs k

further_columns : (cs : List ℕ) (k : ℕ) → statement_columns (further_line cs k) ≡ filled (piece cs k)
further_columns cs k = columns_behind (codes "     &") (piece cs k) refl (piece_short cs k)

further_comment : (cs : List ℕ) (k : ℕ) → is_comment (further_line cs k) ≡ false
unfolding is_comment
further_comment cs k = refl

further_continues : (cs : List ℕ) (k : ℕ) → is_continuation (further_line cs k) ≡ true
unfolding is_continuation
further_continues cs k = refl

further_field : (cs : List ℕ) (k : ℕ) → has_label_field (further_line cs k) ≡ false
unfolding has_label_field
further_field cs k = refl

-- all bytes of what is dropped from the front
all_dropped : (p : ℕ → Bool) (n : ℕ) (cs : List ℕ) → list_all p cs ≡ true → list_all p (drop n cs) ≡ true
all_dropped p zero cs all = all
all_dropped p (suc n) [] all = refl
all_dropped p (suc n) (c ∷ cs) all = all_dropped p n cs (both (p c) (list_all p cs) all).1

pub piece_prints : (cs : List ℕ) (k : ℕ) → list_all is_printable cs ≡ true → list_all is_printable (piece cs k) ≡ true
piece_prints cs k all = all_taken is_printable 66 (drop (66 * k) cs) (all_dropped is_printable (66 * k) cs all)

further_prints : (cs : List ℕ) (k : ℕ) → list_all is_printable cs ≡ true → list_all is_printable (further_line cs k) ≡ true
further_prints cs k all = piece_prints cs k all

pub no_tab : (line : List ℕ) → list_all is_printable line ≡ true → has_tab line ≡ false
unfolding has_tab
no_tab line all = none_of is_printable (λ c. eqb c 9) printable_tab (take 72 line) (all_taken is_printable 72 line all)

pub further_are_lines : (cs : List ℕ) (ks : List ℕ) → list_all is_printable cs ≡ true → AllByRecursion IsLine (map (further_line cs) ks)
further_are_lines cs [] all = tt
further_are_lines cs (k ∷ ks) all = (printable_line (further_line cs k) (further_prints cs k all), further_are_lines cs ks all)

-- with their numbers
abbrev pub numbered_from : ℕ → List ℕ → List ℕ → List NumberedLine
numbered_from n cs [] = []
numbered_from n cs (k ∷ ks) = record { number = n; bytes = further_line cs k } ∷ numbered_from (n + 1) cs ks

-- lines that neither continue a statement nor hold notes within it
pub record IsFresh (rest : List (List ℕ)) : Type 0 where
  pub further : (n : ℕ) → further_lines n rest ≡ []
  pub within : (at : ℕ → List ℕ → List Note) (before : List Note) (n : ℕ) → notes_within at before n rest ≡ []

pub further_found : (n : ℕ) (cs ks : List ℕ) (rest : List (List ℕ)) → IsFresh rest → further_lines n (map (further_line cs) ks ++ rest) ≡ numbered_from n cs ks
further_found n cs [] rest fresh = fresh.further n
further_found n cs (k ∷ ks) rest fresh =
    rw (further_comment cs k, further_continues cs k) (ap (λ (x : List NumberedLine). record { number = n; bytes = further_line cs k } ∷ x) (further_found (n + 1) cs ks rest fresh))

pub none_within : (at : ℕ → List ℕ → List Note) (n : ℕ) (cs ks : List ℕ) (rest : List (List ℕ)) → IsFresh rest → notes_within at [] n (map (further_line cs) ks ++ rest) ≡ []
none_within at n cs [] rest fresh = fresh.within at [] n
none_within at n cs (k ∷ ks) rest fresh = rw (further_comment cs k, further_continues cs k) (none_within at (n + 1) cs ks rest fresh)

later : (n m : ℕ) → (n + 1) + m ≡ n + suc m
later n m = omega arith

pub refusals_past : (n : ℕ) (cs ks : List ℕ) (rest : List (List ℕ)) → in_statements n (map (further_line cs) ks ++ rest) ≡ in_statements (n + length ks) rest
refusals_past n cs [] rest = ap (λ (m : ℕ). in_statements m rest) (sym (add-zero n))
refusals_past n cs (k ∷ ks) rest =
    rw (further_comment cs k, further_continues cs k) (refusals_past (n + 1) cs ks rest ∙ ap (λ (m : ℕ). in_statements m rest) (later n (length ks)))

pub statements_past : (n : ℕ) (cs ks : List ℕ) (rest : List (List ℕ)) → statements_from [] [] n (map (further_line cs) ks ++ rest) ≡ statements_from [] [] (n + length ks) rest
statements_past n cs [] rest = ap (λ (m : ℕ). statements_from [] [] m rest) (sym (add-zero n))
statements_past n cs (k ∷ ks) rest =
    rw (further_comment cs k, further_continues cs k) (statements_past (n + 1) cs ks rest ∙ ap (λ (m : ℕ). statements_from [] [] m rest) (later n (length ks)))

pub behind_past : (at : ℕ → List ℕ → List Note) (n : ℕ) (cs ks : List ℕ) (rest : List (List ℕ)) → notes_behind at [] n (map (further_line cs) ks ++ rest) ≡ notes_behind at [] (n + length ks) rest
behind_past at n cs [] rest = ap (λ (m : ℕ). notes_behind at [] m rest) (sym (add-zero n))
behind_past at n cs (k ∷ ks) rest =
    rw (further_comment cs k) (behind_past at (n + 1) cs ks rest ∙ ap (λ (m : ℕ). notes_behind at [] m rest) (later n (length ks)))

-- columns 7 to 72, joined
pub further_joined : (n : ℕ) (cs ks : List ℕ) → joined_columns (numbered_from n cs ks) ≡ flat_map (λ k. filled (piece cs k)) ks
further_joined n cs [] = refl
further_joined n cs (k ∷ ks) = λ i. further_columns cs k i ++ further_joined (n + 1) cs ks i

-- no refusal stands where none of its tests holds
nothing_stands : (n : ℕ) (role : Role) (before line : List ℕ) → has_tab line ≡ false → label_is_bad role line ≡ false → is_too_many role ≡ false → is_orphan role ≡ false → has_bad before (statement_columns line) ≡ false → at_line n role before line ≡ []
unfolding at_line refused_if
nothing_stands n role before line tab label many orphan bad = rw (tab, label, many, orphan, bad) refl

pub nothing_further : (n left : ℕ) (before cs ks : List ℕ) → list_all is_printable cs ≡ true → length ks ≤ left → has_bad before (flat_map (λ k. filled (piece cs k)) ks) ≡ false → at_further left before (numbered_from n cs ks) ≡ []
nothing_further n left before cs [] all room allowed = refl
nothing_further n left before cs (k ∷ ks) all room allowed =
    let here = filled (piece cs k) in
    let more = flat_map (λ k. filled (piece cs k)) ks in
    let parts = neither (has_bad before here) (has_bad (before ++ here) more) (sym (has_bad_append before here more) ∙ allowed) in
    let columns = further_columns cs k in
    let line = further_line cs k in
    let some : is_too_many (Continuation left) ≡ false = ne_eqb left 0 (λ none. omega (arith, none)) in
    let first : at_line n (Continuation left) before line ≡ [] =
    nothing_stands n (Continuation left) before line (no_tab line (further_prints cs k all)) (further_field cs k) some refl (ap (has_bad before) columns ∙ parts.0) in
    (λ i. first i ++ at_further (left - 1) (before ++ columns i) (numbered_from (n + 1) cs ks))
    ∙ nothing_further (n + 1) (left - 1) (before ++ here) cs ks all (omega arith) parts.1

-- the initial line
pub nothing_initial : (n : ℕ) (line : List ℕ) → list_all is_printable line ≡ true → has_bad_label line ≡ false → has_bad [] (statement_columns line) ≡ false → at_line n Initial [] line ≡ []
nothing_initial n line all label bad = nothing_stands n Initial [] line (no_tab line all) label refl refl bad
