-- The lines of all printed statements, statement by statement.
use Rattle.std.proofs.Common.{◌≡◌, ℕ, suc, zero, ◌+◌, ◌-◌, ◌*◌, ◌≤◌, min, true, false, List, [], ◌∷◌, ◌++◌, map, length, take, replicate, None, refl, ap, sym, subst, ◌∙◌, append_assoc, length-append, arith}
use Rattle.std.specs.List.{AllByRecursion, list_all, flat_map, range_with_len}
use Rattle.std.specs.Str.Lines.{lines}
use Rattle.std.proofs.lemmas.Bool.{and_from}
use Rattle.std.proofs.lemmas.List.{append-nil, take-take, length-map}
use Rattle.std.proofs.lemmas.List.Folds.{list_all-append}
use Rattle.ped_tree.specs.Grammar.Columns.{is_blank, is_comment, is_continuation, has_bad_label, label_of, statement_columns}
use Rattle.ped_tree.specs.Grammar.Characters.{is_printable, is_quoted, has_bad, text_of}
use Rattle.ped_tree.specs.Grammar.Statement.{Note, Statements}
use Rattle.ped_tree.specs.Grammar.Grouping.{comment_at, directive_at, further_lines, joined_columns, notes_within, notes_behind, statement_at, statements_from, statements_of}
use Rattle.ped_tree.specs.Grammar.Refusal.{OpenConstant, refused_if, first_of}
use Rattle.ped_tree.specs.Grammar.LimitNumbers.{most_continuations}
use Rattle.ped_tree.specs.Grammar.LineRefusals.{Initial, at_line, at_further, at_orphans, in_rest, in_statements, first_line_refusal}
use Rattle.ped_tree.specs.Printing.{blanks, piece, piece_count}
use Rattle.ped_lines.proofs.Quoting.{has_bad_append}
use Rattle.ped_lines.specs.Printed.Printed.{PrintedStatement, note_line, characters, cut_lines, printed_lines, all_printed_lines, printed_text}
use Rattle.ped_lines.specs.Printed.Fitting.{TextFits, StatementFits, StatementsFit}
use Rattle.ped_lines.specs.Printed.Cut.{comments_at, directives_at, cut_at, cut_from, cut}
use Rattle.ped_lines.proofs.PrintedLaws.Bytes.{neither, allowed_printable}
use Rattle.ped_lines.proofs.PrintedLaws.Blanks.{quoted_blanks, quoted_behind, text_indented, bad_indented, text_filled, bad_filled, seen}
use Rattle.ped_lines.proofs.PrintedLaws.Pieces.{filled, piece_short, columns_behind, blanks_behind, pieces_back}
use Rattle.ped_lines.proofs.PrintedLaws.Grouped.{all_joined}
use Rattle.ped_lines.proofs.PrintedLaws.Lines.{IsLine, printable_line, lines_written}
use Rattle.ped_lines.proofs.PrintedLaws.Fields.{blank_field}
use Rattle.ped_lines.proofs.PrintedLaws.Notes as notes
use Rattle.ped_lines.proofs.PrintedLaws.Further as further
use Rattle.ped_lines.proofs.PrintedLaws.Further.{IsFresh, further_line, numbered_from}

-- how many continuation lines these characters take, and the numbers of their pieces
abbrev extra : List ℕ → ℕ
extra cs = piece_count cs - 1

abbrev numbers : List ℕ → List ℕ
numbers cs = range_with_len 1 (extra cs)

range_long : (k n : ℕ) → length (range_with_len k n) ≡ n
range_long k zero = refl
range_long k (suc n) = ap suc (range_long (k + 1) n)

-- what is known of characters that are cut into lines, and of the text that is read from them
record IsWhole (cs text : List ℕ) : Type 0 where
  prints : list_all is_printable cs ≡ true
  shown : list_all is_blank (take 66 (piece cs 0)) ≡ false
  room : length (numbers cs) ≤ most_continuations
  reads : text_of (filled (piece cs 0) ++ flat_map (λ k. filled (piece cs k)) (numbers cs)) ≡ text_of text
  allowed : has_bad [] (filled (piece cs 0) ++ flat_map (λ k. filled (piece cs k)) (numbers cs)) ≡ false
  closed : is_quoted (filled (piece cs 0) ++ flat_map (λ k. filled (piece cs k)) (numbers cs)) ≡ false

whole : (depth : ℕ) (text : List ℕ) → TextFits depth text → IsWhole (characters depth text) text
whole depth text fits =
    let cs = characters depth text in
    let m = min (2 * depth) 20 in
    let allowed : has_bad [] cs ≡ false = bad_indented m text ∙ fits.allowed in
    let closed : is_quoted cs ≡ false = quoted_behind m text ∙ fits.closed in
    let joined : filled (piece cs 0) ++ flat_map (λ k. filled (piece cs k)) (numbers cs) ≡ cs ++ replicate (blanks_behind cs) 32 = pieces_back cs in
    record {
      prints = allowed_printable [] cs allowed;
      shown = ap (list_all is_blank) (take-take 66 66 cs (omega arith)) ∙ seen m 66 text (omega arith) fits.begins;
      room = omega (arith, range_long 1 (extra cs), fits.short);
      reads = ap text_of joined ∙ text_filled cs (blanks_behind cs) closed ∙ text_indented m text;
      allowed = ap (has_bad []) joined ∙ bad_filled cs (blanks_behind cs) allowed;
      closed = ap is_quoted joined ∙ quoted_blanks (blanks_behind cs) cs ∙ closed;
    }

-- and of the initial line with them
record IsInitial (cs line : List ℕ) : Type 0 where
  comment : is_comment line ≡ false
  begins : is_continuation line ≡ false
  label_is : label_of line ≡ None
  good : has_bad_label line ≡ false
  prints : list_all is_printable line ≡ true
  columns : statement_columns line ≡ filled (piece cs 0)

initial : (cs text : List ℕ) → IsWhole cs text → IsInitial cs (blanks 6 ++ piece cs 0)
initial cs text w =
    let f = blank_field in
    let field = blanks 6 in
    record {
      comment = f.comment (piece cs 0) w.shown;
      begins = f.begins (piece cs 0);
      label_is = f.label_is (piece cs 0);
      good = f.good (piece cs 0);
      prints = list_all-append is_printable field (piece cs 0) ∙ and_from _ _ f.printable (further.piece_prints cs 0 w.prints);
      columns = columns_behind field (piece cs 0) f.six (piece_short cs 0);
    }

-- an initial line ends what came before it

fresh_first : (cs line : List ℕ) (more : List (List ℕ)) → IsInitial cs line → IsFresh (line ∷ more)
fresh_first cs line more h = record {
  further = λ n. rw (h.comment, h.begins) refl;
  within = λ at before n. rw (h.comment, h.begins) refl;
}

refusals_first : (cs line : List ℕ) (more : List (List ℕ)) (n : ℕ) → IsInitial cs line → in_statements n (line ∷ more) ≡ at_line n Initial [] line ++ in_rest n most_continuations (statement_columns line) (further_lines (n + 1) more) ++ in_statements (n + 1) more
refusals_first cs line more n h = rw (h.comment, h.begins) refl

statements_first : (cs line : List ℕ) (more : List (List ℕ)) (comments directives : List Note) (n : ℕ) → IsInitial cs line → statements_from comments directives n (line ∷ more) ≡ statement_at comments directives n line more ∷ statements_from [] [] (n + 1) more
statements_first cs line more comments directives n h = rw (h.comment, h.begins) refl

behind_first : (cs line : List ℕ) (more : List (List ℕ)) (at : ℕ → List ℕ → List Note) (before : List Note) (n : ℕ) → IsInitial cs line → notes_behind at before n (line ∷ more) ≡ notes_behind at [] (n + 1) more
behind_first cs line more at before n h = rw h.comment refl

-- no refusal stands in a statement

nothing_in_rest : (first n : ℕ) (cs text columns : List ℕ) → IsWhole cs text → columns ≡ filled (piece cs 0) → in_rest first most_continuations columns (numbered_from n cs (numbers cs)) ≡ []
unfolding refused_if
nothing_in_rest first n cs text columns w same =
    let p = filled (piece cs 0) in
    let more = flat_map (λ k. filled (piece cs k)) (numbers cs) in
    let parts = neither (has_bad [] p) (has_bad p more) (sym (has_bad_append [] p more) ∙ w.allowed) in
    let later : at_further most_continuations columns (numbered_from n cs (numbers cs)) ≡ [] = further.nothing_further n most_continuations columns cs (numbers cs) w.prints w.room (ap (λ (x : List ℕ). has_bad x more) same ∙ parts.1) in
    let closed : is_quoted (columns ++ joined_columns (numbered_from n cs (numbers cs))) ≡ false = (λ i. is_quoted (same i ++ further.further_joined n cs (numbers cs) i)) ∙ w.closed in
    λ i. later i ++ refused_if (closed i) OpenConstant first

-- the lines of a statement, and those behind it

first_line : PrintedStatement → List ℕ
first_line s = blanks 6 ++ piece (characters s.depth s.text) 0

lines_behind : PrintedStatement → List (List ℕ) → List (List ℕ)
lines_behind s rest = map (further_line (characters s.depth s.text)) (numbers (characters s.depth s.text)) ++ rest

parts : (s : PrintedStatement) (rest : List (List ℕ)) → printed_lines s ++ rest ≡ map note_line s.notes ++ (first_line s ∷ lines_behind s rest)
unfolding first_line lines_behind
parts s rest = append_assoc (map note_line s.notes) (cut_lines (characters s.depth s.text)) rest

first_initial : (s : PrintedStatement) → StatementFits s → IsInitial (characters s.depth s.text) (first_line s)
unfolding first_line
first_initial s h = initial (characters s.depth s.text) s.text (whole s.depth s.text h.text)

all_fresh : (ss : List PrintedStatement) → StatementsFit ss → IsFresh (all_printed_lines ss)
all_fresh [] h = record { further = λ n. refl; within = λ at before n. refl }
all_fresh (s ∷ ss) h =
    let rest = all_printed_lines ss in
    let more = lines_behind s rest in
    let first = fresh_first (characters s.depth s.text) (first_line s) more (first_initial s h.0) in
    subst IsFresh (sym (parts s rest)) record {
      further = λ n. notes.further_past n s.notes (first_line s ∷ more) ∙ first.further (n + length s.notes);
      within = λ at before n. notes.within_past at (first_line s ∷ more) (first.within at) before n s.notes;
    }

-- the number of the line behind a statement
line_behind : (n : ℕ) (s : PrintedStatement) → ((n + length s.notes) + 1) + length (numbers (characters s.depth s.text)) ≡ n + length (printed_lines s)
line_behind n s =
    let cs = characters s.depth s.text in
    omega (arith, length-append (map note_line s.notes) (cut_lines cs), length-map s.notes note_line, length-map (numbers cs) (further_line cs))

nothing_refused : (n : ℕ) (ss : List PrintedStatement) → StatementsFit ss → in_statements n (all_printed_lines ss) ≡ []
unfolding lines_behind
nothing_refused n [] h = refl
nothing_refused n (s ∷ ss) h =
    let rest = all_printed_lines ss in
    let cs = characters s.depth s.text in
    let line = first_line s in
    let more = lines_behind s rest in
    let m = n + length s.notes in
    let i0 = first_initial s h.0 in
    let w = whole s.depth s.text h.0.text in
    let p = filled (piece cs 0) in
    let allowed = (neither (has_bad [] p) (has_bad p (flat_map (λ k. filled (piece cs k)) (numbers cs))) (sym (has_bad_append [] p (flat_map (λ k. filled (piece cs k)) (numbers cs))) ∙ w.allowed)).0 in
    let here : at_line m Initial [] line ≡ [] = further.nothing_initial m line i0.prints i0.good (ap (has_bad []) i0.columns ∙ allowed) in
    let found : further_lines (m + 1) more ≡ numbered_from (m + 1) cs (numbers cs) = further.further_found (m + 1) cs (numbers cs) rest (all_fresh ss h.1) in
    let inside : in_rest m most_continuations (statement_columns line) (further_lines (m + 1) more) ≡ [] = ap (in_rest m most_continuations (statement_columns line)) found ∙ nothing_in_rest m (m + 1) cs s.text (statement_columns line) w i0.columns in
    let behind : in_statements (m + 1) more ≡ [] = further.refusals_past (m + 1) cs (numbers cs) rest ∙ nothing_refused ((m + 1) + length (numbers cs)) ss h.1 in
    ap (in_statements n) (parts s rest)
    ∙ notes.statements_past n s.notes (line ∷ more)
    ∙ refusals_first cs line more m i0
    ∙ (λ i. here i ++ inside i ++ behind i)

statement_is : (n m : ℕ) (s : PrintedStatement) (rest : List (List ℕ)) → m ≡ n + length s.notes → StatementFits s → IsFresh rest → statement_at (comments_at n s.notes) (directives_at n s.notes) m (first_line s) (lines_behind s rest) ≡ cut_at n s
unfolding statement_at lines_behind
statement_is n m s rest here h fresh =
    let cs = characters s.depth s.text in
    let line = first_line s in
    let more = lines_behind s rest in
    let i0 = first_initial s h in
    let w = whole s.depth s.text h.text in
    let found : further_lines (m + 1) more ≡ numbered_from (m + 1) cs (numbers cs) = further.further_found (m + 1) cs (numbers cs) rest fresh in
    let joined : joined_columns (further_lines (m + 1) more) ≡ flat_map (λ k. filled (piece cs k)) (numbers cs) = ap joined_columns found ∙ further.further_joined (m + 1) cs (numbers cs) in
    let reads : text_of (statement_columns line ++ joined_columns (further_lines (m + 1) more)) ≡ text_of s.text = (λ i. text_of (i0.columns i ++ joined i)) ∙ w.reads in
    let comments : comments_at n s.notes ++ notes_within comment_at [] (m + 1) more ≡ comments_at n s.notes = ap (λ (x : List Note). comments_at n s.notes ++ x) (further.none_within comment_at (m + 1) cs (numbers cs) rest fresh) ∙ append-nil (comments_at n s.notes) in
    let directives : directives_at n s.notes ++ notes_within directive_at [] (m + 1) more ≡ directives_at n s.notes = ap (λ (x : List Note). directives_at n s.notes ++ x) (further.none_within directive_at (m + 1) cs (numbers cs) rest fresh) ∙ append-nil (directives_at n s.notes) in
    λ i. record { line = here i; label = i0.label_is i; text = reads i; comments = comments i; directives = directives i }

all_cut : (n : ℕ) (ss : List PrintedStatement) → StatementsFit ss → statements_from [] [] n (all_printed_lines ss) ≡ cut_from n ss
unfolding lines_behind
all_cut n [] h = refl
all_cut n (s ∷ ss) h =
    let rest = all_printed_lines ss in
    let cs = characters s.depth s.text in
    let line = first_line s in
    let more = lines_behind s rest in
    let m = n + length s.notes in
    let behind : statements_from [] [] (m + 1) more ≡ cut_from (n + length (printed_lines s)) ss =
    further.statements_past (m + 1) cs (numbers cs) rest ∙ ap (λ (k : ℕ). statements_from [] [] k rest) (line_behind n s) ∙ all_cut (n + length (printed_lines s)) ss h.1 in
    ap (statements_from [] [] n) (parts s rest)
    ∙ notes.statements_with [] [] n s.notes (line ∷ more) h.0.notes
    ∙ statements_first cs line more (comments_at n s.notes) (directives_at n s.notes) m (first_initial s h.0)
    ∙ (λ i. statement_is n m s rest refl h.0 (all_fresh ss h.1) i ∷ behind i)

nothing_behind : (at : ℕ → List ℕ → List Note) (n : ℕ) (ss : List PrintedStatement) → StatementsFit ss → notes_behind at [] n (all_printed_lines ss) ≡ []
unfolding lines_behind
nothing_behind at n [] h = refl
nothing_behind at n (s ∷ ss) h =
    let rest = all_printed_lines ss in
    let cs = characters s.depth s.text in
    let line = first_line s in
    let more = lines_behind s rest in
    let from : (before : List Note) (m : ℕ) → notes_behind at before m (line ∷ more) ≡ [] =
    λ before m. behind_first cs line more at before m (first_initial s h.0) ∙ further.behind_past at (m + 1) cs (numbers cs) rest ∙ nothing_behind at ((m + 1) + length (numbers cs)) ss h.1 in
    ap (notes_behind at [] n) (parts s rest) ∙ notes.behind_past at (line ∷ more) from [] n s.notes

-- the lines are read as they were written

statement_lines : (s : PrintedStatement) → StatementFits s → AllByRecursion IsLine (printed_lines s)
unfolding first_line
statement_lines s h =
    let cs = characters s.depth s.text in
    let first : IsLine (first_line s) = printable_line (first_line s) (first_initial s h).prints in
    all_joined IsLine (map note_line s.notes) (cut_lines cs) (notes.note_lines s.notes h.notes) (first, further.further_are_lines cs (numbers cs) (whole s.depth s.text h.text).prints)

all_lines : (ss : List PrintedStatement) → StatementsFit ss → AllByRecursion IsLine (all_printed_lines ss)
all_lines [] h = tt
all_lines (s ∷ ss) h = all_joined IsLine (printed_lines s) (all_printed_lines ss) (statement_lines s h.0) (all_lines ss h.1)

written : (ss : List PrintedStatement) → StatementsFit ss → lines (printed_text ss) ≡ all_printed_lines ss
written ss h = lines_written (all_printed_lines ss) (all_lines ss h)

-- the text of printed statements

pub not_refused : (ss : List PrintedStatement) → StatementsFit ss → first_line_refusal (printed_text ss) ≡ None
not_refused ss h =
    let all = all_printed_lines ss in
    let none : at_orphans (further_lines 1 all) ++ in_statements 1 all ≡ [] = λ i. at_orphans ((all_fresh ss h).further 1 i) ++ nothing_refused 1 ss h i in
    ap (λ (x : List (List ℕ)). first_of (at_orphans (further_lines 1 x) ++ in_statements 1 x)) (written ss h) ∙ ap first_of none

statements_in : List (List ℕ) → Statements
statements_in ls = record {
  statements = statements_from [] [] 1 ls;
  comments = notes_behind comment_at [] 1 ls;
  directives = notes_behind directive_at [] 1 ls;
  lines = length ls;
}

pub are_cut : (ss : List PrintedStatement) → StatementsFit ss → statements_of (printed_text ss) ≡ cut ss
unfolding statements_in
are_cut ss h =
    ap statements_in (written ss h)
    ∙ (λ i. record {
      statements = all_cut 1 ss h i;
      comments = nothing_behind comment_at 1 ss h i;
      directives = nothing_behind directive_at 1 ss h i;
      lines = length (all_printed_lines ss);
    })
