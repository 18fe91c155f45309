-- What one line that is no comment makes of what is still to come.
use Rattle.std.proofs.Common.{◌≡◌, ℕ, ◌+◌, ◌-◌, Bool, true, false, List, [], ◌∷◌, ◌++◌, Option, Some, None, map, refl, ap, sym, ◌∙◌, append_assoc}
use Rattle.std.proofs.lemmas.List.{append-nil, map-append}
use Rattle.std.proofs.lemmas.List.Concat.{flat_map-cons}
use Rattle.ped_tree.specs.Grammar.Statement as whole
use Rattle.ped_tree.specs.Grammar.Statement.{Note}
use Rattle.ped_tree.specs.Grammar.Columns.{is_comment, is_continuation, label_of, statement_columns}
use Rattle.ped_tree.specs.Grammar.Characters.{is_quoted, has_bad, text_behind, text_of}
use Rattle.ped_tree.specs.Grammar.Grouping.{NumberedLine, comment_at, directive_at, further_lines, joined_columns, notes_within, notes_behind, statement_at, statements_from}
use Rattle.ped_tree.specs.Grammar.LimitNumbers.{most_continuations}
use Rattle.ped_tree.specs.Grammar.LineRefusals.{Initial, Continuation, Orphan, at_line, at_further, at_orphans, in_rest, in_statements}
use Rattle.ped_tree.specs.Grammar.Refusal.{Finding, OpenConstant, refused_if, earliest}
use Rattle.ped_tree.proofs.GrammarLaws.First.{earliest_append}
use Rattle.ped_tree.specs.Grammar.StatementViews.{note_of, statement_of}
use Rattle.ped_lines.specs.Cutting.{WithColumns, WithLine, left_open, refusals_left, ended, begun, statements_with, cut_with}
use Rattle.ped_tree.specs.Grammar.RefusalViews.{found_of}
use Rattle.ped_lines.specs.Quoting.{is_inside, quoting_of, front_of}
use Rattle.ped_lines.specs.declared.characters.OpenText.{OpenText}
use Rattle.ped_lines.specs.declared.characters.Quoting.{Quoting}
use Rattle.ped_tree.specs.declared.grammar.statements.NoteLine.{NoteLine}
use Rattle.ped_lines.specs.declared.cutting.OpenStatement.{OpenStatement}
use Rattle.ped_lines.specs.declared.cutting.Cutting.{Cutting}
use Rattle.ped_lines.proofs.Quoting.{quoted_alike, text_append, has_bad_alike}
use Rattle.ped_lines.proofs.Constants.{quoted_is, quoted_from, front_quoting, text_alike}

abbrev numbered : ℕ → List ℕ → NumberedLine
numbered n line = record { number = n; bytes = line }

-- a continuation line

further_more : (n : ℕ) (line : List ℕ) (rest : List (List ℕ)) → is_comment line ≡ false → is_continuation line ≡ true → further_lines n (line ∷ rest) ≡ numbered n line ∷ further_lines (n + 1) rest
further_more n line rest h k = rw (h, k) refl

statements_past : (n : ℕ) (line : List ℕ) (rest : List (List ℕ)) → is_comment line ≡ false → is_continuation line ≡ true → in_statements n (line ∷ rest) ≡ in_statements (n + 1) rest
statements_past n line rest h k = rw (h, k) refl

within_more : (at : ℕ → List ℕ → List Note) (before : List Note) (n : ℕ) (line : List ℕ) (rest : List (List ℕ)) → is_comment line ≡ false → is_continuation line ≡ true → notes_within at before n (line ∷ rest) ≡ before ++ notes_within at [] (n + 1) rest
within_more at before n line rest h k = rw (h, k) refl

from_past : (comments directives : List Note) (n : ℕ) (line : List ℕ) (rest : List (List ℕ)) → is_comment line ≡ false → is_continuation line ≡ true → statements_from comments directives n (line ∷ rest) ≡ statements_from [] [] (n + 1) rest
from_past comments directives n line rest h k = rw (h, k) refl

-- an initial line

further_none : (n : ℕ) (line : List ℕ) (rest : List (List ℕ)) → is_comment line ≡ false → is_continuation line ≡ false → further_lines n (line ∷ rest) ≡ []
further_none n line rest h k = rw (h, k) refl

statements_here : (n : ℕ) (line : List ℕ) (rest : List (List ℕ)) → is_comment line ≡ false → is_continuation line ≡ false → in_statements n (line ∷ rest) ≡ at_line n Initial [] line ++ in_rest n most_continuations (statement_columns line) (further_lines (n + 1) rest) ++ in_statements (n + 1) rest
statements_here n line rest h k = rw (h, k) refl

within_none : (at : ℕ → List ℕ → List Note) (before : List Note) (n : ℕ) (line : List ℕ) (rest : List (List ℕ)) → is_comment line ≡ false → is_continuation line ≡ false → notes_within at before n (line ∷ rest) ≡ []
within_none at before n line rest h k = rw (h, k) refl

from_here : (comments directives : List Note) (n : ℕ) (line : List ℕ) (rest : List (List ℕ)) → is_comment line ≡ false → is_continuation line ≡ false → statements_from comments directives n (line ∷ rest) ≡ statement_at comments directives n line rest ∷ statements_from [] [] (n + 1) rest
from_here comments directives n line rest h k = rw (h, k) refl

-- either

behind_none : (at : ℕ → List ℕ → List Note) (before : List Note) (n : ℕ) (line : List ℕ) (rest : List (List ℕ)) → is_comment line ≡ false → notes_behind at before n (line ∷ rest) ≡ notes_behind at [] (n + 1) rest
behind_none at before n line rest h = rw h refl

-- the refusals of further lines depend on the number of apostrophes before them alone

at_line_alike : (n left : ℕ) (a b line : List ℕ) → is_quoted a ≡ is_quoted b → at_line n (Continuation left) a line ≡ at_line n (Continuation left) b line
unfolding at_line
at_line_alike n left a b line h = rw (has_bad_alike a b (statement_columns line) h) refl

further_alike : (left : ℕ) (a b : List ℕ) (further : List NumberedLine) → is_quoted a ≡ is_quoted b → at_further left a further ≡ at_further left b further
further_alike left a b [] h = refl
further_alike left a b (l ∷ ls) h =
    λ i. at_line_alike l.number left a b l.bytes h i ++ further_alike (left - 1) (a ++ statement_columns l.bytes) (b ++ statement_columns l.bytes) ls (quoted_alike a b (statement_columns l.bytes) h) i

rest_alike : (first left : ℕ) (a b : List ℕ) (further : List NumberedLine) → is_quoted a ≡ is_quoted b → in_rest first left a further ≡ in_rest first left b further
rest_alike first left a b further h =
    λ i. further_alike left a b further h i ++ refused_if (quoted_alike a b (joined_columns further) h i) OpenConstant first

-- those of the next line, and then those of the others
rest_more : (first left : ℕ) (before : List ℕ) (l : NumberedLine) (ls : List NumberedLine) → in_rest first left before (l ∷ ls) ≡ at_line l.number (Continuation left) before l.bytes ++ in_rest first (left - 1) (before ++ statement_columns l.bytes) ls
rest_more first left before l ls =
    let columns = statement_columns l.bytes in
    let here = at_line l.number (Continuation left) before l.bytes in
    let joined : before ++ joined_columns (l ∷ ls) ≡ (before ++ columns) ++ joined_columns ls =
    ap (λ (t : List ℕ). before ++ t) (flat_map-cons (λ (x : NumberedLine). statement_columns x.bytes) l ls) ∙ sym (append_assoc before columns (joined_columns ls)) in
    append_assoc here (at_further (left - 1) (before ++ columns) ls) (refused_if (is_quoted (before ++ joined_columns (l ∷ ls))) OpenConstant first)
    ∙ ap (λ (t : List ℕ). here ++ (at_further (left - 1) (before ++ columns) ls ++ refused_if (is_quoted t) OpenConstant first)) joined

-- what was found, with what stands at the line and behind it
found_on : (found : Option Finding) (old new here more : List Finding) (next : Option Finding) → old ≡ here ++ more → new ≡ more → next ≡ earliest found here → earliest next new ≡ earliest found old
found_on found old new here more next o m e = (λ i. earliest (e i) (m i)) ∙ sym (earliest_append found here more) ∙ ap (earliest found) (sym o)

-- what is cut, where the line is no comment and so takes the notes before it
cut_on : (old new : Cutting) (n : ℕ) (line : List ℕ) (rest : List (List ℕ)) (count : ℕ) → is_comment line ≡ false → new.comments.items ≡ [] → new.directives.items ≡ [] → map statement_of new.done.items ++ begun new.current [] [] (n + 1) rest ++ statements_from [] [] (n + 1) rest ≡ statements_with old n (line ∷ rest) → cut_with new (n + 1) rest count ≡ cut_with old n (line ∷ rest) count
cut_on old new n line rest count h no_comments no_directives same =
    let statements : statements_with new (n + 1) rest ≡ statements_with old n (line ∷ rest) =
    (λ i. map statement_of new.done.items ++ begun new.current (map note_of (no_comments i)) (map note_of (no_directives i)) (n + 1) rest ++ statements_from (map note_of (no_comments i)) (map note_of (no_directives i)) (n + 1) rest) ∙ same in
    let comments = ap (λ (x : List NoteLine). notes_behind comment_at (map note_of x) (n + 1) rest) no_comments ∙ sym (behind_none comment_at (map note_of old.comments.items) n line rest h) in
    let directives = ap (λ (x : List NoteLine). notes_behind directive_at (map note_of x) (n + 1) rest) no_directives ∙ sym (behind_none directive_at (map note_of old.directives.items) n line rest h) in
    λ i. record { statements = statements i; comments = comments i; directives = directives i; lines = count }

-- a continuation line that continues no statement
pub record Skips (old new : Cutting) (n : ℕ) (line : List ℕ) : Type 0 where
  pub was_none : old.current ≡ None
  pub is_none : new.current ≡ None
  pub done : new.done.items ≡ old.done.items
  pub found : found_of new.found ≡ earliest (found_of old.found) (at_line n Orphan [] line)
  pub no_comments : new.comments.items ≡ []
  pub no_directives : new.directives.items ≡ []

orphans_here : (n : ℕ) (line : List ℕ) (rest : List (List ℕ)) → is_comment line ≡ false → is_continuation line ≡ true → refusals_left None n (line ∷ rest) ≡ at_line n Orphan [] line ++ refusals_left None (n + 1) rest
orphans_here n line rest h k =
    let here = at_line n Orphan [] line in
    let more = further_lines (n + 1) rest in
    (λ i. at_orphans (further_more n line rest h k i) ++ statements_past n line rest h k i)
    ∙ ap (λ (t : List Finding). t ++ in_statements (n + 1) rest) (flat_map-cons (λ (l : NumberedLine). at_line l.number Orphan [] l.bytes) (numbered n line) more)
    ∙ append_assoc here (at_orphans more) (in_statements (n + 1) rest)

skipped : (old new : Cutting) (n : ℕ) (line : List ℕ) (rest : List (List ℕ)) → is_comment line ≡ false → is_continuation line ≡ true → Skips old new n line → map statement_of new.done.items ++ begun new.current [] [] (n + 1) rest ++ statements_from [] [] (n + 1) rest ≡ statements_with old n (line ∷ rest)
skipped old new n line rest h k s =
    let comments = map note_of old.comments.items in
    let directives = map note_of old.directives.items in
    (λ i. map statement_of (s.done i) ++ begun (s.is_none i) [] [] (n + 1) rest ++ statements_from [] [] (n + 1) rest)
    ∙ (λ i. map statement_of old.done.items ++ [] ++ sym (from_past comments directives n line rest h k) i)
    ∙ (λ i. map statement_of old.done.items ++ begun (sym s.was_none i) comments directives n (line ∷ rest) ++ statements_from comments directives n (line ∷ rest))

pub orphan_line : (old new : Cutting) (n : ℕ) (line : List ℕ) → is_comment line ≡ false → is_continuation line ≡ true → Skips old new n line → WithLine old n line new
orphan_line old new n line h k s = record {
  refusals = λ rest.
      found_on (found_of old.found) (refusals_left old.current n (line ∷ rest)) (refusals_left new.current (n + 1) rest) (at_line n Orphan [] line) (refusals_left None (n + 1) rest) (found_of new.found)
      (ap (λ (b : Option OpenStatement). refusals_left b n (line ∷ rest)) s.was_none ∙ orphans_here n line rest h k)
      (ap (λ (b : Option OpenStatement). refusals_left b (n + 1) rest) s.is_none)
      s.found;
  cut = λ rest count. cut_on old new n line rest count h s.no_comments s.no_directives (skipped old new n line rest h k s);
}

-- a continuation line of the statement that was begun last
pub record Continues (old new : Cutting) (o p : OpenStatement) (n : ℕ) (line : List ℕ) : Type 0 where
  pub was : old.current ≡ Some o
  pub is : new.current ≡ Some p
  pub done : new.done.items ≡ old.done.items
  pub found : found_of new.found ≡ earliest (found_of old.found) (at_line n (Continuation o.left) (front_of o.text.quoting) line)
  pub line_is : p.line ≡ o.line
  pub label : p.label ≡ o.label
  pub left : p.left ≡ o.left - 1
  pub text : WithColumns o.text (statement_columns line) p.text
  pub comments : p.comments.items ≡ o.comments.items ++ old.comments.items
  pub directives : p.directives.items ≡ o.directives.items ++ old.directives.items
  pub no_comments : new.comments.items ≡ []
  pub no_directives : new.directives.items ≡ []

-- behind a statement's columns so far the next character stands as its text says
quoting_is : (o p : OpenStatement) (line : List ℕ) → WithColumns o.text (statement_columns line) p.text → quoting_of (front_of o.text.quoting ++ statement_columns line) ≡ quoting_of (front_of p.text.quoting)
quoting_is o p line w = w.quoting (front_of o.text.quoting) (front_quoting o.text.quoting) ∙ sym (front_quoting p.text.quoting)

continued_here : (o p : OpenStatement) (n : ℕ) (line : List ℕ) (rest : List (List ℕ)) → is_comment line ≡ false → is_continuation line ≡ true → p.line ≡ o.line → p.left ≡ o.left - 1 → WithColumns o.text (statement_columns line) p.text → refusals_left (Some o) n (line ∷ rest) ≡ at_line n (Continuation o.left) (front_of o.text.quoting) line ++ refusals_left (Some p) (n + 1) rest
continued_here o p n line rest h k line_is left w =
    let front = front_of o.text.quoting in
    let more = further_lines (n + 1) rest in
    let here = at_line n (Continuation o.left) front line in
    let behind = in_statements (n + 1) rest in
    (λ i. in_rest o.line o.left front (further_more n line rest h k i) ++ statements_past n line rest h k i)
    ∙ ap (λ (t : List Finding). t ++ behind) (rest_more o.line o.left front (numbered n line) more)
    ∙ append_assoc here (in_rest o.line (o.left - 1) (front ++ statement_columns line) more) behind
    ∙ ap (λ (t : List Finding). here ++ (t ++ behind)) (rest_alike o.line (o.left - 1) (front ++ statement_columns line) (front_of p.text.quoting) more (quoted_from (front ++ statement_columns line) (front_of p.text.quoting) (quoting_is o p line w)))
    ∙ (λ i. here ++ (in_rest (sym line_is i) (sym left i) (front_of p.text.quoting) more ++ behind))

text_goes_on : (o p : OpenStatement) (n : ℕ) (line : List ℕ) (rest : List (List ℕ)) → is_comment line ≡ false → is_continuation line ≡ true → WithColumns o.text (statement_columns line) p.text → p.text.bytes.items ++ text_behind (front_of p.text.quoting) (joined_columns (further_lines (n + 1) rest)) ≡ o.text.bytes.items ++ text_behind (front_of o.text.quoting) (joined_columns (further_lines n (line ∷ rest)))
text_goes_on o p n line rest h k w =
    let front = front_of o.text.quoting in
    let columns = statement_columns line in
    let more = further_lines (n + 1) rest in
    let joined = joined_columns more in
    (λ i. w.text front (front_quoting o.text.quoting) i ++ text_alike (front_of p.text.quoting) (front ++ columns) joined (sym (quoting_is o p line w)) i)
    ∙ append_assoc o.text.bytes.items (text_behind front columns) (text_behind (front ++ columns) joined)
    ∙ ap (λ (t : List ℕ). o.text.bytes.items ++ t) (sym (text_append front columns joined))
    ∙ ap (λ (t : List ℕ). o.text.bytes.items ++ text_behind front t) (sym (flat_map-cons (λ (l : NumberedLine). statement_columns l.bytes) (numbered n line) more))
    ∙ ap (λ (f : List NumberedLine). o.text.bytes.items ++ text_behind front (joined_columns f)) (sym (further_more n line rest h k))

notes_go_on : (at : ℕ → List ℕ → List Note) (all old between : List NoteLine) (n : ℕ) (line : List ℕ) (rest : List (List ℕ)) → is_comment line ≡ false → is_continuation line ≡ true → all ≡ old ++ between → map note_of all ++ notes_within at [] (n + 1) rest ≡ map note_of old ++ notes_within at (map note_of between) n (line ∷ rest)
notes_go_on at all old between n line rest h k e =
    ap (λ (x : List Note). x ++ notes_within at [] (n + 1) rest) (ap (map note_of) e ∙ map-append note_of old between)
    ∙ append_assoc (map note_of old) (map note_of between) (notes_within at [] (n + 1) rest)
    ∙ ap (λ (x : List Note). map note_of old ++ x) (sym (within_more at (map note_of between) n line rest h k))

begun_goes_on : (old new : Cutting) (o p : OpenStatement) (n : ℕ) (line : List ℕ) (rest : List (List ℕ)) → is_comment line ≡ false → is_continuation line ≡ true → Continues old new o p n line → begun (Some p) [] [] (n + 1) rest ≡ begun (Some o) (map note_of old.comments.items) (map note_of old.directives.items) n (line ∷ rest)
begun_goes_on old new o p n line rest h k s =
    let text = text_goes_on o p n line rest h k s.text in
    let comments = notes_go_on comment_at p.comments.items o.comments.items old.comments.items n line rest h k s.comments in
    let directives = notes_go_on directive_at p.directives.items o.directives.items old.directives.items n line rest h k s.directives in
    λ i. record { line = s.line_is i; label = s.label i; text = text i; comments = comments i; directives = directives i } ∷ []

goes_on : (old new : Cutting) (o p : OpenStatement) (n : ℕ) (line : List ℕ) (rest : List (List ℕ)) → is_comment line ≡ false → is_continuation line ≡ true → Continues old new o p n line → map statement_of new.done.items ++ begun new.current [] [] (n + 1) rest ++ statements_from [] [] (n + 1) rest ≡ statements_with old n (line ∷ rest)
goes_on old new o p n line rest h k s =
    let comments = map note_of old.comments.items in
    let directives = map note_of old.directives.items in
    (λ i. map statement_of (s.done i) ++ begun (s.is i) [] [] (n + 1) rest ++ statements_from [] [] (n + 1) rest)
    ∙ (λ i. map statement_of old.done.items ++ begun_goes_on old new o p n line rest h k s i ++ sym (from_past comments directives n line rest h k) i)
    ∙ (λ i. map statement_of old.done.items ++ begun (sym s.was i) comments directives n (line ∷ rest) ++ statements_from comments directives n (line ∷ rest))

pub continuation_line : (old new : Cutting) (o p : OpenStatement) (n : ℕ) (line : List ℕ) → is_comment line ≡ false → is_continuation line ≡ true → Continues old new o p n line → WithLine old n line new
continuation_line old new o p n line h k s = record {
  refusals = λ rest.
      found_on (found_of old.found) (refusals_left old.current n (line ∷ rest)) (refusals_left new.current (n + 1) rest) (at_line n (Continuation o.left) (front_of o.text.quoting) line) (refusals_left (Some p) (n + 1) rest) (found_of new.found)
      (ap (λ (b : Option OpenStatement). refusals_left b n (line ∷ rest)) s.was ∙ continued_here o p n line rest h k s.line_is s.left s.text)
      (ap (λ (b : Option OpenStatement). refusals_left b (n + 1) rest) s.is)
      s.found;
  cut = λ rest count. cut_on old new n line rest count h s.no_comments s.no_directives (goes_on old new o p n line rest h k s);
}

-- an initial line, which ends the statement that was begun before
pub record Begins (old new : Cutting) (p : OpenStatement) (n : ℕ) (line : List ℕ) : Type 0 where
  pub is : new.current ≡ Some p
  pub done : map statement_of new.done.items ≡ map statement_of old.done.items ++ ended old.current
  pub found : found_of new.found ≡ earliest (earliest (found_of old.found) (left_open old.current)) (at_line n Initial [] line)
  pub line_is : p.line ≡ n
  pub label : p.label ≡ label_of line
  pub left : p.left ≡ most_continuations
  pub text : p.text.bytes.items ≡ text_of (statement_columns line)
  pub quoting : quoting_of (statement_columns line) ≡ p.text.quoting
  pub comments : p.comments.items ≡ old.comments.items
  pub directives : p.directives.items ≡ old.directives.items
  pub no_comments : new.comments.items ≡ []
  pub no_directives : new.directives.items ≡ []

-- the text of a statement's first line
pub record BeginsText (p : OpenText) (line : List ℕ) : Type 0 where
  pub text : p.bytes.items ≡ text_of (statement_columns line)
  pub quoting : quoting_of (statement_columns line) ≡ p.quoting
  pub bad : has_bad [] (statement_columns line) ≡ p.bad

pub first_text : (o p : OpenText) (columns line : List ℕ) → o.bytes.items ≡ [] → quoting_of [] ≡ o.quoting → columns ≡ statement_columns line → WithColumns o columns p → BeginsText p line
first_text o p columns line none outside same w = record {
  text = w.text [] outside ∙ (λ i. none i ++ text_behind [] (same i));
  quoting = ap quoting_of (sym same) ∙ w.quoting [] outside;
  bad = ap (has_bad []) (sym same) ∙ w.bad [] outside;
}

begun_before : (b : Option OpenStatement) (comments directives : List Note) (n : ℕ) (line : List ℕ) (rest : List (List ℕ)) → is_comment line ≡ false → is_continuation line ≡ false → begun b comments directives n (line ∷ rest) ≡ ended b
begun_before None comments directives n line rest h k = refl
begun_before (Some o) comments directives n line rest h k =
    let text = ap (λ (f : List NumberedLine). o.text.bytes.items ++ text_behind (front_of o.text.quoting) (joined_columns f)) (further_none n line rest h k) ∙ append-nil o.text.bytes.items in
    let a = ap (λ (x : List Note). map note_of o.comments.items ++ x) (within_none comment_at comments n line rest h k) ∙ append-nil (map note_of o.comments.items) in
    let d = ap (λ (x : List Note). map note_of o.directives.items ++ x) (within_none directive_at directives n line rest h k) ∙ append-nil (map note_of o.directives.items) in
    λ i. record { line = o.line; label = o.label; text = text i; comments = a i; directives = d i } ∷ []

begun_here : (old new : Cutting) (p : OpenStatement) (n : ℕ) (line : List ℕ) (rest : List (List ℕ)) → Begins old new p n line → begun (Some p) [] [] (n + 1) rest ≡ statement_at (map note_of old.comments.items) (map note_of old.directives.items) n line rest ∷ []
unfolding statement_at
begun_here old new p n line rest b =
    let joined = joined_columns (further_lines (n + 1) rest) in
    let same : quoting_of (front_of p.text.quoting) ≡ quoting_of (statement_columns line) = front_quoting p.text.quoting ∙ sym b.quoting in
    let text = (λ i. b.text i ++ text_alike (front_of p.text.quoting) (statement_columns line) joined same i) ∙ sym (text_append [] (statement_columns line) joined) in
    λ i. record {
      line = b.line_is i;
      label = b.label i;
      text = text i;
      comments = map note_of (b.comments i) ++ notes_within comment_at [] (n + 1) rest;
      directives = map note_of (b.directives i) ++ notes_within directive_at [] (n + 1) rest;
    } ∷ []

begins : (old new : Cutting) (p : OpenStatement) (n : ℕ) (line : List ℕ) (rest : List (List ℕ)) → is_comment line ≡ false → is_continuation line ≡ false → Begins old new p n line → map statement_of new.done.items ++ begun new.current [] [] (n + 1) rest ++ statements_from [] [] (n + 1) rest ≡ statements_with old n (line ∷ rest)
begins old new p n line rest h k b =
    let comments = map note_of old.comments.items in
    let directives = map note_of old.directives.items in
    let before = map statement_of old.done.items ++ begun old.current comments directives n (line ∷ rest) in
    let here = statement_at comments directives n line rest in
    let front : map statement_of new.done.items ++ begun new.current [] [] (n + 1) rest ≡ before ++ here ∷ [] =
    (λ i. b.done i ++ begun (b.is i) [] [] (n + 1) rest)
    ∙ (λ i. (map statement_of old.done.items ++ sym (begun_before old.current comments directives n line rest h k) i) ++ begun_here old new p n line rest b i) in
    (λ i. front i ++ statements_from [] [] (n + 1) rest)
    ∙ append_assoc before (here ∷ []) (statements_from [] [] (n + 1) rest)
    ∙ ap (λ (x : List whole.Statement). before ++ x) (sym (from_here comments directives n line rest h k))

front_is_open : (p : Quoting) → is_quoted (front_of p) ≡ is_inside p
front_is_open p = quoted_is (front_of p) ∙ ap is_inside (front_quoting p)

-- what stands at the end of the statement that was begun before, and at the line
ended_before : (b : Option OpenStatement) (n : ℕ) (line : List ℕ) (rest : List (List ℕ)) → is_comment line ≡ false → is_continuation line ≡ false → refusals_left b n (line ∷ rest) ≡ left_open b ++ in_statements n (line ∷ rest)
ended_before None n line rest h k = ap (λ (f : List NumberedLine). at_orphans f ++ in_statements n (line ∷ rest)) (further_none n line rest h k)
ended_before (Some o) n line rest h k =
    let front = front_of o.text.quoting in
    ap (λ (f : List NumberedLine). in_rest o.line o.left front f ++ in_statements n (line ∷ rest)) (further_none n line rest h k)
    ∙ ap (λ (q : Bool). refused_if q OpenConstant o.line ++ in_statements n (line ∷ rest)) (ap is_quoted (append-nil front) ∙ front_is_open o.text.quoting)

begun_ends : (p : OpenStatement) (n : ℕ) (line : List ℕ) (rest : List (List ℕ)) → is_comment line ≡ false → is_continuation line ≡ false → p.line ≡ n → p.left ≡ most_continuations → quoting_of (statement_columns line) ≡ p.text.quoting → in_statements n (line ∷ rest) ≡ at_line n Initial [] line ++ refusals_left (Some p) (n + 1) rest
begun_ends p n line rest h k line_is left quoting =
    let here = at_line n Initial [] line in
    let more = further_lines (n + 1) rest in
    let behind = in_statements (n + 1) rest in
    statements_here n line rest h k
    ∙ append_assoc here (in_rest n most_continuations (statement_columns line) more) behind
    ∙ ap (λ (t : List Finding). here ++ (t ++ behind)) (rest_alike n most_continuations (statement_columns line) (front_of p.text.quoting) more (quoted_from (statement_columns line) (front_of p.text.quoting) (quoting ∙ sym (front_quoting p.text.quoting))))
    ∙ (λ i. here ++ (in_rest (sym line_is i) (sym left i) (front_of p.text.quoting) more ++ behind))

pub initial_line : (old new : Cutting) (p : OpenStatement) (n : ℕ) (line : List ℕ) → is_comment line ≡ false → is_continuation line ≡ false → Begins old new p n line → WithLine old n line new
initial_line old new p n line h k b = record {
  refusals = λ rest.
      found_on (earliest (found_of old.found) (left_open old.current)) (in_statements n (line ∷ rest)) (refusals_left new.current (n + 1) rest) (at_line n Initial [] line) (refusals_left (Some p) (n + 1) rest) (found_of new.found)
      (begun_ends p n line rest h k b.line_is b.left b.quoting)
      (ap (λ (s : Option OpenStatement). refusals_left s (n + 1) rest) b.is)
      b.found
      ∙ sym (earliest_append (found_of old.found) (left_open old.current) (in_statements n (line ∷ rest)))
      ∙ ap (earliest (found_of old.found)) (sym (ended_before old.current n line rest h k));
  cut = λ rest count. cut_on old new n line rest count h b.no_comments b.no_directives (begins old new p n line rest h k b);
}

-- what stands where no further line comes
pub at_end_is : (b : Option OpenStatement) (n : ℕ) → refusals_left b n [] ≡ left_open b
at_end_is None n = refl
at_end_is (Some o) n =
    append-nil (in_rest o.line o.left (front_of o.text.quoting) [])
    ∙ ap (λ (q : Bool). refused_if q OpenConstant o.line) (ap is_quoted (append-nil (front_of o.text.quoting)) ∙ front_is_open o.text.quoting)
