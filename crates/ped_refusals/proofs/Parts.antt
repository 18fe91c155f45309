-- What stands at a statement, looked at in four parts.
use Rattle.std.proofs.Common.{◌≡◌, ℕ, List, ◌++◌, ◌&&◌, nat_lt, Option, ap, ◌∙◌}
use Rattle.ped_tree.specs.Grammar.Items.{Entry}
use Rattle.ped_tree.specs.Grammar.Contexts.{Context}
use Rattle.ped_tree.specs.Grammar.Refusal.{Finding, Syntax, NotInProfile, OpenBlock, BadTerminal, IndexAssigned, StopPlace, Limit, refused_if, earliest}
use Rattle.ped_tree.specs.Grammar.ProgramRefusals.{at_directives, at_private, at_statement, breaks_syntax, is_left_out, where_it_says, leaves_open, ends_badly, assigns_index, stops, loop_depth, passes_limit}
use Rattle.ped_tree.proofs.GrammarLaws.First.{earliest_append}

four_parts : (found first second third fourth : Option Finding) (directives syntax outside block terminal index private stop limit : List Finding) → first ≡ earliest found directives → second ≡ earliest first (syntax ++ outside ++ block ++ terminal)
    → third ≡ earliest second (index ++ private ++ stop) → fourth ≡ earliest third limit
    → fourth ≡ earliest found (directives ++ syntax ++ outside ++ block ++ terminal ++ index ++ private ++ stop ++ limit)
four_parts found first second third fourth directives syntax outside block terminal index private stop limit h k m n =
    let joined : earliest (earliest (earliest (earliest found directives) (syntax ++ outside ++ block ++ terminal)) (index ++ private ++ stop)) limit ≡ earliest found (directives ++ syntax ++ outside ++ block ++ terminal ++ index ++ private ++ stop ++ limit) =
    simp earliest_append in
    n ∙ ap (λ (f : Option Finding). earliest f limit) (m ∙ ap (λ (f : Option Finding). earliest f (index ++ private ++ stop)) (k ∙ ap (λ (f : Option Finding). earliest f (syntax ++ outside ++ block ++ terminal)) h)) ∙ joined

-- the directives; the form and the place; the loops round the statement; the limits
pub statement_parts : (saved : List (List ℕ)) (c : Context) (e : Entry) (rest : List Entry) (found first second third fourth : Option Finding) → first ≡ earliest found (at_directives c e)
    → second ≡ earliest first (refused_if (breaks_syntax c e.statement.label e.reading) Syntax e.statement.line ++ refused_if (is_left_out e.reading) NotInProfile e.statement.line ++ refused_if (where_it_says (leaves_open c.blocks) e.reading) OpenBlock e.statement.line ++ refused_if (ends_badly c.blocks e.statement.label e.reading) BadTerminal e.statement.line)
    → third ≡ earliest second (refused_if (assigns_index c e.reading) IndexAssigned e.statement.line ++ at_private c e.reading ++ refused_if (where_it_says stops e.reading && nat_lt 0 (loop_depth c.blocks)) StopPlace e.statement.line)
    → fourth ≡ earliest third (refused_if (where_it_says (passes_limit saved c rest) e.reading) Limit e.statement.line) → fourth ≡ earliest found (at_statement saved c e rest)
statement_parts saved c e rest found first second third fourth h k m n =
    let line = e.statement.line in
    four_parts found first second third fourth (at_directives c e)
    (refused_if (breaks_syntax c e.statement.label e.reading) Syntax line) (refused_if (is_left_out e.reading) NotInProfile line) (refused_if (where_it_says (leaves_open c.blocks) e.reading) OpenBlock line) (refused_if (ends_badly c.blocks e.statement.label e.reading) BadTerminal line)
    (refused_if (assigns_index c e.reading) IndexAssigned line) (at_private c e.reading) (refused_if (where_it_says stops e.reading && nat_lt 0 (loop_depth c.blocks)) StopPlace line)
    (refused_if (where_it_says (passes_limit saved c rest) e.reading) Limit line) h k m n
