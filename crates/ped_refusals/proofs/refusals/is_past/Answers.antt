use Rattle.std.proofs.Common.{◌≡◌, ◌<◌, ℕ, List, Option, true, nat_lt, map, sym, ap, subst, ◌∙◌, arith}
use Rattle.std.specs.List.{list_all}
use Rattle.ped_tree.specs.Grammar.Refusal.{earliest}
use Rattle.ped_tree.specs.Grammar.ProgramRefusals.{at_private, at_statement}
use Rattle.ped_tree.specs.Grammar.StatementViews.{note_of}
use Rattle.ped_tree.specs.declared.grammar.statements.NoteLine.{NoteLine}
use Rattle.ped_tree.specs.Grammar.ItemViews.{entry_of, reading_of}
use Rattle.ped_tree.specs.Grammar.RefusalViews.{finding_of, found_of}
use Rattle.ped_tree.specs.declared.grammar.refusals.Refusal.{Refusal}
use Rattle.ped_refusals.proofs.Passing.{statement_later}
use Rattle.ped_refusals.proofs.refusals.is_past.Goals as goal

lt_true : (a b : ℕ) → a < b → nat_lt a b ≡ true
lt_true a b h = grind arith

pub returns-then-first-entry : goal.returns-then-first-entry
returns-then-first-entry c h saved x rest =
    let first = c.in-Some.first in
    let all = sym (ap (λ (ds : List NoteLine). list_all (λ d. nat_lt first.line d.line) (map note_of ds)) c.as_slice.ensures) ∙ sym c.all_behind.ensures ∙ h in
    subst (λ (found : Option Refusal). earliest (found_of found) (at_statement saved x (entry_of c.args.entry.now) rest) ≡ earliest (found_of found) (at_private x (reading_of c.args.entry.now.reading))) (sym c.in-Some.is)
    (statement_later (finding_of first) saved x (entry_of c.args.entry.now) rest (lt_true first.line c.args.entry.now.statement.line c.if-first-entry.true) all)
