-- Edits of a session.
use Rattle.std.proofs.Common.{◌≡◌, ℕ, ◌+◌, ◌-◌, ◌≤◌, nat_le, List, Bool, true, ◌&&◌, refl, sym, ap, subst, ◌∙◌, arith}
use Rattle.std.specs.Prelude.{MatchBool}
use Rattle.std.proofs.lemmas.Bool.Decides.{nat_tests}
use Rattle.ped_tree.specs.Tree.{ProgramTree}
use Rattle.ped_tree.specs.Grammar.RefusalViews.{finding_of}
use Rattle.ped_tree.specs.declared.grammar.refusals.Refusal as of_text
use Rattle.ped_versions.specs.ped_valid.specs.Validity.{ReadsValid, RefusesText}
use Rattle.ped_versions.specs.ped_update.specs.Fresh.{tested_pairs}
use Rattle.ped_session.specs.declared.replies.Reply.{Reply}
use Rattle.ped_session.specs.declared.replies.Reply.TheVariants.{Refused}
use Rattle.ped_session.specs.declared.replies.Refusal.TheVariants.{BadEdit, NoSuchLine}
use Rattle.ped_versions.specs.States.{State}
use Rattle.ped_session.specs.Changing.{EditChanges}
use Rattle.ped_versions.specs.Splices.{spliced, line_count, are_lines, is_place, edit_keep}
use Rattle.ped_session.specs.Steps.{Refuses, Edits, accepted, refused, Replaces, Inserts}
use Rattle.ped_session.specs.Scripts.{tests_of}
use Rattle.ped_session.proofs.OneStep.{one_tree, not_both}

-- the text that results from lines put in the place of others
pub made_from : (slice text source present : List ℕ) (kept gone : ℕ) (new : List (List ℕ)) → slice ≡ text → text ≡ spliced source kept gone new → source ≡ present
    → slice ≡ spliced present kept gone new
made_from slice text source present kept gone new is made from = is ∙ made ∙ ap (λ (bytes : List ℕ). spliced bytes kept gone new) from

-- an edit whose text reads as a valid program
pub edited : (s next : State) (kept gone : ℕ) (text all : List ℕ) (new : ProgramTree) (reply : Reply) → text ≡ all → ReadsValid text new → EditChanges new kept gone s reply next → Edits kept gone all s reply next
edited s next kept gone text all new reply made reads change =
    accepted change.1 new change.2 (subst (λ (bytes : List ℕ). ReadsValid bytes new) made reads) change.0 change.3

-- an edit whose text is refused
pub refused_edit : (s : State) (kept gone : ℕ) (text all : List ℕ) (why : of_text.Refusal) → text ≡ all → RefusesText text (finding_of why)
    → Edits kept gone all s (Refused (BadEdit why)) s
refused_edit s kept gone text all why made refuses = refused why (subst (λ (bytes : List ℕ). RefusesText bytes (finding_of why)) made refuses) (refl, refl)

-- it tests no more than what its answer says
pub tests_by : (s : State) (kept gone : ℕ) (text all : List ℕ) (new : ProgramTree) (before now : ℕ)
    → text ≡ all → ReadsValid text new → ((old : ProgramTree) → ReadsValid s.present old → now ≤ before + tested_pairs old new (edit_keep old new kept gone))
    → (reply : Reply) (next : State) → Edits kept gone all s reply next → now ≤ before + tests_of reply next
tests_by s kept gone text all new before now made reads most reply next (accepted old other reads_old reads_other replies goes) =
    let same = one_tree all new other (subst (λ (bytes : List ℕ). ReadsValid bytes new) made reads) reads_other in
    let tests : tests_of reply next ≡ tested_pairs old new (edit_keep old new kept gone) = (λ i. tests_of (replies i) (goes i)) ∙ ap (λ (t : ProgramTree). tested_pairs old t (edit_keep old t kept gone)) (sym same) in
    subst (λ (n : ℕ). now ≤ before + n) (sym tests) (most old reads_old)
tests_by s kept gone text all new before now made reads most reply next (refused why refuses stays) =
    absurd (not_both all new _ (subst (λ (bytes : List ℕ). ReadsValid bytes new) made reads) refuses)

gone_lines : (count first last : ℕ) → (nat_le 1 first && nat_le first last && nat_le last count) ≡ true → last + 1 - first ≡ last - first + 1
gone_lines count first last h = grind (arith, nat_tests)

-- lines that the present source has are replaced by an edit
pub edits_lines : (s : State) (text : List ℕ) (first last : ℕ) (new : List (List ℕ)) (reply : Reply) (next : State) (test : Bool)
    → test ≡ are_lines text first last → test ≡ true → text ≡ s.present
    → Replaces first last new s reply next → Edits (first - 1) (last - first + 1) (spliced s.present (first - 1) (last - first + 1) new) s reply next
edits_lines s text first last new reply next test is there same replaces =
    let stands : are_lines s.present first last ≡ true = ap (λ (bytes : List ℕ). are_lines bytes first last) (sym same) ∙ sym is ∙ there in
    let edit = subst (λ (b : Bool). MatchBool b (Edits (first - 1) (last + 1 - first) (spliced s.present (first - 1) (last + 1 - first) new) s reply next) (Refuses NoSuchLine s reply next)) stands replaces in
    subst (λ (n : ℕ). Edits (first - 1) n (spliced s.present (first - 1) n new) s reply next) (gone_lines (line_count s.present) first last stands) edit

-- and lines come behind a line that it has
pub edits_place : (s : State) (text : List ℕ) (after : ℕ) (new : List (List ℕ)) (reply : Reply) (next : State) (test : Bool)
    → test ≡ is_place text after → test ≡ true → text ≡ s.present
    → Inserts after new s reply next → Edits after 0 (spliced s.present after 0 new) s reply next
edits_place s text after new reply next test is there same inserts =
    let stands : is_place s.present after ≡ true = ap (λ (bytes : List ℕ). is_place bytes after) (sym same) ∙ sym is ∙ there in
    subst (λ (b : Bool). MatchBool b (Edits after 0 (spliced s.present after 0 new) s reply next) (Refuses NoSuchLine s reply next)) stands inserts
