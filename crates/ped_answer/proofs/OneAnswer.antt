-- Words and files have one answer.
use Rattle.std.proofs.Common.{◌≡◌, ◌⊎◌, inl, inr, ℕ, Bool, true, false, List, [], ◌++◌, Option, Some, None, refl, sym, ap, ◌∙◌, subst, length}
use Rattle.std.specs.Prelude.{MatchOption, MatchBool, nat_lt}
use Rattle.ped_io.specs.Outside.{Contents, content}
use Rattle.ped_tree.specs.Tree.{ProgramTree}
use Rattle.ped_tree.specs.Grammar.Refusal.{Finding}
use Rattle.ped_tree.specs.SourcePane.{source_pane}
use Rattle.ped_session.specs.ped_valid.specs.Validity.{ReadsValid, RefusesText}
use Rattle.ped_session.specs.ped_valid.proofs.OneVerdict.{one_of_both}
use Rattle.ped_call_runs.specs.ped_calls.specs.ped_units.specs.Verdicts.{UnitFinding, found_in_text, RefusesUnits, IsExpansion}
use Rattle.ped_call_runs.specs.ped_calls.proofs.OneVerdict as units
use Rattle.ped_session.specs.ped_graph.proofs.OnePane.{one_pane}
use Rattle.ped_script.specs.Items.{commands_of}
use Rattle.ped_session.specs.Panes.{ArePanes}
use Rattle.ped_session.specs.States.{State, opened}
use Rattle.ped_session.specs.Scripts.{Said}
use Rattle.ped_session.proofs.OneAnswer as items
use Rattle.ped_answer.specs.declared.answering.Status.{Status}
use Rattle.ped_answer.specs.declared.answering.Status.TheVariants.{Done, SomeRefused, BadWords, ReadFault, WriteFault, ProgramRefused, NoMemory, TooLong}
use Rattle.ped_gen.specs.Generated.{program}
use Rattle.ped_answer.specs.Refusals.{refused_line}
use Rattle.ped_answer.specs.Generated.{Reports, IsGenerated}
use Rattle.ped_answer.specs.Serving.{session_status, AnswersFrom}
use Rattle.ped_answer.proofs.OneReport.{one_report}
use Rattle.ped_words.specs.Requests.{Request, show, session, generate}
use Rattle.ped_answer.specs.Answer.{Input, source_input, data_input, cannot_read_line, too_long_line, IsJust, IsShown, ShowsTree, IsSession, AnswersInput, AnswersData, Answers}

-- a text has one valid tree at most
pub one_tree : (text : List ℕ) (t u : ProgramTree) → ReadsValid text t → ReadsValid text u → t ≡ u
one_tree text t u p q = elim (one_of_both text) [
  | inl tree ↦ tree.only t p ∙ sym (tree.only u q)
  | inr refusal ↦ absurd (refusal.treeless t p)
]

-- a text has one first refusal at most
one_refusal : (text : List ℕ) (f g : Finding) → RefusesText text f → RefusesText text g → f ≡ g
one_refusal text f g p q = elim (one_of_both text) [
  | inl tree ↦ absurd (tree.accepted f p)
  | inr refusal ↦ refusal.only f p ∙ sym (refusal.only g q)
]

-- no text has both
pub not_both : (text : List ℕ) (t : ProgramTree) (f : Finding) → ReadsValid text t → RefusesText text f → ⊥
not_both text t f p q = elim (one_of_both text) [
  | inl tree ↦ tree.accepted f q
  | inr refusal ↦ refusal.treeless t p
]

-- and so a file's text has one expansion or one first refusal at most
pub one_expansion : (text : List ℕ) (t u : ProgramTree) → IsExpansion text t → IsExpansion text u → t ≡ u
one_expansion text t u p q = elim (units.one_of_both text) [
  | inl tree ↦ tree.only t p ∙ sym (tree.only u q)
  | inr refusal ↦ absurd (refusal.treeless t p)
]

one_unit_refusal : (text : List ℕ) (f g : UnitFinding) → RefusesUnits text f → RefusesUnits text g → f ≡ g
one_unit_refusal text f g p q = elim (units.one_of_both text) [
  | inl tree ↦ absurd (tree.accepted f p)
  | inr refusal ↦ refusal.only f p ∙ sym (refusal.only g q)
]

pub never_both : (text : List ℕ) (t : ProgramTree) (f : UnitFinding) → IsExpansion text t → RefusesUnits text f → ⊥
never_both text t f p q = elim (units.one_of_both text) [
  | inl tree ↦ tree.accepted f q
  | inr refusal ↦ refusal.treeless t p
]

-- there is one answer at most
abbrev HasOne : (Status → List ℕ → Type 0) → Type 0
HasOne answers = (s t : Status) (a b : List ℕ) → answers s a → answers t b → (s ≡ t) × (a ≡ b)

-- what is answered to a text that is opened as a program or refused: what is answered on the program, or the refusal
abbrev AnswersText : (ProgramTree → Type 0) → (UnitFinding → Type 0) → (ProgramTree → Status → List ℕ → Type 0) → Status → List ℕ → Type 0
AnswersText opens refuses on s b = ((t : ProgramTree) × opens t × on t s b) ⊎ ((f : UnitFinding) × refuses f × IsJust ProgramRefused (refused_line f) s b)

-- it is opened as one program at most, or has one refusal at most, and never both
record OpensOnce (opens : ProgramTree → Type 0) (refuses : UnitFinding → Type 0) : Type 0 where
  tree : (t u : ProgramTree) → opens t → opens u → t ≡ u
  refusal : (f g : UnitFinding) → refuses f → refuses g → f ≡ g
  both : (t : ProgramTree) (f : UnitFinding) → opens t → refuses f → ⊥

file_once : (text : List ℕ) → OpensOnce (IsExpansion text) (RefusesUnits text)
file_once text = record { tree = one_expansion text; refusal = one_unit_refusal text; both = never_both text }

-- a program that is made is no file of program units
abbrev RefusesMade : List ℕ → UnitFinding → Type 0
RefusesMade text f = (g : Finding) × RefusesText text g × (f ≡ found_in_text g)

made_once : (text : List ℕ) → OpensOnce (ReadsValid text) (RefusesMade text)
made_once text = record {
  tree = one_tree text;
  refusal = λ f g p q. p.2 ∙ ap found_in_text (one_refusal text p.0 q.0 p.1 q.1) ∙ sym q.2;
  both = λ t f p q. not_both text t q.0 p q.1;
}

-- there is one answer to the text where there is one on each program
one_text : (opens : ProgramTree → Type 0) (refuses : UnitFinding → Type 0) → OpensOnce opens refuses
    → (on : ProgramTree → Status → List ℕ → Type 0) → ((t : ProgramTree) → HasOne (on t)) → HasOne (AnswersText opens refuses on)
one_text opens refuses once on one s t a b (inl p) (inl q) = one q.0 s t a b (subst (λ (u : ProgramTree). on u s a) (once.tree p.0 q.0 p.1 q.1) p.2) q.2
one_text opens refuses once on one s t a b (inl p) (inr q) = absurd (once.both p.0 q.0 p.1 q.1)
one_text opens refuses once on one s t a b (inr p) (inl q) = absurd (once.both q.0 p.0 q.1 p.1)
one_text opens refuses once on one s t a b (inr p) (inr q) = (p.2.0 ∙ sym q.2.0, p.2.1 ∙ ap refused_line (once.refusal p.0 q.0 p.1 q.1) ∙ sym q.2.1)

-- a program has one text of both panes
one_panes : (t : ProgramTree) (a b : List ℕ) → ArePanes t a → ArePanes t b → a ≡ b
one_panes t a b p q = p.2 ∙ ap (λ (pane : List ℕ). source_pane t ++ pane) (one_pane t p.0 q.0 p.1 q.1) ∙ sym q.2

-- what is shown of a text is answered to it
shown_text : (text : List ℕ) (s : Status) (b : List ℕ) → IsShown text s b → AnswersText (IsExpansion text) (RefusesUnits text) ShowsTree s b
shown_text text Done b h = inl (h.0, h.1, (refl, h.2))
shown_text text ProgramRefused b h = inr (h.0, h.1, (refl, h.2))
shown_text text SomeRefused b h = absurd h
shown_text text BadWords b h = absurd h
shown_text text ReadFault b h = absurd h
shown_text text WriteFault b h = absurd h
shown_text text NoMemory b h = absurd h
shown_text text TooLong b h = absurd h

-- one thing is shown of a text
one_shown : (text : List ℕ) → HasOne (IsShown text)
one_shown text s t a b p q =
    one_text (IsExpansion text) (RefusesUnits text) (file_once text) ShowsTree (λ u s t a b p q. (p.0 ∙ sym q.0, one_panes u a b p.1 q.1)) s t a b (shown_text text s a p) (shown_text text t b q)

-- a script answers one thing in a state
one_script : (script data_bytes : List ℕ) (state : State) → HasOne (AnswersFrom state script data_bytes)
one_script script data_bytes state s t a b p q =
    let said = (items.one_all (commands_of script) data_bytes state p.1 q.1 p.0 q.0 p.2 q.2).0 in
    (p.3 ∙ ap (λ (x : Said). session_status x.refused) said ∙ sym q.3, p.4 ∙ ap (λ (x : Said). x.bytes) said ∙ sym q.4)

-- what a session answers is what its script answers on the program that a text expands to, or the first refusal of that text
session_text : (text script data_bytes : List ℕ) (s : Status) (b : List ℕ) → IsSession text script data_bytes s b → AnswersText (IsExpansion text) (RefusesUnits text) (λ t. AnswersFrom (opened t) script data_bytes) s b
session_text text script data_bytes Done b h = inl (h.tree, h.expands, (h.said, h.last, h.answers, ap session_status h.some, h.says))
session_text text script data_bytes SomeRefused b h = inl (h.tree, h.expands, (h.said, h.last, h.answers, ap session_status h.some, h.says))
session_text text script data_bytes ProgramRefused b h = inr (h.0, h.1, (refl, h.2))
session_text text script data_bytes BadWords b h = absurd h
session_text text script data_bytes ReadFault b h = absurd h
session_text text script data_bytes WriteFault b h = absurd h
session_text text script data_bytes NoMemory b h = absurd h
session_text text script data_bytes TooLong b h = absurd h

-- a session has one answer
one_session : (text script data_bytes : List ℕ) → HasOne (IsSession text script data_bytes)
one_session text script data_bytes s t a b p q =
    one_text (IsExpansion text) (RefusesUnits text) (file_once text) (λ u. AnswersFrom (opened u) script data_bytes) (λ u. one_script script data_bytes (opened u)) s t a b
    (session_text text script data_bytes s a p) (session_text text script data_bytes t b q)

-- a report, and no other answer
abbrev IsReport : ℕ → ProgramTree → Status → List ℕ → Type 0
IsReport n t s b = (s ≡ Done) × Reports n t b

-- what is answered on a program that is made is its report, or the first refusal of its text
generated_text : (n : ℕ) (s : Status) (b : List ℕ) → IsGenerated n s b → AnswersText (ReadsValid (program n)) (RefusesMade (program n)) (IsReport n) s b
generated_text n Done b h = inl (h.0, h.1, (refl, h.2))
generated_text n ProgramRefused b h = inr (found_in_text h.0, (h.0, h.1, refl), (refl, h.2))
generated_text n SomeRefused b h = absurd h
generated_text n BadWords b h = absurd h
generated_text n ReadFault b h = absurd h
generated_text n WriteFault b h = absurd h
generated_text n NoMemory b h = absurd h
generated_text n TooLong b h = absurd h

-- a program that is made has one answer
one_generated : (n : ℕ) → HasOne (IsGenerated n)
one_generated n s t a b p q =
    one_text (ReadsValid (program n)) (RefusesMade (program n)) (made_once (program n)) (IsReport n) (λ u s t a b p q. (p.0 ∙ sym q.0, one_report n u a b p.1 q.1)) s t a b
    (generated_text n s a p) (generated_text n t b q)

-- there is one answer to a file where there is one to its bytes, by whether they are too many
one_by : (i : Input) (answers : Status → List ℕ → Type 0) → HasOne answers → (long : Bool) → HasOne (λ s b. MatchBool long (IsJust TooLong (too_long_line i) s b) (answers s b))
one_by i answers one true s t a b p q = (p.0 ∙ sym q.0, p.1 ∙ sym q.1)
one_by i answers one false s t a b p q = one s t a b p q

one_held : (i : Input) (answers : List ℕ → Status → List ℕ → Type 0) → ((text : List ℕ) → HasOne (answers text)) → (held : Option (List ℕ))
    → HasOne (λ s b. MatchOption held (IsJust ReadFault (cannot_read_line i.name) s b) (λ text. MatchBool (nat_lt i.most (length text)) (IsJust TooLong (too_long_line i) s b) (answers text s b)))
one_held i answers one None s t a b p q = (p.0 ∙ sym q.0, p.1 ∙ sym q.1)
one_held i answers one (Some text) s t a b p q = one_by i (answers text) (one text) (nat_lt i.most (length text)) s t a b p q

one_input : (i : Input) (files : Contents) (answers : List ℕ → Status → List ℕ → Type 0) → ((text : List ℕ) → HasOne (answers text)) → HasOne (AnswersInput i files answers)
one_input i files answers one s t a b p q = one_held i answers one (content files i.name) s t a b p q

one_data : (data_file : Option (List ℕ)) (files : Contents) (answers : List ℕ → Status → List ℕ → Type 0) → ((text : List ℕ) → HasOne (answers text)) → HasOne (AnswersData data_file files answers)
one_data None files answers one s t a b p q = one [] s t a b p q
one_data (Some file) files answers one s t a b p q = one_input (data_input file) files answers one s t a b p q

-- words and files have one answer
pub one_answer : (request : Option Request) (files : Contents) (s t : Status) (a b : List ℕ) → Answers request files s a → Answers request files t b → (s ≡ t) × (a ≡ b)
one_answer None files s t a b p q = (p.0 ∙ sym q.0, p.1 ∙ sym q.1)
one_answer (Some (show name)) files s t a b p q = one_input (source_input name) files IsShown one_shown s t a b p q
one_answer (Some (session name script data_file)) files s t a b p q =
    one_input (source_input name) files (λ text. AnswersInput (source_input script) files (λ commands. AnswersData data_file files (IsSession text commands)))
    (λ text. one_input (source_input script) files (λ commands. AnswersData data_file files (IsSession text commands)) (λ commands. one_data data_file files (IsSession text commands) (one_session text commands))) s t a b p q
one_answer (Some (generate number)) files s t a b p q = one_generated number s t a b p q
