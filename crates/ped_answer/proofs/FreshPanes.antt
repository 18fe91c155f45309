-- What is shown of the present program is what comes of reading the present source afresh.
use Rattle.std.proofs.Common.{◌≡◌, inl, inr, ℕ, List, [], append-nil, Option, Some, None, refl, sym, ap, ◌∙◌, subst}
use Rattle.std.specs.Prelude.{codes, MatchOption}
use Rattle.ped_io.specs.Outside.{Contents}
use Rattle.ped_words.specs.Requests.{Request, show, session, generate}
use Rattle.ped_tree.specs.Tree.{StmtTree, ProgramTree}
use Rattle.ped_tree.specs.Printing.{program_text}
use Rattle.ped_tree.specs.Numbering.{statement_with}
use Rattle.ped_session.specs.ped_symbols.specs.NameRefusals.{IsValid}
use Rattle.ped_session.specs.ped_valid.specs.Validity.{ReadsValid}
use Rattle.ped_call_runs.specs.ped_calls.specs.ped_units.specs.Verdicts.{IsExpansion}
use Rattle.ped_session.specs.ped_graph.specs.DependencePane.{IsDependencePane, IsDependencePaneOf}
use Rattle.ped_session.specs.ped_transformations.specs.ped_inline.specs.CallsPane.{IsCallsPane}
use Rattle.ped_session.specs.ped_transformations.specs.Advice.{IsAdvice}
use Rattle.ped_session.specs.ped_transformations.specs.ped_evidence.specs.SystemTexts.{system_text}
use Rattle.ped_script.specs.declared.items.Item.{Item}
use Rattle.ped_script.specs.declared.items.Command.{Command}
use Rattle.ped_script.specs.declared.items.Command.TheVariants.{Auto}
use Rattle.ped_script.specs.declared.kinds.Query.{Query}
use Rattle.ped_script.specs.declared.kinds.Query.TheVariants.{Source, Deps, Show, Calls, Print, Advise, System, Tested}
use Rattle.ped_script.specs.declared.kinds.CommandKind.{CommandKind}
use Rattle.ped_script.specs.declared.kinds.CommandKind.TheVariants as kind
use Rattle.ped_script.specs.Kinds.{kind_of}
use Rattle.ped_session.specs.declared.replies.Reply.{Reply}
use Rattle.ped_session.specs.declared.replies.Reply.TheVariants.{Shown, Refused}
use Rattle.ped_session.specs.declared.replies.Refusal.TheVariants.{NoSuchStatement, NoSuchPair}
use Rattle.ped_session.specs.States.{State, opened}
use Rattle.ped_session.specs.Idle.{AreIdle}
use Rattle.ped_session.specs.Panes.{IsSourcePane, ArePanes}
use Rattle.ped_session.specs.Replies.{answer_row, reply_text}
use Rattle.ped_session.specs.Histories.{IsPrinted, ArePrinted}
use Rattle.ped_session.specs.Steps.{Refuses, Prints, Shows, ShowsOf, ShowsStatement, ShowsAnswer, IsStepOf}
use Rattle.ped_session.specs.Scripts.{Said, said_by, AnswersCommand, AnswersItems}
use Rattle.ped_answer.specs.declared.answering.Status.{Status}
use Rattle.ped_answer.specs.declared.answering.Status.TheVariants.{Done, SomeRefused, BadWords, ReadFault, WriteFault, ProgramRefused, NoMemory, TooLong}
use Rattle.ped_answer.specs.Answer.{IsWhole, source_input, IsShown, Answers}
use Rattle.ped_answer.specs.Headline.{Afresh, IsOfStatement, IsSystemOf, Asks, AnswersAfresh, ShowsAfresh, ShowsFile, PanesRequest}
use Rattle.ped_answer.proofs.OneAnswer.{one_tree}
use Rattle.ped_answer.proofs.ExistenceLaws.Replying.{reads_as}
use Rattle.ped_answer.proofs.WholeAnswers.{of_file}
use Rattle.ped_answer.proofs.EachItems.{SoOfValid, session_each}

-- what is so of the program that a printed text reads as
afresh : (IsSo : ProgramTree → List ℕ → Type 0) (text bytes : List ℕ) (t : ProgramTree) → IsPrinted text → ReadsValid text t → IsSo t bytes → Afresh IsSo text bytes
afresh IsSo text bytes t printed reads so =
    let same : t ≡ printed.0 = one_tree text t printed.0 reads (reads_as text printed.0 printed.1 printed.2) in
    record { tree = t; reads = reads; no_other = λ u other. one_tree text u t other reads; printed = printed.2 ∙ ap program_text (sym same); so = so }

-- the bytes of a reply
pub bytes_of : (line : ℕ) (reply other : Reply) (next : State) (said : Said) → said ≡ said_by line reply [] next → reply ≡ other → said.bytes ≡ reply_text line other
bytes_of line reply other next said says is = ap (λ (x : Said). x.bytes) says ∙ append-nil (reply_text line reply) ∙ ap (reply_text line) is

shows : (IsSo : ProgramTree → List ℕ → Type 0) (line : ℕ) (s next : State) (reply : Reply) (said : Said) → IsPrinted s.present → Shows IsSo s reply next → said ≡ said_by line reply [] next → Afresh IsSo s.present said.bytes
shows IsSo line s next reply said printed h says =
    afresh IsSo s.present said.bytes h.tree printed h.reads
    (subst (IsSo h.tree) (sym (bytes_of line reply (Shown h.bytes) next said says h.prints.0)) h.so)

-- the rows of a statement, where there is one
rows_by : (IsSo : ProgramTree → List ℕ → Type 0) (line : ℕ) (statement : Option StmtTree) (s next : State) (reply : Reply) (said : Said) (t : ProgramTree) → ReadsValid s.present t → ShowsOf IsSo statement s reply next → said ≡ said_by line reply [] next
    → MatchOption statement (said.bytes ≡ answer_row line (codes "refused NoSuchStatement")) (λ (found : StmtTree). IsSo t said.bytes)
rows_by IsSo line None s next reply said t reads h says = bytes_of line reply (Refused NoSuchStatement) next said says h.0
rows_by IsSo line (Some found) s next reply said t reads h says =
    subst (λ (u : ProgramTree). IsSo u said.bytes) (one_tree s.present h.tree t h.reads reads)
    (subst (IsSo h.tree) (sym (bytes_of line reply (Shown h.bytes) next said says h.prints.0)) h.so)

-- what is shown of a statement
shows_of : (IsSo : ProgramTree → List ℕ → Type 0) (line number : ℕ) (s next : State) (reply : Reply) (said : Said) → IsPrinted s.present → ShowsStatement IsSo number s reply next → said ≡ said_by line reply [] next
    → Afresh (IsOfStatement IsSo line number) s.present said.bytes
shows_of IsSo line number s next reply said printed h says =
    afresh (IsOfStatement IsSo line number) s.present said.bytes h.tree printed h.reads (rows_by IsSo line (statement_with number h.tree) s next reply said h.tree h.reads h.shows says)

-- the system of a pair, where there is one
pair_shows : (line : ℕ) (s next : State) (reply : Reply) (said : Said) (found : Option (List ℕ)) → MatchOption found (Refuses NoSuchPair s reply next) (λ text. Prints text s reply next) → said ≡ said_by line reply [] next
    → MatchOption found (said.bytes ≡ answer_row line (codes "refused NoSuchPair")) (λ text. said.bytes ≡ text)
pair_shows line s next reply said None h says = bytes_of line reply (Refused NoSuchPair) next said says h.0
pair_shows line s next reply said (Some text) h says = bytes_of line reply (Shown text) next said says h.0

reply_shows : (query : Query) (line : ℕ) (s next : State) (reply : Reply) (said : Said) → IsPrinted s.present → ShowsAnswer query s reply next → said ≡ said_by line reply [] next → AnswersAfresh query line s said.bytes
reply_shows Source line s next reply said printed h says = shows IsSourcePane line s next reply said printed h says
reply_shows (Deps None) line s next reply said printed h says = shows IsDependencePane line s next reply said printed h says
reply_shows (Deps (Some number)) line s next reply said printed h says = shows_of (λ t. IsDependencePaneOf t (Some number)) line number s next reply said printed h says
reply_shows Show line s next reply said printed h says = shows ArePanes line s next reply said printed h says
reply_shows Calls line s next reply said printed h says = shows IsCallsPane line s next reply said printed h says
reply_shows Print line s next reply said printed h says = bytes_of line reply (Shown s.present) next said says h.0
reply_shows (Advise number) line s next reply said printed h says = shows_of (λ t. IsAdvice t number) line number s next reply said printed h says
reply_shows (System source sink pattern) line s next reply said printed h says =
    afresh (IsSystemOf source sink pattern line) s.present said.bytes h.tree printed h.reads (pair_shows line s next reply said (system_text h.tree source sink pattern) h.shows says)
reply_shows Tested line s next reply said printed h says = tt

-- a command that asks is of this kind
asks_is : (c : Command) (query : Query) → Asks (Some c) query → kind_of c ≡ kind.Ask query
asks_is c query asks = cc

line_shows : (line : ℕ) (command : Option Command) (d : List ℕ) (s next : State) (said : Said) → IsPrinted s.present → AnswersCommand line command d s said next → ShowsAfresh line command d s said next
line_shows line None d s next said printed h = λ query asks. absurd cc
line_shows line (Some c) d s next said printed (inl h) = λ query asks.
    let none : h.2 ≡ [] = subst (λ (k : CommandKind). AreIdle line k s h.2) (asks_is c query asks) h.3 in
    reply_shows query line s next h.0 said printed (subst (λ (k : CommandKind). IsStepOf k d s h.0 next) (asks_is c query asks) h.1) (h.4 ∙ ap (λ (rows : List ℕ). said_by line h.0 rows next) none)
line_shows line (Some c) d s next said printed (inr (is, h)) = λ query asks.
    let same : kind.Auto ≡ kind.Ask query = ap kind_of (sym is) ∙ asks_is c query asks in
    absurd cc

-- whatever a script does on a valid program, all sources are printed texts
abbrev pub AllPrinted : Type 0
AllPrinted = (t : ProgramTree) → IsValid t → (items : List Item) (data_bytes : List ℕ) (said : Said) (last : State) → AnswersItems items data_bytes (opened t) said last → ArePrinted last

each_shows : AllPrinted → SoOfValid ShowsAfresh
each_shows all d t valid line command s next said came h = line_shows line command d s next said (all t valid came.0 d came.1 s came.2).present h

-- both panes of a file
file_shows : (text : List ℕ) (s : Status) (b : List ℕ) → IsWhole s → IsShown text s b → (t : ProgramTree) × IsExpansion text t × ArePanes t b
file_shows text Done b whole h = h
file_shows text SomeRefused b whole h = absurd h
file_shows text BadWords b whole h = absurd whole
file_shows text ReadFault b whole h = absurd whole
file_shows text WriteFault b whole h = absurd whole
file_shows text ProgramRefused b whole h = absurd whole
file_shows text NoMemory b whole h = absurd whole
file_shows text TooLong b whole h = absurd whole

pub shows_file : (program : List ℕ) (files : Contents) (s : Status) (b : List ℕ) → IsWhole s → Answers (Some (show program)) files s b → ShowsFile program files b
shows_file program files s b whole h =
    let p = of_file (source_input program) files IsShown s b whole h in
    let of = file_shows p.bytes s b whole p.answer in
    let valid = of.1.valid in
    record {
      text = p.bytes;
      program_is = p.held;
      tree = of.0;
      expands = of.1;
      afresh = afresh ArePanes (program_text of.0) b of.0 (of.0, valid, refl) (reads_as (program_text of.0) of.0 valid refl) of.2;
    }

-- the panes of an answer
pub request_panes : AllPrinted → (request : Option Request) (files : Contents) (s : Status) (b : List ℕ) → IsWhole s → Answers request files s b → PanesRequest request files b
request_panes all None files s b whole h = tt
request_panes all (Some (show program)) files s b whole h = shows_file program files s b whole h
request_panes all (Some (session program script data_file)) files s b whole h = session_each ShowsAfresh (each_shows all) program script data_file files s b whole h
request_panes all (Some (generate number)) files s b whole h = tt
