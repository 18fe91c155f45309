-- A command has one reply in a state, and leads to one state.
use Rattle.std.proofs.Common.{◌≡◌, inl, inr, ℕ, Bool, true, false, List, [], ◌∷◌, ◌++◌, Option, Some, None, is_some, sym, ap, ◌∙◌, subst}
use Rattle.std.specs.Prelude.{MatchBool, MatchOption}
use Rattle.ped_tree.specs.Tree.{StmtTree, ProgramTree}
use Rattle.ped_tree.specs.Printing.{program_text}
use Rattle.ped_tree.specs.SourcePane.{source_pane}
use Rattle.ped_tree.specs.Numbering.{statement_with}
use Rattle.ped_tree.specs.Grammar.Refusal.{Finding}
use Rattle.ped_tree.specs.Grammar.RefusalViews.{finding_of}
use Rattle.ped_tree.specs.declared.grammar.refusals.Refusal as text
use Rattle.ped_versions.specs.ped_valid.specs.Validity.{ReadsValid, RefusesText}
use Rattle.ped_versions.specs.ped_valid.proofs.OneVerdict.{one_of_both}
use Rattle.ped_transformations.specs.ped_graph.specs.DependencePane.{IsDependencePane, IsDependencePaneOf}
use Rattle.ped_transformations.specs.ped_graph.proofs.OnePane.{one_pane, one_pane_of}
use Rattle.ped_versions.specs.ped_update.specs.Fresh.{tested_pairs}
use Rattle.ped_script.specs.ped_certificates.specs.declared.claims.Position.{Position}
use Rattle.ped_script.specs.ped_certificates.specs.declared.claims.Sign.{Sign}
use Rattle.ped_transformations.specs.ped_evidence.specs.SystemTexts.{system_text}
use Rattle.ped_transformations.specs.ped_inline.specs.CallsPane.{IsCallsPane}
use Rattle.ped_transformations.specs.ped_inline.proofs.OnePane.{one_pane_of_calls}
use Rattle.ped_transformations.specs.ped_steps.specs.Causes.{Cause}
use Rattle.ped_script.specs.declared.items.Command.{Command}
use Rattle.ped_script.specs.declared.kinds.Query.{Query}
use Rattle.ped_script.specs.declared.kinds.Query.TheVariants.{Source, Deps, Show, Calls, Print, Advise, System, Tested}
use Rattle.ped_script.specs.declared.kinds.LineEdit.TheVariants.{Replace, Insert}
use Rattle.ped_script.specs.declared.kinds.HistoryMove.TheVariants.{Undo, Redo}
use Rattle.ped_script.specs.declared.kinds.ProgramRun.TheVariants.{Run, Races}
use Rattle.ped_script.specs.declared.kinds.CommandKind.{CommandKind}
use Rattle.ped_script.specs.declared.kinds.CommandKind.TheVariants as kind
use Rattle.ped_script.specs.Kinds.{kind_of}
use Rattle.ped_versions.specs.declared.changes.ChangeKind.TheVariants.{Edit}
use Rattle.ped_session.specs.declared.replies.Refusal.{Refusal}
use Rattle.ped_session.specs.declared.replies.Refusal.TheVariants.{BadEdit, Step, NothingToUndo, NothingToRedo, NoSuchStatement, NoSuchLine, NoSuchPair}
use Rattle.ped_session.specs.declared.replies.Reply.{Reply}
use Rattle.ped_session.specs.declared.replies.Reply.TheVariants.{Shown, Refused}
use Rattle.ped_versions.specs.States.{Other, State, changed_to}
use Rattle.ped_session.specs.OutcomeTexts.{outcome_text, IsRunText}
use Rattle.ped_session.specs.RaceRows.{race_row, IsRaceRow}
use Rattle.ped_session.specs.Panes.{IsSourcePane, ArePanes}
use Rattle.ped_versions.specs.Splices.{are_lines, is_place, edit_keep}
use Rattle.ped_session.specs.Steps.{Refuses, Prints, Shows, ShowsOf, ShowsStatement, ShowsSystem, Edits, accepted, refused, change_by, Transforms, missing, forbidden, transformed, GoesBack, GoesForward, ShowsAnswer, IsStepOf, IsStep}
use Rattle.ped_transformations.specs.ped_rules.specs.Steps.{StepAt}
use Rattle.ped_transformations.specs.ped_rules.specs.Lawful.{IsDetermined}
use Rattle.ped_transformations.specs.Table.{step_of}
use Rattle.ped_transformations.specs.Advice.{IsAdvice}
use Rattle.ped_transformations.proofs.LawfulTable.{determined_step}
use Rattle.ped_transformations.proofs.OneAdvice.{one_advice}
use Rattle.ped_order.proofs.OneReport.{one_at_most}
use Rattle.ped_session.proofs.OneFinding.{one_found}
use Rattle.ped_session.proofs.OneRun.{one_lowered_run}

-- a text has one valid tree at most
pub one_tree : (text : List ℕ) (t u : ProgramTree) → ReadsValid text t → ReadsValid text u → t ≡ u
one_tree text t u p q = elim (one_of_both text) [
  | inl tree ↦ tree.only t p ∙ sym (tree.only u q)
  | inr refusal ↦ absurd (refusal.treeless t p)
]

-- a text has one first refusal at most
pub one_refusal : (text : List ℕ) (f g : Finding) → RefusesText text f → RefusesText text g → f ≡ g
one_refusal text f g p q = elim (one_of_both text) [
  | inl tree ↦ absurd (tree.accepted f p)
  | inr refusal ↦ refusal.only f p ∙ sym (refusal.only g q)
]

-- no text has both
pub not_both : (text : List ℕ) (t : ProgramTree) (f : Finding) → ReadsValid text t → RefusesText text f → ⊥
not_both text t f p q = elim (one_of_both text) [
  | inl tree ↦ tree.accepted f q
  | inr refusal ↦ refusal.treeless t p
]

pub none_and_some : (o : Option StmtTree) → is_some o ≡ false → is_some o ≡ true → ⊥
none_and_some o none some = cc

some_is : (c d : Cause) → Some c ≡ Some d → c ≡ d
some_is c d e = cc

pub no_cause : (c : Cause) → ◌≡◌ {A = Option Cause} (Some c) None → ⊥
no_cause c e = cc

-- what is refused for one cause
one_refuses : (why : Refusal) (s : State) (p q : Reply) (m n : State) → Refuses why s p m → Refuses why s q n → (p ≡ q) × (m ≡ n)
one_refuses why s p q m n a b = (a.0 ∙ sym b.0, a.1 ∙ sym b.1)

-- what is shown, where one thing only is so of a program
one_shows : (IsSo : ProgramTree → List ℕ → Type 0) → ((t : ProgramTree) (x y : List ℕ) → IsSo t x → IsSo t y → x ≡ y) → (s : State) (p q : Reply) (m n : State)
    → Shows IsSo s p m → Shows IsSo s q n → (p ≡ q) × (m ≡ n)
one_shows IsSo one s p q m n a b =
    let tree = one_tree s.present a.tree b.tree a.reads b.reads in
    let bytes = one b.tree a.bytes b.bytes (subst (λ (t : ProgramTree). IsSo t a.bytes) tree a.so) b.so in
    (a.prints.0 ∙ ap Shown bytes ∙ sym b.prints.0, a.prints.1 ∙ sym b.prints.1)

one_source_pane : (t : ProgramTree) (x y : List ℕ) → IsSourcePane t x → IsSourcePane t y → x ≡ y
one_source_pane t x y a b = a ∙ sym b

one_panes : (t : ProgramTree) (x y : List ℕ) → ArePanes t x → ArePanes t y → x ≡ y
one_panes t x y a b = a.2 ∙ ap (λ (pane : List ℕ). source_pane t ++ pane) (one_pane t a.0 b.0 a.1 b.1) ∙ sym b.2

-- what is shown of a statement, where there is one
module _ (IsSo : ProgramTree → List ℕ → Type 0) (one : (t : ProgramTree) (x y : List ℕ) → IsSo t x → IsSo t y → x ≡ y) where
  one_of : (statement : Option StmtTree) (s : State) (p q : Reply) (m n : State) → ShowsOf IsSo statement s p m → ShowsOf IsSo statement s q n → (p ≡ q) × (m ≡ n)
  one_of None s p q m n a b = one_refuses NoSuchStatement s p q m n a b
  one_of (Some statement) s p q m n a b = one_shows IsSo one s p q m n a b

  one_statement : (number : ℕ) (s : State) (p q : Reply) (m n : State) → ShowsStatement IsSo number s p m → ShowsStatement IsSo number s q n → (p ≡ q) × (m ≡ n)
  one_statement number s p q m n a b =
      let tree = one_tree s.present a.tree b.tree a.reads b.reads in
      one_of (statement_with number b.tree) s p q m n (subst (λ (t : ProgramTree). ShowsOf IsSo (statement_with number t) s p m) tree a.shows) b.shows

-- the system of a pair, where there is one
one_pair : (o : Option (List ℕ)) (s : State) (p q : Reply) (m n : State)
    → MatchOption o (Refuses NoSuchPair s p m) (λ text. Prints text s p m) → MatchOption o (Refuses NoSuchPair s q n) (λ text. Prints text s q n) → (p ≡ q) × (m ≡ n)
one_pair None s p q m n a b = one_refuses NoSuchPair s p q m n a b
one_pair (Some text) s p q m n a b = (a.0 ∙ sym b.0, a.1 ∙ sym b.1)

one_system : (source sink : Position) (pattern : List Sign) (s : State) (p q : Reply) (m n : State) → ShowsSystem source sink pattern s p m → ShowsSystem source sink pattern s q n → (p ≡ q) × (m ≡ n)
one_system source sink pattern s p q m n a b =
    let tree = one_tree s.present a.tree b.tree a.reads b.reads in
    one_pair (system_text b.tree source sink pattern) s p q m n
    (subst (λ (t : ProgramTree). MatchOption (system_text t source sink pattern) (Refuses NoSuchPair s p m) (λ text. Prints text s p m)) tree a.shows) b.shows

-- an edit by its text
one_edit : (kept gone : ℕ) (edited : List ℕ) (s : State) (p q : Reply) (m n : State) → Edits kept gone edited s p m → Edits kept gone edited s q n → (p ≡ q) × (m ≡ n)
one_edit kept gone edited s p q m n (accepted old new from to reply next) (accepted old' new' from' to' reply' next') =
    let olds = one_tree s.present old old' from from' in
    let news = one_tree edited new new' to to' in
    (reply ∙ sym reply', next ∙ (λ i. changed_to (program_text (news i)) Edit (tested_pairs (olds i) (news i) (edit_keep (olds i) (news i) kept gone)) s) ∙ sym next')
one_edit kept gone edited s p q m n (accepted old new from to reply next) (refused why first same) = absurd (not_both edited new (finding_of why) to first)
one_edit kept gone edited s p q m n (refused why first same) (accepted old new from to reply next) = absurd (not_both edited new (finding_of why) to first)
one_edit kept gone edited s p q m n (refused why first same) (refused why' first' same') =
    let whys = one_found why why' (one_refusal edited (finding_of why) (finding_of why') first first') in
    (same.0 ∙ ap (λ (r : text.Refusal). Refused (BadEdit r)) whys ∙ sym same'.0, same.1 ∙ sym same'.1)

-- an edit, where there are such lines
one_edit_by : (there : Bool) (kept gone : ℕ) (edited : List ℕ) (s : State) (p q : Reply) (m n : State) → MatchBool there (Edits kept gone edited s p m) (Refuses NoSuchLine s p m)
    → MatchBool there (Edits kept gone edited s q n) (Refuses NoSuchLine s q n) → (p ≡ q) × (m ≡ n)
one_edit_by true kept gone edited s p q m n a b = one_edit kept gone edited s p q m n a b
one_edit_by false kept gone edited s p q m n a b = one_refuses NoSuchLine s p q m n a b

one_back : (past : List Other) (s : State) (p q : Reply) (m n : State) → GoesBack past s p m → GoesBack past s q n → (p ≡ q) × (m ≡ n)
one_back [] s p q m n a b = one_refuses NothingToUndo s p q m n a b
one_back (other ∷ past) s p q m n a b = (a.0 ∙ sym b.0, a.1 ∙ sym b.1)

one_forward : (future : List Other) (s : State) (p q : Reply) (m n : State) → GoesForward future s p m → GoesForward future s q n → (p ≡ q) × (m ≡ n)
one_forward [] s p q m n a b = one_refuses NothingToRedo s p q m n a b
one_forward (other ∷ future) s p q m n a b = (a.0 ∙ sym b.0, a.1 ∙ sym b.1)

one_run : (choices data_bytes : List ℕ) (s : State) (p q : Reply) (m n : State) → Shows (IsRunText choices data_bytes) s p m → Shows (IsRunText choices data_bytes) s q n → (p ≡ q) × (m ≡ n)
one_run choices data_bytes s p q m n a b = one_shows (IsRunText choices data_bytes)
    (λ t x y e f. e.2 ∙ ap outcome_text (one_lowered_run choices data_bytes t e.0 f.0 e.1 f.1) ∙ sym f.2) s p q m n a b

-- a step, whose first cause is one
one_transform : (at : StepAt) (s : State) (p q : Reply) (m n : State) → IsDetermined at → Transforms at s p m → Transforms at s q n → (p ≡ q) × (m ≡ n)
one_transform at s p q m n lawful (missing t reads none a) (missing u other nothing b) = one_refuses NoSuchStatement s p q m n a b
one_transform at s p q m n lawful (missing t reads none a) (forbidden u other some d is b) =
    absurd (none_and_some (statement_with at.statement u) (subst (λ (v : ProgramTree). is_some (statement_with at.statement v) ≡ false) (one_tree s.present t u reads other) none) some)
one_transform at s p q m n lawful (missing t reads none a) (transformed u new keep other some free makes valid b after) =
    absurd (none_and_some (statement_with at.statement u) (subst (λ (v : ProgramTree). is_some (statement_with at.statement v) ≡ false) (one_tree s.present t u reads other) none) some)
one_transform at s p q m n lawful (forbidden t reads some c is a) (missing u other none b) =
    absurd (none_and_some (statement_with at.statement t) (subst (λ (v : ProgramTree). is_some (statement_with at.statement v) ≡ false) (one_tree s.present u t other reads) none) some)
one_transform at s p q m n lawful (transformed t new keep reads some free makes valid a after) (missing u other none b) =
    absurd (none_and_some (statement_with at.statement t) (subst (λ (v : ProgramTree). is_some (statement_with at.statement v) ≡ false) (one_tree s.present u t other reads) none) some)
one_transform at s p q m n lawful (forbidden t reads some c is a) (forbidden u other more d same b) =
    let causes = lawful.one_cause u (Some c) (Some d) (subst (λ (v : ProgramTree). at.IsCause v (Some c)) (one_tree s.present t u reads other) is) same in
    (a.0 ∙ ap (λ (x : Cause). Refused (Step x)) (some_is c d causes) ∙ sym b.0, a.1 ∙ sym b.1)
one_transform at s p q m n lawful (forbidden t reads some c is a) (transformed u new keep other more free makes valid b after) =
    absurd (no_cause c (lawful.one_cause u (Some c) None (subst (λ (v : ProgramTree). at.IsCause v (Some c)) (one_tree s.present t u reads other) is) free))
one_transform at s p q m n lawful (transformed t new keep reads some free makes valid a after) (forbidden u other more d is b) =
    absurd (no_cause d (lawful.one_cause t (Some d) None (subst (λ (v : ProgramTree). at.IsCause v (Some d)) (one_tree s.present u t other reads) is) free))
one_transform at s p q m n lawful (transformed t new keep reads some free makes valid a after) (transformed u else_new else_keep other more none made well b next) =
    let trees = one_tree s.present t u reads other in
    let one = lawful.one_made u new else_new keep else_keep (subst (λ (v : ProgramTree). at.Makes v new keep) trees makes) made in
    (a ∙ sym b, after ∙ (λ i. changed_to (program_text (one.0 i)) (change_by at.kind) (tested_pairs (trees i) (one.0 i) (one.1 i)) s) ∙ sym next)

one_race_row : (data_bytes : List ℕ) (t : ProgramTree) (x y : List ℕ) → IsRaceRow data_bytes t x → IsRaceRow data_bytes t y → x ≡ y
one_race_row data_bytes t x y a b = a.2 ∙ ap race_row (one_at_most t data_bytes a.0 b.0 a.1 b.1) ∙ sym b.2

one_answer : (query : Query) (s m n : State) (p q : Reply) → ShowsAnswer query s p m → ShowsAnswer query s q n → (p ≡ q) × (m ≡ n)
one_answer Source s m n p q a b = one_shows IsSourcePane one_source_pane s p q m n a b
one_answer (Deps None) s m n p q a b = one_shows IsDependencePane one_pane s p q m n a b
one_answer (Deps (Some number)) s m n p q a b = one_statement (λ t. IsDependencePaneOf t (Some number)) (λ t. one_pane_of t (Some number)) number s p q m n a b
one_answer Show s m n p q a b = one_shows ArePanes one_panes s p q m n a b
one_answer Calls s m n p q a b = one_shows IsCallsPane one_pane_of_calls s p q m n a b
one_answer Print s m n p q a b = (a.0 ∙ sym b.0, a.1 ∙ sym b.1)
one_answer (Advise number) s m n p q a b = one_statement (λ t. IsAdvice t number) (λ t. one_advice t number) number s p q m n a b
one_answer (System source sink pattern) s m n p q a b = one_system source sink pattern s p q m n a b
one_answer Tested s m n p q a b = (a.0 ∙ sym b.0, a.1 ∙ sym b.1)

one_of_kind : (k : CommandKind) (d : List ℕ) (s m n : State) (p q : Reply) → IsStepOf k d s p m → IsStepOf k d s q n → (p ≡ q) × (m ≡ n)
one_of_kind (kind.Ask query) d s m n p q a b = one_answer query s m n p q a b
one_of_kind (kind.Edit (Replace first last lines)) d s m n p q a b = one_edit_by (are_lines s.present first last) _ _ _ s p q m n a b
one_of_kind (kind.Edit (Insert after lines)) d s m n p q a b = one_edit_by (is_place s.present after) _ _ _ s p q m n a b
one_of_kind (kind.Step command) d s m n p q a b = one_transform (step_of command) s p q m n (determined_step command.statement command.step) a b
one_of_kind kind.Auto d s m n p q a b = absurd a
one_of_kind (kind.Move Undo) d s m n p q a b = one_back s.past s p q m n a b
one_of_kind (kind.Move Redo) d s m n p q a b = one_forward s.future s p q m n a b
one_of_kind (kind.Run (Run choices)) d s m n p q a b = one_run choices d s p q m n a b
one_of_kind (kind.Run Races) d s m n p q a b = one_shows (IsRaceRow d) (one_race_row d) s p q m n a b

-- a command has one reply, and leads to one state
pub one : (c : Command) (data_bytes : List ℕ) (s m n : State) (p q : Reply) → IsStep c data_bytes s p m → IsStep c data_bytes s q n → (p ≡ q) × (m ≡ n)
one c d s m n p q a b = one_of_kind (kind_of c) d s m n p q a b
