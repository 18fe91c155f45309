-- Where the run of a program that is made ends, the report on it says that the last program runs alike.
use Rattle.std.proofs.Common.{◌≡◌, refl, sym, ap, ◌∙◌, subst, inl, inr, ℕ, ◌+◌, List, [], ◌∷◌, length, Option, Some, None, codes}
use Rattle.std.specs.Prelude.{◌↔◌}
use Rattle.std.specs.List.{AllByRecursion}
use Rattle.ped_gen.specs.Generated.{program as made_text, script}
use Rattle.ped_tree.specs.Tree.{ProgramTree}
use Rattle.ped_tree.specs.Printing.{program_text}
use Rattle.ped_tree.specs.Numbering.{statements_count}
use Rattle.ped_session.specs.ped_refs.specs.References.{references, pair_count}
use Rattle.ped_session.specs.ped_valid.specs.Validity.{ReadsValid}
use Rattle.ped_session.specs.ped_rules.specs.ped_eval.specs.Runs.{Ending, going, stopped, failed}
use Rattle.ped_session.specs.ped_rules.specs.ped_eval.specs.Outcomes.{Ends, Outcome, outcome_of, outcome, run_of, IsRaceFree, live_rows}
use Rattle.ped_session.specs.ped_order.specs.ped_interleavings.specs.Interleavings.{IsInterleaved}
use Rattle.ped_session.specs.ped_rules.specs.ped_store.specs.Cells.{Out}
use Rattle.ped_session.specs.ped_rules.specs.ped_store.specs.Stores.{lines_in}
use Rattle.ped_script.specs.Items.{commands_of}
use Rattle.ped_script.specs.declared.items.Command.{Command}
use Rattle.ped_script.specs.declared.items.Command.TheVariants.{Interchange, Parallel}
use Rattle.ped_script.specs.declared.items.Item.{Item}
use Rattle.ped_session.specs.ped_transformations.specs.ped_loops.specs.Interchanging.{interchanging}
use Rattle.ped_session.specs.ped_rules.specs.Paralleling.{paralleling}
use Rattle.ped_session.specs.ped_rules.specs.Steps.{StepAt, transformation}
use Rattle.ped_session.specs.ped_transformations.specs.ped_loop_runs.specs.Unrejected.{IsTrusted}
use Rattle.ped_session.specs.declared.replies.Reply.{Reply}
use Rattle.ped_session.specs.States.{State, opened}
use Rattle.ped_session.specs.Steps.{change_by, Transforms, missing, forbidden, transformed, IsStep}
use Rattle.ped_session.specs.LoweredRuns.{IsLoweredRun}
use Rattle.ped_session.specs.Meanings.{IsMeaningKept, ComesFrom}
use Rattle.ped_answer.specs.declared.answering.Status.{Status}
use Rattle.ped_answer.specs.declared.answering.Status.TheVariants.{Done, SomeRefused, BadWords, ReadFault, WriteFault, ProgramRefused, NoMemory, TooLong}
use Rattle.ped_answer.specs.Answer.{IsWhole}
use Rattle.ped_answer.specs.Generated.{Tally, AppliesCommand, Applies, EndAlike, IsWordOn, alike, unlike, Figures, report, Reports, IsGenerated}
use Rattle.ped_answer.specs.Headline.{ReportsAlike}
use Rattle.ped_answer.proofs.OneAnswer.{one_tree}
use Rattle.ped_answer.proofs.ExistenceLaws.Replying.{reads_as}
use Rattle.ped_answer.proofs.MadeScripts.{IsMadeCommand, IsMadeItem, made_script}

-- commands keep that each transformation of the history keeps the meaning
abbrev pub StepsKeep : Type 0
StepsKeep = (c : Command) (data_bytes : List ℕ) (s next : State) (reply : Reply) → IsMeaningKept s → IsStep c data_bytes s reply next → IsMeaningKept next

-- where they do, the outcomes of the present program are those of each that it comes from
abbrev pub OutcomesAgree : Type 0
OutcomesAgree = (s : State) (earlier : List ℕ) (t u : ProgramTree) (data_bytes choices : List ℕ) (o : Outcome) → IsMeaningKept s → ComesFrom s.present s.past earlier → ReadsValid earlier t → ReadsValid s.present u → IsTrusted t
    → IsRaceFree t data_bytes → IsLoweredRun choices data_bytes u o → o ≡ outcome t data_bytes

-- a program that is made runs as it is
abbrev pub MadeRunsAsItIs : Type 0
MadeRunsAsItIs = (n : ℕ) (t : ProgramTree) (choices data_bytes : List ℕ) (o : Outcome) → ReadsValid (made_text n) t → IsLoweredRun choices data_bytes t o ↔ IsInterleaved t data_bytes choices o

-- and it may be trusted
abbrev pub MadeIsTrusted : Type 0
MadeIsTrusted = (n : ℕ) (t : ProgramTree) → ReadsValid (made_text n) t → IsTrusted t

-- and each run of it that ends is without a race
abbrev pub MadeIsRaceFree : Type 0
MadeIsRaceFree = (n : ℕ) (t : ProgramTree) (data_bytes : List ℕ) → ReadsValid (made_text n) t → Ends (run_of t data_bytes).ending → IsRaceFree t data_bytes

-- without choices a program runs in order
abbrev pub RunsInOrder : Type 0
RunsInOrder = (t : ProgramTree) (data_bytes : List ℕ) (o : Outcome) → IsInterleaved t data_bytes [] o → o ≡ outcome t data_bytes

-- all of these
pub record Laws : Type 0 where
  pub begins : (t : ProgramTree) → IsMeaningKept (opened t)
  pub keep : StepsKeep
  pub agree : OutcomesAgree
  pub as_it_is : MadeRunsAsItIs
  pub trusted : MadeIsTrusted
  pub race_free : MadeIsRaceFree
  pub in_order : RunsInOrder

-- the present source comes from this one by transformations alone, and each in the history keeps the meaning
record IsKeptFrom (earlier : List ℕ) (s : State) : Type 0 where
  kept : IsMeaningKept s
  comes : ComesFrom s.present s.past earlier

comes_further : (at : StepAt) → at.kind ≡ transformation → (s next : State) (reply : Reply) → Transforms at s reply next → (earlier : List ℕ) → ComesFrom s.present s.past earlier → ComesFrom next.present next.past earlier
comes_further at plain s next reply (missing t reads none refused) earlier comes = subst (λ (n : State). ComesFrom n.present n.past earlier) (sym refused.1) comes
comes_further at plain s next reply (forbidden t reads there c cause refused) earlier comes = subst (λ (n : State). ComesFrom n.present n.past earlier) (sym refused.1) comes
comes_further at plain s next reply (transformed t new keep reads there free makes valid changed is) earlier comes =
    subst (λ (n : State). ComesFrom n.present n.past earlier) (sym is) (inr (ap change_by plain, comes))

module _ (laws : Laws) (earlier : List ℕ) where
  none_keeps : (s next : State) (tally : Tally) → AppliesCommand None s tally next → IsKeptFrom earlier s → IsKeptFrom earlier next
  none_keeps s next tally h k = subst (IsKeptFrom earlier) (sym h.1) k

  interchange_keeps : (number : ℕ) (s next : State) (tally : Tally) → AppliesCommand (Some (Interchange number)) s tally next → IsKeptFrom earlier s → IsKeptFrom earlier next
  interchange_keeps number s next tally h k = record {
    kept = laws.keep (Interchange number) [] s next h.0 k.kept h.1;
    comes = comes_further (interchanging number) refl s next h.0 h.1 earlier k.comes;
  }

  parallel_keeps : (number : ℕ) (s next : State) (tally : Tally) → AppliesCommand (Some (Parallel number)) s tally next → IsKeptFrom earlier s → IsKeptFrom earlier next
  parallel_keeps number s next tally h k = record {
    kept = laws.keep (Parallel number) [] s next h.0 k.kept h.1;
    comes = comes_further (paralleling number) refl s next h.0 h.1 earlier k.comes;
  }

  command_keeps : (o : Option Command) → IsMadeCommand o → (s next : State) (tally : Tally) → AppliesCommand o s tally next → IsKeptFrom earlier s → IsKeptFrom earlier next
  command_keeps o (inl e) s next tally h k = none_keeps s next tally (subst (λ (c : Option Command). AppliesCommand c s tally next) e h) k
  command_keeps o (inr (inl (number, e))) s next tally h k = interchange_keeps number s next tally (subst (λ (c : Option Command). AppliesCommand c s tally next) e h) k
  command_keeps o (inr (inr (number, e))) s next tally h k = parallel_keeps number s next tally (subst (λ (c : Option Command). AppliesCommand c s tally next) e h) k

  items_keep : (items : List Item) → AllByRecursion IsMadeItem items → (s last : State) (tally : Tally) → Applies items s tally last → IsKeptFrom earlier s → IsKeptFrom earlier last
  items_keep [] all s last tally h k = subst (IsKeptFrom earlier) (sym h.1) k
  items_keep (item ∷ items) all s last tally h k = items_keep items all.1 h.1 last h.3 h.4 (command_keeps item.command all.0 s h.1 h.0 h.2 k)

-- two outcomes that are that of a run which ends are alike
ends_alike : (t : ProgramTree) (e : Ending) (a b : Outcome) → Ends e → a ≡ outcome_of t e → b ≡ outcome_of t e → EndAlike a b
ends_alike t (going s) a b ends p q = record { output = lines_in (s Out); live = live_rows t s; first = p; second = q }
ends_alike t (stopped s) a b ends p q = record { output = lines_in (s Out); live = live_rows t s; first = p; second = q }
ends_alike t (failed fault statement) a b ends p q = absurd ends

word_alike : (a b : Outcome) (word : List ℕ) → EndAlike a b → IsWordOn a b word → word ≡ codes "equal"
word_alike a b word same (alike h e) = e
word_alike a b word same (unlike h e) = absurd (h same)

report_alike : Laws → (n : ℕ) (t : ProgramTree) (bytes : List ℕ) → ReadsValid (made_text n) t → Ends (run_of t []).ending → (r : Reports n t bytes) → r.word ≡ codes "equal"
report_alike laws n t bytes reads ends r =
    let k = items_keep laws (program_text t) (commands_of (script n)) (made_script n) (opened t) r.behind r.tally r.applies (record { kept = laws.begins t; comes = refl }) in
    let last = laws.agree r.behind (program_text t) t r.last [] [] r.ended k.kept k.comes (reads_as (program_text t) t reads.valid refl) r.reads (laws.trusted n t reads) (laws.race_free n t [] reads ends) r.runs_last in
    let first = laws.in_order t [] r.began ((laws.as_it_is n t [] [] r.began reads).0 r.runs_first) in
    word_alike r.began r.ended r.word (ends_alike t (run_of t []).ending r.began r.ended ends first last) r.word_on

-- so it is of what is answered to a size
pub generated_alike : Laws → (n : ℕ) (s : Status) (bytes : List ℕ) → IsWhole s → IsGenerated n s bytes → ReportsAlike n bytes
generated_alike laws n Done bytes whole h = λ t reads ends.
    let r = subst (λ (u : ProgramTree). Reports n u bytes) (one_tree (made_text n) h.0 t h.1 reads) h.2 in
    let f : Figures = record {
      statements = statements_count r.last.body;
      pairs = pair_count (references r.last);
      accepted = r.tally.accepted;
      refused = r.tally.refused;
      tested = pair_count (references t) + r.tally.tests;
      edges = length r.edges;
    } in
    (f, r.says ∙ ap (report n f) (report_alike laws n t bytes reads ends r))
generated_alike laws n SomeRefused bytes whole h = absurd h
generated_alike laws n BadWords bytes whole h = absurd whole
generated_alike laws n ReadFault bytes whole h = absurd whole
generated_alike laws n WriteFault bytes whole h = absurd whole
generated_alike laws n ProgramRefused bytes whole h = absurd whole
generated_alike laws n NoMemory bytes whole h = absurd whole
generated_alike laws n TooLong bytes whole h = absurd whole
