-- Each program has its report, whatever its size.
use Rattle.std.proofs.Common.{◌≢◌, refl, ap, inl, inr, ℕ, List, [], ◌∷◌, codes, Option, Some, None}
use Rattle.std.specs.List.{AllByRecursion}
use Rattle.std.proofs.lemmas.List.Elements.{All-nil}
use Rattle.ped_gen.specs.Generated.{script}
use Rattle.ped_tree.specs.Tree.{ProgramTree}
use Rattle.ped_session.specs.ped_symbols.specs.NameRefusals.{IsValid}
use Rattle.ped_session.specs.ped_rules.specs.ped_eval.specs.Outcomes.{Outcome}
use Rattle.ped_script.specs.Items.{commands_of}
use Rattle.ped_script.specs.declared.items.Command.{Command}
use Rattle.ped_script.specs.declared.items.Item.{Item}
use Rattle.ped_session.specs.States.{Other, State, opened}
use Rattle.ped_session.specs.Histories.{IsPrinted, ArePrinted}
use Rattle.ped_answer.specs.Existence.Deciding.{Decided}
use Rattle.ped_answer.specs.Generated.{Tally, no_tally, tally_both, tally_of, bad_command_tally, AppliesCommand, Applies, EndAlike, IsWordOn, alike, unlike, Reports}
use Rattle.ped_script.specs.declared.items.Command.TheVariants.{Auto}
use Rattle.ped_answer.specs.Tallies.{IsNoAuto}
use Rattle.ped_answer.proofs.MadeScripts.{no_auto}
use Rattle.ped_answer.proofs.ExistenceLaws.Alike.{alike_decided}
use Rattle.ped_session.specs.ped_transformations.specs.ped_splits.proofs.Existence.Edges.{edges_of_program}
use Rattle.ped_answer.proofs.ExistenceLaws.Replying.{SomeOutcome, lowered_outcome, replies, reads_printed}

-- what lines come to, and the state behind them, whose sources are all printed
record Applied (A : Tally → State → Type 0) : Type 0 where
  tally : Tally
  next : State
  is : A tally next
  printed : ArePrinted next

applies_command : SomeOutcome → (command : Option Command) → command ≢ Some Auto → (s : State) → ArePrinted s → Applied (AppliesCommand command s)
applies_command comes None other s all = record { tally = bad_command_tally; next = s; is = (refl, refl); printed = all }
applies_command comes (Some c) other s all =
    let a = replies comes s all c (λ is. other (ap Some is)) [] in
    record { tally = tally_of a.reply a.next; next = a.next; is = (a.reply, a.is, refl); printed = a.printed }

applies : SomeOutcome → (items : List Item) → AllByRecursion IsNoAuto items → (s : State) → ArePrinted s → Applied (Applies items s)
applies comes [] others s all = record { tally = no_tally; next = s; is = (refl, refl); printed = all }
applies comes (item ∷ items) others s all =
    let first = applies_command comes item.command others.0 s all in
    let rest = applies comes items others.1 first.next first.printed in
    record { tally = tally_both first.tally rest.tally; next = rest.next; is = (first.tally, first.next, first.is, rest.tally, rest.is, refl); printed = rest.printed }

word_on : (a b : Outcome) → (word : List ℕ) × IsWordOn a b word
word_on a b = by (alike_decided a b)
  where
    by : Decided (EndAlike a b) → (word : List ℕ) × IsWordOn a b word
    by (inl h) = (codes "equal", alike h refl)
    by (inr n) = (codes "differ", unlike n refl)

pub some_report : SomeOutcome → (n : ℕ) (t : ProgramTree) → IsValid t → (bytes : List ℕ) × Reports n t bytes
some_report comes n t valid =
    let done = applies comes (commands_of (script n)) (no_auto n) (opened t) (record { past = All-nil (λ (o : Other). IsPrinted o.0); present = (t, valid, refl); future = All-nil (λ (o : Other). IsPrinted o.0) }) in
    let last = reads_printed done.next.present done.printed.present in
    let edges = edges_of_program last.0 in
    let began = lowered_outcome comes [] [] t in
    let ended = lowered_outcome comes [] [] last.0 in
    let word = word_on began.0 ended.0 in (
      _,
      record {
        tally = done.tally;
        behind = done.next;
        applies = done.is;
        last = last.0;
        reads = last.1;
        edges = edges.0;
        are_edges = edges.1;
        began = began.0;
        runs_first = began.1;
        ended = ended.0;
        runs_last = ended.1;
        word = word.0;
        word_on = word.1;
        says = refl;
      },
    )
