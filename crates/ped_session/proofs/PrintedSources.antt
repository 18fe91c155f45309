-- All sources of a session stay printed texts of valid programs.
use Rattle.std.proofs.Common.{◌≡◌, inl, inr, ℕ, List, [], ◌∷◌, Option, Some, None, All, refl, sym, subst}
use Rattle.std.proofs.lemmas.List.Elements.{All-nil, All-cons, All-head, All-tail}
use Rattle.ped_tree.specs.Tree.{ProgramTree}
use Rattle.ped_transformations.specs.ped_symbols.specs.NameRefusals.{IsValid}
use Rattle.ped_script.specs.declared.items.Command.{Command}
use Rattle.ped_script.specs.declared.kinds.CommandKind.{CommandKind}
use Rattle.ped_script.specs.Kinds.{kind_of}
use Rattle.ped_script.specs.declared.items.Item.{Item}
use Rattle.ped_session.specs.declared.replies.Reply.{Reply}
use Rattle.ped_session.specs.declared.replies.Reply.TheVariants.{Changed}
use Rattle.ped_versions.specs.States.{Other, State, opened}
use Rattle.ped_transformations.specs.ped_rules.specs.Steps.{StepAt}
use Rattle.ped_transformations.specs.Table.{step_of}
use Rattle.ped_session.specs.Steps.{Edits, accepted, refused, Transforms, missing, forbidden, transformed, GoesBack, GoesForward, IsStep}
use Rattle.ped_session.specs.Scripts.{Said, AnswersCommand, AnswersItems}
use Rattle.ped_session.specs.Histories.{IsPrinted, ArePrinted}
use Rattle.ped_transformations.specs.ped_auto.specs.Strategy.{Report, IsAuto}
use Rattle.ped_session.specs.AutoEditing.{session_editing}
use Rattle.ped_session.proofs.AutoSteps.{auto_steps, all_keep, is_step}
use Rattle.ped_session.proofs.Doing.{Does, by_nothing, by_edit, by_step, by_undo, by_redo, does}

-- a source of another list
abbrev IsPrintedOther : Other → Type 0
IsPrintedOther o = IsPrinted o.0

-- a state that is as it was
same : (s next : State) → ArePrinted s → next ≡ s → ArePrinted next
same s next a e = subst ArePrinted (sym e) a

edit_prints : (kept gone : ℕ) (edited : List ℕ) (s next : State) (reply : Reply) → ArePrinted s → Edits kept gone edited s reply next → ArePrinted next
edit_prints kept gone edited s next reply a (accepted old new from to changed after) =
    subst ArePrinted (sym after) (record { past = All-cons IsPrintedOther _ _ a.present a.past; present = (new, to.valid, refl); future = All-nil IsPrintedOther })
edit_prints kept gone edited s next reply a (refused why first stays) = same s next a stays.1

step_prints : (at : StepAt) (s next : State) (reply : Reply) → ArePrinted s → Transforms at s reply next → ArePrinted next
step_prints at s next reply a (missing t reads none stays) = same s next a stays.1
step_prints at s next reply a (forbidden t reads some c is stays) = same s next a stays.1
step_prints at s next reply a (transformed t new keep reads some none makes valid changed after) =
    subst ArePrinted (sym after) (record { past = All-cons IsPrintedOther _ _ a.present a.past; present = (new, valid, refl); future = All-nil IsPrintedOther })

back_prints : (past : List Other) (s next : State) (reply : Reply) → ArePrinted s → All (λ (o : Other). IsPrinted o.0) past → GoesBack past s reply next → ArePrinted next
back_prints [] s next reply a all h = same s next a h.1
back_prints (o ∷ past) s next reply a all h = subst ArePrinted (sym h.1) (record { past = All-tail IsPrintedOther _ _ all; present = All-head IsPrintedOther _ _ all; future = All-cons IsPrintedOther _ _ a.present a.future })

forward_prints : (future : List Other) (s next : State) (reply : Reply) → ArePrinted s → All (λ (o : Other). IsPrinted o.0) future → GoesForward future s reply next → ArePrinted next
forward_prints [] s next reply a all h = same s next a h.1
forward_prints (o ∷ future) s next reply a all h = subst ArePrinted (sym h.1) (record { past = All-cons IsPrintedOther _ _ a.present a.past; present = All-head IsPrintedOther _ _ all; future = All-tail IsPrintedOther _ _ all })

prints_by : (k : CommandKind) (s next : State) (reply : Reply) → ArePrinted s → Does k s reply next → ArePrinted next
prints_by k s next reply a (by_nothing changed is) = same s next a is
prints_by k s next reply a (by_edit kept gone text h) = edit_prints kept gone text s next reply a h
prints_by k s next reply a (by_step command h) = step_prints (step_of command) s next reply a h
prints_by k s next reply a (by_undo is h) = back_prints s.past s next reply a a.past h
prints_by k s next reply a (by_redo is h) = forward_prints s.future s next reply a a.future h

-- a command keeps it
pub command_prints_all : (c : Command) (data_bytes : List ℕ) (s next : State) (reply : Reply) → ArePrinted s → IsStep c data_bytes s reply next → ArePrinted next
command_prints_all c d s next reply a h = prints_by (kind_of c) s next reply a (does (kind_of c) d s next reply h)

-- so does `auto`
auto_prints : (s next : State) (report : Report) (tests : ℕ) → ArePrinted s → IsAuto session_editing s report next tests → ArePrinted next
auto_prints s next report tests a h =
    all_keep ArePrinted (λ c m n k t. command_prints_all c [] m n Changed k (is_step c [] m n Changed t)) report.accepted s next tests a (auto_steps s next report tests h)

command_prints : (line : ℕ) (command : Option Command) (data_bytes : List ℕ) (s next : State) (said : Said) → ArePrinted s → AnswersCommand line command data_bytes s said next → ArePrinted next
command_prints line None data_bytes s next said a h = same s next a h.1
command_prints line (Some c) data_bytes s next said a (inl h) = command_prints_all c data_bytes s next h.0 a h.1
command_prints line (Some c) data_bytes s next said a (inr (is, h)) = auto_prints s next h.0.report said.tests a h.0.does

items_print : (items : List Item) (data_bytes : List ℕ) (s last : State) (said : Said) → ArePrinted s → AnswersItems items data_bytes s said last → ArePrinted last
items_print [] data_bytes s last said a h = same s last a h.1
items_print (item ∷ items) data_bytes s last said a h =
    items_print items data_bytes h.1 last h.3 (command_prints item.line item.command data_bytes s h.1 h.0 a h.2) h.4

-- all sources behind a script on a valid program
pub all_printed : (t : ProgramTree) → IsValid t → (items : List Item) (data_bytes : List ℕ) (said : Said) (last : State) → AnswersItems items data_bytes (opened t) said last → ArePrinted last
all_printed t valid items data_bytes said last h = items_print items data_bytes (opened t) last said (record { past = All-nil IsPrintedOther; present = (t, valid, refl); future = All-nil IsPrintedOther }) h
