-- What is so of each item that a script comes to is so of each item of a session's answer.
use Rattle.std.proofs.Common.{ℕ, List, [], ◌∷◌, ◌++◌, Option, Some, refl, subst}
use Rattle.ped_io.specs.Outside.{Contents}
use Rattle.ped_words.specs.Requests.{session}
use Rattle.ped_tree.specs.Tree.{ProgramTree}
use Rattle.ped_session.specs.ped_symbols.specs.NameRefusals.{IsValid}
use Rattle.ped_script.specs.Items.{commands_of}
use Rattle.ped_script.specs.declared.items.Item.{Item}
use Rattle.ped_script.specs.declared.items.Command.{Command}
use Rattle.ped_session.specs.States.{State, opened}
use Rattle.ped_session.specs.Scripts.{Said, nothing_said, said_both, AnswersCommand, AnswersItem, AnswersItems}
use Rattle.ped_answer.specs.declared.answering.Status.{Status}
use Rattle.ped_answer.specs.Answer.{IsWhole, Answers}
use Rattle.ped_call_runs.specs.ped_calls.specs.ped_units.specs.Verdicts.{IsExpansion}
use Rattle.ped_answer.specs.Headline.{ItemFact, AnswersEach, EachItemOn, EachItem}
use Rattle.ped_answer.proofs.WholeAnswers.{session_whole}

-- items behind others
one_more : (d : List ℕ) (front : List Item) (item : Item) (s mid next : State) (a first : Said) → AnswersItems front d s a mid → AnswersItem item d mid first next → (b : Said) × AnswersItems (front ++ item ∷ []) d s b next
one_more d [] item s mid next a first h is = (said_both first nothing_said, (first, next, subst (λ (x : State). AnswersItem item d x first next) h.1 is, nothing_said, (refl, refl), refl))
one_more d (x ∷ front) item s mid next a first h is =
    let rest = one_more d front item h.1 mid next h.3 first h.4 is in
    (said_both h.0 rest.0, (h.0, h.1, h.2, rest.0, rest.1, refl))

module _ (IsSo : ItemFact) (d : List ℕ) (t : ProgramTree) where
  -- some items lead there from the opening
  abbrev pub Comes : State → Type 0
  Comes s = (front : List Item) × (a : Said) × AnswersItems front d (opened t) a s

  -- what is so of each item in such a state
  abbrev pub SoWhereCome : Type 0
  SoWhereCome = (line : ℕ) (command : Option Command) (s next : State) (said : Said) → Comes s → AnswersCommand line command d s said next → IsSo line command d s said next

  each : SoWhereCome → (items : List Item) (s last : State) (said : Said) → Comes s → AnswersItems items d s said last → AnswersEach IsSo items d s said last
  each so [] s last said came h = h
  each so (item ∷ items) s last said came h =
      let further = one_more d came.0 item (opened t) s h.1 came.1 h.0 came.2 h.2 in (
        h.0,
        h.1,
        h.2,
        so item.line item.command s h.1 h.0 came h.2,
        h.3,
        each so items h.1 last h.3 (came.0 ++ item ∷ [], further.0, further.1) h.4,
        h.5,
      )

  pub each_item : SoWhereCome → (items : List Item) (said : Said) (last : State) → AnswersItems items d (opened t) said last → AnswersEach IsSo items d (opened t) said last
  each_item so items said last h = each so items (opened t) last said ([], nothing_said, (refl, refl)) h

-- what is so of each item, whatever the valid program is
abbrev pub SoOfValid : ItemFact → Type 0
SoOfValid IsSo = (d : List ℕ) (t : ProgramTree) → IsValid t → SoWhereCome IsSo d t

-- what is so of each item of a script
abbrev pub SoOfItems : ItemFact → Type 0
SoOfItems IsSo = (d : List ℕ) (t : ProgramTree) → IsValid t → (items : List Item) (said : Said) (last : State) → AnswersItems items d (opened t) said last → AnswersEach IsSo items d (opened t) said last

-- what is so of each item of a script by the text of a file, and the program that it expands to
abbrev pub SoOfFiles : (List ℕ → ProgramTree → ItemFact) → Type 0
SoOfFiles IsSo = (text d : List ℕ) (t : ProgramTree) → IsExpansion text t → (items : List Item) (said : Said) (last : State) → AnswersItems items d (opened t) said last → AnswersEach (IsSo text t) items d (opened t) said last

-- so it is in a session's answer that is written whole
pub session_files : (IsSo : List ℕ → ProgramTree → ItemFact) → SoOfFiles IsSo → (program script : List ℕ) (data_file : Option (List ℕ)) (files : Contents) (s : Status) (b : List ℕ) → IsWhole s → Answers (Some (session program script data_file)) files s b
    → EachItemOn IsSo program script data_file files b
session_files IsSo so program script data_file files s b whole h =
    let p = session_whole program script data_file files s b whole h in
    let a = p.answers in
    record {
      text = p.text;
      program_is = p.program_is;
      commands = p.commands;
      script_is = p.script_is;
      data_bytes = p.data_bytes;
      data_are = p.data_are;
      tree = a.tree;
      expands = a.expands;
      said = a.said;
      last = a.last;
      answers = so p.text p.data_bytes a.tree a.expands (commands_of p.commands) a.said a.last a.answers;
      says = a.says;
    }

pub session_items : (IsSo : ItemFact) → SoOfItems IsSo → (program script : List ℕ) (data_file : Option (List ℕ)) (files : Contents) (s : Status) (b : List ℕ) → IsWhole s → Answers (Some (session program script data_file)) files s b → EachItem IsSo program script data_file files b
session_items IsSo so = session_files (λ text t. IsSo) (λ text d t expands. so d t expands.valid)

pub session_each : (IsSo : ItemFact) → SoOfValid IsSo → (program script : List ℕ) (data_file : Option (List ℕ)) (files : Contents) (s : Status) (b : List ℕ) → IsWhole s → Answers (Some (session program script data_file)) files s b → EachItem IsSo program script data_file files b
session_each IsSo so = session_items IsSo (λ d t valid. each_item IsSo d t (so d t valid))
