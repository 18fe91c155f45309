-- The runs of a script show what the earlier programs show.
use Rattle.std.proofs.Common.{ℕ, List, [], ◌∷◌, Option, Some, None}
use Rattle.ped_io.specs.Outside.{Contents}
use Rattle.ped_words.specs.Requests.{Request, show, session, generate}
use Rattle.ped_tree.specs.Tree.{ProgramTree}
use Rattle.ped_script.specs.declared.items.Item.{Item}
use Rattle.ped_session.specs.States.{State, opened}
use Rattle.ped_session.specs.Scripts.{Said, AnswersItems}
use Rattle.ped_session.specs.Meanings.{IsMeaningKept}
use Rattle.ped_session.specs.RunsAsBefore.{AnswersAsBefore}
use Rattle.ped_answer.specs.declared.answering.Status.{Status}
use Rattle.ped_answer.specs.Answer.{IsWhole, Answers}
use Rattle.ped_answer.specs.Headline.{AnswersEach, AgreesOnAllRuns, AgreesOnTrueRuns, KeepsMeaning, RunsRequest}
use Rattle.ped_answer.proofs.EachItems.{SoOfItems, session_items}
use Rattle.ped_answer.proofs.MadeRuns.{Laws, generated_alike}

-- whatever a script does, each transformation of the history keeps the meaning, and each `run` shows what the earlier programs show
abbrev pub AsBefore : Type 0
AsBefore = (t : ProgramTree) (items : List Item) (data_bytes : List ℕ) (said : Said) (last : State) → AnswersItems items data_bytes (opened t) said last → AnswersAsBefore items data_bytes (opened t) said last

-- and where they do, the present program has the outcomes of the earlier ones on all data and with all choices
abbrev pub AgreeWhereKept : Type 0
AgreeWhereKept = (s : State) → IsMeaningKept s → AgreesOnAllRuns s × AgreesOnTrueRuns s

-- so it is before the first item
kept_first : (items : List Item) (d : List ℕ) (s last : State) (said : Said) → AnswersAsBefore items d s said last → IsMeaningKept s
kept_first [] d s last said h = h.0
kept_first (item ∷ items) d s last said h = h.0

-- and so it is of each item
each_keeps : AgreeWhereKept → (items : List Item) (d : List ℕ) (s last : State) (said : Said) → AnswersAsBefore items d s said last → AnswersEach KeepsMeaning items d s said last
each_keeps agree [] d s last said h = (h.1, h.2)
each_keeps agree (item ∷ items) d s last said h =
    let there = kept_first items d h.2 last h.5 h.6 in (
      h.1,
      h.2,
      h.3,
      record { here = h.0; there = there; runs = h.4; all_here = (agree s h.0).0; all_there = (agree h.2 there).0; true_here = (agree s h.0).1; true_there = (agree h.2 there).1 },
      h.5,
      each_keeps agree items d h.2 last h.5 h.6,
      h.7,
    )

items_keep : AsBefore → AgreeWhereKept → SoOfItems KeepsMeaning
items_keep as_before agree d t valid items said last h = each_keeps agree items d (opened t) last said (as_before t items d said last h)

-- the answer to a request
pub request_runs : AsBefore → AgreeWhereKept → Laws → (request : Option Request) (files : Contents) (s : Status) (b : List ℕ) → IsWhole s → Answers request files s b → RunsRequest request files b
request_runs as_before agree laws None files s b whole h = tt
request_runs as_before agree laws (Some (show program)) files s b whole h = tt
request_runs as_before agree laws (Some (session program script data_file)) files s b whole h = session_items KeepsMeaning (items_keep as_before agree) program script data_file files s b whole h
request_runs as_before agree laws (Some (generate number)) files s b whole h = generated_alike laws number s b whole h
