-- Each command moves along the sources of a session as the history has them.
use Rattle.std.proofs.Common.{◌≡◌, ℕ, suc, Bool, true, false, ◌+◌, inl, inr, List, [], ◌∷◌, ◌++◌, map, take, length, slice_get, Option, Some, None, refl, sym, ap, ◌∙◌, subst, arith, append_assoc}
use Rattle.std.specs.Prelude.{MatchBool, MatchOption, reverse, codes}
use Rattle.std.specs.Fmt.{decimal}
use Rattle.std.specs.List.{flat_map}
use Rattle.std.proofs.lemmas.List.{append_assoc, length-append, length-reverse, length-map, reverse-append}
use Rattle.ped_io.specs.Outside.{Contents}
use Rattle.ped_words.specs.Requests.{Request, show, session, generate}
use Rattle.ped_tree.specs.Tree.{StmtTree, ProgramTree}
use Rattle.ped_tree.specs.Numbering.{statement_with}
use Rattle.ped_session.specs.ped_transformations.specs.ped_evidence.specs.SystemTexts.{system_text}
use Rattle.ped_script.specs.declared.items.Command.{Command}
use Rattle.ped_script.specs.declared.kinds.StepCommand.{StepCommand}
use Rattle.ped_script.specs.declared.kinds.Query.{Query}
use Rattle.ped_script.specs.declared.kinds.Query.TheVariants.{Source, Deps, Show, Calls, Print, Advise, System, Tested}
use Rattle.ped_script.specs.declared.kinds.LineEdit.TheVariants.{Replace, Insert}
use Rattle.ped_script.specs.declared.kinds.HistoryMove.TheVariants.{Undo, Redo}
use Rattle.ped_script.specs.declared.kinds.ProgramRun.TheVariants.{Run, Races}
use Rattle.ped_script.specs.declared.kinds.CommandKind.{CommandKind}
use Rattle.ped_script.specs.declared.kinds.CommandKind.TheVariants as kind
use Rattle.ped_script.specs.Kinds.{kind_of, step_in, IsMove}
use Rattle.ped_session.specs.ped_rules.specs.Steps.{StepAt}
use Rattle.ped_session.specs.declared.replies.Refusal.{Refusal}
use Rattle.ped_session.specs.declared.replies.Refusal.TheVariants.{NoSuchLine, NoSuchPair}
use Rattle.ped_session.specs.declared.replies.Reply.{Reply}
use Rattle.ped_session.specs.declared.replies.Reply.TheVariants.{Changed, Refused}
use Rattle.ped_session.specs.States.{Other, State, gone_back_to, gone_forward_to}
use Rattle.ped_session.specs.ped_versions.specs.Splices.{are_lines, is_place}
use Rattle.ped_session.specs.Steps.{Refuses, Prints, Shows, ShowsOf, Edits, accepted, refused, Transforms, missing, forbidden, transformed, GoesBack, GoesForward, ShowsAnswer, IsStepOf}
use Rattle.ped_session.specs.ped_auto.specs.Replay.{Replays}
use Rattle.ped_session.specs.ped_transformations.specs.Table.{step_of}
use Rattle.ped_session.specs.Replies.{answer_row}
use Rattle.ped_session.specs.AutoAnswers.{accepted_row, left_row}
use Rattle.ped_session.specs.AutoEditing.{TransformsTo, session_editing}
use Rattle.ped_session.specs.AutoEditingLaws.{taken}
use Rattle.ped_session.specs.Scripts.{Said, SaysAuto, AnswersCommand}
use Rattle.ped_session.proofs.AutoSteps.{auto_steps}
use Rattle.ped_answer.specs.declared.answering.Status.{Status}
use Rattle.ped_answer.specs.Answer.{IsWhole, Answers}
use Rattle.ped_answer.specs.Headline.{Sources, text_of, sources_of, StandsAtPlace, GoesOneBack, nothing_before, one_before, GoesOneForward, nothing_behind, one_behind, PutsBehind, PutsAllBehind, MovesByAuto, IsShowing, Moves, by_undo, by_redo, by_showing, by_change, by_refusal, KeepsHistory, HistoryRequest}
use Rattle.ped_answer.proofs.EachItems.{SoOfValid, session_each}

at_length : (xs ys : List (List ℕ)) (x : List ℕ) → slice_get (xs ++ x ∷ ys) (length xs) ≡ Some x
at_length [] ys x = refl
at_length (z ∷ xs) ys x = at_length xs ys x

up_to : (xs ys : List (List ℕ)) (x : List ℕ) → take (suc (length xs)) (xs ++ x ∷ ys) ≡ xs ++ x ∷ []
up_to [] ys x = refl
up_to (z ∷ xs) ys x = ap (λ (r : List (List ℕ)). z ∷ r) (up_to xs ys x)

-- the past sources, the oldest first
abbrev before_of : List Other → List (List ℕ)
before_of past = reverse (map text_of past)

as_long : (past : List Other) → length (before_of past) ≡ length past
as_long past = length-reverse (map text_of past) ∙ length-map past text_of

-- the present source stands behind the past ones
pub stands : (s : State) → StandsAtPlace s
stands s = subst (λ (n : ℕ). slice_get (sources_of s).all n ≡ Some s.present) (as_long s.past) (at_length (before_of s.past) (map text_of s.future) s.present)

-- the newest past source may as well stand before the present one
shifted : (o : Other) (past : List Other) (rest : List (List ℕ)) → before_of (o ∷ past) ++ rest ≡ before_of past ++ o.0 ∷ rest
shifted o past rest = ap (λ (xs : List (List ℕ)). xs ++ rest) (reverse-append (o.0 ∷ []) (map text_of past)) ∙ append_assoc (before_of past) (o.0 ∷ []) rest

-- so all stay where one goes back
back_same : (s : State) (o : Other) (past : List Other) → s.past ≡ o ∷ past → (sources_of (gone_back_to o past s)).all ≡ (sources_of s).all
back_same s o past is =
    sym (ap (λ (xs : List Other). before_of xs ++ s.present ∷ map text_of s.future) is ∙ shifted o past (s.present ∷ map text_of s.future))

-- or forward
forward_same : (s : State) (o : Other) (future : List Other) → s.future ≡ o ∷ future → (sources_of (gone_forward_to o future s)).all ≡ (sources_of s).all
forward_same s o future is =
    shifted (s.present, o.1) s.past (o.0 ∷ map text_of future) ∙ ap (λ (xs : List Other). before_of s.past ++ s.present ∷ map text_of xs) (sym is)

how_many : (s : State) → length (sources_of s).all ≡ length s.past + suc (length s.future)
how_many s =
    let both = length-append (before_of s.past) (s.present ∷ map text_of s.future) in
    let front = as_long s.past in
    let back = length-map s.future text_of in
    omega (arith, both, front, back)

-- sources with these texts and this place
sources_are : (x y : Sources) → x.all ≡ y.all → x.place ≡ y.place → x ≡ y
sources_are x y all place = λ i. record { all = all i; place = place i }

moves_back : (past : List Other) (s next : State) (reply : Reply) → s.past ≡ past → GoesBack past s reply next → GoesOneBack reply (sources_of s) (sources_of next)
moves_back [] s next reply is h = nothing_before (ap (λ (xs : List Other). length xs) is) h.0 (ap sources_of h.1)
moves_back (o ∷ past) s next reply is h =
    one_before (length past) (ap (λ (xs : List Other). length xs) is) h.0
    (ap sources_of h.1 ∙ sources_are (sources_of (gone_back_to o past s)) (record { all = (sources_of s).all; place = length past }) (back_same s o past is) refl)

moves_forward : (future : List Other) (s next : State) (reply : Reply) → s.future ≡ future → GoesForward future s reply next → GoesOneForward reply (sources_of s) (sources_of next)
moves_forward [] s next reply is h =
    let count = how_many s in
    let none = ap (λ (xs : List Other). length xs) is in
    nothing_behind (omega (arith, count, none)) h.0 (ap sources_of h.1)
moves_forward (o ∷ future) s next reply is h =
    let count = how_many s in
    let some = ap (λ (xs : List Other). length xs) is in
    one_behind (omega (arith, count, some)) h.0
    (ap sources_of h.1 ∙ sources_are (sources_of (gone_forward_to o future s)) (record { all = (sources_of s).all; place = suc (length s.past) }) (forward_same s o future is) refl)

-- a change puts its source behind the present one
record Leaves (s next : State) : Type 0 where
  other : Other
  past_is : next.past ≡ other ∷ s.past
  text_is : other.0 ≡ s.present
  future_is : next.future ≡ []

puts : (s next : State) → Leaves s next → PutsBehind (sources_of s) (sources_of next)
puts s next left = (next.present, sources_are (sources_of next) (record { all = take (suc (length s.past)) (sources_of s).all ++ next.present ∷ []; place = suc (length s.past) }) all (ap (λ (xs : List Other). length xs) left.past_is))
  where
    whole : (sources_of next).all ≡ before_of s.past ++ s.present ∷ next.present ∷ []
    whole =
        ap (λ (xs : List Other). before_of xs ++ next.present ∷ map text_of next.future) left.past_is
        ∙ shifted left.other s.past (next.present ∷ map text_of next.future)
        ∙ ap (λ (x : List ℕ). before_of s.past ++ x ∷ next.present ∷ map text_of next.future) left.text_is
        ∙ ap (λ (xs : List Other). before_of s.past ++ s.present ∷ next.present ∷ map text_of xs) left.future_is

    front : take (suc (length s.past)) (sources_of s).all ≡ before_of s.past ++ s.present ∷ []
    front = subst (λ (n : ℕ). take (suc n) (sources_of s).all ≡ before_of s.past ++ s.present ∷ []) (as_long s.past) (up_to (before_of s.past) (map text_of s.future) s.present)

    all : (sources_of next).all ≡ take (suc (length s.past)) (sources_of s).all ++ next.present ∷ []
    all = whole ∙ sym (append_assoc (before_of s.past) (s.present ∷ []) (next.present ∷ [])) ∙ ap (λ (xs : List (List ℕ)). xs ++ next.present ∷ []) (sym front)

module _ (k : CommandKind) (s next : State) (reply : Reply) where
  refused_moves : ¬ (IsMove k) → (why : Refusal) → reply ≡ Refused why → next ≡ s → Moves k reply (sources_of s) (sources_of next)
  refused_moves still why is same = by_refusal still why is (ap sources_of same)

  edit_moves : ¬ (IsMove k) → ¬ (IsShowing k) → (kept gone : ℕ) (text : List ℕ) → Edits kept gone text s reply next → Moves k reply (sources_of s) (sources_of next)
  edit_moves still shows kept gone text (accepted old new from to changed after) =
      by_change still shows changed (puts s next (record { other = _; past_is = ap (λ (n : State). n.past) after; text_is = refl; future_is = ap (λ (n : State). n.future) after }))
  edit_moves still shows kept gone text (refused why first stays) = refused_moves still _ stays.0 stays.1

  lines_moves : ¬ (IsMove k) → ¬ (IsShowing k) → (there : Bool) (kept gone : ℕ) (text : List ℕ) → MatchBool there (Edits kept gone text s reply next) (Refuses NoSuchLine s reply next) → Moves k reply (sources_of s) (sources_of next)
  lines_moves still shows true kept gone text h = edit_moves still shows kept gone text h
  lines_moves still shows false kept gone text h = refused_moves still _ h.0 h.1

  step_moves : ¬ (IsMove k) → ¬ (IsShowing k) → (at : StepAt) → Transforms at s reply next → Moves k reply (sources_of s) (sources_of next)
  step_moves still shows at (missing t reads none stays) = refused_moves still _ stays.0 stays.1
  step_moves still shows at (forbidden t reads some cause is stays) = refused_moves still _ stays.0 stays.1
  step_moves still shows at (transformed t new keep reads some none makes valid changed after) =
      by_change still shows changed (puts s next (record { other = _; past_is = ap (λ (n : State). n.past) after; text_is = refl; future_is = ap (λ (n : State). n.future) after }))

  printed_moves : IsShowing k → (bytes : List ℕ) → Prints bytes s reply next → Moves k reply (sources_of s) (sources_of next)
  printed_moves shows bytes h = by_showing shows bytes h.0 (ap sources_of h.1)

  shown_moves : IsShowing k → (IsSo : ProgramTree → List ℕ → Type 0) → Shows IsSo s reply next → Moves k reply (sources_of s) (sources_of next)
  shown_moves shows IsSo h = printed_moves shows h.bytes h.prints

  rows_moves : ¬ (IsMove k) → IsShowing k → (IsSo : ProgramTree → List ℕ → Type 0) (found : Option StmtTree) → ShowsOf IsSo found s reply next → Moves k reply (sources_of s) (sources_of next)
  rows_moves still shows IsSo None h = refused_moves still _ h.0 h.1
  rows_moves still shows IsSo (Some statement) h = shown_moves shows IsSo h

  pair_moves : ¬ (IsMove k) → IsShowing k → (found : Option (List ℕ)) → MatchOption found (Refuses NoSuchPair s reply next) (λ text. Prints text s reply next) → Moves k reply (sources_of s) (sources_of next)
  pair_moves still shows None h = refused_moves still _ h.0 h.1
  pair_moves still shows (Some text) h = printed_moves shows text h

  answer_moves : ¬ (IsMove k) → IsShowing k → (query : Query) → ShowsAnswer query s reply next → Moves k reply (sources_of s) (sources_of next)
  answer_moves still shows Source h = shown_moves shows _ h
  answer_moves still shows (Deps None) h = shown_moves shows _ h
  answer_moves still shows (Deps (Some number)) h = rows_moves still shows _ (statement_with number h.tree) h.shows
  answer_moves still shows Show h = shown_moves shows _ h
  answer_moves still shows Calls h = shown_moves shows _ h
  answer_moves still shows Print h = printed_moves shows _ h
  answer_moves still shows (Advise number) h = rows_moves still shows _ (statement_with number h.tree) h.shows
  answer_moves still shows (System source sink pattern) h = pair_moves still shows (system_text h.tree source sink pattern) h.shows
  answer_moves still shows Tested h = printed_moves shows _ h

-- each command
pub moves : (k : CommandKind) (d : List ℕ) (s next : State) (reply : Reply) → IsStepOf k d s reply next → Moves k reply (sources_of s) (sources_of next)
moves (kind.Ask query) d s next reply h = answer_moves (kind.Ask query) s next reply (λ is. is) tt query h
moves (kind.Edit (Replace first last lines)) d s next reply h = lines_moves (kind.Edit (Replace first last lines)) s next reply (λ is. is) (λ is. is) (are_lines s.present first last) _ _ _ h
moves (kind.Edit (Insert after lines)) d s next reply h = lines_moves (kind.Edit (Insert after lines)) s next reply (λ is. is) (λ is. is) (is_place s.present after) _ _ _ h
moves (kind.Step command) d s next reply h = step_moves (kind.Step command) s next reply (λ is. is) (λ is. is) (step_of command) h
moves kind.Auto d s next reply h = absurd h
moves (kind.Move Undo) d s next reply h = by_undo refl (moves_back s.past s next reply refl h)
moves (kind.Move Redo) d s next reply h = by_redo refl (moves_forward s.future s next reply refl h)
moves (kind.Run (Run choices)) d s next reply h = shown_moves (kind.Run (Run choices)) s next reply tt _ h
moves (kind.Run Races) d s next reply h = shown_moves (kind.Run Races) s next reply tt _ h

-- so is each step of `auto`
taken_leaves : (o : Option StepCommand) (s next : State) → MatchOption o ⊥ (TransformsTo s Changed next) → Leaves s next
taken_leaves None s next h = absurd h
taken_leaves (Some c) s next h =
    let a = taken (step_of c) s next h.1 in
    record { other = _; past_is = ap (λ (n : State). n.past) a.next_is; text_is = refl; future_is = ap (λ (n : State). n.future) a.next_is }

puts_all : (cs : List Command) (s last : State) (tests : ℕ) → Replays session_editing s cs last tests → PutsAllBehind (length cs) (sources_of s) (sources_of last)
puts_all [] s last tests h = ap sources_of h.0
puts_all (c ∷ cs) s last tests h = (sources_of h.0, puts s h.0 (taken_leaves (step_in c) s h.0 h.3.0), puts_all cs h.0 last h.2 h.4)

auto_moves : (line : ℕ) (s next : State) (said : Said) → SaysAuto line s said next → MovesByAuto line (sources_of s) said.bytes (sources_of next)
auto_moves line s next said h =
    let first = answer_row line (codes "auto " ++ decimal (length h.0.report.accepted)) in
    let accepted = flat_map accepted_row h.0.report.accepted in
    let left = flat_map left_row h.0.report.left in
    record {
      count = length h.0.report.accepted;
      puts = puts_all h.0.report.accepted s next said.tests (auto_steps s next h.0.report said.tests h.0.does);
      rest = accepted ++ (left ++ next.present);
      says = h.0.says ∙ append_assoc (first ++ accepted) left next.present ∙ append_assoc first accepted (left ++ next.present);
    }

line_moves : (line : ℕ) (command : Option Command) (d : List ℕ) (s next : State) (said : Said) → AnswersCommand line command d s said next → KeepsHistory line command d s said next
line_moves line None d s next said h = record { here = stands s; there = stands next; moves = (ap (λ (x : Said). x.bytes) h.0, ap sources_of h.1) }
line_moves line (Some c) d s next said (inl h) = record { here = stands s; there = stands next; moves = inl (h.0, h.2, h.3, ap (λ (x : Said). x.bytes) h.4, moves (kind_of c) d s next h.0 h.1) }
line_moves line (Some c) d s next said (inr (is, h)) = record { here = stands s; there = stands next; moves = inr (is, auto_moves line s next said h) }

each_moves : SoOfValid KeepsHistory
each_moves d t valid line command s next said came h = line_moves line command d s next said h

-- the history of an answer
pub request_history : (request : Option Request) (files : Contents) (s : Status) (b : List ℕ) → IsWhole s → Answers request files s b → HistoryRequest request files b
request_history None files s b whole h = tt
request_history (Some (show program)) files s b whole h = tt
request_history (Some (session program script data_file)) files s b whole h = session_each KeepsHistory each_moves program script data_file files s b whole h
request_history (Some (generate number)) files s b whole h = tt
