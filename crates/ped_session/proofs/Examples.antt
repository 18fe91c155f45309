-- Splices, blocks and answers, worked out by their definition.
use Rattle.std.proofs.Common.{◌≡◌, ℕ, pos, negsuc, List, [], ◌∷◌, true, false, Some, None, refl}
use Rattle.std.specs.Prelude.{codes}
use Rattle.std.specs.Fmt.{digits}
use Rattle.ped_store.specs.Cells.{Scalar, Element, Private, In}
use Rattle.ped_eval.specs.Outcomes.{Outcome, Ended, Fault}
use Rattle.ped_order.specs.Reports.{NoRace, Race}
use Rattle.ped_order.specs.Reports as races
use Rattle.ped_tree.specs.declared.grammar.refusals.RefusalKind.TheVariants.{OpenBlock, StorageLimit}
use Rattle.ped_session.specs.declared.replies.Refusal.TheVariants.{BadEdit, NothingToUndo, NothingToRedo, NoSuchStatement, NoSuchLine, NoSuchPair}
use Rattle.ped_session.specs.declared.replies.Reply.TheVariants.{Changed, Shown, Refused}
use Rattle.ped_versions.specs.Splices.{text_of_lines, spliced, are_lines, is_place}
use Rattle.ped_session.specs.OutcomeTexts.{outcome_text}
use Rattle.ped_session.specs.RaceRows.{race_row}
use Rattle.ped_session.specs.Replies.{reply_text, bad_command_row}

abbrev abc : List ℕ
abc = text_of_lines (codes "A" ∷ codes "B" ∷ codes "C" ∷ [])

two_for_one : spliced abc 1 1 (codes "X" ∷ codes "Y" ∷ []) ≡ text_of_lines (codes "A" ∷ codes "X" ∷ codes "Y" ∷ codes "C" ∷ [])
two_for_one = refl

at_the_front : spliced abc 0 0 (codes "X" ∷ []) ≡ text_of_lines (codes "X" ∷ codes "A" ∷ codes "B" ∷ codes "C" ∷ [])
at_the_front = refl

at_the_end : spliced abc 3 0 (codes "X" ∷ []) ≡ text_of_lines (codes "A" ∷ codes "B" ∷ codes "C" ∷ codes "X" ∷ [])
at_the_end = refl

last_two_go : spliced abc 1 2 [] ≡ text_of_lines (codes "A" ∷ [])
last_two_go = refl

all_go : spliced abc 0 3 [] ≡ []
all_go = refl

a_blank_line_stays : spliced abc 1 1 ([] ∷ []) ≡ text_of_lines (codes "A" ∷ [] ∷ codes "C" ∷ [])
a_blank_line_stays = refl

all_lines : are_lines abc 1 3 ≡ true
all_lines = refl

no_line_0 : are_lines abc 0 1 ≡ false
no_line_0 = refl

no_line_4 : are_lines abc 3 4 ≡ false
no_line_4 = refl

first_behind_last : are_lines abc 3 2 ≡ false
first_behind_last = refl

behind_the_last : is_place abc 3 ≡ true
behind_the_last = refl

further_on : is_place abc 4 ≡ false
further_on = refl

front_of_nothing : is_place [] 0 ≡ true
front_of_nothing = refl

-- a line that is printed, and a live array with an undefined element
abbrev ended : Outcome
ended = Ended (codes "2" ∷ [] ∷ []) (record { name = codes "A"; values = Some (pos 1) ∷ None ∷ Some (negsuc 2) ∷ [] } ∷ [])

text_of_ended : outcome_text ended ≡ text_of_lines (codes "| 2" ∷ codes "| " ∷ codes "ended" ∷ codes "live A 1 ? -3" ∷ [])
unfolding digits
text_of_ended = refl

text_of_fault : outcome_text (Fault 3 12) ≡ text_of_lines (codes "fault 3 at 12" ∷ [])
unfolding digits
text_of_fault = refl

changed : reply_text 4 Changed ≡ text_of_lines (codes "4: ok" ∷ [])
unfolding digits
changed = refl

shown : reply_text 4 (Shown abc) ≡ abc
shown = refl

bad_edit : reply_text 1 (Refused (BadEdit (record { kind = OpenBlock; line = 3 }))) ≡ text_of_lines (codes "1: refused BadEdit 9 OpenBlock at 3" ∷ [])
unfolding digits
bad_edit = refl

past_a_limit : reply_text 1 (Refused (BadEdit (record { kind = StorageLimit; line = 20 }))) ≡ text_of_lines (codes "1: refused BadEdit 19 Limit at 20" ∷ [])
unfolding digits
past_a_limit = refl

nothing_to_undo : reply_text 10 (Refused NothingToUndo) ≡ text_of_lines (codes "10: refused NothingToUndo" ∷ [])
unfolding digits
nothing_to_undo = refl

nothing_to_redo : reply_text 10 (Refused NothingToRedo) ≡ text_of_lines (codes "10: refused NothingToRedo" ∷ [])
unfolding digits
nothing_to_redo = refl

no_such_statement : reply_text 2 (Refused NoSuchStatement) ≡ text_of_lines (codes "2: refused NoSuchStatement" ∷ [])
unfolding digits
no_such_statement = refl

no_such_line : reply_text 7 (Refused NoSuchLine) ≡ text_of_lines (codes "7: refused NoSuchLine" ∷ [])
unfolding digits
no_such_line = refl

no_such_pair : reply_text 4 (Refused NoSuchPair) ≡ text_of_lines (codes "4: refused NoSuchPair" ∷ [])
unfolding digits
no_such_pair = refl

bad_command : bad_command_row 7 ≡ text_of_lines (codes "7: refused BadCommand" ∷ [])
unfolding digits
bad_command = refl

race_on_a_scalar : race_row (Race (Scalar (codes "K")) 2 15) ≡ text_of_lines (codes "race K at 2 and 15" ∷ [])
unfolding digits
race_on_a_scalar = refl

race_on_an_element : race_row (Race (Element (codes "A") (pos 3 ∷ negsuc 1 ∷ [])) 4 3) ≡ text_of_lines (codes "race A(3,-2) at 4 and 3" ∷ [])
unfolding digits
race_on_an_element = refl

race_on_a_copy : race_row (Race (Private (codes "T") (record { statement = 1; number = 2 } ∷ [])) 4 4) ≡ text_of_lines (codes "race T at 4 and 4" ∷ [])
unfolding digits
race_on_a_copy = refl

race_on_the_data : race_row (Race In 2 2) ≡ text_of_lines (codes "race (IN) at 2 and 2" ∷ [])
unfolding digits
race_on_the_data = refl

no_races : race_row NoRace ≡ text_of_lines (codes "no race" ∷ [])
no_races = refl

fault_before_any : race_row (races.Fault 1 2) ≡ text_of_lines (codes "fault 1 at 2" ∷ [])
unfolding digits
fault_before_any = refl
