-- The commands of a script, row by row: what words are which command (this project).
use Rattle.std.specs.Prelude.{◌≡◌, ◌⊎◌, ℕ, ℤ, pos, List, [], ◌∷◌, length, nat_le, true, false, ◌&&◌, codes, Option, Some, None, option_map, option_and_then, if◌then◌else◌}
use Rattle.std.specs.Option.{option_or}
use Rattle.ped_base.specs.Lists.{has_some, is_same_text}
use Rattle.ped_certificates.specs.declared.claims.Position.{Position}
use Rattle.ped_certificates.specs.declared.claims.Sign.{Sign}
use Rattle.ped_script.specs.Words.{Text, number_of, numbers_of, factor_of, name_of, names_of}
use Rattle.ped_script.specs.EvidenceLines.{pair_then}
use Rattle.ped_script.specs.declared.items.Command.{Command}
use Rattle.ped_script.specs.declared.items.Command.TheVariants.{Source, Deps, Show, Calls, Print, Advise, Replace, Insert, Delete, Interchange, Reverse, Skew, Strip, Peel, Distribute, Fuse, Inline, Expand, Privatise, Reduce, Parallel, InterchangeBy, ReverseBy, ParallelBy, Serial, Reject, Auto, Undo, Redo, Run, Races, Tested, System}

-- the command that words are, where they fit the row
abbrev pub Row : Type 0
Row = List Text → Option Command

-- no further word
abbrev pub done : Command → Row
done c [] = Some c
done c (w ∷ ws) = None

-- this word, and after it what the row goes on with
abbrev pub word : Text → Row → Row
word expected next [] = None
word expected next (w ∷ ws) = if is_same_text w expected then next ws else None

-- the number of a statement or of a line, or the size of a strip: at most nine digits
abbrev pub number : (ℕ → Row) → Row
number next [] = None
number next (w ∷ ws) = option_and_then (λ n. next n ws) (number_of 9 w)

-- the factor of a skew: at most nine digits, with or without a minus sign before them
abbrev pub factor : (ℤ → Row) → Row
factor next [] = None
factor next (w ∷ ws) = option_and_then (λ f. next f ws) (factor_of w)

-- the name of a variable
abbrev pub name : (Text → Row) → Row
name next [] = None
name next (w ∷ ws) = option_and_then (λ x. next x ws) (name_of w)

-- the command on these names, where they are at least one and at most eight
abbrev pub on_few : (List Text → Command) → List Text → Option Command
on_few to_command names = if has_some names && nat_le (length names) 8 then Some (to_command names) else None

-- one to eight names of variables
abbrev pub few_names : (List Text → Command) → Row
few_names to_command ws = option_and_then (on_few to_command) (names_of ws)

-- choices of a run, as many as there are: at most eighteen digits each
abbrev pub choices : (List ℕ → Command) → Row
choices to_command ws = option_map to_command (numbers_of 18 ws)

-- two places and a pattern
abbrev pub pair : (Position → Position → List Sign → Command) → Row
pair to_command ws = pair_then (λ source sink pattern. done (to_command source sink pattern)) ws

-- all commands; the text of an edit or of evidence is on the lines after the words, and is empty here
abbrev pub rows : List Row
rows =
    word (codes "source") (done Source)
    ∷ word (codes "deps") (done (Deps None))
    ∷ word (codes "deps") (number (λ s. done (Deps (Some s))))
    ∷ word (codes "show") (done Show)
    ∷ word (codes "calls") (done Calls)
    ∷ word (codes "print") (done Print)
    ∷ word (codes "advise") (number (λ s. done (Advise s)))
    ∷ word (codes "replace") (number (λ a. number (λ b. done (Replace a b []))))
    ∷ word (codes "insert") (number (λ a. done (Insert a [])))
    ∷ word (codes "delete") (number (λ a. number (λ b. done (Delete a b))))
    ∷ word (codes "interchange") (number (λ s. done (Interchange s)))
    ∷ word (codes "interchange") (number (λ s. word (codes "by") (done (InterchangeBy s []))))
    ∷ word (codes "reverse") (number (λ s. done (Reverse s)))
    ∷ word (codes "reverse") (number (λ s. word (codes "by") (done (ReverseBy s []))))
    ∷ word (codes "skew") (number (λ s. factor (λ f. done (Skew s f))))
    ∷ word (codes "strip") (number (λ s. number (λ k. done (Strip s (pos k)))))
    ∷ word (codes "peel") (number (λ s. word (codes "first") (done (Peel s false))))
    ∷ word (codes "peel") (number (λ s. word (codes "last") (done (Peel s true))))
    ∷ word (codes "distribute") (number (λ s. done (Distribute s)))
    ∷ word (codes "fuse") (number (λ s. done (Fuse s)))
    ∷ word (codes "inline") (number (λ s. done (Inline s)))
    ∷ word (codes "expand") (number (λ s. name (λ t. done (Expand s t))))
    ∷ word (codes "privatise") (number (λ s. name (λ t. done (Privatise s t))))
    ∷ word (codes "reduce") (number (λ s. few_names (λ names. Reduce s names)))
    ∷ word (codes "parallel") (number (λ s. done (Parallel s)))
    ∷ word (codes "parallel") (number (λ s. word (codes "by") (done (ParallelBy s []))))
    ∷ word (codes "serial") (number (λ s. done (Serial s)))
    ∷ word (codes "reject") (number (λ s. name (λ v. done (Reject s v))))
    ∷ word (codes "auto") (done Auto)
    ∷ word (codes "undo") (done Undo)
    ∷ word (codes "redo") (done Redo)
    ∷ word (codes "run") (choices (λ cs. Run cs))
    ∷ word (codes "races") (done Races)
    ∷ word (codes "tested") (done Tested)
    ∷ word (codes "system") (pair (λ source sink pattern. System source sink pattern))
    ∷ []

-- the command of the first row that the words fit
abbrev pub first_fit : List Row → Row
first_fit [] ws = None
first_fit (r ∷ rs) ws = option_or (r ws) (first_fit rs ws)

-- the words are the command by one of these rows
abbrev pub Fit : List Row → List Text → Command → Type 0
Fit [] ws c = ⊥
Fit (r ∷ rs) ws c = (r ws ≡ Some c) ⊎ Fit rs ws c

-- the words are the command by some row
abbrev pub AreCommand : List Text → Command → Type 0
AreCommand = Fit rows

-- the command that the words are, where they are one
unfoldable pub command_of : List Text → Option Command
command_of words = first_fit rows words
