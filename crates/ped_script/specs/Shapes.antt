-- The commands by the number of their words, and signs one by one. Only contracts of private functions use it.
use Rattle.std.specs.Prelude.{ℕ, pos, [], ◌∷◌, true, false, codes, Option, Some, None, option_map, if◌then◌else◌}
use Rattle.ped_base.specs.Lists.{is_same_text}
use Rattle.ped_certificates.specs.declared.claims.Sign.{Sign}
use Rattle.ped_script.specs.Words.{Text, number_of, factor_of, name_of}
use Rattle.ped_script.specs.EvidenceLines.{sign_of}
use Rattle.ped_script.specs.declared.items.Command.{Command}
use Rattle.ped_script.specs.declared.items.Command.TheVariants.{Source, Deps, Show, Calls, Print, Advise, Replace, Insert, Delete, Interchange, Reverse, Skew, Strip, Peel, Distribute, Fuse, Inline, Expand, Privatise, Parallel, InterchangeBy, ReverseBy, ParallelBy, Serial, Reject, Auto, Undo, Redo, Races, Tested}

-- the command that is one word
unfoldable pub alone : Text → Option Command
alone w =
    if is_same_text w (codes "source") then Some Source
    else if is_same_text w (codes "deps") then Some (Deps None)
    else if is_same_text w (codes "show") then Some Show
    else if is_same_text w (codes "calls") then Some Calls
    else if is_same_text w (codes "print") then Some Print
    else if is_same_text w (codes "auto") then Some Auto
    else if is_same_text w (codes "undo") then Some Undo
    else if is_same_text w (codes "redo") then Some Redo
    else if is_same_text w (codes "races") then Some Races
    else if is_same_text w (codes "tested") then Some Tested
    else None

-- the command that is a word and a number
unfoldable pub with_number : Text → ℕ → Option Command
with_number w n =
    if is_same_text w (codes "deps") then Some (Deps (Some n))
    else if is_same_text w (codes "advise") then Some (Advise n)
    else if is_same_text w (codes "insert") then Some (Insert n [])
    else if is_same_text w (codes "interchange") then Some (Interchange n)
    else if is_same_text w (codes "reverse") then Some (Reverse n)
    else if is_same_text w (codes "distribute") then Some (Distribute n)
    else if is_same_text w (codes "fuse") then Some (Fuse n)
    else if is_same_text w (codes "inline") then Some (Inline n)
    else if is_same_text w (codes "parallel") then Some (Parallel n)
    else if is_same_text w (codes "serial") then Some (Serial n)
    else None

-- the loop of this number is peeled at this end
unfoldable pub peeled : ℕ → Text → Option Command
peeled n end =
    if is_same_text end (codes "first") then Some (Peel n false)
    else if is_same_text end (codes "last") then Some (Peel n true)
    else None

-- the command that takes evidence, by its word and its number
abbrev pub step_by : Text → ℕ → Option Command
step_by w n =
    if is_same_text w (codes "interchange") then Some (InterchangeBy n [])
    else if is_same_text w (codes "reverse") then Some (ReverseBy n [])
    else if is_same_text w (codes "parallel") then Some (ParallelBy n [])
    else None

-- the same, where the last word is `by`
unfoldable pub with_by : Text → ℕ → Text → Option Command
with_by w n last = if is_same_text last (codes "by") then step_by w n else None

-- the command that is a word, a number and a word of the table
unfoldable pub with_word : Text → ℕ → Text → Option Command
with_word w n last = if is_same_text w (codes "peel") then peeled n last else with_by w n last

-- the command that is a word, a number and another word
unfoldable pub with_two : Text → ℕ → Text → Option Command
with_two w n last =
    if is_same_text w (codes "replace") then option_map (λ b. Replace n b []) (number_of 9 last)
    else if is_same_text w (codes "delete") then option_map (Delete n) (number_of 9 last)
    else if is_same_text w (codes "skew") then option_map (Skew n) (factor_of last)
    else if is_same_text w (codes "strip") then option_map (λ k. Strip n (pos k)) (number_of 9 last)
    else if is_same_text w (codes "expand") then option_map (Expand n) (name_of last)
    else if is_same_text w (codes "privatise") then option_map (Privatise n) (name_of last)
    else if is_same_text w (codes "reject") then option_map (Reject n) (name_of last)
    else with_word w n last

-- the sign at the front of a text, the character behind it, and what follows both
abbrev pub first_sign : Text → Option (Sign × ℕ × Text)
first_sign [] = None
first_sign (c ∷ []) = None
first_sign (c ∷ d ∷ cs) = option_map (λ sign. (sign, d, cs)) (sign_of c)
