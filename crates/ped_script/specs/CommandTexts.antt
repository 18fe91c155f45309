-- The text of a command: its words as a script has them, with a blank between two (this project).
use Rattle.std.specs.Prelude.{◌≡◌, ℕ, suc, ◌<◌, ◌≤◌, ◌^◌, ℤ, pos, negsuc, List, [], ◌∷◌, ◌++◌, map, length, codes, Bool, true, false, Some, None, ⊤}
use Rattle.std.specs.List.{join_by, flat_map, AllByRecursion}
use Rattle.std.specs.Fmt.{decimal, signed_decimal}
use Rattle.ped_base.specs.Letters.{is_name}
use Rattle.ped_certificates.specs.declared.claims.Position.{Position}
use Rattle.ped_certificates.specs.declared.claims.Sign.{Sign}
use Rattle.ped_certificates.specs.PairTexts.{place_text, pattern_text}
use Rattle.ped_script.specs.Words.{Text}
use Rattle.ped_script.specs.declared.items.Command.{Command}
use Rattle.ped_script.specs.declared.items.Command.TheVariants.{Source, Deps, Show, Calls, Print, Advise, Replace, Insert, Delete, Interchange, Reverse, Skew, Strip, Peel, Distribute, Fuse, Inline, Expand, Privatise, Reduce, Parallel, InterchangeBy, ReverseBy, ParallelBy, Serial, Reject, Auto, Undo, Redo, Run, Races, Tested, System}

-- the words of `peel`
abbrev pub peel_words : ℕ → Bool → List Text
peel_words s false = codes "peel" ∷ decimal s ∷ codes "first" ∷ []
peel_words s true = codes "peel" ∷ decimal s ∷ codes "last" ∷ []

-- the words of `reduce`
abbrev pub reduce_words : ℕ → List Text → List Text
reduce_words s names = codes "reduce" ∷ decimal s ∷ names

-- the words of `run`
abbrev pub run_words : List ℕ → List Text
run_words choices = codes "run" ∷ map decimal choices

-- the words of `system`
abbrev pub system_words : Position → Position → List Sign → List Text
system_words source sink pattern = codes "system" ∷ place_text source ∷ place_text sink ∷ pattern_text pattern ∷ []

-- the words of a command; the text of an edit or of evidence is on the lines after them
abbrev pub command_words : Command → List Text
command_words Source = codes "source" ∷ []
command_words (Deps None) = codes "deps" ∷ []
command_words (Deps (Some s)) = codes "deps" ∷ decimal s ∷ []
command_words Show = codes "show" ∷ []
command_words Calls = codes "calls" ∷ []
command_words Print = codes "print" ∷ []
command_words (Advise s) = codes "advise" ∷ decimal s ∷ []
command_words (Replace first last lines) = codes "replace" ∷ decimal first ∷ decimal last ∷ []
command_words (Insert after lines) = codes "insert" ∷ decimal after ∷ []
command_words (Delete first last) = codes "delete" ∷ decimal first ∷ decimal last ∷ []
command_words (Interchange s) = codes "interchange" ∷ decimal s ∷ []
command_words (Reverse s) = codes "reverse" ∷ decimal s ∷ []
command_words (Skew s factor) = codes "skew" ∷ decimal s ∷ signed_decimal factor ∷ []
command_words (Strip s size) = codes "strip" ∷ decimal s ∷ signed_decimal size ∷ []
command_words (Peel s last) = peel_words s last
command_words (Distribute s) = codes "distribute" ∷ decimal s ∷ []
command_words (Fuse s) = codes "fuse" ∷ decimal s ∷ []
command_words (Inline s) = codes "inline" ∷ decimal s ∷ []
command_words (Expand s x) = codes "expand" ∷ decimal s ∷ x ∷ []
command_words (Privatise s x) = codes "privatise" ∷ decimal s ∷ x ∷ []
command_words (Reduce s names) = reduce_words s names
command_words (Parallel s) = codes "parallel" ∷ decimal s ∷ []
command_words (InterchangeBy s evidence) = codes "interchange" ∷ decimal s ∷ codes "by" ∷ []
command_words (ReverseBy s evidence) = codes "reverse" ∷ decimal s ∷ codes "by" ∷ []
command_words (ParallelBy s evidence) = codes "parallel" ∷ decimal s ∷ codes "by" ∷ []
command_words (Serial s) = codes "serial" ∷ decimal s ∷ []
command_words (Reject s x) = codes "reject" ∷ decimal s ∷ x ∷ []
command_words Auto = codes "auto" ∷ []
command_words Undo = codes "undo" ∷ []
command_words Redo = codes "redo" ∷ []
command_words (Run choices) = run_words choices
command_words Races = codes "races" ∷ []
command_words Tested = codes "tested" ∷ []
command_words (System source sink pattern) = system_words source sink pattern

-- words, each after a blank
abbrev pub behind : List Text → Text
behind words = flat_map (λ word. codes " " ++ word) words

-- words as a line of a script has them: with a blank between two
abbrev pub line_of : List Text → Text
line_of words = join_by (λ word. word) (codes " ") words

-- the text of a command
abbrev pub command_text : Command → Text
command_text c = line_of (command_words c)

-- the number can be written: it has at most nine digits
abbrev pub IsShortNumber : ℕ → Type 0
IsShortNumber n = n < 10 ^ 9

-- the factor can be written: it has at most nine digits
abbrev pub IsShortFactor : ℤ → Type 0
IsShortFactor (pos n) = n < 10 ^ 9
IsShortFactor (negsuc n) = suc n < 10 ^ 9

-- the name can be written: it is one of at most 31 characters
abbrev pub IsShortName : Text → Type 0
IsShortName x = (is_name x ≡ true) × (length x ≤ 31)

-- the place can be written
abbrev pub IsShortPlace : Position → Type 0
IsShortPlace place = IsShortNumber place.statement × IsShortNumber place.number

-- a script can say the command in one line: its numbers and names have the form that the table asks for, and it has no lines of an edit or of evidence
abbrev pub IsWritable : Command → Type 0
IsWritable Source = ⊤
IsWritable (Deps None) = ⊤
IsWritable (Deps (Some s)) = IsShortNumber s
IsWritable Show = ⊤
IsWritable Calls = ⊤
IsWritable Print = ⊤
IsWritable (Advise s) = IsShortNumber s
IsWritable (Replace first last lines) = IsShortNumber first × IsShortNumber last × (lines ≡ [])
IsWritable (Insert after lines) = IsShortNumber after × (lines ≡ [])
IsWritable (Delete first last) = IsShortNumber first × IsShortNumber last
IsWritable (Interchange s) = IsShortNumber s
IsWritable (Reverse s) = IsShortNumber s
IsWritable (Skew s factor) = IsShortNumber s × IsShortFactor factor
IsWritable (Strip s size) = IsShortNumber s × ((k : ℕ) × IsShortNumber k × (size ≡ pos k))
IsWritable (Peel s last) = IsShortNumber s
IsWritable (Distribute s) = IsShortNumber s
IsWritable (Fuse s) = IsShortNumber s
IsWritable (Inline s) = IsShortNumber s
IsWritable (Expand s x) = IsShortNumber s × IsShortName x
IsWritable (Privatise s x) = IsShortNumber s × IsShortName x
IsWritable (Reduce s names) = IsShortNumber s × AllByRecursion IsShortName names × (1 ≤ length names) × (length names ≤ 8)
IsWritable (Parallel s) = IsShortNumber s
IsWritable (InterchangeBy s evidence) = IsShortNumber s × (evidence ≡ [])
IsWritable (ReverseBy s evidence) = IsShortNumber s × (evidence ≡ [])
IsWritable (ParallelBy s evidence) = IsShortNumber s × (evidence ≡ [])
IsWritable (Serial s) = IsShortNumber s
IsWritable (Reject s x) = IsShortNumber s × IsShortName x
IsWritable Auto = ⊤
IsWritable Undo = ⊤
IsWritable Redo = ⊤
IsWritable (Run choices) = AllByRecursion (λ n. n < 10 ^ 18) choices
IsWritable Races = ⊤
IsWritable Tested = ⊤
IsWritable (System source sink pattern) = IsShortPlace source × IsShortPlace sink × (1 ≤ length pattern)
