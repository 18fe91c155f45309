-- The mode, and what it makes of the words.
use Rattle.std.proofs.Common.{◌≡◌, true, false, List, [], ◌∷◌, map, codes, Option, Some, None, Result, Ok, Err, IfOk, slice_get, refl, ap, ◌∙◌}
use Rattle.std.specs.Global.{Global}
use Rattle.std.specs.Prelude.{String, string_bytes}
use Rattle.ped_base.specs.Lists.{is_same_text}
use Rattle.clap.specs.Walk.{Text}
use Rattle.ped_words.specs.Requests as plain
use Rattle.ped_words.specs.Requests.{show_request, session_request, generate_request, request_in, request_of}
use Rattle.ped_words.specs.Views.{request_view, Answers}
use Rattle.ped_words.specs.declared.errors.WordsError.{WordsError}
use Rattle.ped_words.specs.declared.errors.WordsError.TheVariants.{Bad}
use Rattle.ped_words.specs.declared.requests.Request.{Request}

-- without words nothing is asked for
pub no_words : (words : List (String Global)) → slice_get words 0 ≡ None → request_of (map string_bytes words) ≡ None
unfolding request_of
no_words [] e = refl
no_words (w ∷ ws) e = absurd cc

-- the first word is the mode
pub by_mode : (words : List (String Global)) (w : String Global) → slice_get words 0 ≡ Some w → request_of (map string_bytes words) ≡ request_in (string_bytes w) (map string_bytes words)
unfolding request_of
by_mode [] w e = absurd cc
by_mode (v ∷ vs) w e = let same : v ≡ w = cc in ap (λ (x : String Global). request_in (string_bytes x) (map string_bytes (v ∷ vs))) same

pub in_show : (mode : Text) (words : List Text) → is_same_text mode (codes "show") ≡ true → request_in mode words ≡ show_request words
in_show mode words e = rw e refl

pub in_session : (mode : Text) (words : List Text) → is_same_text mode (codes "show") ≡ false → is_same_text mode (codes "session") ≡ true → request_in mode words ≡ session_request words
in_session mode words e f = rw (e, f) refl

pub in_generate : (mode : Text) (words : List Text) → is_same_text mode (codes "show") ≡ false → is_same_text mode (codes "session") ≡ false → is_same_text mode (codes "generate") ≡ true → request_in mode words ≡ generate_request words
in_generate mode words e f g = rw (e, f, g) refl

pub in_none : (mode : Text) (words : List Text) → is_same_text mode (codes "show") ≡ false → is_same_text mode (codes "session") ≡ false → is_same_text mode (codes "generate") ≡ false → request_in mode words ≡ None
in_none mode words e f g = rw (e, f, g) refl

-- an answer to what is asked for is one to the words
pub answered : (asked same : Option plain.Request) (r : Result Request WordsError) → same ≡ asked → Answers asked r → IfOk r (λ x. same ≡ Some (request_view x))
answered asked same (Ok x) e h = e ∙ h
answered asked same (Err k) e h = tt

pub refused : (asked same : Option plain.Request) (r : Result Request WordsError) → same ≡ asked → Answers asked r → r ≡ Err Bad → same ≡ None
refused asked same (Ok x) e h k = absurd cc
refused asked same (Err w) e h k = e ∙ h cc
