-- What requests of the code stand for (this project).
use Rattle.std.specs.Prelude.{◌≡◌, ◌≤◌, Option, Some, None, option_map, Result, MatchResult}
use Rattle.ped_words.specs.Requests as plain
use Rattle.ped_words.specs.declared.errors.WordsError.{WordsError}
use Rattle.ped_words.specs.declared.errors.WordsError.TheVariants.{Bad}
use Rattle.ped_words.specs.declared.requests.Request.{Request}
use Rattle.ped_words.specs.declared.requests.Request.TheVariants.{Show, Session, Generate}

-- names as their bytes
abbrev pub request_view : Request → plain.Request
request_view (Show program) = plain.show program.now
request_view (Session program script data_file) = plain.session program.now script.now (option_map (λ file. file.now) data_file)
request_view (Generate number) = plain.generate number

-- the answer is what is asked for, and that the words are bad only where nothing is asked for
abbrev pub Answers : Option plain.Request → Result Request WordsError → Type 0
Answers asked result = MatchResult result (λ r. asked ≡ Some (request_view r)) (λ e. e ≡ Bad → asked ≡ None)

-- a size is a number from 1 to 300
abbrev pub IsSized : Request → Type 0
IsSized (Generate number) = (1 ≤ number) × (number ≤ 300)
IsSized r = Unit {0}
