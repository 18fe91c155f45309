-- What holds of each parse that succeeds, and what an error of one means. Only contracts of private functions use it.
use Rattle.std.specs.Prelude.{◌≡◌, ◌≢◌, pos, [], true, false, is_some, Some}
use Rattle.clap.specs.Built.{IsPlainArg, TakesValue}
use Rattle.clap.specs.Values.{IsSignedIn}
use Rattle.clap.specs.Walk.{Text}
use Rattle.clap.specs.Words.{app_of, args_of, groups_of, IsParsedFrom, first_value, found_of, kind_of, one_text, rule_of, without_minus}
use Rattle.clap.specs.declared.builder.arg.Arg.{Arg}
use Rattle.clap.specs.declared.builder.command.Command.{Command}
use Rattle.clap.specs.declared.builder.command.Command.TheViews.{out-Command}
use Rattle.clap.specs.declared.error.Error.{Error}
use Rattle.clap.specs.declared.error.kind.ErrorKind.TheVariants.{OutOfMemory}
use Rattle.clap.specs.declared.parser.matches.ArgMatches.{ArgMatches}
use Rattle.ped_words.specs.Modes.{mode, needed}
use Rattle.ped_words.specs.declared.errors.WordsError.{WordsError}
use Rattle.ped_words.specs.declared.errors.WordsError.TheVariants.{Bad, NoMemory}

-- the command of this name, without further settings
pub record IsMode (name : Text) (c : Command) : Type 0 where
  pub app : app_of c ≡ mode name
  pub args : args_of c ≡ []
  pub groups : groups_of c ≡ []
  pub local : (out-Command c).has_globals ≡ false
  pub negates : (out-Command c).subcommand_negates_reqs ≡ false

-- the argument of this name, which must be there, without further settings
pub record IsNeeded (name : Text) (a : Arg) : Type 0 where
  pub id : a.id.now ≡ name
  pub rule : rule_of a ≡ needed name
  pub plain : IsPlainArg a
  pub local : a.global ≡ false
  pub takes : TakesValue a
  pub case : a.ignore_case ≡ false

-- the argument has a value
abbrev pub HasValue : Text → Command → Type 0
HasValue name c = (m : ArgMatches) → IsParsedFrom c m → is_some (first_value (found_of m) name) ≡ true

-- the argument has a number from 1 to 300 for its value
abbrev pub HasSize : Text → Command → Type 0
HasSize name c = (m : ArgMatches) → IsParsedFrom c m → (t : Text) × (one_text (found_of m) name ≡ Some (without_minus t)) × IsSignedIn (pos 1) (pos 300) t

-- out of memory stays out of memory, and words that are refused for anything else are bad
pub record IsErrorOf (error : Error) (said : WordsError) : Type 0 where
  pub memory : kind_of error ≡ OutOfMemory → said ≡ NoMemory
  pub other : kind_of error ≢ OutOfMemory → said ≡ Bad
