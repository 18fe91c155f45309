-- What a parse that succeeds gives, in the words of what is asked for.
use Rattle.std.proofs.Common.{◌≡◌, true, cond, List, [], codes, Option, Some, None, option_map, unwrap_or, sym, ap, subst, ◌∙◌}
use Rattle.std.specs.Borrow.{Bor}
use Rattle.clap.specs.Kinds.{Kinds}
use Rattle.clap.specs.Matches.{found_of, first_value}
use Rattle.clap.specs.Walk.{Text, is_empty, rows_of, first_of}
use Rattle.clap.specs.Words.{App, app_of, fault_of, is_simple, is_simple_and_free, matches_of, HasMatchesOf}
use Rattle.clap.specs.declared.builder.command.Command.{Command}
use Rattle.clap.specs.declared.parser.matches.ArgMatches.{ArgMatches}
use Rattle.clap.proofs.WalkLemmas.{first_value-rows}
use Rattle.ped_words.specs.Modes.{show_app, session_app}
use Rattle.ped_words.specs.Requests.{Request, show, session, value_of, taken_by, show_request, session_request}

-- what was found by a parse of a command that is such an app
pub record IsFound (app : App) (words : List Text) (m : ArgMatches) : Type 0 where
  pub faults : fault_of app words ≡ []
  pub rows : rows_of (found_of m) ≡ matches_of app words

-- a simple command's parse, in clap's words
pub parse_found : (app : App) (words : List Text) (m : ArgMatches) (c : Command) → app_of c ≡ app → is_simple app ≡ true → is_simple_and_free app ≡ true
    → (is_simple_and_free (app_of c) ≡ true → fault_of (app_of c) words ≡ []) → HasMatchesOf (app_of c) words m → IsFound app words m
parse_found app words m c is simple free faults matches = record {
  faults = subst (λ (a : App). is_simple_and_free a ≡ true → fault_of a words ≡ []) is faults free;
  rows = (subst (λ (a : App). HasMatchesOf a words m) is matches simple).0;
}

pub taken : (app : App) (words : List Text) (m : ArgMatches) (asked : Request) → IsFound app words m → taken_by app words asked ≡ Some asked
taken app words m asked h = ap (λ (kinds : Kinds). cond (is_empty kinds) (Some asked) None) h.faults

-- the value of an argument, none where it has none
first_is : (app : App) (words : List Text) (m : ArgMatches) (name : Text) (o : Option (Bor Text)) → IsFound app words m → option_map (λ s. s.now) o ≡ first_value (found_of m) name → first_of name (matches_of app words) ≡ option_map (λ s. s.now) o
first_is app words m name o h e = sym (e ∙ first_value-rows (found_of m) name ∙ ap (first_of name) h.rows)

value_is : (app : App) (words : List Text) (m : ArgMatches) (name : Text) (o : Option (Bor Text)) (s : Bor Text) → IsFound app words m → option_map (λ s. s.now) o ≡ first_value (found_of m) name → o ≡ Some s → value_of app words name ≡ s.now
value_is app words m name o s h e is = ap (λ (t : Option Text). unwrap_or t []) (first_is app words m name o h e) ∙ ap (λ (x : Option (Bor Text)). unwrap_or (option_map (λ s. s.now) x) []) is

pub show_is : (words : List Text) (m : ArgMatches) (o : Option (Bor Text)) (s : Bor Text) → IsFound show_app words m → option_map (λ s. s.now) o ≡ first_value (found_of m) (codes "program") → o ≡ Some s → show_request words ≡ Some (show s.now)
show_is words m o s h e is =
    taken show_app words m _ h ∙ ap (λ (t : Text). Some (show t)) (value_is show_app words m (codes "program") o s h e is)

pub session_is : (words : List Text) (m : ArgMatches) (o p q : Option (Bor Text)) (s t : Bor Text) → IsFound session_app words m
    → option_map (λ s. s.now) o ≡ first_value (found_of m) (codes "program") → o ≡ Some s
    → option_map (λ s. s.now) p ≡ first_value (found_of m) (codes "script") → p ≡ Some t
    → option_map (λ s. s.now) q ≡ first_value (found_of m) (codes "data")
    → session_request words ≡ Some (session s.now t.now (option_map (λ s. s.now) q))
session_is words m o p q s t h e is f it g =
    taken session_app words m _ h
    ∙ ap (λ (x : Text). Some (session x (value_of session_app words (codes "script")) (first_of (codes "data") (matches_of session_app words)))) (value_is session_app words m (codes "program") o s h e is)
    ∙ ap (λ (x : Text). Some (session s.now x (first_of (codes "data") (matches_of session_app words)))) (value_is session_app words m (codes "script") p t h f it)
    ∙ ap (λ (x : Option Text). Some (session s.now t.now x)) (first_is session_app words m (codes "data") q h g)
