-- What is shown of the present program of a session.
use Rattle.std.proofs.Common.{◌≡◌, ℕ, List, refl, ap, true, false, Option, Some, None, is_some}
use Rattle.std.specs.Prelude.{MatchOption}
use Rattle.ped_tree.specs.Tree.{StmtTree, ProgramTree}
use Rattle.ped_tree.specs.Numbering.{statement_with}
use Rattle.ped_versions.specs.ped_valid.specs.Validity.{ReadsValid}
use Rattle.ped_transformations.specs.ped_graph.specs.DependencePane.{IsDependencePaneOf}
use Rattle.ped_script.specs.ped_certificates.specs.declared.claims.Position.{Position}
use Rattle.ped_script.specs.ped_certificates.specs.declared.claims.Sign.{Sign}
use Rattle.ped_transformations.specs.ped_evidence.specs.SystemTexts.{system_text}
use Rattle.ped_transformations.specs.Advice.{IsAdvice}
use Rattle.ped_script.specs.declared.kinds.Query.{Query}
use Rattle.ped_script.specs.declared.kinds.Query.TheVariants.{Source, Deps, Show, Calls, Print, Advise, System, Tested}
use Rattle.ped_session.specs.declared.replies.Refusal.TheVariants.{NoSuchStatement, NoSuchPair}
use Rattle.ped_session.specs.declared.replies.Reply.{Reply}
use Rattle.ped_session.specs.declared.replies.Reply.TheVariants.{Shown, Refused}
use Rattle.ped_versions.specs.States.{State}
use Rattle.ped_session.specs.Steps.{Refuses, Prints, Shows, ShowsOf, ShowsStatement, ShowsSystem, ShowsAnswer}
use Rattle.ped_session.specs.Scripts.{tests_of}

-- what is so of the present program
pub shown : (IsSo : ProgramTree → List ℕ → Type 0) (t : ProgramTree) (s : State) (bytes : List ℕ) → ReadsValid s.present t → IsSo t bytes → Shows IsSo s (Shown bytes) s
shown IsSo t s bytes reads so = record { tree = t; reads = reads; bytes = bytes; so = so; prints = (refl, refl) }

module _ (IsSo : ProgramTree → List ℕ → Type 0) where
  refused_by : (o : Option StmtTree) (s : State) → is_some o ≡ false → ShowsOf IsSo o s (Refused NoSuchStatement) s
  refused_by None s h = (refl, refl)
  refused_by (Some x) s h = absurd cc

  shown_by : (o : Option StmtTree) (s : State) (bytes : List ℕ) → is_some o ≡ true → Shows IsSo s (Shown bytes) s → ShowsOf IsSo o s (Shown bytes) s
  shown_by None s bytes h shows = absurd cc
  shown_by (Some x) s bytes h shows = shows

  -- a statement that the present program hasn't
  pub refused_statement : (t : ProgramTree) (s : State) (number : ℕ)
      → ReadsValid s.present t → is_some (statement_with number t) ≡ false → ShowsStatement IsSo number s (Refused NoSuchStatement) s
  refused_statement t s number reads none = record { tree = t; reads = reads; shows = refused_by (statement_with number t) s none }

  -- a statement that it has
  pub shown_statement : (t : ProgramTree) (s : State) (number : ℕ) (bytes : List ℕ)
      → ReadsValid s.present t → is_some (statement_with number t) ≡ true → IsSo t bytes → ShowsStatement IsSo number s (Shown bytes) s
  shown_statement t s number bytes reads some so =
      record { tree = t; reads = reads; shows = shown_by (statement_with number t) s bytes some (shown IsSo t s bytes reads so) }

-- the system of a pair of the present program, where it is one
printed_by : (o : Option (List ℕ)) (s : State) (bytes : List ℕ) → o ≡ Some bytes → MatchOption o (Refuses NoSuchPair s (Shown bytes) s) (λ text. Prints text s (Shown bytes) s)
printed_by None s bytes e = absurd cc
printed_by (Some text) s bytes e = let found : bytes ≡ text = cc in (ap Shown found, refl)

none_by : (o : Option (List ℕ)) (s : State) → o ≡ None → MatchOption o (Refuses NoSuchPair s (Refused NoSuchPair) s) (λ text. Prints text s (Refused NoSuchPair) s)
none_by None s e = (refl, refl)
none_by (Some text) s e = absurd cc

module _ (t : ProgramTree) (s : State) (reads : ReadsValid s.present t) (source sink : Position) (pattern : List Sign) where
  pub shown_system : (bytes : List ℕ) → system_text t source sink pattern ≡ Some bytes → ShowsSystem source sink pattern s (Shown bytes) s
  shown_system bytes e = record { tree = t; reads = reads; shows = printed_by (system_text t source sink pattern) s bytes e }

  pub refused_system : system_text t source sink pattern ≡ None → ShowsSystem source sink pattern s (Refused NoSuchPair) s
  refused_system e = record { tree = t; reads = reads; shows = none_by (system_text t source sink pattern) s e }

-- showing tests nothing
untested_shows : (IsSo : ProgramTree → List ℕ → Type 0) (s next : State) (reply : Reply) (last : State) → Shows IsSo s reply next → tests_of reply last ≡ 0
untested_shows IsSo s next reply last shows = ap (λ (r : Reply). tests_of r last) shows.prints.0

untested_by : (IsSo : ProgramTree → List ℕ → Type 0) (o : Option StmtTree) (s next : State) (reply : Reply) (last : State) → ShowsOf IsSo o s reply next → tests_of reply last ≡ 0
untested_by IsSo None s next reply last refuses = ap (λ (r : Reply). tests_of r last) refuses.0
untested_by IsSo (Some x) s next reply last shows = untested_shows IsSo s next reply last shows

untested_pair : (o : Option (List ℕ)) (s next : State) (reply : Reply) (last : State) → MatchOption o (Refuses NoSuchPair s reply next) (λ text. Prints text s reply next) → tests_of reply last ≡ 0
untested_pair None s next reply last h = ap (λ (r : Reply). tests_of r last) h.0
untested_pair (Some text) s next reply last h = ap (λ (r : Reply). tests_of r last) h.0

pub untested_answer : (query : Query) (s next : State) (reply : Reply) (last : State) → ShowsAnswer query s reply next → tests_of reply last ≡ 0
untested_answer Source s next reply last h = untested_shows _ s next reply last h
untested_answer (Deps None) s next reply last h = untested_shows _ s next reply last h
untested_answer (Deps (Some number)) s next reply last h = untested_by (λ t. IsDependencePaneOf t (Some number)) (statement_with number h.tree) s next reply last h.shows
untested_answer Show s next reply last h = untested_shows _ s next reply last h
untested_answer Calls s next reply last h = untested_shows _ s next reply last h
untested_answer Print s next reply last h = ap (λ (r : Reply). tests_of r last) h.0
untested_answer (Advise number) s next reply last h = untested_by (λ t. IsAdvice t number) (statement_with number h.tree) s next reply last h.shows
untested_answer (System source sink pattern) s next reply last h = untested_pair (system_text h.tree source sink pattern) s next reply last h.shows
untested_answer Tested s next reply last h = ap (λ (r : Reply). tests_of r last) h.0
