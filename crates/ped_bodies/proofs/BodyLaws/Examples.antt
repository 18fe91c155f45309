-- Bodies of loops at work: copies of a private scalar in each step on loops, an expression that is put in, and a loop that is reversed, trip by trip.
use Rattle.std.proofs.Common.{◌≡◌, ◌≤◌, ℕ, ◌+◌, ◌-◌, List, [], ◌∷◌, refl, arith}
use Rattle.ped_steps.specs.ped_flow.specs.ped_tree.specs.Tree.{Int, Var, Element, Add, Sub, Mul, no_exprs, more_exprs, Head, StmtTrees, Assign, no_stmts, more_stmts}
use Rattle.ped_steps.specs.ped_symbolic.specs.Arithmetic.{times_of}
use Rattle.ped_steps.specs.ped_symbolic.specs.Substitution.{statements_substituted}
use Rattle.ped_steps.specs.ped_store.specs.Cells.{Private, Iteration}
use Rattle.ped_steps.specs.ped_store.specs.Stores.{Store}
use Rattle.ped_steps.specs.ped_store.specs.Acts.{iterations_of}
use Rattle.ped_steps.specs.ped_laws.specs.Acts.Sets.{nothing}
use Rattle.ped_steps.specs.ped_eval.specs.Scopes.{Setting, Scope, turns_of}
use Rattle.ped_steps.specs.ped_eval.specs.Evaluation.{Seen}
use Rattle.ped_steps.specs.ped_eval.specs.Loops.{Entered, value_in, copied_names, frame}
use Rattle.ped_steps.specs.ped_laws.specs.Runs.Replaying.{IsEntered}
use Rattle.ped_bodies.specs.Standing.{SettingsAgree}
use Rattle.ped_bodies.specs.Moving.{own_number, moved_behind, turned, transposed, in_strips, peeled, in_loop}
use Rattle.ped_bodies.specs.Trips.{OfTrips, entered_from, IsMadeOfTrips, DoTripsLikewise, MakesTripsLikewise}
use Rattle.ped_bodies.proofs.BodyLaws.Instances.{reversed_body}
use Rattle.ped_bodies.proofs.BodyLaws.TripsLikewise.{trips_made}

-- names of one letter
abbrev a : List ℕ
a = 65 ∷ []

abbrev i : List ℕ
i = 73 ∷ []

abbrev j : List ℕ
j = 74 ∷ []

abbrev t : List ℕ
t = 84 ∷ []

-- an iteration of the DO with this number
abbrev at : ℕ → ℕ → Iteration
at statement number = record { statement = statement; number = number }

-- T is private to the iterations of the DO with number 4, in that with number 3, inside the first iteration of the one with number 1: DO 3 has iterations 1 to 5 and is changed
abbrev round : List Iteration
round = at 1 1 ∷ []

-- in reverse, its second iteration is the fourth
reversed : moved_behind round (turned 3 5) (Private t (at 1 1 ∷ (at 3 2 ∷ (at 4 7 ∷ [])))) ≡ Private t (at 1 1 ∷ (at 3 4 ∷ (at 4 7 ∷ [])))
reversed = refl

-- interchanged with DO 4, which has the same iterations each time
interchanged : moved_behind round (transposed 3 4 (λ m n. n) (λ m n. m)) (Private t (at 1 1 ∷ (at 3 2 ∷ (at 4 7 ∷ [])))) ≡ Private t (at 1 1 ∷ (at 3 7 ∷ (at 4 2 ∷ [])))
interchanged = refl

-- in strips of two, its fourth iteration is the second in the second strip
stripped : moved_behind round (in_strips 3 8 2) (Private t (at 1 1 ∷ (at 3 4 ∷ (at 4 7 ∷ [])))) ≡ Private t (at 1 1 ∷ (at 3 2 ∷ (at 8 2 ∷ (at 4 7 ∷ []))))
stripped = refl

-- the first iteration peeled off, where the copies count five further; the second is then the first
peeled_off : moved_behind round (peeled 3 1 (λ n. n + 5)) (Private t (at 1 1 ∷ (at 3 1 ∷ (at 4 7 ∷ [])))) ≡ Private t (at 1 1 ∷ (at 9 7 ∷ []))
peeled_off = refl

left_behind : moved_behind round (peeled 3 1 (λ n. n + 5)) (Private t (at 1 1 ∷ (at 3 2 ∷ (at 4 7 ∷ [])))) ≡ Private t (at 1 1 ∷ (at 3 1 ∷ (at 4 7 ∷ [])))
left_behind = refl

-- distributed, in a loop that has come behind it
distributed : moved_behind round (in_loop 3 8) (Private t (at 1 1 ∷ (at 3 2 ∷ (at 4 7 ∷ [])))) ≡ Private t (at 1 1 ∷ (at 8 2 ∷ (at 4 7 ∷ [])))
distributed = refl

-- what belongs to the place itself stays, and so do copies of another iteration round it
of_the_place : moved_behind round (turned 3 5) (Private t round) ≡ Private t round
of_the_place = refl

elsewhere : moved_behind round (turned 3 5) (Private t (at 1 2 ∷ (at 3 2 ∷ []))) ≡ Private t (at 1 2 ∷ (at 3 2 ∷ []))
elsewhere = refl

-- A(I,J)=J in a loop that is skewed by twice I: J counts on, and what is put in counts back
abbrev body : StmtTrees
body = more_stmts (Assign (Element a (more_exprs (Var i) (more_exprs (Var j) no_exprs))) (Add (Var j) (Int 1))) no_stmts

skewed : statements_substituted j (Sub (Var j) (times_of 2 (Var i))) body
    ≡ more_stmts (Assign (Element a (more_exprs (Var i) (more_exprs (Sub (Var j) (Mul (Int 2) (Var i))) no_exprs))) (Add (Sub (Var j) (Mul (Int 2) (Var i))) (Int 1))) no_stmts
skewed = refl

-- a literal in place of J makes the sum anew
with_literal : statements_substituted j (Int 3) body ≡ more_stmts (Assign (Element a (more_exprs (Var i) (more_exprs (Int 3) no_exprs))) (Int 4)) no_stmts
with_literal = refl

-- a DO and its reversal: what a step that reverses a loop has to show of the new loop, so that its trips are those of the old one, last to first
module _ (p q : Setting) (d h : Head) (statements : StmtTrees) (l m : ℕ) (scope : Scope) (s : Store) (old : IsMadeOfTrips p d statements l scope s) (seen : List Seen) (z : Entered) (agree : SettingsAgree own_number p q statements (l + 1) (m + 1)) where
  abbrev e : Entered
  e = entered_from p d statements l scope s old.bounds

  abbrev from_last : ℕ → ℕ
  from_last k = e.count + 1 - k

  pub reversed_trips : IsEntered q m scope h statements seen z → z.number ≡ p.number l → z.count ≡ e.count → z.head.variable ≡ d.variable → copied_names z ≡ copied_names e → OfTrips z (λ k. value_in z k ≡ value_in e (from_last k))
      → MakesTripsLikewise (moved_behind (iterations_of (turns_of scope)) (turned (p.number l) e.count)) nothing own_number e scope old.trip from_last q h statements m scope seen z
  reversed_trips is number count variable copies values =
      trips_made p q d h statements statements l m scope scope s seen z (moved_behind (iterations_of (turns_of scope)) (turned (p.number l) e.count)) nothing own_number from_last old is trips
    where
      trips : DoTripsLikewise (moved_behind (iterations_of (turns_of scope)) (turned (p.number l) e.count)) nothing own_number p statements l scope e from_last q statements m scope z
      trips k from to = (
        omega (arith, count),
        omega (arith, from),
        reversed_body p q statements (l + 1) (m + 1) agree scope (p.number l) e.count (frame e (from_last k)) (frame z k) refl number (turned_back k from (omega (arith, count, to))) (variable, values k from to) copies,
      )
        where
          turned_back : (k : ℕ) → 1 ≤ k → k ≤ e.count → k ≡ e.count + 1 - from_last k
          turned_back k from to = omega arith
