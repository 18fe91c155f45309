-- Iterations that a run has come to are of the loops of a nest, one of each.
use Rattle.std.proofs.Common.{◌≡◌, ℕ, suc, ◌≤◌, List, [], ◌∷◌, ◌++◌, length, true, refl, sym, ap, ◌∙◌, subst, Option, Some}
use Rattle.std.specs.List.{list_all}
use Rattle.ped_flow.specs.ped_tree.specs.Tree.{Head, StmtTree, StmtTrees, Do, ProgramTree}
use Rattle.ped_flow.specs.ped_tree.specs.Nests.{Loop}
use Rattle.ped_flow.specs.ped_tree.specs.Numbering.{statement_with}
use Rattle.ped_flow.specs.ped_tree.specs.Grammar.Words.{is_name}
use Rattle.ped_graph.specs.ped_symbols.specs.Kinds.{kind_in}
use Rattle.ped_eval.specs.ped_store.specs.Cells.{Iteration}
use Rattle.ped_eval.specs.ped_store.specs.Stores.{Store}
use Rattle.ped_eval.specs.ped_store.specs.Acts.{Turn, iterations_of}
use Rattle.ped_graph.specs.ped_symbols.specs.RightUses.RightUses.{is_scalar}
use Rattle.ped_graph.specs.ped_symbols.specs.RightUses.RightLoops.{step_is_right}
use Rattle.ped_flow.specs.ped_affine.specs.Ranges.{Setting}
use Rattle.ped_eval.specs.Scopes.{Frame, Scope, turns_of}
use Rattle.ped_eval.specs.Outcomes.{setting_of}
use Rattle.ped_laws.specs.Conflicts.Reaching.{IsEntered, Reached}

-- an iteration of this DO of the program
pub record IsOf (t : ProgramTree) (l : Loop) (i : Turn) : Type 0 where
  pub statement : i.statement ≡ l.number
  pub body : StmtTrees
  pub stands : statement_with l.number t ≡ Some (Do l.head body)
  pub step : step_is_right (setting_of t).constants l.head.step ≡ true
  pub from : 1 ≤ i.number
  pub parallel : i.parallel ≡ l.head.parallel
  pub private : list_all (is_scalar (kind_in t)) l.head.private ≡ true
  pub named : list_all is_name l.head.private ≡ true

-- each iteration is one of the DO at its level, and there are as many of each
abbrev pub AreOf : ProgramTree → List Loop → List Turn → Type 0
AreOf t (l ∷ ls) (i ∷ is) = IsOf t l i × AreOf t ls is
AreOf t [] [] = Unit {0}
AreOf t [] (i ∷ is) = ⊥
AreOf t (l ∷ ls) [] = ⊥

are_more : (t : ProgramTree) (ls : List Loop) (is : List Turn) (l : Loop) (i : Turn) → AreOf t ls is → IsOf t l i → AreOf t (ls ++ l ∷ []) (is ++ i ∷ [])
are_more t [] [] l i h k = (k, tt)
are_more t [] (j ∷ is) l i h k = absurd h
are_more t (m ∷ ls) [] l i h k = absurd h
are_more t (m ∷ ls) (j ∷ is) l i h k = (h.0, are_more t ls is l i h.1 k)

pub is_of : (t : ProgramTree) (s : Setting) (first : Store) (outer : Scope) (l : Loop) (f : Frame) → IsEntered t s first outer l f → IsOf t l f.turn
is_of t s first outer l f e = record {
  statement = ap (λ (g : Frame). g.turn.statement) e.is;
  body = e.body;
  stands = e.stands;
  step = e.step;
  from = subst (λ (k : ℕ). 1 ≤ k) (sym (ap (λ (g : Frame). g.turn.number) e.is)) e.from;
  parallel = ap (λ (g : Frame). g.turn.parallel) e.is;
  private = e.private;
  named = e.named;
}

-- the iterations that a run has come to are of the loops of the nest
pub reached_are : (t : ProgramTree) (s : Setting) (first : Store) (nest : List Loop) (scope : Scope) → Reached t s first nest scope → AreOf t nest (turns_of scope)
reached_are t s first nest [] h = subst (λ (ns : List Loop). AreOf t ns []) (sym h) tt
reached_are t s first nest (f ∷ outer) h =
    subst (λ (ns : List Loop). AreOf t ns (turns_of outer ++ f.turn ∷ [])) (sym h.2)
    (are_more t h.0 (turns_of outer) h.1 f.turn (reached_are t s first h.0 outer h.4) (is_of t s first outer h.1 f h.3))

-- as many loops as iterations
pub same_depth : (t : ProgramTree) (ls : List Loop) (is : List Turn) → AreOf t ls is → length ls ≡ length is
same_depth t [] [] h = refl
same_depth t [] (i ∷ is) h = absurd h
same_depth t (l ∷ ls) [] h = absurd h
same_depth t (l ∷ ls) (i ∷ is) h = ap suc (same_depth t ls is h.1)

-- the head of a DO, and else this
abbrev head_or : Head → Option StmtTree → Head
head_or other (Some (Do h body)) = h
head_or other s = other

-- one statement is one loop
one_loop : (t : ProgramTree) (l m : Loop) (i j : Turn) → IsOf t l i → IsOf t m j → i.statement ≡ j.statement → l ≡ m
one_loop t l m i j h k e =
    let number : l.number ≡ m.number = sym h.statement ∙ e ∙ k.statement in
    let same : l.head ≡ m.head = ap (head_or l.head) (sym h.stands ∙ ap (λ (n : ℕ). statement_with n t) number ∙ k.stands) in
    λ i. record { number = number i; head = same i }

pub first_iteration : (i j : Iteration) (is js : List Iteration) → i ∷ is ≡ j ∷ js → i ≡ j
first_iteration i j is js e = cc

pub more_iterations : (i j : Iteration) (is js : List Iteration) → i ∷ is ≡ j ∷ js → is ≡ js
more_iterations i j is js e = cc

-- the same iterations are of the same loops
pub one_nest : (t : ProgramTree) (ls ms : List Loop) (is js : List Turn) → AreOf t ls is → AreOf t ms js → iterations_of is ≡ iterations_of js → ls ≡ ms
one_nest t [] [] [] js h k e = refl
one_nest t [] (m ∷ ms) [] [] h k e = absurd k
one_nest t [] (m ∷ ms) [] (j ∷ js) h k e = absurd cc
one_nest t [] ms (i ∷ is) js h k e = absurd h
one_nest t (l ∷ ls) ms [] js h k e = absurd h
one_nest t (l ∷ ls) [] (i ∷ is) [] h k e = absurd cc
one_nest t (l ∷ ls) [] (i ∷ is) (j ∷ js) h k e = absurd k
one_nest t (l ∷ ls) (m ∷ ms) (i ∷ is) [] h k e = absurd k
one_nest t (l ∷ ls) (m ∷ ms) (i ∷ is) (j ∷ js) h k e =
    let here = first_iteration (record { statement = i.statement; number = i.number }) (record { statement = j.statement; number = j.number }) (iterations_of is) (iterations_of js) e in
    let more = more_iterations (record { statement = i.statement; number = i.number }) (record { statement = j.statement; number = j.number }) (iterations_of is) (iterations_of js) e in
    let first = one_loop t l m i j h.0 k.0 (ap (λ (z : Iteration). z.statement) here) in
    let rest = one_nest t ls ms is js h.1 k.1 more in
    λ z. first z ∷ rest z

-- an iteration among others is of one of the loops
pub one_of : (t : ProgramTree) (ls : List Loop) (is : List Turn) (i : Turn) (more : List Turn) → AreOf t ls (is ++ i ∷ more) → (l : Loop) × IsOf t l i
one_of t [] [] i more h = absurd h
one_of t [] (j ∷ is) i more h = absurd h
one_of t (l ∷ ls) [] i more h = (l, h.0)
one_of t (l ∷ ls) (j ∷ is) i more h = one_of t ls is i more h.1
