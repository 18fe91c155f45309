-- Iterations whose values lie in the ranges of their loops (ANSI X3.9-1978, section 11.10.3; this project).
use Rattle.std.specs.Prelude.{◌≡◌, ℕ, ℤ, List, [], ◌∷◌, Option, Some, None}
use Rattle.std.specs.Map.{lookup}
use Rattle.ped_flow.specs.ped_base.specs.Lists.{is_same_text}
use Rattle.ped_graph.specs.ped_views.specs.declared.intervals.Interval.{Interval}
use Rattle.ped_graph.specs.ped_views.specs.Intervals.{Lies}
use Rattle.ped_graph.specs.ped_views.specs.Views.{Range}
use Rattle.ped_graph.specs.ped_views.specs.Excluded.{InRange}
use Rattle.ped_flow.specs.ped_tree.specs.Nests.{Loop}
use Rattle.ped_flow.specs.ped_tree.specs.Tree.{Head}
use Rattle.ped_eval.specs.ped_store.specs.Acts.{Turn}
use Rattle.ped_eval.specs.Scopes as run
use Rattle.ped_eval.specs.Scopes.{Scope, turns_of, index_value}
use Rattle.ped_flow.specs.ped_affine.specs.Ranges.{Setting, Around, around_with, nest_ranges}
use Rattle.ped_flow.specs.ped_affine.specs.PairViews.{heads_of}

-- each iteration is one of the DO at its level, and its value lies in the range at that level; there are as many of each (this project)
abbrev pub AreIterations : (ℕ → ℕ) → List Loop → List Range → List Turn → Type 0
AreIterations number (l ∷ ls) (r ∷ rs) (t ∷ ts) = (t.statement ≡ number l.number) × InRange r t.value × AreIterations number ls rs ts
AreIterations number [] [] [] = Unit {0}
AreIterations number [] [] (t ∷ ts) = ⊥
AreIterations number [] (r ∷ rs) ts = ⊥
AreIterations number (l ∷ ls) [] ts = ⊥
AreIterations number (l ∷ ls) (r ∷ rs) [] = ⊥

-- in a place with these iterations, each of the loops of this nest, outermost first, is at a value in its range (ANSI X3.9-1978, section 11.10.3; this project)
abbrev pub StandsIn : Setting → (ℕ → ℕ) → List Loop → List Turn → Type 0
StandsIn s number nest turns = AreIterations number nest (nest_ranges s (heads_of nest)) turns

-- a value and an interval that holds it, or neither (plain words)
abbrev pub Match : Option ℤ → Option Interval → Type 0
Match (Some n) (Some r) = Lies n r
Match None None = Unit {0}
Match (Some n) None = ⊥
Match None (Some r) = ⊥

-- the loops around are those of the iterations, by their variables: each name that is the variable of one has a value in its interval, and no other name has either (this project)
abbrev pub Surround : Around → Scope → Type 0
Surround around scope = (x : List ℕ) → Match (index_value scope x) (lookup (is_same_text x) around)

-- a place of a run in a nest: its iterations are those of the nest's loops, outermost first, each at a value in its range; and they give the values of the variables of these loops, and of no other (ANSI X3.9-1978, section 11.10; this project)
pub record IsInNest (s : Setting) (p : run.Setting) (nest : List Loop) (scope : Scope) : Type 0 where
  pub iterations : StandsIn s p.number nest (turns_of scope)
  pub variables : Surround (around_with s [] (heads_of nest)) scope

-- the loop of a DO with this number (plain words)
abbrev pub loop : ℕ → Head → Loop
loop n h = record { number = n; head = h }
