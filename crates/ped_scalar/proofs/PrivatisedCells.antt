-- Places in the same iterations have one cell of a scalar.
use Rattle.std.proofs.Common.{◌≡◌, ℕ, List, [], ◌∷◌, ◌++◌, Some, refl, sym, ap, ◌∙◌, if◌then◌else◌}
use Rattle.std.proofs.lemmas.List.{map-append}
use Rattle.ped_base.specs.Lists.{is_among}
use Rattle.ped_tree.specs.Tree.{Do, ProgramTree}
use Rattle.ped_tree.specs.Numbering.{statement_with}
use Rattle.ped_rules.specs.ped_store.specs.Cells.{Private, Iteration}
use Rattle.ped_rules.specs.ped_store.specs.Acts.{Turn, iterations_of}
use Rattle.ped_rules.specs.ped_eval.specs.Scopes.{Setting, Frame, Scope, turns_of, cell_of}
use Rattle.ped_rules.specs.ped_eval.specs.Loops.{inner_variables}
use Rattle.ped_rules.specs.ped_laws.specs.FlowRuns.Exits.{IsOneToOne, IsIterationOf, AreIterationsOf}

-- lists with one more item at the end
no_end : {X : Type 0} (x : X) (xs : List X) → [] ≡ xs ++ x ∷ [] → ⊥
no_end x [] e = absurd cc
no_end x (y ∷ ys) e = absurd cc

pub same_end : {X : Type 0} (xs ys : List X) (x y : X) → xs ++ x ∷ [] ≡ ys ++ y ∷ [] → (xs ≡ ys) × (x ≡ y)
same_end [] [] x y e = (refl, cc)
same_end [] (z ∷ zs) x y e = let f : [] ≡ zs ++ y ∷ [] = cc in absurd (no_end y zs f)
same_end (z ∷ zs) [] x y e = let f : [] ≡ zs ++ x ∷ [] = cc in absurd (no_end x zs f)
same_end (z ∷ zs) (w ∷ ws) x y e =
    let first : z ≡ w = cc in
    let rest : zs ++ x ∷ [] ≡ ws ++ y ∷ [] = cc in
    let r = same_end zs ws x y rest in
    (λ i. first i ∷ r.0 i, r.1)

-- the iteration of a turn
abbrev of_turn : Turn → Iteration
of_turn t = record { statement = t.statement; number = t.number }

path_behind : (ts : List Turn) (t : Turn) → iterations_of (ts ++ t ∷ []) ≡ iterations_of ts ++ of_turn t ∷ []
path_behind ts t = map-append of_turn ts (t ∷ [])

module _ (p : Setting) (t : ProgramTree) (one : IsOneToOne p.number) (x : List ℕ) where
  same_private : (f g : Frame) → IsIterationOf p t f → IsIterationOf p t g → f.turn.statement ≡ g.turn.statement → f.private ≡ g.private
  same_private f g hf hg e =
      let number : hf.number ≡ hg.number = one hf.number hg.number (sym hf.turn ∙ e ∙ hg.turn) in
      let both : Some (Do hf.loop.head hf.loop.body) ≡ Some (Do hg.loop.head hg.loop.body) = sym hf.loop.is ∙ ap (λ (m : ℕ). statement_with m t) number ∙ hg.loop.is in
      let head : hf.loop.head ≡ hg.loop.head = cc in
      let body : hf.loop.body ≡ hg.loop.body = cc in
      hf.private ∙ (λ i. if (head i).parallel then (head i).variable ∷ ((head i).private ++ inner_variables (head i).parallel (body i)) else (head i).private) ∙ sym hg.private

  -- in the same iterations the scalar stands for the same cell
  pub same_cells : (S T : Scope) → AreIterationsOf p t S → AreIterationsOf p t T → iterations_of (turns_of S) ≡ iterations_of (turns_of T) → cell_of S x ≡ cell_of T x
  same_cells [] [] h k e = refl
  same_cells [] (g ∷ gs) h k e = absurd (no_end (of_turn g.turn) (iterations_of (turns_of gs)) (e ∙ path_behind (turns_of gs) g.turn))
  same_cells (f ∷ fs) [] h k e = absurd (no_end (of_turn f.turn) (iterations_of (turns_of fs)) (sym e ∙ path_behind (turns_of fs) f.turn))
  same_cells (f ∷ fs) (g ∷ gs) h k e =
      let r = same_end (iterations_of (turns_of fs)) (iterations_of (turns_of gs)) (of_turn f.turn) (of_turn g.turn) (sym (path_behind (turns_of fs) f.turn) ∙ e ∙ path_behind (turns_of gs) g.turn) in
      let private : f.private ≡ g.private = same_private f g h.0 k.0 (ap (λ (i : Iteration). i.statement) r.1) in
      let outside : cell_of fs x ≡ cell_of gs x = same_cells fs gs h.1 k.1 r.0 in
      λ i. if is_among x (private i) then Private x (e i) else outside i
