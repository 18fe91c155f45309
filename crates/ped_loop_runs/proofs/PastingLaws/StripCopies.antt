-- Other copies at work: a strip brings the variable W into a PARALLEL DO round its loop, so that this has a copy of W in each iteration.
use Rattle.std.proofs.Common.{◌≡◌, ℕ, List, [], ◌∷◌, Bool, true, false, ◌⊎◌, inl, inr, refl, ap, subst, ◌∙◌, pos}
use Rattle.std.specs.Prelude.{codes, ◌||◌}
use Rattle.std.proofs.lemmas.Bool.{both_ways}
use Rattle.ped_bodies.specs.ped_flow.specs.ped_tree.specs.Tree.{Int, Head, Do, StmtTrees, no_stmts, more_stmts}
use Rattle.ped_bodies.specs.ped_flow.specs.ped_tree.specs.NamesIn.{all_loop_variables}
use Rattle.ped_bodies.specs.ped_flow.specs.ped_base.proofs.NameEquality.{same_is}
use Rattle.ped_bodies.specs.ped_flow.specs.ped_base.specs.Lists.{is_same_text, is_among}
use Rattle.ped_bodies.specs.ped_store.specs.Cells.{Cell, Scalar, Private}
use Rattle.ped_bodies.specs.ped_eval.specs.Scopes.{Setting, Scope, cell_of}
use Rattle.ped_bodies.specs.ped_eval.specs.Loops.{Limits, entered_with, frame}
use Rattle.ped_bodies.specs.ped_steps.specs.Runs.Gaps.{Gap, at_front, filled}
use Rattle.ped_bodies.specs.ped_steps.proofs.RunLaws.Swapped.{cell_name, named_so}
use Rattle.ped_loop_runs.specs.OtherCopies.{AreNear, HasOtherCopies}
use Rattle.ped_loop_runs.proofs.PastingLaws.NearPlaces.{near_more, near_itself}

abbrev i : List ℕ
i = codes "I"

abbrev k : List ℕ
k = codes "K"

abbrev w : List ℕ
w = codes "W"

abbrev head : Bool → List ℕ → Head
head parallel x = record { variable = x; first = Int 1; last = Int 2; step = Int 1; parallel = parallel; private = []; rejected = [] }

-- DO I=1,2
abbrev old : StmtTrees
old = more_stmts (Do (head false i) no_stmts) no_stmts

-- DO W=1,2; DO I=1,2
abbrev new : StmtTrees
new = more_stmts (Do (head false w) old) no_stmts

abbrev gap : Gap
gap = at_front no_stmts

abbrev limits : Limits
limits = record { first = pos 1; last = pos 2 }

-- iteration n of PARALLEL DO K=1,2 round these statements
abbrev round : Setting → StmtTrees → ℕ → Scope
round p body n = frame (entered_with p 1 (head true k) body [] limits) n ∷ []

abbrev names : List (List ℕ)
names = w ∷ []

-- all cells of W stand apart
abbrev apart : Cell → Bool
apart c = is_among (cell_name c) names

stand_apart : (S : Scope) (x : List ℕ) → is_among x names ≡ true → apart (cell_of S x) ≡ true
stand_apart S x e = ap (λ (y : List ℕ). is_among y names) (named_so S x) ∙ e

-- no DO has the variable W before the strip
not_there : (x : List ℕ) → is_among x names ≡ true → is_among x (all_loop_variables (filled gap old)) ≡ true → ⊥
not_there x e there = both_ways (is_same_text w i) refl (subst (λ (y : List ℕ). is_same_text y i ≡ true) (same_is x w (one (is_same_text x w) e)) (one (is_same_text x i) there))
  where
    one : (b : Bool) → b || false ≡ true → b ≡ true
    one true h = refl
    one false h = h

-- so the PARALLEL DO has other copies of W alone
other_copies : (p : Setting) → HasOtherCopies names apart p old new 1 (head true k) gap
other_copies p = record { variable = refl; private = λ x e. absurd cc; copies = λ x e. inr (λ S seen m n. stand_apart (frame (entered_with p 1 (head true k) (filled gap old) seen m) n ∷ S) x e); went = λ x e there stands. absurd (not_there x e there) }

module _ (p : Setting) (n : ℕ) where
  -- W stands for its own cell in the old program, and for a copy in the new one; I stands for one copy in both
  own : cell_of (round p old n) w ≡ Scalar w
  own = refl

  copy : cell_of (round p new n) w ≡ Private w ((record { statement = p.number 1; number = n }) ∷ [])
  copy = refl

  same_copy : cell_of (round p new n) i ≡ cell_of (round p old n) i
  same_copy = refl

  -- the places are near
  near : AreNear names apart (round p old n) (round p new n)
  near = near_more names apart [] [] (near_itself names apart []) (frame (entered_with p 1 (head true k) old [] limits) n) (frame (entered_with p 1 (head true k) new [] limits) n) refl refl (λ x. go x (is_among x names) refl)
    where
      go : (x : List ℕ) (b : Bool) → is_among x names ≡ b
          → (is_among x (k ∷ i ∷ w ∷ []) ≡ is_among x (k ∷ i ∷ [])) ⊎ ((is_among x names ≡ true) × (apart (cell_of (round p old n) x) ≡ true))
      go x true e = inr (e, stand_apart (round p old n) x e)
      go x false e = inl (ap (λ (b : Bool). is_same_text x k || (is_same_text x i || b)) e)
