-- Whether bounds are plain, as the code finds it out part by part.
use Rattle.std.proofs.Common.{◌≡◌, ◌⊎◌, ℕ, List, [], ◌∷◌, Bool, true, false, not, ◌&&◌, ◌||◌, Option, Some, None, is_some, refl, sym, ap, ◌∙◌, inl, inr}
use Rattle.std.specs.Prelude.{◌↔◌}
use Rattle.std.proofs.lemmas.Bool.{or_cases, and_parts, not-true}
use Rattle.ped_base.specs.Lists.{is_among}
use Rattle.ped_tree.specs.Nests.{Loop}
use Rattle.ped_tree.specs.Tree.{ExprTree}
use Rattle.ped_rules.proofs.SameIntervals.{same_in_loops}
use Rattle.ped_affine.specs.Arguments.{setting_of}
use Rattle.ped_affine.specs.PairViews.{heads_of}
use Rattle.ped_affine.specs.Ranges as ranges
use Rattle.ped_affine.specs.Ranges.{Setting, Around, interval_of, loop_range, inside}
use Rattle.ped_loop_runs.specs.ped_flow.specs.PlainBounds.{nest_round, setting_round, around_with, IsFixed, IsPlainlyBuilt, IsPlain}
use Rattle.ped_loop_runs.specs.ped_flow.specs.Questions.{IsAssignedBefore}
use Rattle.ped_refs.specs.Loops.{nest_of}
use Rattle.ped_rules.specs.CodePlain.{tree_at, values_at, IsPlaced, HasInterval}
use Rattle.ped_rules.specs.declared.bounds.Place.{Place}

-- one of two, and both, by their tests
or_true_left : (a b : Bool) → a ≡ true → (a || b) ≡ true
or_true_left a b e = ap (λ (c : Bool). c || b) e

or_true_right : (a b : Bool) → b ≡ true → (a || b) ≡ true
or_true_right true b e = refl
or_true_right false b e = e

and_true : (a b : Bool) → a ≡ true → b ≡ true → (a && b) ≡ true
and_true a b e f = ap (λ (c : Bool). c && b) e ∙ f

pub of_either : {P Q : Type 0} (a b r : Bool) → r ≡ (a || b) → ((a ≡ true) ↔ P) → ((b ≡ true) ↔ Q) → ((r ≡ true) ↔ (P ⊎ Q))
of_either {P} {Q} a b r is f g = (to, from)
  where
    to : r ≡ true → P ⊎ Q
    to e = elim (or_cases a b (sym is ∙ e)) [ inl x ↦ inl (f.0 x) | inr y ↦ inr (g.0 y) ]

    from : P ⊎ Q → r ≡ true
    from (inl p) = is ∙ or_true_left a b (f.1 p)
    from (inr q) = is ∙ or_true_right a b (g.1 q)

pub of_both : {P Q : Type 0} (a b r : Bool) → r ≡ (a && b) → ((a ≡ true) ↔ P) → ((b ≡ true) ↔ Q) → ((r ≡ true) ↔ (P × Q))
of_both {P} {Q} a b r is f g = (to, from)
  where
    to : r ≡ true → P × Q
    to e = let parts = and_parts a b (sym is ∙ e) in (f.0 parts.0, g.0 parts.1)

    from : P × Q → r ≡ true
    from pq = is ∙ and_true a b (f.1 pq.0) (g.1 pq.1)

-- DO loops round a bound, by their heads
pub same_around : (s : Setting) (around : Around) (nest : List Loop) → ranges.around_with s around (heads_of nest) ≡ around_with s around nest
same_around s around [] = refl
same_around s around (l ∷ ls) = same_around s (inside around l.head (loop_range s around l.head)) ls

-- what may be there is there
pub is_there : {X : Type 0} (o q : Option X) (r : Bool) → r ≡ is_some o → o ≡ q → ((r ≡ true) ↔ (q ≡ None → ⊥))
is_there {X} o q r is same = (λ e none. there o (sym is ∙ e) (same ∙ none), λ some. is ∙ found o (λ none. some (sym same ∙ none)))
  where
    there : (z : Option X) → is_some z ≡ true → z ≡ None → ⊥
    there None e none = absurd cc
    there (Some x) e none = absurd cc

    found : (z : Option X) → (z ≡ None → ⊥) → is_some z ≡ true
    found None h = absurd (h refl)
    found (Some x) h = refl

-- where the code stands at a bound
module _ (p : Place) (placed : IsPlaced p) where
  abbrev s : Setting
  s = setting_round (values_at p) (tree_at p) p.number

  -- the intervals are those of the program
  same_near : (e : ExprTree) → interval_of (setting_of p.setting.now) (ranges.around_with (setting_of p.setting.now) [] (heads_of (nest_of p.round.now))) e ≡ interval_of s (around_with s [] (nest_round (tree_at p) p.number)) e
  same_near e =
      same_in_loops (setting_of p.setting.now) s (record { constants = refl; variables = placed.variables }) (heads_of (nest_of p.round.now)) e
      ∙ ap (λ (nest : List Loop). interval_of s (ranges.around_with s [] (heads_of nest)) e) placed.round
      ∙ ap (λ (around : Around). interval_of s around e) (same_around s [] (nest_round (tree_at p) p.number))

  pub plain_is : (e : ExprTree) (a b r : Bool) → r ≡ (a && b) → ((a ≡ true) ↔ IsPlainlyBuilt (values_at p) (tree_at p) p.number e) → ((b ≡ true) ↔ HasInterval p e) → ((r ≡ true) ↔ IsPlain (values_at p) (tree_at p) p.number e)
  plain_is e a b r is f g = (to, from)
    where
      to : r ≡ true → IsPlain (values_at p) (tree_at p) p.number e
      to h = let parts = and_parts a b (sym is ∙ h) in record { built = f.0 parts.0; near = λ none. g.0 parts.1 (same_near e ∙ none) }

      from : IsPlain (values_at p) (tree_at p) p.number e → r ≡ true
      from plain = is ∙ and_true a b (f.1 plain.built) (g.1 (λ none. plain.near (sym (same_near e) ∙ none)))

  pub fixed_is : (x : List ℕ) (k r : Bool) → k ≡ (not (is_among x p.setting.now.assigned.now) && not (is_among x p.setting.now.loop_variables.now)) → k ≡ true → ((r ≡ true) ↔ IsAssignedBefore (tree_at p) p.number x) → ((r ≡ true) ↔ IsFixed (values_at p) (tree_at p) p.number x)
  fixed_is x k r is kept f = (to, λ fixed. f.1 fixed.before)
    where
      parts : (not (is_among x p.setting.now.assigned.now) ≡ true) × (not (is_among x p.setting.now.loop_variables.now) ≡ true)
      parts = and_parts (not (is_among x p.setting.now.assigned.now)) (not (is_among x p.setting.now.loop_variables.now)) (sym is ∙ kept)

      to : r ≡ true → IsFixed (values_at p) (tree_at p) p.number x
      to e = record { before = f.0 e; kept = sym (placed.assigned x) ∙ not-true (is_among x p.setting.now.assigned.now) parts.0; other = sym (placed.variables x) ∙ not-true (is_among x p.setting.now.loop_variables.now) parts.1 }

  pub not_fixed : (x : List ℕ) (k : Bool) → k ≡ (not (is_among x p.setting.now.assigned.now) && not (is_among x p.setting.now.loop_variables.now)) → k ≡ false → ((false ≡ true) ↔ IsFixed (values_at p) (tree_at p) p.number x)
  not_fixed x k is unkept = (λ e. absurd cc, λ fixed. sym unkept ∙ is ∙ and_true (not (is_among x p.setting.now.assigned.now)) (not (is_among x p.setting.now.loop_variables.now)) (ap not (placed.assigned x ∙ fixed.kept)) (ap not (placed.variables x ∙ fixed.other)))
