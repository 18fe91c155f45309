-- Places in nests of loops.
use Rattle.std.proofs.Common.{◌≡◌, ℕ, ◌≤◌, List, [], ◌∷◌, ◌++◌, Bool, true, false, cond, not, refl, sym, ap, ◌∙◌, subst, arith, ℤ, Option, Some, None, Ok, if◌then◌else◌}
use Rattle.std.specs.Map.{lookup}
use Rattle.std.proofs.lemmas.Int.{clamps}
use Rattle.ped_flow.specs.ped_base.specs.Lists.{is_same_text, is_among}
use Rattle.ped_graph.specs.ped_views.specs.declared.intervals.Interval.{Interval}
use Rattle.ped_graph.specs.ped_views.specs.Intervals.{Lies}
use Rattle.ped_graph.specs.ped_views.specs.Views.{Range}
use Rattle.ped_graph.specs.ped_views.specs.Excluded.{InRange}
use Rattle.ped_graph.specs.ped_views.proofs.Products.{linear}
use Rattle.ped_flow.specs.ped_tree.specs.Tree.{Head, StmtTrees}
use Rattle.ped_flow.specs.ped_tree.specs.Nests.{Loop}
use Rattle.ped_eval.specs.ped_store.specs.Cells.{Element, Private}
use Rattle.ped_eval.specs.ped_store.specs.Stores.{Store, Number}
use Rattle.ped_eval.specs.ped_store.specs.Acts.{Turn, iterations_of}
use Rattle.ped_graph.specs.ped_symbols.specs.RightUses.RightLoops.{step_is_right}
use Rattle.ped_eval.specs.Scopes as run
use Rattle.ped_eval.specs.Scopes.{Scope, turns_of, names_in, cell_of, index_value}
use Rattle.ped_eval.specs.Evaluation.{Seen}
use Rattle.ped_eval.specs.Loops.{Limits, limits, entered_with, frame, value_in}
use Rattle.ped_flow.specs.ped_affine.specs.Ranges.{Setting, Around, any_value, variable_by, loop_range, between_ends, inside, ranges_inside}
use Rattle.ped_flow.specs.ped_affine.specs.PairViews.{heads_of}
use Rattle.ped_laws.specs.Covering.Within.{AreWithin, is_storing, HoldsStorable}
use Rattle.ped_laws.specs.Covering.Nested.{AreIterations, Match, Surround, IsInNest, loop}
use Rattle.ped_flow.specs.ped_affine.specs.Ranges.{around_with}
use Rattle.ped_laws.proofs.CoveringLaws.Comings.{some_one}
use Rattle.ped_laws.proofs.CoveringLaws.Parts.{storable_lies}
use Rattle.ped_laws.proofs.CoveringLaws.LoopRanges.{value_in_range}
use Rattle.ped_laws.proofs.CoveringLaws.Texts.{text_is}

-- the cell of a scalar stores what the scalar does
stores : (names : List (List ℕ)) (scope : Scope) (x : List ℕ) → is_storing names (cell_of scope x) ≡ not (is_among x names)
stores names [] x = refl
stores names (f ∷ fs) x = go (is_among x f.private) (stores names fs x)
  where
    go : (b : Bool) → is_storing names (cell_of fs x) ≡ not (is_among x names) → is_storing names (if b then Private x (iterations_of (turns_of (f ∷ fs))) else cell_of fs x) ≡ not (is_among x names)
    go true h = refl
    go false h = h

module _ (s : Setting) (around : Around) (p : run.Setting) (scope : Scope) (u : Store) (same : p.constants ≡ s.constants) (round : Surround around scope) (held : HoldsStorable s.loop_variables u) where
  index_lies : (x : List ℕ) (n : ℤ) (r : Interval) (o : Option ℤ) (q : Option Interval) → Match o q → o ≡ Some n → variable_by q (is_among x s.loop_variables) ≡ Some r → Lies n r
  index_lies x n r (Some m) (Some t) w e h = subst (λ (z : Interval). Lies n z) (some_one t r h) (subst (λ (z : ℤ). Lies z t) (some_one m n e) w)
  index_lies x n r (Some m) None w e h = absurd w
  index_lies x n r None q w e h = absurd cc

  scalar_lies : (x : List ℕ) (n : ℤ) (r : Interval) (o : Option ℤ) (q : Option Interval) (b : Bool) → is_among x s.loop_variables ≡ b → Match o q → o ≡ None → u (cell_of scope x) ≡ Number n → variable_by q b ≡ Some r → Lies n r
  scalar_lies x n r (Some m) q b a w e c h = absurd cc
  scalar_lies x n r None (Some t) b a w e c h = absurd w
  scalar_lies x n r None None true a w e c h = absurd cc
  scalar_lies x n r None None false a w e c h = subst (λ (z : Interval). Lies n z) (some_one any_value r h) (storable_lies n (held (cell_of scope x) n (stores s.loop_variables scope x ∙ ap not a) c))

  pub within : AreWithin s around (names_in p scope) u
  within = record {
    constants = same;
    indices = λ x n r e h. index_lies x n r (index_value scope x) (lookup (is_same_text x) around) (round x) e h;
    scalars = λ x n r e c h. scalar_lies x n r (index_value scope x) (lookup (is_same_text x) around) (is_among x s.loop_variables) refl (round x) e c h;
    elements = λ x js n c. held (Element x js) n refl c;
  }

-- the first, where it is there, or else the other
abbrev or_other : Option Interval → Option Interval → Option Interval
or_other (Some r) o = Some r
or_other None o = o

lookup_last : (t : List ℕ → Bool) (es : Around) (v : List ℕ) (r : Interval) → lookup t (es ++ (v, r) ∷ []) ≡ or_other (lookup t es) (cond (t v) (Some r) None)
lookup_last t [] v r = refl
lookup_last t (e ∷ es) v r = go (t e.0) (lookup_last t es v r)
  where
    go : (b : Bool) → lookup t (es ++ (v, r) ∷ []) ≡ or_other (lookup t es) (cond (t v) (Some r) None) → cond b (Some e.1) (lookup t (es ++ (v, r) ∷ [])) ≡ or_other (cond b (Some e.1) (lookup t es)) (cond (t v) (Some r) None)
    go true h = refl
    go false h = h

match_more : (b : Bool) (o : Option ℤ) (q : Option Interval) (n : ℤ) (r : Interval) → Match o q → (b ≡ true → o ≡ None) → Lies n r → Match (if b then Some n else o) (or_other q (cond b (Some r) None))
match_more true None None n r m h l = l
match_more true None (Some t) n r m h l = absurd m
match_more true (Some k) q n r m h l = let e = h refl in absurd cc
match_more false (Some k) (Some t) n r m h l = m
match_more false (Some k) None n r m h l = absurd m
match_more false None None n r m h l = tt
match_more false None (Some t) n r m h l = absurd m

ends_lie : (r : Range) (n : ℤ) → InRange r n → Lies n (between_ends r)
ends_lie r n h = record { from = omega (arith, linear, clamps, h.from); to = omega (arith, linear, clamps, h.to) }

pub heads_more : (nest : List Loop) (l : Loop) → heads_of (nest ++ l ∷ []) ≡ heads_of nest ++ l.head ∷ []
heads_more [] l = refl
heads_more (m ∷ nest) l = ap (λ (hs : List Head). m.head ∷ hs) (heads_more nest l)

ranges_more : (s : Setting) (around : Around) (hs : List Head) (h : Head) → ranges_inside s around (hs ++ h ∷ []) ≡ ranges_inside s around hs ++ loop_range s (around_with s around hs) h ∷ []
ranges_more s around [] h = refl
ranges_more s around (g ∷ hs) h = ap (λ (rs : List Range). loop_range s around g ∷ rs) (ranges_more s (inside around g (loop_range s around g)) hs h)

around_more : (s : Setting) (around : Around) (hs : List Head) (h : Head) → around_with s around (hs ++ h ∷ []) ≡ inside (around_with s around hs) h (loop_range s (around_with s around hs) h)
around_more s around [] h = refl
around_more s around (g ∷ hs) h = around_more s (inside around g (loop_range s around g)) hs h

iterations_more : (number : ℕ → ℕ) (ls : List Loop) (rs : List Range) (ts : List Turn) (l : Loop) (r : Range) (t : Turn) → AreIterations number ls rs ts → t.statement ≡ number l.number → InRange r t.value → AreIterations number (ls ++ l ∷ []) (rs ++ r ∷ []) (ts ++ t ∷ [])
iterations_more number [] [] [] l r t h e i = (e, i, tt)
iterations_more number [] [] (y ∷ ts) l r t h e i = absurd h
iterations_more number [] (x ∷ rs) ts l r t h e i = absurd h
iterations_more number (m ∷ ls) [] ts l r t h e i = absurd h
iterations_more number (m ∷ ls) (x ∷ rs) [] l r t h e i = absurd h
iterations_more number (m ∷ ls) (x ∷ rs) (y ∷ ts) l r t h e i = (h.0, h.1, iterations_more number ls rs ts l r t h.2 e i)

pub one_deeper : (s : Setting) (p : run.Setting) (nest : List Loop) (scope : Scope) (u : Store) (n : ℕ) (h : Head) (body : StmtTrees) (seen : List Seen) (l : Limits) (k : ℕ) → p.constants ≡ s.constants → HoldsStorable s.loop_variables u → IsInNest s p nest scope → index_value scope h.variable ≡ None → step_is_right p.constants h.step ≡ true → (limits (names_in p scope) h u).result ≡ Ok l → 1 ≤ k → k ≤ (entered_with p n h body seen l).count → IsInNest s p (nest ++ loop n h ∷ []) (frame (entered_with p n h body seen l) k ∷ scope)
one_deeper s p nest scope u n h body seen l k same held place new right entered one few =
    let around : Around = around_with s [] (heads_of nest) in
    let r : Range = loop_range s around h in
    let v = value_in_range s around p scope u n h body seen l k (within s around p scope u same place.variables held) entered right one few in
    record {
      iterations = subst (λ (rs : List Range). AreIterations p.number (nest ++ loop n h ∷ []) rs (turns_of (frame (entered_with p n h body seen l) k ∷ scope)))
          (sym (ap (ranges_inside s []) (heads_more nest (loop n h)) ∙ ranges_more s [] (heads_of nest) h))
          (iterations_more p.number nest (ranges_inside s [] (heads_of nest)) (turns_of scope) (loop n h) r (frame (entered_with p n h body seen l) k).turn place.iterations refl v);
      variables = λ x. subst (λ (a : Around). Match (index_value (frame (entered_with p n h body seen l) k ∷ scope) x) (lookup (is_same_text x) a))
          (sym (ap (around_with s []) (heads_more nest (loop n h)) ∙ around_more s [] (heads_of nest) h))
          (subst (λ (q : Option Interval). Match (index_value (frame (entered_with p n h body seen l) k ∷ scope) x) q) (sym (lookup_last (is_same_text x) around h.variable (between_ends r)))
          (match_more (is_same_text x h.variable) (index_value scope x) (lookup (is_same_text x) around) (value_in (entered_with p n h body seen l) k) (between_ends r) (place.variables x)
          (λ e. ap (index_value scope) (text_is x h.variable e) ∙ new) (ends_lie r (value_in (entered_with p n h body seen l) k) v)));
    }
