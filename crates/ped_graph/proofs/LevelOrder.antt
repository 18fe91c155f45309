-- Vectors come in the order of the loops that carry them.
use Rattle.std.proofs.Common.{◌≡◌, ℕ, zero, suc, ◌+◌, ◌≤◌, List, [], ◌∷◌, ◌++◌, map, filter, length, take, drop, append_assoc, Bool, true, false, cond, Option, Some, None, refl, sym, ap, subst, ◌∙◌, inl, inr, arith}
use Rattle.std.specs.Prelude.{◌==◌}
use Rattle.std.specs.List.{prefix_len}
use Rattle.std.proofs.lemmas.Bool.{eqb-true, eqb-false, ne_eqb, cond-false}
use Rattle.ped_views.specs.declared.directions.Direction.{Direction}
use Rattle.ped_views.specs.declared.directions.Direction.TheVariants.{Before, Same, After}
use Rattle.ped_views.specs.Views.{View}
use Rattle.ped_views.specs.Vectors.{all_vectors, AreThose, IsPossible, AreVectors}
use Rattle.ped_graph.specs.Owners.{within_iteration}
use Rattle.ped_graph.specs.Dependences.{Carriage, carried, independent, backward, carriage_from, is_of, vectors_of}
use Rattle.ped_graph.specs.Levels.{MayPrecede, ComeFrom, ComeByLevel, IsUpTo, AreUpTo, AreByLevel, carriage_at, carriage_behind, AreLeft}

pub same_level : (level : ℕ) → level ≤ level
same_level level = omega arith

next_level : (level : ℕ) → level ≤ suc level
next_level level = omega arith

precede_on : (a b c : Carriage) → MayPrecede a b → MayPrecede b c → MayPrecede a c
precede_on (carried i) (carried j) (carried k) h m = omega (arith, h, m)
precede_on (carried i) (carried j) independent h m = tt
precede_on (carried i) (carried j) backward h m = tt
precede_on (carried i) independent (carried k) h m = absurd m
precede_on (carried i) independent independent h m = tt
precede_on (carried i) independent backward h m = tt
precede_on (carried i) backward (carried k) h m = absurd m
precede_on (carried i) backward independent h m = absurd m
precede_on (carried i) backward backward h m = tt
precede_on independent (carried j) c h m = absurd h
precede_on independent independent c h m = m
precede_on independent backward (carried k) h m = absurd m
precede_on independent backward independent h m = absurd m
precede_on independent backward backward h m = tt
precede_on backward (carried j) c h m = absurd h
precede_on backward independent c h m = absurd h
precede_on backward backward c h m = m

backward_last : (c : Carriage) → MayPrecede c backward
backward_last (carried k) = tt
backward_last independent = tt
backward_last backward = tt

-- vectors that come from one place on come from an earlier one on
come_earlier : (level : ℕ) (a b : Carriage) (vs : List (List Direction)) → MayPrecede a b → ComeFrom level b vs → ComeFrom level a vs
come_earlier level a b [] h k = tt
come_earlier level a b (v ∷ vs) h k = (precede_on a b (carriage_from level v) h k.0, k.1)

afters_come : (level : ℕ) (c : Carriage) (vs : List (List Direction)) → ComeFrom level c (map (λ v. After ∷ v) vs)
afters_come level c [] = tt
afters_come level c (v ∷ vs) = (backward_last c, afters_come level backward vs)

sames_come : (level : ℕ) (c : Carriage) (vs ws : List (List Direction)) → ComeFrom (suc level) c vs → ComeFrom level c (map (λ v. Same ∷ v) vs ++ map (λ v. After ∷ v) ws)
sames_come level c [] ws h = afters_come level c ws
sames_come level c (v ∷ vs) ws h = (h.0, sames_come level (carriage_from (suc level) v) vs ws h.1)

befores_come : (level : ℕ) (vs rest : List (List Direction)) → ComeFrom level (carried level) rest → ComeFrom level (carried level) (map (λ v. Before ∷ v) vs ++ rest)
befores_come level [] rest h = h
befores_come level (v ∷ vs) rest h = (same_level level, befores_come level vs rest h)

all_come : (n level : ℕ) → ComeFrom level (carried level) (all_vectors n)
all_come zero level = (tt, tt)
all_come (suc n) level =
    let vs = all_vectors n in
    let rest = map (λ v. Same ∷ v) vs ++ map (λ v. After ∷ v) vs in
    let come = befores_come level vs rest (come_earlier level (carried level) (carried (suc level)) rest (next_level level) (sames_come level (carried (suc level)) vs vs (all_come n (suc level)))) in
    subst (λ (ws : List (List Direction)). ComeFrom level (carried level) ws) (sym (append_assoc (map (λ v. Before ∷ v) vs) (map (λ v. Same ∷ v) vs) (map (λ v. After ∷ v) vs))) come

those_come : (P : List Direction → Type 0) (level : ℕ) (c : Carriage) (vs chosen : List (List Direction)) → AreThose P vs chosen → ComeFrom level c vs → ComeFrom level c chosen
those_come P level c [] chosen h k = subst (λ (ws : List (List Direction)). ComeFrom level c ws) (sym h) tt
those_come P level c (v ∷ vs) chosen (inl h) k =
    subst (λ (ws : List (List Direction)). ComeFrom level c ws) (sym h.1.1) (k.0, those_come P level (carriage_from level v) vs h.1.0 h.1.2 k.1)
those_come P level c (v ∷ vs) chosen (inr h) k = come_earlier level c (carriage_from level v) chosen k.0 (those_come P level (carriage_from level v) vs chosen h.1 k.1)

kept_come : (p : List Direction → Bool) (level : ℕ) (c : Carriage) (vs : List (List Direction)) → ComeFrom level c vs → ComeFrom level c (filter p vs)
kept_come p level c [] h = tt
kept_come p level c (v ∷ vs) h = go (p v) (kept_come p level (carriage_from level v) vs h.1)
  where
    go : (t : Bool) → ComeFrom level (carriage_from level v) (filter p vs) → ComeFrom level c (cond t (v ∷ filter p vs) (filter p vs))
    go true m = (h.0, m)
    go false m = come_earlier level c (carriage_from level v) (filter p vs) h.0 m

befores_within : (level last : ℕ) (vs : List (List Direction)) → level ≤ last → AreUpTo level last (map (λ v. Before ∷ v) vs)
befores_within level last [] h = tt
befores_within level last (v ∷ vs) h = (h, befores_within level last vs h)

sames_within : (level last : ℕ) (vs : List (List Direction)) → AreUpTo (suc level) last vs → AreUpTo level last (map (λ v. Same ∷ v) vs)
sames_within level last [] h = tt
sames_within level last (v ∷ vs) h = (h.0, sames_within level last vs h.1)

afters_within : (level last : ℕ) (vs : List (List Direction)) → AreUpTo level last (map (λ v. After ∷ v) vs)
afters_within level last [] = tt
afters_within level last (v ∷ vs) = (tt, afters_within level last vs)

both_within : (level last : ℕ) (vs ws : List (List Direction)) → AreUpTo level last vs → AreUpTo level last ws → AreUpTo level last (vs ++ ws)
both_within level last [] ws h k = k
both_within level last (v ∷ vs) ws h k = (h.0, both_within level last vs ws h.1 k)

all_within : (n level last : ℕ) → level + n ≤ suc last → AreUpTo level last (all_vectors n)
all_within zero level last h = (tt, tt)
all_within (suc n) level last h =
    let vs = all_vectors n in
    let befores = befores_within level last vs (omega (arith, h)) in
    let sames = sames_within level last vs (all_within n (suc level) last (omega (arith, h))) in
    both_within level last (map (λ v. Before ∷ v) vs ++ map (λ v. Same ∷ v) vs) (map (λ v. After ∷ v) vs)
    (both_within level last (map (λ v. Before ∷ v) vs) (map (λ v. Same ∷ v) vs) befores sames) (afters_within level last vs)

those_within : (P : List Direction → Type 0) (level last : ℕ) (vs chosen : List (List Direction)) → AreThose P vs chosen → AreUpTo level last vs → AreUpTo level last chosen
those_within P level last [] chosen h k = subst (λ (ws : List (List Direction)). AreUpTo level last ws) (sym h) tt
those_within P level last (v ∷ vs) chosen (inl h) k =
    subst (λ (ws : List (List Direction)). AreUpTo level last ws) (sym h.1.1) (k.0, those_within P level last vs h.1.0 h.1.2 k.1)
those_within P level last (v ∷ vs) chosen (inr h) k = those_within P level last vs chosen h.1 k.1

kept_within : (p : List Direction → Bool) (level last : ℕ) (vs : List (List Direction)) → AreUpTo level last vs → AreUpTo level last (filter p vs)
kept_within p level last [] h = tt
kept_within p level last (v ∷ vs) h = go (p v) (kept_within p level last vs h.1)
  where
    go : (t : Bool) → AreUpTo level last (filter p vs) → AreUpTo level last (cond t (v ∷ filter p vs) (filter p vs))
    go true m = (h.0, m)
    go false m = m

-- the vectors of a view come in the order of the loops that carry them
pub vectors_by_level : (v : View) (vectors : List (List Direction)) → AreVectors v vectors → AreByLevel (length v.loops) vectors
vectors_by_level v vectors h =
    let n = length v.loops in
    record {
      ordered = those_come (IsPossible v) 1 (carried 1) (all_vectors n) vectors h (all_come n 1);
      within = those_within (IsPossible v) 1 n (all_vectors n) vectors h (all_within n 1 n (omega arith));
    }

-- and so do those within an iteration
pub within_by_level : (level loops : ℕ) (vectors : List (List Direction)) → AreByLevel loops vectors → AreByLevel loops (within_iteration level vectors)
within_by_level level loops vectors h = record { ordered = kept_come _ 1 (carried 1) vectors h.ordered; within = kept_within _ 1 loops vectors h.within }

-- no vectors come in that order
pub none_by_level : (loops : ℕ) → AreByLevel loops []
none_by_level loops = record { ordered = tt; within = tt }

not_carried : (loops : ℕ) (c : Carriage) → MayPrecede (carried (loops + 1)) c → IsUpTo loops c → MayPrecede independent c
not_carried loops (carried k) h m = absurd (omega (arith, h, m))
not_carried loops independent h m = tt
not_carried loops backward h m = tt

-- behind what the loops carry comes what is independent of them
pub independent_next : (loops : ℕ) (vs : List (List Direction)) → ComeByLevel (carried (loops + 1)) vs → AreUpTo 1 loops vs → ComeByLevel independent vs
independent_next loops [] h m = tt
independent_next loops (v ∷ vs) h m = (not_carried loops (carriage_from 1 v) h.0 m.0, h.1)

-- all vectors are within an iteration of no loop
pub within_none : (vectors : List (List Direction)) → within_iteration 0 vectors ≡ vectors
within_none [] = refl
within_none (v ∷ vs) = ap (λ (ws : List (List Direction)). v ∷ ws) (within_none vs)

behind : (level : Option ℕ) (c : Carriage) → MayPrecede (carriage_at level) c → is_of level c ≡ false → MayPrecede (carriage_behind level) c
behind (Some k) (carried j) h e = go (apart j e)
  where
    apart : (j : ℕ) → (j == k) ≡ false → j ≡ k → ⊥
    apart j e = eqb-false j k e

    go : (j ≡ k → ⊥) → k + 1 ≤ j
    go d = omega (arith, h, d)
behind (Some k) independent h e = tt
behind (Some k) backward h e = tt
behind None (carried j) h e = absurd h
behind None independent h e = cc
behind None backward h e = tt

not_of : (level : Option ℕ) (c : Carriage) → MayPrecede (carriage_behind level) c → is_of level c ≡ false
not_of (Some k) (carried j) h = ne_eqb j k (λ e. omega (arith, h, e))
not_of (Some k) independent h = refl
not_of (Some k) backward h = refl
not_of None (carried j) h = refl
not_of None independent h = absurd h
not_of None backward h = refl

not_of_later : (level later : Option ℕ) (c : Carriage) → is_of level c ≡ true → MayPrecede (carriage_behind level) (carriage_at later) → is_of later c ≡ false
not_of_later (Some k) (Some m) (carried j) e h = let same : j ≡ k = eqb-true j k e in ne_eqb j m (λ s. omega (arith, h, same, s))
not_of_later (Some k) None (carried j) e h = refl
not_of_later (Some k) later independent e h = cc
not_of_later (Some k) later backward e h = cc
not_of_later None (Some m) c e h = absurd h
not_of_later None None c e h = absurd h

-- no vector behind a level is of it
none_behind : (level : Option ℕ) (vs : List (List Direction)) → ComeByLevel (carriage_behind level) vs → vectors_of level vs ≡ []
none_behind level [] h = refl
none_behind level (v ∷ vs) h =
    cond-false (is_of level (carriage_from 1 v)) (v ∷ vectors_of level vs) (vectors_of level vs) (not_of level (carriage_from 1 v) h.0)
    ∙ none_behind level vs (come_earlier 1 (carriage_behind level) (carriage_from 1 v) vs h.0 h.1)

-- no vector is of a level behind which the first one is
pub none_of : (level : Option ℕ) (v : List Direction) (vs : List (List Direction)) → MayPrecede (carriage_behind level) (carriage_from 1 v) → ComeByLevel (carried 1) (v ∷ vs) → vectors_of level (v ∷ vs) ≡ []
none_of level v vs m h = none_behind level (v ∷ vs) (m, h.1)

-- the vectors of a level that comes first are those at the front, and the others are left
pub record Splits (level : Option ℕ) (vectors : List (List Direction)) (count : ℕ) : Type 0 where
  pub these : take count vectors ≡ vectors_of level vectors
  pub others : AreLeft (carriage_behind level) vectors (drop count vectors)

pub splits : (level : Option ℕ) (vs : List (List Direction)) → ComeByLevel (carriage_at level) vs → Splits level vs (prefix_len (λ v. is_of level (carriage_from 1 v)) vs)
splits level [] h = record { these = refl; others = record { ordered = tt; within = λ loops m. m; all = λ later m. refl } }
splits level (v ∷ vs) h =
    let rest = splits level vs (come_earlier 1 (carriage_at level) c vs h.0 h.1) in
    let next : suc n ≡ 1 + n = omega arith in
    subst (λ (count : ℕ). Splits level (v ∷ vs) (cond (is_of level c) count 0)) next (go (is_of level c) refl rest)
  where
    c : Carriage
    c = carriage_from 1 v

    n : ℕ
    n = prefix_len (λ w. is_of level (carriage_from 1 w)) vs

    go : (t : Bool) → is_of level c ≡ t → Splits level vs n → Splits level (v ∷ vs) (cond t (suc n) 0)
    go true e rest = record {
      these = ap (λ (ws : List (List Direction)). v ∷ ws) rest.these ∙ sym (ap (λ (t : Bool). cond t (v ∷ vectors_of level vs) (vectors_of level vs)) e);
      others = record {
        ordered = rest.others.ordered;
        within = λ loops m. rest.others.within loops m.1;
        all = λ later m. rest.others.all later m ∙ sym (cond-false (is_of later c) (v ∷ vectors_of later vs) (vectors_of later vs) (not_of_later level later c e m));
      };
    }
    go false e rest =
        let next = behind level c h.0 e in
        record {
          these = sym (cond-false (is_of level c) (v ∷ vectors_of level vs) (vectors_of level vs) e ∙ none_behind level vs (come_earlier 1 (carriage_behind level) c vs next h.1));
          others = record { ordered = (next, h.1); within = λ loops m. m; all = λ later m. refl };
        }

-- all vectors are left at first
pub all_left : (c : Carriage) (vectors : List (List Direction)) → ComeByLevel c vectors → AreLeft c vectors vectors
all_left c vectors h = record { ordered = h; within = λ loops m. m; all = λ level m. refl }

-- what is left of those that are left
pub left_of_left : (level : Option ℕ) (vectors rest others : List (List Direction)) → AreLeft (carriage_at level) vectors rest → AreLeft (carriage_behind level) rest others → AreLeft (carriage_behind level) vectors others
left_of_left level vectors rest others h k = record {
  ordered = k.ordered;
  within = λ loops m. k.within loops (h.within loops m);
  all = λ later m. k.all later m ∙ h.all later (precede_on (carriage_at level) (carriage_behind level) (carriage_at later) (just_behind level) m);
}
  where
    just_behind : (l : Option ℕ) → MayPrecede (carriage_at l) (carriage_behind l)
    just_behind (Some n) = omega arith
    just_behind None = tt
