-- The common loops at two places of one execution: their values stand in their directions, and in step.
use Rattle.std.proofs.Common.{◌≡◌, ℕ, zero, suc, ◌<◌, refl, sym, ap, ◌∙◌, subst, arith, ℤ, pos, ◌-ℤ◌, List, [], ◌∷◌, ◌++◌, length, take, get_or, append_assoc}
use Rattle.std.proofs.lemmas.List.{length-append}
use Rattle.ped_views.specs.declared.directions.Direction.{Direction}
use Rattle.ped_views.specs.Whole.{Divides}
use Rattle.ped_views.specs.Views.{Range}
use Rattle.ped_views.specs.Excluded.{StandsByValue, by_value}
use Rattle.ped_tree.specs.Nests.{Loop}
use Rattle.ped_laws.specs.Covering.Together.{AreValues, CommonValues}
use Rattle.ped_evidence.specs.Levels.{level, levels_inside}
use Rattle.ped_evidence.specs.Facts.{IsCommon, AreCommon}

-- the value at the place behind the first ones
get_behind : (n : ℕ) (xs : List ℤ) (x : ℤ) (ys : List ℤ) → n ≡ length xs → get_or (xs ++ (x ∷ ys)) n (pos 0) ≡ x
get_behind zero [] x ys e = refl
get_behind zero (z ∷ xs) x ys e = absurd (omega arith)
get_behind (suc n) [] x ys e = absurd (omega arith)
get_behind (suc n) (z ∷ xs) x ys e = get_behind n xs x ys (omega arith)

longer : (n : ℕ) (xs : List ℤ) (x : ℤ) (ys all : List ℤ) → n ≡ length xs → all ≡ xs ++ (x ∷ ys) → n < length all
longer n xs x ys all e h =
    let l = length-append xs (x ∷ ys) in
    let m : length all ≡ length (xs ++ (x ∷ ys)) = ap length h in
    omega (arith, l, m)

module _ (from to : List ℤ) where
  one_common : (around : List Loop) (l : Loop) (r : Range) (d : Direction) (i j : ℤ) (is js before behind : List ℤ) → length around ≡ length before → length around ≡ length behind → from ≡ before ++ (i ∷ is) → to ≡ behind ++ (j ∷ js)
      → AreValues r d i j → IsCommon from to (level around l.head r) d
  one_common around l r d i j is js before behind p q s t h =
      let at_source : get_or from (length around) (pos 0) ≡ i = ap (λ (xs : List ℤ). get_or xs (length around) (pos 0)) s ∙ get_behind (length around) before i is p in
      let at_sink : get_or to (length around) (pos 0) ≡ j = ap (λ (xs : List ℤ). get_or xs (length around) (pos 0)) t ∙ get_behind (length around) behind j js q in
      record {
        at_source = longer (length around) before i is from p s;
        at_sink = longer (length around) behind j js to q t;
        stands = subst (λ (x : ℤ). StandsByValue (by_value r.step d) x (get_or to (length around) (pos 0))) (sym at_source) (subst (λ (y : ℤ). StandsByValue (by_value r.step d) i y) (sym at_sink) h.stands);
        in_step = λ steady. subst (λ (x : ℤ). Divides r.step (get_or to (length around) (pos 0) -ℤ x)) (sym at_source) (subst (λ (y : ℤ). Divides r.step (y -ℤ i)) (sym at_sink) (h.in_step steady));
      }

  -- of the first k loops; those round the first have these values on both sides
  pub common_values : (k : ℕ) (around ls : List Loop) (rs : List Range) (ds : List Direction) (is js before behind : List ℤ) → length rs ≡ length ls → length around ≡ length before → length around ≡ length behind → from ≡ before ++ is → to ≡ behind ++ js
      → CommonValues (take k rs) ds (take k is) (take k js) → AreCommon from to (take k (levels_inside around ls rs)) ds
  common_values zero around ls rs [] is js before behind e p q s t h = tt
  common_values zero around ls rs (d ∷ ds) is js before behind e p q s t h = absurd h
  common_values (suc k) around [] [] [] is js before behind e p q s t h = tt
  common_values (suc k) around [] [] (d ∷ ds) is js before behind e p q s t h = absurd h
  common_values (suc k) around [] (r ∷ rs) ds is js before behind e p q s t h = absurd (omega arith)
  common_values (suc k) around (l ∷ ls) [] ds is js before behind e p q s t h = absurd (omega arith)
  common_values (suc k) around (l ∷ ls) (r ∷ rs) [] is js before behind e p q s t h = absurd h
  common_values (suc k) around (l ∷ ls) (r ∷ rs) (d ∷ ds) [] js before behind e p q s t h = absurd h
  common_values (suc k) around (l ∷ ls) (r ∷ rs) (d ∷ ds) (i ∷ is) [] before behind e p q s t h = absurd h
  common_values (suc k) around (l ∷ ls) (r ∷ rs) (d ∷ ds) (i ∷ is) (j ∷ js) before behind e p q s t h = (
    one_common around l r d i j is js before behind p q s t h.0,
    common_values k (around ++ l ∷ []) ls rs ds is js (before ++ i ∷ []) (behind ++ j ∷ []) (omega arith)
        (let a = length-append around (l ∷ []) in let b = length-append before (i ∷ []) in omega (arith, a, b)) (let a = length-append around (l ∷ []) in let b = length-append behind (j ∷ []) in omega (arith, a, b))
        (s ∙ sym (append_assoc before (i ∷ []) is)) (t ∙ sym (append_assoc behind (j ∷ []) js)) h.1,
  )
