-- The loops of a pair are among those of both sides, and they are few.
use Rattle.std.proofs.Common.{◌≡◌, ℕ, zero, suc, ◌+◌, ◌≤◌, ◌<◌, refl, sym, ap, ◌∙◌, subst, arith, List, [], ◌∷◌, ◌++◌, length, take, Bool, true, false, ◌==◌, if◌then◌else◌}
use Rattle.std.specs.Prelude.{All}
use Rattle.std.specs.List.{AllByRecursion}
use Rattle.std.proofs.lemmas.List.{length-map, length-append}
use Rattle.std.proofs.lemmas.List.Elements.{All-from_recursion}
use Rattle.ped_views.specs.Views.{Range}
use Rattle.ped_tree.specs.Nests.{Loop, common_nest}
use Rattle.ped_refs.specs.Loops.{nest_of, loop_of}
use Rattle.ped_refs.specs.declared.loops.Loop.{Loop as CodeLoop}
use Rattle.ped_affine.specs.Ranges.{Setting, nest_ranges}
use Rattle.ped_affine.specs.Arguments.{setting_of, site}
use Rattle.ped_affine.specs.PairViews.{heads_of}
use Rattle.ped_evidence.specs.declared.layouts.Columns.{Columns as CodeColumns}
use Rattle.ped_evidence.specs.declared.layouts.Layout.{Layout as CodeLayout}
use Rattle.ped_evidence.specs.declared.levels.Level.{Level as CodeLevel}
use Rattle.ped_evidence.specs.declared.symbols.Pair.{Pair}
use Rattle.ped_evidence.specs.Levels.{Level, levels_inside, levels_of}
use Rattle.ped_evidence.specs.Layouts.{Layout, common_levels, layout_of}
use Rattle.ped_evidence.specs.Kept.{level_of, levels_kept, layout_kept, IsInside, IsPair}
use Rattle.ped_evidence.proofs.LevelsListed.{levels_of_long, take_whole}

-- ---- the loops round a loop

-- of the first so many loops of a nest, each has fewer loops round it
fewer : (around ls : List Loop) (rs : List Range) (n : ℕ) → AllByRecursion (λ (v : Level). length v.around < length around + n) (take n (levels_inside around ls rs))
fewer around [] rs zero = tt
fewer around [] rs (suc n) = tt
fewer around (l ∷ ls) [] zero = tt
fewer around (l ∷ ls) [] (suc n) = tt
fewer around (l ∷ ls) (r ∷ rs) zero = tt
fewer around (l ∷ ls) (r ∷ rs) (suc n) =
    let long = length-append around (l ∷ []) in
    let one : length (around ++ l ∷ []) + n ≡ length around + suc n = omega (arith, long) in
    (omega arith, subst (λ (m : ℕ). AllByRecursion (λ (v : Level). length v.around < m) (take n (levels_inside (around ++ l ∷ []) ls rs))) one (fewer (around ++ l ∷ []) ls rs n))

-- the same of loops as the code keeps them
kept_fewer : (levels : List CodeLevel) (n : ℕ) → AllByRecursion (λ (v : Level). length v.around < n) (levels_kept levels) → AllByRecursion (λ (l : CodeLevel). length l.around.now < n) levels
kept_fewer [] n h = tt
kept_fewer (l ∷ levels) n h = (subst (λ (m : ℕ). m < n) (length-map l.around.now loop_of) h.0, kept_fewer levels n h.1)

-- they are among those of both sides, where there is room for so many behind those before
inside_all : (c : CodeColumns) (before n : ℕ) (levels : List CodeLevel) → before + n ≤ c.source + c.sink → AllByRecursion (λ (l : CodeLevel). length l.around.now < n) levels → All (IsInside c before) levels
inside_all c before n levels room h = All-from_recursion (IsInside c before) levels (by levels h)
  where
    by : (ls : List CodeLevel) → AllByRecursion (λ (l : CodeLevel). length l.around.now < n) ls → AllByRecursion (IsInside c before) ls
    by [] k = tt
    by (l ∷ ls) k = let few = k.0 in (omega (arith, few, room), by ls k.1)

-- the loops that are common are no more than those of the sink
common_few : (ls ms : List Loop) → length (common_nest ls ms) ≤ length ms
common_few [] ms = omega arith
common_few (l ∷ ls) [] = omega arith
common_few (l ∷ ls) (m ∷ ms) = by (l.number == m.number) (common_few ls ms)
  where
    by : (b : Bool) → length (common_nest ls ms) ≤ length ms → length (if b then l ∷ common_nest ls ms else []) ≤ suc (length ms)
    by true rest = omega arith
    by false rest = omega arith

-- nor than those of the source
common_few_of_source : (ls ms : List Loop) → length (common_nest ls ms) ≤ length ls
common_few_of_source [] ms = omega arith
common_few_of_source (l ∷ ls) [] = omega arith
common_few_of_source (l ∷ ls) (m ∷ ms) = by (l.number == m.number) (common_few_of_source ls ms)
  where
    by : (b : Bool) → length (common_nest ls ms) ≤ length ls → length (if b then l ∷ common_nest ls ms else []) ≤ suc (length ls)
    by true rest = omega arith
    by false rest = omega arith

-- the first items of a list are no more than all
take_few : {X : Type 0} (n : ℕ) (xs : List X) → length (take n xs) ≤ length xs
take_few zero [] = omega arith
take_few zero (x ∷ xs) = omega arith
take_few (suc n) [] = omega arith
take_few (suc n) (x ∷ xs) = let rest = take_few n xs in omega (arith, rest)

-- the first loops as the code keeps them
pub front_kept : (n : ℕ) (levels : List CodeLevel) → levels_kept (take n levels) ≡ take n (levels_kept levels)
front_kept zero [] = refl
front_kept zero (l ∷ levels) = refl
front_kept (suc n) [] = refl
front_kept (suc n) (l ∷ levels) = ap (λ (vs : List Level). level_of l ∷ vs) (front_kept n levels)

-- ---- the loops of a nest

-- there are as many as in the nest
pub as_many : (s : Setting) (nest : List CodeLoop) (levels : List CodeLevel) → levels_kept levels ≡ levels_of s (nest_of nest) → length levels ≡ length nest
as_many s nest levels e = sym (length-map levels level_of) ∙ ap length e ∙ levels_of_long s (nest_of nest) ∙ length-map nest loop_of

-- the first so many have fewer round them
front_fewer : (s : Setting) (nest : List Loop) (n : ℕ) → AllByRecursion (λ (v : Level). length v.around < n) (take n (levels_of s nest))
front_fewer s nest n =
    let none : length {A = Loop} [] + n ≡ n = omega arith in
    subst (λ (m : ℕ). AllByRecursion (λ (v : Level). length v.around < m) (take n (levels_of s nest))) none (fewer [] nest (nest_ranges s (heads_of nest)) n)

-- all of them are among those of both sides
side_inside : (s : Setting) (c : CodeColumns) (before : ℕ) (nest : List CodeLoop) (levels : List CodeLevel) → levels_kept levels ≡ levels_of s (nest_of nest) → before + length nest ≤ c.source + c.sink → All (IsInside c before) levels
side_inside s c before nest levels e room =
    let loops : length (nest_of nest) ≡ length nest = length-map nest loop_of in
    let long = levels_of_long s (nest_of nest) in
    let whole : take (length nest) (levels_of s (nest_of nest)) ≡ levels_of s (nest_of nest) = take_whole (length nest) (levels_of s (nest_of nest)) (omega (arith, long, loops)) in
    inside_all c before (length nest) levels room (kept_fewer levels (length nest) (subst (AllByRecursion (λ (v : Level). length v.around < length nest)) (whole ∙ sym e) (front_fewer s (nest_of nest) (length nest))))

-- ---- a pair

module _ (p : Pair) (pair : IsPair p) where
  module _ (common : List CodeLevel) (shared : levels_kept common ≡ common_levels (setting_of p.setting) (site p.source) (site p.sink)) where
    -- the quotients of each part are at most as many as its loops
    pub few_quotients : (a b c : ℕ) → a ≤ length p.source_levels.now → b ≤ length p.sink_levels.now → c ≤ length common → a + b + c ≤ 18
    few_quotients a b c h k l =
        let one = as_many (setting_of p.setting) p.source.nest.now p.source_levels.now pair.source in
        let two = as_many (setting_of p.setting) p.sink.nest.now p.sink_levels.now pair.sink in
        let all : List Level = levels_of (setting_of p.setting) (nest_of p.source.nest.now) in
        let three : length common ≡ length (take (length (common_nest (nest_of p.source.nest.now) (nest_of p.sink.nest.now))) all) = sym (length-map common level_of) ∙ ap length shared in
        let four = take_few (length (common_nest (nest_of p.source.nest.now) (nest_of p.sink.nest.now))) all in
        let five : length all ≡ length p.source.nest.now = levels_of_long (setting_of p.setting) (nest_of p.source.nest.now) ∙ length-map p.source.nest.now loop_of in
        let six = pair.few_around_source in
        let seven = pair.few_around_sink in
        omega (arith, one, two, three, four, five, six, seven, h, k, l)

    module _ (y : CodeLayout) (is : layout_kept y ≡ layout_of (setting_of p.setting) (site p.source) (site p.sink)) where
      source_long : y.columns.source ≡ length p.source.nest.now
      source_long = ap (λ (z : Layout). z.columns.source) is ∙ length-map p.source.nest.now loop_of

      sink_long : y.columns.sink ≡ length p.sink.nest.now
      sink_long = ap (λ (z : Layout). z.columns.sink) is ∙ length-map p.sink.nest.now loop_of

      pub source_inside : All (IsInside y.columns 0) p.source_levels.now
      source_inside = let long = source_long in side_inside (setting_of p.setting) y.columns 0 p.source.nest.now p.source_levels.now pair.source (omega (arith, long))

      pub sink_inside : All (IsInside y.columns y.columns.source) p.sink_levels.now
      sink_inside = let long = sink_long in side_inside (setting_of p.setting) y.columns y.columns.source p.sink.nest.now p.sink_levels.now pair.sink (omega (arith, long))

      common_fewer : AllByRecursion (λ (l : CodeLevel). length l.around.now < length (common_nest (nest_of p.source.nest.now) (nest_of p.sink.nest.now))) common
      common_fewer =
          let n : ℕ = length (common_nest (nest_of p.source.nest.now) (nest_of p.sink.nest.now)) in
          kept_fewer common n (subst (AllByRecursion (λ (v : Level). length v.around < n)) (sym shared) (front_fewer (setting_of p.setting) (nest_of p.source.nest.now) n))

      pub common_inside_source : All (IsInside y.columns 0) common
      common_inside_source =
          let long = source_long in
          let loops : length (nest_of p.source.nest.now) ≡ length p.source.nest.now = length-map p.source.nest.now loop_of in
          let few = common_few_of_source (nest_of p.source.nest.now) (nest_of p.sink.nest.now) in
          inside_all y.columns 0 (length (common_nest (nest_of p.source.nest.now) (nest_of p.sink.nest.now))) common (omega (arith, long, loops, few)) common_fewer

      pub common_inside_sink : All (IsInside y.columns y.columns.source) common
      common_inside_sink =
          let long = sink_long in
          let loops : length (nest_of p.sink.nest.now) ≡ length p.sink.nest.now = length-map p.sink.nest.now loop_of in
          let few = common_few (nest_of p.source.nest.now) (nest_of p.sink.nest.now) in
          inside_all y.columns y.columns.source (length (common_nest (nest_of p.source.nest.now) (nest_of p.sink.nest.now))) common (omega (arith, long, loops, few)) common_fewer
