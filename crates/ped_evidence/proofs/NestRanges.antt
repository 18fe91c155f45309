-- The ranges of a nest: one for each loop.
use Rattle.std.proofs.Common.{◌≡◌, suc, refl, ap, ◌∙◌, List, [], ◌∷◌, length}
use Rattle.ped_tree.specs.Tree.{Head}
use Rattle.ped_tree.specs.Nests.{Loop}
use Rattle.ped_affine.specs.Ranges.{Setting, Around, loop_range, inside, ranges_inside, nest_ranges}
use Rattle.ped_affine.specs.PairViews.{heads_of}

ranges_long : (s : Setting) (around : Around) (hs : List Head) → length (ranges_inside s around hs) ≡ length hs
ranges_long s around [] = refl
ranges_long s around (h ∷ hs) = ap suc (ranges_long s (inside around h (loop_range s around h)) hs)

heads_long : (ls : List Loop) → length (heads_of ls) ≡ length ls
heads_long [] = refl
heads_long (l ∷ ls) = ap suc (heads_long ls)

pub ranges_of_long : (s : Setting) (nest : List Loop) → length (nest_ranges s (heads_of nest)) ≡ length nest
ranges_of_long s nest = ranges_long s [] (heads_of nest) ∙ heads_long nest
