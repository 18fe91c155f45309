-- The loops round a bound with their ranges, loop by loop.
use Rattle.std.proofs.Common.{◌≡◌, ℕ, suc, ◌+◌, ◌<◌, List, [], ◌∷◌, ◌++◌, length, take, drop, set, get_or, refl, sym, ap, ◌∙◌, append_assoc, append-nil, arith, None}
use Rattle.std.proofs.lemmas.List.{take_more, take_more_set, drop_more, length-take-le}
use Rattle.std.specs.Map.{lookup}
use Rattle.ped_base.specs.Lists.{is_same_text}
use Rattle.ped_views.specs.Views.{Range}
use Rattle.ped_tree.specs.Tree.{Head}
use Rattle.ped_refs.specs.declared.loops.Loop.{Loop}
use Rattle.ped_refs.specs.Loops.{nest_of}
use Rattle.ped_tree.specs.Views.{head_of}
use Rattle.ped_affine.specs.Ranges.{Setting, Around, between_ends, inside, loop_range, around_with, ranges_inside, nest_ranges}
use Rattle.ped_affine.specs.PairViews.{heads_of}
use Rattle.ped_affine.specs.Surroundings.{with_ranges}

no_ranges : (hs : List Head) → with_ranges hs [] ≡ []
no_ranges [] = refl
no_ranges (h ∷ hs) = refl

-- behind the last range no loop is found
pub none_left : (x : List ℕ) (hs : List Head) (rs : List Range) → rs ≡ [] → lookup (is_same_text x) (with_ranges hs rs) ≡ None
none_left x hs rs e = ap (λ (rs : List Range). lookup (is_same_text x) (with_ranges hs rs)) e ∙ ap (lookup (is_same_text x)) (no_ranges hs)

-- one more loop with its range stands behind the others
with_one_more : (hs : List Head) (rs : List Range) (h : Head) (r : Range) → length hs ≡ length rs → with_ranges (hs ++ h ∷ []) (rs ++ r ∷ []) ≡ inside (with_ranges hs rs) h r
with_one_more [] [] h r e = refl
with_one_more [] (q ∷ rs) h r e = absurd (omega arith)
with_one_more (g ∷ hs) [] h r e = absurd (omega arith)
with_one_more (g ∷ hs) (q ∷ rs) h r e = ap (λ (rest : Around). (g.variable, between_ends q) ∷ rest) (with_one_more hs rs h r (omega arith))

pub heads-append : (ls ms : List Loop) → heads_of (nest_of (ls ++ ms)) ≡ heads_of (nest_of ls) ++ heads_of (nest_of ms)
heads-append [] ms = refl
heads-append (l ∷ ls) ms = ap (λ (rest : List Head). head_of l.statement.now ∷ rest) (heads-append ls ms)

length-heads : (ls : List Loop) → length (heads_of (nest_of ls)) ≡ length ls
length-heads [] = refl
length-heads (l ∷ ls) = ap suc (length-heads ls)

-- the ranges found so far, and those of the loops that are left, where one more is found
pub ranges_more : (s : Setting) (ls ms : List Loop) (l : Loop) (rs : List Range) (r : Range) → length ls ≡ length rs → r ≡ loop_range s (with_ranges (heads_of (nest_of ls)) rs) (head_of l.statement.now) →
    (rs ++ r ∷ []) ++ ranges_inside s (with_ranges (heads_of (nest_of (ls ++ l ∷ []))) (rs ++ r ∷ [])) (heads_of (nest_of ms))
    ≡ rs ++ ranges_inside s (with_ranges (heads_of (nest_of ls)) rs) (heads_of (nest_of (l ∷ ms)))
ranges_more s ls ms l rs r e is =
    let around : Around = with_ranges (heads_of (nest_of ls)) rs in
    let h : Head = head_of l.statement.now in
    let rest : Around → List Range = λ a. ranges_inside s a (heads_of (nest_of ms)) in
    let grown : with_ranges (heads_of (nest_of (ls ++ l ∷ []))) (rs ++ r ∷ []) ≡ inside around h r =
    ap (λ (hs : List Head). with_ranges hs (rs ++ r ∷ [])) (heads-append ls (l ∷ [])) ∙ with_one_more (heads_of (nest_of ls)) rs h r (length-heads ls ∙ e) in
    ap (λ (a : Around). (rs ++ r ∷ []) ++ rest a) grown ∙ append_assoc rs (r ∷ []) (rest (inside around h r))
    ∙ ap (λ (q : Range). rs ++ q ∷ rest (inside around h q)) is

-- the same at a place in the lists
pub ranges_step : (s : Setting) (ls : List Loop) (rs all : List Range) (i : ℕ) (l : Loop) (r : Range) → i < length ls → i < length rs →
    l ≡ get_or ls i l → r ≡ loop_range s (with_ranges (heads_of (nest_of (take i ls))) (take i rs)) (head_of l.statement.now) →
    take i rs ++ ranges_inside s (with_ranges (heads_of (nest_of (take i ls))) (take i rs)) (heads_of (nest_of (drop i ls))) ≡ all →
    take (i + 1) (set rs i r) ++ ranges_inside s (with_ranges (heads_of (nest_of (take (i + 1) ls))) (take (i + 1) (set rs i r))) (heads_of (nest_of (drop (i + 1) ls))) ≡ all
ranges_step s ls rs all i l r p q at is so_far =
    let e1 = take_more_set rs i r q in
    let e2 : take (i + 1) ls ≡ take i ls ++ l ∷ [] = take_more ls i l p ∙ ap (λ (m : Loop). take i ls ++ m ∷ []) (sym at) in
    let e3 : drop i ls ≡ l ∷ drop (i + 1) ls = drop_more ls i l p ∙ ap (λ (m : Loop). m ∷ drop (i + 1) ls) (sym at) in
    let same : length (take i ls) ≡ length (take i rs) = length-take-le i ls (omega arith) ∙ sym (length-take-le i rs (omega arith)) in
    (λ j. e1 j ++ ranges_inside s (with_ranges (heads_of (nest_of (e2 j))) (e1 j)) (heads_of (nest_of (drop (i + 1) ls))))
    ∙ ranges_more s (take i ls) (drop (i + 1) ls) l (take i rs) r same is
    ∙ (λ j. take i rs ++ ranges_inside s (with_ranges (heads_of (nest_of (take i ls))) (take i rs)) (heads_of (nest_of (sym e3 j))))
    ∙ so_far

-- as many ranges as loops
pub length-ranges : (s : Setting) (around : Around) (hs : List Head) → length (ranges_inside s around hs) ≡ length hs
length-ranges s around [] = refl
length-ranges s around (h ∷ hs) = ap suc (length-ranges s (inside around h (loop_range s around h)) hs)

pub length-nest_ranges : (s : Setting) (ls : List Loop) → length (nest_ranges s (heads_of (nest_of ls))) ≡ length ls
length-nest_ranges s ls = length-ranges s [] (heads_of (nest_of ls)) ∙ length-heads ls

-- loops with the ranges found for them, behind those around, are those around with the nest inside them
pub nest_inside : (s : Setting) (around : Around) (hs : List Head) → around ++ with_ranges hs (ranges_inside s around hs) ≡ around_with s around hs
nest_inside s around [] = append-nil around
nest_inside s around (h ∷ hs) =
    let r : Range = loop_range s around h in
    sym (append_assoc around ((h.variable, between_ends r) ∷ []) (with_ranges hs (ranges_inside s (inside around h r) hs)))
    ∙ nest_inside s (inside around h r) hs
