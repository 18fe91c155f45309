-- Names for arrays that don't occur in a program, three for each scalar.
use Rattle.std.proofs.Common.{◌≡◌, ℕ, suc, ◌+◌, ◌-◌, ◌<◌, Bool, true, false, not, List, [], ◌∷◌, ◌++◌, map, filter, Option, Some, None, refl, sym, ap, ◌∙◌, cond, arith, append_assoc}
use Rattle.std.specs.Prelude.{codes, option_map}
use Rattle.std.specs.Fmt.{decimal}
use Rattle.std.proofs.lemmas.List.{map-append}
use Rattle.ped_tree.specs.Tree.{ProgramTree}
use Rattle.ped_rules.specs.Fresh.{occurs, numbered_names, most_numbered}
use Rattle.ped_reduce.specs.declared.partials.Partials.{Partials as CodePartials}
use Rattle.ped_reduce.specs.Lowering.{Partials, fresh_arrays, partials_of}
use Rattle.ped_reduce.specs.CodeLowering.{partials_view, fresh_from}

-- the name KX with a number
abbrev pub numbered : ℕ → List ℕ
numbered n = codes "KX" ++ decimal n

module _ (t : ProgramTree) where
  pub fresh_is : fresh_arrays t ≡ fresh_from t 1
  fresh_is = let e : most_numbered ≡ most_numbered + 1 - 1 = omega arith in ap (λ (count : ℕ). filter (λ x. not (occurs t x)) (numbered_names (codes "KX") 1 count)) e

  next_number : (n : ℕ) → n < most_numbered + 1 → fresh_from t n ≡ cond (not (occurs t (numbered n))) (numbered n ∷ fresh_from t (n + 1)) (fresh_from t (n + 1))
  next_number n h =
      let e : most_numbered + 1 - n ≡ suc (most_numbered + 1 - (n + 1)) = omega (arith, h) in
      ap (λ (count : ℕ). filter (λ x. not (occurs t x)) (numbered_names (codes "KX") n count)) e

  pub taken : (n : ℕ) → n < most_numbered + 1 → occurs t (numbered n) ≡ true → fresh_from t n ≡ fresh_from t (n + 1)
  taken n h e = next_number n h ∙ ap (λ (b : Bool). cond (not b) (numbered n ∷ fresh_from t (n + 1)) (fresh_from t (n + 1))) e

  pub free : (n : ℕ) → n < most_numbered + 1 → occurs t (numbered n) ≡ false → fresh_from t n ≡ numbered n ∷ fresh_from t (n + 1)
  free n h e = next_number n h ∙ ap (λ (b : Bool). cond (not b) (numbered n ∷ fresh_from t (n + 1)) (fresh_from t (n + 1))) e

  pub no_more : (n : ℕ) → most_numbered + 1 - n ≡ 0 → fresh_from t n ≡ []
  no_more n h = ap (λ (count : ℕ). filter (λ x. not (occurs t x)) (numbered_names (codes "KX") n count)) h

-- one scalar's arrays, by how many names there are
module _ (x : List ℕ) (xs : List (List ℕ)) where
  pub some_three : (a b c : List ℕ) (fresh rest more last : List (List ℕ)) → fresh ≡ a ∷ rest → rest ≡ b ∷ more → more ≡ c ∷ last
      → partials_of (x ∷ xs) fresh ≡ option_map (λ ps. (record { scalar = x; high = a; low = b; flag = c }) ∷ ps) (partials_of xs last)
  some_three a b c fresh rest more last e f g =
      ap (partials_of (x ∷ xs)) (e ∙ ap (λ (ys : List (List ℕ)). a ∷ ys) (f ∙ ap (λ (ys : List (List ℕ)). b ∷ ys) g))

-- all scalars
map_itself : (o : Option (List Partials)) → option_map (λ ps. [] ++ ps) o ≡ o
map_itself None = refl
map_itself (Some ps) = refl

map_twice : (f g : List Partials → List Partials) (o : Option (List Partials)) → option_map f (option_map g o) ≡ option_map (λ ps. f (g ps)) o
map_twice f g None = refl
map_twice f g (Some ps) = refl

pub begin : (t : ProgramTree) (names : List (List ℕ)) → option_map (λ ps. [] ++ ps) (partials_of names (fresh_from t 1)) ≡ partials_of names (fresh_arrays t)
begin t names = map_itself (partials_of names (fresh_from t 1)) ∙ ap (partials_of names) (sym (fresh_is t))

pub one_more : (all : List CodePartials) (p : CodePartials) (names xs : List (List ℕ)) (x : List ℕ) (fresh left : List (List ℕ)) (whole : Option (List Partials))
    → names ≡ x ∷ xs
    → option_map (λ ps. map partials_view all ++ ps) (partials_of names fresh) ≡ whole
    → partials_of (x ∷ xs) fresh ≡ option_map (λ ps. partials_view p ∷ ps) (partials_of xs left)
    → option_map (λ ps. map partials_view (all ++ p ∷ []) ++ ps) (partials_of xs left) ≡ whole
one_more all p names xs x fresh left whole is h e =
    (λ i. option_map (λ ps. joined ps i) (partials_of xs left))
    ∙ sym (map_twice (λ ps. map partials_view all ++ ps) (λ ps. partials_view p ∷ ps) (partials_of xs left))
    ∙ ap (option_map (λ ps. map partials_view all ++ ps)) (sym e)
    ∙ ap (λ (ns : List (List ℕ)). option_map (λ ps. map partials_view all ++ ps) (partials_of ns fresh)) (sym is)
    ∙ h
  where
    joined : (ps : List Partials) → map partials_view (all ++ p ∷ []) ++ ps ≡ map partials_view all ++ (partials_view p ∷ ps)
    joined ps = ap (λ (zs : List Partials). zs ++ ps) (map-append partials_view all (p ∷ [])) ∙ append_assoc (map partials_view all) (partials_view p ∷ []) ps
