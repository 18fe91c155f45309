use Rattle.std.proofs.Common.{◌≡◌, ◌∙◌, ℤ, Bool, true, List, [], ◌∷◌, ◌&&◌, eqb, sym, ap, take, refl, Decides}
use Rattle.std.specs.Ordering.{int_eq}
use Rattle.std.proofs.lemmas.Bool.{and_parts, and_from, eqb-true, eq-eqb}
use Rattle.std.proofs.lemmas.Bool.Decides.{Decides-int_eq}
use lib.Pointwise.{pointwise}
use Rattle.ped_base.specs.Dimensions.{dimensions, bounds, IsBounds, bounds_back}
use Rattle.ped_base.specs.declared.bounds.Bounds.TheInside.{Inside}
use Rattle.ped_links.proofs.arguments.are_same.Goals as goal

-- the same bounds are kept in the same way
same_inside : (x y : Inside) → IsBounds x → IsBounds y → dimensions x ≡ dimensions y → x ≡ y
same_inside x y h k e = sym (bounds_back x h) ∙ ap bounds e ∙ bounds_back y k

made_same : (x y : Inside) → x.rank ≡ y.rank → x.lower ≡ y.lower → x.upper ≡ y.upper → dimensions x ≡ dimensions y
made_same x y r l u = λ i. record { lower = take (r i) (l i); upper = take (r i) (u i) }

points_same : (xs ys : List ℤ) → pointwise int_eq xs ys ≡ true → xs ≡ ys
points_same [] [] h = refl
points_same [] (y ∷ ys) h = absurd cc
points_same (x ∷ xs) [] h = absurd cc
points_same (x ∷ xs) (y ∷ ys) h =
    let parts = and_parts (int_eq x y) (pointwise int_eq xs ys) h in
    let e = (Decides-int_eq x y).0 parts.0 in
    λ i. e i ∷ points_same xs ys parts.1 i

same_points : (xs ys : List ℤ) → xs ≡ ys → pointwise int_eq xs ys ≡ true
same_points xs ys e = ap (pointwise int_eq xs) (sym e) ∙ itself xs
  where
    itself : (zs : List ℤ) → pointwise int_eq zs zs ≡ true
    itself [] = refl
    itself (z ∷ zs) = and_from (int_eq z z) (pointwise int_eq zs zs) ((Decides-int_eq z z).1 refl) (itself zs)

-- the test of the code
same_told : (x y : Inside) (lowers uppers : Bool) → IsBounds x → IsBounds y → lowers ≡ pointwise int_eq x.lower y.lower → uppers ≡ pointwise int_eq x.upper y.upper → Decides (eqb x.rank y.rank && lowers && uppers) (dimensions x ≡ dimensions y)
same_told x y lowers uppers h k l u = (forth, back)
  where
    forth : (eqb x.rank y.rank && lowers && uppers) ≡ true → dimensions x ≡ dimensions y
    forth t =
        let both = and_parts (eqb x.rank y.rank && lowers) uppers t in
        let first = and_parts (eqb x.rank y.rank) lowers both.0 in
        made_same x y (eqb-true x.rank y.rank first.0) (points_same x.lower y.lower (sym l ∙ first.1)) (points_same x.upper y.upper (sym u ∙ both.1))

    back : dimensions x ≡ dimensions y → (eqb x.rank y.rank && lowers && uppers) ≡ true
    back e =
        let is = same_inside x y h k e in
        and_from (eqb x.rank y.rank && lowers) uppers
        (and_from (eqb x.rank y.rank) lowers (eq-eqb x.rank y.rank (ap (λ (z : Inside). z.rank) is)) (l ∙ same_points x.lower y.lower (ap (λ (z : Inside). z.lower) is))) (u ∙ same_points x.upper y.upper (ap (λ (z : Inside). z.upper) is))

pub returns : goal.returns
returns c =
    let test = same_told c.a.inside c.b.inside c.eq-lowers.result c.eq-uppers.result c.a.invariant c.b.invariant c.eq-lowers.ensures c.eq-uppers.ensures in
    (λ t. sym c.a.view_is ∙ test.0 t ∙ c.b.view_is, λ e. test.1 (c.a.view_is ∙ e ∙ sym c.b.view_is))
