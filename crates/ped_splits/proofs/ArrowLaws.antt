-- Arrows that are added one by one.
use Rattle.std.proofs.Common.{◌≡◌, ◌⊎◌, ◌↔◌, ℕ, ◌+◌, ◌<◌, ◌==◌, List, [], ◌∷◌, ◌++◌, length, take, map, get_or, slice_index_or, slice_set, Bool, true, false, ◌&&◌, ◌||◌, IsTrue, inl, inr, refl, sym, ap, subst, ◌∙◌, arith}
use Rattle.std.specs.List.{list_any}
use Rattle.std.proofs.lemmas.List.{get_or-set_same, get_or-set_other, map-append, take_more}
use Rattle.std.proofs.lemmas.List.Folds.{list_any-append}
use Rattle.std.proofs.lemmas.Bool.{cases_eq, eqb-true, eq-eqb, false≢true}
use Rattle.ped_bits.specs.Places.{Has}
use Rattle.ped_bits.specs.Reaching.{row_of, Arrow}

-- arrows of new rows: those of the old ones, and others
abbrev pub Adds : List (List Bool) → List (List Bool) → (ℕ → ℕ → Type 0) → Type 0
Adds old new P = (i j : ℕ) → Arrow new i j ↔ (Arrow old i j ⊎ P i j)

-- and as many rows
pub record HasAdded (old new : List (List Bool)) (P : ℕ → ℕ → Type 0) : Type 0 where
  pub width : length new ≡ length old
  pub arrows : Adds old new P

-- no arrow is added
pub adds_none : (old : List (List Bool)) (P : ℕ → ℕ → Type 0) → ((i j : ℕ) → P i j → ⊥) → Adds old old P
adds_none old P none i j = (
  (λ a. inl a),
  λ s. elim s [
    | inl a ↦ a
    | inr p ↦ absurd (none i j p)
  ],
)

-- arrows are added in two steps
pub adds_both : (old mid new : List (List Bool)) (P Q R : ℕ → ℕ → Type 0) → Adds old mid P → Adds mid new Q → ((i j : ℕ) → (P i j ⊎ Q i j) ↔ R i j) → Adds old new R
adds_both old mid new P Q R p q r i j = (there, back)
  where
    there : Arrow new i j → Arrow old i j ⊎ R i j
    there a = elim ((q i j).0 a) [
      | inl b ↦ elim ((p i j).0 b) [
        | inl c ↦ inl c
        | inr x ↦ inr ((r i j).0 (inl x))
      ]
      | inr x ↦ inr ((r i j).0 (inr x))
    ]

    back : Arrow old i j ⊎ R i j → Arrow new i j
    back (inl c) = (q i j).1 (inl ((p i j).1 (inl c)))
    back (inr x) = elim ((r i j).1 x) [
      | inl y ↦ (q i j).1 (inl ((p i j).1 (inr y)))
      | inr y ↦ (q i j).1 (inr y)
    ]

-- other words for what is added
pub adds_same : (old new : List (List Bool)) (P Q : ℕ → ℕ → Type 0) → Adds old new P → ((i j : ℕ) → P i j ↔ Q i j) → Adds old new Q
adds_same old new P Q p same i j = (there, back)
  where
    there : Arrow new i j → Arrow old i j ⊎ Q i j
    there a = elim ((p i j).0 a) [
      | inl c ↦ inl c
      | inr x ↦ inr ((same i j).0 x)
    ]

    back : Arrow old i j ⊎ Q i j → Arrow new i j
    back (inl c) = (p i j).1 (inl c)
    back (inr x) = (p i j).1 (inr ((same i j).1 x))

-- one arrow
module _ (m : List (List Bool)) (from to : ℕ) where
  abbrev new : List Bool
  new = slice_set (row_of m from) to true

  abbrev after : List (List Bool)
  after = slice_set m from new

  pub adds_one : from < length m → to < length (row_of m from) → Adds m after (λ i j. (i ≡ from) × (j ≡ to))
  adds_one f t i j = elim (cases_eq i from) [
    | inl e ↦ elim (cases_eq j to) [
      | inl d ↦ ((λ a. inr (e, d)), λ s. ap (λ (k : ℕ). slice_index_or (row_of after k) j false) e ∙ ap (λ (row : List Bool). slice_index_or row j false) row_there ∙ ap (λ (k : ℕ). slice_index_or new k false) d ∙ get_or-set_same (row_of m from) to true false t)
      | inr n ↦
          let same : slice_index_or (row_of after i) j false ≡ slice_index_or (row_of m i) j false =
          ap (λ (k : ℕ). slice_index_or (row_of after k) j false) e ∙ ap (λ (row : List Bool). slice_index_or row j false) row_there ∙ get_or-set_other (row_of m from) to j true false n
          ∙ ap (λ (k : ℕ). slice_index_or (row_of m k) j false) (sym e) in
          as_before same (λ p. n p.1)
    ]
    | inr n ↦ as_before (ap (λ (row : List Bool). slice_index_or row j false) (get_or-set_other m from i new [] n)) (λ p. n p.0)
  ]
    where
      row_there : row_of after from ≡ new
      row_there = get_or-set_same m from new [] f

      as_before : slice_index_or (row_of after i) j false ≡ slice_index_or (row_of m i) j false → ((i ≡ from) × (j ≡ to) → ⊥) → Arrow after i j ↔ (Arrow m i j ⊎ ((i ≡ from) × (j ≡ to)))
      as_before same none = (
        (λ a. inl (sym same ∙ a)),
        λ s. elim s [
          | inl a ↦ same ∙ a
          | inr p ↦ absurd (none p)
        ],
      )

-- truth of two
pub true_either : (a b : Bool) → (IsTrue a ⊎ IsTrue b) ↔ IsTrue (a || b)
true_either true b = ((λ s. refl), λ t. inl refl)
true_either false b = (
  (λ s. elim s [
    | inl x ↦ absurd cc
    | inr x ↦ x
  ]),
  λ t. inr t,
)

pub true_both : (a b : Bool) → (IsTrue a × IsTrue b) ↔ IsTrue (a && b)
true_both true b = ((λ p. p.1), λ t. (refl, t))
true_both false b = ((λ p. absurd (let e = p.0 in cc)), λ t. absurd cc)

pub true_equal : (a b : ℕ) → (b ≡ a) ↔ IsTrue (a == b)
true_equal a b = ((λ e. eq-eqb a b (sym e)), λ t. sym (eqb-true a b t))

-- one more behind a list
pub one_behind : {Y : Type 0} (f : Y → Bool) (ys zs : List Y) (y : Y) → zs ≡ ys ++ y ∷ [] → (IsTrue (list_any f ys) ⊎ IsTrue (f y)) ↔ IsTrue (list_any f zs)
one_behind f ys zs y e = (there, back)
  where
    whole : list_any f zs ≡ (list_any f ys || (f y || false))
    whole = ap (list_any f) e ∙ list_any-append f ys (y ∷ [])

    there : IsTrue (list_any f ys) ⊎ IsTrue (f y) → IsTrue (list_any f zs)
    there (inl t) = whole ∙ (true_either (list_any f ys) (f y || false)).0 (inl t)
    there (inr t) = whole ∙ (true_either (list_any f ys) (f y || false)).0 (inr ((true_either (f y) false).0 (inl t)))

    back : IsTrue (list_any f zs) → IsTrue (list_any f ys) ⊎ IsTrue (f y)
    back t = elim ((true_either (list_any f ys) (f y || false)).1 (sym whole ∙ t)) [
      | inl a ↦ inl a
      | inr b ↦ elim ((true_either (f y) false).1 b) [
        | inl a ↦ inr a
        | inr a ↦ absurd (false≢true a)
      ]
    ]

-- what is taken of a list, and one more
pub taken : {X Y : Type 0} (g : X → Y) (xs : List X) (k : ℕ) (x : X) → k < length xs → x ≡ get_or xs k x → map g (take (k + 1) xs) ≡ map g (take k xs) ++ g x ∷ []
taken g xs k x h is = ap (map g) (take_more xs k x h) ∙ map-append g (take k xs) (get_or xs k x ∷ []) ∙ ap (λ (y : _). map g (take k xs) ++ g y ∷ []) (sym is)

-- arrows for one more of a list
pub added_more : {Y : Type 0} (old mid new : List (List Bool)) (f : ℕ → ℕ → Y → Bool) (ys zs : List Y) (y : Y) → zs ≡ ys ++ y ∷ [] → HasAdded old mid (λ i j. IsTrue (list_any (f i j) ys)) → length new ≡ length mid
    → Adds mid new (λ i j. IsTrue (f i j y)) → HasAdded old new (λ i j. IsTrue (list_any (f i j) zs))
added_more old mid new f ys zs y e before long more = record {
  width = long ∙ before.width;
  arrows = adds_both old mid new (λ i j. IsTrue (list_any (f i j) ys)) (λ i j. IsTrue (f i j y)) (λ i j. IsTrue (list_any (f i j) zs)) before.arrows more (λ i j. one_behind (f i j) ys zs y e);
}
