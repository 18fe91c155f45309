-- Stores of a run in which sums are kept apart, beside those of the run in which they aren't.
use Rattle.std.proofs.Common.{◌≡◌, ℕ, ℤ, pos, List, [], ◌∷◌, Bool, true, false, ◌&&◌, ◌||◌, ◌⊎◌, inl, inr, if◌then◌else◌, refl, sym, ap, subst, ◌∙◌}
use Rattle.std.specs.Ordering.{int_eq}
use Rattle.std.specs.List.{list_any}
use Rattle.std.specs.Cmp.Lexicographic.{pointwise}
use Rattle.std.proofs.lemmas.Bool.{both_ways, or_left, or_right}
use Rattle.ped_base.specs.Lists.{is_same_text}
use Rattle.ped_rules.specs.ped_store.specs.Cells.{Cell, Scalar, Element, Private, In, Out, same_cell}
use Rattle.ped_rules.specs.ped_store.specs.Stores.{Content, Number, Store, put}
use Rattle.ped_rules.specs.ped_store.specs.Acts.{Manner, reads, writes, is_told, Touch, store_behind, touched}
use Rattle.ped_rules.specs.ped_laws.specs.Acts.Orders.{IsIn}
use Rattle.ped_rules.specs.ped_laws.proofs.ActLaws.SameCells.{text_itself, other_cell}
use Rattle.ped_rules.specs.ped_laws.proofs.ActLaws.Stores.{put_other}
use Rattle.ped_reduce.specs.Lowering.{Partials}
use Rattle.ped_reduce.proofs.SplitSums.{Is32, AreParts}
use Rattle.ped_reduce.proofs.SumSight.{AllTouch}

-- one of the arrays in which what is added to this scalar is kept
abbrev pub is_array_of : Partials → List ℕ → Bool
is_array_of p x = is_same_text x p.high || (is_same_text x p.low || is_same_text x p.flag)

-- one of the arrays in which what is added to some of these scalars is kept
abbrev pub is_array : List Partials → List ℕ → Bool
is_array ps x = list_any (λ p. is_array_of p x) ps

-- one of these scalars
abbrev pub is_total : List Partials → List ℕ → Bool
is_total ps x = list_any (λ p. is_same_text x p.scalar) ps

-- one of these scalars, or of their arrays
abbrev pub is_either : List Partials → List ℕ → Bool
is_either ps x = is_total ps x || is_array ps x

-- the cell of one of these scalars, or an element of their arrays
abbrev pub is_apart : List Partials → Cell → Bool
is_apart ps (Scalar x) = is_total ps x
is_apart ps (Element x subscripts) = is_array ps x
is_apart ps (Private x path) = false
is_apart ps In = false
is_apart ps Out = false

-- an element of these arrays at this value of the DO's variable
abbrev pub is_own : List Partials → ℤ → Cell → Bool
is_own ps k (Element x subscripts) = is_array ps x && pointwise int_eq (k ∷ []) subscripts
is_own ps k (Scalar x) = false
is_own ps k (Private x path) = false
is_own ps k In = false
is_own ps k Out = false

-- the element of an array at a value
abbrev pub part : List ℕ → ℤ → Cell
part array k = Element array (k ∷ [])

-- nothing has been added: the parts are 0, the flag is 0, and the scalar is as it was
pub record IsNone (c high low flag d : Content) : Type 0 where
  pub high_is : high ≡ Number (pos 0)
  pub low_is : low ≡ Number (pos 0)
  pub flag_is : flag ≡ Number (pos 0)
  pub same : d ≡ c

-- something has been added: the scalar was x and is y, which the parts tell, and the flag is 1
pub record IsSome (c high low flag d : Content) : Type 0 where
  pub x : ℤ
  pub y : ℤ
  pub a : ℤ
  pub b : ℤ
  pub was : c ≡ Number x
  pub is : d ≡ Number y
  pub high_is : high ≡ Number a
  pub low_is : low ≡ Number b
  pub flag_is : flag ≡ Number (pos 1)
  pub parts : AreParts x y a b
  pub x_small : Is32 x
  pub y_small : Is32 y

-- what has been added to a scalar that held c, and holds d where sums aren't kept apart
abbrev pub Adds : (c high low flag d : Content) → Type 0
Adds c high low flag d = IsNone c high low flag d ⊎ IsSome c high low flag d

-- in an iteration at the value k: both stores hold the same but in the scalars and the arrays; of these the new store holds what it held when the iteration began, in w, but for the elements at k, and these tell what has been added to each scalar since the iteration began with v where sums aren't kept apart
pub record Within (ps : List Partials) (k : ℤ) (v w s u : Store) : Type 0 where
  pub same : (c : Cell) → is_apart ps c ≡ false → u c ≡ s c
  pub others : (c : Cell) → is_apart ps c ≡ true → is_own ps k c ≡ false → u c ≡ w c
  pub sums : (p : Partials) → IsIn p ps → Adds (v (Scalar p.scalar)) (u (part p.high k)) (u (part p.low k)) (u (part p.flag k)) (s (Scalar p.scalar))

-- the scalars, where they hold numbers, hold numbers of 32 bits
abbrev pub AreSmall : List Partials → Store → Type 0
AreSmall ps v = (p : Partials) → IsIn p ps → (x : ℤ) → v (Scalar p.scalar) ≡ Number x → Is32 x

-- the arrays of two scalars, and these, differ
pub record AreDistinct (p o : Partials) : Type 0 where
  pub scalar : is_same_text p.scalar o.scalar ≡ false
  pub high : is_array_of o p.high ≡ false
  pub low : is_array_of o p.low ≡ false
  pub flag : is_array_of o p.flag ≡ false

-- the three arrays of a scalar differ
pub record AreThree (p : Partials) : Type 0 where
  pub high_low : is_same_text p.high p.low ≡ false
  pub high_flag : is_same_text p.high p.flag ≡ false
  pub low_flag : is_same_text p.low p.flag ≡ false

-- each of these scalars has arrays of its own
pub record HaveArrays (ps : List Partials) : Type 0 where
  pub three : (p : Partials) → IsIn p ps → AreThree p
  pub distinct : (p o : Partials) → IsIn p ps → IsIn o ps → (o ≡ p) ⊎ AreDistinct p o

pub any_in : {A : Type 0} (f : A → Bool) (x : A) (xs : List A) → IsIn x xs → f x ≡ true → list_any f xs ≡ true
any_in f x [] i h = absurd i
any_in f x (y ∷ ys) (inl e) h = ap (λ (b : Bool). b || list_any f ys) (ap f (sym e) ∙ h)
any_in f x (y ∷ ys) (inr i) h = late (f y) (any_in f x ys i h)
  where
    late : (b : Bool) {c : Bool} → c ≡ true → (b || c) ≡ true
    late true e = refl
    late false e = e

pub high_array : (p : Partials) → is_array_of p p.high ≡ true
high_array p = or_left _ _ (text_itself p.high)

pub low_array : (p : Partials) → is_array_of p p.low ≡ true
low_array p = or_right (is_same_text p.low p.high) _ (or_left _ _ (text_itself p.low))

pub flag_array : (p : Partials) → is_array_of p p.flag ≡ true
flag_array p = or_right (is_same_text p.flag p.high) _ (or_right (is_same_text p.flag p.low) _ (text_itself p.flag))

pub total_apart : (ps : List Partials) (p : Partials) → IsIn p ps → is_total ps p.scalar ≡ true
total_apart ps p i = any_in (λ (o : Partials). is_same_text p.scalar o.scalar) p ps i (text_itself p.scalar)

pub array_apart : (ps : List Partials) (p : Partials) (x : List ℕ) → IsIn p ps → is_array_of p x ≡ true → is_array ps x ≡ true
array_apart ps p x i h = any_in (λ (o : Partials). is_array_of o x) p ps i h

pub adds_same : (c : Content) (high low flag d high' low' flag' d' : Content) → high' ≡ high → low' ≡ low → flag' ≡ flag → d' ≡ d → Adds c high low flag d → Adds c high' low' flag' d'
adds_same c high low flag d high' low' flag' d' e f g h adds = subst (λ (x : Content). Adds c x low' flag' d') (sym e) (subst (λ (x : Content). Adds c high x flag' d') (sym f) (subst (λ (x : Content). Adds c high low x d') (sym g) (subst (λ (x : Content). Adds c high low flag x) (sym h) adds)))

-- writes of other cells keep all this
module _ (ps : List Partials) (k : ℤ) (v w : Store) where
  pub within_put : (c : Cell) (x : Content) (s u : Store) → is_apart ps c ≡ false → Within ps k v w s u → Within ps k v w (put c x s) (put c x u)
  within_put c x s u out h = record {
    same = λ d e. ap (λ (y : Content). if same_cell c d then x else y) (h.same d e);
    others = λ d e f. put_other c x u d (unlike d e) ∙ h.others d e f;
    sums = λ p i.
        let kept = λ (y : List ℕ) (a : is_array_of p y ≡ true). put_other c x u (part y k) (unlike (part y k) (array_apart ps p y i a)) in
        adds_same (v (Scalar p.scalar)) (u (part p.high k)) (u (part p.low k)) (u (part p.flag k)) (s (Scalar p.scalar)) (put c x u (part p.high k)) (put c x u (part p.low k)) (put c x u (part p.flag k)) (put c x s (Scalar p.scalar))
        (kept p.high (high_array p)) (kept p.low (low_array p)) (kept p.flag (flag_array p)) (put_other c x s (Scalar p.scalar) (unlike (Scalar p.scalar) (total_apart ps p i))) (h.sums p i);
  }
    where
      unlike : (d : Cell) → is_apart ps d ≡ true → same_cell c d ≡ false
      unlike d e = other_cell c d (λ q. both_ways (is_apart ps c) out (ap (is_apart ps) q ∙ e))

  -- touches of other cells, too
  within_touch : (m : Manner) (c : Cell) (x : Content) (s u : Store) → is_apart ps c ≡ false → Within ps k v w s u → Within ps k v w (touched m c x s) (touched m c x u)
  within_touch writes c x s u out h = within_put c x s u out h
  within_touch reads c x s u out h = h
  within_touch is_told c x s u out h = h

  pub within_touches : (ts : List Touch) (s u : Store) → AllTouch (λ c. is_apart ps c ≡ false) ts → Within ps k v w s u → Within ps k v w (store_behind ts s) (store_behind ts u)
  within_touches [] s u out h = h
  within_touches (t ∷ ts) s u out h = within_touches ts (touched t.manner t.cell t.content s) (touched t.manner t.cell t.content u) out.1 (within_touch t.manner t.cell t.content s u out.0 h)
