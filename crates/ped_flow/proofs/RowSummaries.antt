-- What rows that are put together say at each place, from what the rows of the parts say.
use Rattle.std.proofs.Common.{◌≡◌, ℕ, List, length, Bool, true, false, ◌&&◌, ◌||◌, not, Option, Some, None, is_some, if◌then◌else◌, refl, sym, ap, ◌∙◌}
use Rattle.ped_bits.specs.Places.{union, without}
use Rattle.ped_flow.specs.Events.{clears}
use Rattle.ped_flow.specs.Summaries.{least_of, when, passing, of_manner}
use Rattle.ped_flow.specs.RowPlaces.{bit}
use Rattle.ped_flow.proofs.RowLaws.{length-union, length-without, union_at, without_at}

not_not : (a : Bool) → not (not a) ≡ a
not_not true = refl
not_not false = refl

and-flip : (a b : Bool) → (a && b) ≡ (b && a)
and-flip true true = refl
and-flip true false = refl
and-flip false true = refl
and-flip false false = refl

not-and : (a b : Bool) → (not a || not b) ≡ not (a && b)
not-and true b = refl
not-and false b = refl

not-or : (a b : Bool) → (not a && not (not a && not (not b))) ≡ not (a || b)
not-or true b = refl
not-or false true = refl
not-or false false = refl

some-least : (a b : Option ℕ) → is_some (least_of a b) ≡ (is_some a || is_some b)
some-least None b = refl
some-least (Some a) None = refl
some-least (Some a) (Some b) = refl

some-when : (k : Bool) (a : Option ℕ) → is_some (when k a) ≡ (is_some a && not (not k))
some-when true None = refl
some-when true (Some a) = refl
some-when false None = refl
some-when false (Some a) = refl

-- a union with what isn't in a third
pub or_less_at : (a b c r : List Bool) (i : ℕ) → length a ≡ length b → length b ≡ length c → r ≡ union a (without b c) → bit r i ≡ (bit a i || (bit b i && not (bit c i)))
or_less_at a b c r i ab bc e =
    ap (λ (z : List Bool). bit z i) e ∙ union_at a (without b c) i (ab ∙ sym (length-without b c bc)) ∙ ap (λ (z : Bool). bit a i || z) (without_at b c i bc)

pub or_at : (a b r : List Bool) (i : ℕ) → length a ≡ length b → r ≡ union a b → bit r i ≡ (bit a i || bit b i)
or_at a b r i ab e = ap (λ (z : List Bool). bit z i) e ∙ union_at a b i ab

-- what is in both
pub common_at : (a b r : List Bool) (i : ℕ) → length a ≡ length b → r ≡ without a (without a b) → bit r i ≡ (bit a i && not (bit a i && not (bit b i)))
common_at a b r i ab e =
    ap (λ (z : List Bool). bit z i) e ∙ without_at a (without a b) i (sym (length-without a b ab)) ∙ ap (λ (z : Bool). bit a i && not z) (without_at a b i ab)

-- what isn't in a second row, and what of a third isn't in a fourth
pub less_or_at : (a b c d r : List Bool) (i : ℕ) → length a ≡ length b → length a ≡ length c → length c ≡ length d → r ≡ union (without a b) (without c d) → bit r i ≡ ((bit a i && not (bit b i)) || (bit c i && not (bit d i)))
less_or_at a b c d r i ab ac cd e =
    ap (λ (z : List Bool). bit z i) e ∙ union_at (without a b) (without c d) i (length-without a b ab ∙ ac ∙ sym (length-without c d cd)) ∙ (λ j. without_at a b i ab j || without_at c d i cd j)

-- what is left of a row, and a union, are as wide as the rows
pub less_wide : (a b r : List Bool) (w : ℕ) → r ≡ without a b → length a ≡ w → length b ≡ w → length r ≡ w
less_wide a b r w e h k = ap length e ∙ length-without a b (h ∙ sym k) ∙ h

pub union_wide : (a b r : List Bool) (w : ℕ) → r ≡ union a b → length a ≡ w → length b ≡ w → length r ≡ w
union_wide a b r w e h k = ap length e ∙ length-union a b (h ∙ sym k) ∙ h

-- the reads of one part and then of another, and of either
pub reads_then : (p q s : Bool) (f g : Option ℕ) (k : Bool) → p ≡ is_some f → q ≡ is_some g → s ≡ not k → (p || (q && not s)) ≡ is_some (least_of f (when k g))
reads_then p q s f g k hp hq hs = (λ j. hp j || (hq j && not (hs j))) ∙ ap (λ (z : Bool). is_some f || z) (sym (some-when k g)) ∙ sym (some-least f (when k g))

pub reads_or : (p q : Bool) (f g : Option ℕ) → p ≡ is_some f → q ≡ is_some g → (p || q) ≡ is_some (least_of f g)
reads_or p q f g hp hq = (λ j. hp j || hq j) ∙ sym (some-least f g)

pub ends_then : (p q s a b k : Bool) → p ≡ a → q ≡ b → s ≡ not k → (p || (q && not s)) ≡ (a || (k && b))
ends_then p q s a b k hp hq hs = (λ j. hp j || (hq j && not (hs j))) ∙ ap (λ (z : Bool). a || (b && z)) (not_not k) ∙ ap (λ (z : Bool). a || z) (and-flip b k)

pub not_both : (p q a b : Bool) → p ≡ not a → q ≡ not b → (p || q) ≡ not (a && b)
not_both p q a b hp hq = (λ j. hp j || hq j) ∙ not-and a b

pub loses_then : (p q s t l k m w : Bool) → p ≡ l → q ≡ not k → s ≡ m → t ≡ not w → ((p && not q) || (s && not t)) ≡ ((l && k) || (w && m))
loses_then p q s t l k m w hp hq hs ht =
    (λ j. (hp j && not (hq j)) || (hs j && not (ht j))) ∙ (λ j. (l && not_not k j) || (m && not_not w j)) ∙ ap (λ (z : Bool). (l && k) || z) (and-flip m w)

pub not_either : (p q a b : Bool) → p ≡ not a → q ≡ not b → (p && not (p && not q)) ≡ not (a || b)
not_either p q a b hp hq = (λ j. hp j && not (hp j && not (hq j))) ∙ not-or a b

-- a scalar loses its value, or nothing happens to it
pub cleared_first : (b : Bool) → is_some (if b then of_manner clears 0 else passing).first ≡ false
cleared_first true = refl
cleared_first false = refl

pub cleared_keeps : (b : Bool) → not (if b then of_manner clears 0 else passing).keeps ≡ b
cleared_keeps true = refl
cleared_keeps false = refl

pub cleared_ends : (b : Bool) → (if b then of_manner clears 0 else passing).ends ≡ false
cleared_ends true = refl
cleared_ends false = refl

pub cleared_passes : (b : Bool) → not (if b then of_manner clears 0 else passing).passes ≡ false
cleared_passes true = refl
cleared_passes false = refl

pub cleared_loses : (b : Bool) → (if b then of_manner clears 0 else passing).loses ≡ b
cleared_loses true = refl
cleared_loses false = refl
