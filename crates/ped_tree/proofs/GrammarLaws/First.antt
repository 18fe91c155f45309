-- The first of findings is one of them, and none of them comes before it.
use Rattle.std.proofs.Common.{◌≡◌, ◌⊎◌, inl, inr, ℕ, Bool, true, false, if◌then◌else◌, List, [], ◌∷◌, ◌++◌, Option, Some, None, refl, sym, subst, eqb, eqb-true, ltb, ◌||◌, ◌&&◌, arith}
use Rattle.ped_tree.specs.Grammar.Refusal.{Finding, number_of, earlier, earliest, first_of, is_before, IsAmong}

-- first the earliest of the front, then that of the rest
pub earliest_append : (found : Option Finding) (front rest : List Finding) → earliest found (front ++ rest) ≡ earliest (earliest found front) rest
earliest_append found [] rest = refl
earliest_append found (r ∷ rs) rest = earliest_append (earlier found r) rs rest

-- by line, and then by number
abbrev before : ℕ → ℕ → ℕ → ℕ → Bool
before a p b q = ltb a b || (eqb a b && ltb p q)

forward : (a p b q c r : ℕ) → before a p b q ≡ true → before a p c r ≡ false → before b q c r ≡ false
forward a p b q c r h k = grind (arith, eqb-true)

backward : (a p b q c r : ℕ) → before a p b q ≡ false → before b q c r ≡ false → before a p c r ≡ false
backward a p b q c r h k = grind (arith, eqb-true)

itself : (a p : ℕ) → before a p a p ≡ false
itself a p = grind (arith, eqb-true)

-- not before what an earlier one isn't before
not_before_more : (x f r : Finding) → is_before x f ≡ true → is_before x r ≡ false → is_before f r ≡ false
unfolding is_before
not_before_more x f r h k = forward x.line (number_of x.refusal) f.line (number_of f.refusal) r.line (number_of r.refusal) h k

-- nor is a later one
not_before_later : (x f r : Finding) → is_before x f ≡ false → is_before f r ≡ false → is_before x r ≡ false
unfolding is_before
not_before_later x f r h k = backward x.line (number_of x.refusal) f.line (number_of f.refusal) r.line (number_of r.refusal) h k

-- r is what was found or one of these, and none comes before it
record IsFirst (found : Option Finding) (rs : List Finding) (r : Finding) : Type 0 where
  is : (found ≡ Some r) ⊎ IsAmong r rs
  start : (s : Finding) → found ≡ Some s → is_before s r ≡ false
  others : (s : Finding) → IsAmong s rs → is_before s r ≡ false

first_or_more : (x : Finding) (xs : List Finding) (r : Finding) → (Some x ≡ Some r) ⊎ IsAmong r xs → IsAmong r (x ∷ xs)
first_or_more x xs r (inl e) = inl (let same : r ≡ x = cc in same)
first_or_more x xs r (inr a) = inr a

others_with : (x : Finding) (xs : List Finding) (r s : Finding) → IsFirst (Some x) xs r → IsAmong s (x ∷ xs) → is_before s r ≡ false
others_with x xs r s l (inl e) = l.start s (let same : Some x ≡ Some s = cc in same)
others_with x xs r s l (inr a) = l.others s a

at_first : (x : Finding) (xs : List Finding) (r : Finding) → IsFirst (Some x) xs r → IsFirst None (x ∷ xs) r
at_first x xs r l = record {
  is = inr (first_or_more x xs r l.is);
  start = λ s e. absurd cc;
  others = λ s a. others_with x xs r s l a;
}

taken : (f x : Finding) (xs : List Finding) (r : Finding) → is_before x f ≡ true → IsFirst (Some x) xs r → IsFirst (Some f) (x ∷ xs) r
taken f x xs r h l = record {
  is = inr (first_or_more x xs r l.is);
  start = λ s e. let same : f ≡ s = cc in subst (λ t. is_before t r ≡ false) same (not_before_more x f r h (l.start x refl));
  others = λ s a. others_with x xs r s l a;
}

one_more : (f x : Finding) (xs : List Finding) (r : Finding) → (Some f ≡ Some r) ⊎ IsAmong r xs → (Some f ≡ Some r) ⊎ IsAmong r (x ∷ xs)
one_more f x xs r (inl e) = inl e
one_more f x xs r (inr a) = inr (inr a)

others_behind : (f x : Finding) (xs : List Finding) (r s : Finding) → is_before x f ≡ false → IsFirst (Some f) xs r → IsAmong s (x ∷ xs) → is_before s r ≡ false
others_behind f x xs r s h l (inl e) = subst (λ t. is_before t r ≡ false) (sym e) (not_before_later x f r h (l.start f refl))
others_behind f x xs r s h l (inr a) = l.others s a

kept : (f x : Finding) (xs : List Finding) (r : Finding) → is_before x f ≡ false → IsFirst (Some f) xs r → IsFirst (Some f) (x ∷ xs) r
kept f x xs r h l = record {
  is = one_more f x xs r l.is;
  start = l.start;
  others = λ s a. others_behind f x xs r s h l a;
}

chosen : (b : Bool) (f x : Finding) (xs : List Finding) (r : Finding) → is_before x f ≡ b → (earliest (Some x) xs ≡ Some r → IsFirst (Some x) xs r) → (earliest (Some f) xs ≡ Some r → IsFirst (Some f) xs r) → earliest (if b then Some x else Some f) xs ≡ Some r → IsFirst (Some f) (x ∷ xs) r
chosen true f x xs r h by_x by_f e = taken f x xs r h (by_x e)
chosen false f x xs r h by_x by_f e = kept f x xs r h (by_f e)

least : (found : Option Finding) (rs : List Finding) (r : Finding) → earliest found rs ≡ Some r → IsFirst found rs r
unfolding is_before earlier
least found [] r h = record {
  is = inl h;
  start = λ s e. let same : r ≡ s = cc in subst (λ t. is_before t r ≡ false) same (itself r.line (number_of r.refusal));
  others = λ s a. absurd a;
}
least None (x ∷ xs) r h = at_first x xs r (least (Some x) xs r h)
least (Some f) (x ∷ xs) r h = chosen (is_before x f) f x xs r refl (least (Some x) xs r) (least (Some f) xs r) h

among : (found : Option Finding) (rs : List Finding) (r : Finding) → found ≡ None → (found ≡ Some r) ⊎ IsAmong r rs → IsAmong r rs
among found rs r h (inl e) = absurd cc
among found rs r h (inr a) = a

pub first_is_least : (findings : List Finding) (r : Finding) → first_of findings ≡ Some r → IsAmong r findings × ((s : Finding) → IsAmong s findings → is_before s r ≡ false)
first_is_least findings r h = let l = least None findings r h in (among None findings r refl l.is, l.others)

-- something that was found stays found
found_stays : (f : Finding) (rs : List Finding) → ¬ (earliest (Some f) rs ≡ None)
unfolding is_before earlier
found_stays f [] h = absurd cc
found_stays f (x ∷ xs) h = either_stays (is_before x f) f x xs (found_stays x xs) (found_stays f xs) h where
  either_stays : (b : Bool) (f x : Finding) (xs : List Finding) → ¬ (earliest (Some x) xs ≡ None) → ¬ (earliest (Some f) xs ≡ None) → ¬ (earliest (if b then Some x else Some f) xs ≡ None)
  either_stays true f x xs n m = n
  either_stays false f x xs n m = m

pub none_stands : (findings : List Finding) → first_of findings ≡ None → findings ≡ []
unfolding earlier
none_stands [] h = refl
none_stands (x ∷ xs) h = absurd (found_stays x xs h)
