-- Numbers that are marked, one after the other.
use Rattle.std.proofs.Common.{◌≡◌, ◌⊎◌, inl, inr, ℕ, zero, suc, ◌+◌, ◌<◌, Bool, true, false, List, [], ◌∷◌, ◌++◌, length, get_or, replicate, refl, sym, ap, ◌∙◌, arith}
use Rattle.std.proofs.Math.ListN.{set}
use Rattle.std.proofs.lemmas.List.{length-set, length_push, get_or-set_same, get_or-set_other}
use Rattle.ped_units.specs.Linking.{IsIn}
use Rattle.ped_links.specs.Reaching.{IsMarked, unmarked, AreAdded}
use Rattle.ped_links.proofs.Members.{in_left, in_right, in_either, in_one}

no_truth : false ≡ true → ⊥
no_truth h = absurd cc

-- one mark more
pub unmarked_less : (marks : List Bool) (n : ℕ) → n < length marks → get_or marks n false ≡ false → unmarked (set marks n true) + 1 ≡ unmarked marks
unmarked_less [] n h e = absurd (omega (arith, h))
unmarked_less (true ∷ marks) zero h e = absurd cc
unmarked_less (false ∷ marks) zero h e = refl
unmarked_less (true ∷ marks) (suc n) h e = unmarked_less marks n (omega (arith, h)) e
unmarked_less (false ∷ marks) (suc n) h e = let less = unmarked_less marks n (omega (arith, h)) e in omega (arith, less)

same_or_not : (j n : ℕ) → (j ≡ n) ⊎ (j ≡ n → ⊥)
same_or_not zero zero = inl refl
same_or_not zero (suc n) = inr (λ e. absurd (omega (arith, e)))
same_or_not (suc j) zero = inr (λ e. absurd (omega (arith, e)))
same_or_not (suc j) (suc n) = elim (same_or_not j n) [ inl e ↦ inl (ap suc e) | inr h ↦ inr (λ e. h (omega (arith, e))) ]

-- what is marked is within
pub within : (marks : List Bool) (j : ℕ) → IsMarked marks j → j < length marks
within [] j h = absurd (no_truth h)
within (b ∷ marks) zero h = omega arith
within (b ∷ marks) (suc j) h = let below = within marks j h in omega (arith, below)

now_marked : (marks : List Bool) (n j : ℕ) → n < length marks → j ≡ n → IsMarked (set marks n true) j
now_marked marks n j h e = ap (λ (k : ℕ). get_or (set marks n true) k false) e ∙ get_or-set_same marks n true false h

still_marked : (marks : List Bool) (n j : ℕ) → n < length marks → IsMarked marks j → IsMarked (set marks n true) j
still_marked marks n j h m = elim (same_or_not j n) [ inl e ↦ now_marked marks n j h e | inr o ↦ get_or-set_other marks n j true false o ∙ m ]

was_marked : (marks : List Bool) (n j : ℕ) → IsMarked (set marks n true) j → IsMarked marks j ⊎ IsIn j (n ∷ [])
was_marked marks n j m = elim (same_or_not j n) [ inl e ↦ inr (inl e) | inr o ↦ inl (sym (get_or-set_other marks n j true false o) ∙ m) ]

-- a number that was not marked is added
pub one_added : (marks : List Bool) (waiting : List ℕ) (n : ℕ) → n < length marks → get_or marks n false ≡ false → AreAdded (n ∷ []) marks waiting (set marks n true) (waiting ++ n ∷ [])
one_added marks waiting n h e = record {
  wide = length-set marks n true;
  marked = λ j i. now_marked marks n j h (in_one j n i);
  kept = λ j m. still_marked marks n j h m;
  known = λ j m. was_marked marks n j m;
  stays = λ j i. in_left j waiting (n ∷ []) i;
  waits = λ j m. elim (was_marked marks n j m) [ inl a ↦ inl a | inr i ↦ inr (in_right j waiting (n ∷ []) i) ];
  new = λ j i. in_either j waiting (n ∷ []) i;
  even = let less = unmarked_less marks n h e in let longer = length_push waiting n in omega (arith, less, longer);
}

-- one that was marked
pub none_added : (marks : List Bool) (waiting : List ℕ) (n : ℕ) → IsMarked marks n → AreAdded (n ∷ []) marks waiting marks waiting
none_added marks waiting n m = record {
  wide = refl;
  marked = λ j i. ap (λ (k : ℕ). get_or marks k false) (in_one j n i) ∙ m;
  kept = λ j k. k;
  known = λ j k. inl k;
  stays = λ j i. i;
  waits = λ j k. inl k;
  new = λ j i. inl i;
  even = refl;
}

-- none is added
pub nothing_added : (marks : List Bool) (waiting : List ℕ) → AreAdded [] marks waiting marks waiting
nothing_added marks waiting = record {
  wide = refl;
  marked = λ j i. absurd i;
  kept = λ j k. k;
  known = λ j k. inl k;
  stays = λ j i. i;
  waits = λ j k. inl k;
  new = λ j i. inl i;
  even = refl;
}

-- some are added, and then more
pub added_both : (ns ms : List ℕ) (marks : List Bool) (waiting : List ℕ) (marks_then : List Bool) (waiting_then : List ℕ) (marks_now : List Bool) (waiting_now : List ℕ)
    → AreAdded ns marks waiting marks_then waiting_then → AreAdded ms marks_then waiting_then marks_now waiting_now → AreAdded (ns ++ ms) marks waiting marks_now waiting_now
added_both ns ms marks waiting marks_then waiting_then marks_now waiting_now a b = record {
  wide = b.wide ∙ a.wide;
  marked = λ j i. elim (in_either j ns ms i) [ inl x ↦ b.kept j (a.marked j x) | inr y ↦ b.marked j y ];
  kept = λ j k. b.kept j (a.kept j k);
  known = λ j k. elim (b.known j k) [ inl x ↦ elim (a.known j x) [ inl y ↦ inl y | inr z ↦ inr (in_left j ns ms z) ] | inr y ↦ inr (in_right j ns ms y) ];
  stays = λ j i. b.stays j (a.stays j i);
  waits = λ j k. elim (b.waits j k) [ inl x ↦ elim (a.waits j x) [ inl y ↦ inl y | inr z ↦ inr (b.stays j z) ] | inr y ↦ inr y ];
  new = λ j i. elim (b.new j i) [ inl x ↦ elim (a.new j x) [ inl y ↦ inl y | inr z ↦ inr (in_left j ns ms z) ] | inr y ↦ inr (in_right j ns ms y) ];
  even = b.even ∙ a.even;
}

-- no number is marked at first
pub no_marks : (n j : ℕ) → IsMarked (replicate n false) j → ⊥
no_marks zero j m = no_truth m
no_marks (suc n) zero m = no_truth m
no_marks (suc n) (suc j) m = no_marks n j m

-- what stands at a place is in the list
pub in_at : (ns : List ℕ) (i : ℕ) → i < length ns → IsIn (get_or ns i 0) ns
in_at [] i h = absurd (omega (arith, h))
in_at (n ∷ ns) zero h = inl refl
in_at (n ∷ ns) (suc i) h = inr (in_at ns i (omega (arith, h)))
