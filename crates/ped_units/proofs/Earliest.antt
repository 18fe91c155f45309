-- The first of several lists of refusals, by the first of each.
use Rattle.std.proofs.Common.{◌≡◌, ℕ, Bool, true, false, cond, List, [], ◌∷◌, ◌++◌, Option, Some, None, refl, sym, ap, ◌∙◌, eqb, eqb-true, ltb, ◌||◌, ◌&&◌, arith}
use Rattle.ped_tree.specs.Grammar.Refusal.{Finding, number_of, earlier, earliest, first_of, is_before}
use Rattle.std.specs.List.{flat_map}
use Rattle.ped_tree.proofs.GrammarLaws.First.{earliest_append}
use Rattle.ped_units.specs.Seeing.{combined}

-- by line, and then by number
abbrev before : ℕ → ℕ → ℕ → ℕ → Bool
before a p b q = ltb a b || (eqb a b && ltb p q)

through : (a p b q c r : ℕ) → before a p b q ≡ true → before b q c r ≡ true → before a p c r ≡ true
through a p b q c r h k = grind (arith, eqb-true)

neither_through : (a p b q c r : ℕ) → before a p b q ≡ false → before b q c r ≡ false → before a p c r ≡ false
neither_through a p b q c r h k = grind (arith, eqb-true)

before_both : (s r f : Finding) → is_before s r ≡ true → is_before r f ≡ true → is_before s f ≡ true
unfolding is_before
before_both s r f h k = through s.line (number_of s.refusal) r.line (number_of r.refusal) f.line (number_of f.refusal) h k

before_neither : (s r f : Finding) → is_before s r ≡ false → is_before r f ≡ false → is_before s f ≡ false
unfolding is_before
before_neither s r f h k = neither_through s.line (number_of s.refusal) r.line (number_of r.refusal) f.line (number_of f.refusal) h k

merged_by : (f r s : Finding) (a b : Bool) → is_before r f ≡ a → is_before s r ≡ b → earlier (cond a (Some r) (Some f)) s ≡ combined (Some f) (cond b (Some s) (Some r))
unfolding earlier
merged_by f r s true true h k = ap (λ (x : Bool). cond x (Some s) (Some r)) k ∙ sym (ap (λ (x : Bool). cond x (Some s) (Some f)) (before_both s r f k h))
merged_by f r s true false h k = ap (λ (x : Bool). cond x (Some s) (Some r)) k ∙ sym (ap (λ (x : Bool). cond x (Some r) (Some f)) h)
merged_by f r s false true h k = refl
merged_by f r s false false h k = ap (λ (x : Bool). cond x (Some s) (Some f)) (before_neither s r f k h) ∙ sym (ap (λ (x : Bool). cond x (Some r) (Some f)) h)

merged : (f r s : Finding) → earlier (earlier (Some f) r) s ≡ combined (Some f) (earlier (Some r) s)
unfolding earlier
merged f r s = merged_by f r s (is_before r f) (is_before s r) refl refl

alone_by : (r s : Finding) (b : Bool) → cond b (Some s) (Some r) ≡ combined None (cond b (Some s) (Some r))
unfolding earlier
alone_by r s true = refl
alone_by r s false = refl

merged_any : (found : Option Finding) (r s : Finding) → earlier (earlier found r) s ≡ combined found (earlier (Some r) s)
unfolding earlier
merged_any None r s = alone_by r s (is_before s r)
merged_any (Some f) r s = merged f r s

one_first : (r : Finding) → earlier None r ≡ Some r
unfolding earlier
one_first r = refl

combined_more : (found : Option Finding) (r : Finding) (o : Option Finding) → combined (earlier found r) o ≡ combined found (combined (Some r) o)
combined_more found r None = refl
combined_more found r (Some s) = merged_any found r s

-- the first of what was found and these is the first of what was found and of their first
pub combined_first : (found : Option Finding) (fs : List Finding) → combined found (first_of fs) ≡ earliest found fs
combined_first found [] = refl
combined_first found (r ∷ rs) =
    ap (λ (o : Option Finding). combined found (earliest o rs)) (one_first r)
    ∙ ap (combined found) (sym (combined_first (Some r) rs))
    ∙ sym (combined_more found r (first_of rs))
    ∙ combined_first (earlier found r) rs

-- one of several more has been looked at
pub earliest_step : {X : Type 0} (f : X → List Finding) (whole found next : Option Finding) (xs rest : List X) (x : X) → earliest found (flat_map f xs) ≡ whole → xs ≡ x ∷ rest → next ≡ earliest found (f x) → earliest next (flat_map f rest) ≡ whole
earliest_step {X} f whole found next xs rest x before is n =
    ap (λ (o : Option Finding). earliest o (flat_map f rest)) n
    ∙ sym (earliest_append found (f x) (flat_map f rest))
    ∙ ap (λ (ys : List X). earliest found (flat_map f ys)) (sym is)
    ∙ before

-- the first of some, the first of that and more, and the first of that and still more
pub earliest_twice : (all more still : List Finding) (found next last : Option Finding) → found ≡ first_of all → next ≡ earliest found more → last ≡ earliest next still → last ≡ first_of (all ++ (more ++ still))
earliest_twice all more still found next last f n l =
    l
    ∙ ap (λ (o : Option Finding). earliest o still) (n ∙ ap (λ (o : Option Finding). earliest o more) f)
    ∙ sym (earliest_append (first_of all) more still)
    ∙ sym (earliest_append None all (more ++ still))

-- the first of some and of more is the first of their firsts
pub both_first : (some more : List Finding) (found other both : Option Finding) → found ≡ first_of some → other ≡ first_of more → both ≡ combined found other → both ≡ first_of (some ++ more)
both_first some more found other both f o b =
    b
    ∙ ap (combined found) o
    ∙ combined_first found more
    ∙ ap (λ (x : Option Finding). earliest x more) f
    ∙ sym (earliest_append None some more)
