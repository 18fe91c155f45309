-- What one more reference adds to the number of pairs.
use Rattle.std.proofs.Common.{◌≡◌, ℕ, ◌+◌, ◌*◌, ◌≤◌, List, [], ◌∷◌, ◌++◌, length, Bool, true, false, cond, not, ◌&&◌, eqb, eqb-true, inl, inr, refl, ap, sym, ◌∙◌, arith}
use Rattle.std.specs.Prelude.{◌||◌, count_by, if◌then◌else◌}
use Rattle.std.proofs.lemmas.Bool.{cases_Bool}
use Rattle.std.proofs.lemmas.List.Sums.{sum_by-cons, count_by-le-length}
use Rattle.ped_base.specs.Lists.{has_some, is_same_text}
use Rattle.ped_tree.specs.Nests.{common_nest}
use Rattle.ped_refs.specs.References.{Reference, is_pair, pair_count, outermost}
use Rattle.ped_refs.specs.Groups.{group_of, is_same_group}
use Rattle.ped_refs.specs.Tallies.{AreNumbered, IsCounted, Tallies, is_together, tally_at, tally_with, with_reference, pairs_with}
use Rattle.ped_refs.specs.declared.groups.Group.{Group}
use Rattle.ped_refs.specs.declared.counting.Tally.{Tally}
use Rattle.ped_refs.proofs.RelatedPairs.{related, related_push}
use Rattle.ped_refs.proofs.GroupPairs.{pair_count_is, pair_flip, common_by_outermost, group_together, together_itself, together_flip, tally_same, tally_more, tally_other}

-- the outermost DO loop round the reference has a number that isn't 0
abbrev pub IsNumbered : Reference → Type 0
IsNumbered r = has_some r.nest ≡ not (eqb (outermost r) 0)

and_false : (a : Bool) → (a && false) ≡ false
and_false true = refl
and_false false = refl

-- a pair's test by its parts, where DO loops stand round both
by_parts : (same r s has e z : Bool) → has ≡ (e && not z) → z ≡ false → (same && (r || s) && has) ≡ (if r then same && e else same && e && s)
by_parts same true s has e true h k = absurd cc
by_parts true true s has true false h k = h
by_parts true true s has false false h k = h
by_parts false true s has e false h k = refl
by_parts same false s has e true h k = absurd cc
by_parts true false true has true false h k = h
by_parts true false true has false false h k = h
by_parts true false false has true false h k = refl
by_parts true false false has false false h k = refl
by_parts false false s has e false h k = refl

outside_parts : (same w has e z : Bool) → has ≡ (e && not z) → z ≡ true → (same && w && has) ≡ false
outside_parts same w has e false h k = absurd cc
outside_parts same w has true true h k = ap (λ (b : Bool). same && w && b) h ∙ and_false (same && w)
outside_parts same w has false true h k = ap (λ (b : Bool). same && w && b) h ∙ and_false (same && w)

-- in a DO loop, a pair is of one group, with a write
pair_in_loop : (r s : Reference) → IsNumbered r → IsNumbered s → eqb (outermost r) 0 ≡ false
    → is_pair r s ≡ (if r.access.writes then is_together r s else is_together r s && s.access.writes)
pair_in_loop r s h k inside =
    by_parts (is_same_text r.access.name s.access.name) r.access.writes s.access.writes (has_some (common_nest r.nest s.nest)) (eqb (outermost r) (outermost s)) (eqb (outermost r) 0) (common_by_outermost r.nest s.nest h k) inside

-- outside all DO loops there is no pair
pair_outside : (r s : Reference) → IsNumbered r → IsNumbered s → eqb (outermost r) 0 ≡ true → is_pair r s ≡ false
pair_outside r s h k outside =
    outside_parts (is_same_text r.access.name s.access.name) (r.access.writes || s.access.writes) (has_some (common_nest r.nest s.nest)) (eqb (outermost r) (outermost s)) (eqb (outermost r) 0) (common_by_outermost r.nest s.nest h k) outside

-- tests that agree on references count the same
counts_agree : (p q : Reference → Bool) → ((s : Reference) → IsNumbered s → p s ≡ q s) → (refs : List Reference) → AreNumbered refs → count_by p refs ≡ count_by q refs
counts_agree p q h [] n = refl
counts_agree p q h (s ∷ refs) n =
    sum_by-cons (λ x. cond (p x) 1 0) s refs
    ∙ (λ i. cond (h s n.0 i) 1 0 + counts_agree p q h refs n.1 i)
    ∙ sym (sum_by-cons (λ x. cond (q x) 1 0) s refs)

none_pass : {X : Type 0} (xs : List X) → count_by (λ x. false) xs ≡ 0
none_pass [] = refl
none_pass (x ∷ xs) = omega (arith, sum_by-cons (λ y. 0) x xs, none_pass xs)

chosen_count : {X : Type 0} (b : Bool) (p q : X → Bool) (xs : List X) → count_by (λ x. if b then p x else q x) xs ≡ (if b then count_by p xs else count_by q xs)
chosen_count true p q xs = refl
chosen_count false p q xs = refl

-- how many of the references before it a reference in a DO loop pairs with
paired_before : (r : Reference) (refs : List Reference) → IsNumbered r → AreNumbered refs → eqb (outermost r) 0 ≡ false
    → count_by (is_pair r) refs ≡ (if r.access.writes then (tally_with r refs).references else (tally_with r refs).writes)
paired_before r refs h n inside =
    counts_agree (is_pair r) (λ s. if r.access.writes then is_together r s else is_together r s && s.access.writes) (λ s k. pair_in_loop r s h k inside) refs n
    ∙ chosen_count r.access.writes (is_together r) (λ s. is_together r s && s.access.writes) refs

added : (w : Bool) (old references writes count : ℕ) (itself : Bool) → count ≡ (if w then references else writes) → itself ≡ (if w then true else false)
    → old + pairs_with (record { references = references; writes = writes }) w ≡ old + 2 * count + cond itself 1 0
added true old references writes count true h k = omega (arith, h)
added true old references writes count false h k = absurd cc
added false old references writes count true h k = absurd cc
added false old references writes count false h k = omega (arith, h)

itself_writes : (w together : Bool) → together ≡ true → (if w then together else together && w) ≡ (if w then true else false)
itself_writes true together h = h
itself_writes false true h = refl
itself_writes false false h = absurd cc

-- the pairs with one more reference in a DO loop
pub pairs_more : (r : Reference) (refs : List Reference) → IsNumbered r → AreNumbered refs → eqb (outermost r) 0 ≡ false
    → pair_count (refs ++ r ∷ []) ≡ pair_count refs + pairs_with (tally_with r refs) r.access.writes
pairs_more r refs h n inside =
    let itself = pair_in_loop r r h h inside ∙ itself_writes r.access.writes (is_together r r) (together_itself r) in
    let more : related is_pair refs + pairs_with (tally_with r refs) r.access.writes ≡ related is_pair refs + 2 * count_by (is_pair r) refs + cond (is_pair r r) 1 0 =
    added r.access.writes (related is_pair refs) (tally_with r refs).references (tally_with r refs).writes (count_by (is_pair r) refs) (is_pair r r) (paired_before r refs h n inside) itself in
    pair_count_is (refs ++ r ∷ []) ∙ related_push is_pair pair_flip refs r ∙ sym more ∙ ap (λ (x : ℕ). x + pairs_with (tally_with r refs) r.access.writes) (sym (pair_count_is refs))

-- one more reference outside all DO loops makes no pair
pub pairs_outside : (r : Reference) (refs : List Reference) → IsNumbered r → AreNumbered refs → eqb (outermost r) 0 ≡ true
    → pair_count (refs ++ r ∷ []) ≡ pair_count refs
pairs_outside r refs h n outside =
    let none : count_by (is_pair r) refs ≡ 0 = counts_agree (is_pair r) (λ s. false) (λ s k. pair_outside r s h k outside) refs n ∙ none_pass refs in
    let itself : ◌≡◌ {A = ℕ} (cond (is_pair r r) 1 0) 0 = ap (λ (b : Bool). cond b 1 0) (pair_outside r r h h outside) in
    omega (arith, pair_count_is (refs ++ r ∷ []), related_push is_pair pair_flip refs r, pair_count_is refs, none, itself)

outside_apart : (r s : Reference) → eqb (outermost r) 0 ≡ true → eqb (outermost s) 0 ≡ false → is_together s r ≡ false
outside_apart r s h k =
    ap (λ (n : ℕ). is_same_text s.access.name r.access.name && eqb (outermost s) n) (eqb-true (outermost r) 0 h)
    ∙ ap (λ (b : Bool). is_same_text s.access.name r.access.name && b) k ∙ and_false (is_same_text s.access.name r.access.name)

-- the table behind one more reference outside all DO loops
pub counted_outside : (r : Reference) (refs : List Reference) (table : Tallies) (total : ℕ) → IsNumbered r → AreNumbered refs → eqb (outermost r) 0 ≡ true
    → IsCounted refs table total → IsCounted (refs ++ r ∷ []) table total
counted_outside r refs table total h n outside counted = record {
  pairs = counted.pairs ∙ sym (pairs_outside r refs h n outside);
  tallies = λ s inside. counted.tallies s inside ∙ sym (tally_other s r refs (outside_apart r s outside inside));
}

chosen_true : {A : Type 0} (b : Bool) (x y : A) → b ≡ true → (if b then x else y) ≡ x
chosen_true true x y h = refl
chosen_true false x y h = absurd cc

chosen_false : {A : Type 0} (b : Bool) (x y : A) → b ≡ false → (if b then x else y) ≡ y
chosen_false true x y h = absurd cc
chosen_false false x y h = refl

-- the table behind one more reference in a DO loop
pub counted_inside : (r : Reference) (refs : List Reference) (old new : Tallies) (total : ℕ) → IsNumbered r → AreNumbered refs → eqb (outermost r) 0 ≡ false
    → ((other : Group) → tally_at new other ≡ (if is_same_group (group_of r) other then with_reference (tally_at old (group_of r)) r.access.writes else tally_at old other))
    → IsCounted refs old total → IsCounted (refs ++ r ∷ []) new (total + pairs_with (tally_at old (group_of r)) r.access.writes)
counted_inside r refs old new total h n inside put counted =
    let own : tally_at old (group_of r) ≡ tally_with r refs = counted.tallies r inside in
    let after : (s : Reference) → eqb (outermost s) 0 ≡ false → tally_at new (group_of s) ≡ tally_with s (refs ++ r ∷ []) = λ s k.
    let choice : tally_at new (group_of s) ≡ (if is_together r s then with_reference (tally_at old (group_of r)) r.access.writes else tally_at old (group_of s)) =
    put (group_of s) ∙ ap (λ (b : Bool). if b then with_reference (tally_at old (group_of r)) r.access.writes else tally_at old (group_of s)) (group_together r s) in
    elim (cases_Bool (is_together r s)) [
      | inl e ↦ choice ∙ chosen_true (is_together r s) _ _ e ∙ ap (λ (t : Tally). with_reference t r.access.writes) (own ∙ tally_same r s refs e) ∙ sym (tally_more s r refs (together_flip s r ∙ e))
      | inr e ↦ choice ∙ chosen_false (is_together r s) _ _ e ∙ counted.tallies s k ∙ sym (tally_other s r refs (together_flip s r ∙ e))
    ] in
    record {
      pairs = (λ i. counted.pairs i + pairs_with (own i) r.access.writes) ∙ sym (pairs_more r refs h n inside);
      tallies = after;
    }

-- no more references are counted of a group than there are
pub tally-le-length : (r : Reference) (refs : List Reference) → ((tally_with r refs).references ≤ length refs) × ((tally_with r refs).writes ≤ length refs)
tally-le-length r refs = (count_by-le-length (is_together r) refs, count_by-le-length (λ s. is_together r s && s.access.writes) refs)
