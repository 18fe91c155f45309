-- Pairs of references by groups: those of one name with one outermost DO.
use Rattle.std.proofs.Common.{◌≡◌, ℕ, ◌+◌, List, [], ◌∷◌, ◌++◌, map, filter, Bool, true, false, cond, not, ◌&&◌, eqb, eqb-true, inl, inr, refl, ap, sym, ◌∙◌, arith}
use Rattle.std.specs.Prelude.{◌||◌, count_by, codes, if◌then◌else◌}
use Rattle.std.specs.List.{sum_by}
use Rattle.std.proofs.lemmas.Bool.{and_parts, cases_Bool}
use Rattle.std.proofs.lemmas.List.{length-map}
use Rattle.std.proofs.lemmas.List.Concat.{length-flat_map}
use Rattle.std.proofs.lemmas.List.Sums.{length-filter}
use Rattle.ped_base.specs.Lists.{has_some, is_same_text}
use Rattle.ped_tree.specs.Nests.{Loop, common_nest}
use Rattle.ped_base.proofs.NameEquality.{same_flip, same_is, same_itself}
use Rattle.ped_refs.specs.References.{Reference, is_pair, pair_count, outermost, outermost_number}
use Rattle.ped_refs.specs.ListedReferences.{ref_name}
use Rattle.ped_refs.specs.Groups.{is_same_name, is_same_group, group_of}
use Rattle.ped_refs.specs.Tallies.{is_together, tally_with, with_reference}
use Rattle.ped_refs.specs.declared.references.RefName.{RefName}
use Rattle.ped_refs.specs.declared.references.RefName.TheVariants.{Named, In, Out}
use Rattle.ped_refs.proofs.RelatedPairs.{related, count_by_push}

-- the ordered pairs are those that the test tells
pub pair_count_is : (refs : List Reference) → pair_count refs ≡ related is_pair refs
pair_count_is refs =
    let with : Reference → Reference → Reference × Reference = λ source sink. (source, sink) in
    length-flat_map (λ (source : Reference). map (with source) (filter (is_pair source) refs)) refs
    ∙ (λ i. sum_by (λ (source : Reference). (length-map (filter (is_pair source) refs) (with source) ∙ length-filter (is_pair source) refs) i) refs)

-- the test of two numbers goes both ways
pub eqb_flip : (m n : ℕ) → eqb m n ≡ eqb n m
eqb_flip m n = grind (arith, eqb-true)

eqb_itself : (n : ℕ) → eqb n n ≡ true
eqb_itself n = grind (arith, eqb-true)

or_flip : (a b : Bool) → (a || b) ≡ (b || a)
or_flip true true = refl
or_flip true false = refl
or_flip false true = refl
or_flip false false = refl

-- nothing that asks for false holds
pub and_false : (a : Bool) → (a && false) ≡ false
and_false true = refl
and_false false = refl

and_true : (a : Bool) → (a && true) ≡ a
and_true true = refl
and_true false = refl

and_not : (a : Bool) → (a && not a) ≡ false
and_not true = refl
and_not false = refl

-- a list that begins with an item, where a test holds
pub chosen : {A : Type 0} (b : Bool) (x : A) (xs : List A) → has_some (if b then x ∷ xs else []) ≡ b
chosen true x xs = refl
chosen false x xs = refl

-- DO loops stand round both references where the outermost is the same
pub common_by_outermost : (a b : List Loop) → has_some a ≡ not (eqb (outermost_number a) 0) → has_some b ≡ not (eqb (outermost_number b) 0)
    → has_some (common_nest a b) ≡ (eqb (outermost_number a) (outermost_number b) && not (eqb (outermost_number a) 0))
common_by_outermost [] b h k = sym (and_false (eqb 0 (outermost_number b)))
common_by_outermost (l ∷ ls) [] h k = sym (and_not (eqb l.number 0))
common_by_outermost (l ∷ ls) (m ∷ ms) h k =
    chosen (eqb l.number m.number) l (common_nest ls ms) ∙ sym (and_true (eqb l.number m.number)) ∙ ap (λ (x : Bool). eqb l.number m.number && x) h

common_flip : (a b : List Loop) → has_some (common_nest a b) ≡ has_some (common_nest b a)
common_flip [] [] = refl
common_flip [] (m ∷ ms) = refl
common_flip (l ∷ ls) [] = refl
common_flip (l ∷ ls) (m ∷ ms) =
    chosen (eqb l.number m.number) l (common_nest ls ms) ∙ eqb_flip l.number m.number ∙ sym (chosen (eqb m.number l.number) m (common_nest ms ls))

-- a pair goes both ways
pub pair_flip : (r s : Reference) → is_pair r s ≡ is_pair s r
pair_flip r s = λ i. same_flip r.access.name s.access.name i && or_flip r.access.writes s.access.writes i && common_flip r.nest s.nest i

same_in : (x : List ℕ) (y : List ℕ) → is_same_text x (codes "(IN)") ≡ true → is_same_text x y ≡ is_same_text y (codes "(IN)")
same_in x y h = ap (λ (z : List ℕ). is_same_text z y) (same_is x (codes "(IN)") h) ∙ same_flip (codes "(IN)") y

same_out : (x : List ℕ) (y : List ℕ) → is_same_text x (codes "(OUT)") ≡ true → is_same_text x y ≡ is_same_text y (codes "(OUT)")
same_out x y h = ap (λ (z : List ℕ). is_same_text z y) (same_is x (codes "(OUT)") h) ∙ same_flip (codes "(OUT)") y

apart : (x y z : List ℕ) → is_same_text x z ≡ false → is_same_text y z ≡ true → is_same_text x y ≡ false
apart x y z h k = ap (is_same_text x) (same_is y z k) ∙ h

-- a name in the list, by which of the three it is
data Which (x : List ℕ) : Type 0 where
  as_in : is_same_text x (codes "(IN)") ≡ true → Which x
  as_out : is_same_text x (codes "(IN)") ≡ false → is_same_text x (codes "(OUT)") ≡ true → Which x
  as_named : is_same_text x (codes "(IN)") ≡ false → is_same_text x (codes "(OUT)") ≡ false → Which x

which : (x : List ℕ) → Which x
which x =
    elim (cases_Bool (is_same_text x (codes "(IN)"))) [
      | inl h ↦ as_in h
      | inr h ↦ elim (cases_Bool (is_same_text x (codes "(OUT)"))) [
        | inl k ↦ as_out h k
        | inr k ↦ as_named h k
      ]
    ]

name_by : Bool → Bool → List ℕ → RefName
name_by a b x = if a then In else (if b then Out else Named x)

-- two names in the list are the same where their texts are
pub name_together : (x y : List ℕ) → is_same_name (ref_name x) (ref_name y) ≡ is_same_text x y
name_together x y = go (which x) (which y)
  where
    in_name : (z : List ℕ) → is_same_text z (codes "(IN)") ≡ true → ref_name z ≡ In
    in_name z h = ap (λ (b : Bool). if b then In else (if is_same_text z (codes "(OUT)") then Out else Named z)) h

    out_name : (z : List ℕ) → is_same_text z (codes "(IN)") ≡ false → is_same_text z (codes "(OUT)") ≡ true → ref_name z ≡ Out
    out_name z h k = λ i. if h i then In else (if k i then Out else Named z)

    named_name : (z : List ℕ) → is_same_text z (codes "(IN)") ≡ false → is_same_text z (codes "(OUT)") ≡ false → ref_name z ≡ Named z
    named_name z h k = λ i. if h i then In else (if k i then Out else Named z)

    go : Which x → Which y → is_same_name (ref_name x) (ref_name y) ≡ is_same_text x y
    go (as_in h) (as_in k) = (λ i. is_same_name (in_name x h i) (in_name y k i)) ∙ sym (same_in x y h ∙ k)
    go (as_in h) (as_out k l) = (λ i. is_same_name (in_name x h i) (out_name y k l i)) ∙ sym (same_in x y h ∙ k)
    go (as_in h) (as_named k l) = (λ i. is_same_name (in_name x h i) (named_name y k l i)) ∙ sym (same_in x y h ∙ k)
    go (as_out g h) (as_in k) = (λ i. is_same_name (out_name x g h i) (in_name y k i)) ∙ sym (apart x y (codes "(IN)") g k)
    go (as_out g h) (as_out k l) = (λ i. is_same_name (out_name x g h i) (out_name y k l i)) ∙ sym (same_out x y h ∙ l)
    go (as_out g h) (as_named k l) = (λ i. is_same_name (out_name x g h i) (named_name y k l i)) ∙ sym (same_out x y h ∙ l)
    go (as_named g h) (as_in k) = (λ i. is_same_name (named_name x g h i) (in_name y k i)) ∙ sym (apart x y (codes "(IN)") g k)
    go (as_named g h) (as_out k l) = (λ i. is_same_name (named_name x g h i) (out_name y k l i)) ∙ sym (apart x y (codes "(OUT)") h l)
    go (as_named g h) (as_named k l) = λ i. is_same_name (named_name x g h i) (named_name y k l i)

-- two references are of one group where they are together
pub group_together : (r s : Reference) → is_same_group (group_of r) (group_of s) ≡ is_together r s
group_together r s = ap (λ (b : Bool). b && eqb (outermost r) (outermost s)) (name_together r.access.name s.access.name)

-- a reference is together with itself
pub together_itself : (r : Reference) → is_together r r ≡ true
together_itself r = λ i. (ap (λ (b : Bool). b && eqb (outermost r) (outermost r)) (same_itself r.access.name) ∙ eqb_itself (outermost r)) i

-- who is together with one of two that are together is so with the other
together_same : (r s t : Reference) → is_together r s ≡ true → is_together r t ≡ is_together s t
together_same r s t h =
    let p = and_parts (is_same_text r.access.name s.access.name) (eqb (outermost r) (outermost s)) h in
    λ i. is_same_text (same_is r.access.name s.access.name p.0 i) t.access.name && eqb (eqb-true (outermost r) (outermost s) p.1 i) (outermost t)

-- the test goes both ways
pub together_flip : (r s : Reference) → is_together r s ≡ is_together s r
together_flip r s = λ i. same_flip r.access.name s.access.name i && eqb_flip (outermost r) (outermost s) i

-- what is counted of a group is the same for all of it
pub tally_same : (r s : Reference) (refs : List Reference) → is_together r s ≡ true → tally_with r refs ≡ tally_with s refs
tally_same r s refs h = λ i. record {
  references = count_by (λ t. together_same r s t h i) refs;
  writes = count_by (λ t. together_same r s t h i && t.access.writes) refs;
}

by_writes : (a b : Bool) (n : ℕ) → (a ≡ true → n + cond (a && b) 1 0 ≡ (if b then n + 1 else n)) × (a ≡ false → n + cond (a && b) 1 0 ≡ n)
by_writes true true n = (λ _. refl, λ h. absurd cc)
by_writes true false n = (λ _. omega arith, λ h. absurd cc)
by_writes false b n = (λ h. absurd cc, λ _. omega arith)

by_reference : (a : Bool) (n : ℕ) → (a ≡ true → n + cond a 1 0 ≡ n + 1) × (a ≡ false → n + cond a 1 0 ≡ n)
by_reference true n = (λ _. refl, λ h. absurd cc)
by_reference false n = (λ h. absurd cc, λ _. omega arith)

-- one more reference of a group
pub tally_more : (r s : Reference) (refs : List Reference) → is_together r s ≡ true → tally_with r (refs ++ s ∷ []) ≡ with_reference (tally_with r refs) s.access.writes
tally_more r s refs h =
    let references : count_by (is_together r) (refs ++ s ∷ []) ≡ count_by (is_together r) refs + 1 = count_by_push (is_together r) refs s ∙ (by_reference (is_together r s) (count_by (is_together r) refs)).0 h in
    let writes : count_by (λ t. is_together r t && t.access.writes) (refs ++ s ∷ []) ≡ (if s.access.writes then count_by (λ t. is_together r t && t.access.writes) refs + 1 else count_by (λ t. is_together r t && t.access.writes) refs) =
    count_by_push (λ t. is_together r t && t.access.writes) refs s ∙ (by_writes (is_together r s) s.access.writes (count_by (λ t. is_together r t && t.access.writes) refs)).0 h in
    λ i. record { references = references i; writes = writes i }

-- one more reference of another group
pub tally_other : (r s : Reference) (refs : List Reference) → is_together r s ≡ false → tally_with r (refs ++ s ∷ []) ≡ tally_with r refs
tally_other r s refs h =
    let references : count_by (is_together r) (refs ++ s ∷ []) ≡ count_by (is_together r) refs = count_by_push (is_together r) refs s ∙ (by_reference (is_together r s) (count_by (is_together r) refs)).1 h in
    let writes : count_by (λ t. is_together r t && t.access.writes) (refs ++ s ∷ []) ≡ count_by (λ t. is_together r t && t.access.writes) refs =
    count_by_push (λ t. is_together r t && t.access.writes) refs s ∙ (by_writes (is_together r s) s.access.writes (count_by (λ t. is_together r t && t.access.writes) refs)).1 h in
    λ i. record { references = references i; writes = writes i }
