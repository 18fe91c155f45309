-- The members of groups in the table.
use Rattle.std.proofs.Common.{◌≡◌, ℕ, [], Bool, true, false, cond, Option, Some, None, eqb-true, refl, ap, subst, ◌∙◌}
use Rattle.std.specs.Prelude.{unwrap_or, if◌then◌else◌}
use Rattle.std.proofs.lemmas.Bool.{and_parts}
use Rattle.indexmap.specs.IndexMap.{get, Updates}
use Rattle.ped_base.proofs.NameEquality.{same_is}
use Rattle.ped_refs.specs.Groups.{is_same_name, is_same_group}
use Rattle.ped_refs.specs.Grouping.{Places, Table, places_of, places_or_none, places_at, with_place, sinks_in}
use Rattle.ped_refs.specs.declared.references.RefName.{RefName}
use Rattle.ped_refs.specs.declared.references.RefName.TheVariants.{Named, In, Out}
use Rattle.ped_refs.specs.declared.groups.Group.{Group}
use Rattle.ped_refs.specs.declared.pairing.Members.{Members}
use Rattle.ped_refs.specs.contracts.groups.GroupPartialEq.TheImpl as groups
use Rattle.ped_refs.proofs.GroupEquality.{same_test}

name_equal : (x y : RefName) → is_same_name x y ≡ true → x ≡ y
name_equal (Named x) (Named y) h = ap Named (same_is x y h)
name_equal (Named x) In h = absurd cc
name_equal (Named x) Out h = absurd cc
name_equal In (Named y) h = absurd cc
name_equal In In h = refl
name_equal In Out h = absurd cc
name_equal Out (Named y) h = absurd cc
name_equal Out In h = absurd cc
name_equal Out Out h = refl

group_equal : (g h : Group) → is_same_group g h ≡ true → g ≡ h
group_equal g h e =
    let p = and_parts (is_same_name g.name h.name) _ e in
    λ i. record { name = name_equal g.name h.name p.0 i; outer = eqb-true g.outer h.outer p.1 i }

-- what the table has of a group, where a look-up answers this
pub members_got : (table : Table) (g : Group) (o : Option Members) → o ≡ get (groups.eq-value).it table g → places_or_none o ≡ places_at table g
members_got table g o e = ap places_or_none (subst (λ (test : Group → Group → Bool). o ≡ get test table g) same_test e)

taken : (b : Bool) (m : Members) (o : Option Members) → places_or_none (cond b (Some m) o) ≡ (if b then places_of m else places_or_none o)
taken true m o = refl
taken false m o = refl

-- what the table has of a group behind an insertion
members_put : (old new : Table) (g : Group) (m : Members) → Updates (groups.eq-value).it old new g (Some m)
    → (other : Group) → places_at new other ≡ (if is_same_group g other then places_of m else places_at old other)
members_put old new g m h other =
    let e : get is_same_group new other ≡ cond (is_same_group g other) (Some m) (get is_same_group old other) =
    subst (λ (test : Group → Group → Bool). get test new other ≡ cond (test g other) (Some m) (get test old other)) same_test (h.0 other) in
    ap places_or_none e ∙ taken (is_same_group g other) m (get is_same_group old other)

or_none : (o : Option Members) (none : Members) → places_of none ≡ record { all = []; writes = [] } → places_of (unwrap_or o none) ≡ places_or_none o
or_none (Some m) none h = refl
or_none None none h = h

-- the members of a group, or none, by an entry of the table
pub members_before : (old : Table) (g : Group) (o : Option Members) (before none : Members) → before ≡ unwrap_or o none → o ≡ get (groups.eq-value).it old g → places_of none ≡ record { all = []; writes = [] }
    → places_of before ≡ places_at old g
members_before old g o before none h k e = ap places_of h ∙ or_none o none e ∙ members_got old g o k

chosen : (b : Bool) (x y z : Places) → (b ≡ true → x ≡ y) → (if b then x else z) ≡ (if b then y else z)
chosen true x y z h = h refl
chosen false x y z h = refl

-- what the table has of a group, once a place has been added to one
pub place_added : (old new : Table) (g : Group) (before after : Members) (place : ℕ) (writes : Bool) → Updates (groups.eq-value).it old new g (Some after)
    → places_of before ≡ places_at old g → places_of after ≡ with_place (places_of before) place writes
    → (other : Group) → places_at new other ≡ (if is_same_group g other then with_place (places_at old other) place writes else places_at old other)
place_added old new g before after place writes u b a other =
    members_put old new g after u other
    ∙ chosen (is_same_group g other) (places_of after) (with_place (places_at old other) place writes) (places_at old other)
    (λ h. a ∙ ap (λ (p : Places). with_place p place writes) (b ∙ ap (places_at old) (group_equal g other h)))

-- a group that the table hasn't got has no sinks
pub no_sinks : (writes : Bool) → [] ≡ sinks_in writes (record { all = []; writes = [] })
no_sinks true = refl
no_sinks false = refl
