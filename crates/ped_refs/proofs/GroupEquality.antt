-- Two groups are equal where their names and their outermost DO loops are.
use Rattle.std.proofs.Common.{◌≡◌, Bool, true, false, cond, ◌&&◌, eqb, Option, Some, refl, ap, subst, ◌∙◌}
use Rattle.std.specs.Prelude.{unwrap_or, if◌then◌else◌}
use Rattle.indexmap.specs.IndexMap.{get, Updates}
use Rattle.ped_base.proofs.NameEquality.{name_same}
use Rattle.ped_refs.specs.Groups.{is_same_name, is_same_group}
use Rattle.ped_refs.specs.Tallies.{Tallies, tally_at}
use Rattle.ped_refs.specs.declared.references.RefName.{RefName}
use Rattle.ped_refs.specs.declared.references.RefName.TheVariants.{Named, In, Out}
use Rattle.ped_refs.specs.declared.groups.Group.{Group}
use Rattle.ped_refs.specs.declared.counting.Tally.{Tally}
use Rattle.ped_refs.specs.contracts.references.RefNamePartialEq.TheImpl as names
use Rattle.ped_refs.specs.contracts.groups.GroupPartialEq.TheImpl as groups

name_is : (x y : RefName) → (names.eq-value).it x y ≡ is_same_name x y
name_is (Named x) (Named y) = name_same x y
name_is (Named x) In = refl
name_is (Named x) Out = refl
name_is In (Named y) = refl
name_is In In = refl
name_is In Out = refl
name_is Out (Named y) = refl
name_is Out In = refl
name_is Out Out = refl

-- the code's test of two groups
pub group_is : (g h : Group) → (groups.eq-value).it g h ≡ is_same_group g h
group_is g h = ap (λ (b : Bool). b && eqb g.outer h.outer) (name_is g.name h.name)

-- the tests are one function
pub same_test : (groups.eq-value).it ≡ is_same_group
same_test = λ i g h. group_is g h i

taken : (b : Bool) (t zero : Tally) (o : Option Tally) → unwrap_or (cond b (Some t) o) zero ≡ (if b then t else unwrap_or o zero)
taken true t zero o = refl
taken false t zero o = refl

-- what the table has of a group behind an insertion
pub put_is : (old new : Tallies) (g : Group) (t : Tally) → Updates (groups.eq-value).it old new g (Some t)
    → (other : Group) → tally_at new other ≡ (if is_same_group g other then t else tally_at old other)
put_is old new g t h other =
    let zero : Tally = record { references = 0; writes = 0 } in
    let e : get is_same_group new other ≡ cond (is_same_group g other) (Some t) (get is_same_group old other) =
    subst (λ (test : Group → Group → Bool). get test new other ≡ cond (test g other) (Some t) (get test old other)) same_test (h.0 other) in
    ap (λ (o : Option Tally). unwrap_or o zero) e ∙ taken (is_same_group g other) t zero (get is_same_group old other)

-- what the table has of a group, where a look-up answers this
pub got_is : (table : Tallies) (g : Group) (o : Option Tally) → o ≡ get (groups.eq-value).it table g → unwrap_or o (record { references = 0; writes = 0 }) ≡ tally_at table g
got_is table g o e =
    let zero : Tally = record { references = 0; writes = 0 } in
    ap (λ (x : Option Tally). unwrap_or x zero) (subst (λ (test : Group → Group → Bool). o ≡ get test table g) same_test e)
