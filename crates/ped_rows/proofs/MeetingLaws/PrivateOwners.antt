-- The DO loop to which a reference of a scalar belongs: where it stands among the loops round the reference.
use Rattle.std.proofs.Common.{◌≡◌, ℕ, zero, suc, ◌≤◌, List, [], ◌∷◌, ◌++◌, length, Bool, true, false, refl, sym, ap, ◌∙◌, ◌⊎◌, inl, inr, arith, Option, Some, None, if◌then◌else◌}
use Rattle.std.specs.Prelude.{◌==◌}
use Rattle.std.specs.Option.{option_or}
use Rattle.std.proofs.lemmas.Bool.{eqb-true}
use Rattle.std.proofs.lemmas.Bool.Decides.{nat_tests}
use Rattle.ped_laws.specs.ped_flow.specs.ped_base.specs.Lists.{is_among}
use Rattle.ped_laws.specs.ped_flow.specs.ped_tree.specs.Tree.{ProgramTree}
use Rattle.ped_laws.specs.ped_flow.specs.ped_tree.specs.Nests.{Loop}
use Rattle.ped_laws.specs.ped_flow.specs.ped_tree.specs.Numbering.{statement_with}
use Rattle.ped_laws.specs.ped_flow.specs.PlainBounds.{nest_round}
use Rattle.ped_laws.specs.ped_graph.specs.ped_refs.specs.References.{Reference, references, innermost_private}
use Rattle.ped_laws.specs.ped_graph.specs.Owners.{is_same_owner, level_by, private_level}
use Rattle.ped_laws.specs.Acts.Orders.{IsIn}
use Rattle.ped_laws.proofs.ConflictLaws.CoveringCells.{head_is}
use Rattle.ped_laws.proofs.ConflictLaws.CoveringOwners.{HasNone}
use Rattle.ped_rows.proofs.MeetingLaws.LoopsRound.{first_is, rest_is, loops_nested}

pub not_zero : (n : ℕ) → (suc n == 0) ≡ false
not_zero n = grind (arith, nat_tests)

-- the innermost of these loops that names the scalar in PRIVATE, and the loops in front of it
pub record HasOwner (x : List ℕ) (nest : List Loop) : Type 0 where
  pub front : List Loop
  pub loop : Loop
  pub inner : List Loop
  pub is : nest ≡ front ++ loop ∷ inner
  pub owner : innermost_private x nest ≡ Some loop
  pub level : private_level x nest ≡ suc (length front)
  pub names : is_among x loop.head.private ≡ true

pub find_owner : (x : List ℕ) (nest : List Loop) → HasNone x nest ⊎ HasOwner x nest
find_owner x [] = inl (refl, refl)
find_owner x (l ∷ ls) = elim (find_owner x ls) [
  | inl none ↦ here (is_among x l.head.private) refl none
  | inr o ↦ inr (record {
    front = l ∷ o.front;
    loop = o.loop;
    inner = o.inner;
    is = ap (λ (ns : List Loop). l ∷ ns) o.is;
    owner = ap (λ (q : Option Loop). option_or q (if is_among x l.head.private then Some l else None)) o.owner;
    level = ap (λ (n : ℕ). level_by n (is_among x l.head.private)) o.level ∙ ap (λ (b : Bool). if b then (if is_among x l.head.private then 1 else 0) else suc (suc (length o.front))) (not_zero (length o.front));
    names = o.names;
  })
]
  where
    here : (b : Bool) → is_among x l.head.private ≡ b → HasNone x ls → HasNone x (l ∷ ls) ⊎ HasOwner x (l ∷ ls)
    here false e none = inl ((λ i. option_or (none.0 i) (if e i then Some l else None)), (λ i. level_by (none.1 i) (e i)))
    here true e none = inr (record {
      front = [];
      loop = l;
      inner = ls;
      is = refl;
      owner = (λ i. option_or (none.0 i) (if e i then Some l else None));
      level = (λ i. level_by (none.1 i) (e i));
      names = e;
    })

-- a loop that names the scalar is the owner, or the owner stands further in
pub owner_least : (x : List ℕ) (front : List Loop) (l : Loop) (inner : List Loop) → is_among x l.head.private ≡ true → suc (length front) ≤ private_level x (front ++ l ∷ inner)
owner_least x [] l inner h = go (private_level x inner)
  where
    go : (n : ℕ) → 1 ≤ level_by n (is_among x l.head.private)
    go zero = let e : level_by zero (is_among x l.head.private) ≡ 1 = ap (λ (b : Bool). level_by zero b) h in omega (arith, e)
    go (suc n) = let e : level_by (suc n) (is_among x l.head.private) ≡ suc (suc n) = ap (λ (b : Bool). if b then (if is_among x l.head.private then 1 else 0) else suc (suc n)) (not_zero n) in omega (arith, e)
owner_least x (k ∷ front) l inner h = go (private_level x (front ++ l ∷ inner)) (owner_least x front l inner h)
  where
    go : (n : ℕ) → suc (length front) ≤ n → suc (suc (length front)) ≤ level_by n (is_among x k.head.private)
    go zero e = absurd (omega (arith, e))
    go (suc n) e = let is : level_by (suc n) (is_among x k.head.private) ≡ suc (suc n) = ap (λ (b : Bool). if b then (if is_among x k.head.private then 1 else 0) else suc (suc n)) (not_zero n) in omega (arith, is, e)

-- a loop that isn't further in than the owner stands in each nest that has the owner and the loops in front of it
pub at_front : (front : List Loop) (k : Loop) (more other first : List Loop) (l : Loop) (rest : List Loop) → front ++ k ∷ more ≡ first ++ l ∷ rest → length first ≤ length front → IsIn l (front ++ k ∷ other)
at_front [] k more other [] l rest e h = inl (sym (first_is k l more rest e))
at_front [] k more other (f ∷ first) l rest e h = absurd (omega (arith, h))
at_front (f ∷ front) k more other [] l rest e h = inl (sym (first_is f l (front ++ k ∷ more) rest e))
at_front (f ∷ front) k more other (g ∷ first) l rest e h = inr (at_front front k more other first l rest (rest_is f g (front ++ k ∷ more) (first ++ l ∷ rest) e) (omega (arith, h)))

-- both references belong to no loop, or both to one, which has the same loops round it
pub record HaveOne (x : List ℕ) (ls ms : List Loop) : Type 0 where
  pub first : HasOwner x ls
  pub second : HasOwner x ms
  pub fronts : first.front ≡ second.front
  pub loops : first.loop ≡ second.loop

pub owners_agree : (t : ProgramTree) (r q : Reference) (x : List ℕ) → IsIn r (references t) → IsIn q (references t) → is_same_owner (innermost_private x r.nest) (innermost_private x q.nest) ≡ true
    → (HasNone x r.nest × HasNone x q.nest) ⊎ HaveOne x r.nest q.nest
owners_agree t r q x i j same = go (find_owner x r.nest) (find_owner x q.nest)
  where
    wrong : {A : Type 0} → false ≡ true → A
    wrong e = absurd cc

    go : HasNone x r.nest ⊎ HasOwner x r.nest → HasNone x q.nest ⊎ HasOwner x q.nest → (HasNone x r.nest × HasNone x q.nest) ⊎ HaveOne x r.nest q.nest
    go (inl h) (inl k) = inl (h, k)
    go (inl h) (inr k) = wrong ((λ z. is_same_owner (sym h.0 z) (sym k.owner z)) ∙ same)
    go (inr h) (inl k) = wrong ((λ z. is_same_owner (sym h.owner z) (sym k.0 z)) ∙ same)
    go (inr h) (inr k) =
        let number : h.loop.number ≡ k.loop.number = eqb-true h.loop.number k.loop.number ((λ z. is_same_owner (sym h.owner z) (sym k.owner z)) ∙ same) in
        let first = loops_nested t r i h.front h.loop h.inner h.is in
        let second = loops_nested t q j k.front k.loop k.inner k.is in
        let head : h.loop.head ≡ k.loop.head = head_is h.loop.head k.loop.head first.0.body second.0.body (sym first.0.stands ∙ ap (λ (n : ℕ). statement_with n t) number ∙ second.0.stands) in
        inr (record {
          first = h;
          second = k;
          fronts = first.1 ∙ ap (nest_round t) number ∙ sym second.1;
          loops = (λ z. record { number = number z; head = head z });
        })
