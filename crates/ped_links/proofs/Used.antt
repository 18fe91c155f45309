-- Dummy arguments that are used so, by units and by their numbers.
use Rattle.std.proofs.Common.{◌≡◌, ℕ, zero, suc, ◌<◌, ◌↔◌, List, [], ◌∷◌, Bool, true, Option, Some, None, length, get_or, refl, sym, ap, subst, ◌∙◌, arith}
use Rattle.std.specs.Prelude.{IsTrue}
use Rattle.ped_base.specs.Lists.{is_among}
use Rattle.ped_tree.specs.Tree.{ExprTree, Int, Var, Element, Neg, Add, Sub, Mul, Div, Pow, Call}
use Rattle.ped_units.specs.Units.{ProgramUnit, ProgramUnits, all_units}
use Rattle.ped_units.specs.Linking.{IsIn, calls_of, associated, FormalOf, PassesFor, IsUsed, IsUsedAlong}
use Rattle.ped_links.specs.Arguments.{formals_at, formal_number, AreUses, IsPassed, ArePassed, IsSeed}
use Rattle.ped_links.specs.Placing.{argument_name}
use Rattle.ped_links.specs.Reaching.{Leads, LeadAlong, IsReached, IsMarked, IsMarkedNumber}
use Rattle.ped_links.specs.Scenes.{unit_at}
use Rattle.ped_links.proofs.FormalNumbers.{numbered_there, has_a_number, one_number}
use Rattle.ped_links.proofs.NumberedUnits.{unit_of_number, number_of_unit_of}
use Rattle.ped_links.proofs.Reached.{reached_more, seed_reached}

-- the dummy arguments of a unit by its number
pub formals_there : (us : List ProgramUnit) (k : ℕ) (d : ProgramUnit) → k < length us → formals_at us k ≡ (get_or us k d).formals
formals_there [] k d h = absurd (omega (arith, h))
formals_there (u ∷ us) zero d h = refl
formals_there (u ∷ us) (suc k) d h = formals_there us k d (omega (arith, h))

pub named_so : (e : ExprTree) (x : List ℕ) → argument_name e ≡ Some x → e ≡ Var x
named_so (Int n) x h = absurd cc
named_so (Var y) x h = ap Var (inner y x h)
  where
    inner : (a b : List ℕ) → Some a ≡ Some b → a ≡ b
    inner a b q = cc
named_so (Element y es) x h = absurd cc
named_so (Neg a) x h = absurd cc
named_so (Add a b) x h = absurd cc
named_so (Sub a b) x h = absurd cc
named_so (Mul a b) x h = absurd cc
named_so (Div a b) x h = absurd cc
named_so (Pow a b) x h = absurd cc
named_so (Call f es) x h = absurd cc

-- each dummy argument with this number is used so
abbrev AreUsedAt : (ProgramUnit → List (List ℕ)) → ProgramUnits → ℕ → Type 0
AreUsedAt own us n = (k : ℕ) (x : List ℕ) → k < length (all_units us) → formal_number (all_units us) k x ≡ Some n → IsUsed own us (unit_at us k) x

seed_used : (own : ProgramUnit → List (List ℕ)) (us : ProgramUnits) (n : ℕ) → IsSeed own us n → AreUsedAt own us n
seed_used own us n s = λ k x below named.
    let one = one_number (all_units us) s.0 k s.1 x n s.5 named in
    subst (λ (i : ℕ). IsUsed own us (unit_at us i) x) one.0 (subst (λ (y : List ℕ). IsUsed own us (unit_at us s.0) y) one.1 ([], record { is_formal = s.3; uses = s.4 }))

passed_used : (own : ProgramUnit → List (List ℕ)) (us : ProgramUnits) (from to : ℕ) → AreUsedAt own us from → ArePassed us from to → AreUsedAt own us to
passed_used own us from to used a = λ k x below named.
    let i = a.0 in
    let j = a.1 in
    let p = a.3 in
    let known = unit_of_number us p.call.called.name j p.is_unit in
    let there = used j p.association.formal known.1 p.begins in
    let formal : IsTrue (is_among p.formal (unit_at us i).formals) = ap (λ (fs : List (List ℕ)). is_among p.formal fs) (sym (formals_there (all_units us) i us.main a.2)) ∙ (numbered_there (all_units us) i p.formal to p.ends).among in
    let passes : PassesFor us (record { unit = unit_at us i; formal = p.formal }) (record { unit = unit_at us j; formal = p.association.formal }) = record {
      is_formal = formal;
      calls = record { call = p.call; is_call = p.is_call; is_unit = known.0 };
      association = p.association;
      associates = p.associates;
      passes = named_so p.association.argument p.formal p.passes;
      stands_for = refl;
    } in
    let one = one_number (all_units us) i k p.formal x to p.ends named in
    subst (λ (m : ℕ). IsUsed own us (unit_at us m) x) one.0 (subst (λ (y : List ℕ). IsUsed own us (unit_at us i) y) one.1 ((record { unit = unit_at us j; formal = p.association.formal }) ∷ there.0, (passes, there.1)))

used_along : (own : ProgramUnit → List (List ℕ)) (us : ProgramUnits) (ends : List (List ℕ)) (path : List ℕ) (i j : ℕ) → ((from to : ℕ) → Leads ends from to ↔ ArePassed us from to) → AreUsedAt own us i → LeadAlong ends i path j → AreUsedAt own us j
used_along own us ends [] i j a u e = subst (AreUsedAt own us) e u
used_along own us ends (k ∷ path) i j a u h = used_along own us ends path k j a (passed_used own us i k u ((a i k).0 h.0)) h.1

-- what is reached is used so
pub reached_used : (own : ProgramUnit → List (List ℕ)) (us : ProgramUnits) (ends : List (List ℕ)) (seeds : List ℕ) (n : ℕ) → ((from to : ℕ) → Leads ends from to ↔ ArePassed us from to) → ((m : ℕ) → IsIn m seeds ↔ IsSeed own us m) → IsReached ends seeds n → AreUsedAt own us n
reached_used own us ends seeds n a s r = used_along own us ends r.path r.seed n a (seed_used own us r.seed ((s r.seed).0 r.is_seed)) r.leads

-- a dummy argument has a number that is reached
abbrev IsReachedAt : ProgramUnits → List (List ℕ) → List ℕ → ℕ → List ℕ → Type 0
IsReachedAt us ends seeds k x = (n : ℕ) × (formal_number (all_units us) k x ≡ Some n) × IsReached ends seeds n

-- what is used so is reached
pub used_reached : (own : ProgramUnit → List (List ℕ)) (us : ProgramUnits) (ends : List (List ℕ)) (seeds : List ℕ) (path : List FormalOf) (f : FormalOf) (k : ℕ) → ((from to : ℕ) → Leads ends from to ↔ ArePassed us from to) → ((m : ℕ) → IsIn m seeds ↔ IsSeed own us m)
    → k < length (all_units us) → unit_at us k ≡ f.unit → IsUsedAlong own us f path → IsReachedAt us ends seeds k f.formal
used_reached own us ends seeds [] f k a s below is h =
    let among : is_among f.formal (unit_at us k).formals ≡ true = ap (λ (u : ProgramUnit). is_among f.formal u.formals) is ∙ h.is_formal in
    let number = has_a_number (all_units us) k f.formal (ap (is_among f.formal) (formals_there (all_units us) k us.main below) ∙ among) in
    let uses : IsTrue (is_among f.formal (own (unit_at us k))) = ap (λ (u : ProgramUnit). is_among f.formal (own u)) is ∙ h.uses in
    (number.0, number.1, seed_reached ends seeds number.0 ((s number.0).1 (k, f.formal, below, among, uses, number.1)))
used_reached own us ends seeds (g ∷ path) f k a s below is h =
    let p = h.0 in
    let c = p.calls in
    let callee = number_of_unit_of us c.call.called.name g.unit c.is_unit in
    let known = unit_of_number us c.call.called.name callee.0 callee.1 in
    let later = used_reached own us ends seeds path g callee.0 a s known.1 callee.2 h.1 in
    let among : is_among f.formal (unit_at us k).formals ≡ true = ap (λ (u : ProgramUnit). is_among f.formal u.formals) is ∙ p.is_formal in
    let number = has_a_number (all_units us) k f.formal (ap (is_among f.formal) (formals_there (all_units us) k us.main below) ∙ among) in
    let passed : IsPassed us k callee.0 later.0 number.0 = record {
      call = c.call;
      is_call = subst (λ (u : ProgramUnit). IsIn c.call (calls_of u)) (sym is) c.is_call;
      is_unit = callee.1;
      association = p.association;
      associates = subst (λ (u : ProgramUnit). IsIn p.association (associated u c.call.called)) (sym callee.2) p.associates;
      formal = f.formal;
      passes = ap argument_name p.passes;
      begins = ap (formal_number (all_units us) callee.0) p.stands_for ∙ later.1;
      ends = number.1;
    } in
    (number.0, number.1, reached_more ends seeds later.0 number.0 later.2 ((a later.0 number.0).1 (k, callee.0, below, passed)))

-- what is marked from the seeds along the arrows are the dummy arguments that are used so
pub marked_used : (own : ProgramUnit → List (List ℕ)) (us : ProgramUnits) (ends : List (List ℕ)) (seeds : List ℕ) (marks : List Bool) → ((from to : ℕ) → Leads ends from to ↔ ArePassed us from to) → ((m : ℕ) → IsIn m seeds ↔ IsSeed own us m)
    → ((j : ℕ) → IsMarked marks j ↔ IsReached ends seeds j) → AreUses own us marks
marked_used own us ends seeds marks a s m = λ k x below among. (
  there k x below (formal_number (all_units us) k x) refl,
  λ used.
      let at = used_reached own us ends seeds used.0 (record { unit = unit_at us k; formal = x }) k a s below refl used.1 in
      subst (IsMarkedNumber marks) (sym at.1) ((m at.0).1 at.2),
)
  where
    there : (k : ℕ) (x : List ℕ) → k < length (all_units us) → (o : Option ℕ) → formal_number (all_units us) k x ≡ o → IsMarkedNumber marks (formal_number (all_units us) k x) → IsUsed own us (unit_at us k) x
    there k x below None e h = absurd (subst (IsMarkedNumber marks) e h)
    there k x below (Some n) e h = reached_used own us ends seeds n a s ((m n).0 (subst (IsMarkedNumber marks) e h)) k x below e

-- a dummy argument of one of the first units is used by its unit itself, and has this number
abbrev pub SeedBelow : (ProgramUnit → List (List ℕ)) → ProgramUnits → ℕ → ℕ → Type 0
SeedBelow own us m n = (k : ℕ) × (x : List ℕ) × (k < m) × IsTrue (is_among x (unit_at us k).formals) × IsTrue (is_among x (own (unit_at us k))) × (formal_number (all_units us) k x ≡ Some n)
