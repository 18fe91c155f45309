-- The first of some accesses for which a test holds.
use Rattle.std.proofs.Common.{◌≡◌, ℕ, suc, ◌+◌, ◌<◌, ◌≤◌, List, [], ◌∷◌, ◌++◌, length, Bool, true, false, ◌||◌, Option, Some, None, ltb, refl, sym, ap, ◌∙◌, arith}
use Rattle.std.specs.Prelude.{if◌then◌else◌}
use Rattle.std.specs.List.{All, AllByRecursion}
use Rattle.std.proofs.lemmas.List.Elements.{All-from_recursion, recursion_from_All}
use Rattle.std.proofs.lemmas.Bool.Decides.{Decides-ltb}
use Rattle.ped_store.specs.Races.{Access}
use Rattle.ped_order.specs.declared.sightings.Sighting.{Sighting}
use Rattle.ped_order.specs.Sightings.{sighting_of, first_sighting, first_of, earlier_of}

-- what is found stands behind what stands before all
abbrev IsFrom : ℕ → Option Sighting → Type 0
IsFrom i None = Unit {0}
IsFrom i (Some s) = i ≤ s.before

from_here : (i : ℕ) (o : Option Sighting) → IsFrom (suc i) o → IsFrom i o
from_here i None h = tt
from_here i (Some s) h = omega (arith, h)

found_from : (p : Access → Bool) (i : ℕ) (xs : List Access) → IsFrom i (first_sighting p i xs)
found_from p i [] = tt
found_from p i (x ∷ xs) = go (p x) (found_from p (suc i) xs)
  where
    go : (b : Bool) → IsFrom (suc i) (first_sighting p (suc i) xs) → IsFrom i (if b then Some (sighting_of i x) else first_sighting p (suc i) xs)
    go true h = omega arith
    go false h = from_here i (first_sighting p (suc i) xs) h

at_least : (i j : ℕ) → i ≤ j → ltb j i ≡ false
at_least i j h = go (ltb j i) refl
  where
    go : (b : Bool) → ltb j i ≡ b → ltb j i ≡ false
    go true e = let k = (Decides-ltb j i).0 e in absurd (omega (arith, h, k))
    go false e = e

less : (i j : ℕ) → i < j → ltb i j ≡ true
less i j h = (Decides-ltb i j).1 h

here_first : (i : ℕ) (x : Access) (o : Option Sighting) → IsFrom i o → Some (sighting_of i x) ≡ earlier_of (Some (sighting_of i x)) o
here_first i x None h = refl
here_first i x (Some s) h = sym (ap (λ b. if b then Some s else Some (sighting_of i x)) (at_least i s.before h))

here_last : (i : ℕ) (x : Access) (o : Option Sighting) → IsFrom (suc i) o → Some (sighting_of i x) ≡ earlier_of o (Some (sighting_of i x))
here_last i x None h = refl
here_last i x (Some s) h = sym (ap (λ b. if b then Some (sighting_of i x) else Some s) (less i s.before (omega (arith, h))))

-- the first for which one of two tests holds is the earlier of the firsts
pub found_either : (p q : Access → Bool) (i : ℕ) (xs : List Access) → first_sighting (λ a. p a || q a) i xs ≡ earlier_of (first_sighting p i xs) (first_sighting q i xs)
found_either p q i [] = refl
found_either p q i (x ∷ xs) = go (found_either p q (suc i) xs) (p x) (q x)
  where
    go : first_sighting (λ a. p a || q a) (suc i) xs ≡ earlier_of (first_sighting p (suc i) xs) (first_sighting q (suc i) xs) → (b d : Bool) → (if b || d then Some (sighting_of i x) else first_sighting (λ a. p a || q a) (suc i) xs)
        ≡ earlier_of (if b then Some (sighting_of i x) else first_sighting p (suc i) xs) (if d then Some (sighting_of i x) else first_sighting q (suc i) xs)
    go more true true = here_first i x (Some (sighting_of i x)) (omega arith)
    go more true false = here_first i x (first_sighting q (suc i) xs) (from_here i _ (found_from q (suc i) xs))
    go more false true = here_last i x (first_sighting p (suc i) xs) (found_from p (suc i) xs)
    go more false false = more

-- with one access more at the end
pub found_more : (p : Access → Bool) (i : ℕ) (xs : List Access) (x : Access) → first_sighting p i (xs ++ x ∷ []) ≡ first_of (first_sighting p i xs) (if p x then Some (sighting_of (i + length xs) x) else None)
found_more p i [] x = ap (λ n. if p x then Some (sighting_of n x) else None) (omega arith)
found_more p i (y ∷ xs) x = go (found_more p (suc i) xs x) (p y)
  where
    go : first_sighting p (suc i) (xs ++ x ∷ []) ≡ first_of (first_sighting p (suc i) xs) (if p x then Some (sighting_of (suc i + length xs) x) else None) → (b : Bool) → (if b then Some (sighting_of i y) else first_sighting p (suc i) (xs ++ x ∷ [])) ≡ first_of (if b then Some (sighting_of i y) else first_sighting p (suc i) xs) (if p x then Some (sighting_of (i + length (y ∷ xs)) x) else None)
    go more true = refl
    go more false = more ∙ ap (λ n. first_of (first_sighting p (suc i) xs) (if p x then Some (sighting_of n x) else None)) (omega arith)

-- where the test never holds nothing is found
pub found_never : (p : Access → Bool) (i : ℕ) (xs : List Access) → ((a : Access) → p a ≡ false) → first_sighting p i xs ≡ None
found_never p i [] h = refl
found_never p i (x ∷ xs) h = ap (λ b. if b then Some (sighting_of i x) else first_sighting p (suc i) xs) (h x) ∙ found_never p (suc i) xs h

each_fails : (p : Access → Bool) (i : ℕ) (xs : List Access) → first_sighting p i xs ≡ None → AllByRecursion (λ a. p a ≡ false) xs
each_fails p i [] e = tt
each_fails p i (x ∷ xs) e = go (each_fails p (suc i) xs) (p x) refl
  where
    go : (first_sighting p (suc i) xs ≡ None → AllByRecursion (λ a. p a ≡ false) xs) → (b : Bool) → p x ≡ b → AllByRecursion (λ a. p a ≡ false) (x ∷ xs)
    go more true f = let k : Some (sighting_of i x) ≡ None = sym (ap (λ b. if b then Some (sighting_of i x) else first_sighting p (suc i) xs) f) ∙ e in absurd cc
    go more false f = (f, more (sym (ap (λ b. if b then Some (sighting_of i x) else first_sighting p (suc i) xs) f) ∙ e))

-- where nothing is found the test holds nowhere
pub none_found : (p : Access → Bool) (i : ℕ) (xs : List Access) → first_sighting p i xs ≡ None → All (λ a. p a ≡ false) xs
none_found p i xs e = All-from_recursion (λ a. p a ≡ false) xs (each_fails p i xs e)

abbrev statement_in : Option Sighting → ℕ
statement_in None = 0
statement_in (Some s) = s.statement

-- the first access of a list for which a test holds, with what stands before it and behind it
pub record IsFirst (p : Access → Bool) (xs : List Access) (s : Sighting) : Type 0 where
  pub before : List Access
  pub found : Access
  pub behind : List Access
  pub order : xs ≡ before ++ found ∷ behind
  pub earliest : All (λ a. p a ≡ false) before
  pub holds : p found ≡ true
  pub statement : found.place.statement ≡ s.statement

-- what is found is the first
pub one_found : (p : Access → Bool) (i : ℕ) (xs : List Access) (s : Sighting) → first_sighting p i xs ≡ Some s → IsFirst p xs s
one_found p i [] s e = absurd cc
one_found p i (x ∷ xs) s e = go (one_found p (suc i) xs s) (p x) refl
  where
    go : (first_sighting p (suc i) xs ≡ Some s → IsFirst p xs s) → (b : Bool) → p x ≡ b → IsFirst p (x ∷ xs) s
    go more true f =
        let k : Some (sighting_of i x) ≡ Some s = sym (ap (λ b. if b then Some (sighting_of i x) else first_sighting p (suc i) xs) f) ∙ e in
        record { before = []; found = x; behind = xs; order = refl; earliest = All-from_recursion (λ a. p a ≡ false) [] tt; holds = f; statement = ap statement_in k }
    go more false f =
        let r = more (sym (ap (λ b. if b then Some (sighting_of i x) else first_sighting p (suc i) xs) f) ∙ e) in
        record {
          before = x ∷ r.before;
          found = r.found;
          behind = r.behind;
          order = ap (λ ys. x ∷ ys) r.order;
          earliest = All-from_recursion (λ a. p a ≡ false) (x ∷ r.before) (f, recursion_from_All (λ a. p a ≡ false) r.before r.earliest);
          holds = r.holds;
          statement = r.statement;
        }
