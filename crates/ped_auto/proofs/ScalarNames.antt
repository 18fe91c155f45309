-- The names that a DO carries, as the code collects them.
use Rattle.std.proofs.Common.{◌≡◌, ◌≢◌, ℕ, ◌+◌, ◌<◌, ◌≤◌, leb, List, [], ◌∷◌, map, take, length, get_or, Bool, true, false, not, ◌&&◌, Option, Some, None, refl, sym, subst, ap, ◌∙◌, arith}
use Rattle.std.specs.List.{list_all}
use Rattle.std.proofs.lemmas.List.Folds.{list_all-map, list_all_more, list_all_at}
use Rattle.ped_base.specs.Lists.{has_some}
use Rattle.ped_base.specs.Letters.{is_letter, is_name}
use Rattle.ped_rules.specs.ped_flow.specs.ped_tree.specs.Tree.{ProgramTree}
use Rattle.ped_rules.specs.Scalars.{is_scalar}
use Rattle.ped_auto.specs.CarriedNames.{AreCarried, is_file, is_scalar_name, are_scalars, are_few_scalars}
use Rattle.ped_auto.specs.Editing.{Editing}
use Rattle.ped_auto.specs.CodeStages.{IsScalarChoice, AreScalarNames}
use Rattle.ped_auto.proofs.Named.{Named}

-- a name is that of a scalar
abbrev pub passes : {R : Type 0} → (R → List ℕ) → ProgramTree → R → Bool
passes text t x = is_scalar_name t (text x)

and_false : (a b : Bool) → b ≡ false → (a && b) ≡ false
and_false true b h = h
and_false false b h = refl

first_false : (a b : Bool) → a ≡ false → (a && b) ≡ false
first_false true b h = absurd cc
first_false false b h = refl

both_true : (a b : Bool) → a ≡ true → b ≡ true → (a && b) ≡ true
both_true true b h k = k
both_true false b h k = absurd cc

-- one name that is none of a scalar is enough
pub none_of : {R : Type 0} (text : R → List ℕ) (t : ProgramTree) (found : List R) (i : ℕ) (d : R) → i < length found → passes text t (get_or found i d) ≡ false → are_scalars t (map text found) ≡ false
none_of text t found i d within h =
    and_false (has_some (map text found)) (list_all (is_scalar_name t) (map text found))
    (list_all-map (is_scalar_name t) text found ∙ list_all_at (passes text t) found i d within h)

-- no name at all
pub none_there : (t : ProgramTree) (names : List (List ℕ)) → names ≡ [] → are_scalars t names ≡ false
none_there t names h = ap (are_scalars t) h

some_there : (names : List (List ℕ)) → names ≢ [] → has_some names ≡ true
some_there [] h = absurd (h refl)
some_there (x ∷ xs) h = refl

-- all are
pub all_there : {R : Type 0} (text : R → List ℕ) (t : ProgramTree) (found : List R) → map text found ≢ [] → list_all (passes text t) found ≡ true → are_scalars t (map text found) ≡ true
all_there text t found some h =
    both_true (has_some (map text found)) (list_all (is_scalar_name t) (map text found)) (some_there (map text found) some) (list_all-map (is_scalar_name t) text found ∙ h)

-- one more
pub one_more : {R : Type 0} (text : R → List ℕ) (t : ProgramTree) (found : List R) (i : ℕ) (d : R) → i < length found → list_all (passes text t) (take i found) ≡ true → passes text t (get_or found i d) ≡ true
    → list_all (passes text t) (take (i + 1) found) ≡ true
one_more text t found i d within h k = list_all_more (passes text t) found i d within ∙ both_true (list_all (passes text t) (take i found)) (passes text t (get_or found i d)) h k

-- a name is no file
letter_apart : (c : ℕ) (cs : List ℕ) → is_letter c ≡ true → is_file (c ∷ cs) ≡ false
letter_apart c cs h = grind arith

name_apart : (x : List ℕ) → is_name x ≡ true → is_file x ≡ false
name_apart [] h = refl
name_apart (c ∷ cs) h = letter_apart c cs (first_true (is_letter c) _ h) where
  first_true : (a b : Bool) → (a && b) ≡ true → a ≡ true
  first_true true b e = refl
  first_true false b e = absurd cc

pub scalar_by : (t : ProgramTree) (x : List ℕ) (b : Bool) → is_name x ≡ true → b ≡ is_scalar t x → is_scalar_name t x ≡ b
scalar_by t x b h e = ap (λ f. not f && is_scalar t x) (name_apart x h) ∙ sym e

-- what the code has found of the names
pub named_of : {S : Type 0} (e : Editing S) (s : S) (number : ℕ) (found : Option (List (List ℕ))) (names : List (List ℕ)) → AreScalarNames e s number found → found ≡ Some names → Named e s number are_scalars names true
named_of {S} e s number found names h is =
    let choice : IsScalarChoice h.0 h.2 (Some names) = subst (λ (o : Option (List (List ℕ))). IsScalarChoice h.0 h.2 o) is h.4 in
    record {
      program = h.0;
      reads = h.1;
      carried = subst (λ ns. AreCarried h.0 number ns) (sym choice.1) h.3;
      answers = ap (are_scalars h.0) choice.1 ∙ choice.0;
    }

-- .. or that they aren't scalars
pub unnamed_of : {S : Type 0} (e : Editing S) (s : S) (number : ℕ) (found : Option (List (List ℕ))) (h : AreScalarNames e s number found) → found ≡ None → Named e s number are_scalars h.2 false
unnamed_of e s number found h is =
    let choice : IsScalarChoice h.0 h.2 None = subst (λ (o : Option (List (List ℕ))). IsScalarChoice h.0 h.2 o) is h.4 in
    record {
      program = h.0;
      reads = h.1;
      carried = h.3;
      answers = choice;
    }

few_by : (a : Bool) (n : ℕ) → a ≡ true → n ≤ 8 → (a && leb n 8) ≡ true
few_by true n h few = grind arith
few_by false n h few = absurd cc

many_by : (a : Bool) (n : ℕ) → 8 < n → (a && leb n 8) ≡ false
many_by true n many = grind arith
many_by false n many = refl

none_by : (a b : Bool) → a ≡ false → (a && b) ≡ false
none_by = first_false

-- few scalars, many, or none
pub few_named : {S : Type 0} (e : Editing S) (s : S) (number : ℕ) (names : List (List ℕ)) → Named e s number are_scalars names true → length names ≤ 8 → Named e s number are_few_scalars names true
few_named e s number names n few = record {
  program = n.program;
  reads = n.reads;
  carried = n.carried;
  answers = few_by (are_scalars n.program names) (length names) n.answers few;
}

pub many_named : {S : Type 0} (e : Editing S) (s : S) (number : ℕ) (names : List (List ℕ)) → Named e s number are_scalars names true → 8 < length names → Named e s number are_few_scalars names false
many_named e s number names n many = record {
  program = n.program;
  reads = n.reads;
  carried = n.carried;
  answers = many_by (are_scalars n.program names) (length names) many;
}

pub none_named : {S : Type 0} (e : Editing S) (s : S) (number : ℕ) (names : List (List ℕ)) → Named e s number are_scalars names false → Named e s number are_few_scalars names false
none_named e s number names n = record {
  program = n.program;
  reads = n.reads;
  carried = n.carried;
  answers = none_by (are_scalars n.program names) (leb (length names) 8) n.answers;
}
