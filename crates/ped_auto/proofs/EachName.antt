-- The names of a DO, tried one behind another.
use Rattle.std.proofs.Common.{◌≡◌, ℕ, suc, ◌+◌, ◌≤◌, ◌<◌, List, [], ◌∷◌, length, get_or, drop, Bool, refl, sym, subst, ap, ◌∙◌, arith}
use Rattle.std.proofs.Math.Seq.{drop-cons}
use Rattle.std.proofs.lemmas.List.{drop_all}
use Rattle.ped_script.specs.declared.items.Command.TheVariants.{Privatise}
use Rattle.ped_auto.specs.Editing.{Editing, IsEditing}
use Rattle.ped_auto.specs.Strategy.{Stage, Tries, TriesEach}
use Rattle.ped_auto.specs.CodeStages.{Leads, IsCut, AnyOutcome}
use Rattle.ped_auto.proofs.Leading.{leads_here, leads_on, leads_tries, leads_each}
use Rattle.ped_auto.proofs.OneCourse.{one_tries}
use Rattle.ped_auto.proofs.Cutting.{cut_within}

-- of these names the rest are left: what they lead to is what all lead to
pub record IsOnEach {S : Type 0} (e : Editing S) (number : ℕ) (names rest : List (List ℕ)) (p m : Stage S) : Type 0 where
  pub came : Leads e p m
  pub on : (q : Stage S) → TriesEach e number rest m q → TriesEach e number names p q
  pub back : (q : Stage S) → TriesEach e number names p q → TriesEach e number rest m q

pub each_begins : {S : Type 0} (e : Editing S) (number : ℕ) (names : List (List ℕ)) (p : Stage S) → IsOnEach e number names names p p
each_begins e number names p = record {
  came = leads_here e p;
  on = λ q h. h;
  back = λ q h. h;
}

each_behind : {S : Type 0} (e : Editing S) → IsEditing e → (number : ℕ) (x : List ℕ) (rest : List (List ℕ)) (m r q : Stage S) (taken : Bool) → Tries e (Privatise number x) m taken r
    → TriesEach e number (x ∷ rest) m q → TriesEach e number rest r q
each_behind {S} e laws number x rest m r q taken tried h =
    let one : h.1 ≡ r = (one_tries e laws (Privatise number x) m h.1 r h.0 taken h.2 tried).1 in
    subst (λ (y : Stage S). TriesEach e number rest y q) one h.3

pub each_goes_on : {S : Type 0} (e : Editing S) → IsEditing e → (number : ℕ) (x : List ℕ) (names left rest : List (List ℕ)) (p m r : Stage S) (taken : Bool) → left ≡ x ∷ rest
    → IsOnEach e number names left p m → Tries e (Privatise number x) m taken r → IsOnEach e number names rest p r
each_goes_on {S} e laws number x names left rest p m r taken same on tried = record {
  came = leads_on e p m r on.came (leads_tries e laws (Privatise number x) tt m taken r tried);
  on = λ q h. on.on q (subst (λ (ns : List (List ℕ)). TriesEach e number ns m q) (sym same) (taken, r, tried, h));
  back = λ q h. each_behind e laws number x rest m r q taken tried (subst (λ (ns : List (List ℕ)). TriesEach e number ns m q) same (on.back q h));
}

pub each_ends : {S : Type 0} (e : Editing S) (number : ℕ) (names left : List (List ℕ)) (p m : Stage S) → left ≡ [] → IsOnEach e number names left p m → TriesEach e number names p m
each_ends {S} e number names left p m none on = on.on m (subst (λ (ns : List (List ℕ)). TriesEach e number ns m m) (sym none) refl)

each_part : {S : Type 0} (e : Editing S) → IsEditing e → (number : ℕ) (x : List ℕ) (rest : List (List ℕ)) (m q : Stage S) → TriesEach e number (x ∷ rest) m q
    → (r : Stage S) × AnyOutcome (Tries e (Privatise number x)) m r × Leads e r q
each_part e laws number x rest m q h = (h.1, (h.0, h.2), leads_each e laws number rest h.1 q h.3)

pub cut_each : {S : Type 0} (e : Editing S) → IsEditing e → (number : ℕ) (x : List ℕ) (names left rest : List (List ℕ)) (p m : Stage S) → left ≡ x ∷ rest
    → IsOnEach e number names left p m → (now : S) (tests : ℕ) → IsCut e (AnyOutcome (Tries e (Privatise number x))) m now tests → IsCut e (TriesEach e number names) p now tests
cut_each {S} e laws number x names left rest p m same on now tests cut =
    cut_within e (AnyOutcome (Tries e (Privatise number x))) (TriesEach e number names) p m now tests cut on.came
    (λ q h. each_part e laws number x rest m q (subst (λ (ns : List (List ℕ)). TriesEach e number ns m q) same (on.back q h)))

-- the next name
next_name : (names : List (List ℕ)) (i : ℕ) (x : List ℕ) → i < length names → x ≡ get_or names i x → drop i names ≡ x ∷ drop (i + 1) names
next_name names i x within at =
    let next : suc i ≡ i + 1 = omega arith in
    drop-cons names i x within ∙ ap (λ y. y ∷ drop (suc i) names) (sym at) ∙ ap (λ k. x ∷ drop k names) next

-- one name behind another
pub each_more : {S : Type 0} (e : Editing S) → IsEditing e → (number : ℕ) (names : List (List ℕ)) (i : ℕ) (x : List ℕ) (p m r : Stage S) (taken : Bool) → i < length names → x ≡ get_or names i x
    → IsOnEach e number names (drop i names) p m → Tries e (Privatise number x) m taken r → IsOnEach e number names (drop (i + 1) names) p r
each_more e laws number names i x p m r taken within at on tried =
    each_goes_on e laws number x names (drop i names) (drop (i + 1) names) p m r taken (next_name names i x within at) on tried

pub cut_more : {S : Type 0} (e : Editing S) → IsEditing e → (number : ℕ) (names : List (List ℕ)) (i : ℕ) (x : List ℕ) (p m : Stage S) → i < length names → x ≡ get_or names i x
    → IsOnEach e number names (drop i names) p m → (now : S) (tests : ℕ) → IsCut e (AnyOutcome (Tries e (Privatise number x))) m now tests → IsCut e (TriesEach e number names) p now tests
cut_more e laws number names i x p m within at on now tests cut =
    cut_each e laws number x names (drop i names) (drop (i + 1) names) p m (next_name names i x within at) on now tests cut

pub each_over : {S : Type 0} (e : Editing S) (number : ℕ) (names : List (List ℕ)) (i : ℕ) (p m : Stage S) → length names ≤ i → IsOnEach e number names (drop i names) p m → TriesEach e number names p m
each_over e number names i p m past on = each_ends e number names (drop i names) p m (drop_all i names past) on
