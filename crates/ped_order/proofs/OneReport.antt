-- There is exactly one report.
use Rattle.std.proofs.Common.{◌≡◌, ◌⊎◌, ℕ, List, [], ◌∷◌, ◌++◌, Bool, true, false, Option, Some, None, refl, sym, ap, subst, ◌∙◌, append_assoc, inl, inr}
use Rattle.std.specs.Prelude.{if◌then◌else◌, ◌↔◌}
use Rattle.std.specs.List.{AllByRecursion}
use Rattle.std.proofs.lemmas.List.Elements.{recursion_from_All}
use Rattle.std.proofs.lemmas.List.{append-nil}
use Rattle.ped_tree.specs.Tree.{ProgramTree}
use Rattle.ped_store.specs.Cells.{Cell}
use Rattle.ped_store.specs.Races.{Access, accesses, race, HasNoRace}
use Rattle.ped_laws.specs.ped_eval.specs.Runs.{Ending, going, stopped, failed}
use Rattle.ped_laws.specs.ped_eval.specs.Outcomes.{run_of, Ends, IsRaceFree}
use Rattle.ped_order.specs.declared.sightings.Sighting.{Sighting}
use Rattle.ped_order.specs.Sightings.{first_sighting}
use Rattle.ped_order.specs.FirstRaces.{IsFirstRace, IsRaceAt}
use Rattle.ped_order.specs.Reports.{Report, NoRace, Race, Fault, IsReport}
use Rattle.ped_order.specs.Saw.{race_stays}
use Rattle.ped_order.proofs.Searches.{none_found}
use Rattle.ped_order.proofs.RacesFound.{no_race_more, first_race}

-- ---- one at most

-- the first of some accesses for which the test holds
abbrev first : (Access → Bool) → List Access → Option Access
first p [] = None
first p (a ∷ more) = if p a then Some a else first p more

abbrev pair_with : Access → Option Access → Option (Access × Access) → Option (Access × Access)
pair_with b None later = later
pair_with b (Some a) later = Some (a, b)

-- the first race, where some accesses have been passed and these come
abbrev pair : List Access → List Access → Option (Access × Access)
pair passed [] = None
pair passed (b ∷ more) = pair_with b (first (λ a. race a b) passed) (pair (passed ++ b ∷ []) more)

first_is : (p : Access → Bool) (before : List Access) (a : Access) (behind : List Access) → AllByRecursion (λ x. p x ≡ false) before → p a ≡ true → first p (before ++ a ∷ behind) ≡ Some a
first_is p [] a behind h e = ap (λ b. if b then Some a else first p behind) e
first_is p (x ∷ before) a behind h e = ap (λ b. if b then Some x else first p (before ++ a ∷ behind)) h.0 ∙ first_is p before a behind h.1 e

first_is_none : (p : Access → Bool) (xs : List Access) → AllByRecursion (λ x. p x ≡ false) xs → first p xs ≡ None
first_is_none p [] h = refl
first_is_none p (x ∷ xs) h = ap (λ b. if b then Some x else first p xs) h.0 ∙ first_is_none p xs h.1

in_the_middle : (P : Access → Type 0) (xs : List Access) (x : Access) (ys : List Access) → AllByRecursion P (xs ++ x ∷ ys) → P x
in_the_middle P [] x ys h = h.0
in_the_middle P (y ∷ xs) x ys h = in_the_middle P xs x ys h.1

-- without a race, none before an access races with it
none_before : (passed : List Access) (m : Access) (more : List Access) → HasNoRace (passed ++ m ∷ more) → AllByRecursion (λ a. race a m ≡ false) passed
none_before [] m more h = tt
none_before (x ∷ passed) m more h =
    (in_the_middle (λ b. race x b ≡ false) passed m more (recursion_from_All (λ b. race x b ≡ false) (passed ++ m ∷ more) h.0), none_before passed m more h.1)

passes : (passed middle : List Access) (b : Access) (behind : List Access) (a : Access) → HasNoRace (passed ++ middle) → first (λ x. race x b) (passed ++ middle) ≡ Some a → pair passed (middle ++ b ∷ behind) ≡ Some (a, b)
passes passed [] b behind a h e = ap (λ o. pair_with b o (pair (passed ++ b ∷ []) behind)) (ap (first (λ x. race x b)) (sym (append-nil passed)) ∙ e)
passes passed (m ∷ middle) b behind a h e =
    let same : (passed ++ m ∷ []) ++ middle ≡ passed ++ m ∷ middle = append_assoc passed (m ∷ []) middle in
    ap (λ o. pair_with m o (pair (passed ++ m ∷ []) (middle ++ b ∷ behind))) (first_is_none (λ x. race x m) passed (none_before passed m middle h))
    ∙ passes (passed ++ m ∷ []) middle b behind a (subst HasNoRace (sym same) h) (ap (first (λ x. race x b)) same ∙ e)

-- the first race is the one that is found so
first_race_is : (all : List Access) (a b : Access) → IsFirstRace all a b → pair [] all ≡ Some (a, b)
first_race_is all a b r =
    ap (pair []) r.order
    ∙ passes [] (r.before ++ a ∷ r.between) b r.behind a r.none (first_is (λ x. race x b) r.before a r.between (recursion_from_All (λ x. race x b ≡ false) r.before r.earliest) r.races)

passes_all : (passed more : List Access) → HasNoRace (passed ++ more) → pair passed more ≡ None
passes_all passed [] h = refl
passes_all passed (m ∷ more) h =
    let same : (passed ++ m ∷ []) ++ more ≡ passed ++ m ∷ more = append_assoc passed (m ∷ []) more in
    ap (λ o. pair_with m o (pair (passed ++ m ∷ []) more)) (first_is_none (λ x. race x m) passed (none_before passed m more h))
    ∙ passes_all (passed ++ m ∷ []) more (subst HasNoRace (sym same) h)

none_is_some : (p : Access × Access) → None ≡ Some p → ⊥
none_is_some p e = absurd cc

-- where there is a first race there is a race
not_both : (all : List Access) (a b : Access) → HasNoRace all → IsFirstRace all a b → ⊥
not_both all a b h r = none_is_some (a, b) (sym (passes_all [] all h) ∙ first_race_is all a b r)

abbrev or_else : Access × Access → Option (Access × Access) → Access × Access
or_else p None = p
or_else p (Some q) = q

one_first_race : (all : List Access) (a b c d : Access) → IsFirstRace all a b → IsFirstRace all c d → (a ≡ c) × (b ≡ d)
one_first_race all a b c d r q =
    let e : Some (a, b) ≡ Some (c, d) = sym (first_race_is all a b r) ∙ first_race_is all c d q in
    (ap (λ o. (or_else (a, b) o).0) e, ap (λ o. (or_else (a, b) o).1) e)

not_ended : (e : Ending) (n s : ℕ) → Ends e → e ≡ failed n s → ⊥
not_ended (going t) n s h p = absurd cc
not_ended (stopped t) n s h p = absurd cc
not_ended (failed m r) n s h p = h

abbrev number_in : Ending → ℕ
number_in (going t) = 0
number_in (stopped t) = 0
number_in (failed n s) = n

abbrev statement_in : Ending → ℕ
statement_in (going t) = 0
statement_in (stopped t) = 0
statement_in (failed n s) = s

pub one_at_most : (t : ProgramTree) (data_bytes : List ℕ) (r q : Report) → IsReport t data_bytes r → IsReport t data_bytes q → r ≡ q
one_at_most t data_bytes NoRace NoRace h k = refl
one_at_most t data_bytes NoRace (Race c x y) h k = absurd (not_both (accesses (run_of t data_bytes).acts) k.first k.second h.1 k.race)
one_at_most t data_bytes NoRace (Fault n s) h k = absurd (not_ended (run_of t data_bytes).ending n s h.0 k.0)
one_at_most t data_bytes (Race c x y) NoRace h k = absurd (not_both (accesses (run_of t data_bytes).acts) h.first h.second k.1 h.race)
one_at_most t data_bytes (Race c x y) (Race d v w) h k =
    let e = one_first_race (accesses (run_of t data_bytes).acts) h.first h.second k.first k.second h.race k.race in
    let on : c ≡ d = sym h.on ∙ ap (λ (a : Access). a.cell) e.1 ∙ k.on in
    let by : x ≡ v = sym h.by ∙ ap (λ (a : Access). a.place.statement) e.0 ∙ k.by in
    let with_last : y ≡ w = sym h.with ∙ ap (λ (a : Access). a.place.statement) e.1 ∙ k.with in
    λ i. Race (on i) (by i) (with_last i)
one_at_most t data_bytes (Race c x y) (Fault n s) h k = absurd (not_both (accesses (run_of t data_bytes).acts) h.first h.second k.1 h.race)
one_at_most t data_bytes (Fault n s) NoRace h k = absurd (not_ended (run_of t data_bytes).ending n s k.0 h.0)
one_at_most t data_bytes (Fault n s) (Race c x y) h k = absurd (not_both (accesses (run_of t data_bytes).acts) k.first k.second h.1 k.race)
one_at_most t data_bytes (Fault n s) (Fault m r) h k =
    let e : failed n s ≡ failed m r = sym h.0 ∙ k.0 in
    λ i. Fault (ap number_in e i) (ap statement_in e i)

-- ---- one at least

abbrev SomeRace : List Access → Type 0
SomeRace all = (c : Cell) × (x y : ℕ) × IsRaceAt all c x y

race_or_none : (passed more : List Access) → HasNoRace passed → SomeRace (passed ++ more) ⊎ HasNoRace (passed ++ more)
race_or_none passed [] h = inr (subst HasNoRace (sym (append-nil passed)) h)
race_or_none passed (m ∷ more) h = go (race_or_none (passed ++ m ∷ []) more) (first_sighting (λ a. race a m) 0 passed) refl
  where
    same : (passed ++ m ∷ []) ++ more ≡ passed ++ m ∷ more
    same = append_assoc passed (m ∷ []) more

    go : (HasNoRace (passed ++ m ∷ []) → SomeRace ((passed ++ m ∷ []) ++ more) ⊎ HasNoRace ((passed ++ m ∷ []) ++ more)) → (o : Option Sighting) → first_sighting (λ a. race a m) 0 passed ≡ o → SomeRace (passed ++ m ∷ more) ⊎ HasNoRace (passed ++ m ∷ more)
    go next None e = subst (λ xs. SomeRace xs ⊎ HasNoRace xs) same (next (no_race_more passed m h (none_found (λ a. race a m) 0 passed e)))
    go next (Some s) e = inl (m.cell, s.statement, m.place.statement, subst (λ xs. IsRaceAt xs m.cell s.statement m.place.statement) same (race_stays (passed ++ m ∷ []) more m.cell s.statement m.place.statement (first_race passed m s h e)))

by_ending : (t : ProgramTree) (data_bytes : List ℕ) → HasNoRace (accesses (run_of t data_bytes).acts) → (e : Ending) → (run_of t data_bytes).ending ≡ e → (r : Report) × IsReport t data_bytes r
by_ending t data_bytes h (going s) e = (NoRace, (subst Ends (sym e) tt, h))
by_ending t data_bytes h (stopped s) e = (NoRace, (subst Ends (sym e) tt, h))
by_ending t data_bytes h (failed n s) e = (Fault n s, (e, h))

pub one_at_least : (t : ProgramTree) (data_bytes : List ℕ) → (r : Report) × IsReport t data_bytes r
one_at_least t data_bytes = go (race_or_none [] (accesses (run_of t data_bytes).acts) tt)
  where
    go : SomeRace (accesses (run_of t data_bytes).acts) ⊎ HasNoRace (accesses (run_of t data_bytes).acts) → (r : Report) × IsReport t data_bytes r
    go (inl s) = (Race s.0 s.1 s.2, s.3)
    go (inr h) = by_ending t data_bytes h (run_of t data_bytes).ending refl

pub none_where_free : (t : ProgramTree) (data_bytes : List ℕ) (r : Report) → IsReport t data_bytes r → (r ≡ NoRace) ↔ IsRaceFree t data_bytes
none_where_free t data_bytes r h = (λ e. subst (IsReport t data_bytes) e h, λ k. one_at_most t data_bytes r NoRace h k)
