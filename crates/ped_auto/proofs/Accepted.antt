-- What holds of each command that `auto` has accepted.
use Rattle.std.proofs.Common.{◌≡◌, inl, inr, ℕ, zero, suc, ◌+◌, ◌≤◌, leb, List, [], ◌∷◌, ◌++◌, length, Bool, true, false, ◌&&◌, MatchBool, refl, sym, subst, arith}
use Rattle.std.specs.List.{list_all, AllByRecursion}
use Rattle.ped_base.specs.Lists.{has_some}
use Rattle.ped_rules.specs.ped_flow.specs.ped_tree.specs.Tree.{ProgramTree}
use Rattle.ped_script.specs.declared.items.Command.{Command}
use Rattle.ped_script.specs.declared.items.Command.TheVariants.{Parallel, Privatise, Reduce, Distribute}
use Rattle.ped_script.specs.CommandTexts.{IsShortNumber, IsShortName, IsWritable}
use Rattle.ped_auto.specs.SerialLoops.{is_serial_loop, count_of}
use Rattle.ped_auto.specs.CarriedNames.{is_scalar_name, are_scalars, are_few_scalars}
use Rattle.ped_auto.specs.Editing.{Editing, IsOfStrategy, IsEditing}
use Rattle.ped_auto.specs.Replay.{HasShortNames}
use Rattle.ped_auto.specs.Strategy.{Stage, Tries, TriesEach, TriesPrivate, Privatises, Reduces, OrElse, Attempts, Divides, Visits, VisitsAgain, Meets, RoundFrom, Round, FurtherRounds, Report, starting, IsAuto}
use Rattle.ped_auto.specs.CodeStages.{stage}

-- what holds of each command that the strategy tries at the statement with this number
pub record IsGoodAt {S : Type 0} (e : Editing S) (Good : Command → Type 0) (number : ℕ) : Type 0 where
  pub parallel : Good (Parallel number)
  pub distribute : Good (Distribute number)
  pub alone : (s : S) (t : ProgramTree) (names : List (List ℕ)) → e.Reads s t → are_scalars t names ≡ true → AllByRecursion (λ x. Good (Privatise number x)) names
  pub sums : (s : S) (t : ProgramTree) (names : List (List ℕ)) → e.Reads s t → are_few_scalars t names ≡ true → Good (Reduce number names)

-- .. at each statement that a program can have
abbrev pub AreGood : {S : Type 0} → Editing S → (Command → Type 0) → Type 0
AreGood e Good = (number : ℕ) → 1 ≤ number → number ≤ 4000 → IsGoodAt e Good number

-- where it holds of all that was accepted before, it holds of all that is accepted behind
abbrev Kept : {S : Type 0} → (Command → Type 0) → Stage S → Stage S → Type 0
Kept Good p q = AllByRecursion Good p.accepted → AllByRecursion Good q.accepted

all_more : (Good : Command → Type 0) (cs : List Command) (c : Command) → AllByRecursion Good cs → Good c → AllByRecursion Good (cs ++ c ∷ [])
all_more Good [] c h k = (k, tt)
all_more Good (x ∷ xs) c h k = (h.0, all_more Good xs c h.1 k)

kept_same : {S : Type 0} (Good : Command → Type 0) (p q : Stage S) → q ≡ p → Kept Good p q
kept_same {S} Good p q same all = subst (λ (x : Stage S). AllByRecursion Good x.accepted) (sym same) all

kept_tries : {S : Type 0} (e : Editing S) (Good : Command → Type 0) (c : Command) → Good c → (p : Stage S) (taken : Bool) (q : Stage S) → Tries e c p taken q → Kept Good p q
kept_tries e Good c good p true q h all = subst (λ cs. AllByRecursion Good cs) (sym h.behind) (all_more Good p.accepted c all good)
kept_tries e Good c good p false q h all = kept_same Good p q h.1 all

kept_each : {S : Type 0} (e : Editing S) (Good : Command → Type 0) (number : ℕ) (names : List (List ℕ)) → AllByRecursion (λ x. Good (Privatise number x)) names → (p q : Stage S) → TriesEach e number names p q → Kept Good p q
kept_each e Good number [] good p q h all = kept_same Good p q h all
kept_each e Good number (name ∷ names) good p q h all =
    kept_each e Good number names good.1 h.1 q h.3 (kept_tries e Good (Privatise number name) good.0 p h.0 h.1 h.2 all)

-- what is done by a test, with its answer
by_answer : (b : Bool) (P Q R : Type 0) → MatchBool b P Q → (b ≡ true → P → R) → (Q → R) → R
by_answer true P Q R h f g = f refl h
by_answer false P Q R h f g = g h

kept_privatises : {S : Type 0} (e : Editing S) (Good : Command → Type 0) (number : ℕ) → IsGoodAt e Good number → (p : Stage S) (done : Bool) (q : Stage S) → Privatises e number p done q → Kept Good p q
kept_privatises e Good number good p done q h all =
    by_answer (are_scalars h.program h.names) (TriesPrivate e number h.names p done q) ((done ≡ false) × (q ≡ p)) (AllByRecursion Good q.accepted) h.tried
    (λ scalars k. kept_tries e Good (Parallel number) good.parallel k.0 done q k.2 (kept_each e Good number h.names (good.alone p.now h.program h.names h.reads scalars) p k.0 k.1 all))
    (λ k. kept_same Good p q k.1 all)

kept_reduces : {S : Type 0} (e : Editing S) (Good : Command → Type 0) (number : ℕ) → IsGoodAt e Good number → (p : Stage S) (done : Bool) (q : Stage S) → Reduces e number p done q → Kept Good p q
kept_reduces e Good number good p done q h all =
    by_answer (are_few_scalars h.program h.names) (Tries e (Reduce number h.names) p done q) ((done ≡ false) × (q ≡ p)) (AllByRecursion Good q.accepted) h.tried
    (λ few k. kept_tries e Good (Reduce number h.names) (good.sums p.now h.program h.names h.reads few) p done q k all)
    (λ k. kept_same Good p q k.1 all)

-- what is done, with its outcome, keeps it
abbrev KeptBy : {S : Type 0} → (Command → Type 0) → (Stage S → Bool → Stage S → Type 0) → Type 0
KeptBy {S} Good Does = (p : Stage S) (done : Bool) (q : Stage S) → Does p done q → Kept Good p q

kept_or : {S : Type 0} (Good : Command → Type 0) (First Second : Stage S → Bool → Stage S → Type 0) → KeptBy Good First → KeptBy Good Second → KeptBy Good (OrElse First Second)
kept_or Good First Second f g p done q (inl h) all = f p true q h.0 all
kept_or Good First Second f g p done q (inr h) all = g h.0 done q h.2 (f p false h.0 h.1 all)

kept_attempts : {S : Type 0} (e : Editing S) (Good : Command → Type 0) (number : ℕ) → IsGoodAt e Good number → KeptBy Good (Attempts e number)
kept_attempts e Good number good =
    kept_or Good (Tries e (Parallel number)) (OrElse (Privatises e number) (Reduces e number)) (λ p done q h. kept_tries e Good (Parallel number) good.parallel p done q h)
    (kept_or Good (Privatises e number) (Reduces e number) (kept_privatises e Good number good) (kept_reduces e Good number good))

kept_divides : {S : Type 0} (e : Editing S) (Good : Command → Type 0) (number : ℕ) → IsGoodAt e Good number → (p q : Stage S) → Divides e number p q → Kept Good p q
kept_divides e Good number good p q (inl h) all = kept_tries e Good (Distribute number) good.distribute p false q h all
kept_divides e Good number good p q (inr h) all =
    kept_attempts e Good number good h.0 h.1 q h.3 (kept_tries e Good (Distribute number) good.distribute p true h.0 h.2 all)

-- what is done at a DO keeps it
abbrev VisitKeeps : {S : Type 0} → (Command → Type 0) → (ℕ → Stage S → Stage S → Type 0) → Type 0
VisitKeeps {S} Good Visit = (number : ℕ) → 1 ≤ number → number ≤ 4000 → (p q : Stage S) → Visit number p q → Kept Good p q

kept_visits : {S : Type 0} (e : Editing S) (Good : Command → Type 0) → AreGood e Good → VisitKeeps Good (Visits e)
kept_visits e Good good number first small p q (inl h) all = kept_attempts e Good number (good number first small) p true q h all
kept_visits e Good good number first small p q (inr h) all =
    kept_divides e Good number (good number first small) h.0 q h.2 (kept_attempts e Good number (good number first small) p false h.0 h.1 all)

kept_again : {S : Type 0} (e : Editing S) (Good : Command → Type 0) → AreGood e Good → VisitKeeps Good (VisitsAgain e)
kept_again e Good good number first small p q h all = kept_tries e Good (Parallel number) (good number first small).parallel p h.0 q h.1 all

kept_meets : {S : Type 0} (e : Editing S) → IsEditing e → (Good : Command → Type 0) (Visit : ℕ → Stage S → Stage S → Type 0) → VisitKeeps Good Visit
    → (number : ℕ) → 1 ≤ number → (p q : Stage S) → Meets e Visit number p q → Kept Good p q
kept_meets e laws Good Visit keeps number first p q h all =
    let within : number ≤ count_of h.program = h.within in
    let few : count_of h.program ≤ 4000 = laws.small p.now h.program h.reads in
    let small : number ≤ 4000 = omega arith in
    by_answer (is_serial_loop h.program number) (Visit number p q) (q ≡ p) (AllByRecursion Good q.accepted) h.met
    (λ serial k. keeps number first small p q k all) (λ k. kept_same Good p q k all)

kept_round_from : {S : Type 0} (e : Editing S) → IsEditing e → (Good : Command → Type 0) (Visit : ℕ → Stage S → Stage S → Type 0) → VisitKeeps Good Visit
    → (n number : ℕ) → 1 ≤ number → (p q : Stage S) → RoundFrom e Visit n number p q → Kept Good p q
kept_round_from e laws Good Visit keeps zero number first p q h all = kept_same Good p q h.1 all
kept_round_from e laws Good Visit keeps (suc n) number first p q h all =
    kept_round_from e laws Good Visit keeps n (number + 1) (omega arith) h.0 q h.2 (kept_meets e laws Good Visit keeps number first p h.0 h.1 all)

kept_round : {S : Type 0} (e : Editing S) → IsEditing e → (Good : Command → Type 0) (Visit : ℕ → Stage S → Stage S → Type 0) → VisitKeeps Good Visit → (p q : Stage S) → Round e Visit p q → Kept Good p q
kept_round e laws Good Visit keeps p q h all = kept_round_from e laws Good Visit keeps h.0 1 (omega arith) p q h.1 all

kept_further : {S : Type 0} (e : Editing S) → IsEditing e → (Good : Command → Type 0) → AreGood e Good → (n : ℕ) (p q : Stage S) → FurtherRounds e n p q → Kept Good p q
kept_further e laws Good good zero p q h all = kept_round e laws Good (VisitsAgain e) (kept_again e Good good) p q h.0 all
kept_further e laws Good good (suc n) p q h all =
    kept_further e laws Good good n h.0 q h.3 (kept_round e laws Good (VisitsAgain e) (kept_again e Good good) p h.0 h.1 all)

-- so it holds of all that is accepted
pub accepted_are_good : {S : Type 0} (e : Editing S) → IsEditing e → (Good : Command → Type 0) → AreGood e Good → (start last : S) (report : Report) (tests : ℕ) → IsAuto e start report last tests
    → AllByRecursion Good report.accepted
accepted_are_good e laws Good good start last report tests h =
    kept_further e laws Good good h.rounds h.between (stage last report.accepted tests) h.further
    (kept_round e laws Good (Visits e) (kept_visits e Good good) (starting start) h.between h.first tt)

-- each is one of the strategy
private_of_strategy : (number : ℕ) (names : List (List ℕ)) → AllByRecursion (λ x. IsOfStrategy (Privatise number x)) names
private_of_strategy number [] = tt
private_of_strategy number (x ∷ xs) = (tt, private_of_strategy number xs)

of_strategy : {S : Type 0} (e : Editing S) → AreGood e IsOfStrategy
of_strategy e number first small = record {
  parallel = tt;
  distribute = tt;
  alone = λ s t names reads scalars. private_of_strategy number names;
  sums = λ s t names reads few. tt;
}

pub accepted_of_strategy : {S : Type 0} (e : Editing S) → IsEditing e → (start last : S) (report : Report) (tests : ℕ) → IsAuto e start report last tests → AllByRecursion IsOfStrategy report.accepted
accepted_of_strategy e laws start last report tests h = accepted_are_good e laws IsOfStrategy (of_strategy e) start last report tests h

-- .. and can be written
both : (a b : Bool) → (a && b) ≡ true → (a ≡ true) × (b ≡ true)
both true b h = (refl, h)
both false b h = absurd cc

short_names : {S : Type 0} (e : Editing S) → HasShortNames e → (s : S) (t : ProgramTree) → e.Reads s t → (names : List (List ℕ)) → list_all (is_scalar_name t) names ≡ true → AllByRecursion IsShortName names
short_names e short s t reads [] h = tt
short_names e short s t reads (x ∷ xs) h =
    let k = both (is_scalar_name t x) (list_all (is_scalar_name t) xs) h in (short s t x reads k.0, short_names e short s t reads xs k.1)

private_written : (number : ℕ) → IsShortNumber number → (names : List (List ℕ)) → AllByRecursion IsShortName names → AllByRecursion (λ x. IsWritable (Privatise number x)) names
private_written number short [] h = tt
private_written number short (x ∷ xs) h = ((short, h.0), private_written number short xs h.1)

some_names : (names : List (List ℕ)) → has_some names ≡ true → 1 ≤ length names
some_names [] h = absurd cc
some_names (x ∷ xs) h = omega arith

few_names : (names : List (List ℕ)) → leb (length names) 8 ≡ true → length names ≤ 8
few_names names h = grind arith

written : {S : Type 0} (e : Editing S) → HasShortNames e → AreGood e IsWritable
written e names number first small =
    let short : IsShortNumber number = omega (arith, small) in
    record {
      parallel = short;
      distribute = short;
      alone = λ s t found reads scalars.
          private_written number short found (short_names e names s t reads found (both (has_some found) (list_all (is_scalar_name t) found) scalars).1);
      sums = λ s t found reads few.
          (let k = both (are_scalars t found) (leb (length found) 8) few in
          let m = both (has_some found) (list_all (is_scalar_name t) found) k.0 in
          (short, short_names e names s t reads found m.1, some_names found m.0, few_names found k.1));
    }

pub accepted_are_written : {S : Type 0} (e : Editing S) → IsEditing e → HasShortNames e → (start last : S) (report : Report) (tests : ℕ) → IsAuto e start report last tests → AllByRecursion IsWritable report.accepted
accepted_are_written e laws names start last report tests h = accepted_are_good e laws IsWritable (written e names) start last report tests h
