-- From a stage the strategy leads to one stage alone.
use Rattle.std.proofs.Common.{◌≡◌, inl, inr, ℕ, zero, suc, ◌+◌, ◌≤◌, ◌<◌, List, [], ◌∷◌, map, Bool, true, false, MatchBool, refl, sym, subst, ap, ◌∙◌, arith}
use Rattle.std.specs.List.{AllByRecursion}
use Rattle.ped_script.specs.declared.items.Command.{Command}
use Rattle.ped_script.specs.declared.items.Command.TheVariants.{Parallel, Privatise, Reduce, Distribute}
use Rattle.ped_rules.specs.ped_flow.specs.ped_tree.specs.Tree.{ProgramTree}
use Rattle.ped_rules.specs.ped_graph.proofs.OnePane.{one_edges}
use Rattle.ped_rules.specs.ped_steps.specs.Causes.{Cause}
use Rattle.ped_auto.specs.SerialLoops.{is_serial_loop, count_of, serial_loops}
use Rattle.ped_auto.specs.CarriedNames.{carried_names, AreCarried, are_scalars, are_few_scalars}
use Rattle.ped_auto.specs.Editing.{Editing, IsEditing}
use Rattle.ped_auto.specs.Replay.{Replays}
use Rattle.ped_auto.specs.Strategy.{Stage, Takes, Tries, TriesEach, WithNames, TriesPrivate, OrElse, Attempts, Divides, Visits, VisitsAgain, Meets, IsOver, RoundFrom, Round, AcceptsNothing, FurtherRounds, Report, starting, AreLeft, IsAuto}
use Rattle.ped_auto.specs.CodeStages.{stage, Leads}
use Rattle.ped_auto.proofs.Leading.{leads_on, leads_round, leads_visits, leads_further}

-- stages with the same parts
pub same_stage : {S : Type 0} (q r : Stage S) → q.now ≡ r.now → q.accepted ≡ r.accepted → q.tests ≡ r.tests → q ≡ r
same_stage q r a b c =
    ap (λ x. stage x q.accepted q.tests) a ∙ ap (λ x. stage r.now x q.tests) b ∙ ap (λ x. stage r.now r.accepted x) c

-- what is done has one outcome
abbrev pub HasOne : {S : Type 0} → (Stage S → Bool → Stage S → Type 0) → Type 0
HasOne {S} Does = (p q r : Stage S) (a b : Bool) → Does p a q → Does p b r → (a ≡ b) × (q ≡ r)

-- what is done leads to one stage
abbrev pub LeadsToOne : {S : Type 0} → (Stage S → Stage S → Type 0) → Type 0
LeadsToOne {S} Does = (p q r : Stage S) → Does p q → Does p r → q ≡ r

pub one_takes : {S : Type 0} (e : Editing S) → IsEditing e → (c : Command) → LeadsToOne (Takes e c)
one_takes e laws c p q r h k =
    let one = laws.one_next p.now c q.now r.now h.tests k.tests h.accepts k.accepts in
    same_stage q r one.0 (h.behind ∙ sym k.behind) (h.counted ∙ ap (λ n. p.tests + n) one.1 ∙ sym k.counted)

pub one_tries : {S : Type 0} (e : Editing S) → IsEditing e → (c : Command) → HasOne (Tries e c)
one_tries e laws c p q r true true h k = (refl, one_takes e laws c p q r h k)
one_tries e laws c p q r true false h k = absurd (laws.not_both p.now c q.now h.tests k.0.0 h.accepts k.0.1)
one_tries e laws c p q r false true h k = absurd (laws.not_both p.now c r.now k.tests h.0.0 k.accepts h.0.1)
one_tries e laws c p q r false false h k = (refl, h.1 ∙ sym k.1)

pub one_each : {S : Type 0} (e : Editing S) → IsEditing e → (number : ℕ) (names : List (List ℕ)) → LeadsToOne (TriesEach e number names)
one_each e laws number [] p q r h k = h ∙ sym k
one_each {S} e laws number (name ∷ names) p q r h k =
    let one = one_tries e laws (Privatise number name) p h.1 k.1 h.0 k.0 h.2 k.2 in
    one_each e laws number names h.1 q r h.3 (subst (λ (x : Stage S). TriesEach e number names x r) (sym one.1) k.3)

pub one_carried : (t : ProgramTree) (number : ℕ) (a b : List (List ℕ)) → AreCarried t number a → AreCarried t number b → a ≡ b
one_carried t number a b h k = h.2 ∙ ap (carried_names t number) (one_edges t h.0 k.0 h.1 k.1) ∙ sym k.2

-- what is done by one test in two ways
pub both_by_test : (b : Bool) (P Q M N R : Type 0) → MatchBool b P Q → MatchBool b M N → (P → M → R) → (Q → N → R) → R
both_by_test true P Q M N R h k f g = f h k
both_by_test false P Q M N R h k f g = g h k

pub one_named : {S : Type 0} (e : Editing S) → IsEditing e → (number : ℕ) (passes : ProgramTree → List (List ℕ) → Bool) (Tried : List (List ℕ) → Stage S → Bool → Stage S → Type 0)
    → ((names : List (List ℕ)) → HasOne (Tried names)) → HasOne (WithNames e number passes Tried)
one_named e laws number passes Tried f p q r a b h k =
    let program = laws.one_program p.now h.program k.program h.reads k.reads in
    let names = one_carried h.program number h.names k.names h.carried (subst (λ t. AreCarried t number k.names) (sym program) k.carried) in
    let tried : MatchBool (passes h.program h.names) (Tried h.names p b r) ((b ≡ false) × (r ≡ p)) =
    subst (λ ns. MatchBool (passes h.program ns) (Tried ns p b r) ((b ≡ false) × (r ≡ p))) (sym names)
    (subst (λ t. MatchBool (passes t k.names) (Tried k.names p b r) ((b ≡ false) × (r ≡ p))) (sym program) k.tried) in
    both_by_test (passes h.program h.names) (Tried h.names p a q) ((a ≡ false) × (q ≡ p)) (Tried h.names p b r) ((b ≡ false) × (r ≡ p)) ((a ≡ b) × (q ≡ r))
    h.tried tried (λ x y. f h.names p q r a b x y) (λ x y. (x.0 ∙ sym y.0, x.1 ∙ sym y.1))

pub one_private : {S : Type 0} (e : Editing S) → IsEditing e → (number : ℕ) (names : List (List ℕ)) → HasOne (TriesPrivate e number names)
one_private {S} e laws number names p q r a b h k =
    let one = one_each e laws number names p h.0 k.0 h.1 k.1 in
    one_tries e laws (Parallel number) h.0 q r a b h.2 (subst (λ (x : Stage S). Tries e (Parallel number) x b r) (sym one) k.2)

pub one_or : {S : Type 0} (First Second : Stage S → Bool → Stage S → Type 0) → HasOne First → HasOne Second → HasOne (OrElse First Second)
one_or First Second f g p q r a b (inl h) (inl k) = (h.1 ∙ sym k.1, (f p q r true true h.0 k.0).1)
one_or First Second f g p q r a b (inl h) (inr k) = let no : true ≡ false = (f p q k.0 true false h.0 k.1).0 in absurd cc
one_or First Second f g p q r a b (inr h) (inl k) = let no : false ≡ true = (f p h.0 r false true h.1 k.0).0 in absurd cc
one_or {S} First Second f g p q r a b (inr h) (inr k) =
    let one = (f p h.0 k.0 false false h.1 k.1).1 in
    g h.0 q r a b h.2 (subst (λ (x : Stage S). Second x b r) (sym one) k.2)

pub one_attempt : {S : Type 0} (e : Editing S) → IsEditing e → (number : ℕ) → HasOne (Attempts e number)
one_attempt e laws number =
    one_or _ _ (one_tries e laws (Parallel number))
    (one_or _ _ (one_named e laws number are_scalars _ (one_private e laws number))
    (one_named e laws number are_few_scalars _ (λ names. one_tries e laws (Reduce number names))))

pub one_divides : {S : Type 0} (e : Editing S) → IsEditing e → (number : ℕ) → LeadsToOne (Divides e number)
one_divides e laws number p q r (inl h) (inl k) = (one_tries e laws (Distribute number) p q r false false h k).1
one_divides e laws number p q r (inl h) (inr k) = let no : false ≡ true = (one_tries e laws (Distribute number) p q k.0 false true h k.2).0 in absurd cc
one_divides e laws number p q r (inr h) (inl k) = let no : true ≡ false = (one_tries e laws (Distribute number) p h.0 r true false h.2 k).0 in absurd cc
one_divides {S} e laws number p q r (inr h) (inr k) =
    let one = (one_tries e laws (Distribute number) p h.0 k.0 true true h.2 k.2).1 in
    (one_attempt e laws number h.0 q r h.1 k.1 h.3 (subst (λ (x : Stage S). Attempts e number x k.1 r) (sym one) k.3)).1

pub one_visit : {S : Type 0} (e : Editing S) → IsEditing e → (number : ℕ) → LeadsToOne (Visits e number)
one_visit e laws number p q r (inl h) (inl k) = (one_attempt e laws number p q r true true h k).1
one_visit e laws number p q r (inl h) (inr k) = let no : true ≡ false = (one_attempt e laws number p q k.0 true false h k.1).0 in absurd cc
one_visit e laws number p q r (inr h) (inl k) = let no : false ≡ true = (one_attempt e laws number p h.0 r false true h.1 k).0 in absurd cc
one_visit {S} e laws number p q r (inr h) (inr k) =
    let one = (one_attempt e laws number p h.0 k.0 false false h.1 k.1).1 in
    one_divides e laws number h.0 q r h.2 (subst (λ (x : Stage S). Divides e number x r) (sym one) k.2)

pub one_again : {S : Type 0} (e : Editing S) → IsEditing e → (number : ℕ) → LeadsToOne (VisitsAgain e number)
one_again e laws number p q r h k = (one_tries e laws (Parallel number) p q r h.0 k.0 h.1 k.1).1

pub one_meets : {S : Type 0} (e : Editing S) → IsEditing e → (Visit : ℕ → Stage S → Stage S → Type 0) → ((number : ℕ) → LeadsToOne (Visit number)) → (number : ℕ) → LeadsToOne (Meets e Visit number)
one_meets e laws Visit f number p q r h k =
    let program = laws.one_program p.now h.program k.program h.reads k.reads in
    let met : MatchBool (is_serial_loop h.program number) (Visit number p r) (r ≡ p) = subst (λ t. MatchBool (is_serial_loop t number) (Visit number p r) (r ≡ p)) (sym program) k.met in
    both_by_test (is_serial_loop h.program number) (Visit number p q) (q ≡ p) (Visit number p r) (r ≡ p) (q ≡ r) h.met met (λ x y. f number p q r x y) (λ x y. x ∙ sym y)

-- a round that is over meets no further statement
pub over_meets_none : {S : Type 0} (e : Editing S) → IsEditing e → (Visit : ℕ → Stage S → Stage S → Type 0) (number : ℕ) (p q : Stage S) → IsOver e number p → Meets e Visit number p q → ⊥
over_meets_none e laws Visit number p q h k =
    let program = laws.one_program p.now h.0 k.program h.1 k.reads in
    let past : count_of k.program < number = subst (λ t. count_of t < number) program h.2 in
    let within : number ≤ count_of k.program = k.within in
    omega arith

pub one_round_from : {S : Type 0} (e : Editing S) → IsEditing e → (Visit : ℕ → Stage S → Stage S → Type 0) → ((number : ℕ) → LeadsToOne (Visit number))
    → (m n number : ℕ) (p q r : Stage S) → RoundFrom e Visit m number p q → RoundFrom e Visit n number p r → q ≡ r
one_round_from e laws Visit f zero zero number p q r h k = h.1 ∙ sym k.1
one_round_from e laws Visit f zero (suc n) number p q r h k = absurd (over_meets_none e laws Visit number p k.0 h.0 k.1)
one_round_from e laws Visit f (suc m) zero number p q r h k = absurd (over_meets_none e laws Visit number p h.0 k.0 h.1)
one_round_from {S} e laws Visit f (suc m) (suc n) number p q r h k =
    let one = one_meets e laws Visit f number p h.0 k.0 h.1 k.1 in
    one_round_from e laws Visit f m n (number + 1) h.0 q r h.2 (subst (λ (x : Stage S). RoundFrom e Visit n (number + 1) x r) (sym one) k.2)

pub one_round : {S : Type 0} (e : Editing S) → IsEditing e → (Visit : ℕ → Stage S → Stage S → Type 0) → ((number : ℕ) → LeadsToOne (Visit number)) → LeadsToOne (Round e Visit)
one_round e laws Visit f p q r h k = one_round_from e laws Visit f h.0 k.0 1 p q r h.1 k.1

pub one_further : {S : Type 0} (e : Editing S) → IsEditing e → (m n : ℕ) (p q r : Stage S) → FurtherRounds e m p q → FurtherRounds e n p r → q ≡ r
one_further e laws zero zero p q r h k = one_round e laws (VisitsAgain e) (one_again e laws) p q r h.0 k.0
one_further {S} e laws zero (suc n) p q r h k =
    let one = one_round e laws (VisitsAgain e) (one_again e laws) p q k.0 h.0 k.1 in
    absurd (k.2 (subst (λ (x : Stage S). AcceptsNothing p x) one h.1))
one_further {S} e laws (suc m) zero p q r h k =
    let one = one_round e laws (VisitsAgain e) (one_again e laws) p r h.0 k.0 h.1 in
    absurd (h.2 (subst (λ (x : Stage S). AcceptsNothing p x) one k.1))
one_further {S} e laws (suc m) (suc n) p q r h k =
    let one = one_round e laws (VisitsAgain e) (one_again e laws) p h.0 k.0 h.1 k.1 in
    one_further e laws m n h.0 q r h.3 (subst (λ (x : Stage S). FurtherRounds e n x r) (sym one) k.3)

-- the DOs that are left are told once each, with one cause
same_left : {S : Type 0} (e : Editing S) → IsEditing e → (s : S) (a b : List (ℕ × Cause)) → map (λ l. l.0) a ≡ map (λ l. l.0) b
    → AllByRecursion (λ l. e.Refuses s (Parallel l.0) l.1) a → AllByRecursion (λ l. e.Refuses s (Parallel l.0) l.1) b → a ≡ b
same_left e laws s [] [] m h k = refl
same_left e laws s [] (y ∷ ys) m h k = absurd cc
same_left e laws s (x ∷ xs) [] m h k = absurd cc
same_left e laws s (x ∷ xs) (y ∷ ys) m h k =
    let number : x.0 ≡ y.0 = cc in
    let rest : map (λ l. l.0) xs ≡ map (λ l. l.0) ys = cc in
    let cause : x.1 ≡ y.1 = laws.one_cause s (Parallel y.0) x.1 y.1 (subst (λ n. e.Refuses s (Parallel n) x.1) number h.0) k.0 in
    ap (λ n. (n, x.1) ∷ xs) number ∙ ap (λ w. (y.0, w) ∷ xs) cause ∙ ap (λ zs. y ∷ zs) (same_left e laws s xs ys rest h.1 k.1)

pub one_left : {S : Type 0} (e : Editing S) → IsEditing e → (s : S) (a b : List (ℕ × Cause)) → AreLeft e s a → AreLeft e s b → a ≡ b
one_left e laws s a b h k =
    let program = laws.one_program s h.program k.program h.reads k.reads in
    same_left e laws s a b (h.loops ∙ ap serial_loops program ∙ sym k.loops) h.causes k.causes

-- `auto` has one report and leads to one state, with one number of tests
pub one_auto : {S : Type 0} (e : Editing S) → IsEditing e → (start end last : S) (a b : Report) (m n : ℕ) → IsAuto e start a end m → IsAuto e start b last n → (a ≡ b) × (end ≡ last) × (m ≡ n)
one_auto {S} e laws start end last a b m n h k =
    let between = one_round e laws (Visits e) (one_visit e laws) (starting start) h.between k.between h.first k.first in
    let stages : stage end a.accepted m ≡ stage last b.accepted n =
    one_further e laws h.rounds k.rounds h.between (stage end a.accepted m) (stage last b.accepted n) h.further
    (subst (λ (x : Stage S). FurtherRounds e k.rounds x (stage last b.accepted n)) (sym between) k.further) in
    let states : end ≡ last = ap (λ (x : Stage S). x.now) stages in
    let accepted : a.accepted ≡ b.accepted = ap (λ (x : Stage S). x.accepted) stages in
    let left : a.left ≡ b.left = one_left e laws last a.left b.left (subst (λ (x : S). AreLeft e x a.left) states h.left) k.left in
    let first : a ≡ record { accepted = b.accepted; left = a.left } = ap (λ xs. let r : Report = record { accepted = xs; left = a.left } in r) accepted in
    let second : record { accepted = b.accepted; left = a.left } ≡ b = ap (λ xs. let r : Report = record { accepted = b.accepted; left = xs } in r) left in
    (first ∙ second, states, ap (λ (x : Stage S). x.tests) stages)

-- what `auto` does leads from the first stage to the last
pub leads_auto : {S : Type 0} (e : Editing S) → IsEditing e → (start last : S) (report : Report) (tests : ℕ) → IsAuto e start report last tests → Leads e (starting start) (stage last report.accepted tests)
leads_auto e laws start last report tests h =
    leads_on e (starting start) h.between (stage last report.accepted tests)
    (leads_round e (Visits e) (leads_visits e laws) (starting start) h.between h.first)
    (leads_further e laws h.rounds h.between (stage last report.accepted tests) h.further)

-- the accepted commands replayed lead to the state behind `auto`
pub auto_replays : {S : Type 0} (e : Editing S) → IsEditing e → (start last : S) (report : Report) (tests : ℕ) → IsAuto e start report last tests → Replays e start report.accepted last tests
auto_replays e laws start last report tests h =
    let way = leads_auto e laws start last report tests h in
    let commands : way.commands ≡ report.accepted = sym way.behind in
    let counted : tests ≡ 0 + way.tests = way.counted in
    let all : way.tests ≡ tests = omega arith in
    subst (λ n. Replays e start report.accepted last n) all (subst (λ cs. Replays e start cs last way.tests) commands way.replayed)
