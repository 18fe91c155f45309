-- A round over the statements, on the way.
use Rattle.std.proofs.Common.{◌≡◌, ℕ, zero, suc, ◌+◌, ◌≤◌, ◌<◌, Bool, true, false, MatchBool, refl, sym, subst, ap, ◌∙◌, arith}
use Rattle.ped_rules.specs.ped_flow.specs.ped_tree.specs.Tree.{ProgramTree}
use Rattle.ped_auto.specs.SerialLoops.{is_serial_loop, count_of}
use Rattle.ped_auto.specs.Editing.{Editing, IsEditing}
use Rattle.ped_auto.specs.Strategy.{Stage, Meets, IsOver, RoundFrom, Round}
use Rattle.ped_auto.specs.CodeStages.{Leads, IsCut}
use Rattle.ped_auto.proofs.Leading.{VisitLeads, leads_here, leads_on, leads_meets, leads_round_from}
use Rattle.ped_auto.proofs.OneCourse.{LeadsToOne, one_meets, over_meets_none}
use Rattle.ped_auto.proofs.Cutting.{cut_within}
use Rattle.ped_auto.proofs.Named.{on_true, if_true, if_false}

-- the rest of a round, from the statement with this number on
abbrev pub Rest : {S : Type 0} → Editing S → (ℕ → Stage S → Stage S → Type 0) → ℕ → Stage S → Stage S → Type 0
Rest e Visit number p q = (n : ℕ) × RoundFrom e Visit n number p q

-- a round from stage p has come to stage m and to the statement with this number: what the rest of it leads to is what the round leads to
pub record IsOnRound {S : Type 0} (e : Editing S) (Visit : ℕ → Stage S → Stage S → Type 0) (p m : Stage S) (number : ℕ) : Type 0 where
  pub came : Leads e p m
  pub on : (q : Stage S) → Rest e Visit number m q → Round e Visit p q
  pub back : (q : Stage S) → Round e Visit p q → Rest e Visit number m q

pub round_begins : {S : Type 0} (e : Editing S) (Visit : ℕ → Stage S → Stage S → Type 0) (p : Stage S) → IsOnRound e Visit p p 1
round_begins e Visit p = record {
  came = leads_here e p;
  on = λ q h. h;
  back = λ q h. h;
}

-- the rest of a round behind the next statement
rest_behind : {S : Type 0} (e : Editing S) → IsEditing e → (Visit : ℕ → Stage S → Stage S → Type 0) → ((number : ℕ) → LeadsToOne (Visit number))
    → (number : ℕ) (m r q : Stage S) → Meets e Visit number m r → (n : ℕ) → RoundFrom e Visit n number m q → Rest e Visit (number + 1) r q
rest_behind e laws Visit one number m r q met zero h = absurd (over_meets_none e laws Visit number m r h.0 met)
rest_behind {S} e laws Visit one number m r q met (suc n) h =
    let same : h.0 ≡ r = one_meets e laws Visit one number m h.0 r h.1 met in
    (n, subst (λ (x : Stage S). RoundFrom e Visit n (number + 1) x q) same h.2)

-- a round goes on over a statement
pub round_goes_on : {S : Type 0} (e : Editing S) → IsEditing e → (Visit : ℕ → Stage S → Stage S → Type 0) → VisitLeads e Visit → ((number : ℕ) → LeadsToOne (Visit number))
    → (p m r : Stage S) (number : ℕ) → IsOnRound e Visit p m number → Meets e Visit number m r → IsOnRound e Visit p r (number + 1)
round_goes_on e laws Visit lead one p m r number on met = record {
  came = leads_on e p m r on.came (leads_meets e Visit lead number m r met);
  on = λ q h. on.on q (suc h.0, (r, met, h.1));
  back = λ q h. let k = on.back q h in rest_behind e laws Visit one number m r q met k.0 k.1;
}

-- a round is over
pub round_is_over : {S : Type 0} (e : Editing S) (Visit : ℕ → Stage S → Stage S → Type 0) (p m : Stage S) (number : ℕ) → IsOnRound e Visit p m number → IsOver e number m → Round e Visit p m
round_is_over e Visit p m number on over = on.on m (zero, (over, refl))

-- the editor meets a DO and no PARALLEL DO, or another statement
pub meets_loop : {S : Type 0} (e : Editing S) (Visit : ℕ → Stage S → Stage S → Type 0) (number : ℕ) (p q : Stage S) (t : ProgramTree) → e.Reads p.now t → number ≤ count_of t
    → is_serial_loop t number ≡ true → Visit number p q → Meets e Visit number p q
meets_loop e Visit number p q t reads within serial visit = record {
  program = t;
  reads = reads;
  within = within;
  met = if_true (is_serial_loop t number) (Visit number p q) (q ≡ p) serial visit;
}

pub meets_other : {S : Type 0} (e : Editing S) (Visit : ℕ → Stage S → Stage S → Type 0) (number : ℕ) (p : Stage S) (t : ProgramTree) → e.Reads p.now t → number ≤ count_of t
    → is_serial_loop t number ≡ false → Meets e Visit number p p
meets_other e Visit number p t reads within serial = record {
  program = t;
  reads = reads;
  within = within;
  met = if_false (is_serial_loop t number) (Visit number p p) (p ≡ p) serial refl;
}

-- the part that the round does at a DO, where that is cut off
round_part : {S : Type 0} (e : Editing S) → IsEditing e → (Visit : ℕ → Stage S → Stage S → Type 0) → VisitLeads e Visit → (number : ℕ) (m q : Stage S) (t : ProgramTree) → e.Reads m.now t → number ≤ count_of t
    → is_serial_loop t number ≡ true → (n : ℕ) → RoundFrom e Visit n number m q → (r : Stage S) × Visit number m r × Leads e r q
round_part e laws Visit lead number m q t reads within serial zero h =
    let program = laws.one_program m.now t h.0.0 reads h.0.1 in
    let past : count_of t < number = subst (λ u. count_of u < number) (sym program) h.0.2 in
    absurd (let no : number ≤ count_of t = within in omega arith)
round_part {S} e laws Visit lead number m q t reads within serial (suc n) h =
    let met = h.1 in
    let program = laws.one_program m.now met.program t met.reads reads in
    let visit : MatchBool (is_serial_loop t number) (Visit number m h.0) (h.0 ≡ m) = subst (λ u. MatchBool (is_serial_loop u number) (Visit number m h.0) (h.0 ≡ m)) program met.met in
    (h.0, on_true (is_serial_loop t number) (Visit number m h.0) (h.0 ≡ m) serial visit, leads_round_from e Visit lead n (number + 1) h.0 q h.2)

-- a round is cut off at a DO
pub cut_round : {S : Type 0} (e : Editing S) → IsEditing e → (Visit : ℕ → Stage S → Stage S → Type 0) → VisitLeads e Visit → (p m : Stage S) (number : ℕ) → IsOnRound e Visit p m number
    → (t : ProgramTree) → e.Reads m.now t → number ≤ count_of t → is_serial_loop t number ≡ true → (now : S) (tests : ℕ) → IsCut e (Visit number) m now tests → IsCut e (Round e Visit) p now tests
cut_round e laws Visit lead p m number on t reads within serial now tests cut =
    cut_within e (Visit number) (Round e Visit) p m now tests cut on.came
    (λ q h. let k = on.back q h in round_part e laws Visit lead number m q t reads within serial k.0 k.1)

-- the statement with this number is there, and whether it is a DO and no PARALLEL DO
pub record IsMet {S : Type 0} (e : Editing S) (s : S) (number : ℕ) (serial : Bool) : Type 0 where
  pub program : ProgramTree
  pub reads : e.Reads s program
  pub within : number ≤ count_of program
  pub answers : is_serial_loop program number ≡ serial

-- what the editor says of it
pub met_by : {S : Type 0} (e : Editing S) → IsEditing e → (s : S) (number count : ℕ) (answer serial : Bool) → ((t : ProgramTree) × e.Reads s t × (count ≡ count_of t)) → number ≤ count
    → ((t : ProgramTree) × e.Reads s t × (answer ≡ is_serial_loop t number)) → answer ≡ serial → IsMet e s number serial
met_by e laws s number count answer serial counted within asked is =
    let same : counted.0 ≡ asked.0 = laws.one_program s counted.0 asked.0 counted.1 asked.1 in
    record {
      program = counted.0;
      reads = counted.1;
      within = subst (λ n. number ≤ n) counted.2 within;
      answers = ap (λ t. is_serial_loop t number) same ∙ sym asked.2 ∙ is;
    }

-- a round goes on over a DO, and over another statement
pub round_over_loop : {S : Type 0} (e : Editing S) → IsEditing e → (Visit : ℕ → Stage S → Stage S → Type 0) → VisitLeads e Visit → ((number : ℕ) → LeadsToOne (Visit number))
    → (p m r x : Stage S) (number : ℕ) → IsOnRound e Visit p m number → IsMet e m.now number true → Visit number m r → x ≡ r → IsOnRound e Visit p x (number + 1)
round_over_loop {S} e laws Visit lead one p m r x number on met visit same =
    subst (λ (y : Stage S). IsOnRound e Visit p y (number + 1)) (sym same)
    (round_goes_on e laws Visit lead one p m r number on (meets_loop e Visit number m r met.program met.reads met.within met.answers visit))

pub round_over_other : {S : Type 0} (e : Editing S) → IsEditing e → (Visit : ℕ → Stage S → Stage S → Type 0) → VisitLeads e Visit → ((number : ℕ) → LeadsToOne (Visit number))
    → (p m x : Stage S) (number : ℕ) → IsOnRound e Visit p m number → IsMet e m.now number false → x ≡ m → IsOnRound e Visit p x (number + 1)
round_over_other {S} e laws Visit lead one p m x number on met same =
    subst (λ (y : Stage S). IsOnRound e Visit p y (number + 1)) (sym same)
    (round_goes_on e laws Visit lead one p m m number on (meets_other e Visit number m met.program met.reads met.within met.answers))

-- a round is cut off at a DO that the editor has told
pub cut_at_loop : {S : Type 0} (e : Editing S) → IsEditing e → (Visit : ℕ → Stage S → Stage S → Type 0) → VisitLeads e Visit → (p m : Stage S) (number : ℕ) → IsOnRound e Visit p m number
    → IsMet e m.now number true → (now : S) (tests : ℕ) → IsCut e (Visit number) m now tests → IsCut e (Round e Visit) p now tests
cut_at_loop e laws Visit lead p m number on met now tests cut =
    cut_round e laws Visit lead p m number on met.program met.reads met.within met.answers now tests cut

-- the present program has a statement with this number, so the next is at most 4,001
pub next_small : {S : Type 0} (e : Editing S) → IsEditing e → (s : S) (number count : ℕ) → ((t : ProgramTree) × e.Reads s t × (count ≡ count_of t)) → number ≤ count → number + 1 ≤ 4001
next_small e laws s number count counted within =
    let small : count_of counted.0 ≤ 4000 = laws.small s counted.0 counted.1 in
    let same : count ≡ count_of counted.0 = counted.2 in
    omega arith

-- past the last statement of the present program
pub over_by : {S : Type 0} (e : Editing S) (p : Stage S) (number count : ℕ) → ((t : ProgramTree) × e.Reads p.now t × (count ≡ count_of t)) → count < number → IsOver e number p
over_by e p number count counted past = (counted.0, counted.1, subst (λ n. n < number) counted.2 past)
