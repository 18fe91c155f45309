-- Each command that a further round accepts leaves fewer DOs that aren't PARALLEL DOs, so the rounds end.
use Rattle.std.proofs.Common.{◌≡◌, ℕ, zero, suc, ◌+◌, ◌≤◌, ◌<◌, [], ◌∷◌, length, Bool, true, false, not, refl, sym, subst, ap, ◌∙◌, arith, length-append}
use Rattle.std.specs.List.{range_with_len}
use Rattle.std.proofs.lemmas.List.Filters.{length-filter_both}
use Rattle.std.proofs.lemmas.List.FromFn.{length-range_with_len}
use Rattle.ped_script.specs.declared.items.Command.TheVariants.{Parallel}
use Rattle.ped_rules.specs.ped_flow.specs.ped_tree.specs.Tree.{ProgramTree}
use Rattle.ped_auto.specs.SerialLoops.{is_serial_loop, count_of, serial_loops}
use Rattle.ped_auto.specs.Editing.{Editing, IsEditing}
use Rattle.ped_auto.specs.Strategy.{Stage, Tries, VisitsAgain, Meets, RoundFrom, Round}
use Rattle.ped_auto.proofs.Leading.{by_test}

-- between two stages no more commands were accepted than DOs have become PARALLEL DOs
pub record Falls {S : Type 0} (e : Editing S) (p q : Stage S) : Type 0 where
  pub before : ProgramTree
  pub reads_before : e.Reads p.now before
  pub behind : ProgramTree
  pub reads_behind : e.Reads q.now behind
  pub fewer : length q.accepted + length (serial_loops behind) ≤ length p.accepted + length (serial_loops before)

falls_same : {S : Type 0} (e : Editing S) (p q : Stage S) (t : ProgramTree) → e.Reads p.now t → q ≡ p → Falls e p q
falls_same {S} e p q t reads same =
    subst (λ (x : Stage S). Falls e p x) (sym same) (record { before = t; reads_before = reads; behind = t; reads_behind = reads; fewer = omega arith })

falls_tries : {S : Type 0} (e : Editing S) → IsEditing e → (number : ℕ) (p q : Stage S) (t : ProgramTree) → e.Reads p.now t → (done : Bool) → Tries e (Parallel number) p done q → Falls e p q
falls_tries e laws number p q t reads true h =
    let grown = laws.grows p.now (Parallel number) q.now h.tests t tt h.accepts reads in
    let fewer : length (serial_loops grown.0) < length (serial_loops t) = laws.falls p.now number q.now h.tests t grown.0 h.accepts reads grown.1 in
    let more : length q.accepted ≡ length p.accepted + 1 = ap length h.behind ∙ length-append p.accepted (Parallel number ∷ []) in
    record { before = t; reads_before = reads; behind = grown.0; reads_behind = grown.1; fewer = omega arith }
falls_tries e laws number p q t reads false h = falls_same e p q t reads h.1

falls_on : {S : Type 0} (e : Editing S) → IsEditing e → (p q r : Stage S) → Falls e p q → Falls e q r → Falls e p r
falls_on e laws p q r a b =
    let same : a.behind ≡ b.before = laws.one_program q.now a.behind b.before a.reads_behind b.reads_before in
    let first : length q.accepted + length (serial_loops b.before) ≤ length p.accepted + length (serial_loops a.before) =
    subst (λ t. length q.accepted + length (serial_loops t) ≤ length p.accepted + length (serial_loops a.before)) same a.fewer in
    let second = b.fewer in
    record { before = a.before; reads_before = a.reads_before; behind = b.behind; reads_behind = b.reads_behind; fewer = omega arith }

falls_meets : {S : Type 0} (e : Editing S) → IsEditing e → (number : ℕ) (p q : Stage S) → Meets e (VisitsAgain e) number p q → Falls e p q
falls_meets e laws number p q h =
    by_test (is_serial_loop h.program number) (VisitsAgain e number p q) (q ≡ p) (Falls e p q) h.met
    (λ k. falls_tries e laws number p q h.program h.reads k.0 k.1) (λ k. falls_same e p q h.program h.reads k)

falls_round_from : {S : Type 0} (e : Editing S) → IsEditing e → (n number : ℕ) (p q : Stage S) → RoundFrom e (VisitsAgain e) n number p q → Falls e p q
falls_round_from e laws zero number p q h = falls_same e p q h.0.0 h.0.1 h.1
falls_round_from e laws (suc n) number p q h =
    falls_on e laws p h.0 q (falls_meets e laws number p h.0 h.1) (falls_round_from e laws n (number + 1) h.0 q h.2)

pub falls_round : {S : Type 0} (e : Editing S) → IsEditing e → (p q : Stage S) → Round e (VisitsAgain e) p q → Falls e p q
falls_round e laws p q h = falls_round_from e laws h.0 1 p q h.1

-- the DOs of a program are no more than its statements
pub few_loops : (t : ProgramTree) → length (serial_loops t) ≤ count_of t
few_loops t =
    let numbers = range_with_len 1 (count_of t) in
    let both = length-filter_both (is_serial_loop t) (λ n. not (is_serial_loop t n)) (λ n. refl) numbers in
    let all : length numbers ≡ count_of t = length-range_with_len 1 (count_of t) in
    omega arith

-- the DOs that the first of further rounds begins with are at most 4,000
pub fewer_first : {S : Type 0} (e : Editing S) → IsEditing e → (s : S) (accepted : ℕ) (t : ProgramTree) → e.Reads s t → accepted + length (serial_loops t) ≤ accepted + 4000
fewer_first e laws s accepted t reads =
    let few : length (serial_loops t) ≤ count_of t = few_loops t in
    let small : count_of t ≤ 4000 = laws.small s t reads in
    omega arith

-- a further round keeps the bound on commands and DOs
pub fewer_behind : {S : Type 0} (e : Editing S) → IsEditing e → (m r : Stage S) (bound : ℕ) → Round e (VisitsAgain e) m r
    → ((t : ProgramTree) → e.Reads m.now t → length m.accepted + length (serial_loops t) ≤ bound) → (t : ProgramTree) → e.Reads r.now t → length r.accepted + length (serial_loops t) ≤ bound
fewer_behind e laws m r bound round before t reads =
    let f = falls_round e laws m r round in
    let fewer : length r.accepted + length (serial_loops t) ≤ length m.accepted + length (serial_loops f.before) =
    subst (λ u. length r.accepted + length (serial_loops u) ≤ length m.accepted + length (serial_loops f.before)) (laws.one_program r.now f.behind t f.reads_behind reads) f.fewer in
    let first : length m.accepted + length (serial_loops f.before) ≤ bound = before f.before f.reads_before in
    omega arith

-- .. so no more commands than that were accepted
pub few_accepted : {S : Type 0} (e : Editing S) → IsEditing e → (m r : Stage S) (bound : ℕ) → Round e (VisitsAgain e) m r
    → ((t : ProgramTree) → e.Reads m.now t → length m.accepted + length (serial_loops t) ≤ bound) → length m.accepted ≤ bound
few_accepted e laws m r bound round before =
    let f = falls_round e laws m r round in
    let first : length m.accepted + length (serial_loops f.before) ≤ bound = before f.before f.reads_before in
    omega arith
