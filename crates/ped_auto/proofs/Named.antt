-- What is tried on the names that a DO carries.
use Rattle.std.proofs.Common.{◌≡◌, ℕ, List, Bool, true, false, MatchBool, refl, sym, subst}
use Rattle.ped_script.specs.declared.items.Command.TheVariants.{Parallel, Reduce}
use Rattle.ped_rules.specs.ped_flow.specs.ped_tree.specs.Tree.{ProgramTree}
use Rattle.ped_auto.specs.CarriedNames.{AreCarried, are_scalars, are_few_scalars}
use Rattle.ped_auto.specs.Editing.{Editing, IsEditing}
use Rattle.ped_auto.specs.Strategy.{Stage, Tries, TriesEach, TriesPrivate, WithNames}
use Rattle.ped_auto.specs.CodeStages.{Leads, AnyOutcome}
use Rattle.ped_auto.proofs.Leading.{leads_here, leads_tries}
use Rattle.ped_auto.proofs.OneCourse.{one_carried, one_each}

-- what a test that passes does, and one that fails
pub on_true : (b : Bool) (P Q : Type 0) → b ≡ true → MatchBool b P Q → P
on_true true P Q e h = h
on_true false P Q e h = absurd cc

pub on_false : (b : Bool) (P Q : Type 0) → b ≡ false → MatchBool b P Q → Q
on_false true P Q e h = absurd cc
on_false false P Q e h = h

pub if_true : (b : Bool) (P Q : Type 0) → b ≡ true → P → MatchBool b P Q
if_true true P Q e h = h
if_true false P Q e h = absurd cc

pub if_false : (b : Bool) (P Q : Type 0) → b ≡ false → Q → MatchBool b P Q
if_false true P Q e h = absurd cc
if_false false P Q e h = h

-- the names that a DO carries in the present program, and what a test says of them
pub record Named {S : Type 0} (e : Editing S) (s : S) (number : ℕ) (passes : ProgramTree → List (List ℕ) → Bool) (names : List (List ℕ)) (answer : Bool) : Type 0 where
  pub program : ProgramTree
  pub reads : e.Reads s program
  pub carried : AreCarried program number names
  pub answers : passes program names ≡ answer

-- the names and the test are the same for all
same_answer : {S : Type 0} (e : Editing S) → IsEditing e → (number : ℕ) (passes : ProgramTree → List (List ℕ) → Bool) (Tried : List (List ℕ) → Stage S → Bool → Stage S → Type 0)
    → (p q : Stage S) (names : List (List ℕ)) (answer done : Bool) → Named e p.now number passes names answer → WithNames e number passes Tried p done q
    → MatchBool answer (Tried names p done q) ((done ≡ false) × (q ≡ p))
same_answer e laws number passes Tried p q names answer done n h =
    let program = laws.one_program p.now n.program h.program n.reads h.reads in
    let same = one_carried n.program number names h.names n.carried (subst (λ t. AreCarried t number h.names) (sym program) h.carried) in
    let at : MatchBool (passes n.program names) (Tried names p done q) ((done ≡ false) × (q ≡ p)) =
    subst (λ ns. MatchBool (passes n.program ns) (Tried ns p done q) ((done ≡ false) × (q ≡ p))) (sym same)
    (subst (λ t. MatchBool (passes t h.names) (Tried h.names p done q) ((done ≡ false) × (q ≡ p))) (sym program) h.tried) in
    subst (λ b. MatchBool b (Tried names p done q) ((done ≡ false) × (q ≡ p))) n.answers at

-- where the test passes, what is tried on the names is done
pub named_done : {S : Type 0} (e : Editing S) (number : ℕ) (passes : ProgramTree → List (List ℕ) → Bool) (Tried : List (List ℕ) → Stage S → Bool → Stage S → Type 0)
    → (p q : Stage S) (names : List (List ℕ)) (done : Bool) → Named e p.now number passes names true → Tried names p done q → WithNames e number passes Tried p done q
named_done e number passes Tried p q names done n h = record {
  program = n.program;
  reads = n.reads;
  names = names;
  carried = n.carried;
  tried = if_true (passes n.program names) (Tried names p done q) ((done ≡ false) × (q ≡ p)) n.answers h;
}

-- where it fails, nothing is
pub named_failed : {S : Type 0} (e : Editing S) (number : ℕ) (passes : ProgramTree → List (List ℕ) → Bool) (Tried : List (List ℕ) → Stage S → Bool → Stage S → Type 0)
    → (p : Stage S) (names : List (List ℕ)) → Named e p.now number passes names false → WithNames e number passes Tried p false p
named_failed e number passes Tried p names n = record {
  program = n.program;
  reads = n.reads;
  names = names;
  carried = n.carried;
  tried = if_false (passes n.program names) (Tried names p false p) ((false ≡ false) × (p ≡ p)) n.answers (refl, refl);
}

-- the privatisations are the first part of what is tried on scalars
pub private_first : {S : Type 0} (e : Editing S) → IsEditing e → (number : ℕ) (p q : Stage S) (names : List (List ℕ)) → Named e p.now number are_scalars names true
    → AnyOutcome (WithNames e number are_scalars (TriesPrivate e number)) p q → (m : Stage S) × TriesEach e number names p m × Leads e m q
private_first e laws number p q names n h =
    let k = same_answer e laws number are_scalars (TriesPrivate e number) p q names true h.0 n h.1 in
    (k.0, k.1, leads_tries e laws (Parallel number) tt k.0 h.0 q k.2)

-- `parallel` behind them is the second
pub private_second : {S : Type 0} (e : Editing S) → IsEditing e → (number : ℕ) (p r q : Stage S) (names : List (List ℕ)) → Named e p.now number are_scalars names true → TriesEach e number names p r
    → AnyOutcome (WithNames e number are_scalars (TriesPrivate e number)) p q → (m : Stage S) × AnyOutcome (Tries e (Parallel number)) r m × Leads e m q
private_second {S} e laws number p r q names n each h =
    let k = same_answer e laws number are_scalars (TriesPrivate e number) p q names true h.0 n h.1 in
    let one : k.0 ≡ r = one_each e laws number names p k.0 r k.1 each in
    (q, (h.0, subst (λ (x : Stage S). Tries e (Parallel number) x h.0 q) one k.2), leads_here e q)

-- the reduction is all that is tried on few scalars
pub reduce_whole : {S : Type 0} (e : Editing S) → IsEditing e → (number : ℕ) (p q : Stage S) (names : List (List ℕ)) → Named e p.now number are_few_scalars names true
    → AnyOutcome (WithNames e number are_few_scalars (λ names. Tries e (Reduce number names))) p q → (m : Stage S) × AnyOutcome (Tries e (Reduce number names)) p m × Leads e m q
reduce_whole e laws number p q names n h =
    let k = same_answer e laws number are_few_scalars (λ names. Tries e (Reduce number names)) p q names true h.0 n h.1 in
    (q, (h.0, k), leads_here e q)

-- where no privatisation was accepted, `parallel` needs no second try
pub private_useless : {S : Type 0} (e : Editing S) (number : ℕ) (p r : Stage S) (names : List (List ℕ)) → Named e p.now number are_scalars names true → TriesEach e number names p r → r ≡ p
    → ((why : _) × e.Refuses p.now (Parallel number) why) → WithNames e number are_scalars (TriesPrivate e number) p false r
private_useless {S} e number p r names n each same refused =
    let at : TriesEach e number names p p = subst (λ (x : Stage S). TriesEach e number names p x) same each in
    let tried : TriesPrivate e number names p false p = (p, at, (refused, refl)) in
    subst (λ (x : Stage S). WithNames e number are_scalars (TriesPrivate e number) p false x) (sym same) (named_done e number are_scalars (TriesPrivate e number) p p names false n tried)
