-- Where the counter of dependence tests stands after a call, by how the call ended.
use Rattle.std.proofs.Common.{◌≡◌, ◌≢◌, ◌⊎◌, inl, inr, ℕ, ◌+◌, ◌≤◌, Bool, true, false, List, refl, sym, ap, ◌∙◌, subst, arith}
use Rattle.ped_tree.specs.Tree.{ProgramTree}
use Rattle.ped_session.specs.ped_refs.specs.References.{references, pair_count}
use Rattle.ped_session.specs.ped_valid.specs.Validity.{ReadsValid, RefusesText}
use Rattle.ped_tree.specs.Grammar.Refusal.{Finding}
use Rattle.ped_call_runs.specs.ped_calls.specs.ped_units.specs.Verdicts.{IsExpansion}
use Rattle.ped_script.specs.Items.{commands_of}
use Rattle.ped_session.specs.States.{State, opened}
use Rattle.ped_session.specs.Scripts.{Said, AnswersItems}
use Rattle.ped_session.proofs.OneAnswer as items
use Rattle.ped_answer.specs.declared.answering.Status.{Status}
use Rattle.ped_answer.specs.declared.answering.Status.TheVariants.{Done, SomeRefused, BadWords, ReadFault, WriteFault, ProgramRefused, NoMemory, TooLong}
use Rattle.ped_gen.specs.Generated as made
use Rattle.ped_answer.specs.Generated.{Tally, Applies}
use Rattle.ped_answer.specs.Answer.{HasRead}
use Rattle.ped_answer.specs.TestCounts.{TestsText, of_tree, of_refusal, TestsSession, of_script, of_refused_program, TestsGenerated, of_report, of_refused_text, Ticks, IsUntested}
use Rattle.ped_answer.specs.Serving.{session_status}
use Rattle.ped_answer.proofs.OneAnswer.{one_tree, not_both, one_expansion, never_both}
use Rattle.ped_answer.proofs.Tallying.{one_applies}

-- a call without tests, which didn't answer on a program whole
pub idle_ticks : (s : Status) (before n : ℕ) → s ≢ Done → s ≢ SomeRefused → Ticks s before before n
idle_ticks Done before n h k = absurd (h refl)
idle_ticks SomeRefused before n h k = absurd (k refl)
idle_ticks BadWords before n h k = refl
idle_ticks ReadFault before n h k = refl
idle_ticks ProgramRefused before n h k = refl
idle_ticks TooLong before n h k = refl
idle_ticks WriteFault before n h k = omega arith
idle_ticks NoMemory before n h k = omega arith

-- one of the endings of writing an answer is none of the others
pub not_other : (s only other : Status) → only ≢ other → WriteFault ≢ other → NoMemory ≢ other → (s ≡ only) ⊎ (s ≡ WriteFault) ⊎ (s ≡ NoMemory) → s ≢ other
not_other s only other h w m (inl e) d = h (sym e ∙ d)
not_other s only other h w m (inr (inl e)) d = w (sym e ∙ d)
not_other s only other h w m (inr (inr e)) d = m (sym e ∙ d)

-- a call that made no test, and then wrote an answer that is none on a program
pub idle_writing : (s only : Status) (before n : ℕ) → only ≢ Done → only ≢ SomeRefused → (s ≡ only) ⊎ (s ≡ WriteFault) ⊎ (s ≡ NoMemory) → Ticks s before before n
idle_writing s only before n h k e = idle_ticks s before n (not_other s only Done h (λ d. cc) (λ d. cc) e) (not_other s only SomeRefused k (λ d. cc) (λ d. cc) e)

-- nor has one that wrote an answer to bad words read all files
pub read_nothing : (s : Status) → (s ≡ BadWords) ⊎ (s ≡ WriteFault) ⊎ (s ≡ NoMemory) → HasRead s → ⊥
read_nothing s (inl e) h = subst HasRead e h
read_nothing s (inr (inl e)) h = subst HasRead e h
read_nothing s (inr (inr e)) h = subst HasRead e h

-- as many tests as the answer takes are at most as many
within : (s : Status) (before after n : ℕ) → (s ≡ WriteFault) ⊎ (s ≡ NoMemory) → after ≤ before + n → Ticks s before after n
within s before after n (inl e) a = subst (λ (x : Status). Ticks x before after n) (sym e) a
within s before after n (inr e) a = subst (λ (x : Status). Ticks x before after n) (sym e) a

-- a call that made all tests, and then wrote the answer
pub whole_ticks : (s only : Status) (before after n : ℕ) → ((a : ℕ) → a ≡ before + n → Ticks only before a n) → (s ≡ only) ⊎ (s ≡ WriteFault) ⊎ (s ≡ NoMemory) → after ≡ before + n → Ticks s before after n
whole_ticks s only before after n exact (inl e) a = subst (λ (x : Status). Ticks x before after n) (sym e) (exact after a)
whole_ticks s only before after n exact (inr e) a = within s before after n e (let most : after ≤ before + n = omega arith in most)

-- a session whose answer is written whole has made exactly the tests that it takes
pub session_ticks : (refused : Bool) (before n a : ℕ) → a ≡ before + n → Ticks (session_status refused) before a n
session_ticks false before n a e = e
session_ticks true before n a e = e

-- an answer on a program is none of those that come without a test
pub is_tested : (s only : Status) → ¬ (IsUntested only) → (s ≡ only) ⊎ (s ≡ WriteFault) ⊎ (s ≡ NoMemory) → ¬ (IsUntested s)
is_tested s only h (inl e) u = h (subst IsUntested e u)
is_tested s only h (inr (inl e)) u = subst IsUntested e u
is_tested s only h (inr (inr e)) u = subst IsUntested e u

-- so does a session
pub is_session_tested : (s : Status) → (s ≡ Done) ⊎ (s ≡ SomeRefused) ⊎ (s ≡ WriteFault) ⊎ (s ≡ NoMemory) → ¬ (IsUntested s)
is_session_tested s (inl e) u = subst IsUntested e u
is_session_tested s (inr (inl e)) u = subst IsUntested e u
is_session_tested s (inr (inr (inl e))) u = subst IsUntested e u
is_session_tested s (inr (inr (inr e))) u = subst IsUntested e u

-- the tests of the program that a text expands to are those of the text
pub text_ticks : (text : List ℕ) (t : ProgramTree) → IsExpansion text t → (s : Status) (before after : ℕ) → Ticks s before after (pair_count (references t)) → (n : ℕ) → TestsText text n → Ticks s before after n
text_ticks text t expands s before after h n (of_tree u other e) = subst (λ (m : ℕ). Ticks s before after m) (ap (λ (x : ProgramTree). pair_count (references x)) (one_expansion text t u expands other) ∙ sym e) h
text_ticks text t expands s before after h n (of_refusal f refused e) = absurd (never_both text t f expands refused)

-- tests that were made before are made besides
later : (s : Status) (before mid after m n : ℕ) → ¬ (IsUntested s) → mid ≡ before + m → Ticks s mid after n → Ticks s before after (m + n)
later Done before mid after m n h e t = omega arith
later SomeRefused before mid after m n h e t = omega arith
later BadWords before mid after m n h e t = absurd (h tt)
later ReadFault before mid after m n h e t = absurd (h tt)
later ProgramRefused before mid after m n h e t = absurd (h tt)
later TooLong before mid after m n h e t = absurd (h tt)
later WriteFault before mid after m n h e t = omega arith
later NoMemory before mid after m n h e t = omega arith

-- the tests of a session on the program that a text expands to are those of the text, of its script and of the data
pub session_text_ticks : (text script data_bytes : List ℕ) (t : ProgramTree) → IsExpansion text t → (status : Status) (before after : ℕ)
    → ((said : Said) (last : State) → AnswersItems (commands_of script) data_bytes (opened t) said last → Ticks status before after (pair_count (references t) + said.tests))
    → (n : ℕ) → TestsSession text script data_bytes n → Ticks status before after n
session_text_ticks text script data_bytes t expands status before after ticks n (of_script u other said last answers e) =
    let same = one_expansion text u t other expands in
    let there = subst (λ (x : ProgramTree). AnswersItems (commands_of script) data_bytes (opened x) said last) same answers in
    subst (λ (m : ℕ). Ticks status before after m) (ap (λ (x : ProgramTree). pair_count (references x) + said.tests) (sym same) ∙ sym e) (ticks said last there)
session_text_ticks text script data_bytes t expands status before after ticks n (of_refused_program f refused e) = absurd (never_both text t f expands refused)

-- the tests of a session: those of opening its program, and behind them those of its script
pub opened_ticks : (script data_bytes : List ℕ) (t : ProgramTree) (s : State) (status : Status) (before mid after : ℕ)
    → s ≡ opened t → mid ≡ before + pair_count (references t)
    → ((said : Said) (last : State) → AnswersItems (commands_of script) data_bytes s said last → Ticks status mid after said.tests)
    → ¬ (IsUntested status)
    → (said : Said) (last : State) → AnswersItems (commands_of script) data_bytes (opened t) said last → Ticks status before after (pair_count (references t) + said.tests)
opened_ticks script data_bytes t s status before mid after is first rest tested said last answers =
    later status before mid after (pair_count (references t)) said.tests tested first (rest said last (subst (λ (x : State). AnswersItems (commands_of script) data_bytes x said last) (sym is) answers))

-- the tests of what a script says are those of whatever it says
pub said_ticks : (script data_bytes : List ℕ) (s : State) (status : Status) (before after : ℕ)
    → (done : Said) × (next : State) × AnswersItems (commands_of script) data_bytes s done next × Ticks status before after done.tests
    → (said : Said) (last : State) → AnswersItems (commands_of script) data_bytes s said last → Ticks status before after said.tests
said_ticks script data_bytes s status before after d said last answers =
    subst (λ (x : Said). Ticks status before after x.tests) (items.one_all (commands_of script) data_bytes s d.1 last d.0 said d.2 answers).0 d.3

-- the tests of a program that is made: those of opening it, and behind them those of its script
pub made_ticks : (size : ℕ) (s : State) (status : Status) (before mid after : ℕ)
    → (t : ProgramTree) × ReadsValid (made.program size) t × (s ≡ opened t)
    → ((t : ProgramTree) → ReadsValid (made.program size) t → mid ≡ before + pair_count (references t))
    → ((tally : Tally) (last : State) → Applies (commands_of (made.script size)) s tally last → Ticks status mid after tally.tests)
    → ¬ (IsUntested status) → (n : ℕ) → TestsGenerated size n → Ticks status before after n
made_ticks size s status before mid after o first rest tested n (of_report t reads tally last applies e) =
    let same = o.2 ∙ ap opened (one_tree (made.program size) o.0 t o.1 reads) in
    let there = subst (λ (x : State). Applies (commands_of (made.script size)) x tally last) (sym same) applies in
    subst (λ (m : ℕ). Ticks status before after m) (sym e) (later status before mid after (pair_count (references t)) tally.tests tested (first t reads) (rest tally last there))
made_ticks size s status before mid after o first rest tested n (of_refused_text f refused e) = absurd (not_both (made.program size) o.0 f o.1 refused)

-- where memory ran out while a session was opened on it, at most the tests of opening it were made
pub unmade_ticks : (size before after : ℕ)
    → ((t : ProgramTree) → ReadsValid (made.program size) t → after ≤ before + pair_count (references t))
    → ((f : Finding) → RefusesText (made.program size) f → after ≡ before)
    → (n : ℕ) → TestsGenerated size n → after ≤ before + n
unmade_ticks size before after most none n (of_report t reads tally last applies e) = let few = most t reads in omega arith
unmade_ticks size before after most none n (of_refused_text f refused e) = let same = none f refused in omega arith

-- the tests of what a script comes to are those of whatever it comes to
pub tally_ticks : (size : ℕ) (s : State) (status : Status) (before after : ℕ)
    → (done : Tally) (next : State) → Applies (commands_of (made.script size)) s done next → Ticks status before after done.tests
    → (tally : Tally) (last : State) → Applies (commands_of (made.script size)) s tally last → Ticks status before after tally.tests
tally_ticks size s status before after done next first ticks tally last applies =
    subst (λ (x : Tally). Ticks status before after x.tests) (one_applies (commands_of (made.script size)) s next last done tally first applies).0 ticks

-- an answer on a program that is made is a report or a refusal
pub is_report_tested : (s : Status) → (s ≡ Done) ⊎ (s ≡ WriteFault) ⊎ (s ≡ NoMemory) → ¬ (IsUntested s)
is_report_tested s e = is_tested s Done (λ u. u) e
