-- Words and files take one number of dependence tests.
use Rattle.std.proofs.Common.{◌≡◌, ℕ, ◌+◌, Bool, true, false, List, [], Option, Some, None, sym, ap, ap₂, ◌∙◌, subst, length}
use Rattle.std.specs.Prelude.{MatchOption, MatchBool, nat_lt}
use Rattle.ped_io.specs.Outside.{Contents, content}
use Rattle.ped_tree.specs.Tree.{ProgramTree}
use Rattle.ped_session.specs.ped_refs.specs.References.{references, pair_count}
use Rattle.ped_script.specs.Items.{commands_of}
use Rattle.ped_session.specs.States.{opened}
use Rattle.ped_session.specs.Scripts.{Said, AnswersItems}
use Rattle.ped_session.proofs.OneAnswer as items
use Rattle.ped_gen.specs.Generated as made
use Rattle.ped_words.specs.Requests.{Request, show, session, generate}
use Rattle.ped_answer.specs.Answer.{Input, source_input, data_input}
use Rattle.ped_answer.specs.Generated.{Tally, Applies}
use Rattle.ped_answer.specs.TestCounts.{TestsText, of_tree, of_refusal, TestsSession, of_script, of_refused_program, TestsGenerated, of_report, of_refused_text, TestsInput, TestsData, Tests}
use Rattle.ped_answer.proofs.OneAnswer.{one_tree, not_both, one_expansion, never_both}
use Rattle.ped_answer.proofs.Tallying.{one_applies}

-- there is one such number at most
abbrev HasOne : (ℕ → Type 0) → Type 0
HasOne tests = (m n : ℕ) → tests m → tests n → m ≡ n

one_text : (text : List ℕ) → HasOne (TestsText text)
one_text text m n (of_tree t x e) (of_tree u y f) = e ∙ ap (λ (v : ProgramTree). pair_count (references v)) (one_expansion text t u x y) ∙ sym f
one_text text m n (of_tree t x e) (of_refusal r y f) = absurd (never_both text t r x y)
one_text text m n (of_refusal r x e) (of_tree t y f) = absurd (never_both text t r y x)
one_text text m n (of_refusal r x e) (of_refusal q y f) = e ∙ sym f

one_session : (text script data_bytes : List ℕ) → HasOne (TestsSession text script data_bytes)
one_session text script data_bytes m n (of_script t x said last a e) (of_script u y other end b f) =
    let same = one_expansion text t u x y in
    let there = subst (λ (v : ProgramTree). AnswersItems (commands_of script) data_bytes (opened v) said last) same a in
    let says = (items.one_all (commands_of script) data_bytes (opened u) last end said other there b).0 in
    e ∙ ap₂ (λ (v : ProgramTree) (w : Said). pair_count (references v) + w.tests) same says ∙ sym f
one_session text script data_bytes m n (of_script t x said last a e) (of_refused_program r y f) = absurd (never_both text t r x y)
one_session text script data_bytes m n (of_refused_program r x e) (of_script t y said last a f) = absurd (never_both text t r y x)
one_session text script data_bytes m n (of_refused_program r x e) (of_refused_program q y f) = e ∙ sym f

one_generated : (size : ℕ) → HasOne (TestsGenerated size)
one_generated size m n (of_report t x tally last a e) (of_report u y other end b f) =
    let same = one_tree (made.program size) t u x y in
    let there = subst (λ (v : ProgramTree). Applies (commands_of (made.script size)) (opened v) tally last) same a in
    let comes = (one_applies (commands_of (made.script size)) (opened u) last end tally other there b).0 in
    e ∙ ap₂ (λ (v : ProgramTree) (w : Tally). pair_count (references v) + w.tests) same comes ∙ sym f
one_generated size m n (of_report t x tally last a e) (of_refused_text r y f) = absurd (not_both (made.program size) t r x y)
one_generated size m n (of_refused_text r x e) (of_report t y tally last a f) = absurd (not_both (made.program size) t r y x)
one_generated size m n (of_refused_text r x e) (of_refused_text q y f) = e ∙ sym f

-- a file takes one number where its bytes do, by whether they are too many
one_by : (tests : ℕ → Type 0) → HasOne tests → (long : Bool) → HasOne (λ n. MatchBool long (n ≡ 0) (tests n))
one_by tests one true m n p q = p ∙ sym q
one_by tests one false m n p q = one m n p q

one_held : (i : Input) (tests : List ℕ → ℕ → Type 0) → ((text : List ℕ) → HasOne (tests text)) → (held : Option (List ℕ))
    → HasOne (λ n. MatchOption held (n ≡ 0) (λ text. MatchBool (nat_lt i.most (length text)) (n ≡ 0) (tests text n)))
one_held i tests one None m n p q = p ∙ sym q
one_held i tests one (Some text) m n p q = one_by (tests text) (one text) (nat_lt i.most (length text)) m n p q

one_input : (i : Input) (files : Contents) (tests : List ℕ → ℕ → Type 0) → ((text : List ℕ) → HasOne (tests text)) → HasOne (TestsInput i files tests)
one_input i files tests one m n p q = one_held i tests one (content files i.name) m n p q

one_data : (data_file : Option (List ℕ)) (files : Contents) (tests : List ℕ → ℕ → Type 0) → ((text : List ℕ) → HasOne (tests text)) → HasOne (TestsData data_file files tests)
one_data None files tests one m n p q = one [] m n p q
one_data (Some file) files tests one m n p q = one_input (data_input file) files tests one m n p q

-- words and files take one number of tests
pub one_count : (request : Option Request) (files : Contents) (m n : ℕ) → Tests request files m → Tests request files n → m ≡ n
one_count None files m n p q = p ∙ sym q
one_count (Some (show name)) files m n p q = one_input (source_input name) files TestsText one_text m n p q
one_count (Some (session name script data_file)) files m n p q =
    one_input (source_input name) files (λ text. TestsInput (source_input script) files (λ commands. TestsData data_file files (TestsSession text commands)))
    (λ text. one_input (source_input script) files (λ commands. TestsData data_file files (TestsSession text commands)) (λ commands. one_data data_file files (TestsSession text commands) (one_session text commands))) m n p q
one_count (Some (generate number)) files m n p q = one_generated number m n p q
