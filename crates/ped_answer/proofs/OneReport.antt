-- A program has one report.
use Rattle.std.proofs.Common.{◌≡◌, sym, ap, ◌∙◌, subst, ℕ, ◌+◌, List, [], length}
use Rattle.ped_gen.specs.Generated.{script}
use Rattle.ped_tree.specs.Tree.{ProgramTree}
use Rattle.ped_tree.specs.Numbering.{statements_count}
use Rattle.ped_session.specs.ped_refs.specs.References.{references, pair_count}
use Rattle.ped_session.specs.ped_graph.specs.Dependences.{AreEdges}
use Rattle.ped_session.specs.ped_graph.proofs.OnePane.{one_edges}
use Rattle.ped_session.specs.ped_valid.specs.Validity.{ReadsValid}
use Rattle.ped_session.specs.ped_rules.specs.ped_eval.specs.Outcomes.{Outcome}
use Rattle.ped_script.specs.Items.{commands_of}
use Rattle.ped_session.specs.LoweredRuns.{IsLoweredRun}
use Rattle.ped_session.specs.States.{State, opened}
use Rattle.ped_session.proofs.OneRun.{one_lowered_run}
use Rattle.ped_session.proofs.OneStep.{one_tree}
use Rattle.ped_answer.specs.Generated.{Tally, IsWordOn, alike, unlike, report, Reports}
use Rattle.ped_answer.proofs.Tallying.{one_applies}

-- two runs have one word
one_ended : (a b c : Outcome) (v w : List ℕ) → b ≡ c → IsWordOn a b v → IsWordOn a c w → v ≡ w
one_ended a b c v w e (alike h p) (alike k q) = p ∙ sym q
one_ended a b c v w e (unlike h p) (unlike k q) = p ∙ sym q
one_ended a b c v w e (alike h p) (unlike k q) = absurd (k (record { output = h.output; live = h.live; first = h.first; second = sym e ∙ h.second }))
one_ended a b c v w e (unlike h p) (alike k q) = absurd (h (record { output = k.output; live = k.live; first = k.first; second = e ∙ k.second }))

one_word : (a d b c : Outcome) (v w : List ℕ) → a ≡ d → b ≡ c → IsWordOn a b v → IsWordOn d c w → v ≡ w
one_word a d b c v w began ended p q = one_ended d b c v w ended (subst (λ (o : Outcome). IsWordOn o b v) began p) q

-- what is said by the last program, its dependences, the tally and the word
abbrev said_by : ℕ → ℕ → ProgramTree → ℕ → Tally → List ℕ → List ℕ
said_by n opening last edges tally word =
    report n (record { statements = statements_count last.body; pairs = pair_count (references last); accepted = tally.accepted; refused = tally.refused; tested = opening + tally.tests; edges = edges }) word

pub one_report : (n : ℕ) (t : ProgramTree) (a b : List ℕ) → Reports n t a → Reports n t b → a ≡ b
one_report n t a b p q =
    let opening = pair_count (references t) in
    let done = one_applies (commands_of (script n)) (opened t) p.behind q.behind p.tally q.tally p.applies q.applies in
    let last = one_tree q.behind.present p.last q.last (subst (λ (s : State). ReadsValid s.present p.last) done.1 p.reads) q.reads in
    let edges = one_edges q.last p.edges q.edges (subst (λ (u : ProgramTree). AreEdges u p.edges) last p.are_edges) q.are_edges in
    let began = one_lowered_run [] [] t p.began q.began p.runs_first q.runs_first in
    let ended = one_lowered_run [] [] q.last p.ended q.ended (subst (λ (u : ProgramTree). IsLoweredRun [] [] u p.ended) last p.runs_last) q.runs_last in
    let word = one_word p.began q.began p.ended q.ended p.word q.word began ended p.word_on q.word_on in
    p.says
    ∙ ap (λ (u : ProgramTree). said_by n opening u (length p.edges) p.tally p.word) last
    ∙ ap (λ (k : ℕ). said_by n opening q.last k p.tally p.word) (ap length edges)
    ∙ ap (λ (x : Tally). said_by n opening q.last (length q.edges) x p.word) done.0
    ∙ ap (λ (w : List ℕ). said_by n opening q.last (length q.edges) q.tally w) word
    ∙ sym q.says
