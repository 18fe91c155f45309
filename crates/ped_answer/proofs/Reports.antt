-- The report of a program that is made, by what its script came to and by what is reported of the last program.
use Rattle.std.proofs.Common.{◌≡◌, ◌∙◌, refl, sym, ap, subst, ℕ, ◌+◌, List, [], ◌++◌, length, codes, arith}
use Rattle.ped_gen.specs.Generated.{program, script}
use Rattle.ped_tree.specs.Tree.{ProgramTree}
use Rattle.ped_tree.specs.Numbering.{statements_count}
use Rattle.ped_session.specs.ped_refs.specs.References.{references, pair_count}
use Rattle.ped_session.specs.ped_symbols.specs.NameRefusals.{IsValid}
use Rattle.ped_session.specs.ped_valid.specs.Validity.{ReadsValid}
use Rattle.ped_session.specs.ped_valid.proofs.OneVerdict.{valid_prints}
use Rattle.ped_session.specs.ped_rules.specs.ped_eval.specs.Outcomes.{Outcome}
use Rattle.ped_script.specs.Items.{commands_of}
use Rattle.ped_script.specs.declared.items.Item.{Item}
use Rattle.ped_session.specs.LoweredRuns.{IsLoweredRun}
use Rattle.ped_session.specs.States.{State, opened}
use Rattle.ped_session.specs.Scripts.{Said, AnswersItems}
use Rattle.ped_session.specs.Histories.{ArePrinted}
use Rattle.ped_answer.specs.declared.tallies.Tally as code
use Rattle.ped_answer.specs.Generated.{Tally, Figures, Applies, figure_line, runs_line, report}
use Rattle.ped_answer.specs.Tallies.{first_count, Counts, ReportsLast, Reported}
use Rattle.ped_session.specs.ped_transformations.specs.ped_splits.proofs.Existence.Edges.{edges_of_program}
use Rattle.ped_answer.proofs.ExistenceLaws.Replying.{reads_printed}
use Rattle.ped_answer.proofs.Tallying.{says_items}

-- whatever a script does, all sources are printed
abbrev pub StayPrinted : Type 0
StayPrinted = (t : ProgramTree) → IsValid t → (items : List Item) (data_bytes : List ℕ) (said : Said) (last : State) → AnswersItems items data_bytes (opened t) said last → ArePrinted last

-- what is said of the last program with these figures
abbrev said_by : ℕ → ProgramTree → ℕ → ℕ → ℕ → ℕ → List ℕ → List ℕ
said_by n last accepted refused tested edges word =
    report n (record { statements = statements_count last.body; pairs = pair_count (references last); accepted = accepted; refused = refused; tested = tested; edges = edges }) word

same_said : (n : ℕ) (last : ProgramTree) (edges : ℕ) (word : List ℕ) {x y p q k m : ℕ} → x ≡ y → p ≡ q → k ≡ m → said_by n last x p k edges word ≡ said_by n last y q m edges word
same_said n last edges word {x} {y} {p} {q} {k} {m} a r t =
    ap (λ (z : ℕ). said_by n last z p k edges word) a ∙ ap (λ (z : ℕ). said_by n last y z k edges word) r ∙ ap (λ (z : ℕ). said_by n last y q z edges word) t

abbrev figures_by : ℕ → ℕ → ℕ → ℕ → ℕ → ℕ → Figures
figures_by statements pairs accepted refused tested edges = record { statements = statements; pairs = pairs; accepted = accepted; refused = refused; tested = tested; edges = edges }

-- the lines one behind another
pub eight_lines : (n s p accepted refused tested e : ℕ) (word t0 t1 t2 t3 t4 t5 t6 t7 t8 : List ℕ) → t0 ≡ []
    → t1 ≡ t0 ++ figure_line (codes "generated") n → t2 ≡ t1 ++ figure_line (codes "statements") s → t3 ≡ t2 ++ figure_line (codes "pairs") p
    → t4 ≡ t3 ++ figure_line (codes "accepted") accepted → t5 ≡ t4 ++ figure_line (codes "refused") refused → t6 ≡ t5 ++ figure_line (codes "tested") tested
    → t7 ≡ t6 ++ figure_line (codes "edges") e → t8 ≡ t7 ++ runs_line word → t8 ≡ report n (figures_by s p accepted refused tested e) word
eight_lines n s p accepted refused tested e word t0 t1 t2 t3 t4 t5 t6 t7 t8 e0 e1 e2 e3 e4 e5 e6 e7 e8 =
    let l1 : t1 ≡ figure_line (codes "generated") n = e1 ∙ ap (λ (t : List ℕ). t ++ figure_line (codes "generated") n) e0 in
    let l2 = e2 ∙ ap (λ (t : List ℕ). t ++ figure_line (codes "statements") s) l1 in
    let l3 = e3 ∙ ap (λ (t : List ℕ). t ++ figure_line (codes "pairs") p) l2 in
    let l4 = e4 ∙ ap (λ (t : List ℕ). t ++ figure_line (codes "accepted") accepted) l3 in
    let l5 = e5 ∙ ap (λ (t : List ℕ). t ++ figure_line (codes "refused") refused) l4 in
    let l6 = e6 ∙ ap (λ (t : List ℕ). t ++ figure_line (codes "tested") tested) l5 in
    let l7 = e7 ∙ ap (λ (t : List ℕ). t ++ figure_line (codes "edges") e) l6 in
    e8 ∙ ap (λ (t : List ℕ). t ++ runs_line word) l7

-- with the figures of the last program
pub of_last : (n : ℕ) (last : ProgramTree) (s p accepted refused tested e edges : ℕ) (word text : List ℕ) → s ≡ statements_count last.body → p ≡ pair_count (references last) → e ≡ edges
    → text ≡ report n (figures_by s p accepted refused tested e) word → text ≡ said_by n last accepted refused tested edges word
of_last n last s p accepted refused tested e edges word text statements pairs as_many is =
    is
    ∙ ap (λ (x : ℕ). report n (figures_by x p accepted refused tested e) word) statements
    ∙ ap (λ (x : ℕ). report n (figures_by (statements_count last.body) x accepted refused tested e) word) pairs
    ∙ ap (λ (x : ℕ). report n (figures_by (statements_count last.body) (pair_count (references last)) accepted refused tested x) word) as_many

-- in a session that was opened on the program
pub reported : StayPrinted → (n : ℕ) (s next : State) (t : ProgramTree) → ReadsValid (program n) t → s ≡ opened t
    → (first : Outcome) → ((u : ProgramTree) → ReadsValid s.present u → IsLoweredRun [] [] u first)
    → (count : code.Tally) (before after : ℕ) → Counts (Applies (commands_of (script n))) s next (first_count s.tested) count before after
    → (bytes : List ℕ) → ((last : ProgramTree) → ReadsValid next.present last → ReportsLast n first count last bytes) → Reported n s before after bytes
reported stay n s next t reads e first ran count before after k bytes rest =
    let items = commands_of (script n) in
    let applied = subst (λ (x : State). Applies items x k.tally next) e k.applies in
    let said = says_items items (opened t) next k.tally applied in
    let printed = stay t reads.valid items [] said.0 next said.1 in
    let last = reads_printed next.present printed.present in
    let r = rest last.0 last.1 in
    let edges = edges_of_program last.0 in
    let here = subst (λ (x : State). ReadsValid x.present t) (sym e) ((valid_prints t reads.valid t).1 refl) in
    let accepted : count.accepted ≡ k.tally.accepted = ap (λ (c : code.Tally). c.accepted) k.counts ∙ (let z : 0 + k.tally.accepted ≡ k.tally.accepted = omega arith in z) in
    let refused : count.refused ≡ k.tally.refused = ap (λ (c : code.Tally). c.refused) k.counts ∙ (let z : 0 + k.tally.refused ≡ k.tally.refused = omega arith in z) in
    let tested : count.tested ≡ pair_count (references t) + k.tally.tests = ap (λ (c : code.Tally). c.tested) k.counts ∙ ap (λ (x : State). x.tested + k.tally.tests) e in
    record {
      tree = t;
      reads = reads;
      reports = record {
        tally = k.tally;
        behind = next;
        applies = applied;
        last = last.0;
        reads = last.1;
        edges = edges.0;
        are_edges = edges.1;
        began = first;
        runs_first = ran t here;
        ended = r.ended;
        runs_last = r.runs;
        word = r.word;
        word_on = r.word_on;
        says = r.says edges.0 edges.1 ∙ same_said n last.0 (length edges.0) r.word accepted refused tested;
      };
      tally = k.tally;
      last = next;
      applies = k.applies;
      ticks = k.ticks;
    }
