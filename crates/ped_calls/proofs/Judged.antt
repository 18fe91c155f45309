-- What expanding the first CALLs of a main program comes to.
use Rattle.std.proofs.Common.{◌≡◌, ◌≤◌, ◌<◌, ◌+◌, ◌-◌, ℕ, [], Bool, true, false, None, refl, sym, ap, subst, ◌∙◌, arith}
use Rattle.std.specs.Prelude.{◌||◌, not, nat_lt}
use Rattle.std.proofs.lemmas.Bool.Decides.{nat_tests}
use Rattle.ped_tree.specs.Tree.{StmtTrees}
use Rattle.ped_tree.specs.Numbering.{statements_count}
use Rattle.ped_tree.specs.Grammar.LimitNumbers.{most_statements}
use Rattle.ped_tree.specs.Grammar.Fits.{fits}
use Rattle.ped_tree.specs.Grammar.Refusal.{Refusal, Tab, BadLabel, TooManyContinuations, ContinuationFirst, BadCharacter, OpenConstant, Syntax, NotInProfile, OpenBlock, BadTerminal, IndexAssigned, StopPlace, RealName, DeclaredTwice, NotConstant, RankDiffers, BoundsEmpty, Limit, StorageLimit}
use Rattle.ped_links.specs.ped_valid.specs.declared.opening.Opened.{Opened}
use Rattle.ped_links.specs.ped_symbols.specs.NameRefusals.{IsValid}
use Rattle.ped_links.specs.ped_units.specs.Units.{ProgramUnits}
use Rattle.ped_links.specs.ped_units.specs.Expanding.{main_expanded, with_statements, main_call_expanded, nothing_given, constants_of}
use Rattle.ped_links.specs.ped_units.specs.Verdicts.{calls_count, first_calls, partial, IsPast}
use Rattle.ped_calls.specs.Courses.{Passes, too_many, too_deep, AreTooDeep}
use Rattle.ped_calls.specs.Opening.{expanded_program, has_many, Judges, JudgesProgram, FindsPast}
use Rattle.ped_calls.specs.declared.opening.Judgement.{Judgement}
use Rattle.ped_calls.specs.declared.opening.Judgement.TheVariants.{Valid, PastStatements, PastStorage}
use Rattle.ped_calls.proofs.Expansions.{all_grow, call_counts}
use Rattle.ped_calls.proofs.FirstCalls.{all_kept}
use Rattle.ped_calls.proofs.Settled.{count_behind, settled_unfit}

below : (a b : ℕ) → a < b → nat_lt a b ≡ true
below a b h = grind (arith, nat_tests)

pub not_below : (a b : ℕ) → b ≤ a → nat_lt a b ≡ false
not_below a b h = grind (arith, nat_tests)

either_first : (a b : Bool) → a ≡ true → (a || b) ≡ true
either_first true b h = refl
either_first false b h = absurd cc

either_unfit : (a f : Bool) → f ≡ false → (a || not f) ≡ true
either_unfit true f h = refl
either_unfit false true h = absurd cc
either_unfit false false h = refl

pub neither : (a f : Bool) → a ≡ false → f ≡ true → (a || not f) ≡ false
neither true f h k = absurd cc
neither false true h k = refl
neither false false h k = absurd cc

-- too many statements
pub many_counted : (us : ProgramUnits) (ss : StmtTrees) (later : ℕ) → most_statements < statements_count (main_expanded us ss).statements + later → has_many us ss later ≡ true
many_counted us ss later h =
    let same = count_behind (main_expanded us ss).statements in
    either_first _ _ (below most_statements (statements_count (expanded_program us ss).body + later) (omega (arith, h, same)))

-- the program doesn't fit
pub many_unfit : (us : ProgramUnits) (ss : StmtTrees) (later : ℕ) → fits (expanded_program us ss) ≡ false → has_many us ss later ≡ true
many_unfit us ss later h = either_unfit (nat_lt most_statements (statements_count (expanded_program us ss).body + later)) (fits (expanded_program us ss)) h

-- where there is room for no more statements
pub no_room : (us : ProgramUnits) (ss : StmtTrees) (later whole : ℕ) → statements_count ss + later ≡ whole → most_statements < whole → has_many us ss later ≡ true
no_room us ss later whole h k =
    let grown = all_grow [] (main_call_expanded us) (call_counts _ us (constants_of us.main)) ss (nothing_given us) in
    many_counted us ss later (omega (arith, h, k, grown))

-- where expanding stops
pub stopped_many : (us : ProgramUnits) (ss : StmtTrees) (later whole room : ℕ) → statements_count ss + later ≡ whole → room + whole ≡ most_statements
    → Passes room (statements_count ss) (statements_count (main_expanded us ss).statements) (AreTooDeep 0 (main_expanded us ss).statements)
    → has_many us ss later ≡ true
stopped_many us ss later whole room h k (too_many m) = many_counted us ss later (omega (arith, h, k, m))
stopped_many us ss later whole room h k (too_deep m) = many_unfit us ss later (settled_unfit (with_statements us (main_expanded us ss)) (λ p. m p (omega arith)))

-- where all is expanded
pub judged_whole : (us : ProgramUnits) (ss : StmtTrees) (later : ℕ) (j : Judgement) → statements_count (main_expanded us ss).statements + later ≤ most_statements
    → JudgesProgram (expanded_program us ss) j → Judges us ss later j
judged_whole us ss later (Valid o) few h =
    let same = count_behind (main_expanded us ss).statements in
    (neither _ _ (not_below most_statements (statements_count (expanded_program us ss).body + later) (omega (arith, few, same))) h.0.fits, h.0, h.1, h.2)
judged_whole us ss later PastStatements few h = many_unfit us ss later h
judged_whole us ss later PastStorage few h =
    let same = count_behind (main_expanded us ss).statements in
    (neither _ _ (not_below most_statements (statements_count (expanded_program us ss).body + later) (omega (arith, few, same))) h.0, h.1)

-- no limit is passed by a valid program
pub none_past : (us : ProgramUnits) (m : ℕ) → has_many us (first_calls m us.main.tree.body) (calls_count us.main.tree.body - m) ≡ false → IsValid (partial us m) → (r : Refusal) → IsPast us m r → ⊥
none_past us m h v Limit k = let no : ◌≡◌ {A = Bool} true false = sym k ∙ h in cc
none_past us m h v StorageLimit k = k.1 v.names
none_past us m h v Tab k = k
none_past us m h v BadLabel k = k
none_past us m h v TooManyContinuations k = k
none_past us m h v ContinuationFirst k = k
none_past us m h v BadCharacter k = k
none_past us m h v OpenConstant k = k
none_past us m h v Syntax k = k
none_past us m h v NotInProfile k = k
none_past us m h v OpenBlock k = k
none_past us m h v BadTerminal k = k
none_past us m h v IndexAssigned k = k
none_past us m h v StopPlace k = k
none_past us m h v RealName k = k
none_past us m h v DeclaredTwice k = k
none_past us m h v NotConstant k = k
none_past us m h v RankDiffers k = k
none_past us m h v BoundsEmpty k = k

-- what is past by what the program is judged

-- what expanding so many CALLs comes to
abbrev pub JudgesAt : ProgramUnits → ℕ → Judgement → Type 0
JudgesAt us m j = Judges us (first_calls m us.main.tree.body) (calls_count us.main.tree.body - m) j

pub judged_at : (us : ProgramUnits) (m : ℕ) (ss : StmtTrees) (j : Judgement) → ss ≡ first_calls m us.main.tree.body
    → ((later : ℕ) → statements_count ss + later ≡ statements_count us.main.tree.body → Judges us ss later j) → JudgesAt us m j
judged_at us m ss j is h =
    subst (λ (ts : StmtTrees). Judges us ts (calls_count us.main.tree.body - m) j) is
    (h (calls_count us.main.tree.body - m) (ap (λ (ts : StmtTrees). statements_count ts + (calls_count us.main.tree.body - m)) is ∙ all_kept m us.main.tree.body))

pub valid_finds : (us : ProgramUnits) (m : ℕ) (o : Opened) → JudgesAt us m (Valid o) → FindsPast us m None
valid_finds us m o h = (none_past us m h.0 h.1, h.1)
