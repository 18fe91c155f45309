-- The panes of an answer cover what runs of their programs do.
use Rattle.std.proofs.Common.{◌≡◌, inl, inr, refl, sym, ap, ap₂, ◌∙◌, subst, ℕ, ◌<◌, Bool, true, false, List, [], ◌∷◌, Option, Some, None}
use Rattle.std.specs.Prelude.{◌||◌, filter, MatchOption}
use Rattle.ped_io.specs.Outside.{Contents}
use Rattle.ped_words.specs.Requests.{Request, show, session, generate}
use Rattle.ped_tree.specs.Tree.{ProgramTree, StmtTree}
use Rattle.ped_tree.specs.Printing.{program_text}
use Rattle.ped_tree.specs.Numbering.{statement_with}
use Rattle.ped_session.specs.ped_symbols.specs.NameRefusals.{IsValid}
use Rattle.ped_session.specs.ped_rules.specs.ped_views.specs.declared.directions.Direction.{Direction}
use Rattle.ped_session.specs.ped_refs.specs.References.{Reference, references, outermost}
use Rattle.ped_session.specs.ped_rules.specs.ped_edges.specs.Edges.{Edge, proven}
use Rattle.ped_session.specs.ped_graph.specs.Dependences.{AreEdges, place_of}
use Rattle.ped_session.specs.ped_graph.specs.DependencePane.{extent_of, is_in, edges_of, IsDependencePane, IsDependencePaneOf}
use Rattle.ped_session.specs.ped_rules.specs.ped_store.specs.Stores.{Store}
use Rattle.ped_session.specs.ped_rules.specs.ped_store.specs.Races.{Access, conflict, race}
use Rattle.ped_session.specs.ped_rules.specs.ped_eval.specs.Runs.{going}
use Rattle.ped_session.specs.ped_rules.specs.ped_eval.specs.Outcomes.{run_of}
use Rattle.ped_session.specs.ped_laws.specs.Acts.Orders.{IsIn}
use Rattle.ped_session.specs.ped_laws.specs.Conflicts.Directions.{share_a_loop}
use Rattle.ped_session.specs.ped_laws.specs.Conflicts.Covered.{ComeInRun, IsCovered, IsCarriedInParallel}
use Rattle.ped_rows.specs.Occurring.{IsUncopied, IsLeft, Occurs}
use Rattle.ped_session.specs.ped_transformations.specs.ped_inline.specs.CallsPane.{IsCallsPane}
use Rattle.ped_session.specs.ped_transformations.specs.ped_inline.specs.CoveredCalls.{is_in_block, AreInOneCall, IsCoveredFolded}
use Rattle.ped_script.specs.Items.{commands_of}
use Rattle.ped_script.specs.declared.items.Item.{Item}
use Rattle.ped_script.specs.declared.items.Command.{Command}
use Rattle.ped_script.specs.declared.kinds.Query.{Query}
use Rattle.ped_script.specs.declared.kinds.Query.TheVariants.{Source, Deps, Show, Calls, Print, Advise, System, Tested}
use Rattle.ped_session.specs.Panes.{ArePanes}
use Rattle.ped_session.specs.States.{State, opened}
use Rattle.ped_session.specs.Scripts.{Said}
use Rattle.ped_answer.specs.Covered.{OccursOnceLeft, CoverRuns, IsCoveringPane, AreCoveringPanes, touches, CoverRunsAt, IsCoveringPaneOf, HasRow, IsCoveringCalls}
use Rattle.ped_answer.specs.Headline.{AnswersEach, EachItem, Afresh, IsOfStatement, AnswersAfresh, ShowsAfresh, PanesRequest, CoversRuns, Covers, CoveredRequest}
use Rattle.ped_answer.proofs.LoopAccesses.{so_or_by_loop}

-- dependences cover conflicts
abbrev pub ConflictsCovered : Type 0
ConflictsCovered = (t : ProgramTree) (data_bytes : List ℕ) (a b : Access) (edges : List Edge) → IsValid t → ComeInRun t data_bytes a b → conflict a b ≡ true → 0 < a.reference → 0 < b.reference
    → share_a_loop a.place.turns b.place.turns ≡ true → AreEdges t edges → IsCovered t edges a b

-- and races
abbrev pub RacesCovered : Type 0
RacesCovered = (t : ProgramTree) (data_bytes : List ℕ) (a b : Access) (edges : List Edge) → IsValid t → ComeInRun t data_bytes a b → race a b ≡ true → AreEdges t edges
    → IsCarriedInParallel t edges a.place.statement b.place.statement

-- folded dependences cover what CALLs do
abbrev pub CallsCovered : Type 0
CallsCovered = (t : ProgramTree) (data_bytes : List ℕ) (a b : Access) (edges : List Edge) → IsValid t → ComeInRun t data_bytes a b → conflict a b ≡ true → 0 < a.reference → 0 < b.reference
    → share_a_loop a.place.turns b.place.turns ≡ true → AreEdges t edges → (is_in_block t a || is_in_block t b) ≡ true → (¬ AreInOneCall t a b) → IsCoveredFolded t edges a b

-- proven dependences occur where a run has left their outermost DO
abbrev pub ProvenOccur : Type 0
ProvenOccur = (t : ProgramTree) (data_bytes : List ℕ) (edges : List Edge) (e : Edge) (vector : List Direction) → IsValid t → AreEdges t edges → IsIn e edges → e.mark ≡ proven → IsIn vector e.vectors → IsUncopied t e
    → ((r : Reference) → IsIn r (references t) → place_of r ≡ e.source → IsLeft t data_bytes (outermost r)) → Occurs t data_bytes e vector

-- and where it ends by END
abbrev pub ProvenOccurAtEnd : Type 0
ProvenOccurAtEnd = (t : ProgramTree) (data_bytes : List ℕ) (edges : List Edge) (e : Edge) (vector : List Direction) (s : Store) → IsValid t → AreEdges t edges → IsIn e edges → e.mark ≡ proven → IsIn vector e.vectors → IsUncopied t e
    → (run_of t data_bytes).ending ≡ going s → Occurs t data_bytes e vector

-- all of these
pub record Laws : Type 0 where
  pub conflicts : ConflictsCovered
  pub races : RacesCovered
  pub calls : CallsCovered
  pub occur : ProvenOccur
  pub occur_at_end : ProvenOccurAtEnd

occurs : Laws → (t : ProgramTree) → IsValid t → (edges : List Edge) → AreEdges t edges → (e : Edge) → IsIn e edges → e.mark ≡ proven → OccursOnceLeft t e
occurs laws t valid edges are e listed is = record {
  left = λ d vector of uncopied left. laws.occur t d edges e vector valid are listed is of uncopied left;
  ended = λ d vector s of uncopied ends. laws.occur_at_end t d edges e vector s valid are listed is of uncopied ends;
}

cover_runs : Laws → (t : ProgramTree) → IsValid t → (edges : List Edge) → AreEdges t edges → CoverRuns t edges
cover_runs laws t valid edges are = record {
  conflicts = λ d a b m. laws.conflicts t d a b edges valid m.come m.conflicts m.first m.second m.share are;
  all = λ d a b m. so_or_by_loop t d (IsCovered t edges a b) a b m.come (λ first second. laws.conflicts t d a b edges valid m.come m.conflicts first second m.share are);
  races = λ d a b m. laws.races t d a b edges valid m.come m.races are;
  occur = occurs laws t valid edges are;
}

pane_covers : Laws → (t : ProgramTree) → IsValid t → (pane : List ℕ) → IsDependencePane t pane → IsCoveringPane t pane
pane_covers laws t valid pane h = (h.0, h.1, h.2, cover_runs laws t valid h.0 h.1)

panes_cover : Laws → (t : ProgramTree) → IsValid t → (bytes : List ℕ) → ArePanes t bytes → AreCoveringPanes t bytes
panes_cover laws t valid bytes h = (h.0, pane_covers laws t valid h.0 h.1, h.2)

kept_first : {X : Type 0} (p : X → Bool) (x : X) (xs : List X) → p x ≡ true → filter p (x ∷ xs) ≡ x ∷ filter p xs
kept_first p x xs h = rw h refl

dropped_first : {X : Type 0} (p : X → Bool) (x : X) (xs : List X) → p x ≡ false → filter p (x ∷ xs) ≡ filter p xs
dropped_first p x xs h = rw h refl

-- an item that passes is left
in_filter : {X : Type 0} (p : X → Bool) (xs : List X) (x : X) → IsIn x xs → p x ≡ true → IsIn x (filter p xs)
in_filter p [] x i h = absurd i
in_filter p (y ∷ ys) x (inl e) h = subst (IsIn x) (sym (kept_first p y ys (ap p (sym e) ∙ h))) (inl e)
in_filter p (y ∷ ys) x (inr i) h = by (in_filter p ys x i h) (p y) refl
  where
    by : IsIn x (filter p ys) → (b : Bool) → p y ≡ b → IsIn x (filter p (y ∷ ys))
    by more true q = subst (IsIn x) (sym (kept_first p y ys q)) (inr more)
    by more false q = subst (IsIn x) (sym (dropped_first p y ys q)) more

left_or_first : {X : Type 0} (p : X → Bool) (y x : X) (ys : List X) → (IsIn x (filter p ys) → IsIn x ys) → IsIn x (y ∷ filter p ys) → IsIn x (y ∷ ys)
left_or_first p y x ys rest (inl e) = inl e
left_or_first p y x ys rest (inr j) = inr (rest j)

-- an item that is left was there
out_of_filter : {X : Type 0} (p : X → Bool) (xs : List X) (x : X) → IsIn x (filter p xs) → IsIn x xs
out_of_filter p [] x i = absurd i
out_of_filter p (y ∷ ys) x i = by (λ j. out_of_filter p ys x j) (p y) refl
  where
    by : (IsIn x (filter p ys) → IsIn x ys) → (b : Bool) → p y ≡ b → IsIn x (y ∷ ys)
    by rest true q = left_or_first p y x ys rest (subst (IsIn x) (kept_first p y ys q) i)
    by rest false q = inr (rest (subst (IsIn x) (dropped_first p y ys q) i))

-- a dependence of the statement is one of all
among_all : (t : ProgramTree) (number : ℕ) (edges : List Edge) (e : Edge) → IsIn e (edges_of t number edges) → IsIn e edges
among_all t number edges e among = out_of_filter (λ (f : Edge). is_in number (extent_of t number) f.source.0 || is_in number (extent_of t number) f.sink.0) edges e among

-- a dependence that touches the statement is among those of the statement
among_rows : (t : ProgramTree) (number : ℕ) (edges : List Edge) (e : Edge) → IsIn e edges → (is_in number (extent_of t number) e.source.0 || is_in number (extent_of t number) e.sink.0) ≡ true → IsIn e (edges_of t number edges)
among_rows t number edges e among is = in_filter (λ (f : Edge). is_in number (extent_of t number) f.source.0 || is_in number (extent_of t number) f.sink.0) edges e among is

-- the statement is touched where the dependence goes from this statement to that one
touched : (t : ProgramTree) (number : ℕ) (e : Edge) (first second : ℕ) → e.source.0 ≡ first → e.sink.0 ≡ second
    → (is_in number (extent_of t number) first || is_in number (extent_of t number) second) ≡ true → (is_in number (extent_of t number) e.source.0 || is_in number (extent_of t number) e.sink.0) ≡ true
touched t number e first second source sink is =
    ap₂ (λ (m n : ℕ). is_in number (extent_of t number) m || is_in number (extent_of t number) n) source sink ∙ is

-- what covers two accesses of which a statement makes one is among its dependences
covered_at : (t : ProgramTree) (number : ℕ) (edges : List Edge) (a b : Access) → touches t number a b ≡ true → IsCovered t edges a b → IsCovered t (edges_of t number edges) a b
covered_at t number edges a b is c = record {
  edge = c.edge;
  listed = among_rows t number edges c.edge c.listed (touched t number c.edge a.place.statement b.place.statement (ap (λ (p : ℕ × ℕ). p.0) c.source) (ap (λ (p : ℕ × ℕ). p.0) c.sink) is);
  source = c.source;
  sink = c.sink;
  vector = c.vector;
  contains = c.contains;
  stands = c.stands;
}

rows_cover : Laws → (t : ProgramTree) → IsValid t → (number : ℕ) (edges : List Edge) → AreEdges t edges → CoverRunsAt t number (edges_of t number edges)
rows_cover laws t valid number edges are = record {
  conflicts = λ d a b m is. covered_at t number edges a b is (laws.conflicts t d a b edges valid m.come m.conflicts m.first m.second m.share are);
  all = λ d a b m is.
      so_or_by_loop t d (IsCovered t (edges_of t number edges) a b) a b m.come
      (λ first second. covered_at t number edges a b is (laws.conflicts t d a b edges valid m.come m.conflicts first second m.share are));
  races = λ d a b m is.
      let c = laws.races t d a b edges valid m.come m.races are in
      record {
        edge = c.edge;
        listed = among_rows t number edges c.edge c.listed (touched t number c.edge a.place.statement b.place.statement c.first_statement c.second_statement is);
        reference = c.reference;
        of_program = c.of_program;
        source = c.source;
        first_statement = c.first_statement;
        second_statement = c.second_statement;
        level = c.level;
        carried = c.carried;
        parallel = c.parallel;
      };
  occur = λ e listed. occurs laws t valid edges are e (among_all t number edges e listed);
}

pane_of_covers : Laws → (number : ℕ) (t : ProgramTree) → IsValid t → (pane : List ℕ) → IsDependencePaneOf t (Some number) pane → IsCoveringPaneOf number t pane
pane_of_covers laws number t valid pane h = (h.0, h.1, h.2, rows_cover laws t valid number h.0 h.1)

calls_cover : Laws → (t : ProgramTree) → IsValid t → (pane : List ℕ) → IsCallsPane t pane → IsCoveringCalls t pane
calls_cover laws t valid pane h =
    let edges = h.0 in
    let are = h.1 in
    let rows = h.2 in
    let are_rows = h.3 in
    let has_row : (a b : Access) → IsCoveredFolded t edges a b → HasRow t edges rows a b = λ a b c. (c, are_rows.none_lost c.covered.edge c.covered.listed c.folded) in (
      edges,
      are,
      rows,
      are_rows,
      h.4,
      record {
        conflicts = λ d a b m in_block apart. has_row a b (laws.calls t d a b edges valid m.come m.conflicts m.first m.second m.share are in_block apart);
        all = λ d a b m in_block apart.
            so_or_by_loop t d (HasRow t edges rows a b) a b m.come
            (λ first second. has_row a b (laws.calls t d a b edges valid m.come m.conflicts first second m.share are in_block apart));
      },
    )

-- what comes of reading afresh is so of a valid program
afresh_so : (IsSo Covering : ProgramTree → List ℕ → Type 0) → ((t : ProgramTree) → IsValid t → (bytes : List ℕ) → IsSo t bytes → Covering t bytes) → (text bytes : List ℕ) → Afresh IsSo text bytes → Afresh Covering text bytes
afresh_so IsSo Covering covers text bytes h = record {
  tree = h.tree;
  reads = h.reads;
  no_other = h.no_other;
  printed = h.printed;
  so = covers h.tree h.reads.valid bytes h.so;
}

-- of the program alone, where it has the statement
of_statement : (IsSo Covering : ProgramTree → List ℕ → Type 0) (line : ℕ) (t : ProgramTree) (bytes : List ℕ) → (IsSo t bytes → Covering t bytes) → (found : Option StmtTree) (row : Type 0)
    → MatchOption found row (λ (statement : StmtTree). IsSo t bytes) → MatchOption found row (λ (statement : StmtTree). Covering t bytes)
of_statement IsSo Covering line t bytes covers None row h = h
of_statement IsSo Covering line t bytes covers (Some statement) row h = covers h

statement_so : (IsSo Covering : ProgramTree → List ℕ → Type 0) (line number : ℕ) → ((t : ProgramTree) → IsValid t → (bytes : List ℕ) → IsSo t bytes → Covering t bytes)
    → (t : ProgramTree) → IsValid t → (bytes : List ℕ) → IsOfStatement IsSo line number t bytes → IsOfStatement Covering line number t bytes
statement_so IsSo Covering line number covers t valid bytes h = of_statement IsSo Covering line t bytes (covers t valid bytes) (statement_with number t) _ h

-- a pane that comes of reading afresh covers runs
query_covers : Laws → (query : Query) (line : ℕ) (s : State) (bytes : List ℕ) → AnswersAfresh query line s bytes → CoversRuns query line s bytes
query_covers laws (Deps None) line s bytes h = afresh_so IsDependencePane IsCoveringPane (pane_covers laws) s.present bytes h
query_covers laws (Deps (Some number)) line s bytes h =
    afresh_so (IsOfStatement (λ t. IsDependencePaneOf t (Some number)) line number) (IsOfStatement (IsCoveringPaneOf number) line number)
    (statement_so (λ t. IsDependencePaneOf t (Some number)) (IsCoveringPaneOf number) line number (pane_of_covers laws number)) s.present bytes h
query_covers laws Show line s bytes h = afresh_so ArePanes AreCoveringPanes (panes_cover laws) s.present bytes h
query_covers laws Calls line s bytes h = afresh_so IsCallsPane IsCoveringCalls (calls_cover laws) s.present bytes h
query_covers laws Source line s bytes h = tt
query_covers laws Print line s bytes h = tt
query_covers laws (Advise number) line s bytes h = tt
query_covers laws (System source sink pattern) line s bytes h = tt
query_covers laws Tested line s bytes h = tt

-- so does that of an item
item_covers : Laws → (line : ℕ) (command : Option Command) (d : List ℕ) (s : State) (said : Said) (next : State) → ShowsAfresh line command d s said next → Covers line command d s said next
item_covers laws line command d s said next h = λ query asks. query_covers laws query line s said.bytes (h query asks)

-- and so does each
each_covers : Laws → (items : List Item) (d : List ℕ) (s last : State) (said : Said) → AnswersEach ShowsAfresh items d s said last → AnswersEach Covers items d s said last
each_covers laws [] d s last said h = h
each_covers laws (item ∷ items) d s last said h = (
  h.0,
  h.1,
  h.2,
  item_covers laws item.line item.command d s h.0 h.1 h.3,
  h.4,
  each_covers laws items d h.1 last h.4 h.5,
  h.6,
)

session_covers : Laws → (program script : List ℕ) (data_file : Option (List ℕ)) (files : Contents) (bytes : List ℕ) → EachItem ShowsAfresh program script data_file files bytes → EachItem Covers program script data_file files bytes
session_covers laws program script data_file files bytes h = record {
  text = h.text;
  program_is = h.program_is;
  commands = h.commands;
  script_is = h.script_is;
  data_bytes = h.data_bytes;
  data_are = h.data_are;
  tree = h.tree;
  expands = h.expands;
  said = h.said;
  last = h.last;
  answers = each_covers laws (commands_of h.commands) h.data_bytes (opened h.tree) h.last h.said h.answers;
  says = h.says;
}

-- the panes of an answer
pub request_covered : Laws → (request : Option Request) (files : Contents) (bytes : List ℕ) → PanesRequest request files bytes → CoveredRequest request files bytes
request_covered laws None files bytes h = tt
request_covered laws (Some (show program)) files bytes h = (h, afresh_so ArePanes AreCoveringPanes (panes_cover laws) (program_text h.tree) bytes h.afresh)
request_covered laws (Some (session program script data_file)) files bytes h = session_covers laws program script data_file files bytes h
request_covered laws (Some (generate number)) files bytes h = tt
