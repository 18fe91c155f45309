-- `parallel` is lawful: a DO that carries no dependence may become a PARALLEL DO.
use Rattle.std.proofs.Common.{[], ◌≡◌, ℕ, List, ◌∷◌, All, Bool, true, false, ◌&&◌, not, Option, Some, None, refl, sym, ap, ◌∙◌, subst, inl, inr}
use Rattle.std.proofs.lemmas.Bool.{both_ways}
use Rattle.std.proofs.lemmas.List.Elements.{All-head, All-tail}
use Rattle.ped_base.specs.Lists.{is_among}
use Rattle.ped_tree.specs.Tree.{Head, Do, ProgramTree}
use Rattle.ped_tree.specs.NamesIn.{loop_variables}
use Rattle.ped_loop_runs.specs.ped_laws.specs.Acts.Orders.{IsIn}
use Rattle.ped_loop_runs.specs.ped_graph.specs.Dependences.{AreEdges}
use Rattle.ped_loop_runs.specs.ped_graph.specs.DependencePane as pane
use Rattle.ped_edges.specs.Edges.{Mark, proven, pending, rejected, Edge, is_rejected}
use Rattle.ped_loop_runs.specs.ped_graph.specs.Keeping.{IsOneToOne}
use Rattle.ped_loop_runs.specs.ped_symbols.specs.NameRefusals.{IsValid}
use Rattle.ped_loop_runs.specs.ped_flow.specs.Questions.{LoopOf, IsIndexIn, IsContained}
use Rattle.ped_loop_runs.specs.ped_steps.specs.Causes.{NoRule}
use Rattle.ped_loop_runs.specs.ped_steps.specs.Replacing.{all_kept}
use Rattle.ped_loop_runs.specs.ped_steps.specs.Runs.Meaning.{Keeps}
use Rattle.ped_loop_runs.specs.ped_steps.specs.Tidy.{is_written_in, IsTidy}
use Rattle.ped_loop_runs.specs.ped_steps.proofs.OneCause.{one_cause}
use Rattle.ped_loop_runs.specs.Unrejected.{some_rejection, IsTrusted}
use Rattle.ped_rules.specs.Carried.{level_at, is_carried_by, carried}
use Rattle.ped_rules.specs.Lawful.{IsFaithful, IsLawful}
use Rattle.ped_rules.specs.Rules.{is_parallel}
use Rattle.ped_rules.specs.Steps.{transformation}
use Rattle.ped_rules.proofs.Answering.{step_by}
use Rattle.ped_rules.proofs.CarriedEdges.{in_body}
use Rattle.ped_rules.proofs.KeptNumbers.{all_one_to_one}
use Rattle.ped_loop_runs.specs.Carried as runs
use Rattle.ped_loop_runs.specs.Carried.{NoneMeetOn, NoneOfScalarsCarriedBy}
use Rattle.ped_loop_runs.specs.Meaning.{KeepsOn}
use Rattle.ped_loop_runs.specs.OneForOne.{IsReordered, IsOneForOne}
use Rattle.ped_loop_runs.specs.TrueRejections.{IsTrueOn}
use Rattle.ped_loop_runs.specs.ped_eval.specs.Outcomes.{IsRaceFree}
use Rattle.ped_loop_runs.proofs.LoopLaws.SomeEdges.{some_edges}
use Rattle.ped_rules.specs.Flags.{flagged}
use Rattle.ped_rules.specs.Paralleling.{MakesParallel, StandsAgainstParallel, paralleling}
use Rattle.ped_rules.proofs.HeadLaws.FlagRules as rules
use Rattle.ped_rules.proofs.HeadLaws.FlaggedLoops.{one_for_one_flag, became_parallel, unwritten_by_tidy, stays_trusted_flag}
use Rattle.ped_rules.proofs.HeadLaws.OneHead.{TrustedLaw, ClearedLaw}
use Rattle.ped_loop_runs.proofs.LoopLaws.OneForOneStands.{false_unless}

-- the laws that are cited
abbrev pub KeepsLaw : Type 0
KeepsLaw =
    (t u : ProgramTree) (l : ℕ) (loop : LoopOf t l) (h : Head) (reversed : Bool) → IsOneForOne t u l loop h reversed
    → ((data_bytes : List ℕ) → IsReordered loop.head h reversed → (edges : List Edge) → AreEdges t edges → NoneMeetOn t edges data_bytes l loop.body) → Keeps t u

abbrev pub KeepsOnLaw : Type 0
KeepsOnLaw =
    (t u : ProgramTree) (l : ℕ) (loop : LoopOf t l) (h : Head) (reversed : Bool) → IsOneForOne t u l loop h reversed
    → (data_bytes : List ℕ) → (IsReordered loop.head h reversed → (edges : List Edge) → AreEdges t edges → NoneMeetOn t edges data_bytes l loop.body) → IsRaceFree t data_bytes → KeepsOn t u data_bytes

abbrev pub UnwrittenLaw : Type 0
UnwrittenLaw =
    (t : ProgramTree) → IsValid t → (edges : List Edge) → AreEdges t edges → (l : ℕ) (loop : LoopOf t l) → NoneOfScalarsCarriedBy t edges l loop.body → (w : List ℕ) → IsIndexIn t l w → is_written_in t l loop.body w ≡ false

abbrev pub UnrejectedLaw : Type 0
UnrejectedLaw = (t : ProgramTree) (edges : List Edge) → some_rejection t.body ≡ false → AreEdges t edges → (e : Edge) → IsIn e edges → e.mark ≡ rejected → ⊥

abbrev pub TrueLaw : Type 0
TrueLaw = (t : ProgramTree) (data_bytes : List ℕ) → some_rejection t.body ≡ false → IsTrueOn t data_bytes

pub each_of : {X : Type 0} (P : X → Type 0) (xs : List X) (x : X) → All P xs → IsIn x xs → P x
each_of P [] x all i = absurd i
each_of P (y ∷ ys) x all (inl e) = subst P (sym e) (All-head P y ys all)
each_of P (y ∷ ys) x all (inr i) = each_of P ys x (All-tail P y ys all) i

same_level : (n : ℕ) (o : Option ℕ) → runs.is_level n o ≡ pane.is_level n o
same_level n None = refl
same_level n (Some level) = refl

-- the DO carries a dependence, by the words of the laws and by those of the rules
pub same_carried : (t : ProgramTree) (s : ℕ) (loop : LoopOf t s) (e : Edge) → runs.is_carried_by t s loop.body e ≡ is_carried_by t s e
same_carried t s loop e =
    let there = λ (k : ℕ). in_body t s loop.head loop.body k loop.is in
    λ i. same_level (level_at t s) e.level i && (sym (there e.source.0) i && sym (there e.sink.0) i)

-- a dependence that the DO carries, and that doesn't forbid the step, is rejected
pub only_rejected : (t : ProgramTree) (s : ℕ) (loop : LoopOf t s) (edges : List Edge) → All (λ e. carried t s e ≡ false) edges → (e : Edge) → IsIn e edges → runs.is_carried_by t s loop.body e ≡ true → e.mark ≡ rejected
only_rejected t s loop edges none e i there =
    by e.mark (is_carried_by t s e) (sym (same_carried t s loop e) ∙ there) (each_of (λ (z : Edge). carried t s z ≡ false) edges e none i)
  where
    by : (m : Mark) (b : Bool) → b ≡ true → (b && not (is_rejected m)) ≡ false → m ≡ rejected
    by rejected b h k = refl
    by proven true h k = absurd (both_ways true k refl)
    by pending true h k = absurd (both_ways true k refl)
    by proven false h k = absurd (both_ways false refl h)
    by pending false h k = absurd (both_ways false refl h)

-- where no dependence forbids the step, none that the DO carries occurs on data on which no rejected one does
pub none_meet : (t : ProgramTree) (s : ℕ) (loop : LoopOf t s) (data_bytes : List ℕ) → IsTrueOn t data_bytes → (edges : List Edge) → AreEdges t edges → All (λ e. carried t s e ≡ false) edges → NoneMeetOn t edges data_bytes s loop.body
none_meet t s loop data_bytes true_on edges are none a b come meets share c there = true_on edges are a b come meets c (only_rejected t s loop edges none c.edge c.listed there)

-- and it carries none where none is rejected
pub none_carried : UnrejectedLaw → (t : ProgramTree) (s : ℕ) (loop : LoopOf t s) (edges : List Edge) → some_rejection t.body ≡ false → AreEdges t edges → All (λ e. carried t s e ≡ false) edges → NoneOfScalarsCarriedBy t edges s loop.body
none_carried law t s loop edges plain are none r listed bare e i from = false_unless (runs.is_carried_by t s loop.body e) (λ there. law t edges plain are e i (only_rejected t s loop edges none e i there))

-- a DO that becomes a PARALLEL DO, or ceases to be one
pub flag_keeps : KeepsLaw → (t : ProgramTree) → IsValid t → (s : ℕ) (loop : LoopOf t s) (flag : Bool) → IsValid (flagged t s flag) → IsContained t s → (flag ≡ loop.head.parallel → ⊥)
    → ((data_bytes : List ℕ) → (loop.head.parallel ≡ false) × (flag ≡ true) → (edges : List Edge) → AreEdges t edges → NoneMeetOn t edges data_bytes s loop.body)
    → ((w : List ℕ) → is_among w (loop_variables (Do loop.head loop.body)) ≡ true → is_written_in t s loop.body w ≡ false) → Keeps t (flagged t s flag)
flag_keeps law t valid s loop flag new_valid contained differ none unwritten =
    law t (flagged t s flag) s loop (record loop.head { parallel = flag }) false (one_for_one_flag t valid s loop flag new_valid contained differ unwritten) (λ data_bytes reordered. none data_bytes (became_parallel t valid s loop flag reordered))

-- what a test of dependences gives for the DO with number s, where it passes none of a program: none that the DO carries occurs on data on which no rejected one does; and where none is rejected, the DO carries none of a scalar
pub record Forbids (s : ℕ) (forbids : ProgramTree → Edge → Bool) : Type 0 where
  pub meet : (t : ProgramTree) → IsValid t → (loop : LoopOf t s) (data_bytes : List ℕ) → IsTrueOn t data_bytes → (edges : List Edge) → AreEdges t edges → All (λ e. forbids t e ≡ false) edges → NoneMeetOn t edges data_bytes s loop.body
  pub scalars : (t : ProgramTree) (loop : LoopOf t s) (edges : List Edge) → some_rejection t.body ≡ false → AreEdges t edges → All (λ e. forbids t e ≡ false) edges → NoneOfScalarsCarriedBy t edges s loop.body

-- that the DO carries a dependence that isn't rejected is such a test
pub carried_forbids : UnrejectedLaw → (s : ℕ) → Forbids s (λ t. carried t s)
carried_forbids unrejected s = record {
  meet = λ t valid loop data_bytes. none_meet t s loop data_bytes;
  scalars = λ t loop edges plain are. none_carried unrejected t s loop edges plain are;
}

module _ (keeps_law : KeepsLaw) (trusted_law : TrustedLaw) (cleared : ClearedLaw) where
  module _ (on_law : KeepsOnLaw) (unwritten_law : UnwrittenLaw) (true_law : TrueLaw) (s : ℕ) (forbids : ProgramTree → Edge → Bool) (test : Forbids s forbids) where
    module _ (t : ProgramTree) (valid : IsValid t) (none : NoRule (StandsAgainstParallel s t)) (free : (edges : List Edge) → AreEdges t edges → All (λ e. forbids t e ≡ false) edges) where
      loop : LoopOf t s
      loop = rules.its_loop is_parallel true s t none

      serial : loop.head.parallel ≡ false
      serial = rules.test_fails is_parallel true s t none loop

      differ : true ≡ loop.head.parallel → ⊥
      differ e = both_ways loop.head.parallel serial (sym e)

      new_valid : IsValid (flagged t s true)
      new_valid = rules.is_valid is_parallel true s t none

      contained : IsContained t s
      contained = rules.is_contained is_parallel true s t none

      meet : (data_bytes : List ℕ) → IsTrueOn t data_bytes → (edges : List Edge) → AreEdges t edges → NoneMeetOn t edges data_bytes s loop.body
      meet data_bytes true_on edges are = test.meet t valid loop data_bytes true_on edges are (free edges are)

      parallel_faithful : IsTrusted t → IsFaithful t (flagged t s true)
      parallel_faithful trusted = record {
        trusted = stays_trusted_flag t valid s loop true contained unwritten trusted_law cleared trusted;
        keeps = flag_keeps keeps_law t valid s loop true new_valid contained differ (λ data_bytes became. meet data_bytes (true_law t data_bytes trusted.unrejected)) unwritten;
      }
        where
          unwritten : (w : List ℕ) → is_among w (loop_variables (Do loop.head loop.body)) ≡ true → is_written_in t s loop.body w ≡ false
          unwritten w among =
              false_unless (is_written_in t s loop.body w) (λ written. some_edges t (λ edges are.
              both_ways (is_written_in t s loop.body w) (unwritten_law t valid edges are s loop (test.scalars t loop edges trusted.unrejected are (free edges are)) w (record { loop = loop; among = among })) written))

      -- with C$PED REJECT lines, on data on which they are true
      parallel_keeps_on : (data_bytes : List ℕ) → IsTidy (flagged t s true) → IsTrueOn t data_bytes → IsRaceFree t data_bytes → KeepsOn t (flagged t s true) data_bytes
      parallel_keeps_on data_bytes new_tidy true_on =
          on_law t (flagged t s true) s loop (record loop.head { parallel = true }) false (one_for_one_flag t valid s loop true new_valid contained differ (unwritten_by_tidy t valid s loop true refl new_tidy)) data_bytes
          (λ reordered. meet data_bytes true_on)

    -- the step that such a test of dependences forbids
    pub lawful_by_test : IsLawful (step_by transformation s (StandsAgainstParallel s) forbids (MakesParallel s))
    lawful_by_test = record {
      one_cause = λ t c d p q. one_cause t (StandsAgainstParallel s t) (forbids t) (rules.chain is_parallel true s t).one c d p q;
      one_made = rules.one_made is_parallel true s;
      one_to_one = λ t new keep p. subst IsOneToOne (sym p.1) (all_one_to_one t);
      some_made = λ t valid none. (flagged t s true, all_kept t, (refl, refl), rules.is_valid is_parallel true s t none.0);
      keeps = λ t new keep valid none p trusted. subst (IsFaithful t) (sym p.0) (parallel_faithful t valid none.0 none.1 trusted);
      keeps_on = λ t new keep data_bytes valid none p kind tidy new_tidy true_on true_for free.
          subst (λ (u : ProgramTree). KeepsOn t u data_bytes) (sym p.0) (parallel_keeps_on t valid none.0 none.1 data_bytes (subst IsTidy p.0 new_tidy) true_on free);
    }

  pub lawful_parallel : KeepsOnLaw → UnwrittenLaw → UnrejectedLaw → TrueLaw → (s : ℕ) → IsLawful (paralleling s)
  lawful_parallel on_law unwritten_law unrejected true_law s = lawful_by_test on_law unwritten_law true_law s (λ t. carried t s) (carried_forbids unrejected s)
