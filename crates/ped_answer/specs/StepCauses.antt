-- What forbids each step: the rules that may forbid it, and the dependences that it may not pass over (ParaScope; this project).
use Rattle.std.specs.Prelude.{◌≡◌, ℕ, List, Contains, Bool, true}
use Rattle.ped_tree.specs.Tree.{ProgramTree}
use Rattle.ped_session.specs.ped_rules.specs.ped_edges.specs.Edges.{Edge}
use Rattle.ped_session.specs.ped_graph.specs.Dependences.{AreEdges}
use Rattle.ped_script.specs.declared.kinds.WhichStep.{WhichStep}
use Rattle.ped_script.specs.declared.kinds.WhichStep.TheVariants.{Interchange, InterchangeBy, Reverse, ReverseBy, Skew, Strip, Peel, Distribute, Fuse, Inline, Expand, Privatise, Reduce, Parallel, ParallelBy, Serial, Reject}
use Rattle.ped_session.specs.ped_transformations.specs.ped_reduce.specs.Reducing.{StandsAgainstReducing, carried_beside}
use Rattle.ped_session.specs.ped_transformations.specs.ped_inline.specs.Inlining.{StandsAgainstInlining}
use Rattle.ped_session.specs.ped_transformations.specs.ped_splits.specs.Distributing.{StandsAgainstDistribution}
use Rattle.ped_session.specs.ped_transformations.specs.ped_splits.specs.Fusing.{Match, StandsAgainstFusion, AreBack, forbids_fusion, with_present_numbers}
use Rattle.ped_session.specs.ped_transformations.specs.ped_splits.specs.Neighbours.{next_number}
use Rattle.ped_session.specs.ped_transformations.specs.ped_reindex.specs.Skewing.{StandsAgainstSkewing}
use Rattle.ped_session.specs.ped_transformations.specs.ped_reindex.specs.Stripping.{StandsAgainstStripping}
use Rattle.ped_session.specs.ped_transformations.specs.ped_reindex.specs.Peeling.{StandsAgainstPeeling}
use Rattle.ped_session.specs.ped_transformations.specs.ped_loops.specs.Interchanging.{StandsAgainstInterchange}
use Rattle.ped_session.specs.ped_transformations.specs.ped_loops.specs.Reversing.{StandsAgainstReversal}
use Rattle.ped_session.specs.ped_rules.specs.Paralleling.{StandsAgainstParallel}
use Rattle.ped_session.specs.ped_transformations.specs.ped_loops.specs.Serialising.{StandsAgainstSerial}
use Rattle.ped_session.specs.ped_transformations.specs.ped_loops.specs.ByEvidence.{carried_open, crossing_open}
use Rattle.ped_session.specs.ped_transformations.specs.ped_evidence.specs.Lines.{lines_of}
use Rattle.ped_session.specs.ped_transformations.specs.ped_loops.specs.Rejecting.{StandsAgainstRejection}
use Rattle.ped_session.specs.ped_transformations.specs.ped_scalar.specs.Privatising.{StandsAgainstPrivatising}
use Rattle.ped_session.specs.ped_transformations.specs.ped_scalar.specs.Expanding.{StandsAgainstExpanding}
use Rattle.ped_session.specs.ped_rules.specs.Carried.{carried, crossing}
use Rattle.ped_session.specs.ped_steps.specs.Causes.{Rules, Cause, rule, dependence, none_forbids}

-- a rule against a step, or a dependence of the program that forbids it (ParaScope)
abbrev pub IsAmong : ProgramTree → Rules → (Edge → Bool) → Cause → Type 0
IsAmong t stands forbids (rule r n) = stands r n
IsAmong t stands forbids (dependence e) = (edges : List Edge) × AreEdges t edges × Contains edges e × (forbids e ≡ true)

-- a rule against fusion, or a dependence of the one DO that both would become which leads back and which that DO carries; it is reported with the present numbers (Allen and Kennedy, section 6.2.5)
abbrev pub IsAmongFused : (s : ℕ) → ProgramTree → Cause → Type 0
IsAmongFused s t (rule r n) = StandsAgainstFusion s t r n
IsAmongFused s t (dependence e) =
    (m : Match t s) × (edges : List Edge) × AreBack m.neighbour edges × (f : Edge) × Contains edges f × (forbids_fusion m.neighbour f ≡ true) × (e ≡ with_present_numbers (next_number m.neighbour) f)

-- what forbids a step at a statement of a program: a rule that holds, or a dependence that it may not pass over, which five steps have, since they change the order of iterations: `interchange`, `reverse`, `parallel`, `reduce` and `fuse`; with evidence, one that this leaves open. One row for each step of the table of steps (Allen and Kennedy, sections 2.2.5, 5.2, 5.6; ParaScope)
abbrev pub Forbids : ℕ → WhichStep → ProgramTree → Cause → Type 0
Forbids s Interchange t c = IsAmong t (StandsAgainstInterchange s t) (crossing t s) c
Forbids s (InterchangeBy evidence) t c = IsAmong t (StandsAgainstInterchange s t) (crossing_open t s (lines_of evidence)) c
Forbids s Reverse t c = IsAmong t (StandsAgainstReversal s t) (carried t s) c
Forbids s (ReverseBy evidence) t c = IsAmong t (StandsAgainstReversal s t) (carried_open t s (lines_of evidence)) c
Forbids s Parallel t c = IsAmong t (StandsAgainstParallel s t) (carried t s) c
Forbids s (ParallelBy evidence) t c = IsAmong t (StandsAgainstParallel s t) (carried_open t s (lines_of evidence)) c
Forbids s (Reduce names) t c = IsAmong t (StandsAgainstReducing s names t) (carried_beside t s names) c
Forbids s Serial t c = IsAmong t (StandsAgainstSerial s t) none_forbids c
Forbids s (Skew factor) t c = IsAmong t (StandsAgainstSkewing s factor t) none_forbids c
Forbids s (Strip size) t c = IsAmong t (StandsAgainstStripping s size t) none_forbids c
Forbids s (Peel last) t c = IsAmong t (StandsAgainstPeeling s last t) none_forbids c
Forbids s Distribute t c = IsAmong t (StandsAgainstDistribution s t) none_forbids c
Forbids s Fuse t c = IsAmongFused s t c
Forbids s Inline t c = IsAmong t (StandsAgainstInlining s t) none_forbids c
Forbids s (Expand x) t c = IsAmong t (StandsAgainstExpanding s x t) none_forbids c
Forbids s (Privatise x) t c = IsAmong t (StandsAgainstPrivatising s x t) none_forbids c
Forbids s (Reject x) t c = IsAmong t (StandsAgainstRejection s x t) none_forbids c
