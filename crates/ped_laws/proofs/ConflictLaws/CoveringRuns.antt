-- Accesses of a run that conflict are made by references that meet, and the dependences of the program cover them.
use Rattle.std.proofs.Common.{◌≡◌, ℕ, ◌<◌, List, [], ◌∷◌, ◌++◌, length, true, ◌||◌, refl, sym, ap, ◌∙◌, subst, inl, inr, if◌then◌else◌}
use Rattle.std.specs.Prelude.{◌==◌}
use Rattle.std.proofs.lemmas.Bool.{and_parts}
use Rattle.ped_graph.specs.ped_views.specs.declared.directions.Direction.{Direction}
use Rattle.ped_graph.specs.ped_views.specs.Vectors.{IsPossible}
use Rattle.ped_flow.specs.ped_tree.specs.Tree.{ProgramTree}
use Rattle.ped_flow.specs.ped_tree.specs.Nests.{Loop}
use Rattle.ped_graph.specs.ped_symbols.specs.NameRefusals.{IsValid}
use Rattle.ped_graph.specs.ped_refs.specs.References.{Reference, references, outermost_number, outermost}
use Rattle.ped_graph.specs.ped_edges.specs.Edges.{Edge}
use Rattle.ped_graph.specs.Dependences.{setting_in, view_of, AreEdges}
use Rattle.ped_eval.specs.ped_store.specs.Cells.{same_cell}
use Rattle.ped_eval.specs.ped_store.specs.Stores.{Store}
use Rattle.ped_eval.specs.ped_store.specs.Acts.{Turn}
use Rattle.ped_eval.specs.ped_store.specs.Races.{Access, accesses, conflict, are_apart}
use Rattle.ped_laws.specs.Acts.Orders.{IsIn}
use Rattle.ped_laws.proofs.ActLaws.Lists.{in_right}
use Rattle.ped_eval.specs.Scopes.{Scope}
use Rattle.ped_eval.specs.Outcomes.{run_of}
use Rattle.ped_laws.specs.Conflicts.Making.{IsMade, AreMade}
use Rattle.ped_laws.specs.Conflicts.Sequence.{ComesBefore}
use Rattle.ped_laws.specs.Conflicts.Directions.{StandInDirections, share_a_loop}
use Rattle.ped_laws.specs.Conflicts.Covered.{ComeInRun, IsCovered, IsCarriedInParallel}
use Rattle.ped_laws.proofs.ConflictLaws.CoveringNests.{AreOf, reached_are}
use Rattle.ped_laws.proofs.ConflictLaws.CoveringDirections.{have_directions, numbers_are}
use Rattle.ped_laws.proofs.ConflictLaws.CoveringConflicts.{IsCoveredAt, AreMet, covered_at}

-- what is known of accesses: which references make them, in which order they come, and that directions of equal cells are possible
abbrev pub MakingLaw : Type 0
MakingLaw = (t : ProgramTree) (data_bytes : List ℕ) → IsValid t → (first : ℕ → Store) × AreMade t data_bytes first

abbrev pub SequenceLaw : Type 0
SequenceLaw = (t : ProgramTree) (data_bytes : List ℕ) (a b : Access) → IsValid t → ComeInRun t data_bytes a b → 0 < a.reference → 0 < b.reference → ComesBefore t a b a.place.turns b.place.turns

abbrev pub PossibleLaw : Type 0
PossibleLaw =
    (t : ProgramTree) (first : Store) (a b : Access) (source sink : Reference) (at_source at_sink : Scope) (u v : Store) (vector : List Direction)
    → IsValid t → IsMade t first a source at_source u → IsMade t first b sink at_sink v → share_a_loop a.place.turns b.place.turns ≡ true → same_cell a.cell b.cell ≡ true → StandInDirections t a.place.turns b.place.turns vector
    → IsPossible (view_of t source sink) vector × (length vector ≡ length (view_of t source sink).loops)

pub first_comes : (t : ProgramTree) (data_bytes : List ℕ) (a b : Access) → ComeInRun t data_bytes a b → IsIn a (accesses (run_of t data_bytes).acts)
first_comes t data_bytes a b h = subst (λ (xs : List Access). IsIn a xs) (sym h.is) (in_right a h.before (a ∷ (h.between ++ b ∷ h.behind)) (inl refl))

pub second_comes : (t : ProgramTree) (data_bytes : List ℕ) (a b : Access) → ComeInRun t data_bytes a b → IsIn b (accesses (run_of t data_bytes).acts)
second_comes t data_bytes a b h = subst (λ (xs : List Access). IsIn b xs) (sym h.is) (in_right b h.before (a ∷ (h.between ++ b ∷ h.behind)) (inr (in_right b h.between (b ∷ h.behind) (inl refl))))

-- both stand in a DO, and the outermost ones are one
record ShareOutermost (is js : List Turn) : Type 0 where
  source : Turn
  source_inner : List Turn
  sink : Turn
  sink_inner : List Turn
  of_source : is ≡ source ∷ source_inner
  of_sink : js ≡ sink ∷ sink_inner
  same : source.statement ≡ sink.statement

shared : (is js : List Turn) → share_a_loop is js ≡ true → ShareOutermost is js
shared [] js h = absurd cc
shared (i ∷ is) [] h = absurd cc
shared (i ∷ is) (j ∷ js) h = record { source = i; source_inner = is; sink = j; sink_inner = js; of_source = refl; of_sink = refl; same = numbers_are i.statement j.statement h }

outermost_is : (t : ProgramTree) (nest : List Loop) (i : Turn) (is : List Turn) → AreOf t nest (i ∷ is) → outermost_number nest ≡ i.statement
outermost_is t [] i is h = absurd h
outermost_is t (l ∷ ls) i is h = sym h.0.statement

made_in : (t : ProgramTree) (first : Store) (a : Access) (r : Reference) (scope : Scope) (u : Store) (i : Turn) (is : List Turn) → IsMade t first a r scope u → a.place.turns ≡ i ∷ is → outermost r ≡ i.statement
made_in t first a r scope u i is m e = outermost_is t r.nest i is (subst (AreOf t r.nest) (sym m.turns ∙ e) (reached_are t (setting_in t (outermost r)) first r.nest scope m.reached))

-- the references that make two accesses, which meet
pub record Makers (t : ProgramTree) (a b : Access) : Type 0 where
  pub first : Store
  pub source : Reference
  pub sink : Reference
  pub met : AreMet t first a b source sink

-- the references of two accesses, and what covers them
abbrev pub Covers : ProgramTree → List Edge → Access → Access → Type 0
Covers t edges a b =
    (source : Reference) × (sink : Reference) × IsIn source (references t) × IsCoveredAt t edges a b source sink × (a.place.statement ≡ source.statement) × (a.reference ≡ source.number) × (b.place.statement ≡ sink.statement) × (b.reference ≡ sink.number)

module _ (made : MakingLaw) (sequence : SequenceLaw) where
  -- conflicting accesses in one execution of a DO are made by references
  pub makers : (t : ProgramTree) (data_bytes : List ℕ) (a b : Access) → IsValid t → ComeInRun t data_bytes a b → conflict a b ≡ true → 0 < a.reference → 0 < b.reference → share_a_loop a.place.turns b.place.turns ≡ true → Makers t a b
  makers t data_bytes a b valid come meets one other share =
      let all = made t data_bytes valid in
      let s = shared a.place.turns b.place.turns share in
      let x = all.1 a s.source s.source_inner (first_comes t data_bytes a b come) one s.of_source in
      let y = all.1 b s.sink s.sink_inner (second_comes t data_bytes a b come) other s.of_sink in
      let same : outermost y.0 ≡ outermost x.0 = made_in t (all.0 (outermost y.0)) b y.0 y.1 y.2 s.sink s.sink_inner y.3 s.of_sink ∙ sym s.same ∙ sym (made_in t (all.0 (outermost x.0)) a x.0 x.1 x.2 s.source s.source_inner x.3 s.of_source) in
      let parts = and_parts (same_cell a.cell b.cell) (a.writes || b.writes) meets in
      record {
        first = all.0 (outermost x.0);
        source = x.0;
        sink = y.0;
        met = record {
          at_source = x.1;
          at_sink = y.1;
          before = x.2;
          behind = y.2;
          made = x.3;
          makes = subst (λ (n : ℕ). IsMade t (all.0 n) b y.0 y.1 y.2) same y.3;
          same = parts.0;
          write = parts.1;
          share = share;
          order = sequence t data_bytes a b valid come one other;
        };
      }

module _ (made : MakingLaw) (sequence : SequenceLaw) (possible : PossibleLaw) where
  pub covers : (t : ProgramTree) (data_bytes : List ℕ) (a b : Access) (edges : List Edge) → IsValid t → ComeInRun t data_bytes a b → conflict a b ≡ true → 0 < a.reference → 0 < b.reference → share_a_loop a.place.turns b.place.turns ≡ true → AreEdges t edges → Covers t edges a b
  covers t data_bytes a b edges valid come meets one other share are =
      let by = makers made sequence t data_bytes a b valid come meets one other share in
      let m = by.met in
      let d = have_directions t a.place.turns b.place.turns in
      let p = possible t by.first a b by.source by.sink m.at_source m.at_sink m.before m.behind d.0 valid m.made m.makes share m.same d.1 in
      (by.source, by.sink, m.made.listed, covered_at t by.first a b by.source by.sink m edges d.0 d.1 p.0 p.1 are, m.made.statement, m.made.number, m.makes.statement, m.makes.number)

  -- conflicts of references in one execution of a DO are covered
  pub conflicts_covered : (t : ProgramTree) (data_bytes : List ℕ) (a b : Access) (edges : List Edge) → IsValid t → ComeInRun t data_bytes a b → conflict a b ≡ true → 0 < a.reference → 0 < b.reference → share_a_loop a.place.turns b.place.turns ≡ true → AreEdges t edges → IsCovered t edges a b
  conflicts_covered t data_bytes a b edges valid come meets one other share are =
      let c = covers t data_bytes a b edges valid come meets one other share are in
      let k = c.3 in
      record {
        edge = k.between.edge;
        listed = k.between.listed;
        source = k.between.from ∙ (λ i. (sym c.4 i, sym c.5 i));
        sink = k.between.to ∙ (λ i. (sym c.6 i, sym c.7 i));
        vector = k.vector;
        contains = k.between.contains;
        stands = k.stands;
      }

  -- races of references are carried by a PARALLEL DO
  apart_share : (is js : List Turn) → are_apart is js ≡ true → share_a_loop is js ≡ true
  apart_share [] js h = absurd cc
  apart_share (i ∷ is) [] h = absurd cc
  apart_share (i ∷ is) (j ∷ js) h = (and_parts (i.statement == j.statement) (if i.number == j.number then are_apart is js else i.parallel) h).0

  pub races_of_references : (t : ProgramTree) (data_bytes : List ℕ) (a b : Access) (edges : List Edge) → IsValid t → ComeInRun t data_bytes a b → are_apart a.place.turns b.place.turns ≡ true → conflict a b ≡ true → 0 < a.reference → 0 < b.reference → AreEdges t edges → IsCarriedInParallel t edges a.place.statement b.place.statement
  races_of_references t data_bytes a b edges valid come apart meets one other are =
      let c = covers t data_bytes a b edges valid come meets one other (apart_share a.place.turns b.place.turns apart) are in
      let k = c.3 in
      let p = k.parallel apart in
      record {
        edge = k.between.edge;
        listed = k.between.listed;
        reference = c.0;
        of_program = c.2;
        source = k.between.from;
        first_statement = ap (λ (z : ℕ × ℕ). z.0) k.between.from ∙ sym c.4;
        second_statement = ap (λ (z : ℕ × ℕ). z.0) k.between.to ∙ sym c.6;
        level = p.0;
        carried = k.between.of_level ∙ p.1;
        parallel = p.2;
      }
