-- A race that is reported has a dependence that a PARALLEL DO carries.
use Rattle.std.proofs.Common.{◌≡◌, ℕ, List, ◌∷◌, subst, ◌∙◌, append_assoc}
use Rattle.ped_tree.specs.Tree.{ProgramTree}
use Rattle.ped_store.specs.Races.{Access}
use Rattle.ped_laws.specs.ped_edges.specs.Edges.{Edge}
use Rattle.ped_laws.specs.Conflicts.Covered.{ComeInRun, IsCarriedInParallel}
use Rattle.ped_order.specs.Reports.{Report, NoRace, Race, Fault, IsReport}
use Rattle.ped_order.specs.CarriedRaces.{IsCarried}

-- what a law on two accesses that race says, as it is cited
abbrev pub RacesCovered : ProgramTree → List ℕ → List Edge → Type 0
RacesCovered t data_bytes edges = (a b : Access) → ComeInRun t data_bytes a b → Rattle.ped_store.specs.Races.race a b ≡ Rattle.std.specs.Prelude.true → IsCarriedInParallel t edges a.place.statement b.place.statement

pub reported_carried : (t : ProgramTree) (data_bytes : List ℕ) (edges : List Edge) → RacesCovered t data_bytes edges → (r : Report) → IsReport t data_bytes r → IsCarried t edges r
reported_carried t data_bytes edges covered NoRace h = cc
reported_carried t data_bytes edges covered (Fault number statement) h = cc
reported_carried t data_bytes edges covered (Race cell earlier later) h =
    subst (λ (n : ℕ). IsCarriedInParallel t edges n later) h.by
    (subst (λ (n : ℕ). IsCarriedInParallel t edges h.first.place.statement n) h.with (covered h.first h.second (record { before = h.race.before; between = h.race.between; behind = h.race.behind; is = h.race.order ∙ append_assoc h.race.before (h.first ∷ h.race.between) (h.second ∷ h.race.behind) }) h.race.races))
