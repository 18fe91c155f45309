-- Evidence: claims with certificates, and the vectors of dependences that they disprove (this project).
use Rattle.std.specs.Prelude.{◌≡◌, ℕ, List, Bool, true, false, ◌&&◌, ◌==◌}
use Rattle.std.specs.List.{list_any}
use Rattle.std.specs.Option.{option_map_or}
use Rattle.ped_certificates.specs.declared.systems.Step.{Step}
use Rattle.ped_certificates.specs.Certificates.{refutes}
use Rattle.ped_views.specs.declared.directions.Direction.{Direction}
use Rattle.ped_tree.specs.Tree.{ProgramTree}
use Rattle.ped_laws.specs.ped_store.specs.Races.{Access, conflict}
use Rattle.ped_laws.specs.ped_edges.specs.Edges.{Edge}
use Rattle.ped_laws.specs.Conflicts.Covered.{ComeInRun}
use Rattle.ped_laws.specs.Conflicts.Directions.{StandInDirections, share_a_loop}
use Rattle.ped_evidence.specs.Signs.{fits}
use Rattle.ped_evidence.specs.Claims.{Claim, claimed, system}

-- a line of evidence: a claim, and the steps of its certificate
pub record Line : Type 0 where
  pub claim : Claim
  pub steps : List Step

-- a line holds in a program: it speaks of a pair, and its steps refute the pair's system (this project)
abbrev pub holds : ProgramTree → Line → Bool
holds t line = option_map_or (λ pair. refutes (system t pair.0 pair.1 line.claim.pattern) line.steps) (claimed t line.claim) false

-- the same place (plain words)
abbrev pub same_place : ℕ × ℕ → ℕ × ℕ → Bool
same_place a b = (a.0 == b.0) && (a.1 == b.1)

-- a line speaks of a dependence in these directions: from its source to its sink, in directions that its pattern fits (this project)
abbrev pub speaks_of : Line → Edge → List Direction → Bool
speaks_of line e v = same_place line.claim.source e.source && same_place line.claim.sink e.sink && fits line.claim.pattern v

-- evidence disproves a vector of a dependence: a line of it holds and speaks of it (this project)
abbrev pub disproves : ProgramTree → List Line → Edge → List Direction → Bool
disproves t evidence e v = list_any (λ line. speaks_of line e v && holds t line) evidence

-- no two accesses of a run of the program, by the references at these places, conflict in one execution of an outermost DO in these directions (Allen and Kennedy, sections 2.2.1, 2.2.4)
abbrev pub NeverMeet : ProgramTree → ℕ × ℕ → ℕ × ℕ → List Direction → Type 0
NeverMeet t from to vector =
    (data_bytes : List ℕ) (a b : Access) → ComeInRun t data_bytes a b → conflict a b ≡ true → share_a_loop a.place.turns b.place.turns ≡ true
    → (a.place.statement, a.reference) ≡ from → (b.place.statement, b.reference) ≡ to → StandInDirections t a.place.turns b.place.turns vector → ⊥
