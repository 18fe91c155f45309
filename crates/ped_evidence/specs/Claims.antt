-- What evidence may speak of: pairs of references to elements, and the systems of these pairs (this project).
use Rattle.std.specs.Prelude.{ℕ, List, [], ◌∷◌, length, Bool, ◌&&◌, ◌==◌, Option, Some, None, option_and_then, if◌then◌else◌}
use Rattle.ped_base.specs.Lists.{has_some}
use Rattle.ped_certificates.specs.declared.systems.System.{System}
use Rattle.ped_tree.specs.Tree.{ProgramTree}
use Rattle.ped_tree.specs.Nests.{common_nest}
use Rattle.ped_refs.specs.References.{Reference, references, outermost, is_pair}
use Rattle.ped_laws.specs.ped_graph.specs.Dependences.{setting_in, site_of}
use Rattle.ped_certificates.specs.declared.claims.Sign.{Sign}
use Rattle.ped_evidence.specs.Systems.{system_at}

-- of whom evidence speaks: the places of the source and of the sink, and a pattern of their directions
pub record Claim : Type 0 where
  pub source : ℕ × ℕ
  pub sink : ℕ × ℕ
  pub pattern : List Sign

-- a reference is at this place (plain words)
abbrev pub is_at : ℕ × ℕ → Reference → Bool
is_at place r = (r.statement == place.0) && (r.number == place.1)

-- the reference at a place
abbrev pub reference_at : List Reference → ℕ × ℕ → Option Reference
reference_at [] place = None
reference_at (r ∷ rs) place = if is_at place r then Some r else reference_at rs place

-- evidence may speak of two references with a pattern of so many places: both are elements of one array, at least one of them writes, they have a common loop, and the pattern has a sign for each (Allen and Kennedy, section 2.2.1; this project)
abbrev pub may_speak : Reference → Reference → List Sign → Bool
may_speak r q pattern =
    is_pair r q && has_some r.access.subscripts && has_some q.access.subscripts && (length pattern == length (common_nest r.nest q.nest))

-- the pair, where evidence may speak of it
abbrev pub if_spoken : List Sign → Reference → Reference → Option (Reference × Reference)
if_spoken pattern r q = if may_speak r q pattern then Some (r, q) else None

-- the pair of references of which a claim speaks; none where evidence may not speak of them
abbrev pub claimed : ProgramTree → Claim → Option (Reference × Reference)
claimed t c =
    option_and_then (λ r. option_and_then (λ q. if_spoken c.pattern r q) (reference_at (references t) c.sink)) (reference_at (references t) c.source)

-- the system of a pair of references of a program and a pattern: in the setting of the outermost DO round the source (this project)
abbrev pub system : ProgramTree → Reference → Reference → List Sign → System
system t r q pattern = system_at (setting_in t (outermost r)) (site_of r) (site_of q) pattern
