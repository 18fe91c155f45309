-- References with what is around them, as the code keeps them, and the places of pairs among them (this project).
use Rattle.std.specs.Prelude.{ℕ, ◌<◌, List, map, codes, Option, Some, None, slice_get}
use Rattle.ped_tree.specs.Views.{expr_tree}
use Rattle.ped_refs.specs.References.{Reference}
use Rattle.ped_refs.specs.Loops.{nest_of}
use Rattle.ped_refs.specs.declared.references.RefName.{RefName}
use Rattle.ped_refs.specs.declared.references.RefName.TheVariants.{Named, In, Out}
use Rattle.ped_refs.specs.declared.occurring.Occurrence.{Occurrence}
use Rattle.ped_refs.specs.declared.pairing.Pair.{Pair}

-- the text of a name; the data lines and the output have names that no variable has
abbrev pub name_text : RefName → List ℕ
name_text (Named x) = x
name_text In = codes "(IN)"
name_text Out = codes "(OUT)"

-- the reference that the code keeps
abbrev pub reference_of : Occurrence → Reference
reference_of o = record {
  statement = o.statement;
  number = o.number;
  access = record { name = name_text o.name; writes = o.writes; subscripts = map expr_tree o.subscripts.now };
  nest = nest_of o.nest.items;
}

-- the references that the code keeps
abbrev pub references_of : List Occurrence → List Reference
references_of found = map reference_of found

-- two references, where both are there
abbrev pub both : Option Reference → Option Reference → Option (Reference × Reference)
both (Some source) (Some sink) = Some (source, sink)
both (Some source) None = None
both None sink = None

-- the references at the places of a pair, where the first reference has place 0
abbrev pub pair_at : List Reference → Pair → Option (Reference × Reference)
pair_at refs p = both (slice_get refs p.source) (slice_get refs p.sink)

-- both places of a pair are below this number of places
pub record IsWithin (count : ℕ) (p : Pair) : Type 0 where
  pub source : p.source < count
  pub sink : p.sink < count
