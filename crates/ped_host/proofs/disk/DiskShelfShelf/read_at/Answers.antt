use Rattle.std.proofs.Common.{[], ◌∷◌, ap, ◌∙◌}
use Rattle.ped_host.specs.Reads.{names_of}
use Rattle.ped_host.proofs.disk.DiskShelfShelf.read_at.Goals as goal

-- whatever comes of the read, its name is noted and no other
pub returns-in-Ok-clause-names : goal.returns-in-Ok-clause-names
returns-in-Ok-clause-names g c =
    let name = c.as_bytes.result.now in
    (name ∷ [], ap names_of c.note.ensures ∙ ap (λ log. name ∷ names_of log.events) c.read_on.ensures.log, (c.as_bytes.ensures.value, tt))

pub returns-in-Err-clause-names : goal.returns-in-Err-clause-names
returns-in-Err-clause-names g c =
    let name = c.as_bytes-in-Err.result.now in
    (name ∷ [], ap names_of c.note-in-Err.ensures ∙ ap (λ log. name ∷ names_of log.events) c.read_on.ensures.log, (c.as_bytes-in-Err.ensures.value, tt))

pub returns-in-Err-2-clause-names : goal.returns-in-Err-2-clause-names
returns-in-Err-2-clause-names g c =
    let name = c.as_bytes-in-Err-2.result.now in
    (name ∷ [], ap names_of c.note-in-Err-2.ensures ∙ ap (λ log. name ∷ names_of log.events) c.read_on.ensures.log, (c.as_bytes-in-Err-2.ensures.value, tt))
