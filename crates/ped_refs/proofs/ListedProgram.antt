-- The list of the references of a program.
use Rattle.std.proofs.Common.{◌≡◌, ℕ, ◌<◌, ◌≤◌, List, length, take, get_or, ap, ◌∙◌, arith}
use Rattle.std.proofs.lemmas.List.{length-map, get_or-map, take_all}
use Rattle.ped_tree.specs.Tree.{ProgramTree}
use Rattle.ped_refs.specs.References.{Reference, references}
use Rattle.ped_refs.specs.ListedReferences.{ref_of, AreInOrder}
use Rattle.ped_refs.specs.Tallies.{AreListed}
use Rattle.ped_refs.specs.declared.references.Ref.{Ref}
use Rattle.ped_refs.specs.declared.references.Refs.{Refs}
use Rattle.ped_refs.proofs.TextOrder.{references_numbered}

-- the references of a program are listed
pub program_listed : (t : ProgramTree) (refs : Refs) → AreInOrder t refs → AreListed (references t) refs
program_listed t refs h = record { items = h.items; outer = h.outer; numbered = references_numbered t }

-- the list is as long as there are references
pub length-listed : (t : ProgramTree) (refs : Refs) → AreInOrder t refs → length refs.items ≡ length (references t)
length-listed t refs h = ap length h.items ∙ length-map (references t) ref_of

-- the statement of a reference in the list
pub statement_at : (t : ProgramTree) (refs : Refs) (items : List Ref) (i : ℕ) (d : Reference) (x : Ref) → AreInOrder t refs → items ≡ refs.items → i < length (references t)
    → (get_or items i x).statement ≡ (get_or (references t) i d).statement
statement_at t refs items i d x h are within =
    ap (λ (xs : List Ref). (get_or xs i x).statement) (are ∙ h.items) ∙ ap (λ (r : Ref). r.statement) (get_or-map ref_of (references t) i d x within)

-- as many references as the list has are all
pub all_taken : (t : ProgramTree) (refs : Refs) (i : ℕ) → AreInOrder t refs → length refs.items ≤ i → take i (references t) ≡ references t
all_taken t refs i h long = take_all i (references t) (omega (arith, length-listed t refs h, long))
