-- What is known of a valid program: few statements and references, few loops round each.
use Rattle.std.proofs.Common.{◌≡◌, ℕ, ◌≤◌, ◌<◌, ◌^◌, List, [], ◌∷◌, map, length, suc, refl, ap, subst, sym, arith}
use Rattle.std.specs.Prelude.{All}
use Rattle.std.specs.List.{AllByRecursion}
use Rattle.std.proofs.lemmas.List.Elements.{All-from_recursion}
use Rattle.ped_tree.specs.Tree.{ProgramTree}
use Rattle.ped_tree.specs.Numbering.{statements_count}
use Rattle.ped_symbols.specs.NameRefusals.{IsValid}
use Rattle.ped_refs.specs.References.{Reference, references}
use Rattle.ped_refs.specs.Loops.{loop_of}
use Rattle.ped_refs.specs.Occurrences.{reference_of, references_of}
use Rattle.ped_refs.specs.declared.occurring.Occurrence.{Occurrence}
use Rattle.ped_refs.specs.Sizes.Sizes.{IsSmall}
use Rattle.ped_refs.proofs.SizeLaws.Small.{small_program}

mapped_length : {A B : Type 0} (f : A → B) (xs : List A) → length (map f xs) ≡ length xs
mapped_length f [] = refl
mapped_length f (x ∷ xs) = ap suc (mapped_length f xs)

-- a valid program is small
pub small_valid : (t : ProgramTree) → IsValid t → IsSmall t
small_valid t v = small_program t v.fits

pub few_statements : (t : ProgramTree) → IsValid t → statements_count t.body < 2 ^ 32
few_statements t v = let few = (small_valid t v).few_statements in omega (arith, few)

pub few_references : (t : ProgramTree) → IsValid t → length (references t) < 2 ^ 32
few_references t v = let few = (small_valid t v).few_references in omega (arith, few)

shallow : (found : List Occurrence) → AllByRecursion (λ (r : Reference). length r.nest ≤ 6) (map reference_of found) → AllByRecursion (λ (o : Occurrence). length o.nest.items ≤ 6) found
shallow [] h = tt
shallow (o ∷ rest) h = (subst (λ (n : ℕ). n ≤ 6) (mapped_length loop_of o.nest.items) h.0, shallow rest h.1)

-- few loops stand round each reference that was found
pub shallow_found : (t : ProgramTree) (found : List Occurrence) → IsValid t → references_of found ≡ references t → All (λ (o : Occurrence). length o.nest.items ≤ 6) found
shallow_found t found v e = All-from_recursion _ found (shallow found (subst (AllByRecursion (λ (r : Reference). length r.nest ≤ 6)) (sym e) (small_valid t v).shallow))
