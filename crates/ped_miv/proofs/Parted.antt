-- What a loop adds, read by its place and direction.
use Rattle.std.proofs.Common.{◌≡◌, ℕ, ◌<◌, ap, sym, subst, ◌∙◌, ℤ, pos, List, length, get_or, Some}
use Rattle.std.proofs.lemmas.List.{get_or_default}
use Rattle.ped_views.specs.declared.directions.Direction.{Direction}
use Rattle.ped_views.specs.declared.directions.Direction.TheVariants.{Before, Same, After}
use Rattle.ped_views.specs.Views.{Range}
use Rattle.ped_miv.specs.declared.parts.LoopParts.{LoopParts}
use Rattle.ped_miv.specs.Parts.{IsPart, AreParts, ArePartsAt, part_of}

pub in_direction : (r : Range) (a b : ℤ) (parts : LoopParts) → AreParts r a b parts → (d : Direction) → IsPart r (Some d) a b (part_of d parts)
in_direction r a b parts h Before = h.before
in_direction r a b parts h Same = h.same
in_direction r a b parts h After = h.after

pub of_place : (loops all : List Range) (source sources sink sinks : List ℤ) (k : ℕ) (q : Range) (parts : LoopParts) → loops ≡ all → k < length all → q ≡ get_or loops k q → source ≡ sources → sink ≡ sinks → AreParts q (get_or source k (pos 0)) (get_or sink k (pos 0)) parts → ArePartsAt all sources sinks k parts
of_place loops all source sources sink sinks k q parts el below eq es ek h r is =
    let same : q ≡ r = eq ∙ ap (λ (xs : List Range). get_or xs k q) el ∙ get_or_default all k q r below ∙ sym is in
    subst (λ (x : Range). AreParts x (get_or sources k (pos 0)) (get_or sinks k (pos 0)) parts) same
    (subst (λ (xs : List ℤ). AreParts q (get_or xs k (pos 0)) (get_or sinks k (pos 0)) parts) es
    (subst (λ (xs : List ℤ). AreParts q (get_or source k (pos 0)) (get_or xs k (pos 0)) parts) ek h))
