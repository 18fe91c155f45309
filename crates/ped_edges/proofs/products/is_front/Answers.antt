use Rattle.std.proofs.Common.{◌≡◌, Bool, List, sym, ◌∙◌}
use Rattle.std.specs.Prelude.{IsTrue, ◌↔◌}
use Rattle.ped_views.specs.declared.directions.Direction.{Direction}
use Rattle.ped_edges.specs.Rows.{are_signs}
use Rattle.ped_edges.specs.CodeSigns.{front_of}
use Rattle.ped_edges.proofs.Directions.{directions_are, are_signs-decides}
use Rattle.ped_edges.proofs.products.is_front.Goals as goal

-- what the test of a vector tells
told : (r : Bool) (vector directions front : List Direction) → directions ≡ vector → r ≡ are_signs directions front → IsTrue r ↔ (vector ≡ front)
told r vector directions front e h =
    let d = are_signs-decides directions front in
    (λ t. sym e ∙ d.0 (sym h ∙ t), λ f. h ∙ d.1 (e ∙ f))

pub returns : goal.returns
returns c =
    let front = front_of c.args.front.now in
    let directions = c.directions.result.now in
    told c.eq.result c.args.vector.now directions front c.directions.ensures.value (c.eq.ensures ∙ directions_are directions front)
