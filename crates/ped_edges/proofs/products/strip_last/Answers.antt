use Rattle.std.proofs.Common.{[], ◌∷◌, refl}
use Rattle.ped_edges.specs.CodeSigns.{signs_of, front_of, begun_with}
use Rattle.ped_edges.proofs.Stripping.{none_stripped, first_missing, second_missing, third_stripped}
use Rattle.ped_edges.proofs.products.strip_last.Goals as goal

pub returns-in_err-rest : goal.returns-in_err-rest
returns-in_err-rest c =
    let front = front_of c.args.front in
    none_stripped (begun_with front (signs_of c.args.signs ∷ [])) c.args.vectors.now c.from_residual.result c.from_residual.ensures
    (first_missing front (front_of c.with.result) c.args.signs [] (c.args.signs ∷ []) c.args.vectors.now
    refl c.with.ensures.value c.in_err-rest.ensures)

pub returns-in_err-rest-2 : goal.returns-in_err-rest-2
returns-in_err-rest-2 c =
    let front = front_of c.args.front in
    none_stripped (begun_with front (signs_of c.args.signs ∷ [])) c.args.vectors.now c.from_residual-in_err-rest-2.result c.from_residual-in_err-rest-2.ensures
    (second_missing front (front_of c.with.result) (front_of c.with-2.result) c.args.signs [] (c.args.signs ∷ [])
    c.args.vectors.now c.in_ok-rest.rest.now
    refl c.with.ensures.value c.with-2.ensures.value c.in_ok-rest.ensures c.in_err-rest-2.ensures)

pub returns : goal.returns
returns c =
    third_stripped (front_of c.args.front) (front_of c.with.result) (front_of c.with-2.result) (front_of c.with-3.result)
    c.args.signs [] (c.args.signs ∷ []) c.args.vectors.now c.in_ok-rest.rest.now c.in_ok-rest-2.rest.now c.strip_one-3.result
    refl c.with.ensures.value c.with-2.ensures.value c.with-3.ensures.value
    c.in_ok-rest.ensures c.in_ok-rest-2.ensures c.strip_one-3.ensures
