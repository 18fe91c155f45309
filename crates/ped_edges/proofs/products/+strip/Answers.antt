use Rattle.std.proofs.Common.{map}
use Rattle.ped_edges.specs.CodeSigns.{signs_of, front_of, begun_with}
use Rattle.ped_edges.proofs.Stripping.{none_stripped, only_place, first_missing, second_missing, third_stripped}
use Rattle.ped_edges.proofs.products.+strip.Goals as goal

pub strip_product-returns-in_err-rest : goal.strip_product-returns-in_err-rest
strip_product-returns-in_err-rest t c =
    let front = front_of c.args.front in
    none_stripped (begun_with front (map signs_of c.args.places.now)) c.args.vectors.now c.from_residual.result c.from_residual.ensures
    (first_missing front (front_of c.with.result) c.in-Some.first.now c.in-Some.further.now c.args.places.now c.args.vectors.now
    c.in-Some.ensures.cases.0 c.with.ensures.value c.in_err-rest.ensures)

pub strip_product-returns-in_err-rest-2 : goal.strip_product-returns-in_err-rest-2
strip_product-returns-in_err-rest-2 t c =
    let front = front_of c.args.front in
    none_stripped (begun_with front (map signs_of c.args.places.now)) c.args.vectors.now c.from_residual-in_err-rest-2.result c.from_residual-in_err-rest-2.ensures
    (second_missing front (front_of c.with.result) (front_of c.with-2.result) c.in-Some.first.now c.in-Some.further.now c.args.places.now
    c.args.vectors.now c.in_ok-rest.rest.now
    c.in-Some.ensures.cases.0 c.with.ensures.value c.with-2.ensures.value c.in_ok-rest.ensures c.in_err-rest-2.ensures)

pub strip_product-returns-then-is_empty : goal.strip_product-returns-then-is_empty
strip_product-returns-then-is_empty t c =
    only_place (front_of c.args.front) c.in-Some.first.now c.in-Some.further.now c.args.places.now c.args.vectors.now c.strip_last.result c.is_empty.result
    c.in-Some.ensures.cases.0 c.is_empty.ensures c.if-is_empty.true c.strip_last.ensures

pub strip_product-returns : goal.strip_product-returns
strip_product-returns t c =
    third_stripped (front_of c.args.front) (front_of c.with.result) (front_of c.with-2.result) (front_of c.with-3.result)
    c.in-Some.first.now c.in-Some.further.now c.args.places.now c.args.vectors.now c.in_ok-rest.rest.now c.in_ok-rest-2.rest.now c.strip_where-3.result
    c.in-Some.ensures.cases.0 c.with.ensures.value c.with-2.ensures.value c.with-3.ensures.value
    c.in_ok-rest.ensures c.in_ok-rest-2.ensures c.strip_where-3.ensures
