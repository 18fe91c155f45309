use Rattle.std.proofs.Common.{map}
use Rattle.ped_edges.specs.CodeSigns.{signs_of, front_of}
use Rattle.ped_edges.proofs.WholeProducts.{begins, begins_not}
use Rattle.ped_edges.proofs.products.are_product.Goals as goal

pub returns-in-Some : goal.returns-in-Some
returns-in-Some c = begins (front_of c.empty.result) (map signs_of c.args.places.now) c.args.vectors.now c.in-Some.rest.now c.is_empty.result c.empty.ensures.value c.in-Some.ensures c.is_empty.ensures

pub returns-in-None : goal.returns-in-None
returns-in-None c = begins_not (front_of c.empty.result) (map signs_of c.args.places.now) c.args.vectors.now c.empty.ensures.value c.in-None.ensures
