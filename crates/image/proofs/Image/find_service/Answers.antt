-- `image::Image::find_service` meets its contract.
use Rattle.policy.specs.Lookup.{service_of}
use Rattle.geometry.specs.Geometry.{tok_of}
use Rattle.image.specs.Image.{lay, tables}
use Rattle.image.proofs.Finds.{found_below}
use Rattle.image.proofs.Numbers.{service_below}
use Rattle.image.proofs.Seen.{seen}
use Rattle.image.proofs.Image.find_service.Goals as goal

pub find_tokens-requires : goal.find_tokens-requires
find_tokens-requires c = search seen

pub returns-clause-is : goal.returns-clause-is
returns-clause-is c = search seen

pub returns-clause-low : goal.returns-clause-low
returns-clause-low c = found_below (lay c.args.self).services (service_of (lay c.args.self) (tables c.args.self) c.args.j (tok_of c.args.t)) (service_below (lay c.args.self) (tables c.args.self) c.args.j (tok_of c.args.t)) (returns-clause-is c)
