-- `image::Image::find_package` meets its contract.
use Rattle.policy.specs.Lookup.{number_of}
use Rattle.image.specs.Image.{lay, tables}
use Rattle.image.proofs.Finds.{found_below}
use Rattle.image.proofs.LaidImage.{is_laid}
use Rattle.image.proofs.Numbers.{package_below}
use Rattle.image.proofs.Seen.{aids_in, seen}
use Rattle.image.proofs.Image.find_package.Goals as goal

pub find_aid-requires : goal.find_aid-requires
find_aid-requires c =
    let i = c.args.self in
    aids_in i.card i.bytes.now (is_laid i) c.packages-n.result c.aid_at-at.result c.packages-n.ensures c.aid_at-at.ensures

pub returns-clause-is : goal.returns-clause-is
returns-clause-is c = search seen

pub returns-clause-low : goal.returns-clause-low
returns-clause-low c = found_below (lay c.args.self).packages (number_of (lay c.args.self) (tables c.args.self) c.args.aid.now) (package_below (lay c.args.self) (tables c.args.self) c.args.aid.now) (returns-clause-is c)
