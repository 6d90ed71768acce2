-- `image::write::put_tok` meets its contract. Assumes nothing.
use native.Mathlib.Omega.{arith}
use lib.ListN.{length-set}
use Rattle.geometry.specs.Geometry.{tok_of}
use Rattle.geometry.proofs.Bounds.{tok_len}
use Rattle.image.proofs.Writes.{laid_len, tok_wrote}
use Rattle.image.proofs.write.put_tok.Goals as goal

pub bounds-img-at : goal.bounds-img-at
bounds-img-at c = omega (arith, (tok_len c.args.c c.args.j c.args.k _ _ (laid_len c.args.c c.requires.laid) c.tok_at-at.ensures c.requires.inside.0 c.requires.inside.1))

pub bounds-img-at-2 : goal.bounds-img-at-2
bounds-img-at-2 c = simp length-set (omega (arith, (tok_len c.args.c c.args.j c.args.k _ _ (laid_len c.args.c c.requires.laid) c.tok_at-at.ensures c.requires.inside.0 c.requires.inside.1)))

pub returns : goal.returns
returns c = tok_wrote c.args.c c.requires.laid c.args.j c.args.k c.tok_at-at.result (tok_of c.args.t) c.requires.inside.0 c.requires.inside.1 c.tok_at-at.ensures
