-- `services::adding::is_among` meets its contract. Assumes nothing.
use Rattle.std.proofs.Common.{rules, ◌≡◌, ◌&&◌}
use Rattle.policy.specs.Contract.{eq_aid}
use Rattle.image.specs.Image.{tables}
use Rattle.record.specs.Listed.{bytes_of}
use Rattle.record.proofs.Found.{any_is}
use Rattle.services.proofs.Added.Found.{used_same}
use Rattle.services.proofs.adding.is_among.Goals as goal

pub returns : goal.returns
returns c =
    let t = tables c.args.img in
    any_is (eq_aid (t.aid c.args.n)) c.any.new.self c.any.ensures.ran
    (λ x b q k. let h : b ≡ t.used c.args.n && eq_aid (t.aid c.args.n) (bytes_of x) = search (rules, k) in (search (rules, k), used_same _ _ _ c.requires.1 h))
