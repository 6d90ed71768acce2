-- `changes::lists::settle_row` meets its contract: the caller and the service of a grant that is due are on the card.
use borrow.Author.Rules.{rules}
use Rattle.policy.specs.Lookup.{grant_at}
use Rattle.policy.proofs.Sets.{true_T}
use Rattle.geometry.specs.Geometry.{layout_of, tables_of}
use Rattle.image.specs.Read.{waiting_row}
use Rattle.changes.proofs.RowsToBits.{caller_there, service_there}
use Rattle.changes.proofs.lists.settle_row.Goals as goal

pub unwrap-i-requires : goal.unwrap-i-requires
unwrap-i-requires c =
    let a = c.args in
    let t = tables_of a.c a.img.now in
    let w = waiting_row t a.r in
    caller_there (layout_of a.c) t w.callee (grant_at w) (c.requires.there (true_T (search rules))) c.find_holder.ensures.is

pub unwrap-k-requires : goal.unwrap-k-requires
unwrap-k-requires c =
    let a = c.args in
    let t = tables_of a.c a.img.now in
    let w = waiting_row t a.r in
    service_there (layout_of a.c) t w.callee (grant_at w) (c.requires.there (true_T (search rules))) c.granted_service.ensures.is
