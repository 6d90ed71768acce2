-- What code has found of a record of kinds 5 to 8. Assumes nothing.
use Prim.Native.Nat.{ℕ}
use mathlib.Core.Path.{◌≡◌, sym, ap, ap₂, ◌∙◌}
use mathlib.Core.Bool.{◌&&◌}
use mathlib.Core.Option.{Option}
use lib.Dec.{eqb}
use lib.Bits.{bit_and}
use Rattle.std.specs.Prelude.{Result, Err}
use Rattle.std.specs.Prelude.{Option as Answer, Some}
use Rattle.policy.specs.Lists.{or_else}
use Rattle.policy.specs.Contract.{Aid, eq_aid, eq_tok, Row}
use Rattle.policy.specs.Layout.{Layout}
use Rattle.policy.specs.Tables.{Tables}
use Rattle.policy.specs.Lookup.{Place as Served, number_of, server_of}
use Rattle.geometry.specs.declared.Kept.{Kept}
use Rattle.image.specs.Read.{found, items_of, item_aid, item_tok, item_number, mask_of}
use Rattle.image.proofs.LaidImage.{found_some}
use Rattle.image.proofs.Masks.{mask_and}
use Rattle.answers.specs.declared.Refusal.{Refusal}
use Rattle.answers.specs.declared.Refusal.TheVariants.{NotInstalled}
use Rattle.links.specs.Plans.{row_mask, owned, call_plan}
use Rattle.links.specs.declared.plan.Edit.{Edit}

-- two masks of a list
pub row_marked : (l : Kept) (t : Tables) (n : ℕ) (r : Row) (m k : ℕ) → m ≡ mask_of (λ x. eq_aid (item_aid l x) r.aid && eq_tok (item_tok l x) r.tok) (items_of l t)
    → k ≡ mask_of (λ x. eqb (item_number l x) n) (items_of l t) → bit_and m k ≡ row_mask l t n r
row_marked l t n r m k p q = ap₂ bit_and p q ∙ mask_and (λ x. eq_aid (item_aid l x) r.aid && eq_tok (item_tok l x) r.tok) (λ x. eqb (item_number l x) n) (items_of l t)

-- a call of package i that is refused
pub call_refused : (L : Layout) (t : Tables) (f : ℕ → Option Served → Result Edit Refusal) (a : Aid) (r : Row) {i : ℕ} {o : Answer ℕ} → o ≡ found (number_of L t a) → o ≡ Some i
    → {x : Result Edit Refusal} → x ≡ f i (server_of L t r) → {e : Refusal} → x ≡ Err e → Err e ≡ call_plan L t f a r
call_refused L t f a r {i} {o} e h p q =
    ap (owned i) (sym q ∙ p) ∙ ap (λ (o : Option ℕ). or_else o (Err NotInstalled) (λ i. owned i (f i (server_of L t r)))) (sym (found_some (number_of L t a) o e h))
