-- The packages of the rows of a sound image: callers of unmet calls and givers of waiting grants are on the card. Assumes nothing.
use Prim.Native.Nat.{ℕ, ◌<◌}
use mathlib.Core.Path.{◌≡◌, refl, sym, subst}
use mathlib.Core.List.{List}
use lib.Dec.{T}
use lib.ListN.{length}
use Rattle.policy.specs.Layout.{Layout}
use Rattle.policy.specs.Tables.{decode}
use Rattle.policy.proofs.Sets.{in_row}
use Rattle.policy.specs.Sound.{sound}
use Rattle.policy.proofs.SoundFacts.{sound_formed}
use Rattle.image.specs.Read.{unmet_row}
use Rattle.changes.specs.Joins.{CallersIn, GivenIn}

-- ---- the callers of the unmet calls of a sound image are used packages, and so are those that give the waiting grants
pub callers_in : (L : Layout) (img : List ℕ) → T (sound L img) → CallersIn L (decode L img).unmet
callers_in L img ok u m = let f = sound_formed L img ok in f.names.used_lt u.caller (f.unmet.off.off_used u m)

pub caller_used : (L : Layout) (img : List ℕ) → T (sound L img) → (r n : ℕ) → r < length (decode L img).unmet → n ≡ (unmet_row (decode L img) r).caller
    → (n < L.packages) × T ((decode L img).used n)
caller_used L img ok r n h e =
    let t = decode L img in
    let f = sound_formed L img ok in
    let u : T (t.used n) = subst (λ (z : ℕ). T (t.used z)) (sym e) (f.unmet.off.off_used (unmet_row t r) (in_row t.unmet r _ h)) in
    (f.names.used_lt n u, u)

pub given_in : (L : Layout) (img : List ℕ) → T (sound L img) → GivenIn L (decode L img).waiting
given_in L img ok w m = let f = sound_formed L img ok in f.names.used_lt w.callee (f.waiting.wait_used w m)

-- ---- the caller of an unmet call of a sound image
pub caller_in : (L : Layout) (img : List ℕ) (r : ℕ) → T (sound L img) → r < length (decode L img).unmet → (unmet_row (decode L img) r).caller < L.packages
caller_in L img r ok h = (caller_used L img ok r (unmet_row (decode L img) r).caller h refl).0
