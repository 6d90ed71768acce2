-- A run goes through the images of a history, and counts its records. Assumes nothing.
use Prim.Native.Nat.{ℕ, suc}
use mathlib.Core.Path.{◌≡◌, refl, sym, ap, ◌∙◌}
use mathlib.Core.Bool.{Bool, false, cond}
use mathlib.Core.List.{List, [], ◌∷◌, ◌++◌}
use native.Mathlib.Omega.{arith}
use lib.ListN.{length, length-append}
use borrow.Author.Tests.{eq-eqb}
use Rattle.policy.specs.Lists.{flat}
use Rattle.policy.specs.Layout.{small, size}
use Rattle.policy.specs.Tables.{empty_image}
use Rattle.policy.specs.Judge.{Out, refusal, judge, write_empty}
use Rattle.policy.specs.Settled.{Gives}
use Rattle.policy.specs.History.{image_after}
use Rattle.lines.specs.Frames.{Session, session}
use Rattle.lines.specs.Reached.{IsFrame, EachFrame, Reached}
use Rattle.lines.proofs.Frames.{session_ends, session_holds}

-- the bytes of frames, one after another, are cut into them again
pub frames_split : (rs : List (List ℕ)) → EachFrame rs → session (flat (λ r. r) rs) ≡ record { records = rs; bad = false }
frames_split [] f = session_ends [] refl
frames_split (r ∷ rs) (f, g) =
    session_holds (r ++ flat (λ r. r) rs) r (flat (λ r. r) rs) (f (flat (λ r. r) rs))
    ∙ ap (λ (q : Session). record { records = r ∷ q.records; bad = q.bad }) (frames_split rs g)

one_more : (rs : List (List ℕ)) (r : List ℕ) → EachFrame rs → IsFrame r → EachFrame (rs ++ (r ∷ []))
one_more [] r f g = (g, tt)
one_more (x ∷ rs) r (e, f) g = (e, one_more rs r f g)

image_more : (rs : List (List ℕ)) (r image : List ℕ) → (judge small (image_after small image rs) r).bytes ≡ image_after small image (rs ++ (r ∷ []))
unfolding image_after
image_more [] r image = refl
image_more (x ∷ rs) r image = image_more rs r (judge small image x).bytes

-- a frame is judged
pub onward : {n : ℕ} {image : List ℕ} (r : List ℕ) → IsFrame r → Reached n image → Reached (suc n) (judge small image r).bytes
onward r f h =
    record {
      records = h.records ++ (r ∷ []);
      frames = one_more h.records r h.frames f;
      counted = omega (arith, h.counted, length-append h.records (r ∷ []));
      image_is = ap (λ (z : List ℕ). (judge small z r).bytes) h.image_is ∙ image_more h.records r (empty_image small);
    }

-- the empty image is written
pub starts : (b : List ℕ) {left : List ℕ} {number second : ℕ} → length b ≡ size small → Gives (write_empty small b) number second left → Reached 1 left
unfolding image_after write_empty
starts b e g =
    record {
      records = [];
      frames = tt;
      counted = refl;
      image_is = sym g.bytes_are
          ∙ ap (λ (t : Bool). (cond {A = Out} t (record { answered = 0; second = 0; bytes = empty_image small }) (refusal 1 255 b)).bytes) (eq-eqb (length b) (size small) e);
    }
