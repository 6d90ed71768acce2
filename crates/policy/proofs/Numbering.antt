-- The theorems of specs/Numbering.antt.
use Prim.Native.Nat.{◌≤◌}
use native.Mathlib.Omega.{arith}
use mathlib.Core.Path.{◌≡◌, refl, sym, ap, ◌∙◌, subst}
use mathlib.Core.Bool.{Bool, cond}
use mathlib.Core.List.{[]}
use mathlib.Core.Option.{some}
use lib.Dec.{T, ltb}
use lib.ListN.{length, take, drop, length-append}
use lib.Seq.{take_at}
use Rattle.policy.specs.Layout.{Layout, LayoutOk}
use Rattle.policy.specs.Record.{parse}
use Rattle.policy.specs.Tables.{decode}
use Rattle.policy.specs.Lookup.{used_numbers, contract_at}
use Rattle.policy.specs.Sound.{sound}
use Rattle.policy.specs.Judge.{Out, refusal, check, load_record}
use Rattle.policy.specs.Records.{request_of}
use Rattle.policy.specs.Numbering.{SecondNumber, CheckCounts, ReadLength}
use Rattle.policy.proofs.Sets.{T_true, and_r}
use Rattle.policy.proofs.SoundFacts.{sound_formed, sound_ruled, sound_fitting}
use Rattle.policy.proofs.ReadOut.{read_out_parses}
use Rattle.policy.proofs.Tests.{count}
use Rattle.policy.proofs.Step.{stands_of}
use Rattle.policy.proofs.Entries.{read_by}
use Rattle.policy.proofs.Placing.{acceptance}

-- ---- judging
pub second_number : (L : Layout) → LayoutOk L → SecondNumber L
second_number L lo img s q ok e z = (acceptance L lo img s q ok e z).0

-- ---- checking an image
pub check_counts : (L : Layout) → CheckCounts L
unfolding check
check_counts L img cs f =
    subst (λ (b : Bool). let o = cond b (record { answered = 0; second = length (used_numbers L (decode L img)); bytes = img }) (refusal 1 255 img) in (o.answered ≡ 0) × (o.second ≡ length cs))
    (sym (T_true (sound L img) f.is_sound)) (refl, sym (count L (decode L img) [] cs (sound_formed L img f.is_sound).names (stands_of L img cs f)))

-- ---- reading out
pub read_length : (L : Layout) → LayoutOk L → ReadLength L
read_length L lo img n out =
    let r = load_record L (contract_at L (decode L img) n) in
    read_by L img n out
    (λ (o : Out). o.answered ≡ 0 → T (sound L img) × T ((decode L img).used n) × (o.second ≤ length o.bytes) × (parse L (take o.second o.bytes) ≡ some (request_of (contract_at L (decode L img) n))))
    (λ ok un h e.
    let used = and_r (ltb n L.packages) ((decode L img).used n) un in (
      ok,
      used,
      omega (arith, length-append r (drop (length r) out)),
      ap (parse L) (take_at r (drop (length r) out) (length r) refl) ∙ read_out_parses L lo (decode L img) (sound_formed L img ok) (sound_ruled L img ok) (sound_fitting L img ok) n used,
    ))
    (λ k m e. absurd (omega arith))
