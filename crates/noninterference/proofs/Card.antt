-- An image and the contracts that it stands for.
use Prim.Native.Nat.{ℕ}
use mathlib.Core.Path.{◌≡◌}
use mathlib.Core.List.{List, []}
use mathlib.Core.List.{Memᴰ as In}
use lib.Dec.{T}
use lib.ListN.{length}
use Rattle.policy.specs.Contract.{Contract, unmet_calls, waiting_grants}
use Rattle.policy.specs.Layout.{Layout}
use Rattle.policy.specs.Tables.{Tables, decode}
use Rattle.policy.specs.Lookup.{contract_at}
use Rattle.policy.specs.History.{SameContract, StandsFor}
use Rattle.policy.specs.Claims.{CallsGranted, NeedsPresent}
use Rattle.policy.proofs.Formed.{Formed, Stands}
use Rattle.policy.proofs.Facts.{contract_of_lem}
use Rattle.policy.proofs.ContractAt.{same_contract_lem}
use Rattle.policy.proofs.LawfulCard.{calls_granted_lem, needs_present}
use Rattle.policy.proofs.SoundFacts.{sound_formed, sound_lawful}
use Rattle.policy.proofs.Verdict.{unmet_count, waiting_count}
use Rattle.policy.proofs.Step.{stands_of}
use Rattle.noninterference.proofs.Agree.{Sets}

module _ (L : Layout) (img : List ℕ) (cs : List Contract) (f : StandsFor L img cs) where
  abbrev t : Tables
  t = decode L img

  pub formed : Formed L t
  formed = sound_formed L img f.is_sound

  pub stands : Stands t [] cs
  stands = stands_of L img cs f

  pub sets : Sets cs
  sets = record { one_each = f.one_each; four_sets = f.four_sets }

  pub granted : CallsGranted cs
  granted = calls_granted_lem L t cs formed (sound_lawful L img f.is_sound) stands

  pub needed : NeedsPresent cs
  needed = needs_present L t cs formed (sound_lawful L img f.is_sound) stands

  pub unmet_is : length t.unmet ≡ length (unmet_calls cs)
  unmet_is = unmet_count L t [] cs formed stands

  pub waiting_is : length t.waiting ≡ length (waiting_grants cs)
  waiting_is = waiting_count L t [] cs formed stands

  -- the contract of a used number
  pub contract_at_lem : (n : ℕ) → T (t.used n) → (c : Contract) × In c cs × SameContract c (contract_at L t n)
  contract_at_lem n u = let (c, mc, h) = contract_of_lem L t formed.names stands n u in (c, mc, same_contract_lem L t formed n c h)
